-- `book::good_book` meets its contract.
use mathlib.Core.Path.{◌≡◌}
use mathlib.Core.Bool.{true}
use Rattle.octets.specs.Tests.{all_below}
use Rattle.keybook.proofs.BookLaws.{right_at}
use Rattle.keybook.proofs.book.good_book.Given as goal

abbrev pub invariant-loop-k : goal.invariant-loop-k
invariant-loop-k l = all_below (right_at l.whole) l.k ≡ true
