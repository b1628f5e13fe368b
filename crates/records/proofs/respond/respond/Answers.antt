-- `records::respond::respond` meets its contract.
use mathlib.Core.Path.{sym}
use native.Mathlib.Omega.{arith}
use lib.Seq.{length-take-le}
use Rattle.records.proofs.AnsweredLaws.{responded}
use borrow.Author.Rules.{rules}
use Rattle.records.proofs.respond.respond.Goals as goal

pub slice_bounds-put_answer-end : goal.slice_bounds-put_answer-end
slice_bounds-put_answer-end c = sym (length-take-le _ c.step-done.new.octets (omega (arith, c.step-done.ensures.cached.0)))

pub put_answer-length-requires : goal.put_answer-length-requires
put_answer-length-requires c =
    (search rules, rw (length-take-le c.step-done.result.shown c.step-done.new.octets (omega (arith, c.step-done.ensures.cached.0))) c.step-done.ensures.cached.0)

pub returns : goal.returns
returns c =
    record { responded = responded _ _ _ c.read-parsed.ensures.line c.step-done.ensures.effect c.put_answer-length.ensures; cached = c.step-done.ensures.cached.1; same_octets = c.step-done.ensures.same_octets; as_long = c.step-done.ensures.as_long }
