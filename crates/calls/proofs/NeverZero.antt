-- A DES or AES sender's next vector is never all zero. (Why W-208 could retire 14.)
use mathlib.Core.Path.{◌≡◌}
use mathlib.Core.Bool.{false}
use mathlib.Core.List.{List}
use Prim.Native.Nat.{ℕ}
use Rattle.octets.specs.Lists.{all_zero}
use Rattle.generator.proofs.NotZero.{next-not-zero}
use Rattle.answers.specs.Numbers.{number_of}
use Rattle.calls.specs.declared.call.Call.{Call}
use Rattle.calls.specs.Vector.{next_vector_of}
use Rattle.calls.proofs.GoodLaws.{sender_some, VectorSent}
use Rattle.calls.proofs.Exactly.{next_given, next_exactly}

-- where it is done, what it writes is not all zero
pub next_some : (c : Call) → VectorSent c → (out : List ℕ) → number_of (next_vector_of c out).0 ≡ 0 → all_zero (next_vector_of c out).1 ≡ false
next_some c sent out z =
    let g = (next_exactly c out).0 z in
    rw (next_given c out g) (next-not-zero c.vector (sent g.sends g.vectored) (sender_some c g.good g.sends g.vectored))
