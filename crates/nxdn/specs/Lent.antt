-- An operation on what lent octets hold: what it answers, as a number, and every lent element afterwards.
use Rattle.std.specs.Prelude.{Bool, ◌&&◌, List, ℕ, eqb, ltb, length, Result, Ok, Err}
use Rattle.octets.specs.Tests.{pick}
use Rattle.answers.specs.declared.Answer.{Answer}
use Rattle.answers.specs.declared.Answer.TheVariants.{WrongLength}
use Rattle.answers.specs.Numbers.{number_of, is_done}

-- 0 and 1 write what the operation leaves; any other answer leaves the octets as they were
unfoldable pub lent_after : {S : Type 0} → (S → List ℕ) → List ℕ → Answer → S → List ℕ
lent_after write x a s = pick (ltb 1 (number_of a)) x (write s)

abbrev pub answered : {S : Type 0} → (S → List ℕ) → List ℕ → Answer → S → ℕ × List ℕ
answered write x a s = (number_of a, lent_after write x a s)

-- the same of a Result
abbrev pub left_by : {S : Type 0} → (S → List ℕ) → List ℕ → Result S Answer → ℕ × List ℕ
left_by write x (Ok s) = (0, write s)
left_by write x (Err a) = (number_of a, x)

-- 0 writes what it hands out, or has turned; any other answer leaves what was lent for it as it was
unfoldable pub out_after : List ℕ → Answer → List ℕ → List ℕ
out_after lent a out = pick (is_done a) out lent

-- of an operation that only looks; what was lent for what it hands out has the right length, or it is 2
unfoldable pub handed_into : Bool → List ℕ → Answer × List ℕ → ℕ × List ℕ
handed_into fits lent r = pick fits (number_of r.0, out_after lent r.0 r.1) (number_of WrongLength, lent)

-- on octets of so many, by how they are read and how they are written: octets of another length are 2, before all else
module _ {S : Type 0} (size : ℕ) (read : List ℕ → S) (write : S → List ℕ) where
  unfoldable pub on_lent : Bool → (S → Answer × (S × List ℕ)) → List ℕ → List ℕ → ℕ × (List ℕ × List ℕ)
  on_lent fits f x lent =
      let r = f (read x) in
      pick (eqb (length x) size && fits)
      (number_of r.0, (lent_after write x r.0 r.1.0, out_after lent r.0 r.1.1))
      (number_of WrongLength, (x, lent))
