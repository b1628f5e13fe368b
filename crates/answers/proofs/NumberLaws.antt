-- No two answers share a number, and none has the number that is retired.
use mathlib.Core.Path.{◌≡◌, refl, sym, ap, ◌∙◌}
use mathlib.Core.List.{[], ◌∷◌}
use Prim.Native.Nat.{ℕ}
use native.Mathlib.Omega.{arith}
use lib.ListN.{get_or}
use Rattle.answers.specs.declared.Answer.{Answer}
use Rattle.answers.specs.declared.Answer.TheVariants.{Done, Held, WrongLength, OutOfRange, Bad, NoEntry, NotReady, NotAllowed, ZeroVector, NotNow, BadMask, Already, Full, TooMany, Malformed, PastLimit, BadName}
use Rattle.answers.specs.Numbers.{number_of}

-- the answer with a number; where none has it, Done
abbrev pub answer_of : ℕ → Answer
answer_of n =
    get_or (Done ∷ Held ∷ WrongLength ∷ OutOfRange ∷ Bad ∷ NoEntry ∷ NotReady ∷ NotAllowed ∷ ZeroVector ∷ NotNow
    ∷ BadMask ∷ Already ∷ Full ∷ TooMany ∷ Done ∷ Malformed ∷ PastLimit ∷ BadName ∷ []) n Done

answer_number : (a : Answer) → answer_of (number_of a) ≡ a
answer_number Done = refl
answer_number Held = refl
answer_number WrongLength = refl
answer_number OutOfRange = refl
answer_number Bad = refl
answer_number NoEntry = refl
answer_number NotReady = refl
answer_number NotAllowed = refl
answer_number ZeroVector = refl
answer_number NotNow = refl
answer_number BadMask = refl
answer_number Already = refl
answer_number Full = refl
answer_number TooMany = refl
answer_number Malformed = refl
answer_number PastLimit = refl
answer_number BadName = refl

-- no two answers share a number
pub one_number : (a b : Answer) → number_of a ≡ number_of b → a ≡ b
one_number a b e = sym (answer_number a) ∙ ap answer_of e ∙ answer_number b

-- 14 is retired (W-208)
pub retired : (a : Answer) → number_of a ≡ 14 → ⊥
retired a e = let z : 0 ≡ number_of a = ap number_of (sym (ap answer_of e) ∙ answer_number a) in omega arith
