-- What an operation answers and leaves (document 01, "Answer numbers"): its refusals in order, and what it comes to where none holds.
use Rattle.std.specs.Prelude.{Bool, List, [], ◌∷◌, Result, Ok, Err, ⊤}
use Rattle.octets.specs.Tests.{pick}
use Rattle.answers.specs.declared.Answer.{Answer}
use Rattle.answers.specs.declared.Answer.TheVariants.{Done}
use Rattle.answers.specs.Numbers.{is_done}

-- a test, and the answer where it holds, in the order in which they count
abbrev pub Refusals : Type 0
Refusals = List (Bool × Answer)

module _ {S : Type 0} where
  -- the first refusal whose test holds, with all as it was before; where none holds, the last answer with what it leaves
  abbrev pub settled : S → Refusals → Answer × S → Answer × S
  settled before [] last = last
  settled before (r ∷ rs) last = pick r.0 (r.1, before) (settled before rs last)

  -- the outcome of an operation that is done where nothing refuses it
  abbrev pub outcome : S → Refusals → S → Answer × S
  outcome before rs after = settled before rs (Done, after)

-- the answer alone
abbrev pub answered : Refusals → Answer → Answer
answered rs last = (settled {S = Unit {0}} tt rs (last, tt)).0

-- ---- an outcome as a Result

module _ {S : Type 0} where
  -- what a Result says of it: what it comes to where it is done, or the refusal alone
  abbrev pub result_of : Answer × S → Result S Answer
  result_of o = pick (is_done o.0) (Ok o.1) (Err o.0)

  -- and of an operation on what is lent: done or the refusal, and what is left in it
  abbrev pub done_of : Answer × S → Result ⊤ Answer × S
  done_of o = (pick (is_done o.0) (Ok tt) (Err o.0), o.1)

  -- the answer that it stands for
  abbrev pub answer_in : Result S Answer → Answer
  answer_in (Ok x) = Done
  answer_in (Err a) = a

-- of an operation that leaves a value, and something in what is lent
module _ {S L : Type 0} where
  abbrev pub lent_of : Answer × (S × L) → Result S Answer × L
  lent_of o = (result_of (o.0, o.1.0), o.1.1)
