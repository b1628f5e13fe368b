-- What a Result says of an operation that leaves a value, and something in what is lent, as the code meets it.
use mathlib.Core.Path.{◌≡◌, sym, ap, ◌∙◌}
use mathlib.Core.Bool.{Bool, false}
use Rattle.std.specs.Prelude.{Ok, Err}
use Rattle.octets.specs.Tests.{pick}
use Rattle.answers.specs.declared.Answer.{Answer}
use Rattle.answers.specs.declared.Answer.TheVariants.{Done}
use Rattle.answers.specs.Numbers.{is_done}
use Rattle.answers.specs.Outcomes.{lent_of}

module _ {S L : Type 0} {o : Answer × (S × L)} {x : S} {l : L} where
  pub refused_lent : {a : Answer} → is_done a ≡ false → (a, (x, l)) ≡ o → (Err a, l) ≡ lent_of o
  refused_lent {a} n e = ap (λ (t : Bool). (pick t (Ok x) (Err a), l)) (sym n) ∙ ap (λ (p : Answer × (S × L)). lent_of p) e

  pub returned_lent : (Done, (x, l)) ≡ o → (Ok x, l) ≡ lent_of o
  returned_lent e = ap (λ (p : Answer × (S × L)). lent_of p) e
