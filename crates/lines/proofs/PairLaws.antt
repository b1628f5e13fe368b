-- Two fields read as a cipher and a key ID.
use mathlib.Core.Path.{◌≡◌, ap, ◌∙◌}
use mathlib.Core.List.{List, []}
use Prim.Native.Nat.{ℕ}
use lib.ListN.{drop}
use lib.Seq.{get_or-drop, drop-drop}
use Rattle.std.specs.Prelude.{Some, None}
use Rattle.octets.proofs.TestLaws.{and_false_r}
use Rattle.text.specs.Decimal.{number_in}
use Rattle.text.specs.Fields.{field_at}
use Rattle.text.proofs.DecimalLaws.{number_of, number-not}
use Rattle.lines.specs.Record.{most_number, is_pair}
use Rattle.lines.specs.Pairs.{IsPair}

module _ (fields : List (List ℕ)) where
  pub pair_not-first : number_in most_number (field_at fields 0) ≡ None → (others : List (List ℕ)) → IsPair fields None others
  unfolding is_pair IsPair
  pair_not-first e others = rw (number-not most_number (field_at fields 0) e)

  -- where the first number was read
  module _ (after : List (List ℕ)) (rest : after ≡ drop 1 fields) where
    second : field_at after 0 ≡ field_at fields 1
    unfolding field_at
    second = rw rest (get_or-drop 1 fields 0 [])

    pub pair_not-second : number_in most_number (field_at after 0) ≡ None → (others : List (List ℕ)) → IsPair fields None others
    unfolding is_pair IsPair
    pair_not-second e others = rw (number-not most_number (field_at fields 1) (rw second at e), and_false_r)

    pub pair_of : (c i : ℕ) (others : List (List ℕ)) → number_in most_number (field_at fields 0) ≡ Some c → number_in most_number (field_at after 0) ≡ Some i
        → others ≡ drop 1 after → IsPair fields (Some (record { cipher = c; id = i })) others
    unfolding is_pair IsPair
    pair_of c i others e f g =
        let a = number_of most_number (field_at fields 0) c e in
        let b = number_of most_number (field_at fields 1) i (rw second at f) in
        (rw (a.0, b.0), a.1, b.1, g ∙ ap (drop 1) rest ∙ drop-drop 1 1 fields)
