-- What is opened by a key that the ladder handed out: a call, or a packet.
use mathlib.Core.Path.{◌≡◌, sym, ap, ◌∙◌}
use mathlib.Core.Bool.{Bool, true, false}
use mathlib.Core.List.{List}
use Prim.Native.Nat.{ℕ}
use lib.ListN.{length}
use Rattle.answers.specs.declared.Answer.{Answer}
use Rattle.answers.specs.declared.Answer.TheVariants.{Done}
use Rattle.answers.specs.Numbers.{is_done}
use Rattle.answers.specs.Outcomes.{Refusals, settled, outcome}
use Rattle.answers.proofs.OutcomeLaws.{never_done, none_settles, asked_refused}
use Rattle.keybook.specs.Operations.{no_key}
use Rattle.sizes.specs.Ciphers.{vector_octets}
use Rattle.openings.specs.Ladder.{key_for, key_refusals, opening_key_of, vector_refusals, vector_key_of}
use Rattle.openings.proofs.LadderLaws.{given_none, given_is, key-never, vector-never, vector_sized}

-- two words on what is to be opened that refuse alike: bad by both, or the same
pub data Alike (bad busy bad' busy' : Bool) : Type 0 where
  both-bad : bad ≡ true → bad' ≡ true → Alike bad busy bad' busy'
  the_same : bad ≡ bad' → busy ≡ busy' → Alike bad busy bad' busy'

module _ {S : Type 0} (before : S) (make : List ℕ → S) where
  module _ (rs : Refusals) (key : List ℕ) (never : never_done rs ≡ true) {o : Answer × List ℕ} (e : o ≡ outcome no_key rs key) where
    began-refused : is_done o.0 ≡ false → (o.0, before) ≡ outcome before rs (make key)
    began-refused d =
        ap (λ (p : Answer × List ℕ). (p.0, before)) e
        ∙ asked_refused rs no_key key before (Done, make key) (sym (ap (λ (p : Answer × List ℕ). is_done p.0) e) ∙ d)

    began-done : is_done o.0 ≡ true → (Done, make o.1) ≡ outcome before rs (make key)
    began-done d =
        ap (λ (p : Answer × List ℕ). (Done, make p.1)) (given_is rs key never e d)
        ∙ sym (none_settles rs before (Done, make key) (given_none rs key never e d))

  module _ (ranged bad busy bad' busy' : Bool) (same : Alike bad busy bad' busy') (c i : ℕ) (b : List ℕ) where
    key-alike : (last : Answer × S) → settled before (key_refusals ranged bad busy c i b) last ≡ settled before (key_refusals ranged bad' busy' c i b) last
    unfolding key_refusals
    key-alike last = go same
      where
        go : Alike bad busy bad' busy' → settled before (key_refusals ranged bad busy c i b) last ≡ settled before (key_refusals ranged bad' busy' c i b) last
        go (both-bad p q) = rw (p, q)
        go (the_same p q) = rw (p, q)

    module _ (a : Answer) (key : List ℕ) (e : (a, key) ≡ opening_key_of ranged bad busy c i b) where
      pub key-begun_refused : is_done a ≡ false → (a, before) ≡ outcome before (key_refusals ranged bad' busy' c i b) (make (key_for b c i))
      unfolding opening_key_of
      key-begun_refused d = began-refused (key_refusals ranged bad busy c i b) (key_for b c i) (key-never ranged bad busy c i b) e d ∙ key-alike (Done, make (key_for b c i))

      pub key-begun : is_done a ≡ true → (Done, make key) ≡ outcome before (key_refusals ranged bad' busy' c i b) (make (key_for b c i))
      unfolding opening_key_of
      key-begun d = began-done (key_refusals ranged bad busy c i b) (key_for b c i) (key-never ranged bad busy c i b) e d ∙ key-alike (Done, make (key_for b c i))

    module _ (w : List ℕ) (sends : Bool) where
      vector-alike : (last : Answer × S) → settled before (vector_refusals sends ranged bad busy c i w b) last ≡ settled before (vector_refusals sends ranged bad' busy' c i w b) last
      unfolding vector_refusals key_refusals
      vector-alike last = go same
        where
          go : Alike bad busy bad' busy' → settled before (vector_refusals sends ranged bad busy c i w b) last ≡ settled before (vector_refusals sends ranged bad' busy' c i w b) last
          go (both-bad p q) = rw (p, q)
          go (the_same p q) = rw (p, q)

      module _ (a : Answer) (key : List ℕ) (e : (a, key) ≡ vector_key_of sends ranged bad busy c i w b) where
        pub vector-begun_refused : is_done a ≡ false → (a, before) ≡ outcome before (vector_refusals sends ranged bad' busy' c i w b) (make (key_for b c i))
        unfolding vector_key_of
        vector-begun_refused d =
            began-refused (vector_refusals sends ranged bad busy c i w b) (key_for b c i) (vector-never ranged bad busy c i b w sends) e d ∙ vector-alike (Done, make (key_for b c i))

        pub vector-begun : is_done a ≡ true → (Done, make key) ≡ outcome before (vector_refusals sends ranged bad' busy' c i w b) (make (key_for b c i))
        unfolding vector_key_of
        vector-begun d =
            began-done (vector_refusals sends ranged bad busy c i w b) (key_for b c i) (vector-never ranged bad busy c i b w sends) e d ∙ vector-alike (Done, make (key_for b c i))

pub begun_sized : (sends ranged bad busy : Bool) (c i : ℕ) (w b : List ℕ) {o : Answer × List ℕ} → o ≡ vector_key_of sends ranged bad busy c i w b → is_done o.0 ≡ true
    → length w ≡ vector_octets
unfolding vector_key_of
begun_sized sends ranged bad busy c i w b e d =
    vector_sized ranged bad busy c i b w sends (given_none (vector_refusals sends ranged bad busy c i w b) (key_for b c i) (vector-never ranged bad busy c i b w sends) e d)
