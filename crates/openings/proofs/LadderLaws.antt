-- What an opening asks, as the code goes through it.
use mathlib.Core.Path.{◌≡◌, refl, sym, ap, ◌∙◌}
use mathlib.Core.Bool.{Bool, true, false, ◌&&◌, not}
use mathlib.Core.List.{List}
use Prim.Native.Nat.{ℕ}
use lib.ListN.{length}
use borrow.Author.Tests.{eq-eqb, eqb-true, not-false, ne_eqb}
use Rattle.octets.specs.Tests.{pick}
use Rattle.octets.specs.Lists.{all_zero}
use Rattle.answers.specs.declared.Answer.{Answer}
use Rattle.answers.specs.declared.Answer.TheVariants.{Done, ZeroVector}
use Rattle.answers.specs.Numbers.{is_done}
use Rattle.answers.specs.Outcomes.{Refusals, outcome}
use Rattle.answers.specs.Order.{without_zeros, opening_order, numbers_of, in_order}
use Rattle.answers.proofs.OutcomeLaws.{NoneHolds, never_done, from_two, none_left, none_first, none_settles, done_none, Refuses, answer_at, refused_at, first_decides, asked-last}
use Rattle.answers.proofs.TableLaws.{in_table}
use Rattle.keyentry.specs.Entry.{in_range}
use Rattle.keybook.specs.Book.{book_octets, book_refusals}
use Rattle.keybook.specs.Operations.{no_key, not_ready, ready_refusals, ready_key_of}
use Rattle.sizes.specs.Ciphers.{vector_octets, scrambles}
use Rattle.openings.specs.Ladder.{key_for, key_refusals, opening_key_of, zero_for, zero_refusals, vector_refusals, vector_key_of}

-- zeros are refused of DES and AES alone
pub not-zero_for : (c : ℕ) (w : List ℕ) → (scrambles c ≡ false → all_zero w ≡ false) → zero_for c w ≡ false
unfolding zero_for
not-zero_for c w s = go (scrambles c) refl
  where
    go : (t : Bool) → scrambles c ≡ t → (not t && all_zero w) ≡ false
    go true e = refl
    go false e = s e

-- and of a sender alone
pub heard-taken : (sends : Bool) (c : ℕ) (w : List ℕ) → sends ≡ false → NoneHolds (zero_refusals sends c w)
unfolding zero_refusals
heard-taken sends c w e = rw e tt

pub some_taken : (sends : Bool) (c : ℕ) (w : List ℕ) → zero_for c w ≡ false → NoneHolds (zero_refusals sends c w)
unfolding zero_refusals
some_taken true c w e = (e, tt)
some_taken false c w e = tt

-- a key that was handed out: nothing refused it, and it is the one of the book
module _ (rs : Refusals) (key : List ℕ) (never : never_done rs ≡ true) {o : Answer × List ℕ} (e : o ≡ outcome no_key rs key) where
  pub given_none : is_done o.0 ≡ true → NoneHolds rs
  given_none d = done_none rs no_key key never (sym (ap (λ (p : Answer × List ℕ). is_done p.0) e) ∙ d)

  pub given_is : is_done o.0 ≡ true → o ≡ (Done, key)
  given_is d = e ∙ none_settles rs no_key (Done, key) (given_none d)

module _ (ranged is_bad busy : Bool) (c i : ℕ) (b : List ℕ) where
  abbrev asked : Refusals
  asked = key_refusals ranged is_bad busy c i b

  -- it asks in the order in which refusals count
  pub key_in_order : in_order without_zeros (numbers_of asked) ≡ true
  unfolding key_refusals
  key_in_order = refl

  pub key_refused : (n : ℕ) → Refuses asked n → (answer_at asked n, no_key) ≡ opening_key_of ranged is_bad busy c i b
  unfolding opening_key_of
  key_refused = refused_at no_key asked (Done, key_for b c i)

  pub key-ready : length b ≡ book_octets → ranged ≡ true → in_range c i ≡ true → is_bad ≡ false → busy ≡ false
      → ready_key_of b c i ≡ opening_key_of ranged is_bad busy c i b
  unfolding opening_key_of key_refusals ready_key_of ready_refusals book_refusals not_ready
  key-ready l r n e f = rw (eq-eqb _ _ l, r, n, e, f)

  pub key-never : never_done asked ≡ true
  unfolding key_refusals
  key-never = refl

  pub key-none : {o : Answer × List ℕ} → o ≡ opening_key_of ranged is_bad busy c i b → is_done o.0 ≡ true → NoneHolds asked
  unfolding opening_key_of
  key-none = given_none asked (key_for b c i) key-never

  module _ (w : List ℕ) where
    abbrev asked_with : Bool → Refusals
    asked_with sends = vector_refusals sends ranged is_bad busy c i w b

    pub vector_in_order : (sends : Bool) → in_order (pick sends opening_order without_zeros) (numbers_of (asked_with sends)) ≡ true
    unfolding vector_refusals key_refusals zero_refusals
    vector_in_order true = refl
    vector_in_order false = refl

    pub vector-from-two : (sends : Bool) → from_two (asked_with sends) ≡ true
    unfolding vector_refusals key_refusals zero_refusals
    vector-from-two true = refl
    vector-from-two false = refl

    pub vector_in_table : (sends : Bool) → in_table (asked_with sends) ≡ true
    unfolding vector_refusals key_refusals zero_refusals
    vector_in_table true = refl
    vector_in_table false = refl

    pub vector-never : (sends : Bool) → never_done (asked_with sends) ≡ true
    unfolding vector_refusals key_refusals zero_refusals
    vector-never true = refl
    vector-never false = refl

    -- a sender is refused what a receiver is, and 8 where that would be done with zeros, of DES or AES
    pub sends_more : {S : Type 0} (before after : S)
        → outcome before (asked_with true) after
        ≡ pick (is_done (outcome before (asked_with false) after).0 && zero_for c w) (ZeroVector, before) (outcome before (asked_with false) after)
    unfolding vector_refusals key_refusals zero_refusals
    sends_more before after = asked-last (asked_with false) (zero_for c w) ZeroVector before after (vector-never false)

    module _ (sends : Bool) where
      pub vector-length : (length w ≡ vector_octets → ⊥) → (answer_at (asked_with sends) 0, no_key) ≡ vector_key_of sends ranged is_bad busy c i w b
      unfolding vector_key_of vector_refusals
      vector-length n = rw (ne_eqb _ _ n)

      module _ (l : length w ≡ vector_octets) where
        -- the ladder without the vector refuses first
        pub vector-key_refused : {o : Answer × List ℕ} → o ≡ opening_key_of ranged is_bad busy c i b → is_done o.0 ≡ false
            → o ≡ vector_key_of sends ranged is_bad busy c i w b
        unfolding vector_key_of vector_refusals opening_key_of
        vector-key_refused e d =
            e
            ∙ first_decides asked (zero_refusals sends c w) no_key (key_for b c i) (sym (ap (λ (o : Answer × List ℕ). is_done o.0) e) ∙ d)
            ∙ rw (eq-eqb _ _ l)

        vector-left : NoneHolds asked → vector_key_of sends ranged is_bad busy c i w b ≡ outcome no_key (zero_refusals sends c w) (key_for b c i)
        unfolding vector_key_of vector_refusals
        vector-left n = rw (eq-eqb _ _ l) (none_first asked (zero_refusals sends c w) no_key (Done, key_for b c i) n)

        pub vector-zero : NoneHolds asked → sends ≡ true → zero_for c w ≡ true → (ZeroVector, no_key) ≡ vector_key_of sends ranged is_bad busy c i w b
        unfolding zero_refusals
        vector-zero n s z = sym (vector-left n ∙ rw (s, z))

        pub vector-ready : {o : Answer × List ℕ} → o ≡ opening_key_of ranged is_bad busy c i b → NoneHolds asked → NoneHolds (zero_refusals sends c w)
            → o ≡ vector_key_of sends ranged is_bad busy c i w b
        unfolding opening_key_of
        vector-ready e n z =
            e ∙ none_settles asked no_key (Done, key_for b c i) n
            ∙ sym (vector-left n ∙ none_settles (zero_refusals sends c w) no_key (Done, key_for b c i) z)

      pub vector_sized : NoneHolds (asked_with sends) → length w ≡ vector_octets
      unfolding vector_refusals
      vector_sized n = eqb-true _ _ (not-false _ n.0)

      -- what is not refused with the vector is not refused without it
      pub vector-none : NoneHolds (asked_with sends) → NoneHolds asked
      unfolding vector_refusals
      vector-none n = none_left asked (zero_refusals sends c w) n.1
