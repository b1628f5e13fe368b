-- A prepared key: its schedule and its columns, one after the other, and what makes it.
use mathlib.Core.Path.{◌≡◌, sym, ap, ◌∙◌}
use mathlib.Core.List.{List, ◌++◌}
use Prim.Native.Nat.{ℕ, ◌≤◌}
use native.Mathlib.Omega.{arith}
use lib.ListN.{length, take, get_or-append}
use lib.Seq.{drop_at}
use Rattle.aes.specs.Cipher.{key_expansion}
use Rattle.aes.specs.Prepared.{octets_in, IsColumns, key_of, Prepared}
use Rattle.aes.proofs.WordLaws.{octets_same, octets-take}
use Rattle.aes.proofs.ScheduleLaws.{key-first}

module _ (s t : List ℕ) (long : length s ≡ 60) where
  words-first : (n : ℕ) → n ≤ 60 → octets_in n (s ++ t) ≡ octets_in n s
  words-first n h = octets_same n (s ++ t) s (λ q l. get_or-append s t 0 q (omega arith))

  key-stands : key_of (s ++ t) ≡ key_of s
  unfolding key_of
  key-stands = words-first 8 (omega arith)

  -- what a prepared key has
  pub its_columns : Prepared (s ++ t) → IsColumns t
  its_columns p = rw (drop_at s t 60 long) at p.columns

  pub its_schedule : Prepared (s ++ t) → octets_in 60 s ≡ key_expansion (key_of s)
  its_schedule p = sym (words-first 60 (omega arith)) ∙ p.schedule ∙ ap key_expansion key-stands

  module _ (key : List ℕ) (key_long : length key ≡ 32) (is : octets_in 60 s ≡ key_expansion key) where
    -- the key that a schedule begins with
    pub key-kept : key_of s ≡ key
    unfolding key_of
    key-kept = sym (octets-take 8 60 s (omega arith)) ∙ ap (take 32) is ∙ key-first key key_long

    pub made : IsColumns t → Prepared (s ++ t)
    made c =
        record {
          schedule = words-first 60 (omega arith) ∙ is ∙ ap key_expansion (sym (key-stands ∙ key-kept));
          columns = rw (drop_at s t 60 long) c;
        }
