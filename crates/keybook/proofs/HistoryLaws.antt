-- Over every list of key operations on an all-zero book, the key that is handed out for a cipher type and key ID is the
-- one that their history tells of.
use Prim.Native.Nat.{ℕ, ◌-◌, ◌<◌}
use native.Mathlib.Omega.{arith}
use mathlib.Core.Path.{◌≡◌, sym, ap, ap₂, ◌∙◌}
use mathlib.Core.Bool.{true, false, not}
use mathlib.Core.List.{List}
use lib.ListN.{length}
use lib.Dec.{eqb}
use borrow.Author.Tests.{lt-ltb, eq-eqb}
use Rattle.ciphers.proofs.KeyLaws.{padded_allowed}
use Rattle.sizes.proofs.SizeLaws.{key-at-most}
use Rattle.sizes.specs.Ciphers.{key_octets, key_room}
use Rattle.ciphers.specs.Keys.{key_allowed}
use Rattle.answers.specs.declared.Answer.TheVariants.{Done}
use Rattle.answers.proofs.OutcomeLaws.{NoneHolds, none_settles}
use Rattle.keyentry.specs.Entry.{cipher_in, key_in, name_in, in_range}
use Rattle.keyentry.proofs.RightLaws.{used_of, for_parts}
use Rattle.keyentry.proofs.WriteLaws.{key_loaded, loaded_count, ready-whole}
use Rattle.keybook.specs.Book.{entries, book_octets, find_entry, book_refusals}
use Rattle.keybook.specs.Operations.{has_entry, entry_for, no_key, not_ready, ready_refusals, ready_key_of}
use Rattle.keybook.specs.History.{Operation, History, finished, telling, book_after, history, padded, Told}
use Rattle.keybook.proofs.GoodLaws.{good_sized, good_entry, found_for}
use Rattle.keybook.proofs.DoneLaws.{handed}
use Rattle.keybook.proofs.FindLaws.{used-found}
use Rattle.keybook.proofs.HoldLaws.{always_good, held-finished, HoldsKey, finished_holds, holds_what_was_told, key-padded}

-- a history tells of one key
pub one_told : {h : History} {c i : ℕ} {k l : List ℕ} → Told h c i k → Told h c i l → k ≡ l
one_told t u = cc

-- a key is handed out only if the history tells of it
pub ready_only_if_told : (os : List Operation) (c i : ℕ) (k : List ℕ) → ready_key_of (book_after os) c i ≡ (Done, k) → Told (history os) c i k
ready_only_if_told os c i k q =
    let d = handed (book_after os) c i k q in
    let t = d.from in
    let u = t.right in
    let e = entry_for (book_after os) c i in
    let w = ready-whole e u d.ready in
    let p = key-padded e t.long u in
    record {
      name = name_in e;
      octets = key_loaded e;
      is-finished = sym (holds_what_was_told os c i) ∙ held-finished e t.used d.ready;
      is-padded = d.is ∙ p;
      is_whole = loaded_count e t.long (omega (arith, u.count, key-at-most (cipher_in e))) ∙ w.full ∙ ap key_octets t.cipher;
      is_allowed =
          sym (padded_allowed (key_loaded e) (key_room - length (key_loaded e)) c) ∙ ap₂ key_allowed (sym t.cipher) (sym p) ∙ w.allowed;
    }

module _ (os : List Operation) (c i : ℕ) (n xs : List ℕ) (f : telling (history os) c i ≡ finished n xs) where
  abbrev b : List ℕ
  b = book_after os

  has-finished : HoldsKey (entry_for b c i) n xs
  has-finished = finished_holds (entry_for b c i) n xs (holds_what_was_told os c i ∙ f)

  is-there : find_entry b c i < entries
  is-there = used-found b c i (good_sized b (always_good os)) has-finished.used

  in_range_lem : in_range c i ≡ true
  in_range_lem =
      let m = for_parts (entry_for b c i) c i (found_for b c i is-there) in
      ap₂ in_range (sym m.0) (sym m.1) ∙ (used_of (entry_for b c i) has-finished.used (good_entry b (always_good os) (find_entry b c i) is-there)).range

  none-refuses : NoneHolds (ready_refusals b c i)
  unfolding ready_refusals book_refusals not_ready
  none-refuses =
      let sized : not (eqb (length b) book_octets) ≡ false = rw (eq-eqb _ _ (good_sized b (always_good os))) in
      let has-it : not (has_entry b c i) ≡ false = rw (lt-ltb _ _ is-there) in
      (sized, (rw in_range_lem, (rw (always_good os), (has-it, (ap not has-finished.ready, tt)))))

  given : ready_key_of b c i ≡ (Done, key_in (entry_for b c i))
  unfolding ready_key_of
  given = none_settles (ready_refusals b c i) no_key (Done, key_in (entry_for b c i)) none-refuses

  -- a key that was finished is handed out
  pub ready_if_finished : ready_key_of (book_after os) c i ≡ (Done, padded xs)
  ready_if_finished =
      let t = (handed b c i (key_in (entry_for b c i)) given).from in
      given ∙ ap (λ (k : List ℕ). (Done, k)) (key-padded (entry_for b c i) t.long t.right ∙ ap padded has-finished.octets)
