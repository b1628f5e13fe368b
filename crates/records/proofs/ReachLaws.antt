-- The answers that a record can get where book and call are good, no key is half loaded and no call is a sender's or at full rate.
use mathlib.Core.Path.{◌≡◌, refl, sym, ap, ◌∙◌}
use mathlib.Core.Bool.{Bool, true, false, not, true≢false}
use mathlib.Core.List.{List}
use Prim.Native.Nat.{ℕ, zero, suc, ◌≤◌, ◌<◌}
use native.Mathlib.Omega.{arith}
use lib.Dec.{eqb}
use lib.ListN.{length}
use borrow.Author.Tests.{le-ltb, lt-ltb, ltb-true, eq-eqb, not-false}
use Rattle.answers.specs.declared.Answer.{Answer}
use Rattle.answers.specs.declared.Answer.TheVariants.{Done}
use Rattle.answers.specs.Numbers.{number_of, is_one_of}
use Rattle.answers.proofs.OutcomeLaws.{Gives, gives_more, gives}
use Rattle.keyentry.specs.Name.{name_octets, no_name}
use Rattle.keyentry.specs.Entry.{cipher_in, is_ready, in_range, extend_refusals, complete_refusals}
use Rattle.sizes.specs.Ciphers.{key_room, vector_octets}
use Rattle.keyentry.proofs.NameLaws.{name_is_long, name_is-right, no_name_lem}
use Rattle.keyentry.proofs.RightLaws.{for_parts}
use Rattle.keyentry.proofs.WriteLaws.{in_range_used}
use Rattle.keybook.specs.Book.{entries, book_octets, good_book, find_entry, book_refusals}
use Rattle.keybook.specs.Operations.{has_entry, entry_for, begin_refusals, begin_after, begin_of, add_refusals, add_of, finish_refusals, finish_of, load_of}
use Rattle.keybook.proofs.GoodLaws.{good_sized, found_for}
use Rattle.openings.specs.Ladder.{key_refusals, zero_refusals, vector_refusals}
use Rattle.calls.specs.declared.call.Call.{Call}
use Rattle.calls.specs.Call.{receiving_end, strict, terms_right, standing, is_bad, width_in, stands, knows, end_refusals, end_of}
use Rattle.calls.specs.Counts.{no_counts}
use Rattle.calls.specs.Opening.{join_refusals, begun_refusals, open_of, join_of}
use Rattle.sizes.specs.Frame.{half_rate, is_rate, width, frame_octets}
use Rattle.voice.specs.Slot.{lost_refusals, lost_of, voice_refusals, stream_of, voice_after, voice_by, voice_of}
use Rattle.calls.specs.Vector.{announce_refusals, announce_of}
use Rattle.calls.proofs.CallLaws.{not_bad, stands-none, width_in_lem}
use Rattle.voice.proofs.SlotLaws.{taken-under-two}
use Rattle.lines.specs.Record.{Record, Load, Open, Join, Voice, Announce, Lost, End, Malformed, record_frame, line_of}
use Rattle.lines.proofs.CanonicalLaws.{read_fine}
use Rattle.records.specs.Step.{step_of}
use Rattle.records.specs.Reach.{answers_to}
use Rattle.keybook.proofs.UndoLaws.{Begun, begun-good, begun-found}
use Rattle.keybook.proofs.LoadLaws.{load_ways}
use Rattle.records.proofs.SoundLaws.{Sound}

-- ---- the answers

-- a test of what holds, and one that fails
never-not : {A : Type 0} {t : Bool} → t ≡ true → not t ≡ true → A
never-not e h = absurd (true≢false (sym h ∙ ap not e))

never : {A : Type 0} {t : Bool} → t ≡ false → t ≡ true → A
never e h = absurd (true≢false (sym h ∙ e))

-- an answer that a record can get
abbrev Can : Record → Answer → Type 0
Can r a = is_one_of (number_of a) (answers_to r) ≡ true

-- a record that can be done is not malformed
can_be_done : (r : Record) → is_one_of 0 (answers_to r) ≡ true → r ≡ Malformed → ⊥
can_be_done r e z = true≢false (sym e ∙ ap (λ (x : Record). is_one_of 0 (answers_to x)) z)

module _ (b : List ℕ) (g : good_book b ≡ true) where
  book-sized : {A : Type 0} → not (eqb (length b) book_octets) ≡ true → A
  book-sized = never-not (eq-eqb (length b) book_octets (good_sized b g))

  module _ (c i : ℕ) (key : List ℕ) where
    begin-can : Can (Load c i key) (begin_of b c i no_name).0
    unfolding begin_of begin_refusals
    begin-can =
        gives (Can (Load c i key)) b (begin_refusals b c i no_name) (Done, begin_after b c i no_name)
        (never-not (eq-eqb (length no_name) name_octets (name_is_long no_name no_name_lem)), λ _. (book-sized, λ _. (λ h. refl, λ _. (never-not (name_is-right no_name no_name_lem), λ _. (never-not g, λ _. (λ h. refl, λ _. (λ h. refl, λ _. tt))))))) refl

    module _ (there : has_entry b c i ≡ true) where
      add-can : length key ≤ key_room → Can (Load c i key) (add_of b c i key).0
      unfolding add_of add_refusals book_refusals extend_refusals
      add-can l =
          gives (Can (Load c i key)) b (add_refusals b c i key) _
          (never (le-ltb key_room (length key) l), λ _. (book-sized, λ _. (λ h. refl, λ _. (never-not g, λ _. (never-not there, λ _. (λ h. refl, λ _. (λ h. refl, λ _. tt))))))) refl

      finish-can : Can (Load c i key) (finish_of b c i).0
      unfolding finish_of finish_refusals book_refusals complete_refusals
      finish-can =
          gives (Can (Load c i key)) b (finish_refusals b c i) _
          (book-sized, λ _. (λ h. refl, λ _. (never-not g, λ _. (never-not there, λ _. (λ h. refl, λ _. (λ h. refl, λ _. (λ h. refl, λ _. tt))))))) refl

begun_has : {b : List ℕ} {c i k : ℕ} {e after : List ℕ} → Begun b c i k e after → has_entry after c i ≡ true
begun_has {c = c} {i = i} {after = after} m = lt-ltb (find_entry after c i) entries (rw (begun-found m) m.changed.below)

load_can : (b : List ℕ) (c i : ℕ) (key : List ℕ) → good_book b ≡ true → length key ≤ key_room → Can (Load c i key) (load_of b c i no_name key).0
load_can b c i key g l =
    load_ways b c i no_name key (λ o. Can (Load c i key) o.0) (λ y. begin-can b g c i key)
    (λ k e begun m z. add-can begun (begun-good m) c i key (begun_has m) l) (λ k e added m w. finish-can added (begun-good m) c i key (begun_has m))
    (λ k e after m r s. refl)

module _ (book : List ℕ) (call : Call) (s : Sound book call) where
  -- an entry that is there is ready
  ready-there : (c i : ℕ) → not (in_range c i) ≡ false → not (has_entry book c i) ≡ false → is_ready (entry_for book c i) ≡ true
  ready-there c i n h =
      let l : find_entry book c i < entries = ltb-true _ _ (not-false _ h) in
      let q : cipher_in (entry_for book c i) ≡ c = (for_parts (entry_for book c i) c i (found_for book c i l)).0 in
      (s.all_by_k (find_entry book c i) l (λ z. in_range_used c i (not-false _ n) (sym q ∙ z))).0

  good-stays : {A : Type 0} → is_bad (standing call) ≡ true → A
  good-stays = never (not_bad call s.call_good)

  -- what the opening asks of the key, of a record that can get 0, 3, 5 and 9
  key-can : (r : Record) → is_one_of 3 (answers_to r) ≡ true → is_one_of 5 (answers_to r) ≡ true → is_one_of 9 (answers_to r) ≡ true → (c i : ℕ)
      → Gives (Can r) (key_refusals (terms_right receiving_end half_rate strict) (is_bad (standing call)) (stands (standing call)) c i book)
  unfolding key_refusals terms_right is_rate
  key-can r three five nine c i = (
    book-sized book s.book_good,
    λ _. (
      λ h. three,
      λ n. (good-stays, λ _. (λ h. nine, λ _. (never-not s.book_good, λ _. (λ h. five, λ t. (never-not (ready-there c i n t), λ _. tt))))),
    ),
  )

  open-can : (c i : ℕ) (w : List ℕ) → length w ≡ vector_octets → Can (Open c i w) (open_of call c i half_rate strict w book).0
  unfolding open_of begun_refusals vector_refusals zero_refusals
  open-can c i w l =
      let r = Open c i w in
      gives (Can r) call (begun_refusals receiving_end (standing call) c i half_rate strict w book) _
      (never-not (eq-eqb (length w) vector_octets l), λ _. gives_more (Can r) (key_refusals (terms_right receiving_end half_rate strict) (is_bad (standing call)) (stands (standing call)) c i book) _ (key-can r refl refl refl c i) tt) refl

  join-can : (c i : ℕ) → Can (Join c i) (join_of call c i half_rate strict book).0
  unfolding join_of join_refusals
  join-can c i = gives (Can (Join c i)) call (join_refusals (standing call) c i half_rate strict book) _ (key-can (Join c i) refl refl refl c i) refl

  -- a V record's frame is as long as a call that stands asks
  as_long : (frame : List ℕ) → length frame ≡ record_frame → not (stands (standing call)) ≡ false → length frame ≡ frame_octets (width_in (standing call))
  as_long frame l n = l ∙ ap frame_octets (sym (width_in_lem call s.call_good (λ z. true≢false (sym (stands-none call s.call_good z) ∙ n)) ∙ ap width s.half_rate_lem))

  voice-can : (mask : ℕ) (frame : List ℕ) → length frame ≡ record_frame → Can (Voice mask frame) (voice_of call mask frame).0
  unfolding voice_by voice_refusals
  voice-can mask frame l =
      gives (Can (Voice mask frame)) (call, frame) (voice_refusals call mask frame) (voice_after stream_of mask frame call.counts (standing call))
      (λ h. refl, λ _. (good-stays, λ _. (λ h. refl, λ n. (λ h. refl, λ _. (never-not (eq-eqb _ _ (as_long frame l n)), λ _. tt)))))
      (taken (number_of (voice_after stream_of mask frame call.counts (standing call)).0) (taken-under-two (knows (standing call))))
    where
      taken : (n : ℕ) → n < 2 → is_one_of n (answers_to (Voice mask frame)) ≡ true
      taken zero h = refl
      taken (suc zero) h = refl
      taken (suc (suc n)) h = absurd (omega arith)

  announce-can : (w : List ℕ) → length w ≡ vector_octets → Can (Announce w) (announce_of call w).0
  unfolding announce_of announce_refusals
  announce-can w l =
      gives (Can (Announce w)) call (announce_refusals (standing call) w) _
      (never-not (eq-eqb (length w) vector_octets l), λ _. (good-stays, λ _. (λ h. refl, λ _. tt))) refl

  lost-can : Can Lost (lost_of call).0
  unfolding lost_of lost_refusals
  lost-can = gives (Can Lost) call (lost_refusals call) _ (good-stays, λ _. (λ h. refl, λ _. (λ h. refl, λ _. tt))) refl

  end-can : Can End (end_of call).0
  unfolding end_of end_refusals
  end-can = gives (Can End) (call, no_counts) (end_refusals (standing call)) _ (good-stays, λ _. (λ h. refl, λ _. tt)) refl

  pub step_can : (line : List ℕ) (r : Record) → line_of line ≡ r → Can r (step_of r book call).answer
  unfolding step_of
  step_can line (Load c i key) e = load_can book c i key s.book_good (read_fine line (Load c i key) e (can_be_done _ refl)).3
  step_can line (Open c i w) e = open-can c i w (read_fine line (Open c i w) e (can_be_done _ refl)).2
  step_can line (Join c i) e = join-can c i
  step_can line (Voice mask frame) e = voice-can mask frame (read_fine line (Voice mask frame) e (can_be_done _ refl)).1
  step_can line (Announce w) e = announce-can w (read_fine line (Announce w) e (can_be_done _ refl)).0
  step_can line Lost e = lost-can
  step_can line End e = end-can
  step_can line Malformed e = refl
