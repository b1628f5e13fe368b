-- From an all-zero book and no call, book and call stay good through any lines: no half key is left in the book, there is no sender, the rate is half, and
-- a receiver is strict.
use mathlib.Core.Path.{◌≡◌, refl, ◌∙◌}
use mathlib.Core.Bool.{Bool, true, false}
use mathlib.Core.List.{List, [], ◌∷◌}
use Prim.Native.Nat.{ℕ, ◌+◌, ◌*◌, ◌<◌}
use native.Mathlib.Decide.{ℕ_discrete}
use native.Mathlib.Omega.{arith}
use lib.Dec.{ltb}
use lib.ListN.{replicate}
use Rattle.octets.specs.Tests.{pick}
use Rattle.octets.proofs.ListLaws.{padded-at}
use Rattle.answers.specs.declared.Answer.{Answer}
use Rattle.answers.specs.declared.Answer.TheVariants.{Done}
use Rattle.answers.specs.Outcomes.{Refusals, settled}
use Rattle.answers.proofs.OutcomeLaws.{by_refusals}
use Rattle.sizes.specs.Ciphers.{session_slots}
use Rattle.sizes.specs.Frame.{half_rate}
use Rattle.keyentry.specs.Entry.{entry_octets, cipher_in, is_ready, name_in}
use Rattle.keybook.specs.Book.{entries, book_octets, entry_of, good_book}
use Rattle.keybook.specs.History.{book_after}
use Rattle.keybook.proofs.GoodLaws.{entry_octet}
use Rattle.keybook.proofs.HoldLaws.{always_good}
use Rattle.openings.specs.Ladder.{session_vector, key_for}
use Rattle.calls.specs.declared.call.Terms.{Terms}
use Rattle.calls.specs.declared.counts.Counts.{Counts}
use Rattle.calls.specs.declared.call.Call.{Call}
use Rattle.calls.specs.Call.{sending_end, receiving_end, carried_vector, strict, good_call, Known, known_by, Standing, closed, receiving, standing, terms_of, no_call, written, knows, end_refusals, after_end, end_of}
use Rattle.calls.specs.Counts.{no_counts, plus, lost_words, arrived_words}
use Rattle.calls.specs.Opening.{join_refusals, begun_refusals, begun, open_of, joined, join_of}
use Rattle.voice.specs.Slot.{ridden, slot_on, lost_refusals, lost_of, voice_refusals, stream_of, voice_after, voice_by, voice_of}
use Rattle.calls.specs.Vector.{with_vector, announce_refusals, announce_of}
use Rattle.calls.proofs.CallLaws.{by_stands, carries}
use Rattle.calls.proofs.GoodLaws.{closed_good, end_good, announce_good}
use Rattle.voice.proofs.SlotGood.{lost-good, voice_good}
use Rattle.calls.proofs.OpeningGood.{open_good, join_good}
use Rattle.lines.specs.Record.{Record, Load, Open, Join, Voice, Announce, Lost, End, Malformed, line_of}
use Rattle.keyentry.specs.Name.{no_name}
use Rattle.keybook.specs.Operations.{load_of}
use Rattle.records.specs.Step.{step_of}
use Rattle.text.specs.Reader.{all_answered}
use Rattle.records.specs.Answered.{Recorder, answered}
use Rattle.records.specs.Reader.{line_reader}
use Rattle.keybook.proofs.UndoLaws.{Begun, begun_entry, begun_other}
use Rattle.keybook.proofs.LoadLaws.{load_ways, load_stays_good}

-- ---- what book and call are in a run

-- an entry as K leaves it: ready, and without a name
abbrev ByK : List ℕ → Type 0
ByK e = (is_ready e ≡ true) × (name_in e ≡ replicate 16 0)

-- every used entry is such a one
abbrev pub AllByK : List ℕ → Type 0
AllByK b = (k : ℕ) → k < entries → (cipher_in (entry_of b k) ≡ 0 → ⊥) → ByK (entry_of b k)

-- a good book without half a key, and a good call that is not a sender's, at half rate and, where it receives, strict
pub record Sound (book : List ℕ) (call : Call) : Type 0 where
  pub book_good : good_book book ≡ true
  pub all_by_k : AllByK book
  pub call_good : good_call call ≡ true
  pub no_sender : call.end ≡ sending_end → ⊥
  pub half_rate_lem : call.terms.rate ≡ half_rate
  pub strictly : call.end ≡ receiving_end → call.terms.strictness ≡ strict

-- before any line
pub first_sound : Sound (replicate book_octets 0) no_call
unfolding book_after
first_sound =
    record {
      book_good = always_good [];
      all_by_k = λ k l n. absurd (n (entry_octet (replicate book_octets 0) k 0 (omega arith) ∙ padded-at [] book_octets (k * entry_octets + 0)));
      call_good = closed_good;
      no_sender = λ e. absurd (omega arith);
      half_rate_lem = refl;
      strictly = λ e. absurd (omega arith);
    }

-- its call never carries a vector over from the session before
pub never_carries : {book : List ℕ} {call : Call} → Sound book call → call.known ≡ carried_vector → ⊥
never_carries {call = call} s k = let d = carries call s.call_good k in omega (arith, s.strictly d.0, d.2)

-- ---- a K

begun_by_k : {b : List ℕ} {c i k : ℕ} {e after : List ℕ} → AllByK b → Begun b c i k e after → ByK e → AllByK after
begun_by_k {b} {c} {i} {k} {e} {after} all m r j l = go (ℕ_discrete j k)
  where
    go : Dec (j ≡ k) → (cipher_in (entry_of after j) ≡ 0 → ⊥) → ByK (entry_of after j)
    go (yes q) u = rw (q, begun_entry m) r
    go (no q) u = let o = begun_other m j l q in rw o (all j l (rw o at u))

module _ (b : List ℕ) (c i : ℕ) (key : List ℕ) where
  load-by-k : AllByK b → AllByK (load_of b c i no_name key).1
  unfolding no_name
  load-by-k all = load_ways b c i no_name key (λ o. AllByK o.1) (λ y. all) (λ k e begun m z. all) (λ k e added m w. all) (λ k e after m r s. begun_by_k all m (r, s))

-- ---- no operation of a record makes a sender, or a call at full rate or by default

-- a strict receiver's at half rate, or none: by its end and terms
abbrev HeardBy : ℕ → Terms → Type 0
HeardBy end t = (end ≡ sending_end → ⊥) × (t.rate ≡ half_rate) × (end ≡ receiving_end → t.strictness ≡ strict)

abbrev Heard : Call → Type 0
Heard c = HeardBy c.end c.terms

none-heard : Heard no_call
none-heard = (λ e. omega arith, refl, λ e. absurd (omega arith))

one_of_two : (n : Counts) (t : Bool) (x y : Standing) → Heard (written n x) → Heard (written n y) → Heard (written n (pick t x y))
one_of_two n true x y p q = p
one_of_two n false x y p q = q

module _ (c : Call) (good : good_call c ≡ true) (h : Heard c) where
  -- by what it stands for, closed or receiving
  by-receiver : (n : Counts) (f : Standing → Standing) → Heard (written n (f closed))
      → ((t : Terms) → HeardBy receiving_end t → (p : ℕ) (k : Known) → Heard (written n (f (receiving t p k)))) → Heard (written n (f (standing c)))
  by-receiver n f p q = by_stands c good (λ o e s. rw s p) (λ o e s. absurd (h.0 e)) (λ o e s. rw s (q c.terms (rw e at h) c.position (known_by c.known c.vector)))

  slot-ends : (n : Counts) → Heard (written n (slot_on (standing c)))
  unfolding slot_on
  slot-ends n =
      by-receiver n slot_on none-heard
      (λ t r p k. one_of_two n (ltb (p + 1) (session_slots t.cipher)) (receiving t (p + 1) k) (receiving t 0 (ridden t k)) r r)

  unless : {S : Type 0} (f : S → Call) (before : S) (rs : Refusals) (last : Answer × S) → Heard (f before) → Heard (f last.1) → Heard (f (settled before rs last).1)
  unless f before rs last p q = by_refusals (λ o. Heard (f o.1)) before rs last (λ a m. p) (λ n. q)

  end-ends : Heard (end_of c).1.0
  unfolding end_of
  end-ends = unless (λ (d : Call × Counts). d.0) (c, no_counts) (end_refusals (standing c)) (Done, after_end c) h none-heard

  lost-ends : Heard (lost_of c).1
  unfolding lost_of
  lost-ends = unless (λ d. d) c (lost_refusals c) (Done, written (plus c.counts lost_words) (slot_on (standing c))) h (slot-ends (plus c.counts lost_words))

  voice-ends : (mask : ℕ) (frame : List ℕ) → Heard (voice_of c mask frame).1.0
  unfolding voice_by
  voice-ends mask frame =
      unless (λ (d : Call × List ℕ). d.0) (c, frame) (voice_refusals c mask frame) (voice_after stream_of mask frame c.counts (standing c)) h
      (slot-ends (plus c.counts (arrived_words mask (knows (standing c)))))

  announce-ends : (w : List ℕ) → Heard (announce_of c w).1
  unfolding announce_of
  announce-ends w =
      unless (λ d. d) c (announce_refusals (standing c) w) (Done, written c.counts (with_vector w (standing c))) h
      (by-receiver c.counts (with_vector w) none-heard (λ t r p k. r))

  module _ (n i : ℕ) (b : List ℕ) where
    abbrev terms : Terms
    terms = terms_of n (key_for b n i) half_rate strict

    asked : HeardBy receiving_end terms
    asked = (λ e. omega arith, refl, λ e. refl)

    open-ends : (w : List ℕ) → Heard (open_of c n i half_rate strict w b).1
    unfolding open_of
    open-ends w = unless (λ d. d) c (begun_refusals receiving_end (standing c) n i half_rate strict w b) (Done, written no_counts (begun receiving_end terms (session_vector n w))) h asked

    join-ends : Heard (join_of c n i half_rate strict b).1
    unfolding join_of
    join-ends = unless (λ d. d) c (join_refusals (standing c) n i half_rate strict b) (Done, written no_counts (joined terms)) h asked

-- ---- so each record keeps them

-- the book stays
with_call_lem : {book : List ℕ} {call after : Call} → Sound book call → good_call after ≡ true → Heard after → Sound book after
with_call_lem s g h = record { book_good = s.book_good; all_by_k = s.all_by_k; call_good = g; no_sender = h.0; half_rate_lem = h.1; strictly = h.2 }

heard : {book : List ℕ} {call : Call} → Sound book call → Heard call
heard s = (s.no_sender, s.half_rate_lem, s.strictly)

pub step_sound : (r : Record) {book : List ℕ} {call : Call} → Sound book call → Sound (step_of r book call).book (step_of r book call).call
unfolding step_of
step_sound (Load c i key) {book} {call} s =
    record {
      book_good = load_stays_good book c i no_name key s.book_good;
      all_by_k = load-by-k book c i key s.all_by_k;
      call_good = s.call_good;
      no_sender = s.no_sender;
      half_rate_lem = s.half_rate_lem;
      strictly = s.strictly;
    }
step_sound (Open c i w) {book} {call} s = with_call_lem s (open_good call s.call_good c i half_rate book strict w) (open-ends call s.call_good (heard s) c i book w)
step_sound (Join c i) {book} {call} s = with_call_lem s (join_good call s.call_good c i half_rate book strict) (join-ends call s.call_good (heard s) c i book)
step_sound (Voice mask frame) {book} {call} s =
    with_call_lem s (voice_good call s.call_good (λ e d. absurd (s.no_sender e)) mask frame) (voice-ends call s.call_good (heard s) mask frame)
step_sound (Announce w) {book} {call} s = with_call_lem s (announce_good call s.call_good w) (announce-ends call s.call_good (heard s) w)
step_sound Lost {book} {call} s = with_call_lem s (lost-good call s.call_good) (lost-ends call s.call_good (heard s))
step_sound End {book} {call} s = with_call_lem s (end_good call s.call_good) (end-ends call s.call_good (heard s))
step_sound Malformed s = s

-- and so do any lines
pub lines_sound : (ls : List (List ℕ)) (r : Recorder) → Sound r.book r.call
    → let after = (all_answered line_reader ls r).1 in
    Sound after.book after.call
unfolding all_answered answered
lines_sound [] r s = s
lines_sound (l ∷ ls) r s = lines_sound ls (answered l r).1 (step_sound (line_of l) s)
