-- Whatever a device has been through, a call that stands holds a key that was completely loaded when it was opened.
use mathlib.Core.Path.{◌≡◌, refl, ap, ◌∙◌, subst, sym}
use mathlib.Core.Bool.{Bool, true, false}
use mathlib.Core.List.{List}
use Prim.Native.Nat.{ℕ, ◌+◌}
use native.Mathlib.Omega.{arith}
use lib.Dec.{ltb, eqb}
use borrow.Author.Tests.{ne_eqb}
use Rattle.octets.specs.Tests.{pick}
use Rattle.octets.proofs.TestLaws.{and_false_r}
use Rattle.answers.specs.declared.Answer.TheVariants.{Done}
use Rattle.sizes.specs.Ciphers.{session_slots}
use Rattle.keybook.specs.History as book
use Rattle.openings.specs.Ladder.{session_vector, key_for}
use Rattle.openings.proofs.LadderLaws.{key-never, vector-never}
use Rattle.calls.specs.declared.call.Terms.{Terms}
use Rattle.calls.specs.Counts.{no_counts, plus, lost_words}
use Rattle.calls.specs.declared.counts.Counts.{Counts}
use Rattle.answers.proofs.OutcomeLaws.{around}
use Rattle.answers.specs.declared.Answer.{Answer}
use Rattle.calls.specs.declared.call.Call.{Call}
use Rattle.calls.specs.Call.{sending_end, receiving_end, by_default, terms_right, good_call, Known, told, known_by, Standing, closed, bad, sending, receiving, standing, terms_of, written, is_bad, stands, end_refusals, after_end, end_of, no_call}
use Rattle.calls.specs.Opening.{join_refusals, begun_refusals, begun, begun_of, open_of, start_of, joined, join_of}
use Rattle.voice.specs.Slot.{going_on, ridden, slot_on, lost_refusals, lost_of, voice_refusals, stream_of, voice_after, voice_by}
use Rattle.calls.specs.Vector.{with_vector, announce_refusals, announce_of, next_vector_of}
use Rattle.calls.proofs.CallLaws.{by_stands, stands_bad}
use Rattle.nxdn.specs.Operations.{screen_step, CallOperation, Open, Start, Join, Voice, Lost, End, Announce, NextVector, call_step, packet_step}
use Rattle.demands.specs.Device.{Device, Operation, OfBook, OfScreen, OfCall, OfPacket, step, device_after, history}
use Rattle.demands.specs.Demand1.{OpensCall, by-open, by-start, by-join, renews_call}
use Rattle.demands.proofs.LoadedLaws.{Holder, SameKey, KeepsKey, begins, Left, Held, always_loaded, as_it_was, renewing, keeping, of_number}
use Rattle.openings.proofs.ReadyLaws.{none-ready, none-ready-vector}

-- ---- a call

abbrev pub the_calls : Holder
the_calls =
    record {
      State = Call;
      of = λ d n. d.calls n;
      Fixed = ℕ × ℕ;
      opens = OpensCall;
      renews = renews_call;
      stands = λ c. c.end ≡ 0 → ⊥;
      fixed = λ c. (c.terms.rate, c.terms.strictness);
      cipher = λ c. c.terms.cipher;
      key = λ c. c.terms.key;
    }

-- what is written for a standing has these terms
abbrev Under : Terms → Standing → Type 0
Under t s = (n : Counts) → t ≡ (written n s).terms

picked : {t : Terms} (b : Bool) (s u : Standing) → Under t s → Under t u → Under t (pick b s u)
picked true s u a b = a
picked false s u a b = b

-- a change of standing that keeps what does not stand, and the terms of what does, keeps the call's key
module _ (f : Standing → Standing) (of-closed : f closed ≡ closed) (of-bad : f bad ≡ bad)
    (of-sender : (t : Terms) (p : ℕ) (v : List ℕ) → Under t (f (sending t p v))) (of-receiver : (t : Terms) (p : ℕ) (k : Known) → Under t (f (receiving t p k))) where
  ended : (m : Counts) {t : Standing} (s : Standing) → s ≡ t → f t ≡ t → (written m t).end ≡ 0 → (written m (f s)).end ≡ 0
  ended m s e g z = ap (λ (u : Standing). (written m (f u)).end) e ∙ ap (λ (u : Standing). (written m u).end) g ∙ z

  standing-kept : (c : Call) (m : Counts) → KeepsKey the_calls c (written m (f (standing c)))
  standing-kept c m st = go (good_call c) refl
    where
      under : {s : Standing} → (c.end ≡ 0 → ⊥) → standing c ≡ s → Under c.terms (f s)
          → SameKey the_calls c (written m (f (standing c)))
      under n s u =
          let q : c.terms ≡ (written m (f (standing c))).terms = rw s (u m) in
          (n, ap (λ (t : Terms). (t.rate, t.strictness)) q, ap (λ (t : Terms). t.cipher) q, ap (λ (t : Terms). t.key) q)

      go : (t : Bool) → good_call c ≡ t → SameKey the_calls c (written m (f (standing c)))
      go true g =
          by_stands c g (λ o e s. absurd (st (ended m (standing c) s of-closed refl)))
          (λ o e s. under (λ z. omega arith) s (of-sender c.terms c.position c.vector))
          (λ o e s. under (λ z. omega arith) s (of-receiver c.terms c.position (known_by c.known c.vector)))
      go false g = absurd (st (ended m (standing c) (stands_bad c g) of-bad refl))

slot_kept : (c : Call) (m : Counts) → KeepsKey the_calls c (written m (slot_on (standing c)))
unfolding slot_on
slot_kept =
    standing-kept slot_on refl refl
    (λ t p v. picked (ltb (p + 1) (session_slots t.cipher)) (sending t (p + 1) v) (sending t 0 (going_on t.cipher v)) (λ m. refl) (λ m. refl))
    (λ t p k. picked (ltb (p + 1) (session_slots t.cipher)) (receiving t (p + 1) k) (receiving t 0 (ridden t k)) (λ m. refl) (λ m. refl))

told_kept : (w : List ℕ) (c : Call) (m : Counts) → KeepsKey the_calls c (written m (with_vector w (standing c)))
told_kept w = standing-kept (with_vector w) refl refl (λ t p v m. refl) (λ t p k m. refl)

-- open and start
begun-left : (n : ℕ) (b : List ℕ) (c : Call) (end m i r s : ℕ) (w : List ℕ) (o : CallOperation) → OpensCall n (r, s) m i (OfCall n o)
    → Left the_calls n b (OfCall n o) c (begun_of end c m i r s w b).0 (begun_of end c m i r s w b).1
unfolding begun_refusals
begun-left n b c end m i r s w o p =
    let t = terms_of m (key_for b m i) r s in
    let u : Under t (begun end t (session_vector m w)) =
    picked (eqb end sending_end) (sending t 0 (session_vector m w)) (receiving t 0 (told (session_vector m w))) (λ n. refl) (λ n. refl) in
    renewing the_calls n b (OfCall n o) c (written no_counts (begun end t (session_vector m w))) (begun_refusals end (standing c) m i r s w b)
    (vector-never (terms_right end r s) (is_bad (standing c)) (stands (standing c)) m i b w (eqb end sending_end))
    (λ h x.
    begins (r, s) m i (key_for b m i) refl p (none-ready-vector (eqb end sending_end) (terms_right end r s) (is_bad (standing c)) (stands (standing c)) m i b w h)
    (ap (λ (t : Terms). (t.rate, t.strictness)) (u no_counts)) (ap (λ (t : Terms). t.cipher) (u no_counts)) (ap (λ (t : Terms). t.key) (u no_counts)))

call_left : (n : ℕ) (b : List ℕ) (c : Call) (o : CallOperation) → Left the_calls n b (OfCall n o) c (call_step b c o).0 (call_step b c o).1.0
unfolding call_step open_of start_of join_of voice_by lost_of end_of announce_of join_refusals end_refusals
call_left n b c (Open m i r s w) = begun-left n b c receiving_end m i r s w (Open m i r s w) (by-open w)
call_left n b c (Start m i r w) = begun-left n b c sending_end m i r by_default w (Start m i r w) (by-start w refl)
call_left n b c (Join m i r s) =
    renewing the_calls n b (OfCall n (Join m i r s)) c (written no_counts (joined (terms_of m (key_for b m i) r s))) (join_refusals (standing c) m i r s b)
    (key-never (terms_right receiving_end r s) (is_bad (standing c)) (stands (standing c)) m i b)
    (λ h x. begins (r, s) m i (key_for b m i) refl by-join (none-ready (terms_right receiving_end r s) (is_bad (standing c)) (stands (standing c)) m i b h) refl refl refl)
call_left n b c (Voice mask frame) =
    keeping the_calls n b (OfCall n (Voice mask frame)) (λ (r : Call × List ℕ). r.0) (c, frame) (voice_refusals c mask frame)
    (voice_after stream_of mask frame c.counts (standing c)) (and_false_r (eqb n n)) (slot_kept c _)
call_left n b c Lost =
    keeping the_calls n b (OfCall n Lost) (λ (d : Call). d) c (lost_refusals c) (Done, written (plus c.counts lost_words) (slot_on (standing c))) (and_false_r (eqb n n))
    (slot_kept c _)
call_left n b c End =
    subst (λ (o : Answer × Call). Left the_calls n b (OfCall n End) c o.0 o.1)
    (sym (around (λ (d : Call × Counts). d.0) (c, no_counts) (end_refusals (standing c)) (Done, after_end c)))
    (renewing the_calls n b (OfCall n End) c no_call (end_refusals (standing c)) refl (λ h s. absurd (s refl)))
call_left n b c (Announce w) =
    keeping the_calls n b (OfCall n (Announce w)) (λ (d : Call). d) c (announce_refusals (standing c) w) (Done, written c.counts (with_vector w (standing c)))
    (and_false_r (eqb n n)) (told_kept w c _)
call_left n b c (NextVector out) = as_it_was the_calls n b (OfCall n (NextVector out)) (and_false_r (eqb n n)) c (next_vector_of c out).0

-- ---- the calls of a device

device_left : (d : Device) (o : Operation) (n : ℕ) → Left the_calls n d.book o (d.calls n) (step d o).0 ((step d o).1.0.calls n)
unfolding step
device_left d (OfBook o) n = as_it_was the_calls n d.book (OfBook o) refl (d.calls n) (book.step o d.book).0
device_left d (OfScreen o) n = as_it_was the_calls n d.book (OfScreen o) refl (d.calls n) (screen_step d.book o).0
device_left d (OfCall m o) n =
    let r = call_step d.book (d.calls m) o in
    of_number the_calls d.book (OfCall m o) m r.1.0 d.calls r.0 (call_left m d.book (d.calls m) o) (λ n q. rw (ne_eqb m n q)) n
device_left d (OfPacket m o) n = as_it_was the_calls n d.book (OfPacket m o) refl (d.calls n) (packet_step d.book (d.packets m) o).0

pub calls-loaded : (os : List Operation) (n : ℕ) → Held the_calls n (history step os) ((device_after step os).calls n)
calls-loaded = always_loaded the_calls (λ n s. s refl) device_left
