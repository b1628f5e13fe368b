-- What open, join and start leave is a good call.
use mathlib.Core.Path.{◌≡◌, refl, ap}
use mathlib.Core.Bool.{Bool, true, false, ◌&&◌, ◌||◌, not, true≢false}
use mathlib.Core.List.{List, [], ◌∷◌}
use Prim.Native.Nat.{ℕ, ◌%◌, ◌≤◌, ◌<◌}
use native.Mathlib.Omega.{arith}
use lib.Dec.{eqb}
use borrow.Author.Tests.{eqb-true}
use Rattle.sizes.proofs.Cases.{by_range}
use Rattle.octets.specs.Tests.{pick}
use Rattle.octets.specs.Lists.{all_zero}
use Rattle.sizes.specs.Ciphers.{session_slots, no_vector, scrambles, superframe_slots}
use Rattle.sizes.specs.Frame.{is_rate}
use Rattle.answers.specs.declared.Answer.{Answer}
use Rattle.answers.specs.declared.Answer.TheVariants.{Done, ZeroVector}
use Rattle.answers.specs.Numbers.{number_of}
use Rattle.answers.proofs.OutcomeLaws.{NoneHolds, none_left, none_right, among_refuses, by_refusals}
use Rattle.openings.specs.Ladder.{session_vector, key_for, key_refusals, zero_for, zero_refusals, vector_refusals}
use Rattle.sizes.proofs.SizeLaws.{no_vector-zero}
use Rattle.openings.proofs.LadderLaws.{vector-from-two}
use Rattle.openings.proofs.ReadyLaws.{none_ranged, none_in_range, none-key}
use Rattle.calls.specs.declared.call.Terms.{Terms}
use Rattle.calls.specs.declared.call.Call.{Call}
use Rattle.calls.specs.Call.{sending_end, receiving_end, unknown_vector, told_vector, by_default, strict, terms_right, vector_right, counts_right, good_call, unknown, told, known_number, untold, sending, receiving, standing, terms_of, call_at, written, is_bad, stands}
use Rattle.calls.specs.Counts.{no_counts}
use Rattle.calls.proofs.CountLaws.{none_tallied}
use Rattle.calls.specs.Opening.{join_refusals, begun_refusals, begun, begun_of, open_of, start_of, joined, join_of}
use Rattle.calls.proofs.GoodLaws.{known_right, sent_right, Placed, good-sender, good_receiver, untold-right, kept}

-- a session has slots, and more than a superframe where it needs a vector
slots_some : (c : ℕ) → (1 ≤ c) × (c ≤ 3) → 0 < session_slots c
slots_some = by_range (λ n. 0 < session_slots n) (omega arith) (omega arith) (omega arith)

slots_more : (c : ℕ) → (1 ≤ c) × (c ≤ 3) → scrambles c ≡ false → superframe_slots < session_slots c
slots_more = by_range (λ n. scrambles n ≡ false → superframe_slots < session_slots n) (λ e. absurd (true≢false e)) (λ e. omega arith) (λ e. omega arith)

-- the vector that a receiver is told as it opens; and a sender's, where 8 was not given
pub heard-right : (c m : ℕ) (w : List ℕ) → known_right c m (told (session_vector c w)) ≡ true
unfolding vector_right
heard-right c m w = go (scrambles c)
  where
    go : (t : Bool) → pick t (all_zero (pick t no_vector w)) true ≡ true
    go true = no_vector-zero
    go false = refl

pub sent_right_lem : (c : ℕ) (w : List ℕ) → zero_for c w ≡ false → sent_right c (session_vector c w) ≡ true
unfolding vector_right zero_for
sent_right_lem c w = go (scrambles c)
  where
    go : (t : Bool) → (not t && all_zero w) ≡ false → pick t (all_zero (pick t no_vector w)) (not (all_zero (pick t no_vector w))) ≡ true
    go true z = no_vector-zero
    go false z = ap not z

-- a receiver may have what any end may
heard-terms : (end r m : ℕ) → terms_right end r m ≡ true → terms_right receiving_end r m ≡ true
unfolding terms_right
heard-terms end r m = go (is_rate r) (eqb m by_default) (eqb m strict) (eqb end receiving_end)
  where
    go : (x a b e : Bool) → (x && (a || (b && e))) ≡ true → (x && (a || (b && true))) ≡ true
    go true true b e h = refl
    go true false true e h = refl
    go true false false e h = h
    go false a b e h = h

module _ (end : ℕ) (bad busy : Bool) (c i r m : ℕ) (b : List ℕ) (n : NoneHolds (key_refusals (terms_right end r m) bad busy c i b)) where
  abbrev terms : Terms
  terms = terms_of c (key_for b c i) r m

  ranged : (1 ≤ c) × (c ≤ 3)
  ranged = none_in_range (terms_right end r m) bad busy c i b n

  right : terms_right end r m ≡ true
  right = (none_ranged (terms_right end r m) bad busy c i b n).0

  placed : {e p : ℕ} → terms_right e r m ≡ true → p < session_slots c → Placed e terms p
  placed at l = record { key = none-key (terms_right end r m) bad busy c i b n; terms = at; place = l }

  joined-good : good_call (written no_counts (joined terms)) ≡ true
  unfolding counts_right
  joined-good =
      good_receiver terms (pick (scrambles c) 0 superframe_slots) (placed (heard-terms end r m right) (go (scrambles c) refl)) (untold c) (untold-right c m) no_counts
      (none_tallied (scrambles c) (eqb m by_default && eqb (known_number (untold c)) unknown_vector) _ (start (scrambles c)))
    where
      start : (t : Bool) → pick t 0 superframe_slots % superframe_slots ≡ 0
      start true = refl
      start false = refl

      go : (t : Bool) → scrambles c ≡ t → pick t 0 superframe_slots < session_slots c
      go true e = slots_some c ranged
      go false e = slots_more c ranged e

  begun-good : (w : List ℕ) → NoneHolds (zero_refusals (eqb end sending_end) c w) → good_call (written no_counts (begun end terms (session_vector c w))) ≡ true
  unfolding zero_refusals counts_right
  begun-good w = go (eqb end sending_end) refl
    where
      go : (t : Bool) → eqb end sending_end ≡ t → NoneHolds (pick t ((zero_for c w, ZeroVector) ∷ []) [])
          → good_call (written no_counts (pick t (sending terms 0 (session_vector c w)) (receiving terms 0 (told (session_vector c w))))) ≡ true
      go true e n = good-sender terms 0 (placed (rw (eqb-true end sending_end e) at right) (slots_some c ranged)) (session_vector c w) (sent_right_lem c w n.0) no_counts
      go false e n = good_receiver terms 0 (placed (heard-terms end r m right) (slots_some c ranged)) (told (session_vector c w)) (heard-right c m w) no_counts (none_tallied (scrambles c) (eqb m by_default && false) 0 refl)

-- by its fields: scramble is at position 0 and was told zeros, DES and AES are at 4 and know nothing
joined_fields : (t : Terms) → written no_counts (joined t) ≡ call_at receiving_end t (pick (scrambles t.cipher) 0 4) (pick (scrambles t.cipher) told_vector unknown_vector) no_vector no_counts
joined_fields t = go (scrambles t.cipher)
  where
    go : (s : Bool) → written no_counts (receiving t (pick s 0 4) (pick s (told no_vector) unknown)) ≡ call_at receiving_end t (pick s 0 4) (pick s told_vector unknown_vector) no_vector no_counts
    go true = refl
    go false = refl

-- what an opening that is done leaves, whatever the call before it: a good call, under the terms that it was given
module _ (call : Call) (c i r : ℕ) (b : List ℕ) where
  abbrev Leaves : Answer × Call → Call → Type 0
  Leaves o d = number_of o.0 ≡ 0 → (good_call o.1 ≡ true) × (o.1 ≡ d)

  pub join_leaves : (m : ℕ) → Leaves (join_of call c i r m b) (call_at receiving_end (terms_of c (key_for b c i) r m) (pick (scrambles c) 0 4) (pick (scrambles c) told_vector unknown_vector) no_vector no_counts)
  unfolding join_of join_refusals key_refusals
  join_leaves m =
      let its = terms_of c (key_for b c i) r m in
      let asked = key_refusals (terms_right receiving_end r m) (is_bad (standing call)) (stands (standing call)) c i b in
      by_refusals (λ o. Leaves o (call_at receiving_end its (pick (scrambles c) 0 4) (pick (scrambles c) told_vector unknown_vector) no_vector no_counts)) call asked (Done, written no_counts (joined its))
      (λ a h z. absurd (omega (arith, among_refuses a asked refl h)))
      (λ n z. (joined-good receiving_end (is_bad (standing call)) (stands (standing call)) c i r m b n, joined_fields its))

  begun-leaves : (end m : ℕ) (w : List ℕ) → Leaves (begun_of end call c i r m w b) (written no_counts (begun end (terms_of c (key_for b c i) r m) (session_vector c w)))
  unfolding begun_refusals vector_refusals
  begun-leaves end m w =
      let last = written no_counts (begun end (terms_of c (key_for b c i) r m) (session_vector c w)) in
      let asked = key_refusals (terms_right end r m) (is_bad (standing call)) (stands (standing call)) c i b in
      let zeros = zero_refusals (eqb end sending_end) c w in
      by_refusals (λ o. Leaves o last) call (begun_refusals end (standing call) c i r m w b) (Done, last)
      (λ a h z. absurd (omega (arith, among_refuses a (begun_refusals end (standing call) c i r m w b) (vector-from-two (terms_right end r m) (is_bad (standing call)) (stands (standing call)) c i b w (eqb end sending_end)) h)))
      (λ n z. (begun-good end (is_bad (standing call)) (stands (standing call)) c i r m b (none_left asked zeros n.1) w (none_right asked zeros n.1), refl))

  pub open_leaves : (m : ℕ) (w : List ℕ) → Leaves (open_of call c i r m w b) (call_at receiving_end (terms_of c (key_for b c i) r m) 0 told_vector (session_vector c w) no_counts)
  unfolding open_of
  open_leaves = begun-leaves receiving_end

  pub start_leaves : (w : List ℕ) → Leaves (start_of call c i r w b) (call_at sending_end (terms_of c (key_for b c i) r by_default) 0 told_vector (session_vector c w) no_counts)
  unfolding start_of
  start_leaves = begun-leaves sending_end by_default

module _ (call : Call) (good : good_call call ≡ true) (c i r : ℕ) (b : List ℕ) where
  pub join_good : (m : ℕ) → good_call (join_of call c i r m b).1 ≡ true
  unfolding join_of join_refusals
  join_good m =
      kept (λ d. d) call (join_refusals (standing call) c i r m b) (Done, written no_counts (joined (terms_of c (key_for b c i) r m))) good
      (joined-good receiving_end (is_bad (standing call)) (stands (standing call)) c i r m b)

  begun_kept : (end m : ℕ) (w : List ℕ) → good_call (begun_of end call c i r m w b).1 ≡ true
  unfolding begun_refusals vector_refusals
  begun_kept end m w =
      let asked = key_refusals (terms_right end r m) (is_bad (standing call)) (stands (standing call)) c i b in
      let zeros = zero_refusals (eqb end sending_end) c w in
      kept (λ d. d) call (begun_refusals end (standing call) c i r m w b) (Done, written no_counts (begun end (terms_of c (key_for b c i) r m) (session_vector c w))) good
      (λ n. begun-good end (is_bad (standing call)) (stands (standing call)) c i r m b (none_left asked zeros n.1) w (none_right asked zeros n.1))

  pub open_good : (m : ℕ) (w : List ℕ) → good_call (open_of call c i r m w b).1 ≡ true
  unfolding open_of
  open_good = begun_kept receiving_end

  pub start_good : (w : List ℕ) → good_call (start_of call c i r w b).1 ≡ true
  unfolding start_of
  start_good = begun_kept sending_end by_default
