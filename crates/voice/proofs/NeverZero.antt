-- A DES or AES sender never runs into a vector of zeros: it stays a good sender after every slot. (Why W-208 could retire 14.)
use mathlib.Core.Path.{◌≡◌, refl}
use mathlib.Core.Bool.{Bool, true, false}
use mathlib.Core.List.{List, ◌∷◌}
use Prim.Native.Nat.{ℕ, ◌+◌}
use lib.Dec.{ltb}
use lib.ListN.{replicate}
use Rattle.octets.specs.Tests.{pick, all_below}
use Rattle.octets.specs.Lists.{all_zero, iterate}
use Rattle.octets.specs.Bits.{bit, octet, octets_from}
use Rattle.octets.proofs.Zeros.{zeros-octets}
use Rattle.generator.specs.Generator.{IsVector, filled, announced, shifted, next_vector}
use Rattle.generator.proofs.VectorLaws.{next-is-vector}
use Rattle.sizes.specs.Ciphers.{session_slots, no_vector, scrambles}
use Rattle.sizes.specs.Frame.{half_rate, is_rate}
use Rattle.answers.specs.declared.Answer.TheVariants.{Done}
use Rattle.answers.proofs.OutcomeLaws.{by_refusals}
use Rattle.ciphers.specs.Keys.{odd_octet, des_key, key_allowed, key_right}
use Rattle.openings.specs.Samples.{des_abcd}
use Rattle.calls.specs.declared.counts.Counts.{Counts}
use Rattle.calls.specs.declared.call.Terms.{Terms}
use Rattle.calls.specs.declared.call.Call.{Call}
use Rattle.calls.specs.Call.{sending_end, by_default, terms_right, vector_right, counts_right, closed_tests, open_tests, is_closed, is_open, good_call, Standing, sending, standing, terms_of, written, knows}
use Rattle.calls.specs.Counts.{no_counts, plus, arrived_words}
use Rattle.calls.proofs.CountLaws.{Fits, arrived-fits}
use Rattle.voice.specs.Slot.{going_on, slot_on, voice_refusals, voice_after, voice_by, voice_by_octets}
use Rattle.calls.specs.Vector.{next_refusals, next_vector_of}
use Rattle.calls.proofs.CallLaws.{is-sender}
use Rattle.voice.proofs.SlotLaws.{by_lent}
use Rattle.calls.proofs.GoodLaws.{VectorSent}
use Rattle.voice.proofs.SlotGood.{slot-good}

-- a good sender of these terms, whose vector is eight octets where it has one
pub record Sends (t : Terms) (c : Call) : Type 0 where
  pub good : good_call c ≡ true
  pub sends : c.end ≡ sending_end
  pub terms : c.terms ≡ t
  pub vector : VectorSent c

-- ---- a slot

pub zeros-vector : IsVector no_vector
zeros-vector = record { long = refl; octets = zeros-octets 8 }

pub going_vector : (c : ℕ) (v : List ℕ) → IsVector (going_on c v)
unfolding going_on
going_vector c v = go (scrambles c)
  where
    go : (b : Bool) → IsVector (pick b no_vector (next_vector v))
    go true = zeros-vector
    go false = next-is-vector v

module _ (t : Terms) (c : Call) (s : Sends t c) where
  -- one slot on
  sends-on : (w : Counts) → Fits (knows (standing c)) w → Sends t (written (plus c.counts w) (slot_on (standing c)))
  unfolding slot_on
  sends-on w fits = rw stood (go (ltb (c.position + 1) (session_slots c.terms.cipher)) (rw stood at (slot-good c s.good s.vector (rw stood) w fits)))
    where
      stood : standing c ≡ sending c.terms c.position c.vector
      stood = is-sender c s.good s.sends

      on : Bool → Standing
      on b = pick b (sending c.terms (c.position + 1) c.vector) (sending c.terms 0 (going_on c.terms.cipher c.vector))

      go : (b : Bool) → good_call (written (plus c.counts w) (on b)) ≡ true → Sends t (written (plus c.counts w) (on b))
      go true g = record { good = g; sends = refl; terms = s.terms; vector = λ e. s.vector s.sends }
      go false g = record { good = g; sends = refl; terms = s.terms; vector = λ e d. going_vector c.terms.cipher c.vector }

  -- after any slot, done or refused
  pub voice_sends : (st : Call → ℕ → ℕ) (mask : ℕ) (frame : List ℕ) → Sends t (voice_by st c mask frame).1.0
  unfolding voice_by
  voice_sends st mask frame =
      by_refusals (λ o. Sends t o.1.0) (c, frame) (voice_refusals c mask frame) (voice_after st mask frame c.counts (standing c)) (λ a m. s)
      (λ n. sends-on (arrived_words mask (knows (standing c))) (arrived-fits mask (knows (standing c))))

  pub voice_by_octets_sends : (session : List ℕ) (mask : ℕ) (frame : List ℕ) → Sends t (voice_by_octets session c mask frame).1.0
  voice_by_octets_sends session mask frame = by_lent session c mask frame (λ o. Sends t o.1.0) s (voice_sends (λ d. bit session) mask frame)

-- ---- octets it has to be

-- a DES sender at its session's last slot, with a list that is no octets: not all zero, and without a bit
abbrev beyond : Call
beyond = written no_counts (sending (terms_of 2 des_abcd half_rate by_default) 7 (256 ∷ replicate 7 0))

-- it is good, after a slot it is not, and its next vector is zeros
pub beyond-octets : (good_call beyond ≡ true) × (good_call (voice_by (λ c n. 0) beyond 0 (replicate 28 0)).1.0 ≡ false)
    × (next_vector_of beyond no_vector ≡ (Done, no_vector))
unfolding voice_by voice_refusals next_vector_of next_refusals standing slot_on going_on good_call is_closed closed_tests is_open open_tests key_right is_rate terms_right vector_right counts_right
    key_allowed des_key odd_octet all_zero all_below next_vector announced iterate shifted filled octets_from octet
beyond-octets = (refl, refl, refl)
