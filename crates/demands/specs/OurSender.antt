-- The call that our sender makes of what is said (document 01, "Voice", the sender): what its operations write goes on the air, and each session's vector is the one it stands with.
use Rattle.std.specs.Prelude.{◌≡◌, List, [], ◌∷◌, map, Bool, false, ℕ, ◌≤◌, ◌<◌, length}
use Rattle.octets.specs.Lists.{all_zero, Each}
use Rattle.generator.specs.Generator.{IsVector, next_vector}
use Rattle.sizes.specs.Ciphers.{scrambles}
use Rattle.openings.specs.Ladder.{session_vector}
use Rattle.calls.specs.declared.call.Call.{Call}
use Rattle.calls.specs.Counts.{in_mask}
use Rattle.calls.specs.Call.{no_call}
use Rattle.calls.specs.Opening.{start_of}
use Rattle.voice.specs.Slot.{voice_of}
use Rattle.demands.specs.Rates.{Layout, layout, FrameAt, word_at}
use Rattle.demands.specs.Talk.{Slot, Session, Talk, Full}

-- what is said in a slot, and whether the slot will arrive
pub record Said : Type 0 where
  pub mask : ℕ
  pub spoken : List ℕ
  pub arrives : Bool

-- what is said in a session, and whether the announcement of its vector will arrive
pub record Saying : Type 0 where
  pub announced : Bool
  pub slots : List Said

-- the slots that a sender makes from where it stands, and where it stands afterwards
abbrev pub slots_made : Call → List Said → List Slot
slots_made s [] = []
slots_made s (x ∷ xs) =
    let out = voice_of s x.mask x.spoken in
    record { mask = x.mask; spoken = x.spoken; sent = out.1.1; arrived = x.arrives } ∷ slots_made out.1.0 xs

abbrev pub afterwards : Call → List Said → Call
afterwards s [] = s
afterwards s (x ∷ xs) = afterwards (voice_of s x.mask x.spoken).1.0 xs

abbrev pub sessions_made : Call → List Saying → List Session
sessions_made s [] = []
sessions_made s (x ∷ xs) =
    record { vector = s.vector; announced = x.announced; slots = slots_made s x.slots } ∷ sessions_made (afterwards s x.slots) xs

-- a call from its start on: cipher, key, key ID, rate, vector, book
abbrev pub talk_made : ℕ → List ℕ → ℕ → ℕ → List ℕ → List ℕ → List Saying → Talk
talk_made c key i r v b said = record { cipher = c; rate = r; key = key; sessions = sessions_made (start_of no_call c i r v b).1 said }

-- ---- what is asked of those who speak

-- what our sender is started with: eight octets, for DES and AES not all zero
pub record StartVector (c : ℕ) (v : List ℕ) : Type 0 where
  pub vector : IsVector v
  pub some : scrambles c ≡ false → all_zero v ≡ false

pub record SaidKept (l : Layout) (x : Said) : Type 0 where
  pub mask : x.mask ≤ 15
  pub frame : FrameAt l x.spoken

-- what is said in a call of cipher c at rate r: masks and frames, and full sessions but for the last
pub record AllSaid (c r : ℕ) (said : List Saying) : Type 0 where
  pub each : Each (λ x. Each (SaidKept (layout r)) x.slots) said
  pub full : Full c (map (λ x. length x.slots) said)

-- ---- what our sender does besides keeping the rules

-- the vectors of the sessions are v, L(v), L(L(v)), ..; scramble's are zeros
abbrev pub Follows : ℕ → List ℕ → List Session → Type 0
Follows c v [] = Unit {0}
Follows c v (x ∷ xs) = (x.vector ≡ session_vector c v) × Follows c (next_vector v) xs

-- a word that the mask doesn't have goes out as it was spoken
abbrev pub OthersAsSpoken : Layout → Slot → Type 0
OthersAsSpoken l x = (w : ℕ) → w < 4 → in_mask x.mask w ≡ false → word_at l w x.sent ≡ word_at l w x.spoken
