-- Demand 3, what was said (document 01, "Voice"): one call of a sender that keeps the rules, and what the channel let through.
use Rattle.std.specs.Prelude.{◌≡◌, List, [], ◌∷◌, ◌++◌, map, Bool, true, ℕ, suc, ◌+◌, ◌-◌, ◌*◌, ◌≤◌, ◌<◌, length, replicate}
use Rattle.octets.specs.Bits.{bit, flip}
use Rattle.octets.specs.Lists.{Each}
use Rattle.sizes.specs.Ciphers.{key_octets, session_slots, key_room, vector_octets}
use Rattle.ciphers.specs.Keystream.{stream}
use Rattle.keyentry.specs.Entry.{is_ready}
use Rattle.keybook.specs.Book.{good_book}
use Rattle.keybook.specs.Operations as book
use Rattle.calls.specs.Counts.{in_mask}
use Rattle.openings.specs.Ladder.{key_for}
use Rattle.demands.specs.Rates.{Layout, layout, FrameAt}

-- a slot: its mask, the frame of four words that the sender spoke, the frame that it put on the air, and whether that arrived
pub record Slot : Type 0 where
  pub mask : ℕ
  pub spoken : List ℕ
  pub sent : List ℕ
  pub arrived : Bool

-- a session: its vector, whether the announcement of that vector arrived, and its slots
pub record Session : Type 0 where
  pub vector : List ℕ
  pub announced : Bool
  pub slots : List Slot

-- one call of a sender: cipher type, rate, the key's octets, and the sessions
pub record Talk : Type 0 where
  pub cipher : ℕ
  pub rate : ℕ
  pub key : List ℕ
  pub sessions : List Session

-- how the receiver comes in: it hears the opening, or joins at the end of the first superframe of session n, counted from 0
pub data WayIn : Type 0 where
  opening : WayIn
  joining : ℕ → WayIn

-- ---- the sender keeps the rules

-- what goes on the air in slot p of a session with keystream ks. Nothing is asked of a word that the mask doesn't have: it gave way to signalling
pub record OnAir (l : Layout) (ks : ℕ → ℕ) (p : ℕ) (x : Slot) : Type 0 where
  -- bit j of word w, where it is speech: the spoken bit xor stream bit 196 p + 49 w + j, or at full rate 288 p + 72 w + j
  pub speech : (w j : ℕ) → w < 4 → j < l.speech → in_mask x.mask w ≡ true
      → bit x.sent (l.bits * w + j) ≡ flip (bit x.spoken (l.bits * w + j)) (ks (l.slot * p + l.speech * w + j))
  -- the spare bits of the word, as spoken: at half rate its last seven, at full rate there are none
  pub spare : (w j : ℕ) → w < 4 → l.speech ≤ j → j < l.bits → in_mask x.mask w ≡ true
      → bit x.sent (l.bits * w + j) ≡ bit x.spoken (l.bits * w + j)

pub record SlotKept (l : Layout) (ks : ℕ → ℕ) (p : ℕ) (x : Slot) : Type 0 where
  pub mask : x.mask ≤ 15
  pub spoken : FrameAt l x.spoken
  pub sent : FrameAt l x.sent
  pub air : OnAir l ks p x

-- the slots of a session from slot p on
abbrev pub SlotsKept : Layout → (ℕ → ℕ) → ℕ → List Slot → Type 0
SlotsKept l ks p [] = Unit {0}
SlotsKept l ks p (x ∷ xs) = SlotKept l ks p x × SlotsKept l ks (suc p) xs

-- a vector has eight octets. It may be zeros (document 02, W-204), and scramble ignores it
pub record SessionKept (l : Layout) (c : ℕ) (key : List ℕ) (x : Session) : Type 0 where
  pub vector : length x.vector ≡ vector_octets
  pub slots : SlotsKept l (stream c key x.vector) 0 x.slots

-- of sessions with so many slots each, every one has all of its cipher's; the last may have fewer
abbrev pub Full : ℕ → List ℕ → Type 0
Full c [] = Unit {0}
Full c (n ∷ []) = n ≤ session_slots c
Full c (n ∷ m ∷ ms) = (n ≡ session_slots c) × Full c (m ∷ ms)

abbrev pub slot_counts : List Session → List ℕ
slot_counts = map (λ x. length x.slots)

pub record Kept (t : Talk) : Type 0 where
  pub rate : t.rate ≤ 1
  pub key : length t.key ≡ key_octets t.cipher
  pub each : Each (SessionKept (layout t.rate) t.cipher t.key) t.sessions
  pub full : Full t.cipher (slot_counts t.sessions)

-- ---- a receiver with the same key

-- a good book whose ready entry for a cipher and a key ID holds this key, with zeros behind it
pub record HasKey (b : List ℕ) (c i : ℕ) (key : List ℕ) : Type 0 where
  pub good : good_book b ≡ true
  pub there : book.has_entry b c i ≡ true
  pub ready : is_ready (book.entry_for b c i) ≡ true
  pub same : key_for b c i ≡ key ++ replicate (key_room - key_octets c) 0
