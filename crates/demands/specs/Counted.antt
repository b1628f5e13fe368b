-- How much was kept (document 02, W-207), of any device: what became of each word that a receiving call was told of since it was opened, by what was asked and
-- answered alone; what end hands out of it; and where its slots end.
use Rattle.std.specs.Prelude.{◌≡◌, List, [], ◌∷◌, ◌++◌, Bool, true, false, ◌&&◌, ℕ, ◌+◌, ◌≤◌, ◌<◌, ltb, eqb, length}
use Rattle.octets.specs.Tests.{pick}
use Rattle.answers.specs.declared.Answer.{Answer}
use Rattle.answers.specs.Numbers.{number_of, is_done}
use Rattle.calls.specs.Counts.{in_mask}
use Rattle.nxdn.specs.Operations.{CallOperation, Open, Start, Join, Voice, Lost, End, Announce, NextVector}
use Rattle.demands.specs.Device.{Operation, OfBook, OfScreen, OfCall, OfPacket, Step, History, device_after, history}
use Rattle.demands.specs.Demand1.{renews_call}
use Rattle.demands.specs.Rates.{layout}

-- ---- the history of slots

-- a slot: one that arrived, with its mask and whether it was opened or else held; or a lost one
pub data Slot : Type 0 where
  arrived : ℕ → Bool → Slot
  missed : Slot

-- the slot of an operation on a call, if it was taken: a voice slot is by 0 or 1, a lost one by 0
abbrev pub slot_of : CallOperation → Answer → List Slot
slot_of (Open c i r s w) a = []
slot_of (Start c i r w) a = []
slot_of (Join c i r s) a = []
slot_of (Voice mask frame) a = pick (ltb (number_of a) 2) (arrived mask (is_done a) ∷ []) []
slot_of Lost a = pick (is_done a) (missed ∷ []) []
slot_of End a = []
slot_of (Announce w) a = []
slot_of (NextVector out) a = []

abbrev pub slot_for : ℕ → Operation → Answer → List Slot
slot_for n (OfBook o) a = []
slot_for n (OfScreen o) a = []
slot_for n (OfCall m o) a = pick (eqb m n) (slot_of o a) []
slot_for n (OfPacket m o) a = []

-- it opens a call to receive
abbrev pub to_receive : CallOperation → Bool
to_receive (Open c i r s w) = true
to_receive (Start c i r w) = false
to_receive (Join c i r s) = true
to_receive (Voice mask frame) = false
to_receive Lost = false
to_receive End = false
to_receive (Announce w) = false
to_receive (NextVector out) = false

abbrev pub opens_to_receive : Operation → Bool
opens_to_receive (OfBook o) = false
opens_to_receive (OfScreen o) = false
opens_to_receive (OfCall m o) = to_receive o
opens_to_receive (OfPacket m o) = false

-- call n was opened to receive, and not ended since
unfoldable pub receives_in : ℕ → History → Bool
receives_in n [] = false
receives_in n (x ∷ h) = pick (is_done x.1 && renews_call n x.0) (opens_to_receive x.0) (receives_in n h)

-- the rate that an opening names
abbrev pub rate_named : CallOperation → ℕ
rate_named (Open c i r s w) = r
rate_named (Start c i r w) = r
rate_named (Join c i r s) = r
rate_named (Voice mask frame) = 0
rate_named Lost = 0
rate_named End = 0
rate_named (Announce w) = 0
rate_named (NextVector out) = 0

abbrev pub opens_at : Operation → ℕ
opens_at (OfBook o) = 0
opens_at (OfScreen o) = 0
opens_at (OfCall m o) = rate_named o
opens_at (OfPacket m o) = 0

-- at which call n was opened
unfoldable pub rate_in : ℕ → History → ℕ
rate_in n [] = 0
rate_in n (x ∷ h) = pick (is_done x.1 && renews_call n x.0) (opens_at x.0) (rate_in n h)

-- the slots of call n since it was opened to receive, the latest first. A sender's are not counted, and a call that was ended has none
unfoldable pub slots_in : ℕ → History → List Slot
slots_in n [] = []
slots_in n (x ∷ h) = pick (is_done x.1 && renews_call n x.0) [] (pick (receives_in n h) (slot_for n x.0 x.1) [] ++ slots_in n h)

-- ---- what became of each of their words

pub data Fate : Type 0 where
  opened held replaced lost : Fate

-- a word that the mask doesn't have was replaced, whether its slot was opened or held
abbrev pub fate_of : Slot → ℕ → Fate
fate_of (arrived mask known) w = pick (in_mask mask w) (pick known opened held) replaced
fate_of missed w = lost

abbrev pub fates : List Slot → List Fate
fates [] = []
fates (x ∷ xs) = fate_of x 0 ∷ fate_of x 1 ∷ fate_of x 2 ∷ fate_of x 3 ∷ fates xs

-- its place among the four counts
abbrev pub place_of : Fate → ℕ
place_of opened = 0
place_of held = 1
place_of replaced = 2
place_of lost = 3

-- how many words came to this
abbrev pub how_many : Fate → List Fate → ℕ
how_many f [] = 0
how_many f (g ∷ gs) = pick (eqb (place_of f) (place_of g)) 1 0 + how_many f gs

-- opened, held, replaced and lost, in this order
abbrev pub four_counts : List Slot → List ℕ
four_counts xs = how_many opened (fates xs) ∷ how_many held (fates xs) ∷ how_many replaced (fates xs) ∷ how_many lost (fates xs) ∷ []

-- ---- what is asked of a device

-- call n receives, and was told of 1,000,000 slots
pub record AtLimit (n : ℕ) (h : History) : Type 0 where
  pub receives : receives_in n h ≡ true
  pub full : length (slots_in n h) ≡ 1000000

pub record Counted (st : Step) : Type 0 where
  -- over every list of operations from an all-zero book with no call and no packet: where end is done, it hands out the counts of the history
  pub handed : (os : List Operation) (n : ℕ) → number_of (st (device_after st os) (OfCall n End)).0 ≡ 0
      → (st (device_after st os) (OfCall n End)).1.1 ≡ four_counts (slots_in n (history st os))
  -- a call that receives can be ended
  pub ended : (os : List Operation) (n : ℕ) → receives_in n (history st os) ≡ true → number_of (st (device_after st os) (OfCall n End)).0 ≡ 0
  -- no receiving call has more than 1,000,000 slots, and below them a lost one is taken
  pub limit : (os : List Operation) (n : ℕ) → length (slots_in n (history st os)) ≤ 1000000
  pub taken : (os : List Operation) (n : ℕ) → receives_in n (history st os) ≡ true → length (slots_in n (history st os)) < 1000000
      → number_of (st (device_after st os) (OfCall n Lost)).0 ≡ 0
  -- and so is a voice slot with a right mask and a frame as long as the rate has it
  pub arrives : (os : List Operation) (n mask : ℕ) (frame : List ℕ) → receives_in n (history st os) ≡ true → length (slots_in n (history st os)) < 1000000
      → mask ≤ 15 → length frame ≡ (layout (rate_in n (history st os))).frame → number_of (st (device_after st os) (OfCall n (Voice mask frame))).0 < 2
  -- a slot is 16 there, and nowhere else
  pub lost-past : (os : List Operation) (n : ℕ)
      → (number_of (st (device_after st os) (OfCall n Lost)).0 ≡ 16 → AtLimit n (history st os))
      × (AtLimit n (history st os) → number_of (st (device_after st os) (OfCall n Lost)).0 ≡ 16)
  pub voice_past : (os : List Operation) (n mask : ℕ) (frame : List ℕ)
      → (number_of (st (device_after st os) (OfCall n (Voice mask frame))).0 ≡ 16 → (mask ≤ 15) × AtLimit n (history st os))
      × ((mask ≤ 15) × AtLimit n (history st os) → number_of (st (device_after st os) (OfCall n (Voice mask frame))).0 ≡ 16)
