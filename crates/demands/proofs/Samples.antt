-- Slots of silence and the seed of example 4, for the calls that show what is thrown out and what can be met.
use mathlib.Core.Path.{◌≡◌, refl, ap, ◌∙◌}
use mathlib.Core.Bool.{Bool}
use mathlib.Core.List.{List, [], ◌∷◌}
use Prim.Native.Nat.{ℕ, suc, ◌+◌, ◌*◌, ◌<◌}
use native.Mathlib.Omega.{arith}
use lib.ListN.{length, replicate, length-replicate}
use Rattle.octets.specs.Bits.{bit}
use Rattle.octets.proofs.TestLaws.{agree}
use Rattle.octets.proofs.Zeros.{octets_by, zeros-octets, zeros-bit}
use Rattle.octets.specs.Tests.{all_below}
use Rattle.octets.specs.Lists.{all_zero}
use Rattle.generator.specs.Generator.{IsVector}
use Rattle.sizes.specs.Frame.{width, frame_octets}
use Rattle.voice.specs.Frame.{of_slot}
use Rattle.voice.proofs.FrameLaws.{protect_frame}
use Rattle.openings.specs.Samples.{seed}
use Rattle.demands.specs.Rates.{Layout, layout, FrameAt}
use Rattle.demands.specs.Talk.{Slot, SlotKept, SlotsKept}
use Rattle.demands.specs.OurSender.{StartVector}
use Rattle.demands.specs.Others.{Sending, turning}
use Rattle.demands.proofs.Layouts.{layout_by, layout_is, by_layout}
use Rattle.demands.proofs.AirLaws.{frame_at, protected_air}

-- frames of a rate: of zeros, and one in which every bit is 1
abbrev pub silence : ℕ → List ℕ
silence r = replicate (layout r).frame 0

pub silence_frame : (r : ℕ) → FrameAt (layout r) (silence r)
silence_frame r = record { long = length-replicate (layout r).frame 0; octets = zeros-octets (layout r).frame }

pub silent_long : (r : ℕ) → length (silence r) ≡ frame_octets (width r)
silent_long r = (silence_frame r).long ∙ ap (λ (l : Layout). l.frame) (layout_is r)

abbrev pub loud : ℕ → List ℕ
loud r = replicate (layout r).frame 255

pub loud_frame : (r : ℕ) → FrameAt (layout r) (loud r)
unfolding all_below
loud_frame =
    by_layout (λ l. FrameAt l (replicate l.frame 255)) (record { long = refl; octets = octets_by (replicate 28 255) refl })
    (record { long = refl; octets = octets_by (replicate 36 255) refl })

-- the first bit of each word
pub first-bits : (r w : ℕ) → w < 4 → (bit (silence r) ((layout r).bits * w + 0) ≡ 0) × (bit (loud r) ((layout r).bits * w + 0) ≡ 1)
unfolding all_below
first-bits r w l = (
  zeros-bit (layout r).frame ((layout r).bits * w + 0),
  by_layout (λ l. bit (replicate l.frame 255) (l.bits * w + 0) ≡ 1)
      (agree (λ w. bit (replicate 28 255) (56 * w + 0)) (λ w. 1) 4 refl w l) (agree (λ w. bit (replicate 36 255) (72 * w + 0)) (λ w. 1) 4 refl w l) r,
)

-- slot p, of which every word is voice, as a sender sends it
abbrev pub saying : Sending → ℕ → List ℕ → (ℕ → ℕ) → ℕ → Bool → Slot
saying send r frame ks p arrived = record { mask = 15; spoken = frame; sent = send r ks p 15 frame; arrived = arrived }

-- a run of such slots that all say one frame, from slot p on: which of them arrive
abbrev pub repeating : ℕ → List ℕ → (ℕ → ℕ) → ℕ → List Bool → List Slot
repeating r frame ks p [] = []
repeating r frame ks p (a ∷ rest) = saying turning r frame ks p a ∷ repeating r frame ks (suc p) rest

module _ (r : ℕ) (frame : List ℕ) (f : FrameAt (layout r) frame) (ks : ℕ → ℕ) where
  pub saying-kept : (p : ℕ) (arrived : Bool) → SlotKept (layout r) ks p (saying turning r frame ks p arrived)
  saying-kept p arrived =
      let g : FrameAt (layout_by (width r)) frame = rw (layout_is r) at f in
      rw (layout_is r)
      (record {
        mask = omega arith;
        spoken = g;
        sent = frame_at (width r) (protect_frame (width r) (of_slot (width r) ks p) 15 frame g.long);
        air = protected_air (width r) ks p (saying turning r frame ks p arrived) g.long refl;
      })

  pub repeating-kept : (p : ℕ) (arriving : List Bool) → SlotsKept (layout r) ks p (repeating r frame ks p arriving)
  repeating-kept p [] = tt
  repeating-kept p (a ∷ rest) = (saying-kept p a, repeating-kept (suc p) rest)

module _ (r : ℕ) (ks : ℕ → ℕ) where
  abbrev pub quiet : ℕ → List Bool → List Slot
  quiet = repeating r (silence r) ks

  pub quiet-kept : (p : ℕ) (arriving : List Bool) → SlotsKept (layout r) ks p (quiet p arriving)
  quiet-kept = repeating-kept r (silence r) (silence_frame r) ks

  pub quiet_long : (p : ℕ) (arriving : List Bool) → length (quiet p arriving) ≡ length arriving
  quiet_long p [] = refl
  quiet_long p (a ∷ rest) = ap suc (quiet_long (suc p) rest)

pub seed-vector : IsVector seed
unfolding all_below
seed-vector = record { long = refl; octets = octets_by seed refl }

pub seed_starts : (c : ℕ) → StartVector c seed
unfolding all_zero all_below
seed_starts c = record { vector = seed-vector; some = λ e. refl }
