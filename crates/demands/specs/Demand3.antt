-- Demand 3, of any receiver that holds where no vector was told; and our receiver, by the definitions that the operations' contracts cite: the strict one,
-- which the recorder and slotcheck are.
use Rattle.std.specs.Prelude.{◌≡◌, List, true, false, ℕ, ◌<◌}
use Rattle.answers.specs.Numbers.{number_of}
use Rattle.calls.specs.declared.call.Call.{Call}
use Rattle.calls.specs.Counts.{in_mask}
use Rattle.calls.specs.Call.{no_call}
use Rattle.calls.specs.Opening.{open_of, join_of}
use Rattle.voice.specs.Slot.{lost_of, voice_of}
use Rattle.calls.specs.Vector.{announce_of}
use Rattle.octets.specs.Lists.{Each}
use Rattle.demands.specs.Rates.{layout, word_at}
use Rattle.demands.specs.Talk.{Talk, WayIn, Kept, HasKey}
use Rattle.demands.specs.Notices.{WithinLimit}
use Rattle.demands.specs.Log.{Receiver, Report, Event, answered, arrived, talk_log}

pub record RightSlot (r : Report) : Type 0 where
  -- every word handed out as opened is the word the sender spoke, whole
  pub opened : number_of r.answer ≡ 0 → (w : ℕ) → w < 4 → in_mask r.mask w ≡ true
      → word_at (layout r.rate) w r.frame ≡ word_at (layout r.rate) w r.spoken
  -- each word that arrives in a session whose vector reached the receiver is handed out
  pub handed : r.reached ≡ true → number_of r.answer ≡ 0
  -- each word that arrives in another session is held as it came
  pub held : r.reached ≡ false → (number_of r.answer ≡ 1) × (r.frame ≡ r.came)

-- the opening or joining, a lost slot and a timely announcement are done
abbrev pub Right : Event → Type 0
Right (answered a) = number_of a ≡ 0
Right (arrived r) = RightSlot r

-- one call of a sender that keeps the rules, a receiver with the same key and at the same rate, and either way in, up to the slot limit
abbrev pub MeetsTalk : Receiver → Talk → Type 0
MeetsTalk R t = Kept t → (b : List ℕ) (i : ℕ) → HasKey b t.cipher i t.key → (e : WayIn) → WithinLimit t e → Each Right (talk_log R b i t e)

abbrev pub Meets3 : Receiver → Type 0
Meets3 R = (t : Talk) → MeetsTalk R t

abbrev pub ours_in : ℕ → Receiver
ours_in strictness =
    record {
      State = Call;
      idle = no_call;
      hear = λ c i rate v b s. open_of s c i rate strictness v b;
      join = λ c i rate b s. join_of s c i rate strictness b;
      voice = λ mask frame s. voice_of s mask frame;
      lost = lost_of;
      announce = λ v s. announce_of s v;
    }

-- 1 is strict
abbrev pub ours : Receiver
ours = ours_in 1
