-- Slot operations that demand 2 throws out, receivers that demand 3 throws out, and senders that do not keep its rules (document 01, "How tight
-- each statement is" and "Readings to shut out"; versions two and three of the user's words).
use Rattle.std.specs.Prelude.{◌≡◌, true, ◌&&◌, not, ◌⊎◌, List, ℕ, suc, ◌+◌, ◌*◌, ◌/◌, ◌%◌, ◌<◌, ltb, eqb}
use Rattle.octets.specs.Tests.{pick}
use Rattle.octets.specs.Bits.{bit}
use Rattle.answers.specs.declared.Answer.{Answer}
use Rattle.answers.specs.Numbers.{number_of}
use Rattle.generator.specs.Generator.{next_vector}
use Rattle.sizes.specs.Ciphers.{session_slots}
use Rattle.calls.specs.declared.call.Call.{Call}
use Rattle.sizes.specs.Frame.{width}
use Rattle.calls.specs.Counts.{in_mask, words_before}
use Rattle.voice.specs.Frame.{of_slot, protect}
use Rattle.calls.specs.Call.{carried_vector, call_at, no_call}
use Rattle.calls.specs.Opening.{open_of}
use Rattle.voice.specs.Slot.{lost_of, voice_of}
use Rattle.calls.specs.Vector.{announce_of}
use Rattle.demands.specs.Demand2.{OnSlot}
use Rattle.demands.specs.Rates.{Layout, layout}
use Rattle.demands.specs.Talk.{Session, Talk}
use Rattle.demands.specs.Log.{Receiver}
use Rattle.demands.specs.Demand3.{MeetsTalk, ours_in}
use Rattle.demands.specs.Demand3Default.{Generated, MeetsTalkDefault, handset}

-- two frames have the same speech, spare bits and other words aside
abbrev pub SameSpeech : Layout → ℕ → List ℕ → List ℕ → Type 0
SameSpeech l mask f g = (w j : ℕ) → w < 4 → j < l.speech → in_mask mask w ≡ true → bit f (l.bits * w + j) ≡ bit g (l.bits * w + j)

-- ---- a slot operation that, at a call and a mask, answers 0 wherever ours does, and whose speech is that of `out` of what came

abbrev pub Leaving : OnSlot → Call → ℕ → (List ℕ → List ℕ) → Type 0
Leaving voice call mask out = (frame : List ℕ) → number_of (voice_of call mask frame).0 ≡ 0
    → (number_of (voice call mask frame).0 ≡ 0) × SameSpeech (layout call.terms.rate) mask (voice call mask frame).1.1 (out frame)

-- whatever came, one frame
abbrev pub Fixed : OnSlot → Call → ℕ → List ℕ → Type 0
Fixed voice call mask g = Leaving voice call mask (λ frame. g)

-- as it came
abbrev pub AsItCame : OnSlot → Call → ℕ → Type 0
AsItCame voice call mask = Leaving voice call mask (λ frame. frame)

-- ours, but that it leaves one frame
abbrev pub fixing : List ℕ → OnSlot
fixing g call mask frame =
    let o = voice_of call mask frame in
    (o.0, (o.1.0, g))

-- ours before slot n of each session, and then it only moves its position
abbrev pub only_moves : ℕ → OnSlot
only_moves n call mask frame =
    let o = voice_of call mask frame in
    pick (ltb call.position n) o (o.0, (o.1.0, frame))

-- ---- demand 3, of the calls of one cipher at one rate

abbrev pub MeetsIn : ℕ → ℕ → Receiver → Type 0
MeetsIn c r R = (t : Talk) → t.cipher ≡ c → t.rate ≡ r → MeetsTalk R t

-- in the default way, and either of the two
abbrev pub MeetsDefaultIn : (Session → Session → Type 0) → ℕ → ℕ → Receiver → Type 0
MeetsDefaultIn P c r R = (t : Talk) → t.cipher ≡ c → t.rate ≡ r → MeetsTalkDefault P R t

abbrev pub MeetsEither : ℕ → ℕ → Receiver → Type 0
MeetsEither c r R = MeetsIn c r R ⊎ MeetsDefaultIn Generated c r R

-- a receiver whose answer 0 comes with the speech of `out` of what came, at rate r
abbrev pub Handing : ℕ → Receiver → (List ℕ → List ℕ) → Type 0
Handing r R out = (mask : ℕ) (frame : List ℕ) (s : R.State) → number_of (R.voice mask frame s).0 ≡ 0
    → SameSpeech (layout r) mask (R.voice mask frame s).1.1 (out frame)

-- ---- a receiver that is any other for its first slots, and then only moves its position

-- R for the first slots of a call, as many as `first` says for the cipher; then it answers anything, leaves the frame as it came and moves on
abbrev pub up_to : (R : Receiver) → (ℕ → ℕ) → (ℕ → List ℕ → R.State → Answer) → Receiver
up_to R first answer =
    record {
      -- slots passed, slots to pass, and R's own
      State = ℕ × ℕ × R.State;
      idle = (0, 0, R.idle);
      hear = λ c i r v b s. ((R.hear c i r v b s.2).0, (0, first c, (R.hear c i r v b s.2).1));
      join = λ c i r b s. ((R.join c i r b s.2).0, (0, first c, (R.join c i r b s.2).1));
      voice =
          λ mask frame s.
          let r = R.voice mask frame s.2 in
          pick (ltb s.0 s.1) (r.0, ((suc s.0, s.1, r.1.0), r.1.1)) (answer mask frame s.2, ((suc s.0, s.1, (R.lost s.2).1), frame));
      lost = λ s. ((R.lost s.2).0, (suc s.0, s.1, (R.lost s.2).1));
      announce = λ v s. ((R.announce v s.2).0, (s.0, s.1, (R.announce v s.2).1));
    }

-- the first n slots
abbrev pub up_to_slots : (R : Receiver) → ℕ → (ℕ → List ℕ → R.State → Answer) → Receiver
up_to_slots R n = up_to R (λ c. n)

-- the first session
abbrev pub up_to_session : (R : Receiver) → (ℕ → List ℕ → R.State → Answer) → Receiver
up_to_session R = up_to R session_slots

-- ---- version three, strict or not: joining, it applies the announced vector w to the session in which it was sent, which is at its fifth slot

abbrev pub four_on : Call → Call
four_on s = (lost_of (lost_of (lost_of (lost_of s).1).1).1).1

abbrev pub at_once : ℕ → List ℕ → Receiver
at_once strictness w =
    record {
      State = Call;
      idle = no_call;
      hear = (ours_in strictness).hear;
      join = λ c i r b s. ((open_of s c i r strictness w b).0, four_on (open_of s c i r strictness w b).1);
      voice = λ mask frame s. voice_of s mask frame;
      lost = lost_of;
      announce = λ v s. announce_of s v;
    }

-- ---- ours in the default way, but that as a session ends it goes on with f of the last vector, and takes an announcement so

abbrev pub went_on : (List ℕ → List ℕ) → Call → Call → Call
went_on f s d =
    pick (eqb d.known carried_vector && (eqb d.position 0 && not (eqb s.position 0))) (call_at d.end d.terms 0 carried_vector (f s.vector) d.counts) d

abbrev pub going_on_with : (List ℕ → List ℕ) → (List ℕ → Call → Answer × Call) → Receiver
going_on_with f announce =
    record {
      State = Call;
      idle = no_call;
      hear = handset.hear;
      join = handset.join;
      voice = λ mask frame s. let o = voice_of s mask frame in (o.0, (went_on f s o.1.0, o.1.1));
      lost = λ s. let o = lost_of s in (o.0, went_on f s o.1);
      announce = announce;
    }

-- on S, and not L(S)
abbrev pub staying : Receiver
staying = going_on_with (λ v. v) handset.announce

-- an announcement is done, but the carried vector wins
abbrev pub stubborn : Receiver
stubborn = going_on_with next_vector (λ v s. let o = announce_of s v in (o.0, pick (eqb s.known carried_vector) s o.1))

-- ---- senders: what goes on the air, of the rate, a session's keystream, the slot, the mask and the spoken frame

abbrev pub Sending : Type 0
Sending = ℕ → (ℕ → ℕ) → ℕ → ℕ → List ℕ → List ℕ

-- the standard's
abbrev pub turning : Sending
turning r ks p mask frame = protect (width r) (of_slot (width r) ks p) mask frame

abbrev pub identity : Sending
identity r ks p mask frame = frame

-- the keystream begins anew in each slot
abbrev pub restarting : Sending
restarting r ks p mask frame = protect (width r) (of_slot (width r) ks 0) mask frame

-- version two: keystream is spent only on the words that are sent
abbrev pub saving : Sending
saving r ks p mask frame = protect (width r) (λ n. of_slot (width r) ks p (width r * words_before mask (n / width r) + n % width r)) mask frame
