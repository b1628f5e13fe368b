-- Demands 2 and 3 of what a host keeps: octets, and the functions of the interface, each by the definition that its contract cites.
use Rattle.std.specs.Prelude.{◌≡◌, List, [], ◌∷◌, true, false, ℕ, suc, get_or, replicate}
use Rattle.octets.specs.Lists.{Each}
use Rattle.answers.specs.declared.Answer.{Answer}
use Rattle.answers.specs.declared.Answer.TheVariants.{Done, Held, WrongLength, OutOfRange, Bad, NoEntry, NotReady, NotAllowed, ZeroVector, NotNow, BadMask, Already, Full, TooMany, Malformed, PastLimit, BadName}
use Rattle.sizes.specs.Ciphers.{scrambles}
use Rattle.hearing.specs.Hearing.{call_of}
use Rattle.held.specs.Call.{call_octets, hearing_in}
use Rattle.held.specs.Packet.{packet_in}
use Rattle.nxdn.specs.Operations.{Open, Join, Voice, Lost, Message}
use Rattle.nxdn.specs.Interface.{Asked, Of, Heard, on_call}
use Rattle.demands.specs.Rates.{layout}
use Rattle.demands.specs.Talk.{Talk, WayIn, Kept, HasKey}
use Rattle.demands.specs.Notices.{WithinLimit}
use Rattle.demands.specs.Log.{Receiver}
use Rattle.demands.specs.Demand2.{OnSlot, OnMessage, VoiceBits, DataBits}
use Rattle.demands.specs.Demand3.{Right}
use Rattle.demands.specs.Demand3Default.{Successive, GeneratedOrAnnounced, heard_from}
use Rattle.demands.specs.ToldWhenHeard.{AnyPlace, heard_log, left}
use Rattle.demands.specs.Host.{Host, Function, Keys, Screen, OnCall, LookAt, OnPacket, host_step, Calls}

-- the answer with a number of the table; any other number is read as the program's, which no operation gives
abbrev pub numbered : ℕ → Answer
numbered n =
    get_or (Done ∷ Held ∷ WrongLength ∷ OutOfRange ∷ Bad ∷ NoEntry ∷ NotReady ∷ NotAllowed ∷ ZeroVector ∷ NotNow
    ∷ BadMask ∷ Already ∷ Full ∷ TooMany ∷ Malformed ∷ Malformed ∷ PastLimit ∷ BadName ∷ []) n Malformed

-- ---- a receiver that is 71 octets

abbrev pub octets_in : ℕ → Receiver
octets_in strictness =
    record {
      State = List ℕ;
      idle = replicate call_octets 0;
      hear = λ c i rate v b x. let r = on_call b (Of (Open c i rate strictness v)) x [] in (numbered r.0, r.1.0);
      join = λ c i rate b x. let r = on_call b (Of (Join c i rate strictness)) x [] in (numbered r.0, r.1.0);
      voice = λ mask frame x. let r = on_call [] (Of (Voice mask frame)) x frame in (numbered r.0, r.1);
      lost = λ x. let r = on_call [] (Of Lost) x [] in (numbered r.0, r.1.0);
      announce = λ v x. let r = on_call [] (Heard v) x [] in (numbered r.0, r.1.0);
    }

-- ---- a receiver that is one call of a host, which does anything else in between

abbrev pub Beside : ℕ → Function → Type 0
Beside n (Keys o) = Unit {0}
Beside n (Screen o) = Unit {0}
Beside n (OnCall m a) = m ≡ n → ⊥
Beside n (LookAt m l) = Unit {0}
Beside n (OnPacket m o) = Unit {0}

-- the host after more functions, the latest first
unfoldable pub gone_on : Host → Calls → Host
gone_on h [] = h
gone_on h (f ∷ fs) = (host_step (gone_on h fs) f.0 f.1).1.0

-- how many functions of the call there were, and the host; what else it calls after each of them
abbrev pub call_on : ℕ → (ℕ → Calls) → Asked → List ℕ → ℕ × Host → Answer × ((ℕ × Host) × List ℕ)
call_on n between a l s =
    let r = host_step s.1 (OnCall n a) l in (numbered r.0, ((suc s.0, gone_on r.1.0 (between s.0)), r.1.1))

-- its own book is the one that an opening reads
abbrev pub host_in : ℕ → ℕ → (ℕ → Calls) → Host → Receiver
host_in strictness n between h =
    record {
      State = ℕ × Host;
      idle = (0, h);
      hear = λ c i rate v b s. left (call_on n between (Of (Open c i rate strictness v)) [] s);
      join = λ c i rate b s. left (call_on n between (Of (Join c i rate strictness)) [] s);
      voice = λ mask frame s. call_on n between (Of (Voice mask frame)) frame s;
      lost = λ s. left (call_on n between (Of Lost) [] s);
      announce = λ v s. left (call_on n between (Heard v) [] s);
    }

-- any host one of whose calls is zeros and whose book has the key; strict is 1, the default 0
pub record HostDemand3 : Type 0 where
  pub recorder : (h : Host) (n : ℕ) → h.calls n ≡ replicate call_octets 0 → (between : ℕ → Calls) → ((k : ℕ) → Each (λ f. Beside n f.0) (between k))
      → (t : Talk) → Kept t → (i : ℕ) → HasKey h.book t.cipher i t.key → (e : WayIn) → WithinLimit t e
      → (places : ℕ → ℕ) → AnyPlace places (heard_from e t.sessions) → Each Right (heard_log false (host_in 1 n between h) h.book i t e places)
  pub handset : (h : Host) (n : ℕ) → h.calls n ≡ replicate call_octets 0 → (between : ℕ → Calls) → ((k : ℕ) → Each (λ f. Beside n f.0) (between k))
      → (t : Talk) → Kept t → (i : ℕ) → HasKey h.book t.cipher i t.key → (e : WayIn)
      → (scrambles t.cipher ≡ false → Successive GeneratedOrAnnounced (heard_from e t.sessions)) → WithinLimit t e
      → (places : ℕ → ℕ) → AnyPlace places (heard_from e t.sessions) → Each Right (heard_log true (host_in 0 n between h) h.book i t e places)

-- ---- demand 2 of a host's octets, whatever they are: a slot, and a message, is turned as by the call, or packet, that they hold

module _ (h : Host) (n : ℕ) where
  abbrev pub host_slot : OnSlot
  host_slot c mask frame = let r = host_step h (OnCall n (Of (Voice mask frame))) frame in (numbered r.0, (c, r.1.1))

  abbrev pub host_message : OnMessage
  host_message p message = let r = host_step h (OnPacket n (Message message)) message in (numbered r.0, (p, r.1.1))

pub record HostDemand2 : Type 0 where
  pub voice : (h : Host) (n mask : ℕ) (frame : List ℕ)
      → let c = call_of (hearing_in (h.calls n)) in VoiceBits (host_slot h n) c mask frame (layout c.terms.rate)
  pub messages : (h : Host) (n : ℕ) (message : List ℕ) → DataBits (host_message h n) (packet_in (h.packets n)) message
