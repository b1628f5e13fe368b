-- Devices that demand 1 throws out: each does what the user fears. And devices that count wrong (document 02, W-207), or show keys wrong (W-201).
use Rattle.std.specs.Prelude.{Bool, true, false, ◌&&◌, List, [], ◌∷◌, ◌++◌, ℕ, ◌+◌, leb, eqb, get_or, take, drop, replicate}
use Rattle.octets.specs.Tests.{pick}
use Rattle.answers.specs.declared.Answer.{Answer}
use Rattle.answers.specs.declared.Answer.TheVariants.{Done, Held, NotReady, NotNow}
use Rattle.answers.specs.Numbers.{number_of, is_done}
use Rattle.answers.specs.Outcomes.{Refusals, outcome}
use Rattle.keybook.specs.Book.{book_octets, good_book}
use Rattle.openings.specs.Ladder.{session_vector, key_for}
use Rattle.calls.specs.declared.call.Call.{Call}
use Rattle.calls.specs.Call.{sending_end, receiving_end, by_default, standing, terms_of, no_call, written}
use Rattle.calls.specs.Counts.{no_counts}
use Rattle.calls.specs.Opening.{begun, joined}
use Rattle.voice.specs.Slot.{stream_of, in_slot}
use Rattle.calls.specs.Vector.{with_vector}
use Rattle.nxdn.specs.Operations.{with_none, CallOperation, Open, Start, Join, Voice, Lost, End, Announce, NextVector, call_step}
use Rattle.demands.specs.Device.{Device, Operation, OfBook, OfScreen, OfCall, OfPacket, with_call, Step, step, lent}
use Rattle.demands.specs.Refusals.{call_refusals, is_begin}

-- octets that nobody said
abbrev pub noise : List ℕ
noise = replicate 28 170

-- ours, but a held frame comes back as noise
abbrev pub noisy : Step
noisy d o = let r = step d o in (r.0, (r.1.0, pick (eqb (number_of r.0) 1) noise r.1.1))

-- ours, but a slot whose vector is unknown is answered 0 and turned all the same, by the zeros that stand in the vector's place
abbrev turned_at : Call → CallOperation → List ℕ
turned_at c (Open cipher i rate s w) = []
turned_at c (Start cipher i rate w) = []
turned_at c (Join cipher i rate s) = []
turned_at c (Voice mask frame) = in_slot stream_of mask frame c
turned_at c Lost = []
turned_at c End = []
turned_at c (Announce w) = []
turned_at c (NextVector out) = []

abbrev zeros_turned : Device → Operation → List ℕ
zeros_turned d (OfBook o) = []
zeros_turned d (OfScreen o) = []
zeros_turned d (OfCall n o) = turned_at (d.calls n) o
zeros_turned d (OfPacket n o) = []

abbrev pub filing : Step
filing d o = let r = step d o in pick (eqb (number_of r.0) 1) (Done, (r.1.0, zeros_turned d o)) r

-- a device whose book is wiped
abbrev pub wiped : Device → Device
wiped d = record { book = replicate book_octets 0; calls = d.calls; packets = d.packets }

-- any device, but where the book is bad everything is done, the book is wiped and noise comes back
abbrev wiping_by : Bool → Step → Step
wiping_by true st d o = st d o
wiping_by false st d o = (Done, (wiped d, noise))

abbrev pub wiping : Step → Step
wiping st d o = wiping_by (good_book d.book) st d o

-- any device, but what is refused wipes the book all the same
abbrev pub careless : Step → Step
careless st d o = let r = st d o in (r.0, (pick (leb 2 (number_of r.0)) (wiped d) r.1.0, r.1.1))

-- one that holds everything and changes nothing
abbrev pub holding_all : Step
holding_all d o = (Held, (d, lent o))

-- any device, but such an operation ends call 0
abbrev ended : Device → Device
ended d = record { book = d.book; calls = λ n. pick (eqb n 0) no_call (d.calls n); packets = d.packets }

abbrev pub ending : (Operation → Bool) → Step → Step
ending such st d o = let r = st d o in (r.0, (pick (such o) (ended r.1.0) r.1.0, r.1.1))

-- ---- devices that are ours but for an operation on a call

abbrev by_calls : (List ℕ → Call → CallOperation → Answer × (Call × List ℕ)) → Step
by_calls f d (OfBook o) = step d (OfBook o)
by_calls f d (OfScreen o) = step d (OfScreen o)
by_calls f d (OfCall n o) = with_call d n (f d.book (d.calls n) o)
by_calls f d (OfPacket n o) = step d (OfPacket n o)

-- refusals without those by number n
abbrev unasked : ℕ → Refusals → Refusals
unasked n [] = []
unasked n (r ∷ rs) = pick (eqb (number_of r.1) n) (unasked n rs) (r ∷ unasked n rs)

-- version one began to talk while the key loader was still sending: the openings of a call that are hasty do not ask whether the entry is ready
module _ (is_hasty : CallOperation → Bool) where
  abbrev hastily : List ℕ → Call → CallOperation → Call → Answer × (Call × List ℕ)
  hastily b c o after = with_none (outcome c (pick (is_hasty o) (unasked (number_of NotReady) (call_refusals b c o)) (call_refusals b c o)) after)

  abbrev pub hasty_call : List ℕ → Call → CallOperation → Answer × (Call × List ℕ)
  hasty_call b c (Open cipher i rate s w) = hastily b c (Open cipher i rate s w) (written no_counts (begun receiving_end (terms_of cipher (key_for b cipher i) rate s) (session_vector cipher w)))
  hasty_call b c (Start cipher i rate w) = hastily b c (Start cipher i rate w) (written no_counts (begun sending_end (terms_of cipher (key_for b cipher i) rate by_default) (session_vector cipher w)))
  hasty_call b c (Join cipher i rate s) = hastily b c (Join cipher i rate s) (written no_counts (joined (terms_of cipher (key_for b cipher i) rate s)))
  hasty_call b c (Voice mask frame) = call_step b c (Voice mask frame)
  hasty_call b c Lost = call_step b c Lost
  hasty_call b c End = call_step b c End
  hasty_call b c (Announce w) = call_step b c (Announce w)
  hasty_call b c (NextVector out) = call_step b c (NextVector out)

  abbrev pub hasty : Step
  hasty = by_calls hasty_call

-- version three applied an announced vector at once: in the calls that are eager it does not ask whether it is the time for one
module _ (is_eager : Call → Bool) where
  abbrev eager_call : List ℕ → Call → CallOperation → Answer × (Call × List ℕ)
  eager_call b c (Open cipher i rate s w) = call_step b c (Open cipher i rate s w)
  eager_call b c (Start cipher i rate w) = call_step b c (Start cipher i rate w)
  eager_call b c (Join cipher i rate s) = call_step b c (Join cipher i rate s)
  eager_call b c (Voice mask frame) = call_step b c (Voice mask frame)
  eager_call b c Lost = call_step b c Lost
  eager_call b c End = call_step b c End
  eager_call b c (Announce w) =
      with_none (outcome c (pick (is_eager c) (unasked (number_of NotNow) (call_refusals b c (Announce w))) (call_refusals b c (Announce w))) (written c.counts (with_vector w (standing c))))
  eager_call b c (NextVector out) = call_step b c (NextVector out)

  abbrev pub eager : Step
  eager = by_calls eager_call

-- ---- devices that are ours but for the counts that they hand out

abbrev ends : CallOperation → Bool
ends (Open c i r s w) = false
ends (Start c i r w) = false
ends (Join c i r s) = false
ends (Voice mask frame) = false
ends Lost = false
ends End = true
ends (Announce w) = false
ends (NextVector out) = false

abbrev ends_one : Operation → Bool
ends_one (OfBook o) = false
ends_one (OfScreen o) = false
ends_one (OfCall n o) = ends o
ends_one (OfPacket n o) = false

-- ours, but where such an operation is done it hands out f of what ours does, by device and operation
abbrev passing : (Operation → Bool) → (Device → Operation → List ℕ → List ℕ) → Step
passing such f d o = let r = step d o in (r.0, (r.1.0, pick (is_done r.0 && such o) (f d o r.1.1) r.1.1))

-- of end, the counts
abbrev pub handing : (List ℕ → List ℕ) → Step
handing f = passing ends_one (λ d o. f)

-- it never counts
abbrev pub uncounted : List ℕ → List ℕ
uncounted xs = 0 ∷ 0 ∷ 0 ∷ 0 ∷ []

-- held and replaced words are exchanged
abbrev pub exchanged : List ℕ → List ℕ
exchanged xs = get_or xs 0 0 ∷ get_or xs 2 0 ∷ get_or xs 1 0 ∷ get_or xs 3 0 ∷ []

-- held words are passed off as opened
abbrev pub passed_off : List ℕ → List ℕ
passed_off xs = (get_or xs 0 0 + get_or xs 1 0) ∷ 0 ∷ get_or xs 2 0 ∷ get_or xs 3 0 ∷ []

-- ---- devices that are ours but for what they show

abbrev is_screen : Operation → Bool
is_screen (OfBook o) = false
is_screen (OfScreen o) = true
is_screen (OfCall n o) = false
is_screen (OfPacket n o) = false

-- a name or an entry otherwise
abbrev pub misshowing : (Device → Operation → List ℕ → List ℕ) → Step
misshowing = passing is_screen

-- any device, but wherever such an operation is refused noise comes back
abbrev pub telltale : (Operation → Bool) → Step → Step
telltale such st d o = let r = st d o in (r.0, (r.1.0, pick (such o && leb 2 (number_of r.0)) noise r.1.1))

-- ---- ours, but a begin moves every entry one place on

abbrev pub one_on : List ℕ → List ℕ
one_on b = drop 780 b ++ take 780 b

abbrev pub moving : Step
moving d o =
    let r = step d o in
    let e = r.1.0 in
    (r.0, (record { book = pick (is_done r.0 && is_begin o) (one_on e.book) e.book; calls = e.calls; packets = e.packets }, r.1.1))

-- ---- ours, but such an operation is answered and not done

abbrev pub forgetting : (Operation → Bool) → Step
forgetting such d o = let r = step d o in (r.0, (pick (such o) d r.1.0, r.1.1))
