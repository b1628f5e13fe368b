-- The premises of demand 1 can be met: a DES key that is begun, as WARD FOUR, added in two parts and finished is shown by that name, opens a call and a packet,
-- and then a word and a message are turned, under it and no other.
use mathlib.Core.Path.{◌≡◌, refl, sym, ap, ◌∙◌}
use mathlib.Core.List.{List, [], ◌∷◌, ◌++◌}
use Prim.Native.Nat.{ℕ, ◌-◌, ◌≤◌}
use native.Mathlib.Omega.{arith}
use lib.Dec.{eqb}
use lib.ListN.{length, replicate}
use Rattle.octets.specs.Tests.{all_below, first_below}
use Rattle.octets.specs.Lists.{replaced, all_zero}
use Rattle.ciphers.specs.Keys.{odd_octet, des_key, key_allowed, key_right}
use Rattle.octets.proofs.TestLaws.{and_false_r}
use Rattle.answers.specs.declared.Answer.{Answer}
use Rattle.answers.specs.declared.Answer.TheVariants.{Done}
use Rattle.answers.specs.Numbers.{number_of}
use Rattle.answers.proofs.OutcomeLaws.{NoneHolds}
use Rattle.keyentry.specs.Name as name
use Rattle.keyentry.proofs.NameLaws.{ward_four}
use Rattle.keyentry.specs.Entry as entry
use Rattle.keybook.specs.Book as rules
use Rattle.keybook.specs.Operations as operations
use Rattle.keybook.specs.Screen as screen
use Rattle.keybook.specs.History as book
use Rattle.openings.specs.Ladder.{key_refusals, zero_for, zero_refusals, vector_refusals}
use Rattle.calls.specs.Counts.{no_counts}
use Rattle.calls.specs.declared.call.Call.{Call}
use Rattle.calls.specs.Call.{vector_right, closed_tests, open_tests, is_closed, is_open, told, Standing, receiving, standing, terms_of, no_call, written, counts_right, by_default}
use Rattle.calls.specs.Opening.{begun_refusals, open_of}
use Rattle.voice.specs.Slot.{voice_of}
use Rattle.voice.proofs.SlotSteps.{voice_at}
use Rattle.data.specs.declared.packet.Packet.{Packet}
use Rattle.data.specs.Kinds.{is_kind}
use Rattle.data.specs.Packet as packet
use Rattle.data.specs.Opening as opening
use Rattle.data.specs.Message.{lost_refusals, message_of}
use Rattle.data.proofs.MessageLaws.{message_done}
use Rattle.openings.specs.Samples.{seed, des_abcd}
use Rattle.nxdn.specs.Operations.{Name, Inventory, Open, Voice, call_step, OpenPacket, Message, packet_step, screen_step}
use Rattle.demands.specs.Device.{Device, Operation, OfBook, OfScreen, OfCall, OfPacket, step, device_after, history}
use Rattle.demands.specs.Names.{shown_at}
use Rattle.demands.specs.Demand1.{WordsTurned, MessageTurned}
use Rattle.demands.proofs.Meets1.{ours_meets_1}
use Rattle.demands.proofs.Layouts.{ways_right}
use Rattle.demands.proofs.Samples.{silence, silent_long}
use Rattle.demands.proofs.SampleKeys.{key_abcd}

-- ---- the key is loaded

-- its first four octets, its last four, a book that has octets of it loaded, under its name, and one that has it ready
abbrev first : List ℕ
first = 0xAB ∷ 0xCD ∷ 0xEF ∷ 0x01 ∷ []

abbrev last : List ℕ
last = 0x23 ∷ 0x45 ∷ 0x67 ∷ 0x89 ∷ []

abbrev name_and_rest : List ℕ
name_and_rest = ward_four ++ replicate 780 0

abbrev loaded : List ℕ → List ℕ
loaded xs = 2 ∷ 0 ∷ length xs ∷ 0 ∷ (xs ++ (replicate (32 - length xs) 0 ++ name_and_rest))

abbrev pub ready : List ℕ
ready = 2 ∷ 0 ∷ 8 ∷ 1 ∷ (des_abcd ++ name_and_rest)

books : (book.step (book.Begin 2 0 ward_four) (replicate 832 0) ≡ (Done, loaded []))
    × (book.step (book.Add 2 0 first) (loaded []) ≡ (Done, loaded first))
    × (book.step (book.Add 2 0 last) (loaded first) ≡ (Done, loaded key_abcd))
    × (book.step (book.Finish 2 0) (loaded key_abcd) ≡ (Done, ready))
unfolding book.step operations.begin_of operations.add_of operations.finish_of operations.begin_refusals operations.begin_after operations.add_refusals
    operations.finish_refusals rules.book_refusals rules.entry_of rules.with_entry rules.apart rules.good_book rules.find_entry rules.free_entry entry.in_range
    entry.is_for entry.entry_right entry.used_right entry.ready_right entry.lacks name.name_right name.text_octets name.is_printable entry.new_entry entry.extend_refusals entry.extended entry.complete_refusals
    entry.completed all_zero all_below first_below replaced key_allowed des_key odd_octet
books = (refl, refl, refl, refl)

-- a device with this book, no call and no packet
abbrev pub with_book : List ℕ → Device
with_book b = record { book = b; calls = λ n. no_call; packets = λ n. packet.no_packet }

loads : (os : List Operation) (o : book.Operation) {b c : List ℕ} → device_after step os ≡ with_book b → book.step o b ≡ (Done, c)
    → device_after step (OfBook o ∷ os) ≡ with_book c
unfolding device_after step
loads os o d e =
    ap (λ (x : Device). (step x (OfBook o)).1.0) d ∙ ap (λ (r : Answer × List ℕ). with_book r.1) e

abbrev pub loading : List Operation
loading = OfBook (book.Finish 2 0) ∷ OfBook (book.Add 2 0 last) ∷ OfBook (book.Add 2 0 first) ∷ OfBook (book.Begin 2 0 ward_four) ∷ []

none_yet : device_after step [] ≡ with_book (replicate 832 0)
unfolding device_after
none_yet = refl

pub is-loaded : device_after step loading ≡ with_book ready
is-loaded =
    loads (OfBook (book.Add 2 0 last) ∷ OfBook (book.Add 2 0 first) ∷ OfBook (book.Begin 2 0 ward_four) ∷ []) (book.Finish 2 0)
    (loads (OfBook (book.Add 2 0 first) ∷ OfBook (book.Begin 2 0 ward_four) ∷ []) (book.Add 2 0 last)
    (loads (OfBook (book.Begin 2 0 ward_four) ∷ []) (book.Add 2 0 first) (loads [] (book.Begin 2 0 ward_four) none_yet books.0) books.1) books.2)
    books.3

-- ---- a screen shows it

abbrev name_shown : Answer × (Device × List ℕ)
name_shown = step (device_after step loading) (OfScreen (Name 2 0))

-- what it shows of that book
shows : (screen_step ready (Name 2 0) ≡ (Done, ward_four)) × ((screen_step ready (Inventory 0)).1 ≡ 2 ∷ 0 ∷ 8 ∷ 1 ∷ ward_four)
unfolding screen_step screen.name_of screen.inventory_of screen.inventory_refusals screen.shown operations.entry_refusals rules.book_refusals rules.entry_of
    rules.apart rules.good_book rules.find_entry entry.in_range entry.is_for entry.entry_right entry.used_right entry.ready_right entry.lacks name.name_right
    name.text_octets name.is_printable all_zero all_below first_below key_allowed des_key odd_octet
shows = (refl, refl)

pub is-shown : (name_shown.0 ≡ Done) × (name_shown.1.1 ≡ ward_four) × (shown_at step loading 0 ≡ 2 ∷ 0 ∷ 8 ∷ 1 ∷ ward_four)
unfolding step
is-shown = (
  ap (λ (d : Device). (step d (OfScreen (Name 2 0))).0) is-loaded ∙ ap (λ (r : Answer × List ℕ). r.0) shows.0,
  ap (λ (d : Device). (step d (OfScreen (Name 2 0))).1.1) is-loaded ∙ ap (λ (r : Answer × List ℕ). r.1) shows.0,
  ap (λ (d : Device). (step d (OfScreen (Inventory 0))).1.1) is-loaded ∙ shows.1,
)

-- another key may have its name
shares : (book.step (book.Begin 3 0 ward_four) ready).0 ≡ Done
unfolding book.step operations.begin_of operations.begin_refusals rules.entry_of rules.apart rules.good_book rules.find_entry rules.free_entry entry.in_range
    entry.is_for entry.entry_right entry.used_right entry.ready_right entry.lacks name.name_right name.text_octets name.is_printable all_zero all_below first_below
    key_allowed des_key odd_octet
shares = refl

pub is_shared : (step (device_after step loading) (OfBook (book.Begin 3 0 ward_four))).0 ≡ Done
unfolding step
is_shared = rw is-loaded shares

-- ---- it opens a call, at either rate and of either strictness

module _ (r m : ℕ) (low : r ≤ 1) (lows : m ≤ 1) where
  abbrev pub heard : Standing
  heard = receiving (terms_of 2 des_abcd r m) 0 (told seed)

  pub opens : open_of no_call 2 0 r m seed ready ≡ (Done, written no_counts heard)
  unfolding open_of begun_refusals vector_refusals key_refusals zero_refusals standing is_closed closed_tests all_zero all_below first_below entry.in_range entry.is_for
      entry.entry_right name.name_right name.text_octets name.is_printable entry.used_right entry.ready_right entry.lacks rules.entry_of rules.find_entry rules.apart rules.good_book key_allowed des_key odd_octet
  opens = rw (ways_right r m low lows)

  heard-stands : standing (written no_counts heard) ≡ heard
  unfolding standing is_closed closed_tests is_open open_tests key_right vector_right counts_right key_allowed des_key odd_octet all_zero all_below
  heard-stands = rw (ways_right r m low lows, and_false_r (eqb m by_default))

  abbrev pub opening_call : List Operation
  opening_call = OfCall 0 (Open 2 0 r m seed) ∷ loading

  pub is_open_lem : (device_after step opening_call).calls 0 ≡ written no_counts heard
  unfolding device_after step call_step
  is_open_lem = ap (λ (d : Device). (step d (OfCall 0 (Open 2 0 r m seed))).1.0.calls 0) is-loaded ∙ ap (λ (r : Answer × Call). r.1) opens

  -- every word of a slot
  pub word_done : number_of (step (device_after step opening_call) (OfCall 0 (Voice 15 (silence r)))).0 ≡ 0
  unfolding step call_step
  word_done =
      ap (λ (c : Call). number_of (voice_of c 15 (silence r)).0) is_open_lem
      ∙ ap (λ (r : Answer × (Call × List ℕ)). number_of r.0) (voice_at (written no_counts heard) 15 (silence r) (omega arith) heard (silent_long r) heard-stands refl refl)

  pub word-turned : WordsTurned (history step opening_call) 0 ((device_after step opening_call).calls 0) 15 (silence r) (step (device_after step opening_call) (OfCall 0 (Voice 15 (silence r)))).1.1
  word-turned = ours_meets_1.words opening_call 0 15 (silence r) word_done

  -- and under this key
  pub word-key : ((device_after step opening_call).calls 0).terms.key ≡ des_abcd
  word-key = ap (λ (c : Call). c.terms.key) is_open_lem

-- ---- and a packet

abbrev dcalls : Packet
dcalls = opening.new_packet 1 2 seed des_abcd

opens_packet : opening.open_of packet.no_packet opening.to_send 1 2 0 seed ready ≡ (Done, dcalls)
unfolding opening.open_of opening.open_refusals opening.is_end vector_refusals key_refusals zero_refusals zero_for packet.good_packet packet.is_closed packet.closed_tests is_kind all_zero
    all_below first_below entry.in_range entry.is_for entry.entry_right name.name_right name.text_octets name.is_printable entry.used_right entry.ready_right entry.lacks rules.entry_of rules.find_entry rules.apart
    rules.good_book key_allowed des_key odd_octet
opens_packet = refl

dcalls_go : NoneHolds (lost_refusals dcalls)
unfolding lost_refusals packet.good_packet packet.is_closed packet.closed_tests packet.is_open packet.open_tests is_kind key_right key_allowed des_key odd_octet
    all_zero all_below
dcalls_go = (refl, (refl, tt))

abbrev pub opening_packet : List Operation
opening_packet = OfPacket 0 (OpenPacket opening.to_send 1 2 0 seed) ∷ loading

is-opened : (device_after step opening_packet).packets 0 ≡ dcalls
unfolding device_after step packet_step
is-opened =
    ap (λ (d : Device). (step d (OfPacket 0 (OpenPacket opening.to_send 1 2 0 seed))).1.0.packets 0) is-loaded ∙ ap (λ (r : Answer × Packet). r.1) opens_packet

abbrev blanks : List ℕ
blanks = replicate 22 0

pub message_is_done : number_of (step (device_after step opening_packet) (OfPacket 0 (Message blanks))).0 ≡ 0
unfolding step packet_step
message_is_done =
    ap (λ (p : Packet). number_of (message_of p blanks).0) is-opened
    ∙ sym (ap (λ (r : Answer × (Packet × List ℕ)). number_of r.0) (message_done dcalls blanks dcalls_go refl))

pub message_turned_lem : MessageTurned (history step opening_packet) 0 ((device_after step opening_packet).packets 0) blanks (step (device_after step opening_packet) (OfPacket 0 (Message blanks))).1.1
message_turned_lem = ours_meets_1.messages opening_packet 0 blanks message_is_done

pub message_key : ((device_after step opening_packet).packets 0).key ≡ des_abcd
message_key = ap (λ (p : Packet). p.key) is-opened
