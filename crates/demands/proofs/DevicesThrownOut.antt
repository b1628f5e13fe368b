-- The devices that demand 1 throws out, each by one part of it: noise for a held frame, or filed as opened speech, a bad book taken, a refusal that wipes the
-- book, everything held, an operation on keys, a packet or a screen that reaches a call, noise for a refused screen, version three, which takes a vector in the middle of a session, and version one, which takes half a key.
use mathlib.Core.Path.{◌≡◌, refl, sym, ap, ◌∙◌}
use mathlib.Core.Bool.{Bool, true, false, ◌&&◌, true≢false}
use mathlib.Core.Logic.{inl, inr}
use mathlib.Core.List.{List, [], ◌∷◌, ◌++◌}
use Prim.Native.Nat.{ℕ, ◌≤◌, ◌<◌}
use native.Mathlib.Omega.{arith}
use lib.Dec.{leb, eqb}
use lib.ListN.{length, get_or, replicate}
use borrow.Author.Tests.{le-leb}
use Rattle.octets.specs.Tests.{pick, all_below, first_below}
use Rattle.octets.specs.Lists.{replaced, all_zero}
use Rattle.octets.proofs.TestLaws.{and_false_r}
use Rattle.ciphers.specs.Keys.{odd_octet, scramble_key, des_key, key_allowed, key_right}
use Rattle.answers.specs.declared.Answer.{Answer}
use Rattle.answers.specs.declared.Answer.TheVariants.{Done, Held}
use Rattle.answers.specs.Numbers.{number_of, is_done}
use Rattle.keyentry.specs.Name as name
use Rattle.keyentry.specs.Name.{no_name}
use Rattle.keyentry.specs.Entry as entry
use Rattle.keybook.specs.Book as rules
use Rattle.keybook.specs.Operations as operations
use Rattle.keybook.specs.History as book
use Rattle.sizes.specs.Ciphers.{no_vector}
use Rattle.sizes.specs.Frame.{half_rate, full_rate, is_rate, width}
use Rattle.openings.specs.Ladder.{key_refusals, zero_for, zero_refusals, vector_refusals}
use Rattle.openings.specs.Samples.{seed, des_abcd}
use Rattle.calls.specs.Counts.{no_counts, total}
use Rattle.calls.specs.declared.call.Call.{Call}
use Rattle.calls.specs.Call.{receiving_end, told_vector, by_default, strict, terms_right, vector_right, closed_tests, open_tests, is_closed, is_open, good_call, unknown, told, Standing, sending, receiving, standing, terms_of, no_call, written, width_in, stands, knows, counts_right}
use Rattle.calls.specs.Opening.{begun_refusals, join_refusals}
use Rattle.voice.specs.Slot.{voice_of, is_full}
use Rattle.calls.specs.Vector.{announce_refusals}
use Rattle.calls.proofs.CallLaws.{not_bad}
use Rattle.voice.proofs.SlotSteps.{voice_at}
use Rattle.data.specs.Packet as packet
use Rattle.demands.specs.Marked.{holding}
use Rattle.nxdn.specs.Operations.{ScreenOperation, Name, Inventory, lent_screen, CallOperation, Open, Start, Join, Voice, Lost, End, Announce, NextVector, call_step, OpenPacket, Message, LostMessage, EndPacket}
use Rattle.demands.specs.Device.{Device, Operation, OfBook, OfScreen, OfCall, OfPacket, Step, step, device_after, history}
use Rattle.demands.specs.Demand1.{RightScreen, RightInput, NotTold, TimeOfCall, Unknown, slot, NoneDone, Demand1}
use Rattle.demands.specs.OtherDevices.{noise, noisy, filing, wiped, wiping, careless, holding_all, ending, telltale, hasty_call, hasty, eager}
use Rattle.demands.proofs.Layouts.{ways_right, sender-right}
use Rattle.demands.proofs.Samples.{silence, silent_long}
use Rattle.demands.proofs.ThrownOut1.{finishing, no_word}

-- a device with this book, these calls and no packet
abbrev having : List ℕ → (ℕ → Call) → Device
having b calls = record { book = b; calls = calls; packets = λ n. packet.no_packet }

-- ---- noise for a held frame

-- a DES receiver that joined, and is strict
abbrev listening : Call
listening = written no_counts (receiving (terms_of 2 des_abcd half_rate strict) 4 unknown)

listens : standing listening ≡ receiving (terms_of 2 des_abcd half_rate strict) 4 unknown
unfolding standing is_closed closed_tests is_open open_tests key_right is_rate terms_right vector_right counts_right key_allowed des_key odd_octet all_zero all_below
listens = refl

pub noisy_thrown_out : Demand1 noisy → ⊥
unfolding step call_step
noisy_thrown_out meets =
    let d = having [] (λ n. listening) in
    let o = OfCall 0 (Voice 15 (silence half_rate)) in
    let e : number_of (step d o).0 ≡ 1 =
    ap (λ (r : Answer × (Call × List ℕ)). number_of r.0) (voice_at listening 15 (silence half_rate) (omega arith) (receiving (terms_of 2 des_abcd half_rate strict) 4 unknown) refl listens refl refl) in
    let u : pick (eqb (number_of (step d o).0) 1) noise (step d o).1.1 ≡ silence half_rate = meets.untouched d o (λ z. omega arith) in
    let q : noise ≡ silence half_rate = rw e at u in
    let r = ap (λ (xs : List ℕ). get_or xs 0 0) q in
    omega arith

-- ---- noise filed as opened speech

pub filing_thrown_out : Demand1 filing → ⊥
unfolding step call_step
filing_thrown_out meets =
    let d = having [] (λ n. listening) in
    let o = OfCall 0 (Voice 15 (silence half_rate)) in
    let e : number_of (step d o).0 ≡ 1 =
    ap (λ (r : Answer × (Call × List ℕ)). number_of r.0) (voice_at listening 15 (silence half_rate) (omega arith) (receiving (terms_of 2 des_abcd half_rate strict) 4 unknown) refl listens refl refl) in
    let z : number_of (filing d o).0 ≡ 0 = rw e in
    meets.unopened d o (slot 0 15 (silence half_rate) refl refl) z

-- ---- a bad book taken, by whatever device else

-- the key operations, what a screen shows, and the openings read the book
abbrev reads_book : Operation → Bool
reads_book (OfBook o) = true
reads_book (OfScreen o) = true
reads_book (OfCall n (Open c i r m w)) = true
reads_book (OfCall n (Start c i r w)) = true
reads_book (OfCall n (Join c i r m)) = true
reads_book (OfCall n (Voice mask frame)) = false
reads_book (OfCall n Lost) = false
reads_book (OfCall n End) = false
reads_book (OfCall n (Announce w)) = false
reads_book (OfCall n (NextVector out)) = false
reads_book (OfPacket n (OpenPacket end kind c i w)) = true
reads_book (OfPacket n (Message octets)) = false
reads_book (OfPacket n LostMessage) = false
reads_book (OfPacket n EndPacket) = false

right-good : (d : Device) (o : Operation) → reads_book o ≡ true → RightInput d o → rules.good_book d.book ≡ true
right-good d (OfBook (book.Begin c i n)) t k = k.0.good
right-good d (OfBook (book.Add c i xs)) t k = k.0.good
right-good d (OfBook (book.Finish c i)) t k = k.good
right-good d (OfBook (book.Erase c i)) t k = k.good
right-good d (OfScreen (Name c i)) t k = k.good
right-good d (OfScreen (Inventory n)) t k = k.2
right-good d (OfCall n (Open c i r m w)) t k = k.0.good
right-good d (OfCall n (Start c i r w)) t k = k.0.good
right-good d (OfCall n (Join c i r m)) t k = k.0.good
right-good d (OfCall n (Voice mask frame)) t k = absurd (true≢false (sym t))
right-good d (OfCall n Lost) t k = absurd (true≢false (sym t))
right-good d (OfCall n End) t k = absurd (true≢false (sym t))
right-good d (OfCall n (Announce w)) t k = absurd (true≢false (sym t))
right-good d (OfCall n (NextVector out)) t k = absurd (true≢false (sym t))
right-good d (OfPacket n (OpenPacket end kind c i w)) t k = k.0.good
right-good d (OfPacket n (Message octets)) t k = absurd (true≢false (sym t))
right-good d (OfPacket n LostMessage) t k = absurd (true≢false (sym t))
right-good d (OfPacket n EndPacket) t k = absurd (true≢false (sym t))

pub bad_book_thrown_out : (st : Step) (d : Device) (o : Operation) → reads_book o ≡ true → rules.good_book d.book ≡ false → number_of (st d o).0 ≡ 0 → Demand1 st → ⊥
bad_book_thrown_out st d o t bad done meets = let r = meets.refused d o (λ k. true≢false (sym (right-good d o t k) ∙ bad)) in omega arith

pub wiping_thrown_out : (st : Step) → Demand1 (wiping st) → ⊥
unfolding rules.good_book
wiping_thrown_out st = bad_book_thrown_out (wiping st) (having [] (λ n. no_call)) (OfBook (book.Erase 1 0)) refl refl refl

-- so is the two of them in one, which answers by the table, changes nothing where it refuses, and turns words and messages as ours
pub wiping-noise_thrown_out : Demand1 (wiping noisy) → ⊥
wiping-noise_thrown_out = wiping_thrown_out noisy

-- ---- a refusal that changes something

pub careless_thrown_out : (st : Step) → Demand1 (careless st) → ⊥
unfolding rules.good_book
careless_thrown_out st meets =
    let d = having [] (λ n. no_call) in
    let o = OfBook (book.Erase 1 0) in
    let r : 2 ≤ number_of (st d o).0 = meets.refused d o (λ k. true≢false (sym k.good)) in
    let s : (pick (leb 2 (number_of (st d o).0)) (wiped d) (st d o).1.0).book ≡ [] = (meets.changes_nothing d o r).book in
    let t : replicate {A = ℕ} 832 0 ≡ [] = rw (le-leb 2 (number_of (st d o).0) r) at s in
    let z = ap (λ (xs : List ℕ). length xs) t in
    omega arith

-- ---- everything held

abbrev is_on_call : Operation → Bool
is_on_call (OfBook o) = false
is_on_call (OfScreen o) = false
is_on_call (OfCall n o) = true
is_on_call (OfPacket n o) = false

on_call_lem : (d : Device) (o : Operation) → Unknown d o → is_on_call o ≡ true
on_call_lem d _ (slot n mask frame e k) = refl

pub holding-all_thrown_out : Demand1 holding_all → ⊥
holding-all_thrown_out meets =
    let d = having [] (λ n. no_call) in
    let o = OfBook (book.Begin 1 0 no_name) in
    true≢false (sym (on_call_lem d o (meets.held d o refl)))

-- ---- an operation on keys, a packet or a screen that reaches a call

pub ending_thrown_out : (st : Step) (such : Operation → Bool) (o : Operation) → such o ≡ true → is_on_call o ≡ false → Demand1 (ending such st) → ⊥
ending_thrown_out st such o e f meets = let z = ap (λ (c : Call). c.end) (stays o e f) in omega arith
  where
    stays : (o : Operation) → such o ≡ true → is_on_call o ≡ false → no_call ≡ listening
    stays (OfBook o) e f = rw e at ((meets.apart (having [] (λ n. listening)) (OfBook o)).0 0)
    stays (OfScreen o) e f = rw e at ((meets.apart (having [] (λ n. listening)) (OfScreen o)).calls 0)
    stays (OfCall n o) e f = absurd (true≢false f)
    stays (OfPacket n o) e f = rw e at ((meets.apart (having [] (λ n. listening)) (OfPacket n o)).1 0)

-- ---- a screen that is refused and handed something all the same

no_book : (o : ScreenOperation) → RightScreen [] o → ⊥
no_book (Name c i) k = omega (arith, k.long)
no_book (Inventory n) k = omega (arith, k.0)

not-noise : (o : ScreenOperation) → noise ≡ lent_screen o → ⊥
not-noise (Name c i) q = let z = ap (λ (xs : List ℕ). length xs) q in omega arith
not-noise (Inventory k) q = let z = ap (λ (xs : List ℕ). length xs) q in omega arith

pub telltale_thrown_out : (st : Step) (such : Operation → Bool) (o : ScreenOperation) → such (OfScreen o) ≡ true → Demand1 (telltale such st) → ⊥
telltale_thrown_out st such o e meets =
    let d = having [] (λ n. no_call) in
    let n = number_of (st d (OfScreen o)).0 in
    let r : 2 ≤ n = meets.refused d (OfScreen o) (no_book o) in
    let u : pick (such (OfScreen o) && leb 2 n) noise (st d (OfScreen o)).1.1 ≡ lent_screen o = meets.untouched d (OfScreen o) (λ z. omega arith) in
    not-noise o (rw (e, le-leb 2 n r) at u)

-- ---- version three: a vector that is announced in the middle of a session; and one where the session's vector was told already

module _ (is_eager : Call → Bool) (meets : Demand1 (eager is_eager)) (c : Call) (good : good_call c ≡ true) (e : is_eager c ≡ true) where
  -- it takes a vector that comes out of its time
  eager-fails : (TimeOfCall c (Announce seed) → ⊥) → ⊥
  unfolding announce_refusals
  eager-fails late =
      let d = having [] (λ n. c) in
      let o = OfCall 0 (Announce seed) in
      let r : 2 ≤ number_of (eager is_eager d o).0 = meets.untimely d o late in
      let z : number_of (eager is_eager d o).0 ≡ 0 = rw (e, not_bad c good) in
      omega arith

  pub eager_thrown_out : (c.position ≡ 0 → ⊥) → ⊥
  eager_thrown_out p = eager-fails (λ t. p t.2)

  pub told_twice_thrown_out : c.known ≡ told_vector → ⊥
  told_twice_thrown_out k = eager-fails (λ t. told_none t.3)
    where
      told_none : NotTold c → ⊥
      told_none (inl z) = omega arith
      told_none (inr z) = omega arith

-- such calls there are: joined, in the middle of a session; and told, at full rate and by default
listening-good : good_call listening ≡ true
unfolding good_call is_closed closed_tests is_open open_tests key_right is_rate terms_right vector_right counts_right key_allowed des_key odd_octet all_zero all_below
listening-good = refl

abbrev told_already : Call
told_already = written no_counts (receiving (terms_of 2 des_abcd full_rate by_default) 0 (told seed))

told_good : good_call told_already ≡ true
unfolding good_call is_closed closed_tests is_open open_tests key_right is_rate terms_right vector_right counts_right key_allowed des_key odd_octet all_zero all_below
told_good = refl

pub always_eager_thrown_out : Demand1 (eager (λ c. true)) → ⊥
always_eager_thrown_out meets = eager_thrown_out (λ c. true) meets listening listening-good refl (λ z. omega arith)

pub eager_when_told_thrown_out : Demand1 (eager (λ c. eqb c.known told_vector)) → ⊥
eager_when_told_thrown_out meets = told_twice_thrown_out (λ c. eqb c.known told_vector) meets told_already told_good refl refl

-- ---- version one

-- no finish is asked for, and so none was done
never_done_lem : (st : Step) (o : Operation) (os : List Operation) → finishing o ≡ false → NoneDone finishing (history st os) → NoneDone finishing (history st (o ∷ os))
unfolding history
never_done_lem st o os e n = (rw e (and_false_r (is_done (st (device_after st os) o).0)), n)

none_yet : (st : Step) → NoneDone finishing (history st [])
unfolding history
none_yet st = tt

-- half of an AES key, which with zeros after it would be an allowed key too; and of a scramble key
abbrev half_aes : List ℕ
half_aes = replicate 16 0x5A

abbrev kept_aes : List ℕ
kept_aes = half_aes ++ replicate 16 0

abbrev half_scramble : List ℕ
half_scramble = 0x01 ∷ []

abbrev kept_scramble : List ℕ
kept_scramble = half_scramble ++ replicate 31 0

books : (book.step (book.Begin 3 0 no_name) (replicate 832 0) ≡ (Done, holding 3 [])) × (book.step (book.Add 3 0 half_aes) (holding 3 []) ≡ (Done, holding 3 half_aes))
    × (book.step (book.Begin 1 0 no_name) (replicate 832 0) ≡ (Done, holding 1 [])) × (book.step (book.Add 1 0 half_scramble) (holding 1 []) ≡ (Done, holding 1 half_scramble))
unfolding book.step operations.begin_of operations.add_of operations.begin_refusals operations.begin_after operations.add_refusals rules.book_refusals rules.entry_of
    rules.with_entry rules.apart rules.good_book rules.find_entry rules.free_entry entry.in_range entry.is_for entry.entry_right entry.used_right entry.ready_right
    entry.lacks no_name name.name_right name.text_octets name.is_printable entry.new_entry entry.extend_refusals entry.extended all_zero all_below first_below replaced key_allowed
books = (refl, refl, refl, refl)

-- the calls, and that they stand, at any one rate and of any one strictness
abbrev opened_aes : ℕ → ℕ → Standing
opened_aes r m = receiving (terms_of 3 kept_aes r m) 0 (told seed)

abbrev started_aes : ℕ → Standing
started_aes r = sending (terms_of 3 kept_aes r by_default) 0 seed

abbrev joined_scramble : ℕ → ℕ → Standing
joined_scramble r m = receiving (terms_of 1 kept_scramble r m) 0 (told no_vector)

module _ (r m : ℕ) (low : r ≤ 1) (lows : m ≤ 1) where
  stand : (standing (written no_counts (opened_aes r m)) ≡ opened_aes r m) × (standing (written no_counts (started_aes r)) ≡ started_aes r)
      × (standing (written no_counts (joined_scramble r m)) ≡ joined_scramble r m)
  unfolding standing is_closed closed_tests is_open open_tests key_right vector_right counts_right key_allowed scramble_key all_zero all_below
  stand = rw (ways_right r m low lows, sender-right r low, and_false_r (eqb m by_default)) (refl, refl, refl)

  turns : (s : Standing) → width_in s ≡ width r → standing (written no_counts s) ≡ s → stands s ≡ true → is_full s (written no_counts s).counts ≡ false → knows s ≡ true
      → number_of (voice_of (written no_counts s) 15 (silence r)).0 ≡ 0
  turns s h e o room k =
      ap (λ (r : Answer × (Call × List ℕ)). number_of r.0)
      (voice_at (written no_counts s) 15 (silence r) (omega arith) s (rw h (silent_long r)) e o room)
      ∙ ap (λ (t : Bool). number_of (pick t Done Held)) k

-- half a key of cipher c is added, a call is opened all the same, and its first slot is turned
module _ (is_hasty : CallOperation → Bool) where
  module _ (c : ℕ) (half : List ℕ) (begins : book.step (book.Begin c 0 no_name) (replicate 832 0) ≡ (Done, holding c []))
      (adds : book.step (book.Add c 0 half) (holding c []) ≡ (Done, holding c half)) where
    half-loaded : List Operation
    half-loaded = OfBook (book.Add c 0 half) ∷ OfBook (book.Begin c 0 no_name) ∷ []

    is-half : device_after (hasty is_hasty) half-loaded ≡ having (holding c half) (λ n. no_call)
    unfolding device_after step half-loaded
    is-half =
        ap (λ (r : Answer × List ℕ). having (book.step (book.Add c 0 half) r.1).1 (λ n. no_call)) begins
        ∙ ap (λ (r : Answer × List ℕ). having r.1 (λ n. no_call)) adds

    half-key-fails : (o : CallOperation) (call : Call) (frame : List ℕ) → hasty_call is_hasty (holding c half) no_call o ≡ (Done, (call, []))
        → number_of (voice_of call 15 frame).0 ≡ 0 → Demand1 (hasty is_hasty) → ⊥
    unfolding device_after call_step half-loaded
    half-key-fails o call frame opens turns meets =
        let st = hasty is_hasty in
        no_word st (OfCall 0 o ∷ half-loaded)
        (never_done_lem st (OfCall 0 o) half-loaded refl
        (never_done_lem st (OfBook (book.Add c 0 half)) (OfBook (book.Begin c 0 no_name) ∷ []) refl (never_done_lem st (OfBook (book.Begin c 0 no_name)) [] refl (none_yet st))))
        0 meets 15 frame
        (ap (λ (d : Device). number_of (voice_of (hasty_call is_hasty d.book (d.calls 0) o).1.0 15 frame).0) is-half
        ∙ ap (λ (r : Answer × (Call × List ℕ)). number_of (voice_of r.1.0 15 frame).0) opens
        ∙ turns)

  -- hasty in open, in start or in join, at one rate and of one strictness: each alone is thrown out
  module _ (r m : ℕ) (low : r ≤ 1) (lows : m ≤ 1) where
    pub hasty_open_thrown_out : is_hasty (Open 3 0 r m seed) ≡ true → Demand1 (hasty is_hasty) → ⊥
    unfolding begun_refusals vector_refusals key_refusals zero_refusals zero_for standing is_closed closed_tests all_zero all_below first_below entry.in_range entry.is_for
        entry.entry_right name.name_right name.text_octets name.is_printable entry.used_right entry.ready_right entry.lacks rules.entry_of rules.find_entry rules.apart rules.good_book
    hasty_open_thrown_out e =
        half-key-fails 3 half_aes books.0 books.1 (Open 3 0 r m seed) (written no_counts (opened_aes r m)) (silence r) (rw (e, ways_right r m low lows))
        (turns r m low lows (opened_aes r m) refl (stand r m low lows).0 refl refl refl)

    pub hasty_start_thrown_out : is_hasty (Start 3 0 r seed) ≡ true → Demand1 (hasty is_hasty) → ⊥
    unfolding begun_refusals vector_refusals key_refusals zero_refusals zero_for standing is_closed closed_tests all_zero all_below first_below entry.in_range entry.is_for
        entry.entry_right name.name_right name.text_octets name.is_printable entry.used_right entry.ready_right entry.lacks rules.entry_of rules.find_entry rules.apart rules.good_book
    hasty_start_thrown_out e =
        half-key-fails 3 half_aes books.0 books.1 (Start 3 0 r seed) (written no_counts (started_aes r)) (silence r) (rw (e, sender-right r low))
        (turns r m low lows (started_aes r) refl (stand r m low lows).1 refl refl refl)

    pub hasty_join_thrown_out : is_hasty (Join 1 0 r m) ≡ true → Demand1 (hasty is_hasty) → ⊥
    unfolding join_refusals key_refusals standing is_closed closed_tests all_zero all_below first_below entry.in_range entry.is_for entry.entry_right name.name_right name.text_octets name.is_printable entry.used_right
        entry.ready_right entry.lacks rules.entry_of rules.find_entry rules.apart rules.good_book
    hasty_join_thrown_out e =
        half-key-fails 1 half_scramble books.2 books.3 (Join 1 0 r m) (written no_counts (joined_scramble r m)) (silence r) (rw (e, ways_right r m low lows))
        (turns r m low lows (joined_scramble r m) refl (stand r m low lows).2 refl refl refl)

-- ---- a slot past the limit

-- it takes a slot of a receiver that was told of as many as it may be
pub past_thrown_out : (st : Step) (d : Device) (n : ℕ) → (d.calls n).end ≡ receiving_end → total (d.calls n).counts ≡ 4000000 → Demand1 st
    → (number_of (st d (OfCall n Lost)).0 < 2 → ⊥) × ((mask : ℕ) (frame : List ℕ) → number_of (st d (OfCall n (Voice mask frame))).0 < 2 → ⊥)
past_thrown_out st d n e full meets = (
  λ z. omega (arith, z, meets.untimely d (OfCall n Lost) (λ t. omega (arith, t.1, full))),
  λ mask frame z. omega (arith, z, meets.untimely d (OfCall n (Voice mask frame)) (λ t. omega (arith, t.1 e, full))),
)
