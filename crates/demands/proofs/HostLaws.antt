-- A host's octets: a refusal leaves them all, and any history of the interface's functions, from zeros, is the history of operations that it comes to. Of any
-- octets and numbers that a function is given.
use mathlib.Core.Path.{◌≡◌, refl, sym, ap, ap₂, ◌∙◌, subst}
use mathlib.Core.Bool.{Bool, true, false, ◌&&◌, true≢false}
use mathlib.Core.List.{List, [], ◌∷◌, ◌++◌}
use Prim.Native.Nat.{ℕ, ◌≤◌}
use native.Mathlib.Omega.{arith}
use lib.Dec.{eqb, ltb}
use lib.ListN.{length}
use borrow.Author.Tests.{eq-eqb, eqb-true, not-false, lt-ltb, le-ltb, ltb-true, ltb-false}
use Rattle.octets.specs.Tests.{pick}
use Rattle.octets.proofs.TestLaws.{and_false_r}
use Rattle.sizes.specs.Ciphers.{vector_octets}
use Rattle.answers.specs.declared.Answer.{Answer}
use Rattle.answers.specs.declared.Answer.TheVariants.{Done}
use Rattle.answers.specs.Numbers.{number_of}
use Rattle.answers.proofs.OutcomeLaws.{Refusal, leaves}
use Rattle.keybook.specs.History as book
use Rattle.calls.specs.declared.call.Call.{Call}
use Rattle.calls.specs.Call.{Standing, closed, bad, sending, receiving, standing, no_call, written, is_bad}
use Rattle.calls.specs.Vector.{awaits, with_vector, announce_refusals, announce_of}
use Rattle.calls.proofs.CallLaws.{good_by}
use Rattle.data.specs.declared.packet.Packet.{Packet}
use Rattle.hearing.specs.declared.Hearing.{Hearing}
use Rattle.hearing.specs.Hearing.{one_kept, under_way, kept_right, call_of, alone, keeping}
use Rattle.hearing.specs.Heard.{handed, handed_on, carried, heard_refusals, heard_of}
use Rattle.hearing.proofs.HearingLaws.{waits_not, good_of, alone_of}
use Rattle.hearing.proofs.HeardLaws.{carried_keeps, heard_keeps, heard_now_lem}
use Rattle.held.specs.Call as call
use Rattle.held.specs.Packet as packet
use Rattle.held.proofs.CallLaws.{Sized, length_of, read_written, none_read}
use Rattle.held.proofs.PacketLaws.{PacketSized, packet-length_of, packet_read_written, no_packet_read}
use Rattle.nxdn.specs.Operations.{screen_step, CallOperation, Announce, call_step, PacketOperation, packet_step}
use Rattle.nxdn.specs.Lent.{lent_after, out_after, handed_into, on_lent}
use Rattle.nxdn.specs.Interface.{on_book, screen_room, on_screen, Asked, Of, Heard, asked_step, fits, on_call, Next, Show, look_of, look_fits, on_look, on_packet}
use Rattle.nxdn.proofs.LentLaws as lent
use Rattle.nxdn.proofs.LentLaws.{out-not, refusal_leaves}
use Rattle.demands.specs.Device.{Device, Operation, OfScreen, OfCall, with_number, step, device_after}
use Rattle.demands.specs.Demand1.{Same}
use Rattle.demands.specs.Host.{Host, zeros, Function, Keys, Screen, OnCall, LookAt, OnPacket, host_step, Calls, host_after, Holds, SameOctets, handing, if_fits}
use Rattle.demands.proofs.HostSteps.{starts_next, comes_to, read_operations}
use Rattle.demands.proofs.DeviceLaws.{book_settles, call_settles, packet_settles, by_number, same_number}
use Rattle.nxdn.proofs.RoomLaws.{CallSized, no_call_sized, announced_sized, call_sized, no_packet_sized, packet_sized}

-- ---- a refusal

pub handed-leaves : (fit : Bool) (l : List ℕ) (r : Answer × List ℕ) → 2 ≤ (handed_into fit l r).0 → (handed_into fit l r).1 ≡ l
unfolding handed_into
handed-leaves true l r h = out-not l r.0 r.1 (λ z. absurd (omega arith))
handed-leaves false l r h = refl

-- one law for all functions, whatever the octets
pub refusal_leaves-all : (h : Host) (f : Function) (l : List ℕ) → 2 ≤ (host_step h f l).0 → ((host_step h f l).1.1 ≡ l) × SameOctets (host_step h f l).1.0 h
unfolding host_step on_book on_screen on_call on_look on_packet
refusal_leaves-all h (Keys o) l r = (refl, record { book = (book_settles h.book o).keeps r; calls = λ n. refl; packets = λ n. refl })
refusal_leaves-all h (Screen o) l r =
    (handed-leaves (eqb (length l) (screen_room o)) l (screen_step h.book o) r, record { book = refl; calls = λ n. refl; packets = λ n. refl })
refusal_leaves-all h (OnCall m a) l r =
    let e = refusal_leaves call.call_octets call.hearing_in call.octets_of (fits a l) (asked_step h.book a) (h.calls m) l r in (
      ap (λ (p : List ℕ × List ℕ). p.1) e,
      record { book = refl; calls = same_number m h.calls (ap (λ (p : List ℕ × List ℕ). p.0) e); packets = λ n. refl },
    )
refusal_leaves-all h (LookAt m k) l r = (
  handed-leaves (eqb (length (h.calls m)) call.call_octets && look_fits k l) l (look_of k l (call_of (call.hearing_in (h.calls m)))) r,
  record { book = refl; calls = λ n. refl; packets = λ n. refl },
)
refusal_leaves-all h (OnPacket m o) l r =
    let e = refusal_leaves packet.packet_octets packet.packet_in packet.octets_of true (λ p. packet_step h.book p o) (h.packets m) l r in (
      ap (λ (p : List ℕ × List ℕ). p.1) e,
      record { book = refl; calls = λ n. refl; packets = same_number m h.packets (ap (λ (p : List ℕ × List ℕ). p.0) e) },
    )

-- ---- a call with what it keeps

-- its octets have room for it, and what it keeps is right
pub record Whole (h : Hearing) : Type 0 where
  pub sized : Sized h
  pub right : call_of h ≡ h.call

-- its call
call_of_sized : (h : Hearing) → Whole h → CallSized (call_of h)
call_of_sized h i = subst CallSized (sym i.right) (record { vector = i.sized.vector; key = i.sized.key; counts = i.sized.counts })

alone-whole : (c : Call) → CallSized c → Whole (alone c)
alone-whole c s = record { sized = record { vector = s.vector; next = refl; key = s.key; counts = s.counts }; right = alone_of c }

keeping_of : (c : Call) (w : List ℕ) → under_way (standing c) ≡ true → call_of (keeping c w) ≡ c
unfolding call_of kept_right
keeping_of c w u = rw u

-- what a call doesn't await leaves it
announce_not : (c : Call) (w : List ℕ) → awaits (standing c) ≡ false → (announce_of c w).1 ≡ c
unfolding announce_of announce_refusals
announce_not c w a =
    leaves (λ d. d ≡ c) c (announce_refusals (standing c) w) (Done, written c.counts (with_vector w (standing c))) refl
    (λ n. absurd (true≢false (sym (not-false _ n.1.1.0) ∙ a)))

-- what was kept, handed on: it is the call itself, or, where that awaits a vector, the call that is told it
module _ (w : List ℕ) (l : length w ≡ vector_octets) (c : Call) (s : CallSized c) (kept : ℕ) where
  handed-whole : Whole (handed kept w c)
  unfolding handed
  handed-whole = go (eqb kept one_kept) (under_way (standing c)) refl
    where
      go : (k u : Bool) → under_way (standing c) ≡ u → Whole (pick k (pick u (keeping c w) (alone (announce_of c w).1)) (alone c))
      go true true e = record { sized = record { vector = s.vector; next = l; key = s.key; counts = s.counts }; right = keeping_of c w e }
      go true false e = alone-whole (announce_of c w).1 (announced_sized c s w)
      go false u e = alone-whole c s

  handed-of : call_of (handed kept w c) ≡ pick (eqb kept one_kept && awaits (standing c)) (announce_of c w).1 c
  unfolding handed
  handed-of = go (eqb kept one_kept) (under_way (standing c)) (awaits (standing c)) refl refl
    where
      go : (k u a : Bool) → under_way (standing c) ≡ u → awaits (standing c) ≡ a
          → call_of (pick k (pick u (keeping c w) (alone (announce_of c w).1)) (alone c)) ≡ pick (k && a) (announce_of c w).1 c
      go true true true e f = absurd (true≢false (sym e ∙ waits_not (standing c) f))
      go true true false e f = keeping_of c w e
      go true false true e f = alone_of (announce_of c w).1
      go true false false e f = alone_of (announce_of c w).1 ∙ announce_not c w f
      go false u a e f = alone_of c

waits_some : (s : Standing) → awaits s ≡ true → is_bad s ≡ false
waits_some closed a = refl
waits_some bad a = absurd (true≢false (sym a))
waits_some (sending t p v) a = refl
waits_some (receiving t p k) a = refl

module _ (h : Hearing) (i : Whole h) where
  own : CallSized h.call
  own = rw i.right at (call_of_sized h i)

  -- an operation
  module _ (b : List ℕ) (o : CallOperation) where
    abbrev r : Answer × (Call × List ℕ)
    r = call_step b (call_of h) o

    carried-whole : Whole (carried (λ c. call_step b c o) h).1.0
    unfolding carried handed_on
    carried-whole = go (ltb 1 (number_of r.0))
      where
        go : (t : Bool) → Whole (pick t h (handed h.kept h.next r.1.0))
        go true = i
        go false = handed-whole h.next i.sized.next r.1.0 (call_sized (call_of h) (call_of_sized h i) b o) h.kept

    carried_of : call_of (carried (λ c. call_step b c o) h).1.0 ≡ pick (starts_next h r) (announce_of r.1.0 h.next).1 r.1.0
    unfolding carried handed_on
    carried_of = go (ltb 1 (number_of r.0)) refl
      where
        go : (t : Bool) → ltb 1 (number_of r.0) ≡ t
            → call_of (pick t h (handed h.kept h.next r.1.0)) ≡ pick (starts_next h r) (announce_of r.1.0 h.next).1 r.1.0
        go true e =
            let n : 2 ≤ number_of r.0 = ltb-true 1 (number_of r.0) e in
            rw (le-ltb (number_of r.0) 2 n, and_false_r (eqb h.kept one_kept))
            (sym (ap (λ (x : Call × List ℕ). x.0) ((call_settles b (call_of h) o).keeps n)))
        go false e =
            rw (lt-ltb (number_of r.0) 2 (omega (arith, ltb-false 1 (number_of r.0) e)))
            (handed-of h.next i.sized.next r.1.0 (call_sized (call_of h) (call_of_sized h i) b o) h.kept)

  -- a vector is heard
  module _ (w : List ℕ) where
    heard-whole : Whole (heard_of h w).1
    unfolding heard_of heard_refusals
    heard-whole =
        leaves Whole h (heard_refusals (standing (call_of h)) w) (Done, handed one_kept w h.call) i
        (λ n. handed-whole w (eqb-true _ _ (not-false _ n.0)) h.call own one_kept)

    heard-of : call_of (heard_of h w).1 ≡ pick (awaits (standing (call_of h))) (announce_of (call_of h) w).1 (call_of h)
    unfolding heard_of heard_refusals
    heard-of = go (awaits (standing (call_of h))) refl
      where
        go : (t : Bool) → awaits (standing (call_of h)) ≡ t → call_of (heard_of h w).1 ≡ pick t (announce_of (call_of h) w).1 (call_of h)
        go true a =
            ap (λ (x : Answer × Hearing). call_of x.1)
            (heard_now_lem h w (good_of h (good_by (call_of h) (waits_some (standing (call_of h)) a))) (rw i.right at a) i.sized.next)
            ∙ alone_of (announce_of h.call w).1
            ∙ ap (λ (c : Call). (announce_of c w).1) (sym i.right)
        go false a =
            leaves (λ s. call_of s ≡ call_of h) h (heard_refusals (standing (call_of h)) w) (Done, handed one_kept w h.call) refl
            (λ n.
            handed-of w (eqb-true _ _ (not-false _ n.0)) h.call own one_kept
            ∙ ap (λ (c : Call). pick (awaits (standing c)) (announce_of c w).1 c) (sym i.right)
            ∙ rw a)

asked-whole : (b : List ℕ) (a : Asked) (h : Hearing) → Whole h → Whole (asked_step b a h).1.0
asked-whole b (Of o) h i = carried-whole h i b o
asked-whole b (Heard w) h i = heard-whole h i w

asked_keeps : (b : List ℕ) (a : Asked) (h : Hearing) → Refusal (asked_step b a h).0 → (asked_step b a h).1.0 ≡ h
asked_keeps b (Of o) h = carried_keeps (λ c. call_step b c o) h
asked_keeps b (Heard w) h = heard_keeps h w

-- ---- what the octets hold afterwards

-- where what is lent fits, it is what the operation left
module _ {S : Type 0} (size : ℕ) (read : List ℕ → S) (write : S → List ℕ) (fit : Bool) (f : S → Answer × (S × List ℕ)) (x l : List ℕ)
    (long : length x ≡ size) where
  abbrev did : ℕ × (List ℕ × List ℕ)
  did = on_lent size read write fit f x l

  abbrev after : List ℕ
  after = did.1.0

  abbrev left : S
  left = (f (read x)).1.0

  -- of so many octets, that hold s
  abbrev In : S → List ℕ → Type 0
  In s o = (length o ≡ size) × (read o ≡ s)

  taken : fit ≡ true → (number_of (f (read x)).0, (lent_after write x (f (read x)).0 left, out_after l (f (read x)).0 (f (read x)).1.1)) ≡ did
  taken e = lent.kept size read write fit f x l long e refl refl refl

  left_in : fit ≡ true → (Refusal (f (read x)).0 → left ≡ read x) → In left (write left) → In left after
  unfolding lent_after
  left_in e keeps back = subst (λ (y : ℕ × (List ℕ × List ℕ)). In left y.1.0) (taken e) (go (ltb 1 (number_of (f (read x)).0)) refl)
    where
      go : (t : Bool) → ltb 1 (number_of (f (read x)).0) ≡ t → In left (pick t x (write left))
      go true q = (long, sym (keeps (ltb-true _ _ q)))
      go false q = back

  unfit-in : fit ≡ false → (2, (x, l)) ≡ did
  unfit-in e = lent.unfit size read write fit f x l long e

  -- and it answers and hands out what the operation does
  pub answered_as : (did.0, did.1.1) ≡ if_fits fit l (handing l ((f (read x)).0, (f (read x)).1.1))
  answered_as = go fit refl
    where
      go : (t : Bool) → fit ≡ t → (did.0, did.1.1) ≡ if_fits t l (handing l ((f (read x)).0, (f (read x)).1.1))
      go true e = sym (ap (λ (y : ℕ × (List ℕ × List ℕ)). (y.0, y.1.1)) (taken e))
      go false e = sym (ap (λ (y : ℕ × (List ℕ × List ℕ)). (y.0, y.1.1)) (unfit-in e))

-- a call's octets, and a packet's
pub record CallIn (x : List ℕ) : Type 0 where
  pub long : length x ≡ call.call_octets
  pub whole : Whole (call.hearing_in x)

pub record PacketIn (x : List ℕ) : Type 0 where
  pub long : length x ≡ packet.packet_octets
  pub sized : PacketSized (packet.packet_in x)

module _ (b : List ℕ) (a : Asked) (x l : List ℕ) (i : CallIn x) where
  pub asked-left : fits a l ≡ true
      → (length (on_call b a x l).1.0 ≡ call.call_octets) × (call.hearing_in (on_call b a x l).1.0 ≡ (asked_step b a (call.hearing_in x)).1.0)
  unfolding on_call
  asked-left e =
      let h = call.hearing_in x in
      let w = asked-whole b a h i.whole in
      left_in call.call_octets call.hearing_in call.octets_of (fits a l) (asked_step b a) x l i.long e (asked_keeps b a h)
      (length_of (asked_step b a h).1.0 w.sized, read_written (asked_step b a h).1.0 w.sized)

  pub asked_unfit : fits a l ≡ false → (on_call b a x l).1.0 ≡ x
  unfolding on_call
  asked_unfit e =
      sym (ap (λ (y : ℕ × (List ℕ × List ℕ)). y.1.0) (unfit-in call.call_octets call.hearing_in call.octets_of (fits a l) (asked_step b a) x l i.long e))

  pub call_in_lem : CallIn (on_call b a x l).1.0
  call_in_lem = go (fits a l) refl
    where
      go : (t : Bool) → fits a l ≡ t → CallIn (on_call b a x l).1.0
      go true e =
          let k = asked-left e in
          record { long = k.0; whole = subst Whole (sym k.1) (asked-whole b a (call.hearing_in x) i.whole) }
      go false e = subst CallIn (sym (asked_unfit e)) i

module _ (b : List ℕ) (o : PacketOperation) (x l : List ℕ) (i : PacketIn x) where
  packet-left : (length (on_packet b o x l).1.0 ≡ packet.packet_octets) × (packet.packet_in (on_packet b o x l).1.0 ≡ (packet_step b (packet.packet_in x) o).1.0)
  unfolding on_packet
  packet-left =
      let p = packet.packet_in x in
      let s = packet_sized p i.sized b o in
      left_in packet.packet_octets packet.packet_in packet.octets_of true (λ q. packet_step b q o) x l i.long refl
      (λ h. ap (λ (y : Packet × List ℕ). y.0) ((packet_settles b p o).keeps h))
      (packet-length_of (packet_step b p o).1.0 s, packet_read_written (packet_step b p o).1.0 s)

  packet-in : PacketIn (on_packet b o x l).1.0
  packet-in = record { long = packet-left.0; sized = subst PacketSized (sym packet-left.1) (packet_sized (packet.packet_in x) i.sized b o) }

-- ---- a host

pub record RightHost (h : Host) : Type 0 where
  pub calls : (n : ℕ) → CallIn (h.calls n)
  pub packets : (n : ℕ) → PacketIn (h.packets n)

-- where its own is right, and all others
each_number : {A : Type 0} (P : A → Type 0) (m : ℕ) (x : A) (f : ℕ → A) → P x → ((n : ℕ) → P (f n)) → (n : ℕ) → P (with_number m x f n)
each_number P m x f own others n = by_number P m x f n (λ e. own) (λ q. others n)

host_kept : (h : Host) (f : Function) (l : List ℕ) → RightHost h → RightHost (host_step h f l).1.0
unfolding host_step
host_kept h (Keys o) l k = record { calls = k.calls; packets = k.packets }
host_kept h (Screen o) l k = k
host_kept h (OnCall m a) l k =
    record { calls = each_number CallIn m _ h.calls (call_in_lem h.book a (h.calls m) l (k.calls m)) k.calls; packets = k.packets }
host_kept h (LookAt m a) l k = k
host_kept h (OnPacket m o) l k =
    record { calls = k.calls; packets = each_number PacketIn m _ h.packets (packet-in h.book o (h.packets m) l (k.packets m)) k.packets }

none_kept_lem : RightHost zeros
none_kept_lem =
    record {
      calls = λ n. record { long = refl; whole = subst Whole (sym none_read) (alone-whole no_call no_call_sized) };
      packets = λ n. record { long = refl; sized = subst PacketSized (sym no_packet_read) no_packet_sized };
    }

-- ---- the operations that a function comes to

-- a device after some more, the latest first
runs : Device → List Operation → Device
runs d [] = d
runs d (o ∷ os) = (step (runs d os) o).1.0

runs_after : (os ps : List Operation) → device_after step (os ++ ps) ≡ runs (device_after step ps) os
unfolding runs device_after
runs_after [] ps = refl
runs_after (o ∷ os) ps = ap (λ (d : Device). (step d o).1.0) (runs_after os ps)

-- with another call of number n
abbrev leaves_call : Device → ℕ → Call → Device
leaves_call d n c = record { book = d.book; calls = with_number n c d.calls; packets = d.packets }

-- put twice, the last counts
put_twice : {A : Type 0} (n : ℕ) (x y : A) (f : ℕ → A) (m : ℕ) → with_number n x (with_number n y f) m ≡ with_number n x f m
put_twice {A} n x y f m = go (eqb m n)
  where
    go : (t : Bool) → pick {A = A} t x (pick t y (f m)) ≡ pick t x (f m)
    go true = refl
    go false = refl

pub own-number : {A : Type 0} (n : ℕ) (x : A) (f : ℕ → A) → with_number n x f n ≡ x
own-number n x f = rw (eq-eqb n n refl)

module _ (d : Device) (n : ℕ) (w : List ℕ) where
  -- a vector is announced, or not
  announce-runs : (t : Bool) → Same (runs d (pick t (OfCall n (Announce w) ∷ []) [])) (leaves_call d n (pick t (announce_of (d.calls n) w).1 (d.calls n)))
  unfolding runs step call_step
  announce-runs true = record { book = refl; calls = λ m. refl; packets = λ m. refl }
  announce-runs false = record { book = refl; calls = λ m. sym (same_number n d.calls refl m); packets = λ m. refl }

  -- after an operation
  call-runs : (o : CallOperation) (t : Bool)
      → Same (runs d (pick t (OfCall n (Announce w) ∷ []) [] ++ (OfCall n o ∷ [])))
      (leaves_call d n (pick t (announce_of (call_step d.book (d.calls n) o).1.0 w).1 (call_step d.book (d.calls n) o).1.0))
  unfolding runs step call_step
  call-runs o true =
      let c = (call_step d.book (d.calls n) o).1.0 in
      record {
        book = refl;
        calls = λ m. put_twice n _ c d.calls m ∙ ap (λ (x : Call). with_number n (announce_of x w).1 d.calls m) (own-number n c d.calls);
        packets = λ m. refl;
      }
  call-runs o false = record { book = refl; calls = λ m. refl; packets = λ m. refl }

-- ---- what is held

same_held : {h : Host} {d e : Device} → Same d e → Holds h e → Holds h d
same_held s k = record { book = k.book ∙ sym s.book; calls = λ n. k.calls n ∙ sym (s.calls n); packets = λ n. k.packets n ∙ sym (s.packets n) }

-- of one number and of all others, as the same are read
both : {A B : Type 0} (g : A → B) (n : ℕ) (x : A) (y : B) (f : ℕ → A) (e : ℕ → B) → g x ≡ y → ((m : ℕ) → g (f m) ≡ e m) → (m : ℕ)
    → g (with_number n x f m) ≡ with_number n y e m
both {A} {B} g n x y f e own others m = go (eqb m n)
  where
    go : (t : Bool) → g (pick t x (f m)) ≡ pick t y (e m)
    go true = own
    go false = others m

module _ (h : Host) (d : Device) (k : RightHost h) (p : Holds h d) (l : List ℕ) where
  abbrev its : ℕ → Hearing
  its n = call.hearing_in (h.calls n)

  call_held : (n : ℕ) (x : List ℕ) (c : Call) → call_of (call.hearing_in x) ≡ c
      → Holds (record { book = h.book; calls = with_number n x h.calls; packets = h.packets }) (leaves_call d n c)
  call_held n x c e =
      record { book = p.book; calls = both (λ (y : List ℕ). call_of (call.hearing_in y)) n x c h.calls d.calls e p.calls; packets = p.packets }

  asked-held : (n : ℕ) (a : Asked) → Holds (host_step h (OnCall n a) l).1.0 (runs d (comes_to h (OnCall n a) l))
  unfolding host_step runs
  asked-held n (Of o) = go (fits (Of o) l) refl
    where
      r : Answer × (Call × List ℕ)
      r = call_step h.book (call_of (its n)) o

      x : List ℕ
      x = (on_call h.book (Of o) (h.calls n) l).1.0

      go : (t : Bool) → fits (Of o) l ≡ t
          → Holds (record { book = h.book; calls = with_number n x h.calls; packets = h.packets })
          (runs d (pick t (pick (starts_next (its n) r) (OfCall n (Announce (its n).next) ∷ []) [] ++ (OfCall n o ∷ [])) []))
      go true e =
          same_held (call-runs d n (its n).next o (starts_next (its n) r))
          (call_held n x _
          (ap call_of (asked-left h.book (Of o) (h.calls n) l (k.calls n) e).1
          ∙ carried_of (its n) (k.calls n).whole h.book o
          ∙ ap₂ (λ (b : List ℕ) (c : Call). let y = (call_step b c o).1.0 in pick (starts_next (its n) r) (announce_of y (its n).next).1 y)
          p.book (p.calls n)))
      go false e =
          record {
            book = p.book;
            calls =
                λ m.
                ap (λ (y : List ℕ). call_of (call.hearing_in y)) (same_number n h.calls (asked_unfit h.book (Of o) (h.calls n) l (k.calls n) e) m)
                ∙ p.calls m;
            packets = p.packets;
          }
  asked-held n (Heard w) =
      let t = awaits (standing (call_of (its n))) in
      same_held (announce-runs d n w t)
      (call_held n _ _
      (ap call_of (asked-left h.book (Heard w) (h.calls n) l (k.calls n) refl).1
      ∙ heard-of (its n) (k.calls n).whole w
      ∙ ap (λ (c : Call). pick t (announce_of c w).1 c) (p.calls n)))

  function-held : (f : Function) → Holds (host_step h f l).1.0 (runs d (comes_to h f l))
  unfolding host_step runs step on_book call_step
  function-held (Keys o) = record { book = ap (λ (b : List ℕ). (book.step o b).1) p.book; calls = p.calls; packets = p.packets }
  function-held (Screen o) = go (eqb (length l) (screen_room o))
    where
      go : (t : Bool) → Holds h (runs d (pick t (OfScreen o ∷ []) []))
      go true = p
      go false = p
  function-held (OnCall n a) = asked-held n a
  function-held (LookAt n Next) = record { book = p.book; calls = λ m. p.calls m ∙ sym (same_number n d.calls refl m); packets = p.packets }
  function-held (LookAt n Show) = p
  function-held (OnPacket n o) =
      record {
        book = p.book;
        calls = p.calls;
        packets =
            both packet.packet_in n (on_packet h.book o (h.packets n) l).1.0 (packet_step d.book (d.packets n) o).1.0 h.packets d.packets
            ((packet-left h.book o (h.packets n) l (k.packets n)).1
            ∙ ap₂ (λ (b : List ℕ) (q : Packet). (packet_step b q o).1.0) p.book (p.packets n)) p.packets;
      }

-- ---- any history from zeros

pub always_kept : (fs : Calls) → RightHost (host_after fs)
unfolding host_after
always_kept [] = none_kept_lem
always_kept (f ∷ fs) = host_kept (host_after fs) f.0 f.1 (always_kept fs)

-- is the history of the operations that its functions come to
pub octets_hold : (fs : Calls) → Holds (host_after fs) (device_after step (read_operations fs))
unfolding host_after read_operations device_after
octets_hold [] = record { book = refl; calls = λ n. ap call_of none_read ∙ alone_of no_call; packets = λ n. no_packet_read }
octets_hold (f ∷ fs) =
    subst (Holds (host_step (host_after fs) f.0 f.1).1.0) (sym (runs_after (comes_to (host_after fs) f.0 f.1) (read_operations fs)))
    (function-held (host_after fs) (device_after step (read_operations fs)) (always_kept fs) (octets_hold fs) f.1 f.0)
