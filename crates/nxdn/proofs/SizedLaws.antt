-- A call with what it keeps, that fits its octets, still does after a slot, arrived or lost, and after a vector that is announced, heard or handed on.
use mathlib.Core.Path.{◌≡◌, refl}
use mathlib.Core.Bool.{Bool, true, false}
use mathlib.Core.List.{List}
use Prim.Native.Nat.{ℕ}
use lib.Dec.{eqb, ltb}
use lib.ListN.{length}
use borrow.Author.Tests.{eqb-true, not-false}
use Rattle.octets.specs.Tests.{pick}
use Rattle.sizes.specs.Ciphers.{vector_octets}
use Rattle.answers.specs.declared.Answer.{Answer}
use Rattle.answers.specs.declared.Answer.TheVariants.{Done}
use Rattle.answers.specs.Numbers.{number_of}
use Rattle.answers.proofs.OutcomeLaws.{leaves}
use Rattle.calls.specs.declared.call.Call.{Call}
use Rattle.calls.specs.Call.{standing}
use Rattle.calls.specs.Vector.{announce_of}
use Rattle.hearing.specs.declared.Hearing.{Hearing}
use Rattle.hearing.specs.Hearing.{one_kept, under_way, kept_right, bad_call, call_of, alone, keeping}
use Rattle.hearing.specs.Heard as heard
use Rattle.held.proofs.CallLaws.{Sized}
use Rattle.nxdn.proofs.RoomLaws.{CallSized, none_four, announced_sized}

pub its_call : (h : Hearing) → Sized h → CallSized h.call
its_call h s = record { vector = s.vector; key = s.key; counts = s.counts }

pub with_next : (h : Hearing) → CallSized h.call → length h.next ≡ vector_octets → Sized h
with_next h s l = record { vector = s.vector; next = l; key = s.key; counts = s.counts }

module _ (c : Call) (s : CallSized c) where
  pub handed_sized : (w : List ℕ) → length w ≡ vector_octets → (kept : ℕ) → Sized (heard.handed kept w c)
  unfolding heard.handed
  handed_sized w l kept = go (eqb kept one_kept) (under_way (standing c))
    where
      go : (k u : Bool) → Sized (pick k (pick u (keeping c w) (alone (announce_of c w).1)) (alone c))
      go true true = with_next (keeping c w) s l
      go true false = with_next (alone (announce_of c w).1) (announced_sized c s w) refl
      go false u = with_next (alone c) s refl

module _ (h : Hearing) (s : Sized h) where
  pub its_sized : CallSized (call_of h)
  unfolding call_of
  its_sized = go (kept_right h.kept h.next (standing h.call))
    where
      go : (t : Bool) → CallSized (pick t h.call bad_call)
      go true = its_call h s
      go false = record { vector = refl; key = refl; counts = none_four }

  pub on_sized : (a : Answer) (c : Call) → CallSized c → Sized (heard.handed_on h a c)
  unfolding heard.handed_on
  on_sized a c d = go (ltb 1 (number_of a))
    where
      go : (t : Bool) → Sized (pick t h (heard.handed h.kept h.next c))
      go true = s
      go false = handed_sized c d h.next s.next h.kept

  pub heard_sized : (w : List ℕ) → Sized (heard.heard_of h w).1
  unfolding heard.heard_of heard.heard_refusals
  heard_sized w =
      leaves Sized h (heard.heard_refusals (standing (call_of h)) w) (Done, heard.handed one_kept w h.call) s
      (λ n. handed_sized h.call (its_call h s) w (eqb-true _ _ (not-false _ n.0)) one_kept)
