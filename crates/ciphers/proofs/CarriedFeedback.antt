-- What the joined engine carries stands for the blocks of output feedback by DES.
use mathlib.Core.Path.{◌≡◌, ap, ◌∙◌}
use mathlib.Core.List.{List}
use Prim.Native.Nat.{ℕ, ◌+◌}
use native.Mathlib.Numerals.{add-one}
use lib.ListN.{length}
use Rattle.octets.specs.Bits.{Octets}
use Rattle.octets.specs.Lists.{iterate}
use Rattle.des.specs.Des.{Halves, des}
use Rattle.joineddes.specs.Joined.{first_halves, carried_on, block_of, keys_in, Scheduled}
use Rattle.joineddes.proofs.BothEngines.{block_at}

-- a step more of any iteration
pub iterate_more : {A : Type 0} (step : A → A) (first x y : A) (n : ℕ) → x ≡ iterate step n first → y ≡ step x → y ≡ iterate step (n + 1) first
unfolding iterate
iterate_more step first x y n e f = rw (add-one n) (f ∙ ap step e)

-- the block of what is carried, by whichever key the words hold
pub carried-block : (words vector out : List ℕ) (n : ℕ) (h : Halves) → length vector ≡ 8 → Octets vector → h ≡ iterate (carried_on (keys_in words)) n (first_halves vector) → out ≡ block_of h
    → (key : List ℕ) → Scheduled key words → out ≡ iterate (des key) n vector
carried-block words vector out n h long octets e f key its = f ∙ ap block_of e ∙ block_at key vector (keys_in words) its.keys long octets n
