-- `joineddes::round_keys` meets its contract: after n turns the numbers hold the keys of the first n rounds.
use mathlib.Core.Path.{◌≡◌, refl, sym, ap, ap₂, ◌∙◌}
use Prim.Native.Nat.{ℕ, suc, ◌+◌}
use native.Mathlib.Numerals.{add-one}
use native.Mathlib.Omega.{arith}
use borrow.Author.Rules.{rules}
use lib.ListN.{get_or}
use Rattle.octets.specs.Bits.{bit}
use Rattle.octets.specs.Lists.{tab}
use Rattle.des.specs.Tables.{pc_2, left_shifts}
use Rattle.des.specs.Des.{round_key}
use Rattle.des.specs.Prepared.{shifts_to}
use Rattle.des.proofs.KeyLaws.{shifts_within, bits_key}
use Rattle.joineddes.proofs.ScheduleLaws.{HasBoxes, box_bits-is, keys_start, keys_more, keys_done}
use Rattle.joineddes.proofs.round_keys.Goals as goal
use Rattle.joineddes.proofs.round_keys.Goals.{After-round_bits-bits}

pub loop-n-init : goal.loop-n-init
unfolding shifts_to
loop-n-init c = (refl, keys_start _ _ refl)

-- how far one round more shifts
more-shifts : (n : ℕ) {shifts more : ℕ} → shifts ≡ shifts_to n → more ≡ get_or left_shifts n 0 → shifts + more ≡ shifts_to (suc n)
unfolding shifts_to
more-shifts n e f = ap₂ ◌+◌ e f

pub overflow_add-shifts : goal.overflow_add-shifts
overflow_add-shifts c = omega (arith, c.loop-n.invariant.0, shifts_within c.loop-n.n (search rules))

pub round_bits-bits-requires : goal.round_bits-bits-requires
unfolding pc_2 left_shifts
round_bits-bits-requires c =
    (refl, omega (arith, more-shifts c.loop-n.n c.loop-n.invariant.0 c.from-shifts.ensures, shifts_within (suc c.loop-n.n) (search rules)))

-- the round's key, as it is read
read : (c : After-round_bits-bits) → c.round_bits-bits.result ≡ round_key (tab (bit c.args.key.now) 64) c.loop-n.n
unfolding left_shifts
read c = c.round_bits-bits.ensures _ c.loop-n.n (search rules) c.halves_twice-halves.ensures (more-shifts c.loop-n.n c.loop-n.invariant.0 c.from-shifts.ensures)

pub key_number-requires : goal.key_number-requires
key_number-requires c = (bits_key c.args.key.now _ (read (goal.at.key_number-requires c).After-round_bits-bits), search rules)

pub key_number-requires-in-loop-n : goal.key_number-requires-in-loop-n
key_number-requires-in-loop-n c = (bits_key c.args.key.now _ (read (goal.at.key_number-requires-in-loop-n c).After-round_bits-bits), search rules)

pub loop-n-preserved : goal.loop-n-preserved
unfolding HasBoxes left_shifts
loop-n-preserved c =
    let shifts = more-shifts c.loop-n.n c.loop-n.invariant.0 c.from-shifts.ensures in
    let key = box_bits-is _ _ _ (search rules) c.key_number.ensures c.key_number-in-loop-n.ensures ∙ read (goal.at.loop-n-preserved c).After-round_bits-bits in
    (shifts ∙ ap shifts_to (sym (add-one c.loop-n.n)), keys_more _ _ _ _ _ (omega arith) key c.loop-n.invariant.1)

pub returns : goal.returns
returns c = keys_done _ _ _ (omega arith) c.loop-n.invariant.1
