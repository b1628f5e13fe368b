-- `des::substitute` meets its contract.
use mathlib.Core.Path.{◌≡◌, sym, ap, ◌∙◌}
use mathlib.Core.List.{List}
use Prim.Native.Nat.{ℕ, ◌+◌, ◌-◌, ◌*◌, ◌/◌, ◌%◌, ◌^◌, ◌<◌}
use native.Mathlib.Omega.{arith}
use borrow.Author.Rules.{rules}
use lib.ListN.{length, get_or}
use Rattle.octets.proofs.Front.{front_start, front_to, front_four, front_done}
use Rattle.des.specs.Des.{box_place, substituted}
use Rattle.des.specs.Tables.{table_s}
use Rattle.des.proofs.BitLists.{length-substituted, get_or-substituted}
use Rattle.des.proofs.TableLaws.{length_boxes}
use Rattle.des.proofs.substitute.Goals as goal

pub loop-i-init : goal.loop-i-init
loop-i-init c = front_start _ _ (sym (length-substituted _))

pub bounds-boxes-at : goal.bounds-boxes-at
bounds-boxes-at c = omega (arith, ap length c.requires.0, length_boxes)

pub loop-i-preserved : goal.loop-i-preserved
loop-i-preserved c =
    let v = get_or c.args.boxes.now c.box_place-at.result 0 in
    let e : v ≡ get_or table_s (box_place c.args.bits.now c.loop-i.i) 0 =
    ap (λ (t : List ℕ). get_or t c.box_place-at.result 0) c.requires.0 ∙ ap (λ (k : ℕ). get_or table_s k 0) c.box_place-at.ensures.0 in
    let has : (r : ℕ) → r < 4 → v / 2 ^ (3 - r) % 2 ≡ get_or (substituted c.args.bits.now) (4 * c.loop-i.i + r) 0 = λ r h. get_or-substituted c.args.bits.now v c.loop-i.i r (search rules) h e in
    front_to _ _ _ _ _ (omega arith)
    (front_four _ _ _ _ _ _ _ _ c.loop-i.invariant (omega (arith, length-substituted c.args.bits.now)) (has 0 (omega arith) ∙ ap (λ (k : ℕ). get_or (substituted c.args.bits.now) k 0) (omega arith)) (has 1 (omega arith)) (has 2 (omega arith))
    (omega (arith, has 3 (omega arith))))

pub returns : goal.returns
returns c = front_done _ _ _ _ c.loop-i.invariant (simp length-substituted (search rules))
