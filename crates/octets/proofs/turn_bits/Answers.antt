-- `octets::turn_bits` meets its contract: the octets below `at` are turned, and the others as they were.
use mathlib.Core.Path.{◌≡◌, sym, ap, ◌∙◌}
use Prim.Native.Nat.{ℕ, ◌+◌, min}
use native.Mathlib.Omega.{arith}
use borrow.Author.Rules.{rules}
use Rattle.octets.proofs.Front.{front_start, front_to}
use Rattle.octets.proofs.Turning.{length-turned}
use Rattle.octets.proofs.Streams.{turn_more, turn_done}
use Rattle.octets.proofs.turn_bits.Goals as goal

pub loop-at-init : goal.loop-at-init
loop-at-init c = (search rules, search rules, front_start _ _ (sym (length-turned _ _ _)))

pub loop-at-preserved : goal.loop-at-preserved
loop-at-preserved c =
    let seven : c.min-octets.result ≡ 7 = omega arith in
    let f = front_to _ c.args.part.now _ _ _ (ap (λ (n : ℕ). c.loop-at.at + n) seven)
    (turn_more c.args.width c.args.from c.args.stream.now c.args.part.now (search rules) c.loop-at.at c.min-bits.result c.bits_from.result c.top.result
    (omega arith) c.min-bits.ensures c.bits_from.ensures c.top.ensures
    c.loop-at.part _ c.octets_of-key.result c.min-octets.result c.loop-at.invariant.2 (omega arith) (omega arith) c.octets_of-key.ensures c.turn_octets.ensures) in
    (omega arith, f.size ∙ length-turned _ _ _, f)

pub returns : goal.returns
returns c =
    turn_done c.args.width c.args.from c.args.stream.now c.args.part.now (search rules) (λ j. search rules) _ _ _ c.loop-at.invariant.2
    (c.min-n.ensures ∙ ap (min _) (search rules)) (search rules)

pub returns-2 : goal.returns-2
returns-2 c =
    let f = turn_more c.args.width c.args.from c.args.stream.now c.args.part.now (search rules) c.loop-at.at c.min-bits.result c.bits_from.result c.top.result
    (omega arith) c.min-bits.ensures c.bits_from.ensures c.top.ensures
    c.loop-at.part _ c.octets_of-key.result c.min-octets.result c.loop-at.invariant.2 (omega arith) (omega arith) c.octets_of-key.ensures c.turn_octets.ensures in
    turn_done c.args.width c.args.from c.args.stream.now c.args.part.now (search rules) (λ j. search rules) _ _ _ f
    (c.min-n.ensures ∙ ap (min _) (search rules)) (omega arith)
