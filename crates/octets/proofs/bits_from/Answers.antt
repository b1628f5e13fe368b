-- `octets::bits_from` meets its contract.
use mathlib.Core.Path.{◌≡◌, ap, ◌∙◌}
use mathlib.Core.List.{List, ◌++◌}
use Prim.Native.Nat.{◌+◌, ◌-◌, ◌*◌}
use native.Mathlib.Omega.{arith}
use lib.ListN.{length, drop, replicate}
use Rattle.octets.specs.Bits.{bit}
use Rattle.octets.proofs.Parts.{part_bit}
use Rattle.octets.proofs.Streams.{padded-bit, moved-bits}
use Rattle.octets.proofs.bits_from.Goals as goal

pub returns-then-stream-lt8 : goal.returns-then-stream-lt8
returns-then-stream-lt8 c k h l =
    moved-bits c.args.stream.now (c.copy_from_slice.new.self ++ drop (length c.args.stream.now) (replicate 8 0)) c.number_of.result 0 (8 * c.args.first + c.args.s) (8 * c.args.first + c.args.s) (omega arith) c.number_of.ensures
    (λ j b i.
    let e : j ≡ 8 * 0 + j = omega arith in
    padded-bit c.args.stream.now c.copy_from_slice.new.self (replicate 8 0) c.copy_from_slice.ensures.after j (omega arith) ∙ ap (bit c.args.stream.now) e) k (omega arith) l

pub returns : goal.returns
returns c k h l =
    moved-bits c.args.stream.now c.copy_from_slice-2.new.self c.number_of-2.result c.min-start.result (8 * c.args.first + c.args.s) (8 * (c.args.first - c.min-start.result) + c.args.s) (omega arith) c.number_of-2.ensures
    (λ j b i. ap (λ (o : List _). bit o j) c.copy_from_slice-2.ensures.after ∙ part_bit c.min-start.result (c.min-start.result + 8 - c.min-start.result) c.args.stream.now j (omega arith)) k (omega arith) l
