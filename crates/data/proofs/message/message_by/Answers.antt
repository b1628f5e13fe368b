-- `data::message::message_by` meets its contract.
use mathlib.Core.Path.{refl, ap, ◌∙◌}
use Prim.Native.Nat.{ℕ, ◌*◌}
use native.Mathlib.Omega.{arith}
use Rattle.std.proofs.lemmas.Result.{err_from_is_err_and}
use Rattle.answers.proofs.ResultLaws.{is_returned, is_refused}
use Rattle.data.specs.declared.packet.Packet.{Packet}
use Rattle.data.proofs.PacketLaws.{open_kind}
use Rattle.data.proofs.LentResults.{refused_lent, returned_lent}
use Rattle.data.proofs.MessageLaws.{none_open, none_few, none-lost, none_long, part_most, place-fits, step_of, step-none, step_counts}
use Rattle.data.proofs.PacketOnce.{lent_refused, part_before, lent_short, lent-turned}
use borrow.Author.Rules.{rules}
use Rattle.data.proofs.message.message_by.Goals as goal

pub returns-in_err-next : goal.returns-in_err-next
returns-in_err-next c =
    let p = err_from_is_err_and c.from_residual.result c.from_residual.ensures.1 in
    let w = is_refused (step_of c.args.packet c.args.message.now) c.step.ensures c.in_err-next.was in
    rw (p.1, p.2) (refused_lent w.1 (lent_refused c.args.stream.now c.args.packet c.args.message.now w.0 w.1))

pub overflow_mul-end : goal.overflow_mul-end
overflow_mul-end c =
    let e = is_returned (step_of c.args.packet c.args.message.now) c.step.ensures c.in_ok-next.was in
    let n = none-lost _ _ (step-none c.args.packet c.args.message.now e) in
    let k = ap (λ (q : Packet). q.count) (step_counts c.args.packet c.args.message.now e) in
    omega (arith, place-fits _ c.from.result (part_most _ (open_kind _ (none_open _ n)) c.protected_octets-part.ensures) (omega (arith, c.from.ensures, k, none_few _ n)))

pub returns-then-stream-end : goal.returns-then-stream-end
returns-then-stream-end c =
    let e = is_returned (step_of c.args.packet c.args.message.now) c.step.ensures c.in_ok-next.was in
    let k = c.from.ensures ∙ ap (λ (q : Packet). q.count) (step_counts c.args.packet c.args.message.now e) in
    refused_lent refl
    (lent_short c.args.stream.now c.args.packet c.args.message.now (step-none c.args.packet c.args.message.now e) _ _ c.protected_octets-part.ensures (ap (λ (n : ℕ). c.protected_octets-part.result * n) k) (search rules))

pub overflow_sub-end : goal.overflow_sub-end
overflow_sub-end c =
    let e = is_returned (step_of c.args.packet c.args.message.now) c.step.ensures c.in_ok-next.was in
    let k = c.from.ensures ∙ ap (λ (q : Packet). q.count) (step_counts c.args.packet c.args.message.now e) in
    part_before c.args.stream.now c.args.packet c.args.message.now (step-none c.args.packet c.args.message.now e) _ _ c.protected_octets-part.ensures (ap (λ (n : ℕ). c.protected_octets-part.result * n) k)

pub overflow_mul-end-2 : goal.overflow_mul-end-2
overflow_mul-end-2 c =
    let e = is_returned (step_of c.args.packet c.args.message.now) c.step.ensures c.in_ok-next.was in
    let n = none-lost _ _ (step-none c.args.packet c.args.message.now e) in
    let k = ap (λ (q : Packet). q.count) (step_counts c.args.packet c.args.message.now e) in
    omega (arith, place-fits _ c.from.result (part_most _ (open_kind _ (none_open _ n)) c.protected_octets-part.ensures) (omega (arith, c.from.ensures, k, none_few _ n)))

pub turn_by-requires : goal.turn_by-requires
turn_by-requires c =
    let e = is_returned (step_of c.args.packet c.args.message.now) c.step.ensures c.in_ok-next.was in
    let n = step-none c.args.packet c.args.message.now e in
    let k = c.from.ensures ∙ ap (λ (q : Packet). q.count) (step_counts c.args.packet c.args.message.now e) in
    let b = part_before c.args.stream.now c.args.packet c.args.message.now n _ _ c.protected_octets-part.ensures (ap (λ (n : ℕ). c.protected_octets-part.result * n) k) in
    (open_kind _ (none_open _ (none-lost _ _ n)), none_long _ _ n, omega (arith, b, c.protected_octets-part.ensures))

pub returns : goal.returns
returns c =
    let e = is_returned (step_of c.args.packet c.args.message.now) c.step.ensures c.in_ok-next.was in
    let t = step_counts c.args.packet c.args.message.now e in
    returned_lent
    (lent-turned c.args.stream.now c.args.packet c.args.message.now (step-none c.args.packet c.args.message.now e) _ _ c.protected_octets-part.ensures (ap (λ (n : ℕ). c.protected_octets-part.result * n) (c.from.ensures ∙ ap (λ (q : Packet). q.count) t)) t (search rules) c.turn_by.ensures)
