-- `voice::slot::step` meets its contract.
use mathlib.Core.Path.{ap, ◌∙◌}
use Rattle.std.proofs.lemmas.Result.{err_from_is_err_and}
use Rattle.calls.specs.Counts.{total}
use Rattle.calls.proofs.CountLaws.{arrived-fits}
use Rattle.voice.proofs.SlotLaws.{none-good, none_open, none-full, taken_none, slot_refused, slot_taken}
use Rattle.voice.proofs.slot.step.Goals as goal

pub returns-in_err-held : goal.returns-in_err-held
returns-in_err-held c =
    let p = err_from_is_err_and c.from_residual.result c.from_residual.ensures.1 in rw (p.1, p.2) (slot_refused _ _ _ c.is_held.ensures c.in_err-held.was)

pub slot_on-call-requires : goal.slot_on-call-requires
slot_on-call-requires c =
    let n = taken_none _ _ _ c.is_held.ensures c.in_ok-held.was in
    (none-good _ _ _ n, none_open _ _ _ n, none-full _ _ _ n, ap total c.arrived_words.ensures ∙ (arrived-fits c.args.mask _).four)

pub returns : goal.returns
returns c = slot_taken _ _ _ c.is_held.ensures c.in_ok-held.was c.arrived_words.ensures c.slot_on-call.ensures
