-- `batch::voice_step` meets its contract.
use mathlib.Core.Path.{ap, ◌∙◌}
use native.Mathlib.Omega.{arith}
use Rattle.std.proofs.lemmas.Result.{err_from_is_err_and}
use Rattle.sizes.specs.Frame.{frame_octets}
use Rattle.batch.proofs.BatchLaws.{kept_cached, voice_done, voice_refused}
use borrow.Author.Rules.{rules}
use Rattle.batch.proofs.voice_step.Goals as goal

pub returns-in_err-slot-clause-taken : goal.returns-in_err-slot-clause-taken
returns-in_err-slot-clause-taken c =
    let p = err_from_is_err_and c.from_residual.result c.from_residual.ensures.1 in
    rw (p.1, p.2)
    (voice_refused _ c.args.step.now c.call_of.ensures _ c.args.before.call.terms.rate c.frame_octets-octets.result (c.frame_octets-octets.ensures ∙ ap frame_octets c.width.ensures.0)
    (omega (arith, c.frame_octets-octets.ensures, c.width.ensures.1, c.requires.0)) c.voice_slot.ensures.slot (search rules) c.in_err-slot.was)

pub returns-clause-taken : goal.returns-clause-taken
returns-clause-taken c =
    voice_done _ c.args.step.now c.call_of.ensures _ c.args.before.call.terms.rate c.frame_octets-octets.result (c.frame_octets-octets.ensures ∙ ap frame_octets c.width.ensures.0)
    (omega (arith, c.frame_octets-octets.ensures, c.width.ensures.1, c.requires.0)) c.voice_slot.ensures.slot (search rules) c.in_ok-slot.was c.kept_on.ensures.handed

pub returns-clause-cached : goal.returns-clause-cached
returns-clause-cached c =
    rw c.kept_on.ensures.as_they_were (kept_cached c.args.before _ (rw c.in_ok-slot.was at c.voice_slot.ensures.cached) c.kept_on.ensures.handed c.kept_on.ensures.made_before)
