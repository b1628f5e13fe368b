-- `records::step::step` meets its contract.
use mathlib.Core.Path.{sym, ap, ◌∙◌}
use native.Mathlib.Omega.{arith}
use lib.Seq.{length-take-le}
use borrow.Author.Rules.{rules}
use Rattle.std.specs.Prelude.{Some}
use Rattle.lines.specs.Record.{record_frame}
use Rattle.records.specs.Step.{book_step}
use Rattle.records.proofs.StepLaws.{load_is, open_is, join_is, voice_is, announce_is, lost-is, end_is, malformed_is}
use Rattle.records.proofs.StepLaws.{open_leaves, join_leaves, announce_leaves, lost_leaves, end_leaves, comes, comes_after, slot_comes}
use Rattle.records.proofs.step.step.Goals.{in-Open, in-Join, in-Announce, in-Lost, in-End}
use Rattle.records.proofs.step.step.Goals as goal

pub returns-in-Load-clause-effect : goal.returns-in-Load-clause-effect
returns-in-Load-clause-effect c =
    comes c.no_frame-in-Load.result _ _ c.no_frame-in-Load.ensures.0 c.no_frame-in-Load.ensures.1 c.no_frame-in-Load.ensures.2 (load_is _ _ _ _ (c.in-Some.is ∙ ap Some c.in-Load.is) ∙ ap (book_step c.args.call) (sym c.load_unnamed.ensures))

pub returns-in-Voice-clause-effect : goal.returns-in-Voice-clause-effect
returns-in-Voice-clause-effect c =
    slot_comes c.voice_slot.result _ _ _ (omega (arith, length-take-le record_frame c.args.octets.now (search rules))) c.voice_slot.ensures.slot c.voice_slot.ensures.shown (voice_is _ _ _ _ (c.in-Some.is ∙ ap Some c.in-Voice.is))

pub returns-in_default-clause-effect : goal.returns-in_default-clause-effect
returns-in_default-clause-effect c =
    comes c.no_frame.result _ _ c.no_frame.ensures.0 c.no_frame.ensures.1 c.no_frame.ensures.2 (malformed_is _ _ _ _ c.in_default.is)

pub returns-clause-effect : goal.returns-clause-effect
returns-clause-effect c =
    elim c.match-parsed-2.branch [
      | in-Open w ↦ comes_after _ _ _ _ c.after.ensures (w.done-is ∙ w.anew-done.ensures.as_it_was.0 ∙ w.«open».ensures) (open_leaves _ _ _ _ _ _ _) (open_is _ _ _ _ (c.in-Some.is ∙ ap Some w.in-Open.is))
      | in-Join w ↦ comes_after _ _ _ _ c.after.ensures (w.done-is ∙ w.anew-done-in-Join.ensures.as_it_was.0 ∙ w.join.ensures) (join_leaves _ _ _ _ _ _) (join_is _ _ _ _ (c.in-Some.is ∙ ap Some w.in-Join.is))
      | in-Announce w ↦ comes_after _ _ _ _ c.after.ensures (w.done-is ∙ w.anew-done-in-Announce.ensures.as_it_was.0 ∙ w.announce.ensures) (announce_leaves _ _) (announce_is _ _ _ _ (c.in-Some.is ∙ ap Some w.in-Announce.is))
      | in-Lost w ↦ comes_after _ _ _ _ c.after.ensures (w.done-is ∙ w.lost_slot-done.ensures.slot) (lost_leaves _) (lost-is _ _ _ _ (c.in-Some.is ∙ ap Some w.in-Lost.is))
      | in-End w ↦ comes_after _ _ _ _ c.after.ensures (w.done-is ∙ w.anew-done-in-End.ensures.as_it_was.0 ∙ w.ended.ensures) (end_leaves _) (end_is _ _ _ _ (c.in-Some.is ∙ ap Some w.in-End.is))
    ]
