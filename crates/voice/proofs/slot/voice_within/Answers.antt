-- `voice::slot::voice_within` meets its contract.
use mathlib.Core.Path.{ap, ◌∙◌}
use mathlib.Core.Bool.{true}
use Rattle.calls.specs.Counts.{total}
use Rattle.calls.proofs.CountLaws.{arrived-fits}
use Rattle.calls.proofs.CallLaws.{is_receiver, receiver_right, knows-good, knows_inside}
use Rattle.voice.proofs.SlotLaws.{below_limit}
use Rattle.voice.proofs.SessionOnce.{done_long, done_below, within_done}
use Rattle.voice.proofs.slot.voice_within.Goals as goal

pub turn_by-requires : goal.turn_by-requires
turn_by-requires c =
    (knows_inside _ c.requires.known, done_long _ _ _ (c.is_done.ensures (c.if-not-is_done.false)).1, c.requires.long)

pub plus-counts-requires : goal.plus-counts-requires
plus-counts-requires c =
    (below_limit _ (knows-good _ c.requires.known) (done_below _ _ _ (c.is_done.ensures (c.if-not-is_done.false)).1) (c.is_done.ensures (c.if-not-is_done.false)).0, ap total c.arrived_words.ensures ∙ (arrived-fits c.args.mask true).four)

pub receiver_on-requires : goal.receiver_on-requires
receiver_on-requires c =
    (knows_inside _ c.requires.known, receiver_right _ (knows-good _ c.requires.known) (c.is_done.ensures (c.if-not-is_done.false)).0)

pub returns : goal.returns
returns c =
    let done = c.is_done.ensures (c.if-not-is_done.false) in
    let moved = c.receiver_on.ensures ∙ rw (c.plus-counts.ensures, c.arrived_words.ensures, is_receiver _ (knows-good _ c.requires.known) done.0) in
    record { frame_after = within_done _ _ c.requires _ _ done.1 moved c.turn_by.ensures; frame_unchanged = tt }
