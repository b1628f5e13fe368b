-- `voice::slot::slot_on` meets its contract.
use mathlib.Core.Path.{◌∙◌}
use Rattle.calls.proofs.CallLaws.{is-sender, is_receiver, or_receiver, inside, receiver_right}
use Rattle.voice.proofs.SlotLaws.{below_limit, sent_alike}
use Rattle.voice.proofs.slot.slot_on.Goals as goal

pub sender_on-requires : goal.sender_on-requires
sender_on-requires c = inside _ c.requires.0 c.requires.1

pub returns-then-call-eq-SENDING : goal.returns-then-call-eq-SENDING
returns-then-call-eq-SENDING c = c.sender_on.ensures ∙ rw (is-sender _ c.requires.0 c.if-call-eq-SENDING.true) (sent_alike _ _ _ _)

pub plus-counts-requires : goal.plus-counts-requires
plus-counts-requires c =
    (below_limit _ c.requires.0 c.requires.2 (or_receiver _ c.requires.0 c.requires.1 c.if-call-eq-SENDING.false), c.requires.3)

pub receiver_on-moved-requires : goal.receiver_on-moved-requires
receiver_on-moved-requires c =
    (inside _ c.requires.0 c.requires.1, receiver_right _ c.requires.0 (or_receiver _ c.requires.0 c.requires.1 c.if-call-eq-SENDING.false))

pub returns : goal.returns
returns c =
    c.moved_to.ensures ∙ c.receiver_on-moved.ensures ∙ rw (c.plus-counts.ensures, is_receiver _ c.requires.0 (or_receiver _ c.requires.0 c.requires.1 c.if-call-eq-SENDING.false))
