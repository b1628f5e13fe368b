-- `voice::slot::receiver_on` meets its contract.
use mathlib.Core.Path.{sym, ◌∙◌}
use borrow.Author.Tests.{lt-ltb}
use Rattle.voice.specs.Slot.{slot_on}
use Rattle.calls.proofs.CallLaws.{receiver_is}
use borrow.Author.Rules.{rules}
use Rattle.voice.proofs.slot.receiver_on.Goals as goal

pub returns-then-from-session_slots : goal.returns-then-from-session_slots
unfolding slot_on
returns-then-from-session_slots c =
    receiver_is _ _ _ _ _ (search rules) c.requires.1 ∙ rw (sym c.session_slots.ensures, sym c.from.ensures, lt-ltb _ _ c.if-from-session_slots.true)
