-- `voice::slot::is_done` meets its contract.
use Rattle.calls.proofs.CallLaws.{knows-good}
use Rattle.voice.proofs.slot.is_done.Goals as goal

pub is_full-requires : goal.is_full-requires
is_full-requires c = knows-good _ c.requires
