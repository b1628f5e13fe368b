-- `held::call::read` meets its contract.
use Rattle.held.proofs.CallLaws.{reads}
use Rattle.held.proofs.call.read.Goals as goal

pub returns : goal.returns
returns c = reads _ c.copy_from_slice.ensures.after c.copy_from_slice-2.ensures.after c.terms_in.ensures c.counts_in.ensures
