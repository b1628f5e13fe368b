-- `keyentry::write_new` meets its contract.
use Rattle.keyentry.proofs.EntryLaws.{new_written}
use Rattle.keyentry.proofs.write_new.Goals as goal

pub returns : goal.returns
returns c = new_written _ _ c.clear.ensures c.copy_from_slice.ensures.after
