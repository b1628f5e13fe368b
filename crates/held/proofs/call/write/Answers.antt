-- `held::call::write` meets its contract.
use borrow.Author.Rules.{rules}
use Rattle.held.proofs.CallLaws.{writes}
use Rattle.held.proofs.call.write.Goals as goal

pub returns : goal.returns
returns c =
    writes c.args.octets.now c.requires c.args.hearing (search rules) (search rules) (search rules) c.copy_from_slice.ensures.after c.copy_from_slice-2.ensures.after c.copy_from_slice-3.ensures.after c.write_counts.ensures
