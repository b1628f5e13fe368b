-- `des::put_tables` meets its contract.
use Rattle.des.specs.Tables.{ip, ip⁻¹, table_e, table_p, pc_2, table_s}
use Rattle.des.proofs.TableLaws.{all-put}
use Rattle.des.proofs.put_tables.Goals as goal

pub returns : goal.returns
unfolding ip table_e table_p table_s ip⁻¹ pc_2
returns c =
    all-put c.args.all.now _ _ _ _ _ _ c.requires
    c.copy_from_slice.ensures.after
    c.copy_from_slice-2.ensures.after
    c.copy_from_slice-3.ensures.after
    c.copy_from_slice-4.ensures.after
    c.copy_from_slice-5.ensures.after
    c.copy_from_slice-6.ensures.after
