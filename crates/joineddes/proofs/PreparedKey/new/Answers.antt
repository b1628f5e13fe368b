-- `joineddes::PreparedKey::new` meets its contract: one test over all 512 entries, which antt computes.
use mathlib.Core.Path.{refl}
use Rattle.octets.specs.Lists.{tab}
use Rattle.des.specs.Tables.{table_p, table_s}
use Rattle.des.specs.Des.{permuted}
use Rattle.joineddes.specs.Joined.{as_number, selected, joined_entry, joined_tables}
use Rattle.joineddes.proofs.PreparedKey.new.Goals as goal

pub invariant_of-result : goal.invariant_of-result
unfolding tab table_p table_s permuted as_number selected joined_entry joined_tables
invariant_of-result c = record { joined = refl }
