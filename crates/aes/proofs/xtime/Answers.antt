-- `aes::xtime` meets its contract.
use Rattle.aes.proofs.FieldLaws.{xtime-is}
use Rattle.aes.proofs.xtime.Goals as goal

pub returns : goal.returns
returns c = xtime-is c.args.b c.ranges.b.fits
