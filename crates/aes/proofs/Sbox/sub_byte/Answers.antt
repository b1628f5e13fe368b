-- `aes::Sbox::sub_byte` meets its contract.
use Rattle.aes.proofs.Sbox.sub_byte.Goals as goal

pub returns : goal.returns
returns c = rw c.from.ensures (c.args.self.now.is_sbox.rule c.args.x c.ranges.x.fits)
