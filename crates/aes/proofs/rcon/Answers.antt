-- `aes::rcon` meets its contract.
use Rattle.aes.proofs.ScheduleLaws.{rcon_is}
use Rattle.aes.proofs.rcon.Goals as goal

pub returns : goal.returns
returns c = rcon_is c.args.n c.requires.0 c.requires.1
