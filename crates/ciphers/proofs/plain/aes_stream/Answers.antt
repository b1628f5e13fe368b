-- `ciphers::plain::aes_stream` meets its contract.
use mathlib.Core.Path.{sym, ap}
use Rattle.aes.specs.Cipher.{aes}
use Rattle.ciphers.proofs.plain.aes_stream.Goals as goal

pub returns : goal.returns
returns c = rw c.aes_vector.ensures at c.feed_back.ensures _ (ap aes (sym c.new-prepared.ensures))
