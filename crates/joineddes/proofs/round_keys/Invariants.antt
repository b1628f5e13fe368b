-- `joineddes::round_keys`: after n turns the numbers hold the keys of the first n rounds.
use mathlib.Core.Path.{◌≡◌}
use Rattle.octets.specs.Bits.{bit}
use Rattle.octets.specs.Lists.{tab}
use Rattle.des.specs.Des.{round_key}
use Rattle.des.specs.Prepared.{shifts_to}
use Rattle.joineddes.proofs.ScheduleLaws.{FirstKeys}
use Rattle.joineddes.proofs.round_keys.Given as goal

abbrev pub invariant-loop-n : goal.invariant-loop-n
invariant-loop-n l = (l.shifts ≡ shifts_to l.n) × FirstKeys (round_key (tab (bit l.key) 64)) l.n l.keys
