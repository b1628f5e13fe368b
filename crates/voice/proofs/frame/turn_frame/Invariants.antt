-- `voice::frame::turn_frame`: after w turns the words below w are turned.
use Prim.Native.Nat.{◌+◌}
use Rattle.octets.specs.Bits.{bit}
use Rattle.voice.proofs.FrameLaws.{TurnedTo}
use Rattle.voice.proofs.frame.turn_frame.Given as goal

abbrev pub invariant-loop-w : goal.invariant-loop-w
invariant-loop-w l = TurnedTo l.width (λ n. bit l.stream (l.from + n)) l.mask l.initial.frame l.w l.frame
