-- `voice::frame::turn_frame` meets its contract: after w turns the words below w are turned.
use native.Mathlib.Omega.{arith}
use Rattle.voice.proofs.FrameLaws.{to_none, to_next, to_all}
use Rattle.voice.proofs.frame.turn_frame.Goals as goal

pub loop-w-init : goal.loop-w-init
loop-w-init c = to_none _ _ _ _

pub loop-w-preserved : goal.loop-w-preserved
loop-w-preserved c = to_next _ _ _ _ c.loop-w.invariant c.turn_word.ensures

pub returns : goal.returns
returns c = to_all _ _ _ _ c.loop-w.invariant (omega arith)
