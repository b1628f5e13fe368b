-- `voice::frame::turn_word` meets its contract.
use mathlib.Core.Path.{ap}
use Prim.Native.Nat.{ℕ, ◌*◌}
use native.Mathlib.Nat.{add_assoc}
use native.Mathlib.Omega.{arith}
use Rattle.voice.proofs.FrameLaws.{word_out, word_in_lem}
use Rattle.voice.proofs.frame.turn_word.Goals as goal

pub returns-then-mask-w-ne1 : goal.returns-then-mask-w-ne1
returns-then-mask-w-ne1 c = word_out _ _ _ _ _ (λ j. omega (arith, c.type_inv.frame j)) c.if-mask-w-ne1.true

pub returns : goal.returns
returns c =
    word_in_lem _ _ _ _ _ _ _ c.word_octets-octets.ensures (ap (λ (n : ℕ). n * c.args.w) c.word_octets-octets.ensures) _ _ c.if-mask-w-ne1.false (λ n. rw add_assoc) c.turn.ensures
