-- `nxdn::screen::lay_call` meets its contract.
use mathlib.Core.Path.{ap, ◌∙◌}
use mathlib.Core.Bool.{Bool}
use Rattle.octets.specs.Tests.{pick}
use Rattle.nxdn.proofs.InterfaceLaws.{flag_is, call_laid}
use Rattle.nxdn.proofs.screen.lay_call.Goals as goal

pub returns : goal.returns
returns c =
    call_laid _
    (c.from.ensures
    ∙ flag_is _
    ∙ ap (λ (b : Bool). pick b 1 0) c.turns_now.ensures)
    c.copy_from_slice.ensures.after
