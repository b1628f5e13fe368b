-- `screen::show` meets its contract.
use Rattle.keybook.specs.Screen.{shown}
use Rattle.keybook.proofs.screen.show.Goals as goal

pub returns : goal.returns
unfolding shown
returns c = rw c.name_in.ensures
