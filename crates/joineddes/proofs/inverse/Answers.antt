-- `joineddes::inverse` meets its contract: what the masks have to keep to is computed, and the five exchanges are ip⁻¹.
use mathlib.Core.Path.{refl}
use Rattle.octets.specs.Tests.{all_below}
use Rattle.joineddes.specs.Joined.{exchanges}
use Rattle.joineddes.proofs.ExchangeLaws.{inverse-exchanges}
use Rattle.joineddes.proofs.inverse.Goals as goal

pub exchange-near-requires : goal.exchange-near-requires
unfolding exchanges all_below
exchange-near-requires c = refl

pub exchange-columns-requires : goal.exchange-columns-requires
unfolding exchanges all_below
exchange-columns-requires c = refl

pub exchange-fours-requires : goal.exchange-fours-requires
unfolding exchanges all_below
exchange-fours-requires c = refl

pub exchange-pairs-requires : goal.exchange-pairs-requires
unfolding exchanges all_below
exchange-pairs-requires c = refl

pub exchange-requires : goal.exchange-requires
unfolding exchanges all_below
exchange-requires c = refl

pub returns : goal.returns
unfolding exchanges all_below
returns c = cc (inverse-exchanges _)
