-- `joineddes::exchange` meets its contract.
use Rattle.joineddes.proofs.ExchangeLaws.{few_places, exchange_bits}
use Rattle.joineddes.proofs.exchange.Goals as goal

pub overflow_shr-differing : goal.overflow_shr-differing
overflow_shr-differing c = few_places _ _ c.requires

pub overflow_shl-result : goal.overflow_shl-result
overflow_shl-result c = few_places _ _ c.requires

pub returns : goal.returns
returns c = exchange_bits _ _ _ c.requires
