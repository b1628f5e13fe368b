-- `calls::counts::words_in` meets its contract.
use Rattle.calls.proofs.CountLaws.{mask_words}
use Rattle.calls.proofs.counts.words_in.Goals as goal

pub returns : goal.returns
returns c = mask_words _
