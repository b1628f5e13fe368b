-- `calls::call::is_closed` meets its contract.
use Rattle.std.proofs.Common.{◌≡◌, true, rules}
use Rattle.std.specs.Cmp.{both_ways}
use Rattle.calls.specs.Call.{no_call, is_closed}
use Rattle.calls.proofs.GoodLaws.{closed_is, none_closed}
use Rattle.calls.proofs.call.is_closed.Goals as goal

pub returns : goal.returns
returns c =
    let same : c.eq.result ≡ true → c.args.call ≡ no_call = λ e. search (rules, c.eq.ensures) in
    let equal : c.args.call ≡ no_call → c.eq.result ≡ true = λ e. search (rules, c.eq.ensures) in
    let closed : c.args.call ≡ no_call → is_closed c.args.call ≡ true = λ e. rw e none_closed in
    both_ways _ _ (λ e. closed (same e)) (λ e. equal (closed_is c.args.call (search (rules, c.well_formed)) (search (rules, c.well_formed)) e))
