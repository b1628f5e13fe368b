-- `data::opening::is_end_and_kind` meets its contract.
use borrow.Author.Tests.{eq-eqb, ne_eqb}
use Rattle.data.specs.Opening.{is_end}
use borrow.Author.Rules.{rules}
use Rattle.data.proofs.opening.is_end_and_kind.Goals as goal
use Rattle.data.proofs.opening.is_end_and_kind.Goals.{else-end-ne-TO_RECEIVE-via-then-end-ne-TO_RECEIVE+else-end-ne-TO_SEND, else-end-ne-TO_RECEIVE-via-else-end-ne-TO_RECEIVE}

pub returns-then-end-ne-TO_SEND : goal.returns-then-end-ne-TO_SEND
unfolding is_end
returns-then-end-ne-TO_SEND c = rw (ne_eqb _ _ c.if-end-ne-TO_RECEIVE.true, ne_eqb _ _ c.if-end-ne-TO_SEND.true)

pub is_kind-requires : goal.is_kind-requires
unfolding is_end
is_kind-requires c = search rules

pub returns : goal.returns
unfolding is_end
returns c =
    elim c.else-end-ne-TO_RECEIVE.branch [
      | else-end-ne-TO_RECEIVE-via-then-end-ne-TO_RECEIVE+else-end-ne-TO_SEND w ↦ rw (ne_eqb _ _ w.if-end-ne-TO_RECEIVE.true, eq-eqb _ _ w.if-end-ne-TO_SEND.false) c.is_kind.ensures
      | else-end-ne-TO_RECEIVE-via-else-end-ne-TO_RECEIVE w ↦ rw (eq-eqb _ _ w.if-end-ne-TO_RECEIVE.false) c.is_kind.ensures
    ]
