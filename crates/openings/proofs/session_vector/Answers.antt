-- `openings::session_vector` meets its contract.
use borrow.Author.Tests.{eq-eqb, ne_eqb}
use Rattle.openings.proofs.session_vector.Goals as goal

pub returns-then-cipher-eq-TYPE : goal.returns-then-cipher-eq-TYPE
returns-then-cipher-eq-TYPE c = rw (eq-eqb _ _ c.if-cipher-eq-TYPE.true)

pub returns : goal.returns
returns c = rw (ne_eqb _ _ c.if-cipher-eq-TYPE.false) ((rw c.unwrap.ensures at c.as_array.ensures.cases).same)
