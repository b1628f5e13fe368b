-- `lines::record::load_record` meets its contract.
use mathlib.Core.Path.{refl}
use native.Mathlib.Omega.{arith}
use Rattle.text.proofs.FieldLaws.{last-lent}
use Rattle.lines.proofs.RecordLaws.{load_no_pair, load_no_key, load_none, load_long, load_is}
use Rattle.lines.proofs.record.load_record.Goals as goal
use Rattle.lines.proofs.record.load_record.Goals.{then-count-eq0-via-then-count-eq0, then-count-eq0-via-else-count-eq0+then-count-gt-KEY_ROOM}

pub returns-in_err-cipher-clause-fields : goal.returns-in_err-cipher-clause-fields
returns-in_err-cipher-clause-fields c = rw c.from_residual.ensures (load_no_pair _ _ c.in_err-cipher.ensures)

pub returns-in_err-count-clause-fields : goal.returns-in_err-count-clause-fields
returns-in_err-count-clause-fields c = rw c.from_residual-in_err-count.ensures (load_no_key _ _ _ _ c.in_ok-cipher.ensures c.in_err-count.was)

pub returns-then-count-eq0-clause-fields : goal.returns-then-count-eq0-clause-fields
returns-then-count-eq0-clause-fields c =
    elim c.then-count-eq0.branch [
      | then-count-eq0-via-then-count-eq0 w ↦ load_none _ _ _ _ c.in_ok-cipher.ensures _ c.in_ok-count.was _ refl w.if-count-eq0.true
      | then-count-eq0-via-else-count-eq0+then-count-gt-KEY_ROOM w ↦ load_long _ _ _ _ c.in_ok-cipher.ensures _ c.in_ok-count.was _ refl w.if-count-gt-KEY_ROOM.true
    ]

pub returns-clause-fields : goal.returns-clause-fields
returns-clause-fields c =
    rw c.then_some.ensures
    (load_is _ _ _ _ c.in_ok-cipher.ensures _ c.in_ok-count.was _ refl (omega arith) (omega arith) _ _ (last-lent c.args.octets.now _ (omega arith) _ _ _ (c.last_hex-read.ensures.value, c.last_hex-read.ensures.octets_after)) _)
