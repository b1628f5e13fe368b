-- `aes::PreparedKey::mixed_column` meets its contract.
use borrow.Author.Rules.{rules}
use Rattle.aes.proofs.FieldLaws.{sbox_lt}
use Rattle.aes.proofs.StateLaws.{sub_shifted}
use Rattle.aes.proofs.ColumnLaws.{column_sum}
use Rattle.aes.proofs.PreparedKey.mixed_column.Goals as goal

pub returns : goal.returns
returns c =
    column_sum _ _ _ _
    (sbox_lt c.shifted.result (search rules)) (sbox_lt c.shifted-2.result (search rules)) (sbox_lt c.shifted-3.result (search rules)) (sbox_lt c.shifted-4.result (search rules))
    _ _ _ _ _ _ _ _ _ (search rules)
    (sub_shifted _ _ _ (search rules) c.shifted.ensures) (sub_shifted _ _ _ (search rules) c.shifted-2.ensures) (sub_shifted _ _ _ (search rules) c.shifted-3.ensures) (sub_shifted _ _ _ (search rules) c.shifted-4.ensures)
    c.entry.ensures c.entry-2.ensures c.entry-3.ensures c.entry-4.ensures
    c.rotate_left.ensures c.rotate_left-2.ensures c.rotate_left-3.ensures
