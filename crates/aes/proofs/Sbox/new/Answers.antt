-- `aes::sbox` meets its contract: the table is held to the rule by one test at all of its 256 entries, which antt computes.
use mathlib.Core.Path.{refl}
use Rattle.octets.specs.Tests.{all_below}
use Rattle.aes.specs.Field.{sbox_of, affine, inverse, squares, mul, mul_bits, digit, xtime, reduce, around}
use Rattle.aes.proofs.FieldLaws.{is_sbox}
use Rattle.aes.proofs.Sbox.new.Goals as goal

pub invariant_of-result : goal.invariant_of-result
unfolding all_below sbox_of affine inverse squares mul mul_bits digit xtime reduce around
invariant_of-result c = record { is_sbox = is_sbox _ refl refl }
