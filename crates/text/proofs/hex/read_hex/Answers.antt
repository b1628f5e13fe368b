-- `text::hex::read_hex` meets its contract.
use mathlib.Core.Path.{◌≡◌, refl, sym, ap, ◌∙◌}
use mathlib.Core.List.{List, ◌++◌}
use Prim.Native.Nat.{ℕ, ◌*◌, ◌≤◌, ◌<◌}
use native.Mathlib.Omega.{arith}
use borrow.Author.Rules.{rules}
use lib.ListN.{length, get_or, take, drop, replicate, length-append}
use lib.Seq.{length-take-le, take_at}
use Rattle.octets.specs.Lists.{tab}
use Rattle.octets.proofs.ListLaws.{length-tab}
use Rattle.text.specs.Hex.{hex_value, most_octets}
use Rattle.text.proofs.HexLaws.{is-hex, not-hex, values_lt, read_done, read_not}
use Rattle.text.proofs.hex.read_hex.Goals as goal

-- the values, lent as the first of the local octets
-- the values, lent as the first of the local octets
abbrev lent : List ℕ → List ℕ → List ℕ
lent field vs = vs ++ drop (length field) (replicate (2 * most_octets) 0)

-- and lent again

module _ (field vs : List ℕ) (e : vs ≡ tab (λ i. hex_value (get_or field i 0)) (length field)) where
  long : length vs ≡ length field
  long = ap length e ∙ length-tab (λ i. hex_value (get_or field i 0)) (length field)

  fits : length field ≤ length (lent field vs)
  fits = omega (arith, length-append vs (drop (length field) (replicate (2 * most_octets) 0)), long)

  again : take (length field) (lent field vs) ≡ vs
  again = take_at vs (drop (length field) (replicate (2 * most_octets) 0)) (length field) long

  again-long : (n : ℕ) → length field ≡ n → length (take (length field) (lent field vs)) ≡ n
  again-long n l = ap length again ∙ long ∙ l

  small : (k : ℕ) → get_or (take (length field) (lent field vs)) k 0 < 16
  small k = rw (again, e) (values_lt field k)

pub returns-then-n-ne0 : goal.returns-then-n-ne0
returns-then-n-ne0 c = record { value = not-hex _ _ (λ e. omega arith); out_after = read_not _ _ (λ e. omega arith) }

pub returns-then-n-out : goal.returns-then-n-out
returns-then-n-out c = record { value = not-hex _ _ (λ e. omega arith); out_after = read_not _ _ (λ e. omega arith) }

pub slice_bounds-read_digits-end : goal.slice_bounds-read_digits-end
slice_bounds-read_digits-end c = sym (length-take-le _ _ (search rules))

pub read_digits-all-requires : goal.read_digits-all-requires
read_digits-all-requires c = length-take-le _ _ (search rules)

pub slice_bounds-values-end-2 : goal.slice_bounds-values-end-2
slice_bounds-values-end-2 c = fits c.args.field.now _ c.read_digits-all.ensures.values_after

pub slice_bounds-join_digits-end : goal.slice_bounds-join_digits-end
slice_bounds-join_digits-end c = sym (again-long c.args.field.now _ c.read_digits-all.ensures.values_after _ refl)

pub join_digits-requires : goal.join_digits-requires
join_digits-requires c =
    (again-long c.args.field.now _ c.read_digits-all.ensures.values_after _ (omega arith), small c.args.field.now _ c.read_digits-all.ensures.values_after)

pub returns : goal.returns
returns c =
    record { value = is-hex c.args.field.now _ _ (omega arith) c.read_digits-all.ensures.value; out_after = read_done c.args.field.now _ _ _ (omega arith) (again c.args.field.now _ c.read_digits-all.ensures.values_after ∙ c.read_digits-all.ensures.values_after) c.join_digits.ensures }
