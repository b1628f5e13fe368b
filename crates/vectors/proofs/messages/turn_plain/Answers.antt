-- `vectors::messages::turn_plain` is safe and ends: a message's place fits.
use Prim.Native.Nat.{ℕ, ◌*◌, ◌≤◌}
use native.Mathlib.Nat.{mul-le-mul}
use native.Mathlib.Omega.{arith}
use borrow.Author.Rules.{rules}
use Rattle.vectors.proofs.messages.turn_plain.Goals as goal

place-fits : (part count : ℕ) → part ≤ 20 → count ≤ 65535 → part * count ≤ 1310700
place-fits part count p n = mul-le-mul p n

pub overflow_mul-from : goal.overflow_mul-from
overflow_mul-from c = omega (arith, place-fits c.protected_octets-part.result c.from.result (omega arith) (omega (arith, c.from.ensures)))

pub keystream-requires : goal.keystream-requires
keystream-requires c =
    (search rules, search rules, omega (arith, place-fits c.protected_octets-part.result c.from.result (omega arith) (omega (arith, c.from.ensures))))
