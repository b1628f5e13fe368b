-- Tables whose entries are places: each is one computed test.
use mathlib.Core.Path.{◌≡◌, refl}
use mathlib.Core.Bool.{Bool, true, ◌&&◌}
use mathlib.Core.List.{List}
use Prim.Native.Nat.{ℕ, ◌≤◌, ◌<◌}
use native.Mathlib.Omega.{arith}
use lib.Dec.{leb}
use lib.ListN.{length, get_or}
use borrow.Author.Tests.{leb-true}
use Rattle.octets.specs.Tests.{all_below}
use Rattle.octets.proofs.TestLaws.{and_left, and_right, all-at}
use Rattle.des.specs.Tables.{ip, ip⁻¹, table_e, table_p, pc_1}

-- each entry of the table is the place of one of n bits
abbrev pub Places : ℕ → List ℕ → Type 0
Places n t = (i : ℕ) → i < length t → (1 ≤ get_or t i 0) × (get_or t i 0 ≤ n)

abbrev placed : ℕ → List ℕ → ℕ → Bool
placed n t i = leb 1 (get_or t i 0) && leb (get_or t i 0) n

pub places : (n : ℕ) (t : List ℕ) → all_below (placed n t) (length t) ≡ true → Places n t
places n t e i h =
    let b = all-at (placed n t) (length t) i h e in
    (leb-true 1 (get_or t i 0) (and_left (leb 1 (get_or t i 0)) (leb (get_or t i 0) n) b), leb-true (get_or t i 0) n (and_right (leb 1 (get_or t i 0)) (leb (get_or t i 0) n) b))

-- what permuting by a table asks
pub permutable-long : {m : ℕ} {t table : List ℕ} → t ≡ table → m ≡ length table → m ≡ length t
permutable-long e out = rw e out

pub permutable : {m k n : ℕ} {t table : List ℕ} → t ≡ table → Places n table → m ≡ length table → n ≤ k → (m ≡ length t) × Places k t
permutable e p out bits = rw e (out, λ i h. ((p i h).0, omega (arith, (p i h).1)))

pub ip_places : Places 64 ip
unfolding all_below ip
ip_places = places 64 ip refl

pub inverse_places : Places 64 ip⁻¹
unfolding all_below ip⁻¹
inverse_places = places 64 ip⁻¹ refl

pub e_places : Places 32 table_e
unfolding all_below table_e
e_places = places 32 table_e refl

pub p_places : Places 32 table_p
unfolding all_below table_p
p_places = places 32 table_p refl

pub pc1_places : Places 64 pc_1
unfolding all_below pc_1
pc1_places = places 64 pc_1 refl
