-- The register (001, 5.3.2.2) as the code keeps it: a number whose bit i is stage i. Only the contracts of this crate's own functions cite it.
use Rattle.std.specs.Prelude.{◌≡◌, ℕ, ◌/◌, ◌%◌, ◌^◌, ◌<◌}

-- the stages of a number: its bits, the least significant first
abbrev pub stages : ℕ → ℕ → ℕ
stages r i = r / 2 ^ i % 2

-- a number holds a register: the 64 stages are the same
unfoldable pub Holds : ℕ → (ℕ → ℕ) → Type 0
Holds r b = (i : ℕ) → i < 64 → stages r i ≡ b i
