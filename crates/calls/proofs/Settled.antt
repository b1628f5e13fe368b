-- Each operation's statement settles its outcome: any two outcomes that meet it are equal. And a refusal, any answer but 0 and 1, changes
-- nothing.
use mathlib.Core.Path.{◌≡◌, ap}
use mathlib.Core.List.{List}
use Prim.Native.Nat.{ℕ}
use native.Mathlib.Omega.{arith}
use Rattle.answers.specs.declared.Answer.{Answer}
use Rattle.answers.specs.declared.Answer.TheVariants.{Done}
use Rattle.answers.proofs.OutcomeLaws.{Refusal, keeps, one-outcome}
use Rattle.calls.specs.declared.counts.Counts.{Counts}
use Rattle.calls.specs.declared.call.Call.{Call}
use Rattle.openings.specs.Ladder.{session_vector, key_for}
use Rattle.calls.specs.Counts.{no_counts}
use Rattle.calls.specs.Call.{sending_end, receiving_end, by_default, standing, terms_of, written, end_refusals, end_of, after_end}
use Rattle.calls.specs.Opening.{join_refusals, begun_refusals, begun, begun_of, open_of, start_of, joined, join_of}
use Rattle.calls.specs.Vector.{with_vector, announce_refusals, announce_of, following, next_refusals, next_vector_of}

-- ---- any two outcomes are equal

module _ (a b : Answer) (x y : Call) (c : Call) where
  pub one_end : (n m : Counts) → (a, (x, n)) ≡ end_of c → (b, (y, m)) ≡ end_of c → (a ≡ b) × (x ≡ y) × (n ≡ m)
  one_end n m p q =
      let o = one-outcome a b (x, n) (y, m) p q in
      (o.0, ap (λ (r : Call × Counts). r.0) o.1, ap (λ (r : Call × Counts). r.1) o.1)

  pub one_announce : (w : List ℕ) → (a, x) ≡ announce_of c w → (b, y) ≡ announce_of c w → (a ≡ b) × (x ≡ y)
  one_announce w = one-outcome a b x y

  module _ (n i r : ℕ) (book : List ℕ) where
    pub one_join : (m : ℕ) → (a, x) ≡ join_of c n i r m book → (b, y) ≡ join_of c n i r m book → (a ≡ b) × (x ≡ y)
    one_join m = one-outcome a b x y

    pub one_open : (m : ℕ) (w : List ℕ) → (a, x) ≡ open_of c n i r m w book → (b, y) ≡ open_of c n i r m w book → (a ≡ b) × (x ≡ y)
    one_open m w = one-outcome a b x y

    pub one_start : (w : List ℕ) → (a, x) ≡ start_of c n i r w book → (b, y) ≡ start_of c n i r w book → (a ≡ b) × (x ≡ y)
    one_start w = one-outcome a b x y

pub one-next : (a b : Answer) (f g : List ℕ) (c : Call) (out : List ℕ) → (a, f) ≡ next_vector_of c out → (b, g) ≡ next_vector_of c out → (a ≡ b) × (f ≡ g)
one-next a b f g c out = one-outcome a b f g

-- ---- a refusal changes nothing

module _ (c : Call) where
  -- and end hands out zeros
  pub end_keeps : Refusal (end_of c).0 → (end_of c).1 ≡ (c, no_counts)
  unfolding end_of
  end_keeps = keeps (c, no_counts) (end_refusals (standing c)) (Done, after_end c) (omega arith)

  pub announce_keeps : (w : List ℕ) → Refusal (announce_of c w).0 → (announce_of c w).1 ≡ c
  unfolding announce_of
  announce_keeps w = keeps c (announce_refusals (standing c) w) (Done, written c.counts (with_vector w (standing c))) (omega arith)

  pub next_keeps : (out : List ℕ) → Refusal (next_vector_of c out).0 → (next_vector_of c out).1 ≡ out
  unfolding next_vector_of
  next_keeps out = keeps out (next_refusals (standing c) out) (Done, following (standing c)) (omega arith)

  module _ (n i r : ℕ) (book : List ℕ) where
    pub join_keeps : (m : ℕ) → Refusal (join_of c n i r m book).0 → (join_of c n i r m book).1 ≡ c
    unfolding join_of
    join_keeps m = keeps c (join_refusals (standing c) n i r m book) (Done, written no_counts (joined (terms_of n (key_for book n i) r m))) (omega arith)

    begun-keeps : (end m : ℕ) (w : List ℕ) → Refusal (begun_of end c n i r m w book).0 → (begun_of end c n i r m w book).1 ≡ c
    begun-keeps end m w =
        keeps c (begun_refusals end (standing c) n i r m w book) (Done, written no_counts (begun end (terms_of n (key_for book n i) r m) (session_vector n w))) (omega arith)

    pub open_keeps : (m : ℕ) (w : List ℕ) → Refusal (open_of c n i r m w book).0 → (open_of c n i r m w book).1 ≡ c
    unfolding open_of
    open_keeps = begun-keeps receiving_end

    pub start_keeps : (w : List ℕ) → Refusal (start_of c n i r w book).0 → (start_of c n i r w book).1 ≡ c
    unfolding start_of
    start_keeps = begun-keeps sending_end by_default
