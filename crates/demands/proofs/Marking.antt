-- What a receiver is told, session by session, one way for both demands: which slots count as reached, from what was known as the session started and whether
-- its announcement arrived.
use mathlib.Core.Path.{◌≡◌, refl, sym, ap, ◌∙◌}
use mathlib.Core.List.{List, [], ◌∷◌, ◌++◌}
use mathlib.Core.Bool.{Bool, true, false, ◌&&◌, ◌||◌, not, or-true, or-false, or_comm, true≢false}
use Prim.Native.Nat.{ℕ}
use lib.Dec.{eqb}
use lib.ListN.{drop}
use Rattle.octets.specs.Tests.{pick}
use Rattle.sizes.specs.Ciphers.{scrambles}
use Rattle.calls.specs.Call.{by_default, strict}
use Rattle.demands.specs.Talk.{Slot, Session}
use Rattle.demands.specs.Notices.{Notice, announce, is_reached, slot_notice, slot_notices, start_notices, session_notices, first_notices}
use Rattle.demands.specs.Demand3Default.{since_known}

module _ (m c : ℕ) where
  -- known as the next session starts: by default what was, else scramble's alone
  abbrev pub known_next : Bool → Bool
  known_next known = pick (eqb m by_default) known (scrambles c)

  -- so a session counts as reached where it was announced, and by default also where the one before was known
  pub known_by : (before a : Bool) → (known_next (is_reached c before) || a) ≡ is_reached c (a || (eqb m by_default && before))
  known_by before a = go (eqb m by_default) (scrambles c)
    where
      go : (r u : Bool) → (pick r (u || before) u || a) ≡ (u || (a || (r && before)))
      go true true = refl
      go true false = or_comm before a
      go false u = ap (λ (z : Bool). u || z) (sym (or-false a))

  abbrev pub sessions_by : Bool → List Session → List Notice
  sessions_by known [] = []
  sessions_by known (x ∷ xs) =
      start_notices (not (scrambles c) && x.announced) x.vector
      ++ (slot_notices (known || x.announced) x.slots ++ sessions_by (known_next (known || x.announced)) xs)

  -- the first session that is heard, from slot p on
  abbrev pub first_by : Bool → ℕ → List Session → List Notice
  first_by known p [] = []
  first_by known p (x ∷ xs) = slot_notices known (drop p x.slots) ++ sessions_by (known_next known) xs

module _ (c : ℕ) where
  -- ---- demand 3's

  strict-sessions : (xs : List Session) → sessions_by strict c (scrambles c) xs ≡ session_notices c xs
  strict-sessions [] = refl
  strict-sessions (x ∷ xs) =
      ap (λ (ns : List Notice). start_notices (not (scrambles c) && x.announced) x.vector ++ (slot_notices (is_reached c x.announced) x.slots ++ ns)) (strict-sessions xs)

  pub strict-first : (told : Bool) (p : ℕ) (xs : List Session) → first_by strict c (is_reached c told) p xs ≡ first_notices c told p xs
  strict-first told p [] = refl
  strict-first told p (x ∷ xs) = ap (λ (ns : List Notice). slot_notices (is_reached c told) (drop p x.slots) ++ ns) (strict-sessions xs)

  -- ---- and in the default way

  pub since_slots : (known reached : Bool) (xs : List Slot) (ns : List Notice) → since_known known (slot_notices reached xs ++ ns) ≡ slot_notices known xs ++ since_known known ns
  since_slots known reached [] ns = refl
  since_slots known reached (x ∷ xs) ns = one x.arrived (since_slots known reached xs ns)
    where
      one : (a : Bool) → since_known known (slot_notices reached xs ++ ns) ≡ slot_notices known xs ++ since_known known ns
          → since_known known (slot_notice reached a x ∷ (slot_notices reached xs ++ ns)) ≡ slot_notice known a x ∷ (slot_notices known xs ++ since_known known ns)
      one true e = ap (λ (ns : List Notice). slot_notice known true x ∷ ns) e
      one false e = ap (λ (ns : List Notice). slot_notice known false x ∷ ns) e

  -- where scramble's vector counts as known
  abbrev AsDefault : List Session → Type 0
  AsDefault xs = (known : Bool) → (scrambles c ≡ true → known ≡ true) → since_known known (session_notices c xs) ≡ sessions_by by_default c known xs

  default-session : (x : Session) (xs : List Session) → AsDefault xs → AsDefault (x ∷ xs)
  default-session x xs rest known s = go (scrambles c) refl x.announced known s
    where
      slots : (now : Bool) → (scrambles c ≡ true → now ≡ true) → (reached : Bool)
          → since_known now (slot_notices reached x.slots ++ session_notices c xs) ≡ slot_notices now x.slots ++ sessions_by by_default c now xs
      slots now s reached = since_slots now reached x.slots (session_notices c xs) ∙ ap (λ (ns : List Notice). slot_notices now x.slots ++ ns) (rest now s)

      go : (u : Bool) → scrambles c ≡ u → (a known : Bool) → (scrambles c ≡ true → known ≡ true)
          → since_known known (start_notices (not u && a) x.vector ++ (slot_notices (u || a) x.slots ++ session_notices c xs))
          ≡ start_notices (not u && a) x.vector ++ (slot_notices (known || a) x.slots ++ sessions_by by_default c (known || a) xs)
      go true e a true s = slots true s true
      go true e a false s = absurd (true≢false (sym (s e)))
      go false e true known s =
          ap (λ (ns : List Notice). announce x.vector ∷ ns)
          (slots true (λ z. refl) true ∙ ap (λ (now : Bool). slot_notices now x.slots ++ sessions_by by_default c now xs) (sym (or-true known)))
      go false e false true s = slots true s false
      go false e false false s = slots false s false

  default-sessions : (xs : List Session) → AsDefault xs
  default-sessions [] = λ known s. refl
  default-sessions (x ∷ xs) = default-session x xs (default-sessions xs)

  pub default_first : (known told : Bool) → (scrambles c ≡ true → known ≡ true) → (p : ℕ) (xs : List Session)
      → since_known known (first_notices c told p xs) ≡ first_by by_default c known p xs
  default_first known told s p [] = refl
  default_first known told s p (x ∷ xs) =
      since_slots known (is_reached c told) (drop p x.slots) (session_notices c xs)
      ∙ ap (λ (ns : List Notice). slot_notices known (drop p x.slots) ++ ns) (default-sessions xs known s)
