-- How what stands, a call or a packet, comes to hold a key that was completely loaded when it was opened: one law for both.
use mathlib.Core.Path.{◌≡◌, refl, sym, ap, ap₂, ◌∙◌}
use mathlib.Core.Bool.{Bool, true, false, ◌&&◌}
use mathlib.Core.List.{List, [], ◌∷◌}
use Prim.Native.Nat.{ℕ}
use Rattle.octets.proofs.TestLaws.{and_false_r}
use Rattle.answers.specs.declared.Answer.{Answer}
use Rattle.answers.specs.declared.Answer.TheVariants.{Done}
use Rattle.answers.specs.Numbers.{is_done}
use Rattle.answers.specs.Outcomes.{Refusals, settled, outcome}
use Rattle.answers.proofs.OutcomeLaws.{NoneHolds, never_done, among_not_done, by_refusals}
use Rattle.keybook.specs.Operations.{ready_key_of}
use Rattle.keybook.specs.History as book
use Rattle.keybook.proofs.HistoryLaws.{ready_only_if_told}
use Rattle.demands.specs.Device.{Device, at_first, with_number, Operation, OfBook, OfScreen, OfCall, OfPacket, step, History, device_after, history, key_operations}
use Rattle.demands.specs.Demand1.{Loaded}
use Rattle.demands.proofs.DeviceLaws.{by_number}

-- ---- the key operations of a device, and its book

unfoldable pub keys_in : List Operation → List book.Operation
keys_in [] = []
keys_in (OfBook o ∷ os) = o ∷ keys_in os
keys_in (OfScreen o ∷ os) = keys_in os
keys_in (OfCall n o ∷ os) = keys_in os
keys_in (OfPacket n o ∷ os) = keys_in os

pub book_is : (os : List Operation) → (device_after step os).book ≡ book.book_after (keys_in os)
unfolding device_after step keys_in book.book_after
book_is [] = refl
book_is (OfBook o ∷ os) = ap (λ (b : List ℕ). (book.step o b).1) (book_is os)
book_is (OfScreen o ∷ os) = book_is os
book_is (OfCall n o ∷ os) = book_is os
book_is (OfPacket n o ∷ os) = book_is os

pub keys_are : (os : List Operation) → key_operations (history step os) ≡ book.history (keys_in os)
unfolding history step keys_in key_operations book.history
keys_are [] = refl
keys_are (OfBook o ∷ os) = ap₂ (λ (b : List ℕ) (h : book.History). (o, (book.step o b).0) ∷ h) (book_is os) (keys_are os)
keys_are (OfScreen o ∷ os) = keys_are os
keys_are (OfCall n o ∷ os) = keys_are os
keys_are (OfPacket n o ∷ os) = keys_are os

-- a key that the device's book hands out is one that its history tells of
ready_told : (os : List Operation) (c i : ℕ) (k : List ℕ) → ready_key_of (device_after step os).book c i ≡ (Done, k) → book.Told (key_operations (history step os)) c i k
ready_told os c i k q = rw (keys_are os) (ready_only_if_told (keys_in os) c i k (rw (book_is os) at q))

-- ---- one operation more

module _ {F : Type 0} (opens : F → ℕ → ℕ → Operation → Type 0) (renews : Operation → Bool) (h : History) (o : Operation) (a : Answer) {f : F} {c : ℕ} {k : List ℕ} where
  -- unless it is done and renews, what was loaded is
  pub still_loaded : (is_done a && renews o) ≡ false → Loaded opens renews h f c k → Loaded opens renews ((o, a) ∷ h) f c k
  still_loaded u l =
      record {
        id = l.id;
        opening = l.opening;
        since = (o, a) ∷ l.since;
        before = l.before;
        is-history = ap (λ (t : History). (o, a) ∷ t) l.is-history;
        opens_it = l.opens_it;
        still_stands = (u, l.still_stands);
        told = l.told;
      }

  just-loaded : (i : ℕ) → a ≡ Done → opens f c i o → book.Told (key_operations h) c i k → Loaded opens renews ((o, a) ∷ h) f c k
  just-loaded i d p t =
      record {
        id = i;
        opening = o;
        since = [];
        before = h;
        is-history = ap (λ (x : Answer). (o, x) ∷ h) d;
        opens_it = p;
        still_stands = tt;
        told = t;
      }

-- ---- the calls and the packets alike: what may hold a key

pub record Holder : Type 1 where
  pub State : Type 0
  -- that of number n
  pub of : Device → ℕ → State
  -- what its opening fixes besides
  pub Fixed : Type 0
  pub opens : ℕ → Fixed → ℕ → ℕ → Operation → Type 0
  pub renews : ℕ → Operation → Bool
  -- in use, and then at this rate and strictness or of this kind, under this cipher and key
  pub stands : State → Type 0
  pub fixed : State → Fixed
  pub cipher : State → ℕ
  pub key : State → List ℕ

module _ (H : Holder) where
  abbrev pub SameKey : H.State → H.State → Type 0
  SameKey x y = H.stands x × (H.fixed x ≡ H.fixed y) × (H.cipher x ≡ H.cipher y) × (H.key x ≡ H.key y)

  -- y stands only where x does, with the same key
  abbrev pub KeepsKey : H.State → H.State → Type 0
  KeepsKey x y = H.stands y → SameKey x y

  module _ (n : ℕ) where
    -- how y came to hold its key, by an operation o on x, which is of number n, that was answered a, over the book b
    pub data Way (b : List ℕ) (o : Operation) (x : H.State) (a : Answer) (y : H.State) : Type 0 where
      -- it is the key that x held
      stays : (is_done a && H.renews n o) ≡ false → SameKey x y → Way b o x a y
      -- it came out of the book
      begins : (f : H.Fixed) (c i : ℕ) (k : List ℕ) → a ≡ Done → H.opens n f c i o → ready_key_of b c i ≡ (Done, k) → f ≡ H.fixed y → c ≡ H.cipher y → k ≡ H.key y → Way b o x a y

    -- if y stands
    abbrev pub Left : List ℕ → Operation → H.State → Answer → H.State → Type 0
    Left b o x a y = H.stands y → Way b o x a y

    abbrev pub Held : History → H.State → Type 0
    Held h x = H.stands x → Loaded (H.opens n) (H.renews n) h (H.fixed x) (H.cipher x) (H.key x)

    loaded_on : (os : List Operation) (o : Operation) (x y : H.State) → Held (history step os) x
        → Left (device_after step os).book o x (step (device_after step os) o).0 y → Held (history step (o ∷ os)) y
    unfolding history
    loaded_on os o x y held left s = go (left s)
      where
        a : Answer
        a = (step (device_after step os) o).0

        go : Way (device_after step os).book o x a y → Loaded (H.opens n) (H.renews n) ((o, a) ∷ history step os) (H.fixed y) (H.cipher y) (H.key y)
        go (stays u (r, f, c, k)) = still_loaded (H.opens n) (H.renews n) (history step os) o a u (rw (f, c, k) at (held r))
        go (begins f c i k d p q g e l) = rw (g, e, l) at (just-loaded (H.opens n) (H.renews n) (history step os) o a i d p (ready_told os c i k q))

  -- so what stands holds a loaded key throughout, if nothing stands at first and every operation leaves a key in one of the ways
  pub always_loaded : ((n : ℕ) → H.stands (H.of at_first n) → ⊥)
      → ((d : Device) (o : Operation) (n : ℕ) → Left n d.book o (H.of d n) (step d o).0 (H.of (step d o).1.0 n))
      → (os : List Operation) (n : ℕ) → Held n (history step os) (H.of (device_after step os) n)
  unfolding device_after
  always_loaded none left [] n = λ s. absurd (none n s)
  always_loaded none left (o ∷ os) n =
      loaded_on n os o (H.of (device_after step os) n) (H.of (step (device_after step os) o).1.0 n) (always_loaded none left os n) (left (device_after step os) o n)

-- ---- what an operation leaves

module _ (H : Holder) (n : ℕ) (b : List ℕ) (o : Operation) where
  unrenewed : H.renews n o ≡ false → (a : Answer) → (is_done a && H.renews n o) ≡ false
  unrenewed u a = ap (λ (t : Bool). is_done a && t) u ∙ and_false_r (is_done a)

  -- where it does not renew and leaves x
  pub as_it_was : H.renews n o ≡ false → (x : H.State) (a : Answer) → Left H n b o x a x
  as_it_was u x a s = stays (unrenewed u a) (s, refl, refl, refl)

  -- where it may renew and x stays if it is refused
  pub renewing : (x after : H.State) (rs : Refusals) → never_done rs ≡ true → (NoneHolds rs → Left H n b o x Done after)
      → Left H n b o x (outcome x rs after).0 (outcome x rs after).1
  renewing x after rs never =
      by_refusals (λ r. Left H n b o x r.0 r.1) x rs (Done, after)
      (λ a m s. stays (ap (λ (t : Bool). t && H.renews n o) (among_not_done a rs never m)) (s, refl, refl, refl))

  -- where it does not renew and keeps the key of what it moves on
  pub keeping : {T : Type 0} (f : T → H.State) (before : T) (rs : Refusals) (last : Answer × T) → H.renews n o ≡ false
      → KeepsKey H (f before) (f last.1) → Left H n b o (f before) (settled before rs last).0 (f (settled before rs last).1)
  keeping {T} f before rs last u k =
      by_refusals (λ r. Left H n b o (f before) r.0 (f r.1)) before rs last (λ a m. as_it_was u (f before) a)
      (λ h s. stays (unrenewed u last.0) (k s))

-- where it is on number m and renews no other
pub of_number : (H : Holder) (b : List ℕ) (o : Operation) (m : ℕ) (x : H.State) (f : ℕ → H.State) (a : Answer) → Left H m b o (f m) a x
    → ((n : ℕ) → (m ≡ n → ⊥) → H.renews n o ≡ false) → (n : ℕ) → Left H n b o (f n) a (with_number m x f n)
of_number H b o m x f a left others n =
    by_number (Left H n b o (f n) a) m x f n (λ e. rw e left) (λ q. as_it_was H n b o (others n (λ e. q (sym e))) (f n) a)
