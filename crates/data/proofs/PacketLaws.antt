-- The rules of a packet, as the code tests them, and its end.
use mathlib.Core.Path.{◌≡◌, refl, sym}
use mathlib.Core.Bool.{Bool, true, false, ◌||◌, not}
use Prim.Native.Nat.{ℕ}
use native.Mathlib.Omega.{arith}
use lib.Dec.{eqb}
use lib.ListN.{length}
use borrow.Author.Tests.{eqb-true, eqb-false}
use Rattle.octets.specs.Lists.{all_zero}
use Rattle.octets.specs.Tests.{all_below}
use Rattle.octets.proofs.ListLaws.{zeros_are}
use Rattle.octets.proofs.TestLaws.{every-at, or_left, not_so}
use Rattle.answers.specs.declared.Answer.TheVariants.{Done}
use Rattle.answers.proofs.OutcomeLaws.{NoneHolds, none_settles, Refuses, answer_at, refused_at}
use Rattle.sizes.specs.Ciphers.{key_room, vector_octets, scrambles}
use Rattle.ciphers.specs.Keys.{key_right}
use Rattle.data.specs.declared.packet.Packet.{Packet}
use Rattle.data.specs.Kinds.{is_kind}
use Rattle.data.specs.Packet.{closed_tests, open_tests, is_closed, is_open, good_packet, no_packet, end_refusals, end_of}
use Rattle.data.proofs.KindLaws.{kind_range}

pub none_closed : is_closed no_packet ≡ true
unfolding is_closed closed_tests all_zero all_below
none_closed = refl

pub closed_is : (p : Packet) → length p.key ≡ key_room → length p.vector ≡ vector_octets → is_closed p ≡ true → p ≡ no_packet
unfolding is_closed closed_tests
closed_is p lk lv e =
    rw (
      eqb-true p.kind 0 (every-at (closed_tests p) 0 e),
      eqb-true p.cipher 0 (every-at (closed_tests p) 1 e),
      eqb-true p.count 0 (every-at (closed_tests p) 2 e),
      zeros_are p.key key_room lk (every-at (closed_tests p) 3 e),
      zeros_are p.vector vector_octets lv (every-at (closed_tests p) 4 e),
    ) refl

module _ (p : Packet) where
  closed-kind : is_closed p ≡ true → p.kind ≡ 0
  unfolding is_closed closed_tests
  closed-kind e = eqb-true p.kind 0 (every-at (closed_tests p) 0 e)

  pub not_closed : (p.kind ≡ 0 → ⊥) → is_closed p ≡ false
  not_closed n = not_so (is_closed p) (λ e. n (closed-kind e))

  -- ---- an open packet

  module _ (o : is_open p ≡ true) where
    pub open_kind : is_kind p.kind ≡ true
    unfolding is_open open_tests
    open_kind = every-at (open_tests p) 0 o

    pub open_key : key_right p.cipher p.key ≡ true
    unfolding is_open open_tests
    open_key = every-at (open_tests p) 1 o

    pub open_vector : (not (scrambles p.cipher) || all_zero p.vector) ≡ true
    unfolding is_open open_tests
    open_vector = every-at (open_tests p) 3 o

    pub open_some : p.kind ≡ 0 → ⊥
    open_some z = let h = kind_range p.kind open_kind in omega arith

    pub open_is-good : good_packet p ≡ true
    unfolding good_packet
    open_is-good = rw (not_closed open_some) o

  -- ---- a good packet is closed or open, by its kind

  module _ (good : good_packet p ≡ true) where
    pub closed_by : p.kind ≡ 0 → is_closed p ≡ true
    unfolding good_packet
    closed_by z = or_left (is_closed p) (is_open p) good (λ e. open_some e z)

    pub kind_closed : eqb p.kind 0 ≡ is_closed p
    kind_closed = go (eqb p.kind 0) refl
      where
        go : (t : Bool) → eqb p.kind 0 ≡ t → t ≡ is_closed p
        go true e = sym (closed_by (eqb-true p.kind 0 e))
        go false e = sym (not_closed (eqb-false p.kind 0 e))

  -- ---- its end

  pub end_refused : (n : ℕ) → Refuses (end_refusals p) n → (answer_at (end_refusals p) n, p) ≡ end_of p
  unfolding end_of
  end_refused = refused_at p (end_refusals p) (Done, no_packet)

  pub end_done : NoneHolds (end_refusals p) → (Done, no_packet) ≡ end_of p
  unfolding end_of
  end_done n = sym (none_settles (end_refusals p) p (Done, no_packet) n)
