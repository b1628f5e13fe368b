-- Each operation's statement settles its outcome: any two outcomes that meet it are equal. And a refusal, any answer but 0 and 1, changes
-- nothing.
use mathlib.Core.Path.{◌≡◌, refl, sym, ap, ◌∙◌}
use mathlib.Core.List.{List, []}
use Prim.Native.Nat.{ℕ}
use native.Mathlib.Omega.{arith}
use borrow.Author.Tests.{ne_eqb}
use Rattle.answers.specs.Numbers.{number_of}
use Rattle.answers.proofs.OutcomeLaws.{Refusal}
use Rattle.sizes.specs.Frame.{half_rate}
use Rattle.calls.specs.declared.call.Call.{Call}
use Rattle.calls.specs.Call.{strict}
use Rattle.voice.specs.Slot.{voice_of}
use Rattle.calls.proofs.Settled.{end_keeps, announce_keeps, join_keeps, open_keeps}
use Rattle.voice.proofs.Settled.{lost_keeps, voice_keeps}
use Rattle.lines.specs.Record.{Record, Load, Open, Join, Voice, Announce, Lost, End, Malformed}
use Rattle.records.specs.declared.reader.Carry.{Carry}
use Rattle.keyentry.specs.Name.{no_name}
use Rattle.keybook.specs.Operations.{load_of}
use Rattle.records.specs.Step.{step_of, as_effect}
use Rattle.records.specs.Reader.{started, Left, take_of, close_of}
use Rattle.keybook.proofs.LoadLaws.{load_keeps}

-- ---- any two outcomes are equal

pub one_start : (c d : Carry) → c ≡ started → d ≡ started → c ≡ d
one_start c d p q = p ∙ sym q

module _ (book out : List ℕ) where
  -- what was used and written, what is carried on, the book and the lent octets
  pub one-take : (carry : Carry) (piece : List ℕ) (a b : ℕ × Left) → a ≡ take_of carry piece book out → b ≡ take_of carry piece book out → a ≡ b
  one-take carry piece a b p q = p ∙ sym q

  pub one_finish : (carry : Carry) (a b : Left) → a ≡ close_of carry book out → b ≡ close_of carry book out → a ≡ b
  one_finish carry a b p q = p ∙ sym q

-- ---- a refusal changes nothing

-- a record of any kind leaves book and call, good or bad, and shows no frame
pub step_keeps : (r : Record) (book : List ℕ) (call : Call) → Refusal (step_of r book call).answer → step_of r book call ≡ as_effect (step_of r book call).answer book call []
unfolding step_of
step_keeps (Load c i key) book call h =
    ap (λ (x : List ℕ). as_effect (load_of book c i no_name key).0 x call []) (load_keeps book c i no_name key (λ e. omega (arith, ap number_of e)))
step_keeps (Open c i w) book call h = rw (open_keeps call c i half_rate book strict w h)
step_keeps (Join c i) book call h = rw (join_keeps call c i half_rate book strict h)
step_keeps (Voice mask frame) book call h =
    rw (voice_keeps call mask frame h, ne_eqb (number_of (voice_of call mask frame).0) 0 (λ e. omega arith))
step_keeps (Announce w) book call h = rw (announce_keeps call w h)
step_keeps Lost book call h = rw (lost_keeps call h)
step_keeps End book call h = rw (end_keeps call h)
step_keeps Malformed book call h = refl
