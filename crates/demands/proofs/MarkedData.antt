-- The marked examples of data: 3 and 10.
use mathlib.Core.Path.{◌≡◌, refl, sym, ap, ◌∙◌}
use mathlib.Core.List.{List, ◌∷◌}
use Prim.Native.Nat.{ℕ}
use Rattle.octets.specs.Tests.{all_below}
use Rattle.octets.specs.Lists.{replaced, all_zero, iterate}
use Rattle.octets.specs.Bits.{bit, octet, octets_from}
use Rattle.octets.specs.Turn.{within, turned, turned_in}
use Rattle.scramble.specs.Sequence.{key_number, stepped, P}
use Rattle.des.specs.Des.{des}
use Rattle.ciphers.specs.Keys.{scramble_key, key_allowed, key_right}
use Rattle.ciphers.specs.Keystream.{used_block, feedback, stream}
use Rattle.answers.specs.declared.Answer.TheVariants.{Done}
use Rattle.answers.proofs.OutcomeLaws.{NoneHolds}
use Rattle.data.specs.Kinds.{is_kind}
use Rattle.data.specs.Packet.{closed_tests, open_tests, is_closed, is_open, good_packet}
use Rattle.data.specs.Message.{counted, lost_refusals, of_message, message_turned, message_of}
use Rattle.data.proofs.MessageLaws.{message_done}
use Rattle.demands.specs.Marked.{dcalls, letters, letters_turned}

dcalls_go : NoneHolds (lost_refusals dcalls)
unfolding lost_refusals good_packet is_closed closed_tests is_open open_tests is_kind key_right key_allowed scramble_key all_zero all_below
dcalls_go = (refl, (refl, tt))

letters-turned : (h0 h1 : ℕ) → message_turned dcalls (h0 ∷ h1 ∷ letters) ≡ h0 ∷ h1 ∷ letters_turned
unfolding message_turned turned_in replaced turned within octets_from octet stream P iterate stepped key_number
letters-turned h0 h1 = refl

pub example_3 : (h0 h1 : ℕ) → message_of dcalls (h0 ∷ h1 ∷ letters) ≡ (Done, (counted dcalls, h0 ∷ h1 ∷ letters_turned))
example_3 h0 h1 =
    sym (message_done dcalls (h0 ∷ h1 ∷ letters) dcalls_go refl) ∙ ap (λ (m : List ℕ). (Done, (counted dcalls, m))) (letters-turned h0 h1)

pub example_10 : (key vector : List ℕ)
    → (of_message (stream 2 key vector) 2 1 0 ≡ bit (used_block (des key) vector 1) 48)
    × (of_message (stream 2 key vector) 3 1 0 ≡ bit (used_block (des key) vector 1) 48)
unfolding stream feedback
example_10 key vector = (refl, refl)
