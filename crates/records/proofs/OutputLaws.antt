-- An output line, written part after part over lent octets.
use mathlib.Core.Path.{◌≡◌, refl, sym, ap, ◌∙◌}
use mathlib.Core.List.{List, [], ◌∷◌, ◌++◌, append_assoc, append-nil}
use Prim.Native.Nat.{ℕ, ◌+◌, ◌-◌, ◌*◌, ◌≤◌, ◌<◌}
use native.Mathlib.Nat.{zero-add}
use native.Mathlib.Omega.{arith}
use lib.ListN.{length, take, drop, length-append, length-drop}
use lib.Seq.{take_at, drop_at, take_all, drop-drop, drop-length, length-take-le}
use borrow.Rule.Slice.PartMut.{mid_of, put_mid, Post-is}
use Rattle.octets.specs.Lists.{replaced}
use Rattle.octets.proofs.Parts.{put-replaced}
use Rattle.answers.specs.declared.Answer.{Answer}
use Rattle.answers.specs.Numbers.{number_of}
use Rattle.calls.specs.declared.call.Call.{Call}
use borrow.Author.Tests.{eq-eqb, ne_eqb}
use Rattle.calls.specs.Call.{closed_end}
use Rattle.text.specs.Parted.{tab_octet, line_end}
use Rattle.text.specs.Decimal.{decimal}
use Rattle.text.specs.Hex.{hex_text}
use Rattle.text.proofs.DecimalLaws.{decimal_size}
use Rattle.text.proofs.HexLaws.{length-hex_text}
use Rattle.lines.specs.Record.{record_frame}
use Rattle.records.specs.Answered.{dash, place, shown, answer_line, number_room, answer_room}
use Rattle.records.specs.Lent.{Laid}

module _ {most at : ℕ} {d text after : List ℕ} {next : ℕ} (l : Laid most d at text after next) (fits : at + length text ≤ length d) where
  front : length (take at d ++ text) ≡ next
  front = length-append (take at d) text ∙ omega (arith, length-take-le at d (omega arith), l.ends)

  parts : after ≡ (take at d ++ text) ++ drop next d
  unfolding replaced
  parts = l.octets ∙ rw (l.ends, append_assoc (take at d) text (drop (at + length text) d))

  -- what is written after what was written is written on from where that began
  pub laid_more : {most' : ℕ} {text' after' : List ℕ} {next' : ℕ} → Laid most' after next text' after' next' → Laid (most + most') d at (text ++ text') after' next'
  unfolding replaced
  laid_more {most'} {text'} {after'} {next'} m =
      record {
        within = rw (length-append text text') (omega (arith, l.within, m.within));
        ends = omega (arith, l.ends, m.ends, length-append text text');
        octets =
            let e : next + length text' ≡ at + length (text ++ text') = omega (arith, l.ends, length-append text text') in
            m.octets ∙ rw (parts, take_at (take at d ++ text) (drop next d) next front)
            (ap (λ (r : List ℕ). (take at d ++ text) ++ (text' ++ r)) (past ∙ ap (λ (k : ℕ). drop k d) e)
            ∙ append_assoc (take at d) text (text' ++ drop (at + length (text ++ text')) d)
            ∙ rw (append_assoc text text' (drop (at + length (text ++ text')) d)));
      }
    where
      past : drop (next + length text') ((take at d ++ text) ++ drop next d) ≡ drop (next + length text') d
      past = sym (drop-drop (length text') next ((take at d ++ text) ++ drop next d)) ∙ rw (drop_at (take at d ++ text) (drop next d) next front) (drop-drop (length text') next d)

-- ---- the parts

-- the same text, by another name and with other room
pub laid_as : {most most' at : ℕ} {d text text' after : List ℕ} {next : ℕ} → Laid most d at text after next → text ≡ text' → most ≤ most' → Laid most' d at text' after next
laid_as l e w =
    record { within = omega (arith, l.within, ap length e); ends = l.ends ∙ rw e; octets = l.octets ∙ rw e }

module _ (d : List ℕ) (at : ℕ) (p : List ℕ) where
  pub laid_text : (text : List ℕ) → p ≡ text → Laid (length text) d at text (put_mid at (at + length text - at) d p) (at + length text)
  laid_text text e = record { within = omega arith; ends = refl; octets = put-replaced d p at (length text) ∙ rw e }

  pub laid-number : (n r : ℕ) → n < 1000 → at ≤ length d → r ≡ length (decimal n)
      → p ≡ replaced (mid_of at (length d - at) d) 0 (length (decimal n)) (decimal n) → Laid number_room d at (decimal n) (put_mid at (length d - at) d p) (at + r)
  unfolding replaced
  laid-number n r m h q e =
      let rest : take (length d - at) (drop at d) ≡ drop at d = take_all (length d - at) (drop at d) (omega (arith, length-drop at d)) in
      let none : drop (length d - at) (drop at d) ≡ [] = Post-is at (length d) d h ∙ drop-length d in
      record {
        within = decimal_size 2 n m;
        ends = ap (λ (k : ℕ). at + k) q;
        octets = rw (e, none, rest, zero-add (length (decimal n)), drop-drop (length (decimal n)) at d, append-nil);
      }

  pub laid-octets : (octets : List ℕ) → length octets ≤ record_frame → p ≡ hex_text octets
      → Laid (2 * record_frame) d at (hex_text octets) (put_mid at (at + 2 * length octets - at) d p) (at + 2 * length octets)
  laid-octets octets h e =
      let l = length-hex_text octets in
      record { within = rw l (omega arith); ends = omega (arith, l); octets = put-replaced d p at (2 * length octets) ∙ rw (e, l) }

pub place_closed : (c : Call) → c.end ≡ closed_end → dash ≡ place c
place_closed c e = rw (eq-eqb c.end closed_end e)

pub place_open : (c : Call) → (c.end ≡ closed_end → ⊥) → decimal c.position ≡ place c
place_open c n = rw (ne_eqb c.end closed_end n)

pub shown-none : (f : List ℕ) → length f ≡ 0 → dash ≡ shown f
shown-none f e = rw (eq-eqb (length f) 0 e)

pub shown_frame : (f : List ℕ) → (length f ≡ 0 → ⊥) → hex_text f ≡ shown f
shown_frame f n = rw (ne_eqb (length f) 0 n)

-- ---- the line

line_is : (n p f : List ℕ) (t e : ℕ) → ((((n ++ (t ∷ [])) ++ p) ++ (t ∷ [])) ++ f) ++ (e ∷ []) ≡ n ++ (t ∷ (p ++ (t ∷ (f ++ (e ∷ [])))))
line_is n p f t e = simp append_assoc

pub answer_laid : (answer : Answer) (call : Call) (f d : List ℕ) → answer_room ≤ length d → {n a b p s w r : ℕ} {d₁ d₂ d₃ d₄ d₅ d₆ : List ℕ} → n ≡ number_of answer
    → Laid number_room d 0 (decimal n) d₁ a → Laid 1 d₁ a (tab_octet ∷ []) d₂ b → Laid number_room d₂ b (place call) d₃ p
    → Laid 1 d₃ p (tab_octet ∷ []) d₄ s → Laid (2 * record_frame) d₄ s (shown f) d₅ w → Laid 1 d₅ w (line_end ∷ []) d₆ r
    → Laid answer_room d 0 (answer_line answer call f) d₆ r
unfolding answer_line
answer_laid answer call f d h q l₁ l₂ l₃ l₄ l₅ l₆ =
    let m₂ = laid_more l₁ (omega (arith, l₁.within)) l₂ in
    let m₃ = laid_more m₂ (omega (arith, m₂.within)) l₃ in
    let m₄ = laid_more m₃ (omega (arith, m₃.within)) l₄ in
    let m₅ = laid_more m₄ (omega (arith, m₄.within)) l₅ in
    let m₆ = laid_more m₅ (omega (arith, m₅.within)) l₆ in
    laid_as m₆ (line_is (decimal _) (place call) (shown f) tab_octet line_end ∙ rw q) (omega arith)
