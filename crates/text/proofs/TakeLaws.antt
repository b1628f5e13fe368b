-- A piece taken line by line comes to what its octets come to, as far as there is room.
use mathlib.Core.Path.{◌≡◌, refl, sym, ap, ◌∙◌}
use mathlib.Core.List.{List, [], ◌∷◌, ◌++◌, append_assoc, append-nil}
use Prim.Native.Nat.{ℕ, suc, ◌+◌, ◌-◌, ◌≤◌, ◌<◌}
use native.Mathlib.Nat.{zero-add, sub-zero}
use native.Mathlib.Omega.{arith}
use lib.ListN.{length, take, drop, length-append, length-drop, take-append-drop}
use lib.Seq.{take_all, take_at, drop_at, take-add, take-append_seam, drop-length, drop-drop, length-take-le}
use borrow.Rule.Slice.PartMut.{mid_of, post_of, put_mid, Post-is}
use borrow.Author.Tests.{lt-ltb, le-ltb, eq-eqb, ne_eqb}
use Rattle.text.specs.Parted.{line_end, part_end}
use Rattle.text.specs.Reader.{Reader, Reading, fresh, overlaid, fed, usable, leaves, taken, finished, lastly, closing}
use Rattle.text.specs.Responded.{Responded}
use Rattle.text.proofs.PartedLaws.{Lacks, end_from, part_at, part_long, part_lacks, part_ends}
use Rattle.text.proofs.ReaderLaws.{fed_append, Enough}
use Rattle.text.proofs.RoomLaws.{usable-within, usable_some, usable-none, usable_part, usable_line, fed_part, fed_line}

-- ---- lent octets

-- what is written after what was written
overlaid_more : (out x y : List ℕ) → length x ≤ length out → x ++ overlaid (drop (length x) out) y ≡ overlaid out (x ++ y)
overlaid_more out x y h = rw (drop-drop (length y) (length x) out, length-append x y, append_assoc x y (drop (length x + length y) out))

-- the part of them past what was written, written on and given back
put_rest : (out₀ o y out p : List ℕ) (w : ℕ) → w ≡ length o → w ≤ length out₀ → w ≤ length out → out ≡ overlaid out₀ o → p ≡ overlaid (mid_of w (length out - w) out) y
    → put_mid w (length out - w) out p ≡ overlaid out₀ (o ++ y)
put_rest out₀ o y out p w e h k q r =
    let mid : mid_of w (length out - w) out ≡ drop (length o) out₀ =
    take_all (length out - w) (drop w out) (omega (arith, length-drop w out)) ∙ ap (drop w) q ∙ drop_at o (drop (length o) out₀) w (sym e) in
    let none : post_of w (length out - w) out ≡ [] = Post-is w (length out) out k ∙ drop-length out in
    let front : take w out ≡ o = ap (take w) q ∙ take_at o (drop (length o) out₀) w (sym e) in
    rw (none, front, r, mid, append-nil) (overlaid_more out₀ o y (omega arith))

overlaid-length : (out x : List ℕ) → length x ≤ length out → length (overlaid out x) ≡ length out
overlaid-length out x h = length-append x (drop (length x) out) ∙ omega (arith, length-drop (length x) out)

-- output over lent octets that stay as many as they were is no longer than they
overlaid-fits : (out x after : List ℕ) → after ≡ overlaid out x → length after ≡ length out → length x ≤ length after
overlaid-fits out x after e l = omega (arith, ap length e, length-append x (drop (length x) out), length-drop (length x) out)

module _ {S : Type 0} (r : Reader S) where
  -- ---- what was left, read

  leaves-is : (f : List ℕ × Reading S) (out₀ : List ℕ) {wrote : ℕ} {text : List ℕ} {here : Reading S} {out : List ℕ} → f ≡ (text, here)
      → wrote ≡ length text → out ≡ overlaid out₀ text → (wrote, (here, out)) ≡ leaves r out₀ f
  leaves-is f out₀ q w o = rw (q, w, o)

  -- of the lent octets as many as were written are the output, and the rest is what is carried on
  pub left_is : (f : List ℕ × Reading S) (out : List ℕ) {w : ℕ} {here : Reading S} {out' : List ℕ} → (w, (here, out')) ≡ leaves r out f → f ≡ (take w out', here)
  left_is f out {w} {here} {out'} q =
      let n : w ≡ length f.0 = ap (λ (x : ℕ × (Reading S × List ℕ)). x.0) q in
      let h : here ≡ f.1 = ap (λ (x : ℕ × (Reading S × List ℕ)). x.1.0) q in
      let o : out' ≡ overlaid out f.0 = ap (λ (x : ℕ × (Reading S × List ℕ)). x.1.1) q in
      rw (n, h, o, take-append_seam f.0 (drop (length f.0) out))

  left-fits : (f : List ℕ × Reading S) (out : List ℕ) {w : ℕ} {here : Reading S} {out' : List ℕ} → (w, (here, out')) ≡ leaves r out f → length out' ≡ length out → w ≤ length out'
  left-fits f out {w} {here} {out'} q l =
      rw (ap (λ (x : ℕ × (Reading S × List ℕ)). x.0) q) (overlaid-fits out f.0 out' (ap (λ (x : ℕ × (Reading S × List ℕ)). x.1.1) q) l)

  module _ (s : Reading S) (piece out : List ℕ) {n w : ℕ} {here : Reading S} {out' : List ℕ} (q : (n, (w, (here, out'))) ≡ taken r s piece out) where
    left : (w, (here, out')) ≡ leaves r out (fed r s (take n piece))
    unfolding taken
    left =
        ap (λ (x : ℕ × (ℕ × (Reading S × List ℕ))). x.1) q
        ∙ ap (λ (k : ℕ). leaves r out (fed r s (take k piece))) (sym (ap (λ (x : ℕ × (ℕ × (Reading S × List ℕ))). x.0) q))

    used-is : n ≡ usable r (length out) s piece
    unfolding taken
    used-is = ap (λ (x : ℕ × (ℕ × (Reading S × List ℕ))). x.0) q

    -- what was taken was fed
    pub taken-fed : fed r s (take n piece) ≡ (take w out', here)
    taken-fed = left_is (fed r s (take n piece)) out left

    -- how much was used and written
    pub taken-used : n ≤ length piece
    taken-used = rw used-is (usable-within r piece (length out) s)

    pub taken_wrote : length out' ≡ length out → w ≤ length out'
    taken_wrote = left-fits (fed r s (take n piece)) out left

    pub taken_some : r.room ≤ length out → 1 ≤ length piece → 1 ≤ n
    taken_some h l = rw used-is (go piece l)
      where
        go : (piece : List ℕ) → 1 ≤ length piece → 1 ≤ usable r (length out) s piece
        go [] l = absurd (omega arith)
        go (x ∷ xs) l = usable_some r (length out) s x xs h

  -- ---- the way through a piece

  -- what was taken of it up to a place, with nothing but whole lines past the start
  pub record Taken (piece out₀ : List ℕ) (s : Reading S) (at wrote : ℕ) (here : Reading S) (out : List ℕ) : Type 0 where
    pub within : at ≤ length piece
    pub short : length here.line ≤ r.most
    pub text : List ℕ
    pub so_far : fed r s (take at piece) ≡ (text, here)
    pub written : wrote ≡ length text
    pub fits : wrote ≤ length out₀
    pub same : length out ≡ length out₀
    pub octets : out ≡ overlaid out₀ text
    pub left : usable r (length out₀) s piece ≡ at + usable r (length out₀ - wrote) here (drop at piece)

  module _ (enough : Enough r) (piece out₀ : List ℕ) (s : Reading S) where
    pub taken_none : length s.line ≤ r.most → Taken piece out₀ s 0 0 s out₀
    unfolding fed
    taken_none h =
        record {
          within = omega arith;
          short = h;
          text = [];
          so_far = refl;
          written = refl;
          fits = omega arith;
          same = refl;
          octets = refl;
          left = rw (sub-zero (length out₀), zero-add (usable r (length out₀) s piece));
        }

    -- so much of it, with this output
    took : {n wrote : ℕ} {text : List ℕ} {here : Reading S} {out : List ℕ} → usable r (length out₀) s piece ≡ n → fed r s (take n piece) ≡ (text, here)
        → wrote ≡ length text → out ≡ overlaid out₀ text → (n, (wrote, (here, out))) ≡ taken r s piece out₀
    unfolding taken
    took {n} u q w o = rw u (ap (λ (x : ℕ × (Reading S × List ℕ)). (n, x)) (leaves-is (fed r s (take n piece)) out₀ q w o))

    module _ {at wrote : ℕ} {here : Reading S} {out : List ℕ} (t : Taken piece out₀ s at wrote here out) where
      abbrev e : ℕ
      e = part_end line_end piece at

      abbrev p : List ℕ
      p = part_at line_end piece at

      abbrev one : List ℕ × S
      one = r.act (here.line ++ p) here.state

      abbrev rest : List ℕ
      rest = drop (e + 1) piece

      lacks : Lacks line_end p
      lacks = part_lacks line_end piece at t.within

      -- up to the end of the part, and past its line end
      to_end : take e piece ≡ take at piece ++ p
      to_end =
          let q : e ≡ at + (e - at) = omega (arith, end_from line_end piece at t.within) in
          ap (λ (k : ℕ). take k piece) q ∙ take-add at (e - at) piece

      past_end : e < length piece → take (e + 1) piece ≡ take at piece ++ (p ++ (line_end ∷ []))
      past_end l =
          let whole : piece ≡ (take at piece ++ (p ++ (line_end ∷ []))) ++ rest =
          sym (take-append-drop at piece) ∙ ap (λ (x : List ℕ). take at piece ++ x) (part_ends line_end piece at t.within l)
          ∙ sym (append_assoc (take at piece) (p ++ (line_end ∷ [])) rest ∙ ap (λ (x : List ℕ). take at piece ++ x) (append_assoc p (line_end ∷ []) rest)) in
          let long : length (take at piece ++ (p ++ (line_end ∷ []))) ≡ e + 1 =
          omega (arith, length-append (take at piece) (p ++ (line_end ∷ [])), length-append p (line_end ∷ []), length-take-le at piece t.within, part_long line_end piece at t.within, end_from line_end piece at t.within) in
          ap (take (e + 1)) whole ∙ take_at (take at piece ++ (p ++ (line_end ∷ []))) rest (e + 1) long

      -- the line that ends
      fed-one : e < length piece → fed r s (take (e + 1) piece) ≡ (t.text ++ one.0, fresh one.1)
      unfolding fed
      fed-one l =
          rw (past_end l) (fed_append r (take at piece) s (p ++ (line_end ∷ []))
          ∙ rw (t.so_far, fed_line r enough here p [] t.short lacks, append-nil one.0))

      usable-one : e < length piece → r.room ≤ length out₀ - wrote
          → usable r (length out₀ - wrote) here (drop at piece) ≡ length p + suc (usable r (length out₀ - wrote - length one.0) (fresh one.1) rest)
      usable-one l room =
          ap (usable r (length out₀ - wrote) here) (part_ends line_end piece at t.within l)
          ∙ usable_line r (length out₀ - wrote) room enough here p rest t.short lacks

      -- goes on from it
      taken-line : e < length piece → r.room ≤ length out - wrote → {n : ℕ} {after : S} {part' : List ℕ}
          → Responded r (here.line ++ p) here.state (mid_of wrote (length out - wrote) out) n after part'
          → Taken piece out₀ s (e + 1) (wrote + n) (fresh after) (put_mid wrote (length out - wrote) out part')
      taken-line l room {n} {after} {part'} d =
          record {
            within = omega arith;
            short = omega arith;
            text = t.text ++ one.0;
            so_far = fed-one l ∙ rw d.state_is;
            written = size;
            fits = fits';
            same = ap length all ∙ overlaid-length out₀ (t.text ++ one.0) (omega (arith, size));
            octets = all;
            left = rw d.state_is (omega (arith, t.left, usable-one l (omega (arith, t.same)), part_long line_end piece at t.within, end_from line_end piece at t.within, room-left));
          }
        where
          fits' : wrote + n ≤ length out₀
          fits' = omega (arith, t.same, d.within, d.long, t.fits)

          size : wrote + n ≡ length (t.text ++ one.0)
          size = omega (arith, t.written, d.long, length-append t.text one.0)

          all : put_mid wrote (length out - wrote) out part' ≡ overlaid out₀ (t.text ++ one.0)
          all = put_rest out₀ t.text one.0 out part' wrote t.written t.fits (omega (arith, t.same, t.fits)) t.octets d.octets

          room-left : usable r (length out₀ - wrote - length one.0) (fresh one.1) rest ≡ usable r (length out₀ - (wrote + n)) (fresh one.1) rest
          room-left = let q : length out₀ - wrote - length one.0 ≡ length out₀ - (wrote + n) = omega (arith, d.long) in ap (λ (k : ℕ). usable r k (fresh one.1) rest) q

      pub taken-on : (end : ℕ) → end ≡ e → end < length piece → r.room ≤ length out - wrote → {n : ℕ} {after : S} {part' : List ℕ}
          → Responded r (here.line ++ take (end - at) (drop at piece)) here.state (mid_of wrote (length out - wrote) out) n after part'
          → Taken piece out₀ s (end + 1) (wrote + n) (fresh after) (put_mid wrote (length out - wrote) out part')
      taken-on end q l room d = rw q (taken-line (rw q at l) room (rw q at d))

      -- where there is no room for another, it ends there
      pub took_some : length out - wrote < r.room → (at, (wrote, (here, out))) ≡ taken r s piece out₀
      took_some h =
          let stops : usable r (length out₀) s piece ≡ at = omega (arith, t.left, usable-none r (length out₀ - wrote) here (drop at piece) (omega (arith, t.same))) in
          took stops t.so_far t.written t.octets

      -- and the last part is kept
      pub took_all : {end : ℕ} → end ≡ e → end ≡ length piece → r.room ≤ length out - wrote → {line : List ℕ}
          → line ≡ take r.most (here.line ++ take (end - at) (drop at piece))
          → (end, (wrote, (record { line = line; state = here.state }, out))) ≡ taken r s piece out₀
      unfolding usable
      took_all {end} q l room {line} k =
          let all : e ≡ length piece = sym q ∙ l in
          let last : drop at piece ≡ p ++ [] = sym (append-nil p ∙ take_all (e - at) (drop at piece) (omega (arith, all, length-drop at piece))) in
          let left : usable r (length out₀ - wrote) here (drop at piece) ≡ length p + 0 =
          ap (usable r (length out₀ - wrote) here) last ∙ usable_part r (length out₀ - wrote) (omega (arith, t.same)) p here [] lacks in
          let used : usable r (length out₀) s piece ≡ length piece =
          omega (arith, t.left, left, part_long line_end piece at t.within, end_from line_end piece at t.within, all) in
          let so_far : fed r s (take (length piece) piece) ≡ (t.text, record { line = line; state = here.state }) =
          rw (← all, to_end) (fed_append r (take at piece) s p ∙ rw (t.so_far, fed_part r p here t.short lacks, append-nil t.text, ← (rw q at k))) in
          rw l (took used so_far t.written t.octets)

  -- ---- the end of the input

  module _ (s : Reading S) (out : List ℕ) where
    closes : (f : List ℕ × Reading S) → lastly r (length out) s ≡ f → leaves r out f ≡ closing r s out
    unfolding closing
    closes f q = rw q

    pub closing_wrote : {w : ℕ} {here : Reading S} {out' : List ℕ} → (w, (here, out')) ≡ closing r s out → length out' ≡ length out → w ≤ length out'
    unfolding closing
    closing_wrote = left-fits (lastly r (length out) s) out

    pub closing-none : length out < r.room → (0, (s, out)) ≡ closing r s out
    closing-none h = closes ([], s) (rw (lt-ltb (length out) r.room h))

    module _ (h : r.room ≤ length out) where
      lastly-is : (a : List ℕ × S) → finished r s ≡ a → lastly r (length out) s ≡ (a.0, fresh a.1)
      lastly-is a e = rw (le-ltb (length out) r.room h, e)

      -- with room, the output and the state are those of the end
      pub closing-all : {w : ℕ} {here : Reading S} {out' : List ℕ} → (w, (here, out')) ≡ closing r s out → (take w out' ≡ (finished r s).0) × (here ≡ fresh (finished r s).1)
      closing-all q =
          let f = left_is ((finished r s).0, fresh (finished r s).1) out (q ∙ sym (closes _ (lastly-is (finished r s) refl))) in
          (sym (ap (λ (x : List ℕ × Reading S). x.0) f), sym (ap (λ (x : List ℕ × Reading S). x.1) f))

      pub closing_empty : length s.line ≡ 0 → (0, (fresh s.state, out)) ≡ closing r s out
      unfolding finished
      closing_empty e = closes _ (lastly-is ([], s.state) (rw (eq-eqb (length s.line) 0 e)))

      pub closing_line : (length s.line ≡ 0 → ⊥) → {n : ℕ} {after : S} {out' : List ℕ} → Responded r s.line s.state out n after out' → (n, (fresh after, out')) ≡ closing r s out
      unfolding finished
      closing_line e d =
          rw (d.long, d.octets, d.state_is) (closes _ (lastly-is (r.act s.line s.state) (rw (ne_eqb (length s.line) 0 e))))

  -- what is kept of a line is answered as all of it
  pub responded_kept : Enough r → (l : List ℕ) (s : S) {out : List ℕ} {n : ℕ} {after : S} {out' : List ℕ}
      → Responded r (take r.most l) s out n after out' → Responded r l s out n after out'
  responded_kept enough l s d =
      let e = enough.as_all l s in
      record { within = rw e at d.within; long = rw e at d.long; octets = rw e at d.octets; state_is = rw e at d.state_is }
