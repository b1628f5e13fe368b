-- What demand 1 throws out: every key but one, histories in which no finish was done (version one began while the key loader was still sending),
-- keys that were erased before the opening, a call whose rate or strictness changes, and any rate or strictness but 0 and 1.
use mathlib.Core.Path.{◌≡◌, refl, sym, ap, subst, ◌∙◌}
use mathlib.Core.Bool.{Bool, true, false, ◌&&◌, true≢false}
use mathlib.Core.List.{List, [], ◌∷◌, ◌++◌}
use Prim.Native.Nat.{ℕ, ◌≤◌}
use lib.Dec.{eqb}
use borrow.Author.Tests.{eq-eqb}
use Rattle.octets.specs.Tests.{pick}
use Rattle.octets.specs.Lists.{Each}
use Rattle.answers.specs.declared.Answer.{Answer}
use Rattle.answers.specs.declared.Answer.TheVariants.{Done, NotReady}
use Rattle.answers.specs.Numbers.{number_of, is_done}
use Rattle.calls.specs.Call.{by_default}
use Rattle.keybook.specs.History as book
use Rattle.keybook.proofs.HistoryLaws.{one_told}
use Rattle.nxdn.specs.Operations.{CallOperation, Open, Start, Join, Voice, Lost, End, Announce, NextVector, PacketOperation, OpenPacket, Message, LostMessage, EndPacket}
use Rattle.demands.specs.Device.{Device, Operation, OfBook, OfScreen, OfCall, OfPacket, Step, History, device_after, history, key_operations}
use Rattle.octets.proofs.TestLaws.{and_false_r}
use Rattle.demands.proofs.LoadedLaws.{still_loaded}
use Rattle.demands.specs.Demand1.{OpensCall, by-open, by-start, by-join, OpensPacket, by-opening, renews_call, renews_packet, NoneDone, Loaded, Demand1}

-- ---- without a finish that was done no key is loaded

abbrev is_finish : book.Operation → Bool
is_finish (book.Begin c i n) = false
is_finish (book.Add c i xs) = false
is_finish (book.Finish c i) = true
is_finish (book.Erase c i) = false

abbrev pub finishing : Operation → Bool
finishing (OfBook o) = is_finish o
finishing (OfScreen o) = false
finishing (OfCall n o) = false
finishing (OfPacket n o) = false

abbrev is_finished : book.Progress → Bool
is_finished book.nothing = false
is_finished (book.loading n xs) = false
is_finished (book.finished n xs) = true

-- another operation finishes nothing
not_by : (o : book.Operation) (t : book.Progress) → is_finish o ≡ false → is_finished (book.tells o t) ≡ false
not_by (book.Begin d j n) t e = refl
not_by (book.Add d j xs) book.nothing e = refl
not_by (book.Add d j xs) (book.loading n ys) e = refl
not_by (book.Add d j xs) (book.finished n ys) e = refl
not_by (book.Finish d j) t e = absurd (true≢false e)
not_by (book.Erase d j) t e = refl

unfinished : (h : History) → NoneDone finishing h → (c i : ℕ) → is_finished (book.telling (key_operations h) c i) ≡ false
unfolding key_operations book.telling
unfinished [] n c i = refl
unfinished ((OfBook o, a) ∷ h) n c i = go (is_done a) (book.concerns c i o) n.0 (book.telling (key_operations h) c i) (unfinished h n.1 c i)
  where
    go : (d m : Bool) → (d && is_finish o) ≡ false → (t : book.Progress) → is_finished t ≡ false → is_finished (pick (d && m) (book.tells o t) t) ≡ false
    go true true e t f = not_by o t e
    go true false e t f = f
    go false m e t f = f
unfinished ((OfScreen o, a) ∷ h) n c i = unfinished h n.1 c i
unfinished ((OfCall m o, a) ∷ h) n c i = unfinished h n.1 c i
unfinished ((OfPacket m o, a) ∷ h) n c i = unfinished h n.1 c i

after : (renews : Operation → Bool) (since before : History) → NoneDone renews (since ++ before) → NoneDone renews before
after renews [] before n = n
after renews (x ∷ since) before n = after renews since before n.1

pub unfinished_loads_none : {F : Type 0} (opens : F → ℕ → ℕ → Operation → Type 0) (renews : Operation → Bool) (h : History) (f : F) (c : ℕ) (k : List ℕ) → NoneDone finishing h
    → Loaded opens renews h f c k → ⊥
unfinished_loads_none opens renews h f c k n l =
    let m : NoneDone finishing (l.since ++ ((l.opening, Done) ∷ l.before)) = rw l.is-history at n in
    true≢false (ap is_finished (sym l.told.is-finished) ∙ unfinished l.before (after finishing l.since ((l.opening, Done) ∷ l.before) m).1 c l.id)

-- so a device that turns a word or a message there does not meet the demand
module _ (st : Step) (os : List Operation) (none : NoneDone finishing (history st os)) (n : ℕ) (meets : Demand1 st) where
  pub no_word : (mask : ℕ) (frame : List ℕ) → number_of (st (device_after st os) (OfCall n (Voice mask frame))).0 ≡ 0 → ⊥
  no_word mask frame z =
      let t = meets.words os n mask frame z in
      unfinished_loads_none (OpensCall n) (renews_call n) (history st os) (((device_after st os).calls n).terms.rate, ((device_after st os).calls n).terms.strictness) ((device_after st os).calls n).terms.cipher ((device_after st os).calls n).terms.key none t.loaded

  pub no_message : (message : List ℕ) → number_of (st (device_after st os) (OfPacket n (Message message))).0 ≡ 0 → ⊥
  no_message message z =
      let t = meets.messages os n message z in
      unfinished_loads_none (OpensPacket n) (renews_packet n) (history st os) ((device_after st os).packets n).kind ((device_after st os).packets n).cipher ((device_after st os).packets n).key none
      t.loaded

-- version one: half a key is added, the finish is refused, and a call is opened all the same, in whichever way; or a packet
abbrev pub too_early : ℕ → ℕ → List ℕ → List ℕ → Operation → History
too_early c i name half o = (o, Done) ∷ (OfBook (book.Finish c i), NotReady) ∷ (OfBook (book.Add c i half), Done) ∷ (OfBook (book.Begin c i name), Done) ∷ []

module _ (n c i d : ℕ) (name half k : List ℕ) where
  pub version_one : (f e : ℕ × ℕ) (o : Operation) → OpensCall n f c i o → Loaded (OpensCall n) (renews_call n) (too_early c i name half o) e d k → ⊥
  version_one f e _ (by-open w) = unfinished_loads_none (OpensCall n) (renews_call n) _ e d k (refl, (refl, (refl, (refl, tt))))
  version_one f e _ (by-start w z) = unfinished_loads_none (OpensCall n) (renews_call n) _ e d k (refl, (refl, (refl, (refl, tt))))
  version_one f e _ by-join = unfinished_loads_none (OpensCall n) (renews_call n) _ e d k (refl, (refl, (refl, (refl, tt))))

  pub version_one-packet : (f e : ℕ) (o : Operation) → OpensPacket n f c i o → Loaded (OpensPacket n) (renews_packet n) (too_early c i name half o) e d k → ⊥
  version_one-packet f e _ (by-opening end w) = unfinished_loads_none (OpensPacket n) (renews_packet n) _ e d k (refl, (refl, (refl, (refl, tt))))

-- ---- one opening stands, and so one key is loaded

module _ {F : Type 0} (opens : F → ℕ → ℕ → Operation → Type 0) (renews : Operation → Bool) (names : Operation → F × ℕ × ℕ)
    (renewing : (f : F) (c i : ℕ) (o : Operation) → opens f c i o → renews o ≡ true)
    (naming : (f : F) (c i : ℕ) (o : Operation) → opens f c i o → (f, c, i) ≡ names o) where
  -- what is done and renews is not among what came since
  not-since : (x : Operation × Answer) (o : Operation) → renews o ≡ true → (o, Done) ≡ x → (is_done x.1 && renews x.0) ≡ false → ⊥
  not-since x o r q e = true≢false (sym r ∙ (rw (← q) at e))

  one-opening : (since since' before before' : History) (o o' : Operation) → renews o ≡ true → renews o' ≡ true → NoneDone renews since
      → NoneDone renews since' → since ++ ((o, Done) ∷ before) ≡ since' ++ ((o', Done) ∷ before') → (o ≡ o') × (before ≡ before')
  one-opening [] [] before before' o o' r r' n n' e =
      let q : ◌≡◌ {A = Operation × Answer} (o, Done) (o', Done) = cc in
      (ap (λ (x : Operation × Answer). x.0) q, (cc))
  one-opening [] (x ∷ since') before before' o o' r r' n n' e = absurd (not-since x o r (cc) n'.0)
  one-opening (x ∷ since) [] before before' o o' r r' n n' e = absurd (not-since x o' r' (cc) n.0)
  one-opening (x ∷ since) (y ∷ since') before before' o o' r r' n n' e = one-opening since since' before before' o o' r r' n.1 n'.1 (cc)

  -- the key is the one that was told of when the opening that stands was done
  module _ (h : History) (f : F) (c : ℕ) (k : List ℕ) (l : Loaded opens renews h f c k) where
    told_at : (since before : History) (o : Operation) → renews o ≡ true → NoneDone renews since → h ≡ since ++ ((o, Done) ∷ before)
        → (f ≡ (names o).0) × (c ≡ (names o).1) × book.Told (key_operations before) (names o).1 (names o).2 k
    told_at since before o r n e =
        let q = one-opening l.since since l.before before l.opening o (renewing f c l.id l.opening l.opens_it) r l.still_stands n
        (sym l.is-history ∙ e) in
        let m : (f, c, l.id) ≡ names o = naming f c l.id l.opening l.opens_it ∙ ap names q.0 in
        let t : book.Told (key_operations before) c l.id k = rw q.1 at l.told in
        (ap (λ (p : F × ℕ × ℕ). p.0) m, ap (λ (p : F × ℕ × ℕ). p.1) m, subst (λ (p : F × ℕ × ℕ). book.Told (key_operations before) p.1 p.2 k) m t)

  one_key : (h : History) (f f' : F) (c c' : ℕ) (k k' : List ℕ) → Loaded opens renews h f c k → Loaded opens renews h f' c' k' → (f ≡ f') × (c ≡ c') × (k ≡ k')
  one_key h f f' c c' k k' l l' =
      let r = renewing f' c' l'.id l'.opening l'.opens_it in
      let a = told_at h f c k l l'.since l'.before l'.opening r l'.still_stands l'.is-history in
      let b = told_at h f' c' k' l' l'.since l'.before l'.opening r l'.still_stands l'.is-history in
      (a.0 ∙ sym b.0, a.1 ∙ sym b.1, one_told a.2 b.2)

  -- an opening right after its key was erased, whatever came before
  erased-loads-none : (f : F) (c i : ℕ) (e : F) (d : ℕ) (k : List ℕ) (o : Operation) (h : History) → opens f c i o
      → Loaded opens renews ((o, Done) ∷ (OfBook (book.Erase c i), Done) ∷ h) e d k → ⊥
  unfolding key_operations book.telling
  erased-loads-none f c i e d k o h p l =
      let t = (told_at _ e d k l [] ((OfBook (book.Erase c i), Done) ∷ h) o (renewing f c i o p) tt refl).2 in
      let u = subst (λ (q : F × ℕ × ℕ). book.Told (key_operations ((OfBook (book.Erase c i), Done) ∷ h)) q.1 q.2 k) (sym (naming f c i o p)) t in
      true≢false (ap is_finished (sym u.is-finished) ∙ rw (eq-eqb c c refl, eq-eqb i i refl))

-- what an opening fixes, the cipher and the key ID that it names
abbrev call_names : CallOperation → (ℕ × ℕ) × ℕ × ℕ
call_names (Open c i r s w) = ((r, s), c, i)
call_names (Start c i r w) = ((r, by_default), c, i)
call_names (Join c i r s) = ((r, s), c, i)
call_names (Voice mask frame) = ((0, 0), 0, 0)
call_names Lost = ((0, 0), 0, 0)
call_names End = ((0, 0), 0, 0)
call_names (Announce w) = ((0, 0), 0, 0)
call_names (NextVector out) = ((0, 0), 0, 0)

abbrev of_call : Operation → (ℕ × ℕ) × ℕ × ℕ
of_call (OfBook o) = ((0, 0), 0, 0)
of_call (OfScreen o) = ((0, 0), 0, 0)
of_call (OfCall n o) = call_names o
of_call (OfPacket n o) = ((0, 0), 0, 0)

abbrev packet_names : PacketOperation → ℕ × ℕ × ℕ
packet_names (OpenPacket end kind c i w) = (kind, c, i)
packet_names (Message octets) = (0, 0, 0)
packet_names LostMessage = (0, 0, 0)
packet_names EndPacket = (0, 0, 0)

abbrev of_packet : Operation → ℕ × ℕ × ℕ
of_packet (OfBook o) = (0, 0, 0)
of_packet (OfScreen o) = (0, 0, 0)
of_packet (OfCall n o) = (0, 0, 0)
of_packet (OfPacket n o) = packet_names o

module _ (n : ℕ) where
  own : eqb n n ≡ true
  own = eq-eqb n n refl

  call-renews : (f : ℕ × ℕ) (c i : ℕ) (o : Operation) → OpensCall n f c i o → renews_call n o ≡ true
  call-renews f c i _ (by-open w) = rw own
  call-renews f c i _ (by-start w z) = rw own
  call-renews f c i _ by-join = rw own

  call-names : (f : ℕ × ℕ) (c i : ℕ) (o : Operation) → OpensCall n f c i o → (f, c, i) ≡ of_call o
  call-names f c i _ (by-open w) = refl
  call-names f c i _ (by-start w z) = ap (λ (s : ℕ). ((f.0, s), c, i)) z
  call-names f c i _ by-join = refl

  packet-renews : (f c i : ℕ) (o : Operation) → OpensPacket n f c i o → renews_packet n o ≡ true
  packet-renews f c i _ (by-opening end w) = rw own

  packet-names : (f c i : ℕ) (o : Operation) → OpensPacket n f c i o → (f, c, i) ≡ of_packet o
  packet-names f c i _ (by-opening end w) = refl

  pub one-key_call : (h : History) (f f' : ℕ × ℕ) (c c' : ℕ) (k k' : List ℕ) → Loaded (OpensCall n) (renews_call n) h f c k
      → Loaded (OpensCall n) (renews_call n) h f' c' k' → (f ≡ f') × (c ≡ c') × (k ≡ k')
  one-key_call = one_key (OpensCall n) (renews_call n) of_call call-renews call-names

  pub one-key-packet : (h : History) (kind kind' c c' : ℕ) (k k' : List ℕ) → Loaded (OpensPacket n) (renews_packet n) h kind c k
      → Loaded (OpensPacket n) (renews_packet n) h kind' c' k' → (kind ≡ kind') × (c ≡ c') × (k ≡ k')
  one-key-packet = one_key (OpensPacket n) (renews_packet n) of_packet packet-renews packet-names

  -- an opening of any kind, right after its key was erased
  pub erased : (f : ℕ × ℕ) (c i : ℕ) (e : ℕ × ℕ) (d : ℕ) (k : List ℕ) (o : Operation) (h : History) → OpensCall n f c i o
      → Loaded (OpensCall n) (renews_call n) ((o, Done) ∷ (OfBook (book.Erase c i), Done) ∷ h) e d k → ⊥
  erased = erased-loads-none (OpensCall n) (renews_call n) of_call call-renews call-names

  pub erased-packet : (kind c i e d : ℕ) (k : List ℕ) (o : Operation) (h : History) → OpensPacket n kind c i o
      → Loaded (OpensPacket n) (renews_packet n) ((o, Done) ∷ (OfBook (book.Erase c i), Done) ∷ h) e d k → ⊥
  erased-packet = erased-loads-none (OpensPacket n) (renews_packet n) of_packet packet-renews packet-names

-- ---- a call keeps the rate and the strictness that it was opened with

-- what neither opens nor ends call n leaves what was loaded for it
kept_on_lem : (st : Step) (n : ℕ) {r : ℕ × ℕ} {c : ℕ} {k : List ℕ} (os more : List Operation) → Each (λ o. renews_call n o ≡ false) more
    → Loaded (OpensCall n) (renews_call n) (history st os) r c k → Loaded (OpensCall n) (renews_call n) (history st (more ++ os)) r c k
unfolding history
kept_on_lem st n os [] e l = l
kept_on_lem st n os (o ∷ more) e l =
    let a = (st (device_after st (more ++ os)) o).0 in
    still_loaded (OpensCall n) (renews_call n) (history st (more ++ os)) o a (ap (λ (t : Bool). is_done a && t) e.0 ∙ and_false_r (is_done a))
    (kept_on_lem st n os more e.1 l)

-- so on any device that meets the demand two slots of one call that are done have one rate and one strictness, whatever came between them but an opening or an end of the call
pub ways_stay : (st : Step) → Demand1 st → (n : ℕ) (os more : List Operation) → Each (λ o. renews_call n o ≡ false) more
    → (mask : ℕ) (frame : List ℕ) → number_of (st (device_after st os) (OfCall n (Voice mask frame))).0 ≡ 0
    → (mask' : ℕ) (frame' : List ℕ) → number_of (st (device_after st (more ++ os)) (OfCall n (Voice mask' frame'))).0 ≡ 0
    → let before = ((device_after st os).calls n).terms in
    let after = ((device_after st (more ++ os)).calls n).terms in
    (before.rate ≡ after.rate) × (before.strictness ≡ after.strictness)
ways_stay st meets n os more e mask frame z mask' frame' z' =
    let q = (one-key_call n (history st (more ++ os)) _ _ _ _ _ _ (kept_on_lem st n os more e (meets.words os n mask frame z).loaded)
    (meets.words (more ++ os) n mask' frame' z').loaded).0 in
    (ap (λ (f : ℕ × ℕ). f.0) q, ap (λ (f : ℕ × ℕ). f.1) q)

-- ---- no call is opened at another rate, or of another strictness, than 0 and 1

module _ (st : Step) (meets : Demand1 st) (d : Device) (n c i r : ℕ) where
  pub no_other_ways : (s : ℕ) (w : List ℕ) → (r ≤ 1 → s ≤ 1 → ⊥) → (2 ≤ number_of (st d (OfCall n (Open c i r s w))).0) × (2 ≤ number_of (st d (OfCall n (Join c i r s))).0)
  no_other_ways s w f = (
    meets.refused d (OfCall n (Open c i r s w)) (λ x. f x.1 x.2),
    meets.refused d (OfCall n (Join c i r s)) (λ x. f x.1 x.2),
  )

  pub no_other_rate : (w : List ℕ) → (r ≤ 1 → ⊥) → 2 ≤ number_of (st d (OfCall n (Start c i r w))).0
  no_other_rate w f = meets.refused d (OfCall n (Start c i r w)) (λ x. f x.1)
