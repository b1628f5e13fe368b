-- How much was kept (document 02, W-207): what became of the words that a receiving call was told of, so far.
use Rattle.std.specs.Prelude.{List, [], ◌∷◌, Bool, ◌||◌, not, ℕ, zero, suc, ◌+◌, ◌-◌, ◌/◌, ◌%◌, ◌^◌, leb, eqb}
use Rattle.octets.specs.Tests.{pick}
use Rattle.sizes.specs.Ciphers.{superframe_slots}
use Rattle.sizes.specs.Frame.{words, most_words}
use Rattle.calls.specs.declared.counts.Counts.{Counts}

abbrev pub counts_of : ℕ → ℕ → ℕ → ℕ → Counts
counts_of opened held replaced lost = record { opened = opened; held = held; replaced = replaced; lost = lost }

abbrev pub no_counts : Counts
no_counts = counts_of 0 0 0 0

abbrev pub plus : Counts → Counts → Counts
plus n w = counts_of (n.opened + w.opened) (n.held + w.held) (n.replaced + w.replaced) (n.lost + w.lost)

-- all words, four to a slot: the slots are a quarter of them
abbrev pub total : Counts → ℕ
total n = n.opened + n.held + n.replaced + n.lost

-- ---- the words of a slot

-- the mask has word w: value 1 for the first word, then 2, 4, 8
abbrev pub in_mask : ℕ → ℕ → Bool
in_mask mask w = eqb (mask / 2 ^ w % 2) 1

-- how many words before word w it has, and how many in all
abbrev pub words_before : ℕ → ℕ → ℕ
words_before mask zero = 0
words_before mask (suc w) = pick (in_mask mask w) 1 0 + words_before mask w

abbrev pub words_in : ℕ → ℕ
words_in mask = words_before mask words

-- a lost slot is four lost
abbrev pub lost_words : Counts
lost_words = counts_of 0 0 0 words

-- of a slot that arrived, a word of the mask is opened, or held where the session's vector is unknown; any other is replaced, either way
abbrev pub arrived_words : ℕ → Bool → Counts
arrived_words mask known =
    let others = words - words_in mask in
    pick known (counts_of (words_in mask) 0 others 0) (counts_of 0 (words_in mask) others 0)

-- ---- the rules of a receiver's

-- at most the limit's slots, all whole, and lost slots whole; as many as its position says, modulo a superframe, at whose start either way in is;
-- none held, where every vector is known (scramble); and none opened, where none was ever known (by default, and unknown still)
abbrev pub count_tests : Bool → Bool → ℕ → Counts → List Bool
count_tests always_known never_known position n =
    leb (total n) most_words ∷ eqb (total n % words) 0 ∷ eqb (n.lost % words) 0 ∷ eqb (total n / words % superframe_slots) (position % superframe_slots)
    ∷ (not always_known || eqb n.held 0) ∷ (not never_known || eqb n.opened 0) ∷ []
