-- A history of key operations (document 01, "The key book"; demand 1), and what it tells of a cipher type and key ID by the operations and their answers
-- alone: its name, how far its key has come, and with which octets. What was refused does not count.
use Rattle.std.specs.Prelude.{ℕ, ◌-◌, ◌≡◌, Bool, true, false, ◌&&◌, List, [], ◌∷◌, ◌++◌, length, replicate, eqb}
use Rattle.octets.specs.Tests.{pick}
use Rattle.sizes.specs.Ciphers.{key_octets, key_room}
use Rattle.ciphers.specs.Keys.{key_allowed}
use Rattle.answers.specs.declared.Answer.{Answer}
use Rattle.answers.specs.declared.Answer.TheVariants.{Done, NoEntry}
use Rattle.answers.specs.Numbers.{is_done}
use Rattle.keyentry.specs.Name.{no_name}
use Rattle.keybook.specs.declared.screen.Shown.{Shown}
use Rattle.keybook.specs.Book.{book_octets}
use Rattle.keybook.specs.Operations.{begin_of, add_of, finish_of, erase_of}
use Rattle.keybook.specs.Screen.{nothing_shown}

-- an operation, with its cipher type and key ID; begin has a name, and add key octets
pub data Operation : Type 0 where
  Begin Add : ℕ → ℕ → List ℕ → Operation
  Finish Erase : ℕ → ℕ → Operation

-- operations with what they answered, the latest first
abbrev pub History : Type 0
History = List (Operation × Answer)

-- ---- what a history tells of a cipher type and key ID

-- the operation names them
abbrev pub concerns : ℕ → ℕ → Operation → Bool
concerns c i (Begin d j n) = eqb d c && eqb j i
concerns c i (Finish d j) = eqb d c && eqb j i
concerns c i (Erase d j) = eqb d c && eqb j i
concerns c i (Add d j xs) = eqb d c && eqb j i

-- no key, the name and octets of one that is being loaded, or those of one that was finished
pub data Progress : Type 0 where
  nothing : Progress
  loading finished : List ℕ → List ℕ → Progress

-- one operation more: begin gives the name and starts with no octets, add appends, finish ends the loading, erase leaves no key; an add or a finish out of
-- turn tells of none
abbrev pub tells : Operation → Progress → Progress
tells (Begin d j n) t = loading n []
tells (Add d j ys) nothing = nothing
tells (Add d j ys) (loading n xs) = loading n (xs ++ ys)
tells (Add d j ys) (finished n xs) = nothing
tells (Finish d j) nothing = nothing
tells (Finish d j) (loading n xs) = finished n xs
tells (Finish d j) (finished n xs) = nothing
tells (Erase d j) t = nothing

-- what is told by the operations that were done and name them
unfoldable pub telling : History → ℕ → ℕ → Progress
telling [] c i = nothing
telling (h ∷ hs) c i = pick (is_done h.1 && concerns c i h.0) (tells h.0 (telling hs c i)) (telling hs c i)

-- what is told of the cipher type and key ID that an operation names, and whether it is the operation's turn: begin's where there is no key, add's and finish's
-- where one is being loaded, erase's where there is one
abbrev pub told_for : Operation → History → Progress
told_for (Begin c i n) h = telling h c i
told_for (Add c i ys) h = telling h c i
told_for (Finish c i) h = telling h c i
told_for (Erase c i) h = telling h c i

abbrev pub in_turn : Operation → Progress → Bool
in_turn (Begin c i n) nothing = true
in_turn (Begin c i n) (loading m xs) = false
in_turn (Begin c i n) (finished m xs) = false
in_turn (Add c i ys) nothing = false
in_turn (Add c i ys) (loading m xs) = true
in_turn (Add c i ys) (finished m xs) = false
in_turn (Finish c i) nothing = false
in_turn (Finish c i) (loading m xs) = true
in_turn (Finish c i) (finished m xs) = false
in_turn (Erase c i) nothing = false
in_turn (Erase c i) (loading m xs) = true
in_turn (Erase c i) (finished m xs) = true

-- the operation is an erase of a cipher type and key ID, done or refused
abbrev pub erases : ℕ → ℕ → Operation → Bool
erases c i (Begin d j n) = false
erases c i (Add d j xs) = false
erases c i (Finish d j) = false
erases c i (Erase d j) = eqb d c && eqb j i

-- what the name operation answers by it, and what the inventory shows of cipher type c and key ID i
abbrev pub name_told : Progress → Answer × List ℕ
name_told nothing = (NoEntry, no_name)
name_told (loading n xs) = (Done, n)
name_told (finished n xs) = (Done, n)

abbrev pub shown_told : ℕ → ℕ → Progress → Shown
shown_told c i nothing = nothing_shown
shown_told c i (loading n xs) = record { cipher = c; id = i; loaded = length xs; ready = false; name = n }
shown_told c i (finished n xs) = record { cipher = c; id = i; loaded = length xs; ready = true; name = n }

-- octets, followed by zeros to 32
abbrev pub padded : List ℕ → List ℕ
padded xs = xs ++ replicate (key_room - length xs) 0

-- a history tells of key k: a key was begun with a name and finished, k is exactly the octets that were added since its begin, in order, followed by zeros,
-- their number is the cipher's key length, and they are allowed
pub record Told (h : History) (c i : ℕ) (k : List ℕ) : Type 0 where
  pub name : List ℕ
  pub octets : List ℕ
  pub is-finished : telling h c i ≡ finished name octets
  pub is-padded : k ≡ padded octets
  pub is_whole : length octets ≡ key_octets c
  pub is_allowed : key_allowed c octets ≡ true

-- ---- the histories that come to pass

-- what an operation answers and leaves
unfoldable pub step : Operation → List ℕ → Answer × List ℕ
step (Begin c i n) b = begin_of b c i n
step (Add c i xs) b = add_of b c i xs
step (Finish c i) b = finish_of b c i
step (Erase c i) b = erase_of b c i

-- the book after operations on an all-zero one, the latest first
unfoldable pub book_after : List Operation → List ℕ
book_after [] = replicate book_octets 0
book_after (o ∷ os) = (step o (book_after os)).1

-- and what they answered
unfoldable pub history : List Operation → History
history [] = []
history (o ∷ os) = (o, (step o (book_after os)).0) ∷ history os
