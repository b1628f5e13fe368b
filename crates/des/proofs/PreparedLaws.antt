-- A prepared key: its size, what stands in it, and how `prepare` puts it together.
use mathlib.Core.Path.{◌≡◌, sym, ap, ◌∙◌}
use mathlib.Core.List.{List, ◌++◌, append_assoc}
use Prim.Native.Nat.{ℕ, suc, ◌+◌, ◌≤◌, ◌<◌}
use native.Mathlib.Omega.{arith}
use borrow.Rule.Slice.PartMut.{put_mid}
use lib.ListN.{length, get_or, take, drop, length-append, length-drop, get_or-append}
use lib.Seq.{get_or-drop, take_all, take_at, drop_at, drop-drop, length-take-le}
use Rattle.octets.specs.Lists.{tab}
use Rattle.octets.specs.Bits.{bit}
use Rattle.octets.proofs.Front.{Front, front_start, front_done, front_piece}
use Rattle.des.specs.Prepared.{cipher_tables, c_of, d_of, shifts_to, shift_sums, twice_over, schedule_of, key_of, Prepared}
use Rattle.des.proofs.KeyLaws.{length-cc, length-dd, length-sums, length_twice, length_schedule, sum-at}
use Rattle.des.proofs.TableLaws.{length-cipher_tables}

-- behind two parts
behind : (a b rest : List ℕ) (n : ℕ) → length a + length b ≡ n → drop n (a ++ (b ++ rest)) ≡ rest
behind a b rest n l = ap (drop n) (sym (append_assoc a b rest)) ∙ drop_at (a ++ b) rest n (length-append a b ∙ l)

module _ (p : List ℕ) (w : Prepared p) where
  abbrev key : List ℕ
  key = tab (bit (key_of p)) 64

  sum : length p ≡ 896 + length (key_of p)
  sum =
      ap length w.parts ∙ length-append cipher_tables (key_of p ++ schedule_of key)
      ∙ omega (arith, length-cipher_tables, length-append (key_of p) (schedule_of key), length_schedule key)

  key_long : length (key_of p) ≡ 8
  unfolding key_of
  key_long = length-take-le 8 (drop 768 p) (omega (arith, length-drop 768 p, sum))

  pub length_prepared : length p ≡ 904
  length_prepared = omega (arith, sum, key_long)

  -- no part ends past the last sum
  pub within : {e : ℕ} → e ≤ 904 → e ≤ length p
  within h = omega (arith, length_prepared)

  -- what the keys of the rounds are read from stands behind the key
  in-schedule : (m : ℕ) → get_or p (776 + m) 0 ≡ get_or (schedule_of key) m 0
  in-schedule m =
      sym (get_or-drop 776 p m 0)
      ∙ ap (λ (x : List ℕ). get_or x m 0) (ap (drop 776) w.parts ∙ behind cipher_tables (key_of p) (schedule_of key) 776 (omega (arith, length-cipher_tables, key_long)))

  pub halves-at : (m : ℕ) → m < 112 → get_or p (776 + m) 0 ≡ get_or (twice_over key) m 0
  unfolding schedule_of
  halves-at m h = in-schedule m ∙ get_or-append (twice_over key) shift_sums 0 m (omega (arith, length_twice key))

  pub shifts_at : (n : ℕ) → n < 16 → get_or p (888 + n) 0 ≡ shifts_to (suc n)
  shifts_at n h = ap (λ (k : ℕ). get_or p k 0) (omega arith) ∙ in-schedule (112 + n) ∙ sum-at key n h

-- ---- the tables, a key and what its rounds' keys are read from, put one after the other

module _ (d key : List ℕ) (long : length d ≡ 904) (key_long : length key ≡ 8) where
  abbrev own : List ℕ
  own = schedule_of (tab (bit key) 64)

  abbrev all : List ℕ
  all = cipher_tables ++ (key ++ own)

  pub all_long : length all ≡ 904
  all_long =
      length-append cipher_tables (key ++ own)
      ∙ omega (arith, length-cipher_tables, length-append key own, length_schedule (tab (bit key) 64))

  put : (t x : List ℕ) (i n : ℕ) → Front all d t i → i + n ≤ 904 → x ≡ take n (drop i all) → Front all d (put_mid i n t x) (i + n)
  put t x i n f h e = front_piece all d t x i n f (omega (arith, all_long)) e

  key-stands : take 8 (drop 768 all) ≡ key
  key-stands = ap (take 8) (drop_at cipher_tables (key ++ own) 768 length-cipher_tables) ∙ take_at key own 8 key_long

  abbrev cc : List ℕ
  cc = c_of (tab (bit key) 64) ++ c_of (tab (bit key) 64)

  abbrev dd : List ℕ
  dd = d_of (tab (bit key) 64) ++ d_of (tab (bit key) 64)

  from-c : drop 776 all ≡ cc ++ (dd ++ shift_sums)
  unfolding schedule_of twice_over
  from-c = behind cipher_tables key own 776 (omega (arith, length-cipher_tables)) ∙ append_assoc cc dd shift_sums

  from-d : drop 832 all ≡ dd ++ shift_sums
  from-d = sym (drop-drop 56 776 all) ∙ ap (drop 56) from-c ∙ drop_at cc (dd ++ shift_sums) 56 (length-cc (tab (bit key) 64))

  from-sums : drop 888 all ≡ shift_sums
  from-sums = sym (drop-drop 56 832 all) ∙ ap (drop 56) from-d ∙ drop_at dd shift_sums 56 (length-dd (tab (bit key) 64))

  module _ (t : List ℕ) (is-t : t ≡ cipher_tables) where
    pub put-t : Front all d (put_mid 0 768 d t) 768
    put-t = put d t 0 768 (front_start all d (long ∙ sym all_long)) (omega arith) (is-t ∙ sym (take_at cipher_tables (key ++ own) 768 length-cipher_tables))

    module _ (k : List ℕ) (is-k : k ≡ key) where
      pub put-k : Front all d (put_mid 768 8 (put_mid 0 768 d t) k) 776
      put-k = put (put_mid 0 768 d t) k 768 8 put-t (omega arith) (is-k ∙ sym key-stands)

      module _ (x : List ℕ) (is_x : x ≡ cc) where
        pub put-c : Front all d (put_mid 776 56 (put_mid 768 8 (put_mid 0 768 d t) k) x) 832
        put-c = put (put_mid 768 8 (put_mid 0 768 d t) k) x 776 56 put-k (omega arith) (is_x ∙ sym (ap (take 56) from-c ∙ take_at cc (dd ++ shift_sums) 56 (length-cc (tab (bit key) 64))))

        module _ (y : List ℕ) (is_y : y ≡ dd) where
          pub put-d : Front all d (put_mid 832 56 (put_mid 776 56 (put_mid 768 8 (put_mid 0 768 d t) k) x) y) 888
          put-d = put (put_mid 776 56 (put_mid 768 8 (put_mid 0 768 d t) k) x) y 832 56 put-c (omega arith) (is_y ∙ sym (ap (take 56) from-d ∙ take_at dd shift_sums 56 (length-dd (tab (bit key) 64))))

          pub put_all : (z : List ℕ) → z ≡ shift_sums → (r : List ℕ) → r ≡ put_mid 888 16 (put_mid 832 56 (put_mid 776 56 (put_mid 768 8 (put_mid 0 768 d t) k) x) y) z
              → Prepared r × (key_of r ≡ key)
          unfolding key_of
          put_all z is-z r is-r =
              let e : r ≡ all =
              is-r ∙ front_done all d _ 904 (put (put_mid 832 56 (put_mid 776 56 (put_mid 768 8 (put_mid 0 768 d t) k) x) y) z 888 16 put-d (omega arith)
              (is-z ∙ sym (ap (take 16) from-sums ∙ take_all 16 shift_sums (omega (arith, length-sums))))) (omega (arith, all_long)) in
              let f : key_of r ≡ key = ap (λ (l : List ℕ). take 8 (drop 768 l)) e ∙ key-stands in
              (record { parts = rw f e }, f)
