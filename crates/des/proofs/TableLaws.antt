-- The tables of a block: each stands where the code looks for it, and where it is put.
use mathlib.Core.Path.{◌≡◌, refl, sym, ◌∙◌}
use mathlib.Core.List.{List, [], ◌++◌, append-nil}
use Prim.Native.Nat.{ℕ, ◌+◌, ◌≤◌}
use native.Mathlib.Omega.{arith}
use borrow.Rule.Slice.PartMut.{put_mid}
use lib.ListN.{length, take, drop}
use Rattle.octets.proofs.Front.{Front, front_start, front_done, front_piece}
use Rattle.des.specs.Tables.{ip, ip⁻¹, table_e, table_p, pc_2, table_s}
use Rattle.des.specs.Prepared.{cipher_tables}

pub length_boxes : length table_s ≡ 512
unfolding table_s
length_boxes = refl

pub length-cipher_tables : length cipher_tables ≡ 768
unfolding cipher_tables ip table_e table_p table_s ip⁻¹ pc_2
length-cipher_tables = refl

-- where each is looked for, in a list that begins with them
module _ (t rest : List ℕ) (e : t ≡ cipher_tables ++ rest) where
  pub ip_part : take 64 (drop 0 t) ≡ ip
  unfolding cipher_tables ip
  ip_part = rw e

  pub e_part : take 48 (drop 64 t) ≡ table_e
  unfolding cipher_tables ip table_e
  e_part = rw e

  pub p_part : take 32 (drop 112 t) ≡ table_p
  unfolding cipher_tables ip table_e table_p
  p_part = rw e

  pub s_part : take 512 (drop 144 t) ≡ table_s
  unfolding cipher_tables ip table_e table_p table_s
  s_part = rw e

  pub inverse_part : take 64 (drop 656 t) ≡ ip⁻¹
  unfolding cipher_tables ip table_e table_p table_s ip⁻¹
  inverse_part = rw e

  choice-part : take 48 (drop 720 t) ≡ pc_2
  unfolding cipher_tables ip table_e table_p table_s ip⁻¹ pc_2
  choice-part = rw e

  pub c_part : take 24 (drop 720 t) ≡ take 24 pc_2
  unfolding cipher_tables ip table_e table_p table_s ip⁻¹ pc_2
  c_part = rw e

  pub d_part : take 24 (drop 744 t) ≡ drop 24 pc_2
  unfolding cipher_tables ip table_e table_p table_s ip⁻¹ pc_2
  d_part = rw e

-- where each is put
tables_alone : cipher_tables ≡ cipher_tables ++ []
tables_alone = sym (append-nil cipher_tables)

module _ (d initial e p s inverse choice : List ℕ) (long : length d ≡ 768) (is-ip : initial ≡ ip) (is-e : e ≡ table_e) (is-p : p ≡ table_p) (is-s : s ≡ table_s) (is_inverse : inverse ≡ ip⁻¹)
    (is-choice : choice ≡ pc_2) where
  put : (t x : List ℕ) (i n : ℕ) → Front cipher_tables d t i → i + n ≤ 768 → x ≡ take n (drop i cipher_tables) → Front cipher_tables d (put_mid i n t x) (i + n)
  put t x i n f h q = front_piece cipher_tables d t x i n f (omega (arith, length-cipher_tables)) q

  pub all-put : put_mid 720 48 (put_mid 656 64 (put_mid 144 512 (put_mid 112 32 (put_mid 64 48 (put_mid 0 64 d initial) e) p) s) inverse) choice ≡ cipher_tables
  all-put =
      let f₀ = front_start cipher_tables d (long ∙ sym length-cipher_tables) in
      let f₁ = put d initial 0 64 f₀ (omega arith) (is-ip ∙ sym (ip_part cipher_tables [] tables_alone)) in
      let f₂ = put _ e 64 48 f₁ (omega arith) (is-e ∙ sym (e_part cipher_tables [] tables_alone)) in
      let f₃ = put _ p 112 32 f₂ (omega arith) (is-p ∙ sym (p_part cipher_tables [] tables_alone)) in
      let f₄ = put _ s 144 512 f₃ (omega arith) (is-s ∙ sym (s_part cipher_tables [] tables_alone)) in
      let f₅ = put _ inverse 656 64 f₄ (omega arith) (is_inverse ∙ sym (inverse_part cipher_tables [] tables_alone)) in
      let f₆ = put _ choice 720 48 f₅ (omega arith) (is-choice ∙ sym (choice-part cipher_tables [] tables_alone)) in
      front_done cipher_tables d _ 768 f₆ (omega (arith, length-cipher_tables))
