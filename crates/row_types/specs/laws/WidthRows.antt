-- The rows that make words of another width: where what a call owes is true and that width is within its limit, there is
-- a value, and it is what the table says.
use Rattle.std.proofs.Common.{◌≡◌, ℕ, ◌+◌, ◌-◌, ◌*◌, ◌≤◌, Bool, true, false, List, [], ◌∷◌, ◌++◌, length, take}
use Rattle.std.proofs.Common.{replicate, ap, sym, ◌∙◌, refl, arith}
use Rattle.std.specs.Prelude.{ℤ, pos, negsuc, ◌+ℤ◌, ◌*ℤ◌, ◌≤ℤ◌, nat_le, nat_eq, int_le}
use Rattle.std.proofs.lemmas.Int.{ints}
use Rattle.std.proofs.lemmas.Bool.{le-leb, eq-eqb}
use Rattle.sail_base.specs.Bits.{bits_of_int, value_of, signed_of, copies, append_bits, top_bit, mul_wide_unsigned}
use Rattle.sail_base.specs.Bits.{mul_wide_signed, mul_wide_mixed}
use Rattle.sail_base.specs.laws.BitLaws.{length-bits_of}
use Rattle.sail_base.specs.laws.WordParts.{length-bits_of_int, length-copies, width-take, width-append, width-replicate}
use Rattle.sail_types.specs.Numbers.{Assignment, Positive, number}
use Rattle.sail_types.specs.Sums.{constant}
use Rattle.sail_types.specs.declared.numbers.Num.{Num}
use Rattle.sail_types.specs.declared.numbers.Con.{Con}
use Rattle.sail_types.specs.declared.rows.Row.TheVariants as R
use Rattle.sail_types.specs.declared.shapes.Shape.{Shape}
use Rattle.sail_types.specs.declared.values.Value.TheOpen as W
use Rattle.sail_types.proofs.Integers.{one_time}
use Rattle.builtins.specs.RowValues.{Bits, Opened, a_word, row_of, where_}
use Rattle.row_types.specs.declared.kinds.Outcome.TheVariants as O
use Rattle.row_types.specs.declared.kinds.Product.TheVariants as P
use Rattle.row_types.specs.Formulas.{first, second, product, times, plus_times, at_most, equal, as_wide}
use Rattle.row_types.specs.RowTypes.{under, wide, row_type}
use Rattle.row_types.specs.Calls.{variables, is_met, has_space, gives}
use Rattle.row_types.specs.laws.Formulas.{number_variable, number_times, number_plus_times, one_from, two_from}
use Rattle.row_types.specs.laws.Formulas.{at_least_from, up_to_from, variables_from, equal_from, le_from}
use Rattle.row_types.specs.laws.Results.{gives_where}
use Rattle.row_types.specs.laws.WordRows.{same_length, word_gives, length_wider}

-- the number of a wide product's width
twice : (w : ℕ) → pos 2 *ℤ pos w +ℤ pos 0 ≡ pos (2 * w)
twice w = omega (arith, ints)

both : (v w : ℕ) → (pos 1 *ℤ pos v +ℤ pos 1 *ℤ pos w) +ℤ pos 0 ≡ pos (v + w)
both v w = let p = one_time (pos v) in let q = one_time (pos w) in omega (arith, ints)

module _ (beyond : Num → Positive) where
  -- ---- words one behind the other

  pub append : (s : Shape) (b c : Bits) → let vs : Opened = W.Bits b ∷ W.Bits c ∷ [] in
      has_space beyond (row_type R.Append s) vs ≡ true
      → gives beyond (row_type R.Append s) vs (row_of R.Append vs) ≡ true
  append s b c room =
      let vs : Opened = W.Bits b ∷ W.Bits c ∷ [] in
      let nu = variables beyond P.Nothing vs (pos 0) in
      let mu = variables beyond P.Nothing vs (pos (length (append_bits b c))) in
      let t = plus_times 0 (pos 1) 1 (pos 0) in
      let l : length (append_bits b c) ≡ length b + length c = omega (arith, width-append c b) in
      let h = le_from (number nu t) (pos 128) room in
      let e : number nu t ≡ pos (length b + length c) = number_plus_times nu 0 (pos 1) 1 (pos 0)
      ∙ both (length b) (length c) in
      word_gives beyond P.Nothing [] t vs (append_bits b c)
      (number_plus_times mu 0 (pos 1) 1 (pos 0) ∙ both (length b) (length c) ∙ ap pos (sym l)) (omega (arith, ints))

  -- ---- as many bits as the first argument says

  said_gives : (conditions : List Con) (n : ℕ) (vs : Opened) (r : Bits) → length r ≡ n
      → number (variables beyond P.Nothing vs (pos (length r))) first ≡ pos n
      → n ≤ 128 → gives beyond (under conditions (O.Bits first)) vs (a_word r) ≡ true
  said_gives conditions n vs r e f h = word_gives beyond P.Nothing conditions first vs r (f ∙ ap pos (sym e))
      (omega (arith, ints))

  room_from : (n : ℕ) (nu : Assignment) → nu.int 0 ≡ pos n → int_le (number nu first) (pos 128) ≡ true → n ≤ 128
  room_from n nu e room =
      let h = le_from (number nu first) (pos 128) room in
      let f : number nu first ≡ pos n = number_variable nu 0 ∙ e in
      omega (arith, ints)

  pub zeros : (s : Shape) (i : ℤ) → let vs : Opened = W.Integer i ∷ [] in
      is_met beyond (row_type R.Zeros s) vs ≡ true → has_space beyond (row_type R.Zeros s) vs ≡ true
      → gives beyond (row_type R.Zeros s) vs (row_of R.Zeros vs) ≡ true
  zeros s (pos n) h room =
      let vs : Opened = W.Integer (pos n) ∷ [] in
      said_gives (at_most (constant (pos 0)) first ∷ []) n vs (replicate n false) (width-replicate n false)
      (number_variable (variables beyond P.Nothing vs (pos (length (replicate n false)))) 0)
      (room_from n (variables beyond P.Nothing vs (pos 0)) refl room)
  zeros s (negsuc n) h room =
      let nu = variables beyond P.Nothing (W.Integer (negsuc n) ∷ []) (pos 0) in
      let p = at_least_from nu (pos 0) 0 (one_from nu (at_most (constant (pos 0)) first) h) in
      absurd (omega (arith, ints))

  pub ones : (s : Shape) (i : ℤ) → let vs : Opened = W.Integer i ∷ [] in
      is_met beyond (row_type R.Ones s) vs ≡ true → has_space beyond (row_type R.Ones s) vs ≡ true
      → gives beyond (row_type R.Ones s) vs (row_of R.Ones vs) ≡ true
  ones s (pos n) h room =
      let vs : Opened = W.Integer (pos n) ∷ [] in
      said_gives (at_most (constant (pos 0)) first ∷ []) n vs (replicate n true) (width-replicate n true)
      (number_variable (variables beyond P.Nothing vs (pos (length (replicate n true)))) 0)
      (room_from n (variables beyond P.Nothing vs (pos 0)) refl room)
  ones s (negsuc n) h room =
      let nu = variables beyond P.Nothing (W.Integer (negsuc n) ∷ []) (pos 0) in
      let p = at_least_from nu (pos 0) 0 (one_from nu (at_most (constant (pos 0)) first) h) in
      absurd (omega (arith, ints))

  pub to_bits : (s : Shape) (i j : ℤ) → let vs : Opened = W.Integer i ∷ W.Integer j ∷ [] in
      is_met beyond (row_type R.ToBits s) vs ≡ true → has_space beyond (row_type R.ToBits s) vs ≡ true
      → gives beyond (row_type R.ToBits s) vs (row_of R.ToBits vs) ≡ true
  to_bits s (pos n) j h room =
      let vs : Opened = W.Integer (pos n) ∷ W.Integer j ∷ [] in
      said_gives (at_most (constant (pos 0)) first ∷ []) n vs (bits_of_int n j) (length-bits_of_int n j)
      (number_variable (variables beyond P.Nothing vs (pos (length (bits_of_int n j)))) 0)
      (room_from n (variables beyond P.Nothing vs (pos 0)) refl room)
  to_bits s (negsuc n) j h room =
      let nu = variables beyond P.Nothing (W.Integer (negsuc n) ∷ W.Integer j ∷ []) (pos 0) in
      let p = at_least_from nu (pos 0) 0 (one_from nu (at_most (constant (pos 0)) first) h) in
      absurd (omega (arith, ints))

  extends_from : (i : ℤ) (b : Bits)
      → is_met beyond (under (at_most second first ∷ []) (O.Bits first)) (W.Integer i ∷ W.Bits b ∷ []) ≡ true
      → pos (length b) ≤ℤ i
  extends_from i b h =
      let nu = variables beyond P.Nothing (W.Integer i ∷ W.Bits b ∷ []) (pos 0) in
      variables_from nu 1 0 (one_from nu (at_most second first) h)

  wider_gives : (n : ℕ) (b : Bits) (c : Bool) → length b ≤ n → n ≤ 128
      → let vs : Opened = W.Integer (pos n) ∷ W.Bits b ∷ [] in
      gives beyond (under (at_most second first ∷ []) (O.Bits first)) vs
      (where_ (nat_le (length b) n) (a_word (b ++ replicate (n - length b) c))) ≡ true
  wider_gives n b c h room =
      let vs : Opened = W.Integer (pos n) ∷ W.Bits b ∷ [] in
      let r : Bits = b ++ replicate (n - length b) c in
      gives_where beyond (under (at_most second first ∷ []) (O.Bits first)) vs (nat_le (length b) n) (a_word r)
      (le-leb (length b) n h)
      (said_gives (at_most second first ∷ []) n vs r (length_wider b n c h)
      (number_variable (variables beyond P.Nothing vs (pos (length r))) 0) room)

  pub zero_extend : (s : Shape) (i : ℤ) (b : Bits) → let vs : Opened = W.Integer i ∷ W.Bits b ∷ [] in
      is_met beyond (row_type R.ZeroExtend s) vs ≡ true → has_space beyond (row_type R.ZeroExtend s) vs ≡ true
      → gives beyond (row_type R.ZeroExtend s) vs (row_of R.ZeroExtend vs) ≡ true
  zero_extend s (pos n) b h room =
      let p = extends_from (pos n) b h in
      wider_gives n b false (omega (arith, ints))
      (room_from n (variables beyond P.Nothing (W.Integer (pos n) ∷ W.Bits b ∷ []) (pos 0)) refl room)
  zero_extend s (negsuc n) b h room = let p = extends_from (negsuc n) b h in absurd (omega (arith, ints))

  pub sign_extend : (s : Shape) (i : ℤ) (b : Bits) → let vs : Opened = W.Integer i ∷ W.Bits b ∷ [] in
      is_met beyond (row_type R.SignExtend s) vs ≡ true → has_space beyond (row_type R.SignExtend s) vs ≡ true
      → gives beyond (row_type R.SignExtend s) vs (row_of R.SignExtend vs) ≡ true
  sign_extend s (pos n) b h room =
      let p = extends_from (pos n) b h in
      wider_gives n b (top_bit b) (omega (arith, ints))
      (room_from n (variables beyond P.Nothing (W.Integer (pos n) ∷ W.Bits b ∷ []) (pos 0)) refl room)
  sign_extend s (negsuc n) b h room = let p = extends_from (negsuc n) b h in absurd (omega (arith, ints))

  -- ---- as many bits as the second argument says

  pub truncate : (s : Shape) (b : Bits) (i : ℤ) → let vs : Opened = W.Bits b ∷ W.Integer i ∷ [] in
      is_met beyond (row_type R.Truncate s) vs ≡ true → has_space beyond (row_type R.Truncate s) vs ≡ true
      → gives beyond (row_type R.Truncate s) vs (row_of R.Truncate vs) ≡ true
  truncate s b (pos n) h room =
      let vs : Opened = W.Bits b ∷ W.Integer (pos n) ∷ [] in
      let nu = variables beyond P.Nothing vs (pos 0) in
      let parts = two_from nu (at_most (constant (pos 0)) second) (at_most second first) h in
      let within : pos n ≤ℤ pos (length b) = variables_from nu 1 0 parts.1 in
      let l : length (take n b) ≡ n = omega (arith, ints, width-take n b) in
      let k = le_from (number nu second) (pos 128) room in
      let e : number nu second ≡ pos n = number_variable nu 1 in
      gives_where beyond (row_type R.Truncate s) vs (nat_le n (length b)) (a_word (take n b))
      (le-leb n (length b) (omega (arith, ints)))
      (word_gives beyond P.Nothing (at_most (constant (pos 0)) second ∷ at_most second first ∷ []) second vs
      (take n b)
      (number_variable (variables beyond P.Nothing vs (pos (length (take n b)))) 1 ∙ ap pos (sym l))
      (omega (arith, ints)))
  truncate s b (negsuc n) h room =
      let nu = variables beyond P.Nothing (W.Bits b ∷ W.Integer (negsuc n) ∷ []) (pos 0) in
      let p = at_least_from nu (pos 0) 1
      (two_from nu (at_most (constant (pos 0)) second) (at_most second first) h).0 in
      absurd (omega (arith, ints))

  -- ---- products

  pub replicate_bits : (s : Shape) (b : Bits) (i : ℤ) → let vs : Opened = W.Bits b ∷ W.Integer i ∷ [] in
      is_met beyond (row_type R.ReplicateBits s) vs ≡ true → has_space beyond (row_type R.ReplicateBits s) vs ≡ true
      → gives beyond (row_type R.ReplicateBits s) vs (row_of R.ReplicateBits vs) ≡ true
  replicate_bits s b (pos n) h room =
      let vs : Opened = W.Bits b ∷ W.Integer (pos n) ∷ [] in
      let nu = variables beyond P.OfArguments vs (pos 0) in
      let l : length (copies n b) ≡ length b * n = omega (arith, length-copies n b) in
      let k = le_from (number nu product) (pos 128) room in
      let e : number nu product ≡ pos (length b * n) = number_variable nu 4 in
      word_gives beyond P.OfArguments (at_most (constant (pos 0)) second ∷ []) product vs (copies n b)
      (number_variable (variables beyond P.OfArguments vs (pos (length (copies n b)))) 4 ∙ ap pos (sym l))
      (omega (arith, ints))
  replicate_bits s b (negsuc n) h room =
      let nu = variables beyond P.OfArguments (W.Bits b ∷ W.Integer (negsuc n) ∷ []) (pos 0) in
      let p = at_least_from nu (pos 0) 1 (one_from nu (at_most (constant (pos 0)) second) h) in
      absurd (omega (arith, ints))

  wide_gives : (b c r : Bits) → length r ≡ 2 * length b → let vs : Opened = W.Bits b ∷ W.Bits c ∷ [] in
      is_met beyond wide vs ≡ true → gives beyond wide vs (where_ (nat_eq (length b) (length c)) (a_word r)) ≡ true
  wide_gives b c r l h =
      let vs : Opened = W.Bits b ∷ W.Bits c ∷ [] in
      let nu = variables beyond P.Nothing vs (pos 0) in
      let mu = variables beyond P.Nothing vs (pos (length r)) in
      let parts = two_from nu (equal first second) (at_most first (constant (pos 64))) h in
      let same : length b ≡ length c = same_length (length b) (length c)
      (sym (number_variable nu 0) ∙ equal_from nu first second parts.0 ∙ number_variable nu 1) in
      let narrow : pos (length b) ≤ℤ pos 64 = up_to_from nu 0 (pos 64) parts.1 in
      gives_where beyond wide vs (nat_eq (length b) (length c)) (a_word r) (eq-eqb (length b) (length c) same)
      (word_gives beyond P.Nothing (as_wide ++ at_most first (constant (pos 64)) ∷ []) (times (pos 2) 0 (pos 0)) vs r
      (number_times mu (pos 2) 0 (pos 0) ∙ twice (length b) ∙ ap pos (sym l)) (omega (arith, ints)))

  pub mul_wide_uu : (s : Shape) (b c : Bits) → let vs : Opened = W.Bits b ∷ W.Bits c ∷ [] in
      is_met beyond (row_type R.MulWideUu s) vs ≡ true
      → gives beyond (row_type R.MulWideUu s) vs (row_of R.MulWideUu vs) ≡ true
  mul_wide_uu s b c h = wide_gives b c (mul_wide_unsigned b c)
      (length-bits_of (2 * length b) (value_of b * value_of c)) h

  pub mul_wide_ss : (s : Shape) (b c : Bits) → let vs : Opened = W.Bits b ∷ W.Bits c ∷ [] in
      is_met beyond (row_type R.MulWideSs s) vs ≡ true
      → gives beyond (row_type R.MulWideSs s) vs (row_of R.MulWideSs vs) ≡ true
  mul_wide_ss s b c h = wide_gives b c (mul_wide_signed b c)
      (length-bits_of_int (2 * length b) (signed_of b *ℤ signed_of c)) h

  pub mul_wide_su : (s : Shape) (b c : Bits) → let vs : Opened = W.Bits b ∷ W.Bits c ∷ [] in
      is_met beyond (row_type R.MulWideSu s) vs ≡ true
      → gives beyond (row_type R.MulWideSu s) vs (row_of R.MulWideSu vs) ≡ true
  mul_wide_su s b c h = wide_gives b c (mul_wide_mixed b c)
      (length-bits_of_int (2 * length b) (signed_of b *ℤ pos (value_of c))) h
