-- What is noted of a value, form by form.
use Rattle.std.proofs.Common.{◌≡◌, ◌∙◌, ℕ, zero, suc, ◌+◌, ◌<◌, ◌≤◌, Bool, true, false, List, [], ◌∷◌, ◌++◌, length, map, take, drop, get_or, Option}
use Rattle.std.proofs.Common.{Some, None}
use Rattle.std.proofs.Common.{refl, sym, ap, subst, arith, append_assoc, append-nil}
use Rattle.std.specs.Prelude.{ℤ, ◌||◌, is_some, slice_get}
use Rattle.std.proofs.lemmas.List.{drop_all, length-take-le, take-append-drop, take_more}
use Rattle.sail_types.specs.declared.numbers.Num.{Num}
use Rattle.value_indices.specs.declared.indices.Indices.{Indices, out-Indices, roll-Indices}
use Rattle.value_indices.specs.declared.indices.Indices.TheFolds.{fold-roll-Indices, ind-Indices, map-Indices}
use Rattle.value_indices.specs.declared.indices.Indices.TheOpen as W
use Rattle.value_indices.specs.declared.indices.Indices.TheOpen.{Indices-F, Reading-F}
use Rattle.value_indices.specs.declared.indices.Indices.TheVariants as V
use Rattle.value_indices.specs.declared.indices.Indices.TheViews.{roll-out-Indices}
use Rattle.value_indices.specs.declared.indices.Reading.{Reading, fold-Reading}
use Rattle.call_arguments.specs.Placing.{variable_in}
use Rattle.size_values.specs.declared.sized.Sized.{Sized, Sized-F, out-Sized, roll-Sized}
use Rattle.size_values.specs.declared.sized.Sized.TheOpen as Z
use Rattle.size_values.specs.declared.sized.Sized.TheVariants as S
use Rattle.size_values.specs.declared.sized.Sized.TheViews.{out-roll-Sized, roll-out-Sized}
use Rattle.jib.specs.declared.code.Source.{Source}
use Rattle.jib.specs.declared.code.Instruction.{Instruction}
use Rattle.lowered_pieces.specs.Arms.{Held, tuple_noted}
use Rattle.lowered_pieces.specs.Places.{Kit, Temp, from}
use Rattle.lowered_pieces.specs.Forms.{Noter, all_notes, form_noted, form_notes, joined, known_noted, noter_of, notes_of, number_noted}
use Rattle.lowered_pieces.specs.Forms.{part_noted, parts_noted}
use Rattle.lowered_steps.specs.Noting.{IsNoting, any_noting, each_noted, form_noting, is_any_noting, is_noting, part_taken, taken_where}

abbrev is_integer : Sized-F Sized → Bool
is_integer Z.Int = true
is_integer w = false

-- ---- forms

out_int : (s : Sized) → s ≡ S.Int → out-Sized s ≡ Z.Int
out_int s e = ap out-Sized (e ∙ sym S.rolls-Int) ∙ out-roll-Sized Z.Int

out_bits : (s : Sized) (n : ℤ) → s ≡ S.Bits n → out-Sized s ≡ Z.Bits n
out_bits s n e = ap out-Sized (e ∙ sym (S.rolls-Bits n)) ∙ out-roll-Sized (Z.Bits n)

out_vector : (s : Sized) (n : ℤ) (u : Sized) → s ≡ S.Vector n u → out-Sized s ≡ Z.Vector n u
out_vector s n u e = ap out-Sized (e ∙ sym (S.rolls-Vector n u)) ∙ out-roll-Sized (Z.Vector n u)

out_tuple : (s : Sized) (us : List Sized) → s ≡ S.Tuple us → out-Sized s ≡ Z.Tuple us
out_tuple s us e = ap out-Sized (e ∙ sym (S.rolls-Tuple us)) ∙ out-roll-Sized (Z.Tuple us)

module _ (kit : Kit) (number : Sized → ℕ) where
  abbrev Notes : Type 0
  Notes = Noter kit number

  abbrev value_noter : Indices-F Notes Notes → Notes
  value_noter i a s p = form_noted kit number i (out-Sized s) a p

  abbrev type_noter : Reading-F Notes Notes → Notes
  type_noter r a s p = []

  abbrev forms : Indices-F Indices Reading → Indices-F Notes Notes
  forms x = map-Indices Indices Reading Notes Notes (noter_of kit number) (fold-Reading Notes Notes value_noter type_noter) x

  noter_is : (i : Indices) (x : Indices-F Indices Reading) → i ≡ roll-Indices x → (a : Source) (s : Sized) (p : ℕ)
      → noter_of kit number i a s p ≡ form_noted kit number (forms x) (out-Sized s) a p
  noter_is i x e a s p =
      ap (λ (j : Indices). noter_of kit number j a s p) e
      ∙ ap (λ (f : Notes). f a s p) (fold-roll-Indices Notes Notes value_noter type_noter x)

  pub integer_noted : (i : Indices) (t : Num) → i ≡ V.Integer t → (a : Source) (s : Sized) (p : ℕ)
      → noter_of kit number i a s p ≡ number_noted kit number (variable_in t) (out-Sized s) a
  integer_noted i t e a s p = noter_is i (W.Integer t) (e ∙ sym (V.rolls-Integer t)) a s p

  pub bits_noted : (i : Indices) (t : Num) → i ≡ V.Bits t → (a : Source) (s : Sized) (n : ℤ) → s ≡ S.Bits n → (p : ℕ)
      → noter_of kit number i a s p ≡ known_noted kit number (variable_in t) n
  bits_noted i t e a s n h p =
      noter_is i (W.Bits t) (e ∙ sym (V.rolls-Bits t)) a s p ∙ ap (λ w. form_noted kit number (forms (W.Bits t)) w a p) (out_bits s n h)

  pub vector_noted : (i : Indices) (t : Num) (r : Reading) → i ≡ V.Vector t r → (a : Source) (s : Sized) (n : ℤ) (u : Sized) → s ≡ S.Vector n u → (p : ℕ)
      → noter_of kit number i a s p ≡ known_noted kit number (variable_in t) n
  vector_noted i t r e a s n u h p =
      noter_is i (W.Vector t r) (e ∙ sym (V.rolls-Vector t r)) a s p ∙ ap (λ w. form_noted kit number (forms (W.Vector t r)) w a p) (out_vector s n u h)

  pub parts_are_noted : (i : Indices) (is : List Indices) → i ≡ V.Tuple is → (a : Source) (s : Sized) (us : List Sized) → s ≡ S.Tuple us → (p : ℕ)
      → noter_of kit number i a s p ≡ each_noted kit number is us a p
  parts_are_noted i is e a s us h p =
      noter_is i (W.Tuple is) (e ∙ sym (V.rolls-Tuple is)) a s p ∙ ap (λ w. form_noted kit number (forms (W.Tuple is)) w a p) (out_tuple s us h)

  -- ---- where nothing is noted

  nothing_of : {X : Type 0} (w : Sized-F Sized) (s : Sized) → out-Sized s ≡ w → (v : Sized) → v ≡ roll-Sized w → (s ≡ v → ⊥) → X
  nothing_of w s e v r ne = absurd (ne (sym (roll-out-Sized s) ∙ ap roll-Sized e ∙ sym r))

  pub no_integer : (o : Option ℕ) (s : Sized) → (s ≡ S.Int → ⊥) → (a : Source) → number_noted kit number o (out-Sized s) a ≡ []
  no_integer None s ne a = refl
  no_integer (Some x) s ne a = by (out-Sized s) refl
    where
      by : (w : Sized-F Sized) → out-Sized s ≡ w → number_noted kit number (Some x) w a ≡ []
      by Z.Int e = nothing_of Z.Int s e S.Int (sym S.rolls-Int) ne
      by w e = refl

  pub no_bits : (i : Indices) (t : Num) → i ≡ V.Bits t → (s : Sized) → ((n : ℤ) → s ≡ S.Bits n → ⊥) → (a : Source) (p : ℕ)
      → noter_of kit number i a s p ≡ []
  no_bits i t h s ne a p = noter_is i (W.Bits t) (h ∙ sym (V.rolls-Bits t)) a s p ∙ by (out-Sized s) refl
    where
      by : (w : Sized-F Sized) → out-Sized s ≡ w → form_noted kit number (forms (W.Bits t)) w a p ≡ []
      by (Z.Bits n) e = nothing_of (Z.Bits n) s e (S.Bits n) (sym (S.rolls-Bits n)) (ne n)
      by w e = refl

  pub no_vector : (i : Indices) (t : Num) (r : Reading) → i ≡ V.Vector t r → (s : Sized) → ((n : ℤ) (u : Sized) → s ≡ S.Vector n u → ⊥)
      → (a : Source) (p : ℕ) → noter_of kit number i a s p ≡ []
  no_vector i t r h s ne a p = noter_is i (W.Vector t r) (h ∙ sym (V.rolls-Vector t r)) a s p ∙ by (out-Sized s) refl
    where
      by : (w : Sized-F Sized) → out-Sized s ≡ w → form_noted kit number (forms (W.Vector t r)) w a p ≡ []
      by (Z.Vector n u) e = nothing_of (Z.Vector n u) s e (S.Vector n u) (sym (S.rolls-Vector n u)) (ne n u)
      by w e = refl

  pub no_tuple : (i : Indices) (is : List Indices) → i ≡ V.Tuple is → (s : Sized) → ((us : List Sized) → s ≡ S.Tuple us → ⊥)
      → (a : Source) (p : ℕ) → noter_of kit number i a s p ≡ []
  no_tuple i is h s ne a p = noter_is i (W.Tuple is) (h ∙ sym (V.rolls-Tuple is)) a s p ∙ by (out-Sized s) refl
    where
      by : (w : Sized-F Sized) → out-Sized s ≡ w → form_noted kit number (forms (W.Tuple is)) w a p ≡ []
      by (Z.Tuple us) e = nothing_of (Z.Tuple us) s e (S.Tuple us) (sym (S.rolls-Tuple us)) (ne us)
      by w e = refl

  pub no_form : (i : Indices) → ((t : Num) → i ≡ V.Integer t → ⊥) → ((t : Num) → i ≡ V.Bits t → ⊥) → ((t : Num) (r : Reading) → i ≡ V.Vector t r → ⊥)
      → ((is : List Indices) → i ≡ V.Tuple is → ⊥) → (a : Source) (s : Sized) (p : ℕ) → noter_of kit number i a s p ≡ []
  no_form i integer bits vector tuple a s p = noter_is i (out-Indices i) (sym (roll-out-Indices i)) a s p ∙ by (out-Indices i) refl
    where
      at : (x : Indices-F Indices Reading) → out-Indices i ≡ x → (v : Indices) → v ≡ roll-Indices x → i ≡ v
      at x e v r = sym (roll-out-Indices i) ∙ ap roll-Indices e ∙ sym r

      by : (x : Indices-F Indices Reading) → out-Indices i ≡ x → form_noted kit number (forms x) (out-Sized s) a p ≡ []
      by (W.Integer t) e = absurd (integer t (at (W.Integer t) e (V.Integer t) (sym (V.rolls-Integer t))))
      by (W.Bits t) e = absurd (bits t (at (W.Bits t) e (V.Bits t) (sym (V.rolls-Bits t))))
      by (W.Vector t r) e = absurd (vector t r (at (W.Vector t r) e (V.Vector t r) (sym (V.rolls-Vector t r))))
      by (W.Tuple is) e = absurd (tuple is (at (W.Tuple is) e (V.Tuple is) (sym (V.rolls-Tuple is))))
      by x e = refl

  -- ---- parts, one by one

  abbrev codes : List Indices → List Notes
  codes is = map (noter_of kit number) is

  -- what is noted of the part at a place
  abbrev part_code : Indices → Sized → ℕ → Source → ℕ → List Instruction
  part_code i s j a p = part_noted kit number (part_taken kit number s j a p) (noter_of kit number i (from kit (Temp p) (number s)) s (p + 1))

  none_is : {A X : Type 0} (x : A) → None ≡ Some x → X
  none_is x e = cc

  some_same : {A : Type 0} (x y : A) → Some x ≡ Some y → x ≡ y
  some_same x y e = cc

  parts_more : (is : List Indices) (i : Indices) (us : List Sized) (s : Sized) (j : ℕ) (a : Source) (p : ℕ) → slice_get us (length is) ≡ Some s
      → parts_noted kit number (codes (is ++ i ∷ [])) us j a p ≡ parts_noted kit number (codes is) us j a p ++ part_code i s (j + length is) a p
  parts_more [] i [] s j a p h = none_is s h
  parts_more [] i (u ∷ us) s j a p h =
      append-nil (part_code i u j a p) ∙ ap (λ v. part_code i v j a p) (some_same u s h) ∙ ap (λ k. part_code i s k a p) (none j)
    where
      none : (k : ℕ) → k ≡ k + 0
      none k = omega arith
  parts_more (k ∷ is) i [] s j a p h = none_is s h
  parts_more (k ∷ is) i (u ∷ us) s j a p h =
      ap (λ xs. part_code k u j a p ++ xs) (parts_more is i us s (j + 1) a p h)
      ∙ sym (append_assoc (part_code k u j a p) (parts_noted kit number (codes is) us (j + 1) a p) (part_code i s (j + 1 + length is) a p))
      ∙ ap (λ n. (part_code k u j a p ++ parts_noted kit number (codes is) us (j + 1) a p) ++ part_code i s n a p) (one j (length is))
    where
      one : (m n : ℕ) → m + 1 + n ≡ m + suc n
      one m n = omega arith

  -- there are no more types
  parts_done : (is ks : List Indices) (us : List Sized) (j : ℕ) (a : Source) (p : ℕ) → length us ≤ length is
      → parts_noted kit number (codes (is ++ ks)) us j a p ≡ parts_noted kit number (codes is) us j a p
  parts_done [] [] [] j a p le = refl
  parts_done [] (k ∷ ks) [] j a p le = refl
  parts_done [] ks (u ∷ us) j a p le = absurd (omega arith)
  parts_done (i ∷ is) ks [] j a p le = refl
  parts_done (i ∷ is) ks (u ∷ us) j a p le = ap (λ xs. part_code i u j a p ++ xs) (parts_done is ks us (j + 1) a p (omega (arith, le)))

  -- ---- whether something is noted

  abbrev is_code : List Instruction → Bool
  is_code [] = false
  is_code (i ∷ is) = true

  Shows : Indices → Type 0
  Shows i = (a : Source) (s : Sized) (p : ℕ) → is_noting i s ≡ is_code (noter_of kit number i a s p)

  abbrev SuchI : Type 0
  SuchI = (i : Indices) × Shows i

  abbrev SuchR : Type 0
  SuchR = (r : Reading) × Unit {0}

  abbrev indices_of : Indices-F SuchI SuchR → Indices-F Indices Reading
  indices_of y = map-Indices SuchI SuchR Indices Reading (λ q. q.0) (λ q. q.0) y

  abbrev bare : List SuchI → List Indices
  bare ys = map (λ (y : SuchI). y.0) ys

  is_both : (xs ys : List Instruction) → (is_code xs || is_code ys) ≡ is_code (xs ++ ys)
  is_both [] ys = refl
  is_both (x ∷ xs) ys = refl

  is_part : (take : Instruction) (xs : List Instruction) → is_code xs ≡ is_code (part_noted kit number take xs)
  is_part take [] = refl
  is_part take (x ∷ xs) = refl

  parts_show : (ys : List SuchI) (us : List Sized) (j : ℕ) (a : Source) (p : ℕ)
      → any_noting (map is_noting (bare ys)) us ≡ is_code (parts_noted kit number (codes (bare ys)) us j a p)
  unfolding Shows
  parts_show [] us j a p = refl
  parts_show (y ∷ ys) [] j a p = refl
  parts_show (y ∷ ys) (u ∷ us) j a p =
      ap (λ b. b || any_noting (map is_noting (bare ys)) us)
      (y.1 (from kit (Temp p) (number u)) u (p + 1)
      ∙ is_part (part_taken kit number u j a p) (noter_of kit number y.0 (from kit (Temp p) (number u)) u (p + 1)))
      ∙ ap (λ b. is_code (part_code y.0 u j a p) || b) (parts_show ys us (j + 1) a p)
      ∙ is_both (part_code y.0 u j a p) (parts_noted kit number (codes (bare ys)) us (j + 1) a p)

  abbrev shows_in : Indices-F Indices Reading → IsNoting
  shows_in x s =
      form_noting (map-Indices Indices Reading IsNoting IsNoting is_noting
      (fold-Reading IsNoting IsNoting (λ i t. form_noting i (out-Sized t)) (λ (r : Reading-F IsNoting IsNoting) t. false)) x) (out-Sized s)

  number_shows : (o : Option ℕ) (a : Source) → is_some o ≡ is_code (number_noted kit number o Z.Int a)
  number_shows None a = refl
  number_shows (Some x) a = refl

  known_shows : (o : Option ℕ) (n : ℤ) → is_some o ≡ is_code (known_noted kit number o n)
  known_shows None n = refl
  known_shows (Some x) n = refl

  none_shows : (o : Option ℕ) (w : Sized-F Sized) (a : Source) → is_integer w ≡ false → false ≡ is_code (number_noted kit number o w a)
  none_shows None w a h = refl
  none_shows (Some x) Z.Int a h = cc
  none_shows (Some x) w a h = refl

  form_shows : (y : Indices-F SuchI SuchR) (a : Source) (s : Sized) (p : ℕ)
      → shows_in (indices_of y) s ≡ is_code (form_noted kit number (forms (indices_of y)) (out-Sized s) a p)
  form_shows y a s p = by y (out-Sized s)
    where
      by : (z : Indices-F SuchI SuchR) (w : Sized-F Sized)
          → form_noting (map-Indices Indices Reading IsNoting IsNoting is_noting
          (fold-Reading IsNoting IsNoting (λ i t. form_noting i (out-Sized t)) (λ (r : Reading-F IsNoting IsNoting) t. false)) (indices_of z)) w
          ≡ is_code (form_noted kit number (forms (indices_of z)) w a p)
      by (W.Integer t) Z.Int = number_shows (variable_in t) a
      by (W.Integer t) w = none_shows (variable_in t) w a refl
      by (W.Bits t) (Z.Bits n) = known_shows (variable_in t) n
      by (W.Vector t r) (Z.Vector n u) = known_shows (variable_in t) n
      by (W.Tuple ys) (Z.Tuple us) = parts_show ys us 0 a p
      by z w = refl

  shown : (y : Indices-F SuchI SuchR) → Shows (roll-Indices (indices_of y))
  unfolding Shows
  shown y a s p =
      ap (λ (f : IsNoting). f s) (fold-roll-Indices IsNoting IsNoting (λ i t. form_noting i (out-Sized t)) (λ (r : Reading-F IsNoting IsNoting) t. false)
      (indices_of y))
      ∙ form_shows y a s p ∙ ap (λ c. is_code c) (sym (noter_is (roll-Indices (indices_of y)) (indices_of y) refl a s p))

  all_show : (i : Indices) → Shows i
  all_show = ind-Indices Shows (λ r. Unit {0}) (λ e y same. subst (λ d. Shows (roll-Indices d)) same (shown y)) (λ e y same. tt)

  pub gives_some : (i : Indices) (s : Sized) (j : ℕ) (a : Source) (p : ℕ) → is_noting i s ≡ true
      → part_code i s j a p ≡ part_taken kit number s j a p ∷ noter_of kit number i (from kit (Temp p) (number s)) s (p + 1)
  unfolding Shows
  gives_some i s j a p h = by (noter_of kit number i (from kit (Temp p) (number s)) s (p + 1)) (sym h ∙ all_show i (from kit (Temp p) (number s)) s (p + 1))
    where
      by : (c : List Instruction) → true ≡ is_code c → part_noted kit number (part_taken kit number s j a p) c ≡ part_taken kit number s j a p ∷ c
      by [] e = cc
      by (x ∷ xs) e = refl

  pub gives_none : (i : Indices) (s : Sized) (j : ℕ) (a : Source) (p : ℕ) → is_noting i s ≡ false → part_code i s j a p ≡ []
  unfolding Shows
  gives_none i s j a p h = by (noter_of kit number i (from kit (Temp p) (number s)) s (p + 1)) (sym h ∙ all_show i (from kit (Temp p) (number s)) s (p + 1))
    where
      by : (c : List Instruction) → false ≡ is_code c → part_noted kit number (part_taken kit number s j a p) c ≡ []
      by [] e = refl
      by (x ∷ xs) e = cc

  part_whole : (i : Indices) (s : Sized) (j : ℕ) (a : Source) (p : ℕ)
      → part_code i s j a p ≡ taken_where kit number (is_noting i s) s j a p ++ noter_of kit number i (from kit (Temp p) (number s)) s (p + 1)
  unfolding Shows
  part_whole i s j a p =
      by (noter_of kit number i (from kit (Temp p) (number s)) s (p + 1)) (is_noting i s) (all_show i (from kit (Temp p) (number s)) s (p + 1))
    where
      by : (c : List Instruction) (b : Bool) → b ≡ is_code c
          → part_noted kit number (part_taken kit number s j a p) c ≡ taken_where kit number b s j a p ++ c
      by [] true e = cc
      by [] false e = refl
      by (x ∷ xs) true e = refl
      by (x ∷ xs) false e = cc

  -- along the parts
  pub each_more : (is : List Indices) (us : List Sized) (k : ℕ) (i : Indices) (s : Sized) (a : Source) (p : ℕ) → k < length is → i ≡ get_or is k i
      → slice_get us k ≡ Some s
      → each_noted kit number (take (k + 1) is) us a p
      ≡ each_noted kit number (take k is) us a p
      ++ (taken_where kit number (is_noting i s) s k a p ++ noter_of kit number i (from kit (Temp p) (number s)) s (p + 1))
  each_more is us k i s a p within at got =
      let n : length (take k is) ≡ k = length-take-le k is (omega (arith, within)) in
      ap (λ xs. each_noted kit number xs us a p) (take_more is k i within ∙ ap (λ y. take k is ++ y ∷ []) (sym at))
      ∙ parts_more (take k is) i us s 0 a p (ap (slice_get us) n ∙ got)
      ∙ ap (λ m. each_noted kit number (take k is) us a p ++ part_code i s m a p) (none (length (take k is)) ∙ n)
      ∙ ap (λ c. each_noted kit number (take k is) us a p ++ c) (part_whole i s k a p)
    where
      none : (m : ℕ) → 0 + m ≡ m
      none m = omega arith

  none_more : {A : Type 0} (xs : List A) (k : ℕ) → slice_get xs k ≡ None → length xs ≤ k
  none_more [] k e = omega arith
  none_more (x ∷ xs) zero e = cc
  none_more (x ∷ xs) (suc k) e = omega (arith, none_more xs k e)

  pub each_done : (is : List Indices) (us : List Sized) (k : ℕ) (a : Source) (p : ℕ) → k ≤ length is → slice_get us k ≡ None
      → each_noted kit number (take k is) us a p ≡ each_noted kit number is us a p
  each_done is us k a p within none =
      let n : length (take k is) ≡ k = length-take-le k is within in
      sym (parts_done (take k is) (drop k is) us 0 a p (omega (arith, n, none_more us k none)))
      ∙ ap (λ xs. each_noted kit number xs us a p) (take-append-drop k is)

  pub each_whole : (is : List Indices) (us : List Sized) (k : ℕ) (a : Source) (p : ℕ) → length is ≤ k
      → each_noted kit number (take k is) us a p ≡ each_noted kit number is us a p
  each_whole is us k a p past = ap (λ xs. each_noted kit number xs us a p) (all_taken is k past)
    where
      all_taken : (xs : List Indices) (m : ℕ) → length xs ≤ m → take m xs ≡ xs
      all_taken [] zero le = refl
      all_taken [] (suc m) le = refl
      all_taken (x ∷ xs) zero le = absurd (omega arith)
      all_taken (x ∷ xs) (suc m) le = ap (λ ys. x ∷ ys) (all_taken xs m (omega (arith, le)))

-- what is no tuple notes nothing of the values of an arm
pub no_parts : (kit : Kit) (i : Indices) → ((is : List Indices) → i ≡ V.Tuple is → ⊥) → (hs : List Held) (p : ℕ) → tuple_noted kit (out-Indices i) hs p ≡ []
no_parts kit i tuple hs p = by (out-Indices i) refl
  where
    by : (x : Indices-F Indices Reading) → out-Indices i ≡ x → tuple_noted kit x hs p ≡ []
    by (W.Tuple is) e = absurd (tuple is (sym (roll-out-Indices i) ∙ ap roll-Indices e ∙ V.rolls-Tuple is))
    by x e = refl

-- ---- what a tuple gives

any_same : (is : List Indices) (us : List Sized) → any_noting (map is_noting is) us ≡ is_any_noting is us
any_same [] us = refl
any_same (i ∷ is) [] = refl
any_same (i ∷ is) (u ∷ us) = ap (λ b. is_noting i u || b) (any_same is us)

pub tuple_noting : (i : Indices) (is : List Indices) → i ≡ V.Tuple is → (s : Sized) (us : List Sized) → s ≡ S.Tuple us → is_noting i s ≡ is_any_noting is us
tuple_noting i is e s us h =
    ap (λ (j : Indices). is_noting j s) (e ∙ sym (V.rolls-Tuple is))
    ∙ ap (λ (f : IsNoting). f s) (fold-roll-Indices IsNoting IsNoting (λ j t. form_noting j (out-Sized t)) (λ (r : Reading-F IsNoting IsNoting) t. false)
    (W.Tuple is))
    ∙ ap (λ w. form_noting (W.Tuple (map is_noting is)) w) (out_tuple s us h) ∙ any_same is us

no_types : (is : List Indices) → false ≡ is_any_noting is []
no_types [] = refl
no_types (i ∷ is) = refl

pub any_done : (is : List Indices) (us : List Sized) (k : ℕ) → length us ≤ k → false ≡ is_any_noting (drop k is) (drop k us)
any_done is us k past = no_types (drop k is) ∙ ap (λ vs. is_any_noting (drop k is) vs) (sym (drop_all k us past))

all_joined : (is : List Indices) → joined (map notes_of is) ≡ all_notes is
all_joined [] = refl
all_joined (i ∷ is) = ap (λ ns. notes_of i ++ ns) (all_joined is)

pub tuple_notes : (i : Indices) (is : List Indices) → i ≡ V.Tuple is → notes_of i ≡ all_notes is
tuple_notes i is e =
    ap notes_of (e ∙ sym (V.rolls-Tuple is))
    ∙ fold-roll-Indices (List ℕ) (List ℕ) form_notes (λ (r : Reading-F (List ℕ) (List ℕ)). []) (W.Tuple is) ∙ all_joined is

all_both : (is ks : List Indices) → all_notes (is ++ ks) ≡ all_notes is ++ all_notes ks
all_both [] ks = refl
all_both (i ∷ is) ks = ap (λ ns. notes_of i ++ ns) (all_both is ks) ∙ sym (append_assoc (notes_of i) (all_notes is) (all_notes ks))

pub notes_more : (is : List Indices) (k : ℕ) (i : Indices) → k < length is → i ≡ get_or is k i
    → all_notes (take (k + 1) is) ≡ all_notes (take k is) ++ notes_of i
notes_more is k i within at =
    ap all_notes (take_more is k i within ∙ ap (λ y. take k is ++ y ∷ []) (sym at)) ∙ all_both (take k is) (i ∷ [])
    ∙ ap (λ ns. all_notes (take k is) ++ ns) (append-nil (notes_of i))
