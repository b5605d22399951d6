-- What is found without refusal: widths and lengths of indices are within their limits, instances stand in the list, and each note is read.
use Rattle.std.proofs.Common.{◌≡◌, ◌∙◌, ap, sym, refl, subst, ℕ, zero, suc, nat_eq, ℤ, pos, ◌≤ℤ◌, int_le, Bool, true, false, ◌||◌, ◌⊎◌, inl, inr, List, [], ◌∷◌}
use Rattle.std.proofs.Common.{map, Option, Some, None, if◌then◌else◌, arith}
use Rattle.std.specs.Prelude.{drop, is_some, not, take}
use Rattle.std.specs.List.{list_any}
use Rattle.std.proofs.lemmas.Bool.{and_parts}
use Rattle.std.proofs.lemmas.Bool.Decides.{Decides-eqb}
use Rattle.std.proofs.lemmas.Int.{ints}
use Rattle.sail_types.specs.Limits.{largest}
use Rattle.sail_types.specs.declared.numbers.Index.{Index}
use Rattle.sail_types.specs.declared.numbers.Index.TheVariants as N
use Rattle.sail_types.specs.declared.numbers.Num.{Num}
use Rattle.sail_types.specs.declared.table.Types.{Types}
use Rattle.sail_types.proofs.SumNumbers.{some_same}
use Rattle.value_indices.specs.Steps.{Note}
use Rattle.value_indices.specs.declared.indices.Indices.{Indices, out-Indices, roll-Indices}
use Rattle.value_indices.specs.declared.indices.Indices.TheFolds.{fold-roll-Indices, map-Indices}
use Rattle.value_indices.specs.declared.indices.Indices.TheOpen as W
use Rattle.value_indices.specs.declared.indices.Indices.TheOpen.{Indices-F}
use Rattle.value_indices.specs.declared.indices.Indices.TheViews.{roll-out-Indices}
use Rattle.value_indices.specs.declared.indices.Reading.{Reading}
use Rattle.value_laws.proofs.Basics.{no, two}
use Rattle.size_values.specs.declared.constants.Constant.{Constant}
use Rattle.size_values.specs.declared.constants.Constant.TheVariants as C
use Rattle.size_values.specs.declared.sizes.Size.{Size}
use Rattle.size_values.specs.Numbers.{constant_under, first_free, index_under, is_free, number_in, unless_free, value_of}
use Rattle.size_values.specs.Sizes.{form_reading_sizes, indices_sizes, reading_sizes, value_sizes}
use Rattle.size_laws.proofs.Numbers.{within_known}
use Rattle.hanging_sizes.proofs.Numbers.{free_there}
use Rattle.size_splits.specs.Sizing.{first_named, indices_where}
use Rattle.split_laws.specs.Counted.{IsIn}
use Rattle.split_laws.proofs.Domains.{le_true}
use Rattle.monomorph.specs.declared.found.Found.{Found}
use Rattle.monomorph.specs.declared.found.Found.TheVariants as F
use Rattle.sized_nodes.specs.declared.trees.Instance.{Instance}
use Rattle.monomorph.specs.Found.{found_eq, instance_eq, instances_in}
use Rattle.monomorph.specs.Reading.{Inside}
use Rattle.sized_trees.specs.Cases.{place_from}
use Rattle.sized_trees.specs.Within.{all_within, number_within}
use Rattle.told_sizes.specs.Exact.{is_exact}
use Rattle.exact_sizes.proofs.Known.{number_constant_is}
use Rattle.covering_laws.specs.Closed.{IsAmong, NoteIsRead, NotesAreRead, all_given, is_given}
use Rattle.covering_laws.proofs.KindsGiven.{are_nums}
use Rattle.covering_laws.specs.Tested.{form_in_limit, in_limit}
use Rattle.tabled_cores.specs.Notes.{numbers_pass}

-- ---- a width or length that is a constant within its limit is a number for certain: none past the largest integer is on the way

module _ (types : Types) (of : ℕ → Constant) where
  number_in_limit : (n : ℕ) → pos n ≤ℤ pos 4096 → (t : Num) → number_within n (constant_under of t) ≡ true → in_limit n (value_of of t) ≡ true
  number_in_limit n few t h = by (constant_under of t) refl h
    where
      by : (c : Constant) → constant_under of t ≡ c → number_within n c ≡ true → in_limit n (value_of of t) ≡ true
      by (C.Number z) e k =
          let p = and_parts (int_le (pos 0) z) (int_le z (pos n)) k in
          let most : z ≤ℤ pos n = le_true z (pos n) p.1 in
          let known = within_known of t z e (omega (arith, ints, few, most)) in
          let same : known.0 ≡ z = some_same known.0 z (ap number_in (sym (number_constant_is of t known.0 known.1) ∙ e)) in
          ap (in_limit n) (known.1 ∙ ap (λ (y : ℤ). Some y) same) ∙ k
      by (C.Open v) e k = no k
      by (C.Bound name) e k = no k

  sizes_are : (x : Indices-F Indices Reading) (i : Indices) → roll-Indices x ≡ i
      → value_sizes types of i
      ≡ indices_sizes types of (map-Indices Indices Reading (List Size) (List Size) (value_sizes types of) (reading_sizes types of) x)
  sizes_are x i e =
      ap (value_sizes types of) (sym e) ∙ fold-roll-Indices (List Size) (List Size) (indices_sizes types of) (form_reading_sizes types of) x

  form_limits : (x : Indices-F Indices Reading) (i : Indices) → roll-Indices x ≡ i → all_within (value_sizes types of i) ≡ true
      → form_in_limit of x ≡ true
  form_limits (W.Bits t) i e h =
      let sizes = ap all_within (sym (sizes_are (W.Bits t) i e)) ∙ h in
      number_in_limit 128 (omega (arith, ints)) t (and_parts (number_within 128 (constant_under of t)) true sizes).0
  form_limits (W.Vector t r) i e h =
      let sizes = ap all_within (sym (sizes_are (W.Vector t r) i e)) ∙ h in
      number_in_limit 4096 (omega (arith, ints)) t (and_parts (number_within 4096 (constant_under of t)) (all_within (reading_sizes types of r)) sizes).0
  form_limits W.Never i e h = refl
  form_limits W.Unit i e h = refl
  form_limits (W.Truth c) i e h = refl
  form_limits W.Bit i e h = refl
  form_limits (W.Integer t) i e h = refl
  form_limits W.String i e h = refl
  form_limits (W.List r) i e h = refl
  form_limits (W.Tuple is) i e h = refl
  form_limits (W.Named u is rs) i e h = refl
  form_limits (W.Variable j) i e h = refl

  pub indices_in_limit : (i : Indices) → all_within (value_sizes types of i) ≡ true → form_in_limit of (out-Indices i) ≡ true
  indices_in_limit i h = form_limits (out-Indices i) i (roll-out-Indices i) h

-- ---- a number below the largest integer is one for certain

module _ (of : ℕ → Constant) where
  not_free : (c : Constant) (z : ℤ) → c ≡ C.Number z → is_free c ≡ false
  not_free c z e = ap is_free e

  below_known : (t : Num) (z : ℤ) → constant_under of t ≡ C.Number z → int_le (pos largest) z ≡ false → is_some (value_of of t) ≡ true
  below_known t z h less = by (first_free of t) refl (value_of of t) h
    where
      by : (o : Option ℕ) → first_free of t ≡ o → (v : Option ℤ) → unless_free of o v ≡ C.Number z → is_some v ≡ true
      by None e (Some y) g = refl
      by None e None g =
          let q : pos largest ≡ z = some_same (pos largest) z (ap number_in g) in
          absurd (omega (arith, ints, q, less))
      by (Some i) e v g = no (sym (not_free (of i) z g) ∙ free_there of t i e)

  given_exact : (t : Num) → is_given (constant_under of t) ≡ true → is_exact of t ≡ true
  given_exact t h = by (constant_under of t) refl h
    where
      less : (b : Bool) → not b ≡ true → b ≡ false
      less true g = no g
      less false g = refl

      by : (c : Constant) → constant_under of t ≡ c → is_given c ≡ true → is_exact of t ≡ true
      by (C.Number z) e k = below_known t z e (less (int_le (pos largest) z) k)
      by (C.Open v) e k = no k
      by (C.Bound name) e k = no k

  pub given_pass : (bs : List Bool) (js : List Index) → are_nums bs js ≡ true → all_given (map (index_under of) (indices_where bs js)) ≡ true
      → numbers_pass of bs js ≡ true
  given_pass [] [] a h = refl
  given_pass [] (j ∷ js) a h = no a
  given_pass (b ∷ bs) [] a h = no a
  given_pass (false ∷ bs) (j ∷ js) a h = given_pass bs js a h
  given_pass (true ∷ bs) (N.Truth c ∷ js) a h = no a
  given_pass (true ∷ bs) (N.Number t ∷ js) a h =
      let p = and_parts (is_given (constant_under of t)) (all_given (map (index_under of) (indices_where bs js))) h in
      two (is_exact of t) (numbers_pass of bs js) (given_exact t p.0) (given_pass bs js a p.1)

-- ---- what is among the found

place_from_there : (x : Instance) (n : ℕ) (found : List Found) → IsAmong (F.Function x) found → is_some (place_from n x (instances_in found)) ≡ true
place_from_there x n [] h = no h
place_from_there x n (F.Mapping i ∷ found) h = place_from_there x n found h
place_from_there x n (F.Function y ∷ found) h = by (instance_eq x y) h (λ k. place_from_there x (suc n) found k)
  where
    by : (b : Bool) → (b || list_any (found_eq (F.Function x)) found) ≡ true
        → (IsAmong (F.Function x) found → is_some (place_from (suc n) x (instances_in found)) ≡ true)
        → is_some (if b then Some n else place_from (suc n) x (instances_in found)) ≡ true
    by true k more = refl
    by false k more = more k

-- an instance has a place in the list
pub place_there : (x : Instance) (found : List Found) → IsAmong (F.Function x) found → is_some (place_from 0 x (instances_in found)) ≡ true
place_there x found h = place_from_there x 0 found h

-- each of the list is found
pub instance_there : (y : Instance) (found : List Found) → IsIn y (instances_in found) → IsIn (F.Function y) found
instance_there y [] h = absurd h
instance_there y (F.Mapping i ∷ found) h = inr (instance_there y found h)
instance_there y (F.Function z ∷ found) (inl e) = inl (ap (λ (w : Instance). F.Function w) e)
instance_there y (F.Function z ∷ found) (inr h) = inr (instance_there y found h)

pub mapping_there : (i : ℕ) (found : List Found) → IsAmong (F.Mapping i) found → IsIn (F.Mapping i) found
mapping_there i [] h = no h
mapping_there i (F.Function y ∷ found) h = inr (mapping_there i found h)
mapping_there i (F.Mapping j ∷ found) h = by (nat_eq i j) refl h (λ k. mapping_there i found k)
  where
    by : (b : Bool) → nat_eq i j ≡ b → (b || list_any (found_eq (F.Mapping i)) found) ≡ true → (IsAmong (F.Mapping i) found → IsIn (F.Mapping i) found)
        → IsIn (F.Mapping i) (F.Mapping j ∷ found)
    by true e k more = inl (ap (λ (n : ℕ). F.Mapping n) ((Decides-eqb i j).0 e))
    by false e k more = inr (more k)

-- ---- notes

pub note_is_read : (r : Inside) (found : List Found) (n : Note) (ns : List Note) → IsIn n ns → NotesAreRead r found ns
    → (named : Option ℕ) × NoteIsRead r found n named
note_is_read r found n [] i h = absurd i
note_is_read r found n (m ∷ ns) (inl e) h = (first_named ns, subst (λ (k : Note). NoteIsRead r found k (first_named ns)) (sym e) h.0)
note_is_read r found n (m ∷ ns) (inr i) h = note_is_read r found n ns i h.1

-- ---- a part of a list or the rest

pub part_there : {A : Type 0} (x : A) (n : ℕ) (xs : List A) → IsIn x xs → IsIn x (take n xs) ⊎ IsIn x (drop n xs)
part_there x zero [] i = absurd i
part_there x zero (y ∷ xs) i = inr i
part_there x (suc n) [] i = absurd i
part_there x (suc n) (y ∷ xs) (inl e) = inl (inl e)
part_there x (suc n) (y ∷ xs) (inr i) = by (part_there x n xs i)
  where
    by : IsIn x (take n xs) ⊎ IsIn x (drop n xs) → IsIn x (take (suc n) (y ∷ xs)) ⊎ IsIn x (drop (suc n) (y ∷ xs))
    by (inl k) = inl (inr k)
    by (inr k) = inr k
