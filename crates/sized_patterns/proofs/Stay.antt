-- The types that values carry in patterns stay those of their indices, part by part.
use Rattle.std.proofs.Common.{◌≡◌, ◌≤◌, ℕ, zero, suc, ◌+◌, ℤ, pos, ◌+ℤ◌, Bool, true, false, List, [], ◌∷◌, map, slice_get, Option, Some, None}
use Rattle.std.proofs.Common.{refl, sym, ap, ◌∙◌, subst, if◌then◌else◌, arith}
use Rattle.std.proofs.lemmas.Int.{ints}
use Rattle.sail_types.specs.Belongs.{Reading as Closed}
use Rattle.sail_types.specs.Numbers.{Assignment, Positive, number}
use Rattle.sail_types.specs.Sums.{constant}
use Rattle.sail_types.specs.declared.numbers.Atom.TheFolds.{fold-roll-Num}
use Rattle.sail_types.specs.declared.numbers.Index.{Index}
use Rattle.sail_types.specs.declared.numbers.Num.{Num}
use Rattle.sail_types.specs.declared.table.Types.{Types}
use Rattle.sail_types.specs.declared.types.Typ.{Typ, out-Typ, roll-Typ}
use Rattle.sail_types.specs.declared.types.Typ.TheOpen as T
use Rattle.sail_types.specs.declared.types.Typ.TheVariants as U
use Rattle.sail_types.specs.declared.types.Typ.TheViews.{roll-out-Typ}
use Rattle.sail_types.specs.declared.values.Value.{Value}
use Rattle.sail_types.proofs.SumNumbers.{some_same}
use Rattle.sail_core.specs.Making.{component, payload, one_item}
use Rattle.sail_core.specs.Values.{bits_typ}
use Rattle.value_indices.specs.declared.indices.Indices.{Indices, out-Indices}
use Rattle.value_indices.specs.declared.indices.Indices.TheOpen as W
use Rattle.value_indices.specs.declared.indices.Indices.TheVariants as I
use Rattle.value_indices.specs.declared.indices.Indices.TheViews.{out-roll-Indices}
use Rattle.value_indices.specs.declared.indices.Naming.{Naming}
use Rattle.value_indices.specs.declared.indices.Reading.{Reading}
use Rattle.value_indices.specs.declared.indices.Reading.TheVariants as R
use Rattle.value_indices.specs.declared.notes.Fact.{Fact}
use Rattle.value_indices.specs.declared.notes.Made.TheVariants as Makes
use Rattle.value_indices.specs.Opening.{opened_for, opening}
use Rattle.value_indices.specs.Steps.{Walk}
use Rattle.size_values.specs.Numbers.{argument_of, atom_value, constant_under, number_in, small, sum_value, term_value, value_of}
use Rattle.size_values.specs.declared.constants.Constant.{Constant}
use Rattle.size_values.specs.declared.constants.Constant.TheVariants as C
use Rattle.size_values.specs.declared.sized.Sized.{Sized}
use Rattle.size_values.specs.declared.sized.Sized.TheVariants as S
use Rattle.size_values.specs.Sized.{UnderConstants, each_sized, integer_of, typ_sized, value_sized}
use Rattle.size_laws.specs.Known.{all_numbers}
use Rattle.size_laws.specs.Settled.{constants, stood}
use Rattle.size_laws.proofs.Forms.{of_is, typ_is, value_is}
use Rattle.size_laws.proofs.Numbers.{known_constant, known_number}
use Rattle.size_laws.proofs.Parts.{component_of, parts_keep_sizes}
use Rattle.size_laws.proofs.Telling.{part_of, part_opens, part_told}
use Rattle.checked_meaning.specs.Items.{fixed_typ, part_typ}
use Rattle.pattern_leaves.specs.Payloads.{payload_readings}
use Rattle.pattern_notes.specs.Patterns.{part_type}
use Rattle.value_laws.specs.Belonging.{Integers, has, is_of, standing}
use Rattle.pattern_laws.specs.Typing.{EachFits, EachReads}
use Rattle.pattern_laws.proofs.Cuts.{small_width}
use Rattle.pattern_laws.proofs.Literals.{pos_same}
use Rattle.sized_patterns.specs.Laws.{Fits, FormFits, IsWidth, PartsStaySized, Reads, SizesFit}

-- an item of the types of a tuple's parts
typed_at : (fs : List UnderConstants) (cs : List Constant) (k : ℕ) (f : UnderConstants) → slice_get fs k ≡ Some f → slice_get (each_sized fs cs) k ≡ Some (f cs)
typed_at [] cs k f e = absurd (cc)
typed_at (h ∷ fs) cs zero f e = ap (λ (g : UnderConstants). Some (g cs)) (some_same h f e)
typed_at (h ∷ fs) cs (suc k) f e = typed_at fs cs k f e

module _ (types : Types) (own : List Sized) where
  -- parts from one on
  each_fits : (fits : Indices → Sized → Type 0) (s : Sized) (k : ℕ) (is : List Indices)
      → ((j : ℕ) (i : Indices) → slice_get is j ≡ Some i → fits i (part_typ types (component (k + j)) s)) → EachFits types fits s k is
  each_fits fits s k [] h = tt
  each_fits fits s k (i ∷ is) h = (
    subst (λ m. fits i (part_typ types (component m) s)) (omega arith) (h 0 i refl),
    each_fits fits s (suc k) is (λ j x e. subst (λ m. fits x (part_typ types (component m) s)) (omega arith) (h (suc j) x e)),
  )

  each_reads : (reads : Reading → Sized → Type 0) (s : Sized) (k : ℕ) (ts : List Typ) (is : List Index) (rs : List Reading)
      → ((j : ℕ) (t : Typ) → slice_get ts j ≡ Some t → reads (R.Of t is rs) (part_typ types (component (k + j)) s))
      → EachReads types reads s k (payload_readings ts is rs)
  each_reads reads s k [] is rs h = tt
  each_reads reads s k (t ∷ ts) is rs h = (
    subst (λ m. reads (R.Of t is rs) (part_typ types (component m) s)) (omega arith) (h 0 t refl),
    each_reads reads s (suc k) ts is rs (λ j x e. subst (λ m. reads (R.Of x is rs) (part_typ types (component m) s)) (omega arith) (h (suc j) x e)),
  )

  parts : (g : Integers) (is : List Indices) (s : Sized) → Fits types own g (I.Tuple is) s → EachFits types (Fits types own g) s 0 is
  parts g is s e =
      each_fits (Fits types own g) s 0 is (λ j i found. subst (λ m. Fits types own g i (part_typ types (component m) s)) (omega arith)
      (ap (part_typ types (component j)) e ∙ (parts_keep_sizes types own (all_numbers g)).of_tuple is j i found))

  map_at : (f : Typ → UnderConstants) (ts : List Typ) (k : ℕ) (t : Typ) → slice_get ts k ≡ Some t → slice_get (map f ts) k ≡ Some (f t)
  map_at f [] k t e = absurd (cc)
  map_at f (u ∷ ts) zero t e = ap (λ (x : Typ). Some (f x)) (some_same u t e)
  map_at f (u ∷ ts) (suc k) t e = map_at f ts k t e

  of_tuple : (g : Integers) (t : Typ) (ts : List Typ) (is : List Index) (rs : List Reading) (s : Sized) → out-Typ t ≡ T.Tuple ts
      → Reads types own g (R.Of t is rs) s → EachReads types (Reads types own g) s 0 (payload_readings ts is rs)
  of_tuple g t ts is rs s e h =
      let ss : List Sized = stood types own (all_numbers g) rs in
      let cs : List Constant = constants types own (all_numbers g) is in
      let all : List Sized = each_sized (map (typ_sized types ss) ts) cs in
      let whole : s ≡ S.Tuple all =
      h ∙ of_is types own (all_numbers g) t is rs
      ∙ typ_is types own (all_numbers g) ss t (T.Tuple ts) cs (ap roll-Typ (sym e) ∙ roll-out-Typ t) in
      each_reads (Reads types own g) s 0 ts is rs (λ j x found. subst (λ m. Reads types own g (R.Of x is rs) (part_typ types (component m) s)) (omega arith)
      (ap (part_typ types (component j)) whole
      ∙ component_of types own (all_numbers g) all j (typ_sized types ss x cs) (typed_at (map (typ_sized types ss) ts) cs j (typ_sized types ss x)
      (map_at (typ_sized types ss) ts j x found))
      ∙ sym (of_is types own (all_numbers g) x is rs)))

-- ---- bits

plus_zero : (z : ℤ) → pos 0 +ℤ z ≡ z
plus_zero z = omega (arith, ints)

-- a constant is its number, whatever variables are
constant_is : (past : Positive) (k : ℕ) → k ≤ 128 → constant_under (argument_of []) (constant (pos k)) ≡ C.Number (pos k)
constant_is past k l =
    known_constant (argument_of []) (standing past (λ i. pos 0)) (λ i z h. some_same (pos 0) z h) (constant (pos k)) (pos k)
    (fold-roll-Num (Option ℤ) (Option ℤ) (Option ℤ) (atom_value (argument_of [])) sum_value term_value (record { terms = []; constant = pos k })
    ∙ ap small (plus_zero (pos k)) ∙ ap (λ (b : Bool). if b then Some (pos k) else None) (small_width k l))

module _ (types : Types) (past : Positive) (closed : List Closed) (own : List Sized) where
  -- bits whose size is noted
  bits_fit : (g : Integers) (t : Num) → SizesFit types own past closed g (Makes.ByIndices (I.Bits t)) → IsWidth g t
  bits_fit g t h = subst (FormFits types own g) (ap out-Indices (sym (I.rolls-Bits t)) ∙ out-roll-Indices (W.Bits t)) h

  width : (g : Integers) (t : Num) → SizesFit types own past closed g (Makes.ByIndices (I.Bits t)) → (k : ℕ) × (value_of (all_numbers g) t ≡ Some (pos k))
  width g t h = let fit = bits_fit g t h in (fit.width, fit.is_so)

  variable_says : (g : Integers) (i : ℕ) (z : ℤ) → number_in (all_numbers g i) ≡ Some z → (standing past g).int i ≡ z
  variable_says g i z h = some_same (g i) z h

  cut : (g : Integers) (t : Num) (k : ℕ) → SizesFit types own past closed g (Makes.ByIndices (I.Bits t)) → number (standing past g) t ≡ pos k
      → Fits types own g (I.Bits t) (fixed_typ types (bits_typ k))
  cut g t k h e =
      let fit = bits_fit g t h in
      let of = all_numbers g in
      let same : pos fit.width ≡ pos k = sym (known_number of (standing past g) (variable_says g) t (pos fit.width) fit.is_so).0 ∙ e in
      let most : k ≤ 128 = subst (λ n. n ≤ 128) (pos_same same) fit.most in
      typ_is types own of [] (bits_typ k) (T.Bits (constant (pos k))) [] (U.rolls-Bits (constant (pos k)))
      ∙ ap (λ c. S.Bits (integer_of c)) (constant_is past k most ∙ ap C.Number (sym same)
      ∙ sym (known_constant of (standing past g) (variable_says g) t (pos fit.width) fit.is_so))
      ∙ sym (value_is types own of (I.Bits t) (W.Bits t) (I.rolls-Bits t))

  -- ---- where a part is opened: no value of its type tells what that binds

  opens : (g : Integers) (r : Reading) (s : Sized) (naming : Naming) (facts : List Fact) (n : ℕ) (v : Value)
      → SizesFit types own past closed g (Makes.ByType (part_type r)) → is_of types (standing past g) closed r v ≡ true
      → has types (standing past g) closed (opened_for naming r facts n).value v ≡ true → Reads types own g r s
      → Fits types own g (opened_for naming r facts n).value s
  unfolding opened_for
  opens g r s naming facts n v fit belongs had e =
      let of = all_numbers g in
      let mu : Assignment = standing past g in
      let same : (opening (part_type r) false naming facts n).value ≡ (opening r false naming facts n).value =
      ap (λ (w : Walk Indices). (w facts n).value) (part_opens types own of r false naming) in
      e ∙ sym (part_told types own of r v)
      ∙ fit v (part_of types past g closed r v ∙ belongs) false naming facts n (ap (λ (i : Indices). has types mu closed i v) same ∙ had)
      ∙ ap (value_sized types own of) same

pub parts_stay_sized : PartsStaySized
parts_stay_sized types past closed own hang = record {
  opens = λ g r s naming facts n v fit belongs had e. opens types past closed own g r s naming facts n v fit belongs had e;
  parts = parts types own;
  list_item = λ g r s e. ap (part_typ types one_item) e ∙ (parts_keep_sizes types own (all_numbers g)).of_list r;
  vector_item = λ g t r s e. ap (part_typ types one_item) e ∙ (parts_keep_sizes types own (all_numbers g)).of_vector t r;
  of_union = λ g u c is rs s t there many e.
      ap (part_typ types (payload u c)) e ∙ (parts_keep_sizes types own (all_numbers g)).of_union u c is rs t there (hang g u c is rs t there many);
  of_tuple = of_tuple types own;
  width = width types past closed own;
  cut = cut types past closed own;
}
