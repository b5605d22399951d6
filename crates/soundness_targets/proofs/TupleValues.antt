-- A value of a tuple's indices, part by part.
use Rattle.std.proofs.Common.{◌≡◌, ◌∙◌, ◌+◌, ℕ, suc, true, List, [], ◌∷◌, map, slice_get, Some, refl, sym, ap, subst, arith}
use Rattle.std.proofs.lemmas.Bool.{and_parts}
use Rattle.sail_types.specs.declared.types.Typ.TheOpen as T
use Rattle.sail_types.specs.declared.types.Typ.TheVariants as U
use Rattle.sail_types.specs.declared.values.Value.{Value, Value-F, out-Value}
use Rattle.sail_types.specs.declared.values.Value.TheOpen as V
use Rattle.sail_types.specs.Belongs.{Reading as Closed, belongs}
use Rattle.sail_core.specs.Patterns.{components}
use Rattle.sail_core.specs.Values.{form_parts, parts_in}
use Rattle.sail_core.specs.Making.{component}
use Rattle.size_laws.proofs.Parts.{parts_keep_sizes}
use Rattle.value_indices.specs.declared.indices.Indices.{Indices}
use Rattle.value_indices.specs.declared.indices.Indices.TheOpen as W
use Rattle.value_indices.specs.declared.indices.Indices.TheVariants as I
use Rattle.value_indices.specs.declared.indices.Reading.{Reading}
use Rattle.value_indices.specs.declared.indices.Reading.TheVariants as R
use Rattle.checked_meaning.specs.Items.{Item, part_typ}
use Rattle.value_laws.specs.Belonging.{Integers, closed, closeds, each_holds, form_holds, has, meant, nowhere, standing, type_variables}
use Rattle.value_laws.specs.Known.{Agree, Point}
use Rattle.value_laws.proofs.Basics.{no}
use Rattle.value_laws.proofs.Steps.{same}
use Rattle.value_laws.proofs.Values.{belongs_form, closed_is, form_asked}
use Rattle.value_laws.proofs.WidenedTypes.{AllIn, tuple_in}
use Rattle.pattern_laws.proofs.Steady.{meant_same}
use Rattle.pattern_laws.proofs.Values.{AllWide, tuple_had, tuple_wide}
use Rattle.soundness_steps.specs.Works.{IsExact, Scene}
use Rattle.soundness_steps.specs.Noted.{known, sized}
use Rattle.soundness_steps.specs.Values.{AllAre, Belongs, Is}
use Rattle.soundness_parts.proofs.Taken.{z}

-- a part's place among all
shift : {A : Type 0} (all : List A) (k : ℕ) (x : A) (xs : List A) → ((j : ℕ) (i : A) → slice_get (x ∷ xs) j ≡ Some i → slice_get all (k + j) ≡ Some i)
    → (j : ℕ) (i : A) → slice_get xs j ≡ Some i → slice_get all (suc k + j) ≡ Some i
shift all k x xs at j i e = subst (λ m. slice_get all m ≡ Some i) (omega arith) (at (suc j) i e)

module _ (q : Scene) {n : ℕ} (f : Point n) (all : List Indices) (y : Item) (typed : IsExact q.set → (g : Integers) → Agree f g
    → y.typ ≡ sized q.set.around.types q.work.own g (I.Tuple all)) where
  parts_are : (k : ℕ) (is : List Indices) (vs : List Value) → ((j : ℕ) (i : Indices) → slice_get is j ≡ Some i → slice_get all (k + j) ≡ Some i)
      → ((g : Integers) → Agree f g → each_holds (map (meant q.set.around.types (standing q.set.past g) q.work.types) is) vs ≡ true)
      → ((g : Integers) → Agree f g → AllWide q.set.around.types q.set.past q.work.types g f.integers is)
      → AllAre q.set q.work f is (components (z q) y k vs)
  parts_are k [] [] at h e = tt
  parts_are k [] (v ∷ vs) at h e = no (h f.integers (same f))
  parts_are k (i ∷ is) [] at h e = no (h f.integers (same f))
  parts_are k (i ∷ is) (v ∷ vs) at h e =
      let types = q.set.around.types in
      let own = q.work.types in
      let both : (g : Integers) → Agree f g → (has types (standing q.set.past g) own i v ≡ true)
      × (each_holds (map (meant types (standing q.set.past g) own) is) vs ≡ true) =
      λ g a. and_parts (has types (standing q.set.past g) own i v) (each_holds (map (meant types (standing q.set.past g) own) is) vs) (h g a) in (
        record {
          has = record {
            meaning = meant types (standing q.set.past f.integers) own i;
            is_so = (both f.integers (same f)).0;
            steady = λ g a. meant_same types q.set.past own g f.integers i v (both g a).0 (both f.integers (same f)).0 (e g a).0;
          };
          typ = λ exact g a.
              ap (part_typ types (component k)) (typed exact g a)
              ∙ (parts_keep_sizes types q.work.own (known g)).of_tuple all k i (subst (λ m. slice_get all m ≡ Some i) (omega arith) (at 0 i refl));
        },
        parts_are (suc k) is vs (shift all k i is at) (λ g a. (both g a).1) (λ g a. (e g a).1),
      )

module _ (q : Scene) {n : ℕ} (f : Point n) where
  -- the items that are its parts
  pub record Parted (is : List Indices) (y : Item) : Type 0 where
    pub values : List Value
    pub are_parts : parts_in y.val ≡ Some values
    pub out : out-Value y.val ≡ V.Tuple values
    pub parts : AllAre q.set q.work f is (components (z q) y 0 values)

  parted_by : (is : List Indices) (y : Item) → Is q.set q.work f (I.Tuple is) y → (w : Value-F Value) → out-Value y.val ≡ w → Parted is y
  parted_by is y s (V.Tuple vs) e =
      let types = q.set.around.types in
      let own = q.work.types in
      let has_it : (g : Integers) → Agree f g → has types (standing q.set.past g) own (I.Tuple is) y.val ≡ true =
      λ g a. ap (λ m. m.holds y.val) (s.has.steady g a) ∙ s.has.is_so in
      record {
        values = vs;
        are_parts = ap form_parts e;
        out = e;
        parts = parts_are q f is y s.typ 0 is vs (λ j i k. subst (λ m. slice_get is m ≡ Some i) (omega arith) k)
            (λ g a. ap (form_holds types (standing q.set.past g) own (W.Tuple (map (meant types (standing q.set.past g) own) is))) (sym e)
            ∙ tuple_had types q.set.past own g is y.val (has_it g a))
            (λ g a. tuple_wide types q.set.past own g f.integers is (ap (λ m. m.wide) (s.has.steady g a ∙ sym (s.has.steady f.integers (same f)))));
      }
  parted_by is y s w e =
      let types = q.set.around.types in
      let own = q.work.types in
      no (ap (form_holds types (standing q.set.past f.integers) own (W.Tuple (map (meant types (standing q.set.past f.integers) own) is))) (sym e)
      ∙ tuple_had types q.set.past own f.integers is y.val (ap (λ m. m.holds y.val) (s.has.steady f.integers (same f)) ∙ s.has.is_so))

  pub parted : (is : List Indices) (y : Item) → Is q.set q.work f (I.Tuple is) y → Parted is y
  parted is y s = parted_by is y s (out-Value y.val) refl

  -- ---- of a tuple's type, each is of its own

  abbrev pub AllBelong : List Reading → List Value → Type 0
  AllBelong [] [] = Unit {0}
  AllBelong (r ∷ rs) (v ∷ vs) = Belongs q.set q.work f r v × AllBelong rs vs
  AllBelong rs vs = ⊥

  each_in : (rs : List Reading) (vs : List Value)
      → ((g : Integers) → Agree f g
      → AllIn q.set.around.types q.set.past q.work.types vs (map (closed q.set.around.types (standing q.set.past g) q.work.types) rs)) → AllBelong rs vs
  each_in [] [] h = tt
  each_in (r ∷ rs) (v ∷ vs) h = (λ g a. (h g a).0, each_in rs vs (λ g a. (h g a).1))
  each_in [] (v ∷ vs) h = absurd (h f.integers (same f))
  each_in (r ∷ rs) [] h = absurd (h f.integers (same f))

  pub all_belong : (rs : List Reading) (v : Value) (vs : List Value) → out-Value v ≡ V.Tuple vs → Belongs q.set q.work f (R.Parts rs) v → AllBelong rs vs
  all_belong rs v vs e h = each_in rs vs (λ g a.
      let types = q.set.around.types in
      let cs : List Closed = map (closed types (standing q.set.past g) q.work.types) rs in
      tuple_in types q.set.past q.work.types (nowhere (standing q.set.past g)) cs vs
      (ap (λ w. form_asked types w (T.Tuple (type_variables 0 cs)) (nowhere (standing q.set.past g)) (closeds cs)) (sym e)
      ∙ sym (belongs_form types v (T.Tuple (type_variables 0 cs)) (U.Tuple (type_variables 0 cs)) (nowhere (standing q.set.past g)) (closeds cs)
      (U.rolls-Tuple (type_variables 0 cs)))
      ∙ sym (ap (belongs types v) (closed_is types (standing q.set.past g) q.work.types (R.Parts rs) (W.Parts rs) (R.rolls-Parts rs))) ∙ h g a))
