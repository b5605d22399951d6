-- Vectors and lists beside their runs.
use Rattle.std.proofs.Common.{◌≡◌, ℕ, suc, pos, ◌≤ℤ◌, Bool, true, false, ◌&&◌, List, [], ◌∷◌, ◌++◌, length, reverse, refl, sym, ap, ◌∙◌, subst, arith}
use Rattle.std.proofs.Common.{◌⊎◌, inl, inr, Some, None, if◌then◌else◌}
use Rattle.std.specs.List.{list_all}
use Rattle.std.specs.Ordering.{int_eq}
use Rattle.std.proofs.lemmas.Bool.{and_parts, le-leb}
use Rattle.std.proofs.lemmas.Bool.Decides.{Decides-int_eq}
use Rattle.std.proofs.lemmas.Int.{ints}
use Rattle.std.proofs.lemmas.List.{length-reverse, reverse-append}
use Rattle.sail_base.specs.declared.place.Place.{Place}
use Rattle.sail_types.proofs.Substituted.{number_constant}
use Rattle.sail_types.specs.Belongs.{Reading as Closed, belongs}
use Rattle.sail_types.specs.Limits.{is_length}
use Rattle.sail_types.specs.Numbers.{number}
use Rattle.sail_types.specs.Sums.{constant}
use Rattle.sail_types.specs.declared.shapes.Shape.{Shape}
use Rattle.sail_types.specs.declared.values.Value.{Value, out-Value}
use Rattle.sail_types.specs.declared.values.Value.TheOpen as O
use Rattle.sail_types.specs.declared.values.Value.TheVariants as V
use Rattle.sail_types.specs.declared.values.Value.TheViews.{out-roll-Value}
use Rattle.sail_core.specs.Making.{World}
use Rattle.sail_core.specs.Meaning.{kind_meaning}
use Rattle.sail_core.specs.Run.{Run, gives, in_turn, needs, ◌then◌}
use Rattle.sail_core.specs.Values.{vector_of}
use Rattle.sail_core.specs.declared.tree.Kind.TheVariants as K
use Rattle.value_indices.specs.declared.indices.Indices.{Indices, out-Indices}
use Rattle.value_indices.specs.declared.indices.Indices.TheFolds.{map-Reading}
use Rattle.value_indices.specs.declared.indices.Indices.TheOpen as W
use Rattle.value_indices.specs.declared.indices.Indices.TheOpen.{Reading-F}
use Rattle.value_indices.specs.declared.indices.Indices.TheVariants as I
use Rattle.value_indices.specs.declared.indices.Indices.TheViews.{out-roll-Indices, out-roll-Reading, roll-out-Reading}
use Rattle.value_indices.specs.declared.indices.Reading.{Reading, out-Reading}
use Rattle.value_indices.specs.declared.indices.Reading.TheVariants as Q
use Rattle.value_indices.specs.declared.notes.Fact.{Fact}
use Rattle.value_indices.specs.declared.notes.Made.TheVariants as Makes
use Rattle.value_indices.specs.Steps.{give, note, size_note}
use Rattle.pattern_leaves.specs.Settings.{Scope}
use Rattle.call_arguments.specs.Aims.{aimed, is_hole_form}
use Rattle.call_arguments.specs.Holes.{has_hole, type_holed, value_has_hole}
use Rattle.call_arguments.specs.declared.aims.Aim.{Aim}
use Rattle.call_arguments.specs.declared.aims.Aim.TheVariants as Aims
use Rattle.call_notes.specs.Ends.{sized}
use Rattle.call_notes.specs.Noted.{node_ended}
use Rattle.expression_steps.specs.Expressions.{kind_walk}
use Rattle.expression_steps.specs.Parts.{Part}
use Rattle.expression_steps.specs.Values as E
use Rattle.expression_steps.specs.Values.{Row, items_of, items_walk, wanted_item}
use Rattle.checked_meaning.specs.Checked.{checked}
use Rattle.checked_meaning.specs.Items.{Item, vals}
use Rattle.value_laws.specs.Belonging.{Integers, standing, closed, form_holds, meant}
use Rattle.value_laws.specs.Known.{Point}
use Rattle.value_laws.proofs.Basics.{two}
use Rattle.value_laws.proofs.Meanings.{lists_same, vectors_same}
use Rattle.value_laws.proofs.Steps.{same}
use Rattle.value_laws.proofs.Values.{has_form, meant_is}
use Rattle.soundness_steps.proofs.Points.{no_later}
use Rattle.soundness_steps.specs.Works.{Scene, Setting, Work, here}
use Rattle.soundness_steps.specs.Covers as C
use Rattle.soundness_steps.specs.Steps.{Beside, Walks}
use Rattle.soundness_steps.specs.Values.{AimSteady, AllTyped, Comes, Has, Is, IsSteady, IsWanted}
use Rattle.soundness_steps.proofs.Steps.{binds, given_back, notes, walks_on, walks_then}
use Rattle.soundness_forms.specs.Forms.{AllFine, FitsSuffice}
use Rattle.soundness_forms.specs.Worlds.{Surrounds}
use Rattle.soundness_forms.proofs.Basics.{has_on}
use Rattle.soundness_forms.proofs.Nodes.{node_ends, typed_on}
use Rattle.soundness_values.proofs.Items.{AllOf, RowIs, free_row, wanted_row}
use Rattle.soundness_values.proofs.Made.{parts_node}
use Rattle.soundness_values.proofs.Seen.{hole_in, item_steady}

-- ---- all of several

all_append : {A : Type 0} (p : A → Bool) (xs ys : List A) → list_all p xs ≡ true → list_all p ys ≡ true → list_all p (xs ++ ys) ≡ true
all_append p [] ys h k = k
all_append p (x ∷ xs) ys h k =
    let q = and_parts (p x) (list_all p xs) h in two (p x) (list_all p (xs ++ ys)) q.0 (all_append p xs ys q.1 k)

all_reversed : {A : Type 0} (p : A → Bool) (xs : List A) → list_all p xs ≡ true → list_all p (reverse xs) ≡ true
all_reversed p [] h = refl
all_reversed p (x ∷ xs) h =
    let q = and_parts (p x) (list_all p xs) h in
    ap (list_all p) (reverse-append (x ∷ []) xs) ∙ all_append p (reverse xs) (x ∷ []) (all_reversed p xs q.1) (two (p x) true q.0 refl)

module _ (set : Setting) (work : Work) {n : ℕ} (f : Point n) where
  -- the type of the items there
  abbrev item : Reading → Closed
  item r = closed set.around.types (standing set.past f.integers) work.types r

  all_of : (r : Reading) (vs : List Value) → AllOf set work f r vs
      → list_all (λ v. belongs set.around.types v (closed set.around.types (standing set.past f.integers) work.types r)) vs ≡ true
  all_of r [] h = refl
  all_of r (v ∷ vs) h =
      two (belongs set.around.types v (item r)) (list_all (λ u. belongs set.around.types u (item r)) vs) (h.0 f.integers (same f)) (all_of r vs h.1)

  pub list_has : (r : Reading) (vs : List Value) → IsSteady set work f r → AllOf set work f r vs → Has set work f (I.List r) (V.List vs)
  list_has r vs steady h =
      let types = set.around.types in
      let there = standing set.past f.integers in
      record {
        meaning = meant types there work.types (I.List r);
        is_so = has_form types there work.types (I.List r) (W.List r) (V.List vs) (I.rolls-List r)
            ∙ ap (form_holds types there work.types (W.List (item r))) (ap out-Value (sym (V.rolls-List vs)) ∙ out-roll-Value (O.List vs))
            ∙ all_of r vs h;
        steady = λ g a.
            meant_is types (standing set.past g) work.types (I.List r) (W.List r) (I.rolls-List r)
            ∙ lists_same types set.past work.types g f.integers (closed types (standing set.past g) work.types r) (item r) (steady g a)
            ∙ sym (meant_is types there work.types (I.List r) (W.List r) (I.rolls-List r));
      }

  vector_has : (k : ℕ) (r : Reading) (vs : List Value) → length vs ≡ k → is_length k ≡ true → IsSteady set work f r → AllOf set work f r vs
      → Has set work f (I.Vector (constant (pos k)) r) (V.Vector (reverse vs))
  vector_has k r vs long fits steady h =
      let types = set.around.types in
      let there = standing set.past f.integers in
      let t = constant (pos k) in
      let l : length (reverse vs) ≡ k = length-reverse vs ∙ long in
      record {
        meaning = meant types there work.types (I.Vector t r);
        is_so = has_form types there work.types (I.Vector t r) (W.Vector t r) (V.Vector (reverse vs)) (I.rolls-Vector t r)
            ∙ ap (form_holds types there work.types (W.Vector t (item r)))
            (ap out-Value (sym (V.rolls-Vector (reverse vs))) ∙ out-roll-Value (O.Vector (reverse vs)))
            ∙ two (int_eq (pos (length (reverse vs))) (number there t) && is_length (length (reverse vs)))
            (list_all (λ v. belongs types v (item r)) (reverse vs))
            (two (int_eq (pos (length (reverse vs))) (number there t)) (is_length (length (reverse vs)))
            ((Decides-int_eq (pos (length (reverse vs))) (number there t)).1 (ap pos l ∙ sym (number_constant there (pos k)))) (ap is_length l ∙ fits))
            (all_reversed (λ v. belongs types v (item r)) vs (all_of r vs h));
        steady = λ g a.
            meant_is types (standing set.past g) work.types (I.Vector t r) (W.Vector t r) (I.rolls-Vector t r)
            ∙ vectors_same types set.past work.types g f.integers t t (closed types (standing set.past g) work.types r) (item r)
            (number_constant (standing set.past g) (pos k) ∙ sym (number_constant there (pos k))) (steady g a)
            ∙ sym (meant_is types there work.types (I.Vector t r) (W.Vector t r) (I.rolls-Vector t r));
      }

  as_many : (is : List Indices) (xs : List Item) → AllTyped set work f is xs → length (vals xs) ≡ length is
  as_many [] [] h = refl
  as_many (i ∷ is) (x ∷ xs) h = ap suc (as_many is xs h.1)
  as_many [] (x ∷ xs) h = absurd h
  as_many (i ∷ is) [] h = absurd h

-- ---- sizes that are noted

size_said : {q : Scene} {n : ℕ} {f : Point n} {facts : List Fact} (place : Place) (i : Indices)
    → Walks q n f facts (sized place i) (λ m g t. C.FormFits q.set.past f.integers (out-Indices i))
unfolding note
size_said {f} place i = record {
  go = λ noted stands met. record {
    point = f;
    later = no_later f;
    stands = stands;
    holds = met.0 f.integers noted (stands.there f.integers (same f));
  };
}

length_from : (q : Scene) (g : Integers) (k : ℕ) (r : Reading) → C.FormFits q.set.past g (out-Indices (I.Vector (constant (pos k)) r)) → is_length k ≡ true
length_from q g k r h =
    let s = subst (C.FormFits q.set.past g)
    (ap out-Indices (sym (I.rolls-Vector (constant (pos k)) r)) ∙ out-roll-Indices (W.Vector (constant (pos k)) r)) h in
    let few : pos k ≤ℤ pos 4096 = subst (λ z. z ≤ℤ pos 4096) (number_constant (standing q.set.past g) (pos k)) s.2 in
    le-leb k 4096 (omega (arith, ints, few))

-- ---- what is made of items

list_made : (q : Scene) {n : ℕ} {f : Point n} {facts : List Fact} (place : Place) (k : ℕ) (row : Row) (xs : List Item) → RowIs q.set q.work f row xs
    → Beside q n f facts (E.list_of place k row) ((checked q.set.around.types q.cases).make k xs (V.List (vals xs))) (λ m g i x. Is q.set q.work g i x)
list_made q {n} {f} {facts} place k row xs h =
    walks_then (node_ended k row.1)
    (walks_on (λ t. give (I.List row.0)) (notes (λ fs. size_note fs place (Makes.ByIndices (I.List row.0))))
    (λ m g fs t l e. given_back (I.List row.0) {Holds = λ j d i. i ≡ I.List row.0} refl)) (λ m g fs i l e.
    subst (λ j. Beside q m g fs (node_ended k row.1 j) ((checked q.set.around.types q.cases).make k xs (V.List (vals xs))) (λ m g i x. Is q.set q.work g i x))
    (sym e)
    (node_ends k row.1 (I.List row.0) xs (V.List (vals xs)) (typed_on q.set q.work row.1 xs l h.typed)
    (has_on l (list_has q.set q.work f row.0 (vals xs) h.steady h.of_type))))

vector_made : (q : Scene) {n : ℕ} {f : Point n} {facts : List Fact} (place : Place) (k : ℕ) (row : Row) (xs : List Item) → RowIs q.set q.work f row xs
    → Beside q n f facts (E.vector_of place k row) (needs (vector_of (vals xs)) then λ v. (checked q.set.around.types q.cases).make k xs v)
    (λ m g i x. Is q.set q.work g i x)
vector_made q {n} {f} {facts} place k row xs h =
    let t = constant (pos (length row.1)) in
    walks_then (node_ended k row.1)
    (walks_on (λ u. give (I.Vector t row.0)) (size_said place (I.Vector t row.0))
    (λ m g fs u l e. given_back (I.Vector t row.0) {Holds = λ j d i. (i ≡ I.Vector t row.0) × (is_length (length row.1) ≡ true)}
    (refl, length_from q f.integers (length row.1) row.0 e))) (λ m g fs i l e.
    let long = as_many q.set q.work f row.1 xs h.typed in
    subst (λ o. Beside q m g fs (node_ended k row.1 i) (needs o then λ v. (checked q.set.around.types q.cases).make k xs v) (λ m g i x. Is q.set q.work g i x))
    (sym (ap (λ b. if b then Some (V.Vector (reverse (vals xs))) else None) (ap is_length long ∙ e.1)))
    (subst (λ j. Beside q m g fs (node_ended k row.1 j) ((checked q.set.around.types q.cases).make k xs (V.Vector (reverse (vals xs))))
    (λ m g i x. Is q.set q.work g i x))
    (sym e.0)
    (node_ends k row.1 (I.Vector t row.0) xs (V.Vector (reverse (vals xs))) (typed_on q.set q.work row.1 xs l h.typed)
    (has_on l (vector_has q.set q.work f (length row.1) row.0 (vals xs) long e.1 h.steady h.of_type)))))

-- ---- items, of which a type is wanted or none

pub no_hole : {A : Type 0} (r : Reading) → out-Reading r ≡ W.Hole → has_hole r ≡ false → A
no_hole r e h = absurd (wrong (sym hole ∙ h))
  where
    hole : has_hole r ≡ true
    hole = ap has_hole (sym (roll-out-Reading r)) ∙ hole_in (out-Reading r)
        ∙ ap (λ x. type_holed (map-Reading Indices Reading Bool Bool value_has_hole has_hole x)) e

    wrong : true ≡ false → ⊥
    wrong k = cc

pub due_is : (r : Reading) (x : Reading-F Indices Reading) → out-Reading r ≡ x → is_hole_form x ≡ false → aimed Aims.Due r ≡ Aims.Due r
due_is r x e h = ap (λ b. if b then Aims.Free else Aims.Due r) (ap is_hole_form e ∙ h)

module _ (fit : FitsSuffice) (q : Scene) (w : World Item) (scope : Scope) where
  by_form : {n : ℕ} {f : Point n} {facts : List Fact} (shape : Shape) (ps : List Part) (rs : List (Run Item Item)) → AllFine q w ps rs → Surrounds q w f scope
      → (r : Reading) → IsWanted q.set q.work f r → (x : Reading-F Indices Reading) → out-Reading r ≡ x
      → Beside q n f facts (items_of ps (here q) scope shape x r) (in_turn rs) (λ m g row xs. RowIs q.set q.work g row xs)
  by_form shape ps rs fine there r st W.Hole e = no_hole r e st.1
  by_form shape ps rs fine there r st (W.Of t is qs) e = wanted_row fit q w scope ps rs fine there r (due_is r (W.Of t is qs) e refl) st
  by_form shape ps rs fine there r st (W.Widened i) e = wanted_row fit q w scope ps rs fine there r (due_is r (W.Widened i) e refl) st
  by_form shape ps rs fine there r st (W.Parts qs) e = wanted_row fit q w scope ps rs fine there r (due_is r (W.Parts qs) e refl) st

  row_items : {n : ℕ} {f : Point n} {facts : List Fact} (shape : Shape) (ps : List Part) (rs : List (Run Item Item)) → AllFine q w ps rs
      → Surrounds q w f scope → (r : Reading) → (r ≡ Q.Hole) ⊎ IsWanted q.set q.work f r
      → Beside q n f facts (items_walk ps (here q) scope shape r) (in_turn rs) (λ m g row xs. RowIs q.set q.work g row xs)
  row_items {n} {f} {facts} shape ps rs fine there r (inl e) =
      subst (λ x. Beside q n f facts (items_of ps (here q) scope shape x r) (in_turn rs) (λ m g row xs. RowIs q.set q.work g row xs))
      (sym (ap out-Reading (e ∙ sym Q.rolls-Hole) ∙ out-roll-Reading W.Hole)) (free_row fit q w scope shape ps rs fine there)
  row_items shape ps rs fine there r (inr st) = by_form shape ps rs fine there r st (out-Reading r) refl

  module _ {n : ℕ} (f : Point n) (facts : List Fact) (place : Place) (k : ℕ) (aim : Aim) (there : Surrounds q w f scope) (st : AimSteady q.set q.work f aim)
      (shape : Shape) (ps : List Part) (rs : List (Run Item Item)) (fine : AllFine q w ps rs) where
    pub list_fine : Beside q n f facts (kind_walk place k (K.List shape) ps (here q) scope aim)
        (kind_meaning (checked q.set.around.types q.cases) w place k (K.List shape) rs) (λ m g i x. Comes q.set q.work g false false false aim i x)
    list_fine =
        parts_node fit place k aim (in_turn rs) (λ xs. gives (V.List (vals xs))) st
        (binds (E.list_of place k) (λ xs. gives (V.List (vals xs)) then λ v. (checked q.set.around.types q.cases).make k xs v)
        (row_items shape ps rs fine there (wanted_item aim) (item_steady q.set q.work f aim st)) (λ m g fs row xs l h. list_made q place k row xs h))

    pub vector_fine : Beside q n f facts (kind_walk place k (K.Vector shape) ps (here q) scope aim)
        (kind_meaning (checked q.set.around.types q.cases) w place k (K.Vector shape) rs) (λ m g i x. Comes q.set q.work g false false false aim i x)
    vector_fine =
        parts_node fit place k aim (in_turn rs) (λ xs. needs (vector_of (vals xs))) st
        (binds (E.vector_of place k) (λ xs. needs (vector_of (vals xs)) then λ v. (checked q.set.around.types q.cases).make k xs v)
        (row_items shape ps rs fine there (wanted_item aim) (item_steady q.set q.work f aim st)) (λ m g fs row xs l h. vector_made q place k row xs h))
