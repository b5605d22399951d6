-- Vectors and lists by their items.
use Rattle.std.proofs.Common.{◌≡◌, ◌∙◌, ap, sym, refl, suc, zero, ℕ, List, [], ◌∷◌, ◌++◌, length, replicate, true, false}
use Rattle.sail_base.specs.declared.place.Place.{Place}
use Rattle.sail_types.specs.declared.shapes.Shape.{Shape}
use Rattle.value_indices.specs.Steps.{Walk, bind, give}
use Rattle.value_indices.specs.Walking.{Written, got, run}
use Rattle.value_indices.specs.declared.indices.Indices.{Indices}
use Rattle.value_indices.specs.declared.indices.Indices.TheOpen as W
use Rattle.value_indices.specs.declared.indices.Indices.TheOpen.{Reading-F}
use Rattle.value_indices.specs.declared.indices.Reading.{Reading}
use Rattle.value_indices.specs.declared.indices.Reading.TheVariants as R
use Rattle.value_indices.proofs.Walks.{got_bind, got_give, run_bind, run_give}
use Rattle.pattern_leaves.specs.Settings.{Around, Scope}
use Rattle.pattern_leaves.proofs.Walked.{made_got, made_run, then_got, then_run}
use Rattle.call_arguments.specs.Aims.{aimed, is_hole_form}
use Rattle.call_arguments.specs.Holes.{without_holes}
use Rattle.call_arguments.specs.declared.aims.Aim.{Aim}
use Rattle.call_arguments.specs.declared.aims.Aim.TheVariants as Aims
use Rattle.expression_steps.specs.Parts.{Part, each_walk}
use Rattle.expression_steps.specs.Values.{Row, filled_here, first_free, first_like, item_like, item_owed, items_due, items_free, items_like, items_of}
use Rattle.expression_steps.specs.Values.{items_wanted}

-- one more of the same
pub one_more_of : {A : Type 0} (n : ℕ) (x : A) → replicate (suc n) x ≡ replicate n x ++ x ∷ []
one_more_of zero x = refl
one_more_of (suc n) x = ap (λ xs. x ∷ xs) (one_more_of n x)

-- ---- an item that owes a type

module _ (a : Part) (around : Around) (scope : Scope) (r : Reading) (place : Place) (w u : Written) (i : Indices) (here : place ≡ a.place)
    (is : i ≡ got (a.walk around scope Aims.Free) w) (was : u ≡ run (a.walk around scope Aims.Free) w) where
  abbrev owing : Walk (Unit {0})
  owing = item_owed around a.place r i

  abbrev behind : Indices → Walk Indices
  behind j = bind (item_owed around a.place r j) (λ t. give j)

  pub item_got : i ≡ got (item_like a around scope r) w
  item_got =
      sym (got_give i (run owing u)) ∙ sym (got_bind owing (λ t. give i) u) ∙ then_got (a.walk around scope Aims.Free) behind w u i is was

  pub item_run : (v : Written) → v ≡ run (item_owed around place r i) u → v ≡ run (item_like a around scope r) w
  item_run v owes =
      owes
      ∙ ap (λ (p : Place). run (item_owed around p r i) u) here
      ∙ sym (run_give i (run owing u))
      ∙ sym (run_bind owing (λ t. give i) u)
      ∙ then_run (a.walk around scope Aims.Free) behind w u i is was

-- ---- a first item, and the others

module _ (a : Part) (ps : List Part) (around : Around) (scope : Scope) (shape : Shape) (place : Place) (w0 w1 w2 w3 w4 : Written) (i : Indices)
    (r allowed : Reading) (one values : List Indices) (allows : allowed ≡ without_holes r) (begun : one ≡ i ∷ []) (here : place ≡ a.place)
    (found : i ≡ got (a.walk around scope Aims.Free) w0)
    (was : w1 ≡ run (a.walk around scope Aims.Free) w0) (fills : r ≡ got (filled_here around shape i) w1)
    (filled : w2 ≡ run (filled_here around shape i) w1) (owes : w3 ≡ run (item_owed around place allowed i) w2)
    (others : values ≡ one ++ got (items_like ps around scope allowed) w3) (went : w4 ≡ run (items_like ps around scope allowed) w3) where
  abbrev owed : Walk (Unit {0})
  owed = item_owed around a.place (without_holes r) i

  abbrev row : List Indices → Row
  row xs = (r, xs)

  abbrev onto : List Indices → Row
  onto xs = row (i ∷ xs)

  abbrev others_like : Walk (List Indices)
  others_like = items_like ps around scope (without_holes r)

  abbrev like : Walk Row
  like = bind others_like (λ xs. give (onto xs))

  values_are : values ≡ i ∷ got others_like w3
  values_are = others ∙ (λ j. (begun j) ++ got (items_like ps around scope (allows j)) w3)

  went_on : w4 ≡ run others_like w3
  went_on = went ∙ (λ j. run (items_like ps around scope (allows j)) w3)

  came : w3 ≡ run owed w2
  came = owes ∙ (λ j. run (item_owed around (here j) (allows j) i) w2)

  last_got : row values ≡ got (first_like ps around scope a.place i r) w2
  last_got =
      ap row values_are
      ∙ made_got others_like onto w3 (got others_like w3) refl
      ∙ then_got owed (λ t. like) w2 w3 (got owed w2) refl came

  last_run : w4 ≡ run (first_like ps around scope a.place i r) w2
  last_run = made_run others_like onto w3 w4 went_on ∙ then_run owed (λ t. like) w2 w3 (got owed w2) refl came

  abbrev rest : Indices → Walk Row
  rest k = bind (filled_here around shape k) (first_like ps around scope a.place k)

  pub items_got : row values ≡ got (first_free a ps around scope shape) w0
  items_got =
      last_got
      ∙ then_got (filled_here around shape i) (first_like ps around scope a.place i) w1 w2 r fills filled
      ∙ then_got (a.walk around scope Aims.Free) rest w0 w1 i found was

  pub items_run : w4 ≡ run (first_free a ps around scope shape) w0
  items_run =
      last_run
      ∙ then_run (filled_here around shape i) (first_like ps around scope a.place i) w1 w2 r fills filled
      ∙ then_run (a.walk around scope Aims.Free) rest w0 w1 i found was

-- ---- no items

abbrev pub no_row : List Indices → Row
no_row xs = (R.Hole, xs)

pub no_items : (xs : List Indices) (v : Written) → xs ≡ [] → no_row xs ≡ got (give (no_row [])) v
no_items xs v none = ap no_row none ∙ sym (got_give (no_row []) v)

-- ---- items of which a type is wanted, or none

pub free_items : (ps : List Part) (around : Around) (scope : Scope) (shape : Shape) (r : Reading) (form : Reading-F Indices Reading)
    → is_hole_form form ≡ true → items_of ps around scope shape form r ≡ items_free ps around scope shape
free_items ps around scope shape r W.Hole hole = refl
free_items ps around scope shape r (W.Of t is rs) hole = absurd (cc)
free_items ps around scope shape r (W.Widened i) hole = absurd (cc)
free_items ps around scope shape r (W.Parts rs) hole = absurd (cc)

pub due_items : (ps : List Part) (around : Around) (scope : Scope) (shape : Shape) (r : Reading) (form : Reading-F Indices Reading)
    → is_hole_form form ≡ false → items_of ps around scope shape form r ≡ items_wanted ps around scope r
due_items ps around scope shape r W.Hole some = absurd (cc)
due_items ps around scope shape r (W.Of t is rs) some = refl
due_items ps around scope shape r (W.Widened i) some = refl
due_items ps around scope shape r (W.Parts rs) some = refl

module _ (ps : List Part) (aims : List Aim) (around : Around) (scope : Scope) (r : Reading) (v : Written)
    (wants : aims ≡ replicate (length ps) (aimed Aims.Due r)) where
  abbrev due : Walk (List Indices)
  due = items_due ps around scope (aimed Aims.Due r)

  abbrev wanted_row : List Indices → Row
  wanted_row is = (r, is)

  pub wanted_got : (is : List Indices) → is ≡ got (each_walk ps around scope aims) v → wanted_row is ≡ got (items_wanted ps around scope r) v
  wanted_got is found = made_got due wanted_row v is (found ∙ ap (λ (xs : List Aim). got (each_walk ps around scope xs) v) wants)

  pub wanted_run : (w : Written) → w ≡ run (each_walk ps around scope aims) v → w ≡ run (items_wanted ps around scope r) v
  wanted_run w was = made_run due wanted_row v w (was ∙ ap (λ (xs : List Aim). run (each_walk ps around scope xs) v) wants)
