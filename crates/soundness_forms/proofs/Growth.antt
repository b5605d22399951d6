-- Walks behind which what was in force still is, and whose variables are counted on.
use Rattle.std.proofs.Common.{ℕ, ◌≤◌, Bool, true, false, List, [], ◌∷◌, ◌++◌, map, Some, refl, sym, ap, ◌∙◌, subst, arith}
use Rattle.std.proofs.lemmas.List.{append-nil, append_assoc}
use Rattle.sail_base.specs.declared.place.Place.{Place}
use Rattle.sail_core.specs.declared.tree.Giver.TheVariants as By
use Rattle.sail_core.specs.declared.tree.Giver.{Giver}
use Rattle.sail_types.specs.Zero.{deepest}
use Rattle.sail_types.specs.declared.numbers.Con.{Con}
use Rattle.sail_types.specs.declared.numbers.Con.TheVariants as C
use Rattle.sail_types.specs.declared.table.Types.{Types}
use Rattle.value_indices.specs.declared.indices.Indices.{Indices}
use Rattle.value_indices.specs.declared.indices.Indices.TheVariants as I
use Rattle.value_indices.specs.declared.indices.Naming.{Naming}
use Rattle.value_indices.specs.declared.indices.Naming.TheVariants as M
use Rattle.value_indices.specs.declared.indices.Reading.{Reading}
use Rattle.value_indices.specs.declared.notes.Fact.{Fact}
use Rattle.value_indices.specs.declared.notes.Fact.TheVariants as Y
use Rattle.value_indices.specs.declared.notes.Made.{Made}
use Rattle.value_indices.specs.declared.notes.Made.TheVariants as Makes
use Rattle.value_indices.specs.Opening.{opened_for, opening}
use Rattle.value_indices.specs.Steps.{Conditions, Note, Walk, assume, bind, give, given_note, made_note, note, owe, scoped, size_note}
use Rattle.value_fits.specs.Fitting.{fits, owe_fit, owe_made}
use Rattle.value_fits.specs.declared.fitted.Fitted.{Fitted}
use Rattle.fitting_laws.proofs.Counted.{Counts, fits_count}
use Rattle.fitting_laws.proofs.Counting as Counting
use Rattle.fitting_laws.proofs.Counting.{opening_grows}
use Rattle.pattern_leaves.specs.Settings.{Around}
use Rattle.call_arguments.specs.declared.aims.Aim.{Aim}
use Rattle.call_arguments.specs.declared.aims.Aim.TheVariants as Aims
use Rattle.call_notes.specs.Ends.{settled, sized_by, wrong_value}
use Rattle.call_notes.specs.Noted.{node_ended, node_given, node_made, numbers_by, numbers_given, numbers_noted}
use Rattle.expression_forms.specs.Names.{named_opened, named_read}
use Rattle.expression_steps.specs.Expressions.{node_end}
use Rattle.soundness_steps.specs.Noted.{variables_given}
use Rattle.soundness_steps.specs.Steps.{Gives, Grows}
use Rattle.soundness_forms.proofs.Giving.{gives_all}

pub grows_give : {A : Type 0} (a : A) → Grows (give a)
unfolding give
grows_give a = record { onward = λ facts n. omega arith; more = λ facts n. []; extends = λ facts n. sym (append-nil facts) }

pub grows_bind : {A B : Type 0} (w : Walk A) (k : A → Walk B) → Grows w → ((a : A) → Grows (k a)) → Grows (bind w k)
unfolding bind
grows_bind w k h next = record {
  onward = λ facts n.
      let a = h.onward facts n in
      let b = (next (w facts n).value).onward (w facts n).facts (w facts n).next in
      omega arith;
  more = λ facts n. h.more facts n ++ (next (w facts n).value).more (w facts n).facts (w facts n).next;
  extends = λ facts n.
      (next (w facts n).value).extends (w facts n).facts (w facts n).next
      ∙ ap (λ fs. fs ++ (next (w facts n).value).more (w facts n).facts (w facts n).next) (h.extends facts n)
      ∙ append_assoc facts (h.more facts n) ((next (w facts n).value).more (w facts n).facts (w facts n).next);
}

pub grows_scoped : {A : Type 0} (w : Walk A) → Grows w → Grows (scoped w)
unfolding scoped
grows_scoped w h = record { onward = h.onward; more = λ facts n. []; extends = λ facts n. sym (append-nil facts) }

pub grows_assume : (c : Con) → Grows (assume c)
unfolding assume
grows_assume c = record { onward = λ facts n. omega arith; more = λ facts n. Y.Holds c ∷ []; extends = λ facts n. refl }

-- ---- openings, and what is owed

grows_as : {A : Type 0} (w : Walk A) → Counting.Grows w → Grows w
grows_as w h = record { onward = h.onward; more = h.more; extends = h.extends }

pub grows_opening : (r : Reading) (tells : Bool) (name : Naming) → Grows (opening r tells name)
grows_opening r tells name = grows_as (opening r tells name) (opening_grows r tells name)

pub grows_note : (make : List Fact → Note) → Grows (note make)
unfolding note
grows_note make = record { onward = λ facts n. omega arith; more = λ facts n. []; extends = λ facts n. sym (append-nil facts) }

pub grows_owe : (place : Place) (cs : Conditions) → Grows (owe place cs)
unfolding owe
grows_owe place cs = record { onward = λ facts n. omega arith; more = λ facts n. []; extends = λ facts n. sym (append-nil facts) }

pub grows_owe_fit : (place : Place) (a : ℕ → Fitted) → Counts a → Grows (owe_fit place a)
unfolding owe_fit owe_made
grows_owe_fit place a h = record { onward = λ facts n. h n; more = λ facts n. (a n).facts; extends = λ facts n. refl }

pub grows_fits : (place : Place) (types : Types) (i : Indices) (r : Reading) → Grows (owe_fit place (fits types i r))
grows_fits place types i r = grows_owe_fit place (fits types i r) (fits_count types deepest i r)

pub grows_wrong : (place : Place) → Grows (wrong_value place)
grows_wrong place = grows_bind (owe place (Some (C.Truth false) ∷ [])) (λ t. give I.Never) (grows_owe place (Some (C.Truth false) ∷ []))
    (λ t. grows_give I.Never)

pub grows_gives : (w : Walk (Unit {0})) (vs : List ℕ) → Gives w vs → Grows w
grows_gives w vs e = record {
  onward = λ facts n. subst (λ r. n ≤ r.next) (sym (e facts n)) (omega arith);
  more = λ facts n. map Y.IsGiven vs;
  extends = λ facts n. ap (λ r. r.facts) (e facts n);
}

-- ---- ends of nodes

pub grows_settled : (around : Around) (place : Place) (aim : Aim) (i : Indices) → Grows (settled around place aim i)
grows_settled around place Aims.Free i = grows_give i
grows_settled around place (Aims.Given r) i = grows_give i
grows_settled around place (Aims.PartOf r) i = grows_give i
grows_settled around place (Aims.Due r) i =
    grows_bind (owe_fit place (fits around.types i r)) (λ t. give i) (grows_fits place around.types i r) (λ t. grows_give i)

pub grows_by : (giver : Giver) (i : Indices) → Grows (numbers_by giver i)
grows_by giver i =
    grows_bind (note (λ facts. given_note facts giver i)) (λ t. numbers_given i) (grows_note (λ facts. given_note facts giver i)) (λ t.
    grows_gives (numbers_given i) (variables_given i) (gives_all i))

pub grows_given : (k : ℕ) (i : Indices) → Grows (node_given k i)
grows_given k i = grows_bind (numbers_noted k i) (λ t. give i) (grows_by (By.Node k) i) (λ t. grows_give i)

pub grows_end : (k : ℕ) (made : Bool) (i : Indices) → Grows (node_end k made i)
grows_end k true i = grows_given k i
grows_end k false i = grows_give i

pub grows_made : (k : ℕ) (is : List Indices) (m : Made) → Grows (node_made k is m)
grows_made k is m = grows_note (λ facts. made_note facts k is m)

pub grows_ended : (k : ℕ) (is : List Indices) (i : Indices) → Grows (node_ended k is i)
grows_ended k is i = grows_bind (node_made k is (Makes.ByIndices i)) (λ t. give i) (grows_made k is (Makes.ByIndices i)) (λ t. grows_give i)

pub grows_named : (place : Place) (k : ℕ) (name : List ℕ) (r : Reading) → Grows (named_read place k name r)
unfolding opened_for
grows_named place k name r =
    grows_bind (node_made k [] (Makes.ByType r)) (λ t. named_opened place name r) (grows_made k [] (Makes.ByType r)) (λ t.
    grows_bind (sized_by place r) (λ u. opening r false (M.Named name)) (grows_note (λ facts. size_note facts place (Makes.ByType r))) (λ u.
    grows_opening r false (M.Named name)))
