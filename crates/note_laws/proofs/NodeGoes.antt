-- What a node makes and gives goes through no mapping.
use Rattle.std.specs.Prelude.{List, None, Option, Some, ℕ, [], ◌∷◌}
use Rattle.std.proofs.Common.{sym, subst, map}
use Rattle.sail_base.specs.declared.place.Place.{Place}
use Rattle.sail_core.specs.declared.tree.Giver.{Giver}
use Rattle.sail_core.specs.declared.tree.Giver.TheVariants as By
use Rattle.value_indices.specs.Steps.{Walk}
use Rattle.value_indices.specs.declared.indices.Indices.{Indices}
use Rattle.value_indices.specs.declared.indices.Indices.TheOpen as W
use Rattle.value_indices.specs.declared.indices.Indices.TheOpen.{Indices-F}
use Rattle.value_indices.specs.declared.indices.Reading.{Reading}
use Rattle.value_indices.specs.declared.notes.Made.{Made}
use Rattle.value_indices.specs.declared.notes.Made.TheVariants as Makes
use Rattle.pattern_leaves.specs.declared.names.Bound.{Bound}
use Rattle.call_arguments.specs.Placing.{variable_in}
use Rattle.call_notes.specs.Noted.{node_made, node_ended, made_opened, number_given, all_given}
use Rattle.call_notes.specs.Noted.{form_given, names_given, node_given, numbers_by, numbers_given, numbers_noted, type_given}
use Rattle.value_indices.specs.declared.indices.Indices.{roll-Indices}
use Rattle.value_indices.specs.declared.indices.Indices.TheFolds.{fold-roll-Indices, ind-Indices, map-Indices}
use Rattle.value_indices.specs.declared.indices.Reading.{fold-Reading}
use Rattle.note_laws.specs.Ways.{Told}
use Rattle.note_laws.proofs.Goes.{Goes, Every, give_goes, bind_goes, note_goes, give_number_goes}
use Rattle.note_laws.proofs.EndGoes.{opened_at_goes}

module _ (told : Told) where
  pub node_made_goes : (k : ℕ) (is : List Indices) (m : Made) → Goes told (node_made k is m)
  node_made_goes k is m = note_goes told _ (λ facts. tt)

  pub node_ended_goes : (k : ℕ) (is : List Indices) (i : Indices) → Goes told (node_ended k is i)
  node_ended_goes k is i = bind_goes told _ _ (node_made_goes k is (Makes.ByIndices i)) (λ t. give_goes told _)

  pub made_opened_goes : (place : Place) (k : ℕ) (is : List Indices) (r : Reading) → Goes told (made_opened place k is r)
  made_opened_goes place k is r = bind_goes told _ _ (node_made_goes k is (Makes.ByType r)) (λ t. opened_at_goes told place r)

  pub number_given_goes : (v : Option ℕ) → Goes told (number_given v)
  number_given_goes None = give_goes told _
  number_given_goes (Some v) = give_number_goes told v

  pub all_given_goes : (ws : List (Walk (Unit {0}))) → Every (λ (w : Walk (Unit {0})). Goes told w) ws → Goes told (all_given ws)
  all_given_goes [] walks_go = give_goes told _
  all_given_goes (w ∷ ws) walks_go = bind_goes told _ _ walks_go.0 (λ t. all_given_goes ws walks_go.1)

  abbrev Given : Type 0
  Given = (i : Indices) × Goes told (numbers_given i)

  abbrev Typed : Type 0
  Typed = (r : Reading) × Unit {0}

  abbrev whole : Indices-F Given Typed → Indices-F Indices Reading
  whole y = map-Indices Given Typed Indices Reading (λ p. p.0) (λ r. r.0) y

  abbrev types_given : Reading → Walk (Unit {0})
  types_given = fold-Reading (Walk (Unit {0})) (Walk (Unit {0})) form_given type_given

  parts_given_goes : (ys : List Given) → Goes told (all_given (map numbers_given (map (λ (y : Given). y.0) ys)))
  parts_given_goes [] = give_goes told _
  parts_given_goes (y ∷ ys) = bind_goes told _ _ y.1 (λ t. parts_given_goes ys)

  form_given_goes : (y : Indices-F Given Typed)
      → Goes told (form_given (map-Indices Indices Reading (Walk (Unit {0})) (Walk (Unit {0})) numbers_given types_given (whole y)))
  form_given_goes (W.Integer n) = number_given_goes (variable_in n)
  form_given_goes (W.Tuple ys) = parts_given_goes ys
  form_given_goes W.Never = give_goes told _
  form_given_goes W.Unit = give_goes told _
  form_given_goes (W.Truth c) = give_goes told _
  form_given_goes W.Bit = give_goes told _
  form_given_goes (W.Bits t) = number_given_goes (variable_in t)
  form_given_goes W.String = give_goes told _
  form_given_goes (W.List r) = give_goes told _
  form_given_goes (W.Vector t r) = number_given_goes (variable_in t)
  form_given_goes (W.Named u is rs) = give_goes told _
  form_given_goes (W.Variable i) = give_goes told _

  abbrev AllGiven : Indices → Type 0
  AllGiven i = Goes told (numbers_given i)

  rolled_given : (y : Indices-F Given Typed) → AllGiven (roll-Indices (whole y))
  rolled_given y =
      subst (λ (w : Walk (Unit {0})). Goes told w)
      (sym (fold-roll-Indices (Walk (Unit {0})) (Walk (Unit {0})) form_given type_given (whole y))) (form_given_goes y)

  pub numbers_given_goes : (i : Indices) → Goes told (numbers_given i)
  numbers_given_goes =
      ind-Indices AllGiven (λ r. Unit {0}) (λ e y same_form. subst (λ d. AllGiven (roll-Indices d)) same_form (rolled_given y)) (λ e y same_form. tt)

  pub numbers_by_goes : (g : Giver) (i : Indices) → Goes told (numbers_by g i)
  numbers_by_goes g i = bind_goes told _ _ (note_goes told _ (λ facts. tt)) (λ t. numbers_given_goes i)

  pub numbers_noted_goes : (k : ℕ) (i : Indices) → Goes told (numbers_noted k i)
  numbers_noted_goes k i = numbers_by_goes (By.Node k) i

  pub names_given_goes : (g : Giver) (is : List Indices) (found : List Bound) → Goes told (names_given g is found)
  names_given_goes g is found = bind_goes told _ _ (numbers_by_goes g _) (λ t. give_goes told _)

  pub node_given_goes : (k : ℕ) (i : Indices) → Goes told (node_given k i)
  node_given_goes k i = bind_goes told _ _ (numbers_noted_goes k i) (λ t. give_goes told _)
