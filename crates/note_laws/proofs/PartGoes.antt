-- Parts, one after the other, go through the mappings of each.
use Rattle.std.specs.Prelude.{List, None, Option, Some, [], ◌∷◌}
use Rattle.sail_base.specs.declared.place.Place.{Place}
use Rattle.sail_types.specs.declared.numbers.Con.{Con}
use Rattle.sail_types.specs.declared.numbers.Num.{Num}
use Rattle.value_indices.specs.Steps.{Walk}
use Rattle.value_indices.specs.declared.indices.Indices.{Indices}
use Rattle.pattern_leaves.specs.Settings.{Around, Scope}
use Rattle.call_arguments.specs.declared.aims.Aim.{Aim}
use Rattle.call_arguments.specs.declared.aims.Aim.TheVariants as Aims
use Rattle.expression_steps.specs.Parts.{none, one, two, three, four, led, each_walk, number_walk, number_before}
use Rattle.expression_steps.specs.Parts.{numbers_behind, numbers_walk, truth_walk, condition_walk, under, given_that, Part}
use Rattle.note_laws.specs.Ways.{Told}
use Rattle.note_laws.proofs.Goes.{Goes, IsTabled, Every, PartGoes, give_goes, bind_goes, assume_goes, scoped_goes}
use Rattle.note_laws.proofs.EndGoes.{integer_number_goes, wrong_value_goes}
use Rattle.note_laws.proofs.TruthGoes.{then_truth_goes, truth_of_goes}

module _ (told : Told) where
  pub one_goes : (place : Place) (f : (Part → Walk Indices)) → ((a : Part) → PartGoes told a → Goes told (f a)) → (parts : List Part)
      → Every (PartGoes told) parts → Goes told (one place f parts)
  one_goes place f f_go (a ∷ []) parts_go = f_go a parts_go.0
  one_goes place f f_go parts parts_go = wrong_value_goes told place

  pub two_goes : (place : Place) (f : (Part → Part → Walk Indices)) → ((a : Part) → PartGoes told a → (b : Part) → PartGoes told b → Goes told (f a b))
      → (parts : List Part) → Every (PartGoes told) parts → Goes told (two place f parts)
  two_goes place f f_go (a ∷ b ∷ []) parts_go = f_go a parts_go.0 b parts_go.1.0
  two_goes place f f_go parts parts_go = wrong_value_goes told place

  pub truth_walk_goes : (a : Part) → PartGoes told a → (around : Around) (tabled : IsTabled told around) (scope : Scope) → Goes told (truth_walk a around scope)
  truth_walk_goes a a_go around tabled scope = bind_goes told _ _ (a_go.walk around tabled scope Aims.Free) (truth_of_goes told a.place)

  pub under_goes : (c : Con) (a : Part) → PartGoes told a → (around : Around) (tabled : IsTabled told around) (scope : Scope) (aim : Aim)
      → Goes told (under c a around scope aim)
  under_goes c a a_go around tabled scope aim = bind_goes told _ _ (assume_goes told c) (λ t. a_go.walk around tabled scope aim)

  pub led_goes : (place : Place) (f : (Part → List Part → Walk Indices))
      → ((a : Part) → PartGoes told a → (b : List Part) → Every (PartGoes told) b → Goes told (f a b)) → (parts : List Part)
      → Every (PartGoes told) parts → Goes told (led place f parts)
  led_goes place f f_go (a ∷ parts) parts_go = f_go a parts_go.0 parts parts_go.1
  led_goes place f f_go [] parts_go = wrong_value_goes told place

  pub condition_walk_goes : (a : Part) → PartGoes told a → (around : Around) (tabled : IsTabled told around) (scope : Scope) (next : (Con → Walk Indices))
      → ((a : Con) → Goes told (next a)) → Goes told (condition_walk a around scope next)
  condition_walk_goes a a_go around tabled scope next next_go = bind_goes told _ _ (truth_walk_goes a a_go around tabled scope) (then_truth_goes told _ next_go)

  pub each_walk_goes : (parts : List Part) → Every (PartGoes told) parts → (around : Around) (tabled : IsTabled told around) (scope : Scope) (aims : List Aim)
      → Goes told (each_walk parts around scope aims)
  each_walk_goes [] parts_go around tabled scope aims = give_goes told _
  each_walk_goes (a ∷ parts) parts_go around tabled scope [] =
      bind_goes told _ _ (parts_go.0.walk around tabled scope Aims.Free)
      (λ i. bind_goes told _ _ (each_walk_goes parts parts_go.1 around tabled scope []) (λ is. give_goes told _))
  each_walk_goes (a ∷ parts) parts_go around tabled scope (aim ∷ aims) =
      bind_goes told _ _ (parts_go.0.walk around tabled scope aim)
      (λ i. bind_goes told _ _ (each_walk_goes parts parts_go.1 around tabled scope aims) (λ is. give_goes told _))

  pub none_goes : (place : Place) (w : Walk Indices) → Goes told w → (parts : List Part) → Every (PartGoes told) parts → Goes told (none place w parts)
  none_goes place w w_go [] parts_go = w_go
  none_goes place w w_go parts parts_go = wrong_value_goes told place

  pub given_that_goes : (c : Con) (a : Part) → PartGoes told a → (around : Around) (tabled : IsTabled told around) (scope : Scope) (aim : Aim)
      → Goes told (given_that c a around scope aim)
  given_that_goes c a a_go around tabled scope aim = scoped_goes told _ (under_goes c a a_go around tabled scope aim)

  pub number_walk_goes : (a : Part) → PartGoes told a → (around : Around) (tabled : IsTabled told around) (scope : Scope)
      → Goes told (number_walk a around scope)
  number_walk_goes a a_go around tabled scope = bind_goes told _ _ (a_go.walk around tabled scope Aims.Free) (integer_number_goes told a.place)

  pub number_before_goes : (n : Num) (ns : Option (List Num)) → Goes told (number_before n ns)
  number_before_goes n None = give_goes told _
  number_before_goes n (Some ns) = give_goes told _

  pub numbers_behind_goes : (rest : Walk (Option (List Num))) → Goes told rest → (n : Option Num) → Goes told (numbers_behind rest n)
  numbers_behind_goes rest rest_go None = give_goes told _
  numbers_behind_goes rest rest_go (Some n) = bind_goes told _ _ rest_go (number_before_goes n)

  pub numbers_walk_goes : (parts : List Part) → Every (PartGoes told) parts → (around : Around) (tabled : IsTabled told around) (scope : Scope)
      → Goes told (numbers_walk parts around scope)
  numbers_walk_goes [] parts_go around tabled scope = give_goes told _
  numbers_walk_goes (a ∷ parts) parts_go around tabled scope =
      bind_goes told _ _ (number_walk_goes a parts_go.0 around tabled scope) (numbers_behind_goes _ (numbers_walk_goes parts parts_go.1 around tabled scope))

  pub four_goes : (place : Place) (f : (Part → Part → Part → Part → Walk Indices))
      → ((a : Part) → PartGoes told a → (b : Part) → PartGoes told b → (c : Part) → PartGoes told c → (d : Part) → PartGoes told d → Goes told
      (f a b c d)) → (parts : List Part) → Every (PartGoes told) parts → Goes told (four place f parts)
  four_goes place f f_go (a ∷ b ∷ c ∷ d ∷ []) parts_go = f_go a parts_go.0 b parts_go.1.0 c parts_go.1.1.0 d parts_go.1.1.1.0
  four_goes place f f_go parts parts_go = wrong_value_goes told place

  pub three_goes : (place : Place) (f : (Part → Part → Part → Walk Indices))
      → ((a : Part) → PartGoes told a → (b : Part) → PartGoes told b → (c : Part) → PartGoes told c → Goes told (f a b c)) → (parts : List Part)
      → Every (PartGoes told) parts → Goes told (three place f parts)
  three_goes place f f_go (a ∷ b ∷ c ∷ []) parts_go = f_go a parts_go.0 b parts_go.1.0 c parts_go.1.1.0
  three_goes place f f_go parts parts_go = wrong_value_goes told place
