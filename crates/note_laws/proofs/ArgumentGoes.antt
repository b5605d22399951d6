-- Calls go through the mappings of their arguments.
use Rattle.std.specs.Prelude.{List, Option, length, slice_get, take, ℕ}
use Rattle.sail_base.specs.declared.place.Place.{Place}
use Rattle.sail_types.specs.declared.types.Typ.{Typ}
use Rattle.sail_core.specs.declared.tree.Callee.{Callee}
use Rattle.sail_core.specs.declared.tree.Callee.TheVariants as D
use Rattle.value_indices.specs.declared.indices.Indices.{Indices}
use Rattle.value_indices.specs.declared.indices.Reading.{Reading}
use Rattle.wide_types.specs.Widening.{parameters_of}
use Rattle.pattern_leaves.specs.Settings.{Around, Scope}
use Rattle.call_arguments.specs.declared.aims.Aim.{Aim}
use Rattle.expression_steps.specs.Parts.{Part}
use Rattle.expression_steps.specs.Calls.{argument_aims, arguments_walk, nestings, places_of, named_made, known_arguments}
use Rattle.expression_steps.specs.Calls.{constructor_types, call_aims, call_count, constructed, call_made, call_walk}
use Rattle.note_laws.specs.Ways.{Told}
use Rattle.note_laws.proofs.Goes.{Goes, IsTabled, Every, PartGoes, bind_goes, take_every}
use Rattle.note_laws.proofs.CallGoes.{called_goes, made_named_goes}
use Rattle.note_laws.proofs.NodeGoes.{node_ended_goes}
use Rattle.note_laws.proofs.PartGoes.{each_walk_goes}

module _ (told : Told) where
  pub named_made_goes : (around : Around) (u : ℕ) (args : List Part) → Every (PartGoes told) args
      → (known : Option (List Reading)) (ts : List Typ) (is : List Indices) → Goes told (named_made around u args known ts is)
  named_made_goes around u args args_go known ts is =
      made_named_goes told around u (parameters_of (slice_get around.types.definitions u)) (places_of args) known ts is

  pub constructed_goes : (around : Around) (k : ℕ) (u : ℕ) (c : ℕ) (args : List Part) → Every (PartGoes told) args → (aim : Aim) (is : List Indices)
      → Goes told (constructed around k u c args aim is)
  constructed_goes around k u c args args_go aim is =
      bind_goes told _ _ (named_made_goes around u args args_go (known_arguments around u aim) (constructor_types around u c (length args)) is)
      (node_ended_goes told k is)

  pub call_made_goes : (around : Around) (tabled : IsTabled told around) (place : Place) (k : ℕ) (callee : Callee) (args : List Part)
      → Every (PartGoes told) args
      → (aim : Aim) (is : List Indices) → Goes told (call_made around place k callee args aim is)
  call_made_goes around tabled place k (D.Constructor u c) args args_go aim is = constructed_goes around k u c args args_go aim is
  call_made_goes around tabled place k callee args args_go aim is = called_goes told around tabled place k callee (nestings args) is

  pub call_walk_goes : (place : Place) (k : ℕ) (callee : Callee) (args : List Part) → Every (PartGoes told) args
      → (around : Around) (tabled : IsTabled told around) (scope : Scope) (aim : Aim) → Goes told (call_walk place k callee args around scope aim)
  call_walk_goes place k callee args args_go around tabled scope aim =
      bind_goes told _ _ (each_walk_goes told (take (call_count around callee (length args)) args)
      (take_every _ (call_count around callee (length args)) args args_go) around tabled scope
      (call_aims around callee (length args) aim)) (call_made_goes around tabled place k callee args args_go aim)

  pub arguments_walk_goes : (args : List Part) → Every (PartGoes told) args → (around : Around) (tabled : IsTabled told around) (scope : Scope) (ts : List Typ)
      → Goes told (arguments_walk args around scope ts)
  arguments_walk_goes args args_go around tabled scope ts = each_walk_goes told args args_go around tabled scope (argument_aims ts)
