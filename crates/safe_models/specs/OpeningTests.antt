-- The test of a model's openings, each behind the names of lets before it.
use Rattle.std.specs.List.{list_all}
use Rattle.std.specs.Prelude.{◌&&◌, Bool, true, List, [], ◌∷◌, ◌++◌}
use Rattle.sail_core.specs.declared.model.CoreModel.{CoreModel}
use Rattle.sail_core.specs.declared.model.Opening.{Opening}
use Rattle.sail_core.specs.declared.model.OpeningKind.{OpeningKind}
use Rattle.sail_core.specs.declared.model.OpeningKind.TheVariants as O
use Rattle.pattern_leaves.specs.declared.names.TopLevel.{TopLevel}
use Rattle.constraint_gen.specs.Models.{around_with, names_of}
use Rattle.pattern_laws.specs.Standing.{arm_stands}
use Rattle.whole_runs.specs.Initials.{pure_around}
use Rattle.safe_models.specs.CoreTests.{value_fits}
use Rattle.safe_models.specs.Names.{binds_once}

module _ (m : CoreModel) where
  -- a value stands, and a let's pattern does
  abbrev pub opening_fits : List TopLevel → Opening → OpeningKind → Bool
  opening_fits names o (O.Let arm) = value_fits (pure_around m [] names) [] o.value && arm_stands m.types [] arm
  opening_fits names o (O.Register r) = value_fits (pure_around m [] names) [] o.value

  abbrev pub openings_fit : List TopLevel → List Opening → Bool
  openings_fit names [] = true
  openings_fit names (o ∷ os) = opening_fits names o o.kind && openings_fit (names ++ names_of (around_with m names) o o.kind) os

-- and no let binds a name twice
abbrev pub opening_once : OpeningKind → Bool
opening_once (O.Let arm) = binds_once arm
opening_once (O.Register r) = true

abbrev pub openings_once : List Opening → Bool
openings_once os = list_all (λ o. opening_once o.kind) os
