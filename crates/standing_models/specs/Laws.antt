-- In the core of a text that nothing is refused for, bodies of clauses are casts, and casts and guards stand right in them.
use Rattle.std.specs.Prelude.{◌≡◌, ℕ, true, List, [], ◌∷◌, Option, Some, None}
use Rattle.sail_syntax.specs.declared.definitions.Def.{Def}
use Rattle.sail_core.specs.declared.model.Direction.{Direction}
use Rattle.sail_core.specs.declared.model.Function.{Function}
use Rattle.sail_core.specs.declared.model.Opening.{Opening}
use Rattle.sail_core.specs.declared.patterns.Arm.{Arm}
use Rattle.sail_core.specs.declared.tree.Core.{Core, out-Core}
use Rattle.sail_core.specs.declared.tree.Kind.TheVariants as K
use Rattle.shape_models.specs.Models.{Tabled}
use Rattle.shapes.specs.Failures.{refusal}
use Rattle.shapes.specs.Resolved.{resolved}
use Rattle.soundness_forms.specs.Standing.{is_body, is_bound}
use Rattle.standing_cores.specs.Places.{places}
use Rattle.standing_models.specs.Reads.{text_reads}

-- each body is a cast, maybe behind a guard
abbrev pub AreBodies : List Core → Type 0
AreBodies [] = Unit {0}
AreBodies (c ∷ cs) = (is_body (places c) ≡ true) × AreBodies cs

pub record ClausesPlaced (core : Core) : Type 0 where
  pub arms : List Arm
  pub kind : (out-Core core).kind ≡ K.Clauses arms
  pub bodies : AreBodies (out-Core core).parts

-- those of a function and of its measure
pub record FunctionPlaced (f : Function) : Type 0 where
  pub body : ClausesPlaced f.body
  pub measure : (core : Core) → f.measure ≡ Some core → ClausesPlaced core

abbrev pub AllFunctions : List Function → Type 0
AllFunctions [] = Unit {0}
AllFunctions (f ∷ fs) = FunctionPlaced f × AllFunctions fs

abbrev pub AllDirections : List Direction → Type 0
AllDirections [] = Unit {0}
AllDirections (d ∷ ds) = ClausesPlaced d.body × AllDirections ds

-- a value that a top-level let binds, or that a register begins with
abbrev pub AllOpenings : List Opening → Type 0
AllOpenings [] = Unit {0}
AllOpenings (o ∷ os) = (is_bound (places o.value) ≡ true) × AllOpenings os

-- where each type that is written of an expression reads
abbrev pub ModelsStand : Type 0
ModelsStand = (tabled : Tabled) (cycle : List ℕ → Option ℕ) (text : List Def) → refusal tabled text ≡ None → text_reads tabled text ≡ true
    → AllFunctions (resolved tabled cycle text).functions × AllDirections (resolved tabled cycle text).directions
    × AllOpenings (resolved tabled cycle text).openings
