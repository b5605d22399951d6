-- An `if` of another number of parts than two or three.
use Rattle.std.proofs.Common.{ℕ, ◌≡◌, ◌∙◌, ◌≤◌, ◌<◌, ap, sym, refl, arith, List, [], ◌∷◌, length, Option, None}
use Rattle.sail_base.specs.declared.place.Place.{Place}
use Rattle.sail_types.specs.declared.numbers.Con.{Con}
use Rattle.sail_types.specs.declared.shapes.Shape.{Shape}
use Rattle.sail_core.specs.declared.tree.Core.{Core}
use Rattle.value_indices.proofs.Walks.{got_give, run_give}
use Rattle.value_indices.specs.Steps.{Walk, give}
use Rattle.value_indices.specs.Walking.{Written, got, run}
use Rattle.value_indices.specs.declared.indices.Indices.{Indices}
use Rattle.pattern_leaves.specs.Settings.{Around, Scope}
use Rattle.call_arguments.specs.declared.aims.Aim.{Aim}
use Rattle.expression_steps.specs.Coded.{each_part}
use Rattle.expression_steps.specs.Statements.{branches_forms}
use Rattle.expression_notes.proofs.Alike.{Alike}

module _ (place : Place) (number : ℕ) (shape : Shape) (around : Around) (scope : Scope) (aim : Aim) (w : Written) where
  abbrev nothing : Option (Con × Indices)
  nothing = None

  abbrev branches : List Core → Walk (Option (Con × Indices))
  branches cs = branches_forms place number shape (each_part cs) around scope aim

  few : (cs : List Core) → length cs < 2 → branches cs ≡ give nothing
  few [] less = refl
  few (a ∷ []) less = refl
  few (a ∷ b ∷ cs) less = absurd (omega arith)

  many : (cs : List Core) → 4 ≤ length cs → branches cs ≡ give nothing
  many [] more = absurd (omega arith)
  many (a ∷ []) more = absurd (omega arith)
  many (a ∷ b ∷ []) more = absurd (omega arith)
  many (a ∷ b ∷ c ∷ []) more = absurd (omega arith)
  many (a ∷ b ∷ c ∷ d ∷ cs) more = refl

  few_got : (cs : List Core) → length cs < 2 → nothing ≡ got (branches cs) w
  few_got cs less = sym (got_give nothing w) ∙ ap (λ (x : Walk (Option (Con × Indices))). got x w) (sym (few cs less))

  few_run : (cs : List Core) → length cs < 2 → w ≡ run (branches cs) w
  few_run cs less = sym (run_give nothing w) ∙ ap (λ (x : Walk (Option (Con × Indices))). run x w) (sym (few cs less))

  pub few_alike : (cs : List Core) → length cs < 2 → Alike nothing (got (branches cs) w) w (run (branches cs) w)
  few_alike cs less = record { value = few_got cs less; walked = few_run cs less }

  many_got : (cs : List Core) → 4 ≤ length cs → nothing ≡ got (branches cs) w
  many_got cs more = sym (got_give nothing w) ∙ ap (λ (x : Walk (Option (Con × Indices))). got x w) (sym (many cs more))

  many_run : (cs : List Core) → 4 ≤ length cs → w ≡ run (branches cs) w
  many_run cs more = sym (run_give nothing w) ∙ ap (λ (x : Walk (Option (Con × Indices))). run x w) (sym (many cs more))

  pub many_alike : (cs : List Core) → 4 ≤ length cs → Alike nothing (got (branches cs) w) w (run (branches cs) w)
  many_alike cs more = record { value = many_got cs more; walked = many_run cs more }
