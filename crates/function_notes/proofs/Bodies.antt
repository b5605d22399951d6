-- Bodies of clauses that no `val` declares: the walk over what stands behind the type that is written before it.
use Rattle.std.proofs.Common.{◌≡◌, ◌∙◌, ap, sym, ℕ, Option, Some, Result, Ok, Err}
use Rattle.std.specs.Prelude.{Bool, false, IfOk, OnOk}
use Rattle.sail_core.specs.declared.tree.Core.{Core, out-Core}
use Rattle.value_indices.specs.declared.indices.Indices.{Indices}
use Rattle.value_indices.specs.Steps.{Walk, bind}
use Rattle.value_indices.specs.Walking.{Written, got, run}
use Rattle.value_indices.proofs.Walks.{got_bind, run_bind}
use Rattle.pattern_leaves.specs.Settings.{Around, Scope}
use Rattle.call_arguments.specs.declared.aims.Aim.{Aim}
use Rattle.call_arguments.specs.declared.aims.Aim.TheVariants as Aims
use Rattle.call_notes.specs.Noted.{node_given}
use Rattle.expression_notes.specs.Nodes.{cast_ended, cast_given}
use Rattle.expression_notes.specs.Parts.{Part}
use Rattle.expression_notes.specs.Expressions.{part}
use Rattle.function_notes.specs.Functions.{bare_part, behind_part, behind_type, body_part, comes_to_result, only, result_part}

-- ---- what comes to what is wanted, by its node

module _ (first : Walk Indices) (f g : Indices → Walk Indices) (w : Written) where
  both_got : got (bind (bind first f) g) w ≡ got (bind (f (got first w)) g) (run first w)
  both_got =
      got_bind (bind first f) g w
      ∙ ((λ j. got (g (got_bind first f w j)) (run_bind first f w j))
      ∙ sym (got_bind (f (got first w)) g (run first w)))

  both_run : run (bind (bind first f) g) w ≡ run (bind (f (got first w)) g) (run first w)
  both_run =
      run_bind (bind first f) g w
      ∙ ((λ j. run (g (got_bind first f w j)) (run_bind first f w j))
      ∙ sym (run_bind (f (got first w)) g (run first w)))

-- the walk over what stands in such a node
abbrev pub cast_of : ℕ → Aim → Walk Indices → Walk Indices
cast_of k aim first = bind (bind first (cast_ended k aim)) (node_given k)

module _ (first whole : Walk Indices) (k : ℕ) (aim : Aim) (opens : whole ≡ cast_of k aim first) (value : Indices) (w v : Written)
    (gives : value ≡ got first w) (walks : v ≡ run first w) where
  pub cast_value : {E : Type 0} (r : Result Indices E) → IfOk r (λ made. made ≡ got (cast_given k aim value) v) → IfOk r (λ made. made ≡ got whole w)
  cast_value (Ok made) h =
      h ∙ ((λ j. got (cast_given k aim (gives j)) (walks j))
      ∙ (sym (both_got first (cast_ended k aim) (node_given k) w) ∙ ap (λ (a : Walk Indices). got a w) (sym opens)))
  cast_value (Err e) h = tt

  pub cast_walked : {E : Type 0} (r : Result Indices E) (u : Written) → OnOk r (u ≡ run (cast_given k aim value) v) → OnOk r (u ≡ run whole w)
  cast_walked (Ok made) u h =
      h ∙ ((λ j. run (cast_given k aim (gives j)) (walks j))
      ∙ (sym (both_run first (cast_ended k aim) (node_given k) w) ∙ ap (λ (a : Walk Indices). run a w) (sym opens)))
  cast_walked (Err e) u h = tt

-- ---- the type that is written before a body, and the node of the result

module _ (body : Core) (around : Around) (scope : Scope) (aim : Aim) where
  abbrev number : ℕ
  number = (out-Core body).number

  pub behind_walk : (inside : Core) → behind_type (out-Core body) ≡ Some inside
      → Part.walk (bare_part body) around scope aim ≡ cast_of number Aims.Free (Part.walk (part inside) around scope aim)
  behind_walk inside e = ap (λ (o : Option Core). Part.walk (behind_part body o) around scope aim) e

  pub body_walk : (declared : Bool) (inside : Core) (within : Scope) → declared ≡ false
      → only (comes_to_result (out-Core body).kind) (out-Core body).parts ≡ Some inside → within ≡ scope
      → Part.walk (body_part declared body) around scope aim ≡ cast_of number aim (Part.walk (bare_part inside) around within aim)
  body_walk declared inside within undeclared behind names =
      ap (λ (d : Bool). Part.walk (body_part d body) around scope aim) undeclared
      ∙ (ap (λ (o : Option Core). Part.walk (result_part body o) around scope aim) behind
      ∙ (λ j. cast_of number aim (Part.walk (bare_part inside) around (sym names j) aim)))
