-- A vector or a list, when the type of its items is known.
use Rattle.std.proofs.Common.{◌≡◌, ◌∙◌, ap, sym, ℕ, Bool, true, false, List, length, replicate}
use Rattle.std.proofs.lemmas.List.{length-map}
use Rattle.sail_base.specs.declared.place.Place.{Place}
use Rattle.sail_types.specs.declared.shapes.Shape.{Shape}
use Rattle.sail_core.specs.declared.tree.Core.{Core}
use Rattle.value_indices.specs.Steps.{Walk}
use Rattle.value_indices.specs.Walking.{Written, got, run}
use Rattle.value_indices.specs.declared.indices.Indices.{Indices}
use Rattle.value_indices.specs.declared.indices.Reading.{Reading, out-Reading}
use Rattle.pattern_leaves.proofs.Walked.{then_got, then_run}
use Rattle.pattern_leaves.specs.Settings.{Around, Scope}
use Rattle.call_arguments.specs.Aims.{aimed, is_hole_form}
use Rattle.call_arguments.specs.declared.aims.Aim.{Aim}
use Rattle.call_arguments.specs.declared.aims.Aim.TheVariants as Aims
use Rattle.expression_steps.specs.Coded.{each_part}
use Rattle.expression_steps.specs.Expressions.{part}
use Rattle.expression_steps.specs.Parts.{each_walk}
use Rattle.expression_steps.specs.Values.{Row, items_free, items_walk, items_wanted, row_of, row_walk, wanted_item}
use Rattle.expression_steps.proofs.Rows.{due_items, free_items, wanted_got, wanted_run}
use Rattle.expression_notes.proofs.Alike.{Alike}

module _ (place : Place) (number : ℕ) (is_list : Bool) (shape : Shape) (cs : List Core) (around : Around) (scope : Scope) (aim : Aim) (wanted : Reading)
    (v w : Written) (asked : wanted ≡ wanted_item aim) where
  abbrev items : Reading → Walk Row
  items x = items_walk (each_part cs) around scope shape x

  abbrev whole : Walk Indices
  whole = row_walk place number is_list shape (each_part cs) around scope aim

  abbrev row : Row → Walk Indices
  row x = row_of place number is_list x

  abbrev RowIs : Row → Type 0
  RowIs x = Alike (got (row x) w) (got whole v) (run (row x) w) (run whole v)

  ended : (x : Row) (walk : Walk Row) → walk ≡ items wanted → x ≡ got walk v → w ≡ run walk v → RowIs x
  ended x walk opens is was =
      let first = items (wanted_item aim) in
      let found : x ≡ got first v = is ∙ ap (λ (a : Walk Row). got a v) opens ∙ ap (λ (r : Reading). got (items r) v) asked in
      let went : w ≡ run first v = was ∙ ap (λ (a : Walk Row). run a v) opens ∙ ap (λ (r : Reading). run (items r) v) asked in
      record { value = then_got first row v w x found went; walked = then_run first row v w x found went }

  -- none is wanted
  pub row_free : (x : Row) → is_hole_form (out-Reading wanted) ≡ true → x ≡ got (items_free (each_part cs) around scope shape) v
      → w ≡ run (items_free (each_part cs) around scope shape) v → RowIs x
  row_free x hole is was =
      ended x (items_free (each_part cs) around scope shape) (sym (free_items (each_part cs) around scope shape wanted (out-Reading wanted) hole)) is was

  -- a type is wanted of each
  pub row_due : (aims : List Aim) (values : List Indices) → is_hole_form (out-Reading wanted) ≡ false
      → aims ≡ replicate (length cs) (aimed Aims.Due wanted) → values ≡ got (each_walk (each_part cs) around scope aims) v
      → w ≡ run (each_walk (each_part cs) around scope aims) v → RowIs (wanted, values)
  row_due aims values some wants is was =
      let each = wants ∙ ap (λ (n : ℕ). replicate n (aimed Aims.Due wanted)) (sym (length-map cs part)) in
      ended (wanted, values) (items_wanted (each_part cs) around scope wanted)
      (sym (due_items (each_part cs) around scope shape wanted (out-Reading wanted) some))
      (wanted_got (each_part cs) aims around scope wanted v each values is) (wanted_run (each_part cs) aims around scope wanted v each w was)
