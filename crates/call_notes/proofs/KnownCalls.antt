-- A call of a function whose arguments all have values.
use Rattle.std.proofs.Common.{◌≡◌, ◌∙◌, ap, sym, ℕ, Bool, false, if◌then◌else◌, List, length}
use Rattle.value_indices.specs.Steps.{Walk, bind, next_variable}
use Rattle.value_indices.specs.Walking.{Written, got, run}
use Rattle.value_indices.proofs.Walks.{got_next, run_next}
use Rattle.sail_base.specs.declared.place.Place.{Place}
use Rattle.sail_core.specs.declared.model.Function.{Function}
use Rattle.sail_types.specs.declared.numbers.Index.{Index}
use Rattle.value_indices.specs.declared.indices.Indices.{Indices}
use Rattle.value_indices.specs.declared.indices.Reading.{Reading}
use Rattle.call_arguments.specs.Callees.{numbers_from, types_from}
use Rattle.pattern_leaves.specs.Settings.{Around}
use Rattle.call_notes.specs.Calls.{function_called, known_call, numbered_call}
use Rattle.call_notes.specs.Ends.{any_never, never_value}
use Rattle.call_notes.proofs.Turns.{then_got, then_run}

module _ (around : Around) (place : Place) (k i : ℕ) (f : Function) (bs : List Bool) (is : List Indices) (js : List Index) (qs : List Reading) (w : Written)
    (none : any_never is ≡ false) (js_is : js ≡ numbers_from 0 f.variables f.parameters is)
    (qs_is : qs ≡ types_from w.next 0 (length f.type_variables) f.parameters is) where
  abbrev numbered : ℕ → Walk Indices
  numbered m = numbered_call around place k i f bs is m

  numbered_is : function_called around place k i f js qs bs is ≡ numbered w.next
  numbered_is = λ j. function_called around place k i f (js_is j) (qs_is j) bs is

  known_is : bind next_variable numbered ≡ known_call around place k i f bs is
  known_is = sym (ap (λ b. if b then never_value else bind next_variable numbered) none)

  pub known_got : got (function_called around place k i f js qs bs is) w ≡ got (known_call around place k i f bs is) w
  known_got =
      ap (λ (k : Walk Indices). got k w) numbered_is
      ∙ then_got next_variable numbered w w w.next (sym (got_next w)) (sym (run_next w))
      ∙ ap (λ (k : Walk Indices). got k w) known_is

  pub known_run : run (function_called around place k i f js qs bs is) w ≡ run (known_call around place k i f bs is) w
  known_run =
      ap (λ (k : Walk Indices). run k w) numbered_is
      ∙ then_run next_variable numbered w w w.next (sym (got_next w)) (sym (run_next w))
      ∙ ap (λ (k : Walk Indices). run k w) known_is
