-- What a constructor makes of the values of its arguments.
use Rattle.std.proofs.Common.{◌≡◌, ◌∙◌, ℕ, List, Option, length, ap, sym}
use Rattle.std.proofs.lemmas.List.{length-map}
use Rattle.sail_types.specs.declared.types.Typ.{Typ}
use Rattle.sail_core.specs.declared.tree.Core.{Core}
use Rattle.value_indices.specs.Steps.{Walk}
use Rattle.value_indices.specs.Walking.{Written, got, run}
use Rattle.value_indices.specs.declared.indices.Indices.{Indices}
use Rattle.value_indices.specs.declared.indices.Reading.{Reading}
use Rattle.value_indices.proofs.Walks.{got_bind, run_bind}
use Rattle.pattern_leaves.specs.Settings.{Around}
use Rattle.call_arguments.specs.declared.aims.Aim.{Aim}
use Rattle.call_notes.specs.Noted.{node_ended}
use Rattle.expression_steps.specs.Calls.{constructed, constructor_types, known_arguments, named_made}
use Rattle.expression_steps.specs.Coded.{each_part}
use Rattle.expression_steps.specs.Expressions.{part}

module _ (around : Around) (k u m : ℕ) (args : List Core) (aim : Aim) (is : List Indices) (known : Option (List Reading)) (types : List Typ)
    (knows : known ≡ known_arguments around u aim) (typed : types ≡ constructor_types around u m (length args)) where
  abbrev made : Walk Indices
  made = named_made around u (each_part args) (known_arguments around u aim) (constructor_types around u m (length (each_part args))) is

  same : named_made around u (each_part args) known types is ≡ made
  same = λ j. named_made around u (each_part args) (knows j) ((typed ∙ ap (constructor_types around u m) (sym (length-map args part))) j) is

  module _ (w v : Written) (value : Indices) (gives : value ≡ got (named_made around u (each_part args) known types is) w)
      (goes : v ≡ run (named_made around u (each_part args) known types is) w) where
    pub constructed_got : got (node_ended k is value) v ≡ got (constructed around k u m (each_part args) aim is) w
    constructed_got =
        (λ j. got (node_ended k is ((gives ∙ ap (λ s. got s w) same) j)) ((goes ∙ ap (λ s. run s w) same) j)) ∙ sym (got_bind made (node_ended k is) w)

    pub constructed_run : run (node_ended k is value) v ≡ run (constructed around k u m (each_part args) aim is) w
    constructed_run =
        (λ j. run (node_ended k is ((gives ∙ ap (λ s. got s w) same) j)) ((goes ∙ ap (λ s. run s w) same) j)) ∙ sym (run_bind made (node_ended k is) w)
