-- Checks by which a value may be of any type, and a call awaits no numbers: what is left of the checked meaning where nothing is asked but that sizes
-- are within their limits and calls lead to instances (Sail language manual, "Type variables").
use Rattle.std.specs.Prelude.{ℕ, nat_eq, ◌/◌, Bool, false, ◌&&◌, List, [], map, length, slice_get, Option, Some, None}
use Rattle.std.specs.List.{list_any}
use Rattle.sail_types.specs.Numbers.{Positive}
use Rattle.sail_types.specs.Places.{Given, only}
use Rattle.sail_types.specs.declared.numbers.Index.{Index}
use Rattle.sail_types.specs.declared.table.Types.{Types}
use Rattle.sail_types.specs.declared.values.Value.{Value}
use Rattle.sail_core.specs.Numbers.{Instance as Awaits}
use Rattle.sail_core.specs.declared.model.CoreModel.{CoreModel}
use Rattle.sail_core.specs.declared.tree.Callee.TheVariants as D
use Rattle.value_indices.specs.Steps.{Note, call_note}
use Rattle.constraint_gen.specs.Models.{around_of}
use Rattle.size_values.specs.declared.sized.Sized.{Sized}
use Rattle.size_values.specs.declared.sized.Sized.TheVariants as S
use Rattle.size_splits.specs.Bodies.{Body}
use Rattle.size_splits.specs.Sizing.{Sizing}
use Rattle.monomorph.specs.declared.found.Found.{Found}
use Rattle.sized_nodes.specs.declared.trees.Instance.{Instance}
use Rattle.monomorph.specs.Found.{instances_in}
use Rattle.monomorph.specs.Instances.{one_or_none, or_none}
use Rattle.monomorph.specs.Lasts.{Model}
use Rattle.checked_meaning.specs.Checked.{Cases, Checks}
use Rattle.sized_nodes.specs.declared.trees.NodeSizes.{NodeSizes}
use Rattle.sized_meanings.specs.Noting.{noted_by_all}
use Rattle.sized_meanings.specs.Present.{gives_at}
use Rattle.sized_meanings.specs.Sized.{numbers_of}
use Rattle.soundness_steps.specs.Works.{Coverage, Setting, Work}
use Rattle.node_counts.specs.Told.{NoteIn, all_noted}
use Rattle.covering_laws.specs.Covered.{is_found, same_numbers}
use Rattle.covering_laws.specs.Given.{first_noted, is_node}
use Rattle.covering_laws.specs.Tested.{all_nodes}

-- ---- the cases of bodies that are read together

-- no number is awaited
abbrev pub none_known : List Index → List (Option Given)
none_known js = map (λ j. None) js

abbrev pub called_of : ℕ → ℕ → Note → Option Awaits
called_of k n (call_note facts place j operands (D.Function g) js qs) = only (is_node k n j operands) (record { place = 0; numbers = none_known js })
called_of k n note = None

abbrev pub called_note : ℕ → ℕ → NoteIn → Option Awaits
called_note k n y = called_of k n y.note

module _ (types : Types) (sizing : Sizing) where
  -- what is given hangs on no numbers
  abbrev pub plain_nodes : List NoteIn → List NodeSizes
  plain_nodes ys = all_nodes types sizing [] [] [] ys

  abbrev pub plain_cases : List NoteIn → Cases
  plain_cases ys = record {
    makes = λ k takes v noted. Some S.Never;
    notes = λ k v noted. noted_by_all (gives_at (plain_nodes ys) k) v noted;
    calls = λ k takes noted. first_noted (called_note k (length takes)) ys;
  }

-- ---- a model

abbrev pub function_cases : Model → ℕ → Cases
function_cases m f = plain_cases m.core.types m.sizing (all_noted (or_none (slice_get m.bodies.functions f)))

abbrev pub alone_cases : Model → Option Body → Cases
alone_cases m o = plain_cases m.core.types m.sizing (all_noted (one_or_none o))

abbrev pub any_types : List Value → List Sized
any_types vs = map (λ v. S.Never) vs

abbrev pub plain_checks : Model → Checks
plain_checks m = record {
  types = m.core.types;
  function = λ f place nu. function_cases m f;
  enters = λ f place nu vs. Some (any_types vs);
  direction = λ d. alone_cases m (slice_get m.bodies.mappings (d / 2));
  takes = λ d v. Some S.Never;
  opening = λ i. alone_cases m (slice_get m.bodies.openings i);
}

-- a function at work for the numbers of an instance
abbrev pub is_like : Work → Instance → Bool
is_like x y = nat_eq y.function x.function && same_numbers (numbers_of y) x.instance.numbers

abbrev pub is_listed : List Instance → Work → Bool
is_listed list x = list_any (is_like x) list

abbrev pub found_covered : List Found → Coverage
found_covered all = record { function = is_listed (instances_in all); direction = is_found all; exact = false; fitted = false }

abbrev pub found_setting : CoreModel → Positive → ℕ → List Found → Setting
found_setting m past hart all = record { around = around_of m; past = past; hart = hart; covered = found_covered all }
