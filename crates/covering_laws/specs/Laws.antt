-- What is tested of bodies suffices: their notes are met, where all directions of mappings are covered.
use Rattle.std.specs.Prelude.{◌≡◌, ℕ, ℤ, Bool, true, List, map, slice_get, Option, Some, option_map}
use Rattle.sail_types.specs.Places.{an_int}
use Rattle.size_values.specs.Sized.{all_eq}
use Rattle.size_splits.specs.Bodies.{Body}
use Rattle.size_splits.specs.Sizing.{Sizing}
use Rattle.sized_nodes.specs.declared.trees.Instance.{Instance}
use Rattle.sized_nodes.specs.declared.trees.SizedInstance.{SizedInstance}
use Rattle.checked_meaning.specs.Fits.{AllFit}
use Rattle.sized_meanings.specs.Sized.{cases_by, numbers_of}
use Rattle.split_laws.specs.Counted.{IsIn}
use Rattle.note_laws.specs.Notes.{EachNote, OfOthers}
use Rattle.soundness_steps.specs.Works.{Setting, Work, IsExact}
use Rattle.soundness_steps.specs.Covers.{IsMet}
use Rattle.node_counts.specs.Told.{all_noted}
use Rattle.covering_laws.specs.Tested.{all_nodes, bodies_tested}

-- the instances of a list, each at its place
abbrev pub ArePlaced : List Instance → List SizedInstance → Type 0
ArePlaced list instances =
    (i : ℕ) (y : Instance) → slice_get list i ≡ Some y → (s : SizedInstance) × (slice_get instances i ≡ Some s) × (s.instance ≡ y)

-- a function at work for such an instance is covered
abbrev pub AreCovered : Setting → List SizedInstance → Type 0
AreCovered set instances =
    (p : ℕ) (s : SizedInstance) (y : Work) → slice_get instances p ≡ Some s → s.instance.function ≡ y.function
    → y.instance ≡ record { place = p; numbers = numbers_of s.instance } → all_eq y.own s.instance.types ≡ true → set.covered.function y ≡ true

abbrev pub BodiesAreMet : Type 0
BodiesAreMet = (given : Bool) (set : Setting) (x : Work) (sizing : Sizing) (zs : List (Option ℤ)) → x.instance.numbers ≡ map (option_map an_int) zs
    → (list : List Instance) (instances : List SizedInstance) (reached : ℕ → Bool) → ArePlaced list instances → AreCovered set instances → IsExact set
    → AllFit set.around.types x.types x.own → ((d : ℕ) → set.covered.direction d ≡ true)
    → (bs : List Body) → bodies_tested set.around.types sizing zs x.own given reached list bs ≡ true → (b : Body) → IsIn b bs
    → EachNote (OfOthers (IsMet set x reached
    (cases_by given set.around.types instances (all_nodes set.around.types sizing zs x.own list (all_noted bs))))) b.notes
