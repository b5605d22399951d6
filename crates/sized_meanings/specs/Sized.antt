-- The reading of the core under constant sizes: stuck wherever a value has another size than the case of its node (Sail language manual, "Type
-- variables").
use Rattle.std.specs.Prelude.{ℕ, nat_eq, ◌/◌, Bool, true, false, ◌&&◌, List, [], ◌∷◌, ◌++◌, map, slice_get, Option, Some, None, option_map, if◌then◌else◌}
use Rattle.sail_types.specs.Places.{Given, an_int, first, only}
use Rattle.sail_types.specs.Sums.{and_then}
use Rattle.sail_types.specs.declared.table.Types.{Types}
use Rattle.sail_types.specs.declared.values.Value.{Value}
use Rattle.sail_core.specs.Numbers.{Givens, Instance as Awaits, all_agree}
use Rattle.sail_core.specs.declared.model.CoreModel.{CoreModel}
use Rattle.sail_core.specs.declared.model.Direction.{Direction}
use Rattle.size_values.specs.declared.sized.Sized.{Sized}
use Rattle.size_values.specs.Sized.{all_eq}
use Rattle.sized_nodes.specs.declared.trees.Instance.{Instance}
use Rattle.checked_meaning.specs.Checked.{Cases, Checks, Noted}
use Rattle.checked_meaning.specs.Items.{fixed_typ}
use Rattle.sized_nodes.specs.declared.trees.Case.{Case}
use Rattle.sized_nodes.specs.declared.trees.Lead.{Lead}
use Rattle.sized_nodes.specs.declared.trees.NodeSizes.{NodeSizes}
use Rattle.sized_nodes.specs.declared.trees.Signature.{Signature}
use Rattle.sized_nodes.specs.declared.trees.SizedInstance.{SizedInstance}
use Rattle.sized_nodes.specs.declared.trees.SizedCore.{SizedCore}
use Rattle.sized_nodes.specs.declared.trees.Told.{Told}
use Rattle.checked_meaning.specs.Fits.{has_sizes}
use Rattle.sized_meanings.specs.Noting.{noted_by_all}
use Rattle.sized_meanings.specs.Present.{case_by, first_in, gives_at, lead_in, noted_with, present_case}

-- ---- at a node: the case that is present has to take these operands and to have this value

abbrev pub makes_in : Types → List Sized → Value → Case → Option Sized
makes_in types takes v c = only (all_eq c.takes takes && has_sizes types v c.gives) c.gives

abbrev pub made_by : Bool → Types → ℕ → List Sized → Value → Noted → NodeSizes → Option Sized
made_by given types k takes v noted node = and_then (case_by given k v noted node) (makes_in types takes v)

-- the instance that is called: its place, and its numbers
abbrev pub numbers_of : Instance → List (Option Given)
numbers_of x = map (option_map an_int) x.numbers

abbrev pub awaited_at : List SizedInstance → ℕ → Option Awaits
awaited_at instances i = option_map (λ x. record { place = i; numbers = numbers_of x.instance }) (slice_get instances i)

abbrev pub led_by : List SizedInstance → List Sized → Lead → Option Awaits
led_by instances takes l = and_then (only (all_eq l.takes takes) l.instance) (awaited_at instances)

abbrev pub led_in : List SizedInstance → ℕ → List Sized → Noted → NodeSizes → Option Awaits
led_in instances k takes noted node = and_then (lead_in k noted node) (led_by instances takes)

abbrev pub cases_by : Bool → Types → List SizedInstance → List NodeSizes → Cases
cases_by given types instances nodes = record {
  makes = λ k takes v noted. first_in (made_by given types k takes v noted) nodes;
  notes = λ k v noted. noted_by_all (gives_at nodes k) v noted;
  calls = λ k takes noted. first_in (led_in instances k takes noted) nodes;
}

-- by the numbers that a value gives as well, and by those alone that are noted by then
abbrev pub cases_of : Types → List SizedInstance → List NodeSizes → Cases
cases_of = cases_by true

abbrev pub noted_cases_of : Types → List SizedInstance → List NodeSizes → Cases
noted_cases_of = cases_by false

-- ---- functions: the instance at a place, or where none is awaited there the first one, of this function for these numbers

abbrev pub is_for : ℕ → Givens → SizedInstance → Bool
is_for f nu x = nat_eq x.instance.function f && all_agree (numbers_of x.instance) nu

abbrev pub if_for : ℕ → Givens → Option SizedInstance → Option SizedInstance
if_for f nu None = None
if_for f nu (Some x) = only (is_for f nu x) x

abbrev pub first_for : ℕ → Givens → List SizedInstance → Option SizedInstance
first_for f nu [] = None
first_for f nu (x ∷ xs) = if is_for f nu x then Some x else first_for f nu xs

abbrev pub entered : List SizedInstance → ℕ → ℕ → Givens → Option SizedInstance
entered instances f place nu = first (if_for f nu (slice_get instances place)) (first_for f nu instances)

abbrev pub joined_nodes : List (List NodeSizes) → List NodeSizes
joined_nodes [] = []
joined_nodes (b ∷ bs) = b ++ joined_nodes bs

-- of its measure and its body
abbrev pub nodes_for : Option SizedInstance → List NodeSizes
nodes_for None = []
nodes_for (Some x) = joined_nodes x.bodies

abbrev pub signature_for : Option SizedInstance → Option Signature
signature_for None = None
signature_for (Some x) = x.signature

-- the type that a value tells
abbrev pub nothing_noted : Noted
nothing_noted v = None

abbrev pub if_told : Types → Value → Case → Option Sized
if_told types v c = only (has_sizes types v c.gives) c.gives

abbrev pub told_type : Bool → Types → Told → Value → Option Sized
told_type given types t v = and_then (present_case (noted_with given t.value v nothing_noted) t.cases) (if_told types v)

abbrev pub all_told : Bool → Types → List Told → List Value → Option (List Sized)
all_told given types [] [] = Some []
all_told given types (t ∷ ts) (v ∷ vs) = and_then (told_type given types t v) (λ s. option_map (λ ss. s ∷ ss) (all_told given types ts vs))
all_told given types ts vs = None

abbrev pub entering : Bool → Types → List Value → Signature → Option (List Sized)
entering given types vs s = all_told given types s.parameters vs

-- ---- directions of mappings: a mapping has two

abbrev pub or_none : Option (List NodeSizes) → List NodeSizes
or_none None = []
or_none (Some nodes) = nodes

abbrev pub if_sized : Types → Value → Sized → Option Sized
if_sized types v s = only (has_sizes types v s) s

abbrev pub taken : Types → Value → Option Direction → Option Sized
taken types v None = None
taken types v (Some d) = if_sized types v (fixed_typ types d.parameter)

-- ---- a model

abbrev pub checks_by : Bool → CoreModel → SizedCore → Checks
checks_by given m c = record {
  types = m.types;
  function = λ f place nu. cases_by given m.types c.instances (nodes_for (entered c.instances f place nu));
  enters = λ f place nu vs. and_then (signature_for (entered c.instances f place nu)) (entering given m.types vs);
  direction = λ d. cases_by given m.types c.instances (or_none (slice_get c.mappings (d / 2)));
  takes = λ d v. taken m.types v (slice_get m.directions d);
  opening = λ i. cases_by given m.types c.instances (or_none (slice_get c.openings i));
}

abbrev pub checks_of : CoreModel → SizedCore → Checks
checks_of = checks_by true

abbrev pub noted_checks_of : CoreModel → SizedCore → Checks
noted_checks_of = checks_by false
