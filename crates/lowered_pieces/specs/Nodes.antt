-- The tables of a body, from what is constant at its nodes: by the number of a node, and of cases the count of operands.
use Rattle.std.specs.Prelude.{ℕ, nat_eq, Bool, true, false, ◌&&◌, ◌||◌, List, [], ◌∷◌, length, slice_get, Option, Some, None, if◌then◌else◌}
use Rattle.sail_types.specs.Places.{Given}
use Rattle.sail_core.specs.declared.tree.Giver.TheVariants as G
use Rattle.size_values.specs.declared.sized.Sized.{Sized}
use Rattle.size_values.specs.declared.sized.Sized.TheVariants as S
use Rattle.sized_meanings.specs.Case.{Case}
use Rattle.sized_meanings.specs.Lead.{Lead}
use Rattle.sized_meanings.specs.NodeSizes.{NodeSizes}
use Rattle.sized_meanings.specs.NodeSizes.TheVariants as Z
use Rattle.sized_meanings.specs.SizedInstance.{SizedInstance}
use Rattle.sized_meanings.specs.Told.{Told}
use Rattle.sized_meanings.specs.Present.{gives_at}
use Rattle.sized_meanings.specs.Sized.{numbers_of}
use Rattle.lowered_pieces.specs.Tables.{Tables}
use Rattle.lowered_pieces.specs.Forms.{cases_apart, notes_of}

-- whether one of the cases takes so many operands
abbrev pub takes_many : ℕ → List Case → Bool
takes_many n [] = false
takes_many n (c ∷ cs) = nat_eq (length c.takes) n || takes_many n cs

abbrev pub cases_at : ℕ → ℕ → List NodeSizes → List Case
cases_at k n [] = []
cases_at k n (Z.Makes j i cs ∷ nodes) = if nat_eq k j && takes_many n cs then cs else cases_at k n nodes
cases_at k n (node ∷ nodes) = cases_at k n nodes

abbrev pub leads_at : ℕ → List NodeSizes → List Lead
leads_at k [] = []
leads_at k (Z.Calls j ls ∷ nodes) = if nat_eq k j then ls else leads_at k nodes
leads_at k (node ∷ nodes) = leads_at k nodes

-- ---- bodies and types under which code is chosen by the numbers that are noted before a value is there

-- no case asks for a number that the value itself gives
abbrev pub plain_nodes : List NodeSizes → Bool
plain_nodes [] = true
plain_nodes (Z.Makes j i cs ∷ nodes) = cases_apart (notes_of i) cs && plain_nodes nodes
plain_nodes (node ∷ nodes) = plain_nodes nodes

abbrev pub is_empty : {A : Type 0} → List A → Bool
is_empty [] = true
is_empty (x ∷ xs) = false

-- one case, whatever the numbers are
abbrev pub plain_cases : List Case → Bool
plain_cases (c ∷ []) = is_empty c.picked
plain_cases cs = false

abbrev pub plain_told : Told → Bool
plain_told t = plain_cases t.cases

abbrev pub all_plain : List Told → Bool
all_plain [] = true
all_plain (t ∷ ts) = plain_told t && all_plain ts

-- the type of such a value
abbrev pub only_type : List Case → Sized
only_type (c ∷ []) = c.gives
only_type cs = S.Never

abbrev pub told_as : Told → Sized
told_as t = only_type t.cases

-- the function of the instance at a place, and its numbers
abbrev pub function_in : Option SizedInstance → ℕ
function_in None = 0
function_in (Some x) = x.instance.function

abbrev pub awaited_in : Option SizedInstance → Option (List (Option Given))
awaited_in None = None
awaited_in (Some x) = Some (numbers_of x.instance)

-- those of a body, where these types have numbers
abbrev pub tables_of : (Sized → Bool) → List SizedInstance → List NodeSizes → Tables
tables_of known instances nodes = record {
  cases = λ k n. cases_at k n nodes;
  leads = λ k. leads_at k nodes;
  gives = λ k. gives_at nodes (G.Node k);
  named = λ k n. gives_at nodes (G.Arm k n);
  reads = λ name. [];
  known = known;
  of = λ i. function_in (slice_get instances i);
  awaits = λ i. awaited_in (slice_get instances i);
}
