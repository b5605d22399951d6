-- What is kept by the steps of a walk is kept by the call of a builtin.
use Rattle.std.proofs.Common.{Bool, true, false, List, [], ◌∷◌, Option}
use Rattle.std.proofs.Common.{if◌then◌else◌}
use Rattle.sail_base.specs.declared.place.Place.{Place}
use Rattle.sail_types.specs.Sums.{variable}
use Rattle.sail_types.specs.declared.numbers.Con.{Con}
use Rattle.sail_types.specs.declared.numbers.Index.{Index}
use Rattle.sail_types.specs.declared.numbers.Num.{Num}
use Rattle.sail_types.specs.declared.rows.Row.{Row}
use Rattle.sail_types.specs.declared.table.Types.{Types}
use Rattle.row_types.specs.declared.kinds.Outcome.{Outcome}
use Rattle.row_types.specs.declared.kinds.Outcome.TheVariants as O
use Rattle.row_types.specs.declared.kinds.Product.{Product}
use Rattle.value_indices.specs.declared.indices.Indices.{Indices}
use Rattle.value_indices.specs.declared.indices.Indices.TheVariants as I
use Rattle.value_indices.specs.declared.indices.Naming.TheVariants as M
use Rattle.value_indices.specs.declared.indices.Reading.{Reading}
use Rattle.value_indices.specs.declared.notes.Made.TheVariants as Makes
use Rattle.value_indices.specs.Opening.{between, bits_of, number_or_fresh, truth_or_fresh, vector_of}
use Rattle.value_indices.specs.Steps.{Conditions, assume_all, fresh}
use Rattle.call_notes.specs.Ends.{any_never, never_value, sized, wrong_value}
use Rattle.call_notes.specs.Rows.{bits_at, fresh_result, outcome, row_call, taken_call, vector_at}
use Rattle.call_notes.specs.Taken.{takes}
use Rattle.call_notes.specs.declared.numbers.Numbers.{Numbers}
use Rattle.value_indices.specs.declared.indices.Naming.{Naming}
use Rattle.value_indices.specs.Opening.{any_truth}
use Rattle.value_indices.specs.Steps.{Walk, assume, assume_if, bind, give, owe}
use Rattle.node_counts.proofs.Openings as Opened
use Rattle.node_counts.proofs.Openings.{Keeps}

module _ (P : (A : Type 0) → Walk A → Type 0) (keeps : Keeps P) where
  abbrev Kept : {A : Type 0} → Walk A → Type 0
  Kept {A} w = P A w

  give_kept : {A : Type 0} (x : A) → Kept (give x)
  give_kept x = keeps.gives x

  bind_kept : {A B : Type 0} (w : Walk A) (k : A → Walk B) → Kept w → ((x : A) → Kept (k x)) → Kept (bind w k)
  bind_kept w k h more = keeps.binds w k h more

  assume_kept : (c : Con) → Kept (assume c)
  assume_kept c = keeps.assumes c

  fresh_kept : Kept fresh
  fresh_kept = keeps.counts

  if_kept : (o : Option Con) → Kept (assume_if o)
  if_kept o = Opened.assume_if_kept P keeps o

  between_kept : (low t high : Num) → Kept (between low t high)
  between_kept low t high = Opened.between_kept P keeps low t high

  number_kept : (o : Option Num) → Kept (number_or_fresh o)
  number_kept o = Opened.number_kept P keeps o

  truth_kept : (o : Option Con) → Kept (truth_or_fresh o)
  truth_kept o = Opened.truth_kept P keeps o

  any_truth_kept : (name : Naming) → Kept (any_truth name)
  any_truth_kept name = Opened.any_truth_kept P keeps name

  owe_kept : (place : Place) (cs : Conditions) → Kept (owe place cs)
  owe_kept place cs = keeps.owes place cs

  pub wrong_kept : (place : Place) → Kept (wrong_value place)
  wrong_kept place = bind_kept _ _ (owe_kept place _) (λ t. give_kept I.Never)

  all_kept : (cs : Conditions) → Kept (assume_all cs)
  all_kept [] = give_kept tt
  all_kept (c ∷ cs) = bind_kept _ _ (if_kept c) (λ t. all_kept cs)

  bits_kept : (place : Place) (t : Num) → Kept (bits_at place t)
  unfolding bits_of
  bits_kept place t = bind_kept (sized place (I.Bits t)) _ (keeps.sizes place (Makes.ByIndices (I.Bits t))) (λ x.
      bind_kept _ _ (between_kept _ t _) (λ y. give_kept (I.Bits t)))

  vector_kept : (place : Place) (r : Reading) (t : Num) → Kept (vector_at place r t)
  unfolding vector_of
  vector_kept place r t = bind_kept (sized place (I.Vector t r)) _ (keeps.sizes place (Makes.ByIndices (I.Vector t r))) (λ x.
      bind_kept _ _ (between_kept _ t _) (λ y. give_kept (I.Vector t r)))

  result_kept : (p : Product) (is : List Index) (low high : Num) (cs : List Con) → Kept (fresh_result p is low high cs)
  result_kept p is low high cs = bind_kept fresh _ fresh_kept (λ v. bind_kept _ _ (if_kept _) (λ x. bind_kept _ _ (if_kept _) (λ y.
      bind_kept _ _ (all_kept _) (λ z. give_kept (I.Integer (variable v))))))

  outcome_kept : (place : Place) (p : Product) (is : List Index) (args : List Indices) (ns : Numbers) (o : Outcome) → Kept (outcome place p is args ns o)
  outcome_kept place p is args ns (O.Integer t) = bind_kept _ _ (number_kept _) (λ n. give_kept (I.Integer n))
  outcome_kept place p is args ns (O.Fresh low high cs) = result_kept p is low high cs
  outcome_kept place p is args ns (O.Truth c) = bind_kept _ _ (truth_kept _) (λ d. give_kept (I.Truth d))
  outcome_kept place p is args ns O.Bool = any_truth_kept M.Unnamed
  outcome_kept place p is args ns (O.Bits t) = bind_kept _ _ (number_kept _) (bits_kept place)
  outcome_kept place p is args ns (O.Vector t) = bind_kept _ _ (number_kept _) (vector_kept place _)
  outcome_kept place p is args ns O.String = give_kept I.String
  outcome_kept place p is args ns O.Unit = give_kept I.Unit

  taken_kept : (place : Place) (row : Row) (args : List Indices) → Kept (taken_call place row args)
  taken_kept place row args = bind_kept _ _ (owe_kept place _) (λ t. outcome_kept place _ _ args _ _)

  pub row_call_kept : (types : Types) (place : Place) (row : Row) (args : List Indices) → Kept (row_call types place row args)
  row_call_kept types place row args = by (any_never args) (takes types row args)
    where
      by : (b c : Bool) → Kept (if b then never_value else (if c then taken_call place row args else wrong_value place))
      by true c = give_kept I.Never
      by false true = taken_kept place row args
      by false false = wrong_kept place
