-- A builtin on arguments that it takes, of which none is of any shape.
use Rattle.std.proofs.Common.{◌≡◌, ℕ, suc, ◌≤◌, pos, Bool, true, false, List, [], ◌∷◌, map, length, ap, sym, ◌∙◌, refl, subst, arith}
use Rattle.std.proofs.Common.{None, if◌then◌else◌}
use Rattle.std.specs.Prelude.{Contains}
use Rattle.std.specs.List.{list_all}
use Rattle.std.proofs.lemmas.Bool.{and_parts}
use Rattle.sail_base.specs.declared.place.Place.{Place}
use Rattle.sail_types.proofs.Substituted.{number_constant}
use Rattle.sail_types.specs.Belongs.{Reading as Closed, assigned}
use Rattle.sail_types.specs.Numbers.{Assignment, Positive, number, true_in}
use Rattle.sail_types.specs.Rows.{row_members}
use Rattle.sail_types.specs.Shapes.{fits, each_fits}
use Rattle.sail_types.specs.Sums.{zero_num}
use Rattle.sail_types.specs.declared.members.Member.{Member}
use Rattle.sail_types.specs.declared.numbers.Index.{Index}
use Rattle.sail_types.specs.declared.rows.Row.{Row}
use Rattle.sail_types.specs.declared.shapes.Shape.{Shape}
use Rattle.sail_types.specs.declared.table.Types.{Types}
use Rattle.sail_types.specs.declared.values.Value.{Value, out-Value}
use Rattle.builtins.specs.RowValues.{Opened, row}
use Rattle.model_state.specs.StateRows.{call_of, state_row}
use Rattle.row_types.specs.declared.kinds.Outcome.{Outcome}
use Rattle.row_types.specs.declared.kinds.Outcome.TheVariants as O
use Rattle.row_types.specs.declared.kinds.Product.{Product}
use Rattle.row_types.specs.declared.kinds.Product.TheVariants as P
use Rattle.row_types.specs.declared.kinds.RowType.{RowType}
use Rattle.row_types.specs.RowTypes.{row_type}
use Rattle.row_types.specs.Calls as Of
use Rattle.row_types.specs.Calls.{variables, number_of, is_sized, is_met, is_result, gives, has_room, has_space, has_state}
use Rattle.row_types.specs.laws.Formulas.{le_to}
use Rattle.row_types.specs.laws.Rows.{rows_give}
use Rattle.row_types.specs.laws.StateEnds.{comes_by}
use Rattle.row_types.specs.laws.StateRows.{state_rows_give}
use Rattle.sail_core.specs.Run.{Now, needs, after_row, row_run}
use Rattle.value_indices.specs.declared.indices.Indices.{Indices}
use Rattle.value_indices.specs.declared.notes.Fact.{Fact}
use Rattle.value_indices.specs.Steps.{Conditions, bind, goals_under, owe}
use Rattle.value_laws.specs.Belonging.{Integers, standing, each_holds}
use Rattle.value_laws.specs.Known.{Point, Agree, Goes, given_in}
use Rattle.value_laws.proofs.Basics.{no}
use Rattle.value_laws.proofs.Knowing.{opens_then}
use Rattle.value_laws.proofs.Steps.{same, agree_on, no_later}
use Rattle.call_notes.specs.Rows as Rows
use Rattle.call_notes.specs.Rows.{argument_index, first_shape, number_in, numbers_under, outcome, owed_by, taken_call, three_indices, with_product}
use Rattle.call_notes.specs.declared.numbers.Numbers.{Numbers}
use Rattle.row_laws.specs.Laws.{HaveIndices, Ends, IsKnown}
use Rattle.row_laws.proofs.Ends.{value_ends, call_ends}
use Rattle.row_laws.proofs.Forms.{AllSay, all_say}
use Rattle.row_laws.proofs.Free.{FreeOf, row_free}
use Rattle.row_laws.proofs.Fresh.{row_reads}
use Rattle.row_laws.proofs.Goals.{AllSaid, met_front, met_behind, goal_said, number_said, conditions_true, owed_said, product_said}
use Rattle.row_laws.proofs.Members.{AllPlain, AllSuit, is_filling, type_same}
use Rattle.row_laws.proofs.Standing.{AreThose, beyond, no_result, stand}
use Rattle.row_laws.proofs.Results.{result_known}
use Rattle.row_laws.proofs.Room.{Here, width_room}

-- as many values as parameters
as_many : (types : Types) (vs : List Value) (ss : List Shape) → each_fits (map (fits types) vs) ss ≡ true → length (map out-Value vs) ≡ length ss
as_many types [] [] h = refl
as_many types [] (s ∷ ss) h = no h
as_many types (v ∷ vs) [] h = no h
as_many types (v ∷ vs) (s ∷ ss) h = ap suc (as_many types vs ss (and_parts (fits types v s) (each_fits (map (fits types) vs) ss) h).1)

-- what is owed changes nothing else
pub owes_pass : {past : Positive} {n : ℕ} {f : Point n} {facts : List Fact} (place : Place) (cs : Conditions)
    → Goes past n f facts (owe place cs) (λ g t. Unit {0})
unfolding owe
owes_pass {f} place cs = record { goes = record { point = f; later = no_later f; true_there = λ g a t. t; holds = λ g a. tt; given = refl } }

-- before there is a result its product is 0, if it can't be said
zero_product : (p : Product) (js : List Index) (os : Opened) → (p ≡ P.OfArguments → (numbers_under p js zero_num).has_product ≡ true)
    → Rows.product_of p js zero_num ≡ None → Of.product_of p os (pos 0) ≡ pos 0
zero_product P.Nothing js os h e = refl
zero_product P.OfArguments js os h e = no (sym (ap (λ o. (with_product js zero_num o).has_product) e) ∙ h refl)
zero_product P.OfResult js os h e = no_result os

module _ (types : Types) (past : Positive) (own : List Closed) (place : Place) {n : ℕ} (f : Point n) (facts : List Fact) (r : Row) (is : List Indices)
    (vs : List Value) (m : Member) (plain : AllPlain m.params) (suit : AllSuit types m.params is) (few : length m.params ≤ 3)
    (have : HaveIndices types past own f is vs) (here : Here past n f facts (taken_call place r is)) where
  abbrev js : List Index
  js = map argument_index is

  abbrev os : Opened
  os = map out-Value vs

  abbrev table : RowType
  table = row_type r (first_shape is)

  abbrev ns : Numbers
  ns = numbers_under table.product (three_indices js) zero_num

  abbrev before : Assignment
  before = variables (beyond past) table.product os (pos 0)

  says : (g : Integers) → Agree f g → AllSay types (standing past g) own m.params is vs
  says g a = all_say types (standing past g) own m.params is vs plain suit (ap (λ ms. each_holds ms vs) (have.steady g a) ∙ have.held)

  here_says : AllSay types (standing past f.integers) own m.params is vs
  here_says = says f.integers (same f)

  short : length (map out-Value vs) ≤ 3
  short = let e = as_many types vs m.params here_says.fitting in omega (arith, e, few)

  those : (g : Integers) → Agree f g → AreThose past g (map argument_index is) (map out-Value vs)
  those g a = record { few = short; numbers = (says g a).numbers; truths = (says g a).truths }

  -- ---- the goal

  owed : (g : Integers) → Agree f g → AllSaid (standing past g) (owed_by table.product ns table.conditions)
  unfolding bind owe
  owed g a =
      goal_said past g facts place (owed_by table.product ns table.conditions)
      (met_front past (given_in facts) g (goals_under facts place (owed_by table.product ns table.conditions))
      (outcome place table.product (three_indices js) is ns table.outcome facts n).notes (here.met g a)) (here.force g a)

  stands : (g : Integers) → Agree f g → assigned (standing past g) (numbers_under table.product (three_indices js) zero_num).indices ≡ before
  stands g a =
      stand past g js os (those g a) table.product zero_num (pos 0) (number_constant (standing past g) (pos 0))
      (zero_product table.product (three_indices js) os (λ e. product_said past g ns table.product table.conditions e (owed g a)))

  met : is_met (beyond past) table os ≡ true
  met =
      let g = f.integers in
      let a = same f in
      sym (ap (λ nu. list_all (true_in nu) table.conditions) (stands g a))
      ∙ conditions_true past g ns table.conditions (owed_said past g ns table.product table.conditions (owed g a))

  -- ---- the size of the result

  behind : Here past n f facts (outcome place table.product (three_indices js) is ns table.outcome)
  unfolding bind owe
  behind = record {
    force = here.force;
    met = λ g a. met_behind past (given_in facts) g (goals_under facts place (owed_by table.product ns table.conditions))
        (outcome place table.product (three_indices js) is ns table.outcome facts n).notes (here.met g a);
  }

  room_of : (o : Outcome) → Here past n f facts (outcome place table.product (three_indices js) is ns o) → FreeOf past os table.product o
      → has_room before o ≡ true
  room_of (O.Bits t) h free =
      le_to (number before t) (pos 128) (width_room types past own place (number_in ns t) (number before t)
      (λ u e g a. number_said past g ns t u e ∙ ap (λ nu. number nu t) (stands g a)) h).1
  room_of (O.Vector t) h free = absurd free
  room_of o h free = refl

  module _ (one : is_filling r ≡ false) where
    space : has_space (beyond past) table os ≡ true
    space = room_of table.outcome behind (row_free past os r (first_shape is) one)

    -- ---- the result

    known : (v : Value) → is_result (beyond past) table os (out-Value v) ≡ true → IsKnown types past own n f facts (taken_call place r is) v
    known v h =
        let w = out-Value v in
        let p = and_parts (Of.has (variables (beyond past) table.product os (number_of w)) table.outcome w) (is_sized w) h in
        opens_then types past own v (owes_pass place (owed_by table.product ns table.conditions)) (λ k g fs x l q.
        result_known types past own place (three_indices js) is os table.product fs (λ b d. stands b (agree_on l d)) table.outcome v w refl p.0 p.1
        (row_free past os r (first_shape is) one)
        (row_reads past js os g (λ b d. those b (agree_on l d)) (number_of w) r (first_shape is) one))

    -- ---- the run

    module _ (there : Contains (row_members types r) m) where
      chosen : row_type r (first_shape is) ≡ row_type r (Of.first_shape m.params)
      chosen = type_same types r m.params is plain suit

      values_given : has_state r ≡ false → gives (beyond past) table os (row r vs) ≡ true
      values_given without =
          subst (λ u. gives (beyond past) u os (row r vs) ≡ true) (sym chosen)
          (rows_give types vs (beyond past) r m without there here_says.fitting here_says.sized
          (subst (λ u. is_met (beyond past) u os ≡ true) chosen met) (subst (λ u. has_space (beyond past) u os ≡ true) chosen space))

      module _ {X : Type 0} (hart : ℕ) (now : Now X) where
        calls_made : has_state r ≡ true → comes_by (beyond past) table os (state_row r hart now.state vs) ≡ true
        calls_made on =
            subst (λ u. comes_by (beyond past) u os (state_row r hart now.state vs) ≡ true) (sym chosen)
            (state_rows_give types (beyond past) r m vs
            (record {
              state = on;
              member = there;
              fitting = here_says.fitting;
              met = subst (λ u. is_met (beyond past) u os ≡ true) chosen met;
            }) hart now.state)

        by_state : (b : Bool) → has_state r ≡ b
            → Ends (IsKnown types past own n f facts (taken_call place r is)) now
            (if b then after_row (state_row r hart now.state vs) now else needs (row r vs) now)
        by_state true on =
            call_ends (IsKnown types past own n f facts (taken_call place r is)) (beyond past) table os known now (call_of r hart vs) (calls_made on)
        by_state false without =
            value_ends (IsKnown types past own n f facts (taken_call place r is)) (beyond past) table os known now (row r vs) (values_given without)

        pub taken_ends : Ends (IsKnown types past own n f facts (taken_call place r is)) now (row_run r hart vs now)
        taken_ends = by_state (has_state r) refl
