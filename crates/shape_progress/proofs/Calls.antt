-- Builtins go on, by the laws of row_meanings: where the table's conditions are met, a member of one isn't stuck on values of its parameters'
-- shapes, gives one of its result's, and leaves registers as they are.
use Rattle.std.proofs.Common.{◌≡◌, ℕ, zero, suc, ◌<◌, List, [], ◌∷◌, ◌++◌, map, length, ap, sym, ◌∙◌, refl, subst, Bool, true, false, not, ◌&&◌, ◌||◌}
use Rattle.std.proofs.Common.{Option, Some, None, option_map, slice_get, slice_index_or, if◌then◌else◌, arith}
use Rattle.std.proofs.lemmas.Bool.{and_parts}
use Rattle.std.specs.List.{list_all}
use Rattle.std.specs.Prelude.{Contains}
use Rattle.sail_types.specs.Numbers.{Positive}
use Rattle.sail_types.specs.Rows.{row_members}
use Rattle.sail_types.specs.Shapes.{fits, each_fits}
use Rattle.sail_types.specs.declared.members.Member.{Member}
use Rattle.sail_types.specs.declared.numbers.Num.{Num}
use Rattle.sail_types.specs.declared.rows.Row.{Row}
use Rattle.sail_types.specs.declared.shapes.Shape.{Shape}
use Rattle.sail_types.specs.declared.table.Types.{Types}
use Rattle.sail_types.specs.declared.values.Value.{Value, out-Value}
use Rattle.builtins.specs.RowValues.{row}
use Rattle.model_state.specs.declared.cause.Ended.{Ended as EndOfRow}
use Rattle.model_state.specs.declared.cause.Ended.TheVariants as E
use Rattle.model_state.specs.RunState.{register_value}
use Rattle.model_state.specs.StateRows.{Call, call_of, call_ran, state_after, access_of, then_accesses, ended_by, state_row}
use Rattle.row_types.specs.RowTypes.{row_type}
use Rattle.row_types.specs.Calls.{is_sized, is_met, has_space, has_state, first_shape}
use Rattle.sail_core.specs.Run as R
use Rattle.sail_core.specs.Run.{Now, Ended, needs, ended_as, after_row, row_run}
use Rattle.sail_core.specs.Making.{World}
use Rattle.shape_meanings.specs.Whole.{Choice}
use Rattle.shape_meanings.specs.Keeping.{Fits, FitAll, Suits, Reach, KeepsApart}
use Rattle.shape_meanings.proofs.Sharing.{all_loosened}
use Rattle.row_meanings.specs.Rows.{Each, KeepsShapes, GoesOn as RowGoesOn}
use Rattle.row_meanings.proofs.Going.{rows_go_on}
use Rattle.row_meanings.proofs.Members.{rows_keep}
use Rattle.shape_progress.specs.Conditions.{member_met, row_met}
use Rattle.shape_progress.specs.Going.{Ready, Goes, GoesOn}
use Rattle.shape_progress.proofs.Registers.{SameRegisters, call_same}

-- ---- one of several

each_at : (P : Member → Type 0) (ms : List Member) (k : ℕ) (d : Member) → k < length ms → Each P ms → P (slice_index_or ms k d)
each_at P [] k d l h = absurd (omega arith)
each_at P (m ∷ ms) zero d l h = h.0
each_at P (m ∷ ms) (suc k) d l h = each_at P ms k d (omega arith) h.1

each_in : (P : Member → Type 0) (ms : List Member) (m : Member) → Contains ms m → Each P ms → P m
each_in P ms m there h = subst P there.2 (each_at P ms there.0 m there.1 h)

all_at : (p : Member → Bool) (ms : List Member) (k : ℕ) (d : Member) → k < length ms → list_all p ms ≡ true → p (slice_index_or ms k d) ≡ true
all_at p [] k d l h = absurd (omega arith)
all_at p (m ∷ ms) zero d l h = (and_parts (p m) (list_all p ms) h).0
all_at p (m ∷ ms) (suc k) d l h = all_at p ms k d (omega arith) (and_parts (p m) (list_all p ms) h).1

all_in : (p : Member → Bool) (ms : List Member) (m : Member) → Contains ms m → list_all p ms ≡ true → p m ≡ true
all_in p ms m there h = sym (ap p there.2) ∙ all_at p ms there.0 m there.1 h

-- ---- registers stay

-- however it ends, each register of each hart is as before
abbrev Stays : {A : Type 0} → Now Value → Ended Value A → Type 0
Stays before (R.Gives x now) = SameRegisters before.state now.state
Stays before (R.No now) = SameRegisters before.state now.state
Stays before (R.Returns v now) = SameRegisters before.state now.state
Stays before (R.Throws v now) = SameRegisters before.state now.state
Stays before (R.Stops cause now) = Unit {0}
Stays before R.Stuck = Unit {0}

needs_stay : (o : Option Value) (now : Now Value) → Stays now (needs o now)
needs_stay None now = tt
needs_stay (Some v) now = refl

ended_stays : (e : EndOfRow) (now after : Now Value) → SameRegisters now.state after.state → Stays now (ended_as e after)
ended_stays (E.Value v) now after h = h
ended_stays (E.Stop cause) now after h = tt

call_stays : (o : Option Call) (now : Now Value) → Stays now (after_row (option_map (λ call. call_ran call now.state) o) now)
call_stays None now = tt
call_stays (Some call) now =
    ended_stays (ended_by call now.state) now
    (record now { state = state_after call now.state; accesses = now.accesses ++ then_accesses (access_of call now.state) [] })
    (call_same call now.state)

row_stays : (r : Row) (hart : ℕ) (vs : List Value) (now : Now Value) → Stays now (row_run r hart vs now)
row_stays r hart vs now = by_state (has_state r)
  where
    by_state : (b : Bool) → Stays now (if b then after_row (state_row r hart now.state vs) now else needs (row r vs) now)
    by_state true = call_stays (call_of r hart vs) now
    by_state false = needs_stay (row r vs) now

-- ---- what goes on

still_ready : (reach : Reach) (w : World Value) (before now : Now Value) → Ready reach w.hart before → SameRegisters before.state now.state
    → now.locals ≡ before.locals → ((hart r : ℕ) (v : Value) (s : Shape) → register_value now.state hart r ≡ Some v → slice_get reach.registers r ≡ Some s
    → fits reach.types v s ≡ true) → Ready reach w.hart now
still_ready reach w before now ready same locals fit = record {
  good = record { locals = subst (Suits reach.types reach.choice reach.slots) (sym locals) ready.good.locals; state = fit };
  here = λ r s shaped. ((ready.here r s shaped).0, ap (λ vss. slice_get vss w.hart) same ∙ (ready.here r s shaped).1);
  there = λ k r vs s e shaped. ready.there k r vs s (ap (λ vss. slice_get vss k) (sym same) ∙ e) shaped;
}

apart_goes : (reach : Reach) (w : World Value) (P : Value → Type 0) (before : Now Value) (e : Ended Value Value) → Ready reach w.hart before
    → KeepsApart reach.types reach.registers reach.thrown P before e → Stays before e → RowGoesOn e → Goes reach w P e
apart_goes reach w P before (R.Gives x now) ready k s g = (k.0, still_ready reach w before now ready s k.1.locals k.1.state)
apart_goes reach w P before (R.No now) ready k s g = still_ready reach w before now ready s k.locals k.state
apart_goes reach w P before (R.Returns v now) ready k s g = absurd k
apart_goes reach w P before (R.Throws v now) ready k s g = (k.0, still_ready reach w before now ready s k.1.locals k.1.state)
apart_goes reach w P before (R.Stops cause now) ready k s g = tt
apart_goes reach w P before R.Stuck ready k s g = absurd g

or_true : (a b : Bool) → a ≡ true → (not a || b) ≡ true → b ≡ true
or_true a b h k = sym (ap (λ x. not x || b) h) ∙ k

-- a member on values of its parameters' shapes, whatever its variable stands for
pub member_goes : (reach : Reach) (w : World Value) (beyond : Num → Positive) (r : Row) (m : Member) (c : Choice) (vs : List Value)
    → Contains (row_members reach.types r) m → m.row ≡ r → FitAll reach.types c m.params vs → row_met reach.types beyond r vs ≡ true
    → GoesOn reach w (Fits reach.types c m.answer) (row_run r w.hart vs)
member_goes reach w beyond r m c vs there same fit met now ready =
    let types : Types = reach.types in
    let loose : each_fits (map (fits types) vs) m.params ≡ true = all_loosened types vs c m.params fit in
    let says : Bool =
    (list_all is_sized (map out-Value vs) && is_met beyond (row_type r (first_shape m.params)) (map out-Value vs))
    && has_space beyond (row_type r (first_shape m.params)) (map out-Value vs) in
    let owed = or_true (each_fits (map (fits types) vs) m.params) says loose (all_in (member_met types beyond r vs) (row_members types r) m there met) in
    let room = and_parts (list_all is_sized (map out-Value vs) && is_met beyond (row_type r (first_shape m.params)) (map out-Value vs))
    (has_space beyond (row_type r (first_shape m.params)) (map out-Value vs)) owed in
    let sized = and_parts (list_all is_sized (map out-Value vs)) (is_met beyond (row_type r (first_shape m.params)) (map out-Value vs)) room.0 in
    let kept : KeepsShapes types m = each_in (KeepsShapes types) (row_members types r) m there (rows_keep types r) in
    apart_goes reach w (Fits types c m.answer) now (row_run r w.hart vs now) ready
    (subst (λ q. KeepsApart types reach.registers reach.thrown (Fits types c m.answer) now (row_run q w.hart vs now)) same
    (kept reach.registers reach.thrown c w.hart vs now fit ready.good.state))
    (row_stays r w.hart vs now) (rows_go_on types beyond c r m vs there fit sized.0 sized.1 room.1 w.hart now)
