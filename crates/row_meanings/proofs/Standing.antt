-- Members of builtins stand for those of the text.
use Rattle.std.proofs.Common.{◌≡◌, ℕ, List, [], ◌∷◌, ◌++◌, map, ap, sym, ◌∙◌, refl, subst}
use Rattle.sail_base.specs.declared.operators.Operator.TheVariants as O
use Rattle.sail_base.specs.declared.place.Place.{Place}
use Rattle.sail_types.specs.Rows.{row_members, members_of, operator_rows, prefix_rows}
use Rattle.sail_types.specs.Shapes.{put}
use Rattle.sail_types.specs.declared.members.Member.{Member}
use Rattle.sail_types.specs.declared.shapes.Shape.{Shape}
use Rattle.sail_types.specs.declared.shapes.Shape.TheVariants as V
use Rattle.sail_types.specs.declared.table.Types.{Types}
use Rattle.sail_types.specs.declared.values.Value.{Value}
use Rattle.row_types.specs.laws.Shapes.{two_arguments}
use Rattle.sail_core.specs.Run as R
use Rattle.sail_core.specs.Run.{Now, Ended, needs, goes_on, row_run}
use Rattle.sail_core.specs.Values.{cons_of}
use Rattle.sail_core.specs.Making as Core
use Rattle.sail_core.specs.Making.{plainly, made}
use Rattle.sail_meaning.specs.Text.{Callee, builtin, cons}
use Rattle.sail_meaning.specs.Choice.{builtins}
use Rattle.shape_rules.specs.declared.callees.Candidate.{Candidate}
use Rattle.shape_rules.specs.Calls.{member_candidate, cons_candidate}
use Rattle.shape_rules.specs.Scopes.{thrown_shape}
use Rattle.shape_joins.proofs.Order.{no}
use Rattle.shape_meanings.specs.Whole.{Choice}
use Rattle.shape_meanings.specs.Keeping.{Fits, FitAll, RegistersFit, KeepsApart, AgreeApart}
use Rattle.shape_meanings.specs.Worlds.{Apply, StandsFor, StandForEach, doing_run}
use Rattle.row_meanings.specs.Rows.{Each, AppliesBuiltins, TextsApplyBuiltins, RowsStand, PrefixesStand, OperatorsStand}
use Rattle.row_meanings.proofs.Given.{GivesA, cons_given}
use Rattle.row_meanings.proofs.Arguments.{MemberIs, given_kept, variable_below, list_below, more_below}
use Rattle.row_meanings.proofs.Members.{row_is, members_are}
use Rattle.row_meanings.proofs.Apart.{row_distinct, prefix_distinct}

-- ---- a builtin on arguments is what a hart does that calls it

pub texts_apply : TextsApplyBuiltins
texts_apply s calls active place (builtin row shapes) vs h = refl
texts_apply s calls active place cons vs h = refl
texts_apply s calls active place callee vs h = no h

-- ---- both sides

-- a value that is made stays what it is
after_made : (e : Ended Value Value) (vs : List Value) → goes_on e (λ v. made plainly 0 vs v) ≡ e
after_made (R.Gives v now) vs = refl
after_made (R.No now) vs = refl
after_made (R.Returns v now) vs = refl
after_made (R.Throws v now) vs = refl
after_made (R.Stops cause now) vs = refl
after_made R.Stuck vs = refl

module _ (types : Types) (registers : List Shape) (thrown : Shape) (wc : Core.World Value) (hart : ℕ) (apply : Apply) (same_hart : wc.hart ≡ hart)
    (applies : AppliesBuiltins hart apply) where
  member_keeps : (m : Member) → MemberIs types m → (c : Choice) (place : Place) (vs : List Value) (now : Now Value) → FitAll types c m.params vs
      → RegistersFit types registers now.state
      → AgreeApart types registers thrown (Fits types c m.answer) now (doing_run wc place (member_candidate m).doing vs now)
      (apply place (builtin m.row m.params) vs now)
  member_keeps m is c place vs now h fit =
      let applied : apply place (builtin m.row m.params) vs now ≡ row_run m.row hart vs now = λ i. applies place (builtin m.row m.params) vs refl i now in (
        after_made (row_run m.row wc.hart vs now) vs ∙ ap (λ n. row_run m.row n vs now) same_hart ∙ sym applied,
        subst (KeepsApart types registers thrown (Fits types c m.answer) now) (sym applied) (is.keeps registers thrown c hart vs now h fit),
      )

  member_stands : (m : Member) → MemberIs types m → StandsFor types registers thrown wc apply (member_candidate m) (builtin m.row m.params)
  member_stands m is = record { params = refl; whole = is.whole; answer = is.answer; converts = refl; keeps = member_keeps m is }

  -- members first, and others behind them
  stand_then : (ms : List Member) (fs : List Candidate) (callees : List Callee) → Each (MemberIs types) ms
      → StandForEach types registers thrown wc apply fs callees
      → StandForEach types registers thrown wc apply (map member_candidate ms ++ fs) (builtins ms ++ callees)
  stand_then [] fs callees is h = h
  stand_then (m ∷ ms) fs callees is h = (member_stands m is.0, stand_then ms fs callees is.1 h)

  each_stands : (ms : List Member) → Each (MemberIs types) ms → StandForEach types registers thrown wc apply (map member_candidate ms) (builtins ms)
  each_stands [] is = tt
  each_stands (m ∷ ms) is = (member_stands m is.0, each_stands ms is.1)

  -- ---- `a :: b`

  conses : (c : Choice) (vs : List Value) → FitAll types c (V.Variable 0 ∷ V.List (V.Variable 0) ∷ []) vs
      → GivesA types c (V.List (V.Variable 0)) (cons_of vs)
  conses c vs h =
      let g = two_arguments types vs (put c (V.Variable 0)) (put c (V.List (V.Variable 0))) h in
      subst (λ us. GivesA types c (V.List (V.Variable 0)) (cons_of us)) (sym g.2) (cons_given types c (V.Variable 0) g.0 g.1 g.3 g.4)

  cons_keeps : (c : Choice) (place : Place) (vs : List Value) (now : Now Value) → FitAll types c cons_candidate.params vs
      → RegistersFit types registers now.state
      → AgreeApart types registers thrown (Fits types c cons_candidate.answer) now (doing_run wc place cons_candidate.doing vs now) (apply place cons vs now)
  cons_keeps c place vs now h fit =
      let applied : apply place cons vs now ≡ needs (cons_of vs) now = λ i. applies place cons vs refl i now in (
        after_made (needs (cons_of vs) now) vs ∙ sym applied,
        subst (KeepsApart types registers thrown (Fits types c (V.List (V.Variable 0))) now) (sym applied)
            (given_kept types registers thrown c (V.List (V.Variable 0)) now (cons_of vs) (conses c vs h) fit),
      )

  cons_stands : StandsFor types registers thrown wc apply cons_candidate cons
  cons_stands = record {
    params = refl;
    whole = more_below (V.Variable 0) (V.List (V.Variable 0) ∷ []) variable_below (more_below (V.List (V.Variable 0)) [] list_below refl);
    answer = list_below;
    converts = refl;
    keeps = cons_keeps;
  }

-- ---- names and operators

pub rows_stand : RowsStand
rows_stand types registers thrown wc hart apply same_hart applies r =
    (each_stands types registers thrown wc hart apply same_hart applies (row_members types r) (row_is types r), row_distinct types r)

pub prefixes_stand : PrefixesStand
prefixes_stand setting registers wc hart apply same_hart applies prefix = (
  each_stands setting.types registers (thrown_shape setting) wc hart apply same_hart applies (members_of setting.types (prefix_rows prefix))
      (members_are setting.types (prefix_rows prefix)),
  prefix_distinct setting.types prefix,
)

pub operators_stand : OperatorsStand
operators_stand setting registers wc hart apply same_hart applies O.Cons added h =
    (cons_stands setting.types registers (thrown_shape setting) wc hart apply same_hart applies, h)
operators_stand setting registers wc hart apply same_hart applies operator added h =
    stand_then setting.types registers (thrown_shape setting) wc hart apply same_hart applies (members_of setting.types (operator_rows operator))
    (setting.added operator) added (members_are setting.types (operator_rows operator)) h
