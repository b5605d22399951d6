-- The world around a loop's measure: what a measure can name is there where its loop stands.
use Rattle.std.proofs.Common.{◌≡◌, ℕ, true, List, [], ◌∷◌, ◌++◌, map, sym, ◌∙◌, refl, Option, Some, None}
use Rattle.sail_base.specs.declared.kind.Kind.{Kind}
use Rattle.sail_base.specs.declared.kind.Kind.TheVariants as Sort
use Rattle.sail_syntax.specs.declared.types.TyExp.{TyExp}
use Rattle.sail_types.specs.Named.{fields}
use Rattle.sail_types.specs.Rows.{members_of, operator_rows, row_members}
use Rattle.sail_types.specs.declared.shapes.Shape.{Shape}
use Rattle.sail_types.specs.declared.table.Field.{Field}
use Rattle.sail_types.specs.declared.values.Value.{Value}
use Rattle.sail_core.specs.declared.tree.Callee.TheVariants as C
use Rattle.sail_core.specs.Making.{World}
use Rattle.sail_names.specs.declared.around.Allowed.{Allowed}
use Rattle.sail_names.specs.declared.around.Allowed.TheVariants.{Any, Plain, LoopMeasure}
use Rattle.sail_names.specs.declared.names.Global.{Global}
use Rattle.sail_names.specs.declared.names.Global.TheVariants as G
use Rattle.sail_names.specs.Patterns.{type_failures}
use Rattle.sail_names.specs.Known as Tables
use Rattle.sail_names.specs.Known.{in_measure, is_global_callee, is_global_construction, is_global_value, is_let_seen, is_register_seen}
use Rattle.shape_joins.proofs.Order.{no}
use Rattle.shape_rules.specs.declared.callees.Candidate.{Candidate}
use Rattle.shape_rules.specs.declared.callees.Doing.{Doing}
use Rattle.shape_rules.specs.declared.callees.Doing.TheVariants as D
use Rattle.shape_rules.specs.declared.callees.Meant.{Meant}
use Rattle.shape_rules.specs.declared.callees.Meant.TheVariants as M
use Rattle.shape_rules.specs.Calls.{builtin_members, member_candidate}
use Rattle.shape_rules.specs.Patterns.{construct_width, direction_of, direction_width}
use Rattle.shape_rules.specs.Scopes.{Setting, plainly}
use Rattle.shape_meanings.specs.Whole.{Choice}
use Rattle.shape_meanings.specs.Worlds.{FieldsBelow}
use Rattle.shape_stands.specs.Inside.{CanBeCalled, Does, EachCalled, HeadDoes, Inside, MeantCalled, MeantHead, Position, measuring}

-- ---- what a measure can name

let_again : (allowed : Allowed) (n number : ℕ) → is_register_seen allowed ≡ true → is_let_seen LoopMeasure n number ≡ true → is_let_seen allowed n number ≡ true
let_again Any n number seen h = refl
let_again Plain n number seen h = no seen
let_again LoopMeasure n number seen h = h

value_again : (allowed : Allowed) (number : ℕ) (g : Option Global) → is_register_seen allowed ≡ true → is_global_value LoopMeasure number g ≡ true
    → is_global_value allowed number g ≡ true
value_again allowed number (Some G.Register) seen h = seen
value_again allowed number (Some (G.Let n)) seen h = let_again allowed n number seen h
value_again allowed number (Some G.Member) seen h = refl
value_again allowed number g seen h = no h

callee_again : (allowed : Allowed) (g : Option Global) → is_global_callee LoopMeasure g ≡ true → is_global_callee allowed g ≡ true
callee_again allowed (Some G.Constructor) h = refl
callee_again allowed (Some G.Builtin) h = refl
callee_again allowed g h = no h

construction_again : (allowed : Allowed) (g : Option Global) → is_global_construction LoopMeasure g ≡ true → is_global_construction allowed g ≡ true
construction_again allowed (Some G.Constructor) h = refl
construction_again allowed g h = no h

-- ---- what is called is the same there

module _ (here : Position) (registers : List Shape) (c : Choice) (w : World Value) where
  abbrev there : Position
  there = measuring here

  does_again : (f : Candidate) (doing : Doing) → Does here registers c w f doing → Does there registers c w f doing
  does_again f (D.Calls (C.Row row)) h = h
  does_again f (D.Calls (C.Constructor u k)) h = h
  does_again f (D.Calls (C.Function i)) h = h
  does_again f (D.Calls (C.Converts n)) h = h
  does_again f (D.Calls callee) h = absurd h
  does_again f D.Conses h = h

  called_again : (f : Candidate) → CanBeCalled here registers c w f → CanBeCalled there registers c w f
  called_again f h = record { whole = h.whole; answer = h.answer; does = does_again f f.doing h.does }

  each_again : (fs : List Candidate) → EachCalled here registers c w fs → EachCalled there registers c w fs
  each_again [] h = tt
  each_again (f ∷ fs) h = (called_again f h.0, each_again fs h.1)

  meant_again : (meant : Option Meant) → MeantCalled here registers c w meant → MeantCalled there registers c w meant
  meant_again (Some (M.Callee f)) h = called_again f h
  meant_again (Some (M.Row row)) h = each_again (map member_candidate (row_members here.setting.types row)) h
  meant_again (Some (M.Overload fs)) h = each_again fs h
  meant_again (Some (M.Mapping m)) h = record { left = h.left; right = h.right; ahead = h.ahead; back = h.back }
  meant_again (Some (M.Register r s)) h = tt
  meant_again (Some (M.Let i s)) h = tt
  meant_again (Some (M.Member i k)) h = tt
  meant_again None h = tt

  head_does_again : (f : Candidate) (doing : Doing) → HeadDoes here registers c w f doing → HeadDoes there registers c w f doing
  head_does_again f (D.Calls (C.Constructor u k)) h = h
  head_does_again f (D.Calls (C.Converts n)) h = h
  head_does_again f doing h = absurd h

  head_again : (meant : Option Meant) → MeantHead here registers c w meant → MeantHead there registers c w meant
  head_again (Some (M.Callee f)) h = head_does_again f f.doing h
  head_again (Some (M.Mapping m)) h = record { left = h.left; right = h.right; ahead = h.ahead; back = h.back }
  head_again (Some (M.Row row)) h = tt
  head_again (Some (M.Overload fs)) h = tt
  head_again (Some (M.Register r s)) h = tt
  head_again (Some (M.Let i s)) h = tt
  head_again (Some (M.Member i k)) h = tt
  head_again None h = tt

  -- the builtin members of an operator are among its members
  builtin_called : (fs gs : List Candidate) → EachCalled here registers c w (fs ++ gs) → EachCalled there registers c w (fs ++ [])
  builtin_called [] gs h = tt
  builtin_called (f ∷ fs) gs h = (called_again f h.0, builtin_called fs gs h.1)

  behind_called : (ds fs gs : List Candidate) → EachCalled here registers c w (ds ++ fs ++ gs) → EachCalled there registers c w (ds ++ fs ++ [])
  behind_called [] fs gs h = builtin_called fs gs h
  behind_called (d ∷ ds) fs gs h = (called_again d h.0, behind_called ds fs gs h.1)

-- ---- widths and fields

direction_same : (setting : Setting) (d : Option ℕ) → direction_width (plainly setting) d ≡ direction_width setting d
direction_same setting None = refl
direction_same setting (Some d) = refl

width_same : (setting : Setting) (meant : Option Meant) → construct_width (plainly setting) meant ≡ construct_width setting meant
width_same setting (Some (M.Callee f)) = direction_same setting (direction_of f.doing)
width_same setting (Some (M.Mapping m)) = refl
width_same setting (Some (M.Row row)) = refl
width_same setting (Some (M.Overload fs)) = refl
width_same setting (Some (M.Register r s)) = refl
width_same setting (Some (M.Let i s)) = refl
width_same setting (Some (M.Member i k)) = refl
width_same setting None = refl

below_again : (setting : Setting) (i : ℕ) (o : Option (List Field)) → FieldsBelow setting i o → FieldsBelow (plainly setting) i o
below_again setting i None h = tt
below_again setting i (Some fs) h = h

same_failures : (kind : Kind) (typ : TyExp) (names : Tables.Setting) → type_failures kind typ (in_measure names) ≡ type_failures kind typ names
unfolding type_failures
same_failures kind typ names = refl

pub measuring_inside : (here : Position) (registers : List Shape) (c : Choice) (w : World Value) → is_register_seen here.names.allowed ≡ true
    → Inside here registers c w → Inside (measuring here) registers c w
measuring_inside here registers c w seen inside = record {
  lets = λ name i s is h.
      inside.lets name i s is (value_again here.names.allowed here.names.number (here.names.known.value name) seen h);
  registers_there = λ name r s is h.
      inside.registers_there name r s is (value_again here.names.allowed here.names.number (here.names.known.value name) seen h);
  registers_closed = inside.registers_closed;
  members = inside.members;
  callees = λ name h.
      meant_again here registers c w (here.setting.value name) (inside.callees name (callee_again here.names.allowed (here.names.known.value name) h));
  operators = λ operator.
      behind_called here registers c w (builtin_members operator) (map member_candidate (members_of here.setting.types (operator_rows operator)))
      (here.setting.added operator) (inside.operators operator);
  prefixes = λ prefix. each_again here registers c w _ (inside.prefixes prefix);
  heads = λ name h converts.
      head_again here registers c w (here.setting.value name)
      (inside.heads name (construction_again here.names.allowed (here.names.known.value name) h) converts);
  numbers = λ typ n fine is. inside.numbers typ n (sym (same_failures Sort.Int typ here.names) ∙ fine) is;
  constraints = λ typ x fine is. inside.constraints typ x (sym (same_failures Sort.Bool typ here.names) ∙ fine) is;
  widths = λ typ t n fine is width. inside.widths typ t n (sym (same_failures Sort.Type typ here.names) ∙ fine) is width;
  head_widths = λ name n h is.
      inside.head_widths name n (construction_again here.names.allowed (here.names.known.value name) h)
      (sym (width_same here.setting (here.setting.value name)) ∙ is);
  fields_below = λ i. below_again here.setting i (fields here.setting.types i) (inside.fields_below i);
}
