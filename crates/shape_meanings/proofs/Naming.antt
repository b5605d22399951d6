-- Names of values: locals, registers, top-level lets and members mean the same in the core and in the source.
use Rattle.std.proofs.Common.{◌≡◌, ℕ, zero, suc, List, [], ◌∷◌, ap, sym, ◌∙◌, refl, subst, Bool, true, false, ◌||◌, Option, Some, None, is_some}
use Rattle.std.proofs.Common.{nat_lt, arith}
use Rattle.std.proofs.Common.{slice_get, ◌⊎◌, inl, inr}
use Rattle.std.proofs.lemmas.Bool.{and_parts}
use Rattle.std.specs.Option.{option_or}
use Rattle.sail_base.specs.declared.place.Place.{Place}
use Rattle.sail_types.specs.Shapes.{fits, put}
use Rattle.sail_types.specs.declared.shapes.Shape.{Shape}
use Rattle.sail_types.specs.declared.shapes.Shape.TheVariants as V
use Rattle.sail_types.specs.declared.shapes.Shape.TheOpen as S
use Rattle.sail_types.specs.declared.values.Value.{Value}
use Rattle.sail_types.specs.declared.values.Value.TheVariants as Val
use Rattle.sail_syntax.specs.declared.name.Name.{Name}
use Rattle.model_state.specs.RunState.{register_value}
use Rattle.sail_core.specs.declared.patterns.Literal.TheVariants as L
use Rattle.sail_core.specs.declared.tree.Kind.TheVariants as K
use Rattle.sail_core.specs.Run as R
use Rattle.sail_core.specs.Run.{Now, Run, needs, held_in}
use Rattle.sail_core.specs.Making as Core
use Rattle.sail_core.specs.Making.{plainly, made}
use Rattle.sail_core.specs.Meaning.{core_meaning}
use Rattle.shape_joins.proofs.Order.{no}
use Rattle.shape_joins.proofs.JoinsLeast.{some_same, none}
use Rattle.sail_meaning.specs.World as Source
use Rattle.sail_meaning.specs.World.{register_named}
use Rattle.sail_meaning.specs.Named.{member_named}
use Rattle.sail_meaning.specs.Targets.{name_read, local_or, not_local, constant_named, register_read}
use Rattle.sail_names.specs.declared.locals.Binding.{Binding}
use Rattle.sail_names.specs.declared.locals.Binding.TheVariants.{Constant, Variable}
use Rattle.sail_names.specs.declared.names.Global.{Global}
use Rattle.sail_names.specs.declared.names.Global.TheVariants as G
use Rattle.sail_names.specs.Known as Tables
use Rattle.sail_names.specs.Known.{is_value, is_global_value}
use Rattle.sail_names.specs.Locals as Bound
use Rattle.sail_names.specs.Locals.{binding_of}
use Rattle.sail_names.specs.Patterns.{unless}
use Rattle.shape_rules.specs.declared.callees.Meant.{Meant}
use Rattle.shape_rules.specs.declared.callees.Meant.TheVariants as M
use Rattle.shape_rules.specs.declared.locals.Local.{Local}
use Rattle.shape_rules.specs.Findings.{leaf}
use Rattle.shape_rules.specs.Scopes.{Setting, Locals, local_of}
use Rattle.shape_rules.specs.Values.{name_found, global_found, local_kind}
use Rattle.shape_meanings.specs.Whole.{Choice, closed, all_below}
use Rattle.shape_meanings.specs.Keeping.{Agree, Fits, Good, reach_of, Keeps}
use Rattle.shape_meanings.specs.Worlds.{LetAs, ValueAs}
use Rattle.shape_meanings.specs.Naming.{AreKnown, AreBound, BoundAs, MeantAs}
use Rattle.shape_meanings.specs.Sound.{Right}
use Rattle.shape_meanings.proofs.Orders.{put_below, put_variables, puts}
use Rattle.shape_meanings.proofs.Runs.{in_scope, not_in_scope, is_named, agree_via}
use Rattle.shape_meanings.proofs.Settling.{RunsAs, settled_right, unrolled, same_name, local_kind_means}

-- ---- locals

local_runs : (setting : Setting) (locals : Locals) (place : Place) (name : List ℕ) (l : Local) → local_of name locals ≡ Some l
    → RunsAs setting locals l.shape (leaf place (local_kind l)) (λ w. name_read w name)
local_runs setting locals place name l is registers c wc ws d slots seen now good =
    let v = in_scope setting.types c slots now.locals name l good.locals (seen name ∙ is) in
    let core : core_meaning wc (leaf place (local_kind l)) now ≡ R.Gives v.0 now =
    ap (λ (r : Run Value Value). r now) (unrolled wc place 0 (local_kind l) [])
    ∙ local_kind_means l.is_variable wc place l now refl
    ∙ ap (λ n. needs (held_in n now.locals) now) (same_name l.name name (is_named locals name l is))
    ∙ ap (λ o. needs o now) v.1 in
    let source : name_read ws name now ≡ R.Gives v.0 now = ap (λ o. local_or o (not_local ws name (constant_named ws name)) now) v.1 in
    agree_via (reach_of setting registers c slots) (Fits setting.types c l.shape) (core_meaning wc (leaf place (local_kind l)) now) (R.Gives v.0 now)
    (name_read ws name now) (R.Gives v.0 now) core source (refl, (v.2, good))

-- ---- names that no local hides

none_below : (i : ℕ) → nat_lt i 0 ≡ true → ⊥
none_below i h = grind (arith, h)

-- a closed shape is itself, whatever variables stand for
pub closed_put : (s : Shape) (c e : Choice) → closed s ≡ true → put c s ≡ put e s
closed_put s c e h = put_below s 0 c e (λ i l. absurd (none_below i l)) h

pub global_source : (ws : Source.World) (name : List ℕ) (now : Now Value) → held_in name now.locals ≡ None
    → name_read ws name now ≡ not_local ws name (constant_named ws name) now
global_source ws name now h = ap (λ o. local_or o (not_local ws name (constant_named ws name)) now) h

constant_source : (ws : Source.World) (name : List ℕ) (now : Now Value) (v : Value) → held_in name now.locals ≡ None → constant_named ws name ≡ Some v
    → name_read ws name now ≡ R.Gives v now
constant_source ws name now v h e = global_source ws name now h ∙ ap (λ o. not_local ws name o now) e

pub closed_is : (s : Shape) (c : Choice) → closed s ≡ true → put c s ≡ s
closed_is s c h = closed_put s c V.Variable h ∙ put_variables s

pub register_closed : (registers : List Shape) (r : ℕ) (s : Shape) → all_below 0 registers ≡ true → slice_get registers r ≡ Some s → closed s ≡ true
register_closed [] r s h e = none e
register_closed (t ∷ ts) zero s h e = subst (λ u. closed u ≡ true) (some_same t s e) (and_parts (closed t) (all_below 0 ts) h).0
register_closed (t ∷ ts) (suc r) s h e = register_closed ts r s (and_parts (closed t) (all_below 0 ts) h).1 e

pub named_put : (i : ℕ) (c : Choice) → put c (V.Named i []) ≡ V.Named i []
named_put i c = ap (put c) (sym (V.rolls-Named i [])) ∙ puts c (S.Named i []) ∙ V.rolls-Named i []

pub register_keeps : (setting : Setting) (registers : List Shape) (c : Choice) (slots : List Local) (hart r : ℕ) (s : Shape) (now : Now Value)
    (o : Option Value)
    → Good (reach_of setting registers c slots) now → slice_get registers r ≡ Some s → put c s ≡ s → register_value now.state hart r ≡ o
    → Keeps (reach_of setting registers c slots) (Fits setting.types c s) (needs o now)
register_keeps setting registers c slots hart r s now None good there same is = tt
register_keeps setting registers c slots hart r s now (Some v) good there same is =
    (subst (λ t. fits setting.types v t ≡ true) (sym same) (good.state hart r v s is there), good)

-- ---- a name, whatever it means

-- a register of the hart at work
register_runs : (setting : Setting) (locals : Locals) (place : Place) (name : List ℕ) (r : ℕ) (s : Shape) → local_of name locals ≡ None
    → setting.value name ≡ Some (M.Register r s) → RunsAs setting locals s (leaf place (K.Register r)) (λ w. name_read w name)
register_runs setting locals place name r s is meant registers c wc ws d slots seen now good =
    let kept = subst (ValueAs setting registers wc ws name) meant (d.values name) in
    let absent = not_in_scope setting.types c slots now.locals name good.locals (seen name ∙ is) in
    let source : name_read ws name now ≡ needs (register_value now.state ws.hart r) now =
    global_source ws name now absent ∙ ap (λ o. not_local ws name o now) kept.0 ∙ ap (λ o. R.goes_on (needs o now) (register_read ws)) kept.1 in
    let core : core_meaning wc (leaf place (K.Register r)) now ≡ needs (register_value now.state ws.hart r) now =
    ap (λ (q : Run Value Value). q now) (unrolled wc place 0 (K.Register r) [])
    ∙ after_read (register_value now.state wc.hart r) now ∙ ap (λ h. needs (register_value now.state h r) now) d.hart in
    agree_via (reach_of setting registers c slots) (Fits setting.types c s) (core_meaning wc (leaf place (K.Register r)) now)
    (needs (register_value now.state ws.hart r) now) (name_read ws name now) (needs (register_value now.state ws.hart r) now) core source (
      refl,
      register_keeps setting registers c slots ws.hart r s now (register_value now.state ws.hart r) good kept.2
          (closed_is s c (register_closed registers r s d.closed_registers kept.2)) refl,
    )
  where
    after_read : (o : Option Value) (now : Now Value) → R.goes_on (needs o now) (λ x. made plainly 0 [] x) ≡ needs o now
    after_read None now = refl
    after_read (Some v) now = refl

-- a name that a top-level let bound: its value on both sides, or both are stuck
let_by : (setting : Setting) (registers : List Shape) (c : Choice) (slots : List Local) (wc : Core.World Value) (ws : Source.World) (place : Place)
    (name : List ℕ) (i : ℕ) (s : Shape) (o : Option Value) (now : Now Value)
    → held_in name now.locals ≡ None → slice_get wc.lets i ≡ o → constant_named ws name ≡ o → LetAs setting.types (register_named ws name) s o
    → Good (reach_of setting registers c slots) now
    → Agree (reach_of setting registers c slots) (Fits setting.types c s) (core_meaning wc (leaf place (K.TopLevel i)) now) (name_read ws name now)
let_by setting registers c slots wc ws place name i s None now absent core source has good =
    let stuck_there : name_read ws name now ≡ R.Stuck =
    global_source ws name now absent ∙ ap (λ o. not_local ws name o now) source ∙ ap (λ o. R.goes_on (needs o now) (register_read ws)) has in (
      ap (λ (q : Run Value Value). q now) (unrolled wc place 0 (K.TopLevel i) [])
          ∙ ap (λ o. R.goes_on (needs o now) (λ x. made plainly 0 [] x)) core ∙ sym stuck_there,
      subst (Keeps (reach_of setting registers c slots) (Fits setting.types c s)) (sym stuck_there) tt,
    )
let_by setting registers c slots wc ws place name i s (Some v) now absent core source has good = (
  ap (λ (q : Run Value Value). q now) (unrolled wc place 0 (K.TopLevel i) [])
      ∙ ap (λ o. R.goes_on (needs o now) (λ x. made plainly 0 [] x)) core ∙ sym (constant_source ws name now v absent source),
  subst (Keeps (reach_of setting registers c slots) (Fits setting.types c s)) (sym (constant_source ws name now v absent source))
      (has c, good),
)

let_runs : (setting : Setting) (locals : Locals) (place : Place) (name : List ℕ) (i : ℕ) (s : Shape) → local_of name locals ≡ None
    → setting.value name ≡ Some (M.Let i s) → RunsAs setting locals s (leaf place (K.TopLevel i)) (λ w. name_read w name)
let_runs setting locals place name i s is meant registers c wc ws d slots seen now good =
    let kept = subst (ValueAs setting registers wc ws name) meant (d.values name) in
    let_by setting registers c slots wc ws place name i s kept.1 now
    (not_in_scope setting.types c slots now.locals name good.locals (seen name ∙ is)) kept.2 kept.3 kept.4 good

-- a member of an enum
member_runs : (setting : Setting) (locals : Locals) (place : Place) (name : List ℕ) (i k : ℕ) → local_of name locals ≡ None
    → setting.value name ≡ Some (M.Member i k)
    → RunsAs setting locals (V.Named i []) (leaf place (K.Constant (L.Member i k))) (λ w. name_read w name)
member_runs setting locals place name i k is meant registers c wc ws d slots seen now good =
    let kept = subst (ValueAs setting registers wc ws name) meant (d.values name) in
    let absent = not_in_scope setting.types c slots now.locals name good.locals (seen name ∙ is) in
    let found : constant_named ws name ≡ Some (Val.Member i k) =
    ap (λ t. option_or (member_named t name) (held_in name ws.lets)) d.types ∙ ap (λ o. option_or o (held_in name ws.lets)) kept.0 in (
      ap (λ (q : Run Value Value). q now) (unrolled wc place 0 (K.Constant (L.Member i k)) [])
          ∙ sym (constant_source ws name now (Val.Member i k) absent found),
      subst (Keeps (reach_of setting registers c slots) (Fits setting.types c (V.Named i []))) (sym (constant_source ws name now (Val.Member i k) absent found))
          (subst (λ t. fits setting.types (Val.Member i k) t ≡ true) (sym (named_put i c)) kept.1, good),
    )

local_right : (setting : Setting) (locals : Locals) (want : Shape) (name : Name) (l : Local) (meant : Option Meant) → local_of name.text locals ≡ Some l
    → (name_found name (Some l) meant want).faults ≡ []
    → Right setting locals want (name_found name (Some l) meant want) (λ w. name_read w name.text)
local_right setting locals want name l meant is e =
    settled_right setting locals name.place want l.shape (λ s. leaf name.place (local_kind l)) (λ w. name_read w name.text) e
    (λ t. local_runs setting locals name.place name.text l is)

-- what a name means that the tables know as a value
abbrev IsValue : Option Meant → Type 0
IsValue meant = ((r : ℕ) × (s : Shape) × (meant ≡ Some (M.Register r s))) ⊎ (((i : ℕ) × (s : Shape) × (meant ≡ Some (M.Let i s)))
    ⊎ ((i : ℕ) × (k : ℕ) × (meant ≡ Some (M.Member i k))))

value_known : (names : Tables.Setting) (o : Option Global) (meant : Option Meant) → is_global_value names.allowed names.number o ≡ true
    → MeantAs names o meant → IsValue meant
value_known names (Some G.Register) meant h m = inl m
value_known names (Some (G.Let n)) meant h m = inr (inl (m h))
value_known names (Some G.Member) meant h m = inr (inr m)
value_known names o meant h m = no h

global_right : (setting : Setting) (locals : Locals) (want : Shape) (name : Name) (meant : Option Meant) → local_of name.text locals ≡ None
    → setting.value name.text ≡ meant → IsValue meant → (global_found name.place meant want).faults ≡ []
    → Right setting locals want (global_found name.place meant want) (λ w. name_read w name.text)
global_right setting locals want name meant is value (inl k) e =
    subst (λ m. Right setting locals want (global_found name.place m want) (λ w. name_read w name.text)) (sym k.2)
    (settled_right setting locals name.place want k.1 (λ t. leaf name.place (K.Register k.0)) (λ w. name_read w name.text)
    (subst (λ m. (global_found name.place m want).faults ≡ []) k.2 e)
    (λ t. register_runs setting locals name.place name.text k.0 k.1 is (value ∙ k.2)))
global_right setting locals want name meant is value (inr (inl k)) e =
    subst (λ m. Right setting locals want (global_found name.place m want) (λ w. name_read w name.text)) (sym k.2)
    (settled_right setting locals name.place want k.1 (λ t. leaf name.place (K.TopLevel k.0)) (λ w. name_read w name.text)
    (subst (λ m. (global_found name.place m want).faults ≡ []) k.2 e)
    (λ t. let_runs setting locals name.place name.text k.0 k.1 is (value ∙ k.2)))
global_right setting locals want name meant is value (inr (inr k)) e =
    subst (λ m. Right setting locals want (global_found name.place m want) (λ w. name_read w name.text)) (sym k.2)
    (settled_right setting locals name.place want (V.Named k.0 []) (λ t. leaf name.place (K.Constant (L.Member k.0 k.1))) (λ w. name_read w name.text)
    (subst (λ m. (global_found name.place m want).faults ≡ []) k.2 e)
    (λ t. member_runs setting locals name.place name.text k.0 k.1 is (value ∙ k.2)))

pub unless_true : (b : Bool) (name : Name) → unless b name ≡ [] → b ≡ true
unless_true true name h = refl
unless_true false name h = absurd (no_faults_here h)
  where
    no_faults_here : {A : Type 0} {x : A} → (x ∷ []) ≡ [] → ⊥
    no_faults_here h = cc

name_step : (setting : Setting) (names : Tables.Setting) → AreKnown setting names → (locals : Locals) (bound : Bound.Locals) → AreBound bound locals
    → (want : Shape) (name : Name) (o : Option Local) (b : Option Binding) → local_of name.text locals ≡ o → binding_of name.text bound ≡ b → BoundAs b o
    → (is_some b || is_global_value names.allowed names.number (names.known.value name.text)) ≡ true
    → (name_found name o (setting.value name.text) want).faults ≡ []
    → Right setting locals want (name_found name o (setting.value name.text) want) (λ w. name_read w name.text)
name_step setting names known locals bound are want name (Some l) b is bis bound_as h e = local_right setting locals want name l (setting.value name.text) is e
name_step setting names known locals bound are want name None None is bis bound_as h e =
    global_right setting locals want name (setting.value name.text) is refl
    (value_known names (names.known.value name.text) (setting.value name.text) h (known.values name.text)) e
name_step setting names known locals bound are want name None (Some Constant) is bis bound_as h e = absurd bound_as
name_step setting names known locals bound are want name None (Some Variable) is bis bound_as h e = absurd bound_as

-- a name of a value
pub name_right : (setting : Setting) (names : Tables.Setting) → AreKnown setting names → (locals : Locals) (bound : Bound.Locals) → AreBound bound locals
    → (want : Shape) (name : Name) → unless (is_value names bound name.text) name ≡ []
    → (name_found name (local_of name.text locals) (setting.value name.text) want).faults ≡ []
    → Right setting locals want (name_found name (local_of name.text locals) (setting.value name.text) want) (λ w. name_read w name.text)
name_right setting names known locals bound are want name h e =
    name_step setting names known locals bound are want name (local_of name.text locals) (binding_of name.text bound) refl refl (are name.text)
    (unless_true (is_value names bound name.text) name h) e
