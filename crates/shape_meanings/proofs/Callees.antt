-- Calls of a function or a constructor by its name.
use Rattle.std.proofs.Common.{◌≡◌, ℕ, zero, suc, List, [], ◌∷◌, length, ap, sym, ◌∙◌, refl, subst, Bool, true, false, Some, None, nat_eq}
use Rattle.std.proofs.Common.{if◌then◌else◌, arith}
use Rattle.std.proofs.lemmas.Cmp.{nat_eq_equiv}
use Rattle.sail_base.specs.declared.place.Place.{Place}
use Rattle.sail_types.specs.declared.shapes.Shape.{Shape, Shape-F, out-Shape}
use Rattle.sail_types.specs.declared.shapes.Shape.TheOpen as S
use Rattle.sail_types.specs.declared.table.Types.{Types}
use Rattle.sail_types.specs.declared.values.Value.{Value}
use Rattle.sail_types.specs.declared.values.Value.TheVariants as Val
use Rattle.sail_syntax.specs.declared.name.Name.{Name}
use Rattle.sail_core.specs.Run.{Now, needs, gives, in_turn, ◌then◌}
use Rattle.sail_core.specs.Making as Core
use Rattle.shape_joins.proofs.Order.{no}
use Rattle.sail_meaning.specs.Text.{Callee, function, direction, constructor, builtin, cons, alone}
use Rattle.sail_meaning.specs.Choice.{parameters, arguments, choice, unit_for, form_takes_unit}
use Rattle.sail_meaning.specs.World as Source
use Rattle.sail_meaning.specs.World.{Piece}
use Rattle.sail_meaning.specs.Expressions.{each}
use Rattle.shape_rules.specs.declared.callees.Candidate.{Candidate}
use Rattle.shape_rules.specs.declared.callees.Meant.TheVariants as M
use Rattle.shape_rules.specs.Scopes.{Setting, Locals, thrown_shape}
use Rattle.shape_rules.specs.Calls.{Elaborate, takes_unit, takes_unit_form, arguments_for, one_called}
use Rattle.shape_rules.specs.Values.{unit_found, does_convert}
use Rattle.shape_meanings.specs.Worlds.{Describes, Apply, StandsFor, NameCalled, call_by, is_direction}
use Rattle.shape_meanings.specs.Sound.{Right}
use Rattle.shape_meanings.specs.Parts.{AreRight}
use Rattle.shape_meanings.proofs.Solved.{one_right}
use Rattle.shape_meanings.proofs.Calling.{unit_right, right_where}

-- ---- `f()`

same_takes : (x : Shape-F Shape) → form_takes_unit x ≡ takes_unit_form x
same_takes S.Unit = refl
same_takes (S.Variable i) = refl
same_takes x = refl

abbrev units : Bool → List Value
units b = if b then Val.Unit ∷ [] else []

unit_for_is : (ss : List Shape) → unit_for ss ≡ units (takes_unit ss)
unit_for_is [] = refl
unit_for_is (s ∷ []) = ap units (same_takes (out-Shape s))
unit_for_is (s ∷ t ∷ ss) = refl

-- what the arguments of a callee mean
abbrev unit_if : Bool → List Source.Meaning
unit_if b = if b then (λ w. gives Val.Unit) ∷ [] else []

abbrev pub arguments_meant : List Shape → List Source.Meaning → List Source.Meaning
arguments_meant params [] = unit_if (takes_unit params)
arguments_meant params (m ∷ ms) = m ∷ ms

unit_if_right : (setting : Setting) (locals : Locals) (place : Place) (b : Bool)
    → AreRight setting locals (if b then unit_found place ∷ [] else []) (unit_if b)
unit_if_right setting locals place true = (unit_right setting locals place, tt)
unit_if_right setting locals place false = tt

arguments_are : (setting : Setting) (locals : Locals) (place : Place) (params : List Shape) (es : List Elaborate) (ms : List Source.Meaning)
    → AreRight setting locals es ms → AreRight setting locals (arguments_for (unit_found place) params es) (arguments_meant params ms)
arguments_are setting locals place params [] [] right = unit_if_right setting locals place (takes_unit params)
arguments_are setting locals place params [] (m ∷ ms) right = absurd right
arguments_are setting locals place params (e ∷ es) [] right = absurd right
arguments_are setting locals place params (e ∷ es) (m ∷ ms) right = right

-- ---- the callee in the source

no_argument_is : (callee : Callee) → is_direction callee ≡ false → arguments (alone callee) [] ≡ unit_for (parameters callee)
no_argument_is (function f) h = refl
no_argument_is (direction d) h = no (sym h)
no_argument_is (constructor u k ss) h = refl
no_argument_is (builtin row ss) h = refl
no_argument_is cons h = refl

arguments_stay : (callee : Callee) (v : Value) (vs : List Value) → is_direction callee ≡ false → arguments (alone callee) (v ∷ vs) ≡ (v ∷ vs)
arguments_stay (function f) v vs h = refl
arguments_stay (direction d) v vs h = no (sym h)
arguments_stay (constructor u k ss) v vs h = refl
arguments_stay (builtin row ss) v vs h = refl
arguments_stay cons v vs h = refl

-- a callee on as many values as it has parameters
pub applied_once : (types : Types) (apply : Apply) (place : Place) (callee : Callee) (vs : List Value) (now : Now Value) → length vs ≡ length
    (parameters callee)
    → (needs (choice types (alone callee) vs) then λ c. apply place c vs) now ≡ apply place callee vs now
applied_once types apply place callee vs now h =
    ap (λ b. (needs (if b then Some callee else None) then λ c. apply place c vs) now)
    (ap (λ n. nat_eq n (length (parameters callee))) h ∙ nat_eq_equiv.refl (length (parameters callee)))

pub call_alone : (types : Types) (apply : Apply) (place : Place) (callee : Callee) (vs us : List Value) (now : Now Value) → arguments (alone callee) vs ≡ us
    → call_by types apply place (Some (alone callee)) vs now ≡ (needs (choice types (alone callee) us) then λ c. apply place c us) now
call_alone types apply place callee vs us now h = ap (λ xs. (needs (choice types (alone callee) xs) then λ c. apply place c xs) now) h

-- on so many values the arguments stay as they are
pub stays : (callee : Callee) (vs : List Value) → is_direction callee ≡ false → length vs ≡ length (parameters callee) → arguments (alone callee) vs ≡ vs
stays callee [] plain many = no_argument_is callee plain ∙ none_for (parameters callee) many
  where
    not_zero : (n : ℕ) → zero ≡ suc n → ⊥
    not_zero n h = grind (arith, h)

    none_for : (ss : List Shape) → zero ≡ length ss → unit_for ss ≡ []
    none_for [] h = refl
    none_for (s ∷ ss) h = absurd (not_zero (length ss) h)
stays callee (v ∷ vs) plain many = arguments_stay callee v vs plain

-- ---- a call

pub alone_called : (setting : Setting) (registers : List Shape) (wc : Core.World Value) (ws : Source.World) (d : Describes setting registers wc ws)
    (name : List ℕ) (f : Candidate) → setting.value name ≡ Some (M.Callee f)
    → (callee : Callee) × (ws.text.called name ≡ Some (alone callee)) × StandsFor setting.types registers (thrown_shape setting) wc d.apply f callee
alone_called setting registers wc ws d name f is =
    let c = subst (NameCalled setting registers wc ws d.apply name) is (d.names name) in
    (c.0, c.1, c.2)

pub by_alone : (setting : Setting) (registers : List Shape) (wc : Core.World Value) (ws : Source.World) (d : Describes setting registers wc ws)
    (place : Place) (name : List ℕ) (callee : Callee) (vs : List Value) → ws.text.called name ≡ Some (alone callee)
    → ws.call place name vs ≡ call_by setting.types d.apply place (Some (alone callee)) vs
by_alone setting registers wc ws d place name callee vs is = d.calls place name vs ∙ ap (λ o. call_by setting.types d.apply place o vs) is

-- no argument is what the callee takes then
none_given : (setting : Setting) (registers : List Shape) (wc : Core.World Value) (ws : Source.World) (d : Describes setting registers wc ws) (place : Place)
    (name : List ℕ) (callee : Callee) (b : Bool) (now : Now Value) → ws.text.called name ≡ Some (alone callee) → is_direction callee ≡ false
    → takes_unit (parameters callee) ≡ b
    → ws.call place name [] now ≡ (in_turn (each (unit_if b) ws) then ws.call place name) now
none_given setting registers wc ws d place name callee true now is plain takes =
    (λ i. by_alone setting registers wc ws d place name callee [] is i now)
    ∙ call_alone setting.types d.apply place callee [] (Val.Unit ∷ []) now
    (no_argument_is callee plain ∙ unit_for_is (parameters callee) ∙ ap units takes)
    ∙ sym (call_alone setting.types d.apply place callee (Val.Unit ∷ []) (Val.Unit ∷ []) now (arguments_stay callee Val.Unit [] plain))
    ∙ (λ i. sym (by_alone setting registers wc ws d place name callee (Val.Unit ∷ []) is) i now)
none_given setting registers wc ws d place name callee false now is plain takes = refl

meant_step : (ws : Source.World) (place : Place) (name : List ℕ) (params : List Shape) (ms : List Source.Meaning) (now : Now Value)
    → ws.call place name [] now ≡ (in_turn (each (unit_if (takes_unit params)) ws) then ws.call place name) now
    → (in_turn (each ms ws) then ws.call place name) now ≡ (in_turn (each (arguments_meant params ms) ws) then ws.call place name) now
meant_step ws place name params [] now h = h
meant_step ws place name params (m ∷ ms) now h = refl

-- a name that stands for one callee in each world
abbrev pub StandsAlone : Setting → List ℕ → Candidate → Type 0
StandsAlone setting name f =
    (registers : List Shape) (wc : Core.World Value) (ws : Source.World) (d : Describes setting registers wc ws)
    → (callee : Callee) × (ws.text.called name ≡ Some (alone callee)) × StandsFor setting.types registers (thrown_shape setting) wc d.apply f callee

pub alone_right : (setting : Setting) (locals : Locals) (want : Shape) (name : Name) (f : Candidate) (es : List Elaborate) (ms : List Source.Meaning)
    → StandsAlone setting name.text f → does_convert f.doing ≡ false → AreRight setting locals es ms
    → (one_called name.place f (arguments_for (unit_found name.place) f.params es) setting locals want).faults ≡ []
    → Right setting locals want (one_called name.place f (arguments_for (unit_found name.place) f.params es) setting locals want)
    (λ w. in_turn (each ms w) then w.call name.place name.text)
alone_right setting locals want name f es ms there plain right e =
    let goes : Source.World → List Value → Piece Value = λ w vs. w.call name.place name.text vs in
    right_where setting locals want (one_called name.place f (arguments_for (unit_found name.place) f.params es) setting locals want)
    (λ w. in_turn (each (arguments_meant f.params ms) w) then goes w) (λ w. in_turn (each ms w) then goes w)
    (λ registers wc ws d now.
    let a = there registers wc ws d in
    meant_step ws name.place name.text f.params ms now
    (subst (λ ps. ws.call name.place name.text [] now ≡ (in_turn (each (unit_if (takes_unit ps)) ws) then ws.call name.place name.text) now) a.2.params
    (none_given setting registers wc ws d name.place name.text a.0 (takes_unit (parameters a.0)) now a.1 (a.2.converts ∙ plain) refl)))
    (one_right setting locals want name.place f (arguments_for (unit_found name.place) f.params es) (arguments_meant f.params ms) goes
    (arguments_are setting locals name.place f.params es ms right)
    (λ registers c wc ws d vs many.
    let a = there registers wc ws d in
    let count : length vs ≡ length (parameters a.0) = many ∙ ap length (sym a.2.params) in (
      a.0,
      a.2,
      λ now.
          (λ i. by_alone setting registers wc ws d name.place name.text a.0 vs a.1 i now)
          ∙ call_alone setting.types d.apply name.place a.0 vs vs now (stays a.0 vs (a.2.converts ∙ plain) count)
          ∙ applied_once setting.types d.apply name.place a.0 vs now count,
    )) e)

-- a call of a function or a constructor
pub callee_right : (setting : Setting) (locals : Locals) (want : Shape) (name : Name) (f : Candidate) (es : List Elaborate) (ms : List Source.Meaning)
    → setting.value name.text ≡ Some (M.Callee f) → does_convert f.doing ≡ false → AreRight setting locals es ms
    → (one_called name.place f (arguments_for (unit_found name.place) f.params es) setting locals want).faults ≡ []
    → Right setting locals want (one_called name.place f (arguments_for (unit_found name.place) f.params es) setting locals want)
    (λ w. in_turn (each ms w) then w.call name.place name.text)
callee_right setting locals want name f es ms is plain right e =
    alone_right setting locals want name f es ms (λ registers wc ws d. alone_called setting registers wc ws d name.text f is) plain right e
