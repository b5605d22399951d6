-- Calls by name: a callee, a builtin or an overload.
use Rattle.std.proofs.Common.{◌≡◌, ℕ, zero, suc, List, [], ◌∷◌, length, ap, sym, ◌∙◌, refl, subst, Some, arith}
use Rattle.sail_base.specs.declared.place.Place.{Place}
use Rattle.sail_types.specs.declared.shapes.Shape.{Shape}
use Rattle.sail_types.specs.declared.shapes.Shape.TheOpen as S
use Rattle.sail_types.specs.declared.shapes.Shape.TheVariants as V
use Rattle.sail_types.specs.declared.table.Types.{Types}
use Rattle.sail_types.specs.declared.values.Value.{Value}
use Rattle.sail_types.specs.declared.values.Value.TheOpen as W
use Rattle.sail_types.specs.declared.values.Value.TheVariants as Val
use Rattle.sail_syntax.specs.declared.name.Name.{Name}
use Rattle.sail_core.specs.declared.patterns.Literal.TheVariants as L
use Rattle.sail_core.specs.declared.tree.Kind.TheVariants as K
use Rattle.sail_core.specs.Run.{Now, Run, needs, gives, in_turn, ◌then◌}
use Rattle.sail_core.specs.Making as Core
use Rattle.sail_meaning.specs.Text.{Callee, overload}
use Rattle.sail_meaning.specs.Choice.{first_fitting}
use Rattle.sail_meaning.specs.World as Source
use Rattle.sail_meaning.specs.World.{Piece}
use Rattle.sail_meaning.specs.Expressions.{each}
use Rattle.shape_rules.specs.declared.callees.Candidate.{Candidate}
use Rattle.shape_rules.specs.Findings.{Found, leaf}
use Rattle.shape_rules.specs.Scopes.{Setting, Locals, thrown_shape}
use Rattle.shape_rules.specs.Calls.{Elaborate, several_called, or_unit}
use Rattle.shape_rules.specs.Values.{unit_found}
use Rattle.shape_meanings.specs.Keeping.{Fits, reach_of, Keeps}
use Rattle.shape_rules.specs.declared.callees.Meant.TheVariants as M
use Rattle.shape_meanings.specs.Worlds.{Describes, Apply, StandForEach, Distinct, call_by, NameCalled}
use Rattle.shape_meanings.specs.Parts.{AreRight, IsRight}
use Rattle.shape_meanings.specs.Sound.{Right}
use Rattle.shape_meanings.proofs.Arguments.{several_right}
use Rattle.shape_meanings.proofs.Settling.{RunsAs, settled_right, unrolled, form_has}

-- ---- `()`

unit_runs : (setting : Setting) (locals : Locals) (place : Place)
    → RunsAs setting locals V.Unit (leaf place (K.Constant L.Unit)) (λ w. gives Val.Unit)
unit_runs setting locals place registers c wc ws d slots seen now good = (
  ap (λ (q : Run Value Value). q now) (unrolled wc place 0 (K.Constant L.Unit) []),
  (form_has setting.types c W.Unit S.Unit Val.Unit V.Unit Val.rolls-Unit V.rolls-Unit refl, good),
)

pub unit_right : (setting : Setting) (locals : Locals) (place : Place) → IsRight setting locals (unit_found place) (λ w. gives Val.Unit)
unit_right setting locals place want e =
    settled_right setting locals place want V.Unit (λ s. leaf place (K.Constant L.Unit)) (λ w. gives Val.Unit) e (λ t. unit_runs setting locals place)

-- ---- an overload

-- `f()` has the argument `()`
abbrev pub or_unit_meant : List Source.Meaning → List Source.Meaning
or_unit_meant [] = (λ w. gives Val.Unit) ∷ []
or_unit_meant (m ∷ ms) = m ∷ ms

or_unit_are : (setting : Setting) (locals : Locals) (place : Place) (es : List Elaborate) (ms : List Source.Meaning) → AreRight setting locals es ms
    → AreRight setting locals (or_unit (unit_found place) es) (or_unit_meant ms)
or_unit_are setting locals place [] [] right = (unit_right setting locals place, tt)
or_unit_are setting locals place [] (m ∷ ms) right = absurd right
or_unit_are setting locals place (e ∷ es) [] right = absurd right
or_unit_are setting locals place (e ∷ es) (m ∷ ms) right = right

-- what an overload means on values of which there is one at least
pub overloaded : (types : Types) (apply : Apply) (place : Place) (callees : List Callee) (vs : List Value) (now : Now Value) (n : ℕ) → length vs ≡ suc n
    → call_by types apply place (Some (overload callees)) vs now ≡ (needs (first_fitting types callees vs) then λ callee. apply place callee vs) now
overloaded types apply place callees [] now n h = absurd (zero_not n h)
  where
    zero_not : (n : ℕ) → zero ≡ suc n → ⊥
    zero_not n h = grind (arith, h)
overloaded types apply place callees (v ∷ vs) now n h = refl

or_unit_count : (es : List Elaborate) (place : Place) → (n : ℕ) × (length (or_unit (unit_found place) es) ≡ suc n)
or_unit_count [] place = (0, refl)
or_unit_count (e ∷ es) place = (length es, refl)

-- no argument is `()`, whatever is called then
no_argument : (ws : Source.World) (place : Place) (name : List ℕ) (ms : List Source.Meaning) (now : Now Value)
    → ws.call place name [] ≡ ws.call place name (Val.Unit ∷ [])
    → (in_turn (each ms ws) then ws.call place name) now ≡ (in_turn (each (or_unit_meant ms) ws) then ws.call place name) now
no_argument ws place name [] now h = λ i. h i now
no_argument ws place name (m ∷ ms) now h = refl

-- what is right is so for a meaning that is the same in each world that the setting describes
pub right_where : (setting : Setting) (locals : Locals) (want : Shape) (found : Found) (m n : Source.Meaning)
    → ((registers : List Shape) (wc : Core.World Value) (ws : Source.World) → Describes setting registers wc ws → (now : Now Value) → n ws now ≡ m ws now)
    → Right setting locals want found m → Right setting locals want found n
right_where setting locals want found m n same r = record {
  above = r.above;
  runs = λ registers c wc ws d slots seen now good.
      let a = r.runs registers c wc ws d slots seen now good in (
        a.0 ∙ sym (same registers wc ws d now),
        subst (Keeps (reach_of setting registers c slots) (Fits setting.types c found.shape)) (sym (same registers wc ws d now)) a.1,
      );
}

-- an overload in the worlds that a setting describes
pub overload_called : (setting : Setting) (registers : List Shape) (wc : Core.World Value) (ws : Source.World) (d : Describes setting registers wc ws)
    (name : List ℕ) (fs : List Candidate) → setting.value name ≡ Some (M.Overload fs)
    → (callees : List Callee) × (ws.text.called name ≡ Some (overload callees))
    × StandForEach setting.types registers (thrown_shape setting) wc d.apply fs callees × Distinct fs
overload_called setting registers wc ws d name fs is = subst (NameCalled setting registers wc ws d.apply name) is (d.names name)

pub by_overload : (setting : Setting) (registers : List Shape) (wc : Core.World Value) (ws : Source.World) (d : Describes setting registers wc ws)
    (place : Place) (name : List ℕ) (callees : List Callee) (vs : List Value) → ws.text.called name ≡ Some (overload callees)
    → ws.call place name vs ≡ call_by setting.types d.apply place (Some (overload callees)) vs
by_overload setting registers wc ws d place name callees vs is =
    d.calls place name vs ∙ ap (λ o. call_by setting.types d.apply place o vs) is

-- a name that stands for several callees in each world
abbrev pub StandsOver : Setting → List ℕ → List Candidate → Type 0
StandsOver setting name fs =
    (registers : List Shape) (wc : Core.World Value) (ws : Source.World) (d : Describes setting registers wc ws)
    → (callees : List Callee) × (ws.text.called name ≡ Some (overload callees))
    × StandForEach setting.types registers (thrown_shape setting) wc d.apply fs callees × Distinct fs

pub over_right : (setting : Setting) (locals : Locals) (want : Shape) (name : Name) (fs : List Candidate) (es : List Elaborate) (ms : List Source.Meaning)
    → StandsOver setting name.text fs → AreRight setting locals es ms
    → (several_called name.place name.text fs (or_unit (unit_found name.place) es) setting locals want).faults ≡ []
    → Right setting locals want (several_called name.place name.text fs (or_unit (unit_found name.place) es) setting locals want)
    (λ w. in_turn (each ms w) then w.call name.place name.text)
over_right setting locals want name fs es ms there right e =
    let goes : Source.World → List Value → Piece Value = λ w vs. w.call name.place name.text vs in
    right_where setting locals want (several_called name.place name.text fs (or_unit (unit_found name.place) es) setting locals want)
    (λ w. in_turn (each (or_unit_meant ms) w) then goes w) (λ w. in_turn (each ms w) then goes w)
    (λ registers wc ws d now.
    let o = there registers wc ws d in
    no_argument ws name.place name.text ms now
    (by_overload setting registers wc ws d name.place name.text o.0 [] o.1 ∙ sym (by_overload setting registers wc ws d name.place name.text o.0
    (Val.Unit ∷ []) o.1)))
    (several_right setting locals want name.place name.text fs (or_unit (unit_found name.place) es) (or_unit_meant ms) goes
    (or_unit_are setting locals name.place es ms right)
    (λ registers wc ws d.
    let o = there registers wc ws d in (
      o.0,
      o.2,
      o.3,
      λ vs now count.
          let k = or_unit_count es name.place in
          (λ i. by_overload setting registers wc ws d name.place name.text o.0 vs o.1 i now)
          ∙ overloaded setting.types d.apply name.place o.0 vs now k.0 (count ∙ k.1),
    )) e)

pub overload_right : (setting : Setting) (locals : Locals) (want : Shape) (name : Name) (fs : List Candidate) (es : List Elaborate) (ms : List Source.Meaning)
    → setting.value name.text ≡ Some (M.Overload fs) → AreRight setting locals es ms
    → (several_called name.place name.text fs (or_unit (unit_found name.place) es) setting locals want).faults ≡ []
    → Right setting locals want (several_called name.place name.text fs (or_unit (unit_found name.place) es) setting locals want)
    (λ w. in_turn (each ms w) then w.call name.place name.text)
overload_right setting locals want name fs es ms is right e =
    over_right setting locals want name fs es ms (λ registers wc ws d. overload_called setting registers wc ws d name.text fs is) right e
