-- Patterns of mappings, `m(p)`: the value on the other side is matched.
use Rattle.std.proofs.Common.{◌≡◌, ℕ, suc, ◌*◌, List, [], ◌∷◌, ap, sym, ◌∙◌, subst, true, Some, None, is_some}
use Rattle.sail_base.specs.declared.place.Place.{Place}
use Rattle.sail_types.specs.Shapes.{fits, shape, shares}
use Rattle.sail_types.specs.declared.shapes.Shape.{Shape}
use Rattle.sail_types.specs.declared.types.Typ.{Typ}
use Rattle.sail_types.specs.declared.values.Value.{Value}
use Rattle.sail_syntax.specs.declared.name.Name.{Name}
use Rattle.sail_core.specs.declared.patterns.Form.TheVariants as F
use Rattle.sail_core.specs.declared.tree.Callee.TheVariants as C
use Rattle.sail_core.specs.Run.{Now}
use Rattle.sail_core.specs.Making as Core
use Rattle.sail_core.specs.Making.{plainly}
use Rattle.sail_core.specs.Patterns as Steps
use Rattle.shape_joins.specs.Joins.{join}
use Rattle.sail_meaning.specs.Text.{Callee, Direction}
use Rattle.sail_meaning.specs.Choice.{parameters}
use Rattle.sail_meaning.specs.World as Source
use Rattle.sail_meaning.specs.Named.{constructor_named}
use Rattle.sail_meaning.specs.Patterns as Written
use Rattle.sail_meaning.specs.Patterns.{whole_matches, construct_matches}
use Rattle.shape_rules.specs.declared.callees.Candidate.{Candidate}
use Rattle.shape_rules.specs.declared.callees.Doing.TheVariants as D
use Rattle.shape_rules.specs.declared.callees.Mapping.{Mapping}
use Rattle.shape_rules.specs.declared.callees.Meant.TheVariants as M
use Rattle.shape_rules.specs.declared.locals.Local.{Local}
use Rattle.shape_rules.specs.Scopes.{Setting, thrown_shape}
use Rattle.shape_rules.specs.Patterns.{Looked, Widths, Piece, pattern, as_one, first_param, direction_look, shape_faults}
use Rattle.shape_rules.specs.Patterns.{Which, forwards, backwards, neither, either, which_side, mapping_look_as}
use Rattle.shape_meanings.specs.Whole.{Choice, closed}
use Rattle.shape_meanings.specs.Keeping.{Suits, Reach, Good, reach_of, Keeps, Agree}
use Rattle.shape_meanings.specs.Worlds.{Describes, KeepsWay, HeadAs, NameCalled, StandsFor}
use Rattle.shape_meanings.specs.Matching.{with_widths, LooksRight, PiecesAre}
use Rattle.shape_meanings.proofs.Runs.{then_agree, call_agrees}
use Rattle.shape_meanings.proofs.Settling.{both_empty}
use Rattle.shape_meanings.proofs.Naming.{closed_is}
use Rattle.shape_meanings.proofs.Matching.{rolled_pattern, comes_to}
use Rattle.shape_meanings.proofs.Tested.{unit_pattern_right}
use Rattle.shape_meanings.proofs.Opening.{tuple_pattern_right}
use Rattle.shape_meanings.proofs.Mappings.{SideIs, side_facts, comes_to_side, mapping_there}

-- what stands in brackets, against one value
as_one_look_right : (setting : Setting) (widths : Widths) (subject : Shape) (place : Place) (ps : List Piece) (ms : List Written.Matcher)
    → PiecesAre setting widths ps ms → (as_one place ps setting widths subject).faults ≡ []
    → LooksRight setting widths subject (as_one place ps setting widths subject) (λ w v. whole_matches ms w v)
as_one_look_right setting widths subject place [] [] are e = unit_pattern_right setting widths subject place e
as_one_look_right setting widths subject place (p ∷ []) (m ∷ []) are e = are.0 subject e
as_one_look_right setting widths subject place (p ∷ q ∷ ps) (m ∷ n ∷ ms) are e =
    tuple_pattern_right setting widths subject place p (q ∷ ps) m (n ∷ ms) are e
as_one_look_right setting widths subject place [] (m ∷ ms) are e = absurd are
as_one_look_right setting widths subject place (p ∷ []) [] are e = absurd are
as_one_look_right setting widths subject place (p ∷ []) (m ∷ n ∷ ms) are e = absurd are.1
as_one_look_right setting widths subject place (p ∷ q ∷ ps) [] are e = absurd are
as_one_look_right setting widths subject place (p ∷ q ∷ ps) (m ∷ []) are e = absurd are.1

-- a way, and what is matched behind it
way_agrees : (setting : Setting) (widths : Widths) (place : Place) (number : ℕ) (part : Looked) (name : List ℕ) (takes gives : Typ)
    (ms : List Written.Matcher)
    → LooksRight setting widths (shape gives) part (λ w v. whole_matches ms w v) → closed (shape gives) ≡ true
    → (registers : List Shape) (c : Choice) (wc : Core.World Value) (ws : Source.World) → Describes setting registers wc ws → (slots : List Local)
    → KeepsWay setting.types registers (thrown_shape setting) wc ws name number takes gives → constructor_named setting.types name ≡ None
    → (v : Value) → fits setting.types v (shape takes) ≡ true → (now : Now Value) → Good (reach_of setting registers c slots) now
    → Agree (reach_of setting registers c slots) (Suits setting.types c part.binds)
    (Steps.matcher plainly wc (pattern place (F.Maps number) (part.pattern ∷ [])) v now)
    (construct_matches name ms (with_widths widths ws) v (constructor_named ws.text.types name) now)
way_agrees setting widths place number part name takes gives ms right whole registers c wc ws d slots keeps absent v fit now good =
    let reach : Reach = reach_of setting registers c slots in
    let P : Value → Type 0 = λ u. fits setting.types u (shape gives) ≡ true in
    let r = then_agree reach P (Suits setting.types c part.binds) (wc.way number v now) (ws.convert name v now)
    (Steps.matcher plainly wc part.pattern) (whole_matches ms (with_widths widths ws))
    (call_agrees reach P now (wc.way number v now) (ws.convert name v now) good (keeps v now fit good.state))
    (λ u later h good2. right.runs registers c wc ws d slots u (subst (λ s. fits setting.types u s ≡ true) (sym (closed_is (shape gives) c whole)) h) later
    good2) in
    let source = ap (λ o. construct_matches name ms (with_widths widths ws) v o now) (ap (λ t. constructor_named t name) d.types ∙ absent) in (
      (λ i. rolled_pattern wc place (F.Maps number) (part.pattern ∷ []) i v now) ∙ r.0 ∙ sym source,
      subst (Keeps reach (Suits setting.types c part.binds)) (sym source) r.1,
    )

-- ---- a mapping that goes one way

doing_head : (setting : Setting) (registers : List Shape) (wc : Core.World Value) (ws : Source.World) (d : Describes setting registers wc ws)
    (name : List ℕ) (f : Candidate) (number : ℕ) → setting.value name ≡ Some (M.Callee f) → f.doing ≡ D.Calls (C.Converts number)
    → (callee : Callee) × StandsFor setting.types registers (thrown_shape setting) wc d.apply f callee
    × HeadAs setting registers wc ws name f callee (D.Calls (C.Converts number))
doing_head setting registers wc ws d name f number is doing =
    let c = subst (NameCalled setting registers wc ws d.apply name) is (d.names name) in
    (c.0, c.2, subst (HeadAs setting registers wc ws name f c.0) doing c.3)

pub direction_right : (setting : Setting) (widths : Widths) (subject : Shape) (name : Name) (f : Candidate) (number : ℕ) (ps : List Piece)
    (ms : List Written.Matcher)
    → setting.value name.text ≡ Some (M.Callee f) → f.doing ≡ D.Calls (C.Converts number) → PiecesAre setting widths ps ms
    → (direction_look name number f ps setting widths subject).faults ≡ []
    → LooksRight setting widths subject (direction_look name number f ps setting widths subject)
    (λ w v. construct_matches name.text ms w v (constructor_named w.text.types name.text))
direction_right setting widths subject name f number ps ms is doing are e = record {
  runs = λ registers c wc ws d slots v h now good.
      let q = both_empty (shape_faults name.place subject (first_param f.params)) _ e in
      let head = doing_head setting registers wc ws d name.text f number is doing in
      let it : Direction = head.2.1.0 in
      let takes : first_param f.params ≡ shape it.takes =
      ap first_param (sym head.1.params) ∙ ap (λ callee. first_param (parameters callee)) head.2.1.1 in
      let gives : f.answer ≡ shape it.gives = head.2.1.3 in
      let right = subst (λ s. LooksRight setting widths s (as_one name.place ps setting widths s) (λ w v. whole_matches ms w v)) gives
      (as_one_look_right setting widths f.answer name.place ps ms are q.1) in
      let own = comes_to setting.types c name.place subject (shape it.takes) 0 v head.2.1.2.takes
      (subst (λ s. shape_faults name.place subject s ≡ []) takes q.0) h in
      subst (λ s. Agree (reach_of setting registers c slots) (Suits setting.types c (as_one name.place ps setting widths s).binds)
      (Steps.matcher plainly wc (pattern name.place (F.Maps number) ((as_one name.place ps setting widths s).pattern ∷ [])) v now)
      (construct_matches name.text ms (with_widths widths ws) v (constructor_named ws.text.types name.text) now)) (sym gives)
      (way_agrees setting widths name.place number (as_one name.place ps setting widths (shape it.gives)) name.text it.takes it.gives ms right head.2.1.2.gives
      registers c wc ws d slots head.2.1.4 head.2.0 v (subst (λ s. fits setting.types v s ≡ true)
      (closed_is (shape it.takes) c head.2.1.2.takes) own) now good);
}

-- ---- a mapping that goes both ways

pub mapping_pattern_right : (setting : Setting) (widths : Widths) (subject : Shape) (name : Name) (m : Mapping) (ps : List Piece) (ms : List Written.Matcher)
    → setting.value name.text ≡ Some (M.Mapping m) → PiecesAre setting widths ps ms
    → (mapping_look_as name.place m ps (which_side m subject) setting widths subject).faults ≡ []
    → LooksRight setting widths subject (mapping_look_as name.place m ps (which_side m subject) setting widths subject)
    (λ w v. construct_matches name.text ms w v (constructor_named w.text.types name.text))
mapping_pattern_right setting widths subject name m ps ms is are e =
    by_side (which_side m subject)
    (side_facts (shares (shape m.left) (shape m.right)) (is_some (join (shape m.left) subject)) (is_some (join (shape m.right) subject))) e
  where
    not_none : {A : Type 0} {x : A} {xs : List A} → (x ∷ xs) ≡ [] → ⊥
    not_none e = cc

    by_side : (w : Which)
        → SideIs (shares (shape m.left) (shape m.right)) (is_some (join (shape m.left) subject)) (is_some (join (shape m.right) subject)) w
        → (mapping_look_as name.place m ps w setting widths subject).faults ≡ []
        → LooksRight setting widths subject (mapping_look_as name.place m ps w setting widths subject)
        (λ w v. construct_matches name.text ms w v (constructor_named w.text.types name.text))
    by_side forwards side e = record {
      runs = λ registers c wc ws d slots v h now good.
          let there = mapping_there setting registers wc ws d name.text m is in
          let takes : closed (shape m.left) ≡ true = subst (λ t. closed (shape t) ≡ true) there.left.0 there.ahead.takes in
          let gives : closed (shape m.right) ≡ true = subst (λ t. closed (shape t) ≡ true) there.right.0 there.ahead.gives in
          way_agrees setting widths name.place (2 * m.number) (as_one name.place ps setting widths (shape m.right)) name.text m.left m.right ms
          (as_one_look_right setting widths (shape m.right) name.place ps ms are e) gives registers c wc ws d slots (there.ways_ahead side.0)
          there.no_constructor v (comes_to_side setting.types c (shape m.left) subject v takes side.1 h) now good;
    }
    by_side backwards side e = record {
      runs = λ registers c wc ws d slots v h now good.
          let there = mapping_there setting registers wc ws d name.text m is in
          let takes : closed (shape m.right) ≡ true = subst (λ t. closed (shape t) ≡ true) there.right.1 there.back.takes in
          let gives : closed (shape m.left) ≡ true = subst (λ t. closed (shape t) ≡ true) there.left.1 there.back.gives in
          way_agrees setting widths name.place (suc (2 * m.number)) (as_one name.place ps setting widths (shape m.left)) name.text m.right m.left ms
          (as_one_look_right setting widths (shape m.left) name.place ps ms are e) gives registers c wc ws d slots (there.ways_back side.0)
          there.no_constructor v (comes_to_side setting.types c (shape m.right) subject v takes side.1 h) now good;
    }
    by_side neither side e = absurd (not_none e)
    by_side either side e = absurd (not_none e)
