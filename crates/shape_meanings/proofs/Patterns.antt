-- Patterns over their parts: `as`, types at patterns, and tuples.
use Rattle.std.proofs.Common.{◌≡◌, ℕ, zero, suc, List, [], ◌∷◌, ◌++◌, map, length}
use Rattle.std.proofs.Common.{ap, ◌∙◌, refl, Option, Some, None}
use Rattle.std.proofs.Common.{arith}
use Rattle.std.proofs.lemmas.Bool.{and_parts}
use Rattle.sail_base.specs.declared.place.Place.{Place}
use Rattle.sail_types.specs.Shapes.{fits, each_fits, put}
use Rattle.sail_types.specs.declared.shapes.Shape.{Shape}
use Rattle.sail_types.specs.declared.table.Types.{Types}
use Rattle.sail_types.specs.declared.values.Value.{Value}
use Rattle.sail_syntax.specs.declared.name.Name.{Name}
use Rattle.sail_syntax.specs.declared.types.TyExp.{TyExp}
use Rattle.sail_core.specs.declared.patterns.Form.TheVariants as F
use Rattle.sail_core.specs.declared.patterns.Pattern.{Pattern}
use Rattle.sail_core.specs.declared.written.Written.{Written}
use Rattle.sail_core.specs.Run.{Now, gives, local, ◌then◌}
use Rattle.sail_core.specs.Making as Core
use Rattle.sail_core.specs.Making.{plainly}
use Rattle.sail_core.specs.Patterns as Steps
use Rattle.shape_joins.specs.Joins.{join}
use Rattle.shape_joins.proofs.Order.{no}
use Rattle.shape_joins.proofs.JoinsLeast.{joins_are_above}
use Rattle.sail_meaning.specs.World as Source
use Rattle.sail_meaning.specs.Patterns as Written
use Rattle.shape_rules.specs.declared.locals.Local.{Local}
use Rattle.shape_rules.specs.Scopes.{Setting, constant}
use Rattle.shape_rules.specs.Written.{shape_in, written, written_faults}
use Rattle.shape_rules.specs.Patterns.{Looked, LookedAll, Widths, Piece as Looking, pattern, as_look, typed_look, typed_form, each_looked, seen_as}
use Rattle.shape_rules.specs.Patterns.{or_never}
use Rattle.shape_rules.specs.Patterns.{shape_faults, unless_joined}
use Rattle.shape_meanings.specs.Whole.{Choice}
use Rattle.shape_meanings.specs.Keeping.{Fits, FitAll, Suits, Reach, Good, reach_of, Agree}
use Rattle.shape_meanings.specs.Worlds.{Describes}
use Rattle.shape_meanings.specs.Matching.{Match, with_widths, LooksRight, PieceIs, PiecesAre}
use Rattle.shape_meanings.proofs.Values.{widens}
use Rattle.shape_meanings.proofs.Runs.{then_agree, suits_behind}
use Rattle.shape_meanings.proofs.Settling.{both_empty}
use Rattle.shape_meanings.proofs.Matching.{rolled_pattern}

-- ---- `p as x`

pub as_right : (setting : Setting) (widths : Widths) (subject : Shape) (place : Place) (p : Looking) (name : Name) (m : Match) → PieceIs setting widths p m
    → (as_look place p name setting widths subject).faults ≡ []
    → LooksRight setting widths subject (as_look place p name setting widths subject) (λ w v. m w v then λ found. gives (found ++ local name.text v ∷ []))
as_right setting widths subject place p name m is e = record {
  runs = λ registers c wc ws d slots v h now good.
      let reach : Reach = reach_of setting registers c slots in
      let looks : Looked = p.look setting widths subject in
      let r = then_agree reach (Suits setting.types c looks.binds) (Suits setting.types c (looks.binds ++ constant name.text subject ∷ []))
      (Steps.matcher plainly wc looks.pattern v now) (m (with_widths widths ws) v now)
      (λ found. gives (found ++ local name.text v ∷ [])) (λ found. gives (found ++ local name.text v ∷ []))
      ((is subject e).runs registers c wc ws d slots v h now good)
      (λ found later suits good2. (
        refl,
        (suits_behind setting.types c looks.binds (constant name.text subject ∷ []) found (local name.text v ∷ []) suits (refl, h, tt), good2),
      )) in
      ((λ i. rolled_pattern wc place (F.As name.text) (looks.pattern ∷ []) i v now) ∙ r.0, r.1);
}

-- ---- `p : T`

typed_means : (wc : Core.World Value) (place : Place) (w : Written) (p : Pattern) (v : Value) (now : Now Value) → (o : Option Written) → o ≡ Some w
    → Steps.matcher plainly wc (pattern place (typed_form o) (p ∷ [])) v now ≡ Steps.matcher plainly wc p v now
typed_means wc place w p v now o is =
    ap (λ x. Steps.matcher plainly wc (pattern place (typed_form x) (p ∷ [])) v now) is
    ∙ (λ i. rolled_pattern wc place (F.Typed w) (p ∷ []) i v now)

seen_step : (types : Types) (c : Choice) (place : Place) (subject own : Shape) (v : Value) (o : Option Shape) → join own subject ≡ o
    → unless_joined place subject own o ≡ [] → Fits types c subject v → Fits types c (or_never o) v
seen_step types c place subject own v None is e h = absurd (not_none e)
  where
    not_none : {A : Type 0} {x : A} → (x ∷ []) ≡ [] → ⊥
    not_none e = cc
seen_step types c place subject own v (Some t) is e h = widens types v c subject t (joins_are_above own subject t is).1 h

-- a value that comes to a pattern of a shape has what both come to
pub seen_fits : (types : Types) (c : Choice) (place : Place) (subject own : Shape) (v : Value) → shape_faults place subject own ≡ [] → Fits types c subject v
    → Fits types c (seen_as subject own) v
seen_fits types c place subject own v e h = seen_step types c place subject own v (join own subject) refl e h

pub typed_right : (setting : Setting) (widths : Widths) (subject : Shape) (place : Place) (p : Looking) (typ : TyExp) (w : Written) (m : Match)
    → written setting.within typ ≡ Some w → PieceIs setting widths p m → (typed_look place p typ setting widths subject).faults ≡ []
    → LooksRight setting widths subject (typed_look place p typ setting widths subject) m
typed_right setting widths subject place p typ w m is piece e = record {
  runs = λ registers c wc ws d slots v h now good.
      let own : Shape = shape_in setting.within typ in
      let looks : Looked = p.look setting widths (seen_as subject own) in
      let k = both_empty (written_faults setting.within typ ++ shape_faults place subject own) looks.faults e in
      let k2 = both_empty (written_faults setting.within typ) (shape_faults place subject own) k.0 in
      let r = (piece (seen_as subject own) k.1).runs registers c wc ws d slots v (seen_fits setting.types c place subject own v k2.1 h) now good in
      (typed_means wc place w looks.pattern v now (written setting.within typ) is ∙ r.0, r.1);
}

-- ---- several parts

pub parts_agree : (ps : List Looking) (ms : List Written.Matcher) (ss : List Shape) (vs : List Value) (setting : Setting) (widths : Widths)
    → PiecesAre setting widths ps ms → length ps ≡ length ss → (each_looked ps setting widths ss).faults ≡ []
    → (registers : List Shape) (c : Choice) (wc : Core.World Value) (ws : Source.World) → Describes setting registers wc ws → (slots : List Local)
    → FitAll setting.types c ss vs → (now : Now Value) → Good (reach_of setting registers c slots) now
    → Agree (reach_of setting registers c slots) (Suits setting.types c (each_looked ps setting widths ss).binds)
    (Steps.parts_match (map (Steps.matcher plainly wc) (each_looked ps setting widths ss).patterns) vs now)
    (Written.parts_match ms (with_widths widths ws) vs now)
parts_agree [] [] [] [] setting widths are count e registers c wc ws d slots h now good = (refl, (tt, good))
parts_agree [] [] [] (v ∷ vs) setting widths are count e registers c wc ws d slots h now good = no h
parts_agree [] [] (s ∷ ss) vs setting widths are count e registers c wc ws d slots h now good = absurd (zero_not (length ss) count)
  where
    zero_not : (n : ℕ) → zero ≡ suc n → ⊥
    zero_not n h = grind (arith, h)
parts_agree [] (m ∷ ms) ss vs setting widths are count e registers c wc ws d slots h now good = absurd are
parts_agree (p ∷ ps) [] ss vs setting widths are count e registers c wc ws d slots h now good = absurd are
parts_agree (p ∷ ps) (m ∷ ms) [] vs setting widths are count e registers c wc ws d slots h now good = absurd (not_zero (length ps) count)
  where
    not_zero : (n : ℕ) → suc n ≡ zero → ⊥
    not_zero n h = grind (arith, h)
parts_agree (p ∷ ps) (m ∷ ms) (s ∷ ss) [] setting widths are count e registers c wc ws d slots h now good = no h
parts_agree (p ∷ ps) (m ∷ ms) (s ∷ ss) (v ∷ vs) setting widths are count e registers c wc ws d slots h now good =
    let reach : Reach = reach_of setting registers c slots in
    let looks : Looked = p.look setting widths s in
    let more : LookedAll = each_looked ps setting widths ss in
    let k = both_empty looks.faults more.faults e in
    let fit = and_parts (fits setting.types v (put c s)) (each_fits (map (fits setting.types) vs) (map (put c) ss)) h in
    then_agree reach (Suits setting.types c looks.binds) (Suits setting.types c (looks.binds ++ more.binds))
    (Steps.matcher plainly wc looks.pattern v now) (m.matches (with_widths widths ws) v now)
    (λ found. Steps.parts_match (map (Steps.matcher plainly wc) more.patterns) vs then λ others. gives (found ++ others))
    (λ found. Written.parts_match ms (with_widths widths ws) vs then λ others. gives (found ++ others))
    ((are.0 s k.0).runs registers c wc ws d slots v fit.0 now good)
    (λ found later suits good2.
    then_agree reach (Suits setting.types c more.binds) (Suits setting.types c (looks.binds ++ more.binds))
    (Steps.parts_match (map (Steps.matcher plainly wc) more.patterns) vs later) (Written.parts_match ms (with_widths widths ws) vs later)
    (λ others. gives (found ++ others)) (λ others. gives (found ++ others))
    (parts_agree ps ms ss vs setting widths are.1 (one_less (length ps) (length ss) count) k.1 registers c wc ws d slots fit.1 later good2)
    (λ others last suits2 good3. (refl, (suits_behind setting.types c looks.binds more.binds found others suits suits2, good3))))
  where
    one_less : (n k : ℕ) → suc n ≡ suc k → n ≡ k
    one_less n k h = grind (arith, h)
