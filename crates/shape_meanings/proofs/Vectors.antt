-- Vectors: their items are evaluated in the order in which they are written, and the last has index 0.
use Rattle.std.proofs.Common.{◌≡◌, List, [], ◌∷◌, ◌++◌, map, length, reverse, ap, sym, ◌∙◌, refl, subst, Bool, true, false, Option, Some, None}
use Rattle.std.proofs.Common.{if◌then◌else◌}
use Rattle.std.proofs.lemmas.Bool.{and_parts}
use Rattle.std.proofs.lemmas.List.{reverse-append}
use Rattle.std.specs.List.{list_all}
use Rattle.sail_base.specs.declared.place.Place.{Place}
use Rattle.sail_types.specs.Limits.{is_length}
use Rattle.sail_types.specs.Shapes.{fits, put, Asked}
use Rattle.sail_types.specs.declared.shapes.Shape.{Shape, out-Shape}
use Rattle.sail_types.specs.declared.shapes.Shape.TheOpen as S
use Rattle.sail_types.specs.declared.shapes.Shape.TheVariants as V
use Rattle.sail_types.specs.declared.table.Types.{Types}
use Rattle.sail_types.specs.declared.values.Value.{Value}
use Rattle.sail_types.specs.declared.values.Value.TheOpen as W
use Rattle.sail_types.specs.declared.values.Value.TheVariants as Val
use Rattle.sail_syntax.specs.declared.words.Brackets.TheVariants as B
use Rattle.sail_core.specs.declared.tree.Kind.TheVariants as K
use Rattle.sail_core.specs.declared.tree.Core.{Core}
use Rattle.sail_core.specs.Run as R
use Rattle.sail_core.specs.Run.{Now, Run, needs, goes_on, in_turn, ◌then◌}
use Rattle.sail_core.specs.Values.{vector_of}
use Rattle.sail_core.specs.Making.{plainly, made}
use Rattle.sail_core.specs.Meaning.{core_meaning}
use Rattle.shape_joins.proofs.Order.{two}
use Rattle.sail_meaning.specs.World as Source
use Rattle.sail_meaning.specs.Expressions.{each, group}
use Rattle.shape_rules.specs.Findings.{over}
use Rattle.shape_rules.specs.Scopes.{Setting, Locals}
use Rattle.shape_rules.specs.Calls.{Elaborate}
use Rattle.shape_rules.specs.Values.{group_found, Chained, chained, vector_want}
use Rattle.shape_meanings.specs.Whole.{Choice}
use Rattle.shape_meanings.specs.Keeping.{Fits, Reach, Good, reach_of, Keeps}
use Rattle.shape_meanings.specs.Parts.{AreRight, IsRight}
use Rattle.shape_meanings.proofs.Runs.{then_agree}
use Rattle.shape_meanings.proofs.Settling.{RunsAs, settled_right, behind_right, both_empty, unrolled, form_has}
use Rattle.shape_meanings.proofs.Groups.{AllFit, RunItems, chained_right}

-- ---- items from the last to the first

append_fit : (types : Types) (c : Choice) (s : Shape) (vs us : List Value) → AllFit types c s vs → AllFit types c s us → AllFit types c s (vs ++ us)
append_fit types c s [] us h k = k
append_fit types c s (v ∷ vs) us h k =
    let g = and_parts (fits types v (put c s)) (list_all (λ (f : Asked). f (put c s)) (map (fits types) vs)) h in
    two (fits types v (put c s)) (list_all (λ (f : Asked). f (put c s)) (map (fits types) (vs ++ us))) g.0 (append_fit types c s vs us g.1 k)

pub reversed_fit : (types : Types) (c : Choice) (s : Shape) (vs : List Value) → AllFit types c s vs → AllFit types c s (reverse vs)
reversed_fit types c s [] h = refl
reversed_fit types c s (v ∷ vs) h =
    let g = and_parts (fits types v (put c s)) (list_all (λ (f : Asked). f (put c s)) (map (fits types) vs)) h in
    subst (AllFit types c s) (sym (reverse-append (v ∷ []) vs))
    (append_fit types c s (reverse vs) (v ∷ []) (reversed_fit types c s vs g.1) (two (fits types v (put c s)) true g.0 refl))

-- ---- a vector

after_made : (o : Option Value) (now : Now Value) → R.goes_on (needs o now) (λ x. made plainly 0 [] x) ≡ needs o now
after_made None now = refl
after_made (Some v) now = refl

vector_kept : (types : Types) (reach : Reach) (s : Shape) (vs : List Value) (now : Now Value) → reach.types ≡ types → AllFit types reach.choice s vs
    → Good reach now → Keeps reach (Fits types reach.choice (V.Vector s)) (needs (vector_of vs) now)
vector_kept types reach s vs now same h good = by_length (is_length (length vs))
  where
    by_length : (b : Bool) → Keeps reach (Fits types reach.choice (V.Vector s)) (needs (if b then Some (Val.Vector (reverse vs)) else None) now)
    by_length true = (
      form_has types reach.choice (W.Vector (reverse vs)) (S.Vector s) (Val.Vector (reverse vs)) (V.Vector s) (Val.rolls-Vector (reverse vs))
          (V.rolls-Vector s) (reversed_fit types reach.choice s vs h),
      good,
    )
    by_length false = tt

vector_runs : (setting : Setting) (locals : Locals) (place : Place) (s t : Shape) (cores : List Core) (ms : List Source.Meaning)
    → RunItems setting locals s cores ms
    → RunsAs setting locals (V.Vector s) (over place (K.Vector t) cores) (λ w. in_turn (each ms w) then group B.Vector)
vector_runs setting locals place s t cores ms runs registers c wc ws d slots seen now good =
    let reach : Reach = reach_of setting registers c slots in
    let r = then_agree reach (AllFit setting.types c s) (Fits setting.types c (V.Vector s)) (in_turn (map (core_meaning wc) cores) now) (in_turn
    (each ms ws) now)
    (λ vs. needs (vector_of vs) then λ v. made plainly 0 [] v) (group B.Vector) (runs registers c wc ws d slots seen now good)
    (λ vs later h good2. (after_made (vector_of vs) later, vector_kept setting.types reach s vs later refl h good2)) in
    (ap (λ (q : Run Value Value). q now) (unrolled wc place 0 (K.Vector t) cores) ∙ r.0, r.1)

pub vector_right : (setting : Setting) (locals : Locals) (place : Place) (es : List Elaborate) (ms : List Source.Meaning) → AreRight setting locals es ms
    → IsRight setting locals (group_found place B.Vector es) (λ w. in_turn (each ms w) then group B.Vector)
vector_right setting locals place es ms right want h =
    let item : Shape = vector_want (out-Shape want) in
    let items : Chained = chained es setting locals item in
    let m : Source.Meaning = λ w. in_turn (each ms w) then group B.Vector in
    let k = both_empty items.faults _ h in
    let r = chained_right es ms item setting locals right k.0 in
    behind_right setting locals want items.faults _ m
    (settled_right setting locals place want (V.Vector items.shape) (λ s. over place (K.Vector (vector_want (out-Shape s))) items.cores) m k.1
    (λ t. vector_runs setting locals place items.shape (vector_want (out-Shape t)) items.cores ms r.1))
