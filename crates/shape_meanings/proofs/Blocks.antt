-- Blocks and their statements.
use Rattle.std.proofs.Common.{◌≡◌, List, [], ◌∷◌, ◌++◌, map, ap, sym, ◌∙◌, refl, Option, Some, None, append-nil}
use Rattle.sail_base.specs.declared.place.Place.{Place}
use Rattle.sail_types.specs.declared.shapes.Shape.{Shape}
use Rattle.sail_types.specs.declared.shapes.Shape.TheOpen as S
use Rattle.sail_types.specs.declared.shapes.Shape.TheVariants as V
use Rattle.sail_types.specs.declared.values.Value.{Value}
use Rattle.sail_types.specs.declared.values.Value.TheOpen as W
use Rattle.sail_types.specs.declared.values.Value.TheVariants as Val
use Rattle.sail_syntax.specs.declared.patterns.Pat.{Pat}
use Rattle.model_state.specs.declared.cause.Cause.TheVariants as Cause
use Rattle.sail_core.specs.declared.patterns.Arm.TheVariants as A
use Rattle.sail_core.specs.declared.tree.Statement.{Statement as CoreStatement}
use Rattle.sail_core.specs.declared.tree.Statement.TheVariants as T
use Rattle.sail_core.specs.declared.tree.Kind.TheVariants as K
use Rattle.sail_core.specs.declared.tree.Core.{Core}
use Rattle.sail_core.specs.Run.{Run, stops, goes_on, within, ◌then◌, ◌or_else◌}
use Rattle.sail_core.specs.Making as Core
use Rattle.sail_core.specs.Making.{plainly}
use Rattle.sail_core.specs.declared.tree.Giver.TheVariants as Gives
use Rattle.sail_core.specs.Meaning as Means
use Rattle.sail_core.specs.Meaning.{core_meaning, arm_taken}
use Rattle.sail_meaning.specs.World as Source
use Rattle.sail_meaning.specs.World.{Piece}
use Rattle.sail_meaning.specs.Expressions.{Statement, let_in, block}
use Rattle.sail_meaning.specs.Patterns.{matching}
use Rattle.shape_rules.specs.Findings.{Found, over}
use Rattle.shape_rules.specs.Scopes.{Setting, Locals}
use Rattle.shape_rules.specs.Patterns.{Looked, look, no_widths, wanted_by, has_typ}
use Rattle.shape_rules.specs.Targets.{Part}
use Rattle.shape_rules.specs.Statements.{StatementPart, Stated, Blocked, blocked, evaluated, defined_as, bound, hole_faults, block_found}
use Rattle.shape_meanings.specs.Keeping.{Fits, reach_of}
use Rattle.shape_meanings.specs.Parts.{IsRight, PairRuns, PatternIs, StatementIs, StatementsAre, stated_run}
use Rattle.shape_meanings.proofs.Runs.{then_agree, or_agree}
use Rattle.shape_meanings.proofs.Settling.{settled_right, behind_right, both_empty, unrolled, form_has}
use Rattle.shape_meanings.proofs.Branches.{cast_means}
use Rattle.shape_meanings.proofs.Lets.{taken_agrees}

-- ---- statements

block_step : (w : Core.World Value) (s : CoreStatement) (ss : List CoreStatement) (a : Run Value Value) (parts : List (Run Value Value))
    → Means.block plainly w 0 (s ∷ ss) (a ∷ parts) ≡ stated_run w s a (Means.block plainly w 0 ss parts)
block_step w T.Evaluate ss a parts = refl
block_step w (T.Define place arm) ss a parts = refl
block_step w (T.Declare name written) ss a parts = refl

pub evaluate_is : (setting : Setting) (locals : Locals) (a : Part) (m : Source.Meaning) → IsRight setting locals a.elaborate m
    → StatementIs setting locals (evaluated a) (λ w rest. m w then λ v. rest)
evaluate_is setting locals a m right e t kc km rest registers c wc ws d slots seen now good =
    let found : Found = a.elaborate setting locals V.Unit in
    then_agree (reach_of setting registers c slots) (Fits setting.types c found.shape) (Fits setting.types c t) (core_meaning wc found.core now) (m ws now)
    (λ x. kc wc) (λ v. km ws) ((right V.Unit e).runs registers c wc ws d slots seen now good)
    (λ v later h good2. rest registers c wc ws d slots seen later good2)

pub define_is : (setting : Setting) (locals : Locals) (place : Place) (p : Pat) (a : Part) (m : Source.Meaning) → IsRight setting locals a.elaborate m
    → PatternIs setting p
    → StatementIs setting locals (λ setting locals. defined_as place (bound place p a setting locals) locals) (λ w rest. let_in w place p (m w) rest)
define_is setting locals place p a m right pattern e t kc km rest registers c wc ws d slots seen now good =
    let found : Found = a.elaborate setting locals (wanted_by setting p) in
    let looks : Looked = look p setting no_widths found.shape in
    let h = both_empty (found.faults ++ hole_faults place (has_typ p) found.shape) looks.faults e in
    let h2 = both_empty found.faults (hole_faults place (has_typ p) found.shape) h.0 in
    let q = pattern found.shape h.1 in
    let failed : Piece Value = stops (Cause.MatchFailure place) in
    let r = then_agree (reach_of setting registers c slots) (Fits setting.types c found.shape) (Fits setting.types c t)
    (core_meaning wc found.core now) (m ws now)
    (λ v. arm_taken plainly wc (Gives.Node 0) (A.Nested (looks.pattern ∷ [])) (kc wc) (v ∷ []) or_else failed)
    (λ v. (matching ws p v then λ names. within names (km ws)) or_else failed)
    ((right (wanted_by setting p) h2.0).runs registers c wc ws d slots seen now good)
    (λ v later fit good2.
    or_agree (reach_of setting registers c slots) (Fits setting.types c t)
    (arm_taken plainly wc (Gives.Node 0) (A.Nested (looks.pattern ∷ [])) (kc wc) (v ∷ []) later)
    ((matching ws p v then λ names. within names (km ws)) later) failed failed
    (taken_agrees setting locals found.shape t looks (λ w. matching w p) kc km q.0 q.1 registers c wc ws d slots seen
    (λ more seen2 here good3. rest registers c wc ws d more seen2 here good3) v fit later good2)
    (λ last good3. (refl, good3))) in (
      ap (λ (x : Run Value Value). goes_on (x now) (λ v. arm_taken plainly wc (Gives.Node 0) (A.Nested (looks.pattern ∷ [])) (kc wc) (v ∷ []) or_else failed))
          (cast_means wc found.core a.place) ∙ r.0,
      r.1,
    )

-- ---- blocks

pub steps_run : (ss : List StatementPart) (ms : List Statement) (setting : Setting) (locals : Locals) (t : Shape) (tail : List Core)
    (value : Option Source.Meaning)
    → StatementsAre setting locals ss ms → (blocked ss setting locals).faults ≡ []
    → PairRuns setting (blocked ss setting locals).locals t (λ wc. Means.block plainly wc 0 [] (map (core_meaning wc) tail)) (block [] value)
    → PairRuns setting locals t
    (λ wc. Means.block plainly wc 0 (blocked ss setting locals).statements (map (core_meaning wc) ((blocked ss setting locals).parts ++ tail))) (block ms value)
steps_run [] [] setting locals t tail value are e last = last
steps_run [] (m ∷ ms) setting locals t tail value are e last = absurd are
steps_run (s ∷ ss) [] setting locals t tail value are e last = absurd are
steps_run (s ∷ ss) (m ∷ ms) setting locals t tail value are e last =
    let one : Stated = s setting locals in
    let more : Blocked = blocked ss setting one.locals in
    let h = both_empty one.faults more.faults e in
    let rest = steps_run ss ms setting one.locals t tail value (are.1 h.0) h.1 last in
    let r = are.0 h.0 t (λ wc. Means.block plainly wc 0 more.statements (map (core_meaning wc) (more.parts ++ tail))) (block ms value) rest in
    λ registers c wc ws d slots seen now good.
    let q = r registers c wc ws d slots seen now good in (
      ap (λ (x : Run Value Value). x now) (block_step wc one.statement more.statements (core_meaning wc one.part) (map (core_meaning wc)
          (more.parts ++ tail))) ∙ q.0,
      q.1,
    )

-- a block with a value
pub block_right : (setting : Setting) (locals : Locals) (place : Place) (ss : List StatementPart) (value : Part) (ms : List Statement) (mv : Source.Meaning)
    → StatementsAre setting locals ss ms
    → ((blocked ss setting locals).faults ≡ [] → IsRight setting (blocked ss setting locals).locals value.elaborate mv)
    → IsRight setting locals (block_found place ss (Some value)) (block ms (Some mv))
block_right setting locals place ss value ms mv are right want e =
    let b : Blocked = blocked ss setting locals in
    let found : Found = value.elaborate setting b.locals want in
    let h = both_empty b.faults found.faults e in
    let r = right h.0 want h.1 in
    let steps = steps_run ss ms setting locals found.shape (found.core ∷ []) (Some mv) are h.0 r.runs in
    record {
      above = r.above;
      runs = λ registers c wc ws d slots seen now good.
          let q = steps registers c wc ws d slots seen now good in
          (ap (λ (x : Run Value Value). x now) (unrolled wc place 0 (K.Block b.statements) (b.parts ++ found.core ∷ [])) ∙ q.0, q.1);
    }

nothing_runs : (setting : Setting) (locals : Locals) → PairRuns setting locals V.Unit (λ wc. Means.block plainly wc 0 [] []) (block [] None)
nothing_runs setting locals registers c wc ws d slots seen now good =
    (refl, (form_has setting.types c W.Unit S.Unit Val.Unit V.Unit Val.rolls-Unit V.rolls-Unit refl, good))

-- a block without one is `()`
pub unit_block_right : (setting : Setting) (locals : Locals) (place : Place) (ss : List StatementPart) (ms : List Statement)
    → StatementsAre setting locals ss ms → IsRight setting locals (block_found place ss None) (block ms None)
unit_block_right setting locals place ss ms are want e =
    let b : Blocked = blocked ss setting locals in
    let h = both_empty b.faults _ e in
    let steps = steps_run ss ms setting locals V.Unit [] None are h.0 (nothing_runs setting b.locals) in
    behind_right setting locals want b.faults _ (block ms None)
    (settled_right setting locals place want V.Unit (λ s. over place (K.Block b.statements) b.parts) (block ms None) h.1
    (λ t registers c wc ws d slots seen now good.
    let q = steps registers c wc ws d slots seen now good in (
      ap (λ (x : Run Value Value). x now) (unrolled wc place 0 (K.Block b.statements) b.parts)
          ∙ ap (λ (ps : List Core). Means.block plainly wc 0 b.statements (map (core_meaning wc) ps) now) (sym (append-nil b.parts)) ∙ q.0,
      q.1,
    )))
