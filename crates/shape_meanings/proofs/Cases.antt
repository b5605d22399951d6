-- `match`, its cases and guards.
use Rattle.std.proofs.Common.{◌≡◌, List, [], ◌∷◌, ◌++◌, map, ap, sym, ◌∙◌, refl, subst, true, Option, Some, None}
use Rattle.sail_base.specs.declared.place.Place.{Place}
use Rattle.sail_types.specs.declared.shapes.Shape.{Shape}
use Rattle.sail_types.specs.declared.shapes.Shape.TheVariants as V
use Rattle.sail_types.specs.declared.values.Value.{Value}
use Rattle.sail_syntax.specs.declared.words.Choosing.TheVariants.{Match}
use Rattle.model_state.specs.declared.cause.Cause.TheVariants as Cause
use Rattle.sail_core.specs.declared.patterns.Arm.{Arm}
use Rattle.sail_core.specs.declared.patterns.Arm.TheVariants as A
use Rattle.sail_core.specs.declared.tree.Kind.TheVariants as K
use Rattle.sail_core.specs.declared.tree.Core.{Core}
use Rattle.sail_core.specs.Run.{Now, Run, falls, stops, needs, if_so, goes_on, within, ◌then◌}
use Rattle.sail_core.specs.Values.{truth_in}
use Rattle.sail_core.specs.Making as Core
use Rattle.sail_core.specs.Making.{plainly}
use Rattle.sail_core.specs.declared.tree.Giver.TheVariants as Gives
use Rattle.sail_core.specs.Meaning.{core_meaning, first_of, arm_taken}
use Rattle.sail_core.proofs.Sentences.{met_plainly}
use Rattle.shape_joins.specs.Filling.{fills}
use Rattle.shape_joins.proofs.Order.{fills_itself, fills_twice}
use Rattle.sail_meaning.specs.World as Source
use Rattle.sail_meaning.specs.World.{Piece}
use Rattle.sail_meaning.specs.Expressions.{Case, guarded, case_taken, first_case, chosen}
use Rattle.sail_meaning.specs.Patterns.{matching}
use Rattle.shape_rules.specs.declared.locals.Local.{Local}
use Rattle.shape_rules.specs.declared.error.ShapeError.{ShapeError}
use Rattle.shape_rules.specs.Findings.{Found, cast, given_on}
use Rattle.shape_rules.specs.Scopes.{Setting, Locals, under}
use Rattle.shape_rules.specs.Patterns.{Looked, look, no_widths}
use Rattle.shape_rules.specs.Targets.{Part}
use Rattle.shape_rules.specs.Statements.{CasePart, Cases, cases_found, guarded_core, guard_faults, choose_found}
use Rattle.shape_meanings.specs.Whole.{Choice}
use Rattle.shape_meanings.specs.Keeping.{Fits, SeenAs, Reach, Good, reach_of, Agree}
use Rattle.shape_meanings.specs.Worlds.{Describes}
use Rattle.shape_meanings.specs.Parts.{CasesAre, MaybeIs, IsRight}
use Rattle.shape_meanings.proofs.Runs.{then_agree, or_agree}
use Rattle.shape_meanings.proofs.Settling.{RunsAs, widened, both_empty, unrolled}
use Rattle.shape_meanings.proofs.Branches.{cast_means, given_over, branches_agree, bool_exact}
use Rattle.shape_meanings.proofs.Lets.{taken_agrees}

-- ---- guards

pub guarded_runs : (setting : Setting) (locals : Locals) (t : Shape) (guard : Option Part) (mg : Option Source.Meaning) (body : Core) (m : Source.Meaning)
    → MaybeIs setting locals guard mg → guard_faults guard setting locals ≡ [] → RunsAs setting locals t body m
    → RunsAs setting locals t (guarded_core guard setting locals body) (guarded mg m)
guarded_runs setting locals t None None body m is e runs = runs
guarded_runs setting locals t None (Some mg) body m is e runs = absurd is
guarded_runs setting locals t (Some g) None body m is e runs = absurd is
guarded_runs setting locals t (Some g) (Some mg) body m is e runs = λ registers c wc ws d slots seen now good.
    let reach : Reach = reach_of setting registers c slots in
    let Q : Value → Type 0 = Fits setting.types c t in
    let found : Found = g.elaborate setting locals V.Bool in
    let right = is V.Bool e in
    let r = then_agree reach (Fits setting.types c V.Bool) Q (core_meaning wc found.core now) (mg ws now)
    (λ v. needs (truth_in v) then if_so (core_meaning wc body) falls) (λ v. needs (truth_in v) then if_so (m ws) falls)
    (subst (λ s. RunsAs setting locals s found.core mg) (bool_exact found.shape right.above) right.runs registers c wc ws d slots seen now good)
    (λ v later h good2. branches_agree reach Q v (core_meaning wc body) (m ws) falls falls later h (runs registers c wc ws d slots seen later good2)
    (refl, good2)) in
    (ap (λ (q : Run Value Value). q now) (unrolled wc g.place 0 K.When (found.core ∷ body ∷ [])) ∙ r.0, r.1)

-- ---- cases

-- the first case that is taken, and where none is another piece
abbrev pub FirstRuns : Setting → Locals → Shape → Shape → List Arm → List Core → List Case → Type 0
FirstRuns setting locals subject t arms bodies ms =
    (registers : List Shape) (c : Choice) (wc : Core.World Value) (ws : Source.World) → Describes setting registers wc ws
    → (slots : List Local) → SeenAs slots locals → (v : Value) → Fits setting.types c subject v → (nc nm : Run Value Value)
    → ((here : Now Value) → Good (reach_of setting registers c slots) here → Agree (reach_of setting registers c slots) (Fits setting.types c t)
    (nc here) (nm here))
    → (now : Now Value) → Good (reach_of setting registers c slots) now
    → Agree (reach_of setting registers c slots) (Fits setting.types c t) (first_of plainly wc 0 arms (map (core_meaning wc) bodies) nc (v ∷ []) now)
    (first_case ws ms nm v now)

pub cases_right : (cs : List CasePart) (ms : List Case) (setting : Setting) (locals : Locals) (subject want : Shape) → CasesAre setting locals subject cs ms
    → (cases_found cs setting locals subject want).faults ≡ []
    → (fills want (cases_found cs setting locals subject want).shape ≡ true)
    × FirstRuns setting locals subject (cases_found cs setting locals subject want).shape (cases_found cs setting locals subject want).arms
    (cases_found cs setting locals subject want).bodies ms
cases_right [] [] setting locals subject want are e = (fills_itself want, λ registers c wc ws d slots seen v h nc nm none now good. none now good)
cases_right [] (m ∷ ms) setting locals subject want are e = absurd are
cases_right (k ∷ cs) [] setting locals subject want are e = absurd are
cases_right (k ∷ cs) (m ∷ ms) setting locals subject want are e =
    let p : Looked = look k.pattern setting no_widths subject in
    let inner : Locals = under p.binds locals in
    let a : Found = k.body.elaborate setting inner want in
    let next : Cases = cases_found cs setting locals subject (given_on want a.shape) in
    let guards : List ShapeError = guard_faults k.guard setting inner in
    let h = both_empty (p.faults ++ (guards ++ a.faults)) next.faults e in
    let h2 = both_empty p.faults (guards ++ a.faults) h.0 in
    let h3 = both_empty guards a.faults h2.1 in
    let case = are.0.1 h2.0 in
    let body = case.3 want h3.1 in
    let given = given_over want a.shape body.above in
    let others = cases_right cs ms setting locals subject (given_on want a.shape) are.1 h.1 in
    let t : Shape = next.shape in
    let core : Core = guarded_core k.guard setting inner (cast a.core k.body.place) in
    let cast_runs : RunsAs setting inner t (cast a.core k.body.place) m.body =
    λ registers c wc ws d slots seen now good.
    let r = widened setting inner a.shape t a.core m.body (fills_twice a.shape
    (given_on want a.shape) t given.1 others.0) body.runs registers c wc ws d slots seen now good in
    (ap (λ (q : Run Value Value). q now) (cast_means wc a.core k.body.place) ∙ r.0, r.1) in
    let runs = guarded_runs setting inner t k.guard m.guard (cast a.core k.body.place) m.body case.2 h3.0 cast_runs in (
      fills_twice want (given_on want a.shape) t given.0 others.0,
      λ registers c wc ws d slots seen v fit nc nm none now good.
          or_agree (reach_of setting registers c slots) (Fits setting.types c t)
          (arm_taken plainly wc (Gives.Node 0) (A.Nested (p.pattern ∷ [])) (core_meaning wc core) (v ∷ []) now) (case_taken ws m v now)
          (first_of plainly wc 0 next.arms (map (core_meaning wc) next.bodies) nc (v ∷ [])) (first_case ws ms nm v)
          (subst (λ q. Agree (reach_of setting registers c slots) (Fits setting.types c t)
          (arm_taken plainly wc (Gives.Node 0) (A.Nested (p.pattern ∷ [])) (core_meaning wc core) (v ∷ []) now)
          ((matching ws q v then λ found. within found (guarded m.guard m.body ws)) now)) (sym are.0.0)
          (taken_agrees setting locals subject t p (λ w. matching w k.pattern) (λ w. core_meaning w core) (guarded m.guard m.body) case.0 case.1
          registers c wc ws d slots seen (λ more seen2 here good2. runs registers c wc ws d more seen2 here good2) v fit now good))
          (λ later good2. others.1 registers c wc ws d slots seen v fit nc nm none later good2),
    )

pub match_right : (setting : Setting) (locals : Locals) (place : Place) (value : Part) (cs : List CasePart) (mv : Source.Meaning) (ms : List Case)
    → IsRight setting locals value.elaborate mv → CasesAre setting locals (value.elaborate setting locals V.Never).shape cs ms
    → IsRight setting locals (choose_found place Match value cs) (chosen Match place mv ms)
match_right setting locals place value cs mv ms right are want e =
    let a : Found = value.elaborate setting locals V.Never in
    let cases : Cases = cases_found cs setting locals a.shape want in
    let h = both_empty a.faults cases.faults e in
    let one = right V.Never h.0 in
    let r = cases_right cs ms setting locals a.shape want are h.1 in
    record {
      above = r.0;
      runs = λ registers c wc ws d slots seen now good.
          let reach : Reach = reach_of setting registers c slots in
          let failed : Piece Value = stops (Cause.MatchFailure place) in
          let q = then_agree reach (Fits setting.types c a.shape) (Fits setting.types c cases.shape) (core_meaning wc a.core now) (mv ws now)
          (λ v. first_of plainly wc 0 cases.arms (map (core_meaning wc) cases.bodies) failed (v ∷ [])) (λ v. first_case ws ms failed v)
          (one.runs registers c wc ws d slots seen now good)
          (λ v later fit good2. r.1 registers c wc ws d slots seen v fit failed failed (λ here good3. (refl, good3)) later good2) in (
            ap (λ (x : Run Value Value). x now) (unrolled wc place 0 (K.Match cases.arms cases.shape) (cast a.core value.place ∷ cases.bodies))
                ∙ ap (λ (x : Run Value Value). x now) (met_plainly 0 (core_meaning wc (cast a.core value.place)
                then λ v. first_of plainly wc 0 cases.arms (map (core_meaning wc) cases.bodies) failed (v ∷ [])))
                ∙ ap (λ (x : Run Value Value). goes_on (x now)
                (λ v. first_of plainly wc 0 cases.arms (map (core_meaning wc) cases.bodies) failed (v ∷ []))) (cast_means wc a.core value.place)
                ∙ q.0,
            q.1,
          );
    }
