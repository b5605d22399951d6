-- `try`: what is thrown in it comes to its cases.
use Rattle.std.proofs.Common.{◌≡◌, ℕ, List, [], ◌∷◌, map, ap, sym, ◌∙◌, refl, subst, true, Option, Some, None}
use Rattle.sail_base.specs.declared.place.Place.{Place}
use Rattle.sail_types.specs.Shapes.{fits, put}
use Rattle.sail_types.specs.declared.shapes.Shape.{Shape}
use Rattle.sail_types.specs.declared.shapes.Shape.TheOpen as S
use Rattle.sail_types.specs.declared.shapes.Shape.TheVariants as V
use Rattle.sail_types.specs.declared.values.Value.{Value}
use Rattle.sail_syntax.specs.declared.words.Choosing.TheVariants.{Try}
use Rattle.sail_core.specs.declared.tree.Kind.TheVariants as K
use Rattle.sail_core.specs.Run as R
use Rattle.sail_core.specs.Run.{Now, Ended, Run, throws, caught}
use Rattle.sail_core.specs.Making.{plainly}
use Rattle.sail_core.specs.Meaning.{core_meaning, first_of, tried}
use Rattle.sail_core.proofs.Sentences.{met_plainly}
use Rattle.shape_joins.proofs.Order.{fills_twice}
use Rattle.sail_meaning.specs.World as Source
use Rattle.sail_meaning.specs.Expressions.{Case, first_case, chosen}
use Rattle.shape_rules.specs.Findings.{Found, cast, given_on}
use Rattle.shape_rules.specs.Scopes.{Setting, Locals, thrown_as, thrown_shape}
use Rattle.shape_rules.specs.Targets.{Part}
use Rattle.shape_rules.specs.Statements.{CasePart, Cases, cases_found, choose_found}
use Rattle.shape_meanings.specs.Whole.{Choice}
use Rattle.shape_meanings.specs.Keeping.{Fits, Reach, Good, reach_of, Keeps, Agree}
use Rattle.shape_meanings.specs.Parts.{CasesAre, IsRight}
use Rattle.shape_meanings.proofs.Orders.{puts}
use Rattle.shape_meanings.proofs.Settling.{widened, both_empty, unrolled}
use Rattle.shape_meanings.proofs.Branches.{cast_means, given_over}
use Rattle.shape_meanings.proofs.Naming.{named_put}
use Rattle.shape_meanings.proofs.Cases.{cases_right}

caught_keeps : (reach : Reach) (P : Value → Type 0) (m : Ended Value Value) (kc km : Value → Run Value Value) → Keeps reach P m
    → ((v : Value) (now : Now Value) → fits reach.types v reach.thrown ≡ true → Good reach now → Agree reach P (kc v now) (km v now))
    → Agree reach P (caught m kc) (caught m km)
caught_keeps reach P (R.Gives x now) kc km k next = (refl, k)
caught_keeps reach P (R.No now) kc km k next = (refl, k)
caught_keeps reach P (R.Returns v now) kc km k next = (refl, k)
caught_keeps reach P (R.Throws v now) kc km k next = next v now k.0 k.1
caught_keeps reach P (R.Stops cause now) kc km k next = (refl, k)
caught_keeps reach P R.Stuck kc km k next = (refl, tt)

pub caught_agrees : (reach : Reach) (P : Value → Type 0) (n m : Ended Value Value) (kc km : Value → Run Value Value) → Agree reach P n m
    → ((v : Value) (now : Now Value) → fits reach.types v reach.thrown ≡ true → Good reach now → Agree reach P (kc v now) (km v now))
    → Agree reach P (caught n kc) (caught m km)
caught_agrees reach P n m kc km a next =
    let r = caught_keeps reach P m kc km a.1 next in
    (ap (λ e. caught e kc) a.0 ∙ r.0, r.1)

-- what is thrown has no variable
never_put : (c : Choice) → put c V.Never ≡ V.Never
never_put c = ap (put c) (sym V.rolls-Never) ∙ puts c S.Never ∙ V.rolls-Never

pub thrown_put : (c : Choice) (o : Option ℕ) → put c (thrown_as o) ≡ thrown_as o
thrown_put c None = never_put c
thrown_put c (Some i) = named_put i c

pub try_right : (setting : Setting) (locals : Locals) (place : Place) (value : Part) (cs : List CasePart) (mv : Source.Meaning) (ms : List Case)
    → IsRight setting locals value.elaborate mv → CasesAre setting locals (thrown_shape setting) cs ms
    → IsRight setting locals (choose_found place Try value cs) (chosen Try place mv ms)
try_right setting locals place value cs mv ms right are want e =
    let a : Found = value.elaborate setting locals want in
    let thrown : Shape = thrown_shape setting in
    let cases : Cases = cases_found cs setting locals thrown (given_on want a.shape) in
    let h = both_empty a.faults cases.faults e in
    let one = right want h.0 in
    let given = given_over want a.shape one.above in
    let r = cases_right cs ms setting locals thrown (given_on want a.shape) are h.1 in
    let runs = widened setting locals a.shape cases.shape a.core mv (fills_twice a.shape (given_on want a.shape) cases.shape given.1 r.0) one.runs in
    record {
      above = fills_twice want (given_on want a.shape) cases.shape given.0 r.0;
      runs = λ registers c wc ws d slots seen now good.
          let reach : Reach = reach_of setting registers c slots in
          let catch_c : Value → Run Value Value = λ v. first_of plainly wc 0 cases.arms (map (core_meaning wc) cases.bodies) (throws v)
          (v ∷ []) in
          let q = caught_agrees reach (Fits setting.types c cases.shape) (core_meaning wc a.core now) (mv ws now) catch_c (λ v. first_case ws ms (throws v) v)
          (runs registers c wc ws d slots seen now good)
          (λ v later fit good2.
          r.1 registers c wc ws d slots seen v (subst (λ s. fits setting.types v s ≡ true) (sym (thrown_put c setting.exception)) fit) (throws v) (throws v)
          (λ here good3. (refl, (fit, good3))) later good2) in (
            ap (λ (x : Run Value Value). x now) (unrolled wc place 0 (K.Try cases.arms cases.shape) (cast a.core value.place ∷ cases.bodies))
                ∙ ap (λ (x : Run Value Value). x now)
                (met_plainly 0 (tried plainly wc 0 cases.arms (map (core_meaning wc) cases.bodies) (core_meaning wc (cast a.core value.place))))
                ∙ ap (λ (x : Run Value Value). caught (x now) catch_c) (cast_means wc a.core value.place)
                ∙ q.0,
            q.1,
          );
    }
