-- `foreach`, `while` and `repeat` over whatever their parts are.
use Rattle.std.proofs.Common.{◌≡◌, ℕ, zero, suc, pos, [], ◌∷◌, ◌++◌, ap, sym, ◌∙◌, refl, subst, true, Option, Some, None}
use Rattle.sail_base.specs.declared.place.Place.{Place}
use Rattle.sail_types.specs.declared.shapes.Shape.{Shape}
use Rattle.sail_types.specs.declared.shapes.Shape.TheOpen as S
use Rattle.sail_types.specs.declared.shapes.Shape.TheVariants as V
use Rattle.sail_types.specs.declared.values.Value.{Value}
use Rattle.sail_types.specs.declared.values.Value.TheVariants as Val
use Rattle.sail_syntax.specs.declared.name.Name.{Name}
use Rattle.sail_syntax.specs.declared.name.Literal.TheVariants as N
use Rattle.sail_syntax.specs.declared.words.Looping.TheVariants.{While, Repeat}
use Rattle.sail_core.specs.declared.tree.Kind.TheVariants as K
use Rattle.sail_core.specs.declared.tree.Core.{Core}
use Rattle.sail_core.specs.Run as R
use Rattle.sail_core.specs.Run.{Now, Ended, Run, needs, gives, if_so, goes_on, ◌then◌}
use Rattle.sail_core.specs.Values.{truth_in}
use Rattle.sail_core.specs.Making.{plainly}
use Rattle.sail_core.specs.Meaning as Means
use Rattle.sail_core.specs.Meaning.{core_meaning}
use Rattle.shape_joins.specs.Filling.{fills}
use Rattle.sail_meaning.specs.World as Source
use Rattle.sail_meaning.specs.World.{integer, plain}
use Rattle.sail_meaning.specs.Expressions.{or_one}
use Rattle.sail_meaning.specs.Loops as Turns
use Rattle.shape_rules.specs.Findings.{Found, over}
use Rattle.shape_rules.specs.Scopes as Scopes
use Rattle.shape_rules.specs.Scopes.{Setting, Locals, constant}
use Rattle.shape_rules.specs.Targets.{Part}
use Rattle.shape_rules.specs.Statements.{RangePart, counting, by_found, foreach_found, loop_found}
use Rattle.shape_meanings.specs.Keeping.{Fits, Reach, Good, reach_of, Keeps, Agree}
use Rattle.shape_meanings.specs.Parts.{IsRight, MaybeIs}
use Rattle.shape_meanings.specs.Sound.{Right}
use Rattle.shape_meanings.proofs.Orders.{exact}
use Rattle.shape_meanings.proofs.Runs.{then_agree}
use Rattle.shape_meanings.proofs.Settling.{RunsAs, constant_right, settled_right, behind_right, both_empty, unrolled}
use Rattle.shape_meanings.proofs.Branches.{bool_exact, branches_agree}
use Rattle.shape_meanings.proofs.Matching.{leaf_below}
use Rattle.shape_meanings.proofs.Tests.{unit_fits}
use Rattle.shape_meanings.proofs.Loops.{ticks_agree}
use Rattle.shape_meanings.proofs.Whiles.{Pair, Any, measure_agrees}
use Rattle.shape_meanings.proofs.Foreach.{foreach_runs, while_runs}
use Rattle.shape_meanings.proofs.Plain.{plain_described}

pub int_exact : (s : Shape) → fills V.Int s ≡ true → s ≡ V.Int
int_exact s h = exact V.Int s 0 h (leaf_below 0 S.Int V.Int V.rolls-Int refl)

-- what is wanted as an integer gives integers
pub int_runs : (setting : Setting) (locals : Locals) (found : Found) (m : Source.Meaning) → Right setting locals V.Int found m
    → RunsAs setting locals V.Int found.core m
int_runs setting locals found m r = subst (λ s. RunsAs setting locals s found.core m) (int_exact found.shape r.above) r.runs

pub bool_runs : (setting : Setting) (locals : Locals) (found : Found) (m : Source.Meaning) → Right setting locals V.Bool found m
    → RunsAs setting locals V.Bool found.core m
bool_runs setting locals found m r = subst (λ s. RunsAs setting locals s found.core m) (bool_exact found.shape r.above) r.runs

-- ---- `foreach`

by_right : (setting : Setting) (locals : Locals) (place : Place) (by : Option Part) (m : Option Source.Meaning) → MaybeIs setting locals by m
    → (by_found place by setting locals).faults ≡ [] → Right setting locals V.Int (by_found place by setting locals) (or_one m)
by_right setting locals place None None is e = constant_right setting locals V.Int place (N.Number (pos 1)) e
by_right setting locals place None (Some m) is e = absurd is
by_right setting locals place (Some by) None is e = absurd is
by_right setting locals place (Some by) (Some m) is e = is V.Int e

pub foreach_right : (setting : Setting) (locals : Locals) (place : Place) (name : Name) (range : RangePart) (body : Part) (ma mb m : Source.Meaning)
    (by : Option Source.Meaning)
    → IsRight setting locals range.from.elaborate ma → IsRight setting locals range.to.elaborate mb → MaybeIs setting locals range.by by
    → IsRight setting (constant name.text V.Int ∷ locals) body.elaborate m
    → IsRight setting locals (foreach_found place name range body)
    (λ w. ma w then λ u. integer u then λ from. mb w then λ v. integer v then λ to. or_one by w then λ x. integer x then λ step.
    Turns.foreach name.text range.direction from to step (m w))
foreach_right setting locals place name range body ma mb m by ra rb rs rm want e =
    let a : Found = range.from.elaborate setting locals V.Int in
    let b : Found = range.to.elaborate setting locals V.Int in
    let s : Found = by_found place range.by setting locals in
    let inner : Found = body.elaborate setting (constant name.text V.Int ∷ locals) V.Unit in
    let faults = ((a.faults ++ b.faults) ++ s.faults) ++ inner.faults in
    let n : Source.Meaning = λ w. ma w then λ u. integer u then λ from. mb w then λ v. integer v then λ to. or_one by w then λ x. integer x then λ step.
    Turns.foreach name.text range.direction from to step (m w) in
    let h = both_empty faults _ e in
    let h2 = both_empty ((a.faults ++ b.faults) ++ s.faults) inner.faults h.0 in
    let h3 = both_empty (a.faults ++ b.faults) s.faults h2.0 in
    let h4 = both_empty a.faults b.faults h3.0 in
    behind_right setting locals want faults _ n
    (settled_right setting locals place want V.Unit
    (λ t. over place (K.Foreach name.text (counting range.direction)) (a.core ∷ b.core ∷ s.core ∷ inner.core ∷ [])) n h.1
    (λ t. foreach_runs setting locals place name.text range.direction inner.shape a.core b.core s.core inner.core ma mb (or_one by) m
    (int_runs setting locals a ma (ra V.Int h4.0)) (int_runs setting locals b mb (rb V.Int h4.1))
    (int_runs setting locals s (or_one by) (by_right setting locals place range.by by rs h3.1)) (rm V.Unit h2.1).runs))

-- ---- measures are plain expressions

pub plain_runs : (setting : Setting) (locals : Locals) (s : Shape) (core : Core) (m : Source.Meaning) → RunsAs (Scopes.plainly setting) locals s core m
    → RunsAs setting locals s core (λ w. m (plain w))
plain_runs setting locals s core m runs registers c wc ws d slots seen now good =
    runs registers c wc (plain ws) (plain_described setting registers wc ws d) slots seen now good

-- ---- `while`

pub while_right : (setting : Setting) (locals : Locals) (place : Place) (measure condition body : Part) (mm mc mb : Source.Meaning)
    → IsRight (Scopes.plainly setting) locals measure.elaborate mm → IsRight setting locals condition.elaborate mc → IsRight setting locals body.elaborate mb
    → IsRight setting locals (loop_found place While (Some measure) condition body) (Turns.looped While place (Some mm) mc mb)
while_right setting locals place measure condition body mm mc mb rm rc rb want e =
    let m : Found = measure.elaborate (Scopes.plainly setting) locals V.Int in
    let a : Found = condition.elaborate setting locals V.Bool in
    let b : Found = body.elaborate setting locals V.Unit in
    let n : Source.Meaning = Turns.looped While place (Some mm) mc mb in
    let faults = (m.faults ++ a.faults) ++ b.faults in
    let h = both_empty faults _ e in
    let h2 = both_empty (m.faults ++ a.faults) b.faults h.0 in
    let h3 = both_empty m.faults a.faults h2.0 in
    behind_right setting locals want faults _ n
    (settled_right setting locals place want V.Unit (λ t. over place K.While (m.core ∷ a.core ∷ b.core ∷ [])) n h.1
    (λ t. while_runs setting locals place b.shape m.core a.core b.core (λ w. mm (plain w)) mc mb
    (plain_runs setting locals V.Int m.core mm (int_runs (Scopes.plainly setting) locals m mm (rm V.Int h3.0)))
    (bool_runs setting locals a mc (rc V.Bool h3.1)) (rb V.Unit h2.1).runs))

-- ---- `repeat`

-- a condition, and then what it leads to
after_condition : (e : Ended Value Value) (a b : Run Value Value)
    → goes_on (goes_on e (λ x. needs (truth_in x))) (if_so a b) ≡ goes_on e (λ x. needs (truth_in x) then if_so a b)
after_condition (R.Gives x now) a b = refl
after_condition (R.No now) a b = refl
after_condition (R.Returns v now) a b = refl
after_condition (R.Throws v now) a b = refl
after_condition (R.Stops cause now) a b = refl
after_condition R.Stuck a b = refl

condition_agrees : (reach : Reach) (Q : Value → Type 0) (cc cm ac am bc bm : Run Value Value) (now : Now Value)
    → Agree reach (Fits reach.types reach.choice V.Bool) (cc now) (cm now) → ((here : Now Value) → Good reach here → Agree reach Q (ac here) (am here))
    → ((here : Now Value) → Good reach here → Agree reach Q (bc here) (bm here))
    → Agree reach Q (goes_on (goes_on (cc now) (λ x. needs (truth_in x))) (if_so ac bc)) (goes_on (goes_on (cm now) (λ x. needs (truth_in x))) (if_so am bm))
condition_agrees reach Q cc cm ac am bc bm now c a b =
    let r = then_agree reach (Fits reach.types reach.choice V.Bool) Q (cc now) (cm now) (λ x. needs (truth_in x) then if_so ac bc)
    (λ x. needs (truth_in x) then if_so am bm) c
    (λ v later h good. branches_agree reach Q v ac am bc bm later h (a later good) (b later good)) in
    (after_condition (cc now) ac bc ∙ r.0 ∙ sym (after_condition (cm now) am bm), subst (Keeps reach Q) (sym (after_condition (cm now) am bm)) r.1)

repeat_agrees : (reach : Reach) (t : Shape) (before : Now Value) (turns : ℕ) (place : Place) (mc mm bc bm cc cm : Run Value Value) (last : Option ℕ)
    → Fits reach.types reach.choice V.Unit Val.Unit → Pair reach V.Int mc mm → Pair reach t bc bm → Pair reach V.Bool cc cm
    → (now : Now Value) → Good reach now
    → Agree reach (Fits reach.types reach.choice V.Unit) (Means.repeat_turns plainly before turns place mc bc cc last now)
    (Turns.repeat_turns turns place mm cm bm last now)
repeat_agrees reach t before zero place mc mm bc bm cc cm last unit rm rb rc now good = (refl, good)
repeat_agrees reach t before (suc turns) place mc mm bc bm cc cm last unit rm rb rc now good =
    let Q : Value → Type 0 = Fits reach.types reach.choice V.Unit in
    let again_c : ℕ → Run Value Value = λ n. Means.repeat_turns plainly before turns place mc bc cc (Some n) in
    let again_m : ℕ → Run Value Value = λ n. Turns.repeat_turns turns place mm cm bm (Some n) in
    ticks_agree reach Q
    (Means.loop_measure plainly before place mc last then λ n. bc then λ x. (cc then λ y. needs (truth_in y)) then if_so (gives Val.Unit) (again_c n))
    (Turns.measured place mm last then λ n. bm then λ v. Turns.holds cm then if_so (gives Val.Unit) (again_m n)) now good
    (λ later good2.
    then_agree reach Any Q (Means.loop_measure plainly before place mc last later) (Turns.measured place mm last later)
    (λ n. bc then λ x. (cc then λ y. needs (truth_in y)) then if_so (gives Val.Unit) (again_c n))
    (λ n. bm then λ v. Turns.holds cm then if_so (gives Val.Unit) (again_m n))
    (measure_agrees reach before place mc mm last later rm good2)
    (λ n there any good3.
    then_agree reach (Fits reach.types reach.choice t) Q (bc there) (bm there)
    (λ x. (cc then λ y. needs (truth_in y)) then if_so (gives Val.Unit) (again_c n)) (λ v. Turns.holds cm then if_so (gives Val.Unit) (again_m n))
    (rb there good3)
    (λ v after h good4.
    condition_agrees reach Q cc cm (gives Val.Unit) (gives Val.Unit) (again_c n) (again_m n) after (rc after good4) (λ here good5. (refl, (unit, good5)))
    (λ here good5. repeat_agrees reach t before turns place mc mm bc bm cc cm (Some n) unit rm rb rc here good5))))

repeat_runs : (setting : Setting) (locals : Locals) (place : Place) (t : Shape) (measure body condition : Core) (mm mb mc : Source.Meaning)
    → RunsAs setting locals V.Int measure mm → RunsAs setting locals t body mb → RunsAs setting locals V.Bool condition mc
    → RunsAs setting locals V.Unit (over place K.Repeat (measure ∷ body ∷ condition ∷ []))
    (λ w now. Turns.repeat_turns (suc now.ticks) place (mm w) (mc w) (mb w) None now)
repeat_runs setting locals place t measure body condition mm mb mc rm rb rc registers c wc ws d slots seen now good =
    let reach : Reach = reach_of setting registers c slots in
    let q = repeat_agrees reach t now (suc now.ticks) place (core_meaning wc measure) (mm ws) (core_meaning wc body) (mb ws)
    (core_meaning wc condition) (mc ws) None (unit_fits setting c) (λ here good2. rm registers c wc ws d slots seen here good2)
    (λ here good2. rb registers c wc ws d slots seen here good2)
    (λ here good2. rc registers c wc ws d slots seen here good2) now good in
    (ap (λ (x : Run Value Value). x now) (unrolled wc place 0 K.Repeat (measure ∷ body ∷ condition ∷ [])) ∙ q.0, q.1)

pub repeat_right : (setting : Setting) (locals : Locals) (place : Place) (measure condition body : Part) (mm mc mb : Source.Meaning)
    → IsRight (Scopes.plainly setting) locals measure.elaborate mm → IsRight setting locals condition.elaborate mc → IsRight setting locals body.elaborate mb
    → IsRight setting locals (loop_found place Repeat (Some measure) condition body) (Turns.looped Repeat place (Some mm) mc mb)
repeat_right setting locals place measure condition body mm mc mb rm rc rb want e =
    let m : Found = measure.elaborate (Scopes.plainly setting) locals V.Int in
    let b : Found = body.elaborate setting locals V.Unit in
    let a : Found = condition.elaborate setting locals V.Bool in
    let n : Source.Meaning = Turns.looped Repeat place (Some mm) mc mb in
    let faults = (m.faults ++ b.faults) ++ a.faults in
    let h = both_empty faults _ e in
    let h2 = both_empty (m.faults ++ b.faults) a.faults h.0 in
    let h3 = both_empty m.faults b.faults h2.0 in
    behind_right setting locals want faults _ n
    (settled_right setting locals place want V.Unit (λ t. over place K.Repeat (m.core ∷ b.core ∷ a.core ∷ [])) n h.1
    (λ t. repeat_runs setting locals place b.shape m.core b.core a.core (λ w. mm (plain w)) mb mc
    (plain_runs setting locals V.Int m.core mm (int_runs (Scopes.plainly setting) locals m mm (rm V.Int h3.0)))
    (rb V.Unit h3.1).runs (bool_runs setting locals a mc (rc V.Bool h2.1))))
