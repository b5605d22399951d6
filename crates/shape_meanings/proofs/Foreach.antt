-- `foreach` and `while` over their parts.
use Rattle.std.proofs.Common.{ℕ, suc, ℤ, pos, List, [], ◌∷◌, ap, sym, ◌∙◌, refl, subst, Bool, true, false, None}
use Rattle.std.specs.Prelude.{int_le}
use Rattle.sail_base.specs.declared.place.Place.{Place}
use Rattle.sail_types.specs.declared.shapes.Shape.{Shape}
use Rattle.sail_types.specs.declared.shapes.Shape.TheOpen as S
use Rattle.sail_types.specs.declared.shapes.Shape.TheVariants as V
use Rattle.sail_types.specs.declared.values.Value.{Value}
use Rattle.sail_types.specs.declared.values.Value.TheOpen as W
use Rattle.sail_types.specs.declared.values.Value.TheVariants as Val
use Rattle.sail_syntax.specs.declared.words.Direction.{Direction}
use Rattle.sail_core.specs.declared.tree.Kind.TheVariants as K
use Rattle.sail_core.specs.declared.tree.Core.{Core}
use Rattle.sail_core.specs.Run.{Now, Run, needs, stuck, if_so, ◌then◌}
use Rattle.sail_core.specs.Values.{integer_in}
use Rattle.sail_core.specs.Making.{plainly}
use Rattle.sail_core.specs.Meaning as Means
use Rattle.sail_core.specs.Meaning.{core_meaning}
use Rattle.sail_meaning.specs.World as Source
use Rattle.sail_meaning.specs.World.{integer}
use Rattle.sail_meaning.specs.Loops as Turns
use Rattle.shape_rules.specs.Findings.{over}
use Rattle.shape_rules.specs.Scopes.{Setting, Locals, constant}
use Rattle.shape_rules.specs.Statements.{counting}
use Rattle.shape_meanings.specs.Whole.{Choice}
use Rattle.shape_meanings.specs.Keeping.{Fits, Reach, reach_of, Agree}
use Rattle.shape_meanings.proofs.Runs.{then_agree}
use Rattle.shape_meanings.proofs.Settling.{RunsAs, unrolled, form_has}
use Rattle.shape_meanings.proofs.Loops.{integral, turns_agree}
use Rattle.shape_meanings.proofs.Whiles.{while_agrees}
use Rattle.shape_meanings.proofs.Lets.{seen_behind}
use Rattle.shape_meanings.proofs.Tests.{unit_fits}

pub int_fits : (setting : Setting) (c : Choice) (z : ℤ) → Fits setting.types c V.Int (Val.Integer z)
int_fits setting c z = form_has setting.types c (W.Integer z) S.Int (Val.Integer z) V.Int (Val.rolls-Integer z) V.rolls-Int refl

-- an integer, and then two pieces that agree for it
with_integer : (reach : Reach) (Q : Value → Type 0) (v : Value) (nc nm : ℤ → Run Value Value) (now : Now Value) → Fits reach.types reach.choice V.Int v
    → ((z : ℤ) → Agree reach Q (nc z now) (nm z now)) → Agree reach Q ((needs (integer_in v) then nc) now) ((integer v then nm) now)
with_integer reach Q v nc nm now h next =
    let z = integral reach.types reach.choice v h in
    subst (λ o. Agree reach Q ((needs o then nc) now) ((needs o then nm) now)) (sym z.1) (next z.0)

stepping : (reach : Reach) (Q : Value → Type 0) (b : Bool) (kc km : Run Value Value) (now : Now Value) → Agree reach Q (kc now) (km now)
    → Agree reach Q (if_so kc stuck b now) (if_so km stuck b now)
stepping reach Q true kc km now a = a
stepping reach Q false kc km now a = (refl, tt)

pub foreach_runs : (setting : Setting) (locals : Locals) (place : Place) (name : List ℕ) (way : Direction) (t : Shape) (a b s body : Core)
    (ma mb ms m : Source.Meaning)
    → RunsAs setting locals V.Int a ma → RunsAs setting locals V.Int b mb → RunsAs setting locals V.Int s ms
    → RunsAs setting (constant name V.Int ∷ locals) t body m
    → RunsAs setting locals V.Unit (over place (K.Foreach name (counting way)) (a ∷ b ∷ s ∷ body ∷ []))
    (λ w. ma w then λ u. integer u then λ from. mb w then λ v. integer v then λ to. ms w then λ x. integer x then λ by.
    Turns.foreach name way from to by (m w))
foreach_runs setting locals place name way t a b s body ma mb ms m ra rb rs runs registers c wc ws d slots seen now good =
    let reach : Reach = reach_of setting registers c slots in
    let Q : Value → Type 0 = Fits setting.types c V.Unit in
    let I : Value → Type 0 = Fits setting.types c V.Int in
    let kc : Run Value Value = core_meaning wc body in
    let km : Run Value Value = m ws in
    let last_c : ℤ → ℤ → ℤ → Run Value Value = λ from to by. Means.foreach plainly name (counting way) from to by kc in
    let last_m : ℤ → ℤ → ℤ → Run Value Value = λ from to by. Turns.foreach name way from to by km in
    let third_c : ℤ → ℤ → Run Value Value = λ from to. core_meaning wc s then λ x. needs (integer_in x) then last_c from to in
    let third_m : ℤ → ℤ → Run Value Value = λ from to. ms ws then λ x. integer x then last_m from to in
    let second_c : ℤ → Run Value Value = λ from. core_meaning wc b then λ x. needs (integer_in x) then third_c from in
    let second_m : ℤ → Run Value Value = λ from. mb ws then λ x. integer x then third_m from in
    let q = then_agree reach I Q (core_meaning wc a now) (ma ws now) (λ x. needs (integer_in x) then second_c) (λ x. integer x then second_m)
    (ra registers c wc ws d slots seen now good)
    (λ u later h good2. with_integer reach Q u second_c second_m later h
    (λ from.
    then_agree reach I Q (core_meaning wc b later) (mb ws later) (λ x. needs (integer_in x) then third_c from) (λ x. integer x then third_m from)
    (rb registers c wc ws d slots seen later good2)
    (λ v there h2 good3. with_integer reach Q v (third_c from) (third_m from) there h2
    (λ to.
    then_agree reach I Q (core_meaning wc s there) (ms ws there) (λ x. needs (integer_in x) then last_c from to) (λ x. integer x then last_m from to)
    (rs registers c wc ws d slots seen there good3)
    (λ x last h3 good4. with_integer reach Q x (last_c from to) (last_m from to) last h3
    (λ by.
    stepping reach Q (int_le (pos 1) by) (Means.count_turns plainly last (suc last.ticks) name (counting way) from to by kc)
    (Turns.count_turns (suc last.ticks) name way from to by km) last
    (turns_agree reach t last (suc last.ticks) name way from to by kc km (int_fits setting c) (unit_fits setting c)
    (λ here good5. runs registers c wc ws d (constant name V.Int ∷ slots) (seen_behind (constant name V.Int) slots locals seen) here good5) last good4))))))) in
    (ap (λ (x : Run Value Value). x now) (unrolled wc place 0 (K.Foreach name (counting way)) (a ∷ b ∷ s ∷ body ∷ [])) ∙ q.0, q.1)

pub while_runs : (setting : Setting) (locals : Locals) (place : Place) (t : Shape) (measure condition body : Core) (mm mc mb : Source.Meaning)
    → RunsAs setting locals V.Int measure mm → RunsAs setting locals V.Bool condition mc → RunsAs setting locals t body mb
    → RunsAs setting locals V.Unit (over place K.While (measure ∷ condition ∷ body ∷ []))
    (λ w now. Turns.while_turns (suc now.ticks) place (mm w) (mc w) (mb w) None now)
while_runs setting locals place t measure condition body mm mc mb rm rc rb registers c wc ws d slots seen now good =
    let reach : Reach = reach_of setting registers c slots in
    let q = while_agrees reach t now (suc now.ticks) place (core_meaning wc measure) (mm ws) (core_meaning wc condition) (mc ws)
    (core_meaning wc body) (mb ws) None (unit_fits setting c) (λ here good2. rm registers c wc ws d slots seen here good2)
    (λ here good2. rc registers c wc ws d slots seen here good2)
    (λ here good2. rb registers c wc ws d slots seen here good2) now good in
    (ap (λ (x : Run Value Value). x now) (unrolled wc place 0 K.While (measure ∷ condition ∷ body ∷ [])) ∙ q.0, q.1)
