-- `foreach`, `while` and `repeat` over their parts.
use Rattle.std.proofs.Common.{◌≡◌, ℕ, zero, suc, sym, ◌∙◌, refl, subst, Bool, true, false, Option, Some, None}
use Rattle.std.specs.Prelude.{nat_lt, if◌then◌else◌}
use Rattle.sail_base.specs.declared.place.Place.{Place}
use Rattle.sail_types.specs.declared.shapes.Shape.{Shape}
use Rattle.sail_types.specs.declared.shapes.Shape.TheVariants as V
use Rattle.sail_types.specs.declared.values.Value.{Value}
use Rattle.sail_types.specs.declared.values.Value.TheVariants as Val
use Rattle.model_state.specs.declared.cause.Cause.TheVariants as Cause
use Rattle.sail_core.specs.Run as R
use Rattle.sail_core.specs.Run.{Now, Ended, Run, needs, gives, stops, if_so, goes_on, tick, ◌then◌}
use Rattle.sail_core.specs.Values.{truth_in, integer_in, natural_of}
use Rattle.sail_core.specs.Making.{plainly}
use Rattle.sail_core.specs.Meaning as Means
use Rattle.sail_meaning.specs.World.{natural}
use Rattle.sail_meaning.specs.Loops as Turns
use Rattle.shape_meanings.specs.Keeping.{Fits, Reach, Good, Keeps, Agree}
use Rattle.shape_meanings.proofs.Runs.{then_agree}
use Rattle.shape_meanings.proofs.Branches.{branches_agree}
use Rattle.shape_meanings.proofs.Loops.{ticks_agree, integral}

-- two runs that agree wherever a loop comes to
abbrev pub Pair : Reach → Shape → Run Value Value → Run Value Value → Type 0
Pair reach s kc km = (here : Now Value) → Good reach here → Agree reach (Fits reach.types reach.choice s) (kc here) (km here)

-- ---- measures

abbrev pub Any : {A : Type 0} → A → Type 0
Any x = Unit {0}

fallen_keeps : (reach : Reach) (place : Place) (last : Option ℕ) (n : ℕ) (now : Now Value) → Good reach now
    → Agree reach Any (Means.fallen place last n now) (Turns.fallen place last n now)
fallen_keeps reach place None n now good = (refl, (tt, good))
fallen_keeps reach place (Some before) n now good = by_test (nat_lt n before)
  where
    by_test : (b : Bool) → Agree reach Any ((if b then gives n else stops (Cause.Measure place)) now) ((if b then gives n else stops (Cause.Measure place)) now)
    by_test true = (refl, (tt, good))
    by_test false = (refl, good)

natural_keeps : (reach : Reach) (o : Option ℕ) (now : Now Value) → Good reach now → Keeps reach Any (needs o now)
natural_keeps reach None now good = tt
natural_keeps reach (Some n) now good = (tt, good)

-- a number that isn't negative, of an integer
numbers_agree : (reach : Reach) (v : Value) (now : Now Value) → Fits reach.types reach.choice V.Int v → Good reach now
    → Agree reach Any ((needs (integer_in v) then λ i. needs (natural_of i)) now) (natural v now)
numbers_agree reach v now h good =
    let z = integral reach.types reach.choice v h in
    subst (λ o. Agree reach Any ((needs o then λ i. needs (natural_of i)) now) ((needs o then λ i. needs (natural_of i)) now)) (sym z.1)
    (refl, natural_keeps reach (natural_of z.0) now good)

pub measure_agrees : (reach : Reach) (before : Now Value) (place : Place) (kc km : Run Value Value) (last : Option ℕ) (now : Now Value) → Pair reach V.Int kc km
    → Good reach now → Agree reach Any (Means.loop_measure plainly before place kc last now) (Turns.measured place km last now)
measure_agrees reach before place kc km last now runs good =
    then_agree reach (Fits reach.types reach.choice V.Int) Any (kc now) (km now)
    (λ x. (needs (integer_in x) then λ i. needs (natural_of i)) then Means.fallen place last) (λ v. natural v then Turns.fallen place last)
    (runs now good)
    (λ v later h good2.
    then_agree reach Any Any ((needs (integer_in v) then λ i. needs (natural_of i)) later) (natural v later) (Means.fallen place last) (Turns.fallen place last)
    (numbers_agree reach v later h good2) (λ n here any good3. fallen_keeps reach place last n here good3))

-- ---- `while`

pub while_agrees : (reach : Reach) (t : Shape) (before : Now Value) (turns : ℕ) (place : Place) (mc mm cc cm bc bm : Run Value Value) (last : Option ℕ)
    → Fits reach.types reach.choice V.Unit Val.Unit → Pair reach V.Int mc mm → Pair reach V.Bool cc cm → Pair reach t bc bm
    → (now : Now Value) → Good reach now
    → Agree reach (Fits reach.types reach.choice V.Unit) (Means.while_turns plainly before turns place mc cc bc last now)
    (Turns.while_turns turns place mm cm bm last now)
while_agrees reach t before zero place mc mm cc cm bc bm last unit rm rc rb now good = (refl, good)
while_agrees reach t before (suc turns) place mc mm cc cm bc bm last unit rm rc rb now good =
    let Q : Value → Type 0 = Fits reach.types reach.choice V.Unit in
    let core : Run Value Value = tick then λ t. Means.loop_measure plainly before place mc last then λ n. bc
    then λ x. Means.while_turns plainly before turns place mc cc bc (Some n) in
    let source : Run Value Value = tick then λ t. Turns.measured place mm last then λ n. bm then λ v. Turns.while_turns turns place mm cm bm (Some n) in
    let turn : (here : Now Value) → Good reach here → Agree reach Q (core here) (source here) =
    λ here good2. ticks_agree reach Q
    (Means.loop_measure plainly before place mc last then λ n. bc then λ x. Means.while_turns plainly before turns place mc cc bc (Some n))
    (Turns.measured place mm last then λ n. bm then λ v. Turns.while_turns turns place mm cm bm (Some n)) here good2
    (λ later good3.
    then_agree reach Any Q (Means.loop_measure plainly before place mc last later) (Turns.measured place mm last later)
    (λ n. bc then λ x. Means.while_turns plainly before turns place mc cc bc (Some n)) (λ n. bm then λ v. Turns.while_turns turns place mm cm bm (Some n))
    (measure_agrees reach before place mc mm last later rm good3)
    (λ n there any good4.
    then_agree reach (Fits reach.types reach.choice t) Q (bc there) (bm there) (λ x. Means.while_turns plainly before turns place mc cc bc (Some n))
    (λ v. Turns.while_turns turns place mm cm bm (Some n)) (rb there good4)
    (λ v after h good5. while_agrees reach t before turns place mc mm cc cm bc bm (Some n) unit rm rc rb after good5))) in
    condition_agrees reach Q cc cm core source (gives Val.Unit) (gives Val.Unit) now (rc now good) turn (λ here good2. (refl, (unit, good2)))
  where
    after : (e : Ended Value Value) (a b : Run Value Value)
        → goes_on (goes_on e (λ x. needs (truth_in x))) (if_so a b) ≡ goes_on e (λ x. needs (truth_in x) then if_so a b)
    after (R.Gives x now) a b = refl
    after (R.No now) a b = refl
    after (R.Returns v now) a b = refl
    after (R.Throws v now) a b = refl
    after (R.Stops cause now) a b = refl
    after R.Stuck a b = refl

    condition_agrees : (reach : Reach) (Q : Value → Type 0) (cc cm ac am bc bm : Run Value Value) (now : Now Value)
        → Agree reach (Fits reach.types reach.choice V.Bool) (cc now) (cm now) → ((here : Now Value) → Good reach here → Agree reach Q (ac here) (am here))
        → ((here : Now Value) → Good reach here → Agree reach Q (bc here) (bm here))
        → Agree reach Q (goes_on (goes_on (cc now) (λ x. needs (truth_in x))) (if_so ac bc)) (goes_on (goes_on (cm now) (λ x. needs (truth_in x)))
        (if_so am bm))
    condition_agrees reach Q cc cm ac am bc bm now c a b =
        let r = then_agree reach (Fits reach.types reach.choice V.Bool) Q (cc now) (cm now) (λ x. needs (truth_in x) then if_so ac bc)
        (λ x. needs (truth_in x) then if_so am bm) c
        (λ v later h good. branches_agree reach Q v ac am bc bm later h (a later good) (b later good)) in
        (after (cc now) ac bc ∙ r.0 ∙ sym (after (cm now) am bm), subst (Keeps reach Q) (sym (after (cm now) am bm)) r.1)
