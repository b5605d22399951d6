-- Loops.
use Rattle.std.proofs.Common.{◌≡◌, ℕ, zero, suc, ℤ, List, [], ◌∷◌, ◌∙◌, refl, true, Some}
use Rattle.sail_types.specs.Shapes.{fits, form_fits, Asked}
use Rattle.sail_types.specs.declared.shapes.Shape.{Shape}
use Rattle.sail_types.specs.declared.shapes.Shape.TheOpen as S
use Rattle.sail_types.specs.declared.shapes.Shape.TheVariants as V
use Rattle.sail_types.specs.declared.table.Types.{Types}
use Rattle.sail_types.specs.declared.values.Value.{Value, Value-F, out-Value}
use Rattle.sail_types.specs.declared.values.Value.TheFolds.{map-Value}
use Rattle.sail_types.specs.declared.values.Value.TheOpen as W
use Rattle.sail_types.specs.declared.values.Value.TheVariants as Val
use Rattle.sail_syntax.specs.declared.words.Direction.{Direction}
use Rattle.sail_syntax.specs.declared.words.Direction.TheVariants as Way
use Rattle.sail_core.specs.Run.{Now, Run, gives, if_so, tick, tick_at, within, local, ◌then◌}
use Rattle.sail_core.specs.Values.{integer_in, form_integer}
use Rattle.sail_core.specs.Making.{plainly}
use Rattle.sail_core.specs.Meaning as Means
use Rattle.shape_joins.proofs.Order.{no}
use Rattle.sail_meaning.specs.Loops as Turns
use Rattle.shape_rules.specs.Scopes.{constant}
use Rattle.shape_rules.specs.Statements.{counting}
use Rattle.shape_meanings.specs.Whole.{Choice}
use Rattle.shape_meanings.specs.Keeping.{Fits, Reach, Good, Keeps, Agree}
use Rattle.shape_meanings.proofs.Runs.{then_agree, within_agrees, inside}
use Rattle.shape_meanings.proofs.Matching.{leaf_out, form_given}
use Rattle.shape_meanings.proofs.Branches.{chosen_agrees as if_turns}

-- ---- ticks, integers

tick_keeps : (reach : Reach) (n : ℕ) (now : Now Value) → Good reach now → Keeps reach (λ t. Unit {0}) (tick_at n now)
tick_keeps reach zero now good = good
tick_keeps reach (suc n) now good = (tt, record { locals = good.locals; state = good.state })

pub ticks_agree : (reach : Reach) (Q : Value → Type 0) (ac am : Run Value Value) (now : Now Value) → Good reach now
    → ((later : Now Value) → Good reach later → Agree reach Q (ac later) (am later))
    → Agree reach Q ((tick then λ t. ac) now) ((tick then λ t. am) now)
ticks_agree reach Q ac am now good next =
    then_agree reach (λ t. Unit {0}) Q (tick now) (tick now) (λ t. ac) (λ t. am) (refl, tick_keeps reach now.ticks now good)
    (λ t later h good2. next later good2)

form_integral : (types : Types) (x : Value-F Value) → form_fits types (map-Value Value Asked (fits types) x) S.Int ≡ true
    → (z : ℤ) × (form_integer x ≡ Some z)
form_integral types (W.Integer z) h = (z, refl)
form_integral types x h = no h

pub integral : (types : Types) (c : Choice) (v : Value) → Fits types c V.Int v → (z : ℤ) × (integer_in v ≡ Some z)
integral types c v h = form_integral types (out-Value v) (form_given types c V.Int S.Int v (leaf_out c S.Int V.Int V.rolls-Int refl) h)

-- ---- `foreach`

abbrev Body : Reach → Type 0
Body reach = Run Value Value × Run Value Value

span_same : (way : Direction) (i to : ℤ) → Means.in_span (counting way) i to ≡ Turns.is_in_span way i to
span_same Way.Up i to = refl
span_same Way.Down i to = refl

next_same : (way : Direction) (i by : ℤ) → Means.next_of (counting way) i by ≡ Turns.next_number way i by
next_same Way.Up i by = refl
next_same Way.Down i by = refl

pub turns_agree : (reach : Reach) (t : Shape) (before : Now Value) (turns : ℕ) (name : List ℕ) (way : Direction) (i to by : ℤ) (kc km : Run Value Value)
    → ((z : ℤ) → Fits reach.types reach.choice V.Int (Val.Integer z)) → Fits reach.types reach.choice V.Unit Val.Unit
    → ((here : Now Value) → Good (inside reach (constant name V.Int ∷ [])) here
    → Agree (inside reach (constant name V.Int ∷ [])) (Fits reach.types reach.choice t) (kc here) (km here))
    → (now : Now Value) → Good reach now
    → Agree reach (Fits reach.types reach.choice V.Unit) (Means.count_turns plainly before turns name (counting way) i to by kc now)
    (Turns.count_turns turns name way i to by km now)
turns_agree reach t before zero name way i to by kc km ints unit body now good = (refl, good)
turns_agree reach t before (suc turns) name way i to by kc km ints unit body now good =
    let Q : Value → Type 0 = Fits reach.types reach.choice V.Unit in
    let r = if_turns reach Q (Turns.is_in_span way i to)
    (tick then λ t. within (local name (Val.Integer i) ∷ []) kc then λ x. Means.count_turns plainly before turns name (counting way)
    (Turns.next_number way i by) to by kc)
    (tick then λ t. within (local name (Val.Integer i) ∷ []) km then λ v. Turns.count_turns turns name way (Turns.next_number way i by) to by km)
    (gives Val.Unit) (gives Val.Unit) now
    (ticks_agree reach Q
    (within (local name (Val.Integer i) ∷ []) kc then λ x. Means.count_turns plainly before turns name (counting way) (Turns.next_number way i by) to by kc)
    (within (local name (Val.Integer i) ∷ []) km then λ v. Turns.count_turns turns name way (Turns.next_number way i by) to by km) now good
    (λ later good2.
    then_agree reach (Fits reach.types reach.choice t) Q (within (local name (Val.Integer i) ∷ []) kc later) (within (local name (Val.Integer i) ∷ []) km later)
    (λ x. Means.count_turns plainly before turns name (counting way) (Turns.next_number way i by) to by kc)
    (λ v. Turns.count_turns turns name way (Turns.next_number way i by) to by km)
    (within_agrees reach (Fits reach.types reach.choice t) (constant name V.Int ∷ []) (local name (Val.Integer i) ∷ []) kc km later good2
    (refl, ints i, tt) body)
    (λ v last h good3. turns_agree reach t before turns name way (Turns.next_number way i by) to by kc km ints unit body last good3)))
    (refl, (unit, good)) in (
      (λ k. if_so
          (tick then λ t. within (local name (Val.Integer i) ∷ []) kc then λ x. Means.count_turns plainly before turns name (counting way)
          (next_same way i by k) to by kc)
          (gives Val.Unit) (span_same way i to k) now) ∙ r.0,
      r.1,
    )
