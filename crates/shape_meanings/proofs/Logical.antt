-- `&` and `|` whose left operand is a truth.
use Rattle.std.proofs.Common.{◌≡◌, [], ◌∷◌, ◌++◌, ap, sym, ◌∙◌, refl, subst, Bool, true, false, Some}
use Rattle.sail_base.specs.declared.place.Place.{Place}
use Rattle.sail_types.specs.Shapes.{fits, form_fits, Asked}
use Rattle.sail_types.specs.declared.shapes.Shape.{Shape, Shape-F, out-Shape}
use Rattle.sail_types.specs.declared.shapes.Shape.TheOpen as S
use Rattle.sail_types.specs.declared.shapes.Shape.TheVariants as V
use Rattle.sail_types.specs.declared.table.Types.{Types}
use Rattle.sail_types.specs.declared.values.Value.{Value, Value-F, out-Value, roll-Value}
use Rattle.sail_types.specs.declared.values.Value.TheFolds.{map-Value}
use Rattle.sail_types.specs.declared.values.Value.TheViews.{roll-out-Value}
use Rattle.sail_types.specs.declared.values.Value.TheOpen as W
use Rattle.sail_core.specs.Run.{Now, Run, needs, gives, if_so, goes_on, ◌then◌}
use Rattle.sail_core.specs.Values.{truth_in, form_truth}
use Rattle.sail_core.specs.Making as Core
use Rattle.sail_core.specs.Making.{plainly}
use Rattle.sail_core.specs.Meaning.{core_meaning, kind_meaning}
use Rattle.shape_joins.proofs.Order.{no}
use Rattle.sail_meaning.specs.World as Source
use Rattle.sail_meaning.specs.Expressions.{infix_of, is_a_truth}
use Rattle.shape_rules.specs.Findings.{Found, over}
use Rattle.shape_rules.specs.Scopes.{Setting, Locals}
use Rattle.shape_rules.specs.Values.{logical_found, is_truth_form}
use Rattle.shape_meanings.specs.Whole.{Choice}
use Rattle.shape_meanings.specs.Keeping.{Fits, Reach, Good, reach_of, Keeps, Agree}
use Rattle.shape_meanings.specs.Sound.{Right}
use Rattle.shape_meanings.specs.Parts.{operator_of, kind_of}
use Rattle.shape_meanings.proofs.Values.{opened_at, out_put}
use Rattle.shape_meanings.proofs.Runs.{then_agree}
use Rattle.shape_meanings.proofs.Settling.{RunsAs, settled_right, behind_right, both_empty, unrolled, form_has}
use Rattle.shape_meanings.proofs.Branches.{bool_exact, truly}
use Rattle.shape_meanings.proofs.Matching.{form_given}

-- a value of a shape that is a truth's, or that nothing has, is a truth
truth_form : (types : Types) (x : Value-F Value) (y : Shape-F Shape) (c : Choice) → is_truth_form y ≡ true
    → form_fits types (map-Value Value Asked (fits types) x) (opened_at c y) ≡ true → (b : Bool) × (x ≡ W.Truth b)
truth_form types (W.Truth b) S.Bool c h k = (b, refl)
truth_form types x S.Never c h k = no k
truth_form types x S.Bool c h k = no k
truth_form types x y c h k = no h

is_truth : (types : Types) (c : Choice) (s : Shape) (v : Value) → is_truth_form (out-Shape s) ≡ true → Fits types c s v → (b : Bool) × (out-Value v ≡ W.Truth b)
is_truth types c s v h k = truth_form types (out-Value v) (out-Shape s) c h (form_given types c s (opened_at c (out-Shape s)) v (out_put c s) k)

-- a truth, tested, as it is
truly_keeps : (reach : Reach) (v : Value) (now : Now Value) → Fits reach.types reach.choice V.Bool v → Good reach now
    → Agree reach (Fits reach.types reach.choice V.Bool) ((needs (truth_in v) then λ b. gives v) now) (is_a_truth v now)
truly_keeps reach v now h good =
    let t = truly reach.types reach.choice v h in
    subst (λ o. Agree reach (Fits reach.types reach.choice V.Bool) ((needs o then λ b. gives v) now) ((needs o then λ b. gives v) now)) (sym t.1)
    (refl, (h, good))

right_side : (reach : Reach) (bc bm : Run Value Value) (now : Now Value) → Agree reach (Fits reach.types reach.choice V.Bool) (bc now) (bm now)
    → Agree reach (Fits reach.types reach.choice V.Bool) ((bc then λ x. needs (truth_in x) then λ b. gives x) now) ((bm then is_a_truth) now)
right_side reach bc bm now a =
    then_agree reach (Fits reach.types reach.choice V.Bool) (Fits reach.types reach.choice V.Bool) (bc now) (bm now)
    (λ x. needs (truth_in x) then λ b. gives x) is_a_truth a (λ v later h good. truly_keeps reach v later h good)

-- what the core does behind a left operand that is this truth
abbrev logical_core : Bool → Run Value Value → Value → Bool → Run Value Value
logical_core true bc v true = bc then λ x. needs (truth_in x) then λ b. gives x
logical_core true bc v false = gives v
logical_core false bc v true = gives v
logical_core false bc v false = bc then λ x. needs (truth_in x) then λ b. gives x

logical_means : (is_and : Bool) (wc : Core.World Value) (place : Place) (ac bc : Run Value Value) (now : Now Value)
    → kind_meaning plainly wc place 0 (kind_of is_and) (ac ∷ bc ∷ []) now ≡ goes_on (ac now) (λ v. needs (truth_in v) then λ b. logical_core is_and bc v b)
logical_means true wc place ac bc now = λ i. goes_on (ac now) (λ v. needs (truth_in v) then λ b. and_is bc v b i)
  where
    and_is : (bc : Run Value Value) (v : Value) (b : Bool)
        → if_so (bc then λ x. needs (truth_in x) then λ b. gives x) (gives v) b ≡ logical_core true bc v b
    and_is bc v true = refl
    and_is bc v false = refl
logical_means false wc place ac bc now = λ i. goes_on (ac now) (λ v. needs (truth_in v) then λ b. or_is bc v b i)
  where
    or_is : (bc : Run Value Value) (v : Value) (b : Bool)
        → if_so (gives v) (bc then λ x. needs (truth_in x) then λ b. gives x) b ≡ logical_core false bc v b
    or_is bc v true = refl
    or_is bc v false = refl

-- behind a left operand that is a truth
logical_step : (is_and : Bool) (reach : Reach) (ws : Source.World) (place : Place) (v : Value) (b : Bool)
    (bc bm : Run Value Value) (now : Now Value) → Fits reach.types reach.choice V.Bool v → Good reach now
    → Agree reach (Fits reach.types reach.choice V.Bool) (bc now) (bm now)
    → Agree reach (Fits reach.types reach.choice V.Bool) (logical_core is_and bc v b now)
    (infix_of ws place (operator_of is_and) v (W.Truth b) bm now)
logical_step true reach ws place v true bc bm now h good a = right_side reach bc bm now a
logical_step true reach ws place v false bc bm now h good a = (refl, (h, good))
logical_step false reach ws place v true bc bm now h good a = (refl, (h, good))
logical_step false reach ws place v false bc bm now h good a = right_side reach bc bm now a

-- a truth has its shape
as_bool : (types : Types) (c : Choice) (v : Value) (b : Bool) → out-Value v ≡ W.Truth b → Fits types c V.Bool v
as_bool types c v b h =
    subst (λ u. Fits types c V.Bool u) (ap roll-Value (sym h) ∙ roll-out-Value v)
    (form_has types c (W.Truth b) S.Bool (roll-Value (W.Truth b)) V.Bool refl V.rolls-Bool refl)

truth_is : (v : Value) (b : Bool) → out-Value v ≡ W.Truth b → truth_in v ≡ Some b
truth_is v b h = ap form_truth h

pub logical_right : (setting : Setting) (locals : Locals) (want : Shape) (place : Place) (is_and : Bool)
    (a b : Found) (ma mb : Source.Meaning)
    → is_truth_form (out-Shape a.shape) ≡ true → RunsAs setting locals a.shape a.core ma → Right setting locals V.Bool b mb
    → (logical_found place (kind_of is_and) want a b).faults ≡ []
    → Right setting locals want (logical_found place (kind_of is_and) want a b) (λ w. ma w then λ v. infix_of w place (operator_of is_and) v
    (out-Value v) (mb w))
logical_right setting locals want place is_and a b ma mb is ra rb e =
    let m : Source.Meaning = λ w. ma w then λ v. infix_of w place (operator_of is_and) v (out-Value v) (mb w) in
    let h = both_empty (a.faults ++ b.faults) _ e in
    behind_right setting locals want (a.faults ++ b.faults) _ m
    (settled_right setting locals place want V.Bool (λ s. over place (kind_of is_and) (a.core ∷ b.core ∷ [])) m h.1
    (λ t registers c wc ws d slots seen now good.
    let reach : Reach = reach_of setting registers c slots in
    let q = then_agree reach (Fits setting.types c a.shape) (Fits setting.types c V.Bool) (core_meaning wc a.core now) (ma ws now)
    (λ v. needs (truth_in v) then λ x. logical_core is_and (core_meaning wc b.core) v x) (λ v. infix_of ws place (operator_of is_and) v (out-Value v) (mb ws))
    (ra registers c wc ws d slots seen now good)
    (λ v later fit good2.
    let k = is_truth setting.types c a.shape v is fit in
    let step = logical_step is_and reach ws place v k.0 (core_meaning wc b.core) (mb ws) later (as_bool setting.types c v k.0 k.1) good2
    (subst (λ s. RunsAs setting locals s b.core mb) (bool_exact b.shape rb.above) rb.runs registers c wc ws d slots seen later good2) in (
      ap (λ o. (needs o then λ x. logical_core is_and (core_meaning wc b.core) v x) later) (truth_is v k.0 k.1) ∙ step.0
          ∙ ap (λ x. infix_of ws place (operator_of is_and) v x (mb ws) later) (sym k.1),
      subst (λ x. Keeps reach (Fits setting.types c V.Bool) (infix_of ws place (operator_of is_and) v x (mb ws) later)) (sym k.1) step.1,
    )) in (
      ap (λ (x : Run Value Value). x now) (unrolled wc place 0 (kind_of is_and) (a.core ∷ b.core ∷ []))
          ∙ logical_means is_and wc place (core_meaning wc a.core) (core_meaning wc b.core) now ∙ q.0,
      q.1,
    )))

pub logicals_right : (setting : Setting) (locals : Locals) (want : Shape) (place : Place) (is_and : Bool) (a b : Found) (ma mb : Source.Meaning)
    → is_truth_form (out-Shape a.shape) ≡ true → Right setting locals V.Never a ma → Right setting locals V.Bool b mb
    → (logical_found place (kind_of is_and) want a b).faults ≡ []
    → Right setting locals want (logical_found place (kind_of is_and) want a b)
    (λ w. ma w then λ v. infix_of w place (operator_of is_and) v (out-Value v) (mb w))
logicals_right setting locals want place is_and a b ma mb is ra rb e = logical_right setting locals want place is_and a b ma mb is ra.runs rb e
