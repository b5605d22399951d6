-- Casts and branches.
use Rattle.std.proofs.Common.{◌≡◌, ℕ, [], ◌∷◌, ap, sym, ◌∙◌, refl, subst, Bool, true, false, Some, None}
use Rattle.sail_base.specs.declared.place.Place.{Place}
use Rattle.sail_types.specs.Shapes.{fits, form_fits, put, Asked}
use Rattle.sail_types.specs.declared.shapes.Shape.{Shape, out-Shape}
use Rattle.sail_types.specs.declared.shapes.Shape.TheFolds.{fold-roll-Shape}
use Rattle.sail_types.specs.declared.shapes.Shape.TheOpen as S
use Rattle.sail_types.specs.declared.shapes.Shape.TheVariants as V
use Rattle.sail_types.specs.declared.shapes.Shape.TheViews.{out-roll-Shape}
use Rattle.sail_types.specs.declared.table.Types.{Types}
use Rattle.sail_types.specs.declared.values.Value.{Value, Value-F, out-Value}
use Rattle.sail_types.specs.declared.values.Value.TheFolds.{map-Value}
use Rattle.sail_types.specs.declared.values.Value.TheViews.{roll-out-Value}
use Rattle.sail_types.specs.declared.values.Value.TheOpen as W
use Rattle.sail_core.specs.declared.tree.Kind.TheVariants as K
use Rattle.sail_core.specs.declared.tree.Core.{Core}
use Rattle.sail_core.specs.Run as R
use Rattle.sail_core.specs.Run.{Now, Ended, Run, needs, if_so, goes_on, ◌then◌}
use Rattle.sail_core.specs.Values.{truth_in, form_truth}
use Rattle.sail_core.specs.Making as Core
use Rattle.sail_core.specs.Meaning.{core_meaning}
use Rattle.sail_core.proofs.Sentences.{met_plainly}
use Rattle.shape_joins.specs.Filling.{fills}
use Rattle.shape_joins.proofs.Order.{no, fills_itself, fills_twice}
use Rattle.shape_joins.proofs.JoinsLeast.{joins_are_above, joins_are_least}
use Rattle.sail_meaning.specs.World as Source
use Rattle.sail_meaning.specs.World.{truth}
use Rattle.shape_rules.specs.Findings.{Found, cast, over, given_on, joined_or}
use Rattle.shape_rules.specs.Scopes.{Setting, Locals}
use Rattle.shape_rules.specs.Targets.{Part}
use Rattle.shape_rules.specs.Statements.{if_between}
use Rattle.shape_meanings.specs.Whole.{Choice, below, below_form}
use Rattle.shape_meanings.specs.Keeping.{Fits, Reach, reach_of, Agree}
use Rattle.shape_meanings.specs.Sound.{Right}
use Rattle.shape_meanings.proofs.Orders.{exact}
use Rattle.shape_meanings.proofs.Values.{fits_form, opened_at, out_put}
use Rattle.shape_meanings.proofs.Runs.{then_agree}
use Rattle.shape_meanings.proofs.Settling.{RunsAs, widened, unrolled}

-- ---- casts do nothing

pub after_gives : (m : Ended Value Value) → goes_on m (λ x now. R.Gives x now) ≡ m
after_gives (R.Gives x now) = refl
after_gives (R.No now) = refl
after_gives (R.Returns v now) = refl
after_gives (R.Throws v now) = refl
after_gives (R.Stops cause now) = refl
after_gives R.Stuck = refl

pub cast_means : (wc : Core.World Value) (a : Core) (place : Place) → core_meaning wc (cast a place) ≡ core_meaning wc a
cast_means wc a place = unrolled wc place 0 (K.Cast None) (a ∷ []) ∙ (λ i now. after_gives (core_meaning wc a now) i)

-- ---- what both come to

pub given_over : (want s : Shape) → fills want s ≡ true → (fills want (given_on want s) ≡ true) × (fills s (given_on want s) ≡ true)
given_over want s h =
    let j = joins_are_least want s s h (fills_itself s) in
    let o = joins_are_above want s j.0 j.1 in
    subst (λ t. (fills want t ≡ true) × (fills s t ≡ true)) (sym (ap (joined_or want) j.1)) o

-- ---- truths

bool_below : (n : ℕ) → below n V.Bool ≡ true
bool_below n = ap (below n) (sym V.rolls-Bool) ∙ fold-roll-Shape Bool (below_form n) S.Bool

pub bool_exact : (s : Shape) → fills V.Bool s ≡ true → s ≡ V.Bool
bool_exact s h = exact V.Bool s 0 h (bool_below 0)

bool_form : (c : Choice) → out-Shape (put c V.Bool) ≡ S.Bool
bool_form c = out_put c V.Bool ∙ ap (λ s. opened_at c (out-Shape s)) (sym V.rolls-Bool) ∙ ap (opened_at c) (out-roll-Shape S.Bool)

form_truly : (types : Types) (x : Value-F Value) → form_fits types (map-Value Value Asked (fits types) x) S.Bool ≡ true → (b : Bool) × (form_truth x ≡ Some b)
form_truly types (W.Truth b) h = (b, refl)
form_truly types x h = no h

pub truly : (types : Types) (c : Choice) (v : Value) → Fits types c V.Bool v → (b : Bool) × (truth_in v ≡ Some b)
truly types c v h =
    form_truly types (out-Value v)
    (sym (ap (λ u. fits types u (put c V.Bool)) (sym (roll-out-Value v)) ∙ fits_form types (out-Value v) (put c V.Bool)
    ∙ ap (form_fits types (map-Value Value Asked (fits types) (out-Value v))) (bool_form c)) ∙ h)

pub chosen_agrees : (reach : Reach) (Q : Value → Type 0) (b : Bool) (ac am bc bm : Run Value Value) (now : Now Value)
    → Agree reach Q (ac now) (am now) → Agree reach Q (bc now) (bm now) → Agree reach Q (if_so ac bc b now) (if_so am bm b now)
chosen_agrees reach Q true ac am bc bm now a b = a
chosen_agrees reach Q false ac am bc bm now a b = b

-- a truth leads to one of two pieces that agree
pub branches_agree : (reach : Reach) (Q : Value → Type 0) (v : Value) (ac am bc bm : Run Value Value) (now : Now Value)
    → Fits reach.types reach.choice V.Bool v → Agree reach Q (ac now) (am now) → Agree reach Q (bc now) (bm now)
    → Agree reach Q ((needs (truth_in v) then if_so ac bc) now) ((needs (truth_in v) then if_so am bm) now)
branches_agree reach Q v ac am bc bm now h a b =
    let t = truly reach.types reach.choice v h in
    subst (λ o. Agree reach Q ((needs o then if_so ac bc) now) ((needs o then if_so am bm) now)) (sym t.1) (chosen_agrees reach Q t.0 ac am bc bm now a b)

-- ---- `if`

if_runs : (setting : Setting) (locals : Locals) (place : Place) (s t : Shape) (c a b : Core) (at_a at_b : Place) (mc ma mb : Source.Meaning)
    → RunsAs setting locals V.Bool c mc → RunsAs setting locals t a ma → RunsAs setting locals t b mb
    → RunsAs setting locals t (over place (K.If s) (c ∷ cast a at_a ∷ cast b at_b ∷ [])) (λ w. mc w then λ v. truth v then if_so (ma w) (mb w))
if_runs setting locals place s t c a b at_a at_b mc ma mb rc ra rb registers choice wc ws d slots seen now good =
    let reach : Reach = reach_of setting registers choice slots in
    let Q : Value → Type 0 = Fits setting.types choice t in
    let r = then_agree reach (Fits setting.types choice V.Bool) Q (core_meaning wc c now) (mc ws now)
    (λ v. needs (truth_in v) then if_so (core_meaning wc a) (core_meaning wc b)) (λ v. needs (truth_in v) then if_so (ma ws) (mb ws))
    (rc registers choice wc ws d slots seen now good)
    (λ v later h good2. branches_agree reach Q v (core_meaning wc a) (ma ws) (core_meaning wc b) (mb ws) later h
    (ra registers choice wc ws d slots seen later good2) (rb registers choice wc ws d slots seen later good2)) in (
      ap (λ (q : Run Value Value). q now) (unrolled wc place 0 (K.If s) (c ∷ cast a at_a ∷ cast b at_b ∷ []))
          ∙ ap (λ (q : Run Value Value). q now)
          (met_plainly 0 (core_meaning wc c then λ v. needs (truth_in v) then if_so (core_meaning wc (cast a at_a)) (core_meaning wc (cast b at_b))))
          ∙ (λ i. goes_on (core_meaning wc c now) (λ v. needs (truth_in v) then if_so (cast_means wc a at_a i) (cast_means wc b at_b i)))
          ∙ r.0,
      r.1,
    )

pub if_right : (setting : Setting) (locals : Locals) (want : Shape) (place : Place) (c a b : Found) (part_a part_b : Part) (mc ma mb : Source.Meaning)
    → Right setting locals V.Bool c mc → Right setting locals want a ma → Right setting locals (given_on want a.shape) b mb
    → Right setting locals want (if_between place want c part_a a part_b b) (λ w. mc w then λ v. truth v then if_so (ma w) (mb w))
if_right setting locals want place c a b part_a part_b mc ma mb rc ra rb =
    let first = given_over want a.shape ra.above in
    let both = given_over (given_on want a.shape) b.shape rb.above in
    let t : Shape = given_on (given_on want a.shape) b.shape in
    record {
      above = fills_twice want (given_on want a.shape) t first.0 both.0;
      runs = if_runs setting locals place t t c.core a.core b.core part_a.place part_b.place mc ma mb
          (subst (λ s. RunsAs setting locals s c.core mc) (bool_exact c.shape rc.above) rc.runs)
          (widened setting locals a.shape t a.core ma (fills_twice a.shape (given_on want a.shape) t first.1 both.0) ra.runs)
          (widened setting locals b.shape t b.core mb both.1 rb.runs);
    }
