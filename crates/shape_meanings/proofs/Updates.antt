-- `[v with i = e]` and `[v with h .. l = e]`.
use Rattle.std.proofs.Common.{◌≡◌, ℤ, List, [], ◌∷◌, ◌++◌, map, ap, sym, ◌∙◌, refl, subst, true, Option, Some, None}
use Rattle.sail_base.specs.declared.place.Place.{Place}
use Rattle.sail_types.specs.declared.shapes.Shape.{Shape, Shape-F, out-Shape, roll-Shape}
use Rattle.sail_types.specs.declared.shapes.Shape.TheOpen as S
use Rattle.sail_types.specs.declared.shapes.Shape.TheVariants as V
use Rattle.sail_types.specs.declared.shapes.Shape.TheViews.{out-roll-Shape, roll-out-Shape}
use Rattle.sail_types.specs.declared.values.Value.{Value}
use Rattle.sail_core.specs.declared.targets.Way.{Way}
use Rattle.sail_core.specs.declared.targets.Way.TheVariants as Y
use Rattle.sail_core.specs.declared.tree.Core.{Core}
use Rattle.sail_core.specs.Run.{Now, Run, needs, gives, goes_on, ◌then◌}
use Rattle.sail_core.specs.Values.{Into, item_way, slice_way, integer_in}
use Rattle.sail_core.specs.Making as Core
use Rattle.sail_core.specs.Making.{plainly, made}
use Rattle.sail_core.specs.Meaning as Means
use Rattle.sail_core.specs.Meaning.{core_meaning, kind_meaning}
use Rattle.shape_joins.specs.Filling.{fills}
use Rattle.shape_joins.proofs.Order.{opens, fills_itself}
use Rattle.sail_meaning.specs.World as Source
use Rattle.sail_meaning.specs.Expressions.{index_of}
use Rattle.sail_meaning.specs.Targets.{Suffix}
use Rattle.shape_rules.specs.Findings.{Found, over, given_on}
use Rattle.shape_rules.specs.Scopes.{Setting, Locals}
use Rattle.shape_rules.specs.Targets.{Part, IndexPart, Led, led_index, is_open, index_found, cores_of, faults_of, led_shape, base_faults}
use Rattle.shape_rules.specs.Values.{update_kind, updated_shape, update_found, ends_found}
use Rattle.shape_meanings.specs.Whole.{Choice}
use Rattle.shape_meanings.specs.Keeping.{Fits, Reach, Good, reach_of, Keeps}
use Rattle.shape_meanings.specs.Parts.{IsRight, MaybeIs, IndexIs}
use Rattle.shape_meanings.proofs.Orders.{exact}
use Rattle.shape_meanings.proofs.Values.{widens}
use Rattle.shape_meanings.proofs.Runs.{then_agree}
use Rattle.shape_meanings.proofs.Settling.{RunsAs, widened, settled_right, behind_right, both_empty, unrolled}
use Rattle.shape_meanings.proofs.Branches.{given_over}
use Rattle.shape_meanings.proofs.Matching.{leaf_below}
use Rattle.shape_meanings.proofs.Looping.{int_runs}
use Rattle.shape_meanings.proofs.Ways.{bit_alike, item_alike, slice_alike}
use Rattle.shape_meanings.proofs.Suffixes.{then_then, open_fits, core_way, WayRuns, AlikeAt, item_runs, slice_runs}
use Rattle.shape_meanings.proofs.Walks.{WayOf, no_part}

-- ---- what the core does

abbrev update_way : Option Part → Way
update_way None = Y.Item
update_way (Some low) = Y.Slice

after_put : (o : Option Value) (now : Now Value) (xs : List Value) → goes_on (needs o now) (λ v. made plainly 0 xs v) ≡ needs o now
after_put None now xs = refl
after_put (Some v) now xs = refl

-- the new value, and then the old one with it
put_step : (c : Run Value Value) (w : Into) (x : Value) (xs : List Value) (now : Now Value)
    → goes_on (c now) (Means.put plainly 0 w x xs) ≡ goes_on (c now) (λ u. needs (w.put_in x u))
put_step c w x xs now = λ j. goes_on (c now) (λ u later. after_put (w.put_in x u) later (x ∷ xs ++ u ∷ []) j)

item_step : (o : Option ℤ) (c : Run Value Value) (x : Value) (xs : List Value) (now : Now Value)
    → goes_on (needs o now) (λ i. c then Means.put plainly 0 (item_way i) x xs)
    ≡ goes_on (goes_on (needs o now) (λ i. gives (item_way i))) (λ w. c then λ u. needs (w.put_in x u))
item_step None c x xs now = refl
item_step (Some i) c x xs now = put_step c (item_way i) x xs now

slice_step : (o p : Option ℤ) (c : Run Value Value) (x : Value) (xs : List Value) (now : Now Value)
    → goes_on (needs o now) (λ hi. needs p then λ lo. c then Means.put plainly 0 (slice_way hi lo) x xs)
    ≡ goes_on (goes_on (needs o now) (λ hi. needs p then λ lo. gives (slice_way hi lo))) (λ w. c then λ u. needs (w.put_in x u))
slice_step None p c x xs now = refl
slice_step (Some hi) None c x xs now = refl
slice_step (Some hi) (Some lo) c x xs now = put_step c (slice_way hi lo) x xs now

update_means : (wc : Core.World Value) (place : Place) (last : Option Part) (a : Core) (ends : List Core) (value : Core) (now : Now Value)
    → WayOf (update_way last) ends
    → kind_meaning plainly wc place 0 (update_kind last) (map (core_meaning wc) (a ∷ ends ++ value ∷ [])) now
    ≡ (core_meaning wc a then λ x. core_way (update_way last) (map (core_meaning wc) ends) then λ w. core_meaning wc value then λ u. needs (w.put_in x u)) now
update_means wc place None a (b ∷ []) value now h =
    let out : Value → Into → Run Value Value = λ x w. core_meaning wc value then λ u. needs (w.put_in x u) in
    λ j. goes_on (core_meaning wc a now) (λ x later.
    ((λ k. goes_on (core_meaning wc b later) (λ y here. item_step (integer_in y) (core_meaning wc value) x (y ∷ []) here k))
    ∙ sym (then_then (core_meaning wc b later) (λ y. needs (integer_in y) then λ i. gives (item_way i)) (out x))) j)
update_means wc place (Some low) a (b ∷ d ∷ []) value now h =
    let out : Value → Into → Run Value Value = λ x w. core_meaning wc value then λ u. needs (w.put_in x u) in
    let both : Value → Value → Run Value Into = λ y u. needs (integer_in y) then λ hi. needs (integer_in u) then λ lo. gives (slice_way hi lo) in
    λ j. goes_on (core_meaning wc a now) (λ x later.
    ((λ k. goes_on (core_meaning wc b later) (λ y here.
    ((λ l. goes_on (core_meaning wc d here) (λ u there. slice_step (integer_in y) (integer_in u) (core_meaning wc value) x (y ∷ u ∷ []) there l))
    ∙ sym (then_then (core_meaning wc d here) (both y) (out x))) k))
    ∙ sym (then_then (core_meaning wc b later) (λ y. core_meaning wc d then both y) (out x))) j)
update_means wc place None a [] value now h = absurd h
update_means wc place None a (b ∷ d ∷ ends) value now h = absurd h
update_means wc place (Some low) a [] value now h = absurd h
update_means wc place (Some low) a (b ∷ []) value now h = absurd h
update_means wc place (Some low) a (b ∷ d ∷ g ∷ ends) value now h = absurd h

-- ---- over its parts

abbrev updated_source : Source.Meaning → Suffix → Source.Meaning → Source.Meaning
updated_source ma mi mv w = ma w then λ old. mi w then λ way. mv w then λ v. needs (way.put_in old v)

-- where there is a value: the shape of the whole, and of what is put in
abbrev Updates : Setting → Locals → Option Part → Shape → Shape → List Core → Core → Suffix → Source.Meaning → Type 0
Updates setting locals last s whole ends value mi mv =
    (item : Shape) × (fills s whole ≡ true) × WayRuns setting locals (AlikeAt setting.types whole item) (update_way last) ends mi
    × RunsAs setting locals item value mv

update_runs : (setting : Setting) (locals : Locals) (place : Place) (last : Option Part) (s whole : Shape) (a : Core) (ends : List Core) (value : Core)
    (ma : Source.Meaning) (mi : Suffix) (mv : Source.Meaning)
    → WayOf (update_way last) ends → RunsAs setting locals s a ma
    → ((c : Choice) (v : Value) → Fits setting.types c s v → Updates setting locals last s whole ends value mi mv)
    → RunsAs setting locals whole (over place (update_kind last) (a ∷ ends ++ value ∷ [])) (updated_source ma mi mv)
update_runs setting locals place last s whole a ends value ma mi mv is ra there registers c wc ws d slots seen now good =
    let reach : Reach = reach_of setting registers c slots in
    let Q : Value → Type 0 = Fits setting.types c whole in
    let out_c : Value → Into → Run Value Value = λ x w. core_meaning wc value then λ u. needs (w.put_in x u) in
    let out_m : Value → Into → Run Value Value = λ x w. mv ws then λ u. needs (w.put_in x u) in
    let r = then_agree reach (Fits setting.types c s) Q (core_meaning wc a now) (ma ws now)
    (λ x. core_way (update_way last) (map (core_meaning wc) ends) then out_c x) (λ x. mi ws then out_m x)
    (ra registers c wc ws d slots seen now good)
    (λ x later h good2.
    let p = there c x h in
    p.2 registers c wc ws d slots seen whole (out_c x) (out_m x)
    (λ f g alike here good3.
    then_agree reach (Fits setting.types c p.0) Q (core_meaning wc value here) (mv ws here) (λ u. needs (f.put_in x u)) (λ u. needs (g.put_in x u))
    (p.3 registers c wc ws d slots seen here good3)
    (λ u last h2 good4.
    let fit = widens setting.types x c s whole p.1 h in
    (λ i. needs (alike.into x u fit i) last, kept reach (g.put_in x u) last good4 (λ y e. alike.whole x u y fit h2 e)))) later good2) in (
      ap (λ (q : Run Value Value). q now) (unrolled wc place 0 (update_kind last) (a ∷ ends ++ value ∷ []))
          ∙ update_means wc place last a ends value now is ∙ r.0,
      r.1,
    )
  where
    kept : (reach : Reach) (o : Option Value) (now : Now Value) → Good reach now → ((y : Value) → o ≡ Some y → Fits reach.types reach.choice whole y)
        → Keeps reach (Fits reach.types reach.choice whole) (needs o now)
    kept reach None now good f = tt
    kept reach (Some y) now good f = (f y refl, good)

-- ---- the shapes

pub vector_fills : (s t : Shape) → fills s t ≡ true → fills (V.Vector s) (V.Vector t) ≡ true
vector_fills s t h =
    ap (fills (V.Vector s)) (sym (V.rolls-Vector t)) ∙ ap (λ u. fills u (roll-Shape (S.Vector t))) (sym (V.rolls-Vector s)) ∙ opens (S.Vector s)
    (S.Vector t) ∙ h

out_vector : (t : Shape) → out-Shape (V.Vector t) ≡ S.Vector t
out_vector t = ap out-Shape (sym (V.rolls-Vector t)) ∙ out-roll-Shape (S.Vector t)

is_rolled : (s : Shape) (y : Shape-F Shape) (t : Shape) → out-Shape s ≡ y → roll-Shape y ≡ t → s ≡ t
is_rolled s y t is rolls = sym (roll-out-Shape s) ∙ ap roll-Shape is ∙ rolls

pub bit_exact : (s : Shape) → fills V.Bit s ≡ true → s ≡ V.Bit
bit_exact s h = exact V.Bit s 0 h (leaf_below 0 S.Bit V.Bit V.rolls-Bit refl)

pub bits_exact : (s : Shape) → fills V.Bits s ≡ true → s ≡ V.Bits
bits_exact s h = exact V.Bits s 0 h (leaf_below 0 S.Bits V.Bits V.rolls-Bits refl)

pub update_right : (setting : Setting) (locals : Locals) (place : Place) (base : Part) (index : IndexPart) (value : Part) (ma : Source.Meaning) (mi : Suffix)
    (mv : Source.Meaning)
    → IsRight setting locals base.elaborate ma → IndexIs setting locals index mi → IsRight setting locals value.elaborate mv
    → IsRight setting locals (update_found place base index value) (λ w. ma w then λ old. mi w then λ way. mv w then λ v. needs (way.put_in old v))
update_right setting locals place base index value ma mi mv ra is rv want e =
    let h = both_empty (((a.faults ++ base_faults base.place a.shape led) ++ faults_of ends) ++ found.faults) _ e in
    let h2 = both_empty ((a.faults ++ base_faults base.place a.shape led) ++ faults_of ends) found.faults h.0 in
    let h3 = both_empty (a.faults ++ base_faults base.place a.shape led) (faults_of ends) h2.0 in
    let h4 = both_empty a.faults (base_faults base.place a.shape led) h3.0 in
    behind_right setting locals want (((a.faults ++ base_faults base.place a.shape led) ++ faults_of ends) ++ found.faults) _ (updated_source ma mi mv)
    (settled_right setting locals place want (updated_shape index.last (out-Shape a.shape) a.shape found.shape)
    (λ s. over place (update_kind index.last) (a.core ∷ cores_of ends ++ found.core ∷ [])) (updated_source ma mi mv) h.1
    (λ t. update_runs setting locals place index.last a.shape (updated_shape index.last (out-Shape a.shape) a.shape found.shape) a.core (cores_of ends)
    found.core ma mi mv (ends_of index.last) (ra V.Never h4.0).runs
    (λ c v fit.
    subst (λ m. Updates setting locals index.last a.shape (updated_shape index.last (out-Shape a.shape) a.shape found.shape) (cores_of ends) found.core m mv)
    (sym is.2) (shapes index.last is.1 (out-Shape a.shape) refl is.4 h4.1 h3.1 h2.1 c v fit))))
  where
    a : Found
    a = base.elaborate setting locals V.Never

    led : Option Led
    led = led_index index.last (out-Shape a.shape)

    ends : List Found
    ends = ends_found index setting locals

    found : Found
    found = value.elaborate setting locals (led_shape led)

    one : Found
    one = index.first.elaborate setting locals V.Int

    ends_of : (low : Option Part) → WayOf (update_way low) (cores_of (one ∷ index_found low setting locals))
    ends_of None = tt
    ends_of (Some low) = tt

    new : Option Part → Shape-F Shape → Found
    new low y = value.elaborate setting locals (led_shape (led_index low y))

    hollow : (y : Shape-F Shape) (c : Choice) (v : Value) → out-Shape a.shape ≡ y → base_faults base.place a.shape None ≡ []
        → Fits setting.types c a.shape v → ⊥
    hollow y c v same h fit = open_fits setting.types c a.shape v (no_part base.place a.shape (is_open a.shape) refl h) fit

    first_runs : (low : Option Part) → faults_of (one ∷ index_found low setting locals) ≡ [] → RunsAs setting locals V.Int one.core is.0
    first_runs low h = int_runs setting locals one is.0 (is.3 V.Int (both_empty one.faults (faults_of (index_found low setting locals)) h).0)

    shapes : (low : Option Part) (last : Option Source.Meaning) (y : Shape-F Shape) → out-Shape a.shape ≡ y → MaybeIs setting locals low last
        → base_faults base.place a.shape (led_index low y) ≡ [] → faults_of (one ∷ index_found low setting locals) ≡ [] → (new low y).faults ≡ []
        → (c : Choice) (v : Value) → Fits setting.types c a.shape v
        → Updates setting locals low a.shape (updated_shape low y a.shape (new low y).shape) (cores_of (one ∷ index_found low setting locals)) (new low y).core
        (index_of is.0 last) mv
    shapes None None S.Bits same maybe b f g c v fit =
        let r = rv V.Bit g in (
          V.Bit,
          fills_itself a.shape,
          item_runs setting locals (AlikeAt setting.types a.shape V.Bit) one.core is.0 (first_runs None f) (λ c z. bit_alike setting.types c a.shape z same),
          subst (λ s. RunsAs setting locals s (new None S.Bits).core mv) (bit_exact (new None S.Bits).shape r.above) r.runs,
        )
    shapes None None (S.Vector t) same maybe b f g c v fit =
        let r = rv t g in
        let item : Shape = given_on t (new None (S.Vector t)).shape in
        let given = given_over t (new None (S.Vector t)).shape r.above in (
          item,
          subst (λ s. fills s (V.Vector item) ≡ true) (sym (is_rolled a.shape (S.Vector t) (V.Vector t) same (V.rolls-Vector t))) (vector_fills t item given.0),
          item_runs setting locals (AlikeAt setting.types (V.Vector item) item) one.core is.0 (first_runs None f)
              (λ c z. item_alike setting.types c (V.Vector item) item z (out_vector item)),
          widened setting locals (new None (S.Vector t)).shape item (new None (S.Vector t)).core mv given.1 r.runs,
        )
    shapes (Some low) (Some n) S.Bits same maybe b f g c v fit =
        let r = rv V.Bits g in
        let other : Found = low.elaborate setting locals V.Int in
        let k = both_empty one.faults (other.faults ++ []) f in
        let k2 = both_empty other.faults [] k.1 in (
          V.Bits,
          fills_itself a.shape,
          slice_runs setting locals (AlikeAt setting.types a.shape V.Bits) one.core other.core is.0 n (first_runs (Some low) f)
              (int_runs setting locals other n (maybe V.Int k2.0)) (λ c hi lo. slice_alike setting.types c a.shape hi lo same),
          subst (λ s. RunsAs setting locals s (new (Some low) S.Bits).core mv) (bits_exact (new (Some low) S.Bits).shape r.above) r.runs,
        )
    shapes None (Some n) y same maybe b f g c v fit = absurd maybe
    shapes (Some low) None y same maybe b f g c v fit = absurd maybe
    shapes None None y same maybe b f g c v fit = absurd (hollow y c v same b fit)
    shapes (Some low) (Some n) y same maybe b f g c v fit = absurd (hollow y c v same b fit)
