-- `[v with i = e]` and `[v with h .. l = e]`.
use Rattle.std.proofs.Common.{◌≡◌, inl, inr, true, List, [], ◌∷◌, ◌++◌, ap, sym, ◌∙◌, refl, subst, Option, Some, None}
use Rattle.sail_base.specs.declared.place.Place.{Place}
use Rattle.sail_types.specs.declared.shapes.Shape.{Shape, Shape-F, out-Shape, roll-Shape}
use Rattle.sail_types.specs.declared.shapes.Shape.TheOpen as S
use Rattle.sail_types.specs.declared.shapes.Shape.TheVariants as V
use Rattle.sail_types.specs.declared.shapes.Shape.TheViews.{out-roll-Shape, roll-out-Shape}
use Rattle.sail_types.specs.declared.values.Value.{Value}
use Rattle.sail_core.specs.declared.tree.Core.{Core}
use Rattle.sail_core.specs.Making.{World}
use Rattle.shape_joins.specs.Filling.{fills}
use Rattle.shape_rules.specs.declared.locals.Local.{Local}
use Rattle.shape_rules.specs.Findings.{Found, given_on}
use Rattle.shape_rules.specs.Scopes.{Locals}
use Rattle.shape_rules.specs.Targets.{IndexPart, Led, Part, base_faults, cores_of, faults_of, index_found, is_open, led_index, led_shape}
use Rattle.shape_rules.specs.Values.{ends_found, update_found, update_kind, updated_shape}
use Rattle.shape_meanings.specs.Keeping.{SeenAs, reach_of}
use Rattle.shape_meanings.specs.Whole.{Choice}
use Rattle.shape_meanings.proofs.Branches.{given_over}
use Rattle.shape_meanings.proofs.Suffixes.{open_fits}
use Rattle.shape_meanings.proofs.Updates.{bit_exact, bits_exact, vector_fills}
use Rattle.shape_meanings.proofs.Walks.{no_part}
use Rattle.shape_progress.specs.Rules.{NeverGives}
use Rattle.shape_stands.specs.Inside.{Inside, Position}
use Rattle.shape_stands.specs.Stands.{HasShape, IndexStands, IsShapedAt, MaybeStandsAt, Shaped, StandsAt}
use Rattle.shape_stands.proofs.Standing.{Ruled, both_empty, filled, has_wanted, settled_node}
use Rattle.form_stands.proofs.Suffixes.{integer_shaped}

-- ---- shapes

out_vector : (t : Shape) → out-Shape (V.Vector t) ≡ S.Vector t
out_vector t = ap out-Shape (sym (V.rolls-Vector t)) ∙ out-roll-Shape (S.Vector t)

is_rolled : (s : Shape) (y : Shape-F Shape) (t : Shape) → out-Shape s ≡ y → roll-Shape y ≡ t → s ≡ t
is_rolled s y t is rolls = sym (roll-out-Shape s) ∙ ap roll-Shape is ∙ rolls

-- ---- a base of which nothing is known

-- it never gives a value
abbrev pub Never : Position → Locals → Core → Type 0
Never here locals core =
    (registers : List Shape) (c : Choice) (w : World Value) → Inside here registers c w → (slots : List Local) → SeenAs slots locals
    → NeverGives (HasShape w) (reach_of here.setting registers c slots) core

pub never_gives : (here : Position) (locals : Locals) (at_base : Place) (a : Found) → base_faults at_base a.shape None ≡ []
    → Shaped here locals a.shape a.core → Never here locals a.core
never_gives here locals at_base a e h =
    let open_base = no_part at_base a.shape (is_open a.shape) refl e in
    λ registers c w inside slots seen.
    (a.shape, h registers c w inside slots seen, λ v fit. open_fits here.setting.types c a.shape v open_base fit)

-- ---- over its parts

pub update_shaped : (here : Position) (locals : Locals) (place : Place) (base : Part) (index : IndexPart) (value : Part) → StandsAt here locals base.elaborate
    → IndexStands here locals index → StandsAt here locals value.elaborate → IsShapedAt here locals (update_found place base index value)
update_shaped here locals place base index value stand is put want e =
    let h = both_empty (((a.faults ++ base_faults base.place a.shape led) ++ faults_of ends) ++ found.faults) _ e in
    let h2 = both_empty ((a.faults ++ base_faults base.place a.shape led) ++ faults_of ends) found.faults h.0 in
    let h3 = both_empty (a.faults ++ base_faults base.place a.shape led) (faults_of ends) h2.0 in
    let h4 = both_empty a.faults (base_faults base.place a.shape led) h3.0 in
    settled_node here locals place place want (updated_shape index.last (out-Shape a.shape) a.shape found.shape) (λ s. update_kind index.last)
    (a.core ∷ cores_of ends ++ found.core ∷ []) h.1
    (λ t. shapes index.last (out-Shape a.shape) refl is.1 h4.1 h3.1 h2.1 (stand V.Never h4.0).1)
  where
    a : Found
    a = base.elaborate here.setting locals V.Never

    led : Option Led
    led = led_index index.last (out-Shape a.shape)

    ends : List Found
    ends = ends_found index here.setting locals

    found : Found
    found = value.elaborate here.setting locals (led_shape led)

    one : Found
    one = index.first.elaborate here.setting locals V.Int

    new : Option Part → Shape-F Shape → Found
    new low y = value.elaborate here.setting locals (led_shape (led_index low y))

    first_has : (low : Option Part) → faults_of (one ∷ index_found low here.setting locals) ≡ [] → Shaped here locals V.Int one.core
    first_has low h = integer_shaped here locals one (is.0 V.Int (both_empty one.faults (faults_of (index_found low here.setting locals)) h).0)

    last_has : (low : Part) → StandsAt here locals low.elaborate → faults_of (one ∷ index_found (Some low) here.setting locals) ≡ []
        → Shaped here locals V.Int (low.elaborate here.setting locals V.Int).core
    last_has low stands h =
        let other : Found = low.elaborate here.setting locals V.Int in
        let k = both_empty one.faults (other.faults ++ []) h in
        let k2 = both_empty other.faults [] k.1 in
        integer_shaped here locals other (stands V.Int k2.0)

    shapes : (low : Option Part) (y : Shape-F Shape) → out-Shape a.shape ≡ y → MaybeStandsAt here locals low
        → base_faults base.place a.shape (led_index low y) ≡ [] → faults_of (one ∷ index_found low here.setting locals) ≡ [] → (new low y).faults ≡ []
        → Shaped here locals a.shape a.core
        → Ruled here locals (updated_shape low y a.shape (new low y).shape) (update_kind low)
        (a.core ∷ cores_of (one ∷ index_found low here.setting locals) ++ (new low y).core ∷ [])
    shapes None S.Bits same maybe b f g has =
        let item = has_wanted here locals V.Bit V.Bit (new None S.Bits) (bit_exact (new None S.Bits).shape) (put V.Bit g) in
        λ registers c w inside slots seen. inr (
          has registers c w inside slots seen,
          first_has None f registers c w inside slots seen,
          (V.Bit, inl (same, refl), item registers c w inside slots seen),
        )
    shapes None (S.Vector t) same maybe b f g has =
        let r = put t g in
        let item : Shape = given_on t (new None (S.Vector t)).shape in
        let given = given_over t (new None (S.Vector t)).shape r.0 in
        let above = subst (λ s. fills s (V.Vector item) ≡ true) (sym (is_rolled a.shape (S.Vector t) (V.Vector t) same (V.rolls-Vector t)))
        (vector_fills t item given.0) in
        let whole = filled here locals a.shape (V.Vector item) a.core above has in
        let part = filled here locals (new None (S.Vector t)).shape item (new None (S.Vector t)).core given.1 r.1 in
        λ registers c w inside slots seen. inr (
          whole registers c w inside slots seen,
          first_has None f registers c w inside slots seen,
          (item, inr (out_vector item), part registers c w inside slots seen),
        )
    shapes (Some low) S.Bits same maybe b f g has =
        let bits = has_wanted here locals V.Bits V.Bits (new (Some low) S.Bits) (bits_exact (new (Some low) S.Bits).shape) (put V.Bits g) in
        λ registers c w inside slots seen. inr (
          same,
          has registers c w inside slots seen,
          first_has (Some low) f registers c w inside slots seen,
          last_has low maybe f registers c w inside slots seen,
          bits registers c w inside slots seen,
        )
    shapes None y same maybe b f g has = λ registers c w inside slots seen. inl (never_gives here locals base.place a b has registers c w inside slots seen)
    shapes (Some low) y same maybe b f g has =
        λ registers c w inside slots seen. inl (never_gives here locals base.place a b has registers c w inside slots seen)
