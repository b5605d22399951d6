-- A shape to which values come where a pattern of a shape of its own stands: what both are together.
use Rattle.std.proofs.Common.{◌≡◌, ◌⊎◌, inl, inr, ℕ, List, [], map, length, replicate, ap, sym, ◌∙◌, refl, subst, true, Some, nat_eq}
use Rattle.std.proofs.lemmas.Bool.{and_parts}
use Rattle.sail_base.specs.declared.place.Place.{Place}
use Rattle.sail_types.specs.Shapes.{at, put}
use Rattle.sail_types.specs.declared.shapes.Shape.{Shape, Shape-F, out-Shape, roll-Shape}
use Rattle.sail_types.specs.declared.shapes.Shape.TheFolds.{fold-roll-Shape}
use Rattle.sail_types.specs.declared.shapes.Shape.TheOpen as S
use Rattle.sail_types.specs.declared.shapes.Shape.TheVariants as V
use Rattle.sail_types.specs.declared.shapes.Shape.TheViews.{out-roll-Shape}
use Rattle.shape_joins.specs.Filling.{fills, fill_all, fill_form}
use Rattle.shape_joins.specs.Joins.{join}
use Rattle.shape_joins.specs.Learning.{Learns, learn, learn_form}
use Rattle.shape_joins.proofs.Order.{at_forms, equal, fills_itself, no, same_nat, tests, two}
use Rattle.shape_rules.specs.Patterns.{known_or_nevers, list_item, nevers, seen_as, shape_faults, tuple_parts, vector_item}
use Rattle.shape_rules.specs.Targets.{is_open_form}
use Rattle.shape_meanings.specs.Whole.{below}
use Rattle.shape_meanings.specs.Worlds.{variables_from}
use Rattle.shape_meanings.proofs.Aims.{tuple_above}
use Rattle.shape_meanings.proofs.Constructing.{UnionIs, named_puts, nevers_count, union_taught, variables_put, fill_count}
use Rattle.shape_meanings.proofs.Opening.{joined_is, replicated}
use Rattle.shape_meanings.proofs.Orders.{exact}

-- ---- shapes by their forms

pub out_of : (x : Shape-F Shape) (s : Shape) → roll-Shape x ≡ s → out-Shape s ≡ x
out_of x s e = ap out-Shape (sym e) ∙ out-roll-Shape x

-- one shape is another one, once filled
filled_as : (s t : Shape) (y x : Shape-F Shape) → out-Shape s ≡ y → roll-Shape x ≡ t → fill_form (tests y) x ≡ true → fills s t ≡ true
filled_as s t y x is e h = at_forms s t ∙ ap (λ z. fill_form (tests z) (out-Shape t)) is ∙ ap (fill_form (tests y)) (out_of x t e) ∙ h

-- what fills a shape of a form fills the form
form_filled : (s t : Shape) (x : Shape-F Shape) → roll-Shape x ≡ s → fills s t ≡ true → fill_form (tests x) (out-Shape t) ≡ true
form_filled s t x e h = ap (λ y. fill_form (tests y) (out-Shape t)) (sym (out_of x s e)) ∙ sym (at_forms s t) ∙ h

-- ---- what both are

-- it is each of them, once filled
pub seen : (place : Place) (subject own : Shape) → shape_faults place subject own ≡ []
    → (fills own (seen_as subject own) ≡ true) × (fills subject (seen_as subject own) ≡ true)
seen place subject own e =
    let j = joined_is place subject own (join own subject) refl e in
    (subst (λ t. fills own t ≡ true) (sym j.1) j.2, subst (λ t. fills subject t ≡ true) (sym j.1) j.3)

-- a shape that leaves nothing open is what comes to its pattern, once filled
pub comes_as : (place : Place) (subject own : Shape) (n : ℕ) → below n own ≡ true → shape_faults place subject own ≡ [] → fills subject own ≡ true
comes_as place subject own n whole e =
    let s = seen place subject own e in
    subst (λ t. fills subject t ≡ true) (exact own (seen_as subject own) n s.0 whole) s.1

-- ---- tuples

abbrev pub tuple_of : ℕ → Shape
tuple_of n = V.Tuple (replicate n V.Never)

tuple_form : (y : Shape-F Shape) (ss : List Shape) → y ≡ S.Tuple ss → y ≡ S.Tuple (tuple_parts y)
tuple_form y ss is = subst (λ z. z ≡ S.Tuple (tuple_parts z)) (sym is) refl

-- a tuple of as many parts
pub tuple_seen : (place : Place) (subject : Shape) (n : ℕ) → shape_faults place subject (tuple_of n) ≡ []
    → (out-Shape (seen_as subject (tuple_of n)) ≡ S.Tuple (tuple_parts (out-Shape (seen_as subject (tuple_of n)))))
    × (length (tuple_parts (out-Shape (seen_as subject (tuple_of n)))) ≡ n)
tuple_seen place subject n e =
    let t : Shape = seen_as subject (tuple_of n) in
    let a = tuple_above (replicate n V.Never) t (seen place subject (tuple_of n) e).0 in (
      tuple_form (out-Shape t) a.0 a.1,
      ap (λ y. length (tuple_parts y)) a.1 ∙ fill_count (replicate n V.Never) a.0 a.2 ∙ replicated n V.Never,
    )

-- ---- lists and vectors: their items, of which nothing is known where nothing is known of what comes

list_step : (subject : Shape) (y z : Shape-F Shape) → out-Shape subject ≡ y → fill_form (tests (S.List V.Never)) z ≡ true → fill_form (tests y) z ≡ true
    → fills subject (V.List (list_item y)) ≡ true
list_step subject (S.List s) (S.List x) is h k = filled_as subject (V.List s) (S.List s) (S.List s) is (V.rolls-List s) (fills_itself s)
list_step subject S.Hole (S.List x) is h k = filled_as subject (V.List V.Never) S.Hole (S.List V.Never) is (V.rolls-List V.Never) refl
list_step subject S.Never (S.List x) is h k = filled_as subject (V.List V.Never) S.Never (S.List V.Never) is (V.rolls-List V.Never) refl
list_step subject y (S.List x) is h k = no k
list_step subject y z is h k = no h

pub list_seen : (place : Place) (subject : Shape) → shape_faults place subject (V.List V.Never) ≡ []
    → fills subject (V.List (list_item (out-Shape subject))) ≡ true
list_seen place subject e =
    let s = seen place subject (V.List V.Never) e in
    let t : Shape = seen_as subject (V.List V.Never) in
    list_step subject (out-Shape subject) (out-Shape t) refl (form_filled (V.List V.Never) t (S.List V.Never) (V.rolls-List V.Never) s.0)
    (sym (at_forms subject t) ∙ s.1)

vector_step : (subject : Shape) (y z : Shape-F Shape) → out-Shape subject ≡ y → fill_form (tests (S.Vector V.Never)) z ≡ true
    → fill_form (tests y) z ≡ true → fills subject (V.Vector (vector_item y)) ≡ true
vector_step subject (S.Vector s) (S.Vector x) is h k = filled_as subject (V.Vector s) (S.Vector s) (S.Vector s) is (V.rolls-Vector s) (fills_itself s)
vector_step subject S.Hole (S.Vector x) is h k = filled_as subject (V.Vector V.Never) S.Hole (S.Vector V.Never) is (V.rolls-Vector V.Never) refl
vector_step subject S.Never (S.Vector x) is h k = filled_as subject (V.Vector V.Never) S.Never (S.Vector V.Never) is (V.rolls-Vector V.Never) refl
vector_step subject y (S.Vector x) is h k = no k
vector_step subject y z is h k = no h

pub vector_seen : (place : Place) (subject : Shape) → shape_faults place subject (V.Vector V.Never) ≡ []
    → fills subject (V.Vector (vector_item (out-Shape subject))) ≡ true
vector_seen place subject e =
    let s = seen place subject (V.Vector V.Never) e in
    let t : Shape = seen_as subject (V.Vector V.Never) in
    vector_step subject (out-Shape subject) (out-Shape t) refl (form_filled (V.Vector V.Never) t (S.Vector V.Never) (V.rolls-Vector V.Never) s.0)
    (sym (at_forms subject t) ∙ s.1)

-- ---- unions

union_step : (subject : Shape) (u n : ℕ) (y z : Shape-F Shape) → out-Shape subject ≡ y → fill_form (tests (S.Named u (nevers n))) z ≡ true
    → fill_form (tests y) z ≡ true → UnionIs subject u n ⊎ (is_open_form y ≡ true)
union_step subject u n (S.Named j ss) (S.Named i ts) is h k =
    let h2 = and_parts (nat_eq u i) (fill_all (nevers n) ts) h in
    let k2 = and_parts (nat_eq j i) (fill_all ss ts) k in
    inl (
      ss,
      is ∙ ap (λ m. S.Named m ss) (equal j i k2.0 ∙ sym (equal u i h2.0)),
      sym (fill_count ss ts k2.1) ∙ fill_count (nevers n) ts h2.1 ∙ nevers_count n,
    )
union_step subject u n S.Hole z is h k = inr refl
union_step subject u n S.Never z is h k = inr refl
union_step subject u n y (S.Named i ts) is h k = no k
union_step subject u n y z is h k = no h

-- a shape of which nothing is known teaches nothing, and can be each union
nothing_learnt : (u : ℕ) (ss known : List Shape) (subject : Shape) → is_open_form (out-Shape subject) ≡ true
    → learn (V.Named u ss) subject known ≡ Some known
nothing_learnt u ss known subject h =
    ap (λ p. learn p subject known) (sym (V.rolls-Named u ss))
    ∙ ap (λ f. f subject known) (fold-roll-Shape Learns (λ p s k. learn_form p s (out-Shape s) k) (S.Named u ss))
    ∙ by_form (out-Shape subject) h
  where
    by_form : (y : Shape-F Shape) → is_open_form y ≡ true → learn_form (S.Named u (map learn ss)) subject y known ≡ Some known
    by_form S.Hole h = refl
    by_form S.Never h = refl
    by_form y h = no h

nothing_known : (subject : Shape) (u : ℕ) (ss : List Shape) (y : Shape-F Shape) → out-Shape subject ≡ y → is_open_form y ≡ true
    → fills subject (V.Named u ss) ≡ true
nothing_known subject u ss S.Hole is h = filled_as subject (V.Named u ss) S.Hole (S.Named u ss) is (V.rolls-Named u ss) refl
nothing_known subject u ss S.Never is h = filled_as subject (V.Named u ss) S.Never (S.Named u ss) is (V.rolls-Named u ss) refl
nothing_known subject u ss y is h = no h

-- the union of a constructor's result, with what is learnt of its arguments
pub union_seen : (place : Place) (subject answer : Shape) (u n : ℕ) → answer ≡ V.Named u (variables_from 0 n)
    → shape_faults place subject (put (at (nevers n)) answer) ≡ []
    → fills subject (V.Named u (known_or_nevers n (learn answer subject (nevers n)))) ≡ true
union_seen place subject answer u n made e =
    let own : put (at (nevers n)) answer ≡ V.Named u (nevers n) =
    ap (put (at (nevers n))) made ∙ named_puts (at (nevers n)) u (variables_from 0 n) ∙ ap (V.Named u) (variables_put (nevers n) n (nevers_count n)) in
    let s = seen place subject (V.Named u (nevers n)) (subst (λ t. shape_faults place subject t ≡ []) own e) in
    let t : Shape = seen_as subject (V.Named u (nevers n)) in
    by_form (union_step subject u n (out-Shape subject) (out-Shape t) refl
    (form_filled (V.Named u (nevers n)) t (S.Named u (nevers n)) (V.rolls-Named u (nevers n)) s.0) (sym (at_forms subject t) ∙ s.1))
  where
    by_form : UnionIs subject u n ⊎ (is_open_form (out-Shape subject) ≡ true)
        → fills subject (V.Named u (known_or_nevers n (learn answer subject (nevers n)))) ≡ true
    by_form (inl union) =
        let taught = union_taught subject answer u n made union in
        subst (λ o. fills subject (V.Named u (known_or_nevers n o)) ≡ true) (sym taught.1)
        (filled_as subject (V.Named u taught.0) (S.Named u union.0) (S.Named u taught.0) union.1 (V.rolls-Named u taught.0)
        (two (nat_eq u u) (fill_all union.0 taught.0) (same_nat u) taught.2))
    by_form (inr hollow) =
        subst (λ o. fills subject (V.Named u (known_or_nevers n o)) ≡ true)
        (sym (ap (λ a. learn a subject (nevers n)) made ∙ nothing_learnt u (variables_from 0 n) (nevers n) subject hollow))
        (nothing_known subject u (nevers n) (out-Shape subject) refl hollow)
