-- Patterns of constructors: the arguments of the union that is matched are those of the constructor's result.
use Rattle.std.proofs.Common.{◌≡◌, ℕ, zero, suc, ◌+◌, List, [], ◌∷◌, map, length, ap, sym, ◌∙◌, refl, Bool, true}
use Rattle.std.proofs.Common.{Some, nat_eq, nat_lt, arith}
use Rattle.std.proofs.lemmas.Bool.{and_parts}
use Rattle.sail_base.specs.declared.place.Place.{Place}
use Rattle.sail_types.specs.Shapes.{at, put, shape, form_shape}
use Rattle.sail_types.specs.declared.shapes.Shape.{Shape, Shape-F, out-Shape, roll-Shape}
use Rattle.sail_types.specs.declared.shapes.Shape.TheFolds.{fold-roll-Shape}
use Rattle.sail_types.specs.declared.shapes.Shape.TheOpen as S
use Rattle.sail_types.specs.declared.shapes.Shape.TheVariants as V
use Rattle.sail_types.specs.declared.shapes.Shape.TheViews.{out-roll-Shape, roll-out-Shape}
use Rattle.sail_types.specs.declared.table.Types.{Types}
use Rattle.sail_types.specs.declared.types.Typ.{Typ, Typ-F, out-Typ, roll-Typ}
use Rattle.sail_types.specs.declared.types.Typ.TheFolds.{fold-roll-Typ}
use Rattle.sail_types.specs.declared.types.Typ.TheViews.{roll-out-Typ}
use Rattle.sail_types.specs.declared.types.Typ.TheOpen as T
use Rattle.sail_types.specs.declared.values.Value.{Value}
use Rattle.shape_joins.specs.Joins.{join}
use Rattle.shape_joins.specs.Filling.{fills, fill_form, fill_all}
use Rattle.shape_joins.specs.Learning.{learn}
use Rattle.shape_joins.proofs.Order.{no, two, equal, tests, at_forms, fills_itself}
use Rattle.shape_joins.proofs.Learnt.{learning_fills}
use Rattle.shape_rules.specs.Patterns.{nevers, shape_faults}
use Rattle.shape_rules.specs.Targets.{is_open_form}
use Rattle.shape_meanings.specs.Whole.{Choice, below, below_form, all_below}
use Rattle.shape_meanings.specs.Keeping.{Fits}
use Rattle.shape_meanings.specs.Worlds.{variables_from, is_payload_form}
use Rattle.shape_meanings.proofs.Orders.{puts}
use Rattle.shape_meanings.proofs.Learning.{taught}
use Rattle.shape_meanings.proofs.Suffixes.{open_fits}
use Rattle.shape_meanings.proofs.Opening.{joined_is}

-- ---- variables in order, with shapes in their place

put_variable : (e : ℕ → Shape) (i : ℕ) → put e (V.Variable i) ≡ e i
put_variable e i = ap (put e) (sym (V.rolls-Variable i)) ∙ puts e (S.Variable i)

one_on : (k : Shape) (ks : List Shape) (i n : ℕ) → map (put (at (k ∷ ks))) (variables_from (suc i) n) ≡ map (put (at ks)) (variables_from i n)
one_on k ks i zero = refl
one_on k ks i (suc n) =
    λ j. (put_variable (at (k ∷ ks)) (suc i) ∙ sym (put_variable (at ks) i)) j ∷ one_on k ks (suc i) n j

pub variables_put : (ks : List Shape) (n : ℕ) → length ks ≡ n → map (put (at ks)) (variables_from 0 n) ≡ ks
variables_put [] zero many = refl
variables_put [] (suc n) many = absurd (zero_not n many)
  where
    zero_not : (n : ℕ) → zero ≡ suc n → ⊥
    zero_not n h = grind (arith, h)
variables_put (k ∷ ks) zero many = absurd (not_zero (length ks) many)
  where
    not_zero : (n : ℕ) → suc n ≡ zero → ⊥
    not_zero n h = grind (arith, h)
variables_put (k ∷ ks) (suc n) many =
    λ j. put_variable (at (k ∷ ks)) 0 j ∷ (one_on k ks 0 n ∙ variables_put ks n (one_less (length ks) n many)) j
  where
    one_less : (n k : ℕ) → suc n ≡ suc k → n ≡ k
    one_less n k h = grind (arith, h)

-- so many variables from one on are below the one behind them
variable_below : (n i : ℕ) → nat_lt i n ≡ true → below n (V.Variable i) ≡ true
variable_below n i h = ap (below n) (sym (V.rolls-Variable i)) ∙ fold-roll-Shape Bool (below_form n) (S.Variable i) ∙ h

variables_below : (i n m : ℕ) → (i + n) ≡ m → all_below m (variables_from i n) ≡ true
variables_below i zero m is = refl
variables_below i (suc n) m is =
    two (below m (V.Variable i)) (all_below m (variables_from (suc i) n)) (variable_below m i (less i n m is)) (variables_below (suc i) n m (moved i n m is))
  where
    less : (i n m : ℕ) → (i + suc n) ≡ m → nat_lt i m ≡ true
    less i n m is = grind (arith, is)

    moved : (i n m : ℕ) → (i + suc n) ≡ m → (suc i + n) ≡ m
    moved i n m is = omega (arith, is)

named_below : (n u : ℕ) (ss : List Shape) → all_below n ss ≡ true → below n (V.Named u ss) ≡ true
named_below n u ss h = ap (below n) (sym (V.rolls-Named u ss)) ∙ fold-roll-Shape Bool (below_form n) (S.Named u ss) ∙ h

pub named_puts : (e : ℕ → Shape) (u : ℕ) (ss : List Shape) → put e (V.Named u ss) ≡ V.Named u (map (put e) ss)
named_puts e u ss = ap (put e) (sym (V.rolls-Named u ss)) ∙ puts e (S.Named u ss) ∙ V.rolls-Named u (map (put e) ss)

out_named : (u : ℕ) (ss : List Shape) → out-Shape (V.Named u ss) ≡ S.Named u ss
out_named u ss = ap out-Shape (sym (V.rolls-Named u ss)) ∙ out-roll-Shape (S.Named u ss)

-- ---- what is learnt of a union that is matched

pub nevers_count : (n : ℕ) → length (nevers n) ≡ n
nevers_count zero = refl
nevers_count (suc n) = ap suc (nevers_count n)

never_below : (t : Shape) → fills V.Never t ≡ true
never_below t = at_forms V.Never t ∙ ap (λ y. fill_form (tests y) (out-Shape t)) (ap out-Shape (sym V.rolls-Never) ∙ out-roll-Shape S.Never)

nevers_lower : (n : ℕ) (ss : List Shape) → length ss ≡ n → (i : ℕ) → fills (at (nevers n) i) (at ss i) ≡ true
nevers_lower zero [] many i = fills_itself (at [] i)
nevers_lower zero (s ∷ ss) many i = absurd (not_zero (length ss) many)
  where
    not_zero : (n : ℕ) → suc n ≡ zero → ⊥
    not_zero n h = grind (arith, h)
nevers_lower (suc n) [] many i = absurd (zero_not n many)
  where
    zero_not : (n : ℕ) → zero ≡ suc n → ⊥
    zero_not n h = grind (arith, h)
nevers_lower (suc n) (s ∷ ss) many zero = never_below s
nevers_lower (suc n) (s ∷ ss) many (suc i) = nevers_lower n ss (one_less (length ss) n many) i
  where
    one_less : (n k : ℕ) → suc n ≡ suc k → n ≡ k
    one_less n k h = grind (arith, h)

pub fill_count : (ss ts : List Shape) → fill_all ss ts ≡ true → length ts ≡ length ss
fill_count [] [] h = refl
fill_count [] (t ∷ ts) h = no h
fill_count (s ∷ ss) [] h = no h
fill_count (s ∷ ss) (t ∷ ts) h = ap suc (fill_count ss ts (and_parts (fills s t) (fill_all ss ts) h).1)

-- a union of so many arguments, of which something can be learnt
abbrev pub UnionIs : Shape → ℕ → ℕ → Type 0
UnionIs subject u n = (ss : List Shape) × (out-Shape subject ≡ S.Named u ss) × (length ss ≡ n)

-- what the arguments of a union teach of a constructor's variables: the arguments, with what was open in them filled
pub union_taught : (subject answer : Shape) (u n : ℕ) → answer ≡ V.Named u (variables_from 0 n) → (is : UnionIs subject u n)
    → (known : List Shape) × (learn answer subject (nevers n) ≡ Some known) × (fill_all is.0 known ≡ true)
union_taught subject answer u n made is =
    let ss : List Shape = is.0 in
    let vars : List Shape = variables_from 0 n in
    let same : subject ≡ V.Named u ss = sym (roll-out-Shape subject) ∙ ap roll-Shape is.1 ∙ V.rolls-Named u ss in
    let own : put (at ss) answer ≡ subject = ap (put (at ss)) made ∙ named_puts (at ss) u vars ∙ ap (V.Named u) (variables_put ss n is.2) ∙ sym same in
    let whole : below n answer ≡ true = ap (below n) made ∙ named_below n u vars (variables_below 0 n n (nothing_plus n)) in
    let t = taught answer n (at ss) subject whole (ap (fills subject) own ∙ fills_itself subject) (nevers n)
    (record { count = nevers_count n; lower = nevers_lower n ss is.2 }) in
    let l = learning_fills answer subject (nevers n) t.0 t.1 in
    let later : put (at t.0) answer ≡ V.Named u t.0 =
    ap (put (at t.0)) made ∙ named_puts (at t.0) u vars ∙ ap (V.Named u) (variables_put t.0 n t.2.count) in
    let over : fill_form (tests (S.Named u ss)) (S.Named u t.0) ≡ true =
    ap (λ y. fill_form (tests y) (S.Named u t.0)) (sym is.1) ∙ ap (fill_form (tests (out-Shape subject))) (sym (out_named u t.0))
    ∙ sym (at_forms subject (V.Named u t.0)) ∙ ap (fills subject) (sym later) ∙ l.1 in
    (t.0, t.1, (and_parts (nat_eq u u) (fill_all ss t.0) over).1)
  where
    nothing_plus : (n : ℕ) → (0 + n) ≡ n
    nothing_plus n = omega arith

-- a shape that is joined with a union's, and that has a value, is that of the union
union_step : (subject t : Shape) (u n : ℕ) (y z : Shape-F Shape) → out-Shape subject ≡ y → fill_form (tests (S.Named u (nevers n))) z ≡ true
    → fill_form (tests y) z ≡ true → (is_open_form y ≡ true → ⊥) → UnionIs subject u n
union_step subject t u n (S.Named j ss) (S.Named i ts) is h k hollow =
    let h2 = and_parts (nat_eq u i) (fill_all (nevers n) ts) h in
    let k2 = and_parts (nat_eq j i) (fill_all ss ts) k in (
      ss,
      is ∙ ap (λ m. S.Named m ss) (equal j i k2.0 ∙ sym (equal u i h2.0)),
      sym (fill_count ss ts k2.1) ∙ fill_count (nevers n) ts h2.1 ∙ nevers_count n,
    )
union_step subject t u n S.Hole z is h k hollow = absurd (hollow refl)
union_step subject t u n S.Never z is h k hollow = absurd (hollow refl)
union_step subject t u n y (S.Named i ts) is h k hollow = no k
union_step subject t u n y z is h k hollow = no h

pub is_union : (types : Types) (c : Choice) (place : Place) (subject : Shape) (u n : ℕ) (v : Value)
    → shape_faults place subject (V.Named u (nevers n)) ≡ [] → Fits types c subject v → UnionIs subject u n
is_union types c place subject u n v e fit =
    let j = joined_is place subject (V.Named u (nevers n)) (join (V.Named u (nevers n)) subject) refl e in
    union_step subject j.0 u n (out-Shape subject) (out-Shape j.0) refl
    (ap (λ y. fill_form (tests y) (out-Shape j.0)) (sym (out_named u (nevers n))) ∙ sym (at_forms (V.Named u (nevers n)) j.0) ∙ j.2)
    (sym (at_forms subject j.0) ∙ j.3) (λ hollow. open_fits types c subject v hollow fit)

-- ---- the payload

-- a payload of a tuple has its parts, and another one is one part
abbrev Payload : Typ → Typ-F Typ → Type 0
Payload t form = (out-Typ t ≡ form) × (is_payload_form form ≡ true)

pub shape_of_tuple : (t : Typ) (ts : List Typ) → out-Typ t ≡ T.Tuple ts → shape t ≡ V.Tuple (map shape ts)
shape_of_tuple t ts is = ap shape (sym (roll-out-Typ t) ∙ ap roll-Typ is) ∙ fold-roll-Typ Shape form_shape (T.Tuple ts)

pub tuple_puts : (e : ℕ → Shape) (ss : List Shape) → put e (V.Tuple ss) ≡ V.Tuple (map (put e) ss)
tuple_puts e ss = ap (put e) (sym (V.rolls-Tuple ss)) ∙ puts e (S.Tuple ss) ∙ V.rolls-Tuple (map (put e) ss)
