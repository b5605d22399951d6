-- Values of parameters give each type variable its number or truth, where it stands alone in one of them, or in a part of one.
use Rattle.std.proofs.Common.{◌≡◌, ℕ, zero, suc, ◌+◌, ◌<◌, nat_eq, pos, List, [], ◌∷◌, map, length, ap, sym, ◌∙◌, refl, subst, Bool, true, false, ◌||◌}
use Rattle.std.proofs.Common.{Option, Some, None, option_map, arith}
use Rattle.std.proofs.lemmas.Bool.{and_parts}
use Rattle.std.specs.List.{list_any}
use Rattle.std.specs.Ordering.{int_eq}
use Rattle.sail_types.specs.Places.{Given, Placed, a_bool, among, an_int, atom_is, first, form_is, form_place, is_variable, only, placed, placed_form}
use Rattle.sail_types.specs.Places.{terms_are}
use Rattle.sail_types.specs.Readings.{more}
use Rattle.sail_types.specs.Shapes.{each_fits, fits, form_shape, put, shape}
use Rattle.sail_types.specs.Sums.{constant_of, terms_of}
use Rattle.sail_types.specs.declared.numbers.Atom.{Atom, out-Atom}
use Rattle.sail_types.specs.declared.numbers.Atom.TheOpen as N
use Rattle.sail_types.specs.declared.numbers.Atom.TheOpen.{Atom-F}
use Rattle.sail_types.specs.declared.numbers.Con.{Con, Con-F, out-Con}
use Rattle.sail_types.specs.declared.numbers.Con.TheOpen as C
use Rattle.sail_types.specs.declared.numbers.Num.{Num, out-Num}
use Rattle.sail_types.specs.declared.numbers.Term.{Term, out-Term}
use Rattle.sail_types.specs.declared.shapes.Shape.{Shape, out-Shape}
use Rattle.sail_types.specs.declared.shapes.Shape.TheOpen as S
use Rattle.sail_types.specs.declared.shapes.Shape.TheVariants as V
use Rattle.sail_types.specs.declared.shapes.Shape.TheViews.{out-roll-Shape}
use Rattle.sail_types.specs.declared.table.Types.{Types}
use Rattle.sail_types.specs.declared.types.Typ.{Typ, Typ-F, out-Typ}
use Rattle.sail_types.specs.declared.types.Typ.TheFolds.{fold_out-Typ, map-Typ}
use Rattle.sail_types.specs.declared.types.Typ.TheOpen as T
use Rattle.sail_types.specs.declared.values.Value.{Value, out-Value}
use Rattle.sail_core.specs.Numbers.{Givens, givens_from, givens_of}
use Rattle.shape_joins.proofs.Order.{equal, no, same_nat, two}
use Rattle.shape_rules.specs.Written.{are_once, form_gives, gives_number, holds_alone, is_alone, is_atom_form, part_gives, tells_number}
use Rattle.shape_meanings.specs.Whole.{Choice}
use Rattle.shape_meanings.specs.Keeping.{Fits, FitAll}
use Rattle.shape_meanings.proofs.Matching.{form_given}
use Rattle.shape_meanings.proofs.Opening.{form_tuple}
use Rattle.shape_progress.proofs.Forms.{are_bits, is_integer, is_truth, is_vector, put_out}
use Rattle.model_progress.specs.Shaped.{params_of}

-- ---- a variable that stands alone

turned : (i j : ℕ) → nat_eq i j ≡ true → nat_eq j i ≡ true
turned i j h = subst (λ k. nat_eq k i ≡ true) (equal i j h) (same_nat i)

atom_alone : (j : ℕ) (x : Atom-F Atom Num Term) → is_atom_form j x ≡ true → atom_is j x ≡ true
atom_alone j (N.Variable i) h = turned j i h
atom_alone j (N.Power n) h = no h

terms_alone : (j : ℕ) (ts : List Term) → are_once j ts ≡ true → terms_are j ts ≡ true
terms_alone j [] h = no h
terms_alone j (t ∷ []) h =
    let both = and_parts (int_eq (out-Term t).coefficient (pos 1)) (is_atom_form j (out-Atom (out-Term t).atom)) h in
    two (int_eq (out-Term t).coefficient (pos 1)) (atom_is j (out-Atom (out-Term t).atom)) both.0 (atom_alone j (out-Atom (out-Term t).atom) both.1)
terms_alone j (t ∷ u ∷ ts) h = no h

pub alone : (j : ℕ) (n : Num) → is_alone j n ≡ true → is_variable j n ≡ true
alone j n h =
    let both = and_parts (int_eq (constant_of n) (pos 0)) (are_once j (terms_of n)) h in
    two (int_eq (out-Num n).constant (pos 0)) (terms_are j (out-Num n).terms) both.0 (terms_alone j (terms_of n) both.1)

pub holds : (j : ℕ) (x : Con-F Con) → holds_alone j x ≡ true → form_is j x ≡ true
holds j (C.Holds i) h = turned j i h
holds j x h = no h

-- ---- one type

-- a value gives the variable something
abbrev Gives : (ℕ → Value → Option Given) → ℕ → Value → Type 0
Gives f j v = (g : Given) × (f j v ≡ Some g)

bits_out : out-Shape V.Bits ≡ S.Bits
bits_out = ap out-Shape (sym V.rolls-Bits) ∙ out-roll-Shape S.Bits

vector_out : (s : Shape) → out-Shape (V.Vector s) ≡ S.Vector s
vector_out s = ap out-Shape (sym (V.rolls-Vector s)) ∙ out-roll-Shape (S.Vector s)

tuple_out : (ss : List Shape) → out-Shape (V.Tuple ss) ≡ S.Tuple ss
tuple_out ss = ap out-Shape (sym (V.rolls-Tuple ss)) ∙ out-roll-Shape (S.Tuple ss)

form_there : (types : Types) (c : Choice) (x : Typ-F Typ) (j : ℕ) (v : Value) → form_gives j x ≡ true
    → Fits types c (form_shape (map-Typ Typ Shape (λ t. shape t) x)) v → Gives (placed_form (map-Typ Typ Placed (λ t. placed t) x)) j v
form_there types c (T.Int n) j v h fit =
    let z = is_integer types c v fit in
    (an_int z.0, ap (form_place (T.Int n) j) z.1 ∙ ap (λ b. only b (an_int z.0)) (alone j n h))
form_there types c (T.Truth con) j v h fit =
    let b = is_truth types c v fit in
    (a_bool b.0, ap (form_place (T.Truth con) j) b.1 ∙ ap (λ q. only q (a_bool b.0)) (holds j (out-Con con) h))
form_there types c (T.Bits n) j v h fit =
    let bs = are_bits types c V.Bits v bits_out fit in
    (an_int (pos (length bs.0)), ap (form_place (T.Bits n) j) bs.1 ∙ ap (λ b. only b (an_int (pos (length bs.0)))) (alone j n h))
form_there types c (T.Vector n t) j v h fit =
    let vs = is_vector types c (V.Vector (shape t)) (shape t) v (vector_out (shape t)) fit in
    (an_int (pos (length vs.0)), ap (form_place (T.Vector n (placed t)) j) vs.1 ∙ ap (λ b. only b (an_int (pos (length vs.0)))) (alone j n h))
form_there types c x j v h fit = no h

shape_at : (t : Typ) → shape t ≡ form_shape (map-Typ Typ Shape (λ u. shape u) (out-Typ t))
shape_at t = fold_out-Typ Shape form_shape t

placed_at : (t : Typ) → placed t ≡ placed_form (map-Typ Typ Placed (λ u. placed u) (out-Typ t))
placed_at t = fold_out-Typ Placed placed_form t

number_there : (types : Types) (c : Choice) (t : Typ) (j : ℕ) (v : Value) → gives_number j t ≡ true → Fits types c (shape t) v → Gives (placed t) j v
number_there types c t j v h fit =
    let r = form_there types c (out-Typ t) j v h (subst (λ s. Fits types c s v) (shape_at t) fit) in
    (r.0, ap (λ f. f j v) (placed_at t) ∙ r.1)

-- ---- one of several

first_there : (o p : Option Given) (g : Given) → p ≡ Some g → (x : Given) × (first o p ≡ Some x)
first_there None p g e = (g, e)
first_there (Some x) p g e = (x, refl)

among_there : (types : Types) (c : Choice) (j : ℕ) (p : Typ → Bool)
    → ((t : Typ) (v : Value) → p t ≡ true → Fits types c (shape t) v → Gives (placed t) j v) → (ts : List Typ) (vs : List Value)
    → FitAll types c (params_of ts) vs → list_any p ts ≡ true → (g : Given) × (among (map (λ t. placed t) ts) j vs ≡ Some g)
among_there types c j p each [] vs fit h = no h
among_there types c j p each (t ∷ ts) [] fit h = no fit
among_there types c j p each (t ∷ ts) (v ∷ vs) fit h =
    let both = and_parts (fits types v (put c (shape t))) (each_fits (map (fits types) vs) (map (put c) (params_of ts))) fit in
    by_first (p t) refl both.0 (λ k. among_there types c j p each ts vs both.1 k) h
  where
    by_first : (b : Bool) → p t ≡ b → Fits types c (shape t) v → (list_any p ts ≡ true → (g : Given) × (among (map (λ u. placed u) ts) j vs ≡ Some g))
        → (b || list_any p ts) ≡ true → (g : Given) × (first (placed t j v) (among (map (λ u. placed u) ts) j vs) ≡ Some g)
    by_first true is fit others h =
        let r = each t v is fit in
        (r.0, ap (λ o. first o (among (map (λ u. placed u) ts) j vs)) r.1)
    by_first false is fit others h =
        let r = others h in
        first_there (placed t j v) (among (map (λ u. placed u) ts) j vs) r.0 r.1

part_there : (types : Types) (c : Choice) (x : Typ-F Typ) (j : ℕ) (v : Value) → part_gives j x ≡ true
    → Fits types c (form_shape (map-Typ Typ Shape (λ t. shape t) x)) v → Gives (placed_form (map-Typ Typ Placed (λ t. placed t) x)) j v
part_there types c (T.Tuple ts) j v h fit =
    let ss : List Shape = params_of ts in
    let f = form_tuple types (out-Value v) (map (put c) ss)
    (form_given types c (V.Tuple ss) (S.Tuple (map (put c) ss)) v (put_out c (V.Tuple ss) (S.Tuple ss) (tuple_out ss)) fit) in
    let r = among_there types c j (gives_number j) (λ t u k fu. number_there types c t j u k fu) ts f.0 f.2 h in
    (r.0, ap (form_place (T.Tuple (map (λ t. placed t) ts)) j) f.1 ∙ r.1)
part_there types c x j v h fit = form_there types c x j v h fit

told : (types : Types) (c : Choice) (t : Typ) (j : ℕ) (v : Value) → tells_number j t ≡ true → Fits types c (shape t) v → Gives (placed t) j v
told types c t j v h fit =
    let r = part_there types c (out-Typ t) j v h (subst (λ s. Fits types c s v) (shape_at t) fit) in
    (r.0, ap (λ f. f j v) (placed_at t) ∙ r.1)

-- ---- all variables

each_given : (n i : ℕ) (ts : List Typ) (vs : List Value) → ((j : ℕ) → j < i + n → (g : Given) × (among (map placed ts) j vs ≡ Some g))
    → (nu : Givens) × (givens_from n i ts vs ≡ Some nu)
each_given zero i ts vs h = ([], refl)
each_given (suc n) i ts vs h =
    let g = h i (omega arith) in
    let r = each_given n (suc i) ts vs (λ j low. h j (omega arith)) in
    (g.0 ∷ r.0, ap (λ o. more o (givens_from n (suc i) ts vs)) g.1 ∙ ap (option_map (λ ys. g.0 ∷ ys)) r.1)

-- each variable that stands alone in a parameter gets its number from values of the parameters' shapes
pub numbers_told : (types : Types) (c : Choice) (n : ℕ) (ts : List Typ) (vs : List Value) → ((j : ℕ) → j < n → list_any (tells_number j) ts ≡ true)
    → FitAll types c (params_of ts) vs → (nu : Givens) × (givens_of n ts vs ≡ Some nu)
numbers_told types c n ts vs h fit =
    each_given n 0 ts vs (λ j low. among_there types c j (tells_number j) (λ t v k fv. told types c t j v k fv) ts vs fit (h j (omega arith)))
