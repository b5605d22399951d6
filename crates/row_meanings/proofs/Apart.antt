-- Members of a builtin, and of an operator, share no values.
use Rattle.std.proofs.Common.{◌≡◌, ℕ, suc, ◌<◌, List, [], ◌∷◌, ◌++◌, map, ap, sym, ◌∙◌, refl, subst, Bool, true, false, not, ◌&&◌, nat_eq, arith}
use Rattle.std.proofs.Common.{append-nil, if◌then◌else◌}
use Rattle.std.proofs.lemmas.Bool.Decides.{nat_tests}
use Rattle.sail_base.specs.declared.operators.Operator.{Operator}
use Rattle.sail_base.specs.declared.operators.Operator.TheVariants as O
use Rattle.sail_base.specs.declared.operators.Prefix.{Prefix}
use Rattle.sail_base.specs.declared.operators.Prefix.TheVariants as P
use Rattle.sail_types.specs.Rows.{row_members, members_of, operator_rows, prefix_rows, comparison, comparable, enums_from, is_enum}
use Rattle.sail_types.specs.Shapes.{shares, each_shares, form_shares}
use Rattle.sail_types.specs.declared.rows.Row.{Row}
use Rattle.sail_types.specs.declared.rows.Row.TheVariants as B
use Rattle.sail_types.specs.declared.shapes.Shape.{Shape, Shape-F, out-Shape, roll-Shape}
use Rattle.sail_types.specs.declared.shapes.Shape.TheFolds.{map-Shape}
use Rattle.sail_types.specs.declared.shapes.Shape.TheOpen as S
use Rattle.sail_types.specs.declared.shapes.Shape.TheVariants as V
use Rattle.sail_types.specs.declared.shapes.Shape.TheViews.{out-roll-Shape}
use Rattle.sail_types.specs.declared.table.Definition.{Definition}
use Rattle.sail_types.specs.declared.table.Types.{Types}
use Rattle.shape_joins.specs.Numbering.{overlaps, all_alike}
use Rattle.shape_rules.specs.declared.callees.Candidate.{Candidate}
use Rattle.shape_rules.specs.Calls.{member_candidate, cons_candidate}
use Rattle.shape_meanings.specs.Worlds.{ApartFrom, Distinct}
use Rattle.shape_meanings.proofs.Sharing.{shares_at}
use Rattle.row_meanings.specs.Rows.{EachApart, OperatorsAreDistinct}

-- ---- shapes without a value in common

abbrev shared : Shape-F Shape → Shape-F (Shape → Bool)
shared x = map-Shape Shape (Shape → Bool) shares x

-- by their forms
differ : (x y : Shape-F Shape) (s t : Shape) → roll-Shape x ≡ s → roll-Shape y ≡ t → form_shares (shared x) y ≡ false → shares s t ≡ false
differ x y s t e f h =
    subst (λ u. shares u t ≡ false) e (subst (λ u. shares (roll-Shape x) u ≡ false) f
    (shares_at (roll-Shape x) (roll-Shape y) ∙ ap (λ z. form_shares (shared z) (out-Shape (roll-Shape y))) (out-roll-Shape x)
    ∙ ap (form_shares (shared x)) (out-roll-Shape y) ∙ h))

int_bits : shares V.Int V.Bits ≡ false
int_bits = differ S.Int S.Bits V.Int V.Bits V.rolls-Int V.rolls-Bits refl

bits_int : shares V.Bits V.Int ≡ false
bits_int = differ S.Bits S.Int V.Bits V.Int V.rolls-Bits V.rolls-Int refl

bits_string : shares V.Bits V.String ≡ false
bits_string = differ S.Bits S.String V.Bits V.String V.rolls-Bits V.rolls-String refl

bits_vector : shares V.Bits (V.Vector (V.Variable 0)) ≡ false
bits_vector =
    differ S.Bits (S.Vector (V.Variable 0)) V.Bits (V.Vector (V.Variable 0)) V.rolls-Bits (V.rolls-Vector (V.Variable 0)) refl

bool_bits : shares V.Bool V.Bits ≡ false
bool_bits = differ S.Bool S.Bits V.Bool V.Bits V.rolls-Bool V.rolls-Bits refl

-- ---- parameters without values in common

first_differs : (s t : Shape) (ss ts : List Shape) → shares s t ≡ false → overlaps (s ∷ ss) (t ∷ ts) ≡ false
first_differs s t ss ts h = ap (λ b. (b && each_shares (map shares ss) ts) && not (all_alike (s ∷ ss) (t ∷ ts))) h

second_differs : (s t u v : Shape) → shares u v ≡ false → overlaps (s ∷ u ∷ []) (t ∷ v ∷ []) ≡ false
second_differs s t u v h =
    ap (λ b. (shares s t && (b && true)) && not (all_alike (s ∷ u ∷ []) (t ∷ v ∷ []))) h
    ∙ neither (shares s t) (not (all_alike (s ∷ u ∷ []) (t ∷ v ∷ [])))
  where
    neither : (a b : Bool) → ((a && (false && true)) && b) ≡ false
    neither true b = refl
    neither false b = refl

-- ---- comparisons, one for each shape

abbrev Unlike : Shape → List Shape → Type 0
Unlike s [] = Unit {0}
Unlike s (t ∷ ts) = (shares s t ≡ false) × Unlike s ts

abbrev AllUnlike : List Shape → Type 0
AllUnlike [] = Unit {0}
AllUnlike (s ∷ ss) = Unlike s ss × AllUnlike ss

comparisons_apart : (r : Row) (s : Shape) (ts : List Shape) → Unlike s ts
    → ApartFrom (member_candidate (comparison r s)) (map member_candidate (map (comparison r) ts))
comparisons_apart r s [] h = tt
comparisons_apart r s (t ∷ ts) h = (first_differs s t (s ∷ []) (t ∷ []) h.0, comparisons_apart r s ts h.1)

comparisons_distinct : (r : Row) (ss : List Shape) → AllUnlike ss → Distinct (map member_candidate (map (comparison r) ss))
comparisons_distinct r [] h = tt
comparisons_distinct r (s ∷ ss) h = (comparisons_apart r s ss h.0, comparisons_distinct r ss h.1)

-- enums are unlike what isn't named, and each other
unlike_enums : (x : Shape-F Shape) (s : Shape) → roll-Shape x ≡ s → ((n : ℕ) → form_shares (shared x) (S.Named n []) ≡ false)
    → (i : ℕ) (ds : List Definition) → Unlike s (enums_from i ds)
unlike_enums x s e h i [] = tt
unlike_enums x s e h i (d ∷ ds) = by_enum (is_enum d) (unlike_enums x s e h (suc i) ds)
  where
    by_enum : (b : Bool) → Unlike s (enums_from (suc i) ds)
        → Unlike s (if b then V.Named i [] ∷ enums_from (suc i) ds else enums_from (suc i) ds)
    by_enum true rest = (differ x (S.Named i []) s (V.Named i []) e (V.rolls-Named i []) (h i), rest)
    by_enum false rest = rest

not_same : (i n : ℕ) → i < n → nat_eq i n ≡ false
not_same i n h = grind (arith, nat_tests, h)

later_enums : (i n : ℕ) (ds : List Definition) → i < n → Unlike (V.Named i []) (enums_from n ds)
later_enums i n [] h = tt
later_enums i n (d ∷ ds) h = by_enum (is_enum d) (later_enums i (suc n) ds (omega (arith, h)))
  where
    by_enum : (b : Bool) → Unlike (V.Named i []) (enums_from (suc n) ds)
        → Unlike (V.Named i []) (if b then V.Named n [] ∷ enums_from (suc n) ds else enums_from (suc n) ds)
    by_enum true rest =
        (differ (S.Named i []) (S.Named n []) (V.Named i []) (V.Named n []) (V.rolls-Named i []) (V.rolls-Named n []) (not_same i n h), rest)
    by_enum false rest = rest

enums_unlike : (i : ℕ) (ds : List Definition) → AllUnlike (enums_from i ds)
enums_unlike i [] = tt
enums_unlike i (d ∷ ds) = by_enum (is_enum d) (later_enums i (suc i) ds (omega arith)) (enums_unlike (suc i) ds)
  where
    by_enum : (b : Bool) → Unlike (V.Named i []) (enums_from (suc i) ds) → AllUnlike (enums_from (suc i) ds)
        → AllUnlike (if b then V.Named i [] ∷ enums_from (suc i) ds else enums_from (suc i) ds)
    by_enum true first rest = (first, rest)
    by_enum false first rest = rest

int_unlike : (types : Types) → Unlike V.Int (V.Bits ∷ V.Bit ∷ V.Bool ∷ V.String ∷ V.Unit ∷ enums_from 0 types.definitions)
int_unlike types = (
  int_bits,
  (
    differ S.Int S.Bit V.Int V.Bit V.rolls-Int V.rolls-Bit refl,
    (
      differ S.Int S.Bool V.Int V.Bool V.rolls-Int V.rolls-Bool refl,
      (
        differ S.Int S.String V.Int V.String V.rolls-Int V.rolls-String refl,
        (
          differ S.Int S.Unit V.Int V.Unit V.rolls-Int V.rolls-Unit refl,
          unlike_enums S.Int V.Int V.rolls-Int (λ n. refl) 0 types.definitions,
        ),
      ),
    ),
  ),
)

bits_unlike : (types : Types) → Unlike V.Bits (V.Bit ∷ V.Bool ∷ V.String ∷ V.Unit ∷ enums_from 0 types.definitions)
bits_unlike types = (
  differ S.Bits S.Bit V.Bits V.Bit V.rolls-Bits V.rolls-Bit refl,
  (
    differ S.Bits S.Bool V.Bits V.Bool V.rolls-Bits V.rolls-Bool refl,
    (
      bits_string,
      (
        differ S.Bits S.Unit V.Bits V.Unit V.rolls-Bits V.rolls-Unit refl,
        unlike_enums S.Bits V.Bits V.rolls-Bits (λ n. refl) 0 types.definitions,
      ),
    ),
  ),
)

bit_unlike : (types : Types) → Unlike V.Bit (V.Bool ∷ V.String ∷ V.Unit ∷ enums_from 0 types.definitions)
bit_unlike types = (
  differ S.Bit S.Bool V.Bit V.Bool V.rolls-Bit V.rolls-Bool refl,
  (
    differ S.Bit S.String V.Bit V.String V.rolls-Bit V.rolls-String refl,
    (differ S.Bit S.Unit V.Bit V.Unit V.rolls-Bit V.rolls-Unit refl, unlike_enums S.Bit V.Bit V.rolls-Bit (λ n. refl) 0 types.definitions),
  ),
)

bool_unlike : (types : Types) → Unlike V.Bool (V.String ∷ V.Unit ∷ enums_from 0 types.definitions)
bool_unlike types = (
  differ S.Bool S.String V.Bool V.String V.rolls-Bool V.rolls-String refl,
  (
    differ S.Bool S.Unit V.Bool V.Unit V.rolls-Bool V.rolls-Unit refl,
    unlike_enums S.Bool V.Bool V.rolls-Bool (λ n. refl) 0 types.definitions,
  ),
)

string_unlike : (types : Types) → Unlike V.String (V.Unit ∷ enums_from 0 types.definitions)
string_unlike types =
    (differ S.String S.Unit V.String V.Unit V.rolls-String V.rolls-Unit refl, unlike_enums S.String V.String V.rolls-String (λ n. refl) 0 types.definitions)

unit_unlike : (types : Types) → Unlike V.Unit (enums_from 0 types.definitions)
unit_unlike types = unlike_enums S.Unit V.Unit V.rolls-Unit (λ n. refl) 0 types.definitions

comparable_unlike : (types : Types) → AllUnlike (comparable types)
comparable_unlike types = (
  int_unlike types,
  (
    bits_unlike types,
    (
      bit_unlike types,
      (
        bool_unlike types,
        (
          string_unlike types,
          (
            unit_unlike types,
            enums_unlike 0 types.definitions,
          ),
        ),
      ),
    ),
  ),
)

-- ---- members of a builtin, of an operator before an operand, and of one between operands

pub row_distinct : (types : Types) (r : Row) → Distinct (map member_candidate (row_members types r))
row_distinct types B.Eq = comparisons_distinct B.Eq (comparable types) (comparable_unlike types)
row_distinct types B.Neq = comparisons_distinct B.Neq (comparable types) (comparable_unlike types)
row_distinct types B.Length =
    ((first_differs V.Bits (V.Vector (V.Variable 0)) [] [] bits_vector, tt), (tt, tt))
row_distinct types r = (tt, tt)

pub prefix_distinct : (types : Types) (prefix : Prefix) → Distinct (map member_candidate (members_of types (prefix_rows prefix)))
prefix_distinct types P.Tilde = ((first_differs V.Bool V.Bits [] [] bool_bits, tt), (tt, tt))
prefix_distinct types prefix = (tt, tt)

-- a list of members of one builtin
alone_distinct : (types : Types) (r : Row) → Distinct (map member_candidate (members_of types (r ∷ [])))
alone_distinct types r = subst (λ ms. Distinct (map member_candidate ms)) (sym (append-nil (row_members types r))) (row_distinct types r)

builtins_distinct : (types : Types) (operator : Operator) → Distinct (map member_candidate (members_of types (operator_rows operator)))
builtins_distinct types O.Caret = ((first_differs V.Bits V.String (V.Bits ∷ []) (V.String ∷ []) bits_string, tt), (tt, tt))
builtins_distinct types O.Star = ((first_differs V.Int V.Bits (V.Int ∷ []) (V.Bits ∷ []) int_bits, tt), (tt, tt))
builtins_distinct types O.ShiftLeft = ((second_differs V.Bits V.Bits V.Int V.Bits int_bits, tt), (tt, tt))
builtins_distinct types O.ShiftRight = ((second_differs V.Bits V.Bits V.Int V.Bits int_bits, tt), (tt, tt))
builtins_distinct types O.Plus = (
  (
    first_differs V.Int V.Bits (V.Int ∷ []) (V.Bits ∷ []) int_bits,
    (first_differs V.Int V.Bits (V.Int ∷ []) (V.Int ∷ []) int_bits, tt),
  ),
  ((second_differs V.Bits V.Bits V.Bits V.Int bits_int, tt), (tt, tt)),
)
builtins_distinct types O.Minus = (
  (
    first_differs V.Int V.Bits (V.Int ∷ []) (V.Bits ∷ []) int_bits,
    (first_differs V.Int V.Bits (V.Int ∷ []) (V.Int ∷ []) int_bits, tt),
  ),
  ((second_differs V.Bits V.Bits V.Bits V.Int bits_int, tt), (tt, tt)),
)
builtins_distinct types O.Equal = alone_distinct types B.Eq
builtins_distinct types O.NotEqual = alone_distinct types B.Neq
builtins_distinct types O.Cons = tt
builtins_distinct types operator = (tt, tt)

-- ---- with members that overloads add

apart_both : (f : Candidate) (gs hs : List Candidate) → ApartFrom f gs → ApartFrom f hs → ApartFrom f (gs ++ hs)
apart_both f [] hs h k = k
apart_both f (g ∷ gs) hs h k = (h.0, apart_both f gs hs h.1 k)

distinct_both : (fs gs : List Candidate) → Distinct fs → Distinct gs → EachApart fs gs → Distinct (fs ++ gs)
distinct_both [] gs h k a = k
distinct_both (f ∷ fs) gs h k a = (apart_both f fs gs h.0 a.0, distinct_both fs gs h.1 k a.1)

pub operators_distinct : OperatorsAreDistinct
operators_distinct setting O.Cons h a = distinct_both (cons_candidate ∷ []) (setting.added O.Cons) (tt, tt) h a
operators_distinct setting operator h a =
    distinct_both (map member_candidate (members_of setting.types (operator_rows operator))) (setting.added operator)
    (builtins_distinct setting.types operator) h a
