-- The types that every model has, and the kit of a setting.
use Rattle.std.proofs.Common.{◌≡◌, ◌∙◌, ℕ, zero, suc, ◌+◌, ◌<◌, ℤ, Bool, true, false, List, [], ◌∷◌, length, map, Option, Some, None, refl, sym, ap, subst}
use Rattle.std.proofs.Common.{arith}
use Rattle.std.specs.Prelude.{◌&&◌, ◌++◌, slice_get, slice_index_or}
use Rattle.sail_types.specs.Sums.{constant}
use Rattle.row_types.specs.Formulas.{least, most}
use Rattle.sail_core.specs.Values.{int_typ}
use Rattle.sail_types.specs.declared.numbers.Num.{Num}
use Rattle.sail_types.specs.declared.table.Types.{Types}
use Rattle.sail_types.specs.declared.types.Typ.TheFolds.{fold-roll-Typ}
use Rattle.sail_types.specs.declared.types.Typ.TheOpen as T
use Rattle.sail_types.specs.declared.types.Typ.TheVariants as Y
use Rattle.size_values.specs.declared.sized.Sized.{Sized, Sized-F, out-Sized}
use Rattle.size_values.specs.declared.sized.Sized.TheOpen as Z
use Rattle.size_values.specs.declared.sized.Sized.TheVariants as S
use Rattle.size_values.specs.declared.sized.Sized.TheViews.{out-roll-Sized}
use Rattle.size_values.specs.Sized.{UnderConstants, form_sized, typ_sized}
use Rattle.checked_meaning.specs.Items.{fixed_typ}
use Rattle.jib.specs.declared.types.ValueType.{ValueType}
use Rattle.lowered_types.specs.Table.{TypesStand, form_never, form_value, is_known, type_in}
use Rattle.lowered_types.proofs.Standing.{found, known_lt}
use Rattle.lowered_laws.specs.Standing.{Types as Basic}
use Rattle.lowered_pieces.specs.Places.{Kit, Mapped, Naming}
use Rattle.lowered_pieces.specs.Lowering.{kit_of}
use Rattle.lowered_slots.specs.declared.slots.Slot.{Slot}
use Rattle.lowered_slots.specs.declared.slots.Place.{Place}
use Rattle.lowered_slots.specs.Slots.{name_in}
use Rattle.lowered_slots.specs.Laws.{SlotsTyped}
use Rattle.lowered_steps.specs.declared.setting.Setting.{Setting}
use Rattle.lowered_steps.specs.Setting.{kit_for, number_for, size_for, ways_for}

-- ---- truths

pub both : (a b : Bool) → a ≡ true → b ≡ true → (a && b) ≡ true
both true b h k = k
both false b h k = h

pub and_left : (a b : Bool) → (a && b) ≡ true → a ≡ true
and_left true b h = refl
and_left false b h = h

pub and_right : (a b : Bool) → (a && b) ≡ true → b ≡ true
and_right true b h = h
and_right false b h = absurd (no h)
  where
    no : false ≡ true → ⊥
    no e = cc

-- ---- the types that every model has

module _ (types : Types) where
  pub nothing_typ : fixed_typ types Y.Unit ≡ S.Unit
  nothing_typ =
      ap (λ t. typ_sized types [] t []) (sym Y.rolls-Unit) ∙ ap (λ (f : UnderConstants). f []) (fold-roll-Typ UnderConstants (form_sized types []) T.Unit)

  pub truth_typ : fixed_typ types Y.Bool ≡ S.Bool
  truth_typ =
      ap (λ t. typ_sized types [] t []) (sym Y.rolls-Bool) ∙ ap (λ (f : UnderConstants). f []) (fold-roll-Typ UnderConstants (form_sized types []) T.Bool)

  pub integer_typ : fixed_typ types int_typ ≡ S.Int
  integer_typ =
      ap (λ t. typ_sized types [] t []) (sym (Y.rolls-Range (constant least) (constant most)))
      ∙ ap (λ (f : UnderConstants). f []) (fold-roll-Typ UnderConstants (form_sized types []) (T.Range (constant least) (constant most)))

out_unit : out-Sized S.Unit ≡ Z.Unit
out_unit = ap out-Sized (sym S.rolls-Unit) ∙ out-roll-Sized Z.Unit

out_bool : out-Sized S.Bool ≡ Z.Bool
out_bool = ap out-Sized (sym S.rolls-Bool) ∙ out-roll-Sized Z.Bool

out_int : out-Sized S.Int ≡ Z.Int
out_int = ap out-Sized (sym S.rolls-Int) ∙ out-roll-Sized Z.Int

module _ (types : Types) (ss : List Sized) (ts : List ValueType) (stands : TypesStand types ss ts) where
  -- a type that is there has its value type
  value_at : (t : Sized) (z : Sized-F Sized) → out-Sized t ≡ z → form_never z ≡ false → is_known ss t ≡ true
      → slice_get ts (type_in ss t) ≡ Some (form_value types (type_in ss) z)
  value_at t z e never known =
      stands.each (type_in ss t) t (found ss t (known_lt ss t known (ap form_never e ∙ never)))
      ∙ ap (λ y. Some (form_value types (type_in ss) y)) e

  pub basic_of : (name : Naming) (exception : ℕ) (size : Num → Option ℤ) (ways : ℕ → Mapped) → is_known ss S.Unit ≡ true → is_known ss S.Bool ≡ true
      → is_known ss S.Int ≡ true → Basic ts (kit_of types name (type_in ss) exception size ways)
  basic_of name exception size ways u b i = record {
    truth = ap (λ s. slice_get ts (type_in ss s)) (truth_typ types) ∙ value_at S.Bool Z.Bool out_bool refl b;
    integer = ap (λ s. slice_get ts (type_in ss s)) (integer_typ types) ∙ value_at S.Int Z.Int out_int refl i;
    unit = ap (λ s. slice_get ts (type_in ss s)) (nothing_typ types) ∙ value_at S.Unit Z.Unit out_unit refl u;
  }

-- ---- the kit of a setting

module _ (setting : Setting) (name : Naming) (exception : ℕ) where
  abbrev kit_with : ℕ → ℕ → ℕ → ℕ → Sized → Sized → Kit
  kit_with u b i e n t = record {
    name = name;
    unit = u;
    truth = b;
    integer = i;
    exception = e;
    number = number_for setting;
    nothing = n;
    truths = t;
    depth = λ x. 0;
    size = size_for setting;
    ways = ways_for setting;
  }

  pub kit_same : setting.nothing.now ≡ S.Unit → setting.truths.now ≡ S.Bool → setting.unit ≡ number_for setting S.Unit
      → setting.truth ≡ number_for setting S.Bool → setting.integer ≡ number_for setting S.Int → setting.exception ≡ exception
      → kit_for setting name ≡ kit_of setting.types.now name (number_for setting) exception (size_for setting) (ways_for setting)
  kit_same n t u b i e =
      ap (λ x. kit_with x setting.truth setting.integer setting.exception setting.nothing.now setting.truths.now)
      (u ∙ ap (number_for setting) (sym (nothing_typ setting.types.now)))
      ∙ ap (λ x. kit_with fixed_unit x setting.integer setting.exception setting.nothing.now setting.truths.now)
      (b ∙ ap (number_for setting) (sym (truth_typ setting.types.now)))
      ∙ ap (λ x. kit_with fixed_unit fixed_truth x setting.exception setting.nothing.now setting.truths.now)
      (i ∙ ap (number_for setting) (sym (integer_typ setting.types.now)))
      ∙ ap (λ x. kit_with fixed_unit fixed_truth fixed_integer x setting.nothing.now setting.truths.now) e
      ∙ ap (λ x. kit_with fixed_unit fixed_truth fixed_integer exception x setting.truths.now) (n ∙ sym (nothing_typ setting.types.now))
      ∙ ap (λ x. kit_with fixed_unit fixed_truth fixed_integer exception (fixed_typ setting.types.now Y.Unit) x) (t ∙ sym (truth_typ setting.types.now))
    where
      fixed_unit : ℕ
      fixed_unit = number_for setting (fixed_typ setting.types.now Y.Unit)

      fixed_truth : ℕ
      fixed_truth = number_for setting (fixed_typ setting.types.now Y.Bool)

      fixed_integer : ℕ
      fixed_integer = number_for setting (fixed_typ setting.types.now int_typ)

-- ---- lists

none_is : {A X : Type 0} (x : A) → None ≡ Some x → X
none_is x e = cc

pub some_same : {A : Type 0} (x y : A) → Some x ≡ Some y → x ≡ y
some_same x y e = cc

pub got_before : {A : Type 0} (xs more : List A) (i : ℕ) (x : A) → slice_get xs i ≡ Some x → slice_get (xs ++ more) i ≡ Some x
got_before [] more i x h = none_is x h
got_before (z ∷ xs) more zero x h = h
got_before (z ∷ xs) more (suc i) x h = got_before xs more i x h

pub get_past : {A : Type 0} (xs ys : List A) (k : ℕ) → slice_get (xs ++ ys) (length xs + k) ≡ slice_get ys k
get_past [] ys k = ap (slice_get ys) (begun k)
  where
    begun : (k : ℕ) → 0 + k ≡ k
    begun k = omega arith
get_past (x ∷ xs) ys k = ap (slice_get (x ∷ (xs ++ ys))) (next (length xs) k) ∙ get_past xs ys k
  where
    next : (n k : ℕ) → suc n + k ≡ suc (n + k)
    next n k = omega arith

pub is_there : {A : Type 0} (xs : List A) (i : ℕ) → i < length xs → (x : A) × (slice_get xs i ≡ Some x)
is_there [] i lt = absurd (nothing lt)
  where
    nothing : i < 0 → ⊥
    nothing lt = omega (arith, lt)
is_there (z ∷ xs) zero lt = (z, refl)
is_there (z ∷ xs) (suc i) lt = is_there xs i (omega (arith, lt))

pub there_below : {A : Type 0} (xs : List A) (i : ℕ) (x : A) → slice_get xs i ≡ Some x → i < length xs
there_below [] i x e = none_is x e
there_below (z ∷ xs) zero x e = omega (arith)
there_below (z ∷ xs) (suc i) x e = omega (arith, there_below xs i x e)

pub index_there : {A : Type 0} (xs : List A) (i : ℕ) (d x : A) → slice_get xs i ≡ Some x → slice_index_or xs i d ≡ x
index_there [] i d x e = none_is x e
index_there (z ∷ xs) zero d x e = some_same z x e
index_there (z ∷ xs) (suc i) d x e = index_there xs i d x e

-- a slot that is there has its type
pub slot_there : SlotsTyped → (ss : List Slot) (p : Place) (t : ℕ) → name_in ss p t < length (map (λ (s : Slot). s.typ) ss)
    → slice_get (map (λ (s : Slot). s.typ) ss) (name_in ss p t) ≡ Some t
slot_there typed ss p t lt =
    let r = is_there (map (λ (s : Slot). s.typ) ss) (name_in ss p t) lt in
    r.1 ∙ ap Some (sym (index_there (map (λ (s : Slot). s.typ) ss) (name_in ss p t) 0 r.0 r.1) ∙ typed ss p t (subst (λ n. name_in ss p t < n) (many ss) lt))
  where
    many : (xs : List Slot) → length (map (λ (s : Slot). s.typ) xs) ≡ length xs
    many [] = refl
    many (x ∷ xs) = ap suc (many xs)
