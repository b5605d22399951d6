-- What tests of nodes say of calls, structs and constructors: they have a part for each type of their definition.
use Rattle.std.proofs.Common.{◌≡◌, ℕ, zero, suc, ◌<◌, ◌≤◌, ◌+◌, Bool, true, false, ◌&&◌, List, [], ◌∷◌, ◌++◌, length, map, Option, Some, None}
use Rattle.std.proofs.Common.{if◌then◌else◌, refl, sym, ap, ◌∙◌, subst, arith}
use Rattle.std.specs.List.{list_all, list_any}
use Rattle.std.specs.Prelude.{nat_eq, nat_lt}
use Rattle.std.proofs.lemmas.Bool.{and_parts, ltb-false, ltb-true}
use Rattle.std.proofs.lemmas.Bool.Decides.{Decides-eqb}
use Rattle.std.proofs.lemmas.List.{length-append, length-map}
use Rattle.sail_types.proofs.SumNumbers.{some_same}
use Rattle.sail_types.specs.Named.{field_types, fields, payload}
use Rattle.sail_types.specs.declared.table.Field.{Field}
use Rattle.sail_types.specs.declared.types.Typ.{Typ, Typ-F, out-Typ, roll-Typ}
use Rattle.sail_types.specs.declared.types.Typ.TheOpen as T
use Rattle.sail_types.specs.declared.types.Typ.TheViews.{roll-out-Typ}
use Rattle.sail_core.specs.Run.{Run}
use Rattle.sail_core.specs.declared.model.Function.{Function}
use Rattle.value_indices.specs.declared.indices.Reading.{Reading}
use Rattle.call_arguments.specs.Callees.{payload_form, payload_types}
use Rattle.expression_forms.specs.Ways.{field_typ, fields_at, fields_of}
use Rattle.expression_steps.specs.Calls.{constructor_types, so_many}
use Rattle.expression_steps.specs.Parts.{Part}
use Rattle.checked_meaning.specs.Items.{Item}
use Rattle.sail_core.specs.Making.{World}
use Rattle.value_laws.proofs.Basics.{no}
use Rattle.soundness_steps.specs.Works.{Scene, here}
use Rattle.soundness_forms.specs.EachKind.{PartsFine}
use Rattle.soundness_forms.specs.Standing.{Standing, each_given, has_arguments, has_fields, has_payload}
use Rattle.soundness_values.specs.Named.{TypesNarrow}
use Rattle.soundness_values.proofs.Narrowed.{AllNarrow, NoneAlone, variables_of, narrowed}
use Rattle.soundness_values.specs.Narrow.{is_narrow}
use Rattle.soundness_values.proofs.Narrow.{narrow_as}

-- ---- as many parts as types

abbrev pub AsMany : List Part → List Typ → Type 0
AsMany [] [] = Unit {0}
AsMany (p ∷ ps) (t ∷ ts) = AsMany ps ts
AsMany ps ts = ⊥

pub as_many : (ps : List Part) (ts : List Typ) → length ps ≡ length ts → AsMany ps ts
as_many [] [] e = tt
as_many (p ∷ ps) (t ∷ ts) e = as_many ps ts (omega (arith, e))
as_many [] (t ∷ ts) e = absurd (omega (arith, e))
as_many (p ∷ ps) [] e = absurd (omega (arith, e))

pub parts_stand : (q : Scene) (w : World Item) (ss : List Standing) (ps : List Part) (rs : List (Run Item Item)) → PartsFine q w ss ps rs
    → length ss ≡ length ps
parts_stand q w [] [] [] h = refl
parts_stand q w (s ∷ ss) (p ∷ ps) (r ∷ rs) h = ap suc (parts_stand q w ss ps rs h.1)
parts_stand q w [] [] (r ∷ rs) h = absurd h
parts_stand q w [] (p ∷ ps) rs h = absurd h
parts_stand q w (s ∷ ss) [] rs h = absurd h
parts_stand q w (s ∷ ss) (p ∷ ps) [] h = absurd h

pub same_count : (n m : ℕ) → nat_eq n m ≡ true → n ≡ m
same_count n m e = (Decides-eqb n m).0 e

-- ---- functions

abbrev pub CountStands : List Part → Option Function → Type 0
CountStands ps None = Unit {0}
CountStands ps (Some fn) = AsMany ps fn.parameters

pub count_stands : (ps : List Part) (o : Option Function) → has_arguments (length ps) o ≡ true → CountStands ps o
count_stands ps None h = tt
count_stands ps (Some fn) h = as_many ps fn.parameters (same_count (length ps) (length fn.parameters) h)

-- ---- structs: each field of the definition is given once, by a part of its own

abbrev pub is_in : ℕ → List ℕ → Bool
is_in i ks = list_any (nat_eq i) ks

abbrev pub AllBelow : ℕ → List ℕ → Type 0
AllBelow n [] = Unit {0}
AllBelow n (k ∷ ks) = (k < n) × AllBelow n ks

pub record StructStands (q : Scene) (u : ℕ) (ks : List ℕ) (ps : List Part) : Type 0 where
  pub all_fields : List Field
  pub is_struct : fields q.set.around.types u ≡ Some all_fields
  pub as_long : length ks ≡ length (field_types all_fields)
  pub each : (i : ℕ) → i < length (field_types all_fields) → is_in i ks ≡ true
  pub below : AllBelow (length (field_types all_fields)) ks
  pub parts : AsMany ps (fields_of (here q) u ks)
  pub narrow : AllNarrow (variables_of q.set.around.types u) (fields_of (here q) u ks)

given_in : (n : ℕ) (ks : List ℕ) → each_given n ks ≡ true → (i : ℕ) → i < n → is_in i ks ≡ true
given_in zero ks h i l = absurd (omega (arith, l))
given_in (suc n) ks h i l =
    let both = and_parts (is_in n ks) (each_given n ks) h in by both.0 (λ less. given_in n ks both.1 i less) (nat_lt i n) refl
  where
    by : is_in n ks ≡ true → (i < n → is_in i ks ≡ true) → (b : Bool) → nat_lt i n ≡ b → is_in i ks ≡ true
    by last others true e = others (ltb-true i n e)
    by last others false e =
        let k : n ≤ i = ltb-false i n e in let same : i ≡ n = omega (arith, k, l) in ap (λ m. is_in m ks) same ∙ last

all_below : (n m : ℕ) → n ≡ m → (ks : List ℕ) → list_all (λ k. nat_lt k n) ks ≡ true → AllBelow m ks
all_below n m e [] h = tt
all_below n m e (k ∷ ks) h =
    let both = and_parts (nat_lt k n) (list_all (λ k. nat_lt k n) ks) h in
    let l : k < n = ltb-true k n both.0 in (omega (arith, l, e), all_below n m e ks both.1)

module _ (fs : List Field) where
  one_long : (gs : List Field) (k : ℕ) → k < length gs → length (field_typ k gs) ≡ 1
  one_long [] k l = absurd (omega (arith, l))
  one_long (g ∷ gs) zero l = refl
  one_long (g ∷ gs) (suc k) l = one_long gs k (omega (arith, l))

  fields_long : (ks : List ℕ) → AllBelow (length fs) ks → length (fields_at ks (Some fs)) ≡ length ks
  fields_long [] h = refl
  fields_long (k ∷ ks) h =
      let both = length-append (field_typ k fs) (fields_at ks (Some fs)) in
      let first : length (field_typ k fs) ≡ 1 = one_long fs k h.0 in
      let rest : length (fields_at ks (Some fs)) ≡ length ks = fields_long ks h.1 in
      let all : length (field_typ k fs ++ fields_at ks (Some fs)) ≡ suc (length ks) = omega (arith, both, first, rest) in all

  module _ (count : ℕ) where
    both_narrow : (ts us : List Typ) → AllNarrow count ts → AllNarrow count us → AllNarrow count (ts ++ us)
    both_narrow [] us h k = k
    both_narrow (t ∷ ts) us h k = (h.0, both_narrow ts us h.1 k)

    one_narrow : (gs : List Field) (k : ℕ) → AllNarrow count (field_types gs) → AllNarrow count (field_typ k gs)
    one_narrow [] k h = tt
    one_narrow (g ∷ gs) zero h = (h.0, tt)
    one_narrow (g ∷ gs) (suc k) h = one_narrow gs k h.1

    fields_narrow : (ks : List ℕ) → AllNarrow count (field_types fs) → AllNarrow count (fields_at ks (Some fs))
    fields_narrow [] h = tt
    fields_narrow (k ∷ ks) h = both_narrow (field_typ k fs) (fields_at ks (Some fs)) (one_narrow fs k h) (fields_narrow ks h)

pub struct_stands : (q : Scene) → TypesNarrow q.set.around.types → (u : ℕ) (ks : List ℕ) (ps : List Part) (o : Option (List Field))
    → fields q.set.around.types u ≡ o → has_fields ks (length ps) o ≡ true → StructStands q u ks ps
struct_stands q narrow u ks ps None e h = no h
struct_stands q narrow u ks ps (Some fs) e h =
    let all = list_all (λ k. nat_lt k (length fs)) ks in
    let a = and_parts (nat_eq (length ps) (length fs)) (nat_eq (length ks) (length fs) && (each_given (length fs) ks && all)) h in
    let b = and_parts (nat_eq (length ks) (length fs)) (each_given (length fs) ks && all) a.1 in
    let c = and_parts (each_given (length fs) ks) all b.1 in
    let some : length (field_types fs) ≡ length fs = length-map fs (λ (g : Field). g.typ) in
    let many : length ps ≡ length fs = same_count (length ps) (length fs) a.0 in
    let given : length ks ≡ length fs = same_count (length ks) (length fs) b.0 in
    let long : length (fields_at ks (Some fs)) ≡ length ks = fields_long fs ks (all_below (length fs) (length fs) refl ks c.1) in
    record {
      all_fields = fs;
      is_struct = e;
      as_long = given ∙ sym some;
      each = λ i l. given_in (length fs) ks c.0 i (omega (arith, l, some));
      below = all_below (length fs) (length (field_types fs)) (sym some) ks c.1;
      parts = as_many ps (fields_of (here q) u ks) (many ∙ sym given ∙ sym long ∙ ap (λ o. length (fields_at ks o)) (sym e));
      narrow = subst (λ o. AllNarrow (variables_of q.set.around.types u) (fields_at ks o)) (sym e)
          (fields_narrow fs (variables_of q.set.around.types u) ks ((narrowed q.set.around.types narrow).of_fields u fs e));
    }

-- ---- constructors: an argument for each part of the payload

pub record ConstructorStands (q : Scene) (u c : ℕ) (ps : List Part) : Type 0 where
  pub of_payload : Typ
  pub is_payload : payload q.set.around.types u c ≡ Some of_payload
  pub none_alone : NoneAlone of_payload
  pub some : 0 < length ps
  pub parts : AsMany ps (constructor_types (here q) u c (length ps))
  pub narrow : AllNarrow (variables_of q.set.around.types u) (constructor_types (here q) u c (length ps))

module _ (count : ℕ) where
  each_narrow : (ts : List Typ) → list_all (λ b. b) (map (is_narrow count) ts) ≡ true → AllNarrow count ts
  each_narrow [] h = tt
  each_narrow (t ∷ ts) h =
      let both = and_parts (is_narrow count t) (list_all (λ b. b) (map (is_narrow count) ts)) h in (both.0, each_narrow ts both.1)

  payload_narrow : (n : ℕ) (t : Typ) → is_narrow count t ≡ true → AllNarrow count (payload_types n (Some t))
  payload_narrow n t h = by (out-Typ t) (roll-out-Typ t)
    where
      several : (b : Bool) (ts : List Typ) → AllNarrow count ts → AllNarrow count (if b then ts else t ∷ [])
      several true ts k = k
      several false ts k = (h, tt)

      by : (x : Typ-F Typ) → roll-Typ x ≡ t → AllNarrow count (payload_form n t x)
      by (T.Tuple ts) e = several (nat_eq n (length ts)) ts (each_narrow ts (sym (narrow_as count (T.Tuple ts) t e) ∙ h))
      by x e = (h, tt)

pub constructor_stands : (q : Scene) → TypesNarrow q.set.around.types → (u c : ℕ) (ps : List Part) (o : Option Typ) → payload q.set.around.types u c ≡ o
    → has_payload (length ps) o ≡ true → ConstructorStands q u c ps
constructor_stands q narrow u c ps None e h = no h
constructor_stands q narrow u c ps (Some t) e h =
    let a = and_parts (nat_lt 0 (length ps)) (nat_eq (length ps) (length (payload_types (length ps) (Some t)))) h in
    record {
      of_payload = t;
      is_payload = e;
      none_alone = (narrowed q.set.around.types narrow).none_alone u c t e;
      some = ltb-true 0 (length ps) a.0;
      parts = as_many ps (constructor_types (here q) u c (length ps))
          (same_count (length ps) (length (payload_types (length ps) (Some t))) a.1 ∙ ap (λ o. length (payload_types (length ps) o)) (sym e));
      narrow = subst (λ o. AllNarrow (variables_of q.set.around.types u) (payload_types (length ps) o)) (sym e)
          (payload_narrow (variables_of q.set.around.types u) (length ps) t ((narrowed q.set.around.types narrow).of_payloads u c t e));
    }

-- what is known of a constructor's Type arguments is as many
pub known_count : (n : ℕ) (o : Option (List Reading)) (rs : List Reading) → so_many n o ≡ Some rs → length rs ≡ n
known_count n None rs e = absurd (cc)
known_count n (Some us) rs e = by (nat_eq (length us) n) refl e
  where
    by : (b : Bool) → nat_eq (length us) n ≡ b → (if b then Some us else None) ≡ Some rs → length rs ≡ n
    by true t k = ap length (sym (some_same us rs k)) ∙ same_count (length us) n t
    by false t k = absurd (cc)
