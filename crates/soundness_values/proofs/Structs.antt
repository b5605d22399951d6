-- A struct whose fields are given, in any order: each is set, and the value has the indices of the named type.
use Rattle.std.proofs.Common.{◌≡◌, ℕ, zero, suc, ◌<◌, nat_eq, Bool, true, false, ◌||◌, List, [], ◌∷◌, map, length, Some, None}
use Rattle.std.proofs.Common.{refl, sym, ap, ◌∙◌, subst, arith, if◌then◌else◌, slice_get, slice_set}
use Rattle.std.specs.Prelude.{option_map}
use Rattle.std.proofs.lemmas.Bool.{lt-ltb}
use Rattle.std.proofs.lemmas.Bool.Decides.{Decides-eqb}
use Rattle.sail_types.proofs.SumNumbers.{some_same}
use Rattle.sail_types.specs.Belongs.{Reading as Closed, Readings as Closeds, assigned, belongs, fields_belong, reading}
use Rattle.sail_types.specs.Named.{field_types, fields}
use Rattle.sail_types.specs.Numbers.{Assignment}
use Rattle.sail_types.specs.Sums.{and_then}
use Rattle.sail_types.specs.declared.numbers.Index.{Index}
use Rattle.sail_types.specs.declared.table.Field.{Field}
use Rattle.sail_types.specs.declared.table.Types.{Types}
use Rattle.sail_types.specs.declared.types.Typ.{Typ}
use Rattle.sail_types.specs.declared.values.Value.{Value, out-Value}
use Rattle.sail_types.specs.declared.values.Value.TheOpen as O
use Rattle.sail_types.specs.declared.values.Value.TheVariants as V
use Rattle.sail_types.specs.declared.values.Value.TheViews.{out-roll-Value}
use Rattle.sail_core.specs.Values.{set_at, struct_of, with_field, with_fields}
use Rattle.value_indices.specs.declared.indices.Indices.TheOpen as W
use Rattle.value_indices.specs.declared.indices.Indices.TheVariants as I
use Rattle.value_indices.specs.declared.indices.Reading.{Reading}
use Rattle.value_laws.specs.Belonging.{closed, closeds, form_holds, has}
use Rattle.value_laws.proofs.Alike.{asks}
use Rattle.value_laws.proofs.Basics.{no, two}
use Rattle.value_laws.proofs.Values.{has_form}
use Rattle.soundness_values.proofs.Stands.{is_in}
use Rattle.soundness_values.proofs.Unions.{AllOfTypes, each_of_types, same_nat, set_here, set_long, set_there}

neither : (a b : Bool) → a ≡ false → b ≡ false → (a || b) ≡ false
neither a b h k = ap (λ x. x || b) h ∙ k

module _ (types : Types) (mu : Assignment) (rs : Closeds) (ts : List Typ) (u : ℕ) where
  -- a value of the type of this field
  abbrev OfField : ℕ → Value → Type 0
  OfField i v = (t : Typ) → slice_get ts i ≡ Some t → belongs types v (reading t mu rs) ≡ true

  -- what is given for fields of the struct
  abbrev pub AllGiven : List ℕ → List Value → Type 0
  AllGiven [] [] = Unit {0}
  AllGiven (k ∷ ks) (v ∷ vs) = (k < length ts) × OfField k v × AllGiven ks vs
  AllGiven ks vs = ⊥

  -- all fields but these are set
  abbrev Set : List ℕ → List Value → Type 0
  Set ks ws = (i : ℕ) (w : Value) → is_in i ks ≡ false → slice_get ws i ≡ Some w → OfField i w

  record AllSet (ks : List ℕ) (vs ws : List Value) : Type 0 where
    pub set : List Value
    pub is : with_fields u ks vs (V.Struct u ws) ≡ Some (V.Struct u set)
    pub long : length set ≡ length ts
    pub belong : Set [] set

  one_set : (k : ℕ) (ks : List ℕ) (v : Value) (vs ws : List Value) → k < length ws
      → with_fields u (k ∷ ks) (v ∷ vs) (V.Struct u ws) ≡ with_fields u ks vs (V.Struct u (slice_set ws k v))
  one_set k ks v vs ws l =
      ap (λ w. and_then (with_field u k w v) (with_fields u ks vs)) (ap out-Value (sym (V.rolls-Struct u ws)) ∙ out-roll-Value (O.Struct u ws))
      ∙ ap (λ b. and_then (if b then option_map (V.Struct u) (set_at ws k v) else None) (with_fields u ks vs)) (same_nat u)
      ∙ ap (λ b. and_then (option_map (V.Struct u) (if b then Some (slice_set ws k v) else None)) (with_fields u ks vs)) (lt-ltb k (length ws) l)

  still_set : (k : ℕ) (ks : List ℕ) (v : Value) (ws : List Value) → k < length ws → OfField k v → Set (k ∷ ks) ws → Set ks (slice_set ws k v)
  still_set k ks v ws l h d i w out e t f = by (nat_eq i k) refl
    where
      by : (b : Bool) → nat_eq i k ≡ b → belongs types w (reading t mu rs) ≡ true
      by true n =
          let same : i ≡ k = (Decides-eqb i k).0 n in
          let value : v ≡ w = some_same v w (sym (set_here ws k v l) ∙ ap (slice_get (slice_set ws k v)) (sym same) ∙ e) in
          ap (λ x. belongs types x (reading t mu rs)) (sym value) ∙ h t (ap (slice_get ts) (sym same) ∙ f)
      by false n = d i w (neither (nat_eq i k) (is_in i ks) n out) (sym (set_there ws k i v (λ a. no (sym n ∙ (Decides-eqb i k).1 a))) ∙ e) t f

  all_set : (ks : List ℕ) (vs ws : List Value) → AllGiven ks vs → length ws ≡ length ts → Set ks ws → AllSet ks vs ws
  all_set [] [] ws h l d = record { set = ws; is = refl; long = l; belong = d }
  all_set [] (v ∷ vs) ws h l d = absurd h
  all_set (k ∷ ks) [] ws h l d = absurd h
  all_set (k ∷ ks) (v ∷ vs) ws h l d =
      let less : k < length ws = subst (λ n. k < n) (sym l) h.0 in
      let r = all_set ks vs (slice_set ws k v) h.2 (set_long ws k v ∙ l) (still_set k ks v ws less h.1 d) in
      record { set = r.set; is = one_set k ks v vs ws less ∙ r.is; long = r.long; belong = r.belong }

all_of_types : (types : Types) (mu : Assignment) (rs : Closeds) (ts : List Typ) (ws : List Value) → length ws ≡ length ts
    → ((i : ℕ) (w : Value) (t : Typ) → slice_get ws i ≡ Some w → slice_get ts i ≡ Some t → belongs types w (reading t mu rs) ≡ true)
    → AllOfTypes types mu rs ts ws
all_of_types types mu rs [] [] l h = tt
all_of_types types mu rs [] (w ∷ ws) l h = absurd (cc)
all_of_types types mu rs (t ∷ ts) [] l h = absurd (cc)
all_of_types types mu rs (t ∷ ts) (w ∷ ws) l h = (h 0 w t refl refl, all_of_types types mu rs ts ws (same_rest l) (λ i. h (suc i)))
  where
    same_rest : suc (length ws) ≡ suc (length ts) → length ws ≡ length ts
    same_rest e = cc

-- fields that are not there are not among what is there
missing : (ws : List Value) (i : ℕ) (w : Value) → slice_get ws i ≡ Some w → i < length ws
missing [] i w e = absurd (cc)
missing (v ∷ ws) zero w e = omega arith
missing (v ∷ ws) (suc i) w e = let l : i < length ws = missing ws i w e in omega (arith, l)

units_long : (ks : List ℕ) → length (map (λ (i : ℕ). V.Unit) ks) ≡ length ks
units_long [] = refl
units_long (k ∷ ks) = ap suc (units_long ks)

module _ (types : Types) (mu : Assignment) (own : List Closed) (u : ℕ) (js : List Index) (qs : List Reading) (fs : List Field) (ks : List ℕ)
    (vs : List Value) where
  abbrev stands : Closeds
  stands = closeds (map (closed types mu own) qs)

  pub record StructIs : Type 0 where
    pub value : Value
    pub is : struct_of u ks vs ≡ Some value
    pub has_it : has types mu own (I.Named u js qs) value ≡ true

  -- each field of the definition is among those that are given
  pub struct_made : fields types u ≡ Some fs → length ks ≡ length (field_types fs) → ((i : ℕ) → i < length (field_types fs) → is_in i ks ≡ true)
      → AllGiven types (assigned mu js) stands (field_types fs) u ks vs → StructIs
  struct_made e l all given =
      let ts = field_types fs in
      let start = map (λ (i : ℕ). V.Unit) ks in
      let long : length start ≡ length ts = units_long ks ∙ l in
      let r = all_set types (assigned mu js) stands ts u ks vs start given long (λ i w out here t f.
      no (sym out ∙ all i (subst (λ n. i < n) long (missing start i w here)))) in
      let each = all_of_types types (assigned mu js) stands ts r.set r.long (λ i w t a b. r.belong i w refl a t b) in
      record {
        value = V.Struct u r.set;
        is = r.is;
        has_it = has_form types mu own (I.Named u js qs) (W.Named u js qs) (V.Struct u r.set) (I.rolls-Named u js qs)
            ∙ ap (form_holds types mu own (W.Named u js (map (closed types mu own) qs)))
            (ap out-Value (sym (V.rolls-Struct u r.set)) ∙ out-roll-Value (O.Struct u r.set))
            ∙ two (nat_eq u u) (fields_belong (asks types r.set) (assigned mu js) stands (fields types u)) (same_nat u)
            (ap (fields_belong (asks types r.set) (assigned mu js) stands) e ∙ each_of_types types (assigned mu js) stands ts r.set each);
      }
