-- Values of unions and structs have the indices of a named type, where their parts belong to the types of its definition.
use Rattle.std.proofs.Common.{◌≡◌, ℕ, zero, suc, nat_eq, Bool, true, false, List, [], ◌∷◌, map, length, Some, refl, sym, ap, ◌∙◌, subst}
use Rattle.std.proofs.Common.{◌<◌, arith, if◌then◌else◌, slice_get, slice_set}
use Rattle.std.proofs.lemmas.Bool.Decides.{Decides-eqb}
use Rattle.sail_types.specs.Belongs.{Reading as Closed, Readings as Closeds, assigned, belongs, each_belongs, payload_belongs, reading}
use Rattle.sail_types.specs.Named.{payload}
use Rattle.sail_types.specs.Numbers.{Assignment}
use Rattle.sail_types.specs.declared.numbers.Index.{Index}
use Rattle.sail_types.specs.declared.table.Types.{Types}
use Rattle.sail_types.specs.declared.types.Typ.{Typ, Typ-F, out-Typ, roll-Typ}
use Rattle.sail_types.specs.declared.types.Typ.TheOpen as T
use Rattle.sail_types.specs.declared.types.Typ.TheViews.{roll-out-Typ}
use Rattle.sail_types.specs.declared.values.Value.{Value, out-Value}
use Rattle.sail_types.specs.declared.values.Value.TheOpen as O
use Rattle.sail_types.specs.declared.values.Value.TheVariants as V
use Rattle.sail_types.specs.declared.values.Value.TheViews.{out-roll-Value}
use Rattle.sail_core.specs.Values.{payload_of}
use Rattle.value_indices.specs.declared.indices.Indices.TheOpen as W
use Rattle.value_indices.specs.declared.indices.Indices.TheVariants as I
use Rattle.value_indices.specs.declared.indices.Reading.{Reading}
use Rattle.call_arguments.specs.Callees.{payload_form, payload_types}
use Rattle.soundness_values.proofs.Narrowed.{NoneAlone}
use Rattle.value_laws.specs.Belonging.{closed, closeds, form_holds, has}
use Rattle.value_laws.proofs.Alike.{asks}
use Rattle.value_laws.proofs.Basics.{fronts, two}
use Rattle.value_laws.proofs.Values.{belongs_form, form_asked, has_form, inner}

pub same_nat : (n : ℕ) → nat_eq n n ≡ true
same_nat n = (Decides-eqb n n).1 refl

module _ (types : Types) where
  -- each belongs to its type, under what variables stand for
  abbrev pub AllOfTypes : Assignment → Closeds → List Typ → List Value → Type 0
  AllOfTypes mu rs [] [] = Unit {0}
  AllOfTypes mu rs (t ∷ ts) (v ∷ vs) = (belongs types v (reading t mu rs) ≡ true) × AllOfTypes mu rs ts vs
  AllOfTypes mu rs ts vs = ⊥

  pub each_of_types : (mu : Assignment) (rs : Closeds) (ts : List Typ) (vs : List Value) → AllOfTypes mu rs ts vs → each_belongs (asks types vs) mu rs ts ≡ true
  each_of_types mu rs [] [] h = refl
  each_of_types mu rs (t ∷ ts) (v ∷ vs) h = two (belongs types v (reading t mu rs)) (each_belongs (asks types vs) mu rs ts) h.0 (each_of_types mu rs ts vs h.1)
  each_of_types mu rs [] (v ∷ vs) h = absurd h
  each_of_types mu rs (t ∷ ts) [] h = absurd h

  -- several values are a tuple
  tuple_of_types : (mu : Assignment) (rs : Closeds) (t : Typ) (ts : List Typ) (vs : List Value) → out-Typ t ≡ T.Tuple ts → AllOfTypes mu rs ts vs
      → belongs types (V.Tuple vs) (reading t mu rs) ≡ true
  tuple_of_types mu rs t ts vs e h =
      belongs_form types (V.Tuple vs) (T.Tuple ts) t mu rs (ap roll-Typ (sym e) ∙ roll-out-Typ t)
      ∙ ap (λ w. form_asked types w (T.Tuple ts) mu rs) (ap out-Value (sym (V.rolls-Tuple vs)) ∙ out-roll-Value (O.Tuple vs))
      ∙ ap (each_belongs (asks types vs) mu rs) (fronts (inner types (O.Tuple vs) rs) ts)
      ∙ each_of_types mu rs ts vs h

  -- ---- the payload that a constructor makes

  module _ (mu : Assignment) (rs : Closeds) (t : Typ) where
    -- one value, or as many as the parts of the payload's tuple
    several : (ts : List Typ) (v u : Value) (vs : List Value) → out-Typ t ≡ T.Tuple ts → (b : Bool)
        → AllOfTypes mu rs (if b then ts else t ∷ []) (v ∷ u ∷ vs) → belongs types (V.Tuple (v ∷ u ∷ vs)) (reading t mu rs) ≡ true
    several ts v u vs e true h = tuple_of_types mu rs t ts (v ∷ u ∷ vs) e h
    several ts v u vs e false h = absurd h.1

    of_form : (x : Typ-F Typ) (v u : Value) (vs : List Value) → out-Typ t ≡ x
        → AllOfTypes mu rs (payload_form (length (v ∷ u ∷ vs)) t x) (v ∷ u ∷ vs) → belongs types (V.Tuple (v ∷ u ∷ vs)) (reading t mu rs) ≡ true
    of_form (T.Tuple ts) v u vs e h = several ts v u vs e (nat_eq (length (v ∷ u ∷ vs)) (length ts)) h
    of_form x v u vs e h = absurd h.1

    alone : NoneAlone t → (x : Typ-F Typ) (v : Value) → out-Typ t ≡ x → AllOfTypes mu rs (payload_form 1 t x) (v ∷ []) → belongs types v (reading t mu rs)
        ≡ true
    alone none (T.Tuple ts) v e h = (subst (λ b. AllOfTypes mu rs (if b then ts else t ∷ []) (v ∷ [])) (none ts e) h).0
    alone none x v e h = h.0

    pub payload_made : NoneAlone t → (v : Value) (vs : List Value) → AllOfTypes mu rs (payload_types (length (v ∷ vs)) (Some t)) (v ∷ vs)
        → belongs types (payload_of (v ∷ vs)) (reading t mu rs) ≡ true
    payload_made none v [] h = alone none (out-Typ t) v refl h
    payload_made none v (u ∷ vs) h = of_form (out-Typ t) v u vs refl h

  -- ---- a value of the union

  pub union_has : (mu : Assignment) (own : List Closed) (u c : ℕ) (js : List Index) (qs : List Reading) (v : Value) (t : Typ) → payload types u c ≡ Some t
      → belongs types v (reading t (assigned mu js) (closeds (map (closed types mu own) qs))) ≡ true
      → has types mu own (I.Named u js qs) (V.Union u c v) ≡ true
  union_has mu own u c js qs v t e h =
      let rs : List Closed = map (closed types mu own) qs in
      has_form types mu own (I.Named u js qs) (W.Named u js qs) (V.Union u c v) (I.rolls-Named u js qs)
      ∙ ap (form_holds types mu own (W.Named u js rs)) (ap out-Value (sym (V.rolls-Union u c v)) ∙ out-roll-Value (O.Union u c v))
      ∙ two (nat_eq u u) (payload_belongs (belongs types v) (assigned mu js) (closeds rs) (payload types u c)) (same_nat u)
      (ap (payload_belongs (belongs types v) (assigned mu js) (closeds rs)) e ∙ h)

-- ---- fields that are given, one after the other

pub set_here : (vs : List Value) (k : ℕ) (v : Value) → k < length vs → slice_get (slice_set vs k v) k ≡ Some v
set_here [] k v l = absurd (omega (arith, l))
set_here (w ∷ vs) zero v l = refl
set_here (w ∷ vs) (suc k) v l = set_here vs k v (omega (arith, l))

pub set_there : (vs : List Value) (k i : ℕ) (v : Value) → (i ≡ k → ⊥) → slice_get (slice_set vs k v) i ≡ slice_get vs i
set_there [] k i v h = refl
set_there (w ∷ vs) zero zero v h = absurd (h refl)
set_there (w ∷ vs) zero (suc i) v h = refl
set_there (w ∷ vs) (suc k) zero v h = refl
set_there (w ∷ vs) (suc k) (suc i) v h = set_there vs k i v (λ e. h (ap suc e))

pub set_long : (vs : List Value) (k : ℕ) (v : Value) → length (slice_set vs k v) ≡ length vs
set_long [] k v = refl
set_long (w ∷ vs) zero v = refl
set_long (w ∷ vs) (suc k) v = ap suc (set_long vs k v)
