-- The place of a variable, and what a value and its indices give there.
use Rattle.std.proofs.Common.{◌≡◌, ℕ, zero, suc, ◌+◌, ◌≤◌, ◌<◌, nat_eq, nat_lt, Bool, true, false, List, [], ◌∷◌, map, length, slice_get}
use Rattle.std.proofs.Common.{Option, Some, None, refl, sym, ap, ◌∙◌, subst, arith}
use Rattle.std.proofs.lemmas.Bool.{and_parts, ltb-false, ltb-true}
use Rattle.std.proofs.lemmas.Bool.Decides.{Decides-eqb}
use Rattle.sail_base.specs.declared.kind.Kind.{Kind}
use Rattle.sail_base.specs.declared.kind.Kind.TheVariants as K
use Rattle.sail_types.specs.Belongs.{Readings as Closeds, reading, under, each_belongs, given_belongs, belongs}
use Rattle.sail_types.specs.Numbers.{Assignment, true_in}
use Rattle.sail_types.specs.Places.{Given, an_int, a_bool, first, only}
use Rattle.sail_types.specs.Places as Of
use Rattle.sail_types.specs.declared.numbers.Con.{Con}
use Rattle.sail_types.specs.declared.numbers.Index.{Index}
use Rattle.sail_types.specs.declared.table.Parameter.{Parameter}
use Rattle.sail_types.specs.declared.table.Types.{Types}
use Rattle.sail_types.specs.declared.types.Typ.{Typ, Typ-F, roll-Typ}
use Rattle.sail_types.specs.declared.types.Typ.TheFolds.{fold-roll-Typ, ind-Typ, map-Typ}
use Rattle.sail_types.specs.declared.types.Typ.TheOpen as T
use Rattle.sail_types.specs.declared.values.Value.{Value, Value-F, out-Value}
use Rattle.sail_types.specs.declared.values.Value.TheOpen as V
use Rattle.value_indices.specs.declared.indices.Indices.{Indices, out-Indices}
use Rattle.value_indices.specs.declared.indices.Indices.TheOpen as W
use Rattle.value_indices.specs.declared.indices.Indices.TheOpen.{Indices-F}
use Rattle.value_indices.specs.declared.indices.Reading.{Reading}
use Rattle.value_fits.specs.Fitting as In
use Rattle.call_arguments.specs.Callees.{numbers_from, or_zero}
use Rattle.value_laws.proofs.Alike.{asks}
use Rattle.value_laws.proofs.Basics.{fronts, no}
use Rattle.value_laws.proofs.Values.{inner, form_asked, belongs_form, inner_is}
use Rattle.fitting_laws.proofs.Holes.{none}
use Rattle.fitting_laws.proofs.Places.{index_placed, value_placed}
use Rattle.fitting_laws.proofs.Standing.{back}
use Rattle.call_fits.specs.Calls.{EachHasPlace, Kinds, among_as, form_as, placed_as}

pub as_form : (x : Typ-F Typ) (t : Typ) (j : ℕ) → roll-Typ x ≡ t → placed_as t j ≡ form_as (map-Typ Typ Kinds placed_as x) j
as_form x t j e = ap (λ u. placed_as u j) (sym e) ∙ ap (λ p. p j) (fold-roll-Typ Kinds form_as x)

-- ---- where indices give a number there is a place

IndexPlaced : Typ → Type 0
IndexPlaced t = (j : ℕ) (i : Indices) (x : Index) → In.placed t j i ≡ Some x → (b : Bool) × (placed_as t j ≡ Some b)

abbrev SuchTyp : Type 0
SuchTyp = (t : Typ) × IndexPlaced t

abbrev types_in : List SuchTyp → List Typ
types_in ys = map (λ (y : SuchTyp). y.0) ys

only_as : (b k : Bool) (x y : Index) → only b x ≡ Some y → (c : Bool) × (only b k ≡ Some c)
only_as true k x y e = (k, refl)
only_as false k x y e = none e

first_as : (o : Option Index) (x : Index) (p q : Option Bool) (rest : Option Index) → first o rest ≡ Some x
    → ((y : Index) → o ≡ Some y → (b : Bool) × (p ≡ Some b)) → (rest ≡ Some x → (b : Bool) × (q ≡ Some b)) → (b : Bool) × (first p q ≡ Some b)
first_as (Some y) x p q rest e h k = let a = h y refl in (a.0, ap (λ o. first o q) a.1)
first_as None x None q rest e h k = k e
first_as None x (Some b) q rest e h k = (b, refl)

parts_placed : (ys : List SuchTyp) (j : ℕ) (is : List Indices) (x : Index) → In.among (map In.placed (types_in ys)) j is ≡ Some x
    → (b : Bool) × (among_as (map placed_as (types_in ys)) j ≡ Some b)
unfolding IndexPlaced
parts_placed [] j is x e = none e
parts_placed (y ∷ ys) j [] x e = none e
parts_placed (y ∷ ys) j (i ∷ is) x e =
    first_as (In.placed y.0 j i) x (placed_as y.0 j) (among_as (map placed_as (types_in ys)) j) (In.among (map In.placed (types_in ys)) j is) e
    (λ z d. y.1 j i z d) (λ d. parts_placed ys j is x d)

form_placed_as : (y : Typ-F SuchTyp) (j : ℕ) (w : Indices-F Indices Reading) (x : Index)
    → In.form_place (map-Typ Typ In.Placed In.placed (map-Typ SuchTyp Typ (λ p. p.0) y)) j w ≡ Some x
    → (b : Bool) × (form_as (map-Typ Typ Kinds placed_as (map-Typ SuchTyp Typ (λ p. p.0) y)) j ≡ Some b)
form_placed_as (T.Int t) j (W.Integer n) x e = only_as _ false _ x e
form_placed_as (T.Truth c) j (W.Truth d) x e = only_as _ true _ x e
form_placed_as (T.Bits t) j (W.Bits n) x e = only_as _ false _ x e
form_placed_as (T.Vector t y) j (W.Vector n r) x e = only_as _ false _ x e
form_placed_as (T.Tuple ys) j (W.Tuple is) x e = parts_placed ys j is x e
form_placed_as y j w x e = none e

index_step : (y : Typ-F SuchTyp) → IndexPlaced (roll-Typ (map-Typ SuchTyp Typ (λ p. p.0) y))
unfolding IndexPlaced
index_step (T.Exists name c y) j i x e =
    let t = roll-Typ (T.Exists name c y.0) in
    let k = y.1 (suc j) i x (sym (index_placed (T.Exists name c y.0) t j i refl) ∙ e) in (k.0, as_form (T.Exists name c y.0) t j refl ∙ k.1)
index_step y j i x e =
    let u = map-Typ SuchTyp Typ (λ p. p.0) y in
    let k = form_placed_as y j (out-Indices i) x (sym (index_placed u (roll-Typ u) j i refl) ∙ e) in (k.0, as_form u (roll-Typ u) j refl ∙ k.1)

index_placed_as : (t : Typ) → IndexPlaced t
index_placed_as = ind-Typ IndexPlaced (λ e y same_form. subst (λ d. IndexPlaced (roll-Typ d)) same_form (index_step y))

pub index_kind : (t : Typ) (j : ℕ) (i : Indices) (x : Index) → In.placed t j i ≡ Some x → (b : Bool) × (placed_as t j ≡ Some b)
unfolding IndexPlaced
index_kind t j i x e = index_placed_as t j i x e

pub among_placed_as : (ts : List Typ) (j : ℕ) (is : List Indices) (x : Index) → In.among (map In.placed ts) j is ≡ Some x
    → (b : Bool) × (among_as (map placed_as ts) j ≡ Some b)
unfolding IndexPlaced
among_placed_as [] j is x e = none e
among_placed_as (t ∷ ts) j [] x e = none e
among_placed_as (t ∷ ts) j (i ∷ is) x e =
    first_as (In.placed t j i) x (placed_as t j) (among_as (map placed_as ts) j) (In.among (map In.placed ts) j is) e
    (λ y d. index_placed_as t j i y d) (λ d. among_placed_as ts j is x d)

-- ---- a value of a type gives what the place says: a number or a truth

abbrev pub kind_there : Option Given → Option Bool
kind_there None = None
kind_there (Some (an_int z)) = Some false
kind_there (Some (a_bool b)) = Some true

kind_first : (o p : Option Given) → kind_there (first o p) ≡ first (kind_there o) (kind_there p)
kind_first None p = refl
kind_first (Some (an_int z)) p = refl
kind_first (Some (a_bool b)) p = refl

kind_only : (b : Bool) (given : Given) (k : Bool) → kind_there (Some given) ≡ Some k → kind_there (only b given) ≡ only b k
kind_only true given k e = e
kind_only false given k e = refl

module _ (types : Types) where
  ValueKind : Typ → Type 0
  ValueKind t = (j : ℕ) (v : Value) (mu : Assignment) (rs : Closeds) → belongs types v (reading t mu rs) ≡ true → kind_there (Of.placed t j v) ≡ placed_as t j

  abbrev Such : Type 0
  Such = (t : Typ) × ValueKind t

  abbrev typs_in : List Such → List Typ
  typs_in ys = map (λ (y : Such). y.0) ys

  abbrev typ_form : Typ-F Such → Typ-F Typ
  typ_form y = map-Typ Such Typ (λ p. p.0) y

  parts_kind : (ys : List Such) (j : ℕ) (vs : List Value) (mu : Assignment) (rs : Closeds) → each_belongs (asks types vs) mu rs (typs_in ys) ≡ true
      → kind_there (Of.among (map Of.placed (typs_in ys)) j vs) ≡ among_as (map placed_as (typs_in ys)) j
  unfolding ValueKind
  parts_kind [] j [] mu rs h = refl
  parts_kind [] j (v ∷ vs) mu rs h = no h
  parts_kind (y ∷ ys) j [] mu rs h = no h
  parts_kind (y ∷ ys) j (v ∷ vs) mu rs h =
      let k = and_parts (belongs types v (reading y.0 mu rs)) (each_belongs (asks types vs) mu rs (typs_in ys)) h in
      kind_first (Of.placed y.0 j v) (Of.among (map Of.placed (typs_in ys)) j vs)
      ∙ (λ i. first (y.1 j v mu rs k.0 i) (parts_kind ys j vs mu rs k.1 i))

  -- a type that binds no variable
  abbrev binds_none : Typ-F Such → Bool
  binds_none (T.Exists name c y) = false
  binds_none y = true

  form_kind : (y : Typ-F Such) (j : ℕ) (w : Value-F Value) (mu : Assignment) (rs : Closeds) → binds_none y ≡ true → form_asked types w (typ_form y) mu rs ≡ true
      → kind_there (Of.form_place (map-Typ Typ Of.Placed Of.placed (typ_form y)) j w) ≡ form_as (map-Typ Typ Kinds placed_as (typ_form y)) j
  form_kind (T.Int t) j (V.Integer z) mu rs b h = kind_only _ (an_int z) false refl
  form_kind (T.Int t) j w mu rs b h = no h
  form_kind (T.Truth c) j (V.Truth d) mu rs b h = kind_only _ (a_bool d) true refl
  form_kind (T.Truth c) j w mu rs b h = no h
  form_kind (T.Bits t) j (V.Bits bits) mu rs b h = kind_only _ _ false refl
  form_kind (T.Bits t) j w mu rs b h = no h
  form_kind (T.Vector t y) j (V.Vector vs) mu rs b h = kind_only _ _ false refl
  form_kind (T.Vector t y) j w mu rs b h = no h
  form_kind (T.Tuple ys) j (V.Tuple vs) mu rs b h =
      parts_kind ys j vs mu rs (ap (each_belongs (asks types vs) mu rs) (sym (fronts (inner types (V.Tuple vs) rs) (typs_in ys))) ∙ h)
  form_kind (T.Tuple ys) j w mu rs b h = no h
  form_kind (T.Exists name c y) j w mu rs b h = no b
  form_kind y j w mu rs b h = refl

  exists_kind : (y : Such) (c : Con) (j : ℕ) (v : Value) (mu : Assignment) (rs : Closeds) (given : Option Given)
      → given_belongs given mu c (inner types (out-Value v) rs y.0) ≡ true → kind_there (Of.placed y.0 (suc j) v) ≡ placed_as y.0 (suc j)
  unfolding ValueKind
  exists_kind y c j v mu rs (Some (an_int z)) h =
      let k = and_parts (true_in (under z mu) c) (inner types (out-Value v) rs y.0 (under z mu)) h in
      y.1 (suc j) v (under z mu) rs (sym (inner_is types v y.0 (under z mu) rs) ∙ k.1)
  exists_kind y c j v mu rs (Some (a_bool b)) h = no h
  exists_kind y c j v mu rs None h = no h

  kind_step : (y : Typ-F Such) → ValueKind (roll-Typ (typ_form y))
  unfolding ValueKind
  kind_step (T.Exists name c y) j v mu rs h =
      let x : Typ-F Typ = T.Exists name c y.0 in
      ap kind_there (value_placed x (roll-Typ x) j v refl)
      ∙ exists_kind y c j v mu rs (Of.placed y.0 0 v)
      (ap (λ u. given_belongs (Of.placed y.0 0 u) mu c (inner types (out-Value v) rs y.0)) (sym (back types v))
      ∙ sym (belongs_form types v x (roll-Typ x) mu rs refl) ∙ h)
      ∙ sym (as_form x (roll-Typ x) j refl)
  kind_step y j v mu rs h =
      let x = typ_form y in
      ap kind_there (value_placed x (roll-Typ x) j v refl)
      ∙ form_kind y j (out-Value v) mu rs refl (sym (belongs_form types v x (roll-Typ x) mu rs refl) ∙ h)
      ∙ sym (as_form x (roll-Typ x) j refl)

  value_kind : (t : Typ) → ValueKind t
  value_kind = ind-Typ ValueKind (λ e y same_form. subst (λ d. ValueKind (roll-Typ d)) same_form (kind_step y))

  pub placed_kind : (t : Typ) (j : ℕ) (v : Value) (mu : Assignment) (rs : Closeds) → belongs types v (reading t mu rs) ≡ true
      → kind_there (Of.placed t j v) ≡ placed_as t j
  unfolding ValueKind
  placed_kind t j v mu rs h = value_kind t j v mu rs h

  pub among_kind : (ts : List Typ) (j : ℕ) (vs : List Value) (mu : Assignment) (rs : Closeds) → each_belongs (asks types vs) mu rs ts ≡ true
      → kind_there (Of.among (map Of.placed ts) j vs) ≡ among_as (map placed_as ts) j
  unfolding ValueKind
  among_kind [] j [] mu rs h = refl
  among_kind [] j (v ∷ vs) mu rs h = no h
  among_kind (t ∷ ts) j [] mu rs h = no h
  among_kind (t ∷ ts) j (v ∷ vs) mu rs h =
      let k = and_parts (belongs types v (reading t mu rs)) (each_belongs (asks types vs) mu rs ts) h in
      kind_first (Of.placed t j v) (Of.among (map Of.placed ts) j vs) ∙ (λ i. first (value_kind t j v mu rs k.0 i) (among_kind ts j vs mu rs k.1 i))

-- ---- the numbers of a callee's variables

pub or_some : (kind : Kind) (x : Index) → or_zero kind (Some x) ≡ x
or_some K.Int x = refl
or_some K.Bool x = refl
or_some K.Type x = refl

pub numbers_length : (j : ℕ) (ps : List Parameter) (ts : List Typ) (is : List Indices) → length (numbers_from j ps ts is) ≡ length ps
numbers_length j [] ts is = refl
numbers_length j (p ∷ ps) ts is = ap suc (numbers_length (suc j) ps ts is)

numbers_at : (j : ℕ) (ps : List Parameter) (ts : List Typ) (is : List Indices) (m i : ℕ) (p : Parameter) (x : Index) → i ≡ j + m
    → slice_get ps m ≡ Some p → In.among (map In.placed ts) i is ≡ Some x → slice_get (numbers_from j ps ts is) m ≡ Some x
numbers_at j [] ts is m i p x e d h = none d
numbers_at j (q ∷ ps) ts is zero i p x e d h =
    let at : i ≡ j = omega (arith, e) in
    ap Some (ap (or_zero q.kind) (ap (λ k. In.among (map In.placed ts) k is) (sym at) ∙ h) ∙ or_some q.kind x)
numbers_at j (q ∷ ps) ts is (suc m) i p x e d h = numbers_at (suc j) ps ts is m i p x (omega (arith, e)) d h

some_below : (ps : List Parameter) (m : ℕ) (p : Parameter) → slice_get ps m ≡ Some p → m < length ps
some_below [] m p e = none e
some_below (q ∷ ps) zero p e = omega arith
some_below (q ∷ ps) (suc m) p e = let k : m < length ps = some_below ps m p e in omega (arith, k)

above : (i j : ℕ) → j ≤ i → nat_eq i j ≡ false → suc j ≤ i
above i j l d = by (nat_lt j i) refl
  where
    by : (b : Bool) → nat_lt j i ≡ b → suc j ≤ i
    by true e = let k : j < i = ltb-true j i e in omega (arith, k)
    by false e = let k : i ≤ j = ltb-false j i e in let p : i ≡ j = omega (arith, k, l) in no (sym d ∙ (Decides-eqb i j).1 p)

-- a variable with a place is one of the function's
place_of : (j : ℕ) (ps : List Parameter) (ts : List Typ) → EachHasPlace j ps ts → (i : ℕ) → j ≤ i → (b : Bool) → among_as (map placed_as ts) i ≡ Some b
    → (m : ℕ) × (i ≡ j + m) × ((p : Parameter) × (slice_get ps m ≡ Some p))
place_of j [] ts h i l b e = none (sym (h i l) ∙ e)
place_of j (p ∷ ps) ts h i l b e = by (nat_eq i j) refl (λ m. place_of (suc j) ps ts h.1 i m b e)
  where
    by : (c : Bool) → nat_eq i j ≡ c → (suc j ≤ i → (m : ℕ) × (i ≡ suc j + m) × ((q : Parameter) × (slice_get ps m ≡ Some q)))
        → (m : ℕ) × (i ≡ j + m) × ((q : Parameter) × (slice_get (p ∷ ps) m ≡ Some q))
    by true d more = let k : i ≡ j = (Decides-eqb i j).0 d in (0, omega (arith, k), (p, refl))
    by false d more = let r = more (above i j l d) in (suc r.0, let k : i ≡ suc j + r.0 = r.1 in omega (arith, k), r.2)

pub given_at : (ps : List Parameter) (ts : List Typ) (is : List Indices) → EachHasPlace 0 ps ts → (i : ℕ) (x : Index)
    → In.among (map In.placed ts) i is ≡ Some x → (i < length (numbers_from 0 ps ts is)) × (slice_get (numbers_from 0 ps ts is) i ≡ Some x)
given_at ps ts is h i x e =
    let k = among_placed_as ts i is x e in
    let r = place_of 0 ps ts h i (omega arith) k.0 k.1 in
    let m : r.0 ≡ i = (let d : i ≡ 0 + r.0 = r.1 in omega (arith, d)) in
    let less : r.0 < length ps = some_below ps r.0 r.2.0 r.2.1 in
    let same : length (numbers_from 0 ps ts is) ≡ length ps = numbers_length 0 ps ts is in (
      omega (arith, less, m, same),
      subst (λ k. slice_get (numbers_from 0 ps ts is) k ≡ Some x) m (numbers_at 0 ps ts is r.0 i r.2.0 x r.1 r.2.1 e),
    )
