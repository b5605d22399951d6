-- A value of a type is opened at the type at which it is made.
use Rattle.std.proofs.Common.{◌≡◌, ◌∙◌, ap, sym, refl, subst, ℕ, zero, suc, ◌+◌, ℤ, Bool, true, false, ◌||◌, ◌&&◌, List, [], ◌∷◌, length}
use Rattle.std.proofs.Common.{slice_get, arith}
use Rattle.std.specs.Prelude.{Option, Some, None, option_map}
use Rattle.std.specs.List.{list_all}
use Rattle.std.proofs.lemmas.Bool.{and_parts}
use Rattle.sail_types.specs.Limits.{is_small}
use Rattle.sail_types.specs.Places.{is_variable}
use Rattle.sail_types.specs.Sums.{number_at, variable}
use Rattle.sail_types.specs.Zero.{deepest}
use Rattle.sail_types.specs.declared.numbers.Index.{Index}
use Rattle.sail_types.specs.declared.numbers.Index.TheVariants as N
use Rattle.sail_types.specs.declared.numbers.Num.{Num}
use Rattle.sail_types.specs.declared.table.Types.{Types}
use Rattle.sail_types.specs.declared.types.Typ.{Typ, Typ-F, out-Typ, roll-Typ}
use Rattle.sail_types.specs.declared.types.Typ.TheOpen as T
use Rattle.sail_types.specs.declared.types.Typ.TheViews.{roll-out-Typ}
use Rattle.sail_types.specs.declared.types.Typ.TheVariants as U
use Rattle.value_indices.specs.declared.indices.Indices.{Indices}
use Rattle.value_indices.specs.declared.indices.Indices.TheOpen as W
use Rattle.value_indices.specs.declared.indices.Indices.TheOpen.{Reading-F}
use Rattle.value_indices.specs.declared.indices.Indices.TheViews.{out-roll-Reading}
use Rattle.value_indices.specs.declared.indices.Reading.{Reading, out-Reading}
use Rattle.value_indices.specs.declared.indices.Reading.TheVariants as R
use Rattle.value_laws.proofs.Basics.{no}
use Rattle.size_values.specs.declared.constants.Constant.{Constant}
use Rattle.size_values.specs.declared.constants.Constant.TheVariants as C
use Rattle.size_values.specs.declared.sized.Sized.{Sized}
use Rattle.size_values.specs.Numbers.{index_under, value_of}
use Rattle.size_values.specs.Sized.{hangs_on}
use Rattle.size_laws.specs.Known.{all_numbers}
use Rattle.size_laws.specs.Settled.{AreAlike, Says, SaysArgument, SaysArguments, Settled, Tells, constants, of_reading, of_type, of_types}
use Rattle.size_laws.specs.Settled.{binds, bit, bits, bool, exists, form_binds, found, int, list, more_types, named, no_types, own_variable, range, string}
use Rattle.size_laws.specs.Settled.{tells_bound, tells_plain, truth, tuple, unit, vector}
use Rattle.size_laws.proofs.Alone.{says_alone}
use Rattle.told_sizes.specs.Exact.{Opened, all_settle, are_told, exact_constants, exact_index, form_reading_tells, form_tells, front_form}
use Rattle.told_sizes.specs.Exact.{front_tells, is_bound, is_bound_alone, is_one_of, is_said, is_told, is_told_index, only_if, open_of, or_own}
use Rattle.told_sizes.specs.Exact.{reading_settles, reading_tells, typ_settles, typ_tells}
use Rattle.exact_sizes.specs.Laws.{More, Stands, TypesTell}
use Rattle.exact_sizes.proofs.Known.{none}
use Rattle.exact_sizes.proofs.Alike.{Grows, exact_grows, grows_under, where_hangs}
use Rattle.exact_sizes.proofs.Settling.{Stays, reading_settled, says, stays_under, typ_settled}

by_or : {A : Type 0} (b c : Bool) → (b || c) ≡ true → (b ≡ true → A) → (c ≡ true → A) → A
by_or true c h f g = f refl
by_or false c h f g = g h

module _ (types : Types) (own : List Sized) (m : ℕ) (f : ℕ → ℤ) (of : ℕ → Constant) (stands : Stands of f) where
  abbrev to : ℕ → Constant
  to = all_numbers f

  more : More of to
  more i z h = ap (λ (x : ℤ). Some x) (stands i z h)

  -- ---- what is bound stands for a variable

  abbrev BoundStand : List Constant → List Index → Type 0
  BoundStand cs js =
      (i : ℕ) (name : List ℕ) → slice_get cs i ≡ Some (C.Bound name) → (v : ℕ) × (number_at js i ≡ variable v) × (is_small (f v) ≡ true)

  bound_under : (name : List ℕ) (v : ℕ) → is_small (f v) ≡ true → (cs : List Constant) (js : List Index) → BoundStand cs js
      → BoundStand (C.Bound name ∷ cs) (N.Number (variable v) ∷ js)
  bound_under name v small cs js b zero other e = (v, refl, small)
  bound_under name v small cs js b (suc i) other e = b i other e

  open_is_free : (o : Option ℤ) (name : List ℕ) → Some (open_of o) ≡ Some (C.Bound name) → ⊥
  open_is_free None name e = absurd (cc)
  open_is_free (Some z) name e = absurd (cc)

  exact_is_free : (a : Index) (name : List ℕ) → Some (exact_index of a) ≡ Some (C.Bound name) → ⊥
  exact_is_free (N.Number t) name e = open_is_free (value_of of t) name e
  exact_is_free (N.Truth c) name e = absurd (cc)

  none_bound : (is : List Index) → BoundStand (exact_constants of is) is
  none_bound [] i name e = none e
  none_bound (a ∷ is) zero name e = absurd (exact_is_free a name e)
  none_bound (a ∷ is) (suc i) name e = none_bound is i name e

  -- ---- sizes

  -- one that stands alone
  abbrev AloneAt : ℕ → List Constant → Num → Type 0
  AloneAt j cs t = (i : ℕ) × (name : List ℕ) × (slice_get cs i ≡ Some (C.Bound name)) × (is_variable (j + i) t ≡ true)

  alone_here : (j : ℕ) (c : Constant) (cs : List Constant) (t : Num) → (is_bound c && is_variable j t) ≡ true → AloneAt j (c ∷ cs) t
  alone_here j (C.Number z) cs t k = no k
  alone_here j (C.Open v) cs t k = no k
  alone_here j (C.Bound name) cs t k =
      let same : j ≡ j + 0 = omega arith in
      (0, name, refl, subst (λ (n : ℕ). is_variable n t ≡ true) same k)

  alone_behind : (j : ℕ) (c : Constant) (cs : List Constant) (t : Num) → AloneAt (suc j) cs t → AloneAt j (c ∷ cs) t
  alone_behind j c cs t at =
      let same : suc j + at.0 ≡ j + suc at.0 = omega arith in
      (suc at.0, at.1, at.2, subst (λ (n : ℕ). is_variable n t ≡ true) same at.3)

  bound_there : (j : ℕ) (cs : List Constant) (t : Num) → is_bound_alone j cs t ≡ true → AloneAt j cs t
  bound_there j [] t h = no h
  bound_there j (c ∷ cs) t h =
      by_or (is_bound c && is_variable j t) (is_bound_alone (suc j) cs t) h (alone_here j c cs t)
      (λ k. alone_behind j c cs t (bound_there (suc j) cs t k))

  told : (cs : List Constant) (is js : List Index) → Grows cs (constants types own to js) → Stays cs is js → BoundStand cs js → (t : Num)
      → is_told of is cs t ≡ true → Says types own to js (constants types own to js) t
  told cs is js g s b t h =
      by_or (is_bound_alone 0 cs t) (is_said of is cs t) h alone (says types own m f of stands cs (constants types own to js) is js g s t)
    where
      alone : is_bound_alone 0 cs t ≡ true → Says types own to js (constants types own to js) t
      alone k =
          let at = bound_there 0 cs t k in
          let v = b at.0 at.1 at.2 in
          let same : 0 + at.0 ≡ at.0 = omega arith in
          says_alone f types own js at.0 v.0 t v.1 (subst (λ (n : ℕ). is_variable n t ≡ true) same at.3) v.2

  told_argument : (cs : List Constant) (is js : List Index) → Grows cs (constants types own to js) → Stays cs is js → BoundStand cs js → (a : Index)
      → is_told_index of is cs a ≡ true → SaysArgument types own to js (constants types own to js) a
  told_argument cs is js g s b (N.Number t) h =
      let k = told cs is js g s b t h in
      record { said = N.Number k.said; is_said = ap (λ (o : Option Num). option_map N.Number o) k.is_said; same = k.same }
  told_argument cs is js g s b (N.Truth c) h = no h

  told_arguments : (cs : List Constant) (is js : List Index) → Grows cs (constants types own to js) → Stays cs is js → BoundStand cs js → (u n k : ℕ)
      (args : List Index) → are_told types of u n k is cs args ≡ true → SaysArguments types own to u n k js (constants types own to js) args
  told_arguments cs is js g s b u n k [] h = tt
  told_arguments cs is js g s b u n k (a ∷ args) h =
      let p = and_parts (only_if (hangs_on types u n k) (is_told_index of is cs a)) (are_told types of u n (suc k) is cs args) h in (
        λ e. told_argument cs is js g s b a (where_hangs (hangs_on types u n k) (is_told_index of is cs a) p.0 e),
        told_arguments cs is js g s b u n (suc k) args p.1,
      )

  -- types that aren't opened are the same, under the constants of what their variables stand for
  all_alike : (rs : List Reading) (js : List Index) (ts : List Typ) → AreAlike types own to rs js (constants types own to js) ts
  all_alike rs js [] = tt
  all_alike rs js (t ∷ ts) = (refl, all_alike rs js ts)

  -- ---- types

  module _ (rs : List Reading) (n : ℕ)
      (found_at : (i : ℕ) → is_one_of i n ≡ true → (js : List Index) (ds : List Constant) → Settled types own to (of_type rs js ds (U.Variable i))) where
    abbrev Settles : (Typ → Opened) → Type 0
    Settles test = (t : Typ) (cs : List Constant) (is js : List Index) → Grows cs (constants types own to js) → Stays cs is js → BoundStand cs js
        → test t n is cs ≡ true → Settled types own to (of_type rs js (constants types own to js) t)

    all_told : (test : Typ → Opened) → Settles test → (ts : List Typ) (cs : List Constant) (is js : List Index) → Grows cs (constants types own to js)
        → Stays cs is js → BoundStand cs js → all_settle test ts n is cs ≡ true → Settled types own to (of_types rs js (constants types own to js) ts)
    all_told test settles [] cs is js g s b h = no_types rs js (constants types own to js)
    all_told test settles (t ∷ ts) cs is js g s b h =
        let p = and_parts (test t n is cs) (all_settle test ts n is cs) h in
        more_types rs js (constants types own to js) t ts (settles t cs is js g s b p.0) (all_told test settles ts cs is js g s b p.1)

    form_told : (depth : ℕ) → Settles (typ_tells types of depth) → (x : Typ-F Typ) (t : Typ) → roll-Typ x ≡ t → (cs : List Constant) (is js : List Index)
        → Grows cs (constants types own to js) → Stays cs is js → BoundStand cs js
        → form_tells types of (typ_settles types of depth) (typ_tells types of depth) x n is cs ≡ true
        → Settled types own to (of_type rs js (constants types own to js) t)
    form_told depth settles T.Unit t e cs is js g s b h =
        subst (λ (d : Typ). Settled types own to (of_type rs js (constants types own to js) d)) (sym U.rolls-Unit ∙ e) (unit rs js (constants types own to js))
    form_told depth settles T.Bool t e cs is js g s b h =
        subst (λ (d : Typ). Settled types own to (of_type rs js (constants types own to js) d)) (sym U.rolls-Bool ∙ e) (bool rs js (constants types own to js))
    form_told depth settles (T.Truth c) t e cs is js g s b h =
        subst (λ (d : Typ). Settled types own to (of_type rs js (constants types own to js) d)) (sym (U.rolls-Truth c) ∙ e)
        (truth rs js (constants types own to js) c)
    form_told depth settles T.Bit t e cs is js g s b h =
        subst (λ (d : Typ). Settled types own to (of_type rs js (constants types own to js) d)) (sym U.rolls-Bit ∙ e) (bit rs js (constants types own to js))
    form_told depth settles (T.Bits l) t e cs is js g s b h =
        subst (λ (d : Typ). Settled types own to (of_type rs js (constants types own to js) d)) (sym (U.rolls-Bits l) ∙ e)
        (bits rs js (constants types own to js) l (told cs is js g s b l h))
    form_told depth settles (T.Int l) t e cs is js g s b h =
        subst (λ (d : Typ). Settled types own to (of_type rs js (constants types own to js) d)) (sym (U.rolls-Int l) ∙ e)
        (int rs js (constants types own to js) l)
    form_told depth settles (T.Range l k) t e cs is js g s b h =
        subst (λ (d : Typ). Settled types own to (of_type rs js (constants types own to js) d)) (sym (U.rolls-Range l k) ∙ e)
        (range rs js (constants types own to js) l k)
    form_told depth settles T.String t e cs is js g s b h =
        subst (λ (d : Typ). Settled types own to (of_type rs js (constants types own to js) d)) (sym U.rolls-String ∙ e)
        (string rs js (constants types own to js))
    form_told depth settles (T.List a) t e cs is js g s b h =
        subst (λ (d : Typ). Settled types own to (of_type rs js (constants types own to js) d)) (sym (U.rolls-List a) ∙ e)
        (list rs js (constants types own to js) a refl)
    form_told depth settles (T.Vector l a) t e cs is js g s b h =
        subst (λ (d : Typ). Settled types own to (of_type rs js (constants types own to js) d)) (sym (U.rolls-Vector l a) ∙ e)
        (vector rs js (constants types own to js) l a (told cs is js g s b l h) refl)
    form_told depth settles (T.Tuple ts) t e cs is js g s b h =
        subst (λ (d : Typ). Settled types own to (of_type rs js (constants types own to js) d)) (sym (U.rolls-Tuple ts) ∙ e)
        (tuple rs js (constants types own to js) ts (all_told (typ_tells types of depth) settles ts cs is js g s b h))
    form_told depth settles (T.Named u args ts) t e cs is js g s b h =
        subst (λ (d : Typ). Settled types own to (of_type rs js (constants types own to js) d)) (sym (U.rolls-Named u args ts) ∙ e)
        (named rs js (constants types own to js) u args ts (told_arguments cs is js g s b u (length args) 0 args h) (all_alike rs js ts))
    form_told depth settles (T.Variable i) t e cs is js g s b h =
        subst (λ (d : Typ). Settled types own to (of_type rs js (constants types own to js) d)) (sym (U.rolls-Variable i) ∙ e)
        (found_at i h js (constants types own to js))
    form_told depth settles (T.Exists name c a) t e cs is js g s b h =
        let ds : List Constant = constants types own to js in
        subst (λ (d : Typ). Settled types own to (of_type rs js ds d)) (sym (U.rolls-Exists name c a) ∙ e)
        (exists rs js ds name c a (λ v.
        typ_settled types own m f of stands rs n found_at depth a (C.Bound name ∷ cs) (C.Bound name ∷ ds) (N.Number (variable 0) ∷ is)
        (N.Number (variable v) ∷ js) (grows_under name (C.Bound name) cs ds g) (grows_under name (index_under to (N.Number (variable v))) cs ds g)
        (stays_under name (N.Number (variable 0)) (N.Number (variable v)) cs is js s) h))

    typ_told : (depth : ℕ) → Settles (typ_tells types of depth)
    typ_told zero t cs is js g s b h = no h
    typ_told (suc depth) t cs is js g s b h = form_told depth (typ_told depth) (out-Typ t) t (roll-out-Typ t) cs is js g s b h

    -- ---- what is bound at the front

    abbrev Fronts : (Typ → Opened) → Type 0
    Fronts test = (t : Typ) (cs : List Constant) (is js : List Index) → Grows cs (constants types own to js) → Stays cs is js → BoundStand cs js
        → test t n is cs ≡ true → Tells types own f rs js t

    behind : (depth : ℕ) (t : Typ) → binds t ≡ false → (cs : List Constant) (is js : List Index) → Grows cs (constants types own to js) → Stays cs is js
        → BoundStand cs js → typ_tells types of (suc depth) t n is cs ≡ true → Tells types own f rs js t
    behind depth t e cs is js g s b h = tells_plain js t e (typ_told (suc depth) t cs is js g s b h)

    front_told : (depth : ℕ) → Fronts (front_tells types of depth) → (x : Typ-F Typ) (t : Typ) → out-Typ t ≡ x → roll-Typ x ≡ t → (cs : List Constant)
        (is js : List Index) → Grows cs (constants types own to js) → Stays cs is js → BoundStand cs js
        → front_form (front_tells types of depth) (typ_tells types of (suc depth) t) x n is cs ≡ true → Tells types own f rs js t
    front_told depth inside (T.Exists name c a) t q e cs is js g s b h =
        subst (λ (d : Typ). Tells types own f rs js d) (sym (U.rolls-Exists name c a) ∙ e)
        (tells_bound js name c a (λ v small.
        inside a (C.Bound name ∷ cs) (N.Number (variable 0) ∷ is) (N.Number (variable v) ∷ js)
        (grows_under name (index_under to (N.Number (variable v))) cs (constants types own to js) g)
        (stays_under name (N.Number (variable 0)) (N.Number (variable v)) cs is js s) (bound_under name v small cs js b) h))
    front_told depth inside x t q e cs is js g s b h = behind depth t (ap form_binds q) cs is js g s b h

    typ_fronts : (depth : ℕ) → Fronts (front_tells types of depth)
    typ_fronts zero t cs is js g s b h = no h
    typ_fronts (suc depth) t cs is js g s b h = front_told depth (typ_fronts depth) (out-Typ t) t refl (roll-out-Typ t) cs is js g s b h

  -- ---- types of the walk

  found_there : (rs : List Reading) → list_all (reading_settles types m of) rs ≡ true → (i : ℕ) → is_one_of i (length rs) ≡ true
      → (r : Reading) × (slice_get rs i ≡ Some r) × Settled types own to (of_reading r)
  found_there [] h i k = no k
  found_there (r ∷ rs) h zero k =
      (r, refl, reading_settled types own m f of stands r (and_parts (reading_settles types m of r) (list_all (reading_settles types m of) rs) h).0)
  found_there (r ∷ rs) h (suc i) k = found_there rs (and_parts (reading_settles types m of r) (list_all (reading_settles types m of) rs) h).1 i k

  variable_there : (rs : List Reading) → list_all (reading_settles types m of) rs ≡ true → (i : ℕ) → is_one_of i (or_own m (length rs)) ≡ true
      → (js : List Index) (ds : List Constant) → Settled types own to (of_type rs js ds (U.Variable i))
  variable_there [] h i k js ds = own_variable [] js ds i refl refl
  variable_there (r ∷ rs) h i k js ds =
      let q = found_there (r ∷ rs) h i k in
      found (r ∷ rs) js ds i q.0 q.1 q.2

  pub form_of_tells : (t : Typ) (is : List Index) (rs : List Reading)
      → (list_all (reading_settles types m of) rs && front_tells types of deepest t (or_own m (length rs)) is (exact_constants of is)) ≡ true
      → Tells types own f rs is t
  form_of_tells t is rs h =
      let p = and_parts (list_all (reading_settles types m of) rs) (front_tells types of deepest t (or_own m (length rs)) is (exact_constants of is)) h in
      typ_fronts rs (or_own m (length rs)) (variable_there rs p.0) deepest t (exact_constants of is) is is (exact_grows of to more is) (λ i z k. refl)
      (none_bound is) p.1

  type_tells : (t : Typ) (is : List Index) (rs : List Reading) → reading_tells types m of (R.Of t is rs) ≡ true → Tells types own f rs is t
  type_tells t is rs h =
      let form : out-Reading (R.Of t is rs) ≡ W.Of t is rs = ap out-Reading (sym (R.rolls-Of t is rs)) ∙ out-roll-Reading (W.Of t is rs) in
      form_of_tells t is rs (subst (λ (x : Reading-F Indices Reading). form_reading_tells types m of (R.Of t is rs) x ≡ true) form h)

pub types_tell : TypesTell
types_tell types own m f of stands t is rs h = type_tells types own m f of stands t is rs h
