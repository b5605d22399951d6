-- A type whose sizes are constants for certain is the same under more constants.
use Rattle.std.proofs.Common.{◌≡◌, ◌∙◌, ap, sym, refl, ℕ, zero, suc, ℤ, Bool, true, false, List, [], ◌∷◌, map, length}
use Rattle.std.specs.Prelude.{Option, Some, None}
use Rattle.std.proofs.lemmas.Bool.{and_parts}
use Rattle.std.proofs.lemmas.List.{length-map}
use Rattle.sail_types.specs.declared.numbers.Index.{Index}
use Rattle.sail_types.specs.declared.numbers.Index.TheVariants as N
use Rattle.sail_types.specs.declared.numbers.Num.{Num}
use Rattle.sail_types.specs.declared.table.Types.{Types}
use Rattle.sail_types.specs.declared.types.Typ.{Typ, Typ-F, out-Typ}
use Rattle.sail_types.specs.declared.types.Typ.TheOpen as T
use Rattle.sail_types.specs.declared.types.Typ.TheViews.{roll-out-Typ}
use Rattle.value_laws.proofs.Basics.{no}
use Rattle.size_values.specs.declared.constants.Constant.{Constant}
use Rattle.size_values.specs.declared.constants.Constant.TheVariants as C
use Rattle.size_values.specs.declared.sized.Sized.{Sized}
use Rattle.size_values.specs.declared.sized.Sized.TheVariants as S
use Rattle.size_values.specs.Numbers.{argument_of, constant_under, index_under, number_in, value_of}
use Rattle.size_values.specs.Sized.{UnderConstants, each_sized, form_sized, hangs_on, integer_of, named_numbers, number_where, numbers_from, typ_sized}
use Rattle.checked_meaning.specs.Items.{constant_of}
use Rattle.size_laws.proofs.Forms.{in_type, typ_is}
use Rattle.told_sizes.specs.declared.applied.Applied.{Applied}
use Rattle.told_sizes.specs.Exact.{are_exact, exact_constants, form_passes, is_exact, is_exact_index, named_passes, only_if, open_of}
use Rattle.told_sizes.specs.Exact.{all_pass, typ_passes, Test}
use Rattle.exact_sizes.specs.Laws.{More}
use Rattle.exact_sizes.proofs.Known.{exact_value, none, number_constant_is, number_more}

-- ---- numbers and arguments

pub number_same : (of to : ℕ → Constant) → More of to → (t : Num) → is_exact of t ≡ true → constant_under of t ≡ constant_under to t
number_same of to more t h =
    let k = exact_value of t h in
    number_constant_is of t k.0 k.1 ∙ sym (number_more of to more t k.0 k.1)

pub index_same : (of to : ℕ → Constant) → More of to → (a : Index) → is_exact_index of a ≡ true → index_under of a ≡ index_under to a
index_same of to more (N.Number t) h = number_same of to more t h
index_same of to more (N.Truth c) h = no h

where_same : (b : Bool) (c d : Constant) → (b ≡ true → c ≡ d) → number_where b c ≡ number_where b d
where_same true c d h = ap (λ (x : Constant). Some (integer_of x)) (h refl)
where_same false c d h = refl

pub where_hangs : (b t : Bool) → only_if b t ≡ true → b ≡ true → t ≡ true
where_hangs true t h e = h
where_hangs false t h e = no e

module _ (types : Types) (of to : ℕ → Constant) (more : More of to) (u n : ℕ) where
  numbers_same : (k : ℕ) (args : List Index) → are_exact types of u n k args ≡ true
      → numbers_from types u n k (map (index_under of) args) ≡ numbers_from types u n k (map (index_under to) args)
  numbers_same k [] h = refl
  numbers_same k (a ∷ args) h =
      let p = and_parts (only_if (hangs_on types u n k) (is_exact_index of a)) (are_exact types of u n (suc k) args) h in
      let first = where_same (hangs_on types u n k) (index_under of a) (index_under to a)
      (λ e. index_same of to more a (where_hangs (hangs_on types u n k) (is_exact_index of a) p.0 e)) in
      let rest = numbers_same (suc k) args p.1 in
      λ j. first j ∷ rest j

pub named_same : (types : Types) (of to : ℕ → Constant) → More of to → (u : ℕ) (args : List Index) → are_exact types of u (length args) 0 args ≡ true
    → named_numbers types u (map (index_under of) args) ≡ named_numbers types u (map (index_under to) args)
named_same types of to more u args h =
    ap (λ n. numbers_from types u n 0 (map (index_under of) args)) (length-map args (index_under of))
    ∙ numbers_same types of to more u (length args) 0 args h
    ∙ ap (λ n. numbers_from types u n 0 (map (index_under to) args)) (sym (length-map args (index_under to)))

-- ---- constants for the variables of a type

abbrev pub Grows : List Constant → List Constant → Type 0
Grows cs ds = More (argument_of cs) (argument_of ds)

pub grows_under : (name : List ℕ) (d : Constant) (cs ds : List Constant) → Grows cs ds → Grows (C.Bound name ∷ cs) (d ∷ ds)
grows_under name d cs ds g zero z h = none h
grows_under name d cs ds g (suc i) z h = g i z h

-- of the numbers of a named type those that are there
pub open_grows : (zs : List (Option ℤ)) → Grows (map open_of zs) (map constant_of zs)
open_grows [] i z h = h
open_grows (None ∷ zs) zero z h = none h
open_grows (Some x ∷ zs) zero z h = h
open_grows (x ∷ zs) (suc i) z h = open_grows zs i z h

-- those that are exact
pub exact_open : (o : Option ℤ) (z : ℤ) → number_in (open_of o) ≡ Some z → o ≡ Some z
exact_open None z h = none h
exact_open (Some x) z h = h

pub exact_grows : (of to : ℕ → Constant) → More of to → (is : List Index) → Grows (exact_constants of is) (map (index_under to) is)
exact_grows of to more [] i z h = h
exact_grows of to more (N.Number t ∷ is) zero z h = ap number_in (number_more of to more t z (exact_open (value_of of t) z h))
exact_grows of to more (N.Truth c ∷ is) zero z h = none h
exact_grows of to more (a ∷ is) (suc i) z h = exact_grows of to more is i z h

-- ---- types

module _ (types : Types) (ss : List Sized) where
  abbrev pub sized_in : Typ-F Typ → Typ-F UnderConstants
  sized_in x = in_type types [] (argument_of []) ss x

  pub sized_form : (t : Typ) (cs : List Constant) → typ_sized types ss t cs ≡ form_sized types ss (sized_in (out-Typ t)) cs
  sized_form t cs = typ_is types [] (argument_of []) ss t (out-Typ t) cs (roll-out-Typ t)

  abbrev Same : (Typ → Test) → Type 0
  Same test = (t : Typ) (seen : List Applied) (n : ℕ) (cs ds : List Constant) → Grows cs ds → test t seen n cs ≡ true
      → typ_sized types ss t cs ≡ typ_sized types ss t ds

  all_same : (test : Typ → Test) → Same test → (seen : List Applied) (n : ℕ) (cs ds : List Constant) → Grows cs ds → (ts : List Typ)
      → all_pass test ts seen n cs ≡ true → each_sized (map (typ_sized types ss) ts) cs ≡ each_sized (map (typ_sized types ss) ts) ds
  all_same test same seen n cs ds g [] h = refl
  all_same test same seen n cs ds g (t ∷ ts) h =
      let p = and_parts (test t seen n cs) (all_pass test ts seen n cs) h in
      let first = same t seen n cs ds g p.0 in
      let rest = all_same test same seen n cs ds g ts p.1 in
      λ j. first j ∷ rest j

  form_same : (test : Typ → Test) → Same test → (x : Typ-F Typ) (seen : List Applied) (n : ℕ) (cs ds : List Constant) → Grows cs ds
      → form_passes types test x seen n cs ≡ true
      → form_sized types ss (sized_in x) cs ≡ form_sized types ss (sized_in x) ds
  form_same test same T.Unit seen n cs ds g h = refl
  form_same test same T.Bool seen n cs ds g h = refl
  form_same test same (T.Truth c) seen n cs ds g h = refl
  form_same test same T.Bit seen n cs ds g h = refl
  form_same test same (T.Bits t) seen n cs ds g h =
      ap (λ (c : Constant). S.Bits (integer_of c)) (number_same (argument_of cs) (argument_of ds) g t h)
  form_same test same (T.Int t) seen n cs ds g h = refl
  form_same test same (T.Range t u) seen n cs ds g h = refl
  form_same test same T.String seen n cs ds g h = refl
  form_same test same (T.List t) seen n cs ds g h = ap (λ (s : Sized). S.List s) (same t seen n cs ds g h)
  form_same test same (T.Vector m t) seen n cs ds g h =
      let p = and_parts (is_exact (argument_of cs) m) (test t seen n cs) h in
      ap (λ (c : Constant). S.Vector (integer_of c) (typ_sized types ss t cs)) (number_same (argument_of cs) (argument_of ds) g m p.0)
      ∙ ap (λ (s : Sized). S.Vector (integer_of (constant_under (argument_of ds) m)) s) (same t seen n cs ds g p.1)
  form_same test same (T.Tuple ts) seen n cs ds g h = ap (λ (l : List Sized). S.Tuple l) (all_same test same seen n cs ds g ts h)
  form_same test same (T.Named u args ts) seen n cs ds g h =
      let p = and_parts (all_pass test ts seen n cs) (named_passes types test (argument_of cs) u args (length ts) seen) h in
      let q = and_parts (are_exact types (argument_of cs) u (length args) 0 args) _ p.1 in
      ap (λ (l : List (Option ℤ)). S.Named u l (each_sized (map (typ_sized types ss) ts) cs))
      (named_same types (argument_of cs) (argument_of ds) g u args q.0)
      ∙ ap (λ (l : List Sized). S.Named u (named_numbers types u (map (index_under (argument_of ds)) args)) l) (all_same test same seen n cs ds g ts p.0)
  form_same test same (T.Variable i) seen n cs ds g h = refl
  form_same test same (T.Exists name c t) seen n cs ds g h =
      same t seen n (C.Bound name ∷ cs) (C.Bound name ∷ ds) (grows_under name (C.Bound name) cs ds g) h

  pub typ_same : (depth : ℕ) → Same (typ_passes types depth)
  typ_same zero t seen n cs ds g h = no h
  typ_same (suc depth) t seen n cs ds g h =
      sized_form t cs ∙ form_same (typ_passes types depth) (typ_same depth) (out-Typ t) seen n cs ds g h ∙ sym (sized_form t ds)
