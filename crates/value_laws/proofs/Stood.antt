-- Types of the walk with what their variables stand for, and when that hangs on fixed variables alone.
use Rattle.std.proofs.Common.{◌≡◌, ℕ, zero, suc, List, [], ◌∷◌, map, slice_get, Some, None, option_map, refl, sym, ap, ◌∙◌}
use Rattle.std.proofs.lemmas.Option.{slice_get-map}
use Rattle.sail_types.specs.Belongs.{Reading as Closed, Readings as Closeds, reading, no_readings, more_readings, read_each, belongs}
use Rattle.sail_types.specs.Numbers.{Assignment, Positive}
use Rattle.sail_types.specs.declared.numbers.Index.{Index}
use Rattle.sail_types.specs.declared.table.Types.{Types}
use Rattle.sail_types.specs.declared.types.Typ.{Typ, Typ-F, out-Typ}
use Rattle.sail_types.specs.declared.types.Typ.TheOpen as T
use Rattle.sail_types.specs.declared.types.Typ.TheViews.{out-roll-Typ}
use Rattle.sail_types.specs.declared.types.Typ.TheVariants as U
use Rattle.sail_types.specs.declared.values.Value.{Value}
use Rattle.value_indices.specs.declared.indices.Indices.TheOpen as W
use Rattle.value_indices.specs.declared.indices.Reading.{Reading}
use Rattle.value_indices.specs.declared.indices.Reading.TheVariants as R
use Rattle.value_laws.specs.Belonging.{Integers, standing, closeds, or_no_value, closed, is_of, types_or_own}
use Rattle.value_laws.specs.Known.{Point, Agree, Later}
use Rattle.value_laws.proofs.Steps.{same, agree_on}
use Rattle.value_laws.proofs.Values.{answer, answer_is, closed_is}
use Rattle.value_laws.proofs.Arguments.{under_these, Still}

pub none : {A B : Type 0} {x : A} → None ≡ Some x → B
none h = absurd (cc)

module _ (types : Types) (past : Positive) (own : List Closed) where
  abbrev there : Integers → Assignment
  there g = standing past g

  -- for all integers of variables that aren't fixed
  abbrev Always : {n : ℕ} → Point n → (Integers → Type 0) → Type 0
  Always f P = (g : Integers) → Agree f g → P g

  -- ---- parts of types, with what their variables stand for

  abbrev pub assignment_of : Closed → Assignment
  assignment_of (reading t mu rs) = mu

  abbrev pub readings_of : Closed → Closeds
  readings_of (reading t mu rs) = rs

  abbrev list_of : Closeds → List Closed
  list_of no_readings = []
  list_of (more_readings r rs) = r ∷ list_of rs

  list_back : (cs : List Closed) → list_of (closeds cs) ≡ cs
  list_back [] = refl
  list_back (c ∷ cs) = ap (λ ds. c ∷ ds) (list_back cs)

  pub same_lists : (cs ds : List Closed) → closeds cs ≡ closeds ds → cs ≡ ds
  same_lists cs ds e = sym (list_back cs) ∙ ap list_of e ∙ list_back ds

  abbrev pub typ_of : Closed → Typ
  typ_of (reading t mu rs) = t

  abbrev first_or : Closed → List Closed → Closed
  first_or c [] = c
  first_or c (d ∷ ds) = d

  abbrev behind_first : List Closed → List Closed
  behind_first [] = []
  behind_first (d ∷ ds) = ds

  -- of lists that are the same the first and the rest are
  pub cons_same : (c d : Closed) (cs ds : List Closed) → (c ∷ cs) ≡ (d ∷ ds) → (c ≡ d) × (cs ≡ ds)
  cons_same c d cs ds e = (ap (first_or c) e, ap behind_first e)

  abbrev args_in : Typ-F Typ → List Index
  args_in (T.Named u is ts) = is
  args_in x = []

  args_back : (u : ℕ) (is : List Index) (ts : List Typ) → args_in (out-Typ (U.Named u is ts)) ≡ is
  args_back u is ts = ap args_in (ap out-Typ (sym (U.rolls-Named u is ts)) ∙ out-roll-Typ (T.Named u is ts))

  pub args_same : (u : ℕ) (is js : List Index) (ts us : List Typ) → U.Named u is ts ≡ U.Named u js us → is ≡ js
  args_same u is js ts us e = sym (args_back u is ts) ∙ ap (λ t. args_in (out-Typ t)) e ∙ args_back u js us

  -- what a type of the walk is hangs on fixed variables alone
  abbrev pub Steady : {n : ℕ} → Point n → Reading → Type 0
  Steady f r = Always f (λ g. closed types (there g) own r ≡ closed types (there f.integers) own r)

  pub steady_later : {n m : ℕ} (f : Point n) (g : Point m) (r : Reading) → Later f g → Steady f r → Steady g r
  steady_later f g r a s k b = s k (agree_on a b) ∙ sym (s g.integers (agree_on a (same g)))

  -- the type of one of these Type variables, and of one behind them
  pub found_in : (cs ds : List Closed) (i : ℕ) (c : Closed) → slice_get cs i ≡ Some c → slice_get (types_or_own cs ds) i ≡ Some c
  found_in [] ds i c e = none e
  found_in (d ∷ cs) [] i c e = e
  found_in (d ∷ cs) (k ∷ ds) zero c e = e
  found_in (d ∷ cs) (k ∷ ds) (suc i) c e = found_in cs ds i c e

  free_in : (cs ds : List Closed) (i : ℕ) → slice_get cs i ≡ None → slice_get (types_or_own cs ds) i ≡ slice_get ds i
  free_in [] ds i e = refl
  free_in (d ∷ cs) [] i e = e
  free_in (d ∷ cs) (k ∷ ds) zero e = none (sym e)
  free_in (d ∷ cs) (k ∷ ds) (suc i) e = free_in cs ds i e

  pub type_at : (g : Integers) (rs : List Reading) (i : ℕ) (r : Reading) → slice_get rs i ≡ Some r
      → slice_get (map (closed types (there g) own) rs) i ≡ Some (closed types (there g) own r)
  type_at g rs i r e = slice_get-map (closed types (there g) own) rs i ∙ ap (option_map (closed types (there g) own)) e

  -- ---- types, under what the variables of the type stand for

  module _ (rs : List Reading) where
    abbrev pub stood : Integers → Closeds
    stood g = closeds (types_or_own (map (closed types (there g) own) rs) own)

    pub closed_of : (g : Integers) (t : Typ) (is : List Index) → closed types (there g) own (R.Of t is rs) ≡ reading t (under_these past g is) (stood g)
    closed_of g t is = closed_is types (there g) own (R.Of t is rs) (W.Of t is rs) (R.rolls-Of t is rs)

    pub closeds_of : (g : Integers) (is : List Index) (ts : List Typ)
        → closeds (map (closed types (there g) own) (map (λ t. R.Of t is rs) ts)) ≡ read_each (under_these past g is) (stood g) ts
    closeds_of g is [] = refl
    closeds_of g is (t ∷ ts) = λ j. more_readings (closed_of g t is j) (closeds_of g is ts j)

    -- what the Type variables stand for
    abbrev pub Stand : {n : ℕ} → Point n → Type 0
    Stand f = (i : ℕ) (r : Reading) → slice_get rs i ≡ Some r → Steady f r

    pub stand_later : {n m : ℕ} (f : Point n) (g : Point m) → Later f g → Stand f → Stand g
    stand_later f g a s i r e = steady_later f g r a (s i r e)

    all_steady : (g k : Integers) (qs : List Reading)
        → ((i : ℕ) (r : Reading) → slice_get qs i ≡ Some r → closed types (there g) own r ≡ closed types (there k) own r)
        → map (closed types (there g) own) qs ≡ map (closed types (there k) own) qs
    all_steady g k [] h = refl
    all_steady g k (q ∷ qs) h = λ j. h 0 q refl j ∷ all_steady g k qs (λ i r e. h (suc i) r e) j

    pub stood_steady : {n : ℕ} (f : Point n) → Stand f → (g : Integers) → Agree f g → stood g ≡ stood f.integers
    stood_steady f stand g a =
        ap (λ cs. closeds (types_or_own cs own)) (all_steady g f.integers rs (λ i r e. stand i r e g a))

    -- so is a type under them
    pub of_steady : {n : ℕ} (f : Point n) (is : List Index) (t : Typ) → Still past f is → Stand f → Steady f (R.Of t is rs)
    of_steady f is t still stand g a =
        closed_of g t is ∙ (λ j. reading t (still g a j) (stood_steady f stand g a j)) ∙ sym (closed_of f.integers t is)

    pub ofs_steady : {n : ℕ} (f : Point n) (is : List Index) (ts : List Typ) → Still past f is → Stand f
        → Always f (λ g. map (closed types (there g) own) (map (λ t. R.Of t is rs) ts) ≡ map (closed types (there f.integers) own) (map (λ t. R.Of t is rs) ts))
    ofs_steady f is [] still stand g a = refl
    ofs_steady f is (t ∷ ts) still stand g a = λ j. of_steady f is t still stand g a j ∷ ofs_steady f is ts still stand g a j

    -- ---- a Type variable: what it stands for, or one of the function at work

    pub found_answer : (g : Integers) (i : ℕ) (r : Reading) (v : Value) → slice_get rs i ≡ Some r
        → answer types v (stood g) i ≡ is_of types (there g) own r v
    found_answer g i r v e =
        answer_is types v (there g) (types_or_own (map (closed types (there g) own) rs) own) i
        ∙ ap (λ o. belongs types v (or_no_value (there g) o))
        (found_in (map (closed types (there g) own) rs) own i (closed types (there g) own r) (type_at g rs i r e))

    pub free_answer : (g : Integers) (i : ℕ) (v : Value) → slice_get rs i ≡ None
        → answer types v (stood g) i ≡ belongs types v (or_no_value (there g) (slice_get own i))
    free_answer g i v e =
        answer_is types v (there g) (types_or_own (map (closed types (there g) own) rs) own) i
        ∙ ap (λ o. belongs types v (or_no_value (there g) o))
        (free_in (map (closed types (there g) own) rs) own i
        (slice_get-map (closed types (there g) own) rs i ∙ ap (option_map (closed types (there g) own)) e))
