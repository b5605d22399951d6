-- The numbers of a callee's variables, and of the parameters of a named type, one by one.
use Rattle.std.proofs.Common.{◌≡◌, ◌∙◌, ap, sym, ℕ, suc, ◌+◌, ◌<◌, ◌≤◌, Bool, true, false, if◌then◌else◌, List, [], ◌∷◌, ◌++◌, length, drop, get_or, map}
use Rattle.std.proofs.Common.{append_assoc, append-nil, arith}
use Rattle.std.specs.Prelude.{Option}
use Rattle.sail_types.specs.declared.numbers.Index.{Index}
use Rattle.sail_types.specs.declared.table.Parameter.{Parameter}
use Rattle.sail_types.specs.declared.types.Typ.{Typ}
use Rattle.value_indices.specs.Steps.{Walk, bind, give}
use Rattle.value_indices.specs.Walking.{Written, got, run}
use Rattle.value_indices.specs.declared.indices.Indices.{Indices}
use Rattle.value_indices.proofs.Walks.{got_bind, run_bind, got_give, run_give}
use Rattle.value_fits.specs.Fitting.{among, placed}
use Rattle.call_arguments.specs.Callees.{index_if, index_of, indices_from, is_number_kind, number_parameters, numbers_from, or_zero}
use Rattle.call_arguments.specs.Callees.{type_count, type_parameters, variable_behind}
use Rattle.call_arguments.proofs.Lists.{rest_is, none_left}

-- ---- the numbers of a function's variables

pub numbers_more : (ps : List Parameter) (k : ℕ) (p : Parameter) (ts : List Typ) (is : List Indices) → k < length ps → p ≡ get_or ps k p
    → numbers_from k (drop k ps) ts is ≡ or_zero p.kind (among (map placed ts) k is) ∷ numbers_from (k + 1) (drop (k + 1) ps) ts is
numbers_more ps k p ts is within p_is =
    let next : suc k ≡ k + 1 = omega arith in
    ap (λ qs. numbers_from k qs ts is) (rest_is ps k p within p_is)
    ∙ ap (λ j. or_zero p.kind (among (map placed ts) k is) ∷ numbers_from j (drop (k + 1) ps) ts is) next

pub numbers_end : (ps : List Parameter) (k : ℕ) (ts : List Typ) (is : List Indices) → length ps ≤ k → numbers_from k (drop k ps) ts is ≡ []
numbers_end ps k ts is past = ap (λ qs. numbers_from k qs ts is) (none_left ps k past)

-- ---- how many parameters have a type

count_step : (b : Bool) (n : ℕ) → (if b then n else suc n) ≡ (if b then 0 else 1) + n
count_step true n = omega arith
count_step false n = omega arith

pub types_counted : (p : Parameter) (ps : List Parameter) → type_parameters (p ∷ ps) ≡ type_count p.kind + type_parameters ps
types_counted p ps = count_step (is_number_kind p.kind) (type_parameters ps)

pub count_more : (all : List Parameter) (k : ℕ) (p : Parameter) (count more : ℕ) → k < length all → p ≡ get_or all k p → more ≡ count + type_count p.kind
    → more + type_parameters (drop (k + 1) all) ≡ count + type_parameters (drop k all)
count_more all k p count more within p_is is =
    let opens : type_parameters (drop k all) ≡ type_count p.kind + type_parameters (drop (k + 1) all) =
    ap type_parameters (rest_is all k p within p_is) ∙ types_counted p (drop (k + 1) all) in
    omega (arith, opens, is)

pub count_end : (all : List Parameter) (k : ℕ) (count : ℕ) → length all ≤ k → count + type_parameters (drop k all) ≡ count
count_end all k count past =
    let none : type_parameters (drop k all) ≡ 0 = ap type_parameters (none_left all k past) in
    omega (arith, none)

-- ---- the numbers of the parameters of a named type

abbrev together : Walk (List Index) → Walk (List Index) → Walk (List Index)
together first rest = bind first (λ i. bind rest (λ more. give (i ++ more)))

together_got : (first rest : Walk (List Index)) (w : Written) → got (together first rest) w ≡ got first w ++ got rest (run first w)
together_got first rest w =
    got_bind first (λ i. bind rest (λ more. give (i ++ more))) w ∙ got_bind rest (λ more. give (got first w ++ more)) (run first w)
    ∙ got_give (got first w ++ got rest (run first w)) (run rest (run first w))

together_run : (first rest : Walk (List Index)) (w : Written) → run (together first rest) w ≡ run rest (run first w)
together_run first rest w =
    run_bind first (λ i. bind rest (λ more. give (i ++ more))) w ∙ run_bind rest (λ more. give (got first w ++ more)) (run first w)
    ∙ run_give (got first w ++ got rest (run first w)) (run rest (run first w))

module _ (p : Parameter) (qs : List Parameter) (j : ℕ) (ts : List Typ) (is : List Indices) where
  abbrev found : Option Index
  found = among (map placed ts) j is

  abbrev own : Bool → Walk (List Index)
  own b = if b then index_if p found else give []

  abbrev others : Bool → Walk (List Index)
  others b = indices_from (if b then suc j else j) qs ts is

  step_got : (b : Bool) (w : Written) → got (indices_from j (if b then p ∷ qs else qs) ts is) w ≡ got (own b) w ++ got (others b) (run (own b) w)
  step_got true w = together_got (index_if p found) (indices_from (suc j) qs ts is) w
  step_got false w = sym (λ i. got_give {A = List Index} [] w i ++ got (indices_from j qs ts is) (run_give {A = List Index} [] w i))

  step_run : (b : Bool) (w : Written) → run (indices_from j (if b then p ∷ qs else qs) ts is) w ≡ run (others b) (run (own b) w)
  step_run true w = together_run (index_if p found) (indices_from (suc j) qs ts is) w
  step_run false w = sym (λ i. run (indices_from j qs ts is) (run_give {A = List Index} [] w i))

indices_got : (p : Parameter) (ps : List Parameter) (j : ℕ) (ts : List Typ) (is : List Indices) (w : Written)
    → got (indices_from j (number_parameters (p ∷ ps)) ts is) w
    ≡ got (index_of j p ts is) w ++ got (indices_from (variable_behind j p.kind) (number_parameters ps) ts is) (run (index_of j p ts is) w)
indices_got p ps j ts is w = step_got p (number_parameters ps) j ts is (is_number_kind p.kind) w

indices_run : (p : Parameter) (ps : List Parameter) (j : ℕ) (ts : List Typ) (is : List Indices) (w : Written)
    → run (indices_from j (number_parameters (p ∷ ps)) ts is) w
    ≡ run (indices_from (variable_behind j p.kind) (number_parameters ps) ts is) (run (index_of j p ts is) w)
indices_run p ps j ts is w = step_run p (number_parameters ps) j ts is (is_number_kind p.kind) w

pub none_pushed : (p : Parameter) (j : ℕ) (ts : List Typ) (is : List Indices) (made : List Index) (w : Written) → is_number_kind p.kind ≡ false
    → made ≡ made ++ got (index_of j p ts is) w
none_pushed p j ts is made w h =
    sym (ap (λ b. made ++ got (own p [] j ts is b) w) h ∙ ap (λ l. made ++ l) (got_give {A = List Index} [] w) ∙ append-nil made)

abbrev rest : ℕ → List Parameter → List Typ → List Indices → Walk (List Index)
rest j ps ts is = indices_from j (number_parameters ps) ts is

pub indices_more : (all : List Parameter) (k : ℕ) (p : Parameter) (j next : ℕ) (ts : List Typ) (is : List Indices) (w v : Written) (before now : List Index)
    → k < length all → p ≡ get_or all k p → now ≡ before ++ got (index_of j p ts is) w → v ≡ run (index_of j p ts is) w → next ≡ variable_behind j p.kind
    → now ++ got (rest next (drop (k + 1) all) ts is) v ≡ before ++ got (rest j (drop k all) ts is) w
indices_more all k p j next ts is w v before now within p_is pushed walked next_is =
    let own = got (index_of j p ts is) w in
    let after = run (index_of j p ts is) w in
    let ps = drop (k + 1) all in
    (λ i. pushed i ++ got (rest (next_is i) ps ts is) (walked i))
    ∙ append_assoc before own (got (rest (variable_behind j p.kind) ps ts is) after)
    ∙ ap (λ l. before ++ l) (sym (indices_got p ps j ts is w))
    ∙ ap (λ qs. before ++ got (rest j qs ts is) w) (sym (rest_is all k p within p_is))

pub indices_walked : (all : List Parameter) (k : ℕ) (p : Parameter) (j next : ℕ) (ts : List Typ) (is : List Indices) (w v : Written)
    → k < length all → p ≡ get_or all k p → v ≡ run (index_of j p ts is) w → next ≡ variable_behind j p.kind
    → run (rest next (drop (k + 1) all) ts is) v ≡ run (rest j (drop k all) ts is) w
indices_walked all k p j next ts is w v within p_is walked next_is =
    let ps = drop (k + 1) all in
    (λ i. run (rest (next_is i) ps ts is) (walked i))
    ∙ sym (indices_run p ps j ts is w)
    ∙ ap (λ qs. run (rest j qs ts is) w) (sym (rest_is all k p within p_is))

pub indices_end_got : (all : List Parameter) (k j : ℕ) (ts : List Typ) (is : List Indices) (w : Written) → length all ≤ k
    → got (rest j (drop k all) ts is) w ≡ []
indices_end_got all k j ts is w past = ap (λ qs. got (rest j qs ts is) w) (none_left all k past) ∙ got_give {A = List Index} [] w

pub indices_end_run : (all : List Parameter) (k j : ℕ) (ts : List Typ) (is : List Indices) (w : Written) → length all ≤ k
    → run (rest j (drop k all) ts is) w ≡ w
indices_end_run all k j ts is w past = ap (λ qs. run (rest j qs ts is) w) (none_left all k past) ∙ run_give {A = List Index} [] w
