-- Where what a call owes is true, its arguments belong to the parameters: argument by argument, and what the callee's variables stand for.
use Rattle.std.proofs.Common.{◌≡◌, ℕ, suc, ◌+◌, ◌<◌, ℤ, pos, int_le, Bool, true, false, List, [], ◌∷◌, map, length}
use Rattle.std.proofs.Common.{Option, Some, None, option_map, if◌then◌else◌, refl, sym, ap, ◌∙◌, subst, arith}
use Rattle.std.proofs.lemmas.Bool.{and_parts}
use Rattle.sail_base.specs.declared.kind.Kind.{Kind}
use Rattle.sail_base.specs.declared.kind.Kind.TheVariants as K
use Rattle.sail_types.specs.Belongs.{Reading as Closed, Readings as Closeds, reading, assigned, each_belongs, belongs}
use Rattle.sail_types.specs.Numbers.{Assignment, Positive, number, true_in, form_true}
use Rattle.sail_types.specs.Places.{Given, an_int, a_bool}
use Rattle.sail_types.specs.Places as Of
use Rattle.sail_types.specs.Readings.{more, read_con}
use Rattle.sail_types.specs.Sums.{constant, read, variable, zero_num}
use Rattle.sail_types.specs.declared.numbers.Con.{Con, Con-F, out-Con, fold-roll-Con, roll-Con}
use Rattle.sail_types.specs.declared.numbers.Con.TheOpen as E
use Rattle.sail_types.specs.declared.numbers.Con.TheVariants as C
use Rattle.sail_types.specs.declared.numbers.Con.TheViews.{roll-out-Con}
use Rattle.sail_types.specs.declared.numbers.Index.{Index}
use Rattle.sail_types.specs.declared.numbers.Index.TheVariants as N
use Rattle.sail_types.specs.declared.numbers.Num.{Num}
use Rattle.sail_types.specs.declared.table.Parameter.{Parameter}
use Rattle.sail_types.specs.declared.table.Types.{Types}
use Rattle.sail_types.specs.declared.types.Typ.{Typ}
use Rattle.sail_types.specs.declared.values.Value.{Value}
use Rattle.sail_types.proofs.SumNumbers.{some_same}
use Rattle.sail_types.proofs.Substituted.{number_constant}
use Rattle.sail_types.specs.Zero.{deepest}
use Rattle.sail_core.specs.Numbers.{givens_from}
use Rattle.sail_core.specs.declared.model.Function.{Function}
use Rattle.value_indices.specs.declared.indices.Indices.{Indices}
use Rattle.value_indices.specs.declared.indices.Reading.{Reading}
use Rattle.value_indices.specs.declared.indices.Reading.TheVariants as R
use Rattle.value_fits.specs.declared.fitted.Fitted.{Fitted}
use Rattle.value_fits.specs.Fitting.{Fit, fits, never, says}
use Rattle.value_fits.specs.Fitting as In
use Rattle.call_arguments.specs.Callees.{is_closed, is_numberless_under, is_typeless, numbers_from, or_zero}
use Rattle.call_arguments.specs.Holes.{types_without_holes}
use Rattle.call_arguments.specs.Placing.{are_as_many, argument_fits, arguments_fit, arguments_owe, call_conditions, constraint_of, is_placed, is_trivial_form, parameter_fits, placing}
use Rattle.value_laws.specs.Belonging.{Integers, Meant, standing, closeds, closed, types_or_own, is_of}
use Rattle.value_laws.specs.Known.{Point, Agree, Later}
use Rattle.value_laws.proofs.Alike.{asks}
use Rattle.value_laws.proofs.Arguments.{AreAs, IsAs, assigned_as, under_these}
use Rattle.value_laws.proofs.Basics.{no, two}
use Rattle.value_laws.proofs.Numbers.{beyond_past, holds_is, truth_is, truth_read, variable_is}
use Rattle.value_laws.proofs.Opening.{closed_of, stood}
use Rattle.value_laws.proofs.Steps.{same, agree_on}
use Rattle.fitting_laws.specs.Fitting.{Said, Suffices}
use Rattle.fitting_laws.proofs.Counted.{FitCounts, fits_count}
use Rattle.fitting_laws.proofs.Deep.{fits_go}
use Rattle.fitting_laws.proofs.Forms.{FitGoes}
use Rattle.fitting_laws.proofs.Holes.{Full, none}
use Rattle.fitting_laws.proofs.Joining.{also_suffice, never_suffices, says_so, suffice_as}
use Rattle.fitting_laws.proofs.Leaves.{con_said}
use Rattle.fitting_laws.proofs.Places.{EachPlaced, among_same, given_there as indices_give}
use Rattle.fitting_laws.proofs.Standing.{EachHad, Had, StaysUnder, among_given_stays, under_later}
use Rattle.call_fits.specs.Calls.{AllBelong, AreArguments, CallsFit, EachHasPlace, Enters, Has, OwesInside, among_as, given_of, given_there, givens_at}
use Rattle.call_fits.specs.Calls.{inside, integer_there, integers_there, is_bool, own_variables, placed_as, types_found, variable_index}
use Rattle.call_fits.proofs.Below.{SameBelow}
use Rattle.call_fits.proofs.Closed.{closed_gives_none, closed_same, closed_unplaced}
use Rattle.call_fits.proofs.Filled.{filled_full, filled_same}
use Rattle.call_fits.proofs.Parts.{EachPart, Given as GivenThere, Gives, PartFits, gives_first, gives_rest, part_behind, part_suffices}
use Rattle.call_fits.proofs.Placed.{among_kind, given_at, kind_there, or_some}
use Rattle.call_fits.proofs.Types.{types_steady}

module _ (types : Types) (past : Positive) (own : List Closed) where
  abbrev there : Integers → Assignment
  there g = standing past g

  -- ---- arguments at later points

  has_later : {n m : ℕ} (f : Point n) (g : Point m) (t : Typ) (i : Indices) (v : Value) → Later f g → Has types past own f i v → Has types past own g i v
  has_later f g t i v a h =
      let at = h.steady g.integers (agree_on a (same g)) in
      record {
        steady = λ k b. h.steady k (agree_on a b) ∙ sym at;
        is_so = ap (λ (m : Meant). m.holds v) at ∙ h.is_so;
      }

  inside_later : {n m : ℕ} (f : Point n) (g : Point m) (b : Bool) (t : Typ) (v : Value) → Later f g → OwesInside types past own f b t v
      → OwesInside types past own g b t v
  inside_later f g true t v a h = λ e k c. h e k (agree_on a c)
  inside_later f g false t v a h = tt

  arguments_later : {n m : ℕ} (f : Point n) (g : Point m) (bs : List Bool) (ts : List Typ) (is : List Indices) (vs : List Value) → Later f g
      → AreArguments types past own f bs ts is vs → AreArguments types past own g bs ts is vs
  arguments_later f g [] [] [] [] a h = tt
  arguments_later f g [] [] [] (v ∷ vs) a h = absurd h
  arguments_later f g [] [] (i ∷ is) vs a h = absurd h
  arguments_later f g [] (t ∷ ts) is vs a h = absurd h
  arguments_later f g (b ∷ bs) [] is vs a h = absurd h
  arguments_later f g (b ∷ bs) (t ∷ ts) [] vs a h = absurd h
  arguments_later f g (b ∷ bs) (t ∷ ts) (i ∷ is) [] a h = absurd h
  arguments_later f g (b ∷ bs) (t ∷ ts) (i ∷ is) (v ∷ vs) a h =
      (has_later f g t i v a h.0, inside_later f g b t v a h.1, arguments_later f g bs ts is vs a h.2)

  had : {n : ℕ} (f : Point n) (t : Typ) (i : Indices) (v : Value) → Has types past own f i v → Had types past own f i v
  had f t i v h g a = (ap (λ (m : Meant). m.holds v) (h.steady g a) ∙ h.is_so, ap (λ (m : Meant). m.wide) (h.steady g a))

  all_had : {n : ℕ} (f : Point n) (bs : List Bool) (ts : List Typ) (is : List Indices) (vs : List Value) → AreArguments types past own f bs ts is vs
      → EachHad types past own f is vs
  all_had f [] [] [] [] h = tt
  all_had f [] [] [] (v ∷ vs) h = absurd h
  all_had f [] [] (i ∷ is) vs h = absurd h
  all_had f [] (t ∷ ts) is vs h = absurd h
  all_had f (b ∷ bs) [] is vs h = absurd h
  all_had f (b ∷ bs) (t ∷ ts) [] vs h = absurd h
  all_had f (b ∷ bs) (t ∷ ts) (i ∷ is) [] h = absurd h
  all_had f (b ∷ bs) (t ∷ ts) (i ∷ is) (v ∷ vs) h = (had f t i v h.0, all_had f bs ts is vs h.2)

  -- ---- what each argument owes

  module _ (fit : Fit) (go : FitGoes types past own fit) (counts : FitCounts fit) (js : List Index) (qs : List Reading) (full : Full qs) where
    abbrev under_at : Integers → Assignment
    under_at g = under_these past g js

    abbrev stand : Integers → Closeds
    stand g = stood types past own qs g

    abbrev Fits : Typ → Indices → Value → Integers → Type 0
    Fits t i v g = PartFits types past own fit go counts js qs full t i v g

    -- a type that names no variable is that of the caller
    closed_fits : {n : ℕ} (f : Point n) (t : Typ) (i : Indices) (v : Value) → is_closed t ≡ true
        → ((g : Integers) → Agree f g → is_of types (there g) own (R.Of t [] []) v ≡ true) → (g : Integers) → Agree f g → Fits t i v g
    closed_fits f t i v e h g a =
        let k = and_parts (is_numberless_under t 0) (is_typeless t) e in
        let alike : SameBelow 0 (under_at g) (under_these past g []) = record {
          ints = λ x l. absurd (omega (arith, l));
          bools = λ x l. absurd (omega (arith, l));
          beyonds = λ x y. beyond_past past g (read js x) ∙ sym (beyond_past past g (read [] y));
        } in
        let is_it : belongs types v (reading t (under_at g) (stand g)) ≡ true =
        closed_same types t (under_at g) (under_these past g []) (stand g) (stood types past own [] g) v k.0 k.1 alike
        ∙ ap (belongs types v) (sym (closed_of types past own [] g t [])) ∙ h g a in (
          is_it,
          λ j. ap (option_map (indices_give (there g))) (closed_unplaced t k.0 j i) ∙ sym (closed_gives_none types t k.0 j v (under_at g) (stand g) is_it),
        )

    one_suffices : (t : Typ) (known : List ℕ) (i : Indices) (v : Value) (n : ℕ) (f : Point n) → Has types past own f i v
        → StaysUnder types past own f js qs → GivenThere types past own fit go counts js qs full known t i
        → Suffices past n f (parameter_fits fit js qs t known i n).fitted (Fits t i v)
    one_suffices t known i v n f h s given =
        part_suffices types past own fit go counts js qs full t known i v n f (had f t i v h) s given

    argument_suffices : (b : Bool) (t : Typ) (known : List ℕ) (i : Indices) (v : Value) (n : ℕ) (f : Point n) → Has types past own f i v
        → OwesInside types past own f b t v → StaysUnder types past own f js qs → GivenThere types past own fit go counts js qs full known t i
        → Suffices past n f (argument_fits fit js qs b t known i n).fitted (Fits t i v)
    argument_suffices false t known i v n f h inner s given = one_suffices t known i v n f h s given
    argument_suffices true t known i v n f h inner s given = by (is_closed t) refl
      where
        by : (c : Bool) → is_closed t ≡ c
            → Suffices past n f (if c then placing known (says [] n) else parameter_fits fit js qs t known i n).fitted (Fits t i v)
        by true e = says_so [] (λ g a said. closed_fits f t i v e (inner e) g a)
        by false e = one_suffices t known i v n f h s given

    argument_behind : (b : Bool) (t : Typ) (known : List ℕ) (i : Indices) (n j : ℕ) → j < length js
        → is_placed (argument_fits fit js qs b t known i n).placed j ≡ false → (is_placed known j ≡ false) × (In.placed t j i ≡ None)
    argument_behind false t known i n j l h = part_behind types past own fit go counts js qs full t known i n j l h
    argument_behind true t known i n j l h = by (is_closed t) refl h
      where
        by : (c : Bool) → is_closed t ≡ c → is_placed (if c then placing known (says [] n) else parameter_fits fit js qs t known i n).placed j ≡ false
            → (is_placed known j ≡ false) × (In.placed t j i ≡ None)
        by true e k = (k, closed_unplaced t (and_parts (is_numberless_under t 0) (is_typeless t) e).0 j i)
        by false e k = part_behind types past own fit go counts js qs full t known i n j l k

    arguments_go : (bs : List Bool) (ts : List Typ) (is : List Indices) (vs : List Value) (known : List ℕ) (n : ℕ) (f : Point n)
        → AreArguments types past own f bs ts is vs → StaysUnder types past own f js qs
        → Gives types past own fit go counts js qs full known (λ j. In.among (map In.placed ts) j is)
        → Suffices past n f (arguments_fit fit js qs bs ts is known n).fitted (λ g. EachPart types past own fit go counts js qs full g ts is vs)
    arguments_go [] [] [] [] known n f h s given = says_so [] (λ g a said. (refl, tt))
    arguments_go [] [] [] (v ∷ vs) known n f h s given = absurd h
    arguments_go [] [] (i ∷ is) vs known n f h s given = absurd h
    arguments_go [] (t ∷ ts) is vs known n f h s given = absurd h
    arguments_go (b ∷ bs) [] is vs known n f h s given = absurd h
    arguments_go (b ∷ bs) (t ∷ ts) [] vs known n f h s given = absurd h
    arguments_go (b ∷ bs) (t ∷ ts) (i ∷ is) [] known n f h s given = absurd h
    arguments_go (b ∷ bs) (t ∷ ts) (i ∷ is) (v ∷ vs) known n f h s given =
        let made = argument_fits fit js qs b t known i n in
        suffice_as (also_suffice (λ m. (arguments_fit fit js qs bs ts is made.placed m).fitted)
        (argument_suffices b t known i v n f h.0 h.1 s (gives_first types past own fit go counts js qs full known t ts i is given))
        (λ g l. arguments_go bs ts is vs made.placed made.fitted.next g (arguments_later f g bs ts is vs l h.2) (under_later types past own f g js qs l s)
        (gives_rest types past own fit go counts js qs full known made.placed t ts i is (λ j m k. argument_behind b t known i n j m k) given)))
        (λ g a q. (
          two (belongs types v (reading t (under_at g) (stand g))) (each_belongs (asks types vs) (under_at g) (stand g) ts) q.0.0 q.1.0,
          (q.0.1, q.1.1),
        ))

-- ---- numbers and truths that two places give

abbrev as_number : Given → ℤ
as_number (an_int z) = z
as_number (a_bool b) = pos 0

abbrev as_truth : Given → Bool
as_truth (an_int z) = false
as_truth (a_bool b) = b

same_number : (x y : ℤ) → Some (an_int x) ≡ Some (an_int y) → x ≡ y
same_number x y e = ap as_number (some_same (an_int x) (an_int y) e)

same_truth : (x y : Bool) → Some (a_bool x) ≡ Some (a_bool y) → x ≡ y
same_truth x y e = ap as_truth (some_same (a_bool x) (a_bool y) e)

truth_back : (b : Bool) → int_le (pos 1) (if b then pos 1 else pos 0) ≡ b
truth_back true = refl
truth_back false = refl

module _ (nu mu : Assignment) where
  number_as : (m u : Num) → number nu u ≡ number mu m → IsAs nu mu (N.Number m) (N.Number u)
  number_as m u e = record { numbers = e; truths = truth_is nu false ∙ sym (truth_is mu false); as_there = ap (λ z. N.Number (constant z)) e }

  truth_as : (c d : Con) → true_in nu d ≡ true_in mu c → IsAs nu mu (N.Truth c) (N.Truth d)
  truth_as c d e = record {
    numbers = number_constant nu (pos 0) ∙ sym (number_constant mu (pos 0));
    truths = e;
    as_there = ap (λ b. N.Truth (C.Truth b)) e;
  }

  zero_as : IsAs nu mu (N.Number zero_num) (N.Number zero_num)
  zero_as = number_as zero_num zero_num (number_constant nu (pos 0) ∙ sym (number_constant mu (pos 0)))

  false_as : IsAs nu mu (N.Truth (C.Truth false)) (N.Truth (C.Truth false))
  false_as = truth_as (C.Truth false) (C.Truth false) (truth_is nu false ∙ sym (truth_is mu false))

  -- an index where what it is stays the same
  stays_as : (kind : Kind) (o : Option Index) → option_map (indices_give nu) o ≡ option_map (indices_give mu) o
      → IsAs nu mu (or_zero kind o) (or_zero kind o)
  stays_as kind (Some (N.Number m)) e =
      subst (λ x. IsAs nu mu x x) (sym (or_some kind (N.Number m))) (number_as m m (same_number (number nu m) (number mu m) e))
  stays_as kind (Some (N.Truth c)) e =
      subst (λ x. IsAs nu mu x x) (sym (or_some kind (N.Truth c))) (truth_as c c (same_truth (true_in nu c) (true_in mu c) e))
  stays_as K.Int None e = zero_as
  stays_as K.Bool None e = false_as
  stays_as K.Type None e = zero_as

-- ---- what the callee's variables stand for

module _ (past : Positive) (f g h : Integers) where
  abbrev mu : Assignment
  mu = standing past g

  abbrev at_first : Assignment
  at_first = standing past f

  abbrev nu : Assignment
  nu = standing past h

  -- what is given to one variable
  record Stands (kind : Kind) (j : ℕ) (x : Index) : Type 0 where
    pub alike : IsAs nu mu x (variable_index kind j)
    pub given : given_there mu x ≡ given_of kind (h j)

  abbrev StandsWith : Kind → ℕ → Option Given → Index → Type 0
  StandsWith kind j given x = Stands kind j x × (given ≡ Some (given_of kind (h j)))

  number_stands : (kind : Kind) (j : ℕ) (m : Num) → is_bool kind ≡ false → number mu m ≡ number at_first m → h j ≡ number at_first m
      → Stands kind j (N.Number m)
  number_stands K.Int j m b e d =
      record { alike = number_as nu mu m (variable j) (variable_is past h j ∙ d ∙ sym e); given = ap an_int (e ∙ sym d) }
  number_stands K.Type j m b e d =
      record { alike = number_as nu mu m (variable j) (variable_is past h j ∙ d ∙ sym e); given = ap an_int (e ∙ sym d) }
  number_stands K.Bool j m b e d = no (sym b)

  truth_stands : (kind : Kind) (j : ℕ) (c : Con) → is_bool kind ≡ true → true_in mu c ≡ true_in at_first c
      → h j ≡ (if true_in at_first c then pos 1 else pos 0) → Stands kind j (N.Truth c)
  truth_stands K.Bool j c b e d =
      let is : int_le (pos 1) (h j) ≡ true_in mu c = ap (int_le (pos 1)) d ∙ truth_back (true_in at_first c) ∙ sym e in
      record { alike = truth_as nu mu c (C.Holds j) (holds_is nu j ∙ is); given = ap a_bool (sym is) }
  truth_stands K.Int j c b e d = no b
  truth_stands K.Type j c b e d = no b

  variable_stands : (kind : Kind) (j : ℕ) (o : Option Index) (given : Option Given) → option_map (indices_give mu) o ≡ given
      → option_map (indices_give mu) o ≡ option_map (indices_give at_first) o → kind_there given ≡ Some (is_bool kind)
      → h j ≡ integer_there at_first (or_zero kind o) → StandsWith kind j given (or_zero kind o)
  variable_stands kind j None given a b k d = none (ap kind_there a ∙ k)
  variable_stands kind j (Some (N.Number m)) given a b k d =
      let x = or_some kind (N.Number m) in
      let is_number : false ≡ is_bool kind = some_same false (is_bool kind) (ap kind_there a ∙ k) in
      let stands = number_stands kind j m (sym is_number) (same_number (number mu m) (number at_first m) b) (d ∙ ap (integer_there at_first) x) in
      subst (StandsWith kind j given) (sym x) (stands, sym a ∙ ap Some stands.given)
  variable_stands kind j (Some (N.Truth c)) given a b k d =
      let x = or_some kind (N.Truth c) in
      let is_truth : true ≡ is_bool kind = some_same true (is_bool kind) (ap kind_there a ∙ k) in
      let stands = truth_stands kind j c (sym is_truth) (same_truth (true_in mu c) (true_in at_first c) b) (d ∙ ap (integer_there at_first) x) in
      subst (StandsWith kind j given) (sym x) (stands, sym a ∙ ap Some stands.given)

  -- all of them
  all_stand : (ts : List Typ) (is : List Indices) (vs : List Value)
      → ((j : ℕ) → option_map (indices_give mu) (In.among (map In.placed ts) j is) ≡ Of.among (map Of.placed ts) j vs)
      → ((j : ℕ) → option_map (indices_give mu) (In.among (map In.placed ts) j is) ≡ option_map (indices_give at_first) (In.among (map In.placed ts) j is))
      → ((j : ℕ) → kind_there (Of.among (map Of.placed ts) j vs) ≡ among_as (map placed_as ts) j)
      → (j : ℕ) (ps : List Parameter) → EachHasPlace j ps ts
      → ((m i : ℕ) → i ≡ j + m → h i ≡ integers_there at_first (numbers_from j ps ts is) m)
      → AreAs nu mu (numbers_from j ps ts is) (own_variables j ps) × (map (given_there mu) (numbers_from j ps ts is) ≡ givens_at h j ps)
      × (givens_from (length ps) j ts vs ≡ Some (givens_at h j ps))
  all_stand ts is vs a b k j [] places d = (tt, refl, refl)
  all_stand ts is vs a b k j (p ∷ ps) places d =
      let one = variable_stands p.kind j (In.among (map In.placed ts) j is) (Of.among (map Of.placed ts) j vs) (a j) (b j) (k j ∙ places.0)
      (d 0 j (omega arith)) in
      let rest = all_stand ts is vs a b k (suc j) ps places.1 (λ m i e. d (suc m) i (omega (arith, e))) in (
        (one.0.alike, rest.0),
        (λ l. one.0.given l ∷ rest.1 l),
        (λ l. more (one.1 l) (rest.2 l)),
      )

-- ---- a constraint

trivial_true : (at : Assignment) (x : Con-F Con) → is_trivial_form x ≡ true → true_in at (roll-Con x) ≡ true
trivial_true at (E.Truth b) h = fold-roll-Con Bool (form_true at) (E.Truth b) ∙ h
trivial_true at x h = no h

constraint_said : (past : Positive) (g : Integers) (js : List Index) (c : Con) → Said (standing past g) (constraint_of js c)
    → true_in (under_these past g js) c ≡ true
constraint_said past g js c said = by (is_trivial_form (out-Con c)) refl said
  where
    by : (b : Bool) → is_trivial_form (out-Con c) ≡ b → Said (standing past g) (if b then [] else read_con js c ∷ [])
        → true_in (under_these past g js) c ≡ true
    by true e k = ap (true_in (under_these past g js)) (sym (roll-out-Con c)) ∙ trivial_true (under_these past g js) (out-Con c) e
    by false e k = let d = con_said (standing past g) (read_con js c) k in sym (truth_read past g js c d.0 d.1) ∙ d.2

-- ---- all of it

module _ (types : Types) (past : Positive) (own : List Closed) where
  all_belong : (at : Assignment) (rs : List Closed) (ts : List Typ) (vs : List Value) → each_belongs (asks types vs) at (closeds rs) ts ≡ true
      → AllBelong types at rs ts vs
  all_belong at rs [] [] h = tt
  all_belong at rs [] (v ∷ vs) h = no h
  all_belong at rs (t ∷ ts) [] h = no h
  all_belong at rs (t ∷ ts) (v ∷ vs) h =
      let k = and_parts (belongs types v (reading t at (closeds rs))) (each_belongs (asks types vs) at (closeds rs) ts) h in
      (k.0, all_belong at rs ts vs k.1)

  module _ (fn : Function) (is : List Indices) (vs : List Value) (rs : List Reading) where
    abbrev js : List Index
    js = numbers_from 0 fn.variables fn.parameters is

    abbrev qs : List Reading
    qs = types_without_holes rs

    -- what the variables stand for hangs on fixed variables alone
    each_stays : (g f : Integers)
        → ((j : ℕ) → option_map (indices_give (standing past g)) (In.among (map In.placed fn.parameters) j is)
        ≡ option_map (indices_give (standing past f)) (In.among (map In.placed fn.parameters) j is))
        → (j : ℕ) (ps : List Parameter)
        → AreAs (standing past g) (standing past f) (numbers_from j ps fn.parameters is) (numbers_from j ps fn.parameters is)
    each_stays g f e j [] = tt
    each_stays g f e j (p ∷ ps) =
        (stays_as (standing past g) (standing past f) p.kind (In.among (map In.placed fn.parameters) j is) (e j), each_stays g f e (suc j) ps)

    enters : (f g : Integers)
        → ((j : ℕ) → option_map (indices_give (standing past g)) (In.among (map In.placed fn.parameters) j is)
        ≡ option_map (indices_give (standing past f)) (In.among (map In.placed fn.parameters) j is))
        → EachHasPlace 0 fn.variables fn.parameters
        → each_belongs (asks types vs) (under_these past g js) (stood types past own qs g) fn.parameters ≡ true
        → EachPlaced (standing past g) fn.parameters is vs → Said (standing past g) (constraint_of js fn.constraint)
        → Enters types past own fn js rs vs (integers_there (standing past f) js) g
    enters f g stays places belong placed said =
        let h : Integers = integers_there (standing past f) js in
        let all = all_stand past f g h fn.parameters is vs (among_same (standing past g) fn.parameters is vs placed) stays
        (λ j. among_kind types fn.parameters j vs (under_these past g js) (stood types past own qs g) belong) 0 fn.variables places
        (λ m i e. ap (integers_there (standing past f) js) (omega (arith, e))) in
        let is_same : assigned (standing past g) js ≡ inside past fn.variables h =
        sym (assigned_as (standing past h) (standing past g) (λ o p. beyond_past past h o ∙ sym (beyond_past past g p)) js
        (own_variables 0 fn.variables) all.0) in
        record {
          same = is_same;
          given = all.1;
          belong = all_belong (inside past fn.variables h) (types_or_own (map (closed types (standing past g) own) rs) own) fn.parameters vs
              (sym (λ j. each_belongs (asks types vs) (is_same j) (closeds (types_or_own (filled_same types (standing past g) own rs j) own)) fn.parameters)
              ∙ belong);
          constraint = ap (λ a. true_in a fn.constraint) (sym is_same) ∙ constraint_said past g js fn.constraint said;
          are_given = all.2;
        }

-- another number of arguments owes what is false
as_many : {past : Positive} {Then : Integers → Type 0} (b : Bool) (n : ℕ) (f : Point n) (made : Fitted) → Suffices past n f made Then
    → Suffices past n f (if b then made else never n) Then
as_many true n f made h = h
as_many {Then = Then} false n f made h = never_suffices n f Then

-- where the callee's Type variables stand for types that hang on fixed variables alone
steady_fit : (types : Types) (past : Positive) (own : List Closed) (fn : Function) (bs : List Bool) (is : List Indices) (vs : List Value)
    (rs : List Reading) (n : ℕ) (f : Point n)
    → EachHasPlace 0 fn.variables fn.parameters
    → AreArguments types past own f bs fn.parameters is vs
    → ((g : Integers) → Agree f g
    → map (closed types (standing past g) own) rs ≡ map (closed types (standing past f.integers) own) rs)
    → Suffices past n f (call_conditions (fits types) fn (numbers_from 0 fn.variables fn.parameters is) rs bs is n)
    (λ g. Enters types past own fn (numbers_from 0 fn.variables fn.parameters is) rs vs
    (integers_there (standing past f.integers) (numbers_from 0 fn.variables fn.parameters is)) g)
steady_fit types past own fn bs is vs rs n f places arguments steady =
    let js : List Index = numbers_from 0 fn.variables fn.parameters is in
    let qs : List Reading = types_without_holes rs in
    let stays = λ (g : Integers) (a : Agree f g) (j : ℕ). among_given_stays types past own f fn.parameters j is vs
    (all_had types past own f bs fn.parameters is vs arguments) g a in
    let under : StaysUnder types past own f js qs =
    λ g a. (
      assigned_as (standing past g) (standing past f.integers) (λ o p. beyond_past past g o ∙ sym (beyond_past past f.integers p)) js js
          (each_stays types past own fn is vs rs g f.integers (stays g a) 0 fn.variables),
      ap (λ cs. closeds (types_or_own cs own))
          (filled_same types (standing past g) own rs ∙ steady g a ∙ sym (filled_same types (standing past f.integers) own rs)),
    ) in
    let owed : Suffices past n f (arguments_owe (fits types) fn js qs bs is n) (λ g. Enters types past own fn js rs vs (integers_there (standing past f.integers) js) g) =
    suffice_as
    (also_suffice (says (constraint_of js fn.constraint))
    (arguments_go types past own (fits types) (fits_go types past own deepest) (fits_count types deepest) js qs
    (filled_full types (standing past f.integers) own rs) bs fn.parameters is vs [] n f arguments under
    (λ j x e. let k = given_at fn.variables fn.parameters is places j x e in (k.0, λ h. k.1)))
    (λ g l. says_so (constraint_of js fn.constraint) (λ k a said. said)))
    (λ g a q. enters types past own fn is vs rs f.integers g (stays g a) places q.0.0 q.0.1 q.1) in
    as_many (are_as_many bs fn.parameters is) n f (arguments_owe (fits types) fn js qs bs is n) owed

pub calls_fit : CallsFit
calls_fit types past own fn bs is vs n f places arguments =
    steady_fit types past own fn bs is vs (types_found n fn is) n f places arguments
    (types_steady types past own f bs (length fn.type_variables) 0 fn.parameters is vs arguments)
