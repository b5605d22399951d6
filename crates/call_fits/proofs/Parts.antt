-- Where what an argument owes is true, it belongs to its parameter: part by part.
use Rattle.std.proofs.Common.{◌≡◌, ℕ, zero, suc, ◌≤◌, ◌<◌, nat_eq, nat_lt, Bool, true, false, List, [], ◌∷◌, map, length, slice_get}
use Rattle.std.proofs.Common.{Option, Some, None, option_map, if◌then◌else◌, refl, sym, ap, ◌∙◌, subst, arith}
use Rattle.std.proofs.lemmas.Bool.Decides.{Decides-eqb}
use Rattle.std.proofs.lemmas.Bool.{ltb-false, ltb-true}
use Rattle.sail_types.specs.Belongs.{Reading as Closed, Readings as Closeds, reading, each_belongs, belongs}
use Rattle.sail_types.specs.Numbers.{Assignment, Positive, number, true_in}
use Rattle.sail_types.specs.Places.{first, form_is, is_variable, only}
use Rattle.sail_types.specs.Places as Of
use Rattle.sail_types.specs.Readings.{read_con, truth_or_false}
use Rattle.sail_types.specs.Sums.{number_or_zero, read}
use Rattle.sail_types.specs.declared.numbers.Con.{Con, out-Con}
use Rattle.sail_types.specs.declared.numbers.Index.{Index}
use Rattle.sail_types.specs.declared.numbers.Index.TheVariants as N
use Rattle.sail_types.specs.declared.numbers.Num.{Num}
use Rattle.sail_types.specs.declared.table.Types.{Types}
use Rattle.sail_types.specs.declared.types.Typ.{Typ, Typ-F, roll-Typ}
use Rattle.sail_types.specs.declared.types.Typ.TheFolds.{ind-Typ, map-Typ, para-roll-Typ}
use Rattle.sail_types.specs.declared.types.Typ.TheOpen as T
use Rattle.sail_types.specs.declared.values.Value.{Value, Value-F, out-Value}
use Rattle.sail_types.specs.declared.values.Value.TheOpen as V
use Rattle.value_indices.specs.declared.indices.Indices.{Indices, out-Indices}
use Rattle.value_indices.specs.declared.indices.Indices.TheOpen as W
use Rattle.value_indices.specs.declared.indices.Indices.TheOpen.{Indices-F}
use Rattle.value_indices.specs.declared.indices.Reading.{Reading}
use Rattle.value_indices.specs.declared.indices.Reading.TheVariants as R
use Rattle.value_fits.specs.declared.fitted.Fitted.{Fitted}
use Rattle.value_fits.specs.Fitting.{Fit, also, item_fits, number_fits, says, truth_fits}
use Rattle.value_fits.specs.Fitting as In
use Rattle.call_arguments.specs.Placing.{TypeFit, Placing, each_placing, form_placing, gives_number, is_placed, parameter_fits}
use Rattle.call_arguments.specs.Placing.{placed_behind, placed_by, placed_within, type_fits, value_placing, variable_in, form_variable}
use Rattle.call_arguments.specs.Placing.{whole_placed}
use Rattle.value_laws.specs.Belonging.{Integers, standing, closed, form_holds, meant}
use Rattle.value_laws.specs.Known.{Point, Agree, Later}
use Rattle.value_laws.proofs.Alike.{asks}
use Rattle.value_laws.proofs.Arguments.{under_these}
use Rattle.value_laws.proofs.Basics.{fronts, no, two}
use Rattle.value_laws.proofs.Numbers.{number_read, truth_read}
use Rattle.value_laws.proofs.Opening.{stood, closed_of}
use Rattle.value_laws.proofs.Steps.{same, no_later}
use Rattle.value_laws.proofs.Values.{inner, form_asked, belongs_form}
use Rattle.fitting_laws.specs.Fitting.{Suffices}
use Rattle.fitting_laws.proofs.Counted.{FitCounts}
use Rattle.fitting_laws.proofs.Forms.{FitGoes, ReadPlaced, Within, item_suffices}
use Rattle.fitting_laws.proofs.Holes.{Full, of_full}
use Rattle.fitting_laws.proofs.Joining.{also_suffice, says_so, suffice_as}
use Rattle.fitting_laws.proofs.Leaves.{bits_into, integer_into, number_said, truth_into, truth_said, vector_into}
use Rattle.fitting_laws.proofs.Places.{EachPlaced, PlacedAs, among_same, bits_placed, given_there, index_placed, integer_placed, truth_placed as truth_there}
use Rattle.fitting_laws.proofs.Places.{value_placed, vector_placed as length_there}
use Rattle.fitting_laws.proofs.Standing.{Always, EachHad, Had, HadForm, StaysUnder, each_had, each_later, had_form, of_stays, out_of}
use Rattle.fitting_laws.proofs.Standing.{stays_later, tuple_stays, under_later, vector_stays, wide_at}
use Rattle.call_fits.proofs.Variables.{behind_in, behind_out, form_finds, form_found, number_is, truth_is_variable, variable_finds, variable_found}

-- ---- what was placed

below_next : (j v : ℕ) → j < suc v → nat_lt j v ≡ false → j ≡ v
below_next j v l h = let k : v ≤ j = ltb-false j v h in omega (arith, l, k)

placed_out : (o : Option Index) (v : ℕ) (known : List ℕ) (j : ℕ) → is_placed (placed_by o v known) j ≡ false → is_placed known j ≡ false
placed_out None v known j h = h
placed_out (Some x) v known j h = behind_out known (Some v) j h

within_out : (t : Typ) (i : Indices) (count : ℕ) (known : List ℕ) (j : ℕ) → is_placed (placed_within t i count known) j ≡ false → is_placed known j ≡ false
within_out t i zero known j h = h
within_out t i (suc v) known j h = within_out t i v known j (placed_out (In.placed t v i) v (placed_within t i v known) j h)

itself_none : (t : Typ) (i : Indices) (v : ℕ) (known : List ℕ) (j : ℕ) → j ≡ v → (o : Option Index) → In.placed t v i ≡ o
    → is_placed (placed_by o v known) j ≡ false → In.placed t j i ≡ None
itself_none t i v known j p None e h = subst (λ k. In.placed t k i ≡ None) (sym p) e
itself_none t i v known j p (Some x) e h =
    no (sym (subst (λ k. is_placed (placed_behind known (Some v)) k ≡ false) p h) ∙ behind_in known v)

last_none : (t : Typ) (i : Indices) (v : ℕ) (known : List ℕ) (j : ℕ) → j < suc v
    → (j < v → is_placed known j ≡ false → In.placed t j i ≡ None) → (b : Bool) → nat_lt j v ≡ b
    → is_placed (placed_by (In.placed t v i) v known) j ≡ false → In.placed t j i ≡ None
last_none t i v known j l below true e h = below (ltb-true j v e) (placed_out (In.placed t v i) v known j h)
last_none t i v known j l below false e h = itself_none t i v known j (below_next j v l e) (In.placed t v i) refl h

-- those to which a whole value gives a number are among them
within_none : (t : Typ) (i : Indices) (count : ℕ) (known : List ℕ) (j : ℕ) → j < count → is_placed (placed_within t i count known) j ≡ false
    → In.placed t j i ≡ None
within_none t i zero known j l h = absurd (omega (arith, l))
within_none t i (suc v) known j l h =
    last_none t i v (placed_within t i v known) j l (λ m k. within_none t i v known j m k) (nat_lt j v) refl h

unplaced : (b : Bool) → (if b then false else true) ≡ true → b ≡ false
unplaced true h = no h
unplaced false h = refl

-- a place that gives a number
giving : (known : List ℕ) (o : Option ℕ) → gives_number known o ≡ true → (j : ℕ) × (o ≡ Some j) × (is_placed known j ≡ false)
giving known None h = no h
giving known (Some j) h = (j, refl, unplaced (is_placed known j) h)

choose : {past : Positive} {n : ℕ} {f : Point n} {Then : Integers → Type 0} (b : Bool) (given owed : Fitted)
    → (b ≡ true → Suffices past n f given Then) → Suffices past n f owed Then → Suffices past n f (if b then given else owed) Then
choose true given owed h k = h refl
choose false given owed h k = k

first_none : {A : Type 0} (o p : Option A) → o ≡ None → p ≡ None → first o p ≡ None
first_none o p h k = (λ j. first (h j) (k j))

-- the first of two that is there
some_first : {A : Type 0} (o p : Option A) (x : A) → p ≡ Some x → (y : A) × (first o p ≡ Some y)
some_first None p x e = (x, e)
some_first (Some y) p x e = (y, refl)

only_there : {A : Type 0} (b : Bool) (x : A) → b ≡ true → only b x ≡ Some x
only_there b x h = ap (λ c. only c x) h

only_none : {A : Type 0} (b : Bool) (x : A) → (b ≡ true → true ≡ false) → only b x ≡ None
only_none true x h = no (sym (h refl))
only_none false x h = refl

module _ (types : Types) (past : Positive) (own : List Closed) (fit : Fit) (go : FitGoes types past own fit) (counts : FitCounts fit) (js : List Index)
    (qs : List Reading) (full : Full qs) where
  abbrev there : Integers → Assignment
  there g = standing past g

  abbrev under_at : Integers → Assignment
  under_at g = under_these past g js

  abbrev stand : Integers → Closeds
  stand g = stood types past own qs g

  -- the value belongs to the type, and gives the same numbers as its indices
  abbrev pub PartFits : Typ → Indices → Value → Integers → Type 0
  PartFits t i v g = (belongs types v (reading t (under_at g) (stand g)) ≡ true) × PlacedAs (there g) t i v

  -- the number that a part gives to a variable that has none yet is what the variable stands for
  abbrev pub Gives : List ℕ → (ℕ → Option Index) → Type 0
  Gives known placed = (j : ℕ) (x : Index) → placed j ≡ Some x → (j < length js) × (is_placed known j ≡ false → slice_get js j ≡ Some x)

  abbrev pub Given : List ℕ → Typ → Indices → Type 0
  Given known t i = Gives known (λ j. In.placed t j i)

  PartGoes : Typ → Type 0
  PartGoes t = (known : List ℕ) (i : Indices) (v : Value) (n : ℕ) (f : Point n) → Had types past own f i v
      → StaysUnder types past own f js qs → Given known t i → Suffices past n f (parameter_fits fit js qs t known i n).fitted (PartFits t i v)

  -- a variable without a number behind it had none before, and is given none
  Behind : Typ → Type 0
  Behind t = (known : List ℕ) (i : Indices) (n j : ℕ) → j < length js → is_placed (parameter_fits fit js qs t known i n).placed j ≡ false
      → (is_placed known j ≡ false) × (In.placed t j i ≡ None)

  -- ---- what fits as a whole

  whole_suffices : (t : Typ) (i : Indices) (v : Value) (n : ℕ) (f : Point n) → Had types past own f i v → StaysUnder types past own f js qs
      → Suffices past n f (fit i (R.Of t js qs) n) (PartFits t i v)
  whole_suffices t i v n f had s =
      suffice_as (go i (R.Of t js qs) n f v (of_full t js qs full) had (of_stays types past own f js qs t s)) (λ g a q. (
        ap (belongs types v) (sym (closed_of types past own qs g t js)) ∙ q.0,
        subst (λ x. ReadPlaced types past own g x i v) (out_of t js qs) q.1,
      ))

  whole_behind : (t : Typ) (known : List ℕ) (i : Indices) (n j : ℕ) → j < length js → is_placed (whole_placed fit js qs t known i n).placed j ≡ false
      → (is_placed known j ≡ false) × (In.placed t j i ≡ None)
  whole_behind t known i n j l h = (within_out t i (length js) known j h, within_none t i (length js) known j l h)

  -- ---- places

  -- the variable of a number stands for what the place gives
  number_given : (known : List ℕ) (t : Num) (m : Num) (placed : ℕ → Option Index) → ((j : ℕ) → is_variable j t ≡ true → placed j ≡ Some (N.Number m))
      → Gives known placed → gives_number known (variable_in t) ≡ true → (g : Integers) → number (there g) m ≡ number (under_at g) t
  number_given known t m placed here given h g =
      let k = giving known (variable_in t) h in
      let is = variable_found t k.0 k.1 in
      sym (number_is (under_at g) t k.0 is
      ∙ ap (λ o. number (there g) (number_or_zero o)) ((given k.0 (N.Number m) (here k.0 is)).1 k.2))

  truth_given : (known : List ℕ) (c : Con) (d : Con) (placed : ℕ → Option Index)
      → ((j : ℕ) → form_is j (out-Con c) ≡ true → placed j ≡ Some (N.Truth d))
      → Gives known placed → gives_number known (form_variable (out-Con c)) ≡ true → (g : Integers) → true_in (there g) d ≡ true_in (under_at g) c
  truth_given known c d placed here given h g =
      let k = giving known (form_variable (out-Con c)) h in
      let is = form_found (out-Con c) k.0 k.1 in
      sym (truth_is_variable (under_at g) c k.0 is
      ∙ ap (λ o. true_in (there g) (truth_or_false o)) ((given k.0 (N.Truth d) (here k.0 is)).1 k.2))

  -- a place behind which a variable has no number gives it none
  number_behind : (known : List ℕ) (t : Num) (x : Index) (j : ℕ) → is_placed (placed_behind known (variable_in t)) j ≡ false
      → (is_placed known j ≡ false) × (only (is_variable j t) x ≡ None)
  number_behind known t x j h = (
    behind_out known (variable_in t) j h,
    only_none (is_variable j t) x (λ is.
        sym (subst (λ o. is_placed (placed_behind known o) j ≡ true) (sym (variable_finds t j is)) (behind_in known j)) ∙ h),
  )

  truth_behind : (known : List ℕ) (c : Con) (x : Index) (j : ℕ) → is_placed (placed_behind known (form_variable (out-Con c))) j ≡ false
      → (is_placed known j ≡ false) × (only (form_is j (out-Con c)) x ≡ None)
  truth_behind known c x j h = (
    behind_out known (form_variable (out-Con c)) j h,
    only_none (form_is j (out-Con c)) x (λ is.
        sym (subst (λ o. is_placed (placed_behind known o) j ≡ true) (sym (form_finds (out-Con c) j is)) (behind_in known j)) ∙ h),
  )

  -- ---- parts of a tuple

  abbrev SuchTyp : Type 0
  SuchTyp = (t : Typ) × (PartGoes t × Behind t)

  abbrev typ_form : Typ-F SuchTyp → Typ-F Typ
  typ_form y = map-Typ SuchTyp Typ (λ p. p.0) y

  abbrev types_in : List SuchTyp → List Typ
  types_in ys = map (λ (y : SuchTyp). y.0) ys

  abbrev each_fit : List Typ → List (List ℕ → Indices → ℕ → Placing)
  each_fit ts = map (λ (t : Typ × TypeFit). t.1 t.0) (map (λ t. (t, type_fits fit js qs t)) ts)

  abbrev pub EachPart : Integers → List Typ → List Indices → List Value → Type 0
  EachPart g ts is vs = (each_belongs (asks types vs) (under_at g) (stand g) ts ≡ true) × EachPlaced (there g) ts is vs

  -- the first of the parts, and the others behind it
  pub gives_first : (known : List ℕ) (t : Typ) (ts : List Typ) (i : Indices) (is : List Indices)
      → Gives known (λ j. In.among (map In.placed (t ∷ ts)) j (i ∷ is)) → Given known t i
  gives_first known t ts i is given j x e = given j x (ap (λ o. first o (In.among (map In.placed ts) j is)) e)

  pub gives_rest : (known now : List ℕ) (t : Typ) (ts : List Typ) (i : Indices) (is : List Indices)
      → ((j : ℕ) → j < length js → is_placed now j ≡ false → (is_placed known j ≡ false) × (In.placed t j i ≡ None))
      → Gives known (λ j. In.among (map In.placed (t ∷ ts)) j (i ∷ is)) → Gives now (λ j. In.among (map In.placed ts) j is)
  gives_rest known now t ts i is behind given j x e =
      let some = some_first (In.placed t j i) (In.among (map In.placed ts) j is) x e in
      let less = (given j some.0 some.1).0 in (
        less,
        λ h. let k = behind j less h in (given j x (ap (λ o. first o (In.among (map In.placed ts) j is)) k.1 ∙ e)).1 k.0,
      )

  parts_suffice : (ys : List SuchTyp) (known : List ℕ) (is : List Indices) (vs : List Value) (n : ℕ) (f : Point n)
      → length ys ≡ length is → EachHad types past own f is vs → StaysUnder types past own f js qs
      → Gives known (λ j. In.among (map In.placed (types_in ys)) j is)
      → Suffices past n f (each_placing (each_fit (types_in ys)) is known n).fitted (λ g. EachPart g (types_in ys) is vs)
  unfolding PartGoes Behind
  parts_suffice [] known [] [] n f parts had s given = says_so [] (λ g a said. (refl, tt))
  parts_suffice [] known [] (v ∷ vs) n f parts had s given = absurd had
  parts_suffice [] known (i ∷ is) vs n f parts had s given = absurd (omega (arith, parts))
  parts_suffice (y ∷ ys) known [] vs n f parts had s given = absurd (omega (arith, parts))
  parts_suffice (y ∷ ys) known (i ∷ is) [] n f parts had s given = absurd had
  parts_suffice (y ∷ ys) known (i ∷ is) (v ∷ vs) n f parts had s given =
      let made = parameter_fits fit js qs y.0 known i n in
      suffice_as (also_suffice (λ m. (each_placing (each_fit (types_in ys)) is made.placed m).fitted)
      (y.1.0 known i v n f had.0 s (gives_first known y.0 (types_in ys) i is given))
      (λ g l. parts_suffice ys made.placed is vs made.fitted.next g (omega (arith, parts)) (each_later types past own f g is vs l had.1)
      (under_later types past own f g js qs l s) (gives_rest known made.placed y.0 (types_in ys) i is (λ j m h. y.1.1 known i n j m h) given)))
      (λ g a q. (
        two (belongs types v (reading y.0 (under_at g) (stand g))) (each_belongs (asks types vs) (under_at g) (stand g) (types_in ys)) q.0.0 q.1.0,
        (q.0.1, q.1.1),
      ))

  parts_behind : (ys : List SuchTyp) (known : List ℕ) (is : List Indices) (n j : ℕ) → j < length js
      → is_placed (each_placing (each_fit (types_in ys)) is known n).placed j ≡ false
      → (is_placed known j ≡ false) × (In.among (map In.placed (types_in ys)) j is ≡ None)
  unfolding Behind
  parts_behind [] known is n j l h = (h, refl)
  parts_behind (y ∷ ys) known [] n j l h = (h, refl)
  parts_behind (y ∷ ys) known (i ∷ is) n j l h =
      let made = parameter_fits fit js qs y.0 known i n in
      let rest = parts_behind ys made.placed is made.fitted.next j l h in
      let one = y.1.1 known i n j l rest.0 in
      (one.0, first_none (In.placed y.0 j i) (In.among (map In.placed (types_in ys)) j is) one.1 rest.1)

  -- ---- a type, by its form and by that of the value

  abbrev fits_form : Typ-F Typ → Typ-F (Typ × TypeFit)
  fits_form x = map-Typ Typ (Typ × TypeFit) (λ t. (t, type_fits fit js qs t)) x

  opens_form : (x : Typ-F Typ) (known : List ℕ) (i : Indices) (n : ℕ)
      → parameter_fits fit js qs (roll-Typ x) known i n
      ≡ value_placing fit js qs (fits_form x) known n (whole_placed fit js qs (roll-Typ x) known i n) (out-Indices i)
  opens_form x known i n = ap (λ (f : TypeFit). f (roll-Typ x) known i n) (para-roll-Typ TypeFit (form_placing fit js qs) x)

  fits_length : (ys : List SuchTyp) → length (each_fit (types_in ys)) ≡ length ys
  fits_length [] = refl
  fits_length (y ∷ ys) = ap suc (fits_length ys)

  module _ (t : Typ) (i : Indices) where
    -- the parts of a value of a tuple's indices
    tuple_suffices : (ys : List SuchTyp) (is : List Indices) (w : Value-F Value) (known : List ℕ) (n : ℕ) (f : Point n)
        → length ys ≡ length is
        → Always types past own f (λ g. (form_holds types (there g) own (W.Tuple (map (meant types (there g) own) is)) w ≡ true)
        × (wide_at types past own g (W.Tuple is) ≡ wide_at types past own f.integers (W.Tuple is)))
        → StaysUnder types past own f js qs → Gives known (λ j. In.among (map In.placed (types_in ys)) j is)
        → Suffices past n f (each_placing (each_fit (types_in ys)) is known n).fitted (λ g.
        (form_asked types w (T.Tuple (types_in ys)) (under_at g) (stand g) ≡ true)
        × ((j : ℕ) → option_map (given_there (there g)) (In.among (map In.placed (types_in ys)) j is)
        ≡ Of.form_place (T.Tuple (map Of.placed (types_in ys))) j w))
    tuple_suffices ys is (V.Tuple vs) known n f parts h s given =
        suffice_as (parts_suffice ys known is vs n f parts
        (each_had types past own f is vs (λ g a. ((h g a).0, tuple_stays types past own g f.integers is (h g a).1))) s given)
        (λ g a q. (
          ap (each_belongs (asks types vs) (under_at g) (stand g)) (fronts (inner types (V.Tuple vs) (stand g)) (types_in ys)) ∙ q.0,
          among_same (there g) (types_in ys) is vs q.1,
        ))
    tuple_suffices ys is w known n f parts h s given = no (h f.integers (same f)).0

    form_goes : (v : Value) (x : Typ-F SuchTyp) → roll-Typ (typ_form x) ≡ t → (y : Indices-F Indices Reading) → out-Indices i ≡ y
        → (known : List ℕ) (n : ℕ) (f : Point n) → Had types past own f i v
        → HadForm types past own f y v → StaysUnder types past own f js qs → Given known t i
        → Suffices past n f (value_placing fit js qs (fits_form (typ_form x)) known n (whole_placed fit js qs t known i n) y).fitted (PartFits t i v)
    form_goes v (T.Int u) e (W.Integer m) d known n f had h s given =
        let here : (j : ℕ) → In.placed t j i ≡ only (is_variable j u) (N.Number m) =
        λ j. index_placed (T.Int u) t j i e ∙ ap (In.form_place (T.Int u) j) d in
        let fits_by : (g : Integers) → Agree f g → number (there g) m ≡ number (under_at g) u → PartFits t i v g =
        λ g a k. (
          belongs_form types v (T.Int u) t (under_at g) (stand g) e
              ∙ integer_into types own (there g) (under_at g) (stand g) m u k (out-Value v) (h g a).0,
          λ j. ap (option_map (given_there (there g))) (here j) ∙ integer_placed types own (there g) m u j (out-Value v) (h g a).0
              ∙ sym (value_placed (T.Int u) t j v e),
        ) in
        choose (gives_number known (variable_in u)) (says [] n) (says (number_fits m (read js u)) n)
        (λ b. says_so [] (λ g a said. fits_by g a
        (number_given known u m (λ j. In.placed t j i) (λ j is. here j ∙ only_there (is_variable j u) (N.Number m) is) given b g)))
        (says_so (number_fits m (read js u)) (λ g a said.
        let q = number_said (there g) m (read js u) said in fits_by g a (q.2 ∙ number_read past g js u q.0 q.1)))
    form_goes v (T.Bits u) e (W.Bits m) d known n f had h s given =
        let here : (j : ℕ) → In.placed t j i ≡ only (is_variable j u) (N.Number m) =
        λ j. index_placed (T.Bits u) t j i e ∙ ap (In.form_place (T.Bits u) j) d in
        let fits_by : (g : Integers) → Agree f g → number (there g) m ≡ number (under_at g) u → PartFits t i v g =
        λ g a k. (
          belongs_form types v (T.Bits u) t (under_at g) (stand g) e
              ∙ bits_into types own (there g) (under_at g) (stand g) m u k (out-Value v) (h g a).0,
          λ j. ap (option_map (given_there (there g))) (here j) ∙ bits_placed types own (there g) m u j (out-Value v) (h g a).0
              ∙ sym (value_placed (T.Bits u) t j v e),
        ) in
        choose (gives_number known (variable_in u)) (says [] n) (says (number_fits m (read js u)) n)
        (λ b. says_so [] (λ g a said. fits_by g a
        (number_given known u m (λ j. In.placed t j i) (λ j is. here j ∙ only_there (is_variable j u) (N.Number m) is) given b g)))
        (says_so (number_fits m (read js u)) (λ g a said.
        let q = number_said (there g) m (read js u) said in fits_by g a (q.2 ∙ number_read past g js u q.0 q.1)))
    form_goes v (T.Truth c) e (W.Truth m) d known n f had h s given =
        let here : (j : ℕ) → In.placed t j i ≡ only (form_is j (out-Con c)) (N.Truth m) =
        λ j. index_placed (T.Truth c) t j i e ∙ ap (In.form_place (T.Truth c) j) d in
        let fits_by : (g : Integers) → Agree f g → true_in (there g) m ≡ true_in (under_at g) c → PartFits t i v g =
        λ g a k. (
          belongs_form types v (T.Truth c) t (under_at g) (stand g) e
              ∙ truth_into types own (there g) (under_at g) (stand g) m c k (out-Value v) (h g a).0,
          λ j. ap (option_map (given_there (there g))) (here j) ∙ truth_there types own (there g) m c j (out-Value v) (h g a).0
              ∙ sym (value_placed (T.Truth c) t j v e),
        ) in
        choose (gives_number known (form_variable (out-Con c))) (says [] n) (says (truth_fits m (read_con js c)) n)
        (λ b. says_so [] (λ g a said.
        fits_by g a (truth_given known c m (λ j. In.placed t j i) (λ j is. here j ∙ only_there (form_is j (out-Con c)) (N.Truth m) is) given b g)))
        (says_so (truth_fits m (read_con js c)) (λ g a said.
        let q = truth_said (there g) m (read_con js c) said in fits_by g a (q.2 ∙ truth_read past g js c q.0 q.1)))
    form_goes v (T.Vector l y) e (W.Vector k r) d known n f had h s given =
        let here : (j : ℕ) → In.placed t j i ≡ only (is_variable j l) (N.Number k) =
        λ j. index_placed (T.Vector l y.0) t j i e ∙ ap (In.form_place (T.Vector l (In.placed y.0)) j) d in
        let fits_by : (g : Integers) → Agree f g → number (there g) k ≡ number (under_at g) l → Within types past own g r (R.Of y.0 js qs) → PartFits t i v g =
        λ g a m q. (
          belongs_form types v (T.Vector l y.0) t (under_at g) (stand g) e
              ∙ vector_into types own (there g) (under_at g) (stand g) k l m (closed types (there g) own r) y.0
              (λ x b. ap (belongs types x) (sym (closed_of types past own qs g y.0 js)) ∙ q x b) (out-Value v) (h g a).0,
          λ j. ap (option_map (given_there (there g))) (here j)
              ∙ length_there types own (there g) k l (closed types (there g) own r) (Of.placed y.0) j (out-Value v) (h g a).0
              ∙ sym (value_placed (T.Vector l y.0) t j v e),
        ) in
        let items : (m : ℕ) (p : Point m) → Later f p
        → Suffices past m p (item_fits fit r (R.Of y.0 js qs) m) (λ g. Within types past own g r (R.Of y.0 js qs)) =
        λ m p b. item_suffices types past own fit go counts m p r (R.Of y.0 js qs) (of_full y.0 js qs full)
        (stays_later types past own f p r b (vector_stays types past own f k r (λ g a. (h g a).1)))
        (stays_later types past own f p (R.Of y.0 js qs) b (of_stays types past own f js qs y.0 s)) in
        choose (gives_number known (variable_in l)) (item_fits fit r (R.Of y.0 js qs) n)
        (also (says (number_fits k (read js l)) n) (item_fits fit r (R.Of y.0 js qs)))
        (λ b. suffice_as (items n f (no_later f)) (λ g a q. fits_by g a
        (number_given known l k (λ j. In.placed t j i) (λ j is. here j ∙ only_there (is_variable j l) (N.Number k) is) given b g) q))
        (suffice_as (also_suffice (item_fits fit r (R.Of y.0 js qs)) (says_so (number_fits k (read js l)) (λ g a said. said)) (λ p b. items n p b))
        (λ g a q. let w = number_said (there g) k (read js l) q.0 in fits_by g a (w.2 ∙ number_read past g js l w.0 w.1) q.1))
    form_goes v (T.Tuple ys) e (W.Tuple is) d known n f had h s given =
        by (nat_eq (length (each_fit (types_in ys))) (length is)) refl
      where
        by : (b : Bool) → nat_eq (length (each_fit (types_in ys))) (length is) ≡ b
            → Suffices past n f (if b then each_placing (each_fit (types_in ys)) is known n else whole_placed fit js qs t known i n).fitted (PartFits t i v)
        by false c = whole_suffices t i v n f had s
        by true c =
            suffice_as (tuple_suffices ys is (out-Value v) known n f
            (sym (fits_length ys) ∙ (Decides-eqb (length (each_fit (types_in ys))) (length is)).0 c) h s (λ j x k.
            given j x (index_placed (T.Tuple (types_in ys)) t j i e ∙ ap (In.form_place (T.Tuple (map In.placed (types_in ys))) j) d ∙ k)))
            (λ g a q. (
              belongs_form types v (T.Tuple (types_in ys)) t (under_at g) (stand g) e ∙ q.0,
              λ j. ap (option_map (given_there (there g)))
                  (index_placed (T.Tuple (types_in ys)) t j i e ∙ ap (In.form_place (T.Tuple (map In.placed (types_in ys))) j) d)
                  ∙ q.1 j ∙ sym (value_placed (T.Tuple (types_in ys)) t j v e),
            ))
    form_goes v x e y d known n f had h s given = whole_suffices t i v n f had s

    form_behind : (x : Typ-F SuchTyp) → roll-Typ (typ_form x) ≡ t → (y : Indices-F Indices Reading) → out-Indices i ≡ y
        → (known : List ℕ) (n j : ℕ) → j < length js
        → is_placed (value_placing fit js qs (fits_form (typ_form x)) known n (whole_placed fit js qs t known i n) y).placed j ≡ false
        → (is_placed known j ≡ false) × (In.placed t j i ≡ None)
    form_behind (T.Int u) e (W.Integer m) d known n j l h =
        let k = number_behind known u (N.Number m) j h in (k.0, index_placed (T.Int u) t j i e ∙ ap (In.form_place (T.Int u) j) d ∙ k.1)
    form_behind (T.Bits u) e (W.Bits m) d known n j l h =
        let k = number_behind known u (N.Number m) j h in (k.0, index_placed (T.Bits u) t j i e ∙ ap (In.form_place (T.Bits u) j) d ∙ k.1)
    form_behind (T.Truth c) e (W.Truth m) d known n j l h =
        let k = truth_behind known c (N.Truth m) j h in (k.0, index_placed (T.Truth c) t j i e ∙ ap (In.form_place (T.Truth c) j) d ∙ k.1)
    form_behind (T.Vector u y) e (W.Vector m r) d known n j l h =
        let k = number_behind known u (N.Number m) j h in (
          k.0,
          index_placed (T.Vector u y.0) t j i e ∙ ap (In.form_place (T.Vector u (In.placed y.0)) j) d ∙ k.1,
        )
    form_behind (T.Tuple ys) e (W.Tuple is) d known n j l h = by (nat_eq (length (each_fit (types_in ys))) (length is)) h
      where
        by : (b : Bool) → is_placed (if b then each_placing (each_fit (types_in ys)) is known n else whole_placed fit js qs t known i n).placed j ≡ false
            → (is_placed known j ≡ false) × (In.placed t j i ≡ None)
        by false m = whole_behind t known i n j l m
        by true m =
            let k = parts_behind ys known is n j l m in (
              k.0,
              index_placed (T.Tuple (types_in ys)) t j i e ∙ ap (In.form_place (T.Tuple (map In.placed (types_in ys))) j) d ∙ k.1,
            )
    form_behind x e y d known n j l h = whole_behind t known i n j l h

  -- ---- types inside types

  part_step : (x : Typ-F SuchTyp) → PartGoes (roll-Typ (typ_form x))
  unfolding PartGoes
  part_step x known i v n f had s given =
      let t = roll-Typ (typ_form x) in
      subst (λ (a : Placing). Suffices past n f a.fitted (PartFits t i v)) (sym (opens_form (typ_form x) known i n))
      (form_goes t i v x refl (out-Indices i) refl known n f had (had_form types past own f i v had) s given)

  behind_step : (x : Typ-F SuchTyp) → Behind (roll-Typ (typ_form x))
  unfolding Behind
  behind_step x known i n j l h =
      form_behind (roll-Typ (typ_form x)) i x refl (out-Indices i) refl known n j l
      (ap (λ (a : Placing). is_placed a.placed j) (sym (opens_form (typ_form x) known i n)) ∙ h)

  each_part : (t : Typ) → PartGoes t × Behind t
  each_part = ind-Typ (λ t. PartGoes t × Behind t)
      (λ e y same_form. subst (λ d. PartGoes (roll-Typ d) × Behind (roll-Typ d)) same_form (part_step y, behind_step y))

  pub part_suffices : (t : Typ) (known : List ℕ) (i : Indices) (v : Value) (n : ℕ) (f : Point n) → Had types past own f i v
      → StaysUnder types past own f js qs → Given known t i → Suffices past n f (parameter_fits fit js qs t known i n).fitted (PartFits t i v)
  unfolding PartGoes
  part_suffices t known i v n f h s given = (each_part t).0 known i v n f h s given

  pub part_behind : (t : Typ) (known : List ℕ) (i : Indices) (n j : ℕ) → j < length js
      → is_placed (parameter_fits fit js qs t known i n).placed j ≡ false → (is_placed known j ≡ false) × (In.placed t j i ≡ None)
  unfolding Behind
  part_behind t known i n j l h = (each_part t).1 known i n j l h
