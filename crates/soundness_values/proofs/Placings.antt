-- What the arguments of a call owe counts variables on: none from before is taken again.
use Rattle.std.proofs.Common.{ℕ, ◌≤◌, nat_eq, Bool, true, false, List, [], ◌∷◌, length, map, Option, if◌then◌else◌, subst, sym}
use Rattle.sail_types.specs.Readings.{read_con}
use Rattle.sail_types.specs.Sums.{read}
use Rattle.sail_types.specs.Zero.{deepest}
use Rattle.sail_types.specs.declared.numbers.Con.{Con, out-Con}
use Rattle.sail_types.specs.declared.numbers.Index.{Index}
use Rattle.sail_types.specs.declared.numbers.Num.{Num}
use Rattle.sail_types.specs.declared.table.Types.{Types}
use Rattle.sail_types.specs.declared.types.Typ.{Typ, Typ-F, roll-Typ}
use Rattle.sail_types.specs.declared.types.Typ.TheFolds.{ind-Typ, map-Typ, para-roll-Typ}
use Rattle.sail_types.specs.declared.types.Typ.TheOpen as T
use Rattle.sail_core.specs.declared.model.Function.{Function}
use Rattle.value_indices.specs.declared.indices.Indices.{Indices, out-Indices}
use Rattle.value_indices.specs.declared.indices.Indices.TheOpen as W
use Rattle.value_indices.specs.declared.indices.Reading.{Reading}
use Rattle.value_indices.specs.declared.indices.Reading.TheVariants as R
use Rattle.value_fits.specs.Fitting.{Fit, also, fits, item_fits, joined, never, number_fits, says, truth_fits}
use Rattle.value_fits.specs.declared.fitted.Fitted.{Fitted}
use Rattle.fitting_laws.proofs.Counted.{Counts, FitCounts, fits_count, item_counts}
use Rattle.fitting_laws.proofs.Counting.{le_on, le_self}
use Rattle.call_arguments.specs.Callees.{is_closed}
use Rattle.call_arguments.specs.Holes.{types_without_holes}
use Rattle.call_arguments.specs.Placing.{PlaceFit, Placing, TypeFit, ValueForm, also_placing, are_as_many, argument_fits, arguments_fit}
use Rattle.call_arguments.specs.Placing.{arguments_owe, at_place, bits_placed}
use Rattle.call_arguments.specs.Placing.{bool_placed}
use Rattle.call_arguments.specs.Placing.{call_conditions, constraint_of, each_placing, form_placing, form_variable, gives_number, int_placed, items_placed}
use Rattle.call_arguments.specs.Placing.{number_placed, parameter_fits, placing, truth_placed, tuple_placed, type_fits, variable_in, vector_placed}
use Rattle.call_arguments.specs.Placing.{whole_placed}

-- behind a placing no variable is before this one
abbrev On : ℕ → Placing → Type 0
On n p = n ≤ p.fitted.next

abbrev Places : PlaceFit → Type 0
Places f = (known : List ℕ) (i : Indices) (n : ℕ) → On n (f known i n)

abbrev AllPlace : List PlaceFit → Type 0
AllPlace [] = Unit {0}
AllPlace (f ∷ fs) = Places f × AllPlace fs

joins : (a b : Fitted) (n : ℕ) → n ≤ b.next → n ≤ (joined a b).next
unfolding joined
joins a b n h = h

place_on : (known : List ℕ) (v : Option ℕ) (owed given : Fitted) (n : ℕ) → n ≤ owed.next → n ≤ given.next → On n (at_place known v owed given)
place_on known v owed given n h k = by (gives_number known v)
  where
    by : (b : Bool) → n ≤ (if b then given else owed).next
    by true = k
    by false = h

also_on : (a : Placing) (more : List ℕ → ℕ → Placing) (n : ℕ) → On n a → ((known : List ℕ) (m : ℕ) → On m (more known m)) → On n (also_placing a more)
also_on a more n h k = joins a.fitted (more a.placed a.fitted.next).fitted n (le_on h (k a.placed a.fitted.next))

each_on : (fs : List PlaceFit) → AllPlace fs → (is : List Indices) (known : List ℕ) (n : ℕ) → On n (each_placing fs is known n)
each_on [] h is known n = le_self n
each_on (f ∷ fs) h [] known n = le_self n
each_on (f ∷ fs) h (i ∷ is) known n = also_on (f known i n) (each_placing fs is) n (h.0 known i n) (each_on fs h.1 is)

number_on : (js : List Index) (t : Num) (known : List ℕ) (m : Num) (n : ℕ) → On n (number_placed js t known m n)
number_on js t known m n = place_on known (variable_in t) (says (number_fits m (read js t)) n) (says [] n) n (le_self n) (le_self n)

truth_on : (js : List Index) (c : Con) (known : List ℕ) (d : Con) (n : ℕ) → On n (truth_placed js c known d n)
truth_on js c known d n = place_on known (form_variable (out-Con c)) (says (truth_fits d (read_con js c)) n) (says [] n) n (le_self n) (le_self n)

module _ (types : Types) (fit : Fit) (counts : FitCounts fit) (js : List Index) (qs : List Reading) where
  vector_on : (l : Num) (q : Reading) (known : List ℕ) (k : Num) (r : Reading) (n : ℕ) → On n (vector_placed fit js l q known k r n)
  vector_on l q known k r n = place_on known (variable_in l) (also (says (number_fits k (read js l)) n) (item_fits fit r q)) (item_fits fit r q n) n
      (joins (says (number_fits k (read js l)) n) (item_fits fit r q n) n (item_counts types fit counts r q n)) (item_counts types fit counts r q n)

  module _ (known : List ℕ) (n : ℕ) (whole : Placing) (h : On n whole) where
    int_on : (t : Num) (v : ValueForm) → On n (int_placed js t known n whole v)
    int_on t (W.Integer m) = number_on js t known m n
    int_on t v = h

    bits_on : (t : Num) (v : ValueForm) → On n (bits_placed js t known n whole v)
    bits_on t (W.Bits m) = number_on js t known m n
    bits_on t v = h

    bool_on : (c : Con) (v : ValueForm) → On n (bool_placed js c known n whole v)
    bool_on c (W.Truth d) = truth_on js c known d n
    bool_on c v = h

    items_on : (l : Num) (q : Reading) (v : ValueForm) → On n (items_placed fit js l q known n whole v)
    items_on l q (W.Vector k r) = vector_on l q known k r n
    items_on l q v = h

    tuple_on : (fs : List PlaceFit) → AllPlace fs → (v : ValueForm) → On n (tuple_placed fs known n whole v)
    tuple_on fs k (W.Tuple is) = by (nat_eq (length fs) (length is))
      where
        by : (b : Bool) → On n (if b then each_placing fs is known n else whole)
        by true = each_on fs k is known n
        by false = h
    tuple_on fs k v = h

  TypePlaces : Typ → Type 0
  TypePlaces t = (u : Typ) → Places (type_fits fit js qs t u)

  abbrev SuchTyp : Type 0
  SuchTyp = (t : Typ) × TypePlaces t

  abbrev types_in : List SuchTyp → List Typ
  types_in ys = map (λ (y : SuchTyp). y.0) ys

  abbrev typ_form : Typ-F SuchTyp → Typ-F Typ
  typ_form y = map-Typ SuchTyp Typ (λ p. p.0) y

  abbrev fits_form : Typ-F Typ → TypeFit
  fits_form x = form_placing fit js qs (map-Typ Typ (Typ × TypeFit) (λ t. (t, type_fits fit js qs t)) x)

  parts_place : (ys : List SuchTyp) → AllPlace (map (λ (t : Typ × TypeFit). t.1 t.0) (map (λ t. (t, type_fits fit js qs t)) (types_in ys)))
  unfolding TypePlaces
  parts_place [] = tt
  parts_place (y ∷ ys) = (y.1 y.0, parts_place ys)

  whole_on : (u : Typ) (known : List ℕ) (i : Indices) (n : ℕ) → On n (whole_placed fit js qs u known i n)
  whole_on u known i n = counts i (R.Of u js qs) n

  form_on : (y : Typ-F SuchTyp) (u : Typ) → Places (fits_form (typ_form y) u)
  form_on (T.Int t) u known i n = int_on known n (whole_placed fit js qs u known i n) (whole_on u known i n) t (out-Indices i)
  form_on (T.Bits t) u known i n = bits_on known n (whole_placed fit js qs u known i n) (whole_on u known i n) t (out-Indices i)
  form_on (T.Truth c) u known i n = bool_on known n (whole_placed fit js qs u known i n) (whole_on u known i n) c (out-Indices i)
  form_on (T.Vector l y) u known i n = items_on known n (whole_placed fit js qs u known i n) (whole_on u known i n) l (R.Of y.0 js qs) (out-Indices i)
  form_on (T.Tuple ys) u known i n = tuple_on known n (whole_placed fit js qs u known i n) (whole_on u known i n)
      (map (λ (t : Typ × TypeFit). t.1 t.0) (map (λ t. (t, type_fits fit js qs t)) (types_in ys))) (parts_place ys) (out-Indices i)
  form_on y u known i n = whole_on u known i n

  typ_step : (y : Typ-F SuchTyp) → TypePlaces (roll-Typ (typ_form y))
  unfolding TypePlaces
  typ_step y u = subst (λ (f : TypeFit). Places (f u)) (sym (para-roll-Typ TypeFit (form_placing fit js qs) (typ_form y))) (form_on y u)

  each_typ : (t : Typ) → TypePlaces t
  each_typ = ind-Typ TypePlaces (λ e y is. subst (λ d. TypePlaces (roll-Typ d)) is (typ_step y))

  parameter_on : (t : Typ) → Places (parameter_fits fit js qs t)
  unfolding TypePlaces
  parameter_on t = each_typ t t

  argument_on : (b : Bool) (t : Typ) → Places (argument_fits fit js qs b t)
  argument_on true t known i n = by (is_closed t)
    where
      by : (c : Bool) → On n (if c then placing known (says [] n) else parameter_fits fit js qs t known i n)
      by true = le_self n
      by false = parameter_on t known i n
  argument_on false t known i n = parameter_on t known i n

  arguments_on : (bs : List Bool) (ts : List Typ) (is : List Indices) (known : List ℕ) (n : ℕ) → On n (arguments_fit fit js qs bs ts is known n)
  arguments_on [] ts is known n = le_self n
  arguments_on (b ∷ bs) [] is known n = le_self n
  arguments_on (b ∷ bs) (t ∷ ts) [] known n = le_self n
  arguments_on (b ∷ bs) (t ∷ ts) (i ∷ is) known n =
      also_on (argument_fits fit js qs b t known i n) (arguments_fit fit js qs bs ts is) n (argument_on b t known i n) (arguments_on bs ts is)

-- a call
pub conditions_count : (types : Types) (f : Function) (js : List Index) (qs : List Reading) (bs : List Bool) (is : List Indices)
    → Counts (call_conditions (fits types) f js qs bs is)
conditions_count types f js qs bs is n = by (are_as_many bs f.parameters is)
  where
    full : List Reading
    full = types_without_holes qs

    by : (b : Bool) → n ≤ (if b then arguments_owe (fits types) f js full bs is n else never n).next
    by true =
        let a = (arguments_fit (fits types) js full bs f.parameters is [] n).fitted in
        joins a (says (constraint_of js f.constraint) a.next) n (arguments_on types (fits types) (fits_count types deepest) js full bs f.parameters is [] n)
    by false = le_self n
