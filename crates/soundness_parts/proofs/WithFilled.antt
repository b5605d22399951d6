-- What the Type variables of a struct stand for once new values fill its holes: the struct is of its type with them, and so are the values.
use Rattle.std.proofs.Common.{◌≡◌, ℕ, suc, Bool, true, false, List, [], ◌∷◌, length, map, if◌then◌else◌, Some, None, refl, sym, ap, ◌∙◌, subst}
use Rattle.std.proofs.lemmas.Bool.{and_parts}
use Rattle.sail_base.specs.declared.place.Place.{Place}
use Rattle.sail_types.specs.Belongs.{Reading as Closed, Readings as Closeds, assigned, belongs, each_belongs, reading}
use Rattle.sail_types.specs.Numbers.{Assignment}
use Rattle.sail_types.specs.declared.numbers.Index.{Index}
use Rattle.sail_types.specs.declared.table.Types.{Types}
use Rattle.sail_types.specs.declared.types.Typ.{Typ}
use Rattle.sail_types.specs.declared.types.Typ.TheOpen as T
use Rattle.sail_types.specs.declared.types.Typ.TheVariants as U
use Rattle.sail_types.specs.declared.values.Value.{Value, out-Value}
use Rattle.sail_types.specs.declared.values.Value.TheOpen as O
use Rattle.sail_types.specs.declared.values.Value.TheVariants as V
use Rattle.sail_types.specs.declared.values.Value.TheViews.{out-roll-Value}
use Rattle.value_indices.specs.Steps.{bind, give}
use Rattle.value_indices.specs.declared.indices.Indices.{Indices, out-Indices}
use Rattle.value_indices.specs.declared.indices.Indices.TheOpen as W
use Rattle.value_indices.specs.declared.indices.Indices.TheVariants as I
use Rattle.value_indices.specs.declared.indices.Indices.TheViews.{out-roll-Indices}
use Rattle.value_indices.specs.declared.indices.Reading.{Reading}
use Rattle.value_indices.specs.declared.indices.Reading.TheVariants as R
use Rattle.value_indices.specs.declared.notes.Fact.{Fact}
use Rattle.value_fits.specs.Fitting.{fits, owe_fit}
use Rattle.call_arguments.specs.Callees.{types_from}
use Rattle.call_arguments.specs.Holes.{has_hole, types_without_holes, value_has_hole}
use Rattle.expression_steps.specs.Filling.{each_filled, filled_or, refilled, types_behind, with_filled}
use Rattle.value_laws.specs.Belonging.{Integers, Meant, closed, closeds, form_holds, has, index_there, is_of, meant, nowhere, standing}
use Rattle.value_laws.specs.Belonging.{type_variables, types_or_own}
use Rattle.value_laws.specs.Known.{Agree, Point}
use Rattle.value_laws.proofs.Alike.{asks}
use Rattle.value_laws.proofs.Basics.{fronts, no}
use Rattle.value_laws.proofs.Meanings.{named_same}
use Rattle.value_laws.proofs.Steps.{same}
use Rattle.value_laws.proofs.Values.{belongs_form, closed_is, form_asked, has_form, inner, meant_is}
use Rattle.fitting_laws.proofs.Holes.{widened_full}
use Rattle.call_fits.specs.Calls.{AreArguments}
use Rattle.call_fits.proofs.Filled.{filled_full, filled_same}
use Rattle.call_fits.proofs.Types.{types_steady}
use Rattle.meeting_laws.proofs.Forms.{named_as}
use Rattle.row_laws.proofs.Steady.{first_same, rest_same}
use Rattle.soundness_steps.proofs.Points.{agree_on, later_on, no_later}
use Rattle.soundness_steps.specs.Works.{Scene, Setting, Work, here}
use Rattle.soundness_steps.specs.Steps.{Walks}
use Rattle.soundness_steps.specs.Values.{AllHave, Has, IsWanted}
use Rattle.soundness_steps.proofs.Steps.{given_back, walks_on}
use Rattle.soundness_forms.specs.Forms.{FitsSuffice}
use Rattle.soundness_forms.proofs.Basics.{has_on, wanted_on}
use Rattle.soundness_forms.proofs.Parts.{tuple_has}
use Rattle.soundness_values.proofs.Filling.{walks_next}
use Rattle.soundness_values.proofs.Named.{NumbersStay, TypesStay, part_wanted}
use Rattle.soundness_values.proofs.NamedWalks.{IndicesStay}
use Rattle.soundness_values.proofs.Seen.{value_hole_in}
use Rattle.soundness_values.proofs.Unions.{AllOfTypes}
use Rattle.soundness_parts.proofs.NamedTypes.{indices_stay, numbers_stay, type_is, types_stay}
use Rattle.soundness_parts.proofs.WithFields.{AllFit}

-- ---- the types that are filled in

module _ (set : Setting) (work : Work) (g k : Integers) where
  abbrev one : Reading → Closed
  one r = closed set.around.types (standing set.past g) work.types r

  abbrev other : Reading → Closed
  other r = closed set.around.types (standing set.past k) work.types r

  either_same : (r q : Reading) → one r ≡ other r → one q ≡ other q → one (filled_or r q) ≡ other (filled_or r q)
  either_same r q a b = by (has_hole q) (has_hole r)
    where
      by : (c d : Bool) → one (if c then r else (if d then q else r)) ≡ other (if c then r else (if d then q else r))
      by true d = a
      by false true = b
      by false false = a

  filled_stay : (rs qs : List Reading) → map one rs ≡ map other rs → map one qs ≡ map other qs → map one (each_filled rs qs) ≡ map other (each_filled rs qs)
  filled_stay [] qs a b = refl
  filled_stay (r ∷ rs) [] a b =
      let first = first_same (one r) (other r) (map one rs) (map other rs) a in
      let rest = filled_stay rs [] (rest_same (one r) (other r) (map one rs) (map other rs) a) refl in
      λ j. first j ∷ rest j
  filled_stay (r ∷ rs) (q ∷ qs) a b =
      let first = either_same r q (first_same (one r) (other r) (map one rs) (map other rs) a) (first_same (one q) (other q) (map one qs) (map other qs) b) in
      let rest = filled_stay rs qs (rest_same (one r) (other r) (map one rs) (map other rs) a) (rest_same (one q) (other q) (map one qs) (map other qs) b) in
      λ j. first j ∷ rest j

filled_long : (rs qs : List Reading) → length (each_filled rs qs) ≡ length rs
filled_long [] qs = refl
filled_long (r ∷ rs) [] = ap suc (filled_long rs [])
filled_long (r ∷ rs) (q ∷ qs) = ap suc (filled_long rs qs)

-- ---- a struct, and a tuple of values of its fields

module _ (set : Setting) (work : Work) (u : ℕ) (js : List Index) (g : Integers) where
  abbrev types : Types
  types = set.around.types

  abbrev mu : Assignment
  mu = standing set.past g

  abbrev there : List Reading → List Closed
  there rs = map (closed set.around.types (standing set.past g) work.types) rs

  named_is : (rs : List Reading) (v : Value)
      → has types mu work.types (I.Named u js rs) v ≡ form_holds types mu work.types (W.Named u js (there rs)) (out-Value v)
  named_is rs v = has_form types mu work.types (I.Named u js rs) (W.Named u js rs) v (I.rolls-Named u js rs)

  wide_named : (rs : List Reading) (v : Value)
      → is_of types mu work.types (R.Widened (I.Named u js rs)) v ≡ has types mu work.types (I.Named u js rs) v
  wide_named rs v =
      let ks = map (index_there mu) js in
      let ts = type_variables 0 (there rs) in
      ap (belongs types v) (closed_is types mu work.types (R.Widened (I.Named u js rs)) (W.Widened (I.Named u js rs)) (R.rolls-Widened (I.Named u js rs))
      ∙ ap (λ (m : Meant). m.wide) (meant_is types mu work.types (I.Named u js rs) (W.Named u js rs) (I.rolls-Named u js rs)))
      ∙ belongs_form types v (T.Named u ks ts) (U.Named u ks ts) (nowhere mu) (closeds (there rs)) (U.rolls-Named u ks ts)
      ∙ named_as types set.past work.types g u js (there rs) (out-Value v) ∙ sym (named_is rs v)

  -- where holes stand for what never ends
  whole_named : (rs : List Reading) (v : Value)
      → has types mu work.types (I.Named u js (types_without_holes rs)) v ≡ has types mu work.types (I.Named u js rs) v
  whole_named rs v =
      named_is (types_without_holes rs) v ∙ ap (λ cs. form_holds types mu work.types (W.Named u js cs) (out-Value v)) (filled_same types mu work.types rs)
      ∙ sym (named_is rs v)

  all_of_types : (nu : Assignment) (cs : Closeds) (ts : List Typ) (vs : List Value) → each_belongs (asks types vs) nu cs ts ≡ true
      → AllOfTypes types nu cs ts vs
  all_of_types nu cs [] [] h = tt
  all_of_types nu cs (t ∷ ts) (v ∷ vs) h =
      let both = and_parts (belongs types v (reading t nu cs)) (each_belongs (asks types vs) nu cs ts) h in (both.0, all_of_types nu cs ts vs both.1)
  all_of_types nu cs [] (v ∷ vs) h = no h
  all_of_types nu cs (t ∷ ts) [] h = no h

  tuple_types : (nu : Assignment) (cs : Closeds) (ts : List Typ) (vs : List Value) → belongs types (V.Tuple vs) (reading (U.Tuple ts) nu cs) ≡ true
      → AllOfTypes types nu cs ts vs
  tuple_types nu cs ts vs h =
      all_of_types nu cs ts vs (
      sym (ap (each_belongs (asks types vs) nu cs) (fronts (inner types (O.Tuple vs) cs) ts))
      ∙ sym (ap (λ w. form_asked types w (T.Tuple ts) nu cs) (ap out-Value (sym (V.rolls-Tuple vs)) ∙ out-roll-Value (O.Tuple vs)))
      ∙ sym (belongs_form types (V.Tuple vs) (T.Tuple ts) (U.Tuple ts) nu cs (U.rolls-Tuple ts)) ∙ h)

  all_fit : (rs : List Reading) (ts : List Typ) (vs : List Value)
      → AllOfTypes types (assigned mu js) (closeds (types_or_own (there rs) work.types)) ts vs → AllFit set work js rs g ts vs
  all_fit rs [] [] h = tt
  all_fit rs (t ∷ ts) (v ∷ vs) h = (ap (belongs types v) (type_is set work js rs t g) ∙ h.0, all_fit rs ts vs h.1)
  all_fit rs [] (v ∷ vs) h = absurd h
  all_fit rs (t ∷ ts) [] h = absurd h

  -- values that a tuple holds, of types without holes
  pub tuple_fits : (rs : List Reading) (ts : List Typ) (vs : List Value)
      → is_of types mu work.types (R.Of (U.Tuple ts) js (types_without_holes rs)) (V.Tuple vs) ≡ true → AllFit set work js rs g ts vs
  tuple_fits rs ts vs h =
      all_fit rs ts vs (subst (λ cs. AllOfTypes types (assigned mu js) (closeds (types_or_own cs work.types)) ts vs) (filled_same types mu work.types rs)
      (tuple_types (assigned mu js) (closeds (types_or_own (there (types_without_holes rs)) work.types)) ts vs
      (ap (belongs types (V.Tuple vs)) (sym (type_is set work js (types_without_holes rs) (U.Tuple ts) g)) ∙ h)))

-- ---- the walk

module _ (fit : FitsSuffice) (q : Scene) (place : Place) (u : ℕ) (js : List Index) (rs : List Reading) (ts : List Typ) (old : Value) where
  -- a struct of its type with these, which the values are of
  pub record Filled {n : ℕ} (f : Point n) (vs : List Value) (i : Indices) : Type 0 where
    pub of_types : List Reading
    pub is : i ≡ I.Named u js of_types
    pub long : length of_types ≡ length rs
    pub indices : IndicesStay q.set q.work f js
    pub stay : TypesStay q.set q.work f of_types
    pub was : has q.set.around.types (standing q.set.past f.integers) q.work.types (I.Named u js of_types) old ≡ true
    pub typed : AllFit q.set q.work js of_types f.integers ts vs

  module _ {n : ℕ} {f : Point n} (h : Has q.set q.work f (I.Named u js rs) old) (is : List Indices) (vs : List Value)
      (have : AllHave q.set q.work f is vs) (bs : List Bool)
      (given : AreArguments q.set.around.types q.set.past q.work.types f bs ts is vs) where
    abbrev qs : List Reading
    qs = types_behind n ts rs is

    stays : TypesStay q.set q.work f qs
    stays g a =
        filled_stay q.set q.work g f.integers rs (types_from n 0 (length rs) ts is) (types_stay q.set q.work js rs f u old h g a)
        (types_steady q.set.around.types q.set.past q.work.types f bs (length rs) 0 ts is vs given g a)

    numbers : NumbersStay q.set q.work f js
    numbers = numbers_stay q.set q.work js rs f u old h

    none_known : (os : List Reading) → None ≡ Some os → os ≡ qs
    none_known os e = absurd (cc)

    whole_meant : (g : Integers) → Agree f g
        → meant q.set.around.types (standing q.set.past g) q.work.types (I.Named u js (types_without_holes qs))
        ≡ meant q.set.around.types (standing q.set.past f.integers) q.work.types (I.Named u js (types_without_holes qs))
    whole_meant g a =
        let ws = types_without_holes qs in
        let types = q.set.around.types in
        let at : Integers → List Closed = λ d. map (closed types (standing q.set.past d) q.work.types) ws in
        meant_is types (standing q.set.past g) q.work.types (I.Named u js ws) (W.Named u js ws) (I.rolls-Named u js ws)
        ∙ named_same types q.set.past q.work.types g f.integers u js js (at g) (at f.integers) (numbers g a)
        (indices_stay q.set q.work js rs f u old h g a)
        (filled_same types (standing q.set.past g) q.work.types qs ∙ stays g a ∙ sym (filled_same types (standing q.set.past f.integers) q.work.types qs))
        ∙ sym (meant_is types (standing q.set.past f.integers) q.work.types (I.Named u js ws) (W.Named u js ws) (I.rolls-Named u js ws))

    wide_wanted : IsWanted q.set q.work f (R.Widened (I.Named u js (types_without_holes qs)))
    wide_wanted =
        let i = I.Named u js (types_without_holes qs) in
        let types = q.set.around.types in (
          λ g a. closed_is types (standing q.set.past g) q.work.types (R.Widened i) (W.Widened i) (R.rolls-Widened i)
              ∙ ap (λ (m : Meant). m.wide) (whole_meant g a)
              ∙ sym (closed_is types (standing q.set.past f.integers) q.work.types (R.Widened i) (W.Widened i) (R.rolls-Widened i)),
          widened_full i (ap value_has_hole (sym (I.rolls-Named u js (types_without_holes qs))) ∙ value_hole_in (W.Named u js (types_without_holes qs))
              ∙ filled_full types (standing q.set.past f.integers) q.work.types qs),
        )

    refills : {facts : List Fact} → Walks q n f facts (refilled (here q) place ts (I.Named u js rs) u js qs is) (λ p g i. Filled g vs i)
    refills {facts} =
        let ws = types_without_holes qs in
        let types = q.set.around.types in
        walks_on (λ t. bind (owe_fit place (fits types (I.Named u js rs) (R.Widened (I.Named u js ws)))) (λ v. give (I.Named u js qs)))
        (fit q n f facts place (I.Tuple is) (R.Of (U.Tuple ts) js ws) (V.Tuple vs) (tuple_has q.set q.work f is vs have)
        (part_wanted fit q js qs f numbers stays None none_known f (no_later f) (U.Tuple ts))) (λ n2 g2 fs2 t l b.
        walks_on (λ v. give (I.Named u js qs))
        (fit q n2 g2 fs2 place (I.Named u js rs) (R.Widened (I.Named u js ws)) old (has_on l h)
        (wanted_on q.set q.work (R.Widened (I.Named u js ws)) l wide_wanted)) (λ n3 g3 fs3 v l2 c.
        let d = g3.integers in
        given_back (I.Named u js qs) (record {
          of_types = qs;
          is = refl;
          long = filled_long rs (types_from n 0 (length rs) ts is);
          indices = indices_stay q.set q.work js rs g3 u old (has_on (later_on l l2) h);
          stay = λ e a. stays e (agree_on (later_on l l2) a) ∙ sym (stays d (agree_on (later_on l l2) (same g3)));
          was = sym (whole_named q.set q.work u js d qs old) ∙ sym (wide_named q.set q.work u js d ws old) ∙ c d (same g3);
          typed = tuple_fits q.set q.work u js d qs ts vs (b d (agree_on l2 (same g3)));
        })))

    pub fills : {facts : List Fact}
        → Walks q n f facts (with_filled (here q) place ts (I.Named u js rs) is (out-Indices (I.Named u js rs))) (λ p g i. Filled g vs i)
    fills {facts} =
        subst (λ form. Walks q n f facts (with_filled (here q) place ts (I.Named u js rs) is form) (λ p g i. Filled g vs i))
        (sym (ap out-Indices (sym (I.rolls-Named u js rs)) ∙ out-roll-Indices (W.Named u js rs)))
        (walks_next (λ m. refilled (here q) place ts (I.Named u js rs) u js (types_behind m ts rs is) is) refills)
