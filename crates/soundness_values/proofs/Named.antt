-- The parts of a value of a named type belong to the types of its definition, where what the walk over it owes is true.
use Rattle.std.proofs.Common.{◌≡◌, ℕ, Bool, true, false, List, [], ◌∷◌, map, length, Option, Some, None, refl, sym, ap, ◌∙◌, subst}
use Rattle.std.proofs.lemmas.Bool.{and_parts}
use Rattle.std.proofs.lemmas.List.{length-map}
use Rattle.sail_base.specs.declared.place.Place.{Place}
use Rattle.sail_types.specs.Belongs.{Reading as Closed, assigned, belongs, reading}
use Rattle.sail_types.specs.Numbers.{Assignment}
use Rattle.sail_types.specs.declared.numbers.Index.{Index}
use Rattle.sail_types.specs.declared.types.Typ.{Typ}
use Rattle.sail_types.specs.declared.values.Value.{Value}
use Rattle.value_indices.specs.declared.indices.Indices.{Indices}
use Rattle.value_indices.specs.declared.indices.Indices.TheOpen as W
use Rattle.value_indices.specs.declared.indices.Reading.{Reading}
use Rattle.value_indices.specs.declared.indices.Reading.TheVariants as Q
use Rattle.value_indices.specs.declared.notes.Fact.{Fact}
use Rattle.value_indices.specs.Steps.{Walk}
use Rattle.call_arguments.specs.Callees.{is_closed, is_numberless, is_numberless_under, is_typeless, was_due}
use Rattle.call_arguments.specs.Holes.{types_without_holes}
use Rattle.call_notes.specs.Calls.{part_owed, parts_owed}
use Rattle.call_fits.proofs.Closed.{closed_same}
use Rattle.call_fits.proofs.Filled.{filled_full, filled_same}
use Rattle.fitting_laws.proofs.Holes.{of_full}
use Rattle.value_laws.specs.Belonging.{Integers, closed, closeds, standing, types_or_own}
use Rattle.value_laws.specs.Known.{Agree, Point}
use Rattle.value_laws.proofs.Steps.{same}
use Rattle.value_laws.proofs.Values.{closed_is}
use Rattle.soundness_steps.specs.Points.{Later}
use Rattle.soundness_steps.proofs.Points.{agree_on, later_on}
use Rattle.soundness_steps.specs.Works.{Scene, Setting, Work, here}
use Rattle.soundness_steps.specs.Steps.{Walks}
use Rattle.soundness_steps.specs.Values.{AllHave, Belongs, Has, IsWanted}
use Rattle.soundness_steps.proofs.Steps.{given_back, walks_mean, walks_on}
use Rattle.soundness_forms.specs.Forms.{FitsSuffice}
use Rattle.soundness_forms.proofs.Basics.{has_on}
use Rattle.soundness_values.proofs.Narrowed.{AllNarrow}
use Rattle.soundness_values.specs.Narrow.{is_narrow}
use Rattle.soundness_values.proofs.Mappings.{beyonds_same}
use Rattle.soundness_values.proofs.Narrow.{own_behind}
use Rattle.soundness_values.proofs.Numberless.{numberless_same}
use Rattle.soundness_values.proofs.Taken.{walks_later}
use Rattle.soundness_values.proofs.Unions.{AllOfTypes}

abbrev pub known_types : Option (List Reading) → List Reading
known_types None = []
known_types (Some rs) = rs

-- what variables stand for, wherever fixed variables stand for the same
module _ (set : Setting) (work : Work) {n : ℕ} (f : Point n) where
  abbrev pub NumbersStay : List Index → Type 0
  NumbersStay js = (g : Integers) → Agree f g → assigned (standing set.past g) js ≡ assigned (standing set.past f.integers) js

  -- of Type parameters
  abbrev pub TypesStay : List Reading → Type 0
  TypesStay qs = (g : Integers) → Agree f g → map (closed set.around.types (standing set.past g) work.types) qs
      ≡ map (closed set.around.types (standing set.past f.integers) work.types) qs

  -- what was owed of a part further in, under the Type arguments that are known
  abbrev pub AllDue : Option (List Reading) → List Typ → List Value → Type 0
  AllDue known [] [] = Unit {0}
  AllDue known (t ∷ ts) (v ∷ vs) = (was_due known t ≡ true → Belongs set work f (Q.Of t [] (known_types known)) v) × AllDue known ts vs
  AllDue known ts vs = ⊥

pub all_due_on : (set : Setting) (work : Work) {n m : ℕ} {f : Point n} {g : Point m} (known : Option (List Reading)) (ts : List Typ) (vs : List Value)
    → Later f g → AllDue set work f known ts vs → AllDue set work g known ts vs
all_due_on set work known [] [] l h = tt
all_due_on set work known [] (v ∷ vs) l h = absurd h
all_due_on set work known (t ∷ ts) [] l h = absurd h
all_due_on set work known (t ∷ ts) (v ∷ vs) l h = ((λ e g a. h.0 e g (agree_on l a)), all_due_on set work known ts vs l h.1)

-- as many places, types and parts
abbrev pub SameMany : List Place → List Typ → List Indices → Type 0
SameMany [] [] [] = Unit {0}
SameMany (place ∷ places) (t ∷ ts) (i ∷ is) = SameMany places ts is
SameMany places ts is = ⊥

walks_from : {q : Scene} {n m : ℕ} {f : Point n} {p : Point m} {facts : List Fact} {A : Type 0} {w : Walk A} {Holds : (k : ℕ) → Point k → A → Type 0}
    → Later f p → Walks q m p facts w Holds → Walks q m p facts w (λ k g a. Later f g × Holds k g a)
walks_from l b = walks_mean (λ k g a h. (later_on l h.0, h.1)) (walks_later b)

pub have_later : (q : Scene) {n m : ℕ} {f : Point n} {g : Point m} (is : List Indices) (vs : List Value) → Later f g → AllHave q.set q.work f is vs
    → AllHave q.set q.work g is vs
have_later q [] [] l h = tt
have_later q (i ∷ is) (v ∷ vs) l h = (has_on l h.0, have_later q is vs l h.1)
have_later q [] (v ∷ vs) l h = absurd h
have_later q (i ∷ is) [] l h = absurd h

module _ (fit : FitsSuffice) (q : Scene) (js : List Index) (qs : List Reading) {n : ℕ} (f : Point n) (numbers : NumbersStay q.set q.work f js)
    (stays : TypesStay q.set q.work f qs) (known : Option (List Reading)) (as_known : (rs : List Reading) → known ≡ Some rs → rs ≡ qs) where
  abbrev at_types : Integers → List Closed
  at_types g = map (closed q.set.around.types (standing q.set.past g) q.work.types) qs

  abbrev numbers_there : Assignment
  numbers_there = assigned (standing q.set.past f.integers) js

  -- a value of the type of a part
  abbrev OfPart : Typ → Value → Type 0
  OfPart t v = belongs q.set.around.types v (reading t numbers_there (closeds (at_types f.integers))) ≡ true

  part_is : (g : Integers) → Agree f g → (t : Typ)
      → closed q.set.around.types (standing q.set.past g) q.work.types (Q.Of t js (types_without_holes qs))
      ≡ reading t numbers_there (closeds (types_or_own (at_types f.integers) q.work.types))
  part_is g a t =
      closed_is q.set.around.types (standing q.set.past g) q.work.types (Q.Of t js (types_without_holes qs)) (W.Of t js (types_without_holes qs))
      (Q.rolls-Of t js (types_without_holes qs))
      ∙ ap (λ cs. reading t (assigned (standing q.set.past g) js) (closeds (types_or_own cs q.work.types)))
      (filled_same q.set.around.types (standing q.set.past g) q.work.types qs)
      ∙ (λ j. reading t (numbers g a j) (closeds (types_or_own (stays g a j) q.work.types)))

  pub part_wanted : {m : ℕ} (p : Point m) → Later f p → (t : Typ) → IsWanted q.set q.work p (Q.Of t js (types_without_holes qs))
  part_wanted p l t = (
    λ g a. part_is g (agree_on l a) t ∙ sym (part_is p.integers (agree_on l (same p)) t),
    of_full t js (types_without_holes qs) (filled_full q.set.around.types (standing q.set.past p.integers) q.work.types qs),
  )

  its_own : (t : Typ) (v : Value) → is_narrow (length qs) t ≡ true
      → belongs q.set.around.types v (reading t numbers_there (closeds (types_or_own (at_types f.integers) q.work.types)))
      ≡ belongs q.set.around.types v (reading t numbers_there (closeds (at_types f.integers)))
  its_own t v narrow =
      own_behind q.set.around.types (at_types f.integers) q.work.types t numbers_there v
      (ap (λ k. is_narrow k t) (length-map qs (closed q.set.around.types (standing q.set.past f.integers) q.work.types)) ∙ narrow)

  -- one that fits
  fits_part : {m : ℕ} (p : Point m) → Later f p → (t : Typ) (v : Value) → is_narrow (length qs) t ≡ true
      → Belongs q.set q.work p (Q.Of t js (types_without_holes qs)) v → OfPart t v
  fits_part p l t v narrow b =
      sym (its_own t v narrow)
      ∙ ap (belongs q.set.around.types v) (sym (part_is p.integers (agree_on l (same p)) t)) ∙ b p.integers (same p)

  -- one of a type that names no variable
  due_part : {m : ℕ} (p : Point m) (t : Typ) (v : Value) → is_closed t ≡ true → Belongs q.set q.work p (Q.Of t [] []) v → OfPart t v
  due_part p t v e b =
      let k = and_parts (is_numberless_under t 0) (is_typeless t) e in
      let mu = standing q.set.past p.integers in
      sym (closed_same q.set.around.types t (assigned mu []) numbers_there (closeds q.work.types) (closeds (at_types f.integers)) v k.0 k.1
      (beyonds_same q.set q.work p.integers f.integers [] js))
      ∙ ap (belongs q.set.around.types v) (sym (closed_is q.set.around.types mu q.work.types (Q.Of t [] []) (W.Of t [] []) (Q.rolls-Of t [] [])))
      ∙ b p.integers (same p)

  -- one of a type that names no number, under types that are known
  due_known : {m : ℕ} (p : Point m) → Later f p → (t : Typ) (v : Value) → is_narrow (length qs) t ≡ true → is_numberless t ≡ true
      → Belongs q.set q.work p (Q.Of t [] qs) v → OfPart t v
  due_known p l t v narrow e b =
      let mu = standing q.set.past p.integers in
      sym (its_own t v narrow)
      ∙ ap (λ cs. belongs q.set.around.types v (reading t numbers_there (closeds (types_or_own cs q.work.types))))
      (sym (stays p.integers (agree_on l (same p))))
      ∙ sym (numberless_same q.set.around.types t (assigned mu []) numbers_there (closeds (types_or_own (at_types p.integers) q.work.types)) v e
      (beyonds_same q.set q.work p.integers f.integers [] js))
      ∙ ap (belongs q.set.around.types v) (sym (closed_is q.set.around.types mu q.work.types (Q.Of t [] qs) (W.Of t [] qs) (Q.rolls-Of t [] qs)))
      ∙ b p.integers (same p)

  due_of : {m : ℕ} (p : Point m) → Later f p → (t : Typ) (v : Value) → is_narrow (length qs) t ≡ true → (o : Option (List Reading)) → known ≡ o
      → was_due o t ≡ true → Belongs q.set q.work p (Q.Of t [] (known_types o)) v → OfPart t v
  due_of p l t v narrow None k e b = due_part p t v e b
  due_of p l t v narrow (Some rs) k e b = due_known p l t v narrow e (subst (λ us. Belongs q.set q.work p (Q.Of t [] us) v) (as_known rs k) b)

  one_part : {m : ℕ} {p : Point m} {facts : List Fact} → Later f p → (place : Place) (t : Typ) (i : Indices) (v : Value) → Has q.set q.work p i v
      → is_narrow (length qs) t ≡ true → (was_due known t ≡ true → Belongs q.set q.work p (Q.Of t [] (known_types known)) v) → (b : Bool)
      → was_due known t ≡ b → Walks q m p facts (part_owed (here q) b place i (Q.Of t js (types_without_holes qs))) (λ k g x. OfPart t v)
  one_part {m} {p} l place t i v has narrow due true e = given_back tt (due_of p l t v narrow known refl e (due e))
  one_part {m} {p} {facts} l place t i v has narrow due false e =
      walks_mean (λ k g x h. fits_part g h.0 t v narrow h.1)
      (walks_from l (fit q m p facts place i (Q.Of t js (types_without_holes qs)) v has (part_wanted p l t)))

  -- each of several
  pub parts_are : {m : ℕ} {p : Point m} {facts : List Fact} → Later f p → (places : List Place) (ts : List Typ) (is : List Indices) (vs : List Value)
      → SameMany places ts is → AllHave q.set q.work p is vs → AllDue q.set q.work p known ts vs → AllNarrow (length qs) ts
      → Walks q m p facts (parts_owed (here q) places known ts is js qs)
      (λ k g x. AllOfTypes q.set.around.types numbers_there (closeds (at_types f.integers)) ts vs)
  parts_are l [] [] [] [] many have due narrow = given_back tt tt
  parts_are l (place ∷ places) (t ∷ ts) (i ∷ is) (v ∷ vs) many have due narrow =
      walks_on (λ x. parts_owed (here q) places known ts is js qs) (one_part l place t i v have.0 narrow.0 due.0 (was_due known t) refl) (λ k g fs x b of.
      walks_mean (λ k2 g2 y rest. (of, rest))
      (parts_are (later_on l b) places ts is vs many (have_later q is vs b have.1) (all_due_on q.set q.work known ts vs b due.1) narrow.1))
  parts_are l [] [] [] (v ∷ vs) many have due narrow = absurd have
  parts_are l (place ∷ places) (t ∷ ts) (i ∷ is) [] many have due narrow = absurd have
  parts_are l [] (t ∷ ts) is vs many have due narrow = absurd many
  parts_are l [] [] (i ∷ is) vs many have due narrow = absurd many
  parts_are l (place ∷ places) [] is vs many have due narrow = absurd many
  parts_are l (place ∷ places) (t ∷ ts) [] vs many have due narrow = absurd many
