-- The walk over a value of a named type, where no Type arguments are wanted: its parts belong to the types of the definition.
use Rattle.std.proofs.Common.{◌≡◌, ℕ, pos, false, true, List, [], ◌∷◌, map, length, Option, Some, None, refl, sym, ap, ◌∙◌, subst, if◌then◌else◌}
use Rattle.sail_base.specs.declared.place.Place.{Place}
use Rattle.sail_types.specs.Belongs.{Reading as Closed, assigned}
use Rattle.sail_types.specs.Numbers.{Assignment}
use Rattle.sail_types.specs.declared.numbers.Index.{Index}
use Rattle.sail_types.specs.declared.table.Parameter.{Parameter}
use Rattle.sail_types.specs.declared.types.Typ.{Typ}
use Rattle.sail_types.specs.declared.values.Value.{Value}
use Rattle.value_indices.specs.declared.indices.Indices.{Indices}
use Rattle.value_indices.specs.declared.indices.Indices.TheOpen as W
use Rattle.value_indices.specs.declared.indices.Indices.TheVariants as I
use Rattle.value_indices.specs.declared.indices.Reading.{Reading}
use Rattle.value_indices.specs.declared.notes.Fact.{Fact}
use Rattle.value_indices.specs.Steps.{bind, give, next_variable}
use Rattle.call_arguments.specs.Callees.{number_parameters, type_parameters, types_from, types_or}
use Rattle.call_fits.specs.Calls.{AreArguments}
use Rattle.call_fits.proofs.Types.{types_steady}
use Rattle.call_notes.specs.Calls.{made_named, named_with, parts_owed}
use Rattle.call_notes.specs.Ends.{never_value}
use Rattle.fitting_laws.proofs.Standing.{EachHad}
use Rattle.value_laws.specs.Belonging.{Integers, Meant, closed, closeds, has, index_there, meant, standing}
use Rattle.value_laws.specs.Known.{Agree, Point}
use Rattle.value_laws.proofs.Arguments.{assigned_there}
use Rattle.value_laws.proofs.Meanings.{named_same}
use Rattle.value_laws.proofs.Steps as Knowing
use Rattle.value_laws.proofs.Steps.{same}
use Rattle.value_laws.proofs.Values.{meant_is}
use Rattle.soundness_steps.specs.Points.{Later}
use Rattle.soundness_steps.proofs.Points.{agree_on, no_later}
use Rattle.soundness_steps.specs.Works.{Scene, Setting, Work, here}
use Rattle.soundness_steps.specs.Steps.{Walks}
use Rattle.soundness_steps.specs.Values.{AllHave, Has}
use Rattle.soundness_steps.proofs.Steps.{given_back, known_walk, walks_on}
use Rattle.soundness_forms.specs.Forms.{FitsSuffice}
use Rattle.soundness_forms.proofs.Parts.{none_never}
use Rattle.soundness_values.proofs.Narrowed.{AllNarrow}
use Rattle.soundness_values.proofs.Filling.{walks_next}
use Rattle.soundness_values.proofs.Named.{AllDue, NumbersStay, SameMany, TypesStay, all_due_on, have_later, parts_are}
use Rattle.soundness_values.proofs.Numbered.{all_go}
use Rattle.soundness_values.proofs.Seen.{KnownWanted, known_stay}
use Rattle.soundness_values.proofs.Taken.{walks_later}
use Rattle.soundness_values.proofs.Unions.{AllOfTypes}

module _ (set : Setting) (work : Work) where
  abbrev mu_at : Integers → Assignment
  mu_at g = standing set.past g

  abbrev types_at : List Reading → Integers → List Closed
  types_at qs g = map (closed set.around.types (mu_at g) work.types) qs

  -- arguments that are the same wherever fixed variables stand for the same
  abbrev pub IndicesStay : {m : ℕ} → Point m → List Index → Type 0
  IndicesStay p js = (g : Integers) → Agree p g → map (index_there (mu_at g)) js ≡ map (index_there (mu_at p.integers)) js

  numbers_stay : {m : ℕ} (p : Point m) (js : List Index) → IndicesStay p js → NumbersStay set work p js
  numbers_stay p js h g a =
      sym (assigned_there set.past g js) ∙ ap (assigned (standing set.past (λ i. pos 0))) (h g a) ∙ assigned_there set.past p.integers js

  indices_on : {m k : ℕ} {p : Point m} {g : Point k} (js : List Index) → Later p g → IndicesStay p js → IndicesStay g js
  indices_on {g} js l h d a = h d (agree_on l a) ∙ sym (h g.integers (agree_on l (same g)))

  types_on : {m k : ℕ} {p : Point m} {g : Point k} (qs : List Reading) → Later p g → TypesStay set work p qs → TypesStay set work g qs
  types_on {g} qs l h d a = h d (agree_on l a) ∙ sym (h g.integers (agree_on l (same g)))

  all_had : {m : ℕ} (p : Point m) (is : List Indices) (vs : List Value) → AllHave set work p is vs → EachHad set.around.types set.past work.types p is vs
  all_had p [] [] h = tt
  all_had p (i ∷ is) (v ∷ vs) h = (
    λ g a. (
      ap (λ (m : Meant). m.holds v) (h.0.steady g a) ∙ h.0.is_so,
      ap (λ (m : Meant). m.wide) (h.0.steady g a ∙ sym (h.0.steady p.integers (same p))),
    ),
    all_had p is vs h.1,
  )
  all_had p [] (v ∷ vs) h = absurd h
  all_had p (i ∷ is) [] h = absurd h

  -- a value that has the indices of a named type whose arguments stay
  pub named_has : {m : ℕ} (p : Point m) (u : ℕ) (js : List Index) (qs : List Reading) (v : Value) → IndicesStay p js → TypesStay set work p qs
      → has set.around.types (mu_at p.integers) work.types (I.Named u js qs) v ≡ true → Has set work p (I.Named u js qs) v
  named_has p u js qs v indices types h = record {
    meaning = meant set.around.types (mu_at p.integers) work.types (I.Named u js qs);
    is_so = h;
    steady = λ g a.
        meant_is set.around.types (mu_at g) work.types (I.Named u js qs) (W.Named u js qs) (I.rolls-Named u js qs)
        ∙ named_same set.around.types set.past work.types g p.integers u js js (types_at qs g) (types_at qs p.integers) (numbers_stay p js indices g a)
        (indices g a) (types g a)
        ∙ sym (meant_is set.around.types (mu_at p.integers) work.types (I.Named u js qs) (W.Named u js qs) (I.rolls-Named u js qs));
  }

-- parts, as arguments none of which owes further in
pub arguments_are : (q : Scene) {n : ℕ} (f : Point n) (places : List Place) (ts : List Typ) (is : List Indices) (vs : List Value)
    → SameMany places ts is → AllHave q.set q.work f is vs
    → AreArguments q.set.around.types q.set.past q.work.types f (map (λ (t : Typ). false) ts) ts is vs
arguments_are q f [] [] [] [] many have = tt
arguments_are q f (place ∷ places) (t ∷ ts) (i ∷ is) (v ∷ vs) many have = (
  record {
    steady = λ g a. have.0.steady g a ∙ sym (have.0.steady f.integers (same f));
    is_so = ap (λ (m : Meant). m.holds v) (have.0.steady f.integers (same f)) ∙ have.0.is_so;
  },
  tt,
  arguments_are q f places ts is vs many have.1,
)
arguments_are q f [] [] [] (v ∷ vs) many have = absurd have
arguments_are q f (place ∷ places) (t ∷ ts) (i ∷ is) [] many have = absurd have
arguments_are q f [] (t ∷ ts) is vs many have = absurd many
arguments_are q f [] [] (i ∷ is) vs many have = absurd many
arguments_are q f (place ∷ places) [] is vs many have = absurd many
arguments_are q f (place ∷ places) (t ∷ ts) [] vs many have = absurd many

module _ (fit : FitsSuffice) (q : Scene) {n : ℕ} (f : Point n) (u : ℕ) (ps : List Parameter) (places : List Place)
    (known : Option (List Reading)) (ts : List Typ) (is : List Indices) (vs : List Value) where
  abbrev qs : List Reading
  qs = types_or known (types_from n 0 (type_parameters ps) ts is)

  as_known : (rs : List Reading) → known ≡ Some rs → rs ≡ qs
  as_known rs e = sym (ap (λ o. types_or o (types_from n 0 (type_parameters ps) ts is)) e)

  -- what the parts give the Type parameters, where no wanted type does
  found_stay : (o : Option (List Reading)) → KnownWanted q.set q.work f o → SameMany places ts is → AllHave q.set q.work f is vs
      → TypesStay q.set q.work f (types_or o (types_from n 0 (type_parameters ps) ts is))
  found_stay None h many have =
      types_steady q.set.around.types q.set.past q.work.types f (map (λ (t : Typ). false) ts) (type_parameters ps) 0 ts is vs
      (arguments_are q f places ts is vs many have)
  found_stay (Some rs) h many have = known_stay q.set q.work f rs h

  -- what the walk gives
  pub record NamedIs {m : ℕ} (g : Point m) (i : Indices) : Type 0 where
    pub numbers : List Index
    pub is_it : i ≡ I.Named u numbers qs
    pub indices_stay : IndicesStay q.set q.work g numbers
    pub types_stay : TypesStay q.set q.work g qs
    pub belong : AllOfTypes q.set.around.types (assigned (standing q.set.past g.integers) numbers) (closeds (types_at q.set q.work qs g.integers)) ts vs

  pub named_walks : {facts : List Fact} → SameMany places ts is → AllHave q.set q.work f is vs → AllDue q.set q.work f known ts vs → AllNarrow (length qs) ts
      → KnownWanted q.set q.work f known → Walks q n f facts (made_named (here q) u ps places known ts is) (λ m g i. NamedIs g i)
  named_walks {facts} many have due narrow wanted =
      let stays : TypesStay q.set q.work f qs = found_stay known wanted many have in
      subst (λ b. Walks q n f facts (if b then never_value else bind next_variable (λ m.
      named_with (here q) u ps places known ts is (types_or known (types_from m 0 (type_parameters ps) ts is)))) (λ m g i. NamedIs g i))
      (sym (none_never q.set q.work f is vs have))
      (walks_next (λ m. named_with (here q) u ps places known ts is (types_or known (types_from m 0 (type_parameters ps) ts is)))
      (walks_on (λ js. bind (parts_owed (here q) places known ts is js qs) (λ x. give (I.Named u js qs)))
      (walks_later (known_walk (all_go q.set.around.types q.set.past q.work.types f ts is vs (all_had q.set q.work f is vs have) (Knowing.no_later f) 0
      (number_parameters ps)))) (λ m g fs js l k.
      let indices : IndicesStay q.set q.work g js = λ h a. k.1 h a ∙ sym (k.1 g.integers (same g)) in
      let types : TypesStay q.set q.work g qs = types_on q.set q.work qs l stays in
      walks_on (λ x. give (I.Named u js qs))
      (walks_later (parts_are fit q js qs g (numbers_stay q.set q.work g js indices) types known as_known (no_later g) places ts is vs many
      (have_later q is vs l have)
      (all_due_on q.set q.work known ts vs l due) narrow)) (λ m2 g2 fs2 x l2 h.
      given_back (I.Named u js qs) (record {
        numbers = js;
        is_it = refl;
        indices_stay = indices_on q.set q.work js l2 indices;
        types_stay = types_on q.set q.work qs l2 types;
        belong = subst (λ mu. AllOfTypes q.set.around.types mu (closeds (types_at q.set q.work qs g2.integers)) ts vs)
            (sym (numbers_stay q.set q.work g js indices g2.integers (agree_on l2 (same g2))))
            (subst (λ cs. AllOfTypes q.set.around.types (assigned (standing q.set.past g.integers) js) (closeds cs) ts vs)
            (sym (types g2.integers (agree_on l2 (same g2)))) h.1);
      })))))
