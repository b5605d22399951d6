-- Parameters, and what a function gives: opened, a value of a type is of the type that its indices have.
use Rattle.std.proofs.Common.{◌≡◌, ◌∙◌, ap, sym, refl, ℕ, Bool, true, List, [], ◌∷◌, map}
use Rattle.sail_base.specs.declared.place.Place.{Place}
use Rattle.sail_types.specs.declared.types.Typ.{Typ}
use Rattle.sail_types.specs.declared.values.Value.{Value, out-Value}
use Rattle.sail_types.specs.declared.values.Value.TheViews.{out-roll-Value}
use Rattle.sail_types.specs.declared.values.Value.TheOpen as V
use Rattle.sail_types.specs.declared.values.Value.TheVariants as U
use Rattle.sail_types.specs.declared.numbers.Index.{Index}
use Rattle.sail_core.specs.declared.written.WrittenNumber.{WrittenNumber}
use Rattle.value_indices.specs.declared.indices.Indices.{Indices}
use Rattle.value_indices.specs.declared.indices.Indices.TheOpen as W
use Rattle.value_indices.specs.declared.indices.Indices.TheVariants as I
use Rattle.value_indices.specs.declared.indices.Naming.{Naming}
use Rattle.value_indices.specs.declared.indices.Reading.{Reading}
use Rattle.value_indices.specs.declared.notes.Fact.{Fact}
use Rattle.value_indices.specs.declared.notes.Made.TheVariants as Makes
use Rattle.value_indices.specs.Opening.{opening}
use Rattle.value_indices.specs.Steps.{Conditions, owe}
use Rattle.pattern_leaves.specs.Settings.{Around, exponents_owed, number_owed}
use Rattle.pattern_notes.specs.Patterns.{Look}
use Rattle.function_notes.specs.Functions.{other_looks, parameter_naming, parameters_opened, reading_under}
use Rattle.checked_meaning.specs.Items.{Item, vals}
use Rattle.value_laws.specs.Belonging.{Integers, each_holds, form_holds, standing, has, meant}
use Rattle.value_laws.specs.Known.{Point, Agree}
use Rattle.value_laws.proofs.Basics.{two}
use Rattle.value_laws.proofs.Values.{has_form}
use Rattle.soundness_steps.specs.Points.{Later}
use Rattle.soundness_steps.proofs.Points.{agree_on, no_later}
use Rattle.soundness_steps.specs.Works.{Work, Scene, Setting}
use Rattle.soundness_steps.specs.Steps.{Walks}
use Rattle.soundness_steps.specs.Values.{AllAre, AllHave, Belongs, Is, IsMadeAs, IsSteady}
use Rattle.soundness_steps.proofs.Steps.{given_back, walks_mean, walks_on}
use Rattle.soundness_forms.proofs.Basics.{is_on, opens, steady_on}

-- ---- a value of a type that hangs on fixed variables alone, made at that type

pub record IsOf (set : Setting) (work : Work) {n : ℕ} (p : Point n) (r : Reading) (x : Item) : Type 0 where
  pub steady : IsSteady set work p r
  pub belongs : Belongs set work p r x.val
  pub made : IsMadeAs set work p (Makes.ByType r) x.val x.typ

pub of_on : {set : Setting} {work : Work} {n m : ℕ} {p : Point n} {g : Point m} {r : Reading} {x : Item} → Later p g → IsOf set work p r x
    → IsOf set work g r x
of_on {set} {work} {r = r} l h = record {
  steady = steady_on set work r l h.steady;
  belongs = λ k a. h.belongs k (agree_on l a);
  made = λ exact k a. h.made exact k (agree_on l a);
}

-- opened for a name, it is of the type of its indices
pub opens_as : {q : Scene} {n : ℕ} {p : Point n} {facts : List Fact} (r : Reading) (x : Item) (tells : Bool) (name : Naming) → IsOf q.set q.work p r x
    → Walks q n p facts (opening r tells name) (λ m g i. Is q.set q.work g i x)
opens_as r x tells name h =
    walks_mean (λ m g i k. record { has = k.0; typ = k.1 x.typ h.made }) (opens r tells name x.val h.steady h.belongs)

-- ---- all parameters

abbrev pub AllOf : (set : Setting) (work : Work) {n : ℕ} (p : Point n) → List Reading → List Item → Type 0
AllOf set work p [] [] = Unit {0}
AllOf set work p (r ∷ rs) (x ∷ xs) = IsOf set work p r x × AllOf set work p rs xs
AllOf set work p rs xs = ⊥

pub all_of_on : (set : Setting) (work : Work) {n m : ℕ} {p : Point n} {g : Point m} (rs : List Reading) (xs : List Item) → Later p g
    → AllOf set work p rs xs → AllOf set work g rs xs
all_of_on set work [] [] l h = tt
all_of_on set work [] (x ∷ xs) l h = absurd h
all_of_on set work (r ∷ rs) [] l h = absurd h
all_of_on set work (r ∷ rs) (x ∷ xs) l h = (of_on l h.0, all_of_on set work rs xs l h.1)

pub parameters_open : (q : Scene) {n : ℕ} {p : Point n} {facts : List Fact} (is : List Index) (ps : List Look) (ts : List Typ) (xs : List Item)
    → AllOf q.set q.work p (map (λ t. reading_under t is) ts) xs
    → Walks q n p facts (parameters_opened ps is ts) (λ m g found. AllAre q.set q.work g found xs)
parameters_open q is ps [] [] h = given_back [] tt
parameters_open q is ps [] (x ∷ xs) h = absurd h
parameters_open q is ps (t ∷ ts) [] h = absurd h
parameters_open q is ps (t ∷ ts) (x ∷ xs) h =
    walks_on _ (opens_as (reading_under t is) x true (parameter_naming ps) h.0) (λ m g fs i l first.
    walks_on _ (parameters_open q is (other_looks ps) ts xs (all_of_on q.set q.work (map (λ t. reading_under t is) ts) xs l h.1)) (λ m2 g2 fs2 more l2
    others. given_back (i ∷ more) (is_on l2 first, others)))

pub all_have : (set : Setting) (work : Work) {n : ℕ} (p : Point n) (is : List Indices) (xs : List Item) → AllAre set work p is xs
    → AllHave set work p is (vals xs)
all_have set work p [] [] h = tt
all_have set work p [] (x ∷ xs) h = absurd h
all_have set work p (i ∷ is) [] h = absurd h
all_have set work p (i ∷ is) (x ∷ xs) h = (h.0.has, all_have set work p is xs h.1)

pub all_are_on : (set : Setting) (work : Work) {n m : ℕ} {p : Point n} {g : Point m} (is : List Indices) (xs : List Item) → Later p g
    → AllAre set work p is xs → AllAre set work g is xs
all_are_on set work [] [] l h = tt
all_are_on set work [] (x ∷ xs) l h = absurd h
all_are_on set work (i ∷ is) [] l h = absurd h
all_are_on set work (i ∷ is) (x ∷ xs) l h = (is_on l h.0, all_are_on set work is xs l h.1)

-- a tuple of values that have these indices
each_there : (set : Setting) (work : Work) {n : ℕ} {p : Point n} (is : List Indices) (vs : List Value) (g : Integers) → Agree p g
    → AllHave set work p is vs → each_holds (map (meant set.around.types (standing set.past g) work.types) is) vs ≡ true
each_there set work [] [] g a h = refl
each_there set work [] (v ∷ vs) g a h = absurd h
each_there set work (i ∷ is) [] g a h = absurd h
each_there set work (i ∷ is) (v ∷ vs) g a h =
    two (has set.around.types (standing set.past g) work.types i v)
    (each_holds (map (meant set.around.types (standing set.past g) work.types) is) vs)
    (ap (λ m. m.holds v) (h.0.steady g a) ∙ h.0.is_so) (each_there set work is vs g a h.1)

pub tuple_has : (set : Setting) (work : Work) {n : ℕ} {p : Point n} (is : List Indices) (vs : List Value) (g : Integers) → Agree p g
    → AllHave set work p is vs → has set.around.types (standing set.past g) work.types (I.Tuple is) (U.Tuple vs) ≡ true
tuple_has set work is vs g a h =
    has_form set.around.types (standing set.past g) work.types (I.Tuple is) (W.Tuple is) (U.Tuple vs) (I.rolls-Tuple is)
    ∙ ap (λ u. form_holds set.around.types (standing set.past g) work.types (W.Tuple (map (meant set.around.types (standing set.past g) work.types) is)) u)
    (ap out-Value (sym (U.rolls-Tuple vs)) ∙ out-roll-Value (V.Tuple vs))
    ∙ each_there set work is vs g a h

-- ---- what is owed says nothing here

pub owes_nothing : {q : Scene} {n : ℕ} {p : Point n} {facts : List Fact} (place : Place) (cs : Conditions)
    → Walks q n p facts (owe place cs) (λ m g t. Unit {0})
unfolding owe
owes_nothing {p} place cs = record { go = λ noted stands met. record { point = p; later = no_later p; stands = stands; holds = tt } }

pub exponents : {q : Scene} {n : ℕ} {p : Point n} {facts : List Fact} (around : Around) (ns : List WrittenNumber)
    → Walks q n p facts (exponents_owed around ns) (λ m g t. Unit {0})
exponents around [] = given_back tt tt
exponents around (x ∷ ns) = walks_on _ (owes_nothing x.place (number_owed around x x.role)) (λ m g fs t l h. exponents around ns)
