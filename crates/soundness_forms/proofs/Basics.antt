-- What holds at a point holds at later ones; what is opened, owed and made.
use Rattle.std.proofs.Common.{◌≡◌, ℕ, Bool, true, false, ◌&&◌, List, [], ◌∷◌, Option, Some, None, refl, sym, ap, ◌∙◌}
use Rattle.sail_base.specs.declared.place.Place.{Place}
use Rattle.sail_types.specs.Numbers.{Assignment, true_in, form_true}
use Rattle.sail_types.specs.declared.numbers.Con.{fold-roll-Con}
use Rattle.sail_types.specs.declared.numbers.Con.TheOpen as F
use Rattle.sail_types.specs.declared.numbers.Con.TheVariants as C
use Rattle.sail_types.specs.declared.table.Types.{Types}
use Rattle.sail_types.specs.declared.values.Value.{Value}
use Rattle.sail_core.specs.Run as R
use Rattle.sail_core.specs.Run.{Now, Ended, Run, gives, goes_on, needs, ◌then◌}
use Rattle.sail_core.specs.Making.{made}
use Rattle.sail_core.specs.declared.tree.Giver.TheVariants as By
use Rattle.size_values.specs.declared.sized.Sized.{Sized}
use Rattle.value_indices.specs.declared.indices.Indices.{Indices}
use Rattle.value_indices.specs.declared.indices.Indices.TheVariants as I
use Rattle.value_indices.specs.declared.indices.Naming.{Naming}
use Rattle.value_indices.specs.declared.indices.Reading.{Reading}
use Rattle.value_indices.specs.declared.notes.Fact.{Fact}
use Rattle.value_indices.specs.declared.notes.Made.TheVariants as Makes
use Rattle.value_indices.specs.Opening.{opening}
use Rattle.value_indices.specs.Steps.{Walk, bind, give, wrong}
use Rattle.call_arguments.specs.declared.aims.Aim.{Aim}
use Rattle.call_arguments.specs.declared.aims.Aim.TheVariants as Aims
use Rattle.call_notes.specs.Ends.{settled, wrong_value}
use Rattle.checked_meaning.specs.Items.{Item, item, typs}
use Rattle.checked_meaning.specs.Checked.{Cases, checked}
use Rattle.value_laws.specs.Belonging.{Integers, standing, has}
use Rattle.value_laws.specs.Known.{Point, Agree}
use Rattle.value_laws.proofs.Numbers.{truth_is}
use Rattle.value_laws.proofs.Opening.{opening_sound}
use Rattle.value_laws.proofs.Steps.{same}
use Rattle.soundness_steps.specs.Points.{Later}
use Rattle.soundness_steps.proofs.Points.{agree_on}
use Rattle.soundness_steps.specs.Works.{IsExact, Work, Setting, Scene, here}
use Rattle.soundness_steps.specs.Noted.{sized}
use Rattle.soundness_steps.specs.Steps.{Beside, Walks}
use Rattle.soundness_steps.specs.Values.{Has, Is, IsSteady, Belongs, IsWanted, IsMadeAs, IsMet, AimSteady, Comes}
use Rattle.soundness_steps.proofs.Steps.{binds, walks_then, walks_on, rests, runs_as, given_back, known_walk, owes}
use Rattle.soundness_forms.specs.Forms.{FitsSuffice}

-- ---- at later points

module _ {set : Setting} {work : Work} {n m : ℕ} {f : Point n} {g : Point m} where
  pub has_on : {i : Indices} {v : Value} → Later f g → Has set work f i v → Has set work g i v
  has_on l h = record { meaning = h.meaning; is_so = h.is_so; steady = λ k a. h.steady k (agree_on l a) }

  pub is_on : {i : Indices} {x : Item} → Later f g → Is set work f i x → Is set work g i x
  is_on l h = record { has = has_on l h.has; typ = λ exact k a. h.typ exact k (agree_on l a) }

module _ (set : Setting) (work : Work) {n m : ℕ} {f : Point n} {g : Point m} where
  pub steady_on : (r : Reading) → Later f g → IsSteady set work f r → IsSteady set work g r
  steady_on r l h = λ k a. h k (agree_on l a) ∙ sym (h g.integers (agree_on l (same g)))

  pub wanted_on : (r : Reading) → Later f g → IsWanted set work f r → IsWanted set work g r
  wanted_on r l h = (steady_on r l h.0, h.1)

  pub aim_on : (aim : Aim) → Later f g → AimSteady set work f aim → AimSteady set work g aim
  aim_on Aims.Free l h = tt
  aim_on (Aims.Given r) l h = wanted_on r l h
  aim_on (Aims.PartOf r) l h = wanted_on r l h
  aim_on (Aims.Due r) l h = wanted_on r l h

  pub met_on : (aim : Aim) (nested : Bool) (v : Value) → Later f g → IsMet set work f aim nested v → IsMet set work g aim nested v
  met_on Aims.Free nested v l h = tt
  met_on (Aims.Given r) true v l h = λ k a. h k (agree_on l a)
  met_on (Aims.Given r) false v l h = tt
  met_on (Aims.PartOf r) nested v l h = tt
  met_on (Aims.Due r) nested v l h = λ k a. h k (agree_on l a)

module _ {set : Setting} {work : Work} {n : ℕ} {f : Point n} where
  -- the value has these indices there, wherever it is
  pub has_there : {i : Indices} {v : Value} → Has set work f i v → (g : Integers) → Agree f g
      → has set.around.types (standing set.past g) work.types i v ≡ true
  has_there {v = v} h g a = ap (λ m. m.holds v) (h.steady g a) ∙ h.is_so

-- ---- what is false is never owed

all_of : (nu : Assignment) → true_in nu (C.All (C.Truth false ∷ [])) ≡ false
all_of nu = ap (true_in nu) (sym (C.rolls-All (C.Truth false ∷ [])))
    ∙ fold-roll-Con Bool (form_true nu) (F.All (C.Truth false ∷ [])) ∙ ap (λ b. b && true) (truth_is nu false)

false_true : {A : Type 0} → false ≡ true → A
false_true h = absurd (cc)

pub wrong_walks : {q : Scene} {n : ℕ} {f : Point n} {facts : List Fact} (place : Place) → Walks q n f facts (wrong_value place) (λ m g a. ⊥)
wrong_walks {q} {n} {f} {facts} place = walks_on (λ t. give I.Never) (owes place (Some (C.Truth false)) []) (λ m g fs a l h.
    false_true (sym (all_of (standing q.set.past g.integers)) ∙ h g.integers (same g)))

-- of what is no truth, no integer
pub wrong_alone : {q : Scene} {n : ℕ} {f : Point n} {facts : List Fact} {A B : Type 0} (place : Place) (c : Run Item B) {Holds :
    (m : ℕ) → Point m → Option A → B → Type 0}
    → Beside q n f facts (bind (wrong place) (λ t. give None)) c Holds
wrong_alone {q} place c = walks_then (λ t. give None) (owes place (Some (C.Truth false)) []) (λ m g fs a l h.
    false_true (sym (all_of (standing q.set.past g.integers)) ∙ h g.integers (same g)))

pub wrongs : {q : Scene} {n : ℕ} {f : Point n} {facts : List Fact} {B : Type 0} (place : Place) (c : Run Item B) {Holds :
    (m : ℕ) → Point m → Indices → B → Type 0}
    → Beside q n f facts (wrong_value place) c Holds
wrongs {q} {n} {f} {facts} place c = walks_then (λ t. give I.Never) (owes place (Some (C.Truth false)) []) (λ m g fs a l h.
    false_true (sym (all_of (standing q.set.past g.integers)) ∙ h g.integers (same g)))

-- ---- a run, and a walk behind it

then_gives : {A : Type 0} (e : Ended Item A) → goes_on e gives ≡ e
then_gives (R.Gives x now) = refl
then_gives (R.No now) = refl
then_gives (R.Returns v now) = refl
then_gives (R.Throws v now) = refl
then_gives (R.Stops cause now) = refl
then_gives R.Stuck = refl

pub then_walks : {q : Scene} {n : ℕ} {f : Point n} {facts : List Fact} {A B C : Type 0} {w : Walk A} (k : A → Walk C) {c : Run Item B}
    {Holds : (m : ℕ) → Point m → A → B → Type 0} {Then : (m : ℕ) → Point m → C → B → Type 0} → Beside q n f facts w c Holds
    → ((m : ℕ) (g : Point m) (fs : List Fact) (a : A) (x : B) → Later f g → Holds m g a x → Walks q m g fs (k a) (λ j p b. Then j p b x))
    → Beside q n f facts (bind w k) c Then
then_walks k {c} b next = runs_as (λ now. then_gives (c now)) (binds k gives b (λ m g fs a x l h. rests x (next m g fs a x l h)))

-- ---- opening

-- a value of a type is opened, and its type is that of its indices
pub opens : {q : Scene} {n : ℕ} {f : Point n} {facts : List Fact} (r : Reading) (tells : Bool) (name : Naming) (v : Value)
    → IsSteady q.set q.work f r → Belongs q.set q.work f r v
    → Walks q n f facts (opening r tells name) (λ m p i. Has q.set q.work p i v
    × ((s : Sized) → IsMadeAs q.set q.work f (Makes.ByType r) v s → IsExact q.set → (g : Integers) → Agree p g
    → s ≡ sized q.set.around.types q.work.own g i))
opens {q} {n} {f} {facts} r tells name v steady is = record {
  go = λ noted stands met.
      let o = opening_sound q.set.around.types q.set.past q.work.types r tells name n f facts v steady (is f.integers (same f)) in
      let k = (known_walk {q = q} o.2).go noted stands met in
      let h : Has q.set q.work k.point (opening r tells name facts n).value v = record { meaning = o.0; is_so = o.1; steady = k.holds } in
      record {
        point = k.point;
        later = k.later;
        stands = k.stands;
        holds = (h, λ s made exact g a. (made exact g (agree_on k.later a)).each tells name facts n (has_there h g a));
      };
}

-- ---- what is wanted

pub settles : FitsSuffice → {q : Scene} {n : ℕ} {f : Point n} {facts : List Fact} (place : Place) (aim : Aim) (i : Indices) (x : Item)
    → AimSteady q.set q.work f aim → Is q.set q.work f i x
    → Walks q n f facts (settled (here q) place aim i) (λ m g j. Comes q.set q.work g false false false aim j x)
settles fit place Aims.Free i x st h = given_back i (record { has = h.has; typ = h.typ; met = tt; ends = refl })
settles fit place (Aims.Given r) i x st h = given_back i (record { has = h.has; typ = h.typ; met = tt; ends = refl })
settles fit place (Aims.PartOf r) i x st h = given_back i (record { has = h.has; typ = h.typ; met = tt; ends = refl })
settles fit {q} {n} {f} {facts} place (Aims.Due r) i x st h = walks_on (λ t. give i) (fit q n f facts place i r x.val h.has st) (λ m g fs t l b.
    let k = is_on l h in given_back i (record { has = k.has; typ = k.typ; met = b; ends = refl }))

-- ---- a node's value: it is made, and then gives its numbers

module _ (types : Types) (cases : Cases) where
  made_alike : (k : ℕ) (xs : List Item) (v : Value) (now : Now Item) (o : Option Sized)
      → goes_on ((needs o then λ s. gives (item s v)) now) (λ x. (checked types cases).note (By.Node k) v then λ t. gives x)
      ≡ goes_on ((needs o then λ s. gives (item s v)) now) (λ x. (checked types cases).note (By.Node k) x.val then λ t. gives x)
  made_alike k xs v now None = refl
  made_alike k xs v now (Some s) = refl

  pub ended_alike : {B : Type 0} (k : ℕ) (xs : B → List Item) (v : B → Value) (e : Ended Item B)
      → goes_on (goes_on e (λ b. (checked types cases).make k (xs b) (v b))) (λ x. (checked types cases).note (By.Node k) x.val then λ t. gives x)
      ≡ goes_on e (λ b. made (checked types cases) k (xs b) (v b))
  ended_alike k xs v (R.Gives b now) = sym (made_alike k (xs b) (v b) now (cases.makes k (typs (xs b)) (v b) now.opened))
  ended_alike k xs v (R.No now) = refl
  ended_alike k xs v (R.Returns u now) = refl
  ended_alike k xs v (R.Throws u now) = refl
  ended_alike k xs v (R.Stops cause now) = refl
  ended_alike k xs v R.Stuck = refl
