-- The end of a node that makes a value.
use Rattle.std.proofs.Common.{ℕ, Bool, false, List, [], ◌∷◌, sym, subst}
use Rattle.sail_base.specs.declared.place.Place.{Place}
use Rattle.sail_types.specs.declared.values.Value.{Value}
use Rattle.sail_core.specs.Run.{Run, gives, ◌then◌}
use Rattle.sail_core.specs.Making.{made}
use Rattle.sail_core.specs.declared.tree.Giver.TheVariants as By
use Rattle.value_indices.specs.declared.indices.Indices.{Indices}
use Rattle.value_indices.specs.declared.indices.Naming.{Naming}
use Rattle.value_indices.specs.declared.indices.Reading.{Reading}
use Rattle.value_indices.specs.declared.notes.Fact.{Fact}
use Rattle.value_indices.specs.declared.notes.Made.TheVariants as Makes
use Rattle.value_indices.specs.Opening.{opening}
use Rattle.value_indices.specs.Steps.{Walk, bind, give, size_note}
use Rattle.call_arguments.specs.declared.aims.Aim.{Aim}
use Rattle.call_notes.specs.Ends.{settled, sized_by}
use Rattle.call_notes.specs.Noted.{node_ended, node_given, node_made, numbers_given}
use Rattle.checked_meaning.specs.Items.{Item}
use Rattle.checked_meaning.specs.Checked.{checked}
use Rattle.value_laws.specs.Belonging.{has}
use Rattle.value_laws.specs.Known.{Point}
use Rattle.soundness_steps.specs.Points.{Later}
use Rattle.soundness_steps.proofs.Points.{agree_on, later_on}
use Rattle.soundness_steps.specs.Works.{Work, Setting, Scene, here}
use Rattle.soundness_steps.specs.Steps.{Beside}
use Rattle.soundness_steps.specs.Values.{AllTyped, AimSteady, Belongs, Comes, Has, Is, IsSteady}
use Rattle.soundness_steps.proofs.Steps.{binds, rests, runs_as, given_back, gives_numbers, makes, notes, walks_on, walks_mean}
use Rattle.soundness_forms.specs.Forms.{FitsSuffice}
use Rattle.soundness_forms.proofs.Basics.{aim_on, has_on, has_there, met_on, steady_on, ended_alike, opens, settles, then_walks}
use Rattle.soundness_forms.proofs.Giving.{gives_all}

pub comes_on : {set : Setting} {work : Work} {n m : ℕ} {f : Point n} {g : Point m} (cast nested never_ends : Bool) (aim : Aim) (i : Indices) (x : Item)
    → Later f g → Comes set work f cast nested never_ends aim i x → Comes set work g cast nested never_ends aim i x
comes_on {set} {work} cast nested never_ends aim i x l h = record {
  has = has_on l h.has;
  typ = λ exact k a. h.typ exact k (agree_on l a);
  met = met_on set work aim nested x.val l h.met;
  ends = h.ends;
}

pub typed_on : (set : Setting) (work : Work) {n m : ℕ} {f : Point n} {g : Point m} (is : List Indices) (xs : List Item) → Later f g
    → AllTyped set work f is xs → AllTyped set work g is xs
typed_on set work [] [] l h = tt
typed_on set work (i ∷ is) (x ∷ xs) l h = ((λ exact k a. h.0 exact k (agree_on l a)), typed_on set work is xs l h.1)
typed_on set work [] (x ∷ xs) l h = absurd h
typed_on set work (i ∷ is) [] l h = absurd h

-- what a value gives is noted
pub gives_node : {q : Scene} {n : ℕ} {f : Point n} {facts : List Fact} (k : ℕ) (i : Indices) (x : Item) (cast nested never_ends : Bool) (aim : Aim)
    → Comes q.set q.work f cast nested never_ends aim i x
    → Beside q n f facts (node_given k i) ((checked q.set.around.types q.cases).note (By.Node k) x.val then λ t. gives x)
    (λ m g j y. Comes q.set q.work g cast nested never_ends aim j y)
gives_node k i x cast nested never_ends aim h =
    binds (λ t. give i) (λ t. gives x) (gives_numbers (By.Node k) i x.val (numbers_given i) (gives_all i) (has_there h.has)) (λ m g fs t u l e.
    rests x (given_back i (comes_on cast nested never_ends aim i x l h)))

-- a node behind a walk to the value that it makes
pub ends_node : {q : Scene} {n : ℕ} {f : Point n} {facts : List Fact} {B : Type 0} {w : Walk Indices} (k : ℕ) (c : Run Item B) (xs : B → List Item)
    (v : B → Value) (cast nested never_ends : Bool) (aim : Aim)
    → Beside q n f facts w (c then λ b. (checked q.set.around.types q.cases).make k (xs b) (v b))
    (λ m g i x. Comes q.set q.work g cast nested never_ends aim i x)
    → Beside q n f facts (bind w (node_given k)) (c then λ b. made (checked q.set.around.types q.cases) k (xs b) (v b))
    (λ m g i x. Comes q.set q.work g cast nested never_ends aim i x)
ends_node {q} k c xs v cast nested never_ends aim h =
    runs_as (λ now. ended_alike q.set.around.types q.cases k xs v (c now))
    (binds (node_given k) (λ x. (checked q.set.around.types q.cases).note (By.Node k) x.val then λ t. gives x) h (λ m g fs i x l e.
    gives_node k i x cast nested never_ends aim e))

-- ---- what is made of operands

-- a value of these indices
pub node_ends : {q : Scene} {n : ℕ} {f : Point n} {facts : List Fact} (k : ℕ) (is : List Indices) (i : Indices) (xs : List Item) (v : Value)
    → AllTyped q.set q.work f is xs → Has q.set q.work f i v
    → Beside q n f facts (node_ended k is i) ((checked q.set.around.types q.cases).make k xs v) (λ m g j y. Is q.set q.work g j y)
node_ends {q} k is i xs v typed h = then_walks (λ t. give i) (makes k is (Makes.ByIndices i) xs v typed (has_there h)) (λ m g fs t y l e.
    given_back i (record { has = subst (Has q.set q.work g i) (sym e.0) (has_on l h); typ = e.1 }))

-- a value of a type, which is opened
pub made_opens : {q : Scene} {n : ℕ} {f : Point n} {facts : List Fact} (place : Place) (k : ℕ) (is : List Indices) (r : Reading) (tells : Bool) (name : Naming)
    (xs : List Item) (v : Value) → AllTyped q.set q.work f is xs → IsSteady q.set q.work f r → Belongs q.set q.work f r v
    → Beside q n f facts (bind (node_made k is (Makes.ByType r)) (λ t. bind (sized_by place r) (λ u. opening r tells name)))
    ((checked q.set.around.types q.cases).make k xs v) (λ m g j y. Is q.set q.work g j y)
made_opens {q} place k is r tells name xs v typed steady belongs =
    then_walks (λ t. bind (sized_by place r) (λ u. opening r tells name)) (makes k is (Makes.ByType r) xs v typed belongs) (λ m g fs t y l e.
    walks_on (λ u. opening r tells name) (notes (λ facts. size_note facts place (Makes.ByType r))) (λ j p gs u b a.
    let there = later_on l b in
    walks_mean (λ o d i h. record {
      has = subst (Has q.set q.work d i) (sym e.0) h.0;
      typ = h.1 y.typ (λ exact x c. e.1 exact x (agree_on b c));
    }) (opens r tells name v (steady_on q.set q.work r there steady) (λ h c. belongs h (agree_on there c)))))

-- a node whose value is settled
pub settled_node : FitsSuffice → {q : Scene} {n : ℕ} {f : Point n} {facts : List Fact} {B : Type 0} {w : Walk Indices} (place : Place) (k : ℕ) (aim : Aim)
    (c : Run Item B) (xs : B → List Item) (v : B → Value) → AimSteady q.set q.work f aim
    → Beside q n f facts w (c then λ b. (checked q.set.around.types q.cases).make k (xs b) (v b)) (λ m g i x. Is q.set q.work g i x)
    → Beside q n f facts (bind (bind w (settled (here q) place aim)) (node_given k)) (c then λ b. made (checked q.set.around.types q.cases) k (xs b) (v b))
    (λ m g i x. Comes q.set q.work g false false false aim i x)
settled_node fit {q} place k aim c xs v st h = ends_node k c xs v false false false aim (then_walks (settled (here q) place aim) h (λ m g fs i x l e.
    settles fit place aim i x (aim_on q.set q.work aim l st) e))
