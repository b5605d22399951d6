-- What is taken from elsewhere: that arms with their bodies are sound (laws of patterns and expressions), and what is asked of instances.
use Rattle.std.specs.Prelude.{◌≡◌, ◌<◌, ◌≤◌, ℕ, Bool, true, List, [], ◌∷◌, length, Some}
use Rattle.sail_base.specs.declared.place.Place.{Place}
use Rattle.sail_types.specs.Numbers.{true_in}
use Rattle.sail_types.specs.declared.numbers.Index.{Index}
use Rattle.sail_types.specs.declared.types.Typ.{Typ}
use Rattle.sail_types.specs.declared.values.Value.{Value}
use Rattle.sail_core.specs.declared.model.Function.{Function}
use Rattle.sail_core.specs.declared.patterns.Arm.{Arm}
use Rattle.sail_core.specs.declared.written.WrittenNumber.{WrittenNumber}
use Rattle.sail_core.specs.declared.tree.Core.{Core, Core-F, out-Core}
use Rattle.sail_core.specs.declared.tree.Giver.{Giver}
use Rattle.sail_core.specs.declared.tree.Kind.{Kind}
use Rattle.sail_core.specs.declared.tree.Kind.TheVariants as K
use Rattle.sail_core.specs.Making.{Making, World}
use Rattle.sail_core.specs.Run.{Run}
use Rattle.sail_core.specs.Meaning.{arm_taken, meaning}
use Rattle.sail_core.specs.Numbers.{Givens, all_agree}
use Rattle.size_values.specs.declared.sized.Sized.{Sized}
use Rattle.value_indices.specs.declared.indices.Indices.{Indices}
use Rattle.value_indices.specs.declared.indices.Reading.{Reading}
use Rattle.value_indices.specs.declared.indices.Reading.TheVariants as R
use Rattle.value_indices.specs.declared.notes.Fact.{Fact}
use Rattle.value_indices.specs.declared.notes.Made.TheVariants as Makes
use Rattle.value_indices.specs.Steps.{Walk, bind}
use Rattle.pattern_leaves.specs.Settings.{Around}
use Rattle.pattern_notes.specs.Patterns.{arm_match}
use Rattle.pattern_notes.specs.declared.matching.Matching.{Matching}
use Rattle.call_arguments.specs.declared.aims.Aim.{Aim}
use Rattle.call_arguments.specs.declared.aims.Aim.TheVariants as Aims
use Rattle.call_notes.specs.Noted.{names_given}
use Rattle.expression_steps.specs.Parts.{Part}
use Rattle.function_notes.specs.Functions.{arm_of, body_part, function_walk, measure_walk, written_walk}
use Rattle.checked_meaning.specs.Checked.{Checks, checked}
use Rattle.checked_meaning.specs.Items.{Item}
use Rattle.value_laws.specs.Belonging.{Integers, standing}
use Rattle.value_laws.specs.Known.{Point}
use Rattle.call_fits.specs.Calls.{givens_at, own_variables}
use Rattle.soundness_steps.specs.Works.{Work, Setting, Scene, here, IsExact}
use Rattle.soundness_steps.specs.Noted.{OpensAs}
use Rattle.soundness_steps.specs.Covers.{AreMet}
use Rattle.soundness_steps.specs.Steps.{Beside}
use Rattle.soundness_steps.specs.Values.{AllAre, Belongs, IsMadeAs, IsWanted}
use Rattle.soundness_steps.specs.Calls.{Enters, inside}
use Rattle.soundness_forms.specs.Worlds.{Surrounds}

-- ---- types under a function's own variables, which are the first

abbrev pub own_of : Function → List Index
own_of f = own_variables 0 f.variables

abbrev pub own_type : Function → Typ → Reading
own_type f t = R.Of t (own_of f) []

-- ---- arms with their bodies

-- how the code of a scene is read
abbrev pub read_as : Scene → Making Item
read_as q = checked q.set.around.types q.cases

-- what is due comes to its type
pub record Results (q : Scene) {n : ℕ} (p : Point n) (r : Reading) (x : Item) : Type 0 where
  pub belongs : Belongs q.set q.work p r x.val
  pub typ : IsMadeAs q.set q.work p (Makes.ByType r) x.val x.typ

abbrev pub arm_walk : Place → Giver → Arm → Around → Matching → List Indices → Part → Aim → Walk Indices
arm_walk place giver arm around how is body aim =
    bind (bind (arm_match place arm around how is) (names_given giver is)) (λ found. body.walk around found aim)

-- values that have these indices are matched, and the body comes to what is due; or the pattern doesn't match, or the guard is false
abbrev pub ArmIsSound : Scene → World Item → Place → Arm → Part → Run Item Item → Type 0
ArmIsSound q w place arm body run = (giver : Giver) (n : ℕ) (p : Point n) → Surrounds q w p [] → (facts : List Fact) (how : Matching) (r : Reading)
    → IsWanted q.set q.work p r → (is : List Indices) (xs : List Item) → AllAre q.set q.work p is xs
    → Beside q n p facts (arm_walk place giver arm (here q) how is body (Aims.Due r)) (arm_taken (read_as q) w giver arm run xs) (λ m g i x. Results q g r x)

abbrev pub ArmsAreSound : Scene → World Item → Place → Bool → List Arm → List Core → Type 0
ArmsAreSound q w place declared [] bodies = Unit {0}
ArmsAreSound q w place declared (arm ∷ arms) [] = Unit {0}
ArmsAreSound q w place declared (arm ∷ arms) (body ∷ bodies) =
    ArmIsSound q w place (arm_of declared arm) (body_part declared body) (meaning (read_as q) w body) × ArmsAreSound q w place declared arms bodies

-- and a clause that isn't run only adds variables
abbrev pub ClausesGrow : Scene → Place → List Typ → Reading → Bool → List Arm → List Core → Type 0
ClausesGrow q place ts r declared [] bodies = Unit {0}
ClausesGrow q place ts r declared (arm ∷ arms) [] = Unit {0}
ClausesGrow q place ts r declared (arm ∷ arms) (body ∷ bodies) =
    ((giver : Giver) (once : List WrittenNumber) (facts : List Fact) (n : ℕ)
    → n ≤ (written_walk place giver (here q) ts once (Aims.Due r) declared arm body facts n).next)
    × ClausesGrow q place ts r declared arms bodies

-- the arms of clauses
abbrev pub ClausesHold : Scene → World Item → List Typ → Reading → Bool → Core-F Core → Kind → Type 0
ClausesHold q w ts r declared c (K.Clauses arms) =
    ArmsAreSound q w c.place declared arms c.parts × ClausesGrow q c.place ts r declared arms c.parts
ClausesHold q w ts r declared c kind = ⊥

abbrev pub CoreHolds : Scene → World Item → Function → Reading → Bool → Core → Type 0
CoreHolds q w f r declared core = ClausesHold q w f.parameters r declared (out-Core core) (out-Core core).kind

-- ---- a function under an instance

-- integers of which the first are those of the function's own variables
abbrev pub OwnSame : Function → Integers → Integers → Type 0
OwnSame f h g = (i : ℕ) → i < length f.variables → h i ≡ g i

abbrev pub AllMade : Setting → Work → Function → Integers → List Typ → List Value → List Sized → Type 0
AllMade set x f g [] [] [] = Unit {0}
AllMade set x f g (t ∷ ts) (v ∷ vs) (s ∷ ss) = (IsExact set → OpensAs set.around.types set.past x g (own_type f t) v s) × AllMade set x f g ts vs ss
AllMade set x f g ts vs ss = ⊥

pub record EntersAs (set : Setting) (k : Checks) (x : Work) (f : Function) (vs : List Value) (h : Integers) (c : Enters set x f vs h) : Type 0 where
  pub sizes : List Sized
  pub is_there : k.enters x.function x.instance.place (givens_at h 0 f.variables) vs ≡ Some sizes
  pub are_right : (g : Integers) → OwnSame f h g → AllMade set x f g f.parameters vs sizes

-- where its instance is read: all that its walks note is met, of directions of mappings those that are covered; its arguments come in at their types, and
-- its constraint names its own variables alone, each by its kind
pub record Covered (set : Setting) (k : Checks) (x : Work) (f : Function) : Type 0 where
  pub body : (nu : Givens) → all_agree x.instance.numbers nu ≡ true
      → AreMet set x set.covered.direction (k.function x.function x.instance.place nu) (function_walk set.around f [] 0).notes
  pub measure : (nu : Givens) → all_agree x.instance.numbers nu ≡ true → (core : Core) → f.measure ≡ Some core
      → AreMet set x set.covered.direction (k.function x.function x.instance.place nu) (measure_walk set.around f core [] 0).notes
  pub enters : (vs : List Value) (h : Integers) (c : Enters set x f vs h) → EntersAs set k x f vs h c
  pub constraint_stands : (h g : Integers) → OwnSame f h g → true_in (inside set f h) f.constraint ≡ true → true_in (standing set.past g) f.constraint ≡ true
