-- Directions of mappings: what is asked of their clauses and of how they are read, and that entering one ends well.
use Rattle.std.specs.Prelude.{◌≡◌, ◌≤◌, nat_lt, ℕ, Bool, true, false, ◌&&◌, List, [], ◌∷◌, Some, None}
use Rattle.sail_base.specs.declared.place.Place.{Place}
use Rattle.sail_types.specs.declared.types.Typ.{Typ}
use Rattle.sail_types.specs.declared.values.Value.{Value}
use Rattle.sail_core.specs.declared.model.Direction.{Direction}
use Rattle.sail_core.specs.declared.patterns.Arm.{Arm}
use Rattle.sail_core.specs.declared.tree.Core.{Core, out-Core}
use Rattle.sail_core.specs.declared.tree.Kind.TheVariants as K
use Rattle.sail_core.specs.Making.{World}
use Rattle.sail_core.specs.Meaning.{meaning}
use Rattle.size_values.specs.declared.sized.Sized.{Sized}
use Rattle.value_indices.specs.declared.indices.Reading.{Reading}
use Rattle.value_indices.specs.declared.indices.Reading.TheVariants as R
use Rattle.value_indices.specs.declared.notes.Fact.{Fact}
use Rattle.value_indices.specs.Steps.{Walk}
use Rattle.expression_steps.specs.Expressions.{part}
use Rattle.function_notes.specs.Functions.{direction_walk, mapping_walk}
use Rattle.checked_meaning.specs.Checked.{Cases, Checks}
use Rattle.checked_meaning.specs.Items.{Item}
use Rattle.value_laws.specs.Belonging.{Integers}
use Rattle.soundness_steps.specs.Works.{Scene, Setting, nobody, here, IsExact}
use Rattle.soundness_steps.specs.Noted.{OpensAs}
use Rattle.soundness_steps.specs.Covers.{AreMet}
use Rattle.soundness_steps.specs.Calls.{IsOf}
use Rattle.soundness_calls.specs.Premises.{ArmIsSound, read_as}

-- a type that names no variable of a definition
abbrev pub bare_type : Typ → Reading
bare_type t = R.Of t [] []

-- the patterns of a direction reach those that are covered and of a lower rank
abbrev pub below : Setting → (ℕ → ℕ) → ℕ → ℕ → Bool
below set rank d e = nat_lt (rank e) (rank d) && set.covered.direction e

-- no function is around it, nor variables of one
abbrev pub scene_within : Setting → (ℕ → Bool) → Cases → Scene
scene_within set reached cases = record {
  set = set;
  work = nobody;
  numbers = [];
  result = None;
  cases = cases;
  reached = reached;
  answer = None;
  may_fall = true;
  names = [];
}

abbrev pub nowhere_scene : Setting → Scene
nowhere_scene set = scene_within set (λ d. false) (record { makes = λ k is v noted. None; notes = λ k v noted. None; calls = λ k is noted. None })

-- ---- one direction: its arms, and those of the other, which a run passes over

abbrev pub WaysAreSound : Scene → World Item → Place → List Arm → List Core → Type 0
WaysAreSound q w place [] bodies = Unit {0}
WaysAreSound q w place (arm ∷ arms) [] = Unit {0}
WaysAreSound q w place (arm ∷ arms) (body ∷ bodies) =
    ArmIsSound q w place arm (part body) (meaning (read_as q) w body) × WaysAreSound q w place arms bodies

-- a clause that isn't run only adds variables
abbrev pub WaysGrow : Scene → Place → Direction → List Arm → List Core → Type 0
WaysGrow q place m [] bodies = Unit {0}
WaysGrow q place m (arm ∷ arms) [] = Unit {0}
WaysGrow q place m (arm ∷ arms) (body ∷ bodies) =
    ((behind : ℕ) (facts : List Fact) (n : ℕ) → n ≤ (direction_walk place (here q) m behind arm body facts n).next) × WaysGrow q place m arms bodies

abbrev pub bodies_of : Direction → List Core
bodies_of m = (out-Core m.body).parts

pub record BothHold (q : Scene) (place : Place) (m n : Direction) : Type 0 where
  pub arms : List Arm
  pub backs : List Arm
  pub ahead : (out-Core m.body).kind ≡ K.Clauses arms
  pub back : (out-Core n.body).kind ≡ K.Clauses backs
  pub ahead_grows : WaysGrow q place m arms (bodies_of m)
  pub back_grows : WaysGrow q place n backs (bodies_of n)

-- ---- a direction as it is read: forwards of its mapping or backwards

pub data Side : Type 0 where
  -- with the other direction
  is_ahead : Direction → Side
  is_back : Direction → Side

abbrev pub scene_across : Setting → Checks → (ℕ → ℕ) → ℕ → Scene
scene_across set k rank d = scene_within set (below set rank d) (k.direction d)

abbrev pub mapping_of : Setting → Side → Direction → Walk (Unit {0})
mapping_of set (is_ahead n) m = mapping_walk (here (nowhere_scene set)) m n
mapping_of set (is_back n) m = mapping_walk (here (nowhere_scene set)) n m

abbrev pub ClausesOf : Scene → Side → Direction → Type 0
ClausesOf q (is_ahead n) m = BothHold q m.place m n
ClausesOf q (is_back n) m = BothHold q n.place n m

abbrev pub ArmsOf : (q : Scene) → World Item → (side : Side) (m : Direction) → ClausesOf q side m → Type 0
ArmsOf q w (is_ahead n) m both = WaysAreSound q w m.place both.arms (bodies_of m)
ArmsOf q w (is_back n) m both = WaysAreSound q w n.place both.backs (bodies_of m)

pub record CoveredDirection (set : Setting) (rank : ℕ → ℕ) (k : Checks) (d : ℕ) (m : Direction) : Type 0 where
  pub side : Side
  pub met : AreMet set nobody (below set rank d) (k.direction d) (mapping_of set side m [] 0).notes
  pub takes : (v : Value) → IsOf set m.parameter v → (s : Sized) × (k.takes d v ≡ Some s)
      × (IsExact set → (g : Integers) → OpensAs set.around.types set.past nobody g (bare_type m.parameter) v s)
  pub clauses : ClausesOf (scene_across set k rank d) side m
  pub arms : (w : World Item) → ArmsOf (scene_across set k rank d) w side m clauses
