-- Calls and events of a model, where the nodes of its bodies are fine beside their walks, and patterns stand.
use Rattle.std.specs.Prelude.{◌≡◌, ℕ, true, List, [], slice_get, Some}
use Rattle.sail_types.specs.declared.values.Value.{Value}
use Rattle.sail_core.specs.Making.{World}
use Rattle.sail_core.specs.Numbers.{Givens}
use Rattle.sail_core.specs.declared.model.Direction.{Direction}
use Rattle.sail_core.specs.declared.model.Function.{Function}
use Rattle.sail_core.specs.declared.patterns.Arm.{Arm}
use Rattle.sail_core.specs.declared.tree.Core.{Core, out-Core}
use Rattle.sail_core.specs.declared.tree.Kind.TheVariants as K
use Rattle.size_values.specs.declared.sized.Sized.{Sized}
use Rattle.checked_meaning.specs.Checked.{Checks}
use Rattle.checked_meaning.specs.Items.{Item}
use Rattle.checked_meaning.specs.Fits.{AllFit}
use Rattle.value_laws.specs.Belonging.{Integers}
use Rattle.soundness_steps.specs.Works.{Scene, Setting, Work, nobody, IsExact, IsFitted}
use Rattle.soundness_steps.specs.Noted.{OpensAs}
use Rattle.soundness_steps.specs.Covers.{AreMet}
use Rattle.soundness_steps.specs.Calls.{IsOf}
use Rattle.soundness_forms.specs.Worlds.{LetsAre}
use Rattle.soundness_calls.specs.Premises.{Covered}
use Rattle.soundness_calls.specs.Laws.{scene_of}
use Rattle.soundness_calls.specs.Directions.{Side, bare_type, below, bodies_of, is_ahead, is_back, mapping_of, scene_across}
use Rattle.soundness_calls.specs.Calls.{CoveredModel}
use Rattle.soundness_binding.specs.Patterned.{arms_stand}
use Rattle.sail_soundness.specs.Whole as Whole
use Rattle.sail_calls.specs.Bodies.{BodiesStand, Clauses}

-- ---- a function under an instance

pub record FunctionStands (set : Setting) (k : Checks) (x : Work) (f : Function) : Type 0 where
  pub covered : Covered set k x f
  pub model : Whole.ModelStands set x
  pub body : (h : Integers) (nu : Givens) (w : World Item)
      → Clauses (scene_of set x f h (k.function x.function x.instance.place nu)) w f.is_declared f.body
  pub measure : (h : Integers) (nu : Givens) (w : World Item) (core : Core) → f.measure ≡ Some core
      → Clauses (scene_of set x f h (k.function x.function x.instance.place nu)) w true core

-- ---- a direction: both directions of its mapping, and the patterns of its own

pub record Ways (q : Scene) (m n : Direction) : Type 0 where
  pub arms : List Arm
  pub backs : List Arm
  pub ahead : (out-Core m.body).kind ≡ K.Clauses arms
  pub back : (out-Core n.body).kind ≡ K.Clauses backs
  pub ahead_bodies : (w : World Item) → BodiesStand q w (bodies_of m)
  pub back_bodies : (w : World Item) → BodiesStand q w (bodies_of n)

abbrev pub WaysOf : Scene → Side → Direction → Type 0
WaysOf q (is_ahead n) m = Ways q m n
WaysOf q (is_back n) m = Ways q n m

abbrev pub own_arms : (q : Scene) (side : Side) (m : Direction) → WaysOf q side m → List Arm
own_arms q (is_ahead n) m ways = ways.arms
own_arms q (is_back n) m ways = ways.backs

pub record DirectionStands (set : Setting) (rank : ℕ → ℕ) (k : Checks) (d : ℕ) (m : Direction) : Type 0 where
  pub side : Side
  pub met : AreMet set nobody (below set rank d) (k.direction d) (mapping_of set side m [] 0).notes
  pub takes : (v : Value) → IsOf set m.parameter v → (s : Sized) × (k.takes d v ≡ Some s)
      × (IsExact set → (g : Integers) → OpensAs set.around.types set.past nobody g (bare_type m.parameter) v s)
  pub model : Whole.ModelStands set nobody
  pub ways : WaysOf (scene_across set k rank d) side m
  pub patterns : arms_stand set.around.types [] (own_arms (scene_across set k rank d) side m ways) ≡ true

-- ---- a model

pub record ModelStands (set : Setting) (k : Checks) (rank : ℕ → ℕ) (lets : List Value) : Type 0 where
  pub lets_are : (x : Work) → LetsAre set x set.around.lets lets
  pub functions : (x : Work) (f : Function) → set.covered.function x ≡ true → (IsFitted set → AllFit set.around.types x.types x.own)
      → slice_get set.around.functions x.function ≡ Some f → FunctionStands set k x f
  pub directions : (d : ℕ) (m : Direction) → set.covered.direction d ≡ true → slice_get set.around.directions d ≡ Some m → DirectionStands set rank k d m

-- all that calls ask of it
abbrev pub CallsFollow : Type 0
CallsFollow = (set : Setting) (k : Checks) (rank : ℕ → ℕ) (lets : List Value) → ModelStands set k rank lets
    → CoveredModel set k rank lets
