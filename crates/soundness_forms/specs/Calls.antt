-- What the conditions of a call suffice for: the arguments belong to the parameters, for numbers that the call gives.
use Rattle.std.specs.Prelude.{◌≡◌, ℕ, Bool, true, false, List, [], ◌∷◌, length, map, slice_get, Some}
use Rattle.sail_base.specs.declared.place.Place.{Place}
use Rattle.sail_types.specs.Belongs.{Reading as Closed, assigned}
use Rattle.sail_types.specs.Numbers.{true_in}
use Rattle.sail_types.specs.declared.numbers.Index.{Index}
use Rattle.sail_types.specs.declared.types.Typ.{Typ}
use Rattle.sail_types.specs.declared.values.Value.{Value}
use Rattle.sail_core.specs.Numbers.{givens_of}
use Rattle.sail_core.specs.declared.model.Function.{Function}
use Rattle.value_indices.specs.declared.indices.Indices.{Indices}
use Rattle.value_indices.specs.declared.indices.Reading.{Reading}
use Rattle.value_indices.specs.declared.indices.Reading.TheVariants as R
use Rattle.value_indices.specs.declared.notes.Fact.{Fact}
use Rattle.value_fits.specs.Fitting.{fits, owe_fit}
use Rattle.call_arguments.specs.Callees.{is_closed, numbers_from, types_from}
use Rattle.call_arguments.specs.Placing.{call_conditions}
use Rattle.value_laws.specs.Belonging.{Integers, standing, closed, types_or_own}
use Rattle.value_laws.specs.Known.{Point, Agree}
use Rattle.call_fits.specs.Calls.{AllBelong, givens_at}
use Rattle.soundness_steps.specs.Works.{Work, Setting, Scene}
use Rattle.soundness_steps.specs.Covers.{given_there}
use Rattle.soundness_steps.specs.Calls.{inside}
use Rattle.soundness_steps.specs.Steps.{Walks}
use Rattle.soundness_steps.specs.Values.{Has, Belongs}

module _ (set : Setting) (work : Work) {n : ℕ} (f : Point n) where
  -- what the callee's variables stand for: the integers of its own, and its Type variables
  pub record CallFits (fn : Function) (js : List Index) (qs : List Reading) (vs : List Value) : Type 0 where
    pub integers : Integers
    pub types : List Closed
    pub same : (g : Integers) → Agree f g → assigned (standing set.past g) js ≡ inside set fn integers
    pub same_types : (g : Integers) → Agree f g
        → types_or_own (map (closed set.around.types (standing set.past g) work.types) qs) work.types ≡ types
    pub given : (g : Integers) → Agree f g → map (given_there set.past g) js ≡ givens_at integers 0 fn.variables
    pub belong : AllBelong set.around.types (inside set fn integers) types fn.parameters vs
    pub constraint : true_in (inside set fn integers) fn.constraint ≡ true
    pub are_given : givens_of (length fn.variables) fn.parameters vs ≡ Some (givens_at integers 0 fn.variables)

  -- an argument that owes a type without variables further in belongs to it
  abbrev pub ArgumentMet : Bool → Typ → Value → Type 0
  ArgumentMet true t v = is_closed t ≡ true → Belongs set work f (R.Of t [] []) v
  ArgumentMet false t v = Unit {0}

  -- as many arguments as parameters
  abbrev pub ArgumentsAre : List Bool → List Typ → List Indices → List Value → Type 0
  ArgumentsAre [] [] [] [] = Unit {0}
  ArgumentsAre (b ∷ bs) (t ∷ ts) (i ∷ is) (v ∷ vs) = Has set work f i v × ArgumentMet b t v × ArgumentsAre bs ts is vs
  ArgumentsAre bs ts is vs = ⊥

-- of this function
abbrev pub CallsFit : Function → Type 0
CallsFit fn = (q : Scene) (n : ℕ) (f : Point n) (facts : List Fact) (place : Place) (bs : List Bool) (is : List Indices) (vs : List Value)
    → ArgumentsAre q.set q.work f bs fn.parameters is vs
    → Walks q n f facts (owe_fit place (call_conditions (fits q.set.around.types) fn (numbers_from 0 fn.variables fn.parameters is)
    (types_from n 0 (length fn.type_variables) fn.parameters is) bs is))
    (λ m g t. CallFits q.set q.work g fn (numbers_from 0 fn.variables fn.parameters is) (types_from n 0 (length fn.type_variables) fn.parameters is) vs)

-- of the one that stands there
abbrev pub CalleeFits : Setting → ℕ → Type 0
CalleeFits set i = (fn : Function) → slice_get set.around.functions i ≡ Some fn → CallsFit fn
