-- What holds of the reading under constant sizes.
use Rattle.std.specs.Prelude.{◌≡◌, ℕ, Bool, List, [], ◌∷◌, ◌++◌, Option, Some}
use Rattle.model_state.specs.RunState.{RunState}
use Rattle.sail_core.specs.declared.model.CoreModel.{CoreModel}
use Rattle.sail_core.specs.Program.{plain}
use Rattle.sail_core.specs.Start.{init_ran, reset_ran, step_ran}
use Rattle.size_values.specs.declared.constants.Picked.{Picked}
use Rattle.checked_meaning.specs.Checked.{Noted, checking}
use Rattle.checked_meaning.specs.Laws.{IsStuckOr}
use Rattle.sized_nodes.specs.declared.trees.Case.{Case}
use Rattle.sized_nodes.specs.declared.trees.Lead.{Lead}
use Rattle.sized_nodes.specs.declared.trees.SizedCore.{SizedCore}
use Rattle.sized_nodes.specs.Asked.{CaseAsks, Each, LeadAsks}
use Rattle.sized_meanings.specs.Present.{present_case, present_lead}
use Rattle.sized_meanings.specs.Sized.{checks_by}

-- the start and the events of a model under constant sizes, by whichever numbers cases are chosen, are stuck, or come to what they come to plainly
abbrev pub SizedModelsAreAlike : Type 0
SizedModelsAreAlike = (given : Bool) (m : CoreModel) (c : SizedCore) (state : RunState)
    → IsStuckOr (init_ran (checking (checks_by given m c)) m state) (init_ran plain m state)
    × ((hart entry : ℕ) → IsStuckOr (reset_ran (checking (checks_by given m c)) m hart entry state) (reset_ran plain m hart entry state))
    × ((hart : ℕ) → IsStuckOr (step_ran (checking (checks_by given m c)) m hart state) (step_ran plain m hart state))

-- ---- where the noted numbers are those of a case, one with the same numbers is present, whatever else is noted

abbrev pub AreNoted : Noted → List Picked → Type 0
AreNoted noted [] = Unit {0}
AreNoted noted (p ∷ ps) = (noted p.variable ≡ Some p.number) × AreNoted noted ps

pub record Found {A : Type 0} (picks : A → List Picked) (ps : List Picked) (o : Option A) : Type 0 where
  pub it : A
  pub is_there : o ≡ Some it
  pub same : picks it ≡ ps

abbrev pub PresentCasesAreFound : Type 0
PresentCasesAreFound = (noted : Noted) (vs : List ℕ) (front : List Case) (c : Case) (back : List Case) → Each (CaseAsks vs) (front ++ c ∷ back)
    → AreNoted noted c.picked → Found (λ x. x.picked) c.picked (present_case noted (front ++ c ∷ back))

abbrev pub PresentLeadsAreFound : Type 0
PresentLeadsAreFound = (noted : Noted) (vs : List ℕ) (front : List Lead) (l : Lead) (back : List Lead) → Each (LeadAsks vs) (front ++ l ∷ back)
    → AreNoted noted l.picked → Found (λ x. x.picked) l.picked (present_lead noted (front ++ l ∷ back))
