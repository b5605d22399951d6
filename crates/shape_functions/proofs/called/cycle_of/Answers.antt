use Rattle.std.proofs.Common.{◌≡◌, ℕ, List, Option, Result, Ok, Err, ◌∙◌}
use Rattle.std.specs.Prelude.{IfOk}
use Rattle.sail_base.specs.declared.place.Place.{Place}
use Rattle.sail_syntax.specs.declared.definitions.Def.{Def}
use Rattle.sail_tables.specs.declared.model_tables.Tables.{Tables}
use Rattle.sail_tables.specs.Tabled.{AreTables}
use Rattle.shape_clauses.specs.Functions.{cycle_in}
use Rattle.shape_functions.proofs.called.cycle_of.Goals as goal

as_found : {E : Type 0} (r : Result (Option ℕ) E) (found : Option ℕ) (tables : Tables) (name : List ℕ) → IfOk r (λ made. made ≡ found)
    → ((text : List Def) (end : Place) → AreTables text end tables → found ≡ cycle_in tables text name)
    → IfOk r (λ made. (text : List Def) (end : Place) → AreTables text end tables → made ≡ cycle_in tables text name)
as_found (Ok made) found tables name same is = λ text end t. same ∙ is text end t
as_found (Err e) found tables name same is = tt

pub returns : goal.returns
returns c = as_found c.small.result c.cycle.result c.args.tables.now c.args.name.now c.small.ensures c.cycle.ensures
