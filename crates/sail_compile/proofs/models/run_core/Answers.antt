use Rattle.std.proofs.Common.{refl}
use Rattle.shape_clauses.specs.Functions.{cycle_in}
use Rattle.sail_compile.proofs.models.run_core.Goals as goal

pub returns-in-Ok-clause-core : goal.returns-in-Ok-clause-core
returns-in-Ok-clause-core c = λ text end are.
    let made = c.in-Ok.ensures.resolved text end are in
    record {
      cycle = cycle_in c.args.tables.now text;
      numbered = record { cycles = c.args.tables.now.calls; are = are.calls; by_name = λ name. refl };
      is = made.core;
    }
