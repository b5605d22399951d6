use Rattle.std.proofs.Common.{◌≡◌, take, drop}
use Rattle.shape_rules.specs.Around.{setting_of}
use Rattle.shape_rules.specs.Findings.{first_failure}
use Rattle.shape_clauses.specs.Clauses.{clauses_arms, clauses_bodies, clauses_faults}
use Rattle.shape_clauses.specs.Functions.{function_clauses}
use Rattle.shape_functions.proofs.functions.function_clauses.Given as goal

abbrev pub invariant-loop-clause : goal.invariant-loop-clause
invariant-loop-clause l = record {
  arms : l.made.arms ≡ clauses_arms (function_clauses (setting_of l.around) l.params l.answer (take l.clause-index l.clauses));
  bodies : l.made.bodies ≡ clauses_bodies (function_clauses (setting_of l.around) l.params l.answer (take l.clause-index l.clauses));
  failures : first_failure l.first.error
      (clauses_faults (function_clauses (setting_of l.around) l.params l.answer (drop l.clause-index l.clauses)))
      ≡ first_failure l.initial.first.error (clauses_faults (function_clauses (setting_of l.around) l.params l.answer l.clauses));
}
