use Rattle.std.proofs.Common.{◌≡◌, take, drop}
use Rattle.shape_rules.specs.Around.{setting_of}
use Rattle.shape_rules.specs.Findings.{first_failure}
use Rattle.shape_clauses.specs.Clauses.{clauses_arms, clauses_bodies, clauses_faults}
use Rattle.shape_clauses.specs.Mappings.{forwards_clauses}
use Rattle.shape_clauses.proofs.directions.forwards_clauses.Given as goal

abbrev pub invariant-loop-clause : goal.invariant-loop-clause
invariant-loop-clause l = record {
  arms : l.made.arms ≡ clauses_arms (forwards_clauses (setting_of l.around) l.mapping (take l.clause-index l.clauses));
  bodies : l.made.bodies ≡ clauses_bodies (forwards_clauses (setting_of l.around) l.mapping (take l.clause-index l.clauses));
  failures : first_failure l.first.error (clauses_faults (forwards_clauses (setting_of l.around) l.mapping (drop l.clause-index l.clauses)))
      ≡ first_failure l.initial.first.error (clauses_faults (forwards_clauses (setting_of l.around) l.mapping l.clauses));
}
