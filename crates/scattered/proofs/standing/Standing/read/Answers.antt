use Rattle.std.proofs.Common.{ap, ◌∙◌}
use Rattle.scattered.specs.declared.standing.Scattered.TheVariants.{Union, Function, Mapping}
use Rattle.scattered.specs.Openings.{Continues, opening_of}
use Rattle.scattered.specs.Latest.{latest_of, latest_at}
use Rattle.scattered.proofs.Stacks.{clause_found}
use Rattle.scattered.proofs.standing.Standing.read.Goals as goal

pub returns-in-UnionClause-clause-opening : goal.returns-in-UnionClause-clause-opening
returns-in-UnionClause-clause-opening c =
    let names = c.args.self.now.names in
    λ standing h. rw c.in-UnionClause.is (c.of.ensures ∙ ap (λ latest. latest_of latest Union) c.latest.ensures
    ∙ clause_found (latest_at names) c.args.self.now.before.items standing Union c.as_str-in-UnionClause.result.now h
    ∙ ap (λ name. opening_of (Continues Union name) standing) c.as_str-in-UnionClause.ensures)

pub returns-in-FunctionClause-clause-opening : goal.returns-in-FunctionClause-clause-opening
returns-in-FunctionClause-clause-opening c =
    let names = c.args.self.now.names in
    λ standing h. rw c.in-FunctionClause.is (c.of-in-FunctionClause.ensures
    ∙ ap (λ latest. latest_of latest Function) c.latest-in-FunctionClause.ensures
    ∙ clause_found (latest_at names) c.args.self.now.before.items standing Function c.as_str-in-FunctionClause.result.now h
    ∙ ap (λ name. opening_of (Continues Function name) standing) c.as_str-in-FunctionClause.ensures)

pub returns-in-MappingClause-clause-opening : goal.returns-in-MappingClause-clause-opening
returns-in-MappingClause-clause-opening c =
    let names = c.args.self.now.names in
    λ standing h. rw c.in-MappingClause.is (c.of-in-MappingClause.ensures
    ∙ ap (λ latest. latest_of latest Mapping) c.latest-in-MappingClause.ensures
    ∙ clause_found (latest_at names) c.args.self.now.before.items standing Mapping c.as_str-in-MappingClause.result.now h
    ∙ ap (λ name. opening_of (Continues Mapping name) standing) c.as_str-in-MappingClause.ensures)
