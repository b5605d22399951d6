use Rattle.std.proofs.Common.{Some}
use Rattle.std.proofs.lemmas.Map.Text.{hash_map_updates_str}
use Rattle.sail_kinds.proofs.scope.TypeNames.define.Goals as goal

pub returns-clause-types : goal.returns-clause-types
returns-clause-types c = λ other. hash_map_updates_str c.args.name.now c.args.self.now.types c.insert.new.self (Some c.args.typ) c.in_ok-insert.ensures.updates other
