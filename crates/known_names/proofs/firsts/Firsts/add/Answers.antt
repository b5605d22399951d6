use Rattle.std.proofs.Common.{ap}
use Rattle.sail_globals.specs.declared.naming.Space.TheVariants.{Values}
use Rattle.sail_globals.specs.Clashes.{is_same_space}
use Rattle.known_names.specs.Held.{taking_at}
use Rattle.known_names.proofs.Putting.{other_space}
use Rattle.known_names.proofs.firsts.Firsts.add.Goals as goal

pub returns-in-Types : goal.returns-in-Types
returns-in-Types c =
    λ earlier h. other_space earlier (taking_at c.args.self.now.names) c.args.naming.now (ap (λ space. is_same_space space Values) c.in-Types.is) h

pub returns-in-Measures : goal.returns-in-Measures
returns-in-Measures c =
    λ earlier h. other_space earlier (taking_at c.args.self.now.names) c.args.naming.now (ap (λ space. is_same_space space Values) c.in-Measures.is) h
