use Rattle.type_arguments.proofs.Voids.{no_bits, no_range}
use Rattle.type_arguments.proofs.laws.void_types_are_empty.Goals as goal

pub returns-clause-bits : goal.returns-clause-bits
returns-clause-bits c = λ types value nu rs width h. no_bits types value nu rs width h

pub returns-clause-range : goal.returns-clause-range
returns-clause-range c = λ types value nu rs low high h. no_range types value nu rs low high h
