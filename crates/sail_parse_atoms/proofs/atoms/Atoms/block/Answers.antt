use Rattle.sail_grammar.proofs.Steps.{pass_ok, pass_stop}
use Rattle.sail_parse_atoms.proofs.BlockRows as B
use Rattle.sail_parse_atoms.proofs.atoms.Atoms.block.Goals as goal

pub returns-in-Full-clause-read : goal.returns-in-Full-clause-read
returns-in-Full-clause-read g c = pass_ok _ c.block_form.ensures.read (λ x r. B.block_in c.in-Full.is r)

pub returns-in-Full-clause-stop : goal.returns-in-Full-clause-stop
returns-in-Full-clause-stop g c = pass_stop _ c.block_form.ensures.stop (λ e s. B.block_in_stops c.in-Full.is s)

pub returns-in-Limited-clause-read : goal.returns-in-Limited-clause-read
returns-in-Limited-clause-read g c = pass_ok _ c.with_form.ensures.read (λ x r. B.block_in c.in-Limited.is r)

pub returns-in-Limited-clause-stop : goal.returns-in-Limited-clause-stop
returns-in-Limited-clause-stop g c = pass_stop _ c.with_form.ensures.stop (λ e s. B.block_in_stops c.in-Limited.is s)
