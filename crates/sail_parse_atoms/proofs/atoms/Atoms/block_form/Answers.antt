use Rattle.sail_grammar.proofs.Steps.{exit_stop, pass_ok, pass_stop, stops_row, stops_first}
use Rattle.sail_parse_atoms.proofs.BlockRows as B
use Rattle.sail_parse_atoms.proofs.atoms.Atoms.block_form.Goals as goal

pub returns-in_err-bracket-clause-stop : goal.returns-in_err-bracket-clause-stop
returns-in_err-bracket-clause-stop g c = exit_stop _ c.from_residual.ensures.1 (stops_row (stops_first c.in_err-bracket.ensures.stop))

pub returns-in_ok-made-in-Some-clause-read : goal.returns-in_ok-made-in-Some-clause-read
returns-in_ok-made-in-Some-clause-read g c = B.block_empty c.in_ok-bracket.ensures.read c.in-Some.ensures.read c.new.ensures c.in_ok-made-in-Some.ensures

pub returns-in-None-clause-read : goal.returns-in-None-clause-read
returns-in-None-clause-read g c = pass_ok _ c.body.ensures.read (λ x r. B.block_body c.in_ok-bracket.ensures.read c.in-None.ensures.read r)

pub returns-in-None-clause-stop : goal.returns-in-None-clause-stop
returns-in-None-clause-stop g c = pass_stop _ c.body.ensures.stop (λ e s. B.block_body_stops c.in_ok-bracket.ensures.read c.in-None.ensures.read s)
