use Rattle.std.proofs.Common.{◌++◌, [], ◌∷◌, sym, ◌∙◌}
use Rattle.sail_grammar.specs.RowName as N
use Rattle.sail_grammar.specs.Form.{Row}
use Rattle.sail_grammar.specs.Parsing.{Reading}
use Rattle.sail_grammar.specs.ExpTrees as T
use Rattle.sail_grammar.proofs.Steps.{exit_stop, pass_ok, pass_stop}
use Rattle.sail_parse_atoms.proofs.AtomRows as A
use Rattle.sail_parse_atoms.proofs.atoms.Atoms.vector_more.Goals as goal

pub returns-then-sees-clause-read : goal.returns-then-sees-clause-read
returns-then-sees-clause-read g c =
    pass_ok {P = λ x. Reading (Row (N.Update c.args.mode)) (T.update_of c.args.place c.args.first) c.args.tokens.now x.0 x.1.now} c.update.result
    c.update.ensures.read (λ x r. A.vector_update (sym c.sees.ensures ∙ c.if-sees.true) r)

pub returns-then-sees-clause-stop : goal.returns-then-sees-clause-stop
returns-then-sees-clause-stop g c = pass_stop _ c.update.ensures.stop (λ e s. A.vector_update_stops (sym c.sees.ensures ∙ c.if-sees.true) s)

pub returns-in_err-items-clause-stop : goal.returns-in_err-items-clause-stop
returns-in_err-items-clause-stop g c =
    exit_stop _ c.from_residual-in_err-items.ensures.1 (A.vector_items_stops (sym c.sees.ensures ∙ c.if-sees.false) c.in_err-items.ensures.stop)

pub returns-in_ok-made-clause-read : goal.returns-in_ok-made-clause-read
returns-in_ok-made-clause-read g c =
    A.vector_items (sym c.sees.ensures ∙ c.if-sees.false) (c.in_ok-push.ensures.pushed ∙ (λ i. c.new-items.ensures i ++ c.into_inner.ensures i ∷ []))
    c.in_ok-items.ensures.read c.in_ok-made.ensures
