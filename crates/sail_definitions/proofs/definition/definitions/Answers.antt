use Rattle.std.proofs.Common.{[], sym, ◌∙◌, subst, arith}
use Rattle.sail_grammar.specs.RowName.{Definitions}
use Rattle.sail_grammar.specs.Form.{Row}
use Rattle.sail_grammar.proofs.Steps.{Onward, exit_stop, onward_start, onward_step}
use Rattle.sail_definitions.specs.Behind.{defs_behind}
use Rattle.sail_definitions.proofs.DefinitionRows.{definition_more, definition_stops, definition_more_stops, definitions_none}
use Rattle.sail_definitions.proofs.DefinitionRows.{some_left, none_left}
use Rattle.sail_definitions.proofs.definition.definitions.Goals as goal

pub definitions-init : goal.definitions-init
definitions-init c =
    let tokens = c.args.tokens.now in
    record {
      onward = subst (λ items. Onward (Row Definitions) defs_behind tokens [] tokens items) (sym c.new-list.ensures)
          (onward_start (Row Definitions) defs_behind tokens []);
      fewer = omega arith;
    }

pub returns-in_err-next-clause-stop : goal.returns-in_err-next-clause-stop
returns-in_err-next-clause-stop c =
    exit_stop _ c.from_residual.ensures.1 (c.definitions.invariant.onward.stops _
    (definition_stops (some_left _ (sym c.is_empty.ensures ∙ c.definitions-test.true)) c.in_err-next.ensures.stop))

pub definitions-preserved : goal.definitions-preserved
definitions-preserved c = record {
  onward = onward_step c.definitions.invariant.onward (λ x rest r. definition_more c.definitions.list c.in_ok-next.ensures.read
      c.in_ok-next.ensures.shorter c.in_ok-push.ensures.pushed r) (λ e s. definition_more_stops c.in_ok-next.ensures.read c.in_ok-next.ensures.shorter
      s);
  fewer = omega (arith, c.in_ok-next.ensures.shorter, c.definitions.invariant.fewer);
}

pub returns-clause-read : goal.returns-clause-read
returns-clause-read c =
    c.definitions.invariant.onward.reads _ _ (definitions_none c.definitions.list c.definitions.rest.now
    (none_left _ (sym c.is_empty.ensures ∙ c.definitions-test.false)))
