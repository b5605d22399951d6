use Rattle.std.proofs.Common.{◌++◌, [], ◌∷◌, sym, ◌∙◌, arith}
use Rattle.sail_grammar.proofs.Steps.{onward_step}
use Rattle.sail_parse_tp.proofs.SetRows.{variable_more, variables_none, variable_more_stops}
use Rattle.sail_parse_tp.proofs.types.variables.Goals as goal

pub variables-preserved : goal.variables-preserved
variables-preserved c =
    let name = c.in_ok-name.ensures in
    let pushed = c.in_ok-push.ensures.pushed in
    record {
      onward = onward_step c.variables.invariant.onward
          (λ x rest r. variable_more c.variables.list c.in_ok-token.ensures.read (pushed ∙ (λ i. c.variables.list ++ name i ∷ [])) r)
          (λ e s. variable_more_stops c.in_ok-token.ensures.read s);
      fewer = omega (arith, c.in_ok-token.ensures.shorter, c.variables.invariant.fewer);
    }

pub returns-clause-read : goal.returns-clause-read
returns-clause-read c = c.variables.invariant.onward.reads _ _ (variables_none c.variables.list (sym c.sees.ensures ∙ c.variables-test.false))
