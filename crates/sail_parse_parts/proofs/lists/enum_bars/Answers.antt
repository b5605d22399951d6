use Rattle.std.proofs.Common.{◌++◌, [], ◌∷◌, sym, ◌∙◌, arith}
use Rattle.sail_grammar.proofs.Steps.{exit_stop, onward_step}
use Rattle.sail_parse_parts.proofs.ListRows.{bar_more, bars_none, bar_more_stops, bar_stops, bar_name_stops}
use Rattle.sail_parse_parts.proofs.lists.enum_bars.Goals as goal

pub returns-in_err-after_bar-clause-stop : goal.returns-in_err-after_bar-clause-stop
returns-in_err-after_bar-clause-stop c =
    exit_stop _ c.from_residual.ensures.1 (c.bars.invariant.onward.stops _
    (bar_stops (sym c.sees.ensures ∙ c.bars-test.true) c.in_err-after_bar.ensures.stop))

pub returns-in_err-token-clause-stop : goal.returns-in_err-token-clause-stop
returns-in_err-token-clause-stop c =
    exit_stop _ c.from_residual-in_err-token.ensures.1 (c.bars.invariant.onward.stops _
    (bar_name_stops c.in_ok-after_bar.ensures.read c.in_err-token.ensures.stop))

pub bars-preserved : goal.bars-preserved
bars-preserved c = record {
  onward = onward_step c.bars.invariant.onward (λ x rest r. bar_more c.bars.list c.in_ok-after_bar.ensures.read c.in_ok-token.ensures.read
      (c.in_ok-push.ensures.pushed ∙ (λ i. c.bars.list ++ c.in_ok-name.ensures i ∷ [])) r)
      (λ e s. bar_more_stops c.in_ok-after_bar.ensures.read c.in_ok-token.ensures.read s);
  fewer = omega (arith, c.in_ok-after_bar.ensures.shorter, c.in_ok-token.ensures.shorter, c.bars.invariant.fewer);
}

pub returns-clause-read : goal.returns-clause-read
returns-clause-read c = c.bars.invariant.onward.reads _ _ (bars_none c.bars.list (sym c.sees.ensures ∙ c.bars-test.false))
