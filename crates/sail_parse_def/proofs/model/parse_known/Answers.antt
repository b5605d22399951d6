use Rattle.std.proofs.Common.{sym, ◌∙◌}
use Rattle.sail_grammar.specs.Levels.{no_nesting}
use Rattle.sail_levels.proofs.Counting.{deep_below}
use Rattle.sail_parse_def.proofs.model.parse_known.Goals as goal

pub refuse_deep-requires-clause-within : goal.refuse_deep-requires-clause-within
refuse_deep-requires-clause-within c = deep_below no_nesting c.args.all.now c.in-Some.index (sym c.requires ∙ c.in-Some.is)
