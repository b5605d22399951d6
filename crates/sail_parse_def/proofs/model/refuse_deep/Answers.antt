use Rattle.std.proofs.Common.{sym, subst}
use Rattle.sail_grammar.specs.Model.{IsRefusal}
use Rattle.sail_parse_def.proofs.Refusals.{deep_whole, deep_ended}
use Rattle.sail_parse_def.proofs.model.refuse_deep.Goals as goal
use Rattle.sail_parse_def.proofs.model.refuse_deep.Goals.{in-Ok, in-Err}

pub refuse-requires-clause-ended : goal.refuse-requires-clause-ended
refuse-requires-clause-ended c =
    λ from e. deep_ended c.args.all.now c.args.index c.index-all-index.result c.args.end c.requires.deep c.requires.within from e

pub returns : goal.returns
returns c = elim c.match-definitions.branch [
  | in-Ok w ↦ subst (λ r. IsRefusal c.args.all.now c.args.end r) (sym w.result-is)
      (deep_whole c.args.all.now c.args.index c.index-all-index.result c.args.end c.requires.deep c.requires.within _ w.in-Ok.ensures.read)
  | in-Err w ↦ subst (λ r. IsRefusal c.args.all.now c.args.end r) (sym w.result-is) w.refuse.ensures
]
