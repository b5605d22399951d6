use Rattle.std.proofs.Common.{◌∙◌, sym}
use Rattle.lowered_steps.proofs.Lists.{one_of}
use Rattle.jib_lower.proofs.Bodied.{more_parts, no_part, other_kind}
use Rattle.jib_lower.proofs.directions.body_of.Goals as goal

pub returns-in-len1-clause-body : goal.returns-in-len1-clause-body
returns-in-len1-clause-body c = record {
  kind = c.in-Optional.is;
  parts = sym c.as_slice.ensures
      ∙ one_of c.as_slice.result.now c.clauses-item.result c.in-len1.len_at_least c.in-len1.len_below c.clauses-item.is;
}

pub returns-in-empty-clause-left : goal.returns-in-empty-clause-left
returns-in-empty-clause-left c = no_part c.args.direction.now c.as_slice.result.now c.as_slice.ensures c.in-empty.len_below

pub returns-in-len2-up-clause-left : goal.returns-in-len2-up-clause-left
returns-in-len2-up-clause-left c = more_parts c.args.direction.now c.as_slice.result.now c.as_slice.ensures c.in-len2-up.len_at_least

pub returns-in_default-clause-left : goal.returns-in_default-clause-left
returns-in_default-clause-left c = other_kind c.args.direction.now c.in_default.not-Optional
