use Rattle.std.proofs.Common.{sym, ◌∙◌}
use Rattle.std.proofs.lemmas.Bool.{true≢false}
use Rattle.sail_parse_atoms.proofs.LeafRows.{made_as}
use Rattle.sail_parse_expr.proofs.LeafRows.{base_alone, base_part}
use Rattle.sail_parse_expr.proofs.leaves.with_suffixes.Goals as goal

pub returns-then-is_empty : goal.returns-then-is_empty
returns-then-is_empty c = base_alone _ _ _ (c.is_empty.ensures.empty.0 c.if-is_empty.true)

pub returns-else-is_empty : goal.returns-else-is_empty
returns-else-is_empty c = made_as _ c.part.ensures (base_part _ _ _ (λ e. true≢false (sym (c.is_empty.ensures.empty.1 e) ∙ c.if-is_empty.false)))
