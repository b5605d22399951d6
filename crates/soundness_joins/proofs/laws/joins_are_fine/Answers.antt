use Rattle.soundness_forms.proofs.Matching.{match_kind}
use Rattle.soundness_joins.proofs.AgreementCounts.{agreement_counts}
use Rattle.soundness_joins.proofs.FreeJoins.{free_joining}
use Rattle.soundness_joins.proofs.IfKind.{if_kind}
use Rattle.soundness_joins.proofs.TryKind.{try_kind}
use Rattle.soundness_joins.proofs.laws.joins_are_fine.Goals as goal

pub returns : goal.returns
returns c = λ fit met arms_grow q w shape. let free = free_joining fit met in (
  if_kind fit free met agreement_counts q w shape,
  λ arms patterns. (
    match_kind arms_grow q w free met agreement_counts arms shape patterns,
    try_kind arms_grow q w free met agreement_counts arms shape patterns,
  ),
)
