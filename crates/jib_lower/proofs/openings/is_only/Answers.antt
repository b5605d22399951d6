use Rattle.std.proofs.Common.{◌∙◌, [], ◌∷◌, ap, sym}
use Rattle.exact_sizes.proofs.Equal.{sized_same}
use Rattle.lowered_steps.proofs.Lists.{one_of}
use Rattle.jib_lower.proofs.Unmade.{itself, not_both, only_same}
use Rattle.std.proofs.Common.{ap}
use Rattle.size_values.specs.Sized.{sized_eq}
use Rattle.jib_lower.proofs.openings.is_only.Goals as goal

pub returns-in-len1-clause-is : goal.returns-in-len1-clause-is
returns-in-len1-clause-is c =
    λ h. one_of c.args.types.now c.only-item.result c.in-len1.len_at_least c.in-len1.len_below c.only-item.is
    ∙ ap (λ t. t ∷ []) (sized_same c.only-item.result c.args.typ.now (sym c.same_sized.ensures ∙ h))

pub returns-in-len1-clause-no : goal.returns-in-len1-clause-no
returns-in-len1-clause-no c =
    λ h is.
    let same = only_same c.only-item.result c.args.typ.now (sym (one_of c.args.types.now c.only-item.result c.in-len1.len_at_least c.in-len1.len_below
    c.only-item.is) ∙ is) in
    not_both (sized_eq c.only-item.result c.args.typ.now) (ap (λ t. sized_eq t c.args.typ.now) same ∙ itself c.args.typ.now)
    (sym c.same_sized.ensures ∙ h)
