use Rattle.std.proofs.Common.{◌∙◌, Some, ap, sym}
use Rattle.exact_sizes.proofs.Equal.{sized_same}
use Rattle.jib_lower.proofs.Unmade.{itself, not_both}
use Rattle.std.proofs.Common.{ap}
use Rattle.size_values.specs.Sized.{sized_eq}
use Rattle.jib_lower.proofs.Basics.{some_same}
use Rattle.jib_lower.proofs.openings.is_found.Goals as goal

pub returns-in-Some-clause-is : goal.returns-in-Some-clause-is
returns-in-Some-clause-is c =
    λ h. c.in-Some.is ∙ ap (λ t. Some t) (sized_same c.in-Some.other c.args.typ.now (sym c.same_sized.ensures ∙ h))

pub returns-in-Some-clause-no : goal.returns-in-Some-clause-no
returns-in-Some-clause-no c =
    λ h is.
    let same = some_same c.in-Some.other c.args.typ.now (sym c.in-Some.is ∙ is) in
    not_both (sized_eq c.in-Some.other c.args.typ.now) (ap (λ t. sized_eq t c.args.typ.now) same ∙ itself c.args.typ.now) (sym c.same_sized.ensures ∙ h)
