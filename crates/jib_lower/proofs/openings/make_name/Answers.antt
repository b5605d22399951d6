use Rattle.std.proofs.Common.{◌∙◌, sym}
use Rattle.size_values.specs.declared.sized.Sized.TheVariants as S
use Rattle.exact_sizes.proofs.Equal.{sized_same}
use Rattle.jib_lower.specs.Left.{not_given, not_held, not_nothing}
use Rattle.jib_lower.proofs.Unmade.{itself, not_both}
use Rattle.std.proofs.Common.{ap}
use Rattle.size_values.specs.Sized.{sized_eq}
use Rattle.jib_lower.proofs.openings.make_name.Goals as goal

pub name_code-requires : goal.name_code-requires
name_code-requires c = record {
  bare = c.requires.bare;
  nothing = sized_same c.args.walk.now.setting.now.nothing.now S.Unit (sym c.same_sized-nothing.ensures ∙ c.if-nothing.true);
  given = sym c.in_ok-given.ensures ∙ c.if-given.true;
  held = c.in_ok-held.ensures.is c.if-held.true;
}

pub returns-then-held-clause-made : goal.returns-then-held-clause-made
returns-then-held-clause-made c = c.name_code.ensures.made

pub returns-then-held-clause-left : goal.returns-then-held-clause-left
returns-then-held-clause-left c = c.name_code.ensures.left

pub returns-else-held-clause-left : goal.returns-else-held-clause-left
returns-else-held-clause-left c = not_held (c.in_ok-held.ensures.no c.if-held.false)

pub returns-else-given-clause-left : goal.returns-else-given-clause-left
returns-else-given-clause-left c = not_given (sym c.in_ok-given.ensures ∙ c.if-given.false)

pub returns-else-nothing-clause-left : goal.returns-else-nothing-clause-left
returns-else-nothing-clause-left c =
    not_nothing (λ is.
    not_both (sized_eq c.args.walk.now.setting.now.nothing.now S.Unit) (ap (λ t. sized_eq t S.Unit) is ∙ itself S.Unit)
    (sym c.same_sized-nothing.ensures ∙ c.if-nothing.false))
