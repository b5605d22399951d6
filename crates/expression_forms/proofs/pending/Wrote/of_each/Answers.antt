use Rattle.std.proofs.Common.{◌∙◌, List, ap, map, sym}
use Rattle.std.proofs.lemmas.Bool.{false≢true}
use Rattle.expression_forms.specs.Spots.{all_wrote, left_of}
use Rattle.expression_forms.specs.declared.pending.Left.{Left}
use Rattle.expression_forms.proofs.Tuples.{some_wrote}
use Rattle.expression_forms.proofs.pending.Wrote.of_each.Goals as goal

pub returns-then-is_empty : goal.returns-then-is_empty
returns-then-is_empty c around =
    let none = c.is_empty.ensures.empty.0 c.if-is_empty.true in
    c.gives.ensures around ∙ sym (ap (λ (fs : List Left). all_wrote (map (left_of around) fs) c.args.answer) none)

pub returns : goal.returns
returns c around =
    some_wrote around c.args.lefts c.args.answer (λ e. false≢true (sym c.if-is_empty.false ∙ c.is_empty.ensures.empty.1 e))
