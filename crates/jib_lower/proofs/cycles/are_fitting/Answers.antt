use Rattle.std.proofs.Common.{◌≡◌, ◌∙◌, false, sym, true}
use Rattle.jib_lower.proofs.Cycled.{all_each, all_from}
use Rattle.jib_lower.proofs.cycles.are_fitting.Goals as goal

pub returns-then-many-count-clause-is : goal.returns-then-many-count-clause-is
returns-then-many-count-clause-is c =
    λ h.
    let same = c.if-many-count.true in
    record {
      many = same;
      each = all_each c.args.functions.now c.args.numbers.now c.args.functions.now c.args.numbers.now same same (sym c.all_fit.ensures ∙ h);
    }

pub returns-then-many-count-clause-no : goal.returns-then-many-count-clause-no
returns-then-many-count-clause-no c =
    λ h fit.
    let same = c.if-many-count.true in
    let no : false ≡ true =
    sym (sym c.all_fit.ensures ∙ h) ∙ all_from c.args.functions.now c.args.numbers.now c.args.functions.now c.args.numbers.now same same fit.each in
    cc

pub returns-else-many-count-clause-no : goal.returns-else-many-count-clause-no
returns-else-many-count-clause-no c = λ h fit. c.if-many-count.false fit.many
