use Rattle.std.proofs.Common.{◌≡◌, ◌++◌, ◌∷◌, List, [], sym, ap, ◌∙◌, subst, OnOk, option_map}
use Rattle.shape_rules.specs.Around.{setting_of}
use Rattle.shape_rules.specs.Findings.{first_failure}
use Rattle.shape_rules.specs.Scopes.{Locals}
use Rattle.shape_rules.specs.Statements.{by_found}
use Rattle.sail_types.specs.declared.shapes.Shape.TheVariants as V
use Rattle.shape_rules.specs.declared.error.ShapeError.{ShapeError}
use Rattle.shape_rules.specs.Expressions.{elaborate as elaborated, part}
use Rattle.sail_syntax.specs.declared.expressions.Exp.{Exp}
use Rattle.sail_syntax.specs.declared.expressions.Range.{out-Range}
use Rattle.sail_core.specs.declared.tree.Core.{Core}
use Rattle.shape_statements.proofs.Ranges.{range_made, range_noted, three_noted, three_pushed}
use Rattle.shape_statements.proofs.loops.push_range.Goals as goal

pub returns-clause-parts : goal.returns-clause-parts
returns-clause-parts g c =
    let setting = setting_of c.args.around.now in
    let names = c.args.locals.now in
    let place = c.args.place in
    let range = c.args.range.now in
    let from : Exp = c.get.result.now in
    let to : Exp = c.get-2.result.now in
    let old = c.args.parts.now in
    let mid = c.push_part.new.parts in
    let far = c.push_part-2.new.parts in
    let new = c.push_steps.new.parts in
    let same : c.push_part.new.locals ≡ names = c.in_ok-push_part.ensures.locals in
    let still : c.push_part-2.new.locals ≡ names = c.in_ok-push_part-2.ensures.locals ∙ same in
    let second : far ≡ mid ++ (elaborated to setting names V.Int).core ∷ [] =
    c.in_ok-push_part-2.ensures.parts ∙ ap (λ (l : Locals). mid ++ (elaborated to setting l V.Int).core ∷ []) same in
    let third : OnOk c.push_steps.result (new ≡ far ++ (by_found place (option_map part (out-Range range).by) setting names).core ∷ []) =
    subst (λ (l : Locals). OnOk c.push_steps.result (new ≡ far ++ (by_found place (option_map part (out-Range range).by) setting l).core ∷ []))
    still c.push_steps.ensures.parts in
    subst (λ (cs : List Core). OnOk c.push_steps.result (new ≡ old ++ cs))
    (sym (range_made range place setting names from to c.get.ensures c.get-2.ensures))
    (three_pushed c.push_steps.result old mid far new (elaborated from setting names V.Int).core (elaborated to setting names V.Int).core
    (by_found place (option_map part (out-Range range).by) setting names).core c.in_ok-push_part.ensures.parts second third)

pub returns-clause-failures : goal.returns-clause-failures
returns-clause-failures g c =
    let setting = setting_of c.args.around.now in
    let names = c.args.locals.now in
    let place = c.args.place in
    let range = c.args.range.now in
    let from : Exp = c.get.result.now in
    let to : Exp = c.get-2.result.now in
    let old = c.args.first.now.error in
    let mid = c.push_part.new.first.error in
    let far = c.push_part-2.new.first.error in
    let new = c.push_steps.new.first.error in
    let same : c.push_part.new.locals ≡ names = c.in_ok-push_part.ensures.locals in
    let still : c.push_part-2.new.locals ≡ names = c.in_ok-push_part-2.ensures.locals ∙ same in
    let second : far ≡ first_failure mid (elaborated to setting names V.Int).faults =
    c.in_ok-push_part-2.ensures.failures ∙ ap (λ (l : Locals). first_failure mid (elaborated to setting l V.Int).faults) same in
    let third : OnOk c.push_steps.result (new ≡ first_failure far (by_found place (option_map part (out-Range range).by) setting names).faults) =
    subst (λ (l : Locals). OnOk c.push_steps.result (new ≡ first_failure far (by_found place (option_map part (out-Range range).by) setting l).faults))
    still c.push_steps.ensures.failures in
    subst (λ (es : List ShapeError). OnOk c.push_steps.result (new ≡ first_failure old es))
    (sym (range_noted range place setting names from to c.get.ensures c.get-2.ensures))
    (three_noted c.push_steps.result old mid far new (elaborated from setting names V.Int).faults
    (elaborated to setting names V.Int).faults (by_found place (option_map part (out-Range range).by) setting names).faults
    c.in_ok-push_part.ensures.failures second third)
