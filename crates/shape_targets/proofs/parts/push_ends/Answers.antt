use Rattle.std.proofs.Common.{◌≡◌, ◌++◌, ◌∷◌, List, [], sym, ap, ◌∙◌, subst, OnOk, option_map, Option, append_assoc}
use Rattle.shape_rules.specs.Around.{setting_of}
use Rattle.shape_rules.specs.Findings.{first_failure, Found}
use Rattle.shape_rules.proofs.Firsts.{first_failure_append}
use Rattle.shape_walks.specs.Trees.{index_part}
use Rattle.sail_core.specs.declared.tree.Core.{Core}
use Rattle.shape_calls.specs.declared.made.Made.{Made}
use Rattle.sail_types.specs.declared.shapes.Shape.TheVariants as V
use Rattle.shape_rules.specs.declared.error.ShapeError.{ShapeError}
use Rattle.shape_rules.specs.Expressions.{part}
use Rattle.shape_rules.specs.Targets.{Part, cores_of, faults_of, IndexPart, index_found}
use Rattle.shape_rules.specs.Values.{ends_found}
use Rattle.shape_targets.proofs.Ways.{first_is, last_is}
use Rattle.sail_syntax.specs.declared.expressions.Index.{out-Index}
use Rattle.shape_targets.proofs.parts.push_ends.Goals as goal

pub returns-clause-cores : goal.returns-clause-cores
returns-clause-cores g c =
    let setting = setting_of c.args.around.now in
    let names = c.args.locals.now in
    let old = c.args.cores.now in
    let index : IndexPart = index_part c.args.index.now in
    let a : Found = index.first.elaborate setting names V.Int in
    let front : (part c.get.result.now).elaborate setting names V.Int ≡ a =
    (λ j. (part (c.get.ensures j)).elaborate setting names V.Int)
    ∙ sym (ap (λ (p : Part). p.elaborate setting names V.Int) (first_is c.args.index.now)) in
    let last : option_map part (out-Index c.args.index.now).last ≡ index.last =
    sym (last_is c.args.index.now) in
    let core : c.in_ok-made.made.core ≡ a.core =
    ap (λ (m : Made). m.core) c.in_ok-made.ensures.made ∙ ap (λ (f : Found). f.core) front in
    let pushed : c.into_shape.new.cores ≡ old ++ a.core ∷ [] =
    c.in_ok-into_shape.ensures.cores ∙ ap (λ (x : Core). old ++ x ∷ []) core in
    let whole : c.into_shape.new.cores ++ cores_of (index_found (option_map part (out-Index c.args.index.now).last) setting c.elaborate.new.locals)
    ≡ old ++ cores_of (ends_found index setting names) =
    (λ j. pushed j ++ cores_of (index_found (last j) setting (c.in_ok-made.ensures.locals j)))
    ∙ append_assoc old (a.core ∷ []) (cores_of (index_found index.last setting names)) in
    subst (λ (o : List Core). OnOk c.push_end.result (c.push_end.new.cores ≡ o)) whole c.push_end.ensures.cores

pub returns-clause-failures : goal.returns-clause-failures
returns-clause-failures g c =
    let setting = setting_of c.args.around.now in
    let names = c.args.locals.now in
    let old = c.args.first.now.error in
    let index : IndexPart = index_part c.args.index.now in
    let a : Found = index.first.elaborate setting names V.Int in
    let front : (part c.get.result.now).elaborate setting names V.Int ≡ a =
    (λ j. (part (c.get.ensures j)).elaborate setting names V.Int)
    ∙ sym (ap (λ (p : Part). p.elaborate setting names V.Int) (first_is c.args.index.now)) in
    let last : option_map part (out-Index c.args.index.now).last ≡ index.last =
    sym (last_is c.args.index.now) in
    let noted : c.elaborate.new.first.error ≡ first_failure old a.faults =
    c.in_ok-made.ensures.failures ∙ ap (λ (f : Found). first_failure old f.faults) front in
    let whole : first_failure c.elaborate.new.first.error
    (faults_of (index_found (option_map part (out-Index c.args.index.now).last) setting c.elaborate.new.locals))
    ≡ first_failure old (faults_of (ends_found index setting names)) =
    (λ j. first_failure (noted j) (faults_of (index_found (last j) setting (c.in_ok-made.ensures.locals j))))
    ∙ sym (first_failure_append old a.faults (faults_of (index_found index.last setting names))) in
    subst (λ (o : Option ShapeError). OnOk c.push_end.result (c.push_end.new.first.error ≡ o)) whole c.push_end.ensures.failures
