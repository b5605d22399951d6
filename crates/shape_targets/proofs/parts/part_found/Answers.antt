use Rattle.std.proofs.Common.{◌≡◌, ◌+◌, ◌++◌, ◌∷◌, List, map, sym, ap, ◌∙◌, [], subst, IfOk, OnOk, Option}
use Rattle.shape_rules.specs.Around.{setting_of}
use Rattle.shape_rules.specs.Findings.{first_failure, Found, over, settled}
use Rattle.shape_walks.specs.Trees.{suffix_part}
use Rattle.sail_types.specs.declared.shapes.Shape.TheVariants as V
use Rattle.shape_rules.specs.declared.error.ShapeError.{ShapeError}
use Rattle.shape_rules.specs.Expressions.{part}
use Rattle.shape_rules.specs.Targets.{Part, Walked, SuffixPart, walked}
use Rattle.shape_calls.specs.Made.{made_of}
use Rattle.sail_core.specs.declared.tree.Kind.TheVariants as K
use Rattle.shape_calls.specs.declared.made.Made.{Made}
use Rattle.shape_forms.specs.Over.{over_found}
use Rattle.shape_rules.specs.Values.{last_place}
use Rattle.shape_targets.proofs.Ways.{over_is, three_failures}
use Rattle.shape_targets.proofs.parts.part_found.Goals as goal

pub returns-clause-made : goal.returns-clause-made
returns-clause-made g c =
    let setting = setting_of c.args.around.now in
    let names = c.args.locals.now in
    let want = c.args.want.now in
    let old = c.args.first.now.error in
    let base : Part = part c.args.base.now in
    let suffixes : List SuffixPart = map suffix_part c.args.suffixes.now in
    let a : Found = base.elaborate setting names V.Never in
    let ways : Walked = walked suffixes setting names c.args.place base.place a.shape in
    let based : c.in_ok-shape.shape ≡ a.shape = c.in_ok-shape.ensures.shape ∙ ap (λ (m : Made). m.shape) c.in_ok-made.ensures.made in
    let core : c.in_ok-made.made.core ≡ a.core = ap (λ (m : Made). m.core) c.in_ok-made.ensures.made in
    let walk : walked suffixes setting c.elaborate.new.locals c.args.place c.place_of.result c.in_ok-shape.shape ≡ ways =
    λ j. walked suffixes setting (c.in_ok-made.ensures.locals j) c.args.place (c.place_of.ensures j) (based j) in
    let shaped : c.in_ok-shape-2.shape ≡ ways.shape = c.in_ok-shape-2.ensures.shape ∙ ap (λ (w : Walked). w.shape) walk in
    let stepped : c.walked.new.steps ≡ ways.suffixes = c.in_ok-shape-2.ensures.steps ∙ (λ j. c.new-steps.ensures j ++ (walk j).suffixes) in
    let begun : c.into_shape.new.cores ≡ a.core ∷ [] = c.in_ok-shape.ensures.cores ∙ (λ j. c.new-parts.ensures j ++ core j ∷ []) in
    let cored : c.walked.new.cores ≡ a.core ∷ ways.parts = c.in_ok-shape-2.ensures.cores ∙ (λ j. begun j ++ (walk j).parts) in
    let last = last_place c.args.place suffixes in
    let x : Found = settled last want ways.shape (λ t. over last (K.Part ways.suffixes) (a.core ∷ ways.parts)) in
    let found : over_found c.last_place-last.result want c.in_ok-shape-2.shape (K.Part c.walked.new.steps) c.walked.new.cores ≡ x =
    over_is c.last_place-last.result last want c.in_ok-shape-2.shape ways.shape (K.Part c.walked.new.steps) (K.Part ways.suffixes)
    c.walked.new.cores (a.core ∷ ways.parts) c.last_place-last.ensures shaped (λ j. K.Part (stepped j)) cored in
    subst (λ (f : Found). IfOk c.settle_over.result (λ made. made ≡ made_of f)) found c.settle_over.ensures.made

pub returns-clause-failures : goal.returns-clause-failures
returns-clause-failures g c =
    let setting = setting_of c.args.around.now in
    let names = c.args.locals.now in
    let want = c.args.want.now in
    let old = c.args.first.now.error in
    let base : Part = part c.args.base.now in
    let suffixes : List SuffixPart = map suffix_part c.args.suffixes.now in
    let a : Found = base.elaborate setting names V.Never in
    let ways : Walked = walked suffixes setting names c.args.place base.place a.shape in
    let based : c.in_ok-shape.shape ≡ a.shape = c.in_ok-shape.ensures.shape ∙ ap (λ (m : Made). m.shape) c.in_ok-made.ensures.made in
    let core : c.in_ok-made.made.core ≡ a.core = ap (λ (m : Made). m.core) c.in_ok-made.ensures.made in
    let walk : walked suffixes setting c.elaborate.new.locals c.args.place c.place_of.result c.in_ok-shape.shape ≡ ways =
    λ j. walked suffixes setting (c.in_ok-made.ensures.locals j) c.args.place (c.place_of.ensures j) (based j) in
    let shaped : c.in_ok-shape-2.shape ≡ ways.shape = c.in_ok-shape-2.ensures.shape ∙ ap (λ (w : Walked). w.shape) walk in
    let stepped : c.walked.new.steps ≡ ways.suffixes = c.in_ok-shape-2.ensures.steps ∙ (λ j. c.new-steps.ensures j ++ (walk j).suffixes) in
    let begun : c.into_shape.new.cores ≡ a.core ∷ [] = c.in_ok-shape.ensures.cores ∙ (λ j. c.new-parts.ensures j ++ core j ∷ []) in
    let cored : c.walked.new.cores ≡ a.core ∷ ways.parts = c.in_ok-shape-2.ensures.cores ∙ (λ j. begun j ++ (walk j).parts) in
    let last = last_place c.args.place suffixes in
    let x : Found = settled last want ways.shape (λ t. over last (K.Part ways.suffixes) (a.core ∷ ways.parts)) in
    let found : over_found c.last_place-last.result want c.in_ok-shape-2.shape (K.Part c.walked.new.steps) c.walked.new.cores ≡ x =
    over_is c.last_place-last.result last want c.in_ok-shape-2.shape ways.shape (K.Part c.walked.new.steps) (K.Part ways.suffixes)
    c.walked.new.cores (a.core ∷ ways.parts) c.last_place-last.ensures shaped (λ j. K.Part (stepped j)) cored in
    let noted : c.walked.new.first.error ≡ first_failure (first_failure old a.faults) ways.faults =
    c.in_ok-shape-2.ensures.failures ∙ (λ j. first_failure (c.in_ok-made.ensures.failures j) (walk j).faults) in
    subst (λ (o : Option ShapeError). OnOk c.settle_over.result (c.settle_over.new.first.error ≡ o))
    ((λ j. first_failure (noted j) (found j).faults) ∙ sym (three_failures old a.faults ways.faults x.faults))
    c.settle_over.ensures.failures
