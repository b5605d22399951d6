use Rattle.std.proofs.Common.{◌≡◌, ap, ◌∙◌, Bool, List, [], ◌∷◌, ◌++◌, Option, None, is_some}
use Rattle.sail_types.specs.Shapes.{put, at}
use Rattle.sail_types.specs.declared.shapes.Shape.{Shape}
use Rattle.sail_types.specs.declared.shapes.Shape.TheVariants as V
use Rattle.sail_core.specs.declared.patterns.Literal.TheVariants as L
use Rattle.sail_core.specs.declared.tree.Core.{Core}
use Rattle.sail_core.specs.declared.tree.Kind.TheVariants as K
use Rattle.shape_joins.specs.Learning.{learn}
use Rattle.shape_rules.specs.declared.error.ShapeError.{ShapeError}
use Rattle.shape_rules.specs.Findings.{Found, leaf, settled, first_failure}
use Rattle.shape_rules.specs.Calls.{known_or, taught}
use Rattle.shape_calls.specs.Made.{made_of, taught_by}
use Rattle.shape_calls.specs.declared.made.Made.{Made}
use Rattle.shape_walks.specs.Heads.{unit_at_param}
use Rattle.shape_walks.proofs.Called.{called_made, called_noted}
use Rattle.shape_walks.proofs.Taught.{both_taught}
use Rattle.shape_walks.proofs.heads.one_on_param.Goals as goal

pub returns-clause-made : goal.returns-clause-made
returns-clause-made c =
    let known = c.args.known in
    let param = c.args.param.now in
    let unit : Found = unit_at_param c.args.place known param in
    let wanted : c.in_ok-wanted.wanted ≡ put (at known) param =
    c.in_ok-wanted.ensures ∙ ap (λ (ks : List Shape). put (at ks) param) c.as_slice.ensures in
    let made : c.in_ok-made.made ≡ made_of unit =
    c.in_ok-made.ensures.made
    ∙ ap (λ (w : Shape). made_of (settled c.args.place w V.Unit (λ s. leaf c.args.place (K.Constant L.Unit)))) wanted in
    called_made c.call_found.result c.args.place c.args.want.now c.args.callee.now c.as_slice-2.result.now
    (known_or known (learn param unit.shape known)) c.into_shape.new.cores (unit.core ∷ [])
    (c.as_slice-2.ensures ∙ c.in_ok-learnt.ensures.known ∙ ap (λ (m : Made). known_or known (learn param m.shape known)) made)
    (c.in_ok-into_shape.ensures.cores ∙ ap (λ (cs : List Core). cs ++ c.in_ok-made.made.core ∷ []) c.new-cores.ensures
    ∙ ap (λ (m : Made). m.core ∷ []) made)
    c.call_found.ensures.made

pub returns-clause-failures : goal.returns-clause-failures
returns-clause-failures c =
    let known = c.args.known in
    let param = c.args.param.now in
    let before = c.args.first.now.error in
    let unit : Found = unit_at_param c.args.place known param in
    let wanted : c.in_ok-wanted.wanted ≡ put (at known) param =
    c.in_ok-wanted.ensures ∙ ap (λ (ks : List Shape). put (at ks) param) c.as_slice.ensures in
    let found = λ (w : Shape). settled c.args.place w V.Unit (λ s. leaf c.args.place (K.Constant L.Unit)) in
    let made : c.in_ok-made.made ≡ made_of unit = c.in_ok-made.ensures.made ∙ ap (λ (w : Shape). made_of (found w)) wanted in
    let apart = c.unit_found.new.first.error in
    let alone : apart ≡ first_failure None unit.faults =
    c.in_ok-made.ensures.failures ∙ (λ i. first_failure (c.none-apart.ensures i) (found (wanted i)).faults) in
    let noted : c.known_behind.new.first.error ≡ first_failure before (unit.faults ++ taught (put (at known) param) unit (learn param unit.shape known)) =
    c.in_ok-learnt.ensures.failures
    ∙ (λ i. first_failure (c.note_apart.ensures i)
    (taught_by (put (at known) param) (made i) (c.is_some-is_noted.ensures i) (learn param (made i).shape known)))
    ∙ both_taught (put (at known) param) unit (learn param unit.shape known) before apart alone in
    called_noted c.call_found.result c.args.place c.args.want.now c.args.callee.now c.as_slice-2.result.now
    (known_or known (learn param unit.shape known)) c.into_shape.new.cores (unit.core ∷ [])
    before c.known_behind.new.first.error c.call_found.new.first.error
    (unit.faults ++ taught (put (at known) param) unit (learn param unit.shape known))
    (c.as_slice-2.ensures ∙ c.in_ok-learnt.ensures.known ∙ ap (λ (m : Made). known_or known (learn param m.shape known)) made)
    (c.in_ok-into_shape.ensures.cores ∙ ap (λ (cs : List Core). cs ++ c.in_ok-made.made.core ∷ []) c.new-cores.ensures
    ∙ ap (λ (m : Made). m.core ∷ []) made)
    noted c.call_found.ensures.failures
