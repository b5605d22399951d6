use Rattle.std.proofs.Common.{◌≡◌, ◌+◌, ◌++◌, ◌∷◌, List, sym, ap, ◌∙◌, [], subst, IfOk, OnOk, option_map, Option, refl}
use Rattle.shape_rules.specs.Around.{setting_of}
use Rattle.shape_rules.specs.Findings.{first_failure, Found, over, settled}
use Rattle.sail_types.specs.declared.shapes.Shape.{Shape, out-Shape}
use Rattle.shape_walks.specs.Trees.{index_part}
use Rattle.shape_values.proofs.Noted.{on_ok_of}
use Rattle.sail_types.specs.declared.shapes.Shape.TheVariants as V
use Rattle.shape_rules.specs.declared.error.ShapeError.{ShapeError}
use Rattle.shape_rules.specs.Expressions.{part}
use Rattle.shape_rules.specs.Targets.{Part, Led, led_shape, cores_of, faults_of, base_faults, IndexPart, led_index}
use Rattle.shape_calls.specs.Made.{made_of}
use Rattle.shape_calls.specs.declared.made.Made.{Made}
use Rattle.shape_forms.specs.Over.{over_found}
use Rattle.shape_rules.specs.Values.{ends_found, update_kind, updated_shape}
use Rattle.shape_targets.proofs.Ways.{over_is, five_failures}
use Rattle.shape_calls.specs.Ways.{led_of}
use Rattle.shape_targets.proofs.parts.update_found.Goals as goal

pub returns : goal.returns
returns g c =
    let setting = setting_of c.args.around.now in
    let names = c.args.locals.now in
    let want = c.args.want.now in
    let old = c.args.first.now.error in
    let place = c.args.place in
    let base : Part = part c.args.base.now in
    let index : IndexPart = index_part c.args.index.now in
    let value : Part = part c.args.value.now in
    let a : Found = base.elaborate setting names V.Never in
    let way : Option Led = led_index index.last (out-Shape a.shape) in
    let ends : List Found = ends_found index setting names in
    let b : Found = value.elaborate setting names (led_shape way) in
    let shape : Shape = updated_shape index.last (out-Shape a.shape) a.shape b.shape in
    let based : c.in_ok-shape.shape ≡ a.shape = c.in_ok-shape.ensures.shape ∙ ap (λ (m : Made). m.shape) c.in_ok-made.ensures.made in
    let core : c.in_ok-made.made.core ≡ a.core = ap (λ (m : Made). m.core) c.in_ok-made.ensures.made in
    let led : option_map led_of c.in_ok-inside.inside ≡ way =
    c.in_ok-inside.ensures ∙ ap (λ (s : Shape). led_index index.last (out-Shape s)) based in
    let same : c.push_ends.new.locals ≡ names = c.in_ok-push_ends.ensures.locals ∙ c.in_ok-made.ensures.locals in
    let wanted : c.shape_inside-wanted.result ≡ led_shape way = c.shape_inside-wanted.ensures ∙ ap led_shape led in
    let valued : value.elaborate setting c.push_ends.new.locals c.shape_inside-wanted.result ≡ b =
    λ j. value.elaborate setting (same j) (wanted j) in
    let begun : c.into_shape.new.cores ≡ a.core ∷ [] = c.in_ok-shape.ensures.cores ∙ (λ j. c.new-cores.ensures j ++ core j ∷ []) in
    let ended : c.push_ends.new.cores ≡ a.core ∷ cores_of ends =
    c.in_ok-push_ends.ensures.cores ∙ (λ j. begun j ++ cores_of (ends_found index setting (c.in_ok-made.ensures.locals j))) in
    let written : c.in_ok-made-2.made ≡ made_of b = c.in_ok-made-2.ensures.made ∙ ap made_of valued in
    let gave : c.in_ok-found.found ≡ b.shape = c.in_ok-found.ensures.shape ∙ ap (λ (m : Made). m.shape) written in
    let cored : c.into_shape-2.new.cores ≡ a.core ∷ cores_of ends ++ b.core ∷ [] =
    c.in_ok-found.ensures.cores ∙ (λ j. ended j ++ (written j).core ∷ []) in
    let shaped : updated_shape index.last (out-Shape c.in_ok-shape.shape) c.in_ok-shape.shape c.in_ok-found.found ≡ shape =
    λ j. updated_shape index.last (out-Shape (based j)) (based j) (gave j) in
    let x : Found = settled place want shape (λ t. over place (update_kind index.last) (a.core ∷ cores_of ends ++ b.core ∷ [])) in
    let found : over_found place want (updated_shape index.last (out-Shape c.in_ok-shape.shape) c.in_ok-shape.shape c.in_ok-found.found)
    (update_kind index.last) c.into_shape-2.new.cores ≡ x =
    over_is place place want (updated_shape index.last (out-Shape c.in_ok-shape.shape) c.in_ok-shape.shape c.in_ok-found.found) shape
    (update_kind index.last) (update_kind index.last) c.into_shape-2.new.cores (a.core ∷ cores_of ends ++ b.core ∷ []) refl shaped refl cored in
    let unled : List ShapeError = base_faults base.place a.shape way in
    let one : c.note_base.new.first.error ≡ first_failure (first_failure old a.faults) unled =
    c.note_base.ensures ∙ (λ j. first_failure (c.in_ok-made.ensures.failures j) (base_faults (c.place_of.ensures j) (based j) (led j))) in
    let two : c.push_ends.new.first.error ≡ first_failure (first_failure (first_failure old a.faults) unled) (faults_of ends) =
    c.in_ok-push_ends.ensures.failures
    ∙ (λ j. first_failure (one j) (faults_of (ends_found index setting (c.in_ok-made.ensures.locals j)))) in
    let three : c.elaborate-2.new.first.error
    ≡ first_failure (first_failure (first_failure (first_failure old a.faults) unled) (faults_of ends)) b.faults =
    c.in_ok-made-2.ensures.failures ∙ (λ j. first_failure (two j) (valued j).faults) in
    record {
      made = subst (λ (f : Found). IfOk c.finish_update.result (λ made. made ≡ made_of f)) found c.finish_update.ensures.made;
      failures = subst (λ (o : Option ShapeError). OnOk c.finish_update.result (c.finish_update.new.first.error ≡ o))
          ((λ j. first_failure (three j) (found j).faults) ∙ sym (five_failures old a.faults unled (faults_of ends) b.faults x.faults))
          c.finish_update.ensures.failures;
      locals = on_ok_of c.finish_update.result (c.in_ok-made-2.ensures.locals ∙ same);
    }
