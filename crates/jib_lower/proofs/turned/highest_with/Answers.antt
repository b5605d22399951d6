use Rattle.std.proofs.Common.{◌∙◌, ◌∷◌, ◌/◌, ap}
use Rattle.std.specs.Prelude.{slice_get}
use Rattle.jib_lower.specs.Crossings.{higher, highest_at, highest_of}
use Rattle.jib_lower.proofs.turned.highest_with.Goals as goal

pub returns : goal.returns
returns c =
    let ns = c.args.numbers.now in let xs = c.as_slice-instances.result.now in let ms = c.as_slice-mappings.result.now in
    c.higher.ensures ∙ ap (λ n. higher n c.highest_of-rest.result) c.highest_at-own.ensures
    ∙ ap (higher (highest_at ns xs (slice_get ms (c.args.direction / 2)))) c.highest_of-rest.ensures
    ∙ ap (λ ys. highest_of ns ys ms (c.args.direction ∷ c.args.others.now)) c.as_slice-instances.ensures
    ∙ ap (λ ys. highest_of ns c.args.sized.now.instances ys (c.args.direction ∷ c.args.others.now)) c.as_slice-mappings.ensures
