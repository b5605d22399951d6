use Rattle.std.proofs.Common.{◌≡◌, ◌||◌, ◌+◌, ◌∷◌, drop, bytes_eq, sym, ap, ◌∙◌}
use Rattle.std.proofs.Math.Bool.{or_assoc}
use Rattle.std.proofs.lemmas.List.{drop_more}
use Rattle.sail_globals.specs.Bound.{is_among}
use Rattle.sail_globals.specs.Held.{has_member}
use Rattle.sail_globals.proofs.Among.{found_after}
use Rattle.sail_globals.proofs.members.Members.add_all.Goals as goal

pub loop-name-preserved : goal.loop-name-preserved
loop-name-preserved c =
    let names = c.args.names.now in
    let index = c.loop-name.name-index in
    let name = c.name-item.result in
    let was = c.loop-name.self in
    let rest = drop (index + 1) names in
    let next : drop index names ≡ name ∷ rest = drop_more names index name c.loop-name-test.true ∙ ap (λ x. x ∷ rest) (sym c.name-item.is) in
    λ other. ap (λ t. t || is_among rest other)
    (found_after was.names c.insert.new.self c.as_str.result.now tt c.in_ok-insert.ensures.updates other
    ∙ ap (λ key. has_member was other || bytes_eq key other) c.as_str.ensures)
    ∙ or_assoc (has_member was other) (bytes_eq name.text other) (is_among rest other)
    ∙ ap (λ left. has_member was other || is_among left other) (sym next) ∙ c.loop-name.invariant other
