use Rattle.std.proofs.Common.{◌≡◌, cond, [], ◌∷◌, ◌++◌, ap, ◌∙◌, bytes_eq, unwrap_or}
use Rattle.sail_tables.specs.Tabled.{positions_at}
use Rattle.sail_tables.proofs.Putting.{positions_after}
use Rattle.sail_tables.proofs.overloads.add_position.Goals as goal

pub returns : goal.returns
returns c =
    let all = c.args.overloads.now in
    let name = c.args.name.now in
    let added : c.push.new.self ≡ positions_at all name ++ c.args.at ∷ [] =
    c.in_ok-push.ensures.pushed ∙ ap (λ xs. xs ++ c.args.at ∷ []) (c.unwrap_or-added.ensures ∙ (λ i. unwrap_or (c.remove.ensures.value i) (c.new.ensures i))) in
    λ other. positions_after all c.remove.new.self c.insert.new.self name c.push.new.self c.remove.ensures.updates c.in_ok-insert.ensures.updates other
    ∙ ap (λ value. cond (bytes_eq name other) value (positions_at all other)) added
