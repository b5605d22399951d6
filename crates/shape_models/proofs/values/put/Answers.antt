use Rattle.std.proofs.Common.{cond, bytes_eq, string_bytes, ap, ◌∙◌, Some}
use Rattle.std.specs.HashMap.{get_by_text}
use Rattle.std.proofs.lemmas.Map.Text.{hash_map_updates_text}
use Rattle.shape_models.proofs.values.put.Goals as goal

pub returns : goal.returns
returns c =
    let key = string_bytes c.in_ok-from_str.field-0 in
    let values = c.args.values.now in
    λ other. hash_map_updates_text key values c.insert.new.self _ c.in_ok-insert.ensures.updates other
    ∙ ap (λ bytes. cond (bytes_eq bytes other) (Some c.args.meant) (get_by_text values other)) c.in_ok-from_str.ensures.ok
