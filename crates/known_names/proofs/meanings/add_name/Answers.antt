use Rattle.std.proofs.Common.{◌||◌, bytes_eq, string_bytes, ap, ◌∙◌}
use Rattle.std.specs.HashSet.{contains_text}
use Rattle.std.proofs.lemmas.Map.Text.{hash_set_updates_text}
use Rattle.known_names.proofs.Changed.{in_after}
use Rattle.known_names.proofs.meanings.add_name.Goals as goal

pub returns : goal.returns
returns c =
    let key = string_bytes c.in_ok-from_str.field-0 in
    let names = c.args.names.now in
    λ other. hash_set_updates_text key names c.insert.new.self _ c.in_ok-insert.ensures.updates other
    ∙ in_after (bytes_eq key other) (contains_text names other)
    ∙ ap (λ bytes. contains_text names other || bytes_eq bytes other) c.in_ok-from_str.ensures.ok
