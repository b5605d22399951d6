use Rattle.std.proofs.Common.{◌≡◌, cond, bytes_eq, sym, ap, ◌∙◌, Some, None}
use Rattle.std.proofs.lemmas.Map.Text.{hash_map_updates_str}
use Rattle.known_names.specs.Held.{taking_at}
use Rattle.known_names.proofs.Putting.{first_put, first_kept}
use Rattle.known_names.proofs.firsts.Firsts.add_value.Goals as goal

pub returns-in_ok-insert-in-None : goal.returns-in_ok-insert-in-None
returns-in_ok-insert-in-None c =
    let naming = c.args.naming.now in
    let names = c.args.self.now.names in
    let key = c.as_str-name.ensures in
    let free : taking_at names naming.name ≡ None = ap (taking_at names) (sym key) ∙ sym c.held.ensures ∙ c.in-None.is in
    λ earlier h. first_put earlier (taking_at names) (taking_at c.insert.new.self) naming c.requires free
    (λ other. hash_map_updates_str c.as_str-name.result.now names c.insert.new.self _ c.in_ok-insert-in-None.ensures.updates other
    ∙ (λ i. cond (bytes_eq (key i) other) (Some (record { role = naming.role; number = naming.definition })) (taking_at names other))) h

pub returns-in-Some : goal.returns-in-Some
returns-in-Some c =
    let naming = c.args.naming.now in
    let names = c.args.self.now.names in
    λ earlier h. first_kept earlier (taking_at names) naming c.in-Some.field-0 c.requires
    (ap (taking_at names) (sym c.as_str-name.ensures) ∙ sym c.held.ensures ∙ c.in-Some.is) h
