use Rattle.std.proofs.Common.{◌≡◌, cond, bytes_eq, ap, ◌∙◌}
use Rattle.sail_globals.specs.Globals.{roles_with, roles_at}
use Rattle.sail_globals.proofs.Roles.{value_taken, roles_after}
use Rattle.sail_globals.proofs.globals.Globals.add.Goals as goal

pub returns-in_ok-insert-in-Values : goal.returns-in_ok-insert-in-Values
returns-in_ok-insert-in-Values c =
    let naming = c.args.naming.now in
    let names = c.args.self.now.names in
    let key = c.as_str-name.ensures in
    let value : c.with.result ≡ roles_with (roles_at names naming.name) naming.role =
    c.with.ensures ∙ ap (λ roles. roles_with roles naming.role) (c.roles-roles.ensures ∙ ap (roles_at names) key) in
    λ earlier h. value_taken earlier (roles_at names) (roles_at c.insert.new.self) naming c.in-Values.is
    (λ other. roles_after names c.insert.new.self c.as_str-name.result.now c.with.result c.in_ok-insert-in-Values.ensures.updates other
    ∙ (λ i. cond (bytes_eq (key i) other) (value i) (roles_at names other))) h
