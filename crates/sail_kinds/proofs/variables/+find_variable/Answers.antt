use Rattle.std.proofs.Common.{◌≡◌, ◌++◌, IfOk, sym, ap, ◌∙◌, subst}
use Rattle.sail_kinds.specs.Scopes.{seen_behind_all, binder, variable_of, variables_of}
use Rattle.sail_kinds.proofs.BinderNames.{inside, variable_of_append}
use Rattle.sail_kinds.proofs.variables.+find_variable.Goals as goal

pub returns-in_ok-found-in-Exists : goal.returns-in_ok-found-in-Exists
returns-in_ok-found-in-Exists t c =
    let name = c.args.name.now in
    let names = c.in-Exists.names.now in
    let outer = variables_of c.in-Exists.outer.now in
    let opened : variables_of c.args.variables.now ≡ binder names ++ outer = ap variables_of c.in-Exists.is ∙ inside c.in-Exists.names c.in-Exists.outer in
    let known : c.in_ok-found-in-Exists.found ≡ variable_of name outer = c.in_ok-found-in-Exists.ensures in
    subst (λ y. IfOk c.find_name.result (λ found. found ≡ y))
    (ap (seen_behind_all name (binder names)) known ∙ sym (variable_of_append name (binder names) outer) ∙ ap (variable_of name) (sym opened))
    c.find_name.ensures
