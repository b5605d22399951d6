use Rattle.std.proofs.Common.{◌≡◌, ◌||◌, not, if◌then◌else◌, cond, [], ◌∷◌, bytes_eq, ap, ◌∙◌}
use Rattle.sail_kinds.specs.declared.error.TableError.TheVariants as error
use Rattle.sail_kinds.specs.Failures.{first_failure}
use Rattle.sail_globals.specs.Clashes.{is_builtin, is_free, taken}
use Rattle.sail_globals.specs.Held.{admits, in_space, spaces_with, spaces_at}
use Rattle.sail_globals.proofs.Taking.{free_when, one_taken, spaces_after}
use Rattle.sail_globals.proofs.clashes.Taken.read.Goals as goal

pub returns-clause-failures : goal.returns-clause-failures
returns-clause-failures c =
    let naming = c.args.naming.now in
    let names = c.args.self.now.names in
    let both : c.of-both.result ≡ spaces_at names naming.name = c.of-both.ensures ∙ ap (spaces_at names) c.as_str-name.ensures in
    λ earlier h.
    let free : c.admits-admits.result ≡ is_free (taken earlier naming.space naming.name) naming.role =
    c.admits-admits.ensures ∙ ap (λ b. admits (in_space b naming.space) naming.role) both
    ∙ ap (λ x. admits x naming.role) (h naming.space naming.name) ∙ free_when (taken earlier naming.space naming.name) naming.role in
    c.in_ok-note_taken.ensures
    ∙ ap (λ b. first_failure c.args.first.now.error
    (if is_builtin naming.space naming.name || not b then error.Clash naming.place naming.name ∷ [] else [])) free

pub returns-clause-held : goal.returns-clause-held
returns-clause-held c =
    let naming = c.args.naming.now in
    let names = c.args.self.now.names in
    let key = c.as_str-name.ensures in
    let value : c.with.result ≡ spaces_with (spaces_at names naming.name) naming.space naming.role =
    c.with.ensures ∙ ap (λ b. spaces_with b naming.space naming.role) (c.of-both.ensures ∙ ap (spaces_at names) key) in
    λ earlier h. one_taken earlier (spaces_at names) (spaces_at c.insert.new.self) naming
    (λ other. spaces_after names c.insert.new.self c.as_str-name.result.now c.with.result c.in_ok-insert.ensures.updates other
    ∙ (λ i. cond (bytes_eq (key i) other) (value i) (spaces_at names other))) h
