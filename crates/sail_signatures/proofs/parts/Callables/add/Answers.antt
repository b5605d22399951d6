use Rattle.std.proofs.Common.{◌≡◌, cond, bytes_eq, sym, ap, ◌∙◌, Some, None}
use Rattle.std.specs.Option.{option_copied}
use Rattle.sail_signatures.specs.Parts.{callable_name, parts_with, parts_at}
use Rattle.sail_signatures.proofs.Growing.{parts_put, parts_after, other_more}
use Rattle.sail_signatures.proofs.parts.Callables.add.Goals as goal

pub returns-in_ok-insert-in-Some : goal.returns-in_ok-insert-in-Some
returns-in_ok-insert-in-Some c =
    let d = c.args.definition.now in
    let held = c.args.self.now.parts in
    let own = c.in-Some.name.now in
    let named : callable_name d ≡ Some own = sym c.callable_name.ensures ∙ ap option_copied c.in-Some.is in
    let value : c.with.result ≡ parts_with (parts_at held own) c.args.at d = c.with.ensures ∙ ap (λ parts. parts_with parts c.args.at d) c.held-parts.ensures in
    λ text long h. parts_put text d own (parts_at held) (parts_at c.insert.new.self) named
    (λ other. parts_after held c.insert.new.self own c.with.result c.in_ok-insert-in-Some.ensures.updates other
    ∙ (λ i. cond (bytes_eq own other) ((value ∙ ap (λ n. parts_with (parts_at held own) n d) (sym long)) i) (parts_at held other))) h

pub returns-in-None : goal.returns-in-None
returns-in-None c =
    let d = c.args.definition.now in
    let nameless : callable_name d ≡ None = sym c.callable_name.ensures ∙ ap option_copied c.in-None.is in
    λ text long h name. h name ∙ sym (other_more text d name nameless)
