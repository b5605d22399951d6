use Rattle.std.proofs.Common.{◌≡◌, ◌++◌, ap, ◌∙◌, unwrap_or}
use Rattle.known_names.specs.Held.{entered_at}
use Rattle.known_names.proofs.Changed.{entered_after}
use Rattle.known_names.proofs.entered.Entered.add.Goals as goal

pub returns : goal.returns
returns c =
    let names = c.args.self.now.names in
    let name = c.args.name.now in
    let grown : c.append.new.self ≡ entered_at names name ++ c.args.more =
    c.in_ok-append.ensures.appended
    ∙ ap (λ old. old ++ c.args.more) (c.unwrap_or-entered.ensures ∙ (λ i. unwrap_or (c.remove.ensures.value i) (c.new.ensures i))) in
    entered_after names c.remove.new.self c.insert.new.self name c.append.new.self c.args.more
    c.remove.ensures.updates c.in_ok-insert.ensures.updates grown
