use Rattle.std.proofs.Common.{sym, ap, ◌∙◌, rules, length, ◌-◌, ◌+◌, ◌≡◌}
use Rattle.entail.specs.declared.level.Prefix.{Prefix}
use Rattle.entail.proofs.Prefixes.{kept_last}
use Rattle.entail.proofs.level.last_level.Goals as goal

pub returns-else-is_empty : goal.returns-else-is_empty
returns-else-is_empty c =
    let last : length c.args.prefixes.now - 1 + 1 ≡ length c.args.prefixes.now = search rules in
    ap (λ (p : Prefix). p.level) (sym c.index-prefixes-prefixes.is)
    ∙ kept_last c.args.prefixes.now (length c.args.prefixes.now - 1) c.index-prefixes-prefixes.result last c.index-prefixes-prefixes.is c.requires.each
