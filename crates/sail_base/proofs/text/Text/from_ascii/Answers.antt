use Rattle.std.proofs.Common.{rules}
use Rattle.std.proofs.lemmas.Str.{IsUtf8-from_ascii}
use Rattle.sail_base.proofs.text.Text.from_ascii.Goals as goal

-- src/text.rt:46:13
pub unwrap-text-requires : goal.unwrap-text-requires
unwrap-text-requires c = search (IsUtf8-from_ascii _ c.requires, rules)
