use Rattle.std.proofs.Common.{length, sym, ap, ◌∙◌}
use Rattle.sail_base.specs.laws.BitLaws.{length-bits_of}
use Rattle.sail_base.proofs.word.Word.width.Goals as goal

pub returns-clause-value : goal.returns-clause-value
returns-clause-value c = sym (length-bits_of _ _) ∙ ap length c.self.view_is
