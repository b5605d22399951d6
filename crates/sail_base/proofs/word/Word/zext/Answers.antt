use Rattle.sail_base.proofs.Words.{wider_below, zext_of}
use Rattle.sail_base.proofs.word.Word.zext.Goals as goal

pub invariant_of-result : goal.invariant_of-result
invariant_of-result c =
    record
    { below = wider_below _ _ _ _ c.self.view_is c.requires.wider c.self.invariant.below; small = c.requires.small }

pub returns : goal.returns
returns c = zext_of _ _ _ _ c.self.view_is c.requires.wider c.self.invariant.below
