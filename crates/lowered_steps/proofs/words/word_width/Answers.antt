use Rattle.std.proofs.Common.{◌≡◌, ◌∙◌, SFits, sym, ap, rules}
use Rattle.std.specs.Int.{w128}
use Rattle.std.specs.Prelude.{Some}
use Rattle.std.proofs.lemmas.Int.{to_z-of_z}
use Rattle.size_values.specs.declared.sized.Sized.{out-Sized}
use Rattle.size_values.specs.declared.sized.Sized.TheVariants as S
use Rattle.size_values.specs.declared.sized.Sized.TheViews.{out-roll-Sized}
use Rattle.size_values.specs.declared.sized.Sized.TheOpen as Z
use Rattle.lowered_pieces.specs.Arms.{width_or, word_width}
use Rattle.lowered_steps.proofs.words.word_width.Goals as goal

pub returns-in-Bits : goal.returns-in-Bits
returns-in-Bits c =
    let n = c.in-Bits.width in
    let fits : SFits w128 n = search rules in
    let opened : out-Sized c.args.typ.now ≡ Z.Bits n = ap out-Sized (c.in-Bits.is ∙ sym (S.rolls-Bits n)) ∙ out-roll-Sized (Z.Bits n) in
    c.width_or.ensures ∙ ap (λ z. width_or (Some z)) (to_z-of_z w128 n fits) ∙ ap word_width (sym opened)
