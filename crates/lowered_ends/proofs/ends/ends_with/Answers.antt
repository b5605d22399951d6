use Rattle.std.proofs.Common.{◌∙◌, sym, ap}
use Rattle.lowered_pieces.specs.Mapped.{ends_with}
use Rattle.size_values.specs.declared.sized.Sized.{Sized}
use Rattle.std.specs.Option.{option_copied}
use Rattle.std.specs.Prelude.{Option}
use Rattle.lowered_ends.proofs.ends.ends_with.Goals as goal

pub returns-in-Some : goal.returns-in-Some
returns-in-Some c =
    c.same_sized.ensures ∙ ap (λ (o : Option Sized). ends_with c.args.typ.now o) (sym (ap option_copied c.in-Some.is) ∙ c.fixed_end.ensures)

pub returns-in-None : goal.returns-in-None
returns-in-None c =
    ap (λ (o : Option Sized). ends_with c.args.typ.now o) (sym (ap option_copied c.in-None.is) ∙ c.fixed_end.ensures)
