use Rattle.std.proofs.Common.{◌≡◌, ℕ, List, refl, sym, ap, ◌∙◌, inl, inr}
use Rattle.sail_globals.specs.declared.naming.Called.{Called}
use Rattle.sail_globals.specs.declared.naming.Called.TheVariants.{Function, Mapping, Direction}
use Rattle.sail_globals.specs.declared.naming.Role.TheVariants.{Declared, Defined}
use Rattle.known_names.specs.Meanings.{global_as}
use Rattle.known_names.proofs.values.named_as.Goals as goal

pub returns-in-Whole : goal.returns-in-Whole
returns-in-Whole c =
    c.named_alone.ensures c.args.entered.now ∙ ap (λ role. global_as c.args.entered.now role c.args.number) (sym c.in-Whole.is)

defined_as : (entered : List ℕ) (called : Called) (number : ℕ) → global_as entered (Declared called) number ≡ global_as entered (Defined called) number
defined_as entered Function number = refl
defined_as entered Mapping number = refl
defined_as entered Direction number = refl

pub returns-in-Declared : goal.returns-in-Declared
returns-in-Declared c =
    let entered = c.args.entered.now in
    let number = c.args.number in
    elim c.in-Declared.is [
      | inl is ↦ c.called_as.ensures entered ∙ ap (λ role. global_as entered role number) (sym is)
      | inr is ↦ c.called_as.ensures entered ∙ defined_as entered c.in-Declared.called number ∙ ap (λ role. global_as entered role number) (sym is)
    ]
