use Rattle.std.proofs.Common.{◌≡◌, ℕ, true, List, Option, None, cond, is_some, refl, sym, ap, ◌∙◌, subst, true≢false, IfOk}
use Rattle.sail_types.specs.Sums.{and_then}
use Rattle.sail_syntax.specs.declared.definitions.Def.{Def}
use Rattle.sail_syntax.specs.declared.definitions.Def.TheVariants as D
use Rattle.sail_core.specs.declared.written.WrittenNumber.{WrittenNumber}
use Rattle.sail_signatures.specs.Signatures.{is_val_of}
use Rattle.shape_models.specs.Models.{Tabled}
use Rattle.shape_models.specs.Sources.{tabled_by}
use Rattle.shape_declarations.specs.Parts.{declared_numbers}
use Rattle.shape_declarations.specs.Signatures.{val_numbers, first_val}
use Rattle.shape_declarations.proofs.Found.{first_given}
use Rattle.shape_declarations.proofs.signatures.val_numbers.Goals as goal

one : (tabled : Tabled) (name : List ℕ) (d : Def) → val_numbers tabled name d ≡ cond (is_val_of name d) (declared_numbers tabled d) None
one tabled name (D.Val place own quantifier from arrow to) = refl
one tabled name d = refl

some : (tabled : Tabled) (name : List ℕ) (d : Def) → is_val_of name d ≡ true → is_some (declared_numbers tabled d) ≡ true
some tabled name (D.Val place own quantifier from arrow to) h = refl
some tabled name d h = absurd (true≢false (sym h))

pub returns : goal.returns
returns c =
    let tabled = tabled_by c.args.source.now in
    let name = c.args.name.now in
    subst (λ (found : Option (List WrittenNumber)). IfOk c.declared_numbers.result (λ (numbers : Option (List WrittenNumber)). numbers ≡ found))
    (ap (λ (d : Option Def). and_then d (declared_numbers tabled)) c.find_val.ensures
    ∙ sym (first_given (is_val_of name) (declared_numbers tabled) (val_numbers tabled name) (first_val tabled name) refl (λ d ds. refl)
    (one tabled name) (some tabled name) c.args.source.now.definitions.now))
    c.declared_numbers.ensures
