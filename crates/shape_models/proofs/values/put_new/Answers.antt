use Rattle.std.proofs.Common.{◌≡◌, true, false, bytes_eq, sym, ap, ◌∙◌, Some}
use Rattle.std.specs.Prelude.{is_some}
use Rattle.std.specs.HashMap.{get_by_text}
use Rattle.std.proofs.lemmas.Slice.Eq.{bytes_eq-Decides}
use Rattle.shape_models.proofs.Steps.{stays_first, comes_first}
use Rattle.shape_models.proofs.values.put_new.Goals as goal

pub returns-then-is_taken : goal.returns-then-is_taken
returns-then-is_taken c =
    let values = c.args.values.now in
    let own = c.args.name.now in
    let taken : is_some (get_by_text values own) ≡ true = sym c.contains_key-is_taken.ensures ∙ c.if-is_taken.true in
    λ name. stays_first (bytes_eq own name) (get_by_text values name) (Some c.args.meant)
    (λ t. ap (λ key. is_some (get_by_text values key)) (sym ((bytes_eq-Decides own name).0 t)) ∙ taken)

pub returns : goal.returns
returns c =
    let values = c.args.values.now in
    let own = c.args.name.now in
    let free : is_some (get_by_text values own) ≡ false = sym c.contains_key-is_taken.ensures ∙ c.if-is_taken.false in
    λ name. c.in_ok-put.ensures name
    ∙ comes_first (bytes_eq own name) (get_by_text values name) c.args.meant
    (λ t. ap (λ key. is_some (get_by_text values key)) (sym ((bytes_eq-Decides own name).0 t)) ∙ free)
