use Rattle.std.proofs.Common.{◌≡◌, true, false, cond, bytes_eq, sym, ap, ◌∙◌, Some}
use Rattle.std.specs.Prelude.{is_some}
use Rattle.std.specs.HashMap.{get_by_text}
use Rattle.std.proofs.lemmas.Slice.Eq.{bytes_eq-Decides}
use Rattle.sail_types.specs.Rows.{row_name}
use Rattle.known_names.specs.Meanings.{builtin_row}
use Rattle.known_names.proofs.Growing.{stays_first, comes_first}
use Rattle.known_names.proofs.values.put_row.Goals as goal

pub returns-then-is_taken : goal.returns-then-is_taken
returns-then-is_taken c =
    let values = c.args.values.now in
    let own = row_name c.args.row in
    let taken : is_some (get_by_text values own) ≡ true =
    ap (λ key. is_some (get_by_text values key)) (sym c.row_name-name.ensures) ∙ sym c.contains_key-is_taken.ensures ∙ c.if-is_taken.true in
    λ name. stays_first (bytes_eq own name) (get_by_text values name) (Some (builtin_row c.args.row))
    (λ t. ap (λ key. is_some (get_by_text values key)) (sym ((bytes_eq-Decides own name).0 t)) ∙ taken)

pub returns : goal.returns
returns c =
    let values = c.args.values.now in
    let own = row_name c.args.row in
    let free : is_some (get_by_text values own) ≡ false =
    ap (λ key. is_some (get_by_text values key)) (sym c.row_name-name.ensures) ∙ sym c.contains_key-is_taken.ensures ∙ c.if-is_taken.false in
    λ name. c.in_ok-put.ensures name
    ∙ (λ i. cond (bytes_eq (c.row_name-name.ensures i) name) (Some (c.named_row.ensures i)) (get_by_text values name))
    ∙ comes_first (bytes_eq own name) (get_by_text values name) (builtin_row c.args.row)
    (λ t. ap (λ key. is_some (get_by_text values key)) (sym ((bytes_eq-Decides own name).0 t)) ∙ free)
