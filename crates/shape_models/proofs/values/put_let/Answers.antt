use Rattle.std.proofs.Common.{◌≡◌, true, false, cond, bytes_eq, sym, ap, ◌∙◌, Some}
use Rattle.std.specs.HashMap.{get_by_text}
use Rattle.std.proofs.lemmas.Slice.Eq.{bytes_eq-Decides}
use Rattle.shape_rules.specs.declared.callees.Meant.TheVariants as M
use Rattle.shape_models.specs.Held.{has_own}
use Rattle.shape_models.proofs.Steps.{own_stays, let_comes}
use Rattle.shape_models.proofs.values.put_let.Goals as goal

pub returns-then-is_taken : goal.returns-then-is_taken
returns-then-is_taken c =
    let values = c.args.values.now in
    let own = c.args.local.now.name in
    let taken : has_own (get_by_text values own) ≡ true =
    ap (λ key. has_own (get_by_text values key)) (sym c.as_str-name.ensures) ∙ ap has_own (sym c.get.ensures.value)
    ∙ sym c.is_own-is_taken.ensures ∙ c.if-is_taken.true in
    λ name. own_stays (bytes_eq own name) (get_by_text values name) (M.Let c.args.place c.args.local.now.shape)
    (λ t. ap (λ key. has_own (get_by_text values key)) (sym ((bytes_eq-Decides own name).0 t)) ∙ taken)

pub returns : goal.returns
returns c =
    let values = c.args.values.now in
    let own = c.args.local.now.name in
    let free : has_own (get_by_text values own) ≡ false =
    ap (λ key. has_own (get_by_text values key)) (sym c.as_str-name.ensures) ∙ ap has_own (sym c.get.ensures.value)
    ∙ sym c.is_own-is_taken.ensures ∙ c.if-is_taken.false in
    λ name. c.in_ok-put.ensures name
    ∙ (λ i. cond (bytes_eq (c.as_str-name.ensures i) name) (Some (M.Let c.args.place (c.in_ok-shape.ensures i))) (get_by_text values name))
    ∙ let_comes (bytes_eq own name) (get_by_text values name) (M.Let c.args.place c.args.local.now.shape)
    (λ t. ap (λ key. has_own (get_by_text values key)) (sym ((bytes_eq-Decides own name).0 t)) ∙ free)
