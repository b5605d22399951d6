use Rattle.std.proofs.Common.{◌≡◌, true, false, cond, ◌++◌, List, refl, map, option_map, sym, ap, ◌∙◌}
use Rattle.sail_kinds.specs.declared.scope.Variable.{Variable}
use Rattle.sail_kinds.specs.Scopes.{Within, within, binder, inside_binder}
use Rattle.sail_syntax.specs.declared.types.TyExp.{TyExp}
use Rattle.sail_syntax.specs.declared.types.TyExp.TheVariants as V
use Rattle.shape_rules.specs.Written.{piece, pieces_numbers, piece_numbers_if, numbers_in, is_alias, exponent, exponents_in}
use Rattle.shape_rules.specs.Written.{sizes_if, own_size, side, side_of, typ_in, number_in}
use Rattle.written_types.proofs.BoundNames.{inside}
use Rattle.written_types.proofs.Forms.{named_numbers, prefix_numbers, infix_numbers, one_of_numbers, exists_numbers}
use Rattle.written_types.proofs.Rows.{pushed_more, on_ok, both_pushed}
use Rattle.written_types.proofs.numbers.+numbers.Goals as goal

pub push_each-loop-part-preserved : goal.push_each-loop-part-preserved
push_each-loop-part-preserved t c =
    let w = within c.args.scope.now in
    pushed_more (numbers_in w) (λ ts. pieces_numbers (map piece ts) w) refl (λ x xs. refl)
    c.args.parts.now c.loop-part.part-index c.part-item.result c.args.numbers.now c.loop-part.numbers c.push_numbers.new.numbers
    c.loop-part-test.true c.part-item.is c.loop-part.invariant c.in_ok-push_numbers.ensures

pub push_numbers-returns-in_ok-typ-in-Named : goal.push_numbers-returns-in_ok-typ-in-Named
push_numbers-returns-in_ok-typ-in-Named t c =
    let w = within c.args.scope.now in
    let name = c.in-Named.name in
    let ts = c.in-Named.arguments in
    let old = c.args.numbers.now in
    let alias : is_alias name.text w ≡ true = sym (c.in_ok-is_alias-in-Named.ensures ∙ ap (λ n. is_alias n w) c.as_str.ensures) ∙ c.if-branch.true in
    let inside = exponents_in (pieces_numbers (map piece ts) w) in
    let all : numbers_in w c.args.text.now ≡ inside ++ sizes_if name.place c.in_ok-typ-in-Named.typ =
    ap (numbers_in w) c.in-Named.is ∙ named_numbers name ts w
    ∙ ap (λ b. cond b (inside ++ sizes_if name.place (typ_in w (V.Named name ts)))
    (own_size name.text w (map piece ts) ++ pieces_numbers (map piece ts) w)) alias
    ∙ ap (λ (x : TyExp). inside ++ sizes_if name.place (typ_in w x)) (sym c.in-Named.is)
    ∙ ap (λ found. inside ++ sizes_if name.place found) (sym c.in_ok-typ-in-Named.ensures) in
    let first : c.push_exponents_in.new.numbers ≡ old ++ inside =
    c.in_ok-push_exponents_in-in-Named.ensures ∙ ap (λ (xs : List TyExp). old ++ exponents_in (pieces_numbers (map piece xs) w)) c.as_slice.ensures in
    on_ok c.push_sizes_if.result
    (λ second. both_pushed old _ (sizes_if name.place c.in_ok-typ-in-Named.typ) c.push_exponents_in.new.numbers c.push_sizes_if.new.numbers _ first all second)
    c.push_sizes_if.ensures

pub push_numbers-returns-in_ok-push_own-in-Named : goal.push_numbers-returns-in_ok-push_own-in-Named
push_numbers-returns-in_ok-push_own-in-Named t c =
    let w = within c.args.scope.now in
    let name = c.in-Named.name in
    let ts = c.in-Named.arguments in
    let other : is_alias name.text w ≡ false = sym (c.in_ok-is_alias-in-Named.ensures ∙ ap (λ n. is_alias n w) c.as_str.ensures) ∙ c.if-branch.false in
    let all : numbers_in w c.args.text.now ≡ own_size name.text w (map piece ts) ++ pieces_numbers (map piece ts) w =
    ap (numbers_in w) c.in-Named.is ∙ named_numbers name ts w
    ∙ ap (λ b. cond b (exponents_in (pieces_numbers (map piece ts) w) ++ sizes_if name.place (typ_in w (V.Named name ts)))
    (own_size name.text w (map piece ts) ++ pieces_numbers (map piece ts) w)) other in
    let first : c.push_own.new.numbers ≡ c.args.numbers.now ++ own_size name.text w (map piece ts) =
    c.in_ok-push_own-in-Named.ensures
    ∙ (λ i. c.args.numbers.now ++ own_size (c.as_str-else-branch.ensures i) w (map piece (c.as_slice-else-branch.ensures i))) in
    on_ok c.push_each.result
    (λ second. both_pushed c.args.numbers.now _ (pieces_numbers (map piece ts) w) c.push_own.new.numbers c.push_each.new.numbers _ first all
    (second ∙ ap (λ (xs : List TyExp). c.push_own.new.numbers ++ pieces_numbers (map piece xs) w) c.as_slice-else-branch-2.ensures))
    c.push_each.ensures

pub push_numbers-returns-in_ok-push_exponent-in-Prefix : goal.push_numbers-returns-in_ok-push_exponent-in-Prefix
push_numbers-returns-in_ok-push_exponent-in-Prefix t c =
    let w = within c.args.scope.now in
    let form = c.in-Prefix in
    let old = c.args.numbers.now in
    let all : numbers_in w c.args.text.now ≡ exponent form.prefix form.place (number_in w form.part) ++ numbers_in w form.part =
    ap (numbers_in w) form.is ∙ prefix_numbers form.place form.prefix form.part w in
    let first : c.push_exponent.new.numbers ≡ old ++ exponent form.prefix form.place (number_in w form.part) =
    c.in_ok-push_exponent-in-Prefix.ensures ∙ ap (λ (x : TyExp). old ++ exponent form.prefix form.place (number_in w x)) c.get-part.ensures in
    on_ok c.push_numbers.result
    (λ second. both_pushed old _ (numbers_in w form.part) c.push_exponent.new.numbers c.push_numbers.new.numbers _ first all
    (second ∙ ap (λ (x : TyExp). c.push_exponent.new.numbers ++ numbers_in w x) c.get-part.ensures))
    c.push_numbers.ensures

pub push_operand-returns : goal.push_operand-returns
push_operand-returns t c =
    let w = within c.args.scope.now in
    let text = c.args.part.now in
    on_ok c.push_side_of.result
    (λ second. both_pushed c.args.numbers.now (numbers_in w text) (side_of c.args.operator (piece text) w) c.push_numbers.new.numbers
    c.push_side_of.new.numbers (numbers_in w text ++ side_of c.args.operator (piece text) w) c.in_ok-push_numbers.ensures refl second)
    c.push_side_of.ensures

pub push_numbers-returns-in_ok-push_operand-in-Infix : goal.push_numbers-returns-in_ok-push_operand-in-Infix
push_numbers-returns-in_ok-push_operand-in-Infix t c =
    let w = within c.args.scope.now in
    let form = c.in-Infix in
    let old = c.args.numbers.now in
    let operand = λ (x : TyExp). numbers_in w x ++ side_of form.operator (piece x) w in
    let all : numbers_in w c.args.text.now ≡ operand form.left ++ operand form.right =
    ap (numbers_in w) form.is ∙ infix_numbers form.place form.operator form.left form.right w in
    let first : c.push_operand.new.numbers ≡ old ++ operand form.left =
    c.in_ok-push_operand-in-Infix.ensures ∙ ap (λ (x : TyExp). old ++ operand x) c.get.ensures in
    on_ok c.push_operand-in-Infix.result
    (λ second. both_pushed old _ (operand form.right) c.push_operand.new.numbers c.push_operand-in-Infix.new.numbers _ first all
    (second ∙ ap (λ (x : TyExp). c.push_operand.new.numbers ++ operand x) c.get-in-Infix.ensures))
    c.push_operand-in-Infix.ensures

pub push_numbers-returns-in_ok-push_numbers-in-OneOf : goal.push_numbers-returns-in_ok-push_numbers-in-OneOf
push_numbers-returns-in_ok-push_numbers-in-OneOf t c =
    let w = within c.args.scope.now in
    let form = c.in-OneOf in
    let old = c.args.numbers.now in
    let all : numbers_in w c.args.text.now ≡ numbers_in w form.part ++ side (piece form.part) w =
    ap (numbers_in w) form.is ∙ one_of_numbers form.field-0 form.part form.field-2 w in
    let first : c.push_numbers-in-OneOf.new.numbers ≡ old ++ numbers_in w form.part =
    c.in_ok-push_numbers-in-OneOf.ensures ∙ ap (λ (x : TyExp). old ++ numbers_in w x) c.get-part-in-OneOf.ensures in
    on_ok c.push_side.result
    (λ second. both_pushed old _ (side (piece form.part) w) c.push_numbers-in-OneOf.new.numbers c.push_side.new.numbers _ first all
    (second ∙ ap (λ (x : TyExp). c.push_numbers-in-OneOf.new.numbers ++ side (piece x) w) c.get-part-in-OneOf.ensures))
    c.push_side.ensures

pub push_numbers-returns-in_ok-push_if-in-Exists : goal.push_numbers-returns-in_ok-push_if-in-Exists
push_numbers-returns-in_ok-push_if-in-Exists t c =
    let w = within c.args.scope.now in
    let form = c.in-Exists in
    let old = c.args.numbers.now in
    let v = inside_binder form.variables w in
    let within_is : within c.with_variables-inside.result ≡ v =
    c.with_variables-inside.ensures
    ∙ ap (λ (vs : List Variable). record w { variables = vs })
    (inside c.as_slice-in-Exists.result c.variables.result ∙ (λ i. binder (c.as_slice-in-Exists.ensures i) ++ c.variables.ensures i)) in
    let all : numbers_in w c.args.text.now ≡ piece_numbers_if (option_map piece form.constraint) v ++ numbers_in v form.typ =
    ap (numbers_in w) form.is ∙ exists_numbers form.place form.variables form.constraint form.typ w in
    let first : c.push_if.new.numbers ≡ old ++ piece_numbers_if (option_map piece form.constraint) v =
    c.in_ok-push_if-in-Exists.ensures ∙ ap (λ (x : Within). old ++ piece_numbers_if (option_map piece form.constraint) x) within_is in
    on_ok c.push_numbers-in-Exists.result
    (λ second. both_pushed old _ (numbers_in v form.typ) c.push_if.new.numbers c.push_numbers-in-Exists.new.numbers _ first all
    (second ∙ (λ i. c.push_if.new.numbers ++ numbers_in (within_is i) (c.get-in-Exists.ensures i))))
    c.push_numbers-in-Exists.ensures
