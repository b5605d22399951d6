use Rattle.std.proofs.Common.{◌≡◌, ◌++◌, map, sym, ap, ◌∙◌, Some}
use Rattle.sail_syntax.specs.Places.{type_place}
use Rattle.sail_syntax.specs.declared.types.TyExp.{TyExp}
use Rattle.sail_kinds.specs.Scopes.{within}
use Rattle.shape_rules.specs.Written.{piece, own_role, own_size, sized, sized_if, number_in}
use Rattle.written_types.proofs.Forms.{own_size_at}
use Rattle.written_types.proofs.Rows.{on_ok}
use Rattle.written_types.proofs.numbers.push_own.Goals as goal

pub returns : goal.returns
returns c =
    let w = within c.args.scope.now in
    let name = c.args.name.now in
    let ts = c.args.arguments.now in
    let argument = c.argument-item.result in
    let role : own_role name ≡ Some c.in-Some.role = sym c.own_role.ensures ∙ c.in-Some.is in
    let size : own_size name w (map piece ts) ≡ sized c.in-Some.role c.place.result c.in_ok-number.number =
    own_size_at name w ts argument c.in-len1-up.len_at_least
    ∙ ap (λ (x : TyExp). sized_if (own_role name) (type_place x) (number_in w x)) (sym c.argument-item.is)
    ∙ (λ i. sized_if (role i) (sym c.place.ensures i) (sym c.in_ok-number.ensures i)) in
    on_ok c.push_sized.result (λ pushed. pushed ∙ ap (λ l. c.args.numbers.now ++ l) (sym size)) c.push_sized.ensures
