use Rattle.std.proofs.Common.{◌≡◌, sym, ap, ◌∙◌, subst, OnOk}
use Rattle.type_definitions.specs.Defined.{Types, held, with_form, union_form, types_with}
use Rattle.type_definitions.proofs.defined.Defined.define.Goals as goal

pub returns-in-Union-clause-types : goal.returns-in-Union-clause-types
returns-in-Union-clause-types c =
    let before = held c.args.self.now in
    let name = c.in-Union.name.text in
    let same : with_form name c.as_slice-in-Union.result.now (union_form before name c.as_slice-in-Union.result.now c.as_slice-in-Union-2.result.now) before
    ≡ types_with before c.args.definition.now =
    (λ i. with_form name (c.as_slice-in-Union.ensures i) (union_form before name (c.as_slice-in-Union.ensures i) (c.as_slice-in-Union-2.ensures i)) before)
    ∙ ap (types_with before) (sym c.in-Union.is) in
    subst (λ (after : Types). OnOk c.define_union.result (held c.define_union.new.self ≡ after)) same c.define_union.ensures.types
