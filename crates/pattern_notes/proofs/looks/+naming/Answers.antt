use Rattle.std.proofs.Common.{◌≡◌, sym, ap, ◌∙◌, subst, IfOk, List, map}
use Rattle.sail_core.specs.declared.patterns.Pattern.{Pattern}
use Rattle.value_indices.specs.declared.indices.Naming.{Naming, out-Naming}
use Rattle.pattern_notes.specs.Patterns.{look, or_named, as_naming, only_naming}
use Rattle.pattern_leaves.proofs.Rests.{one_of}
use Rattle.pattern_notes.proofs.Looked.{naming_is}
use Rattle.pattern_notes.proofs.looks.+naming.Goals as goal

pub naming_of-returns : goal.naming_of-returns
naming_of-returns t c =
    subst (λ (z : Naming). IfOk c.form_naming.result (λ made. made ≡ z)) (sym (naming_is c.args.pattern.now c.as_slice.result.now c.as_slice.ensures))
    c.form_naming.ensures

pub naming_as-returns-in_ok-naming-in-len1 : goal.naming_as-returns-in_ok-naming-in-len1
naming_as-returns-in_ok-naming-in-len1 t c =
    let name = c.args.name.now in
    let one = one_of c.args.parts.now c.part-item.result c.in-len1.len_at_least c.in-len1.len_below c.part-item.is in
    let same : or_named name c.in_ok-naming-in-len1.naming (out-Naming c.in_ok-naming-in-len1.naming) ≡ as_naming name (map look c.args.parts.now) =
    ap (λ (n : Naming). or_named name n (out-Naming n)) c.in_ok-naming-in-len1.ensures ∙ ap (λ (ps : List Pattern). as_naming name (map look ps)) (sym one) in
    subst (λ (z : Naming). IfOk c.or_named.result (λ made. made ≡ z)) same c.or_named.ensures

pub only_naming-returns-in-len1 : goal.only_naming-returns-in-len1
only_naming-returns-in-len1 t c =
    let one = one_of c.args.parts.now c.part-item.result c.in-len1.len_at_least c.in-len1.len_below c.part-item.is in
    subst (λ (ps : List Pattern). IfOk c.naming_of.result (λ made. made ≡ only_naming (map look ps))) (sym one) c.naming_of.ensures
