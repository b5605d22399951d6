use Rattle.std.proofs.Common.{◌≡◌, ◌∙◌, ap, sym, Some, None}
use Rattle.std.specs.Prelude.{option_map}
use Rattle.sail_types.specs.Readings.{read_con}
use Rattle.sail_types.specs.declared.types.Typ.TheVariants as W
use Rattle.type_arguments.specs.Applied.{inside_indices, inside_types, applied_typ}
use Rattle.type_arguments.proofs.Parts.{applied_exists}
use Rattle.type_arguments.proofs.application.+applied_typ.Goals as goal

pub applied_typ-returns-in_default-6 : goal.applied_typ-returns-in_default-6
applied_typ-returns-in_default-6 t c =
    let is = c.args.indices.now in
    let ts = c.args.types.now in
    let inside : inside_indices is ≡ Some c.in-Some-12.indices = cc (c.in_ok-indices-in-Exists.ensures, c.in-Some-12.is) in
    let others : inside_types ts ≡ Some c.in-Some-13.types = cc (c.in_ok-types-in-Exists.ensures, c.in-Some-13.is) in
    let con : read_con c.in-Some-12.indices c.in-Exists.con ≡ None = cc (c.in_ok-con-in-Exists.ensures, c.in_default-6.is, c.as_slice-in-Exists.ensures) in
    sym (ap (applied_typ is ts) c.in-Exists.is
    ∙ applied_exists is ts c.in-Exists.name c.in-Exists.con c.in-Exists.part c.in-Some-12.indices c.in-Some-13.types None inside others con)

pub applied_typ-returns : goal.applied_typ-returns
applied_typ-returns t c =
    let is = c.args.indices.now in
    let ts = c.args.types.now in
    let inside : inside_indices is ≡ Some c.in-Some-12.indices = cc (c.in_ok-indices-in-Exists.ensures, c.in-Some-12.is) in
    let others : inside_types ts ≡ Some c.in-Some-13.types = cc (c.in_ok-types-in-Exists.ensures, c.in-Some-13.is) in
    let con : read_con c.in-Some-12.indices c.in-Exists.con ≡ Some c.in-Some-14.con =
    cc (c.in_ok-con-in-Exists.ensures, c.in-Some-14.is, c.as_slice-in-Exists.ensures) in
    let inner : applied_typ c.in-Some-12.indices c.in-Some-13.types c.in-Exists.part ≡ Some c.in-Some-15.part =
    cc (c.in_ok-applied_typ-in-Exists.ensures, c.in-Some-15.is, c.as_slice-in-Exists-2.ensures, c.as_slice-in-Exists-3.ensures, c.get-in-Exists.ensures) in
    let part : c.in_ok-new-in-Some-15.field-0 ≡ c.in-Some-15.part = c.in_ok-new-in-Some-15.ensures in
    let name : c.in_ok-name-in-Some-15.name ≡ c.in-Exists.name = c.in_ok-name-in-Some-15.ensures in
    sym (ap (applied_typ is ts) c.in-Exists.is
    ∙ applied_exists is ts c.in-Exists.name c.in-Exists.con c.in-Exists.part c.in-Some-12.indices c.in-Some-13.types (Some c.in-Some-14.con) inside others con
    ∙ ap (λ o. option_map (W.Exists c.in-Exists.name c.in-Some-14.con) o) inner
    ∙ (λ i. Some (W.Exists (sym name i) c.in-Some-14.con (sym part i))))
