use Rattle.std.proofs.Common.{SFits, rules}
use Rattle.std.proofs.lemmas.Int.{to_z-of_z}
use Rattle.std.specs.Int.{w128}
use Rattle.sail_types.specs.Limits.{is_small}
use Rattle.std.proofs.Common.{◌∙◌, ℤ, List, length, sym, ap, ◌&&◌}
use Rattle.lowered_ends.proofs.Known.{no_zero}
use Rattle.lowered_ends.proofs.Lists.{none_of}
use Rattle.lowered_ends.specs.Able.{number_fits}
use Rattle.lowered_steps.specs.Setting.{size_for}
use Rattle.sail_core.specs.declared.tree.Core.{Core}
use Rattle.std.specs.Prelude.{Option, nat_eq}
use Rattle.lowered_ends.proofs.able.is_size.Goals as goal

pub returns-in-Some : goal.returns-in-Some
returns-in-Some c =
    let fits : SFits w128 c.in-Some.number = search rules in c.is_small.ensures ∙ ap (λ z. is_small z) (to_z-of_z w128 c.in-Some.number fits)
    ∙ ap (λ (z : Option ℤ). number_fits z) (sym c.in-Some.is ∙ c.value_of.ensures) ∙ ap (λ (cs : List Core). nat_eq (length cs) 0 &&
    number_fits (size_for c.args.setting.now c.args.size.now)) (sym (none_of c.args.parts.now c.in-empty.len_below))

pub returns-in-None : goal.returns-in-None
returns-in-None c =
    ap (λ (z : Option ℤ). number_fits z) (sym c.in-None.is ∙ c.value_of.ensures) ∙ ap (λ (cs : List Core). nat_eq (length cs) 0 && number_fits (size_for
    c.args.setting.now c.args.size.now)) (sym (none_of c.args.parts.now c.in-empty.len_below))

pub returns-in_default : goal.returns-in_default
returns-in_default c =
    no_zero (length c.args.parts.now) (number_fits (size_for c.args.setting.now c.args.size.now)) c.in_default.len_at_least
