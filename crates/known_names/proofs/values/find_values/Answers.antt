use Rattle.std.proofs.Common.{◌≡◌, ◌+◌, ◌∷◌, [], ◌++◌, take, cond, sym, ap, ◌∙◌, Some, None}
use Rattle.std.specs.Prelude.{find, option_map}
use Rattle.std.specs.Option.{option_or}
use Rattle.std.proofs.lemmas.List.{take_more, take_all}
use Rattle.sail_globals.specs.declared.naming.Space.TheVariants.{Values}
use Rattle.sail_globals.specs.declared.naming.Naming.{Naming}
use Rattle.sail_globals.specs.Clashes.{takes}
use Rattle.sail_names.specs.declared.names.Global.{Global}
use Rattle.known_names.specs.Held.{entered_at}
use Rattle.known_names.specs.Meanings.{builtin_value, global_as, value_of}
use Rattle.known_names.proofs.Growing.{find_more, or_first, or_nothing}
use Rattle.known_names.proofs.values.find_values.Goals as goal

pub loop-naming-init : goal.loop-naming-init
loop-naming-init c = λ name. c.in_ok-values.ensures name ∙ or_nothing (builtin_value name)

pub loop-naming-preserved : goal.loop-naming-preserved
loop-naming-preserved c =
    let namings = c.args.namings.now in
    let index = c.loop-naming.naming-index in
    let naming = c.naming-item.result in
    let earlier = take index namings in
    let enters = entered_at c.args.entered.now.names in
    let grown : take (index + 1) namings ≡ earlier ++ naming ∷ [] =
    take_more namings index naming c.loop-naming-test.true ∙ ap (λ x. earlier ++ x ∷ []) (sym c.naming-item.is) in
    λ name.
    let as_global : Naming → Global = λ one. global_as (enters name) one.role one.definition in
    c.in_ok-put_naming.ensures name
    ∙ ap (λ old. option_or old (cond (takes Values name naming) (Some (as_global naming)) None)) (c.loop-naming.invariant name)
    ∙ sym (or_first (builtin_value name) (option_map as_global (find (takes Values name) earlier))
    (cond (takes Values name naming) (Some (as_global naming)) None))
    ∙ ap (option_or (builtin_value name)) (sym (find_more as_global (takes Values name) earlier naming))
    ∙ ap (λ all. value_of enters all name) (sym grown)

pub returns : goal.returns
returns c =
    λ name. c.loop-naming.invariant name
    ∙ ap (λ all. value_of (entered_at c.args.entered.now.names) all name)
    (take_all c.loop-naming.naming-index c.args.namings.now c.loop-naming-test.false)
