use Rattle.std.proofs.Common.{◌≡◌, drop}
use Rattle.std.specs.List.{list_all}
use Rattle.expression_forms.specs.Inside.{is_argument_below}
use Rattle.expression_forms.proofs.inside.are_arguments_below.Given as goal

-- the rest decides
abbrev pub invariant-loop-argument : goal.invariant-loop-argument
invariant-loop-argument l =
    list_all (is_argument_below l.before) (drop l.argument-index l.arguments) ≡ list_all (is_argument_below l.before) l.arguments
