-- Lists of expressions as targets.
use Rattle.std.specs.Prelude.{Bool, true, ◌&&◌, List, [], ◌∷◌, Option, Some, None}
use Rattle.std.specs.Option.{is_some}
use Rattle.sail_syntax.specs.declared.expressions.Exp.{Exp}
use Rattle.sail_syntax.specs.declared.expressions.LExp.{LExp}
use Rattle.sail_grammar.specs.Targets.{target, both_there}

-- all of them as targets, where each is one
abbrev pub all_targets : List Exp → Option (List LExp)
all_targets [] = Some []
all_targets (e ∷ es) = both_there (target e) (all_targets es)

-- each of them is one
abbrev pub each_is_target : List Exp → Bool
each_is_target [] = true
each_is_target (e ∷ es) = is_some (target e) && each_is_target es

-- some of them as targets, where there are any
abbrev pub some_targets : List Exp → Option (List LExp)
some_targets [] = None
some_targets es = all_targets es
