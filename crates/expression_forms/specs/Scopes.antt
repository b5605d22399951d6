-- The names in scope, the newest first, as the code holds them.
use Rattle.std.specs.Prelude.{List, [], ◌∷◌, ◌++◌}
use Rattle.pattern_leaves.specs.Settings as settings
use Rattle.expression_forms.specs.declared.scopes.Scope.{Empty, Groups', Inside', Scope}

-- of groups of names, those of the last group first
abbrev pub newest : List settings.Scope → settings.Scope
newest [] = []
newest (g ∷ gs) = newest gs ++ g

abbrev pub scope_of : Scope → settings.Scope
scope_of Empty = []
scope_of (Inside' found p outer) = found.now ++ scope_of outer
scope_of (Groups' groups p outer) = newest groups.now ++ scope_of outer
