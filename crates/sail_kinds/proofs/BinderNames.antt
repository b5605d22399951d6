-- The variables of an existential type, read name by name.
use Rattle.std.proofs.Common.{◌≡◌, ℕ, ◌+◌, ◌<◌, List, [], ◌∷◌, ◌++◌, length, get_or, take, map, reverse, refl, sym, ap, ◌∙◌, Option, None}
use Rattle.std.proofs.lemmas.List.{take_more, map-append, reverse-append}
use Rattle.std.specs.Borrow.{Bor}
use Rattle.sail_kinds.specs.declared.scope.Binders.{Binders, fold-roll-Binders}
use Rattle.sail_kinds.specs.declared.scope.Binders.TheOpen as B
use Rattle.sail_kinds.specs.declared.scope.Binders.TheVariants as V
use Rattle.sail_syntax.specs.declared.name.Name.{Name}
use Rattle.sail_kinds.specs.declared.scope.Variable.{Variable}
use Rattle.sail_kinds.specs.declared.scope.FoundVariable.{FoundVariable}
use Rattle.sail_kinds.specs.Scopes.{int_variable, binder, seen_behind, seen_behind_all, variable_of, variables_of, binders_step}

-- one name more
pub binder_more : (names : List Name) (i : ℕ) (d : Name) → i < length names
    → binder (take (i + 1) names) ≡ int_variable (get_or names i d).text ∷ binder (take i names)
binder_more names i d h =
    ap (λ (few : List Name). binder few) (take_more names i d h)
    ∙ ap reverse (map-append (λ (name : Name). int_variable name.text) (take i names) (get_or names i d ∷ []))
    ∙ reverse-append (map (λ (name : Name). int_variable name.text) (take i names)) (int_variable (get_or names i d).text ∷ [])

pub seen_more : (name : List ℕ) (names : List Name) (i : ℕ) (d : Name) (outer : Option FoundVariable) → i < length names
    → seen_behind_all name (binder (take (i + 1) names)) outer
    ≡ seen_behind name (int_variable (get_or names i d).text) (seen_behind_all name (binder (take i names)) outer)
seen_more name names i d outer h = ap (λ (vs : List Variable). seen_behind_all name vs outer) (binder_more names i d h)

-- behind those of two lists
pub seen_append : (name : List ℕ) (vs ws : List Variable) (outer : Option FoundVariable)
    → seen_behind_all name (vs ++ ws) outer ≡ seen_behind_all name vs (seen_behind_all name ws outer)
seen_append name [] ws outer = refl
seen_append name (v ∷ vs) ws outer = ap (seen_behind name v) (seen_append name vs ws outer)

pub variable_of_append : (name : List ℕ) (vs ws : List Variable)
    → variable_of name (vs ++ ws) ≡ seen_behind_all name vs (variable_of name ws)
variable_of_append name vs ws = seen_append name vs ws None

-- the variables inside an existential type
pub inside : (names : Bor (List Name)) (outer : Bor Binders) → variables_of (V.Exists names outer) ≡ binder names.now ++ variables_of outer.now
inside names outer = ap variables_of (sym (V.rolls-Exists names outer)) ∙ fold-roll-Binders (List Variable) binders_step (B.Exists names outer)
