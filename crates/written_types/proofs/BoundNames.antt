-- The innermost variable of a name among those that `{'n, ..}` binds is what the name is, whatever is around.
use Rattle.std.proofs.Common.{◌≡◌, ℕ, ◌+◌, ◌<◌, suc, Bool, true, false, cond, List, [], ◌∷◌, ◌++◌, length, get_or, take, map, reverse, refl, sym, ap, ◌∙◌, arith}
use Rattle.std.proofs.Common.{Option, Some, None, bytes_eq, IsSome, subst}
use Rattle.std.specs.Prelude.{option_map}
use Rattle.std.specs.Borrow.{Bor}
use Rattle.std.proofs.lemmas.List.{take_more, map-append, reverse-append, append_assoc}
use Rattle.std.specs.Cmp.Lexicographic.{nat_list_eq_equiv}
use Rattle.sail_syntax.specs.declared.name.Name.{Name}
use Rattle.sail_types.specs.declared.types.Typ.{Typ}
use Rattle.sail_kinds.specs.declared.scope.Variable.{Variable}
use Rattle.sail_kinds.specs.declared.scope.FoundVariable.{FoundVariable}
use Rattle.sail_kinds.specs.declared.scope.Binders.{Binders, fold-roll-Binders}
use Rattle.sail_kinds.specs.declared.scope.Binders.TheOpen as O
use Rattle.sail_kinds.specs.declared.scope.Binders.TheVariants as B
use Rattle.sail_kinds.specs.Scopes.{Within, binders_step, variables_of, int_variable, binder, inside_binder, seen_past, seen_behind, seen_behind_all, variable_of}
use Rattle.shape_rules.specs.Written.{joined, is_told, told_if, untold}
use Rattle.written_types.specs.Parts.{int_found, untold_one, untold_among}

-- ---- one name more

binder_more : (names : List Name) (i : ℕ) (d : Name) → i < length names
    → binder (take (i + 1) names) ≡ int_variable (get_or names i d).text ∷ binder (take i names)
binder_more names i d h =
    ap (λ (few : List Name). binder few) (take_more names i d h)
    ∙ ap reverse (map-append (λ (name : Name). int_variable name.text) (take i names) (get_or names i d ∷ []))
    ∙ reverse-append (map (λ (name : Name). int_variable name.text) (take i names)) (int_variable (get_or names i d).text ∷ [])

pub seen_more : (name : List ℕ) (names : List Name) (i : ℕ) (d : Name) → i < length names
    → variable_of name (binder (take (i + 1) names)) ≡ seen_behind name (int_variable (get_or names i d).text) (variable_of name (binder (take i names)))
seen_more name names i d h = ap (λ (vs : List Variable). variable_of name vs) (binder_more names i d h)

-- the number of a variable seen from inside one more
pub one_further : (number : Option ℕ) → option_map int_found (option_map suc number) ≡ option_map (seen_past (int_variable []).kind) (option_map int_found number)
one_further None = refl
one_further (Some n) = grind arith

-- the variables inside an existential type
pub inside : (names : Bor (List Name)) (outer : Bor Binders) → variables_of (B.Exists names outer) ≡ binder names.now ++ variables_of outer.now
inside names outer = ap variables_of (sym (B.rolls-Exists names outer)) ∙ fold-roll-Binders (List Variable) binders_step (O.Exists names outer)

-- ---- what is around doesn't matter

seen_append : (name : List ℕ) (vs ws : List Variable) (outer : Option FoundVariable)
    → seen_behind_all name (vs ++ ws) outer ≡ seen_behind_all name vs (seen_behind_all name ws outer)
seen_append name [] ws outer = refl
seen_append name (v ∷ vs) ws outer = ap (seen_behind name v) (seen_append name vs ws outer)

found_at : (t : Bool) (here : FoundVariable) (past : FoundVariable → FoundVariable) (near far : Option FoundVariable)
    → (IsSome near → far ≡ near) → IsSome (cond t (Some here) (option_map past near))
    → cond t (Some here) (option_map past far) ≡ cond t (Some here) (option_map past near)
found_at true here past near far same h = refl
found_at false here past None far same h = absurd cc
found_at false here past (Some found) far same h = ap (option_map past) (same refl)

found_before : (name : List ℕ) (vs : List Variable) (outer : Option FoundVariable) → IsSome (seen_behind_all name vs None)
    → seen_behind_all name vs outer ≡ seen_behind_all name vs None
found_before name [] outer h = absurd cc
found_before name (v ∷ vs) outer h =
    found_at (bytes_eq v.name name) (record { kind = v.kind; number = 0 }) (seen_past v.kind) (seen_behind_all name vs None) (seen_behind_all name vs outer)
    (found_before name vs outer) h

-- ---- each name that is bound is found

there : (t : Bool) (here : FoundVariable) (past : FoundVariable → FoundVariable) (outer : Option FoundVariable)
    → (t ≡ false → IsSome outer) → IsSome (cond t (Some here) (option_map past outer))
there true here past outer h = refl
there false here past None h = absurd (grind (arith, h refl))
there false here past (Some found) h = refl

seen_some : (name : List ℕ) (vs : List Variable) (outer : Option FoundVariable) → IsSome outer → IsSome (seen_behind_all name vs outer)
seen_some name [] outer h = h
seen_some name (v ∷ vs) outer h =
    there (bytes_eq v.name name) (record { kind = v.kind; number = 0 }) (seen_past v.kind) (seen_behind_all name vs outer)
    (λ other. seen_some name vs outer h)

variable : Name → Variable
variable name = int_variable name.text

binder_at : (front : List Name) (n : Name) (ns : List Name) → binder (front ++ n ∷ ns) ≡ binder ns ++ (int_variable n.text ∷ binder front)
unfolding variable
binder_at front n ns =
    ap reverse (map-append variable front (n ∷ ns))
    ∙ reverse-append (map variable front) (variable n ∷ map variable ns)
    ∙ ap (λ (vs : List Variable). vs ++ binder front) (reverse-append (variable n ∷ []) (map variable ns))
    ∙ append_assoc (binder ns) (variable n ∷ []) (binder front)

here : (t : Bool) (found : FoundVariable) (outer : Option FoundVariable) → t ≡ true → IsSome (cond t (Some found) outer)
here true found outer h = refl
here false found outer h = absurd cc

bound_found : (front : List Name) (n : Name) (ns : List Name) → IsSome (variable_of n.text (binder (front ++ n ∷ ns)))
bound_found front n ns =
    subst IsSome (sym (ap (λ (vs : List Variable). variable_of n.text vs) (binder_at front n ns)
    ∙ seen_append n.text (binder ns) (int_variable n.text ∷ binder front) None))
    (seen_some n.text (binder ns) (seen_behind_all n.text (int_variable n.text ∷ binder front) None)
    (here (bytes_eq n.text n.text) _ _ (nat_list_eq_equiv.refl n.text)))

told_alone : (bound : List Name) (w : Within) (t : Option Typ) (n : Name) → IsSome (variable_of n.text (binder bound))
    → untold n (is_told (inside_binder bound w) t n) ≡ untold_one bound t n
told_alone bound w t n h =
    ap (λ found. untold n (told_if t found))
    (seen_append n.text (binder bound) w.variables None
    ∙ found_before n.text (binder bound) (variable_of n.text w.variables) h)

alone_at : (front rest bound : List Name) → bound ≡ front ++ rest → (w : Within) (t : Option Typ)
    → joined (map (λ name. untold name (is_told (inside_binder bound w) t name)) rest) ≡ untold_among bound t rest
alone_at front [] bound is w t = refl
alone_at front (n ∷ ns) bound is w t =
    let found : IsSome (variable_of n.text (binder bound)) = subst (λ all. IsSome (variable_of n.text (binder all))) (sym is) (bound_found front n ns) in
    let one = told_alone bound w t n found in
    let rest = alone_at (front ++ n ∷ []) ns bound (is ∙ sym (append_assoc front (n ∷ []) ns)) w t in
    λ i. one i ++ rest i

-- so those that are bound get their numbers whatever is around
pub bound_alone : (bound : List Name) (w : Within) (t : Option Typ)
    → joined (map (λ name. untold name (is_told (inside_binder bound w) t name)) bound) ≡ untold_among bound t bound
bound_alone bound w t = alone_at [] bound bound refl w t
