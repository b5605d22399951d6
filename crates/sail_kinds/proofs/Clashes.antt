-- Names that stand in one list a second time, found name by name.
use Rattle.std.proofs.Common.{◌≡◌, ℕ, Bool, true, false, not, ◌&&◌, ◌||◌, cond, bytes_eq, List, ◌∷◌, ◌++◌, refl, sym, ap, ◌∙◌, Option, Some, is_some}
use Rattle.std.specs.Borrow.{Bor}
use Rattle.std.specs.HashMap.{HashMap, UpdatesBy, get_by}
use Rattle.std.proofs.lemmas.Map.Text.{hash_map_updates_str}
use Rattle.sail_syntax.specs.declared.name.Name.{Name}
use Rattle.sail_kinds.specs.declared.error.TableError.{TableError}
use Rattle.sail_kinds.specs.Failures.{first_failure}
use Rattle.sail_kinds.specs.Repeated.{clash_where, clashes_behind, is_none_of}
use Rattle.sail_kinds.proofs.Firsts.{first_failure_append}

-- one name more, where the names that stood before it are told by another test
pub clash_noted : (kept : Option TableError) (stood now : List ℕ → Bool) (name : Name) (names : List Name)
    → ((other : List ℕ) → now other ≡ (bytes_eq name.text other || stood other))
    → first_failure (first_failure kept (clash_where (stood name.text) name)) (clashes_behind now names)
    ≡ first_failure kept (clashes_behind stood (name ∷ names))
clash_noted kept stood now name names is =
    ap (λ (test : List ℕ → Bool). first_failure (first_failure kept (clash_where (stood name.text) name)) (clashes_behind test names)) (λ i other. is other i)
    ∙ sym (first_failure_append kept (clash_where (stood name.text) name) (clashes_behind (λ other. bytes_eq name.text other || stood other) names))

none_where : (stood none : Bool) (name : Name) (es : List TableError)
    → (none && is_none_of (clash_where stood name ++ es)) ≡ ((none && not stood) && is_none_of es)
none_where true true name es = refl
none_where true false name es = refl
none_where false true name es = refl
none_where false false name es = refl

pub none_clashed : (none : Bool) (stood now : List ℕ → Bool) (name : Name) (names : List Name)
    → ((other : List ℕ) → now other ≡ (bytes_eq name.text other || stood other))
    → ((none && not (stood name.text)) && is_none_of (clashes_behind now names)) ≡ (none && is_none_of (clashes_behind stood (name ∷ names)))
none_clashed none stood now name names is =
    ap (λ (test : List ℕ → Bool). (none && not (stood name.text)) && is_none_of (clashes_behind test names)) (λ i other. is other i)
    ∙ sym (none_where (stood name.text) none name (clashes_behind (λ other. bytes_eq name.text other || stood other) names))

some_or : (b : Bool) (old : Option Bool) → is_some (cond b (Some true) old) ≡ (b || is_some old)
some_or true old = refl
some_or false old = refl

-- the names of a map once one is put into it
pub stands_after : {S : Type 0} (names now : HashMap (Bor (List ℕ)) Bool S) (name : List ℕ)
    → UpdatesBy (λ x y. bytes_eq x.now y.now) (λ key. bytes_eq name key.now) names now (Some true)
    → (other : List ℕ) → is_some (get_by (λ key. bytes_eq other key.now) now) ≡ (bytes_eq name other || is_some (get_by (λ key. bytes_eq other key.now) names))
stands_after {S} names now name updates other =
    ap is_some (hash_map_updates_str name names now (Some true) updates other)
    ∙ some_or (bytes_eq name other) (get_by (λ key. bytes_eq other key.now) names)
