-- The members of enums, put into a map.
use Rattle.std.proofs.Common.{◌≡◌, ℕ, Bool, true, false, ◌||◌, cond, List, ◌++◌, refl, ap, ◌∙◌, bytes_eq, Option, Some, None}
use Rattle.std.specs.Prelude.{is_some}
use Rattle.std.specs.Borrow.{Bor}
use Rattle.std.specs.HashMap.{HashMap, UpdatesBy, get_by}
use Rattle.std.proofs.lemmas.List.Folds.{list_any-append}
use Rattle.std.proofs.lemmas.Map.Text.{hash_map_updates_str}
use Rattle.sail_syntax.specs.declared.name.Name.{Name}
use Rattle.sail_globals.specs.Bound.{is_among}

-- one of these or of those
pub among_more : (these those : List Name) (name : List ℕ) → is_among (these ++ those) name ≡ (is_among these name || is_among those name)
among_more these those name = list_any-append (λ one. bytes_eq one.text name) these those

found_at : {A : Type 0} (t : Bool) (value : A) (old : Option A) → is_some (cond t (Some value) old) ≡ (is_some old || t)
found_at true value None = refl
found_at true value (Some was) = refl
found_at false value None = refl
found_at false value (Some was) = refl

-- what is found once a name is put into the map
pub found_after : {A S : Type 0} (names now : HashMap (Bor (List ℕ)) A S) (name : List ℕ) (value : A)
    → UpdatesBy (λ x y. bytes_eq x.now y.now) (λ key. bytes_eq name key.now) names now (Some value)
    → (other : List ℕ) → is_some (get_by (λ key. bytes_eq other key.now) now)
    ≡ (is_some (get_by (λ key. bytes_eq other key.now) names) || bytes_eq name other)
found_after {A} {S} names now name value updates other =
    ap is_some (hash_map_updates_str name names now (Some value) updates other)
    ∙ found_at (bytes_eq name other) value (get_by (λ key. bytes_eq other key.now) names)
