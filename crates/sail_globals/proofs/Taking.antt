-- What is held of each name follows the roles in which it is taken.
use Rattle.std.proofs.Common.{◌≡◌, ℕ, Bool, true, false, ◌&&◌, cond, List, [], ◌∷◌, ◌++◌, map, filter, refl, sym, ap, ◌∙◌, append-nil, bytes_eq, Option, Some, unwrap_or}
use Rattle.std.specs.Borrow.{Bor}
use Rattle.std.specs.List.{list_all}
use Rattle.std.specs.HashMap.{HashMap, UpdatesBy, get_by}
use Rattle.std.proofs.Math.Bool.{and-true}
use Rattle.std.proofs.lemmas.List.{map-append}
use Rattle.std.proofs.lemmas.List.Folds.{list_all-append}
use Rattle.std.proofs.lemmas.List.Elements.{filter-append}
use Rattle.std.proofs.lemmas.Slice.Eq.{bytes_eq-Decides}
use Rattle.std.proofs.lemmas.Map.Text.{hash_map_updates_str}
use Rattle.sail_globals.specs.declared.naming.Space.{Space}
use Rattle.sail_globals.specs.declared.naming.Space.TheVariants.{Types, Values, Measures}
use Rattle.sail_globals.specs.declared.naming.Role.{Role}
use Rattle.sail_globals.specs.declared.naming.Naming.{Naming}
use Rattle.sail_globals.specs.declared.held.Held.TheVariants.{Often}
use Rattle.sail_globals.specs.declared.held.Spaces.{Spaces}
use Rattle.sail_globals.specs.Clashes.{is_same_space, is_overloaded, is_free, takes, taken}
use Rattle.sail_globals.specs.Held.{held, held_with, admits, in_space, spaces_with, nothing_held, spaces_at, AreHeld}

held_more : (roles : List Role) (role : Role) → held (roles ++ role ∷ []) ≡ held_with (held roles) role
held_more [] role = refl
held_more (one ∷ []) role = ap (λ b. Often (is_overloaded one && b)) (and-true (is_overloaded role))
held_more (one ∷ other ∷ rest) role =
    ap Often (list_all-append is_overloaded (one ∷ other ∷ rest) (role ∷ [])
    ∙ ap (λ b. list_all is_overloaded (one ∷ other ∷ rest) && b) (and-true (is_overloaded role)))

-- what is held says whether a name is free
pub free_when : (roles : List Role) (role : Role) → admits (held roles) role ≡ is_free roles role
free_when [] role = refl
free_when (one ∷ []) role = refl
free_when (one ∷ other ∷ rest) role = refl

in_with : (own space : Space) (both : Spaces) (role : Role)
    → in_space (spaces_with both own role) space ≡ cond (is_same_space own space) (held_with (in_space both space) role) (in_space both space)
in_with Types Types both role = refl
in_with Types Values both role = refl
in_with Values Types both role = refl
in_with Types Measures both role = refl
in_with Values Values both role = refl
in_with Values Measures both role = refl
in_with Measures Types both role = refl
in_with Measures Values both role = refl
in_with Measures Measures both role = refl

pub taken_more : (earlier : List Naming) (naming : Naming) (space : Space) (name : List ℕ)
    → taken (earlier ++ naming ∷ []) space name ≡ taken earlier space name ++ map (λ one. one.role) (filter (takes space name) (naming ∷ []))
taken_more earlier naming space name =
    ap (map (λ one. one.role)) (filter-append (takes space name) earlier (naming ∷ []))
    ∙ map-append (λ one. one.role) (filter (takes space name) earlier) (filter (takes space name) (naming ∷ []))

step_at : (t u : Bool) (was mine : Spaces) (own space : Space) (naming : Naming) (roles : List Role) → (t ≡ true → mine ≡ was)
    → is_same_space own space ≡ u → in_space was space ≡ held roles
    → in_space (cond t (spaces_with mine own naming.role) was) space ≡ held (roles ++ map (λ one. one.role) (cond (u && t) (naming ∷ []) []))
step_at true true was mine own space naming roles same is h =
    in_with own space mine naming.role ∙ ap (λ b. cond b (held_with (in_space mine space) naming.role) (in_space mine space)) is
    ∙ ap (λ both. held_with (in_space both space) naming.role) (same refl)
    ∙ ap (λ all. held_with all naming.role) h ∙ sym (held_more roles naming.role)
step_at true false was mine own space naming roles same is h =
    in_with own space mine naming.role ∙ ap (λ b. cond b (held_with (in_space mine space) naming.role) (in_space mine space)) is
    ∙ ap (λ both. in_space both space) (same refl) ∙ h ∙ ap held (sym (append-nil roles))
step_at false true was mine own space naming roles same is h = h ∙ ap held (sym (append-nil roles))
step_at false false was mine own space naming roles same is h = h ∙ ap held (sym (append-nil roles))

-- one more name is taken
pub one_taken : (earlier : List Naming) (names now : List ℕ → Spaces) (naming : Naming)
    → ((other : List ℕ) → now other ≡ cond (bytes_eq naming.name other) (spaces_with (names naming.name) naming.space naming.role) (names other))
    → AreHeld earlier names → AreHeld (earlier ++ naming ∷ []) now
one_taken earlier names now naming is h =
    λ space name. ap (λ both. in_space both space) (is name)
    ∙ step_at (bytes_eq naming.name name) (is_same_space naming.space space) (names name) (names naming.name) naming.space space naming
    (taken earlier space name) (λ t. ap names ((bytes_eq-Decides naming.name name).0 t)) refl (h space name)
    ∙ ap held (sym (taken_more earlier naming space name))

unwrapped : (t : Bool) (value none : Spaces) (old : Option Spaces) → unwrap_or (cond t (Some value) old) none ≡ cond t value (unwrap_or old none)
unwrapped true value none old = refl
unwrapped false value none old = refl

-- what is held of each name once one is put into the map
pub spaces_after : {S : Type 0} (names now : HashMap (Bor (List ℕ)) Spaces S) (name : List ℕ) (value : Spaces)
    → UpdatesBy (λ x y. bytes_eq x.now y.now) (λ key. bytes_eq name key.now) names now (Some value)
    → (other : List ℕ) → spaces_at now other ≡ cond (bytes_eq name other) value (spaces_at names other)
spaces_after {S} names now name value updates other =
    ap (λ found. unwrap_or found nothing_held) (hash_map_updates_str name names now (Some value) updates other)
    ∙ unwrapped (bytes_eq name other) value nothing_held (get_by (λ key. bytes_eq other key.now) names)
