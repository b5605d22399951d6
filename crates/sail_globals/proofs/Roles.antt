-- What a map holds of each name of a value follows the roles in which it is taken.
use Rattle.std.proofs.Common.{◌≡◌, ℕ, Bool, true, false, ◌&&◌, ◌||◌, cond, List, [], ◌∷◌, ◌++◌, map, refl, sym, ap, ◌∙◌, append-nil, bytes_eq, Option, Some, unwrap_or}
use Rattle.std.specs.Borrow.{Bor}
use Rattle.std.specs.List.{list_any}
use Rattle.std.specs.Option.{option_or}
use Rattle.std.specs.HashMap.{HashMap, UpdatesBy, get_by}
use Rattle.std.proofs.Math.Bool.{or-false}
use Rattle.std.proofs.lemmas.List.Folds.{list_any-append}
use Rattle.std.proofs.lemmas.Slice.Eq.{bytes_eq-Decides}
use Rattle.std.proofs.lemmas.Map.Text.{hash_map_updates_str}
use Rattle.sail_globals.specs.declared.naming.Space.TheVariants.{Values}
use Rattle.sail_globals.specs.declared.naming.Called.TheVariants.{Function, Mapping}
use Rattle.sail_globals.specs.declared.naming.Role.{Role}
use Rattle.sail_globals.specs.declared.naming.Naming.{Naming}
use Rattle.sail_globals.specs.declared.globals.Roles.{Roles}
use Rattle.sail_globals.specs.Clashes.{is_same_space, taken}
use Rattle.sail_globals.specs.Globals.{first_role, is_val, is_body, roles_of, roles_with, roles_at, AreRoles}
use Rattle.sail_globals.proofs.Taking.{taken_more}

any_more : (p : Role → Bool) (roles : List Role) (role : Role) → list_any p (roles ++ role ∷ []) ≡ (list_any p roles || p role)
any_more p roles role = list_any-append p roles (role ∷ []) ∙ ap (λ b. list_any p roles || b) (or-false (p role))

first_more : (roles : List Role) (role : Role) → first_role (roles ++ role ∷ []) ≡ option_or (first_role roles) (Some role)
first_more [] role = refl
first_more (one ∷ rest) role = refl

roles_more : (roles : List Role) (role : Role) → roles_of (roles ++ role ∷ []) ≡ roles_with (roles_of roles) role
roles_more roles role = λ i. record {
  first = first_more roles role i;
  function_val = any_more (is_val Function) roles role i;
  function_body = any_more (is_body Function) roles role i;
  mapping_val = any_more (is_val Mapping) roles role i;
  mapping_body = any_more (is_body Mapping) roles role i;
}

step_at : (t : Bool) (was mine : Roles) (naming : Naming) (roles : List Role) → (t ≡ true → mine ≡ was) → was ≡ roles_of roles
    → cond t (roles_with mine naming.role) was ≡ roles_of (roles ++ map (λ one. one.role) (cond t (naming ∷ []) []))
step_at true was mine naming roles same h =
    ap (λ held. roles_with held naming.role) (same refl ∙ h) ∙ sym (roles_more roles naming.role)
step_at false was mine naming roles same h = h ∙ ap roles_of (sym (append-nil roles))

-- one more name of a value is taken
pub value_taken : (earlier : List Naming) (names now : List ℕ → Roles) (naming : Naming) → naming.space ≡ Values
    → ((other : List ℕ) → now other ≡ cond (bytes_eq naming.name other) (roles_with (names naming.name) naming.role) (names other))
    → AreRoles earlier names → AreRoles (earlier ++ naming ∷ []) now
value_taken earlier names now naming space is h =
    λ name. is name
    ∙ step_at (bytes_eq naming.name name) (names name) (names naming.name) naming (taken earlier Values name)
    (λ t. ap names ((bytes_eq-Decides naming.name name).0 t)) (h name)
    ∙ ap (λ own. roles_of (taken earlier Values name ++ map (λ one. one.role) (cond (is_same_space own Values && bytes_eq naming.name name) (naming ∷ []) []))) (sym space)
    ∙ ap roles_of (sym (taken_more earlier naming Values name))

unwrapped : (t : Bool) (value none : Roles) (old : Option Roles) → unwrap_or (cond t (Some value) old) none ≡ cond t value (unwrap_or old none)
unwrapped true value none old = refl
unwrapped false value none old = refl

-- the roles of each name once those of one are put into the map
pub roles_after : {S : Type 0} (names now : HashMap (Bor (List ℕ)) Roles S) (name : List ℕ) (value : Roles)
    → UpdatesBy (λ x y. bytes_eq x.now y.now) (λ key. bytes_eq name key.now) names now (Some value)
    → (other : List ℕ) → roles_at now other ≡ cond (bytes_eq name other) value (roles_at names other)
roles_after {S} names now name value updates other =
    ap (λ found. unwrap_or found (roles_of [])) (hash_map_updates_str name names now (Some value) updates other)
    ∙ unwrapped (bytes_eq name other) value (roles_of []) (get_by (λ key. bytes_eq other key.now) names)
