-- What a name of a value means to shapes is what it means to the tables, where no name clashes.
use Rattle.std.proofs.Common.{◌≡◌, ℕ, List, [], ◌∷◌, ◌++◌, map, filter, refl, sym, ap, ◌∙◌, subst, Bool, true, false, not, ◌||◌, cond, if◌then◌else◌}
use Rattle.std.proofs.Common.{Option, Some, None, ◌⊎◌, inl, inr}
use Rattle.std.proofs.lemmas.Bool.{and_parts, or_parts}
use Rattle.std.specs.Prelude.{is_some}
use Rattle.std.specs.List.{list_any}
use Rattle.std.specs.Str.{bytes_eq}
use Rattle.sail_types.specs.Rows.{row_named}
use Rattle.sail_types.specs.declared.shapes.Shape.{Shape}
use Rattle.sail_kinds.specs.declared.error.TableError.{TableError}
use Rattle.sail_kinds.specs.declared.error.TableError.TheVariants as error
use Rattle.sail_globals.specs.declared.naming.Alone.TheVariants as is
use Rattle.sail_globals.specs.declared.naming.Called.TheVariants.{Direction, Function, Mapping}
use Rattle.sail_globals.specs.declared.naming.Naming.{Naming}
use Rattle.sail_globals.specs.declared.naming.Role.{Role}
use Rattle.sail_globals.specs.declared.naming.Role.TheVariants.{Declared, Defined, Overloaded, Whole}
use Rattle.sail_globals.specs.declared.naming.Space.TheVariants.{Values}
use Rattle.sail_globals.specs.Clashes.{builtin_constructors, clash, clashes_behind, has, is_builtin, is_free, is_same_space, taken, takes}
use Rattle.sail_globals.specs.Globals.{is_body}
use Rattle.sail_names.specs.declared.names.Global.{Global}
use Rattle.sail_names.specs.declared.names.Global.TheVariants as G
use Rattle.known_names.specs.Meanings.{naming_of}
use Rattle.sail_core.specs.declared.tree.Callee.TheVariants as C
use Rattle.shape_joins.proofs.JoinsLeast.{none, some_same}
use Rattle.shape_joins.proofs.Order.{no}
use Rattle.shape_rules.specs.declared.callees.Candidate.{Candidate}
use Rattle.shape_rules.specs.declared.callees.Doing.{Doing}
use Rattle.shape_rules.specs.declared.callees.Doing.TheVariants as Does
use Rattle.shape_rules.specs.declared.callees.Mapping.{Mapping as AMapping}
use Rattle.shape_rules.specs.declared.callees.Meant.{Meant}
use Rattle.shape_rules.specs.declared.callees.Meant.TheVariants as M
use Rattle.shape_models.specs.declared.entries.Entry.{Entry}
use Rattle.shape_models.specs.Models.{Own, Tabled, meant_in}
use Rattle.shape_meanings.specs.Naming.{is_constructor, is_conversion, is_function}
use Rattle.shape_meanings.proofs.Settling.{same_name}
use Rattle.known_texts.proofs.Entries.{CalleeIs, EntriesAre, MeantIs, is_register_role}
use Rattle.known_texts.proofs.Failures.{apart}
use Rattle.known_texts.proofs.Roles.{IsTaken, are_free, same_space}
use Rattle.known_texts.proofs.TableRows.{is_constructor_role, is_member_role}
use Rattle.known_texts.proofs.Classes.{FirstIs, alike, class, first_taken, found_of, roles}
use Rattle.known_texts.proofs.There.{DeclaresAs, Declares, EachDeclares, EachThere, IsThere, There}

-- ---- what is found of a name by what it means to the tables

abbrev pub OwnIs : Global → Option Meant → Type 0
OwnIs G.Register o = (r : ℕ) × (s : Shape) × (o ≡ Some (M.Register r s))
OwnIs G.Member o = (i : ℕ) × (k : ℕ) × (o ≡ Some (M.Member i k))
OwnIs G.Constructor o = (f : Candidate) × (o ≡ Some (M.Callee f)) × (is_constructor f.doing ≡ true)
OwnIs (G.Function n) o = (f : Candidate) × (o ≡ Some (M.Callee f)) × (is_function f.doing ≡ true)
OwnIs (G.Direction n) o = (f : Candidate) × (o ≡ Some (M.Callee f)) × (is_conversion f.doing ≡ true)
OwnIs (G.Mapping n) o = (m : AMapping) × (o ≡ Some (M.Mapping m))
OwnIs g o = o ≡ None

abbrev pub is_let_role : Role → Bool
is_let_role (Whole is.Let) = true
is_let_role role = false

register_own : (role : Role) (r : ℕ) (s : Shape) → is_register_role role ≡ true → OwnIs (class role) (Some (M.Register r s))
register_own (Whole is.Register) r s h = (r, s, refl)
register_own role r s h = no h

member_own : (role : Role) (i k : ℕ) → is_member_role role ≡ true → OwnIs (class role) (Some (M.Member i k))
member_own (Whole is.Member) i k h = (i, k, refl)
member_own role i k h = no h

mapping_own : (role : Role) (m : AMapping) → is_body Mapping role ≡ true → OwnIs (class role) (Some (M.Mapping m))
mapping_own (Defined Mapping) m h = (m, refl)
mapping_own (Defined Function) m h = no h
mapping_own (Defined Direction) m h = no h
mapping_own (Declared called) m h = no h
mapping_own Overloaded m h = no h
mapping_own (Whole is.Mapping) m h = (m, refl)
mapping_own (Whole what) m h = no h

function_own : (role : Role) (f : Candidate) → is_function f.doing ≡ true → is_body Function role ≡ true → OwnIs (class role) (Some (M.Callee f))
function_own (Defined Function) f does h = (f, refl, does)
function_own (Defined Mapping) f does h = no h
function_own (Defined Direction) f does h = no h
function_own (Declared called) f does h = no h
function_own Overloaded f does h = no h
function_own (Whole what) f does h = no h

direction_own : (role : Role) (f : Candidate) → is_conversion f.doing ≡ true → is_body Direction role ≡ true → OwnIs (class role) (Some (M.Callee f))
direction_own (Defined Direction) f does h = (f, refl, does)
direction_own (Defined Function) f does h = no h
direction_own (Defined Mapping) f does h = no h
direction_own (Declared called) f does h = no h
direction_own Overloaded f does h = no h
direction_own (Whole is.Direction) f does h = (f, refl, does)
direction_own (Whole what) f does h = no h

constructor_own : (role : Role) (f : Candidate) → is_constructor f.doing ≡ true → is_constructor_role role ≡ true → OwnIs (class role) (Some (M.Callee f))
constructor_own (Whole is.Constructor) f does h = (f, refl, does)
constructor_own role f does h = no h

-- ---- a name that is taken is none of those before the text

not_builtin : (b c : Bool) (e : TableError) → cond (b || c) (e ∷ []) [] ≡ [] → b ≡ false
not_builtin true c e h = absurd (cc)
not_builtin false c e h = refl

module _ (name : List ℕ) (test : Role → Bool) where
  abbrev passes : List Naming → Bool
  passes fs = list_any test (map (λ one. one.role) fs)

  new_step : (b : Bool) (n : Naming) (fs : List Naming) (old : Bool) → (b ≡ true → old ≡ false) → (passes fs ≡ true → old ≡ false)
      → passes (cond b (n ∷ fs) fs) ≡ true → old ≡ false
  new_step true n fs old here next h = here refl
  new_step false n fs old here next h = next h

  new_here : (earlier : List Naming) (n : Naming) → clash earlier n ≡ [] → takes Values name n ≡ true → is_builtin Values name ≡ false
  new_here earlier n clear takes_it =
      let k = and_parts (is_same_space n.space Values) (bytes_eq n.name name) takes_it in
      let new : is_builtin n.space n.name ≡ false =
      not_builtin (is_builtin n.space n.name) (not (is_free (taken earlier n.space n.name) n.role)) (error.Clash n.place n.name) clear in
      (λ i. is_builtin (sym (same_space n.space k.0) i) (sym (same_name n.name name k.1) i)) ∙ new

  pub new_name : (earlier ns : List Naming) → clashes_behind earlier ns ≡ [] → IsTaken ns name test → is_builtin Values name ≡ false
  new_name earlier [] clear h = no h
  new_name earlier (n ∷ ns) clear h =
      let k = apart (clash earlier n) (clashes_behind (earlier ++ n ∷ []) ns) clear in
      new_step (takes Values name n) n (filter (takes Values name) ns) (is_builtin Values name) (λ e. new_here earlier n k.0 e)
      (λ e. new_name (earlier ++ n ∷ []) ns k.1 e) h

abbrev any_role : Role → Bool
any_role r = true

some_role : (rs : List Role) (r : Role) (rest : List Role) → rs ≡ r ∷ rest → list_any any_role rs ≡ true
some_role [] r rest e = absurd (cc)
some_role (s ∷ rs) r rest e = refl

-- ---- names of a text without clashes

module _ (tabled : Tabled) (all : List Naming) (clear : clashes_behind [] all ≡ []) (free : (name : List ℕ) → are_free [] (taken all Values name) ≡ true)
    (es : List Entry) (are : EntriesAre tabled all es) (there : EachThere tabled (meant_in es) all) (declares : EachDeclares tabled (meant_in es) all) where
  abbrev own : Own
  own = meant_in es

  if_is : (b : Bool) (e : Entry) (later : Option Meant) (name : List ℕ) (m : Meant) → (b ≡ true → e.name ≡ name) → MeantIs tabled all e.name e.meant
      → (later ≡ Some m → MeantIs tabled all name m) → (if b then Some e.meant else later) ≡ Some m → MeantIs tabled all name m
  if_is true e later name m same its next k =
      subst (λ x. MeantIs tabled all name x) (some_same e.meant m k) (subst (λ x. MeantIs tabled all x e.meant) (same refl) its)
  if_is false e later name m same its next k = next k

  entry_is : (xs : List Entry) → EntriesAre tabled all xs → (name : List ℕ) (m : Meant) → meant_in xs name ≡ Some m → MeantIs tabled all name m
  entry_is [] h name m e = none e
  entry_is (x ∷ xs) h name m e =
      if_is (bytes_eq x.name name) x (meant_in xs name) name m (λ k. same_name x.name name k) h.0 (λ k. entry_is xs h.1 name m k) e

  pub own_meant : (name : List ℕ) (m : Meant) → own name ≡ Some m → MeantIs tabled all name m
  own_meant name m e = entry_is es are name m e

  -- a name that means something among the definitions is taken, or is `Some` or `None`
  abbrev IsNew : List ℕ → Type 0
  IsNew name = (is_builtin Values name ≡ false) ⊎ (has builtin_constructors name ≡ true)

  callee_new : (name : List ℕ) (doing : Doing) (params : List Shape) → CalleeIs tabled all name doing params → IsNew name
  callee_new name (Does.Calls (C.Function n)) params h = inl (new_name name (is_body Function) [] all clear h.0)
  callee_new name (Does.Calls (C.Converts n)) params h = inl (new_name name (is_body Direction) [] all clear h)
  callee_new name (Does.Calls (C.Constructor u k)) params h =
      elim h [ inl e ↦ inl (new_name name is_constructor_role [] all clear e) | inr e ↦ inr e ]
  callee_new name doing params h = absurd h

  meant_new : (name : List ℕ) (m : Meant) → MeantIs tabled all name m → IsNew name
  meant_new name (M.Register r s) h = inl (new_name name is_register_role [] all clear h)
  meant_new name (M.Member i k) h = inl (new_name name is_member_role [] all clear h)
  meant_new name (M.Mapping m) h = inl (new_name name (is_body Mapping) [] all clear h)
  meant_new name (M.Callee f) h = callee_new name f.doing f.params h
  meant_new name m h = absurd h

  module _ (name : List ℕ) where
    -- of builtins that are no constructor nothing is there
    pub none_own : is_builtin Values name ≡ true → has builtin_constructors name ≡ false → own name ≡ None
    none_own old new = by_own (own name) refl
      where
        by_own : (o : Option Meant) → own name ≡ o → o ≡ None
        by_own None e = refl
        by_own (Some m) e = elim (meant_new name m (own_meant name m e)) [
          | inl k ↦ no (sym k ∙ old)
          | inr k ↦ no (sym new ∙ k)
        ]

    module _ (n : Naming) (rest : List Role) (roles_are : taken all Values name ≡ n.role ∷ rest) (first : naming_of all name ≡ Some n)
        (its : takes Values name n ≡ true) where
      pub unbuilt : is_builtin Values name ≡ false
      unbuilt = new_name name any_role [] all clear (some_role (taken all Values name) n.role rest roles_are)

      by_class : (o : Option Meant) (test : Role → Bool) → IsTaken all name test → ((s : Role) → test s ≡ true → OwnIs (class s) o) → OwnIs (class n.role) o
      by_class o test h f =
          let a = alike test n.role rest (subst (λ rs. are_free [] rs ≡ true) roles_are (free name)) (subst (λ rs. list_any test rs ≡ true) roles_are h) in
          subst (λ g. OwnIs g o) a.2 (f a.0 a.1)

      callee_own : (f : Candidate) (doing : Doing) → f.doing ≡ doing → CalleeIs tabled all name doing f.params → OwnIs (class n.role) (Some (M.Callee f))
      callee_own f (Does.Calls (C.Function k)) e h =
          by_class (Some (M.Callee f)) (is_body Function) h.0 (λ s t. function_own s f (ap is_function e) t)
      callee_own f (Does.Calls (C.Converts k)) e h =
          by_class (Some (M.Callee f)) (is_body Direction) h (λ s t. direction_own s f (ap is_conversion e) t)
      callee_own f (Does.Calls (C.Constructor u k)) e h = elim h [
        | inl own ↦ by_class (Some (M.Callee f)) is_constructor_role own (λ s t. constructor_own s f (ap is_constructor e) t)
        | inr old ↦ no (sym (or_parts (is_some (row_named name)) (has builtin_constructors name) unbuilt).1 ∙ old)
      ]
      callee_own f doing e h = absurd h

      meant_own : (m : Meant) → MeantIs tabled all name m → OwnIs (class n.role) (Some m)
      meant_own (M.Register r s) h = by_class (Some (M.Register r s)) is_register_role h (λ role t. register_own role r s t)
      meant_own (M.Member i k) h = by_class (Some (M.Member i k)) is_member_role h (λ role t. member_own role i k t)
      meant_own (M.Mapping m) h = by_class (Some (M.Mapping m)) (is_body Mapping) h (λ role t. mapping_own role m t)
      meant_own (M.Callee f) h = callee_own f f.doing refl h
      meant_own m h = absurd h

      missing : {A : Type 0} (other : List ℕ) → other ≡ name → own name ≡ None → is_some (own other) ≡ true → A
      missing other same e h = no (ap is_some (sym e) ∙ ap (λ x. is_some (own x)) (sym same) ∙ h)

      same : n.name ≡ name
      same = same_name n.name name (and_parts (is_same_space n.space Values) (bytes_eq n.name name) its).1

      spaced : is_same_space n.space Values ≡ true
      spaced = (and_parts (is_same_space n.space Values) (bytes_eq n.name name) its).0

      nothing_own : (r : Role) → own name ≡ None → There tabled own r n.name → DeclaresAs tabled own r n → OwnIs (class r) None
      nothing_own (Declared called) e t d = missing n.name same e d
      nothing_own (Defined Function) e t d = missing n.name same e t
      nothing_own (Defined Mapping) e t d = missing n.name same e t.0
      nothing_own (Defined Direction) e t d = missing n.name same e t
      nothing_own Overloaded e t d = refl
      nothing_own (Whole is.Type) e t d = no (sym d ∙ spaced)
      nothing_own (Whole is.Mapping) e t d = missing n.name same e t.0
      nothing_own (Whole is.Direction) e t d = missing n.name same e t
      nothing_own (Whole is.Constructor) e t d = missing n.name same e t
      nothing_own (Whole is.Member) e t d = missing n.name same e t
      nothing_own (Whole is.Let) e t d = refl
      nothing_own (Whole is.Register) e t d = missing n.name same e t
      nothing_own (Whole is.Measure) e t d = no (sym d ∙ spaced)

      own_is : OwnIs (class n.role) (own name)
      own_is = by_own (own name) refl
        where
          by_own : (o : Option Meant) → own name ≡ o → OwnIs (class n.role) o
          by_own None e =
              nothing_own n.role e (found_of (IsThere tabled own) name n all there first) (found_of (Declares tabled own) name n all declares first)
          by_own (Some m) e = meant_own m (own_meant name m e)

    -- what the first definition of a name makes of it
    pub first_own : (n : Naming) → naming_of all name ≡ Some n → (is_builtin Values name ≡ false) × OwnIs (class n.role) (own name)
    first_own n e =
        let f : FirstIs name all (Some n) = subst (FirstIs name all) e (first_taken name all) in
        (unbuilt n f.0 f.1 e f.2, own_is n f.0 f.1 e f.2)

    -- a name that is taken so has a first definition of the class of such a role
    pub first_like : (test : Role → Bool) → IsTaken all name test → (n : Naming) × (naming_of all name ≡ Some n)
        × ((s : Role) × (test s ≡ true) × (class s ≡ class n.role))
    first_like test h = by_first (naming_of all name) refl
      where
        by_first : (o : Option Naming) → naming_of all name ≡ o → (n : Naming) × (naming_of all name ≡ Some n)
            × ((s : Role) × (test s ≡ true) × (class s ≡ class n.role))
        by_first None e =
            let f : roles (filter (takes Values name) all) ≡ [] = subst (FirstIs name all) e (first_taken name all) in
            no (sym (ap (list_any test) f) ∙ h)
        by_first (Some n) e =
            let f : FirstIs name all (Some n) = subst (FirstIs name all) e (first_taken name all) in
            (n, e, alike test n.role f.0 (subst (λ rs. are_free [] rs ≡ true) f.1 (free name)) (subst (λ rs. list_any test rs ≡ true) f.1 h))
