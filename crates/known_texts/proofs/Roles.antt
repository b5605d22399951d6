-- The roles in which a name of a value is taken: where no name clashes, the name of a function's body is taken by its `val` besides, if at all.
use Rattle.std.proofs.Common.{◌≡◌, ℕ, List, [], ◌∷◌, ◌++◌, map, filter, refl, sym, ap, ◌∙◌, subst, Bool, true, false, not, ◌&&◌, ◌||◌, cond, append-nil}
use Rattle.std.specs.List.{list_all, list_any}
use Rattle.std.specs.Str.{bytes_eq}
use Rattle.std.proofs.lemmas.Bool.{and_parts}
use Rattle.sail_kinds.specs.declared.error.TableError.{TableError}
use Rattle.sail_kinds.specs.declared.error.TableError.TheVariants as error
use Rattle.sail_globals.specs.declared.naming.Called.TheVariants.{Direction, Function, Mapping}
use Rattle.sail_globals.specs.declared.naming.Naming.{Naming}
use Rattle.sail_globals.specs.declared.naming.Role.{Role}
use Rattle.sail_globals.specs.declared.naming.Role.TheVariants.{Declared, Defined, Overloaded, Whole}
use Rattle.sail_globals.specs.declared.naming.Space.{Space}
use Rattle.sail_globals.specs.declared.naming.Space.TheVariants.{Measures, Types, Values}
use Rattle.sail_globals.specs.Clashes.{clash, clashes_behind, is_builtin, is_free, is_other_half, is_overloaded, is_same_space, taken, takes}
use Rattle.sail_globals.specs.Globals.{is_body}
use Rattle.sail_globals.proofs.Taking.{taken_more}
use Rattle.shape_joins.proofs.Order.{no, two}
use Rattle.shape_meanings.proofs.Settling.{same_name}
use Rattle.known_texts.proofs.Failures.{apart}

-- ---- small facts

pub or_left : (a b : Bool) → a ≡ true → (a || b) ≡ true
or_left true b h = refl
or_left false b h = no h

pub or_right : (a b : Bool) → b ≡ true → (a || b) ≡ true
or_right true b h = refl
or_right false b h = h

pub or_elim : {P : Type 0} (a b : Bool) → (a || b) ≡ true → (a ≡ true → P) → (b ≡ true → P) → P
or_elim true b h f g = f refl
or_elim false b h f g = g h

-- ---- names that are taken

-- whether some of these takes a name of a value in a role that passes
abbrev pub IsTaken : List Naming → List ℕ → (Role → Bool) → Type 0
IsTaken ns name test = list_any test (taken ns Values name) ≡ true

module _ (test : Role → Bool) (name : List ℕ) where
  abbrev passes : List Naming → Bool
  passes fs = list_any test (map (λ one. one.role) fs)

  one_left : (b : Bool) (x : Naming) (fs gs : List Naming) → (passes fs ≡ true → passes gs ≡ true) → passes (cond b (x ∷ fs) fs) ≡ true
      → passes (cond b (x ∷ gs) gs) ≡ true
  one_left true x fs gs f h =
      or_elim (test x.role) (passes fs) h (λ e. or_left (test x.role) (passes gs) e) (λ e. or_right (test x.role) (passes gs) (f e))
  one_left false x fs gs f h = f h

  one_right : (b : Bool) (x : Naming) (gs : List Naming) → passes gs ≡ true → passes (cond b (x ∷ gs) gs) ≡ true
  one_right true x gs h = or_right (test x.role) (passes gs) h
  one_right false x gs h = h

  one_here : (b : Bool) (x : Naming) (gs : List Naming) → b ≡ true → test x.role ≡ true → passes (cond b (x ∷ gs) gs) ≡ true
  one_here true x gs e h = or_left (test x.role) (passes gs) h
  one_here false x gs e h = no e

  pub taken_left : (xs ys : List Naming) → IsTaken xs name test → IsTaken (xs ++ ys) name test
  taken_left [] ys h = no h
  taken_left (x ∷ xs) ys h =
      one_left (takes Values name x) x (filter (takes Values name) xs) (filter (takes Values name) (xs ++ ys)) (λ e. taken_left xs ys e) h

  pub taken_right : (xs ys : List Naming) → IsTaken ys name test → IsTaken (xs ++ ys) name test
  taken_right [] ys h = h
  taken_right (x ∷ xs) ys h = one_right (takes Values name x) x (filter (takes Values name) (xs ++ ys)) (taken_right xs ys h)

  pub taken_first : (x : Naming) (xs : List Naming) → takes Values name x ≡ true → test x.role ≡ true → IsTaken (x ∷ xs) name test
  taken_first x xs is h = one_here (takes Values name x) x (filter (takes Values name) xs) is h

-- what some of these take all take
abbrev pub Covers : List Naming → List Naming → Type 0
Covers all some = (name : List ℕ) (test : Role → Bool) → IsTaken some name test → IsTaken all name test

pub covers_left : (all xs ys : List Naming) → Covers all (xs ++ ys) → Covers all xs
covers_left all xs ys c name test h = c name test (taken_left test name xs ys h)

pub covers_right : (all xs ys : List Naming) → Covers all (xs ++ ys) → Covers all ys
covers_right all xs ys c name test h = c name test (taken_right test name xs ys h)

-- ---- roles without a clash

-- each role may be taken behind those before it
abbrev pub are_free : List Role → List Role → Bool
are_free before [] = true
are_free before (r ∷ rs) = is_free before r && are_free (before ++ r ∷ []) rs

abbrev roles : List Naming → List Role
roles ns = map (λ one. one.role) ns

free_step : (b : Bool) (n : Naming) (before : List Role) (rest : List Naming) → (b ≡ true → is_free before n.role ≡ true)
    → are_free (before ++ roles (cond b (n ∷ []) [])) (roles rest) ≡ true → are_free before (roles (cond b (n ∷ rest) rest)) ≡ true
free_step true n before rest free h = two (is_free before n.role) (are_free (before ++ n.role ∷ []) (roles rest)) (free refl) h
free_step false n before rest free h = subst (λ rs. are_free rs (roles rest) ≡ true) (append-nil before) h

pub same_space : (space : Space) → is_same_space space Values ≡ true → space ≡ Values
same_space Types h = no h
same_space Values h = refl
same_space Measures h = no h

unclashed : (b c : Bool) (e : TableError) → cond (b || not c) (e ∷ []) [] ≡ [] → c ≡ true
unclashed true c e h = absurd (cc)
unclashed false true e h = refl
unclashed false false e h = absurd (cc)

free_of : (earlier : List Naming) (n : Naming) (name : List ℕ) → clash earlier n ≡ [] → takes Values name n ≡ true
    → is_free (taken earlier Values name) n.role ≡ true
free_of earlier n name clear takes_it =
    let k = and_parts (is_same_space n.space Values) (bytes_eq n.name name) takes_it in
    let free : is_free (taken earlier n.space n.name) n.role ≡ true =
    unclashed (is_builtin n.space n.name) (is_free (taken earlier n.space n.name) n.role) (error.Clash n.place n.name) clear in
    (λ i. is_free (taken earlier (sym (same_space n.space k.0) i) (sym (same_name n.name name k.1) i)) n.role) ∙ free

pub all_free : (earlier ns : List Naming) → clashes_behind earlier ns ≡ [] → (name : List ℕ)
    → are_free (taken earlier Values name) (taken ns Values name) ≡ true
all_free earlier [] h name = refl
all_free earlier (n ∷ ns) h name =
    let k = apart (clash earlier n) (clashes_behind (earlier ++ n ∷ []) ns) h in
    let rest : are_free (taken (earlier ++ n ∷ []) Values name) (taken ns Values name) ≡ true = all_free (earlier ++ n ∷ []) ns k.1 name in
    free_step (takes Values name n) n (taken earlier Values name) (filter (takes Values name) ns) (λ e. free_of earlier n name k.0 e)
    (subst (λ rs. are_free rs (taken ns Values name) ≡ true) (taken_more earlier n Values name) rest)

-- ---- the body of a function

is_defined : (r : Role) → is_body Function r ≡ true → r ≡ Defined Function
is_defined (Declared called) h = no h
is_defined (Defined Function) h = refl
is_defined (Defined Mapping) h = no h
is_defined (Defined Direction) h = no h
is_defined Overloaded h = no h
is_defined (Whole what) h = no h

-- its other half, on either side, is its `val`
is_val_behind : (s : Role) → is_other_half (Defined Function) s ≡ true → s ≡ Declared Function
is_val_behind (Declared Function) h = refl
is_val_behind (Declared Mapping) h = no h
is_val_behind (Declared Direction) h = no h
is_val_behind (Defined called) h = no h
is_val_behind Overloaded h = no h
is_val_behind (Whole what) h = no h

is_val_before : (r : Role) → is_other_half r (Defined Function) ≡ true → r ≡ Declared Function
is_val_before (Declared Function) h = refl
is_val_before (Declared Mapping) h = no h
is_val_before (Declared Direction) h = no h
is_val_before (Defined called) h = no h
is_val_before Overloaded h = no h
is_val_before (Whole what) h = no h

not_over : (r : Role) → is_overloaded r ≡ true → is_body Function r ≡ true → ⊥
not_over (Declared called) h k = no h
not_over (Defined called) h k = no h
not_over Overloaded h k = no k
not_over (Whole what) h k = no h

none_over : (rs : List Role) → list_all is_overloaded rs ≡ true → list_any (is_body Function) rs ≡ true → ⊥
none_over [] h k = no k
none_over (r ∷ rs) h k =
    let all = and_parts (is_overloaded r) (list_all is_overloaded rs) h in
    or_elim (is_body Function r) (list_any (is_body Function) rs) k (λ e. not_over r all.0 e) (λ e. none_over rs all.1 e)

-- behind two all are overloads
pub all_over : (a b : Role) (more rest : List Role) → are_free (a ∷ b ∷ more) rest ≡ true → list_all is_overloaded rest ≡ true
all_over a b more [] h = refl
all_over a b more (r ∷ rest) h =
    let k = and_parts (is_free (a ∷ b ∷ more) r) (are_free (a ∷ b ∷ (more ++ r ∷ [])) rest) h in
    let over = and_parts (list_all is_overloaded (a ∷ b ∷ more)) (is_overloaded r) k.0 in
    two (is_overloaded r) (list_all is_overloaded rest) over.1 (all_over a b (more ++ r ∷ []) rest k.1)

-- no test passes that the roles of a function don't pass
one_role : (test : Role → Bool) (r : Role) → test (Defined Function) ≡ false → is_body Function r ≡ true → test r ≡ true → ⊥
one_role test r defined body h = no (sym defined ∙ ap test (sym (is_defined r body)) ∙ h)

two_roles : (test : Role → Bool) (r s : Role) → test (Declared Function) ≡ false → test (Defined Function) ≡ false → is_other_half r s ≡ true
    → (is_body Function r || (is_body Function s || false)) ≡ true → (test r || (test s || false)) ≡ true → ⊥
two_roles test r s declared defined half body h =
    or_elim (is_body Function r) (is_body Function s || false) body
    (λ e. behind (subst (λ (x : Role). is_other_half x s ≡ true) (is_defined r e) half) e)
    (λ e. or_elim (is_body Function s) false e (λ f. before (subst (λ (x : Role). is_other_half r x ≡ true) (is_defined s f) half) f) (λ f. no f))
  where
    val : (x : Role) → x ≡ Declared Function → test x ≡ true → ⊥
    val x is k = no (sym declared ∙ ap test (sym is) ∙ k)

    behind : is_other_half (Defined Function) s ≡ true → is_body Function r ≡ true → ⊥
    behind other e =
        or_elim (test r) (test s || false) h (λ k. one_role test r defined e k)
        (λ k. or_elim (test s) false k (λ l. val s (is_val_behind s other) l) (λ l. no l))

    before : is_other_half r (Defined Function) ≡ true → is_body Function s ≡ true → ⊥
    before other e =
        or_elim (test r) (test s || false) h (λ k. val r (is_val_before r other) k)
        (λ k. or_elim (test s) false k (λ l. one_role test s defined e l) (λ l. no l))

pub body_alone : (test : Role → Bool) (rs : List Role) → test (Declared Function) ≡ false → test (Defined Function) ≡ false → are_free [] rs ≡ true
    → list_any (is_body Function) rs ≡ true → list_any test rs ≡ true → ⊥
body_alone test [] declared defined free body h = no h
body_alone test (r ∷ []) declared defined free body h =
    or_elim (is_body Function r) false body (λ e. or_elim (test r) false h (λ k. one_role test r defined e k) (λ k. no k)) (λ e. no e)
body_alone test (r ∷ s ∷ []) declared defined free body h =
    two_roles test r s declared defined (and_parts (is_other_half r s) true free).0 body h
body_alone test (r ∷ s ∷ t ∷ rest) declared defined free body h =
    let k = and_parts (is_other_half r s) (is_free (r ∷ s ∷ []) t && are_free (r ∷ s ∷ t ∷ []) rest) free in
    let l = and_parts (is_free (r ∷ s ∷ []) t) (are_free (r ∷ s ∷ t ∷ []) rest) k.1 in
    let over = and_parts (list_all is_overloaded (r ∷ s ∷ [])) (is_overloaded t) l.0 in
    let firsts = and_parts (is_overloaded r) (is_overloaded s && true) over.0 in
    let second = and_parts (is_overloaded s) true firsts.1 in
    let more : list_all is_overloaded rest ≡ true = all_over r s (t ∷ []) rest l.1 in
    none_over (r ∷ s ∷ t ∷ rest)
    (two (is_overloaded r) (is_overloaded s && (is_overloaded t && list_all is_overloaded rest)) firsts.0
    (two (is_overloaded s) (is_overloaded t && list_all is_overloaded rest) second.0
    (two (is_overloaded t) (list_all is_overloaded rest) over.1 more))) body
