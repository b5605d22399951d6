-- Top-level lets of a text without failures: each binds to shapes the names that it takes, and shapes with as many arguments as their types have parameters.
use Rattle.std.proofs.Common.{◌≡◌, ℕ, suc, ◌+◌, List, [], ◌∷◌, ◌++◌, map, refl, sym, ap, ◌∙◌, subst, Bool, true, false, ◌||◌, nat_lt}
use Rattle.std.proofs.Common.{if◌then◌else◌, Option, Some, None, arith, append-nil, append_assoc}
use Rattle.std.proofs.lemmas.Bool.{and_parts}
use Rattle.std.proofs.lemmas.Bool.Decides.{nat_tests}
use Rattle.std.proofs.lemmas.List.Folds.{find-append}
use Rattle.std.specs.Prelude.{is_some}
use Rattle.std.specs.List.{list_any}
use Rattle.std.specs.Option.{option_or}
use Rattle.std.specs.Str.{bytes_eq}
use Rattle.sail_base.specs.declared.place.Place.{Place}
use Rattle.sail_syntax.specs.Bound.{in_order}
use Rattle.sail_syntax.specs.declared.name.Name.{Name}
use Rattle.sail_syntax.specs.declared.expressions.Exp.{Exp}
use Rattle.sail_syntax.specs.declared.patterns.Pat.{Pat, Pat-F, roll-Pat}
use Rattle.sail_syntax.specs.declared.patterns.Pat.TheOpen as P
use Rattle.sail_syntax.specs.declared.patterns.Pat.TheOpen.{Joined-F}
use Rattle.sail_syntax.specs.declared.patterns.Pat.TheFolds.{fold-roll-Pat, fold-roll-Joined, map-Pat, map-Joined, ind-Pat}
use Rattle.sail_syntax.specs.declared.patterns.Joined.{Joined, roll-Joined}
use Rattle.sail_syntax.specs.declared.definitions.Def.{Def}
use Rattle.sail_syntax.specs.declared.definitions.Def.TheVariants as D
use Rattle.sail_types.specs.declared.shapes.Shape.{Shape}
use Rattle.sail_types.specs.declared.table.Types.{Types}
use Rattle.sail_kinds.specs.declared.error.TableError.{TableError}
use Rattle.sail_globals.specs.declared.naming.Alone.TheVariants as is
use Rattle.sail_globals.specs.declared.naming.Naming.{Naming}
use Rattle.sail_globals.specs.declared.naming.Role.TheVariants.{Whole}
use Rattle.sail_globals.specs.declared.naming.Space.TheVariants.{Values}
use Rattle.sail_globals.specs.Bound as Globals
use Rattle.sail_globals.specs.Bound.{is_among, is_plain, members}
use Rattle.sail_globals.specs.Clashes.{is_same_space, takes}
use Rattle.sail_globals.specs.Namings.{all_namings, let_naming, namings, namings_from}
use Rattle.sail_names.specs.declared.around.Allowed.{Allowed}
use Rattle.sail_names.specs.declared.around.Allowed.TheVariants.{Plain}
use Rattle.sail_names.specs.Known as Tables
use Rattle.sail_names.specs.Known.{is_let_seen, is_member}
use Rattle.sail_names.specs.Locals as Bound
use Rattle.sail_names.specs.Patterns.{binds, binds_form, binds_joined, binds_of_joined, clashes, joined, pattern_failures, uses_failures}
use Rattle.sail_names.specs.Uses.{expression_failures}
use Rattle.type_definitions.specs.Defined.{types_of}
use Rattle.known_names.specs.Meanings.{known_in, naming_of}
use Rattle.sail_bodies.specs.Bodies.{body_failures, body_failures_from, setting}
use Rattle.shape_joins.proofs.Order.{no}
use Rattle.shape_rules.specs.declared.callees.Meant.{Meant}
use Rattle.shape_rules.specs.declared.callees.Meant.TheVariants as M
use Rattle.shape_rules.specs.declared.locals.Local.{Local}
use Rattle.shape_rules.specs.Patterns.{look, no_widths, wanted_by}
use Rattle.shape_rules.specs.Scopes.{Setting, plainly}
use Rattle.shape_rules.specs.Expressions.{part}
use Rattle.shape_models.specs.Models.{Own, let_in, setting_of}
use Rattle.shape_meanings.specs.Counted.{LocalsCounted, counted}
use Rattle.shape_meanings.specs.Naming.{AreKnown}
use Rattle.shape_meanings.proofs.Binds.{pat_binds}
use Rattle.shape_meanings.proofs.PatternCounts.{both_counted, pat_counts}
use Rattle.shape_meanings.proofs.PatternNames.{bound_names, bound_texts}
use Rattle.shape_meanings.proofs.Settling.{both_empty, same_name}
use Rattle.shape_meanings.proofs.StructNames.{bytes_same}
use Rattle.shape_meanings.proofs.TreeCounts.{exp_counts, pattern_counts}
use Rattle.shapes.specs.Failures.{all_lets, let_binds, lets_behind, lets_with, own_in}
use Rattle.shapes.specs.Tabled.{tabled_of}
use Rattle.known_texts.specs.Accepted.{NothingFails}
use Rattle.known_texts.proofs.Failures.{apart}
use Rattle.known_texts.proofs.Roles.{Covers, IsTaken, covers_right, or_elim, or_left, or_right, taken_first, taken_left}
use Rattle.known_texts.proofs.Roles.{taken_right}
use Rattle.known_texts.proofs.Classes.{EachOf, both_of, found_of}
use Rattle.known_texts.proofs.Meant.{is_let_role}
use Rattle.known_texts.proofs.Values.{LetsAre, first_at}
use Rattle.known_texts.proofs.Walks.{IsOf, def_of, map_of, role_in}

-- ---- what a pattern binds, to the tables and to the namings of a text

module _ (known : Tables.Known) (is_enum : List ℕ → Bool) (same : (name : List ℕ) → is_member known name ≡ is_enum name) where
  abbrev SamePat : Pat → Type 0
  SamePat p = binds known p ≡ Globals.bound is_enum p

  abbrev SameJoined : Joined → Type 0
  SameJoined j = binds_of_joined known j ≡ Globals.bound_by_joined is_enum j

  abbrev SuchP : Type 0
  SuchP = (p : Pat) × SamePat p

  abbrev SuchJ : Type 0
  SuchJ = (j : Joined) × SameJoined j

  abbrev first : Pat-F SuchP SuchJ → Pat-F Pat Joined
  first = map-Pat SuchP SuchJ Pat Joined (λ p. p.0) (λ j. j.0)

  abbrev first_joined : Joined-F SuchP SuchJ → Joined-F Pat Joined
  first_joined = map-Joined SuchP SuchJ Pat Joined (λ p. p.0) (λ j. j.0)

  abbrev tables_form : Pat-F Pat Joined → Pat-F (List Name) (List Name)
  tables_form = map-Pat Pat Joined (List Name) (List Name) (binds known) (binds_of_joined known)

  abbrev globals_form : Pat-F Pat Joined → Pat-F (List Name) (List Name)
  globals_form = map-Pat Pat Joined (List Name) (List Name) (Globals.bound is_enum) (Globals.bound_by_joined is_enum)

  each_same : (ps : List SuchP)
      → joined (map (binds known) (map (λ (p : SuchP). p.0) ps)) ≡ in_order (map (Globals.bound is_enum) (map (λ (p : SuchP). p.0) ps))
  each_same [] = refl
  each_same (p ∷ ps) = λ i. p.1 i ++ each_same ps i

  joins_same : (js : List SuchJ)
      → joined (map (binds_of_joined known) (map (λ (j : SuchJ). j.0) js)) ≡ in_order (map (Globals.bound_by_joined is_enum) (map (λ (j : SuchJ). j.0) js))
  joins_same [] = refl
  joins_same (j ∷ js) = λ i. j.1 i ++ joins_same js i

  form_same : (y : Pat-F SuchP SuchJ) → binds_form known (tables_form (first y)) ≡ Globals.form_bound is_enum (globals_form (first y))
  form_same (P.Wildcard place) = refl
  form_same (P.Constant place literal) = refl
  form_same (P.Negative place n) = refl
  form_same (P.Bind name) = ap (λ b. if b then [] else name ∷ []) (same name.text)
  form_same (P.Construct name ps) = each_same ps
  form_same (P.Group place brackets ps) = each_same ps
  form_same (P.Concat place p q js) = λ i. (p.1 i ++ q.1 i) ++ joins_same js i
  form_same (P.Cons place p q) = λ i. p.1 i ++ q.1 i
  form_same (P.As place p name) = λ i. p.1 i ++ name ∷ []
  form_same (P.Typed place p typ) = p.1

  rolled_same : (y : Pat-F SuchP SuchJ) → SamePat (roll-Pat (first y))
  rolled_same y =
      fold-roll-Pat (List Name) (List Name) (binds_form known) binds_joined (first y) ∙ form_same y
      ∙ sym (fold-roll-Pat (List Name) (List Name) (Globals.form_bound is_enum) Globals.joined_bound (first y))

  joined_same : (y : Joined-F SuchP SuchJ) → SameJoined (roll-Joined (first_joined y))
  joined_same y =
      fold-roll-Joined (List Name) (List Name) (binds_form known) binds_joined (first_joined y) ∙ y.part.1
      ∙ sym (fold-roll-Joined (List Name) (List Name) (Globals.form_bound is_enum) Globals.joined_bound (first_joined y))

  pub binds_same : (p : Pat) → binds known p ≡ Globals.bound is_enum p
  binds_same = ind-Pat SamePat SameJoined (λ e y eq. subst (λ d. SamePat (roll-Pat d)) eq (rolled_same y))
      (λ e y eq. subst (λ d. SameJoined (roll-Joined d)) eq (joined_same y))

-- ---- names among lets

abbrev among : List (List ℕ) → List ℕ → Bool
among ns name = list_any (λ n. bytes_eq n name) ns

abbrev let_names : List Local → List (List ℕ)
let_names ls = map (λ (l : Local). l.name) ls

let_step : (b : Bool) (i : ℕ) (s : Shape) (more : Bool) (o : Option Meant) → (more ≡ true → is_some o ≡ true) → (b || more) ≡ true
    → is_some (if b then Some (M.Let i s) else o) ≡ true
let_step true i s more o f h = refl
let_step false i s more o f h = f h

let_there : (i : ℕ) (ls : List Local) (name : List ℕ) → among (let_names ls) name ≡ true → is_some (let_in i ls name) ≡ true
let_there i [] name h = no h
let_there i (l ∷ ls) name h =
    let_step (bytes_eq l.name name) i l.shape (among (let_names ls) name) (let_in (suc i) ls name) (λ k. let_there (suc i) ls name k) h

let_back : (b : Bool) (i : ℕ) (s : Shape) (more : Bool) (o : Option Meant) → (is_some o ≡ true → more ≡ true)
    → is_some (if b then Some (M.Let i s) else o) ≡ true → (b || more) ≡ true
let_back true i s more o f h = refl
let_back false i s more o f h = f h

let_among : (i : ℕ) (ls : List Local) (name : List ℕ) → is_some (let_in i ls name) ≡ true → among (let_names ls) name ≡ true
let_among i [] name h = no h
let_among i (l ∷ ls) name h =
    let_back (bytes_eq l.name name) i l.shape (among (let_names ls) name) (let_in (suc i) ls name) (λ k. let_among (suc i) ls name k) h

names_append : (xs ys : List Local) → let_names (xs ++ ys) ≡ let_names xs ++ let_names ys
names_append [] ys = refl
names_append (x ∷ xs) ys = ap (λ ns. x.name ∷ ns) (names_append xs ys)

among_left : (xs ys : List (List ℕ)) (name : List ℕ) → among xs name ≡ true → among (xs ++ ys) name ≡ true
among_left [] ys name h = no h
among_left (x ∷ xs) ys name h =
    or_elim (bytes_eq x name) (among xs name) h (λ e. or_left (bytes_eq x name) (among (xs ++ ys) name) e)
    (λ e. or_right (bytes_eq x name) (among (xs ++ ys) name) (among_left xs ys name e))

among_right : (xs ys : List (List ℕ)) (name : List ℕ) → among ys name ≡ true → among (xs ++ ys) name ≡ true
among_right [] ys name h = h
among_right (x ∷ xs) ys name h = or_right (bytes_eq x name) (among (xs ++ ys) name) (among_right xs ys name h)

among_either : {P : Type 0} (xs ys : List (List ℕ)) (name : List ℕ) → among (xs ++ ys) name ≡ true → (among xs name ≡ true → P)
    → (among ys name ≡ true → P) → P
among_either [] ys name h f g = g h
among_either (x ∷ xs) ys name h f g =
    or_elim (bytes_eq x name) (among (xs ++ ys) name) h (λ e. f (or_left (bytes_eq x name) (among xs name) e))
    (λ e. among_either xs ys name e (λ k. f (or_right (bytes_eq x name) (among xs name) k)) g)

before_later : (d at : ℕ) → nat_lt d at ≡ true → nat_lt d (at + 1) ≡ true
before_later d at h = grind (arith, nat_tests, h)

not_before : (d at : ℕ) → d ≡ at → nat_lt d at ≡ false
not_before d at e = subst (λ n. nat_lt n at ≡ false) (sym e) (not_less at)
  where
    not_less : (n : ℕ) → nat_lt n n ≡ false
    not_less n = grind (arith, nat_tests)

later_not : (d at : ℕ) → nat_lt d (at + 1) ≡ false → nat_lt d at ≡ false
later_not d at h = grind (arith, nat_tests, h)

-- ---- the lets of a text

module _ (text : List Def) (clear : NothingFails text) (same : (name : List ℕ) → is_member (known_in text) name ≡ is_among (members text) name) where
  abbrev all : List Naming
  all = all_namings text

  abbrev own : Own
  own = own_in (tabled_of text) text

  abbrev types : Types
  types = (tabled_of text).types

  abbrev is_enum : List ℕ → Bool
  is_enum = is_among (members text)

  abbrev pub plain_names : ℕ → Tables.Setting
  plain_names at = setting (known_in text) (types_of text) Plain [] at

  abbrev pub plain_setting : List Local → Setting
  plain_setting lets = plainly (setting_of (tabled_of text) own text lets [])

  abbrev Bounds : List Local → Naming → Type 0
  Bounds lets n = n.role ≡ Whole is.Let → among (let_names lets) n.name ≡ true

  -- what is known of lets behind the namings of so many definitions
  pub record Behind (lets : List Local) (earlier : List Naming) : Type 0 where
    pub bounds : EachOf (Bounds lets) earlier
    pub taken_so : (name : List ℕ) → among (let_names lets) name ≡ true → IsTaken all name is_let_role
    pub counts : LocalsCounted types lets

  abbrev After : ℕ → Naming → Type 0
  After at n = nat_lt n.definition at ≡ false

  after_from : (at : ℕ) (rest : List Def) → EachOf (After at) (namings_from is_enum at rest)
  after_from at [] = tt
  after_from at (d ∷ rest) =
      both_of (After at) (namings is_enum at d) (namings_from is_enum (at + 1) rest)
      (map_of (IsOf d at) (After at) (namings is_enum at d) (λ n its. not_before n.definition at its.1) (def_of is_enum at d))
      (map_of (After (at + 1)) (After at) (namings_from is_enum (at + 1) rest) (λ n h. later_not n.definition at h) (after_from (at + 1) rest))

  either_found : {P : Type 0} (o later : Option Naming) (n : Naming) → option_or o later ≡ Some n → (o ≡ Some n → P) → (later ≡ Some n → P) → P
  either_found (Some m) later n e f g = f e
  either_found None later n e f g = g e

  -- so these lets are those that an expression behind them sees
  pub seen_behind : (lets : List Local) (at : ℕ) (earlier : List Naming) (rest : List Def) → all ≡ earlier ++ namings_from is_enum at rest
      → Behind lets earlier → LetsAre text lets Plain at
  seen_behind lets at earlier rest split known = record {
    seen = λ name n e so sees. let_there 0 lets name (found name n e so sees);
    taken_so = λ name h. known.taken_so name (let_among 0 lets name h);
  }
    where
      named : (name : List ℕ) (n : Naming) → naming_of all name ≡ Some n → n.name ≡ name
      named name n e = same_name n.name name (and_parts (is_same_space n.space Values) (bytes_eq n.name name) (first_at text name n e)).1

      found : (name : List ℕ) (n : Naming) → naming_of all name ≡ Some n → n.role ≡ Whole is.Let → is_let_seen Plain n.definition at ≡ true
          → among (let_names lets) name ≡ true
      found name n e so sees =
          let later : List Naming = namings_from is_enum at rest in
          let both : option_or (naming_of earlier name) (naming_of later name) ≡ Some n =
          sym (find-append (takes Values name) earlier later) ∙ ap (λ ns. naming_of ns name) (sym split) ∙ e in
          either_found (naming_of earlier name) (naming_of later name) n both
          (λ f. subst (λ x. among (let_names lets) x ≡ true) (named name n e) (found_of (Bounds lets) name n earlier known.bounds f so))
          (λ f. no (sym (found_of (After at) name n later (after_from at rest) f) ∙ sees))

  all_seen : (lets : List Local) (allowed : Allowed) (number : ℕ) → Behind lets all → LetsAre text lets allowed number
  all_seen lets allowed number known = record {
    seen = λ name n e so sees. let_there 0 lets name
        (subst (λ x. among (let_names lets) x ≡ true)
        (same_name n.name name (and_parts (is_same_space n.space Values) (bytes_eq n.name name) (first_at text name n e)).1)
        (found_of (Bounds lets) name n all known.bounds e so));
    taken_so = λ name h. known.taken_so name (let_among 0 lets name h);
  }

  -- ---- one definition more

  bounds_more : (lets more : List Local) (n : Naming) → Bounds lets n → Bounds (lets ++ more) n
  bounds_more lets more n f so =
      subst (λ ns. among ns n.name ≡ true) (sym (names_append lets more)) (among_left (let_names lets) (let_names more) n.name (f so))

  abbrev name_texts : List Name → List (List ℕ)
  name_texts ns = map (λ (n : Name). n.text) ns

  names_bound : (at : ℕ) (place : Place) (plain : Bool) (ns : List Name) (lets : List Local)
      → ((name : List ℕ) → among (name_texts ns) name ≡ true → among (let_names lets) name ≡ true)
      → EachOf (Bounds lets) (map (let_naming at place plain) ns)
  names_bound at place plain [] lets f = tt
  names_bound at place plain (n ∷ ns) lets f = (
    λ so. f n.text (or_left (bytes_eq n.text n.text) (among (name_texts ns) n.text) (bytes_same n.text)),
    names_bound at place plain ns lets (λ name h. f name (or_right (bytes_eq n.text name) (among (name_texts ns) name) h)),
  )

  names_taken : (at : ℕ) (place : Place) (plain : Bool) (ns : List Name) → Covers all (map (let_naming at place plain) ns) → (name : List ℕ)
      → among (name_texts ns) name ≡ true → IsTaken all name is_let_role
  names_taken at place plain [] c name h = no h
  names_taken at place plain (n ∷ ns) c name h =
      let x : Naming = let_naming at place plain n in
      let rest : List Naming = map (let_naming at place plain) ns in
      or_elim (bytes_eq n.text name) (among (name_texts ns) name) h (λ e. c name is_let_role (taken_first is_let_role name x rest e refl))
      (λ e. names_taken at place plain ns (covers_right all (x ∷ []) rest c) name e)

  module _ (known_at : (lets : List Local) (at : ℕ) → LetsAre text lets Plain at → LocalsCounted types lets
      → AreKnown (plain_setting lets) (plain_names at)) where
    abbrev let_locals : List Local → Pat → Exp → List Local
    let_locals lets p value =
        (look p (plain_setting lets) no_widths ((part value).elaborate (plain_setting lets) [] (wanted_by (plain_setting lets) p)).shape).binds

    -- a let
    let_behind : (at : ℕ) (lets : List Local) (place : Place) (p : Pat) (value : Exp) → LetsAre text lets Plain at → LocalsCounted types lets
        → pattern_failures (plain_names at) p ≡ [] → expression_failures value (plain_names at) [] ≡ []
        → (let_names (let_locals lets p value) ≡ name_texts (Globals.bound is_enum p)) × LocalsCounted types (let_locals lets p value)
    let_behind at lets place p value are counts pe ve =
        let known = known_at lets at are counts in
        let u = (both_empty (uses_failures (plain_names at) p) (clashes (binds (known_in text) p)) pe).0 in
        let want = (pattern_counts (plain_setting lets) (plain_names at) known p pe [] tt).0 in
        let shape : Shape = ((part value).elaborate (plain_setting lets) [] (wanted_by (plain_setting lets) p)).shape in
        let fine : counted types shape ≡ true =
        exp_counts value (plain_setting lets) (plain_names at) known [] [] tt ve (wanted_by (plain_setting lets) p) want in
        let named = pat_binds p (plain_setting lets) (plain_names at) known u no_widths shape in (
          sym (bound_names (let_locals lets p value)) ∙ ap (map (λ (b : Bound.Local). b.name)) named ∙ bound_texts (binds (known_in text) p)
              ∙ ap name_texts (binds_same (known_in text) is_enum same p),
          (pat_counts p (plain_setting lets) (plain_names at) known u).1 no_widths shape fine,
        )

    abbrev fails_at : ℕ → Def → List TableError
    fails_at at d = body_failures text (known_in text) (types_of text) at d

    abbrev fail_from : ℕ → List Def → List TableError
    fail_from at rest = body_failures_from text (known_in text) (types_of text) at rest

    abbrev binds_of : List Local → Def → List Local
    binds_of lets d = let_binds (tabled_of text) own text lets d

    abbrev BoundBy : List Local → List Local → ℕ → Def → Type 0
    BoundBy lets more at d =
        EachOf (Bounds (lets ++ more)) (namings is_enum at d)
        × ((name : List ℕ) → among (let_names more) name ≡ true → IsTaken all name is_let_role) × LocalsCounted types more

    nothing_bound : (lets : List Local) (at : ℕ) (d : Def) → role_in d (Whole is.Let) ≡ false → BoundBy lets [] at d
    nothing_bound lets at d h = (
      map_of (IsOf d at) (Bounds (lets ++ [])) (namings is_enum at d) (λ n its so. no (sym h ∙ ap (role_in d) (sym so) ∙ its.0)) (def_of is_enum at d),
      λ name k. no k,
      tt,
    )

    def_bound : (at : ℕ) (lets : List Local) (d : Def) → LetsAre text lets Plain at → LocalsCounted types lets → Covers all (namings is_enum at d)
        → fails_at at d ≡ [] → BoundBy lets (binds_of lets d) at d
    def_bound at lets (D.Let place p value) are counts c e =
        let k = apart (pattern_failures (plain_names at) p) (expression_failures value (plain_names at) []) e in
        let it = let_behind at lets place p value are counts k.0 k.1 in
        let more : List Local = let_locals lets p value in
        let ns : List Name = Globals.bound is_enum p in (
          names_bound at place (is_plain p) ns (lets ++ more)
              (λ name h. subst (λ xs. among xs name ≡ true) (sym (names_append lets more))
              (among_right (let_names lets) (let_names more) name (subst (λ xs. among xs name ≡ true) (sym it.0) h))),
          λ name h. names_taken at place (is_plain p) ns c name (subst (λ xs. among xs name ≡ true) it.0 h),
          it.1,
        )
    def_bound at lets (D.Register place name typ initial) are counts c e = nothing_bound lets at (D.Register place name typ initial) refl
    def_bound at lets (D.Enum place name ms) are counts c e = nothing_bound lets at (D.Enum place name ms) refl
    def_bound at lets (D.Union place name variables cs) are counts c e = nothing_bound lets at (D.Union place name variables cs) refl
    def_bound at lets (D.Function place extent name clauses) are counts c e = nothing_bound lets at (D.Function place extent name clauses) refl
    def_bound at lets (D.Mapping place name sides cs) are counts c e = nothing_bound lets at (D.Mapping place name sides cs) refl
    def_bound at lets (D.Alias place name parameters kind typ) are counts c e = nothing_bound lets at (D.Alias place name parameters kind typ) refl
    def_bound at lets (D.Struct place name parameters fs) are counts c e = nothing_bound lets at (D.Struct place name parameters fs) refl
    def_bound at lets (D.Val place name quantifier from arrow to) are counts c e =
        nothing_bound lets at (D.Val place name quantifier from arrow to) refl
    def_bound at lets (D.Measure place name parameters value) are counts c e = nothing_bound lets at (D.Measure place name parameters value) refl
    def_bound at lets (D.Overload place over added) are counts c e = nothing_bound lets at (D.Overload place over added) refl
    def_bound at lets d are counts c e = (tt, (λ name k. no k), tt)

    pub step_known : (at : ℕ) (lets : List Local) (earlier : List Naming) (d : Def) (rest : List Def) → all ≡ earlier ++ namings_from is_enum at (d ∷ rest)
        → Behind lets earlier → fails_at at d ≡ [] → Behind (lets_with (tabled_of text) own text lets d) (earlier ++ namings is_enum at d)
    step_known at lets earlier d rest split known e =
        let mine : List Naming = namings is_enum at d in
        let later : List Naming = namings_from is_enum (at + 1) rest in
        let more : List Local = binds_of lets d in
        let covers : Covers all mine =
        (λ name test h. subst (λ ns. IsTaken ns name test) (sym split)
        (taken_right test name earlier (mine ++ later) (taken_left test name mine later h))) in
        let b = def_bound at lets d (seen_behind lets at earlier (d ∷ rest) split known) known.counts covers e in record {
          bounds =
              both_of (Bounds (lets ++ more)) earlier mine
              (map_of (Bounds lets) (Bounds (lets ++ more)) earlier (λ n f. bounds_more lets more n f) known.bounds) b.0;
          taken_so = λ name h.
              among_either (let_names lets) (let_names more) name (subst (λ ns. among ns name ≡ true) (names_append lets more) h)
              (λ f. known.taken_so name f) (λ f. b.1 name f);
          counts = both_counted types lets more known.counts b.2;
        }

    behind_all : (at : ℕ) (lets : List Local) (earlier : List Naming) (rest : List Def) → all ≡ earlier ++ namings_from is_enum at rest
        → Behind lets earlier → fail_from at rest ≡ [] → Behind (lets_behind (tabled_of text) own text lets rest) all
    behind_all at lets earlier [] split known e = subst (Behind lets) (sym (split ∙ append-nil earlier)) known
    behind_all at lets earlier (d ∷ rest) split known e =
        let k = apart (fails_at at d) (fail_from (at + 1) rest) e in
        let mine : List Naming = namings is_enum at d in
        let later : List Naming = namings_from is_enum (at + 1) rest in
        behind_all (at + 1) (lets_with (tabled_of text) own text lets d) (earlier ++ mine) rest (split ∙ sym (append_assoc earlier mine later))
        (step_known at lets earlier d rest split known k.0) k.1

    lets_known : Behind (all_lets (tabled_of text) text) all
    lets_known = behind_all 0 [] [] text refl (record { bounds = tt; taken_so = λ name h. no h; counts = tt }) clear.bodies

    pub lets_are : (allowed : Allowed) (number : ℕ) → LetsAre text (all_lets (tabled_of text) text) allowed number
    lets_are allowed number = all_seen (all_lets (tabled_of text) text) allowed number lets_known

    pub lets_counted : LocalsCounted types (all_lets (tabled_of text) text)
    lets_counted = lets_known.counts
