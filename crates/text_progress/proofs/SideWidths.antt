-- The widths that a side of a mapping's clause gives to its names are given, where the types are that it goes by: by induction on the side.
use Rattle.std.proofs.Common.{◌≡◌, ℕ, List, [], ◌∷◌, ◌++◌, map, ap, sym, refl, subst, Bool, true, false, ◌&&◌, Option, Some, None, cond}
use Rattle.std.specs.Str.{bytes_eq}
use Rattle.std.proofs.lemmas.Bool.{and_parts}
use Rattle.sail_base.specs.declared.kind.Kind.TheVariants as Sort
use Rattle.sail_kinds.specs.declared.error.TableError.{TableError}
use Rattle.sail_syntax.specs.declared.name.Name.{Name}
use Rattle.sail_syntax.specs.declared.words.Brackets.TheVariants as B
use Rattle.sail_syntax.specs.declared.patterns.Joined.{Joined, roll-Joined}
use Rattle.sail_syntax.specs.declared.patterns.Pat.{Pat, Pat-F, roll-Pat}
use Rattle.sail_syntax.specs.declared.patterns.Pat.TheOpen as P
use Rattle.sail_syntax.specs.declared.patterns.Pat.TheOpen.{Joined-F}
use Rattle.sail_syntax.specs.declared.patterns.Pat.TheFolds.{fold-Joined, fold-roll-Pat, fold-roll-Joined, map-Pat, map-Joined, ind-Pat}
use Rattle.sail_types.specs.Named.{payload}
use Rattle.sail_types.specs.Sums.{and_then}
use Rattle.sail_types.specs.declared.numbers.Num.{Num}
use Rattle.sail_types.specs.declared.types.Typ.{Typ, Typ-F, out-Typ}
use Rattle.sail_types.specs.declared.types.Typ.TheOpen as T
use Rattle.sail_types.specs.declared.types.Typ.TheViews.{roll-out-Typ}
use Rattle.type_arguments.specs.Applied.{applied_typ}
use Rattle.sail_core.specs.declared.tree.Callee.TheVariants as C
use Rattle.sail_core.specs.Numbers.{Givens}
use Rattle.shape_joins.proofs.JoinsLeast.{none, some_same}
use Rattle.sail_names.specs.Known as Tables
use Rattle.sail_names.specs.Known.{is_construction}
use Rattle.sail_names.specs.Patterns.{joined, type_failures, unless, uses_failures, uses_form, uses_joined, uses_of_joined}
use Rattle.shape_rules.specs.Calls.{parameters_form}
use Rattle.shape_rules.specs.Patterns.{Which, backwards, either, forwards, neither, which_side, width_form, width_of}
use Rattle.shape_rules.specs.Sides.{Given, Gives, construct_gives, doing_gives, each_gives, each_of, given_if, gives, gives_form, gives_joined, item_typ}
use Rattle.shape_rules.specs.Sides.{item_typ_form, name_gives, one_gives, other_side, payload_at, payload_form, shape_of_if, tuple_typs, typs_if, typs_in}
use Rattle.shape_rules.specs.Sides.{width_given}
use Rattle.shape_rules.specs.Written.{typ_in}
use Rattle.shape_rules.specs.declared.callees.Doing.{Doing}
use Rattle.shape_rules.specs.declared.callees.Doing.TheVariants as D
use Rattle.shape_rules.specs.declared.callees.Mapping.{Mapping}
use Rattle.shape_rules.specs.declared.callees.Meant.{Meant}
use Rattle.shape_rules.specs.declared.callees.Meant.TheVariants as M
use Rattle.shape_progress.specs.Conditions.{given_in}
use Rattle.shape_stands.specs.Inside.{Position}
use Rattle.shape_stands.proofs.Standing.{both_empty}
use Rattle.text_progress.specs.GivenTypes.{SidesGiven, all_typs_given, indices_given, typ_given}
use Rattle.text_progress.proofs.TypesGiven.{applied_given, of_form, opened}

module _ (here : Position) (nu : Givens) (sides : SidesGiven here nu) where
  abbrev AllGiven : List Given → Type 0
  AllGiven [] = Unit {0}
  AllGiven (g ∷ gs) = (given_in nu g.width ≡ true) × AllGiven gs

  abbrev MaybeGiven : Option Typ → Type 0
  MaybeGiven None = Unit {0}
  MaybeGiven (Some t) = typ_given nu t ≡ true

  abbrev GivesAre : Gives → Type 0
  GivesAre f = (t : Option Typ) → MaybeGiven t → AllGiven (f here.setting t)

  abbrev AllGive : List Gives → Type 0
  AllGive [] = Unit {0}
  AllGive (f ∷ fs) = GivesAre f × AllGive fs

  both_given : (xs ys : List Given) → AllGiven xs → AllGiven ys → AllGiven (xs ++ ys)
  both_given [] ys a b = b
  both_given (x ∷ xs) ys a b = (a.0, both_given xs ys a.1 b)

  -- ---- types

  form_width : (x : Typ-F Typ) (n : Num) → opened nu x ≡ true → width_form x ≡ Some n → given_in nu n ≡ true
  form_width (T.Bits m) n h e = subst (λ k. given_in nu k ≡ true) (some_same m n e) h
  form_width x n h e = none e

  open_given : (t : Typ) → typ_given nu t ≡ true → opened nu (out-Typ t) ≡ true
  open_given t h = of_form nu (out-Typ t) t (roll-out-Typ t) h

  width_is_given : (t : Typ) (n : Num) → typ_given nu t ≡ true → width_of t ≡ Some n → given_in nu n ≡ true
  width_is_given t n h e = form_width (out-Typ t) n (open_given t h) e

  wide : (t : Option Typ) → MaybeGiven t → (n : Num) → and_then t width_of ≡ Some n → given_in nu n ≡ true
  wide None h n e = none e
  wide (Some t) h n e = width_is_given t n h e

  form_parts : (x : Typ-F Typ) → opened nu x ≡ true → all_typs_given nu (typs_in x) ≡ true
  form_parts (T.Tuple ts) h = h
  form_parts x h = refl

  tuple_given : (t : Option Typ) → MaybeGiven t → all_typs_given nu (tuple_typs t) ≡ true
  tuple_given None h = refl
  tuple_given (Some t) h = form_parts (out-Typ t) (open_given t h)

  form_item : (x : Typ-F Typ) → opened nu x ≡ true → MaybeGiven (item_typ_form x)
  form_item (T.Vector n t) h = h
  form_item (T.List t) h = h
  form_item x h = tt

  item_given : (t : Option Typ) → MaybeGiven t → MaybeGiven (item_typ t)
  item_given None h = tt
  item_given (Some t) h = form_item (out-Typ t) (open_given t h)

  form_parameters : (t : Typ) (x : Typ-F Typ) → typ_given nu t ≡ true → opened nu x ≡ true → all_typs_given nu (parameters_form t x) ≡ true
  form_parameters t (T.Tuple ts) h k = k
  form_parameters t x h k = ap (λ b. b && true) h

  payload_typs : (t : Option Typ) → MaybeGiven t → all_typs_given nu (typs_if t) ≡ true
  payload_typs None h = refl
  payload_typs (Some t) h = form_parameters t (out-Typ t) h (open_given t h)

  maybe : (o : Option Typ) → ((t : Typ) → o ≡ Some t → typ_given nu t ≡ true) → MaybeGiven o
  maybe None h = tt
  maybe (Some t) h = h t refl

  applied_if : (o : Option Typ) (t : Typ) (f : Typ → Option Typ) → ((p : Typ) → f p ≡ Some t → typ_given nu t ≡ true) → and_then o f ≡ Some t
      → typ_given nu t ≡ true
  applied_if None t f h e = none e
  applied_if (Some p) t f h e = h p e

  form_payload : (c : ℕ) (x : Typ-F Typ) → opened nu x ≡ true → MaybeGiven (payload_form here.setting c x)
  form_payload c (T.Named u is ts) h =
      let own = and_parts (indices_given nu is) (all_typs_given nu ts) h in
      maybe (and_then (payload here.setting.types u c) (applied_typ is ts))
      (λ t e. applied_if (payload here.setting.types u c) t (applied_typ is ts) (λ p k. applied_given nu p is ts t own.0 own.1 k) e)
  form_payload c x h = tt

  payload_given : (c : ℕ) (t : Option Typ) → MaybeGiven t → MaybeGiven (payload_at here.setting c t)
  payload_given c None h = tt
  payload_given c (Some t) h = form_payload c (out-Typ t) (open_given t h)

  -- ---- several parts

  each_given : (fs : List Gives) → AllGive fs → (ts : List Typ) → all_typs_given nu ts ≡ true → AllGiven (each_gives fs here.setting ts)
  each_given [] are ts h = tt
  each_given (f ∷ fs) are [] h = both_given (f here.setting None) (each_gives fs here.setting []) (are.0 None tt) (each_given fs are.1 [] refl)
  each_given (f ∷ fs) are (t ∷ ts) h =
      let own = and_parts (typ_given nu t) (all_typs_given nu ts) h in
      both_given (f here.setting (Some t)) (each_gives fs here.setting ts) (are.0 (Some t) own.0) (each_given fs are.1 ts own.1)

  all_given : (fs : List Gives) → AllGive fs → (t : Option Typ) → MaybeGiven t → AllGiven (each_of fs here.setting t)
  all_given [] are t h = tt
  all_given (f ∷ fs) are t h = both_given (f here.setting t) (each_of fs here.setting t) (are.0 t h) (all_given fs are.1 t h)

  whole_given : (fs : List Gives) → AllGive fs → (t : Option Typ) → MaybeGiven t → AllGiven (one_gives fs here.setting t)
  whole_given [] are t h = tt
  whole_given (f ∷ []) are t h = are.0 t h
  whole_given (f ∷ g ∷ fs) are t h = each_given (f ∷ g ∷ fs) are (tuple_typs t) (tuple_given t h)

  -- ---- bare names and heads

  width_if : (name : List ℕ) (o : Option Num) → ((n : Num) → o ≡ Some n → given_in nu n ≡ true) → AllGiven (given_if name o)
  width_if name None h = tt
  width_if name (Some n) h = (h n refl, tt)

  name_given : (name : Name) (meant : Option Meant) (t : Option Typ) → MaybeGiven t → AllGiven (name_gives name meant t)
  name_given name (Some (M.Member i k)) t h = tt
  name_given name meant t h = width_if name.text (and_then t width_of) (wide t h)

  side_given : (m : Mapping) (which : Which) → (typ_given nu m.left ≡ true) × (typ_given nu m.right ≡ true) → MaybeGiven (other_side m which)
  side_given m forwards h = h.1
  side_given m backwards h = h.0
  side_given m neither h = tt
  side_given m either h = tt

  doing_given : (doing : Doing) (fs : List Gives) → AllGive fs → (t : Option Typ) → MaybeGiven t → AllGiven (doing_gives doing fs here.setting t)
  doing_given (D.Calls (C.Constructor u c)) fs are t h =
      each_given fs are (typs_if (payload_at here.setting c t)) (payload_typs (payload_at here.setting c t) (payload_given c t h))
  doing_given (D.Calls (C.Converts d)) fs are t h = whole_given fs are (here.setting.given_by d) (maybe (here.setting.given_by d) (sides.directions d))
  doing_given doing fs are t h = tt

  construct_given : (name : List ℕ) (meant : Option Meant) → here.setting.value name ≡ meant → (fs : List Gives) → AllGive fs → (t : Option Typ)
      → MaybeGiven t → AllGiven (construct_gives meant fs here.setting t)
  construct_given name (Some (M.Callee f)) is fs are t h = doing_given f.doing fs are t h
  construct_given name (Some (M.Mapping m)) is fs are t h =
      let which : Which = which_side m (shape_of_if t) in
      whole_given fs are (other_side m which) (side_given m which (sides.mappings name m is))
  construct_given name meant is fs are t h = tt

  -- ---- what is said of a side

  abbrev GivesAs : (Tables.Setting → List TableError) → Gives → Type 0
  GivesAs uses f = uses here.names ≡ [] → GivesAre f

  abbrev gives_of_joined : Joined → Gives
  gives_of_joined = fold-Joined Gives Gives gives_form gives_joined

  abbrev OfPat : Pat → Type 0
  OfPat p = GivesAs (λ names. uses_failures names p) (gives p)

  abbrev OfJoined : Joined → Type 0
  OfJoined j = GivesAs (λ names. uses_of_joined names j) (gives_of_joined j)

  abbrev SuchP : Type 0
  SuchP = (p : Pat) × OfPat p

  abbrev SuchJ : Type 0
  SuchJ = (j : Joined) × OfJoined j

  abbrev pats : List SuchP → List Pat
  pats ys = map (λ (p : SuchP). p.0) ys

  abbrev joins : List SuchJ → List Joined
  joins ys = map (λ (j : SuchJ). j.0) ys

  each_part : (ys : List SuchP) → joined (map (uses_failures here.names) (pats ys)) ≡ [] → AllGive (map gives (pats ys))
  each_part [] u = tt
  each_part (y ∷ ys) u =
      let h = both_empty (uses_failures here.names y.0) (joined (map (uses_failures here.names) (pats ys))) u in
      (y.1 h.0, each_part ys h.1)

  each_joined : (ys : List SuchJ) → joined (map (uses_of_joined here.names) (joins ys)) ≡ [] → AllGive (map gives_of_joined (joins ys))
  each_joined [] u = tt
  each_joined (y ∷ ys) u =
      let h = both_empty (uses_of_joined here.names y.0) (joined (map (uses_of_joined here.names) (joins ys))) u in
      (y.1 h.0, each_joined ys h.1)

  -- ---- one form

  abbrev first : Pat-F SuchP SuchJ → Pat-F Pat Joined
  first = map-Pat SuchP SuchJ Pat Joined (λ p. p.0) (λ j. j.0)

  abbrev used_form : Tables.Setting → Pat-F Pat Joined → Pat-F (List TableError) (List TableError)
  used_form names = map-Pat Pat Joined (List TableError) (List TableError) (uses_failures names) (uses_of_joined names)

  abbrev given_form : Pat-F Pat Joined → Pat-F Gives Gives
  given_form = map-Pat Pat Joined Gives Gives gives gives_of_joined

  abbrev FormGives : Pat-F Pat Joined → Type 0
  FormGives d = GivesAs (λ names. uses_form names (used_form names d)) (gives_form (given_form d))

  again : (y : Pat-F SuchP SuchJ) → FormGives (first y)
  again (P.Wildcard place) u t h = tt
  again (P.Constant place literal) u t h = tt
  again (P.Negative place n) u t h = tt
  again (P.Bind name) u t h = name_given name (here.setting.value name.text) t h
  again (P.Construct name ys) u t h =
      let k = both_empty (unless (is_construction here.names name.text) name) (joined (map (uses_failures here.names) (pats ys))) u in
      construct_given name.text (here.setting.value name.text) refl (map gives (pats ys)) (each_part ys k.1) t h
  again (P.Group place B.Tuple ys) u t h = each_given (map gives (pats ys)) (each_part ys u) (tuple_typs t) (tuple_given t h)
  again (P.Group place B.Vector ys) u t h = all_given (map gives (pats ys)) (each_part ys u) (item_typ t) (item_given t h)
  again (P.Group place B.List ys) u t h = all_given (map gives (pats ys)) (each_part ys u) (item_typ t) (item_given t h)
  again (P.Concat place a b ys) u t h =
      let k = both_empty (uses_failures here.names a.0 ++ uses_failures here.names b.0) (joined (map (uses_of_joined here.names) (joins ys))) u in
      let k2 = both_empty (uses_failures here.names a.0) (uses_failures here.names b.0) k.0 in
      all_given (gives a.0 ∷ gives b.0 ∷ map gives_of_joined (joins ys)) (a.1 k2.0, (b.1 k2.1, each_joined ys k.1)) None tt
  again (P.Cons place a b) u t h =
      let k = both_empty (uses_failures here.names a.0) (uses_failures here.names b.0) u in
      both_given (gives a.0 here.setting (item_typ t)) (gives b.0 here.setting t) (a.1 k.0 (item_typ t) (item_given t h)) (b.1 k.1 t h)
  again (P.As place a name) u t h = a.1 u t h
  again (P.Typed place a typ) u t h =
      let k = both_empty (uses_failures here.names a.0) (type_failures Sort.Type typ here.names) u in
      a.1 k.0 (typ_in here.setting.within typ) (maybe (typ_in here.setting.within typ) (λ s e. sides.typs typ s k.1 e))

  -- ---- the tree

  rolled : (d : Pat-F Pat Joined) → FormGives d → OfPat (roll-Pat d)
  rolled d h =
      subst (λ u. GivesAs u (gives (roll-Pat d)))
      (λ i names. sym (fold-roll-Pat (List TableError) (List TableError) (uses_form names) uses_joined d) i)
      (subst (GivesAs (λ names. uses_form names (used_form names d))) (sym (fold-roll-Pat Gives Gives gives_form gives_joined d)) h)

  abbrev first_joined : Joined-F SuchP SuchJ → Joined-F Pat Joined
  first_joined = map-Joined SuchP SuchJ Pat Joined (λ p. p.0) (λ j. j.0)

  rolled_joined : (y : Joined-F SuchP SuchJ) → OfJoined (roll-Joined (first_joined y))
  rolled_joined y =
      let d : Joined-F Pat Joined = first_joined y in
      subst (λ u. GivesAs u (gives_of_joined (roll-Joined d)))
      (λ i names. sym (fold-roll-Joined (List TableError) (List TableError) (uses_form names) uses_joined d) i)
      (subst (GivesAs (λ names. uses_failures names y.part.0)) (sym (fold-roll-Joined Gives Gives gives_form gives_joined d)) y.part.1)

  pat_gives : (p : Pat) → OfPat p
  pat_gives = ind-Pat OfPat OfJoined (λ e y is. subst (λ d. OfPat (roll-Pat d)) is (rolled (first y) (again y)))
      (λ e y is. subst (λ d. OfJoined (roll-Joined d)) is (rolled_joined y))

  -- ---- names

  by_name : (b : Bool) (n m : Num) (o : Option Num) → given_in nu n ≡ true → (o ≡ Some m → given_in nu m ≡ true) → cond b (Some n) o ≡ Some m
      → given_in nu m ≡ true
  by_name true n m o h next e = subst (λ k. given_in nu k ≡ true) (some_same n m e) h
  by_name false n m o h next e = next e

  among : (gs : List Given) → AllGiven gs → (name : List ℕ) (n : Num) → width_given gs name ≡ Some n → given_in nu n ≡ true
  among [] are name n e = none e
  among (g ∷ gs) are name n e = by_name (bytes_eq g.name name) g.width n (width_given gs name) are.0 (among gs are.1 name n) e

  -- under a type that is given
  pub widths_are_given : (p : Pat) → uses_failures here.names p ≡ [] → (t : Typ) → typ_given nu t ≡ true → (name : List ℕ) (n : Num)
      → width_given (gives p here.setting (Some t)) name ≡ Some n → given_in nu n ≡ true
  widths_are_given p u t h name n e = among (gives p here.setting (Some t)) (pat_gives p u (Some t) h) name n e
