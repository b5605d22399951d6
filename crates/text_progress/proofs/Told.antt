-- Types of signatures are written under the type variables of their `val`, and values of the parameters tell each of these that is of Int or Bool.
use Rattle.std.proofs.Common.{◌≡◌, ℕ, zero, suc, ◌<◌, List, [], ◌∷◌, ◌++◌, map, length, ap, sym, ◌∙◌, refl, subst, arith}
use Rattle.std.proofs.Common.{Bool, true, false, ◌&&◌, ◌||◌, bytes_eq, cond, if◌then◌else◌, find, option_map}
use Rattle.std.specs.Prelude.{Option, Some, None, nat_lt}
use Rattle.std.specs.List.{list_any}
use Rattle.std.specs.Option.{option_or}
use Rattle.std.proofs.Math.Numerals.{add-one}
use Rattle.std.proofs.lemmas.Bool.Decides.{nat_tests}
use Rattle.sail_base.specs.declared.kind.Kind.{Kind}
use Rattle.sail_base.specs.declared.kind.Kind.TheVariants as K
use Rattle.sail_syntax.specs.declared.definitions.Def.{Def}
use Rattle.sail_syntax.specs.declared.definitions.Def.TheVariants as D
use Rattle.sail_syntax.specs.declared.definitions.FunctionClause.{FunctionClause}
use Rattle.sail_syntax.specs.declared.definitions.Param.{Param}
use Rattle.sail_syntax.specs.declared.definitions.Sides.{Sides}
use Rattle.sail_syntax.specs.declared.name.Name.{Name}
use Rattle.sail_syntax.specs.declared.patterns.Pat.{Pat}
use Rattle.sail_syntax.specs.declared.types.TyExp.{TyExp}
use Rattle.sail_syntax.specs.declared.words.Arrow.{Arrow}
use Rattle.sail_syntax.specs.declared.words.Arrow.TheVariants as Of
use Rattle.sail_syntax.specs.declared.words.Extent.{Extent}
use Rattle.sail_syntax.specs.declared.words.Extent.TheVariants as E
use Rattle.sail_types.specs.Readings.{together}
use Rattle.sail_types.specs.Sums.{and_then}
use Rattle.sail_types.specs.declared.numbers.Con.{Con}
use Rattle.sail_types.specs.declared.numbers.Con.TheVariants as C
use Rattle.sail_types.specs.declared.table.Parameter.{Parameter}
use Rattle.sail_types.specs.declared.types.Typ.{Typ}
use Rattle.sail_types.specs.declared.types.Typ.TheOpen as T
use Rattle.sail_types.specs.declared.types.Typ.TheVariants as W
use Rattle.type_arguments.specs.Taken.{typ_of}
use Rattle.type_arguments.specs.declared.normal.Normal.{Normal}
use Rattle.type_arguments.proofs.Makings.{map_parts, more_parts, nothing_made}
use Rattle.sail_kinds.specs.declared.scope.FoundVariable.{FoundVariable}
use Rattle.sail_kinds.specs.declared.scope.Variable.{Variable}
use Rattle.sail_kinds.specs.Normal.{reading_as}
use Rattle.sail_kinds.specs.Repeated.{clash_where, clashes, clashes_behind}
use Rattle.sail_kinds.specs.Scopes.{Within, seen_past, variable_of}
use Rattle.type_definitions.specs.Defined.{names_of, typ_if, under, variables_of}
use Rattle.sail_signatures.specs.declared.signature.Signature.{Signature}
use Rattle.sail_signatures.specs.Signatures.{Named, body_signature, clause_signature, constraint_read, definition_signature, is_body_of, is_val_of}
use Rattle.sail_signatures.specs.Signatures.{maybe_sides_signature, signature_if, signature_of, taken_together, typ_annotated, typ_read, typ_written}
use Rattle.sail_signatures.specs.Signatures.{annotation}
use Rattle.sail_core.specs.Numbers.{Givens}
use Rattle.shape_joins.proofs.JoinsLeast.{none, some_same}
use Rattle.shape_joins.proofs.Order.{no, two}
use Rattle.shape_rules.specs.Calls.{parameters_of}
use Rattle.shape_rules.specs.Written.{tells_number, typ_in, untold, written_faults}
use Rattle.shape_meanings.proofs.StructNames.{bytes_same}
use Rattle.shape_meanings.proofs.Bases.{not_none}
use Rattle.shape_models.specs.Models.{Tabled, is_type_variable, params_variables, within_variables}
use Rattle.shape_declarations.specs.Failures.{typ_faults, types_faults}
use Rattle.shape_declarations.specs.Signatures.{number_parameter, number_parameters}
use Rattle.shape_declarations.specs.Vals.{first_bound, is_met, parameters_if, quantifier_faults, val_faults, variable_faults, variables_faults}
use Rattle.text_progress.proofs.Given.{stand_ins, own_scope, typ_there}
use Rattle.text_progress.proofs.KindedTypes.{all_kinded, made, none_below, same_test, tuple_parts, typ_kinded}
use Rattle.text_progress.proofs.TextsGiven.{ScopeGiven, behind_kind}

-- ---- two lists of which nothing is left

pub both_none : {A : Type 0} (xs ys : List A) → xs ++ ys ≡ [] → (xs ≡ []) × (ys ≡ [])
both_none [] ys e = (refl, e)
both_none (x ∷ xs) ys e = not_none e

-- ---- the types of a signature

pub same_typ : (o : Option Normal) → typ_if o ≡ and_then o typ_of
same_typ None = refl
same_typ (Some n) = refl

-- a type that is read in the scope of variables
pub read_kinded : (nu : Givens) (w : Within) → ScopeGiven nu w.variables → (text : TyExp) (t : Typ) → typ_read w text ≡ Some t → typ_kinded nu t ≡ true
read_kinded nu w scope text t e = (typ_there nu w scope text t (sym (same_typ (reading_as K.Type text w).normal) ∙ e)).1

-- what it takes and what it gives
abbrev pub AreKinded : Signature → Type 0
AreKinded s = (typ_kinded (stand_ins s.variables) s.from ≡ true) × (typ_kinded (stand_ins s.variables) s.to ≡ true)

signed_if : (variables : List Variable) (c : Option Con) (from to : Option Typ) (s : Signature)
    → ((t : Typ) → from ≡ Some t → typ_kinded (stand_ins variables) t ≡ true) → ((t : Typ) → to ≡ Some t → typ_kinded (stand_ins variables) t ≡ true)
    → signature_if variables c from to ≡ Some s → AreKinded s
signed_if variables None from to s h k e = none e
signed_if variables (Some c) None to s h k e = none e
signed_if variables (Some c) (Some f) None s h k e = none e
signed_if variables (Some c) (Some f) (Some t) s h k e =
    subst AreKinded (some_same (record { variables = variables; constraint = c; from = f; to = t }) s e) (h f refl, k t refl)

pub none_bound : ScopeGiven [] []
none_bound name found e = none e

written_kinded : (named : Named) (o : Option TyExp) (t : Typ) → typ_written (under named []) o ≡ Some t → typ_kinded [] t ≡ true
written_kinded named None t e = none e
written_kinded named (Some text) t e = read_kinded [] (under named []) none_bound text t e

all_annotated : (named : Named) (ps : List Pat) (ts : List Typ) → together (map (typ_annotated (under named [])) ps) ≡ Some ts → all_kinded [] ts ≡ true
all_annotated named [] ts e = subst (λ (xs : List Typ). all_kinded [] xs ≡ true) (nothing_made ts e) refl
all_annotated named (p ∷ ps) ts e =
    let m = more_parts (typ_annotated (under named []) p) (together (map (typ_annotated (under named [])) ps)) ts e in
    subst (λ (xs : List Typ). all_kinded [] xs ≡ true) m.4
    (two (typ_kinded [] m.0) (all_kinded [] m.1) (written_kinded named (annotation p) m.0 m.2) (all_annotated named ps m.1 m.3))

only_one : (b c : Bool) → (b && c) ≡ true → b ≡ true
only_one true c h = refl
only_one false c h = no h

taken_kinded : (ts : List Typ) → all_kinded [] ts ≡ true → typ_kinded [] (taken_together ts) ≡ true
taken_kinded [] h = made [] T.Unit W.Unit W.rolls-Unit refl
taken_kinded (t ∷ []) h = only_one (typ_kinded [] t) true h
taken_kinded (t ∷ u ∷ ts) h =
    made [] (T.Tuple (t ∷ u ∷ ts)) (W.Tuple (t ∷ u ∷ ts)) (W.rolls-Tuple (t ∷ u ∷ ts)) (tuple_parts [] (t ∷ u ∷ ts) h)

clause_signed : (named : Named) (c : FunctionClause) (s : Signature) → clause_signature named c ≡ Some s → AreKinded s
clause_signed named c s e =
    let takes : Option (List Typ) = together (map (typ_annotated (under named [])) c.parameters) in
    signed_if [] (Some (C.Truth true)) (option_map taken_together takes) (typ_written (under named []) c.result) s
    (λ t k.
    let p = map_parts taken_together takes t k in
    subst (λ x. typ_kinded [] x ≡ true) p.2 (taken_kinded p.0 (all_annotated named c.parameters p.0 p.1)))
    (λ t k. written_kinded named c.result t k) e

body_signed : (named : Named) (extent : Extent) (cs : List FunctionClause) (s : Signature) → body_signature named extent cs ≡ Some s → AreKinded s
body_signed named E.Whole [] s e = none e
body_signed named E.Whole (c ∷ cs) s e = clause_signed named c s e
body_signed named E.Gathered cs s e = none e

sides_signed : (named : Named) (sides : Option Sides) (s : Signature) → maybe_sides_signature named sides ≡ Some s → AreKinded s
sides_signed named None s e = none e
sides_signed named (Some sides) s e =
    signed_if [] (Some (C.Truth true)) (typ_read (under named []) sides.left) (typ_read (under named []) sides.right) s
    (λ t k. read_kinded [] (under named []) none_bound sides.left t k) (λ t k. read_kinded [] (under named []) none_bound sides.right t k) e

definition_signed : (named : Named) (d : Def) (s : Signature) → definition_signature named d ≡ Some s → AreKinded s
definition_signed named (D.Val place own quantifier from arrow to) s e =
    let w : Within = under named quantifier.variables in
    let vs : List Variable = variables_of quantifier.variables in
    signed_if vs (constraint_read w quantifier.constraint) (typ_read w from) (typ_read w to) s
    (λ t k. read_kinded (stand_ins vs) w (own_scope vs) from t k) (λ t k. read_kinded (stand_ins vs) w (own_scope vs) to t k) e
definition_signed named (D.Function place extent own cs) s e = body_signed named extent cs s e
definition_signed named (D.Mapping place own sides cs) s e = sides_signed named sides s e
definition_signed named d s e = none e

found_signed : (named : Named) (o : Option Def) (s : Signature) → and_then o (definition_signature named) ≡ Some s → AreKinded s
found_signed named None s e = none e
found_signed named (Some d) s e = definition_signed named d s e

-- what a function takes and gives uses each type variable as what it stands for
pub signed_kinded : (named : Named) (text : List Def) (name : List ℕ) (s : Signature) → signature_of named text name ≡ Some s → AreKinded s
signed_kinded named text name s e = found_signed named (option_or (find (is_val_of name) text) (find (is_body_of name) text)) s e

-- ---- how many variables have a number

one_count : (kind : Kind) (x : Parameter) (xs : List Parameter) (nu : Givens) → length xs ≡ length nu
    → length (if is_type_variable kind then xs else x ∷ xs) ≡ length (behind_kind kind nu)
one_count K.Type x xs nu h = h
one_count K.Int x xs nu h = ap suc h
one_count K.Bool x xs nu h = ap suc h

pub same_count : (variables : List Variable) → length (number_parameters variables) ≡ length (stand_ins variables)
same_count [] = refl
same_count (v ∷ variables) = one_count v.kind (number_parameter v) (number_parameters variables) (stand_ins variables) (same_count variables)

-- ---- each of them is found by its name, where no name stands twice

-- what is true of each variable that is found by one of these names
abbrev AllFound : (Kind → ℕ → Type 0) → List Variable → List Param → Type 0
AllFound Q variables [] = Unit {0}
AllFound Q variables (p ∷ ps) =
    ((found : FoundVariable) → variable_of p.name.text variables ≡ Some found → Q found.kind found.number) × AllFound Q variables ps

-- seen from inside one variable more
abbrev Past : Kind → (Kind → ℕ → Type 0) → Kind → ℕ → Type 0
Past kind Q own i = Q (seen_past kind (record { kind = own; number = i })).kind (seen_past kind (record { kind = own; number = i })).number

fresh : (b : Bool) (name : Name) → clash_where b name ≡ [] → b ≡ false
fresh true name e = not_none e
fresh false name e = refl

not_first : (b c : Bool) → (b ≡ true → c ≡ true) → c ≡ false → b ≡ false
not_first true c h e = sym (h refl) ∙ e
not_first false c h e = refl

passed : (Q : Kind → ℕ → Type 0) (kind : Kind) (b : Bool) (o : Option FoundVariable) → b ≡ false
    → ((found : FoundVariable) → (if b then Some (record { kind = kind; number = 0 }) else option_map (seen_past kind) o) ≡ Some found
    → Q found.kind found.number)
    → (found : FoundVariable) → o ≡ Some found → Past kind Q found.kind found.number
passed Q kind true o other h found e = no (sym other)
passed Q kind false o other h found e = h (seen_past kind found) (ap (option_map (seen_past kind)) e)

rest_found : (Q : Kind → ℕ → Type 0) (p : Param) (variables : List Variable) (stood : List ℕ → Bool)
    → ((other : List ℕ) → bytes_eq p.name.text other ≡ true → stood other ≡ true) → (qs : List Param) → clashes_behind stood (names_of qs) ≡ []
    → AllFound Q (record { name = p.name.text; kind = p.kind } ∷ variables) qs → AllFound (Past p.kind Q) variables qs
rest_found Q p variables stood told [] once h = tt
rest_found Q p variables stood told (q ∷ qs) once h =
    let k = both_none (clash_where (stood q.name.text) q.name) (clashes_behind (λ other. bytes_eq q.name.text other || stood other) (names_of qs)) once in
    let other : bytes_eq p.name.text q.name.text ≡ false =
    not_first (bytes_eq p.name.text q.name.text) (stood q.name.text) (told q.name.text) (fresh (stood q.name.text) q.name k.0) in (
      passed Q p.kind (bytes_eq p.name.text q.name.text) (variable_of q.name.text variables) other h.0,
      rest_found Q p variables (λ other. bytes_eq q.name.text other || stood other)
          (λ other e. either (bytes_eq q.name.text other) (stood other) (told other e)) qs k.1 h.1,
    )
  where
    either : (b c : Bool) → c ≡ true → (b || c) ≡ true
    either true c h = refl
    either false c h = h

abbrev is_counted : Kind → Bool
is_counted K.Type = false
is_counted kind = true

-- a variable of this number
abbrev Hit : (Kind → ℕ → Type 0) → ℕ → Type 0
Hit Q j = (kind : Kind) × (is_counted kind ≡ true) × Q kind j

hit_past : (Q : Kind → ℕ → Type 0) (j : ℕ) → Hit (Past K.Type Q) j → Hit Q j
hit_past Q j (K.Type, is, q) = no is
hit_past Q j (K.Int, is, q) = (K.Int, refl, q)
hit_past Q j (K.Bool, is, q) = (K.Bool, refl, q)

hit_next : (Q : Kind → ℕ → Type 0) (kind : Kind) → is_counted kind ≡ true → (j : ℕ) → Hit (Past kind Q) j → Hit Q (suc j)
hit_next Q K.Type is j h = no is
hit_next Q K.Int is j (K.Type, own, q) = no own
hit_next Q K.Int is j (K.Int, own, q) = (K.Int, refl, subst (Q K.Int) (add-one j) q)
hit_next Q K.Int is j (K.Bool, own, q) = (K.Bool, refl, subst (Q K.Bool) (add-one j) q)
hit_next Q K.Bool is j (K.Type, own, q) = no own
hit_next Q K.Bool is j (K.Int, own, q) = (K.Int, refl, subst (Q K.Int) (add-one j) q)
hit_next Q K.Bool is j (K.Bool, own, q) = (K.Bool, refl, subst (Q K.Bool) (add-one j) q)

one_hit : (Q : Kind → ℕ → Type 0) (kind : Kind) (nu : Givens) → Q kind 0 → ((j : ℕ) → nat_lt j (length nu) ≡ true → Hit (Past kind Q) j) → (j : ℕ)
    → nat_lt j (length (behind_kind kind nu)) ≡ true → Hit Q j
one_hit Q K.Type nu own rest j low = hit_past Q j (rest j low)
one_hit Q K.Int nu own rest zero low = (K.Int, refl, own)
one_hit Q K.Int nu own rest (suc j) low = hit_next Q K.Int refl j (rest j (sym (same_test j (length nu)) ∙ low))
one_hit Q K.Bool nu own rest zero low = (K.Bool, refl, own)
one_hit Q K.Bool nu own rest (suc j) low = hit_next Q K.Bool refl j (rest j (sym (same_test j (length nu)) ∙ low))

first_found : (Q : Kind → ℕ → Type 0) (kind : Kind) (b : Bool) (o : Option FoundVariable) → b ≡ true
    → ((found : FoundVariable) → (if b then Some (record { kind = kind; number = 0 }) else option_map (seen_past kind) o) ≡ Some found
    → Q found.kind found.number) → Q kind 0
first_found Q kind true o is h = h (record { kind = kind; number = 0 }) refl
first_found Q kind false o is h = no is

all_hit : (Q : Kind → ℕ → Type 0) (ps : List Param) (stood : List ℕ → Bool) → clashes_behind stood (names_of ps) ≡ []
    → AllFound Q (params_variables ps) ps → (j : ℕ) → nat_lt j (length (stand_ins (params_variables ps))) ≡ true → Hit Q j
all_hit Q [] stood once h j low = no (sym (none_below j) ∙ low)
all_hit Q (p ∷ ps) stood once h j low =
    let behind : List ℕ → Bool = λ other. bytes_eq p.name.text other || stood other in
    let k = both_none (clash_where (stood p.name.text) p.name) (clashes_behind behind (names_of ps)) once in
    one_hit Q p.kind (stand_ins (params_variables ps))
    (first_found Q p.kind (bytes_eq p.name.text p.name.text) (variable_of p.name.text (params_variables ps)) (bytes_same p.name.text) h.0)
    (all_hit (Past p.kind Q) ps behind k.1
    (rest_found Q p (params_variables ps) behind (λ other e. first_of (bytes_eq p.name.text other) (stood other) e) ps k.1 h.1)) j low
  where
    first_of : (b c : Bool) → b ≡ true → (b || c) ≡ true
    first_of true c e = refl
    first_of false c e = no e

-- ---- values of the parameters tell each of them (M17)

met : (b : Bool) (name : Name) → untold name b ≡ [] → b ≡ true
met true name e = refl
met false name e = not_none e

one_told : (ts : List Typ) (name : Name) (o : Option FoundVariable) → variable_faults ts name o ≡ [] → (found : FoundVariable) → o ≡ Some found
    → is_met found.kind found.number ts ≡ true
one_told ts name None e found is = none is
one_told ts name (Some x) e found is =
    subst (λ (f : FoundVariable). is_met f.kind f.number ts ≡ true) (some_same x found is) (met (is_met x.kind x.number ts) name e)

all_told : (ts : List Typ) (variables : List Variable) (ps : List Param) → variables_faults ts variables ps ≡ []
    → AllFound (λ kind i. is_met kind i ts ≡ true) variables ps
all_told ts variables [] e = tt
all_told ts variables (p ∷ ps) e =
    let k = both_none (variable_faults ts p.name (variable_of p.name.text variables)) (variables_faults ts variables ps) e in
    (one_told ts p.name (variable_of p.name.text variables) k.0, all_told ts variables ps k.1)

tells : (ts : List Typ) (j : ℕ) → Hit (λ kind i. is_met kind i ts ≡ true) j → list_any (tells_number j) ts ≡ true
tells ts j (K.Type, is, h) = no is
tells ts j (K.Int, is, h) = h
tells ts j (K.Bool, is, h) = h

no_variables : (vs : List Param) → first_bound vs ≡ [] → vs ≡ []
no_variables [] e = refl
no_variables (v ∷ vs) e = not_none e

-- the variables of a `val`, each of another name
abbrev pub ValsAreOnce : List Def → Type 0
ValsAreOnce [] = Unit {0}
ValsAreOnce ((D.Val place own quantifier from arrow to) ∷ text) = (clashes (names_of quantifier.variables) ≡ []) × ValsAreOnce text
ValsAreOnce (d ∷ text) = ValsAreOnce text

module _ (tabled : Tabled) where
  -- what of a definition no failure is found
  abbrev Clean : Def → Type 0
  Clean (D.Val place own quantifier from arrow to) =
      (clashes (names_of quantifier.variables) ≡ [])
      × (val_faults arrow quantifier.variables from to (within_variables tabled (params_variables quantifier.variables)) ≡ [])
  Clean d = Unit {0}

  abbrev AllClean : List Def → Type 0
  AllClean [] = Unit {0}
  AllClean (d ∷ text) = Clean d × AllClean text

  all_clean : (text : List Def) → types_faults tabled text ≡ [] → ValsAreOnce text → AllClean text
  all_clean [] fine once = tt
  all_clean ((D.Val place own quantifier from arrow to) ∷ text) fine once =
      let k = both_none (val_faults arrow quantifier.variables from to (within_variables tabled (params_variables quantifier.variables)))
      (types_faults tabled text) fine in
      ((once.0, k.0), all_clean text k.1 once.1)
  all_clean (d ∷ text) fine once = (tt, all_clean text (both_none (typ_faults tabled d) (types_faults tabled text) fine).1 once)

  clean_if : (b : Bool) (x d : Def) (o : Option Def) → Clean x → (o ≡ Some d → Clean d) → cond b (Some x) o ≡ Some d → Clean d
  clean_if true x d o its next e = subst Clean (some_same x d e) its
  clean_if false x d o its next e = next e

  found_clean : (test : Def → Bool) (text : List Def) → AllClean text → (d : Def) → find test text ≡ Some d → Clean d
  found_clean test [] h d e = none e
  found_clean test (x ∷ text) h d e = clean_if (test x) x d (find test text) h.0 (λ k. found_clean test text h.1 d k) e

  -- each Int or Bool variable that a signature is under is told by a parameter
  abbrev Tells : Signature → Type 0
  Tells s = (j : ℕ) → nat_lt j (length (stand_ins s.variables)) ≡ true → list_any (tells_number j) (parameters_of s.from) ≡ true

  no_tells : (j : ℕ) (A : Type 0) → nat_lt j 0 ≡ true → A
  no_tells j A low = no (sym (none_below j) ∙ low)

  val_tells : (arrow : Arrow) (ps : List Param) (w : Within) → w.variables ≡ params_variables ps → (o : Option Typ) (t : Typ) → o ≡ Some t
      → clashes (names_of ps) ≡ [] → quantifier_faults arrow ps w.variables o ≡ [] → (j : ℕ)
      → nat_lt j (length (stand_ins (params_variables ps))) ≡ true → list_any (tells_number j) (parameters_of t) ≡ true
  val_tells Of.Mapping ps w same o t is once e j low =
      no_tells j (list_any (tells_number j) (parameters_of t) ≡ true)
      (subst (λ (qs : List Param). nat_lt j (length (stand_ins (params_variables qs))) ≡ true) (no_variables ps e) low)
  val_tells Of.Function ps w same o t is once e j low =
      let ts : List Typ = parameters_of t in
      let all : variables_faults ts (params_variables ps) ps ≡ [] =
      sym (λ i. variables_faults (parameters_if (is i)) (same i) ps) ∙ e in
      tells ts j (all_hit (λ kind i. is_met kind i ts ≡ true) ps (λ name. false) once (all_told ts (params_variables ps) ps all) j low)

  if_parts : (variables : List Variable) (c : Option Con) (from to : Option Typ) (s : Signature) → signature_if variables c from to ≡ Some s
      → (s.variables ≡ variables) × (from ≡ Some s.from)
  if_parts variables None from to s e = none e
  if_parts variables (Some c) None to s e = none e
  if_parts variables (Some c) (Some f) None s e = none e
  if_parts variables (Some c) (Some f) (Some t) s e =
      let same : record { variables = variables; constraint = c; from = f; to = t } ≡ s =
      some_same (record { variables = variables; constraint = c; from = f; to = t }) s e in
      (ap (λ (x : Signature). x.variables) (sym same), ap (λ (x : Signature). Some x.from) same)

  under_none : (s : Signature) → s.variables ≡ [] → Tells s
  under_none s is j low =
      no_tells j (list_any (tells_number j) (parameters_of s.from) ≡ true)
      (subst (λ (vs : List Variable). nat_lt j (length (stand_ins vs)) ≡ true) is low)

  body_tells : (extent : Extent) (cs : List FunctionClause) (s : Signature) → body_signature tabled.named extent cs ≡ Some s → Tells s
  body_tells E.Whole [] s e = none e
  body_tells E.Whole (c ∷ cs) s e =
      under_none s (if_parts [] (Some (C.Truth true)) (option_map taken_together (together (map (typ_annotated (under tabled.named [])) c.parameters)))
      (typ_written (under tabled.named []) c.result) s e).0
  body_tells E.Gathered cs s e = none e

  sides_tell : (sides : Option Sides) (s : Signature) → maybe_sides_signature tabled.named sides ≡ Some s → Tells s
  sides_tell None s e = none e
  sides_tell (Some sides) s e =
      under_none s (if_parts [] (Some (C.Truth true)) (typ_read (under tabled.named []) sides.left) (typ_read (under tabled.named []) sides.right) s e).0

  definition_tells : (d : Def) (s : Signature) → Clean d → definition_signature tabled.named d ≡ Some s → Tells s
  definition_tells (D.Val place own quantifier from arrow to) s clean e =
      let ps : List Param = quantifier.variables in
      let u : Within = under tabled.named ps in
      let w : Within = within_variables tabled (params_variables ps) in
      let parts = if_parts (variables_of ps) (constraint_read u quantifier.constraint) (typ_read u from) (typ_read u to) s e in
      let it : typ_in w from ≡ Some s.from = sym (same_typ (reading_as K.Type from u).normal) ∙ parts.1 in
      let k = both_none (quantifier_faults arrow ps w.variables (typ_in w from) ++ written_faults w from) (written_faults w to) clean.1 in
      let l = both_none (quantifier_faults arrow ps w.variables (typ_in w from)) (written_faults w from) k.0 in
      λ j low. val_tells arrow ps w refl (typ_in w from) s.from it clean.0 l.0 j
      (subst (λ (vs : List Variable). nat_lt j (length (stand_ins vs)) ≡ true) parts.0 low)
  definition_tells (D.Function place extent own cs) s clean e = body_tells extent cs s e
  definition_tells (D.Mapping place own sides cs) s clean e = sides_tell sides s e
  definition_tells d s clean e = none e

  either_tells : (text : List Def) → AllClean text → (name : List ℕ) (o : Option Def) → find (is_val_of name) text ≡ o → (s : Signature)
      → and_then (option_or o (find (is_body_of name) text)) (definition_signature tabled.named) ≡ Some s → Tells s
  either_tells text clean name (Some d) is s e = definition_tells d s (found_clean (is_val_of name) text clean d is) e
  either_tells text clean name None is s e = by_body (find (is_body_of name) text) refl e
    where
      by_body : (o : Option Def) → find (is_body_of name) text ≡ o → and_then o (definition_signature tabled.named) ≡ Some s → Tells s
      by_body None is e = none e
      by_body (Some d) is e = definition_tells d s (found_clean (is_body_of name) text clean d is) e

  below : (j n : ℕ) → j < n → nat_lt j n ≡ true
  below j n h = grind (arith, nat_tests, h)

  -- values of a function's parameters tell each of its Int and Bool variables
  pub signature_tells : (text : List Def) → types_faults tabled text ≡ [] → ValsAreOnce text → (name : List ℕ) (s : Signature)
      → signature_of tabled.named text name ≡ Some s → (j : ℕ) → j < length (number_parameters s.variables)
      → list_any (tells_number j) (parameters_of s.from) ≡ true
  signature_tells text fine once name s e j low =
      either_tells text (all_clean text fine once) name (find (is_val_of name) text) refl s e j
      (ap (nat_lt j) (sym (same_count s.variables)) ∙ below j (length (number_parameters s.variables)) low)
