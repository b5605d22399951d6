-- The signature of each function and mapping of a text without failures: by its `val`, or by its body that has its types.
use Rattle.std.proofs.Common.{◌≡◌, ℕ, ◌+◌, List, [], ◌∷◌, ◌++◌, map, refl, sym, ap, ◌∙◌, subst, Bool, true, false, ◌&&◌, ◌||◌, cond, if◌then◌else◌}
use Rattle.std.proofs.Common.{Option, Some, None, find, option_map}
use Rattle.std.proofs.lemmas.Bool.{and_parts}
use Rattle.std.specs.Prelude.{is_some}
use Rattle.std.specs.List.{list_all}
use Rattle.std.specs.Option.{option_or, option_to_list}
use Rattle.std.specs.Str.{bytes_eq}
use Rattle.sail_base.specs.declared.kind.Kind.{Kind}
use Rattle.sail_base.specs.declared.kind.Kind.TheVariants as K
use Rattle.sail_base.specs.declared.place.Place.{Place}
use Rattle.sail_syntax.specs.declared.name.Name.{Name}
use Rattle.sail_syntax.specs.declared.patterns.Pat.{Pat, out-Pat}
use Rattle.sail_syntax.specs.declared.patterns.Pat.TheFolds.{fold-roll-Pat, map-Pat}
use Rattle.sail_syntax.specs.declared.patterns.Pat.TheOpen as P
use Rattle.sail_syntax.specs.declared.patterns.Pat.TheOpen.{Pat-F}
use Rattle.sail_syntax.specs.declared.patterns.Pat.TheViews.{roll-out-Pat}
use Rattle.sail_syntax.specs.declared.patterns.Joined.{Joined}
use Rattle.sail_syntax.specs.declared.types.TyExp.{TyExp}
use Rattle.sail_syntax.specs.declared.words.Arrow.{Arrow}
use Rattle.sail_syntax.specs.declared.words.Arrow.TheVariants as A
use Rattle.sail_syntax.specs.declared.words.Extent.{Extent}
use Rattle.sail_syntax.specs.declared.words.Extent.TheVariants as E
use Rattle.sail_syntax.specs.declared.definitions.Def.{Def}
use Rattle.sail_syntax.specs.declared.definitions.Def.TheVariants as D
use Rattle.sail_syntax.specs.declared.definitions.FunctionClause.{FunctionClause}
use Rattle.sail_syntax.specs.declared.definitions.Member.{Member}
use Rattle.sail_syntax.specs.declared.definitions.Overloaded.TheVariants as O
use Rattle.sail_syntax.specs.declared.definitions.Param.{Param}
use Rattle.sail_syntax.specs.declared.definitions.Sides.{Sides}
use Rattle.sail_types.specs.Readings.{more, together}
use Rattle.sail_types.specs.Sums.{and_then}
use Rattle.sail_types.specs.declared.numbers.Con.{Con as ACon}
use Rattle.sail_types.specs.declared.numbers.Con.TheVariants as Con
use Rattle.sail_types.specs.declared.types.Typ.{Typ}
use Rattle.sail_kinds.specs.declared.error.TableError.{TableError}
use Rattle.sail_kinds.specs.declared.error.TableError.TheVariants as error
use Rattle.sail_kinds.specs.declared.scope.Variable.{Variable}
use Rattle.sail_kinds.specs.Failures.{first_failure}
use Rattle.sail_kinds.specs.Normal.{reading_as}
use Rattle.sail_kinds.specs.Scopes.{Within}
use Rattle.sail_kinds.proofs.Firsts.{none_failed}
use Rattle.sail_names.specs.declared.around.Allowed.TheVariants.{Any}
use Rattle.sail_names.specs.Known as Tables
use Rattle.sail_names.specs.Clauses.{behind_parameters, function_clause_failures}
use Rattle.sail_names.specs.Patterns.{binds, clashes, joined, type_failures, uses_failures, uses_form, uses_joined, uses_of_joined}
use Rattle.sail_names.specs.Uses.{expression_failures, maybe_type}
use Rattle.normal_forms.specs.Refusals.{AreKnown}
use Rattle.normal_forms.proofs.Readings.{Stands}
use Rattle.type_arguments.specs.Taken.{typ_of}
use Rattle.type_arguments.specs.declared.normal.Normal.{Normal}
use Rattle.type_definitions.specs.Defined.{typ_if, types_of, under, variables_of}
use Rattle.sail_signatures.specs.declared.signature.Signature.{Signature}
use Rattle.sail_signatures.specs.Signatures.{Named, body_signature, clause_signature, constraint_read, definition_signature, form_annotation}
use Rattle.sail_signatures.specs.Signatures.{is_body_of, is_val_of, maybe_sides_signature, plain_signature, quantified, signature_if, signature_of}
use Rattle.sail_signatures.specs.Signatures.{taken_together, typ_annotated, typ_read, typ_written, variables_in}
use Rattle.known_names.specs.Meanings.{known_in}
use Rattle.sail_bodies.specs.Bodies.{body_failures, body_failures_from, clauses_failures, mapping_failures, setting, sides_failures}
use Rattle.shape_joins.proofs.JoinsLeast as Nothing
use Rattle.shape_joins.proofs.JoinsLeast.{none, some_same}
use Rattle.shape_joins.proofs.Order.{no}
use Rattle.sail_globals.specs.declared.naming.Alone.TheVariants as is
use Rattle.sail_globals.specs.declared.naming.Called.{Called}
use Rattle.sail_globals.specs.declared.naming.Called.TheVariants.{Direction, Function, Mapping}
use Rattle.sail_globals.specs.declared.naming.Naming.{Naming}
use Rattle.sail_globals.specs.declared.naming.Space.TheVariants.{Values}
use Rattle.sail_globals.specs.Bound.{bound, is_among, is_plain, members}
use Rattle.sail_globals.specs.Clashes.{is_same_called, is_same_space}
use Rattle.sail_globals.specs.Globals.{has_val, is_val}
use Rattle.sail_globals.specs.Namings.{all_namings, body_namings, constructor_naming, let_naming, namings, namings_from, own_naming, val_namings}
use Rattle.sail_declared.specs.Wanting.{all_wanting, form_annotated, is_annotated, is_typed, is_typed_clause, wanting}
use Rattle.shape_meanings.specs.Whole.{all_of}
use Rattle.shape_meanings.proofs.Settling.{same_name}
use Rattle.shape_meanings.proofs.StructNames.{bytes_same}
use Rattle.known_texts.specs.Accepted.{NothingFails, ValsAreSigned}
use Rattle.known_texts.proofs.Failures.{apart}
use Rattle.known_texts.proofs.Roles.{or_elim}
use Rattle.known_texts.proofs.Types.{typ_whole}
use Rattle.known_texts.specs.Signed.{EachSigned, IsSigned}
use Rattle.known_texts.specs.Written.{IsWritten, clause_types_written, clause_written, definition_written, has_clauses}
use Rattle.known_texts.proofs.Classes.{EachOf, both_of, some_of}

-- ---- what is found passes

found_if : {A : Type 0} (test : A → Bool) (b : Bool) (x y : A) (o : Option A) → test x ≡ b → (o ≡ Some y → test y ≡ true) → cond b (Some x) o ≡ Some y
    → test y ≡ true
found_if test true x y o h next e = subst (λ z. test z ≡ true) (some_same x y e) h
found_if test false x y o h next e = next e

pub found_passes : {A : Type 0} (test : A → Bool) (xs : List A) (y : A) → find test xs ≡ Some y → test y ≡ true
found_passes test [] y e = none e
found_passes test (x ∷ xs) y e = found_if test (test x) x y (find test xs) refl (λ k. found_passes test xs y k) e

-- ---- the type variables that a signature is under

variables_if : (variables : List Variable) (c : Option ACon) (from to : Option Typ) (s : Signature) → signature_if variables c from to ≡ Some s
    → s.variables ≡ variables
variables_if variables None from to s e = none e
variables_if variables (Some c) None to s e = none e
variables_if variables (Some c) (Some f) None s e = none e
variables_if variables (Some c) (Some f) (Some t) s e =
    ap (λ (x : Signature). x.variables) (sym (some_same (record { variables = variables; constraint = c; from = f; to = t }) s e))

clause_under : (named : Named) (c : FunctionClause) (s : Signature) → clause_signature named c ≡ Some s → s.variables ≡ []
clause_under named c s e =
    variables_if [] (Some (Con.Truth true)) (option_map taken_together (together (map (typ_annotated (under named [])) c.parameters)))
    (typ_written (under named []) c.result) s e

body_under : (named : Named) (extent : Extent) (cs : List FunctionClause) (s : Signature) → body_signature named extent cs ≡ Some s → s.variables ≡ []
body_under named E.Whole [] s e = none e
body_under named E.Whole (c ∷ cs) s e = clause_under named c s e
body_under named E.Gathered cs s e = none e

sides_under : (named : Named) (sides : Option Sides) (s : Signature) → maybe_sides_signature named sides ≡ Some s → s.variables ≡ []
sides_under named None s e = none e
sides_under named (Some sides) s e =
    variables_if [] (Some (Con.Truth true)) (typ_read (under named []) sides.left) (typ_read (under named []) sides.right) s e

val_variables : (named : Named) (name : List ℕ) (d : Def) (s : Signature) → is_val_of name d ≡ true → definition_signature named d ≡ Some s
    → s.variables ≡ variables_of (quantified (Some d))
val_variables named name (D.Val place own quantifier from arrow to) s h e =
    variables_if (variables_of quantifier.variables) (constraint_read (under named quantifier.variables) quantifier.constraint)
    (typ_read (under named quantifier.variables) from) (typ_read (under named quantifier.variables) to) s e
val_variables named name d s h e = no h

body_variables : (named : Named) (name : List ℕ) (d : Def) (s : Signature) → is_body_of name d ≡ true → definition_signature named d ≡ Some s
    → s.variables ≡ []
body_variables named name (D.Function place extent own cs) s h e = body_under named extent cs s e
body_variables named name (D.Mapping place own sides cs) s h e = sides_under named sides s e
body_variables named name d s h e = no h

pub variables_are : (named : Named) (text : List Def) (name : List ℕ) (s : Signature) → signature_of named text name ≡ Some s
    → s.variables ≡ variables_of (variables_in text name)
variables_are named text name s e = by_val (find (is_val_of name) text) refl e
  where
    by_body : (o : Option Def) → find (is_body_of name) text ≡ o → and_then o (definition_signature named) ≡ Some s → s.variables ≡ []
    by_body None f k = none k
    by_body (Some d) f k = body_variables named name d s (found_passes (is_body_of name) text d f) k

    by_val : (o : Option Def) → find (is_val_of name) text ≡ o
        → and_then (option_or o (find (is_body_of name) text)) (definition_signature named) ≡ Some s
        → s.variables ≡ variables_of (quantified o)
    by_val (Some d) f k = val_variables named name d s (found_passes (is_val_of name) text d f) k
    by_val None f k = by_body (find (is_body_of name) text) refl k

-- ---- by a `val`

val_if : (named : Named) (b : Bool) (x d : Def) (o : Option Def) → Stands (definition_signature named x)
    → (o ≡ Some d → Stands (definition_signature named d)) → cond b (Some x) o ≡ Some d → Stands (definition_signature named d)
val_if named true x d o its next e = subst (λ y. Stands (definition_signature named y)) (some_same x d e) its
val_if named false x d o its next e = next e

val_found : (named : Named) (name : List ℕ) (text : List Def) (d : Def) → ValsAreSigned named text → find (is_val_of name) text ≡ Some d
    → Stands (definition_signature named d)
val_found named name [] d signed e = none e
val_found named name ((D.Val place own quantifier from arrow to) ∷ text) d signed e =
    val_if named (bytes_eq own.text name) (D.Val place own quantifier from arrow to) d (find (is_val_of name) text) (signed.0.0, signed.0.1)
    (λ k. val_found named name text d signed.1 k) e
val_found named name (other ∷ text) d signed e = val_found named name text d signed e

-- ---- where a type has no failure, it stands for one

same_typ : (o : Option Normal) → typ_if o ≡ and_then o typ_of
same_typ None = refl
same_typ (Some n) = refl

typ_stands : (w : Within) → AreKnown w.types → (typ : TyExp) → (reading_as K.Type typ w).failures ≡ [] → Stands (typ_read w typ)
typ_stands w known typ h =
    let t = typ_whole typ w known h in
    (t.0, same_typ (reading_as K.Type typ w).normal ∙ t.1)

no_option : {A : Type 0} (o : Option A) → option_to_list o ≡ [] → o ≡ None
no_option None e = refl
no_option (Some x) e = absurd (cc)

pub typ_fine : (kind : Kind) (typ : TyExp) (names : Tables.Setting) → type_failures kind typ names ≡ [] → (reading_as kind typ names.types).failures ≡ []
unfolding type_failures
typ_fine kind typ names e =
    none_failed (reading_as kind typ names.types).failures (no_option (first_failure None (reading_as kind typ names.types).failures) e)

abbrev used_form : Tables.Setting → Pat-F Pat Joined → Pat-F (List TableError) (List TableError)
used_form names = map-Pat Pat Joined (List TableError) (List TableError) (uses_failures names) (uses_of_joined names)

module _ (names : Tables.Setting) (known : AreKnown names.types.types) where
  form_typed : (d : Pat-F Pat Joined) → form_annotated d ≡ true → uses_form names (used_form names d) ≡ []
      → Stands (typ_written names.types (form_annotation d))
  form_typed (P.Typed place part typ) h e =
      typ_stands names.types known typ
      (typ_fine K.Type typ names (apart (uses_failures names part) (type_failures K.Type typ names) e).1)
  form_typed d h e = no h

  annotated : (p : Pat) → is_annotated p ≡ true → uses_failures names p ≡ [] → Stands (typ_annotated names.types p)
  annotated p h e =
      form_typed (out-Pat p) h
      (sym (fold-roll-Pat (List TableError) (List TableError) (uses_form names) uses_joined (out-Pat p))
      ∙ ap (uses_failures names) (roll-out-Pat p) ∙ e)

  one_more : (o : Option Typ) (os : Option (List Typ)) → Stands o → Stands os → Stands (more o os)
  one_more o os s t = (s.0 ∷ t.0, λ i. more (s.1 i) (t.1 i))

  all_annotated : (ps : List Pat) → list_all is_annotated ps ≡ true → joined (map (uses_failures names) ps) ≡ []
      → Stands (together (map (typ_annotated names.types) ps))
  all_annotated [] h e = ([], refl)
  all_annotated (p ∷ ps) h e =
      let k = and_parts (is_annotated p) (list_all is_annotated ps) h in
      let u = apart (uses_failures names p) (joined (map (uses_failures names) ps)) e in
      one_more (typ_annotated names.types p) (together (map (typ_annotated names.types) ps)) (annotated p k.0 u.0) (all_annotated ps k.1 u.1)

  result_written : (o : Option TyExp) → is_some o ≡ true → maybe_type o names ≡ [] → Stands (typ_written names.types o)
  result_written None h e = no h
  result_written (Some typ) h e = typ_stands names.types known typ (typ_fine K.Type typ names e)

  abbrev read_clause : Within → FunctionClause → Option Signature
  read_clause w c = plain_signature (option_map taken_together (together (map (typ_annotated w) c.parameters))) (typ_written w c.result)

  pub clause_stands : (c : FunctionClause) → is_typed_clause c ≡ true → function_clause_failures names c ≡ [] → Stands (read_clause names.types c)
  clause_stands c h e =
      let k = and_parts (is_some c.result) (list_all is_annotated c.parameters) h in
      let uses : List TableError = joined (map (uses_failures names) c.parameters) in
      let twice : List TableError = clashes (joined (map (binds names.known) c.parameters)) in
      let f = apart ((uses ++ twice) ++ maybe_type c.result names) (expression_failures c.body names (behind_parameters names c.parameters [])) e in
      let g = apart (uses ++ twice) (maybe_type c.result names) f.0 in
      let ts = all_annotated c.parameters k.1 (apart uses twice g.0).0 in
      let t = result_written c.result k.0 g.1 in (
        record { variables = []; constraint = Con.Truth true; from = taken_together ts.0; to = t.0 },
        λ i. plain_signature (option_map taken_together (ts.1 i)) (t.1 i),
      )

-- ---- a text without failures

-- no `val` of a name where none is found
module _ (name : List ℕ) (called : Called) (apart_so : is_same_called called Direction ≡ false) where
  abbrev IsNoVal : Naming → Type 0
  IsNoVal n = is_val called n.role ≡ true → bytes_eq n.name name ≡ true → ⊥

  owned_no_vals : (at : ℕ) (ms : List Name) → EachOf IsNoVal (map (own_naming at is.Member) ms)
  owned_no_vals at [] = tt
  owned_no_vals at (m ∷ ms) = (λ h k. no h, owned_no_vals at ms)

  constructors_no_vals : (at : ℕ) (cs : List Member) → EachOf IsNoVal (map (constructor_naming at) cs)
  constructors_no_vals at [] = tt
  constructors_no_vals at (c ∷ cs) = (λ h k. no h, constructors_no_vals at cs)

  lets_no_vals : (at : ℕ) (place : Place) (plain : Bool) (ns : List Name) → EachOf IsNoVal (map (let_naming at place plain) ns)
  lets_no_vals at place plain [] = tt
  lets_no_vals at place plain (n ∷ ns) = (λ h k. no h, lets_no_vals at place plain ns)

  body_no_vals : (at : ℕ) (place : Place) (own : List ℕ) (b : Bool) → EachOf IsNoVal (body_namings at place own b)
  body_no_vals at place own true = (λ h k. no h, (λ h k. no h, (λ h k. no h, tt)))
  body_no_vals at place own false = (λ h k. no h, (λ h k. no h, (λ h k. no h, tt)))

  val_no_vals : (at : ℕ) (place : Place) (own : List ℕ) (arrow : Arrow) → bytes_eq own name ≡ false → EachOf IsNoVal (val_namings at place own arrow)
  val_no_vals at place own A.Function other = (λ h k. no (sym other ∙ k), tt)
  val_no_vals at place own A.Mapping other =
      (λ h k. no (sym other ∙ k), (λ h k. no (sym apart_so ∙ h), (λ h k. no (sym apart_so ∙ h), tt)))

  cut_if : (b : Bool) (d : Def) (o : Option Def) → cond b (Some d) o ≡ None → (b ≡ false) × (o ≡ None)
  cut_if true d o e = absurd (cc)
  cut_if false d o e = (refl, e)

  def_no_vals : (is_member : List ℕ → Bool) (at : ℕ) (d : Def) → is_val_of name d ≡ false → EachOf IsNoVal (namings is_member at d)
  def_no_vals is_member at (D.Val place own quantifier from arrow to) h = val_no_vals at place own.text arrow h
  def_no_vals is_member at (D.Register place own typ initial) h = (λ k l. no k, tt)
  def_no_vals is_member at (D.Enum place own ms) h = (λ k l. no k, owned_no_vals at ms)
  def_no_vals is_member at (D.Union place own variables cs) h = (λ k l. no k, constructors_no_vals at cs)
  def_no_vals is_member at (D.Function place extent own clauses) h = (λ k l. no k, tt)
  def_no_vals is_member at (D.Mapping place own sides cs) h = body_no_vals at place own.text (is_some sides)
  def_no_vals is_member at (D.Alias place own parameters kind typ) h = (λ k l. no k, tt)
  def_no_vals is_member at (D.Struct place own parameters fs) h = (λ k l. no k, tt)
  def_no_vals is_member at (D.Measure place own parameters value) h = (λ k l. no k, tt)
  def_no_vals is_member at (D.Let place p value) h = lets_no_vals at place (is_plain p) (bound is_member p)
  def_no_vals is_member at (D.Overload place (O.Named own) added) h = (λ k l. no k, tt)
  def_no_vals is_member at d h = tt

  each_no_vals : (is_member : List ℕ → Bool) (at : ℕ) (rest : List Def) → find (is_val_of name) rest ≡ None
      → EachOf IsNoVal (namings_from is_member at rest)
  each_no_vals is_member at [] e = tt
  each_no_vals is_member at (d ∷ rest) e =
      let k = cut_if (is_val_of name d) d (find (is_val_of name) rest) e in
      both_of IsNoVal (namings is_member at d) (namings_from is_member (at + 1) rest) (def_no_vals is_member at d k.0)
      (each_no_vals is_member (at + 1) rest k.1)

  pub no_val : (text : List Def) → find (is_val_of name) text ≡ None → has_val (all_namings text) called name ≡ true → ⊥
  no_val text e h =
      let x = some_of IsNoVal (is_val called) name (all_namings text) (each_no_vals (is_among (members text)) 0 text e) h in
      x.1 x.2 (and_parts (is_same_space x.0.space Values) (bytes_eq x.0.name name) x.3).1

or_true : (b : Bool) (e : TableError) → (if b then [] else e ∷ []) ≡ [] → b ≡ true
or_true true e h = refl
or_true false e h = absurd (cc)

module _ (text : List Def) (clear : NothingFails text) (known : AreKnown (types_of text).named) (signed : ValsAreSigned (types_of text).named text) where
  abbrev named : Named
  named = (types_of text).named

  abbrev names_at : ℕ → List ℕ → Tables.Setting
  names_at at name = setting (known_in text) (types_of text) Any (variables_in text name) at

  -- its body, where it has no `val`
  typed_body : (at : ℕ) (name : List ℕ) (extent : Extent) (cs : List FunctionClause) → find (is_val_of name) text ≡ None → is_typed extent cs ≡ true
      → has_clauses extent cs ≡ true → clauses_failures (names_at at name) cs ≡ [] → Stands (body_signature named extent cs)
  typed_body at name E.Gathered cs none h w e = no h
  typed_body at name E.Whole [] none h w e = no w
  typed_body at name E.Whole (c ∷ cs) none h w e =
      let own : is_typed_clause c ≡ true = (and_parts (is_typed_clause c) (list_all is_typed_clause cs) h).0 in
      let fine : function_clause_failures (names_at at name) c ≡ [] =
      (apart (function_clause_failures (names_at at name) c) (joined (map (function_clause_failures (names_at at name)) cs)) e).0 in
      subst (λ (vs : List Param). Stands (read_clause (names_at at name) known (under named vs) c)) (ap quantified none)
      (clause_stands (names_at at name) known c own fine)

  typed_sides : (at : ℕ) (name : List ℕ) (sides : Option Sides) → find (is_val_of name) text ≡ None → is_some sides ≡ true
      → sides_failures (names_at at name) sides ≡ [] → Stands (maybe_sides_signature named sides)
  typed_sides at name None none h e = no h
  typed_sides at name (Some sides) none h e =
      let w : Within = under named (variables_in text name) in
      let k = apart (reading_as K.Type sides.left w).failures (reading_as K.Type sides.right w).failures e in
      let l = typ_stands w known sides.left k.0 in
      let r = typ_stands w known sides.right k.1 in
      subst (λ (vs : List Param). Stands (plain_signature (typ_read (under named vs) sides.left) (typ_read (under named vs) sides.right)))
      (ap quantified none) (
        record { variables = []; constraint = Con.Truth true; from = l.0; to = r.0 },
        λ i. plain_signature (l.1 i) (r.1 i),
      )

  abbrev fails_at : ℕ → Def → List TableError
  fails_at at d = body_failures text (known_in text) (types_of text) at d

  abbrev fail_from : ℕ → List Def → List TableError
  fail_from at rest = body_failures_from text (known_in text) (types_of text) at rest

  body_stands : (at : ℕ) (name : List ℕ) (d : Def) → is_body_of name d ≡ true → find (is_val_of name) text ≡ None → wanting (all_namings text) d ≡ []
      → fails_at at d ≡ [] → definition_written d ≡ true → Stands (definition_signature named d)
  body_stands at name (D.Function place extent own cs) its none lacks e w =
      let same : own.text ≡ name = same_name own.text name its in
      let none_own : find (is_val_of own.text) text ≡ None = ap (λ n. find (is_val_of n) text) same ∙ none in
      let has_one : (has_val (all_namings text) Function own.text || is_typed extent cs) ≡ true =
      or_true (has_val (all_namings text) Function own.text || is_typed extent cs) (error.NoName place own.text) lacks in
      let types = (and_parts (has_clauses extent cs && all_of (map clause_types_written cs)) (all_of (map clause_written cs)) w).0 in
      or_elim (has_val (all_namings text) Function own.text) (is_typed extent cs) has_one
      (λ h. absurd (no_val own.text Function refl text none_own h))
      (λ h. typed_body at own.text extent cs none_own h (and_parts (has_clauses extent cs) (all_of (map clause_types_written cs)) types).0 e)
  body_stands at name (D.Mapping place own sides cs) its none lacks e w =
      let same : own.text ≡ name = same_name own.text name its in
      let none_own : find (is_val_of own.text) text ≡ None = ap (λ n. find (is_val_of n) text) same ∙ none in
      let has_one : (has_val (all_namings text) Mapping own.text || is_some sides) ≡ true =
      or_true (has_val (all_namings text) Mapping own.text || is_some sides) (error.NoName place own.text) lacks in
      or_elim (has_val (all_namings text) Mapping own.text) (is_some sides) has_one
      (λ h. absurd (no_val own.text Mapping refl text none_own h))
      (λ h. typed_sides at own.text sides none_own h
      (apart (sides_failures (names_at at own.text) sides) (mapping_failures (names_at at own.text) cs) e).0)
  body_stands at name d its none lacks e w = no its

  -- the body that is found is one without a failure
  body_found : (at : ℕ) (rest : List Def) (name : List ℕ) (d : Def) → all_wanting (all_namings text) rest ≡ [] → fail_from at rest ≡ []
      → all_of (map definition_written rest) ≡ true → find (is_val_of name) text ≡ None → find (is_body_of name) rest ≡ Some d
      → Stands (definition_signature named d)
  body_found at [] name d lacks e w none found = Nothing.none found
  body_found at (x ∷ rest) name d lacks e w none found =
      let l = apart (wanting (all_namings text) x) (all_wanting (all_namings text) rest) lacks in
      let f = apart (fails_at at x) (fail_from (at + 1) rest) e in
      let k = and_parts (definition_written x) (all_of (map definition_written rest)) w in
      by_test (is_body_of name x) refl l.0 f.0 k.0 (λ found. body_found (at + 1) rest name d l.1 f.1 k.1 none found) found
    where
      by_test : (b : Bool) → is_body_of name x ≡ b → wanting (all_namings text) x ≡ [] → fails_at at x ≡ [] → definition_written x ≡ true
          → (find (is_body_of name) rest ≡ Some d → Stands (definition_signature named d)) → cond b (Some x) (find (is_body_of name) rest) ≡ Some d
          → Stands (definition_signature named d)
      by_test true its lacks e w next found =
          subst (λ y. Stands (definition_signature named y)) (some_same x d found) (body_stands at name x its none lacks e w)
      by_test false its lacks e w next found = next found

  module _ (written_so : IsWritten text) where
    pub signature_stands : (name : List ℕ) → is_some (find (is_body_of name) text) ≡ true → Stands (signature_of named text name)
    signature_stands name there = by_val (find (is_val_of name) text) refl
      where
        by_body : (o : Option Def) → find (is_body_of name) text ≡ o → is_some o ≡ true → find (is_val_of name) text ≡ None
            → Stands (and_then o (definition_signature named))
        by_body None f h none = no h
        by_body (Some d) f h none = body_found 0 text name d clear.parts clear.bodies written_so none f

        by_val : (o : Option Def) → find (is_val_of name) text ≡ o
            → Stands (and_then (option_or o (find (is_body_of name) text)) (definition_signature named))
        by_val (Some d) f = val_found named name text d signed f
        by_val None f = by_body (find (is_body_of name) text) refl there f

    some_cond : (b : Bool) (x : Def) (o : Option Def) → is_some o ≡ true → is_some (cond b (Some x) o) ≡ true
    some_cond true x o h = refl
    some_cond false x o h = h

    here_cond : (b : Bool) (x : Def) (o : Option Def) → b ≡ true → is_some (cond b (Some x) o) ≡ true
    here_cond true x o h = refl
    here_cond false x o h = no h

    def_signed : (d : Def) (rest : List Def)
        → ((name : List ℕ) → is_some (find (is_body_of name) (d ∷ rest)) ≡ true → is_some (find (is_body_of name) text) ≡ true) → IsSigned text d
    def_signed (D.Function place extent own cs) rest f =
        signature_stands own.text (f own.text (here_cond (bytes_eq own.text own.text) (D.Function place extent own cs) (find (is_body_of own.text) rest)
        (bytes_same own.text)))
    def_signed (D.Mapping place own sides cs) rest f =
        signature_stands own.text (f own.text (here_cond (bytes_eq own.text own.text) (D.Mapping place own sides cs) (find (is_body_of own.text) rest)
        (bytes_same own.text)))
    def_signed d rest f = tt

    each_from : (rest : List Def)
        → ((name : List ℕ) → is_some (find (is_body_of name) rest) ≡ true → is_some (find (is_body_of name) text) ≡ true) → EachSigned text rest
    each_from [] f = tt
    each_from (d ∷ rest) f = (
      def_signed d rest f,
      each_from rest (λ name h. f name (some_cond (is_body_of name d) d (find (is_body_of name) rest) h)),
    )

    pub each_signed : EachSigned text text
    each_signed = each_from text (λ name h. h)
