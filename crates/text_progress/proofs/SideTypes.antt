-- The types that the sides of a text's mappings go by are given, where each type that is written under no variable is.
use Rattle.std.proofs.Common.{◌≡◌, ℕ, zero, suc, ◌+◌, List, [], ◌∷◌, ◌++◌, map, refl, sym, ap, ◌∙◌, subst, Bool, true, false, cond, find, Option, Some, None}
use Rattle.std.proofs.Common.{option_map}
use Rattle.std.proofs.lemmas.Bool.{and_parts}
use Rattle.std.specs.Prelude.{is_some, slice_get}
use Rattle.std.specs.Option.{option_or}
use Rattle.std.specs.Str.{bytes_eq}
use Rattle.sail_base.specs.declared.place.Place.{Place}
use Rattle.sail_syntax.specs.declared.definitions.Def.{Def}
use Rattle.sail_syntax.specs.declared.definitions.Def.TheVariants as D
use Rattle.sail_syntax.specs.declared.definitions.FunctionClause.{FunctionClause}
use Rattle.sail_syntax.specs.declared.definitions.Sides.{Sides}
use Rattle.sail_syntax.specs.declared.patterns.Pat.{Pat}
use Rattle.sail_syntax.specs.declared.types.TyExp.{TyExp}
use Rattle.sail_syntax.specs.declared.words.Extent.{Extent}
use Rattle.sail_syntax.specs.declared.words.Extent.TheVariants as E
use Rattle.sail_types.specs.Named as Table
use Rattle.sail_types.specs.Readings.{together}
use Rattle.sail_types.specs.Rows.{row_named}
use Rattle.sail_types.specs.Sums.{and_then}
use Rattle.sail_types.specs.declared.numbers.Con.{Con}
use Rattle.sail_types.specs.declared.numbers.Con.TheVariants as C
use Rattle.sail_types.specs.declared.rows.Row.{Row}
use Rattle.sail_types.specs.declared.shapes.Shape.{Shape}
use Rattle.sail_types.specs.declared.table.Field.{Field}
use Rattle.sail_types.specs.declared.types.Typ.{Typ}
use Rattle.sail_types.specs.declared.types.Typ.TheOpen as T
use Rattle.sail_types.specs.declared.types.Typ.TheVariants as W
use Rattle.type_arguments.specs.Taken.{typ_of}
use Rattle.type_arguments.specs.declared.normal.Normal.{Normal}
use Rattle.type_arguments.proofs.Makings.{map_parts, more_parts, nothing_made}
use Rattle.sail_core.specs.Numbers.{Givens}
use Rattle.sail_base.specs.declared.kind.Kind.TheVariants as Sort
use Rattle.sail_kinds.specs.declared.scope.Variable.{Variable}
use Rattle.sail_kinds.specs.Normal.{reading_as}
use Rattle.sail_globals.specs.declared.naming.Called.TheVariants.{Direction, Mapping}
use Rattle.sail_globals.specs.declared.naming.Naming.{Naming}
use Rattle.sail_globals.specs.declared.naming.Role.TheVariants.{Defined, Whole}
use Rattle.sail_globals.specs.declared.naming.Alone.TheVariants as is
use Rattle.sail_globals.specs.Bound.{is_among, members}
use Rattle.sail_globals.specs.Globals.{is_body}
use Rattle.sail_globals.specs.Namings.{all_namings, backwards_of, body_namings, forwards_of, namings, namings_from, value_naming}
use Rattle.sail_names.specs.Known as Tables
use Rattle.sail_signatures.specs.declared.signature.Signature.{Signature}
use Rattle.sail_signatures.specs.Signatures.{Named, annotation, body_signature, clause_signature, constraint_read, definition_signature, is_body_of}
use Rattle.sail_signatures.specs.Signatures.{is_val_of, maybe_sides_signature, quantified, signature_if, signature_of, taken_together, typ_annotated}
use Rattle.sail_signatures.specs.Signatures.{typ_read, typ_written, variables_in}
use Rattle.sail_tables.specs.Refused.{signature_in}
use Rattle.type_definitions.specs.Defined.{typ_if, types_of, under, variables_of}
use Rattle.normal_forms.specs.Refusals as Refusals
use Rattle.shape_joins.proofs.JoinsLeast.{none, some_same}
use Rattle.shape_joins.proofs.Order.{no, two}
use Rattle.shape_rules.specs.declared.callees.Candidate.{Candidate}
use Rattle.shape_rules.specs.declared.callees.Meant.{Meant}
use Rattle.shape_rules.specs.declared.callees.Meant.TheVariants as M
use Rattle.shape_rules.specs.declared.locals.Local.{Local}
use Rattle.shape_meanings.proofs.StructNames.{bytes_same}
use Rattle.shape_models.specs.declared.entries.Counts.{Counts}
use Rattle.shape_models.specs.declared.entries.Entry.{Entry}
use Rattle.shape_models.specs.Models as Shapes
use Rattle.shape_models.specs.Models.{Tabled, counts_with, def_entries, directions_give, entries, entries_from, gives_by, let_in, meant_in}
use Rattle.shape_models.specs.Models.{added_to_name, candidates, no_counts, or_overload, or_row, params_variables, place_in_table, type_variables}
use Rattle.shape_models.specs.Models.{within_variables}
use Rattle.shapes.specs.Failures.{all_lets, own_in, refusal}
use Rattle.shapes.specs.Tabled.{tabled_of}
use Rattle.known_texts.specs.Accepted.{NothingFails}
use Rattle.known_texts.proofs.Roles.{Covers, IsTaken, covers_left, covers_right, taken_first}
use Rattle.known_texts.proofs.Types.{types_known}
use Rattle.known_texts.proofs.Vals.{vals_signed}
use Rattle.known_texts.specs.Signed.{EachSigned}
use Rattle.known_texts.specs.Written.{IsWritten}
use Rattle.known_texts.proofs.Facts.{each_has}
use Rattle.known_texts.proofs.Quantified.{mapping_plain}
use Rattle.known_texts.proofs.Signed.{each_signed, found_passes}
use Rattle.known_texts.proofs.Tables.{rows_are}
use Rattle.known_texts.proofs.There.{EachHas}
use Rattle.text_progress.specs.GivenTypes.{SidesGiven, all_typs_given, typ_given}
use Rattle.text_progress.specs.Positions.{in_body}
use Rattle.text_progress.proofs.TypesGiven.{made}

-- ---- signatures

module _ (named : Named) (nu : Givens) (reads : (typ : TyExp) (t : Typ) → typ_read (under named []) typ ≡ Some t → typ_given nu t ≡ true) where
  abbrev SignatureGiven : Signature → Type 0
  SignatureGiven s = (typ_given nu s.from ≡ true) × (typ_given nu s.to ≡ true)

  sign : (vs : List Variable) (c : Option Con) (from to : Option Typ) (s : Signature) → signature_if vs c from to ≡ Some s
      → ((t : Typ) → from ≡ Some t → typ_given nu t ≡ true) → ((t : Typ) → to ≡ Some t → typ_given nu t ≡ true) → SignatureGiven s
  sign vs None from to s e a b = none e
  sign vs (Some c) None to s e a b = none e
  sign vs (Some c) (Some f) None s e a b = none e
  sign vs (Some c) (Some f) (Some t) s e a b =
      subst SignatureGiven (some_same (record { variables = vs; constraint = c; from = f; to = t }) s e) (a f refl, b t refl)

  written : (o : Option TyExp) (t : Typ) → typ_written (under named []) o ≡ Some t → typ_given nu t ≡ true
  written None t e = none e
  written (Some typ) t e = reads typ t e

  parameters : (ps : List Pat) (ts : List Typ) → together (map (typ_annotated (under named [])) ps) ≡ Some ts → all_typs_given nu ts ≡ true
  parameters [] ts e = subst (λ xs. all_typs_given nu xs ≡ true) (nothing_made ts e) refl
  parameters (p ∷ ps) ts e =
      let m = more_parts (typ_annotated (under named []) p) (together (map (typ_annotated (under named [])) ps)) ts e in
      subst (λ xs. all_typs_given nu xs ≡ true) m.4
      (two (typ_given nu m.0) (all_typs_given nu m.1) (written (annotation p) m.0 m.2) (parameters ps m.1 m.3))

  taken : (ts : List Typ) → all_typs_given nu ts ≡ true → typ_given nu (taken_together ts) ≡ true
  taken [] h = made nu T.Unit W.Unit W.rolls-Unit refl
  taken (t ∷ []) h = (and_parts (typ_given nu t) true h).0
  taken (t ∷ u ∷ ts) h = made nu (T.Tuple (t ∷ u ∷ ts)) (W.Tuple (t ∷ u ∷ ts)) (W.rolls-Tuple (t ∷ u ∷ ts)) h

  clause_given : (c : FunctionClause) (s : Signature) → clause_signature named c ≡ Some s → SignatureGiven s
  clause_given c s e =
      let parts : Option (List Typ) = together (map (typ_annotated (under named [])) c.parameters) in
      sign [] (Some (C.Truth true)) (option_map taken_together parts) (typ_written (under named []) c.result) s e
      (λ t f. let p = map_parts taken_together parts t f in
      subst (λ x. typ_given nu x ≡ true) p.2 (taken p.0 (parameters c.parameters p.0 p.1)))
      (λ t f. written c.result t f)

  body_given : (extent : Extent) (cs : List FunctionClause) (s : Signature) → body_signature named extent cs ≡ Some s → SignatureGiven s
  body_given E.Whole [] s e = none e
  body_given E.Whole (c ∷ cs) s e = clause_given c s e
  body_given E.Gathered cs s e = none e

  sides_given : (sides : Option Sides) (s : Signature) → maybe_sides_signature named sides ≡ Some s → SignatureGiven s
  sides_given None s e = none e
  sides_given (Some sides) s e =
      sign [] (Some (C.Truth true)) (typ_read (under named []) sides.left) (typ_read (under named []) sides.right) s e (reads sides.left)
      (reads sides.right)

  -- of a definition that binds no variable
  def_given : (d : Def) (s : Signature) → quantified (Some d) ≡ [] → definition_signature named d ≡ Some s → SignatureGiven s
  def_given (D.Val place own quantifier from arrow to) s plain e =
      sign (variables_of quantifier.variables) (constraint_read (under named quantifier.variables) quantifier.constraint)
      (typ_read (under named quantifier.variables) from) (typ_read (under named quantifier.variables) to) s e
      (λ t f. reads from t (ap (λ vs. typ_read (under named vs) from) (sym plain) ∙ f))
      (λ t f. reads to t (ap (λ vs. typ_read (under named vs) to) (sym plain) ∙ f))
  def_given (D.Function place extent own cs) s plain e = body_given extent cs s e
  def_given (D.Mapping place own sides cs) s plain e = sides_given sides s e
  def_given d s plain e = none e

  body_plain : (name : List ℕ) (d : Def) → is_body_of name d ≡ true → quantified (Some d) ≡ []
  body_plain name (D.Val place own quantifier from arrow to) h = no h
  body_plain name d h = refl

  pub signature_given : (text : List Def) (name : List ℕ) (s : Signature) → signature_of named text name ≡ Some s → variables_in text name ≡ []
      → SignatureGiven s
  signature_given text name s e plain = by_val (find (is_val_of name) text) e plain
    where
      by_body : (o : Option Def) → find (is_body_of name) text ≡ o → and_then o (definition_signature named) ≡ Some s → SignatureGiven s
      by_body None f k = none k
      by_body (Some d) f k = def_given d s (body_plain name d (found_passes (is_body_of name) text d f)) k

      by_val : (o : Option Def) → and_then (option_or o (find (is_body_of name) text)) (definition_signature named) ≡ Some s → quantified o ≡ []
          → SignatureGiven s
      by_val (Some d) k p = def_given d s p k
      by_val None k p = by_body (find (is_body_of name) text) refl k

-- ---- names and directions

module _ (tabled : Tabled) (nu : Givens) where
  abbrev MaybeSigned : Option Signature → Type 0
  MaybeSigned None = Unit {0}
  MaybeSigned (Some s) = (typ_given nu s.from ≡ true) × (typ_given nu s.to ≡ true)

  abbrev DefGiven : Def → Type 0
  DefGiven (D.Mapping place name sides cs) = MaybeSigned (tabled.signature name.text)
  DefGiven d = Unit {0}

  abbrev EachGiven : List Def → Type 0
  EachGiven [] = Unit {0}
  EachGiven (d ∷ text) = DefGiven d × EachGiven text

  abbrev MeantGiven : Meant → Type 0
  MeantGiven (M.Mapping m) = (typ_given nu m.left ≡ true) × (typ_given nu m.right ≡ true)
  MeantGiven meant = Unit {0}

  abbrev MaybeGiven : Option Meant → Type 0
  MaybeGiven None = Unit {0}
  MaybeGiven (Some meant) = MeantGiven meant

  abbrev AllEntries : List Entry → Type 0
  AllEntries [] = Unit {0}
  AllEntries (e ∷ es) = MeantGiven e.meant × AllEntries es

  entries_join : (xs ys : List Entry) → AllEntries xs → AllEntries ys → AllEntries (xs ++ ys)
  entries_join [] ys a b = b
  entries_join (x ∷ xs) ys a b = (a.0, entries_join xs ys a.1 b)

  constructors_given : (u count k : ℕ) (fs : List Field) → AllEntries (Shapes.constructors_from u count k fs)
  constructors_given u count k [] = tt
  constructors_given u count k (f ∷ fs) = (tt, constructors_given u count (suc k) fs)

  union_given : (count : ℕ) (o : Option ℕ) → AllEntries (Shapes.union_entries tabled count o)
  union_given count None = tt
  union_given count (Some u) = constructors_given u count 0 (Table.constructors tabled.types u)

  members_given : (i k : ℕ) (ms : List (List ℕ)) → AllEntries (Shapes.members_from i k ms)
  members_given i k [] = tt
  members_given i k (m ∷ ms) = (tt, members_given i (suc k) ms)

  enum_given : (o : Option ℕ) → AllEntries (Shapes.enum_entries tabled o)
  enum_given None = tt
  enum_given (Some i) = members_given i 0 (Table.members tabled.types i)

  function_given : (name : List ℕ) (n : ℕ) (o : Option Signature) → AllEntries (Shapes.function_entry name n o)
  function_given name n None = tt
  function_given name n (Some s) = (tt, tt)

  mapping_given : (name : List ℕ) (n : ℕ) (o : Option Signature) → MaybeSigned o → AllEntries (Shapes.mapping_entries name n o)
  mapping_given name n None h = tt
  mapping_given name n (Some s) h = (tt, (tt, (h, tt)))

  def_entries_given : (d : Def) (counts : Counts) → DefGiven d → AllEntries (def_entries tabled counts d)
  def_entries_given (D.Register place name typ initial) counts h = (tt, tt)
  def_entries_given (D.Enum place name ms) counts h = enum_given (place_in_table tabled name.text)
  def_entries_given (D.Union place name variables cs) counts h =
      union_given (type_variables (params_variables variables)) (place_in_table tabled name.text)
  def_entries_given (D.Function place extent name cs) counts h = function_given name.text counts.functions (tabled.signature name.text)
  def_entries_given (D.Mapping place name sides cs) counts h = mapping_given name.text counts.mappings (tabled.signature name.text) h
  def_entries_given d counts h = tt

  entries_given : (text : List Def) (counts : Counts) → EachGiven text → AllEntries (entries_from tabled counts text)
  entries_given [] counts h = tt
  entries_given (d ∷ text) counts h =
      entries_join (def_entries tabled counts d) (entries_from tabled (counts_with counts d) text) (def_entries_given d counts h.0)
      (entries_given text (counts_with counts d) h.1)

  meant_if : (b : Bool) (meant : Meant) (o : Option Meant) → MeantGiven meant → MaybeGiven o → MaybeGiven (cond b (Some meant) o)
  meant_if true meant o h k = h
  meant_if false meant o h k = k

  among : (es : List Entry) (name : List ℕ) → AllEntries es → MaybeGiven (meant_in es name)
  among [] name h = tt
  among (e ∷ es) name h = meant_if (bytes_eq e.name name) e.meant (meant_in es name) h.0 (among es name h.1)

  let_given : (i : ℕ) (ls : List Local) (name : List ℕ) → MaybeGiven (let_in i ls name)
  let_given i [] name = tt
  let_given i (l ∷ ls) name = meant_if (bytes_eq l.name name) (M.Let i l.shape) (let_in (suc i) ls name) tt (let_given (suc i) ls name)

  over_given : (fs : List Candidate) → MaybeGiven (or_overload None fs)
  over_given [] = tt
  over_given (f ∷ fs) = tt

  value_given : (o l : Option Meant) (row : Option Row) (fs : List Candidate) → MaybeGiven o → MaybeGiven l
      → MaybeGiven (or_overload (or_row (option_or o l) row) fs)
  value_given (Some m) l row fs h k = h
  value_given None (Some m) row fs h k = k
  value_given None None (Some row) fs h k = tt
  value_given None None None fs h k = over_given fs

  -- what directions give

  typs_join : (xs ys : List Typ) → all_typs_given nu xs ≡ true → all_typs_given nu ys ≡ true → all_typs_given nu (xs ++ ys) ≡ true
  typs_join [] ys a b = b
  typs_join (x ∷ xs) ys a b =
      let own = and_parts (typ_given nu x) (all_typs_given nu xs) a in
      two (typ_given nu x) (all_typs_given nu (xs ++ ys)) own.0 (typs_join xs ys own.1 b)

  signed_gives : (o : Option Signature) → MaybeSigned o → all_typs_given nu (Shapes.gives_of o) ≡ true
  signed_gives None h = refl
  signed_gives (Some s) h = two (typ_given nu s.to) (all_typs_given nu (s.from ∷ [])) h.1 (two (typ_given nu s.from) true h.0 refl)

  def_gives : (d : Def) → DefGiven d → all_typs_given nu (gives_by tabled d) ≡ true
  def_gives (D.Mapping place name sides cs) h = signed_gives (tabled.signature name.text) h
  def_gives d h = refl

  all_gives : (text : List Def) → EachGiven text → all_typs_given nu (directions_give tabled text) ≡ true
  all_gives [] h = refl
  all_gives (d ∷ text) h = typs_join (gives_by tabled d) (directions_give tabled text) (def_gives d h.0) (all_gives text h.1)

  typ_there : (ts : List Typ) (i : ℕ) (t : Typ) → all_typs_given nu ts ≡ true → slice_get ts i ≡ Some t → typ_given nu t ≡ true
  typ_there [] i t h e = none e
  typ_there (x ∷ xs) zero t h e =
      subst (λ y. typ_given nu y ≡ true) (some_same x t e) (and_parts (typ_given nu x) (all_typs_given nu xs) h).0
  typ_there (x ∷ xs) (suc i) t h e = typ_there xs i t (and_parts (typ_given nu x) (all_typs_given nu xs) h).1 e

-- ---- a text without failures

module _ (text : List Def) (clear : NothingFails text) (kept : refusal (tabled_of text) text ≡ None) (is_written : IsWritten text) (nu : Givens)
    (reads : (typ : TyExp) (t : Typ) → typ_read (under (types_of text).named []) typ ≡ Some t → typ_given nu t ≡ true) where
  known : Refusals.AreKnown (types_of text).named
  known = types_known text clear.types

  signed : EachSigned text text
  signed = each_signed text clear known (vals_signed text known 0 text clear.bodies) is_written

  has_all : EachHas (tabled_of text) text
  has_all = each_has text text (rows_are text clear known) signed

  abbrev all : List Naming
  all = all_namings text

  body_taken : (at : ℕ) (place : Place) (name : List ℕ) (b : Bool) → Covers all (body_namings at place name b) → IsTaken all name (is_body Mapping)
  body_taken at place name true c =
      c name (is_body Mapping) (taken_first (is_body Mapping) name (value_naming at (Whole is.Mapping) place name)
      (value_naming at (Whole is.Direction) place (forwards_of name) ∷ value_naming at (Whole is.Direction) place (backwards_of name) ∷ [])
      (bytes_same name) refl)
  body_taken at place name false c =
      c name (is_body Mapping) (taken_first (is_body Mapping) name (value_naming at (Defined Mapping) place name)
      (value_naming at (Defined Direction) place (forwards_of name) ∷ value_naming at (Defined Direction) place (backwards_of name) ∷ [])
      (bytes_same name) refl)

  maybe_signed : (name : List ℕ) (o : Option Signature) → signature_in text name ≡ o → variables_in text name ≡ [] → MaybeSigned (tabled_of text) nu o
  maybe_signed name None e plain = tt
  maybe_signed name (Some s) e plain = signature_given (types_of text).named nu reads text name s e plain

  def_is_given : (at : ℕ) (d : Def) → Covers all (namings (is_among (members text)) at d) → DefGiven (tabled_of text) nu d
  def_is_given at (D.Mapping place name sides cs) c =
      maybe_signed name.text (signature_in text name.text) refl
      (mapping_plain text kept clear has_all name.text (body_taken at place name.text (is_some sides) c))
  def_is_given at d c = tt

  each_given : (at : ℕ) (rest : List Def) → Covers all (namings_from (is_among (members text)) at rest) → EachGiven (tabled_of text) nu rest
  each_given at [] c = tt
  each_given at (d ∷ rest) c =
      let mine : List Naming = namings (is_among (members text)) at d in
      let more : List Naming = namings_from (is_among (members text)) (at + 1) rest in
      (def_is_given at d (covers_left all mine more c), each_given (at + 1) rest (covers_right all mine more c))

  given_so : EachGiven (tabled_of text) nu text
  given_so = each_given 0 text (λ n test h. h)

  own_given : (name : List ℕ) → MaybeGiven (tabled_of text) nu (own_in (tabled_of text) text name)
  own_given name =
      among (tabled_of text) nu (entries (tabled_of text) text) name
      (entries_join (tabled_of text) nu (Shapes.union_entries (tabled_of text) 1 (Some 0)) (entries_from (tabled_of text) no_counts text)
      (union_given (tabled_of text) nu 1 (Some 0)) (entries_given (tabled_of text) nu text no_counts given_so))

  same_reading : (o : Option Normal) (t : Typ) → and_then o typ_of ≡ Some t → typ_if o ≡ Some t
  same_reading None t e = none e
  same_reading (Some n) t e = e

  -- of a mapping's own definition
  pub mapping_typed : (name : List ℕ) (s : Signature) → signature_in text name ≡ Some s → variables_in text name ≡ []
      → (typ_given nu s.from ≡ true) × (typ_given nu s.to ≡ true)
  mapping_typed name s e plain = signature_given (types_of text).named nu reads text name s e plain

  -- what a side of a clause can go by
  pub sides_are_given : (answer : Option Shape) (names : Tables.Setting) (converts : ℕ → Bool) → SidesGiven (in_body text [] answer names converts) nu
  sides_are_given answer names converts = record {
    typs = λ typ t u e. reads typ t (same_reading (reading_as Sort.Type typ (within_variables (tabled_of text) [])).normal t e);
    mappings = λ name m e.
        let own = own_in (tabled_of text) text in
        subst (MaybeGiven (tabled_of text) nu) e
        (value_given (tabled_of text) nu (own name) (let_in 0 (all_lets (tabled_of text) text) name) (row_named name)
        (candidates (added_to_name (tabled_of text).types own text name)) (own_given name)
        (let_given (tabled_of text) nu 0 (all_lets (tabled_of text) text) name));
    directions = λ d t e. typ_there (tabled_of text) nu (directions_give (tabled_of text) text) d t (all_gives (tabled_of text) nu text given_so) e;
  }
