-- In a text as the grammar has it, tuples that constructors hold have several parts, and what functions and mappings take isn't nothing.
use Rattle.std.proofs.Common.{◌≡◌, List, [], ◌∷◌, map, refl, sym, ◌∙◌, subst, Bool, true, false, ◌&&◌, cond, find, option_map, Option, Some, None}
use Rattle.std.proofs.lemmas.Bool.{and_parts}
use Rattle.std.specs.Option.{option_or}
use Rattle.sail_base.specs.declared.kind.Kind.TheVariants as K
use Rattle.sail_syntax.specs.declared.patterns.Pat.{Pat}
use Rattle.sail_syntax.specs.declared.types.TyExp.{TyExp}
use Rattle.sail_syntax.specs.declared.words.Extent.{Extent}
use Rattle.sail_syntax.specs.declared.words.Extent.TheVariants as E
use Rattle.sail_syntax.specs.declared.definitions.Def.{Def}
use Rattle.sail_syntax.specs.declared.definitions.Def.TheVariants as D
use Rattle.sail_syntax.specs.declared.definitions.FunctionClause.{FunctionClause}
use Rattle.sail_syntax.specs.declared.definitions.Sides.{Sides}
use Rattle.sail_types.specs.Readings.{more, together}
use Rattle.sail_types.specs.Sums.{and_then}
use Rattle.sail_types.specs.declared.numbers.Con.TheVariants as C
use Rattle.sail_types.specs.declared.types.Typ.{Typ}
use Rattle.sail_types.specs.declared.types.Typ.TheOpen as T
use Rattle.sail_types.specs.declared.types.Typ.TheVariants as W
use Rattle.sail_kinds.specs.declared.scope.Variable.{Variable}
use Rattle.sail_kinds.specs.Normal.{reading_as}
use Rattle.sail_kinds.specs.Scopes.{Within}
use Rattle.type_definitions.specs.Defined.{types_of, variables_of}
use Rattle.sail_signatures.specs.declared.signature.Signature.{Signature}
use Rattle.sail_signatures.specs.Signatures.{Named, annotation, body_signature, clause_signature, constraint_read, definition_signature, is_body_of}
use Rattle.sail_signatures.specs.Signatures.{is_val_of, maybe_sides_signature, taken_together, typ_annotated, typ_read, typ_written}
use Rattle.shape_joins.proofs.JoinsLeast.{none, some_same}
use Rattle.shape_joins.proofs.Order.{two}
use Rattle.shape_models.specs.Models.{within_variables}
use Rattle.shape_meanings.specs.Whole.{all_of}
use Rattle.shapes.specs.Tabled.{tabled_of}
use Rattle.known_texts.specs.Written.{IsWritten, clause_types_written, clause_written, crossing_written, definition_written, has_clauses}
use Rattle.known_texts.specs.Written.{maybe_type_written, sides_written, type_written}
use Rattle.known_texts.proofs.Formed.{parts_if, same_typ}
use Rattle.known_texts.proofs.Several.{all_several, made_typ, several, typ_several, unit_several}
use Rattle.known_texts.proofs.SeveralTables.{names_several, payloads_several, takes_some}
use Rattle.known_texts.proofs.Tuples.{TuplesHaveParts}

-- ---- a definition that is found is as the grammar has it

written_if : (b : Bool) (x d : Def) (o : Option Def) → definition_written x ≡ true → (o ≡ Some d → definition_written d ≡ true) → cond b (Some x) o ≡ Some d
    → definition_written d ≡ true
written_if true x d o its next e = subst (λ y. definition_written y ≡ true) (some_same x d e) its
written_if false x d o its next e = next e

written_found : (test : Def → Bool) (rest : List Def) (d : Def) → all_of (map definition_written rest) ≡ true → find test rest ≡ Some d
    → definition_written d ≡ true
written_found test [] d w e = none e
written_found test (x ∷ rest) d w e =
    let k = and_parts (definition_written x) (all_of (map definition_written rest)) w in
    written_if (test x) x d (find test rest) k.0 (λ f. written_found test rest d k.1 f) e

written_either : (o p : Option Def) (d : Def) → (o ≡ Some d → definition_written d ≡ true) → (p ≡ Some d → definition_written d ≡ true)
    → option_or o p ≡ Some d → definition_written d ≡ true
written_either (Some x) p d f g e = f e
written_either None p d f g e = g e

-- ---- signatures

module _ (text : List Def) (is_written : IsWritten text) where
  abbrev named : Named
  named = (types_of text).named

  abbrev within : List Variable → Within
  within variables = within_variables (tabled_of text) variables

  read_several : (variables : List Variable) (typ : TyExp) → type_written typ ≡ true → (t : Typ) → typ_read (within variables) typ ≡ Some t
      → several t ≡ true
  read_several variables typ w t e =
      typ_several typ w (within variables) (names_several text is_written) t (sym (same_typ (reading_as K.Type typ (within variables)).normal) ∙ e)

  written_several : (o : Option TyExp) → maybe_type_written o ≡ true → (t : Typ) → typ_written (within []) o ≡ Some t → several t ≡ true
  written_several None w t e = none e
  written_several (Some typ) w t e = read_several [] typ w t e

  more_several : (o : Option Typ) (os : Option (List Typ)) (ts : List Typ) → ((t : Typ) → o ≡ Some t → several t ≡ true)
      → ((us : List Typ) → os ≡ Some us → all_several us ≡ true) → more o os ≡ Some ts → all_several ts ≡ true
  more_several None os ts f g e = none e
  more_several (Some t) None ts f g e = none e
  more_several (Some t) (Some us) ts f g e =
      subst (λ xs. all_several xs ≡ true) (some_same (t ∷ us) ts e) (two (several t) (all_several us) (f t refl) (g us refl))

  all_annotated : (ps : List Pat) → all_of (map (λ p. maybe_type_written (annotation p)) ps) ≡ true → (ts : List Typ)
      → together (map (typ_annotated (within [])) ps) ≡ Some ts → all_several ts ≡ true
  all_annotated [] w ts e = subst (λ xs. all_several xs ≡ true) (some_same [] ts e) refl
  all_annotated (p ∷ ps) w ts e =
      let k = and_parts (maybe_type_written (annotation p)) (all_of (map (λ q. maybe_type_written (annotation q)) ps)) w in
      more_several (typ_annotated (within []) p) (together (map (typ_annotated (within [])) ps)) ts
      (λ t f. written_several (annotation p) k.0 t f) (λ us f. all_annotated ps k.1 us f) e

  taken_several : (ts : List Typ) → all_several ts ≡ true → several (taken_together ts) ≡ true
  taken_several [] h = unit_several
  taken_several (t ∷ []) h = (and_parts (several t) true h).0
  taken_several (t ∷ u ∷ ts) h = made_typ (T.Tuple (t ∷ u ∷ ts)) (W.Tuple (t ∷ u ∷ ts)) (W.rolls-Tuple (t ∷ u ∷ ts)) h

  mapped_several : (o : Option (List Typ)) (t : Typ) → ((ts : List Typ) → o ≡ Some ts → all_several ts ≡ true) → option_map taken_together o ≡ Some t
      → several t ≡ true
  mapped_several None t f e = none e
  mapped_several (Some ts) t f e = subst (λ x. several x ≡ true) (some_same (taken_together ts) t e) (taken_several ts (f ts refl))

  abbrev IsSeveral : Signature → Type 0
  IsSeveral s = several s.from ≡ true

  clause_several : (c : FunctionClause) (s : Signature) → clause_types_written c ≡ true → clause_signature named c ≡ Some s → IsSeveral s
  clause_several c s w e =
      let k = and_parts (all_of (map (λ p. maybe_type_written (annotation p)) c.parameters)) (maybe_type_written c.result) w in
      let ts : Option (List Typ) = together (map (typ_annotated (within [])) c.parameters) in
      let parts = parts_if [] (Some (C.Truth true)) (option_map taken_together ts) (typ_written (within []) c.result) s e in
      mapped_several ts s.from (λ us f. all_annotated c.parameters k.0 us f) parts.1

  body_several : (extent : Extent) (cs : List FunctionClause) (s : Signature) → all_of (map clause_types_written cs) ≡ true
      → body_signature named extent cs ≡ Some s → IsSeveral s
  body_several E.Whole [] s w e = none e
  body_several E.Whole (c ∷ cs) s w e = clause_several c s (and_parts (clause_types_written c) (all_of (map clause_types_written cs)) w).0 e
  body_several E.Gathered cs s w e = none e

  sides_several : (sides : Option Sides) (s : Signature) → sides_written sides ≡ true → maybe_sides_signature named sides ≡ Some s → IsSeveral s
  sides_several None s w e = none e
  sides_several (Some sides) s w e =
      let k = and_parts (type_written sides.left) (type_written sides.right) w in
      let parts = parts_if [] (Some (C.Truth true)) (typ_read (within []) sides.left) (typ_read (within []) sides.right) s e in
      read_several [] sides.left k.0 s.from parts.1

  def_several : (d : Def) (s : Signature) → definition_written d ≡ true → definition_signature named d ≡ Some s → IsSeveral s
  def_several (D.Val place name quantifier from arrow to) s w e =
      let vs : List Variable = variables_of quantifier.variables in
      let parts =
      parts_if vs (constraint_read (within vs) quantifier.constraint) (typ_read (within vs) from) (typ_read (within vs) to) s e in
      read_several vs from (and_parts (type_written from) (type_written to) w).0 s.from parts.1
  def_several (D.Function place extent name cs) s w e =
      let k = and_parts (has_clauses extent cs && all_of (map clause_types_written cs)) (all_of (map clause_written cs)) w in
      body_several extent cs s (and_parts (has_clauses extent cs) (all_of (map clause_types_written cs)) k.0).1 e
  def_several (D.Mapping place name sides cs) s w e =
      sides_several sides s (and_parts (sides_written sides) (all_of (map crossing_written cs)) w).0 e
  def_several d s w e = none e

  found_several : (o : Option Def) (s : Signature) → ((d : Def) → o ≡ Some d → definition_written d ≡ true)
      → and_then o (definition_signature named) ≡ Some s → IsSeveral s
  found_several None s f e = none e
  found_several (Some d) s f e = def_several d s (f d refl) e

  pub tuples_have_parts : TuplesHaveParts text
  tuples_have_parts = record {
    taken = λ name s e. takes_some s.from (found_several (option_or (find (is_val_of name) text) (find (is_body_of name) text)) s
        (λ d f. written_either (find (is_val_of name) text) (find (is_body_of name) text) d (λ k. written_found (is_val_of name) text d is_written k)
        (λ k. written_found (is_body_of name) text d is_written k) f) e);
    payloads = λ u. payloads_several text is_written u;
  }
