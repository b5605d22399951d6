-- Signatures of a text: their types leave nothing open, and each named type in them has its arguments.
use Rattle.std.proofs.Common.{◌≡◌, ℕ, suc, List, [], ◌∷◌, map, refl, sym, ap, ◌∙◌, subst, Bool, true, false, ◌&&◌, if◌then◌else◌, Option, Some, None, find}
use Rattle.std.proofs.Common.{option_map}
use Rattle.std.specs.Option.{option_or}
use Rattle.sail_base.specs.declared.kind.Kind.{Kind}
use Rattle.sail_base.specs.declared.kind.Kind.TheVariants as K
use Rattle.sail_syntax.specs.declared.patterns.Pat.{Pat}
use Rattle.sail_syntax.specs.declared.types.TyExp.{TyExp}
use Rattle.sail_syntax.specs.declared.words.Extent.{Extent}
use Rattle.sail_syntax.specs.declared.words.Extent.TheVariants as E
use Rattle.sail_syntax.specs.declared.definitions.Def.{Def}
use Rattle.sail_syntax.specs.declared.definitions.Def.TheVariants as D
use Rattle.sail_syntax.specs.declared.definitions.FunctionClause.{FunctionClause}
use Rattle.sail_syntax.specs.declared.definitions.Sides.{Sides}
use Rattle.sail_types.specs.Readings.{more, together}
use Rattle.sail_types.specs.Sums.{and_then}
use Rattle.sail_types.specs.declared.numbers.Con.{Con}
use Rattle.sail_types.specs.declared.numbers.Con.TheVariants as C
use Rattle.sail_types.specs.declared.table.Types.{Types}
use Rattle.sail_types.specs.declared.types.Typ.{Typ, Typ-F, out-Typ}
use Rattle.sail_types.specs.declared.types.Typ.TheOpen as T
use Rattle.sail_types.specs.declared.types.Typ.TheViews.{roll-out-Typ}
use Rattle.type_arguments.specs.Taken.{typ_of}
use Rattle.type_arguments.specs.declared.normal.Normal.{Normal}
use Rattle.sail_kinds.specs.declared.scope.Variable.{Variable}
use Rattle.sail_kinds.specs.Normal.{reading_as}
use Rattle.sail_kinds.specs.Scopes.{Within}
use Rattle.type_definitions.specs.Defined.{typ_if, types_of, variables_of}
use Rattle.sail_signatures.specs.declared.signature.Signature.{Signature}
use Rattle.sail_signatures.specs.Signatures.{Named, annotation, body_signature, clause_signature, constraint_read, definition_signature}
use Rattle.sail_signatures.specs.Signatures.{maybe_sides_signature, signature_if, taken_together, typ_annotated, typ_read, typ_written}
use Rattle.sail_signatures.specs.Signatures.{is_body_of, is_val_of}
use Rattle.sail_tables.specs.Refused.{signature_in}
use Rattle.shape_joins.proofs.JoinsLeast.{none, some_same}
use Rattle.shape_joins.proofs.Order.{two}
use Rattle.shape_rules.specs.Calls.{param_shapes, parameters_form, parameters_of}
use Rattle.shape_models.specs.Models.{is_type_variable, type_variables, within_variables}
use Rattle.shape_meanings.specs.Counted.{all_counted}
use Rattle.shape_meanings.specs.Whole.{all_below}
use Rattle.shapes.specs.Tabled.{tabled_of}
use Rattle.known_texts.specs.KnownTexts.{IsWhole}
use Rattle.known_texts.proofs.ReadFormed.{kinds_of, type_kinds, typ_formed}
use Rattle.known_texts.proofs.TableFormed.{scope_of}
use Rattle.known_texts.proofs.WellFormed.{all_formed, formed, formed_at, opened, tuple_formed, typ_shaped, types_shaped, unit_formed}

-- ---- parameters

module _ (types : Types) (n : ℕ) where
  params_form : (t : Typ) (x : Typ-F Typ) → formed types n t ≡ true → opened types n x ≡ true → all_formed types n (parameters_form t x) ≡ true
  params_form t (T.Tuple ts) h k = k
  params_form t x h k = two (formed types n t) true h refl

  pub params_formed : (t : Typ) → formed types n t ≡ true → all_formed types n (parameters_of t) ≡ true
  params_formed t h = params_form t (out-Typ t) h (sym (formed_at types n (out-Typ t)) ∙ ap (formed types n) (roll-out-Typ t) ∙ h)

  -- the shapes of what takes such a type
  pub params_shaped : (t : Typ) → formed types n t ≡ true → (all_below n (param_shapes t) ≡ true) × (all_counted types (param_shapes t) ≡ true)
  params_shaped t h = types_shaped types n (parameters_of t) (params_formed t h)

-- ---- parts of signatures

abbrev pub PartsAre : List Variable → Option Typ → Option Typ → Signature → Type 0
PartsAre variables from to s = (s.variables ≡ variables) × (from ≡ Some s.from) × (to ≡ Some s.to)

pub parts_if : (variables : List Variable) (c : Option Con) (from to : Option Typ) (s : Signature) → signature_if variables c from to ≡ Some s
    → PartsAre variables from to s
parts_if variables None from to s e = none e
parts_if variables (Some c) None to s e = none e
parts_if variables (Some c) (Some f) None s e = none e
parts_if variables (Some c) (Some f) (Some t) s e =
    let it : Signature = record { variables = variables; constraint = c; from = f; to = t } in
    let same : it ≡ s = some_same it s e in
    (ap (λ (x : Signature). x.variables) (sym same), ap (λ (x : Signature). Some x.from) same, ap (λ (x : Signature). Some x.to) same)

kinds_step : (kind : Kind) (kinds : List Kind) (n : ℕ) → type_kinds kinds ≡ n → type_kinds (kind ∷ kinds) ≡ (if is_type_variable kind then suc n else n)
kinds_step K.Int kinds n e = e
kinds_step K.Bool kinds n e = e
kinds_step K.Type kinds n e = ap (λ m. suc m) e

pub kinds_same : (variables : List Variable) → type_kinds (kinds_of variables) ≡ type_variables variables
kinds_same [] = refl
kinds_same (v ∷ variables) = kinds_step v.kind (kinds_of variables) (type_variables variables) (kinds_same variables)

pub same_typ : (o : Option Normal) → typ_if o ≡ and_then o typ_of
same_typ None = refl
same_typ (Some n) = refl

-- ---- signatures of a text

module _ (text : List Def) where
  abbrev types : Types
  types = (tabled_of text).types

  abbrev named : Named
  named = (types_of text).named

  -- what is read under some variables
  read_formed : (variables : List Variable) (typ : TyExp) (t : Typ) → typ_read (within_variables (tabled_of text) variables) typ ≡ Some t
      → formed types (type_variables variables) t ≡ true
  read_formed variables typ t e =
      let w : Within = within_variables (tabled_of text) variables in
      subst (λ n. formed types n t ≡ true) (kinds_same variables)
      (typ_formed types (type_kinds (kinds_of variables)) typ w (scope_of text variables) t (sym (same_typ (reading_as K.Type typ w).normal) ∙ e))

  abbrev pub AreFormed : Signature → Type 0
  AreFormed s = (formed types (type_variables s.variables) s.from ≡ true) × (formed types (type_variables s.variables) s.to ≡ true)

  both_formed : (variables : List Variable) (from to : Option Typ) (s : Signature)
      → ((t : Typ) → from ≡ Some t → formed types (type_variables variables) t ≡ true)
      → ((t : Typ) → to ≡ Some t → formed types (type_variables variables) t ≡ true) → PartsAre variables from to s → AreFormed s
  both_formed variables from to s f g parts = (
    subst (λ vs. formed types (type_variables vs) s.from ≡ true) (sym parts.0) (f s.from parts.1),
    subst (λ vs. formed types (type_variables vs) s.to ≡ true) (sym parts.0) (g s.to parts.2),
  )

  written_formed : (o : Option TyExp) (t : Typ) → typ_written (within_variables (tabled_of text) []) o ≡ Some t → formed types 0 t ≡ true
  written_formed None t e = none e
  written_formed (Some typ) t e = read_formed [] typ t e

  more_formed : (o : Option Typ) (os : Option (List Typ)) (ts : List Typ) → ((t : Typ) → o ≡ Some t → formed types 0 t ≡ true)
      → ((us : List Typ) → os ≡ Some us → all_formed types 0 us ≡ true) → more o os ≡ Some ts → all_formed types 0 ts ≡ true
  more_formed None os ts f g e = none e
  more_formed (Some t) None ts f g e = none e
  more_formed (Some t) (Some us) ts f g e =
      subst (λ xs. all_formed types 0 xs ≡ true) (some_same (t ∷ us) ts e) (two (formed types 0 t) (all_formed types 0 us) (f t refl) (g us refl))

  all_annotated : (ps : List Pat) (ts : List Typ) → together (map (typ_annotated (within_variables (tabled_of text) [])) ps) ≡ Some ts
      → all_formed types 0 ts ≡ true
  all_annotated [] ts e = subst (λ xs. all_formed types 0 xs ≡ true) (some_same [] ts e) refl
  all_annotated (p ∷ ps) ts e =
      more_formed (typ_annotated (within_variables (tabled_of text) []) p) (together (map (typ_annotated (within_variables (tabled_of text) [])) ps)) ts
      (λ t k. written_formed (annotation p) t k) (λ us k. all_annotated ps us k) e

  taken_formed : (ts : List Typ) → all_formed types 0 ts ≡ true → formed types 0 (taken_together ts) ≡ true
  taken_formed [] h = unit_formed types 0
  taken_formed (t ∷ []) h = alone (formed types 0 t) h
    where
      alone : (b : Bool) → (b && true) ≡ true → b ≡ true
      alone true k = refl
      alone false k = k
  taken_formed (t ∷ u ∷ ts) h = tuple_formed types 0 (t ∷ u ∷ ts) h

  mapped_formed : (o : Option (List Typ)) (t : Typ) → ((ts : List Typ) → o ≡ Some ts → all_formed types 0 ts ≡ true) → option_map taken_together o ≡ Some t
      → formed types 0 t ≡ true
  mapped_formed None t f e = none e
  mapped_formed (Some ts) t f e = subst (λ x. formed types 0 x ≡ true) (some_same (taken_together ts) t e) (taken_formed ts (f ts refl))

  clause_formed : (c : FunctionClause) (s : Signature) → clause_signature named c ≡ Some s → AreFormed s
  clause_formed c s e =
      let w : Within = within_variables (tabled_of text) [] in
      let ts : Option (List Typ) = together (map (typ_annotated w) c.parameters) in
      both_formed [] (option_map taken_together ts) (typ_written w c.result) s (λ t k. mapped_formed ts t (λ xs l. all_annotated c.parameters xs l) k)
      (λ t k. written_formed c.result t k) (parts_if [] (Some (C.Truth true)) (option_map taken_together ts) (typ_written w c.result) s e)

  body_formed : (extent : Extent) (cs : List FunctionClause) (s : Signature) → body_signature named extent cs ≡ Some s → AreFormed s
  body_formed E.Whole [] s e = none e
  body_formed E.Whole (c ∷ cs) s e = clause_formed c s e
  body_formed E.Gathered cs s e = none e

  sides_formed : (sides : Option Sides) (s : Signature) → maybe_sides_signature named sides ≡ Some s → AreFormed s
  sides_formed None s e = none e
  sides_formed (Some sides) s e =
      let w : Within = within_variables (tabled_of text) [] in
      both_formed [] (typ_read w sides.left) (typ_read w sides.right) s (λ t k. read_formed [] sides.left t k) (λ t k. read_formed [] sides.right t k)
      (parts_if [] (Some (C.Truth true)) (typ_read w sides.left) (typ_read w sides.right) s e)

  def_formed : (d : Def) (s : Signature) → definition_signature named d ≡ Some s → AreFormed s
  def_formed (D.Val place name quantifier from arrow to) s e =
      let vs : List Variable = variables_of quantifier.variables in
      let w : Within = within_variables (tabled_of text) vs in
      both_formed vs (typ_read w from) (typ_read w to) s (λ t k. read_formed vs from t k) (λ t k. read_formed vs to t k)
      (parts_if vs (constraint_read w quantifier.constraint) (typ_read w from) (typ_read w to) s e)
  def_formed (D.Function place extent name cs) s e = body_formed extent cs s e
  def_formed (D.Mapping place name sides cs) s e = sides_formed sides s e
  def_formed d s e = none e

  found_formed : (o : Option Def) (s : Signature) → and_then o (definition_signature named) ≡ Some s → AreFormed s
  found_formed None s e = none e
  found_formed (Some d) s e = def_formed d s e

  pub signature_formed : (name : List ℕ) (s : Signature) → signature_in text name ≡ Some s → AreFormed s
  signature_formed name s e = found_formed (option_or (find (is_val_of name) text) (find (is_body_of name) text)) s e

-- ---- so it is whole

pub signature_whole : (text : List Def) (name : List ℕ) (s : Signature) → signature_in text name ≡ Some s → IsWhole (tabled_of text).types s
signature_whole text name s e =
    let f = signature_formed text name s e in
    let n : ℕ = type_variables s.variables in
    let takes = params_shaped (tabled_of text).types n s.from f.0 in
    let from = typ_shaped (tabled_of text).types n s.from f.0 in
    let to = typ_shaped (tabled_of text).types n s.to f.1 in
    record { takes = takes.0; gives = to.0; counts = takes.1; from_counts = from.1; to_counts = to.1 }
