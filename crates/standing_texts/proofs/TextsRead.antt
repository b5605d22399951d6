-- Types that are written in an accepted text read.
use Rattle.std.proofs.Common.{◌≡◌, ℕ, ◌+◌, List, [], ◌∷◌, ◌++◌, ap, sym, refl, subst, true, Option, Some, None, option_map}
use Rattle.std.specs.Prelude.{is_some}
use Rattle.std.specs.Option.{option_to_list}
use Rattle.sail_base.specs.declared.kind.Kind.TheVariants as Sort
use Rattle.sail_kinds.specs.Failures.{first_failure}
use Rattle.sail_kinds.specs.Normal.{reading_as}
use Rattle.sail_kinds.specs.Scopes.{Within}
use Rattle.sail_kinds.specs.declared.error.TableError.{TableError}
use Rattle.sail_kinds.specs.declared.scope.Variable.{Variable}
use Rattle.sail_syntax.specs.declared.definitions.Def.{Def}
use Rattle.sail_syntax.specs.declared.definitions.Def.TheVariants as D
use Rattle.sail_syntax.specs.declared.definitions.FunctionClause.{FunctionClause}
use Rattle.sail_syntax.specs.declared.definitions.MappingClause.{MappingClause}
use Rattle.sail_syntax.specs.declared.definitions.Side.{Side}
use Rattle.sail_syntax.specs.declared.expressions.Exp.{Exp}
use Rattle.sail_syntax.specs.declared.types.TyExp.{TyExp}
use Rattle.sail_syntax.specs.Bound.{names as names_of}
use Rattle.sail_names.specs.Clauses.{behind_parameters, function_clause_failures, mapping_clause_failures, side_failures, values_failures}
use Rattle.sail_names.specs.Known as Tables
use Rattle.sail_names.specs.Locals as Bound
use Rattle.sail_names.specs.Locals.{behind}
use Rattle.sail_names.specs.Patterns.{binds, clashes, parameters_failures, pattern_failures, type_failures, uses_failures}
use Rattle.sail_names.specs.Uses.{expression_failures, maybe as maybe_failures, maybe_type}
use Rattle.sail_names.specs.declared.around.Allowed.TheVariants.{Any, Plain}
use Rattle.sail_signatures.specs.Signatures.{variables_in}
use Rattle.sail_signatures.specs.declared.signature.Signature.{Signature}
use Rattle.sail_bodies.specs.Bodies.{body_failures, body_failures_from, clauses_failures, setting as names_setting}
use Rattle.sail_tables.specs.Refused.{signature_in}
use Rattle.type_definitions.specs.Defined.{types_of}
use Rattle.known_names.specs.Meanings.{known_in}
use Rattle.shape_joins.proofs.Order.{two}
use Rattle.shape_rules.specs.Scopes.{plainly}
use Rattle.shape_rules.specs.Written.{typ_in}
use Rattle.shape_models.specs.Models.{Tabled, within_variables}
use Rattle.shape_meanings.proofs.Settling.{both_empty}
use Rattle.shape_meanings.specs.Naming.{AreKnown}
use Rattle.body_meanings.specs.Directions.{CrossingsAreNamed}
use Rattle.shapes.specs.Tabled.{tabled_of}
use Rattle.known_texts.specs.Accepted.{NothingFails}
use Rattle.known_texts.specs.Known.{DefinitionKnown, DefinitionsKnown, EachKnown}
use Rattle.known_texts.specs.Whole.{setting_in}
use Rattle.known_texts.specs.Written.{IsWritten}
use Rattle.known_texts.proofs.Assembled.{definitions_known, known_plainly}
use Rattle.known_texts.proofs.Failures.{apart, nothing_fails}
use Rattle.known_texts.proofs.Parts.{tuples_have_parts}
use Rattle.known_texts.proofs.Signed.{variables_are}
use Rattle.known_texts.proofs.Tuples.{TuplesHaveParts}
use Rattle.standing_cores.specs.Types.{types_read}
use Rattle.standing_models.specs.Reads.{called_reads, clause_reads, crossing_reads, crossings_read, definition_reads, each_clause_reads, expression_reads}
use Rattle.standing_models.specs.Reads.{measure_reads, pair_reads, result_reads, side_reads, text_reads}
use Rattle.standing_models.proofs.ReadingFound.{found_reads}
use Rattle.standing_texts.specs.Bodies.{TextsRead}
use Rattle.standing_texts.proofs.SidesRead.{side_is_read}

module _ (text : List Def) (clear : NothingFails text) (is_written : IsWritten text) (tuples : TuplesHaveParts text) where
  abbrev tabled : Tabled
  tabled = tabled_of text

  abbrev within : List Variable → Within
  within variables = within_variables (tabled_of text) variables

  abbrev one_names : List Variable → Tables.Setting
  one_names variables = record { known = known_in text; types = within variables; allowed = Any; number = 0 }

  typ_reads : (variables : List Variable) (names : Tables.Setting) (typ : TyExp) → names.types ≡ within variables
      → type_failures Sort.Type typ names ≡ [] → is_some (typ_in (within variables) typ) ≡ true
  unfolding type_failures
  typ_reads variables names typ is u =
      let are : AreKnown (plainly (setting_in (tabled_of text) text variables)) (one_names variables) =
      known_plainly text clear is_written tuples variables (one_names variables) refl refl in
      let h = are.typs typ (subst (λ (w : Within). option_to_list (first_failure None (reading_as Sort.Type typ w).failures) ≡ []) is u) in
      ap is_some h.1

  expression_types : (variables : List Variable) (e : Exp) (names : Tables.Setting) (bound : Bound.Locals) → names.types ≡ within variables
      → expression_failures e names bound ≡ [] → types_read (within variables) e ≡ true
  expression_types variables e names bound is u =
      found_reads (within variables) (λ other typ same v. typ_reads variables other typ same v) e names bound is u

  maybe_types : (variables : List Variable) (o : Option Exp) (names : Tables.Setting) (bound : Bound.Locals) → names.types ≡ within variables
      → maybe_failures (option_map expression_failures o) names bound ≡ [] → expression_reads (within variables) o ≡ true
  maybe_types variables None names bound is u = refl
  maybe_types variables (Some e) names bound is u = expression_types variables e names bound is u

  result_types : (variables : List Variable) (names : Tables.Setting) → names.types ≡ within variables → (o : Option TyExp) → maybe_type o names ≡ []
      → result_reads (within variables) o ≡ true
  result_types variables names is None u = refl
  result_types variables names is (Some typ) u = typ_reads variables names typ is u

  -- ---- clauses

  clause_types : (variables : List Variable) (names : Tables.Setting) → names.types ≡ within variables → (c : FunctionClause)
      → function_clause_failures names c ≡ [] → clause_reads (within variables) c ≡ true
  clause_types variables names is c u =
      let bound : Bound.Locals = behind_parameters names c.parameters [] in
      let h = both_empty (parameters_failures names c.parameters ++ maybe_type c.result names) (expression_failures c.body names bound) u in
      let k = both_empty (parameters_failures names c.parameters) (maybe_type c.result names) h.0 in
      two (types_read (within variables) c.body) (result_reads (within variables) c.result) (expression_types variables c.body names bound is h.1)
      (result_types variables names is c.result k.1)

  clauses_types : (variables : List Variable) (names : Tables.Setting) → names.types ≡ within variables → (cs : List FunctionClause)
      → clauses_failures names cs ≡ [] → each_clause_reads (within variables) cs ≡ true
  clauses_types variables names is [] u = refl
  clauses_types variables names is (c ∷ cs) u =
      let h = apart (function_clause_failures names c) (clauses_failures names cs) u in
      two (clause_reads (within variables) c) (each_clause_reads (within variables) cs) (clause_types variables names is c h.0)
      (clauses_types variables names is cs h.1)

  pair_types : (names : Tables.Setting) → names.types ≡ within [] → (side : Side) → side_failures names side ≡ [] → pair_reads (within []) side ≡ true
  pair_types names is side u =
      let bound : Bound.Locals = behind (binds names.known side.pattern) [] in
      let h = both_empty (pattern_failures names side.pattern) (maybe_failures (option_map expression_failures side.guard) names bound) u in
      let k = both_empty (uses_failures names side.pattern) (clashes (binds names.known side.pattern)) h.0 in
      two (side_reads (within []) side.pattern) (expression_reads (within []) side.guard)
      (side_is_read (within []) (λ other typ same v. typ_reads [] other typ same v) side.pattern names is k.0)
      (maybe_types [] side.guard names bound is h.1)

  crossing_types : (names : Tables.Setting) → names.types ≡ within [] → (c : MappingClause) → mapping_clause_failures names c ≡ []
      → crossing_reads (within []) c ≡ true
  crossing_types names is c u =
      let one : List TableError = values_failures names (behind (binds names.known c.left.pattern) []) (names_of c.right.pattern) in
      let other : List TableError = values_failures names (behind (binds names.known c.right.pattern) []) (names_of c.left.pattern) in
      let a = both_empty ((side_failures names c.left ++ one) ++ side_failures names c.right) other u in
      let b = both_empty (side_failures names c.left ++ one) (side_failures names c.right) a.0 in
      two (pair_reads (within []) c.left) (pair_reads (within []) c.right)
      (pair_types names is c.left (both_empty (side_failures names c.left) one b.0).0) (pair_types names is c.right b.1)

  crossings_types : (names : Tables.Setting) → names.types ≡ within [] → (cs : List MappingClause) → CrossingsAreNamed names cs
      → crossings_read (within []) cs ≡ true
  crossings_types names is [] h = refl
  crossings_types names is (c ∷ cs) h =
      two (crossing_reads (within []) c) (crossings_read (within []) cs) (crossing_types names is c h.1) (crossings_types names is cs h.2)

  -- ---- definitions

  called_types : (name : List ℕ) (at : ℕ) (cs : List FunctionClause)
      → clauses_failures (names_setting (known_in text) (types_of text) Any (variables_in text name) at) cs ≡ []
      → called_reads tabled (tabled.signature name) cs ≡ true
  called_types name at cs u = by (signature_in text name) refl
    where
      by : (o : Option Signature) → signature_in text name ≡ o → called_reads tabled o cs ≡ true
      by None e = refl
      by (Some s) e =
          clauses_types s.variables (names_setting (known_in text) (types_of text) Any (variables_in text name) at)
          (ap (within_variables (tabled_of text)) (sym (variables_are (types_of text).named text name s e))) cs u

  measure_types : (name : List ℕ) (at : ℕ) (value : Exp) (bound : Bound.Locals)
      → expression_failures value (names_setting (known_in text) (types_of text) Plain (variables_in text name) at) bound ≡ []
      → measure_reads tabled (tabled.signature name) value ≡ true
  measure_types name at value bound u = by (signature_in text name) refl
    where
      by : (o : Option Signature) → signature_in text name ≡ o → measure_reads tabled o value ≡ true
      by None e = refl
      by (Some s) e =
          expression_types s.variables value (names_setting (known_in text) (types_of text) Plain (variables_in text name) at) bound
          (ap (within_variables (tabled_of text)) (sym (variables_are (types_of text).named text name s e))) u

  abbrev plain_names : ℕ → Tables.Setting
  plain_names at = names_setting (known_in text) (types_of text) Plain [] at

  def_types : (at : ℕ) (d : Def) → DefinitionKnown (tabled_of text) text (setting_in (tabled_of text) text) d
      → body_failures text (known_in text) (types_of text) at d ≡ [] → definition_reads tabled d ≡ true
  def_types at (D.Function place extent name cs) knows u = called_types name.text at cs u
  def_types at (D.Measure place name parameters value) knows u =
      let names : Tables.Setting = names_setting (known_in text) (types_of text) Plain (variables_in text name.text) at in
      let bound : Bound.Locals = behind_parameters names parameters [] in
      measure_types name.text at value bound (apart (parameters_failures names parameters) (expression_failures value names bound) u).1
  def_types at (D.Mapping place name sides cs) knows u = crossings_types knows.2.names knows.2.known.within cs knows.2.named
  def_types at (D.Let place p value) knows u =
      expression_types [] value (plain_names at) [] refl (apart (pattern_failures (plain_names at) p) (expression_failures value (plain_names at) []) u).1
  def_types at (D.Register place name typ initial) knows u =
      maybe_types [] initial (plain_names at) [] refl (apart _ (maybe_failures (option_map expression_failures initial) (plain_names at) []) u).1
  def_types at d knows u = refl

  each_types : (at : ℕ) (rest : List Def) → EachKnown (tabled_of text) text (setting_in (tabled_of text) text) rest
      → body_failures_from text (known_in text) (types_of text) at rest ≡ [] → text_reads tabled rest ≡ true
  each_types at [] knows u = refl
  each_types at (d ∷ rest) knows u =
      let h = apart (body_failures text (known_in text) (types_of text) at d) (body_failures_from text (known_in text) (types_of text) (at + 1) rest) u in
      two (definition_reads tabled d) (text_reads tabled rest) (def_types at d knows.0 h.0) (each_types (at + 1) rest knows.1 h.1)

pub text_types : TextsRead
text_types text end accepted kept is_written =
    let clear : NothingFails text = nothing_fails text end accepted in
    let tuples : TuplesHaveParts text = tuples_have_parts text is_written in
    let known : DefinitionsKnown (tabled_of text) text (setting_in (tabled_of text) text) = definitions_known text clear is_written tuples kept in
    each_types text clear is_written tuples 0 text known.1 clear.bodies
