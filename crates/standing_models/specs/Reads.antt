-- Where each type that is written of an expression of a text reads.
use Rattle.std.specs.Prelude.{Bool, true, ◌&&◌, List, [], ◌∷◌, Option, Some, None, is_some}
use Rattle.sail_syntax.specs.declared.definitions.Def.{Def}
use Rattle.sail_syntax.specs.declared.definitions.Def.TheVariants as D
use Rattle.sail_syntax.specs.declared.definitions.FunctionClause.{FunctionClause}
use Rattle.sail_syntax.specs.declared.definitions.MappingClause.{MappingClause}
use Rattle.sail_syntax.specs.declared.definitions.Side.{Side}
use Rattle.sail_syntax.specs.declared.expressions.Exp.{Exp}
use Rattle.sail_syntax.specs.declared.patterns.Pat.{Pat}
use Rattle.sail_syntax.specs.declared.patterns.Pat.TheOpen as P
use Rattle.sail_syntax.specs.declared.patterns.Pat.TheOpen.{Joined-F, Pat-F}
use Rattle.sail_syntax.specs.declared.patterns.Pat.TheFolds.{fold-Pat}
use Rattle.sail_syntax.specs.declared.types.TyExp.{TyExp}
use Rattle.sail_kinds.specs.Scopes.{Within}
use Rattle.sail_signatures.specs.declared.signature.Signature.{Signature}
use Rattle.shape_rules.specs.Written.{typ_in}
use Rattle.shape_models.specs.Models.{Tabled, within_variables}
use Rattle.standing_cores.specs.Types.{every, types_read}

-- ---- sides of mappings, read as expressions

abbrev pub side_form : Within → Pat-F Bool Bool → Bool
side_form within (P.Construct name bs) = every bs
side_form within (P.Group place brackets bs) = every bs
side_form within (P.Concat place a b bs) = (a && b) && every bs
side_form within (P.Cons place a b) = a && b
side_form within (P.As place a name) = a
side_form within (P.Typed place a typ) = is_some (typ_in within typ) && a
side_form within form = true

abbrev pub joined_form : Joined-F Bool Bool → Bool
joined_form j = j.part

abbrev pub side_reads : Within → Pat → Bool
side_reads within = fold-Pat Bool Bool (side_form within) joined_form

-- ---- clauses

abbrev pub expression_reads : Within → Option Exp → Bool
expression_reads within None = true
expression_reads within (Some e) = types_read within e

abbrev pub result_reads : Within → Option TyExp → Bool
result_reads within None = true
result_reads within (Some typ) = is_some (typ_in within typ)

abbrev pub clause_reads : Within → FunctionClause → Bool
clause_reads within c = types_read within c.body && result_reads within c.result

abbrev pub each_clause_reads : Within → List FunctionClause → Bool
each_clause_reads within [] = true
each_clause_reads within (c ∷ cs) = clause_reads within c && each_clause_reads within cs

abbrev pub pair_reads : Within → Side → Bool
pair_reads within side = side_reads within side.pattern && expression_reads within side.guard

abbrev pub crossing_reads : Within → MappingClause → Bool
crossing_reads within c = pair_reads within c.left && pair_reads within c.right

abbrev pub crossings_read : Within → List MappingClause → Bool
crossings_read within [] = true
crossings_read within (c ∷ cs) = crossing_reads within c && crossings_read within cs

-- ---- definitions: under the type variables of their signatures, of which the tables give each function one

abbrev pub called_reads : Tabled → Option Signature → List FunctionClause → Bool
called_reads tabled None clauses = true
called_reads tabled (Some s) clauses = each_clause_reads (within_variables tabled s.variables) clauses

abbrev pub measure_reads : Tabled → Option Signature → Exp → Bool
measure_reads tabled None value = true
measure_reads tabled (Some s) value = types_read (within_variables tabled s.variables) value

abbrev pub definition_reads : Tabled → Def → Bool
definition_reads tabled (D.Function place extent name clauses) = called_reads tabled (tabled.signature name.text) clauses
definition_reads tabled (D.Measure place name parameters value) = measure_reads tabled (tabled.signature name.text) value
definition_reads tabled (D.Mapping place name sides cs) = crossings_read (within_variables tabled []) cs
definition_reads tabled (D.Let place p value) = types_read (within_variables tabled []) value
definition_reads tabled (D.Register place name typ initial) = expression_reads (within_variables tabled []) initial
definition_reads tabled d = true

abbrev pub text_reads : Tabled → List Def → Bool
text_reads tabled [] = true
text_reads tabled (d ∷ text) = definition_reads tabled d && text_reads tabled text
