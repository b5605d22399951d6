-- Errors that say something of the models' texts.
use Rattle.std.specs.Prelude.{◌≡◌, ◌⊎◌, ℕ, List, Option, Some, None, Ok, Err}
use Rattle.bidir_check.specs.declared.error.CheckError.{CheckError}
use Rattle.bidir_check.specs.declared.error.CheckError.TheVariants as check
use Rattle.bidir_check.specs.Certification.{Certification}
use Rattle.monomorph.specs.declared.error.MonoError.{MonoError}
use Rattle.monomorph.specs.declared.error.MonoError.TheVariants as mono
use Rattle.sail_base.specs.declared.place.Place.{Place}
use Rattle.sail_base.specs.declared.refusal.Refusal.{Refusal}
use Rattle.jib_machine.specs.declared.machine.Machine.{Machine}
use Rattle.sail_core.specs.declared.model.CoreModel.{CoreModel}
use Rattle.sail_grammar.specs.Model.{IsModel, IsRefused}
use Rattle.sail_grammar.specs.Symbol.{Sign}
use Rattle.sail_grammar.specs.declared.error.ParseError.{ParseError}
use Rattle.sail_grammar.specs.declared.error.ParseError.TheVariants as parse
use Rattle.sail_kinds.specs.declared.error.TableError.{TableError}
use Rattle.sail_kinds.specs.declared.error.TableError.TheVariants as table
use Rattle.sail_lex.specs.declared.token.LexError.{LexError}
use Rattle.sail_lex.specs.declared.token.LexError.TheVariants as error
use Rattle.sail_syntax.specs.declared.definitions.Def.{Def}
use Rattle.scattered.specs.Gathered.{gathered}
use Rattle.scattered.specs.Refused.{refusal as why_ungathered}
use Rattle.scattered.specs.declared.error.ScatterError.{ScatterError}
use Rattle.scattered.specs.declared.error.ScatterError.TheVariants as scatter
use Rattle.sail_tables.specs.Refused.{IsFirstFailure, IsAccepted}
use Rattle.shape_rules.specs.declared.error.ShapeError.{ShapeError}
use Rattle.shape_rules.specs.declared.error.ShapeError.TheVariants as shape
use Rattle.sail_compile.specs.Models.{IsRefusal}
use Rattle.shapes.specs.Resolved.{resolved}
use Rattle.shapes.specs.Tabled.{tabled_of}
use Rattle.sail_compile.specs.Checked.{checked, instances_of}
use Rattle.sail_compile.specs.Refusals.{parse_refusal, gather_refusal, table_refusal, check_refusal, size_refusal}
use Rattle.sail_compile.specs.Shaped.{why_unshaped, shape_refusal_in}
use Rattle.sail_compile.specs.Engines.{HasRegisters, RunsAs}
use Rattle.sail_compile.specs.Meanings.{IsNumbered, jib}
use Rattle.sail_compile.specs.declared.compiled.Compiled.{Compiled}
use Rattle.sail_compile.specs.parts.Runs.{meant}
use Rattle.sail_compile.specs.declared.models.ModelError.{ModelError}
use Rattle.sail_compile.specs.declared.models.ModelError.TheVariants as model

-- an error is no want of memory
abbrev pub IsOfText : LexError → Type 0
IsOfText error.OutOfMemory = ⊥
IsOfText e = Unit {0}

abbrev pub IsOfTokens : ParseError → Type 0
IsOfTokens parse.OutOfMemory = ⊥
IsOfTokens e = Unit {0}

abbrev pub IsOfDefinitions : ScatterError → Type 0
IsOfDefinitions scatter.OutOfMemory = ⊥
IsOfDefinitions e = Unit {0}

abbrev pub IsOfTables : TableError → Type 0
IsOfTables table.OutOfMemory = ⊥
IsOfTables e = Unit {0}

abbrev pub IsOfShapes : ShapeError → Type 0
IsOfShapes shape.OutOfMemory = ⊥
IsOfShapes e = Unit {0}

abbrev pub IsOfChecks : CheckError → Type 0
IsOfChecks check.OutOfMemory = ⊥
IsOfChecks e = Unit {0}

abbrev pub IsOfSizes : MonoError → Type 0
IsOfSizes mono.OutOfMemory = ⊥
IsOfSizes e = Unit {0}

-- an error tells how the texts are refused; want of memory says nothing of them
abbrev pub Tells : List (List ℕ) → ModelError → Type 0
Tells texts (model.Refused refusal) = IsRefusal texts refusal
Tells texts model.OutOfMemory = Unit {0}

-- a core is that of definitions which have tables and shapes, whatever the numbers of their cycles of calls
abbrev pub IsCoreOf : List Def → CoreModel → Type 0
IsCoreOf whole core = (cycle : List ℕ → Option ℕ) × (core ≡ resolved (tabled_of whole) cycle whole)

-- a core is that of definitions, with numbers of their cycles of calls, where there is one
abbrev pub IsRunCore : List Def → Option CoreModel → Type 0
IsRunCore whole None = Unit {0}
IsRunCore whole (Some core) = IsNumbered whole core

-- definitions whose obligations are closed have these instances, and what takes the steps means what their flat code means
abbrev pub SizedAs : List Def → Compiled Machine → Type 0
SizedAs whole made =
    (instances_of whole ≡ Ok made.accepted.instances)
    × (RunsAs meant jib whole made.run × HasRegisters meant made.accepted.certified.core made.run)

-- the obligations of definitions that have shapes are closed with these certificates, and they are accepted so
abbrev pub ClosedAs : List Def → Compiled Machine → Type 0
ClosedAs whole made = (checked whole ≡ Ok made.accepted.certified) × SizedAs whole made

-- definitions that have tables have shapes, and they are accepted so
abbrev pub ShapedAs : List Def → Compiled Machine → Type 0
ShapedAs whole made = (why_unshaped whole ≡ None) × ClosedAs whole made

-- gathered definitions, which end here, have tables, and they are accepted so
abbrev pub TabledAs : List Def → Place → Compiled Machine → Type 0
TabledAs whole end made = IsAccepted whole end × ShapedAs whole made

-- definitions can be gathered, and gathered they are accepted so
abbrev pub GathersAs : List Def → Place → Compiled Machine → Type 0
GathersAs definitions end made = (why_ungathered definitions ≡ None) × TabledAs (gathered definitions) end made

-- tokens with their end are definitions that are accepted so
abbrev pub ParsesAs : List Sign → Place → Compiled Machine → Type 0
ParsesAs signs end made = (definitions : List Def) × IsModel signs definitions × GathersAs definitions end made

-- definitions that have tables are refused so: their shapes fail, or an obligation isn't closed, or a size is refused
pub data TabledRefused (whole : List Def) : Refusal → Type 0 where
  tabled_unshaped : (e : ShapeError) → why_unshaped whole ≡ Some e → TabledRefused whole (shape_refusal_in whole e)
  tabled_unclosed : (e : CheckError) → why_unshaped whole ≡ None → checked whole ≡ Err e → TabledRefused whole (check_refusal e)
  tabled_unsized : (made : Certification) (e : MonoError) → why_unshaped whole ≡ None → checked whole ≡ Ok made → instances_of whole ≡ Err e →
      TabledRefused whole (size_refusal e)

-- gathered definitions, which end here, are refused so: they have no tables, or they have and are refused
pub data WholeRefused (whole : List Def) (end : Place) : Refusal → Type 0 where
  whole_untabled : (e : TableError) → IsFirstFailure whole end (Some e) → WholeRefused whole end (table_refusal e)
  whole_tabled : {refusal : Refusal} → IsAccepted whole end → TabledRefused whole refusal → WholeRefused whole end refusal

-- definitions are refused so: they can't be gathered, or gathered they are refused
pub data DefinitionsRefused (definitions : List Def) (end : Place) : Refusal → Type 0 where
  definitions_ungathered : (e : ScatterError) → why_ungathered definitions ≡ Some e → DefinitionsRefused definitions end (gather_refusal e)
  definitions_gathered : {refusal : Refusal} → why_ungathered definitions ≡ None → WholeRefused (gathered definitions) end refusal →
      DefinitionsRefused definitions end refusal

-- tokens with their end are refused so: they are no model, or its definitions are refused
pub data TokensRefused (signs : List Sign) (end : Place) : Refusal → Type 0 where
  tokens_unparsed : (e : ParseError) → IsRefused signs end e → TokensRefused signs end (parse_refusal e)
  tokens_parsed : {refusal : Refusal} (definitions : List Def) → IsModel signs definitions → DefinitionsRefused definitions end refusal →
      TokensRefused signs end refusal

-- an error tells how tokens are refused
abbrev pub TellsOfTokens : List Sign → Place → ModelError → Type 0
TellsOfTokens signs end (model.Refused refusal) = TokensRefused signs end refusal
TellsOfTokens signs end model.OutOfMemory = Unit {0}

-- an error tells how definitions are refused
abbrev pub TellsOfDefinitions : List Def → Place → ModelError → Type 0
TellsOfDefinitions definitions end (model.Refused refusal) = DefinitionsRefused definitions end refusal
TellsOfDefinitions definitions end model.OutOfMemory = Unit {0}

-- an error tells how gathered definitions are refused
abbrev pub TellsOfWhole : List Def → Place → ModelError → Type 0
TellsOfWhole whole end (model.Refused refusal) = WholeRefused whole end refusal
TellsOfWhole whole end model.OutOfMemory = Unit {0}

-- an error tells how definitions that have tables are refused
abbrev pub TellsOfTabled : List Def → ModelError → Type 0
TellsOfTabled whole (model.Refused refusal) = TabledRefused whole refusal
TellsOfTabled whole model.OutOfMemory = Unit {0}

-- definitions whose obligations are closed are refused so
abbrev pub SizeRefused : List Def → Refusal → Type 0
SizeRefused whole refusal = (e : MonoError) × (instances_of whole ≡ Err e) × (refusal ≡ size_refusal e)

-- an error tells how definitions whose obligations are closed are refused
abbrev pub TellsOfClosed : List Def → ModelError → Type 0
TellsOfClosed whole (model.Refused refusal) = SizeRefused whole refusal
TellsOfClosed whole model.OutOfMemory = Unit {0}

-- an error tells how definitions that have shapes are refused
abbrev pub TellsOfShaped : List Def → ModelError → Type 0
TellsOfShaped whole (model.Refused refusal) =
    ((e : CheckError) × (checked whole ≡ Err e) × (refusal ≡ check_refusal e))
    ⊎ ((made : Certification) × (checked whole ≡ Ok made) × SizeRefused whole refusal)
TellsOfShaped whole model.OutOfMemory = Unit {0}
