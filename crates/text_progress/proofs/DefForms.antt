-- Definitions as the grammar has them, those too that are written in parts.
use Rattle.std.proofs.Common.{◌≡◌, true, List, [], ◌∷◌, map, refl, Option, Some, None}
use Rattle.sail_syntax.specs.declared.expressions.Exp.{Exp}
use Rattle.sail_syntax.specs.declared.definitions.Def.{Def}
use Rattle.sail_syntax.specs.declared.definitions.Def.TheVariants as D
use Rattle.sail_syntax.specs.declared.definitions.FunctionClause.{FunctionClause}
use Rattle.sail_syntax.specs.declared.definitions.MappingClause.{MappingClause}
use Rattle.sail_syntax.specs.declared.definitions.Member.{Member}
use Rattle.shape_joins.proofs.Order.{two}
use Rattle.shape_meanings.specs.Whole.{all_of}
use Rattle.body_meanings.specs.Directions.{guard_written}
use Rattle.known_texts.specs.Written.{clause_types_written, clause_written, crossing_written, definition_written, maybe_written, type_written}
use Rattle.text_progress.proofs.ExpForms.{FineIf}

abbrev pub FineMembers : List Member → Type 0
FineMembers ms = all_of (map (λ m. type_written m.typ) ms) ≡ true

abbrev pub FineCrossings : List MappingClause → Type 0
FineCrossings cs = all_of (map crossing_written cs) ≡ true

-- a clause of a function
abbrev pub FineClause : FunctionClause → Type 0
FineClause c = (clause_types_written c ≡ true) × (clause_written c ≡ true)

abbrev pub FineDef : Def → Type 0
FineDef (D.UnionClause place name member) = type_written member.typ ≡ true
FineDef (D.FunctionClause name clause) = FineClause clause
FineDef (D.MappingClause place name clause) = crossing_written clause ≡ true
FineDef d = definition_written d ≡ true

abbrev pub FineDefs : List Def → Type 0
FineDefs [] = Unit {0}
FineDefs (d ∷ ds) = FineDef d × FineDefs ds

-- such definitions are as the grammar has them
pub def_written : (d : Def) → FineDef d → definition_written d ≡ true
def_written (D.UnionClause place name member) h = refl
def_written (D.FunctionClause name clause) h = refl
def_written (D.MappingClause place name clause) h = refl
def_written d h = h

pub defs_written : (ds : List Def) → FineDefs ds → all_of (map definition_written ds) ≡ true
defs_written [] h = refl
defs_written (d ∷ ds) h = two _ _ (def_written d h.0) (defs_written ds h.1)

pub maybe_fine : (o : Option Exp) → FineIf o → maybe_written o ≡ true
maybe_fine None f = refl
maybe_fine (Some e) f = f.is_written

pub guard_fine : (o : Option Exp) → FineIf o → guard_written o ≡ true
guard_fine None f = refl
guard_fine (Some e) f = f.is_written
