-- Definitions whose expressions are as the grammar has them, also of parts of scattered ones.
use Rattle.std.proofs.Common.{◌≡◌, true, List, [], ◌∷◌, map, refl, Option, Some, None}
use Rattle.sail_base.specs.declared.place.Place.{Place}
use Rattle.sail_syntax.specs.declared.expressions.Exp.{Exp}
use Rattle.sail_syntax.specs.declared.definitions.Def.{Def}
use Rattle.sail_syntax.specs.declared.definitions.Def.TheVariants as D
use Rattle.sail_syntax.specs.declared.definitions.MappingClause.{MappingClause}
use Rattle.sail_syntax.specs.declared.name.Name.{Name}
use Rattle.sail_syntax.specs.declared.types.TyExp.{TyExp}
use Rattle.sail_grammar.specs.declared.mode.Mode.TheVariants.{Full, Limited}
use Rattle.shape_joins.proofs.Order.{two}
use Rattle.shape_meanings.specs.Whole.{all_of}
use Rattle.text_progress.specs.Manners.{crossing_full, definition_manner, is_full, is_quiet, maybe_full}
use Rattle.accepted_models.proofs.ExpForms.{FineExp, FineIf}

abbrev pub FineCrossings : List MappingClause → Type 0
FineCrossings cs = all_of (map crossing_full cs) ≡ true

abbrev pub FineDef : Def → Type 0
FineDef (D.FunctionClause name clause) = is_full clause.body ≡ true
FineDef (D.MappingClause place name clause) = crossing_full clause ≡ true
FineDef d = definition_manner d ≡ true

abbrev pub FineDefs : List Def → Type 0
FineDefs [] = Unit {0}
FineDefs (d ∷ ds) = FineDef d × FineDefs ds

def_has : (d : Def) → FineDef d → definition_manner d ≡ true
def_has (D.FunctionClause name clause) h = refl
def_has (D.MappingClause place name clause) h = refl
def_has d h = h

pub defs_have : (ds : List Def) → FineDefs ds → all_of (map definition_manner ds) ≡ true
defs_have [] h = refl
defs_have (d ∷ ds) h = two _ _ (def_has d h.0) (defs_have ds h.1)

pub quiet_fine : (e : Exp) → FineExp Limited e → is_quiet e ≡ true
quiet_fine e h = two _ _ (h.suits.plain refl) h.suits.full

pub guard_fine : (o : Option Exp) → FineIf Full o → maybe_full o ≡ true
guard_fine None f = refl
guard_fine (Some e) f = f.suits.full

pub register_fine : (place : Place) (name : Name) (typ : TyExp) (o : Option Exp) → FineIf Limited o → FineDef (D.Register place name typ o)
register_fine place name typ None f = refl
register_fine place name typ (Some e) f = quiet_fine e f
