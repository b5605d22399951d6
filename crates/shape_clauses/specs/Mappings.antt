-- Mappings: each clause is read in both directions (Sail language manual, "Mappings").
use Rattle.std.specs.Prelude.{ℕ, List, [], ◌∷◌, ◌++◌, map, Option, Some, None, option_map}
use Rattle.sail_base.specs.declared.place.Place.{Place}
use Rattle.sail_syntax.specs.declared.expressions.Exp.{Exp}
use Rattle.sail_syntax.specs.declared.definitions.Def.{Def}
use Rattle.sail_syntax.specs.declared.definitions.Def.TheVariants as D
use Rattle.sail_syntax.specs.declared.definitions.MappingClause.{MappingClause}
use Rattle.sail_syntax.specs.declared.definitions.Side.{Side}
use Rattle.sail_types.specs.Shapes.{shape}
use Rattle.sail_types.specs.declared.shapes.Shape.{Shape}
use Rattle.sail_types.specs.declared.types.Typ.{Typ}
use Rattle.sail_signatures.specs.declared.signature.Signature.{Signature}
use Rattle.sail_core.specs.declared.patterns.Arm.{Arm}
use Rattle.sail_core.specs.declared.patterns.Arm.TheVariants as A
use Rattle.sail_core.specs.declared.tree.Core.{Core}
use Rattle.sail_core.specs.declared.model.Direction.{Direction}
use Rattle.core_numbers.specs.Numbers.{numbered}
use Rattle.shape_rules.specs.declared.callees.Mapping.{Mapping}
use Rattle.shape_rules.specs.declared.error.ShapeError.{ShapeError}
use Rattle.shape_rules.specs.Findings.{Found, cast}
use Rattle.shape_rules.specs.Scopes.{Setting, Locals, answering, under}
use Rattle.shape_rules.specs.Patterns.{Looked, look}
use Rattle.shape_rules.specs.Targets.{Part}
use Rattle.shape_rules.specs.Statements.{guarded_core, guard_faults}
use Rattle.shape_rules.specs.Expressions.{part}
use Rattle.shape_rules.specs.Sides.{read_side, gives, width_given}
use Rattle.shape_models.specs.Models.{Tabled, within_variables, mapping_of}
use Rattle.shape_declarations.specs.Failures.{sides_faults}
use Rattle.shape_clauses.specs.Clauses.{Claused, clauses_arms, clauses_bodies, clauses_core, core_of, clauses_faults}

-- ---- clauses

abbrev pub guard_part : Option Exp → Option Part
guard_part guard = option_map part guard

-- a side that is matched, its guard, and what the other side gives where the names that the first binds are in scope
abbrev pub direction_with : Setting → Locals → Looked → Option Part → Place → Found → Claused
direction_with setting locals p guard at_given given = record {
  arm = A.Nested (p.pattern ∷ []);
  body = guarded_core guard setting locals (cast given.core at_given);
  faults = p.faults ++ guard_faults guard setting locals ++ given.faults;
}

abbrev pub direction_under : Setting → Locals → Looked → Option Part → Part → Shape → Claused
direction_under setting locals p guard given want =
    direction_with setting locals p guard given.place (given.elaborate setting locals want)

abbrev pub direction_looked : Setting → Option Part → Part → Shape → Looked → Claused
direction_looked setting guard given want p = direction_under setting (under p.binds []) p guard given want

-- from one side to the other: no function is around it, and bare names have the widths of their places on the other side
abbrev pub direction_clause : Setting → Side → Typ → Side → Typ → Claused
direction_clause setting from from_typ to to_typ =
    direction_looked (answering None setting) (guard_part from.guard) (read_side to.pattern) (shape to_typ)
    (look from.pattern setting (width_given (gives to.pattern setting (Some to_typ))) (shape from_typ))

abbrev pub forwards_clause : Setting → Mapping → MappingClause → Claused
forwards_clause setting m c = direction_clause setting c.left m.left c.right m.right

abbrev pub backwards_clause : Setting → Mapping → MappingClause → Claused
backwards_clause setting m c = direction_clause setting c.right m.right c.left m.left

abbrev pub forwards_clauses : Setting → Mapping → List MappingClause → List Claused
forwards_clauses setting m cs = map (forwards_clause setting m) cs

abbrev pub backwards_clauses : Setting → Mapping → List MappingClause → List Claused
backwards_clauses setting m cs = map (backwards_clause setting m) cs

-- ---- failures

abbrev pub both_faults : Setting → Mapping → List MappingClause → List ShapeError
both_faults setting m cs = clauses_faults (forwards_clauses setting m cs) ++ clauses_faults (backwards_clauses setting m cs)

-- the tables give each mapping a signature; without one nothing is looked at
abbrev pub directions_faults : Setting → List ℕ → List MappingClause → Option Signature → List ShapeError
directions_faults setting name cs None = []
directions_faults setting name cs (Some s) = both_faults setting (mapping_of name 0 s) cs

abbrev pub mapping_faults : Tabled → Setting → Def → List ShapeError
mapping_faults tabled setting (D.Mapping place name sides cs) =
    sides_faults (within_variables tabled []) sides ++ directions_faults setting name.text cs (tabled.signature name.text)
mapping_faults tabled setting d = []

-- ---- the cores of both directions

-- the next number is that of its first node
abbrev pub direction_at : Place → List ℕ → Typ → Typ → List Arm → List Core → ℕ → Direction
direction_at place name from to arms bodies next = record {
  place = place;
  name = name;
  parameter = from;
  result = to;
  body = (numbered (core_of place arms bodies) next).it;
}

abbrev pub direction_core : Place → List ℕ → Typ → Typ → List Claused → ℕ → Direction
direction_core place name from to cs next = direction_at place name from to (clauses_arms cs) (clauses_bodies cs) next

-- a mapping is one definition: the forwards direction is numbered first, then the backwards one
abbrev pub forwards_core : Setting → Place → Mapping → List MappingClause → Direction
forwards_core setting place m cs = direction_core place m.name m.left m.right (forwards_clauses setting m cs) 0

abbrev pub behind_forwards : Setting → Place → Mapping → List MappingClause → ℕ
behind_forwards setting place m cs = (numbered (clauses_core place (forwards_clauses setting m cs)) 0).next

abbrev pub backwards_core : Setting → Place → Mapping → List MappingClause → Direction
backwards_core setting place m cs =
    direction_core place m.name m.right m.left (backwards_clauses setting m cs) (behind_forwards setting place m cs)

abbrev pub both_directions : Setting → Place → Mapping → List MappingClause → List Direction
both_directions setting place m cs = forwards_core setting place m cs ∷ backwards_core setting place m cs ∷ []

abbrev pub directions_if : Setting → Place → List ℕ → List MappingClause → Option Signature → List Direction
directions_if setting place name cs None = []
directions_if setting place name cs (Some s) = both_directions setting place (mapping_of name 0 s) cs

abbrev pub directions_of : Tabled → Setting → Def → List Direction
directions_of tabled setting (D.Mapping place name sides cs) = directions_if setting place name.text cs (tabled.signature name.text)
directions_of tabled setting d = []
