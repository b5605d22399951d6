-- Directions of mappings (Sail language manual, "Mappings"), where the tables have found no failure of names, and no failure of shapes is found.
use Rattle.std.specs.Prelude.{◌≡◌, ℕ, Bool, true, ◌&&◌, List, [], ◌∷◌, map, Option, Some, None}
use Rattle.sail_base.specs.declared.place.Place.{Place}
use Rattle.sail_types.specs.Shapes.{shape}
use Rattle.sail_syntax.specs.declared.expressions.Exp.{Exp}
use Rattle.sail_syntax.specs.declared.definitions.MappingClause.{MappingClause}
use Rattle.sail_syntax.specs.declared.definitions.Side.{Side}
use Rattle.sail_meaning.specs.Text.{Crossing, Direction}
use Rattle.sail_names.specs.Known as Tables
use Rattle.sail_names.specs.Clauses.{mapping_clause_failures}
use Rattle.shape_rules.specs.declared.callees.Mapping.{Mapping}
use Rattle.shape_rules.specs.Scopes.{Setting}
use Rattle.shape_clauses.specs.Mappings.{backwards_core, both_faults, forwards_core}
use Rattle.shape_meanings.specs.Whole.{below}
use Rattle.shape_meanings.specs.Trees.{written, pattern_written, side_written}
use Rattle.shape_meanings.specs.Counted.{counted}
use Rattle.shape_meanings.specs.Naming.{AreKnown}
use Rattle.shape_meanings.specs.Models.{DirectionIs}

-- ---- the directions of a text

abbrev pub crossing : Side → Side → Crossing
crossing from to = record { matched = from.pattern; guard = from.guard; result = to.pattern }

abbrev pub forwards : Mapping → List MappingClause → Direction
forwards m cs = record { takes = m.left; gives = m.right; clauses = map (λ c. crossing c.left c.right) cs }

abbrev pub backwards : Mapping → List MappingClause → Direction
backwards m cs = record { takes = m.right; gives = m.left; clauses = map (λ c. crossing c.right c.left) cs }

-- ---- clauses

abbrev pub guard_written : Option Exp → Bool
guard_written None = true
guard_written (Some guard) = written guard

-- a side is matched, and it is read as an expression
abbrev pub both_ways_written : Side → Bool
both_ways_written s = (pattern_written s.pattern && guard_written s.guard) && side_written s.pattern

-- each clause is as the grammar has it, and the tables find no failure of its names
abbrev pub CrossingsAreNamed : Tables.Setting → List MappingClause → Type 0
CrossingsAreNamed names [] = Unit {0}
CrossingsAreNamed names (c ∷ cs) =
    ((both_ways_written c.left && both_ways_written c.right) ≡ true) × (mapping_clause_failures names c ≡ []) × CrossingsAreNamed names cs

-- both directions do in the core what they do as they are written; no function is around them
abbrev pub DirectionsAreRight : Type 0
DirectionsAreRight =
    (setting : Setting) (names : Tables.Setting) (place : Place) (m : Mapping) (cs : List MappingClause) (n : ℕ)
    → setting.answer ≡ None → AreKnown setting names
    → counted setting.types (shape m.left) ≡ true → counted setting.types (shape m.right) ≡ true
    → below n (shape m.left) ≡ true → below n (shape m.right) ≡ true
    → CrossingsAreNamed names cs → both_faults setting m cs ≡ []
    → DirectionIs setting (forwards_core setting place m cs).body (forwards m cs)
    × DirectionIs setting (backwards_core setting place m cs).body (backwards m cs)
