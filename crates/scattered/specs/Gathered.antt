-- The gathered text: each definition that is written in parts stands whole at its opening
-- (Sail language manual, "Scattered definitions").
use Rattle.std.specs.Prelude.{ℕ, ◌+◌, Bool, false, ◌==◌, List, [], ◌∷◌, map, filter, Option, Some, None, filter_map}
use Rattle.std.specs.List.{zip}
use Rattle.std.specs.Option.{option_map_or}
use Rattle.sail_syntax.specs.declared.words.Extent.TheVariants.{Gathered}
use Rattle.sail_syntax.specs.declared.definitions.Def.{Def}
use Rattle.sail_syntax.specs.declared.definitions.Def.TheVariants as D
use Rattle.sail_syntax.specs.declared.definitions.Member.{Member}
use Rattle.sail_syntax.specs.declared.definitions.FunctionClause.{FunctionClause}
use Rattle.sail_syntax.specs.declared.definitions.MappingClause.{MappingClause}
use Rattle.scattered.specs.Openings.{role, stays, openings_of}

-- a definition of a text, and the number of the opening to which it belongs
abbrev pub Part : Type 0
Part = Def × Option ℕ

-- a text with the openings of its parts
abbrev pub parts : List Def → List Part
parts text = zip text (openings_of [] 0 text)

-- whether a part belongs to the definition of a number
abbrev pub belongs_to : ℕ → Part → Bool
belongs_to number part = option_map_or (λ opening. opening == number) part.1 false

-- what belongs to the definition of a number, in text order: its clauses, and last its `end`
abbrev pub parts_of : List Part → ℕ → List Def
parts_of all number = map (λ part. part.0) (filter (belongs_to number) all)

-- the constructor of a clause of a union
abbrev pub constructor_of : Def → Option Member
constructor_of (D.UnionClause place name member) = Some member
constructor_of d = None

-- what a clause of a function says
abbrev pub function_clause_of : Def → Option FunctionClause
function_clause_of (D.FunctionClause name clause) = Some clause
function_clause_of d = None

-- what a clause of a mapping says
abbrev pub mapping_clause_of : Def → Option MappingClause
mapping_clause_of (D.MappingClause place name clause) = Some clause
mapping_clause_of d = None

-- an opening as the definition that it becomes with its parts; all others stay
abbrev pub whole : Def → List Def → Def
whole (D.ScatteredUnion place name variables) own = D.Union place name variables (filter_map constructor_of own)
whole (D.ScatteredFunction place name) own = D.Function place Gathered name (filter_map function_clause_of own)
whole (D.ScatteredMapping place name) own = D.Mapping place name None (filter_map mapping_clause_of own)
whole d own = d

-- the definitions of a text that have a place of their own in the gathered one
abbrev pub staying : List Part → List Def
staying all = filter (λ d. stays (role d)) (map (λ part. part.0) all)

-- definitions from a number on, each whole
abbrev pub whole_from : List Part → ℕ → List Def → List Def
whole_from all number [] = []
whole_from all number (d ∷ rest) = whole d (parts_of all number) ∷ whole_from all (number + 1) rest

-- the gathered text of a text's parts
abbrev pub gathered_parts : List Part → List Def
gathered_parts all = whole_from all 0 (staying all)

-- the gathered text: clauses and `end`s are gone, and each opening has become the definition with its clauses in text order
abbrev pub gathered : List Def → List Def
gathered text = gathered_parts (parts text)
