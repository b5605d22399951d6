-- The nesting that the code keeps, as the one that levels are defined by.
use Rattle.std.specs.Prelude.{ℕ, ◌==◌, false, not, if◌then◌else◌, List, [], ◌∷◌, Option, Some, None}
use Rattle.sail_lex.specs.declared.kind.TokenKind.{TokenKind}
use Rattle.sail_lex.specs.declared.kind.TokenKind.TheVariants as K
use Rattle.sail_grammar.specs.Symbol.{code}
use Rattle.sail_grammar.specs.Levels.{Bracket, Nesting, awaits, begins, is_in, last_tokens, separated}
use Rattle.sail_levels.specs.declared.levels.Opened.{Opened}
use Rattle.sail_levels.specs.declared.levels.Nesting.{Nesting as Kept}

-- the open brackets, the innermost first, before some others
abbrev pub bracket_of : Opened → Bracket
bracket_of o = record { count = o.count; ends = o.ends }

abbrev pub turned : List Opened → List Bracket → List Bracket
turned [] bs = bs
turned (o ∷ os) bs = turned os (bracket_of o ∷ bs)

abbrev pub brackets_of : List Opened → List Bracket
brackets_of os = turned os []

-- the symbol of the token before, 0 before the first
abbrev pub symbol_before : Option TokenKind → ℕ
symbol_before None = 0
symbol_before (Some k) = code k

abbrev pub nesting_of : Kept → Nesting
nesting_of n = record { inside = brackets_of n.inside; outside = n.outside; enum = n.is_enum; ends = n.ends; before = symbol_before n.before }

-- a bracket is opened
abbrev pub opened : Nesting → Nesting
opened n = record n { inside = record { count = 0; ends = not (awaits n.before) } ∷ n.inside; ends = false }

-- a separator stands there
abbrev pub parted : Nesting → Nesting
parted n = record (separated n.inside n) { ends = false }

-- another token, the level aside that it may be
abbrev pub passed : Nesting → TokenKind → Nesting
passed n k = record (if begins n k then record n { outside = 0; enum = code k == code K.Enum } else n) { ends = is_in last_tokens k }
