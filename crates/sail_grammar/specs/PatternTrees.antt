-- What the trees of patterns stand for, a function for each row.
use Rattle.std.specs.Prelude.{ℤ, List, [], ◌∷◌, Option, Some, None}
use Rattle.sail_base.specs.declared.place.Place.{Place}
use Rattle.sail_syntax.specs.declared.patterns.Pat.{Pat}
use Rattle.sail_syntax.specs.declared.patterns.Pat.TheVariants as V
use Rattle.sail_syntax.specs.declared.patterns.Joined.{Joined, roll-Joined}
use Rattle.sail_syntax.specs.declared.words.Brackets.TheVariants as B
use Rattle.sail_grammar.specs.Form.{Tree, Nothing, Leaf, Pair, Left, Right}
use Rattle.sail_grammar.specs.Leaves.{nowhere, first_place, place_at, name_at, number_at, literal_at}
use Rattle.sail_grammar.specs.TypeTrees.{typ_of}

-- a tree of no pattern
abbrev pub no_pattern : Pat
no_pattern = V.Wildcard nowhere

-- a further part of a concatenation
abbrev pub joined : Place → Pat → Joined
joined place p = roll-Joined (record { place = place; part = p })

-- one pattern in brackets is that pattern, none or several are a tuple
abbrev pub grouped_pattern : Place → List Pat → Pat
grouped_pattern place (p ∷ []) = p
grouped_pattern place ps = V.Group place B.Tuple ps

-- a pattern, with the name behind its `as`
abbrev pub as_of : Place → Pat → Tree → Pat
as_of place p (Left (Pair word name)) = V.As place p (name_at name)
as_of place p t = p

-- a pattern, with the type behind its `:`
abbrev pub annotated_of : Place → Pat → Tree → Pat
annotated_of place p (Left (Pair sign typ)) = V.Typed place p (typ_of typ)
annotated_of place p t = p

-- patterns of one token, or of a sign and a number
abbrev pub wildcard_of : Tree → Pat
wildcard_of t = V.Wildcard (first_place t)

abbrev pub literal_pattern_of : Tree → Pat
literal_pattern_of t = V.Constant (place_at t) (literal_at t)

abbrev pub negative_of : Tree → Pat
negative_of (Pair sign number) = V.Negative (place_at sign) (number_at number)
negative_of t = no_pattern

abbrev mutual
  pub pattern_of : Tree → Pat
  pattern_of (Pair p more) = as_of (first_place p) (pattern_concat_of p) more
  pattern_of t = no_pattern

  pub pattern_concat_of : Tree → Pat
  pattern_concat_of (Pair p (Left (Pair sign q))) = V.Cons (place_at sign) (pattern_typed_of p) (pattern_concat_of q)
  pattern_concat_of (Pair p (Right more)) = pattern_appended_of (pattern_typed_of p) more
  pattern_concat_of t = no_pattern

  -- a pattern, with those behind its `@`
  pub pattern_appended_of : Pat → Tree → Pat
  pattern_appended_of p (Left (Pair sign (Pair q more))) = V.Concat (place_at sign) p (pattern_typed_of q) (pattern_appends_of more)
  pattern_appended_of p t = p

  pub pattern_appends_of : Tree → List Joined
  pattern_appends_of (Left (Pair sign (Pair p more))) = joined (place_at sign) (pattern_typed_of p) ∷ pattern_appends_of more
  pattern_appends_of t = []

  pub pattern_typed_of : Tree → Pat
  pattern_typed_of (Pair p more) = annotated_of (first_place p) (pattern_base_of p) more
  pattern_typed_of t = no_pattern

  pub pattern_base_of : Tree → Pat
  pattern_base_of (Left wildcard) = wildcard_of wildcard
  pattern_base_of (Right (Left literal)) = literal_pattern_of literal
  pattern_base_of (Right (Right (Left negative))) = negative_of negative
  pattern_base_of (Right (Right (Right (Left named)))) = pattern_named_of named
  pattern_base_of (Right (Right (Right (Right (Left group))))) = pattern_group_of group
  pattern_base_of (Right (Right (Right (Right (Right (Left vector)))))) = pattern_vector_of vector
  pattern_base_of (Right (Right (Right (Right (Right (Right list)))))) = pattern_brackets_of list
  pattern_base_of t = no_pattern

  pub pattern_named_of : Tree → Pat
  pattern_named_of (Pair name (Left group)) = V.Construct (name_at name) (pattern_list_of group)
  pattern_named_of (Pair name (Right t)) = V.Bind (name_at name)
  pattern_named_of t = no_pattern

  pub pattern_group_of : Tree → Pat
  pattern_group_of (Pair bracket inner) = grouped_pattern (place_at bracket) (inner_patterns_of inner)
  pattern_group_of t = no_pattern

  pub pattern_vector_of : Tree → Pat
  pattern_vector_of (Pair bracket (Pair ps close)) = V.Group (place_at bracket) B.Vector (patterns_of ps)
  pattern_vector_of t = no_pattern

  pub pattern_brackets_of : Tree → Pat
  pattern_brackets_of (Pair bracket inner) = V.Group (place_at bracket) B.List (inner_patterns_of inner)
  pattern_brackets_of t = no_pattern

  -- the patterns in round brackets
  pub pattern_list_of : Tree → List Pat
  pattern_list_of (Pair bracket inner) = inner_patterns_of inner
  pattern_list_of t = []

  -- the patterns up to a closing bracket
  pub inner_patterns_of : Tree → List Pat
  inner_patterns_of (Right (Pair ps close)) = patterns_of ps
  inner_patterns_of t = []

  pub patterns_of : Tree → List Pat
  patterns_of (Pair p tail) = pattern_of p ∷ patterns_tail_of tail
  patterns_of t = []

  pub patterns_tail_of : Tree → List Pat
  patterns_tail_of (Left (Pair comma (Pair p tail))) = pattern_of p ∷ patterns_tail_of tail
  patterns_tail_of t = []
