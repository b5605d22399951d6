-- Constraints and arguments read under what their variables stand for.
use Rattle.std.specs.Prelude.{ℕ, false, List, [], ◌∷◌, ◌++◌, map, slice_get, Option, Some, None, option_map}
use Rattle.sail_types.specs.Sums.{and_then, read}
use Rattle.sail_types.specs.declared.numbers.Con.{Con, Con-F, fold-Con}
use Rattle.sail_types.specs.declared.numbers.Con.TheOpen as C
use Rattle.sail_types.specs.declared.numbers.Con.TheVariants as V
use Rattle.sail_types.specs.declared.numbers.Index.{Index}
use Rattle.sail_types.specs.declared.numbers.Index.TheVariants as I

abbrev pub more : {A : Type 0} → Option A → Option (List A) → Option (List A)
more None xs = None
more (Some x) xs = option_map (λ ys. x ∷ ys) xs

-- all of them, or none where one is wanting
abbrev pub together : {A : Type 0} → List (Option A) → Option (List A)
together [] = Some []
together (x ∷ xs) = more x (together xs)

abbrev pub truth_or_false : Option Index → Con
truth_or_false (Some (I.Truth c)) = c
truth_or_false index = V.Truth false

-- what that variable stands for; `false` where it is no Bool variable of the list
abbrev pub truth_at : List Index → ℕ → Con
truth_at indices i = truth_or_false (slice_get indices i)

abbrev pub form_read : List Index → Con-F (Option Con) → Option Con
form_read indices (C.Truth b) = Some (V.Truth b)
form_read indices (C.Holds i) = Some (truth_at indices i)
form_read indices (C.Compare how t u) = and_then (read indices t) (λ m. option_map (V.Compare how m) (read indices u))
form_read indices (C.OneOf t zs) = option_map (λ m. V.OneOf m zs) (read indices t)
form_read indices (C.Not c) = option_map V.Not c
form_read indices (C.All cs) = option_map V.All (together cs)
form_read indices (C.Any cs) = option_map V.Any (together cs)

-- a constraint with these in the place of its variables; none where a number past the largest integer stands on the way
abbrev pub read_con : List Index → Con → Option Con
read_con indices = fold-Con (Option Con) (form_read indices)

-- an argument with these in the place of its variables
abbrev pub read_index : List Index → Index → Option Index
read_index indices (I.Number n) = option_map I.Number (read indices n)
read_index indices (I.Truth c) = option_map I.Truth (read_con indices c)

abbrev pub read_indices : List Index → List Index → Option (List Index)
read_indices indices is = together (map (read_index indices) is)

-- items behind those that were made
abbrev pub behind : {A : Type 0} → List A → Option (List A) → Option (List A)
behind made None = None
behind made (Some xs) = Some (made ++ xs)
