-- The steps that a closing row stands on, renumbered.
use Rattle.std.specs.Prelude.{ℕ, zero, suc, ◌+◌, Bool, true, false, List, [], ◌∷◌, ◌++◌, length, set, replicate}
use Rattle.std.specs.Prelude.{reverse, if◌then◌else◌, slice_index, slice_index_or}
use Rattle.farkas.specs.declared.certificate.Step.{Step}

-- from the last step back: the two rows of a marked step are marked; there are so many starting rows
abbrev pub marked : ℕ → List Step → List Bool → List Bool
marked count [] marks = marks
marked count (step ∷ earlier) marks =
    marked count earlier (if slice_index_or marks (count + suc (length earlier)) false then set (set marks step.first true) step.second true else marks)

-- at first the last row alone is marked
abbrev pub last_marked : ℕ → List Step → List Bool
last_marked count steps = replicate (count + length steps) false ++ true ∷ []

-- a step over new numbers
abbrev pub renumbered : List ℕ → Step → Step
renumbered numbers step = record step { first = slice_index numbers step.first; second = slice_index numbers step.second }

-- the marked steps, with the new number of each row so far; so many rows stand before the next one
abbrev pub pruned : List Bool → List ℕ → ℕ → List Step → List Step
pruned marks numbers before [] = []
pruned marks numbers before (step ∷ steps) =
    if slice_index_or marks (length numbers) false
    then renumbered numbers step ∷ pruned marks (numbers ++ suc before ∷ []) (suc before) steps
    else pruned marks (numbers ++ 0 ∷ []) before steps

-- the numbers from 0 to n
abbrev pub up_to : ℕ → List ℕ
up_to zero = 0 ∷ []
up_to (suc n) = up_to n ++ suc n ∷ []

-- the steps that the last one stands on
abbrev pub stood_on : ℕ → List Step → List Step
stood_on count steps = pruned (marked count (reverse steps) (last_marked count steps)) (up_to count) count steps
