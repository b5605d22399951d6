-- The names that a pattern binds, in the order of the text; and patterns that bind no name twice (Sail language manual, "Pattern matching").
use Rattle.std.specs.Prelude.{◌&&◌, ◌||◌, not, ℕ, Bool, true, false, List, [], ◌∷◌, ◌++◌, map}
use Rattle.std.specs.Str.{bytes_eq}
use Rattle.sail_core.specs.declared.patterns.Arm.{Arm}
use Rattle.sail_core.specs.declared.patterns.Arm.TheVariants as A
use Rattle.sail_core.specs.declared.patterns.Form.{Form}
use Rattle.sail_core.specs.declared.patterns.Form.TheVariants as F
use Rattle.sail_core.specs.declared.patterns.Pattern.{Pattern, fold-Pattern}

abbrev pub in_order : List (List (List ℕ)) → List (List ℕ)
in_order [] = []
in_order (ns ∷ more) = ns ++ in_order more

abbrev pub form_names : Form → List (List (List ℕ)) → List (List ℕ)
form_names (F.Binds name) parts = name ∷ []
form_names (F.As name) parts = in_order parts ++ name ∷ []
form_names form parts = in_order parts

abbrev pub pattern_names : Pattern → List (List ℕ)
pattern_names = fold-Pattern (List (List ℕ)) (λ p. form_names p.form p.parts)

-- a name among others
abbrev pub is_among : List ℕ → List (List ℕ) → Bool
is_among name [] = false
is_among name (n ∷ ns) = bytes_eq n name || is_among name ns

abbrev pub once_each : List (List ℕ) → Bool
once_each [] = true
once_each (n ∷ ns) = not (is_among n ns) && once_each ns

-- flat arms are of later trees
abbrev pub binds_once : Arm → Bool
binds_once (A.Nested ps) = once_each (in_order (map pattern_names ps))
binds_once (A.Flat count steps) = false
