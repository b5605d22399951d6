-- Whether the numbers by which the cases of a node go are the same behind its value (Sail language manual, "Type variables").
use Rattle.std.specs.Prelude.{ℕ, ℤ, nat_eq, Bool, true, false, not, ◌&&◌, ◌||◌, List, [], ◌∷◌, Option, Some, None}
use Rattle.std.specs.Ordering.{int_eq}
use Rattle.value_indices.specs.declared.indices.Indices.{Indices, fold-Indices}
use Rattle.value_indices.specs.declared.indices.Indices.TheOpen as W
use Rattle.value_indices.specs.declared.indices.Indices.TheOpen.{Indices-F, Reading-F}
use Rattle.call_arguments.specs.Placing.{variable_in}
use Rattle.size_values.specs.declared.constants.Picked.{Picked}
use Rattle.size_values.specs.declared.sized.Sized.{Sized, Sized-F, out-Sized}
use Rattle.size_values.specs.declared.sized.Sized.TheOpen as Z
use Rattle.size_values.specs.Sized.{sized_eq}
use Rattle.sized_meanings.specs.Case.{Case}

-- whether a value of a type leaves the number of a variable as it was noted, if it was this one: it gives none, or this one again
abbrev pub Keeps : Type 0
Keeps = Sized → ℕ → ℤ → Bool

abbrev pub is_other : Option ℕ → ℕ → Bool
is_other None x = true
is_other (Some y) x = not (nat_eq y x)

-- a width or a length is that of the type
abbrev pub is_again : Option ℕ → ℤ → ℕ → ℤ → Bool
is_again o n x z = is_other o x || int_eq n z

abbrev pub each_keeps : List Keeps → List Sized → ℕ → ℤ → Bool
each_keeps (f ∷ fs) (s ∷ ss) x z = f s x z && each_keeps fs ss x z
each_keeps fs ss x z = true

abbrev pub form_keeps : Indices-F Keeps Keeps → Sized-F Sized → ℕ → ℤ → Bool
form_keeps (W.Integer t) Z.Int x z = is_other (variable_in t) x
form_keeps (W.Bits t) (Z.Bits n) x z = is_again (variable_in t) n x z
form_keeps (W.Vector t f) (Z.Vector n s) x z = is_again (variable_in t) n x z
form_keeps (W.Tuple fs) (Z.Tuple ss) x z = each_keeps fs ss x z
form_keeps i s x z = true

abbrev pub keeps : Indices → Keeps
keeps = fold-Indices Keeps Keeps (λ i s. form_keeps i (out-Sized s)) (λ (r : Reading-F Keeps Keeps) s x z. true)

abbrev pub all_keep : List Indices → Keeps
all_keep [] s x z = true
all_keep (i ∷ is) s x z = keeps i s x z && all_keep is s x z

-- so all by which a case goes, which are of the same variables as those of the first one
abbrev pub picked_kept : List Indices → Sized → List Picked → Bool
picked_kept gives s [] = true
picked_kept gives s (p ∷ ps) = all_keep gives s p.variable p.number && picked_kept gives s ps

abbrev pub asks_alike : List Picked → List Picked → Bool
asks_alike [] [] = true
asks_alike (p ∷ ps) (q ∷ qs) = nat_eq p.variable q.variable && asks_alike ps qs
asks_alike ps qs = false

abbrev pub cases_kept : List Indices → List Picked → List Case → Bool
cases_kept gives first [] = true
cases_kept gives first (c ∷ cs) = asks_alike first c.picked && (picked_kept gives c.gives c.picked && cases_kept gives first cs)

abbrev pub all_kept : List Indices → List Case → Bool
all_kept gives [] = true
all_kept gives (c ∷ cs) = cases_kept gives c.picked (c ∷ cs)

-- whether all cases give one type: so where there is none, since no value is made then
abbrev pub all_give : Sized → List Case → Bool
all_give t [] = true
all_give t (c ∷ cs) = sized_eq t c.gives && all_give t cs

abbrev pub give_one : List Case → Bool
give_one [] = true
give_one (c ∷ cs) = all_give c.gives cs
