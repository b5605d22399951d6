-- The place of a row that is replaced.
use Rattle.std.proofs.Common.{◌≡◌, ℕ, suc, ◌+◌, ◌<◌, Bool, true, false, List, [], ◌∷◌, length, map, sym, ◌∙◌, arith, pos, subst}
use Rattle.std.proofs.lemmas.List.{length-map}
use Rattle.std.specs.Prelude.{int_lt, if◌then◌else◌}
use Rattle.linear.specs.declared.row.Row.{Row}
use Rattle.linear.specs.Rows.{is_constant, are_same}
use Rattle.farkas.specs.declared.elimination.Held.{Held}
use Rattle.farkas.specs.declared.keeping.Fate.{Fate}
use Rattle.farkas.specs.declared.keeping.Fate.TheVariants.{Closes, Drops, Replaces}
use Rattle.farkas.specs.Elimination.{row_of, fate_of}
use Rattle.farkas.specs.Keeping.{against, fate}

-- a fate names no place past this one
abbrev Below : ℕ → Fate → Type 0
Below n (Replaces i) = i < n
Below n f = Unit {0}

chosen : (n i : ℕ) (t : Bool) → i < n → Below n (if t then Replaces i else Drops)
chosen n i true h = h
chosen n i false h = tt

either : (n : ℕ) (t : Bool) (f g : Fate) → Below n f → Below n g → Below n (if t then f else g)
either n true f g p q = p
either n false f g p q = q

against_below : (row : Row) (i n : ℕ) (ks : List Row) → n ≡ i + length ks → Below n (against row i ks)
against_below row i n [] e = tt
against_below row i n (k ∷ ks) e =
    either n (are_same k.coefficients row.coefficients) _ _
    (chosen n i (int_lt row.bound k.bound) (omega arith))
    (against_below row (suc i) n ks (omega arith))

fate_below : (kept : List Row) (row : Row) → Below (length kept) (fate kept row)
fate_below kept row =
    either (length kept) (is_constant row) _ _
    (either (length kept) (int_lt row.bound (pos 0)) Closes Drops tt tt)
    (against_below row 0 (length kept) kept (omega arith))

pub fate_within : (kept : List Row) (row : Row) (f : Fate) (i : ℕ) → f ≡ fate kept row → f ≡ Replaces i → i < length kept
fate_within kept row f i e h = subst (Below (length kept)) (sym e ∙ h) (fate_below kept row)

pub fate_of_within : (held : List Held) (row : Row) (f : Fate) (i : ℕ) → f ≡ fate_of held row → f ≡ Replaces i → i < length held
fate_of_within held row f i e h = let l : i < length (map row_of held) = fate_within (map row_of held) row f i e h in omega (arith, length-map held row_of)
