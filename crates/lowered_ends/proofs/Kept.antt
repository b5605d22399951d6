-- Whether the parts of a tuple leave a number as it is, part by part.
use Rattle.std.proofs.Common.{◌≡◌, ◌∙◌, ℕ, ◌≤◌, Bool, true, List, [], ◌∷◌, length, map, drop, refl, sym, ap}
use Rattle.std.specs.Prelude.{ℤ, ◌&&◌}
use Rattle.std.proofs.lemmas.List.{drop_all}
use Rattle.value_indices.specs.declared.indices.Indices.{Indices}
use Rattle.value_indices.specs.declared.indices.Indices.TheFolds.{fold-roll-Indices}
use Rattle.value_indices.specs.declared.indices.Indices.TheOpen as W
use Rattle.value_indices.specs.declared.indices.Indices.TheOpen.{Reading-F}
use Rattle.value_indices.specs.declared.indices.Indices.TheVariants as V
use Rattle.size_values.specs.declared.sized.Sized.{Sized, out-Sized}
use Rattle.size_values.specs.declared.sized.Sized.TheOpen as Z
use Rattle.size_values.specs.declared.sized.Sized.TheVariants as S
use Rattle.size_values.specs.declared.sized.Sized.TheViews.{out-roll-Sized}
use Rattle.lowered_pieces.specs.Keeping.{Keeps, each_keeps, form_keeps, keeps}
use Rattle.lowered_ends.specs.Keeping.{are_kept}

each_same : (is : List Indices) (us : List Sized) (x : ℕ) (z : ℤ) → each_keeps (map keeps is) us x z ≡ are_kept is us x z
each_same [] us x z = refl
each_same (i ∷ is) [] x z = refl
each_same (i ∷ is) (u ∷ us) x z = ap (λ b. keeps i u x z && b) (each_same is us x z)

pub tuple_kept : (i : Indices) (is : List Indices) → i ≡ V.Tuple is → (s : Sized) (us : List Sized) → s ≡ S.Tuple us → (x : ℕ) (z : ℤ)
    → keeps i s x z ≡ are_kept is us x z
tuple_kept i is e s us h x z =
    ap (λ (j : Indices). keeps j s x z) (e ∙ sym (V.rolls-Tuple is))
    ∙ ap (λ (f : Keeps). f s x z) (fold-roll-Indices Keeps Keeps (λ j t. form_keeps j (out-Sized t)) (λ (r : Reading-F Keeps Keeps) t y w. true) (W.Tuple is))
    ∙ ap (λ w. form_keeps (W.Tuple (map keeps is)) w x z) (ap out-Sized (h ∙ sym (S.rolls-Tuple us)) ∙ out-roll-Sized (Z.Tuple us)) ∙ each_same is us x z

no_types : (is : List Indices) (x : ℕ) (z : ℤ) → true ≡ are_kept is [] x z
no_types [] x z = refl
no_types (i ∷ is) x z = refl

pub kept_done : (is : List Indices) (us : List Sized) (k : ℕ) → length us ≤ k → (x : ℕ) (z : ℤ) → true ≡ are_kept (drop k is) (drop k us) x z
kept_done is us k past x z = no_types (drop k is) x z ∙ ap (λ vs. are_kept (drop k is) vs x z) (sym (drop_all k us past))
