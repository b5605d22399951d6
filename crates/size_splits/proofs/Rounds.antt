-- What the loops put one after the other.
use Rattle.std.proofs.Common.{◌≡◌, ◌∙◌, ℕ, suc, ◌+◌, ◌-◌, ◌<◌, ◌≤◌, Bool, List, [], ◌∷◌, ◌++◌, length, drop, get_or, map}
use Rattle.std.proofs.Common.{ap, sym, refl, arith, append_assoc, append-nil}
use Rattle.sail_types.specs.declared.numbers.Index.{Index}
use Rattle.sail_types.specs.declared.table.Types.{Types}
use Rattle.sail_core.specs.declared.model.Function.{Function}
use Rattle.size_splits.specs.declared.bodies.BodySteps.{BodySteps}
use Rattle.size_splits.specs.Bodies.{Body, bodies_read, body_read}
use Rattle.size_splits.specs.Sizing.{Sizing, indices_where, is_size, sizes_from, sizing_behind, with_sizes}
use Rattle.size_splits.proofs.Lists.{none_left, rest_at}

-- one part more behind those that are made
pub part_more : {A : Type 0} (made new part rest all : List A) → new ≡ made ++ part → made ++ (part ++ rest) ≡ all → new ++ rest ≡ all
part_more made new part rest all put h = ap (λ l. l ++ rest) put ∙ (append_assoc made part rest ∙ h)

pub part_last : {A : Type 0} (made rest all : List A) → rest ≡ [] → made ++ rest ≡ all → made ≡ all
part_last made rest all none h = sym (append-nil made) ∙ (ap (λ l. made ++ l) (sym none) ∙ h)

-- ---- what is given to size variables

where_none : (bs : List Bool) → indices_where bs [] ≡ []
where_none [] = refl
where_none (b ∷ bs) = refl

module _ (bs : List Bool) (is : List Index) (k : ℕ) (made all : List Index) (h : made ++ indices_where (drop k bs) (drop k is) ≡ all) where
  pub where_stops : length is ≤ k → made ≡ all
  where_stops past = part_last made (indices_where (drop k bs) (drop k is)) all
      (ap (indices_where (drop k bs)) (none_left is k past) ∙ where_none (drop k bs)) h

-- ---- size variables

module _ (types : Types) (sizing : Sizing) where
  module _ (f : Function) (bs : List Body) (n k : ℕ) (made all : List Bool) (h : made ++ sizes_from types sizing f bs (n - k) k ≡ all) where
    pub sizes_more : (b : Bool) (new : List Bool) → k < n → b ≡ is_size types sizing f bs k → new ≡ made ++ b ∷ []
        → new ++ sizes_from types sizing f bs (n - (k + 1)) (k + 1) ≡ all
    sizes_more b new within is put =
        let e : n - k ≡ suc (n - (k + 1)) = omega arith in
        let s : k + 1 ≡ suc k = omega arith in
        part_more made new (b ∷ []) (sizes_from types sizing f bs (n - (k + 1)) (k + 1)) all put
        ((λ j. made ++ is j ∷ sizes_from types sizing f bs (n - (k + 1)) (s j)) ∙ (ap (λ m. made ++ sizes_from types sizing f bs m k) (sym e) ∙ h))

module _ (types : Types) where
  behind_none : (sizing : Sizing) (k : ℕ) (fs : List Function) → sizing_behind types sizing k fs [] ≡ sizing
  behind_none sizing k [] = refl
  behind_none sizing k (f ∷ fs) = refl

  module _ (fs : List Function) (bss : List (List BodySteps)) (k : ℕ) (found all : Sizing)
      (h : sizing_behind types found k (drop k fs) (bodies_read (drop k bss)) ≡ all) where
    pub again_stops : length bss ≤ k → found ≡ all
    again_stops past =
        sym (ap (λ l. sizing_behind types found k (drop k fs) (bodies_read l)) (none_left bss k past) ∙ behind_none found k (drop k fs)) ∙ h

  -- one function more
  module _ (fs : List Function) (bss : List (List BodySteps)) (k : ℕ) (f : Function) (bs : List BodySteps) (found new all : Sizing) (sizes : List Bool) where
    pub again_more : k < length fs → k < length bss → f ≡ get_or fs k f → bs ≡ get_or bss k bs
        → sizes ≡ sizes_from types found f (map body_read bs) (length f.variables) 0 → new ≡ with_sizes found k sizes
        → sizing_behind types found k (drop k fs) (bodies_read (drop k bss)) ≡ all
        → sizing_behind types new (k + 1) (drop (k + 1) fs) (bodies_read (drop (k + 1) bss)) ≡ all
    again_more within inside is was found_so put h =
        let opened : sizing_behind types found k (drop k fs) (bodies_read (drop k bss))
        ≡ sizing_behind types found k (f ∷ drop (k + 1) fs) (bodies_read (bs ∷ drop (k + 1) bss)) =
        λ j. sizing_behind types found k (rest_at fs k f within is j) (bodies_read (rest_at bss k bs inside was j)) in
        ap (λ s. sizing_behind types s (k + 1) (drop (k + 1) fs) (bodies_read (drop (k + 1) bss))) (put ∙ ap (with_sizes found k) found_so)
        ∙ (sym opened ∙ h)
