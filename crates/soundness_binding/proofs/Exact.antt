-- The types that values carry in patterns, where they are of matter.
use Rattle.std.specs.Prelude.{ℕ, suc, List, [], ◌∷◌}
use Rattle.size_values.specs.declared.sized.Sized.{Sized}
use Rattle.value_indices.specs.declared.indices.Indices.{Indices}
use Rattle.value_indices.specs.declared.indices.Reading.{Reading}
use Rattle.value_laws.specs.Belonging.{Integers}
use Rattle.pattern_laws.specs.Typing.{EachFits, EachReads, IsKept}
use Rattle.sized_patterns.specs.Laws.{Fits, Reads, SizesFit}
use Rattle.soundness_steps.specs.Works.{IsExact, Setting, Work}
use Rattle.soundness_binding.specs.Scenes.{SizesThere}

module _ (set : Setting) (work : Work) where
  abbrev pub FitsThere : Integers → Indices → Sized → Type 0
  FitsThere g i s = IsExact set → Fits set.around.types work.own g i s

  abbrev pub ReadsThere : Integers → Reading → Sized → Type 0
  ReadsThere g r s = IsExact set → Reads set.around.types work.own g r s

  each_fits : (g : Integers) (s : Sized) (k : ℕ) (is : List Indices) → (IsExact set → EachFits set.around.types (Fits set.around.types work.own g) s k is)
      → EachFits set.around.types (FitsThere g) s k is
  each_fits g s k [] h = tt
  each_fits g s k (i ∷ is) h = ((λ exact. (h exact).0), each_fits g s (suc k) is (λ exact. (h exact).1))

  each_reads : (g : Integers) (s : Sized) (k : ℕ) (rs : List Reading)
      → (IsExact set → EachReads set.around.types (Reads set.around.types work.own g) s k rs) → EachReads set.around.types (ReadsThere g) s k rs
  each_reads g s k [] h = tt
  each_reads g s k (r ∷ rs) h = ((λ exact. (h exact).0), each_reads g s (suc k) rs (λ exact. (h exact).1))

  pub kept_there : IsKept set.around.types set.past work.types (SizesFit set.around.types work.own set.past work.types) (Fits set.around.types work.own)
      (Reads set.around.types work.own)
      → IsKept set.around.types set.past work.types (SizesThere set work) FitsThere ReadsThere
  kept_there k = record {
    opens = λ g r s naming facts n v fit is had reads exact. k.opens g r s naming facts n v (fit exact) is had (reads exact);
    parts = λ g is s h. each_fits g s 0 is (λ exact. k.parts g is s (h exact));
    list_item = λ g r s h exact. k.list_item g r s (h exact);
    vector_item = λ g t r s h exact. k.vector_item g t r s (h exact);
    of_union = λ g u c is rs s t there many h exact. k.of_union g u c is rs s t there many (h exact);
    of_tuple = λ g t ts is rs s form h. each_reads g s 0 _ (λ exact. k.of_tuple g t ts is rs s form (h exact));
    width = λ g t fit. k.width g t fit;
    cut = λ g t n fit is exact. k.cut g t n fit is;
  }
