-- What is done with what parts gave, if there are few of them.
use Rattle.std.proofs.Common.{◌≡◌, ◌∙◌, sym, List, [], ◌∷◌}
use Rattle.value_indices.specs.Steps.{Walk, bind, give}
use Rattle.value_indices.specs.Walking.{Written, got, run}
use Rattle.value_indices.proofs.Walks.{got_bind, got_give, run_bind, run_give}
use Rattle.pattern_leaves.proofs.Walked.{consed, consed_got, consed_run}

module _ {A B : Type 0} (f : List A → Walk B) (w : Written) where
  -- a first one, and others
  pub first_each_got : (first : Walk A) (rest : Walk (List A))
      → got (bind (consed first rest) f) w ≡ got (f (got first w ∷ got rest (run first w))) (run rest (run first w))
  first_each_got first rest = got_bind (consed first rest) f w ∙ (λ j. got (f (consed_got first rest w j)) (consed_run first rest w j))

  pub first_each_run : (first : Walk A) (rest : Walk (List A))
      → run (bind (consed first rest) f) w ≡ run (f (got first w ∷ got rest (run first w))) (run rest (run first w))
  first_each_run first rest = run_bind (consed first rest) f w ∙ (λ j. run (f (consed_got first rest w j)) (consed_run first rest w j))

  -- none
  pub none_each_got : got (bind (give []) f) w ≡ got (f []) w
  none_each_got = got_bind (give []) f w ∙ (λ j. got (f (got_give [] w j)) (run_give {A = List A} [] w j))

  pub none_each_run : run (bind (give []) f) w ≡ run (f []) w
  none_each_run = run_bind (give []) f w ∙ (λ j. run (f (got_give [] w j)) (run_give {A = List A} [] w j))

  -- one
  pub one_each_got : (first : Walk A) → got (bind (consed first (give [])) f) w ≡ got (bind first (λ i. f (i ∷ []))) w
  one_each_got first =
      first_each_got first (give [])
      ∙ (λ j. got (f (got first w ∷ got_give [] (run first w) j)) (run_give {A = List A} [] (run first w) j))
      ∙ sym (got_bind first (λ i. f (i ∷ [])) w)

  pub one_each_run : (first : Walk A) → run (bind (consed first (give [])) f) w ≡ run (bind first (λ i. f (i ∷ []))) w
  one_each_run first =
      first_each_run first (give [])
      ∙ (λ j. run (f (got first w ∷ got_give [] (run first w) j)) (run_give {A = List A} [] (run first w) j))
      ∙ sym (run_bind first (λ i. f (i ∷ [])) w)

  -- two
  pub two_each_got : (first second : Walk A)
      → got (bind (consed first (consed second (give []))) f) w ≡ got (bind first (λ i. bind second (λ k. f (i ∷ k ∷ [])))) w
  two_each_got first second =
      let v = run first w in
      first_each_got first (consed second (give []))
      ∙ (λ j. got (f (got first w ∷ consed_got second (give []) v j)) (consed_run second (give []) v j))
      ∙ (λ j. got (f (got first w ∷ got second v ∷ got_give [] (run second v) j)) (run_give {A = List A} [] (run second v) j))
      ∙ sym (got_bind first (λ i. bind second (λ k. f (i ∷ k ∷ []))) w ∙ got_bind second (λ k. f (got first w ∷ k ∷ [])) v)

  pub two_each_run : (first second : Walk A)
      → run (bind (consed first (consed second (give []))) f) w ≡ run (bind first (λ i. bind second (λ k. f (i ∷ k ∷ [])))) w
  two_each_run first second =
      let v = run first w in
      first_each_run first (consed second (give []))
      ∙ (λ j. run (f (got first w ∷ consed_got second (give []) v j)) (consed_run second (give []) v j))
      ∙ (λ j. run (f (got first w ∷ got second v ∷ got_give [] (run second v) j)) (run_give {A = List A} [] (run second v) j))
      ∙ sym (run_bind first (λ i. bind second (λ k. f (i ∷ k ∷ []))) w ∙ run_bind second (λ k. f (got first w ∷ k ∷ [])) v)
