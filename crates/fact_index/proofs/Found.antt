-- The facts that are found for a goal are as good as all.
use Rattle.std.proofs.Common.{◌≡◌, ℕ, ◌+◌, true, List, [], ◌++◌, take, drop, map, slice_get, sym, ap, ◌∙◌, subst, arith}
use Rattle.std.specs.List.{fold}
use Rattle.sail_types.specs.declared.numbers.Con.{Con}
use Rattle.linear.specs.Choices.{variables_in, with_atom}
use Rattle.value_indices.specs.Steps.{conditions}
use Rattle.value_indices.specs.declared.notes.Fact.{Fact}
use Rattle.obligations.specs.Connected.{connected}
use Rattle.fact_index.specs.Filed.{has, IsIn, IsFiled}
use Rattle.fact_index.specs.Gathered.{AreClosed}
use Rattle.fact_index.specs.Keys.{key_of, keys_of}
use Rattle.fact_index.specs.Picked.{HasAll, IsPart, IsPicked}
use Rattle.fact_index.proofs.AsGood.{good_append, good_connected}
use Rattle.fact_index.proofs.Picks.{conditions_append}
use Rattle.fact_index.proofs.Reaching.{is_among, goal_among, part_among, taken_at, dropped_at}

module _ (facts first second : List Fact) (until since : ℕ) (none one two : List Con) (start : none ≡ []) (before : first ≡ take until facts)
    (behind : second ≡ drop since facts) where
  -- all of both parts
  pub all_found : one ≡ none ++ conditions first → two ≡ one ++ conditions second → two ≡ conditions (take until facts ++ drop since facts)
  all_found h g =
      g ∙ (ap (λ l. l ++ conditions second) (h ∙ ap (λ l. l ++ conditions first) start)
      ∙ ((λ j. conditions (before j) ++ conditions (behind j)) ∙ sym (conditions_append (take until facts) (drop since facts))))

  -- those that the keys lead to
  module _ (lists : List (List ℕ)) (goal : Con) (from keys positions : List ℕ) (begun : from ≡ keys_of goal) (some : from ≡ [] → ⊥)
      (closed : AreClosed lists facts from keys) (all : (k p : ℕ) → has keys k ≡ true → IsIn lists k p → has positions p ≡ true) where
    pub same_connected : IsPicked none first 0 positions one → IsPicked one second since positions two → IsFiled facts lists
        → connected two (variables_in goal) ≡ connected (conditions (take until facts ++ drop since facts)) (variables_in goal)
    same_connected h g filed =
        let kind = is_among keys in
        let a : IsPart kind (take until facts) none one =
        subst (λ part. IsPart kind part none one) before
        (h kind (subst (λ part. HasAll kind part 0 positions) (sym before)
        (part_among lists facts from keys positions filed closed all (take until facts) 0
        (λ p x e. let n : 0 + p ≡ p = omega arith in ap (slice_get facts) n ∙ taken_at until facts p x e)))) in
        let b : IsPart kind (drop since facts) one two =
        subst (λ part. IsPart kind part one two) behind
        (g kind (subst (λ part. HasAll kind part since positions) (sym behind)
        (part_among lists facts from keys positions filed closed all (drop since facts) since (dropped_at since facts)))) in
        let put : two ≡ a.more ++ b.more = b.put ∙ ap (λ l. l ++ b.more) (a.put ∙ ap (λ l. l ++ a.more) start) in
        let wanted : variables_in goal ≡ [] → ⊥ = λ e. some (begun ∙ ap (λ vs. map key_of (fold with_atom [] vs)) e) in
        ap (λ l. connected l (variables_in goal)) put
        ∙ (good_connected kind (conditions (take until facts) ++ conditions (drop since facts)) (a.more ++ b.more) (variables_in goal) wanted
        (good_append kind (conditions (take until facts)) (conditions (drop since facts)) a.more b.more a.good b.good)
        (goal_among lists facts from keys positions filed closed all goal begun)
        ∙ ap (λ l. connected l (variables_in goal)) (sym (conditions_append (take until facts) (drop since facts))))
