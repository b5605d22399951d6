-- The numbers that several variables take, step by step.
use Rattle.std.proofs.Common.{◌≡◌, ◌∙◌, ℕ, zero, suc, ◌+◌, ◌<◌, ◌≤◌, Bool, true, false, List, [], ◌∷◌, ◌++◌, length, drop}
use Rattle.std.proofs.Common.{take, get_or, replicate, ap, sym, refl, arith}
use Rattle.std.proofs.lemmas.List.{length-replicate}
use Rattle.std.specs.Prelude.{ℤ, Option, Some, None, if◌then◌else◌}
use Rattle.sail_types.specs.Places.{first}
use Rattle.sail_types.specs.declared.numbers.Con.{Con}
use Rattle.sail_types.specs.declared.table.Types.{Types}
use Rattle.value_indices.specs.Walking.{Written, begun, step_read, steps_read}
use Rattle.value_indices.specs.declared.indices.Indices.{Indices}
use Rattle.value_indices.specs.declared.notes.Fact.{Fact}
use Rattle.value_indices.specs.declared.notes.Step.{Step}
use Rattle.size_values.specs.declared.constants.Constant.{Constant}
use Rattle.size_splits.specs.Bodies.{Body}
use Rattle.size_splits.specs.Reading.{each_first, is_open_step, named_in, splits_by, step_conditions, step_domains, step_value}
use Rattle.size_splits.specs.Reading.{count_after, steps_domain, steps_domains, taken_here, value_domain, value_domains}
use Rattle.size_splits.specs.Sizing.{Sizing}
use Rattle.size_splits.specs.Splits.{count_with, notes_domain, splits_from, taken}
use Rattle.size_splits.proofs.Lists.{none_left, read_more, rest_at}

-- ---- the first of each

first_none : {A : Type 0} (o : Option A) → first o None ≡ o
first_none None = refl
first_none (Some x) = refl

first_assoc : {A : Type 0} (o p q : Option A) → first (first o p) q ≡ first o (first p q)
first_assoc None p q = refl
first_assoc (Some x) p q = refl

pub each_first_assoc : {A : Type 0} (os ps qs : List (Option A)) → each_first (each_first os ps) qs ≡ each_first os (each_first ps qs)
each_first_assoc [] ps qs = refl
each_first_assoc (o ∷ os) [] qs = refl
each_first_assoc (o ∷ os) (p ∷ ps) [] = refl
each_first_assoc (o ∷ os) (p ∷ ps) (q ∷ qs) = λ i. first_assoc o p q i ∷ each_first_assoc os ps qs i

pub each_first_none : {A : Type 0} (os : List (Option A)) → each_first os (replicate (length os) None) ≡ os
each_first_none [] = refl
each_first_none (o ∷ os) = λ i. first_none o i ∷ each_first_none os i

pub none_each_first : {A : Type 0} (n : ℕ) (os : List (Option A)) → length os ≡ n → each_first (replicate n None) os ≡ os
none_each_first zero [] e = refl
none_each_first zero (o ∷ os) e = absurd (omega (arith, e))
none_each_first (suc n) [] e = absurd (omega (arith, e))
none_each_first (suc n) (o ∷ os) e = ap (λ l. o ∷ l) (none_each_first n os (omega (arith, e)))

pub length_each_first : {A : Type 0} (os ps : List (Option A)) → length ps ≡ length os → length (each_first os ps) ≡ length os
length_each_first [] ps e = refl
length_each_first (o ∷ os) [] e = absurd (omega (arith, e))
length_each_first (o ∷ os) (p ∷ ps) e = ap suc (length_each_first os ps (omega (arith, e)))

module _ (types : Types) (sizing : Sizing) (of : ℕ → Constant) where
  pub length_value_domains : (count v : ℕ) (cs : List Con) (s : Step) (i : Indices) → length (value_domains types sizing of count v cs s i) ≡ count
  length_value_domains zero v cs s i = refl
  length_value_domains (suc n) v cs s i = ap suc (length_value_domains n (suc v) cs s i)

  module _ (beyond : ℕ) where
    pub length_steps_domains : (count v : ℕ) (w : Written) (ss : List Step) → length (steps_domains types sizing beyond of count v w ss) ≡ count
    length_steps_domains zero v w ss = refl
    length_steps_domains (suc n) v w ss = ap suc (length_steps_domains n (suc v) w ss)

    length_chosen : (b : Bool) (count v : ℕ) (cs : List Con) (s : Step) (i : Indices)
        → length (if b then value_domains types sizing of count v cs s i else replicate count None) ≡ count
    length_chosen true count v cs s i = length_value_domains count v cs s i
    length_chosen false count v cs s i = length-replicate count None

    pub length_step_domains : (count v : ℕ) (facts : List Fact) (s : Step) (named : Option ℕ)
        → length (step_domains types sizing beyond of count v facts s named) ≡ count
    length_step_domains count v facts s named =
        length_chosen (is_open_step types sizing beyond of s named) count v (step_conditions beyond facts s named) s (step_value beyond s named)

    -- no steps
    pub no_domains : (count v : ℕ) (w : Written) → steps_domains types sizing beyond of count v w [] ≡ replicate count None
    no_domains zero v w = refl
    no_domains (suc n) v w = ap (λ l. None ∷ l) (no_domains n (suc v) w)

    -- nothing isn't constant
    pub none_opened : (count v : ℕ) (facts : List Fact) (s : Step) (named : Option ℕ) → is_open_step types sizing beyond of s named ≡ false
        → step_domains types sizing beyond of count v facts s named ≡ replicate count None
    none_opened count v facts s named e =
        ap (λ b. if b then value_domains types sizing of count v (step_conditions beyond facts s named) s (step_value beyond s named)
        else replicate count None) e

    pub known_end : (steps : List Step) (k count v : ℕ) (known all : List (Option (List ℤ))) → length steps ≤ k → length known ≡ count
        → each_first known (steps_domains types sizing beyond of count v (steps_read (begun 0) (take k steps)) (drop k steps)) ≡ all → known ≡ all
    known_end steps k count v known all past many h =
        let w = steps_read (begun 0) (take k steps) in
        sym (each_first_none known)
        ∙ (ap (λ (n : ℕ). each_first known (replicate n None)) many
        ∙ (ap (each_first known) (sym (no_domains count v w))
        ∙ (ap (λ (ss : List Step). each_first known (steps_domains types sizing beyond of count v w ss)) (sym (none_left steps k past)) ∙ h)))

    -- ---- a step, and those behind it

    module _ (w : Written) (s : Step) (ss : List Step) where
      -- at it, if something isn't constant there
      abbrev here : Bool → ℕ → Option (List ℤ)
      here b v = if b then value_domain types sizing of v (step_conditions beyond w.facts s (named_in ss)) s (step_value beyond s (named_in ss)) else None

      abbrev all_here : Bool → ℕ → ℕ → List (Option (List ℤ))
      all_here b count v =
          if b then value_domains types sizing of count v (step_conditions beyond w.facts s (named_in ss)) s (step_value beyond s (named_in ss))
          else replicate count None

      abbrev there : ℕ → Option (List ℤ)
      there v = steps_domain types sizing beyond of v (step_read w s) ss

      abbrev both : Bool → ℕ → ℕ → List (Option (List ℤ))
      both b zero v = []
      both b (suc n) v = first (here b v) (there v) ∷ both b n (suc v)

      as_both : (count v : ℕ)
          → steps_domains types sizing beyond of count v w (s ∷ ss) ≡ both (is_open_step types sizing beyond of s (named_in ss)) count v
      as_both zero v = refl
      as_both (suc n) v = ap (λ l. first (here (is_open_step types sizing beyond of s (named_in ss)) v) (there v) ∷ l) (as_both n (suc v))

      both_apart : (b : Bool) (count v : ℕ)
          → both b count v ≡ each_first (all_here b count v) (steps_domains types sizing beyond of count v (step_read w s) ss)
      both_apart true zero v = refl
      both_apart true (suc n) v = ap (λ l. first (here true v) (there v) ∷ l) (both_apart true n (suc v))
      both_apart false zero v = refl
      both_apart false (suc n) v = ap (λ l. there v ∷ l) (both_apart false n (suc v))

      pub domains_next : (count v : ℕ) → steps_domains types sizing beyond of count v w (s ∷ ss)
          ≡ each_first (step_domains types sizing beyond of count v w.facts s (named_in ss))
          (steps_domains types sizing beyond of count v (step_read w s) ss)
      domains_next count v = as_both count v ∙ both_apart (is_open_step types sizing beyond of s (named_in ss)) count v

    -- ---- what is known behind some of the steps

    module _ (steps : List Step) (k : ℕ) (s : Step) (within : k < length steps) (read : s ≡ get_or steps k s) (count v : ℕ) where
      pub known_next : (facts : List Fact) (known new all : List (Option (List ℤ))) → (steps_read (begun 0) (take k steps)).facts ≡ facts
          → length known ≡ count
          → new ≡ each_first known (step_domains types sizing beyond of (length known) v facts s (named_in (drop (k + 1) steps)))
          → each_first known (steps_domains types sizing beyond of count v (steps_read (begun 0) (take k steps)) (drop k steps)) ≡ all
          → each_first new (steps_domains types sizing beyond of count v (steps_read (begun 0) (take (k + 1) steps)) (drop (k + 1) steps)) ≡ all
      known_next facts known new all force many put h =
          let w = steps_read (begun 0) (take k steps) in
          let rest = drop (k + 1) steps in
          let behind = steps_domains types sizing beyond of count v (step_read w s) rest in
          let here = step_domains types sizing beyond of count v w.facts s (named_in rest) in
          let made : new ≡ each_first known here =
          put ∙ (λ j. each_first known (step_domains types sizing beyond of (many j) v (sym force j) s (named_in rest))) in
          ap (λ (u : Written). each_first new (steps_domains types sizing beyond of count v u rest)) (read_more steps k s within read)
          ∙ (ap (λ l. each_first l behind) made
          ∙ (each_first_assoc known here behind
          ∙ (ap (each_first known) (sym (domains_next w s rest count v))
          ∙ (ap (λ ss. each_first known (steps_domains types sizing beyond of count v w ss)) (sym (rest_at steps k s within read)) ∙ h))))

      pub known_length : (facts : List Fact) (known new : List (Option (List ℤ))) → length known ≡ count
          → new ≡ each_first known (step_domains types sizing beyond of (length known) v facts s (named_in (drop (k + 1) steps)))
          → length new ≡ count
      known_length facts known new many put =
          ap length put
          ∙ (length_each_first known (step_domains types sizing beyond of (length known) v facts s (named_in (drop (k + 1) steps)))
          (length_step_domains (length known) v facts s (named_in (drop (k + 1) steps))) ∙ many)

  -- ---- those that are split

  taken_is : (v n : ℕ) (o : Option ℕ) (more : ℕ → List ℕ) → taken v n o more ≡ taken_here v o ++ more (count_after n o)
  taken_is v n None more = refl
  taken_is v n (Some m) more = refl

  pub splits_listed : (b : Body) (w : Written) (ss : List Step)
      → ((v : ℕ) → notes_domain types sizing b.variables of v b.notes ≡ steps_domain types sizing b.variables of v w ss)
      → (count v n : ℕ) → splits_from types sizing of b count v n ≡ splits_by v n (steps_domains types sizing b.variables of count v w ss)
  splits_listed b w ss h zero v n = refl
  splits_listed b w ss h (suc count) v n =
      taken_is v n (count_with n (notes_domain types sizing b.variables of v b.notes)) (splits_from types sizing of b count (suc v))
      ∙ (λ j. taken_here v (count_with n (h v j)) ++ splits_listed b w ss h count (suc v) (count_after n (count_with n (h v j))) j)
