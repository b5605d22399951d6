-- What facts tell of the combinations at a place decides them.
use Rattle.std.proofs.Common.{◌≡◌, ◌∙◌, ap, refl, ℕ, List, [], ◌∷◌, ◌++◌}
use Rattle.std.specs.Prelude.{Bool, false, nat_eq, ◌||◌, None}
use Rattle.std.specs.List.{list_any}
use Rattle.sail_types.specs.declared.numbers.Index.{Index}
use Rattle.sail_core.specs.declared.tree.Callee.{Callee}
use Rattle.sail_core.specs.declared.tree.Callee.TheVariants as D
use Rattle.value_indices.specs.declared.indices.Indices.{Indices}
use Rattle.value_indices.specs.declared.indices.Reading.{Reading}
use Rattle.value_indices.specs.declared.notes.Fact.{Fact}
use Rattle.value_indices.specs.declared.notes.Fact.TheVariants as Y
use Rattle.value_indices.specs.declared.notes.Made.{Made}
use Rattle.value_indices.specs.declared.notes.Step.{Step}
use Rattle.value_indices.specs.declared.notes.Step.TheVariants as S
use Rattle.size_values.specs.declared.constants.Picked.{Picked}
use Rattle.size_values.specs.Numbers.{Known, known_of}
use Rattle.size_splits.specs.Alone.{sizes_given}
use Rattle.size_splits.specs.Sizing.{made_facts}
use Rattle.size_splits.specs.Splits.{counted}
use Rattle.size_splits.specs.Telling.{telling}
use Rattle.size_splits.proofs.Unsaid.{counted_told}
use Rattle.sized_nodes.specs.declared.trees.Instance.{Instance}
use Rattle.monomorph.specs.Reading.{Inside}
use Rattle.sized_trees.specs.declared.combinations.Choice.{Choice}
use Rattle.sized_nodes.specs.declared.trees.NodeSizes.TheVariants as Z
use Rattle.sized_trees.specs.Bodies.{at_call, at_step, made_choices, value_at}
use Rattle.sized_trees.specs.Cases.{cases_under, leads_under}
use Rattle.sized_trees.specs.Combinations.{bound_choices, combinations_at, each_once, is_given, is_told, noted_choices, picked_where, those_before}
use Rattle.sized_trees.specs.Combinations.{where_so, with_each, with_one}

-- ---- the same numbers are noted

pub given_told : (k : Known) (vs : List ℕ) (facts : List Fact) (v : ℕ) → is_given (telling k vs facts) v ≡ is_given facts v
given_told k vs [] v = refl
given_told k vs (Y.Holds c ∷ facts) v = ap (λ (b : Bool). false || b) (given_told k vs facts v)
given_told k vs (Y.IsGiven w ∷ facts) v = ap (λ (b : Bool). nat_eq v w || b) (given_told k vs facts v)

-- ---- by what is noted alone

module _ (f g : ℕ → Bool) (alike : (v : ℕ) → f v ≡ g v) where
  picked_alike : (ps : List Picked) → picked_where f ps ≡ picked_where g ps
  picked_alike [] = refl
  picked_alike (p ∷ ps) =
      ap (λ (b : Bool). where_so b p ++ picked_where f ps) (alike p.variable)
      ∙ ap (λ (l : List Picked). where_so (g p.variable) p ++ l) (picked_alike ps)

  once_alike : (seen more : List (List Picked)) → each_once f seen more ≡ each_once g seen more
  once_alike seen [] = refl
  once_alike seen (ps ∷ more) =
      ap (λ (l : List Picked). each_once f (with_one seen l) more) (picked_alike ps) ∙ once_alike (with_one seen (picked_where g ps)) more

-- ---- the same combinations, and the same is said of nodes

module _ (r : Inside) (list : List Instance) where
  abbrev pub told_of : List Fact → List Fact
  told_of facts = telling (known_of r.numbers) r.split facts

  pub combinations_told : (facts : List Fact) → combinations_at r (told_of facts) ≡ combinations_at r facts
  combinations_told facts =
      ap (λ (l : List (List Picked)). each_once (is_given (told_of facts)) [] l) (counted_told (known_of r.numbers) r.split facts [])
      ∙ once_alike (is_given (told_of facts)) (is_given facts) (given_told (known_of r.numbers) r.split facts) []
      (counted (known_of r.numbers) r.split facts [])

  noted_told : (facts : List Fact) (own : List ℕ) → noted_choices r (told_of facts) own ≡ noted_choices r facts own
  noted_told facts own =
      let before = those_before r.variables own in
      ap (λ (l : List (List Picked)). each_once (is_told (told_of facts) before) [] l) (counted_told (known_of r.numbers) r.split facts [])
      ∙ once_alike (is_told (told_of facts) before) (is_told facts before)
      (λ v. ap (λ (b : Bool). list_any (nat_eq v) before || b) (given_told (known_of r.numbers) r.split facts v)) []
      (counted (known_of r.numbers) r.split facts [])

  pub choices_told : (facts : List Fact) (made : Made) → made_choices r (told_of facts) made ≡ made_choices r facts made
  choices_told facts made =
      let own = sizes_given r.types (value_at r made) in
      ap (with_each (bound_choices r (made_facts r.variables made None) own)) (noted_told facts own)

  call_told : (facts : List Fact) (k : ℕ) (operands : List Indices) (callee : Callee) (js : List Index) (qs : List Reading)
      → at_call r list (told_of facts) k operands callee js qs ≡ at_call r list facts k operands callee js qs
  call_told facts k operands (D.Function f) js qs =
      ap (λ (l : List (List Picked)). Z.Calls k (leads_under r list operands f js qs l) ∷ []) (combinations_told facts)
  call_told facts k operands (D.Row row) js qs = refl
  call_told facts k operands (D.Constructor u c) js qs = refl
  call_told facts k operands (D.Converts d) js qs = refl
  call_told facts k operands (D.Applies d) js qs = refl

  pub step_told : (facts : List Fact) (s : Step) → at_step r list (told_of facts) s ≡ at_step r list facts s
  step_told facts (S.Assumes fact) = refl
  step_told facts S.Remembers = refl
  step_told facts S.Restores = refl
  step_told facts S.Forgets = refl
  step_told facts (S.Claims c) = refl
  step_told facts S.Unclaims = refl
  step_told facts (S.Owes place c) = refl
  step_told facts (S.OwesEarlier place recent c) = refl
  step_told facts (S.Sizes place made) = refl
  step_told facts (S.Makes k operands made) =
      ap (λ (l : List Choice). Z.Makes k (value_at r made) (cases_under r operands (value_at r made) l) ∷ []) (choices_told facts made)
  step_told facts (S.Calls place k operands callee js qs) = call_told facts k operands callee js qs
  step_told facts (S.Converts d) = refl
  step_told facts (S.Gives k indices) = refl
  step_told facts (S.Names variable name) = refl
