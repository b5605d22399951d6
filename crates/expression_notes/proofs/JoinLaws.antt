-- A condition, and what is walked under it.
use Rattle.std.proofs.Common.{◌≡◌, ◌∙◌, ap, sym, refl, Bool, Option, None, Some}
use Rattle.sail_types.specs.declared.numbers.Con.{Con}
use Rattle.value_indices.specs.Steps.{Walk, assume, scoped}
use Rattle.value_indices.specs.Walking.{Written, got, remembering, restored, run}
use Rattle.sail_base.specs.declared.place.Place.{Place}
use Rattle.value_indices.specs.declared.indices.Indices.{Indices}
use Rattle.value_indices.specs.declared.indices.Indices.TheVariants as I
use Rattle.value_indices.proofs.Walks.{got_bind, run_bind}
use Rattle.pattern_leaves.specs.Settings.{Around, Scope}
use Rattle.pattern_leaves.proofs.Walked.{then_got, then_run}
use Rattle.call_arguments.specs.declared.aims.Aim.{Aim}
use Rattle.call_arguments.specs.declared.aims.Aim.TheVariants as Aims
use Rattle.expression_forms.specs.Truths.{then_truth}
use Rattle.expression_steps.specs.Parts.{Part, condition_walk, truth_walk, under}
use Rattle.expression_steps.specs.Statements.{guarded, joined, joined_under, joined_walk, under_or_not}
use Rattle.expression_steps.proofs.Conditions.{scoped_got, scoped_run}
use Rattle.expression_steps.proofs.Onward.{given_got, given_run}
use Rattle.expression_notes.proofs.Alike.{Alike}

-- ---- what is done with a condition that is there

module _ (a : Part) (around : Around) (scope : Scope) (v w : Written) (next : Con → Walk Indices) (met : Option Con)
    (found : met ≡ got (truth_walk a around scope) v) (was : w ≡ run (truth_walk a around scope) v) (c : Con) (some : met ≡ Some c) where
  truth_got : got (next c) w ≡ got (condition_walk a around scope next) v
  truth_got = then_got (truth_walk a around scope) (then_truth next) v w (Some c) (sym some ∙ found) was

  truth_run : run (next c) w ≡ run (condition_walk a around scope next) v
  truth_run = then_run (truth_walk a around scope) (then_truth next) v w (Some c) (sym some ∙ found) was

-- ---- no condition

pub none_alike : (a : Part) (around : Around) (scope : Scope) (v w : Written) (next : Con → Walk Indices) (met : Option Con)
    → met ≡ got (truth_walk a around scope) v → w ≡ run (truth_walk a around scope) v → met ≡ None
    → Alike I.Never (got (condition_walk a around scope next) v) w (run (condition_walk a around scope next) v)
none_alike a around scope v w next met found was none = record {
  value = given_got (truth_walk a around scope) (then_truth next) (condition_walk a around scope next) v w None I.Never refl (sym none ∙ found) was refl;
  walked = given_run (truth_walk a around scope) (then_truth next) (condition_walk a around scope next) v w None I.Never refl (sym none ∙ found) was refl;
}

-- ---- under a condition

module _ (b : Part) (around : Around) (scope : Scope) (aim : Aim) (c d : Con) (w u : Written) (same : d ≡ c) (was : u ≡ run (assume d) w) where
  assumed : u ≡ run (assume c) w
  assumed = was ∙ ap (λ (q : Con). run (assume q) w) same

  pub under_got : got (b.walk around scope aim) u ≡ got (under c b around scope aim) w
  under_got = ap (λ (x : Written). got (b.walk around scope aim) x) assumed ∙ sym (got_bind (assume c) (λ t. b.walk around scope aim) w)

  pub under_run : run (b.walk around scope aim) u ≡ run (under c b around scope aim) w
  under_run = ap (λ (x : Written). run (b.walk around scope aim) x) assumed ∙ sym (run_bind (assume c) (λ t. b.walk around scope aim) w)

-- ---- `a & b` and `a | b`

module _ (is_or : Bool) (a b : Part) (around : Around) (scope : Scope) (met : Option Con) (c d : Con) (v w1 w2 w3 w4 w5 : Written) (i : Indices)
    (found : met ≡ got (truth_walk a around scope) v) (went : w1 ≡ run (truth_walk a around scope) v) (some : met ≡ Some c)
    (given : d ≡ under_or_not is_or c) (remembered : w2 ≡ remembering w1) (assumes : w3 ≡ run (assume d) w2)
    (is : i ≡ got (b.walk around scope Aims.Free) w3) (was : w4 ≡ run (b.walk around scope Aims.Free) w3) (ends : w5 ≡ restored w4) where
  abbrev inner : Walk Indices
  inner = under (under_or_not is_or c) b around scope Aims.Free

  value_in : i ≡ got (scoped inner) w1
  value_in =
      scoped_got inner w1 w2 i remembered (is ∙ under_got b around scope Aims.Free (under_or_not is_or c) d w2 w3 given assumes)

  walked_in : w5 ≡ run (scoped inner) w1
  walked_in =
      scoped_run inner w1 w2 w4 w5 remembered (was ∙ under_run b around scope Aims.Free (under_or_not is_or c) d w2 w3 given assumes) ends

  joined_got : got (joined is_or b.place c i) w5 ≡ got (joined_walk is_or a b around scope) v
  joined_got =
      then_got (scoped inner) (joined is_or b.place c) w1 w5 i value_in walked_in
      ∙ truth_got a around scope v w1 (joined_under is_or b around scope) met found went c some

  joined_run : run (joined is_or b.place c i) w5 ≡ run (joined_walk is_or a b around scope) v
  joined_run =
      then_run (scoped inner) (joined is_or b.place c) w1 w5 i value_in walked_in
      ∙ truth_run a around scope v w1 (joined_under is_or b around scope) met found went c some

  pub joined_alike : (place : Place) → place ≡ b.place → Alike (got (joined is_or place c i) w5) (got (joined_walk is_or a b around scope) v)
      (run (joined is_or place c i) w5) (run (joined_walk is_or a b around scope) v)
  joined_alike place here = record {
    value = ap (λ (p : Place). got (joined is_or p c i) w5) here ∙ joined_got;
    walked = ap (λ (p : Place). run (joined is_or p c i) w5) here ∙ joined_run;
  }

-- ---- a guard, and what it guards

module _ (a b : Part) (around : Around) (scope : Scope) (aim : Aim) (met : Option Con) (c : Con) (v w u : Written)
    (found : met ≡ got (truth_walk a around scope) v) (went : w ≡ run (truth_walk a around scope) v) (some : met ≡ Some c)
    (assumes : u ≡ run (assume c) w) where
  abbrev guards : Con → Walk Indices
  guards d = under d b around scope aim

  guarded_got : got (b.walk around scope aim) u ≡ got (guarded a b around scope aim) v
  guarded_got =
      ap (λ (x : Written). got (b.walk around scope aim) x) assumes
      ∙ sym (got_bind (assume c) (λ t. b.walk around scope aim) w)
      ∙ truth_got a around scope v w guards met found went c some

  guarded_run : run (b.walk around scope aim) u ≡ run (guarded a b around scope aim) v
  guarded_run =
      ap (λ (x : Written). run (b.walk around scope aim) x) assumes
      ∙ sym (run_bind (assume c) (λ t. b.walk around scope aim) w)
      ∙ truth_run a around scope v w guards met found went c some

  pub guarded_alike : Alike (got (b.walk around scope aim) u) (got (guarded a b around scope aim) v) (run (b.walk around scope aim) u)
      (run (guarded a b around scope aim) v)
  guarded_alike = record { value = guarded_got; walked = guarded_run }
