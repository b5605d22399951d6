-- What an `if` ends in, by the number of its parts.
use Rattle.std.proofs.Common.{◌≡◌, ◌∙◌, ◌≤◌, ◌<◌, ap, sym, refl, Bool, Option, List, [], ◌∷◌, length, get_or, arith, false}
use Rattle.sail_base.specs.declared.place.Place.{Place}
use Rattle.sail_types.specs.declared.numbers.Con.{Con}
use Rattle.sail_core.specs.declared.tree.Core.{Core}
use Rattle.value_indices.specs.Steps.{Walk, give}
use Rattle.value_indices.specs.Walking.{Written, got, run}
use Rattle.value_indices.specs.declared.indices.Indices.{Indices}
use Rattle.value_indices.proofs.Walks.{got_give, run_give}
use Rattle.pattern_leaves.specs.Settings.{Around}
use Rattle.call_arguments.specs.Aims.{branch_aim}
use Rattle.call_arguments.specs.declared.aims.Aim.{Aim}
use Rattle.call_notes.specs.Ends.{settled}
use Rattle.expression_steps.specs.Coded.{each_part}
use Rattle.expression_steps.specs.Expressions.{part}
use Rattle.expression_steps.specs.Statements.{claim_behind, claim_met, if_end, met_condition, value_met}

-- ---- a walk that gives a value and nothing else

pub alone_got : {A : Type 0} (a : Walk A) (x : A) (w : Written) → a ≡ give x → x ≡ got a w
alone_got {A} a x w is = sym (got_give x w) ∙ ap (λ (b : Walk A). got b w) (sym is)

pub alone_run : {A : Type 0} (a : Walk A) (x : A) (w : Written) → a ≡ give x → w ≡ run a w
alone_run {A} a x w is = sym (run_give x w) ∙ ap (λ (b : Walk A). run b w) (sym is)

-- ---- its value

pub when_settled : (place : Place) (cs : List Core) (around : Around) (aim : Aim) (m : Option (Con × Indices)) → 2 ≤ length cs → length cs < 3
    → if_end place (each_part cs) around aim m ≡ settled around place (branch_aim aim) (value_met m)
when_settled place [] around aim m some few = absurd (omega arith)
when_settled place (a ∷ []) around aim m some few = absurd (omega arith)
when_settled place (a ∷ b ∷ []) around aim m some few = refl
when_settled place (a ∷ b ∷ c ∷ cs) around aim m some few = absurd (omega arith)

pub if_given : (place : Place) (cs : List Core) (around : Around) (aim : Aim) (m : Option (Con × Indices)) → 3 ≤ length cs → length cs < 4
    → if_end place (each_part cs) around aim m ≡ give (value_met m)
if_given place [] around aim m some few = absurd (omega arith)
if_given place (a ∷ []) around aim m some few = absurd (omega arith)
if_given place (a ∷ b ∷ []) around aim m some few = absurd (omega arith)
if_given place (a ∷ b ∷ c ∷ []) around aim m some few = refl
if_given place (a ∷ b ∷ c ∷ d ∷ cs) around aim m some few = absurd (omega arith)

-- ---- what it claims

when_given : (place : Place) (cs : List Core) (m : Option (Con × Indices)) (x : Core) → 2 ≤ length cs → length cs < 3 → x ≡ get_or cs 1 x
    → claim_behind place (each_part cs) m ≡ give (claim_met (part x).never_ends false (met_condition m))
when_given place [] m x some few is = absurd (omega arith)
when_given place (a ∷ []) m x some few is = absurd (omega arith)
when_given place (a ∷ b ∷ []) m x some few is = (λ j. give (claim_met (part (sym is j)).never_ends false (met_condition m)))
when_given place (a ∷ b ∷ c ∷ cs) m x some few is = absurd (omega arith)

either_given : (place : Place) (cs : List Core) (m : Option (Con × Indices)) (x y : Core) → 3 ≤ length cs → length cs < 4
    → x ≡ get_or cs 1 x → y ≡ get_or cs 2 y
    → claim_behind place (each_part cs) m ≡ give (claim_met (part x).never_ends (part y).never_ends (met_condition m))
either_given place [] m x y some few is too = absurd (omega arith)
either_given place (a ∷ []) m x y some few is too = absurd (omega arith)
either_given place (a ∷ b ∷ []) m x y some few is too = absurd (omega arith)
either_given place (a ∷ b ∷ c ∷ []) m x y some few is too =
    (λ j. give (claim_met (part (sym is j)).never_ends (part (sym too j)).never_ends (met_condition m)))
either_given place (a ∷ b ∷ c ∷ d ∷ cs) m x y some few is too = absurd (omega arith)

module _ (place : Place) (cs : List Core) (m : Option (Con × Indices)) (w : Written) where
  pub when_got : (x : Core) (ends : Bool) (met : Option Con) → 2 ≤ length cs → length cs < 3 → x ≡ get_or cs 1 x → ends ≡ (part x).never_ends
      → met ≡ met_condition m → claim_met ends false met ≡ got (claim_behind place (each_part cs) m) w
  when_got x ends met some few is goes has =
      (λ j. claim_met (goes j) false (has j))
      ∙ alone_got (claim_behind place (each_part cs) m) (claim_met (part x).never_ends false (met_condition m)) w
      (when_given place cs m x some few is)

  pub when_run : (x : Core) → 2 ≤ length cs → length cs < 3 → x ≡ get_or cs 1 x → w ≡ run (claim_behind place (each_part cs) m) w
  when_run x some few is =
      alone_run (claim_behind place (each_part cs) m) (claim_met (part x).never_ends false (met_condition m)) w
      (when_given place cs m x some few is)

  pub either_got : (x y : Core) (ends other : Bool) (met : Option Con) → 3 ≤ length cs → length cs < 4 → x ≡ get_or cs 1 x → y ≡ get_or cs 2 y
      → ends ≡ (part x).never_ends → other ≡ (part y).never_ends → met ≡ met_condition m
      → claim_met ends other met ≡ got (claim_behind place (each_part cs) m) w
  either_got x y ends other met some few is too goes stays has =
      (λ j. claim_met (goes j) (stays j) (has j))
      ∙ alone_got (claim_behind place (each_part cs) m) (claim_met (part x).never_ends (part y).never_ends (met_condition m)) w
      (either_given place cs m x y some few is too)

  pub either_run : (x y : Core) → 3 ≤ length cs → length cs < 4 → x ≡ get_or cs 1 x → y ≡ get_or cs 2 y
      → w ≡ run (claim_behind place (each_part cs) m) w
  either_run x y some few is too =
      alone_run (claim_behind place (each_part cs) m) (claim_met (part x).never_ends (part y).never_ends (met_condition m)) w
      (either_given place cs m x y some few is too)
