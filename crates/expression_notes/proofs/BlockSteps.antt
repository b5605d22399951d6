-- A block, statement by statement: what is left of it behind each, and the claims that end with it.
use Rattle.std.proofs.Common.{◌≡◌, ◌∙◌, ◌≤◌, ◌<◌, ◌+◌, ◌-◌, ap, sym, refl, ℕ, zero, suc, List, ◌∷◌, ◌++◌, length, drop, get_or}
use Rattle.std.proofs.Common.{slice_get, Option, Some, None, append_assoc, add-one, arith, length-drop}
use Rattle.sail_base.specs.declared.place.Place.{Place}
use Rattle.sail_types.specs.declared.numbers.Con.{Con}
use Rattle.sail_core.specs.declared.tree.Core.{Core}
use Rattle.sail_core.specs.declared.tree.Giver.{Giver}
use Rattle.sail_core.specs.declared.tree.Giver.TheVariants as Gives
use Rattle.sail_core.specs.declared.tree.Statement.{Statement}
use Rattle.sail_core.specs.declared.tree.Statement.TheVariants as S
use Rattle.value_indices.specs.Steps.{Walk, bind, give}
use Rattle.value_indices.specs.Walking.{Written, claiming, got, run, unclaimed}
use Rattle.value_indices.specs.declared.indices.Indices.{Indices}
use Rattle.value_indices.proofs.Walks.{got_bind, got_claimed, run_bind, run_claimed}
use Rattle.pattern_leaves.specs.Settings.{Around, Scope}
use Rattle.pattern_leaves.specs.declared.names.Bound.{Bound}
use Rattle.pattern_leaves.proofs.Rests.{got_is, rest_is}
use Rattle.pattern_leaves.proofs.Walked.{made_got, made_run}
use Rattle.call_arguments.specs.declared.aims.Aim.{Aim}
use Rattle.expression_steps.specs.Coded.{each_part}
use Rattle.expression_steps.specs.Expressions.{part}
use Rattle.expression_steps.specs.Parts.{Part}
use Rattle.expression_steps.specs.Statements.{block_walk, let_given, under_claim, var_name}
use Rattle.expression_steps.proofs.Masses.{first_mass, mass, masses, masses_drop}
use Rattle.expression_notes.specs.Claims.{bound_alone, claimed_alone, claiming_if, claims_in, statement_walk, unclaimed_times}
use Rattle.expression_notes.proofs.Alike.{Alike}

-- ---- claims that are in force no more

pub one_unclaimed : (n : ℕ) (w : Written) → 0 < n → unclaimed_times (n - 1) (unclaimed w) ≡ unclaimed_times n w
one_unclaimed zero w some = absurd (omega (arith, some))
one_unclaimed (suc n) w some = let e : suc n - 1 ≡ n = omega arith in ap (λ m. unclaimed_times m (unclaimed w)) e

pub all_unclaimed : (n : ℕ) (w : Written) → n ≤ 0 → unclaimed_times n w ≡ w
all_unclaimed zero w few = refl
all_unclaimed (suc n) w few = absurd (omega (arith, few))

one_more : (n : ℕ) (w : Written) → unclaimed_times (n + 1) w ≡ unclaimed_times n (unclaimed w)
one_more n w = ap (λ m. unclaimed_times m w) (add-one n)

few_claims : (c : Option Con) → claims_in c ≤ 1
few_claims None = omega arith
few_claims (Some c) = omega arith

pub few_more : (n k made : ℕ) (met : Option Con) → made ≡ claims_in met → n ≤ k → n + made ≤ k + 1
few_more n k made met is few = omega (arith, is, few_claims met, few)

-- what is claimed is in force in what is left
under_got : (c : Option Con) (rest : Walk Indices) (v : Written) → got rest (claiming_if c v) ≡ got (under_claim rest c) v
under_got None rest v = refl
under_got (Some c) rest v = sym (got_claimed c rest v)

under_run : (c : Option Con) (n : ℕ) (rest : Walk Indices) (v : Written)
    → unclaimed_times (n + claims_in c) (run rest (claiming_if c v)) ≡ unclaimed_times n (run (under_claim rest c) v)
under_run None n rest v = let e : n + zero ≡ n = omega arith in ap (λ m. unclaimed_times m (run rest v)) e
under_run (Some c) n rest v = one_more n (run rest (claiming c v)) ∙ ap (unclaimed_times n) (sym (run_claimed c rest v))

-- how many statements are left behind one
pub statements_behind : (k : ℕ) (ss : List Statement) → k < length ss → length ss - k - 1 ≡ length (drop (k + 1) ss)
statements_behind k ss there = omega (arith, length-drop (k + 1) ss, there)

-- ---- one statement

-- what is left of the block behind a statement by itself
abbrev behind : Place → ℕ → List Statement → List Part → Around → Scope → Aim → List Bound × Option Con → Walk Indices
behind place k ss ps around scope aim r = under_claim (block_walk place k ss ps around (r.0 ++ scope) aim) r.1

-- behind a first walk of which something is made
made_first : {A : Type 0} (first : Walk A) (f : A → List Bound × Option Con) (next : List Bound × Option Con → Walk Indices) (w v : Written)
    (r : List Bound × Option Con) → r ≡ got (bind first (λ x. give (f x))) w → v ≡ run (bind first (λ x. give (f x))) w
    → Alike (got (next r) v) (got (bind first (λ x. next (f x))) w) (run (next r) v) (run (bind first (λ x. next (f x))) w)
made_first first f next w v r is was =
    let known = is ∙ sym (made_got first f w (got first w) refl) in
    let wrote = was ∙ sym (made_run first f w (run first w) refl) in
    record {
      value = (λ j. got (next (known j)) (wrote j)) ∙ sym (got_bind first (λ x. next (f x)) w);
      walked = (λ j. run (next (known j)) (wrote j)) ∙ sym (run_bind first (λ x. next (f x)) w);
    }

step_walk : (place : Place) (k : ℕ) (s : Statement) (a : Part) (ss : List Statement) (ps : List Part) (around : Around) (scope : Scope) (aim : Aim)
    (r : List Bound × Option Con) (w v : Written) → r ≡ got (statement_walk (Gives.Arm k (length ss)) s a around scope) w
    → v ≡ run (statement_walk (Gives.Arm k (length ss)) s a around scope) w
    → Alike (got (behind place k ss ps around scope aim r) v) (got (block_walk place k (s ∷ ss) (a ∷ ps) around scope aim) w)
    (run (behind place k ss ps around scope aim r) v) (run (block_walk place k (s ∷ ss) (a ∷ ps) around scope aim) w)
step_walk place k S.Evaluate a ss ps around scope aim r w v is was =
    made_first (a.state around scope) claimed_alone (behind place k ss ps around scope aim) w v r is was
step_walk place k (S.Define at arm) a ss ps around scope aim r w v is was =
    made_first (let_given (Gives.Arm k (length ss)) at arm a around scope) bound_alone (behind place k ss ps around scope aim) w v r is was
step_walk place k (S.Declare name written) a ss ps around scope aim r w v is was =
    made_first (var_name name written a around scope) bound_alone (behind place k ss ps around scope aim) w v r is was

-- ---- a part by its index

pub part_mass : (cs : List Core) (k : ℕ) (c : Core) → slice_get cs k ≡ Some c → mass c ≤ masses cs
part_mass cs k c is = omega (arith, masses_drop cs k, ap masses (got_is cs k c is), first_mass c (drop (k + 1) cs))

-- ---- what is left behind each

module _ (place : Place) (number : ℕ) (around : Around) (aim : Aim) (statements : List Statement) (cores : List Core) where
  abbrev left : ℕ → Scope → Walk Indices
  left k scope = block_walk place number (drop k statements) (each_part (drop k cores)) around scope aim

  module _ (k : ℕ) (s : Statement) (more : k < length statements) (is_there : s ≡ get_or statements k s) where
    module _ (core : Core) (has_part : slice_get cores k ≡ Some core) (inner outer : Scope) (same : inner ≡ outer) (w v : Written) where
      opened : left k outer ≡ block_walk place number (s ∷ drop (k + 1) statements) (part core ∷ each_part (drop (k + 1) cores)) around outer aim
      opened = λ j. block_walk place number (rest_is statements k s more is_there j) (each_part (got_is cores k core has_part j)) around outer aim

      -- a statement, what it claims, and what is left of the block
      pub statement_alike : (g : Giver) → g ≡ Gives.Arm number (length (drop (k + 1) statements)) → (found : List Bound) (met : Option Con)
          → (found, met) ≡ got (statement_walk g s (part core) around inner) w → v ≡ run (statement_walk g s (part core) around inner) w
          → (n now : ℕ) (u : Written) (all : Scope)
          → now ≡ n + claims_in met → u ≡ claiming_if met v → all ≡ found ++ outer
          → Alike (got (left (k + 1) all) u) (got (left k outer) w) (unclaimed_times now (run (left (k + 1) all) u))
          (unclaimed_times n (run (left k outer) w))
      statement_alike g giver found met is was n now u all counted claims grown =
          let ss = drop (k + 1) statements in
          let ps = each_part (drop (k + 1) cores) in
          let rest = left (k + 1) (found ++ outer) in
          let known = is ∙ (λ j. got (statement_walk (giver j) s (part core) around (same j)) w) in
          let wrote = was ∙ (λ j. run (statement_walk (giver j) s (part core) around (same j)) w) in
          let step = step_walk place number s (part core) ss ps around outer aim (found, met) w v known wrote in
          record {
            value = (λ j. got (left (k + 1) (grown j)) (claims j)) ∙ under_got met rest v ∙ step.value ∙ (λ j. got (sym opened j) w);
            walked = (λ j. unclaimed_times (counted j) (run (left (k + 1) (grown j)) (claims j))) ∙ under_run met n rest v
                ∙ ap (unclaimed_times n) (step.walked ∙ (λ j. run (sym opened j) w));
          }

-- names before others that are before others
pub names_grown : (now found names : List Bound) (scope : Scope) → now ≡ found ++ names → now ++ scope ≡ found ++ (names ++ scope)
names_grown now found names scope grown = ap (λ bs. bs ++ scope) grown ∙ append_assoc found names scope
