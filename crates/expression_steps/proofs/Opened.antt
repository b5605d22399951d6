-- How an expression opens.
use Rattle.std.proofs.Common.{◌≡◌, ◌∙◌, ◌+◌, ap, sym, ℕ, zero, suc, List, [], ◌∷◌, map, length, get_or, arith, Bool, true, false, if◌then◌else◌}
use Rattle.sail_base.specs.declared.place.Place.{Place}
use Rattle.sail_core.specs.declared.targets.Target.{Target, fold_out-Target, out-Target}
use Rattle.sail_core.specs.declared.tree.Core.{Core, fold_out-Core, out-Core}
use Rattle.sail_core.specs.declared.tree.Kind.{Kind}
use Rattle.value_indices.specs.Steps.{Walk, bind}
use Rattle.value_indices.specs.declared.indices.Indices.{Indices}
use Rattle.pattern_leaves.specs.Settings.{Around, Scope}
use Rattle.call_arguments.specs.declared.aims.Aim.{Aim}
use Rattle.call_notes.specs.Ends.{settled}
use Rattle.expression_steps.specs.Coded.{each_part}
use Rattle.expression_steps.specs.Expressions.{core_part, goes_inward, inward, kind_nested, kind_never_ends, kind_place, kind_state}
use Rattle.expression_steps.specs.Expressions.{kind_walk, makes_value, node_end, part, plain, settled_walk}
use Rattle.expression_steps.specs.Parts.{Part}
use Rattle.expression_steps.specs.Statements.{last_never_ends}
use Rattle.expression_steps.specs.Targets.{Spotting, kind_spot, spotting}

pub part_is : (c : Core) (ps : List Core) → ps ≡ (out-Core c).parts
    → part c ≡ core_part (record { place = (out-Core c).place; number = (out-Core c).number; kind = (out-Core c).kind; parts = each_part ps })
part_is c ps same =
    fold_out-Core Part core_part c
    ∙ (λ j. core_part (record { place = (out-Core c).place; number = (out-Core c).number; kind = (out-Core c).kind; parts = each_part (sym same j) }))

pub walk_is : (c : Core) (ps : List Core) (around : Around) (scope : Scope) (aim : Aim) → ps ≡ (out-Core c).parts
    → (part c).walk around scope aim ≡ kind_walk (out-Core c).place (out-Core c).number (out-Core c).kind (each_part ps) around scope aim
walk_is c ps around scope aim same = ap (λ (a : Part). a.walk around scope aim) (part_is c ps same)

pub state_is : (c : Core) (ps : List Core) (around : Around) (scope : Scope) → ps ≡ (out-Core c).parts
    → (part c).state around scope ≡ kind_state (out-Core c).place (out-Core c).number (out-Core c).kind (each_part ps) around scope
state_is c ps around scope same = ap (λ (a : Part). a.state around scope) (part_is c ps same)

pub place_is : (c : Core) (ps : List Core) → ps ≡ (out-Core c).parts
    → (part c).place ≡ kind_place (out-Core c).place (out-Core c).kind (each_part ps)
place_is c ps same = ap (λ (a : Part). a.place) (part_is c ps same)

pub nested_is : (c : Core) (ps : List Core) → ps ≡ (out-Core c).parts → (part c).is_nested ≡ kind_nested (out-Core c).kind (each_part ps)
nested_is c ps same = ap (λ (a : Part). a.is_nested) (part_is c ps same)

pub ending_is : (c : Core) (ps : List Core) → ps ≡ (out-Core c).parts → (part c).never_ends ≡ kind_never_ends (out-Core c).kind (each_part ps)
ending_is c ps same = ap (λ (a : Part). a.never_ends) (part_is c ps same)

pub spotting_is : (t : Target) (ts : List Target) (around : Around) (scope : Scope) (parts : List Part) → ts ≡ (out-Target t).parts
    → spotting t around scope parts ≡ kind_spot (out-Target t).place (out-Target t).number (out-Target t).kind (map spotting ts) around scope parts
spotting_is t ts around scope parts same =
    ap (λ (s : Spotting). s around scope parts) (fold_out-Target Spotting (λ t. kind_spot t.place t.number t.kind t.parts) t)
    ∙ (λ j. kind_spot (out-Target t).place (out-Target t).number (out-Target t).kind (map spotting (sym same j)) around scope parts)

-- the last of some
pub last_at : (cs : List Core) (k : ℕ) (c : Core) → k + 1 ≡ length cs → c ≡ get_or cs k c → (part c).never_ends ≡ last_never_ends (each_part cs)
last_at [] k c count is = absurd (omega (arith, count))
last_at (x ∷ []) zero c count is = ap (λ (a : Core). (part a).never_ends) is
last_at (x ∷ []) (suc k) c count is = absurd (omega (arith, count))
last_at (x ∷ y ∷ cs) zero c count is = absurd (omega (arith, count))
last_at (x ∷ y ∷ cs) (suc k) c count is = last_at (y ∷ cs) k c (omega (arith, count)) is

-- ---- a node by whether it takes a wanted type further in

module _ (c : Core) (ps : List Core) (around : Around) (scope : Scope) (aim : Aim) (same : ps ≡ (out-Core c).parts) where
  abbrev place : Place
  place = (out-Core c).place

  abbrev number : ℕ
  number = (out-Core c).number

  abbrev kind : Kind
  kind = (out-Core c).kind

  module _ (is_made : Bool) (makes : is_made ≡ makes_value kind) where
    abbrev by_form : Bool → Bool → Walk Indices
    by_form made b =
        bind (if b then inward place number kind (each_part ps) around scope aim else settled_walk place number kind (each_part ps) around scope aim)
        (node_end number made)

    pub inward_is : goes_inward kind ≡ true
        → (part c).walk around scope aim ≡ bind (inward place number kind (each_part ps) around scope aim) (node_end number is_made)
    inward_is goes = walk_is c ps around scope aim same ∙ (λ j. by_form (sym makes j) (goes j))

    pub plain_is : goes_inward kind ≡ false
        → (part c).walk around scope aim
        ≡ bind (bind (plain place number kind (each_part ps) around scope aim) (settled around place aim)) (node_end number is_made)
    plain_is goes = walk_is c ps around scope aim same ∙ (λ j. by_form (sym makes j) (goes j))
