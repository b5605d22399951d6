-- Tests of each node of a core, and where what is found of an expression passes them: what its kind asks by itself, its patterns stand, and numbers and
-- conditions that it reads are over the variables of what is around.
use Rattle.std.specs.Prelude.{◌≡◌, ℕ, nat_lt, Bool, true, false, ◌&&◌, List, [], ◌∷◌, length, map, Option, Some, is_some}
use Rattle.std.specs.List.{list_all}
use Rattle.sail_base.specs.declared.kind.Kind.TheVariants as Sort
use Rattle.sail_base.specs.declared.operators.Operator.{Operator}
use Rattle.sail_base.specs.declared.place.Place.{Place}
use Rattle.sail_types.specs.Named.{members}
use Rattle.sail_types.specs.declared.numbers.Con.{Con}
use Rattle.sail_types.specs.declared.numbers.Index.{Index}
use Rattle.sail_types.specs.declared.numbers.Num.{Num}
use Rattle.sail_types.specs.declared.shapes.Shape.{Shape}
use Rattle.sail_syntax.specs.declared.expressions.Exp.{Exp}
use Rattle.sail_syntax.specs.declared.patterns.Pat.{Pat}
use Rattle.sail_syntax.specs.declared.types.TyExp.{TyExp}
use Rattle.sail_kinds.specs.Scopes.{Within}
use Rattle.sail_core.specs.declared.patterns.Arm.{Arm}
use Rattle.sail_core.specs.declared.patterns.Arm.TheVariants as A
use Rattle.sail_core.specs.declared.patterns.Form.TheVariants as F
use Rattle.sail_core.specs.declared.patterns.Head.TheVariants as H
use Rattle.sail_core.specs.declared.patterns.Literal.TheVariants as L
use Rattle.sail_core.specs.declared.patterns.Pattern.{Pattern, roll-Pattern}
use Rattle.sail_core.specs.declared.tree.Core.{Core, Core-F, fold-Core}
use Rattle.sail_core.specs.declared.tree.Kind.{Kind}
use Rattle.sail_core.specs.declared.tree.Kind.TheVariants as K
use Rattle.sail_core.specs.declared.tree.Statement.{Statement}
use Rattle.sail_core.specs.declared.tree.Statement.TheVariants as S
use Rattle.sail_names.specs.Known as Tables
use Rattle.sail_names.specs.Known.{in_measure, is_any}
use Rattle.sail_names.specs.Locals as Bound
use Rattle.sail_names.specs.Patterns.{type_failures, uses_failures}
use Rattle.sail_names.specs.Uses.{expression_failures}
use Rattle.sail_cycles.specs.Callees.{expression_callees, pattern_callees}
use Rattle.sail_cycles.specs.declared.expressions.Which.TheVariants.{Patterns}
use Rattle.pattern_leaves.specs.Settings.{Around}
use Rattle.shape_rules.specs.declared.callees.Candidate.{Candidate}
use Rattle.shape_rules.specs.declared.callees.Doing.{Doing}
use Rattle.shape_rules.specs.declared.callees.Doing.TheVariants as D
use Rattle.shape_rules.specs.declared.callees.Meant.{Meant}
use Rattle.shape_rules.specs.declared.callees.Meant.TheVariants as M
use Rattle.shape_rules.specs.Calls.{Elaborate}
use Rattle.shape_rules.specs.Expressions.{elaborate}
use Rattle.shape_rules.specs.Patterns.{look, no_widths}
use Rattle.shape_rules.specs.Scopes.{Locals, Setting, plainly}
use Rattle.shape_rules.specs.Written.{constraint_in, number_in, typ_in}
use Rattle.shape_meanings.specs.Naming.{AreKnown}
use Rattle.shape_meanings.specs.Trees.{pattern_written, written}
use Rattle.pattern_laws.specs.Standing.{each_stands}
use Rattle.soundness_forms.specs.Standing.{callee_stands, kind_stands}
use Rattle.soundness_sizes.specs.Kinds.{sizes_stand}
use Rattle.soundness_sizes.specs.Own.{con_own, number_own}
use Rattle.standing_cores.specs.Types.{types_read}

-- ---- nodes

-- those of patterns under a test of each
module _ (fits : Pattern → Bool) where
  abbrev pub arm_tested : Arm → Bool
  arm_tested (A.Nested ps) = each_stands (map fits ps)
  arm_tested (A.Flat count steps) = false

  abbrev pub lets_tested : List Statement → Bool
  lets_tested [] = true
  lets_tested (S.Evaluate ∷ ss) = lets_tested ss
  lets_tested (S.Define here_at arm ∷ ss) = arm_tested arm && lets_tested ss
  lets_tested (S.Declare name written ∷ ss) = lets_tested ss

  abbrev pub arms_tested : List Arm → Bool
  arms_tested [] = true
  arms_tested (arm ∷ arms) = arm_tested arm && arms_tested arms

  abbrev pub patterns_tested : Kind → Bool
  patterns_tested (K.Let arm) = arm_tested arm
  patterns_tested (K.Block statements) = lets_tested statements
  patterns_tested (K.Match arms shape) = arms_tested arms
  patterns_tested (K.Try arms shape) = arms_tested arms
  patterns_tested (K.Clauses arms) = arms_tested arms
  patterns_tested kind = true

module _ (around : Around) (numbers : List Index) (fits : Pattern → Bool) where
  abbrev pub kind_fits : Kind → ℕ → Bool
  kind_fits kind n = kind_stands around kind n && (patterns_tested fits kind && sizes_stand numbers kind)

  abbrev pub node_passes : Core-F Bool → Bool
  node_passes c = kind_fits c.kind (length c.parts) && list_all (λ b. b) c.parts

  abbrev pub passes : Core → Bool
  passes = fold-Core Bool node_passes

-- ---- what names mean where an expression stands: members and callees that the core has, patterns that stand, and numbers over the variables around

abbrev pub doing_fits : Around → Doing → ℕ → Bool
doing_fits around (D.Calls callee) n = callee_stands around callee n
doing_fits around D.Conses n = true

-- called with an argument for each parameter
abbrev pub candidate_fits : Around → Candidate → Bool
candidate_fits around f = doing_fits around f.doing (length f.params)

abbrev pub meant_fits : Around → Option Meant → Bool
meant_fits around (Some (M.Callee f)) = candidate_fits around f
meant_fits around (Some (M.Overload fs)) = list_all (candidate_fits around) fs
meant_fits around (Some (M.Member e k)) = nat_lt k (length (members around.types e))
meant_fits around meant = true

-- the mappings by which a part converts in patterns are among these: nothing is asked of what is plain, in which there are none
abbrev pub Converts : (ℕ → Bool) → Tables.Setting → List ℕ → Type 0
Converts converts names numbers = is_any names.allowed ≡ true → list_all converts numbers ≡ true

-- what is found of a pattern as the grammar has it, in whose names and shapes nothing is wrong, passes the test of patterns
abbrev pub PatternsFit : (Pattern → Bool) → Setting → Tables.Setting → Type 0
PatternsFit fits setting names =
    (p : Pat) (subject : Shape) → uses_failures names p ≡ [] → pattern_written p ≡ true → (look p setting no_widths subject).faults ≡ []
    → fits (look p setting no_widths subject).pattern ≡ true

-- what is found of one that converts by these mappings alone
abbrev pub PatternsFitBy : (ℕ → Bool) → (Pattern → Bool) → Setting → Tables.Setting → Type 0
PatternsFitBy converts fits setting names =
    (p : Pat) (subject : Shape) → uses_failures names p ≡ [] → pattern_written p ≡ true → Converts converts names (pattern_callees names.known p)
    → (look p setting no_widths subject).faults ≡ [] → fits (look p setting no_widths subject).pattern ≡ true

abbrev pub unit_pattern : Place → Pattern
unit_pattern place = roll-Pattern (record { place = place; form = F.Opens (H.Is L.Unit); parts = [] })

pub record Fits (around : Around) (numbers : List Index) (fits : Pattern → Bool) (setting : Setting) (names : Tables.Setting) : Type 0 where
  pub types : setting.types ≡ around.types
  pub known : AreKnown setting names
  pub values : (name : List ℕ) → meant_fits around (setting.value name) ≡ true
  pub added : (operator : Operator) → list_all (candidate_fits around) (setting.added operator) ≡ true
  pub sizes : (typ : TyExp) (n : Num) → type_failures Sort.Int typ names ≡ [] → number_in setting.within typ ≡ Some n → number_own numbers n ≡ true
  pub truths : (typ : TyExp) (c : Con) → type_failures Sort.Bool typ names ≡ [] → constraint_in setting.within typ ≡ Some c → con_own numbers c ≡ true
  -- by which patterns convert
  pub converts : ℕ → Bool
  pub patterns : PatternsFitBy converts fits setting names
  -- in a loop's measure too, which is plain
  pub measures : PatternsFitBy converts fits (plainly setting) (in_measure names)
  -- what is matched where a function has no parameter
  pub unit : (place : Place) → fits (unit_pattern place) ≡ true

-- what is found passes where no failure is found, under whatever local names, whatever is wanted
abbrev pub Tested : Around → List Index → (Pattern → Bool) → Setting → Elaborate → Type 0
Tested around numbers fits setting e =
    (locals : Locals) (want : Shape) → (e setting locals want).faults ≡ [] → passes around numbers fits (e setting locals want).core ≡ true

-- where no failure is found in the names and the shapes of an expression as the grammar has it, whose patterns convert by such mappings
abbrev pub FoundCoresPass : Type 0
FoundCoresPass = (around : Around) (numbers : List Index) (fits : Pattern → Bool) (e : Exp) → written e ≡ true
    → (names : Tables.Setting) (bound : Bound.Locals) → expression_failures e names bound ≡ []
    → (setting : Setting) (fit : Fits around numbers fits setting names) → Converts fit.converts names (expression_callees Patterns names.known e)
    → Tested around numbers fits setting (elaborate e)

-- the types that are written in an expression read, where types in whose names nothing is wrong do
abbrev pub FoundTypesRead : Type 0
FoundTypesRead = (within : Within)
    → ((names : Tables.Setting) (typ : TyExp) → names.types ≡ within → type_failures Sort.Type typ names ≡ [] → is_some (typ_in within typ) ≡ true)
    → (e : Exp) (names : Tables.Setting) (bound : Bound.Locals) → names.types ≡ within → expression_failures e names bound ≡ [] → types_read within e ≡ true
