-- Through which directions of mappings a walk goes: those alone that the patterns of what is walked name; and what it calls (Sail language manual,
-- "Mappings").
use Rattle.std.specs.Prelude.{◌≡◌, ◌&&◌, ℕ, Bool, true, List, [], slice_get, Some, is_some}
use Rattle.std.specs.List.{list_all}
use Rattle.sail_types.specs.declared.numbers.Index.{Index}
use Rattle.sail_core.specs.declared.model.Direction.{Direction}
use Rattle.sail_core.specs.declared.model.Function.{Function}
use Rattle.sail_core.specs.declared.model.Opening.{Opening}
use Rattle.sail_core.specs.declared.patterns.Arm.{Arm}
use Rattle.sail_core.specs.declared.patterns.Arm.TheVariants as A
use Rattle.sail_core.specs.declared.patterns.Form.{Form}
use Rattle.sail_core.specs.declared.patterns.Form.TheVariants as F
use Rattle.sail_core.specs.declared.patterns.Pattern.{Pattern, Pattern-F, fold-Pattern}
use Rattle.sail_core.specs.declared.tree.Callee.{Callee}
use Rattle.sail_core.specs.declared.tree.Callee.TheVariants as D
use Rattle.sail_core.specs.declared.tree.Core.{Core, Core-F, fold-Core}
use Rattle.sail_core.specs.declared.tree.Kind.{Kind}
use Rattle.sail_core.specs.declared.tree.Kind.TheVariants as K
use Rattle.sail_core.specs.declared.tree.Statement.{Statement}
use Rattle.sail_core.specs.declared.tree.Statement.TheVariants as S
use Rattle.value_indices.specs.declared.indices.Indices.{Indices}
use Rattle.value_indices.specs.Steps.{Note, call_note, way_note}
use Rattle.pattern_leaves.specs.Settings.{Around}
use Rattle.call_arguments.specs.Callees.{numbers_from}
use Rattle.constraint_gen.specs.Models.{apart}
use Rattle.size_notes.specs.Bodies.{function_read, mapping_read, measure_read, opening_read}
use Rattle.note_laws.specs.Notes.{EachNote}

-- ---- all mappings that patterns name are among these

abbrev pub form_reached : (ℕ → Bool) → Form → Bool
form_reached reached (F.Maps d) = reached d
form_reached reached (F.Sees d) = reached d
form_reached reached form = true

abbrev pub node_reached : (ℕ → Bool) → Pattern-F Bool → Bool
node_reached reached p = form_reached reached p.form && list_all (λ b. b) p.parts

abbrev pub pattern_reached : (ℕ → Bool) → Pattern → Bool
pattern_reached reached = fold-Pattern Bool (node_reached reached)

-- flat arms are of later trees
abbrev pub arm_reached : (ℕ → Bool) → Arm → Bool
arm_reached reached (A.Nested ps) = list_all (pattern_reached reached) ps
arm_reached reached (A.Flat count steps) = true

abbrev pub statement_reached : (ℕ → Bool) → Statement → Bool
statement_reached reached (S.Define place arm) = arm_reached reached arm
statement_reached reached statement = true

abbrev pub kind_reached : (ℕ → Bool) → Kind → Bool
kind_reached reached (K.Let arm) = arm_reached reached arm
kind_reached reached (K.Block statements) = list_all (statement_reached reached) statements
kind_reached reached (K.Match arms shape) = list_all (arm_reached reached) arms
kind_reached reached (K.Try arms shape) = list_all (arm_reached reached) arms
kind_reached reached (K.Clauses arms) = list_all (arm_reached reached) arms
kind_reached reached kind = true

abbrev pub tree_reached : (ℕ → Bool) → Core-F Bool → Bool
tree_reached reached c = kind_reached reached c.kind && list_all (λ b. b) c.parts

abbrev pub core_reached : (ℕ → Bool) → Core → Bool
core_reached reached = fold-Core Bool (tree_reached reached)

-- ---- notes that go through these alone

-- a model's functions, directions of its mappings, and which of these are reached
pub record Told : Type 0 where
  pub reached : ℕ → Bool
  pub functions : List Function
  pub directions : List Direction

abbrev pub has_direction : List Direction → ℕ → Bool
has_direction directions d = is_some (slice_get directions d)

-- what is called is one of the model, and a function's variables are given what arguments give them
abbrev pub CallsOne : Told → Callee → List Index → Type 0
CallsOne told (D.Function i) js =
    (f : Function) × (slice_get told.functions i ≡ Some f) × ((is : List Indices) × (js ≡ numbers_from 0 f.variables f.parameters is))
CallsOne told (D.Converts d) js = has_direction told.directions d ≡ true
CallsOne told (D.Applies d) js = has_direction told.directions d ≡ true
CallsOne told callee js = Unit {0}

-- those that are gone through are of the model, and are reached
abbrev pub Through : Told → Note → Type 0
Through told (way_note facts d) = (told.reached d ≡ true) × (has_direction told.directions d ≡ true)
Through told (call_note facts place k operands callee js qs) = CallsOne told callee js
Through told other = Unit {0}

-- those of what is around
abbrev pub told_of : (ℕ → Bool) → Around → Told
told_of reached around = record { reached = reached; functions = around.functions; directions = around.directions }

-- what is read of a mapping goes through those alone that patterns in both directions name
abbrev pub WaysAreNamed : Type 0
WaysAreNamed = (reached : ℕ → Bool) (around : Around) (m n : Direction) → core_reached reached m.body ≡ true → core_reached reached n.body ≡ true
    → EachNote (Through (told_of reached around)) (mapping_read around m n [] 0).notes

-- ---- whatever is read, all that it calls and all mappings that it goes through are of the model

abbrev pub any : ℕ → Bool
any d = true

abbrev pub AreOfModel : Around → List Note → Type 0
AreOfModel around ns = EachNote (Through (told_of any around)) ns

pub record HasWays (around : Around) : Type 0 where
  pub function : (f : Function) → AreOfModel around (function_read around f [] 0).notes
  pub measure : (f : Function) (measure : Core) → AreOfModel around (measure_read around f measure [] 0).notes
  pub mapping : (m n : Direction) → AreOfModel around (mapping_read around m n [] 0).notes
  -- top-level lets and initial values call nothing
  pub opening : (o : Opening) → AreOfModel (apart around) (opening_read around o [] 0).notes

abbrev pub WaysAreOfModel : Type 0
WaysAreOfModel = (around : Around) → HasWays around
