-- The sizes of types that are written in a body, each behind the node at which it is read: the value at which the type is written (Sail
-- language manual, "Type annotations").
use Rattle.std.specs.Prelude.{ℕ, nat_eq, List, [], ◌∷◌, ◌++◌, map, Option, Some, None, if◌then◌else◌}
use Rattle.sail_types.specs.declared.numbers.Index.{Index}
use Rattle.linear.specs.Choices.{joined}
use Rattle.sail_core.specs.declared.patterns.Arm.{Arm}
use Rattle.sail_core.specs.declared.patterns.Form.{Form}
use Rattle.sail_core.specs.declared.patterns.Form.TheVariants as F
use Rattle.sail_core.specs.declared.patterns.Pattern.{Pattern, fold-Pattern}
use Rattle.sail_core.specs.declared.tree.Core.{Core, Core-F, fold-Core}
use Rattle.sail_core.specs.declared.tree.Kind.{Kind}
use Rattle.sail_core.specs.declared.tree.Kind.TheVariants as K
use Rattle.sail_core.specs.declared.tree.Statement.{Statement}
use Rattle.sail_core.specs.declared.tree.Statement.TheVariants as S
use Rattle.sail_core.specs.declared.written.Written.{Written}
use Rattle.value_indices.specs.declared.notes.Fact.{Fact}
use Rattle.value_indices.specs.declared.notes.Made.TheVariants as Makes
use Rattle.value_indices.specs.Steps.{Note, size_note, made_note}
use Rattle.constraint_gen.specs.Patterns.{nested}
use Rattle.size_notes.specs.declared.written.WrittenSize.{WrittenSize}
use Rattle.size_notes.specs.declared.behind.Behind.{Behind}
use Rattle.size_notes.specs.Written.{written_sizes}

-- ---- in patterns, the inner ones first; the variables around them stand for these

abbrev pub form_sizes : List Index → Form → List WrittenSize
form_sizes is (F.Typed w) = written_sizes is w
form_sizes is form = []

abbrev pub pattern_sizes : List Index → Pattern → List WrittenSize
pattern_sizes is = fold-Pattern (List WrittenSize) (λ p. joined p.parts ++ form_sizes is p.form)

abbrev pub arm_sizes : List Index → Arm → List WrittenSize
arm_sizes is arm = joined (map (pattern_sizes is) (nested arm))

abbrev pub arms_sizes : List Index → List Arm → List WrittenSize
arms_sizes is arms = joined (map (arm_sizes is) arms)

abbrev pub option_sizes : List Index → Option Written → List WrittenSize
option_sizes is None = []
option_sizes is (Some w) = written_sizes is w

-- ---- in a tree

abbrev pub behind : ℕ → WrittenSize → Behind
behind k size = record { number = k; written = size }

-- behind the node of this number
abbrev pub all_behind : ℕ → List WrittenSize → List Behind
all_behind k sizes = map (behind k) sizes

-- the number of a node, and the sizes in it
pub record Node : Type 0 where
  pub number : ℕ
  pub found : List Behind

-- of several nodes the first
abbrev pub behind_first : List WrittenSize → List Node → List Behind
behind_first sizes [] = []
behind_first sizes (a ∷ nodes) = all_behind a.number sizes

abbrev pub statement_sizes : List Index → Statement → List WrittenSize
statement_sizes is S.Evaluate = []
statement_sizes is (S.Define place arm) = arm_sizes is arm
statement_sizes is (S.Declare name written) = option_sizes is written

abbrev pub other_nodes : List Node → List Node
other_nodes [] = []
other_nodes (a ∷ nodes) = nodes

-- each behind its own value
abbrev pub statements_behind : List Index → List Statement → List Node → List Behind
statements_behind is [] nodes = []
statements_behind is (s ∷ ss) nodes = behind_first (statement_sizes is s) nodes ++ statements_behind is ss (other_nodes nodes)

-- `e : T` behind itself; what is bound, matched or caught behind its value
abbrev pub kind_behind : List Index → ℕ → Kind → List Node → List Behind
kind_behind is k (K.Cast written) nodes = all_behind k (option_sizes is written)
kind_behind is k (K.Let arm) nodes = behind_first (arm_sizes is arm) nodes
kind_behind is k (K.Var name written) nodes = behind_first (option_sizes is written) nodes
kind_behind is k (K.Block statements) nodes = statements_behind is statements nodes
kind_behind is k (K.Match arms shape) nodes = behind_first (arms_sizes is arms) nodes
kind_behind is k (K.Try arms shape) nodes = behind_first (arms_sizes is arms) nodes
kind_behind is k kind nodes = []

abbrev pub found_in : Node → List Behind
found_in a = a.found

abbrev pub node_form : List Index → Core-F Node → Node
node_form is c = record { number = c.number; found = joined (map found_in c.parts) ++ kind_behind is c.number c.kind c.parts }

abbrev pub node_of : List Index → Core → Node
node_of is = fold-Core Node (node_form is)

-- ---- as notes of a walk

abbrev pub size_behind : ℕ → Behind → List WrittenSize
size_behind k b = if nat_eq b.number k then b.written ∷ [] else []

abbrev pub sizes_behind : ℕ → List Behind → List WrittenSize
sizes_behind k bs = joined (map (size_behind k) bs)

abbrev pub sizes_noted : List Fact → List WrittenSize → List Note
sizes_noted facts [] = []
sizes_noted facts (s ∷ ss) = size_note facts s.place (Makes.ByIndices s.size) ∷ sizes_noted facts ss

-- the notes, with these sizes behind those of their nodes
abbrev pub notes_with : List Behind → List Note → List Note
notes_with bs [] = []
notes_with bs (made_note facts k operands made ∷ ns) =
    made_note facts k operands made ∷ sizes_noted facts (sizes_behind k bs) ++ notes_with bs ns
notes_with bs (n ∷ ns) = n ∷ notes_with bs ns
