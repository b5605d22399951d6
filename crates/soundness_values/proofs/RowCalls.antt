-- A call of a builtin, beside its run.
use Rattle.std.proofs.Common.{◌≡◌, ℕ, false, List, [], ◌∷◌, length, take, refl, sym, ap, subst}
use Rattle.sail_base.specs.declared.place.Place.{Place}
use Rattle.sail_types.specs.declared.rows.Row.{Row}
use Rattle.sail_types.specs.declared.values.Value.{Value}
use Rattle.sail_core.specs.Making.{World}
use Rattle.sail_core.specs.Meaning.{kind_meaning}
use Rattle.sail_core.specs.Run.{Run, in_turn, row_run, ◌then◌}
use Rattle.sail_core.specs.declared.tree.Callee.TheVariants as D
use Rattle.sail_core.specs.declared.tree.Kind.TheVariants as K
use Rattle.value_indices.specs.declared.indices.Indices.{Indices}
use Rattle.value_indices.specs.declared.notes.Fact.{Fact}
use Rattle.value_indices.specs.Steps.{bind, call_note}
use Rattle.pattern_leaves.specs.Settings.{Scope}
use Rattle.call_arguments.specs.declared.aims.Aim.{Aim}
use Rattle.call_notes.specs.Calls.{row_called}
use Rattle.call_notes.specs.Noted.{node_ended}
use Rattle.call_notes.specs.Rows.{row_call}
use Rattle.expression_steps.specs.Expressions.{kind_walk}
use Rattle.expression_steps.specs.Parts.{Part, each_walk}
use Rattle.checked_meaning.specs.Checked.{checked}
use Rattle.checked_meaning.specs.Items.{Item, vals}
use Rattle.value_laws.specs.Known.{Point}
use Rattle.soundness_steps.specs.Points.{Later}
use Rattle.soundness_steps.specs.Works.{Scene, here}
use Rattle.soundness_steps.specs.Steps.{Beside}
use Rattle.soundness_steps.specs.Values.{AimSteady, AllHave, AllTyped, Comes, Is}
use Rattle.soundness_steps.proofs.Steps.{binds, notes, walks_then}
use Rattle.soundness_forms.specs.Forms.{AllFine, FitsSuffice}
use Rattle.soundness_forms.specs.Worlds.{Surrounds}
use Rattle.soundness_forms.proofs.Nodes.{node_ends, typed_on}
use Rattle.soundness_forms.proofs.Parts.{EachIs, all_have, are_typed, each_fine}
use Rattle.soundness_forms.proofs.Basics.{has_on}
use Rattle.soundness_values.specs.Widening.{WideningSuffices}
use Rattle.soundness_values.proofs.Made.{parts_node}
use Rattle.soundness_values.proofs.Rows.{row_beside}

-- all parts are walked
pub taken_all : {A : Type 0} (xs : List A) → take (length xs) xs ≡ xs
taken_all [] = refl
taken_all (x ∷ xs) = ap (λ ys. x ∷ ys) (taken_all xs)

have_on : (q : Scene) {n m : ℕ} {f : Point n} {g : Point m} (is : List Indices) (vs : List Value) → Later f g → AllHave q.set q.work f is vs
    → AllHave q.set q.work g is vs
have_on q [] [] l h = tt
have_on q (i ∷ is) (v ∷ vs) l h = (has_on l h.0, have_on q is vs l h.1)
have_on q [] (v ∷ vs) l h = absurd h
have_on q (i ∷ is) [] l h = absurd h

-- on arguments that have their indices
pub row_fine : WideningSuffices → (q : Scene) {n : ℕ} {f : Point n} {facts : List Fact} (place : Place) (k : ℕ) (row : Row) (hart : ℕ) (is : List Indices)
    (xs : List Item) → AllTyped q.set q.work f is xs → AllHave q.set q.work f is (vals xs)
    → Beside q n f facts (row_called q.set.around.types place k row is)
    (row_run row hart (vals xs) then λ v. (checked q.set.around.types q.cases).make k xs v) (λ m g i x. Is q.set q.work g i x)
row_fine wide q place k row hart is xs typed have =
    walks_then (λ t. bind (row_call q.set.around.types place row is) (node_ended k is))
    (notes (λ facts. call_note facts place k is (D.Row row) [] [])) (λ m g fs t l e.
    binds (node_ended k is) (λ v. (checked q.set.around.types q.cases).make k xs v)
    (row_beside wide q place row hart is (vals xs) (have_on q is (vals xs) l have)) (λ m2 g2 fs2 i v l2 h.
    node_ends k is i xs v (typed_on q.set q.work is xs l2 (typed_on q.set q.work is xs l typed)) h))

-- the whole node
pub row_call_fine : WideningSuffices → FitsSuffice → (q : Scene) (w : World Item) {n : ℕ} (f : Point n) (facts : List Fact) (scope : Scope) (place : Place)
    (k : ℕ) (aim : Aim) → Surrounds q w f scope → AimSteady q.set q.work f aim → (row : Row) (ps : List Part) (rs : List (Run Item Item)) → AllFine q w ps rs
    → Beside q n f facts (kind_walk place k (K.Call (D.Row row)) ps (here q) scope aim)
    (kind_meaning (checked q.set.around.types q.cases) w place k (K.Call (D.Row row)) rs) (λ m g i x. Comes q.set q.work g false false false aim i x)
row_call_fine wide fit q w f facts scope place k aim there st row ps rs fine =
    parts_node fit place k aim (in_turn rs) (λ xs. row_run row w.hart (vals xs)) st
    (binds (λ is. row_called q.set.around.types place k row is)
    (λ xs. row_run row w.hart (vals xs) then λ v. (checked q.set.around.types q.cases).make k xs v)
    (subst (λ ys. Beside q _ f facts (each_walk ys (here q) scope []) (in_turn rs) (λ m g is xs. EachIs q.set q.work g ps [] is xs)) (sym (taken_all ps))
    (each_fine q w scope ps rs fine [] there tt))
    (λ m g fs is xs l e. row_fine wide q place k row w.hart is xs (are_typed q.set q.work g ps [] is xs e) (all_have q.set q.work g ps [] is xs e)))
