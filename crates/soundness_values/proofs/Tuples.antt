-- Tuples beside their runs.
use Rattle.std.proofs.Common.{ℕ, false, List, if◌then◌else◌, sym, ap, subst}
use Rattle.sail_base.specs.declared.place.Place.{Place}
use Rattle.sail_types.specs.declared.values.Value.TheVariants as V
use Rattle.sail_core.specs.Making.{World}
use Rattle.sail_core.specs.Meaning.{kind_meaning}
use Rattle.sail_core.specs.Run.{Run, gives, in_turn, ◌then◌}
use Rattle.sail_core.specs.declared.tree.Kind.TheVariants as K
use Rattle.value_indices.specs.declared.indices.Indices.{Indices}
use Rattle.value_indices.specs.declared.indices.Indices.TheVariants as I
use Rattle.value_indices.specs.declared.notes.Fact.{Fact}
use Rattle.pattern_leaves.specs.Settings.{Scope}
use Rattle.call_arguments.specs.declared.aims.Aim.{Aim}
use Rattle.call_notes.specs.Noted.{node_ended}
use Rattle.expression_steps.specs.Expressions.{kind_walk}
use Rattle.expression_steps.specs.Parts.{Part}
use Rattle.expression_steps.specs.Values.{tuple_aims, tuple_of}
use Rattle.checked_meaning.specs.Checked.{checked}
use Rattle.checked_meaning.specs.Items.{Item, vals}
use Rattle.value_laws.specs.Known.{Point}
use Rattle.soundness_steps.specs.Works.{Scene, here}
use Rattle.soundness_steps.specs.Steps.{Beside}
use Rattle.soundness_steps.specs.Values.{AimSteady, AllHave, AllTyped, Comes, Is}
use Rattle.soundness_steps.proofs.Steps.{binds}
use Rattle.soundness_forms.specs.Forms.{AllFine, FitsSuffice}
use Rattle.soundness_forms.specs.Worlds.{Surrounds}
use Rattle.soundness_forms.proofs.Nodes.{node_ends}
use Rattle.soundness_forms.proofs.Parts.{all_have, are_typed, each_fine, none_never, tuple_has}
use Rattle.soundness_values.proofs.Made.{parts_node}
use Rattle.soundness_values.proofs.Seen.{tuple_steady}

-- of parts that have their indices
tuple_made : (q : Scene) {n : ℕ} {f : Point n} {facts : List Fact} (k : ℕ) (is : List Indices) (xs : List Item) → AllTyped q.set q.work f is xs
    → AllHave q.set q.work f is (vals xs)
    → Beside q n f facts (tuple_of k is) ((checked q.set.around.types q.cases).make k xs (V.Tuple (vals xs))) (λ m g i x. Is q.set q.work g i x)
tuple_made q {n} {f} {facts} k is xs typed have =
    subst (λ i. Beside q n f facts (node_ended k is i) ((checked q.set.around.types q.cases).make k xs (V.Tuple (vals xs))) (λ m g j x. Is q.set q.work g j x))
    (sym (ap (λ b. if b then I.Never else I.Tuple is) (none_never q.set q.work f is (vals xs) have)))
    (node_ends k is (I.Tuple is) xs (V.Tuple (vals xs)) typed (tuple_has q.set q.work f is (vals xs) have))

pub tuple_fine : FitsSuffice → (q : Scene) (w : World Item) {n : ℕ} (f : Point n) (facts : List Fact) (scope : Scope) (place : Place) (k : ℕ) (aim : Aim)
    → Surrounds q w f scope → AimSteady q.set q.work f aim → (ps : List Part) (rs : List (Run Item Item)) → AllFine q w ps rs
    → Beside q n f facts (kind_walk place k K.Tuple ps (here q) scope aim)
    (kind_meaning (checked q.set.around.types q.cases) w place k K.Tuple rs) (λ m g i x. Comes q.set q.work g false false false aim i x)
tuple_fine fit q w f facts scope place k aim there st ps rs fine =
    parts_node fit place k aim (in_turn rs) (λ xs. gives (V.Tuple (vals xs))) st
    (binds (tuple_of k) (λ xs. gives (V.Tuple (vals xs)) then λ v. (checked q.set.around.types q.cases).make k xs v)
    (each_fine q w scope ps rs fine (tuple_aims aim) there (tuple_steady q.set q.work f aim st))
    (λ m g fs is xs l e. tuple_made q k is xs (are_typed q.set q.work g ps (tuple_aims aim) is xs e) (all_have q.set q.work g ps (tuple_aims aim) is xs e)))
