-- `try`, as a kind of node.
use Rattle.std.proofs.Common.{ℕ, true, false, ◌&&◌, List, [], ◌∷◌, length, refl}
use Rattle.std.proofs.lemmas.Bool.{and_parts}
use Rattle.std.proofs.lemmas.Bool.Decides.{Decides-eqb}
use Rattle.std.specs.List.{list_all}
use Rattle.std.specs.Prelude.{nat_eq}
use Rattle.sail_types.specs.declared.shapes.Shape.{Shape}
use Rattle.sail_core.specs.Making.{World}
use Rattle.sail_core.specs.declared.patterns.Arm.{Arm}
use Rattle.sail_core.specs.declared.tree.Giver.TheVariants as By
use Rattle.sail_core.specs.declared.tree.Kind.TheVariants as K
use Rattle.value_indices.specs.declared.indices.Indices.{Indices}
use Rattle.value_indices.specs.Steps.{given_note, note}
use Rattle.call_arguments.specs.Aims.{branch_aim, wanted}
use Rattle.call_notes.specs.Noted.{node_ended, numbers_given, numbers_noted}
use Rattle.expression_forms.specs.Meeting.{thrown}
use Rattle.expression_steps.specs.Expressions.{node_end}
use Rattle.expression_steps.specs.Statements.{case_ways, caught_at, try_over, try_walk, try_way}
use Rattle.checked_meaning.specs.Items.{Item}
use Rattle.soundness_steps.specs.Works.{Kept, Scene}
use Rattle.soundness_steps.specs.Noted.{variables_given}
use Rattle.soundness_steps.specs.Steps.{Grows}
use Rattle.soundness_forms.specs.EachKind.{KindFine, node}
use Rattle.soundness_forms.specs.Forms.{at}
use Rattle.soundness_forms.specs.Joins.{AllArmsGrow, FreeJoining, MetGrows}
use Rattle.soundness_forms.specs.Patterns.{AllMatch}
use Rattle.soundness_forms.specs.Standing.{is_body, is_branch}
use Rattle.soundness_forms.proofs.Giving.{gives_all}
use Rattle.soundness_forms.proofs.Growth.{grows_bind, grows_end, grows_ended, grows_gives, grows_note}
use Rattle.soundness_forms.proofs.Guards.{branch_fine}
use Rattle.soundness_forms.proofs.JoinGrowth.{AgreementCounts, meeting_grows}
use Rattle.soundness_forms.proofs.Matching.{bodies_at, bodies_fine, cases_grow}
use Rattle.soundness_forms.proofs.PlainKinds.{fine_at, fine_by, wrong_inward}
use Rattle.soundness_joins.proofs.Caught.{try_fine}

caught_grows : (k : ℕ) (i : Indices) → Grows (caught_at k i)
caught_grows k i = grows_bind (node_ended k [] i) (numbers_noted k) (grows_ended k [] i) (λ j.
    grows_bind (note (λ facts. given_note facts (By.Node k) j)) (λ t. numbers_given j) (grows_note (λ facts. given_note facts (By.Node k) j)) (λ t.
    grows_gives (numbers_given j) (variables_given j) (gives_all j)))

module _ (grows : AllArmsGrow) (q : Scene) (w : World Item) where
  pub try_kind : FreeJoining → MetGrows → AgreementCounts → (arms : List Arm) (shape : Shape) → ((names : List Kept) → AllMatch (at q w names true) w arms)
      → KindFine q w (K.Try arms shape)
  try_kind free met agree arms shape patterns place k (s ∷ ss) (p ∷ ps) (r ∷ rs) h right =
      let first = and_parts (is_branch s) (nat_eq (length arms) (length ss) && list_all is_body ss) right in
      let last = and_parts (nat_eq (length arms) (length ss)) (list_all is_body ss) first.1 in
      let head = branch_fine q w s p r first.0 h.0 in
      let bodies = bodies_fine q w arms ss ps rs h.1 ((Decides-eqb (length arms) (length ss)).0 last.0) last.1 in
      fine_by q w false false (node q w place k (K.Try arms shape) (p ∷ ps)) _ (λ around scope. refl)
      (λ names falls g n f facts scope aim there st. try_fine free (at q w names falls) w (λ at_place arm i. grows _ at_place arm i) scope
      place k shape arms p r ps rs (fine_at q w names falls head) (patterns names)
      (bodies_at q w names falls arms ps rs bodies) aim there st)
      (λ around scope aim. grows_bind (try_walk place k shape arms p ps around scope aim) (node_end k false)
      (grows_bind (caught_at k (thrown around.exception)) (λ t. try_over place k shape arms p ps around scope aim (thrown around.exception))
      (caught_grows k (thrown around.exception)) (λ t.
      meeting_grows met agree around place k shape (wanted aim)
      (try_way p around scope aim ∷ case_ways place k arms ps around scope aim (thrown around.exception))
      (head.grows around scope (branch_aim aim), cases_grow grows q w around scope place k (thrown around.exception) aim arms ps rs bodies)))
      (grows_end k false))
  try_kind free met agree arms shape patterns place k [] [] [] h right =
      wrong_inward q w false false false place k (node q w place k (K.Try arms shape) []) _ (λ around scope. refl) (λ around scope aim. refl)
  try_kind free met agree arms shape patterns place k [] [] (r ∷ rs) h right = absurd h
  try_kind free met agree arms shape patterns place k [] (p ∷ ps) rs h right = absurd h
  try_kind free met agree arms shape patterns place k (s ∷ ss) [] rs h right = absurd h
  try_kind free met agree arms shape patterns place k (s ∷ ss) (p ∷ ps) [] h right = absurd h
