-- `match`, as a kind of node.
use Rattle.std.proofs.Common.{◌≡◌, ℕ, nat_eq, Bool, true, false, ◌&&◌, List, [], ◌∷◌, ◌++◌, length, arith, refl, subst}
use Rattle.std.proofs.lemmas.Bool.{and_parts}
use Rattle.std.proofs.lemmas.Bool.Decides.{Decides-eqb}
use Rattle.std.specs.List.{list_all}
use Rattle.sail_base.specs.declared.place.Place.{Place}
use Rattle.sail_types.specs.declared.shapes.Shape.{Shape}
use Rattle.sail_core.specs.Making.{World}
use Rattle.sail_core.specs.Meaning.{kind_meaning}
use Rattle.sail_core.specs.Run.{Run}
use Rattle.sail_core.specs.declared.patterns.Arm.{Arm}
use Rattle.sail_core.specs.declared.tree.Giver.TheVariants as By
use Rattle.sail_core.specs.declared.tree.Kind.TheVariants as K
use Rattle.value_indices.specs.declared.indices.Indices.{Indices}
use Rattle.pattern_leaves.specs.Settings.{Around, Scope}
use Rattle.pattern_notes.specs.Patterns.{arm_match}
use Rattle.call_arguments.specs.Aims.{branch_aim, wanted}
use Rattle.call_arguments.specs.declared.aims.Aim.{Aim}
use Rattle.call_arguments.specs.declared.aims.Aim.TheVariants as Aims
use Rattle.call_notes.specs.Noted.{names_given}
use Rattle.expression_steps.specs.Expressions.{node_end}
use Rattle.expression_steps.specs.Parts.{Part}
use Rattle.expression_steps.specs.Statements.{case_names, case_ways, match_under, match_walk}
use Rattle.checked_meaning.specs.Items.{Item}
use Rattle.soundness_steps.specs.Works.{Kept, Scene}
use Rattle.soundness_forms.specs.EachKind.{KindFine, PartsFine, node}
use Rattle.soundness_forms.specs.Forms.{Fine, at, z}
use Rattle.soundness_forms.specs.Joins.{AllArmsGrow, AllGrow, FreeJoining, MetGrows}
use Rattle.soundness_forms.specs.Patterns.{AllMatch}
use Rattle.soundness_forms.specs.Standing.{Standing, is_body, is_bound}
use Rattle.soundness_forms.proofs.Cases.{Bodies, match_fine}
use Rattle.soundness_forms.proofs.Growth.{grows_bind, grows_end}
use Rattle.soundness_forms.proofs.JoinGrowth.{AgreementCounts, meeting_grows}
use Rattle.soundness_forms.proofs.NamesGiven.{names_grow}
use Rattle.soundness_forms.proofs.LeavingKinds.{bound_fine}
use Rattle.soundness_forms.proofs.PlainKinds.{fine_at, fine_by, wrong_inward}

-- each arm has a body, which ends in a cast
pub bodies_fine : (q : Scene) (w : World Item) (arms : List Arm) (ss : List Standing) (ps : List Part) (rs : List (Run Item Item)) → PartsFine q w ss ps rs
    → length arms ≡ length ss → list_all is_body ss ≡ true → Bodies q w arms ps rs
bodies_fine q w [] [] [] [] h e right = tt
bodies_fine q w (arm ∷ arms) (s ∷ ss) (p ∷ ps) (r ∷ rs) h e right =
    let both = and_parts (is_body s) (list_all is_body ss) right in
    let one = and_parts s.right s.cast both.0 in
    ((s.guard, subst (λ b. Fine q w b s.guard p r) one.1 (h.0 one.0)), bodies_fine q w arms ss ps rs h.1 (omega (arith, e)) both.1)
bodies_fine q w [] (s ∷ ss) ps rs h e right = absurd (omega (arith, e))
bodies_fine q w (arm ∷ arms) [] ps rs h e right = absurd (omega (arith, e))
bodies_fine q w [] [] [] (r ∷ rs) h e right = absurd h
bodies_fine q w [] [] (p ∷ ps) rs h e right = absurd h
bodies_fine q w (arm ∷ arms) (s ∷ ss) [] rs h e right = absurd h
bodies_fine q w (arm ∷ arms) (s ∷ ss) (p ∷ ps) [] h e right = absurd h

pub bodies_at : (q : Scene) (w : World Item) (names : List Kept) (falls : Bool) (arms : List Arm) (ps : List Part) (rs : List (Run Item Item))
    → Bodies q w arms ps rs
    → Bodies (at q w names falls) w arms ps rs
bodies_at q w names falls [] [] [] h = tt
bodies_at q w names falls (arm ∷ arms) (p ∷ ps) (r ∷ rs) h = ((h.0.0, fine_at q w names falls h.0.1), bodies_at q w names falls arms ps rs h.1)
bodies_at q w names falls [] [] (r ∷ rs) h = absurd h
bodies_at q w names falls [] (p ∷ ps) rs h = absurd h
bodies_at q w names falls (arm ∷ arms) [] rs h = absurd h
bodies_at q w names falls (arm ∷ arms) (p ∷ ps) [] h = absurd h

module _ (grows : AllArmsGrow) (q : Scene) (w : World Item) where
  pub cases_grow : (around : Around) (scope : Scope) (place : Place) (k : ℕ) (i : Indices) (aim : Aim) (arms : List Arm) (ps : List Part)
      (rs : List (Run Item Item)) → Bodies q w arms ps rs → AllGrow (case_ways place k arms ps around scope aim i)
  cases_grow around scope place k i aim [] [] [] h = tt
  cases_grow around scope place k i aim (arm ∷ arms) (p ∷ ps) (r ∷ rs) h = (
    grows_bind (case_names (By.Arm k (length arms)) place arm around i) (λ found. p.walk around (found ++ scope) (branch_aim aim))
        (grows_bind (arm_match place arm around (record { in_case = true; is_owed = false }) (i ∷ [])) (names_given (By.Arm k (length arms)) (i ∷ []))
        (grows around place arm i) (names_grow (By.Arm k (length arms)) (i ∷ []))) (λ found. h.0.1.grows around (found ++ scope) (branch_aim aim)),
    cases_grow around scope place k i aim arms ps rs h.1,
  )
  cases_grow around scope place k i aim [] [] (r ∷ rs) h = absurd h
  cases_grow around scope place k i aim [] (p ∷ ps) rs h = absurd h
  cases_grow around scope place k i aim (arm ∷ arms) [] rs h = absurd h
  cases_grow around scope place k i aim (arm ∷ arms) (p ∷ ps) [] h = absurd h

  pub match_kind : FreeJoining → MetGrows → AgreementCounts → (arms : List Arm) (shape : Shape) → ((names : List Kept) → AllMatch (at q w names true) w arms)
      → KindFine q w (K.Match arms shape)
  match_kind free met agree arms shape patterns place k (s ∷ ss) (p ∷ ps) (r ∷ rs) h right =
      let first = and_parts (is_bound s) (nat_eq (length arms) (length ss) && list_all is_body ss) right in
      let last = and_parts (nat_eq (length arms) (length ss)) (list_all is_body ss) first.1 in
      let head = bound_fine q w s p r first.0 h.0 in
      let bodies = bodies_fine q w arms ss ps rs h.1 ((Decides-eqb (length arms) (length ss)).0 last.0) last.1 in
      fine_by q w false false (node q w place k (K.Match arms shape) (p ∷ ps)) (kind_meaning (z q w) w place k (K.Match arms shape) (r ∷ rs))
      (λ around scope. refl)
      (λ names falls g n f facts scope aim there st. match_fine free (at q w names falls) w
      (λ at_place arm i. grows _ at_place arm i) scope place shape
      k aim arms p r ps rs s.cast (fine_at q w names falls head) (patterns names) (bodies_at q w names falls arms ps rs bodies) there st)
      (λ around scope aim. grows_bind (match_walk place k shape arms p ps around scope aim) (node_end k false)
      (grows_bind (p.walk around scope Aims.Free) (match_under place k shape arms ps around scope aim) (head.grows around scope Aims.Free) (λ i.
      meeting_grows met agree around place k shape (wanted aim) (case_ways place k arms ps around scope aim i)
      (cases_grow around scope place k i aim arms ps rs bodies))) (grows_end k false))
  match_kind free met agree arms shape patterns place k [] [] [] h right =
      wrong_inward q w false false false place k (node q w place k (K.Match arms shape) []) _ (λ around scope. refl) (λ around scope aim. refl)
  match_kind free met agree arms shape patterns place k [] [] (r ∷ rs) h right = absurd h
  match_kind free met agree arms shape patterns place k [] (p ∷ ps) rs h right = absurd h
  match_kind free met agree arms shape patterns place k (s ∷ ss) [] rs h right = absurd h
  match_kind free met agree arms shape patterns place k (s ∷ ss) (p ∷ ps) [] h right = absurd h
