-- Top-level names, `return` and `exit`, as kinds of nodes.
use Rattle.std.proofs.Common.{◌≡◌, ℕ, Bool, true, false, not, List, [], ◌∷◌, slice_get, Option, Some, None, refl, subst}
use Rattle.std.proofs.lemmas.Bool.{and_parts}
use Rattle.sail_base.specs.declared.place.Place.{Place}
use Rattle.sail_types.specs.declared.shapes.Shape.{Shape}
use Rattle.sail_types.specs.declared.table.Types.{Types}
use Rattle.sail_core.specs.Making.{World}
use Rattle.sail_core.specs.Run.{Run}
use Rattle.sail_core.specs.declared.tree.Kind.TheVariants as K
use Rattle.value_indices.specs.declared.indices.Indices.{Indices}
use Rattle.value_indices.specs.declared.indices.Indices.TheOpen as W
use Rattle.value_indices.specs.declared.indices.Indices.TheOpen.{Reading-F}
use Rattle.value_indices.specs.declared.indices.Naming.TheVariants as M
use Rattle.value_indices.specs.declared.indices.Reading.{Reading, out-Reading}
use Rattle.value_indices.specs.declared.notes.Made.TheVariants as Makes
use Rattle.value_indices.specs.Opening.{opened_for, opening}
use Rattle.value_indices.specs.Steps.{Walk, bind}
use Rattle.wide_types.specs.Widening.{filled}
use Rattle.pattern_leaves.specs.Settings.{Around, Scope}
use Rattle.pattern_leaves.specs.declared.names.TopLevel.{TopLevel}
use Rattle.pattern_leaves.specs.declared.names.TopLevel.TheVariants as T
use Rattle.call_arguments.specs.Aims.{aimed}
use Rattle.call_arguments.specs.declared.aims.Aim.{Aim}
use Rattle.call_arguments.specs.declared.aims.Aim.TheVariants as Aims
use Rattle.call_notes.specs.Calls.{part_owed}
use Rattle.call_notes.specs.Ends.{never_value, settled}
use Rattle.call_notes.specs.Noted.{node_made}
use Rattle.expression_forms.specs.Names.{made_read, read_form, top_level_walk, type_read}
use Rattle.expression_steps.specs.Expressions.{left_walk, node_end, return_owed, return_walk}
use Rattle.expression_steps.specs.Parts.{Part}
use Rattle.checked_meaning.specs.Items.{Item}
use Rattle.soundness_steps.specs.Works.{Scene}
use Rattle.soundness_steps.specs.Steps.{Grows}
use Rattle.soundness_forms.specs.Forms.{Fine, FitsSuffice, at}
use Rattle.soundness_forms.specs.EachKind.{KindFine, node}
use Rattle.soundness_forms.specs.Standing.{Standing, is_bound}
use Rattle.soundness_forms.proofs.Growth.{grows_bind, grows_end, grows_ended, grows_give, grows_made, grows_opening, grows_settled, grows_wrong}
use Rattle.soundness_forms.proofs.PlainKinds.{fine_at, fine_by, part_grows, settled_grows, wrong_fine}
use Rattle.soundness_forms.proofs.Leaving.{exit_fine, return_fine}
use Rattle.soundness_forms.proofs.TopLevels.{top_level_fine}

-- a part that is bound or leaves: no guard
bound_parts : (s : Standing) → is_bound s ≡ true → (s.right ≡ true) × (s.guard ≡ false)
bound_parts s h = let both = and_parts s.right (not s.guard) h in (both.0, off s.guard both.1)
  where
    off : (b : Bool) → not b ≡ true → b ≡ false
    off true h = absurd (cc)
    off false h = refl

pub bound_fine : (q : Scene) (w : World Item) (s : Standing) (p : Part) (r : Run Item Item) → is_bound s ≡ true
    → (s.right ≡ true → Fine q w s.cast s.guard p r) → Fine q w s.cast false p r
bound_fine q w s p r h k = let t = bound_parts s h in subst (λ b. Fine q w s.cast b p r) t.1 (k t.0)

-- ---- `return` and `exit`

return_grows : (around : Around) (scope : Scope) (place : Place) (p : Part) → ((aim : Aim) → Grows (p.walk around scope aim)) → (r : Option Reading)
    → Grows (return_walk place p around scope r)
return_grows around scope place p h None = grows_wrong place
return_grows around scope place p h (Some r) = grows_bind (p.walk around scope (aimed Aims.Given r)) (return_owed around place p.is_nested r) (h
    (aimed Aims.Given r)) (λ i.
    grows_bind (part_owed around p.is_nested place i r) (λ t. never_value) (part_grows around p.is_nested place i r) (λ t. grows_give _))

pub leaving_grows : (around : Around) (place : Place) (k : ℕ) (aim : Aim) (walk : Walk Indices) → Grows walk
    → Grows (bind (bind walk (settled around place aim)) (node_end k false))
leaving_grows around place k aim walk h = grows_bind (bind walk (settled around place aim)) (node_end k false)
    (grows_bind walk (settled around place aim) h (grows_settled around place aim)) (grows_end k false)

module _ (fit : FitsSuffice) (q : Scene) (w : World Item) where
  pub return_kind : KindFine q w K.Return
  return_kind place k (s ∷ []) (p ∷ []) (r ∷ []) h right =
      let f = bound_fine q w s p r (and_parts (is_bound s) true right).0 h.0 in
      fine_by q w false false (node q w place k K.Return (p ∷ [])) _ (λ around scope. refl)
      (λ names falls g n f0 facts scope aim there st. return_fine fit (at q w names falls) w scope place k aim p r s.cast (fine_at q w names falls f) there)
      (λ around scope aim. leaving_grows around place k aim (return_walk place p around scope around.answer)
      (return_grows around scope place p (f.grows around scope) around.answer))
  return_kind place k [] [] [] h right =
      wrong_fine q w false false false place k (node q w place k K.Return []) _ (λ around scope. refl) (λ around scope aim. refl)
  return_kind place k (s ∷ s2 ∷ ss) (p ∷ p2 ∷ ps) (r ∷ r2 ∷ rs) h right =
      wrong_fine q w false false false place k (node q w place k K.Return (p ∷ p2 ∷ ps)) _ (λ around scope. refl) (λ around scope aim. refl)
  return_kind place k [] [] (r ∷ rs) h right = absurd h
  return_kind place k [] (p ∷ ps) rs h right = absurd h
  return_kind place k (s ∷ ss) [] rs h right = absurd h
  return_kind place k (s ∷ ss) (p ∷ ps) [] h right = absurd h
  return_kind place k (s ∷ []) (p ∷ []) (r ∷ r2 ∷ rs) h right = absurd h.1
  return_kind place k (s ∷ []) (p ∷ p2 ∷ ps) (r ∷ rs) h right = absurd h.1
  return_kind place k (s ∷ s2 ∷ ss) (p ∷ []) (r ∷ rs) h right = absurd h.1
  return_kind place k (s ∷ s2 ∷ ss) (p ∷ p2 ∷ ps) (r ∷ []) h right = absurd h.1

  pub exit_kind : KindFine q w K.Exit
  exit_kind place k (s ∷ []) (p ∷ []) (r ∷ []) h right =
      let f = bound_fine q w s p r (and_parts (is_bound s) true right).0 h.0 in
      fine_by q w false false (node q w place k K.Exit (p ∷ [])) _ (λ around scope. refl)
      (λ names falls g n f0 facts scope aim there st. exit_fine fit (at q w names falls) w scope place k aim p r s.cast (fine_at q w names falls f) there)
      (λ around scope aim. leaving_grows around place k aim (left_walk p around scope Aims.Free)
      (grows_bind (p.walk around scope Aims.Free) (λ i. never_value) (f.grows around scope Aims.Free) (λ i. grows_give _)))
  exit_kind place k [] [] [] h right =
      wrong_fine q w false false false place k (node q w place k K.Exit []) _ (λ around scope. refl) (λ around scope aim. refl)
  exit_kind place k (s ∷ s2 ∷ ss) (p ∷ p2 ∷ ps) (r ∷ r2 ∷ rs) h right =
      wrong_fine q w false false false place k (node q w place k K.Exit (p ∷ p2 ∷ ps)) _ (λ around scope. refl) (λ around scope aim. refl)
  exit_kind place k [] [] (r ∷ rs) h right = absurd h
  exit_kind place k [] (p ∷ ps) rs h right = absurd h
  exit_kind place k (s ∷ ss) [] rs h right = absurd h
  exit_kind place k (s ∷ ss) (p ∷ ps) [] h right = absurd h
  exit_kind place k (s ∷ []) (p ∷ []) (r ∷ r2 ∷ rs) h right = absurd h.1
  exit_kind place k (s ∷ []) (p ∷ p2 ∷ ps) (r ∷ rs) h right = absurd h.1
  exit_kind place k (s ∷ s2 ∷ ss) (p ∷ []) (r ∷ rs) h right = absurd h.1
  exit_kind place k (s ∷ s2 ∷ ss) (p ∷ p2 ∷ ps) (r ∷ []) h right = absurd h.1

-- ---- names of top-level lets; their types are widened where they are found

made_read_grows : (k : ℕ) (name : List ℕ) (r : Reading) → Grows (made_read k name r)
unfolding opened_for
made_read_grows k name r = grows_bind (node_made k [] (Makes.ByType r)) (λ t. opening r false (M.Named name)) (grows_made k [] (Makes.ByType r)) (λ t.
    grows_opening r false (M.Named name))

-- what is filled only counts variables on
abbrev pub FillingGrows : Type 0
FillingGrows = (types : Types) (shape : Shape) (i : Indices) → Grows (filled types 0 shape i)

module _ (filling : FillingGrows) where
  read_grows : (types : Types) (r : Reading) (x : Reading-F Indices Reading) → Grows (read_form types r x)
  read_grows types r (W.Widened i) = filling types _ i
  read_grows types r (W.Of t is rs) = grows_give r
  read_grows types r (W.Parts rs) = grows_give r
  read_grows types r W.Hole = grows_give r

  top_grows : (types : Types) (place : Place) (k : ℕ) (o : Option TopLevel) → Grows (top_level_walk types place k o)
  top_grows types place k None = grows_wrong place
  top_grows types place k (Some (T.Known i)) = grows_ended k [] i
  top_grows types place k (Some (T.Read name r)) = grows_bind (type_read types r) (made_read k name) (read_grows types r (out-Reading r))
      (made_read_grows k name)

  pub top_level_kind : FitsSuffice → (q : Scene) (w : World Item) (i : ℕ) → KindFine q w (K.TopLevel i)
  top_level_kind fit q w i place k [] [] [] h right = fine_by q w false false (node q w place k (K.TopLevel i) []) _ (λ around scope. refl)
      (λ names falls g n f facts scope aim there st. top_level_fine fit (at q w names falls) w f facts scope place k aim there st i)
      (λ around scope aim. settled_grows around place k aim (top_level_walk around.types place k (slice_get around.lets i))
      (top_grows around.types place k (slice_get around.lets i)))
  top_level_kind fit q w i place k (s ∷ ss) (p ∷ ps) (r ∷ rs) h right =
      wrong_fine q w false false true place k (node q w place k (K.TopLevel i) (p ∷ ps)) _ (λ around scope. refl) (λ around scope aim. refl)
  top_level_kind fit q w i place k [] [] (r ∷ rs) h right = absurd h
  top_level_kind fit q w i place k [] (p ∷ ps) rs h right = absurd h
  top_level_kind fit q w i place k (s ∷ ss) [] rs h right = absurd h
  top_level_kind fit q w i place k (s ∷ ss) (p ∷ ps) [] h right = absurd h
