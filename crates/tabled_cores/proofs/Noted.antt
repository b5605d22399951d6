-- What is tested of steps is what is tested of the notes that they write.
use Rattle.std.proofs.Common.{◌≡◌, ◌∙◌, ap, sym, refl, ◌+◌, ◌<◌, ◌≤◌, Bool, true, false, ◌&&◌, ◌||◌, List, [], ◌∷◌, ◌++◌, drop, take, length, get_or, ℕ}
use Rattle.std.specs.Prelude.{not, nat_lt}
use Rattle.std.specs.List.{list_all}
use Rattle.sail_types.specs.declared.numbers.Index.{Index}
use Rattle.sail_core.specs.declared.tree.Callee.{Callee}
use Rattle.sail_core.specs.declared.tree.Callee.TheVariants as D
use Rattle.value_indices.specs.declared.indices.Indices.{Indices}
use Rattle.value_indices.specs.declared.indices.Reading.{Reading}
use Rattle.value_indices.specs.declared.notes.Fact.{Fact}
use Rattle.value_indices.specs.declared.notes.Fact.TheVariants as Y
use Rattle.value_indices.specs.declared.notes.Made.{Made}
use Rattle.value_indices.specs.declared.notes.Made.TheVariants as Makes
use Rattle.value_indices.specs.declared.notes.Step.{Step}
use Rattle.value_indices.specs.declared.notes.Step.TheVariants as S
use Rattle.value_indices.specs.Steps.{Note}
use Rattle.value_indices.specs.Walking.{Written, begun, step_read, steps_read}
use Rattle.size_values.specs.declared.constants.Picked.{Picked}
use Rattle.size_values.specs.Numbers.{known_of}
use Rattle.size_splits.specs.Reading.{notes_behind}
use Rattle.size_splits.proofs.Lists.{none_left, read_more, rest_at}
use Rattle.size_splits.proofs.Notes.{note_by, notes_next}
use Rattle.size_splits.proofs.Unsaid.{counted_told}
use Rattle.sized_nodes.specs.declared.trees.Instance.{Instance}
use Rattle.monomorph.specs.Reading.{Inside}
use Rattle.sized_trees.specs.declared.combinations.Choice.{Choice}
use Rattle.sized_trees.specs.Bodies.{made_choices}
use Rattle.sized_trees.specs.Combinations.{picked_by}
use Rattle.sized_trees.proofs.Telling.{choices_told, combinations_told, given_told, told_of}
use Rattle.tabled_cores.specs.Notes.{call_tested, choice_noted, facts_own, gives_own, has_case, has_lead, is_in_force, is_own, lead_passes}
use Rattle.tabled_cores.specs.Notes.{made_alone, made_noted, made_tested, node_passes, tells, type_given}
use Rattle.tabled_cores.specs.Bodies.{notes_tabled, step_tabled}

and_assoc : (a b c : Bool) → ((a && b) && c) ≡ (a && (b && c))
and_assoc true b c = refl
and_assoc false b c = refl

and_true : (b : Bool) → (b && true) ≡ b
and_true true = refl
and_true false = refl

module _ (given : Bool) (r : Inside) (list : List Instance) where
  -- the same numbers are given
  own_given : (facts : List Fact) → list_all (gives_own r) (told_of r list facts) ≡ list_all (gives_own r) facts
  own_given [] = refl
  own_given (Y.Holds c ∷ facts) = own_given facts
  own_given (Y.IsGiven v ∷ facts) = ap (λ (b : Bool). is_own r v && b) (own_given facts)

  own_told : (facts : List Fact) → facts_own r (told_of r list facts) ≡ facts_own r facts
  own_told facts = ap (λ (b : Bool). not (nat_lt r.variables (length r.numbers)) && b) (own_given facts)

  type_told : (facts : List Fact) (made : Made) → type_given r (told_of r list facts) made ≡ type_given r facts made
  type_told facts (Makes.ByIndices i) = refl
  type_told facts (Makes.ByType q) = ap (list_all (tells r q)) (counted_told (known_of r.numbers) r.split facts [])

  force_told : (facts : List Fact) (ps : List Picked) → list_all (is_in_force (told_of r list facts)) ps ≡ list_all (is_in_force facts) ps
  force_told facts [] = refl
  force_told facts (p ∷ ps) = λ j. given_told (known_of r.numbers) r.split facts p.variable j && force_told facts ps j

  choices_force : (facts : List Fact) (cs : List Choice) → list_all (choice_noted (told_of r list facts)) cs ≡ list_all (choice_noted facts) cs
  choices_force facts [] = refl
  choices_force facts (c ∷ cs) = λ j. force_told facts (picked_by c) j && choices_force facts cs j

  noted_told : (facts : List Fact) (made : Made) → made_noted r (told_of r list facts) made ≡ made_noted r facts made
  noted_told facts made =
      choices_force facts (made_choices r (told_of r list facts) made) ∙ ap (list_all (choice_noted facts)) (choices_told r list facts made)

  made_told : (facts : List Fact) (operands : List Indices) (made : Made)
      → made_tested given r (told_of r list facts) operands made ≡ made_tested given r facts operands made
  made_told facts operands made =
      let choices = choices_told r list facts made in
      let own = own_told facts in
      let noted = noted_told facts made in
      λ j. (list_all (has_case r operands made) (choices j) && ((own j && made_alone r made) && list_all (node_passes r operands made) (choices j)))
      && (given || noted j)

  call_told : (facts : List Fact) (operands : List Indices) (callee : Callee) (js : List Index) (qs : List Reading)
      → call_tested r list (told_of r list facts) operands callee js qs ≡ call_tested r list facts operands callee js qs
  call_told facts operands (D.Function g) js qs =
      let combinations = combinations_told r list facts in
      λ j. list_all (has_lead r list operands g js qs) (combinations j) && list_all (lead_passes r operands g js qs) (combinations j)
  call_told facts operands (D.Row row) js qs = refl
  call_told facts operands (D.Constructor u c) js qs = refl
  call_told facts operands (D.Converts d) js qs = refl
  call_told facts operands (D.Applies d) js qs = refl

  step_told : (facts : List Fact) (s : Step) → step_tabled given list r (told_of r list facts) s ≡ step_tabled given list r facts s
  step_told facts (S.Assumes fact) = refl
  step_told facts S.Remembers = refl
  step_told facts S.Restores = refl
  step_told facts S.Forgets = refl
  step_told facts (S.Claims c) = refl
  step_told facts S.Unclaims = refl
  step_told facts (S.Owes place c) = refl
  step_told facts (S.OwesEarlier place recent c) = refl
  step_told facts (S.Sizes place made) = type_told facts made
  step_told facts (S.Makes k operands made) = made_told facts operands made
  step_told facts (S.Calls place k operands callee js qs) = call_told facts operands callee js qs
  step_told facts (S.Converts d) = refl
  step_told facts (S.Gives g indices) = refl
  step_told facts (S.Names variable name) = refl

  -- a step, then the notes of the others
  step_then : (w : Written) (s : Step) (ns : List Note)
      → notes_tabled given list r (note_by w s ++ ns) ≡ (step_tabled given list r w.facts s && notes_tabled given list r ns)
  step_then w (S.Assumes fact) ns = refl
  step_then w S.Remembers ns = refl
  step_then w S.Restores ns = refl
  step_then w S.Forgets ns = refl
  step_then w (S.Claims c) ns = refl
  step_then w S.Unclaims ns = refl
  step_then w (S.Owes place c) ns = refl
  step_then w (S.OwesEarlier place recent c) ns = refl
  step_then w (S.Sizes place made) ns = refl
  step_then w (S.Makes k operands made) ns = refl
  step_then w (S.Calls place k operands callee js qs) ns = refl
  step_then w (S.Converts d) ns = refl
  step_then w (S.Gives g indices) ns = refl
  step_then w (S.Names variable name) ns = refl

  steps_then : (w : Written) (s : Step) (ss : List Step)
      → notes_tabled given list r (notes_behind w (s ∷ ss))
      ≡ (step_tabled given list r w.facts s && notes_tabled given list r (notes_behind (step_read w s) ss))
  steps_then w s ss = ap (notes_tabled given list r) (notes_next w s ss) ∙ step_then w s (notes_behind (step_read w s) ss)

  -- one step more
  module _ (steps : List Step) (k : ℕ) (s : Step) (facts : List Fact) (tested all : Bool) (within : k < length steps) (read : s ≡ get_or steps k s)
      (here : told_of r list (steps_read (begun 0) (take k steps)).facts ≡ facts)
      (whole : (tested && notes_tabled given list r (notes_behind (steps_read (begun 0) (take k steps)) (drop k steps))) ≡ all) where
    abbrev before : Written
    before = steps_read (begun 0) (take k steps)

    abbrev others : Bool
    others = notes_tabled given list r (notes_behind (step_read before s) (drop (k + 1) steps))

    here_too : step_tabled given list r facts s ≡ step_tabled given list r before.facts s
    here_too = ap (λ (fs : List Fact). step_tabled given list r fs s) (sym here) ∙ step_told before.facts s

    both : (tested && (step_tabled given list r before.facts s && others)) ≡ all
    both =
        ap (λ (b : Bool). tested && b)
        (sym (steps_then before s (drop (k + 1) steps))
        ∙ ap (λ (l : List Step). notes_tabled given list r (notes_behind before l)) (sym (rest_at steps k s within read)))
        ∙ whole

    pub tested_next : (new : Bool) → new ≡ (tested && step_tabled given list r facts s)
        → (new && notes_tabled given list r (notes_behind (steps_read (begun 0) (take (k + 1) steps)) (drop (k + 1) steps))) ≡ all
    tested_next new put =
        ap (λ (w : Written). new && notes_tabled given list r (notes_behind w (drop (k + 1) steps))) (read_more steps k s within read)
        ∙ (ap (λ (b : Bool). b && others) (put ∙ ap (λ (b : Bool). tested && b) here_too)
        ∙ (and_assoc tested (step_tabled given list r before.facts s) others ∙ both))

  pub tested_end : (steps : List Step) (k : ℕ) (w : Written) (tested all : Bool) → length steps ≤ k
      → (tested && notes_tabled given list r (notes_behind w (drop k steps))) ≡ all → tested ≡ all
  tested_end steps k w tested all past h =
      sym (and_true tested)
      ∙ (ap (λ (l : List Step). tested && notes_tabled given list r (notes_behind w l)) (sym (none_left steps k past)) ∙ h)
