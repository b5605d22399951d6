-- Walks of their own behind others, and walks over two lists at once.
use Rattle.std.proofs.Common.{Bool, subst, ◌≡◌, ◌∙◌, ap, sym, refl, ℕ, suc, ◌+◌, ◌-◌, ◌<◌, List, [], ◌∷◌, drop, length, get_or, min, arith, length-drop}
use Rattle.sail_base.specs.declared.place.Place.{Place}
use Rattle.sail_types.specs.declared.numbers.Con.{Con}
use Rattle.sail_types.specs.declared.table.Parameter.{Parameter}
use Rattle.sail_types.specs.declared.types.Typ.{Typ}
use Rattle.sail_core.specs.declared.model.Direction.{Direction}
use Rattle.sail_core.specs.declared.patterns.Arm.{Arm}
use Rattle.sail_core.specs.declared.tree.Core.{Core}
use Rattle.sail_core.specs.declared.tree.Giver.TheVariants as Gives
use Rattle.value_indices.specs.declared.notes.Fact.{Fact}
use Rattle.value_indices.specs.declared.notes.Step.{Step}
use Rattle.value_indices.specs.declared.walking.Walking.{Walking}
use Rattle.value_indices.specs.declared.indices.Indices.{Indices}
use Rattle.value_indices.specs.declared.notes.Made.TheVariants as Makes
use Rattle.value_indices.specs.Steps.{Walk, bind, give, fresh_named, note, size_note}
use Rattle.value_indices.specs.Walking.{Written, begun, run, seen, remembering, restored, counted_from, steps_read}
use Rattle.value_indices.proofs.Walks.{run_bind, run_give}
use Rattle.pattern_leaves.specs.Settings.{Around}
use Rattle.call_arguments.specs.declared.aims.Aim.{Aim}
use Rattle.constraint_gen.proofs.Lists.{rest_at}
use Rattle.constraint_gen.specs.Functions.{own_indices}
use Rattle.constraint_gen.specs.Obligations.{names_of}
use Rattle.size_notes.specs.declared.behind.Behind.{Behind}
use Rattle.size_notes.specs.declared.written.WrittenSize.{WrittenSize}
use Rattle.size_notes.specs.Behind.{found_in, node_of}
use Rattle.size_notes.specs.Bodies.{alone, arms_read, beforehand, body_of, both_read, clause_inside, clause_read, sized_body, sizes_read, way_read}
use Rattle.size_notes.specs.Reading.{IsAtRest, with_alone, body_seen}

-- ---- what stays of a walk

pub run_beforehand : (walk : Walk (Unit {0})) (w : Written)
    → run (beforehand walk) w ≡ counted_from w.next (restored (run walk (remembering w)))
unfolding run remembering restored counted_from beforehand
run_beforehand walk w = refl

pub run_alone : {A : Type 0} (bs : List Behind) (walk : Walk A) (w : Written)
    → run (alone bs walk) w ≡ with_alone bs (restored (run walk (remembering (begun w.next)))) w
unfolding run remembering restored alone
run_alone bs walk w = refl

-- ---- sizes, one after the other

pub size_next : (s : WrittenSize) (place : Place) (size : Indices) (rest all : List WrittenSize) (w v end : Written) → all ≡ s ∷ rest → place ≡ s.place
    → size ≡ s.size → v ≡ run (note (λ facts. size_note facts place (Makes.ByIndices size))) w → run (sizes_read all) w ≡ end
    → run (sizes_read rest) v ≡ end
size_next s place size rest all w v end whole at has walked h =
    ap (run (sizes_read rest)) (walked ∙ (λ j. run (note (λ facts. size_note facts (at j) (Makes.ByIndices (has j)))) w))
    ∙ (sym (run_bind (note (λ facts. size_note facts s.place (Makes.ByIndices s.size))) (λ x. sizes_read rest) w)
    ∙ (ap (λ l. run (sizes_read l) w) (sym whole) ∙ h))

pub size_end : (all : List WrittenSize) (w end : Written) → all ≡ [] → run (sizes_read all) w ≡ end → w ≡ end
size_end all w end none h = sym (run_give tt w) ∙ (ap (λ l. run (sizes_read l) w) (sym none) ∙ h)

-- ---- nothing in force

pub begun_rest : (n : ℕ) → IsAtRest (begun n)
begun_rest n = record { facts = refl; remembered = refl }

pub ended_rest : {A : Type 0} (walk : Walk A) (n : ℕ) → IsAtRest (restored (run walk (remembering (begun n))))
unfolding run remembering restored
ended_rest walk n = record { facts = refl; remembered = refl }

pub alone_rest : {A : Type 0} (bs : List Behind) (walk : Walk A) (w : Written) → IsAtRest w → IsAtRest (run (alone bs walk) w)
unfolding run alone
alone_rest bs walk w rest = record { facts = rest.facts; remembered = rest.remembered }

-- behind clauses
pub arms_rest : (con : Con) (place : Place) (k : ℕ) (around : Around) (ts : List Typ) (aim : Aim) (declared : Bool) (arms : List Arm)
    (cs : List Core) (w : Written) → IsAtRest w → IsAtRest (run (arms_read con place k around ts aim declared arms cs) w)
arms_rest con place k around ts aim declared [] cs w rest = subst (λ (v : Written). IsAtRest v) (sym (run_give tt w)) rest
arms_rest con place k around ts aim declared (arm ∷ arms) [] w rest = subst (λ (v : Written). IsAtRest v) (sym (run_give tt w)) rest
arms_rest con place k around ts aim declared (arm ∷ arms) (c ∷ cs) w rest =
    let first = clause_read con place (Gives.Arm k (length arms)) around ts aim declared arm c in
    let own = alone_rest (found_in (node_of around.numbers (sized_body declared c)))
    (clause_inside con place (Gives.Arm k (length arms)) around ts aim declared arm c) w rest in
    subst (λ (v : Written). IsAtRest v) (sym (run_bind first (λ t. arms_read con place k around ts aim declared arms cs) w))
    (arms_rest con place k around ts aim declared arms cs (run first w) own)

own_facts : (ps : List Parameter) (facts : List Fact) (n : ℕ) → (own_indices ps facts n).facts ≡ facts
unfolding bind give fresh_named
own_facts [] facts n = refl
own_facts (p ∷ ps) facts n = own_facts ps facts (suc n)

pub own_rest : (ps : List Parameter) (w : Written) → IsAtRest w → IsAtRest (run (own_indices ps) w)
unfolding run
own_rest ps w rest = record { facts = own_facts ps w.facts w.next ∙ rest.facts; remembered = rest.remembered }

-- ---- a body that is written down

pub body_ended : (v : Walking) (steps : List Step) (variables : ℕ) (names : List (List ℕ)) → steps ≡ v.steps → variables ≡ (seen v).next
    → names ≡ names_of variables (steps_read (begun 0) steps).notes
    → record { notes = (steps_read (begun 0) steps).notes; variables = variables; names = names } ≡ body_seen (seen v)
unfolding seen
body_ended v steps variables names same count named =
    (λ i. record { notes = (steps_read (begun 0) (same i)).notes; variables = count i; names = named i })
    ∙ (λ i. record {
      notes = (steps_read (begun 0) v.steps).notes;
      variables = v.next;
      names = names_of (count i) (steps_read (begun 0) (same i)).notes;
    })

pub whole_body : (walk : Walk (Unit {0})) → body_seen (run walk (begun 0)) ≡ body_of walk
unfolding run
whole_body walk = refl

-- ---- over two lists at once

module _ {A B C : Type 0} (f : ℕ → A → B → Walk C) (both : List A → List B → Walk (Unit {0}))
    (more : (a : A) (xs : List A) (b : B) (ys : List B) → both (a ∷ xs) (b ∷ ys) ≡ bind (f (length xs) a b) (λ x. both xs ys))
    (no_first : (ys : List B) → both [] ys ≡ give tt) (no_second : (a : A) (xs : List A) → both (a ∷ xs) [] ≡ give tt) where
  pub pair_next : (xs : List A) (ys : List B) (k : ℕ) (a : A) (b : B) (w v all : Written) → k < length xs → k < length ys → a ≡ get_or xs k a
      → b ≡ get_or ys k b → (n : ℕ) → n ≡ length (drop (k + 1) xs) → v ≡ run (f n a b) w → run (both (drop k xs) (drop k ys)) w ≡ all
      → run (both (drop (k + 1) xs) (drop (k + 1) ys)) v ≡ all
  pair_next xs ys k a b w v all p q at_a at_b n behind walked whole =
      let rest = both (drop (k + 1) xs) (drop (k + 1) ys) in
      ap (run rest) (walked ∙ ap (λ (m : ℕ). run (f m a b) w) behind)
      ∙ (sym (run_bind (f (length (drop (k + 1) xs)) a b) (λ x. rest) w)
      ∙ (ap (λ (c : Walk (Unit {0})). run c w) (sym (more a (drop (k + 1) xs) b (drop (k + 1) ys)))
      ∙ ((λ j. run (both (sym (rest_at xs k a p at_a) j) (sym (rest_at ys k b q at_b) j)) w) ∙ whole)))

  none_of_both : (xs : List A) (ys : List B) → min (length xs) (length ys) ≡ 0 → both xs ys ≡ give tt
  none_of_both [] ys e = no_first ys
  none_of_both (a ∷ xs) [] e = no_second a xs
  none_of_both (a ∷ xs) (b ∷ ys) e = absurd (omega arith)

  pub pair_end : (xs : List A) (ys : List B) (k : ℕ) (w all : Written) → k ≡ min (length xs) (length ys)
      → run (both (drop k xs) (drop k ys)) w ≡ all → w ≡ all
  pair_end xs ys k w all e whole =
      let none : min (length (drop k xs)) (length (drop k ys)) ≡ 0 = (let a = length-drop k xs in let b = length-drop k ys in omega arith) in
      sym (run_give tt w)
      ∙ (ap (λ (c : Walk (Unit {0})). run c w) (sym (none_of_both (drop k xs) (drop k ys) none)) ∙ whole)

-- ---- over both sides of a mapping

module _ (place : Place) (around : Around) (m n : Direction) where
  pub both_next : (arms : List Arm) (cores : List Core) (backs : List Arm) (givens : List Core) (k : ℕ) (arm : Arm) (core : Core) (back : Arm)
      (given : Core) → k < length arms → k < length cores → k < length backs → k < length givens → arm ≡ get_or arms k arm
      → core ≡ get_or cores k core → back ≡ get_or backs k back → given ≡ get_or givens k given → (w v u : Written)
      → (a b : ℕ) → a ≡ length (drop (k + 1) arms) → b ≡ length (drop (k + 1) backs)
      → v ≡ run (way_read place around m a arm core) w → u ≡ run (way_read place around n b back given) v → (all : Written)
      → run (both_read place around m n (drop k arms) (drop k cores) (drop k backs) (drop k givens)) w ≡ all
      → run (both_read place around m n (drop (k + 1) arms) (drop (k + 1) cores) (drop (k + 1) backs) (drop (k + 1) givens)) u ≡ all
  both_next arms cores backs givens k arm core back given p q r s at_arm at_core at_back at_given w v u a b behind before first second all whole =
      let rest = both_read place around m n (drop (k + 1) arms) (drop (k + 1) cores) (drop (k + 1) backs) (drop (k + 1) givens) in
      let there = way_read place around m (length (drop (k + 1) arms)) arm core in
      let back_there = way_read place around n (length (drop (k + 1) backs)) back given in
      ap (run rest) (second ∙ ap (λ (c : ℕ). run (way_read place around n c back given) v) before)
      ∙ (sym (run_bind back_there (λ j. rest) v)
      ∙ (ap (run (bind back_there (λ j. rest))) (first ∙ ap (λ (c : ℕ). run (way_read place around m c arm core) w) behind)
      ∙ (sym (run_bind there (λ i. bind back_there (λ j. rest)) w)
      ∙ ((λ j. run (both_read place around m n (sym (rest_at arms k arm p at_arm) j) (sym (rest_at cores k core q at_core) j)
      (sym (rest_at backs k back r at_back) j) (sym (rest_at givens k given s at_given) j)) w)
      ∙ whole))))

  none_of_sides : (arms : List Arm) (cores : List Core) (backs : List Arm) (givens : List Core)
      → min (min (length arms) (length cores)) (min (length backs) (length givens)) ≡ 0
      → both_read place around m n arms cores backs givens ≡ give tt
  none_of_sides [] cores backs givens e = refl
  none_of_sides (a ∷ arms) [] backs givens e = refl
  none_of_sides (a ∷ arms) (b ∷ cores) [] givens e = refl
  none_of_sides (a ∷ arms) (b ∷ cores) (c ∷ backs) [] e = refl
  none_of_sides (a ∷ arms) (b ∷ cores) (c ∷ backs) (d ∷ givens) e = absurd (omega arith)

  pub both_end : (arms : List Arm) (cores : List Core) (backs : List Arm) (givens : List Core) (k : ℕ)
      → k ≡ min (min (length arms) (length cores)) (min (length backs) (length givens)) → (w all : Written)
      → run (both_read place around m n (drop k arms) (drop k cores) (drop k backs) (drop k givens)) w ≡ all → w ≡ all
  both_end arms cores backs givens k e w all whole =
      let none : min (min (length (drop k arms)) (length (drop k cores))) (min (length (drop k backs)) (length (drop k givens))) ≡ 0 =
      (let a = length-drop k arms in let b = length-drop k cores in let c = length-drop k backs in let d = length-drop k givens in omega arith) in
      sym (run_give tt w)
      ∙ (ap (λ (c : Walk (Unit {0})). run c w) (sym (none_of_sides (drop k arms) (drop k cores) (drop k backs) (drop k givens) none)) ∙ whole)
