-- Walks over lists of parameters, clauses and definitions: the first, then the others.
use Rattle.std.proofs.Common.{◌≡◌, ◌∙◌, ap, sym, refl, ℕ, suc, zero, ◌+◌, ◌-◌, ◌<◌, ◌≤◌, List, [], ◌∷◌, ◌++◌, drop, length, get_or, min, arith}
use Rattle.std.proofs.Common.{append_assoc, append-nil, length-drop, Result, Ok, Err}
use Rattle.std.specs.Prelude.{Bool, true, false, ◌&&◌, ◌==◌, if◌then◌else◌, OnOk}
use Rattle.std.proofs.lemmas.Bool.{eqb-true, eqb-false, eq-eqb, ne_eqb}
use Rattle.sail_base.specs.declared.place.Place.{Place}
use Rattle.sail_types.specs.declared.numbers.Index.{Index}
use Rattle.sail_types.specs.declared.types.Typ.{Typ}
use Rattle.sail_core.specs.declared.model.Direction.{Direction}
use Rattle.sail_core.specs.declared.patterns.Arm.{Arm}
use Rattle.sail_core.specs.declared.tree.Core.{Core}
use Rattle.sail_core.specs.declared.tree.Giver.{Giver}
use Rattle.sail_core.specs.declared.tree.Giver.TheVariants as Gives
use Rattle.sail_core.specs.declared.written.WrittenNumber.{WrittenNumber}
use Rattle.value_indices.specs.declared.indices.Indices.{Indices}
use Rattle.value_indices.specs.Steps.{Walk, bind, give, wrong}
use Rattle.value_indices.specs.Walking.{Written, got, run}
use Rattle.value_indices.proofs.Walks.{got_bind, run_bind, got_give, run_give}
use Rattle.pattern_leaves.specs.Settings.{Around}
use Rattle.expression_notes.specs.Patterns.{Look}
use Rattle.call_arguments.specs.declared.aims.Aim.{Aim}
use Rattle.function_notes.proofs.Lists.{rest_at, none_left}
use Rattle.function_notes.specs.Functions.{parameter_opened, parameters_opened, other_looks, due_at, written_walk, clauses_walk, direction_walk, both_walk}

-- ---- lists

gathered : {B : Type 0} (made new rest : List B) (y : B) (all : List B) → new ≡ made ++ y ∷ [] → made ++ y ∷ rest ≡ all → new ++ rest ≡ all
gathered made new rest y all pushed whole = ap (λ l. l ++ rest) pushed ∙ (append_assoc made (y ∷ []) rest ∙ whole)

-- ---- parameters

module _ (is : List Index) where
  got_parameter : (ps : List Look) (t : Typ) (ts : List Typ) (w : Written) → got (parameters_opened ps is (t ∷ ts)) w
      ≡ got (parameter_opened ps is t) w ∷ got (parameters_opened (other_looks ps) is ts) (run (parameter_opened ps is t) w)
  got_parameter ps t ts w =
      got_bind (parameter_opened ps is t) (λ i. bind (parameters_opened (other_looks ps) is ts) (λ more. give (i ∷ more))) w
      ∙ (got_bind (parameters_opened (other_looks ps) is ts) (λ more. give (got (parameter_opened ps is t) w ∷ more)) (run (parameter_opened ps is t) w)
      ∙ got_give (got (parameter_opened ps is t) w ∷ got (parameters_opened (other_looks ps) is ts) (run (parameter_opened ps is t) w))
      (run (parameters_opened (other_looks ps) is ts) (run (parameter_opened ps is t) w)))

  run_parameter : (ps : List Look) (t : Typ) (ts : List Typ) (w : Written) → run (parameters_opened ps is (t ∷ ts)) w
      ≡ run (parameters_opened (other_looks ps) is ts) (run (parameter_opened ps is t) w)
  run_parameter ps t ts w =
      run_bind (parameter_opened ps is t) (λ i. bind (parameters_opened (other_looks ps) is ts) (λ more. give (i ∷ more))) w
      ∙ (run_bind (parameters_opened (other_looks ps) is ts) (λ more. give (got (parameter_opened ps is t) w ∷ more)) (run (parameter_opened ps is t) w)
      ∙ run_give (got (parameter_opened ps is t) w ∷ got (parameters_opened (other_looks ps) is ts) (run (parameter_opened ps is t) w))
      (run (parameters_opened (other_looks ps) is ts) (run (parameter_opened ps is t) w)))

  pub parameter_value : (ps rest : List Look) (ts : List Typ) (k : ℕ) (t : Typ) (w v : Written) → k < length ts → t ≡ get_or ts k t
      → rest ≡ other_looks ps → v ≡ run (parameter_opened ps is t) w → (made new all : List Indices) (y : Indices)
      → y ≡ got (parameter_opened ps is t) w → new ≡ made ++ y ∷ [] → made ++ got (parameters_opened ps is (drop k ts)) w ≡ all
      → new ++ got (parameters_opened rest is (drop (k + 1) ts)) v ≡ all
  parameter_value ps rest ts k t w v within read others walked made new all y value pushed whole =
      gathered made new (got (parameters_opened rest is (drop (k + 1) ts)) v) y all pushed (
      (λ j. made ++ (value j ∷ got (parameters_opened (others j) is (drop (k + 1) ts)) (walked j)))
      ∙ (ap (λ ys. made ++ ys) (sym (got_parameter ps t (drop (k + 1) ts) w))
      ∙ (ap (λ ys. made ++ got (parameters_opened ps is ys) w) (sym (rest_at ts k t within read))
      ∙ whole)))

  pub parameter_walked : (ps rest : List Look) (ts : List Typ) (k : ℕ) (t : Typ) (w v : Written) → k < length ts → t ≡ get_or ts k t
      → rest ≡ other_looks ps → v ≡ run (parameter_opened ps is t) w → (all : Written) → run (parameters_opened ps is (drop k ts)) w ≡ all
      → run (parameters_opened rest is (drop (k + 1) ts)) v ≡ all
  parameter_walked ps rest ts k t w v within read others walked all whole =
      (λ j. run (parameters_opened (others j) is (drop (k + 1) ts)) (walked j))
      ∙ (sym (run_parameter ps t (drop (k + 1) ts) w)
      ∙ (ap (λ ys. run (parameters_opened ps is ys) w) (sym (rest_at ts k t within read))
      ∙ whole))

  pub parameters_value_end : (ps : List Look) (ts : List Typ) (k : ℕ) (w : Written) → length ts ≤ k → (made all : List Indices)
      → made ++ got (parameters_opened ps is (drop k ts)) w ≡ all → made ≡ all
  parameters_value_end ps ts k w past made all whole =
      sym (append-nil made)
      ∙ (ap (λ l. made ++ l) (sym (got_give {A = List Indices} [] w))
      ∙ (ap (λ ys. made ++ got (parameters_opened ps is ys) w) (sym (none_left ts k past)) ∙ whole))

  pub parameters_walked_end : (ps : List Look) (ts : List Typ) (k : ℕ) (w : Written) → length ts ≤ k → (all : Written)
      → run (parameters_opened ps is (drop k ts)) w ≡ all → w ≡ all
  parameters_walked_end ps ts k w past all whole =
      sym (run_give {A = List Indices} [] w)
      ∙ (ap (λ ys. run (parameters_opened ps is ys) w) (sym (none_left ts k past)) ∙ whole)

-- ---- as many of each as all have

same_by : (a b k : ℕ) (t : Bool) → (a == 0) ≡ t → b ≡ a + k → (a == 0) ≡ (b == k)
same_by a b k true e h = let z = eqb-true a 0 e in e ∙ sym (eq-eqb b k (omega arith))
same_by a b k false e h = let z = eqb-false a 0 e in e ∙ sym (ne_eqb b k (λ p. z (omega arith)))

same_test : (a b k : ℕ) → b ≡ a + k → (a == 0) ≡ (b == k)
same_test a b k h = same_by a b k (a == 0) refl h

dropped : {A : Type 0} (xs : List A) (k : ℕ) → k ≤ length xs → (length (drop k xs) == 0) ≡ (length xs == k)
dropped xs k le = same_test (length (drop k xs)) (length xs) k (let e = length-drop k xs in omega arith)

some_items : (n : ℕ) → (suc n == 0) ≡ false
some_items n = ne_eqb (suc n) 0 (λ p. omega arith)

-- ---- what is owed where some are left over

abbrev ended : Place → Bool → Walk (Unit {0})
ended place all = if all then give tt else wrong place

-- ---- clauses

pub not_first : (at : ℕ) (once : List WrittenNumber) → (at ≡ 0 → ⊥) → [] ≡ due_at at once
not_first zero once some = absurd (some refl)
not_first (suc n) once some = refl

module _ (place : Place) (number : ℕ) (around : Around) (ts : List Typ) (aim : Aim) (declared : Bool) where
  clauses_behind : (at : ℕ) (once : List WrittenNumber) (arms : List Arm) (bodies : List Core)
      → clauses_walk place number around ts [] aim declared arms bodies
      ≡ clauses_walk place number around ts (due_at (at + 1) once) aim declared arms bodies
  clauses_behind at once arms bodies =
      let more : suc at ≡ at + 1 = omega arith in ap (λ n. clauses_walk place number around ts (due_at n once) aim declared arms bodies) more

  pub clause_walked : (once : List WrittenNumber) (arms : List Arm) (bodies : List Core) (k : ℕ) (arm : Arm) (body : Core) (due : List WrittenNumber)
      (w v : Written) → k < length arms → k < length bodies → arm ≡ get_or arms k arm → body ≡ get_or bodies k body → due ≡ due_at k once
      → (g : Giver) → g ≡ Gives.Arm number (length (drop (k + 1) arms)) → v ≡ run (written_walk place g around ts due aim declared arm body) w
      → (all : Written)
      → run (clauses_walk place number around ts (due_at k once) aim declared (drop k arms) (drop k bodies)) w ≡ all
      → run (clauses_walk place number around ts (due_at (k + 1) once) aim declared (drop (k + 1) arms) (drop (k + 1) bodies)) v ≡ all
  clause_walked once arms bodies k arm body due w v p q at_arm at_body owed g giver walked all whole =
      let rest = clauses_walk place number around ts [] aim declared (drop (k + 1) arms) (drop (k + 1) bodies) in
      let this = written_walk place (Gives.Arm number (length (drop (k + 1) arms))) around ts (due_at k once) aim declared arm body in
      ap (λ c. run c v) (sym (clauses_behind k once (drop (k + 1) arms) (drop (k + 1) bodies)))
      ∙ (ap (run rest) (walked ∙ (λ j. run (written_walk place (giver j) around ts (owed j) aim declared arm body) w))
      ∙ (sym (run_bind this (λ i. rest) w)
      ∙ ((λ j. run (clauses_walk place number around ts (due_at k once) aim declared (sym (rest_at arms k arm p at_arm) j)
      (sym (rest_at bodies k body q at_body) j)) w)
      ∙ whole)))

  none_of_clauses : (once : List WrittenNumber) (arms : List Arm) (bodies : List Core) → min (length arms) (length bodies) ≡ 0
      → clauses_walk place number around ts once aim declared arms bodies
      ≡ (if (length arms == 0) && (length bodies == 0) then give tt else wrong place)
  none_of_clauses once [] [] e = refl
  none_of_clauses once [] (b ∷ bs) e = ap (λ (t : Bool). ended place ((0 == 0) && t)) (sym (some_items (length bs)))
  none_of_clauses once (a ∷ others) [] e = ap (λ (t : Bool). ended place (t && (0 == 0))) (sym (some_items (length others)))
  none_of_clauses once (a ∷ others) (b ∷ bs) e = absurd (omega arith)

  pub clauses_end : (once : List WrittenNumber) (arms : List Arm) (bodies : List Core) (k : ℕ) → k ≡ min (length arms) (length bodies) → (w all : Written)
      → run (clauses_walk place number around ts (due_at k once) aim declared (drop k arms) (drop k bodies)) w ≡ all
      → run (if (length arms == k) && (length bodies == k) then give tt else wrong place) w ≡ all
  clauses_end once arms bodies k e w all h =
      let p : k ≤ length arms = omega arith in
      let q : k ≤ length bodies = omega arith in
      let none : min (length (drop k arms)) (length (drop k bodies)) ≡ 0 =
      (let a = length-drop k arms in let b = length-drop k bodies in omega arith) in
      (λ j. run (if (sym (dropped arms k p) j) && (sym (dropped bodies k q) j) then give tt else wrong place) w)
      ∙ (ap (λ c. run c w) (sym (none_of_clauses (due_at k once) (drop k arms) (drop k bodies) none)) ∙ h)

  pub arms_end : {A E : Type 0} (once : List WrittenNumber) (arms : List Arm) (bodies : List Core) (k count : ℕ) (t : Bool) (r : Result A E)
      (w v all : Written) → count ≡ min (length arms) (length bodies) → k ≡ count → t ≡ (length arms == count) && (length bodies == count)
      → run (clauses_walk place number around ts (due_at k once) aim declared (drop k arms) (drop k bodies)) w ≡ all
      → OnOk r (v ≡ run (if t then give tt else wrong place) w) → OnOk r (v ≡ all)
  arms_end once arms bodies k count t (Ok x) w v all least at tests whole h =
      let same : t ≡ (length arms == k) && (length bodies == k) = tests ∙ ap (λ (n : ℕ). (length arms == n) && (length bodies == n)) (sym at) in
      h ∙ (ap (λ (s : Bool). run (ended place s) w) same ∙ clauses_end once arms bodies k (at ∙ least) w all whole)
  arms_end once arms bodies k count t (Err x) w v all least at tests whole h = tt

-- ---- clauses of both directions

module _ (place : Place) (around : Around) (m n : Direction) where
  pub both_walked : (arms : List Arm) (bodies : List Core) (backs : List Arm) (givens : List Core) (k : ℕ) (arm : Arm) (body : Core) (back : Arm)
      (given : Core) → k < length arms → k < length bodies → k < length backs → k < length givens → arm ≡ get_or arms k arm
      → body ≡ get_or bodies k body → back ≡ get_or backs k back → given ≡ get_or givens k given → (w v u : Written)
      → (a b : ℕ) → a ≡ length (drop (k + 1) arms) → b ≡ length (drop (k + 1) backs)
      → v ≡ run (direction_walk place around m a arm body) w → u ≡ run (direction_walk place around n b back given) v → (all : Written)
      → run (both_walk place around m n (drop k arms) (drop k bodies) (drop k backs) (drop k givens)) w ≡ all
      → run (both_walk place around m n (drop (k + 1) arms) (drop (k + 1) bodies) (drop (k + 1) backs) (drop (k + 1) givens)) u ≡ all
  both_walked arms bodies backs givens k arm body back given p q r s at_arm at_body at_back at_given w v u a b behind before first second all whole =
      let rest = both_walk place around m n (drop (k + 1) arms) (drop (k + 1) bodies) (drop (k + 1) backs) (drop (k + 1) givens) in
      let there = direction_walk place around m (length (drop (k + 1) arms)) arm body in
      let back_there = direction_walk place around n (length (drop (k + 1) backs)) back given in
      ap (run rest) (second ∙ ap (λ (c : ℕ). run (direction_walk place around n c back given) v) before)
      ∙ (sym (run_bind back_there (λ j. rest) v)
      ∙ (ap (run (bind back_there (λ j. rest))) (first ∙ ap (λ (c : ℕ). run (direction_walk place around m c arm body) w) behind)
      ∙ (sym (run_bind there (λ i. bind back_there (λ j. rest)) w)
      ∙ ((λ j. run (both_walk place around m n (sym (rest_at arms k arm p at_arm) j) (sym (rest_at bodies k body q at_body) j)
      (sym (rest_at backs k back r at_back) j) (sym (rest_at givens k given s at_given) j)) w)
      ∙ whole))))

  none_of : (arms : List Arm) (bodies : List Core) (backs : List Arm) (givens : List Core)
      → min (min (length arms) (length bodies)) (min (length backs) (length givens)) ≡ 0
      → both_walk place around m n arms bodies backs givens
      ≡ (if ((length arms == 0) && (length bodies == 0)) && ((length backs == 0) && (length givens == 0)) then give tt else wrong place)
  none_of [] [] [] [] e = refl
  none_of [] [] [] (d ∷ ds) e = ap (λ (t : Bool). ended place (((0 == 0) && (0 == 0)) && ((0 == 0) && t))) (sym (some_items (length ds)))
  none_of [] [] (c ∷ cs) ds e =
      ap (λ (t : Bool). ended place (((0 == 0) && (0 == 0)) && (t && (length ds == 0)))) (sym (some_items (length cs)))
  none_of [] (b ∷ bs) cs ds e =
      ap (λ (t : Bool). ended place (((0 == 0) && t) && ((length cs == 0) && (length ds == 0)))) (sym (some_items (length bs)))
  none_of (a ∷ others) [] cs ds e =
      ap (λ (t : Bool). ended place ((t && (0 == 0)) && ((length cs == 0) && (length ds == 0)))) (sym (some_items (length others)))
  none_of (a ∷ others) (b ∷ bs) [] ds e =
      ap (λ (t : Bool). ended place ((t && (suc (length bs) == 0)) && ((0 == 0) && (length ds == 0)))) (sym (some_items (length others)))
  none_of (a ∷ others) (b ∷ bs) (c ∷ cs) [] e =
      ap (λ (t : Bool). ended place ((t && (suc (length bs) == 0)) && ((suc (length cs) == 0) && (0 == 0)))) (sym (some_items (length others)))
  none_of (a ∷ others) (b ∷ bs) (c ∷ cs) (d ∷ ds) e = absurd (omega arith)

  pub both_end : (arms : List Arm) (bodies : List Core) (backs : List Arm) (givens : List Core) (k : ℕ)
      → k ≡ min (min (length arms) (length bodies)) (min (length backs) (length givens)) → (w all : Written)
      → run (both_walk place around m n (drop k arms) (drop k bodies) (drop k backs) (drop k givens)) w ≡ all
      → run (if ((length arms == k) && (length bodies == k)) && ((length backs == k) && (length givens == k)) then give tt else wrong place) w ≡ all
  both_end arms bodies backs givens k e w all h =
      let p : k ≤ length arms = omega arith in
      let q : k ≤ length bodies = omega arith in
      let r : k ≤ length backs = omega arith in
      let s : k ≤ length givens = omega arith in
      let none : min (min (length (drop k arms)) (length (drop k bodies))) (min (length (drop k backs)) (length (drop k givens))) ≡ 0 =
      (let a = length-drop k arms in let b = length-drop k bodies in let c = length-drop k backs in let d = length-drop k givens in omega arith) in
      (λ j. run (if (sym (dropped arms k p) j && sym (dropped bodies k q) j) && (sym (dropped backs k r) j && sym (dropped givens k s) j)
      then give tt else wrong place) w)
      ∙ (ap (λ c. run c w) (sym (none_of (drop k arms) (drop k bodies) (drop k backs) (drop k givens) none)) ∙ h)

  pub sides_end : {A E : Type 0} (arms : List Arm) (bodies : List Core) (backs : List Arm) (givens : List Core) (k count : ℕ) (t : Bool) (r : Result A E)
      (w v all : Written) → count ≡ min (min (length arms) (length bodies)) (min (length backs) (length givens)) → k ≡ count
      → t ≡ ((length arms == count) && (length bodies == count)) && ((length backs == count) && (length givens == count))
      → run (both_walk place around m n (drop k arms) (drop k bodies) (drop k backs) (drop k givens)) w ≡ all
      → OnOk r (v ≡ run (if t then give tt else wrong place) w) → OnOk r (v ≡ all)
  sides_end arms bodies backs givens k count t (Ok x) w v all least at tests whole h =
      let same : t ≡ ((length arms == k) && (length bodies == k)) && ((length backs == k) && (length givens == k)) =
      tests ∙ ap (λ (i : ℕ). ((length arms == i) && (length bodies == i)) && ((length backs == i) && (length givens == i))) (sym at) in
      h ∙ (ap (λ (s : Bool). run (ended place s) w) same ∙ both_end arms bodies backs givens k (at ∙ least) w all whole)
  sides_end arms bodies backs givens k count t (Err x) w v all least at tests whole h = tt
