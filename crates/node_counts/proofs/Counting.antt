-- Where of each number and as many operands at most one note of what is made, and one of what is called, is written, notes are told apart.
use Rattle.std.proofs.Common.{◌≡◌, ℕ, ◌+◌, ◌≤◌, nat_eq, Bool, true, false, ◌&&◌, not, List, [], ◌∷◌, ◌++◌, map, length, Option, Some, None, refl, arith}
use Rattle.std.specs.List.{list_all}
use Rattle.std.proofs.lemmas.Bool.Decides.{Decides-eqb}
use Rattle.sail_core.specs.Nodes.{AllDiffer, is_new}
use Rattle.sail_core.specs.declared.tree.Giver.{Giver}
use Rattle.sail_core.specs.declared.tree.Giver.TheVariants as By
use Rattle.value_indices.specs.declared.indices.Indices.{Indices}
use Rattle.value_indices.specs.declared.notes.Fact.{Fact}
use Rattle.value_indices.specs.Steps.{Note, call_note, given_note, goal_note, made_note, name_note, size_note, way_note}
use Rattle.size_splits.specs.Bodies.{Body}
use Rattle.node_counts.specs.Counts.{Counted, bit, mass, may_give, own, times, weigh}
use Rattle.node_counts.specs.Told.{NoteIn, all_noted, are_alike, are_apart, are_single, give_alike, is_apart, is_single, note_in}

both_true : {a b : Bool} → a ≡ true → b ≡ true → (a && b) ≡ true
both_true {a = true} {b = true} e f = refl
both_true {a = true} {b = false} e f = absurd (cc)
both_true {a = false} {b = b} e f = absurd (cc)

abbrev notes_in : List NoteIn → List Note
notes_in ys = map (λ (y : NoteIn). y.note) ys

-- ---- one number stands at most once where all differ

other_number : (q : Counted) (k j : ℕ) → (k ≡ j → ⊥) → nat_eq k q.number ≡ true → own q j ≡ 0
other_number q k j differs is = by (nat_eq j q.number) (λ h. differs (omega (arith, (Decides-eqb k q.number).0 is, (Decides-eqb j q.number).0 h)))
  where
    by : (b : Bool) → (b ≡ true → ⊥) → bit b ≡ 0
    by true h = absurd (h refl)
    by false h = refl

none_of : (q : Counted) (k : ℕ) (ks : List ℕ) → is_new k ks → nat_eq k q.number ≡ true → times q ks ≡ 0
none_of q k [] h is = refl
none_of q k (j ∷ ks) h is =
    let e : own q j ≡ 0 = other_number q k j h.0 is in
    let f : times q ks ≡ 0 = none_of q k ks h.1 is in omega (arith, e, f)

pub once : (q : Counted) (ks : List ℕ) → AllDiffer ks → times q ks ≤ 1
once q [] h = omega arith
once q (k ∷ ks) h = by (nat_eq k q.number) (times q ks) (λ is. none_of q k ks h.0 is) (once q ks h.1)
  where
    by : (b : Bool) (m : ℕ) → (b ≡ true → m ≡ 0) → m ≤ 1 → bit b + m ≤ 1
    by true m none l = let e : m ≡ 0 = none refl in omega (arith, e)
    by false m none l = omega (arith, l)

-- ---- two notes

itself : (n : ℕ) → nat_eq n n ≡ true
itself n = (Decides-eqb n n).1 refl

two_differ : (a b c d : Bool) → a ≡ true → d ≡ true → bit (true && (a && b)) + bit (true && (c && d)) ≤ 1 → not (c && b) ≡ true
two_differ true true true true e f h = absurd (omega (arith, h))
two_differ true true true false e f h = absurd (cc)
two_differ false b c d e f h = absurd (cc)
two_differ true false true d e f h = refl
two_differ true b false d e f h = refl

abbrev Few : Note → Note → Type 0
Few n m = (q : Counted) → q.gives ≡ false → weigh q n + weigh q m ≤ 1

are_two : (n m : Note) → Few n m → not (are_alike n m) ≡ true
are_two (made_note facts k is made) (made_note more j js value) h =
    two_differ (nat_eq k k) (nat_eq (length is) (length js)) (nat_eq j k) (nat_eq (length js) (length js)) (itself k) (itself (length js))
    (h (record { gives = false; arm = None; calls = false; number = k; operands = length js }) refl)
are_two (call_note facts place k is callee ns qs) (call_note more spot j js called ms rs) h =
    two_differ (nat_eq k k) (nat_eq (length is) (length js)) (nat_eq j k) (nat_eq (length js) (length js)) (itself k) (itself (length js))
    (h (record { gives = false; arm = None; calls = true; number = k; operands = length js }) refl)
are_two (made_note facts k is made) (call_note more spot j js called ms rs) h = refl
are_two (made_note facts k is made) (goal_note more place c) h = refl
are_two (made_note facts k is made) (size_note more place value) h = refl
are_two (made_note facts k is made) (way_note more d) h = refl
are_two (made_note facts k is made) (given_note more j i) h = refl
are_two (made_note facts k is made) (name_note v name) h = refl
are_two (call_note facts place k is callee ns qs) (made_note more j js value) h = refl
are_two (call_note facts place k is callee ns qs) (goal_note more spot c) h = refl
are_two (call_note facts place k is callee ns qs) (size_note more spot value) h = refl
are_two (call_note facts place k is callee ns qs) (way_note more d) h = refl
are_two (call_note facts place k is callee ns qs) (given_note more j i) h = refl
are_two (call_note facts place k is callee ns qs) (name_note v name) h = refl
are_two (goal_note facts place c) m h = refl
are_two (size_note facts place made) m h = refl
are_two (way_note facts d) m h = refl
are_two (given_note facts k i) m h = refl
are_two (name_note v name) m h = refl

-- ---- several notes

all_differ : (y : NoteIn) (ys : List NoteIn) → ((q : Counted) → q.gives ≡ false → weigh q y.note + mass (weigh q) (notes_in ys) ≤ 1)
    → list_all (is_apart y) ys ≡ true
all_differ y [] h = refl
all_differ y (z ∷ zs) h =
    both_true (are_two y.note z.note (λ q e. let l : weigh q y.note + (weigh q z.note + mass (weigh q) (notes_in zs)) ≤ 1 = h q e in omega (arith, l)))
    (all_differ y zs (λ q e. let l : weigh q y.note + (weigh q z.note + mass (weigh q) (notes_in zs)) ≤ 1 = h q e in omega (arith, l)))

pub told_apart : (ys : List NoteIn) → ((q : Counted) → q.gives ≡ false → mass (weigh q) (notes_in ys) ≤ 1) → are_apart ys ≡ true
told_apart [] h = refl
told_apart (y ∷ ys) h =
    both_true (all_differ y ys h) (told_apart ys (λ q e. let l : weigh q y.note + mass (weigh q) (notes_in ys) ≤ 1 = h q e in omega (arith, l)))

-- ---- those of several bodies

module _ (q : Counted) where
  in_one : (b : Body) (ns : List Note) (ys : List NoteIn)
      → mass (weigh q) (notes_in (map (note_in b) ns ++ ys)) ≡ mass (weigh q) ns + mass (weigh q) (notes_in ys)
  in_one b [] ys = omega arith
  in_one b (n ∷ ns) ys =
      let e : mass (weigh q) (notes_in (map (note_in b) ns ++ ys)) ≡ mass (weigh q) ns + mass (weigh q) (notes_in ys) = in_one b ns ys in omega (arith, e)

  abbrev pub masses : List Body → ℕ
  masses [] = 0
  masses (b ∷ bs) = mass (weigh q) b.notes + masses bs

  all_masses : (bs : List Body) → mass (weigh q) (notes_in (all_noted bs)) ≡ masses bs
  all_masses [] = refl
  all_masses (b ∷ bs) =
      let e : mass (weigh q) (notes_in (map (note_in b) b.notes ++ all_noted bs)) ≡ mass (weigh q) b.notes + mass (weigh q) (notes_in (all_noted bs)) =
      in_one b b.notes (all_noted bs) in
      let f : mass (weigh q) (notes_in (all_noted bs)) ≡ masses bs = all_masses bs in omega (arith, e, f)

pub bodies_apart : (bs : List Body) → ((q : Counted) → q.gives ≡ false → masses q bs ≤ 1) → are_apart (all_noted bs) ≡ true
bodies_apart bs h =
    told_apart (all_noted bs) (λ q none. let e : mass (weigh q) (notes_in (all_noted bs)) ≡ masses q bs = all_masses q bs in
    let l : masses q bs ≤ 1 = h q none in omega (arith, e, l))

-- ---- the numbers that values give

-- what is counted
two_give : (a b c d e : Bool) → a ≡ true → (e ≡ true → c ≡ true) → bit (true && (a && b)) + bit (true && (c && d)) ≤ 1 → not (e && (b && d)) ≡ true
two_give a b c d false is h l = refl
two_give a false c d true is h l = refl
two_give a true c false true is h l = refl
two_give true true true true true is h l = let m : 2 ≤ 1 = l in absurd (omega (arith, m))
two_give true true false true true is h l = let m : false ≡ true = h refl in absurd (cc)
two_give false true c true true is h l = absurd (cc)

both_there : (a b : Bool) → a ≡ true → b ≡ true → (a && b) ≡ true
both_there true true e f = refl
both_there true false e f = absurd (cc)
both_there false b e f = absurd (cc)

swapped : (a b : Bool) → (a && b) ≡ true → (b && a) ≡ true
swapped true true h = refl
swapped true false h = absurd (cc)
swapped false b h = absurd (cc)

abbrev counted_by : ℕ → Option ℕ → Counted
counted_by k o = record { gives = true; arm = o; calls = false; number = k; operands = 0 }

givers_give : (facts more : List Fact) (g u : Giver) (i l : Indices)
    → ((q : Counted) → q.gives ≡ true → weigh q (given_note facts g i) + weigh q (given_note more u l) ≤ 1)
    → not (give_alike (given_note facts g i) (given_note more u l)) ≡ true
givers_give facts more (By.Node k) (By.Node j) i l h =
    two_give (nat_eq k k) (may_give i) (nat_eq j k) (may_give l) (nat_eq j k) (itself k) (λ e. e)
    (h (counted_by k None) refl)
givers_give facts more (By.Node k) (By.Arm j m) i l h = refl
givers_give facts more (By.Arm k n) (By.Node j) i l h = refl
givers_give facts more (By.Arm k n) (By.Arm j m) i l h =
    two_give (nat_eq n n && nat_eq k k) (may_give i) (nat_eq m n && nat_eq j k) (may_give l) (nat_eq j k && nat_eq m n)
    (both_there (nat_eq n n) (nat_eq k k) (itself n) (itself k)) (swapped (nat_eq j k) (nat_eq m n)) (h (counted_by k (Some n)) refl)

both_give : (n m : Note) → ((q : Counted) → q.gives ≡ true → weigh q n + weigh q m ≤ 1) → not (give_alike n m) ≡ true
both_give (given_note facts g i) (given_note more u l) h = givers_give facts more g u i l h
both_give (given_note facts k i) (made_note more j js value) h = refl
both_give (given_note facts k i) (call_note more spot j js called ms rs) h = refl
both_give (given_note facts k i) (goal_note more place c) h = refl
both_give (given_note facts k i) (size_note more place value) h = refl
both_give (given_note facts k i) (way_note more d) h = refl
both_give (given_note facts k i) (name_note v name) h = refl
both_give (made_note facts k is made) m h = refl
both_give (call_note facts place k is callee ns qs) m h = refl
both_give (goal_note facts place c) m h = refl
both_give (size_note facts place made) m h = refl
both_give (way_note facts d) m h = refl
both_give (name_note v name) m h = refl

all_single : (y : NoteIn) (ys : List NoteIn) → ((q : Counted) → q.gives ≡ true → weigh q y.note + mass (weigh q) (notes_in ys) ≤ 1)
    → list_all (is_single y) ys ≡ true
all_single y [] h = refl
all_single y (z ∷ zs) h =
    both_true (both_give y.note z.note (λ q e. let l : weigh q y.note + (weigh q z.note + mass (weigh q) (notes_in zs)) ≤ 1 = h q e in omega (arith, l)))
    (all_single y zs (λ q e. let l : weigh q y.note + (weigh q z.note + mass (weigh q) (notes_in zs)) ≤ 1 = h q e in omega (arith, l)))

told_single : (ys : List NoteIn) → ((q : Counted) → q.gives ≡ true → mass (weigh q) (notes_in ys) ≤ 1) → are_single ys ≡ true
told_single [] h = refl
told_single (y ∷ ys) h =
    both_true (all_single y ys h) (told_single ys (λ q e. let l : weigh q y.note + mass (weigh q) (notes_in ys) ≤ 1 = h q e in omega (arith, l)))

pub bodies_single : (bs : List Body) → ((q : Counted) → q.gives ≡ true → masses q bs ≤ 1)
    → are_single (all_noted bs) ≡ true
bodies_single bs h =
    told_single (all_noted bs) (λ q g. let e : mass (weigh q) (notes_in (all_noted bs)) ≡ masses q bs = all_masses q bs in
    let l : masses q bs ≤ 1 = h q g in omega (arith, e, l))
