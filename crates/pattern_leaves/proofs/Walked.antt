-- What is written down behind the walks over leaves of patterns.
use Rattle.std.proofs.Common.{◌≡◌, sym, ◌∙◌, ap, List, [], ◌∷◌, ◌++◌, append_assoc, append-nil, refl}
use Rattle.std.proofs.Common.{Bool, true, false, ℤ, ℕ, ◌+◌, ◌<◌, ◌≤◌, length, drop, get_or}
use Rattle.sail_base.specs.declared.place.Place.{Place}
use Rattle.sail_types.specs.Sums.{constant}
use Rattle.sail_types.specs.declared.numbers.Num.{Num}
use Rattle.value_indices.specs.Opening.{equal}
use Rattle.value_indices.specs.Steps.{Walk, bind, give, assume, wrong, each}
use Rattle.value_indices.specs.Walking.{Written, got, run, remembered_last}
use Rattle.value_indices.proofs.Walks.{got_give, run_give, got_bind, run_bind}
use Rattle.pattern_leaves.proofs.Rests.{rest_is, all_behind}
use Rattle.pattern_leaves.specs.declared.names.Bound.{Bound}
use Rattle.pattern_leaves.specs.Literals.{wrong_pattern, no_names, integer_met, met_where}

-- ---- one walk, then another with what it gave

pub then_got : {A B : Type 0} (first : Walk A) (next : A → Walk B) (v w : Written) (x : A) → x ≡ got first v → w ≡ run first v
    → got (next x) w ≡ got (bind first next) v
then_got first next v w x is was = (λ i. got (next (is i)) (was i)) ∙ sym (got_bind first next v)

pub then_run : {A B : Type 0} (first : Walk A) (next : A → Walk B) (v w : Written) (x : A) → x ≡ got first v → w ≡ run first v
    → run (next x) w ≡ run (bind first next) v
then_run first next v w x is was = (λ i. run (next (is i)) (was i)) ∙ sym (run_bind first next v)

-- a value made of what it gave
pub made_got : {A B : Type 0} (first : Walk A) (f : A → B) (v : Written) (x : A) → x ≡ got first v → f x ≡ got (bind first (λ y. give (f y))) v
made_got first f v x is = ap f is ∙ sym (got_give (f (got first v)) (run first v)) ∙ sym (got_bind first (λ y. give (f y)) v)

pub made_run : {A B : Type 0} (first : Walk A) (f : A → B) (v w : Written) → w ≡ run first v → w ≡ run (bind first (λ y. give (f y))) v
made_run first f v w was = was ∙ sym (run_give (f (got first v)) (run first v)) ∙ sym (run_bind first (λ y. give (f y)) v)

-- what is remembered stays so
pub still_remembered : {A : Type 0} (a : Walk A) (v : Written) → remembered_last (run a v) ≡ remembered_last v
unfolding run remembered_last
still_remembered a v = refl

-- ---- loops: values so far, with what the rest of a walk gives

abbrev pub consed : {A : Type 0} → Walk A → Walk (List A) → Walk (List A)
consed first rest = bind first (λ x. bind rest (λ xs. give (x ∷ xs)))

pub consed_got : {A : Type 0} (first : Walk A) (rest : Walk (List A)) (v : Written) → got (consed first rest) v ≡ got first v ∷ got rest (run first v)
consed_got first rest v =
    got_bind first (λ x. bind rest (λ xs. give (x ∷ xs))) v ∙ got_bind rest (λ xs. give (got first v ∷ xs)) (run first v)
    ∙ got_give (got first v ∷ got rest (run first v)) (run rest (run first v))

pub consed_run : {A : Type 0} (first : Walk A) (rest : Walk (List A)) (v : Written) → run (consed first rest) v ≡ run rest (run first v)
consed_run first rest v =
    run_bind first (λ x. bind rest (λ xs. give (x ∷ xs))) v ∙ run_bind rest (λ xs. give (got first v ∷ xs)) (run first v)
    ∙ run_give (got first v ∷ got rest (run first v)) (run rest (run first v))

pub pushed_got : {A : Type 0} (before now : List A) (x : A) (whole rest : Walk (List A)) (first : Walk A) (v w : Written) → now ≡ before ++ x ∷ []
    → x ≡ got first v → w ≡ run first v → whole ≡ consed first rest → now ++ got rest w ≡ before ++ got whole v
pushed_got {A} before now x whole rest first v w grown is was opens =
    (λ j. grown j ++ got rest (was j)) ∙ append_assoc before (x ∷ []) (got rest (run first v))
    ∙ (λ j. before ++ (is j ∷ got rest (run first v)))
    ∙ ap (λ (l : List A). before ++ l) (sym (ap (λ (a : Walk (List A)). got a v) opens ∙ consed_got first rest v))

pub pushed_run : {A : Type 0} (whole rest : Walk (List A)) (first : Walk A) (v w : Written) → w ≡ run first v → whole ≡ consed first rest
    → run rest w ≡ run whole v
pushed_run {A} whole rest first v w was opens =
    ap (λ (u : Written). run rest u) was ∙ sym (ap (λ (a : Walk (List A)). run a v) opens ∙ consed_run first rest v)

-- ---- a walk that binds no names

pub none_got : (a : Walk (Unit {0})) (v : Written) → got (bind a (λ t. no_names)) v ≡ []
none_got a v = got_bind a (λ t. no_names) v ∙ got_give [] (run a v)

pub none_run : (a : Walk (Unit {0})) (v : Written) → run (bind a (λ t. no_names)) v ≡ run a v
none_run a v = run_bind a (λ t. no_names) v ∙ run_give {A = List Bound} [] (run a v)

pub integer_got : (b : Bool) (z : ℤ) (n : Num) (v : Written) → got (integer_met b z n) v ≡ []
integer_got true z n v = none_got (assume (equal n (constant z))) v
integer_got false z n v = got_give [] v

pub integer_run : (b : Bool) (z : ℤ) (n : Num) (v : Written) → b ≡ true → run (integer_met b z n) v ≡ run (assume (equal n (constant z))) v
integer_run true z n v is = none_run (assume (equal n (constant z))) v
integer_run false z n v is = absurd (cc)

pub unknown_run : (b : Bool) (z : ℤ) (n : Num) (v : Written) → b ≡ false → run (integer_met b z n) v ≡ v
unknown_run true z n v is = absurd (cc)
unknown_run false z n v is = run_give {A = List Bound} [] v

pub where_got : (place : Place) (b : Bool) (v : Written) → b ≡ true → got (met_where place b) v ≡ []
where_got place true v is = got_give [] v
where_got place false v is = absurd (cc)

pub where_run : (place : Place) (b : Bool) (v : Written) → b ≡ true → run (met_where place b) v ≡ v
where_run place true v is = run_give {A = List Bound} [] v
where_run place false v is = absurd (cc)

-- ---- a walk that ends here

pub wrong_got : (place : Place) (v : Written) → got (wrong_pattern place) v ≡ []
wrong_got place v = none_got (wrong place) v

pub wrong_run : (place : Place) (v : Written) → run (wrong_pattern place) v ≡ run (wrong place) v
wrong_run place v = none_run (wrong place) v

-- values so far, of a walk that gives no more
pub ended_by : {A : Type 0} (found : List A) (whole : Walk (List A)) (v : Written) (all : List A) → whole ≡ give [] → found ++ got whole v ≡ all
    → found ≡ all
ended_by {A} found whole v all is total =
    sym (append-nil found) ∙ ap (λ (l : List A). found ++ l) (sym (ap (λ (a : Walk (List A)). got a v) is ∙ got_give [] v)) ∙ total

pub each_more : {A B : Type 0} (f : A → Walk B) (xs : List A) (k : ℕ) (x : A) → k < length xs → x ≡ get_or xs k x
    → each f (drop k xs) ≡ consed (f x) (each f (drop (k + 1) xs))
each_more f xs k x within is = (λ j. each f (rest_is xs k x within is j))

pub each_end : {A B : Type 0} (f : A → Walk B) (xs : List A) (k : ℕ) → length xs ≤ k → each f (drop k xs) ≡ give []
each_end f xs k past = (λ j. each f (all_behind xs k past j))
