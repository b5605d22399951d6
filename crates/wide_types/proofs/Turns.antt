-- Several walks, one after the other: what was made so far, and what is made of the others.
use Rattle.std.proofs.Common.{◌≡◌, ℕ, zero, suc, ◌+◌, List, [], ◌∷◌, ◌++◌, drop, slice_get, refl, sym, ap, ◌∙◌, append_assoc, append-nil, add-one, subst}
use Rattle.std.specs.Prelude.{IfOk, OnOk, Result, Ok, Err}
use Rattle.std.specs.declared.alloc.AllocError.{AllocError}
use Rattle.sail_types.specs.declared.numbers.Index.{Index}
use Rattle.sail_types.specs.declared.shapes.Shape.{Shape}
use Rattle.sail_types.specs.declared.table.Parameter.{Parameter}
use Rattle.value_indices.specs.Steps.{Walk, bind, give}
use Rattle.value_indices.specs.Walking.{Written, got, run}
use Rattle.value_indices.proofs.Walks.{got_bind, run_bind, got_give, run_give}
use Rattle.wide_types.specs.Widening.{Keep, each_kept, fresh_index, fresh_indices, kept_each, kept_index, shape_or_hole}

-- ---- what is made of what one walk gives, or two

pub gave_got : {A : Type 0} (all : Walk A) (x : A) (w : Written) → all ≡ give x → x ≡ got all w
gave_got all x w is = sym (got_give x w) ∙ ap (λ k. got k w) (sym is)

pub gave_run : {A : Type 0} (all : Walk A) (x : A) (w : Written) → all ≡ give x → w ≡ run all w
gave_run all x w is = sym (run_give x w) ∙ ap (λ k. run k w) (sym is)

pub once_got : {A B : Type 0} (first : Walk A) (f : A → B) (all : Walk B) (w : Written) (x : A) → all ≡ bind first (λ a. give (f a))
    → x ≡ got first w → f x ≡ got all w
once_got first f all w x is value =
    ap f value ∙ sym (got_give (f (got first w)) (run first w)) ∙ sym (got_bind first (λ a. give (f a)) w) ∙ ap (λ k. got k w) (sym is)

pub once_run : {A B : Type 0} (first : Walk A) (f : A → B) (all : Walk B) (w v : Written) → all ≡ bind first (λ a. give (f a))
    → v ≡ run first w → v ≡ run all w
once_run first f all w v is walked =
    walked ∙ sym (run_give (f (got first w)) (run first w)) ∙ sym (run_bind first (λ a. give (f a)) w) ∙ ap (λ k. run k w) (sym is)

pub twice_got : {A B C : Type 0} (first : Walk A) (second : Walk B) (f : A → B → C) (all : Walk C) (w v : Written) (x : A) (y : B)
    → all ≡ bind first (λ a. bind second (λ b. give (f a b))) → x ≡ got first w → v ≡ run first w → y ≡ got second v → f x y ≡ got all w
twice_got first second f all w v x y is value walked other =
    (λ i. f (value i) ((other ∙ ap (got second) walked) i)) ∙ once_got second (f (got first w)) (bind second (λ b. give (f (got first w) b)))
    (run first w) (got second (run first w)) refl refl ∙ sym (got_bind first (λ a. bind second (λ b. give (f a b))) w) ∙ ap (λ k. got k w) (sym is)

pub twice_run : {A B C : Type 0} (first : Walk A) (second : Walk B) (f : A → B → C) (all : Walk C) (w v u : Written)
    → all ≡ bind first (λ a. bind second (λ b. give (f a b))) → v ≡ run first w → u ≡ run second v → u ≡ run all w
twice_run first second f all w v u is walked further =
    once_run second (f (got first w)) (bind second (λ b. give (f (got first w) b))) (run first w) u refl (further ∙ ap (run second) walked)
    ∙ sym (run_bind first (λ a. bind second (λ b. give (f a b))) w) ∙ ap (λ k. run k w) (sym is)

-- ---- what a call gives

pub found : {A : Type 0} (r : Result A AllocError) (x y : A) → IfOk r (λ made. made ≡ x) → x ≡ y → IfOk r (λ made. made ≡ y)
found {A} r x y h is = subst (λ (z : A). IfOk r (λ made. made ≡ z)) is h

pub left : {A : Type 0} (r : Result A AllocError) (v w : Written) → v ≡ w → OnOk r (v ≡ w)
left (Ok x) v w h = h
left (Err e) v w h = tt

pub left_as : {A : Type 0} (r : Result A AllocError) (v w u : Written) → OnOk r (v ≡ w) → w ≡ u → OnOk r (v ≡ u)
left_as r v w u h is = subst (λ (z : Written). OnOk r (v ≡ z)) is h

-- ---- one more, and then the others

abbrev pub also : {A : Type 0} → Walk A → Walk (List A) → Walk (List A)
also first rest = bind first (λ x. bind rest (λ xs. give (x ∷ xs)))

also_got : {A : Type 0} (first : Walk A) (rest : Walk (List A)) (w : Written) → got (also first rest) w ≡ got first w ∷ got rest (run first w)
also_got first rest w =
    got_bind first (λ x. bind rest (λ xs. give (x ∷ xs))) w ∙ got_bind rest (λ xs. give (got first w ∷ xs)) (run first w)
    ∙ got_give (got first w ∷ got rest (run first w)) (run rest (run first w))

also_run : {A : Type 0} (first : Walk A) (rest : Walk (List A)) (w : Written) → run (also first rest) w ≡ run rest (run first w)
also_run first rest w =
    run_bind first (λ x. bind rest (λ xs. give (x ∷ xs))) w ∙ run_bind rest (λ xs. give (got first w ∷ xs)) (run first w)
    ∙ run_give (got first w ∷ got rest (run first w)) (run rest (run first w))

pub made_more : {A : Type 0} (first : Walk A) (rest all : Walk (List A)) (w v : Written) (before now : List A) (x : A)
    → all ≡ also first rest → now ≡ before ++ x ∷ [] → x ≡ got first w → v ≡ run first w → now ++ got rest v ≡ before ++ got all w
made_more first rest all w v before now x is pushed same walked =
    (λ i. pushed i ++ got rest (walked i)) ∙ append_assoc before (x ∷ []) (got rest (run first w))
    ∙ (λ i. before ++ (same i ∷ got rest (run first w))) ∙ ap (λ xs. before ++ xs) (sym (also_got first rest w))
    ∙ ap (λ k. before ++ got k w) (sym is)

pub walked_more : {A : Type 0} (first : Walk A) (rest all : Walk (List A)) (w v : Written)
    → all ≡ also first rest → v ≡ run first w → run rest v ≡ run all w
walked_more first rest all w v is walked = ap (run rest) walked ∙ sym (also_run first rest w) ∙ ap (λ k. run k w) (sym is)

-- none are left
pub made_all : {A : Type 0} (rest : Walk (List A)) (w : Written) (made : List A) → rest ≡ give [] → made ++ got rest w ≡ made
made_all rest w made is = ap (λ k. made ++ got k w) is ∙ ap (λ xs. made ++ xs) (got_give [] w) ∙ append-nil made

pub walked_all : {A : Type 0} (rest : Walk (List A)) (w : Written) → rest ≡ give [] → run rest w ≡ w
walked_all rest w is = ap (λ k. run k w) is ∙ run_give [] w

-- nothing is made of a type
pub nothing_made : {A : Type 0} (made : List A) (w : Written) → made ≡ made ++ got (give []) w
nothing_made made w = sym (made_all (give []) w made refl)

-- ---- fresh numbers and truths, several at a time

abbrev pub together : Walk (List Index) → Walk (List Index) → Walk (List Index)
together first rest = bind first (λ x. bind rest (λ xs. give (x ++ xs)))

together_got : (first rest : Walk (List Index)) (w : Written) → got (together first rest) w ≡ got first w ++ got rest (run first w)
together_got first rest w =
    got_bind first (λ x. bind rest (λ xs. give (x ++ xs))) w ∙ got_bind rest (λ xs. give (got first w ++ xs)) (run first w)
    ∙ got_give (got first w ++ got rest (run first w)) (run rest (run first w))

together_run : (first rest : Walk (List Index)) (w : Written) → run (together first rest) w ≡ run rest (run first w)
together_run first rest w =
    run_bind first (λ x. bind rest (λ xs. give (x ++ xs))) w ∙ run_bind rest (λ xs. give (got first w ++ xs)) (run first w)
    ∙ run_give (got first w ++ got rest (run first w)) (run rest (run first w))

pub fresh_more : (p : Parameter) (ps all : List Parameter) (w v : Written) (before now : List Index) → all ≡ p ∷ ps
    → now ≡ before ++ got (fresh_index p p.kind) w → v ≡ run (fresh_index p p.kind) w
    → now ++ got (fresh_indices ps) v ≡ before ++ got (fresh_indices all) w
fresh_more p ps all w v before now is pushed walked =
    (λ i. pushed i ++ got (fresh_indices ps) (walked i))
    ∙ append_assoc before (got (fresh_index p p.kind) w) (got (fresh_indices ps) (run (fresh_index p p.kind) w))
    ∙ ap (λ xs. before ++ xs) (sym (together_got (fresh_index p p.kind) (fresh_indices ps) w))
    ∙ ap (λ qs. before ++ got (fresh_indices qs) w) (sym is)

pub fresh_walked : (p : Parameter) (ps all : List Parameter) (w v : Written) → all ≡ p ∷ ps → v ≡ run (fresh_index p p.kind) w
    → run (fresh_indices ps) v ≡ run (fresh_indices all) w
fresh_walked p ps all w v is walked =
    ap (run (fresh_indices ps)) walked ∙ sym (together_run (fresh_index p p.kind) (fresh_indices ps) w) ∙ ap (λ qs. run (fresh_indices qs) w) (sym is)

-- ---- parts with shapes beside them

kept_behind : {A : Type 0} (f : Keep A) (fs : List (Keep A)) (i : ℕ) (ss : List Shape)
    → each_kept (f ∷ fs) (drop i ss) ≡ also (f (shape_or_hole (slice_get ss i))) (each_kept fs (drop (suc i) ss))
kept_behind f fs zero [] = refl
kept_behind f fs (suc i) [] = refl
kept_behind f fs zero (s ∷ ss) = refl
kept_behind f fs (suc i) (s ∷ ss) = kept_behind f fs i ss

-- a part that is kept by the shape at an index
pub kept_more : {A : Type 0} (f : Keep A) (fs : List (Keep A)) (i : ℕ) (ss : List Shape)
    → each_kept (f ∷ fs) (drop i ss) ≡ also (f (shape_or_hole (slice_get ss i))) (each_kept fs (drop (i + 1) ss))
kept_more f fs i ss =
    kept_behind f fs i ss ∙ ap (λ (n : ℕ). also (f (shape_or_hole (slice_get ss i))) (each_kept fs (drop n ss))) (sym (add-one i))

-- ---- numbers and truths that are kept, one after the other

pub each_more : (m : ℕ) (i : Index) (is : List Index) → kept_each m (i ∷ is) ≡ also (kept_index m i) (kept_each m is)
unfolding kept_each
each_more m i is = refl

pub each_none : (m : ℕ) → kept_each m [] ≡ give []
unfolding kept_each
each_none m = refl
