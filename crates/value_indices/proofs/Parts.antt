-- Walks over lists: the first item, then the others.
use Rattle.std.proofs.Common.{◌≡◌, ◌∙◌, ap, sym, refl, ℕ, suc, zero, ◌+◌, ◌<◌, ◌≤◌, Bool, List, [], ◌∷◌, ◌++◌, map, drop, length, get_or, slice_get}
use Rattle.std.proofs.Common.{add-one, append_assoc, append-nil, drop_of_length-le, Result, Ok, Err, OnOk}
use Rattle.std.proofs.lemmas.List.{drop_more}
use Rattle.std.specs.Option.{unwrap_or}
use Rattle.value_indices.specs.declared.indices.Indices.{Indices}
use Rattle.value_indices.specs.declared.indices.Naming.{Naming}
use Rattle.value_indices.specs.declared.indices.Naming.TheVariants as M
use Rattle.value_indices.specs.Steps.{Walk, bind, give, each}
use Rattle.value_indices.specs.Walking.{Written, got, run}
use Rattle.value_indices.specs.Opening.{Opening, parts_opened}
use Rattle.value_indices.proofs.Walks.{got_bind, run_bind, got_give, run_give}

-- what holds in any case holds where there is a value
pub on_ok : {A E : Type 0} (r : Result A E) (P : Type 0) → P → OnOk r P
on_ok (Ok x) P h = h
on_ok (Err e) P h = tt

-- ---- lists

rest_at : {A : Type 0} (xs : List A) (k : ℕ) (x : A) → k < length xs → x ≡ get_or xs k x → drop k xs ≡ x ∷ drop (k + 1) xs
rest_at xs k x within read = drop_more xs k x within ∙ ap (λ y. y ∷ drop (k + 1) xs) (sym read)

none_left : {A : Type 0} (xs : List A) (k : ℕ) → length xs ≤ k → drop k xs ≡ []
none_left xs k past = drop_of_length-le xs {i = k} past

-- what was made, one more, and the rest
gathered : {B : Type 0} (made new rest : List B) (y : B) (all : List B) → new ≡ made ++ y ∷ [] → made ++ y ∷ rest ≡ all → new ++ rest ≡ all
gathered made new rest y all pushed whole = ap (λ l. l ++ rest) pushed ∙ append_assoc made (y ∷ []) rest ∙ whole

-- what was made, where nothing is left
ended : {B : Type 0} (made rest all : List B) → rest ≡ [] → made ++ rest ≡ all → made ≡ all
ended made rest all none whole = sym (append-nil made) ∙ ap (λ l. made ++ l) (sym none) ∙ whole

-- ---- one walk for each item

got_each : {A B : Type 0} (f : A → Walk B) (x : A) (xs : List A) (w : Written)
    → got (each f (x ∷ xs)) w ≡ got (f x) w ∷ got (each f xs) (run (f x) w)
got_each f x xs w =
    got_bind (f x) (λ y. bind (each f xs) (λ ys. give (y ∷ ys))) w
    ∙ got_bind (each f xs) (λ ys. give (got (f x) w ∷ ys)) (run (f x) w)
    ∙ got_give (got (f x) w ∷ got (each f xs) (run (f x) w)) (run (each f xs) (run (f x) w))

run_each : {A B : Type 0} (f : A → Walk B) (x : A) (xs : List A) (w : Written) → run (each f (x ∷ xs)) w ≡ run (each f xs) (run (f x) w)
run_each f x xs w =
    run_bind (f x) (λ y. bind (each f xs) (λ ys. give (y ∷ ys))) w
    ∙ run_bind (each f xs) (λ ys. give (got (f x) w ∷ ys)) (run (f x) w)
    ∙ run_give (got (f x) w ∷ got (each f xs) (run (f x) w)) (run (each f xs) (run (f x) w))

got_each_none : {A B : Type 0} (f : A → Walk B) (w : Written) → got (each f []) w ≡ []
got_each_none {A} {B} f w = got_give {A = List B} [] w

run_each_none : {A B : Type 0} (f : A → Walk B) (w : Written) → run (each f []) w ≡ w
run_each_none {A} {B} f w = run_give {A = List B} [] w

-- the item at an index
pub each_value : {A B : Type 0} (f : A → Walk B) (xs : List A) (k : ℕ) (x : A) (w v : Written) → k < length xs → x ≡ get_or xs k x → v ≡ run (f x) w
    → (made new all : List B) (y : B) → y ≡ got (f x) w → new ≡ made ++ y ∷ [] → made ++ got (each f (drop k xs)) w ≡ all
    → new ++ got (each f (drop (k + 1) xs)) v ≡ all
each_value f xs k x w v within read walked made new all y value pushed whole =
    gathered made new (got (each f (drop (k + 1) xs)) v) y all pushed (
    (λ i. made ++ (value i ∷ got (each f (drop (k + 1) xs)) (walked i)))
    ∙ ap (λ ys. made ++ ys) (sym (got_each f x (drop (k + 1) xs) w))
    ∙ ap (λ ys. made ++ got (each f ys) w) (sym (rest_at xs k x within read))
    ∙ whole)

pub each_walked : {A B : Type 0} (f : A → Walk B) (xs : List A) (k : ℕ) (x : A) (w v : Written) → k < length xs → x ≡ get_or xs k x → v ≡ run (f x) w
    → (all : Written) → run (each f (drop k xs)) w ≡ all → run (each f (drop (k + 1) xs)) v ≡ all
each_walked f xs k x w v within read walked all whole =
    ap (λ u. run (each f (drop (k + 1) xs)) u) walked
    ∙ sym (run_each f x (drop (k + 1) xs) w)
    ∙ ap (λ ys. run (each f ys) w) (sym (rest_at xs k x within read))
    ∙ whole

-- behind the last
pub each_value_end : {A B : Type 0} (f : A → Walk B) (xs : List A) (k : ℕ) (w : Written) → length xs ≤ k
    → (made all : List B) → made ++ got (each f (drop k xs)) w ≡ all → made ≡ all
each_value_end f xs k w past made all whole =
    ended made (got (each f (drop k xs)) w) all (ap (λ ys. got (each f ys) w) (none_left xs k past) ∙ got_each_none f w) whole

pub each_walked_end : {A B : Type 0} (f : A → Walk B) (xs : List A) (k : ℕ) (w : Written) → length xs ≤ k
    → (all : Written) → run (each f (drop k xs)) w ≡ all → w ≡ all
each_walked_end f xs k w past all whole = sym (ap (λ ys. run (each f ys) w) (none_left xs k past) ∙ run_each_none f w) ∙ whole

-- ---- parts of a tuple, each for its own identifiers

abbrev pub named : List Naming → ℕ → Naming
named ns k = unwrap_or (slice_get ns k) M.Unnamed

abbrev rest_opened : Bool → List Opening → List Naming → Indices → Walk (List Indices)
rest_opened tells os ns i = bind (parts_opened tells os ns) (λ is. give (i ∷ is))

parts_at : (tells : Bool) (o : Opening) (os : List Opening) (ns : List Naming) (k : ℕ)
    → parts_opened tells (o ∷ os) (drop k ns) ≡ bind (o tells (named ns k)) (rest_opened tells os (drop (suc k) ns))
parts_at tells o os [] zero = refl
parts_at tells o os [] (suc k) = refl
parts_at tells o os (n ∷ ns) zero = refl
parts_at tells o os (n ∷ ns) (suc k) = parts_at tells o os ns k

got_parts : (tells : Bool) (o : Opening) (os : List Opening) (ns : List Naming) (k : ℕ) (w : Written)
    → got (parts_opened tells (o ∷ os) (drop k ns)) w
    ≡ got (o tells (named ns k)) w ∷ got (parts_opened tells os (drop (k + 1) ns)) (run (o tells (named ns k)) w)
got_parts tells o os ns k w = rw add-one (
    let n = named ns k in
    let v = run (o tells n) w in
    ap (λ f. got f w) (parts_at tells o os ns k)
    ∙ got_bind (o tells n) (rest_opened tells os (drop (suc k) ns)) w
    ∙ got_bind (parts_opened tells os (drop (suc k) ns)) (λ is. give (got (o tells n) w ∷ is)) v
    ∙ got_give (got (o tells n) w ∷ got (parts_opened tells os (drop (suc k) ns)) v) (run (parts_opened tells os (drop (suc k) ns)) v))

run_parts : (tells : Bool) (o : Opening) (os : List Opening) (ns : List Naming) (k : ℕ) (w : Written)
    → run (parts_opened tells (o ∷ os) (drop k ns)) w ≡ run (parts_opened tells os (drop (k + 1) ns)) (run (o tells (named ns k)) w)
run_parts tells o os ns k w = rw add-one (
    let n = named ns k in
    let v = run (o tells n) w in
    ap (λ f. run f w) (parts_at tells o os ns k)
    ∙ run_bind (o tells n) (rest_opened tells os (drop (suc k) ns)) w
    ∙ run_bind (parts_opened tells os (drop (suc k) ns)) (λ is. give (got (o tells n) w ∷ is)) v
    ∙ run_give (got (o tells n) w ∷ got (parts_opened tells os (drop (suc k) ns)) v) (run (parts_opened tells os (drop (suc k) ns)) v))

got_no_parts : (tells : Bool) (ns : List Naming) (w : Written) → got (parts_opened tells [] ns) w ≡ []
got_no_parts tells ns w = got_give {A = List Indices} [] w

run_no_parts : (tells : Bool) (ns : List Naming) (w : Written) → run (parts_opened tells [] ns) w ≡ w
run_no_parts tells ns w = run_give {A = List Indices} [] w

module _ {X : Type 0} (tells : Bool) (f : X → Opening) (xs : List X) (ns : List Naming) where
  -- the parts from an index on
  abbrev from : ℕ → Walk (List Indices)
  from k = parts_opened tells (map f (drop k xs)) (drop k ns)

  got_from : (k : ℕ) (x : X) (w : Written) → k < length xs → x ≡ get_or xs k x
      → got (from k) w ≡ got (f x tells (named ns k)) w ∷ got (from (k + 1)) (run (f x tells (named ns k)) w)
  got_from k x w within read =
      ap (λ ys. got (parts_opened tells (map f ys) (drop k ns)) w) (rest_at xs k x within read) ∙ got_parts tells (f x) (map f (drop (k + 1) xs)) ns k w

  run_from : (k : ℕ) (x : X) (w : Written) → k < length xs → x ≡ get_or xs k x → run (from k) w ≡ run (from (k + 1)) (run (f x tells (named ns k)) w)
  run_from k x w within read =
      ap (λ ys. run (parts_opened tells (map f ys) (drop k ns)) w) (rest_at xs k x within read) ∙ run_parts tells (f x) (map f (drop (k + 1) xs)) ns k w

  -- the part at an index
  pub parts_value : (k : ℕ) (x : X) (at : ℕ) (name : Naming) (w v : Written) → k < length xs → x ≡ get_or xs k x → at ≡ k → name ≡ named ns at
      → v ≡ run (f x tells name) w → (made new all : List Indices) (y : Indices) → y ≡ got (f x tells name) w → new ≡ made ++ y ∷ []
      → made ++ got (from k) w ≡ all → new ++ got (from (k + 1)) v ≡ all
  parts_value k x at name w v within read here called walked made new all y value pushed whole =
      let own : name ≡ named ns k = called ∙ ap (λ j. named ns j) here in
      let first : y ≡ got (f x tells (named ns k)) w = value ∙ ap (λ n. got (f x tells n) w) own in
      let on : v ≡ run (f x tells (named ns k)) w = walked ∙ ap (λ n. run (f x tells n) w) own in
      gathered made new (got (from (k + 1)) v) y all pushed (
      (λ i. made ++ (first i ∷ got (from (k + 1)) (on i)))
      ∙ ap (λ ys. made ++ ys) (sym (got_from k x w within read))
      ∙ whole)

  pub parts_walked : (k : ℕ) (x : X) (at : ℕ) (name : Naming) (w v : Written) → k < length xs → x ≡ get_or xs k x → at ≡ k → name ≡ named ns at
      → v ≡ run (f x tells name) w → (all : Written) → run (from k) w ≡ all → run (from (k + 1)) v ≡ all
  parts_walked k x at name w v within read here called walked all whole =
      let own : name ≡ named ns k = called ∙ ap (λ j. named ns j) here in
      let on : v ≡ run (f x tells (named ns k)) w = walked ∙ ap (λ n. run (f x tells n) w) own in
      ap (λ u. run (from (k + 1)) u) on ∙ sym (run_from k x w within read) ∙ whole

  -- behind the last
  pub parts_value_end : (k : ℕ) (w : Written) → length xs ≤ k → (made all : List Indices) → made ++ got (from k) w ≡ all → made ≡ all
  parts_value_end k w past made all whole =
      ended made (got (from k) w) all
      (ap (λ ys. got (parts_opened tells (map f ys) (drop k ns)) w) (none_left xs k past) ∙ got_no_parts tells (drop k ns) w) whole

  pub parts_walked_end : (k : ℕ) (w : Written) → length xs ≤ k → (all : Written) → run (from k) w ≡ all → w ≡ all
  parts_walked_end k w past all whole =
      sym (ap (λ ys. run (parts_opened tells (map f ys) (drop k ns)) w) (none_left xs k past) ∙ run_no_parts tells (drop k ns) w) ∙ whole
