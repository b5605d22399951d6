-- The first test that fails, of lists of tests, and the segments of headers one by one.
use Rattle.std.proofs.Common.{◌≡◌, ℕ, zero, suc, ◌+◌, ◌-◌, ◌<◌, ◌≤◌, Bool, true, false, List, [], ◌∷◌, ◌++◌, length}
use Rattle.std.proofs.Common.{map, filter, refl, sym, ap, ◌∙◌, arith, append-nil, append_assoc, cond, All, ◌≤◌}
use Rattle.std.proofs.Common.{Option, Some, None}
use Rattle.std.specs.Bool.{if◌then◌else◌}
use Rattle.std.proofs.lemmas.List.{map-append}
use Rattle.std.proofs.lemmas.List.Elements.{filter-append, All-cons}
use Rattle.std.proofs.lemmas.Grind.{flat_map-append}
use Rattle.std.specs.List.{flat_map, range_with_len}
use Rattle.sail_base.specs.declared.elf_refusal.ElfRefusal.{ElfRefusal}
use Rattle.elf_load.specs.declared.image.Segment.{Segment}
use Rattle.elf_load.specs.Reading.{Test, first_failed}

passed_if : (t : Bool) (r : ElfRefusal) (x y : Option ElfRefusal) → (x ≡ None → y ≡ None) → (if t then Some r else x) ≡ None → (if t then Some r else y) ≡ None
passed_if true r x y f h = h
passed_if false r x y f h = f h

-- where a list's tests pass, the next list decides
first_passed : (t : Bool) (r : ElfRefusal) (x y z : Option ElfRefusal) → (x ≡ None → y ≡ z) → (if t then Some r else x) ≡ None → (if t then Some r else y) ≡ z
first_passed true r x y z f h = absurd (cc)
first_passed false r x y z f h = f h

pub first_failed-passed : (a b : List Test) → first_failed a ≡ None → first_failed (a ++ b) ≡ first_failed b
first_failed-passed [] b h = refl
first_failed-passed (test ∷ a) b h = first_passed test.0 test.1 (first_failed a) (first_failed (a ++ b)) (first_failed b) (first_failed-passed a b) h

first_found : (t : Bool) (s r : ElfRefusal) (x y : Option ElfRefusal) → (x ≡ Some r → y ≡ Some r) →
    (if t then Some s else x) ≡ Some r → (if t then Some s else y) ≡ Some r
first_found true s r x y f h = h
first_found false s r x y f h = f h

-- a list's first failure is that of a longer list
pub first_failed-failed : (a b : List Test) (r : ElfRefusal) → first_failed a ≡ Some r → first_failed (a ++ b) ≡ Some r
first_failed-failed [] b r h = absurd (cc)
first_failed-failed (test ∷ a) b r h = first_found test.0 test.1 r (first_failed a) (first_failed (a ++ b)) (first_failed-failed a b r) h

-- two runs of indices, one behind the other
range_with_len-add : (a n m : ℕ) → range_with_len a (n + m) ≡ range_with_len a n ++ range_with_len (a + n) m
range_with_len-add a zero m = let e : a ≡ a + 0 = omega arith in let z : 0 + m ≡ m = omega arith in λ i. range_with_len (e i) (z i)
range_with_len-add a (suc n) m =
    let e : suc n + m ≡ suc (n + m) = omega arith in let k : a + 1 + n ≡ a + suc n = omega arith in
    ap (range_with_len a) e ∙ ap (λ xs. a ∷ xs) (range_with_len-add (a + 1) n m ∙ ap (λ x. range_with_len (a + 1) n ++ range_with_len x m) k)

-- the tests of all indices, at one of them
tests_at : (tests : ℕ → List Test) (i n : ℕ) → i < n → flat_map tests (range_with_len 0 n) ≡ flat_map tests
    (range_with_len 0 i) ++ (tests i ++ flat_map tests (range_with_len (i + 1) (n - (i + 1))))
tests_at tests i n h =
    let e : n ≡ i + suc (n - (i + 1)) = omega arith in let z : 0 + i ≡ i = omega arith in
    ap (λ k. flat_map tests (range_with_len 0 k)) e
    ∙ ap (flat_map tests) (range_with_len-add 0 i (suc (n - (i + 1))) ∙ ap (λ k. range_with_len 0 i ++ range_with_len k (suc (n - (i + 1)))) z)
    ∙ flat_map-append tests (range_with_len 0 i) (range_with_len i (suc (n - (i + 1))))

-- the first index that fails decides
pub index_failed : (tests : ℕ → List Test) (i n : ℕ) (r : ElfRefusal) → i < n → first_failed
    (flat_map tests (range_with_len 0 i)) ≡ None → first_failed (tests i) ≡ Some r → first_failed
    (flat_map tests (range_with_len 0 n)) ≡ Some r
index_failed tests i n r h p f =
    let behind = flat_map tests (range_with_len (i + 1) (n - (i + 1))) in
    ap first_failed (tests_at tests i n h) ∙ first_failed-passed (flat_map tests (range_with_len 0 i))
    (tests i ++ behind) p ∙ first_failed-failed (tests i) behind r f

pub index_passed : (tests : ℕ → List Test) (i : ℕ) → first_failed (flat_map tests (range_with_len 0 i)) ≡ None →
    first_failed (tests i) ≡ None → first_failed (flat_map tests (range_with_len 0 (i + 1))) ≡ None
index_passed tests i p f =
    let none : i + 1 - (i + 1) ≡ 0 = omega arith in
    ap first_failed (tests_at tests i (i + 1) (omega arith) ∙ ap (λ k. flat_map tests (range_with_len 0 i) ++
    (tests i ++ flat_map tests (range_with_len (i + 1) k))) none)
    ∙ first_failed-passed (flat_map tests (range_with_len 0 i)) (tests i ++ []) p ∙ first_failed-passed (tests i) [] f

-- one more index
range_more : (i : ℕ) → range_with_len 0 (i + 1) ≡ range_with_len 0 i ++ i ∷ []
range_more i = range_with_len-add 0 i 1 ∙ ap (λ k. range_with_len 0 i ++ k ∷ []) (omega arith)

kept : (p : ℕ → Bool) (i : ℕ) → p i ≡ true → filter p (i ∷ []) ≡ i ∷ []
kept p i h = rw h refl

left_out : (p : ℕ → Bool) (i : ℕ) → p i ≡ false → filter p (i ∷ []) ≡ []
left_out p i h = rw h refl

-- the segments up to one more index, where its header is loaded, and where it isn't
pub segments_more : (f : ℕ → Segment) (p : ℕ → Bool) (i : ℕ) (some : List Segment) (one : Segment) → p i ≡ true → some
    ≡ map f (filter p (range_with_len 0 i)) → one ≡ f i → some ++ one ∷ [] ≡ map f
    (filter p (range_with_len 0 (i + 1)))
segments_more f p i some one h e o =
    (λ j. e j ++ o j ∷ []) ∙ sym (map-append f (filter p (range_with_len 0 i)) (i ∷ []))
    ∙ ap (map f) (ap (λ xs. filter p (range_with_len 0 i) ++ xs) (sym (kept p i h)) ∙ sym
    (filter-append p (range_with_len 0 i) (i ∷ [])) ∙ ap (filter p) (sym (range_more i)))

pub segments_same : (f : ℕ → Segment) (p : ℕ → Bool) (i : ℕ) (some : List Segment) → p i ≡ false → some ≡ map f
    (filter p (range_with_len 0 i)) → some ≡ map f (filter p (range_with_len 0 (i + 1)))
segments_same f p i some h e =
    e ∙ ap (map f) (sym (append-nil (filter p (range_with_len 0 i))) ∙ ap (λ xs. filter p (range_with_len 0 i) ++ xs)
    (sym (left_out p i h)) ∙ sym (filter-append p (range_with_len 0 i) (i ∷ [])) ∙ ap (filter p)
    (sym (range_more i)))

-- four lists of tests, one behind another, as far as they pass
pub passed_two : (a b c d : List Test) → first_failed a ≡ None → first_failed b ≡ None → first_failed (a ++ b ++ c ++ d) ≡ first_failed (c ++ d)
passed_two a b c d h k =
    let e : a ++ b ++ c ++ d ≡ (a ++ b) ++ (c ++ d) = append_assoc (a ++ b) c d in
    ap first_failed e ∙ first_failed-passed (a ++ b) (c ++ d) (first_failed-passed a b h ∙ k)

-- a header's segment has no more bytes in the file than in memory
abbrev pub Held : Segment → Type 0
Held segment = length segment.bytes ≤ segment.size

held_if : (f : ℕ → Segment) (kept : Bool) (i : ℕ) (rest : List ℕ) → (kept ≡ true → Held (f i)) → All Held (map f rest)
    → All Held (map f (cond kept (i ∷ rest) rest))
held_if f true i rest h k = All-cons Held (f i) (map f rest) (h refl) k
held_if f false i rest h k = k

pub all_held : (f : ℕ → Segment) (p : ℕ → Bool) (a n : ℕ) → ((i : ℕ) → i < a + n → p i ≡ true → Held (f i)) → All Held (map f (filter p (range_with_len a n)))
all_held f p a zero h = λ k d b. absurd (omega arith)
all_held f p a (suc n) h = held_if f (p a) a (filter p (range_with_len (a + 1) n)) (h a (omega arith)) (all_held f p (a + 1) n (λ i b. h i (omega arith)))
