-- Facts that are picked by their positions.
use Rattle.std.proofs.Common.{◌≡◌, ℕ, zero, suc, ◌+◌, ◌-◌, ◌≤◌, ◌<◌, ◌⊎◌, inl, inr, Bool, true, false, List, [], ◌∷◌, ◌++◌, length, take, get_or, slice_get}
use Rattle.std.proofs.Common.{sym, ap, ◌∙◌, subst, refl, arith, append_assoc, append-nil}
use Rattle.std.specs.Prelude.{Some, nat_eq}
use Rattle.std.specs.List.{list_any}
use Rattle.std.specs.List.Sorted.{IsNonDecreasing}
use Rattle.std.proofs.lemmas.Bool.{false≢true, eqb-true, cases_lt}
use Rattle.std.proofs.lemmas.List.{take_all, take_more, get_or_default}
use Rattle.std.proofs.lemmas.Option.{slice_get-get_or, slice_get_read}
use Rattle.sail_types.specs.declared.numbers.Atom.{Atom}
use Rattle.sail_types.specs.declared.numbers.Con.{Con}
use Rattle.linear.specs.Choices.{variables_in}
use Rattle.value_indices.specs.Steps.{conditions}
use Rattle.value_indices.specs.declared.notes.Fact.{Fact}
use Rattle.value_indices.specs.declared.notes.Fact.TheVariants as Y
use Rattle.fact_index.specs.Filed.{has}
use Rattle.fact_index.specs.Picked.{IsAsGood, IsWhole, HasAll, IsPart}
use Rattle.fact_index.proofs.Bools.{or_split, not_by}
use Rattle.fact_index.proofs.AsGood.{good_none, good_kept, good_left, good_append}

-- ---- conditions among facts

pub conditions_append : (xs ys : List Fact) → conditions (xs ++ ys) ≡ conditions xs ++ conditions ys
conditions_append [] ys = refl
conditions_append (Y.Holds c ∷ xs) ys = ap (λ l. c ∷ l) (conditions_append xs ys)
conditions_append (Y.IsGiven v ∷ xs) ys = conditions_append xs ys

pub conditions_read : (facts : List Fact) (k : ℕ) (x : Fact) (start made new : List Con) → k < length facts → x ≡ get_or facts k x
    → made ≡ start ++ conditions (take k facts) → new ≡ made ++ conditions (x ∷ []) → new ≡ start ++ conditions (take (k + 1) facts)
conditions_read facts k x start made new within read h put =
    let parts : conditions (take (k + 1) facts) ≡ conditions (take k facts) ++ conditions (x ∷ []) =
    ap conditions (take_more facts k x within ∙ ap (λ y. take k facts ++ y ∷ []) (sym read)) ∙ conditions_append (take k facts) (x ∷ []) in
    put ∙ (ap (λ l. l ++ conditions (x ∷ [])) h ∙ (append_assoc start (conditions (take k facts)) (conditions (x ∷ [])) ∙ ap (λ l. start ++ l) (sym parts)))

any_fact : Fact
any_fact = Y.IsGiven 0

-- ---- one fact more

module _ (f : Atom → Bool) where
  left_fact : (x : Fact) → ((c : Con) → x ≡ Y.Holds c → list_any f (variables_in c) ≡ false) → IsAsGood f (conditions (x ∷ [])) []
  left_fact (Y.Holds c) h = good_left f c (h c refl)
  left_fact (Y.IsGiven v) h = good_none f

  kept_fact : (x : Fact) → ((c : Con) → x ≡ Y.Holds c → IsWhole f c) → IsAsGood f (conditions (x ∷ [])) (conditions (x ∷ []))
  kept_fact (Y.Holds c) h = good_kept f c (h c refl)
  kept_fact (Y.IsGiven v) h = good_none f

  one_more : (facts : List Fact) (k : ℕ) (x : Fact) (more picks : List Con) → k < length facts → x ≡ get_or facts k x
      → IsAsGood f (conditions (take k facts)) more → IsAsGood f (conditions (x ∷ [])) picks
      → IsAsGood f (conditions (take (k + 1) facts)) (more ++ picks)
  one_more facts k x more picks within read h g =
      let parts : conditions (take (k + 1) facts) ≡ conditions (take k facts) ++ conditions (x ∷ []) =
      ap conditions (take_more facts k x within ∙ ap (λ y. take k facts ++ y ∷ []) (sym read))
      ∙ conditions_append (take k facts) (x ∷ []) in
      subst (λ cs. IsAsGood f cs (more ++ picks)) (sym parts) (good_append f (conditions (take k facts)) (conditions (x ∷ [])) more picks h g)

  -- ---- facts that are left out

  module _ (facts : List Fact) (first : ℕ) (positions : List ℕ) (h : HasAll f facts first positions) where
    one_left : (k : ℕ) (more : List Con) → k < length facts → (has positions (first + k) ≡ true → ⊥) → IsAsGood f (conditions (take k facts)) more
        → IsAsGood f (conditions (take (k + 1) facts)) more
    one_left k more within none g =
        let x = get_or facts k any_fact in
        let got : slice_get facts k ≡ Some x = slice_get-get_or facts k any_fact within in
        let read : x ≡ get_or facts k x = get_or_default facts k any_fact x within in
        subst (λ l. IsAsGood f (conditions (take (k + 1) facts)) l) (append-nil more)
        (one_more facts k x more [] within read g
        (left_fact x (λ c e. not_by (list_any f (variables_in c)) (λ t. none (h.all k c (got ∙ ap Some e) t)))))

    some_left : (n k m : ℕ) (more : List Con) → m ≡ k + n → m ≤ length facts → ((q : ℕ) → k ≤ q → q < m → has positions (first + q) ≡ true → ⊥)
        → IsAsGood f (conditions (take k facts)) more → IsAsGood f (conditions (take m facts)) more
    some_left zero k m more e within none g =
        let same : k ≡ m = omega (arith, e) in subst (λ l. IsAsGood f (conditions (take l facts)) more) same g
    some_left (suc n) k m more e within none g =
        some_left n (k + 1) m more (omega (arith, e)) within (λ q low high. none q (omega (arith, low)) high)
        (one_left k more (omega (arith, e, within)) (none k (omega arith) (omega (arith, e))) g)

    pub all_left : (k : ℕ) (old new : List Con) → k ≤ length facts → ((q : ℕ) → k ≤ q → q < length facts → has positions (first + q) ≡ true → ⊥)
        → IsPart f (take k facts) old new → IsPart f facts old new
    all_left k old new within none p = record {
      more = p.more;
      put = p.put;
      good = subst (λ fs. IsAsGood f (conditions fs) p.more) (take_all (length facts) facts (omega arith))
          (some_left (length facts - k) k (length facts) p.more (omega (arith, within)) (omega arith) none p.good);
    }

    -- those before the next one that is picked, and that one
    pub next_picked : (k place : ℕ) (x : Fact) (old made new : List Con) → k ≤ place → place < length facts → x ≡ get_or facts place x
        → ((q : ℕ) → k ≤ q → q < place → has positions (first + q) ≡ true → ⊥) → new ≡ made ++ conditions (x ∷ [])
        → IsPart f (take k facts) old made → IsPart f (take (place + 1) facts) old new
    next_picked k place x old made new le within read none put p = record {
      more = p.more ++ conditions (x ∷ []);
      put = put ∙ (ap (λ l. l ++ conditions (x ∷ [])) p.put ∙ append_assoc old p.more (conditions (x ∷ [])));
      good = one_more facts place x p.more (conditions (x ∷ [])) within read
          (some_left (place - k) k place p.more (omega (arith, le)) (omega (arith, within)) none p.good)
          (kept_fact x (λ c e. h.whole place c (slice_get_read facts (length facts) place x refl within read ∙ ap Some e)));
    }

-- ---- positions that ascend

unseen : (ps : List ℕ) (q : ℕ) → ((j : ℕ) → j < length ps → get_or ps j 0 ≡ q → ⊥) → has ps q ≡ true → ⊥
unseen [] q h e = false≢true e
unseen (p ∷ ps) q h e =
    or_split (nat_eq q p) (has ps q) e (λ k. h 0 (omega arith) (sym (eqb-true q p k)))
    (λ k. unseen ps q (λ j lt is. h (suc j) (omega (arith, lt)) is) k)

-- those that were read are before the next one, or past the end
abbrev pub AreRead : List ℕ → ℕ → ℕ → ℕ → ℕ → Type 0
AreRead ps i first next count = (j : ℕ) → j < i → get_or ps j 0 < first + count → get_or ps j 0 < first + next

module _ (ps : List ℕ) (i first next count : ℕ) (h : AreRead ps i first next count) where
  -- none between the next one and the one that is read then
  between_by : (place q j : ℕ) → IsNonDecreasing ps → i < length ps → get_or ps i 0 ≡ first + place → place < count → next ≤ q → q < place
      → j < length ps → get_or ps j 0 ≡ first + q → (j < i) ⊎ (i ≤ j) → ⊥
  between_by place q j up within is below low high lt at (inl before) =
      let r = h j before (omega (arith, at, high, below)) in omega (arith, r, at, low)
  between_by place q j up within is below low high lt at (inr later) =
      let r = up i j 0 later lt in omega (arith, r, at, is, high)

  pub none_between : (place q : ℕ) → IsNonDecreasing ps → i < length ps → get_or ps i 0 ≡ first + place → place < count → next ≤ q → q < place
      → has ps (first + q) ≡ true → ⊥
  none_between place q up within is below low high =
      unseen ps (first + q) (λ j lt at. between_by place q j up within is below low high lt at (cases_lt j i))

  -- none past the last
  pub none_past : (q : ℕ) → length ps ≤ i → next ≤ q → q < count → has ps (first + q) ≡ true → ⊥
  none_past q end low high =
      unseen ps (first + q) (λ j lt at. let r = h j (omega (arith, lt, end)) (omega (arith, at, high)) in omega (arith, r, at, low))

  -- one more is read
  read_by : (more j : ℕ) → next ≤ more → (get_or ps i 0 < first + count → get_or ps i 0 < first + more) → j < i + 1
      → get_or ps j 0 < first + count → (j < i) ⊎ (i ≤ j) → get_or ps j 0 < first + more
  read_by more j le own lt below (inl before) = let r = h j before below in omega (arith, r, le)
  read_by more j le own lt below (inr later) =
      let same : j ≡ i = omega (arith, lt, later) in
      subst (λ k. get_or ps k 0 < first + more) (sym same) (own (subst (λ k. get_or ps k 0 < first + count) same below))

  pub read_more : (more : ℕ) → next ≤ more → (get_or ps i 0 < first + count → get_or ps i 0 < first + more) → AreRead ps (i + 1) first more count
  read_more more le own j lt below = read_by more j le own lt below (cases_lt j i)

-- ---- the loop over positions

pub record HasRead (facts : List Fact) (first : ℕ) (ps : List ℕ) (old : List Con) (i next : ℕ) (made : List Con) : Type 0 where
  pub within : next ≤ length facts
  pub read : AreRead ps i first next (length facts)
  pub picked : (f : Atom → Bool) → HasAll f facts first ps → IsPart f (take next facts) old made

module _ (facts : List Fact) (first : ℕ) (ps : List ℕ) (old : List Con) (i next : ℕ) (made : List Con) (h : HasRead facts first ps old i next made) where
  -- a position that doesn't count
  pub passed : (after : ℕ) (new : List Con) → after ≡ next → new ≡ made
      → (get_or ps i 0 < first + length facts → get_or ps i 0 < first + next) → HasRead facts first ps old (i + 1) after new
  passed after new same unchanged own = record {
    within = (let w = h.within in omega (arith, same, w));
    read = subst (λ n. AreRead ps (i + 1) first n (length facts)) (sym same)
        (read_more ps i first next (length facts) h.read next (omega arith) own);
    picked = λ f g.
        subst (λ n. IsPart f (take n facts) old new) (sym same) (subst (IsPart f (take next facts) old) (sym unchanged) (h.picked f g));
  }

  -- one whose fact is picked
  pub one_picked : (place after : ℕ) (x : Fact) (put new : List Con) → IsNonDecreasing ps → i < length ps → get_or ps i 0 ≡ first + place → next ≤ place
      → place < length facts → x ≡ get_or facts place x → put ≡ made ++ conditions (x ∷ []) → after ≡ place + 1 → new ≡ put
      → HasRead facts first ps old (i + 1) after new
  one_picked place after x put new up within is low high read e a n = record {
    within = omega (arith, a, high);
    read = read_more ps i first next (length facts) h.read after (omega (arith, a, low)) (λ below. omega (arith, is, a));
    picked = λ f g.
        subst (λ m. IsPart f (take m facts) old new) (sym a)
        (next_picked f facts first ps g next place x old made new low high read
        (λ q l m. none_between ps i first next (length facts) h.read place q up within is high l m) (n ∙ e) (h.picked f g));
  }

  pub all_read : length ps ≤ i → (f : Atom → Bool) → HasAll f facts first ps → IsPart f facts old made
  all_read past f g =
      all_left f facts first ps g next old made h.within (λ q l m. none_past ps i first next (length facts) h.read q past l m) (h.picked f g)
