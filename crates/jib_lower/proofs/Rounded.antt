-- In rounds an order of directions is found that has each behind those that it asks, where there is one.
use Rattle.std.proofs.Common.{◌≡◌, ◌∙◌, ℕ, zero, suc, ◌+◌, ◌≤◌, Bool, true, false, List, [], ◌∷◌, ◌++◌, length, refl, sym, ap, subst, arith}
use Rattle.std.proofs.Common.{append-nil, append_assoc, if◌then◌else◌}
use Rattle.std.specs.Prelude.{◌||◌, nat_eq, slice_get}
use Rattle.std.proofs.lemmas.Bool.Decides.{nat_tests}
use Rattle.jib_lower.specs.Crossings.{is_in, list_at}
use Rattle.jib_lower.specs.Order.{AreSame, Ordered, all_among, asks_before}
use Rattle.jib_lower.specs.Rounds.{all_left, all_placed, in_rounds, is_ready, with_left, with_placed}
use Rattle.jib_lower.proofs.Basics.{and_left, and_right, both}

apart : {X : Type 0} {b : Bool} → b ≡ true → b ≡ false → X
apart h k = let e = sym h ∙ k in cc

eq_same : (m n : ℕ) → nat_eq m n ≡ true → m ≡ n
eq_same m n h = grind (arith, nat_tests)

eq_not : (m n : ℕ) → nat_eq m n ≡ false → m ≡ n → ⊥
eq_not m n h e = grind (arith, nat_tests)

self_eq : (n : ℕ) → nat_eq n n ≡ true
self_eq n = grind (arith, nat_tests)

-- ---- members

or_false : (a : Bool) → (a || false) ≡ a
or_false true = refl
or_false false = refl

or_left : (a b : Bool) → a ≡ true → (a || b) ≡ true
or_left true b h = refl
or_left false b h = apart h refl

or_right : (a b : Bool) → b ≡ true → (a || b) ≡ true
or_right true b h = refl
or_right false b h = h

or_case : {X : Type 0} (a b : Bool) → (a || b) ≡ true → (a ≡ true → X) → (b ≡ true → X) → X
or_case true b h f g = f refl
or_case false b h f g = g h

in_behind : (d : ℕ) (xs ys : List ℕ) → is_in d (xs ++ ys) ≡ (is_in d xs || is_in d ys)
in_behind d [] ys = refl
in_behind d (x ∷ xs) ys = by (nat_eq d x) (in_behind d xs ys)
  where
    by : (b : Bool) → is_in d (xs ++ ys) ≡ (is_in d xs || is_in d ys) → (b || is_in d (xs ++ ys)) ≡ ((b || is_in d xs) || is_in d ys)
    by true more = refl
    by false more = more

long : (xs : List ℕ) (x : ℕ) → length (xs ++ x ∷ []) ≡ length xs + 1
long [] x = refl
long (y ∷ xs) x = let e : length (xs ++ x ∷ []) ≡ length xs + 1 = long xs x in omega (arith, e)

many : (xs ys : List ℕ) → length (xs ++ ys) ≡ length xs + length ys
many [] ys = omega arith
many (x ∷ xs) ys = let e : length (xs ++ ys) ≡ length xs + length ys = many xs ys in omega (arith, e)

among_more : (ds xs ys : List ℕ) → ((e : ℕ) → is_in e xs ≡ true → is_in e ys ≡ true) → all_among ds xs ≡ true → all_among ds ys ≡ true
among_more [] xs ys more h = refl
among_more (d ∷ ds) xs ys more h =
    both (is_in d ys) (all_among ds ys) (more d (and_left (is_in d xs) (all_among ds xs) h))
    (among_more ds xs ys more (and_right (is_in d xs) (all_among ds xs) h))

placed_facts : (a b c r : Bool) → ((a || (b || false)) || (c || r)) ≡ (a || (c || (b || r)))
placed_facts true b c r = refl
placed_facts false true true r = refl
placed_facts false true false r = refl
placed_facts false false c r = refl

left_facts : (a b c r : Bool) → (a || ((c || (b || false)) || r)) ≡ (a || (c || (b || r)))
left_facts true b c r = refl
left_facts false b true r = refl
left_facts false true false r = refl
left_facts false false false r = refl

module _ (calls : List (List ℕ)) where
  abbrev asked : ℕ → List ℕ
  asked d = list_at (slice_get calls d)

  -- ---- one direction, and one round: the same directions, as many, and each behind those that it asks

  one_in : (d : ℕ) (placed left : List ℕ) (x : ℕ) (r : Bool)
      → (is_in d (with_placed calls placed x) || (is_in d (with_left calls placed left x) || r)) ≡ (is_in d placed || (is_in d left || (nat_eq d x || r)))
  one_in d placed left x r = by (is_ready calls placed x)
    where
      by : (b : Bool) → (is_in d (if b then placed ++ x ∷ [] else placed) || (is_in d (if b then left else left ++ x ∷ []) || r))
          ≡ (is_in d placed || (is_in d left || (nat_eq d x || r)))
      by true = ap (λ y. y || (is_in d left || r)) (in_behind d placed (x ∷ [])) ∙ placed_facts (is_in d placed) (nat_eq d x) (is_in d left) r
      by false = ap (λ y. is_in d placed || (y || r)) (in_behind d left (x ∷ [])) ∙ left_facts (is_in d placed) (nat_eq d x) (is_in d left) r

  round_in : (d : ℕ) (placed left ds : List ℕ)
      → (is_in d (all_placed calls placed ds) || is_in d (all_left calls placed left ds)) ≡ (is_in d placed || (is_in d left || is_in d ds))
  round_in d placed left [] = ap (λ b. is_in d placed || b) (sym (or_false (is_in d left)))
  round_in d placed left (x ∷ ds) =
      round_in d (with_placed calls placed x) (with_left calls placed left x) ds ∙ one_in d placed left x (is_in d ds)

  one_many : (placed left : List ℕ) (x : ℕ) → length (with_placed calls placed x) + length (with_left calls placed left x) ≡ length placed + length left + 1
  one_many placed left x = by (is_ready calls placed x)
    where
      by : (b : Bool) → length (if b then placed ++ x ∷ [] else placed) + length (if b then left else left ++ x ∷ []) ≡ length placed + length left + 1
      by true = let e = long placed x in omega (arith, e)
      by false = let e = long left x in omega (arith, e)

  round_many : (placed left ds : List ℕ)
      → length (all_placed calls placed ds) + length (all_left calls placed left ds) ≡ length placed + length left + length ds
  round_many placed left [] = omega arith
  round_many placed left (x ∷ ds) =
      let e = round_many (with_placed calls placed x) (with_left calls placed left x) ds in
      let f = one_many placed left x in omega (arith, e, f)

  asks_behind : (before xs : List ℕ) (d : ℕ) → asks_before calls before xs ≡ true → all_among (asked d) (before ++ xs) ≡ true
      → asks_before calls before (xs ++ d ∷ []) ≡ true
  asks_behind before [] d h k = both (all_among (asked d) before) true (subst (λ ys. all_among (asked d) ys ≡ true) (append-nil before) k) refl
  asks_behind before (x ∷ xs) d h k =
      let a : Bool = all_among (asked x) before in
      let rest : Bool = asks_before calls (before ++ x ∷ []) xs in
      both a (asks_before calls (before ++ x ∷ []) (xs ++ d ∷ [])) (and_left a rest h)
      (asks_behind (before ++ x ∷ []) xs d (and_right a rest h)
      (subst (λ ys. all_among (asked d) ys ≡ true) (sym (append_assoc before (x ∷ []) xs)) k))

  one_asks : (placed : List ℕ) (x : ℕ) → asks_before calls [] placed ≡ true → asks_before calls [] (with_placed calls placed x) ≡ true
  one_asks placed x h = by (is_ready calls placed x) refl
    where
      by : (b : Bool) → is_ready calls placed x ≡ b → asks_before calls [] (if b then placed ++ x ∷ [] else placed) ≡ true
      by true k = asks_behind [] placed x h k
      by false k = h

  round_asks : (placed ds : List ℕ) → asks_before calls [] placed ≡ true → asks_before calls [] (all_placed calls placed ds) ≡ true
  round_asks placed [] h = h
  round_asks placed (x ∷ ds) h = round_asks (with_placed calls placed x) ds (one_asks placed x h)

  -- ---- where as many are left as before, none was ready, and none was placed

  few : (placed left ds : List ℕ) → length (all_left calls placed left ds) ≤ length left + length ds
  few placed left [] = omega arith
  few placed left (x ∷ ds) = by (is_ready calls placed x) (few (placed ++ x ∷ []) left ds) (few placed (left ++ x ∷ []) ds)
    where
      by : (b : Bool) → length (all_left calls (placed ++ x ∷ []) left ds) ≤ length left + length ds
          → length (all_left calls placed (left ++ x ∷ []) ds) ≤ length (left ++ x ∷ []) + length ds
          → length (all_left calls (if b then placed ++ x ∷ [] else placed) (if b then left else left ++ x ∷ []) ds) ≤ length left + length (x ∷ ds)
      by true e g = omega (arith, e)
      by false e g = let f = long left x in omega (arith, g, f)

  record Stuck (placed ds : List ℕ) : Type 0 where
    none_ready : (d : ℕ) → is_in d ds ≡ true → is_ready calls placed d ≡ false
    same : all_placed calls placed ds ≡ placed

  stuck : (placed left ds : List ℕ) → length (all_left calls placed left ds) ≡ length left + length ds → Stuck placed ds
  stuck placed left [] h = record { none_ready = λ d e. apart e refl; same = refl }
  stuck placed left (x ∷ ds) h = by (is_ready calls placed x) refl h (λ k. stuck placed (left ++ x ∷ []) ds k)
    where
      Behind : Type 0
      Behind = length (all_left calls placed (left ++ x ∷ []) ds) ≡ length (left ++ x ∷ []) + length ds → Stuck placed ds

      by : (b : Bool) → is_ready calls placed x ≡ b
          → length (all_left calls (if b then placed ++ x ∷ [] else placed) (if b then left else left ++ x ∷ []) ds) ≡ length left + length (x ∷ ds)
          → Behind → Stuck placed (x ∷ ds)
      by true r k more = let e = few (placed ++ x ∷ []) left ds in absurd (omega (arith, e, k))
      by false r k more =
          let f = long left x in
          let rest : Stuck placed ds = more (omega (arith, k, f)) in
          record {
            none_ready = λ d e. or_case (nat_eq d x) (is_in d ds) e (λ is. ap (is_ready calls placed) (eq_same d x is) ∙ r) (rest.none_ready d);
            same = ap (λ b. all_placed calls (if b then placed ++ x ∷ [] else placed) ds) r ∙ rest.same;
          }

  -- ---- all rounds: the same directions, and as many

  rounds_in : (n d : ℕ) (placed left : List ℕ) → is_in d (in_rounds calls n placed left) ≡ (is_in d placed || is_in d left)
  rounds_in zero d placed left = in_behind d placed left
  rounds_in (suc n) d placed left =
      by (nat_eq (length (all_left calls placed [] left)) (length left)) (rounds_in n d (all_placed calls placed left) (all_left calls placed [] left))
    where
      by : (b : Bool) → is_in d (in_rounds calls n (all_placed calls placed left) (all_left calls placed [] left))
          ≡ (is_in d (all_placed calls placed left) || is_in d (all_left calls placed [] left))
          → is_in d (if b then all_placed calls placed left ++ all_left calls placed [] left
          else in_rounds calls n (all_placed calls placed left) (all_left calls placed [] left)) ≡ (is_in d placed || is_in d left)
      by true more = in_behind d (all_placed calls placed left) (all_left calls placed [] left) ∙ round_in d placed [] left
      by false more = more ∙ round_in d placed [] left

  rounds_many : (n : ℕ) (placed left : List ℕ) → length (in_rounds calls n placed left) ≡ length placed + length left
  rounds_many zero placed left = many placed left
  rounds_many (suc n) placed left =
      by (nat_eq (length (all_left calls placed [] left)) (length left)) (rounds_many n (all_placed calls placed left) (all_left calls placed [] left))
    where
      by : (b : Bool) → length (in_rounds calls n (all_placed calls placed left) (all_left calls placed [] left))
          ≡ length (all_placed calls placed left) + length (all_left calls placed [] left)
          → length (if b then all_placed calls placed left ++ all_left calls placed [] left
          else in_rounds calls n (all_placed calls placed left) (all_left calls placed [] left)) ≡ length placed + length left
      by true more =
          let e = many (all_placed calls placed left) (all_left calls placed [] left) in
          let f = round_many placed [] left in omega (arith, e, f)
      by false more = let f = round_many placed [] left in omega (arith, more, f)

  -- ---- where there is an order, none is left

  module _ (made other : List ℕ) (same : AreSame other made) (asks : asks_before calls [] other ≡ true) where
    module _ (placed left : List ℕ) (all : (d : ℕ) → (is_in d placed || is_in d left) ≡ is_in d made)
        (none : (d : ℕ) → is_in d left ≡ true → is_ready calls placed d ≡ false) where
      -- each of the order is ready, those before it being placed
      each_ready : (before rest : List ℕ) → ((e : ℕ) → is_in e before ≡ true → is_in e placed ≡ true) → asks_before calls before rest ≡ true
          → ((e : ℕ) → is_in e rest ≡ true → is_in e made ≡ true) → (e : ℕ) → is_in e rest ≡ true → is_ready calls placed e ≡ true
      each_ready before [] below h members e there = apart there refl
      each_ready before (x ∷ rest) below h members e there =
          or_case (nat_eq e x) (is_in e rest) there (λ is. ap (is_ready calls placed) (eq_same e x is) ∙ ready)
          (each_ready (before ++ x ∷ []) rest more (and_right (all_among (asked x) before) (asks_before calls (before ++ x ∷ []) rest) h)
          (λ d k. members d (or_right (nat_eq d x) (is_in d rest) k)) e)
        where
          ready : is_ready calls placed x ≡ true
          ready = among_more (asked x) before placed below (and_left (all_among (asked x) before) (asks_before calls (before ++ x ∷ []) rest) h)

          here : is_in x placed ≡ true
          here =
              or_case (is_in x placed) (is_in x left) (all x ∙ members x (or_left (nat_eq x x) (is_in x rest) (self_eq x))) (λ k. k)
              (λ k. apart ready (none x k))

          more : (d : ℕ) → is_in d (before ++ x ∷ []) ≡ true → is_in d placed ≡ true
          more d k =
              or_case (is_in d before) (is_in d (x ∷ [])) (sym (in_behind d before (x ∷ [])) ∙ k) (below d)
              (λ q. ap (λ y. is_in y placed) (eq_same d x (sym (or_false (nat_eq d x)) ∙ q)) ∙ here)

      none_left : left ≡ []
      none_left = by left refl
        where
          by : (ds : List ℕ) → left ≡ ds → ds ≡ []
          by [] e = refl
          by (x ∷ ds) e =
              let there : is_in x left ≡ true = ap (is_in x) e ∙ or_left (nat_eq x x) (is_in x ds) (self_eq x) in
              let ready : is_ready calls placed x ≡ true =
              each_ready [] other (λ d k. apart k refl) asks (λ d k. sym (same d) ∙ k) x
              (same x ∙ sym (all x) ∙ or_right (is_in x placed) (is_in x left) there) in
              apart ready (none x there)

    rounds_ask : (n : ℕ) (placed left : List ℕ) → length left ≤ n → asks_before calls [] placed ≡ true
        → ((d : ℕ) → (is_in d placed || is_in d left) ≡ is_in d made) → asks_before calls [] (in_rounds calls n placed left) ≡ true
    rounds_ask zero placed [] le h all = subst (λ ds. asks_before calls [] ds ≡ true) (sym (append-nil placed)) h
    rounds_ask zero placed (x ∷ left) le h all = absurd (omega (arith, le))
    rounds_ask (suc n) placed left le h all =
        by (nat_eq (length (all_left calls placed [] left)) (length left)) refl
        (λ less. rounds_ask n (all_placed calls placed left) (all_left calls placed [] left) less (round_asks placed left h)
        (λ d. round_in d placed [] left ∙ all d))
      where
        next : List ℕ
        next = all_left calls placed [] left

        below : (a b m : ℕ) → a ≤ 0 + b → (a ≡ b → ⊥) → b ≤ suc m → a ≤ m
        below a b m p q r = grind (arith, p, q, r)

        by : (b : Bool) → nat_eq (length next) (length left) ≡ b
            → (length next ≤ n → asks_before calls [] (in_rounds calls n (all_placed calls placed left) next) ≡ true)
            → asks_before calls [] (if b then all_placed calls placed left ++ next else in_rounds calls n (all_placed calls placed left) next) ≡ true
        by true k more =
            let same_many : length next ≡ length left = eq_same (length next) (length left) k in
            let here : Stuck placed left = stuck placed [] left (omega (arith, same_many)) in
            let none : left ≡ [] = none_left placed left all here.none_ready in
            subst (λ ds. asks_before calls [] (all_placed calls placed ds ++ all_left calls placed [] ds) ≡ true) (sym none)
            (subst (λ ds. asks_before calls [] ds ≡ true) (sym (append-nil placed)) h)
        by false k more =
            let fewer : length next ≤ 0 + length left = few placed [] left in
            let other : length next ≡ length left → ⊥ = eq_not (length next) (length left) k in
            more (below (length next) (length left) n fewer other le)

  pub rounds_ordered : (made order : List ℕ) → order ≡ in_rounds calls (length made) [] made → Ordered calls made order
  rounds_ordered made order is = record {
    same = λ d. ap (is_in d) is ∙ rounds_in (length made) d [] made;
    many =
        let e = rounds_many (length made) [] made in
        let f : length order ≡ length (in_rounds calls (length made) [] made) = ap length is in omega (arith, e, f);
    before = λ other same asks. ap (asks_before calls []) is ∙ rounds_ask made other same asks (length made) [] made (self (length made)) refl (λ d. refl);
  }
    where
      self : (n : ℕ) → n ≤ n
      self n = omega (arith)
