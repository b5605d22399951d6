-- Keys that are gathered from a goal.
use Rattle.std.proofs.Common.{◌≡◌, ℕ, zero, suc, ◌+◌, ◌≤◌, ◌<◌, Bool, true, false, ◌||◌, cond, List, [], ◌∷◌, ◌++◌, length, take, drop, get_or, map}
use Rattle.std.proofs.Common.{sym, ap, ◌∙◌, subst, refl, arith, append_assoc, append-nil, slice_get}
use Rattle.std.specs.Prelude.{Some, nat_eq, slice_index_or}
use Rattle.std.specs.List.{list_any, list_all, fold}
use Rattle.std.specs.Ordering.{nat_cmp}
use Rattle.std.specs.BTreeSet.{contains, UpdatesBy}
use Rattle.std.specs.BTreeMap.{is_at}
use Rattle.std.proofs.lemmas.Bool.{false≢true, eqb-true, eq-eqb}
use Rattle.std.proofs.lemmas.List.{take_all, take_more, take-append-le}
use Rattle.std.proofs.lemmas.List.Folds.{list_any-append}
use Rattle.std.proofs.lemmas.Option.{slice_get_within}
use Rattle.std.proofs.lemmas.Map.Lookups.{exact_unsigned}
use Rattle.std.proofs.lemmas.Map.Views.{tells_apart}
use Rattle.sail_types.specs.declared.numbers.Atom.{Atom}
use Rattle.sail_types.specs.declared.numbers.Con.{Con}
use Rattle.linear.specs.Choices.{variables_in, with_atom}
use Rattle.value_indices.specs.declared.notes.Fact.{Fact}
use Rattle.value_indices.specs.declared.notes.Fact.TheVariants as Y
use Rattle.obligations.proofs.Same.{gathered}
use Rattle.fact_index.specs.declared.gathering.Keys.{Keys}
use Rattle.fact_index.specs.Filed.{has, IsIn, IsFiled}
use Rattle.fact_index.specs.Gathered.{AreListed, Puts, AreClosed}
use Rattle.fact_index.specs.Keys.{key_of, keys_of, keys_at, keys_at_each, keys_of_option}
use Rattle.fact_index.specs.Picked.{IsWhole, HasAll}
use Rattle.fact_index.proofs.Filing.{has_taken}
use Rattle.fact_index.proofs.Bools.{or_left, or_right, or_split, and_both}

-- ---- keys that are put

has_last : (ks : List ℕ) (k q : ℕ) → k ≡ q → has (ks ++ k ∷ []) q ≡ true
has_last ks k q e =
    list_any-append (nat_eq q) ks (k ∷ []) ∙ or_right (has ks q) (has (k ∷ []) q) (or_left (nat_eq q k) false (eq-eqb q k (sym e)))

has_one : (k q : ℕ) → has (k ∷ []) q ≡ true → k ≡ q
has_one k q e = or_split (nat_eq q k) false e (λ h. sym (eqb-true q k h)) (λ h. absurd (false≢true h))

pub stays : (a b : Keys) (ks : List ℕ) → Puts a b ks → (k : ℕ) → has a.list k ≡ true → has b.list k ≡ true
stays a b ks h k e =
    ap (λ l. has l k) h.grown.1 ∙ (list_any-append (nat_eq k) a.list h.grown.0 ∙ or_left (has a.list k) (has h.grown.0 k) e)

pub puts_nothing : (a : Keys) → Puts a a []
puts_nothing a = record { listed = λ l. l; grown = ([], sym (append-nil a.list)); put = λ l k e. absurd (false≢true e) }

pub puts_then : (a b c : Keys) (ks ls : List ℕ) → Puts a b ks → Puts b c ls → Puts a c (ks ++ ls)
puts_then a b c ks ls h g = record {
  listed = λ l. g.listed (h.listed l);
  grown = (h.grown.0 ++ g.grown.0, g.grown.1 ∙ (ap (λ l. l ++ g.grown.0) h.grown.1 ∙ append_assoc a.list h.grown.0 g.grown.0));
  put = λ l k e.
      or_split (has ks k) (has ls k) (sym (list_any-append (nat_eq k) ks ls) ∙ e) (λ m. stays b c ls g k (h.put l k m)) (λ m. g.put (h.listed l) k m);
}

-- a key of a list
pub puts_next : (a b c : Keys) (ks : List ℕ) (i k : ℕ) → i < length ks → k ≡ get_or ks i 0 → Puts a b (take i ks) → Puts b c (k ∷ [])
    → Puts a c (take (i + 1) ks)
puts_next a b c ks i k within read h g =
    subst (Puts a c) (sym (take_more ks i 0 within ∙ ap (λ n. take i ks ++ n ∷ []) (sym read))) (puts_then a b c (take i ks) (k ∷ []) h g)

pub puts_all : (a b : Keys) (ks : List ℕ) (i : ℕ) → length ks ≤ i → Puts a b (take i ks) → Puts a b ks
puts_all a b ks i past h = subst (Puts a b) (take_all i ks past) h

each_append : (facts : List Fact) (ps qs : List ℕ) → keys_at_each facts (ps ++ qs) ≡ keys_at_each facts ps ++ keys_at_each facts qs
each_append facts [] qs = refl
each_append facts (p ∷ ps) qs =
    ap (λ l. keys_at facts p ++ l) (each_append facts ps qs) ∙ sym (append_assoc (keys_at facts p) (keys_at_each facts ps) (keys_at_each facts qs))

-- the keys of the fact at one of several positions
pub puts_fact : (facts : List Fact) (a b c : Keys) (ps : List ℕ) (i p : ℕ) → i < length ps → p ≡ get_or ps i 0 → Puts a b (keys_at_each facts (take i ps))
    → Puts b c (keys_at facts p) → Puts a c (keys_at_each facts (take (i + 1) ps))
puts_fact facts a b c ps i p within read h g =
    let parts : keys_at_each facts (take (i + 1) ps) ≡ keys_at_each facts (take i ps) ++ keys_at facts p =
    ap (keys_at_each facts) (take_more ps i 0 within ∙ ap (λ n. take i ps ++ n ∷ []) (sym read))
    ∙ (each_append facts (take i ps) (p ∷ []) ∙ ap (λ l. keys_at_each facts (take i ps) ++ l) (append-nil (keys_at facts p))) in
    subst (Puts a c) (sym parts) (puts_then a b c (keys_at_each facts (take i ps)) (keys_at facts p) h g)

pub puts_facts : (facts : List Fact) (a b : Keys) (ps : List ℕ) (i : ℕ) → length ps ≤ i → Puts a b (keys_at_each facts (take i ps))
    → Puts a b (keys_at_each facts ps)
puts_facts facts a b ps i past h = subst (λ l. Puts a b (keys_at_each facts l)) (take_all i ps past) h

-- one key, which is new or was there
module _ (a b : Keys) (k : ℕ) (u : UpdatesBy nat_cmp (nat_cmp k) a.seen b.seen true) where
  seen_by : (q : ℕ) (t : Bool) → is_at (nat_cmp k) q ≡ t → cond t true (contains nat_cmp a.seen q) ≡ true → AreListed a
      → (k ≡ q → has b.list q ≡ true) → (has a.list q ≡ true → has b.list q ≡ true) → has b.list q ≡ true
  seen_by q true e s l own old = own (tells_apart exact_unsigned k q e)
  seen_by q false e s l own old = old (l q s)

  seen_list : (own : has b.list k ≡ true) (old : (q : ℕ) → has a.list q ≡ true → has b.list q ≡ true) → AreListed a → AreListed b
  seen_list own old l q s =
      seen_by q (is_at (nat_cmp k) q) refl (sym (u.0 q) ∙ s) l (λ e. ap (λ n. has b.list n) (sym e) ∙ own) (old q)

  pub put_new : b.list ≡ a.list ++ k ∷ [] → Puts a b (k ∷ [])
  put_new e = record {
    listed = seen_list (ap (λ l. has l k) e ∙ has_last a.list k k refl)
        (λ q h. ap (λ l. has l q) e ∙ (list_any-append (nat_eq q) a.list (k ∷ []) ∙ or_left (has a.list q) (has (k ∷ []) q) h));
    grown = (k ∷ [], e);
    put = λ l q h. ap (λ l2. has l2 q) e ∙ has_last a.list k q (has_one k q h);
  }

  pub put_again : b.list ≡ a.list → contains nat_cmp a.seen k ≡ true → Puts a b (k ∷ [])
  put_again e s = record {
    listed = λ l. seen_list (ap (λ m. has m k) e ∙ l k s) (λ q h. ap (λ m. has m q) e ∙ h) l;
    grown = ([], e ∙ sym (append-nil a.list));
    put = λ l q h. ap (λ m. has m q) e ∙ (ap (λ n. has a.list n) (sym (has_one k q h)) ∙ l k s);
  }

-- the positions under keys, one key after the other
pub under_more : (lists : List (List ℕ)) (ks : List ℕ) (i k : ℕ) (old new : List ℕ) → i < length ks → k ≡ get_or ks i 0
    → new ≡ old ++ slice_index_or lists k [] → ((q p : ℕ) → has (take i ks) q ≡ true → IsIn lists q p → has old p ≡ true)
    → (q p : ℕ) → has (take (i + 1) ks) q ≡ true → IsIn lists q p → has new p ≡ true
under_more lists ks i k old new within read put h q p e m =
    let under = slice_index_or lists k [] in
    ap (λ l. has l p) put
    ∙ (list_any-append (nat_eq p) old under
    ∙ or_split (has (take i ks) q) (has (get_or ks i 0 ∷ []) q) (has_taken ks i q within e) (λ t. or_left (has old p) (has under p) (h q p t m))
    (λ t. or_right (has old p) (has under p) (ap (λ n. has (slice_index_or lists n []) p) (read ∙ has_one (get_or ks i 0) q t) ∙ m)))

-- ---- keys from which no fact leads to others

each_has : (facts : List Fact) (ps : List ℕ) (p k : ℕ) → has ps p ≡ true → has (keys_at facts p) k ≡ true → has (keys_at_each facts ps) k ≡ true
each_has facts [] p k e h = absurd (false≢true e)
each_has facts (q ∷ ps) p k e h =
    list_any-append (nat_eq k) (keys_at facts q) (keys_at_each facts ps)
    ∙ or_split (nat_eq p q) (has ps p) e
    (λ m. or_left (has (keys_at facts q) k) (has (keys_at_each facts ps) k) (ap (λ n. has (keys_at facts n) k) (sym (eqb-true p q m)) ∙ h))
    (λ m. or_right (has (keys_at facts q) k) (has (keys_at_each facts ps) k) (each_has facts ps p k m h))

module _ (lists : List (List ℕ)) (facts : List Fact) where
  -- so many of the first were followed
  abbrev pub AreFollowed : ℕ → List ℕ → Type 0
  AreFollowed i keys = (k p : ℕ) → has (take i keys) k ≡ true → IsIn lists k p → (q : ℕ) → has (keys_at facts p) q ≡ true → has keys q ≡ true

  pub none_followed : (keys : List ℕ) → AreFollowed 0 keys
  none_followed keys k p e h q m = absurd (false≢true e)

  followed_by : (a b : Keys) (i k key p q : ℕ) → AreFollowed i a.list → AreListed a → Puts a b (keys_at_each facts (slice_index_or lists key []))
      → (has (take i a.list) k || has (key ∷ []) k) ≡ true → IsIn lists k p → has (keys_at facts p) q ≡ true → has b.list q ≡ true
  followed_by a b i k key p q f l g e h m =
      or_split (has (take i a.list) k) (has (key ∷ []) k) e
      (λ t. stays a b (keys_at_each facts (slice_index_or lists key [])) g q (f k p t h q m))
      (λ t. g.put l q (each_has facts (slice_index_or lists key []) p q (ap (λ n. has (slice_index_or lists n []) p) (has_one key k t) ∙ h) m))

  pub followed_more : (a b : Keys) (i key : ℕ) → i < length a.list → key ≡ get_or a.list i 0 → AreFollowed i a.list
      → AreListed a → Puts a b (keys_at_each facts (slice_index_or lists key [])) → AreFollowed (i + 1) b.list
  followed_more a b i key within read f l g k p e h q m =
      let first : take (i + 1) b.list ≡ take i a.list ++ key ∷ [] =
      ap (take (i + 1)) g.grown.1
      ∙ (take-append-le (i + 1) a.list g.grown.0 (omega (arith, within)) ∙ (take_more a.list i 0 within ∙ ap (λ n. take i a.list ++ n ∷ []) (sym read))) in
      followed_by a b i k key p q f l g (sym (list_any-append (nat_eq k) (take i a.list) (key ∷ [])) ∙ (ap (λ l2. has l2 k) (sym first) ∙ e)) h m

  pub all_followed : (from keys : List ℕ) (i : ℕ) → length keys ≤ i → AreFollowed i keys → ((k : ℕ) → has from k ≡ true → has keys k ≡ true)
      → AreClosed lists facts from keys
  all_followed from keys i past f begun = record {
    begun = begun;
    closed = λ k p e h q m. f k p (ap (λ l. has l k) (take_all i keys past) ∙ e) h q m;
  }

-- ---- the variables of these keys

any_key : (k : ℕ) (xs : List Atom) → has (map key_of xs) k ≡ list_any (λ a. nat_eq k (key_of a)) xs
any_key k [] = refl
any_key k (x ∷ xs) = ap (λ b. nat_eq k (key_of x) || b) (any_key k xs)

has_key : (c : Con) (k : ℕ) → has (keys_of c) k ≡ list_any (λ a. nat_eq k (key_of a)) (variables_in c)
has_key c k = any_key k (fold with_atom [] (variables_in c)) ∙ gathered (variables_in c) (λ a. nat_eq k (key_of a))

all_by : (g : ℕ → Bool) (vs : List Atom) → ((k : ℕ) → list_any (λ a. nat_eq k (key_of a)) vs ≡ true → g k ≡ true) → list_all (λ a. g (key_of a)) vs ≡ true
all_by g [] h = refl
all_by g (v ∷ vs) h =
    and_both (g (key_of v)) (list_all (λ a. g (key_of a)) vs)
    (h (key_of v) (or_left (nat_eq (key_of v) (key_of v)) (list_any (λ a. nat_eq (key_of v) (key_of a)) vs) (eq-eqb (key_of v) (key_of v) refl)))
    (all_by g vs (λ k e. h k (or_right (nat_eq k (key_of v)) (list_any (λ a. nat_eq k (key_of a)) vs) e)))

all_kind : (g : ℕ → Bool) (c : Con) → ((k : ℕ) → has (keys_of c) k ≡ true → g k ≡ true) → list_all (λ a. g (key_of a)) (variables_in c) ≡ true
all_kind g c h = all_by g (variables_in c) (λ k e. h k (has_key c k ∙ e))

some_by : {G : Type 0} (g : ℕ → Bool) (vs : List Atom) → list_any (λ a. g (key_of a)) vs ≡ true
    → ((k : ℕ) → list_any (λ a. nat_eq k (key_of a)) vs ≡ true → g k ≡ true → G) → G
some_by g [] e h = absurd (false≢true e)
some_by g (v ∷ vs) e h =
    or_split (g (key_of v)) (list_any (λ a. g (key_of a)) vs) e
    (λ m. h (key_of v) (or_left (nat_eq (key_of v) (key_of v)) (list_any (λ a. nat_eq (key_of v) (key_of a)) vs) (eq-eqb (key_of v) (key_of v) refl)) m)
    (λ m. some_by g vs m (λ k t. h k (or_right (nat_eq k (key_of v)) (list_any (λ a. nat_eq k (key_of a)) vs) t)))

some_key : {G : Type 0} (g : ℕ → Bool) (c : Con) → list_any (λ a. g (key_of a)) (variables_in c) ≡ true
    → ((k : ℕ) → has (keys_of c) k ≡ true → g k ≡ true → G) → G
some_key g c e h = some_by g (variables_in c) e (λ k m. h k (has_key c k ∙ m))

-- those with one of these keys
abbrev pub is_among : List ℕ → Atom → Bool
is_among keys a = has keys (key_of a)

module _ (lists : List (List ℕ)) (facts : List Fact) (from keys positions : List ℕ) (filed : IsFiled facts lists) (closed : AreClosed lists facts from keys)
    (all : (k p : ℕ) → has keys k ≡ true → IsIn lists k p → has positions p ≡ true) where
  pub goal_among : (goal : Con) → from ≡ keys_of goal → list_all (is_among keys) (variables_in goal) ≡ true
  goal_among goal e = all_kind (has keys) goal (λ k h. closed.begun k (ap (λ l. has l k) e ∙ h))

  there : (p k : ℕ) (c : Con) → slice_get facts p ≡ Some (Y.Holds c) → has (keys_of c) k ≡ true → has (keys_at facts p) k ≡ true
  there p k c got h = ap (λ o. has (keys_of_option o) k) got ∙ h

  pub whole_among : (p : ℕ) (c : Con) → slice_get facts p ≡ Some (Y.Holds c) → IsWhole (is_among keys) c
  whole_among p c got e =
      some_key (has keys) c e
      (λ k h m. all_kind (has keys) c (λ q t. closed.closed k p m (filed p k (there p k c got h)) q (there p q c got t)))

  pub all_among : (p : ℕ) (c : Con) → slice_get facts p ≡ Some (Y.Holds c) → list_any (is_among keys) (variables_in c) ≡ true → has positions p ≡ true
  all_among p c got e = some_key (has keys) c e (λ k h m. all k p m (filed p k (there p k c got h)))

  -- of some facts
  pub part_among : (part : List Fact) (first : ℕ) → ((p : ℕ) (x : Fact) → slice_get part p ≡ Some x → slice_get facts (first + p) ≡ Some x)
      → HasAll (is_among keys) part first positions
  part_among part first at = record {
    whole = λ p c got. whole_among (first + p) c (at p (Y.Holds c) got);
    all = λ p c got. all_among (first + p) c (at p (Y.Holds c) got);
  }

-- ---- parts of facts

pub taken_at : {A : Type 0} (n : ℕ) (xs : List A) (p : ℕ) (x : A) → slice_get (take n xs) p ≡ Some x → slice_get xs p ≡ Some x
taken_at zero xs p x e = absurd (let h = slice_get_within [] p x e in omega (arith, h))
taken_at (suc n) [] p x e = e
taken_at (suc n) (y ∷ xs) zero x e = e
taken_at (suc n) (y ∷ xs) (suc p) x e = taken_at n xs p x e

pub dropped_at : {A : Type 0} (n : ℕ) (xs : List A) (p : ℕ) (x : A) → slice_get (drop n xs) p ≡ Some x → slice_get xs (n + p) ≡ Some x
dropped_at zero xs p x e = let n : 0 + p ≡ p = omega arith in ap (slice_get xs) n ∙ e
dropped_at (suc n) [] p x e = e
dropped_at (suc n) (y ∷ xs) p x e = let m : suc n + p ≡ suc (n + p) = omega arith in ap (slice_get (y ∷ xs)) m ∙ dropped_at n xs p x e
