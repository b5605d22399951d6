-- `foreach`, beside its run.
use Rattle.std.proofs.Common.{◌≡◌, ℕ, zero, suc, pos, ℤ, Bool, true, false, ◌&&◌, List, [], ◌∷◌, ◌++◌, Option, Some, None, refl, sym, ap, ◌∙◌, subst, arith}
use Rattle.std.specs.Prelude.{◌^◌, ◌≤◌, ◌≤ℤ◌, int_le, nat_abs}
use Rattle.std.proofs.lemmas.Bool.{le-leb, leb-true}
use Rattle.std.proofs.lemmas.Int.{ints}
use Rattle.std.proofs.lemmas.List.{append-nil}
use Rattle.sail_base.specs.declared.place.Place.{Place}
use Rattle.sail_types.specs.Limits.{is_small, largest}
use Rattle.sail_types.specs.Numbers.{Assignment, form_true, true_in}
use Rattle.sail_types.specs.Sums.{constant, variable}
use Rattle.sail_types.specs.declared.numbers.Con.{Con, fold-roll-Con}
use Rattle.sail_types.specs.declared.numbers.Con.TheOpen as F
use Rattle.sail_types.specs.declared.numbers.Con.TheVariants as C
use Rattle.sail_types.specs.declared.numbers.Num.{Num}
use Rattle.sail_types.specs.declared.values.Value.TheVariants as V
use Rattle.sail_types.proofs.Substituted.{number_constant}
use Rattle.sail_core.specs.Making.{World, integer, nothing}
use Rattle.sail_core.specs.Meaning.{count_turns, foreach, from_before, in_span, kind_meaning, next_of}
use Rattle.sail_core.specs.Run.{Now, Run, gives, if_so, local, stuck, tick, within, ◌then◌}
use Rattle.sail_core.specs.Values.{int_typ}
use Rattle.sail_core.specs.declared.patterns.Literal.TheVariants as L
use Rattle.sail_core.specs.declared.tree.Counting.{Counting}
use Rattle.sail_core.specs.declared.tree.Counting.TheVariants.{Down, Up}
use Rattle.sail_core.specs.declared.tree.Kind.TheVariants as K
use Rattle.value_indices.specs.Opening.{at_most, between}
use Rattle.value_indices.specs.Steps.{Walk, assume, bind, fresh_named, give, scoped}
use Rattle.value_indices.specs.declared.indices.Indices.{Indices}
use Rattle.value_indices.specs.declared.indices.Indices.TheOpen as W
use Rattle.value_indices.specs.declared.indices.Indices.TheVariants as I
use Rattle.value_indices.specs.declared.notes.Fact.{Fact}
use Rattle.pattern_leaves.specs.Settings.{Scope, bound}
use Rattle.call_arguments.specs.declared.aims.Aim.{Aim}
use Rattle.call_arguments.specs.declared.aims.Aim.TheVariants as Aims
use Rattle.call_notes.specs.Ends.{integer_number}
use Rattle.expression_steps.specs.Expressions.{kind_walk}
use Rattle.expression_steps.specs.Parts.{Part, number_before, number_walk, numbers_behind, numbers_walk}
use Rattle.expression_steps.specs.Statements.{bounds_of, counted, turn_begun, turn_named, turns_walk}
use Rattle.checked_meaning.specs.Items.{Item}
use Rattle.value_laws.specs.Belonging.{Integers, standing}
use Rattle.value_laws.specs.Known.{Agree, Point}
use Rattle.value_laws.proofs.Meanings.{integers_same}
use Rattle.value_laws.proofs.Numbers.{at_most_is, variable_is}
use Rattle.value_laws.proofs.Steps.{between_goes, fresh_called, same}
use Rattle.value_laws.proofs.Values.{meant_is}
use Rattle.soundness_steps.specs.Points.{Later}
use Rattle.soundness_steps.proofs.Points.{agree_on, later_on, no_later}
use Rattle.soundness_steps.specs.Works.{Scene, here, is_value}
use Rattle.soundness_steps.specs.States.{Sound}
use Rattle.soundness_steps.specs.Steps.{AllMet, Beside, Grows, Stands, Walks}
use Rattle.soundness_steps.specs.Values.{AimSteady, Comes, InScope, Is}
use Rattle.soundness_steps.proofs.Scenes.{under_names}
use Rattle.soundness_steps.proofs.Steps.{binds, given_back, grown, grown_later, known_walk, means, met_front, owes, stands_on, walks_mean, walks_on, walks_then}
use Rattle.soundness_forms.specs.Forms.{Fine, FitsSuffice}
use Rattle.soundness_forms.specs.Worlds.{Surrounds}
use Rattle.soundness_forms.proofs.Casts.{comes_is, no_guard}
use Rattle.soundness_forms.proofs.Constants.{literal_has, literal_sized}
use Rattle.soundness_forms.proofs.Growth.{grows_assume, grows_bind, grows_give}
use Rattle.soundness_forms.proofs.Tests.{NumberIs, integers}
use Rattle.soundness_forms.proofs.Worlds.{surrounds_more, surrounds_on}
use Rattle.soundness_joins.proofs.Loops.{unit_is}
use Rattle.soundness_joins.proofs.Pieces.{integer_sized, settled_so, walk_regrouped}
use Rattle.soundness_joins.proofs.Turns.{Safe, loop_ends, piece_safe, safe_given, safe_stopped, safe_then, tick_safe, z}
use Rattle.model_state.specs.declared.cause.Cause.TheVariants.{WorkLimit}

-- ---- integers

small_between : (a b i : ℤ) → is_small a ≡ true → is_small b ≡ true → int_le a i ≡ true → int_le i b ≡ true → is_small i ≡ true
unfolding largest
small_between a b i h k low high =
    let x = leb-true (nat_abs a) (2 ^ 126) h in
    let y = leb-true (nat_abs b) (2 ^ 126) k in
    le-leb (nat_abs i) (2 ^ 126) (within_these a b i x y (le_from a i low) (le_from i b high))
  where
    le_from : (u v : ℤ) → int_le u v ≡ true → u ≤ℤ v
    le_from u v e = grind (arith, ints)

    within_these : (a b i : ℤ) → nat_abs a ≤ 2 ^ 126 → nat_abs b ≤ 2 ^ 126 → a ≤ℤ i → i ≤ℤ b → nat_abs i ≤ 2 ^ 126
    within_these a b i x y low high = omega (arith, ints)

-- where a loop is, from its first turn on
abbrev IsBehind : Counting → ℤ → ℤ → Type 0
IsBehind Up from i = int_le from i ≡ true
IsBehind Down from i = int_le i from ≡ true

next_behind : (way : Counting) (from i by : ℤ) → int_le (pos 1) by ≡ true → IsBehind way from i → IsBehind way from (next_of way i by)
next_behind Up from i by h k = grind (arith, ints)
next_behind Down from i by h k = grind (arith, ints)

begins_behind : (way : Counting) (from : ℤ) → IsBehind way from from
begins_behind Up from = grind (arith, ints)
begins_behind Down from = grind (arith, ints)

-- ---- walks

grows_fresh : (name : List ℕ) → Grows (fresh_named name)
unfolding fresh_named
grows_fresh name = record { onward = λ facts n. omega arith; more = λ facts n. []; extends = λ facts n. sym (append-nil facts) }

grows_between : (low t high : Num) → Grows (between low t high)
unfolding between
grows_between low t high = grows_bind (assume (at_most low t)) (λ x. assume (at_most t high)) (grows_assume (at_most low t)) (λ x.
    grows_assume (at_most t high))

grows_counted : (way : Counting) (from v to : Num) → Grows (counted way from v to)
grows_counted Up from v to = grows_between from v to
grows_counted Down from v to = grows_between to v from

pub turn_grows : (name : List ℕ) (way : Counting) (from to : Num) → Grows (turn_begun name way from to)
turn_grows name way from to = grows_bind (fresh_named name) (turn_named name way from to) (grows_fresh name) (λ v.
    grows_bind (counted way from (variable v) to) (λ t. give (bound name (I.Integer (variable v)) ∷ [])) (grows_counted way from (variable v) to)
    (λ t. grows_give (bound name (I.Integer (variable v)) ∷ [])))

-- what is given goes on
give_then : {q : Scene} {n : ℕ} {f : Point n} {facts : List Fact} {A C D : Type 0} (k : A → Walk C) (a : A) {c : Run Item D}
    {Holds : (m : ℕ) → Point m → C → D → Type 0} → Beside q n f facts (k a) c Holds → Beside q n f facts (bind (give a) k) c Holds
unfolding bind give
give_then k a b = record { run = λ now stands met ok. b.run now stands met ok }

one_true : (nu : Assignment) (c : Con) → true_in nu (C.All (c ∷ [])) ≡ (true_in nu c && true)
one_true nu c = ap (true_in nu) (sym (C.rolls-All (c ∷ []))) ∙ fold-roll-Con Bool (form_true nu) (F.All (c ∷ []))

true_one : (b : Bool) → (b && true) ≡ true → b ≡ true
true_one true h = h
true_one false h = h

module _ (q : Scene) (w : World Item) (scope : Scope) where
  -- the number of a part
  counts_then : (p : Part) (r : Run Item Item) → Fine q w false false p r → {n : ℕ} {f : Point n} {facts : List Fact} {A D : Type 0}
      (next : Option Num → Walk A) (go : ℤ → Run Item D) {Holds : (m : ℕ) → Point m → A → D → Type 0} → Surrounds q w f scope
      → ((m : ℕ) (g : Point m) (fs : List Fact) (o : Option Num) (i : ℤ) → Later f g → NumberIs q g o i → Beside q m g fs (next o) (go i) Holds)
      → Beside q n f facts (bind (number_walk p (here q) scope) next) (r then λ x. integer (z q) x then go) Holds
  counts_then p r h {n} {f} {facts} next go there k = walk_regrouped (p.walk (here q) scope Aims.Free) (integer_number p.place) next
      (binds (λ i. bind (integer_number p.place i) next) (λ x. integer (z q) x then go)
      (h.walks q.names q.may_fall no_guard n f facts scope Aims.Free there tt) (λ m g fs i x l c.
      binds next go (integers q p.place i x (comes_is p.is_nested p.never_ends Aims.Free i x c)) (λ j d gs o t l2 is. k j d gs o t (later_on l l2) is)))

module _ (q : Scene) (name : List ℕ) (i : ℤ) (small : is_small i ≡ true) where
  abbrev held : Item
  held = (z q).fixed int_typ (V.Integer i)

  -- the name of a turn
  integer_is : {n : ℕ} {f : Point n} (v : ℕ) → ((g : Integers) → Agree f g → g v ≡ i) → Is q.set q.work f (I.Integer (variable v)) held
  integer_is {n} {f} v h =
      let types = q.set.around.types in
      let past = q.set.past in
      let own = q.work.types in
      let k = literal_has q.set q.work f (L.Integer i) small in record {
        has = record {
          meaning = k.meaning;
          is_so = k.is_so;
          steady = λ g a.
              meant_is types (standing past g) own (I.Integer (variable v)) (W.Integer (variable v)) (I.rolls-Integer (variable v))
              ∙ integers_same types past own g g (variable v) (constant i) (variable_is past g v ∙ h g a ∙ sym (number_constant (standing past g) i))
              ∙ sym (meant_is types (standing past g) own (I.Integer (constant i)) (W.Integer (constant i)) (I.rolls-Integer (constant i)))
              ∙ k.steady g a;
        };
        typ = λ exact g a. literal_sized types q.work.own g (L.Integer i) ∙ integer_sized types q.work.own g (constant i)
            ∙ sym (integer_sized types q.work.own g (variable v));
      }

  module _ {n : ℕ} {f : Point n} (low high : Num) (a b : ℤ) (la : NumberIs q f (Some low) a) (hb : NumberIs q f (Some high) b)
      (least : int_le a i ≡ true) (most : int_le i b ≡ true) where
    between_walks : {m : ℕ} {g : Point m} {fs : List Fact} (v : ℕ) → Later f g → ((h : Integers) → Agree g h → h v ≡ i)
        → Walks q m g fs (between low (variable v) high) (λ j p t. Unit {0})
    between_walks v l h = walks_mean (λ j p t k. tt) (known_walk {q = q} (between_goes low (variable v) high
        (λ g e. (λ j. int_le (la.1 g (agree_on l e) j) ((variable_is q.set.past g v ∙ h g e) j)) ∙ least)
        (λ g e. (λ j. int_le ((variable_is q.set.past g v ∙ h g e) j) (hb.1 g (agree_on l e) j)) ∙ most)))

  module _ {n : ℕ} {f : Point n} (from to : Num) (a b : ℤ) (fa : NumberIs q f (Some from) a) (tb : NumberIs q f (Some to) b) where
    counted_walks : (way : Counting) → IsBehind way a i → in_span way i b ≡ true → {m : ℕ} {g : Point m} {fs : List Fact} (v : ℕ) → Later f g
        → ((h : Integers) → Agree g h → h v ≡ i) → Walks q m g fs (counted way from (variable v) to) (λ j p t. Unit {0})
    counted_walks Up h k v l is = between_walks from to a b fa tb h k v l is
    counted_walks Down h k v l is = between_walks to from b a tb fa k h v l is

    begun_walks : (way : Counting) → IsBehind way a i → in_span way i b ≡ true → {m : ℕ} {g : Point m} {fs : List Fact} → Later f g
        → Walks q m g fs (turn_begun name way from to) (λ j p found. InScope q.set q.work p found (is_value name held ∷ []))
    begun_walks way h k l =
        walks_on (turn_named name way from to) (known_walk {q = q} (fresh_called name i)) (λ j p gs v l2 is.
        walks_on (λ t. give (bound name (I.Integer (variable v)) ∷ [])) (counted_walks way h k v (later_on l l2) is) (λ j2 p2 gs2 t l3 u.
        given_back (bound name (I.Integer (variable v)) ∷ []) ((refl, integer_is v (λ g e. is g (agree_on l3 e))), tt)))

span_small : (way : Counting) (a b i : ℤ) → is_small a ≡ true → is_small b ≡ true → IsBehind way a i → in_span way i b ≡ true → is_small i ≡ true
span_small Up a b i h k low high = small_between a b i h k low high
span_small Down a b i h k high low = small_between b a i k h low high

-- ---- turns

module _ (q : Scene) (w : World Item) (scope : Scope) (name : List ℕ) (way : Counting) (body : Part) (r : Run Item Item) (hr : Fine q w false false body r)
    (n : ℕ) (f : Point n) (facts : List Fact) (there : Surrounds q w f scope) (from to : Num) (a b by : ℤ)
    (fa : NumberIs q f (Some from) a) (tb : NumberIs q f (Some to) b) (step : int_le (pos 1) by ≡ true) where
  abbrev turn : Walk Indices
  turn = bind (turn_begun name way from to) (λ found. body.walk (here q) (found ++ scope) Aims.Free)

  turn_runs : (i : ℤ) → IsBehind way a i → in_span way i b ≡ true
      → Beside q n f facts turn (within (local name ((z q).fixed int_typ (V.Integer i)) ∷ []) r) (λ m g j x. Unit {0})
  turn_runs i h k =
      let small = span_small way a b i fa.0 tb.0 h k in
      let x = (z q).fixed int_typ (V.Integer i) in
      walks_then (λ found. body.walk (here q) (found ++ scope) Aims.Free) (begun_walks q name i small from to a b fa tb way h k (no_later f))
      (λ m g fs found l is. under_names (is_value name x ∷ []) (local name x ∷ []) ((refl, refl), tt)
      (means (λ j p d y l2 c. tt)
      (hr.walks (is_value name x ∷ q.names) q.may_fall no_guard m g fs (found ++ scope) Aims.Free
      (surrounds_more q w g scope found (is_value name x ∷ []) is (surrounds_on q w scope l there)) tt)))

  module _ (before : Now Item) (stands : Stands q.set q.work before.opened f facts) (met : AllMet q (turn facts n).notes) where
    abbrev next_turn : ℕ → ℤ → Run Item Item
    next_turn turns i = count_turns (z q) before turns name way (next_of way i by) b by r

    one_turn : (turns : ℕ) (i : ℤ) → IsBehind way a i → ((now : Now Item) → Sound q now → Safe q (λ x. x ≡ nothing (z q)) (next_turn turns i now))
        → (t : Bool) → in_span way i b ≡ t → (now : Now Item) → Sound q now → Safe q (λ x. x ≡ nothing (z q))
        (if_so (tick then λ u. within (local name ((z q).fixed int_typ (V.Integer i)) ∷ []) (from_before (z q) before r) then λ x. next_turn turns i)
        (gives (nothing (z q))) t now)
    one_turn turns i h again true e now s = safe_then _ (tick_safe now.ticks now s) (λ t now1 u s1.
        safe_then _ (piece_safe q {Good = λ x. Unit {0}} before stands (turn_runs i h e) met (λ p x k. tt) now1 s1) (λ x now2 u2 s2. again now2 s2))
    one_turn turns i h again false e now s = safe_given (nothing (z q)) now refl s

    count_safe : (turns : ℕ) (i : ℤ) → IsBehind way a i → (now : Now Item) → Sound q now
        → Safe q (λ x. x ≡ nothing (z q)) (count_turns (z q) before turns name way i b by r now)
    count_safe zero i h now s = safe_stopped WorkLimit now
    count_safe (suc turns) i h now s =
        one_turn turns i h (λ now1 s1. count_safe turns (next_of way i by) (next_behind way a i by step h) now1 s1) (in_span way i b) refl now s

    foreach_safe : Sound q before → Safe q (λ x. x ≡ nothing (z q)) (foreach (z q) name way a b by r before)
    foreach_safe s = subst (λ t. Safe q (λ x. x ≡ nothing (z q)) (if_so (count_turns (z q) before (suc before.ticks) name way a b by r) stuck t before))
        (sym step)
        (count_safe (suc before.ticks) a (begins_behind way a) before s)

  turns_run : Beside q n f facts (bind (scoped turn) (λ i. give I.Unit)) ((z q).inside (foreach (z q) name way a b by r)) (λ m g i x. Is q.set q.work g i x)
  unfolding bind scoped give
  turns_run = record {
    run = λ now stands met ok.
        let g = grows_bind (turn_begun name way from to) (λ found. body.walk (here q) (found ++ scope) Aims.Free) (turn_grows name way from to)
        (λ found. hr.grows (here q) (found ++ scope) Aims.Free) in
        let l = grown_later f (g.onward facts n) in
        loop_ends now.opened (grown f (g.onward facts n)) l (stands_on l stands) (nothing (z q)) (unit_is q)
        (foreach_safe now stands (met_front q (turn facts n).notes [] met) ok);
  }

-- ---- the whole

module _ (q : Scene) (w : World Item) (scope : Scope) (place : Place) (name : List ℕ) (way : Counting) (a b c body : Part) (ra rb rc rbody : Run Item Item)
    (ha : Fine q w false false a ra) (hb : Fine q w false false b rb) (hc : Fine q w false false c rc) (hbody : Fine q w false false body rbody) where
  abbrev last : Option (List Num) → Walk Indices
  last numbers = turns_walk place name way body (here q) scope (bounds_of numbers)

  abbrev Holds : (m : ℕ) → Point m → Indices → Item → Type 0
  Holds m g i x = Is q.set q.work g i x

  number_on : {n m : ℕ} {f : Point n} {g : Point m} (t : Num) (i : ℤ) → Later f g → NumberIs q f (Some t) i → NumberIs q g (Some t) i
  number_on t i l h = (h.0, λ k e. h.1 k (agree_on l e))

  counting : {n : ℕ} {f : Point n} {facts : List Fact} (t u v : Num) (from to by : ℤ) → Surrounds q w f scope → NumberIs q f (Some t) from
      → NumberIs q f (Some u) to → NumberIs q f (Some v) by
      → Beside q n f facts (last (Some (t ∷ u ∷ v ∷ []))) ((z q).inside (foreach (z q) name way from to by rbody)) Holds
  counting t u v from to by there ft uo vb =
      walks_then _ (owes place (Some (at_most (constant (pos 1)) v)) []) (λ m g fs x l owed.
      let nu = standing q.set.past g.integers in
      let step : int_le (pos 1) by ≡ true =
      sym (at_most_is nu (constant (pos 1)) v ∙ (λ j. int_le (number_constant nu (pos 1) j) (vb.1 g.integers (agree_on l (same g)) j)))
      ∙ true_one (true_in nu (at_most (constant (pos 1)) v)) (sym (one_true nu (at_most (constant (pos 1)) v)) ∙ owed g.integers (same g)) in
      turns_run q w scope name way body rbody hbody m g fs (surrounds_on q w scope l there) t u from to by (number_on t from l ft) (number_on u to l uo) step)

  fourth : {n : ℕ} {f : Point n} {facts : List Fact} (t u : Num) (from to : ℤ) → Surrounds q w f scope → NumberIs q f (Some t) from
      → NumberIs q f (Some u) to → (o : Option Num) (by : ℤ) → NumberIs q f o by
      → Beside q n f facts (bind (numbers_behind (give (Some [])) o) (λ ns. bind (number_before u ns) (λ ms. bind (number_before t ms) last)))
      ((z q).inside (foreach (z q) name way from to by rbody)) Holds
  fourth t u from to there ft uo None by is = absurd is
  fourth t u from to there ft uo (Some v) by is =
      let second = λ (ms : Option (List Num)). bind (number_before t ms) last in
      let third = λ (ns : Option (List Num)). bind (number_before u ns) second in
      walk_regrouped (give (Some [])) (number_before v) third
      (give_then (λ ns. bind (number_before v ns) third) (Some [])
      (give_then third (Some (v ∷ []))
      (give_then second (Some (u ∷ v ∷ []))
      (give_then last (Some (t ∷ u ∷ v ∷ [])) (counting t u v from to by there ft uo is)))))

  third : {n : ℕ} {f : Point n} {facts : List Fact} (t : Num) (from : ℤ) → Surrounds q w f scope → NumberIs q f (Some t) from
      → (o : Option Num) (to : ℤ) → NumberIs q f o to
      → Beside q n f facts (bind (numbers_behind (numbers_walk (c ∷ []) (here q) scope) o) (λ ms. bind (number_before t ms) last))
      (rc then λ x. integer (z q) x then λ by. (z q).inside (foreach (z q) name way from to by rbody)) Holds
  third t from there ft None to is = absurd is
  third t from there ft (Some u) to is =
      let more = λ (ms : Option (List Num)). bind (number_before t ms) last in
      walk_regrouped (numbers_walk (c ∷ []) (here q) scope) (number_before u) more
      (walk_regrouped (number_walk c (here q) scope) (numbers_behind (give (Some []))) (λ ns. bind (number_before u ns) more)
      (counts_then q w scope c rc hc (λ o. bind (numbers_behind (give (Some [])) o) (λ ns. bind (number_before u ns) more))
      (λ by. (z q).inside (foreach (z q) name way from to by rbody)) there (λ m g fs o by l k.
      fourth t u from to (surrounds_on q w scope l there) (number_on t from l ft) (number_on u to l is) o by k)))

  second : {n : ℕ} {f : Point n} {facts : List Fact} → Surrounds q w f scope → (o : Option Num) (from : ℤ) → NumberIs q f o from
      → Beside q n f facts (bind (numbers_behind (numbers_walk (b ∷ c ∷ []) (here q) scope) o) last)
      (rb then λ y. integer (z q) y then λ to. rc then λ x. integer (z q) x then λ by. (z q).inside (foreach (z q) name way from to by rbody)) Holds
  second there None from is = absurd is
  second there (Some t) from is =
      walk_regrouped (numbers_walk (b ∷ c ∷ []) (here q) scope) (number_before t) last
      (walk_regrouped (number_walk b (here q) scope) (numbers_behind (numbers_walk (c ∷ []) (here q) scope)) (λ ms. bind (number_before t ms) last)
      (counts_then q w scope b rb hb (λ o. bind (numbers_behind (numbers_walk (c ∷ []) (here q) scope) o) (λ ms. bind (number_before t ms) last))
      (λ to. rc then λ x. integer (z q) x then λ by. (z q).inside (foreach (z q) name way from to by rbody)) there (λ m g fs o to l k.
      third t from (surrounds_on q w scope l there) (number_on t from l is) o to k)))

  pub foreach_fine : FitsSuffice → {n : ℕ} {f : Point n} {facts : List Fact} (k : ℕ) (aim : Aim) → Surrounds q w f scope → AimSteady q.set q.work f aim
      → Beside q n f facts (kind_walk place k (K.Foreach name way) (a ∷ b ∷ c ∷ body ∷ []) (here q) scope aim)
      (kind_meaning (z q) w place k (K.Foreach name way) (ra ∷ rb ∷ rc ∷ rbody ∷ [])) (λ m g i x. Comes q.set q.work g false false false aim i x)
  foreach_fine fit k aim there st = settled_so fit place aim st
      (walk_regrouped (number_walk a (here q) scope) (numbers_behind (numbers_walk (b ∷ c ∷ []) (here q) scope)) last
      (counts_then q w scope a ra ha (λ o. bind (numbers_behind (numbers_walk (b ∷ c ∷ []) (here q) scope) o) last)
      (λ from. rb then λ y. integer (z q) y then λ to. rc then λ x. integer (z q) x then λ by. (z q).inside (foreach (z q) name way from to by rbody)) there
      (λ m g fs o from l k. second (surrounds_on q w scope l there) o from k)))
