-- One lemma for each step of a walk, beside a run.
use Rattle.std.proofs.Common.{◌≡◌, ℕ, suc, ◌≤◌, true, List, [], ◌∷◌, ◌++◌, length, drop, Option, Some, None, refl, sym, ap, ◌∙◌, subst, arith}
use Rattle.sail_base.specs.declared.place.Place.{Place}
use Rattle.sail_types.specs.Numbers.{Assignment, Positive, true_in}
use Rattle.sail_types.specs.declared.numbers.Con.{Con}
use Rattle.sail_types.specs.declared.values.Value.{Value}
use Rattle.sail_core.specs.Run as R
use Rattle.sail_core.specs.declared.tree.Giver.{Giver}
use Rattle.sail_core.specs.Run.{Now, Ended, Run, goes_on, gives, needs, ◌then◌}
use Rattle.sail_types.proofs.SumNumbers.{some_same}
use Rattle.value_indices.specs.declared.indices.Indices.{Indices}
use Rattle.value_indices.specs.declared.notes.Fact.{Fact}
use Rattle.value_indices.specs.declared.notes.Fact.TheVariants as Y
use Rattle.value_indices.specs.declared.notes.Made.{Made}
use Rattle.value_indices.specs.Steps.{Note, made_note, given_note, Walk, conditions, give, bind, note, assume}
use Rattle.value_indices.specs.Steps.{next_variable, scoped, claimed, owe, conjunction, Conditions}
use Rattle.value_laws.specs.Belonging.{Integers, standing, has}
use Rattle.value_laws.specs.Known.{AllTrue, given_in, Point, Agree, Goes}
use Rattle.value_laws.proofs.Steps.{same}
use Rattle.checked_meaning.specs.Items.{Item, item, typs}
use Rattle.checked_meaning.specs.Checked.{Noted, checked, noting}
use Rattle.soundness_steps.specs.Points.{Later}
use Rattle.soundness_steps.proofs.Points.{agree_on, behind, later_on, no_later}
use Rattle.soundness_steps.specs.Works.{Work, Setting, Scene}
use Rattle.soundness_steps.specs.Noted.{EachNoted, IsSo, variables_given, with_given, is_made, MadeAs}
use Rattle.soundness_steps.specs.Covers.{AreSized, HasCase, Notes}
use Rattle.soundness_steps.specs.States.{Sound}
use Rattle.soundness_steps.specs.Steps.{AllMet, Stands, Reach, EndsWell, well_given, well_no, well_returned}
use Rattle.soundness_steps.specs.Steps.{well_thrown, well_stopped, Beside, Walks, Grows, Gives, no_walk}
use Rattle.soundness_steps.specs.Values.{AllTyped, IsTrue, IsMadeAs}

-- ---- notes in front and behind

pub met_front : (q : Scene) (ns ms : List Note) → AllMet q (ns ++ ms) → AllMet q ns
met_front q [] ms h = tt
met_front q (n ∷ ns) ms h = (h.0, met_front q ns ms h.1)

pub met_behind : (q : Scene) (ns ms : List Note) → AllMet q (ns ++ ms) → AllMet q ms
met_behind q [] ms h = h
met_behind q (n ∷ ns) ms h = met_behind q ns ms h.1

-- ---- points

pub stands_on : {set : Setting} {work : Work} {noted : Noted} {n m : ℕ} {f : Point n} {g : Point m} {facts : List Fact} → Later f g
    → Stands set work noted f facts
    → Stands set work noted g facts
stands_on l s = record { there = λ h a. s.there h (agree_on l a) }

reach_on : {set : Setting} {work : Work} {noted : Noted} {n m : ℕ} {f : Point n} {g : Point m} {k : ℕ} {facts : List Fact} {Holds : Point k → Type 0}
    → Later f g
    → Reach set work noted g k facts Holds → Reach set work noted f k facts Holds
reach_on l r = record { point = r.point; later = later_on l r.later; stands = r.stands; holds = r.holds }

-- ---- one behind the other

pub well_on : {q : Scene} {n m : ℕ} {f : Point n} {g : Point m} {k : ℕ} {facts : List Fact} {B : Type 0} {Holds : Point k → B → Type 0} {e : Ended Item B}
    → Later f g → EndsWell q g k facts Holds e → EndsWell q f k facts Holds e
well_on l (well_given x now r h) = well_given x now (reach_on l r) h
well_on l (well_no now f h) = well_no now f h
well_on l (well_returned v now b h) = well_returned v now b h
well_on l (well_thrown v now b h) = well_thrown v now b h
well_on l (well_stopped cause now) = well_stopped cause now

pub well_then : {q : Scene} {n : ℕ} {f : Point n} {m k : ℕ} {fs gs : List Fact} {B D : Type 0} {Holds : Point m → B → Type 0} {Then : Point k → D → Type 0}
    {e : Ended Item B} (c : B → Run Item D) → EndsWell q f m fs Holds e
    → ((x : B) (now : Now Item) (g : Point m) → Later f g → Stands q.set q.work now.opened g fs → Holds g x → Sound q now → EndsWell q g k gs Then (c x now))
    → EndsWell q f k gs Then (goes_on e c)
well_then c (well_given x now r h) next = well_on r.later (next x now r.point r.later r.stands r.holds h)
well_then c (well_no now a h) next = well_no now a h
well_then c (well_returned v now b h) next = well_returned v now b h
well_then c (well_thrown v now b h) next = well_thrown v now b h
well_then c (well_stopped cause now) next = well_stopped cause now

pub binds : {q : Scene} {n : ℕ} {f : Point n} {facts : List Fact} {A B C D : Type 0} {w : Walk A} (k : A → Walk C) {c : Run Item B} (d : B → Run Item D)
    {Holds : (m : ℕ) → Point m → A → B → Type 0} {Then : (m : ℕ) → Point m → C → D → Type 0} → Beside q n f facts w c Holds
    → ((m : ℕ) (g : Point m) (fs : List Fact) (a : A) (x : B) → Later f g → Holds m g a x → Beside q m g fs (k a) (d x) Then)
    → Beside q n f facts (bind w k) (c then d) Then
unfolding bind
binds {q} {n} {f} {facts} {w} k d b next = record {
  run = λ now stands met ok.
      well_then d (b.run now stands (met_front q (w facts n).notes _ met) ok) (λ x after g l s h ok2.
      (next (w facts n).next g (w facts n).facts (w facts n).value x l h).run after s (met_behind q (w facts n).notes _ met) ok2);
}

-- the walk goes on alone, the run behind it
pub walks_then : {q : Scene} {n : ℕ} {f : Point n} {facts : List Fact} {A C D : Type 0} {w : Walk A} (k : A → Walk C) {d : Run Item D}
    {Holds : (m : ℕ) → Point m → A → Type 0} {Then : (m : ℕ) → Point m → C → D → Type 0} → Walks q n f facts w Holds
    → ((m : ℕ) (g : Point m) (fs : List Fact) (a : A) → Later f g → Holds m g a → Beside q m g fs (k a) d Then)
    → Beside q n f facts (bind w k) d Then
unfolding bind
walks_then {q} {n} {f} {facts} {w} k b next = record {
  run = λ now stands met ok.
      let r = b.go now.opened stands (met_front q (w facts n).notes _ met) in
      well_on r.later ((next (w facts n).next r.point (w facts n).facts (w facts n).value r.later r.holds).run now r.stands
      (met_behind q (w facts n).notes _ met) ok);
}

pub walks_on : {q : Scene} {n : ℕ} {f : Point n} {facts : List Fact} {A C : Type 0} {w : Walk A} (k : A → Walk C)
    {Holds : (m : ℕ) → Point m → A → Type 0} {Then : (m : ℕ) → Point m → C → Type 0} → Walks q n f facts w Holds
    → ((m : ℕ) (g : Point m) (fs : List Fact) (a : A) → Later f g → Holds m g a → Walks q m g fs (k a) Then)
    → Walks q n f facts (bind w k) Then
unfolding bind
walks_on {q} {n} {f} {facts} {w} k b next = record {
  go = λ noted stands met.
      let r = b.go noted stands (met_front q (w facts n).notes _ met) in
      reach_on r.later ((next (w facts n).next r.point (w facts n).facts (w facts n).value r.later r.holds).go noted r.stands
      (met_behind q (w facts n).notes _ met));
}

-- the run goes on alone, the walk behind it
pub rests : {q : Scene} {n : ℕ} {f : Point n} {facts : List Fact} {A B : Type 0} {w : Walk A} (x : B) {Holds : (m : ℕ) → Point m → A → B → Type 0}
    → Walks q n f facts w (λ m g a. Holds m g a x) → Beside q n f facts w (gives x) Holds
rests x b = record { run = λ now stands met ok. well_given x now (b.go now.opened stands met) ok }

-- a piece beside no walk, then one beside this walk
pub runs_then : {q : Scene} {n : ℕ} {f : Point n} {facts : List Fact} {A B D : Type 0} (w : Walk A) {c : Run Item B} (d : B → Run Item D)
    {Holds : (m : ℕ) → Point m → Unit {0} → B → Type 0} {Then : (m : ℕ) → Point m → A → D → Type 0} → Beside q n f facts no_walk c Holds
    → ((g : Point n) (x : B) → Later f g → Holds n g tt x → Beside q n g facts w (d x) Then)
    → Beside q n f facts w (c then d) Then
unfolding give
runs_then w d b next = record {
  run = λ now stands met ok.
      well_then d (b.run now stands tt ok) (λ x after g l s h ok2. (next g x l h).run after s met ok2);
}

-- a piece beside this walk, then one beside no walk
pub runs_on : {q : Scene} {n : ℕ} {f : Point n} {facts : List Fact} {A B D : Type 0} {w : Walk A} {c : Run Item B} (d : B → Run Item D)
    {Holds : (m : ℕ) → Point m → A → B → Type 0} {Then : (m : ℕ) → Point m → A → D → Type 0} → Beside q n f facts w c Holds
    → ((m : ℕ) (g : Point m) (fs : List Fact) (a : A) (x : B) → Later f g → Holds m g a x → Beside q m g fs (give a) (d x) Then)
    → Beside q n f facts w (c then d) Then
unfolding give
runs_on {q} {n} {f} {facts} {w} d b next = record {
  run = λ now stands met ok.
      well_then d (b.run now stands met ok) (λ x after g l s h ok2.
      (next (w facts n).next g (w facts n).facts (w facts n).value x l h).run after s tt ok2);
}

-- a run that is the same at each moment
pub runs_as : {q : Scene} {n : ℕ} {f : Point n} {facts : List Fact} {A B : Type 0} {w : Walk A} {c d : Run Item B}
    {Holds : (m : ℕ) → Point m → A → B → Type 0} → ((now : Now Item) → c now ≡ d now) → Beside q n f facts w c Holds → Beside q n f facts w d Holds
runs_as {q} {n} {f} {facts} {w} {Holds} e b = record {
  run = λ now stands met ok.
      subst (EndsWell q f (w facts n).next (w facts n).facts (λ p x. Holds (w facts n).next p (w facts n).value x)) (e now) (b.run now stands met ok);
}

then_then : {A B C : Type 0} (e : Ended Item A) (k : A → Run Item B) (l : B → Run Item C) → goes_on (goes_on e k) l ≡ goes_on e (λ x. k x then l)
then_then (R.Gives x now) k l = refl
then_then (R.No now) k l = refl
then_then (R.Returns v now) k l = refl
then_then (R.Throws v now) k l = refl
then_then (R.Stops cause now) k l = refl
then_then R.Stuck k l = refl

pub regrouped : {q : Scene} {n : ℕ} {f : Point n} {facts : List Fact} {A B C D : Type 0} {w : Walk A} (c : Run Item B) (k : B → Run Item C)
    (l : C → Run Item D) {Holds : (m : ℕ) → Point m → A → D → Type 0} → Beside q n f facts w ((c then k) then l) Holds
    → Beside q n f facts w (c then λ x. k x then l) Holds
regrouped c k l b = runs_as (λ now. then_then (c now) k l) b

-- what holds may say less
pub means : {q : Scene} {n : ℕ} {f : Point n} {facts : List Fact} {A B : Type 0} {w : Walk A} {c : Run Item B}
    {Holds Then : (m : ℕ) → Point m → A → B → Type 0} → ((m : ℕ) (g : Point m) (a : A) (x : B) → Later f g → Holds m g a x → Then m g a x)
    → Beside q n f facts w c Holds → Beside q n f facts w c Then
means {q} {n} {f} {facts} {w} {Holds} {Then} say b = record {
  run = λ now stands met ok.
      means_well (λ g x l h. say (w facts n).next g (w facts n).value x l h) (b.run now stands met ok);
}
  where
    means_well : {q : Scene} {n : ℕ} {f : Point n} {m : ℕ} {fs : List Fact} {B : Type 0} {Holds Then : Point m → B → Type 0} {e : Ended Item B}
        → ((g : Point m) (x : B) → Later f g → Holds g x → Then g x) → EndsWell q f m fs Holds e → EndsWell q f m fs Then e
    means_well say (well_given x now r h) =
        well_given x now (record { point = r.point; later = r.later; stands = r.stands; holds = say r.point x r.later r.holds }) h
    means_well say (well_no now a h) = well_no now a h
    means_well say (well_returned v now b h) = well_returned v now b h
    means_well say (well_thrown v now b h) = well_thrown v now b h
    means_well say (well_stopped cause now) = well_stopped cause now

pub walks_mean : {q : Scene} {n : ℕ} {f : Point n} {facts : List Fact} {A : Type 0} {w : Walk A} {Holds Then : (m : ℕ) → Point m → A → Type 0}
    → ((m : ℕ) (g : Point m) (a : A) → Holds m g a → Then m g a) → Walks q n f facts w Holds → Walks q n f facts w Then
walks_mean {n} {facts} {w} say b = record {
  go = λ noted stands met.
      let r = b.go noted stands met in
      record { point = r.point; later = r.later; stands = r.stands; holds = say (w facts n).next r.point (w facts n).value r.holds };
}

-- ---- steps of a walk alone

pub given_back : {q : Scene} {n : ℕ} {f : Point n} {facts : List Fact} {A : Type 0} (a : A) {Holds : (m : ℕ) → Point m → A → Type 0}
    → Holds n f a → Walks q n f facts (give a) Holds
unfolding give
given_back {f} a h = record { go = λ noted stands met. record { point = f; later = no_later f; stands = stands; holds = h } }

-- a note that says nothing here
pub notes : {q : Scene} {n : ℕ} {f : Point n} {facts : List Fact} (make : List Fact → Note) → Walks q n f facts (note make) (λ m g t. Unit {0})
unfolding note
notes {f} make = record { go = λ noted stands met. record { point = f; later = no_later f; stands = stands; holds = tt } }

-- a walk of which it is known what holds behind it (`value_laws`): openings, and what they are made of
pub known_walk : {q : Scene} {n : ℕ} {f : Point n} {facts : List Fact} {A : Type 0} {w : Walk A} {Holds : Integers → A → Type 0}
    → Goes q.set.past n f facts w Holds → Walks q n f facts w (λ m p a. (g : Integers) → Agree p g → Holds g a)
known_walk {q} {n} {f} {facts} {w} k = record {
  go = λ noted stands met. record {
    point = k.goes.point;
    later = behind k.goes.later;
    stands = record {
      there = λ g a.
          let s = stands.there g (agree_on (behind k.goes.later) a) in
          record {
            numbers = s.numbers;
            true_there = k.goes.true_there g a s.true_there;
            given = subst (EachNoted noted g) (sym k.goes.given) s.given;
          };
    };
    holds = k.goes.holds;
  };
}

more_true : (mu : Assignment) (facts : List Fact) (c : Con) → AllTrue mu (conditions facts) → true_in mu c ≡ true
    → AllTrue mu (conditions (facts ++ Y.Holds c ∷ []))
more_true mu [] c h k = (k, tt)
more_true mu (Y.Holds d ∷ facts) c h k = (h.0, more_true mu facts c h.1 k)
more_true mu (Y.IsGiven v ∷ facts) c h k = more_true mu facts c h k

more_given : (facts : List Fact) (c : Con) → given_in (facts ++ Y.Holds c ∷ []) ≡ given_in facts
more_given [] c = refl
more_given (Y.Holds d ∷ facts) c = more_given facts c
more_given (Y.IsGiven v ∷ facts) c = ap (λ vs. v ∷ vs) (more_given facts c)

more_so : {past : Positive} {work : Work} {noted : Noted} {g : Integers} (facts : List Fact) (c : Con) → true_in (standing past g) c ≡ true
    → IsSo past work noted g facts → IsSo past work noted g (facts ++ Y.Holds c ∷ [])
more_so {past} {work} {noted} {g} facts c h s = record {
  numbers = s.numbers;
  true_there = more_true (standing past g) facts c s.true_there h;
  given = subst (EachNoted noted g) (sym (more_given facts c)) s.given;
}

-- a condition that is true comes into force
pub assumes : {q : Scene} {n : ℕ} {f : Point n} {facts : List Fact} (c : Con) → IsTrue q.set q.work f c → Walks q n f facts (assume c) (λ m g t. Unit {0})
unfolding assume
assumes {q} {f} {facts} c h = record {
  go = λ noted stands met. record {
    point = f;
    later = no_later f;
    stands = record { there = λ g a. more_so facts c (h g a) (stands.there g a) };
    holds = tt;
  };
}

-- the number of the next variable
pub next_is : {q : Scene} {n : ℕ} {f : Point n} {facts : List Fact} {C D : Type 0} (k : ℕ → Walk C) {d : Run Item D}
    {Then : (m : ℕ) → Point m → C → D → Type 0} → Beside q n f facts (k n) d Then → Beside q n f facts (bind next_variable k) d Then
unfolding bind next_variable
next_is k b = record { run = λ now stands met ok. b.run now stands met ok }

-- ---- what is owed is true

pub owes : {q : Scene} {n : ℕ} {f : Point n} {facts : List Fact} (place : Place) (some : Option Con) (cs : Conditions)
    → Walks q n f facts (owe place (some ∷ cs)) (λ m g t. IsTrue q.set q.work g (conjunction (some ∷ cs)))
unfolding owe
owes {f} place some cs = record {
  go = λ noted stands met. record {
    point = f;
    later = no_later f;
    stands = stands;
    holds = λ g a. met.0 g (stands.there g a).true_there;
  };
}

-- ---- a node makes a value of its operands

pub all_sized : (q : Scene) {n : ℕ} (f : Point n) (is : List Indices) (xs : List Item) (g : Integers) → Agree f g → AllTyped q.set q.work f is xs
    → AreSized q.set q.work g is (typs xs)
all_sized q f [] [] g a h = tt
all_sized q f (i ∷ is) (x ∷ xs) g a h = ((λ exact. h.0 exact g a), all_sized q f is xs g a h.1)
all_sized q f [] (x ∷ xs) g a h = absurd h
all_sized q f (i ∷ is) [] g a h = absurd h

-- what is found is there
found_well : {q : Scene} {n : ℕ} {f : Point n} {m : ℕ} {fs : List Fact} {A B : Type 0} {Holds : Point m → B → Type 0} (o : Option A) (s : A)
    (c : A → Run Item B) (now : Now Item) → o ≡ Some s → EndsWell q f m fs Holds (c s now)
    → EndsWell q f m fs Holds (goes_on (needs o now) c)
found_well {q} {f} {m} {fs} {Holds} None s c now e h = absurd (cc)
found_well {q} {f} {m} {fs} {Holds} (Some t) s c now e h =
    subst (λ x. EndsWell q f m fs Holds (c x now)) (sym (some_same t s e)) h

pub makes : {q : Scene} {n : ℕ} {f : Point n} {facts : List Fact} (k : ℕ) (is : List Indices) (made : Made) (xs : List Item) (v : Value)
    → AllTyped q.set q.work f is xs → ((g : Integers) → Agree f g → is_made q.set.around.types q.set.past q.work g made v ≡ true)
    → Beside q n f facts (note (λ fs. made_note fs k is made)) ((checked q.set.around.types q.cases).make k xs v)
    (λ m p t x. (x.val ≡ v) × IsMadeAs q.set q.work p made v x.typ)
unfolding note
makes {q} {n} {f} {facts} k is made xs v typed is_so = record {
  run = λ now stands met ok.
      let at : (g : Integers) → Agree f g → HasCase q.set q.work g made v (q.cases.makes k (typs xs) v now.opened) = λ g a.
      met.0 g now.opened (stands.there g a) (typs xs) (all_sized q f is xs g a typed) v (is_so g a) in
      let first = at f.integers (same f) in
      found_well (q.cases.makes k (typs xs) v now.opened) first.typ (λ s. gives (item s v)) now first.is_there
      (well_given (item first.typ v) now (record {
        point = f;
        later = no_later f;
        stands = stands;
        holds = (
          refl,
          λ exact g a.
              let other = at g a in
              subst (MadeAs q.set.around.types q.set.past q.work g made v) (some_same other.typ first.typ (sym other.is_there ∙ first.is_there))
              (other.is_right exact),
        );
      }) ok);
}

-- ---- and gives the numbers of variables

noted_well : {q : Scene} {n : ℕ} {f : Point n} {m : ℕ} {fs : List Fact} {Holds : Point m → Unit {0} → Type 0} (o : Option Noted) (s : Noted)
    (now : Now Item) → o ≡ Some s → EndsWell q f m fs Holds (R.Gives tt (record now { opened = s })) → EndsWell q f m fs Holds (noting o now)
noted_well {q} {f} {m} {fs} {Holds} None s now e h = absurd (cc)
noted_well {q} {f} {m} {fs} {Holds} (Some t) s now e h =
    subst (λ x. EndsWell q f m fs Holds (R.Gives tt (record now { opened = x }))) (sym (some_same t s e)) h

pub gives_numbers : {q : Scene} {n : ℕ} {f : Point n} {facts : List Fact} (giver : Giver) (i : Indices) (v : Value) (w : Walk (Unit {0}))
    → Gives w (variables_given i)
    → ((g : Integers) → Agree f g → has q.set.around.types (standing q.set.past g) q.work.types i v ≡ true)
    → Beside q n f facts (bind (note (λ fs. given_note fs giver i)) (λ t. w)) ((checked q.set.around.types q.cases).note giver v) (λ m p t x. Unit {0})
unfolding bind note
gives_numbers {q} {n} {f} {facts} giver i v w e is_so = record {
  run = λ now stands met ok.
      let at : (g : Integers) → Agree f g → Notes q.set q.work g facts (variables_given i) (q.cases.notes giver v now.opened) = λ g a.
      met.0 g now.opened (stands.there g a) v (is_so g a) in
      let first = at f.integers (same f) in
      subst (λ r. EndsWell q f r.next r.facts (λ p x. Unit {0}) (noting (q.cases.notes giver v now.opened) now)) (sym (e facts n))
      (noted_well (q.cases.notes giver v now.opened) first.more now first.is_there
      (well_given tt (record now { opened = first.more }) (record {
        point = f;
        later = no_later f;
        stands = record {
          there = λ g a.
              let other = at g a in
              subst (λ more. IsSo q.set.past q.work more g (with_given facts (variables_given i)))
              (some_same other.more first.more (sym other.is_there ∙ first.is_there)) other.is_so;
        };
        holds = tt;
      }) (record { state = ok.state; names = ok.names })));
}

-- ---- scopes

abbrev pub grown : {n m : ℕ} → Point n → n ≤ m → Point m
grown f l = record { fixed = f.fixed; integers = f.integers; before = λ i h. let k = f.before i h in omega arith }

pub grown_later : {n m : ℕ} (f : Point n) (l : n ≤ m) → Later f (grown f l)
grown_later f l = record { onward = l; fixed = λ i h. h; same = λ i h. refl }

-- a scope that isn't run: nothing is fixed there
pub passes_over : {q : Scene} {n : ℕ} {f : Point n} {facts : List Fact} {A C D : Type 0} (k : A → Walk C) {d : Run Item D}
    {Then : (m : ℕ) → Point m → C → D → Type 0} (w : Walk A) → Grows w → ((m : ℕ) (g : Point m) (a : A) → Later f g → Beside q m g facts (k a) d Then)
    → Beside q n f facts (bind (scoped w) k) d Then
unfolding bind scoped
passes_over {q} {n} {f} {facts} k w gr next = record {
  run = λ now stands met ok.
      let l = grown_later f (gr.onward facts n) in
      well_on l ((next (w facts n).next (grown f (gr.onward facts n)) (w facts n).value l).run now (stands_on l stands)
      (met_behind q (w facts n).notes _ met) ok);
}

pub walks_over : {q : Scene} {n : ℕ} {f : Point n} {facts : List Fact} {A : Type 0} (w : Walk A) → Grows w
    → Walks q n f facts (scoped w) (λ m g a. Unit {0})
unfolding scoped
walks_over {q} {n} {f} {facts} w gr = record {
  go = λ noted stands met.
      let l = grown_later f (gr.onward facts n) in
      record { point = grown f (gr.onward facts n); later = l; stands = stands_on l stands; holds = tt };
}

-- a scope that is run: behind it what was in force before is in force, under the numbers that were noted before
pub inside_well : {q : Scene} {n : ℕ} {f : Point n} {m : ℕ} {fs gs : List Fact} {B : Type 0} {Holds : Point m → B → Type 0} {e : Ended Item B}
    → (noted : Noted) → Stands q.set q.work noted f gs → EndsWell q f m fs Holds e
    → EndsWell q f m gs Holds (R.leaving (λ after. record after { opened = noted }) e)
inside_well noted stands (well_given x now r h) = well_given x (record now { opened = noted })
    (record { point = r.point; later = r.later; stands = stands_on r.later stands; holds = r.holds }) (record { state = h.state; names = h.names })
inside_well noted stands (well_no now a h) = well_no (record now { opened = noted }) a (record { state = h.state; names = h.names })
inside_well noted stands (well_returned v now b h) = well_returned v (record now { opened = noted }) b (record { state = h.state; names = h.names })
inside_well noted stands (well_thrown v now b h) = well_thrown v (record now { opened = noted }) b (record { state = h.state; names = h.names })
inside_well noted stands (well_stopped cause now) = well_stopped cause (record now { opened = noted })

pub scopes : {q : Scene} {n : ℕ} {f : Point n} {facts : List Fact} {A : Type 0} {w : Walk A} {c : Run Item Item}
    {Holds : (m : ℕ) → Point m → A → Item → Type 0} → Beside q n f facts w c Holds
    → Beside q n f facts (scoped w) ((checked q.set.around.types q.cases).inside c) Holds
unfolding scoped
scopes b = record { run = λ now stands met ok. inside_well now.opened stands (b.run now stands met ok) }

-- ---- a claim, in force inside alone

facts_well : {q : Scene} {n : ℕ} {f : Point n} {m : ℕ} {fs gs : List Fact} {B : Type 0} {Holds : Point m → B → Type 0} {e : Ended Item B}
    → ((noted : Noted) (p : Point m) → Stands q.set q.work noted p fs → Stands q.set q.work noted p gs) → EndsWell q f m fs Holds e → EndsWell q f m gs Holds e
facts_well k (well_given x now r h) =
    well_given x now (record { point = r.point; later = r.later; stands = k now.opened r.point r.stands; holds = r.holds }) h
facts_well k (well_no now a h) = well_no now a h
facts_well k (well_returned v now b h) = well_returned v now b h
facts_well k (well_thrown v now b h) = well_thrown v now b h
facts_well k (well_stopped cause now) = well_stopped cause now

true_without : (mu : Assignment) (facts more : List Fact) (c : Con) → AllTrue mu (conditions ((facts ++ Y.Holds c ∷ []) ++ more))
    → AllTrue mu (conditions (facts ++ more))
true_without mu [] more c h = h.1
true_without mu (Y.Holds d ∷ facts) more c h = (h.0, true_without mu facts more c h.1)
true_without mu (Y.IsGiven v ∷ facts) more c h = true_without mu facts more c h

given_without : (facts more : List Fact) (c : Con) → given_in ((facts ++ Y.Holds c ∷ []) ++ more) ≡ given_in (facts ++ more)
given_without [] more c = refl
given_without (Y.Holds d ∷ facts) more c = given_without facts more c
given_without (Y.IsGiven v ∷ facts) more c = ap (λ vs. v ∷ vs) (given_without facts more c)

dropped : (facts more : List Fact) (c : Con) → drop (suc (length facts)) ((facts ++ Y.Holds c ∷ []) ++ more) ≡ more
dropped [] more c = refl
dropped (x ∷ facts) more c = dropped facts more c

so_without : {past : Positive} {work : Work} {noted : Noted} {g : Integers} (facts more : List Fact) (c : Con)
    → IsSo past work noted g ((facts ++ Y.Holds c ∷ []) ++ more) → IsSo past work noted g (facts ++ more)
so_without {past} {work} {noted} {g} facts more c s = record {
  numbers = s.numbers;
  true_there = true_without (standing past g) facts more c s.true_there;
  given = subst (EachNoted noted g) (given_without facts more c) s.given;
}

pub claims : {q : Scene} {n : ℕ} {f : Point n} {facts : List Fact} {A B : Type 0} {w : Walk A} {c : Run Item B} (con : Con)
    {Holds : (m : ℕ) → Point m → A → B → Type 0} → Grows w → IsTrue q.set q.work f con → Beside q n f (facts ++ Y.Holds con ∷ []) w c Holds
    → Beside q n f facts (claimed con w) c Holds
unfolding claimed
claims {q} {n} {f} {facts} {w} con gr h b = record {
  run = λ now stands met ok.
      let there = facts ++ Y.Holds con ∷ [] in
      let more = gr.more there n in
      facts_well (λ noted p s. record {
        there = λ g a.
            subst (λ fs. IsSo q.set.past q.work noted g (facts ++ fs))
            (sym (ap (drop (suc (length facts))) (gr.extends there n) ∙ dropped facts more con))
            (so_without facts more con (subst (IsSo q.set.past q.work noted g) (gr.extends there n) (s.there g a)));
      })
      (b.run now (record { there = λ g a. more_so facts con (h g a) (stands.there g a) }) met ok);
}
