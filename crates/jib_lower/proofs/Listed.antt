-- What is made of instances one by one stands at their places.
use Rattle.std.proofs.Common.{◌≡◌, ◌∙◌, ℕ, zero, suc, ◌+◌, List, [], ◌∷◌, ◌++◌, length, Some, None, refl, sym, ap, subst, arith}
use Rattle.std.proofs.Common.{append-nil, append_assoc}
use Rattle.std.specs.Prelude.{◌*◌, slice_get, slice_index_or}
use Rattle.size_values.specs.declared.sized.Sized.{Sized}
use Rattle.sized_nodes.specs.declared.trees.SizedInstance.{SizedInstance}
use Rattle.jib.specs.declared.code.Function.{Function as Made}
use Rattle.lowered_typed.specs.declared.signs.Called.{Called}
use Rattle.jib_lower.specs.declared.instances.Model.{Model}
use Rattle.jib_lower.specs.Added.{AllEnter, AllMade, CalledAdded, EntersBy, InstancesAdded, MadeThere, enter_more, enter_none, made_more, made_none}
use Rattle.jib_lower.specs.Instances.{Enters, InstancesMade, MadeAt}
use Rattle.jib_lower.proofs.Basics.{some_same}

none_is : {A X : Type 0} (x : A) → None ≡ Some x → X
none_is x e = cc

module _ (numbered : List Sized) (cycles : List ℕ) where
  pub enter_many : (xs : List SizedInstance) (cs : List Called) → AllEnter numbered cycles xs cs → length cs ≡ length xs
  enter_many [] [] enter_none = refl
  enter_many [] (c ∷ cs) h = elim h [ ]
  enter_many (x ∷ xs) [] h = elim h [ ]
  enter_many (x ∷ xs) (c ∷ cs) (enter_more e all) = ap suc (enter_many xs cs all)

  entered : (x y : SizedInstance) (c : Called) → EntersBy numbered x (slice_index_or cycles x.instance.function 0) c → x ≡ y → Enters numbered cycles y c
  entered x y c e is = subst (λ z. Enters numbered cycles z c) is (record {
    signature = e.signature;
    plain = e.plain;
    parameters = e.parameters;
    cycle = e.cycle_is;
  })

  pub enter_each : (xs : List SizedInstance) (cs : List Called) → AllEnter numbered cycles xs cs → (i : ℕ) (y : SizedInstance) → slice_get xs i ≡ Some y
      → (c : Called) × (slice_get cs i ≡ Some c) × Enters numbered cycles y c
  enter_each [] [] enter_none i y h = none_is y h
  enter_each [] (c ∷ cs) k i y h = elim k [ ]
  enter_each (x ∷ xs) [] k i y h = elim k [ ]
  enter_each (x ∷ xs) (c ∷ cs) (enter_more e all) zero y h = (c, refl, entered x y c e (some_same x y h))
  enter_each (x ∷ xs) (c ∷ cs) (enter_more e all) (suc i) y h = enter_each xs cs all i y h

pub called_none : (numbered : List Sized) (cycles : List ℕ) (all : List SizedInstance) (old : List Called) → all ≡ []
    → CalledAdded numbered cycles all old old
called_none numbered cycles all old e = record {
  added = [];
  is = sym (append-nil old);
  enter = subst (λ xs. AllEnter numbered cycles xs []) (sym e) enter_none;
}

pub called_more : (numbered : List Sized) (cycles : List ℕ) (x : SizedInstance) (xs all : List SizedInstance) (c : Called) (n : ℕ) (old mid new : List Called)
    → mid ≡ old ++ c ∷ [] → n ≡ slice_index_or cycles x.instance.function 0 → EntersBy numbered x n c → all ≡ x ∷ xs
    → CalledAdded numbered cycles xs mid new → CalledAdded numbered cycles all old new
called_more numbered cycles x xs all c n old mid new p e one a more = record {
  added = c ∷ more.added;
  is = more.is ∙ ap (λ cs. cs ++ more.added) p ∙ append_assoc old (c ∷ []) more.added;
  enter = subst (λ ys. AllEnter numbered cycles ys (c ∷ more.added)) (sym a)
      (enter_more (subst (λ k. EntersBy numbered x k c) e one) more.enter);
}

module _ (model : Model) where
  twice : (n : ℕ) → 2 * suc n ≡ suc (suc (2 * n))
  twice n = omega arith

  pub instances_none : (i : ℕ) (all : List SizedInstance) (old : List Made) → all ≡ [] → InstancesAdded model i all old old
  instances_none i all old e = record {
    added = [];
    is = sym (append-nil old);
    made = subst (λ xs. AllMade model i xs []) (sym e) made_none;
  }

  pub instances_more : (i k : ℕ) (x : SizedInstance) (xs all : List SizedInstance) (called event : Made) (old mid later new : List Made)
      → mid ≡ old ++ called ∷ [] → later ≡ mid ++ event ∷ [] → k ≡ i + 1 → MadeThere model i x called event → all ≡ x ∷ xs
      → InstancesAdded model k xs later new → InstancesAdded model i all old new
  instances_more i k x xs all called event old mid later new p q e one a more = record {
    added = called ∷ event ∷ more.added;
    is = more.is ∙ ap (λ ms. ms ++ more.added) (q ∙ ap (λ ms. ms ++ event ∷ []) p ∙ append_assoc old (called ∷ []) (event ∷ []))
        ∙ append_assoc old (called ∷ event ∷ []) more.added;
    made = subst (λ ys. AllMade model i ys (called ∷ event ∷ more.added)) (sym a)
        (made_more one (subst (λ n. AllMade model n xs more.added) e more.made));
  }

  made_many : (i : ℕ) (xs : List SizedInstance) (ms : List Made) → AllMade model i xs ms → length ms ≡ 2 * length xs
  made_many i [] [] made_none = refl
  made_many i [] (a ∷ ms) h = elim h [ ]
  made_many i (x ∷ xs) [] h = elim h [ ]
  made_many i (x ∷ xs) (a ∷ []) h = elim h [ ]
  made_many i (x ∷ xs) (a ∷ b ∷ ms) (made_more h all) = ap (λ n. suc (suc n)) (made_many (i + 1) xs ms all) ∙ sym (twice (length xs))

  -- both functions of the k-th instance of a list, the first of which is the i-th of all
  record There (ms : List Made) (i k : ℕ) (x : SizedInstance) : Type 0 where
    called : Made
    event : Made
    called_there : slice_get ms (2 * k) ≡ Some called
    event_there : slice_get ms (2 * k + 1) ≡ Some event
    made : MadeThere model (i + k) x called event

  further : (ms : List Made) (a b : Made) (i k : ℕ) (x : SizedInstance) → There ms (i + 1) k x → There (a ∷ b ∷ ms) i (suc k) x
  further ms a b i k x t = record {
    called = t.called;
    event = t.event;
    called_there = ap (slice_get (a ∷ b ∷ ms)) (twice k) ∙ t.called_there;
    event_there = ap (slice_get (a ∷ b ∷ ms)) (ap (λ n. n + 1) (twice k) ∙ by (2 * k)) ∙ t.event_there;
    made = subst (λ n. MadeThere model n x t.called t.event) (next i k) t.made;
  }
    where
      by : (n : ℕ) → suc (suc n) + 1 ≡ suc (suc (n + 1))
      by n = omega arith

      next : (i k : ℕ) → i + 1 + k ≡ i + suc k
      next i k = omega arith

  all_there : (i : ℕ) (xs : List SizedInstance) (ms : List Made) → AllMade model i xs ms → (k : ℕ) (y : SizedInstance)
      → slice_get xs k ≡ Some y → There ms i k y
  all_there i [] [] made_none k y h = none_is y h
  all_there i [] (a ∷ ms) m k y h = elim m [ ]
  all_there i (x ∷ xs) [] m k y h = elim m [ ]
  all_there i (x ∷ xs) (a ∷ []) m k y h = elim m [ ]
  all_there i (x ∷ xs) (a ∷ b ∷ ms) (made_more m all) zero y h =
      subst (λ z. There (a ∷ b ∷ ms) i zero z) (some_same x y h) (record {
        called = a;
        event = b;
        called_there = refl;
        event_there = refl;
        made = subst (λ n. MadeThere model n x a b) (start i) m;
      })
    where
      start : (i : ℕ) → i ≡ i + 0
      start i = omega arith
  all_there i (x ∷ xs) (a ∷ b ∷ ms) (made_more m all) (suc k) y h = further ms a b i k y (all_there (i + 1) xs ms all k y h)

  at_place : (ms : List Made) (i : ℕ) (x : SizedInstance) → There ms 0 i x → MadeAt model ms i x
  at_place ms i x t =
      let there : MadeThere model i x t.called t.event = subst (λ n. MadeThere model n x t.called t.event) (by i) t.made in
      record {
        function = there.made.function;
        signature = there.made.signature;
        called_is = there.entered;
        walk = there.made.walk;
        judge = there.made.judge;
        head = there.made.head;
        called = t.called;
        event = t.event;
        found = there.made.found;
        plain = there.made.plain;
        enters = there.there;
        setting = there.made.setting;
        around = there.made.around;
        judged = there.made.judged;
        signs = there.made.signs;
        headed = there.made.headed;
        called_there = t.called_there;
        event_there = t.event_there;
        made = there.made.made;
      }
    where
      by : (i : ℕ) → 0 + i ≡ i
      by i = omega arith

  pub instances_made : (all : List SizedInstance) (ms : List Made) → all ≡ model.sized.now.instances → AllMade model 0 all ms → InstancesMade model ms
  instances_made all ms e made =
      let h : AllMade model 0 model.sized.now.instances ms = subst (λ xs. AllMade model 0 xs ms) e made in
      record {
        each = λ i x g. at_place ms i x (all_there 0 model.sized.now.instances ms h i x g);
        many = made_many 0 model.sized.now.instances ms h;
      }
