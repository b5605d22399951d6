-- A piece behind which nothing is known of what was noted in it: it has places of its own for the numbers that it notes.
use Rattle.std.proofs.Common.{◌≡◌, ◌∙◌, ℕ, ◌+◌, ◌<◌, ◌≤◌, Bool, true, false, List, [], ◌∷◌, length, refl, sym, ap}
use Rattle.std.proofs.Common.{subst, arith, length-append, eqb-true, eq-eqb, if◌then◌else◌}
use Rattle.std.specs.Prelude.{nat_eq, ◌||◌, ◌&&◌}
use Rattle.std.proofs.lemmas.Bool.Decides.{nat_tests}
use Rattle.sail_types.specs.declared.values.Value.{Value}
use Rattle.sail_types.specs.declared.values.Value.TheVariants as V
use Rattle.jib.specs.declared.code.Instruction.{Instruction}
use Rattle.jib.specs.declared.code.Instruction.TheVariants as I
use Rattle.jib.specs.Jib.{Slots, Store, put, slots_of}
use Rattle.sail_core.specs.Run.{Now, Run}
use Rattle.lowered_pieces.specs.Places.{Place, Raised, Given, Local, Number, Temp, same_place, from, to}
use Rattle.lowered_laws.specs.Standing.{HasAt, Told}
use Rattle.lowered_laws.proofs.Pieces.{has_front, has_back}
use Rattle.lowered_laws.proofs.Facts.{put_same, put_other}
use Rattle.lowered_laws.proofs.Steps.{go, moves}
use Rattle.checked_meaning.specs.Checked.{Noted}
use Rattle.checked_meaning.specs.Items.{Item}
use Rattle.lowered_pieces.specs.Forms.{Named, Depths, kit_at, Stand, Piece, is_in, deeper, inner, enter_code, inside_piece}
use Rattle.lowered_pieces.specs.Arms.{Held, Matched, arguments, places_of}
use Rattle.lowered_laws.specs.Simulation.{bare, AtWork, kit, own_code, reading, RunsOn, Low, lower}
use Rattle.lowered_laws.specs.Simulation.{handy, Settled, Holding, Writable, Same, After, Done, Catches}
use Rattle.lowered_laws.specs.Simulation.{Fails, Good, GoodOn, Matches}
use Rattle.lowered_laws.proofs.Follows.{no, onward, open_leaving}
use Rattle.lowered_laws.proofs.States.{Is, holds_by, lower_more, passed_by, varies_by}

in_first : (x : ℕ) (ys : List ℕ) → is_in x (x ∷ ys) ≡ true
in_first x ys = ap (λ b. b || is_in x ys) (eq-eqb x x refl)

in_rest : (x y : ℕ) (ys : List ℕ) → is_in x ys ≡ true → is_in x (y ∷ ys) ≡ true
in_rest x y ys h = by (nat_eq x y)
  where
    by : (b : Bool) → (b || is_in x ys) ≡ true
    by true = refl
    by false = h

-- the variables of a list stand deeper
all_deeper : (xs ys : List ℕ) (d : Depths) → ((x : ℕ) → is_in x ys ≡ true → is_in x xs ≡ true) → Writable (deeper xs d) ys
all_deeper xs [] d h = tt
all_deeper xs (y ∷ ys) d h =
    (ap (λ b. if b then d.here + 1 else d.of y) (h y (in_first y ys)), all_deeper xs ys d (λ x e. h x (in_rest x y ys e)))

lower_number : (x e n d : ℕ) (q : Place) → lower n d q ≡ true → same_place (Number x e) q ≡ false
lower_number x e n d (Local i) h = refl
lower_number x e n d (Temp i) h = refl
lower_number x e n d Raised h = refl
lower_number x e n d (Given i) h = refl
lower_number x e n d (Number y i) h = cc

-- another depth is another place
pub less_deep : (x y e i : ℕ) → i < e → same_place (Number y e) (Number x i) ≡ false
less_deep x y e i lt = by (nat_eq y x)
  where
    by : (b : Bool) → (b && nat_eq e i) ≡ false
    by true = grind (arith, nat_tests)
    by false = refl

another : (x w e : ℕ) → nat_eq w x ≡ false → same_place (Number x e) (Number w e) ≡ false
another x w e ne = ap (λ b. b && nat_eq e e) (flipped x w ne)
  where
    flipped : (x w : ℕ) → nat_eq w x ≡ false → nat_eq x w ≡ false
    flipped x w ne = grind (arith, nat_tests)

low_more_than : (n k : ℕ) (ys : List Named) → n ≤ k → Low n ys → Low k ys
low_more_than n k [] le h = tt
low_more_than n k (y ∷ ys) le h =
    (lower_more n k (length (y ∷ ys)) (length (y ∷ ys)) y.place le (omega arith) h.0, low_more_than n k ys le h.1)

module _ (g : AtWork) where
  abbrev number_at : ℕ → ℕ → ℕ
  number_at x e = g.name (Number x e) (kit g).integer

  -- what enters a piece copies the numbers of some variables one place deeper
  pub record Entered (d : Depths) (xs : List ℕ) (sl sl' : Slots) : Type 0 where
    pub copied : (x : ℕ) → is_in x xs ≡ true → sl' (number_at x (d.here + 1)) ≡ sl (number_at x (d.of x))
    pub left : (x : ℕ) → is_in x xs ≡ false → sl' (number_at x (d.here + 1)) ≡ sl (number_at x (d.here + 1))
    pub others : (q : Place) (t : ℕ) → ((x : ℕ) → same_place (Number x (d.here + 1)) q ≡ false) → sl' (g.name q t) ≡ sl (g.name q t)

  -- the first is copied, and then perhaps again
  first_copied : (d : Depths) (x : ℕ) (xs : List ℕ) (sl sl1 sl2 : Slots) → sl1 (number_at x (d.here + 1)) ≡ sl (number_at x (d.of x))
      → ((w : ℕ) → sl1 (number_at w (d.of w)) ≡ sl (number_at w (d.of w))) → Entered d xs sl1 sl2
      → (y : ℕ) (a b : Bool) → is_in y xs ≡ a → nat_eq y x ≡ b → (b || a) ≡ true → sl2 (number_at y (d.here + 1)) ≡ sl (number_at y (d.of y))
  first_copied d x xs sl sl1 sl2 here_ old more y true b ea eb h = more.copied y ea ∙ old y
  first_copied d x xs sl sl1 sl2 here_ old more y false true ea eb h =
      let same : x ≡ y = sym (eqb-true y x eb) in
      more.left y ea ∙ subst (λ w. sl1 (number_at w (d.here + 1)) ≡ sl (number_at w (d.of w))) same here_
  first_copied d x xs sl sl1 sl2 here_ old more y false false ea eb h = no h

  first_left : (d : Depths) (x : ℕ) (xs : List ℕ) (sl sl1 sl2 : Slots)
      → ((y : ℕ) → nat_eq y x ≡ false → sl1 (number_at y (d.here + 1)) ≡ sl (number_at y (d.here + 1))) → Entered d xs sl1 sl2
      → (y : ℕ) (a b : Bool) → is_in y xs ≡ a → nat_eq y x ≡ b → (b || a) ≡ false
      → sl2 (number_at y (d.here + 1)) ≡ sl (number_at y (d.here + 1))
  first_left d x xs sl sl1 sl2 other more y false false ea eb h = more.left y ea ∙ other y eb
  first_left d x xs sl sl1 sl2 other more y true false ea eb h = no (sym h)
  first_left d x xs sl sl1 sl2 other more y a true ea eb h = no (sym h)

  enters : (d : Depths) → ((x : ℕ) → d.of x ≤ d.here) → (xs : List ℕ) (pc : ℕ) (sl : Slots) (s : Store) → HasAt (own_code g) pc (enter_code (kit g) d xs)
      → ((sl2 : Slots) → Entered d xs sl sl2 → RunsOn g (pc + length (enter_code (kit g) d xs)) sl2 s) → RunsOn g pc sl s
  enters d shallow [] pc sl s at_ next =
      moves g.m g.lets g.hart g.here g.ending (pc + 0) pc sl s (omega arith)
      (next sl (record { copied = λ x h. no h; left = λ x h. refl; others = λ q t h. refl }))
  enters d shallow (x ∷ xs) pc sl s at_ next =
      let t : ℕ = (kit g).integer in
      let e : ℕ = d.here + 1 in
      let c : List Instruction = enter_code (kit g) d xs in
      let i : Instruction = I.Copy (to (kit g) (Number x e) t) (from (kit g) (Number x (d.of x)) t) in
      let is : Is g (Number x e) t = g.slots pc (g.name (Number x e) t) i at_.0 refl in
      let v : Value = sl (number_at x (d.of x)) in
      let sl1 : Slots = put sl (number_at x e) v in
      let other : (q : Place) (u : ℕ) → same_place (Number x e) q ≡ false → sl1 (g.name q u) ≡ sl (g.name q u) =
      λ q u ne. put_other (kit g) (slots_of g.m g.here.function) g.names sl (Number x e) t v q u is ne in
      go g.m g.lets g.hart g.here g.ending pc sl sl1 s s i at_.0 refl
      (enters d shallow xs (pc + 1) sl1 s at_.1
      (λ sl2 more.
      moves g.m g.lets g.hart g.here g.ending (pc + length (i ∷ c)) (pc + 1 + length c) sl2 s (omega arith)
      (next sl2 (record {
        copied = λ y h. first_copied d x xs sl sl1 sl2 (put_same sl (number_at x e) v)
            (λ w. other (Number w (d.of w)) t (less_deep w x e (d.of w) (omega (arith, shallow w)))) more y (is_in y xs) (nat_eq y x) refl refl h;
        left = λ y h. first_left d x xs sl sl1 sl2 (λ w ne. other (Number w e) t (another x w e ne)) more y (is_in y xs) (nat_eq y x) refl refl h;
        others = λ q w h. more.others q w h ∙ other q w (h x);
      }))))

  -- the numbers that are noted stand so deep, behind what enters
  noted_deeper : (d : Depths) (xs : List ℕ) (sl sl1 : Slots) (noted : Noted) → ((x : ℕ) → d.of x ≤ d.here) → Entered d xs sl sl1
      → Told (kit_at (kit g) d) noted sl → Told (kit_at (kit g) (deeper xs d)) noted sl1
  noted_deeper d xs sl sl1 noted shallow entered told x z e = by (is_in x xs) refl
    where
      by : (b : Bool) → is_in x xs ≡ b → sl1 (number_at x (if b then d.here + 1 else d.of x)) ≡ V.Integer z
      by true h = entered.copied x h ∙ told x z e
      by false h =
          entered.others (Number x (d.of x)) (kit g).integer (λ y. less_deep x y (d.here + 1) (d.of x) (omega (arith, shallow x))) ∙ told x z e

  deeper_shallow : (d : Depths) (xs : List ℕ) → ((x : ℕ) → d.of x ≤ d.here) → (x : ℕ) → (deeper xs d).of x ≤ (deeper xs d).here
  deeper_shallow d xs shallow x = by (is_in x xs)
    where
      by : (b : Bool) → (if b then d.here + 1 else d.of x) ≤ d.here + 1
      by true = omega arith
      by false = omega (arith, shallow x)

  same_deeper : (d : Depths) (xs : List ℕ) (scope : List Named) (n : ℕ) (sl sl1 : Slots) (now : Now Item) → Entered d xs sl sl1 → Same g d scope n sl now
      → Same g (deeper xs d) scope n sl1 now
  same_deeper d xs scope n sl sl1 now entered same = record {
    locals = holds_by g n (length scope) sl sl1 scope now.locals (omega arith)
        (λ q t h. entered.others q t (λ x. lower_number x (d.here + 1) n (length scope) q h)) same.low same.locals;
    noted = noted_deeper d xs sl sl1 now.opened same.shallow entered same.noted;
    low = same.low;
    shallow = deeper_shallow d xs same.shallow;
    passed = passed_by g sl sl1 (λ i t. entered.others (Given i) t (λ x. refl)) 0 g.arguments same.passed;
    varied = varies_by g n (length scope) sl sl1 scope now.locals (omega arith)
        (λ q t h. entered.others q t (λ x. lower_number x (d.here + 1) n (length scope) q h)) same.low same.varied;
  }

  -- behind it only that is known which was noted before
  after_inner : (d : Depths) (xs : List ℕ) (scope : List Named) (n : ℕ) (sl sl1 sl2 : Slots) (now t : Now Item) → Entered d xs sl sl1
      → Same g d scope n sl now → After g (deeper xs d) scope n sl1 now sl2 t → After g d scope n sl now sl2 (record t { opened = now.opened })
  after_inner d xs scope n sl sl1 sl2 now t entered same k =
      let still : (x e : ℕ) → e ≤ d.here → sl2 (number_at x e) ≡ sl (number_at x e) =
      λ x e le. k.numbers x e (omega (arith, le)) ∙ entered.others (Number x e) (kit g).integer (λ y. less_deep x y (d.here + 1) e (omega (arith, le))) in
      record {
        same = record {
          locals = k.same.locals;
          noted = λ x z e. still x (d.of x) (same.shallow x) ∙ same.noted x z e;
          low = k.same.low;
          shallow = same.shallow;
          passed = k.same.passed;
          varied = k.same.varied;
        };
        kept = λ i u lt. k.kept i u lt ∙ entered.others (Temp i) u (λ y. refl);
        given = λ i u. k.given i u ∙ entered.others (Given i) u (λ y. refl);
        numbers = λ x e lt. still x e (omega (arith, lt));
        fewer = k.fewer;
      }

  hand_number : (x e q : ℕ) (p : Place) → handy q p ≡ true → same_place (Number x e) p ≡ false
  hand_number x e q (Given i) h = refl
  hand_number x e q (Temp i) h = refl
  hand_number x e q Raised h = refl
  hand_number x e q (Local i) h = refl
  hand_number x e q (Number y i) h = cc

  holding_deeper : (d : Depths) (ns : List ℕ) (q : ℕ) (sl sl1 : Slots) (hs : List Held) (xs : List Item) → Entered d ns sl sl1 → Settled q hs
      → Holding g sl hs xs → Holding g sl1 hs xs
  holding_deeper d ns q sl sl1 [] [] entered s h = tt
  holding_deeper d ns q sl sl1 [] (x ∷ xs) entered s h = absurd h
  holding_deeper d ns q sl sl1 (k ∷ hs) [] entered s h = absurd h
  holding_deeper d ns q sl sl1 (k ∷ hs) (x ∷ xs) entered s h = (
    h.0,
    entered.others k.place (g.number k.typ) (λ y. hand_number y (d.here + 1) q k.place s.0) ∙ h.1,
    h.2,
    holding_deeper d ns q sl sl1 hs xs entered s.1 h.3,
  )

  matches_deeper : (d : Depths) (ns : List ℕ) (m : Matched) (q : ℕ) (xs : List Item) (sl sl1 : Slots) (opened : Noted) → Entered d ns sl sl1
      → Matches g m q xs sl opened → Matches g m q xs sl1 opened
  matches_deeper d ns m q xs sl sl1 opened entered mt = record {
    choice = mt.choice;
    there = mt.there;
    settled = mt.settled;
    holding = holding_deeper d ns (q + places_of m) sl sl1 mt.choice.values xs entered mt.settled mt.holding;
  }

  pub inside_on : (m : Matched) (vs : List Item) (me : Run Item Item) (p : Piece) → GoodOn g m vs me p
      → GoodOn g m vs ((reading g).inside me) (inside_piece (kit g) p)
  inside_on m vs me p good = record {
    run = λ tail s l pc pe ph pf sl now tk end at_ set same wr mt th.
        let n : ℕ = s.temp in
        let q : ℕ = n + places_of m in
        let d : Depths = s.depths in
        let xs : List ℕ = p.notes in
        let r : Stand = inner xs s in
        let c1 : List Instruction = enter_code (kit g) d xs in
        let c2 : List Instruction = p.ended tail r l in
        let p1 : ℕ = pc + length c1 in
        let D = Done g tail s pe sl now in
        let H = Catches g d s.scope ph n sl now in
        let N = Fails g d s.scope pf q sl now in
        let back : Now Item → Now Item = λ t. record t { opened = now.opened } in
        enters d same.shallow xs pc sl (bare now) (has_front (own_code g) pc c1 c2 at_)
        (λ sl1 entered.
        good.run tail r l p1 pe ph pf sl1 now tk (omega (arith, end, length-append c1 c2)) (has_back (own_code g) pc c1 c2 p1 refl at_)
        (record { throws = set.throws; fails = set.fails }) (same_deeper d xs s.scope n sl sl1 now entered same) (all_deeper xs xs d (λ x h. h))
        (matches_deeper d xs m n vs sl sl1 now.opened entered mt)
        (onward g.ending (me now) (λ x t. D x (back t)) (λ v t. H v (back t)) (λ t. N (back t)) (Done g tail r pe sl1 now)
        (Catches g (deeper xs d) s.scope ph n sl1 now) (Fails g (deeper xs d) s.scope pf q sl1 now)
        (open_leaving g.ending (me now) now.opened D H N th)
        (λ x t z. record {
          by = λ sl2 l1 p2 k e had hp out. z.by sl2 l1 p2 (after_inner d xs s.scope n sl sl1 sl2 now t entered same k) e had hp out;
        })
        (λ v t z. record { by = λ sl2 k e. z.by sl2 (after_inner d xs s.scope n sl sl1 sl2 now t entered same k) e })
        (λ t z. record {
          by = λ sl2 k. z.by sl2 (after_inner d xs s.scope q sl sl1 sl2 now t entered (low_here d s.scope n q sl now (omega arith) same) k);
        })));
  }
    where
      low_here : (d : Depths) (scope : List Named) (n q : ℕ) (sl : Slots) (now : Now Item) → n ≤ q → Same g d scope n sl now → Same g d scope q sl now
      low_here d scope n q sl now le s =
          record {
            locals = s.locals;
            noted = s.noted;
            low = low_more_than n q scope le s.low;
            shallow = s.shallow;
            passed = s.passed;
            varied = s.varied;
          }

  on_nothing : (me : Run Item Item) (p : Piece) → Good g me p → GoodOn g (arguments []) [] me p
  on_nothing me p good = record {
    run = λ tail s l pc pe ph pf sl now tk end at_ set same wr mt th.
        good.run tail s l pc pe ph pf sl now tk end at_ set same wr
        (onward g.ending (me now) (Done g tail s pe sl now) (Catches g s.depths s.scope ph s.temp sl now) (Fails g s.depths s.scope pf (s.temp + 0) sl now)
        (Done g tail s pe sl now) (Catches g s.depths s.scope ph s.temp sl now) (Fails g s.depths s.scope pf s.temp sl now) th (λ x t z. z) (λ v t z. z)
        (λ t f. subst (λ n. Fails g s.depths s.scope pf n sl now t) (plus_none s.temp) f));
  }
    where
      plus_none : (n : ℕ) → n + 0 ≡ n
      plus_none n = omega arith

  pub inside_good : (me : Run Item Item) (p : Piece) → Good g me p → Good g ((reading g).inside me) (inside_piece (kit g) p)
  inside_good me p good = record {
    run = λ tail s l pc pe ph pf sl now tk end at_ set same wr th.
        (inside_on (arguments []) [] me p (on_nothing me p good)).run tail s l pc pe ph pf sl now tk end at_ set same wr
        (record { choice = record { picked = []; values = [] }; there = refl; settled = tt; holding = tt })
        (onward g.ending ((reading g).inside me now) (Done g tail s pe sl now) (Catches g s.depths s.scope ph s.temp sl now)
        (Fails g s.depths s.scope pf s.temp sl now) (Done g tail s pe sl now) (Catches g s.depths s.scope ph s.temp sl now)
        (Fails g s.depths s.scope pf (s.temp + 0) sl now) th (λ x t z. z) (λ v t z. z)
        (λ t f. subst (λ n. Fails g s.depths s.scope pf n sl now t) (sym (plus_none s.temp)) f));
  }
    where
      plus_none : (n : ℕ) → n + 0 ≡ n
      plus_none n = omega arith
