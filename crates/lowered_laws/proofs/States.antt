-- What slots hold of a moment of a run, and what a piece of code leaves of them.
use Rattle.std.proofs.Common.{◌≡◌, ◌∙◌, ℕ, ◌+◌, ◌<◌, ◌≤◌, true, false, List, [], ◌∷◌, ◌++◌, length, refl, sym}
use Rattle.std.proofs.Common.{subst, arith, ap, Some}
use Rattle.std.specs.Prelude.{suc, nat_lt, drop}
use Rattle.std.proofs.lemmas.Bool.Decides.{nat_tests}
use Rattle.sail_types.specs.declared.values.Value.{Value}
use Rattle.jib.specs.Jib.{Slots, Store, put, slots_of}
use Rattle.sail_core.specs.Run as R
use Rattle.sail_core.specs.Run.{Local as Bound, Now, Run, local}
use Rattle.lowered_pieces.specs.Places.{Place, Raised, Given, Local, Number, Temp, same_place, Kit, Names}
use Rattle.checked_meaning.specs.Items.{Item}
use Rattle.lowered_laws.specs.Standing.{HasAt, Types, Tested, Told, free}
use Rattle.lowered_laws.proofs.Facts.{put_same, put_other, tested_put, below}
use Rattle.lowered_laws.proofs.Steps.{moves}
use Rattle.lowered_laws.proofs.Chosen.{by_case_good}
use Rattle.lowered_pieces.specs.Chains.{by_case}
use Rattle.size_values.specs.declared.constants.Picked.{Picked}
use Rattle.checked_meaning.specs.Checked.{Noted}
use Rattle.sized_meanings.specs.Present.{present}
use Rattle.jib.specs.declared.code.Instruction.{Instruction}
use Rattle.lowered_pieces.specs.Forms.{Named, Depths, kit_at, Stand, Tail, Piece, no_tail, code_of}
use Rattle.lowered_laws.specs.Simulation.{bare, Followed, AtWork, kit, own_code, RunsOn, lower, Low, Writable, Holds, Passed, Same, After, Done, Catches, Sits}
use Rattle.lowered_laws.specs.Simulation.{Fails, LabelsStand, ReadAs, Varied, Varies, handy}
use Rattle.lowered_laws.specs.Simulation.{Good}
use Rattle.lowered_laws.proofs.Follows.{no, onward}
use Rattle.lowered_pieces.specs.Nodes.{is_empty}
use Rattle.lowered_pieces.specs.Writes.{is_read}
use Rattle.size_values.specs.declared.sized.Sized.{Sized}

abbrev pub Is : AtWork → Place → ℕ → Type 0
Is g p t = g.name p t < length (slots_of g.m g.here.function)

pub lower_free : (n d : ℕ) (q : Place) → lower n d q ≡ true → free n q ≡ false
lower_free n d (Local i) h = refl
lower_free n d (Temp i) h = grind (arith, nat_tests)
lower_free n d Raised h = refl
lower_free n d (Given i) h = refl
lower_free n d (Number x e) h = refl

lower_raised : (n d : ℕ) (q : Place) → lower n d q ≡ true → same_place Raised q ≡ false
lower_raised n d (Local i) h = refl
lower_raised n d (Temp i) h = refl
lower_raised n d Raised h = cc
lower_raised n d (Given i) h = refl
lower_raised n d (Number x e) h = refl

pub lower_local : (n d : ℕ) (q : Place) → lower n d q ≡ true → same_place (Local d) q ≡ false
lower_local n d (Local i) h = grind (arith, nat_tests)
lower_local n d (Temp i) h = refl
lower_local n d Raised h = refl
lower_local n d (Given i) h = refl
lower_local n d (Number x e) h = refl

pub lower_more : (n k d e : ℕ) (q : Place) → n ≤ k → d ≤ e → lower n d q ≡ true → lower k e q ≡ true
lower_more n k d e (Local i) le me h = grind (arith, nat_tests)
lower_more n k d e (Temp i) le me h = grind (arith, nat_tests)
lower_more n k d e Raised le me h = cc
lower_more n k d e (Given i) le me h = refl
lower_more n k d e (Number x i) le me h = cc

low_more : (n : ℕ) (ys : List Named) → Low n ys → Low (n + 1) ys
low_more n [] h = tt
low_more n (y ∷ ys) h =
    (lower_more n (n + 1) (length (y ∷ ys)) (length (y ∷ ys)) y.place (omega arith) (omega arith) h.0, low_more n ys h.1)

abbrev local_number : Place → ℕ
local_number (Local i) = i
local_number p = 0

own_place : (d : ℕ) → nat_lt d (suc d) ≡ true
own_place d = grind (arith, nat_tests)

pub writable_front : (d : Depths) (xs ys : List ℕ) → Writable d (xs ++ ys) → Writable d xs
writable_front d [] ys h = tt
writable_front d (x ∷ xs) ys h = (h.0, writable_front d xs ys h.1)

pub writable_back : (d : Depths) (xs ys : List ℕ) → Writable d (xs ++ ys) → Writable d ys
writable_back d [] ys h = h
writable_back d (x ∷ xs) ys h = writable_back d xs ys h.1

-- however deep it stands, code has the same slots and types
pub names_at : (kit : Kit) (slots : List ℕ) → Names kit slots → (d : Depths) → Names (kit_at kit d) slots
names_at kit slots nm d = record { apart = nm.apart; typed = nm.typed; raised = nm.raised; first = nm.first }

module _ (g : AtWork) where
  pub passed_by : (sl sl' : Slots) → ((i t : ℕ) → sl' (g.name (Given i) t) ≡ sl (g.name (Given i) t)) → (i : ℕ) (xs : List Item) → Passed g sl i xs
      → Passed g sl' i xs
  passed_by sl sl' h i [] p = tt
  passed_by sl sl' h i (x ∷ xs) p = (h i (g.number x.typ) ∙ p.0, passed_by sl sl' h (i + 1) xs p.1)

  pub types_at : (d : Depths) → Types g.m.types (kit_at (kit g) d)
  types_at d = record { truth = g.types.truth; integer = g.types.integer; unit = g.types.unit }

  -- the code of the case that is present is run
  pub case_good : {A : Type 0} (picks : A → List Picked) (d : Depths) (p q : ℕ) (arm : A → ℕ → List Instruction) (noted : Noted) (s : Store) (k : A)
      (us : List A) (l pc pe : ℕ) (sl : Slots) → present picks noted us ≡ Some k → Told (kit_at (kit g) d) noted sl
      → pe ≡ pc + length (by_case picks (kit_at (kit g) d) p q arm l us) → HasAt (own_code g) pc (by_case picks (kit_at (kit g) d) p q arm l us)
      → ((l' pc' : ℕ) (sl' : Slots) → Tested (kit g) p sl sl' → HasAt (own_code g) pc' (arm k l')
      → ((sl2 : Slots) (s2 : Store) → RunsOn g pe sl2 s2 → RunsOn g (pc' + length (arm k l')) sl2 s2) → RunsOn g pc' sl' s)
      → RunsOn g pc sl s
  case_good picks d p q arm noted s k us l pc pe sl there told end at_ run =
      by_case_good g.m g.lets g.hart g.here g.ending (kit_at (kit g) d) (types_at d) (names_at (kit g) (slots_of g.m g.here.function) g.names d) g.slots picks
      p q arm noted s k us l pc pe sl there told end at_ (λ l' pc' sl' td hp out. run l' pc' sl' (record { others = td.others }) hp out)

  pub same_higher : (d : Depths) (scope : List Named) (n : ℕ) (sl : Slots) (now : Now Item) → Same g d scope n sl now → Same g d scope (n + 1) sl now
  same_higher d scope n sl now s = record {
    locals = s.locals;
    noted = s.noted;
    low = low_more n scope s.low;
    shallow = s.shallow;
    passed = s.passed;
    varied = s.varied;
  }

  pub holds_by : (n d : ℕ) (sl sl' : Slots) (ys : List Named) (ls : List (Bound Item)) → length ys ≤ d
      → ((q : Place) (t : ℕ) → lower n d q ≡ true → sl' (g.name q t) ≡ sl (g.name q t)) → Low n ys → Holds g sl ys ls → Holds g sl' ys ls
  holds_by n d sl sl' [] [] le h w v = tt
  holds_by n d sl sl' (y ∷ ys) (l ∷ ls) le h w v = (
    v.0,
    h y.place (g.number l.held.typ) (lower_more n n (length (y ∷ ys)) d y.place (omega arith) le w.0) ∙ v.1,
    holds_by n d sl sl' ys ls (omega (arith, le)) h w.1 v.2,
  )
  holds_by n d sl sl' [] (l ∷ ls) le h w v = absurd v
  holds_by n d sl sl' (y ∷ ys) [] le h w v = absurd v

  read_by : (sl sl' : Slots) (p : Place) (v : Value) (ts : List Sized) → ((t : ℕ) → sl' (g.name p t) ≡ sl (g.name p t)) → ReadAs g sl p v ts
      → ReadAs g sl' p v ts
  read_by sl sl' p v [] still r = tt
  read_by sl sl' p v (t ∷ ts) still r = (λ had. still (g.number t) ∙ r.0 had, read_by sl sl' p v ts still r.1)

  pub varied_by : (sl sl' : Slots) (y : Named) (d : ℕ) (v : Value) → ((t : ℕ) → sl' (g.name y.place t) ≡ sl (g.name y.place t)) → Varied g sl y d v
      → Varied g sl' y d v
  varied_by sl sl' y d v still w =
      record { own = w.own; local = w.local; read = read_by sl sl' y.place v (g.tables.reads y.name) still w.read }

  pub varies_by : (n d : ℕ) (sl sl' : Slots) (ys : List Named) (ls : List (Bound Item)) → length ys ≤ d
      → ((q : Place) (t : ℕ) → lower n d q ≡ true → sl' (g.name q t) ≡ sl (g.name q t)) → Low n ys → Varies g sl ys ls → Varies g sl' ys ls
  varies_by n d sl sl' [] ls le h w v = tt
  varies_by n d sl sl' (y ∷ ys) [] le h w v = tt
  varies_by n d sl sl' (y ∷ ys) (l ∷ ls) le h w v = (
    varied_by sl sl' y (length ys) l.held.val
        (λ t. h y.place t (lower_more n n (length (y ∷ ys)) d y.place (omega arith) le w.0)) v.0,
    varies_by n d sl sl' ys ls (omega (arith, le)) h w.1 v.1,
  )

  pub same_tested : (d : Depths) (scope : List Named) (n : ℕ) (sl sl' : Slots) (now : Now Item) → Tested (kit g) n sl sl' → Same g d scope n sl now
      → Same g d scope n sl' now
  same_tested d scope n sl sl' now td s = record {
    locals = holds_by n (length scope) sl sl' scope now.locals (omega arith) (λ q t h. td.others q t (lower_free n (length scope) q h)) s.low s.locals;
    noted = λ x z e. td.others (Number x (d.of x)) (kit g).integer refl ∙ s.noted x z e;
    low = s.low;
    shallow = s.shallow;
    passed = passed_by sl sl' (λ i t. td.others (Given i) t refl) 0 g.arguments s.passed;
    varied = varies_by n (length scope) sl sl' scope now.locals (omega arith) (λ q t h. td.others q t (lower_free n (length scope) q h)) s.low s.varied;
  }

  pub after_here : (d : Depths) (scope : List Named) (n : ℕ) (sl : Slots) (now : Now Item) → Same g d scope n sl now → After g d scope n sl now sl now
  after_here d scope n sl now s = record { same = s; kept = λ i u lt. refl; given = λ i u. refl; numbers = λ x e lt. refl; fewer = omega arith }

  pub after_tested : (d : Depths) (scope : List Named) (n : ℕ) (sl sl1 sl2 : Slots) (now t : Now Item) → Tested (kit g) n sl1 sl2
      → After g d scope n sl now sl1 t → After g d scope n sl now sl2 t
  after_tested d scope n sl sl1 sl2 now t td k = record {
    same = same_tested d scope n sl1 sl2 t td k.same;
    kept = λ i u lt. td.others (Temp i) u (below n i lt) ∙ k.kept i u lt;
    given = λ i u. td.others (Given i) u refl ∙ k.given i u;
    numbers = λ x e lt. td.others (Number x e) (kit g).integer refl ∙ k.numbers x e lt;
    fewer = k.fewer;
  }

  pub after_both : (d : Depths) (scope : List Named) (n p : ℕ) (sl sl1 sl2 : Slots) (now t u : Now Item) → n ≤ p → After g d scope n sl now sl1 t
      → After g d scope p sl1 t sl2 u → After g d scope n sl now sl2 u
  after_both d scope n p sl sl1 sl2 now t u le a b = record {
    same = record {
      locals = b.same.locals;
      noted = b.same.noted;
      low = a.same.low;
      shallow = a.same.shallow;
      passed = b.same.passed;
      varied = b.same.varied;
    };
    kept = λ i w lt. b.kept i w (omega (arith, le, lt)) ∙ a.kept i w lt;
    given = λ i w. b.given i w ∙ a.given i w;
    numbers = λ x e lt. b.numbers x e lt ∙ a.numbers x e lt;
    fewer = omega (arith, a.fewer, b.fewer);
  }

  pub after_put : (d : Depths) (scope : List Named) (n p y : ℕ) (sl sl1 : Slots) (now t : Now Item) (w : Value) → n ≤ p → Is g (Temp p) y
      → After g d scope n sl now sl1 t → After g d scope n sl now (put sl1 (g.name (Temp p) y) w) t
  after_put d scope n p y sl sl1 now t w le is k =
      after_tested d scope n sl sl1 (put sl1 (g.name (Temp p) y) w) now t (tested_put (kit g) (slots_of g.m g.here.function) g.names n p y sl1 w le is) k

  -- what is thrown goes to a place that nothing else has
  pub after_raised : (d : Depths) (scope : List Named) (n : ℕ) (sl sl1 : Slots) (now t : Now Item) (w : Value) → Is g Raised g.exception
      → After g d scope n sl now sl1 t → After g d scope n sl now (put sl1 (g.name Raised g.exception) w) t
  after_raised d scope n sl sl1 now t w is k =
      let sl2 : Slots = put sl1 (g.name Raised g.exception) w in
      let other : (q : Place) (u : ℕ) → same_place Raised q ≡ false → sl2 (g.name q u) ≡ sl1 (g.name q u) =
      λ q u e. put_other (kit g) (slots_of g.m g.here.function) g.names sl1 Raised g.exception w q u is e in
      record {
        same = record {
          locals = holds_by n (length scope) sl1 sl2 scope t.locals (omega arith) (λ q u h. other q u (lower_raised n (length scope) q h)) k.same.low
              k.same.locals;
          low = k.same.low;
          noted = λ x z e. other (Number x (d.of x)) (kit g).integer refl ∙ k.same.noted x z e;
          shallow = k.same.shallow;
          passed = passed_by sl1 sl2 (λ i u. other (Given i) u refl) 0 g.arguments k.same.passed;
          varied = varies_by n (length scope) sl1 sl2 scope t.locals (omega arith) (λ q u h. other q u (lower_raised n (length scope) q h)) k.same.low
              k.same.varied;
        };
        kept = λ i u lt. other (Temp i) u refl ∙ k.kept i u lt;
        given = λ i u. other (Given i) u refl ∙ k.given i u;
        numbers = λ x e lt. other (Number x e) (kit g).integer refl ∙ k.numbers x e lt;
        fewer = k.fewer;
      }

  -- a name comes into scope, in a place that no other has: its value stands there, at its type and at those that its variables are read at
  pub after_named : (d : Depths) (scope : List Named) (n : ℕ) (name : List ℕ) (x : Item) (sl sl1 sl2 : Slots) (now t : Now Item)
      → After g d scope n sl now sl1 t
      → ((q : Place) (u : ℕ) → same_place (Local (length scope)) q ≡ false → sl2 (g.name q u) ≡ sl1 (g.name q u))
      → sl2 (g.name (Local (length scope)) (g.number x.typ)) ≡ x.val → ReadAs g sl2 (Local (length scope)) x.val (g.tables.reads name)
      → Same g d (record { name = name; place = Local (length scope) } ∷ scope) n sl2 (record t { locals = local name x ∷ t.locals })
  after_named d scope n name x sl sl1 sl2 now t k other stands read =
      let j : ℕ = length scope in
      record {
        locals = (
          refl,
          stands,
          holds_by n j sl1 sl2 scope t.locals (omega arith) (λ q u h. other q u (lower_local n j q h)) k.same.low k.same.locals,
        );
        noted = λ y w e. other (Number y (d.of y)) (kit g).integer refl ∙ k.same.noted y w e;
        low = (own_place j, k.same.low);
        shallow = k.same.shallow;
        passed = passed_by sl1 sl2 (λ a u. other (Given a) u refl) 0 g.arguments k.same.passed;
        varied = (
          record { own = λ i e. sym (ap local_number e); local = λ h. refl; read = read },
          varies_by n j sl1 sl2 scope t.locals (omega arith) (λ q u h. other q u (lower_local n j q h)) k.same.low k.same.varied,
        );
      }

  unread : (sl : Slots) (p : Place) (v : Value) (ts : List Sized) → is_empty ts ≡ true → ReadAs g sl p v ts
  unread sl p v [] e = tt
  unread sl p v (t ∷ ts) e = no e

  -- so a name of which no variables are read
  pub after_bound : (d : Depths) (scope : List Named) (n : ℕ) (name : List ℕ) (x : Item) (sl sl1 : Slots) (now t : Now Item)
      → is_empty (g.tables.reads name) ≡ true
      → Is g (Local (length scope)) (g.number x.typ) → After g d scope n sl now sl1 t
      → Same g d (record { name = name; place = Local (length scope) } ∷ scope) n (put sl1 (g.name (Local (length scope)) (g.number x.typ)) x.val)
      (record t { locals = local name x ∷ t.locals })
  after_bound d scope n name x sl sl1 now t none is k =
      let j : ℕ = length scope in
      let i : ℕ = g.name (Local j) (g.number x.typ) in
      after_named d scope n name x sl sl1 (put sl1 i x.val) now t k
      (λ q u e. put_other (kit g) (slots_of g.m g.here.function) g.names sl1 (Local j) (g.number x.typ) x.val q u is e) (put_same sl1 i x.val)
      (unread (put sl1 i x.val) (Local j) x.val (g.tables.reads name) none)

  -- a name that never is a variable's
  pub unread_varied : (q : ℕ) (sl : Slots) (y : Named) (d : ℕ) (v : Value) → is_empty (g.tables.reads y.name) ≡ true → handy q y.place ≡ true
      → Varied g sl y d v
  unread_varied q sl y d v none h = record {
    own = λ i e. no (subst (λ p. handy q p ≡ true) e h);
    local = λ r. absurd (not_both (g.tables.reads y.name) none r);
    read = unread sl y.place v (g.tables.reads y.name) none;
  }
    where
      not_both : (ts : List Sized) → is_empty ts ≡ true → is_read ts ≡ true → ⊥
      not_both [] e r = no r
      not_both (t ∷ ts) e r = no e

  holds_drop : (sl : Slots) (y : Named) (ys : List Named) (ls : List (Bound Item)) → Holds g sl (y ∷ ys) ls → Holds g sl ys (drop 1 ls)
  holds_drop sl y ys [] h = absurd h
  holds_drop sl y ys (l ∷ ls) h = h.2

  varies_drop : (sl : Slots) (y : Named) (ys : List Named) (ls : List (Bound Item)) → Varies g sl (y ∷ ys) ls → Varies g sl ys (drop 1 ls)
  varies_drop sl y [] [] h = tt
  varies_drop sl y (z ∷ ys) [] h = tt
  varies_drop sl y ys (l ∷ ls) h = h.1

  -- and goes out of it; all else stood still between
  pub after_dropped : (d : Depths) (scope : List Named) (n : ℕ) (y : Named) (sl sl1 sl2 sl3 : Slots) (now t u v : Now Item) → After g d scope n sl now sl1 t
      → ((q : Place) (w : ℕ) → same_place (Local (length scope)) q ≡ false → sl2 (g.name q w) ≡ sl1 (g.name q w)) → u.ticks ≡ t.ticks
      → After g d (y ∷ scope) n sl2 u sl3 v → After g d scope n sl now sl3 (record v { locals = drop 1 v.locals })
  after_dropped d scope n y sl sl1 sl2 sl3 now t u v a others ticks b = record {
    same = record {
      locals = holds_drop sl3 y scope v.locals b.same.locals;
      noted = b.same.noted;
      low = a.same.low;
      shallow = a.same.shallow;
      passed = b.same.passed;
      varied = varies_drop sl3 y scope v.locals b.same.varied;
    };
    kept = λ i w lt. b.kept i w lt ∙ others (Temp i) w refl ∙ a.kept i w lt;
    given = λ i w. b.given i w ∙ others (Given i) w refl ∙ a.given i w;
    numbers = λ x e lt. b.numbers x e lt ∙ others (Number x e) (kit g).integer refl ∙ a.numbers x e lt;
    fewer = omega (arith, a.fewer, b.fewer, ticks);
  }

  -- names and numbers are as they were; fewer ticks
  pub after_time : (d : Depths) (scope : List Named) (n : ℕ) (sl sl1 : Slots) (now t u : Now Item) → u.locals ≡ t.locals → u.opened ≡ t.opened
      → u.ticks ≤ t.ticks → After g d scope n sl now sl1 t → After g d scope n sl now sl1 u
  after_time d scope n sl sl1 now t u el eo le k = record {
    same = record {
      locals = subst (λ ls. Holds g sl1 scope ls) (sym el) k.same.locals;
      noted = subst (λ o. Told (kit_at (kit g) d) o sl1) (sym eo) k.same.noted;
      low = k.same.low;
      shallow = k.same.shallow;
      passed = k.same.passed;
      varied = subst (λ ls. Varies g sl1 scope ls) (sym el) k.same.varied;
    };
    kept = k.kept;
    given = k.given;
    numbers = k.numbers;
    fewer = omega (arith, k.fewer, le);
  }

  -- ---- what may follow

  pub record Lands (d : Depths) (scope : List Named) (pe n : ℕ) (sl : Slots) (now : Now Item) (x : Item) (t : Now Item) : Type 0 where
    pub by : (sl' : Slots) → After g d scope n sl now sl' t → sl' (g.name (Temp n) (g.number x.typ)) ≡ x.val
        → Sits g x.val x.typ → RunsOn g pe sl' (bare t)

  -- where a value stays in hand
  pub landed : (s : Stand) (pe : ℕ) (sl : Slots) (now : Now Item) (x : Item) (t : Now Item) → Lands s.depths s.scope pe s.temp sl now x t
      → Done g no_tail s pe sl now x t
  landed s pe sl now x t z = record {
    by = λ sl1 l q k e had hp out. moves g.m g.lets g.hart g.here g.ending (q + 0) q sl1 (bare t) (omega arith) (out sl1 (bare t) (z.by sl1 k e had));
  }

  pub held_good : (me : Run Item Item) (p : Piece) → Good g me p → (s : Stand) (l pc pe ph pf : ℕ) (sl : Slots) (now : Now Item) → now.ticks < g.depth
      → pe ≡ pc + length (code_of p s l) → HasAt (own_code g) pc (code_of p s l) → LabelsStand g s ph pf → Same g s.depths s.scope s.temp sl now
      → Writable s.depths p.notes
      → Followed g.ending (me now) (Lands s.depths s.scope pe s.temp sl now) (Catches g s.depths s.scope ph s.temp sl now)
      (Fails g s.depths s.scope pf s.temp sl now)
      → RunsOn g pc sl (bare now)
  held_good me p good s l pc pe ph pf sl now tk end at_ set same wr th =
      let H = Catches g s.depths s.scope ph s.temp sl now in
      let N = Fails g s.depths s.scope pf s.temp sl now in
      good.run no_tail s l pc pe ph pf sl now tk end at_ set same wr
      (onward g.ending (me now) (Lands s.depths s.scope pe s.temp sl now) H N (Done g no_tail s pe sl now) H N th (landed s pe sl now) (λ v t z. z)
      (λ t z. z))

  pub catch_on : (d : Depths) (scope : List Named) (ph n k : ℕ) (sl sl1 : Slots) (now now1 : Now Item) → n ≤ k → After g d scope n sl now sl1 now1
      → (v : Value) (t : Now Item) → Catches g d scope ph n sl now v t → Catches g d scope ph k sl1 now1 v t
  catch_on d scope ph n k sl sl1 now now1 le a v t x = record { by = λ sl2 b e. x.by sl2 (after_both d scope n k sl sl1 sl2 now now1 t le a b) e }

  pub fail_on : (d : Depths) (scope : List Named) (pf n k : ℕ) (sl sl1 : Slots) (now now1 : Now Item) → n ≤ k → After g d scope n sl now sl1 now1
      → (t : Now Item) → Fails g d scope pf n sl now t → Fails g d scope pf k sl1 now1 t
  fail_on d scope pf n k sl sl1 now now1 le a t x = record { by = λ sl2 b. x.by sl2 (after_both d scope n k sl sl1 sl2 now now1 t le a b) }

  -- what may follow, seen from further on
  pub via : {A : Type 0} (d : Depths) (scope : List Named) (ph pf n k : ℕ) (sl sl1 : Slots) (now now1 : Now Item) (o : R.Ended Item A)
      (K K' : A → Now Item → Type 0) → n ≤ k → After g d scope n sl now sl1 now1
      → Followed g.ending o K (Catches g d scope ph n sl now) (Fails g d scope pf n sl now) → ((x : A) (t : Now Item) → K x t → K' x t)
      → Followed g.ending o K' (Catches g d scope ph k sl1 now1) (Fails g d scope pf k sl1 now1)
  via d scope ph pf n k sl sl1 now now1 o K K' le a th f =
      onward g.ending o K (Catches g d scope ph n sl now) (Fails g d scope pf n sl now) K' (Catches g d scope ph k sl1 now1) (Fails g d scope pf k sl1 now1)
      th f (catch_on d scope ph n k sl sl1 now now1 le a) (fail_on d scope pf n k sl sl1 now now1 le a)

  pub done_on : (tail : Tail) (s : Stand) (pe p : ℕ) (sl sl1 : Slots) (now now1 : Now Item) → After g s.depths s.scope s.temp sl now sl1 now1
      → ((sl2 : Slots) (s2 : Store) → RunsOn g pe sl2 s2 → RunsOn g p sl2 s2) → (x : Item) (t : Now Item) → Done g tail s pe sl now x t
      → Done g tail s p sl1 now1 x t
  done_on tail s pe p sl sl1 now now1 a w x t z = record {
    by = λ sl2 l q b e had hp out. z.by sl2 l q (after_both s.depths s.scope s.temp s.temp sl sl1 sl2 now now1 t (omega arith) a b) e had hp
        (λ sl3 s3 y. out sl3 s3 (w sl3 s3 y));
  }

  -- of runs that are one
  pub same_good : (ma mb : Run Item Item) (p : Piece) → ((now : Now Item) → ma now ≡ mb now) → Good g ma p → Good g mb p
  same_good ma mb p e good = record {
    run = λ tail s l pc pe ph pf sl now tk end at_ set same wr th.
        good.run tail s l pc pe ph pf sl now tk end at_ set same wr
        (subst (λ o. Followed g.ending o (Done g tail s pe sl now) (Catches g s.depths s.scope ph s.temp sl now) (Fails g s.depths s.scope pf s.temp sl now))
        (sym (e now)) th);
  }

  -- the same at another end
  pub done_at : (tail : Tail) (s : Stand) (pe p : ℕ) (sl : Slots) (now : Now Item) → ((sl2 : Slots) (s2 : Store) → RunsOn g pe sl2 s2 → RunsOn g p sl2 s2)
      → (x : Item) (t : Now Item) → Done g tail s pe sl now x t → Done g tail s p sl now x t
  done_at tail s pe p sl now w x t z =
      record { by = λ sl2 l q k e had hp out. z.by sl2 l q k e had hp (λ sl3 s3 y. out sl3 s3 (w sl3 s3 y)) }
