-- `let`, `var` and blocks, beside their runs.
use Rattle.std.proofs.Common.{◌≡◌, ℕ, pos, Bool, true, false, ◌&&◌, List, [], ◌∷◌, ◌++◌, Option, Some, None, if◌then◌else◌, length, refl, subst}
use Rattle.sail_base.specs.declared.place.Place.{Place}
use Rattle.sail_types.proofs.SumNumbers.{some_same}
use Rattle.sail_types.specs.Belongs.{Reading as Closed, belongs}
use Rattle.sail_types.specs.declared.numbers.Con.{Con}
use Rattle.sail_core.specs.Making.{Making, World, nothing}
use Rattle.sail_core.specs.Meaning.{block, kind_meaning, let_in}
use Rattle.sail_core.specs.Run.{Run, local, within, ◌then◌}
use Rattle.sail_core.specs.declared.patterns.Arm.{Arm}
use Rattle.sail_core.specs.declared.patterns.Literal.TheVariants as L
use Rattle.sail_core.specs.declared.tree.Giver.{Giver}
use Rattle.sail_core.specs.declared.tree.Giver.TheVariants as By
use Rattle.sail_core.specs.declared.tree.Kind.TheVariants as K
use Rattle.sail_core.specs.declared.tree.Statement.{Statement}
use Rattle.sail_core.specs.declared.tree.Statement.TheVariants as S
use Rattle.sail_core.specs.declared.written.Written.{Written}
use Rattle.value_indices.specs.declared.indices.Indices.{Indices}
use Rattle.value_indices.specs.declared.indices.Indices.TheVariants as I
use Rattle.value_indices.specs.declared.indices.Reading.{Reading}
use Rattle.value_indices.specs.declared.notes.Fact.{Fact}
use Rattle.value_indices.specs.declared.notes.Fact.TheVariants as Y
use Rattle.value_indices.specs.Steps.{Walk, bind, give}
use Rattle.fitting_laws.proofs.Holes.{first_full}
use Rattle.call_fits.proofs.Filled.{filled_full}
use Rattle.pattern_leaves.specs.Settings.{Around, Scope, declared, exponents_owed, written_in}
use Rattle.pattern_leaves.specs.declared.names.Bound.{Bound}
use Rattle.pattern_notes.specs.Patterns.{arm_written}
use Rattle.wide_types.specs.Widening.{widened}
use Rattle.call_arguments.specs.Aims.{aimed, inner_aim, is_hole}
use Rattle.call_arguments.specs.Holes.{has_hole, without_holes}
use Rattle.call_arguments.specs.declared.aims.Aim.{Aim}
use Rattle.call_arguments.specs.declared.aims.Aim.TheVariants as Aims
use Rattle.expression_steps.specs.Expressions.{kind_walk}
use Rattle.expression_steps.specs.Parts.{Part}
use Rattle.expression_steps.specs.Statements.{bind_given, block_walk, is_written, last_never_ends, let_given, under_claim, var_name, written_aim}
use Rattle.checked_meaning.specs.Checked.{checked}
use Rattle.checked_meaning.specs.Items.{Item}
use Rattle.value_laws.specs.Belonging.{Integers, standing, closed}
use Rattle.value_laws.specs.Known.{Point, Agree}
use Rattle.value_laws.proofs.Basics.{no}
use Rattle.value_laws.proofs.Steps.{same}
use Rattle.soundness_steps.specs.Points.{Later}
use Rattle.soundness_steps.proofs.Points.{later_on}
use Rattle.soundness_steps.specs.Works.{Kept, Scene, Setting, Work, here, is_var}
use Rattle.soundness_steps.specs.Steps.{Beside}
use Rattle.soundness_steps.specs.Values.{AimSteady, Belongs, Claims, Comes, Is, IsWanted}
use Rattle.soundness_steps.proofs.Steps.{binds, claims, given_back, means, rests, walks_then}
use Rattle.soundness_steps.proofs.Scenes.{under_names}
use Rattle.soundness_forms.specs.Forms.{Fine, FitsSuffice, at}
use Rattle.soundness_forms.specs.Patterns.{Owes}
use Rattle.soundness_forms.specs.Worlds.{Surrounds}
use Rattle.soundness_forms.proofs.Basics.{aim_on, settles, then_walks, wanted_on}
use Rattle.soundness_forms.proofs.Casts.{aimed_due, aimed_given, free_is, no_guard}
use Rattle.soundness_forms.proofs.Constants.{literal_has, literal_sized}
use Rattle.soundness_forms.proofs.Leaving.{aimed_is}
use Rattle.soundness_forms.proofs.Lets.{let_runs}
use Rattle.soundness_forms.proofs.NamesGiven.{given_then, nests}
use Rattle.soundness_forms.proofs.Worlds.{surrounds_more, surrounds_on}
use Rattle.soundness_forms.proofs.Written.{exponents_any, written_wanted}
use Rattle.soundness_binding.specs.Matches.{AllLetsMatch, LetsMatch}
use Rattle.soundness_binding.proofs.Grows.{Statements, block_grows}
use Rattle.soundness_binding.proofs.Wide.{vars_widen}

-- ---- what is wanted of a body, and of what is bound

pub inner_steady : (set : Setting) (work : Work) {n : ℕ} (f : Point n) (aim : Aim) → AimSteady set work f aim → AimSteady set work f (inner_aim aim)
inner_steady set work f Aims.Free h = h
inner_steady set work f (Aims.Given r) h = h
inner_steady set work f (Aims.PartOf r) h = h
inner_steady set work f (Aims.Due r) h = h

pub inner_comes : (set : Setting) (work : Work) {n : ℕ} (f : Point n) (aim : Aim) (nested never_ends : Bool) (i : Indices) (x : Item)
    → Comes set work f false nested never_ends (inner_aim aim) i x → Comes set work f false true never_ends aim i x
inner_comes set work f Aims.Free nested never_ends i x h = record { has = h.has; typ = h.typ; met = tt; ends = h.ends }
inner_comes set work f (Aims.Given r) nested never_ends i x h = record { has = h.has; typ = h.typ; met = h.met; ends = h.ends }
inner_comes set work f (Aims.PartOf r) nested never_ends i x h = record { has = h.has; typ = h.typ; met = tt; ends = h.ends }
inner_comes set work f (Aims.Due r) nested never_ends i x h = record { has = h.has; typ = h.typ; met = h.met; ends = h.ends }

-- another end
pub ends_as : (set : Setting) (work : Work) {n : ℕ} (f : Point n) (aim : Aim) (never_ends other : Bool) (i : Indices) (x : Item) → other ≡ false
    → Comes set work f false true never_ends aim i x → Comes set work f false true other aim i x
ends_as set work f Aims.Free never_ends other i x e h = record { has = h.has; typ = h.typ; met = tt; ends = e }
ends_as set work f (Aims.Given r) never_ends other i x e h = record { has = h.has; typ = h.typ; met = h.met; ends = e }
ends_as set work f (Aims.PartOf r) never_ends other i x e h = record { has = h.has; typ = h.typ; met = tt; ends = e }
ends_as set work f (Aims.Due r) never_ends other i x e h = record { has = h.has; typ = h.typ; met = h.met; ends = e }

given_is : (set : Setting) (work : Work) {n : ℕ} (f : Point n) (cast nested never_ends : Bool) (r : Reading) (i : Indices) (x : Item)
    → Comes set work f cast nested never_ends (Aims.Given r) i x → Is set work f i x
given_is set work f true nested never_ends r i x h = record { has = h.has; typ = h.typ }
given_is set work f false nested never_ends r i x h = record { has = h.has; typ = h.typ }

pub bound_is : (set : Setting) (work : Work) {n : ℕ} (f : Point n) (around : Around) (o : Option Written) (cast nested never_ends : Bool)
    (i : Indices) (x : Item)
    → Comes set work f cast nested never_ends (written_aim around o) i x → Is set work f i x
bound_is set work f around None cast nested never_ends i x h = free_is cast nested never_ends i x h
bound_is set work f around (Some w) cast nested never_ends i x h = by (is_hole (written_in around w)) h
  where
    by : (b : Bool) → Comes set work f cast nested never_ends (if b then Aims.Free else Aims.Given (written_in around w)) i x → Is set work f i x
    by true h = free_is cast nested never_ends i x h
    by false h = given_is set work f cast nested never_ends (written_in around w) i x h

module _ (q : Scene) (w : World Item) where
  abbrev z : Making Item
  z = checked q.set.around.types q.cases

  pub bound_steady : {n : ℕ} {f : Point n} {names : List Kept} {falls : Bool} {scope : Scope} (o : Option Written) → Surrounds (at q w names falls) w f scope
      → AimSteady q.set q.work f (written_aim (here q) o)
  bound_steady None there = tt
  bound_steady {f = f} {names} {falls} (Some t) there =
      aimed_given q.set q.work f (written_in (here q) t) (written_wanted (at q w names falls) w f t.typ q.numbers w.numbers there.numbers)

  -- what is owed already further in is so
  pub bound_owes : {n : ℕ} {f : Point n} {names : List Kept} {falls : Bool} {scope : Scope} (o : Option Written)
      → Surrounds (at q w names falls) w f scope → (cast nested never_ends : Bool) (i : Indices) (x : Item)
      → Comes q.set q.work f cast nested never_ends (written_aim (here q) o) i x → Owes q f o (is_written o && nested) x
  bound_owes None there cast nested never_ends i x c e t is = no e
  bound_owes (Some wr) there cast false never_ends i x c e t is = no e
  bound_owes {f = f} {names} {falls} (Some wr) there cast true never_ends i x c e t is =
      let r = written_in (here q) wr in
      let wanted : IsWanted q.set q.work f r = written_wanted (at q w names falls) w f wr.typ q.numbers w.numbers there.numbers in
      subst (λ (s : Written). Belongs q.set q.work f (written_in (here q) s) x.val) (some_same wr t is)
      (subst (λ aim. Comes q.set q.work f cast true never_ends aim i x) (aimed_is Aims.Given r wanted.1) c).met

  -- ---- `let`

  module _ (arm : Arm) (matches : LetsMatch q w arm) where
    -- a value that is bound, and a walk under its names
    pub let_bound : {n : ℕ} {f : Point n} {facts : List Fact} (giver : Giver) (names : List Kept) (falls : Bool) (scope : Scope) (place : Place) (a : Part)
        (ra : Run Item Item) (cast : Bool) → Fine q w cast false a ra → {A : Type 0} (k : List Bound → Walk A) (r : Run Item Item)
        {Holds : (m : ℕ) → Point m → A → Item → Type 0} → Surrounds (at q w names falls) w f scope
        → ((m : ℕ) (g : Point m) (fs : List Fact) (found : List Bound) (ks : List Kept) → Later f g
        → a.never_ends ≡ false → Surrounds (at q w (ks ++ names) true) w g (found ++ scope)
        → Beside (at q w (ks ++ names) true) m g fs (k found) r Holds)
        → Beside (at q w names falls) n f facts (bind (let_given giver place arm a (here q) scope) k) (ra then λ x. let_in z w giver place arm x r) Holds
    let_bound {n} {f} {facts} giver names falls scope place a ra cast ha k r {Holds} there next =
        let o = arm_written arm in
        let how = is_written o && a.is_nested in
        nests (a.walk (here q) scope (written_aim (here q) o)) (bind_given giver place arm (here q) how) k
        (binds (λ i. bind (bind_given giver place arm (here q) how i) k) (λ x. let_in z w giver place arm x r)
        (ha.walks names falls no_guard n f facts scope (written_aim (here q) o) there (bound_steady o there))
        (λ m g fs i x l c.
        let_runs (at q w names falls) w arm (matches names) scope place (record { in_case = false; is_owed = how }) i x giver k r
        (surrounds_on (at q w names falls) w scope l there) (bound_is q.set q.work g (here q) o cast a.is_nested a.never_ends i x c)
        (bound_owes o (surrounds_on (at q w names falls) w scope l there) cast a.is_nested a.never_ends i x c)
        (λ m2 g2 fs2 found ks l2 there2. next m2 g2 fs2 found ks (later_on l l2) c.ends there2)))

    pub let_fine : {n : ℕ} {f : Point n} {facts : List Fact} (names : List Kept) (falls : Bool) (scope : Scope) (place : Place) (k : ℕ) (aim : Aim)
        (a b : Part) (ra rb : Run Item Item) (cast : Bool) → Fine q w cast false a ra → Fine q w false false b rb → Surrounds (at q w names falls) w f scope
        → AimSteady q.set q.work f aim
        → Beside (at q w names falls) n f facts (kind_walk place k (K.Let arm) (a ∷ b ∷ []) (here q) scope aim)
        (kind_meaning z w place k (K.Let arm) (ra ∷ rb ∷ [])) (λ m g i x. Comes q.set q.work g false true false aim i x)
    let_fine names falls scope place k aim a b ra rb cast ha hb there st =
        then_walks (λ i. give i)
        (let_bound (By.Arm k 0) names falls scope place a ra cast ha (λ found. b.walk (here q) (found ++ scope) (inner_aim aim)) rb there
        (λ m g fs found ks l e there2.
        means (λ m2 g2 i x l2 c. ends_as q.set q.work g2 aim b.never_ends false i x refl (inner_comes q.set q.work g2 aim b.is_nested b.never_ends i x c))
        (hb.walks (ks ++ names) true no_guard m g fs (found ++ scope) (inner_aim aim) there2
        (inner_steady q.set q.work g aim (aim_on q.set q.work aim l st)))))
        (λ m g fs i x l d. given_back i d)

  -- ---- `var`

  -- a type in which no hole is left
  no_hole_left : (r : Reading) → has_hole (without_holes r) ≡ false
  no_hole_left r =
      (first_full (without_holes r) [] (filled_full q.set.around.types (standing q.set.past (λ i. pos 0)) q.work.types (r ∷ []))).0

  abbrev IsType : {n : ℕ} → Point n → Reading → Closed → Type 0
  IsType f r t = (g : Integers) → Agree f g → closed q.set.around.types (standing q.set.past g) q.work.types r ≡ t

  -- a value under the name of a `var`
  var_runs : {n : ℕ} {f : Point n} {facts : List Fact} (names : List Kept) (falls : Bool) (scope : Scope) (name : List ℕ) (r : Reading) (t : Closed) (x : Item)
      → Surrounds (at q w names falls) w f scope → IsType f r t → has_hole r ≡ false → belongs q.set.around.types x.val t ≡ true → {A : Type 0}
      (k : List Bound → Walk A) (c : Run Item Item) {Holds : (m : ℕ) → Point m → A → Item → Type 0}
      → (Surrounds (at q w (is_var name t ∷ names) falls) w f (declared name r ∷ scope)
      → Beside (at q w (is_var name t ∷ names) falls) n f facts (k (declared name r ∷ [])) c Holds)
      → Beside (at q w names falls) n f facts (bind (give (declared name r ∷ [])) k) (within (local name x ∷ []) c) Holds
  var_runs {n} {f} {facts} names falls scope name r t x there typ whole is k c next =
      given_then (declared name r ∷ []) k
      (under_names (is_var name t ∷ []) (local name x ∷ []) ((refl, is), tt)
      (next (surrounds_more (at q w names falls) w f scope (declared name r ∷ []) (is_var name t ∷ []) ((refl, (typ, whole)), tt) there)))

  -- a value that is due at a type
  due_belongs : {n : ℕ} {f : Point n} (cast nested never_ends : Bool) (r : Reading) (i : Indices) (x : Item) → has_hole r ≡ false
      → Comes q.set q.work f cast nested never_ends (aimed Aims.Due r) i x → Belongs q.set q.work f r x.val
  due_belongs {f = f} cast nested never_ends r i x full c =
      (subst (λ aim. Comes q.set q.work f cast nested never_ends aim i x) (aimed_is Aims.Due r full) c).met

  pub var_bound : {n : ℕ} {f : Point n} {facts : List Fact} (names : List Kept) (falls : Bool) (scope : Scope) (name : List ℕ) (written : Option Written)
      (a : Part) (ra : Run Item Item) (cast : Bool) → Fine q w cast false a ra → {A : Type 0} (k : List Bound → Walk A) (c : Run Item Item)
      {Holds : (m : ℕ) → Point m → A → Item → Type 0} → Surrounds (at q w names falls) w f scope
      → ((m : ℕ) (g : Point m) (fs : List Fact) (r : Reading) (t : Closed) → Later f g → a.never_ends ≡ false
      → Surrounds (at q w (is_var name t ∷ names) falls) w g (declared name r ∷ scope)
      → Beside (at q w (is_var name t ∷ names) falls) m g fs (k (declared name r ∷ [])) c Holds)
      → Beside (at q w names falls) n f facts (bind (var_name name written a (here q) scope) k) (ra then λ x. within (local name x ∷ []) c) Holds
  var_bound {n} {f} {facts} names falls scope name None a ra cast ha k c there next =
      nests (a.walk (here q) scope Aims.Free) (λ i. give (declared name (without_holes (widened i)) ∷ [])) k
      (binds (λ i. bind (give (declared name (without_holes (widened i)) ∷ [])) k) (λ x. within (local name x ∷ []) c)
      (ha.walks names falls no_guard n f facts scope Aims.Free there tt)
      (λ m g fs i x l h.
      let typ = vars_widen q.set q.work m g i x.val h.has in
      var_runs names falls scope name (without_holes (widened i)) typ.0 x (surrounds_on (at q w names falls) w scope l there) typ.2
      (no_hole_left (widened i)) typ.1 k c
      (λ there2. next m g fs (without_holes (widened i)) typ.0 l h.ends there2)))
  var_bound {n} {f} {facts} names falls scope name (Some wr) a ra cast ha k c there next =
      let r = written_in (here q) wr in
      let wanted : IsWanted q.set q.work f r = written_wanted (at q w names falls) w f wr.typ q.numbers w.numbers there.numbers in
      nests (exponents_owed (here q) wr.numbers) (λ t. bind (a.walk (here q) scope (aimed Aims.Due r)) (λ i. give (declared name r ∷ []))) k
      (walks_then (λ t. bind (bind (a.walk (here q) scope (aimed Aims.Due r)) (λ i. give (declared name r ∷ []))) k) (exponents_any wr.numbers)
      (λ m g fs t l u.
      nests (a.walk (here q) scope (aimed Aims.Due r)) (λ i. give (declared name r ∷ [])) k
      (binds (λ i. bind (give (declared name r ∷ [])) k) (λ x. within (local name x ∷ []) c)
      (ha.walks names falls no_guard m g fs scope (aimed Aims.Due r) (surrounds_on (at q w names falls) w scope l there)
      (aimed_due q.set q.work g r (wanted_on q.set q.work r l wanted)))
      (λ m2 g2 fs2 i x l2 h.
      let steady = wanted_on q.set q.work r l2 (wanted_on q.set q.work r l wanted) in
      let typ = closed q.set.around.types (standing q.set.past g2.integers) q.work.types r in
      var_runs names falls scope name r typ x
      (surrounds_on (at q w names falls) w scope l2 (surrounds_on (at q w names falls) w scope l there)) steady.0 wanted.1
      (due_belongs cast a.is_nested a.never_ends r i x wanted.1 h g2.integers (same g2)) k c
      (λ there2. next m2 g2 fs2 r typ (later_on l l2) h.ends there2)))))

  pub var_fine : {n : ℕ} {f : Point n} {facts : List Fact} (names : List Kept) (falls : Bool) (scope : Scope) (place : Place) (k : ℕ) (name : List ℕ)
      (written : Option Written) (aim : Aim) (a b : Part) (ra rb : Run Item Item) (cast : Bool) → Fine q w cast false a ra → Fine q w false false b rb
      → Surrounds (at q w names falls) w f scope → AimSteady q.set q.work f aim
      → Beside (at q w names falls) n f facts (kind_walk place k (K.Var name written) (a ∷ b ∷ []) (here q) scope aim)
      (kind_meaning z w place k (K.Var name written) (ra ∷ rb ∷ [])) (λ m g i x. Comes q.set q.work g false true false aim i x)
  var_fine names falls scope place k name written aim a b ra rb cast ha hb there st =
      then_walks (λ i. give i)
      (var_bound names falls scope name written a ra cast ha (λ found. b.walk (here q) (found ++ scope) (inner_aim aim)) rb there
      (λ m g fs r t l e there2.
      means (λ m2 g2 i x l2 c. ends_as q.set q.work g2 aim b.never_ends false i x refl (inner_comes q.set q.work g2 aim b.is_nested b.never_ends i x c))
      (hb.walks (is_var name t ∷ names) falls no_guard m g fs (declared name r ∷ scope) (inner_aim aim) there2
      (inner_steady q.set q.work g aim (aim_on q.set q.work aim l st)))))
      (λ m g fs i x l d. given_back i d)

  -- ---- blocks

  -- what a block comes to
  abbrev Block : {n : ℕ} → Point n → List Fact → List Kept → Bool → Scope → Place → ℕ → Aim → List Statement → List Part → List (Run Item Item)
      → Type 0
  Block {n} f facts names falls scope place k aim ss ps rs =
      Beside (at q w names falls) n f facts (block_walk place k ss ps (here q) scope aim) (block z w k ss rs)
      (λ m g i x. Comes q.set q.work g false true (last_never_ends ps) aim i x)

  unit_is : {n : ℕ} (f : Point n) → Is q.set q.work f I.Unit (nothing z)
  unit_is f = record { has = literal_has q.set q.work f L.Unit refl; typ = λ exact g a. literal_sized q.set.around.types q.work.own g L.Unit }

  -- the end of what is behind a statement
  end_of : (a : Part) (ps : List Part) → a.never_ends ≡ false → last_never_ends ps ≡ false → last_never_ends (a ∷ ps) ≡ false
  end_of a [] e k = e
  end_of a (p ∷ ps) e k = k

  behind : {n : ℕ} (f : Point n) (a : Part) (ps : List Part) (aim : Aim) (i : Indices) (x : Item) → a.never_ends ≡ false
      → Comes q.set q.work f false true (last_never_ends ps) aim i x → Comes q.set q.work f false true (last_never_ends (a ∷ ps)) aim i x
  behind f a ps aim i x e c = ends_as q.set q.work f aim (last_never_ends ps) (last_never_ends (a ∷ ps)) i x (end_of a ps e c.ends) c

  module _ (fit : FitsSuffice) (place : Place) (k : ℕ) where
    under_claims : (o : Option Con) {m : ℕ} {g : Point m} {fs : List Fact} (names : List Kept) (falls : Bool) (scope : Scope) (aim : Aim)
        (ss : List Statement) (ps : List Part) (rs : List (Run Item Item)) → Statements q w ss ps rs → Claims q.set q.work g o
        → ((gs : List Fact) → Block g gs names falls scope place k aim ss ps rs)
        → Beside (at q w names falls) m g fs (under_claim (block_walk place k ss ps (here q) scope aim) o) (block z w k ss rs)
        (λ j p i x. Comes q.set q.work p false true (last_never_ends ps) aim i x)
    under_claims None {fs = fs} names falls scope aim ss ps rs h t next = next fs
    under_claims (Some c) {fs = fs} names falls scope aim ss ps rs h t next =
        claims c (block_grows q w (here q) place k ss ps rs h scope aim) t (next (fs ++ Y.Holds c ∷ []))

    pub block_runs : (ss : List Statement) (ps : List Part) (rs : List (Run Item Item)) → Statements q w ss ps rs → AllLetsMatch q w ss
        → (names : List Kept) (falls : Bool) (scope : Scope) (aim : Aim) (n : ℕ) (f : Point n) (facts : List Fact)
        → Surrounds (at q w names falls) w f scope → AimSteady q.set q.work f aim → Block f facts names falls scope place k aim ss ps rs
    block_runs [] [] [] h ms names falls scope aim n f facts there st =
        means (λ m g i x l c. inner_comes q.set q.work g aim false false i x c)
        (rests (nothing z) (settles fit place (inner_aim aim) I.Unit (nothing z) (inner_steady q.set q.work f aim st) (unit_is f)))
    block_runs [] (p ∷ []) (r ∷ []) h ms names falls scope aim n f facts there st =
        means (λ m g i x l c. inner_comes q.set q.work g aim p.is_nested p.never_ends i x c)
        (h.walks names falls no_guard n f facts scope (inner_aim aim) there (inner_steady q.set q.work f aim st))
    block_runs (S.Evaluate ∷ ss) (p ∷ ps) (r ∷ rs) h ms names falls scope aim n f facts there st =
        binds (under_claim (block_walk place k ss ps (here q) scope aim)) (λ x. block z w k ss rs)
        (h.0.1.states names falls no_guard n f facts scope there)
        (λ m g fs c x l t.
        means (λ m2 g2 i y l2 d. behind g2 p ps aim i y t.1 d)
        (under_claims c names falls scope aim ss ps rs h.1 t.0 (λ gs.
        block_runs ss ps rs h.1 ms names falls scope aim m g gs (surrounds_on (at q w names falls) w scope l there) (aim_on q.set q.work aim l st))))
    block_runs (S.Define here_at arm ∷ ss) (p ∷ ps) (r ∷ rs) h ms names falls scope aim n f facts there st =
        let_bound arm ms.0 (By.Arm k (length ss)) names falls scope here_at p r h.0.0 h.0.1
        (λ found. block_walk place k ss ps (here q) (found ++ scope) aim) (block z w k ss rs) there
        (λ m g fs found ks l e there2.
        means (λ m2 g2 i y l2 d. behind g2 p ps aim i y e d)
        (block_runs ss ps rs h.1 ms.1 (ks ++ names) true (found ++ scope) aim m g fs there2 (aim_on q.set q.work aim l st)))
    block_runs (S.Declare name written ∷ ss) (p ∷ ps) (r ∷ rs) h ms names falls scope aim n f facts there st =
        var_bound names falls scope name written p r h.0.0 h.0.1 (λ found. block_walk place k ss ps (here q) (found ++ scope) aim) (block z w k ss rs) there
        (λ m g fs rd t l e there2.
        means (λ m2 g2 i y l2 d. behind g2 p ps aim i y e d)
        (block_runs ss ps rs h.1 ms (is_var name t ∷ names) falls (declared name rd ∷ scope) aim m g fs there2 (aim_on q.set q.work aim l st)))
    block_runs [] [] (r ∷ rs) h ms names falls scope aim n f facts there st = absurd h
    block_runs [] (p ∷ []) (r ∷ r2 ∷ rs) h ms names falls scope aim n f facts there st = absurd h
    block_runs [] (p ∷ p2 ∷ ps) (r ∷ rs) h ms names falls scope aim n f facts there st = absurd h
    block_runs [] (p ∷ []) [] h ms names falls scope aim n f facts there st = absurd h
    block_runs [] (p ∷ p2 ∷ ps) [] h ms names falls scope aim n f facts there st = absurd h
    block_runs (s ∷ ss) [] rs h ms names falls scope aim n f facts there st = absurd h
    block_runs (s ∷ ss) (p ∷ ps) [] h ms names falls scope aim n f facts there st = absurd h

    pub block_fine : {n : ℕ} {f : Point n} {facts : List Fact} (ss : List Statement) (ps : List Part) (rs : List (Run Item Item))
        → Statements q w ss ps rs → AllLetsMatch q w ss → (names : List Kept) (falls : Bool) (scope : Scope) (aim : Aim)
        → Surrounds (at q w names falls) w f scope → AimSteady q.set q.work f aim
        → Beside (at q w names falls) n f facts (kind_walk place k (K.Block ss) ps (here q) scope aim) (kind_meaning z w place k (K.Block ss) rs)
        (λ m g i x. Comes q.set q.work g false true (last_never_ends ps) aim i x)
    block_fine {n} {f} {facts} ss ps rs h ms names falls scope aim there st =
        then_walks (λ i. give i) (block_runs ss ps rs h ms names falls scope aim n f facts there st) (λ m g fs i x l d. given_back i d)
