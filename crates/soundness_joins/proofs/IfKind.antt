-- `if`, as a kind of node: with two ways, and with one that gives `()`.
use Rattle.std.proofs.Common.{◌≡◌, ℕ, Bool, true, false, not, ◌&&◌, List, [], ◌∷◌, Option, Some, None, refl, sym, ap, ◌∙◌, subst}
use Rattle.std.proofs.lemmas.Bool.{and_parts}
use Rattle.std.specs.List.{list_all}
use Rattle.sail_base.specs.declared.place.Place.{Place}
use Rattle.sail_types.specs.declared.numbers.Con.{Con}
use Rattle.sail_types.specs.declared.numbers.Con.TheVariants as C
use Rattle.sail_types.specs.declared.shapes.Shape.{Shape}
use Rattle.sail_core.specs.Making.{World, nothing, truth}
use Rattle.sail_core.specs.Meaning.{kind_meaning, met_at}
use Rattle.sail_core.specs.Run.{Run, gives, if_so, ◌then◌}
use Rattle.sail_core.specs.declared.tree.Kind.TheVariants as K
use Rattle.value_indices.specs.Steps.{Walk, assume, bind, give, scoped}
use Rattle.value_indices.specs.declared.indices.Indices.{Indices, out-Indices, roll-Indices}
use Rattle.value_indices.specs.declared.indices.Indices.TheOpen as W
use Rattle.value_indices.specs.declared.indices.Indices.TheOpen.{Indices-F}
use Rattle.value_indices.specs.declared.indices.Indices.TheVariants as I
use Rattle.value_indices.specs.declared.indices.Indices.TheViews.{roll-out-Indices}
use Rattle.value_indices.specs.declared.indices.Reading.{Reading}
use Rattle.value_indices.specs.declared.notes.Fact.{Fact}
use Rattle.pattern_leaves.specs.Settings.{Around, Scope}
use Rattle.call_arguments.specs.Aims.{branch_aim, wanted}
use Rattle.call_arguments.specs.declared.aims.Aim.{Aim}
use Rattle.call_arguments.specs.declared.aims.Aim.TheVariants as Aims
use Rattle.call_notes.specs.Ends.{wrong_value}
use Rattle.expression_forms.specs.Truths.{claim_of, truth_of}
use Rattle.expression_steps.specs.Expressions.{kind_walk, node_end}
use Rattle.expression_steps.specs.Parts.{Part, truth_walk, under}
use Rattle.expression_steps.specs.Statements.{branches_forms, claim_behind, claim_met, either_met, either_walk, if_end, if_forms, if_state, if_under, if_ways}
use Rattle.expression_steps.specs.Statements.{met_condition, unit_form, unit_of, unit_under, value_met, when_met, when_under}
use Rattle.checked_meaning.specs.Items.{Item}
use Rattle.value_laws.specs.Belonging.{standing}
use Rattle.value_laws.specs.Known.{Point}
use Rattle.soundness_steps.proofs.Points.{agree_on}
use Rattle.soundness_steps.specs.Works.{Kept, Scene, here}
use Rattle.soundness_steps.specs.Steps.{Beside, Grows, Walks}
use Rattle.soundness_steps.specs.Values.{AimSteady, Claims, Comes, Is, IsTrue}
use Rattle.soundness_steps.proofs.Steps.{binds, given_back, regrouped, rests, scopes, walks_mean, walks_on, walks_then}
use Rattle.soundness_forms.specs.EachKind.{KindFine, PartsFine, node}
use Rattle.soundness_forms.specs.Forms.{Fine, FitsSuffice, at}
use Rattle.soundness_forms.specs.Joins.{FreeJoining, MetGrows}
use Rattle.soundness_forms.specs.Standing.{Standing, is_branch, is_value, kind_right}
use Rattle.soundness_forms.specs.Worlds.{Surrounds}
use Rattle.soundness_forms.proofs.Basics.{aim_on, settles, then_walks, wrong_walks, wrongs}
use Rattle.soundness_forms.proofs.Branches.{branch_steady, else_runs, if_fine, not_is, sides, tested_first, then_runs, truth_runs, under_grows, under_runs}
use Rattle.soundness_forms.proofs.Casts.{comes_is, free_is}
use Rattle.soundness_forms.proofs.Growth.{grows_assume, grows_bind, grows_end, grows_give, grows_scoped, grows_settled, grows_wrong}
use Rattle.soundness_forms.proofs.Guards.{branch_fine}
use Rattle.soundness_forms.proofs.JoinGrowth.{AgreementCounts, meeting_grows}
use Rattle.soundness_forms.proofs.Joins.{came, runs_over, unit_is, z}
use Rattle.soundness_forms.proofs.PlainKinds.{fine_at, value_fine}
use Rattle.soundness_forms.proofs.Tests.{TruthIs, never_value}
use Rattle.soundness_forms.proofs.Throwing.{truth_grows}
use Rattle.soundness_forms.proofs.Worlds.{surrounds_on}
use Rattle.soundness_joins.proofs.JoinedKinds.{Row, by_rows, parts, runs, standings}

-- ---- what a branch claims behind it, where the other one never ends

module _ (q : Scene) {n : ℕ} {f : Point n} where
  then_claims : (ends other : Bool) (c : Con) → ends ≡ false → IsTrue q.set q.work f c → Claims q.set q.work f (claim_of ends other c)
  then_claims true other c e is = absurd (cc)
  then_claims false true c e is = is
  then_claims false false c e is = tt

  else_claims : (other ends : Bool) (c : Con) → ends ≡ false → IsTrue q.set q.work f (C.Not c) → Claims q.set q.work f (claim_of other ends c)
  else_claims other true c e is = absurd (cc)
  else_claims true false c e is = is
  else_claims false false c e is = tt

  false_is : (c : Con) → TruthIs q f (Some c) false → IsTrue q.set q.work f (C.Not c)
  false_is c is h a = not_is (standing q.set.past h) c ∙ ap not (is h a)

-- ---- another number of parts is wrong

module _ (q : Scene) (w : World Item) (place : Place) (k : ℕ) (shape : Shape) where
  wrong_if : (ps : List Part) (r : Run Item Item)
      → ((around : Around) (scope : Scope) (aim : Aim) → branches_forms place k shape ps around scope aim ≡ give None)
      → ((around : Around) (aim : Aim) (m : Option (Con × Indices)) → if_end place ps around aim m ≡ wrong_value place)
      → ((m : Option (Con × Indices)) → claim_behind place ps m ≡ bind (wrong_value place) (λ i. give None))
      → Fine q w false false (node q w place k (K.If shape) ps) r
  wrong_if ps r none ends claims = record {
    walks = λ names falls g n f facts scope aim there st.
        subst (λ v. Beside (at q w names falls) n f facts (bind (bind v (if_end place ps (here q) aim)) (node_end k false)) r
        (λ m d i x. Comes q.set q.work d false true (node q w place k (K.If shape) ps).never_ends aim i x)) (sym (none (here q) scope aim))
        (walks_then (node_end k false) (ended names falls n f facts aim) (λ m d fs i l e. absurd e));
    states = λ names falls g n f facts scope there.
        subst (λ v. Beside (at q w names falls) n f facts (bind v (claim_behind place ps)) r
        (λ m d c x. Claims q.set q.work d c × ((node q w place k (K.If shape) ps).never_ends ≡ false))) (sym (none (here q) scope Aims.Free))
        (walks_then (claim_behind place ps) {Holds = λ m d e. Unit {0}} (given_back None tt) (λ m d fs e l u.
        subst (λ v. Beside (at q w names falls) m d fs v r
        (λ j p c x. Claims q.set q.work p c × ((node q w place k (K.If shape) ps).never_ends ≡ false))) (sym (claims e))
        (then_walks (λ i. give None) {Holds = λ j p i x. ⊥} (wrongs place r) (λ j p gs i x l2 b. absurd b))));
    grows = λ around scope aim. grows_bind (if_forms place k shape ps around scope aim) (node_end k false)
        (grows_bind (branches_forms place k shape ps around scope aim) (if_end place ps around aim)
        (subst (λ v. Grows v) (sym (none around scope aim)) (grows_give None)) (λ m. subst (λ v. Grows v) (sym (ends around aim m)) (grows_wrong place)))
        (grows_end k false);
    state_grows = λ around scope. grows_bind (branches_forms place k shape ps around scope Aims.Free) (claim_behind place ps)
        (subst (λ v. Grows v) (sym (none around scope Aims.Free)) (grows_give None)) (λ m. subst (λ v. Grows v) (sym (claims m))
        (grows_bind (wrong_value place) (λ i. give None) (grows_wrong place) (λ i. grows_give None)));
  }
    where
      ended : (names : List Kept) (falls : Bool) (n : ℕ) (f : Point n) (facts : List Fact) (aim : Aim)
          → Walks (at q w names falls) n f facts (bind (give None) (if_end place ps (here q) aim)) (λ m d i. ⊥)
      ended names falls n f facts aim = walks_on (if_end place ps (here q) aim) {Holds = λ m d e. Unit {0}} (given_back None tt) (λ m d fs e l u.
          subst (λ v. Walks (at q w names falls) m d fs v (λ j p i. ⊥)) (sym (ends (here q) aim e)) (wrong_walks place))

-- ---- with two ways

module _ (free : FreeJoining) (q : Scene) (w : World Item) (scope : Scope) (place : Place) (k : ℕ) (shape : Shape) (a b : Part) (ra rb : Run Item Item)
    (ha : Fine q w true false a ra) (hb : Fine q w true false b rb) where
  abbrev Claimed : (m : ℕ) → Point m → Option (Con × Indices) → Type 0
  Claimed m g e = Claims q.set q.work g (claim_met a.never_ends b.never_ends (met_condition e)) × ((a.never_ends && b.never_ends) ≡ false)

  either_claims : {n : ℕ} {f : Point n} {facts : List Fact} (o : Option Con) (t : Bool) → Surrounds q w f scope → TruthIs q f o t
      → Beside q n f facts (either_met place k shape a b (here q) scope Aims.Free o) (met_at (z q) k (sides q ra rb t))
      (λ m g e x. Claimed m g e)
  either_claims None t there is = absurd is
  either_claims (Some c) true there is =
      then_walks (λ i. give (Some (c, i))) (then_runs free q w scope place k shape a b ra rb ha hb Aims.Free c there tt is) (λ m g fs i x l e.
      given_back (Some (c, i)) (
        then_claims q a.never_ends b.never_ends c e.ends (λ h d. is h (agree_on l d)),
        ap (λ d. d && b.never_ends) e.ends,
      ))
  either_claims (Some c) false there is =
      then_walks (λ i. give (Some (c, i))) (else_runs free q w scope place k shape a b ra rb ha hb Aims.Free c there tt is) (λ m g fs i x l e.
      given_back (Some (c, i)) (
        else_claims q a.never_ends b.never_ends c e.ends (false_is q c (λ h d. is h (agree_on l d))),
        last a.never_ends b.never_ends e.ends,
      ))
    where
      last : (s t : Bool) → t ≡ false → (s && t) ≡ false
      last true t e = e
      last false t e = refl

  if_claims : {n : ℕ} {f : Point n} {facts : List Fact} (c : Part) (rc : Run Item Item) → Fine q w false false c rc → Surrounds q w f scope
      → Beside q n f facts (if_state place k shape (c ∷ a ∷ b ∷ []) (here q) scope) (kind_meaning (z q) w place k (K.If shape) (rc ∷ ra ∷ rb ∷ []))
      (λ m g d x. Claims q.set q.work g d × ((a.never_ends && b.never_ends) ≡ false))
  if_claims c rc hc there =
      then_walks (claim_behind place (c ∷ a ∷ b ∷ [])) {Holds = λ m g e x. Claimed m g e}
      (tested_first k rc ra rb
      (binds (either_met place k shape a b (here q) scope Aims.Free) (λ t. met_at (z q) k (sides q ra rb t)) (truth_runs q w scope c rc hc there)
      (λ m g fs o t l is. either_claims o t (surrounds_on q w scope l there) is)))
      (λ m g fs e x l d. given_back (claim_met a.never_ends b.never_ends (met_condition e)) d)

-- ---- with one way

unit_grows : (place : Place) (y : Indices-F Indices Reading) → Grows (unit_form place y)
unit_grows place W.Unit = grows_give I.Unit
unit_grows place W.Never = grows_give I.Unit
unit_grows place W.Bit = grows_wrong place
unit_grows place (W.Bits t) = grows_wrong place
unit_grows place (W.Truth c) = grows_wrong place
unit_grows place (W.Integer t) = grows_wrong place
unit_grows place W.String = grows_wrong place
unit_grows place (W.List r) = grows_wrong place
unit_grows place (W.Vector t r) = grows_wrong place
unit_grows place (W.Tuple is) = grows_wrong place
unit_grows place (W.Named v is rs) = grows_wrong place
unit_grows place (W.Variable j) = grows_wrong place

module _ (q : Scene) (w : World Item) (scope : Scope) (place : Place) (k : ℕ) (shape : Shape) (a : Part) (ra : Run Item Item)
    (ha : Fine q w true false a ra) where
  abbrev Unclaimed : (m : ℕ) → Point m → Option (Con × Indices) → Item → Type 0
  Unclaimed m g e x = Is q.set q.work g (value_met e) x × Claims q.set q.work g (claim_met a.never_ends false (met_condition e))

  -- the body gives `()`
  abbrev Gives : (m : ℕ) → Point m → Indices → Item → Type 0
  Gives m g j x = Is q.set q.work g I.Unit x × (a.never_ends ≡ false)

  no_unit : {n : ℕ} {f : Point n} {facts : List Fact} (x : Item) → Walks q n f facts (wrong_value a.place) (λ m g j. Gives m g j x)
  no_unit x = walks_mean (λ m g j b. absurd b) (wrong_walks a.place)

  unit_by : {n : ℕ} {f : Point n} {facts : List Fact} (i : Indices) (x : Item) → Is q.set q.work f i x → a.never_ends ≡ false
      → (y : Indices-F Indices Reading) → out-Indices i ≡ y → Walks q n f facts (unit_form a.place y) (λ m g j. Gives m g j x)
  unit_by {n} {f} i x h d W.Unit e =
      given_back I.Unit (subst (λ j. Is q.set q.work f j x) (sym (roll-out-Indices i) ∙ ap roll-Indices e ∙ I.rolls-Unit) h, d)
  unit_by i x h d W.Never e = absurd (never_value q i x h e)
  unit_by i x h d W.Bit e = no_unit x
  unit_by i x h d (W.Bits t) e = no_unit x
  unit_by i x h d (W.Truth c) e = no_unit x
  unit_by i x h d (W.Integer t) e = no_unit x
  unit_by i x h d W.String e = no_unit x
  unit_by i x h d (W.List r) e = no_unit x
  unit_by i x h d (W.Vector t r) e = no_unit x
  unit_by i x h d (W.Tuple is) e = no_unit x
  unit_by i x h d (W.Named v is rs) e = no_unit x
  unit_by i x h d (W.Variable j) e = no_unit x

  abbrev one : Con → Walk Indices
  one c = unit_under c a (here q) scope

  body_runs : {n : ℕ} {f : Point n} {facts : List Fact} (c : Con) → Surrounds q w f scope → TruthIs q f (Some c) true
      → Beside q n f facts (when_under a (here q) scope c) ((z q).inside ra) (λ m g i x. Is q.set q.work g i x × (a.never_ends ≡ false))
  body_runs {n} {f} {facts} c there is =
      then_walks (λ i. give I.Unit) {Holds = Gives}
      (scopes (then_walks (unit_of a.place) (under_runs q w scope a ra true ha c Aims.Free there tt is) (λ m g fs i x l e.
      unit_by i x (free_is true a.is_nested a.never_ends i x e) e.ends (out-Indices i) refl)))
      (λ m g fs i x l e. given_back I.Unit e)

  when_runs : {n : ℕ} {f : Point n} {facts : List Fact} (o : Option Con) (t : Bool) → Surrounds q w f scope → TruthIs q f o t
      → Beside q n f facts (when_met a (here q) scope o) (if_so ((z q).inside ra) (gives (nothing (z q))) t) (λ m g e x. Unclaimed m g e x)
  when_runs None t there is = absurd is
  when_runs (Some c) true there is =
      then_walks (λ i. give (Some (c, i))) (body_runs c there is) (λ m g fs i x l e.
      given_back (Some (c, i)) (e.0, then_claims q a.never_ends false c e.1 (λ h d. is h (agree_on l d))))
  when_runs {n} {f} {facts} (Some c) false there is =
      runs_over {q = q} (λ i. give (Some (c, i))) (λ i. I.Unit) (one c)
      (grows_bind (under c a (here q) scope Aims.Free) (unit_of a.place) (under_grows q w scope a ra true ha c Aims.Free) (λ i.
      unit_grows a.place (out-Indices i))) (λ g l.
      rests (nothing (z q)) (given_back (Some (c, I.Unit)) (
        unit_is q g,
        else_claims q a.never_ends false c refl (false_is q c (λ h d. is h (agree_on l d))),
      )))

  abbrev taken : Bool → Run Item Item
  taken = if_so ((z q).inside ra) (gives (nothing (z q)))

  branch_runs : {n : ℕ} {f : Point n} {facts : List Fact} (c : Part) (rc : Run Item Item) → Fine q w false false c rc → Surrounds q w f scope
      → Beside q n f facts (bind (truth_walk c (here q) scope) (when_met a (here q) scope)) (rc then λ x. truth (z q) x then taken)
      (λ m g e x. Unclaimed m g e x)
  branch_runs c rc hc there =
      regrouped rc (truth (z q)) taken
      (binds (when_met a (here q) scope) taken (truth_runs q w scope c rc hc there) (λ m g fs o t l is.
      when_runs o t (surrounds_on q w scope l there) is))

  -- what the branch's aim settles is what is wanted
  settled_met : {n : ℕ} {f : Point n} (aim : Aim) (i : Indices) (x : Item) → Comes q.set q.work f false false false (branch_aim aim) i x
      → Comes q.set q.work f false true false aim i x
  settled_met Aims.Free i x h = came q Aims.Free false i x (comes_is false false Aims.Free i x h) tt refl
  settled_met (Aims.Given r) i x h = came q (Aims.Given r) false i x (comes_is false false (Aims.Due r) i x h) h.met refl
  settled_met (Aims.PartOf r) i x h = came q (Aims.PartOf r) false i x (comes_is false false (Aims.Due r) i x h) tt refl
  settled_met (Aims.Due r) i x h = came q (Aims.Due r) false i x (comes_is false false (Aims.Due r) i x h) h.met refl

  when_fine : {n : ℕ} {f : Point n} {facts : List Fact} (fit : FitsSuffice) (aim : Aim) (c : Part) (rc : Run Item Item) → Fine q w false false c rc
      → Surrounds q w f scope → AimSteady q.set q.work f aim
      → Beside q n f facts (kind_walk place k (K.If shape) (c ∷ a ∷ []) (here q) scope aim)
      (kind_meaning (z q) w place k (K.If shape) (rc ∷ ra ∷ [])) (λ m g i x. Comes q.set q.work g false true false aim i x)
  when_fine {n} {f} fit aim c rc hc there st =
      then_walks (λ i. give i)
      (then_walks (if_end place (c ∷ a ∷ []) (here q) aim) (branch_runs c rc hc there) (λ m g fs e x l d.
      walks_mean (λ j p i h. settled_met aim i x h)
      (settles fit place (branch_aim aim) (value_met e) x (aim_on q.set q.work (branch_aim aim) l (branch_steady q f aim st)) d.0)))
      (λ m g fs i x l d. given_back i d)

  when_claims : {n : ℕ} {f : Point n} {facts : List Fact} (c : Part) (rc : Run Item Item) → Fine q w false false c rc → Surrounds q w f scope
      → Beside q n f facts (if_state place k shape (c ∷ a ∷ []) (here q) scope) (kind_meaning (z q) w place k (K.If shape) (rc ∷ ra ∷ []))
      (λ m g d x. Claims q.set q.work g d × (false ≡ false))
  when_claims c rc hc there =
      then_walks (claim_behind place (c ∷ a ∷ [])) (branch_runs c rc hc there) (λ m g fs e x l d.
      given_back (claim_met a.never_ends false (met_condition e)) (d.1, refl))

-- ---- walks count variables on, and leave what is in force

module _ (met : MetGrows) (agree : AgreementCounts) (around : Around) (scope : Scope) where
  truth_on : (c : Part) → Grows (c.walk around scope Aims.Free) → Grows (truth_walk c around scope)
  truth_on c h = grows_bind (c.walk around scope Aims.Free) (truth_of c.place) h (λ i. truth_grows c.place i (out-Indices i))

  under_on : (c : Con) (a : Part) (aim : Aim) → Grows (a.walk around scope aim) → Grows (under c a around scope aim)
  under_on c a aim h = grows_bind (assume c) (λ t. a.walk around scope aim) (grows_assume c) (λ t. h)

  either_on : (place : Place) (k : ℕ) (shape : Shape) (a b : Part) (aim : Aim) → Grows (a.walk around scope (branch_aim aim))
      → Grows (b.walk around scope (branch_aim aim)) → (o : Option Con) → Grows (either_met place k shape a b around scope aim o)
  either_on place k shape a b aim h l None = grows_give None
  either_on place k shape a b aim h l (Some c) =
      grows_bind (if_under place k shape a b around scope aim c) (λ i. give (Some (c, i)))
      (meeting_grows met agree around place k shape (wanted aim) (if_ways a b around scope aim c)
      (under_on c a (branch_aim aim) h, (under_on (C.Not c) b (branch_aim aim) l, tt))) (λ i. grows_give (Some (c, i)))

  both_on : (place : Place) (k : ℕ) (shape : Shape) (c a b : Part) (aim : Aim) → Grows (c.walk around scope Aims.Free)
      → Grows (a.walk around scope (branch_aim aim)) → Grows (b.walk around scope (branch_aim aim))
      → Grows (either_walk place k shape c a b around scope aim)
  both_on place k shape c a b aim hc ha hb =
      grows_bind (truth_walk c around scope) (either_met place k shape a b around scope aim) (truth_on c hc) (either_on place k shape a b aim ha hb)

  when_on : (a : Part) → Grows (a.walk around scope Aims.Free) → (o : Option Con) → Grows (when_met a around scope o)
  when_on a h None = grows_give None
  when_on a h (Some c) = grows_bind (when_under a around scope c) (λ i. give (Some (c, i)))
      (grows_bind (scoped (unit_under c a around scope)) (λ i. give I.Unit)
      (grows_scoped (unit_under c a around scope)
      (grows_bind (under c a around scope Aims.Free) (unit_of a.place) (under_on c a Aims.Free h) (λ i. unit_grows a.place (out-Indices i))))
      (λ i. grows_give I.Unit)) (λ i. grows_give (Some (c, i)))

-- ---- the kind

module _ (fit : FitsSuffice) (free : FreeJoining) (met : MetGrows) (agree : AgreementCounts) (q : Scene) (w : World Item) (shape : Shape) where
  abbrev RowsFine : Place → ℕ → List Standing → List Part → List (Run Item Item) → Type 0
  RowsFine place k ss ps rs = kind_right q.set.around (K.If shape) ss ≡ true
      → Fine q w false false (node q w place k (K.If shape) ps) (kind_meaning (z q) w place k (K.If shape) rs)

  if_rows : (place : Place) (k : ℕ) (ts : List Row) → PartsFine q w (standings ts) (parts ts) (runs ts)
      → RowsFine place k (standings ts) (parts ts) (runs ts)
  if_rows place k (c ∷ a ∷ b ∷ []) h right =
      let one = and_parts (is_value c.0) (list_all is_branch (a.0 ∷ b.0 ∷ [])) right in
      let two = and_parts (is_branch a.0) (list_all is_branch (b.0 ∷ [])) one.1 in
      let three = and_parts (is_branch b.0) true two.1 in
      let hc = value_fine q w c.0 c.1 c.2 one.0 h.0 in
      let ha = branch_fine q w a.0 a.1 a.2 two.0 h.1.0 in
      let hb = branch_fine q w b.0 b.1 b.2 three.0 h.1.1.0 in
      record {
        walks = λ names falls g n f facts scope aim there st.
            if_fine free (at q w names falls) w scope place k shape a.1 b.1 a.2 b.2 (fine_at q w names falls ha) (fine_at q w names falls hb) aim
            c.1 c.2 (fine_at q w names falls hc) there st;
        states = λ names falls g n f facts scope there.
            if_claims free (at q w names falls) w scope place k shape a.1 b.1 a.2 b.2 (fine_at q w names falls ha) (fine_at q w names falls hb)
            c.1 c.2 (fine_at q w names falls hc) there;
        grows = λ around scope aim. grows_bind (if_forms place k shape (c.1 ∷ a.1 ∷ b.1 ∷ []) around scope aim) (node_end k false)
            (grows_bind (either_walk place k shape c.1 a.1 b.1 around scope aim) (if_end place (c.1 ∷ a.1 ∷ b.1 ∷ []) around aim)
            (both_on met agree around scope place k shape c.1 a.1 b.1 aim (hc.grows around scope Aims.Free) (ha.grows around scope (branch_aim aim))
            (hb.grows around scope (branch_aim aim))) (λ e. grows_give (value_met e))) (grows_end k false);
        state_grows = λ around scope. grows_bind (either_walk place k shape c.1 a.1 b.1 around scope Aims.Free)
            (claim_behind place (c.1 ∷ a.1 ∷ b.1 ∷ []))
            (both_on met agree around scope place k shape c.1 a.1 b.1 Aims.Free (hc.grows around scope Aims.Free) (ha.grows around scope Aims.Free)
            (hb.grows around scope Aims.Free)) (λ e. grows_give (claim_met a.1.never_ends b.1.never_ends (met_condition e)));
      }
  if_rows place k (c ∷ a ∷ []) h right =
      let one = and_parts (is_value c.0) (list_all is_branch (a.0 ∷ [])) right in
      let two = and_parts (is_branch a.0) true one.1 in
      let hc = value_fine q w c.0 c.1 c.2 one.0 h.0 in
      let ha = branch_fine q w a.0 a.1 a.2 two.0 h.1.0 in
      record {
        walks = λ names falls g n f facts scope aim there st.
            when_fine (at q w names falls) w scope place k shape a.1 a.2 (fine_at q w names falls ha) fit aim c.1 c.2
            (fine_at q w names falls hc) there st;
        states = λ names falls g n f facts scope there.
            when_claims (at q w names falls) w scope place k shape a.1 a.2 (fine_at q w names falls ha) c.1 c.2
            (fine_at q w names falls hc) there;
        grows = λ around scope aim. grows_bind (if_forms place k shape (c.1 ∷ a.1 ∷ []) around scope aim) (node_end k false)
            (grows_bind (branches_forms place k shape (c.1 ∷ a.1 ∷ []) around scope aim) (if_end place (c.1 ∷ a.1 ∷ []) around aim)
            (grows_bind (truth_walk c.1 around scope) (when_met a.1 around scope) (truth_on met agree around scope c.1 (hc.grows around scope Aims.Free))
            (when_on met agree around scope a.1 (ha.grows around scope Aims.Free)))
            (λ e. grows_settled around place (branch_aim aim) (value_met e))) (grows_end k false);
        state_grows = λ around scope. grows_bind (branches_forms place k shape (c.1 ∷ a.1 ∷ []) around scope Aims.Free) (claim_behind place (c.1 ∷ a.1 ∷ []))
            (grows_bind (truth_walk c.1 around scope) (when_met a.1 around scope) (truth_on met agree around scope c.1 (hc.grows around scope Aims.Free))
            (when_on met agree around scope a.1 (ha.grows around scope Aims.Free)))
            (λ e. grows_give (claim_met a.1.never_ends false (met_condition e)));
      }
  if_rows place k [] h right =
      wrong_if q w place k shape [] _ (λ around scope aim. refl) (λ around aim m. refl) (λ m. refl)
  if_rows place k (c ∷ []) h right =
      wrong_if q w place k shape (c.1 ∷ []) _ (λ around scope aim. refl) (λ around aim m. refl) (λ m. refl)
  if_rows place k (c ∷ a ∷ b ∷ d ∷ ts) h right =
      wrong_if q w place k shape (parts (c ∷ a ∷ b ∷ d ∷ ts)) _ (λ around scope aim. refl) (λ around aim m. refl) (λ m. refl)

  pub if_kind : KindFine q w (K.If shape)
  if_kind place k ss ps rs h right = by_rows q w (RowsFine place k) (if_rows place k) ss ps rs h right
