-- `try`, beside its run.
use Rattle.std.proofs.Common.{◌≡◌, ℕ, pos, true, false, List, [], ◌∷◌, ◌++◌, length, Option, Some, None, refl, sym, ap, ◌∙◌, subst, arith}
use Rattle.std.proofs.lemmas.List.{append-nil}
use Rattle.std.specs.Prelude.{is_none}
use Rattle.sail_base.specs.declared.place.Place.{Place}
use Rattle.sail_types.specs.Belongs.{no_readings}
use Rattle.sail_types.specs.declared.shapes.Shape.{Shape}
use Rattle.sail_types.specs.declared.types.Typ.TheOpen as T
use Rattle.sail_types.specs.declared.types.Typ.TheVariants as U
use Rattle.sail_types.specs.declared.values.Value.{Value, Value-F, out-Value}
use Rattle.sail_types.specs.declared.values.Value.TheOpen as V
use Rattle.sail_core.specs.Making.{World, made, nothing}
use Rattle.sail_core.specs.Meaning.{first_of, kind_meaning, met_at}
use Rattle.sail_core.specs.Run as R
use Rattle.sail_core.specs.Run.{Now, Ended, Run, caught, gives, goes_on, throws, ◌then◌}
use Rattle.sail_core.specs.declared.patterns.Arm.{Arm}
use Rattle.sail_core.specs.declared.tree.Giver.TheVariants as By
use Rattle.sail_core.specs.declared.tree.Kind.TheVariants as K
use Rattle.value_indices.specs.declared.indices.Indices.{Indices}
use Rattle.value_indices.specs.declared.indices.Indices.TheFolds.{fold-roll-Indices}
use Rattle.value_indices.specs.declared.indices.Indices.TheOpen as W
use Rattle.value_indices.specs.declared.indices.Indices.TheVariants as I
use Rattle.value_indices.specs.declared.notes.Fact.{Fact}
use Rattle.value_indices.specs.declared.notes.Made.TheVariants as Makes
use Rattle.value_indices.specs.Steps.{given_note, give, made_note, went}
use Rattle.pattern_leaves.specs.Settings.{Scope}
use Rattle.pattern_notes.specs.Patterns.{arm_match}
use Rattle.call_arguments.specs.Aims.{branch_aim, wanted}
use Rattle.call_arguments.specs.declared.aims.Aim.{Aim}
use Rattle.call_notes.specs.Noted.{names_given, node_ended, numbers_given, numbers_noted}
use Rattle.expression_forms.specs.Meeting.{thrown}
use Rattle.expression_steps.specs.Expressions.{kind_walk}
use Rattle.expression_steps.specs.Parts.{Part}
use Rattle.expression_steps.specs.Statements.{case_names, case_ways, caught_at, each_way, try_over, try_way, way_behind}
use Rattle.checked_meaning.specs.Checked.{checked}
use Rattle.checked_meaning.specs.Items.{Item}
use Rattle.value_laws.specs.Belonging.{form_holds, meant, standing}
use Rattle.value_laws.specs.Known.{Point}
use Rattle.value_laws.proofs.Arguments.{assigned_there}
use Rattle.value_laws.proofs.Basics.{no}
use Rattle.value_laws.proofs.Meanings.{named_same}
use Rattle.value_laws.proofs.Values.{belongs_form, form_asked, meant_is}
use Rattle.soundness_steps.proofs.Points.{no_later}
use Rattle.soundness_steps.specs.Works.{Scene, here}
use Rattle.soundness_steps.specs.Noted.{form_gives, type_gives, variables_given, with_given}
use Rattle.soundness_steps.specs.States.{IsThrown, Sound, nothing_stands}
use Rattle.soundness_steps.specs.Steps.{Beside, EndsWell, Reach, Walks, well_thrown}
use Rattle.soundness_steps.specs.Values.{AimSteady, Comes, Has, Is}
use Rattle.soundness_steps.proofs.Scenes.{falling}
use Rattle.soundness_steps.proofs.Steps.{binds, given_back, gives_numbers, makes, means, notes, rests, runs_as, walks_on, walks_then}
use Rattle.soundness_forms.specs.Forms.{Fine}
use Rattle.soundness_forms.specs.Joins.{AllGrow, FreeJoining}
use Rattle.soundness_forms.specs.Patterns.{AllMatch}
use Rattle.soundness_forms.specs.Worlds.{Surrounds}
use Rattle.soundness_forms.proofs.Basics.{aim_on, ended_alike, has_on, has_there, is_on, then_walks}
use Rattle.soundness_forms.proofs.Branches.{branch_steady}
use Rattle.soundness_forms.proofs.Cases.{ArmsGrow, Bodies, cases_run}
use Rattle.soundness_forms.proofs.Casts.{no_guard}
use Rattle.soundness_forms.proofs.Giving.{gives_all}
use Rattle.soundness_forms.proofs.Growth.{grows_bind}
use Rattle.soundness_forms.proofs.Joins.{joined, joining, met_behind_all, runs_past, z}
use Rattle.soundness_forms.proofs.NamesGiven.{names_grow}
use Rattle.soundness_forms.proofs.Worlds.{surrounds_on}
use Rattle.soundness_joins.proofs.Pieces.{then_runs}

-- ---- what is thrown

exception_given : (o : Option ℕ) → variables_given (thrown o) ≡ []
exception_given None = ap variables_given (sym I.rolls-Never) ∙ fold-roll-Indices (List ℕ) (List ℕ) form_gives type_gives W.Never
exception_given (Some u) = ap variables_given (sym (I.rolls-Named u [] [])) ∙ fold-roll-Indices (List ℕ) (List ℕ) form_gives type_gives (W.Named u [] [])

module _ (q : Scene) where
  exception_so : (u : ℕ) (w : Value-F Value) → form_asked q.set.around.types w (T.Named u [] []) (nothing_stands q.set.past) no_readings ≡ true
      → form_holds q.set.around.types (nothing_stands q.set.past) q.work.types (W.Named u [] []) w ≡ true
  exception_so u (V.Member i k) h = h
  exception_so u (V.Struct i vs) h = h
  exception_so u (V.Union i k v) h = h
  exception_so u w h = no h

  thrown_has : {n : ℕ} (f : Point n) (o : Option ℕ) (v : Value) → IsThrown q.set o v → Has q.set q.work f (thrown o) v
  thrown_has f None v h = absurd h
  thrown_has f (Some u) v h =
      let types = q.set.around.types in
      let past = q.set.past in
      let own = q.work.types in record {
        meaning = meant types (nothing_stands past) own (I.Named u [] []);
        is_so = ap (λ m. m.holds v) (meant_is types (nothing_stands past) own (I.Named u [] []) (W.Named u [] []) (I.rolls-Named u [] []))
            ∙ exception_so u (out-Value v)
            (sym (belongs_form types v (T.Named u [] []) (U.Named u [] []) (nothing_stands past) no_readings (U.rolls-Named u [] [])) ∙ h);
        steady = λ g a. meant_is types (standing past g) own (I.Named u [] []) (W.Named u [] []) (I.rolls-Named u [] [])
            ∙ named_same types past own g (λ i. pos 0) u [] [] [] [] (sym (assigned_there past g []) ∙ assigned_there past (λ i. pos 0) []) refl refl
            ∙ sym (meant_is types (nothing_stands past) own (I.Named u [] []) (W.Named u [] []) (I.rolls-Named u [] []));
      }

  -- ---- the node that catches it

  numbers_pass : {n : ℕ} {f : Point n} {facts : List Fact} (j : Indices) → variables_given j ≡ [] → Walks q n f facts (numbers_given j) (λ m g t. Unit {0})
  numbers_pass {n} {f} {facts} j e = record {
    go = λ noted stands met.
        let is : numbers_given j facts n ≡ went tt facts n [] =
        gives_all j facts n ∙ ap (λ vs. went tt (with_given facts vs) n []) e ∙ ap (λ fs. went tt fs n []) (append-nil facts) in
        subst (λ r. Reach q.set q.work noted f r.next r.facts (λ p. Unit {0})) (sym is)
        (record { point = f; later = no_later f; stands = stands; holds = tt });
  }

  -- behind which the same is in force
  catch_passes : {n : ℕ} {f : Point n} {facts : List Fact} (k : ℕ) (o : Option ℕ) → Walks q n f facts (caught_at k (thrown o)) (λ m g t. Unit {0})
  catch_passes k o =
      walks_on (numbers_noted k) {Holds = λ m g j. j ≡ thrown o}
      (walks_on (λ t. give (thrown o)) (notes (λ fs. made_note fs k [] (Makes.ByIndices (thrown o)))) (λ m g fs t l h. given_back (thrown o) refl))
      (λ m g fs j l e. walks_on (λ t. numbers_given j) (notes (λ gs. given_note gs (By.Node k) j)) (λ m2 g2 fs2 t l2 h.
      numbers_pass j (ap variables_given e ∙ exception_given o)))

  node_is : {n : ℕ} {f : Point n} {facts : List Fact} (k : ℕ) (i : Indices) (v : Value) → Has q.set q.work f i v
      → Beside q n f facts (node_ended k [] i) ((checked q.set.around.types q.cases).make k [] v) (λ m g j y. (j ≡ i) × Is q.set q.work g i y)
  node_is k i v h = then_walks (λ t. give i) (makes k [] (Makes.ByIndices i) [] v tt (has_there h)) (λ m g fs t y l e.
      given_back i (refl, record { has = subst (Has q.set q.work g i) (sym e.0) (has_on l h); typ = e.1 }))

  catch_made : {n : ℕ} {f : Point n} {facts : List Fact} (k : ℕ) (i : Indices) (v : Value) → Has q.set q.work f i v
      → Beside q n f facts (caught_at k i) (made (checked q.set.around.types q.cases) k [] v) (λ m g t x. Is q.set q.work g i x)
  catch_made k i v h =
      let z = checked q.set.around.types q.cases in
      runs_as (λ now. ended_alike q.set.around.types q.cases k (λ (t : Unit {0}). []) (λ t. v) (R.Gives tt now))
      (binds (numbers_noted k) (λ x. z.note (By.Node k) x.val then λ t. gives x) (node_is k i v h) (λ m g fs j x l d.
      then_runs (λ t. gives x)
      (gives_numbers (By.Node k) j x.val (numbers_given j) (gives_all j) (has_there (subst (λ e. Has q.set q.work g e x.val) (sym d.0) d.1.has)))
      (λ m2 g2 fs2 a u l2 b. rests x (given_back tt (is_on l2 d.1)))))

thrown_well : {q : Scene} {n : ℕ} {f : Point n} {m : ℕ} {fs : List Fact} {B : Type 0} {Holds : Point m → B → Type 0} {v : Value} {now : Now Item}
    → EndsWell q f m fs Holds (R.Throws v now) → IsThrown q.set q.set.around.exception v × Sound q now
thrown_well (well_thrown v now b s) = (b, s)

-- what goes on behind a piece, or behind what catches what it throws
catches : {q : Scene} {n : ℕ} {f : Point n} {m : ℕ} {fs : List Fact} {Holds : Point m → Item → Type 0} (e : Ended Item Item) (catch : Value → Run Item Item)
    (next : Item → Run Item Item) → EndsWell q f m fs Holds (goes_on e next)
    → ((v : Value) (now : Now Item) → IsThrown q.set q.set.around.exception v → Sound q now → EndsWell q f m fs Holds (goes_on (catch v now) next))
    → EndsWell q f m fs Holds (goes_on (caught e catch) next)
catches (R.Gives x now) catch next h k = h
catches (R.No now) catch next h k = h
catches (R.Returns v now) catch next h k = h
catches (R.Throws v now) catch next h k = let is = thrown_well h in k v now is.0 is.1
catches (R.Stops cause now) catch next h k = h
catches R.Stuck catch next h k = h

-- ---- the whole

module _ (free : FreeJoining) (q : Scene) (w : World Item) (grows : ArmsGrow q w) (scope : Scope) (place : Place) (k : ℕ)
    (shape : Shape) (arms : List Arm) (a : Part) (ra : Run Item Item) (ps : List Part) (rs : List (Run Item Item))
    (ha : Fine q w true false a ra) (ms : AllMatch (falling q) w arms) (hs : Bodies q w arms ps rs) (aim : Aim) where
  abbrev over : Indices
  over = thrown q.set.around.exception

  ways_grow : (cs : List Arm) (bs : List Part) (ds : List (Run Item Item)) → Bodies q w cs bs ds → AllGrow (case_ways place k cs bs (here q) scope aim over)
  ways_grow [] [] [] h = tt
  ways_grow (c ∷ cs) (b ∷ bs) (d ∷ ds) h = (
    grows_bind (case_names (By.Arm k (length cs)) place c (here q) over) (λ found. b.walk (here q) (found ++ scope) (branch_aim aim))
        (grows_bind (arm_match place c (here q) (record { in_case = true; is_owed = false }) (over ∷ [])) (names_given (By.Arm k (length cs)) (over ∷ []))
        (grows place c over) (names_grow (By.Arm k (length cs)) (over ∷ []))) (λ found. h.0.1.grows (here q) (found ++ scope) (branch_aim aim)),
    ways_grow cs bs ds h.1,
  )
  ways_grow [] [] (d ∷ ds) h = absurd h
  ways_grow [] (b ∷ bs) ds h = absurd h
  ways_grow (c ∷ cs) [] ds h = absurd h
  ways_grow (c ∷ cs) (b ∷ bs) [] h = absurd h

  -- the first way, where nothing is thrown
  first_runs : {n : ℕ} {f : Point n} {facts : List Fact} → Surrounds q w f scope → AimSteady q.set q.work f aim
      → Beside q n f facts (try_over place k shape arms a ps (here q) scope aim over) (met_at (z q) k ((z q).inside ra))
      (λ m g i x. Comes q.set q.work g false true false aim i x)
  first_runs {n} {f} {facts} there st =
      let join = joining free q n shape aim in
      joined q aim shape join place k (try_way a (here q) scope aim ∷ case_ways place k arms ps (here q) scope aim over) ((z q).inside ra) false st
      (means (λ m g o y l e. (e.0, refl))
      (join.taken q.may_fall a.is_nested (try_way a (here q) scope aim) (case_ways place k arms ps (here q) scope aim over) ra None n f facts (omega arith)
      (ways_grow arms ps rs hs)
      (ha.walks q.names q.may_fall no_guard n f facts scope (branch_aim aim) there (branch_steady q f aim st))))

  -- what is thrown is matched; what no case takes is thrown on
  catch_runs : {n : ℕ} {f : Point n} {facts : List Fact} (v : Value) (x : Item) → IsThrown q.set q.set.around.exception v → Surrounds q w f scope
      → AimSteady q.set q.work f aim → Is q.set q.work f over x
      → Beside q n f facts (try_over place k shape arms a ps (here q) scope aim over) (met_at (z q) k (first_of (z q) w k arms rs (throws v) (x ∷ [])))
      (λ m g i y. Comes q.set q.work g false true false aim i y)
  catch_runs {n} {f} {facts} v x is there st h =
      let join = joining free q n shape aim in
      joined q aim shape join place k (try_way a (here q) scope aim ∷ case_ways place k arms ps (here q) scope aim over)
      (first_of (z q) w k arms rs (throws v) (x ∷ [])) false st
      (runs_past {q = q} (each_way (here q) (is_none (wanted aim)) n shape (case_ways place k arms ps (here q) scope aim over))
      (way_behind (here q) (is_none (wanted aim)) n shape (try_way a (here q) scope aim) None)
      (join.grows (try_way a (here q) scope aim) None (ha.grows (here q) scope (branch_aim aim)))
      (λ g l. cases_run q w grows scope place k over x aim n shape join (throws v) (λ now ok i e m fs Holds. well_thrown v now is ok) arms ps rs ms hs
      (way_behind (here q) (is_none (wanted aim)) n shape (try_way a (here q) scope aim) None facts n).value
      (let on = l.onward in omega (arith, on)) (surrounds_on q w scope l there) (aim_on q.set q.work aim l st) (is_on l h)))

  pub try_fine : {n : ℕ} {f : Point n} {facts : List Fact} → Surrounds q w f scope → AimSteady q.set q.work f aim
      → Beside q n f facts (kind_walk place k (K.Try arms shape) (a ∷ ps) (here q) scope aim)
      (kind_meaning (z q) w place k (K.Try arms shape) (ra ∷ rs))
      (λ m g i x. Comes q.set q.work g false true false aim i x)
  try_fine {n} {f} {facts} there st =
      then_walks (λ i. give i)
      (record {
        run = λ now stands met ok.
            catches ((z q).inside ra now) (λ v after. (made (z q) k [] v then λ x. first_of (z q) w k arms rs (throws v) (x ∷ [])) ((z q).back now after))
            (λ x. made (z q) k (nothing (z q) ∷ []) x.val)
            ((walks_then (λ t. try_over place k shape arms a ps (here q) scope aim over) (catch_passes q k q.set.around.exception) (λ m g fs t l e.
            first_runs (surrounds_on q w scope l there) (aim_on q.set q.work aim l st))).run now stands met ok)
            (λ v after is ok2.
            (met_behind_all k (made (z q) k [] v) (λ x. first_of (z q) w k arms rs (throws v) (x ∷ []))
            (binds (λ t. try_over place k shape arms a ps (here q) scope aim over)
            (λ x. met_at (z q) k (first_of (z q) w k arms rs (throws v) (x ∷ [])))
            (catch_made q k over v (thrown_has q f q.set.around.exception v is)) (λ m g fs t x l h.
            catch_runs v x is (surrounds_on q w scope l there) (aim_on q.set q.work aim l st) h))).run ((z q).back now after) stands met
            (record { state = ok2.state; names = ok2.names }));
      })
      (λ m g fs i x l d. given_back i d)
