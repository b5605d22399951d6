-- All suffixes behind a value, and the node that they are of.
use Rattle.std.proofs.Common.{◌≡◌, ◌∙◌, ℕ, Bool, true, false, List, [], ◌∷◌, if◌then◌else◌, length, take, drop, nat_eq, nat_lt, Option, Some, refl}
use Rattle.std.proofs.Common.{sym, ap, subst, arith}
use Rattle.std.specs.List.{list_all}
use Rattle.std.proofs.lemmas.Bool.{and_parts}
use Rattle.std.proofs.lemmas.Bool.Decides.{Decides-eqb, nat_tests}
use Rattle.std.proofs.lemmas.List.{length-drop}
use Rattle.sail_base.specs.declared.place.Place.{Place}
use Rattle.sail_core.specs.Making.{World}
use Rattle.sail_core.specs.Meaning.{kind_meaning, suffix_then, suffixes_of, taken as taken_run}
use Rattle.sail_core.specs.Run.{Run, ◌then◌}
use Rattle.sail_core.specs.Values.{field_way}
use Rattle.sail_core.specs.declared.targets.Suffix.{Suffix}
use Rattle.sail_core.specs.declared.targets.Way.{Way}
use Rattle.sail_core.specs.declared.targets.Way.TheVariants as Y
use Rattle.sail_core.specs.declared.tree.Kind.TheVariants as K
use Rattle.value_indices.specs.declared.indices.Indices.{Indices, out-Indices}
use Rattle.value_indices.specs.declared.notes.Fact.{Fact}
use Rattle.value_indices.specs.Steps.{Walk, bind, give}
use Rattle.pattern_leaves.specs.Settings.{Scope}
use Rattle.call_arguments.specs.declared.aims.Aim.{Aim}
use Rattle.call_arguments.specs.declared.aims.Aim.TheVariants as Aims
use Rattle.call_notes.specs.Ends.{settled}
use Rattle.expression_forms.specs.Ways.{if_never_value, into_field}
use Rattle.expression_forms.specs.declared.ways.Reached.{Reached as Reach}
use Rattle.expression_steps.specs.Expressions.{kind_walk, node_end}
use Rattle.expression_steps.specs.Parts.{Part, numbers_walk}
use Rattle.expression_steps.specs.Values.{Passed, Taken, indexes_of, left_after, no_way, part_walk, passed, read_taken, suffixed, suffixes_walk, taken}
use Rattle.expression_steps.specs.Values.{then_on, value_on, way_taken, way_walk}
use Rattle.checked_meaning.specs.Items.{Item}
use Rattle.value_laws.specs.Known.{Point}
use Rattle.soundness_steps.specs.Points.{Later}
use Rattle.soundness_steps.specs.Works.{Scene, here}
use Rattle.soundness_steps.specs.Steps.{Beside, Walks}
use Rattle.soundness_steps.specs.Values.{AimSteady, Comes, Is}
use Rattle.soundness_steps.proofs.Steps.{binds, given_back, rests, walks_on, walks_then}
use Rattle.soundness_forms.specs.EachKind.{PartsFine}
use Rattle.soundness_forms.specs.Forms.{AllFine, Fine, FitsSuffice}
use Rattle.soundness_forms.specs.Standing.{Standing, is_value}
use Rattle.soundness_forms.specs.Worlds.{Surrounds}
use Rattle.soundness_forms.proofs.Basics.{aim_on, is_on, settles, then_walks, wrong_alone}
use Rattle.soundness_forms.proofs.Casts.{comes_is, no_guard}
use Rattle.soundness_forms.proofs.PlainKinds.{value_fine}
use Rattle.soundness_forms.proofs.Worlds.{surrounds_on}
use Rattle.soundness_values.specs.Named.{TypesNarrow}
use Rattle.soundness_parts.proofs.FieldSteps.{field_fine}
use Rattle.soundness_parts.proofs.SliceSteps.{slice_step}
use Rattle.soundness_parts.proofs.Steps.{item_step}
use Rattle.soundness_parts.proofs.Suffixes.{unreached}
use Rattle.soundness_parts.proofs.Taken.{z}

-- ---- no more indexes than the suffixes take

abbrev NotMore : List Suffix → List Part → Type 0
NotMore [] [] = Unit {0}
NotMore [] (p ∷ ps) = ⊥
NotMore (s ∷ ss) ps = NotMore ss (drop (indexes_of s.way) ps)

not_more : (ss : List Suffix) (ps : List Part) → left_after ss (length ps) ≡ 0 → NotMore ss ps
not_more [] [] e = tt
not_more [] (p ∷ ps) e = absurd (omega (arith, e))
not_more (s ∷ ss) ps e = not_more ss (drop (indexes_of s.way) ps) (ap (left_after ss) (length-drop (indexes_of s.way) ps) ∙ e)

-- ---- fewer parts than a suffix takes are wrong

no_way_fine : {q : Scene} {n : ℕ} {f : Point n} {facts : List Fact} {A : Type 0} (place : Place) (k : Option Taken → Walk (Option Passed))
    (l : Option Passed → Walk (Option A)) (c : Run Item Item) {Then : (m : ℕ) → Point m → Option A → Item → Type 0}
    → Beside q n f facts (bind (bind (no_way place) k) l) c Then
no_way_fine {q} {n} {f} {facts} place k l c =
    let none : Beside q n f facts (no_way place) c (λ m g o x. ⊥) = wrong_alone place c in
    let behind : Beside q n f facts (bind (no_way place) k) c (λ m g o x. ⊥) = then_walks k none (λ m g fs a x e h. absurd h) in
    then_walks l behind (λ m g fs a x e h. absurd h)

none_below : (k : ℕ) → nat_lt k 0 ≡ false
none_below k = grind (arith, nat_tests)

module _ (q : Scene) (w : World Item) (scope : Scope) where
  -- the value that is reached, and no parts that are left
  abbrev pub Reached : {n : ℕ} → Point n → Option Passed → Item → Type 0
  Reached g o x = (j : Indices) × (o ≡ passed [] j) × Is q.set q.work g j x

  -- ---- a field

  module _ (place : Place) (k : ℕ) (i : Indices) (x : Item) (u c : ℕ) (narrow : TypesNarrow q.set.around.types) where
    abbrev FieldIs : {n : ℕ} → Point n → List Part → Option Taken → Type 0
    FieldIs g ps o = o ≡ taken (into_field (here q) u c (out-Indices i)) ps

    field_reached : {n : ℕ} {f : Point n} {fs : List Fact} (ps : List Part)
        → Walks q n f fs (way_walk place ps (here q) scope i (Y.Field u c)) (λ m g o. FieldIs g ps o)
    field_reached {n} {f} {fs} ps =
        let none : Walks q n f fs (give (Some [])) (λ m g o. o ≡ Some []) = given_back (Some []) refl in
        let into : Option Reach = into_field (here q) u c (out-Indices i) in
        subst (λ b. Walks q n f fs (if b then no_way place else bind (numbers_walk (take 0 ps) (here q) scope) (way_taken (here q) i (Y.Field u c) (drop 0 ps)))
        (λ m g o. FieldIs g ps o)) (sym (none_below (length ps)))
        (walks_on (way_taken (here q) i (Y.Field u c) ps) none (λ m g gs o l e.
        subst (λ s. Walks q m g gs (way_taken (here q) i (Y.Field u c) ps s) (λ j d b. FieldIs d ps b)) (sym e)
        (walks_on (λ r. give (taken r ps)) (found m g gs into) (λ j d hs r l2 h. given_back (taken r ps) (ap (λ s. taken s ps) h)))))
      where
        found : (m : ℕ) (g : Point m) (gs : List Fact) (r : Option Reach) → Walks q m g gs (give r) (λ j d b. b ≡ r)
        found m g gs r = given_back r refl

    field_step : {n : ℕ} {f : Point n} {facts : List Fact} {A : Type 0} (ps : List Part) → Is q.set q.work f i x
        → (more : List Part → Indices → Walk (Option A)) (runs : Item → Run Item Item) → {Then : (m : ℕ) → Point m → Option A → Item → Type 0}
        → ((m : ℕ) (g : Point m) (fs : List Fact) (j : Indices) (v : Item) → Later f g → Is q.set q.work g j v → Beside q m g fs (more ps j) (runs v) Then)
        → Beside q n f facts (bind (bind (way_walk place ps (here q) scope i (Y.Field u c)) (read_taken false place k i)) (then_on more))
        (taken_run (z q) k (field_way u c) x [] then runs) Then
    field_step {n} {f} {facts} ps h more runs {Then} next =
        binds (then_on more) runs
        (walks_then (read_taken false place k i) (field_reached ps) (λ m g fs o l e.
        subst (λ s. Beside q m g fs (read_taken false place k i s) (taken_run (z q) k (field_way u c) x []) (λ j d r v. (b : Indices) × (r ≡ passed ps b) × Is q.set q.work d b v))
        (sym e)
        (then_walks (λ j. give (passed ps j)) (field_fine q fs narrow place k i x u c (is_on l h)) (λ j d gs b v l2 is.
        given_back (passed ps b) (b, refl, is)))))
        (λ m g fs o v l e. subst (λ s. Beside q m g fs (then_on more s) (runs v) Then) (sym e.1) (next m g fs e.0 v l e.2))

  -- ---- suffix after suffix

  module _ (narrow : TypesNarrow q.set.around.types) where
    -- those behind one
    abbrev Behind : {n : ℕ} → Point n → List Suffix → List Part → List (Run Item Item) → Type 0
    Behind f ss ps rs = (m : ℕ) (g : Point m) (fs : List Fact) (j : Indices) (v : Item) → Later f g → Is q.set q.work g j v
        → Beside q m g fs (suffixes_walk false ss (here q) scope ps j) (suffixes_of (z q) ss rs v) (λ d b o u. Reached b o u)

    suffix_fine : {n : ℕ} {f : Point n} {facts : List Fact} (s : Suffix) (way : Way) (ss : List Suffix) (ps : List Part) (rs : List (Run Item Item))
        (i : Indices) (x : Item) → AllFine q w ps rs → Surrounds q w f scope → Is q.set q.work f i x
        → ((us : List (Run Item Item)) → AllFine q w (drop (indexes_of way) ps) us → Behind f ss (drop (indexes_of way) ps) us)
        → Beside q n f facts
        (bind (bind (way_walk s.place ps (here q) scope i way) (read_taken false s.place s.number i)) (then_on (suffixes_walk false ss (here q) scope)))
        (suffix_then (z q) s.number way rs x (suffixes_of (z q) ss)) (λ m g o v. Reached g o v)
    suffix_fine s (Y.Field u c) ss ps rs i x fine there h next =
        field_step s.place s.number i x u c narrow ps h (suffixes_walk false ss (here q) scope) (suffixes_of (z q) ss rs) (next rs fine)
    suffix_fine s Y.Item ss (p ∷ ps) (r ∷ rs) i x fine there h next =
        item_step q w scope s.place s.number i x p ps r fine.0 there h (suffixes_walk false ss (here q) scope) (suffixes_of (z q) ss rs) (next rs fine.1)
    suffix_fine s Y.Slice ss (p ∷ b ∷ ps) (r ∷ t ∷ rs) i x fine there h next =
        slice_step q w scope s.place s.number i x p b ps r t fine.0 fine.1.0 (suffixes_of (z q) ss rs) there h (suffixes_walk false ss (here q) scope)
        (next rs fine.1.1)
    suffix_fine s Y.Item ss [] rs i x fine there h next =
        no_way_fine s.place (read_taken false s.place s.number i) (then_on (suffixes_walk false ss (here q) scope)) _
    suffix_fine s Y.Slice ss [] rs i x fine there h next =
        no_way_fine s.place (read_taken false s.place s.number i) (then_on (suffixes_walk false ss (here q) scope)) _
    suffix_fine s Y.Slice ss (p ∷ []) rs i x fine there h next =
        no_way_fine s.place (read_taken false s.place s.number i) (then_on (suffixes_walk false ss (here q) scope)) _
    suffix_fine s Y.Item ss (p ∷ ps) [] i x fine there h next = absurd fine
    suffix_fine s Y.Slice ss (p ∷ b ∷ ps) [] i x fine there h next = absurd fine
    suffix_fine s Y.Slice ss (p ∷ b ∷ ps) (r ∷ []) i x fine there h next = absurd fine.1

    pub suffixes_fine : {n : ℕ} {f : Point n} {facts : List Fact} (ss : List Suffix) (ps : List Part) (rs : List (Run Item Item)) (i : Indices) (x : Item)
        → AllFine q w ps rs → NotMore ss ps → Surrounds q w f scope → Is q.set q.work f i x
        → Beside q n f facts (suffixes_walk false ss (here q) scope ps i) (suffixes_of (z q) ss rs x) (λ m g o v. Reached g o v)
    suffixes_fine [] [] [] i x fine few there h = rests x (given_back (passed [] i) (i, refl, h))
    suffixes_fine [] [] (r ∷ rs) i x fine few there h = absurd fine
    suffixes_fine [] (p ∷ ps) rs i x fine few there h = absurd few
    suffixes_fine (s ∷ ss) ps rs i x fine few there h =
        suffix_fine s s.way ss ps rs i x fine there h (λ us fines m g fs j v l is.
        suffixes_fine ss (drop (indexes_of s.way) ps) us j v fines few (surrounds_on q w scope l there) is)

    -- behind a value that never ends nothing is asked
    suffixed_fine : {n : ℕ} {f : Point n} {facts : List Fact} (place : Place) (ss : List Suffix) (ps : List Part) (rs : List (Run Item Item)) (i : Indices)
        (x : Item) → AllFine q w ps rs → Surrounds q w f scope → Is q.set q.work f i x → (b : Bool) → nat_eq (left_after ss (length ps)) 0 ≡ b
        → Beside q n f facts (if b then bind (suffixes_walk false ss (here q) scope ps i) value_on else if_never_value place i) (suffixes_of (z q) ss rs x)
        (λ m g j y. Is q.set q.work g j y)
    suffixed_fine place ss ps rs i x fines there h true e =
        let none : left_after ss (length ps) ≡ 0 = (Decides-eqb (left_after ss (length ps)) 0).0 e in
        then_walks value_on (suffixes_fine ss ps rs i x fines (not_more ss ps none) there h) (λ j d gs o v l2 r.
        subst (λ s. Walks q j d gs (value_on s) (λ y b u. Is q.set q.work b u v)) (sym r.1) (given_back r.0 r.2))
    suffixed_fine place ss ps rs i x fines there h false e = unreached place 0 i x h (suffixes_of (z q) ss rs x)

    -- a value, and the suffixes behind it
    pub part_fine : {n : ℕ} {f : Point n} {facts : List Fact} (place : Place) (ss : List Suffix) (p : Part) (ps : List Part) (r : Run Item Item)
        (rs : List (Run Item Item)) → Fine q w false false p r → AllFine q w ps rs → Surrounds q w f scope
        → Beside q n f facts (part_walk place ss p ps (here q) scope) (r then suffixes_of (z q) ss rs) (λ m g i x. Is q.set q.work g i x)
    part_fine {n} {f} {facts} place ss p ps r rs fine fines there =
        binds (suffixed place ss ps (here q) scope) (suffixes_of (z q) ss rs)
        (fine.walks q.names q.may_fall no_guard n f facts scope Aims.Free there tt) (λ m g fs i x l c.
        suffixed_fine place ss ps rs i x fines (surrounds_on q w scope l there) (comes_is p.is_nested p.never_ends Aims.Free i x c)
        (nat_eq (left_after ss (length ps)) 0) refl)

-- ---- as a node

pub all_values : (q : Scene) (w : World Item) (ss : List Standing) (ps : List Part) (rs : List (Run Item Item)) → PartsFine q w ss ps rs
    → list_all is_value ss ≡ true → AllFine q w ps rs
all_values q w [] [] [] h right = tt
all_values q w (s ∷ ss) (p ∷ ps) (r ∷ rs) h right =
    let both = and_parts (is_value s) (list_all is_value ss) right in
    (value_fine q w s p r both.0 h.0, all_values q w ss ps rs h.1 both.1)
all_values q w [] [] (r ∷ rs) h right = absurd h
all_values q w [] (p ∷ ps) rs h right = absurd h
all_values q w (s ∷ ss) [] rs h right = absurd h
all_values q w (s ∷ ss) (p ∷ ps) [] h right = absurd h

module _ (fit : FitsSuffice) (q : Scene) (w : World Item) (narrow : TypesNarrow q.set.around.types) where
  pub part_node : (place : Place) (k : ℕ) (ss : List Suffix) (p : Part) (ps : List Part) (r : Run Item Item) (rs : List (Run Item Item))
      → Fine q w false false p r → AllFine q w ps rs → {n : ℕ} {f : Point n} {facts : List Fact} (scope : Scope) (aim : Aim)
      → Surrounds q w f scope → AimSteady q.set q.work f aim
      → Beside q n f facts (kind_walk place k (K.Part ss) (p ∷ ps) (here q) scope aim) (kind_meaning (z q) w place k (K.Part ss) (r ∷ rs))
      (λ m g i x. Comes q.set q.work g false false false aim i x)
  part_node place k ss p ps r rs fine fines scope aim there st =
      then_walks (node_end k false)
      (then_walks (settled (here q) place aim) (part_fine q w scope narrow place ss p ps r rs fine fines there) (λ m g fs i x l h.
      settles fit place aim i x (aim_on q.set q.work aim l st) h)) (λ m g fs i x l h. given_back i h)
