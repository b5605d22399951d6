-- Where ways meet: one of them runs, and behind all of them the node makes its value anew.
use Rattle.std.proofs.Common.{◌≡◌, ◌≤◌, ℕ, Bool, true, false, List, [], ◌∷◌, ◌++◌, Option, None, arith, refl, sym, subst}
use Rattle.std.specs.Prelude.{is_none}
use Rattle.sail_base.specs.declared.place.Place.{Place}
use Rattle.sail_types.specs.declared.shapes.Shape.{Shape}
use Rattle.sail_core.specs.Making.{Making, made, nothing}
use Rattle.sail_core.specs.Meaning.{met_at}
use Rattle.sail_core.specs.Run as R
use Rattle.sail_core.specs.Run.{Ended, Run, gives, goes_on, ◌then◌}
use Rattle.sail_core.specs.declared.patterns.Literal.TheVariants as L
use Rattle.value_indices.specs.declared.indices.Indices.{Indices}
use Rattle.value_indices.specs.declared.indices.Indices.TheVariants as I
use Rattle.value_indices.specs.declared.indices.Naming.TheVariants as M
use Rattle.value_indices.specs.declared.indices.Reading.{Reading}
use Rattle.value_indices.specs.declared.notes.Fact.{Fact}
use Rattle.value_indices.specs.declared.notes.Made.TheVariants as Makes
use Rattle.value_indices.specs.Opening.{opened, opening}
use Rattle.value_indices.specs.Steps.{Walk, bind, give, scoped, size_note}
use Rattle.call_arguments.specs.Aims.{branch_aim, wanted}
use Rattle.call_arguments.specs.declared.aims.Aim.{Aim}
use Rattle.call_arguments.specs.declared.aims.Aim.TheVariants as Aims
use Rattle.call_notes.specs.Ends.{opened_at}
use Rattle.call_notes.specs.Noted.{made_opened}
use Rattle.expression_steps.specs.Statements.{Way, each_way, meeting, meeting_from, met_value, one_way, way_behind}
use Rattle.checked_meaning.specs.Items.{Item}
use Rattle.checked_meaning.specs.Checked.{checked}
use Rattle.value_laws.specs.Known.{Point}
use Rattle.soundness_steps.specs.Points.{Later}
use Rattle.soundness_steps.proofs.Points.{agree_on, later_on, no_later}
use Rattle.soundness_steps.specs.Works.{Scene, here}
use Rattle.soundness_steps.specs.Steps.{Beside, Grows, Walks}
use Rattle.soundness_steps.specs.Values.{AimSteady, Belongs, Comes, Is, IsMadeAs, IsMet, IsWanted}
use Rattle.soundness_steps.proofs.Steps.{binds, given_back, grown, grown_later, makes, means, met_behind, next_is, notes, runs_as}
use Rattle.soundness_steps.proofs.Steps.{scopes, stands_on, walks_on, walks_over, well_on}
use Rattle.soundness_forms.specs.Joins.{AllGrow, FreeJoining, Joining}
use Rattle.soundness_forms.proofs.Basics.{aim_on, opens, then_walks, wanted_on}
use Rattle.soundness_forms.proofs.Constants.{literal_has, literal_sized}
use Rattle.soundness_forms.proofs.Growth.{grows_bind, grows_give}
use Rattle.soundness_forms.proofs.Nodes.{ends_node}

-- a scope that isn't run, and what is given behind it
pub runs_over : {q : Scene} {n : ℕ} {f : Point n} {facts : List Fact} {A B C D : Type 0} (k : B → Walk C) (h : A → B) {d : Run Item D}
    {Then : (m : ℕ) → Point m → C → D → Type 0} (w : Walk A) → Grows w
    → ((g : Point (w facts n).next) → Later f g → Beside q (w facts n).next g facts (k (h (w facts n).value)) d Then)
    → Beside q n f facts (bind (bind (scoped w) (λ a. give (h a))) k) d Then
unfolding bind scoped give
runs_over {q} {n} {f} {facts} k h w gr next = record {
  run = λ now stands met ok.
      let l = grown_later f (gr.onward facts n) in
      well_on l ((next (grown f (gr.onward facts n)) l).run now (stands_on l stands)
      (met_behind q ((w facts n).notes ++ []) _ met) ok);
}

-- the same, where nothing is given behind it
pub runs_past : {q : Scene} {n : ℕ} {f : Point n} {facts : List Fact} {A C D : Type 0} (k : A → Walk C) {d : Run Item D}
    {Then : (m : ℕ) → Point m → C → D → Type 0} (w : Walk A) → Grows w
    → ((g : Point (w facts n).next) → Later f g → Beside q (w facts n).next g facts (k (w facts n).value) d Then)
    → Beside q n f facts (bind (scoped w) k) d Then
unfolding bind scoped
runs_past {q} {n} {f} {facts} k w gr next = record {
  run = λ now stands met ok.
      let l = grown_later f (gr.onward facts n) in
      well_on l ((next (grown f (gr.onward facts n)) l).run now (stands_on l stands) (met_behind q (w facts n).notes _ met) ok);
}

-- how nodes make values there
abbrev pub z : Scene → Making Item
z q = checked q.set.around.types q.cases

-- `()` is of its type
pub unit_is : (q : Scene) {n : ℕ} (f : Point n) → Is q.set q.work f I.Unit (nothing (z q))
unit_is q f = record { has = literal_has q.set q.work f L.Unit refl; typ = λ exact g a. literal_sized q.set.around.types q.work.own g L.Unit }

-- ---- of which a type is wanted

module _ (q : Scene) (m : ℕ) (shape : Shape) where
  -- of no way anything is owed
  behind_grows : (w : Way) (first : Option Indices) → Grows w.walk → Grows (way_behind (here q) false m shape w first)
  behind_grows w first h = grows_bind w.walk (λ i. bind (give tt) (λ t. give first)) h (λ i.
      grows_bind (give tt) (λ t. give first) (grows_give tt) (λ t. grows_give first))

  ways_over : (ws : List Way) → AllGrow ws → {n : ℕ} {f : Point n} {facts : List Fact} (first : Option Indices)
      → Walks q n f facts (each_way (here q) false m shape ws first) (λ j g o. Unit {0})
  ways_over [] h first = given_back first tt
  ways_over (w ∷ ws) h first = walks_on (each_way (here q) false m shape ws) {Holds = λ j g o. Unit {0}}
      (walks_over (way_behind (here q) false m shape w first) (behind_grows w first h.0)) (λ j g fs o l e. ways_over ws h.1 o)

  -- of the type that is wanted, as which it was made
  abbrev pub CameTo : Reading → (j : ℕ) → Point j → Option Indices → Item → Type 0
  CameTo r j g o x = Belongs q.set q.work g r x.val × IsMadeAs q.set q.work g (Makes.ByType r) x.val x.typ

  way_runs : (nested : Bool) (r : Reading) (w : Way) (c : Run Item Item) {n : ℕ} {f : Point n} {facts : List Fact} (first : Option Indices)
      → Beside q n f facts w.walk c (λ j g i x. Comes q.set q.work g true nested w.never_ends (Aims.Due r) i x)
      → Beside q n f facts (one_way (here q) false m shape w first) ((checked q.set.around.types q.cases).inside c)
      (λ j g o x. CameTo r j g o x × (w.never_ends ≡ false))
  way_runs nested r w c first h =
      scopes (then_walks (λ i. bind (give tt) (λ t. give first)) {Then = λ j g o x. CameTo r j g o x × (w.never_ends ≡ false)} h (λ j g fs i x l e.
      walks_on (λ t. give first) {Holds = λ k p t. CameTo r k p None x × (w.never_ends ≡ false)} (given_back tt ((e.met, e.typ), e.ends)) (λ k p gs t l2 d.
      given_back first d)))

  keeps_on : (r : Reading) {j : ℕ} {g : Point j} {fs : List Fact} {v : Walk (Option Indices)} (never_ends : Bool) (o : Option Indices) (x : Item)
      → CameTo r j g o x × (never_ends ≡ false) → Walks q j g fs v (λ i p a. Unit {0})
      → Walks q j g fs v (λ i p a. CameTo r i p a x × (never_ends ≡ false))
  keeps_on r never_ends o x e b = record {
    go = λ noted stands met.
        let d = b.go noted stands met in
        record {
          point = d.point;
          later = d.later;
          stands = d.stands;
          holds = (((λ k a. e.0.0 k (agree_on d.later a)), (λ exact k a. e.0.1 exact k (agree_on d.later a))), e.1);
        };
  }

  wanted_taken : (r : Reading) (nested : Bool) (w : Way) (after : List Way) (c : Run Item Item) (first : Option Indices) (n : ℕ) (f : Point n)
      (facts : List Fact)
      → AllGrow after → Beside q n f facts w.walk c (λ j g i x. Comes q.set q.work g true nested w.never_ends (Aims.Due r) i x)
      → Beside q n f facts (each_way (here q) false m shape (w ∷ after) first) ((checked q.set.around.types q.cases).inside c)
      (λ j g o x. CameTo r j g o x × (w.never_ends ≡ false))
  wanted_taken r nested w after c first n f facts k h = then_walks (each_way (here q) false m shape after) (way_runs nested r w c first h) (λ j g fs o x l e.
      keeps_on r w.never_ends o x e (ways_over after k o))

  wanted_opened : (r : Reading) (place : Place) (o : Option Indices) (x : Item) (n : ℕ) (f : Point n) (facts : List Fact) → IsWanted q.set q.work f r
      → CameTo r n f o x
      → Walks q n f facts (opened_at place r) (λ j g i. Is q.set q.work g i x × Belongs q.set q.work g r x.val)
  unfolding opened
  wanted_opened r place o x n f facts st h = walks_on (λ u. opening r false M.Unnamed) (notes (λ fs. size_note fs place (Makes.ByType r))) (λ j p gs u b a.
      record {
        go = λ noted stands met.
            let d = (opens {q = q} r false M.Unnamed x.val (wanted_on q.set q.work r b st).0 (λ k y. h.0 k (agree_on b y))).go noted stands met in
            record {
              point = d.point;
              later = d.later;
              stands = d.stands;
              holds = (
                record { has = d.holds.0; typ = d.holds.1 x.typ (λ exact k y. h.1 exact k (agree_on b y)) },
                λ k y. h.0 k (agree_on b (agree_on d.later y)),
              );
            };
      })

  -- the node makes it of `()`, at that type
  wanted_made : (r : Reading) (place : Place) (k : ℕ) (o : Option Indices) (x : Item) (n : ℕ) (f : Point n) (facts : List Fact)
      → IsWanted q.set q.work f r → CameTo r n f o x
      → Beside q n f facts (made_opened place k (I.Unit ∷ []) r) ((z q).make k (nothing (z q) ∷ []) x.val)
      (λ j g i y. Is q.set q.work g i y × Belongs q.set q.work g r y.val)
  wanted_made r place k o x n f facts st h =
      then_walks (λ t. opened_at place r)
      (makes k (I.Unit ∷ []) (Makes.ByType r) (nothing (z q) ∷ []) x.val ((unit_is q f).typ, tt) h.0) (λ j g fs t y l e.
      wanted_opened r place o y j g fs (wanted_on q.set q.work r l st) (
        subst (λ v. Belongs q.set q.work g r v) (sym e.0) (λ i a. h.0 i (agree_on l a)),
        subst (λ v. IsMadeAs q.set q.work g (Makes.ByType r) v y.typ) (sym e.0) e.1,
      ))

-- ---- of either kind

pub joining : FreeJoining → (q : Scene) (m : ℕ) (shape : Shape) (aim : Aim) → Joining q m shape aim
joining free q m shape Aims.Free = free q m shape
joining free q m shape (Aims.Given r) = record {
  grows = behind_grows q m shape;
  Met = CameTo q m shape r;
  taken = λ falls nested w after c first n f facts le h. wanted_taken (record q { may_fall = falls }) m shape r nested w after c first n f facts h;
  made = λ place k o x n f facts le st h. wanted_made q m shape r place k o x n f facts st h;
}
joining free q m shape (Aims.PartOf r) = record {
  grows = behind_grows q m shape;
  Met = CameTo q m shape r;
  taken = λ falls nested w after c first n f facts le h. wanted_taken (record q { may_fall = falls }) m shape r nested w after c first n f facts h;
  made = λ place k o x n f facts le st h. means (λ j g i y l e. (e.0, tt)) (wanted_made q m shape r place k o x n f facts st h);
}
joining free q m shape (Aims.Due r) = record {
  grows = behind_grows q m shape;
  Met = CameTo q m shape r;
  taken = λ falls nested w after c first n f facts le h. wanted_taken (record q { may_fall = falls }) m shape r nested w after c first n f facts h;
  made = λ place k o x n f facts le st h. wanted_made q m shape r place k o x n f facts st h;
}

-- what ways come to, once they are joined
pub came : (q : Scene) {n : ℕ} {f : Point n} (aim : Aim) (never_ends : Bool) (i : Indices) (x : Item) → Is q.set q.work f i x
    → IsMet q.set q.work f aim true x.val → never_ends ≡ false → Comes q.set q.work f false true never_ends aim i x
came q Aims.Free never_ends i x h b e = record { has = h.has; typ = h.typ; met = b; ends = e }
came q (Aims.Given r) never_ends i x h b e = record { has = h.has; typ = h.typ; met = b; ends = e }
came q (Aims.PartOf r) never_ends i x h b e = record { has = h.has; typ = h.typ; met = b; ends = e }
came q (Aims.Due r) never_ends i x h b e = record { has = h.has; typ = h.typ; met = b; ends = e }

pub joined : (q : Scene) {n : ℕ} {f : Point n} {facts : List Fact} (aim : Aim) (shape : Shape) (join : Joining q n shape aim) (place : Place) (k : ℕ)
    (ws : List Way) (c : Run Item Item) (never_ends : Bool) → AimSteady q.set q.work f aim
    → Beside q n f facts (each_way (here q) (is_none (wanted aim)) n shape ws None) c (λ j g o x. join.Met j g o x × (never_ends ≡ false))
    → Beside q n f facts (meeting (here q) place k shape (wanted aim) ws) (met_at (z q) k c)
    (λ m g i x. Comes q.set q.work g false true never_ends aim i x)
joined q {n} aim shape join place k ws c never_ends st h =
    next_is (meeting_from (here q) place k shape (wanted aim) ws)
    (binds (met_value (here q) place k shape (wanted aim) n) (λ x. made (z q) k (nothing (z q) ∷ []) x.val) h (λ m g fs o x l e.
    ends_node k (gives x) (λ y. nothing (z q) ∷ []) (λ y. y.val) false true never_ends aim
    (means (λ j p i y l2 d. came q aim never_ends i y d.0 d.1 e.1)
    (join.made place k o x m g fs l.onward (aim_on q.set q.work aim l st) e.0))))

-- three pieces one behind the other
pub then_then : {A B C : Type 0} (e : Ended Item A) (k : A → Run Item B) (l : B → Run Item C) → goes_on (goes_on e k) l ≡ goes_on e (λ x. k x then l)
then_then (R.Gives x now) k l = refl
then_then (R.No now) k l = refl
then_then (R.Returns v now) k l = refl
then_then (R.Throws v now) k l = refl
then_then (R.Stops cause now) k l = refl
then_then R.Stuck k l = refl

-- where pieces one behind the other lead to ways, what the node makes is behind the last
module _ {q : Scene} {n : ℕ} {f : Point n} {facts : List Fact} {A B : Type 0} {w : Walk A} (k : ℕ) (c : Run Item B) (next : B → Run Item Item)
    {Holds : (m : ℕ) → Point m → A → Item → Type 0} where
  pub met_behind_all : Beside q n f facts w (c then λ b. met_at (z q) k (next b)) Holds → Beside q n f facts w (met_at (z q) k (c then next)) Holds
  met_behind_all b = runs_as (λ now. sym (then_then (c now) next (λ x. made (z q) k (nothing (z q) ∷ []) x.val))) b

-- the way that runs, behind others that don't
pub behind_others : (q : Scene) (m : ℕ) (shape : Shape) (aim : Aim) (k : Joining q m shape aim) (nested : Bool) (before : List Way) (w : Way)
    (after : List Way) (c : Run Item Item) {n : ℕ} {f : Point n} {facts : List Fact} (first : Option Indices) → m ≤ n → AllGrow before → AllGrow after
    → ((j : ℕ) (g : Point j) → Later f g → Beside q j g facts w.walk c (λ i p d x. Comes q.set q.work p true nested w.never_ends (branch_aim aim) d x))
    → Beside q n f facts (each_way (here q) (is_none (wanted aim)) m shape (before ++ w ∷ after) first) ((checked q.set.around.types q.cases).inside c)
    (λ j g o x. k.Met j g o x × (w.never_ends ≡ false))
behind_others q m shape aim k nested [] w after c {n} {f} {facts} first le h a run =
    k.taken q.may_fall nested w after c first n f facts le a (run n f (no_later f))
behind_others q m shape aim k nested (v ∷ before) w after c {n} {f} {facts} first le h a run =
    runs_past {q = q} (each_way (here q) (is_none (wanted aim)) m shape (before ++ w ∷ after))
    (way_behind (here q) (is_none (wanted aim)) m shape v first) (k.grows v first h.0) (λ g l.
    behind_others q m shape aim k nested before w after c (way_behind (here q) (is_none (wanted aim)) m shape v first facts n).value
    (let on = l.onward in omega (arith, le, on)) h.1 a (λ i p l2. run i p (later_on l l2)))
