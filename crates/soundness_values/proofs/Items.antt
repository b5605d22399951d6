-- The items of a vector or a list beside their runs: each belongs to one type.
use Rattle.std.proofs.Common.{◌≡◌, ℕ, zero, suc, List, [], ◌∷◌, length, replicate, sym, ◌∙◌, subst}
use Rattle.sail_base.specs.declared.place.Place.{Place}
use Rattle.sail_types.specs.declared.shapes.Shape.{Shape}
use Rattle.sail_types.specs.declared.values.Value.{Value}
use Rattle.sail_core.specs.Making.{World}
use Rattle.sail_core.specs.Run.{Run, gives, in_turn, ◌then◌}
use Rattle.value_indices.specs.declared.indices.Indices.{Indices}
use Rattle.value_indices.specs.declared.indices.Indices.TheOpen as W
use Rattle.value_indices.specs.declared.indices.Reading.{Reading}
use Rattle.value_indices.specs.declared.indices.Reading.TheVariants as R
use Rattle.value_indices.specs.declared.notes.Fact.{Fact}
use Rattle.value_indices.specs.Steps.{bind, give}
use Rattle.pattern_leaves.specs.Settings.{Scope}
use Rattle.call_arguments.specs.Aims.{aimed}
use Rattle.call_arguments.specs.Holes.{without_holes}
use Rattle.call_arguments.specs.declared.aims.Aim.{Aim}
use Rattle.call_arguments.specs.declared.aims.Aim.TheVariants as Aims
use Rattle.expression_steps.specs.Parts.{Part}
use Rattle.expression_steps.specs.Values.{Row, first_like, filled_here, item_like, item_owed, items_due, items_free, items_like}
use Rattle.expression_steps.specs.Values.{items_wanted}
use Rattle.checked_meaning.specs.Items.{Item, vals}
use Rattle.value_laws.specs.Belonging.{standing}
use Rattle.value_laws.specs.Known.{Point}
use Rattle.value_laws.proofs.Values.{closed_is}
use Rattle.soundness_steps.specs.Points.{Later}
use Rattle.soundness_steps.proofs.Points.{agree_on, later_on}
use Rattle.soundness_steps.specs.Works.{Scene, Setting, Work, here}
use Rattle.soundness_steps.specs.Steps.{Beside, Walks}
use Rattle.soundness_steps.specs.Values.{AimSteady, AllTyped, Belongs, Is, IsSteady, IsWanted}
use Rattle.soundness_steps.proofs.Steps.{binds, given_back, rests, walks_on, walks_then}
use Rattle.soundness_forms.specs.Forms.{AllFine, FitsSuffice}
use Rattle.soundness_forms.specs.Worlds.{Surrounds}
use Rattle.soundness_forms.proofs.Basics.{is_on, steady_on, then_walks, wanted_on}
use Rattle.soundness_forms.proofs.Casts.{comes_is, no_guard}
use Rattle.soundness_forms.proofs.Parts.{AllSteady, EachIs, are_typed, each_fine}
use Rattle.soundness_forms.proofs.Worlds.{surrounds_on}
use Rattle.soundness_values.proofs.Filling.{filling_steady}
use Rattle.soundness_values.proofs.Unholed.{whole_belongs, whole_wanted}

-- ---- values of one type

module _ (set : Setting) (work : Work) {n : ℕ} (f : Point n) where
  abbrev pub AllOf : Reading → List Value → Type 0
  AllOf r [] = Unit {0}
  AllOf r (v ∷ vs) = Belongs set work f r v × AllOf r vs

  -- items, and the type to which each belongs
  pub record RowIs (row : Row) (xs : List Item) : Type 0 where
    pub typed : AllTyped set work f row.1 xs
    pub of_type : AllOf row.0 (vals xs)
    pub steady : IsSteady set work f row.0

pub of_on : (set : Setting) (work : Work) {n m : ℕ} {f : Point n} {g : Point m} (r : Reading) (vs : List Value) → Later f g → AllOf set work f r vs
    → AllOf set work g r vs
of_on set work r [] l h = tt
of_on set work r (v ∷ vs) l h = ((λ k a. h.0 k (agree_on l a)), of_on set work r vs l h.1)

-- ---- items of which a type is wanted

repeated_steady : (set : Setting) (work : Work) {n : ℕ} (f : Point n) (k : ℕ) (aim : Aim) → AimSteady set work f aim → AllSteady set work f (replicate k aim)
repeated_steady set work f zero aim h = tt
repeated_steady set work f (suc k) aim h = (h, repeated_steady set work f k aim h)

due_of : (set : Setting) (work : Work) {n : ℕ} (f : Point n) (r : Reading) (ps : List Part) (is : List Indices) (xs : List Item)
    → EachIs set work f ps (replicate (length ps) (Aims.Due r)) is xs → AllOf set work f r (vals xs)
due_of set work f r [] [] [] h = tt
due_of set work f r (p ∷ ps) (i ∷ is) (x ∷ xs) h = (h.1, due_of set work f r ps is xs h.2)
due_of set work f r [] (i ∷ is) xs h = absurd h
due_of set work f r [] [] (x ∷ xs) h = absurd h
due_of set work f r (p ∷ ps) [] xs h = absurd h
due_of set work f r (p ∷ ps) (i ∷ is) [] h = absurd h

module _ (fit : FitsSuffice) (q : Scene) (w : World Item) (scope : Scope) where
  -- of a type that is no hole what is wanted is the type
  pub wanted_row : {n : ℕ} {f : Point n} {facts : List Fact} (ps : List Part) (rs : List (Run Item Item)) → AllFine q w ps rs → Surrounds q w f scope
      → (r : Reading) → aimed Aims.Due r ≡ Aims.Due r → IsWanted q.set q.work f r
      → Beside q n f facts (items_wanted ps (here q) scope r) (in_turn rs) (λ m g row xs. RowIs q.set q.work g row xs)
  wanted_row {n} {f} {facts} ps rs fine there r e st =
      subst (λ aim. Beside q n f facts (bind (items_due ps (here q) scope aim) (λ is. give (r, is))) (in_turn rs) (λ m g row xs. RowIs q.set q.work g row xs))
      (sym e)
      (then_walks (λ is. give (r, is))
      (each_fine q w scope ps rs fine (replicate (length ps) (Aims.Due r)) there (repeated_steady q.set q.work f (length ps) (Aims.Due r) st))
      (λ m g fs is xs l h. given_back (r, is) (record {
        typed = are_typed q.set q.work g ps (replicate (length ps) (Aims.Due r)) is xs h;
        of_type = due_of q.set q.work g r ps is xs h;
        steady = steady_on q.set q.work r l st.0;
      })))

  -- ---- items of which none is wanted: each owes the type of the first

  pub owed_item : {n : ℕ} {f : Point n} {facts : List Fact} (place : Place) (i : Indices) (r : Reading) (x : Item) → Is q.set q.work f i x
      → IsWanted q.set q.work f r → Walks q n f facts (item_owed (here q) place r i) (λ m g t. Belongs q.set q.work g r x.val)
  owed_item {n} {f} {facts} place i r x h st = fit q n f facts place i r x.val h.has st

  like_one : {n : ℕ} {f : Point n} {facts : List Fact} (p : Part) (a : Run Item Item) → AllFine q w (p ∷ []) (a ∷ []) → Surrounds q w f scope → (r : Reading)
      → IsWanted q.set q.work f r
      → Beside q n f facts (item_like p (here q) scope r) a (λ m g i x. Is q.set q.work g i x × Belongs q.set q.work g r x.val)
  like_one {n} {f} {facts} p a fine there r st =
      then_walks (λ i. bind (item_owed (here q) p.place r i) (λ t. give i))
      (fine.0.walks q.names q.may_fall no_guard n f facts scope Aims.Free there tt) (λ m g fs i x l c.
      let is = comes_is p.is_nested p.never_ends Aims.Free i x c in
      behind_owed p.place i r x is (wanted_on q.set q.work r l st))
    where
      behind_owed : {m : ℕ} {g : Point m} {fs : List Fact} (place : Place) (i : Indices) (r : Reading) (x : Item) → Is q.set q.work g i x
          → IsWanted q.set q.work g r
          → Walks q m g fs (bind (item_owed (here q) place r i) (λ t. give i)) (λ j d k. Is q.set q.work d k x × Belongs q.set q.work d r x.val)
      behind_owed place i r x h st = walks_on (λ t. give i) (owed_item place i r x h st) (λ j d gs t l b. given_back i (is_on l h, b))

  abbrev AllLike : {n : ℕ} → Point n → Reading → List Indices → List Item → Type 0
  AllLike f r is xs = AllTyped q.set q.work f is xs × AllOf q.set q.work f r (vals xs)

  like_all : {n : ℕ} {f : Point n} {facts : List Fact} (ps : List Part) (rs : List (Run Item Item)) → AllFine q w ps rs → Surrounds q w f scope → (r : Reading)
      → IsWanted q.set q.work f r
      → Beside q n f facts (items_like ps (here q) scope r) (in_turn rs) (λ m g is xs. AllLike g r is xs)
  like_all [] [] fine there r st = rests [] (given_back [] (tt, tt))
  like_all (p ∷ ps) (a ∷ rs) fine there r st =
      binds (λ i. bind (items_like ps (here q) scope r) (λ is. give (i ∷ is))) (λ x. in_turn rs then λ xs. gives (x ∷ xs))
      (like_one p a (fine.0, tt) there r st) (λ m g fs i x l h.
      binds (λ is. give (i ∷ is)) (λ xs. gives (x ∷ xs))
      (like_all ps rs fine.1 (surrounds_on q w scope l there) r (wanted_on q.set q.work r l st)) (λ m2 g2 fs2 is xs l2 k.
      rests (x ∷ xs) (given_back (i ∷ is) (((is_on l2 h.0).typ, k.0), ((λ d a. h.1 d (agree_on l2 a)), k.1)))))
  like_all [] (a ∷ rs) fine there r st = absurd fine
  like_all (p ∷ ps) [] fine there r st = absurd fine

  -- of a type in whose holes is only what never ends
  whole_all : {n : ℕ} (f : Point n) (r : Reading) (vs : List Value) → AllOf q.set q.work f (without_holes r) vs → AllOf q.set q.work f r vs
  whole_all f r [] h = tt
  whole_all f r (v ∷ vs) h = (whole_belongs q.set q.work f r v h.0, whole_all f r vs h.1)

  first_row : {n : ℕ} {f : Point n} {facts : List Fact} (ps : List Part) (rs : List (Run Item Item)) → AllFine q w ps rs → Surrounds q w f scope
      → (place : Place) (i : Indices) (x : Item) → Is q.set q.work f i x → (r : Reading) → IsSteady q.set q.work f r
      → Beside q n f facts (first_like ps (here q) scope place i r) (in_turn rs then λ xs. gives (x ∷ xs)) (λ m g row xs. RowIs q.set q.work g row xs)
  first_row {f = f} ps rs fine there place i x h r steady =
      let s = without_holes r in
      let st = whole_wanted q.set q.work f r steady in
      walks_then (λ t. bind (items_like ps (here q) scope s) (λ is. give (r, i ∷ is))) (owed_item place i s x h st) (λ m g fs t l b.
      binds (λ is. give (r, i ∷ is)) (λ xs. gives (x ∷ xs))
      (like_all ps rs fine (surrounds_on q w scope l there) s (wanted_on q.set q.work s l st)) (λ m2 g2 fs2 is xs l2 k.
      rests (x ∷ xs) (given_back (r, i ∷ is) (record {
        typed = ((is_on (later_on l l2) h).typ, k.0);
        of_type = (whole_belongs q.set q.work g2 r x.val (λ d a. b d (agree_on l2 a)), whole_all g2 r (vals xs) k.1);
        steady = steady_on q.set q.work r (later_on l l2) steady;
      }))))

  hole_steady : {n : ℕ} (f : Point n) → IsSteady q.set q.work f R.Hole
  hole_steady f g a =
      closed_is q.set.around.types (standing q.set.past g) q.work.types R.Hole W.Hole R.rolls-Hole
      ∙ sym (closed_is q.set.around.types (standing q.set.past f.integers) q.work.types R.Hole W.Hole R.rolls-Hole)

  pub free_row : {n : ℕ} {f : Point n} {facts : List Fact} (shape : Shape) (ps : List Part) (rs : List (Run Item Item)) → AllFine q w ps rs
      → Surrounds q w f scope → Beside q n f facts (items_free ps (here q) scope shape) (in_turn rs) (λ m g row xs. RowIs q.set q.work g row xs)
  free_row {f = f} shape [] [] fine there = rests [] (given_back (R.Hole, []) (record { typed = tt; of_type = tt; steady = hole_steady f }))
  free_row {n} {f} {facts} shape (p ∷ ps) (a ∷ rs) fine there =
      binds (λ i. bind (filled_here (here q) shape i) (first_like ps (here q) scope p.place i)) (λ x. in_turn rs then λ xs. gives (x ∷ xs))
      (fine.0.walks q.names q.may_fall no_guard n f facts scope Aims.Free there tt) (λ m g fs i x l c.
      let h = comes_is p.is_nested p.never_ends Aims.Free i x c in
      walks_then (first_like ps (here q) scope p.place i) (filling_steady q g fs shape i) (λ m2 g2 fs2 r l2 steady.
      first_row ps rs fine.1 (surrounds_on q w scope (later_on l l2) there) p.place i x (is_on l2 h) r steady))
  free_row shape [] (a ∷ rs) fine there = absurd fine
  free_row shape (p ∷ ps) [] fine there = absurd fine
