-- Where ways meet of which no type is wanted: the value of the one that ran has what is kept of the first.
use Rattle.std.proofs.Common.{◌≡◌, ℕ, Bool, true, false, ◌&&◌, ◌||◌, List, [], ◌∷◌, Option, Some, None, refl, sym, ap, ◌∙◌, subst, arith}
use Rattle.std.specs.Prelude.{◌≤◌, nat_lt, if◌then◌else◌}
use Rattle.std.proofs.lemmas.Bool.{ltb-true, lt-ltb}
use Rattle.std.proofs.lemmas.List.{append-nil}
use Rattle.sail_base.specs.declared.place.Place.{Place}
use Rattle.sail_types.specs.Numbers.{Assignment, form_true, true_in}
use Rattle.sail_types.specs.Zero.{deepest}
use Rattle.sail_types.specs.declared.numbers.Con.{fold-roll-Con}
use Rattle.sail_types.specs.declared.numbers.Con.TheOpen as F
use Rattle.sail_types.specs.declared.numbers.Con.TheVariants as C
use Rattle.sail_types.specs.declared.shapes.Shape.{Shape}
use Rattle.sail_types.specs.declared.values.Value.{Value}
use Rattle.sail_core.specs.Run.{Run}
use Rattle.value_indices.specs.Steps.{Conditions, Walk, bind, conditions, conjunction, give, scoped}
use Rattle.value_indices.specs.declared.indices.Indices.{Indices, out-Indices}
use Rattle.value_indices.specs.declared.indices.Indices.TheOpen as W
use Rattle.value_indices.specs.declared.indices.Indices.TheOpen.{Indices-F}
use Rattle.value_indices.specs.declared.indices.Reading.{Reading}
use Rattle.value_indices.specs.declared.indices.Reading.TheVariants as R
use Rattle.value_indices.specs.declared.notes.Fact.{Fact}
use Rattle.value_fits.specs.Fitting.{fits, never, owe_fit, owe_made, says}
use Rattle.wide_types.specs.Widening.{agrees_within, met, value_spelled}
use Rattle.call_arguments.specs.declared.aims.Aim.TheVariants as Aims
use Rattle.call_notes.specs.Ends.{is_never, is_never_form}
use Rattle.expression_forms.specs.Inside.{is_value_below, is_value_told, is_value_whole}
use Rattle.expression_forms.specs.Meeting.{agrees_unless, as_first, filled_aside, filled_first, first_unless, first_way, gives_none, like_first}
use Rattle.expression_steps.specs.Statements.{Way, each_way, one_way, then_first, way_behind}
use Rattle.checked_meaning.specs.Checked.{checked}
use Rattle.checked_meaning.specs.Items.{Item}
use Rattle.value_laws.specs.Belonging.{Integers, Meant, has, is_of, meant, standing}
use Rattle.value_laws.specs.Known as Known
use Rattle.value_laws.specs.Known.{Agree, AllTrue, Goes, Point}
use Rattle.value_laws.proofs.Basics.{no}
use Rattle.value_laws.proofs.Numbers.{truth_is}
use Rattle.value_laws.proofs.Steps.{no_later as known_here, same}
use Rattle.value_laws.proofs.Values.{closed_is}
use Rattle.meeting_laws.proofs.Steadied.{wide_below}
use Rattle.meeting_laws.specs.Laws.{AgreeingIsSound, HasItsType, IsFull, MeetingIsSound}
use Rattle.soundness_steps.specs.Works.{Scene, here}
use Rattle.soundness_steps.specs.Points.{Later}
use Rattle.soundness_steps.specs.Steps.{Beside, Grows, Stands, Walks}
use Rattle.soundness_steps.specs.Values.{Belongs, Comes, Has, Is, IsTrue}
use Rattle.soundness_steps.proofs.Points.{agree_on, later_on, later_whole, no_later, whole}
use Rattle.soundness_steps.proofs.Steps.{given_back, known_walk, scopes, stands_on, walks_mean, walks_on, walks_over}
use Rattle.soundness_forms.specs.Forms.{FitsSuffice}
use Rattle.soundness_forms.specs.Joins.{AllGrow, MetGrows}
use Rattle.soundness_forms.proofs.Basics.{has_on, has_there, then_walks}
use Rattle.soundness_forms.proofs.JoinGrowth.{AgreementCounts, behind_grows}
use Rattle.soundness_forms.proofs.Tests.{never_value}
use Rattle.soundness_joins.proofs.Wholes.{no_hole_widened}

-- ---- the first point, of which every variable is fixed

abbrev cut : {n : ℕ} → Point n → (m : ℕ) → Point m
cut f m = record { fixed = λ i. nat_lt i m; integers = f.integers; before = λ i l. ltb-true i m l }

cut_full : {n : ℕ} (f : Point n) (m : ℕ) → IsFull (cut f m)
cut_full f m i l = lt-ltb i m l

cut_agree : {n : ℕ} (f : Point n) (m : ℕ) → Agree (cut f m) f.integers
cut_agree f m = record { same = λ i l. refl }

cut_later : {n : ℕ} (f : Point n) (m : ℕ) → m ≤ n → Known.Later (cut f m) (whole f)
cut_later {n} f m le = record {
  onward = le;
  fixed = λ i l. lt-ltb i n (let less = ltb-true i m l in omega (arith, le, less));
  same = λ i l. refl;
  new = λ i l less. lt-ltb i m less;
}

-- ---- conditions that are owed

none_true : (nu : Assignment) → true_in nu (conjunction []) ≡ true
none_true nu = ap (true_in nu) (sym (C.rolls-All [])) ∙ fold-roll-Con Bool (form_true nu) (F.All [])

says_walks : {q : Scene} {n : ℕ} {f : Point n} {facts : List Fact} (place : Place) (cs : Conditions)
    → Walks q n f facts (owe_fit place (says cs)) (λ m g t. IsTrue q.set q.work g (conjunction cs))
unfolding owe_fit owe_made
says_walks {q} {n} {f} {facts} place [] = record {
  go = λ noted stands met. record {
    point = f;
    later = no_later f;
    stands = subst (Stands q.set q.work noted f) (sym (append-nil facts)) stands;
    holds = λ g a. none_true (standing q.set.past g);
  };
}
says_walks {q} {n} {f} {facts} place (c ∷ cs) = record {
  go = λ noted stands met. record {
    point = f;
    later = no_later f;
    stands = subst (Stands q.set q.work noted f) (sym (append-nil facts)) stands;
    holds = λ g a. met.0 g (subst (λ fs. AllTrue (standing q.set.past g) (conditions fs)) (sym (append-nil facts)) (stands.there g a).true_there);
  };
}

false_all : (nu : Assignment) → true_in nu (conjunction (Some (C.Truth false) ∷ [])) ≡ false
false_all nu = ap (true_in nu) (sym (C.rolls-All (C.Truth false ∷ [])))
    ∙ fold-roll-Con Bool (form_true nu) (F.All (C.Truth false ∷ [])) ∙ ap (λ b. b && true) (truth_is nu false)

-- what holds of it still does
keeps : {q : Scene} {n : ℕ} {f : Point n} {facts : List Fact} {A : Type 0} {w : Walk A} (r : Reading) (v : Value) {Holds Then : (m : ℕ) → Point m → A → Type 0}
    → Belongs q.set q.work f r v → Walks q n f facts w Holds
    → ((m : ℕ) (g : Point m) (a : A) → Belongs q.set q.work g r v → Holds m g a → Then m g a) → Walks q n f facts w Then
keeps {n = n} {facts = facts} {w = w} r v b h say = record {
  go = λ noted stands met.
      let d = h.go noted stands met in
      record {
        point = d.point;
        later = d.later;
        stands = d.stands;
        holds = say (w facts n).next d.point (w facts n).value (λ g a. b g (agree_on d.later a)) d.holds;
      };
}

-- ---- a value that came of one of the ways

module _ (q : Scene) (m : ℕ) where
  -- it is of the first way's type, or of that which was filled to be the first way's; or of that of another, which agrees with it by numbers
  pub data Came {n : ℕ} (f : Point n) (first : Indices) (v : Value) : Type 0 where
    by_type : Belongs q.set q.work f (R.Widened first) v → Came f first v
    by_filling : (shape : Shape) (i : Indices) → filled_aside q.set.around.types m shape i ≡ first → Belongs q.set q.work f (R.Widened i) v
        → Came f first v
    by_numbers : (i : Indices) → is_value_told (value_spelled first) ≡ true → is_value_told (value_spelled i) ≡ true
        → IsTrue q.set q.work f (conjunction (agrees_within deepest m (value_spelled first) (value_spelled i)))
        → Belongs q.set q.work f (R.Widened i) v → Came f first v

  came_on : {n k : ℕ} {f : Point n} {g : Point k} (first : Indices) (v : Value) → Later f g → Came f first v → Came g first v
  came_on first v l (by_type b) = by_type (λ h a. b h (agree_on l a))
  came_on first v l (by_filling shape i e b) = by_filling shape i e (λ h a. b h (agree_on l a))
  came_on first v l (by_numbers i t u c b) = by_numbers i t u (λ h a. c h (agree_on l a)) (λ h a. b h (agree_on l a))

  abbrev pub MetFree : (j : ℕ) → Point j → Option Indices → Item → Type 0
  MetFree j g None x = ⊥
  MetFree j g (Some first) x = Came g first x.val

  -- ---- the value behind all ways

  module _ (meeting : MeetingIsSound) (agreeing : AgreeingIsSound) (typed : HasItsType) where
    -- some integers, the same before the ways, for which a value is of the type that was filled
    abbrev filled_for : {n : ℕ} (f : Point n) → Indices → Value → Type 0
    filled_for f first v = (h : Integers) × Agree (cut f m) h
        × (is_of q.set.around.types (standing q.set.past h) q.work.types (R.Widened first) v ≡ true)

    by_fill : {n : ℕ} {f : Point n} (shape : Shape) (i : Indices) (v : Value) → Belongs q.set q.work f (R.Widened i) v
        → filled_for f (filled_aside q.set.around.types m shape i) v
    by_fill {n} {f} shape i v b =
        let types = q.set.around.types in
        let law = meeting types q.set.past q.work.types i shape m (cut f m) (cut_full f m) f.integers (cut_agree f m) v (b f.integers (same f)) m (cut f m) []
        (known_here (cut f m)) in
        let k = law.2.goes in
        let h = k.point.integers in (
          h,
          record { same = k.later.same },
          typed types q.set.past q.work.types h (filled_aside types m shape i) v (ap (λ (j : Meant). j.holds v) (k.holds h (same k.point)) ∙ law.1),
        )

    pub meets : {n : ℕ} {f : Point n} {facts : List Fact} (shape : Shape) (first : Indices) (v : Value) → m ≤ n → Came f first v
        → Walks q n f facts (met q.set.around.types m shape first) (λ j g i. Has q.set q.work g i v)
    meets {n} {f} {facts} shape first v le came = record {
      go = λ noted stands notes.
          let law = found came in
          let r = (known_walk {q = q} law.2).go noted (stands_on (later_whole f) stands) notes in
          record {
            point = r.point;
            later = later_on (later_whole f) r.later;
            stands = r.stands;
            holds = record { meaning = law.0; is_so = law.1; steady = r.holds };
          };
    }
      where
        found : Came f first v → (j : Meant) × (j.holds v ≡ true) × Goes q.set.past n (whole f) facts (met q.set.around.types m shape first)
            (λ g i. meant q.set.around.types (standing q.set.past g) q.work.types i ≡ j)
        found (by_type b) = meeting q.set.around.types q.set.past q.work.types first shape m (cut f m) (cut_full f m) f.integers (cut_agree f m) v
            (b f.integers (same f)) n (whole f) facts (cut_later f m le)
        found (by_filling s i e b) =
            let d = subst (λ (j : Indices). filled_for f j v) e (by_fill s i v b) in
            meeting q.set.around.types q.set.past q.work.types first shape m (cut f m) (cut_full f m) d.0 d.1 v d.2 n (whole f) facts (cut_later f m le)
        found (by_numbers i t u c b) = agreeing q.set.around.types q.set.past q.work.types first i shape m (cut f m) (cut_full f m) f.integers
            (cut_agree f m) t u (c f.integers (same f)) v (b f.integers (same f)) n (whole f) facts (cut_later f m le)

  -- ---- the way that runs

  never_not : {n : ℕ} {f : Point n} (i : Indices) (x : Item) → Is q.set q.work f i x → (y : Indices-F Indices Reading) → out-Indices i ≡ y
      → is_never_form y ≡ false
  never_not i x h W.Never e = absurd (never_value q i x h e)
  never_not i x h W.Unit e = refl
  never_not i x h W.Bit e = refl
  never_not i x h (W.Bits t) e = refl
  never_not i x h (W.Truth c) e = refl
  never_not i x h (W.Integer t) e = refl
  never_not i x h W.String e = refl
  never_not i x h (W.List r) e = refl
  never_not i x h (W.Vector t r) e = refl
  never_not i x h (W.Tuple is) e = refl
  never_not i x h (W.Named u is rs) e = refl
  never_not i x h (W.Variable k) e = refl

  gives_one : {n : ℕ} {f : Point n} (never_ends : Bool) (i : Indices) (x : Item) → never_ends ≡ false → Is q.set q.work f i x → gives_none never_ends i ≡ false
  gives_one never_ends i x e h = ap (λ b. b || is_never i) e ∙ never_not i x h (out-Indices i) refl

  never_walks : {n : ℕ} {f : Point n} {facts : List Fact} (place : Place) (first : Indices) (v : Value)
      → Walks q n f facts (owe_fit place never) (λ j g t. Came g first v)
  never_walks place first v = walks_mean (λ j g t b. no (sym (false_all (standing q.set.past g.integers)) ∙ b g.integers (same g)))
      (says_walks place (Some (C.Truth false) ∷ []))

  module _ (meeting : MeetingIsSound) (agreeing : AgreeingIsSound) (typed : HasItsType) (fit : FitsSuffice) (shape : Shape) where
    own_type : {n : ℕ} {f : Point n} (i : Indices) (v : Value) → Has q.set q.work f i v → Belongs q.set q.work f (R.Widened i) v
    own_type i v h g a = typed q.set.around.types q.set.past q.work.types g i v (has_there h g a)

    -- from a point at which every variable before the next is fixed
    from_whole : {n : ℕ} {f : Point n} {facts : List Fact} {A : Type 0} {w : Walk A} {Holds : (j : ℕ) → Point j → A → Type 0}
        → Walks q n (whole f) facts w Holds → Walks q n f facts w Holds
    from_whole {f = f} h = record {
      go = λ noted stands notes.
          let d = h.go noted (stands_on (later_whole f) stands) notes in
          record { point = d.point; later = later_on (later_whole f) d.later; stands = d.stands; holds = d.holds };
    }

    -- a first that names no variable of its own
    fits_first : {n : ℕ} {f : Point n} {facts : List Fact} (place : Place) (i first : Indices) (v : Value) → m ≤ n → is_value_whole first ≡ true
        → is_value_below m first ≡ true → Has q.set q.work f i v
        → Walks q n f facts (owe_fit place (fits q.set.around.types i (R.Widened first))) (λ j g t. Belongs q.set q.work g (R.Widened first) v)
    fits_first {n} {f} {facts} place i first v le w b h =
        let types = q.set.around.types in
        let past = q.set.past in
        let own = q.work.types in
        let widens = λ (g : Integers). closed_is types (standing past g) own (R.Widened first) (W.Widened first) (R.rolls-Widened first) in
        from_whole (fit q n (whole f) facts place i (R.Widened first) v (has_on (later_whole f) h) (
          (λ g a. widens g
              ∙ sym (wide_below types past own m f.integers g (λ k less. a.same k (lt-ltb k n (omega (arith, le, less)))) first b)
              ∙ sym (widens f.integers)),
          no_hole_widened first w,
        ))

    as_first_by : {n : ℕ} {f : Point n} {facts : List Fact} (place : Place) (first i : Indices) (v : Value) (b w : Bool) → m ≤ n
        → is_value_below m first ≡ b → is_value_whole first ≡ w → Has q.set q.work f i v
        → Walks q n f facts (owe_fit place (λ k. if w && b then fits q.set.around.types i (R.Widened first) k else never k)) (λ j g t. Came g first v)
    as_first_by place first i v true true le e u h = walks_mean (λ j g t b. by_type b) (fits_first place i first v le u e h)
    as_first_by place first i v true false le e u h = never_walks place first v
    as_first_by place first i v false true le e u h = never_walks place first v
    as_first_by place first i v false false le e u h = never_walks place first v

    agrees_walks : {n : ℕ} {f : Point n} {facts : List Fact} (place : Place) (first i : Indices) (v : Value) (a b : Bool) → m ≤ n
        → Has q.set q.work f i v → is_value_told (value_spelled first) ≡ a → is_value_told (value_spelled i) ≡ b
        → Walks q n f facts (owe_fit place (λ k. if a && b then says (agrees_within deepest m (value_spelled first) (value_spelled i)) k
        else as_first q.set.around.types m first i k)) (λ j g t. Came g first v)
    agrees_walks place first i v true true le h t u = keeps (R.Widened i) v (own_type i v h)
        (says_walks place (agrees_within deepest m (value_spelled first) (value_spelled i))) (λ j g x b c. by_numbers i t u c b)
    agrees_walks place first i v true false le h t u =
        as_first_by place first i v (is_value_below m first) (is_value_whole first) le refl refl h
    agrees_walks place first i v false b le h t u =
        as_first_by place first i v (is_value_below m first) (is_value_whole first) le refl refl h

    -- what a way owes of the first, where it gives a value
    owed_walks : {n : ℕ} {f : Point n} {facts : List Fact} (place : Place) (never_ends : Bool) (first i : Indices) (x : Item) → m ≤ n
        → never_ends ≡ false → Is q.set q.work f i x
        → Walks q n f facts (like_first (here q) place never_ends m first i) (λ j g t. Came g first x.val)
    owed_walks {n} {f} {facts} place never_ends first i x le e h =
        subst (λ b. Walks q n f facts (owe_fit place (agrees_unless b q.set.around.types m first i)) (λ j g t. Came g first x.val))
        (sym (gives_one never_ends i x e h))
        (agrees_walks place first i x.val (is_value_told (value_spelled first)) (is_value_told (value_spelled i)) le h.has refl refl)

    -- it is of a first one, the holes of which are filled
    first_came : {n : ℕ} {f : Point n} (i : Indices) (x : Item) → Is q.set q.work f i x → (whole : Bool)
        → Came f (filled_first whole q.set.around.types m shape i) x.val
    first_came i x h true = by_type (own_type i x.val h.has)
    first_came i x h false = by_filling shape i refl (own_type i x.val h.has)

    first_is : {n : ℕ} {f : Point n} (never_ends : Bool) (i : Indices) (x : Item) → never_ends ≡ false → Is q.set q.work f i x
        → MetFree n f (first_way (here q) m shape never_ends i) x
    first_is {n} {f} never_ends i x e h =
        subst (λ b. MetFree n f (first_unless b q.set.around.types m shape i) x) (sym (gives_one never_ends i x e h)) (first_came i x h (is_value_whole i))

    way_walks : {n : ℕ} {f : Point n} {facts : List Fact} (w : Way) (first : Option Indices) (i : Indices) (x : Item) → m ≤ n
        → w.never_ends ≡ false → Is q.set q.work f i x
        → Walks q n f facts (then_first (here q) true m shape w first i) (λ j g o. MetFree j g o x)
    way_walks w None i x le e h =
        walks_on (λ t. give (first_way (here q) m shape w.never_ends i)) {Holds = λ j g t. Is q.set q.work g i x}
        (given_back tt h) (λ j g fs t l d. given_back (first_way (here q) m shape w.never_ends i) (first_is w.never_ends i x e d))
    way_walks w (Some first) i x le e h =
        walks_on (λ t. give (Some first)) (owed_walks w.place w.never_ends first i x le e h) (λ j g fs t l d. given_back (Some first) d)

    -- ---- with ways behind it that aren't run: a first way stays the first

    module _ (met_grows : MetGrows) (counts : AgreementCounts) where
      way_over : {n : ℕ} {f : Point n} {facts : List Fact} (w : Way) (first : Indices) → Grows w.walk
          → Walks q n f facts (one_way (here q) true m shape w (Some first)) (λ j g o. o ≡ Some first)
      unfolding bind scoped give
      way_over {n} {f} {facts} w first h = record {
        go = λ noted stands notes.
            let over : Walks q n f facts (one_way (here q) true m shape w (Some first)) (λ j g o. Unit {0}) =
            walks_over (way_behind (here q) true m shape w (Some first)) (behind_grows met_grows counts (here q) true m shape w (Some first) h) in
            let d = over.go noted stands notes in
            record { point = d.point; later = d.later; stands = d.stands; holds = refl };
      }

      ways_over : {n : ℕ} {f : Point n} {facts : List Fact} (ws : List Way) (first : Indices) → AllGrow ws
          → Walks q n f facts (each_way (here q) true m shape ws (Some first)) (λ j g o. o ≡ Some first)
      ways_over [] first h = given_back (Some first) refl
      ways_over (w ∷ ws) first h = walks_on (each_way (here q) true m shape ws) {Holds = λ j g o. o ≡ Some first} (way_over w first h.0)
          (λ j g fs o l e. subst (λ d. Walks q j g fs (each_way (here q) true m shape ws d) (λ k p a. a ≡ Some first)) (sym e) (ways_over ws first h.1))

      over_others : {n : ℕ} {f : Point n} {facts : List Fact} (ws : List Way) (o : Option Indices) (x : Item) → AllGrow ws → MetFree n f o x
          → Walks q n f facts (each_way (here q) true m shape ws o) (λ j g a. MetFree j g a x)
      over_others ws None x h k = absurd k
      over_others {n} {f} {facts} ws (Some first) x h k = record {
        go = λ noted stands notes.
            let d = (ways_over {n = n} {f = f} {facts = facts} ws first h).go noted stands notes in
            record {
              point = d.point;
              later = d.later;
              stands = d.stands;
              holds = subst (λ o. MetFree (each_way (here q) true m shape ws (Some first) facts n).next d.point o x) (sym d.holds)
                  (came_on first x.val d.later k);
            };
      }

      pub taken_free : {n : ℕ} {f : Point n} {facts : List Fact} (nested : Bool) (w : Way) (after : List Way) (c : Run Item Item) (first : Option Indices)
          → m ≤ n → AllGrow after → Beside q n f facts w.walk c (λ j g i x. Comes q.set q.work g true nested w.never_ends Aims.Free i x)
          → Beside q n f facts (each_way (here q) true m shape (w ∷ after) first) ((checked q.set.around.types q.cases).inside c)
          (λ j g o x. MetFree j g o x × (w.never_ends ≡ false))
      taken_free {n} {f} {facts} nested w after c first le h b = then_walks (each_way (here q) true m shape after)
          {Holds = λ j g o x. MetFree j g o x × (w.never_ends ≡ false)}
          (scopes (then_walks (then_first (here q) true m shape w first) b (λ j g fs i x l e.
          walks_mean (λ k p d a. (a, e.ends))
          (way_walks w first i x (let on = l.onward in omega (arith, le, on)) e.ends (record { has = e.has; typ = e.typ })))))
          (λ j g fs o x l e. walks_mean (λ k p d a. (a, e.1)) (over_others after o x h e.0))
