-- Patterns beside their runs, in a scene: from the laws of patterns, which know of no scene.
use Rattle.std.proofs.Common.{◌≡◌, ◌≤◌, ◌≤ℤ◌, ℕ, zero, suc, ℤ, pos, negsuc, true, List, [], ◌∷◌, slice_get, Option, Some, option_map}
use Rattle.std.proofs.Common.{refl, sym, ap, ◌∙◌, subst, arith}
use Rattle.std.proofs.lemmas.Int.{ints}
use Rattle.sail_base.specs.declared.place.Place.{Place}
use Rattle.sail_types.specs.Numbers.{number}
use Rattle.sail_types.specs.Places.{Given}
use Rattle.sail_types.specs.declared.numbers.Index.{Index}
use Rattle.sail_types.specs.declared.numbers.Index.TheVariants as N
use Rattle.sail_types.specs.declared.numbers.Num.{Num}
use Rattle.sail_core.specs.Making.{World}
use Rattle.sail_core.specs.Numbers.{given_int}
use Rattle.sail_core.specs.Patterns.{arm_meaning}
use Rattle.sail_core.specs.Run.{Now, Ended, Run}
use Rattle.sail_core.specs.declared.model.Direction.{Direction}
use Rattle.sail_core.specs.declared.patterns.Arm.{Arm}
use Rattle.value_indices.specs.declared.indices.Indices.{Indices, out-Indices}
use Rattle.value_indices.specs.declared.indices.Indices.TheOpen as W
use Rattle.value_indices.specs.declared.indices.Indices.TheOpen.{Indices-F}
use Rattle.value_indices.specs.declared.indices.Reading.{Reading}
use Rattle.value_indices.specs.declared.notes.Fact.{Fact}
use Rattle.value_indices.specs.declared.notes.Made.{Made}
use Rattle.value_indices.specs.declared.notes.Made.TheVariants as Makes
use Rattle.value_indices.specs.Steps.{Note, goal_note, size_note, made_note, call_note, way_note, given_note, name_note, Walk}
use Rattle.value_laws.specs.Belonging.{Integers, standing}
use Rattle.value_laws.specs.Known.{given_in, Point, Agree}
use Rattle.checked_meaning.specs.Checked.{Noted, checked}
use Rattle.checked_meaning.specs.Items.{Item}
use Rattle.pattern_leaves.specs.Settings.{Scope}
use Rattle.pattern_notes.specs.Patterns.{arm_match, arm_written, looks, one_match}
use Rattle.pattern_notes.specs.declared.matching.Matching.{Matching}
use Rattle.pattern_laws.specs.Beside as P
use Rattle.pattern_laws.specs.Grounds.{Grounded, IsGiven, IsOwed, Ways}
use Rattle.pattern_laws.specs.Standing.{arm_stands}
use Rattle.pattern_laws.specs.Typing.{AllBear, Bears, NamesBear, Typing}
use Rattle.pattern_laws.proofs.Patterns.{arm_is_sound, let_is_sound}
use Rattle.sized_patterns.specs.Laws.{FormFits, IsWidth}
use Rattle.sized_patterns.proofs.Stay.{parts_stay_sized}
use Rattle.hanging_sizes.proofs.Payloads.{payloads_hang}
use Rattle.soundness_steps.proofs.Points.{agree_on, behind}
use Rattle.soundness_steps.specs.Calls as Calls
use Rattle.soundness_steps.specs.Calls.{After, CallEnds, SoundCalls, call_falls, call_gives, call_stops, call_throws}
use Rattle.soundness_steps.specs.Covers as C
use Rattle.soundness_steps.specs.Covers.{given_there}
use Rattle.soundness_steps.specs.Noted.{EachNoted}
use Rattle.soundness_steps.specs.States.{AllKept, Sound}
use Rattle.soundness_steps.specs.Steps.{AllMet, Beside, EndsWell, Stands, well_given, well_no, well_returned, well_stopped, well_thrown}
use Rattle.soundness_steps.specs.Works.{Scene, Setting, Work, here}
use Rattle.soundness_forms.specs.Worlds.{AreGiven, Surrounds}
use Rattle.soundness_forms.proofs.Registers.{closed_here}
use Rattle.soundness_forms.proofs.Written.{numbers_still}
use Rattle.soundness_binding.specs.Scenes.{ModelFits, SizesThere, ends}
use Rattle.soundness_binding.proofs.Exact.{FitsThere, ReadsThere, kept_there}
use Rattle.soundness_binding.proofs.Plain.{plain_read}

-- ---- sizes that are noted fit as patterns want it

natural : (z : ℤ) → pos 0 ≤ℤ z → (k : ℕ) × (z ≡ pos k)
natural (pos k) h = (k, refl)
natural (negsuc k) h = absurd (omega (arith, ints, h))

most_natural : (k : ℕ) → pos k ≤ℤ pos 128 → k ≤ 128
most_natural k h = omega (arith, ints, h)

module _ (set : Setting) (work : Work) (g : Integers) where
  width_fits : (t : Num) → C.IsSize set.past g t 128 → IsWidth g t
  width_fits t h =
      let k = natural (number (standing set.past g) t) h.1 in
      record { width = k.0; is_so = h.0 ∙ ap Some k.1; most = most_natural k.0 (subst (λ z. z ≤ℤ pos 128) k.1 h.2) }

  form_fits : (x : Indices-F Indices Reading) → C.FormFits set.past g x → FormFits set.around.types work.own g x
  form_fits (W.Bits t) h = width_fits t h
  form_fits W.Never h = tt
  form_fits W.Unit h = tt
  form_fits (W.Truth c) h = tt
  form_fits W.Bit h = tt
  form_fits (W.Integer t) h = tt
  form_fits W.String h = tt
  form_fits (W.List r) h = tt
  form_fits (W.Vector t r) h = tt
  form_fits (W.Tuple is) h = tt
  form_fits (W.Named u is rs) h = tt
  form_fits (W.Variable i) h = tt

  sizes_fit : (made : Made) → C.SizesFit set work g made → SizesThere set work g made
  sizes_fit (Makes.ByIndices i) h = form_fits (out-Indices i) h
  sizes_fit (Makes.ByType r) h = λ exact v is tells naming facts n had. (h exact v is).each tells naming facts n had

-- ---- a piece beside a walk goes over into a scene

-- of a pattern's notes obligations, sizes, and directions that are reached, are wanted
met_as : (q : Scene) (noted : Noted) (ns : List Note) → AllMet q ns → P.AllMet (ends q noted) q.set.past ns
met_as q noted [] met = tt
met_as q noted (goal_note facts place c ∷ ns) met = (met.0, met_as q noted ns met.1)
met_as q noted (size_note facts place made ∷ ns) met = (
  λ g all so. sizes_fit q.set q.work g made (met.0 g noted (record { numbers = so.0; true_there = all; given = so.1 })),
  met_as q noted ns met.1,
)
met_as q noted (made_note facts k operands made ∷ ns) met = (tt, met_as q noted ns met.1)
met_as q noted (call_note facts place k operands callee js qs ∷ ns) met = (tt, met_as q noted ns met.1)
met_as q noted (way_note facts d ∷ ns) met = (
  λ g all so. met.0 g noted (record { numbers = so.0; true_there = all; given = so.1 }),
  met_as q noted ns met.1,
)
met_as q noted (given_note facts k i ∷ ns) met = (tt, met_as q noted ns met.1)
met_as q noted (name_note v name ∷ ns) met = (tt, met_as q noted ns met.1)

ends_as : (q : Scene) {n : ℕ} {f : Point n} (facts : List Fact) (noted : Noted) {m : ℕ} (more : List Fact) {B : Type 0} {Holds : Point m → B → Type 0}
    {e : Ended Item B} → q.may_fall ≡ true → Stands q.set q.work noted f facts
    → P.EndsWell (ends q noted) noted (λ x. P.Reach (ends q noted) q.set.past f facts m more (λ p. Holds p x)) e → EndsWell q f m more Holds e
ends_as q facts noted more fall stands (P.well_given x now r k alike) = well_given x now (record {
  point = r.point;
  later = behind r.later;
  stands = record {
    there = λ g a.
        let before = stands.there g (agree_on (behind r.later) a) in
        record {
          numbers = before.numbers;
          true_there = r.stands.there g a;
          given = subst (λ o. EachNoted o g (given_in more)) (sym alike) (subst (EachNoted noted g) (sym r.given) before.given);
        };
  };
  holds = r.holds;
}) k
ends_as q facts noted more fall stands (P.well_no now k) = well_no now fall k
ends_as q facts noted more fall stands (P.well_returned v now b k) = well_returned v now b k
ends_as q facts noted more fall stands (P.well_thrown v now b k) = well_thrown v now b k
ends_as q facts noted more fall stands (P.well_stopped cause now) = well_stopped cause now

in_scene : (q : Scene) {n : ℕ} {f : Point n} {facts : List Fact} {A B : Type 0} {walk : Walk A} {piece : Run Item B}
    {Then : (m : ℕ) → Point m → A → B → Type 0} → q.may_fall ≡ true
    → ((noted : Noted) → P.Beside (ends q noted) q.set.past n f facts walk piece Then)
    → Beside q n f facts walk piece Then
in_scene q {n} {f} {facts} {walk = walk} fall b = record {
  run = λ now stands met ok.
      ends_as q facts now.opened (walk facts n).facts fall stands
      ((b now.opened).run now (record {
        there = λ g a. (stands.there g a).true_there;
        so = λ g a. ((stands.there g a).numbers, (stands.there g a).given);
      }) (met_as q now.opened (walk facts n).notes met) ok);
}

-- ---- what is known there

module _ (q : Scene) (w : World Item) {n : ℕ} (f : Point n) where
  each_given : (is : List Index) (ys : List Given) → AreGiven q w f is ys → (g : Integers) → Agree f g → (i : ℕ) (t : Num)
      → slice_get is i ≡ Some (N.Number t) → given_int (slice_get ys i) ≡ Some (number (standing q.set.past g) t)
  each_given (x ∷ is) (y ∷ ys) h g a zero t e =
      ap (λ u. given_int (Some u)) (h.0 g a) ∙ ap (λ (o : Option Index). given_int (option_map (given_there q.set.past g) o)) e
  each_given (x ∷ is) (y ∷ ys) h g a (suc k) t e = each_given is ys h.1 g a k t e
  each_given [] [] h g a k t e = absurd (cc)
  each_given [] (y ∷ ys) h g a k t e = absurd h
  each_given (x ∷ is) [] h g a k t e = absurd h

  grounded : AreGiven q w f q.numbers w.numbers → Grounded q.set.past (here q) w.numbers f
  grounded h = record {
    still = numbers_still q w f q.numbers w.numbers h;
    given = each_given q.numbers w.numbers h;
  }

-- the types that values carry in patterns are those of their indices
abbrev pub carried : (q : Scene) → ModelFits q.set q.work → Typing q.set.around.types q.set.past q.work.types (SizesThere q.set q.work)
carried q model = record {
  fits = FitsThere q.set q.work;
  reads = ReadsThere q.set q.work;
  kept = kept_there q.set q.work
      (parts_stay_sized q.set.around.types q.set.past q.work.types q.work.own (payloads_hang q.set.around.types q.work.own model.alone));
}

module _ (q : Scene) (w : World Item) (model : ModelFits q.set q.work) where
  abbrev pub y : Typing q.set.around.types q.set.past q.work.types (SizesThere q.set q.work)
  y = carried q model

  after_ok : (now after : Now Item) → Sound q now → After q.set now after → Sound q after
  after_ok now after ok k = record { state = k.state; names = subst (AllKept q.set.around.types q.names) (sym k.locals) ok.names }

  given_as : (m : Direction) (d : ℕ) → slice_get q.set.around.directions d ≡ Some m → (x : Item) → Calls.IsGiven q.set m x
      → IsGiven (here q) q.set.past q.work.types y m.result x
  given_as m d found x k =
      let closed = (model.mappings d m found).1 in
      record {
        belongs_to = λ g. closed_here q.set q.work m.result closed g x.val ∙ k.belongs;
        reads = λ g exact. k.typ ∙ plain_read q.set.around.types q.work.own g m.result closed;
      }

  call_as : (noted : Noted) (m : Direction) (d : ℕ) → slice_get q.set.around.directions d ≡ Some m → (now : Now Item) → Sound q now → {e : Ended Item Item}
      → CallEnds q.set true now (Calls.IsGiven q.set m) e
      → P.EndsWell (ends q noted) now.opened (λ v. IsGiven (here q) q.set.past q.work.types y m.result v) e
  call_as noted m d found now ok (call_gives x after k a) = P.well_given x after (given_as m d found x k) (after_ok now after ok a) a.opened
  call_as noted m d found now ok (call_falls after e a) = P.well_no after (after_ok now after ok a)
  call_as noted m d found now ok (call_throws v after h a) = P.well_thrown v after h (after_ok now after ok a)
  call_as noted m d found now ok (call_stops cause after) = P.well_stopped cause after

  ways : SoundCalls q.set q.reached w → (noted : Noted) → Ways (here q) q.set.past q.work.types y (ends q noted) w
  ways calls noted d m x reached found belongs now ok =
      let closed = (model.mappings d m found).0 in
      call_as noted m d found now ok
      (calls.way d m x reached found
      (sym (closed_here q.set q.work m.parameter closed (λ i. pos 0) x.val) ∙ belongs (λ i. pos 0)) now ok.state)

  -- the pattern of a `let` there, and the patterns of an arm: where they match, the names are those of the walk
  pub let_stands : q.may_fall ≡ true → (n : ℕ) (f : Point n) (facts : List Fact) (scope : Scope) (place : Place) (arm : Arm) (how : Matching) (i : Indices)
      (x : Item) → Surrounds q w f scope → Bears q.set.around.types q.set.past q.work.types y f i x
      → IsOwed (here q) q.set.past q.work.types f how (arm_written arm) x → arm_stands q.set.around.types q.numbers arm ≡ true
      → Beside q n f facts (one_match place (looks arm) (here q) how i) (arm_meaning (checked q.set.around.types q.cases) w arm (x ∷ []))
      (NamesBear q.set.around.types q.set.past q.work.types y q.numbers)
  let_stands fall n f facts scope place arm how i x there bears owed stands =
      in_scene q fall (λ noted.
      let_is_sound (here q) q.set.past q.work.types y (ends q noted) q.cases w (ways there.calls noted) place arm how i x n f facts bears
      (grounded q w f there.numbers) owed stands)

  pub arm_stands_there : q.may_fall ≡ true → (n : ℕ) (f : Point n) (facts : List Fact) (scope : Scope) (place : Place) (arm : Arm) (how : Matching)
      (is : List Indices) (xs : List Item) → Surrounds q w f scope → AllBear q.set.around.types q.set.past q.work.types y f is xs
      → arm_stands q.set.around.types q.numbers arm ≡ true
      → Beside q n f facts (arm_match place arm (here q) how is) (arm_meaning (checked q.set.around.types q.cases) w arm xs)
      (NamesBear q.set.around.types q.set.past q.work.types y q.numbers)
  arm_stands_there fall n f facts scope place arm how is xs there bears stands =
      in_scene q fall (λ noted.
      arm_is_sound (here q) q.set.past q.work.types y (ends q noted) q.cases w (ways there.calls noted) place arm how is xs n f facts bears
      (grounded q w f there.numbers) stands)
