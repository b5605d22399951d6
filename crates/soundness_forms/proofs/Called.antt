-- Calls of functions on arguments, beside their runs.
use Rattle.std.proofs.Common.{◌≡◌, ℕ, Bool, true, false, ◌&&◌, List, [], ◌∷◌, map, length, slice_get, Option, Some, None, refl, sym, ap, ◌∙◌, subst}
use Rattle.std.proofs.lemmas.Bool.Decides.{Decides-int_eq}
use Rattle.sail_base.specs.declared.place.Place.{Place}
use Rattle.sail_types.specs.Belongs.{Reading as Closed, reading, belongs}
use Rattle.sail_types.specs.Numbers.{Positive}
use Rattle.sail_types.specs.Places.{Given, an_int, a_bool}
use Rattle.sail_types.specs.declared.numbers.Index.{Index}
use Rattle.sail_types.specs.declared.table.Types.{Types}
use Rattle.sail_types.specs.declared.values.Value.{Value}
use Rattle.sail_core.specs.Making.{World}
use Rattle.sail_core.specs.Numbers.{Awaited, Instance, all_agree, same_given}
use Rattle.sail_core.specs.Run.{Now, Ended, Run, gives, goes_on, needs, ◌then◌}
use Rattle.sail_core.specs.declared.model.Function.{Function}
use Rattle.sail_core.specs.declared.tree.Callee.TheVariants as D
use Rattle.value_indices.specs.declared.indices.Indices.{Indices}
use Rattle.value_indices.specs.declared.indices.Indices.TheOpen as W
use Rattle.value_indices.specs.declared.indices.Naming.TheVariants as M
use Rattle.value_indices.specs.declared.indices.Reading.{Reading}
use Rattle.value_indices.specs.declared.indices.Reading.TheVariants as R'
use Rattle.value_indices.specs.declared.notes.Fact.{Fact}
use Rattle.value_indices.specs.Opening.{opened}
use Rattle.value_indices.specs.Steps.{call_note, note, bind}
use Rattle.call_arguments.specs.Callees.{numbers_from, types_from}
use Rattle.call_notes.specs.Calls.{function_called, noted_call}
use Rattle.call_fits.specs.Calls.{givens_at}
use Rattle.call_notes.specs.Noted.{made_opened}
use Rattle.size_values.specs.declared.sized.Sized.{Sized}
use Rattle.checked_meaning.specs.Items.{Item, typs, vals}
use Rattle.checked_meaning.specs.Checked.{checked}
use Rattle.checked_meaning.specs.Fits.{AllFit}
use Rattle.value_laws.specs.Belonging.{Integers, standing, closed, closeds, over, types_or_own}
use Rattle.value_laws.specs.Known.{Point, Agree}
use Rattle.value_laws.proofs.Steps.{same}
use Rattle.value_laws.proofs.Values.{closed_is}
use Rattle.soundness_steps.proofs.Points.{agree_on, later_on, no_later}
use Rattle.soundness_steps.specs.Works.{Scene, Work, here}
use Rattle.soundness_steps.specs.Noted.{type_sized}
use Rattle.soundness_steps.specs.Covers.{AllAgree, given_there}
use Rattle.soundness_steps.specs.Calls.{After, CallEnds, Enters, SoundCalls, awaited_at, call_falls, call_gives, call_stops, call_throws, inside}
use Rattle.soundness_steps.specs.States.{AllKept, Sound}
use Rattle.soundness_steps.specs.Steps.{Beside, EndsWell, Stands, well_given, well_stopped, well_thrown}
use Rattle.soundness_steps.specs.Values.{AllTyped, Is}
use Rattle.soundness_steps.proofs.Steps.{all_sized, binds, walks_then}
use Rattle.soundness_forms.specs.Calls.{ArgumentsAre, CallFits, CallsFit}
use Rattle.soundness_forms.proofs.Nodes.{made_opens, typed_on}

-- ---- what is awaited is what the arguments give

same_itself : (y : Given) → same_given y y ≡ true
same_itself (an_int z) = (Decides-int_eq z z).1 refl
same_itself (a_bool true) = refl
same_itself (a_bool false) = refl

module _ (past : Positive) (g : Integers) where
  agree_all : (gs : List (Option Given)) (is : List Index) → AllAgree past g gs is → all_agree gs (map (given_there past g) is) ≡ true
  agree_all [] [] h = refl
  agree_all (None ∷ gs) (i ∷ is) h = agree_all gs is h.1
  agree_all (Some y ∷ gs) (i ∷ is) h =
      ap (λ x. same_given x (given_there past g i) && all_agree gs (map (given_there past g) is)) h.0
      ∙ ap (λ b. b && all_agree gs (map (given_there past g) is)) (same_itself (given_there past g i)) ∙ agree_all gs is h.1
  agree_all [] (i ∷ is) h = absurd h
  agree_all (y ∷ gs) [] h = absurd h

-- types that stand behind those of the sizes change nothing
pub with_own : (types : Types) (rs own : List Closed) (ss : List Sized) → AllFit types rs ss → AllFit types (types_or_own rs own) ss
with_own types rs own [] h = tt
with_own types [] own (s ∷ ss) h = absurd h
with_own types (r ∷ rs) [] (s ∷ ss) h = h
with_own types (r ∷ rs) (c ∷ own) (s ∷ ss) h = (h.0, with_own types rs own ss h.1)

-- ---- a call ends as a piece does

sound_after : {q : Scene} (before now : Now Item) → Sound q before → After q.set before now → Sound q now
sound_after {q} before now s a = record { state = a.state; names = subst (AllKept q.set.around.types q.names) (sym a.locals) s.names }

pub calls_well : {q : Scene} {n : ℕ} {f : Point n} {facts : List Fact} {A : Type 0} {Holds : A → Type 0} {e : Ended Item A} (before : Now Item)
    → Stands q.set q.work before.opened f facts → Sound q before → CallEnds q.set false before Holds e → EndsWell q f n facts (λ p x. Holds x) e
calls_well {q} {n} {f} {facts} before stands ok (call_gives x now h a) = well_given x now (record {
  point = f;
  later = no_later f;
  stands = subst (λ o. Stands q.set q.work o f facts) (sym a.opened) stands;
  holds = h;
}) (sound_after before now ok a)
calls_well before stands ok (call_falls now h a) = absurd (cc)
calls_well before stands ok (call_throws v now h a) = well_thrown v now h (sound_after before now ok a)
calls_well before stands ok (call_stops cause now) = well_stopped cause now

-- ---- a function

called_for : {q : Scene} {n : ℕ} {f : Point n} {fs : List Fact} {m : ℕ} {A : Type 0} {Holds : Point m → A → Type 0} (o : Option Instance) (x : Instance)
    (c : Awaited → Run Item A) (now : Now Item) → o ≡ Some x → EndsWell q f m fs Holds (c (Some x) now)
    → EndsWell q f m fs Holds (goes_on ((needs o then λ y. gives (Some y)) now) c)
called_for {q} {f} {fs} {m} {Holds} o x c now e h =
    subst (λ p. EndsWell q f m fs Holds (goes_on ((needs p then λ y. gives (Some y)) now) c)) (sym e) h

module _ (q : Scene) (w : World Item) (place : Place) (k i : ℕ) (fn : Function) (is_it : slice_get q.set.around.functions i ≡ Some fn)
    (calls : SoundCalls q.set q.reached w) (is : List Indices) (xs : List Item) (next : ℕ) where
  abbrev js : List Index
  js = numbers_from 0 fn.variables fn.parameters is

  -- where variables are counted from this one on
  abbrev qs : List Reading
  qs = types_from next 0 (length fn.type_variables) fn.parameters is

  -- the result, under what the callee's variables stand for
  abbrev Gives : {n : ℕ} {f : Point n} → CallFits q.set q.work f fn js qs (vals xs) → Value → Type 0
  Gives fits v = belongs q.set.around.types v (over (inside q.set fn fits.integers) fn.result fits.types) ≡ true

  pub agrees : {n : ℕ} (f : Point n) (fits : CallFits q.set q.work f fn js qs (vals xs)) (numbers : List (Option Given))
      → AllAgree q.set.past f.integers numbers js → all_agree numbers (givens_at fits.integers 0 fn.variables) ≡ true
  agrees f fits numbers h = ap (all_agree numbers) (sym (fits.given f.integers (same f))) ∙ agree_all q.set.past f.integers numbers js h

  call_runs : {n : ℕ} {f : Point n} {facts : List Fact} → AllTyped q.set q.work f is xs → (fits : CallFits q.set q.work f fn js qs (vals xs))
      → Beside q n f facts (note (λ fs. call_note fs place k is (D.Function i) js qs))
      ((checked q.set.around.types q.cases).calls k xs then λ awaited. w.call place i awaited (vals xs)) (λ m p t v. Gives fits v)
  unfolding note
  call_runs {n} {f} {facts} typed fits = record {
    run = λ now stands met ok.
        let lead = met.0 f.integers now.opened (stands.there f.integers (same f)) (typs xs) (all_sized q f is xs f.integers (same f) typed) in
        let x : Work = record {
          function = i;
          instance = lead.instance;
          own = map
              (type_sized q.set.around.types q.work.own f.integers) qs;
          types = fits.types;
        } in
        let enters : Enters q.set x fn (vals xs) fits.integers = record {
          is_covered = lead.is_covered fits.types;
          own_fits = λ fitted. subst (λ ts. AllFit q.set.around.types ts (map (type_sized q.set.around.types q.work.own f.integers) qs))
              (fits.same_types f.integers (same f))
              (with_own q.set.around.types (map (closed q.set.around.types (standing q.set.past f.integers) q.work.types) qs) q.work.types
              (map (type_sized q.set.around.types q.work.own f.integers) qs) (lead.own_fit fitted));
          is_it = is_it;
          belong = fits.belong;
          constraint = fits.constraint;
          are_given = fits.are_given;
          awaited = agrees f fits lead.instance.numbers lead.agree;
        } in
        called_for (q.cases.calls k (typs xs) now.opened) (awaited_at x lead.awaited) (λ awaited. w.call place i awaited (vals xs)) now lead.is_there
        (calls_well now stands ok
        (calls.call place x fn (vals xs) fits.integers enters lead.awaited (agrees f fits lead.awaited lead.awaits) now ok.state));
  }

  -- the type of what it gives
  result_is : {n : ℕ} {f : Point n} (fits : CallFits q.set q.work f fn js qs (vals xs)) (g : Integers) → Agree f g
      → closed q.set.around.types (standing q.set.past g) q.work.types (R'.Of fn.result js qs)
      ≡ over (inside q.set fn fits.integers) fn.result fits.types
  result_is fits g a =
      closed_is q.set.around.types (standing q.set.past g) q.work.types (R'.Of fn.result js qs) (W.Of fn.result js qs) (R'.rolls-Of fn.result js qs)
      ∙ (λ j. reading fn.result (fits.same g a j) (closeds (fits.same_types g a j)))

  pub function_fine : CallsFit fn → {f : Point next} {facts : List Fact} (bs : List Bool) → ArgumentsAre q.set q.work f bs fn.parameters is (vals xs)
      → AllTyped q.set q.work f is xs
      → Beside q next f facts (function_called (here q) place k i fn js qs bs is)
      (((checked q.set.around.types q.cases).calls k xs then λ awaited. w.call place i awaited (vals xs)) then λ v.
      (checked q.set.around.types q.cases).make k xs v)
      (λ m g j y. Is q.set q.work g j y)
  unfolding opened
  function_fine fit {f} {facts} bs args typed =
      walks_then (λ t. bind (noted_call place k is (D.Function i) js qs) (λ u. made_opened place k is (R'.Of fn.result js qs)))
      (fit q next f facts place bs is (vals xs) args) (λ m g fs t l fits.
      binds (λ u. made_opened place k is (R'.Of fn.result js qs)) (λ v. (checked q.set.around.types q.cases).make k xs v)
      (call_runs (typed_on q.set q.work is xs l typed) fits) (λ m2 g2 fs2 u v l2 h.
      made_opens place k is (R'.Of fn.result js qs) false M.Unnamed xs v (typed_on q.set q.work is xs (later_on l l2) typed)
      (λ d a. result_is fits d (agree_on l2 a) ∙ sym (result_is fits g2.integers (agree_on l2 (same g2))))
      (λ d a. ap (belongs q.set.around.types v) (result_is fits d (agree_on l2 a)) ∙ h)))
