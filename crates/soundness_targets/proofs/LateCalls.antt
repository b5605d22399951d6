-- What reads the base of a target, at any moment behind its arguments: what it gives, and that it leaves the numbers that are noted as they are.
use Rattle.std.proofs.Common.{◌≡◌, ◌∙◌, ◌&&◌, ◌++◌, ℕ, zero, suc, Bool, true, false, List, [], ◌∷◌, length, map, nat_eq, slice_get, Option, Some}
use Rattle.std.proofs.Common.{None, if◌then◌else◌, arith, refl, sym, ap, subst}
use Rattle.std.specs.Prelude.{replicate}
use Rattle.std.proofs.lemmas.Bool.Decides.{Decides-int_eq}
use Rattle.sail_base.specs.declared.place.Place.{Place}
use Rattle.sail_types.specs.Numbers.{Positive}
use Rattle.sail_types.specs.Places.{Given, a_bool, an_int}
use Rattle.sail_types.specs.declared.numbers.Index.{Index}
use Rattle.sail_types.specs.declared.rows.Row.{Row}
use Rattle.sail_types.specs.declared.types.Typ.{Typ}
use Rattle.sail_types.specs.declared.values.Value.{Value}
use Rattle.model_state.specs.RunState.{Ran}
use Rattle.model_state.specs.declared.cause.Cause.{Cause}
use Rattle.model_state.specs.declared.cause.Cause.TheVariants.{MatchFailure}
use Rattle.model_state.specs.declared.cause.Ended.{Ended as EndOfRow}
use Rattle.model_state.specs.declared.cause.Ended.TheVariants as E
use Rattle.model_state.specs.StateRows.{state_row}
use Rattle.row_types.specs.Calls.{has_state}
use Rattle.sail_core.specs.Making.{World, made}
use Rattle.sail_core.specs.Numbers.{Awaited, Instance, all_agree, same_given}
use Rattle.sail_core.specs.Run as R
use Rattle.sail_core.specs.Run.{Ended, Now, Run, after_row, ended_as, gives, goes_on, needs, or_so, row_run, stops, stuck, tick_at, ◌or_else◌, ◌then◌}
use Rattle.sail_core.specs.Targets.{called as called_run}
use Rattle.sail_core.specs.declared.model.Direction.{Direction}
use Rattle.sail_core.specs.declared.model.Function.{Function}
use Rattle.sail_core.specs.declared.tree.Callee.{Callee}
use Rattle.sail_core.specs.declared.tree.Callee.TheVariants as D
use Rattle.sail_core.specs.declared.tree.Giver.TheVariants as By
use Rattle.size_values.specs.declared.sized.Sized.{Sized}
use Rattle.value_indices.specs.Steps.{Walk, bind, call_note, next_variable, note}
use Rattle.value_indices.specs.declared.indices.Indices.{Indices}
use Rattle.value_indices.specs.declared.indices.Reading.{Reading}
use Rattle.value_indices.specs.declared.indices.Reading.TheVariants as Q
use Rattle.value_indices.specs.declared.notes.Fact.{Fact}
use Rattle.value_fits.specs.Fitting.{fits, owe_fit}
use Rattle.pattern_leaves.specs.Settings.{Scope}
use Rattle.call_arguments.specs.Aims.{is_hole}
use Rattle.call_arguments.specs.Callees.{argument_aim, is_closed, numbers_from, types_from}
use Rattle.call_arguments.specs.Placing.{call_conditions}
use Rattle.call_arguments.specs.declared.aims.Aim.{Aim}
use Rattle.call_arguments.specs.declared.aims.Aim.TheVariants as Aims
use Rattle.call_fits.specs.Calls.{givens_at}
use Rattle.call_notes.specs.Calls.{called, direction_applied, direction_call, direction_called, direction_types, function_call, function_called, noted_call}
use Rattle.call_notes.specs.Calls.{numbered_call}
use Rattle.call_notes.specs.Ends.{fits_unless, never_value}
use Rattle.expression_steps.specs.Calls.{argument_aims, nestings}
use Rattle.expression_steps.specs.Parts.{Part}
use Rattle.checked_meaning.specs.Checked.{checked}
use Rattle.checked_meaning.specs.Items.{Item, item, typs, vals}
use Rattle.checked_meaning.specs.Fits.{AllFit}
use Rattle.value_laws.specs.Belonging.{Integers, closed, standing}
use Rattle.value_laws.specs.Known.{Point}
use Rattle.value_laws.proofs.Steps.{same}
use Rattle.soundness_steps.specs.Calls.{CallEnds, Enters, IsOf, SoundCalls, awaited_at, call_falls, call_gives, call_stops, call_throws}
use Rattle.soundness_steps.specs.Covers.{AllAgree, given_there}
use Rattle.soundness_steps.specs.Noted.{type_sized}
use Rattle.soundness_steps.specs.States.{Sound}
use Rattle.soundness_steps.specs.Steps.{AllMet, Beside, Stands, Walks}
use Rattle.soundness_steps.specs.Values.{AllTyped, Is, IsMet}
use Rattle.soundness_steps.specs.Works.{Scene, Setting, Work, here}
use Rattle.soundness_steps.proofs.Steps.{all_sized, met_behind, met_front, next_is}
use Rattle.soundness_forms.specs.Calls.{ArgumentsAre, CallFits, CalleeFits, CallsFit}
use Rattle.soundness_forms.specs.Forms.{FitsSuffice}
use Rattle.soundness_forms.specs.Mappings.{MappingsClosed}
use Rattle.soundness_forms.specs.Worlds.{Surrounds}
use Rattle.soundness_forms.proofs.Basics.{wrong_walks}
use Rattle.soundness_forms.proofs.Nodes.{typed_on}
use Rattle.soundness_forms.proofs.Parts.{EachIs, all_have, are_typed, none_never, other_aims}
use Rattle.soundness_forms.proofs.Called.{with_own}
use Rattle.soundness_values.proofs.Functions as Functions
use Rattle.soundness_values.proofs.Mappings as Mappings
use Rattle.soundness_values.proofs.Mappings.{nameless_of, nameless_wanted, none_beside}
use Rattle.soundness_values.proofs.RowCalls.{row_fine}
use Rattle.soundness_values.proofs.Stands.{as_many, same_count}
use Rattle.soundness_values.proofs.Taken.{widening}
use Rattle.soundness_parts.proofs.SliceSteps.{under}
use Rattle.soundness_parts.proofs.Taken.{z}
use Rattle.soundness_targets.proofs.Callings.{count_nestings, many_wrong, new_part, none_fits}

-- ---- the numbers that are noted are as before

abbrev pub Kept : {A : Type 0} → Now Item → Ended Item A → Type 0
Kept now (R.Gives x after) = after.opened ≡ now.opened
Kept now (R.No after) = Unit {0}
Kept now (R.Returns v after) = Unit {0}
Kept now (R.Throws v after) = Unit {0}
Kept now (R.Stops cause after) = Unit {0}
Kept now R.Stuck = Unit {0}

kept_from : {A : Type 0} (now after : Now Item) (e : Ended Item A) → after.opened ≡ now.opened → Kept after e → Kept now e
kept_from now after (R.Gives x last) h k = k ∙ h
kept_from now after (R.No last) h k = tt
kept_from now after (R.Returns v last) h k = tt
kept_from now after (R.Throws v last) h k = tt
kept_from now after (R.Stops cause last) h k = tt
kept_from now after R.Stuck h k = tt

kept_then : {A B : Type 0} (now : Now Item) (e : Ended Item A) (d : A → Run Item B) → Kept now e → ((x : A) (after : Now Item) → Kept after (d x after))
    → Kept now (goes_on e d)
kept_then now (R.Gives x after) d h k = kept_from now after (d x after) h (k x after)
kept_then now (R.No after) d h k = tt
kept_then now (R.Returns v after) d h k = tt
kept_then now (R.Throws v after) d h k = tt
kept_then now (R.Stops cause after) d h k = tt
kept_then now R.Stuck d h k = tt

ends_kept : {set : Setting} {may_fall : Bool} {A : Type 0} {Holds : A → Type 0} (before : Now Item) {e : Ended Item A} → CallEnds set may_fall before Holds e
    → Kept before e
ends_kept before (call_gives x now h a) = a.opened
ends_kept before (call_falls now h a) = tt
ends_kept before (call_throws v now h a) = tt
ends_kept before (call_stops cause now) = tt

-- a run that stops where it gives nothing
or_stops : {A : Type 0} (cause : Cause) (now : Now Item) (e : Ended Item A) → Kept now e → Kept now (or_so e (stops cause))
or_stops cause now (R.Gives x after) h = h
or_stops cause now (R.No after) h = tt
or_stops cause now (R.Returns v after) h = tt
or_stops cause now (R.Throws v after) h = tt
or_stops cause now (R.Stops other after) h = tt
or_stops cause now R.Stuck h = tt

-- ---- builtins

row_kept : (r : Row) (hart : ℕ) (vs : List Value) (now : Now Item) → Kept now (row_run r hart vs now)
row_kept r hart vs now = by (has_state r) (state_row r hart now.state vs) _
  where
    ended : (after : Now Item) → after.opened ≡ now.opened → (e : EndOfRow) → Kept now (ended_as e after)
    ended after h (E.Value v) = h
    ended after h (E.Stop cause) = tt

    by : (b : Bool) (o : Option Ran) (p : Option Value) → Kept now (if b then after_row o now else needs p now)
    by true None p = tt
    by true (Some ran) p = ended (record now { state = ran.state; accesses = now.accesses ++ ran.accesses }) refl ran.ended
    by false o None = tt
    by false o (Some v) = refl

-- ---- what is awaited is what the arguments give

same_itself : (y : Given) → same_given y y ≡ true
same_itself (an_int x) = (Decides-int_eq x x).1 refl
same_itself (a_bool true) = refl
same_itself (a_bool false) = refl

module _ (past : Positive) (g : Integers) where
  agree_all : (gs : List (Option Given)) (is : List Index) → AllAgree past g gs is → all_agree gs (map (given_there past g) is) ≡ true
  agree_all [] [] h = refl
  agree_all (None ∷ gs) (i ∷ is) h = agree_all gs is h.1
  agree_all (Some y ∷ gs) (i ∷ is) h =
      ap (λ x. same_given x (given_there past g i) && all_agree gs (map (given_there past g) is)) h.0
      ∙ ap (λ b. b && all_agree gs (map (given_there past g) is)) (same_itself (given_there past g i)) ∙ agree_all gs is h.1
  agree_all [] (i ∷ is) h = absurd h
  agree_all (y ∷ gs) [] h = absurd h

-- ---- functions

called_kept : {A : Type 0} (o : Option Instance) (x : Instance) (c : Awaited → Run Item A) (now : Now Item) → o ≡ Some x → Kept now (c (Some x) now)
    → Kept now (goes_on ((needs o then λ y. gives (Some y)) now) c)
called_kept o x c now e h = subst (λ p. Kept now (goes_on ((needs p then λ y. gives (Some y)) now) c)) (sym e) h

module _ (q : Scene) (w : World Item) (place : Place) (k i : ℕ) (fn : Function) (is_it : slice_get q.set.around.functions i ≡ Some fn)
    (calls : SoundCalls q.set q.reached w) (is : List Indices) (xs : List Item) (next : ℕ) where
  abbrev js : List Index
  js = numbers_from 0 fn.variables fn.parameters is

  abbrev qs : List Reading
  qs = types_from next 0 (length fn.type_variables) fn.parameters is

  abbrev calling : Run Item Value
  calling = (checked q.set.around.types q.cases).calls k xs then λ awaited. w.call place i awaited (vals xs)

  call_kept : {n : ℕ} {f : Point n} {facts : List Fact} → AllTyped q.set q.work f is xs → CallFits q.set q.work f fn js qs (vals xs) → (now : Now Item)
      → Stands q.set q.work now.opened f facts → AllMet q (note (λ fs. call_note fs place k is (D.Function i) js qs) facts n).notes → Sound q now
      → Kept now (calling now)
  unfolding note
  call_kept {n} {f} {facts} typed fits now stands met ok =
      let agrees : (numbers : List (Option Given)) → AllAgree q.set.past f.integers numbers js
      → all_agree numbers (givens_at fits.integers 0 fn.variables) ≡ true =
      λ numbers h. ap (all_agree numbers) (sym (fits.given f.integers (same f))) ∙ agree_all q.set.past f.integers numbers js h in
      let lead = met.0 f.integers now.opened (stands.there f.integers (same f)) (typs xs) (all_sized q f is xs f.integers (same f) typed) in
      let x : Work = record {
        function = i;
        instance = lead.instance;
        own = map (type_sized q.set.around.types q.work.own f.integers) qs;
        types = fits.types;
      } in
      let enters : Enters q.set x fn (vals xs) fits.integers = record {
        is_covered = lead.is_covered fits.types;
        own_fits = λ fitted. subst (λ ts. AllFit q.set.around.types ts (map (type_sized q.set.around.types q.work.own f.integers) qs))
            (fits.same_types f.integers (same f))
            (with_own q.set.around.types (map (closed q.set.around.types (standing q.set.past f.integers) q.work.types) qs) q.work.types
            (map (type_sized q.set.around.types q.work.own f.integers) qs) (lead.own_fit fitted));
        is_it = is_it;
        belong = fits.belong;
        constraint = fits.constraint;
        are_given = fits.are_given;
        awaited = agrees lead.instance.numbers lead.agree;
      } in
      called_kept (q.cases.calls k (typs xs) now.opened) (awaited_at x lead.awaited) (λ awaited. w.call place i awaited (vals xs)) now lead.is_there
      (ends_kept now (calls.call place x fn (vals xs) fits.integers enters lead.awaited (agrees lead.awaited lead.awaits) now ok.state))

  function_kept : CallsFit fn → {f : Point next} {facts : List Fact} (bs : List Bool) → ArgumentsAre q.set q.work f bs fn.parameters is (vals xs)
      → AllTyped q.set q.work f is xs → (now : Now Item) → Stands q.set q.work now.opened f facts
      → AllMet q (function_called (here q) place k i fn js qs bs is facts next).notes → Sound q now → Kept now (calling now)
  unfolding bind
  function_kept fit {f} {facts} bs args typed now stands met ok =
      let first = owe_fit place (call_conditions (fits q.set.around.types) fn js qs bs is) facts next in
      let r = (fit q next f facts place bs is (vals xs) args).go now.opened stands (met_front q first.notes _ met) in
      let noted = noted_call place k is (D.Function i) js qs first.facts first.next in
      call_kept (typed_on q.set q.work is xs r.later typed) r.holds now r.stands (met_front q noted.notes _ (met_behind q first.notes _ met)) ok

-- ---- arguments of which all is owed at the call

abbrev pub plain_parts : Place → List Indices → List Part
plain_parts at [] = []
plain_parts at (i ∷ is) = new_part at false ∷ plain_parts at is

pub plain_nestings : (at : Place) (is : List Indices) → nestings (plain_parts at is) ≡ replicate (length is) false
plain_nestings at [] = refl
plain_nestings at (i ∷ is) = ap (λ bs. false ∷ bs) (plain_nestings at is)

module _ (set : Setting) (work : Work) {n : ℕ} (f : Point n) where
  plain_met : (t : Typ) (v : Value) → IsMet set work f (argument_aim t) false v
  plain_met t v = by (is_closed t) (is_hole (Q.Of t [] []))
    where
      by : (b c : Bool) → IsMet set work f (if b then (if c then Aims.Free else Aims.Given (Q.Of t [] [])) else Aims.Free) false v
      by true true = tt
      by true false = tt
      by false c = tt

  each_plain : (at : Place) (ps : List Part) (aims : List Aim) (ts : List Typ) (is : List Indices) (xs : List Item) → EachIs set work f ps aims is xs
      → EachIs set work f (plain_parts at is) (argument_aims ts) is xs
  each_plain at [] aims ts [] [] h = tt
  each_plain at (p ∷ ps) aims [] (i ∷ is) (x ∷ xs) h = (h.0, tt, each_plain at ps (other_aims aims) [] is xs h.2)
  each_plain at (p ∷ ps) aims (t ∷ ts) (i ∷ is) (x ∷ xs) h = (h.0, plain_met t x.val, each_plain at ps (other_aims aims) ts is xs h.2)
  each_plain at [] aims ts (i ∷ is) xs h = absurd h
  each_plain at [] aims ts [] (x ∷ xs) h = absurd h
  each_plain at (p ∷ ps) aims ts [] xs h = absurd h
  each_plain at (p ∷ ps) aims ts (i ∷ is) [] h = absurd h

  arguments_plain : (ps : List Part) (aims : List Aim) (ts : List Typ) (is : List Indices) (xs : List Item) → length is ≡ length ts
      → EachIs set work f ps aims is xs → ArgumentsAre set work f (replicate (length is) false) ts is (vals xs)
  arguments_plain [] aims [] [] [] e h = tt
  arguments_plain (p ∷ ps) aims (t ∷ ts) (i ∷ is) (x ∷ xs) e h =
      (h.0.has, tt, arguments_plain ps (other_aims aims) ts is xs (omega (arith, e)) h.2)
  arguments_plain [] aims (t ∷ ts) [] [] e h = absurd (omega (arith, e))
  arguments_plain (p ∷ ps) aims [] (i ∷ is) (x ∷ xs) e h = absurd (omega (arith, e))
  arguments_plain [] aims ts (i ∷ is) xs e h = absurd h
  arguments_plain [] aims ts [] (x ∷ xs) e h = absurd h
  arguments_plain (p ∷ ps) aims ts [] xs e h = absurd h
  arguments_plain (p ∷ ps) aims ts (i ∷ is) [] e h = absurd h

-- ---- mappings

module _ (fit : FitsSuffice) (q : Scene) (w : World Item) (mappings : MappingsClosed q.set) (scope : Scope) (at : Place) (c : ℕ) {n : ℕ} {f : Point n}
    (there : Surrounds q w f scope) (d : ℕ) (m : Direction) (e : slice_get q.set.around.directions d ≡ Some m) where
  abbrev Enters_at : List Item → Now Item → Type 0
  Enters_at xs now = Kept now (Mappings.entering q w scope at c d fit xs now)

  enter_kept : (x : Item) → IsOf q.set m.parameter x.val → q.set.covered.direction d ≡ true → (now : Now Item) → Sound q now → Enters_at (x ∷ []) now
  enter_kept x of_it covered now ok = by now.ticks
    where
      by : (t : ℕ) → Kept now (goes_on (tick_at t now) (λ u. w.enter d x.val or_else stops (MatchFailure at)))
      by zero = tt
      by (suc t) =
          let left : Now Item = record now { ticks = t } in
          kept_from now left (or_so (w.enter d x.val left) (stops (MatchFailure at))) refl
          (or_stops (MatchFailure at) left (w.enter d x.val left) (ends_kept left (there.calls.enter d m x.val covered e of_it left ok.state)))

  one_kept : {facts : List Fact} (i : Indices) (x : Item) → Is q.set q.work f i x → (now : Now Item) → Stands q.set q.work now.opened f facts
      → AllMet q (direction_applied (here q) at c d m false (i ∷ []) i facts n).notes → Sound q now → Enters_at (x ∷ []) now
  unfolding bind note
  one_kept {facts} i x h now stands met ok =
      let wanted : Reading = Q.Of m.parameter [] [] in
      let first = owe_fit at (fits_unless false (here q) i wanted) facts n in
      let r = (fit q n f facts at i wanted x.val h.has (nameless_wanted q.set q.work f m.parameter)).go now.opened stands (met_front q first.notes _ met) in
      let of_it : IsOf q.set m.parameter x.val =
      sym (nameless_of q.set q.work r.point.integers m.parameter x.val (mappings d m e).0) ∙ r.holds r.point.integers (same r.point) in
      let covered : q.set.covered.direction d ≡ true =
      (met_behind q first.notes _ met).0 r.point.integers now.opened (r.stands.there r.point.integers (same r.point)) in
      enter_kept x of_it covered now ok

  pub entering_kept : {facts : List Fact} (ps : List Part) (aims : List Aim) (is : List Indices) (xs : List Item) → EachIs q.set q.work f ps aims is xs
      → (now : Now Item) → Stands q.set q.work now.opened f facts
      → AllMet q (direction_called (here q) at c d m (replicate (length is) false) is facts n).notes → Sound q now → Enters_at xs now
  entering_kept ps aims is [] h now stands met ok = tt
  entering_kept ps aims is (x ∷ y ∷ xs) h now stands met ok = tt
  entering_kept (p ∷ ps) aims (i ∷ []) (x ∷ []) h now stands met ok = one_kept i x h.0 now stands met ok
  entering_kept [] aims [] (x ∷ []) h now stands met ok = absurd h
  entering_kept [] aims (i ∷ is) (x ∷ []) h now stands met ok = absurd h
  entering_kept (p ∷ ps) aims [] (x ∷ []) h now stands met ok = absurd h
  entering_kept (p ∷ []) aims (i ∷ j ∷ is) (x ∷ []) h now stands met ok = absurd h.2
  entering_kept (p ∷ p2 ∷ ps) aims (i ∷ j ∷ is) (x ∷ []) h now stands met ok = absurd h.2

-- ---- what reads, as it runs

module _ (fit : FitsSuffice) (q : Scene) (w : World Item) (places : (i : ℕ) → CalleeFits q.set i) (scope : Scope) (at : Place) (c : ℕ) (xs : List Item) where
  abbrev pub callee_runs : Callee → Run Item Value
  callee_runs (D.Function i) = Functions.calling q w scope at c i fit (places i) xs
  callee_runs (D.Row row) = row_run row w.hart (vals xs)
  callee_runs (D.Converts d) = Mappings.entering q w scope at c d fit xs
  callee_runs callee = stuck

  -- without the numbers of what it gives, which are noted behind it
  abbrev pub read_run : Callee → Run Item Item
  read_run callee = callee_runs callee then λ v. (z q).make c xs v

  abbrev noted : Item → Run Item Item
  noted old = (z q).note (By.Node c) old.val then λ t. gives old

  make_split : (v : Value) (now : Now Item) → goes_on ((z q).make c xs v now) noted ≡ made (z q) c xs v now
  make_split v now = by (q.cases.makes c (typs xs) v now.opened)
    where
      by : (o : Option Sized) → goes_on (goes_on (needs o now) (λ s. gives (item s v))) noted
          ≡ goes_on (goes_on (needs o now) (λ s. gives (item s v))) (λ x. (z q).note (By.Node c) v then λ t. gives x)
      by None = refl
      by (Some s) = refl

  split : (run : Run Item Value) (now : Now Item) → goes_on (goes_on (run now) (λ v. (z q).make c xs v)) noted ≡ goes_on (run now) (λ v. made (z q) c xs v)
  split run now = under (run now) (λ v. (z q).make c xs v) (λ v. made (z q) c xs v) noted (λ v after. make_split v after)

  -- a call is all of it
  pub asked_is : (callee : Callee) → (now : Now Item) → (read_run callee now ≡ R.Stuck → ⊥)
      → called_run (z q) w at c callee xs now ≡ goes_on (read_run callee now) (λ old. (z q).note (By.Node c) old.val then λ t. gives old)
  asked_is (D.Function i) now there =
      sym ((λ k. Functions.called_as q w scope at c i fit (places i) xs k now)) ∙ sym (split (callee_runs (D.Function i)) now)
  asked_is (D.Row row) now there = sym (split (callee_runs (D.Row row)) now)
  asked_is (D.Converts d) now there = sym ((λ k. Mappings.called_as q w scope at c d fit xs k now)) ∙ sym (split (callee_runs (D.Converts d)) now)
  asked_is (D.Constructor u k) now there = absurd (there refl)
  asked_is (D.Applies d) now there = absurd (there refl)

-- ---- what reads, on arguments that have been walked

module _ (fit : FitsSuffice) (q : Scene) (w : World Item) (places : (i : ℕ) → CalleeFits q.set i) (mappings : MappingsClosed q.set) (scope : Scope) (at : Place)
    (c : ℕ) {n : ℕ} {f : Point n} (there : Surrounds q w f scope) (ps : List Part) (aims : List Aim) (is : List Indices) (xs : List Item)
    (each : EachIs q.set q.work f ps aims is xs) where
  abbrev bare : List Bool
  bare = replicate (length is) false

  abbrev plain : List Part
  plain = plain_parts at is

  abbrev runs : Callee → Run Item Value
  runs = callee_runs fit q w places scope at c xs

  abbrev reading : Callee → Run Item Item
  reading = read_run fit q w places scope at c xs

  abbrev Reads : List Fact → Callee → Type 0
  Reads facts callee = Beside q n f facts (called (here q) at c callee bare is) (reading callee) (λ m g i x. Is q.set q.work g i x)

  many : length plain ≡ length is
  many = by is
    where
      by : (js : List Indices) → length (plain_parts at js) ≡ length js
      by [] = refl
      by (j ∷ js) = ap suc (by js)

  -- functions

  function_reads : {facts : List Fact} (i : ℕ) (o : Option Function) → slice_get q.set.around.functions i ≡ o
      → Beside q n f facts (function_call (here q) at c i o (nestings plain) is) (reading (D.Function i)) (λ m g j x. Is q.set q.work g j x)
  function_reads i None e = none_beside (wrong_walks at)
  function_reads {facts} i (Some fn) e = by (nat_eq (length plain) (length fn.parameters)) refl
    where
      by : (b : Bool) → nat_eq (length plain) (length fn.parameters) ≡ b
          → Beside q n f facts (function_call (here q) at c i (Some fn) (nestings plain) is) (reading (D.Function i)) (λ m g j x. Is q.set q.work g j x)
      by true so_many =
          Functions.of_function q w scope at c i fit (places i) there.calls (Some fn) e plain is xs
          (as_many plain fn.parameters (same_count (length plain) (length fn.parameters) so_many))
          (each_plain q.set q.work f at ps aims fn.parameters is xs each)
      by false other =
          subst (λ b. Beside q n f facts (if b then never_value else bind next_variable (numbered_call (here q) at c i fn (nestings plain) is))
          (reading (D.Function i)) (λ m g j x. Is q.set q.work g j x)) (sym
          (none_never q.set q.work f is (vals xs) (all_have q.set q.work f ps aims is xs each)))
          (next_is (numbered_call (here q) at c i fn (nestings plain) is)
          (many_wrong q at c i fn (nestings plain) is (ap (λ k. nat_eq k (length fn.parameters)) (count_nestings plain) ∙ other)
          (numbers_from 0 fn.variables fn.parameters is) (types_from n 0 (length fn.type_variables) fn.parameters is)))

  pub reads : {facts : List Fact} (callee : Callee) → Reads facts callee
  reads {facts} (D.Function i) =
      subst (λ bs. Beside q n f facts (function_call (here q) at c i (slice_get q.set.around.functions i) bs is) (reading (D.Function i))
      (λ m g j x. Is q.set q.work g j x)) (plain_nestings at is) (function_reads i (slice_get q.set.around.functions i) refl)
  reads (D.Row row) =
      row_fine widening q at c row w.hart is xs (are_typed q.set q.work f ps aims is xs each) (all_have q.set q.work f ps aims is xs each)
  reads {facts} (D.Converts d) =
      let o = slice_get q.set.around.directions d in
      subst (λ bs. Beside q n f facts (direction_call (here q) at c d o bs is) (reading (D.Converts d)) (λ m g j x. Is q.set q.work g j x))
      (plain_nestings at is)
      (Mappings.of_direction q w scope at c d fit mappings there.calls o refl plain is xs (each_plain q.set q.work f at ps aims (direction_types o) is xs each))
  reads (D.Constructor u k) = none_beside (wrong_walks at)
  reads (D.Applies d) = none_beside (wrong_walks at)

  -- ---- it leaves what is noted

  -- where the walk comes to nothing
  none_kept : {A B : Type 0} {facts : List Fact} {walk : Walk A} (run : Run Item B) → Walks q n f facts walk (λ m g a. ⊥) → (now : Now Item)
      → Stands q.set q.work now.opened f facts → AllMet q (walk facts n).notes → Kept now (run now)
  none_kept run none now stands met = absurd ((none.go now.opened stands met).holds)

  module _ (i : ℕ) (fn : Function) (e : slice_get q.set.around.functions i ≡ Some fn) where
    abbrev numbers : List Index
    numbers = numbers_from 0 fn.variables fn.parameters is

    abbrev types : List Reading
    types = types_from n 0 (length fn.type_variables) fn.parameters is

    bare_many : length bare ≡ length is
    bare_many = ap length (sym (plain_nestings at is)) ∙ count_nestings plain ∙ many

    some_keeps : {facts : List Fact} (b : Bool) → nat_eq (length is) (length fn.parameters) ≡ b → (now : Now Item)
        → Stands q.set q.work now.opened f facts → AllMet q (bind next_variable (numbered_call (here q) at c i fn bare is) facts n).notes → Sound q now
        → Kept now (runs (D.Function i) now)
    unfolding bind next_variable
    some_keeps true so_many now stands met ok =
        function_kept q w at c i fn e there.calls is xs n (places i fn e) bare
        (arguments_plain q.set q.work f ps aims fn.parameters is xs (same_count (length is) (length fn.parameters) so_many) each)
        (are_typed q.set q.work f ps aims is xs each) now stands met ok
    some_keeps {facts} false other now stands met ok =
        let first = owe_fit at (call_conditions (fits q.set.around.types) fn numbers types bare is) facts n in
        none_kept (runs (D.Function i)) (none_fits q at c i fn bare is (ap (λ k. nat_eq k (length fn.parameters)) bare_many ∙ other) numbers types) now stands
        (met_front q first.notes _ met)

  function_keeps : {facts : List Fact} (i : ℕ) (o : Option Function) → slice_get q.set.around.functions i ≡ o → (now : Now Item)
      → Stands q.set q.work now.opened f facts → AllMet q (function_call (here q) at c i o bare is facts n).notes → Sound q now
      → Kept now (runs (D.Function i) now)
  function_keeps i None e now stands met ok = none_kept (runs (D.Function i)) (wrong_walks at) now stands met
  function_keeps {facts} i (Some fn) e now stands met ok =
      some_keeps i fn e (nat_eq (length is) (length fn.parameters)) refl now stands
      (subst (λ b. AllMet q ((if b then never_value else bind next_variable (numbered_call (here q) at c i fn bare is)) facts n).notes)
      (none_never q.set q.work f is (vals xs) (all_have q.set q.work f ps aims is xs each)) met) ok

  direction_keeps : {facts : List Fact} (d : ℕ) (o : Option Direction) → slice_get q.set.around.directions d ≡ o → (now : Now Item)
      → Stands q.set q.work now.opened f facts → AllMet q (direction_call (here q) at c d o bare is facts n).notes → Sound q now
      → Kept now (runs (D.Converts d) now)
  direction_keeps d None e now stands met ok = none_kept (runs (D.Converts d)) (wrong_walks at) now stands met
  direction_keeps {facts} d (Some m) e now stands met ok =
      entering_kept fit q w mappings scope at c there d m e ps aims is xs each now stands
      (subst (λ b. AllMet q ((if b then never_value else direction_called (here q) at c d m bare is) facts n).notes)
      (none_never q.set q.work f is (vals xs) (all_have q.set q.work f ps aims is xs each)) met) ok

  runs_kept : {facts : List Fact} (callee : Callee) → (now : Now Item) → Stands q.set q.work now.opened f facts
      → AllMet q (called (here q) at c callee bare is facts n).notes → Sound q now → Kept now (runs callee now)
  runs_kept (D.Function i) now stands met ok = function_keeps i (slice_get q.set.around.functions i) refl now stands met ok
  runs_kept (D.Row row) now stands met ok = row_kept row w.hart (vals xs) now
  runs_kept (D.Converts d) now stands met ok = direction_keeps d (slice_get q.set.around.directions d) refl now stands met ok
  runs_kept (D.Constructor u k) now stands met ok = tt
  runs_kept (D.Applies d) now stands met ok = tt

  make_kept : (v : Value) (after : Now Item) → Kept after ((z q).make c xs v after)
  make_kept v after = by (q.cases.makes c (typs xs) v after.opened)
    where
      by : (o : Option Sized) → Kept after ((needs o then λ s. gives (item s v)) after)
      by None = tt
      by (Some s) = refl

  pub keeps : {facts : List Fact} (callee : Callee) → (now : Now Item) → Stands q.set q.work now.opened f facts
      → AllMet q (called (here q) at c callee bare is facts n).notes → Sound q now → Kept now (reading callee now)
  keeps callee now stands met ok =
      kept_then now (runs callee now) (λ v. (z q).make c xs v) (runs_kept callee now stands met ok) (λ v after. make_kept v after)
