-- Calls of mappings beside their runs.
use Rattle.std.proofs.Common.{◌≡◌, ℕ, zero, suc, Bool, true, false, List, [], ◌∷◌, length, slice_get, take, Option, Some, None, refl, sym, ap, ◌∙◌, subst}
use Rattle.std.proofs.Common.{if◌then◌else◌, arith}
use Rattle.std.proofs.lemmas.Bool.{and_parts}
use Rattle.std.proofs.lemmas.List.{append-nil}
use Rattle.sail_base.specs.declared.place.Place.{Place}
use Rattle.sail_types.specs.Before.{beyond_of}
use Rattle.sail_types.specs.Belongs.{assigned, belongs, no_readings, reading}
use Rattle.sail_types.specs.Sums.{read}
use Rattle.sail_types.specs.Zero.{deepest}
use Rattle.sail_types.specs.declared.numbers.Index.{Index}
use Rattle.sail_types.specs.declared.numbers.Num.{Num}
use Rattle.sail_types.specs.declared.types.Typ.{Typ}
use Rattle.sail_types.specs.declared.values.Value.{Value}
use Rattle.model_state.specs.declared.cause.Cause.{Cause}
use Rattle.model_state.specs.declared.cause.Cause.TheVariants.{MatchFailure, WorkLimit}
use Rattle.sail_core.specs.Making.{World, made}
use Rattle.sail_core.specs.Meaning.{kind_meaning}
use Rattle.sail_core.specs.Run.{Ended, Now, Run, goes_on, in_turn, or_so, stops, stuck, tick, tick_at, ◌or_else◌, ◌then◌}
use Rattle.sail_core.specs.Targets.{called}
use Rattle.sail_core.specs.declared.model.Direction.{Direction}
use Rattle.sail_core.specs.declared.tree.Callee.TheVariants as D
use Rattle.sail_core.specs.declared.tree.Kind.TheVariants as K
use Rattle.value_indices.specs.declared.indices.Indices.{Indices}
use Rattle.value_indices.specs.declared.indices.Indices.TheOpen as W
use Rattle.value_indices.specs.declared.indices.Indices.TheVariants as I
use Rattle.value_indices.specs.declared.indices.Indices.TheViews.{out-roll-Reading}
use Rattle.value_indices.specs.declared.indices.Naming.TheVariants as M
use Rattle.value_indices.specs.declared.indices.Reading.{Reading, out-Reading}
use Rattle.value_indices.specs.declared.indices.Reading.TheVariants as Q
use Rattle.value_indices.specs.declared.notes.Fact.{Fact}
use Rattle.value_indices.specs.declared.notes.Made.TheVariants as Makes
use Rattle.value_indices.specs.Opening.{opened}
use Rattle.value_indices.specs.Steps.{Walk, bind, call_note, give, note, size_note}
use Rattle.value_fits.specs.Fitting.{owe_fit, owe_made}
use Rattle.fitting_laws.proofs.Counted.{Counts, fits_count}
use Rattle.call_fits.proofs.Below.{SameBelow}
use Rattle.call_fits.proofs.Closed.{closed_same}
use Rattle.pattern_leaves.specs.Settings.{Around, Scope}
use Rattle.call_arguments.specs.Aims.{aimed, is_hole_form}
use Rattle.call_arguments.specs.Callees.{argument_aim, is_closed, is_numberless_under, is_typeless}
use Rattle.call_arguments.specs.Holes.{has_hole}
use Rattle.call_arguments.specs.declared.aims.Aim.{Aim}
use Rattle.call_arguments.specs.declared.aims.Aim.TheVariants as Aims
use Rattle.call_notes.specs.Calls.{direction_applied, direction_call, direction_called, direction_types, noted_call}
use Rattle.call_notes.specs.Ends.{any_never, fits_unless, never_value, sized_by}
use Rattle.call_notes.specs.Noted.{made_opened, node_made}
use Rattle.expression_steps.specs.Calls.{argument_aims, call_walk, nestings}
use Rattle.expression_steps.specs.Expressions.{kind_walk}
use Rattle.expression_steps.specs.Parts.{Part, each_walk}
use Rattle.checked_meaning.specs.Checked.{checked}
use Rattle.checked_meaning.specs.Items.{Item, vals}
use Rattle.value_laws.specs.Belonging.{Integers, closed, closeds, is_of, standing}
use Rattle.value_laws.specs.Known.{Point}
use Rattle.value_laws.proofs.Arguments.{assigned_there}
use Rattle.value_laws.proofs.Steps.{same}
use Rattle.value_laws.proofs.Values.{closed_is}
use Rattle.soundness_steps.specs.Points.{Later}
use Rattle.soundness_steps.proofs.Points.{later_on, no_later}
use Rattle.soundness_steps.specs.Calls.{After, CallEnds, IsOf, SoundCalls, call_falls, call_gives, call_stops, call_throws}
use Rattle.soundness_steps.specs.States.{AllKept, Sound, nothing_stands}
use Rattle.soundness_steps.specs.Works.{Scene, Setting, Work, here}
use Rattle.soundness_steps.specs.Steps.{Beside, EndsWell, Grows, Stands, Walks, no_walk, well_given, well_stopped, well_thrown}
use Rattle.soundness_steps.specs.Values.{AimSteady, Belongs, Comes, Is, IsMet, IsWanted}
use Rattle.soundness_steps.proofs.Steps.{binds, runs_as, runs_then, walks_mean, walks_then}
use Rattle.soundness_forms.specs.EachKind.{KindFine, node}
use Rattle.soundness_forms.specs.Forms.{AllFine, FitsSuffice, at, z}
use Rattle.soundness_forms.specs.Worlds.{Surrounds}
use Rattle.soundness_forms.proofs.Basics.{is_on, wrong_walks}
use Rattle.soundness_forms.proofs.Growth.{grows_bind, grows_give, grows_made, grows_note, grows_opening, grows_owe_fit, grows_wrong}
use Rattle.soundness_forms.proofs.Nodes.{made_opens}
use Rattle.soundness_forms.proofs.Parts.{AllSteady, EachIs, all_have, each_fine, none_never}
use Rattle.soundness_forms.proofs.PlainKinds.{fine_by, settled_grows}
use Rattle.soundness_forms.specs.Mappings.{MappingsClosed}
use Rattle.soundness_values.proofs.Made.{parts_node}
use Rattle.soundness_values.proofs.MadeKinds.{all_at, all_values, each_grow}
use Rattle.soundness_values.proofs.RowCalls.{taken_all}
use Rattle.soundness_values.proofs.Seen.{hole_in}

-- ---- types that name no variable

module _ (set : Setting) (work : Work) where
  nothing_assigned : (g h : Integers) → assigned (standing set.past g) [] ≡ assigned (standing set.past h) []
  nothing_assigned g h = sym (assigned_there set.past g []) ∙ assigned_there set.past h []

  nameless_is : (g : Integers) (t : Typ)
      → closed set.around.types (standing set.past g) work.types (Q.Of t [] []) ≡ reading t (assigned (standing set.past g) []) (closeds work.types)
  nameless_is g t = closed_is set.around.types (standing set.past g) work.types (Q.Of t [] []) (W.Of t [] []) (Q.rolls-Of t [] [])

  pub nameless_wanted : {n : ℕ} (f : Point n) (t : Typ) → IsWanted set work f (Q.Of t [] [])
  nameless_wanted f t = (
    λ g a. nameless_is g t ∙ (λ j. reading t (nothing_assigned g f.integers j) (closeds work.types)) ∙ sym (nameless_is f.integers t),
    ap has_hole (sym (Q.rolls-Of t [] [])) ∙ hole_in (W.Of t [] []),
  )

  beyonds_are : (g : Integers) (o : Option Num) → beyond_of (standing set.past g) o ≡ set.past
  beyonds_are g None = refl
  beyonds_are g (Some t) = refl

  pub beyonds_same : (g h : Integers) (is js : List Index) → SameBelow 0 (assigned (standing set.past g) is) (assigned (standing set.past h) js)
  beyonds_same g h is js = record {
    ints = λ i l. absurd (omega (arith, l));
    bools = λ i l. absurd (omega (arith, l));
    beyonds = λ t u. beyonds_are g (read is t) ∙ sym (beyonds_are h (read js u));
  }

  nothing_below : (g : Integers) → SameBelow 0 (assigned (standing set.past g) []) (nothing_stands set.past)
  nothing_below g = record {
    ints = λ i l. absurd (omega (arith, l));
    bools = λ i l. absurd (omega (arith, l));
    beyonds = λ t u. beyonds_are g (read [] t);
  }

  -- to them belongs what belongs to them wherever they stand
  pub nameless_of : (g : Integers) (t : Typ) (v : Value) → is_closed t ≡ true
      → is_of set.around.types (standing set.past g) work.types (Q.Of t [] []) v ≡ belongs set.around.types v (reading t (nothing_stands set.past) no_readings)
  nameless_of g t v e =
      let k = and_parts (is_numberless_under t 0) (is_typeless t) e in
      ap (belongs set.around.types v) (nameless_is g t)
      ∙ closed_same set.around.types t (assigned (standing set.past g) []) (nothing_stands set.past) (closeds work.types) no_readings v k.0 k.1
      (nothing_below g)

-- ---- what is wanted of an argument

pub no_hole_form : (t : Typ) → is_hole_form (out-Reading (Q.Of t [] [])) ≡ false
no_hole_form t = ap is_hole_form (ap out-Reading (sym (Q.rolls-Of t [] [])) ∙ out-roll-Reading (W.Of t [] []))

pub given_aim : (t : Typ) → is_closed t ≡ true → argument_aim t ≡ Aims.Given (Q.Of t [] [])
given_aim t e =
    ap (λ b. if b then aimed Aims.Given (Q.Of t [] []) else Aims.Free) e ∙ ap (λ b. if b then Aims.Free else Aims.Given (Q.Of t [] [])) (no_hole_form t)

pub argument_steady : (set : Setting) (work : Work) {n : ℕ} (f : Point n) (t : Typ) → AimSteady set work f (argument_aim t)
argument_steady set work f t = by (is_closed t) (is_hole_form (out-Reading (Q.Of t [] [])))
  where
    by : (b c : Bool) → AimSteady set work f (if b then (if c then Aims.Free else Aims.Given (Q.Of t [] [])) else Aims.Free)
    by true true = tt
    by true false = nameless_wanted set work f t
    by false c = tt

pub arguments_steady : (set : Setting) (work : Work) {n : ℕ} (f : Point n) (ts : List Typ) → AllSteady set work f (argument_aims ts)
arguments_steady set work f [] = tt
arguments_steady set work f (t ∷ ts) = (argument_steady set work f t, arguments_steady set work f ts)

-- ---- steps

pub none_beside : {q : Scene} {n : ℕ} {f : Point n} {facts : List Fact} {A B : Type 0} {w : Walk A} {c : Run Item B}
    {Holds : (m : ℕ) → Point m → A → B → Type 0} → Walks q n f facts w (λ m g a. ⊥) → Beside q n f facts w c Holds
none_beside b = record { run = λ now stands met ok. absurd ((b.go now.opened stands met).holds) }

-- where nothing is owed
nothing_owed : {q : Scene} {n : ℕ} {f : Point n} {facts : List Fact} (place : Place) (i : Indices) (r : Reading)
    → Walks q n f facts (owe_fit place (fits_unless true (here q) i r)) (λ m g t. Later f g)
unfolding owe_fit owe_made
nothing_owed {q} {n} {f} {facts} place i r = record {
  go = λ noted stands met. record {
    point = f;
    later = no_later f;
    stands = subst (λ fs. Stands q.set q.work noted f fs) (sym (append-nil facts)) stands;
    holds = no_later f;
  };
}

-- ---- the call

after_it : {q : Scene} (before now : Now Item) → Sound q before → After q.set before now → Sound q now
after_it {q} before now s a = record { state = a.state; names = subst (AllKept q.set.around.types q.names) (sym a.locals) s.names }

module _ (q : Scene) (w : World Item) (scope : Scope) (place : Place) (k d : ℕ) (fit : FitsSuffice) where
  -- a value goes in: the run stops where the mapping takes it to none
  enters_well : {n : ℕ} {f : Point n} {facts : List Fact} {A : Type 0} {Holds : A → Type 0} (cause : Cause) (before : Now Item) (e : Ended Item A)
      → Stands q.set q.work before.opened f facts → Sound q before → CallEnds q.set true before Holds e
      → EndsWell q f n facts (λ p x. Holds x) (or_so e (stops cause))
  enters_well {n} {f} {facts} cause before e stands ok (call_gives x now h a) = well_given x now (record {
    point = f;
    later = no_later f;
    stands = subst (λ o. Stands q.set q.work o f facts) (sym a.opened) stands;
    holds = h;
  }) (after_it before now ok a)
  enters_well cause before e stands ok (call_falls now h a) = well_stopped cause now
  enters_well cause before e stands ok (call_throws v now h a) = well_thrown v now h (after_it before now ok a)
  enters_well cause before e stands ok (call_stops c now) = well_stopped c now

  enters : (calls : SoundCalls q.set q.reached w) (m : Direction) → slice_get q.set.around.directions d ≡ Some m → (v : Value) → IsOf q.set m.parameter v
      → q.set.covered.direction d ≡ true → {n : ℕ} {f : Point n} {facts : List Fact}
      → Beside q n f facts no_walk (tick then λ t. w.enter d v or_else stops (MatchFailure place)) (λ j g t u. IsOf q.set m.result u)
  unfolding give
  enters calls m is_it v h covered {n} {f} {facts} = record { run = λ now stands met ok. by now stands ok now.ticks }
    where
      by : (now : Now Item) → Stands q.set q.work now.opened f facts → Sound q now → (t : ℕ)
          → EndsWell q f n facts (λ p u. IsOf q.set m.result u) (goes_on (tick_at t now) (λ x. w.enter d v or_else stops (MatchFailure place)))
      by now stands ok zero = well_stopped WorkLimit now
      by now stands ok (suc t) =
          let left = record now { ticks = t } in
          let sound : Sound q left = record { state = ok.state; names = ok.names } in
          enters_well (MatchFailure place) left (w.enter d v left) stands sound (calls.enter d m v covered is_it h left ok.state)

  -- where it is called, it is covered
  is_covered : {n : ℕ} {f : Point n} {facts : List Fact} (is : List Indices)
      → Walks q n f facts (noted_call place k is (D.Converts d) [] []) (λ j g t. q.set.covered.direction d ≡ true)
  unfolding note
  is_covered {f} is = record {
    go = λ noted stands met. record {
      point = f;
      later = no_later f;
      stands = stands;
      holds = met.0 f.integers noted (stands.there f.integers (same f));
    };
  }

  -- the argument belongs to what the mapping takes
  owes_it : (closed : MappingsClosed q.set) (m : Direction) → slice_get q.set.around.directions d ≡ Some m → {n : ℕ} {f : Point n} {facts : List Fact}
      → (b : Bool) (i : Indices) (x : Item) → Is q.set q.work f i x → IsMet q.set q.work f (argument_aim m.parameter) b x.val
      → Walks q n f facts (owe_fit place (fits_unless b (here q) i (Q.Of m.parameter [] []))) (λ j g t. IsOf q.set m.parameter x.val)
  owes_it closed m is_it {n} {f} {facts} true i x h met =
      let c = (closed d m is_it).0 in
      let belongs_it : Belongs q.set q.work f (Q.Of m.parameter [] []) x.val =
      subst (λ a. IsMet q.set q.work f a true x.val) (given_aim m.parameter c) met in
      walks_mean (λ j g t l. sym (nameless_of q.set q.work f.integers m.parameter x.val c) ∙ belongs_it f.integers (same f))
      (nothing_owed place i (Q.Of m.parameter [] []))
  owes_it closed m is_it {n} {f} {facts} false i x h met =
      walks_mean (λ j g t b. sym (nameless_of q.set q.work g.integers m.parameter x.val (closed d m is_it).0) ∙ b g.integers (same g))
      (fit q n f facts place i (Q.Of m.parameter [] []) x.val h.has (nameless_wanted q.set q.work f m.parameter))

  applied : (closed : MappingsClosed q.set) (calls : SoundCalls q.set q.reached w) (m : Direction) → slice_get q.set.around.directions d ≡ Some m
      → {n : ℕ} {f : Point n} {facts : List Fact} (b : Bool) (i : Indices) (x : Item) → Is q.set q.work f i x
      → IsMet q.set q.work f (argument_aim m.parameter) b x.val
      → Beside q n f facts (direction_applied (here q) place k d m b (i ∷ []) i)
      ((tick then λ t. w.enter d x.val or_else stops (MatchFailure place)) then λ v. (checked q.set.around.types q.cases).make k (x ∷ []) v)
      (λ j g z y. Is q.set q.work g z y)
  unfolding opened
  applied closed calls m is_it b i x h met =
      walks_then (λ t. bind (noted_call place k (i ∷ []) (D.Converts d) [] []) (λ u. made_opened place k (i ∷ []) (Q.Of m.result [] [])))
      (owes_it closed m is_it b i x h met) (λ j g fs t l c.
      walks_then (λ u. made_opened place k (i ∷ []) (Q.Of m.result [] [])) (is_covered (i ∷ []))
      (λ j2 g2 fs2 u l2 e.
      runs_then (made_opened place k (i ∷ []) (Q.Of m.result [] [])) (λ v. (checked q.set.around.types q.cases).make k (x ∷ []) v)
      (enters calls m is_it x.val c e) (λ g3 v l3 o.
      made_opens place k (i ∷ []) (Q.Of m.result [] []) false M.Unnamed (x ∷ []) v ((is_on (later_on l (later_on l2 l3)) h).typ, tt)
      (nameless_wanted q.set q.work g3 m.result).0
      (λ p a. nameless_of q.set q.work p m.result v (closed d m is_it).1 ∙ o))))

  -- one argument alone
  abbrev pub entering : List Item → Run Item Value
  entering (x ∷ []) = tick then λ t. w.enter d x.val or_else stops (MatchFailure place)
  entering xs = stuck

  pub called_as : (xs : List Item)
      → (entering xs then λ v. made (checked q.set.around.types q.cases) k xs v) ≡ called (checked q.set.around.types q.cases) w place k (D.Converts d) xs
  called_as [] = refl
  called_as (x ∷ []) = refl
  called_as (x ∷ y ∷ xs) = refl

  -- on arguments that have been walked
  abbrev pub Ends : {n : ℕ} → Point n → List Fact → Walk Indices → List Item → Type 0
  Ends {n} f facts walk xs = Beside q n f facts walk (entering xs then λ v. (checked q.set.around.types q.cases).make k xs v)
      (λ j g z y. Is q.set q.work g z y)

  on_arguments : (closed : MappingsClosed q.set) (calls : SoundCalls q.set q.reached w) (m : Direction) → slice_get q.set.around.directions d ≡ Some m
      → {n : ℕ} {f : Point n} {facts : List Fact} (ps : List Part) (is : List Indices) (xs : List Item)
      → EachIs q.set q.work f ps (argument_aims (m.parameter ∷ [])) is xs → Ends f facts (direction_called (here q) place k d m (nestings ps) is) xs
  on_arguments closed calls m is_it [] [] [] h = none_beside (wrong_walks place)
  on_arguments closed calls m is_it (p ∷ []) (i ∷ []) (x ∷ []) h = applied closed calls m is_it p.is_nested i x h.0 h.1
  on_arguments closed calls m is_it (p ∷ p2 ∷ ps) (i ∷ i2 ∷ is) (x ∷ x2 ∷ xs) h = none_beside (wrong_walks place)
  on_arguments closed calls m is_it [] (i ∷ is) xs h = absurd h
  on_arguments closed calls m is_it [] [] (x ∷ xs) h = absurd h
  on_arguments closed calls m is_it (p ∷ ps) [] xs h = absurd h
  on_arguments closed calls m is_it (p ∷ ps) (i ∷ is) [] h = absurd h
  on_arguments closed calls m is_it (p ∷ []) (i ∷ i2 ∷ is) (x ∷ xs) h = absurd h.2
  on_arguments closed calls m is_it (p ∷ []) (i ∷ []) (x ∷ x2 ∷ xs) h = absurd h.2
  on_arguments closed calls m is_it (p ∷ p2 ∷ ps) (i ∷ []) (x ∷ xs) h = absurd h.2
  on_arguments closed calls m is_it (p ∷ p2 ∷ ps) (i ∷ i2 ∷ is) (x ∷ []) h = absurd h.2

  pub of_direction : (closed : MappingsClosed q.set) (calls : SoundCalls q.set q.reached w) (o : Option Direction) → slice_get q.set.around.directions d ≡ o
      → {n : ℕ} {f : Point n} {facts : List Fact} (ps : List Part) (is : List Indices) (xs : List Item)
      → EachIs q.set q.work f ps (argument_aims (direction_types o)) is xs → Ends f facts (direction_call (here q) place k d o (nestings ps) is) xs
  of_direction closed calls None e ps is xs h = none_beside (wrong_walks place)
  of_direction closed calls (Some m) e {n} {f} {facts} ps is xs h =
      subst (λ b. Ends f facts (if b then never_value else direction_called (here q) place k d m (nestings ps) is) xs)
      (sym (none_never q.set q.work f is (vals xs) (all_have q.set q.work f ps (argument_aims (m.parameter ∷ [])) is xs h)))
      (on_arguments closed calls m e ps is xs h)

  abbrev types_there : List Typ
  types_there = direction_types (slice_get q.set.around.directions d)

  pub converts_fine : MappingsClosed q.set → {n : ℕ} (f : Point n) (facts : List Fact) (aim : Aim) → Surrounds q w f scope → AimSteady q.set q.work f aim
      → (ps : List Part) (rs : List (Run Item Item)) → AllFine q w ps rs
      → Beside q n f facts (kind_walk place k (K.Call (D.Converts d)) ps (here q) scope aim)
      (kind_meaning (checked q.set.around.types q.cases) w place k (K.Call (D.Converts d)) rs) (λ m g i x. Comes q.set q.work g false false false aim i x)
  converts_fine closed {n} f facts aim there st ps rs fine =
      runs_as (λ now. (λ j. goes_on (in_turn rs now) (λ xs. called_as xs j)))
      (parts_node fit place k aim (in_turn rs) entering st
      (binds (λ is. direction_call (here q) place k d (slice_get q.set.around.directions d) (nestings ps) is)
      (λ xs. entering xs then λ v. (checked q.set.around.types q.cases).make k xs v)
      (subst (λ ys. Beside q n f facts (each_walk ys (here q) scope (argument_aims types_there)) (in_turn rs)
      (λ m g is xs. EachIs q.set q.work g ps (argument_aims types_there) is xs)) (sym (taken_all ps))
      (each_fine q w scope ps rs fine (argument_aims types_there) there (arguments_steady q.set q.work f types_there)))
      (λ m g fs is xs l e. of_direction closed there.calls (slice_get q.set.around.directions d) refl ps is xs e)))

-- ---- what was in force still is

unless_counts : (around : Around) (b : Bool) (i : Indices) (r : Reading) → Counts (fits_unless b around i r)
unless_counts around true i r n = omega arith
unless_counts around false i r n = fits_count around.types deepest i r n

applied_grows : (around : Around) (place : Place) (k d : ℕ) (m : Direction) (b : Bool) (is : List Indices) (i : Indices)
    → Grows (direction_applied around place k d m b is i)
unfolding opened
applied_grows around place k d m b is i =
    grows_bind (owe_fit place (fits_unless b around i (Q.Of m.parameter [] []))) _
    (grows_owe_fit place (fits_unless b around i (Q.Of m.parameter [] [])) (unless_counts around b i (Q.Of m.parameter [] []))) (λ t.
    grows_bind (noted_call place k is (D.Converts d) [] []) _ (grows_note (λ facts. call_note facts place k is (D.Converts d) [] [])) (λ u.
    grows_bind (node_made k is (Makes.ByType (Q.Of m.result [] []))) _ (grows_made k is (Makes.ByType (Q.Of m.result [] []))) (λ x.
    grows_bind (sized_by place (Q.Of m.result [] [])) _ (grows_note (λ facts. size_note facts place (Makes.ByType (Q.Of m.result [] [])))) (λ y.
    grows_opening (Q.Of m.result [] []) false M.Unnamed))))

called_grows : (around : Around) (place : Place) (k d : ℕ) (m : Direction) (bs : List Bool) (is : List Indices)
    → Grows (direction_called around place k d m bs is)
called_grows around place k d m (b ∷ []) (i ∷ []) = applied_grows around place k d m b (i ∷ []) i
called_grows around place k d m [] is = grows_wrong place
called_grows around place k d m (b ∷ []) [] = grows_wrong place
called_grows around place k d m (b ∷ []) (i ∷ i2 ∷ is) = grows_wrong place
called_grows around place k d m (b ∷ b2 ∷ bs) is = grows_wrong place

pub call_grows : (around : Around) (place : Place) (k d : ℕ) (o : Option Direction) (bs : List Bool) (is : List Indices)
    → Grows (direction_call around place k d o bs is)
call_grows around place k d None bs is = grows_wrong place
call_grows around place k d (Some m) bs is = by (any_never is)
  where
    by : (b : Bool) → Grows (if b then never_value else direction_called around place k d m bs is)
    by true = grows_give I.Never
    by false = called_grows around place k d m bs is

-- ---- the kind

module _ (fit : FitsSuffice) (q : Scene) (w : World Item) where
  pub converts_kind : MappingsClosed q.set → (d : ℕ) → KindFine q w (K.Call (D.Converts d))
  converts_kind closed d place k ss ps rs h right =
      let fine = all_values q w ss ps rs right h in
      fine_by q w false false (node q w place k (K.Call (D.Converts d)) ps) (kind_meaning (z q w) w place k (K.Call (D.Converts d)) rs) (λ around scope. refl)
      (λ names falls g n f facts scope aim there st.
      converts_fine (at q w names falls) w scope place k d fit closed f facts aim there st ps rs (all_at q w names falls ps rs fine))
      (λ around scope aim. settled_grows around place k aim (call_walk place k (D.Converts d) ps around scope aim)
      (grows_bind (each_walk (take (length ps) ps) around scope (argument_aims (direction_types (slice_get around.directions d))))
      (λ is. direction_call around place k d (slice_get around.directions d) (nestings ps) is)
      (subst (λ ys. Grows (each_walk ys around scope (argument_aims (direction_types (slice_get around.directions d))))) (sym (taken_all ps))
      (each_grow q w ps rs fine around scope (argument_aims (direction_types (slice_get around.directions d)))))
      (λ is. call_grows around place k d (slice_get around.directions d) (nestings ps) is)))
