-- Names, calls and tuples that may be parts of a tuple of targets.
use Rattle.std.proofs.Common.{◌≡◌, ◌∙◌, ℕ, Bool, true, false, List, [], ◌∷◌, if◌then◌else◌, Option, refl, sym, ap, subst}
use Rattle.sail_base.specs.declared.place.Place.{Place}
use Rattle.sail_types.specs.Belongs.{belongs}
use Rattle.sail_types.specs.declared.types.Typ.{Typ}
use Rattle.sail_core.specs.Making.{World, made}
use Rattle.sail_core.specs.Patterns.{components}
use Rattle.sail_core.specs.Run.{Run, needs, ◌then◌}
use Rattle.sail_core.specs.Targets as Runs
use Rattle.sail_core.specs.Values.{parts_in}
use Rattle.sail_core.specs.declared.targets.Caller.{Caller}
use Rattle.value_indices.specs.Steps.{bind, give}
use Rattle.value_indices.specs.declared.indices.Indices.{Indices, out-Indices}
use Rattle.value_indices.specs.declared.indices.Indices.TheOpen as W
use Rattle.value_indices.specs.declared.indices.Indices.TheOpen.{Indices-F}
use Rattle.value_indices.specs.declared.indices.Indices.TheVariants as I
use Rattle.value_indices.specs.declared.indices.Reading.{Reading}
use Rattle.value_indices.specs.declared.indices.Reading.TheVariants as R
use Rattle.value_indices.specs.declared.notes.Fact.{Fact}
use Rattle.value_fits.specs.Fitting.{says}
use Rattle.value_fits.specs.declared.fitted.Fitted.{Fitted}
use Rattle.pattern_leaves.specs.Settings.{Scope}
use Rattle.call_arguments.specs.Callees.{is_closed}
use Rattle.call_arguments.specs.declared.aims.Aim.TheVariants as Aims
use Rattle.call_notes.specs.Calls.{callee_types}
use Rattle.call_notes.specs.Ends.{fits_unless, is_never_form, wrong_value}
use Rattle.expression_forms.specs.Nodes.{put}
use Rattle.expression_forms.specs.Spots as Walked
use Rattle.expression_forms.specs.Spots.{Spot, Wrote, call_spot, call_written, last_type, named_spot, parts_nested}
use Rattle.expression_forms.specs.Spots.{tuple_spot, tuple_write, wrong_write, wrote}
use Rattle.expression_steps.specs.Calls.{argument_aims, nestings}
use Rattle.expression_steps.specs.Parts.{Part}
use Rattle.checked_meaning.specs.Items.{Item}
use Rattle.fitting_laws.specs.Fitting.{Suffices}
use Rattle.fitting_laws.proofs.Deep.{fitting}
use Rattle.fitting_laws.proofs.Joining.{says_so, suffice_as}
use Rattle.value_laws.specs.Belonging.{Integers, Meant}
use Rattle.value_laws.specs.Known.{Agree, Point}
use Rattle.value_laws.proofs.Steps.{same}
use Rattle.soundness_steps.specs.Points.{Later}
use Rattle.soundness_steps.proofs.Points.{agree_on, later_on, no_later}
use Rattle.soundness_steps.specs.Works.{Scene, here}
use Rattle.soundness_steps.specs.Steps.{Beside, Grows}
use Rattle.soundness_steps.specs.Values.{Belongs, Is, IsMet}
use Rattle.soundness_steps.proofs.Steps.{means, runs_as, runs_on}
use Rattle.soundness_forms.specs.Calls.{CalleeFits}
use Rattle.soundness_forms.specs.Forms.{FitsSuffice}
use Rattle.soundness_forms.specs.Mappings.{MappingsClosed}
use Rattle.soundness_forms.specs.Worlds.{Surrounds}
use Rattle.soundness_forms.proofs.Basics.{is_on, wanted_on, wrong_walks}
use Rattle.soundness_forms.proofs.Growth.{grows_bind, grows_give, grows_wrong}
use Rattle.soundness_forms.proofs.Leaves.{wrong_node}
use Rattle.soundness_forms.proofs.Leaving.{aimed_is}
use Rattle.soundness_forms.proofs.Parts.{EachIs, not_never}
use Rattle.soundness_forms.proofs.Worlds.{surrounds_on}
use Rattle.soundness_values.proofs.Mappings.{nameless_wanted}
use Rattle.soundness_parts.proofs.Taken.{z}
use Rattle.soundness_targets.proofs.CallGrowth.{written_grow}
use Rattle.soundness_targets.proofs.CallTargets.{each_on, value_written}
use Rattle.soundness_targets.proofs.Named.{put_fine}
use Rattle.soundness_targets.proofs.PartWrites.{NameFine, run_base}
use Rattle.soundness_targets.proofs.Pieces.{give_any}
use Rattle.soundness_targets.proofs.TupleTypes.{Typed, tuple_typed}
use Rattle.soundness_targets.proofs.TupleShares.{Shared, items_of, shared, shared_items}
use Rattle.soundness_targets.proofs.TupleWrites.{AllDue, AllWritable, Dues, Meets, Writable, all_dues, all_grow, all_left, all_left_is, all_same_dues}
use Rattle.soundness_targets.proofs.TupleWrites.{all_suffice, all_types, all_written}
use Rattle.soundness_targets.proofs.WriteGrowth.{put_grows}

-- ---- a name

module _ (fit : FitsSuffice) (q : Scene) (w : World Item) {n : ℕ} (f : Point n) (at : Place) (b : ℕ) (name : List ℕ) (r : Reading) (rd : Run Item Item)
    (set : Item → Run Item Item) (named : NameFine q b r rd set f) where
  abbrev name_spot : Spot
  name_spot = named_spot (here q) at b name r

  abbrev name_run : Runs.Spot Item
  name_run = run_base q b rd (λ y. made (z q) b (y ∷ []) y.val then set) set

  abbrev name_left : Bool → Indices → ℕ → Fitted
  name_left nested i = fits_unless nested (here q) i r

  name_left_is : (nested : Bool) (i : Indices) (facts : List Fact) (m : ℕ) → (name_spot.write nested i facts m).value.left ≡ name_left nested i
  unfolding bind give
  name_left_is nested i facts m = refl

  abbrev name_dues : Bool → Item → Dues
  name_dues nested u = if nested then [] else (r, u.val) ∷ []

  name_same : (m : ℕ) (g : Point m) → Later f g → (nested : Bool) (u : Item) → (c d : Integers) → Agree g c → Agree g d → AllDue q c (name_dues nested u)
      → AllDue q d (name_dues nested u)
  name_same m g l true u c d a e due = tt
  name_same m g l false u c d a e due = (
    ap (belongs q.set.around.types u.val) (named.steady d (agree_on l e) ∙ sym (named.steady c (agree_on l a))) ∙ due.0,
    tt,
  )

  name_suffices : (m : ℕ) (g : Point m) → Later f g → (nested : Bool) (i : Indices) (u : Item) → Is q.set q.work g i u → (k : ℕ) (p : Point k) → Later g p
      → Suffices q.set.past k p (name_left nested i k) (λ c. AllDue q c (name_dues nested u))
  name_suffices m g l true i u is k p lp = says_so [] (λ c a s. tt)
  name_suffices m g l false i u is k p lp =
      let has = (is_on lp is).has in
      suffice_as (fitting q.set.around.types q.set.past q.work.types i r k p u.val named.whole
      (λ h a. has.steady h a ∙ sym (has.steady p.integers (same p)))
      (wanted_on q.set q.work r (later_on l lp) (named.steady, named.whole)).0
      (ap (λ (y : Meant). y.holds u.val) (has.steady p.integers (same p)) ∙ has.is_so)) (λ c a x. (x, tt))

  name_belongs : (m : ℕ) (g : Point m) (nested : Bool) (u : Item) → IsMet q.set q.work g (Aims.Given r) nested u.val
      → ((c : Integers) → Agree g c → AllDue q c (name_dues nested u)) → Belongs q.set q.work g r u.val
  name_belongs m g true u met due = met
  name_belongs m g false u met due = λ c a. (due c a).0

  pub name_writable : Writable q f name_spot name_run
  name_writable = record {
    typed = (false, (named.steady, named.whole));
    left = name_left;
    left_is = name_left_is;
    grows = λ nested i. grows_bind (put b (i ∷ []) r i) (λ t. give (wrote (name_left nested i) I.Unit)) (put_grows b (i ∷ []) r i) (λ t.
        grows_give (wrote (name_left nested i) I.Unit));
    dues = λ nested i u. name_dues nested u;
    same_dues = λ m g l nested i u meet c d a e due. name_same m g l nested u c d a e due;
    suffice = λ m g l nested i u meet k p lp. name_suffices m g l nested i u meet.0 k p lp;
    writes = λ m g fs l nested i u meet due.
        let met = subst (λ aim. IsMet q.set q.work g aim nested u.val) (aimed_is Aims.Given r named.whole) meet.1 in
        let is_so = name_belongs m g nested u met due in
        let wanted = wanted_on q.set q.work r l (named.steady, named.whole) in
        runs_on set (put_fine fit q at b name r nested i u meet.0 met wanted is_so) (λ d p gs a y l2 e.
        give_any I.Unit a (λ x. x.left ≡ name_left nested i) (ap (λ (x : Wrote). x.left) e.0)
        (named.sets d p (later_on l l2) d p gs y (no_later p)
        (subst (λ v. Belongs q.set q.work p r v) (sym e.1) (λ c k. is_so c (agree_on l2 k)))));
  }

-- ---- a call

module _ (fit : FitsSuffice) (q : Scene) (w : World Item) (places : (i : ℕ) → CalleeFits q.set i) (mappings : MappingsClosed q.set) (scope : Scope)
    {n : ℕ} (f : Point n) (there : Surrounds q w f scope) (at : Place) (k : ℕ) (reader : Option Caller) (writer : Caller)
    (ps : List Part) (is : List Indices) (xs : List Item)
    (each : EachIs q.set q.work f ps (argument_aims (callee_types (here q) writer.callee)) is xs) where
  abbrev a_call : Spot
  a_call = call_spot (here q) at k reader writer (nestings ps) is

  call_typed : (ts : List Typ) → Typed q f (last_type ts)
  call_typed [] = (true, refl)
  call_typed (t ∷ []) = by (is_closed t)
    where
      by : (c : Bool) → Typed q f (if c then R.Of t [] [] else R.Hole)
      by true = (false, nameless_wanted q.set q.work f t)
      by false = (true, refl)
  call_typed (t ∷ u ∷ ts) = call_typed (u ∷ ts)

  call_left_is : (nested : Bool) (i : Indices) (facts : List Fact) (m : ℕ) → (a_call.write nested i facts m).value.left ≡ says []
  unfolding bind give
  call_left_is nested i facts m = refl

  pub call_writable : Writable q f a_call (Runs.call_spot (z q) w at k reader writer xs)
  call_writable = record {
    typed = call_typed (callee_types (here q) writer.callee);
    left = λ nested i. says [];
    left_is = call_left_is;
    grows = λ nested i. grows_bind (call_written (here q) at k writer (nestings ps) is nested i) Walked.gives
        (written_grow (here q) at k reader writer (nestings ps) is nested i) (λ a. grows_give (wrote (says []) a));
    dues = λ nested i u. [];
    same_dues = λ m g l nested i u meet c d a e due. tt;
    suffice = λ m g l nested i u meet d p lp. says_so [] (λ c a s. tt);
    writes = λ m g fs l nested i u meet due.
        means (λ d p a r l2 e. ap (λ (x : Wrote). x.left) e.1)
        (value_written fit q w places mappings scope at k reader writer ps is xs (surrounds_on q w scope l there)
        (each_on q ps (argument_aims (callee_types (here q) writer.callee)) is xs l each) nested i u meet.0 meet.1);
  }

-- ---- a tuple

module _ (q : Scene) (w : World Item) {n : ℕ} (f : Point n) (at : Place) (k : ℕ) (ss : List Spot) (srs : List (Runs.Spot Item))
    (all : AllWritable q f ss srs) where
  abbrev pub a_tuple : Spot
  a_tuple = tuple_spot at k ss

  abbrev pub run_tuple : Runs.Spot Item
  run_tuple = Runs.tuple_spot (z q) k srs

  abbrev pub form_left : Bool → Indices-F Indices Reading → ℕ → Fitted
  form_left nested (W.Tuple is) = all_left q f ss srs all (parts_nested ss nested) is
  form_left nested form = says []

  abbrev pub form_dues : Bool → Indices-F Indices Reading → Item → Dues
  form_dues nested (W.Tuple is) u = all_dues q f ss srs all (parts_nested ss nested) is (items_of q u (parts_in u.val))
  form_dues nested form u = []

  wrong_left : (facts : List Fact) (m : ℕ) → (wrong_write at facts m).value.left ≡ says []
  unfolding bind give
  wrong_left facts m = refl

  given_left : (facts : List Fact) (m : ℕ) → (Walked.gives I.Unit facts m).value.left ≡ says []
  unfolding give
  given_left facts m = refl

  pub form_left_is : (nested : Bool) (form : Indices-F Indices Reading) (facts : List Fact) (m : ℕ)
      → (tuple_write at ss nested form facts m).value.left ≡ form_left nested form
  form_left_is nested (W.Tuple is) facts m = all_left_is q f at ss srs all (parts_nested ss nested) is facts m
  form_left_is nested W.Never facts m = given_left facts m
  form_left_is nested form facts m = wrong_left facts m

  wrong_grows : Grows (wrong_write at)
  wrong_grows = grows_bind (wrong_value at) Walked.gives (grows_wrong at) (λ j. grows_give (wrote (says []) j))

  pub form_grows : (nested : Bool) (form : Indices-F Indices Reading) → Grows (tuple_write at ss nested form)
  form_grows nested (W.Tuple is) = all_grow q f at ss srs all (parts_nested ss nested) is
  form_grows nested W.Never = grows_give (wrote (says []) I.Unit)
  form_grows nested form = wrong_grows

  -- ---- its parts

  shared_here : {m : ℕ} (g : Point m) (nested : Bool) (i : Indices) (is : List Indices) (u : Item) → out-Indices i ≡ W.Tuple is → Meets q g a_tuple nested i u
      → Shared q ss g nested is u
  shared_here g nested i is u e meet = shared q ss g nested i is u e meet.0 meet.1

  -- ---- what is left, and how it is written

  pub form_same : (m : ℕ) (g : Point m) → Later f g → (nested : Bool) (i : Indices) (u : Item) → Meets q g a_tuple nested i u
      → (form : Indices-F Indices Reading) → out-Indices i ≡ form → (c d : Integers) → Agree g c → Agree g d → AllDue q c (form_dues nested form u)
      → AllDue q d (form_dues nested form u)
  form_same m g l nested i u meet (W.Tuple is) e c d a b due =
      all_same_dues q f ss srs all m g l (parts_nested ss nested) is (items_of q u (parts_in u.val))
      (shared_items q ss g nested is u (shared_here g nested i is u e meet)) c d a b due
  form_same m g l nested i u meet form e c d a b due = tt

  pub form_suffices : (m : ℕ) (g : Point m) → Later f g → (nested : Bool) (i : Indices) (u : Item) → Meets q g a_tuple nested i u
      → (form : Indices-F Indices Reading) → out-Indices i ≡ form → (d : ℕ) (p : Point d) → Later g p
      → Suffices q.set.past d p (form_left nested form d) (λ c. AllDue q c (form_dues nested form u))
  form_suffices m g l nested i u meet (W.Tuple is) e d p lp =
      all_suffice q f ss srs all m g l (parts_nested ss nested) is (items_of q u (parts_in u.val))
      (shared_items q ss g nested is u (shared_here g nested i is u e meet)) d p lp
  form_suffices m g l nested i u meet form e d p lp = says_so [] (λ c a s. tt)

  form_written : (m : ℕ) (g : Point m) (fs : List Fact) → Later f g → (nested : Bool) (i : Indices) (u : Item) → Meets q g a_tuple nested i u
      → (form : Indices-F Indices Reading) → out-Indices i ≡ form → ((c : Integers) → Agree g c → AllDue q c (form_dues nested form u))
      → Beside q m g fs (tuple_write at ss nested form) (run_tuple.write u)
      (λ d p a r. (a.left ≡ form_left nested form) × ((a.answer ≡ I.Unit) × Is q.set q.work p I.Unit r))
  form_written m g fs l nested i u meet (W.Tuple is) e due =
      let s = shared_here g nested i is u e meet in
      runs_as (λ now. λ j. (needs (sym s.are_parts j) then λ vs. Runs.writes (z q) srs (components (z q) u 0 vs)) now)
      (all_written q f w at ss srs all m g fs l (parts_nested ss nested) is (components (z q) u 0 s.values) s.meet
      (subst (λ o. (c : Integers) → Agree g c → AllDue q c (all_dues q f ss srs all (parts_nested ss nested) is (items_of q u o))) s.are_parts due))
  form_written m g fs l nested i u meet W.Never e due =
      let bad : true ≡ false = sym (ap is_never_form e) ∙ not_never q.set q.work i u.val meet.0.has in
      absurd (cc)
  form_written m g fs l nested i u meet form e due = wrong_node Walked.gives (run_tuple.write u) (wrong_walks at)

  pub tuple_written : (m : ℕ) (g : Point m) (fs : List Fact) → Later f g → (nested : Bool) (i : Indices) (u : Item) → Meets q g a_tuple nested i u
      → ((c : Integers) → Agree g c → AllDue q c (form_dues nested (out-Indices i) u))
      → Beside q m g fs (a_tuple.write nested i) (run_tuple.write u)
      (λ d p a r. (a.left ≡ form_left nested (out-Indices i)) × ((a.answer ≡ I.Unit) × Is q.set q.work p I.Unit r))
  tuple_written m g fs l nested i u meet due = form_written m g fs l nested i u meet (out-Indices i) refl due

  pub tuple_writable : Writable q f a_tuple run_tuple
  tuple_writable = record {
    typed = tuple_typed q f ss (all_types q f ss srs all);
    left = λ nested i. form_left nested (out-Indices i);
    left_is = λ nested i facts m. form_left_is nested (out-Indices i) facts m;
    grows = λ nested i. form_grows nested (out-Indices i);
    dues = λ nested i u. form_dues nested (out-Indices i) u;
    same_dues = λ m g l nested i u meet c d a b due. form_same m g l nested i u meet (out-Indices i) refl c d a b due;
    suffice = λ m g l nested i u meet d p lp. form_suffices m g l nested i u meet (out-Indices i) refl d p lp;
    writes = λ m g fs l nested i u meet due. means (λ d p a r l2 e. e.0) (tuple_written m g fs l nested i u meet due);
  }
