-- A tuple that is a part of a tuple of targets, where parts are among its own.
use Rattle.std.proofs.Common.{◌≡◌, ◌∙◌, ℕ, Bool, true, false, List, [], ◌≤◌, Option, refl, sym, ap, subst}
use Rattle.sail_base.specs.declared.place.Place.{Place}
use Rattle.sail_types.specs.declared.values.Value.{Value}
use Rattle.sail_core.specs.Making.{World}
use Rattle.sail_core.specs.Patterns.{components}
use Rattle.sail_core.specs.Run.{Ended, Now, needs, ◌then◌}
use Rattle.sail_core.specs.Targets as Runs
use Rattle.sail_core.specs.Values.{parts_in}
use Rattle.value_indices.specs.Steps.{Walk, bind, give}
use Rattle.value_indices.specs.declared.indices.Indices.{Indices, out-Indices}
use Rattle.value_indices.specs.declared.indices.Indices.TheOpen as W
use Rattle.value_indices.specs.declared.indices.Indices.TheOpen.{Indices-F}
use Rattle.value_indices.specs.declared.indices.Indices.TheVariants as I
use Rattle.value_indices.specs.declared.indices.Reading.{Reading}
use Rattle.value_indices.specs.declared.notes.Fact.{Fact}
use Rattle.value_fits.specs.Fitting.{says}
use Rattle.value_fits.specs.declared.fitted.Fitted.{Fitted}
use Rattle.call_notes.specs.Ends.{is_never_form, wrong_value}
use Rattle.expression_forms.specs.Spots as Walked
use Rattle.expression_forms.specs.Spots.{Spot, Wrote, each_written, parts_nested, tuple_spot, tuple_write, wrong_write, wrote}
use Rattle.checked_meaning.specs.Items.{Item}
use Rattle.fitting_laws.specs.Fitting.{Suffices}
use Rattle.fitting_laws.proofs.Joining.{says_so}
use Rattle.value_laws.specs.Belonging.{Integers}
use Rattle.value_laws.specs.Known.{Point}
use Rattle.soundness_steps.specs.Points.{Later}
use Rattle.soundness_steps.specs.Works.{Scene}
use Rattle.soundness_steps.specs.States.{Sound}
use Rattle.soundness_steps.specs.Steps.{AllMet, Grows}
use Rattle.soundness_forms.proofs.Growth.{grows_bind, grows_give, grows_wrong}
use Rattle.soundness_forms.proofs.Parts.{not_never}
use Rattle.soundness_parts.proofs.Taken.{z}
use Rattle.soundness_targets.proofs.ModeLists.{Done, Modes, all_left, wrong_there}
use Rattle.soundness_targets.proofs.Modes.{left_of}
use Rattle.soundness_targets.proofs.Moments.{Front}
use Rattle.soundness_targets.proofs.Trees.{Ends, There, Trees, both_paths, ends_map}
use Rattle.soundness_targets.proofs.TupleShares.{Shared, items_of, shared, shared_items}
use Rattle.soundness_targets.proofs.TupleTypes.{tuple_typed}
use Rattle.soundness_targets.proofs.TupleWrites.{AllMeet, Meets}
use Rattle.soundness_targets.proofs.Written.{Says, Stays, Written}

module _ (q : Scene) (w : World Item) {n : ℕ} (f : Point n) (at : Place) (k : ℕ) (ss : List Spot) (modes : Modes q w f ss) where
  abbrev pub a_tuple : Spot
  a_tuple = tuple_spot at k ss

  abbrev pub tuple_view : modes.P → Runs.Spot Item
  tuple_view p = Runs.tuple_spot (z q) k (modes.views p)

  -- ---- what is left, by what the value is

  abbrev pub form_left : Bool → Indices-F Indices Reading → ℕ → Fitted
  form_left nested (W.Tuple is) = all_left ss (parts_nested ss nested) is
  form_left nested form = says []

  pub wrong_left : (facts : List Fact) (m : ℕ) → (wrong_write at facts m).value.left ≡ says []
  unfolding bind give
  wrong_left facts m = refl

  pub given_left : (facts : List Fact) (m : ℕ) → (Walked.gives I.Unit facts m).value.left ≡ says []
  unfolding give
  given_left facts m = refl

  module _ (v : modes.T.Path) {m : ℕ} (g : Point m) (fs : List Fact) (p : modes.P) (rd : modes.Ready v m g fs p) where
    pub form_left_is : (nested : Bool) (form : Indices-F Indices Reading) (facts : List Fact) (d : ℕ)
        → (tuple_write at ss nested form facts d).value.left ≡ form_left nested form
    form_left_is nested (W.Tuple is) facts d = modes.lefts v m g fs p rd at (parts_nested ss nested) is facts d
    form_left_is nested W.Never facts d = given_left facts d
    form_left_is nested form facts d = wrong_left facts d

    pub form_grows : (nested : Bool) (form : Indices-F Indices Reading) → Grows (tuple_write at ss nested form)
    form_grows nested (W.Tuple is) = modes.grow v m g fs p rd at (parts_nested ss nested) is
    form_grows nested W.Never = grows_give (wrote (says []) I.Unit)
    form_grows nested form = grows_bind (wrong_value at) Walked.gives (grows_wrong at) (λ j. grows_give (wrote (says []) j))

    -- what that says of a value

    abbrev pub form_due : Bool → Indices-F Indices Reading → Item → Integers → Type 0
    form_due nested (W.Tuple is) u c = modes.Due v m g fs p rd (parts_nested ss nested) is (items_of q u (parts_in u.val)) c
    form_due nested form u c = Unit {0}

    pub form_suffices : (nested : Bool) (i : Indices) (u : Item) → Meets q g a_tuple nested i u → (form : Indices-F Indices Reading) → out-Indices i ≡ form
        → (d : ℕ) (c : Point d) → Later g c → Suffices q.set.past d c (form_left nested form d) (λ e. form_due nested form u e)
    form_suffices nested i u meet (W.Tuple is) e d c l =
        modes.suffice v m g fs p rd (parts_nested ss nested) is (items_of q u (parts_in u.val))
        (shared_items q ss g nested is u (shared q ss g nested i is u e meet.0 meet.1)) d c l
    form_suffices nested i u meet form e d c l = says_so [] (λ d2 a s. tt)

    pub tuple_suffices : (nested : Bool) (i : Indices) (u : Item) → Meets q g a_tuple nested i u → (d : ℕ) (c : Point d) → Later g c
        → Suffices q.set.past d c (left_of a_tuple nested i d) (λ e. form_due nested (out-Indices i) u e)
    tuple_suffices nested i u meet d c l =
        subst (λ (left : ℕ → Fitted). Suffices q.set.past d c (left d) (λ e. form_due nested (out-Indices i) u e))
        (sym (form_left_is nested (out-Indices i) [] 0)) (form_suffices nested i u meet (out-Indices i) refl d c l)

  pub due_later : (v : modes.T.Path) (m d : ℕ) (g : Point m) (h : Point d) (fs gs : List Fact) (p : modes.P) (l : Later g h)
      (e : Front fs gs) (rd : modes.Ready v m g fs p) (nested : Bool) (form : Indices-F Indices Reading) (u : Item) (c : Integers)
      → form_due v g fs p rd nested form u c → form_due v h gs p (modes.on v m d g h fs gs p l e rd) nested form u c
  due_later v m d g h fs gs p l e rd nested (W.Tuple is) u c due =
      modes.due_on v m d g h fs gs p l e rd (parts_nested ss nested) is (items_of q u (parts_in u.val)) c due
  due_later v m d g h fs gs p l e rd nested form u c due = tt

  -- ---- it is written at a moment

  module _ (nested : Bool) (i : Indices) (gs : List Fact) (d : ℕ) (p : modes.P) (u : Item) (last : ℕ) (U : Trees)
      (Keep : U.Path → (m : ℕ) → Point m → Type 0) (stays : (r : U.Path) → Stays (Keep r)) (now : Now Item) (ok : Sound q now) where
    abbrev pub inside : Bool
    inside = parts_nested ss nested

    abbrev pub all_paths : Trees
    all_paths = both_paths modes.T U

    abbrev pub Known : Indices-F Indices Reading → all_paths.Path → Point d → Type 0
    Known form v g = (rd : modes.Ready v.0 d g gs p) × Meets q g a_tuple nested i u
        × Says q last gs g (λ e. form_due v.0 g gs p rd nested form u e) × Keep v.1 d g

    abbrev pub tuple_write_of : Indices-F Indices Reading → Walk Wrote
    tuple_write_of form = tuple_write at ss nested form

    abbrev pub Goal : Indices-F Indices Reading → Type 0
    Goal form =
        Ends q U (λ r x after. There q f (tuple_write_of form gs d).next gs (λ g. Keep r (tuple_write_of form gs d).next g) after) ((tuple_view p).write u now)

    module _ (is : List Indices) (e : out-Indices i ≡ W.Tuple is) (tree : all_paths.Tree (λ v. There q f d gs (Known (W.Tuple is) v) now)) where
      abbrev pub items : List Item
      items = items_of q u (parts_in u.val)

      pub shared_by : {m : ℕ} (g : Point m) → Meets q g a_tuple nested i u → Shared q ss g nested is u
      shared_by g meet = shared q ss g nested i is u e meet.0 meet.1

      -- its values are those of its parts
      pub same_writes : {m : ℕ} (g : Point m) → Meets q g a_tuple nested i u → Runs.writes (z q) (modes.views p) items now ≡ (tuple_view p).write u now
      same_writes g meet =
          subst (λ (o : Option (List Value)). Runs.writes (z q) (modes.views p) (items_of q u o) now
          ≡ (needs o then λ vs. Runs.writes (z q) (modes.views p) (components (z q) u 0 vs)) now)
          (sym (shared_by g meet).are_parts) refl

      abbrev pub All : all_paths.Path → Point d → Type 0
      All v g = (rd : modes.Ready v.0 d g gs p) × AllMeet q g ss inside is items
          × Says q last gs g (λ c. modes.Due v.0 d g gs p rd inside is items c) × Keep v.1 d g

      pub all_known : all_paths.Tree (λ v. There q f d gs (All v) now)
      all_known = all_paths.map {P = λ v. There q f d gs (Known (W.Tuple is) v) now} {Q = λ v. There q f d gs (All v) now} (λ v h. record {
        point = h.point;
        later = h.later;
        stands = h.stands;
        holds = (h.holds.0, shared_items q ss h.point nested is u (shared_by h.point h.holds.1), h.holds.2, h.holds.3);
      }) tree

      pub tuple_goes : (each_written at ss inside is gs d).next ≤ last → AllMet q (each_written at ss inside is gs d).notes → Goal (W.Tuple is)
      tuple_goes le met =
          let some = (all_paths.pick {P = λ v. There q f d gs (Known (W.Tuple is) v) now} tree).1 in
          subst (λ (x : Ended Item Item). Ends q U (λ r y after. There q f (each_written at ss inside is gs d).next gs
          (λ g. Keep r (each_written at ss inside is gs d).next g) after) x) (same_writes some.point some.holds.1)
          (ends_map q U (λ r y after. There q f (each_written at ss inside is gs d).next gs (λ g. Done q w at ss inside is gs d (Keep r) g y) after)
          (λ r y after. There q f (each_written at ss inside is gs d).next gs (λ g. Keep r (each_written at ss inside is gs d).next g) after)
          (Runs.writes (z q) (modes.views p) items now) (λ y after r s2 h.
          record { point = h.point; later = h.later; stands = h.stands; holds = h.holds.0 })
          (modes.writes at inside is gs d p items last U Keep stays le met now ok all_known))

    pub form_goes : (form : Indices-F Indices Reading) → out-Indices i ≡ form → (tuple_write_of form gs d).next ≤ last
        → AllMet q (tuple_write_of form gs d).notes
        → all_paths.Tree (λ v. There q f d gs (Known form v) now) → Goal form
    form_goes (W.Tuple is) e le met tree = tuple_goes is e tree le met
    form_goes W.Never e le met tree =
        let some = (all_paths.pick {P = λ v. There q f d gs (Known W.Never v) now} tree).1 in
        let bad : true ≡ false = sym (ap is_never_form e) ∙ not_never q.set q.work i u.val some.holds.1.0.has in
        absurd (cc)
    form_goes form e le met tree = absurd (wrong_there q w at gs d all_paths {Holds = λ v. Known form v} now tree met)

  abbrev pub tuple_written : Written q f a_tuple
  tuple_written = record {
    T = modes.T;
    P = modes.P;
    view = tuple_view;
    Ready = modes.Ready;
    on = modes.on;
    typed = λ v m g fs p rd. tuple_typed q g ss (modes.types v m g fs p rd);
    grows = λ v m g fs p rd nested i. form_grows v g fs p rd nested (out-Indices i);
    left_same = λ v m g fs p rd nested i facts d.
        form_left_is v g fs p rd nested (out-Indices i) facts d ∙ sym (form_left_is v g fs p rd nested (out-Indices i) [] 0);
    Due = λ v m g fs p rd nested i u c. form_due v g fs p rd nested (out-Indices i) u c;
    due_on = λ v m d g h fs gs p l e rd nested i u c due. due_later v m d g h fs gs p l e rd nested (out-Indices i) u c due;
    suffice = λ v m g fs p rd nested i u meet d c l. tuple_suffices v g fs p rd nested i u meet d c l;
    writes = λ nested i gs d p u last U Keep stays le met now ok tree.
        form_goes nested i gs d p u last U Keep stays now ok (out-Indices i) refl le met tree;
  }
