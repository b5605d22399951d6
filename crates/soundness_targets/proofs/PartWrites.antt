-- A value that is written to a part of a name, beside its walk: the name is read again, and gets the value of which the part was replaced.
use Rattle.std.proofs.Common.{◌≡◌, ◌∙◌, ℕ, Bool, true, false, List, [], ◌∷◌, ◌++◌, Some, refl, sym, ap, subst}
use Rattle.sail_base.specs.declared.place.Place.{Place}
use Rattle.sail_types.specs.Belongs.{belongs}
use Rattle.sail_types.specs.declared.values.Value.{Value}
use Rattle.sail_core.specs.Making.{made}
use Rattle.sail_core.specs.Run.{Now, Run, goes_on, needs, ◌then◌}
use Rattle.sail_core.specs.Targets as Runs
use Rattle.sail_core.specs.Targets.{part_spot, renewed}
use Rattle.sail_core.specs.Values.{Into, replaced}
use Rattle.sail_core.specs.declared.targets.Way.{Way}
use Rattle.value_indices.specs.Steps.{Walk, Went, bind, conditions, give}
use Rattle.value_indices.specs.declared.indices.Indices.{Indices}
use Rattle.value_indices.specs.declared.indices.Indices.TheVariants as I
use Rattle.value_indices.specs.declared.indices.Reading.{Reading}
use Rattle.value_indices.specs.declared.notes.Fact.{Fact}
use Rattle.value_indices.specs.declared.notes.Made.TheVariants as Makes
use Rattle.value_fits.specs.Fitting.{owe_fit, says}
use Rattle.value_fits.specs.declared.fitted.Fitted.{Fitted}
use Rattle.fitting_laws.proofs.Joining.{says_so}
use Rattle.call_arguments.specs.Holes.{has_hole}
use Rattle.call_arguments.specs.declared.aims.Aim.TheVariants as Aims
use Rattle.call_notes.specs.Noted.{numbers_noted}
use Rattle.expression_forms.specs.Nodes.{put}
use Rattle.expression_forms.specs.Spots.{Spot, Wrote, gives, named_spot, owed_answer, owes_itself, part_left, part_put, part_write, reached_spot}
use Rattle.expression_forms.specs.Spots.{rewritten, written_by, wrote}
use Rattle.expression_forms.specs.Ways.{owe_part, part_fits}
use Rattle.expression_forms.specs.declared.ways.Reached.{Reached}
use Rattle.checked_meaning.specs.Checked.{Noted}
use Rattle.checked_meaning.specs.Items.{Item}
use Rattle.value_laws.specs.Belonging.{Integers, Meant, is_of, standing}
use Rattle.value_laws.specs.Known.{Agree, Point}
use Rattle.value_laws.proofs.Steps.{same}
use Rattle.way_laws.specs.Laws.{AreTrue}
use Rattle.soundness_steps.specs.Points.{Later}
use Rattle.soundness_steps.proofs.Points.{agree_on, later_on, no_later}
use Rattle.soundness_steps.specs.Works.{Scene, here}
use Rattle.soundness_steps.specs.Noted.{variables_given, with_given}
use Rattle.soundness_steps.specs.States.{Sound}
use Rattle.soundness_steps.specs.Steps.{AllMet, Beside, Stands, Walks}
use Rattle.soundness_steps.specs.Values.{Belongs, Has, Is, IsMet, IsSteady, IsWanted}
use Rattle.soundness_steps.proofs.Steps.{met_behind, met_front, walks_mean}
use Rattle.soundness_forms.proofs.Basics.{has_on, is_on, met_on, wanted_on}
use Rattle.soundness_fits.proofs.Owing.{suffices_walks}
use Rattle.soundness_parts.proofs.Taken.{z}
use Rattle.soundness_parts.proofs.Updates.{part_owed_fits, said_true}
use Rattle.soundness_targets.proofs.Again.{CanMake}
use Rattle.soundness_targets.proofs.Foreseen.{conditions_given, owed_before}
use Rattle.soundness_targets.proofs.Moments.{At, Front, at_again, at_as, at_give, at_given, at_last, at_put, at_regrouped, at_walks, front_given}
use Rattle.soundness_targets.proofs.Moments.{front_owed, noted_is, put_is}
use Rattle.soundness_targets.proofs.Pieces.{give_any}
use Rattle.soundness_targets.proofs.Spots.{Is_at, WayTo}

-- what is known of the value of a name that is foreseen, where it is read
pub record Seen (q : Scene) (earlier : List Fact) (b : ℕ) (r : Reading) {n : ℕ} (f : Point n) (held : Indices) (v : Value) : Type 0 where
  pub has_v : Has q.set q.work f held v
  pub keeps : (new : Value) → has_v.meaning.holds new ≡ true → Belongs q.set q.work f r new
  pub makes : CanMake q earlier b [] (Makes.ByType r)

pub seen_on : {q : Scene} {earlier : List Fact} {b : ℕ} {r : Reading} {n m : ℕ} {f : Point n} {g : Point m} {held : Indices} {v : Value} → Later f g
    → Seen q earlier b r f held v → Seen q earlier b r g held v
seen_on l s = record {
  has_v = record { meaning = s.has_v.meaning; is_so = s.has_v.is_so; steady = λ k a. s.has_v.steady k (agree_on l a) };
  keeps = λ new e c a. s.keeps new e c (agree_on l a);
  makes = s.makes;
}

-- ---- the name, as the run has it: how it is read, and how it gets a value

abbrev pub run_base : Scene → ℕ → Run Item Item → (Item → Run Item Item) → (Item → Run Item Item) → Runs.Spot Item
run_base q b rd wr set = record { read = rd; write = wr; renew = λ u. made (z q) b [] u then set }

-- reading it gives the value, whatever numbers are noted
abbrev pub Current : Scene → ℕ → Run Item Item → Value → Now Item → Type 0
Current q b rd v now = (o : Noted) → rd (record now { opened = o }) ≡ made (z q) b [] v (record now { opened = o })

-- what it gets keeps what is known
abbrev pub Sets : (q : Scene) → Reading → (Item → Run Item Item) → {n : ℕ} → Point n → Type 0
Sets q r set f = (m : ℕ) (g : Point m) (fs : List Fact) (u : Item) → Later f g → Belongs q.set q.work g r u.val
    → Beside q m g fs (give I.Unit) (set u) (λ d c j t. Is q.set q.work c j t)

-- its type, the value that it has at each moment, and that another one of the type keeps what is known
pub record NameFine (q : Scene) (b : ℕ) (r : Reading) (rd : Run Item Item) (set : Item → Run Item Item) {n : ℕ} (f : Point n) : Type 0 where
  pub steady : IsSteady q.set q.work f r
  pub whole : has_hole r ≡ false
  pub first : (now : Now Item) → Sound q now → (v : Value) × Is_at q f.integers r v × Current q b rd v now
  pub sets : (m : ℕ) (g : Point m) → Later f g → Sets q r set g

module _ (q : Scene) (place at : Place) (k : ℕ) (way : Way) (base_at : Place) (b : ℕ) (name : List ℕ) (r : Reading) (held : Indices) (x : Reached) where
  abbrev base : Spot
  base = named_spot (here q) base_at b name r

  abbrev again : Walk Indices
  again = rewritten base held

  -- what is left of the walk behind the base's numbers
  abbrev ends : (ℕ → Fitted) → Walk Indices
  ends left = bind (give I.Unit) (λ a. bind (give (wrote left a)) (owed_answer place))

  module _ (nested : Bool) (i : Indices) (y : Item) where
    abbrev puts : Walk (Unit {0})
    puts = put k (i ∷ []) x.typ i

    abbrev fits : ℕ → Fitted
    fits n = part_fits (here q) x nested i n

    -- ---- what is owed of the value holds before it is made

    abbrev Behind : List Fact → List Fact
    Behind facts = with_given facts (variables_given i)

    -- by an index
    index_owed_alone : (n : ℕ) (facts : List Fact) → has_hole x.typ ≡ false → AllMet q (part_put (here q) at k true x again nested i facts n).notes
        → AllMet q (owe_fit at fits (Behind facts) n).notes
    unfolding bind
    index_owed_alone n facts whole met =
        let p : Went (Unit {0}) = puts facts n in
        let w : Walk Wrote = part_write (here q) at true x again nested i in
        met_front q (owe_fit at fits (Behind facts) n).notes _
        (subst (λ (s : Went (Unit {0})). AllMet q (w s.facts s.next).notes) (put_is n facts k i x.typ whole) (met_behind q p.notes _ met))

    index_owed : (n : ℕ) (facts : List Fact) → has_hole x.typ ≡ false
        → AllMet q (bind (part_put (here q) at k true x again nested i) (owed_answer place) facts n).notes
        → AllMet q (owe_fit at fits (Behind facts) n).notes
    unfolding bind
    index_owed n facts whole met =
        let p : Went (Unit {0}) = puts facts n in
        let w : Walk Wrote = part_write (here q) at true x again nested i in
        let rest : AllMet q (w p.facts p.next).notes = met_behind q p.notes _ (met_front q (p.notes ++ (w p.facts p.next).notes) _ met) in
        met_front q (owe_fit at fits (Behind facts) n).notes _
        (subst (λ (s : Went (Unit {0})). AllMet q (w s.facts s.next).notes) (put_is n facts k i x.typ whole) rest)

    abbrev Further : List Fact → List Fact
    Further facts = with_given (Behind facts) (variables_given held)

    -- by a field
    field_owed : (n : ℕ) (facts : List Fact) → has_hole x.typ ≡ false
        → AllMet q (bind (part_put (here q) at k false x again nested i) (owed_answer place) facts n).notes
        → AllMet q (owe_fit place fits (Further facts) n).notes
    unfolding bind give
    field_owed n facts whole met =
        let p : Went (Unit {0}) = puts facts n in
        let w : Walk Wrote = part_write (here q) at false x again nested i in
        let rest : AllMet q (owed_answer place (w p.facts p.next).value (w p.facts p.next).facts (w p.facts p.next).next).notes =
        met_behind q (p.notes ++ (w p.facts p.next).notes) _ met in
        let put_there : AllMet q (owed_answer place (w (Behind facts) n).value (w (Behind facts) n).facts (w (Behind facts) n).next).notes =
        subst (λ (s : Went (Unit {0})). AllMet q (owed_answer place (w s.facts s.next).value (w s.facts s.next).facts (w s.facts s.next).next).notes)
        (put_is n facts k i x.typ whole) rest in
        met_front q (owe_fit place fits (Further facts) n).notes _
        (subst (λ (s : Went (Unit {0})). AllMet q (owed_answer place (wrote fits I.Unit) s.facts s.next).notes) (noted_is n (Behind facts) b held) put_there)

    -- so there is such a part, and the value is of its type
    pub record Fits {n : ℕ} (f : Point n) : Type 0 where
      pub there : Integers
      pub agree : Agree f there
      pub met : AreTrue (standing q.set.past there) x.conditions
      pub belongs_to : Belongs q.set q.work f x.typ y.val

    fits_there : {n : ℕ} {f : Point n} (facts later : List Fact) (owes_at : Place)
        → ((more : List Fact) → conditions (later ++ more) ≡ conditions (facts ++ more)) → Is q.set q.work f i y → IsWanted q.set q.work f x.typ
        → IsMet q.set q.work f (Aims.Given x.typ) nested y.val → (noted : Noted) → Stands q.set q.work noted f facts
        → AllMet q (owe_fit owes_at fits later n).notes → Fits f
    fits_there {n} {f} facts later owes_at e is wanted met noted stands all =
        let r = owed_before q f facts later owes_at fits e (part_owed_fits q x i y.val is.has wanted owes_at nested met) noted stands all in
        let h = r.holds r.point.integers (same r.point) in
        record {
          there = r.point.integers;
          agree = agree_on r.later (same r.point);
          met = said_true (standing q.set.past r.point.integers) x.conditions h.0;
          belongs_to = λ g a.
              ap (belongs q.set.around.types y.val) (wanted.0 g a ∙ sym (wanted.0 r.point.integers (agree_on r.later (same r.point)))) ∙ h.1;
        }

    -- ---- the run

    module _ (earlier : List Fact) (v : Value) (ways : List Into) (rd : Run Item Item) (wr set : Item → Run Item Item) where
      abbrev named : Runs.Spot Item
      named = run_base q b rd wr set

      -- the value of which the part is replaced
      abbrev replaced_then : Item → Run Item Item
      replaced_then old = needs (replaced ways old.val y.val) then named.renew

      module _ {n : ℕ} {f : Point n} {facts : List Fact} (now : Now Item) (ok : Sound q now) (current : Current q b rd v now)
          (seen : Seen q earlier b r f held v)
          (front : Front earlier facts) (reaches : WayTo q f held v ways x) (is : Is q.set q.work f i y)
          (met : IsMet q.set q.work f (Aims.Given x.typ) nested y.val) (sets : Sets q r set f) where
        abbrev Renewed : Type 0
        Renewed = (all : Value) × (replaced ways v y.val ≡ Some all) × Has q.set q.work f held all × Belongs q.set q.work f r all

        renewed_is : Fits f → Renewed
        renewed_is fit =
            let w = reaches.put fit.there fit.agree fit.met y.val (fit.belongs_to fit.there fit.agree) in
            let so : seen.has_v.meaning.holds w.0 ≡ true = ap (λ (m : Meant). m.holds w.0) (sym (seen.has_v.steady fit.there fit.agree)) ∙ w.2 in
            (w.0, w.1, record { meaning = seen.has_v.meaning; is_so = so; steady = seen.has_v.steady }, seen.keeps w.0 so)

        read_is : (o : Noted) (u : Item) → u.val ≡ y.val
            → goes_on (made (z q) b [] v (record now { opened = o })) replaced_then ≡ renewed (z q) named ways u.val (record now { opened = o })
        read_is o u e =
            (λ j. goes_on (made (z q) b [] v (record now { opened = o })) (λ old. needs (replaced ways old.val (sym e j)) then named.renew))
            ∙ ap (λ c. goes_on c (λ old. needs (replaced ways old.val u.val) then named.renew)) (sym (current o))

        replaces : (o : Noted) (old : Item) (all : Value) → old.val ≡ v → replaced ways v y.val ≡ Some all
            → goes_on (made (z q) b [] all (record now { opened = o })) set ≡ replaced_then old (record now { opened = o })
        replaces o old all e h =
            sym (ap (λ c. (needs (replaced ways c y.val) then named.renew) (record now { opened = o })) e
            ∙ ap (λ c. (needs c then named.renew) (record now { opened = o })) h)

        -- the base is read and written again
        rewritten_at : (left : ℕ → Fitted) (m : ℕ) (g : Point m) (fs : List Fact) → Later f g → Front earlier fs → (o : Noted) (u : Item) → u.val ≡ y.val
            → ((d : ℕ) (c : Point d) (gs : List Fact) → Later f c → Walks q d c gs (owe_fit place left) (λ e h t. Unit {0})) → Fits f
            → At q m g fs (bind again (λ a. bind (give (wrote left a)) (owed_answer place))) o
            (renewed (z q) named ways u.val (record now { opened = o })) (λ d c j t. Is q.set q.work c j t)
        rewritten_at left m g fs l there o u e owes fit =
            let a = renewed_is fit in
            at_regrouped (numbers_noted b held) (λ t. give I.Unit) (λ c. bind (give (wrote left c)) (owed_answer place))
            (at_as (read_is o u e)
            (at_given (ends left) replaced_then (record now { opened = o }) b held r v earlier seen.makes there (has_on l seen.has_v)
            (λ c h. seen.keeps v seen.has_v.is_so c (agree_on l h)) (λ more old s note.
            at_as (replaces more old a.0 s a.1)
            (at_again (ends left) set (record now { opened = more }) b held r a.0 earlier seen.makes there note (has_on l a.2)
            (λ c h. a.3 c (agree_on l h)) (λ last w same_value.
            at_give I.Unit (λ c. bind (give (wrote left c)) (owed_answer place))
            (at_give (wrote left I.Unit) (owed_answer place)
            (at_walks (λ t. give I.Unit) (owes m g (with_given fs (variables_given held)) l) (λ p l2 t.
            at_last (record now { opened = last })
            (sets _ p _ w (later_on l l2) (λ c h. ap (is_of q.set.around.types (standing q.set.past c) q.work.types r) same_value
            ∙ a.3 c (agree_on l (agree_on l2 h))))
            (record { state = ok.state; names = ok.names })))))))))

        nothing_owed : (d : ℕ) (c : Point d) (gs : List Fact) → Later f c → Walks q d c gs (owe_fit place (says [])) (λ e h t. Unit {0})
        nothing_owed d c gs l = walks_mean (λ e h t s. tt) (suffices_walks {q = q} {Then = λ g. Unit {0}} place (says []) (says_so [] (λ g a s. tt)))

        part_owed : (d : ℕ) (c : Point d) (gs : List Fact) → Later f c → Walks q d c gs (owe_fit place fits) (λ e h t. Unit {0})
        part_owed d c gs l =
            walks_mean (λ e h t s. tt) (part_owed_fits q x i y.val (is_on l is).has (wanted_on q.set q.work x.typ l reaches.wanted) place nested
            (met_on q.set q.work (Aims.Given x.typ) nested y.val l met))

        -- where what is left is owed elsewhere
        left_alone : (left : ℕ → Fitted) (m : ℕ) (g : Point m) (fs : List Fact) → Later f g → Front earlier fs → (o : Noted) (u : Item) → u.val ≡ y.val → Fits f
            → At q m g fs (bind again (λ a. give (wrote left a))) o (renewed (z q) named ways u.val (record now { opened = o })) (λ d c a t. a.left ≡ left)
        left_alone left m g fs l there o u e fit =
            let a = renewed_is fit in
            at_regrouped (numbers_noted b held) (λ t. give I.Unit) (λ c. give (wrote left c))
            (at_as (read_is o u e)
            (at_given (bind (give I.Unit) (λ c. give (wrote left c))) replaced_then (record now { opened = o }) b held r v earlier seen.makes there
            (has_on l seen.has_v) (λ c h. seen.keeps v seen.has_v.is_so c (agree_on l h)) (λ more old s note.
            at_as (replaces more old a.0 s a.1)
            (at_again (bind (give I.Unit) (λ c. give (wrote left c))) set (record now { opened = more }) b held r a.0 earlier seen.makes there note
            (has_on l a.2) (λ c h. a.3 c (agree_on l h)) (λ last w same_value.
            at_give I.Unit (λ c. give (wrote left c))
            (at_last (record now { opened = last })
            (give_any I.Unit (wrote left I.Unit) (λ (x : Wrote). x.left ≡ left) refl
            (sets m g _ w l (λ c h. ap (is_of q.set.around.types (standing q.set.past c) q.work.types r) same_value ∙ a.3 c (agree_on l h))))
            (record { state = ok.state; names = ok.names })))))))

        abbrev Alone : Bool → (ℕ → Fitted) → Type 0
        Alone owes left = At q n f facts (part_put (here q) at k owes x again nested i) now.opened ((part_spot (z q) k named ways).write y now)
            (λ d c a t. a.left ≡ left)

        index_alone : Fits f → Alone true (says [])
        index_alone fit =
            at_put (part_write (here q) at true x again nested i) (λ u. renewed (z q) named ways u.val) now k i x.typ y
            reaches.wanted.1 is fit.belongs_to (λ more u e.
            at_walks (λ t. bind again gives) (part_owed_fits q x i y.val is.has reaches.wanted at nested met) (λ g l h.
            left_alone (says []) _ g _ l (front_owed earlier (Behind facts) n at fits (front_given earlier facts (variables_given i) front)) more u e fit))

        -- by an index
        pub index_put : Alone true (says [])
        index_put = record {
          go = λ stands all.
              (index_alone (fits_there facts (Behind facts) at (λ more. conditions_given facts (variables_given i) more) is reaches.wanted met now.opened stands
              (index_owed_alone n facts reaches.wanted.1 all))).go stands all;
        }

        -- by a field
        pub field_put : Fits f → Alone false fits
        field_put fit =
            at_put (part_write (here q) at false x again nested i) (λ u. renewed (z q) named ways u.val) now k i x.typ y
            reaches.wanted.1 is fit.belongs_to (λ more u e.
            left_alone fits n f (Behind facts) (no_later f) (front_given earlier facts (variables_given i) front) more u e fit)

        abbrev Ends : Bool → Type 0
        Ends owes = At q n f facts (bind (part_put (here q) at k owes x again nested i) (owed_answer place)) now.opened
            ((part_spot (z q) k named ways).write y now) (λ d c j t. Is q.set q.work c j t)

        index_ends : Fits f → Ends true
        index_ends fit =
            at_regrouped puts (λ t. part_write (here q) at true x again nested i) (owed_answer place)
            (at_put (bind (part_write (here q) at true x again nested i) (owed_answer place)) (λ u. renewed (z q) named ways u.val) now k i x.typ y
            reaches.wanted.1 is fit.belongs_to (λ more u e.
            at_regrouped (owe_part (here q) at x nested i) (λ t. bind again gives) (owed_answer place)
            (at_walks (λ t. bind (bind again gives) (owed_answer place)) (part_owed_fits q x i y.val is.has reaches.wanted at nested met) (λ g l h.
            at_regrouped again gives (owed_answer place)
            (rewritten_at (says []) _ g _ l (front_owed earlier (Behind facts) n at fits (front_given earlier facts (variables_given i) front)) more u e
            nothing_owed fit)))))

        field_ends : Fits f → Ends false
        field_ends fit =
            at_regrouped puts (λ t. part_write (here q) at false x again nested i) (owed_answer place)
            (at_put (bind (part_write (here q) at false x again nested i) (owed_answer place)) (λ u. renewed (z q) named ways u.val) now k i x.typ y
            reaches.wanted.1 is fit.belongs_to (λ more u e.
            at_regrouped again (part_left (here q) x nested i) (owed_answer place)
            (rewritten_at fits n f (Behind facts) (no_later f) (front_given earlier facts (variables_given i) front) more u e part_owed fit)))

        ends_by : (owes : Bool) → Ends owes
        ends_by true = record {
          go = λ stands all.
              (index_ends (fits_there facts (Behind facts) at (λ more. conditions_given facts (variables_given i) more) is reaches.wanted met now.opened stands
              (index_owed n facts reaches.wanted.1 all))).go stands all;
        }
        ends_by false = record {
          go = λ stands all.
              (field_ends (fits_there facts (Further facts) place
              (λ more. conditions_given (Behind facts) (variables_given held) more ∙ conditions_given facts (variables_given i) more) is reaches.wanted met
              now.opened stands (field_owed n facts reaches.wanted.1 all))).go stands all;
        }

        -- what is written to the part
        pub part_written : At q n f facts (written_by place (reached_spot (here q) at k way base held x) nested i) now.opened
            ((part_spot (z q) k named ways).write y now) (λ d c j t. Is q.set q.work c j t)
        part_written = ends_by (owes_itself way)
