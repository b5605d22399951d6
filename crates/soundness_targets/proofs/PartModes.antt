-- A part of a name that is a part of a tuple.
use Rattle.std.proofs.Common.{◌≡◌, ◌∙◌, ℕ, Bool, true, false, List, [], ◌∷◌, Option, Some, None, refl, sym, ap, subst}
use Rattle.sail_base.specs.declared.place.Place.{Place}
use Rattle.sail_types.specs.Belongs.{belongs}
use Rattle.sail_types.specs.declared.values.Value.{Value}
use Rattle.sail_core.specs.Making.{World, made}
use Rattle.sail_core.specs.Run.{Now, Run, ◌then◌}
use Rattle.sail_core.specs.Targets as Runs
use Rattle.sail_core.specs.Targets.{part_spot}
use Rattle.sail_core.specs.Values.{Into}
use Rattle.sail_core.specs.declared.targets.Suffix.{Suffix}
use Rattle.value_indices.specs.Steps.{Walk, bind, give}
use Rattle.value_indices.specs.declared.indices.Indices.{Indices}
use Rattle.value_indices.specs.declared.indices.Reading.{Reading}
use Rattle.value_indices.specs.declared.notes.Fact.{Fact}
use Rattle.value_fits.specs.Fitting.{says}
use Rattle.value_fits.specs.declared.fitted.Fitted.{Fitted}
use Rattle.call_arguments.specs.declared.aims.Aim.TheVariants as Aims
use Rattle.call_notes.specs.Ends.{fits_unless}
use Rattle.expression_forms.specs.Spots as Walked
use Rattle.expression_forms.specs.Spots.{Spot, named_spot, owes_itself, part_put, rewritten}
use Rattle.expression_forms.specs.Spots.{wrong_write}
use Rattle.expression_forms.specs.Ways.{part_fits}
use Rattle.expression_forms.specs.declared.ways.Reached.{Reached}
use Rattle.checked_meaning.specs.Items.{Item}
use Rattle.fitting_laws.specs.Fitting.{Said, Suffices}
use Rattle.fitting_laws.proofs.Deep.{fitting}
use Rattle.fitting_laws.proofs.Joining.{also_suffice, says_so}
use Rattle.value_laws.specs.Belonging.{Integers, Meant, is_of, standing}
use Rattle.value_laws.specs.Known.{Agree, Point}
use Rattle.value_laws.proofs.Steps.{same}
use Rattle.soundness_steps.specs.Points.{Later}
use Rattle.soundness_steps.proofs.Points.{agree_on, behind, later_on}
use Rattle.soundness_steps.specs.Works.{Scene, here}
use Rattle.soundness_steps.specs.States.{Sound}
use Rattle.soundness_steps.specs.Steps.{Grows}
use Rattle.soundness_steps.specs.Values.{Has, Is, IsMet, IsWanted}
use Rattle.soundness_forms.proofs.Basics.{has_on, is_on, met_on, wanted_on, wrong_walks}
use Rattle.soundness_forms.proofs.Leaves.{wrong_node}
use Rattle.soundness_forms.proofs.Leaving.{aimed_is}
use Rattle.soundness_parts.proofs.Taken.{z}
use Rattle.soundness_parts.proofs.Updates.{said_true}
use Rattle.soundness_targets.proofs.Behind.{at_means}
use Rattle.soundness_targets.proofs.PartGrows.{named_renews, part_write_grows}
use Rattle.soundness_targets.proofs.Modes.{Mode, front_then, left_of}
use Rattle.soundness_targets.proofs.Moments.{At, Front, at_last}
use Rattle.soundness_targets.proofs.PartWrites.{Current, NameFine, Seen, field_put, index_put, run_base, seen_on}
use Rattle.soundness_targets.proofs.Spots.{Is_at, WayThere, WayTo, way_on}
use Rattle.soundness_targets.proofs.TupleTypes.{Typed}
use Rattle.soundness_targets.proofs.TupleWrites.{Meets}

module _ (q : Scene) (w : World Item) {n : ℕ} (f : Point n) (base_at : Place) (b : ℕ) (name : List ℕ) (r : Reading) (rd : Run Item Item)
    (set : Item → Run Item Item) (named : NameFine q b r rd set f) (k : ℕ) (s : Suffix) where
  abbrev base : Spot
  base = named_spot (here q) base_at b name r

  abbrev pub base_run : Runs.Spot Item
  base_run = run_base q b rd (λ y. made (z q) b (y ∷ []) y.val then set) set

  abbrev pub spot_at : Indices → Option Reached → Spot
  spot_at held x = Walked.part_spot (here q) s.place k s.way base held x

  -- ---- what is known of the name's value, and where the ways lead

  pub record PartAt (v : Value) {m : ℕ} (g : Point m) (fs : List Fact) (sw : Spot) (sr : Runs.Spot Item) : Type 0 where
    pub later : Later f g
    pub earlier : List Fact
    pub front : Front earlier fs
    pub held : Indices
    pub reached : Option Reached
    pub ways : List Into
    pub seen_there : Seen q earlier b r g held v
    pub spot_is : sw ≡ spot_at held reached
    pub run_is : sr ≡ part_spot (z q) k base_run ways
    pub way : WayThere q g held v ways reached

  way_later : {m d : ℕ} {g : Point m} {h : Point d} (held : Indices) (v : Value) (ways : List Into) (x : Option Reached) → Later g h
      → WayThere q g held v ways x → WayThere q h held v ways x
  way_later held v ways None l e = tt
  way_later held v ways (Some x) l e = way_on q l e

  pub part_on : (v : Value) (m d : ℕ) (g : Point m) (h : Point d) (fs gs : List Fact) (sw : Spot) (sr : Runs.Spot Item) → Later g h → Front fs gs
      → PartAt v g fs sw sr → PartAt v h gs sw sr
  part_on v m d g h fs gs sw sr l e p = record {
    later = later_on p.later l;
    earlier = p.earlier;
    front = front_then p.earlier fs gs p.front e;
    held = p.held;
    reached = p.reached;
    ways = p.ways;
    seen_there = seen_on l p.seen_there;
    spot_is = p.spot_is;
    run_is = p.run_is;
    way = way_later p.held v p.ways p.reached l p.way;
  }

  pub typed_by : {m : ℕ} (g : Point m) (held : Indices) (v : Value) (ways : List Into) (x : Option Reached) → WayThere q g held v ways x
      → Typed q g (spot_at held x).typ
  typed_by g held v ways None h = (true, refl)
  typed_by g held v ways (Some x) h = (false, h.wanted)

  -- ---- its walk grows, and what it leaves hangs on no facts

  abbrev again : Indices → Walk Indices
  again held = rewritten base held

  pub grows_by : (held : Indices) (x : Option Reached) (nested : Bool) (i : Indices) → Grows ((spot_at held x).write nested i)
  grows_by held x nested i = (part_write_grows (here q) s.place k s.way base (named_renews (here q) base_at b name r) held x nested i).0

  wrong_left : (at : Place) (facts : List Fact) (m : ℕ) → (wrong_write at facts m).value.left ≡ says []
  unfolding bind give
  wrong_left at facts m = refl

  abbrev part_leaves : (owes : Bool) → Reached → Bool → Indices → ℕ → Fitted
  part_leaves true x nested i = says []
  part_leaves false x nested i = part_fits (here q) x nested i

  put_left : (owes : Bool) (held : Indices) (x : Reached) (nested : Bool) (i : Indices) (facts : List Fact) (m : ℕ)
      → (part_put (here q) s.place k owes x (again held) nested i facts m).value.left ≡ part_leaves owes x nested i
  unfolding bind give
  put_left true held x nested i facts m = refl
  put_left false held x nested i facts m = refl

  abbrev leaves : (x : Option Reached) → Bool → Indices → ℕ → Fitted
  leaves None nested i = says []
  leaves (Some x) nested i = part_leaves (owes_itself s.way) x nested i

  pub leaves_is : (held : Indices) (x : Option Reached) (nested : Bool) (i : Indices) (facts : List Fact) (m : ℕ)
      → ((spot_at held x).write nested i facts m).value.left ≡ leaves x nested i
  leaves_is held None nested i facts m = wrong_left s.place facts m
  leaves_is held (Some x) nested i facts m = put_left (owes_itself s.way) held x nested i facts m

  -- ---- what that says

  abbrev PartDue : (owes : Bool) → Reached → Item → Integers → Type 0
  PartDue true x u c = Unit {0}
  PartDue false x u c = Said (standing q.set.past c) x.conditions × (is_of q.set.around.types (standing q.set.past c) q.work.types x.typ u.val ≡ true)

  abbrev DueOf : Option Reached → Item → Integers → Type 0
  DueOf None u c = Unit {0}
  DueOf (Some x) u c = PartDue (owes_itself s.way) x u c

  -- that a part is there and that the value is of its type
  part_suffices : {m : ℕ} (g : Point m) (x : Reached) (j : Indices) (v : Value) → Has q.set q.work g j v → IsWanted q.set q.work g x.typ → (nested : Bool)
      → IsMet q.set q.work g (Aims.Given x.typ) nested v
      → Suffices q.set.past m g (part_fits (here q) x nested j m)
      (λ c. Said (standing q.set.past c) x.conditions × (is_of q.set.around.types (standing q.set.past c) q.work.types x.typ v ≡ true))
  part_suffices g x j v has_it wanted true met =
      also_suffice (fits_unless true (here q) j x.typ) (says_so x.conditions (λ c a s2. s2)) (λ p l. says_so [] (λ c a s2. met c (agree_on (behind l) a)))
  part_suffices {m} g x j v has_it wanted false met =
      also_suffice (fits_unless false (here q) j x.typ) (says_so x.conditions (λ c a s2. s2)) (λ p l.
      let there = has_on (behind l) has_it in
      let wants = wanted_on q.set q.work x.typ (behind l) wanted in
      fitting q.set.around.types q.set.past q.work.types j x.typ m p v wants.1 (λ c a. there.steady c a ∙ sym (there.steady p.integers (same p))) wants.0
      (ap (λ (y : Meant). y.holds v) (there.steady p.integers (same p)) ∙ there.is_so))

  part_says : {m : ℕ} (g : Point m) (owes : Bool) (x : Reached) (v : Value) (held : Indices) (ways : List Into) → WayTo q g held v ways x → (nested : Bool)
      (i : Indices) (u : Item) → Is q.set q.work g i u → IsMet q.set q.work g (Aims.Given x.typ) nested u.val → (d : ℕ) (p : Point d) → Later g p
      → Suffices q.set.past d p (part_leaves owes x nested i d) (λ c. PartDue owes x u c)
  part_says g true x v held ways way nested i u is met d p l = says_so [] (λ c a e. tt)
  part_says g false x v held ways way nested i u is met d p l =
      part_suffices p x i u.val (is_on l is).has (wanted_on q.set q.work x.typ l way.wanted) nested (met_on q.set q.work (Aims.Given x.typ) nested u.val l met)

  pub says_by : {m : ℕ} (g : Point m) (x : Option Reached) (v : Value) (held : Indices) (ways : List Into) → WayThere q g held v ways x → (nested : Bool)
      (i : Indices) (u : Item) → Meets q g (spot_at held x) nested i u → (d : ℕ) (p : Point d) → Later g p
      → Suffices q.set.past d p (leaves x nested i d) (λ c. DueOf x u c)
  says_by g None v held ways way nested i u meet d p l = says_so [] (λ c a e. tt)
  says_by g (Some x) v held ways way nested i u meet d p l =
      part_says g (owes_itself s.way) x v held ways way nested i u meet.0
      (subst (λ aim. IsMet q.set q.work g aim nested u.val) (aimed_is Aims.Given x.typ way.wanted.1) meet.1) d p l

  -- ---- it is written at a moment

  module _ (v : Value) {m : ℕ} (g : Point m) (fs earlier : List Fact) (held : Indices) (ways : List Into) (l : Later f g) (front : Front earlier fs)
      (sn : Seen q earlier b r g held v) (nested : Bool) (i : Indices) (u : Item) (there : Integers) (agree : Agree g there) (now : Now Item)
      (current : Current q b rd v now) (ok : Sound q now) where
    abbrev writes : Item → Run Item Item
    writes = (part_spot (z q) k base_run ways).write

    put_by : (owes : Bool) (x : Reached) → WayTo q g held v ways x → Is q.set q.work g i u → IsMet q.set q.work g (Aims.Given x.typ) nested u.val
        → PartDue owes x u there
        → At q m g fs (part_put (here q) s.place k owes x (again held) nested i) now.opened (writes u now) (λ d p a t. Unit {0})
    put_by true x way is met due =
        at_means (λ p t l2 e. tt) (index_put q s.place s.place k s.way base_at b name r held x nested i u earlier v ways rd
        (λ e. made (z q) b (e ∷ []) e.val then set) set now ok
        current sn front way is met (named.sets m g l))
    put_by false x way is met due =
        at_means (λ p t l2 e. tt) (field_put q s.place s.place k s.way base_at b name r held x nested i u earlier v ways rd
        (λ e. made (z q) b (e ∷ []) e.val then set) set now ok
        current sn front way is met (named.sets m g l)
        (record {
          there = there;
          agree = agree;
          met = said_true (standing q.set.past there) x.conditions due.0;
          belongs_to = λ c a.
              ap (belongs q.set.around.types u.val) (way.wanted.0 c a ∙ sym (way.wanted.0 there agree)) ∙ due.1;
        }))

    pub way_written : (x : Option Reached) → WayThere q g held v ways x → Meets q g (spot_at held x) nested i u → DueOf x u there
        → At q m g fs ((spot_at held x).write nested i) now.opened (writes u now) (λ d p a t. Unit {0})
    way_written None way meet due = at_last now (wrong_node Walked.gives (writes u) (wrong_walks s.place)) ok
    way_written (Some x) way meet due =
        put_by (owes_itself s.way) x way meet.0 (subst (λ aim. IsMet q.set q.work g aim nested u.val) (aimed_is Aims.Given x.typ way.wanted.1) meet.1) due

  pub part_due : (v : Value) (m d : ℕ) (g : Point m) (h : Point d) (fs gs : List Fact) (sw : Spot) (sr : Runs.Spot Item) (l : Later g h) (e : Front fs gs)
      (p : PartAt v g fs sw sr) (u : Item) (c : Integers) → DueOf p.reached u c → DueOf (part_on v m d g h fs gs sw sr l e p).reached u c
  unfolding part_on
  part_due v m d g h fs gs sw sr l e p u c due = due

  abbrev pub part_mode : Mode q f
  part_mode = record {
    V = Value;
    Ok = λ v. Is_at q f.integers r v;
    Current = λ v now. Current q b rd v now;
    first = named.first;
    Ready = λ v m g fs sw sr. PartAt v g fs sw sr;
    on = part_on;
    typed = λ v m g fs sw sr p. subst (λ (c : Spot). Typed q g c.typ) (sym p.spot_is) (typed_by g p.held v p.ways p.reached p.way);
    grows = λ v m g fs sw sr p nested i. subst (λ (c : Spot). Grows (c.write nested i)) (sym p.spot_is) (grows_by p.held p.reached nested i);
    left_same = λ v m g fs sw sr p nested i facts d.
        subst (λ (c : Spot). (c.write nested i facts d).value.left ≡ left_of c nested i) (sym p.spot_is)
        (leaves_is p.held p.reached nested i facts d ∙ sym (leaves_is p.held p.reached nested i [] 0));
    Due = λ v m g fs sw sr p nested i u c. DueOf p.reached u c;
    due_on = λ v m d g h fs gs sw sr l e p nested i u c due. part_due v m d g h fs gs sw sr l e p u c due;
    suffice = λ v m g fs sw sr p nested i u meet d c l.
        subst (λ (t : Spot). Suffices q.set.past d c (left_of t nested i d) (λ e. DueOf p.reached u e)) (sym p.spot_is)
        (subst (λ (left : ℕ → Fitted). Suffices q.set.past d c (left d) (λ e. DueOf p.reached u e)) (sym (leaves_is p.held p.reached nested i [] 0))
        (says_by g p.reached v p.held p.ways p.way nested i u (subst (λ (t : Spot). Meets q g t nested i u) p.spot_is meet) d c l));
    write = λ v m g fs sw sr p nested i u meet there agree due now current ok.
        subst (λ (t : Spot). At q m g fs (t.write nested i) now.opened (sr.write u now) (λ d c a x. Unit {0})) (sym p.spot_is)
        (subst (λ (t : Runs.Spot Item). At q m g fs ((spot_at p.held p.reached).write nested i) now.opened (t.write u now) (λ d c a x. Unit {0})) (sym p.run_is)
        (way_written v g fs p.earlier p.held p.ways p.later p.front p.seen_there nested i u there agree now current ok p.reached p.way
        (subst (λ (t : Spot). Meets q g t nested i u) p.spot_is meet) due));
  }
