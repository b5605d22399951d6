-- Values that come to a type: where one is written, and where one is wanted.
use Rattle.std.proofs.Common.{◌≡◌, ℕ, Bool, true, false, List, [], ◌∷◌, Some, None, if◌then◌else◌, sym, subst}
use Rattle.sail_base.specs.declared.place.Place.{Place}
use Rattle.sail_types.specs.declared.values.Value.{Value}
use Rattle.sail_core.specs.Run.{Run, ◌then◌}
use Rattle.sail_core.specs.Making.{World}
use Rattle.sail_core.specs.Meaning.{kind_meaning}
use Rattle.sail_core.specs.declared.tree.Kind.TheVariants as K
use Rattle.sail_core.specs.declared.written.Written.{Written}
use Rattle.value_indices.specs.declared.indices.Indices.{Indices}
use Rattle.value_indices.specs.declared.indices.Reading.{Reading}
use Rattle.value_indices.specs.declared.notes.Fact.{Fact}
use Rattle.value_indices.specs.Steps.{give}
use Rattle.pattern_leaves.specs.Settings.{Scope, written_in}
use Rattle.call_arguments.specs.Aims.{aimed, is_hole}
use Rattle.call_arguments.specs.declared.aims.Aim.{Aim}
use Rattle.call_arguments.specs.declared.aims.Aim.TheVariants as Aims
use Rattle.call_notes.specs.Calls.{part_owed}
use Rattle.call_notes.specs.Noted.{node_ended}
use Rattle.expression_forms.specs.Nodes.{cast_ended, made_for, owed_type}
use Rattle.expression_steps.specs.Expressions.{kind_walk, written_ended}
use Rattle.expression_steps.specs.Parts.{Part}
use Rattle.checked_meaning.specs.Items.{Item}
use Rattle.checked_meaning.specs.Checked.{checked}
use Rattle.value_laws.specs.Belonging.{Integers}
use Rattle.value_laws.specs.Known.{Point, Agree}
use Rattle.soundness_steps.specs.Works.{Scene, Setting, Work, here}
use Rattle.soundness_steps.specs.Noted.{is_made}
use Rattle.soundness_steps.specs.Steps.{Beside, Walks}
use Rattle.soundness_steps.specs.Values.{Has, Is, IsWanted, IsMadeAs, IsMet, AimSteady, Comes, cast_made}
use Rattle.soundness_steps.proofs.Steps.{binds, walks_then, walks_on, walks_mean, given_back, makes}
use Rattle.soundness_forms.specs.Forms.{FitsSuffice, Fine}
use Rattle.soundness_forms.specs.Worlds.{Surrounds}
use Rattle.soundness_forms.proofs.Basics.{has_on, has_there, is_on, met_on, then_walks, wanted_on}
use Rattle.soundness_forms.proofs.Nodes.{ends_node, node_ends, settled_node}
use Rattle.soundness_forms.proofs.Written.{exponents_any, written_wanted}

-- a part that is no guard
pub no_guard : {falls : Bool} → false ≡ true → falls ≡ true
no_guard h = absurd (cc)

-- what a part that is no such cast comes to is of the type of its indices
pub comes_is : {set : Setting} {work : Work} {n : ℕ} {f : Point n} (nested never_ends : Bool) (aim : Aim) (i : Indices) (x : Item)
    → Comes set work f false nested never_ends aim i x → Is set work f i x
comes_is nested never_ends Aims.Free i x h = record { has = h.has; typ = h.typ }
comes_is nested never_ends (Aims.Given r) i x h = record { has = h.has; typ = h.typ }
comes_is nested never_ends (Aims.PartOf r) i x h = record { has = h.has; typ = h.typ }
comes_is nested never_ends (Aims.Due r) i x h = record { has = h.has; typ = h.typ }

-- where nothing is wanted, a cast too
pub free_is : {set : Setting} {work : Work} {n : ℕ} {f : Point n} (cast nested never_ends : Bool) (i : Indices) (x : Item)
    → Comes set work f cast nested never_ends Aims.Free i x → Is set work f i x
free_is true nested never_ends i x h = record { has = h.has; typ = h.typ }
free_is false nested never_ends i x h = record { has = h.has; typ = h.typ }

-- ---- a type that is wanted, where one without a hole is

pub aimed_given : (set : Setting) (work : Work) {n : ℕ} (f : Point n) (r : Reading) → IsWanted set work f r → AimSteady set work f (aimed Aims.Given r)
aimed_given set work f r h = by (is_hole r)
  where
    by : (b : Bool) → AimSteady set work f (if b then Aims.Free else Aims.Given r)
    by true = tt
    by false = h

pub aimed_due : (set : Setting) (work : Work) {n : ℕ} (f : Point n) (r : Reading) → IsWanted set work f r → AimSteady set work f (aimed Aims.Due r)
aimed_due set work f r h = by (is_hole r)
  where
    by : (b : Bool) → AimSteady set work f (if b then Aims.Free else Aims.Due r)
    by true = tt
    by false = h

-- what is owed of a part, unless it owes that itself
pub part_owes : FitsSuffice → {q : Scene} {n : ℕ} {f : Point n} {facts : List Fact} (nested : Bool) (place : Place) (i : Indices) (r : Reading) (v : Value)
    → Has q.set q.work f i v → IsWanted q.set q.work f r → Walks q n f facts (part_owed (here q) nested place i r) (λ m g t. Unit {0})
part_owes fit true place i r v h st = given_back tt tt
part_owes fit {q} {n} {f} {facts} false place i r v h st = walks_mean (λ m g t b. tt) (fit q n f facts place i r v h st)

module _ (fit : FitsSuffice) (q : Scene) (w : World Item) {n : ℕ} (f : Point n) (facts : List Fact) (scope : Scope) (place : Place) (k : ℕ)
    (there : Surrounds q w f scope) where
  -- ---- `e : T`

  pub written_fine : (t : Written) (aim : Aim) → AimSteady q.set q.work f aim → (p : Part) (r : Run Item Item) → Fine q w false false p r
      → Beside q n f facts (kind_walk place k (K.Cast (Some t)) (p ∷ []) (here q) scope aim)
      (kind_meaning (checked q.set.around.types q.cases) w place k (K.Cast (Some t)) (r ∷ []))
      (λ m g i x. Comes q.set q.work g false false false aim i x)
  written_fine t aim st p r h =
      let wanted = written_wanted q w f t.typ q.numbers w.numbers there.numbers in
      settled_node fit place k aim r (λ x. x ∷ []) (λ x. x.val) st
      (binds (written_ended (here q) place k t p.is_nested) (λ x. (checked q.set.around.types q.cases).make k (x ∷ []) x.val)
      (h.walks q.names q.may_fall no_guard n f facts scope (aimed Aims.Given (written_in (here q) t)) there
      (aimed_given q.set q.work f (written_in (here q) t) wanted))
      (λ m g fs i x l c. let e = comes_is p.is_nested p.never_ends (aimed Aims.Given (written_in (here q) t)) i x c in
      walks_then (λ u. node_ended k (i ∷ []) i)
      (walks_on (λ u. part_owed (here q) p.is_nested place i (written_in (here q) t)) (exponents_any t.numbers) (λ m2 g2 fs2 u l2 b.
      part_owes fit p.is_nested place i (written_in (here q) t) x.val (has_on l2 e.has)
      (wanted_on q.set q.work (written_in (here q) t) l2 (wanted_on q.set q.work (written_in (here q) t) l wanted))))
      (λ m2 g2 fs2 u l2 b. let d = is_on l2 e in node_ends k (i ∷ []) i (x ∷ []) x.val (d.typ, tt) d.has)))

  -- ---- where a value comes to what is wanted of it

  cast_kept : {m : ℕ} {g : Point m} {fs : List Fact} (nested never_ends : Bool) (aim : Aim) (i : Indices) (x : Item)
      → Comes q.set q.work g false nested never_ends aim i x
      → Beside q m g fs (cast_ended k aim i) ((checked q.set.around.types q.cases).make k (x ∷ []) x.val)
      (λ j p d y. Comes q.set q.work p true nested never_ends aim d y)
  cast_kept {m} {g} nested never_ends aim i x c =
      let e = comes_is nested never_ends aim i x c in
      then_walks (λ t. give i) (makes k (i ∷ []) (made_for (owed_type aim) i) (x ∷ []) x.val (e.typ, tt) (right aim c)) (λ j p gs t y l h.
      given_back i (record {
        has = subst (Has q.set q.work p i) (sym h.0) (has_on l e.has);
        typ = as_cast aim y (subst (λ v. IsMadeAs q.set q.work p (made_for (owed_type aim) i) v y.typ) (sym h.0) h.1);
        met = subst (λ v. IsMet q.set q.work p aim nested v) (sym h.0) (met_on q.set q.work aim nested x.val l c.met);
        ends = c.ends;
      }))
    where
      right : (aim : Aim) → Comes q.set q.work g false nested never_ends aim i x → (h : Integers) → Agree g h
          → is_made q.set.around.types q.set.past q.work h (made_for (owed_type aim) i) x.val ≡ true
      right Aims.Free c = has_there c.has
      right (Aims.Given r) c = has_there c.has
      right (Aims.PartOf r) c = has_there c.has
      right (Aims.Due r) c = c.met

      as_cast : {j : ℕ} {p : Point j} (aim : Aim) (y : Item) → IsMadeAs q.set q.work p (made_for (owed_type aim) i) y.val y.typ
          → IsMadeAs q.set q.work p (cast_made q.set q.work p true aim i) y.val y.typ
      as_cast Aims.Free y h = h
      as_cast (Aims.Given r) y h = h
      as_cast (Aims.PartOf r) y h = h
      as_cast (Aims.Due r) y h = h

  pub cast_fine : (aim : Aim) → AimSteady q.set q.work f aim → (p : Part) (r : Run Item Item) → Fine q w false false p r
      → Beside q n f facts (kind_walk place k (K.Cast None) (p ∷ []) (here q) scope aim)
      (kind_meaning (checked q.set.around.types q.cases) w place k (K.Cast None) (r ∷ []))
      (λ m g i x. Comes q.set q.work g true p.is_nested p.never_ends aim i x)
  cast_fine aim st p r h =
      ends_node k r (λ x. x ∷ []) (λ x. x.val) true p.is_nested p.never_ends aim
      (binds (cast_ended k aim) (λ x. (checked q.set.around.types q.cases).make k (x ∷ []) x.val)
      (h.walks q.names q.may_fall no_guard n f facts scope aim there st)
      (λ m g fs i x l c. cast_kept p.is_nested p.never_ends aim i x c))
