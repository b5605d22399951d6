-- A value with another part beside its run: what is put there belongs to the part's type, and the value has its indices as before.
use Rattle.std.proofs.Common.{◌≡◌, ◌∙◌, ℕ, Bool, true, false, ◌||◌, List, [], ◌∷◌, ◌++◌, if◌then◌else◌, Some, None, option_map, refl, sym, ap, subst}
use Rattle.std.specs.List.{list_all}
use Rattle.std.specs.Prelude.{map, unwrap_or}
use Rattle.sail_base.specs.declared.place.Place.{Place}
use Rattle.sail_types.specs.Numbers.{Assignment, true_in}
use Rattle.sail_types.specs.Readings.{more, together}
use Rattle.sail_types.specs.declared.numbers.Con.{Con}
use Rattle.sail_types.specs.declared.numbers.Con.TheVariants as C
use Rattle.sail_types.specs.declared.values.Value.{Value}
use Rattle.sail_core.specs.Making.{World}
use Rattle.sail_core.specs.Run.{Run, goes_on, needs, ◌then◌}
use Rattle.sail_core.specs.Values.{Into}
use Rattle.value_indices.specs.Steps.{Conditions, bind, give}
use Rattle.value_indices.specs.declared.indices.Indices.{Indices, out-Indices}
use Rattle.value_indices.specs.declared.notes.Fact.{Fact}
use Rattle.pattern_leaves.specs.Settings.{Scope}
use Rattle.call_arguments.specs.Aims.{aimed}
use Rattle.call_arguments.specs.Holes.{has_hole}
use Rattle.call_arguments.specs.declared.aims.Aim.TheVariants as Aims
use Rattle.call_notes.specs.Ends.{fits_unless}
use Rattle.call_notes.specs.Noted.{node_ended}
use Rattle.expression_forms.specs.Ways.{indexed, owe_part, part_fits, update_operands}
use Rattle.expression_forms.specs.declared.ways.Reached.{Reached}
use Rattle.expression_steps.specs.Filling.{part_holed, put_aim, put_ended}
use Rattle.expression_steps.specs.Parts.{Part}
use Rattle.expression_steps.specs.Values.{part_updated}
use Rattle.checked_meaning.specs.Items.{Item}
use Rattle.value_laws.specs.Belonging.{Integers, Meant, is_of, standing}
use Rattle.value_laws.specs.Known.{AllTrue, Point, Agree}
use Rattle.value_laws.proofs.Basics.{two}
use Rattle.value_laws.proofs.Steps.{same}
use Rattle.fitting_laws.specs.Fitting.{Said, Suffices}
use Rattle.fitting_laws.proofs.Deep.{fitting}
use Rattle.fitting_laws.proofs.Joining.{also_suffice, says_so, true_all}
use Rattle.way_laws.specs.Laws.{AreTrue, HasPart}
use Rattle.soundness_steps.specs.Points.{Later}
use Rattle.soundness_steps.proofs.Points as Points
use Rattle.soundness_steps.proofs.Points.{agree_on}
use Rattle.soundness_steps.specs.Works.{Scene, here}
use Rattle.soundness_steps.specs.Steps.{Beside, Walks}
use Rattle.soundness_steps.specs.Values.{AllTyped, Comes, Has, Is, IsMet, IsWanted}
use Rattle.soundness_steps.proofs.Steps.{binds, given_back, runs_as, walks_on, walks_then}
use Rattle.soundness_forms.specs.Forms.{Fine}
use Rattle.soundness_forms.specs.Worlds.{Surrounds}
use Rattle.soundness_forms.proofs.Basics.{has_on, is_on, wanted_on}
use Rattle.soundness_forms.proofs.Casts.{comes_is, no_guard}
use Rattle.soundness_forms.proofs.Leaving.{aimed_is}
use Rattle.soundness_forms.proofs.Nodes.{node_ends, typed_on}
use Rattle.soundness_fits.proofs.Owing.{suffices_walks}
use Rattle.soundness_parts.proofs.Taken.{HasThere, z}

-- ---- what is said is true

all_true : (mu : Assignment) (cs : List Con) → AllTrue mu cs → list_all (λ b. b) (map (true_in mu) cs) ≡ true
all_true mu [] h = refl
all_true mu (c ∷ cs) h = two (true_in mu c) (list_all (λ b. b) (map (true_in mu) cs)) h.0 (all_true mu cs h.1)

said_together : (mu : Assignment) (cs : Conditions) → Said mu cs → (ds : List Con) × (together cs ≡ Some ds) × AllTrue mu ds
said_together mu [] h = ([], refl, tt)
said_together mu (None ∷ cs) h = absurd h
said_together mu (Some c ∷ cs) h =
    let rest = said_together mu cs h.1 in
    (c ∷ rest.0, ap (more (Some c)) rest.1, (h.0, rest.2))

pub said_true : (mu : Assignment) (cs : Conditions) → Said mu cs → AreTrue mu cs
said_true mu cs h =
    let k = said_together mu cs h in
    ap (λ o. true_in mu (unwrap_or (option_map C.All o) (C.Truth false))) k.1 ∙ (true_all mu k.0 ∙ all_true mu k.0 k.2)

-- ---- operands

typed_both : (q : Scene) {n : ℕ} (f : Point n) (is js : List Indices) (xs ys : List Item) → AllTyped q.set q.work f is xs → AllTyped q.set q.work f js ys
    → AllTyped q.set q.work f (is ++ js) (xs ++ ys)
typed_both q f [] js [] ys h k = k
typed_both q f (i ∷ is) js (x ∷ xs) ys h k = (h.0, typed_both q f is js xs ys h.1 k)
typed_both q f [] js (x ∷ xs) ys h k = absurd h
typed_both q f (i ∷ is) js [] ys h k = absurd h

-- ---- what is owed of a new part

module _ (q : Scene) {n : ℕ} {f : Point n} (r : Reached) (j : Indices) (v : Value) (has : Has q.set q.work f j v) (wanted : IsWanted q.set q.work f r.typ) where
  abbrev Fits : Integers → Type 0
  Fits g = Said (standing q.set.past g) r.conditions × (is_of q.set.around.types (standing q.set.past g) q.work.types r.typ v ≡ true)

  part_suffices : (nested : Bool) → IsMet q.set q.work f (Aims.Given r.typ) nested v → Suffices q.set.past n f (part_fits (here q) r nested j n) Fits
  part_suffices true met =
      also_suffice (fits_unless true (here q) j r.typ) (says_so r.conditions (λ g a s. s)) (λ g l. says_so [] (λ c a s. met c (agree_on (Points.behind l) a)))
  part_suffices false met =
      also_suffice (fits_unless false (here q) j r.typ) (says_so r.conditions (λ g a s. s)) (λ g l.
      let there = has_on (Points.behind l) has in
      let wants = wanted_on q.set q.work r.typ (Points.behind l) wanted in
      fitting q.set.around.types q.set.past q.work.types j r.typ n g v wants.1 (λ c a. there.steady c a ∙ sym (there.steady g.integers (same g))) wants.0
      (ap (λ (m : Meant). m.holds v) (there.steady g.integers (same g)) ∙ there.is_so))

  pub part_owed_fits : {facts : List Fact} (place : Place) (nested : Bool) → IsMet q.set q.work f (Aims.Given r.typ) nested v
      → Walks q n f facts (owe_part (here q) place r nested j) (λ m p t. (g : Integers) → Agree p g → Fits g)
  part_owed_fits place nested met = suffices_walks {q = q} place (part_fits (here q) r nested j) (part_suffices nested met)

-- ---- the value with it

module _ (q : Scene) {n : ℕ} {f : Point n} (place : Place) (k : ℕ) (i : Indices) (x : Item) (h : Is q.set q.work f i x) (r : Reached) (way : Into) (xs : List Item)
    (typed : AllTyped q.set q.work f (indexed r) xs) (part : HasThere q f i x.val r way) (wanted : IsWanted q.set q.work f r.typ) where
  abbrev pub put_run : Item → Run Item Item
  put_run new = needs (way.put_in x.val new.val) then λ v. (z q).make k (x ∷ xs ++ new ∷ []) v

  abbrev FitsThere : {m : ℕ} → Point m → Item → Type 0
  FitsThere g new = (c : Integers) → Agree g c
      → Said (standing q.set.past c) r.conditions × (is_of q.set.around.types (standing q.set.past c) q.work.types r.typ new.val ≡ true)

  put_fine : {facts : List Fact} (nested : Bool) (j : Indices) (new : Item) → Is q.set q.work f j new → IsMet q.set q.work f (Aims.Given r.typ) nested new.val
      → Beside q n f facts (put_ended (here q) place k nested i r j) (put_run new) (λ m g u y. Is q.set q.work g u y)
  put_fine {facts} nested j new is_new met =
      walks_then (node_ended k (update_operands i r j))
      (behind (has_hole r.typ) wanted.1) (λ m g fs u l e.
      subst (λ w. Beside q m g fs (node_ended k (update_operands i r j) w) (put_run new) (λ d p v y. Is q.set q.work p v y)) (sym e.0) (ends m g fs l e.1))
    where
      behind : (b : Bool) → b ≡ false
          → Walks q n f facts (bind (owe_part (here q) place r (b || nested) j) (λ t.
          if b then part_holed (here q) place i r.typ j (out-Indices i) else give i))
          (λ d p u. (u ≡ i) × FitsThere p new)
      behind true e = absurd (cc)
      behind false e =
          walks_on (λ t. give i) (part_owed_fits q r j new.val is_new.has wanted place nested met) (λ m g fs t l s. given_back i (refl, s))

      ends : (m : ℕ) (g : Point m) (fs : List Fact) → Later f g → FitsThere g new
          → Beside q m g fs (node_ended k (update_operands i r j) i) (put_run new) (λ d p v y. Is q.set q.work p v y)
      ends m g fs l s =
          let there : HasPart q.set.around.types (standing q.set.past g.integers) q.work.types i x.val r.typ way =
          part g.integers (agree_on l (same g)) (said_true (standing q.set.past g.integers) r.conditions (s g.integers (same g)).0) in
          let other = there.replaced new.val (s g.integers (same g)).1 in
          let kept = has_on l h.has in
          runs_as (λ now. ap (λ o. goes_on (needs o now) (λ v. (z q).make k (x ∷ xs ++ new ∷ []) v)) (sym other.is_there))
          (node_ends k (update_operands i r j) i (x ∷ xs ++ new ∷ []) other.whole (
            (λ exact c a. h.typ exact c (agree_on l a)),
            typed_both q g (indexed r) (j ∷ []) xs (new ∷ []) (typed_on q.set q.work (indexed r) xs l typed)
                ((λ exact c a. is_new.typ exact c (agree_on l a)), tt),
          ) (record {
            meaning = kept.meaning;
            is_so = ap (λ (b : Meant). b.holds other.whole) (sym (kept.steady g.integers (same g))) ∙ other.is_so;
            steady = kept.steady;
          }))

module _ (q : Scene) (w : World Item) (scope : Scope) (c : Part) (rc : Run Item Item) (fine : Fine q w false false c rc) where
  -- a part is put in, of which its type is wanted
  pub update_fine : {n : ℕ} {f : Point n} {facts : List Fact} (place : Place) (k : ℕ) (i : Indices) (x : Item) → Is q.set q.work f i x → (r : Reached) (way : Into)
      (xs : List Item) → AllTyped q.set q.work f (indexed r) xs → HasThere q f i x.val r way → IsWanted q.set q.work f r.typ → Surrounds q w f scope
      → Beside q n f facts (part_updated place k c (here q) scope i r)
      (rc then λ new. needs (way.put_in x.val new.val) then λ v. (z q).make k (x ∷ xs ++ new ∷ []) v) (λ m g u y. Is q.set q.work g u y)
  update_fine {n} {f} {facts} place k i x h r way xs typed part wanted there =
      let aim_is : put_aim r.typ ≡ Aims.Given r.typ = ap (λ b. if b then Aims.Free else aimed Aims.Given r.typ) wanted.1 ∙ aimed_is Aims.Given r.typ wanted.1 in
      binds (put_ended (here q) place k c.is_nested i r) (λ new. needs (way.put_in x.val new.val) then λ v. (z q).make k (x ∷ xs ++ new ∷ []) v)
      (subst (λ aim. Beside q n f facts (c.walk (here q) scope aim) rc (λ m g j y. Comes q.set q.work g false c.is_nested c.never_ends (Aims.Given r.typ) j y))
      (sym aim_is) (fine.walks q.names q.may_fall no_guard n f facts scope (Aims.Given r.typ) there wanted)) (λ m g fs j new l e.
      put_fine q place k i x (is_on l h) r way xs (typed_on q.set q.work (indexed r) xs l typed) (λ d a met. part d (agree_on l a) met)
      (wanted_on q.set q.work r.typ l wanted) c.is_nested j new (comes_is c.is_nested c.never_ends (Aims.Given r.typ) j new e) e.met)
