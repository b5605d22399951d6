-- A builtin beside the walk of its call.
use Rattle.std.proofs.Common.{◌≡◌, ℕ, zero, suc, true, false, ◌||◌, List, [], ◌∷◌, map, slice_get, Option, Some, None, if◌then◌else◌}
use Rattle.std.proofs.Common.{refl, sym, ap, ◌∙◌, subst}
use Rattle.sail_base.specs.declared.place.Place.{Place}
use Rattle.sail_types.specs.declared.rows.Row.{Row}
use Rattle.sail_types.specs.declared.rows.Row.TheVariants as B
use Rattle.sail_types.specs.declared.values.Value.{Value}
use Rattle.model_state.specs.declared.state.Hart.{Hart}
use Rattle.sail_core.specs.Run as R
use Rattle.sail_core.specs.Run.{Now, Ended, row_run}
use Rattle.value_indices.specs.declared.indices.Indices.{Indices, out-Indices}
use Rattle.value_indices.specs.declared.indices.Indices.TheOpen as W
use Rattle.value_indices.specs.declared.indices.Indices.TheOpen.{Indices-F}
use Rattle.value_indices.specs.declared.indices.Reading.{Reading}
use Rattle.value_indices.specs.declared.notes.Fact.{Fact}
use Rattle.value_indices.specs.declared.notes.Made.{Made}
use Rattle.value_indices.specs.declared.notes.Made.TheVariants as Makes
use Rattle.value_indices.specs.Steps.{Note, goal_note, size_note, made_note, call_note, way_note, given_note, name_note, Walk}
use Rattle.call_notes.specs.Ends.{never_value, wrong_value}
use Rattle.call_notes.specs.Rows.{row_call}
use Rattle.checked_meaning.specs.Items.{Item}
use Rattle.checked_meaning.specs.Checked.{Noted}
use Rattle.value_laws.specs.Belonging.{Integers, Meant, standing, meant, each_holds}
use Rattle.value_laws.specs.Known.{Point, Agree, InForce, given_in}
use Rattle.value_laws.proofs.Basics.{two}
use Rattle.value_laws.proofs.Steps.{same}
use Rattle.row_laws.specs.Laws.{Ends, IsKnown, Stays, Widens}
use Rattle.row_laws.specs.Met as M
use Rattle.row_laws.proofs.Whole.{row_ends}
use Rattle.soundness_steps.specs.Works.{Scene, Setting, Work}
use Rattle.soundness_steps.specs.Noted.{EachNoted, IsSo}
use Rattle.soundness_steps.specs.Covers as C
use Rattle.soundness_steps.specs.States.{AllHarts, AllKept, AreRegisters, Sound, registers_of}
use Rattle.soundness_steps.specs.Steps.{AllMet, Beside, EndsWell, Stands, well_given, well_stopped}
use Rattle.soundness_steps.specs.Values.{AllHave, Has}
use Rattle.soundness_steps.proofs.Steps.{known_walk}
use Rattle.soundness_forms.proofs.Basics.{has_there, wrongs}
use Rattle.soundness_forms.proofs.Parts.{not_never}
use Rattle.soundness_values.specs.Widening.{WideningSuffices}

-- ---- registers that are as they were

abbrev registers : List Hart → List (List Value)
registers hs = map (λ h. h.registers) hs

abbrev AllRows : Setting → List (List Value) → Type 0
AllRows set [] = Unit {0}
AllRows set (vs ∷ rows) = AreRegisters set set.around.registers vs × AllRows set rows

abbrev row_or : Option (List Value) → List Value
row_or None = []
row_or (Some vs) = vs

to_rows : (set : Setting) (hs : List Hart) → AllHarts set hs → AllRows set (registers hs)
to_rows set [] h = tt
to_rows set (x ∷ hs) h = (h.0, to_rows set hs h.1)

from_rows : (set : Setting) (hs : List Hart) → AllRows set (registers hs) → AllHarts set hs
from_rows set [] h = tt
from_rows set (x ∷ hs) h = (h.0, from_rows set hs h.1)

row_at : (hs : List Hart) (k : ℕ) → registers_of (slice_get hs k) ≡ row_or (slice_get (registers hs) k)
row_at [] k = refl
row_at (x ∷ hs) zero = refl
row_at (x ∷ hs) (suc k) = row_at hs k

sound_after : (q : Scene) (before now : Now Item) → Stays before now → Sound q before → Sound q now
sound_after q before now s ok = record {
  state = record {
    harts = from_rows q.set now.state.harts (subst (AllRows q.set) (sym s.registers) (to_rows q.set before.state.harts ok.state.harts));
    at_work = subst (AreRegisters q.set q.set.around.registers)
        (row_at before.state.harts q.set.hart ∙ ap (λ rows. row_or (slice_get rows q.set.hart)) (sym s.registers) ∙ sym (row_at now.state.harts q.set.hart))
        ok.state.at_work;
  };
  names = subst (AllKept q.set.around.types q.names) (sym s.locals) ok.names;
}

-- ---- notes that are met

module _ (q : Scene) {n : ℕ} (f : Point n) (facts : List Fact) (noted : Noted) (stands : Stands q.set q.work noted f facts) where
  -- what is in force where as many numbers are noted
  so_there : (g : Integers) → Agree f g → (fs : List Fact) → given_in fs ≡ given_in facts → InForce q.set.past g fs → IsSo q.set.past q.work noted g fs
  so_there g a fs e force =
      let s = stands.there g a in
      record { numbers = s.numbers; true_there = force; given = subst (EachNoted noted g) (sym e) s.given }

  size_form : (g : Integers) (x : Indices-F Indices Reading) → C.FormFits q.set.past g x → M.FormFits (standing q.set.past g) x
  size_form g (W.Bits t) h = (h.1, h.2)
  size_form g (W.Vector t r) h = (h.1, h.2)
  size_form g W.Never h = tt
  size_form g W.Unit h = tt
  size_form g (W.Truth c) h = tt
  size_form g W.Bit h = tt
  size_form g (W.Integer t) h = tt
  size_form g W.String h = tt
  size_form g (W.List r) h = tt
  size_form g (W.Tuple is) h = tt
  size_form g (W.Named u is rs) h = tt
  size_form g (W.Variable i) h = tt

  size_fits : (g : Integers) (made : Made) → C.SizesFit q.set q.work g made → M.SizeFits (standing q.set.past g) made
  size_fits g (Makes.ByIndices i) h = size_form g (out-Indices i) h
  size_fits g (Makes.ByType r) h = tt

  one_met : (g : Integers) → Agree f g → (x : Note) → C.IsMet q.set q.work q.reached q.cases x → M.IsMet q.set.past (given_in facts) g x
  one_met g a (goal_note fs place goal) h = λ e force. h g force
  one_met g a (size_note fs place made) h = λ e force. size_fits g made (h g noted (so_there g a fs e force))
  one_met g a (made_note fs k is made) h = tt
  one_met g a (call_note fs place k is callee js qs) h = tt
  one_met g a (way_note fs d) h = tt
  one_met g a (given_note fs k i) h = tt
  one_met g a (name_note v name) h = tt

  all_met : (g : Integers) → Agree f g → (ns : List Note) → AllMet q ns → M.AllMet q.set.past (given_in facts) g ns
  all_met g a [] h = tt
  all_met g a (x ∷ ns) h = (one_met g a x h.0, all_met g a ns h.1)

-- ---- arguments that have their indices

abbrev Known : Setting → Work → {n : ℕ} → Point n → List Indices → List Value → Type 0
Known set work f is vs = (ms : List Meant) × ((g : Integers) → Agree f g → map (meant set.around.types (standing set.past g) work.types) is ≡ ms)
    × (each_holds ms vs ≡ true)

all_known : (set : Setting) (work : Work) {n : ℕ} (f : Point n) (is : List Indices) (vs : List Value) → AllHave set work f is vs → Known set work f is vs
all_known set work f [] [] h = ([], λ g a. refl, refl)
all_known set work f [] (v ∷ vs) h = absurd h
all_known set work f (i ∷ is) [] h = absurd h
all_known set work f (i ∷ is) (v ∷ vs) h =
    let more = all_known set work f is vs h.1 in
    (h.0.meaning ∷ more.0, λ g a. λ j. h.0.steady g a j ∷ more.1 g a j, two (h.0.meaning.holds v) (each_holds more.0 vs) h.0.is_so more.2)

-- ---- the run

module _ (q : Scene) {n : ℕ} {f : Point n} {facts : List Fact} (walk : Walk Indices) (before : Now Item)
    (stands : Stands q.set q.work before.opened f facts) (met : AllMet q (walk facts n).notes) (ok : Sound q before) where
  ends_well : (e : Ended Item Value) → Ends (IsKnown q.set.around.types q.set.past q.work.types n f facts walk) before e
      → EndsWell q f (walk facts n).next (walk facts n).facts (λ p v. Has q.set q.work p (walk facts n).value v) e
  ends_well (R.Gives v now) h =
      let r = (known_walk {q = q} h.0.2).go now.opened
      (subst (λ o. Stands q.set q.work o f facts) (sym h.1.opened) stands) met in
      well_given v now (record {
        point = r.point;
        later = r.later;
        stands = r.stands;
        holds = record { meaning = h.0.0; is_so = h.0.1; steady = r.holds };
      }) (sound_after q before now h.1 ok)
  ends_well (R.Stops cause now) h = well_stopped cause now
  ends_well (R.No now) h = absurd h
  ends_well (R.Returns v now) h = absurd h
  ends_well (R.Throws v now) h = absurd h
  ends_well R.Stuck h = absurd h

-- a builtin, where what it is asked of the second argument is so
widened_beside : (q : Scene) {n : ℕ} {f : Point n} {facts : List Fact} (place : Place) (row : Row) (hart : ℕ) (is : List Indices) (vs : List Value)
    → AllHave q.set q.work f is vs → Widens row q.set.around.types q.set.past q.work.types f is vs
    → Beside q n f facts (row_call q.set.around.types place row is) (row_run row hart vs) (λ m g i v. Has q.set q.work g i v)
widened_beside q {n} {f} {facts} place row hart is vs h widens = record {
  run = λ now stands met ok.
      let k = all_known q.set q.work f is vs h in
      let walk = row_call q.set.around.types place row is in
      ends_well q walk now stands met ok (row_run row hart vs now)
      (row_ends q.set.around.types q.set.past q.work.types place f facts is vs hart now row (record { meanings = k.0; steady = k.1; held = k.2 }) widens
      (λ g a. (stands.there g a).true_there) (λ g a. all_met q f facts now.opened stands g a (walk facts n).notes met));
}

-- a vector is made of an integer and a value, and of no other arguments
filled_beside : WideningSuffices → (q : Scene) {n : ℕ} {f : Point n} {facts : List Fact} (place : Place) (hart : ℕ) (is : List Indices) (vs : List Value)
    → AllHave q.set q.work f is vs
    → Beside q n f facts (row_call q.set.around.types place B.VectorInit is) (row_run B.VectorInit hart vs) (λ m g i v. Has q.set q.work g i v)
filled_beside wide q place hart [] vs h = wrongs place (row_run B.VectorInit hart vs)
filled_beside wide q {n} {f} {facts} place hart (i ∷ []) (v ∷ []) h =
    subst (λ w. Beside q n f facts w (row_run B.VectorInit hart (v ∷ [])) (λ m g j u. Has q.set q.work g j u))
    (sym (ap (λ b. if (b || false) then never_value else wrong_value place) (not_never q.set q.work i v h.0)))
    (wrongs place (row_run B.VectorInit hart (v ∷ [])))
filled_beside wide q place hart (i ∷ []) [] h = absurd h
filled_beside wide q place hart (i ∷ []) (v ∷ u ∷ vs) h = absurd h.1
filled_beside wide q {f} place hart (i ∷ j ∷ is) (v ∷ u ∷ vs) h =
    widened_beside q place B.VectorInit hart (i ∷ j ∷ is) (v ∷ u ∷ vs) h
    (wide q.set.around.types q.set.past q.work.types f.integers j u (has_there h.1.0 f.integers (same f)))
filled_beside wide q place hart (i ∷ j ∷ is) [] h = absurd h
filled_beside wide q place hart (i ∷ j ∷ is) (v ∷ []) h = absurd h.1

pub row_beside : WideningSuffices → (q : Scene) {n : ℕ} {f : Point n} {facts : List Fact} (place : Place) (row : Row) (hart : ℕ) (is : List Indices)
    (vs : List Value) → AllHave q.set q.work f is vs
    → Beside q n f facts (row_call q.set.around.types place row is) (row_run row hart vs) (λ m g i v. Has q.set q.work g i v)
row_beside wide q place B.VectorInit hart is vs h = filled_beside wide q place hart is vs h
row_beside wide q place row hart is vs h = widened_beside q place row hart is vs h tt
