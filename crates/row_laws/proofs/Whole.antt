-- The law of all builtins.
use Rattle.std.proofs.Common.{◌≡◌, ℕ, Bool, true, false, ◌||◌, List, [], ◌∷◌, map, ap, sym, ◌∙◌, refl, subst, Some, if◌then◌else◌}
use Rattle.std.proofs.lemmas.Bool.{and_parts}
use Rattle.sail_base.specs.declared.place.Place.{Place}
use Rattle.sail_types.specs.Belongs.{Reading as Closed}
use Rattle.sail_types.specs.Numbers.{Assignment, Positive}
use Rattle.sail_types.specs.declared.numbers.Con.TheVariants as C
use Rattle.sail_types.specs.declared.rows.Row.{Row}
use Rattle.sail_types.specs.declared.rows.Row.TheVariants as R
use Rattle.sail_types.specs.declared.table.Types.{Types}
use Rattle.sail_types.specs.declared.values.Value.{Value}
use Rattle.sail_core.specs.Run.{Now, row_run}
use Rattle.value_indices.specs.declared.indices.Indices.{Indices, out-Indices}
use Rattle.value_indices.specs.declared.indices.Indices.TheOpen as W
use Rattle.value_indices.specs.declared.notes.Fact.{Fact}
use Rattle.value_indices.specs.Steps.{Walk, bind, goals_under, owe}
use Rattle.value_laws.specs.Belonging.{Integers, standing, meant, has, each_holds, indices_hold}
use Rattle.value_laws.specs.Known.{Point, Agree, InForce, given_in}
use Rattle.value_laws.proofs.Basics.{no}
use Rattle.value_laws.proofs.Numbers.{truth_is}
use Rattle.value_laws.proofs.Steps.{same}
use Rattle.value_laws.proofs.Values.{meanings}
use Rattle.call_notes.specs.Ends.{is_never, is_never_form, any_never, never_value, wrong_value}
use Rattle.call_notes.specs.Rows.{row_call, taken_call}
use Rattle.call_notes.specs.Taken.{Form, takes}
use Rattle.row_laws.specs.Laws.{HaveIndices, Widens, Ends, IsKnown, RowsAreSound}
use Rattle.row_laws.specs.Met.{AllMet}
use Rattle.row_laws.proofs.Filled.{filled_ends}
use Rattle.row_laws.proofs.Forms.{held}
use Rattle.row_laws.proofs.Goals.{goal_said, met_front}
use Rattle.row_laws.proofs.Members.{is_filling, member_of, all_suit, few_params, row_plain}
use Rattle.row_laws.proofs.Room.{Here}
use Rattle.row_laws.proofs.Taken.{taken_ends}

-- ---- what has a value isn't that of what never ends

module _ (types : Types) (mu : Assignment) (own : List Closed) where
  form_ends : (x : Form) (v : Value) → indices_hold types mu own (meanings types mu own x) v ≡ true → is_never_form x ≡ false
  form_ends W.Never v h = no h
  form_ends x v h = refl

  neither : (a b : Bool) → a ≡ false → b ≡ false → (a || b) ≡ false
  neither a b h k = ap (λ x. x || b) h ∙ k

  all_end : (is : List Indices) (vs : List Value) → each_holds (map (meant types mu own) is) vs ≡ true → any_never is ≡ false
  all_end [] vs h = refl
  all_end (i ∷ is) [] h = no h
  all_end (i ∷ is) (v ∷ vs) h =
      let p = and_parts (has types mu own i v) (each_holds (map (meant types mu own) is) vs) h in
      neither (is_never i) (any_never is) (form_ends (out-Indices i) v (held types mu own i v p.0)) (all_end is vs p.1)

-- a builtin is the one that fills a vector, or another
by_filling : {A : Type 0} (r : Row) → (is_filling r ≡ false → A) → (r ≡ R.VectorInit → A) → A
by_filling R.VectorInit other one = one refl
by_filling r other one = other refl

module _ {X : Type 0} (types : Types) (past : Positive) (own : List Closed) (place : Place) {n : ℕ} (f : Point n) (facts : List Fact)
    (is : List Indices) (vs : List Value) (hart : ℕ) (now : Now X) where
  -- the end of the run beside a walk
  abbrev EndsBeside : Row → Walk Indices → Type 0
  EndsBeside r walk = Here past n f facts walk → Ends (IsKnown types past own n f facts walk) now (row_run r hart vs now)

  filling : (r : Row) → r ≡ R.VectorInit → takes types r is ≡ true → HaveIndices types past own f is vs → Widens r types past own f is vs
      → EndsBeside r (taken_call place r is)
  filling r e =
      subst (λ q. takes types q is ≡ true → HaveIndices types past own f is vs → Widens q types past own f is vs → EndsBeside q (taken_call place q is)) (sym e)
      (λ h have widens here. filled_ends types past own place f facts is vs h have widens here hart now)

  another : (r : Row) → is_filling r ≡ false → takes types r is ≡ true → HaveIndices types past own f is vs → EndsBeside r (taken_call place r is)
  another r one h have here =
      let m = member_of types r is h in
      taken_ends types past own place f facts r is vs m.0 (row_plain types r m.0 one m.1) (all_suit types m.0.params is m.2)
      (few_params types m.0.params is m.2) have here one m.1 hart now

  taken : (r : Row) → takes types r is ≡ true → HaveIndices types past own f is vs → Widens r types past own f is vs → EndsBeside r (taken_call place r is)
  taken r h have widens here =
      by_filling r (λ one. another r one h have here) (λ e. filling r e h have widens here)

  -- what is false isn't met
  untaken : (r : Row) → EndsBeside r (wrong_value place)
  unfolding bind owe
  untaken r here =
      let g = f.integers in
      let a = same f in
      let said = goal_said past g facts place (Some (C.Truth false) ∷ [])
      (met_front past (given_in facts) g (goals_under facts place (Some (C.Truth false) ∷ [])) _ (here.met g a)) (here.force g a) in
      no (sym (truth_is (standing past g) false) ∙ said.0)

  by_takes : (r : Row) (b : Bool) → takes types r is ≡ b → HaveIndices types past own f is vs → Widens r types past own f is vs
      → EndsBeside r (if b then taken_call place r is else wrong_value place)
  by_takes r true e have widens here = taken r e have widens here
  by_takes r false e have widens here = untaken r here

  pub row_ends : (r : Row) → HaveIndices types past own f is vs → Widens r types past own f is vs
      → ((g : Integers) → Agree f g → InForce past g facts)
      → ((g : Integers) → Agree f g → AllMet past (given_in facts) g (row_call types place r is facts n).notes)
      → Ends (IsKnown types past own n f facts (row_call types place r is)) now (row_run r hart vs now)
  row_ends r have widens force met =
      let g = f.integers in
      let ends : any_never is ≡ false =
      all_end types (standing past g) own is vs (ap (λ ms. each_holds ms vs) (have.steady g (same f)) ∙ have.held) in
      let walk : row_call types place r is ≡ (if takes types r is then taken_call place r is else wrong_value place) =
      ap (λ b. if b then never_value else (if takes types r is then taken_call place r is else wrong_value place)) ends in
      subst (EndsBeside r) (sym walk) (by_takes r (takes types r is) refl have widens) (record { force = force; met = met })

pub rows_sound : RowsAreSound
rows_sound types past own place r is n f facts vs have widens force met hart now =
    row_ends types past own place f facts is vs hart now r have widens force met
