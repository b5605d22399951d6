-- Constant indices mean one thing, and so do types that name no variable, wherever the name is; the type that is found of a name without one that is
-- written is such a type where the name is read.
use Rattle.std.proofs.Common.{◌≡◌, ◌∙◌, sym, refl, subst, ap, arith, ℕ, ◌<◌, pos, Bool, true, false, not, List, [], ◌∷◌, map}
use Rattle.std.proofs.Common.{Option, Some, None, if◌then◌else◌}
use Rattle.std.proofs.lemmas.Bool.{and_parts}
use Rattle.sail_types.specs.Belongs.{Reading as Closed}
use Rattle.sail_types.specs.declared.shapes.Shape.TheVariants as V
use Rattle.sail_types.specs.declared.types.Typ.{Typ}
use Rattle.sail_core.specs.Run.{Local}
use Rattle.value_indices.specs.declared.indices.Indices.{Indices}
use Rattle.value_indices.specs.declared.indices.Indices.TheFolds.{fold-roll-Reading}
use Rattle.value_indices.specs.declared.indices.Indices.TheOpen as W
use Rattle.value_indices.specs.declared.indices.Indices.TheViews.{out-roll-Reading}
use Rattle.value_indices.specs.declared.indices.Reading.{Reading, out-Reading}
use Rattle.value_indices.specs.declared.indices.Reading.TheVariants as R
use Rattle.value_indices.specs.Steps.{Walk, give}
use Rattle.wide_types.specs.Widening.{wide_value, widened}
use Rattle.expression_forms.specs.Names.{read_form, type_read}
use Rattle.pattern_leaves.specs.declared.names.Bound.{Bound}
use Rattle.pattern_leaves.specs.declared.names.Held.{Held}
use Rattle.pattern_leaves.specs.declared.names.Held.TheVariants as H
use Rattle.pattern_leaves.specs.declared.names.TopLevel.TheVariants as L
use Rattle.constraint_gen.specs.Models.{held_as, indices_constant, is_constant, is_reading_constant, read_as, reading_constant, top_level}
use Rattle.constant_laws.proofs.Constants.{indices_mean, readings_mean}
use Rattle.meeting_laws.proofs.Forms.{is_wide, widened_is}
use Rattle.meeting_laws.proofs.Kept.{keeps_wide}
use Rattle.meeting_laws.proofs.Widened.{value_widens}
use Rattle.checked_meaning.specs.Items.{Item}
use Rattle.value_laws.specs.Belonging.{Integers, closed, standing}
use Rattle.value_laws.specs.Known.{Agree, Goes, Later, Point}
use Rattle.value_laws.proofs.Basics.{no}
use Rattle.value_laws.proofs.Steps.{gives, goes_then, same}
use Rattle.pattern_laws.specs.Typing.{is_again}
use Rattle.soundness_steps.specs.Works.{Kept, Setting, is_value, is_var, nobody}
use Rattle.soundness_steps.specs.States.{AllKept, Keeps}
use Rattle.soundness_steps.specs.Values.{Belongs, HeldValue, HeldVar, InScope, Is, IsHeld}
use Rattle.soundness_forms.specs.Worlds.{LetIs, LetsAre}
use Rattle.soundness_binding.specs.Told.{AreTold, IsTold, IsValue}
use Rattle.whole_runs.specs.Told.{NamesAreTold, are_apart}

-- ---- before the first variable

abbrev start : Point 0
start = record { fixed = λ i. false; integers = λ i. pos 0; before = λ i e. no e }

start_agrees : (g : Integers) → Agree start g
start_agrees g = record { same = λ i e. no e }

start_later : {n : ℕ} (f : Point n) → Later start f
start_later f = record { onward = omega arith; fixed = λ i e. no e; same = λ i e. no e; new = λ i e less. absurd (omega (arith, less)) }

nothing_before : (i : ℕ) → i < 0 → start.fixed i ≡ true
nothing_before i less = absurd (omega (arith, less))

-- ---- types as they are read

of_constant : (t : Typ) → is_reading_constant (R.Of t [] []) ≡ true
of_constant t = ap is_reading_constant (sym (R.rolls-Of t [] [])) ∙ fold-roll-Reading Bool Bool indices_constant reading_constant (W.Of t [] [])

of_read : (set : Setting) (t : Typ) → type_read set.around.types (R.Of t [] []) ≡ give (R.Of t [] [])
of_read set t =
    ap (read_form set.around.types (R.Of t [] [])) (ap out-Reading (sym (R.rolls-Of t [] [])) ∙ out-roll-Reading (W.Of t [] []))

wide_read : (set : Setting) (i : Indices) → type_read set.around.types (widened i) ≡ read_form set.around.types (widened i) (W.Widened (wide_value i))
wide_read set i =
    ap (read_form set.around.types (widened i)) (ap out-Reading (sym (R.rolls-Widened (wide_value i))) ∙ out-roll-Reading (W.Widened (wide_value i)))

module _ (set : Setting) {n : ℕ} (p : Point n) where
  known_is : (i : Indices) (x : Item) → is_constant i ≡ true → Is set nobody p i x → LetIs set nobody (L.Known i) x.val
  known_is i x e h = (
    h.has.meaning,
    h.has.is_so,
    λ g.
        indices_mean set.around.types set.past [] g p.integers i e ∙ h.has.steady p.integers (same p),
  )

  -- ---- a type that is written

  abbrev AsRead : List ℕ → Item → Reading → Type 0
  AsRead name x r = LetIs set nobody (L.Read name r) x.val

  of_is : (name : List ℕ) (t : Typ) (x : Item) → Belongs set nobody p (R.Of t [] []) x.val → AsRead name x (R.Of t [] [])
  of_is name t x h m f facts =
      let c : Closed = closed set.around.types (standing set.past p.integers) [] (R.Of t [] []) in (
        c,
        h p.integers (same p),
        subst (λ (w : Walk Reading). Goes set.past m f facts w (λ g q. closed set.around.types (standing set.past g) [] q ≡ c)) (sym (of_read set t))
            (gives (R.Of t [] []) (λ g a. readings_mean set.around.types set.past [] g p.integers (R.Of t [] []) (of_constant t))),
      )

  written_is : (name : List ℕ) (r : Reading) (x : Item) → IsTold set nobody [] p (Some r) x.val → AsRead name x r
  written_is name r x h =
      subst (AsRead name x) (sym h.1) (of_is name h.0 x (subst (λ (q : Reading). Belongs set nobody p q x.val) h.1 h.2))

  -- ---- the type that is found

  found_is : (name : List ℕ) (i : Indices) (x : Item) → Is set nobody p i x → AsRead name x (widened i)
  found_is name i x h m f facts =
      let first : Indices = wide_value i in
      let r = keeps_wide set.around.types set.past [] start nothing_before p.integers (start_agrees p.integers) first V.Hole m f facts (start_later f) in
      let has_it = ap (λ k. k.holds x.val) (h.has.steady p.integers (same p)) ∙ h.has.is_so in (
        r.0,
        r.1 x.val (value_widens set.around.types set.past [] p.integers i x.val
            (is_wide set.around.types set.past [] p.integers i x.val has_it)),
        subst (λ (w : Walk Reading). Goes set.past m f facts w (λ g q. closed set.around.types (standing set.past g) [] q ≡ r.0)) (sym (wide_read set i))
            (goes_then r.2 (λ k q fs j b e. gives (R.Widened j) (λ g a. widened_is set.around.types set.past [] g j ∙ e g a))),
      )

  -- ---- names

  chosen : (name : List ℕ) (r : Reading) (i : Indices) (x : Item) (c : Bool) → is_constant i ≡ c → Is set nobody p i x → AsRead name x r
      → LetIs set nobody (if c then L.Known i else L.Read name r) x.val
  chosen name r i x true e h other = known_is i x e h
  chosen name r i x false e h other = other

  value_told : (name : List ℕ) (o : Option Reading) (i : Indices) (x : Item) → Is set nobody p i x → IsTold set nobody [] p o x.val
      → LetIs set nobody (read_as name o i) x.val
  value_told name (Some r) i x h told = chosen name r i x (is_constant i) refl h (written_is name r x told)
  value_told name None i x h told = chosen name (widened i) i x (is_constant i) refl h (found_is name i x h)

  held_told : (b : Bound) (held : Held) (x : Item) → HeldValue set nobody p held x → IsTold set nobody [] p b.written x.val
      → LetIs set nobody (held_as b held) x.val
  held_told b (H.Value i) x h told = value_told b.name b.written i x h told
  held_told b (H.Var r) x h told = absurd h

  no_var : (held : Held) (t : Closed) → HeldVar set nobody p held t → IsValue held → ⊥
  no_var (H.Value i) t h value = h
  no_var (H.Var r) t h value = value

  -- a let binds values alone
  one_told : (b : Bound) (k : Kept) (l : Local Item) → IsHeld set nobody p b k → Keeps set.around.types k l → IsValue b.held
      → IsTold set nobody [] p b.written l.held.val → LetIs set nobody (top_level b) l.held.val
  one_told b (is_value name x) l h kept value told =
      subst (λ (y : Item). LetIs set nobody (top_level b) y.val) (sym kept.1)
      (held_told b b.held x h.1 (subst (λ (y : Item). IsTold set nobody [] p b.written y.val) kept.1 told))
  one_told b (is_var name t) l h kept value told = absurd (no_var b.held t h.1 value)

  not_again : (b : Bool) → not b ≡ true → b ≡ false
  not_again false h = refl
  not_again true h = no h

  all_told : (found : List Bound) (ks : List Kept) (locals : List (Local Item)) → are_apart found ≡ true → InScope set nobody p found ks
      → AllKept set.around.types ks locals → AreTold set nobody [] p found locals
      → LetsAre set nobody (map top_level found) (map (λ (l : Local Item). l.held.val) locals)
  all_told [] [] [] apart h kept told = tt
  all_told (b ∷ bs) (k ∷ ks) (l ∷ ls) apart h kept told =
      let both = and_parts (not (is_again b.name bs)) (are_apart bs) apart in
      (one_told b k l h.0 kept.0 told.0 (told.1 (not_again (is_again b.name bs) both.0)), all_told bs ks ls both.1 h.1 kept.1 told.2)
  all_told [] (k ∷ ks) locals apart h kept told = absurd h
  all_told (b ∷ bs) [] locals apart h kept told = absurd h
  all_told [] [] (l ∷ ls) apart h kept told = absurd kept
  all_told (b ∷ bs) (k ∷ ks) [] apart h kept told = absurd kept

pub names_told : NamesAreTold
names_told set n p found locals apart binds told = all_told set p found binds.names locals apart binds.in_scope binds.kept told
