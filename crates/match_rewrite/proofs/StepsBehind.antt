-- Steps that are pushed behind others, for each form of pattern.
use Rattle.std.proofs.Common.{◌≡◌, ◌≢◌, ℕ, suc, ◌+◌, Bool, true, true≢false, List, [], ◌∷◌, ◌++◌, map, length, refl, sym, ap, ◌∙◌}
use Rattle.std.proofs.Common.{arith, append_assoc, append-nil, length-append}
use Rattle.std.proofs.Math.Dec.{eqb-suc-zero}
use Rattle.std.proofs.lemmas.List.{length-map}
use Rattle.std.specs.Prelude.{◌==◌, Result, Ok, Err, IfOk}
use Rattle.sail_core.specs.declared.patterns.Head.{Head}
use Rattle.sail_core.specs.declared.patterns.Form.{Form}
use Rattle.sail_core.specs.declared.patterns.Form.TheVariants as F
use Rattle.sail_core.specs.declared.patterns.Pattern.{Pattern}
use Rattle.sail_core.specs.declared.patterns.Step.{Step}
use Rattle.sail_core.specs.declared.patterns.Step.TheVariants as S
use Rattle.sail_core.specs.declared.written.Written.{Written}
use Rattle.match_rewrite.specs.Rewriting.{Steps, Flatten, before, none_at, followed, flat_parts, never, flat_form, flat_pattern}
use Rattle.match_rewrite.specs.Pushed.{reached, added}

-- ---- one pattern more

next_behind : (ps : List Pattern) (p : Pattern) (at next : ℕ)
    → (flat_parts (map flat_pattern (ps ++ p ∷ [])) at next).next
    ≡ (flat_pattern p (at + length ps) (flat_parts (map flat_pattern ps) at next).next).next
next_behind [] p at next = let e : at ≡ at + 0 = omega arith in ap (λ n. (flat_pattern p n next).next) e
next_behind (q ∷ ps) p at next =
    let e : suc at + length ps ≡ at + suc (length ps) = omega arith in
    next_behind ps p (suc at) (flat_pattern q at next).next
    ∙ ap (λ n. (flat_pattern p n (flat_parts (map flat_pattern ps) (suc at) (flat_pattern q at next).next).next).next) e

steps_behind : (ps : List Pattern) (p : Pattern) (at next : ℕ)
    → (flat_parts (map flat_pattern (ps ++ p ∷ [])) at next).steps
    ≡ (flat_parts (map flat_pattern ps) at next).steps ++ (flat_pattern p (at + length ps) (flat_parts (map flat_pattern ps) at next).next).steps
steps_behind [] p at next =
    let e : at ≡ at + 0 = omega arith in
    append-nil (flat_pattern p at next).steps ∙ ap (λ n. (flat_pattern p n next).steps) e
steps_behind (q ∷ ps) p at next =
    let e : suc at + length ps ≡ at + suc (length ps) = omega arith in
    ap (λ ss. (flat_pattern q at next).steps ++ ss)
    (steps_behind ps p (suc at) (flat_pattern q at next).next
    ∙ ap (λ n. (flat_parts (map flat_pattern ps) (suc at) (flat_pattern q at next).next).steps ++ (flat_pattern p n
    (flat_parts (map flat_pattern ps) (suc at) (flat_pattern q at next).next).next).steps) e)
    ∙ sym (append_assoc (flat_pattern q at next).steps (flat_parts (map flat_pattern ps) (suc at) (flat_pattern q at next).next).steps
    (flat_pattern p (at + suc (length ps)) (flat_parts (map flat_pattern ps) (suc at) (flat_pattern q at next).next).next).steps)

parts_behind : (ps : List Pattern) (p : Pattern) (at next : ℕ)
    → flat_parts (map flat_pattern (ps ++ p ∷ [])) at next ≡ followed (flat_parts (map flat_pattern ps) at next) (flat_pattern p (at + length ps))
parts_behind ps p at next = λ i. record { steps = steps_behind ps p at next i; next = next_behind ps p at next i }

pub one_more : (ps : List Pattern) (p : Pattern) (at next here free later : ℕ) (first was now : List Step)
    → here ≡ at + length ps → reached was free ≡ added first (flat_parts (map flat_pattern ps) at next)
    → reached now later ≡ added was (flat_pattern p here free)
    → reached now later ≡ added first (flat_parts (map flat_pattern (ps ++ p ∷ [])) at next)
one_more ps p at next here free later first was now is_here is_was is_now =
    is_now
    ∙ (λ i. added (is_was i).steps (flat_pattern p (is_here i) (is_was i).next))
    ∙ (λ i. record {
      steps = append_assoc first (flat_parts (map flat_pattern ps) at next).steps
          (flat_pattern p (at + length ps) (flat_parts (map flat_pattern ps) at next).next).steps i;
      next = (flat_pattern p (at + length ps) (flat_parts (map flat_pattern ps) at next).next).next;
    })
    ∙ ap (added first) (sym (parts_behind ps p at next))

pub here_more : (ps : List Pattern) (p : Pattern) (at here later : ℕ) → here ≡ at + length ps → later ≡ here + 1
    → later ≡ at + length (ps ++ p ∷ [])
here_more ps p at here later is_here is_later =
    let e : length (ps ++ p ∷ []) ≡ length ps + 1 = length-append ps (p ∷ []) in omega (arith, e, is_here, is_later)

pub nothing_more : (steps : List Step) (next : ℕ) → reached steps next ≡ added steps (none_at next)
nothing_more steps next = λ i. reached (sym (append-nil steps) i) next

-- ---- what a form pushes

pub on_ok : {A E : Type 0} {P Q : A → Type 0} (r : Result A E) → IfOk r P → ((x : A) → P x → Q x) → IfOk r Q
on_ok (Ok x) h f = f x h
on_ok (Err e) h f = tt

no_length : {A : Type 0} {n : ℕ} → suc n ≡ 0 → A
no_length h = absurd (omega arith)

no_more : {A : Type 0} {n : ℕ} → suc (suc n) ≡ 1 → A
no_more h = absurd (omega arith)

one : (fl : Flatten) (at next : ℕ) → flat_parts (fl ∷ []) at next ≡ fl at next
one fl at next = λ i. record { steps = append-nil (fl at next).steps i; next = (fl at next).next }

-- whether there are parts, as it is asked
pub empty_is : (ps : List Pattern) (b outcome : Bool) → b ≡ (length ps == 0) → b ≡ outcome → (length ps == 0) ≡ outcome
empty_is ps b outcome is h = sym is ∙ h

pub any_pushed : (form : Form) (ps : List Pattern) (at next : ℕ) (was : List Step) → form ≡ F.Any → (length ps == 0) ≡ true
    → reached was next ≡ added was (flat_form form (map flat_pattern ps) at next)
any_pushed form [] at next was is h = nothing_more was next ∙ ap (λ f. added was (flat_form f [] at next)) (sym is)
any_pushed form (p ∷ ps) at next was is h = absurd (true≢false (sym h ∙ eqb-suc-zero (length ps)))

pub as_pushed : (name : List ℕ) (ps : List Pattern) (at next later : ℕ) (was then_was now : List Step) → length ps ≡ 1
    → reached then_was later ≡ added was (flat_parts (map flat_pattern ps) at next) → now ≡ then_was ++ S.Names at name ∷ []
    → reached now later ≡ added was (flat_form (F.As name) (map flat_pattern ps) at next)
as_pushed name [] at next later was then_was now h parts is = no_length (sym h)
as_pushed name (p ∷ []) at next later was then_was now h parts is =
    (λ i. reached (is i) later)
    ∙ (λ i. reached ((inner i).steps ++ S.Names at name ∷ []) (inner i).next)
    ∙ (λ i. reached (append_assoc was (flat_pattern p at next).steps (S.Names at name ∷ []) i) (flat_pattern p at next).next)
  where
    inner : reached then_was later ≡ added was (flat_pattern p at next)
    inner = parts ∙ ap (added was) (one (flat_pattern p) at next)
as_pushed name (p ∷ q ∷ ps) at next later was then_was now h parts is = no_more h

pub as_never : (name : List ℕ) (ps : List Pattern) (at next later : ℕ) (was now : List Step) → length ps ≢ 1
    → reached now later ≡ added was (never next) → reached now later ≡ added was (flat_form (F.As name) (map flat_pattern ps) at next)
as_never name [] at next later was now h pushed = pushed
as_never name (p ∷ []) at next later was now h pushed = absurd (h refl)
as_never name (p ∷ q ∷ ps) at next later was now h pushed = pushed

pub typed_pushed : (form : Form) (written : Written) (ps : List Pattern) (at next later : ℕ) (was now : List Step) → form ≡ F.Typed written
    → length ps ≡ 1 → reached now later ≡ added was (flat_parts (map flat_pattern ps) at next)
    → reached now later ≡ added was (flat_form form (map flat_pattern ps) at next)
typed_pushed form written [] at next later was now is h parts = no_length (sym h)
typed_pushed form written (p ∷ []) at next later was now is h parts =
    parts ∙ ap (added was) (one (flat_pattern p) at next) ∙ ap (λ f. added was (flat_form f (flat_pattern p ∷ []) at next)) (sym is)
typed_pushed form written (p ∷ q ∷ ps) at next later was now is h parts = no_more h

-- a step, and then others
step_then : (s : Step) (more : Steps) (later : ℕ) (was then_was now : List Step) → then_was ≡ was ++ s ∷ []
    → reached now later ≡ added then_was more → reached now later ≡ added was (before s more)
step_then s more later was then_was now is h =
    h ∙ (λ i. added (is i) more) ∙ (λ i. reached (append_assoc was (s ∷ []) more.steps i) more.next)

pub opens_pushed : (head : Head) (ps : List Pattern) (at next count free later : ℕ) (was then_was now : List Step) → count ≡ length ps
    → free ≡ next + count → then_was ≡ was ++ S.Opens at head count ∷ []
    → reached now later ≡ added then_was (flat_parts (map flat_pattern ps) next free)
    → reached now later ≡ added was (flat_form (F.Opens head) (map flat_pattern ps) at next)
opens_pushed head ps at next count free later was then_was now is_count is_free is parts =
    step_then (S.Opens at head count) (flat_parts (map flat_pattern ps) next free) later was then_was now is parts
    ∙ (λ i. added was (before (S.Opens at head (counted i)) (flat_parts (map flat_pattern ps) next ((is_free ∙ ap (λ n. next + n) counted) i))))
  where
    counted : count ≡ length (map flat_pattern ps)
    counted = is_count ∙ sym (length-map ps flat_pattern)

pub sees_pushed : (d : ℕ) (ps : List Pattern) (at next free later : ℕ) (was then_was now : List Step) → length ps ≡ 1
    → free ≡ next + 1 → then_was ≡ was ++ S.Sees at d ∷ [] → reached now later ≡ added then_was (flat_parts (map flat_pattern ps) next free)
    → reached now later ≡ added was (flat_form (F.Sees d) (map flat_pattern ps) at next)
sees_pushed d [] at next free later was then_was now h is_free is parts = no_length (sym h)
sees_pushed d (p ∷ []) at next free later was then_was now h is_free is parts =
    step_then (S.Sees at d) (flat_parts (flat_pattern p ∷ []) next free) later was then_was now is parts
    ∙ (λ i. added was (before (S.Sees at d) (one (flat_pattern p) next (behind_one i) i)))
  where
    behind_one : free ≡ suc next
    behind_one = omega (arith, is_free)
sees_pushed d (p ∷ q ∷ ps) at next free later was then_was now h is_free is parts = no_more h

pub sees_never : (d : ℕ) (ps : List Pattern) (at next later : ℕ) (was now : List Step) → length ps ≢ 1
    → reached now later ≡ added was (never next) → reached now later ≡ added was (flat_form (F.Sees d) (map flat_pattern ps) at next)
sees_never d [] at next later was now h pushed = pushed
sees_never d (p ∷ []) at next later was now h pushed = absurd (h refl)
sees_never d (p ∷ q ∷ ps) at next later was now h pushed = pushed
