-- `if` without `else`, `assert`, `sizeof` and `constraint`, and `&` and `|` on truths.
use Rattle.std.proofs.Common.{◌≡◌, ℕ, ℤ, List, [], ◌∷◌, ◌++◌, ap, sym, ◌∙◌, refl, subst, Bool, true, Option, Some, None, option_map}
use Rattle.sail_base.specs.declared.place.Place.{Place}
use Rattle.sail_types.specs.Sums.{and_then}
use Rattle.sail_types.specs.declared.numbers.Num.{Num}
use Rattle.sail_types.specs.declared.numbers.Con.{Con}
use Rattle.sail_types.specs.declared.shapes.Shape.{Shape}
use Rattle.sail_types.specs.declared.shapes.Shape.TheOpen as S
use Rattle.sail_types.specs.declared.shapes.Shape.TheVariants as V
use Rattle.sail_types.specs.declared.values.Value.{Value}
use Rattle.sail_types.specs.declared.values.Value.TheOpen as W
use Rattle.sail_types.specs.declared.values.Value.TheVariants as Val
use Rattle.sail_syntax.specs.declared.types.TyExp.{TyExp}
use Rattle.sail_syntax.specs.declared.words.Asking.TheVariants.{Sizeof, Constraint}
use Rattle.model_state.specs.declared.cause.Cause.TheVariants as Cause
use Rattle.sail_core.specs.declared.tree.Kind.TheVariants as K
use Rattle.sail_core.specs.declared.written.WrittenNumber.{WrittenNumber}
use Rattle.sail_kinds.specs.Scopes.{Within}
use Rattle.sail_core.specs.Run.{Now, Run, needs, gives, stops, if_so, goes_on, ◌then◌}
use Rattle.sail_core.specs.Values.{truth_in}
use Rattle.sail_core.specs.Numbers.{known, known_truth}
use Rattle.sail_core.specs.Meaning.{core_meaning}
use Rattle.shape_joins.specs.Filling.{fills}
use Rattle.sail_meaning.specs.World as Source
use Rattle.sail_meaning.specs.World.{truth}
use Rattle.sail_meaning.specs.Expressions.{asked}
use Rattle.shape_rules.specs.Findings.{Found, over, leaf}
use Rattle.shape_rules.specs.Scopes.{Setting, Locals}
use Rattle.shape_rules.specs.Targets.{Part}
use Rattle.shape_rules.specs.Written.{number_in, constraint_in, written_faults, numbers_in}
use Rattle.shape_rules.specs.Statements.{if_found, branch, assert_found, of_type_found, size_found, truth_found}
use Rattle.shape_meanings.specs.Whole.{Choice}
use Rattle.shape_meanings.specs.Keeping.{Fits, Reach, Good, reach_of, Keeps}
use Rattle.shape_meanings.specs.Parts.{IsRight}
use Rattle.shape_meanings.specs.Sound.{Right}
use Rattle.shape_meanings.proofs.Orders.{exact}
use Rattle.shape_meanings.proofs.Runs.{then_agree}
use Rattle.shape_meanings.proofs.Settling.{RunsAs, settled_right, behind_right, both_empty, unrolled, form_has}
use Rattle.shape_meanings.proofs.Branches.{cast_means, bool_exact, branches_agree}
use Rattle.shape_meanings.proofs.Matching.{leaf_below}

pub unit_exact : (s : Shape) → fills V.Unit s ≡ true → s ≡ V.Unit
unit_exact s h = exact V.Unit s 0 h (leaf_below 0 S.Unit V.Unit V.rolls-Unit refl)

pub unit_fits : (setting : Setting) (c : Choice) → Fits setting.types c V.Unit Val.Unit
unit_fits setting c = form_has setting.types c W.Unit S.Unit Val.Unit V.Unit Val.rolls-Unit V.rolls-Unit refl

-- ---- `assert`

pub assert_right : (setting : Setting) (locals : Locals) (place : Place) (a : Part) (text : Option (List ℕ)) (m : Source.Meaning)
    → IsRight setting locals a.elaborate m
    → IsRight setting locals (assert_found place a text) (λ w. m w then λ v. truth v then if_so (gives Val.Unit) (stops (Cause.Assertion place text)))
assert_right setting locals place a text m right want e =
    let found : Found = a.elaborate setting locals V.Bool in
    let h = both_empty found.faults _ e in
    let r = right V.Bool h.0 in
    let n : Source.Meaning = λ w. m w then λ v. truth v then if_so (gives Val.Unit) (stops (Cause.Assertion place text)) in
    behind_right setting locals want found.faults _ n
    (settled_right setting locals place want V.Unit (λ s. over place (K.Assert text) (found.core ∷ [])) n h.1
    (λ t registers c wc ws d slots seen now good.
    let reach : Reach = reach_of setting registers c slots in
    let q = then_agree reach (Fits setting.types c V.Bool) (Fits setting.types c V.Unit) (core_meaning wc found.core now) (m ws now)
    (λ v. needs (truth_in v) then if_so (gives Val.Unit) (stops (Cause.Assertion place text)))
    (λ v. needs (truth_in v) then if_so (gives Val.Unit) (stops (Cause.Assertion place text)))
    (subst (λ s. RunsAs setting locals s found.core m) (bool_exact found.shape r.above) r.runs registers c wc ws d slots seen now good)
    (λ v later k good2. branches_agree reach (Fits setting.types c V.Unit) v (gives Val.Unit) (gives Val.Unit) (stops (Cause.Assertion place text))
    (stops (Cause.Assertion place text)) later k (refl, (unit_fits setting c, good2)) (refl, good2)) in
    (ap (λ (x : Run Value Value). x now) (unrolled wc place 0 (K.Assert text) (found.core ∷ [])) ∙ q.0, q.1)))

-- ---- `if` without `else`

pub short_if_right : (setting : Setting) (locals : Locals) (place : Place) (c a : Part) (mc ma : Source.Meaning)
    → IsRight setting locals c.elaborate mc → IsRight setting locals a.elaborate ma
    → IsRight setting locals (if_found place c a None) (λ w. mc w then λ v. truth v then if_so (ma w) (gives Val.Unit))
short_if_right setting locals place c a mc ma rc ra want e =
    let test : Found = c.elaborate setting locals V.Bool in
    let found : Found = a.elaborate setting locals V.Unit in
    let h = both_empty (test.faults ++ found.faults) _ e in
    let h2 = both_empty test.faults found.faults h.0 in
    let r = rc V.Bool h2.0 in
    let b = ra V.Unit h2.1 in
    let n : Source.Meaning = λ w. mc w then λ v. truth v then if_so (ma w) (gives Val.Unit) in
    behind_right setting locals want (test.faults ++ found.faults) _ n
    (settled_right setting locals place want V.Unit (λ s. over place (K.If V.Unit) (test.core ∷ branch found a ∷ [])) n h.1
    (λ t registers choice wc ws d slots seen now good.
    let reach : Reach = reach_of setting registers choice slots in
    let q = then_agree reach (Fits setting.types choice V.Bool) (Fits setting.types choice V.Unit) (core_meaning wc test.core now) (mc ws now)
    (λ v. needs (truth_in v) then if_so (core_meaning wc found.core) (gives Val.Unit))
    (λ v. needs (truth_in v) then if_so (ma ws) (gives Val.Unit))
    (subst (λ s. RunsAs setting locals s test.core mc) (bool_exact test.shape r.above) r.runs registers choice wc ws d slots seen now good)
    (λ v later k good2. branches_agree reach (Fits setting.types choice V.Unit) v (core_meaning wc found.core) (ma ws) (gives Val.Unit) (gives Val.Unit) later k
    (subst (λ s. RunsAs setting locals s found.core ma) (unit_exact found.shape b.above) b.runs registers choice wc ws d slots seen later good2)
    (refl, (unit_fits setting choice, good2))) in (
      ap (λ (x : Run Value Value). x now) (unrolled wc place 0 (K.If V.Unit) (test.core ∷ branch found a ∷ []))
          ∙ (λ i. goes_on (core_meaning wc test.core now) (λ v. needs (truth_in v) then if_so (cast_means wc found.core a.place i) (gives Val.Unit)))
          ∙ q.0,
      q.1,
    )))

-- ---- `sizeof` and `constraint`

integer_kept : (setting : Setting) (reach : Reach) (c : Choice) (o : Option ℤ) (now : Now Value) → Good reach now
    → ((z : ℤ) → Fits setting.types c V.Int (Val.Integer z))
    → Keeps reach (Fits setting.types c V.Int) (goes_on (needs o now) (λ i. gives (Val.Integer i)))
integer_kept setting reach c None now good f = tt
integer_kept setting reach c (Some z) now good f = (f z, good)

mapped_integer : (o : Option ℤ) (now : Now Value)
    → goes_on (needs o now) (λ i. gives (Val.Integer i)) ≡ needs (option_map Val.Integer o) now
mapped_integer None now = refl
mapped_integer (Some z) now = refl

pub sizeof_right : (setting : Setting) (locals : Locals) (place : Place) (typ : TyExp) (t : Num) → number_in setting.within typ ≡ Some t
    → IsRight setting locals (of_type_found place Sizeof typ) (λ w. needs (asked Sizeof typ w))
sizeof_right setting locals place typ t is want e =
    let n : Source.Meaning = λ w. needs (asked Sizeof typ w) in
    subst (λ o. Right setting locals want (size_found place typ setting want o) n) (sym is)
    (sized (subst (λ o. (size_found place typ setting want o).faults ≡ []) is e))
  where
    sized : (size_found place typ setting want (Some t)).faults ≡ []
        → Right setting locals want (size_found place typ setting want (Some t)) (λ w. needs (asked Sizeof typ w))
    sized e =
        let h = both_empty (written_faults setting.within typ) _ e in
        let numbers : List WrittenNumber = numbers_in setting.within typ in
        behind_right setting locals want (written_faults setting.within typ) _ (λ w. needs (asked Sizeof typ w))
        (settled_right setting locals place want V.Int (λ s. leaf place (K.SizeOf t numbers)) (λ w. needs (asked Sizeof typ w)) h.1
        (λ s registers c wc ws d slots seen now good.
        let source : needs (asked Sizeof typ ws) now ≡ goes_on (needs (known ws.numbers t) now) (λ i. gives (Val.Integer i)) =
        ap (λ (within : Within). needs (option_map Val.Integer (and_then (number_in within typ) (known ws.numbers))) now) d.within
        ∙ ap (λ o. needs (option_map Val.Integer (and_then o (known ws.numbers))) now) is ∙ sym (mapped_integer (known ws.numbers t) now) in (
          ap (λ (x : Run Value Value). x now) (unrolled wc place 0 (K.SizeOf t numbers) [])
              ∙ ap (λ nu. goes_on (needs (known nu t) now) (λ i. gives (Val.Integer i))) d.numbers ∙ sym source,
          subst (Keeps (reach_of setting registers c slots) (Fits setting.types c V.Int)) (sym source)
              (integer_kept setting (reach_of setting registers c slots) c (known ws.numbers t) now good
              (λ z. form_has setting.types c (W.Integer z) S.Int (Val.Integer z) V.Int (Val.rolls-Integer z) V.rolls-Int refl)),
        )))

truth_kept : (setting : Setting) (reach : Reach) (c : Choice) (o : Option Bool) (now : Now Value) → Good reach now
    → ((b : Bool) → Fits setting.types c V.Bool (Val.Truth b))
    → Keeps reach (Fits setting.types c V.Bool) (goes_on (needs o now) (λ b. gives (Val.Truth b)))
truth_kept setting reach c None now good f = tt
truth_kept setting reach c (Some b) now good f = (f b, good)

mapped_truth : (o : Option Bool) (now : Now Value) → goes_on (needs o now) (λ b. gives (Val.Truth b)) ≡ needs (option_map Val.Truth o) now
mapped_truth None now = refl
mapped_truth (Some b) now = refl

pub constraint_right : (setting : Setting) (locals : Locals) (place : Place) (typ : TyExp) (t : Con) → constraint_in setting.within typ ≡ Some t
    → IsRight setting locals (of_type_found place Constraint typ) (λ w. needs (asked Constraint typ w))
constraint_right setting locals place typ t is want e =
    let n : Source.Meaning = λ w. needs (asked Constraint typ w) in
    subst (λ o. Right setting locals want (truth_found place typ setting want o) n) (sym is)
    (held (subst (λ o. (truth_found place typ setting want o).faults ≡ []) is e))
  where
    held : (truth_found place typ setting want (Some t)).faults ≡ []
        → Right setting locals want (truth_found place typ setting want (Some t)) (λ w. needs (asked Constraint typ w))
    held e =
        let h = both_empty (written_faults setting.within typ) _ e in
        let numbers : List WrittenNumber = numbers_in setting.within typ in
        behind_right setting locals want (written_faults setting.within typ) _ (λ w. needs (asked Constraint typ w))
        (settled_right setting locals place want V.Bool (λ s. leaf place (K.Constraint t numbers)) (λ w. needs (asked Constraint typ w)) h.1
        (λ s registers c wc ws d slots seen now good.
        let source : needs (asked Constraint typ ws) now ≡ goes_on (needs (known_truth ws.numbers t) now) (λ b. gives (Val.Truth b)) =
        ap (λ (within : Within). needs (option_map Val.Truth (and_then (constraint_in within typ) (known_truth ws.numbers))) now) d.within
        ∙ ap (λ o. needs (option_map Val.Truth (and_then o (known_truth ws.numbers))) now) is ∙ sym (mapped_truth (known_truth ws.numbers t) now) in (
          ap (λ (x : Run Value Value). x now) (unrolled wc place 0 (K.Constraint t numbers) [])
              ∙ ap (λ nu. goes_on (needs (known_truth nu t) now) (λ b. gives (Val.Truth b))) d.numbers ∙ sym source,
          subst (Keeps (reach_of setting registers c slots) (Fits setting.types c V.Bool)) (sym source)
              (truth_kept setting (reach_of setting registers c slots) c (known_truth ws.numbers t) now good
              (λ b. form_has setting.types c (W.Truth b) S.Bool (Val.Truth b) V.Bool (Val.rolls-Truth b) V.rolls-Bool refl)),
        )))
