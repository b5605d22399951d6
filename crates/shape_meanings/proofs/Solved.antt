-- Calls of one callee, whose variables are solved from one argument after the other.
use Rattle.std.proofs.Common.{◌≡◌, ℕ, zero, suc, List, [], ◌∷◌, ◌++◌, map, length, ap, sym, ◌∙◌, refl, subst, Bool, true, false, Option, Some, None}
use Rattle.std.proofs.Common.{nat_eq}
use Rattle.std.proofs.Common.{if◌then◌else◌, arith}
use Rattle.std.proofs.lemmas.Bool.{and_parts}
use Rattle.sail_base.specs.declared.place.Place.{Place}
use Rattle.sail_types.specs.Shapes.{at, fits, each_fits, put}
use Rattle.sail_types.specs.declared.shapes.Shape.{Shape}
use Rattle.sail_types.specs.declared.values.Value.{Value}
use Rattle.sail_core.specs.Run.{in_turn, ◌then◌}
use Rattle.sail_core.specs.Making as Core
use Rattle.shape_joins.specs.Filling.{fill_all}
use Rattle.shape_joins.specs.Learning.{learn, holes}
use Rattle.shape_joins.proofs.Order.{no, fills_twice}
use Rattle.shape_joins.proofs.Learnt.{learning_fills}
use Rattle.sail_meaning.specs.World as Source
use Rattle.sail_meaning.specs.World.{Piece}
use Rattle.sail_meaning.specs.Expressions.{each}
use Rattle.shape_rules.specs.declared.callees.Candidate.{Candidate}
use Rattle.shape_rules.specs.declared.error.ShapeError.TheVariants as error
use Rattle.shape_rules.specs.Findings.{Found, over, refused, mismatched}
use Rattle.shape_rules.specs.Scopes.{Setting, Locals}
use Rattle.sail_core.specs.declared.tree.Core.{out-Core}
use Rattle.shape_rules.specs.Calls.{Elaborate, Solved, solved, solved_behind, taught, has_some, place_in, solved_found, one_called, call_found}
use Rattle.shape_rules.specs.Calls.{doing_kind}
use Rattle.shape_meanings.specs.Whole.{Choice}
use Rattle.shape_meanings.specs.Keeping.{FitAll}
use Rattle.shape_meanings.specs.Worlds.{Describes}
use Rattle.shape_meanings.specs.Parts.{AreRight}
use Rattle.shape_meanings.specs.Sound.{Right}
use Rattle.shape_meanings.proofs.Orders.{all_itself, at_below, put_more, all_put_put}
use Rattle.shape_meanings.proofs.Learning.{all_twice}
use Rattle.shape_meanings.proofs.Arguments.{RunAll, none_run, more_run, call_runs, GoesTo}
use Rattle.shape_meanings.proofs.Settling.{widened, settled_right, behind_right, both_empty}

-- more is known at the end, and the arguments' values fit the parameters with it in place
abbrev RightSolved : Setting → Locals → List Shape → List Shape → Solved → List Source.Meaning → Type 0
RightSolved setting locals params known found ms =
    (fill_all known found.known ≡ true) × RunAll setting locals (map (put (at found.known)) params) found.cores ms

-- an argument that fails in nothing, and of which something is learnt, with those behind it
abbrev Teaches : Found → (List Shape → Solved) → Option (List Shape) → Type 0
Teaches a next learnt = (later : List Shape) × (learnt ≡ Some later) × (a.faults ≡ []) × ((next later).faults ≡ [])

solved_step : (want : Shape) (a : Found) (next : List Shape → Solved) (known : List Shape) (learnt : Option (List Shape))
    → (solved_behind want a next known learnt).faults ≡ [] → Teaches a next learnt
solved_step want a next known None e =
    let h = both_empty (a.faults ++ taught want a None) (next known).faults e in
    let k = both_empty a.faults (taught want a None) h.0 in
    absurd (not_none (sym (ap (λ fs. if has_some fs then [] else mismatched (place_in (out-Core a.core)) want a.shape ∷ []) k.0) ∙ k.1))
  where
    not_none : {A : Type 0} {x : A} → (x ∷ []) ≡ [] → ⊥
    not_none e = cc
solved_step want a next known (Some later) e =
    let h = both_empty (a.faults ++ taught want a (Some later)) (next later).faults e in
    (later, refl, (both_empty a.faults [] h.0).0, h.1)

pub solved_right : (es : List Elaborate) (ms : List Source.Meaning) (setting : Setting) (locals : Locals) (params known : List Shape)
    → AreRight setting locals es ms → length params ≡ length es → (solved es setting locals params known).faults ≡ []
    → RightSolved setting locals params known (solved es setting locals params known) ms
solved_right [] [] setting locals [] known right many e = (all_itself known, none_run setting locals)
solved_right [] [] setting locals (p ∷ ps) known right many e = absurd (not_zero (length ps) many)
  where
    not_zero : (n : ℕ) → suc n ≡ zero → ⊥
    not_zero n h = grind (arith, h)
solved_right [] (m ∷ ms) setting locals params known right many e = absurd right
solved_right (x ∷ es) [] setting locals params known right many e = absurd right
solved_right (x ∷ es) (m ∷ ms) setting locals [] known right many e = absurd (zero_not (length es) many)
  where
    zero_not : (n : ℕ) → zero ≡ suc n → ⊥
    zero_not n h = grind (arith, h)
solved_right (x ∷ es) (m ∷ ms) setting locals (p ∷ ps) known right many e =
    let want : Shape = put (at known) p in
    let a : Found = x setting locals want in
    let teach = solved_step want a (solved es setting locals ps) known (learn p a.shape known) e in
    let next : Solved = solved es setting locals ps teach.0 in
    let is : solved (x ∷ es) setting locals (p ∷ ps) known ≡ solved_behind want a (solved es setting locals ps) known (Some teach.0) =
    ap (solved_behind want a (solved es setting locals ps) known) teach.1 in
    let l = learning_fills p a.shape known teach.0 teach.1 in
    let r = solved_right es ms setting locals ps teach.0 right.1 (one_less (length ps) (length es) many) teach.3 in
    let t : Shape = put (at next.known) p in
    subst (λ s. RightSolved setting locals (p ∷ ps) known s (m ∷ ms)) (sym is) (
      all_twice known teach.0 next.known l.0 r.0,
      more_run setting locals t (map (put (at next.known)) ps) a.core next.cores m ms
          (widened setting locals a.shape t a.core m
          (fills_twice a.shape (put (at teach.0) p) t l.1 (put_more p (at teach.0) (at next.known) (at_below teach.0 next.known r.0)))
          (right.0 want teach.2).runs)
          r.1,
    )
  where
    one_less : (n k : ℕ) → suc n ≡ suc k → n ≡ k
    one_less n k h = grind (arith, h)

counted_step : (place : Place) (b : Bool) (wanted found : ℕ) (next : Found)
    → (if b then next else refused (error.Arity place wanted found)).faults ≡ [] → b ≡ true
counted_step place true wanted found next e = refl
counted_step place false wanted found next e = absurd (not_none e)
  where
    not_none : {A : Type 0} {x : A} → (x ∷ []) ≡ [] → ⊥
    not_none e = cc

-- a call of one callee
pub one_right : (setting : Setting) (locals : Locals) (want : Shape) (place : Place) (f : Candidate) (es : List Elaborate) (ms : List Source.Meaning)
    (goes : Source.World → List Value → Piece Value)
    → AreRight setting locals es ms
    → ((registers : List Shape) (c : Choice) (wc : Core.World Value) (ws : Source.World) (d : Describes setting registers wc ws) (vs : List Value)
    → length vs ≡ length f.params → GoesTo setting registers wc ws d place f vs (goes ws vs))
    → (one_called place f es setting locals want).faults ≡ []
    → Right setting locals want (one_called place f es setting locals want) (λ ws. in_turn (each ms ws) then goes ws)
one_right setting locals want place f es ms goes right same e =
    let args : Solved = solved es setting locals f.params (holes f.variables) in
    let next : Found = solved_found place want f args in
    let m : Source.Meaning = λ ws. in_turn (each ms ws) then goes ws in
    let many = counted_step place (nat_eq (length f.params) (length es)) (length f.params) (length es) next e in
    let is : one_called place f es setting locals want ≡ next =
    ap (λ b. if b then next else refused (error.Arity place (length f.params) (length es))) many in
    let h = both_empty args.faults (call_found place want f args.known args.cores).faults (ap (λ (x : Found). x.faults) (sym is) ∙ e) in
    let r = solved_right es ms setting locals f.params (holes f.variables) right (equal_counts (length f.params) (length es) many) h.0 in
    subst (λ x. Right setting locals want x m) (sym is)
    (behind_right setting locals want args.faults (call_found place want f args.known args.cores) m
    (settled_right setting locals place want (put (at args.known) f.answer) (λ s. over place (doing_kind f.doing args.known) args.cores) m h.1
    (λ t. call_runs setting locals place f args.known (map (put (at args.known)) f.params) args.cores ms goes r.1
    (λ c vs k. subst (λ us. each_fits (map (fits setting.types) vs) us ≡ true) (all_put_put f.params c (at args.known)) k)
    (λ registers c wc ws d vs k. same registers c wc ws d vs (fit_params setting c f.params args.known vs k)))))
  where
    equal_counts : (n k : ℕ) → nat_eq n k ≡ true → n ≡ k
    equal_counts n k h = grind (arith, h)

    fit_params : (setting : Setting) (c : Choice) (ps known : List Shape) (vs : List Value) → FitAll setting.types c (map (put (at known)) ps) vs
        → length vs ≡ length ps
    fit_params setting c [] known [] k = refl
    fit_params setting c [] known (v ∷ vs) k = no k
    fit_params setting c (p ∷ ps) known [] k = no k
    fit_params setting c (p ∷ ps) known (v ∷ vs) k =
        ap suc (fit_params setting c ps known vs
        (and_parts (fits setting.types v (put c (put (at known) p))) (each_fits (map (fits setting.types) vs) (map (put c) (map (put (at known)) ps))) k).1)
