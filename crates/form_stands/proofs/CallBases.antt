-- `f(a)` as the base of a part: what is read leaves nothing open, or is a tuple, which has no part.
use Rattle.std.proofs.Common.{◌≡◌, inl, inr, ℕ, Bool, true, false, List, [], ◌∷◌, ◌++◌, length, ap, sym, ◌∙◌, refl, subst, Option, Some, None}
use Rattle.std.proofs.Common.{if◌then◌else◌}
use Rattle.sail_base.specs.declared.place.Place.{Place}
use Rattle.sail_syntax.specs.declared.name.Name.{Name}
use Rattle.sail_types.specs.Shapes.{at, put}
use Rattle.sail_types.specs.declared.shapes.Shape.{Shape, Shape-F, out-Shape}
use Rattle.sail_types.specs.declared.shapes.Shape.TheFolds.{map-Shape}
use Rattle.sail_types.specs.declared.shapes.Shape.TheOpen as S
use Rattle.sail_types.specs.declared.shapes.Shape.TheVariants as V
use Rattle.sail_types.specs.declared.shapes.Shape.TheViews.{out-roll-Shape, roll-out-Shape}
use Rattle.sail_names.specs.Known.{is_callee}
use Rattle.shape_joins.specs.Filling.{fills, fill_form}
use Rattle.shape_joins.specs.Learning.{holes}
use Rattle.shape_joins.proofs.Order.{at_forms, no, tests}
use Rattle.shape_rules.specs.declared.callees.Candidate.{Candidate}
use Rattle.shape_rules.specs.Calls.{Args, Chosen, args_found, chosen}
use Rattle.shape_rules.specs.Findings.{ill_shaped}
use Rattle.shape_rules.specs.Scopes.{Locals}
use Rattle.shape_rules.specs.Targets.{Aimed, Part, call_aim, callees_of, elaborations, leaves_open, meant_aim, one_of, open_faults, read_aimed, read_shape}
use Rattle.shape_rules.specs.Targets.{read_with, unread, written_by}
use Rattle.shape_meanings.specs.Counted.{counted}
use Rattle.shape_meanings.specs.Naming.{AreCallees}
use Rattle.shape_meanings.specs.Whole.{below, below_form}
use Rattle.shape_meanings.proofs.Choosing.{is_taken}
use Rattle.shape_meanings.proofs.Learning.{at_holes, learnt_all}
use Rattle.shape_meanings.proofs.Openness.{form_below, is_never_form, is_tuple_form}
use Rattle.shape_meanings.proofs.Orders.{at_below, belows}
use Rattle.shape_meanings.proofs.Values.{opened_at, out_put}
use Rattle.shape_meanings.proofs.Bases.{not_none}
use Rattle.shape_stands.specs.Inside.{Position}
use Rattle.shape_stands.specs.Stands.{AllStandAt, BaseStands}
use Rattle.shape_stands.proofs.Standing.{both_empty}
use Rattle.form_stands.proofs.Arguments.{chosen_called}
use Rattle.form_stands.proofs.Bases.{BaseHas}
use Rattle.form_stands.proofs.CallTargets.{call_base_stands, called, one_fails}

-- an answer that leaves nothing open has values, whatever its variables come to
put_not_never : (n : ℕ) (answer : Shape) (e : ℕ → Shape) → below n answer ≡ true → ((i : ℕ) → fills V.Hole (e i) ≡ true)
    → is_never_form (out-Shape (put e answer)) ≡ false
put_not_never n answer e b above =
    ap is_never_form (out_put e answer) ∙ by_form (out-Shape answer) (sym (ap (below n) (sym (roll-out-Shape answer)) ∙ belows n (out-Shape answer)) ∙ b)
  where
    by_hole : (z : Shape-F Shape) → fill_form (tests S.Hole) z ≡ true → is_never_form z ≡ false
    by_hole S.Never h = no h
    by_hole z h = refl

    by_form : (y : Shape-F Shape) → below_form n (map-Shape Shape Bool (below n) y) ≡ true → is_never_form (opened_at e y) ≡ false
    by_form (S.Variable i) h =
        by_hole (out-Shape (e i))
        (ap (λ x. fill_form (tests x) (out-Shape (e i))) (sym (ap out-Shape (sym V.rolls-Hole) ∙ out-roll-Shape S.Hole)) ∙ sym (at_forms V.Hole (e i))
        ∙ above i)
    by_form S.Hole h = no h
    by_form S.Never h = no h
    by_form y h = refl

not_open : (place : Place) (s : Shape) (b : Bool) → leaves_open s ≡ b → (if b then ill_shaped place ∷ [] else []) ≡ [] → leaves_open s ≡ false
not_open place s true is e = not_none e
not_open place s false is e = is

module _ (here : Position) (locals : Locals) (name : Name) (args : List Part) (stand : AllStandAt here locals (elaborations args))
    (h : is_callee here.names name.text ≡ true) (are : AreCallees (callees_of here.setting.types (here.setting.value name.text))) where
  abbrev fs : List Candidate
  fs = callees_of here.setting.types (here.setting.value name.text)

  abbrev found : Args
  found = args_found (elaborations args) here.setting locals

  abbrev base_of : Option Candidate → Option Chosen → Aimed
  base_of o reader = read_with name (length args) o reader (written_by name fs found reader o (meant_aim name args fs o here.setting locals))

  -- what a member reads
  read_by_member : (x : Chosen) → chosen fs found.shapes ≡ Some x → (a : Aimed) → a.shape ≡ put (at x.known) x.candidate.answer
      → BaseStands here locals a → counted here.setting.types a.shape ≡ true → leaves_open (put (at x.known) x.candidate.answer) ≡ false
      → BaseHas here locals a
  read_by_member x reads a is base fine whole = by_form (is_tuple_form (out-Shape a.shape)) refl
    where
      by_form : (t : Bool) → is_tuple_form (out-Shape a.shape) ≡ t → BaseHas here locals a
      by_form true tuple = inr tuple
      by_form false tuple =
          inl (
            base,
            fine,
            λ registers c w inside slots seen.
                let f : Candidate = x.candidate in
                let bounded = chosen_called here registers c w fs found.shapes x reads
                (called here locals name args stand h are registers c w inside) in
                let learnt = learnt_all f.params found.shapes (holes f.variables) x.known (is_taken fs found.shapes x reads) in
                inr (subst (λ s. (n : ℕ) × (below n s ≡ true)) (sym is)
                (form_below here.setting.types (put (at x.known) f.answer) (out-Shape (put (at x.known) f.answer)) refl whole
                (ap (λ s. is_tuple_form (out-Shape s)) (sym is) ∙ tuple)
                (put_not_never f.variables f.answer (at x.known) bounded.answer
                (λ i. ap (λ t. fills t (at x.known i)) (sym (at_holes f.variables i)) ∙ at_below (holes f.variables) x.known learnt.0 i)))),
          )

  base_has : (o : Option Candidate) (reader : Option Chosen) → one_of (here.setting.value name.text) fs ≡ o → chosen fs found.shapes ≡ reader
      → BaseStands here locals (base_of o reader) → counted here.setting.types (base_of o reader).shape ≡ true → (base_of o reader).faults ≡ []
      → BaseHas here locals (base_of o reader)
  base_has (Some f) reader one reads base fine e = absurd (one_fails here locals name args stand h are f reader one reads e)
  base_has None None one reads base fine e =
      let first = (written_by name fs found None None (meant_aim name args fs None here.setting locals)).faults in
      let k = both_empty (first ++ unread name (length args) None None) (open_faults name.place (read_shape None)) e in
      not_none (both_empty first (unread name (length args) None None) k.0).1
  base_has None (Some x) one reads base fine e =
      let s : Shape = put (at x.known) x.candidate.answer in
      let first = (written_by name fs found (Some x) None (meant_aim name args fs None here.setting locals)).faults in
      let k = both_empty (first ++ unread name (length args) None (Some x)) (open_faults name.place s) e in
      read_by_member x reads (base_of None (Some x)) refl base fine (not_open name.place s (leaves_open s) refl k.1)

  pub call_base_has : counted here.setting.types (read_aimed (Some (name, args)) here.setting locals (call_aim name args here.setting locals)).shape ≡ true
      → (read_aimed (Some (name, args)) here.setting locals (call_aim name args here.setting locals)).faults ≡ []
      → BaseHas here locals (read_aimed (Some (name, args)) here.setting locals (call_aim name args here.setting locals))
  call_base_has fine e =
      base_has (one_of (here.setting.value name.text) fs) (chosen fs found.shapes) refl refl
      (call_base_stands here locals name args stand h are e) fine e
