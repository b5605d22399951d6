-- A part that is changed in place.
use Rattle.std.proofs.Common.{◌≡◌, ℕ, List, [], ◌∷◌, ◌++◌, Option, Some, None, option_map, refl, sym, ap, ◌∙◌, subst}
use Rattle.std.specs.Prelude.{slice_get}
use Rattle.sail_types.specs.declared.values.Value.{Value, out-Value}
use Rattle.sail_types.specs.declared.values.Value.TheVariants as V
use Rattle.model_state.specs.RunState.{RunState, Access, Ran}
use Rattle.jib.specs.declared.types.ValueType.{ValueType}
use Rattle.jib.specs.declared.code.Source.{Source}
use Rattle.jib.specs.declared.code.Target.{Target}
use Rattle.jib.specs.declared.code.Operation.{Operation}
use Rattle.jib.specs.declared.code.Operation.TheVariants as N
use Rattle.jib.specs.declared.code.Module.{Module}
use Rattle.jib.specs.Operations as O
use Rattle.jib.specs.Operations.{worked_out}
use Rattle.jib.specs.Jib as J
use Rattle.jib_values.specs.Sources.{filled, source_of, source_value, source_values}
use Rattle.jib_values.specs.Results.{Wrote}
use Rattle.jib_values.proofs.ChangeLaws.{wrote_over}
use Rattle.jib_machine.specs.declared.act.Act.TheVariants as A
use Rattle.jib_machine.specs.declared.change.Part.{Part}
use Rattle.jib_machine.specs.declared.change.Part.TheVariants as P
use Rattle.jib_machine.specs.parts.Begun.{store}
use Rattle.jib_machine.specs.parts.Acts.{Acted}
use Rattle.jib_machine.specs.parts.Changes.{Changes, operation_of, sources_of, result_value}
use Rattle.jib_machine.proofs.ActLaws.{write_is}

-- what a change comes to leaves the state as it is
part_plain : (t : Option ValueType) (part : Part) (vs : List Value) (hart : ℕ) (s : RunState)
    → J.operate t (operation_of part) vs hart s ≡ option_map (J.plain s) (worked_out t (operation_of part) vs)
part_plain t (P.Item i x) vs hart s = refl
part_plain t (P.Field k x) vs hart s = refl

module _ (m : Module) (ls : List Value) (hart : ℕ) (t : Target) (typ : ℕ) (op : Operation) (vs : List Value) (old : List Value) (s : RunState) where
  plain_applied : (w : Option Value) (new : List Value) (s' : RunState)
      → J.operate (slice_get m.types typ) op vs hart s ≡ option_map (J.plain s) w
      → Wrote hart t (result_value m.types typ w) old new s s'
      → (k : ℕ) → Acted m (λ xs. J.apply m ls hart t typ op vs (filled old) (store s k xs)) A.Go old new s k s' k
  plain_applied None new s' e w k xs =
      (xs, ap (λ o. J.finish m ls hart t typ o (filled old) (store s k xs)) e ∙ write_is m ls hart t _ old new s s' k xs w)
  plain_applied (Some v) new s' e w k xs =
      (xs ++ [], ap (λ o. J.finish m ls hart t typ o (filled old) (store s k xs)) e ∙ write_is m ls hart t _ old new s s' k (xs ++ []) w)

pub part_applied : (m : Module) (ls : List Value) (hart : ℕ) (t : Target) (typ typ' : ℕ) (op : Operation) (rs : List Source) (part : Part)
    (old new : List Value) (s s' : RunState) → Changes t op rs part → typ ≡ typ'
    → Wrote hart t (result_value m.types typ (worked_out (slice_get m.types typ) (operation_of part)
    (source_values ls hart s old (sources_of t part)))) old new s s'
    → (k : ℕ) → Acted m (λ xs. J.apply m ls hart t typ' op (source_values ls hart s old rs) (filled old) (store s k xs)) A.Go old new s k s' k
part_applied m ls hart t typ typ' op rs part old new s s' is et w k =
    let vs = source_values ls hart s old (sources_of t part) in
    let first = plain_applied m ls hart t typ (operation_of part) vs old s _ new s' (part_plain (slice_get m.types typ) part vs hart s) w k in
    subst (λ q. Acted m (λ xs. J.apply m ls hart t q op (source_values ls hart s old rs) (filled old) (store s k xs)) A.Go old new s k s' k) et
    (subst (λ q. Acted m (λ xs. J.apply m ls hart t typ q (source_values ls hart s old rs) (filled old) (store s k xs)) A.Go old new s k s' k)
    (sym is.operation)
    (subst (λ q. Acted m (λ xs. J.apply m ls hart t typ (operation_of part) (source_values ls hart s old q) (filled old) (store s k xs)) A.Go old new s k
    s' k) (sym is.sources) first))

-- what was taken out, changed and written is what the operation works out
module _ (m : Module) (ls : List Value) (hart : ℕ) (t : Target) (typ : ℕ) (old mid new : List Value) (s s1 s2 : RunState) where
  abbrev Works : Operation → List Source → Type 0
  Works op rs = Wrote hart t (result_value m.types typ (worked_out (slice_get m.types typ) op (source_values ls hart s old rs))) old new s s2

  changed : (op : Operation) (rs : List Source) (made : Option Value) → Wrote hart t V.Unit old mid s s1
      → Wrote hart t (result_value m.types typ made) mid new s1 s2
      → made ≡ worked_out (slice_get m.types typ) op (source_values ls hart s old rs) → Works op rs
  changed op rs made first second e =
      subst (λ o. Wrote hart t (result_value m.types typ o) old new s s2) e (wrote_over hart t V.Unit _ old mid new s s1 s2 first second)

  pub item_changed : (i x : Source) (place value whole : Value) (made : Option Value) → place ≡ source_value ls hart s old i
      → value ≡ source_value ls hart s old x → whole ≡ source_value ls hart s old (source_of t) → Wrote hart t V.Unit old mid s s1
      → made ≡ O.or_old whole (O.index_of (out-Value place)) (λ n. O.with_item (out-Value whole) n value (out-Value value))
      → Wrote hart t (result_value m.types typ made) mid new s1 s2 → Works N.WithItem (source_of t ∷ i ∷ x ∷ [])
  item_changed i x place value whole made ep ev ew first em second =
      changed N.WithItem (source_of t ∷ i ∷ x ∷ []) made first second (em
      ∙ (λ j. O.or_old (ew j) (O.index_of (out-Value (ep j))) (λ n. O.with_item (out-Value (ew j)) n (ev j) (out-Value (ev j)))))

  pub field_changed : (k : ℕ) (x : Source) (value whole : Value) (made : Option Value) → value ≡ source_value ls hart s old x
      → whole ≡ source_value ls hart s old (source_of t) → Wrote hart t V.Unit old mid s s1 → made ≡ O.with_field k (out-Value whole) value
      → Wrote hart t (result_value m.types typ made) mid new s1 s2 → Works (N.WithField k) (source_of t ∷ x ∷ [])
  field_changed k x value whole made ev ew first em second =
      changed (N.WithField k) (source_of t ∷ x ∷ []) made first second (em ∙ (λ j. O.with_field k (out-Value (ew j)) (ev j)))
