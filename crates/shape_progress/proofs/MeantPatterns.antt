-- The checked reading of patterns and arms, over directions of mappings that are as they are meant.
use Rattle.std.proofs.Common.{◌≡◌, inl, suc, List, [], ◌∷◌, ◌++◌, map, length, ap, sym, refl, subst, Bool, true, false, nat_eq, if◌then◌else◌}
use Rattle.sail_base.specs.declared.place.Place.{Place}
use Rattle.sail_types.specs.declared.values.Value.{Value, out-Value}
use Rattle.model_state.specs.declared.cause.Cause.TheVariants as Stop
use Rattle.sail_core.specs.declared.patterns.Arm.{Arm}
use Rattle.sail_core.specs.declared.patterns.Arm.TheVariants as A
use Rattle.sail_core.specs.declared.patterns.Form.{Form}
use Rattle.sail_core.specs.declared.patterns.Form.TheVariants as F
use Rattle.sail_core.specs.declared.patterns.Head.{Head}
use Rattle.sail_core.specs.declared.patterns.Pattern.{Pattern, roll-Pattern, fold-roll-Pattern, map-Pattern, ind-Pattern}
use Rattle.sail_core.specs.declared.patterns.Step.{Step}
use Rattle.sail_core.specs.declared.patterns.Step.TheVariants as S
use Rattle.sail_core.specs.Run.{Run, gives, stops, stuck, within, ◌then◌}
use Rattle.sail_core.specs.Making.{World, plainly}
use Rattle.sail_core.specs.declared.tree.Giver.{Giver}
use Rattle.sail_core.specs.Meaning.{arm_taken, let_in}
use Rattle.sail_core.specs.Patterns.{Hand, Matcher, arm_meaning, found_in, matcher, named, parts_match, parts_of, pattern_meaning, step_meaning}
use Rattle.sail_core.specs.Patterns.{steps_meaning, value_of, with_values}
use Rattle.shape_progress.specs.Conditions.{head_met}
use Rattle.shape_progress.specs.Checks.{arm_then, checked_arm, checked_form, checked_pattern, let_then}
use Rattle.shape_progress.specs.Meant.{AsMeant, Callees, calling, CalledAsMeant}
use Rattle.shape_progress.proofs.Meant.{itself, met_as, or_as, then_as, within_as}

-- a pattern in both readings, which do the same but for stops
pub record Matched : Type 0 where
  pub plain : Matcher Value
  pub checked : Matcher Value
  pub meant : (v : Value) → AsMeant (plain v) (checked v)

abbrev pub plain_all : List Matched → List (Matcher Value)
plain_all ms = map (λ m. m.plain) ms

abbrev pub checked_all : List Matched → List (Matcher Value)
checked_all ms = map (λ m. m.checked) ms

parts_as : (ms : List Matched) (vs : List Value) → AsMeant (parts_match (plain_all ms) vs) (parts_match (checked_all ms) vs)
parts_as [] [] = λ now. inl refl
parts_as [] (v ∷ vs) = λ now. inl refl
parts_as (m ∷ ms) [] = λ now. inl refl
parts_as (m ∷ ms) (v ∷ vs) =
    then_as (m.plain v) (m.checked v) (λ found. parts_match (plain_all ms) vs then λ others. gives (found ++ others))
    (λ found. parts_match (checked_all ms) vs then λ others. gives (found ++ others)) (m.meant v)
    (λ found. then_as (parts_match (plain_all ms) vs) (parts_match (checked_all ms) vs) (λ others. gives (found ++ others))
    (λ others. gives (found ++ others)) (parts_as ms vs) (λ others. itself (gives (found ++ others))))

same_count : (ms : List Matched) → length (checked_all ms) ≡ length (plain_all ms)
same_count [] = refl
same_count (m ∷ ms) = ap suc (same_count ms)

module _ (w : World Value) (callees : Callees) (fine : CalledAsMeant w callees) where
  -- the world of the checked reading
  abbrev wc : World Value
  wc = calling w callees

  opens_as : (head : Head) (ms : List Matched) (v : Value)
      → AsMeant (pattern_meaning plainly w (F.Opens head) (plain_all ms) v) (pattern_meaning plainly wc (F.Opens head) (checked_all ms) v)
  opens_as head ms v =
      subst (λ k. AsMeant (parts_of plainly w head k v then parts_match (plain_all ms))
      (parts_of plainly w head (length (checked_all ms)) v then parts_match (checked_all ms))) (same_count ms)
      (then_as (parts_of plainly w head (length (checked_all ms)) v) (parts_of plainly w head (length (checked_all ms)) v)
      (parts_match (plain_all ms)) (parts_match (checked_all ms)) (itself (parts_of plainly w head (length (checked_all ms)) v)) (parts_as ms))

  form_as : (form : Form) (ms : List Matched) (v : Value)
      → AsMeant (pattern_meaning plainly w form (plain_all ms) v) (checked_form wc form (checked_all ms) v)
  form_as F.Any [] v = λ now. inl refl
  form_as (F.Binds name) [] v = λ now. inl refl
  form_as (F.As name) (m ∷ []) v =
      then_as (m.plain v) (m.checked v) (λ found. gives (found ++ named name v)) (λ found. gives (found ++ named name v)) (m.meant v)
      (λ found. itself (gives (found ++ named name v)))
  form_as (F.Typed written) (m ∷ []) v = m.meant v
  form_as (F.Opens head) ms v =
      met_as (head_met w.numbers head (length (checked_all ms)) (out-Value v)) (pattern_meaning plainly w (F.Opens head) (plain_all ms) v)
      (pattern_meaning plainly wc (F.Opens head) (checked_all ms) v) (opens_as head ms v)
  form_as (F.Maps d) (m ∷ []) v = then_as (w.way d v) (callees.way d v) m.plain m.checked (fine.way d v) m.meant
  form_as (F.Sees d) (m ∷ []) v = then_as (w.way d v) (callees.way d v) m.plain m.checked (fine.way d v) m.meant
  form_as form ms v = λ now. inl refl

  Such : Pattern → Type 0
  Such p = (v : Value) → AsMeant (matcher plainly w p v) (checked_pattern wc p v)

  matched : (y : (p : Pattern) × Such p) → Matched
  unfolding Such
  matched y = record { plain = matcher plainly w y.0; checked = checked_pattern wc y.0; meant = y.1 }

  plain_parts : (ys : List ((p : Pattern) × Such p)) → map (matcher plainly w) (map (λ y. y.0) ys) ≡ plain_all (map matched ys)
  unfolding matched
  plain_parts [] = refl
  plain_parts (y ∷ ys) = ap (λ ms. matcher plainly w y.0 ∷ ms) (plain_parts ys)

  checked_parts : (ys : List ((p : Pattern) × Such p)) → map (checked_pattern wc) (map (λ y. y.0) ys) ≡ checked_all (map matched ys)
  unfolding matched
  checked_parts [] = refl
  checked_parts (y ∷ ys) = ap (λ ms. checked_pattern wc y.0 ∷ ms) (checked_parts ys)

  pub pattern_as : (p : Pattern) (v : Value) → AsMeant (matcher plainly w p v) (checked_pattern wc p v)
  unfolding Such
  pattern_as = ind-Pattern Such (λ p y is. subst (λ d. Such (roll-Pattern d)) is (
      subst (λ (m : Matcher Value). (v : Value)
      → AsMeant (m v) (checked_pattern wc (roll-Pattern (map-Pattern ((p : Pattern) × Such p) Pattern (λ q. q.0) y)) v))
      (sym (fold-roll-Pattern (Matcher Value) (λ q. pattern_meaning plainly w q.form q.parts)
      (map-Pattern ((p : Pattern) × Such p) Pattern (λ q. q.0) y)))
      (subst (λ (m : Matcher Value). (v : Value)
      → AsMeant (pattern_meaning plainly w y.form (map (matcher plainly w) (map (λ q. q.0) y.parts)) v) (m v))
      (sym (fold-roll-Pattern (Matcher Value) (λ q. checked_form wc q.form q.parts) (map-Pattern ((p : Pattern) × Such p) Pattern (λ q. q.0) y)))
      (subst (λ (ms : List (Matcher Value)). (v : Value)
      → AsMeant (pattern_meaning plainly w y.form ms v) (checked_form wc y.form (map (checked_pattern wc) (map (λ q. q.0) y.parts)) v))
      (sym (plain_parts y.parts))
      (subst (λ (ms : List (Matcher Value)). (v : Value)
      → AsMeant (pattern_meaning plainly w y.form (plain_all (map matched y.parts)) v) (checked_form wc y.form ms v))
      (sym (checked_parts y.parts)) (form_as y.form (map matched y.parts)))))))

  -- ---- arms

  all_matched : List Pattern → List Matched
  all_matched [] = []
  all_matched (p ∷ ps) = record { plain = matcher plainly w p; checked = checked_pattern wc p; meant = pattern_as p } ∷ all_matched ps

  plain_arms : (ps : List Pattern) → map (matcher plainly w) ps ≡ plain_all (all_matched ps)
  unfolding all_matched
  plain_arms [] = refl
  plain_arms (p ∷ ps) = ap (λ ms. matcher plainly w p ∷ ms) (plain_arms ps)

  checked_arms : (ps : List Pattern) → map (checked_pattern wc) ps ≡ checked_all (all_matched ps)
  unfolding all_matched
  checked_arms [] = refl
  checked_arms (p ∷ ps) = ap (λ ms. checked_pattern wc p ∷ ms) (checked_arms ps)

  step_as : (st : Step) (hand : Hand Value) → AsMeant (step_meaning plainly w st hand) (step_meaning plainly wc st hand)
  step_as (S.Opens i head k) hand = λ now. inl refl
  step_as (S.Sees i d) hand =
      then_as (value_of hand i) (value_of hand i) (λ x. w.way d x then λ y. gives (with_values hand (y ∷ [])))
      (λ x. callees.way d x then λ y. gives (with_values hand (y ∷ []))) (itself (value_of hand i))
      (λ x. then_as (w.way d x) (callees.way d x) (λ y. gives (with_values hand (y ∷ []))) (λ y. gives (with_values hand (y ∷ []))) (fine.way d x)
      (λ y. itself (gives (with_values hand (y ∷ [])))))
  step_as (S.Names i name) hand = λ now. inl refl

  steps_as : (ss : List Step) (hand : Hand Value) → AsMeant (steps_meaning plainly w ss hand) (steps_meaning plainly wc ss hand)
  steps_as [] hand = λ now. inl refl
  steps_as (st ∷ ss) hand =
      then_as (step_meaning plainly w st hand) (step_meaning plainly wc st hand) (steps_meaning plainly w ss) (steps_meaning plainly wc ss) (step_as st hand)
      (steps_as ss)

  count_as : {X : Type 0} (t : Bool) (a b : Run Value X) → AsMeant a b → AsMeant (if t then a else stuck) (if t then b else stuck)
  count_as true a b h = h
  count_as false a b h = λ now. inl refl

  pub arm_as : (arm : Arm) (vs : List Value) → AsMeant (arm_meaning plainly w arm vs) (checked_arm wc arm vs)
  arm_as (A.Nested ps) vs =
      count_as (nat_eq (length vs) (length ps)) (parts_match (map (matcher plainly w) ps) vs) (parts_match (map (checked_pattern wc) ps) vs)
      (subst (λ ms. AsMeant (parts_match ms vs) (parts_match (map (checked_pattern wc) ps) vs)) (sym (plain_arms ps))
      (subst (λ ms. AsMeant (parts_match (plain_all (all_matched ps)) vs) (parts_match ms vs)) (sym (checked_arms ps)) (parts_as (all_matched ps) vs)))
  arm_as (A.Flat k ss) vs =
      count_as (nat_eq (length vs) k) (steps_meaning plainly w ss (record { values = vs; found = [] }) then found_in)
      (steps_meaning plainly wc ss (record { values = vs; found = [] }) then found_in)
      (then_as (steps_meaning plainly w ss (record { values = vs; found = [] })) (steps_meaning plainly wc ss (record { values = vs; found = [] })) found_in
      found_in (steps_as ss (record { values = vs; found = [] })) (λ hand. itself (found_in hand)))

  pub taken_as : (g : Giver) (arm : Arm) (a b : Run Value Value) → AsMeant a b → (vs : List Value)
      → AsMeant (arm_taken plainly w g arm a vs) (arm_then wc arm b vs)
  taken_as g arm a b k vs =
      then_as (arm_meaning plainly w arm vs) (checked_arm wc arm vs) (λ found. within found a) (λ found. within found b) (arm_as arm vs)
      (λ found. within_as found a b k)

  pub let_as : (g : Giver) (place : Place) (arm : Arm) (a b : Run Value Value) → AsMeant a b → (v : Value)
      → AsMeant (let_in plainly w g place arm v a) (let_then wc place arm v b)
  let_as g place arm a b k v =
      or_as (arm_taken plainly w g arm a (v ∷ [])) (arm_then wc arm b (v ∷ [])) (stops (Stop.MatchFailure place)) (stops (Stop.MatchFailure place))
      (taken_as g arm a b k (v ∷ [])) (itself (stops (Stop.MatchFailure place)))
