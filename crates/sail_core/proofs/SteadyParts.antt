-- Patterns, targets and calls are steady.
use Rattle.std.proofs.Common.{ℕ, Bool, true, false, List, [], ◌∷◌, ◌++◌, length, map, nat_eq}
use Rattle.std.proofs.Common.{if◌then◌else◌, sym, subst}
use Rattle.sail_types.specs.declared.values.Value.{Value}
use Rattle.sail_core.specs.declared.patterns.Head.{Head}
use Rattle.sail_core.specs.declared.patterns.Form.{Form}
use Rattle.sail_core.specs.declared.patterns.Form.TheVariants as F
use Rattle.sail_core.specs.declared.patterns.Pattern.{Pattern, roll-Pattern, fold-roll-Pattern, map-Pattern, ind-Pattern}
use Rattle.sail_core.specs.declared.patterns.Step.{Step}
use Rattle.sail_core.specs.declared.patterns.Step.TheVariants as S
use Rattle.sail_core.specs.declared.patterns.Arm.{Arm}
use Rattle.sail_core.specs.declared.patterns.Arm.TheVariants as A
use Rattle.sail_core.specs.Run as R
use Rattle.sail_core.specs.Run.{Local, Now, Run, gives, needs, ◌then◌}
use Rattle.sail_core.specs.Making.{World, plainly}
use Rattle.sail_core.specs.Patterns.{Seen, Parts, Other, Wrong, as_run, looked, parts_of, Matcher, named, parts_match, pattern_meaning, matcher}
use Rattle.sail_core.specs.Patterns.{Hand, with_values, with_name, value_of, step_meaning, steps_meaning, found_in, arm_meaning}
use Rattle.sail_core.specs.Steady.{Steady, SteadyWorld}
use Rattle.sail_core.proofs.Growth.{at_once, then_steady, gives_steady, needs_steady}

-- ---- patterns

seen_steady : (s : Seen Value) → Steady (as_run s)
seen_steady (Parts xs) now = at_once now
seen_steady Other now = at_once now
seen_steady Wrong now = tt

pub parts_steady : (w : World Value) (head : Head) (k : ℕ) (x : Value) → Steady (parts_of plainly w head k x)
parts_steady w head k x = seen_steady (looked plainly w.numbers head k x)

abbrev pub SteadyMatcher : Matcher Value → Type 0
SteadyMatcher m = (x : Value) → Steady (m x)

abbrev pub AllMatchers : List (Matcher Value) → Type 0
AllMatchers [] = Unit {0}
AllMatchers (m ∷ ms) = SteadyMatcher m × AllMatchers ms

pub match_steady : (ps : List (Matcher Value)) → AllMatchers ps → (xs : List Value) → Steady (parts_match ps xs)
match_steady [] h [] = gives_steady {A = List (Local Value)} []
match_steady [] h (x ∷ xs) = λ now. tt
match_steady (p ∷ ps) h [] = λ now. tt
match_steady (p ∷ ps) h (x ∷ xs) =
    then_steady (p x) (λ found. parts_match ps xs then λ others. gives (found ++ others)) (h.0 x)
    (λ found. then_steady (parts_match ps xs) (λ others. gives (found ++ others)) (match_steady ps h.1 xs) (λ others. gives_steady {A = List (Local Value)}
    (found ++ others)))

pub form_steady : (w : World Value) → SteadyWorld w → (form : Form) (ps : List (Matcher Value)) → AllMatchers ps → SteadyMatcher
    (pattern_meaning plainly w form ps)
form_steady w s F.Any [] h x = gives_steady {A = List (Local Value)} []
form_steady w s (F.Binds name) [] h x = gives_steady (named name x)
form_steady w s (F.As name) (p ∷ []) h x = then_steady (p x) (λ found. gives (found ++ named name x)) (h.0 x) (λ found. gives_steady {A = List (Local Value)}
    (found ++ named name x))
form_steady w s (F.Typed written) (p ∷ []) h x = h.0 x
form_steady w s (F.Opens head) ps h x = then_steady (parts_of plainly w head (length ps) x) (parts_match ps) (parts_steady w head (length ps) x)
    (match_steady ps h)
form_steady w s (F.Maps d) (p ∷ []) h x = then_steady (w.way d x) p (s.way d x) h.0
form_steady w s (F.Sees d) (p ∷ []) h x = then_steady (w.way d x) p (s.way d x) h.0
form_steady w s form ps h x = λ now. tt

module _ (w : World Value) (s : SteadyWorld w) where
  Such : Pattern → Type 0
  Such p = SteadyMatcher (matcher plainly w p)

  such_parts : (ys : List ((p : Pattern) × Such p)) → AllMatchers (map (matcher plainly w) (map (λ y. y.0) ys))
  unfolding Such
  such_parts [] = tt
  such_parts (y ∷ ys) = (y.1, such_parts ys)

  pub pattern_steady : (p : Pattern) → SteadyMatcher (matcher plainly w p)
  unfolding Such
  pattern_steady = ind-Pattern Such (λ p y is. subst (λ d. Such (roll-Pattern d)) is (
      subst SteadyMatcher (sym (fold-roll-Pattern (Matcher Value) (λ p. pattern_meaning plainly w p.form p.parts) (map-Pattern
      ((p : Pattern) × Such p) Pattern (λ q. q.0) y)))
      (form_steady w s y.form (map (matcher plainly w) (map (λ q. q.0) y.parts)) (such_parts y.parts))))

  patterns_steady : (ps : List Pattern) → AllMatchers (map (matcher plainly w) ps)
  patterns_steady [] = tt
  patterns_steady (p ∷ ps) = (pattern_steady p, patterns_steady ps)

  hand_step : (st : Step) (hand : Hand Value) → Steady (step_meaning plainly w st hand)
  hand_step (S.Opens i head k) hand = then_steady (value_of hand i) (λ x. parts_of plainly w head k x then λ xs. gives (with_values hand xs)) (needs_steady _)
      (λ x. then_steady (parts_of plainly w head k x) (λ xs. gives (with_values hand xs)) (parts_steady w head k x) (λ xs. gives_steady
      (with_values hand xs)))
  hand_step (S.Sees i d) hand = then_steady (value_of hand i) (λ x. w.way d x then λ y. gives (with_values hand (y ∷ []))) (needs_steady _)
      (λ x. then_steady (w.way d x) (λ y. gives (with_values hand (y ∷ []))) (s.way d x) (λ y. gives_steady (with_values hand (y ∷ []))))
  hand_step (S.Names i name) hand = then_steady (value_of hand i) (λ x. gives (with_name hand name x)) (needs_steady _) (λ x. gives_steady
      (with_name hand name x))

  hand_steps : (ss : List Step) (hand : Hand Value) → Steady (steps_meaning plainly w ss hand)
  hand_steps [] hand = gives_steady hand
  hand_steps (st ∷ ss) hand = then_steady (step_meaning plainly w st hand) (steps_meaning plainly w ss) (hand_step st hand) (hand_steps ss)

  count_steady : {A : Type 0} (b : Bool) (r : Run Value A) → Steady r → Steady (if b then r else R.stuck)
  count_steady true r h = h
  count_steady false r h = λ now. tt

  pub arm_steady : (arm : Arm) (xs : List Value) → Steady (arm_meaning plainly w arm xs)
  arm_steady (A.Nested ps) xs = count_steady (nat_eq (length xs) (length ps)) (parts_match (map (matcher plainly w) ps) xs) (match_steady (map
      (matcher plainly w) ps) (patterns_steady ps) xs)
  arm_steady (A.Flat k ss) xs = count_steady (nat_eq (length xs) k) (steps_meaning plainly w ss (record { values = xs; found = [] }) then found_in)
      (then_steady (steps_meaning plainly w ss (record { values = xs; found = [] })) found_in (hand_steps ss (record { values = xs; found = [] }))
      (λ hand. gives_steady hand.found))
