-- What a pattern does with a value: it gives the names that it binds, or says No (Sail language manual, "Pattern matching").
use Rattle.std.specs.Bool.{beq}
use Rattle.std.specs.Str.{bytes_eq}
use Rattle.std.specs.Prelude.{ℕ, zero, suc, ◌+◌, ◌-◌, nat_eq, nat_le, Bool, true, false, ◌&&◌, if◌then◌else◌}
use Rattle.std.specs.Prelude.{List, [], ◌∷◌, ◌++◌, length, take, drop, map, reverse, slice_get, Option, Some, None, option_map}
use Rattle.std.specs.Ordering.{int_eq}
use Rattle.sail_base.specs.Bits.{eq_bits}
use Rattle.sail_types.specs.Sums.{and_then}
use Rattle.sail_types.specs.declared.numbers.Num.{Num}
use Rattle.sail_types.specs.declared.values.Value.{Value, Value-F, out-Value}
use Rattle.sail_types.specs.declared.values.Value.TheVariants as V
use Rattle.sail_types.specs.declared.values.Value.TheOpen as W
use Rattle.sail_core.specs.declared.patterns.Literal.{Literal}
use Rattle.sail_core.specs.declared.patterns.Literal.TheVariants as L
use Rattle.sail_core.specs.declared.patterns.Head.{Head}
use Rattle.sail_core.specs.declared.patterns.Head.TheVariants as H
use Rattle.sail_core.specs.declared.patterns.Form.{Form}
use Rattle.sail_core.specs.declared.patterns.Form.TheVariants as F
use Rattle.sail_core.specs.declared.patterns.Pattern.{Pattern, fold-Pattern}
use Rattle.sail_core.specs.declared.patterns.Step.{Step}
use Rattle.sail_core.specs.declared.patterns.Step.TheVariants as S
use Rattle.sail_core.specs.declared.patterns.Arm.{Arm}
use Rattle.sail_core.specs.declared.patterns.Arm.TheVariants as A
use Rattle.sail_core.specs.Run.{Local, Run, gives, falls, stuck, needs, local, ◌then◌}
use Rattle.sail_core.specs.Values.{bits_typ, natural_of, parts_in}
use Rattle.sail_core.specs.Numbers.{Givens, known}
use Rattle.sail_core.specs.Making.{Making, World, component, payload, one_item, without_first}

-- ---- one level: the parts into which a head opens a value

-- what is seen of a value: parts, something else than the head, or a value that the head doesn't fit
pub data Seen (X : Type 0) : Type 0 where
  Parts : List X → Seen X
  Other : Seen X
  Wrong : Seen X

abbrev pub tested : {X : Type 0} → Bool → Seen X
tested true = Parts []
tested false = Other

abbrev pub parts_if : {X : Type 0} → Bool → List X → Seen X
parts_if true xs = Parts xs
parts_if false xs = Other

abbrev pub parts_or_wrong : {X : Type 0} → Option (List X) → Seen X
parts_or_wrong None = Wrong
parts_or_wrong (Some xs) = Parts xs

-- a literal: a bit string of another width has no answer
abbrev pub literal_seen : {X : Type 0} → Literal → Value-F Value → Seen X
literal_seen L.Unit W.Unit = Parts []
literal_seen (L.Integer n) (W.Integer m) = tested (int_eq n m)
literal_seen (L.Truth a) (W.Truth b) = tested (beq a b)
literal_seen (L.Bit a) (W.Bit b) = tested (beq a b)
literal_seen (L.Bits bs) (W.Bits cs) = if nat_eq (length bs) (length cs) then tested (eq_bits bs cs) else Wrong
literal_seen (L.String s) (W.String t) = tested (bytes_eq s t)
literal_seen (L.Member e k) (W.Member f l) = if nat_eq e f then tested (nat_eq k l) else Wrong
literal_seen literal v = Wrong

-- the parts of a tuple, counted from this number on
abbrev pub components : {X : Type 0} → Making X → X → ℕ → List Value → List X
components z x i [] = []
components z x i (v ∷ vs) = z.part (component i) x v ∷ components z x (suc i) vs

abbrev pub items : {X : Type 0} → Making X → X → List Value → List X
items z x vs = map (z.part one_item x) vs

-- a payload as one part, or as the parts of a tuple
abbrev pub payload_parts : {X : Type 0} → Making X → ℕ → X → Option (List X)
payload_parts z (suc zero) x = Some (x ∷ [])
payload_parts z k x = option_map (components z x 0) (parts_in (z.val x))

abbrev pub constructed : {X : Type 0} → Bool → Option (List X) → Seen X
constructed true parts = parts_or_wrong parts
constructed false parts = Other

-- the first item of a list, and the list of the others
abbrev pub split : {X : Type 0} → Making X → X → List Value → Seen X
split z x [] = Other
split z x (v ∷ vs) = Parts (z.part one_item x v ∷ z.part without_first x (V.List vs) ∷ [])

-- ---- the widths of the parts of a word

abbrev pub width_of : Givens → Option Num → Option (Option ℕ)
width_of nu None = Some None
width_of nu (Some t) = option_map Some (and_then (known nu t) natural_of)

abbrev pub widths_of : Givens → List (Option Num) → Option (List (Option ℕ))
widths_of nu [] = Some []
widths_of nu (w ∷ ws) = and_then (width_of nu w) (λ n. option_map (λ ns. n ∷ ns) (widths_of nu ws))

abbrev pub known_sum : List (Option ℕ) → ℕ
known_sum [] = 0
known_sum (None ∷ ws) = known_sum ws
known_sum (Some n ∷ ws) = n + known_sum ws

abbrev pub solved : ℕ → Option ℕ → ℕ
solved rest (Some n) = n
solved rest None = rest

-- the highest bits go to the first part, and the parts are to use up the word
abbrev pub cut : {X : Type 0} → Making X → List ℕ → List Bool → Option (List X)
cut z [] [] = Some []
cut z [] (b ∷ bs) = None
cut z (n ∷ ns) bs =
    if nat_le n (length bs)
    then option_map (λ xs. z.fixed (bits_typ n) (V.Bits (drop (length bs - n) bs)) ∷ xs) (cut z ns (take (length bs - n) bs))
    else None

-- the part of unknown width takes the rest
abbrev pub cut_by : {X : Type 0} → Making X → List Bool → List (Option ℕ) → Option (List X)
cut_by z bs ws = cut z (map (solved (length bs - known_sum ws)) ws) bs

-- ---- heads

abbrev pub opened : {X : Type 0} → Making X → Givens → Head → ℕ → X → Value-F Value → Seen X
opened z nu (H.Is literal) k x v = literal_seen literal v
opened z nu H.Tuple k x (W.Tuple vs) = Parts (components z x 0 vs)
opened z nu (H.Constructor u c) k x (W.Union i j v) = constructed (nat_eq i u && nat_eq j c) (payload_parts z k (z.part (payload u c) x v))
opened z nu H.Vector k x (W.Vector vs) = Parts (items z x (reverse vs))
opened z nu H.List k x (W.List vs) = parts_if (nat_eq (length vs) k) (items z x vs)
opened z nu H.Cons k x (W.List vs) = split z x vs
opened z nu (H.Cut ws) k x (W.Bits bs) = parts_or_wrong (and_then (widths_of nu ws) (cut_by z bs))
opened z nu head k x v = Wrong

abbrev pub so_many : {X : Type 0} → ℕ → Seen X → Seen X
so_many k (Parts xs) = if nat_eq (length xs) k then Parts xs else Wrong
so_many k Other = Other
so_many k Wrong = Wrong

-- the parts, of which there are to be so many
abbrev pub looked : {X : Type 0} → Making X → Givens → Head → ℕ → X → Seen X
looked z nu head k x = so_many k (opened z nu head k x (out-Value (z.val x)))

abbrev pub as_run : {X : Type 0} → Seen X → Run X (List X)
as_run (Parts xs) = gives xs
as_run Other = falls
as_run Wrong = stuck

abbrev pub parts_of : {X : Type 0} → Making X → World X → Head → ℕ → X → Run X (List X)
parts_of z w head k x = as_run (looked z w.numbers head k x)

-- ---- nested patterns

abbrev pub Matcher : Type 0 → Type 0
Matcher X = X → Run X (List (Local X))

abbrev pub named : {X : Type 0} → List ℕ → X → List (Local X)
named name x = local name x ∷ []

-- parts from left to right, up to the first that doesn't match
abbrev pub parts_match : {X : Type 0} → List (Matcher X) → List X → Run X (List (Local X))
parts_match [] [] = gives []
parts_match (p ∷ ps) (x ∷ xs) = p x then λ found. parts_match ps xs then λ others. gives (found ++ others)
parts_match ps xs = stuck

-- one case for each form
abbrev pub pattern_meaning : {X : Type 0} → Making X → World X → Form → List (Matcher X) → Matcher X
pattern_meaning z w F.Any [] x = gives []
pattern_meaning z w (F.Binds name) [] x = gives (named name x)
pattern_meaning z w (F.As name) (p ∷ []) x = p x then λ found. gives (found ++ named name x)
pattern_meaning z w (F.Typed written) (p ∷ []) x = p x
pattern_meaning z w (F.Opens head) ps x = parts_of z w head (length ps) x then parts_match ps
pattern_meaning z w (F.Maps direction) (p ∷ []) x = w.way direction x then p
pattern_meaning z w (F.Sees direction) (p ∷ []) x = w.way direction x then p
pattern_meaning z w form ps x = stuck

abbrev pub matcher : {X : Type 0} → Making X → World X → Pattern → Matcher X
matcher {X} z w = fold-Pattern (Matcher X) (λ p. pattern_meaning z w p.form p.parts)

-- ---- steps

-- the values in hand, by number, and the names so far
pub record Hand (X : Type 0) : Type 0 where
  pub values : List X
  pub found : List (Local X)

abbrev pub with_values : {X : Type 0} → Hand X → List X → Hand X
with_values hand xs = record { values = hand.values ++ xs; found = hand.found }

abbrev pub with_name : {X : Type 0} → Hand X → List ℕ → X → Hand X
with_name hand name x = record { values = hand.values; found = hand.found ++ named name x }

abbrev pub value_of : {X : Type 0} → Hand X → ℕ → Run X X
value_of hand i = needs (slice_get hand.values i)

abbrev pub step_meaning : {X : Type 0} → Making X → World X → Step → Hand X → Run X (Hand X)
step_meaning z w (S.Opens i head k) hand = value_of hand i then λ x. parts_of z w head k x then λ xs. gives (with_values hand xs)
step_meaning z w (S.Sees i direction) hand = value_of hand i then λ x. w.way direction x then λ y. gives (with_values hand (y ∷ []))
step_meaning z w (S.Names i name) hand = value_of hand i then λ x. gives (with_name hand name x)

abbrev pub steps_meaning : {X : Type 0} → Making X → World X → List Step → Hand X → Run X (Hand X)
steps_meaning z w [] hand = gives hand
steps_meaning z w (s ∷ ss) hand = step_meaning z w s hand then steps_meaning z w ss

-- ---- arms

abbrev pub found_in : {X : Type 0} → Hand X → Run X (List (Local X))
found_in hand = gives hand.found

abbrev pub counted : {X A : Type 0} → ℕ → List X → Run X A → Run X A
counted k xs run = if nat_eq (length xs) k then run else stuck

-- what an arm does with the values that are matched
abbrev pub arm_meaning : {X : Type 0} → Making X → World X → Arm → List X → Run X (List (Local X))
arm_meaning z w (A.Nested ps) xs = counted (length ps) xs (parts_match (map (matcher z w) ps) xs)
arm_meaning z w (A.Flat k ss) xs = counted k xs (steps_meaning z w ss (record { values = xs; found = [] }) then found_in)
