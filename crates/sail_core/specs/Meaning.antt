-- What a node of the core means: one case for each kind with its count of parts.
use Rattle.std.specs.Prelude.{ℕ, zero, suc, nat_lt, ℤ, pos, ◌+ℤ◌, ◌-ℤ◌, int_le, Bool, List, [], ◌∷◌, ◌++◌, length, map}
use Rattle.std.specs.Prelude.{slice_get, Option, Some, None, if◌then◌else◌}
use Rattle.sail_base.specs.declared.place.Place.{Place}
use Rattle.sail_types.specs.declared.types.Typ.{Typ}
use Rattle.sail_types.specs.declared.types.Typ.TheVariants as T
use Rattle.sail_types.specs.declared.values.Value.{Value}
use Rattle.sail_types.specs.declared.values.Value.TheVariants as V
use Rattle.model_state.specs.declared.cause.Cause.TheVariants.{Exit, MatchFailure, Assertion, Measure, WorkLimit}
use Rattle.sail_core.specs.declared.patterns.Arm.{Arm}
use Rattle.sail_core.specs.declared.targets.Suffix.{Suffix}
use Rattle.sail_core.specs.declared.targets.Way.{Way}
use Rattle.sail_core.specs.declared.targets.Way.TheVariants as Y
use Rattle.sail_core.specs.declared.tree.Counting.{Counting}
use Rattle.sail_core.specs.declared.tree.Counting.TheVariants.{Up, Down}
use Rattle.sail_core.specs.declared.tree.Giver.{Giver}
use Rattle.sail_core.specs.declared.tree.Giver.TheVariants as Gives
use Rattle.sail_core.specs.declared.tree.Statement.{Statement}
use Rattle.sail_core.specs.declared.tree.Statement.TheVariants as S
use Rattle.sail_core.specs.declared.tree.Kind.{Kind}
use Rattle.sail_core.specs.declared.tree.Kind.TheVariants as K
use Rattle.sail_core.specs.declared.tree.Core.{Core, fold-Core}
use Rattle.sail_core.specs.Run.{Now, Run, gives, falls, stuck, stops, returns, throws, needs, if_so, in_turn, tick, caught, or_so}
use Rattle.sail_core.specs.Run.{Local, within, local, held_in, ◌then◌}
use Rattle.sail_core.specs.Values.{tuple_of, vector_of, list_of, cons_of, with_of, literal_typ, literal_value, int_typ, Into, field_way, item_way, slice_way}
use Rattle.sail_core.specs.Values.{struct_of}
use Rattle.sail_core.specs.Numbers.{known, known_truth}
use Rattle.sail_core.specs.Making.{Making, World, plainly, made, nothing, integer, truth, natural}
use Rattle.sail_core.specs.Patterns.{arm_meaning}
use Rattle.sail_core.specs.Targets.{called, variable_read, register_read, spotting, assigned}

-- ---- arms

-- one piece, and where it says No another one, to which nothing is opened that the first opened
abbrev pub or_then : {X : Type 0} → Making X → Run X X → Run X X → Run X X
or_then z first next now = or_so (first now) (λ after. next (z.back now after))

-- what names hold
abbrev pub held_by : {X : Type 0} → Local X → X
held_by l = l.held

-- the numbers that what an arm matches gives, and what its names hold, in order
abbrev pub names_noted : {X : Type 0} → Making X → Giver → List X → List (Local X) → Run X (Unit {0})
names_noted z g xs found = z.note g (V.Tuple (z.all (xs ++ map held_by found)))

-- a body under the names that its arm binds
abbrev pub arm_taken : {X : Type 0} → Making X → World X → Giver → Arm → Run X X → List X → Run X X
arm_taken z w g arm body xs = arm_meaning z w arm xs then λ found. names_noted z g xs found then λ t. within found body

-- the first arm of the node of a number that is taken, its guard evaluated where its pattern matched; none, where no arm is
abbrev pub first_of : {X : Type 0} → Making X → World X → ℕ → List Arm → List (Run X X) → Run X X → List X → Run X X
first_of z w k [] [] none xs = none
first_of z w k (arm ∷ arms) (body ∷ bodies) none xs =
    or_then z (z.inside (arm_taken z w (Gives.Arm k (length arms)) arm body xs)) (first_of z w k arms bodies none xs)
first_of z w k arms bodies none xs = stuck

-- what a pattern binds, in scope of a piece; the run stops at the place where it doesn't match
abbrev pub let_in : {X : Type 0} → Making X → World X → Giver → Place → Arm → X → Run X X → Run X X
let_in z w g place arm x body = or_then z (arm_taken z w g arm body (x ∷ [])) (stops (MatchFailure place))

-- what is thrown in a piece is matched; what no arm takes is thrown on
abbrev pub tried : {X : Type 0} → Making X → World X → ℕ → List Arm → List (Run X X) → Run X X → Run X X
tried z w k arms bodies piece now =
    caught (z.inside piece now) (λ v after. (made z k [] v then λ x. first_of z w k arms bodies (throws v) (x ∷ [])) (z.back now after))

-- where ways meet: the value of the way that was taken is made anew, of `()`, by which a `try` tells it from what it catches
abbrev pub met_at : {X : Type 0} → Making X → ℕ → Run X X → Run X X
met_at z k ways = ways then λ x. made z k (nothing z ∷ []) (z.val x)

-- ---- blocks

-- statements of the block of a number, each with the rest of the block behind it
abbrev pub block : {X : Type 0} → Making X → World X → ℕ → List Statement → List (Run X X) → Run X X
block z w k [] [] = gives (nothing z)
block z w k [] (value ∷ []) = value
block z w k (S.Evaluate ∷ ss) (a ∷ parts) = a then λ x. block z w k ss parts
block z w k (S.Define place arm ∷ ss) (a ∷ parts) = a then λ x. let_in z w (Gives.Arm k (length ss)) place arm x (block z w k ss parts)
block z w k (S.Declare name written ∷ ss) (a ∷ parts) = a then λ x. within (local name x ∷ []) (block z w k ss parts)
block z w k ss parts = stuck

-- ---- loops: a turn is a tick, so there are no more turns than ticks; each begins with what was opened before the loop

abbrev pub from_before : {X A : Type 0} → Making X → Now X → Run X A → Run X A
from_before z before piece now = piece (z.back before now)

abbrev pub in_span : Counting → ℤ → ℤ → Bool
in_span Up i to = int_le i to
in_span Down i to = int_le to i

abbrev pub next_of : Counting → ℤ → ℤ → ℤ
next_of Up i by = i +ℤ by
next_of Down i by = i -ℤ by

abbrev pub count_turns : {X : Type 0} → Making X → Now X → ℕ → List ℕ → Counting → ℤ → ℤ → ℤ → Run X X → Run X X
count_turns z before zero name way i to by body = stops WorkLimit
count_turns z before (suc turns) name way i to by body =
    if_so
    (tick then λ t. within (local name (z.fixed int_typ (V.Integer i)) ∷ []) (from_before z before body)
    then λ x. count_turns z before turns name way (next_of way i by) to by body)
    (gives (nothing z))
    (in_span way i to)

abbrev pub foreach : {X : Type 0} → Making X → List ℕ → Counting → ℤ → ℤ → ℤ → Run X X → Run X X
foreach z name way from to by body now = if_so (count_turns z now (suc now.ticks) name way from to by body) stuck (int_le (pos 1) by) now

-- the measure has to be below that of the turn before
abbrev pub fallen : {X : Type 0} → Place → Option ℕ → ℕ → Run X ℕ
fallen place None n = gives n
fallen place (Some last) n = if nat_lt n last then gives n else stops (Measure place)

abbrev pub loop_measure : {X : Type 0} → Making X → Now X → Place → Run X X → Option ℕ → Run X ℕ
loop_measure z before place measure last = from_before z before measure then λ x. natural z x then fallen place last

abbrev pub condition_of : {X : Type 0} → Making X → Now X → Run X X → Run X Bool
condition_of z before condition = from_before z before condition then truth z

-- condition, tick, measure, body
abbrev pub while_turns : {X : Type 0} → Making X → Now X → ℕ → Place → Run X X → Run X X → Run X X → Option ℕ → Run X X
while_turns z before zero place measure condition body last = stops WorkLimit
while_turns z before (suc turns) place measure condition body last =
    condition_of z before condition then if_so
    (tick then λ t. loop_measure z before place measure last then λ n. from_before z before body
    then λ x. while_turns z before turns place measure condition body (Some n))
    (gives (nothing z))

-- tick, measure, body, condition
abbrev pub repeat_turns : {X : Type 0} → Making X → Now X → ℕ → Place → Run X X → Run X X → Run X X → Option ℕ → Run X X
repeat_turns z before zero place measure body condition last = stops WorkLimit
repeat_turns z before (suc turns) place measure body condition last =
    tick then λ t. loop_measure z before place measure last then λ n. from_before z before body then λ x. condition_of z before condition
    then if_so (gives (nothing z)) (repeat_turns z before turns place measure body condition (Some n))

abbrev pub while : {X : Type 0} → Making X → Place → Run X X → Run X X → Run X X → Run X X
while z place measure condition body now = while_turns z now (suc now.ticks) place measure condition body None now

abbrev pub repeat : {X : Type 0} → Making X → Place → Run X X → Run X X → Run X X → Run X X
repeat z place measure body condition now = repeat_turns z now (suc now.ticks) place measure body condition None now

-- ---- parts

abbrev pub taken : {X : Type 0} → Making X → ℕ → Into → X → List X → Run X X
taken z k way x indexes = needs (way.take_out (z.val x)) then λ v. made z k (x ∷ indexes) v

-- a suffix with its indexes and what it takes out, and then the suffixes behind it
abbrev pub suffix_then : {X : Type 0} → Making X → ℕ → Way → List (Run X X) → X → (List (Run X X) → X → Run X X) → Run X X
suffix_then z k (Y.Field struct i) parts x more = taken z k (field_way struct i) x [] then more parts
suffix_then z k Y.Item (a ∷ parts) x more = a then λ y. integer z y then λ i. taken z k (item_way i) x (y ∷ []) then more parts
suffix_then z k Y.Slice (a ∷ b ∷ parts) x more =
    a then λ y. b then λ u. integer z y then λ hi. integer z u then λ lo. taken z k (slice_way hi lo) x (y ∷ u ∷ []) then more parts
suffix_then z k way parts x more = stuck

abbrev pub suffixes_of : {X : Type 0} → Making X → List Suffix → List (Run X X) → X → Run X X
suffixes_of z [] [] x = gives x
suffixes_of z [] (a ∷ parts) x = stuck
suffixes_of z (s ∷ ss) parts x = suffix_then z s.number s.way parts x (suffixes_of z ss)

abbrev pub put : {X : Type 0} → Making X → ℕ → Into → X → List X → X → Run X X
put z k way x indexes y = needs (way.put_in (z.val x) (z.val y)) then λ v. made z k (x ∷ indexes ++ y ∷ []) v

-- ---- the rest

-- a value that is made of those of the parts
abbrev pub built : {X : Type 0} → Making X → ℕ → List (Run X X) → (List Value → Option Value) → Run X X
built z k parts make = in_turn parts then λ xs. needs (make (z.all xs)) then made z k xs

-- a truth, tested, as it is
abbrev pub truly : {X : Type 0} → Making X → X → Run X X
truly z x = truth z x then λ b. gives x

-- `Some` and `None` of a direction that is a function
abbrev pub option_typ : Typ → Typ
option_typ t = T.Named 0 [] (t ∷ [])

abbrev pub optional : {X : Type 0} → Making X → Typ → Run X X → Run X X
optional z t piece =
    or_then z (piece then λ x. gives (z.fixed (option_typ t) (V.Union 0 0 (z.val x)))) (gives (z.fixed (option_typ t) (V.Union 0 1 V.Unit)))

abbrev pub kind_meaning : {X : Type 0} → Making X → World X → Place → ℕ → Kind → List (Run X X) → Run X X
kind_meaning z w place k (K.Constant literal) [] = gives (z.fixed (literal_typ literal) (literal_value literal))
kind_meaning z w place k (K.Local name) [] = λ now. (needs (held_in name now.locals) then λ x. made z k (x ∷ []) (z.val x)) now
kind_meaning z w place k (K.Variable name) [] = variable_read z k name
kind_meaning z w place k (K.TopLevel i) [] = needs (slice_get w.lets i) then λ v. made z k [] v
kind_meaning z w place k (K.Register r) [] = register_read z w k r
kind_meaning z w place k (K.Call callee) args = in_turn args then called z w place k callee
kind_meaning z w place k K.And (a ∷ b ∷ []) = a then λ x. truth z x then if_so (z.inside (b then truly z)) (gives x)
kind_meaning z w place k K.Or (a ∷ b ∷ []) = a then λ x. truth z x then if_so (gives x) (z.inside (b then truly z))
kind_meaning z w place k (K.Cast written) (a ∷ []) = a then λ x. made z k (x ∷ []) (z.val x)
kind_meaning z w place k K.Tuple parts = built z k parts tuple_of
kind_meaning z w place k (K.Vector shape) parts = built z k parts vector_of
kind_meaning z w place k (K.List shape) parts = built z k parts list_of
kind_meaning z w place k (K.Cons shape) parts = built z k parts cons_of
kind_meaning z w place k (K.Struct struct fields) parts = built z k parts (struct_of struct fields)
kind_meaning z w place k (K.With struct fields) parts = built z k parts (with_of struct fields)
kind_meaning z w place k (K.Part suffixes) (a ∷ indexes) = a then suffixes_of z suffixes indexes
kind_meaning z w place k K.WithItem (a ∷ b ∷ c ∷ []) = a then λ x. b then λ y. integer z y then λ i. c then put z k (item_way i) x (y ∷ [])
kind_meaning z w place k K.WithSlice (a ∷ b ∷ c ∷ d ∷ []) =
    a then λ x. b then λ y. c then λ u. integer z y then λ hi. integer z u then λ lo. d then put z k (slice_way hi lo) x (y ∷ u ∷ [])
kind_meaning z w place k (K.SizeOf t numbers) [] = needs (known w.numbers t) then λ i. gives (z.fixed int_typ (V.Integer i))
kind_meaning z w place k (K.Constraint c numbers) [] = needs (known_truth w.numbers c) then λ b. gives (z.fixed T.Bool (V.Truth b))
kind_meaning z w place k (K.Assign targets) parts = assigned (map (spotting z w) targets) parts
kind_meaning z w place k (K.Block statements) parts = block z w k statements parts
kind_meaning z w place k (K.Let arm) (a ∷ b ∷ []) = a then λ x. let_in z w (Gives.Arm k 0) place arm x b
kind_meaning z w place k (K.Var name written) (a ∷ b ∷ []) = a then λ x. within (local name x ∷ []) b
kind_meaning z w place k (K.If shape) (a ∷ b ∷ []) = a then λ x. truth z x then if_so (z.inside b) (gives (nothing z))
kind_meaning z w place k (K.If shape) (a ∷ b ∷ c ∷ []) = met_at z k (a then λ x. truth z x then if_so (z.inside b) (z.inside c))
kind_meaning z w place k (K.Match arms shape) (a ∷ bodies) =
    met_at z k (a then λ x. first_of z w k arms bodies (stops (MatchFailure place)) (x ∷ []))
kind_meaning z w place k (K.Try arms shape) (a ∷ bodies) = met_at z k (tried z w k arms bodies a)
kind_meaning z w place k (K.Clauses arms) bodies = first_of z w k arms bodies falls w.arguments
kind_meaning z w place k K.When (a ∷ b ∷ []) = a then λ x. truth z x then if_so b falls
kind_meaning z w place k (K.Foreach name way) (a ∷ b ∷ c ∷ body ∷ []) =
    a then λ x. integer z x then λ from. b then λ y. integer z y then λ to. c then λ u. integer z u then λ by.
    z.inside (foreach z name way from to by body)
kind_meaning z w place k K.While (measure ∷ condition ∷ body ∷ []) = z.inside (while z place measure condition body)
kind_meaning z w place k K.Repeat (measure ∷ body ∷ condition ∷ []) = z.inside (repeat z place measure body condition)
kind_meaning z w place k K.Return (a ∷ []) = a then λ x. returns (z.val x)
kind_meaning z w place k K.Throw (a ∷ []) = a then λ x. throws (z.val x)
kind_meaning z w place k K.Exit (a ∷ []) = a then λ x. stops (Exit place)
kind_meaning z w place k (K.Assert text) (a ∷ []) = a then λ x. truth z x then if_so (gives (nothing z)) (stops (Assertion place text))
kind_meaning z w place k (K.Optional t) (a ∷ []) = optional z t a
kind_meaning z w place k kind parts = stuck

-- a node under any reading
abbrev pub meaning : {X : Type 0} → Making X → World X → Core → Run X X
meaning {X} z w = fold-Core (Run X X) (λ c. kind_meaning z w c.place c.number c.kind c.parts)

-- what a node means
abbrev pub core_meaning : World Value → Core → Run Value Value
core_meaning = meaning plainly
