-- What calls and mappings do (Sail language manual, "Functions", "Mappings", "Termination measures").
use Rattle.std.specs.Prelude.{ℕ, zero, suc, nat_eq, nat_lt, if◌then◌else◌, List, [], ◌∷◌, Option, Some, None, option_map}
use Rattle.sail_base.specs.declared.operators.Operator.TheVariants as O
use Rattle.sail_base.specs.declared.place.Place.{Place}
use Rattle.sail_types.specs.declared.values.Value.{Value}
use Rattle.sail_types.specs.declared.values.Value.TheVariants as V
use Rattle.sail_syntax.specs.declared.definitions.FunctionClause.{FunctionClause}
use Rattle.sail_syntax.specs.declared.patterns.Pat.{Pat, Pat-F, fold-Pat}
use Rattle.sail_syntax.specs.declared.patterns.Pat.TheOpen.{Joined-F}
use Rattle.sail_syntax.specs.declared.patterns.Pat.TheOpen as P
use Rattle.model_state.specs.declared.cause.Cause.TheVariants as Cause
use Rattle.sail_core.specs.Numbers.{Givens, givens_of}
use Rattle.sail_core.specs.Run.{gives, falls, stuck, stops, needs, in_turn, tick, apart, returned, within, ◌then◌, ◌or_else◌}
use Rattle.sail_core.specs.Values.{payload_of}
use Rattle.sail_kinds.specs.Scopes.{Within}
use Rattle.std.specs.Prelude.{neg_ℤ}
use Rattle.sail_types.specs.declared.table.Types.{Types}
use Rattle.sail_meaning.specs.Text.{Text, Measure, Function, Crossing, Direction, Callee, function, direction, constructor, Called, overload}
use Rattle.sail_meaning.specs.Choice.{arguments, choice, chosen_direction, operator_members}
use Rattle.sail_meaning.specs.World.{World, Piece, Bindings, Meaning, natural, plain, apply_builtin}
use Rattle.sail_meaning.specs.Widths.{width_on}
use Rattle.sail_meaning.specs.Patterns.{matching, arguments_match}
use Rattle.sail_meaning.specs.Targets.{name_read}
use Rattle.sail_meaning.specs.Expressions.{meaning, each, group, guarded, literal_value}

-- ---- a side of a mapping's clause, read as an expression: each `@` is the operator, and `f(p)` is a call

-- a further part of a concatenation, with the `@` before it
pub record Further : Type 0 where
  pub place : Place
  pub value : Meaning

-- `p @ q @ r` is `p @ (q @ r)`
abbrev pub concat_value : Meaning → Place → Meaning → List Further → Meaning
concat_value p place q [] w = p w then λ u. q w then λ v. w.operator place O.Append (u ∷ v ∷ [])
concat_value p place q (r ∷ more) w = p w then λ u. concat_value q r.place r.value more w then λ v. w.operator place O.Append (u ∷ v ∷ [])

abbrev pub side_form : Pat-F Meaning Further → Meaning
side_form (P.Wildcard place) w = stuck
side_form (P.Constant place literal) w = gives (literal_value literal)
side_form (P.Negative place n) w = gives (V.Integer (neg_ℤ n))
side_form (P.Bind name) w = name_read w name.text
side_form (P.Construct name ps) w = in_turn (each ps w) then w.call name.place name.text
side_form (P.Group place brackets ps) w = in_turn (each ps w) then group brackets
side_form (P.Concat place p q more) w = concat_value p place q more w
side_form (P.Cons place p q) w = p w then λ u. q w then λ v. w.operator place O.Cons (u ∷ v ∷ [])
side_form (P.As place p name) w = stuck
side_form (P.Typed place p typ) w = p w

abbrev pub further_form : Joined-F Meaning Further → Further
further_form joined = record { place = joined.place; value = joined.part }

abbrev pub side_value : Pat → Meaning
side_value = fold-Pat Meaning Further side_form further_form

-- ---- a direction of a mapping

-- the world in which a side is matched: its bare identifiers have the widths of their places on the other side
abbrev pub matching_side : World → Direction → Crossing → World
matching_side w d c = record w { bare_width = width_on w d.gives c.result }

-- a clause: its side is matched, its guard holds, and the other side is the value
abbrev pub crossing_taken : World → Direction → Crossing → Value → Piece Value
crossing_taken w d c v =
    matching (matching_side w d c) c.matched v then λ found. within found (guarded (option_map meaning c.guard) (side_value c.result) w)

-- the first clause that is taken; No where there is none
abbrev pub first_crossing : World → Direction → List Crossing → Value → Piece Value
first_crossing w d [] v = falls
first_crossing w d (c ∷ cs) v = crossing_taken w d c v or_else first_crossing w d cs v

-- no local name from outside is seen in a mapping
abbrev pub crossed : World → Direction → Value → Piece Value
crossed w d v = apart (first_crossing w d d.clauses v)

-- ---- the measures of the active calls

-- by their cycles, the nearest first
abbrev pub Measures : Type 0
Measures = List (ℕ × ℕ)

abbrev pub nearest : ℕ → Measures → Option ℕ
nearest cycle [] = None
nearest cycle (m ∷ ms) = if nat_eq m.0 cycle then Some m.1 else nearest cycle ms

-- one that isn't below that of the nearest active call of its cycle stops the run at the call
abbrev pub below : Place → ℕ → Measures → Option ℕ → ℕ → Piece Measures
below place cycle active None n = gives ((cycle, n) ∷ active)
below place cycle active (Some before) n = if nat_lt n before then gives ((cycle, n) ∷ active) else stops (Cause.Measure place)

-- the value of a measure for these arguments; the run stops at the call where its patterns don't match
abbrev pub measure_value : World → Place → Measure → List Value → Piece Value
measure_value w place m vs =
    (arguments_match w m.parameters vs then λ found. within found (meaning m.value (plain w))) or_else stops (Cause.MatchFailure place)

-- the measures that are active in a call: a function in a cycle takes its own
abbrev pub active_in : World → Place → Option ℕ → Option Measure → Measures → List Value → Piece Measures
active_in w place (Some cycle) (Some m) active vs =
    measure_value w place m vs then λ v. natural v then below place cycle active (nearest cycle active)
active_in w place cycle measure active vs = gives active

-- ---- clauses

abbrev pub clause_taken : World → FunctionClause → List Value → Piece Value
clause_taken w c vs = arguments_match w c.parameters vs then λ found. within found (meaning c.body w)

abbrev pub first_clause : World → List FunctionClause → List Value → Piece Value
first_clause w [] vs = falls
first_clause w (c ∷ cs) vs = clause_taken w c vs or_else first_clause w cs vs

-- the first clause whose parameters match; the run stops at the word that opens the function where none does
abbrev pub clauses_value : World → Function → List Value → Piece Value
clauses_value w f vs = first_clause w f.clauses vs or_else stops (Cause.MatchFailure f.place)

-- ---- the knot: calls by the ticks that are left, mappings in patterns by how many may be inside one another

-- for what a text is at work: the hart, and the values of the names that top-level lets bind
pub record Setting : Type 0 where
  pub text : Text
  pub hart : ℕ
  pub lets : Bindings

-- a call of a function at a place, its tick included; a direction of a mapping that a call enters, its tick not
pub record Calls : Type 0 where
  pub call : Measures → Place → Function → List Value → Piece Value
  pub enter : Measures → Direction → Value → Piece Value

-- a callee on arguments: a function and a mapping are a tick, a constructor and a builtin aren't
abbrev pub applied : Setting → Calls → Measures → Place → Callee → List Value → Piece Value
applied s calls active place (function f) vs = calls.call active place f vs
applied s calls active place (direction d) (v ∷ []) = tick then λ t. calls.enter active d v or_else stops (Cause.MatchFailure place)
applied s calls active place (direction d) vs = stuck
applied s calls active place (constructor u c shapes) vs = gives (V.Union u c (payload_of vs))
applied s calls active place callee vs = apply_builtin s.hart callee vs

-- what a name means in a call, or an operator: the callee that the arguments choose
abbrev pub called : Setting → Calls → Measures → Place → Option Called → List Value → Piece Value
called s calls active place None vs = stuck
called s calls active place (Some c) vs =
    needs (choice s.text.types c (arguments c vs)) then λ callee. applied s calls active place callee (arguments c vs)

abbrev pub Converting : Type 0
Converting = List ℕ → Value → Piece Value

-- the world of a piece of the text in which these types can be named and their variables stand for these numbers
abbrev pub world_with : Setting → Calls → Measures → Converting → Within → Givens → World
world_with s calls active convert scope numbers = record {
  text = s.text;
  hart = s.hart;
  lets = s.lets;
  within = scope;
  numbers = numbers;
  bare_width = λ name. None;
  call = λ place name. called s calls active place (s.text.called name);
  operator = λ place operator. called s calls active place (Some (overload (operator_members s.text operator)));
  convert = convert;
}

abbrev pub direction_chosen : Types → Option Called → Value → Option Direction
direction_chosen types None v = None
direction_chosen types (Some c) v = chosen_direction (choice types c (v ∷ []))

-- `m(p)`: no tick. No mapping reaches itself through patterns, so there are never more inside one another than there are directions
abbrev pub converting : Setting → Calls → Measures → ℕ → Converting
converting s calls active zero name v = stuck
converting s calls active (suc rank) name v =
    needs (direction_chosen s.text.types (s.text.called name) v) then λ d.
    crossed (world_with s calls active (converting s calls active rank) s.text.within []) d v

abbrev pub world_of : Setting → Calls → Measures → Within → Givens → World
world_of s calls active scope numbers = world_with s calls active (converting s calls active s.text.directions) scope numbers

-- a body sees no local name from outside, and gives what it returns
abbrev pub framed : Piece Value → Piece Value
framed body now = returned (apart body now)

-- the numbers that the arguments give to the function's type variables, and then a piece under them
abbrev pub numbered : Function → List Value → (Givens → Piece Value) → Piece Value
numbered f vs piece = needs (givens_of f.variables f.parameters vs) then λ numbers. framed (piece numbers)

-- a call, behind its arguments: the tick, the numbers, the measure, the clauses
abbrev pub entered : Setting → Calls → Measures → Place → Function → List Value → Piece Value
entered s calls active place f vs =
    tick then λ t. numbered f vs (λ numbers.
    active_in (world_of s calls active f.within numbers) place f.cycle f.measure active vs then λ then_active.
    clauses_value (world_of s calls then_active f.within numbers) f vs)

-- one call more inside one another
abbrev pub deeper : Setting → Calls → Calls
deeper s calls = record {
  call = λ active place f vs. entered s calls active place f vs;
  enter = λ active d v. crossed (world_of s calls active s.text.within []) d v;
}

-- where at most so many calls may be inside one another
abbrev pub calls_within : Setting → ℕ → Calls
calls_within s zero = record { call = λ active place f vs. stops Cause.WorkLimit; enter = λ active d v. stops Cause.WorkLimit }
calls_within s (suc depth) = deeper s (calls_within s depth)

-- a function that an event enters: no tick, no measure
abbrev pub event_of : Setting → Calls → Function → List Value → Piece Value
event_of s calls f vs = numbered f vs (λ numbers. clauses_value (world_of s calls [] f.within numbers) f vs)
