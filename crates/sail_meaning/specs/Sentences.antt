-- Sentences of the language's rules, said of the meaning (Sail language manual, "Expressions", "Overloading", "Mappings").
use Rattle.std.specs.Prelude.{◌≡◌, ℕ, suc, nat_lt, ℤ, pos, ◌-ℤ◌, int_le, Bool, true, false, List, [], ◌∷◌, ◌++◌, map, length, Option, Some, None}
use Rattle.sail_base.specs.declared.operators.Operator.TheVariants as O
use Rattle.sail_base.specs.declared.place.Place.{Place}
use Rattle.sail_types.specs.Places.{an_int, is_variable}
use Rattle.sail_types.specs.Readings.{together}
use Rattle.sail_types.specs.declared.numbers.Num.{Num}
use Rattle.sail_types.specs.declared.table.Types.{Types}
use Rattle.sail_types.specs.declared.types.Typ.TheVariants as T
use Rattle.sail_types.specs.declared.values.Value.{Value}
use Rattle.sail_types.specs.declared.values.Value.TheVariants as V
use Rattle.sail_syntax.specs.declared.name.Name.{Name}
use Rattle.sail_syntax.specs.declared.patterns.Pat.{Pat}
use Rattle.sail_syntax.specs.declared.patterns.Pat.TheOpen as P
use Rattle.sail_syntax.specs.declared.definitions.FunctionClause.{FunctionClause}
use Rattle.sail_syntax.specs.declared.words.Choosing.TheVariants.{Try}
use Rattle.sail_syntax.specs.declared.words.Direction.TheVariants.{Down}
use Rattle.sail_syntax.specs.declared.words.Looping.TheVariants.{While}
use Rattle.sail_syntax.specs.declared.expressions.Exp.{Exp}
use Rattle.sail_syntax.specs.declared.expressions.Exp.TheOpen as E
use Rattle.model_state.specs.declared.cause.Cause.TheVariants as Cause
use Rattle.model_state.specs.RunState.{RunState}
use Rattle.sail_core.specs.Run as R
use Rattle.sail_core.specs.Run.{Now, gives, falls, stops, throws, needs, if_so, tick, within, local, changed_in, ◌then◌}
use Rattle.sail_core.specs.Numbers.{Givens}
use Rattle.sail_core.specs.Start.{begun, blank, set_all}
use Rattle.sail_core.specs.Values.{item_way, replaced}
use Rattle.sail_meaning.specs.Text.{Text, Function, Crossing, Direction, Callee, direction, overload, Opening, let_of, register_of}
use Rattle.sail_meaning.specs.Choice.{accepts, choice}
use Rattle.sail_meaning.specs.World.{World, Piece, Bindings, Meaning, integer}
use Rattle.sail_meaning.specs.Patterns.{Matcher, matching, construct_matches, parts_match, pattern_form, width_now}
use Rattle.sail_meaning.specs.Targets.{Target, name_read, name_write}
use Rattle.sail_meaning.specs.Loops.{count_turns}
use Rattle.sail_meaning.specs.Expressions.{meaning, Statement, Case, first_case, index_form, suffix_form, target_form, statement_form, expression_form}
use Rattle.sail_meaning.specs.Calls.{Setting, Calls, Measures, nearest, below, first_crossing, applied, world_with, direction_chosen, converting, entered}
use Rattle.sail_meaning.specs.Calls.{clause_taken, first_clause, clauses_value, crossing_taken, framed, numbered}
use Rattle.sail_meaning.specs.Start.{Opened, opened, opened_to, opened_not, opening_world, openings_of}

-- ---- overloads

-- of an overload the first member is taken where the values fit it
abbrev pub FirstMemberIsTaken : Type 0
FirstMemberIsTaken = (types : Types) (c : Callee) (cs : List Callee) (vs : List Value)
    → accepts types vs c ≡ true → choice types (overload (c ∷ cs)) vs ≡ Some c

-- and passed over where they don't
abbrev pub OthersArePassedOver : Type 0
OthersArePassedOver = (types : Types) (c : Callee) (cs : List Callee) (vs : List Value)
    → accepts types vs c ≡ false → choice types (overload (c ∷ cs)) vs ≡ choice types (overload cs) vs

-- ---- orders of evaluation

-- the item at an index of what a name holds, as a target
abbrev pub item_of : Place → Place → Name → Meaning → Target
item_of p q name i = target_form (E.ToPart p (target_form (E.ToName name)) (suffix_form (E.At q (index_form (record { first = i; last = None }))) ∷ []))

-- `a[i] = e`: the index, then the new value, then a is read and written
abbrev pub AssignmentsRead : Type 0
AssignmentsRead = (w : World) (p q : Place) (name : Name) (i e : Meaning)
    → expression_form (E.Assign p (item_of p q name i) [] e) w
    ≡ (i w then λ u. integer u then λ index. e w then λ v. name_read w name.text then λ old.
    needs (replaced (item_way index ∷ []) old v) then name_write w name.text)

-- where a pattern doesn't match, its guard and body aren't looked at
abbrev pub GuardsComeLater : Type 0
GuardsComeLater = (w : World) (c : Case) (cs : List Case) (none : Piece Value) (v : Value)
    → matching w c.pattern v ≡ falls → first_case w (c ∷ cs) none v ≡ first_case w cs none v

-- where the left side of `&` is false, the right side isn't looked at
abbrev pub LeftDecides : Type 0
LeftDecides = (w : World) (p : Place) (a b : Meaning) (now after : Now Value)
    → a w now ≡ R.Gives (V.Truth false) after → expression_form (E.Infix p O.And a b) w now ≡ R.Gives (V.Truth false) after

-- a `while` whose condition is false takes no tick, and its measure isn't looked at
abbrev pub NoTurnNoTick : Type 0
NoTurnNoTick = (w : World) (p : Place) (measure condition body : Meaning) (now after : Now Value)
    → condition w now ≡ R.Gives (V.Truth false) after
    → expression_form (E.Loop p While (Some measure) condition body) w now ≡ R.Gives V.Unit after

-- a call without a tick left stops the run, whatever its measure
abbrev pub TicksFirst : Type 0
TicksFirst = (s : Setting) (calls : Calls) (active : Measures) (p : Place) (f : Function) (vs : List Value) (now : Now Value)
    → now.ticks ≡ 0 → entered s calls active p f vs now ≡ R.Stops Cause.WorkLimit now

-- a call whose measure isn't below that of the nearest active call of its cycle stops the run at the call
abbrev pub MeasuresFall : Type 0
MeasuresFall = (p : Place) (cycle : ℕ) (active : Measures) (before n : ℕ) (now : Now Value)
    → nat_lt n before ≡ false → below p cycle active (Some before) n now ≡ R.Stops (Cause.Measure p) now

-- of the active calls of a cycle the one that began last is the nearest
abbrev pub LastIsNearest : Type 0
LastIsNearest = (cycle n : ℕ) (active : Measures) → nearest cycle ((cycle, n) ∷ active) ≡ Some n

-- with `dec` a `foreach` counts down: a turn, where the number isn't below the end, and then on with the next smaller one
abbrev pub CountsDown : Type 0
CountsDown = (turns : ℕ) (name : List ℕ) (i to by : ℤ) (body : Piece Value)
    → count_turns (suc turns) name Down i to by body
    ≡ if_so
    (tick then λ t. within (local name (V.Integer i) ∷ []) body then λ v. count_turns turns name Down (i -ℤ by) to by body)
    (gives V.Unit)
    (int_le to i)

-- ---- names

-- an assigned `var` is read anew: a name reads what was last written to it
abbrev pub VarsAreReadAnew : Type 0
VarsAreReadAnew = (w : World) (name : List ℕ) (v : Value) (locals : Bindings) (now : Now Value)
    → changed_in name v now.locals ≡ Some locals
    → (name_write w name v then λ done. name_read w name) now ≡ R.Gives v (record now { locals = locals })

-- ---- blocks and exceptions

-- a `let` of a block is a `let .. in` over the rest of the block
abbrev pub BlocksAreNests : Type 0
BlocksAreNests = (w : World) (p q : Place) (pattern : Pat) (a : Meaning) (ss : List Statement) (value : Option Meaning)
    → expression_form (E.Block p (statement_form (E.Define q pattern a) ∷ ss) value) w
    ≡ expression_form (E.Let q pattern a (expression_form (E.Block p ss value))) w

-- a throw takes nothing back: the cases of a `try` go on from where it was thrown
abbrev pub ThrowsTakeNothingBack : Type 0
ThrowsTakeNothingBack = (w : World) (p : Place) (a : Meaning) (cs : List Case) (v : Value) (now after : Now Value)
    → a w now ≡ R.Throws v after → expression_form (E.Choose p Try a cs) w now ≡ first_case w cs (throws v) v after

-- ---- mappings

-- where no clause of a mapping fits, a pattern that calls it doesn't match
abbrev pub NoClauseInAPattern : Type 0
NoClauseInAPattern = (w : World) (name : List ℕ) (ps : List Matcher) (v : Value)
    → w.convert name v ≡ falls → construct_matches name ps w v None ≡ falls

-- and a call of it is a tick, and then stops the run there
abbrev pub NoClauseInACall : Type 0
NoClauseInACall = (s : Setting) (calls : Calls) (active : Measures) (p : Place) (d : Direction) (v : Value)
    → calls.enter active d v ≡ falls → applied s calls active p (direction d) (v ∷ []) ≡ (tick then λ t. stops (Cause.MatchFailure p))

-- a mapping in a pattern is no tick: where a clause gives a value and does nothing, nothing is done
abbrev pub ConversionsAreNoTicks : Type 0
ConversionsAreNoTicks = (s : Setting) (calls : Calls) (active : Measures) (rank : ℕ) (name : List ℕ) (v u : Value) (d : Direction)
    → direction_chosen s.text.types (s.text.called name) v ≡ Some d
    → first_crossing (world_with s calls active (converting s calls active rank) s.text.within []) d d.clauses v ≡ gives u
    → converting s calls active (suc rank) name v ≡ gives u

-- ---- clauses

-- of a function's clauses the first whose parameters match is taken: later ones aren't looked at where one ended in any way but No
abbrev pub FirstClauseIsTaken : Type 0
FirstClauseIsTaken = (w : World) (c : FunctionClause) (cs : List FunctionClause) (vs : List Value) (v : Value) (now after : Now Value)
    → clause_taken w c vs now ≡ R.Gives v after → first_clause w (c ∷ cs) vs now ≡ R.Gives v after

-- and one that doesn't match is passed over
abbrev pub OtherClausesArePassedOver : Type 0
OtherClausesArePassedOver = (w : World) (c : FunctionClause) (cs : List FunctionClause) (vs : List Value)
    → clause_taken w c vs ≡ falls → first_clause w (c ∷ cs) vs ≡ first_clause w cs vs

-- where none matches the run stops at the word that opens the function
abbrev pub NoClauseStops : Type 0
NoClauseStops = (w : World) (f : Function) (vs : List Value) (now : Now Value)
    → first_clause w f.clauses vs ≡ falls → clauses_value w f vs now ≡ R.Stops (Cause.MatchFailure f.place) now

-- so too of a mapping's clauses
abbrev pub FirstCrossingIsTaken : Type 0
FirstCrossingIsTaken = (w : World) (d : Direction) (c : Crossing) (cs : List Crossing) (u v : Value) (now after : Now Value)
    → crossing_taken w d c u now ≡ R.Gives v after → first_crossing w d (c ∷ cs) u now ≡ R.Gives v after

-- ---- numbers of type variables

-- a function of one type variable and one parameter, `bits('n)`, is at work under the width of its argument
abbrev pub NumbersComeFromWidths : Type 0
NumbersComeFromWidths = (f : Function) (n : Num) (bs : List Bool) (piece : Givens → Piece Value)
    → f.variables ≡ 1 → f.parameters ≡ T.Bits n ∷ [] → is_variable 0 n ≡ true
    → numbered f (V.Bits bs ∷ []) piece ≡ framed (piece (an_int (pos (length bs)) ∷ []))

-- ---- concatenations

-- words, the highest first, as one word; the lowest bit of a list is its first
abbrev pub joined_words : List (List Bool) → List Bool
joined_words [] = []
joined_words (high ∷ low) = joined_words low ++ high

-- the widths of these words, known each
abbrev pub widths_of : List (List Bool) → List (Option ℕ)
widths_of words = map (λ bs. Some (length bs)) words

-- the known widths of parts, now
abbrev pub widths_now : World → List Matcher → Option (List (Option ℕ))
widths_now w parts = together (map (λ p. width_now w.numbers (p.width w)) parts)

-- where the parts of `p @ q` have the widths of these words, p is matched against the highest of them, and so on
abbrev pub HighBitsFirst : Type 0
HighBitsFirst = (w : World) (place : Place) (p q : Matcher) (more : List Matcher) (words : List (List Bool))
    → widths_now w (p ∷ q ∷ more) ≡ Some (widths_of words)
    → (pattern_form (P.Concat place p q more)).matches w (V.Bits (joined_words words)) ≡ parts_match (p ∷ q ∷ more) w (map V.Bits words)

-- and where one part is of unknown width, it is matched against what the others leave
abbrev pub RestIsTaken : Type 0
RestIsTaken = (w : World) (place : Place) (p q : Matcher) (more : List Matcher) (high low : List (List Bool)) (rest : List Bool)
    → widths_now w (p ∷ q ∷ more) ≡ Some (widths_of high ++ None ∷ widths_of low)
    → (pattern_form (P.Concat place p q more)).matches w (V.Bits (joined_words (high ++ rest ∷ low)))
    ≡ parts_match (p ∷ q ∷ more) w (map V.Bits (high ++ rest ∷ low))

-- ---- the start

abbrev pub then_opened : Opened → (Bindings → RunState → Opened) → Opened
then_opened (opened lets state) later = later lets state
then_opened (opened_to cause state) later = opened_to cause state
then_opened opened_not later = opened_not

-- lets and initial values are worked out in the order of the text: those behind see the names that those before bound and change the
-- state that they left, and aren't looked at where one before stopped
abbrev pub OpeningsInOrder : Type 0
OpeningsInOrder = (text : Text) (before behind : List Opening) (lets : Bindings) (state : RunState)
    → openings_of text (before ++ behind) lets state ≡ then_opened (openings_of text before lets state) (openings_of text behind)

-- an initial value is that of the register of every hart
abbrev pub InitialValuesAreAllHarts : Type 0
InitialValuesAreAllHarts = (text : Text) (r : ℕ) (e : Exp) (lets : Bindings) (state : RunState) (v : Value) (after : Now Value)
    → meaning e (opening_world text lets) (begun 0 blank) ≡ R.Gives v after
    → openings_of text (register_of r e ∷ []) lets state ≡ opened (lets ++ []) (set_all r v state)

-- a `let` whose pattern doesn't match stops the start at the `let`, with the registers that were set so far
abbrev pub LetsStop : Type 0
LetsStop = (text : Text) (place : Place) (pattern : Pat) (e : Exp) (os : List Opening) (lets : Bindings) (state : RunState) (v : Value) (after : Now Value)
    → meaning e (opening_world text lets) (begun 0 blank) ≡ R.Gives v after → matching (opening_world text lets) pattern v ≡ falls
    → openings_of text (let_of place pattern e ∷ os) lets state ≡ opened_to (Cause.MatchFailure place) state
