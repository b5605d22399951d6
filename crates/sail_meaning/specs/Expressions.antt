-- What an expression means, as it is written: one case for each form (Sail language manual, "Expressions").
use Rattle.std.specs.Prelude.{ℕ, pos, true, false, List, [], ◌∷◌, map, Option, Some, None, option_map}
use Rattle.sail_base.specs.declared.operators.Operator.{Operator}
use Rattle.sail_base.specs.declared.operators.Operator.TheVariants as O
use Rattle.sail_base.specs.declared.place.Place.{Place}
use Rattle.sail_types.specs.Sums.{and_then}
use Rattle.sail_types.specs.declared.values.Value.{Value, Value-F, out-Value}
use Rattle.sail_types.specs.declared.values.Value.TheOpen as W
use Rattle.sail_types.specs.declared.values.Value.TheVariants as V
use Rattle.sail_syntax.specs.declared.name.Name.{Name}
use Rattle.sail_syntax.specs.declared.name.Literal.{Literal}
use Rattle.sail_syntax.specs.declared.name.Literal.TheVariants as L
use Rattle.sail_syntax.specs.declared.types.TyExp.{TyExp}
use Rattle.sail_syntax.specs.declared.patterns.Pat.{Pat}
use Rattle.sail_syntax.specs.declared.words.Asking.{Asking}
use Rattle.sail_syntax.specs.declared.words.Asking.TheVariants.{Sizeof, Constraint}
use Rattle.sail_syntax.specs.declared.words.Brackets.{Brackets}
use Rattle.sail_syntax.specs.declared.words.Brackets.TheVariants as B
use Rattle.sail_syntax.specs.declared.words.Choosing.{Choosing}
use Rattle.sail_syntax.specs.declared.words.Choosing.TheVariants.{Match, Try}
use Rattle.sail_syntax.specs.declared.words.Direction.{Direction}
use Rattle.sail_syntax.specs.declared.words.Leaving.{Leaving}
use Rattle.sail_syntax.specs.declared.words.Leaving.TheVariants.{Return, Throw, Exit}
use Rattle.sail_syntax.specs.declared.expressions.Exp.{Exp, Exp-F, fold-Exp}
use Rattle.sail_syntax.specs.declared.expressions.Exp.TheOpen as E
use Rattle.sail_syntax.specs.declared.expressions.Exp.TheOpen.{LExp-F, Stmt-F, Suffix-F, Case-F, FieldValue-F, Index-F, Range-F, Target-F}
use Rattle.model_state.specs.declared.cause.Cause.TheVariants as Cause
use Rattle.sail_core.specs.Run.{gives, falls, stops, returns, throws, needs, if_so, in_turn, caught, within, local, ◌then◌, ◌or_else◌}
use Rattle.sail_core.specs.Numbers.{known, known_truth}
use Rattle.sail_core.specs.Values.{item_way, slice_way, payload_of, vector_of, struct_of}
use Rattle.sail_meaning.specs.Named.{field_places, struct_with}
use Rattle.sail_meaning.specs.World.{World, Piece, Bindings, Meaning, integer, truth, apply_prefix, written_number, written_constraint}
use Rattle.sail_meaning.specs.Patterns.{matching}
use Rattle.sail_meaning.specs.Targets.{Suffix, Target, name_read, name_spot, call_spot, tuple_spot, part_spot, spots_of, assigned, ways_of, suffixes_of}
use Rattle.sail_meaning.specs.Targets.{into_field, with_fields}
use Rattle.sail_meaning.specs.Loops.{foreach, looped}

-- ---- what the parts of an expression mean

-- a statement, with the rest of its block in hand
abbrev pub Statement : Type 0
Statement = World → Piece Value → Piece Value

pub record Case : Type 0 where
  pub pattern : Pat
  pub guard : Option Meaning
  pub body : Meaning

pub record Field : Type 0 where
  pub name : List ℕ
  pub value : Meaning

-- what a `foreach` runs through
pub record Span : Type 0 where
  pub from : Meaning
  pub to : Meaning
  pub by : Meaning
  pub direction : Direction

-- ---- literals and brackets

abbrev pub literal_value : Literal → Value
literal_value (L.Number n) = V.Integer n
literal_value (L.Bits bs) = V.Bits bs
literal_value (L.String s) = V.String s
literal_value (L.Bool b) = V.Truth b
literal_value (L.Bit b) = V.Bit b

-- `( .. )`; `[ .. ]`, whose last item has index 0; `[| .. |]`
abbrev pub group : Brackets → List Value → Piece Value
group B.Tuple vs = gives (payload_of vs)
group B.Vector vs = needs (vector_of vs)
group B.List vs = gives (V.List vs)

abbrev pub each : List Meaning → World → List (Piece Value)
each parts w = map (λ part. part w) parts

-- ---- operators: where the left side of `&` or `|` is a truth, the right one is evaluated only where the left one doesn't decide

abbrev pub is_a_truth : Value → Piece Value
is_a_truth v = truth v then λ b. gives v

abbrev pub infix_of : World → Place → Operator → Value → Value-F Value → Piece Value → Piece Value
infix_of w place O.And v (W.Truth false) right = gives v
infix_of w place O.And v (W.Truth true) right = right then is_a_truth
infix_of w place O.Or v (W.Truth true) right = gives v
infix_of w place O.Or v (W.Truth false) right = right then is_a_truth
infix_of w place operator v form right = right then λ u. w.operator place operator (v ∷ u ∷ [])

-- ---- `return`, `throw`, `exit`

abbrev pub leave : Place → Leaving → Value → Piece Value
leave place Return v = returns v
leave place Throw v = throws v
leave place Exit v = stops (Cause.Exit place)

-- ---- `let` and `var`, in a block and by themselves

-- the value is matched, and what is behind sees the names; the run stops at the `let` where its pattern doesn't match (patterns and guards
-- alone say No, and what is behind catches its own)
abbrev pub let_in : World → Place → Pat → Piece Value → Piece Value → Piece Value
let_in w place pattern value rest =
    value then λ v. (matching w pattern v then λ found. within found rest) or_else stops (Cause.MatchFailure place)

abbrev pub var_in : List ℕ → Piece Value → Piece Value → Piece Value
var_in name value rest = value then λ v. within (local name v ∷ []) rest

abbrev pub block : List Statement → Option Meaning → Meaning
block [] None w = gives V.Unit
block [] (Some value) w = value w
block (s ∷ ss) value w = s w (block ss value w)

-- ---- `match` and `try`

-- a guard that is false says No
abbrev pub guarded : Option Meaning → Meaning → Meaning
guarded None body w = body w
guarded (Some guard) body w = guard w then λ v. truth v then if_so (body w) falls

-- a case, its guard evaluated where its pattern matched
abbrev pub case_taken : World → Case → Value → Piece Value
case_taken w c v = matching w c.pattern v then λ found. within found (guarded c.guard c.body w)

abbrev pub first_case : World → List Case → Piece Value → Value → Piece Value
first_case w [] none v = none
first_case w (c ∷ cs) none v = case_taken w c v or_else first_case w cs none v

-- what no case of a `try` takes is thrown on
abbrev pub chosen : Choosing → Place → Meaning → List Case → Meaning
chosen Match place value cases w = value w then first_case w cases (stops (Cause.MatchFailure place))
chosen Try place value cases w = λ now. caught (value w now) (λ v. first_case w cases (throws v) v)

-- ---- structs

abbrev pub fields_of : List Field → World → Piece Bindings
fields_of [] w = gives []
fields_of (f ∷ fs) w = f.value w then λ v. fields_of fs w then λ others. gives (local f.name v ∷ others)

abbrev pub names_of : List Field → List (List ℕ)
names_of fields = map (λ f. f.name) fields

abbrev pub values_of : Bindings → List Value
values_of found = map (λ f. f.held) found

abbrev pub name_of : Option Name → Option (List ℕ)
name_of name = option_map (λ n. n.text) name

-- a struct of these fields, whatever their order
abbrev pub struct_made : World → List (List ℕ) → List Value → ℕ → Option Value
struct_made w names vs struct = and_then (field_places w.text.types struct names) (λ places. struct_of struct places vs)

-- ---- indexes

abbrev pub index_of : Meaning → Option Meaning → Suffix
index_of first None w = first w then λ v. integer v then λ i. gives (item_way i)
index_of first (Some last) w = first w then λ v. last w then λ u. integer v then λ hi. integer u then λ lo. gives (slice_way hi lo)

abbrev pub or_one : Option Meaning → Meaning
or_one None w = gives (V.Integer (pos 1))
or_one (Some by) w = by w

-- ---- `sizeof` and `constraint`, under the numbers of the type variables

abbrev pub asked : Asking → TyExp → World → Option Value
asked Sizeof typ w = option_map V.Integer (and_then (written_number w typ) (known w.numbers))
asked Constraint typ w = option_map V.Truth (and_then (written_constraint w typ) (known_truth w.numbers))

-- ---- one case for each form

abbrev pub index_form : Index-F Meaning Target Statement Suffix Case Field Suffix Span Target → Suffix
index_form index = index_of index.first index.last

abbrev pub suffix_form : Suffix-F Meaning Target Statement Suffix Case Field Suffix Span Target → Suffix
suffix_form (E.Field name) w = gives (into_field w.text.types name.text)
suffix_form (E.At place index) w = index w

abbrev pub range_form : Range-F Meaning Target Statement Suffix Case Field Suffix Span Target → Span
range_form range = record { from = range.from; to = range.to; by = or_one range.by; direction = range.direction }

abbrev pub case_form : Case-F Meaning Target Statement Suffix Case Field Suffix Span Target → Case
case_form c = record { pattern = c.pattern; guard = c.guard; body = c.body }

abbrev pub field_form : FieldValue-F Meaning Target Statement Suffix Case Field Suffix Span Target → Field
field_form field = record { name = field.name.text; value = field.value }

abbrev pub further_form : Target-F Meaning Target Statement Suffix Case Field Suffix Span Target → Target
further_form further = further.to

abbrev pub statement_form : Stmt-F Meaning Target Statement Suffix Case Field Suffix Span Target → Statement
statement_form (E.Evaluate e) w rest = e w then λ v. rest
statement_form (E.Define place pattern e) w rest = let_in w place pattern (e w) rest
statement_form (E.Declare place name typ e) w rest = var_in name.text (e w) rest

abbrev pub target_form : LExp-F Meaning Target Statement Suffix Case Field Suffix Span Target → Target
target_form (E.ToName name) w = gives (name_spot w name.text)
target_form (E.ToCall name args) w = in_turn (each args w) then λ vs. gives (call_spot w name vs)
target_form (E.ToTuple place targets) w = spots_of targets w then λ spots. gives (tuple_spot spots)
target_form (E.ToPart place base suffixes) w = base w then λ spot. ways_of suffixes w then λ ways. gives (part_spot spot ways)

abbrev pub expression_form : Exp-F Meaning Target Statement Suffix Case Field Suffix Span Target → Meaning
expression_form (E.Constant place literal) w = gives (literal_value literal)
expression_form (E.Variable name) w = name_read w name.text
expression_form (E.Call name args) w = in_turn (each args w) then w.call name.place name.text
expression_form (E.Prefixed place prefix a) w = a w then apply_prefix w prefix
expression_form (E.Infix place operator a b) w = a w then λ v. infix_of w place operator v (out-Value v) (b w)
expression_form (E.Leave place leaving a) w = a w then leave place leaving
expression_form (E.Group place brackets items) w = in_turn (each items w) then group brackets
expression_form (E.Part place base suffixes) w = base w then suffixes_of suffixes w
expression_form (E.Typed place a typ) w = a w
expression_form (E.Assign place target more value) w = assigned target more value w
expression_form (E.Block place statements value) w = block statements value w
expression_form (E.Let place pattern a b) w = let_in w place pattern (a w) (b w)
expression_form (E.Var place name typ a b) w = var_in name.text (a w) (b w)
expression_form (E.If place a b None) w = a w then λ v. truth v then if_so (b w) (gives V.Unit)
expression_form (E.If place a b (Some c)) w = a w then λ v. truth v then if_so (b w) (c w)
expression_form (E.Choose place choosing a cases) w = chosen choosing place a cases w
expression_form (E.Foreach place name span body) w =
    span.from w then λ u. integer u then λ from. span.to w then λ v. integer v then λ to. span.by w then λ x. integer x then λ by.
    foreach name.text span.direction from to by (body w)
expression_form (E.Loop place looping measure condition body) w = looped looping place measure condition body w
expression_form (E.Update place base index a) w = base w then λ old. index w then λ way. a w then λ v. needs (way.put_in old v)
expression_form (E.Struct place name fields) w =
    fields_of fields w then λ found. needs (and_then (struct_with w.text.types (name_of name) (names_of fields))
    (struct_made w (names_of fields) (values_of found)))
expression_form (E.With place base fields) w = base w then λ v. fields_of fields w then λ found. needs (with_fields w.text.types found v)
expression_form (E.OfType place asking typ) w = needs (asked asking typ w)
expression_form (E.Assert place a text) w = a w then λ v. truth v then if_so (gives V.Unit) (stops (Cause.Assertion place text))

abbrev pub meaning : Exp → Meaning
meaning = fold-Exp Meaning Target Statement Suffix Case Field Suffix Span Target
    expression_form target_form statement_form suffix_form case_form field_form index_form range_form further_form
