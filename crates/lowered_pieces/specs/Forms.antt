-- The code of each form over that of its parts. Its value goes to the first place in hand that is free, and what it does is what the
-- form means (Sail language manual, "Expressions").
use Rattle.std.specs.Prelude.{ℕ, ℤ, ◌+◌, nat_eq, negsuc, pos, Bool, true, false, not, ◌&&◌, ◌||◌, List, [], ◌∷◌, ◌++◌, length, map, slice_set, Option}
use Rattle.std.specs.Prelude.{Some, None}
use Rattle.std.specs.Prelude.{if◌then◌else◌}
use Rattle.std.specs.Str.{bytes_eq}
use Rattle.sail_base.specs.declared.place.Place.{Place as TextPlace}
use Rattle.sail_types.specs.declared.rows.Row.TheVariants as B
use Rattle.model_state.specs.declared.cause.Cause.{Cause}
use Rattle.model_state.specs.declared.cause.Cause.TheVariants.{Measure}
use Rattle.value_indices.specs.declared.indices.Indices.{Indices, fold-Indices}
use Rattle.value_indices.specs.declared.indices.Indices.TheOpen as W
use Rattle.value_indices.specs.declared.indices.Indices.TheOpen.{Indices-F, Reading-F}
use Rattle.call_arguments.specs.Placing.{variable_in}
use Rattle.size_values.specs.declared.constants.Picked.{Picked}
use Rattle.size_values.specs.declared.sized.Sized.{Sized, Sized-F, out-Sized}
use Rattle.size_values.specs.declared.sized.Sized.TheOpen as Z
use Rattle.size_values.specs.declared.sized.Sized.TheVariants as S
use Rattle.jib.specs.declared.code.Literal.{Literal}
use Rattle.jib.specs.declared.code.Literal.TheVariants as L
use Rattle.jib.specs.declared.code.Source.{Source}
use Rattle.jib.specs.declared.code.Source.TheVariants as R
use Rattle.jib.specs.declared.code.Operation.{Operation}
use Rattle.jib.specs.declared.code.Operation.TheVariants as O
use Rattle.jib.specs.declared.code.Instruction.{Instruction}
use Rattle.jib.specs.declared.code.Instruction.TheVariants as I
use Rattle.sail_types.specs.declared.table.Types.{Types}
use Rattle.checked_meaning.specs.Items.{payload_typ}
use Rattle.sized_meanings.specs.Case.{Case}
use Rattle.sized_meanings.specs.Lead.{Lead}
use Rattle.lowered_pieces.specs.Places.{Place, Raised, Local, Number, Temp, Kit, from, to, Mapped}
use Rattle.sail_types.specs.declared.numbers.Num.{Num}
use Rattle.sail_types.specs.declared.numbers.Con.{Con}
use Rattle.lowered_pieces.specs.Chains.{by_case, many}
use Rattle.lowered_pieces.specs.Keeping.{all_kept, give_one}
use Rattle.lowered_pieces.specs.Moves.{move, kept_code, retype, sources}

-- ---- pieces

-- a name in scope, and where its value stands: a local, or a value in hand
pub record Named : Type 0 where
  pub name : List ℕ
  pub place : Place

-- how deep code stands inside branches, loops and arms, behind which nothing is known of what was noted there; and how deep the number of each
-- variable does
pub record Depths : Type 0 where
  pub here : ℕ
  pub of : ℕ → ℕ

abbrev pub kit_at : Kit → Depths → Kit
kit_at kit d = record kit { depth = d.of }

-- where a form stands: the names in scope, the newest first; the first place in hand that is free; the label for what is thrown, which
-- is then in slot 0, and the one for No; and how deep it does
pub record Stand : Type 0 where
  pub scope : List Named
  pub temp : ℕ
  pub on_throw : ℕ
  pub on_no : ℕ
  pub depths : Depths

-- the code, with its labels counted from this one on
abbrev pub Coder : Type 0
Coder = Stand → ℕ → List Instruction

-- what is done with a value in hand, by its type: how many labels it has, and its code
pub record Tail : Type 0 where
  pub labels : ℕ
  pub code : Sized → ℕ → List Instruction

-- a type that a value may have, under these numbers
pub record End : Type 0 where
  pub picked : List Picked
  pub typ : Sized

-- a form: its labels, where its tail has so many; its code, where this is done with its value; the variables whose numbers it notes so deep; and, of forms
-- that end with a node that makes a value, the types that it may have by the numbers that are noted behind it
pub record Piece : Type 0 where
  pub labels : ℕ → ℕ
  pub ended : Tail → Coder
  pub notes : List ℕ
  pub ends : List End

abbrev pub no_tail : Tail
no_tail = record { labels = 0; code = λ t l. [] }

-- a form whose value stays in hand
abbrev pub code_of : Piece → Coder
code_of p = p.ended no_tail

abbrev pub count_of : Piece → ℕ
count_of p = p.labels 0

-- a form that never ends with a value
abbrev pub ending : ℕ → Coder → List ℕ → Piece
ending n co notes = record { labels = λ q. n; ended = λ tail. co; notes = notes; ends = [] }

abbrev pub higher : Stand → Stand
higher s = record s { temp = s.temp + 1 }

abbrev pub caught_at : ℕ → Stand → Stand
caught_at h s = record s { on_throw = h }

-- no node is so: its parts are others than its kind has
abbrev pub nothing_piece : Piece
nothing_piece = ending 0 (λ s l. []) []

-- a form of whose value these types are said
abbrev pub said : List End → Piece → Piece
said es p = record { labels = p.labels; ended = p.ended; notes = p.notes; ends = es }

-- a form of whose value no type is said
abbrev pub unsaid : Piece → Piece
unsaid p = said [] p

abbrev pub picked_in : Case → List Picked
picked_in c = c.picked

-- ---- the order of operands

-- others in these places
abbrev pub set_fields : {A : Type 0} → List ℕ → List A → List A → List A
set_fields (i ∷ is) (x ∷ xs) old = set_fields is xs (slice_set old i x)
set_fields is xs old = old

-- operands by the numbers of their fields, each to its place
abbrev pub in_fields : {A : Type 0} → A → List ℕ → List A → List A
in_fields unit is xs = set_fields is xs (map (λ i. unit) is)

abbrev pub Order : Type 0
Order = List Source → List Source

abbrev pub in_order : {A : Type 0} → A → A
in_order xs = xs

-- the place of the newest local of a name
abbrev pub place_of : List Named → List ℕ → Place
place_of [] name = Raised
place_of (x ∷ xs) name = if bytes_eq x.name name then x.place else place_of xs name

-- what is around a function: by the places of instances, the function of each and the type of its result; the opening that gives the value of a name
-- of a top-level let; the numbers and truths that are known of this function's variables, and the types of what it is called with
pub record Callees : Type 0 where
  pub function : ℕ → ℕ
  pub answer : ℕ → Sized
  pub size : Num → Option ℤ
  pub truth : Con → Option Bool
  pub given : List Sized
  pub opening : ℕ → ℕ
  -- directions of mappings, and which of them this function's body calls
  pub direction : ℕ → Mapped
  pub crosses : ℕ → Bool

-- ---- numbers that a value gives

abbrev pub one_or_none : Option ℕ → List ℕ
one_or_none None = []
one_or_none (Some x) = x ∷ []

abbrev pub joined : List (List ℕ) → List ℕ
joined [] = []
joined (xs ∷ xss) = xs ++ joined xss

abbrev pub form_notes : Indices-F (List ℕ) (List ℕ) → List ℕ
form_notes (W.Integer t) = one_or_none (variable_in t)
form_notes (W.Bits t) = one_or_none (variable_in t)
form_notes (W.Vector t xs) = one_or_none (variable_in t)
form_notes (W.Tuple xss) = joined xss
form_notes i = []

-- the variables whose numbers are noted
abbrev pub notes_of : Indices → List ℕ
notes_of = fold-Indices (List ℕ) (List ℕ) form_notes (λ (r : Reading-F (List ℕ) (List ℕ)). [])

abbrev pub all_notes : List Indices → List ℕ
all_notes [] = []
all_notes (i ∷ is) = notes_of i ++ all_notes is

abbrev pub is_in : ℕ → List ℕ → Bool
is_in x [] = false
is_in x (y ∷ ys) = nat_eq x y || is_in x ys

-- ---- the types that a value may have: by the cases of the node that made it

abbrev pub picked_apart : List ℕ → List Picked → Bool
picked_apart xs [] = true
picked_apart xs (p ∷ ps) = not (is_in p.variable xs) && picked_apart xs ps

abbrev pub cases_apart : List ℕ → List Case → Bool
cases_apart xs [] = true
cases_apart xs (c ∷ cs) = picked_apart xs c.picked && cases_apart xs cs

abbrev pub cases_ends : List Case → List End
cases_ends [] = []
cases_ends (c ∷ cs) = record { picked = c.picked; typ = c.gives } ∷ cases_ends cs

-- one type, whatever the numbers are
abbrev pub one_end : Sized → List End
one_end t = record { picked = []; typ = t } ∷ []

-- a node without cases makes no value, of which any type may be said
abbrev pub first_end : List Case → List End
first_end [] = one_end S.Unit
first_end (c ∷ cs) = one_end c.gives

-- that type; else by the numbers that are noted behind the value, where they are those by which its case was chosen
abbrev pub ends_of : List Indices → List Case → List End
ends_of gives cases = if give_one cases then first_end cases else if all_kept gives cases then cases_ends cases else []

abbrev pub has_ends : List End → Bool
has_ends [] = false
has_ends (e ∷ es) = true

abbrev pub picked_by : Lead → List Picked
picked_by x = x.picked

-- ---- what doesn't exist: no value has its type, so that nothing is ever made of operands of which one has it, and no code is needed

abbrev pub never_form : Sized-F Sized → Bool
never_form Z.Never = true
never_form s = false

abbrev pub is_never : Sized → Bool
is_never t = never_form (out-Sized t)

abbrev pub dead : List Sized → Bool
dead [] = false
dead (t ∷ ts) = is_never t || dead ts

-- the code over values of these types
abbrev pub live_code : List Sized → List Instruction → List Instruction
live_code ts code = if dead ts then [] else code

-- ---- constants

-- a value of this type, and then the tail
abbrev pub constant_code : Kit → ℕ → Literal → ℕ → List Instruction
constant_code kit t literal n = I.Copy (to kit (Temp n) t) (R.Constant t literal) ∷ []

abbrev pub constant_piece : Kit → Sized → Literal → Piece
constant_piece kit t literal = record {
  labels = λ q. q;
  ended = λ tail s l. constant_code kit (kit.number t) literal s.temp ++ tail.code t l;
  notes = [];
  ends = one_end t;
}

abbrev pub unit_source : Kit → Source
unit_source kit = R.Constant kit.unit L.Unit

abbrev pub unit_piece : Kit → Piece
unit_piece kit = constant_piece kit kit.nothing L.Unit

module _ (kit : Kit) (number : Sized → ℕ) where
  -- ---- of a source of this type, where the places in hand from one on are free

  abbrev pub Noter : Type 0
  Noter = Source → Sized → ℕ → List Instruction

  abbrev pub number_noted : Option ℕ → Sized-F Sized → Source → List Instruction
  number_noted (Some x) Z.Int a = I.Copy (to kit (Number x (kit.depth x)) kit.integer) a ∷ []
  number_noted x s a = []

  -- a width or a length is that of the type
  abbrev pub known_noted : Option ℕ → ℤ → List Instruction
  known_noted (Some x) n = I.Copy (to kit (Number x (kit.depth x)) kit.integer) (R.Constant kit.integer (L.Integer n)) ∷ []
  known_noted None n = []

  -- a part is taken out where something is noted of it
  abbrev pub part_noted : Instruction → List Instruction → List Instruction
  part_noted take [] = []
  part_noted take (i ∷ is) = take ∷ i ∷ is

  abbrev pub parts_noted : List Noter → List Sized → ℕ → Source → ℕ → List Instruction
  parts_noted (f ∷ fs) (s ∷ ss) j a p =
      part_noted (I.Apply (to kit (Temp p) (number s)) (O.Field j) (a ∷ [])) (f (from kit (Temp p) (number s)) s (p + 1)) ++ parts_noted fs ss (j + 1) a p
  parts_noted fs ss j a p = []

  abbrev pub form_noted : Indices-F Noter Noter → Sized-F Sized → Source → ℕ → List Instruction
  form_noted (W.Integer t) s a p = number_noted (variable_in t) s a
  form_noted (W.Bits t) (Z.Bits n) a p = known_noted (variable_in t) n
  form_noted (W.Vector t f) (Z.Vector n s) a p = known_noted (variable_in t) n
  form_noted (W.Tuple fs) (Z.Tuple ss) a p = parts_noted fs ss 0 a p
  form_noted i s a p = []

  abbrev pub noter_of : Indices → Noter
  noter_of = fold-Indices Noter Noter (λ i a s p. form_noted i (out-Sized s) a p) (λ (r : Reading-F Noter Noter) a s p. [])

  -- of the value in hand at n
  abbrev pub note_code : ℕ → List Indices → Sized → List Instruction
  note_code n [] s = []
  note_code n (i ∷ is) s = noter_of i (from kit (Temp n) (number s)) s (n + 1) ++ note_code n is s

module _ (kit : Kit) (number : Sized → ℕ) where
  -- ---- values by the cases of their nodes

  abbrev pub first_type : List Sized → ℕ
  first_type [] = kit.unit
  first_type (t ∷ ts) = number t

  abbrev pub numbers_of : List Sized → List ℕ
  numbers_of [] = []
  numbers_of (t ∷ ts) = number t ∷ numbers_of ts

  -- how a value comes to its place in a case
  abbrev pub Maker : Type 0
  Maker = Stand → Case → List Instruction

  abbrev pub made_arm : Maker → List Indices → Tail → Stand → Case → ℕ → List Instruction
  made_arm make gives tail s c l = make s c ++ (note_code (kit_at kit s.depths) number s.temp gives c.gives ++ tail.code c.gives l)

  -- so many values are in hand
  abbrev pub made_code : ℕ → Maker → List Case → List Indices → Tail → Coder
  made_code n make cases gives tail s l =
      by_case picked_in (kit_at kit s.depths) (s.temp + n) tail.labels (made_arm make gives tail s) l cases

  abbrev pub made_piece : Maker → List Case → List Indices → Piece
  made_piece make cases gives = record {
    labels = λ q. many q cases;
    ended = made_code 0 make cases gives;
    notes = all_notes gives;
    ends = ends_of gives cases;
  }

  -- a name
  abbrev pub local_make : List ℕ → Maker
  local_make name s c = move kit (Temp s.temp) (number c.gives) (place_of s.scope name) (first_type c.takes) ∷ []

  -- a variable, at the type at which it is read here
  abbrev pub variable_make : List ℕ → Maker
  variable_make name s c = I.Copy (to kit (Temp s.temp) (number c.gives)) (from kit (place_of s.scope name) (number c.gives)) ∷ []

  -- where it is read at all
  abbrev pub variable_piece : List Sized → List ℕ → List Case → List Indices → Piece
  variable_piece [] name cases gives = nothing_piece
  variable_piece (t ∷ ts) name cases gives = made_piece (variable_make name) cases gives

  -- a register, or the value of an opening
  abbrev pub source_make : Source → Maker
  source_make a s c = I.Copy (to kit (Temp s.temp) (number c.gives)) a ∷ []

  -- a value in hand comes to its type
  abbrev pub cast_make : Maker
  cast_make s c = live_code c.takes (retype kit s.temp (first_type c.takes) (number c.gives))

  -- what an operation makes of the operands in hand, in another order
  abbrev pub work_make : Operation → Order → Maker
  work_make op order s c =
      live_code c.takes (I.Apply (to kit (Temp s.temp) (number c.gives)) op (order (sources kit s.temp (numbers_of c.takes))) ∷ [])

  abbrev pub cast_code : List Case → List Indices → Piece → Tail → Coder
  cast_code cases gives a tail s l = code_of a s l ++ made_code 1 cast_make cases gives tail s (l + count_of a)

  abbrev pub cast_piece : List Case → List Indices → Piece → Piece
  cast_piece cases gives a = record {
    labels = λ q. count_of a + many q cases;
    ended = cast_code cases gives a;
    notes = a.notes ++ all_notes gives;
    ends = ends_of gives cases;
  }

  -- where ways meet: each way's value comes from its own type to that of the node, whose case is the same behind all; then its numbers are noted
  abbrev pub met_arm : Sized → Stand → Case → ℕ → List Instruction
  met_arm t s c l = live_code (t ∷ []) (retype kit s.temp (number t) (number c.gives))

  abbrev pub met_tail : List Case → Stand → Tail
  met_tail cases s = record {
    labels = many 0 cases;
    code = λ t l. by_case picked_in (kit_at kit s.depths) (s.temp + 1) 0 (met_arm t s) l cases;
  }

  abbrev pub again_make : Maker
  again_make s c = []

  abbrev pub again_code : List Case → List Indices → Tail → Coder
  again_code cases gives = made_code 1 again_make cases gives

  -- ---- operands from left to right; and calls, where the callee goes by the case in hand

  abbrev pub all_code : List Piece → Coder
  all_code [] s l = []
  all_code (p ∷ ps) s l = code_of p s l ++ all_code ps (higher s) (l + count_of p)

  abbrev pub all_labels : List Piece → ℕ
  all_labels [] = 0
  all_labels (p ∷ ps) = count_of p + all_labels ps

  abbrev pub notes_in : List Piece → List ℕ
  notes_in [] = []
  notes_in (p ∷ ps) = p.notes ++ notes_in ps

  -- a value that is made of the operands
  abbrev pub made_of : Maker → List Case → List Indices → List Piece → Tail → Coder
  made_of make cases gives args tail s l = all_code args s l ++ made_code (length args) make cases gives tail s (l + all_labels args)

  abbrev pub made_of_piece : Maker → List Case → List Indices → List Piece → Piece
  made_of_piece make cases gives args = record {
    labels = λ q. all_labels args + many q cases;
    ended = made_of make cases gives args;
    notes = notes_in args ++ all_notes gives;
    ends = ends_of gives cases;
  }

  abbrev pub work_piece : Operation → Order → List Case → List Indices → List Piece → Piece
  work_piece op order = made_of_piece (work_make op order)

  -- a union's constructor over its arguments: none is `()`, and several are a tuple, of the type of the payload
  abbrev pub construct_code : Types → ℕ → ℕ → ℕ → List Sized → Sized → List Instruction
  construct_code types u c n [] s = I.Apply (to kit (Temp n) (number s)) (O.Construct c) (unit_source kit ∷ []) ∷ []
  construct_code types u c n (t ∷ []) s = I.Apply (to kit (Temp n) (number s)) (O.Construct c) (from kit (Temp n) (number t) ∷ []) ∷ []
  construct_code types u c n (t ∷ r ∷ ts) s =
      I.Apply (to kit (Temp n) (number (payload_typ types u c (out-Sized s)))) O.Build (sources kit n (numbers_of (t ∷ r ∷ ts)))
      ∷ I.Apply (to kit (Temp n) (number s)) (O.Construct c) (from kit (Temp n) (number (payload_typ types u c (out-Sized s))) ∷ []) ∷ []

  abbrev pub construct_make : Types → ℕ → ℕ → Maker
  construct_make types u c s a = live_code a.takes (construct_code types u c s.temp a.takes a.gives)

  -- the answer of a call comes to the type of the node's case
  abbrev pub answer_make : ℕ → Maker
  answer_make t s c = retype kit s.temp t (number c.gives)

  module _ (callees : Callees) where
    abbrev pub lead_arm : TextPlace → List Case → List Indices → Tail → Stand → Lead → ℕ → List Instruction
    lead_arm place cases gives tail s a l =
        I.Call (record {
          slot = kit.name (Temp s.temp) (number (callees.answer a.instance));
          function = callees.function a.instance;
          arguments = sources kit s.temp (numbers_of a.takes);
          on_throw = s.on_throw;
          place = place;
        }) ∷ made_code 1 (answer_make (number (callees.answer a.instance))) cases gives tail s l

    abbrev pub call_code : TextPlace → List Case → List Lead → List Indices → List Piece → Tail → Coder
    call_code place cases leads gives args tail s l =
        all_code args s l
        ++ by_case picked_by (kit_at kit s.depths) (s.temp + length args) (many tail.labels cases) (lead_arm place cases gives tail s)
        (l + all_labels args) leads

    abbrev pub call_piece : TextPlace → List Case → List Lead → List Indices → List Piece → Piece
    call_piece place cases leads gives args = record {
      labels = λ q. all_labels args + many (many q cases) leads;
      ended = call_code place cases leads gives args;
      notes = notes_in args ++ all_notes gives;
      ends = ends_of gives cases;
    }

-- ---- throws, and ends: the function's, with what is returned; the run's, with a cause

abbrev pub throw_tail : Kit → Stand → Tail
throw_tail kit s = record {
  labels = 0;
  code = λ t l. I.Copy (to kit Raised kit.exception) (from kit (Temp s.temp) (kit.number t)) ∷ I.Goto s.on_throw ∷ [];
}

abbrev pub throw_piece : Kit → Piece → Piece
throw_piece kit a = ending (count_of a) (λ s. a.ended (throw_tail kit s) s) a.notes

abbrev pub return_tail : Kit → Stand → Tail
return_tail kit s = record { labels = 0; code = λ t l. I.End (from kit (Temp s.temp) (kit.number t)) ∷ [] }

abbrev pub return_piece : Kit → Piece → Piece
return_piece kit a = ending (count_of a) (λ s. a.ended (return_tail kit s) s) a.notes

abbrev pub stop_piece : Cause → Piece → Piece
stop_piece cause a = ending (count_of a) (λ s l. code_of a s l ++ I.Stop cause ∷ []) a.notes

-- a test of the truth in hand, a jump where it is so
abbrev pub jump_where : Kit → Stand → ℕ → Instruction
jump_where kit s l = I.JumpIf (from kit (Temp s.temp) kit.truth) l

-- labels: its own, those of the part, the tail's
abbrev pub assert_code : Kit → Cause → Piece → Tail → Coder
assert_code kit cause a tail s l =
    code_of a s (l + 1) ++ jump_where kit s l ∷ I.Stop cause ∷ I.Label l ∷ (unit_piece kit).ended tail s (l + 1 + count_of a)

abbrev pub assert_piece : Kit → Cause → Piece → Piece
assert_piece kit cause a = record {
  labels = λ q. 1 + count_of a + q;
  ended = assert_code kit cause a;
  notes = a.notes;
  ends = [];
}

-- ---- names: a value is bound in a place of its own, for what follows

abbrev pub bound : List ℕ → Stand → Stand
bound name s = record s { scope = record { name = name; place = Local (length s.scope) } ∷ s.scope }

abbrev pub bind_tail : Kit → Stand → Tail
bind_tail kit s = record {
  labels = 0;
  code = λ t l. I.Copy (to kit (Local (length s.scope)) (kit.number t)) (from kit (Temp s.temp) (kit.number t)) ∷ [];
}

abbrev pub bind_code : Kit → List ℕ → Piece → Piece → Tail → Coder
bind_code kit name a b tail s l = a.ended (bind_tail kit s) s l ++ b.ended tail (bound name s) (l + count_of a)

abbrev pub bind_piece : Kit → List ℕ → Piece → Piece → Piece
bind_piece kit name a b = record {
  labels = λ q. count_of a + b.labels q;
  ended = bind_code kit name a b;
  notes = a.notes ++ b.notes;
  ends = [];
}

-- a variable, which is read at these types
abbrev pub var_tail : Kit → List Sized → Stand → Tail
var_tail kit us s = record { labels = 0; code = λ t l. kept_code kit (Local (length s.scope)) s.temp us t }

abbrev pub var_code : Kit → List Sized → List ℕ → Piece → Piece → Tail → Coder
var_code kit us name a b tail s l = a.ended (var_tail kit us s) s l ++ b.ended tail (bound name s) (l + count_of a)

abbrev pub var_piece : Kit → List Sized → List ℕ → Piece → Piece → Piece
var_piece kit us name a b = record {
  labels = λ q. count_of a + b.labels q;
  ended = var_code kit us name a b;
  notes = a.notes ++ b.notes;
  ends = b.ends;
}

-- ---- one behind the other

abbrev pub seq_code : Piece → Piece → Tail → Coder
seq_code a b tail s l = code_of a s l ++ b.ended tail s (l + count_of a)

abbrev pub seq_piece : Piece → Piece → Piece
seq_piece a b = record {
  labels = λ q. count_of a + b.labels q;
  ended = seq_code a b;
  notes = a.notes ++ b.notes;
  ends = b.ends;
}

-- ---- branches, turns of loops and arms: what is noted there is gone behind them, so that the numbers of its variables stand in places of their own

abbrev pub deeper : List ℕ → Depths → Depths
deeper xs d = record { here = d.here + 1; of = λ x. if is_in x xs then d.here + 1 else d.of x }

abbrev pub inner : List ℕ → Stand → Stand
inner xs s = record s { depths = deeper xs s.depths }

-- they begin with what was noted before
abbrev pub enter_code : Kit → Depths → List ℕ → List Instruction
enter_code kit d [] = []
enter_code kit d (x ∷ xs) = I.Copy (to kit (Number x (d.here + 1)) kit.integer) (from kit (Number x (d.of x)) kit.integer) ∷ enter_code kit d xs

abbrev pub inside_code : Kit → Piece → Tail → Coder
inside_code kit a tail s l = enter_code kit s.depths a.notes ++ a.ended tail (inner a.notes s) l

abbrev pub inside_piece : Kit → Piece → Piece
inside_piece kit a = record { labels = a.labels; ended = inside_code kit a; notes = []; ends = [] }

-- ---- `if`: the test jumps to the first branch, and the second goes on behind it

abbrev pub if_code : Kit → Piece → Piece → Piece → Tail → Coder
if_code kit c a b tail s l =
    code_of c s (l + 2) ++ jump_where kit s l ∷ (b.ended tail s (l + 2 + count_of c) ++ I.Goto (l + 1) ∷ I.Label l
    ∷ (a.ended tail s (l + 2 + count_of c + b.labels tail.labels) ++ I.Label (l + 1) ∷ []))

-- each branch has the tail: where one gives no value anew
abbrev pub if_piece : Kit → Piece → Piece → Piece → Piece
if_piece kit c a b = record {
  labels = λ q. 2 + count_of c + b.labels q + a.labels q;
  ended = if_code kit c a b;
  notes = c.notes ++ (a.notes ++ b.notes);
  ends = [];
}

-- ways that meet, with the tail once behind them
abbrev pub meet_code : Kit → (Sized → ℕ) → List Case → List Indices → Piece → Tail → Coder
meet_code kit number cases gives a tail s l =
    a.ended (met_tail kit number cases s) s l ++ again_code kit number cases gives tail s (l + a.labels (many 0 cases))

abbrev pub meet_piece : Kit → (Sized → ℕ) → List Case → List Indices → Piece → Piece
meet_piece kit number cases gives a = record {
  labels = λ q. a.labels (many 0 cases) + many q cases;
  ended = meet_code kit number cases gives a;
  notes = a.notes ++ all_notes gives;
  ends = ends_of gives cases;
}

-- ---- truths: the second is looked at where the first doesn't decide; the value is a truth

abbrev pub truth_end : Kit → Tail → Coder
truth_end kit tail s l = tail.code kit.truths l

abbrev pub and_code : Kit → Piece → Piece → Tail → Coder
and_code kit a b tail s l =
    code_of a s (l + 2) ++ jump_where kit s l ∷ I.Goto (l + 1) ∷ I.Label l
    ∷ (code_of b s (l + 2 + count_of a) ++ I.Label (l + 1) ∷ truth_end kit tail s (l + 2 + count_of a + count_of b))

abbrev pub and_piece : Kit → Piece → Piece → Piece
and_piece kit a b = record {
  labels = λ q. 2 + count_of a + count_of b + q;
  ended = and_code kit a b;
  notes = a.notes ++ b.notes;
  ends = [];
}

abbrev pub or_code : Kit → Piece → Piece → Tail → Coder
or_code kit a b tail s l =
    code_of a s (l + 1) ++ jump_where kit s l
    ∷ (code_of b s (l + 1 + count_of a) ++ I.Label l ∷ truth_end kit tail s (l + 1 + count_of a + count_of b))

abbrev pub or_piece : Kit → Piece → Piece → Piece
or_piece kit a b = record {
  labels = λ q. 1 + count_of a + count_of b + q;
  ended = or_code kit a b;
  notes = a.notes ++ b.notes;
  ends = [];
}

-- a guard: what isn't taken goes on at the label for No
abbrev pub when_code : Kit → Piece → Piece → Tail → Coder
when_code kit a b tail s l =
    code_of a s (l + 1) ++ jump_where kit s l ∷ I.Goto s.on_no ∷ I.Label l ∷ b.ended tail s (l + 1 + count_of a)

abbrev pub when_piece : Kit → Piece → Piece → Piece
when_piece kit a b = record {
  labels = λ q. 1 + count_of a + b.labels q;
  ended = when_code kit a b;
  notes = a.notes ++ b.notes;
  ends = b.ends;
}

-- ---- `while`: the test stands behind the body, and the jump back is to a label with a tick; the measure of the turn before is in hand,
-- below 0 where there was none

abbrev pub fallen_code : Kit → TextPlace → ℕ → ℕ → List Instruction
fallen_code kit place n l =
    I.Apply (to kit (Temp (n + 2)) kit.truth) (O.Builtin B.LtInt) (from kit (Temp (n + 1)) kit.integer ∷ from kit (Temp n) kit.integer ∷ [])
    ∷ I.JumpIf (from kit (Temp (n + 2)) kit.truth) l
    ∷ I.Apply (to kit (Temp (n + 2)) kit.truth) (O.Builtin B.LtInt) (from kit (Temp n) kit.integer ∷ R.Constant kit.integer (L.Integer (pos 0)) ∷ [])
    ∷ I.JumpIf (from kit (Temp (n + 2)) kit.truth) l
    ∷ I.Stop (Measure place) ∷ I.Label l ∷ I.Copy (to kit (Temp n) kit.integer) (from kit (Temp (n + 1)) kit.integer) ∷ []

abbrev pub no_measure_yet : Kit → ℕ → Instruction
no_measure_yet kit n = I.Copy (to kit (Temp n) kit.integer) (R.Constant kit.integer (L.Integer (negsuc 0)))

-- labels: 3 of its own, those of measure, body and condition, the tail's
abbrev pub while_code : Kit → TextPlace → Piece → Piece → Piece → Tail → Coder
while_code kit place m c b tail s l =
    no_measure_yet kit s.temp ∷ I.Goto (l + 1) ∷ I.Label l ∷ I.Tick
    ∷ (code_of m (higher s) (l + 3) ++ (fallen_code kit place s.temp (l + 2)
    ++ (code_of b (higher s) (l + 3 + count_of m) ++ I.Label (l + 1)
    ∷ (code_of c (higher s) (l + 3 + count_of m + count_of b) ++ jump_where kit (higher s) l
    ∷ (unit_piece kit).ended tail s (l + 3 + count_of m + count_of b + count_of c)))))

abbrev pub while_piece : Kit → TextPlace → Piece → Piece → Piece → Piece
while_piece kit place m c b = record {
  labels = λ q. 3 + count_of m + count_of b + count_of c + q;
  ended = while_code kit place m c b;
  notes = m.notes ++ (c.notes ++ b.notes);
  ends = [];
}

-- `repeat`: the condition stands behind the body, and the jump back is where it is false
abbrev pub repeat_code : Kit → TextPlace → Piece → Piece → Piece → Tail → Coder
repeat_code kit place m b c tail s l =
    no_measure_yet kit s.temp ∷ I.Label l ∷ I.Tick
    ∷ (code_of m (higher s) (l + 3) ++ (fallen_code kit place s.temp (l + 1)
    ++ (code_of b (higher s) (l + 3 + count_of m) ++ (code_of c (higher s) (l + 3 + count_of m + count_of b)
    ++ jump_where kit (higher s) (l + 2) ∷ I.Goto l ∷ I.Label (l + 2)
    ∷ (unit_piece kit).ended tail s (l + 3 + count_of m + count_of b + count_of c)))))

abbrev pub repeat_piece : Kit → TextPlace → Piece → Piece → Piece → Piece
repeat_piece kit place m b c = record {
  labels = λ q. 3 + count_of m + count_of b + count_of c + q;
  ended = repeat_code kit place m b c;
  notes = m.notes ++ (b.notes ++ c.notes);
  ends = [];
}
