-- The code of flat arms: values in hand stand in slots, and a name of an arm costs no code (Sail language manual, "Pattern matching").
use Rattle.std.specs.Prelude.{ℕ, zero, suc, ℤ, pos, ◌+◌, ◌-◌, ◌*◌, nat_eq, Bool, true, false, ◌&&◌, List, [], ◌∷◌, ◌++◌, length, map}
use Rattle.std.specs.Prelude.{Option, Some, None, is_some, if◌then◌else◌}
use Rattle.sail_types.specs.declared.rows.Row.TheVariants as B
use Rattle.sail_types.specs.declared.table.Types.{Types}
use Rattle.model_state.specs.declared.cause.Cause.{Cause}
use Rattle.sail_core.specs.declared.patterns.Literal.{Literal as CoreLiteral}
use Rattle.sail_core.specs.declared.patterns.Literal.TheVariants as C
use Rattle.sail_core.specs.declared.patterns.Head.{Head}
use Rattle.sail_core.specs.declared.patterns.Head.TheVariants as H
use Rattle.sail_core.specs.declared.patterns.Step.{Step}
use Rattle.sail_core.specs.declared.patterns.Step.TheVariants as S
use Rattle.sail_core.specs.declared.patterns.Arm.{Arm}
use Rattle.sail_core.specs.declared.patterns.Arm.TheVariants as A
use Rattle.sail_core.specs.Making.{Part, component, payload, one_item, without_first}
use Rattle.sail_core.specs.Patterns.{known_sum, solved}
use Rattle.sail_core.specs.Values.{natural_of}
use Rattle.sail_types.specs.Sums.{and_then}
use Rattle.sail_types.specs.declared.numbers.Num.{Num}
use Rattle.size_values.specs.declared.sized.Sized.{Sized, Sized-F, out-Sized}
use Rattle.size_values.specs.declared.sized.Sized.TheOpen as Z
use Rattle.size_values.specs.declared.sized.Sized.TheVariants as T
use Rattle.checked_meaning.specs.Items.{part_typ}
use Rattle.jib.specs.declared.code.Literal.{Literal}
use Rattle.jib.specs.declared.code.Literal.TheVariants as L
use Rattle.jib.specs.declared.code.Source.{Source}
use Rattle.jib.specs.declared.code.Source.TheVariants as R
use Rattle.jib.specs.declared.code.Operation.{Operation}
use Rattle.jib.specs.declared.code.Operation.TheVariants as O
use Rattle.jib.specs.declared.code.Instruction.{Instruction}
use Rattle.jib.specs.declared.code.Instruction.TheVariants as I
use Rattle.value_indices.specs.declared.indices.Indices.{Indices, out-Indices}
use Rattle.value_indices.specs.declared.indices.Indices.TheOpen as W
use Rattle.value_indices.specs.declared.indices.Indices.TheOpen.{Indices-F}
use Rattle.value_indices.specs.declared.indices.Reading.{Reading}
use Rattle.size_values.specs.declared.constants.Picked.{Picked}
use Rattle.sized_meanings.specs.Case.{Case}
use Rattle.lowered_pieces.specs.Places.{Place, Raised, Given, Temp, Mapped, Kit, from, to}
use Rattle.lowered_pieces.specs.Chains.{by_case, many}
use Rattle.lowered_pieces.specs.Moves.{move}
use Rattle.lowered_pieces.specs.Nodes.{is_empty}
use Rattle.lowered_pieces.specs.Forms.{Named, Stand, Coder, Tail, End, Piece, ends_of, ending, nothing_piece, seq_piece, said, caught_at, made_piece}
use Rattle.lowered_pieces.specs.Forms.{source_make, inside_piece, kit_at, noter_of, all_notes}

abbrev pub constant_of : CoreLiteral → Literal
constant_of C.Unit = L.Unit
constant_of (C.Integer z) = L.Integer z
constant_of (C.Truth b) = L.Truth b
constant_of (C.Bit b) = L.Bit b
constant_of (C.Bits bs) = L.Bits bs
constant_of (C.String text) = L.String text
constant_of (C.Member e k) = L.Member e k

-- a value in hand: where it stands, and its type
pub record Held : Type 0 where
  pub place : Place
  pub typ : Sized

-- what an arm has in hand: its values by number, the names so far with what each holds, and the first place that is free
pub record Hand : Type 0 where
  pub values : List Held
  pub names : List Named
  pub named : List Held
  pub free : ℕ

-- the code of a head, what it takes out, and the first place that is free then
pub record Taken : Type 0 where
  pub code : List Instruction
  pub parts : List Held
  pub free : ℕ

-- one part that is taken out: its type, and what works it out
pub record Taking : Type 0 where
  pub typ : Sized
  pub op : Operation
  pub sources : List Source

-- values that are matched, with their types under these numbers
pub record Choice : Type 0 where
  pub picked : List Picked
  pub values : List Held

abbrev pub picked_of : Choice → List Picked
picked_of c = c.picked

-- what is matched: one value in hand, of these types; or what a function is called with
pub data Matched : Type 0 where
  in_hand : List End → Matched
  arguments : List Sized → Matched

-- how many places it takes
abbrev pub places_of : Matched → ℕ
places_of (in_hand es) = 1
places_of (arguments ss) = 0

-- how many labels a choice among its types has
abbrev pub choice_labels : Matched → ℕ
choice_labels (in_hand es) = many 0 es
choice_labels (arguments ss) = 0

-- ---- widths of parts of a word: one that is written, and the word's own

abbrev pub width_or : Option ℤ → ℕ
width_or (Some (pos n)) = n
width_or z = 0

abbrev pub part_width : (Num → Option ℤ) → Option Num → Option ℕ
part_width size None = None
part_width size (Some t) = Some (width_or (size t))

abbrev pub word_width : Sized-F Sized → ℕ
word_width (Z.Bits n) = width_or (Some n)
word_width t = 0

-- the part without one takes the rest
abbrev pub cut_widths : ℕ → List (Option ℕ) → List ℕ
cut_widths n ws = map (solved (n - known_sum ws)) ws

-- the steps of a flat arm
abbrev pub steps_in : Arm → List Step
steps_in (A.Flat k ss) = ss
steps_in arm = []

abbrev pub is_union : ℕ → Sized-F Sized → Bool
is_union u (Z.Named v zs ss) = nat_eq u v
is_union u s = false

abbrev pub held_at : ℕ → Sized → Held
held_at q s = record { place = Temp q; typ = s }

abbrev pub taken : List Instruction → List Held → ℕ → Taken
taken code parts free = record { code = code; parts = parts; free = free }

abbrev pub choices_at : ℕ → List End → List Choice
choices_at q [] = []
choices_at q (e ∷ es) = record { picked = e.picked; values = held_at q e.typ ∷ [] } ∷ choices_at q es

abbrev pub given_held : ℕ → List Sized → List Held
given_held i [] = []
given_held i (s ∷ ss) = record { place = Given i; typ = s } ∷ given_held (i + 1) ss

-- where the value in hand stands at this place
abbrev pub choices : Matched → ℕ → List Choice
choices (in_hand es) q = choices_at q es
choices (arguments ss) q = record { picked = []; values = given_held 0 ss } ∷ []

abbrev pub with_taken : Hand → Taken → Hand
with_taken hand t = record hand { values = hand.values ++ t.parts; free = t.free }

-- where a value is another one for certain, but places are as where it isn't
abbrev pub skipped : ℕ → Taken → Taken
skipped fail t = record { code = I.Goto fail ∷ []; parts = t.parts; free = t.free }

-- ---- the numbers that values give, each where it stands, where the places in hand from one on are free

module _ (kit : Kit) where
  abbrev pub values_noted : List Indices → List Held → ℕ → List Instruction
  values_noted (i ∷ is) (h ∷ hs) p = noter_of kit kit.number i (from kit h.place (kit.number h.typ)) h.typ p ++ values_noted is hs p
  values_noted is hs p = []

  abbrev pub tuple_noted : Indices-F Indices Reading → List Held → ℕ → List Instruction
  tuple_noted (W.Tuple is) hs p = values_noted is hs p
  tuple_noted i hs p = []

  -- by all that is said of an arm
  abbrev pub arm_noted : List Indices → List Held → ℕ → List Instruction
  arm_noted [] hs p = []
  arm_noted (i ∷ is) hs p = tuple_noted (out-Indices i) hs p ++ arm_noted is hs p

module _ (types : Types) (kit : Kit) where
  abbrev pub held : Held → Source
  held h = from kit h.place (kit.number h.typ)

  abbrev pub part_at : Part → Held → ℕ → Held
  part_at p h q = held_at q (part_typ types p h.typ)

  -- ---- heads: a value that is another one goes to a label; what is taken out goes to the places from q on

  -- so many parts of a tuple, from the j-th on
  abbrev pub fields_code : Held → ℕ → ℕ → ℕ → List Instruction
  fields_code h j q zero = []
  fields_code h j q (suc k) =
      I.Apply (to kit (Temp q) (kit.number (part_typ types (component j) h.typ))) (O.Field j) (held h ∷ []) ∷ fields_code h (suc j) (q + 1) k

  abbrev pub fields_held : Held → ℕ → ℕ → ℕ → List Held
  fields_held h j q zero = []
  fields_held h j q (suc k) = part_at (component j) h q ∷ fields_held h (suc j) (q + 1) k

  abbrev pub test_code : Held → ℕ → Literal → ℕ → List Instruction
  test_code h q literal fail =
      I.Apply (to kit (Temp q) kit.truth) (O.Builtin B.Neq) (R.Constant (kit.number h.typ) literal ∷ held h ∷ [])
      ∷ I.JumpIf (from kit (Temp q) kit.truth) fail ∷ []

  -- the payload is one part, or a tuple of parts
  abbrev pub payload_step : Held → ℕ → ℕ → ℕ → ℕ → Instruction
  payload_step h u c q fail = I.Payload (kit.name (Temp q) (kit.number (part_typ types (payload u c) h.typ))) (held h) c fail

  abbrev pub one_taken : Held → ℕ → ℕ → ℕ → ℕ → Taken
  one_taken h u c q fail = taken (payload_step h u c q fail ∷ []) (part_at (payload u c) h q ∷ []) (q + 1)

  abbrev pub many_taken : Held → ℕ → ℕ → ℕ → ℕ → ℕ → Taken
  many_taken h u c k q fail =
      taken (payload_step h u c q fail ∷ fields_code (part_at (payload u c) h q) 0 (q + 1) k) (fields_held (part_at (payload u c) h q) 0 (q + 1) k) (q + 1 + k)

  abbrev pub payload_taken : Held → ℕ → ℕ → ℕ → ℕ → ℕ → Taken
  payload_taken h u c k q fail = if nat_eq k 1 then one_taken h u c q fail else many_taken h u c k q fail

  -- ---- items, one by one

  abbrev pub int_at : ℕ → Source
  int_at n = R.Constant kit.integer (L.Integer (pos n))

  abbrev pub takes_code : List Taking → ℕ → List Instruction
  takes_code [] q = []
  takes_code (t ∷ ts) q = I.Apply (to kit (Temp q) (kit.number t.typ)) t.op t.sources ∷ takes_code ts (q + 1)

  abbrev pub takes_held : List Taking → ℕ → List Held
  takes_held [] q = []
  takes_held (t ∷ ts) q = held_at q t.typ ∷ takes_held ts (q + 1)

  abbrev pub item_take : Held → ℕ → Taking
  item_take h i = record { typ = part_typ types one_item h.typ; op = O.Item; sources = held h ∷ int_at i ∷ [] }

  -- so many items of a vector: the first that is written has the highest index
  abbrev pub vector_takes : Held → ℕ → List Taking
  vector_takes h zero = []
  vector_takes h (suc j) = item_take h j ∷ vector_takes h j

  -- ---- lists: an item at the first place, and the rest behind it

  abbrev pub jump_step : ℕ → ℕ → Instruction
  jump_step q fail = I.JumpIf (from kit (Temp q) kit.truth) fail

  abbrev pub empty_step : Held → ℕ → Instruction
  empty_step h q = I.Apply (to kit (Temp q) kit.truth) O.IsEmpty (held h ∷ [])

  abbrev pub rest_at : Held → ℕ → Held
  rest_at h q = part_at without_first h (q + 1)

  abbrev pub first_code : Held → ℕ → ℕ → List Instruction
  first_code h q fail =
      empty_step h q ∷ jump_step q fail
      ∷ I.Apply (to kit (Temp q) (kit.number (part_typ types one_item h.typ))) O.Item (held h ∷ int_at 0 ∷ [])
      ∷ I.Apply (to kit (Temp (q + 1)) (kit.number (part_typ types without_first h.typ))) O.Rest (held h ∷ []) ∷ []

  -- a list of just so many items
  abbrev pub list_code : Held → ℕ → ℕ → ℕ → List Instruction
  list_code h zero q fail =
      empty_step h q ∷ I.Apply (to kit (Temp q) kit.truth) (O.Builtin B.NotBool) (from kit (Temp q) kit.truth ∷ []) ∷ jump_step q fail ∷ []
  list_code h (suc k) q fail = first_code h q fail ++ list_code (rest_at h q) k (q + 2) fail

  abbrev pub list_held : Held → ℕ → ℕ → List Held
  list_held h zero q = []
  list_held h (suc k) q = part_at one_item h q ∷ list_held (rest_at h q) k (q + 2)

  -- ---- words: the highest bits go to the first part, and the part of unknown width takes the rest

  abbrev pub integer_of : ℤ → Source
  integer_of z = R.Constant kit.integer (L.Integer z)

  -- so many bits, where so many are left
  abbrev pub cut_take : Held → ℕ → ℕ → Taking
  cut_take h m zero = record { typ = T.Bits (pos 0); op = O.Same; sources = R.Constant (kit.number (T.Bits (pos 0))) (L.Bits []) ∷ [] }
  cut_take h m (suc n) =
      record { typ = T.Bits (pos (suc n)); op = O.Slice; sources = held h ∷ integer_of (pos (m - 1)) ∷ integer_of (pos (m - suc n)) ∷ [] }

  abbrev pub cut_takes : Held → ℕ → List ℕ → List Taking
  cut_takes h m [] = []
  cut_takes h m (n ∷ ns) = cut_take h m n ∷ cut_takes h (m - n) ns

  abbrev pub word_takes : Held → List (Option Num) → List Taking
  word_takes h ws = cut_takes h (word_width (out-Sized h.typ)) (cut_widths (word_width (out-Sized h.typ)) (map (part_width kit.size) ws))

  abbrev pub head_taken : Held → Head → ℕ → ℕ → ℕ → Taken
  head_taken h (H.Is literal) k q fail = taken (test_code h q (constant_of literal) fail) [] q
  head_taken h H.Tuple k q fail = taken (fields_code h 0 q k) (fields_held h 0 q k) (q + k)
  head_taken h (H.Constructor u c) k q fail = if is_union u (out-Sized h.typ) then payload_taken h u c k q fail else skipped fail (payload_taken h u c k q fail)
  head_taken h H.Vector k q fail = taken (takes_code (vector_takes h k) q) (takes_held (vector_takes h k) q) (q + k)
  head_taken h H.List k q fail = taken (list_code h k q fail) (list_held h k q) (q + 2 * k + 1)
  head_taken h H.Cons k q fail = taken (first_code h q fail) (part_at one_item h q ∷ rest_at h q ∷ []) (q + 2)
  head_taken h (H.Cut ws) k q fail = taken (takes_code (word_takes h ws) q) (takes_held (word_takes h ws) q) (q + k)

  -- ---- steps

  abbrev pub at_hand : List Held → ℕ → Held
  at_hand [] i = held_at 0 kit.nothing
  at_hand (h ∷ hs) zero = h
  at_hand (h ∷ hs) (suc i) = at_hand hs i

  -- a direction of a mapping is asked with the value at the type that it takes, which gives an option; no tick, and no measure that fails at a place
  abbrev pub way_call : Mapped → ℕ → ℕ → Instruction
  way_call m q throw = I.Call (record {
    slot = kit.name (Temp q) (kit.number m.gives);
    function = m.function;
    arguments = from kit (Temp q) (kit.number m.takes) ∷ [];
    on_throw = throw;
    place = record { file = 0; line = 0; column = 0 };
  })

  abbrev pub seen_code : Mapped → Held → ℕ → ℕ → List Instruction
  seen_code m h q throw = move kit (Temp q) (kit.number m.takes) h.place (kit.number h.typ) ∷ way_call m q throw ∷ []

  -- what a step takes out, and the first place that is free then
  abbrev pub step_taken : Step → Hand → ℕ → Taken
  step_taken (S.Opens i head k) hand fail = head_taken (at_hand hand.values i) head k hand.free fail
  step_taken (S.Sees i d) hand fail = taken [] (held_at hand.free (kit.ways d).gives ∷ []) (hand.free + 1)
  step_taken step hand fail = taken [] [] hand.free

  -- its code: what a direction throws goes to the first label, a value that is another one to the second
  abbrev pub step_code : Step → Hand → ℕ → ℕ → List Instruction
  step_code (S.Sees i d) hand throw fail = seen_code (kit.ways d) (at_hand hand.values i) hand.free throw
  step_code step hand throw fail = (step_taken step hand fail).code

  abbrev pub step_named : Step → Hand → Hand
  step_named (S.Names i name) hand = record hand {
    names = hand.names ++ record { name = name; place = (at_hand hand.values i).place } ∷ [];
    named = hand.named ++ at_hand hand.values i ∷ [];
  }
  step_named step hand = hand

  abbrev pub step_hand : Step → Hand → ℕ → Hand
  step_hand step hand fail = with_taken (step_named step hand) (step_taken step hand fail)

  abbrev pub steps_code : List Step → Hand → ℕ → ℕ → List Instruction
  steps_code [] hand throw fail = []
  steps_code (s ∷ ss) hand throw fail = step_code s hand throw fail ++ steps_code ss (step_hand s hand fail) throw fail

  abbrev pub steps_hand : List Step → Hand → ℕ → Hand
  steps_hand [] hand fail = hand
  steps_hand (s ∷ ss) hand fail = steps_hand ss (step_hand s hand fail) fail

  -- ---- arms: which values are looked at is chosen by the numbers that are noted; the numbers that its names give are noted; then the body runs, once for all
  -- types, with the names of the arm in scope where its values stand

  -- a value that came to another place comes to the place for it
  abbrev pub moved : ℕ → Stand → Tail → Tail
  moved m s tail = record {
    labels = tail.labels;
    code = λ t l. (if nat_eq m s.temp then [] else I.Copy (to kit (Temp s.temp) (kit.number t)) (from kit (Temp m) (kit.number t)) ∷ []) ++ tail.code t l;
  }

  abbrev pub begun : List Held → ℕ → Hand
  begun hs q = record { values = hs; names = []; named = []; free = q }

  abbrev pub arm_hand : List Step → ℕ → ℕ → List Held → Hand
  arm_hand ss q fail hs = steps_hand ss (begun hs q) fail

  -- names and places are the same for all types
  abbrev pub first_hand : List Step → ℕ → ℕ → List Choice → Hand
  first_hand ss q fail [] = begun [] q
  first_hand ss q fail (c ∷ cs) = arm_hand ss q fail c.values

  abbrev pub arm_stand : Hand → Stand → Stand
  arm_stand hand s = record s { scope = hand.names ++ s.scope; temp = hand.free }

  abbrev pub choice_code : List Indices → List Step → ℕ → Stand → Choice → ℕ → List Instruction
  choice_code gives ss q s c l =
      steps_code ss (begun c.values q) s.on_throw s.on_no
      ++ arm_noted (kit_at kit s.depths) gives (c.values ++ (arm_hand ss q s.on_no c.values).named) (arm_hand ss q s.on_no c.values).free

  abbrev pub looks_code : List Indices → Matched → List Step → Stand → ℕ → List Instruction
  looks_code gives m ss s l =
      by_case picked_of (kit_at kit s.depths) (s.temp + places_of m) 0 (choice_code gives ss (s.temp + places_of m) s) l (choices m s.temp)

  abbrev pub hand_of : Matched → List Step → Stand → Hand
  hand_of m ss s = first_hand ss (s.temp + places_of m) s.on_no (choices m s.temp)

  abbrev pub arm_code : List Indices → Matched → List Step → Piece → Tail → Coder
  arm_code gives m ss b tail s l =
      looks_code gives m ss s l
      ++ b.ended (moved (hand_of m ss s).free s tail) (arm_stand (hand_of m ss s) s) (l + choice_labels m)

  abbrev pub arm_piece : List Indices → Matched → Arm → Piece → Piece
  arm_piece gives m arm b = record {
    labels = λ q. choice_labels m + b.labels q;
    ended = arm_code gives m (steps_in arm) b;
    notes = all_notes gives ++ b.notes;
    ends = [];
  }

  -- where one piece says No, another
  abbrev pub failing : ℕ → Stand → Stand
  failing l s = record s { on_no = l }

  abbrev pub else_code : Piece → Piece → Tail → Coder
  else_code a b tail s l =
      a.ended tail (failing l s) (l + 2) ++ I.Goto (l + 1) ∷ I.Label l ∷ (b.ended tail s (l + 2 + a.labels tail.labels) ++ I.Label (l + 1) ∷ [])

  abbrev pub else_piece : Piece → Piece → Piece
  else_piece a b = record { labels = λ q. 2 + a.labels q + b.labels q; ended = else_code a b; notes = a.notes ++ b.notes; ends = [] }

  -- the first arm that is taken: what the names of each give goes by how many stand behind it
  abbrev pub Names : Type 0
  Names = ℕ → List Indices

  abbrev pub first_piece : Names → Matched → List Arm → List Piece → Piece → Piece
  first_piece gives m [] [] none = none
  first_piece gives m (arm ∷ arms) (b ∷ bs) none =
      else_piece (inside_piece kit (arm_piece (gives (length arms)) m arm b)) (first_piece gives m arms bs none)
  first_piece gives m arms bs none = nothing_piece

  abbrev pub stop_here : Cause → Piece
  stop_here cause = ending 0 (λ s l. I.Stop cause ∷ []) []

  abbrev pub fall_piece : Piece
  fall_piece = ending 0 (λ s l. I.Goto s.on_no ∷ []) []

  -- ---- a value stays in hand while arms look at it

  abbrev pub on_piece : Piece → Piece → Piece
  on_piece a b = seq_piece a b

  abbrev pub match_piece : Names → Piece → List Arm → List Piece → Cause → Piece
  match_piece gives a arms bs cause = on_piece a (first_piece gives (in_hand a.ends) arms bs (stop_here cause))

  -- the run stops where the pattern of a `let` doesn't match
  abbrev pub let_piece : List Indices → Piece → Arm → Piece → Cause → Piece
  let_piece gives a arm b cause = on_piece a (said b.ends (else_piece (arm_piece gives (in_hand a.ends) arm b) (stop_here cause)))

  -- ---- what is thrown is matched where it is caught; what no arm takes is thrown on

  abbrev pub thrown_code : List Held → List Instruction
  thrown_code [] = []
  thrown_code (h ∷ hs) = I.Copy (to kit Raised kit.exception) (held h) ∷ []

  abbrev pub throw_here : Matched → Piece
  throw_here m = ending (choice_labels m) (λ s l.
      by_case picked_of (kit_at kit s.depths) (s.temp + places_of m) 0 (λ c i. thrown_code c.values) l (choices m s.temp) ++ I.Goto s.on_throw ∷ []) []

  -- a value is made of what was thrown
  abbrev pub raised_piece : List Case → List Indices → Piece
  raised_piece cases gives = made_piece kit kit.number (source_make kit kit.number (from kit Raised kit.exception)) cases gives

  abbrev pub caught_piece : List Case → List Indices → Names → List Arm → List Piece → Piece
  caught_piece cases gives names arms bs =
      on_piece (raised_piece cases gives) (first_piece names (in_hand (ends_of gives cases)) arms bs (throw_here (in_hand (ends_of gives cases))))

  abbrev pub catch_code : Piece → Piece → Tail → Coder
  catch_code a b tail s l =
      a.ended tail (caught_at l s) (l + 2) ++ I.Goto (l + 1) ∷ I.Label l
      ∷ (b.ended tail s (l + 2 + a.labels tail.labels) ++ I.Label (l + 1) ∷ [])

  -- where one piece throws, another
  abbrev pub catch_piece : Piece → Piece → Piece
  catch_piece a b = record { labels = λ q. 2 + a.labels q + b.labels q; ended = catch_code a b; notes = a.notes ++ b.notes; ends = [] }

  abbrev pub try_piece : List Case → List Indices → Names → List Arm → List Piece → Piece → Piece
  try_piece cases gives names arms bs a = catch_piece (inside_piece kit a) (caught_piece cases gives names arms bs)

  -- ---- the clauses of a function, which is called with values of these types

  abbrev pub clauses_piece : Names → List Sized → List Arm → List Piece → Piece
  clauses_piece names given arms bs = first_piece names (arguments given) arms bs fall_piece

-- ---- the arms that are lowered here: those that ask these directions alone; a name of a variable isn't yet, where variables of a name are read at these types

module _ (size : Num → Option ℤ) where
  -- a width that is written has to be known
  abbrev pub width_lowered : Option Num → Bool
  width_lowered None = true
  width_lowered (Some t) = is_some (and_then (size t) natural_of)

  abbrev pub widths_lowered : List (Option Num) → Bool
  widths_lowered [] = true
  widths_lowered (w ∷ ws) = width_lowered w && widths_lowered ws

  abbrev pub head_lowered : Head → Bool
  head_lowered (H.Cut ws) = widths_lowered ws
  head_lowered head = true

  module _ (crosses : ℕ → Bool) (reads : List ℕ → List Sized) where
    abbrev pub step_fits : Step → Bool
    step_fits (S.Opens i head k) = head_lowered head
    step_fits (S.Names i name) = is_empty (reads name)
    step_fits (S.Sees i d) = crosses d

    abbrev pub steps_fit : List Step → Bool
    steps_fit [] = true
    steps_fit (s ∷ ss) = step_fits s && steps_fit ss

    abbrev pub arm_fits : Arm → Bool
    arm_fits (A.Flat k ss) = steps_fit ss
    arm_fits arm = false

    abbrev pub arms_fit : List Arm → Bool
    arms_fit [] = true
    arms_fit (arm ∷ arms) = arm_fits arm && arms_fit arms

  -- so where no variable is read
  abbrev pub step_lowered : Step → Bool
  step_lowered s = step_fits (λ d. false) (λ name. []) s

  abbrev pub steps_lowered : List Step → Bool
  steps_lowered ss = steps_fit (λ d. false) (λ name. []) ss

  abbrev pub arm_lowered : Arm → Bool
  arm_lowered arm = arm_fits (λ d. false) (λ name. []) arm

  abbrev pub arms_lowered : List Arm → Bool
  arms_lowered arms = arms_fit (λ d. false) (λ name. []) arms
