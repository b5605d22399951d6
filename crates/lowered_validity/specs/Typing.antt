-- What is decided of a node from the cases that are said of it, so that its code has its types: the operations fit what they take and give, what goes from a
-- type to another has the same sort, and calls, registers, throws and results have the types of what is around.
use Rattle.std.specs.Prelude.{ℕ, zero, suc, ◌-◌, ℤ, pos, ◌-ℤ◌, nat_eq, Bool, true, false, not, ◌&&◌, ◌||◌, List, [], ◌∷◌, ◌++◌, length, map, reverse}
use Rattle.std.specs.Prelude.{Option, Some, None}
use Rattle.std.specs.Prelude.{slice_get, if◌then◌else◌}
use Rattle.sail_types.specs.Limits.{is_small}
use Rattle.sail_types.specs.declared.numbers.Num.{Num}
use Rattle.sail_types.specs.declared.rows.Row.{Row}
use Rattle.sail_types.specs.declared.table.Types.{Types}
use Rattle.sail_types.specs.declared.types.Typ.TheVariants as T
use Rattle.sail_core.specs.declared.patterns.Head.{Head}
use Rattle.sail_core.specs.declared.patterns.Head.TheVariants as H
use Rattle.sail_core.specs.declared.patterns.Step.{Step}
use Rattle.sail_core.specs.declared.patterns.Step.TheVariants as P
use Rattle.sail_core.specs.declared.patterns.Arm.{Arm}
use Rattle.sail_core.specs.declared.targets.Way.{Way}
use Rattle.sail_core.specs.declared.targets.Way.TheVariants as Y
use Rattle.sail_core.specs.declared.targets.Suffix.{Suffix}
use Rattle.sail_core.specs.declared.tree.Callee.TheVariants as F
use Rattle.sail_core.specs.declared.tree.Statement.{Statement}
use Rattle.sail_core.specs.declared.tree.Statement.TheVariants as S
use Rattle.sail_core.specs.declared.tree.Kind.{Kind}
use Rattle.sail_core.specs.declared.tree.Kind.TheVariants as K
use Rattle.sail_core.specs.declared.tree.Core.{Core, fold-Core}
use Rattle.sail_core.specs.Making.{Part, component, payload, one_item}
use Rattle.sail_core.specs.Meaning.{option_typ}
use Rattle.sail_core.specs.Values.{int_typ, literal_typ}
use Rattle.row_types.specs.Calls.{has_state}
use Rattle.value_indices.specs.declared.indices.Indices.{Indices}
use Rattle.size_values.specs.declared.constants.Picked.{Picked}
use Rattle.size_values.specs.declared.sized.Sized.{Sized, out-Sized}
use Rattle.size_values.specs.declared.sized.Sized.TheVariants as Z
use Rattle.sized_nodes.specs.declared.trees.Case.{Case}
use Rattle.sized_nodes.specs.declared.trees.Lead.{Lead}
use Rattle.checked_meaning.specs.Items.{fixed_typ, part_typ}
use Rattle.jib.specs.declared.code.Literal.{Literal}
use Rattle.jib.specs.declared.code.Literal.TheVariants as L
use Rattle.jib.specs.declared.code.Source.{Source}
use Rattle.jib.specs.declared.code.Source.TheVariants as R
use Rattle.jib.specs.declared.code.Operation.{Operation}
use Rattle.jib.specs.declared.code.Operation.TheVariants as O
use Rattle.jib.specs.declared.code.Function.{Function}
use Rattle.jib.specs.declared.code.Module.{Module}
use Rattle.jib.specs.Typing.{literal_some, payload_typ, same, sort_at}
use Rattle.jib.specs.Operands.{alike, operation_typed, some_comparable}
use Rattle.lowered_pieces.specs.Tables.{Tables}
use Rattle.lowered_pieces.specs.Places.{Mapped}
use Rattle.lowered_pieces.specs.Forms.{Callees, End, Order, dead, ends_of, in_fields, in_order, is_never, one_end, set_fields}
use Rattle.lowered_pieces.specs.Arms.{Matched, arguments, constant_of, cut_widths, in_hand, is_union, part_width, steps_in, word_width}
use Rattle.lowered_pieces.specs.Gathered.{only_end}
use Rattle.lowered_pieces.specs.Paths.{path_ends}
use Rattle.lowered_pieces.specs.Writes.{Cell, Holder, Spot, called, one, register, several, target_spot, variable, way_typ}
use Rattle.lowered_pieces.specs.Fields.{field_types_of}
use Rattle.lowered_pieces.specs.Mapped.{ends_with, fixed_end}
use Rattle.lowered_validity.specs.Right.{Signs}

-- the types that a node's value may have where it stands in hand; those by the numbers that are noted; and whether its code has its types
pub record Typing : Type 0 where
  pub types : List Sized
  pub ends : List End
  pub right : Bool

abbrev pub gives_in : List Case → List Sized
gives_in [] = []
gives_in (c ∷ cs) = c.gives ∷ gives_in cs

-- ---- operands, in slots of their own

abbrev pub operands : ℕ → List ℕ → List Source
operands k [] = []
operands k (t ∷ ts) = R.Slot k ∷ operands (suc k) ts

abbrev pub one_operand : List Source
one_operand = R.Slot 0 ∷ []

-- a function with slots of these types
abbrev pub with_slots : List ℕ → Function
with_slots ts = record { parameters = []; result = 0; slots = ts; cycle = 0; lets = 0; is_pure = false; code = [] }

-- the module without its code
abbrev pub shell : Signs → Module
shell g = record { types = g.table; exception = g.exception; registers = g.registers; openings = []; functions = [] }

-- a value of the first type may come to the second
abbrev pub comes : Signs → ℕ → ℕ → Bool
comes g t u = nat_eq t u || alike (shell g) (Some t) (Some u)

abbrev pub all_right : List Typing → Bool
all_right [] = true
all_right (a ∷ parts) = a.right && all_right parts

-- numbers that constants may have
abbrev pub picks_small : List Picked → Bool
picks_small [] = true
picks_small (x ∷ xs) = is_small x.number && picks_small xs

abbrev pub nats_eq : List ℕ → List ℕ → Bool
nats_eq [] [] = true
nats_eq (t ∷ ts) (u ∷ us) = nat_eq t u && nats_eq ts us
nats_eq ts us = false

module _ (types : Types) (number : Sized → ℕ) (callees : Callees) (tables : Tables) (g : Signs) where
  abbrev pub unit_number : ℕ
  unit_number = number (fixed_typ types T.Unit)

  abbrev pub integer_number : ℕ
  integer_number = number (fixed_typ types int_typ)

  abbrev pub no_value : Source
  no_value = R.Constant unit_number L.Unit

  abbrev pub numbers : List Sized → List ℕ
  numbers [] = []
  numbers (t ∷ ts) = number t ∷ numbers ts

  -- the operation takes operands of these types from these sources, and gives a value of this one
  abbrev pub works : Operation → List Source → List Sized → Sized → Bool
  works op sources ts t = operation_typed (shell g) (with_slots (numbers ts)) op sources (Some (number t))

  -- a constant is of the type
  abbrev pub is_constant : Sized → Literal → Bool
  is_constant t literal = literal_some (slice_get g.table (number t)) literal

  -- ---- values by the cases of their nodes

  abbrev pub cases_right : (Case → Bool) → List Case → Bool
  cases_right p [] = true
  cases_right p (c ∷ cs) = picks_small c.picked && (tables.known c.gives && (p c && cases_right p cs))

  abbrev pub first_number : List Sized → ℕ
  first_number [] = unit_number
  first_number (t ∷ ts) = number t

  -- a value in hand or a name comes to the type of the case
  abbrev pub is_cast : Case → Bool
  is_cast c = comes g (first_number c.takes) (number c.gives)

  -- nothing is made of a value in hand that doesn't exist
  abbrev pub is_recast : Case → Bool
  is_recast c = dead c.takes || is_cast c

  -- so from a source of this type
  abbrev pub is_sourced : Option ℕ → Case → Bool
  is_sourced o c = same o (Some (number c.gives))

  abbrev pub is_work : Operation → Order → Case → Bool
  is_work op order c = dead c.takes || works op (order (operands 0 (numbers c.takes))) c.takes c.gives

  abbrev pub is_payload : ℕ → ℕ → List Sized → Sized → Bool
  is_payload u c [] s = works (O.Construct c) (no_value ∷ []) [] s
  is_payload u c (t ∷ []) s = works (O.Construct c) one_operand (t ∷ []) s
  is_payload u c (t ∷ r ∷ ts) s =
      works O.Build (operands 0 (numbers (t ∷ r ∷ ts))) (t ∷ r ∷ ts) (part_typ types (payload u c) s)
      && works (O.Construct c) one_operand (part_typ types (payload u c) s ∷ []) s

  abbrev pub is_constructed : ℕ → ℕ → Case → Bool
  is_constructed u c a = dead a.takes || is_payload u c a.takes a.gives

  -- a struct with others in several fields: all are taken out, and it is built anew
  abbrev pub takes_fields : Sized → ℕ → List Sized → Bool
  takes_fields t j [] = true
  takes_fields t j (u ∷ us) = works (O.Field j) one_operand (t ∷ []) u && takes_fields t (suc j) us

  abbrev pub is_with : List ℕ → List Sized → Sized → Bool
  is_with is [] s = true
  is_with is (t ∷ ts) s =
      takes_fields t 0 (field_types_of types (out-Sized t))
      && works O.Build (set_fields is (operands 0 (numbers ts)) (operands (length ts) (numbers (field_types_of types (out-Sized t)))))
      (ts ++ field_types_of types (out-Sized t)) s

  abbrev pub is_changed : List ℕ → Case → Bool
  is_changed is c = dead c.takes || is_with is c.takes c.gives

  -- values of these types come to the types of the cases, where they exist
  abbrev pub meets : List Sized → List Case → Bool
  meets [] cases = true
  meets (t ∷ ts) cases = cases_right (λ c. is_never t || comes g (number t) (number c.gives)) cases && meets ts cases

  -- where ways meet, each comes to the type of the case behind all
  abbrev pub meet_right : List Sized → List Case → Bool
  meet_right ts cases = meets ts cases && cases_right (λ c. true) cases

  -- ---- calls

  abbrev pub is_lead : Option (List ℕ) → List Sized → Bool
  is_lead None ts = false
  is_lead (Some parameters) ts = nats_eq (numbers ts) parameters

  abbrev pub leads_right : List Case → List Lead → Bool
  leads_right cases [] = true
  leads_right cases (x ∷ xs) =
      picks_small x.picked && (is_lead (g.parameters x.instance) x.takes
      && (cases_right (λ c. comes g (number (callees.answer x.instance)) (number c.gives)) cases && leads_right cases xs))

  -- ---- builtins of the state

  abbrev pub operand_typ : Option Sized → Sized
  operand_typ None = fixed_typ types T.Unit
  operand_typ (Some t) = t

  abbrev pub operand_types : List Typing → List Sized
  operand_types [] = []
  operand_types (a ∷ parts) = operand_typ (only_end a.ends) ∷ operand_types parts

  abbrev pub state_right : Row → List Case → List Sized → Bool
  state_right row (c ∷ []) ts = tables.known c.gives && works (O.Builtin row) (operands 0 (numbers ts)) ts c.gives
  state_right row cases ts = false

  -- ---- parts

  abbrev pub way_right : Way → ℕ → List Typing → (List Typing → Bool) → Bool
  way_right (Y.Field struct i) k parts more = cases_right (is_work (O.Field i) in_order) (tables.cases k 1) && more parts
  way_right Y.Item k (a ∷ parts) more = a.right && (cases_right (is_work O.Item in_order) (tables.cases k 2) && more parts)
  way_right Y.Slice k (a ∷ b ∷ parts) more = a.right && (b.right && (cases_right (is_work O.Slice in_order) (tables.cases k 3) && more parts))
  way_right way k parts more = false

  abbrev pub way_types : Way → ℕ → List Sized
  way_types (Y.Field struct i) k = gives_in (tables.cases k 1)
  way_types Y.Item k = gives_in (tables.cases k 2)
  way_types Y.Slice k = gives_in (tables.cases k 3)

  abbrev pub path_right : List Suffix → List Typing → Bool
  path_right [] [] = true
  path_right [] (a ∷ parts) = false
  path_right (s ∷ ss) parts = way_right s.way s.number parts (path_right ss)

  abbrev pub path_types : List Suffix → List Sized → List Sized
  path_types [] ts = ts
  path_types (s ∷ ss) ts = path_types ss (way_types s.way s.number)

  -- ---- variables, which are read at these types

  abbrev pub all_come : List Sized → Sized → Bool
  all_come [] t = true
  all_come (u ∷ us) t = comes g (number u) (number t) && all_come us t

  -- values of these types come to all types at which the variable is read
  abbrev pub kept_right : List Sized → List Sized → Bool
  kept_right [] ts = true
  kept_right (u ∷ us) ts = all_come ts u && kept_right us ts

  abbrev pub variable_types : List Sized → List Case → List Sized
  variable_types [] cases = []
  variable_types (u ∷ us) cases = gives_in cases

  abbrev pub variable_ends : List Sized → List Indices → List Case → List End
  variable_ends [] gives cases = []
  variable_ends (u ∷ us) gives cases = ends_of gives cases

  abbrev pub variable_right : List Sized → List Case → Bool
  variable_right [] cases = false
  variable_right (u ∷ us) cases = cases_right (λ c. true) cases

  -- ---- assignments

  abbrev pub integer_typ : Sized
  integer_typ = fixed_typ types int_typ

  -- a part is taken out of a value of this type, and put back
  abbrev pub is_taken : Way → Sized → Bool
  is_taken (Y.Field struct i) t = works (O.Field i) (R.Slot 0 ∷ []) (t ∷ []) (way_typ types (Y.Field struct i) t)
  is_taken Y.Item t = works O.Item (R.Slot 0 ∷ R.Slot 1 ∷ []) (t ∷ integer_typ ∷ []) (way_typ types Y.Item t)
  is_taken Y.Slice t = works O.Slice (R.Slot 0 ∷ R.Slot 1 ∷ R.Slot 2 ∷ []) (t ∷ integer_typ ∷ integer_typ ∷ []) (way_typ types Y.Slice t)

  abbrev pub is_put : Way → Sized → Sized → Bool
  is_put (Y.Field struct i) t u = works (O.WithField i) (R.Slot 0 ∷ R.Slot 1 ∷ []) (t ∷ u ∷ []) t
  is_put Y.Item t u = works O.WithItem (R.Slot 0 ∷ R.Slot 1 ∷ R.Slot 2 ∷ []) (t ∷ integer_typ ∷ u ∷ []) t
  is_put Y.Slice t u = works O.WithSlice (R.Slot 0 ∷ R.Slot 1 ∷ R.Slot 2 ∷ R.Slot 3 ∷ []) (t ∷ integer_typ ∷ integer_typ ∷ u ∷ []) t

  -- so along these ways, where the last part is of the second type
  abbrev pub replaces : List Suffix → Sized → Sized → Bool
  replaces [] t u = true
  replaces (s ∷ []) t u = is_put s.way t u
  replaces (s ∷ r ∷ ss) t u =
      is_taken s.way t && (replaces (r ∷ ss) (way_typ types s.way t) u && is_put s.way t (way_typ types s.way t))

  abbrev pub replaces_all : List Suffix → List Case → List Sized → Bool
  replaces_all ss cases [] = true
  replaces_all ss cases (u ∷ us) = cases_right (λ c. replaces ss c.gives u) cases && replaces_all ss cases us

  abbrev pub has_last : List Typing → Bool
  has_last [] = false
  has_last (a ∷ parts) = true

  -- what the last of the parts gives
  abbrev pub last_types : List Typing → List Sized
  last_types [] = []
  last_types (a ∷ []) = a.types
  last_types (a ∷ b ∷ parts) = last_types (b ∷ parts)

  -- a holder takes values of the types of these cases
  abbrev pub holder_right : Holder → List Case → Bool
  holder_right (register r) cases = cases_right (is_sourced (slice_get g.registers r)) cases
  holder_right (variable name) cases = kept_right (tables.reads name) (gives_in cases)

  -- and new parts of the type of the new value
  abbrev pub typed_right : List Suffix → Cell → Bool
  typed_right [] c = holder_right c.holder (tables.cases c.number 1)
  typed_right (s ∷ ss) c =
      cases_right (λ k. true) (tables.cases c.read 0)
      && (holder_right c.holder (tables.cases c.read 0) && replaces_all (s ∷ ss) (tables.cases c.read 0) (gives_in (tables.cases c.number 1)))

  abbrev pub cell_right : Cell → Bool
  cell_right c = cases_right is_recast (tables.cases c.number 1) && typed_right c.suffixes c

  abbrev pub cells_right : List Cell → Bool
  cells_right [] = true
  cells_right (c ∷ cs) = cell_right c && cells_right cs

  -- so many parts of a tuple, from the j-th on
  abbrev pub fields_right : Sized → ℕ → ℕ → Bool
  fields_right t j zero = true
  fields_right t j (suc k) = works (O.Field j) one_operand (t ∷ []) (part_typ types (component j) t) && fields_right t (suc j) k

  abbrev pub all_fields_right : List Sized → ℕ → Bool
  all_fields_right [] k = true
  all_fields_right (t ∷ ts) k = fields_right t 0 k && all_fields_right ts k

  -- what is assigned to
  abbrev pub spot_right : Spot → List Typing → Bool
  spot_right (one c) parts = has_last parts && (all_right parts && cell_right c)
  spot_right (several cs) parts =
      has_last parts && (all_right parts && (cells_right cs && all_fields_right (last_types parts) (length cs)))
  spot_right (called k place n j f) parts =
      has_last parts && (all_right parts && (cases_right is_recast (tables.cases k 1) && leads_right (tables.cases j (length parts)) (tables.leads j)))

  abbrev pub write_right : Option Spot → List Typing → Bool
  write_right None parts = false
  write_right (Some spot) parts = spot_right spot parts

  abbrev pub spot_types : Option Spot → List Typing → List Sized
  spot_types (Some (called k place n j f)) parts = gives_in (tables.cases j (length parts))
  spot_types spot parts = fixed_typ types T.Unit ∷ []

  -- ---- arms: heads fit the types of what they open

  -- so many parts of a tuple, from the j-th on
  abbrev pub fields_typ : Sized → ℕ → ℕ → List Sized
  fields_typ t j zero = []
  fields_typ t j (suc k) = part_typ types (component j) t ∷ fields_typ t (suc j) k

  abbrev pub items_typ : Sized → ℕ → List Sized
  items_typ t zero = []
  items_typ t (suc k) = part_typ types one_item t ∷ items_typ t k

  abbrev pub items_right : Sized → ℕ → Bool
  items_right t zero = true
  items_right t (suc j) =
      works O.Item (R.Slot 0 ∷ R.Constant integer_number (L.Integer (pos j)) ∷ []) (t ∷ []) (part_typ types one_item t) && items_right t j

  abbrev pub payload_parts : Sized → ℕ → List Sized
  payload_parts t k = if nat_eq k 1 then t ∷ [] else fields_typ t 0 k

  abbrev pub payload_right : Sized → ℕ → Bool
  payload_right t k = if nat_eq k 1 then true else fields_right t 0 k

  -- the items of a list that are taken out one by one, and bits of a word, the highest first, where so many are left
  abbrev pub list_right : Sized → Bool
  list_right t =
      works O.IsEmpty one_operand (t ∷ []) (fixed_typ types T.Bool)
      && (works O.Item (R.Slot 0 ∷ R.Constant integer_number (L.Integer (pos 0)) ∷ []) (t ∷ []) (part_typ types one_item t)
      && works O.Rest one_operand (t ∷ []) t)

  abbrev pub cut_types : List ℕ → List Sized
  cut_types [] = []
  cut_types (n ∷ ns) = Z.Bits (pos n) ∷ cut_types ns

  abbrev pub cut_typed : Sized → ℕ → ℕ → Bool
  cut_typed t m zero = works O.Same (R.Constant (number (Z.Bits (pos 0))) (L.Bits []) ∷ []) [] (Z.Bits (pos 0))
  cut_typed t m (suc n) =
      works O.Slice (R.Slot 0 ∷ R.Constant integer_number (L.Integer (pos (m - 1))) ∷ R.Constant integer_number (L.Integer (pos (m - suc n))) ∷ []) (t ∷ [])
      (Z.Bits (pos (suc n)))

  abbrev pub cut_right : Sized → ℕ → List ℕ → Bool
  cut_right t m [] = true
  cut_right t m (n ∷ ns) = cut_typed t m n && cut_right t (m - n) ns

  abbrev pub widths_in : Sized → List (Option Num) → List ℕ
  widths_in t ws = cut_widths (word_width (out-Sized t)) (map (part_width callees.size) ws)

  abbrev pub head_types : Sized → Head → ℕ → List Sized
  head_types t H.Tuple k = fields_typ t 0 k
  head_types t (H.Constructor u c) k = payload_parts (part_typ types (payload u c) t) k
  head_types t H.Vector k = items_typ t k
  head_types t H.List k = items_typ t k
  head_types t H.Cons k = part_typ types one_item t ∷ t ∷ []
  head_types t (H.Cut ws) k = cut_types (widths_in t ws)
  head_types t head k = []

  abbrev pub head_right : Sized → Head → ℕ → Bool
  head_right t (H.Is literal) k = is_constant t (constant_of literal) && some_comparable (sort_at (shell g) (Some (number t)))
  head_right t H.Tuple k = fields_right t 0 k
  head_right t (H.Constructor u c) k =
      is_union u (out-Sized t)
      && (same (payload_typ (shell g) (Some (number t)) c) (Some (number (part_typ types (payload u c) t))) && payload_right (part_typ types (payload u c) t) k)
  head_right t H.Vector k = items_right t k
  head_right t H.List k = list_right t
  head_right t H.Cons k = list_right t
  head_right t (H.Cut ws) k = cut_right t (word_width (out-Sized t)) (widths_in t ws)

  abbrev pub typ_at_hand : List Sized → ℕ → Sized
  typ_at_hand [] i = fixed_typ types T.Unit
  typ_at_hand (t ∷ ts) zero = t
  typ_at_hand (t ∷ ts) (suc i) = typ_at_hand ts i

  abbrev pub step_types : Step → List Sized → List Sized
  step_types (P.Opens i head k) ts = head_types (typ_at_hand ts i) head k
  step_types (P.Sees i d) ts = (callees.direction d).gives ∷ []
  step_types step ts = []

  -- a value comes to the type that a direction takes, which may be asked here
  abbrev pub sees_right : ℕ → Sized → Bool
  sees_right d t = not g.is_pure && (g.directions d && comes g (number t) (number (callees.direction d).takes))

  abbrev pub step_right : Step → List Sized → Bool
  step_right (P.Opens i head k) ts = head_right (typ_at_hand ts i) head k
  step_right (P.Sees i d) ts = sees_right d (typ_at_hand ts i)
  step_right step ts = true

  abbrev pub are_known : List Sized → Bool
  are_known [] = true
  are_known (t ∷ ts) = tables.known t && are_known ts

  abbrev pub steps_right : List Step → List Sized → Bool
  steps_right [] ts = true
  steps_right (s ∷ ss) ts = step_right s ts && (are_known (step_types s ts) && steps_right ss (ts ++ step_types s ts))

  abbrev pub arm_right : Arm → List Sized → Bool
  arm_right arm ts = are_known ts && steps_right (steps_in arm) ts

  abbrev pub ends_right : Arm → List End → Bool
  ends_right arm [] = true
  ends_right arm (e ∷ es) = picks_small e.picked && (arm_right arm (e.typ ∷ []) && ends_right arm es)

  abbrev pub matched_right : Matched → Arm → Bool
  matched_right (in_hand es) arm = ends_right arm es
  matched_right (arguments ts) arm = arm_right arm ts

  abbrev pub arms_right : Matched → List Arm → List Typing → Bool
  arms_right m [] [] = true
  arms_right m (arm ∷ arms) (b ∷ bodies) = matched_right m arm && (b.right && arms_right m arms bodies)
  arms_right m arms bodies = false

  abbrev pub arms_types : List Typing → List Sized
  arms_types [] = []
  arms_types (b ∷ bodies) = b.types ++ arms_types bodies

  -- the type that all bodies end with, where there is one
  abbrev pub all_ending : Sized → List Typing → Bool
  all_ending t [] = true
  all_ending t (b ∷ bodies) = ends_with t (fixed_end b.ends) && all_ending t bodies

  abbrev pub ending_if : Option Sized → List Typing → List End
  ending_if None bodies = []
  ending_if (Some t) bodies = if all_ending t bodies then one_end t else []

  abbrev pub common_of : List Typing → List End
  common_of [] = []
  common_of (b ∷ bodies) = ending_if (fixed_end b.ends) bodies

  -- ---- directions of mappings that are functions

  abbrev pub moves_to : Option Sized → Sized → Bool
  moves_to None t = true
  moves_to (Some u) t = comes g (number u) (number t)

  abbrev pub applies_right : ℕ → Mapped → List Case → Typing → Bool
  applies_right d m cases a =
      not g.is_pure && (g.directions d && (a.right && (moves_to (only_end a.ends) m.takes
      && (same (payload_typ (shell g) (Some (number m.gives)) 0) (Some (number m.payload))
      && cases_right (λ c. comes g (number m.payload) (number c.gives)) cases))))

  abbrev pub optional_right : Sized → Sized → Typing → Bool
  optional_right option inner a =
      a.right && (all_come a.types inner
      && (works (O.Construct 0) one_operand (inner ∷ []) option && works (O.Construct 1) (no_value ∷ []) [] option))

  -- what no arm takes is thrown on
  abbrev pub all_thrown : List End → Bool
  all_thrown [] = true
  all_thrown (e ∷ es) = picks_small e.picked && (nat_eq (number e.typ) g.exception && all_thrown es)

  abbrev pub are_of : ℕ → List Sized → Bool
  are_of n [] = true
  are_of n (t ∷ ts) = nat_eq (number t) n && are_of n ts

  -- ---- blocks

  abbrev pub block_types : List Statement → List Typing → List Sized
  block_types [] [] = fixed_typ types T.Unit ∷ []
  block_types [] (value ∷ []) = value.types
  block_types (s ∷ ss) (a ∷ parts) = block_types ss parts
  block_types ss parts = []

  abbrev pub block_ends : List Statement → List Typing → List End
  block_ends [] (value ∷ []) = value.ends
  block_ends (s ∷ ss) (a ∷ parts) = block_ends ss parts
  block_ends ss parts = []

  abbrev pub block_right : List Statement → List Typing → Bool
  block_right [] [] = true
  block_right [] (value ∷ []) = value.right
  block_right (S.Evaluate ∷ ss) (a ∷ parts) = a.right && block_right ss parts
  block_right (S.Define place arm ∷ ss) (a ∷ parts) = a.right && (ends_right arm a.ends && block_right ss parts)
  block_right (S.Declare name written ∷ ss) (a ∷ parts) = a.right && (kept_right (tables.reads name) a.types && block_right ss parts)
  block_right ss parts = false

  -- ---- nodes

  abbrev pub number_types : Option ℤ → List Sized
  number_types None = []
  number_types (Some z) = fixed_typ types int_typ ∷ []

  abbrev pub number_ends : Option ℤ → List End
  number_ends None = []
  number_ends (Some z) = one_end (fixed_typ types int_typ)

  abbrev pub number_right : Option ℤ → Bool
  number_right None = false
  number_right (Some z) = is_constant (fixed_typ types int_typ) (L.Integer z)

  abbrev pub truth_types : Option Bool → List Sized
  truth_types None = []
  truth_types (Some b) = fixed_typ types T.Bool ∷ []

  abbrev pub truth_ends : Option Bool → List End
  truth_ends None = []
  truth_ends (Some b) = one_end (fixed_typ types T.Bool)

  abbrev pub truth_right : Option Bool → Bool
  truth_right None = false
  truth_right (Some b) = is_constant (fixed_typ types T.Bool) (L.Truth b)

  abbrev pub row_ends : Bool → ℕ → List Case → List End
  row_ends true k (c ∷ []) = one_end c.gives
  row_ends true k cases = []
  row_ends false k cases = ends_of (tables.gives k) cases

  abbrev pub row_right : Bool → Row → List Case → List Typing → Bool
  row_right true row cases args = not g.is_pure && (all_right args && state_right row cases (operand_types args))
  row_right false row cases args = all_right args && cases_right (is_work (O.Builtin row) in_order) cases

  abbrev pub kind_types : ℕ → Kind → List Typing → List Sized
  kind_types k (K.Constant literal) [] = fixed_typ types (literal_typ literal) ∷ []
  kind_types k (K.Local name) [] = gives_in (tables.cases k 1)
  kind_types k (K.Variable name) [] = variable_types (tables.reads name) (tables.cases k 0)
  kind_types k (K.TopLevel i) [] = gives_in (tables.cases k 0)
  kind_types k (K.Register r) [] = gives_in (tables.cases k 0)
  kind_types k (K.Call (F.Applies d)) (a ∷ []) = gives_in (tables.cases k 1)
  kind_types k (K.Call callee) args = gives_in (tables.cases k (length args))
  kind_types k K.Tuple parts = gives_in (tables.cases k (length parts))
  kind_types k (K.Vector shape) parts = gives_in (tables.cases k (length parts))
  kind_types k (K.List shape) parts = gives_in (tables.cases k (length parts))
  kind_types k (K.Cons shape) parts = gives_in (tables.cases k (length parts))
  kind_types k (K.Struct struct fields) parts = gives_in (tables.cases k (length parts))
  kind_types k (K.With struct (i ∷ is)) parts = gives_in (tables.cases k (length parts))
  kind_types k (K.Part suffixes) (a ∷ indexes) = path_types suffixes a.types
  kind_types k K.WithItem (a ∷ b ∷ c ∷ []) = gives_in (tables.cases k 3)
  kind_types k K.WithSlice (a ∷ b ∷ c ∷ d ∷ []) = gives_in (tables.cases k 4)
  kind_types k (K.Cast written) (a ∷ []) = gives_in (tables.cases k 1)
  kind_types k (K.SizeOf t numbers) [] = number_types (callees.size t)
  kind_types k (K.Constraint c numbers) [] = truth_types (callees.truth c)
  kind_types k (K.Assign (t ∷ [])) parts = spot_types (target_spot t) parts
  kind_types k (K.Block statements) parts = block_types statements parts
  kind_types k (K.Var name written) (a ∷ b ∷ []) = b.types
  kind_types k (K.If shape) (c ∷ a ∷ []) = a.types ++ fixed_typ types T.Unit ∷ []
  kind_types k (K.If shape) (c ∷ a ∷ b ∷ []) = gives_in (tables.cases k 1)
  kind_types k K.While (m ∷ c ∷ b ∷ []) = fixed_typ types T.Unit ∷ []
  kind_types k K.Repeat (m ∷ b ∷ c ∷ []) = fixed_typ types T.Unit ∷ []
  kind_types k (K.Foreach name way) (a ∷ b ∷ c ∷ body ∷ []) = fixed_typ types T.Unit ∷ []
  kind_types k (K.Assert text) (a ∷ []) = fixed_typ types T.Unit ∷ []
  kind_types k K.And (a ∷ b ∷ []) = fixed_typ types T.Bool ∷ []
  kind_types k K.Or (a ∷ b ∷ []) = fixed_typ types T.Bool ∷ []
  kind_types k K.When (a ∷ b ∷ []) = b.types
  kind_types k (K.Let arm) (a ∷ b ∷ []) = b.types
  kind_types k (K.Match arms shape) (a ∷ bodies) = gives_in (tables.cases k 1)
  kind_types k (K.Try arms shape) (a ∷ bodies) = gives_in (tables.cases k 1)
  kind_types k (K.Clauses arms) bodies = arms_types bodies
  kind_types k (K.Optional t) (a ∷ []) = fixed_typ types (option_typ t) ∷ fixed_typ types (option_typ t) ∷ []
  kind_types k kind parts = []

  abbrev pub kind_ends : ℕ → Kind → List Typing → List End
  kind_ends k (K.Constant literal) [] = one_end (fixed_typ types (literal_typ literal))
  kind_ends k (K.Local name) [] = ends_of (tables.gives k) (tables.cases k 1)
  kind_ends k (K.Variable name) parts = variable_ends (tables.reads name) (tables.gives k) (tables.cases k 0)
  kind_ends k (K.TopLevel i) [] = ends_of (tables.gives k) (tables.cases k 0)
  kind_ends k (K.Register r) [] = ends_of (tables.gives k) (tables.cases k 0)
  kind_ends k (K.Call (F.Function f)) args = ends_of (tables.gives k) (tables.cases k (length args))
  kind_ends k (K.Call (F.Row row)) args = row_ends (has_state row) k (tables.cases k (length args))
  kind_ends k (K.Call (F.Constructor u c)) args = ends_of (tables.gives k) (tables.cases k (length args))
  kind_ends k K.Tuple parts = ends_of (tables.gives k) (tables.cases k (length parts))
  kind_ends k (K.Vector shape) parts = ends_of (tables.gives k) (tables.cases k (length parts))
  kind_ends k (K.List shape) parts = ends_of (tables.gives k) (tables.cases k (length parts))
  kind_ends k (K.Cons shape) parts = ends_of (tables.gives k) (tables.cases k (length parts))
  kind_ends k (K.Struct struct fields) parts = ends_of (tables.gives k) (tables.cases k (length parts))
  kind_ends k (K.With struct (i ∷ is)) parts = ends_of (tables.gives k) (tables.cases k (length parts))
  kind_ends k (K.Part suffixes) (a ∷ indexes) = path_ends tables suffixes (length indexes) a.ends
  kind_ends k K.WithItem (a ∷ b ∷ c ∷ []) = ends_of (tables.gives k) (tables.cases k 3)
  kind_ends k K.WithSlice (a ∷ b ∷ c ∷ d ∷ []) = ends_of (tables.gives k) (tables.cases k 4)
  kind_ends k (K.Cast written) (a ∷ []) = ends_of (tables.gives k) (tables.cases k 1)
  kind_ends k (K.SizeOf t numbers) [] = number_ends (callees.size t)
  kind_ends k (K.Constraint c numbers) [] = truth_ends (callees.truth c)
  kind_ends k (K.Call (F.Applies d)) (a ∷ []) = ends_of (tables.gives k) (tables.cases k 1)
  kind_ends k (K.Block statements) parts = block_ends statements parts
  kind_ends k (K.Var name written) (a ∷ b ∷ []) = b.ends
  kind_ends k (K.If shape) (c ∷ a ∷ b ∷ []) = ends_of (tables.gives k) (tables.cases k 1)
  kind_ends k K.When (a ∷ b ∷ []) = b.ends
  kind_ends k (K.Let arm) (a ∷ b ∷ []) = b.ends
  kind_ends k (K.Match arms shape) (a ∷ bodies) = ends_of (tables.gives k) (tables.cases k 1)
  kind_ends k (K.Try arms shape) (a ∷ bodies) = ends_of (tables.gives k) (tables.cases k 1)
  kind_ends k (K.Clauses arms) bodies = common_of bodies
  kind_ends k kind parts = []

  -- pure code has no calls of functions, no registers and no loops
  abbrev pub kind_right : ℕ → Kind → List Typing → Bool
  kind_right k (K.Constant literal) [] = is_constant (fixed_typ types (literal_typ literal)) (constant_of literal)
  kind_right k (K.Local name) [] = cases_right is_cast (tables.cases k 1)
  kind_right k (K.Variable name) [] = variable_right (tables.reads name) (tables.cases k 0)
  kind_right k (K.TopLevel i) [] = cases_right (is_sourced (slice_get g.lets (callees.opening i))) (tables.cases k 0)
  kind_right k (K.Register r) [] = not g.is_pure && cases_right (is_sourced (slice_get g.registers r)) (tables.cases k 0)
  kind_right k (K.Call (F.Function f)) args = not g.is_pure && (all_right args && leads_right (tables.cases k (length args)) (tables.leads k))
  kind_right k (K.Call (F.Row row)) args = row_right (has_state row) row (tables.cases k (length args)) args
  kind_right k (K.Call (F.Constructor u c)) args = all_right args && cases_right (is_constructed u c) (tables.cases k (length args))
  kind_right k K.Tuple parts = all_right parts && cases_right (is_work O.Build in_order) (tables.cases k (length parts))
  kind_right k (K.Vector shape) parts = all_right parts && cases_right (is_work O.Build reverse) (tables.cases k (length parts))
  kind_right k (K.List shape) parts = all_right parts && cases_right (is_work O.Build in_order) (tables.cases k (length parts))
  kind_right k (K.Cons shape) parts = all_right parts && cases_right (is_work O.Cons in_order) (tables.cases k (length parts))
  kind_right k (K.Struct struct fields) parts =
      all_right parts && cases_right (is_work O.Build (in_fields no_value fields)) (tables.cases k (length parts))
  kind_right k (K.With struct (i ∷ [])) parts = all_right parts && cases_right (is_work (O.WithField i) in_order) (tables.cases k (length parts))
  kind_right k (K.With struct (i ∷ j ∷ is)) parts = all_right parts && cases_right (is_changed (i ∷ j ∷ is)) (tables.cases k (length parts))
  kind_right k (K.Part suffixes) (a ∷ indexes) = a.right && path_right suffixes indexes
  kind_right k K.WithItem (a ∷ b ∷ c ∷ []) = all_right (a ∷ b ∷ c ∷ []) && cases_right (is_work O.WithItem in_order) (tables.cases k 3)
  kind_right k K.WithSlice (a ∷ b ∷ c ∷ d ∷ []) = all_right (a ∷ b ∷ c ∷ d ∷ []) && cases_right (is_work O.WithSlice in_order) (tables.cases k 4)
  kind_right k (K.Cast written) (a ∷ []) = a.right && cases_right is_recast (tables.cases k 1)
  kind_right k (K.SizeOf t numbers) [] = number_right (callees.size t)
  kind_right k (K.Constraint c numbers) [] = truth_right (callees.truth c)
  kind_right k (K.Assign (t ∷ [])) parts = not g.is_pure && write_right (target_spot t) parts
  kind_right k (K.Block statements) parts = block_right statements parts
  kind_right k (K.Var name written) (a ∷ b ∷ []) = a.right && (kept_right (tables.reads name) a.types && b.right)
  kind_right k (K.If shape) (c ∷ a ∷ []) = c.right && a.right
  kind_right k (K.If shape) (c ∷ a ∷ b ∷ []) =
      c.right && (a.right && (b.right && meet_right (a.types ++ b.types) (tables.cases k 1)))
  kind_right k K.While (m ∷ c ∷ b ∷ []) = not g.is_pure && (m.right && (c.right && b.right))
  kind_right k K.Repeat (m ∷ b ∷ c ∷ []) = not g.is_pure && (m.right && (b.right && c.right))
  kind_right k (K.Foreach name way) (a ∷ b ∷ c ∷ body ∷ []) = not g.is_pure && all_right (a ∷ b ∷ c ∷ body ∷ [])
  kind_right k K.Throw (a ∷ []) = a.right && are_of g.exception a.types
  kind_right k K.Return (a ∷ []) = a.right && are_of g.result a.types
  kind_right k K.Exit (a ∷ []) = a.right
  kind_right k (K.Assert text) (a ∷ []) = a.right
  kind_right k K.And (a ∷ b ∷ []) = a.right && b.right
  kind_right k K.Or (a ∷ b ∷ []) = a.right && b.right
  kind_right k K.When (a ∷ b ∷ []) = a.right && b.right
  kind_right k (K.Let arm) (a ∷ b ∷ []) = a.right && (ends_right arm a.ends && b.right)
  kind_right k (K.Match arms shape) (a ∷ bodies) =
      a.right && (arms_right (in_hand a.ends) arms bodies && meet_right (arms_types bodies) (tables.cases k 1))
  kind_right k (K.Try arms shape) (a ∷ bodies) =
      a.right && (cases_right (is_sourced (Some g.exception)) (tables.cases k 0) && (all_thrown (ends_of (tables.gives k) (tables.cases k 0))
      && (arms_right (in_hand (ends_of (tables.gives k) (tables.cases k 0))) arms bodies
      && meet_right (a.types ++ arms_types bodies) (tables.cases k 1))))
  kind_right k (K.Clauses arms) bodies = arms_right (arguments callees.given) arms bodies
  kind_right k (K.Call (F.Applies d)) (a ∷ []) = applies_right d (callees.direction d) (tables.cases k 1) a
  kind_right k (K.Optional t) (a ∷ []) = optional_right (fixed_typ types (option_typ t)) (fixed_typ types t) a
  kind_right k kind parts = false

  abbrev pub typing : Core → Typing
  typing = fold-Core Typing (λ c. record {
    types = kind_types c.number c.kind c.parts;
    ends = kind_ends c.number c.kind c.parts;
    right = kind_right c.number c.kind c.parts;
  })

  -- the body's value comes to the type of the result at a node of its own
  abbrev pub result_right : ℕ → Typing → Bool
  result_right last body = body.right && (cases_right is_recast (tables.cases last 1) && cases_right (is_sourced (Some g.result)) (tables.cases last 1))
