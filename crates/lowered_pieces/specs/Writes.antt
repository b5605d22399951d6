-- The code of assignments to registers and variables, to parts of them, and by calls (Sail language manual, "Assignments").
use Rattle.std.specs.Prelude.{ℕ, suc, ◌+◌, nat_eq, Bool, true, false, ◌&&◌, List, [], ◌∷◌, ◌++◌, length, Option, Some, None}
use Rattle.sail_base.specs.declared.place.Place.{Place as TextPlace}
use Rattle.sail_types.specs.declared.table.Types.{Types}
use Rattle.size_values.specs.Sized.{sized_at}
use Rattle.size_values.specs.declared.sized.Sized.{Sized, Sized-F, out-Sized}
use Rattle.size_values.specs.declared.sized.Sized.TheOpen as Z
use Rattle.size_values.specs.declared.sized.Sized.TheVariants as S
use Rattle.sail_core.specs.Making.{component}
use Rattle.sail_core.specs.declared.targets.Suffix.{Suffix}
use Rattle.sail_core.specs.declared.targets.Way.{Way}
use Rattle.sail_core.specs.declared.targets.Way.TheVariants as Y
use Rattle.sail_core.specs.declared.targets.TargetKind.{TargetKind}
use Rattle.sail_core.specs.declared.targets.TargetKind.TheVariants as T
use Rattle.sail_core.specs.declared.targets.Target.{Target, fold-Target}
use Rattle.sail_core.specs.declared.tree.Callee.{Callee}
use Rattle.sail_core.specs.declared.tree.Callee.TheVariants as F
use Rattle.checked_meaning.specs.Items.{part_typ}
use Rattle.jib.specs.declared.code.Source.{Source}
use Rattle.jib.specs.declared.code.Source.TheVariants as R
use Rattle.jib.specs.declared.code.Operation.{Operation}
use Rattle.jib.specs.declared.code.Operation.TheVariants as O
use Rattle.jib.specs.declared.code.Instruction.{Instruction}
use Rattle.jib.specs.declared.code.Instruction.TheVariants as I
use Rattle.jib.specs.declared.code.Target.TheVariants as J
use Rattle.sized_meanings.specs.Case.{Case}
use Rattle.lowered_pieces.specs.Places.{Kit, Temp, from, to}
use Rattle.lowered_pieces.specs.Tables.{Tables, cases_among, leads_to}
use Rattle.lowered_pieces.specs.Chains.{many}
use Rattle.lowered_pieces.specs.Moves.{kept_code}
use Rattle.lowered_pieces.specs.Fields.{field_types_of}
use Rattle.lowered_pieces.specs.Forms.{Callees, Coder, Maker, Piece, Stand, Tail, all_code, all_labels, all_notes, call_piece, cast_make, cast_piece}
use Rattle.lowered_pieces.specs.Forms.{ends_of, has_ends, higher, kit_at, made_code, made_piece, note_code, notes_in, nothing_piece, place_of, source_make}
use Rattle.lowered_pieces.specs.Forms.{unit_piece, variable_make}

-- ---- what is assigned to

-- what holds a value: a register, or the newest variable of a name
pub data Holder : Type 0 where
  register : ℕ → Holder
  variable : List ℕ → Holder

-- the value of a holder, or a part of it: the number of the node where the new value comes to its type, and of the one where the whole is read
pub record Cell : Type 0 where
  pub number : ℕ
  pub read : ℕ
  pub holder : Holder
  pub suffixes : List Suffix

pub data Spot : Type 0 where
  one : Cell → Spot
  -- those of a tuple
  several : List Cell → Spot
  -- what a call of a function writes, at a place and a node of its own; so many arguments stand before the new value
  called : ℕ → TextPlace → ℕ → ℕ → ℕ → Spot

abbrev pub called_spot : TextPlace → ℕ → ℕ → ℕ → Callee → Option Spot
called_spot place k n j (F.Function f) = Some (called k place n j f)
called_spot place k n j callee = None

abbrev pub whole_cell : ℕ → Holder → Cell
whole_cell k h = record { number = k; read = k; holder = h; suffixes = [] }

-- a part of a whole
abbrev pub part_spot : ℕ → List Suffix → Cell → List Suffix → Option Spot
part_spot k ss c [] = Some (one (record { number = k; read = c.number; holder = c.holder; suffixes = ss }))
part_spot k ss c rs = None

abbrev pub with_cell : Cell → Option (List Cell) → Option (List Cell)
with_cell c None = None
with_cell c (Some cs) = Some (c ∷ cs)

abbrev pub cells_in : List (Option Spot) → Option (List Cell)
cells_in [] = Some []
cells_in (Some (one c) ∷ spots) = with_cell c (cells_in spots)
cells_in spots = None

abbrev pub several_spot : Option (List Cell) → Option Spot
several_spot None = None
several_spot (Some cs) = Some (several cs)

abbrev pub kind_spot : TextPlace → ℕ → TargetKind → List (Option Spot) → Option Spot
kind_spot place k (T.Register r) [] = Some (one (whole_cell k (register r)))
kind_spot place k (T.Variable name) [] = Some (one (whole_cell k (variable name)))
kind_spot place k (T.Part (s ∷ ss)) (Some (one c) ∷ []) = part_spot k (s ∷ ss) c c.suffixes
kind_spot place k T.Tuple spots = several_spot (cells_in spots)
kind_spot place k (T.Call n reader writer) [] = called_spot place k n writer.number writer.callee
kind_spot place k kind parts = None

abbrev pub target_spot : Target → Option Spot
target_spot = fold-Target (Option Spot) (λ t. kind_spot t.place t.number t.kind t.parts)

-- ---- ways into a value

-- how many indexes a suffix takes, and several
abbrev pub takes_of : Way → ℕ
takes_of (Y.Field struct i) = 0
takes_of Y.Item = 1
takes_of Y.Slice = 2

abbrev pub takes_in : List Suffix → ℕ
takes_in [] = 0
takes_in (s ∷ ss) = takes_of s.way + takes_in ss

-- those of several cells
abbrev pub takes_all : List Cell → ℕ
takes_all [] = 0
takes_all (c ∷ cs) = takes_in c.suffixes + takes_all cs

abbrev pub take_op : Way → Operation
take_op (Y.Field struct i) = O.Field i
take_op Y.Item = O.Item
take_op Y.Slice = O.Slice

abbrev pub put_op : Way → Operation
put_op (Y.Field struct i) = O.WithField i
put_op Y.Item = O.WithItem
put_op Y.Slice = O.WithSlice

-- the type of the part; that of a slice isn't said
abbrev pub item_of : Sized-F Sized → Sized
item_of (Z.Bits n) = S.Bit
item_of (Z.Vector n t) = t
item_of (Z.List t) = t
item_of t = S.Never

abbrev pub way_typ : Types → Way → Sized → Sized
way_typ types (Y.Field struct i) t = sized_at (field_types_of types (out-Sized t)) i
way_typ types Y.Item t = item_of (out-Sized t)
way_typ types Y.Slice t = S.Never

-- ---- the last of the parts of an assignment is the new value, and before it stand indexes and arguments

abbrev pub before : {A : Type 0} → List A → List A
before [] = []
before (x ∷ []) = []
before (x ∷ y ∷ xs) = x ∷ before (y ∷ xs)

abbrev pub final : {A : Type 0} → A → List A → A
final d [] = d
final d (x ∷ []) = x
final d (x ∷ y ∷ xs) = final d (y ∷ xs)

module _ (types : Types) (kit : Kit) where
  -- ---- parts: the indexes stand from a place on

  abbrev pub whole_at : ℕ → Sized → Source
  whole_at q t = from kit (Temp q) (kit.number t)

  abbrev pub index_sources : Way → ℕ → List Source
  index_sources (Y.Field struct i) n = []
  index_sources Y.Item n = from kit (Temp n) kit.integer ∷ []
  index_sources Y.Slice n = from kit (Temp n) kit.integer ∷ from kit (Temp (n + 1)) kit.integer ∷ []

  abbrev pub taken_step : Way → ℕ → ℕ → Sized → Instruction
  taken_step way n q t =
      I.Apply (to kit (Temp (q + 1)) (kit.number (way_typ types way t))) (take_op way) (whole_at q t ∷ index_sources way n)

  abbrev pub put_step : Way → ℕ → ℕ → Sized → Source → Instruction
  put_step way n q t new = I.Apply (to kit (Temp q) (kit.number t)) (put_op way) (whole_at q t ∷ (index_sources way n ++ new ∷ []))

  -- the value at q gets a new part: what stands on the way is taken out, gets it, and is put back
  abbrev pub replaced_code : List Suffix → ℕ → ℕ → Sized → Source → List Instruction
  replaced_code [] n q t new = []
  replaced_code (s ∷ []) n q t new = put_step s.way n q t new ∷ []
  replaced_code (s ∷ r ∷ ss) n q t new =
      taken_step s.way n q t ∷ (replaced_code (r ∷ ss) (n + takes_of s.way) (q + 1) (way_typ types s.way t) new
      ++ put_step s.way n q t (whole_at (q + 1) (way_typ types s.way t)) ∷ [])

  abbrev pub raised : ℕ → Stand → Stand
  raised n s = record s { temp = s.temp + n }

-- ---- the code of a write: how many indexes it takes, its labels, its code over a value in hand of a type, where the indexes stand from a place on, and the
-- variables whose numbers it notes

pub record Writing : Type 0 where
  pub takes : ℕ
  pub labels : ℕ
  pub code : ℕ → Stand → Sized → ℕ → List Instruction
  pub notes : List ℕ

module _ (types : Types) (kit : Kit) (tables : Tables) where
  -- the value in hand goes to its holder
  abbrev pub store_code : Holder → Stand → Sized → List Instruction
  store_code (register r) s t = I.Copy (J.Register r) (from kit (Temp s.temp) (kit.number t)) ∷ []
  store_code (variable name) s t = kept_code kit (place_of s.scope name) s.temp (tables.reads name) t

  -- what a holder holds, read at a node
  abbrev pub held_make : Holder → Maker kit kit.number
  held_make (register r) = source_make kit kit.number (R.Register r)
  held_make (variable name) = variable_make kit kit.number name

  abbrev pub held_piece : Holder → ℕ → Piece
  held_piece h j = made_piece kit kit.number (held_make h) (tables.cases j 0) (tables.gives j)

  -- the whole in hand gets the new part, its numbers are noted, and it goes to its holder
  abbrev pub renewed_code : Cell → ℕ → Source → Stand → Sized → List Instruction
  renewed_code c at new s t =
      replaced_code types kit c.suffixes at s.temp t new
      ++ (note_code (kit_at kit s.depths) kit.number s.temp (tables.gives c.read) t ++ store_code c.holder s t)

  abbrev pub renewed_tail : Cell → ℕ → Source → Stand → Tail
  renewed_tail c at new s = record { labels = 0; code = λ t l. renewed_code c at new s t }

  -- what is done with a new value of this type: a part comes into the whole, which is read behind it
  abbrev pub typed_code : List Suffix → Cell → ℕ → Stand → Sized → ℕ → List Instruction
  typed_code [] c at s t l = store_code c.holder s t
  typed_code (x ∷ ss) c at s t l = (held_piece c.holder c.read).ended (renewed_tail c at (whole_at types kit s.temp t) (higher s)) (higher s) l

  abbrev pub typed_labels : List Suffix → Cell → ℕ
  typed_labels [] c = 0
  typed_labels (x ∷ ss) c = many 0 (tables.cases c.read 0)

  abbrev pub typed_notes : List Suffix → Cell → List ℕ
  typed_notes [] c = []
  typed_notes (x ∷ ss) c = all_notes (tables.gives c.read)

  abbrev pub typed_tail : Cell → ℕ → Stand → Tail
  typed_tail c at s = record { labels = typed_labels c.suffixes c; code = typed_code c.suffixes c at s }

  -- the new value comes to its type at the target's node
  abbrev pub cell_code : Cell → ℕ → Coder
  cell_code c at s l = made_code kit kit.number 1 (cast_make kit kit.number) (tables.cases c.number 1) (tables.gives c.number) (typed_tail c at s) s l

  abbrev pub cell_labels : Cell → ℕ
  cell_labels c = many (typed_labels c.suffixes c) (tables.cases c.number 1)

  abbrev pub cell_notes : Cell → List ℕ
  cell_notes c = all_notes (tables.gives c.number) ++ typed_notes c.suffixes c

  abbrev pub cell_writing : Cell → Writing
  cell_writing c = record { takes = takes_in c.suffixes; labels = cell_labels c; code = λ at s t l. cell_code c at s l; notes = cell_notes c }

  -- the parts of a tuple in hand, one after the other, each to its cell
  abbrev pub component_step : ℕ → Stand → Sized → Instruction
  component_step i s t =
      I.Apply (to kit (Temp (s.temp + 1)) (kit.number (part_typ types (component i) t))) (O.Field i) (whole_at types kit s.temp t ∷ [])

  abbrev pub several_code : List Cell → ℕ → ℕ → Stand → Sized → ℕ → List Instruction
  several_code [] i at s t l = []
  several_code (c ∷ cs) i at s t l =
      component_step i s t ∷ (cell_code c at (higher s) l ++ several_code cs (suc i) (at + takes_in c.suffixes) s t (l + cell_labels c))

  abbrev pub several_labels : List Cell → ℕ
  several_labels [] = 0
  several_labels (c ∷ cs) = cell_labels c + several_labels cs

  abbrev pub several_notes : List Cell → List ℕ
  several_notes [] = []
  several_notes (c ∷ cs) = cell_notes c ++ several_notes cs

  abbrev pub several_writing : List Cell → Writing
  several_writing cs = record { takes = takes_all cs; labels = several_labels cs; code = several_code cs 0; notes = several_notes cs }

module _ (kit : Kit) where
  -- the new value is in hand behind the indexes; and then there is `()`
  abbrev pub given_tail : Writing → Tail → Stand → Tail
  given_tail w tail s = record {
    labels = w.labels + tail.labels;
    code = λ t l. w.code s.temp (record s { temp = s.temp + w.takes }) t l ++ (unit_piece kit).ended tail s (l + w.labels);
  }

  abbrev pub given_code : Writing → List Piece → Piece → Tail → Coder
  given_code w is a tail s l =
      all_code kit kit.number is s l
      ++ a.ended (given_tail w tail s) (record s { temp = s.temp + w.takes }) (l + all_labels kit kit.number is)

  abbrev pub given_piece : Writing → List Piece → Piece → Piece
  given_piece w is a = record {
    labels = λ q. all_labels kit kit.number is + a.labels (w.labels + q);
    ended = given_code w is a;
    notes = notes_in kit kit.number is ++ (a.notes ++ w.notes);
    ends = [];
  }

module _ (types : Types) (kit : Kit) (number : Sized → ℕ) (callees : Callees) (tables : Tables) where
  -- the new value comes to its type at the target's node
  abbrev pub new_piece : ℕ → Piece → Piece
  new_piece k a = cast_piece kit number (tables.cases k 1) (tables.gives k) a

  abbrev pub spot_piece : Spot → List Piece → Piece
  spot_piece (one c) parts = given_piece kit (cell_writing types kit tables c) (before parts) (final nothing_piece parts)
  spot_piece (several cs) parts = given_piece kit (several_writing types kit tables cs) (before parts) (final nothing_piece parts)
  spot_piece (called k place n j f) parts =
      call_piece kit number callees place (tables.cases j (length parts)) (tables.leads j) (tables.gives j)
      (before parts ++ new_piece k (final nothing_piece parts) ∷ [])

  abbrev pub assign_piece : Option Spot → List Piece → Piece
  assign_piece None parts = nothing_piece
  assign_piece (Some spot) parts = spot_piece spot parts

-- ---- what is lowered here

-- whether a variable is read at all
abbrev pub is_read : List Sized → Bool
is_read [] = false
is_read (t ∷ ts) = true

-- whether the type of a part is said: that of a slice isn't
abbrev pub is_said : Way → Bool
is_said Y.Slice = false
is_said way = true

module _ (types : Types) (tables : Tables) where
  -- all that stands on the way to a part of a value of this type has a type with a number
  abbrev pub path_known : List Suffix → Sized → Bool
  path_known [] t = true
  path_known (s ∷ []) t = true
  path_known (s ∷ r ∷ ss) t = is_said s.way && (tables.known (way_typ types s.way t) && path_known (r ∷ ss) (way_typ types s.way t))

  -- whatever its case is
  abbrev pub paths_known : List Suffix → List Case → Bool
  paths_known ss [] = true
  paths_known ss (c ∷ cs) = path_known ss c.gives && paths_known ss cs

  abbrev pub holder_lowered : Holder → Bool
  holder_lowered (register r) = true
  holder_lowered (variable name) = is_read (tables.reads name)

  -- a variable is read at types at which variables of its name are
  abbrev pub held_lowered : Holder → List Case → Bool
  held_lowered (register r) cases = true
  held_lowered (variable name) cases = cases_among (tables.reads name) cases

  abbrev pub typed_lowered : List Suffix → Cell → Bool
  typed_lowered [] c = true
  typed_lowered (x ∷ ss) c =
      has_ends (ends_of (tables.gives c.read) (tables.cases c.read 0))
      && (paths_known (x ∷ ss) (tables.cases c.read 0) && held_lowered c.holder (tables.cases c.read 0))

  abbrev pub cell_lowered : Cell → Bool
  cell_lowered c = holder_lowered c.holder && typed_lowered c.suffixes c

  abbrev pub several_lowered : List Cell → Bool
  several_lowered [] = true
  several_lowered (c ∷ cs) = cell_lowered c && several_lowered cs

  -- with so many parts
  abbrev pub spot_lowered : Option Spot → ℕ → Bool
  spot_lowered None n = false
  spot_lowered (Some (one c)) n = nat_eq n (takes_in c.suffixes + 1) && cell_lowered c
  spot_lowered (Some (several cs)) n = nat_eq n (takes_all cs + 1) && several_lowered cs
  spot_lowered (Some (called k place m j f)) n = nat_eq n (m + 1) && leads_to tables.of f (tables.leads j)
