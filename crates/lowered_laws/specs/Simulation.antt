-- SIMULATION: what slots hold of a moment of a run of the core under constant sizes, and when code does what a run does (Sail language manual,
-- "Expressions").
use Rattle.std.specs.Prelude.{◌≡◌, ℕ, suc, ℤ, pos, ◌+◌, ◌<◌, ◌≤◌, nat_lt, Bool, true, false, List, [], ◌∷◌, length, Option, Some, slice_get, slice_index_or}
use Rattle.sail_base.specs.declared.place.Place.{Place as TextPlace}
use Rattle.sail_types.specs.declared.table.Types.{Types as Table}
use Rattle.sail_types.specs.declared.types.Typ.TheVariants as T
use Rattle.sail_types.specs.declared.values.Value.{Value}
use Rattle.sail_types.specs.declared.values.Value.TheVariants as V
use Rattle.jib.specs.declared.code.Instruction.{Instruction}
use Rattle.jib.specs.declared.code.Instruction.TheVariants as I
use Rattle.jib.specs.declared.code.Module.{Module}
use Rattle.jib.specs.Values.{has}
use Rattle.jib.specs.Jib.{Slots, Store, Outcome, Here, Runs, slots_of}
use Rattle.jib.specs.Jib as J
use Rattle.sail_core.specs.Run as R
use Rattle.sail_core.specs.Run.{Local as Bound, Now, Ended, Run}
use Rattle.sail_core.specs.Numbers.{Instance, known, known_truth}
use Rattle.sail_types.specs.declared.numbers.Num.{Num}
use Rattle.sail_types.specs.declared.numbers.Con.{Con}
use Rattle.sail_core.specs.Values.{bits_typ, int_typ}
use Rattle.sail_core.specs.Making.{Making, World, component, one_item, payload}
use Rattle.size_values.specs.declared.sized.Sized.{Sized, out-Sized}
use Rattle.size_values.specs.declared.sized.Sized.TheVariants as S
use Rattle.sized_nodes.specs.declared.trees.Lead.{Lead}
use Rattle.sized_meanings.specs.Present.{present, present_lead}
use Rattle.checked_meaning.specs.Checked.{Cases, Noted, checked}
use Rattle.checked_meaning.specs.Fits.{has_sizes}
use Rattle.checked_meaning.specs.Items.{Item, fixed_typ, part_typ, typs}
use Rattle.lowered_pieces.specs.Places.{Naming, Place, Raised, Given, Local, Number, Temp, Mapped, Kit, Names, HasSlots}
use Rattle.lowered_laws.specs.Standing.{HasAt, Types, Told}
use Rattle.lowered_pieces.specs.Tables.{Tables}
use Rattle.lowered_laws.specs.Telling.{Tells}
use Rattle.lowered_pieces.specs.Arms.{Choice, Held, Matched, choices, is_union, picked_of, places_of, word_width}
use Rattle.lowered_pieces.specs.Forms.{Named, Depths, kit_at, Stand, Tail, Piece, Callees}
use Rattle.lowered_pieces.specs.Fields.{all_known, field_types_of}
use Rattle.lowered_pieces.specs.Lowering.{kit_of}
use Rattle.lowered_pieces.specs.Writes.{is_read}

-- ---- what may follow a piece of a run, by how it ends: where it is stuck, nothing

-- all that flat code has of a moment: no names
abbrev pub bare : Now Item → Store
bare now = record { state = now.state; ticks = now.ticks; accesses = now.accesses }

-- what is so behind a run, by how it ends: where it returns or stops, the function's run has ended so
abbrev pub Followed : {A : Type 0} → Outcome → Ended Item A → (A → Now Item → Type 0) → (Value → Now Item → Type 0) → (Now Item → Type 0) → Type 0
Followed r (R.Gives x t) given thrown unmatched = given x t
Followed r (R.No t) given thrown unmatched = unmatched t
Followed r (R.Returns v t) given thrown unmatched = r ≡ J.Gives v (bare t)
Followed r (R.Throws v t) given thrown unmatched = thrown v t
Followed r (R.Stops cause t) given thrown unmatched = r ≡ J.Stops cause (bare t)
Followed r R.Stuck given thrown unmatched = ⊥

-- ---- a function at work

-- the types that have a number: those that every model has, and with a type those of its parts
pub record Knows (table : Table) (known : Sized → Bool) : Type 0 where
  pub unit : known (fixed_typ table T.Unit) ≡ true
  pub truth : known (fixed_typ table T.Bool) ≡ true
  pub integer : known (fixed_typ table int_typ) ≡ true
  pub of_tuple : (i : ℕ) (t : Sized) → known t ≡ true → known (part_typ table (component i) t) ≡ true
  pub of_items : (t : Sized) → known t ≡ true → known (part_typ table one_item t) ≡ true
  -- and with the type of a word those of shorter ones
  pub of_bits : (t : Sized) (n : ℕ) → known t ≡ true → n ≤ word_width (out-Sized t)
      → (known (S.Bits (pos n)) ≡ true) × (fixed_typ table (bits_typ n) ≡ S.Bits (pos n))
  pub of_fields : (t : Sized) → known t ≡ true → all_known known (field_types_of table (out-Sized t)) ≡ true
  pub of_union : (u c : ℕ) (t : Sized) → is_union u (out-Sized t) ≡ true → known t ≡ true → known (part_typ table (payload u c) t) ≡ true

-- a function of a module at work, and how its run ends
pub record AtWork : Type 0 where
  pub m : Module
  pub lets : List Value
  pub hart : ℕ
  pub here : Here
  pub ending : Outcome
  pub name : Naming
  -- types with constant sizes, by their numbers in the module's table, which has their values
  pub table : Table
  pub number : Sized → ℕ
  pub exception : ℕ
  -- the numbers that are known of the function's variables
  pub size : Num → Option ℤ
  -- directions of mappings
  pub ways : ℕ → Mapped
  pub tables : Tables
  pub knows : Knows table tables.known
  pub had : (v : Value) (t : Sized) → has_sizes table v t ≡ true → tables.known t ≡ true → has m.types v (number t) ≡ true
  pub cases : Cases
  pub tells : Tells table tables cases
  pub types : Types m.types (kit_of table name number exception size ways)
  pub names : Names (kit_of table name number exception size ways) (slots_of m here.function)
  pub slots : HasSlots (slots_of m here.function) (J.code_of m here.function)
  -- what it was called with
  pub arguments : List Item
  -- calls are known to go well with fewer ticks than these
  pub depth : ℕ

abbrev pub kit : AtWork → Kit
kit g = kit_of g.table g.name g.number g.exception g.size g.ways

-- its code
abbrev pub own_code : AtWork → List Instruction
own_code g = J.code_of g.m g.here.function

-- the reading of the core by these cases
abbrev pub reading : AtWork → Making Item
reading g = checked g.table g.cases

-- from this instruction, with these slots, its run goes on to its end
abbrev pub RunsOn : AtWork → ℕ → Slots → Store → Type 0
RunsOn g pc sl s = Runs g.m g.lets g.hart g.here pc sl s g.ending

-- ---- what slots hold

-- an argument, a local below the d-th, or a value in hand below the n-th
abbrev pub lower : ℕ → ℕ → Place → Bool
lower n d (Given i) = true
lower n d (Local i) = nat_lt i d
lower n d (Temp i) = nat_lt i n
lower n d q = false

-- each name has a place of its own: its local, if it is one, is below the names from it on
abbrev pub Low : ℕ → List Named → Type 0
Low n [] = Unit {0}
Low n (y ∷ ys) = (lower n (length (y ∷ ys)) y.place ≡ true) × Low n ys

-- where values in hand of an arm stand: arguments, and places below the q-th
abbrev pub handy : ℕ → Place → Bool
handy q (Given i) = true
handy q (Temp i) = nat_lt i q
handy q p = false

abbrev pub Settled : ℕ → List Held → Type 0
Settled q [] = Unit {0}
Settled q (h ∷ hs) = (handy q h.place ≡ true) × Settled q hs

-- the numbers of these variables stand just so deep
abbrev pub Writable : Depths → List ℕ → Type 0
Writable d [] = Unit {0}
Writable d (x ∷ xs) = (d.of x ≡ d.here) × Writable d xs

-- a value that has the sizes of a type, which has a number
abbrev pub IsOf : Table → (Sized → Bool) → Value → Sized → Type 0
IsOf table known v t = (has_sizes table v t ≡ true) × (known t ≡ true)

abbrev pub Sits : AtWork → Value → Sized → Type 0
Sits g v t = IsOf g.table g.tables.known v t

-- so values that have the sizes of their types
abbrev pub AllHad : Table → (Sized → Bool) → List Item → Type 0
AllHad types known [] = Unit {0}
AllHad types known (x ∷ xs) = ((has_sizes types x.val x.typ ≡ true) × (known x.typ ≡ true)) × AllHad types known xs

-- an instance of a function to which a call leads
pub record LeadsTo (tables : Tables) (f : ℕ) (x : Instance) : Type 0 where
  pub node : ℕ
  pub noted : Noted
  pub lead : Lead
  pub there : present_lead noted (tables.leads node) ≡ Some lead
  pub place : lead.instance ≡ x.place
  pub of : tables.of x.place ≡ f
  pub awaits : tables.awaits x.place ≡ Some x.numbers

-- the run of a function does what a call of it comes to, and leaves the caller's names and numbers
abbrev pub AnswersFrom : Module → List Value → ℕ → Here → ℕ → List Value → Now Item → Ended Item Value → Type 0
AnswersFrom m lets hart here f vs now (R.Gives v t) = (t.locals ≡ now.locals) × (t.opened ≡ now.opened) × (t.ticks ≤ now.ticks)
    × J.Runs m lets hart here 0 (J.entry m f vs) (bare now) (J.Gives v (bare t))
AnswersFrom m lets hart here f vs now (R.Throws v t) = (t.locals ≡ now.locals) × (t.opened ≡ now.opened) × (t.ticks ≤ now.ticks)
    × J.Runs m lets hart here 0 (J.entry m f vs) (bare now) (J.Throws v (bare t))
AnswersFrom m lets hart here f vs now (R.Stops cause t) = J.Runs m lets hart here 0 (J.entry m f vs) (bare now) (J.Stops cause (bare t))
AnswersFrom m lets hart here f vs now (R.No t) = ⊥
AnswersFrom m lets hart here f vs now (R.Returns v t) = ⊥
AnswersFrom m lets hart here f vs now R.Stuck = Unit {0}

-- a direction that is asked with a value: where it isn't stuck the value is one that it takes, and an option of its type comes of it
abbrev pub AskedFrom : Table → (Sized → Bool) → Module → List Value → ℕ → Here → Mapped → Value → Now Item → Ended Item Item → Type 0
AskedFrom table known m lets hart here way v now (R.Gives y t) = IsOf table known v way.takes × (y.typ ≡ way.gives) × IsOf table known y.val y.typ
    × AnswersFrom m lets hart here way.function (v ∷ []) now (R.Gives y.val t)
AskedFrom table known m lets hart here way v now (R.Throws w t) =
    IsOf table known v way.takes × AnswersFrom m lets hart here way.function (v ∷ []) now (R.Throws w t)
AskedFrom table known m lets hart here way v now (R.Stops cause t) =
    IsOf table known v way.takes × AnswersFrom m lets hart here way.function (v ∷ []) now (R.Stops cause t)
AskedFrom table known m lets hart here way v now (R.No t) = ⊥
AskedFrom table known m lets hart here way v now (R.Returns w t) = ⊥
AskedFrom table known m lets hart here way v now R.Stuck = Unit {0}

module _ (g : AtWork) where
  -- the names in scope, the newest first, each in its slot
  abbrev pub Holds : Slots → List Named → List (Bound Item) → Type 0
  Holds sl [] [] = Unit {0}
  Holds sl (y ∷ ys) (l ∷ ls) = (l.name ≡ y.name) × (sl (g.name y.place (g.number l.held.typ)) ≡ l.held.val) × Holds sl ys ls
  Holds sl ys ls = ⊥

  -- a value at a place, at each of these types whose sizes it has
  abbrev pub ReadAs : Slots → Place → Value → List Sized → Type 0
  ReadAs sl p v [] = Unit {0}
  ReadAs sl p v (t ∷ ts) = (Sits g v t → sl (g.name p (g.number t)) ≡ v) × ReadAs sl p v ts

  -- a name that may be a variable's, with so many names behind it: its local is its own, and where its variables are read it has one and stands there at the
  -- types that they are read at
  pub record Varied (sl : Slots) (y : Named) (d : ℕ) (v : Value) : Type 0 where
    pub own : (i : ℕ) → y.place ≡ Local i → i ≡ d
    pub local : is_read (g.tables.reads y.name) ≡ true → y.place ≡ Local d
    pub read : ReadAs sl y.place v (g.tables.reads y.name)

  abbrev pub Varies : Slots → List Named → List (Bound Item) → Type 0
  Varies sl [] ls = Unit {0}
  Varies sl (y ∷ ys) [] = Unit {0}
  Varies sl (y ∷ ys) (l ∷ ls) = Varied sl y (length ys) l.held.val × Varies sl ys ls

  -- arguments, in their slots
  abbrev pub Passed : Slots → ℕ → List Item → Type 0
  Passed sl i [] = Unit {0}
  Passed sl i (x ∷ xs) = (sl (g.name (Given i) (g.number x.typ)) ≡ x.val) × Passed sl (i + 1) xs

  -- values in hand of an arm, each in its slot
  abbrev pub Holding : Slots → List Held → List Item → Type 0
  Holding sl [] [] = Unit {0}
  Holding sl (h ∷ hs) (x ∷ xs) = (h.typ ≡ x.typ) × (sl (g.name h.place (g.number h.typ)) ≡ x.val) × Sits g x.val x.typ × Holding sl hs xs
  Holding sl hs xs = ⊥

  -- of a moment, so deep: its names and the numbers that are noted; values in hand below the n-th may be those of names
  pub record Same (d : Depths) (scope : List Named) (n : ℕ) (sl : Slots) (now : Now Item) : Type 0 where
    pub locals : Holds sl scope now.locals
    pub noted : Told (kit_at (kit g) d) now.opened sl
    pub low : Low n scope
    pub shallow : (x : ℕ) → d.of x ≤ d.here
    pub passed : Passed sl 0 g.arguments
    pub varied : Varies sl scope now.locals

  -- what a piece leaves: its places in hand from n on may be others, and its numbers so deep
  pub record After (d : Depths) (scope : List Named) (n : ℕ) (sl : Slots) (now : Now Item) (sl' : Slots) (t : Now Item) : Type 0 where
    pub same : Same d scope n sl' t
    pub kept : (i u : ℕ) → i < n → sl' (g.name (Temp i) u) ≡ sl (g.name (Temp i) u)
    pub given : (i u : ℕ) → sl' (g.name (Given i) u) ≡ sl (g.name (Given i) u)
    pub numbers : (x e : ℕ) → e < d.here → sl' (g.name (Number x e) (kit g).integer) ≡ sl (g.name (Number x e) (kit g).integer)
    pub fewer : t.ticks ≤ now.ticks

  -- ---- what may follow

  -- the code of a tail runs, wherever it stands, if what follows is run from pe on
  pub record Done (tail : Tail) (s : Stand) (pe : ℕ) (sl : Slots) (now : Now Item) (x : Item) (t : Now Item) : Type 0 where
    pub by : (sl' : Slots) (l q : ℕ) → After s.depths s.scope s.temp sl now sl' t → sl' (g.name (Temp s.temp) (g.number x.typ)) ≡ x.val
        → Sits g x.val x.typ → HasAt (own_code g) q (tail.code x.typ l)
        → ((after : Slots) (then_ : Store) → RunsOn g pe after then_ → RunsOn g (q + length (tail.code x.typ l)) after then_)
        → RunsOn g q sl' (bare t)

  pub record Catches (d : Depths) (scope : List Named) (ph n : ℕ) (sl : Slots) (now : Now Item) (v : Value) (t : Now Item) : Type 0 where
    pub by : (sl' : Slots) → After d scope n sl now sl' t → sl' (g.name Raised g.exception) ≡ v → RunsOn g ph sl' (bare t)

  pub record Fails (d : Depths) (scope : List Named) (pf n : ℕ) (sl : Slots) (now : Now Item) (t : Now Item) : Type 0 where
    pub by : (sl' : Slots) → After d scope n sl now sl' t → RunsOn g pf sl' (bare t)

  -- the labels of a stand, to which what is thrown and what doesn't match goes, stand at these instructions
  pub record LabelsStand (s : Stand) (ph pf : ℕ) : Type 0 where
    pub throws : slice_get (own_code g) ph ≡ Some (I.Label s.on_throw)
    pub fails : slice_get (own_code g) pf ≡ Some (I.Label s.on_no)

  -- SIMULATION, in continuation form: wherever what may follow the run of a form runs to the end, its code does too
  pub record Good (me : Run Item Item) (p : Piece) : Type 0 where
    pub run : (tail : Tail) (s : Stand) (l pc pe ph pf : ℕ) (sl : Slots) (now : Now Item) → now.ticks < g.depth
        → pe ≡ pc + length (p.ended tail s l) → HasAt (own_code g) pc (p.ended tail s l) → LabelsStand s ph pf → Same s.depths s.scope s.temp sl now
        → Writable s.depths p.notes
        → Followed g.ending (me now) (Done tail s pe sl now) (Catches s.depths s.scope ph s.temp sl now) (Fails s.depths s.scope pf s.temp sl now)
        → RunsOn g pc sl (bare now)

  -- values that are matched, where they stand: of the choice whose numbers are those that are noted
  pub record Matches (m : Matched) (q : ℕ) (xs : List Item) (sl : Slots) (opened : Noted) : Type 0 where
    pub choice : Choice
    pub there : present picked_of opened (choices m q) ≡ Some choice
    pub settled : Settled (q + places_of m) choice.values
    pub holding : Holding sl choice.values xs

  -- so of what is matched, which stays where it is until there is a value
  pub record GoodOn (m : Matched) (xs : List Item) (me : Run Item Item) (p : Piece) : Type 0 where
    pub run : (tail : Tail) (s : Stand) (l pc pe ph pf : ℕ) (sl : Slots) (now : Now Item) → now.ticks < g.depth
        → pe ≡ pc + length (p.ended tail s l) → HasAt (own_code g) pc (p.ended tail s l) → LabelsStand s ph pf → Same s.depths s.scope s.temp sl now
        → Writable s.depths p.notes
        → Matches m s.temp xs sl now.opened
        → Followed g.ending (me now) (Done tail s pe sl now) (Catches s.depths s.scope ph s.temp sl now)
        (Fails s.depths s.scope pf (s.temp + places_of m) sl now)
        → RunsOn g pc sl (bare now)

  -- ---- what is around a run

  -- what is around a run: its hart, the numbers and truths of its function's variables, what it was called with, and the values of names of top-level lets
  pub record Around (callees : Callees) (w : World Item) : Type 0 where
    pub hart : w.hart ≡ g.hart
    pub sized : callees.size ≡ g.size
    pub widths : (t : Num) (z : ℤ) → g.size t ≡ Some z → known w.numbers t ≡ Some z
    pub sizes : (t : Num) (z : ℤ) → callees.size t ≡ Some z → known w.numbers t ≡ Some z
    pub truths : (c : Con) (b : Bool) → callees.truth c ≡ Some b → known_truth w.numbers c ≡ Some b
    pub arguments : w.arguments ≡ g.arguments
    pub given : callees.given ≡ typs g.arguments
    pub had : AllHad g.table g.tables.known g.arguments
    pub lets : (i : ℕ) (v : Value) → slice_get w.lets i ≡ Some v → slice_index_or g.lets (callees.opening i) V.Unit ≡ v

  abbrev pub Answers : TextPlace → ℕ → List Value → Now Item → Ended Item Value → Type 0
  Answers place f vs now o = AnswersFrom g.m g.lets g.hart (J.called g.m g.here f place) f vs now o

  abbrev pub Asked : TextPlace → Mapped → Value → Now Item → Ended Item Item → Type 0
  Asked place way v now o = AskedFrom g.table g.tables.known g.m g.lets g.hart (J.called g.m g.here way.function place) way v now o

  -- so does each call with fewer ticks than the depth, where a call leads
  pub record CallsOk (callees : Callees) (w : World Item) : Type 0 where
    pub tells : (place : TextPlace) (f : ℕ) (x : Instance) (vs : List Value) (now : Now Item) → LeadsTo g.tables f x → now.ticks < g.depth
        → Answers place (callees.function x.place) vs now (w.call place f (Some x) vs now)
    -- each call of a direction that this function's body calls, behind its tick
    pub crosses : (place : TextPlace) (d : ℕ) (v : Value) (now : Now Item) → callees.crosses d ≡ true
        → has_sizes g.table v (callees.direction d).takes ≡ true → suc now.ticks < g.depth
        → Answers place (callees.direction d).function (v ∷ []) now (w.enter d v now)
    -- and each direction that its patterns ask
    pub sees : (place : TextPlace) (d : ℕ) (x : Item) (now : Now Item) → callees.crosses d ≡ true → now.ticks < g.depth
        → Asked place (g.ways d) x.val now (w.way d x now)
