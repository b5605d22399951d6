-- What a module that is made of a model has to be: the code of each instance of a function, with its slots, types and tables.
use Rattle.std.specs.Prelude.{◌≡◌, ℕ, ℤ, suc, [], ◌<◌, pos, Bool, true, List, ◌∷◌, Option, Some, None, option_map, slice_get, slice_index_or}
use Rattle.sail_base.specs.declared.place.Place.{Place as TextPlace}
use Rattle.sail_types.specs.declared.table.Types.{Types as Table}
use Rattle.sail_types.specs.declared.values.Value.{Value}
use Rattle.sail_types.specs.declared.values.Value.TheVariants as V
use Rattle.size_values.specs.declared.sized.Sized.{Sized}
use Rattle.jib.specs.declared.code.Instruction.{Instruction}
use Rattle.jib.specs.declared.code.Instruction.TheVariants as I
use Rattle.jib.specs.declared.code.Module.{Module}
use Rattle.jib.specs.Values.{has}
use Rattle.jib.specs.Jib.{Here, code_of, slots_of}
use Rattle.jib.specs.Jib as J
use Rattle.sail_core.specs.declared.tree.Core.{Core}
use Rattle.sail_core.specs.declared.model.Function.{Function}
use Rattle.sail_core.specs.declared.model.Direction.{Direction}
use Rattle.sail_core.specs.Run.{Now}
use Rattle.sail_core.specs.Making.{World}
use Rattle.sail_core.specs.Meaning.{meaning, option_typ, optional}
use Rattle.sail_types.specs.declared.types.Typ.{Typ}
use Rattle.sail_types.specs.Places.{Given as Awaited}
use Rattle.sail_types.specs.declared.numbers.Num.{Num}
use Rattle.sail_types.specs.declared.numbers.Con.{Con}
use Rattle.sail_core.specs.Numbers.{Givens, Instance, all_agree, known, known_truth}
use Rattle.sail_core.specs.Program.{Measures, Setting, asking, calls, event_of, nearest, ways}
use Rattle.checked_meaning.specs.Checked.{Cases, checked}
use Rattle.checked_meaning.specs.Fits.{has_sizes}
use Rattle.checked_meaning.specs.Items.{Item, fixed_typ, item, typs, vals}
use Rattle.lowered_pieces.specs.Places.{Naming, Given, Mapped, Kit, Names, HasSlots}
use Rattle.lowered_laws.specs.Standing.{Types}
use Rattle.lowered_pieces.specs.Tables.{Tables}
use Rattle.lowered_laws.specs.Telling.{Tells}
use Rattle.lowered_laws.specs.Returning.{Stays}
use Rattle.lowered_pieces.specs.Forms.{Piece, Callees, cast_piece}
use Rattle.lowered_pieces.specs.Functions.{all_in, called_code, direction_code, event_code, measure_of}
use Rattle.lowered_pieces.specs.Mapped.{ends_with, fixed_end, optional_piece}
use Rattle.lowered_pieces.specs.Lowering.{kit_of, is_lowered, piece}
use Rattle.lowered_laws.specs.Simulation.{AllHad, AnswersFrom, Knows, LeadsTo}

-- a model at work, and the module that is made of it
pub record Made : Type 0 where
  pub m : Module
  pub s : Setting Item
  pub lets : List Value
  pub table : Table
  pub number : Sized → ℕ
  pub exception : ℕ
  -- by the places of instances: the function of each, for calls and for events, the type of its result, and what its nodes make
  pub function : ℕ → ℕ
  pub event : ℕ → ℕ
  pub answer : ℕ → Sized
  pub tables : ℕ → Tables
  -- by the numbers of functions: the slots of each
  pub name : ℕ → Naming
  pub knows : (p : ℕ) → Knows table (tables p).known
  pub had : (p : ℕ) (v : Value) (t : Sized) → has_sizes table v t ≡ true → (tables p).known t ≡ true → has m.types v (number t) ≡ true
  -- the numbers and truths that are known of the variables of the function of each
  pub size : ℕ → Num → Option ℤ
  pub truth : ℕ → Con → Option Bool
  -- the function of each instance, and its numbers; no numbers where there is no instance
  pub of : ℕ → ℕ
  pub awaits : ℕ → Option (List (Option Awaited))
  pub all_of : (p q : ℕ) → (tables p).of q ≡ of q
  pub all_await : (p q : ℕ) → (tables p).awaits q ≡ awaits q
  -- directions of mappings; the place of each, which is no instance's; and which of them the body at a place calls or asks
  pub direction : ℕ → Mapped
  pub way : ℕ → ℕ
  pub crosses : ℕ → ℕ → Bool
  -- the values of names of top-level lets
  pub opening : ℕ → ℕ
  pub opened : (i : ℕ) (v : Value) → slice_get s.lets i ≡ Some v → slice_index_or lets (opening i) V.Unit ≡ v

module _ (x : Made) where
  abbrev pub kit_for : ℕ → ℕ → Kit
  kit_for q p = kit_of x.table (x.name q) x.number x.exception (x.size p) x.direction

  abbrev pub around_for : ℕ → List Sized → Callees
  around_for p ts = record {
    function = x.function;
    answer = x.answer;
    opening = x.opening;
    direction = x.direction;
    crosses = x.crosses p;
    size = x.size p;
    truth = x.truth p;
    given = ts;
  }

  -- of the instance at a place, as the q-th function of the module
  abbrev pub piece_for : ℕ → ℕ → List Sized → Core → Piece
  piece_for q p ts c = piece x.table (kit_for q p) x.number (around_for p ts) (x.tables p) c

  abbrev pub lowered_for : ℕ → ℕ → List Sized → Core → Bool
  lowered_for q p ts c = is_lowered x.table (kit_for q p) x.number (around_for p ts) (x.tables p) c

  abbrev pub result_for : ℕ → ℕ → ℕ → Piece → Piece
  result_for q p last b = cast_piece (kit_for q p) x.number ((x.tables p).cases last 1) ((x.tables p).gives last) b

  -- how the code of a function is put together
  abbrev pub Shape : Type 0
  Shape = Kit → TextPlace → Option Piece → Piece → List Instruction

  -- the i-th function may be entered so at this place of the reading's list: its code there, as the q-th function of the module
  pub record Lowered (q : ℕ) (shape : Shape) (i p : ℕ) (f : Function) (nu : Givens) (vs : List Value) (xs : List Item) : Type 0 where
    pub cases : Cases
    pub reads : x.s.sizing.function i p nu ≡ checked x.table cases
    pub tells : Tells x.table (x.tables p) cases
    pub types : Types x.m.types (kit_for q p)
    pub names : Names (kit_for q p) (slots_of x.m q)
    pub slots : HasSlots (slots_of x.m q) (code_of x.m q)
    pub values : vals xs ≡ vs
    pub had : AllHad x.table (x.tables p).known xs
    pub places : (j : ℕ) (y : Item) → slice_get xs j ≡ Some y → x.name q (Given j) (x.number y.typ) ≡ suc j
    pub sizes : (t : Num) (z : ℤ) → x.size p t ≡ Some z → known nu t ≡ Some z
    pub truths : (c : Con) (b : Bool) → x.truth p c ≡ Some b → known_truth nu c ≡ Some b
    pub body : lowered_for q p (typs xs) f.body ≡ true
    pub measure : all_in (lowered_for q p (typs xs)) (measure_of f.cycle f.measure) ≡ true
    pub code : code_of x.m q ≡ shape (kit_for q p) f.place
        (option_map (piece_for q p (typs xs)) (measure_of f.cycle f.measure)) (result_for q p f.last (piece_for q p (typs xs) f.body))

  -- a direction may be entered with this value, as calls and patterns lead there: its body is an option of its clauses
  pub record Turned (d : ℕ) (v : Value) : Type 0 where
    pub m : Direction
    pub found : slice_get x.s.directions d ≡ Some m
    pub cases : Cases
    pub reads : x.s.sizing.direction d ≡ checked x.table cases
    pub enters : x.s.sizing.takes d v ≡ Some (item (x.direction d).takes v)
    pub tells : Tells x.table (x.tables (x.way d)) cases
    pub types : Types x.m.types (kit_for (x.direction d).function (x.way d))
    pub names : Names (kit_for (x.direction d).function (x.way d)) (slots_of x.m (x.direction d).function)
    pub slots : HasSlots (slots_of x.m (x.direction d).function) (code_of x.m (x.direction d).function)
    pub known_taken : (p : ℕ) → (x.tables p).known (x.direction d).takes ≡ true
    pub place : x.name (x.direction d).function (Given 0) (x.number (x.direction d).takes) ≡ 1
    pub sizes : (t : Num) (z : ℤ) → x.size (x.way d) t ≡ Some z → known [] t ≡ Some z
    pub truths : (c : Con) (b : Bool) → x.truth (x.way d) c ≡ Some b → known_truth [] c ≡ Some b
    pub typ : Typ
    pub clauses : Core
    pub means : (w : World Item) → meaning (checked x.table cases) w m.body
        ≡ optional (checked x.table cases) typ (meaning (checked x.table cases) w clauses)
    pub lowered : lowered_for (x.direction d).function (x.way d) ((x.direction d).takes ∷ []) clauses ≡ true
    pub ends : ends_with (fixed_typ x.table typ)
        (fixed_end (piece_for (x.direction d).function (x.way d) ((x.direction d).takes ∷ []) clauses).ends) ≡ true
    pub somes : (u : Value) → has_sizes x.table u (fixed_typ x.table typ) ≡ true
        → has_sizes x.table (V.Union 0 0 u) (fixed_typ x.table (option_typ typ)) ≡ true
    pub none : has_sizes x.table (V.Union 0 1 V.Unit) (fixed_typ x.table (option_typ typ)) ≡ true
    pub known_option : (p : ℕ) → (x.tables p).known (fixed_typ x.table (option_typ typ)) ≡ true
    pub result : m.result ≡ option_typ typ
    pub gives : fixed_typ x.table (option_typ typ) ≡ (x.direction d).gives
    -- nothing in it returns, however many directions it may ask inside one another
    pub stays : (n : ℕ) (active : Measures) (rank : ℕ) (now : Now Item)
        → Stays (meaning (checked x.table cases)
        (asking x.s (calls x.s n) active (ways x.s (calls x.s n) active rank) [] (item (x.direction d).takes v ∷ [])) clauses now)
    pub code : code_of x.m (x.direction d).function ≡ direction_code (kit_for (x.direction d).function (x.way d)) m.place
        (optional_piece x.table (kit_for (x.direction d).function (x.way d)) (fixed_typ x.table (option_typ typ)) (fixed_typ x.table typ)
        (piece_for (x.direction d).function (x.way d) ((x.direction d).takes ∷ []) clauses))

  -- a call that is there: of the i-th function, from one place of the list to an instance
  pub record Leads (p : ℕ) (a : Instance) (i : ℕ) (f : Function) : Type 0 where
    pub leads : LeadsTo (x.tables p) i a
    pub found : slice_get x.s.functions i ≡ Some f

-- the measures that are active where a function is at work: a call finds those of its caller, and has its own behind its measure
pub data Active (x : Made) : Measures → Here → ℕ → Type 0 where
  alone : {h : Here} {p : ℕ} → h.measure ≡ None → Active x [] h p
  further : {active : Measures} {h : Here} {p i : ℕ} {a : Instance} {f : Function} {place : TextPlace} → Active x active h p → Leads x p a i f
      → Active x active (J.called x.m h (x.function a.place) place) a.place
  -- a direction takes over the measures of what calls or asks it
  crossing : {active : Measures} {h : Here} {p d : ℕ} {place : TextPlace} → Active x active h p → x.crosses p d ≡ true
      → Active x active (J.called x.m h (x.direction d).function place) (x.way d)
  sunk : {active : Measures} {h : Here} {p i cycle n : ℕ} {a : Instance} {f : Function} {place : TextPlace} {measure : Core} → Active x active h p
      → Leads x p a i f → f.cycle ≡ Some cycle → f.measure ≡ Some measure
      → Active x ((cycle, n) ∷ active) (record (J.called x.m h (x.function a.place) place) { measure = Some (pos n) }) a.place

-- each direction that a body calls or asks may be entered with each value of the type that it takes
abbrev pub AllTurned : Made → Type 0
AllTurned x = (p d : ℕ) (v : Value) → x.crosses p d ≡ true → has_sizes x.table v (x.direction d).takes ≡ true → Turned x d v

-- and takes no other
abbrev pub AllTaken : Made → Type 0
AllTaken x = (p d : ℕ) (v : Value) (y : Item) → x.crosses p d ≡ true → x.s.sizing.takes d v ≡ Some y → has_sizes x.table v (x.direction d).takes ≡ true

-- a call finds the measure that is before it: so it is where functions of one cycle alone call one another
abbrev pub Agrees : Made → Type 0
Agrees x = (active : Measures) (h : Here) (p i : ℕ) (a : Instance) (f : Function) (place : TextPlace) (cycle : ℕ) → Active x active h p → Leads x p a i f
    → f.cycle ≡ Some cycle → (J.called x.m h (x.function a.place) place).measure ≡ option_map pos (nearest cycle active)

-- what may be entered has its code: an instance of the i-th function, with numbers that are its own
abbrev pub AllLowered : Made → Type 0
AllLowered x = (i p : ℕ) (f : Function) (awaited : List (Option Awaited)) (nu : Givens) (vs : List Value) (xs : List Item) → x.of p ≡ i
    → x.awaits p ≡ Some awaited → all_agree awaited nu ≡ true → slice_get x.s.functions i ≡ Some f
    → x.s.sizing.enters i p nu vs ≡ Some xs → Lowered x (x.function p) called_code i p f nu vs xs

abbrev pub event_shape : Kit → TextPlace → Option Piece → Piece → List Instruction
event_shape kit place measure body = event_code kit place body

abbrev pub EventsLowered : Made → Type 0
EventsLowered x = (i p : ℕ) (f : Function) (awaited : List (Option Awaited)) (nu : Givens) (vs : List Value) (xs : List Item) → x.of p ≡ i
    → x.awaits p ≡ Some awaited → all_agree awaited nu ≡ true → slice_get x.s.functions i ≡ Some f
    → x.s.sizing.enters i p nu vs ≡ Some xs → Lowered x (x.event p) event_shape i p f nu vs xs

-- what is called begins with a tick, whatever it is called with
abbrev pub AllTick : Made → Type 0
AllTick x = (p i : ℕ) (a : Instance) → LeadsTo (x.tables p) i a → slice_get (code_of x.m (x.function a.place)) 0 ≡ Some I.Tick

-- each call does what its function means, however many calls are inside one another
abbrev pub CallsAnswer : Type 0
CallsAnswer = (x : Made) → Agrees x → AllLowered x → AllTurned x → AllTaken x → AllTick x
    → (n : ℕ) (active : Measures) (h : Here) (p : ℕ) → Active x active h p → (place : TextPlace) (i : ℕ) (a : Instance) (vs : List Value) (now : Now Item)
    → LeadsTo (x.tables p) i a → now.ticks < n
    → AnswersFrom x.m x.lets x.s.hart (J.called x.m h (x.function a.place) place) (x.function a.place) vs now
    ((calls x.s n).call active place i (Some a) vs now)

-- each event does what the function means that it enters
abbrev pub EventsAnswer : Type 0
EventsAnswer = (x : Made) → Agrees x → AllLowered x → AllTurned x → AllTaken x → AllTick x → EventsLowered x
    → (n i : ℕ) (a : Instance) (vs : List Value) (now : Now Item) → x.of a.place ≡ i → x.awaits a.place ≡ Some a.numbers → now.ticks < n
    → AnswersFrom x.m x.lets x.s.hart (J.alone (x.event a.place)) (x.event a.place) vs now
    (event_of x.s (calls x.s n) i (Some a) vs (slice_get x.s.functions i) now)
