-- What is assigned to, once the indexes in it have been walked (Sail language manual, "Variables and assignment").
use Rattle.std.specs.List.{list_any}
use Rattle.std.specs.Prelude.{Bool, List, None, Option, Some, false, if◌then◌else◌, length, map, replicate, true, ℕ, [], ◌&&◌, ◌++◌, ◌∷◌}
use Rattle.sail_base.specs.declared.place.Place.{Place}
use Rattle.sail_types.specs.declared.types.Typ.{Typ}
use Rattle.model_state.specs.declared.state.Register.{Register}
use Rattle.sail_core.specs.declared.targets.Caller.{Caller}
use Rattle.sail_core.specs.declared.targets.Way.{Way}
use Rattle.sail_core.specs.declared.targets.Way.TheVariants as Y
use Rattle.value_indices.specs.Steps.{Walk, bind, give, scoped, went}
use Rattle.value_indices.specs.declared.indices.Indices.{Indices, out-Indices}
use Rattle.value_indices.specs.declared.indices.Indices.TheOpen as W
use Rattle.value_indices.specs.declared.indices.Indices.TheOpen.{Indices-F}
use Rattle.value_indices.specs.declared.indices.Indices.TheVariants as I
use Rattle.value_indices.specs.declared.indices.Reading.{Reading}
use Rattle.value_indices.specs.declared.indices.Reading.TheVariants as R
use Rattle.value_indices.specs.declared.notes.Fact.{Fact}
use Rattle.value_fits.specs.Fitting.{also, owe_fit, says}
use Rattle.value_fits.specs.declared.fitted.Fitted.{Fitted}
use Rattle.pattern_leaves.specs.Settings.{Around}
use Rattle.pattern_leaves.specs.declared.names.Held.{Held}
use Rattle.pattern_leaves.specs.declared.names.Held.TheVariants as H
use Rattle.call_notes.specs.Ends.{fits_unless, wrong_value}
use Rattle.call_notes.specs.Noted.{node_ended, node_given, numbers_noted}
use Rattle.call_arguments.specs.Callees.{is_closed}
use Rattle.call_arguments.specs.Holes.{has_hole, value_has_hole}
use Rattle.call_notes.specs.Calls.{called, callee_types}
use Rattle.expression_forms.specs.Inside.{is_type_below, is_value_below}
use Rattle.expression_forms.specs.Names.{named_read, register_type}
use Rattle.expression_forms.specs.Nodes.{put}
use Rattle.expression_forms.specs.Ways.{owe_part, part_fits, part_made}
use Rattle.expression_forms.specs.declared.pending.Left as pending
use Rattle.expression_forms.specs.declared.pending.Left.TheOpen as L
use Rattle.expression_forms.specs.declared.pending.Wrote as written
use Rattle.expression_forms.specs.declared.spots.Known.{Known}
use Rattle.expression_forms.specs.declared.spots.Spot as code
use Rattle.expression_forms.specs.declared.spots.Spot.TheOpen as S
use Rattle.expression_forms.specs.declared.ways.Reached.{Reached}

-- what a new value still owes, at the assignment's place; and what the assignment gives: what a writer gives, and else `()`
pub record Wrote : Type 0 where
  pub left : ℕ → Fitted
  pub answer : Indices

abbrev pub wrote : (ℕ → Fitted) → Indices → Wrote
wrote left answer = record { left = left; answer = answer }

-- whether it can be the base of a part, with all suffixes, and whether its value is there only behind the new one of its part, as what a call gives; the
-- type of what is assigned; how it is read as the base of a part, and what that gives: a run reads it once its part's new value is there; what a new value
-- owes, and what one of which a part is replaced does
pub record Spot : Type 0 where
  pub is_base : Bool
  pub is_late : Bool
  pub typ : Reading
  pub read : Walk Indices
  pub given : Indices → Walk (Unit {0})
  pub write : Bool → Indices → Walk Wrote
  pub renew : Indices → Walk Indices

-- nothing is left to owe
abbrev pub gives : Indices → Walk Wrote
gives i = give (wrote (says []) i)

abbrev pub wrong_write : Place → Walk Wrote
wrong_write place = bind (wrong_value place) gives

-- ---- names: the assignment owes

abbrev pub named_spot : Around → Place → ℕ → List ℕ → Reading → Spot
named_spot around place k name r = record {
  is_base = true;
  is_late = false;
  typ = r;
  read = named_read place k name r;
  given = numbers_noted k;
  write = λ is_nested i. bind (put k (i ∷ []) r i) (λ t. give (wrote (fits_unless is_nested around i r) I.Unit));
  renew = λ i. give I.Unit;
}

abbrev pub wrong_spot : Place → Spot
wrong_spot place = record {
  is_base = true;
  is_late = false;
  typ = R.Hole;
  read = wrong_value place;
  given = λ i. give tt;
  write = λ is_nested i. wrong_write place;
  renew = λ i. wrong_value place;
}

abbrev pub held_spot : Around → Place → ℕ → List ℕ → Option Held → Spot
held_spot around place k name (Some (H.Var r)) = named_spot around place k name r
held_spot around place k name held = wrong_spot place

abbrev pub register_spot : Around → Place → ℕ → Option Register → Spot
register_spot around place k None = wrong_spot place
register_spot around place k (Some r) = named_spot around place k r.name (register_type r)

-- ---- parts: by an index one owes as reading and then the new value, at its bracket; by a field, the assignment does

abbrev pub owes_itself : Way → Bool
owes_itself (Y.Field u k) = false
owes_itself way = true

abbrev pub part_left : Around → Reached → Bool → Indices → Indices → Walk Wrote
part_left around x is_nested i answer = give (wrote (part_fits around x is_nested i) answer)

abbrev pub part_write : Around → Place → Bool → Reached → Walk Indices → Bool → Indices → Walk Wrote
part_write around place false x again is_nested i = bind again (part_left around x is_nested i)
part_write around place true x again is_nested i = bind (owe_part around place x is_nested i) (λ t. bind again gives)

abbrev pub part_put : Around → Place → ℕ → Bool → Reached → Walk Indices → Bool → Indices → Walk Wrote
part_put around place k owes x again is_nested i =
    bind (put k (i ∷ []) x.typ i) (λ t. part_write around place owes x again is_nested i)

-- behind it the base is read and written again, of which a part is replaced
abbrev pub rewritten : Spot → Indices → Walk Indices
rewritten base held = bind (base.given held) (λ t. base.renew held)

abbrev pub reached_spot : Around → Place → ℕ → Way → Spot → Indices → Reached → Spot
reached_spot around place k way base held x = record {
  is_base = false;
  is_late = false;
  typ = x.typ;
  read = part_made place k [] x;
  given = λ j. bind (base.given held) (λ t. numbers_noted k j);
  write = part_put around place k (owes_itself way) x (rewritten base held);
  renew = λ j. rewritten base held;
}

abbrev pub part_spot : Around → Place → ℕ → Way → Spot → Indices → Option Reached → Spot
part_spot around place k way base held None = wrong_spot place
part_spot around place k way base held (Some x) = reached_spot around place k way base held x

-- ---- calls: `f(a) = e` is `f(a, e)`

abbrev pub closed_type : Typ → Reading
closed_type t = if is_closed t then R.Of t [] [] else R.Hole

abbrev pub last_type : List Typ → Reading
last_type [] = R.Hole
last_type (t ∷ []) = closed_type t
last_type (t ∷ u ∷ ts) = last_type (u ∷ ts)

abbrev pub asked : Around → Place → Option Caller → List Bool → List Indices → Walk Indices
asked around place None bs is = wrong_value place
asked around place (Some c) bs is = called around place c.number c.callee bs is

-- with the new value behind the arguments
abbrev pub asked_with : Around → Place → Caller → List Bool → List Indices → Bool → Indices → Walk Indices
asked_with around place writer bs is b i = asked around place (Some writer) (bs ++ b ∷ []) (is ++ i ∷ [])

-- what it gives, with its numbers
abbrev pub answered : Around → Place → Caller → List Bool → List Indices → Bool → Indices → Walk Indices
answered around place writer bs is b i = bind (asked_with around place writer bs is b i) (node_given writer.number)

abbrev pub reader_given : Option Caller → Indices → Walk (Unit {0})
reader_given None i = give tt
reader_given (Some c) i = numbers_noted c.number i

abbrev pub writer_type : Around → Caller → Reading
writer_type around writer = last_type (callee_types around writer.callee)

-- it gets the new value, and the one of which a part was replaced, at its own number, as what it is: so the call is of these indices
abbrev pub call_written : Around → Place → ℕ → Caller → List Bool → List Indices → Bool → Indices → Walk Indices
call_written around place k writer bs is b i =
    bind (put k (i ∷ []) R.Hole i) (λ t. answered around place writer bs is b i)

abbrev pub call_renewed : Around → Place → ℕ → Caller → List Bool → List Indices → Indices → Walk Indices
call_renewed around place k writer bs is i = bind (put k [] R.Hole i) (λ t. answered around place writer bs is false i)

-- it is read by another function than the one whose types are wanted of the arguments, so these owe nothing of it further in
abbrev pub call_read : Around → Place → Option Caller → List Indices → Walk Indices
call_read around place reader is = asked around place reader (replicate (length is) false) is

abbrev pub call_spot : Around → Place → ℕ → Option Caller → Caller → List Bool → List Indices → Spot
call_spot around place k reader writer bs is = record {
  is_base = true;
  is_late = true;
  typ = writer_type around writer;
  read = call_read around place reader is;
  given = reader_given reader;
  write = λ is_nested i. bind (call_written around place k writer bs is is_nested i) gives;
  renew = call_renewed around place k writer bs is;
}

-- ---- parts of what is there late: what is known of it comes into force behind the new value, where the base is read and written again

-- facts that are known come into force
unfoldable pub in_force : List Fact → Walk (Unit {0})
in_force fs facts n = went tt (facts ++ fs) n []

-- what a walk makes known from a variable on
abbrev pub known_from : {A : Type 0} → ℕ → Walk A → List Fact
known_from m w = (w [] m).facts

-- from which variable on a type names what is there late: the base is read from the first on, and the ways into it are from the second on, with what
-- their indexes name between, which is there; so a base that names none from the first on has parts that may name those
abbrev pub late_bound : ℕ → ℕ → Indices → ℕ
late_bound m n held = if is_value_below m held then n else m

-- no type is wanted that names such a variable, or has a hole inside, and so nothing is owed further in
abbrev pub is_late_wanted : ℕ → Reading → Bool
is_late_wanted m r = if has_hole r then false else is_type_below m r

abbrev pub late_type : ℕ → Reading → Reading
late_type m r = if is_late_wanted m r then r else R.Hole

-- it gets the new value as what it is: that this fits is owed where the base is read, before it is written again
abbrev pub late_put : Around → Place → ℕ → Reached → Known → Walk Indices → Bool → Indices → Walk Wrote
late_put around place k x known again is_nested i =
    bind (put k (i ∷ []) R.Hole i) (λ t.
    bind (in_force known.facts) (λ u. part_write around place true x again (is_nested && is_late_wanted known.before x.typ) i))

abbrev pub late_spot : Around → Place → ℕ → Spot → Indices → Reached → Known → Spot
late_spot around place k base held x known = record {
  is_base = false;
  is_late = false;
  typ = late_type known.before x.typ;
  read = wrong_value place;
  given = λ i. give tt;
  write = late_put around place k x known (rewritten base held);
  renew = λ i. wrong_value place;
}

-- of a hole nothing is owed, so what a call leaves open has no such part
abbrev pub late_part : Around → Place → ℕ → Spot → Indices → Option Reached → Known → Spot
late_part around place k base held None known = wrong_spot place
late_part around place k base held (Some x) known =
    if value_has_hole held then wrong_spot place else late_spot around place k base held x known

-- ---- tuples

abbrev pub each_read : List Spot → Walk (List Indices)
each_read [] = give []
each_read (s ∷ ss) = bind s.read (λ i. bind (each_read ss) (λ is. give (i ∷ is)))

-- a tuple of targets gives `()`
abbrev pub both_left : (ℕ → Fitted) → (ℕ → Fitted) → ℕ → Fitted
both_left f g n = also (f n) g

abbrev pub both_wrote : Wrote → Wrote → Wrote
both_wrote a b = wrote (both_left a.left b.left) I.Unit

-- what several have left, one behind another; where there are some, they give `()`
abbrev pub each_left : List (ℕ → Fitted) → ℕ → Fitted
each_left [] = says []
each_left (f ∷ fs) = both_left f (each_left fs)

abbrev pub all_wrote : List (ℕ → Fitted) → Indices → Wrote
all_wrote [] i = wrote (says []) i
all_wrote (f ∷ fs) i = wrote (each_left (f ∷ fs)) I.Unit

-- what a write puts in force, as the answer of a call, isn't in force behind it: what all have left is owed as before them
abbrev pub each_written : Place → List Spot → Bool → List Indices → Walk Wrote
each_written place [] is_nested [] = gives I.Unit
each_written place (s ∷ ss) is_nested (i ∷ is) =
    bind (scoped (s.write is_nested i)) (λ a. bind (each_written place ss is_nested is) (λ b. give (both_wrote a b)))
each_written place ss is_nested is = wrong_write place

abbrev pub each_typ : List Spot → List Reading
each_typ ss = map (λ s. s.typ) ss

-- where the type of one of its targets has a hole, nothing is wanted of the tuple
abbrev pub any_hole : List Reading → Bool
any_hole rs = list_any has_hole rs

abbrev pub parts_typ : List Reading → Reading
parts_typ rs = if any_hole rs then R.Hole else R.Parts rs

-- so nothing is owed further in then
abbrev pub parts_nested : List Spot → Bool → Bool
parts_nested ss is_nested = if any_hole (each_typ ss) then false else is_nested

abbrev pub tuple_write : Place → List Spot → Bool → Indices-F Indices Reading → Walk Wrote
tuple_write place ss is_nested (W.Tuple is) = each_written place ss (parts_nested ss is_nested) is
tuple_write place ss is_nested W.Never = gives I.Unit
tuple_write place ss is_nested form = wrong_write place

abbrev pub tuple_spot : Place → ℕ → List Spot → Spot
tuple_spot place k ss = record {
  is_base = false;
  is_late = false;
  typ = parts_typ (each_typ ss);
  read = bind (each_read ss) (λ is. node_ended k is (I.Tuple is));
  given = λ i. give tt;
  write = λ is_nested i. tuple_write place ss is_nested (out-Indices i);
  renew = λ i. wrong_value place;
}

-- ---- a new value, written

abbrev pub owed_answer : Place → Wrote → Walk Indices
owed_answer place w = bind (owe_fit place w.left) (λ t. give w.answer)

abbrev pub written_by : Place → Spot → Bool → Indices → Walk Indices
written_by place s is_nested i = bind (s.write is_nested i) (owed_answer place)

-- ---- as the code holds them

abbrev pub spot_form : Around → code.Spot-F Spot → Spot
spot_form around (S.Wrong place) = wrong_spot place
spot_form around (S.Named place k name r) = named_spot around place k name r
spot_form around (S.Part place k way base held x) = reached_spot around place k way base held x
spot_form around (S.Call place k reader writer bs is) = call_spot around place k reader writer bs is
spot_form around (S.Late place k base held x known) = late_spot around place k base held x known
spot_form around (S.Tuple place k ss) = tuple_spot place k ss

abbrev pub spot_of : Around → code.Spot → Spot
spot_of around = code.fold-Spot Spot (spot_form around)

abbrev pub left_form : Around → pending.Left-F (ℕ → Fitted) → ℕ → Fitted
left_form around L.Nothing = says []
left_form around (L.Value is_nested i r) = fits_unless is_nested around i r
left_form around (L.Part x is_nested i) = part_fits around x is_nested i
left_form around (L.Each fs) = each_left fs

abbrev pub left_of : Around → pending.Left → ℕ → Fitted
left_of around = pending.fold-Left (ℕ → Fitted) (left_form around)

abbrev pub wrote_of : Around → written.Wrote → Wrote
wrote_of around w = wrote (left_of around w.left) w.answer
