-- The walk over a target that is a part counts variables on.
use Rattle.std.proofs.Common.{ℕ, zero, suc, Bool, true, false, List, [], ◌∷◌, length, take, drop, nat_lt, if◌then◌else◌, Option, Some, None}
use Rattle.sail_base.specs.declared.place.Place.{Place}
use Rattle.sail_types.specs.declared.numbers.Num.{Num}
use Rattle.sail_core.specs.Making.{World}
use Rattle.sail_core.specs.Run.{Run}
use Rattle.sail_core.specs.declared.targets.Suffix.{Suffix}
use Rattle.sail_core.specs.declared.targets.Way.{Way}
use Rattle.value_indices.specs.Opening.{opened}
use Rattle.value_indices.specs.Steps.{Walk, bind, give, owe, size_note, wrong}
use Rattle.value_indices.specs.declared.indices.Indices.{Indices}
use Rattle.value_indices.specs.declared.indices.Naming.TheVariants as M
use Rattle.value_indices.specs.declared.notes.Made.TheVariants as Makes
use Rattle.pattern_leaves.specs.Settings.{Around, Scope}
use Rattle.call_arguments.specs.declared.aims.Aim.{Aim}
use Rattle.call_arguments.specs.declared.aims.Aim.TheVariants as Aims
use Rattle.call_notes.specs.Ends.{is_never, opened_at, sized_by}
use Rattle.expression_forms.specs.Spots.{Spot, part_spot}
use Rattle.expression_forms.specs.Ways.{read_into}
use Rattle.expression_forms.specs.declared.ways.Reached.{Reached}
use Rattle.expression_steps.specs.Parts.{Part, numbers_walk}
use Rattle.expression_steps.specs.Targets.{Spotted, last_suffix, part_spotted, suffixes_spot}
use Rattle.expression_steps.specs.Values.{Passed, Taken, indexes_of, no_way, passed, read_taken, reached_by, suffix_walk, suffixes_walk, taken}
use Rattle.expression_steps.specs.Values.{then_on}
use Rattle.expression_steps.specs.Values.{way_taken, way_walk}
use Rattle.checked_meaning.specs.Items.{Item}
use Rattle.soundness_steps.specs.Works.{Scene}
use Rattle.soundness_steps.specs.Steps.{Grows}
use Rattle.soundness_forms.specs.Forms.{AllFine}
use Rattle.soundness_forms.proofs.Growth.{grows_bind, grows_give, grows_note, grows_opening, grows_owe}
use Rattle.soundness_parts.proofs.PartGrowth.{AllGrow, Gives, any, gives_back, gives_bind, grows_bind_at, if_never_grows, none_grows, way_grows}

pub into_grows : (place : Place) (i : Indices) (o : Option Reached) → Grows (read_into place i o)
unfolding opened
into_grows place i None = if_never_grows place (is_never i)
into_grows place i (Some x) =
    grows_bind (owe place x.conditions) (λ t. opened_at place x.typ) (grows_owe place x.conditions) (λ t.
    grows_bind (sized_by place x.typ) (λ u. opened x.typ) (grows_note (λ facts. size_note facts place (Makes.ByType x.typ))) (λ u.
    grows_opening x.typ false M.Unnamed))

module _ (around : Around) (scope : Scope) where
  -- whatever is wanted of them
  abbrev pub AnyGrow : List Part → Type 0
  AnyGrow [] = Unit {0}
  AnyGrow (p ∷ ps) = ((aim : Aim) → Grows (p.walk around scope aim)) × AnyGrow ps

  pub free_grow : (ps : List Part) → AnyGrow ps → AllGrow around scope ps
  free_grow [] h = tt
  free_grow (p ∷ ps) h = (h.0 Aims.Free, free_grow ps h.1)

  pub left_grow : (k : ℕ) (ps : List Part) → AnyGrow ps → AnyGrow (drop k ps)
  left_grow zero ps h = h
  left_grow (suc k) [] h = tt
  left_grow (suc k) (p ∷ ps) h = left_grow k ps h.1

  abbrev TakenGrow : Option Taken → Type 0
  TakenGrow None = Unit {0}
  TakenGrow (Some t) = AnyGrow t.left

  abbrev PassedGrow : Option Passed → Type 0
  PassedGrow None = Unit {0}
  PassedGrow (Some t) = AnyGrow t.left

  taken_gives : (i : Indices) (way : Way) (left : List Part) → AnyGrow left → (o : Option (List Num)) → Gives TakenGrow (way_taken around i way left o)
  taken_gives i way left h None = gives_back TakenGrow None tt
  taken_gives i way left h (Some ns) =
      gives_bind (λ x. Unit {0}) TakenGrow (reached_by around i way ns) (λ x. give (taken x left)) (any (reached_by around i way ns)) (λ x u.
      gives_back TakenGrow (taken x left) h)

  way_by : (place : Place) (i : Indices) (way : Way) (parts : List Part) → AnyGrow parts → (few : Bool) → Gives TakenGrow (if few then no_way place
      else bind (numbers_walk (take (indexes_of way) parts) around scope) (way_taken around i way (drop (indexes_of way) parts)))
  way_by place i way parts h true =
      gives_bind (λ t. Unit {0}) TakenGrow (wrong place) (λ t. give None) (any (wrong place)) (λ t u. gives_back TakenGrow None tt)
  way_by place i way parts h false =
      gives_bind (λ o. Unit {0}) TakenGrow (numbers_walk (take (indexes_of way) parts) around scope) (way_taken around i way (drop (indexes_of way) parts))
      (any (numbers_walk (take (indexes_of way) parts) around scope)) (λ o u.
      taken_gives i way (drop (indexes_of way) parts) (left_grow (indexes_of way) parts h) o)

  way_gives : (place : Place) (i : Indices) (way : Way) (parts : List Part) → AnyGrow parts → Gives TakenGrow (way_walk place parts around scope i way)
  way_gives place i way parts h = way_by place i way parts h (nat_lt (length parts) (indexes_of way))

  read_grows : (place : Place) (k : ℕ) (i : Indices) (o : Option Taken) → Grows (read_taken true place k i o)
  read_grows place k i None = grows_give None
  read_grows place k i (Some t) = grows_bind (read_into place i t.reached) (λ j. give (passed t.left j)) (into_grows place i t.reached) (λ j.
      grows_give (passed t.left j))

  read_gives : (place : Place) (k : ℕ) (i : Indices) (o : Option Taken) → TakenGrow o → Gives PassedGrow (read_taken true place k i o)
  read_gives place k i None h = gives_back PassedGrow None tt
  read_gives place k i (Some t) h =
      gives_bind (λ j. Unit {0}) PassedGrow (read_into place i t.reached) (λ j. give (passed t.left j)) (any (read_into place i t.reached))
      (λ j u. gives_back PassedGrow (passed t.left j) h)

  suffix_grows : (s : Suffix) (parts : List Part) (i : Indices) → AnyGrow parts → Grows (suffix_walk true s parts around scope i)
  suffix_grows s parts i h =
      grows_bind (way_walk s.place parts around scope i s.way) (read_taken true s.place s.number i)
      (way_grows around scope s.place i s.way parts (free_grow parts h)) (read_grows s.place s.number i)

  suffix_gives : (s : Suffix) (parts : List Part) (i : Indices) → AnyGrow parts → Gives PassedGrow (suffix_walk true s parts around scope i)
  suffix_gives s parts i h =
      gives_bind TakenGrow PassedGrow (way_walk s.place parts around scope i s.way) (read_taken true s.place s.number i) (way_gives s.place i s.way parts h)
      (read_gives s.place s.number i)

  -- what comes behind one
  then_grows : {A : Type 0} (next : List Part → Indices → Walk (Option A)) → ((ps : List Part) (j : Indices) → AnyGrow ps → Grows (next ps j))
      → (o : Option Passed) → PassedGrow o → Grows (then_on next o)
  then_grows next h None u = grows_give None
  then_grows next h (Some t) u = h t.left t.value u

  then_gives : {A : Type 0} (P : Option A → Type 0) → P None → (next : List Part → Indices → Walk (Option A))
      → ((ps : List Part) (j : Indices) → AnyGrow ps → Gives P (next ps j)) → (o : Option Passed) → PassedGrow o → Gives P (then_on next o)
  then_gives P none next h None u = gives_back P None none
  then_gives P none next h (Some t) u = h t.left t.value u

  suffixes_grow : (ss : List Suffix) (parts : List Part) (i : Indices) → AnyGrow parts → Grows (suffixes_walk true ss around scope parts i)
  suffixes_grow [] parts i h = grows_give (passed parts i)
  suffixes_grow (s ∷ ss) parts i h =
      grows_bind_at PassedGrow (suffix_walk true s parts around scope i) (then_on (suffixes_walk true ss around scope)) (suffix_gives s parts i h)
      (suffix_grows s parts i h) (then_grows (suffixes_walk true ss around scope) (λ ps j a. suffixes_grow ss ps j a))

  suffixes_give : (ss : List Suffix) (parts : List Part) (i : Indices) → AnyGrow parts → Gives PassedGrow (suffixes_walk true ss around scope parts i)
  suffixes_give [] parts i h = gives_back PassedGrow (passed parts i) h
  suffixes_give (s ∷ ss) parts i h =
      gives_bind PassedGrow PassedGrow (suffix_walk true s parts around scope i) (then_on (suffixes_walk true ss around scope)) (suffix_gives s parts i h)
      (then_gives PassedGrow tt (suffixes_walk true ss around scope) (λ ps j a. suffixes_give ss ps j a))

  -- ---- the last one, and the target

  -- this is so of the spot
  abbrev pub SpottedGrow : (Spot → Type 0) → Option Spotted → Type 0
  SpottedGrow P None = Unit {0}
  SpottedGrow P (Some s) = AnyGrow s.left × P s.spot

  module _ (P : Spot → Type 0) (place : Place) (k : ℕ) (base : Spot) (held : Indices)
      (spots : (s : Suffix) (o : Option Reached) → P (part_spot around s.place k s.way base held o)) where
    spotted_grow : (s : Suffix) (o : Option Taken) → TakenGrow o → SpottedGrow P (part_spotted around k s base held o)
    spotted_grow s None h = tt
    spotted_grow s (Some t) h = (h, spots s t.reached)

    last_grows : (s : Suffix) (parts : List Part) (i : Indices) → AnyGrow parts → Grows (last_suffix k s around scope base held parts i)
    last_grows s parts i h =
        grows_bind (way_walk s.place parts around scope i s.way) (λ w. give (part_spotted around k s base held w))
        (way_grows around scope s.place i s.way parts (free_grow parts h)) (λ w. grows_give (part_spotted around k s base held w))

    last_gives : (s : Suffix) (parts : List Part) (i : Indices) → AnyGrow parts → Gives (SpottedGrow P) (last_suffix k s around scope base held parts i)
    last_gives s parts i h =
        gives_bind TakenGrow (SpottedGrow P) (way_walk s.place parts around scope i s.way) (λ w. give (part_spotted around k s base held w))
        (way_gives s.place i s.way parts h) (λ w e. gives_back (SpottedGrow P) (part_spotted around k s base held w) (spotted_grow s w e))

    pub spots_grow : (o : Option Suffix) (ss : List Suffix) (parts : List Part) → AnyGrow parts
        → Grows (suffixes_spot place k o ss around scope base parts held)
    spots_grow None ss parts h = none_grows place
    spots_grow (Some s) ss parts h =
        grows_bind_at PassedGrow (suffixes_walk true ss around scope parts held) (then_on (last_suffix k s around scope base held))
        (suffixes_give ss parts held h) (suffixes_grow ss parts held h) (then_grows (last_suffix k s around scope base held) (λ ps j a. last_grows s ps j a))

    pub spots_give : (o : Option Suffix) (ss : List Suffix) (parts : List Part) → AnyGrow parts
        → Gives (SpottedGrow P) (suffixes_spot place k o ss around scope base parts held)
    spots_give None ss parts h =
        gives_bind (λ t. Unit {0}) (SpottedGrow P) (wrong place) (λ t. give None) (any (wrong place)) (λ t u. gives_back (SpottedGrow P) None tt)
    spots_give (Some s) ss parts h =
        gives_bind PassedGrow (SpottedGrow P) (suffixes_walk true ss around scope parts held) (then_on (last_suffix k s around scope base held))
        (suffixes_give ss parts held h) (then_gives (SpottedGrow P) tt (last_suffix k s around scope base held) (λ ps j a. last_gives s ps j a))

-- parts that are fine do
pub grow_of : (q : Scene) (w : World Item) (around : Around) (scope : Scope) (ps : List Part) (us : List (Run Item Item)) → AllFine q w ps us
    → AnyGrow around scope ps
grow_of q w around scope [] [] h = tt
grow_of q w around scope (p ∷ ps) (u ∷ us) h = (h.0.grows around scope, grow_of q w around scope ps us h.1)
grow_of q w around scope [] (u ∷ us) h = absurd h
grow_of q w around scope (p ∷ ps) [] h = absurd h
