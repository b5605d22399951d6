-- What a way reaches, and what is read of it, hangs on no facts and notes no number; so it is with the ways into what a call gives.
use Rattle.std.proofs.Common.{ℕ, Bool, true, false, List, [], ◌∷◌, Option, Some, None, if◌then◌else◌}
use Rattle.std.specs.Prelude.{length, slice_get, take, ◌-◌}
use Rattle.sail_base.specs.declared.place.Place.{Place}
use Rattle.sail_types.specs.declared.numbers.Con.TheVariants as C
use Rattle.sail_types.specs.declared.numbers.Num.{Num}
use Rattle.sail_core.specs.declared.targets.Suffix.{Suffix}
use Rattle.sail_core.specs.declared.targets.Way.{Way}
use Rattle.sail_core.specs.declared.targets.Way.TheVariants as Y
use Rattle.value_indices.specs.Steps.{give, owe, wrong}
use Rattle.value_indices.specs.declared.indices.Indices.{Indices, out-Indices}
use Rattle.value_indices.specs.declared.indices.Indices.TheVariants as I
use Rattle.pattern_leaves.specs.Settings.{Around}
use Rattle.call_notes.specs.Ends.{is_never, never_value, opened_at, wrong_value}
use Rattle.expression_forms.specs.Ways.{if_never_value, into_field, into_item, part_read, read_into, slice_width, suffix_read, with_width}
use Rattle.expression_forms.specs.declared.ways.Ends.{Ends}
use Rattle.expression_forms.specs.declared.ways.Reached.{Reached}
use Rattle.expression_steps.specs.Targets.{Onward, its_numbers, last_late, onward_to, other_numbers, part_late, read_late, suffixes_late}
use Rattle.expression_steps.specs.Values.{reached_by, slice_between, slice_reached}
use Rattle.expression_steps.specs.declared.late.Late.{Late}
use Rattle.soundness_targets.proofs.FreeCalls.{opened_at_quiet}
use Rattle.soundness_targets.proofs.FreeOpenings.{number_quiet}
use Rattle.soundness_targets.proofs.FreeWalks.{Quiet, bind_quiet, give_quiet, owe_quiet, wrong_quiet}

-- ---- what a way reaches

slice_reached_quiet : (i : Indices) (o : Option Ends) → Quiet (slice_reached i o)
slice_reached_quiet i None = give_quiet None
slice_reached_quiet i (Some e) = give_quiet _

slice_quiet : (i : Indices) (high low : Num) → Quiet (slice_between i high low)
slice_quiet i high low =
    bind_quiet (with_width high low) (slice_reached i) (bind_quiet _ _ (number_quiet (slice_width high low)) (λ w. give_quiet _)) (slice_reached_quiet i)

pub reached_quiet : (around : Around) (i : Indices) (way : Way) (ns : List Num) → Quiet (reached_by around i way ns)
reached_quiet around i (Y.Field u k) ns = give_quiet (into_field around u k (out-Indices i))
reached_quiet around i Y.Item (n ∷ []) = give_quiet (into_item n (out-Indices i))
reached_quiet around i Y.Item [] = give_quiet None
reached_quiet around i Y.Item (n ∷ m ∷ ns) = give_quiet None
reached_quiet around i Y.Slice (high ∷ low ∷ []) = slice_quiet i high low
reached_quiet around i Y.Slice [] = give_quiet None
reached_quiet around i Y.Slice (high ∷ []) = give_quiet None
reached_quiet around i Y.Slice (high ∷ low ∷ n ∷ ns) = give_quiet None

-- ---- what is read of it

none_there_quiet : (place : Place) (i : Indices) → Quiet (if_never_value place i)
none_there_quiet place i = by (is_never i)
  where
    by : (b : Bool) → Quiet (if b then never_value else wrong_value place)
    by true = give_quiet I.Never
    by false = wrong_quiet place

pub part_read_quiet : (place : Place) (x : Reached) → Quiet (part_read place x)
part_read_quiet place x = bind_quiet (owe place x.conditions) (λ t. opened_at place x.typ) (owe_quiet place x.conditions) (λ t. opened_at_quiet place x.typ)

read_into_quiet : (place : Place) (i : Indices) (o : Option Reached) → Quiet (read_into place i o)
read_into_quiet place i None = none_there_quiet place i
read_into_quiet place i (Some x) = part_read_quiet place x

suffix_read_quiet : (place : Place) (k : ℕ) (i : Indices) (o : Option Reached) → Quiet (suffix_read true place k i o)
suffix_read_quiet place k i o = read_into_quiet place i o

-- ---- parts of what is there late

read_late_quiet : (around : Around) (ss : List Suffix) (ns : List Num) (i : Indices) → Quiet (read_late around ss ns i)
read_late_quiet around [] ns i = give_quiet (onward_to ns i)
read_late_quiet around (s ∷ ss) ns i =
    bind_quiet (reached_by around i s.way (its_numbers s ns)) _ (reached_quiet around i s.way (its_numbers s ns)) (λ x.
    bind_quiet (suffix_read true s.place s.number i x) _ (suffix_read_quiet s.place s.number i x) (read_late_quiet around ss (other_numbers s ns)))

last_late_quiet : (around : Around) (s : Suffix) (o : Onward) → Quiet (last_late around s o)
last_late_quiet around s o =
    bind_quiet (reached_by around o.value s.way (its_numbers s o.numbers)) _ (reached_quiet around o.value s.way (its_numbers s o.numbers)) (λ x. give_quiet _)

suffixes_late_quiet : (place : Place) (around : Around) (o : Option Suffix) (ss : List Suffix) (ns : List Num) (held : Indices)
    → Quiet (suffixes_late place around o ss ns held)
suffixes_late_quiet place around None ss ns held =
    bind_quiet (wrong place) (λ t. give {A = Option Late} None) (owe_quiet place (Some (C.Truth false) ∷ [])) (λ t. give_quiet None)
suffixes_late_quiet place around (Some s) ss ns held =
    bind_quiet (read_late around ss ns held) (last_late around s) (read_late_quiet around ss ns held) (last_late_quiet around s)

pub part_late_quiet : (place : Place) (ss : List Suffix) (around : Around) (ns : List Num) (held : Indices) → Quiet (part_late place ss around ns held)
part_late_quiet place ss around ns held =
    suffixes_late_quiet place around (slice_get ss (length ss - 1)) (take (length ss - 1) ss) ns held
