-- The walk over a part of what is there late counts variables on, and so does what is written to it.
use Rattle.std.proofs.Common.{ℕ, Bool, true, false, List, [], ◌∷◌, ◌++◌, ◌-◌, ◌&&◌, drop, if◌then◌else◌, length, slice_get, take}
use Rattle.std.proofs.Common.{Option, Some, None, refl, sym, arith}
use Rattle.std.proofs.lemmas.List.{append-nil}
use Rattle.std.specs.Prelude.{replicate}
use Rattle.sail_base.specs.declared.place.Place.{Place}
use Rattle.sail_types.specs.declared.numbers.Num.{Num}
use Rattle.sail_core.specs.declared.targets.Caller.{Caller}
use Rattle.sail_core.specs.declared.targets.Suffix.{Suffix}
use Rattle.value_indices.specs.Steps.{Walk, bind, give, next_variable, scoped}
use Rattle.value_indices.specs.declared.indices.Indices.{Indices}
use Rattle.value_indices.specs.declared.indices.Reading.TheVariants as R
use Rattle.value_indices.specs.declared.notes.Fact.{Fact}
use Rattle.fitting_laws.proofs.Counted.{Counts}
use Rattle.pattern_leaves.specs.Settings.{Around, Scope}
use Rattle.call_arguments.specs.Holes.{value_has_hole}
use Rattle.call_notes.specs.Noted.{node_given}
use Rattle.expression_forms.specs.Nodes.{put}
use Rattle.expression_forms.specs.Spots.{Spot, answered, asked_with, call_renewed, call_spot, in_force, is_late_wanted, known_from, late_part}
use Rattle.expression_forms.specs.Spots.{late_put, late_spot, wrong_spot}
use Rattle.expression_forms.specs.Spots.{rewritten}
use Rattle.expression_forms.specs.Spots as Walked
use Rattle.expression_forms.specs.declared.spots.Known.{Known}
use Rattle.expression_forms.specs.declared.ways.Reached.{Reached}
use Rattle.expression_steps.specs.Parts.{Part, numbers_walk}
use Rattle.expression_steps.specs.Targets.{Onward, Spotted, ahead, each_late, its_numbers, known_late, last_late, late_count, late_reached}
use Rattle.expression_steps.specs.Targets.{late_place, late_spotted, numbered_late, onward_to, other_numbers, part_late, read_ahead}
use Rattle.expression_steps.specs.Targets.{read_late}
use Rattle.expression_steps.specs.Targets.{suffixes_late, ways_late}
use Rattle.expression_steps.specs.Values.{reached_by}
use Rattle.expression_steps.specs.declared.late.Ahead.{Ahead}
use Rattle.expression_steps.specs.declared.late.Late.{Late}
use Rattle.expression_forms.specs.Ways.{suffix_read}
use Rattle.soundness_steps.specs.Steps.{Grows}
use Rattle.soundness_forms.proofs.Growth.{grows_bind, grows_give, grows_given, grows_scoped, grows_wrong}
use Rattle.soundness_parts.proofs.PartGrowth.{Gives, any, first_grow, gives_back, gives_bind, none_grows, numbers_grow, reached_grows}
use Rattle.soundness_targets.proofs.CallGrowth.{called_grows, says_counts}
use Rattle.soundness_targets.proofs.PartGrows.{BaseGrows, Renews, noted_grows, write_grows}
use Rattle.soundness_targets.proofs.TargetGrowth.{AnyGrow, SpottedGrow, free_grow, into_grows, left_grow}
use Rattle.soundness_targets.proofs.TupleGrowth.{WriteGrows, wrong_write_grows}
use Rattle.soundness_targets.proofs.WriteGrowth.{put_grows}

next_grows : Grows next_variable
unfolding next_variable
next_grows = record { onward = λ facts n. omega arith; more = λ facts n. []; extends = λ facts n. sym (append-nil facts) }

in_force_grows : (fs : List Fact) → Grows (in_force fs)
unfolding in_force
in_force_grows fs = record { onward = λ facts n. omega arith; more = λ facts n. fs; extends = λ facts n. refl }

-- ---- a call, as the base of a part

module _ (around : Around) (at : Place) (k : ℕ) where
  reader_grows : (reader : Option Caller) (bs : List Bool) (is : List Indices) → Grows (Walked.asked around at reader bs is)
  reader_grows None bs is = grows_wrong at
  reader_grows (Some c) bs is = called_grows around at c.number c.callee bs is

  given_grows : (reader : Option Caller) (i : Indices) → Grows (Walked.reader_given reader i)
  given_grows None i = grows_give tt
  given_grows (Some c) i = noted_grows c.number i

  renewed_grows : (writer : Caller) (bs : List Bool) (is : List Indices) (i : Indices) → Grows (call_renewed around at k writer bs is i)
  renewed_grows writer bs is i =
      grows_bind (put k [] R.Hole i) (λ t. answered around at writer bs is false i) (put_grows k [] R.Hole i) (λ t.
      grows_bind (asked_with around at writer bs is false i) (node_given writer.number)
      (called_grows around at writer.number writer.callee (bs ++ false ∷ []) (is ++ i ∷ [])) (λ a. grows_given writer.number a))

  pub call_base : (reader : Option Caller) (writer : Caller) (bs : List Bool) (is : List Indices)
      → BaseGrows around (call_spot around at k reader writer bs is)
  call_base reader writer bs is = record {
    renews = λ i. (given_grows reader i, renewed_grows writer bs is i);
    reads = reader_grows reader (replicate (length is) false) is;
  }

module _ (around : Around) where
  -- ---- ways into what is there late

  read_late_grows : (ss : List Suffix) (ns : List Num) (i : Indices) → Grows (read_late around ss ns i)
  read_late_grows [] ns i = grows_give (onward_to ns i)
  read_late_grows (s ∷ ss) ns i =
      grows_bind (reached_by around i s.way (its_numbers s ns)) _ (reached_grows around i s.way (its_numbers s ns)) (λ x.
      grows_bind (suffix_read true s.place s.number i x) _ (into_grows s.place i x) (read_late_grows ss (other_numbers s ns)))

  last_late_grows : (s : Suffix) (o : Onward) → Grows (last_late around s o)
  last_late_grows s o =
      grows_bind (reached_by around o.value s.way (its_numbers s o.numbers)) _ (reached_grows around o.value s.way (its_numbers s o.numbers)) (λ x.
      grows_give (Some (late_reached s x)))

  suffixes_late_grows : (at : Place) (o : Option Suffix) (ss : List Suffix) (ns : List Num) (held : Indices) → Grows (suffixes_late at around o ss ns held)
  suffixes_late_grows at None ss ns held = none_grows at
  suffixes_late_grows at (Some s) ss ns held =
      grows_bind (read_late around ss ns held) (last_late around s) (read_late_grows ss ns held) (last_late_grows s)

  pub part_late_grows : (at : Place) (ss : List Suffix) (ns : List Num) (held : Indices) → Grows (part_late at ss around ns held)
  part_late_grows at ss ns held = suffixes_late_grows at (slice_get ss (length ss - 1)) (take (length ss - 1) ss) ns held

  -- ---- what is written

  module _ (at : Place) (k : ℕ) (base : Spot) (renews : Renews around base) (held : Indices) (x : Reached) where
    abbrev again : Walk Indices
    again = rewritten base held

    late_counts : (known : Known) (nested : Bool) (i : Indices) (facts : List Fact) (m : ℕ)
        → Counts (late_put around at k x known again nested i facts m).value.left
    unfolding bind give
    late_counts known nested i facts m = says_counts

    late_put_grows : (known : Known) (nested : Bool) (i : Indices) → Grows (late_put around at k x known again nested i)
    late_put_grows known nested i =
        grows_bind (put k (i ∷ []) R.Hole i) _ (put_grows k (i ∷ []) R.Hole i) (λ t.
        grows_bind (in_force known.facts) _ (in_force_grows known.facts) (λ u.
        write_grows around at k base renews held x true (nested && is_late_wanted known.before x.typ) i))

  pub late_spot_grows : (at : Place) (k : ℕ) (base : Spot) → Renews around base → (held : Indices) (x : Reached) (known : Known)
      → WriteGrows (late_spot around at k base held x known)
  late_spot_grows at k base renews held x known nested i = (
    late_put_grows at k base renews held x known nested i,
    λ facts m. late_counts at k base renews held x known nested i facts m,
  )

  pub late_part_grows : (at : Place) (k : ℕ) (base : Spot) → Renews around base → (held : Indices) (o : Option Reached) (known : Known)
      → WriteGrows (late_part around at k base held o known)
  late_part_grows at k base renews held None known nested i = wrong_write_grows at nested i
  late_part_grows at k base renews held (Some x) known nested i = by (value_has_hole held) nested i
    where
      by : (b : Bool) → WriteGrows (if b then wrong_spot at else late_spot around at k base held x known)
      by true is_nested j = wrong_write_grows at is_nested j
      by false is_nested j = late_spot_grows at k base renews held x known is_nested j

-- ---- the target

module _ (around : Around) (scope : Scope) where
  abbrev Spots : Option Spotted → Type 0
  Spots o = SpottedGrow around scope WriteGrows o

  module _ (at : Place) (k : ℕ) (ss : List Suffix) (base : Spot) (h : BaseGrows around base) where
    late_grown : (a : Ahead) (n : ℕ) (fs : List Fact) (left : List Part) → AnyGrow around scope left → (o : Option Late)
        → Spots (late_spotted at around k base a n fs left o)
    late_grown a n fs left grow None = tt
    late_grown a n fs left grow (Some l) = (grow, late_part_grows around (late_place at l) k base h.renews a.held l.reached _)

    ahead_grows : Grows (read_ahead base)
    ahead_grows =
        grows_bind next_variable _ next_grows (λ m. grows_bind (scoped base.read) _ (grows_scoped base.read h.reads) (λ held.
        grows_give (ahead m held (known_from m base.read))))

    ways_late_grows : (ns : List Num) (a : Ahead) → Grows (ways_late at ss around ns a)
    ways_late_grows ns a =
        grows_scoped _ (grows_bind (in_force a.facts) _ (in_force_grows a.facts) (λ t. part_late_grows around at ss ns a.held))

    known_late_grows : (a : Ahead) (left : List Part) (ns : List Num) → Grows (known_late at k ss around base a left ns)
    known_late_grows a left ns =
        grows_bind next_variable _ next_grows (λ n. grows_bind (ways_late at ss around ns a) _ (ways_late_grows ns a) (λ o.
        grows_give (late_spotted at around k base a n (known_from n (part_late at ss around ns a.held)) left o)))

    known_late_gives : (a : Ahead) (left : List Part) → AnyGrow around scope left → (ns : List Num) → Gives Spots (known_late at k ss around base a left ns)
    known_late_gives a left grow ns =
        gives_bind (λ n. Unit {0}) Spots next_variable _ (any next_variable) (λ n u.
        gives_bind (λ o. Unit {0}) Spots (ways_late at ss around ns a) _ (any (ways_late at ss around ns a)) (λ o v.
        gives_back Spots (late_spotted at around k base a n (known_from n (part_late at ss around ns a.held)) left o)
        (late_grown a n (known_from n (part_late at ss around ns a.held)) left grow o)))

    numbered_grows : (left : List Part) (a : Ahead) (o : Option (List Num)) → Grows (numbered_late at k ss around base left a o)
    numbered_grows left a None = grows_give None
    numbered_grows left a (Some ns) = known_late_grows a left ns

    numbered_gives : (left : List Part) → AnyGrow around scope left → (a : Ahead) (o : Option (List Num))
        → Gives Spots (numbered_late at k ss around base left a o)
    numbered_gives left grow a None = gives_back Spots None tt
    numbered_gives left grow a (Some ns) = known_late_gives a left grow ns

    pub each_late_grows : (ps : List Part) → AnyGrow around scope ps → Grows (each_late at k ss around scope base ps)
    each_late_grows ps grow =
        let c = late_count ss ps in
        grows_bind (read_ahead base) _ ahead_grows (λ a.
        grows_bind (numbers_walk (take c ps) around scope) (numbered_late at k ss around base (drop c ps) a)
        (numbers_grow around scope (take c ps) (first_grow around scope c ps (free_grow around scope ps grow))) (numbered_grows (drop c ps) a))

    pub each_late_gives : (ps : List Part) → AnyGrow around scope ps → Gives Spots (each_late at k ss around scope base ps)
    each_late_gives ps grow =
        let c = late_count ss ps in
        gives_bind (λ a. Unit {0}) Spots (read_ahead base) _ (any (read_ahead base)) (λ a u.
        gives_bind (λ o. Unit {0}) Spots (numbers_walk (take c ps) around scope) (numbered_late at k ss around base (drop c ps) a)
        (any (numbers_walk (take c ps) around scope)) (λ o v. numbered_gives (drop c ps) (left_grow around scope c ps grow) a o))
