-- A part of a name that is written goes on, and what it leaves to owe counts on.
use Rattle.std.proofs.Common.{ℕ, Bool, true, false, List, [], ◌∷◌, Option, Some, None}
use Rattle.std.proofs.Common.{arith}
use Rattle.sail_base.specs.declared.place.Place.{Place}
use Rattle.sail_types.specs.Zero.{deepest}
use Rattle.model_state.specs.declared.state.Register.{Register}
use Rattle.sail_core.specs.declared.targets.Way.{Way}
use Rattle.sail_core.specs.declared.tree.Giver.TheVariants as By
use Rattle.value_indices.specs.Steps.{Walk, bind, give}
use Rattle.value_indices.specs.declared.indices.Indices.{Indices}
use Rattle.value_indices.specs.declared.indices.Indices.TheVariants as I
use Rattle.value_indices.specs.declared.indices.Reading.{Reading}
use Rattle.value_indices.specs.declared.notes.Fact.{Fact}
use Rattle.value_fits.specs.Fitting.{joined, says}
use Rattle.fitting_laws.proofs.Counted.{Counts, fits_count}
use Rattle.pattern_leaves.specs.Settings.{Around}
use Rattle.pattern_leaves.specs.declared.names.Held.{Held}
use Rattle.pattern_leaves.specs.declared.names.Held.TheVariants as H
use Rattle.call_notes.specs.Noted.{numbers_given, numbers_noted}
use Rattle.value_indices.specs.Steps.{given_note, note}
use Rattle.expression_forms.specs.Nodes.{put}
use Rattle.expression_forms.specs.Spots.{Spot, gives, held_spot, named_spot, owes_itself, part_left, part_put, part_spot, part_write}
use Rattle.expression_forms.specs.Spots.{register_spot, rewritten, wrong_spot, wrote}
use Rattle.expression_forms.specs.Ways.{owe_part, part_fits}
use Rattle.expression_forms.specs.declared.ways.Reached.{Reached}
use Rattle.soundness_steps.specs.Noted.{variables_given}
use Rattle.soundness_steps.specs.Steps.{Grows}
use Rattle.soundness_forms.proofs.Giving.{gives_all}
use Rattle.soundness_forms.proofs.Growth.{grows_bind, grows_give, grows_gives, grows_named, grows_note, grows_owe_fit, grows_wrong}
use Rattle.soundness_targets.proofs.CallGrowth.{says_counts}
use Rattle.soundness_targets.proofs.WriteGrowth.{put_grows}
use Rattle.soundness_targets.proofs.TupleGrowth.{WriteGrows}
use Rattle.soundness_targets.proofs.TupleGrowth.{wrong_write_grows}

pub noted_grows : (k : ℕ) (i : Indices) → Grows (numbers_noted k i)
noted_grows k i =
    grows_bind (note (λ facts. given_note facts (By.Node k) i)) (λ t. numbers_given i) (grows_note (λ facts. given_note facts (By.Node k) i)) (λ t.
    grows_gives (numbers_given i) (variables_given i) (gives_all i))

pub part_counts : (around : Around) (x : Reached) (nested : Bool) (i : Indices) → Counts (part_fits around x nested i)
unfolding joined
part_counts around x true i = λ n. omega arith
part_counts around x false i = λ n. fits_count around.types deepest i x.typ n

module _ (around : Around) where
  -- how the base of a part is written again
  abbrev pub Renews : Spot → Type 0
  Renews s = (i : Indices) → Grows (s.given i) × Grows (s.renew i)

  pub named_renews : (at : Place) (k : ℕ) (name : List ℕ) (r : Reading) → Renews (named_spot around at k name r)
  named_renews at k name r i = (noted_grows k i, grows_give I.Unit)

  wrong_renews : (at : Place) → Renews (wrong_spot at)
  wrong_renews at i = (grows_give tt, grows_wrong at)

  module _ (at : Place) (k : ℕ) (base : Spot) (renews : Renews base) (held : Indices) (x : Reached) where
    abbrev pub again : Walk Indices
    again = rewritten base held

    pub again_grows : Grows again
    again_grows = grows_bind (base.given held) (λ t. base.renew held) (renews held).0 (λ t. (renews held).1)

    pub write_grows : (owes nested : Bool) (i : Indices) → Grows (part_write around at owes x again nested i)
    write_grows true nested i =
        grows_bind (owe_part around at x nested i) (λ t. bind again gives)
        (grows_owe_fit at (part_fits around x nested i) (part_counts around x nested i)) (λ t.
        grows_bind again gives again_grows (λ j. grows_give (wrote (says []) j)))
    write_grows false nested i =
        grows_bind again (part_left around x nested i) again_grows (λ j. grows_give (wrote (part_fits around x nested i) j))

    write_counts : (owes nested : Bool) (i : Indices) (facts : List Fact) (n : ℕ) → Counts (part_put around at k owes x again nested i facts n).value.left
    unfolding bind give
    write_counts true nested i facts n = says_counts
    write_counts false nested i facts n = part_counts around x nested i

    put_write_grows : (owes nested : Bool) (i : Indices) → Grows (part_put around at k owes x again nested i)
    put_write_grows owes nested i =
        grows_bind (put k (i ∷ []) x.typ i) (λ t. part_write around at owes x again nested i) (put_grows k (i ∷ []) x.typ i) (λ t. write_grows owes nested i)

  pub part_write_grows : (at : Place) (k : ℕ) (way : Way) (base : Spot) → Renews base → (held : Indices) (o : Option Reached)
      → WriteGrows (part_spot around at k way base held o)
  part_write_grows at k way base renews held None nested i = wrong_write_grows at nested i
  part_write_grows at k way base renews held (Some x) nested i = (
    put_write_grows at k base renews held x (owes_itself way) nested i,
    λ facts m. write_counts at k base renews held x (owes_itself way) nested i facts m,
  )

  -- ---- names

  pub record BaseGrows (s : Spot) : Type 0 where
    pub renews : Renews s
    pub reads : Grows s.read

  named_base : (at : Place) (k : ℕ) (name : List ℕ) (r : Reading) → BaseGrows (named_spot around at k name r)
  named_base at k name r = record { renews = named_renews at k name r; reads = grows_named at k name r }

  pub wrong_base : (at : Place) → BaseGrows (wrong_spot at)
  wrong_base at = record { renews = wrong_renews at; reads = grows_wrong at }

  pub held_base : (at : Place) (k : ℕ) (name : List ℕ) (o : Option Held) → BaseGrows (held_spot around at k name o)
  held_base at k name None = wrong_base at
  held_base at k name (Some (H.Value i)) = wrong_base at
  held_base at k name (Some (H.Var r)) = named_base at k name r

  pub register_base : (at : Place) (k : ℕ) (o : Option Register) → BaseGrows (register_spot around at k o)
  register_base at k None = wrong_base at
  register_base at k (Some r) = named_base at k r.name _
