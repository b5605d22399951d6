-- Tuples of targets: what was in force still is.
use Rattle.std.proofs.Common.{ℕ, Bool, List, [], ◌∷◌}
use Rattle.std.proofs.Common.{drop, take, Option, Some, None, arith}
use Rattle.sail_base.specs.declared.place.Place.{Place}
use Rattle.model_state.specs.declared.state.Register.{Register}
use Rattle.sail_core.specs.declared.targets.Caller.{Caller}
use Rattle.sail_core.specs.declared.targets.TargetKind.TheVariants as T
use Rattle.value_indices.specs.Steps.{Walk, bind, give, scoped}
use Rattle.value_indices.specs.declared.indices.Indices.{Indices, out-Indices}
use Rattle.value_indices.specs.declared.indices.Indices.TheOpen as W
use Rattle.value_indices.specs.declared.indices.Indices.TheOpen.{Indices-F}
use Rattle.value_indices.specs.declared.indices.Indices.TheVariants as I
use Rattle.value_indices.specs.declared.indices.Reading.{Reading}
use Rattle.value_indices.specs.declared.notes.Fact.{Fact}
use Rattle.value_fits.specs.Fitting.{joined, says}
use Rattle.value_fits.specs.declared.fitted.Fitted.{Fitted}
use Rattle.fitting_laws.proofs.Counted.{Counts}
use Rattle.pattern_leaves.specs.Settings.{Around, Scope}
use Rattle.pattern_leaves.specs.declared.names.Held.{Held}
use Rattle.pattern_leaves.specs.declared.names.Held.TheVariants as H
use Rattle.call_notes.specs.Calls.{callee_types}
use Rattle.call_notes.specs.Ends.{fits_unless, wrong_value}
use Rattle.expression_forms.specs.Nodes.{put}
use Rattle.expression_forms.specs.Spots as Walked
use Rattle.expression_forms.specs.Spots.{Spot, both_left, both_wrote, call_spot, call_written, each_written, held_spot, named_spot, parts_nested, register_spot}
use Rattle.expression_forms.specs.Spots.{tuple_spot, tuple_write, wrong_spot, wrote}
use Rattle.expression_steps.specs.Calls.{argument_aims, nestings}
use Rattle.expression_steps.specs.Parts.{Part, each_walk}
use Rattle.expression_steps.specs.Targets.{Spotted, SpottedAll, Spotting, call_spotted, each_spot, kind_spot}
use Rattle.expression_steps.specs.Targets.{spotted, spotted_all, then_spot, with_spot}
use Rattle.soundness_steps.specs.Steps.{Grows}
use Rattle.soundness_forms.proofs.Growth.{grows_bind, grows_give, grows_scoped, grows_wrong}
use Rattle.soundness_parts.proofs.PartGrowth.{Gives, any, gives_back, gives_bind, grows_bind_at}
use Rattle.soundness_targets.proofs.CallGrowth.{each_grows, left_counts, says_counts, taken_grow, written_grow}
use Rattle.soundness_targets.proofs.TargetGrowth.{AnyGrow, SpottedGrow, left_grow}
use Rattle.soundness_targets.proofs.WriteGrowth.{put_grows, puts_count, wrong_count}

-- ---- what is written to a part of a tuple

abbrev pub WriteGrows : Spot → Type 0
WriteGrows s = (nested : Bool) (i : Indices) → Grows (s.write nested i) × ((facts : List Fact) (m : ℕ) → Counts (s.write nested i facts m).value.left)

abbrev pub AllWriteGrow : List Spot → Type 0
AllWriteGrow [] = Unit {0}
AllWriteGrow (s ∷ ss) = WriteGrows s × AllWriteGrow ss

pub wrong_write_grows : (at : Place) → WriteGrows (wrong_spot at)
wrong_write_grows at nested i = (
  grows_bind (wrong_value at) Walked.gives (grows_wrong at) (λ j. grows_give (wrote (says []) j)),
  λ facts m. wrong_count at facts m,
)

named_write_grows : (around : Around) (at : Place) (k : ℕ) (name : List ℕ) (r : Reading) → WriteGrows (named_spot around at k name r)
named_write_grows around at k name r nested i =
    let left = wrote (fits_unless nested around i r) I.Unit in (
      grows_bind (put k (i ∷ []) r i) (λ t. give left) (put_grows k (i ∷ []) r i) (λ t. grows_give left),
      λ facts m. puts_count around nested k r i facts m,
    )

pub held_write_grows : (around : Around) (at : Place) (k : ℕ) (name : List ℕ) (o : Option Held) → WriteGrows (held_spot around at k name o)
held_write_grows around at k name None = wrong_write_grows at
held_write_grows around at k name (Some (H.Value i)) = wrong_write_grows at
held_write_grows around at k name (Some (H.Var r)) = named_write_grows around at k name r

pub register_write_grows : (around : Around) (at : Place) (k : ℕ) (o : Option Register) → WriteGrows (register_spot around at k o)
register_write_grows around at k None = wrong_write_grows at
register_write_grows around at k (Some r) = named_write_grows around at k r.name _

pub call_write_grows : (around : Around) (at : Place) (k : ℕ) (reader : Option Caller) (writer : Caller) (bs : List Bool) (is : List Indices)
    → WriteGrows (call_spot around at k reader writer bs is)
call_write_grows around at k reader writer bs is nested i = (
  grows_bind (call_written around at k writer bs is nested i) Walked.gives (written_grow around at k reader writer bs is nested i) (λ a.
      grows_give (wrote (says []) a)),
  λ facts m. left_counts around at k reader writer bs is nested i facts m,
)

both_count : (a b : ℕ → Fitted) → Counts a → Counts b → Counts (both_left a b)
unfolding joined
both_count a b h k = λ n. let x = h n in let y = k (a n).next in omega arith

module _ (at : Place) where
  all_write_grow : (ss : List Spot) → AllWriteGrow ss → (nested : Bool) (is : List Indices) → Grows (each_written at ss nested is)
  all_write_grow [] h nested [] = grows_give (wrote (says []) I.Unit)
  all_write_grow [] h nested (i ∷ is) = (wrong_write_grows at nested i).0
  all_write_grow (s ∷ ss) h nested [] = (wrong_write_grows at nested I.Unit).0
  all_write_grow (s ∷ ss) h nested (i ∷ is) =
      grows_bind (scoped (s.write nested i)) (λ a. bind (each_written at ss nested is) (λ b. give (both_wrote a b)))
      (grows_scoped (s.write nested i) (h.0 nested i).0) (λ a.
      grows_bind (each_written at ss nested is) (λ b. give (both_wrote a b)) (all_write_grow ss h.1 nested is) (λ b. grows_give (both_wrote a b)))

  all_count : (ss : List Spot) → AllWriteGrow ss → (nested : Bool) (is : List Indices) (facts : List Fact) (m : ℕ)
      → Counts (each_written at ss nested is facts m).value.left
  unfolding bind give scoped
  all_count [] h nested [] facts m = says_counts
  all_count [] h nested (i ∷ is) facts m = wrong_count at facts m
  all_count (s ∷ ss) h nested [] facts m = wrong_count at facts m
  all_count (s ∷ ss) h nested (i ∷ is) facts m =
      both_count (s.write nested i facts m).value.left (each_written at ss nested is facts (s.write nested i facts m).next).value.left
      ((h.0 nested i).1 facts m) (all_count ss h.1 nested is facts (s.write nested i facts m).next)

  module _ (ss : List Spot) (h : AllWriteGrow ss) where
    form_write_grows : (nested : Bool) (form : Indices-F Indices Reading) → Grows (tuple_write at ss nested form)
    form_write_grows nested (W.Tuple is) = all_write_grow ss h (parts_nested ss nested) is
    form_write_grows nested W.Never = grows_give (wrote (says []) I.Unit)
    form_write_grows nested form = (wrong_write_grows at nested I.Unit).0

    given_count : (facts : List Fact) (m : ℕ) → Counts (Walked.gives I.Unit facts m).value.left
    unfolding give
    given_count facts m = says_counts

    form_counts : (nested : Bool) (form : Indices-F Indices Reading) (facts : List Fact) (m : ℕ) → Counts (tuple_write at ss nested form facts m).value.left
    form_counts nested (W.Tuple is) facts m = all_count ss h (parts_nested ss nested) is facts m
    form_counts nested W.Never facts m = given_count facts m
    form_counts nested form facts m = wrong_count at facts m

    pub tuple_write_grows : (k : ℕ) → WriteGrows (tuple_spot at k ss)
    tuple_write_grows k nested i = (form_write_grows nested (out-Indices i), λ facts m. form_counts nested (out-Indices i) facts m)

-- ---- such targets

module _ (around : Around) (scope : Scope) where
  abbrev pub MemberGrows : (List Part → Walk (Option Spotted)) → Type 0
  MemberGrows t = (ps : List Part) → AnyGrow around scope ps → Grows (t ps) × Gives (SpottedGrow around scope WriteGrows) (t ps)

  abbrev pub AllGrown : Option SpottedAll → Type 0
  AllGrown None = Unit {0}
  AllGrown (Some all) = AnyGrow around scope all.left × AllWriteGrow all.spots

  abbrev pub AllMembersGrow : List Spotting → Type 0
  AllMembersGrow ts = (ps : List Part) → AnyGrow around scope ps → Grows (each_spot ts around scope ps) × Gives AllGrown (each_spot ts around scope ps)

  pub call_member : (at : Place) (k count : ℕ) (reader : Option Caller) (writer : Caller)
      → MemberGrows (kind_spot at k (T.Call count reader writer) [] around scope)
  call_member at k count reader writer ps grow =
      let arguments : Walk (List Indices) = each_walk (take count ps) around scope (argument_aims (callee_types around writer.callee)) in
      let next : List Indices → Walk (Option Spotted) = call_spotted around at k count reader writer ps in (
        grows_bind arguments next (each_grows around scope (take count ps) (argument_aims (callee_types around writer.callee))
            (taken_grow around scope count ps grow))
            (λ is. grows_give (next_spot is)),
        gives_bind (λ is. Unit {0}) (SpottedGrow around scope WriteGrows) arguments next (any arguments) (λ is u.
            gives_back (SpottedGrow around scope WriteGrows) (next_spot is)
            (left_grow around scope count ps grow, call_write_grows around at k reader writer (nestings (take count ps)) is)),
      )
    where
      next_spot : List Indices → Option Spotted
      next_spot is = spotted (call_spot around at k reader writer (nestings (take count ps)) is) (drop count ps)

  -- ---- several, one after the other

  pub none_grow : AllMembersGrow []
  none_grow ps grow = (grows_give (spotted_all [] ps), gives_back AllGrown (spotted_all [] ps) (grow, tt))

  module _ (t : Spotting) (ts : List Spotting) (h : MemberGrows (t around scope)) (more : AllMembersGrow ts) where
    abbrev others : Spot → List Part → Walk (Option SpottedAll)
    others s left = bind (each_spot ts around scope left) (with_spot s)

    with_grows : (s : Spot) (o : Option SpottedAll) → Grows (with_spot s o)
    with_grows s None = grows_give None
    with_grows s (Some all) = grows_give (spotted_all (s ∷ all.spots) all.left)

    with_gives : (s : Spot) → WriteGrows s → (o : Option SpottedAll) → AllGrown o → Gives AllGrown (with_spot s o)
    with_gives s w None e = gives_back AllGrown None tt
    with_gives s w (Some all) e = gives_back AllGrown (spotted_all (s ∷ all.spots) all.left) (e.0, (w, e.1))

    next_grows : (o : Option Spotted) → SpottedGrow around scope WriteGrows o → Grows (then_spot others o)
    next_grows None e = grows_give None
    next_grows (Some s) e = grows_bind (each_spot ts around scope s.left) (with_spot s.spot) (more s.left e.0).0 (with_grows s.spot)

    next_gives : (o : Option Spotted) → SpottedGrow around scope WriteGrows o → Gives AllGrown (then_spot others o)
    next_gives None e = gives_back AllGrown None tt
    next_gives (Some s) e =
        gives_bind AllGrown AllGrown (each_spot ts around scope s.left) (with_spot s.spot) (more s.left e.0).1 (with_gives s.spot e.1)

    pub more_grow : AllMembersGrow (t ∷ ts)
    more_grow ps grow = (
      grows_bind_at (SpottedGrow around scope WriteGrows) (t around scope ps) (then_spot others) (h ps grow).1 (h ps grow).0 next_grows,
      gives_bind (SpottedGrow around scope WriteGrows) AllGrown (t around scope ps) (then_spot others) (h ps grow).1 next_gives,
    )
