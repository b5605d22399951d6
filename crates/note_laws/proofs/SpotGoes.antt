-- What is assigned to goes through no mapping but those of its parts.
use Rattle.std.specs.Prelude.{Bool, List, None, Option, Some, false, length, replicate, true, ℕ, [], ◌&&◌, ◌++◌, ◌∷◌}
use Rattle.sail_base.specs.declared.place.Place.{Place}
use Rattle.model_state.specs.declared.state.Register.{Register}
use Rattle.sail_core.specs.declared.targets.Caller.{Caller}
use Rattle.sail_core.specs.declared.targets.Way.{Way}
use Rattle.value_indices.specs.Steps.{Walk}
use Rattle.value_indices.specs.declared.indices.Indices.{Indices, out-Indices}
use Rattle.value_indices.specs.declared.indices.Indices.TheOpen as W
use Rattle.value_indices.specs.declared.indices.Indices.TheOpen.{Indices-F}
use Rattle.value_indices.specs.declared.indices.Indices.TheVariants as I
use Rattle.value_indices.specs.declared.indices.Reading.{Reading}
use Rattle.value_indices.specs.declared.indices.Reading.TheVariants as R
use Rattle.pattern_leaves.specs.Settings.{Around}
use Rattle.pattern_leaves.specs.declared.names.Held.{Held}
use Rattle.pattern_leaves.specs.declared.names.Held.TheVariants as H
use Rattle.call_arguments.specs.Holes.{value_has_hole}
use Rattle.expression_forms.specs.Names.{register_type}
use Rattle.expression_forms.specs.declared.spots.Known.{Known}
use Rattle.expression_forms.specs.declared.ways.Reached.{Reached}
use Rattle.expression_forms.specs.Spots.{gives, wrong_write, named_spot, wrong_spot, held_spot, register_spot, owes_itself, part_left, part_write, part_put}
use Rattle.expression_forms.specs.Spots.{rewritten, reached_spot, part_spot, asked, asked_with}
use Rattle.expression_forms.specs.Spots.{answered, reader_given, call_written, call_renewed, call_read, call_spot}
use Rattle.expression_forms.specs.Spots.{is_late_wanted, late_put, late_spot, late_part, each_read, each_written}
use Rattle.expression_forms.specs.Spots.{parts_nested, tuple_write, tuple_spot, owed_answer, written_by, Wrote, Spot}
use Rattle.note_laws.specs.Ways.{Told}
use Rattle.note_laws.proofs.Goes.{Goes, IsTabled, Every, SpotGoes, give_goes, bind_goes, in_force_goes, scoped_goes, owe_fit_goes, spot_if_goes}
use Rattle.note_laws.proofs.CallGoes.{called_goes}
use Rattle.note_laws.proofs.EndGoes.{wrong_value_goes}
use Rattle.note_laws.proofs.FormGoes.{put_goes}
use Rattle.note_laws.proofs.NameGoes.{named_read_goes}
use Rattle.note_laws.proofs.NodeGoes.{node_ended_goes, node_given_goes, numbers_noted_goes}
use Rattle.note_laws.proofs.WayGoes.{owe_part_goes, part_made_goes}

module _ (told : Told) where
  pub owed_answer_goes : (place : Place) (w : Wrote) → Goes told (owed_answer place w)
  owed_answer_goes place w = bind_goes told _ _ (owe_fit_goes told place w.left) (λ t. give_goes told _)

  pub written_by_goes : (place : Place) (s : Spot) → SpotGoes told s → (is_nested : Bool) (i : Indices) → Goes told (written_by place s is_nested i)
  written_by_goes place s s_go is_nested i = bind_goes told _ _ (s_go.write is_nested i) (owed_answer_goes place)

  pub named_spot_goes : (around : Around) (place : Place) (k : ℕ) (name : List ℕ) (r : Reading) → SpotGoes told (named_spot around place k name r)
  named_spot_goes around place k name r =
      record {
        read = named_read_goes told place k name r;
        given = numbers_noted_goes told k;
        write = λ is_nested i. bind_goes told _ _
            (put_goes told k (i ∷ []) r i) (λ t. give_goes told _);
        renew = λ i. give_goes told _;
      }

  pub gives_goes : (i : Indices) → Goes told (gives i)
  gives_goes i = give_goes told _

  pub wrong_write_goes : (place : Place) → Goes told (wrong_write place)
  wrong_write_goes place = bind_goes told _ _ (wrong_value_goes told place) gives_goes

  pub wrong_spot_goes : (place : Place) → SpotGoes told (wrong_spot place)
  wrong_spot_goes place =
      record {
        read = wrong_value_goes told place;
        given = λ i. give_goes told _;
        write = λ is_nested i. wrong_write_goes place;
        renew = λ i. wrong_value_goes told place;
      }

  pub held_spot_goes : (around : Around) (place : Place) (k : ℕ) (name : List ℕ) (held : Option Held) → SpotGoes told (held_spot around place k name held)
  held_spot_goes around place k name (Some (H.Var r)) = named_spot_goes around place k name r
  held_spot_goes around place k name held = wrong_spot_goes place

  pub register_spot_goes : (around : Around) (place : Place) (k : ℕ) (r : Option Register) → SpotGoes told (register_spot around place k r)
  register_spot_goes around place k None = wrong_spot_goes place
  register_spot_goes around place k (Some r) = named_spot_goes around place k r.name (register_type r)

  pub asked_goes : (around : Around) (tabled : IsTabled told around) (place : Place) (c : Option Caller) (bs : List Bool) (is : List Indices)
      → Goes told (asked around place c bs is)
  asked_goes around tabled place None bs is = wrong_value_goes told place
  asked_goes around tabled place (Some c) bs is = called_goes told around tabled place c.number c.callee bs is

  pub call_read_goes : (around : Around) (tabled : IsTabled told around) (place : Place) (reader : Option Caller) (is : List Indices)
      → Goes told (call_read around place reader is)
  call_read_goes around tabled place reader is = asked_goes around tabled place reader (replicate (length is) false) is

  pub reader_given_goes : (c : Option Caller) (i : Indices) → Goes told (reader_given c i)
  reader_given_goes None i = give_goes told _
  reader_given_goes (Some c) i = numbers_noted_goes told c.number i

  pub asked_with_goes : (around : Around) (tabled : IsTabled told around) (place : Place) (writer : Caller) (bs : List Bool) (is : List Indices) (b : Bool)
      (i : Indices)
      → Goes told (asked_with around place writer bs is b i)
  asked_with_goes around tabled place writer bs is b i = asked_goes around tabled place (Some writer) (bs ++ b ∷ []) (is ++ i ∷ [])

  pub answered_goes : (around : Around) (tabled : IsTabled told around) (place : Place) (writer : Caller) (bs : List Bool) (is : List Indices) (b : Bool)
      (i : Indices)
      → Goes told (answered around place writer bs is b i)
  answered_goes around tabled place writer bs is b i =
      bind_goes told _ _ (asked_with_goes around tabled place writer bs is b i) (node_given_goes told writer.number)

  pub call_written_goes : (around : Around) (tabled : IsTabled told around) (place : Place) (k : ℕ) (writer : Caller) (bs : List Bool) (is : List Indices)
      (b : Bool) (i : Indices)
      → Goes told (call_written around place k writer bs is b i)
  call_written_goes around tabled place k writer bs is b i =
      bind_goes told _ _ (put_goes told k (i ∷ []) R.Hole i) (λ t. answered_goes around tabled place writer bs is b i)

  pub call_renewed_goes : (around : Around) (tabled : IsTabled told around) (place : Place) (k : ℕ) (writer : Caller) (bs : List Bool) (is : List Indices)
      (i : Indices)
      → Goes told (call_renewed around place k writer bs is i)
  call_renewed_goes around tabled place k writer bs is i =
      bind_goes told _ _ (put_goes told k [] R.Hole i) (λ t. answered_goes around tabled place writer bs is false i)

  pub call_spot_goes : (around : Around) (tabled : IsTabled told around) (place : Place) (k : ℕ) (reader : Option Caller) (writer : Caller) (bs : List Bool)
      (is : List Indices)
      → SpotGoes told (call_spot around place k reader writer bs is)
  call_spot_goes around tabled place k reader writer bs is =
      record {
        read = call_read_goes around tabled place reader is;
        given = reader_given_goes reader;
        write = λ is_nested i. bind_goes told _ _
            (call_written_goes around tabled place k writer bs is is_nested i) gives_goes;
        renew = call_renewed_goes around tabled place k writer bs is;
      }

  pub each_read_goes : (ss : List Spot) → Every (SpotGoes told) ss → Goes told (each_read ss)
  each_read_goes [] spots_go = give_goes told _
  each_read_goes (s ∷ ss) spots_go =
      bind_goes told _ _ spots_go.0.read (λ i. bind_goes told _ _ (each_read_goes ss spots_go.1) (λ is. give_goes told _))

  pub each_written_goes : (place : Place) (ss : List Spot) → Every (SpotGoes told) ss → (is_nested : Bool) (is : List Indices)
      → Goes told (each_written place ss is_nested is)
  each_written_goes place [] spots_go is_nested [] = gives_goes I.Unit
  each_written_goes place (s ∷ ss) spots_go is_nested (i ∷ is) =
      bind_goes told _ _ (scoped_goes told _ (spots_go.0.write is_nested i))
      (λ a. bind_goes told _ _ (each_written_goes place ss spots_go.1 is_nested is) (λ b. give_goes told _))
  each_written_goes place ss ss_go is_nested is = wrong_write_goes place

  pub tuple_write_goes : (place : Place) (ss : List Spot) → Every (SpotGoes told) ss → (is_nested : Bool) (form : Indices-F Indices Reading)
      → Goes told (tuple_write place ss is_nested form)
  tuple_write_goes place ss ss_go is_nested (W.Tuple is) = each_written_goes place ss ss_go (parts_nested ss is_nested) is
  tuple_write_goes place ss ss_go is_nested W.Never = gives_goes I.Unit
  tuple_write_goes place ss ss_go is_nested form = wrong_write_goes place

  pub tuple_spot_goes : (place : Place) (k : ℕ) (ss : List Spot) → Every (SpotGoes told) ss → SpotGoes told (tuple_spot place k ss)
  tuple_spot_goes place k ss ss_go =
      record {
        read = bind_goes told _ _ (each_read_goes ss ss_go)
            (λ is. node_ended_goes told k is (I.Tuple is));
        given =
            λ i. give_goes told _;
        write =
            λ is_nested i. tuple_write_goes place ss ss_go is_nested (out-Indices i);
        renew = λ i. wrong_value_goes told place;
      }

  pub part_left_goes : (around : Around) (x : Reached) (is_nested : Bool) (i : Indices) (answer : Indices)
      → Goes told (part_left around x is_nested i answer)
  part_left_goes around x is_nested i answer = give_goes told _

  pub part_write_goes : (around : Around) (place : Place) (c : Bool) (x : Reached) (again : Walk Indices) → Goes told again
      → (is_nested : Bool) (i : Indices) → Goes told (part_write around place c x again is_nested i)
  part_write_goes around place false x again again_go is_nested i = bind_goes told _ _ again_go (part_left_goes around x is_nested i)
  part_write_goes around place true x again again_go is_nested i =
      bind_goes told _ _ (owe_part_goes told around place x is_nested i) (λ t. bind_goes told _ _ again_go gives_goes)

  pub late_put_goes : (around : Around) (place : Place) (k : ℕ) (x : Reached) (known : Known) (again : Walk Indices) → Goes told again
      → (is_nested : Bool) (i : Indices) → Goes told (late_put around place k x known again is_nested i)
  late_put_goes around place k x known again again_go is_nested i =
      bind_goes told _ _ (put_goes told k (i ∷ []) R.Hole i)
      (λ t. bind_goes told _ _ (in_force_goes told known.facts)
      (λ u. part_write_goes around place true x _ again_go (is_nested && is_late_wanted known.before x.typ) i))

  pub rewritten_goes : (base : Spot) → SpotGoes told base → (held : Indices) → Goes told (rewritten base held)
  rewritten_goes base base_go held = bind_goes told _ _ (base_go.given held) (λ t. base_go.renew held)

  pub late_spot_goes : (around : Around) (place : Place) (k : ℕ) (base : Spot) → SpotGoes told base
      → (held : Indices) (x : Reached) (known : Known) → SpotGoes told (late_spot around place k base held x known)
  late_spot_goes around place k base base_go held x known =
      record {
        read = wrong_value_goes told place;
        given = λ i. give_goes told _;
        write = late_put_goes around place k x known _
            (rewritten_goes base base_go held);
        renew = λ i. wrong_value_goes told place;
      }

  pub late_part_goes : (around : Around) (place : Place) (k : ℕ) (base : Spot) → SpotGoes told base
      → (held : Indices) (x : Option Reached) (known : Known) → SpotGoes told (late_part around place k base held x known)
  late_part_goes around place k base base_go held None known = wrong_spot_goes place
  late_part_goes around place k base base_go held (Some x) known =
      spot_if_goes told (value_has_hole held) _ _ (wrong_spot_goes place) (late_spot_goes around place k base base_go held x known)

  pub part_put_goes : (around : Around) (place : Place) (k : ℕ) (owes : Bool) (x : Reached) (again : Walk Indices) → Goes told again
      → (is_nested : Bool) (i : Indices) → Goes told (part_put around place k owes x again is_nested i)
  part_put_goes around place k owes x again again_go is_nested i =
      bind_goes told _ _ (put_goes told k (i ∷ []) x.typ i) (λ t. part_write_goes around place owes x _ again_go is_nested i)

  pub reached_spot_goes : (around : Around) (place : Place) (k : ℕ) (way : Way) (base : Spot) → SpotGoes told base → (held : Indices) (x : Reached)
      → SpotGoes told (reached_spot around place k way base held x)
  reached_spot_goes around place k way base base_go held x =
      record {
        read = part_made_goes told place k [] x;
        given = λ j. bind_goes told _ _ (base_go.given held)
            (λ t. numbers_noted_goes told k j);
        write =
            part_put_goes around place k (owes_itself way) x _ (rewritten_goes base base_go held);
        renew = λ j. rewritten_goes base base_go held;
      }

  pub part_spot_goes : (around : Around) (place : Place) (k : ℕ) (way : Way) (base : Spot) → SpotGoes told base → (held : Indices) (x : Option Reached)
      → SpotGoes told (part_spot around place k way base held x)
  part_spot_goes around place k way base base_go held None = wrong_spot_goes place
  part_spot_goes around place k way base base_go held (Some x) = reached_spot_goes around place k way base base_go held x
