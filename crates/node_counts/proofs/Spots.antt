-- What assignments are to, and writes to it, note no more than its own numbers.
use Rattle.std.proofs.Common.{◌≡◌, ℕ, ◌+◌, ◌-◌, ◌≤◌, Bool, true, false, List, [], ◌∷◌, take, drop}
use Rattle.std.proofs.Common.{Option, Some, None, if◌then◌else◌, arith}
use Rattle.sail_base.specs.declared.place.Place.{Place}
use Rattle.model_state.specs.declared.state.Register.{Register}
use Rattle.sail_core.specs.Nodes.{caller_numbers}
use Rattle.sail_core.specs.declared.targets.Caller.{Caller}
use Rattle.sail_core.specs.declared.targets.Way.{Way}
use Rattle.value_indices.specs.Steps.{Walk, bind, give, scoped, wrong}
use Rattle.value_indices.specs.declared.indices.Indices.{Indices, out-Indices}
use Rattle.value_indices.specs.declared.indices.Indices.TheOpen as W
use Rattle.value_indices.specs.declared.indices.Indices.TheOpen.{Indices-F}
use Rattle.value_indices.specs.declared.indices.Indices.TheVariants as I
use Rattle.value_indices.specs.declared.indices.Reading.{Reading}
use Rattle.value_indices.specs.declared.indices.Reading.TheVariants as R
use Rattle.value_indices.specs.declared.notes.Fact.{Fact}
use Rattle.pattern_leaves.specs.Settings.{Around, Scope}
use Rattle.pattern_leaves.specs.declared.names.Held.{Held}
use Rattle.pattern_leaves.specs.declared.names.Held.TheVariants as H
use Rattle.call_arguments.specs.Holes.{value_has_hole}
use Rattle.call_notes.specs.Ends.{wrong_value}
use Rattle.call_notes.specs.Noted.{node_made, numbers_noted}
use Rattle.expression_forms.specs.Nodes.{put}
use Rattle.expression_forms.specs.Spots.{Spot, answered, asked, asked_with, call_spot, call_written, each_read, each_written, gives}
use Rattle.expression_forms.specs.Spots.{held_spot, in_force, late_part, late_spot, named_spot, owes_itself, part_left}
use Rattle.expression_forms.specs.Spots.{part_spot, part_write, parts_nested, reached_spot, reader_given, register_spot, rewritten, tuple_spot, tuple_write}
use Rattle.expression_forms.specs.Spots.{wrong_spot, wrong_write}
use Rattle.expression_forms.specs.Names.{register_type}
use Rattle.expression_forms.specs.Ways.{owe_part}
use Rattle.expression_forms.specs.declared.spots.Known.{Known}
use Rattle.expression_forms.specs.declared.ways.Reached.{Reached}
use Rattle.expression_steps.specs.Parts.{Part}
use Rattle.expression_steps.specs.Targets.{Spotted, SpottedAll, Spotting}
use Rattle.expression_steps.specs.Targets.{no_spot}
use Rattle.value_laws.proofs.Basics.{no}
use Rattle.node_counts.specs.Counts.{Counted, giving, making, own, times, weigh}
use Rattle.node_counts.proofs.Budgets.{Leaves, leaves_bind, leaves_give, leaves_rest, within_scoped}
use Rattle.node_counts.proofs.Nodes.{In, called_in, ended_in, fit_light, in_both, in_first, in_give, in_last, in_more, made_and_given, made_in}
use Rattle.node_counts.proofs.Nodes.{noted_in, opened_in, owes_light, wrong_in}
use Rattle.node_counts.proofs.Parts.{Costed, parts_of, split_total, total}
use Rattle.node_counts.proofs.Values.{named_in}
use Rattle.node_counts.proofs.Weights.{node_own}

module _ (q : Counted) where
  -- ---- spots: a budget pays for what is written, and as well for what is read as the base of a part and written again

  pub record SpotIn (b : ℕ) (s : Spot) : Type 0 where
    pub write : (nested : Bool) (i : Indices) → In q b (s.write nested i)
    pub reads : ℕ
    pub gives : ℕ
    pub renews : ℕ
    pub enough : reads ≤ b
    pub enough_again : s.is_base ≡ true → reads + (gives + renews) ≤ b
    pub read : In q reads s.read
    pub renew : (i : Indices) → In q renews (s.renew i)
    pub given : (i : Indices) → In q gives (s.given i)

  pub put_in : (k : ℕ) (is : List Indices) (r : Reading) (i : Indices) → In q (own q k) (put k is r i)
  put_in k is r i =
      in_more q (put k is r i) (node_own q k) (in_both q (node_made k is _) (λ t. numbers_noted k i) (made_in q k is _) (λ t. noted_in q k i))

  wrong_write_in : {b : ℕ} (place : Place) → In q b (wrong_write place)
  wrong_write_in place = in_last q (wrong_value place) gives (wrong_in q place) (λ i. in_give q _)

  pub wrong_spot_in : (b : ℕ) (place : Place) → SpotIn b (wrong_spot place)
  wrong_spot_in b place = record {
    write = λ nested i. wrong_write_in place;
    reads = 0;
    gives = 0;
    renews = 0;
    enough = omega arith;
    enough_again = λ e. omega arith;
    read = wrong_in q place;
    renew = λ i. wrong_in q place;
    given = λ i. in_give q tt;
  }

  named_spot_in : (around : Around) (place : Place) (k : ℕ) (name : List ℕ) (r : Reading) → SpotIn (own q k) (named_spot around place k name r)
  named_spot_in around place k name r = record {
    write = λ nested i. in_last q (put k (i ∷ []) r i) _ (put_in k (i ∷ []) r i) (λ t. in_give q _);
    reads = making q k;
    gives = giving q k;
    renews = 0;
    enough = let l : making q k + giving q k ≤ own q k = node_own q k in omega (arith, l);
    enough_again = λ e. let l : making q k + giving q k ≤ own q k = node_own q k in omega (arith, l);
    read = named_in q place k name r;
    renew = λ i. in_give q I.Unit;
    given = λ i. noted_in q k i;
  }

  pub held_in_spot : (around : Around) (place : Place) (k : ℕ) (name : List ℕ) (o : Option Held) → SpotIn (own q k) (held_spot around place k name o)
  held_in_spot around place k name (Some (H.Var r)) = named_spot_in around place k name r
  held_in_spot around place k name o = wrong_spot_in (own q k) place

  pub register_in_spot : (around : Around) (place : Place) (k : ℕ) (o : Option Register) → SpotIn (own q k) (register_spot around place k o)
  register_in_spot around place k None = wrong_spot_in (own q k) place
  register_in_spot around place k (Some r) = named_spot_in around place k r.name (register_type r)

  -- ---- parts

  rewritten_in : {b : ℕ} (base : Spot) (s : SpotIn b base) (held : Indices) → In q (s.gives + s.renews) (rewritten base held)
  rewritten_in base s held = in_both q (base.given held) (λ t. base.renew held) (s.given held) (λ t. s.renew held)

  write_in : {n : ℕ} (around : Around) (place : Place) (owes : Bool) (x : Reached) (again : Walk Indices) → In q n again → (nested : Bool) (i : Indices)
      → In q n (part_write around place owes x again nested i)
  write_in around place false x again h nested i = in_last q again (part_left around x nested i) h (λ j. in_give q _)
  write_in around place true x again h nested i =
      in_first q (owe_part around place x nested i) (λ t. bind again gives) (fit_light q place _) (λ t. in_last q again gives h (λ j. in_give q _))

  reached_in_spot : {b : ℕ} (around : Around) (place : Place) (k : ℕ) (way : Way) (base : Spot) (s : SpotIn b base) (held : Indices) (x : Reached)
      → SpotIn (own q k + (s.gives + s.renews)) (reached_spot around place k way base held x)
  reached_in_spot around place k way base s held x = record {
    write = λ nested i.
        in_both q (put k (i ∷ []) x.typ i) _ (put_in k (i ∷ []) x.typ i) (λ t.
        write_in around place (owes_itself way) x (rewritten base held) (rewritten_in base s held) nested i);
    reads = making q k;
    gives = s.gives + giving q k;
    renews = s.gives + s.renews;
    enough = let l : making q k + giving q k ≤ own q k = node_own q k in omega (arith, l);
    enough_again = λ e. no e;
    read = in_first q _ _ (owes_light q place x.conditions) (λ t. opened_in q place k [] x.typ);
    renew = λ j. rewritten_in base s held;
    given = λ j. in_both q (base.given held) (λ t. numbers_noted k j) (s.given held) (λ t. noted_in q k j);
  }

  pub part_in_spot : {b : ℕ} (around : Around) (place : Place) (k : ℕ) (way : Way) (base : Spot) (s : SpotIn b base) (held : Indices) (o : Option Reached)
      → SpotIn (own q k + (s.gives + s.renews)) (part_spot around place k way base held o)
  part_in_spot around place k way base s held None = wrong_spot_in (own q k + (s.gives + s.renews)) place
  part_in_spot around place k way base s held (Some x) = reached_in_spot around place k way base s held x

  pub force_light : (fs : List Fact) → In q 0 (in_force fs)
  unfolding in_force
  force_light fs facts n = omega arith

  late_in_spot : {b : ℕ} (around : Around) (place : Place) (k : ℕ) (base : Spot) (s : SpotIn b base) (held : Indices) (x : Reached) (known : Known)
      → SpotIn (own q k + (s.gives + s.renews)) (late_spot around place k base held x known)
  late_in_spot around place k base s held x known = record {
    write = λ nested i.
        in_both q (put k (i ∷ []) R.Hole i) _ (put_in k (i ∷ []) R.Hole i) (λ t.
        in_first q (in_force known.facts) _ (force_light known.facts) (λ u.
        write_in around place true x (rewritten base held) (rewritten_in base s held) _ i));
    reads = 0;
    gives = 0;
    renews = 0;
    enough = omega arith;
    enough_again = λ e. omega arith;
    read = wrong_in q place;
    renew = λ i. wrong_in q place;
    given = λ i. in_give q tt;
  }

  pub late_part_in : {b : ℕ} (around : Around) (place : Place) (k : ℕ) (base : Spot) (s : SpotIn b base) (held : Indices) (o : Option Reached)
      (known : Known) → SpotIn (own q k + (s.gives + s.renews)) (late_part around place k base held o known)
  late_part_in around place k base s held None known = wrong_spot_in (own q k + (s.gives + s.renews)) place
  late_part_in around place k base s held (Some x) known = by (value_has_hole held)
    where
      by : (c : Bool) → SpotIn (own q k + (s.gives + s.renews)) (if c then wrong_spot place else late_spot around place k base held x known)
      by true = wrong_spot_in (own q k + (s.gives + s.renews)) place
      by false = late_in_spot around place k base s held x known

  -- ---- calls

  -- what is made or given by the call that reads
  abbrev asks : Option Caller → ℕ
  asks None = 0
  asks (Some c) = making q c.number

  abbrev tells : Option Caller → ℕ
  tells None = 0
  tells (Some c) = giving q c.number

  asks_and_tells : (o : Option Caller) → asks o + tells o ≤ times q (caller_numbers o)
  asks_and_tells None = omega arith
  asks_and_tells (Some c) = let l : making q c.number + giving q c.number ≤ own q c.number = node_own q c.number in omega (arith, l)

  asked_in : (around : Around) (place : Place) (o : Option Caller) (bs : List Bool) (is : List Indices)
      → In q (asks o) (asked around place o bs is)
  asked_in around place None bs is = wrong_in q place
  asked_in around place (Some c) bs is = called_in q around place c.number c.callee bs is

  answered_in : (around : Around) (place : Place) (writer : Caller) (bs : List Bool) (is : List Indices) (b : Bool) (i : Indices)
      → In q (own q writer.number) (answered around place writer bs is b i)
  answered_in around place writer bs is b i =
      made_and_given q writer.number (asked_with around place writer bs is b i) (called_in q around place writer.number writer.callee _ _)

  reader_in : (o : Option Caller) (i : Indices) → In q (tells o) (reader_given o i)
  reader_in None i = in_give q tt
  reader_in (Some c) i = noted_in q c.number i

  pub call_in_spot : (around : Around) (place : Place) (k : ℕ) (reader : Option Caller) (writer : Caller) (bs : List Bool) (is : List Indices)
      → SpotIn (own q k + (times q (caller_numbers reader) + own q writer.number)) (call_spot around place k reader writer bs is)
  call_in_spot around place k reader writer bs is = record {
    write = λ nested i.
        in_last q (call_written around place k writer bs is nested i) gives
        (in_more q (call_written around place k writer bs is nested i) (omega arith)
        (in_both q (put k (i ∷ []) R.Hole i) _ (put_in k (i ∷ []) R.Hole i) (λ t. answered_in around place writer bs is nested i))) (λ j. in_give q _);
    reads = asks reader;
    gives = tells reader;
    renews = own q k + own q writer.number;
    enough = let l : asks reader + tells reader ≤ times q (caller_numbers reader) = asks_and_tells reader in omega (arith, l);
    enough_again = λ e. let l : asks reader + tells reader ≤ times q (caller_numbers reader) = asks_and_tells reader in omega (arith, l);
    read = asked_in around place reader _ is;
    renew = λ i. in_both q (put k [] R.Hole i) _ (put_in k [] R.Hole i) (λ t. answered_in around place writer bs is false i);
    given = λ i. reader_in reader i;
  }

  -- ---- tuples

  abbrev pub SpotsIn : ℕ → List Spot → Type 0
  SpotsIn b [] = Unit {0}
  SpotsIn b (s ∷ ss) = (c d : ℕ) × (c + d ≤ b) × SpotIn c s × SpotsIn d ss

  reads_in : (b : ℕ) (ss : List Spot) → SpotsIn b ss → In q b (each_read ss)
  reads_in b [] h = in_give q []
  reads_in b (s ∷ ss) h =
      let l : h.0 + h.1 ≤ b = h.2 in
      let m : h.3.reads ≤ h.0 = h.3.enough in
      in_more q (each_read (s ∷ ss)) (omega (arith, l, m))
      (in_both q s.read (λ i. bind (each_read ss) (λ is. give (i ∷ is))) h.3.read (λ i.
      in_last q (each_read ss) (λ is. give (i ∷ is)) (reads_in h.1 ss h.4) (λ is. in_give q (i ∷ is))))

  writes_in : (b : ℕ) (place : Place) (ss : List Spot) → SpotsIn b ss → (nested : Bool) (is : List Indices) → In q b (each_written place ss nested is)
  writes_in b place [] h nested [] = in_give q _
  writes_in b place [] h nested (i ∷ is) = wrong_write_in place
  writes_in b place (s ∷ ss) h nested [] = wrong_write_in place
  writes_in b place (s ∷ ss) h nested (i ∷ is) =
      in_more q (each_written place (s ∷ ss) nested (i ∷ is)) h.2
      (in_both q (scoped (s.write nested i)) _ (within_scoped (weigh q) (s.write nested i) (h.3.write nested i)) (λ a.
      in_last q (each_written place ss nested is) _ (writes_in h.1 place ss h.4 nested is) (λ c. in_give q _)))

  tuple_write_in : (b : ℕ) (place : Place) (ss : List Spot) → SpotsIn b ss → (nested : Bool) (form : Indices-F Indices Reading)
      → In q b (tuple_write place ss nested form)
  tuple_write_in b place ss h nested (W.Tuple is) = writes_in b place ss h (parts_nested ss nested) is
  tuple_write_in b place ss h nested W.Never = in_give q _
  tuple_write_in b place ss h nested form = wrong_write_in place

  pub tuple_in_spot : (b : ℕ) (place : Place) (k : ℕ) (ss : List Spot) → SpotsIn b ss → SpotIn (own q k + b) (tuple_spot place k ss)
  tuple_in_spot b place k ss h = record {
    write = λ nested i.
        in_more q (tuple_write place ss nested (out-Indices i)) (omega arith) (tuple_write_in b place ss h nested (out-Indices i));
    reads = b + making q k;
    gives = 0;
    renews = 0;
    enough = let l : making q k + giving q k ≤ own q k = node_own q k in omega (arith, l);
    enough_again = λ e. no e;
    read = in_both q (each_read ss) _ (reads_in b ss h) (λ is. ended_in q k is (I.Tuple is));
    renew = λ i. wrong_in q place;
    given = λ i. in_give q tt;
  }

  pub more_spot : {b c : ℕ} {s : Spot} → b ≤ c → SpotIn b s → SpotIn c s
  more_spot {s = s} l h =
      let m : h.reads ≤ _ = h.enough in record {
        write = λ nested i. in_more q (s.write nested i) l (h.write nested i);
        reads = h.reads;
        gives = h.gives;
        renews = h.renews;
        enough = omega (arith, l, m);
        enough_again = λ e. let n : h.reads + (h.gives + h.renews) ≤ _ = h.enough_again e in omega (arith, l, n);
        read = h.read;
        renew = h.renew;
        given = h.given;
      }

  -- ---- what a target is

  abbrev pub SpottedLeft : Option Spotted → ℕ → Type 0
  SpottedLeft None d = Unit {0}
  SpottedLeft (Some s) d = (b : ℕ) × (zs : List (Costed q)) × SpotIn b s.spot × (parts_of q zs ≡ s.left) × (b + total q zs ≤ d)

  abbrev pub AllLeft : Option SpottedAll → ℕ → Type 0
  AllLeft None d = Unit {0}
  AllLeft (Some s) d = (b : ℕ) × (zs : List (Costed q)) × SpotsIn b s.spots × (parts_of q zs ≡ s.left) × (b + total q zs ≤ d)

  abbrev pub SpottingIn : ℕ → Spotting → Type 0
  SpottingIn b t =
      (around : Around) (scope : Scope) (ys : List (Costed q)) (parts : List Part) → parts_of q ys ≡ parts
      → Leaves (weigh q) (b + total q ys) (t around scope parts) SpottedLeft

  pub no_spot_left : (d : ℕ) (place : Place) → Leaves (weigh q) d (no_spot place) SpottedLeft
  no_spot_left d place =
      leaves_bind (weigh q) (wrong place) (λ t. give None) (λ t c. Unit {0}) SpottedLeft
      (leaves_rest (weigh q) (wrong place) d 0 (λ t c. Unit {0}) (owes_light q place _) (omega arith) (λ t. tt)) (λ t c h.
      leaves_give (weigh q) SpottedLeft c None tt)

  -- behind the arguments or indexes that are taken from the parts
  pub behind_front : {A B : Type 0} (k : ℕ) (ys : List (Costed q)) (c : ℕ) (w : Walk A) (next : A → Walk B) (Q : B → ℕ → Type 0) → In q (total q (take k ys)) w
      → ((x : A) (d : ℕ) → c + total q (drop k ys) ≤ d → Leaves (weigh q) d (next x) Q) → Leaves (weigh q) (c + total q ys) (bind w next) Q
  behind_front k ys c w next Q h more =
      let e : total q (take k ys) + total q (drop k ys) ≡ total q ys = split_total q k ys in
      leaves_bind (weigh q) w next (λ x d. c + total q (drop k ys) ≤ d) Q
      (leaves_rest (weigh q) w (c + total q ys) (c + total q (drop k ys)) (λ x d. c + total q (drop k ys) ≤ d) h (omega (arith, e)) (λ x. omega arith)) more
