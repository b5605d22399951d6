-- What a reading does to what is found by then: whatever goes on from each list to those that are found behind it, one more at a time, holds of each
-- reading that refuses nothing, where mappings that notes name are such as may be found.
use Rattle.std.proofs.Common.{◌≡◌, refl, subst, sym, ℕ, zero, suc, ◌/◌, nat_lt, Bool, true, false, inl, inr, List, [], ◌∷◌, ◌++◌, length}
use Rattle.std.proofs.Common.{slice_get, Option, Some, None, if◌then◌else◌}
use Rattle.std.specs.Prelude.{Ok, Err, ℤ, drop, take}
use Rattle.std.specs.List.{list_any}
use Rattle.sail_base.specs.declared.place.Place.{Place}
use Rattle.sail_types.specs.declared.numbers.Index.{Index}
use Rattle.model_state.specs.declared.state.Register.{Register}
use Rattle.sail_core.specs.declared.model.Opening.{Opening}
use Rattle.sail_core.specs.declared.model.RegisterText.{RegisterText}
use Rattle.sail_core.specs.declared.tree.Callee.{Callee}
use Rattle.sail_core.specs.declared.tree.Callee.TheVariants as D
use Rattle.value_indices.specs.Steps.{Note, goal_note, size_note, made_note, call_note, way_note, given_note, name_note}
use Rattle.value_indices.specs.declared.indices.Indices.{Indices}
use Rattle.value_indices.specs.declared.indices.Reading.{Reading}
use Rattle.value_indices.specs.declared.notes.Fact.{Fact}
use Rattle.size_values.specs.declared.constants.Constant.{Constant}
use Rattle.size_values.specs.declared.constants.Picked.{Picked}
use Rattle.size_values.specs.declared.sized.Sized.{Sized}
use Rattle.size_values.specs.Numbers.{known_of}
use Rattle.size_values.specs.Sizes.{value_sizes}
use Rattle.size_splits.specs.Bodies.{Body}
use Rattle.size_splits.specs.Sizing.{first_named, made_facts, made_indices}
use Rattle.size_splits.specs.Splits.{counted}
use Rattle.monomorph.specs.declared.error.MonoError.{MonoError}
use Rattle.monomorph.specs.declared.error.MonoError.TheVariants.{InstanceLimit}
use Rattle.monomorph.specs.declared.found.Found.{Found}
use Rattle.monomorph.specs.declared.found.Found.TheVariants as F
use Rattle.sized_nodes.specs.declared.trees.Instance.{Instance}
use Rattle.monomorph.specs.Found.{Answer, add, add_mapping, and_then, found_eq, instances_in, most_instances, over, unless, unless_full}
use Rattle.monomorph.specs.Instances.{found_from, grow, grow_from, one_or_none, or_none, read_found, times_enough}
use Rattle.monomorph.specs.Lasts.{Model, count_before, last_from, read_bodies, read_lasts, read_register, register_refused}
use Rattle.monomorph.specs.Reading.{Inside, called, instance_of, numbers_refused, read_body, read_call, read_note, read_notes, read_sizes, read_way}
use Rattle.monomorph.specs.Reading.{reading_of, types_refused, under, under_each}
use Rattle.monomorph.specs.Refusals.{sizes_refused}
use Rattle.note_laws.specs.Notes.{EachNote}
use Rattle.split_laws.specs.Counted.{IsIn}
use Rattle.covering_laws.specs.Closed.{AllName, BodiesName, CalleeNames, Names}
use Rattle.covering_laws.proofs.Working.{there}

-- ---- a part of a list

in_taken : {A : Type 0} (x : A) (n : ℕ) (xs : List A) → IsIn x (take n xs) → IsIn x xs
in_taken x zero xs i = absurd i
in_taken x (suc n) [] i = absurd i
in_taken x (suc n) (y ∷ xs) (inl e) = inl e
in_taken x (suc n) (y ∷ xs) (inr i) = inr (in_taken x n xs i)

in_dropped : {A : Type 0} (x : A) (n : ℕ) (xs : List A) → IsIn x (drop n xs) → IsIn x xs
in_dropped x zero xs i = i
in_dropped x (suc n) [] i = absurd i
in_dropped x (suc n) (y ∷ xs) i = inr (in_dropped x n xs i)

-- ---- where any mapping may be found

module _ (Allowed : ℕ → Type 0) (any : (i : ℕ) → Allowed i) where
  pub callee_any : (callee : Callee) → CalleeNames Allowed callee
  callee_any (D.Converts d) = any (d / 2)
  callee_any (D.Applies d) = any (d / 2)
  callee_any callee = tt

  note_any : (n : Note) → Names Allowed n
  note_any (call_note facts place k operands callee js qs) = callee_any callee
  note_any (way_note facts d) = any (d / 2)
  note_any note = tt

  pub notes_any : (ns : List Note) → EachNote (Names Allowed) ns
  notes_any [] = tt
  notes_any (n ∷ ns) = (note_any n, notes_any ns)

  pub bodies_any : (bs : List Body) → AllName Allowed bs
  bodies_any bs b i = notes_any b.notes

  pub model_any : (m : Model) → BodiesName Allowed m
  model_any m = record {
    functions = λ i bs e. bodies_any bs;
    mappings = bodies_any m.bodies.mappings;
    openings = bodies_any m.bodies.openings;
  }

-- ---- readings

module _ (Allowed : ℕ → Type 0) (R : List Found → List Found → Type 0) (same : (found : List Found) → R found found)
    (on : (found some all : List Found) → R found some → R some all → R found all)
    (one_function : (x : Instance) (found : List Found) → nat_lt (length (instances_in found)) most_instances ≡ true
    → R found (found ++ F.Function x ∷ []))
    (one_mapping : (i : ℕ) → Allowed i → (found : List Found) → list_any (found_eq (F.Mapping i)) found ≡ false → R found (found ++ F.Mapping i ∷ [])) where
  -- a reading that refuses nothing
  abbrev pub Goes : (List Found → Answer) → Type 0
  Goes read = (found all : List Found) → read found ≡ Ok all → R found all

  stays : (found all : List Found) → found ≡ all → R found all
  stays found all e = subst (R found) e (same found)

  fine_goes : Goes (λ found. Ok found)
  fine_goes found all h = stays found all (cc h)

  then_goes : (read next : List Found → Answer) → Goes read → Goes next → Goes (λ found. and_then (read found) next)
  then_goes read next k l found all h = by (read found) refl h
    where
      by : (a : Answer) → read found ≡ a → and_then a next ≡ Ok all → R found all
      by (Ok some) e g = on found some all (k found some e) (l some all g)
      by (Err why) e g = absurd (cc)

  each_of_goes : {A : Type 0} (read : A → List Found → Answer) (xs : List A) → ((x : A) → IsIn x xs → Goes (read x)) → Goes (over read xs)
  each_of_goes read [] k found all h = stays found all (cc h)
  each_of_goes read (x ∷ xs) k found all h =
      then_goes (read x) (over read xs) (k x (inl refl)) (each_of_goes read xs (λ y i. k y (inr i))) found all h

  pub over_goes : {A : Type 0} (read : A → List Found → Answer) → ((x : A) → Goes (read x)) → (xs : List A) → Goes (over read xs)
  over_goes read k xs = each_of_goes read xs (λ x i. k x)

  unless_goes : (o : Option MonoError) (read : List Found → Answer) → Goes read → Goes (λ found. unless o (read found))
  unless_goes None read k found all h = k found all h
  unless_goes (Some why) read k found all h = absurd (cc)

  -- ---- one more

  room_goes : (place : Place) (x : Instance) → Goes (unless_full place (F.Function x))
  room_goes place x found all h = by (nat_lt (length (instances_in found)) most_instances) refl h
    where
      by : (b : Bool) → nat_lt (length (instances_in found)) most_instances ≡ b
          → (if b then Ok (found ++ F.Function x ∷ []) else Err (InstanceLimit place (suc most_instances))) ≡ Ok all → R found all
      by true e g =
          let is : found ++ F.Function x ∷ [] ≡ all = cc g in
          subst (R found) is (one_function x found e)
      by false e g = absurd (cc)

  add_goes : (place : Place) (x : Instance) → Goes (add place x)
  add_goes place x found all h = by (list_any (found_eq (F.Function x)) found) h
    where
      by : (b : Bool) → (if b then Ok found else unless_full place (F.Function x) found) ≡ Ok all → R found all
      by true g = fine_goes found all g
      by false g = room_goes place x found all g

  pub mapping_goes : (i : ℕ) → Allowed i → Goes (λ found. Ok (add_mapping i found))
  mapping_goes i may found all h = by (list_any (found_eq (F.Mapping i)) found) refl (cc h)
    where
      by : (b : Bool) → list_any (found_eq (F.Mapping i)) found ≡ b → (if b then found else found ++ F.Mapping i ∷ []) ≡ all → R found all
      by true e g = stays found all g
      by false e g = subst (R found) g (one_mapping i may found e)

  -- ---- a note

  called_goes : (r : Inside) (place : Place) (of : ℕ → Constant) (callee : Callee) → CalleeNames Allowed callee → (js : List Index) (qs : List Reading)
      → Goes (called r place of callee js qs)
  called_goes r place of (D.Function f) may js qs found all h = add_goes place (instance_of r of f js qs) found all h
  called_goes r place of (D.Converts d) may js qs found all h = mapping_goes (d / 2) may found all h
  called_goes r place of (D.Applies d) may js qs found all h = mapping_goes (d / 2) may found all h
  called_goes r place of (D.Row row) may js qs found all h = fine_goes found all h
  called_goes r place of (D.Constructor u c) may js qs found all h = fine_goes found all h

  pub call_goes : (r : Inside) (place : Place) (operands : List Indices) (callee : Callee) → CalleeNames Allowed callee → (js : List Index)
      (qs : List Reading) (ps : List Picked) → Goes (read_call r place operands callee js qs ps)
  call_goes r place operands callee may js qs ps found all h =
      unless_goes (numbers_refused r place operands callee js ps)
      (λ more. unless (types_refused r place qs ps) (called r place (under r ps) callee js qs more))
      (unless_goes (types_refused r place qs ps) (called r place (under r ps) callee js qs) (called_goes r place (under r ps) callee may js qs)) found all h

  pub sizes_go : (r : Inside) (place : Place) (i : Indices) (ps : List Picked) → Goes (read_sizes r place i ps)
  sizes_go r place i ps found all h = unless_goes (sizes_refused place r.names (value_sizes r.types (under r ps) i)) (λ more. Ok more) fine_goes found all h

  each_goes : (r : Inside) (facts own : List Fact) (read : List Picked → List Found → Answer) → ((ps : List Picked) → Goes (read ps))
      → Goes (under_each r facts own read)
  each_goes r facts own read k found all h = over_goes read k (counted (known_of r.numbers) r.split facts own) found all h

  note_goes : (r : Inside) (n : Note) → Names Allowed n → (named : Option ℕ) → Goes (read_note r n named)
  note_goes r (size_note facts place made) may named found all h =
      each_goes r facts (made_facts r.variables made named) (read_sizes r place (made_indices r.variables made named))
      (sizes_go r place (made_indices r.variables made named)) found all h
  note_goes r (call_note facts place k operands callee js qs) may named found all h =
      each_goes r facts [] (read_call r place operands callee js qs) (call_goes r place operands callee may js qs) found all h
  note_goes r (way_note facts d) may named found all h = each_goes r facts [] (read_way d) (λ ps. mapping_goes (d / 2) may) found all h
  note_goes r (goal_note facts place goal) may named found all h = fine_goes found all h
  note_goes r (made_note facts k operands made) may named found all h = fine_goes found all h
  note_goes r (given_note facts k i) may named found all h = fine_goes found all h
  note_goes r (name_note v name) may named found all h = fine_goes found all h

  pub notes_go : (r : Inside) (ns : List Note) → EachNote (Names Allowed) ns → Goes (read_notes r ns)
  notes_go r [] may found all h = fine_goes found all h
  notes_go r (n ∷ ns) may found all h =
      then_goes (read_note r n (first_named ns)) (read_notes r ns) (note_goes r n may.0 (first_named ns)) (notes_go r ns may.1) found all h

  -- ---- a model

  module _ (m : Model) where
    bodies_go : (zs : List (Option ℤ)) (own : List Sized) (bs : List Body) → AllName Allowed bs → Goes (read_bodies m zs own bs)
    bodies_go zs own bs may found all h =
        each_of_goes (read_body m.core.types m.sizing zs own) bs (λ b i. notes_go (reading_of m.core.types m.sizing zs own b) b.notes (may b i)) found all h

    -- the bodies of a function, and that of a mapping
    all_name : (o : Option (List Body)) → ((bs : List Body) → o ≡ Some bs → AllName Allowed bs) → AllName Allowed (or_none o)
    all_name (Some bs) h b i = h bs refl b i
    all_name None h b i = absurd i

    one_names : (o : Option Body) → ((b : Body) → o ≡ Some b → EachNote (Names Allowed) b.notes) → AllName Allowed (one_or_none o)
    one_names (Some c) h b (inl e) = subst (λ (d : Body). EachNote (Names Allowed) d.notes) (sym e) (h c refl)
    one_names (Some c) h b (inr i) = absurd i
    one_names None h b i = absurd i

    pub found_goes : BodiesName Allowed m → (x : Found) → Goes (read_found m x)
    found_goes may (F.Function x) found all h =
        bodies_go x.numbers x.types (or_none (slice_get m.bodies.functions x.function))
        (all_name (slice_get m.bodies.functions x.function) (may.functions x.function)) found all h
    found_goes may (F.Mapping i) found all h =
        bodies_go [] [] (one_or_none (slice_get m.bodies.mappings i))
        (one_names (slice_get m.bodies.mappings i) (λ b e. may.mappings b (there m.bodies.mappings i b e))) found all h

    pub grow_goes : BodiesName Allowed m → (times i : ℕ) → Goes (grow times m i)
    grow_goes may zero i found all h = fine_goes found all h
    grow_goes may (suc times) i found all h = by (slice_get found i) (grow_goes may times (suc i)) h
      where
        by : (o : Option Found) → Goes (grow times m (suc i)) → grow_from m found o (grow times m (suc i)) ≡ Ok all → R found all
        by None k g = fine_goes found all g
        by (Some x) k g = then_goes (read_found m x) (grow times m (suc i)) (found_goes may x) k found all g

    register_goes : (r : Register) (text : RegisterText) (bs : List Body) → AllName Allowed bs → Goes (read_register m r text bs)
    register_goes r text bs may found all h =
        then_goes (read_bodies m [] [] bs) (λ more. unless (register_refused m.core.types r text) (Ok more)) (bodies_go [] [] bs may)
        (unless_goes (register_refused m.core.types r text) (λ more. Ok more) fine_goes) found all h

    pub last_goes : (rs : List Register) (texts : List RegisterText) (os : List Opening) (bs : List Body) → AllName Allowed bs
        → Goes (last_from m rs texts os bs)
    last_goes [] texts os bs may found all h = bodies_go [] [] bs may found all h
    last_goes (r ∷ rs) [] os bs may found all h = bodies_go [] [] bs may found all h
    last_goes (r ∷ rs) (text ∷ texts) os bs may found all h =
        let k : ℕ = count_before text.place os in
        then_goes (read_register m r text (take k bs)) (last_from m rs texts (drop k os) (drop k bs))
        (register_goes r text (take k bs) (λ b i. may b (in_taken b k bs i)))
        (last_goes rs texts (drop k os) (drop k bs) (λ b i. may b (in_dropped b k bs i))) found all h

    rest_goes : BodiesName Allowed m → Goes (λ first. and_then (read_lasts m first) (grow (times_enough m) m (length first)))
    rest_goes may first all h =
        then_goes (read_lasts m) (grow (times_enough m) m (length first))
        (last_goes m.core.registers m.core.register_texts m.core.openings m.bodies.openings may.openings) (grow_goes may (times_enough m) (length first))
        first all h

    pub found_from_goes : BodiesName Allowed m → Goes (found_from m)
    found_from_goes may found all h =
        then_goes (grow (times_enough m) m 0) (λ first. and_then (read_lasts m first) (grow (times_enough m) m (length first)))
        (grow_goes may (times_enough m) 0) (rest_goes may) found all h
