-- Values of unions.
use Rattle.std.proofs.Common.{◌≡◌, ◌∙◌, ℕ, ◌+◌, true, List, [], ◌∷◌, length, map, Option, Some, None, refl, sym, ap, subst, arith, eqb-true}
use Rattle.std.specs.Prelude.{nat_eq, slice_get, option_map}
use Rattle.std.proofs.lemmas.Bool.{and_parts}
use Rattle.sail_base.specs.declared.place.Place.{Place as TextPlace}
use Rattle.sail_types.specs.Named.{payload as payload_type}
use Rattle.sail_types.specs.declared.values.Value.{Value}
use Rattle.sail_types.specs.declared.values.Value.TheOpen as E
use Rattle.sail_types.specs.declared.values.Value.TheVariants as V
use Rattle.size_values.specs.declared.sized.Sized.{Sized, Sized-F, out-Sized}
use Rattle.size_values.specs.declared.sized.Sized.TheOpen as Z
use Rattle.jib.specs.declared.types.ValueType.{ValueType}
use Rattle.jib.specs.declared.types.ValueType.TheVariants as T
use Rattle.jib.specs.declared.code.Source.{Source}
use Rattle.jib.specs.declared.code.Operation.TheVariants as O
use Rattle.jib.specs.declared.code.Instruction.{Instruction}
use Rattle.jib.specs.declared.code.Instruction.TheVariants as I
use Rattle.jib.specs.Values.{Asked, has, is_of, payload_has}
use Rattle.jib.specs.Operations.{constructed}
use Rattle.jib.specs.Jib.{Slots, put, plain, operate, reads, slots_of}
use Rattle.sail_core.specs.Run.{Now, Run, in_turn, ◌then◌}
use Rattle.sail_core.specs.declared.tree.Callee.TheVariants as F
use Rattle.sail_core.specs.Values.{payload_of}
use Rattle.sail_core.specs.Making.{World}
use Rattle.lowered_pieces.specs.Arms.{is_union}
use Rattle.sail_core.specs.Targets as M
use Rattle.checked_meaning.specs.Fits.{form_fits, has_sizes}
use Rattle.checked_meaning.specs.Items.{Item, vals, typs, payload_typ}
use Rattle.checked_meaning.specs.Items as U
use Rattle.lowered_pieces.specs.Places.{Temp, from, to}
use Rattle.lowered_pieces.specs.Moves.{sources}
use Rattle.lowered_laws.specs.Standing.{HasAt, Tested}
use Rattle.lowered_laws.proofs.Facts.{put_same, tested_both, tested_put}
use Rattle.lowered_laws.proofs.Steps.{go, moves, computed}
use Rattle.lowered_pieces.specs.Forms.{Piece, numbers_of, construct_code, construct_make, made_of_piece, unit_source, live_code}
use Rattle.lowered_laws.specs.Simulation.{bare, AtWork, kit, own_code, reading, RunsOn, Good, Sits}
use Rattle.lowered_laws.proofs.Follows.{no}
use Rattle.lowered_laws.proofs.States.{Is}
use Rattle.lowered_laws.proofs.Had.{fits_as_form, in_types, all_live, live_is}
use Rattle.lowered_laws.proofs.Calls.{InHand, read_in_hand, GoodAll}
use Rattle.lowered_laws.proofs.Works.{some_same, has_as, built_tuple, Makes, made_of_good}

built_union : (o : Option ValueType) (u c : ℕ) (f : Asked) (v : Value) → is_of (E.Union u c f) o ≡ true → constructed o c v ≡ Some (V.Union u c v)
built_union None u c f v h = no h
built_union (Some (T.Union j ts)) u c f v h =
    let same : u ≡ j = eqb-true u j (and_parts (nat_eq u j) (payload_has f (slice_get ts c)) h).0 in
    ap (λ i. Some (V.Union i c v)) (sym same)
built_union (Some t) u c f v h = no h

module _ (g : AtWork) where
  -- the payload of a union has the type of the payload
  pub form_payload : (u c : ℕ) (p : Value) (z : Sized-F Sized) → form_fits g.table (E.Union u c (has_sizes g.table p)) z ≡ true
      → has_sizes g.table p (payload_typ g.table u c z) ≡ true
  form_payload u c p (Z.Named v zs ss) h =
      (and_parts (nat_eq u v) (has_sizes g.table p (U.payload_of g.table zs ss (payload_type g.table u c))) h).1
  form_payload u c p z h = no h

  payload_had : (u c : ℕ) (p : Value) (s : Sized) → has_sizes g.table (V.Union u c p) s ≡ true
      → has_sizes g.table p (payload_typ g.table u c (out-Sized s)) ≡ true
  payload_had u c p s h =
      form_payload u c p (out-Sized s) (sym (fits_as_form g (V.Union u c p) (E.Union u c p) s (V.rolls-Union u c p)) ∙ h)

  form_union : (u c : ℕ) (p : Value) (z : Sized-F Sized) → form_fits g.table (E.Union u c (has_sizes g.table p)) z ≡ true → is_union u z ≡ true
  form_union u c p (Z.Named v zs ss) h =
      (and_parts (nat_eq u v) (has_sizes g.table p (U.payload_of g.table zs ss (payload_type g.table u c))) h).0
  form_union u c p z h = no h

  union_had : (u c : ℕ) (p : Value) (s : Sized) → has_sizes g.table (V.Union u c p) s ≡ true → is_union u (out-Sized s) ≡ true
  union_had u c p s h = form_union u c p (out-Sized s) (sym (fits_as_form g (V.Union u c p) (E.Union u c p) s (V.rolls-Union u c p)) ∙ h)

  -- the constructor over a source that reads its payload
  pub constructs : (u c n p : ℕ) (a : Source) (v : Value) (s : Sized) (sl : Slots) (t : Now Item) → reads g.m g.lets g.hart (a ∷ []) sl (bare t) ≡ v ∷ []
      → Sits g (V.Union u c v) s
      → HasAt (own_code g) p (I.Apply (to (kit g) (Temp n) (g.number s)) (O.Construct c) (a ∷ []) ∷ [])
      → ((sl2 : Slots) → Tested (kit g) n sl sl2 → sl2 (g.name (Temp n) (g.number s)) ≡ V.Union u c v → RunsOn g (p + 1) sl2 (bare t))
      → RunsOn g p sl (bare t)
  constructs u c n p a v s sl t r had hp next =
      let y : ℕ = g.number s in
      let w : Value = V.Union u c v in
      let i : Instruction = I.Apply (to (kit g) (Temp n) y) (O.Construct c) (a ∷ []) in
      let is : Is g (Temp n) y = g.slots p (g.name (Temp n) y) i hp.0 refl in
      let ht : has g.m.types w y ≡ true = in_types g w s had in
      let asked = sym (has_as g.m.types w (E.Union u c v) y (V.rolls-Union u c v)) ∙ ht in
      go g.m g.lets g.hart g.here g.ending p sl (put sl (g.name (Temp n) y) w) (bare t) (bare t) i hp.0
      (computed g.m g.lets g.hart g.here g.ending (kit g) g.names (Temp n) y (O.Construct c) (a ∷ []) sl (bare t) w is
      (ap (λ vs. operate (slice_get g.m.types y) (O.Construct c) vs g.hart t.state) r
      ∙ ap (option_map (plain t.state)) (built_union (slice_get g.m.types y) u c (has g.m.types v) v asked)) ht)
      (next (put sl (g.name (Temp n) y) w) (tested_put (kit g) (slots_of g.m g.here.function) g.names n n y sl w (omega arith) is)
      (put_same sl (g.name (Temp n) y) w))

  code_constructs : (u c : ℕ) (xs : List Item) (n p : ℕ) (s : Sized) (sl : Slots) (t : Now Item)
      → Sits g (V.Union u c (payload_of (vals xs))) s → InHand g sl n xs
      → HasAt (own_code g) p (construct_code (kit g) g.number g.table u c n (typs xs) s)
      → ((sl2 : Slots) → Tested (kit g) n sl sl2 → sl2 (g.name (Temp n) (g.number s)) ≡ V.Union u c (payload_of (vals xs))
      → RunsOn g (p + length (construct_code (kit g) g.number g.table u c n (typs xs) s)) sl2 (bare t))
      → RunsOn g p sl (bare t)
  code_constructs u c [] n p s sl t had hand hp next = constructs u c n p (unit_source (kit g)) V.Unit s sl t refl had hp next
  code_constructs u c (x ∷ []) n p s sl t had hand hp next =
      constructs u c n p (from (kit g) (Temp n) (g.number x.typ)) x.val s sl t (λ j. hand.0 j ∷ []) had hp next
  code_constructs u c (x ∷ w ∷ xs) n p s sl t had hand hp next =
      let ys : List Item = x ∷ w ∷ xs in
      let v : Value = V.Tuple (vals ys) in
      let r : Sized = payload_typ g.table u c (out-Sized s) in
      let y : ℕ = g.number r in
      let rs : List Source = sources (kit g) n (numbers_of (kit g) g.number (typs ys)) in
      let i : Instruction = I.Apply (to (kit g) (Temp n) y) O.Build rs in
      let is : Is g (Temp n) y = g.slots p (g.name (Temp n) y) i hp.0 refl in
      let ht : has g.m.types v y ≡ true = in_types g v r (payload_had u c v s had.0, g.knows.of_union u c s (union_had u c v s had.0) had.1) in
      let asked = sym (has_as g.m.types v (E.Tuple (vals ys)) y (V.rolls-Tuple (vals ys))) ∙ ht in
      let sl1 : Slots = put sl (g.name (Temp n) y) v in
      let td : Tested (kit g) n sl sl1 = tested_put (kit g) (slots_of g.m g.here.function) g.names n n y sl v (omega arith) is in
      go g.m g.lets g.hart g.here g.ending p sl sl1 (bare t) (bare t) i hp.0
      (computed g.m g.lets g.hart g.here g.ending (kit g) g.names (Temp n) y O.Build rs sl (bare t) v is
      (ap (λ vs. operate (slice_get g.m.types y) O.Build vs g.hart t.state) (read_in_hand g n ys sl (bare t) hand)
      ∙ ap (option_map (plain t.state)) (built_tuple (slice_get g.m.types y) (map (has g.m.types) (vals ys)) (vals ys) asked)) ht)
      (constructs u c n (p + 1) (from (kit g) (Temp n) y) v s sl1 t (λ j. put_same sl (g.name (Temp n) y) v j ∷ []) had hp.1
      (λ sl2 td2 e2.
      moves g.m g.lets g.hart g.here g.ending (p + 2) (p + 1 + 1) sl2 (bare t) (omega arith) (next sl2 (tested_both (kit g) n sl sl1 sl2 td td2) e2)))

  constructor_makes : (u c : ℕ) → Makes g (construct_make (kit g) g.number g.table u c) (λ vs. Some (V.Union u c (payload_of vs)))
  constructor_makes u c xs v s a p sl t e taken had hp hand hads next =
      let w : Value = V.Union u c (payload_of (vals xs)) in
      let is : w ≡ v = some_same w v e in
      let code : List Sized → List Instruction = λ ts. construct_code (kit g) g.number g.table u c s.temp ts a.gives in
      let code_is : live_code a.takes (code a.takes) ≡ code (typs xs) =
      live_is a.takes (typs xs) (code a.takes) taken (all_live g xs hads) ∙ ap code taken in
      code_constructs u c xs s.temp p a.gives sl t (ap (λ x. has_sizes g.table x a.gives) is ∙ had.0, had.1) hand
      (subst (λ q. HasAt (own_code g) p q) code_is hp)
      (λ sl2 td e2. subst (λ q. RunsOn g (p + length q) sl2 (bare t)) code_is (next sl2 td (e2 ∙ is)))

  pub constructor_good : (w : World Item) (place : TextPlace) (k u c : ℕ) (ms : List (Run Item Item)) (ps : List Piece) → GoodAll g ms ps
      → Good g (in_turn ms then M.called (reading g) w place k (F.Constructor u c))
      (made_of_piece (kit g) g.number (construct_make (kit g) g.number g.table u c) (g.tables.cases k (length ps)) (g.tables.gives k) ps)
  constructor_good w place k u c ms ps good =
      made_of_good g k (construct_make (kit g) g.number g.table u c) (λ vs. Some (V.Union u c (payload_of vs))) (constructor_makes u c) ms ps good
