-- A struct with other values in several fields: all fields are taken out, and it is built of them and of the new ones.
use Rattle.std.proofs.Common.{◌≡◌, ◌∙◌, ℕ, suc, ◌+◌, ◌≤◌, ℤ, Bool, true, false, List, [], ◌∷◌, ◌++◌, length, map, Option, Some, None, refl, sym, ap, subst}
use Rattle.std.proofs.Common.{arith, eqb-true, eq-eqb, length-append, if◌then◌else◌}
use Rattle.std.specs.Prelude.{nat_eq, option_map, slice_get}
use Rattle.std.proofs.lemmas.Bool.{and_parts}
use Rattle.std.proofs.lemmas.List.{length-map}
use Rattle.sail_types.specs.Named.{fields}
use Rattle.sail_types.specs.Sums.{and_then}
use Rattle.sail_types.specs.declared.table.Field.{Field}
use Rattle.sail_types.specs.declared.values.Value.{Value, Value-F, out-Value, roll-Value}
use Rattle.sail_types.specs.declared.values.Value.TheViews.{roll-out-Value}
use Rattle.sail_types.specs.declared.values.Value.TheOpen as E
use Rattle.sail_types.specs.declared.values.Value.TheVariants as V
use Rattle.size_values.specs.declared.sized.Sized.{Sized, Sized-F, out-Sized}
use Rattle.size_values.specs.declared.sized.Sized.TheOpen as Z
use Rattle.jib.specs.declared.code.Source.{Source}
use Rattle.jib.specs.declared.code.Instruction.{Instruction}
use Rattle.jib.specs.declared.code.Instruction.TheVariants as I
use Rattle.jib.specs.declared.code.Operation.TheVariants as O
use Rattle.jib.specs.Values.{has}
use Rattle.jib.specs.Operations.{built}
use Rattle.jib.specs.Jib.{Slots, operate, plain, put, read, reads, slots_of}
use Rattle.sail_core.specs.Run.{Now, Run}
use Rattle.sail_core.specs.Values as C
use Rattle.sail_core.specs.Values.{with_fields, with_of}
use Rattle.sail_core.specs.Meaning.{built as built_of}
use Rattle.checked_meaning.specs.Fits.{each_fits, fields_fit, form_fits, has_sizes}
use Rattle.checked_meaning.specs.Items.{Item, typs, vals}
use Rattle.lowered_pieces.specs.Places.{Temp, from, to}
use Rattle.lowered_pieces.specs.Moves.{sources}
use Rattle.lowered_pieces.specs.Fields.{all_known, field_types_of, fields_out, types_under, with_code, with_make, with_sources}
use Rattle.lowered_pieces.specs.Forms.{Piece, made_of_piece, numbers_of, set_fields, live_code}
use Rattle.lowered_laws.specs.Standing.{HasAt, Tested}
use Rattle.lowered_laws.proofs.Facts.{below, put_same, tested_both, tested_here, tested_less, tested_put}
use Rattle.lowered_laws.proofs.Pieces.{has_back, has_front}
use Rattle.lowered_laws.proofs.Steps.{computed, go, moves}
use Rattle.lowered_laws.specs.Simulation.{bare, AtWork, kit, own_code, reading, RunsOn, Good}
use Rattle.lowered_laws.proofs.Follows.{no}
use Rattle.lowered_laws.proofs.States.{Is}
use Rattle.lowered_laws.proofs.Had.{fits_as_form, in_types, all_live, live_is}
use Rattle.lowered_laws.proofs.Paths.{field_worked}
use Rattle.lowered_laws.proofs.Calls.{GoodAll, InHand, in_hand_tested, read_in_hand}
use Rattle.lowered_laws.proofs.Works.{Makes, built_struct, fields_are, has_as, made_of_good, map_set_fields, none_is, out_as}

as_struct : (v : Value) (s : ℕ) (ys : List Value) → out-Value v ≡ E.Struct s ys → v ≡ V.Struct s ys
unfolding roll-Value denote.Hole.Carrier.roll
as_struct v s ys e = sym (roll-out-Value v) ∙ ap roll-Value e

-- what gets other values in fields is a struct
struct_is : (struct i : ℕ) (is : List ℕ) (vs : List Value) (old v : Value) → with_fields struct (i ∷ is) vs old ≡ Some v
    → (ys : List Value) × (old ≡ V.Struct struct ys)
struct_is struct i is [] old v e = none_is v e
struct_is struct i is (x ∷ vs) old v e = by (out-Value old) refl e
  where
    by : (o : Value-F Value) → out-Value old ≡ o → and_then (C.with_field struct i o x) (with_fields struct is vs) ≡ Some v
        → (ys : List Value) × (old ≡ V.Struct struct ys)
    by (E.Struct s ys) f h = at_number (nat_eq s struct) refl h
      where
        at_number : (b : Bool) → nat_eq s struct ≡ b
            → and_then (if b then option_map (V.Struct s) (C.set_at ys i x) else None) (with_fields struct is vs) ≡ Some v
            → (ys : List Value) × (old ≡ V.Struct struct ys)
        at_number true p q = (ys, as_struct old s ys f ∙ ap (λ k. V.Struct k ys) (eqb-true s struct p))
        at_number false p q = none_is v q
    by o f h = none_is v h

module _ (g : AtWork) where
  under_fits : (zs : List (Option ℤ)) (ss : List Sized) (ys : List Value) (o : Option (List Field))
      → fields_fit g.table zs ss (map (has_sizes g.table) ys) o ≡ true → each_fits (map (has_sizes g.table) ys) (types_under g.table zs ss o) ≡ true
  under_fits zs ss ys None h = no h
  under_fits zs ss ys (Some fs) h = h

  form_each : (struct : ℕ) (ys : List Value) (z : Sized-F Sized) → form_fits g.table (E.Struct struct (map (has_sizes g.table) ys)) z ≡ true
      → each_fits (map (has_sizes g.table) ys) (field_types_of g.table z) ≡ true
  form_each struct ys (Z.Named u zs ss) h =
      let both = and_parts (nat_eq struct u) (fields_fit g.table zs ss (map (has_sizes g.table) ys) (fields g.table struct)) h in
      subst (λ k. each_fits (map (has_sizes g.table) ys) (types_under g.table zs ss (fields g.table k)) ≡ true) (eqb-true struct u both.0)
      (under_fits zs ss ys (fields g.table struct) both.1)
  form_each struct ys z h = no h

  -- the fields of a struct have its fields' types
  each_field : (struct : ℕ) (ys : List Value) (t : Sized) → has_sizes g.table (V.Struct struct ys) t ≡ true
      → each_fits (map (has_sizes g.table) ys) (field_types_of g.table (out-Sized t)) ≡ true
  each_field struct ys t h =
      form_each struct ys (out-Sized t) (sym (fits_as_form g (V.Struct struct ys) (E.Struct struct ys) t (V.rolls-Struct struct ys)) ∙ h)

  -- values in hand from n on, of these types
  abbrev Fielded : Slots → ℕ → List Value → List Sized → Type 0
  Fielded sl n [] [] = Unit {0}
  Fielded sl n (v ∷ vs) (t ∷ ts) = (sl (g.name (Temp n) (g.number t)) ≡ v) × Fielded sl (n + 1) vs ts
  Fielded sl n vs ts = ⊥

  fielded_by : (sl sl2 : Slots) (m n : ℕ) (vs : List Value) (ts : List Sized) → n + length ts ≤ m → Tested (kit g) m sl sl2 → Fielded sl n vs ts
      → Fielded sl2 n vs ts
  fielded_by sl sl2 m n [] [] le td h = tt
  fielded_by sl sl2 m n [] (t ∷ ts) le td h = absurd h
  fielded_by sl sl2 m n (v ∷ vs) [] le td h = absurd h
  fielded_by sl sl2 m n (v ∷ vs) (t ∷ ts) le td h =
      (td.others (Temp n) (g.number t) (below m n (omega (arith, le))) ∙ h.0, fielded_by sl sl2 m (n + 1) vs ts (omega (arith, le)) td h.1)

  fielded_read : (n : ℕ) (vs : List Value) (ts : List Sized) (sl : Slots) (u : Now Item) → Fielded sl n vs ts
      → reads g.m g.lets g.hart (sources (kit g) n (numbers_of (kit g) g.number ts)) sl (bare u) ≡ vs
  fielded_read n [] [] sl u h = refl
  fielded_read n [] (t ∷ ts) sl u h = absurd h
  fielded_read n (v ∷ vs) [] sl u h = absurd h
  fielded_read n (v ∷ vs) (t ∷ ts) sl u h = let e = fielded_read (n + 1) vs ts sl u h.1 in λ i. h.0 i ∷ e i

  -- fields are taken out, one after the other
  out_runs : (struct : ℕ) (ys : List Value) (n y z j p : ℕ) (vs : List Value) (ts : List Sized) (sl : Slots) (u : Now Item) → n + 1 ≤ z
      → each_fits (map (has_sizes g.table) vs) ts ≡ true → all_known g.tables.known ts ≡ true
      → ((i : ℕ) (w : Value) → slice_get vs i ≡ Some w → slice_get ys (j + i) ≡ Some w) → sl (g.name (Temp n) y) ≡ V.Struct struct ys
      → HasAt (own_code g) p (fields_out (kit g) g.number g.table (from (kit g) (Temp n) y) j z ts)
      → ((sl2 : Slots) → Tested (kit g) z sl sl2 → Fielded sl2 z vs ts
      → RunsOn g (p + length (fields_out (kit g) g.number g.table (from (kit g) (Temp n) y) j z ts)) sl2 (bare u))
      → RunsOn g p sl (bare u)
  out_runs struct ys n y z j p [] [] sl u le h k at_ is hp next =
      moves g.m g.lets g.hart g.here g.ending (p + 0) p sl (bare u) (omega arith) (next sl (tested_here (kit g) z sl) tt)
  out_runs struct ys n y z j p [] (t ∷ ts) sl u le h k at_ is hp next = no h
  out_runs struct ys n y z j p (v ∷ vs) [] sl u le h k at_ is hp next = no h
  out_runs struct ys n y z j p (v ∷ vs) (t ∷ ts) sl u le h k at_ is hp next =
      let both = and_parts (has_sizes g.table v t) (each_fits (map (has_sizes g.table) vs) ts) h in
      let kn = and_parts (g.tables.known t) (all_known g.tables.known ts) k in
      let x : ℕ = g.number t in
      let a : Source = from (kit g) (Temp n) y in
      let i : Instruction = I.Apply (to (kit g) (Temp z) x) (O.Field j) (a ∷ []) in
      let is_ : Is g (Temp z) x = g.slots p (g.name (Temp z) x) i hp.0 refl in
      let sl1 : Slots = put sl (g.name (Temp z) x) v in
      let td : Tested (kit g) z sl sl1 = tested_put (kit g) (slots_of g.m g.here.function) g.names z z x sl v (omega arith) is_ in
      let field_is : C.field struct j (out-Value (V.Struct struct ys)) ≡ Some v =
      ap (C.field struct j) (out_as (V.Struct struct ys) (E.Struct struct ys) (V.rolls-Struct struct ys))
      ∙ ap (λ b. if b then slice_get ys j else None) (eq-eqb struct struct refl)
      ∙ subst (λ q. slice_get ys q ≡ Some v) (nothing_more j) (at_ 0 v refl) in
      let works : operate (slice_get g.m.types x) (O.Field j) (reads g.m g.lets g.hart (a ∷ []) sl (bare u)) g.hart u.state ≡ Some (plain u.state v) =
      ap (λ w. operate (slice_get g.m.types x) (O.Field j) (w ∷ []) g.hart u.state) is
      ∙ ap (option_map (plain u.state)) (field_worked struct j (slice_get g.m.types x) (V.Struct struct ys ∷ []) v field_is) in
      let code : List Instruction = fields_out (kit g) g.number g.table a (suc j) (z + 1) ts in
      go g.m g.lets g.hart g.here g.ending p sl sl1 (bare u) (bare u) i hp.0
      (computed g.m g.lets g.hart g.here g.ending (kit g) g.names (Temp z) x (O.Field j) (a ∷ []) sl (bare u) v is_ works (in_types g v t (both.0, kn.0)))
      (out_runs struct ys n y (z + 1) (suc j) (p + 1) vs ts sl1 u (omega (arith, le)) both.1 kn.1
      (λ q w e. subst (λ r. slice_get ys r ≡ Some w) (one_more j q) (at_ (suc q) w e))
      (td.others (Temp n) y (below z n (omega (arith, le))) ∙ is) hp.1
      (λ sl2 td2 fl.
      moves g.m g.lets g.hart g.here g.ending (p + length (i ∷ code)) (p + 1 + length code) sl2 (bare u) (omega arith)
      (next sl2 (tested_both (kit g) z sl sl1 sl2 td (tested_less (kit g) z (z + 1) sl1 sl2 (omega arith) td2))
      (td2.others (Temp z) x (below (z + 1) z (omega arith)) ∙ put_same sl (g.name (Temp z) x) v, fl))))
    where
      nothing_more : (j : ℕ) → j + 0 ≡ j
      nothing_more j = omega arith

      one_more : (j q : ℕ) → j + suc q ≡ suc j + q
      one_more j q = omega arith

  -- ---- the struct, and what it is built of

  with_makes : (struct i j : ℕ) (is : List ℕ) → Makes g (with_make (kit g) g.number g.table (i ∷ j ∷ is)) (with_of struct (i ∷ j ∷ is))
  with_makes struct i j is [] v s c p sl t e taken had hp hand hads next = none_is v e
  with_makes struct i j is (x ∷ xs) v s c p sl t e taken had hp hand hads next =
      let ks : List ℕ = i ∷ j ∷ is in
      let n : ℕ = s.temp in
      let it = struct_is struct i (j ∷ is) (vals xs) x.val v e in
      let ys : List Value = it.0 in
      let rs : List Sized = typs xs in
      let ts : List Sized = field_types_of g.table (out-Sized x.typ) in
      let z : ℕ = n + 1 + length rs in
      let y : ℕ = g.number x.typ in
      let yv : ℕ = g.number c.gives in
      let a : Source = from (kit g) (Temp n) y in
      let c1 : List Instruction = fields_out (kit g) g.number g.table a 0 z ts in
      let srcs : List Source = with_sources (kit g) g.number g.table ks n rs ts in
      let ib : Instruction = I.Apply (to (kit g) (Temp n) yv) O.Build srcs in
      let made : List Instruction = with_code (kit g) g.number g.table ks n c.takes c.gives in
      let code_is : live_code c.takes made ≡ c1 ++ ib ∷ [] =
      live_is c.takes (typs (x ∷ xs)) made taken (all_live g (x ∷ xs) hads) ∙ ap (λ q. with_code (kit g) g.number g.table ks n q c.gives) taken in
      let hc : HasAt (own_code g) p (c1 ++ ib ∷ []) = subst (λ q. HasAt (own_code g) p q) code_is hp in
      let p1 : ℕ = p + length c1 in
      let hb : HasAt (own_code g) p1 (ib ∷ []) = has_back (own_code g) p c1 (ib ∷ []) p1 refl hc in
      let whole : V.Struct struct (set_fields ks (vals xs) ys) ≡ v =
      fields_are struct ks (vals xs) ys v (ap (with_fields struct ks (vals xs)) (sym it.1) ∙ e) in
      let ws : List Value = set_fields ks (vals xs) ys in
      let ht : has g.m.types (V.Struct struct ws) yv ≡ true = ap (λ w. has g.m.types w yv) whole ∙ in_types g v c.gives had in
      let asked = sym (has_as g.m.types (V.Struct struct ws) (E.Struct struct ws) yv (V.rolls-Struct struct ws)) ∙ ht in
      let fits : each_fits (map (has_sizes g.table) ys) ts ≡ true =
      each_field struct ys x.typ (ap (λ w. has_sizes g.table w x.typ) (sym it.1) ∙ hads.0.0) in
      out_runs struct ys n y z 0 p ys ts sl t (omega arith) fits (g.knows.of_fields x.typ hads.0.1)
      (λ q w f. subst (λ r. slice_get ys r ≡ Some w) (from_zero q) f) (hand.0 ∙ it.1)
      (has_front (own_code g) p c1 (ib ∷ []) hc)
      (λ sl2 td fl.
      let isb : Is g (Temp n) yv = g.slots p1 (g.name (Temp n) yv) ib hb.0 refl in
      let sl3 : Slots = put sl2 (g.name (Temp n) yv) v in
      let hand2 : InHand g sl2 (n + 1) xs = in_hand_tested g z (n + 1) sl sl2 xs (many xs n) td hand.1 in
      let f : Source → Value = λ b. read g.m g.lets g.hart b sl2 (bare t) in
      let old_srcs : List Source = sources (kit g) z (numbers_of (kit g) g.number ts) in
      let new_srcs : List Source = sources (kit g) (n + 1) (numbers_of (kit g) g.number rs) in
      let rd : reads g.m g.lets g.hart srcs sl2 (bare t) ≡ ws =
      map_set_fields f ks new_srcs old_srcs
      ∙ ap (λ us. set_fields ks us (map f old_srcs)) (read_in_hand g (n + 1) xs sl2 (bare t) hand2)
      ∙ ap (set_fields ks (vals xs)) (fielded_read z ys ts sl2 t fl) in
      let works : operate (slice_get g.m.types yv) O.Build (reads g.m g.lets g.hart srcs sl2 (bare t)) g.hart t.state ≡ Some (plain t.state v) =
      ap (λ us. option_map (plain t.state) (built (slice_get g.m.types yv) us)) rd
      ∙ ap (option_map (plain t.state)) (built_struct (slice_get g.m.types yv) struct (map (has g.m.types) ws) ws asked ∙ ap Some whole) in
      let td3 : Tested (kit g) n sl sl3 =
      tested_both (kit g) n sl sl2 sl3 (tested_less (kit g) n z sl sl2 (omega arith) td)
      (tested_put (kit g) (slots_of g.m g.here.function) g.names n n yv sl2 v (omega arith) isb) in
      go g.m g.lets g.hart g.here g.ending p1 sl2 sl3 (bare t) (bare t) ib hb.0
      (computed g.m g.lets g.hart g.here g.ending (kit g) g.names (Temp n) yv O.Build srcs sl2 (bare t) v isb works (in_types g v c.gives had))
      (moves g.m g.lets g.hart g.here g.ending (p + length (c1 ++ ib ∷ [])) (p1 + 1) sl3 (bare t) (omega (arith, length-append c1 (ib ∷ [])))
      (subst (λ q. RunsOn g (p + length q) sl3 (bare t)) code_is (next sl3 td3 (put_same sl2 (g.name (Temp n) yv) v)))))
    where
      from_zero : (q : ℕ) → q ≡ 0 + q
      from_zero q = omega arith

      many : (xs : List Item) (n : ℕ) → n + 1 + length xs ≤ n + 1 + length (typs xs)
      many xs n = omega (arith, length-map xs (λ (y : Item). y.typ))

  pub with_several_good : (struct i j : ℕ) (is : List ℕ) (k : ℕ) (ms : List (Run Item Item)) (ps : List Piece) → GoodAll g ms ps
      → Good g (built_of (reading g) k ms (with_of struct (i ∷ j ∷ is)))
      (made_of_piece (kit g) g.number (with_make (kit g) g.number g.table (i ∷ j ∷ is)) (g.tables.cases k (length ps)) (g.tables.gives k) ps)
  with_several_good struct i j is k ms ps good =
      made_of_good g k (with_make (kit g) g.number g.table (i ∷ j ∷ is)) (with_of struct (i ∷ j ∷ is)) (with_makes struct i j is) ms ps good
