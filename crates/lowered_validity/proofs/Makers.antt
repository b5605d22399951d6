-- Values by the cases of their nodes: each way of making one has its types, and so has the piece.
use Rattle.jib.specs.declared.code.Literal.TheVariants as L
use Rattle.jib.specs.declared.code.Source.TheVariants as R
use Rattle.jib.specs.declared.code.Operation.TheVariants as O
use Rattle.jib.specs.declared.code.Instruction.TheVariants as I
use Rattle.sail_core.specs.Making.{payload}
use Rattle.checked_meaning.specs.Items.{part_typ}
use Rattle.std.proofs.Common.{zero, suc, length, subst, arith}
use Rattle.std.specs.Prelude.{false, slice_get, ◌||◌, if◌then◌else◌}
use Rattle.size_values.specs.declared.sized.Sized.{out-Sized}
use Rattle.lowered_pieces.specs.Fields.{field_types_of, fields_out, with_code, with_make, with_sources}
use Rattle.lowered_validity.specs.Right.{Fits}
use Rattle.std.proofs.Common.{Bool, List, None, Option, Some, [], ap, refl, sym, true, ℕ, ◌&&◌, ◌++◌, ◌+◌, ◌∙◌, ◌∷◌, ◌≡◌}
use Rattle.jib.specs.Operands.{makes, operation_typed}
use Rattle.jib.specs.Typing.{source_typ}
use Rattle.jib.specs.Valid.{is_quiet, is_stateless}
use Rattle.jib.specs.declared.code.Function.{Function}
use Rattle.jib.specs.declared.code.Instruction.{Instruction}
use Rattle.jib.specs.declared.code.Module.{Module}
use Rattle.jib.specs.declared.code.Operation.{Operation}
use Rattle.jib.specs.declared.code.Source.{Source}
use Rattle.lowered_pieces.specs.Forms.{Callees, Maker, Order, Stand, Tail, again_make, answer_make, cast_make, construct_code, construct_make, dead, first_type}
use Rattle.lowered_pieces.specs.Forms.{in_order, is_never, kit_at, live_code, local_make, made_arm, variable_make}
use Rattle.lowered_pieces.specs.Forms.{made_code, made_piece, note_code, numbers_of, picked_in, place_of, set_fields}
use Rattle.lowered_pieces.specs.Forms.{source_make, unit_source, work_make}
use Rattle.lowered_pieces.specs.Lowering.{kit_of}
use Rattle.lowered_pieces.specs.Moves.{retype, sources}
use Rattle.lowered_pieces.specs.Places.{Kit, Naming, Temp, from, to}
use Rattle.lowered_pieces.specs.Tables.{Tables}
use Rattle.lowered_types.specs.Table.{type_in}
use Rattle.lowered_validity.proofs.Cases.{Arms, by_case_right}
use Rattle.lowered_validity.proofs.Fitting.{Liked, Ordered, There, copy_fits, firsts, in_order_fits, like_constant, liked_fits, liked_sources, map_set_fields}
use Rattle.lowered_validity.proofs.Fitting.{move_right, one_fits, parts_of, retype_right, same_some, seconds, slot_copy, unit_is, work_fits}
use Rattle.lowered_validity.proofs.Flow.{alone, append, before}
use Rattle.lowered_validity.proofs.Notes.{notes_right}
use Rattle.lowered_validity.specs.Laws.{Numbered}
use Rattle.lowered_validity.specs.Right.{Labels, Placed, Right, RightPiece, RightTail, Signs}
use Rattle.lowered_validity.specs.Typing.{cases_right, comes, first_number, gives_in, is_cast, is_changed, is_constructed, is_payload, is_sourced, is_with}
use Rattle.lowered_validity.specs.Typing.{is_recast, is_work, numbers, one_operand, operands, picks_small, shell, takes_fields, with_slots, works}
use Rattle.sail_types.specs.declared.table.Types.{Types}
use Rattle.size_values.specs.declared.sized.Sized.{Sized}
use Rattle.sized_nodes.specs.declared.trees.Case.{Case}
use Rattle.value_indices.specs.declared.indices.Indices.{Indices}

module _ (types : Types) (ss : List Sized) (callees : Callees) (m : Module) (f : Function) (n : ℕ) (name : Naming) (g : Signs)
    (pl : Placed types ss (type_in ss) callees m f n name g) (tables : Tables) (all : Numbered types tables ss) where
  abbrev K : Kit
  K = kit_of types name (type_in ss) g.exception callees.size callees.direction

  abbrev number : Sized → ℕ
  number = type_in ss

  abbrev Ok : Labels → List Instruction → Type 0
  Ok out c = Right m f n out c

  -- what is decided of a case is enough for the code that makes its value
  abbrev pub Makes : (Case → Bool) → Maker K number → Type 0
  Makes p make = (out : Labels) (s : Stand) (c : Case) → p c ≡ true → Ok out (make s c)

  -- nothing is made of what doesn't exist
  pub live_right : (out : Labels) (ts : List Sized) (code : List Instruction) (b : Bool) → (dead ts || b) ≡ true → (b ≡ true → Ok out code)
      → Ok out (live_code ts code)
  live_right out ts code b h make = by (dead ts) h
    where
      by : (d : Bool) → (d || b) ≡ true → Ok out (if d then [] else code)
      by true e = tt
      by false e = make e

  pub one_live : (out : Labels) (t : Sized) (code : List Instruction) (b : Bool) → (is_never t || b) ≡ true → (b ≡ true → Ok out code)
      → Ok out (live_code (t ∷ []) code)
  one_live out t code b h make = by (is_never t) h
    where
      by : (d : Bool) → (d || b) ≡ true → Ok out (if d || false then [] else code)
      by true e = tt
      by false e = make e

  first_same : (ts : List Sized) → first_number types number callees tables g ts ≡ first_type K number ts
  first_same [] = refl
  first_same (t ∷ ts) = refl

  pub numbers_same : (ts : List Sized) → numbers types number callees tables g ts ≡ numbers_of K number ts
  numbers_same [] = refl
  numbers_same (t ∷ ts) = ap (λ us. number t ∷ us) (numbers_same ts)

  pub local_makes : (text : List ℕ) → Makes (is_cast types number callees tables g) (local_make K number text)
  local_makes text out s c h =
      move_right types ss callees m f n name g pl out (Temp s.temp) (number c.gives) (place_of s.scope text) (first_type K number c.takes)
      (ap (λ t. comes g t (number c.gives)) (sym (first_same c.takes)) ∙ h)

  pub variable_makes : (text : List ℕ) → Makes (λ c. true) (variable_make K number text)
  variable_makes text out s c h =
      alone m f n out (I.Copy (to K (Temp s.temp) (number c.gives)) (from K (place_of s.scope text) (number c.gives)))
      (slot_copy types ss callees m f n name g pl (Temp s.temp) (number c.gives) (place_of s.scope text)) tt

  pub cast_makes : Makes (is_recast types number callees tables g) (cast_make K number)
  cast_makes out s c h =
      live_right out c.takes (retype K s.temp (first_type K number c.takes) (number c.gives)) (is_cast types number callees tables g c) h (λ e.
      retype_right types ss callees m f n name g pl out s.temp (first_type K number c.takes) (number c.gives)
      (ap (λ t. comes g t (number c.gives)) (sym (first_same c.takes)) ∙ e))

  pub again_makes : (p : Case → Bool) → Makes p (again_make K number)
  again_makes p out s c h = tt

  pub answer_makes : (t : ℕ) → Makes (λ c. comes g t (number c.gives)) (answer_make K number t)
  answer_makes t out s c h = retype_right types ss callees m f n name g pl out s.temp t (number c.gives) h

  -- from a source of this type
  pub source_makes : (a : Source) (o : Option ℕ)
      → ((t : ℕ) → o ≡ Some t → There types ss callees m f n name g pl (a ∷ []) → source_typ m f a ≡ Some t) → (f.is_pure ≡ true → is_quiet 0 a ≡ true)
      → Makes (is_sourced types number callees tables g o) (source_make K number a)
  source_makes a o typ quiet out s c h =
      alone m f n out (I.Copy (to K (Temp s.temp) (number c.gives)) a)
      (copy_fits types ss callees m f n name g pl (Temp s.temp) (number c.gives) a (typ (number c.gives) (same_some o (number c.gives) h)) quiet) tt

  pub work_makes : (op : Operation) (first second : Order) → Ordered types ss callees m f n name g pl first second → (f.is_pure ≡ true → is_stateless op ≡ true)
      → Makes (is_work types number callees tables g op second) (work_make K number op first)
  work_makes op first second ordered pure out s c h =
      let i : Instruction = I.Apply (to K (Temp s.temp) (number c.gives)) op (first (sources K s.temp (numbers_of K number c.takes))) in
      live_right out c.takes (i ∷ [])
      (works types number callees tables g op (second (operands 0 (numbers types number callees tables g c.takes))) c.takes c.gives) h (λ e.
      alone m f n out i
      (work_fits types ss callees m f n name g pl (Temp s.temp) (number c.gives) op first second ordered pure s.temp (numbers_of K number c.takes)
      (ap (λ ts. operation_typed (shell g) (with_slots ts) op (second (operands 0 ts)) (Some (number c.gives))) (sym (numbers_same c.takes)) ∙ e)) tt)

  constructed : (out : Labels) (u c q : ℕ) (ts : List Sized) (s : Sized) → is_payload types number callees tables g u c ts s ≡ true
      → Ok out (construct_code K number types u c q ts s)
  constructed out u c q [] s h =
      let z : Liked types ss callees m f n name g pl [] =
      like_constant types ss callees m f n name g pl [] K.unit L.Unit (unit_is types ss callees m f n name g pl) in
      alone m f n out (I.Apply (to K (Temp q) (number s)) (O.Construct c) (unit_source K ∷ []))
      (liked_fits types ss callees m f n name g pl (Temp q) (number s) (O.Construct c) [] (z ∷ []) (λ e. refl) h) tt
  constructed out u c q (t ∷ []) s h =
      alone m f n out (I.Apply (to K (Temp q) (number s)) (O.Construct c) (from K (Temp q) (number t) ∷ []))
      (one_fits types ss callees m f n name g pl (Temp q) (number s) (O.Construct c) (Temp q) (number t) refl h) tt
  constructed out u c q (t ∷ r ∷ ts) s h =
      let p : Sized = part_typ types (payload u c) s in
      let us : List Sized = t ∷ r ∷ ts in
      let i1 : Instruction = I.Apply (to K (Temp q) (number p)) O.Build (sources K q (numbers_of K number us)) in
      let i2 : Instruction = I.Apply (to K (Temp q) (number s)) (O.Construct c) (from K (Temp q) (number p) ∷ []) in
      let d = parts_of (works types number callees tables g O.Build (operands 0 (numbers types number callees tables g us)) us p)
      (works types number callees tables g (O.Construct c) one_operand (p ∷ []) s) h in
      before m f n out i1 (i2 ∷ [])
      (work_fits types ss callees m f n name g pl (Temp q) (number p) O.Build in_order in_order (in_order_fits types ss callees m f n name g pl) (λ e. refl) q
      (numbers_of K number us)
      (ap (λ x. operation_typed (shell g) (with_slots x) O.Build (operands 0 x) (Some (number p))) (sym (numbers_same us)) ∙ d.0)) tt
      (alone m f n out i2 (one_fits types ss callees m f n name g pl (Temp q) (number s) (O.Construct c) (Temp q) (number p) refl d.1) tt)

  pub construct_makes : (u c : ℕ) → Makes (is_constructed types number callees tables g u c) (construct_make K number types u c)
  construct_makes u c out s a h =
      live_right out a.takes (construct_code K number types u c s.temp a.takes a.gives) (is_payload types number callees tables g u c a.takes a.gives) h
      (constructed out u c s.temp a.takes a.gives)

  -- ---- several fields of a struct

  nums_first : (ts old : List Sized) (j t : ℕ) → slice_get (numbers types number callees tables g ts) j ≡ Some t
      → slice_get (numbers types number callees tables g (ts ++ old)) j ≡ Some t
  nums_first [] old j t e = none e
    where
      none : {A : Type 0} → None ≡ Some t → A
      none e = cc
  nums_first (u ∷ ts) old zero t e = e
  nums_first (u ∷ ts) old (suc j) t e = nums_first ts old j t e

  nums_second : (ts old : List Sized) (j : ℕ)
      → slice_get (numbers types number callees tables g (ts ++ old)) (length ts + j) ≡ slice_get (numbers types number callees tables g old) j
  nums_second [] old j = ap (slice_get (numbers types number callees tables g old)) (begun j)
    where
      begun : (j : ℕ) → 0 + j ≡ j
      begun j = omega arith
  nums_second (u ∷ ts) old j =
      ap (slice_get (number u ∷ numbers types number callees tables g (ts ++ old))) (shifted (length ts) j) ∙ nums_second ts old j
    where
      shifted : (k j : ℕ) → suc k + j ≡ suc (k + j)
      shifted k j = omega arith

  fields_out_right : (out : Labels) (p q : ℕ) (t : Sized) (us : List Sized) (j : ℕ) → takes_fields types number callees tables g t j us ≡ true
      → Ok out (fields_out K number types (from K (Temp p) (number t)) j q us)
  fields_out_right out p q t [] j d = tt
  fields_out_right out p q t (u ∷ us) j d =
      let r = parts_of (works types number callees tables g (O.Field j) one_operand (t ∷ []) u) (takes_fields types number callees tables g t (suc j) us) d in
      before m f n out (I.Apply (to K (Temp q) (number u)) (O.Field j) (from K (Temp p) (number t) ∷ []))
      (fields_out K number types (from K (Temp p) (number t)) (suc j) (q + 1) us)
      (one_fits types ss callees m f n name g pl (Temp q) (number u) (O.Field j) (Temp p) (number t) refl r.0) tt
      (fields_out_right out p (q + 1) t us (suc j) r.1)

  build_fits : (is : List ℕ) (q : ℕ) (ts old : List Sized) (s : Sized)
      → works types number callees tables g O.Build
      (set_fields is (operands 0 (numbers types number callees tables g ts)) (operands (length ts) (numbers types number callees tables g old))) (ts ++ old)
      s ≡ true
      → Fits m f n (I.Apply (to K (Temp q) (number s)) O.Build (with_sources K number types is q ts old))
  build_fits is q ts old s d =
      let us : List ℕ = numbers types number callees tables g (ts ++ old) in
      let n1 : List ℕ = numbers types number callees tables g ts in
      let n2 : List ℕ = numbers types number callees tables g old in
      let r1 = liked_sources types ss callees m f n name g pl us n1 (q + 1) 0 (λ j t e. ap (slice_get us) (begun j) ∙ nums_first ts old j t e) in
      let r2 = liked_sources types ss callees m f n name g pl us n2 (q + 1 + length ts) (length ts) (λ j t e. nums_second ts old j ∙ e) in
      let ys : List (Liked types ss callees m f n name g pl us) = set_fields is r1.0 r2.0 in
      let e1 : firsts types ss callees m f n name g pl us ys ≡ with_sources K number types is q ts old =
      map_set_fields (λ (z : Liked types ss callees m f n name g pl us). z.0) is r1.0 r2.0
      ∙ (λ j. set_fields is ((r1.1 ∙ ap (sources K (q + 1)) (numbers_same ts)) j) ((r2.1 ∙ ap (sources K (q + 1 + length ts)) (numbers_same old)) j)) in
      let e2 : seconds types ss callees m f n name g pl us ys ≡ set_fields is (operands 0 n1) (operands (length ts) n2) =
      map_set_fields (λ (z : Liked types ss callees m f n name g pl us). z.1) is r1.0 r2.0 ∙ (λ j. set_fields is (r1.2 j) (r2.2 j)) in
      subst (λ rs. Fits m f n (I.Apply (to K (Temp q) (number s)) O.Build rs)) e1
      (liked_fits types ss callees m f n name g pl (Temp q) (number s) O.Build us ys (λ e. refl)
      (ap (λ rs. operation_typed (shell g) (with_slots us) O.Build rs (Some (number s))) e2 ∙ d))
    where
      begun : (j : ℕ) → 0 + j ≡ j
      begun j = omega arith

  changed_right : (out : Labels) (is : List ℕ) (q : ℕ) (ts : List Sized) (s : Sized) → is_with types number callees tables g is ts s ≡ true
      → Ok out (with_code K number types is q ts s)
  changed_right out is q [] s d = tt
  changed_right out is q (t ∷ ts) s d =
      let old : List Sized = field_types_of types (out-Sized t) in
      let a1 : Bool = takes_fields types number callees tables g t 0 old in
      let a2 : Bool = works types number callees tables g O.Build
      (set_fields is (operands 0 (numbers types number callees tables g ts)) (operands (length ts) (numbers types number callees tables g old))) (ts ++ old)
      s in
      let r = parts_of a1 a2 d in
      let i2 : Instruction = I.Apply (to K (Temp q) (number s)) O.Build (with_sources K number types is q ts old) in
      append m f n out (fields_out K number types (from K (Temp q) (number t)) 0 (q + 1 + length ts) old) (i2 ∷ [])
      (fields_out_right out q (q + 1 + length ts) t old 0 r.0) (alone m f n out i2 (build_fits is q ts old s r.1) tt)

  pub with_makes : (is : List ℕ) → Makes (is_changed types number callees tables g is) (with_make K number types is)
  with_makes is out s c h =
      live_right out c.takes (with_code K number types is s.temp c.takes c.gives) (is_with types number callees tables g is c.takes c.gives) h
      (changed_right out is s.temp c.takes c.gives)

  -- ---- by the cases of a node

  made_arms : (p : Case → Bool) (make : Maker K number) → Makes p make → (gives : List Indices) (tail : Tail) (s : Stand) (out : Labels) (cases : List Case)
      → cases_right types number callees tables g p cases ≡ true → RightTail m f n out tail (gives_in cases)
      → Arms types ss callees m f n name g pl picked_in (made_arm K number make gives tail s) out cases
  made_arms p make makes gives tail s out [] h ht = tt
  made_arms p make makes gives tail s out (c ∷ cs) h ht =
      let q = parts_of (picks_small c.picked) (tables.known c.gives && (p c && cases_right types number callees tables g p cs)) h in
      let r = parts_of (tables.known c.gives) (p c && cases_right types number callees tables g p cs) q.1 in
      let w = parts_of (p c) (cases_right types number callees tables g p cs) r.1 in
      let noted : List Instruction = note_code (kit_at K s.depths) number s.temp gives c.gives in (
        (
          q.0,
          λ l. append m f n out (make s c) (noted ++ tail.code c.gives l) (makes out s c w.0)
              (append m f n out noted (tail.code c.gives l)
              (notes_right types ss callees m f n name g pl tables all s.depths out s.temp gives c.gives (all.known c.gives r.0)) (ht.0 l)),
        ),
        made_arms p make makes gives tail s out cs w.1 ht.1,
      )

  pub made_right : (k : ℕ) (p : Case → Bool) (make : Maker K number) → Makes p make → (cases : List Case)
      → cases_right types number callees tables g p cases ≡ true → (gives : List Indices) (out : Labels) (tail : Tail) (s : Stand) (l : ℕ)
      → RightTail m f n out tail (gives_in cases) → Ok out (made_code K number k make cases gives tail s l)
  made_right k p make makes cases h gives out tail s l ht =
      by_case_right types ss callees m f n name g pl picked_in s.depths (s.temp + k) tail.labels (made_arm K number make gives tail s) out cases
      (made_arms p make makes gives tail s out cases h ht) l

  pub made_piece_right : (p : Case → Bool) (make : Maker K number) → Makes p make → (cases : List Case)
      → cases_right types number callees tables g p cases ≡ true → (gives : List Indices)
      → RightPiece m f n (made_piece K number make cases gives) (gives_in cases)
  made_piece_right p make makes cases h gives out tail s l ot on ht = made_right 0 p make makes cases h gives out tail s l ht
