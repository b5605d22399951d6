-- Flat arms: heads take out parts of the types that are decided to be there, and a value that is another one goes on at the next arm.
use Rattle.sail_types.specs.declared.types.Typ.TheVariants as Y
use Rattle.sail_types.specs.declared.rows.Row.TheVariants as B
use Rattle.jib.specs.declared.types.Sort.TheVariants as Q
use Rattle.jib.specs.declared.code.Literal.TheVariants as L
use Rattle.jib.specs.declared.code.Source.TheVariants as R
use Rattle.jib.specs.declared.code.Operation.TheVariants as O
use Rattle.jib.specs.declared.code.Instruction.TheVariants as I
use Rattle.sail_core.specs.declared.patterns.Head.TheVariants as H
use Rattle.sail_core.specs.declared.patterns.Step.TheVariants as P
use Rattle.value_indices.specs.declared.indices.Indices.TheOpen as W
use Rattle.sail_core.specs.Making.{Part, component, one_item, payload, without_first}
use Rattle.size_values.specs.declared.sized.Sized.TheVariants as Z
use Rattle.lowered_validity.specs.Typing.{cut_right, cut_typed, cut_types, list_right, widths_in}
use Rattle.lowered_pieces.specs.Arms.{cut_take, cut_takes, empty_step, first_code, jump_step, list_code, list_held, rest_at, word_width}
use Rattle.checked_meaning.specs.Items.{part_typ}
use Rattle.std.specs.Prelude.{pos, ◌-ℤ◌, nat_eq}
use Rattle.std.proofs.Common.{inl, inr, eqb-true, subst}
use Rattle.std.proofs.lemmas.List.{map-append}
use Rattle.jib.specs.declared.types.Sort.{Sort}
use Rattle.jib.specs.declared.code.Literal.{Literal}
use Rattle.jib.specs.Sorts.{sort_eq}
use Rattle.jib.specs.Operands.{alike, compared, has_sort, some_comparable}
use Rattle.jib.specs.Typing.{is_item, is_some_sort, is_sort, literal_typ, payload_typ, same, sort_at, sort_some}
use Rattle.lowered_validity.specs.Typing.{payload_parts, payload_right, is_constant}
use Rattle.std.proofs.Common.{Bool, List, None, Option, Some, [], ap, cond, false, if◌then◌else◌, length, map, not, refl, suc, sym, true, zero, ℕ, ℤ, ◌&&◌}
use Rattle.std.proofs.Common.{◌++◌, ◌+◌, ◌-◌, ◌∙◌, ◌∷◌, ◌≡◌}
use Rattle.std.specs.Prelude.{slice_get}
use Rattle.checked_meaning.specs.Items.{fixed_typ}
use Rattle.jib.specs.Typing.{literal_some}
use Rattle.jib.specs.Valid.{is_cause}
use Rattle.jib.specs.declared.code.Function.{Function}
use Rattle.jib.specs.declared.code.Instruction.{Instruction}
use Rattle.jib.specs.declared.code.Module.{Module}
use Rattle.jib.specs.declared.code.Source.{Source}
use Rattle.lowered_pieces.specs.Arms.{Choice, Hand, Held, Matched, Taken, arguments, arm_hand, arm_noted, arm_piece, arm_stand, at_hand, begun, catch_piece}
use Rattle.lowered_pieces.specs.Arms.{caught_piece, choice_code, choice_labels, choices, choices_at, constant_of, else_piece, failing, fall_piece}
use Rattle.lowered_pieces.specs.Arms.{fields_code, fields_held, first_piece, given_held, hand_of, head_taken, held_at, in_hand, is_union, let_piece}
use Rattle.lowered_pieces.specs.Arms.{looks_code, many_taken, match_piece, moved, one_taken, part_at, payload_step, payload_taken, picked_of, places_of}
use Rattle.lowered_pieces.specs.Arms.{raised_piece, seen_code, skipped, step_hand, steps_code, steps_hand, steps_in, stop_here, takes_code, takes_held}
use Rattle.lowered_pieces.specs.Arms.{test_code, throw_here, thrown_code, try_piece, tuple_noted, values_noted, vector_takes, way_call, with_taken}
use Rattle.lowered_pieces.specs.Moves.{move}
use Rattle.lowered_pieces.specs.Chains.{by_case}
use Rattle.lowered_pieces.specs.Forms.{Callees, Depths, End, Piece, Stand, Tail, caught_at, ends_of, inside_piece, kit_at, noter_of, source_make}
use Rattle.lowered_pieces.specs.Lowering.{kit_of}
use Rattle.lowered_pieces.specs.Places.{Kit, Mapped, Naming, Raised, Temp, from, to}
use Rattle.lowered_pieces.specs.Tables.{Tables}
use Rattle.lowered_types.specs.Table.{is_known, type_in}
use Rattle.lowered_validity.proofs.Cases.{Arms, by_case_right}
use Rattle.lowered_validity.proofs.Fitting.{Liked, both, call_fits, copy_fits, like_constant, like_slot, liked_fits, one_fits, parts_of, payload_fits}
use Rattle.lowered_validity.proofs.Fitting.{move_right, slot_copy, slot_typ, truth_fits}
use Rattle.lowered_validity.proofs.Flow.{alone, append, before, join, set_behind, set_first, set_next, tail_first, tail_more, tail_second}
use Rattle.lowered_validity.proofs.Forms.{inside_right, seq_right}
use Rattle.lowered_validity.proofs.Labels.{goto_fits, label_fits, label_meets, label_more, label_there, stop_fits, with_label}
use Rattle.lowered_validity.proofs.Makers.{made_piece_right, source_makes}
use Rattle.lowered_validity.proofs.Notes.{noter_right, slot_typed}
use Rattle.lowered_validity.specs.Laws.{Numbered}
use Rattle.lowered_validity.specs.Right.{Fits, Labels, Placed, Right, RightPiece, RightTail, Signs}
use Rattle.lowered_validity.specs.Typing.{Typing, all_thrown, are_known, arm_right, arms_right, arms_types, cases_right, ends_right, fields_right, fields_typ}
use Rattle.lowered_validity.specs.Typing.{gives_in, head_right, head_types, is_sourced, items_right, items_typ, matched_right, one_operand, picks_small}
use Rattle.lowered_validity.specs.Typing.{comes, sees_right, shell, steps_right, typ_at_hand, works}
use Rattle.model_state.specs.declared.cause.Cause.{Cause}
use Rattle.sail_base.specs.declared.place.Place.{Place as TextPlace}
use Rattle.sail_core.specs.declared.patterns.Arm.{Arm}
use Rattle.sail_core.specs.declared.patterns.Head.{Head}
use Rattle.sail_core.specs.declared.patterns.Step.{Step}
use Rattle.sail_types.specs.declared.table.Types.{Types}
use Rattle.size_values.specs.declared.sized.Sized.{Sized, out-Sized}
use Rattle.sized_nodes.specs.declared.trees.Case.{Case}
use Rattle.value_indices.specs.declared.indices.Indices.{Indices, out-Indices}
use Rattle.value_indices.specs.declared.indices.Indices.TheOpen.{Indices-F}
use Rattle.value_indices.specs.declared.indices.Reading.{Reading}

abbrev pub held_types : List Held → List Sized
held_types hs = map (λ h. h.typ) hs

sort_self : (s : Sort) → sort_eq s s ≡ true
sort_self Q.Unit = refl
sort_self Q.Integer = refl
sort_self Q.Truth = refl
sort_self Q.Bit = refl
sort_self Q.Bits = refl
sort_self Q.String = refl
sort_self Q.Enum = refl
sort_self Q.List = refl
sort_self Q.Vector = refl
sort_self Q.Tuple = refl
sort_self Q.Struct = refl
sort_self Q.Union = refl

-- ---- pieces under a label of their own

module _ (m : Module) (f : Function) (n : ℕ) (types : Types) (kit : Kit) where
  pub else_right : (a b : Piece) (ts us : List Sized) → RightPiece m f n a ts → RightPiece m f n b us → RightPiece m f n (else_piece types kit a b) (ts ++ us)
  else_right a b ts us ha hb out tail s l ot on ht =
      let q : ℕ = tail.labels in
      let lb : ℕ = l + 2 + a.labels q in
      let c1 : List Instruction = a.ended tail (failing types kit l s) (l + 2) in
      let c2 : List Instruction = b.ended tail s lb in
      let last : List Instruction = I.Label (l + 1) ∷ [] in
      let t2 : List Instruction = I.Goto (l + 1) ∷ I.Label l ∷ (c2 ++ last) in
      let more : Labels = with_label l out in
      join m f n more out c1 t2 (label_meets l t2 out (set_next l (I.Goto (l + 1)) (I.Label l ∷ (c2 ++ last)) (set_first l (c2 ++ last))))
      (ha more tail (failing types kit l s) (l + 2) (label_more l out s.on_throw ot) (label_there l out)
      (tail_more m f n out more (label_more l out) tail ts (tail_first m f n out tail ts us ht)))
      (before m f n out (I.Goto (l + 1)) (I.Label l ∷ (c2 ++ last)) (goto_fits m f n (l + 1))
      (inl (set_next (l + 1) (I.Label l) (c2 ++ last) (set_behind (l + 1) c2 last (set_first (l + 1) []))))
      (before m f n out (I.Label l) (c2 ++ last) (label_fits m f n l) tt
      (append m f n out c2 last (hb out tail s lb ot on (tail_second m f n out tail ts us ht))
      (alone m f n out (I.Label (l + 1)) (label_fits m f n (l + 1)) tt))))

  pub catch_right : (a b : Piece) (ts us : List Sized) → RightPiece m f n a ts → RightPiece m f n b us → RightPiece m f n (catch_piece types kit a b) (ts ++ us)
  catch_right a b ts us ha hb out tail s l ot on ht =
      let q : ℕ = tail.labels in
      let lb : ℕ = l + 2 + a.labels q in
      let c1 : List Instruction = a.ended tail (caught_at l s) (l + 2) in
      let c2 : List Instruction = b.ended tail s lb in
      let last : List Instruction = I.Label (l + 1) ∷ [] in
      let t2 : List Instruction = I.Goto (l + 1) ∷ I.Label l ∷ (c2 ++ last) in
      let more : Labels = with_label l out in
      join m f n more out c1 t2 (label_meets l t2 out (set_next l (I.Goto (l + 1)) (I.Label l ∷ (c2 ++ last)) (set_first l (c2 ++ last))))
      (ha more tail (caught_at l s) (l + 2) (label_there l out) (label_more l out s.on_no on)
      (tail_more m f n out more (label_more l out) tail ts (tail_first m f n out tail ts us ht)))
      (before m f n out (I.Goto (l + 1)) (I.Label l ∷ (c2 ++ last)) (goto_fits m f n (l + 1))
      (inl (set_next (l + 1) (I.Label l) (c2 ++ last) (set_behind (l + 1) c2 last (set_first (l + 1) []))))
      (before m f n out (I.Label l) (c2 ++ last) (label_fits m f n l) tt
      (append m f n out c2 last (hb out tail s lb ot on (tail_second m f n out tail ts us ht))
      (alone m f n out (I.Label (l + 1)) (label_fits m f n (l + 1)) tt))))

  pub stop_here_right : (cause : Cause) → is_cause cause ≡ true → RightPiece m f n (stop_here types kit cause) []
  stop_here_right cause h out tail s l ot on ht = alone m f n out (I.Stop cause) (stop_fits m f n cause h) tt

  pub fall_right : RightPiece m f n (fall_piece types kit) []
  fall_right out tail s l ot on ht = alone m f n out (I.Goto s.on_no) (goto_fits m f n s.on_no) (inr on)

module _ (types : Types) (ss : List Sized) (callees : Callees) (m : Module) (f : Function) (n : ℕ) (name : Naming) (g : Signs)
    (pl : Placed types ss (type_in ss) callees m f n name g) (tables : Tables) (all : Numbered types tables ss) where
  abbrev K : Kit
  K = kit_of types name (type_in ss) g.exception callees.size callees.direction

  abbrev number : Sized → ℕ
  number = type_in ss

  abbrev Ok : Labels → List Instruction → Type 0
  Ok out c = Right m f n out c

  abbrev Piece_ : Piece → List Sized → Type 0
  Piece_ p ts = RightPiece m f n p ts

  -- ---- heads

  fields_are_right : (out : Labels) (h : Held) (k j q : ℕ) → fields_right types number callees tables g h.typ j k ≡ true → Ok out (fields_code types K h j q k)
  fields_are_right out h zero j q d = tt
  fields_are_right out h (suc k) j q d =
      let t : Sized = part_typ types (component j) h.typ in
      let r = parts_of (works types number callees tables g (O.Field j) one_operand (h.typ ∷ []) t)
      (fields_right types number callees tables g h.typ (suc j) k) d in
      before m f n out (I.Apply (to K (Temp q) (number t)) (O.Field j) (from K h.place (number h.typ) ∷ [])) (fields_code types K h (suc j) (q + 1) k)
      (one_fits types ss callees m f n name g pl (Temp q) (number t) (O.Field j) h.place (number h.typ) refl r.0) tt
      (fields_are_right out h k (suc j) (q + 1) r.1)

  fields_types : (h : Held) (k j q : ℕ) → held_types (fields_held types K h j q k) ≡ fields_typ types number callees tables g h.typ j k
  fields_types h zero j q = refl
  fields_types h (suc k) j q = ap (λ ts. part_typ types (component j) h.typ ∷ ts) (fields_types h k (suc j) (q + 1))

  abbrev HeadOk : Labels → Taken → List Sized → Type 0
  HeadOk out t ts = Ok out t.code × (held_types t.parts ≡ ts)

  self_sort : (o : Option Sort) → some_comparable o ≡ true → (t : ℕ) → sort_at (shell g) (Some t) ≡ o → has_sort (shell g) (Some t) o ≡ true
  self_sort None h t e = cc
  self_sort (Some s) h t e = ap (λ o. is_some_sort o s) e ∙ sort_self s

  test_right : (out : Labels) (h : Held) (q : ℕ) (literal : Literal) (fail : ℕ) → out fail ≡ true
      → (is_constant types number callees tables g h.typ literal && some_comparable (sort_at (shell g) (Some (number h.typ)))) ≡ true
      → Ok out (test_code types K h q literal fail)
  test_right out h q literal fail o d =
      let t : ℕ = number h.typ in
      let r = parts_of (is_constant types number callees tables g h.typ literal) (some_comparable (sort_at (shell g) (Some t))) d in
      let us : List ℕ = t ∷ [] in
      let a : Liked types ss callees m f n name g pl us = like_constant types ss callees m f n name g pl us t literal r.0 in
      let b : Liked types ss callees m f n name g pl us = like_slot types ss callees m f n name g pl us h.place t 0 refl in
      let typ : literal_typ (shell g) t literal ≡ Some t = ap (λ x. cond x (Some t) None) r.0 in
      let both_sorts : compared (shell g) (literal_typ (shell g) t literal) (Some t) ≡ true =
      ap (λ x. compared (shell g) x (Some t)) typ
      ∙ both (some_comparable (sort_at (shell g) (Some t))) (has_sort (shell g) (Some t) (sort_at (shell g) (Some t))) r.1
      (self_sort (sort_at (shell g) (Some t)) r.1 t refl) in
      let i1 : Instruction = I.Apply (to K (Temp q) K.truth) (O.Builtin B.Neq) (R.Constant t literal ∷ from K h.place t ∷ []) in
      let i2 : Instruction = I.JumpIf (from K (Temp q) K.truth) fail in
      before m f n out i1 (i2 ∷ [])
      (liked_fits types ss callees m f n name g pl (Temp q) K.truth (O.Builtin B.Neq) us (a ∷ b ∷ []) (λ e. refl)
      (both (compared (shell g) (literal_typ (shell g) t literal) (Some t)) (is_sort (shell g) (Some K.truth) Q.Truth) both_sorts
      (ap (λ x. is_some_sort (sort_some x) Q.Truth) pl.basic.truth))) tt
      (alone m f n out i2 (truth_fits types ss callees m f n name g pl (Temp q) fail) (inr o))

  -- ---- items

  int_small : (z : ℤ) → is_sort (shell g) (literal_typ (shell g) K.integer (L.Integer z)) Q.Integer ≡ true
      → literal_some (slice_get g.table K.integer) (L.Integer z) ≡ true
  int_small z h = by (literal_some (slice_get g.table K.integer) (L.Integer z)) h
    where
      by : (b : Bool) → is_sort (shell g) (cond b (Some K.integer) None) Q.Integer ≡ true → b ≡ true
      by true e = refl
      by false e = e

  items_are_right : (out : Labels) (h : Held) (k q : ℕ) → items_right types number callees tables g h.typ k ≡ true
      → Ok out (takes_code types K (vector_takes types K h k) q)
  items_are_right out h zero q d = tt
  items_are_right out h (suc j) q d =
      let t : Sized = part_typ types one_item h.typ in
      let us : List ℕ = number h.typ ∷ [] in
      let index : Source = R.Constant K.integer (L.Integer (pos j)) in
      let is_typed : Bool = works types number callees tables g O.Item (R.Slot 0 ∷ index ∷ []) (h.typ ∷ []) t in
      let r = parts_of is_typed (items_right types number callees tables g h.typ j) d in
      let p = parts_of (is_item (shell g) (Some (number t)) (Some (number h.typ)))
      (is_sort (shell g) (literal_typ (shell g) K.integer (L.Integer (pos j))) Q.Integer)
      r.0 in
      let a : Liked types ss callees m f n name g pl us = like_slot types ss callees m f n name g pl us h.place (number h.typ) 0 refl in
      let b : Liked types ss callees m f n name g pl us =
      like_constant types ss callees m f n name g pl us K.integer (L.Integer (pos j)) (int_small (pos j) p.1) in
      before m f n out (I.Apply (to K (Temp q) (number t)) O.Item (from K h.place (number h.typ) ∷ index ∷ []))
      (takes_code types K (vector_takes types K h j) (q + 1))
      (liked_fits types ss callees m f n name g pl (Temp q) (number t) O.Item us (a ∷ b ∷ []) (λ e. refl) r.0) tt
      (items_are_right out h j (q + 1) r.1)

  items_types : (h : Held) (k q : ℕ) → held_types (takes_held types K (vector_takes types K h k) q) ≡ items_typ types number callees tables g h.typ k
  items_types h zero q = refl
  items_types h (suc j) q = ap (λ ts. part_typ types one_item h.typ ∷ ts) (items_types h j (q + 1))

  -- ---- lists

  not_fits : (q : ℕ) → Fits m f n (I.Apply (to K (Temp q) K.truth) (O.Builtin B.NotBool) (from K (Temp q) K.truth ∷ []))
  not_fits q =
      let truth : is_some_sort (sort_some (slice_get g.table K.truth)) Q.Truth ≡ true = ap (λ o. is_some_sort (sort_some o) Q.Truth) pl.basic.truth in
      one_fits types ss callees m f n name g pl (Temp q) K.truth (O.Builtin B.NotBool) (Temp q) K.truth refl (λ j. (truth j && true) && truth j)

  empty_fits : (h : Held) (q : ℕ) → works types number callees tables g O.IsEmpty one_operand (h.typ ∷ []) (fixed_typ types Y.Bool) ≡ true
      → Fits m f n (empty_step types K h q)
  empty_fits h q d = one_fits types ss callees m f n name g pl (Temp q) K.truth O.IsEmpty h.place (number h.typ) refl d

  first_is_right : (out : Labels) (h : Held) (q fail : ℕ) → out fail ≡ true → list_right types number callees tables g h.typ ≡ true
      → Ok out (first_code types K h q fail)
  first_is_right out h q fail o d =
      let t : Sized = part_typ types one_item h.typ in
      let u : Sized = part_typ types without_first h.typ in
      let us : List ℕ = number h.typ ∷ [] in
      let index : Source = R.Constant K.integer (L.Integer (pos 0)) in
      let a1 : Bool = works types number callees tables g O.IsEmpty one_operand (h.typ ∷ []) (fixed_typ types Y.Bool) in
      let a2 : Bool = works types number callees tables g O.Item (R.Slot 0 ∷ index ∷ []) (h.typ ∷ []) t in
      let a3 : Bool = works types number callees tables g O.Rest one_operand (h.typ ∷ []) h.typ in
      let r = parts_of a1 (a2 && a3) d in
      let w = parts_of a2 a3 r.1 in
      let p = parts_of (is_item (shell g) (Some (number t)) (Some (number h.typ)))
      (is_sort (shell g) (literal_typ (shell g) K.integer (L.Integer (pos 0))) Q.Integer)
      w.0 in
      let a : Liked types ss callees m f n name g pl us = like_slot types ss callees m f n name g pl us h.place (number h.typ) 0 refl in
      let b : Liked types ss callees m f n name g pl us =
      like_constant types ss callees m f n name g pl us K.integer (L.Integer (pos 0)) (int_small (pos 0) p.1) in
      let i3 : Instruction = I.Apply (to K (Temp q) (number t)) O.Item (from K h.place (number h.typ) ∷ index ∷ []) in
      let i4 : Instruction = I.Apply (to K (Temp (q + 1)) (number u)) O.Rest (from K h.place (number h.typ) ∷ []) in
      before m f n out (empty_step types K h q) (jump_step types K q fail ∷ i3 ∷ i4 ∷ []) (empty_fits h q r.0) tt
      (before m f n out (jump_step types K q fail) (i3 ∷ i4 ∷ []) (truth_fits types ss callees m f n name g pl (Temp q) fail) (inr o)
      (before m f n out i3 (i4 ∷ [])
      (liked_fits types ss callees m f n name g pl (Temp q) (number t) O.Item us (a ∷ b ∷ []) (λ e. refl) w.0) tt
      (alone m f n out i4 (one_fits types ss callees m f n name g pl (Temp (q + 1)) (number u) O.Rest h.place (number h.typ) refl w.1) tt)))

  list_is_right : (out : Labels) (h : Held) (k q fail : ℕ) → out fail ≡ true → list_right types number callees tables g h.typ ≡ true
      → Ok out (list_code types K h k q fail)
  list_is_right out h zero q fail o d =
      let a1 : Bool = works types number callees tables g O.IsEmpty one_operand (h.typ ∷ []) (fixed_typ types Y.Bool) in
      let a2 : Bool = works types number callees tables g O.Item (R.Slot 0 ∷ R.Constant K.integer (L.Integer (pos 0)) ∷ []) (h.typ ∷ [])
      (part_typ types one_item h.typ) in
      let a3 : Bool = works types number callees tables g O.Rest one_operand (h.typ ∷ []) h.typ in
      let i2 : Instruction = I.Apply (to K (Temp q) K.truth) (O.Builtin B.NotBool) (from K (Temp q) K.truth ∷ []) in
      before m f n out (empty_step types K h q) (i2 ∷ jump_step types K q fail ∷ []) (empty_fits h q (parts_of a1 (a2 && a3) d).0) tt
      (before m f n out i2 (jump_step types K q fail ∷ []) (not_fits q) tt
      (alone m f n out (jump_step types K q fail) (truth_fits types ss callees m f n name g pl (Temp q) fail) (inr o)))
  list_is_right out h (suc k) q fail o d =
      append m f n out (first_code types K h q fail) (list_code types K (rest_at types K h q) k (q + 2) fail) (first_is_right out h q fail o d)
      (list_is_right out (rest_at types K h q) k (q + 2) fail o d)

  list_types : (h : Held) (k q : ℕ) → held_types (list_held types K h k q) ≡ items_typ types number callees tables g h.typ k
  list_types h zero q = refl
  list_types h (suc k) q = ap (λ ts. part_typ types one_item h.typ ∷ ts) (list_types (rest_at types K h q) k (q + 2))

  -- ---- words

  word_small : (t : ℕ) → alike (shell g) (literal_typ (shell g) t (L.Bits [])) (Some t) ≡ true → literal_some (slice_get g.table t) (L.Bits []) ≡ true
  word_small t h = by (literal_some (slice_get g.table t) (L.Bits [])) h
    where
      no_sort : (o : Option Sort) → has_sort (shell g) None o ≡ false
      no_sort None = refl
      no_sort (Some s) = refl

      by : (b : Bool) → alike (shell g) (cond b (Some t) None) (Some t) ≡ true → b ≡ true
      by true e = refl
      by false e = sym (no_sort (sort_at (shell g) (Some t))) ∙ e

  abbrev cut_code : Held → ℕ → ℕ → ℕ → Instruction
  cut_code h k q w =
      I.Apply (to K (Temp q) (number (cut_take types K h k w).typ)) (cut_take types K h k w).op (cut_take types K h k w).sources

  cut_fits : (h : Held) (k q w : ℕ) → cut_typed types number callees tables g h.typ k w ≡ true → Fits m f n (cut_code h k q w)
  cut_fits h k q zero d =
      let t : ℕ = number (Z.Bits (pos 0)) in
      let p = parts_of true (alike (shell g) (literal_typ (shell g) t (L.Bits [])) (Some t)) d in
      let a : Liked types ss callees m f n name g pl [] =
      like_constant types ss callees m f n name g pl [] t (L.Bits []) (word_small t p.1) in
      liked_fits types ss callees m f n name g pl (Temp q) t O.Same [] (a ∷ []) (λ e. refl) d
  cut_fits h k q (suc w) d =
      let t : Sized = Z.Bits (pos (suc w)) in
      let us : List ℕ = number h.typ ∷ [] in
      let high : ℤ = pos (k - 1) in
      let low : ℤ = pos (k - suc w) in
      let b0 : Bool = is_sort (shell g) (Some (number h.typ)) Q.Bits in
      let b1 : Bool = is_sort (shell g) (literal_typ (shell g) K.integer (L.Integer high)) Q.Integer in
      let b2 : Bool = is_sort (shell g) (literal_typ (shell g) K.integer (L.Integer low)) Q.Integer in
      let b3 : Bool = is_sort (shell g) (Some (number t)) Q.Bits in
      let p = parts_of b1 b2 (parts_of b0 (b1 && b2) (parts_of (b0 && (b1 && b2)) b3 d).0).1 in
      let a : Liked types ss callees m f n name g pl us = like_slot types ss callees m f n name g pl us h.place (number h.typ) 0 refl in
      let b : Liked types ss callees m f n name g pl us =
      like_constant types ss callees m f n name g pl us K.integer (L.Integer high) (int_small high p.0) in
      let c : Liked types ss callees m f n name g pl us =
      like_constant types ss callees m f n name g pl us K.integer (L.Integer low) (int_small low p.1) in
      liked_fits types ss callees m f n name g pl (Temp q) (number t) O.Slice us (a ∷ b ∷ c ∷ []) (λ e. refl) d

  cut_takes_bits : (h : Held) (k w : ℕ) → (cut_take types K h k w).typ ≡ Z.Bits (pos w)
  cut_takes_bits h k zero = refl
  cut_takes_bits h k (suc w) = refl

  cuts_are_right : (out : Labels) (h : Held) (ns : List ℕ) (k q : ℕ) → cut_right types number callees tables g h.typ k ns ≡ true
      → Ok out (takes_code types K (cut_takes types K h k ns) q)
  cuts_are_right out h [] k q d = tt
  cuts_are_right out h (w ∷ ns) k q d =
      let r = parts_of (cut_typed types number callees tables g h.typ k w) (cut_right types number callees tables g h.typ (k - w) ns) d in
      before m f n out (cut_code h k q w) (takes_code types K (cut_takes types K h (k - w) ns) (q + 1)) (cut_fits h k q w r.0) tt
      (cuts_are_right out h ns (k - w) (q + 1) r.1)

  cuts_types : (h : Held) (ns : List ℕ) (k q : ℕ) → held_types (takes_held types K (cut_takes types K h k ns) q) ≡ cut_types types number callees tables g ns
  cuts_types h [] k q = refl
  cuts_types h (w ∷ ns) k q =
      ap (λ t. t ∷ held_types (takes_held types K (cut_takes types K h (k - w) ns) (q + 1))) (cut_takes_bits h k w)
      ∙ ap (λ ts. Z.Bits (pos w) ∷ ts) (cuts_types h ns (k - w) (q + 1))

  -- ---- constructors

  payload_is_right : (out : Labels) (h : Held) (u c k q fail : ℕ) → out fail ≡ true
      → (same (payload_typ (shell g) (Some (number h.typ)) c) (Some (number (part_typ types (payload u c) h.typ)))
      && payload_right types number callees tables g (part_typ types (payload u c) h.typ) k) ≡ true
      → HeadOk out (payload_taken types K h u c k q fail) (payload_parts types number callees tables g (part_typ types (payload u c) h.typ) k)
  payload_is_right out h u c k q fail o d = by (nat_eq k 1) r.1
    where
      t : Sized
      t = part_typ types (payload u c) h.typ

      r : (same (payload_typ (shell g) (Some (number h.typ)) c) (Some (number t)) ≡ true) × (payload_right types number callees tables g t k ≡ true)
      r = parts_of (same (payload_typ (shell g) (Some (number h.typ)) c) (Some (number t))) (payload_right types number callees tables g t k) d

      step : Instruction
      step = payload_step types K h u c q fail

      step_fits : Fits m f n (payload_step types K h u c q fail)
      step_fits = payload_fits types ss callees m f n name g pl (Temp q) (number (part_typ types (payload u c) h.typ)) h.place (number h.typ) c fail r.0

      by : (b : Bool) → (if b then true else fields_right types number callees tables g (part_typ types (payload u c) h.typ) 0 k) ≡ true
          → HeadOk out (if b then one_taken types K h u c q fail else many_taken types K h u c k q fail)
          (if b then part_typ types (payload u c) h.typ ∷ [] else fields_typ types number callees tables g (part_typ types (payload u c) h.typ) 0 k)
      by true e = (alone m f n out (payload_step types K h u c q fail) step_fits (inr o), refl)
      by false e =
          let p : Held = part_at types K (payload u c) h q in (
            before m f n out (payload_step types K h u c q fail) (fields_code types K p 0 (q + 1) k) step_fits (inr o)
                (fields_are_right out p k 0 (q + 1) e),
            fields_types p k 0 (q + 1),
          )

  union_is_right : (out : Labels) (h : Held) (u c k q fail : ℕ) → out fail ≡ true → (b : Bool) → is_union u (out-Sized h.typ) ≡ b
      → head_right types number callees tables g h.typ (H.Constructor u c) k ≡ true
      → HeadOk out (head_taken types K h (H.Constructor u c) k q fail) (head_types types number callees tables g h.typ (H.Constructor u c) k)
  union_is_right out h u c k q fail o true e d =
      let taken_ : Taken = payload_taken types K h u c k q fail in
      let ts : List Sized = payload_parts types number callees tables g (part_typ types (payload u c) h.typ) k in
      let p : Bool = same (payload_typ (shell g) (Some (number h.typ)) c) (Some (number (part_typ types (payload u c) h.typ)))
      && payload_right types number callees tables g (part_typ types (payload u c) h.typ) k in
      let q2 = parts_of (is_union u (out-Sized h.typ)) p d in
      subst (λ x. HeadOk out (if x then payload_taken types K h u c k q fail else skipped fail (payload_taken types K h u c k q fail)) ts) (sym e)
      (payload_is_right out h u c k q fail o q2.1)
  union_is_right out h u c k q fail o false e d =
      let p : Bool = same (payload_typ (shell g) (Some (number h.typ)) c) (Some (number (part_typ types (payload u c) h.typ)))
      && payload_right types number callees tables g (part_typ types (payload u c) h.typ) k in
      impossible (sym e ∙ (parts_of (is_union u (out-Sized h.typ)) p d).0)
    where
      impossible : {A : Type 0} → false ≡ true → A
      impossible x = cc

  head_is_right : (out : Labels) (h : Held) (head : Head) (k q fail : ℕ) → out fail ≡ true → head_right types number callees tables g h.typ head k ≡ true
      → HeadOk out (head_taken types K h head k q fail) (head_types types number callees tables g h.typ head k)
  head_is_right out h (H.Is literal) k q fail o d = (test_right out h q (constant_of literal) fail o d, refl)
  head_is_right out h H.Tuple k q fail o d = (fields_are_right out h k 0 q d, fields_types h k 0 q)
  head_is_right out h (H.Constructor u c) k q fail o d = union_is_right out h u c k q fail o (is_union u (out-Sized h.typ)) refl d
  head_is_right out h H.Vector k q fail o d = (items_are_right out h k q d, items_types h k q)
  head_is_right out h H.List k q fail o d = (list_is_right out h k q fail o d, list_types h k q)
  head_is_right out h H.Cons k q fail o d = (first_is_right out h q fail o d, refl)
  head_is_right out h (H.Cut ws) k q fail o d =
      let ns : List ℕ = widths_in types number callees tables g h.typ ws in
      let w : ℕ = word_width (out-Sized h.typ) in
      (cuts_are_right out h ns w q d, cuts_types h ns w q)

  -- ---- steps

  hand_typ : (hs : List Held) (i : ℕ) → (at_hand types K hs i).typ ≡ typ_at_hand types number callees tables g (held_types hs) i
  hand_typ [] i = refl
  hand_typ (h ∷ hs) zero = refl
  hand_typ (h ∷ hs) (suc i) = hand_typ hs i

  abbrev Known : List Held → Type 0
  Known [] = Unit {0}
  Known (h ∷ hs) = (is_known ss h.typ ≡ true) × Known hs

  known_append : (hs ks : List Held) → Known hs → Known ks → Known (hs ++ ks)
  known_append [] ks a b = b
  known_append (h ∷ hs) ks a b = (a.0, known_append hs ks a.1 b)

  known_held : (hs : List Held) → are_known types number callees tables g (held_types hs) ≡ true → Known hs
  known_held [] h = tt
  known_held (x ∷ hs) h =
      let q = parts_of (tables.known x.typ) (are_known types number callees tables g (held_types hs)) h in
      (all.known x.typ q.0, known_held hs q.1)

  known_hand : (hs : List Held) (i : ℕ) → Known hs → is_known ss (at_hand types K hs i).typ ≡ true
  known_hand [] i h = all.unit
  known_hand (x ∷ hs) zero h = h.0
  known_hand (x ∷ hs) (suc i) h = known_hand hs i h.1

  -- ---- directions of mappings, which a step asks

  is_impure : (b : Bool) → not b ≡ true → b ≡ false
  is_impure true h = cc
  is_impure false h = refl

  seen_is_right : (out : Labels) (h : Held) (d q throw : ℕ) → out throw ≡ true → sees_right types number callees tables g d h.typ ≡ true
      → Ok out (seen_code types K (callees.direction d) h q throw)
  seen_is_right out h d q throw o w =
      let x : Mapped = callees.direction d in
      let comes_to : Bool = comes g (number h.typ) (number x.takes) in
      let a = parts_of (not g.is_pure) (g.directions d && comes_to) w in
      let b = parts_of (g.directions d) comes_to a.1 in
      let nowhere : TextPlace = record { file = 0; line = 0; column = 0 } in
      let call : Instruction = way_call types K x q throw in
      append m f n out (move K (Temp q) (number x.takes) h.place (number h.typ) ∷ []) (call ∷ [])
      (move_right types ss callees m f n name g pl out (Temp q) (number x.takes) h.place (number h.typ) b.1)
      (alone m f n out call
      (call_fits types ss callees m f n name g pl q (number x.gives) x.function throw nowhere (number x.takes ∷ []) (pl.directed d b.0)
      (pl.is_pure ∙ is_impure g.is_pure a.0)) (inr o))

  abbrev StepsOk : Labels → List Step → Hand → ℕ → ℕ → Type 0
  StepsOk out steps hand throw fail = Ok out (steps_code types K steps hand throw fail) × Known (steps_hand types K steps hand fail).named

  steps_are_right : (out : Labels) (throw fail : ℕ) → out throw ≡ true → out fail ≡ true → (steps : List Step) (hand : Hand)
      → steps_right types number callees tables g steps (held_types hand.values) ≡ true → Known hand.values → Known hand.named
      → StepsOk out steps hand throw fail
  steps_are_right out throw fail ot o [] hand d kv kn = (tt, kn)
  steps_are_right out throw fail ot o (P.Opens i head k ∷ steps) hand d kv kn =
      let h : Held = at_hand types K hand.values i in
      let ts : List Sized = held_types hand.values in
      let t : Sized = typ_at_hand types number callees tables g ts i in
      let us : List Sized = head_types types number callees tables g t head k in
      let rest : Bool = steps_right types number callees tables g steps (ts ++ us) in
      let q = parts_of (head_right types number callees tables g t head k) (are_known types number callees tables g us && rest) d in
      let r = parts_of (are_known types number callees tables g us) rest q.1 in
      let e : h.typ ≡ t = hand_typ hand.values i in
      let x : Taken = head_taken types K h head k hand.free fail in
      let ok = head_is_right out h head k hand.free fail o (ap (λ y. head_right types number callees tables g y head k) e ∙ q.0) in
      let same_types : held_types x.parts ≡ us = ok.1 ∙ ap (λ y. head_types types number callees tables g y head k) e in
      let next : Hand = with_taken hand x in
      let joined_types : held_types (hand.values ++ x.parts) ≡ ts ++ us = map-append (λ (y : Held). y.typ) hand.values x.parts ∙ ap (λ ys. ts ++ ys)
      same_types in
      let further = steps_are_right out throw fail ot o steps next
      (ap (λ ys. steps_right types number callees tables g steps ys) joined_types ∙ r.1)
      (known_append hand.values x.parts kv (known_held x.parts (ap (λ ys. are_known types number callees tables g ys) same_types ∙ r.0))) kn in
      (append m f n out x.code (steps_code types K steps next throw fail) ok.0 further.0, further.1)
  steps_are_right out throw fail ot o (P.Names i text ∷ steps) hand d kv kn =
      let h : Held = at_hand types K hand.values i in
      let ts : List Sized = held_types hand.values in
      let rest : Bool = steps_right types number callees tables g steps (ts ++ []) in
      let next : Hand = step_hand types K (P.Names i text) hand fail in
      let joined_types : held_types (hand.values ++ []) ≡ ts ++ [] = map-append (λ (y : Held). y.typ) hand.values [] in
      steps_are_right out throw fail ot o steps next (ap (λ ys. steps_right types number callees tables g steps ys) joined_types ∙ d)
      (known_append hand.values [] kv tt) (known_append hand.named (h ∷ []) kn (known_hand hand.values i kv, tt))
  steps_are_right out throw fail ot o (P.Sees i x ∷ steps) hand d kv kn =
      let h : Held = at_hand types K hand.values i in
      let ts : List Sized = held_types hand.values in
      let t : Sized = typ_at_hand types number callees tables g ts i in
      let gives : Sized = (callees.direction x).gives in
      let us : List Sized = gives ∷ [] in
      let rest : Bool = steps_right types number callees tables g steps (ts ++ us) in
      let q = parts_of (sees_right types number callees tables g x t) (are_known types number callees tables g us && rest) d in
      let r = parts_of (are_known types number callees tables g us) rest q.1 in
      let e : h.typ ≡ t = hand_typ hand.values i in
      let parts : List Held = held_at hand.free gives ∷ [] in
      let next : Hand = step_hand types K (P.Sees i x) hand fail in
      let joined_types : held_types (hand.values ++ parts) ≡ ts ++ us = map-append (λ (y : Held). y.typ) hand.values parts in
      let ok = seen_is_right out h x hand.free throw ot (ap (λ y. sees_right types number callees tables g x y) e ∙ q.0) in
      let further = steps_are_right out throw fail ot o steps next
      (ap (λ ys. steps_right types number callees tables g steps ys) joined_types ∙ r.1) (known_append hand.values parts kv (known_held parts r.0)) kn in
      (append m f n out (seen_code types K (callees.direction x) h hand.free throw) (steps_code types K steps next throw fail) ok further.0, further.1)

  -- ---- numbers that are noted of them

  values_right : (out : Labels) (d : Depths) (is : List Indices) (hs : List Held) (p : ℕ) → Known hs → Ok out (values_noted (kit_at K d) is hs p)
  values_right out d [] hs p h = tt
  values_right out d (i ∷ is) [] p h = tt
  values_right out d (i ∷ is) (x ∷ hs) p h =
      append m f n out (noter_of (kit_at K d) number i (from K x.place (number x.typ)) x.typ p) (values_noted (kit_at K d) is hs p)
      (noter_right types ss callees m f n name g pl tables all d out i (from K x.place (number x.typ)) x.typ p h.0
      (slot_typed types ss callees m f n name g pl tables all x.place (number x.typ)))
      (values_right out d is hs p h.1)

  tuple_noted_right : (out : Labels) (d : Depths) (o : Indices-F Indices Reading) (hs : List Held) (p : ℕ) → Known hs → Ok out (tuple_noted (kit_at K d) o hs p)
  tuple_noted_right out d (W.Tuple is) hs p h = values_right out d is hs p h
  tuple_noted_right out d o hs p h = tt

  arm_noted_right : (out : Labels) (d : Depths) (is : List Indices) (hs : List Held) (p : ℕ) → Known hs → Ok out (arm_noted (kit_at K d) is hs p)
  arm_noted_right out d [] hs p h = tt
  arm_noted_right out d (i ∷ is) hs p h =
      append m f n out (tuple_noted (kit_at K d) (out-Indices i) hs p) (arm_noted (kit_at K d) is hs p) (tuple_noted_right out d (out-Indices i) hs p h)
      (arm_noted_right out d is hs p h)

  -- ---- arms

  choice_right : (out : Labels) (gives : List Indices) (arm : Arm) (q : ℕ) (s : Stand) → out s.on_throw ≡ true → out s.on_no ≡ true → (c : Choice)
      → arm_right types number callees tables g arm (held_types c.values) ≡ true → (l : ℕ) → Ok out (choice_code types K gives (steps_in arm) q s c l)
  choice_right out gives arm q s ot on c d l =
      let ts : List Sized = held_types c.values in
      let steps : List Step = steps_in arm in
      let r = parts_of (are_known types number callees tables g ts) (steps_right types number callees tables g steps ts) d in
      let known : Known c.values = known_held c.values r.0 in
      let ok = steps_are_right out s.on_throw s.on_no ot on steps (begun types K c.values q) r.1 known tt in
      let hand : Hand = arm_hand types K steps q s.on_no c.values in
      append m f n out (steps_code types K steps (begun types K c.values q) s.on_throw s.on_no)
      (arm_noted (kit_at K s.depths) gives (c.values ++ hand.named) hand.free) ok.0
      (arm_noted_right out s.depths gives (c.values ++ hand.named) hand.free (known_append c.values hand.named known ok.1))

  choices_right : (out : Labels) (gives : List Indices) (arm : Arm) (q p : ℕ) (s : Stand) → out s.on_throw ≡ true → out s.on_no ≡ true → (es : List End)
      → ends_right types number callees tables g arm es ≡ true
      → Arms types ss callees m f n name g pl picked_of (choice_code types K gives (steps_in arm) q s) out (choices_at p es)
  choices_right out gives arm q p s ot on [] d = tt
  choices_right out gives arm q p s ot on (e ∷ es) d =
      let a : Bool = arm_right types number callees tables g arm (e.typ ∷ []) in
      let r = parts_of (picks_small e.picked) (a && ends_right types number callees tables g arm es) d in
      let w = parts_of a (ends_right types number callees tables g arm es) r.1 in
      let c : Choice = record { picked = e.picked; values = held_at p e.typ ∷ [] } in
      ((r.0, choice_right out gives arm q s ot on c w.0), choices_right out gives arm q p s ot on es w.1)

  given_types : (i : ℕ) (ts : List Sized) → held_types (given_held i ts) ≡ ts
  given_types i [] = refl
  given_types i (t ∷ ts) = ap (λ us. t ∷ us) (given_types (i + 1) ts)

  matched_choices : (out : Labels) (gives : List Indices) (arm : Arm) (q p : ℕ) (s : Stand) → out s.on_throw ≡ true → out s.on_no ≡ true → (x : Matched)
      → matched_right types number callees tables g x arm ≡ true
      → Arms types ss callees m f n name g pl picked_of (choice_code types K gives (steps_in arm) q s) out (choices x p)
  matched_choices out gives arm q p s ot on (in_hand es) d = choices_right out gives arm q p s ot on es d
  matched_choices out gives arm q p s ot on (arguments ts) d =
      let c : Choice = record { picked = []; values = given_held 0 ts } in
      ((refl, choice_right out gives arm q s ot on c (ap (λ us. arm_right types number callees tables g arm us) (given_types 0 ts) ∙ d)), tt)

  moved_right : (out : Labels) (k : ℕ) (s : Stand) (tail : Tail) (ts : List Sized) → RightTail m f n out tail ts
      → RightTail m f n out (moved types K k s tail) ts
  moved_right out k s tail [] h = tt
  moved_right out k s tail (t ∷ ts) h = (
    λ l. append m f n out (if nat_eq k s.temp then [] else I.Copy (to K (Temp s.temp) (number t)) (from K (Temp k) (number t)) ∷ []) (tail.code t l)
        (by (nat_eq k s.temp)) (h.0 l),
    moved_right out k s tail ts h.1,
  )
    where
      by : (b : Bool) → Ok out (if b then [] else I.Copy (to K (Temp s.temp) (number t)) (from K (Temp k) (number t)) ∷ [])
      by true = tt
      by false =
          alone m f n out (I.Copy (to K (Temp s.temp) (number t)) (from K (Temp k) (number t)))
          (slot_copy types ss callees m f n name g pl (Temp s.temp) (number t) (Temp k)) tt

  pub arm_is_right : (gives : List Indices) (x : Matched) (arm : Arm) (b : Piece) (ts : List Sized) → matched_right types number callees tables g x arm ≡ true
      → Piece_ b ts → Piece_ (arm_piece types K gives x arm b) ts
  arm_is_right gives x arm b ts d hb out tail s l ot on ht =
      let q : ℕ = s.temp + places_of x in
      let hand : Hand = hand_of types K x (steps_in arm) s in
      append m f n out (looks_code types K gives x (steps_in arm) s l)
      (b.ended (moved types K hand.free s tail) (arm_stand types K hand s) (l + choice_labels x))
      (by_case_right types ss callees m f n name g pl picked_of s.depths q 0 (choice_code types K gives (steps_in arm) q s) out (choices x s.temp)
      (matched_choices out gives arm q s.temp s ot on x d) l)
      (hb out (moved types K hand.free s tail) (arm_stand types K hand s) (l + choice_labels x) ot on (moved_right out hand.free s tail ts ht))

  -- ---- parts, with what is decided of them

  abbrev pub RightAll : List Piece → List Typing → Type 0
  RightAll [] [] = Unit {0}
  RightAll (p ∷ ps) (t ∷ ts) = (t.right ≡ true → (p.ends ≡ t.ends) × Piece_ p t.types) × RightAll ps ts
  RightAll ps ts = ⊥

  pub first_right : (names : ℕ → List Indices) (x : Matched) (arms : List Arm) (ps : List Piece) (ts : List Typing) (none : Piece) → RightAll ps ts
      → arms_right types number callees tables g x arms ts ≡ true → Piece_ none []
      → Piece_ (first_piece types K names x arms ps none) (arms_types types number callees tables g ts)
  first_right names x [] [] [] none h d hn = hn
  first_right names x [] [] (t ∷ ts) none h d hn = absurd h
  first_right names x [] (p ∷ ps) [] none h d hn = absurd h
  first_right names x [] (p ∷ ps) (t ∷ ts) none h d hn = cc
  first_right names x (arm ∷ arms) [] [] none h d hn = cc
  first_right names x (arm ∷ arms) [] (t ∷ ts) none h d hn = absurd h
  first_right names x (arm ∷ arms) (p ∷ ps) [] none h d hn = absurd h
  first_right names x (arm ∷ arms) (p ∷ ps) (t ∷ ts) none h d hn =
      let rest : Bool = arms_right types number callees tables g x arms ts in
      let q = parts_of (matched_right types number callees tables g x arm) (t.right && rest) d in
      let r = parts_of t.right rest q.1 in
      let a : Piece = arm_piece types K (names (length arms)) x arm p in
      else_right m f n types K (inside_piece K a) (first_piece types K names x arms ps none) t.types (arms_types types number callees tables g ts)
      (inside_right types ss callees m f n name g pl tables all a t.types (arm_is_right (names (length arms)) x arm p t.types q.0 (h.0 r.0).1))
      (first_right names x arms ps ts none h.1 r.1 hn)

  pub match_right : (names : ℕ → List Indices) (a : Piece) (us : List Sized) (arms : List Arm) (ps : List Piece) (ts : List Typing) (cause : Cause)
      → is_cause cause ≡ true → Piece_ a us → RightAll ps ts → arms_right types number callees tables g (in_hand a.ends) arms ts ≡ true
      → Piece_ (match_piece types K names a arms ps cause) (arms_types types number callees tables g ts)
  match_right names a us arms ps ts cause c ha h d =
      let none : Piece = stop_here types K cause in
      seq_right types ss callees m f n name g pl tables all a (first_piece types K names (in_hand a.ends) arms ps none) us
      (arms_types types number callees tables g ts) ha (first_right names (in_hand a.ends) arms ps ts none h d (stop_here_right m f n types K cause c))

  both_tails : (out : Labels) (tail : Tail) (ts us : List Sized) → RightTail m f n out tail ts → RightTail m f n out tail us
      → RightTail m f n out tail (ts ++ us)
  both_tails out tail [] us a b = b
  both_tails out tail (t ∷ ts) us a b = (a.0, both_tails out tail ts us a.1 b)

  pub let_right : (gives : List Indices) (a : Piece) (us : List Sized) (arm : Arm) (b : Piece) (ts : List Sized) (cause : Cause) → is_cause cause ≡ true
      → Piece_ a us → ends_right types number callees tables g arm a.ends ≡ true → Piece_ b ts → Piece_ (let_piece types K gives a arm b cause) ts
  let_right gives a us arm b ts cause c ha d hb =
      let none : Piece = stop_here types K cause in
      let p : Piece = arm_piece types K gives (in_hand a.ends) arm b in
      let e : Piece = else_piece types K p none in
      let ok : Piece_ e (ts ++ []) = else_right m f n types K p none ts [] (arm_is_right gives (in_hand a.ends) arm b ts d hb)
      (stop_here_right m f n types K cause c) in
      seq_right types ss callees m f n name g pl tables all a e us ts ha
      (λ out tail s l ot on ht. ok out tail s l ot on (both_tails out tail ts [] ht tt))

  -- ---- what is thrown

  thrown_arms : (out : Labels) (p : ℕ) (es : List End) → all_thrown types number callees tables g es ≡ true
      → Arms types ss callees m f n name g pl picked_of (λ c i. thrown_code types K c.values) out (choices_at p es)
  thrown_arms out p [] d = tt
  thrown_arms out p (e ∷ es) d =
      let rest : Bool = all_thrown types number callees tables g es in
      let r = parts_of (picks_small e.picked) (nat_eq (number e.typ) g.exception && rest) d in
      let w = parts_of (nat_eq (number e.typ) g.exception) rest r.1 in
      let a : Source = from K (Temp p) (number e.typ) in (
        (
          r.0,
          λ l. alone m f n out (I.Copy (to K Raised K.exception) a)
              (copy_fits types ss callees m f n name g pl Raised K.exception a
              (λ u. slot_typ types ss callees m f n name g pl (Temp p) (number e.typ) u ∙ ap Some (eqb-true (number e.typ) g.exception w.0)) (λ x. refl)) tt,
        ),
        thrown_arms out p es w.1,
      )

  throw_here_right : (es : List End) → all_thrown types number callees tables g es ≡ true → Piece_ (throw_here types K (in_hand es)) []
  throw_here_right es d out tail s l ot on ht =
      append m f n out (by_case picked_of (kit_at K s.depths) (s.temp + 1) 0 (λ c i. thrown_code types K c.values) l (choices_at s.temp es))
      (I.Goto s.on_throw ∷ [])
      (by_case_right types ss callees m f n name g pl picked_of s.depths (s.temp + 1) 0 (λ c i. thrown_code types K c.values) out (choices_at s.temp es)
      (thrown_arms out s.temp es d) l)
      (alone m f n out (I.Goto s.on_throw) (goto_fits m f n s.on_throw) (inr ot))

  raised_right : (cases : List Case) (gives : List Indices)
      → cases_right types number callees tables g (is_sourced types number callees tables g (Some g.exception)) cases ≡ true
      → Piece_ (raised_piece types K cases gives) (gives_in cases)
  raised_right cases gives d =
      made_piece_right types ss callees m f n name g pl tables all (is_sourced types number callees tables g (Some g.exception))
      (source_make K number (from K Raised K.exception))
      (source_makes types ss callees m f n name g pl tables all (from K Raised K.exception) (Some g.exception)
      (λ t e u. slot_typ types ss callees m f n name g pl Raised K.exception u ∙ e) (λ e. refl)) cases d gives

  pub try_right : (cases : List Case) (gives : List Indices) (names : ℕ → List Indices) (arms : List Arm) (ps : List Piece) (ts : List Typing) (a : Piece)
      (us : List Sized) → Piece_ a us → RightAll ps ts
      → cases_right types number callees tables g (is_sourced types number callees tables g (Some g.exception)) cases ≡ true
      → all_thrown types number callees tables g (ends_of gives cases) ≡ true
      → arms_right types number callees tables g (in_hand (ends_of gives cases)) arms ts ≡ true
      → Piece_ (try_piece types K cases gives names arms ps a) (us ++ arms_types types number callees tables g ts)
  try_right cases gives names arms ps ts a us ha h d1 d2 d3 =
      let es : List End = ends_of gives cases in
      let none : Piece = throw_here types K (in_hand es) in
      let first : Piece = first_piece types K names (in_hand es) arms ps none in
      let ws : List Sized = arms_types types number callees tables g ts in
      catch_right m f n types K (inside_piece K a) (caught_piece types K cases gives names arms ps) us ws
      (inside_right types ss callees m f n name g pl tables all a us ha)
      (seq_right types ss callees m f n name g pl tables all (raised_piece types K cases gives) first (gives_in cases) ws (raised_right cases gives d1)
      (first_right names (in_hand es) arms ps ts none h d3 (throw_here_right es d2)))
