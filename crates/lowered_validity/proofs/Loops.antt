-- Loops: each turn goes back to a label with a tick.
use Rattle.sail_types.specs.declared.types.Typ.TheVariants as Y
use Rattle.sail_types.specs.declared.rows.Row.TheVariants as B
use Rattle.jib.specs.declared.types.Sort.TheVariants as Q
use Rattle.jib.specs.declared.code.Literal.TheVariants as L
use Rattle.jib.specs.declared.code.Source.TheVariants as R
use Rattle.jib.specs.declared.code.Operation.TheVariants as O
use Rattle.jib.specs.declared.code.Instruction.TheVariants as I
use Rattle.sail_base.specs.declared.place.Place.{Place as TextPlace}
use Rattle.model_state.specs.declared.cause.Cause.TheVariants.{Measure}
use Rattle.std.specs.Prelude.{negsuc, pos}
use Rattle.sail_core.specs.declared.tree.Counting.{Counting}
use Rattle.sail_core.specs.declared.tree.Counting.TheVariants as N
use Rattle.sail_types.specs.declared.rows.Row.{Row}
use Rattle.jib.specs.Operands.{has_sort, operation_typed}
use Rattle.lowered_pieces.specs.Counted.{bounds_code, bounds_labels, foreach_piece, next_code, turn_code, turn_stand}
use Rattle.std.proofs.Common.{inl, inr, length}
use Rattle.jib.specs.Typing.{is_some_sort, literal_typ, sort_some}
use Rattle.sail_types.specs.Limits.{is_small, largest}
use Rattle.std.proofs.Common.{List, None, Some, [], ap, cond, false, refl, true, ℕ, ℤ, ◌&&◌, ◌++◌, ◌+◌, ◌∙◌, ◌∷◌, ◌≡◌, ◌≤◌}
use Rattle.std.specs.Prelude.{slice_get}
use Rattle.checked_meaning.specs.Items.{fixed_typ}
use Rattle.jib.specs.Typing.{literal_some}
use Rattle.jib.specs.Valid.{is_stateless}
use Rattle.jib.specs.declared.code.Function.{Function}
use Rattle.jib.specs.declared.code.Instruction.{Instruction}
use Rattle.jib.specs.declared.code.Module.{Module}
use Rattle.jib.specs.declared.code.Source.{Source}
use Rattle.lowered_laws.specs.CodeLaws.{sets}
use Rattle.lowered_laws.specs.Standing.{free}
use Rattle.lowered_pieces.specs.Forms.{Callees, Piece, Stand, code_of, count_of, fallen_code, higher, jump_where, no_measure_yet, repeat_piece, unit_piece}
use Rattle.lowered_pieces.specs.Forms.{while_piece}
use Rattle.lowered_pieces.specs.Lowering.{kit_of}
use Rattle.lowered_pieces.specs.Places.{Kit, Local, Naming, Temp, from, to}
use Rattle.lowered_pieces.specs.Tables.{Tables}
use Rattle.lowered_types.specs.Table.{type_in}
use Rattle.lowered_validity.proofs.Fitting.{Liked, constant_copy, like_constant, like_slot, liked_fits, slot_copy, truth_fits}
use Rattle.lowered_validity.proofs.Flow.{Up, alone, append, before, join, looped, set_behind, set_first, set_next, tail_more}
use Rattle.lowered_validity.proofs.Forms.{held, unit_right}
use Rattle.lowered_validity.proofs.Labels.{goto_fits, label_fits, label_meets, label_more, label_there, stop_fits, tick_fits, with_label}
use Rattle.lowered_validity.specs.Laws.{Numbered}
use Rattle.lowered_validity.specs.Right.{Fits, Labels, Placed, Right, RightPiece, Signs}
use Rattle.lowered_validity.specs.Typing.{shell, with_slots}
use Rattle.sail_types.specs.declared.table.Types.{Types}
use Rattle.size_values.specs.declared.sized.Sized.{Sized}

zero_small : is_small (pos 0) ≡ true
unfolding largest
zero_small = refl

below_small : is_small (negsuc 0) ≡ true
unfolding largest
below_small = refl

largest_small : is_small (pos largest) ≡ true
unfolding largest
largest_small = refl

module _ (types : Types) (ss : List Sized) (callees : Callees) (m : Module) (f : Function) (n : ℕ) (name : Naming) (g : Signs)
    (pl : Placed types ss (type_in ss) callees m f n name g) (tables : Tables) (all : Numbered types tables ss) where
  abbrev K : Kit
  K = kit_of types name (type_in ss) g.exception callees.size callees.direction

  abbrev number : Sized → ℕ
  number = type_in ss

  abbrev Ok : Labels → List Instruction → Type 0
  Ok out c = Right m f n out c

  abbrev Piece_ : Piece → List Sized → Type 0
  Piece_ p ts = RightPiece m f n p ts

  small_here : (z : ℤ) → is_small z ≡ true → literal_some (slice_get g.table K.integer) (L.Integer z) ≡ true
  small_here z h = ap (λ o. literal_some o (L.Integer z)) pl.basic.integer ∙ h

  abbrev int_slots : List ℕ
  int_slots = K.integer ∷ K.integer ∷ []

  abbrev LikedInt : Type 0
  LikedInt = Liked types ss callees m f n name g pl int_slots

  int_sort : is_some_sort (sort_some (slice_get g.table K.integer)) Q.Integer ≡ true
  int_sort = ap (λ o. is_some_sort (sort_some o) Q.Integer) pl.basic.integer

  truth_sort : is_some_sort (sort_some (slice_get g.table K.truth)) Q.Truth ≡ true
  truth_sort = ap (λ o. is_some_sort (sort_some o) Q.Truth) pl.basic.truth

  -- two measures
  less_fits : (p q r : ℕ) → Fits m f n
      (I.Apply (to K (Temp p) K.truth) (O.Builtin B.LtInt) (from K (Temp q) K.integer ∷ from K (Temp r) K.integer ∷ []))
  less_fits p q r =
      let a : LikedInt = like_slot types ss callees m f n name g pl int_slots (Temp q) K.integer 0 refl in
      let b : LikedInt = like_slot types ss callees m f n name g pl int_slots (Temp r) K.integer 1 refl in
      liked_fits types ss callees m f n name g pl (Temp p) K.truth (O.Builtin B.LtInt) int_slots (a ∷ b ∷ []) (λ e. refl)
      (λ j. (int_sort j && (int_sort j && true)) && truth_sort j)

  -- a measure and 0
  below_fits : (p q : ℕ) → Fits m f n
      (I.Apply (to K (Temp p) K.truth) (O.Builtin B.LtInt) (from K (Temp q) K.integer ∷ R.Constant K.integer (L.Integer (pos 0)) ∷ []))
  below_fits p q =
      let a : LikedInt = like_slot types ss callees m f n name g pl int_slots (Temp q) K.integer 0 refl in
      let b : LikedInt = like_constant types ss callees m f n name g pl int_slots K.integer (L.Integer (pos 0)) (small_here (pos 0) zero_small) in
      let second : has_sort (shell g) (literal_typ (shell g) K.integer (L.Integer (pos 0))) (Some Q.Integer) ≡ true =
      ap (λ c. has_sort (shell g) (cond c (Some K.integer) None) (Some Q.Integer)) (small_here (pos 0) zero_small) ∙ int_sort in
      liked_fits types ss callees m f n name g pl (Temp p) K.truth (O.Builtin B.LtInt) int_slots (a ∷ b ∷ []) (λ e. refl)
      (λ j. (int_sort j && (second j && true)) && truth_sort j)

  fallen_right : (out : Labels) (place : TextPlace) (q l : ℕ) → Ok out (fallen_code K place q l)
  fallen_right out place q l =
      let i1 : Instruction = I.Apply (to K (Temp (q + 2)) K.truth) (O.Builtin B.LtInt) (from K (Temp (q + 1)) K.integer ∷ from K (Temp q) K.integer ∷ []) in
      let i2 : Instruction = I.JumpIf (from K (Temp (q + 2)) K.truth) l in
      let i3 : Instruction =
      I.Apply (to K (Temp (q + 2)) K.truth) (O.Builtin B.LtInt) (from K (Temp q) K.integer ∷ R.Constant K.integer (L.Integer (pos 0)) ∷ []) in
      let i5 : Instruction = I.Stop (Measure place) in
      let i7 : Instruction = I.Copy (to K (Temp q) K.integer) (from K (Temp (q + 1)) K.integer) in
      let t6 : List Instruction = I.Label l ∷ i7 ∷ [] in
      let set6 : 1 ≤ sets l t6 = set_first l (i7 ∷ []) in
      let set5 : 1 ≤ sets l (i5 ∷ t6) = set_next l i5 t6 set6 in
      let jump : Fits m f n i2 = truth_fits types ss callees m f n name g pl (Temp (q + 2)) l in
      before m f n out i1 (i2 ∷ i3 ∷ i2 ∷ i5 ∷ t6) (less_fits (q + 2) (q + 1) q) tt
      (before m f n out i2 (i3 ∷ i2 ∷ i5 ∷ t6) jump (inl (set_next l i3 (i2 ∷ i5 ∷ t6) (set_next l i2 (i5 ∷ t6) set5)))
      (before m f n out i3 (i2 ∷ i5 ∷ t6) (below_fits (q + 2) q) tt
      (before m f n out i2 (i5 ∷ t6) jump (inl set5)
      (before m f n out i5 t6 (stop_fits m f n (Measure place) refl) tt
      (before m f n out (I.Label l) (i7 ∷ []) (label_fits m f n l) tt
      (alone m f n out i7 (slot_copy types ss callees m f n name g pl (Temp q) K.integer (Temp (q + 1))) tt))))))

  not_yet_fits : (q : ℕ) → Fits m f n (no_measure_yet K q)
  not_yet_fits q = constant_copy types ss callees m f n name g pl (Temp q) K.integer (L.Integer (negsuc 0)) (small_here (negsuc 0) below_small)

  pub while_right : (place : TextPlace) (a c b : Piece) (ts rs us : List Sized) → f.is_pure ≡ false → Piece_ a ts → Piece_ c rs → Piece_ b us
      → Piece_ (while_piece K place a c b) (fixed_typ types Y.Unit ∷ [])
  while_right place a c b ts rs us free ha hc hb out tail s l ot on ht =
      let back : Labels = with_label l out in
      let up : Up out back = label_more l out in
      let bot : back s.on_throw ≡ true = up s.on_throw ot in
      let bon : back s.on_no ≡ true = up s.on_no on in
      let lb : ℕ = l + 3 + count_of a in
      let lc : ℕ = l + 3 + count_of a + count_of b in
      let lt : ℕ = l + 3 + count_of a + count_of b + count_of c in
      let ca : List Instruction = code_of a (higher s) (l + 3) in
      let cf : List Instruction = fallen_code K place s.temp (l + 2) in
      let cb : List Instruction = code_of b (higher s) lb in
      let cc_ : List Instruction = code_of c (higher s) lc in
      let c5 : List Instruction = (unit_piece K).ended tail s lt in
      let t4 : List Instruction = jump_where K (higher s) l ∷ c5 in
      let t3 : List Instruction = I.Label (l + 1) ∷ (cc_ ++ t4) in
      let turn : List Instruction = ca ++ (cf ++ (cb ++ t3)) in
      let last : Ok back c5 = unit_right types ss callees m f n name g pl tables all back tail s lt bot bon
      (tail_more m f n out back up tail (fixed_typ types Y.Unit ∷ []) ht) in
      let r4 : Ok back t4 = before m f n back (jump_where K (higher s) l) c5 (truth_fits types ss callees m f n name g pl (Temp (s.temp + 1)) l)
      (inr (label_there l out)) last in
      let r3 : Ok back t3 = before m f n back (I.Label (l + 1)) (cc_ ++ t4) (label_fits m f n (l + 1)) tt
      (append m f n back cc_ t4 (held types ss callees m f n name g pl tables all c rs hc back (higher s) lc bot bon) r4) in
      let r2 : Ok back (cb ++ t3) = append m f n back cb t3 (held types ss callees m f n name g pl tables all b us hb back (higher s) lb bot bon) r3 in
      let r1 : Ok back turn = append m f n back ca (cf ++ (cb ++ t3)) (held types ss callees m f n name g pl tables all a ts ha back (higher s) (l + 3) bot bon)
      (append m f n back cf (cb ++ t3) (fallen_right back place s.temp (l + 2)) r2) in
      before m f n out (no_measure_yet K s.temp) (I.Goto (l + 1) ∷ I.Label l ∷ I.Tick ∷ turn) (not_yet_fits s.temp) tt
      (before m f n out (I.Goto (l + 1)) (I.Label l ∷ I.Tick ∷ turn) (goto_fits m f n (l + 1))
      (inl (set_next (l + 1) (I.Label l) (I.Tick ∷ turn) (set_next (l + 1) I.Tick turn
      (set_behind (l + 1) ca (cf ++ (cb ++ t3)) (set_behind (l + 1) cf (cb ++ t3) (set_behind (l + 1) cb t3 (set_first (l + 1) (cc_ ++ t4))))))))
      (looped m f n out l turn (label_fits m f n l) (tick_fits m f n free) r1))

  pub repeat_right : (place : TextPlace) (a b c : Piece) (ts us rs : List Sized) → f.is_pure ≡ false → Piece_ a ts → Piece_ b us → Piece_ c rs
      → Piece_ (repeat_piece K place a b c) (fixed_typ types Y.Unit ∷ [])
  repeat_right place a b c ts us rs free ha hb hc out tail s l ot on ht =
      let back : Labels = with_label l out in
      let up : Up out back = label_more l out in
      let bot : back s.on_throw ≡ true = up s.on_throw ot in
      let bon : back s.on_no ≡ true = up s.on_no on in
      let lb : ℕ = l + 3 + count_of a in
      let lc : ℕ = l + 3 + count_of a + count_of b in
      let lt : ℕ = l + 3 + count_of a + count_of b + count_of c in
      let ca : List Instruction = code_of a (higher s) (l + 3) in
      let cf : List Instruction = fallen_code K place s.temp (l + 1) in
      let cb : List Instruction = code_of b (higher s) lb in
      let cc_ : List Instruction = code_of c (higher s) lc in
      let c5 : List Instruction = (unit_piece K).ended tail s lt in
      let t5 : List Instruction = I.Label (l + 2) ∷ c5 in
      let t4 : List Instruction = jump_where K (higher s) (l + 2) ∷ I.Goto l ∷ t5 in
      let turn : List Instruction = ca ++ (cf ++ (cb ++ (cc_ ++ t4))) in
      let last : Ok back c5 = unit_right types ss callees m f n name g pl tables all back tail s lt bot bon
      (tail_more m f n out back up tail (fixed_typ types Y.Unit ∷ []) ht) in
      let r5 : Ok back (I.Goto l ∷ t5) = before m f n back (I.Goto l) t5 (goto_fits m f n l) (inr (label_there l out))
      (before m f n back (I.Label (l + 2)) c5 (label_fits m f n (l + 2)) tt last) in
      let r4 : Ok back t4 = before m f n back (jump_where K (higher s) (l + 2)) (I.Goto l ∷ t5)
      (truth_fits types ss callees m f n name g pl (Temp (s.temp + 1)) (l + 2)) (inl (set_next (l + 2) (I.Goto l) t5 (set_first (l + 2) c5))) r5 in
      let r3 : Ok back (cc_ ++ t4) = append m f n back cc_ t4 (held types ss callees m f n name g pl tables all c rs hc back (higher s) lc bot bon) r4 in
      let r2 : Ok back (cb ++ (cc_ ++ t4)) = append m f n back cb (cc_ ++ t4)
      (held types ss callees m f n name g pl tables all b us hb back (higher s) lb bot bon) r3 in
      let r1 : Ok back turn = append m f n back ca (cf ++ (cb ++ (cc_ ++ t4)))
      (held types ss callees m f n name g pl tables all a ts ha back (higher s) (l + 3) bot bon)
      (append m f n back cf (cb ++ (cc_ ++ t4)) (fallen_right back place s.temp (l + 1)) r2) in
      before m f n out (no_measure_yet K s.temp) (I.Label l ∷ I.Tick ∷ turn) (not_yet_fits s.temp) tt
      (looped m f n out l turn (label_fits m f n l) (tick_fits m f n free) r1)

  -- ---- counting

  abbrev reach_of : Counting → ℕ → List Source
  reach_of N.Up q = R.Constant K.integer (L.Integer (pos largest)) ∷ from K (Temp (q + 2)) K.integer ∷ []
  reach_of N.Down q = from K (Temp (q + 2)) K.integer ∷ R.Constant K.integer (L.Integer (pos largest)) ∷ []

  abbrev beyond_of : Counting → ℕ → List Source
  beyond_of N.Up q = from K (Temp (q + 3)) K.integer ∷ from K (Temp q) K.integer ∷ []
  beyond_of N.Down q = from K (Temp q) K.integer ∷ from K (Temp (q + 3)) K.integer ∷ []

  abbrev row_of : Counting → Row
  row_of N.Up = B.AddInt
  row_of N.Down = B.SubInt

  abbrev next_with : Counting → ℕ → ℕ → List Instruction
  next_with way q e =
      I.Apply (to K (Temp (q + 3)) K.integer) (O.Builtin B.SubInt) (reach_of way q)
      ∷ I.Apply (to K (Temp (q + 3)) K.truth) (O.Builtin B.LtInt) (beyond_of way q)
      ∷ I.JumpIf (from K (Temp (q + 3)) K.truth) e
      ∷ I.Apply (to K (Temp q) K.integer) (O.Builtin (row_of way)) (from K (Temp q) K.integer ∷ from K (Temp (q + 2)) K.integer ∷ []) ∷ []

  -- two integers, wherever they stand
  ints_fit : (p : ℕ) (t : ℕ) (row : Row) (a b : LikedInt) → is_stateless (O.Builtin row) ≡ true
      → operation_typed (shell g) (with_slots int_slots) (O.Builtin row) (a.1 ∷ b.1 ∷ []) (Some t) ≡ true
      → Fits m f n (I.Apply (to K (Temp p) t) (O.Builtin row) (a.0 ∷ b.0 ∷ []))
  ints_fit p t row a b pure d = liked_fits types ss callees m f n name g pl (Temp p) t (O.Builtin row) int_slots (a ∷ b ∷ []) (λ e. pure) d

  abbrev first_int : ℕ → LikedInt
  first_int q = like_slot types ss callees m f n name g pl int_slots (Temp q) K.integer 0 refl

  abbrev second_int : ℕ → LikedInt
  second_int q = like_slot types ss callees m f n name g pl int_slots (Temp q) K.integer 1 refl

  abbrev most_int : LikedInt
  most_int = like_constant types ss callees m f n name g pl int_slots K.integer (L.Integer (pos largest)) (small_here (pos largest) largest_small)

  most_sort : has_sort (shell g) (literal_typ (shell g) K.integer (L.Integer (pos largest))) (Some Q.Integer) ≡ true
  most_sort = ap (λ c. has_sort (shell g) (cond c (Some K.integer) None) (Some Q.Integer)) (small_here (pos largest) largest_small) ∙ int_sort

  reach_fits : (way : Counting) (q : ℕ) → Fits m f n (I.Apply (to K (Temp (q + 3)) K.integer) (O.Builtin B.SubInt) (reach_of way q))
  reach_fits N.Up q = ints_fit (q + 3) K.integer B.SubInt most_int (second_int (q + 2)) refl (λ j. (most_sort j && (int_sort j && true)) && int_sort j)
  reach_fits N.Down q = ints_fit (q + 3) K.integer B.SubInt (first_int (q + 2)) most_int refl (λ j. (int_sort j && (most_sort j && true)) && int_sort j)

  two_ints : (p q r : ℕ) → Fits m f n
      (I.Apply (to K (Temp p) K.truth) (O.Builtin B.LteqInt) (from K (Temp q) K.integer ∷ from K (Temp r) K.integer ∷ []))
  two_ints p q r = ints_fit p K.truth B.LteqInt (first_int q) (second_int r) refl (λ j. (int_sort j && (int_sort j && true)) && truth_sort j)

  step_fits : (way : Counting) (q : ℕ) → Fits m f n
      (I.Apply (to K (Temp q) K.integer) (O.Builtin (row_of way)) (from K (Temp q) K.integer ∷ from K (Temp (q + 2)) K.integer ∷ []))
  step_fits N.Up q = ints_fit q K.integer B.AddInt (first_int q) (second_int (q + 2)) refl (λ j. (int_sort j && (int_sort j && true)) && int_sort j)
  step_fits N.Down q = ints_fit q K.integer B.SubInt (first_int q) (second_int (q + 2)) refl (λ j. (int_sort j && (int_sort j && true)) && int_sort j)

  next_of : (out : Labels) (way : Counting) (q e : ℕ) → out e ≡ true
      → Fits m f n (I.Apply (to K (Temp (q + 3)) K.truth) (O.Builtin B.LtInt) (beyond_of way q)) → Ok out (next_with way q e)
  next_of out way q e o d =
      let i1 : Instruction = I.Apply (to K (Temp (q + 3)) K.integer) (O.Builtin B.SubInt) (reach_of way q) in
      let i2 : Instruction = I.Apply (to K (Temp (q + 3)) K.truth) (O.Builtin B.LtInt) (beyond_of way q) in
      let i3 : Instruction = I.JumpIf (from K (Temp (q + 3)) K.truth) e in
      let i4 : Instruction =
      I.Apply (to K (Temp q) K.integer) (O.Builtin (row_of way)) (from K (Temp q) K.integer ∷ from K (Temp (q + 2)) K.integer ∷ []) in
      before m f n out i1 (i2 ∷ i3 ∷ i4 ∷ []) (reach_fits way q) tt
      (before m f n out i2 (i3 ∷ i4 ∷ []) d tt
      (before m f n out i3 (i4 ∷ []) (truth_fits types ss callees m f n name g pl (Temp (q + 3)) e) (inr o)
      (alone m f n out i4 (step_fits way q) tt)))

  next_right : (out : Labels) (way : Counting) (q e : ℕ) → out e ≡ true → Ok out (next_code K way q e)
  next_right out N.Up q e o = next_of out N.Up q e o (less_fits (q + 3) (q + 3) q)
  next_right out N.Down q e o = next_of out N.Down q e o (less_fits (q + 3) q (q + 3))

  turn_right : (out : Labels) (way : Counting) (q l : ℕ) → out l ≡ true → Ok out (turn_code K way q l)
  turn_right out N.Up q l o =
      let i1 : Instruction = I.Apply (to K (Temp (q + 3)) K.truth) (O.Builtin B.LteqInt) (from K (Temp q) K.integer ∷ from K (Temp (q + 1)) K.integer ∷ []) in
      let i2 : Instruction = I.JumpIf (from K (Temp (q + 3)) K.truth) l in
      before m f n out i1 (i2 ∷ []) (two_ints (q + 3) q (q + 1)) tt
      (alone m f n out i2 (truth_fits types ss callees m f n name g pl (Temp (q + 3)) l) (inr o))
  turn_right out N.Down q l o =
      let i1 : Instruction = I.Apply (to K (Temp (q + 3)) K.truth) (O.Builtin B.LteqInt) (from K (Temp (q + 1)) K.integer ∷ from K (Temp q) K.integer ∷ []) in
      let i2 : Instruction = I.JumpIf (from K (Temp (q + 3)) K.truth) l in
      before m f n out i1 (i2 ∷ []) (two_ints (q + 3) (q + 1) q) tt
      (alone m f n out i2 (truth_fits types ss callees m f n name g pl (Temp (q + 3)) l) (inr o))

  bounds_right : (out : Labels) (a b c : Piece) (ts us rs : List Sized) → Piece_ a ts → Piece_ b us → Piece_ c rs → (s : Stand) (l : ℕ)
      → out s.on_throw ≡ true → out s.on_no ≡ true → Ok out (bounds_code K a b c s l)
  bounds_right out a b c ts us rs ha hb hc s l ot on =
      append m f n out (code_of a s l) (code_of b (higher s) (l + count_of a) ++ code_of c (higher (higher s)) (l + count_of a + count_of b))
      (held types ss callees m f n name g pl tables all a ts ha out s l ot on)
      (append m f n out (code_of b (higher s) (l + count_of a)) (code_of c (higher (higher s)) (l + count_of a + count_of b))
      (held types ss callees m f n name g pl tables all b us hb out (higher s) (l + count_of a) ot on)
      (held types ss callees m f n name g pl tables all c rs hc out (higher (higher s)) (l + count_of a + count_of b) ot on))

  pub foreach_right : (text : List ℕ) (way : Counting) (a b c body : Piece) (ts us rs vs : List Sized) → f.is_pure ≡ false → Piece_ a ts → Piece_ b us
      → Piece_ c rs → Piece_ body vs → Piece_ (foreach_piece K text way a b c body) (fixed_typ types Y.Unit ∷ [])
  foreach_right text way a b c body ts us rs vs free ha hb hc hv out tail s l ot on ht =
      let back : Labels = with_label l out in
      let far : Labels = with_label (l + 2) back in
      let up : Up out back = label_more l out in
      let bot : back s.on_throw ≡ true = up s.on_throw ot in
      let bon : back s.on_no ≡ true = up s.on_no on in
      let more : Up back far = label_more (l + 2) back in
      let q : ℕ = bounds_labels K a b c in
      let inside : Stand = turn_stand K text s in
      let c0 : List Instruction = bounds_code K a b c s (l + 3) in
      let i0 : Instruction = I.Copy (to K (Local (length s.scope)) K.integer) (from K (Temp s.temp) K.integer) in
      let c1 : List Instruction = code_of body inside (l + 3 + q) in
      let c2 : List Instruction = next_code K way s.temp (l + 2) in
      let c3 : List Instruction = turn_code K way s.temp l in
      let c4 : List Instruction = (unit_piece K).ended tail s (l + 3 + q + count_of body) in
      let t3 : List Instruction = I.Label (l + 2) ∷ c4 in
      let t2 : List Instruction = I.Label (l + 1) ∷ (c3 ++ t3) in
      let turn : List Instruction = i0 ∷ (c1 ++ (c2 ++ t2)) in
      let r4 : Ok back t3 = before m f n back (I.Label (l + 2)) c4 (label_fits m f n (l + 2)) tt
      (unit_right types ss callees m f n name g pl tables all back tail s (l + 3 + q + count_of body) bot bon
      (tail_more m f n out back up tail (fixed_typ types Y.Unit ∷ []) ht)) in
      let r2 : Ok back t2 = before m f n back (I.Label (l + 1)) (c3 ++ t3) (label_fits m f n (l + 1)) tt
      (append m f n back c3 t3 (turn_right back way s.temp l (label_there l out)) r4) in
      let r1 : Ok back (c2 ++ t2) = join m f n far back c2 t2
      (label_meets (l + 2) t2 back (set_next (l + 2) (I.Label (l + 1)) (c3 ++ t3) (set_behind (l + 2) c3 t3 (set_first (l + 2) c4))))
      (next_right far way s.temp (l + 2) (label_there (l + 2) back)) r2 in
      let r0 : Ok back turn = before m f n back i0 (c1 ++ (c2 ++ t2))
      (slot_copy types ss callees m f n name g pl (Local (length s.scope)) K.integer (Temp s.temp)) tt
      (append m f n back c1 (c2 ++ t2) (held types ss callees m f n name g pl tables all body vs hv back inside (l + 3 + q) bot bon) r1) in
      append m f n out c0 (I.Goto (l + 1) ∷ I.Label l ∷ I.Tick ∷ turn) (bounds_right out a b c ts us rs ha hb hc s (l + 3) ot on)
      (before m f n out (I.Goto (l + 1)) (I.Label l ∷ I.Tick ∷ turn) (goto_fits m f n (l + 1))
      (inl (set_next (l + 1) (I.Label l) (I.Tick ∷ turn) (set_next (l + 1) I.Tick turn (set_next (l + 1) i0 (c1 ++ (c2 ++ t2))
      (set_behind (l + 1) c1 (c2 ++ t2) (set_behind (l + 1) c2 t2 (set_first (l + 1) (c3 ++ t3))))))))
      (looped m f n out l turn (label_fits m f n l) (tick_fits m f n free) r0))
