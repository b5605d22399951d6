-- Each form's code keeps the rules where those of its parts do.
use Rattle.sail_types.specs.declared.types.Typ.TheVariants as Y
use Rattle.sail_types.specs.declared.rows.Row.TheVariants as B
use Rattle.jib.specs.declared.types.Sort.TheVariants as Q
use Rattle.jib.specs.declared.code.Literal.TheVariants as L
use Rattle.jib.specs.declared.code.Source.TheVariants as R
use Rattle.jib.specs.declared.code.Operation.TheVariants as O
use Rattle.jib.specs.declared.code.Instruction.TheVariants as I
use Rattle.sail_base.specs.declared.place.Place.{Place as TextPlace}
use Rattle.model_state.specs.declared.cause.Cause.TheVariants.{Measure}
use Rattle.std.specs.Prelude.{negsuc, pos, nat_eq, ◌||◌}
use Rattle.std.proofs.Common.{inl, inr, eqb-true, subst}
use Rattle.std.proofs.Common.{Bool, List, Some, [], ap, length, refl, sym, true, ℕ, ◌&&◌, ◌++◌, ◌+◌, ◌∙◌, ◌∷◌, ◌≡◌}
use Rattle.checked_meaning.specs.Items.{fixed_typ}
use Rattle.jib.specs.Valid.{is_cause}
use Rattle.jib.specs.declared.code.Function.{Function}
use Rattle.jib.specs.declared.code.Instruction.{Instruction}
use Rattle.jib.specs.declared.code.Literal.{Literal}
use Rattle.jib.specs.declared.code.Module.{Module}
use Rattle.lowered_pieces.specs.Chains.{many}
use Rattle.lowered_pieces.specs.Forms.{Callees, Depths, Piece, Stand, again_code, again_make, and_piece, assert_piece, bind_piece, bind_tail, bound, code_of}
use Rattle.lowered_pieces.specs.Forms.{constant_piece, count_of, enter_code, if_piece, inner, inside_piece, is_never, jump_where, meet_piece, met_arm, met_tail}
use Rattle.lowered_pieces.specs.Forms.{no_tail, nothing_piece, or_piece, picked_in, return_piece, return_tail, seq_piece, stop_piece, throw_piece, throw_tail}
use Rattle.lowered_pieces.specs.Forms.{unit_piece, when_piece}
use Rattle.lowered_pieces.specs.Moves.{retype}
use Rattle.lowered_pieces.specs.Lowering.{kit_of}
use Rattle.lowered_pieces.specs.Places.{Kit, Local, Naming, Number, Place, Raised, Temp, from, to}
use Rattle.lowered_pieces.specs.Tables.{Tables}
use Rattle.lowered_pieces.specs.Moves.{kept_all, kept_as, kept_code}
use Rattle.lowered_pieces.specs.Forms.{Tail, var_piece, var_tail}
use Rattle.lowered_validity.specs.Typing.{all_come, kept_right}
use Rattle.lowered_validity.proofs.Fitting.{both, kept_as_right}
use Rattle.lowered_types.specs.Table.{type_in}
use Rattle.lowered_validity.proofs.Cases.{Arms, by_case_right}
use Rattle.lowered_validity.proofs.Fitting.{constant_copy, copy_fits, end_fits, parts_of, retype_right, slot_copy, slot_typ, truth_fits, unit_is}
use Rattle.lowered_validity.proofs.Flow.{alone, append, before, set_behind, set_first, set_next, tail_first, tail_second}
use Rattle.lowered_validity.proofs.Labels.{goto_fits, label_fits, stop_fits}
use Rattle.lowered_validity.proofs.Makers.{again_makes, made_right, one_live}
use Rattle.lowered_validity.specs.Laws.{Numbered}
use Rattle.lowered_validity.specs.Right.{Fits, Labels, Placed, Right, RightPiece, RightTail, Signs}
use Rattle.lowered_validity.specs.Typing.{are_of, cases_right, comes, gives_in, is_constant, meet_right, meets, picks_small}
use Rattle.model_state.specs.declared.cause.Cause.{Cause}
use Rattle.sail_types.specs.declared.table.Types.{Types}
use Rattle.size_values.specs.declared.sized.Sized.{Sized}
use Rattle.sized_nodes.specs.declared.trees.Case.{Case}
use Rattle.value_indices.specs.declared.indices.Indices.{Indices}

module _ (types : Types) (ss : List Sized) (callees : Callees) (m : Module) (f : Function) (n : ℕ) (name : Naming) (g : Signs)
    (pl : Placed types ss (type_in ss) callees m f n name g) (tables : Tables) (all : Numbered types tables ss) where
  abbrev K : Kit
  K = kit_of types name (type_in ss) g.exception callees.size callees.direction

  abbrev number : Sized → ℕ
  number = type_in ss

  abbrev Ok : Labels → List Instruction → Type 0
  Ok out c = Right m f n out c

  abbrev Piece_ : Piece → List Sized → Type 0
  Piece_ p ts = RightPiece m f n p ts

  -- ---- values that stay in hand

  none_right : (out : Labels) (ts : List Sized) → RightTail m f n out no_tail ts
  none_right out [] = tt
  none_right out (t ∷ ts) = ((λ l. tt), none_right out ts)

  pub held : (p : Piece) (ts : List Sized) → Piece_ p ts → (out : Labels) (s : Stand) (l : ℕ) → out s.on_throw ≡ true → out s.on_no ≡ true
      → Ok out (code_of p s l)
  held p ts h out s l ot on = h out no_tail s l ot on (none_right out ts)

  pub nothing_right : (ts : List Sized) → Piece_ nothing_piece ts
  nothing_right ts out tail s l ot on ht = tt

  pub constant_right : (t : Sized) (literal : Literal) → is_constant types number callees tables g t literal ≡ true
      → Piece_ (constant_piece K t literal) (t ∷ [])
  constant_right t literal h out tail s l ot on ht =
      before m f n out (I.Copy (to K (Temp s.temp) (number t)) (R.Constant (number t) literal)) (tail.code t l)
      (constant_copy types ss callees m f n name g pl (Temp s.temp) (number t) literal h) tt (ht.0 l)

  pub unit_right : Piece_ (unit_piece K) (fixed_typ types Y.Unit ∷ [])
  unit_right = constant_right (fixed_typ types Y.Unit) L.Unit (unit_is types ss callees m f n name g pl)

  -- ---- pieces that end with a tail of their own

  thrown_tail : (out : Labels) (s : Stand) → out s.on_throw ≡ true → (ts : List Sized) → are_of types number callees tables g g.exception ts ≡ true
      → RightTail m f n out (throw_tail K s) ts
  thrown_tail out s ot [] h = tt
  thrown_tail out s ot (t ∷ ts) h =
      let q = parts_of (nat_eq (number t) g.exception) (are_of types number callees tables g g.exception ts) h in
      let i : Instruction = I.Copy (to K Raised K.exception) (from K (Temp s.temp) (number t)) in
      let fits : Fits m f n i =
      copy_fits types ss callees m f n name g pl Raised K.exception (from K (Temp s.temp) (number t))
      (λ u. slot_typ types ss callees m f n name g pl (Temp s.temp) (number t) u ∙ ap Some (eqb-true (number t) g.exception q.0)) (λ e. refl) in (
        λ l. before m f n out i (I.Goto s.on_throw ∷ []) fits tt (alone m f n out (I.Goto s.on_throw) (goto_fits m f n s.on_throw) (inr ot)),
        thrown_tail out s ot ts q.1,
      )

  pub throw_right : (a : Piece) (ts : List Sized) → Piece_ a ts → are_of types number callees tables g g.exception ts ≡ true → Piece_ (throw_piece K a) []
  throw_right a ts ha h out tail s l ot on ht = ha out (throw_tail K s) s l ot on (thrown_tail out s ot ts h)

  returned_tail : (out : Labels) (s : Stand) (ts : List Sized) → are_of types number callees tables g g.result ts ≡ true
      → RightTail m f n out (return_tail K s) ts
  returned_tail out s [] h = tt
  returned_tail out s (t ∷ ts) h =
      let q = parts_of (nat_eq (number t) g.result) (are_of types number callees tables g g.result ts) h in
      let fits : Fits m f n (I.End (from K (Temp s.temp) (number t))) =
      subst (λ k. Fits m f n (I.End (from K (Temp s.temp) k))) (sym (eqb-true (number t) g.result q.0))
      (end_fits types ss callees m f n name g pl (Temp s.temp)) in
      (λ l. alone m f n out (I.End (from K (Temp s.temp) (number t))) fits tt, returned_tail out s ts q.1)

  pub return_right : (a : Piece) (ts : List Sized) → Piece_ a ts → are_of types number callees tables g g.result ts ≡ true → Piece_ (return_piece K a) []
  return_right a ts ha h out tail s l ot on ht = ha out (return_tail K s) s l ot on (returned_tail out s ts h)

  pub stop_right : (cause : Cause) → is_cause cause ≡ true → (a : Piece) (ts : List Sized) → Piece_ a ts → Piece_ (stop_piece cause a) []
  stop_right cause h a ts ha out tail s l ot on ht =
      append m f n out (code_of a s l) (I.Stop cause ∷ []) (held a ts ha out s l ot on)
      (alone m f n out (I.Stop cause) (stop_fits m f n cause h) tt)

  pub assert_right : (cause : Cause) → is_cause cause ≡ true → (a : Piece) (ts : List Sized) → Piece_ a ts
      → Piece_ (assert_piece K cause a) (fixed_typ types Y.Unit ∷ [])
  assert_right cause h a ts ha out tail s l ot on ht =
      let c1 : List Instruction = code_of a s (l + 1) in
      let c2 : List Instruction = (unit_piece K).ended tail s (l + 1 + count_of a) in
      let t1 : List Instruction = I.Stop cause ∷ I.Label l ∷ c2 in
      append m f n out c1 (jump_where K s l ∷ t1) (held a ts ha out s (l + 1) ot on)
      (before m f n out (jump_where K s l) t1 (truth_fits types ss callees m f n name g pl (Temp s.temp) l)
      (inl (set_next l (I.Stop cause) (I.Label l ∷ c2) (set_first l c2)))
      (before m f n out (I.Stop cause) (I.Label l ∷ c2) (stop_fits m f n cause h) tt
      (before m f n out (I.Label l) c2 (label_fits m f n l) tt (unit_right out tail s (l + 1 + count_of a) ot on ht))))

  -- ---- names, and one behind the other

  bound_tail : (out : Labels) (s : Stand) (ts : List Sized) → RightTail m f n out (bind_tail K s) ts
  bound_tail out s [] = tt
  bound_tail out s (t ∷ ts) =
      let i : Instruction = I.Copy (to K (Local (length s.scope)) (number t)) (from K (Temp s.temp) (number t)) in (
        λ l. alone m f n out i (slot_copy types ss callees m f n name g pl (Local (length s.scope)) (number t) (Temp s.temp)) tt,
        bound_tail out s ts,
      )

  pub bind_right : (text : List ℕ) (a b : Piece) (ts us : List Sized) → Piece_ a ts → Piece_ b us → Piece_ (bind_piece K text a b) us
  bind_right text a b ts us ha hb out tail s l ot on ht =
      append m f n out (a.ended (bind_tail K s) s l) (b.ended tail (bound text s) (l + count_of a)) (ha out (bind_tail K s) s l ot on (bound_tail out s ts))
      (hb out tail (bound text s) (l + count_of a) ot on ht)

  -- ---- variables

  abbrev Reaches : Sized → List Sized → Type 0
  Reaches t [] = Unit {0}
  Reaches t (u ∷ us) = (comes g (number t) (number u) ≡ true) × Reaches t us

  kept_parts : (us : List Sized) (t : Sized) (ts : List Sized) → kept_right types number callees tables g us (t ∷ ts) ≡ true
      → Reaches t us × (kept_right types number callees tables g us ts ≡ true)
  kept_parts [] t ts d = (tt, refl)
  kept_parts (u ∷ us) t ts d =
      let a : Bool = all_come types number callees tables g ts u in
      let q = parts_of (comes g (number t) (number u) && a) (kept_right types number callees tables g us (t ∷ ts)) d in
      let r = parts_of (comes g (number t) (number u)) a q.0 in
      let w = kept_parts us t ts q.1 in
      ((r.0, w.0), both a (kept_right types number callees tables g us ts) r.1 w.1)

  kept_all_right : (out : Labels) (p : Place) (q : ℕ) (t : Sized) (us : List Sized) → Reaches t us → Ok out (kept_all K p q (number t) us)
  kept_all_right out p q t [] h = tt
  kept_all_right out p q t (u ∷ us) h =
      append m f n out (kept_as K p (number u) q (number t)) (kept_all K p q (number t) us)
      (kept_as_right types ss callees m f n name g pl out p q (number t) (number u) h.0) (kept_all_right out p q t us h.1)

  kept_code_right : (out : Labels) (p : Place) (q : ℕ) (us : List Sized) (t : Sized) → Reaches t us → Ok out (kept_code K p q us t)
  kept_code_right out p q us t h =
      before m f n out (I.Copy (to K p (number t)) (from K (Temp q) (number t))) (kept_all K p q (number t) us)
      (slot_copy types ss callees m f n name g pl p (number t) (Temp q)) tt (kept_all_right out p q t us h)

  kept_tail : (out : Labels) (us : List Sized) (s : Stand) (ts : List Sized) → kept_right types number callees tables g us ts ≡ true
      → RightTail m f n out (var_tail K us s) ts
  kept_tail out us s [] d = tt
  kept_tail out us s (t ∷ ts) d =
      let q = kept_parts us t ts d in
      (λ l. kept_code_right out (Local (length s.scope)) s.temp us t q.0, kept_tail out us s ts q.1)

  pub var_right : (us : List Sized) (text : List ℕ) (a b : Piece) (ts vs : List Sized) → Piece_ a ts → kept_right types number callees tables g us ts ≡ true
      → Piece_ b vs → Piece_ (var_piece K us text a b) vs
  var_right us text a b ts vs ha d hb out tail s l ot on ht =
      append m f n out (a.ended (var_tail K us s) s l) (b.ended tail (bound text s) (l + count_of a))
      (ha out (var_tail K us s) s l ot on (kept_tail out us s ts d)) (hb out tail (bound text s) (l + count_of a) ot on ht)

  -- of each of these types
  abbrev pub Each : (Sized → Type 0) → List Sized → Type 0
  Each F [] = Unit {0}
  Each F (t ∷ ts) = F t × Each F ts

  -- a value in hand goes to the place of a variable
  pub kept_codes : (out : Labels) (p : Place) (q : ℕ) (us ts : List Sized) → kept_right types number callees tables g us ts ≡ true
      → Each (λ t. Ok out (kept_code K p q us t)) ts
  kept_codes out p q us [] d = tt
  kept_codes out p q us (t ∷ ts) d =
      let w = kept_parts us t ts d in
      (kept_code_right out p q us t w.0, kept_codes out p q us ts w.1)

  pub seq_right : (a b : Piece) (ts us : List Sized) → Piece_ a ts → Piece_ b us → Piece_ (seq_piece a b) us
  seq_right a b ts us ha hb out tail s l ot on ht =
      append m f n out (code_of a s l) (b.ended tail s (l + count_of a)) (held a ts ha out s l ot on) (hb out tail s (l + count_of a) ot on ht)

  -- ---- branches, turns of loops and arms

  entered_right : (out : Labels) (d : Depths) (xs : List ℕ) → Ok out (enter_code K d xs)
  entered_right out d [] = tt
  entered_right out d (x ∷ xs) =
      before m f n out (I.Copy (to K (Number x (d.here + 1)) K.integer) (from K (Number x (d.of x)) K.integer)) (enter_code K d xs)
      (slot_copy types ss callees m f n name g pl (Number x (d.here + 1)) K.integer (Number x (d.of x))) tt (entered_right out d xs)

  pub inside_right : (a : Piece) (ts : List Sized) → Piece_ a ts → Piece_ (inside_piece K a) ts
  inside_right a ts ha out tail s l ot on ht =
      append m f n out (enter_code K s.depths a.notes) (a.ended tail (inner a.notes s) l) (entered_right out s.depths a.notes)
      (ha out tail (inner a.notes s) l ot on ht)

  pub if_right : (c a b : Piece) (rs ts us : List Sized) → Piece_ c rs → Piece_ a ts → Piece_ b us → Piece_ (if_piece K c a b) (ts ++ us)
  if_right c a b rs ts us hc ha hb out tail s l ot on ht =
      let q : ℕ = tail.labels in
      let lb : ℕ = l + 2 + count_of c in
      let la : ℕ = l + 2 + count_of c + b.labels q in
      let c1 : List Instruction = code_of c s (l + 2) in
      let c2 : List Instruction = b.ended tail s lb in
      let c3 : List Instruction = a.ended tail s la in
      let last : List Instruction = I.Label (l + 1) ∷ [] in
      let t3 : List Instruction = c3 ++ last in
      let t2 : List Instruction = I.Goto (l + 1) ∷ I.Label l ∷ t3 in
      append m f n out c1 (jump_where K s l ∷ (c2 ++ t2)) (held c rs hc out s (l + 2) ot on)
      (before m f n out (jump_where K s l) (c2 ++ t2) (truth_fits types ss callees m f n name g pl (Temp s.temp) l)
      (inl (set_behind l c2 t2 (set_next l (I.Goto (l + 1)) (I.Label l ∷ t3) (set_first l t3))))
      (append m f n out c2 t2 (hb out tail s lb ot on (tail_second m f n out tail ts us ht))
      (before m f n out (I.Goto (l + 1)) (I.Label l ∷ t3) (goto_fits m f n (l + 1))
      (inl (set_next (l + 1) (I.Label l) t3 (set_behind (l + 1) c3 last (set_first (l + 1) []))))
      (before m f n out (I.Label l) t3 (label_fits m f n l) tt
      (append m f n out c3 last (ha out tail s la ot on (tail_first m f n out tail ts us ht))
      (alone m f n out (I.Label (l + 1)) (label_fits m f n (l + 1)) tt))))))

  -- ---- ways that meet

  met_arms : (out : Labels) (t : Sized) (s : Stand) (cases : List Case)
      → cases_right types number callees tables g (λ c. is_never t || comes g (number t) (number c.gives)) cases ≡ true
      → Arms types ss callees m f n name g pl picked_in (met_arm K number t s) out cases
  met_arms out t s [] h = tt
  met_arms out t s (c ∷ cs) h =
      let p : Case → Bool = λ x. is_never t || comes g (number t) (number x.gives) in
      let q = parts_of (picks_small c.picked) (tables.known c.gives && (p c && cases_right types number callees tables g p cs)) h in
      let r = parts_of (tables.known c.gives) (p c && cases_right types number callees tables g p cs) q.1 in
      let w = parts_of (p c) (cases_right types number callees tables g p cs) r.1 in
      let make : comes g (number t) (number c.gives) ≡ true → Ok out (retype K s.temp (number t) (number c.gives)) =
      retype_right types ss callees m f n name g pl out s.temp (number t) (number c.gives) in (
        (
          q.0,
          λ l. one_live types ss callees m f n name g pl tables all out t (retype K s.temp (number t) (number c.gives))
              (comes g (number t) (number c.gives)) w.0 make,
        ),
        met_arms out t s cs w.1,
      )

  met_right : (out : Labels) (s : Stand) (cases : List Case) (ts : List Sized) → meets types number callees tables g ts cases ≡ true
      → RightTail m f n out (met_tail K number cases s) ts
  met_right out s cases [] h = tt
  met_right out s cases (t ∷ ts) h =
      let q = parts_of (cases_right types number callees tables g (λ c. is_never t || comes g (number t) (number c.gives)) cases)
      (meets types number callees tables g ts cases) h in (
        λ l. by_case_right types ss callees m f n name g pl picked_in s.depths (s.temp + 1) 0 (met_arm K number t s) out cases (met_arms out t s cases q.0) l,
        met_right out s cases ts q.1,
      )

  pub meet_is_right : (cases : List Case) (gives : List Indices) (a : Piece) (ts : List Sized) → Piece_ a ts
      → meet_right types number callees tables g ts cases ≡ true → Piece_ (meet_piece K number cases gives a) (gives_in cases)
  meet_is_right cases gives a ts ha h out tail s l ot on ht =
      let q = parts_of (meets types number callees tables g ts cases) (cases_right types number callees tables g (λ c. true) cases) h in
      append m f n out (a.ended (met_tail K number cases s) s l) (again_code K number cases gives tail s (l + a.labels (many 0 cases)))
      (ha out (met_tail K number cases s) s l ot on (met_right out s cases ts q.0))
      (made_right types ss callees m f n name g pl tables all 1 (λ c. true) (again_make K number)
      (again_makes types ss callees m f n name g pl tables all (λ c. true)) cases q.1 gives out tail s (l + a.labels (many 0 cases)) ht)

  -- ---- truths

  pub and_right : (a b : Piece) (ts us : List Sized) → Piece_ a ts → Piece_ b us → Piece_ (and_piece K a b) (fixed_typ types Y.Bool ∷ [])
  and_right a b ts us ha hb out tail s l ot on ht =
      let lt : ℕ = l + 2 + count_of a + count_of b in
      let c1 : List Instruction = code_of a s (l + 2) in
      let c2 : List Instruction = code_of b s (l + 2 + count_of a) in
      let c3 : List Instruction = tail.code K.truths lt in
      let t3 : List Instruction = I.Label (l + 1) ∷ c3 in
      let t2 : List Instruction = I.Label l ∷ (c2 ++ t3) in
      append m f n out c1 (jump_where K s l ∷ I.Goto (l + 1) ∷ t2) (held a ts ha out s (l + 2) ot on)
      (before m f n out (jump_where K s l) (I.Goto (l + 1) ∷ t2) (truth_fits types ss callees m f n name g pl (Temp s.temp) l)
      (inl (set_next l (I.Goto (l + 1)) t2 (set_first l (c2 ++ t3))))
      (before m f n out (I.Goto (l + 1)) t2 (goto_fits m f n (l + 1))
      (inl (set_next (l + 1) (I.Label l) (c2 ++ t3) (set_behind (l + 1) c2 t3 (set_first (l + 1) c3))))
      (before m f n out (I.Label l) (c2 ++ t3) (label_fits m f n l) tt
      (append m f n out c2 t3 (held b us hb out s (l + 2 + count_of a) ot on)
      (before m f n out (I.Label (l + 1)) c3 (label_fits m f n (l + 1)) tt (ht.0 lt))))))

  pub or_right : (a b : Piece) (ts us : List Sized) → Piece_ a ts → Piece_ b us → Piece_ (or_piece K a b) (fixed_typ types Y.Bool ∷ [])
  or_right a b ts us ha hb out tail s l ot on ht =
      let lt : ℕ = l + 1 + count_of a + count_of b in
      let c1 : List Instruction = code_of a s (l + 1) in
      let c2 : List Instruction = code_of b s (l + 1 + count_of a) in
      let c3 : List Instruction = tail.code K.truths lt in
      let t3 : List Instruction = I.Label l ∷ c3 in
      append m f n out c1 (jump_where K s l ∷ (c2 ++ t3)) (held a ts ha out s (l + 1) ot on)
      (before m f n out (jump_where K s l) (c2 ++ t3) (truth_fits types ss callees m f n name g pl (Temp s.temp) l)
      (inl (set_behind l c2 t3 (set_first l c3)))
      (append m f n out c2 t3 (held b us hb out s (l + 1 + count_of a) ot on) (before m f n out (I.Label l) c3 (label_fits m f n l) tt (ht.0 lt))))

  pub when_right : (a b : Piece) (ts us : List Sized) → Piece_ a ts → Piece_ b us → Piece_ (when_piece K a b) us
  when_right a b ts us ha hb out tail s l ot on ht =
      let c1 : List Instruction = code_of a s (l + 1) in
      let c2 : List Instruction = b.ended tail s (l + 1 + count_of a) in
      let t2 : List Instruction = I.Label l ∷ c2 in
      append m f n out c1 (jump_where K s l ∷ I.Goto s.on_no ∷ t2) (held a ts ha out s (l + 1) ot on)
      (before m f n out (jump_where K s l) (I.Goto s.on_no ∷ t2) (truth_fits types ss callees m f n name g pl (Temp s.temp) l)
      (inl (set_next l (I.Goto s.on_no) t2 (set_first l c2)))
      (before m f n out (I.Goto s.on_no) t2 (goto_fits m f n s.on_no) (inr on)
      (before m f n out (I.Label l) c2 (label_fits m f n l) tt (hb out tail s (l + 1 + count_of a) ot on ht))))
