-- Operands, calls, parts, assignments and builtins of the state.
use Rattle.sail_types.specs.declared.types.Typ.TheVariants as Y
use Rattle.sail_core.specs.declared.targets.Way.TheVariants as X
use Rattle.jib.specs.declared.code.Literal.TheVariants as L
use Rattle.jib.specs.declared.code.Source.TheVariants as R
use Rattle.jib.specs.declared.code.Target.TheVariants as J
use Rattle.jib.specs.declared.code.Operation.TheVariants as O
use Rattle.jib.specs.declared.code.Instruction.TheVariants as I
use Rattle.sail_base.specs.declared.place.Place.{Place as TextPlace}
use Rattle.std.proofs.Common.{inl, inr, subst, length, not, suc}
use Rattle.model_state.specs.declared.cause.Cause.TheVariants.{MatchFailure}
use Rattle.jib.specs.Valid.{is_stateless}
use Rattle.jib.specs.Typing.{payload_typ}
use Rattle.lowered_pieces.specs.Writes.{Cell, Holder, Spot, Writing, assign_piece}
use Rattle.lowered_pieces.specs.Writes.{before as ahead, called, cell_code, cell_labels, cell_writing, component_step}
use Rattle.lowered_pieces.specs.Writes.{final, given_piece, given_tail, held_piece, new_piece, one, put_step, register, renewed_code, renewed_tail}
use Rattle.lowered_pieces.specs.Writes.{replaced_code, several, several_code, several_writing, spot_piece, store_code, taken_step, takes_in, takes_of}
use Rattle.lowered_pieces.specs.Writes.{typed_code, typed_tail, variable, way_typ}
use Rattle.lowered_pieces.specs.Mapped.{applied_piece, direction_call, none_piece, operand_moved, optional_piece, some_piece, some_tail}
use Rattle.lowered_validity.proofs.Flow.{before}
use Rattle.lowered_validity.specs.Typing.{Typing, applies_right, all_come, all_right, has_last, is_put, is_taken, moves_to, no_value, optional_right, replaces}
use Rattle.lowered_validity.specs.Typing.{all_fields_right, cell_right, cells_right, fields_right}
use Rattle.lowered_validity.specs.Typing.{holder_right, last_types, replaces_all, spot_right, spot_types}
use Rattle.lowered_validity.specs.Typing.{typed_right, write_right}
use Rattle.lowered_types.specs.Table.{type_in}
use Rattle.jib.specs.Typing.{same, source_typ}
use Rattle.lowered_pieces.specs.Gathered.{operand_at, operands_at, row_code, state_piece, only_end}
use Rattle.lowered_validity.specs.Typing.{operand_typ, operand_types, path_types, path_right, way_right, way_types}
use Rattle.std.proofs.Common.{Bool, List, None, Option, Some, [], ap, false, refl, sym, true, ℕ, ◌&&◌, ◌++◌, ◌+◌, ◌∙◌, ◌∷◌, ◌≡◌}
use Rattle.std.specs.Prelude.{slice_get}
use Rattle.sail_core.specs.Making.{component}
use Rattle.checked_meaning.specs.Items.{fixed_typ, part_typ}
use Rattle.jib.specs.Operands.{makes}
use Rattle.jib.specs.declared.code.Function.{Function}
use Rattle.jib.specs.declared.code.Instruction.{Instruction}
use Rattle.jib.specs.declared.code.Module.{Module}
use Rattle.jib.specs.declared.code.Operation.{Operation}
use Rattle.jib.specs.declared.code.Source.{Source}
use Rattle.lowered_laws.specs.Standing.{free}
use Rattle.lowered_pieces.specs.Arms.{arguments}
use Rattle.lowered_pieces.specs.Chains.{by_case, many}
use Rattle.lowered_pieces.specs.Forms.{Callees, Maker, Order, Piece, Stand, Tail, all_code, all_labels, answer_make, call_piece, cast_make, cast_piece}
use Rattle.lowered_pieces.specs.Forms.{code_of, count_of, higher, in_order, kit_at, lead_arm, made_code, made_of_piece, note_code, nothing_piece, numbers_of}
use Rattle.lowered_pieces.specs.Forms.{picked_by, place_of, source_make, unit_piece, unit_source, variable_make, work_make, work_piece}
use Rattle.lowered_pieces.specs.Lowering.{kit_of}
use Rattle.lowered_pieces.specs.Moves.{retype, sources}
use Rattle.lowered_pieces.specs.Paths.{path_piece, way_piece}
use Rattle.lowered_pieces.specs.Places.{Kit, Mapped, Naming, Temp, from, to}
use Rattle.lowered_pieces.specs.Tables.{Tables}
use Rattle.lowered_validity.proofs.Arms.{RightAll, else_right}
use Rattle.lowered_validity.proofs.Cases.{Arms, by_case_right}
use Rattle.lowered_validity.proofs.Fitting.{Liked, Ordered, call_fits, in_order_fits, like_constant, like_slot, liked_fits, nats_same, one_fits}
use Rattle.lowered_validity.proofs.Fitting.{parts_of, payload_fits, retype_right, same_is, same_some, slot_typ, unit_is, work_fits}
use Rattle.lowered_validity.proofs.Flow.{alone, append, more, set_first, set_next}
use Rattle.lowered_validity.proofs.Forms.{Each, held, kept_codes, unit_right}
use Rattle.lowered_validity.proofs.Labels.{goto_fits, label_fits, stop_fits, tick_fits}
use Rattle.lowered_validity.proofs.Makers.{Makes, answer_makes, cast_makes, made_right, numbers_same, source_makes, variable_makes, work_makes}
use Rattle.lowered_validity.proofs.Notes.{notes_right}
use Rattle.lowered_validity.specs.Laws.{Numbered}
use Rattle.lowered_validity.specs.Right.{Entered, Fits, Labels, Placed, Right, RightPiece, RightTail, Signs}
use Rattle.lowered_validity.specs.Typing.{cases_right, comes, gives_in, is_recast, is_lead, is_sourced, is_work, leads_right, numbers, one_operand, operands}
use Rattle.lowered_validity.specs.Typing.{picks_small, row_ends, shell, state_right, works}
use Rattle.sail_core.specs.declared.targets.Suffix.{Suffix}
use Rattle.sail_core.specs.declared.targets.Way.{Way}
use Rattle.sail_types.specs.declared.rows.Row.{Row}
use Rattle.sail_types.specs.declared.table.Types.{Types}
use Rattle.size_values.specs.declared.sized.Sized.{Sized}
use Rattle.sized_nodes.specs.declared.trees.Case.{Case}
use Rattle.sized_nodes.specs.declared.trees.Lead.{Lead}
use Rattle.value_indices.specs.declared.indices.Indices.{Indices}

module _ (types : Types) (ss : List Sized) (callees : Callees) (m : Module) (f : Function) (n : ℕ) (name : Naming) (g : Signs)
    (pl : Placed types ss (type_in ss) callees m f n name g) (tables : Tables) (all : Numbered types tables ss) where
  abbrev K : Kit
  K = kit_of types name (type_in ss) g.exception callees.size callees.direction

  abbrev number : Sized → ℕ
  number = type_in ss

  abbrev Ok : Labels → List Instruction → Type 0
  Ok out c = Right m f n out c

  abbrev Piece_ : Piece → List Sized → Type 0
  Piece_ p ts = RightPiece m f n p ts

  abbrev pub Rights : List Piece → List Typing → Type 0
  Rights ps ts = RightAll types ss callees m f n name g pl tables all ps ts

  impossible : {A : Type 0} → false ≡ true → A
  impossible h = cc

  pub free_of : g.is_pure ≡ false → f.is_pure ≡ false
  free_of h = pl.is_pure ∙ h

  -- ---- operands

  abbrev pub Helds : List Piece → Type 0
  Helds [] = Unit {0}
  Helds (p ∷ ps) = ((us : List Sized) × Piece_ p us) × Helds ps

  pub helds_of : (ps : List Piece) (ts : List Typing) → Rights ps ts → all_right ts ≡ true → Helds ps
  helds_of [] [] h d = tt
  helds_of [] (t ∷ ts) h d = tt
  helds_of (p ∷ ps) [] h d = absurd h
  helds_of (p ∷ ps) (t ∷ ts) h d =
      let q = parts_of t.right (all_right ts) d in
      ((t.types, (h.0 q.0).1), helds_of ps ts h.1 q.1)

  all_code_right : (out : Labels) (ps : List Piece) → Helds ps → (s : Stand) (l : ℕ) → out s.on_throw ≡ true → out s.on_no ≡ true
      → Ok out (all_code K number ps s l)
  all_code_right out [] h s l ot on = tt
  all_code_right out (p ∷ ps) h s l ot on =
      append m f n out (code_of p s l) (all_code K number ps (higher s) (l + count_of p))
      (held types ss callees m f n name g pl tables all p h.0.0 h.0.1 out s l ot on)
      (all_code_right out ps h.1 (higher s) (l + count_of p) ot on)

  pub made_of_right : (p : Case → Bool) (make : Maker K number) → Makes types ss callees m f n name g pl tables all p make → (cases : List Case)
      → cases_right types number callees tables g p cases ≡ true → (gives : List Indices) (ps : List Piece) → Helds ps
      → Piece_ (made_of_piece K number make cases gives ps) (gives_in cases)
  made_of_right p make makes cases d gives ps h out tail s l ot on ht =
      append m f n out (all_code K number ps s l) (made_code K number (length ps) make cases gives tail s (l + all_labels K number ps))
      (all_code_right out ps h s l ot on)
      (made_right types ss callees m f n name g pl tables all (length ps) p make makes cases d gives out tail s (l + all_labels K number ps) ht)

  pub work_right : (op : Operation) (first second : Order) → Ordered types ss callees m f n name g pl first second → (f.is_pure ≡ true → is_stateless op ≡ true)
      → (cases : List Case) → cases_right types number callees tables g (is_work types number callees tables g op second) cases ≡ true → (gives : List Indices)
      → (ps : List Piece) → Helds ps → Piece_ (work_piece K number op first cases gives ps) (gives_in cases)
  work_right op first second ordered pure cases d gives ps h =
      made_of_right (is_work types number callees tables g op second) (work_make K number op first)
      (work_makes types ss callees m f n name g pl tables all op first second ordered pure) cases d gives ps h

  pub cast_right : (cases : List Case) → cases_right types number callees tables g (is_recast types number callees tables g) cases ≡ true
      → (gives : List Indices)
      → (a : Piece) (us : List Sized) → Piece_ a us → Piece_ (cast_piece K number cases gives a) (gives_in cases)
  cast_right cases d gives a us ha out tail s l ot on ht =
      append m f n out (code_of a s l) (made_code K number 1 (cast_make K number) cases gives tail s (l + count_of a))
      (held types ss callees m f n name g pl tables all a us ha out s l ot on)
      (made_right types ss callees m f n name g pl tables all 1 (is_recast types number callees tables g) (cast_make K number)
      (cast_makes types ss callees m f n name g pl tables all) cases d gives out tail s (l + count_of a) ht)

  -- ---- calls

  lead_entered : (p : ℕ) (ts : List Sized) (o : Option (List ℕ)) → g.parameters p ≡ o → is_lead types number callees tables g o ts ≡ true
      → Entered m f n (callees.function p) (number (callees.answer p)) (numbers_of K number ts)
  lead_entered p ts None e d = impossible d
  lead_entered p ts (Some us) e d =
      subst (λ x. Entered m f n (callees.function p) (number (callees.answer p)) x)
      (sym (nats_same (numbers types number callees tables g ts) us d) ∙ numbers_same types ss callees m f n name g pl tables all ts) (pl.entered p us e)

  lead_arms : (out : Labels) (place : TextPlace) (cases : List Case) (gives : List Indices) (tail : Tail) (s : Stand) → f.is_pure ≡ false
      → out s.on_throw ≡ true → RightTail m f n out tail (gives_in cases) → (leads : List Lead) → leads_right types number callees tables g cases leads ≡ true
      → Arms types ss callees m f n name g pl picked_by (lead_arm K number callees place cases gives tail s) out leads
  lead_arms out place cases gives tail s free ot ht [] d = tt
  lead_arms out place cases gives tail s free ot ht (x ∷ xs) d =
      let t : ℕ = number (callees.answer x.instance) in
      let comes_to : Case → Bool = λ c. comes g t (number c.gives) in
      let a1 : Bool = is_lead types number callees tables g (g.parameters x.instance) x.takes in
      let a2 : Bool = cases_right types number callees tables g comes_to cases in
      let a3 : Bool = leads_right types number callees tables g cases xs in
      let q = parts_of (picks_small x.picked) (a1 && (a2 && a3)) d in
      let r = parts_of a1 (a2 && a3) q.1 in
      let w = parts_of a2 a3 r.1 in
      let call : Instruction = I.Call (record {
        slot = name (Temp s.temp) t;
        function = callees.function x.instance;
        arguments = sources K s.temp (numbers_of K number x.takes);
        on_throw = s.on_throw;
        place = place;
      }) in (
        (
          q.0,
          λ l. before m f n out call (made_code K number 1 (answer_make K number t) cases gives tail s l)
              (call_fits types ss callees m f n name g pl s.temp t (callees.function x.instance) s.on_throw place (numbers_of K number x.takes)
              (lead_entered x.instance x.takes (g.parameters x.instance) refl r.0) free) (inr ot)
              (made_right types ss callees m f n name g pl tables all 1 comes_to (answer_make K number t)
              (answer_makes types ss callees m f n name g pl tables all t) cases w.0 gives out tail s l ht),
        ),
        lead_arms out place cases gives tail s free ot ht xs w.1,
      )

  pub call_is_right : (place : TextPlace) (cases : List Case) (leads : List Lead) (gives : List Indices) (ps : List Piece) → f.is_pure ≡ false → Helds ps
      → leads_right types number callees tables g cases leads ≡ true → Piece_ (call_piece K number callees place cases leads gives ps) (gives_in cases)
  call_is_right place cases leads gives ps free h d out tail s l ot on ht =
      let arm : Lead → ℕ → List Instruction = lead_arm K number callees place cases gives tail s in
      let q : ℕ = many tail.labels cases in
      append m f n out (all_code K number ps s l) (by_case picked_by (kit_at K s.depths) (s.temp + length ps) q arm (l + all_labels K number ps) leads)
      (all_code_right out ps h s l ot on)
      (by_case_right types ss callees m f n name g pl picked_by s.depths (s.temp + length ps) q arm out leads
      (lead_arms out place cases gives tail s free ot ht leads d) (l + all_labels K number ps))

  -- ---- builtins of the state

  operand_same : (q : ℕ) (o : Option Sized) → operand_at K q o ≡ from K (Temp q) (number (operand_typ types number callees tables g o))
  operand_same q None = refl
  operand_same q (Some t) = refl

  operands_same : (q : ℕ) (ps : List Piece) (ts : List Typing) → Rights ps ts → all_right ts ≡ true
      → operands_at K q ps ≡ sources K q (numbers types number callees tables g (operand_types types number callees tables g ts))
  operands_same q [] [] h d = refl
  operands_same q [] (t ∷ ts) h d = absurd h
  operands_same q (p ∷ ps) [] h d = absurd h
  operands_same q (p ∷ ps) (t ∷ ts) h d =
      let r = parts_of t.right (all_right ts) d in
      let e : operand_at K q (only_end p.ends) ≡ from K (Temp q) (number (operand_typ types number callees tables g (only_end t.ends))) =
      ap (λ es. operand_at K q (only_end es)) (h.0 r.0).0 ∙ operand_same q (only_end t.ends) in
      let more = operands_same (q + 1) ps ts h.1 r.1 in
      λ j. e j ∷ more j

  pub state_is_right : (row : Row) (cases : List Case) (gives : List Indices) (ps : List Piece) (ts : List Typing) → f.is_pure ≡ false → Rights ps ts
      → all_right ts ≡ true → state_right types number callees tables g row cases (operand_types types number callees tables g ts) ≡ true
      → ((state_piece K row cases gives ps).ends ≡ row_ends types number callees tables g true 0 cases)
      × Piece_ (state_piece K row cases gives ps) (gives_in cases)
  state_is_right row [] gives ps ts free h d w = impossible w
  state_is_right row (c ∷ b ∷ cases) gives ps ts free h d w = impossible w
  state_is_right row (c ∷ []) gives ps ts free h d w = (refl, one)
    where
      r : (tables.known c.gives ≡ true)
          × (works types number callees tables g (O.Builtin row)
          (operands 0 (numbers types number callees tables g (operand_types types number callees tables g ts)))
          (operand_types types number callees tables g ts) c.gives ≡ true)
      r =
          parts_of (tables.known c.gives)
          (works types number callees tables g (O.Builtin row)
          (operands 0 (numbers types number callees tables g (operand_types types number callees tables g ts)))
          (operand_types types number callees tables g ts) c.gives) w

      fits : (q : ℕ) → Fits m f n (I.Apply (to K (Temp q) (number c.gives)) (O.Builtin row) (operands_at K q ps))
      fits q =
          subst (λ rs. Fits m f n (I.Apply (to K (Temp q) (number c.gives)) (O.Builtin row) rs)) (sym (operands_same q ps ts h d))
          (work_fits types ss callees m f n name g pl (Temp q) (number c.gives) (O.Builtin row) in_order in_order
          (in_order_fits types ss callees m f n name g pl) (λ e. impossible (sym free ∙ e)) q
          (numbers types number callees tables g (operand_types types number callees tables g ts)) r.1)

      one : Piece_ (state_piece K row (c ∷ []) gives ps) (c.gives ∷ [])
      one out tail s l ot on ht =
          let l2 : ℕ = l + all_labels K number ps in
          let noted : List Instruction = note_code (kit_at K s.depths) number s.temp gives c.gives in
          append m f n out (all_code K number ps s l) (row_code K row c gives ps tail s l2) (all_code_right out ps (helds_of ps ts h d) s l ot on)
          (before m f n out (I.Apply (to K (Temp s.temp) (number c.gives)) (O.Builtin row) (operands_at K s.temp ps)) (noted ++ tail.code c.gives l2)
          (fits s.temp) tt
          (append m f n out noted (tail.code c.gives l2)
          (notes_right types ss callees m f n name g pl tables all s.depths out s.temp gives c.gives (all.known c.gives r.0)) (ht.0 l2)))

  -- ---- parts

  way_is_right : (w : Way) (k : ℕ) (qs : List Suffix)
      → ((ps : List Piece) (ts : List Typing) (p : Piece) (us : List Sized) → Rights ps ts → path_right types number callees tables g qs ts ≡ true → Piece_ p us
      → Piece_ (path_piece K number tables qs ps p) (path_types types number callees tables g qs us))
      → (ps : List Piece) (ts : List Typing) (p : Piece) (us : List Sized) → Rights ps ts
      → way_right types number callees tables g w k ts (path_right types number callees tables g qs) ≡ true → Piece_ p us
      → Piece_ (way_piece K number tables w k ps p (path_piece K number tables qs))
      (path_types types number callees tables g qs (way_types types number callees tables g w k))
  way_is_right (X.Field struct i) k qs next ps ts p us h d hp =
      let cases : List Case = tables.cases k 1 in
      let q = parts_of (cases_right types number callees tables g (is_work types number callees tables g (O.Field i) in_order) cases)
      (path_right types number callees tables g qs ts) d in
      next ps ts (work_piece K number (O.Field i) in_order cases (tables.gives k) (p ∷ [])) (gives_in cases) h q.1
      (work_right (O.Field i) in_order in_order (in_order_fits types ss callees m f n name g pl) (λ e. refl) cases q.0 (tables.gives k) (p ∷ []) ((us, hp), tt))
  way_is_right X.Item k qs next [] [] p us h d hp = impossible d
  way_is_right X.Item k qs next [] (t ∷ ts) p us h d hp = absurd h
  way_is_right X.Item k qs next (a ∷ ps) [] p us h d hp = absurd h
  way_is_right X.Item k qs next (a ∷ ps) (t ∷ ts) p us h d hp =
      let cases : List Case = tables.cases k 2 in
      let work : Bool = cases_right types number callees tables g (is_work types number callees tables g O.Item in_order) cases in
      let rest : Bool = path_right types number callees tables g qs ts in
      let q = parts_of t.right (work && rest) d in
      let r = parts_of work rest q.1 in
      next ps ts (work_piece K number O.Item in_order cases (tables.gives k) (p ∷ a ∷ [])) (gives_in cases) h.1 r.1
      (work_right O.Item in_order in_order (in_order_fits types ss callees m f n name g pl) (λ e. refl) cases r.0 (tables.gives k) (p ∷ a ∷ [])
      ((us, hp), ((t.types, (h.0 q.0).1), tt)))
  way_is_right X.Slice k qs next [] [] p us h d hp = impossible d
  way_is_right X.Slice k qs next [] (t ∷ ts) p us h d hp = absurd h
  way_is_right X.Slice k qs next (a ∷ ps) [] p us h d hp = absurd h
  way_is_right X.Slice k qs next (a ∷ []) (t ∷ []) p us h d hp = impossible d
  way_is_right X.Slice k qs next (a ∷ []) (t ∷ u ∷ ts) p us h d hp = absurd h.1
  way_is_right X.Slice k qs next (a ∷ b ∷ ps) (t ∷ []) p us h d hp = absurd h.1
  way_is_right X.Slice k qs next (a ∷ b ∷ ps) (t ∷ u ∷ ts) p us h d hp =
      let cases : List Case = tables.cases k 3 in
      let work : Bool = cases_right types number callees tables g (is_work types number callees tables g O.Slice in_order) cases in
      let rest : Bool = path_right types number callees tables g qs ts in
      let q = parts_of t.right (u.right && (work && rest)) d in
      let v = parts_of u.right (work && rest) q.1 in
      let r = parts_of work rest v.1 in
      next ps ts (work_piece K number O.Slice in_order cases (tables.gives k) (p ∷ a ∷ b ∷ [])) (gives_in cases) h.1.1 r.1
      (work_right O.Slice in_order in_order (in_order_fits types ss callees m f n name g pl) (λ e. refl) cases r.0 (tables.gives k) (p ∷ a ∷ b ∷ [])
      ((us, hp), ((t.types, (h.0 q.0).1), ((u.types, (h.1.0 v.0).1), tt))))

  pub path_is_right : (qs : List Suffix) (ps : List Piece) (ts : List Typing) (p : Piece) (us : List Sized) → Rights ps ts
      → path_right types number callees tables g qs ts ≡ true → Piece_ p us
      → Piece_ (path_piece K number tables qs ps p) (path_types types number callees tables g qs us)
  path_is_right [] [] [] p us h d hp = hp
  path_is_right [] [] (t ∷ ts) p us h d hp = absurd h
  path_is_right [] (a ∷ ps) [] p us h d hp = absurd h
  path_is_right [] (a ∷ ps) (t ∷ ts) p us h d hp = impossible d
  path_is_right (q ∷ qs) ps ts p us h d hp = way_is_right q.way q.number qs (path_is_right qs) ps ts p us h d hp

  -- ---- assignments

  register_fits : (r q t : ℕ) → f.is_pure ≡ false → slice_get g.registers r ≡ Some t → Fits m f n (I.Copy (J.Register r) (from K (Temp q) t))
  register_fits r q t free e u = (
    same_is (source_typ m f (from K (Temp q) t)) (slice_get m.registers r) t (slot_typ types ss callees m f n name g pl (Temp q) t (λ k h. u k h))
        (ap (λ rs. slice_get rs r) pl.registers ∙ e),
    λ w. impossible (sym free ∙ w),
  )

  moved_operand : (out : Labels) (q : ℕ) (o : Option Sized) (t : Sized) → moves_to types number callees tables g o t ≡ true → Ok out (operand_moved K q o t)
  moved_operand out q None t d = tt
  moved_operand out q (Some u) t d = retype_right types ss callees m f n name g pl out q (number u) (number t) d

  none_right_ : (option : Sized) → works types number callees tables g (O.Construct 1) (no_value types number callees tables g ∷ []) [] option ≡ true
      → Piece_ (none_piece K option) (option ∷ [])
  none_right_ option d out tail s l ot on ht =
      let z : Liked types ss callees m f n name g pl [] =
      like_constant types ss callees m f n name g pl [] K.unit L.Unit (unit_is types ss callees m f n name g pl) in
      let i1 : Instruction = I.Apply (to K (Temp s.temp) (number option)) (O.Construct 1) (unit_source K ∷ []) in
      before m f n out i1 (tail.code option l)
      (liked_fits types ss callees m f n name g pl (Temp s.temp) (number option) (O.Construct 1) [] (z ∷ []) (λ e. refl) d) tt (ht.0 l)

  -- ---- parts of what a holder holds

  abbrev At : List ℕ → Type 0
  At us = Liked types ss callees m f n name g pl us

  abbrev at_slot : (us : List ℕ) (p t k : ℕ) → slice_get us k ≡ Some t → At us
  at_slot us p t k e = like_slot types ss callees m f n name g pl us (Temp p) t k e

  taken_fits : (way : Way) (k q : ℕ) (t : Sized) → is_taken types number callees tables g way t ≡ true → Fits m f n (taken_step types K way k q t)
  taken_fits (X.Field struct i) k q t d =
      one_fits types ss callees m f n name g pl (Temp (q + 1)) (number (way_typ types (X.Field struct i) t)) (O.Field i) (Temp q) (number t) refl d
  taken_fits X.Item k q t d =
      let us : List ℕ = number t ∷ K.integer ∷ [] in
      liked_fits types ss callees m f n name g pl (Temp (q + 1)) (number (way_typ types X.Item t)) O.Item us
      (at_slot us q (number t) 0 refl ∷ at_slot us k K.integer 1 refl ∷ []) (λ e. refl) d
  taken_fits X.Slice k q t d =
      let us : List ℕ = number t ∷ K.integer ∷ K.integer ∷ [] in
      liked_fits types ss callees m f n name g pl (Temp (q + 1)) (number (way_typ types X.Slice t)) O.Slice us
      (at_slot us q (number t) 0 refl ∷ at_slot us k K.integer 1 refl ∷ at_slot us (k + 1) K.integer 2 refl ∷ []) (λ e. refl) d

  put_fits : (way : Way) (k q p : ℕ) (t u : Sized) → is_put types number callees tables g way t u ≡ true
      → Fits m f n (put_step types K way k q t (from K (Temp p) (number u)))
  put_fits (X.Field struct i) k q p t u d =
      let us : List ℕ = number t ∷ number u ∷ [] in
      liked_fits types ss callees m f n name g pl (Temp q) (number t) (O.WithField i) us
      (at_slot us q (number t) 0 refl ∷ at_slot us p (number u) 1 refl ∷ []) (λ e. refl) d
  put_fits X.Item k q p t u d =
      let us : List ℕ = number t ∷ K.integer ∷ number u ∷ [] in
      liked_fits types ss callees m f n name g pl (Temp q) (number t) O.WithItem us
      (at_slot us q (number t) 0 refl ∷ at_slot us k K.integer 1 refl ∷ at_slot us p (number u) 2 refl ∷ []) (λ e. refl) d
  put_fits X.Slice k q p t u d =
      let us : List ℕ = number t ∷ K.integer ∷ K.integer ∷ number u ∷ [] in
      liked_fits types ss callees m f n name g pl (Temp q) (number t) O.WithSlice us
      (at_slot us q (number t) 0 refl ∷ at_slot us k K.integer 1 refl ∷ at_slot us (k + 1) K.integer 2 refl ∷ at_slot us p (number u) 3 refl ∷ []) (λ e. refl) d

  replaced_right : (out : Labels) (qs : List Suffix) (k q p : ℕ) (t u : Sized) → replaces types number callees tables g qs t u ≡ true
      → Ok out (replaced_code types K qs k q t (from K (Temp p) (number u)))
  replaced_right out [] k q p t u d = tt
  replaced_right out (x ∷ []) k q p t u d =
      alone m f n out (put_step types K x.way k q t (from K (Temp p) (number u))) (put_fits x.way k q p t u d) tt
  replaced_right out (x ∷ y ∷ qs) k q p t u d =
      let v : Sized = way_typ types x.way t in
      let rest : Bool = replaces types number callees tables g (y ∷ qs) v u in
      let last : Bool = is_put types number callees tables g x.way t v in
      let r = parts_of (is_taken types number callees tables g x.way t) (rest && last) d in
      let w = parts_of rest last r.1 in
      let i1 : Instruction = taken_step types K x.way k q t in
      let i3 : Instruction = put_step types K x.way k q t (from K (Temp (q + 1)) (number v)) in
      let c2 : List Instruction = replaced_code types K (y ∷ qs) (k + takes_of x.way) (q + 1) v (from K (Temp p) (number u)) in
      before m f n out i1 (c2 ++ i3 ∷ []) (taken_fits x.way k q t r.0) tt
      (append m f n out c2 (i3 ∷ []) (replaced_right out (y ∷ qs) (k + takes_of x.way) (q + 1) p v u w.0)
      (alone m f n out i3 (put_fits x.way k q (q + 1) t v w.1) tt))

  abbrev Each_ : (Sized → Type 0) → List Sized → Type 0
  Each_ F ts = Each types ss callees m f n name g pl tables all F ts

  -- a value in hand goes to its holder
  abbrev Stored : Labels → Holder → Stand → List Sized → Type 0
  Stored out h s ts = Each_ (λ t. Ok out (store_code types K tables h s t)) ts

  registers_stored : (out : Labels) (r : ℕ) (s : Stand) → f.is_pure ≡ false → (cases : List Case)
      → cases_right types number callees tables g (is_sourced types number callees tables g (slice_get g.registers r)) cases ≡ true
      → Stored out (register r) s (gives_in cases)
  registers_stored out r s free [] d = tt
  registers_stored out r s free (c ∷ cs) d =
      let o : Option ℕ = slice_get g.registers r in
      let p : Case → Bool = is_sourced types number callees tables g o in
      let q = parts_of (picks_small c.picked) (tables.known c.gives && (p c && cases_right types number callees tables g p cs)) d in
      let w = parts_of (tables.known c.gives) (p c && cases_right types number callees tables g p cs) q.1 in
      let v = parts_of (p c) (cases_right types number callees tables g p cs) w.1 in (
        alone m f n out (I.Copy (J.Register r) (from K (Temp s.temp) (number c.gives)))
            (register_fits r s.temp (number c.gives) free (same_some o (number c.gives) v.0)) tt,
        registers_stored out r s free cs v.1,
      )

  stored : (out : Labels) (h : Holder) (s : Stand) → f.is_pure ≡ false → (cases : List Case)
      → holder_right types number callees tables g h cases ≡ true → Stored out h s (gives_in cases)
  stored out (register r) s free cases d = registers_stored out r s free cases d
  stored out (variable text) s free cases d =
      kept_codes types ss callees m f n name g pl tables all out (place_of s.scope text) s.temp (tables.reads text) (gives_in cases) d

  -- the whole, with a new part of this type, goes to its holder
  abbrev is_replaced : List Suffix → Sized → Case → Bool
  is_replaced qs u c = replaces types number callees tables g qs c.gives u

  renewed_right : (out : Labels) (c : Cell) (qs : List Suffix) → c.suffixes ≡ qs → (at p : ℕ) (s : Stand) (u : Sized) (cases : List Case)
      → cases_right types number callees tables g (λ k. true) cases ≡ true → cases_right types number callees tables g (is_replaced qs u) cases ≡ true
      → Stored out c.holder s (gives_in cases)
      → RightTail m f n out (renewed_tail types K tables c at (from K (Temp p) (number u)) s) (gives_in cases)
  renewed_right out c qs same at p s u [] d1 d2 h = tt
  renewed_right out c qs same at p s u (k ∷ cs) d1 d2 h =
      let one_ : Case → Bool = λ k. true in
      let p2 : Case → Bool = is_replaced qs u in
      let q1 = parts_of (picks_small k.picked) (tables.known k.gives && (true && cases_right types number callees tables g one_ cs)) d1 in
      let w1 = parts_of (tables.known k.gives) (true && cases_right types number callees tables g one_ cs) q1.1 in
      let v1 = parts_of true (cases_right types number callees tables g one_ cs) w1.1 in
      let q2 = parts_of (picks_small k.picked) (tables.known k.gives && (p2 k && cases_right types number callees tables g p2 cs)) d2 in
      let w2 = parts_of (tables.known k.gives) (p2 k && cases_right types number callees tables g p2 cs) q2.1 in
      let v2 = parts_of (p2 k) (cases_right types number callees tables g p2 cs) w2.1 in
      let c1 : List Instruction = replaced_code types K qs at s.temp k.gives (from K (Temp p) (number u)) in
      let c2 : List Instruction = note_code (kit_at K s.depths) number s.temp (tables.gives c.read) k.gives in
      let c3 : List Instruction = store_code types K tables c.holder s k.gives in
      let code_is : renewed_code types K tables c at (from K (Temp p) (number u)) s k.gives ≡ c1 ++ (c2 ++ c3) =
      ap (λ (zs : List Suffix). replaced_code types K zs at s.temp k.gives (from K (Temp p) (number u)) ++ (c2 ++ c3)) same in (
        λ l. subst (λ z. Ok out z) (sym code_is)
            (append m f n out c1 (c2 ++ c3) (replaced_right out qs at s.temp p k.gives u v2.0)
            (append m f n out c2 c3
            (notes_right types ss callees m f n name g pl tables all s.depths out s.temp (tables.gives c.read) k.gives (all.known k.gives w1.0)) h.0)),
        renewed_right out c qs same at p s u cs v1.1 v2.1 h.1,
      )

  -- what a holder holds is read
  held_is_right : (h : Holder) (j : ℕ) → f.is_pure ≡ false → cases_right types number callees tables g (λ k. true) (tables.cases j 0) ≡ true
      → holder_right types number callees tables g h (tables.cases j 0) ≡ true → (out : Labels) (tail : Tail) (s : Stand) (l : ℕ)
      → RightTail m f n out tail (gives_in (tables.cases j 0)) → Ok out ((held_piece types K tables h j).ended tail s l)
  held_is_right (register r) j free d1 d2 out tail s l ht =
      let o : Option ℕ = slice_get g.registers r in
      made_right types ss callees m f n name g pl tables all 0 (is_sourced types number callees tables g o) (source_make K number (R.Register r))
      (source_makes types ss callees m f n name g pl tables all (R.Register r) o (λ t e w. ap (λ rs. slice_get rs r) pl.registers ∙ e)
      (λ w. impossible (sym free ∙ w))) (tables.cases j 0) d2 (tables.gives j) out tail s l ht
  held_is_right (variable text) j free d1 d2 out tail s l ht =
      made_right types ss callees m f n name g pl tables all 0 (λ k. true) (variable_make K number text)
      (variable_makes types ss callees m f n name g pl tables all text) (tables.cases j 0) d1 (tables.gives j) out tail s l ht

  parts_right : (c : Cell) (x : Suffix) (qs : List Suffix) → c.suffixes ≡ x ∷ qs → f.is_pure ≡ false
      → cases_right types number callees tables g (λ k. true) (tables.cases c.read 0) ≡ true
      → holder_right types number callees tables g c.holder (tables.cases c.read 0) ≡ true → (out : Labels) (at : ℕ) (s : Stand) (us : List Sized)
      → replaces_all types number callees tables g (x ∷ qs) (tables.cases c.read 0) us ≡ true
      → Each_ (λ u. (l : ℕ) → Ok out (typed_code types K tables (x ∷ qs) c at s u l)) us
  parts_right c x qs same free d1 d2 out at s [] d3 = tt
  parts_right c x qs same free d1 d2 out at s (u ∷ us) d3 =
      let cases : List Case = tables.cases c.read 0 in
      let w =
      parts_of (cases_right types number callees tables g (is_replaced (x ∷ qs) u) cases) (replaces_all types number callees tables g (x ∷ qs) cases us) d3 in
      let new : Source = from K (Temp s.temp) (number u) in (
        λ l. held_is_right c.holder c.read free d1 d2 out (renewed_tail types K tables c at new (higher s)) (higher s) l
            (renewed_right out c (x ∷ qs) same at s.temp (higher s) u cases d1 w.0 (stored out c.holder (higher s) free cases d2)),
        parts_right c x qs same free d1 d2 out at s us w.1,
      )

  -- a new value of its type
  each_tail : (out : Labels) (tail : Tail) (us : List Sized) → Each_ (λ u. (l : ℕ) → Ok out (tail.code u l)) us → RightTail m f n out tail us
  each_tail out tail [] h = tt
  each_tail out tail (u ∷ us) h = (h.0, each_tail out tail us h.1)

  always : (F : Sized → Type 0) (us : List Sized) → Each_ F us → Each_ (λ u. (l : ℕ) → F u) us
  always F [] h = tt
  always F (u ∷ us) h = ((λ l. h.0), always F us h.1)

  typed_is_right : (qs : List Suffix) (c : Cell) → c.suffixes ≡ qs → f.is_pure ≡ false → typed_right types number callees tables g qs c ≡ true
      → (out : Labels) (at : ℕ) (s : Stand)
      → Each_ (λ u. (l : ℕ) → Ok out (typed_code types K tables qs c at s u l)) (gives_in (tables.cases c.number 1))
  typed_is_right [] c same free d out at s =
      always (λ u. Ok out (store_code types K tables c.holder s u)) (gives_in (tables.cases c.number 1))
      (stored out c.holder s free (tables.cases c.number 1) d)
  typed_is_right (x ∷ qs) c same free d out at s =
      let cases : List Case = tables.cases c.read 0 in
      let d1 : Bool = cases_right types number callees tables g (λ k. true) cases in
      let d2 : Bool = holder_right types number callees tables g c.holder cases in
      let d3 : Bool = replaces_all types number callees tables g (x ∷ qs) cases (gives_in (tables.cases c.number 1)) in
      let q = parts_of d1 (d2 && d3) d in
      let w = parts_of d2 d3 q.1 in
      parts_right c x qs same free q.0 w.0 out at s (gives_in (tables.cases c.number 1)) w.1

  cell_is_right : (c : Cell) → f.is_pure ≡ false → cell_right types number callees tables g c ≡ true → (out : Labels) (at : ℕ) (s : Stand) (l : ℕ)
      → Ok out (cell_code types K tables c at s l)
  cell_is_right c free d out at s l =
      let cases : List Case = tables.cases c.number 1 in
      let d1 : Bool = cases_right types number callees tables g (is_recast types number callees tables g) cases in
      let w = parts_of d1 (typed_right types number callees tables g c.suffixes c) d in
      made_right types ss callees m f n name g pl tables all 1 (is_recast types number callees tables g) (cast_make K number)
      (cast_makes types ss callees m f n name g pl tables all) cases w.0 (tables.gives c.number) out (typed_tail types K tables c at s) s l
      (each_tail out (typed_tail types K tables c at s) (gives_in cases) (typed_is_right c.suffixes c refl free w.1 out at s))

  several_is_right : (cs : List Cell) (i at : ℕ) (s : Stand) (t : Sized) (l : ℕ) → f.is_pure ≡ false
      → cells_right types number callees tables g cs ≡ true → fields_right types number callees tables g t i (length cs) ≡ true → (out : Labels)
      → Ok out (several_code types K tables cs i at s t l)
  several_is_right [] i at s t l free d e out = tt
  several_is_right (c ∷ cs) i at s t l free d e out =
      let ty : Sized = part_typ types (component i) t in
      let q = parts_of (cell_right types number callees tables g c) (cells_right types number callees tables g cs) d in
      let w =
      parts_of (works types number callees tables g (O.Field i) one_operand (t ∷ []) ty)
      (fields_right types number callees tables g t (suc i) (length cs)) e in
      let l2 : ℕ = l + cell_labels types K tables c in
      let at2 : ℕ = at + takes_in c.suffixes in
      let c1 : List Instruction = cell_code types K tables c at (higher s) l in
      let c2 : List Instruction = several_code types K tables cs (suc i) at2 s t l2 in
      before m f n out (component_step types K tables i s t) (c1 ++ c2)
      (one_fits types ss callees m f n name g pl (Temp (s.temp + 1)) (number ty) (O.Field i) (Temp s.temp) (number t) refl w.0) tt
      (append m f n out c1 c2 (cell_is_right c free q.0 out at (higher s) l) (several_is_right cs (suc i) at2 s t l2 free q.1 w.1 out))

  -- a write is right, whatever of these types the new value has
  abbrev Writes : Writing → List Sized → Type 0
  Writes w us = (out : Labels) (at : ℕ) (s : Stand) → Each_ (λ u. (l : ℕ) → Ok out (w.code at s u l)) us

  cell_writes : (c : Cell) → f.is_pure ≡ false → cell_right types number callees tables g c ≡ true → (us : List Sized)
      → Writes (cell_writing types K tables c) us
  cell_writes c free d [] out at s = tt
  cell_writes c free d (u ∷ us) out at s = ((λ l. cell_is_right c free d out at s l), cell_writes c free d us out at s)

  several_writes : (cs : List Cell) → f.is_pure ≡ false → cells_right types number callees tables g cs ≡ true → (us : List Sized)
      → all_fields_right types number callees tables g us (length cs) ≡ true → Writes (several_writing types K tables cs) us
  several_writes cs free d [] e out at s = tt
  several_writes cs free d (u ∷ us) e out at s =
      let w =
      parts_of (fields_right types number callees tables g u 0 (length cs)) (all_fields_right types number callees tables g us (length cs)) e in
      ((λ l. several_is_right cs 0 at s u l free d w.0 out), several_writes cs free d us w.1 out at s)

  given_tail_right : (out : Labels) (w : Writing) (tail : Tail) (s : Stand) → out s.on_throw ≡ true → out s.on_no ≡ true
      → RightTail m f n out tail (fixed_typ types Y.Unit ∷ []) → (us : List Sized)
      → Each_ (λ u. (l : ℕ) → Ok out (w.code s.temp (record s { temp = s.temp + w.takes }) u l)) us → RightTail m f n out (given_tail K w tail s) us
  given_tail_right out w tail s ot on ht [] h = tt
  given_tail_right out w tail s ot on ht (u ∷ us) h = (
    λ l. append m f n out (w.code s.temp (record s { temp = s.temp + w.takes }) u l) ((unit_piece K).ended tail s (l + w.labels)) (h.0 l)
        (unit_right types ss callees m f n name g pl tables all out tail s (l + w.labels) ot on ht),
    given_tail_right out w tail s ot on ht us h.1,
  )

  given_right : (w : Writing) (is : List Piece) (a : Piece) (us : List Sized) → Helds is → Piece_ a us → Writes w us
      → Piece_ (given_piece K w is a) (fixed_typ types Y.Unit ∷ [])
  given_right w is a us hi ha hw out tail s l ot on ht =
      let l2 : ℕ = l + all_labels K number is in
      let high : Stand = record s { temp = s.temp + w.takes } in
      append m f n out (all_code K number is s l) (a.ended (given_tail K w tail s) high l2) (all_code_right out is hi s l ot on)
      (ha out (given_tail K w tail s) high l2 ot on (given_tail_right out w tail s ot on ht us (hw out s.temp high)))

  -- ---- the last part is the new value

  before_helds : (ps : List Piece) → Helds ps → Helds (ahead ps)
  before_helds [] h = tt
  before_helds (p ∷ []) h = tt
  before_helds (p ∷ q ∷ ps) h = (h.0, before_helds (q ∷ ps) h.1)

  final_held : (ps : List Piece) (ts : List Typing) → Rights ps ts → has_last types number callees tables g ts ≡ true
      → all_right ts ≡ true → Piece_ (final nothing_piece ps) (last_types types number callees tables g ts)
  final_held [] [] h d r = impossible d
  final_held [] (t ∷ ts) h d r = absurd h
  final_held (p ∷ ps) [] h d r = absurd h
  final_held (p ∷ []) (t ∷ []) h d r = (h.0 (parts_of t.right true r).0).1
  final_held (p ∷ []) (t ∷ u ∷ ts) h d r = absurd h.1
  final_held (p ∷ q ∷ ps) (t ∷ []) h d r = absurd h.1
  final_held (p ∷ q ∷ ps) (t ∷ u ∷ ts) h d r = final_held (q ∷ ps) (u ∷ ts) h.1 refl (parts_of t.right (all_right (u ∷ ts)) r).1

  helds_and : (ps : List Piece) (p : Piece) (us : List Sized) → Helds ps → Piece_ p us → Helds (ps ++ p ∷ [])
  helds_and [] p us h hp = ((us, hp), tt)
  helds_and (q ∷ ps) p us h hp = (h.0, helds_and ps p us h.1 hp)

  spot_is_right : (w : Spot) (ps : List Piece) (ts : List Typing) → length ts ≡ length ps → f.is_pure ≡ false → Rights ps ts
      → spot_right types number callees tables g w ts ≡ true
      → Piece_ (spot_piece types K number callees tables w ps) (spot_types types number callees tables g (Some w) ts)
  spot_is_right (one c) ps ts e free h d =
      let d1 : Bool = cell_right types number callees tables g c in
      let q1 = parts_of (has_last types number callees tables g ts) (all_right ts && d1) d in
      let q2 = parts_of (all_right ts) d1 q1.1 in
      given_right (cell_writing types K tables c) (ahead ps) (final nothing_piece ps) (last_types types number callees tables g ts)
      (before_helds ps (helds_of ps ts h q2.0)) (final_held ps ts h q1.0 q2.0) (cell_writes c free q2.1 (last_types types number callees tables g ts))
  spot_is_right (several cs) ps ts e free h d =
      let us : List Sized = last_types types number callees tables g ts in
      let d1 : Bool = cells_right types number callees tables g cs in
      let d2 : Bool = all_fields_right types number callees tables g us (length cs) in
      let q1 = parts_of (has_last types number callees tables g ts) (all_right ts && (d1 && d2)) d in
      let q2 = parts_of (all_right ts) (d1 && d2) q1.1 in
      let q3 = parts_of d1 d2 q2.1 in
      given_right (several_writing types K tables cs) (ahead ps) (final nothing_piece ps) us (before_helds ps (helds_of ps ts h q2.0))
      (final_held ps ts h q1.0 q2.0) (several_writes cs free q3.0 us q3.1)
  spot_is_right (called k place i j x) ps ts e free h d =
      let cases : List Case = tables.cases j (length ts) in
      let d0 : Bool = all_right ts in
      let d1 : Bool = cases_right types number callees tables g (is_recast types number callees tables g) (tables.cases k 1) in
      let d2 : Bool = leads_right types number callees tables g cases (tables.leads j) in
      let q1 = parts_of (has_last types number callees tables g ts) (d0 && (d1 && d2)) d in
      let q2 = parts_of d0 (d1 && d2) q1.1 in
      let q3 = parts_of d1 d2 q2.1 in
      let hs : Helds ps = helds_of ps ts h q2.0 in
      let last = final_held ps ts h q1.0 q2.0 in
      let new : Piece = new_piece types K number callees tables k (final nothing_piece ps) in
      let args : List Piece = ahead ps ++ new ∷ [] in
      subst (λ c. Piece_ (call_piece K number callees place (tables.cases j c) (tables.leads j) (tables.gives j) args) (gives_in cases)) e
      (call_is_right place cases (tables.leads j) (tables.gives j) args free
      (helds_and (ahead ps) new (gives_in (tables.cases k 1)) (before_helds ps hs)
      (cast_right (tables.cases k 1) q3.0 (tables.gives k) (final nothing_piece ps) (last_types types number callees tables g ts) last)) q3.1)

  pub write_is_right : (w : Option Spot) (ps : List Piece) (ts : List Typing) → length ts ≡ length ps → f.is_pure ≡ false → Rights ps ts
      → write_right types number callees tables g w ts ≡ true
      → Piece_ (assign_piece types K number callees tables w ps) (spot_types types number callees tables g w ts)
  write_is_right None ps ts e free h d = impossible d
  write_is_right (Some w) ps ts e free h d = spot_is_right w ps ts e free h d

  -- ---- directions of mappings that are functions

  pub applied_right : (place : TextPlace) (d : ℕ) (cases : List Case) (gives : List Indices) (p : Piece) (t : Typing)
      → (t.right ≡ true → (p.ends ≡ t.ends) × Piece_ p t.types) → f.is_pure ≡ false
      → applies_right types number callees tables g d (callees.direction d) cases t ≡ true
      → Piece_ (applied_piece K place (callees.direction d) cases gives p) (gives_in cases)
  applied_right place d cases gives p t h free dec out tail s l ot on ht =
      let x : Mapped = callees.direction d in
      let a1 : Bool = moves_to types number callees tables g (only_end t.ends) x.takes in
      let a2 : Bool = same (payload_typ (shell g) (Some (number x.gives)) 0) (Some (number x.payload)) in
      let comes_to : Case → Bool = λ c. comes g (number x.payload) (number c.gives) in
      let a3 : Bool = cases_right types number callees tables g comes_to cases in
      let q0 = parts_of (not g.is_pure) (g.directions d && (t.right && (a1 && (a2 && a3)))) dec in
      let q1 = parts_of (g.directions d) (t.right && (a1 && (a2 && a3))) q0.1 in
      let q2 = parts_of t.right (a1 && (a2 && a3)) q1.1 in
      let q3 = parts_of a1 (a2 && a3) q2.1 in
      let q4 = parts_of a2 a3 q3.1 in
      let ha = h q2.0 in
      let c1 : List Instruction = code_of p s (l + 2) in
      let c2 : List Instruction = operand_moved K s.temp (only_end p.ends) x.takes in
      let i1 : Instruction = direction_call K place x s in
      let i2 : Instruction = I.Payload (name (Temp s.temp) (number x.payload)) (from K (Temp s.temp) (number x.gives)) 0 l in
      let i5 : Instruction = I.Stop (MatchFailure place) in
      let c7 : List Instruction = made_code K number 1 (answer_make K number (number x.payload)) cases gives tail s (l + 2 + count_of p) in
      let t6 : List Instruction = I.Label (l + 1) ∷ c7 in
      let t4 : List Instruction = I.Label l ∷ i5 ∷ t6 in
      let t3 : List Instruction = I.Goto (l + 1) ∷ t4 in
      append m f n out c1 (c2 ++ I.Tick ∷ i1 ∷ i2 ∷ t3) (held types ss callees m f n name g pl tables all p t.types ha.1 out s (l + 2) ot on)
      (append m f n out c2 (I.Tick ∷ i1 ∷ i2 ∷ t3) (moved_operand out s.temp (only_end p.ends) x.takes
      (ap (λ es. moves_to types number callees tables g (only_end es) x.takes) ha.0 ∙ q3.0))
      (before m f n out I.Tick (i1 ∷ i2 ∷ t3) (tick_fits m f n free) tt
      (before m f n out i1 (i2 ∷ t3)
      (call_fits types ss callees m f n name g pl s.temp (number x.gives) x.function s.on_throw place (number x.takes ∷ []) (pl.directed d q1.0) free) (inr ot)
      (before m f n out i2 t3
      (payload_fits types ss callees m f n name g pl (Temp s.temp) (number x.payload) (Temp s.temp) (number x.gives) 0 l q4.0)
      (inl (set_next l (I.Goto (l + 1)) t4 (set_first l (i5 ∷ t6))))
      (before m f n out (I.Goto (l + 1)) t4 (goto_fits m f n (l + 1))
      (inl (set_next (l + 1) (I.Label l) (i5 ∷ t6) (set_next (l + 1) i5 t6 (set_first (l + 1) c7))))
      (before m f n out (I.Label l) (i5 ∷ t6) (label_fits m f n l) tt
      (before m f n out i5 t6 (stop_fits m f n (MatchFailure place) refl) tt
      (before m f n out (I.Label (l + 1)) c7 (label_fits m f n (l + 1)) tt
      (made_right types ss callees m f n name g pl tables all 1 comes_to (answer_make K number (number x.payload))
      (answer_makes types ss callees m f n name g pl tables all (number x.payload)) cases q4.1 gives out tail s (l + 2 + count_of p) ht)))))))))

  -- ---- an option of what a piece gives

  wrapped_tail : (out : Labels) (option payload : Sized) (tail : Tail) (s : Stand)
      → works types number callees tables g (O.Construct 0) one_operand (payload ∷ []) option ≡ true → RightTail m f n out tail (option ∷ [])
      → (us : List Sized)
      → all_come types number callees tables g us payload ≡ true → RightTail m f n out (some_tail K option payload tail s) us
  wrapped_tail out option payload tail s d ht [] c = tt
  wrapped_tail out option payload tail s d ht (u ∷ us) c =
      let r = parts_of (comes g (number u) (number payload)) (all_come types number callees tables g us payload) c in
      let i2 : Instruction = I.Apply (to K (Temp s.temp) (number option)) (O.Construct 0) (from K (Temp s.temp) (number payload) ∷ []) in (
        λ l. append m f n out (retype K s.temp (number u) (number payload)) (i2 ∷ tail.code option l)
            (retype_right types ss callees m f n name g pl out s.temp (number u) (number payload) r.0)
            (before m f n out i2 (tail.code option l)
            (one_fits types ss callees m f n name g pl (Temp s.temp) (number option) (O.Construct 0) (Temp s.temp) (number payload) refl d) tt (ht.0 l)),
        wrapped_tail out option payload tail s d ht us r.1,
      )

  pub optional_is_right : (option payload : Sized) (p : Piece) (t : Typing) → (t.right ≡ true → (p.ends ≡ t.ends) × Piece_ p t.types)
      → optional_right types number callees tables g option payload t ≡ true → Piece_ (optional_piece types K option payload p) (option ∷ option ∷ [])
  optional_is_right option payload p t h d =
      let a1 : Bool = all_come types number callees tables g t.types payload in
      let a2 : Bool = works types number callees tables g (O.Construct 0) one_operand (payload ∷ []) option in
      let a3 : Bool = works types number callees tables g (O.Construct 1) (no_value types number callees tables g ∷ []) [] option in
      let q1 = parts_of t.right (a1 && (a2 && a3)) d in
      let q2 = parts_of a1 (a2 && a3) q1.1 in
      let q3 = parts_of a2 a3 q2.1 in
      let some_ : Piece = some_piece K option payload p in
      let none_ : Piece = none_piece K option in
      else_right m f n types K some_ none_ (option ∷ []) (option ∷ [])
      (λ out tail s l ot on ht. (h q1.0).1 out (some_tail K option payload tail s) s l ot on (wrapped_tail out option payload tail s q3.0 ht t.types q2.0))
      (none_right_ option q3.1)
