-- The code of a node sets no labels but its own and its tail's, and none of them twice.
use Rattle.std.proofs.Common.{◌≡◌, ℕ, zero, suc, ◌+◌, ◌≤◌, ℤ, Bool, true, false, List, [], ◌∷◌, ◌++◌, length, map, reverse, Option, Some, None}
use Rattle.std.proofs.Common.{refl, sym, subst, ap, arith, cond, if◌then◌else◌}
use Rattle.std.specs.Prelude.{nat_eq}
use Rattle.sail_base.specs.declared.place.Place.{Place as TextPlace}
use Rattle.sail_types.specs.declared.table.Types.{Types}
use Rattle.model_state.specs.declared.cause.Cause.{Cause}
use Rattle.model_state.specs.declared.cause.Cause.TheVariants.{Exit, Assertion, MatchFailure}
use Rattle.value_indices.specs.declared.indices.Indices.{Indices}
use Rattle.size_values.specs.declared.sized.Sized.{Sized, out-Sized}
use Rattle.jib.specs.declared.code.Literal.TheVariants as L
use Rattle.jib.specs.declared.code.Source.{Source}
use Rattle.jib.specs.declared.code.Source.TheVariants as R
use Rattle.jib.specs.declared.code.Operation.{Operation}
use Rattle.jib.specs.declared.code.Operation.TheVariants as O
use Rattle.jib.specs.declared.code.Instruction.{Instruction}
use Rattle.jib.specs.declared.code.Instruction.TheVariants as I
use Rattle.sail_core.specs.declared.patterns.Head.{Head}
use Rattle.sail_core.specs.declared.patterns.Head.TheVariants as H
use Rattle.sail_core.specs.declared.patterns.Step.{Step}
use Rattle.sail_core.specs.declared.patterns.Step.TheVariants as P
use Rattle.sail_core.specs.declared.patterns.Arm.{Arm}
use Rattle.sail_core.specs.Making.{payload}
use Rattle.sail_core.specs.declared.targets.Way.{Way}
use Rattle.sail_core.specs.declared.targets.Way.TheVariants as Y
use Rattle.sail_core.specs.declared.targets.Suffix.{Suffix}
use Rattle.sail_core.specs.declared.tree.Callee.TheVariants as F
use Rattle.sail_core.specs.declared.tree.Statement.{Statement}
use Rattle.sail_core.specs.declared.tree.Statement.TheVariants as S
use Rattle.sail_core.specs.declared.tree.Kind.{Kind}
use Rattle.sail_core.specs.declared.tree.Kind.TheVariants as K
use Rattle.sail_core.specs.declared.tree.Core.{Core, Core-F, roll-Core, fold-roll-Core, map-Core, ind-Core}
use Rattle.sized_nodes.specs.declared.trees.Case.{Case}
use Rattle.sail_types.specs.declared.types.Typ.TheVariants as T
use Rattle.sail_core.specs.Values.{int_typ, literal_typ}
use Rattle.lowered_pieces.specs.Places.{Place, Raised, Temp, Mapped, Kit, from, to}
use Rattle.lowered_pieces.specs.Moves.{move}
use Rattle.lowered_pieces.specs.Chains.{by_case, chain_labels, many}
use Rattle.lowered_laws.specs.CodeLaws.{Own, inside, is_set, sets}
use Rattle.lowered_laws.proofs.Labels.{sets_append, inside_more, by_case_own}
use Rattle.lowered_pieces.specs.Tables.{Tables}
use Rattle.lowered_pieces.specs.Forms.{construct_make, kit_at, inner, inside_piece, Stand, Tail, Piece}
use Rattle.lowered_pieces.specs.Forms.{Order, Callees}
use Rattle.lowered_pieces.specs.Forms.{caught_at}
use Rattle.lowered_pieces.specs.Forms.{unit_piece}
use Rattle.lowered_pieces.specs.Forms.{note_code}
use Rattle.lowered_pieces.specs.Forms.{local_make, place_of, source_make, variable_make, variable_piece}
use Rattle.lowered_pieces.specs.Forms.{all_code, all_labels, work_make, work_piece}
use Rattle.lowered_pieces.specs.Forms.{if_piece}
use Rattle.lowered_pieces.specs.Forms.{End, cast_make, ends_of, higher, in_order, in_fields, unit_source, nothing_piece}
use Rattle.checked_meaning.specs.Items.{fixed_typ}
use Rattle.lowered_pieces.specs.Arms.{Choice, Held, Hand, Matched, Taken, Taking, arguments, choice_labels, choices, choices_at, constant_of, in_hand, is_union}
use Rattle.lowered_pieces.specs.Arms.{picked_of, places_of, skipped, steps_in, arm_noted, takes_code, vector_takes, word_takes, part_at}
use Rattle.lowered_pieces.specs.Arms.{first_code, list_code, rest_at}
use Rattle.lowered_pieces.specs.Arms.{fields_code}
use Rattle.lowered_pieces.specs.Arms.{one_taken, many_taken, payload_taken, head_taken, at_hand, seen_code, step_code, step_hand, steps_code, begun, moved}
use Rattle.lowered_pieces.specs.Arms.{arm_hand, arm_stand}
use Rattle.lowered_pieces.specs.Arms.{choice_code, looks_code, hand_of, arm_piece, failing, else_piece, first_piece, stop_here, fall_piece, match_piece}
use Rattle.lowered_pieces.specs.Arms.{let_piece}
use Rattle.lowered_pieces.specs.Arms.{thrown_code, throw_here, raised_piece, caught_piece, catch_piece, try_piece}
use Rattle.sail_types.specs.declared.rows.Row.{Row}
use Rattle.row_types.specs.Calls.{has_state}
use Rattle.lowered_pieces.specs.Paths.{way_piece, path_piece}
use Rattle.lowered_pieces.specs.Writes.{Cell, Holder, Spot as Aim, Writing, assign_piece, before}
use Rattle.lowered_pieces.specs.Writes.{called, cell_code, cell_labels, cell_writing, final, given_piece}
use Rattle.lowered_pieces.specs.Writes.{given_tail, held_make, new_piece, one, put_step, register, renewed_code, renewed_tail, replaced_code, several}
use Rattle.lowered_pieces.specs.Writes.{several_code, several_labels, several_writing, spot_piece, store_code, takes_in, takes_of, target_spot, typed_code}
use Rattle.lowered_pieces.specs.Writes.{typed_labels, typed_tail, variable, way_typ}
use Rattle.lowered_pieces.specs.Fields.{with_make}
use Rattle.lowered_pieces.specs.Mapped.{none_piece, some_piece}
use Rattle.sail_core.specs.Meaning.{option_typ}
use Rattle.lowered_laws.proofs.OwnMore.{applied_owns, foreach_owns, none_owns, some_owns, with_plain}
use Rattle.lowered_pieces.specs.Gathered.{row_code, state_piece}
use Rattle.lowered_pieces.specs.Lowering.{Node, block_piece, row_piece, number_piece, truth_piece, kind_lowered, kind_piece, node, piece, pieces_of}
use Rattle.lowered_laws.specs.FormLaws.{OwnTail}
use Rattle.lowered_laws.proofs.OwnForms.{two_of, own_two, Owns, nothing_owns, constant_owns, unit_owns, throw_owns, return_owns, stop_owns, seq_owns}
use Rattle.lowered_laws.proofs.OwnForms.{Plain, cast_plain, kept_own, made_own, var_owns, variable_plain}
use Rattle.lowered_laws.proofs.OwnForms.{inside_owns, if_owns, and_owns, or_owns, when_owns, assert_owns, while_owns, repeat_owns, note_own}
use Rattle.lowered_laws.proofs.OwnForms.{arm_noted_bare, made_owns, local_plain, source_plain, work_plain, construct_plain, cast_owns, meet_owns, OwnsAll}
use Rattle.lowered_laws.proofs.OwnForms.{all_own, made_of_owns, call_owns}

-- ---- parts

module _ (kit : Kit) (number : Sized → ℕ) (tables : Tables) where
  worked_owns : (k : ℕ) (op : Operation) (ps : List Piece) → OwnsAll kit number ps
      → Owns (work_piece kit number op in_order (tables.cases k (length ps)) (tables.gives k) ps)
  worked_owns k op ps all =
      made_of_owns kit number (work_make kit number op in_order) (work_plain kit number op in_order) (tables.cases k (length ps)) (tables.gives k) ps all

  way_owns : (w : Way) (k : ℕ) (ss : List Suffix)
      → ((ps : List Piece) (p : Piece) → OwnsAll kit number ps → Owns p → Owns (path_piece kit number tables ss ps p)) → (ps : List Piece) (p : Piece)
      → OwnsAll kit number ps → Owns p → Owns (way_piece kit number tables w k ps p (path_piece kit number tables ss))
  way_owns (Y.Field struct i) k ss next ps p all own =
      next ps (work_piece kit number (O.Field i) in_order (tables.cases k 1) (tables.gives k) (p ∷ [])) all (worked_owns k (O.Field i) (p ∷ []) (own, tt))
  way_owns Y.Item k ss next [] p all own = nothing_owns
  way_owns Y.Item k ss next (a ∷ ps) p all own =
      next ps (work_piece kit number O.Item in_order (tables.cases k 2) (tables.gives k) (p ∷ a ∷ [])) all.1
      (worked_owns k O.Item (p ∷ a ∷ []) (own, (all.0, tt)))
  way_owns Y.Slice k ss next [] p all own = nothing_owns
  way_owns Y.Slice k ss next (a ∷ []) p all own = nothing_owns
  way_owns Y.Slice k ss next (a ∷ b ∷ ps) p all own =
      next ps (work_piece kit number O.Slice in_order (tables.cases k 3) (tables.gives k) (p ∷ a ∷ b ∷ [])) all.1.1
      (worked_owns k O.Slice (p ∷ a ∷ b ∷ []) (own, (all.0, (all.1.0, tt))))

  path_owns : (ss : List Suffix) (ps : List Piece) (p : Piece) → OwnsAll kit number ps → Owns p → Owns (path_piece kit number tables ss ps p)
  path_owns [] [] p all own = own
  path_owns [] (a ∷ ps) p all own = nothing_owns
  path_owns (s ∷ ss) ps p all own = way_owns s.way s.number ss (path_owns ss) ps p all own

-- ---- assignments

module _ (types : Types) (kit : Kit) (number : Sized → ℕ) (callees : Callees) (tables : Tables) where
  before_own : (ps : List Piece) → OwnsAll kit number ps → OwnsAll kit number (before ps)
  before_own [] h = tt
  before_own (p ∷ []) h = tt
  before_own (p ∷ q ∷ ps) h = (h.0, before_own (q ∷ ps) h.1)

  final_owns : (ps : List Piece) → OwnsAll kit number ps → Owns (final nothing_piece ps)
  final_owns [] h = nothing_owns
  final_owns (p ∷ []) h = h.0
  final_owns (p ∷ q ∷ ps) h = final_owns (q ∷ ps) h.1

  with_last : (ps : List Piece) (p : Piece) → OwnsAll kit number ps → Owns p → OwnsAll kit number (ps ++ p ∷ [])
  with_last [] p h own = (own, tt)
  with_last (q ∷ ps) p h own = (h.0, with_last ps p h.1 own)

  replaced_bare : (ss : List Suffix) (n q : ℕ) (t : Sized) (new : Source) (k : ℕ) → sets k (replaced_code types kit ss n q t new) ≡ 0
  replaced_bare [] n q t new k = omega arith
  replaced_bare (s ∷ []) n q t new k = omega arith
  replaced_bare (s ∷ r ∷ ss) n q t new k =
      let c1 : List Instruction = replaced_code types kit (r ∷ ss) (n + takes_of s.way) (q + 1) (way_typ types s.way t) new in
      let c2 : List Instruction = put_step types kit s.way n q t (from kit (Temp (q + 1)) (kit.number (way_typ types s.way t))) ∷ [] in
      omega (arith, sets_append k c1 c2, replaced_bare (r ∷ ss) (n + takes_of s.way) (q + 1) (way_typ types s.way t) new k)

  store_bare : (h : Holder) (s : Stand) (t : Sized) (k : ℕ) → sets k (store_code types kit tables h s t) ≡ 0
  store_bare (register r) s t k = omega arith
  store_bare (variable name) s t k = kept_own kit (place_of s.scope name) s.temp (tables.reads name) t k

  renewed_bare : (c : Cell) (at : ℕ) (new : Source) (s : Stand) (t : Sized) (k : ℕ) → sets k (renewed_code types kit tables c at new s t) ≡ 0
  renewed_bare c at new s t k =
      let c1 : List Instruction = replaced_code types kit c.suffixes at s.temp t new in
      let c2 : List Instruction = note_code (kit_at kit s.depths) kit.number s.temp (tables.gives c.read) t in
      let c3 : List Instruction = store_code types kit tables c.holder s t in
      omega (
        arith,
        sets_append k c1 (c2 ++ c3),
        sets_append k c2 c3,
        replaced_bare c.suffixes at s.temp t new k,
        note_own (kit_at kit s.depths) kit.number s.temp (tables.gives c.read) t k,
        store_bare c.holder s t k,
      )

  held_plain : (h : Holder) → Plain kit kit.number (held_make types kit tables h)
  held_plain (register r) = source_plain kit kit.number (R.Register r)
  held_plain (variable name) = variable_plain kit kit.number name

  typed_own : (qs : List Suffix) (c : Cell) (at : ℕ) (s : Stand) (t : Sized)
      → Own (typed_code types kit tables qs c at s t) (typed_labels types kit tables qs c)
  typed_own [] c at s t k l = omega (arith, store_bare c.holder s t k)
  typed_own (x ∷ ss) c at s t k l =
      let new : Source = from kit (Temp s.temp) (kit.number t) in
      made_own kit kit.number 0 (held_make types kit tables c.holder) (held_plain c.holder) (tables.cases c.read 0) (tables.gives c.read)
      (renewed_tail types kit tables c at new (higher s)) (λ u j m. omega (arith, renewed_bare c at new (higher s) u j)) (higher s) k l

  cell_own : (c : Cell) (at : ℕ) (s : Stand) → Own (cell_code types kit tables c at s) (cell_labels types kit tables c)
  cell_own c at s =
      made_own kit kit.number 1 (cast_make kit kit.number) (cast_plain kit kit.number) (tables.cases c.number 1) (tables.gives c.number)
      (typed_tail types kit tables c at s) (λ t. typed_own c.suffixes c at s t) s

  several_own : (cs : List Cell) (i at : ℕ) (s : Stand) (t : Sized)
      → Own (several_code types kit tables cs i at s t) (several_labels types kit tables cs)
  several_own [] i at s t k l = omega arith
  several_own (c ∷ cs) i at s t k l =
      let n : ℕ = cell_labels types kit tables c in
      let at2 : ℕ = at + takes_in c.suffixes in
      omega (
        arith,
        sets_append k (cell_code types kit tables c at (higher s) l) (several_code types kit tables cs (suc i) at2 s t (l + n)),
        cell_own c at (higher s) k l,
        several_own cs (suc i) at2 s t k (l + n),
        inside_more l n (several_labels types kit tables cs) k,
      )

  given_own : (w : Writing) → ((at : ℕ) (s : Stand) (t : Sized) → Own (w.code at s t) w.labels) → (tail : Tail) → OwnTail tail → (s : Stand)
      → OwnTail (given_tail kit w tail s)
  given_own w owns tail ot s t k l =
      let high : Stand = record s { temp = s.temp + w.takes } in
      omega (
        arith,
        sets_append k (w.code s.temp high t l) ((unit_piece kit).ended tail s (l + w.labels)),
        owns s.temp high t k l,
        unit_owns kit tail ot s k (l + w.labels),
        inside_more l w.labels tail.labels k,
      )

  given_owns : (w : Writing) → ((at : ℕ) (s : Stand) (t : Sized) → Own (w.code at s t) w.labels) → (is : List Piece) (a : Piece)
      → OwnsAll kit kit.number is → Owns a → Owns (given_piece kit w is a)
  given_owns w owns is a h own tail ot s k l =
      let m : ℕ = all_labels kit kit.number is in
      let first : Tail = given_tail kit w tail s in
      let high : Stand = record s { temp = s.temp + w.takes } in
      omega (
        arith,
        sets_append k (all_code kit kit.number is s l) (a.ended first high (l + m)),
        all_own kit kit.number is h s k l,
        own first (given_own w owns tail ot s) high k (l + m),
        inside_more l m (a.labels (w.labels + tail.labels)) k,
      )

  new_owns : (k : ℕ) (a : Piece) → Owns a → Owns (new_piece types kit number callees tables k a)
  new_owns k a own = cast_owns kit number (tables.cases k 1) (tables.gives k) a own

  spot_owns : (a : Aim) (ps : List Piece) → OwnsAll kit number ps → Owns (spot_piece types kit number callees tables a ps)
  spot_owns (one c) ps h =
      given_owns (cell_writing types kit tables c) (λ at s t. cell_own c at s) (before ps) (final nothing_piece ps) (before_own ps h) (final_owns ps h)
  spot_owns (several cs) ps h =
      given_owns (several_writing types kit tables cs) (several_own cs 0) (before ps) (final nothing_piece ps) (before_own ps h) (final_owns ps h)
  spot_owns (called k place n j f) ps h =
      let last : Piece = final nothing_piece ps in
      call_owns kit number callees place (tables.cases j (length ps)) (tables.leads j) (tables.gives j)
      (before ps ++ new_piece types kit number callees tables k last ∷ [])
      (with_last (before ps) (new_piece types kit number callees tables k last) (before_own ps h) (new_owns k last (final_owns ps h)))

  assign_owns : (o : Option Aim) (ps : List Piece) → OwnsAll kit number ps → Owns (assign_piece types kit number callees tables o ps)
  assign_owns None ps h = nothing_owns
  assign_owns (Some a) ps h = spot_owns a ps h

-- ---- arms

module _ (types : Types) (kit : Kit) (number : Sized → ℕ) where
  fields_bare : (h : Held) (j q n k : ℕ) → sets k (fields_code types kit h j q n) ≡ 0
  fields_bare h j q zero k = omega arith
  fields_bare h j q (suc n) k = omega (arith, fields_bare h (suc j) (q + 1) n k)

  taken_bare : (b : Bool) (x y : Taken) (k : ℕ) → sets k x.code ≡ 0 → sets k y.code ≡ 0 → sets k (if b then x else y).code ≡ 0
  taken_bare true x y k e f = e
  taken_bare false x y k e f = f

  takes_bare : (ts : List Taking) (q k : ℕ) → sets k (takes_code types kit ts q) ≡ 0
  takes_bare [] q k = omega arith
  takes_bare (t ∷ ts) q k = omega (arith, takes_bare ts (q + 1) k)

  list_bare : (h : Held) (n q fail k : ℕ) → sets k (list_code types kit h n q fail) ≡ 0
  list_bare h zero q fail k = omega arith
  list_bare h (suc n) q fail k =
      omega (
        arith,
        sets_append k (first_code types kit h q fail) (list_code types kit (rest_at types kit h q) n (q + 2) fail),
        list_bare (rest_at types kit h q) n (q + 2) fail k,
      )

  head_bare : (h : Held) (head : Head) (n q fail k : ℕ) → sets k (head_taken types kit h head n q fail).code ≡ 0
  head_bare h (H.Is l) n q fail k = omega arith
  head_bare h H.Tuple n q fail k = fields_bare h 0 q n k
  head_bare h (H.Constructor u c) n q fail k =
      taken_bare (is_union u (out-Sized h.typ)) (payload_taken types kit h u c n q fail) (skipped fail (payload_taken types kit h u c n q fail)) k
      (taken_bare (nat_eq n 1) (one_taken types kit h u c q fail) (many_taken types kit h u c n q fail) k (omega arith)
      (omega (arith, fields_bare (part_at types kit (payload u c) h q) 0 (q + 1) n k))) (omega arith)
  head_bare h H.Vector n q fail k = takes_bare (vector_takes types kit h n) q k
  head_bare h (H.Cut ws) n q fail k = takes_bare (word_takes types kit h ws) q k
  head_bare h H.List n q fail k = list_bare h n q fail k
  head_bare h H.Cons n q fail k = omega arith

  move_bare : (p : Place) (u : ℕ) (q : Place) (t k : ℕ) → is_set k (move kit p u q t) ≡ 0
  move_bare p u q t k = by (nat_eq t u)
    where
      by : (b : Bool) → is_set k (cond b (I.Copy (to kit p u) (from kit q t)) (I.Apply (to kit p u) O.Same (from kit q t ∷ []))) ≡ 0
      by true = refl
      by false = refl

  seen_bare : (m : Mapped) (h : Held) (q throw k : ℕ) → sets k (seen_code types kit m h q throw) ≡ 0
  seen_bare m h q throw k = omega (arith, move_bare (Temp q) (kit.number m.takes) h.place (kit.number h.typ) k)

  step_bare : (st : Step) (hd : Hand) (throw fail k : ℕ) → sets k (step_code types kit st hd throw fail) ≡ 0
  step_bare (P.Opens i head n) hd throw fail k = head_bare (at_hand types kit hd.values i) head n hd.free fail k
  step_bare (P.Names i name) hd throw fail k = omega arith
  step_bare (P.Sees i d) hd throw fail k = seen_bare (kit.ways d) (at_hand types kit hd.values i) hd.free throw k

  steps_bare : (ss : List Step) (hd : Hand) (throw fail k : ℕ) → sets k (steps_code types kit ss hd throw fail) ≡ 0
  steps_bare [] hd throw fail k = omega arith
  steps_bare (st ∷ ss) hd throw fail k =
      let hd2 : Hand = step_hand types kit st hd fail in
      omega (
        arith,
        sets_append k (step_code types kit st hd throw fail) (steps_code types kit ss hd2 throw fail),
        step_bare st hd throw fail k,
        steps_bare ss hd2 throw fail k,
      )

  -- labels of a choice are as many as types
  chain_choices : (n q : ℕ) (es : List End) → chain_labels n (choices_at q es) ≡ chain_labels n es
  chain_choices n q [] = refl
  chain_choices n q (e ∷ []) = refl
  chain_choices n q (e ∷ d ∷ es) = ap (λ x. 1 + n + x) (chain_choices n q (d ∷ es))

  many_choices : (q : ℕ) (es : List End) → many 0 (choices_at q es) ≡ many 0 es
  many_choices q [] = refl
  many_choices q (e ∷ []) = refl
  many_choices q (e ∷ d ∷ es) = ap (λ x. 1 + x) (chain_choices 0 q (e ∷ d ∷ es))

  labels_of : (m : Matched) (q : ℕ) → many 0 (choices m q) ≡ choice_labels m
  labels_of (in_hand es) q = many_choices q es
  labels_of (arguments ts) q = refl

  choice_own : (gives : List Indices) (ss : List Step) (q : ℕ) (s : Stand) (c : Choice) → Own (choice_code types kit gives ss q s c) 0
  choice_own gives ss q s c k l =
      let hd : Hand = arm_hand types kit ss q s.on_no c.values in
      let c1 : List Instruction = steps_code types kit ss (begun types kit c.values q) s.on_throw s.on_no in
      let c2 : List Instruction = arm_noted (kit_at kit s.depths) gives (c.values ++ hd.named) hd.free in
      omega (
        arith,
        sets_append k c1 c2,
        steps_bare ss (begun types kit c.values q) s.on_throw s.on_no k,
        arm_noted_bare (kit_at kit s.depths) gives (c.values ++ hd.named) hd.free k,
      )

  looks_own : (gives : List Indices) (m : Matched) (ss : List Step) (s : Stand) → Own (looks_code types kit gives m ss s) (choice_labels m)
  looks_own gives m ss s =
      let q : ℕ = s.temp + places_of m in
      let arm : Choice → ℕ → List Instruction = choice_code types kit gives ss q s in
      subst (λ n. Own (looks_code types kit gives m ss s) n) (labels_of m s.temp)
      (by_case_own picked_of (kit_at kit s.depths) q 0 arm (choice_own gives ss q s) (choices m s.temp))

  moved_own : (m : ℕ) (s : Stand) (tail : Tail) → OwnTail tail → OwnTail (moved types kit m s tail)
  moved_own m s tail ot t k l = by (nat_eq m s.temp)
    where
      i : Instruction
      i = I.Copy (to kit (Temp s.temp) (kit.number t)) (from kit (Temp m) (kit.number t))

      by : (b : Bool) → sets k ((if b then [] else i ∷ []) ++ tail.code t l) ≤ inside l tail.labels k
      by true = ot t k l
      by false = omega (arith, ot t k l)

  arm_owns : (gives : List Indices) (m : Matched) (arm : Arm) (b : Piece) → Owns b → Owns (arm_piece types kit gives m arm b)
  arm_owns gives m arm b ob tail ot s k l =
      let ss : List Step = steps_in arm in
      let hd : Hand = hand_of types kit m ss s in
      let r : Stand = arm_stand types kit hd s in
      let inner : Tail = moved types kit hd.free s tail in
      let n : ℕ = choice_labels m in
      let c1 : List Instruction = looks_code types kit gives m ss s l in
      let c2 : List Instruction = b.ended inner r (l + n) in
      omega (
        arith,
        sets_append k c1 c2,
        looks_own gives m ss s k l,
        ob inner (moved_own hd.free s tail ot) r k (l + n),
        inside_more l n (b.labels tail.labels) k,
      )

  else_owns : (a b : Piece) → Owns a → Owns b → Owns (else_piece types kit a b)
  else_owns a b oa ob tail ot s k l =
      let q : ℕ = tail.labels in
      let lb : ℕ = l + 2 + a.labels q in
      let c1 : List Instruction = a.ended tail (failing types kit l s) (l + 2) in
      let c2 : List Instruction = b.ended tail s lb in
      let t2 : List Instruction = I.Goto (l + 1) ∷ I.Label l ∷ (c2 ++ I.Label (l + 1) ∷ []) in
      omega (
        arith,
        sets_append k c1 t2,
        sets_append k c2 (I.Label (l + 1) ∷ []),
        oa tail ot (failing types kit l s) k (l + 2),
        ob tail ot s k lb,
        two_of l k,
        own_two l 2 (a.labels q) (b.labels q) k,
      )

  stop_here_owns : (cause : Cause) → Owns (stop_here types kit cause)
  stop_here_owns cause tail ot s k l = omega arith

  fall_owns : Owns (fall_piece types kit)
  fall_owns tail ot s k l = omega arith

  first_owns : (names : ℕ → List Indices) (m : Matched) (arms : List Arm) (bs : List Piece) (none : Piece) → OwnsAll kit number bs → Owns none
      → Owns (first_piece types kit names m arms bs none)
  first_owns names m [] [] none all on = on
  first_owns names m [] (b ∷ bs) none all on = nothing_owns
  first_owns names m (arm ∷ arms) [] none all on = nothing_owns
  first_owns names m (arm ∷ arms) (b ∷ bs) none all on =
      let p : Piece = arm_piece types kit (names (length arms)) m arm b in
      else_owns (inside_piece kit p) (first_piece types kit names m arms bs none)
      (inside_owns kit p (arm_owns (names (length arms)) m arm b all.0)) (first_owns names m arms bs none all.1 on)

  match_owns : (names : ℕ → List Indices) (a : Piece) (arms : List Arm) (bs : List Piece) (cause : Cause) → Owns a → OwnsAll kit number bs
      → Owns (match_piece types kit names a arms bs cause)
  match_owns names a arms bs cause oa all =
      let none : Piece = stop_here types kit cause in
      let m : Matched = in_hand a.ends in
      seq_owns a (first_piece types kit names m arms bs none) oa (first_owns names m arms bs none all (stop_here_owns cause))

  thrown_own : (hs : List Held) (k : ℕ) → sets k (thrown_code types kit hs) ≡ 0
  thrown_own [] k = omega arith
  thrown_own (h ∷ hs) k = omega arith

  throw_here_owns : (m : Matched) → Owns (throw_here types kit m)
  throw_here_owns m tail ot s k l =
      let q : ℕ = s.temp + places_of m in
      let arm : Choice → ℕ → List Instruction = λ c i. thrown_code types kit c.values in
      let own : (c : Choice) → Own (arm c) 0 = λ c j i. omega (arith, thrown_own c.values j) in
      let c1 : List Instruction = by_case picked_of (kit_at kit s.depths) q 0 arm l (choices m s.temp) in
      omega (
        arith,
        sets_append k c1 (I.Goto s.on_throw ∷ []),
        by_case_own picked_of (kit_at kit s.depths) q 0 arm own (choices m s.temp) k l,
        ap (λ n. inside l n k) (labels_of m s.temp),
      )

  catch_owns : (a b : Piece) → Owns a → Owns b → Owns (catch_piece types kit a b)
  catch_owns a b oa ob tail ot s k l =
      let q : ℕ = tail.labels in
      let lb : ℕ = l + 2 + a.labels q in
      let c1 : List Instruction = a.ended tail (caught_at l s) (l + 2) in
      let c2 : List Instruction = b.ended tail s lb in
      let t2 : List Instruction = I.Goto (l + 1) ∷ I.Label l ∷ (c2 ++ I.Label (l + 1) ∷ []) in
      omega (
        arith,
        sets_append k c1 t2,
        sets_append k c2 (I.Label (l + 1) ∷ []),
        oa tail ot (caught_at l s) k (l + 2),
        ob tail ot s k lb,
        two_of l k,
        own_two l 2 (a.labels q) (b.labels q) k,
      )

  try_owns : (cases : List Case) (gives : List Indices) (names : ℕ → List Indices) (arms : List Arm) (bs : List Piece) (a : Piece) → Owns a
      → OwnsAll kit number bs → Owns (try_piece types kit cases gives names arms bs a)
  try_owns cases gives names arms bs a oa all =
      let raised : Source = from kit Raised kit.exception in
      let m : Matched = in_hand (ends_of gives cases) in
      let none : Piece = throw_here types kit m in
      catch_owns (inside_piece kit a) (caught_piece types kit cases gives names arms bs) (inside_owns kit a oa)
      (seq_owns (raised_piece types kit cases gives) (first_piece types kit names m arms bs none)
      (made_owns kit kit.number (source_make kit kit.number raised) (source_plain kit kit.number raised) cases gives)
      (first_owns names m arms bs none all (throw_here_owns m)))

  pub let_owns : (gives : List Indices) (a : Piece) (arm : Arm) (b : Piece) (cause : Cause) → Owns a → Owns b
      → Owns (let_piece types kit gives a arm b cause)
  let_owns gives a arm b cause oa ob =
      let none : Piece = stop_here types kit cause in
      let p : Piece = arm_piece types kit gives (in_hand a.ends) arm b in
      seq_owns a (else_piece types kit p none) oa (else_owns p none (arm_owns gives (in_hand a.ends) arm b ob) (stop_here_owns cause))

-- ---- builtins of the state

module _ (kit : Kit) (number : Sized → ℕ) where
  owns_here : (ps : List Piece) → OwnsAll kit number ps → OwnsAll kit kit.number ps
  owns_here [] h = tt
  owns_here (p ∷ ps) h = (h.0, owns_here ps h.1)

  state_owns : (row : Row) (cases : List Case) (gives : List Indices) (ps : List Piece) → OwnsAll kit number ps
      → Owns (state_piece kit row cases gives ps)
  state_owns row [] gives ps all = nothing_owns
  state_owns row (c ∷ b ∷ cs) gives ps all = nothing_owns
  state_owns row (c ∷ []) gives ps all = one_owns
    where
      one_owns : Owns (state_piece kit row (c ∷ []) gives ps)
      one_owns tail ot s k l =
          let m : ℕ = all_labels kit kit.number ps in
          let c1 : List Instruction = all_code kit kit.number ps s l in
          let c2 : List Instruction = row_code kit row c gives ps tail s (l + m) in
          omega (
            arith,
            sets_append k c1 c2,
            sets_append k (note_code (kit_at kit s.depths) kit.number s.temp gives c.gives) (tail.code c.gives (l + m)),
            all_own kit kit.number ps (owns_here ps all) s k l,
            note_own (kit_at kit s.depths) kit.number s.temp gives c.gives k,
            ot c.gives k (l + m),
            inside_more l m tail.labels k,
          )

-- ---- nodes

module _ (types : Types) (kit : Kit) (number : Sized → ℕ) (callees : Callees) (tables : Tables) where
  abbrev at_node : Core → Node
  at_node = node types kit number callees tables

  abbrev code : Core → Piece
  code = piece types kit number callees tables

  Mine : Core → Type 0
  Mine c = Owns (code c)

  abbrev Known : Type 0
  Known = (c : Core) × Mine c

  abbrev nodes : List Known → List Node
  nodes ys = map at_node (map (λ y. y.0) ys)

  abbrev pieces : List Known → List Piece
  pieces ys = pieces_of (nodes ys)

  all_mine : (ys : List Known) → OwnsAll kit number (pieces ys)
  unfolding Mine
  all_mine [] = tt
  all_mine (y ∷ ys) = (y.1, all_mine ys)

  block_mine : (k : ℕ) (ss : List Statement) (ys : List Known) → Owns (block_piece types kit number callees tables k ss (pieces ys))
  unfolding Mine
  block_mine k [] [] = unit_owns kit
  block_mine k [] (y ∷ []) = y.1
  block_mine k [] (y ∷ x ∷ ys) = nothing_owns
  block_mine k (S.Evaluate ∷ ss) [] = nothing_owns
  block_mine k (S.Declare name written ∷ ss) [] = nothing_owns
  block_mine k (S.Define place arm ∷ ss) [] = nothing_owns
  block_mine k (S.Define place arm ∷ ss) (y ∷ ys) =
      let_owns types kit number (tables.named k (length ss)) (code y.0) arm (block_piece types kit number callees tables k ss (pieces ys))
      (MatchFailure place) y.1 (block_mine k ss ys)
  block_mine k (S.Evaluate ∷ ss) (y ∷ ys) =
      seq_owns (code y.0) (block_piece types kit number callees tables k ss (pieces ys)) y.1 (block_mine k ss ys)
  block_mine k (S.Declare name written ∷ ss) (y ∷ ys) =
      var_owns kit (tables.reads name) name (code y.0) (block_piece types kit number callees tables k ss (pieces ys)) y.1 (block_mine k ss ys)

  worked : (k : ℕ) (op : Operation) (order : Order) (ys : List Known)
      → Owns (work_piece kit number op order (tables.cases k (length (pieces ys))) (tables.gives k) (pieces ys))
  worked k op order ys =
      made_of_owns kit number (work_make kit number op order) (work_plain kit number op order) (tables.cases k (length (pieces ys))) (tables.gives k)
      (pieces ys) (all_mine ys)

  number_owns : (o : Option ℤ) → Owns (number_piece types kit number callees tables o)
  number_owns None = nothing_owns
  number_owns (Some z) = constant_owns kit (fixed_typ types int_typ) (L.Integer z)

  truth_owns : (o : Option Bool) → Owns (truth_piece types kit number callees tables o)
  truth_owns None = nothing_owns
  truth_owns (Some b) = constant_owns kit (fixed_typ types T.Bool) (L.Truth b)

  row_mine : (b : Bool) (k : ℕ) (row : Row) (ys : List Known) → Owns (row_piece types kit number callees tables b k row (pieces ys))
  row_mine true k row ys = state_owns kit number row (tables.cases k (length (pieces ys))) (tables.gives k) (pieces ys) (all_mine ys)
  row_mine false k row ys = worked k (O.Builtin row) in_order ys

  variable_owns : (us : List Sized) (name : List ℕ) (k : ℕ) → Owns (variable_piece kit number us name (tables.cases k 0) (tables.gives k))
  variable_owns [] name k = nothing_owns
  variable_owns (t ∷ ts) name k =
      made_owns kit number (variable_make kit number name) (variable_plain kit number name) (tables.cases k 0) (tables.gives k)

  kind_mine : (place : TextPlace) (k : ℕ) (kind : Kind) (ys : List Known) → Owns (kind_piece types kit number callees tables place k kind (pieces ys))
  unfolding Mine
  kind_mine place k (K.Constant literal) [] = constant_owns kit (fixed_typ types (literal_typ literal)) (constant_of literal)
  kind_mine place k (K.Local name) [] =
      made_owns kit number (local_make kit number name) (local_plain kit number name) (tables.cases k 1) (tables.gives k)
  kind_mine place k (K.Variable name) ys = variable_owns (tables.reads name) name k
  kind_mine place k (K.TopLevel i) [] =
      let a : Source = R.Let (callees.opening i) in
      made_owns kit number (source_make kit number a) (source_plain kit number a) (tables.cases k 0) (tables.gives k)
  kind_mine place k (K.Register r) [] =
      let a : Source = R.Register r in
      made_owns kit number (source_make kit number a) (source_plain kit number a) (tables.cases k 0) (tables.gives k)
  kind_mine place k (K.Call (F.Function f)) ys =
      call_owns kit number callees place (tables.cases k (length (pieces ys))) (tables.leads k) (tables.gives k) (pieces ys) (all_mine ys)
  kind_mine place k (K.Call (F.Row row)) ys = row_mine (has_state row) k row ys
  kind_mine place k (K.Call (F.Constructor u c)) ys =
      made_of_owns kit number (construct_make kit number types u c) (construct_plain kit number types u c) (tables.cases k (length (pieces ys)))
      (tables.gives k) (pieces ys) (all_mine ys)
  kind_mine place k K.Tuple ys = worked k O.Build in_order ys
  kind_mine place k (K.Vector shape) ys = worked k O.Build reverse ys
  kind_mine place k (K.List shape) ys = worked k O.Build in_order ys
  kind_mine place k (K.Cons shape) ys = worked k O.Cons in_order ys
  kind_mine place k (K.Struct struct fields) ys = worked k O.Build (in_fields (unit_source kit) fields) ys
  kind_mine place k (K.With struct (i ∷ [])) ys = worked k (O.WithField i) in_order ys
  kind_mine place k (K.With struct (i ∷ j ∷ is)) ys =
      made_of_owns kit number (with_make kit number types (i ∷ j ∷ is)) (with_plain kit number types (i ∷ j ∷ is)) (tables.cases k (length (pieces ys)))
      (tables.gives k) (pieces ys) (all_mine ys)
  kind_mine place k (K.Part suffixes) (y ∷ ys) = path_owns kit number tables suffixes (pieces ys) (code y.0) (all_mine ys) y.1
  kind_mine place k K.WithItem (y1 ∷ y2 ∷ y3 ∷ []) = worked k O.WithItem in_order (y1 ∷ y2 ∷ y3 ∷ [])
  kind_mine place k K.WithSlice (y1 ∷ y2 ∷ y3 ∷ y4 ∷ []) = worked k O.WithSlice in_order (y1 ∷ y2 ∷ y3 ∷ y4 ∷ [])
  kind_mine place k (K.Cast written) (y ∷ []) = cast_owns kit number (tables.cases k 1) (tables.gives k) (code y.0) y.1
  kind_mine place k (K.SizeOf t numbers) [] = number_owns (callees.size t)
  kind_mine place k (K.Constraint c numbers) [] = truth_owns (callees.truth c)
  kind_mine place k (K.Assign (t ∷ [])) ys = assign_owns types kit number callees tables (target_spot t) (pieces ys) (all_mine ys)
  kind_mine place k (K.Block statements) ys = block_mine k statements ys
  kind_mine place k (K.Var name written) (y1 ∷ y2 ∷ []) = var_owns kit (tables.reads name) name (code y1.0) (code y2.0) y1.1 y2.1
  kind_mine place k (K.If shape) (y1 ∷ y2 ∷ []) = if_owns kit (code y1.0) (inside_piece kit (code y2.0)) (unit_piece kit) y1.1
      (inside_owns kit (code y2.0) y2.1) (unit_owns kit)
  kind_mine place k (K.If shape) (y1 ∷ y2 ∷ y3 ∷ []) =
      meet_owns kit number (tables.cases k 1) (tables.gives k) (if_piece kit (code y1.0) (inside_piece kit (code y2.0)) (inside_piece kit (code y3.0)))
      (if_owns kit (code y1.0) (inside_piece kit (code y2.0)) (inside_piece kit (code y3.0)) y1.1 (inside_owns kit (code y2.0) y2.1)
      (inside_owns kit (code y3.0) y3.1))
  kind_mine place k K.While (y1 ∷ y2 ∷ y3 ∷ []) =
      while_owns kit place (inside_piece kit (code y1.0)) (inside_piece kit (code y2.0)) (inside_piece kit (code y3.0)) (inside_owns kit (code y1.0) y1.1)
      (inside_owns kit (code y2.0) y2.1) (inside_owns kit (code y3.0) y3.1)
  kind_mine place k K.Repeat (y1 ∷ y2 ∷ y3 ∷ []) =
      repeat_owns kit place (inside_piece kit (code y1.0)) (inside_piece kit (code y2.0)) (inside_piece kit (code y3.0)) (inside_owns kit (code y1.0) y1.1)
      (inside_owns kit (code y2.0) y2.1) (inside_owns kit (code y3.0) y3.1)
  kind_mine place k (K.Foreach name way) (y1 ∷ y2 ∷ y3 ∷ y4 ∷ []) =
      foreach_owns kit name way (code y1.0) (code y2.0) (code y3.0) (inside_piece kit (code y4.0)) y1.1 y2.1 y3.1 (inside_owns kit (code y4.0) y4.1)
  kind_mine place k K.Throw (y ∷ []) = throw_owns kit (code y.0) y.1
  kind_mine place k K.Return (y ∷ []) = return_owns kit (code y.0) y.1
  kind_mine place k K.Exit (y ∷ []) = stop_owns (Exit place) (code y.0) y.1
  kind_mine place k (K.Assert text) (y ∷ []) = assert_owns kit (Assertion place text) (code y.0) y.1
  kind_mine place k K.And (y1 ∷ y2 ∷ []) = and_owns kit (code y1.0) (inside_piece kit (code y2.0)) y1.1 (inside_owns kit (code y2.0) y2.1)
  kind_mine place k K.Or (y1 ∷ y2 ∷ []) = or_owns kit (code y1.0) (inside_piece kit (code y2.0)) y1.1 (inside_owns kit (code y2.0) y2.1)
  kind_mine place k K.When (y1 ∷ y2 ∷ []) = when_owns kit (code y1.0) (code y2.0) y1.1 y2.1
  kind_mine place k (K.Let arm) (y1 ∷ y2 ∷ []) = let_owns types kit number (tables.named k 0) (code y1.0) arm (code y2.0) (MatchFailure place) y1.1 y2.1
  kind_mine place k (K.Match arms shape) (y ∷ ys) =
      let cause : Cause = MatchFailure place in
      meet_owns kit number (tables.cases k 1) (tables.gives k) (match_piece types kit (tables.named k) (code y.0) arms (pieces ys) cause)
      (match_owns types kit number (tables.named k) (code y.0) arms (pieces ys) cause y.1 (all_mine ys))
  kind_mine place k (K.Try arms shape) (y ∷ ys) =
      let tried : Piece = try_piece types kit (tables.cases k 0) (tables.gives k) (tables.named k) arms (pieces ys) (code y.0) in
      meet_owns kit number (tables.cases k 1) (tables.gives k) tried
      (try_owns types kit number (tables.cases k 0) (tables.gives k) (tables.named k) arms (pieces ys) (code y.0) y.1 (all_mine ys))
  kind_mine place k (K.Clauses arms) ys =
      first_owns types kit number (tables.named k) (arguments callees.given) arms (pieces ys) (fall_piece types kit) (all_mine ys) (fall_owns types kit number)
  kind_mine place k (K.Call (F.Applies d)) (y ∷ []) =
      applied_owns kit place (callees.direction d) (tables.cases k 1) (tables.gives k) (code y.0) y.1
  kind_mine place k (K.Optional t) (y ∷ []) =
      let option : Sized = fixed_typ types (option_typ t) in
      else_owns types kit number (some_piece kit option (fixed_typ types t) (code y.0)) (none_piece kit option)
      (some_owns kit option (fixed_typ types t) (code y.0) y.1) (none_owns kit option)
  kind_mine place k kind ys = nothing_owns

  node_mine : (y : Core-F Known) → Mine (roll-Core (map-Core Known Core (λ q. q.0) y))
  unfolding Mine
  node_mine y =
      subst (λ (n : Node). Owns n.piece)
      (sym (fold-roll-Core Node (λ c. record {
        piece = kind_piece types kit number callees tables c.place c.number c.kind (pieces_of c.parts);
        ok = kind_lowered types callees tables c.number c.kind c.parts;
      }) (map-Core Known Core (λ q. q.0) y)))
      (kind_mine y.place y.number y.kind y.parts)

  all_nodes : (c : Core) → Mine c
  all_nodes = ind-Core Mine (λ c y is_. subst (λ d. Mine (roll-Core d)) is_ (node_mine y))

  pub node_owns : (c : Core) → Owns (code c)
  unfolding Mine
  node_owns c = all_nodes c
