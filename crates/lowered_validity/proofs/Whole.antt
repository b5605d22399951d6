-- Whole functions: code that keeps the rules by itself is right, instruction by instruction.
use Rattle.jib.specs.declared.code.Source.TheVariants as R
use Rattle.jib.specs.declared.code.Instruction.TheVariants as I
use Rattle.jib.specs.Typing.{same}
use Rattle.std.proofs.Common.{inl, inr, subst, eq-eqb, not}
use Rattle.std.specs.Prelude.{nat_eq, nat_lt, nat_le}
use Rattle.std.proofs.lemmas.Bool.Decides.{nat_tests}
use Rattle.jib.specs.Valid.{aim, instruction_right, is_end, is_label, is_place, is_pure_instruction, is_tick, keeps_pure, lands, lands_at, place_from, set_here}
use Rattle.jib.specs.Valid.{typed}
use Rattle.jib.specs.laws.Ways.{In, uses}
use Rattle.lowered_laws.specs.CodeLaws.{is_set, sets}
use Rattle.sail_base.specs.declared.place.Place.{Place as TextPlace}
use Rattle.model_state.specs.declared.cause.Cause.TheVariants.{MatchFailure}
use Rattle.sail_core.specs.declared.tree.Core.{Core}
use Rattle.lowered_pieces.specs.Functions.{answer_code, body_stand, called_code, ends_code}
use Rattle.lowered_pieces.specs.Functions.{event_code, measure_code, measure_labels, measure_stand, no_measure_code}
use Rattle.std.proofs.Common.{Bool, List, None, Option, Some, [], ap, append-nil, arith, cond, eqb-true, false, length, refl, suc, sym, true, zero, ℕ, ◌&&◌}
use Rattle.std.proofs.Common.{◌++◌, ◌+◌, ◌-◌, ◌<◌, ◌||◌, ◌∙◌, ◌∷◌, ◌≡◌, ◌≤◌, ◌⊎◌}
use Rattle.std.specs.Prelude.{option_map, slice_get}
use Rattle.jib.specs.Jib.{at}
use Rattle.jib.specs.Operands.{each}
use Rattle.jib.specs.declared.code.Function.{Function}
use Rattle.jib.specs.declared.code.Instruction.{Instruction}
use Rattle.jib.specs.declared.code.Module.{Module}
use Rattle.lowered_laws.specs.Standing.{free}
use Rattle.lowered_pieces.specs.Emitted.{UsesBelow}
use Rattle.lowered_pieces.specs.Forms.{Callees, Piece, code_of, count_of, no_tail, place_of, return_piece}
use Rattle.lowered_pieces.specs.Lowering.{kit_of, piece}
use Rattle.lowered_pieces.specs.Openings.{name_piece, named_piece, source_piece}
use Rattle.lowered_pieces.specs.Places.{Kit, Naming, Raised, Temp, from, to}
use Rattle.lowered_pieces.specs.Tables.{Tables}
use Rattle.lowered_types.specs.Table.{type_in}
use Rattle.lowered_validity.proofs.Arms.{let_right}
use Rattle.lowered_validity.proofs.Fitting.{both, copy_fits, measure_fits, no_more, parts_of, same_some, slot_copy, throw_fits}
use Rattle.lowered_validity.proofs.Flow.{Meets, alone, append, before, join, set_before, set_behind, set_first, set_next}
use Rattle.lowered_validity.proofs.Forms.{held, return_right}
use Rattle.lowered_validity.proofs.Labels.{label_fits, no_measure_fits, stop_fits, tick_fits, with_label}
use Rattle.lowered_validity.proofs.Nodes.{node_is_right}
use Rattle.lowered_validity.proofs.Working.{cast_right}
use Rattle.lowered_validity.specs.Laws.{Ended, Numbered, called_for, direction_for, event_for, is_named, is_typed, is_value, measure_right, name_for}
use Rattle.lowered_validity.specs.Laws.{no_label, result_for, value_for}
use Rattle.lowered_validity.specs.Right.{Goes, Labels, Placed, Right, RightPiece, Signs, seen}
use Rattle.lowered_validity.specs.Typing.{Typing, are_of, arm_right, cases_right, gives_in, is_recast, is_sourced, picks_small, result_right, typing}
use Rattle.sail_core.specs.declared.patterns.Arm.{Arm}
use Rattle.sail_types.specs.declared.table.Types.{Types}
use Rattle.size_values.specs.declared.sized.Sized.{Sized}
use Rattle.sized_nodes.specs.declared.trees.Case.{Case}
use Rattle.value_indices.specs.declared.indices.Indices.{Indices}

no_way : {A : Type 0} → false ≡ true → A
no_way h = cc

-- ---- the place of a label that is set once

label_self : (l : ℕ) → nat_eq l l ≡ true
label_self l = eq-eqb l l refl

-- a label that is set has a place
abbrev Found : ℕ → List Instruction → Type 0
Found l c = (j : ℕ) × (slice_get c j ≡ Some (I.Label l))

found_later : (l : ℕ) (i : Instruction) (c : List Instruction) → Found l c → Found l (i ∷ c)
found_later l i c r = (suc r.0, r.1)

found_here : (l k : ℕ) (c : List Instruction) (b : Bool) → nat_eq k l ≡ b → 1 ≤ cond b 1 0 + sets l c → (1 ≤ sets l c → Found l c) → Found l (I.Label k ∷ c)
found_here l k c true e h rest = (zero, ap (λ q. Some (I.Label q)) (eqb-true k l e))
found_here l k c false e h rest = found_later l (I.Label k) c (rest (omega (arith, h)))

found_first : (l : ℕ) (i : Instruction) (c : List Instruction) → 1 ≤ is_set l i + sets l c → (1 ≤ sets l c → Found l c) → Found l (i ∷ c)
found_first l (I.Label k) c h rest = found_here l k c (nat_eq k l) refl h rest
found_first l i c h rest = found_later l i c (rest (omega (arith, h)))

found_label : (l : ℕ) (c : List Instruction) → 1 ≤ sets l c → Found l c
found_label l [] h = absurd (nothing h)
  where
    nothing : 1 ≤ 0 → ⊥
    nothing h = omega (arith, h)
found_label l (i ∷ c) h = found_first l i c h (λ k. found_label l c k)

set_at : (l : ℕ) (c : List Instruction) (p : ℕ) → slice_get c p ≡ Some (I.Label l) → 1 ≤ sets l c
set_at l [] p e = none e
  where
    none : None ≡ Some (I.Label l) → 1 ≤ 0
    none e = cc
set_at l (i ∷ c) zero e = subst (λ x. 1 ≤ is_set l x + sets l c) (sym (some_same i (I.Label l) e)) (set_first l c)
  where
    some_same : (x y : Instruction) → Some x ≡ Some y → x ≡ y
    some_same x y e = cc
set_at l (i ∷ c) (suc p) e = set_next l i c (set_at l c p e)

not_label : (l : ℕ) (i : Instruction) → is_set l i ≡ 0 → is_label l i ≡ false
not_label l (I.Label k) h = by (nat_eq k l) h
  where
    by : (b : Bool) → ◌≡◌ {A = ℕ} (cond b 1 0) 0 → b ≡ false
    by true h = absurd (omega (arith, h))
    by false h = refl
not_label l i h = refl

-- where it is set once, its first place is the only one
first_place : (l : ℕ) (c : List Instruction) (p q : ℕ) → sets l c ≤ 1 → slice_get c p ≡ Some (I.Label l) → place_from l q c ≡ Some (q + p)
first_place l [] p q once e = none e
  where
    none : None ≡ Some (I.Label l) → None ≡ Some (q + p)
    none e = cc
first_place l (i ∷ c) zero q once e =
    ap (λ x. cond (is_label l x) (Some q) (place_from l (q + 1) c)) (some_same i (I.Label l) e)
    ∙ ap (λ b. cond b (Some q) (place_from l (q + 1) c)) (label_self l) ∙ ap Some (sym (no_more q))
  where
    some_same : (x y : Instruction) → Some x ≡ Some y → x ≡ y
    some_same x y e = cc
first_place l (i ∷ c) (suc p) q once e =
    let there : 1 ≤ sets l c = set_at l c p e in
    let none : is_set l i ≡ 0 = omega (arith, there, once) in
    let once_more : sets l c ≤ 1 = omega (arith, once) in
    ap (λ b. cond b (Some q) (place_from l (q + 1) c)) (not_label l i none) ∙ first_place l c p (q + 1) once_more e ∙ ap Some (shifted p q)
  where
    shifted : (p q : ℕ) → q + 1 + p ≡ q + suc p
    shifted p q = omega arith

lt_true : (a b : ℕ) → a < b → nat_lt a b ≡ true
lt_true a b h = grind (arith, nat_tests)

-- ---- code that is right by itself

module _ (m : Module) (f : Function) (n : ℕ) (once : (k : ℕ) → sets k f.code ≤ 1) (room : UsesBelow (length f.slots) f.code) where
  place_is : (l p : ℕ) → slice_get f.code p ≡ Some (I.Label l) → place_from l 0 f.code ≡ Some p
  place_is l p e = first_place l f.code p 0 (once l) e ∙ ap Some (begun p)
    where
      begun : (p : ℕ) → 0 + p ≡ p
      begun p = omega arith

  -- labels with a tick are set before
  abbrev Ticked : Labels → Type 0
  Ticked out = (k : ℕ) → out k ≡ true → (p : ℕ) × (slice_get f.code p ≡ Some (I.Label k)) × (is_tick (slice_get f.code (p + 1)) ≡ true)

  -- from a place on the code is this
  abbrev Stands : ℕ → List Instruction → Type 0
  Stands pc c = (j : ℕ) → slice_get f.code (pc + j) ≡ slice_get c j

  lands_is : (pc : ℕ) (i : Instruction) (c : List Instruction) (out : Labels) → Stands pc (i ∷ c) → Ticked out → (o : Option ℕ) → Goes out c o
      → lands f.code pc o ≡ true
  lands_is pc i c out at ticked None goes = refl
  lands_is pc i c out at ticked (Some l) (inl s) =
      let r = found_label l c s in
      let p : ℕ = pc + suc r.0 in
      let e : place_from l 0 f.code ≡ Some p = place_is l p (at (suc r.0) ∙ r.1) in
      let further : nat_lt pc p ≡ true = lt_true pc p (omega arith) in
      ap (lands_at f.code pc) e ∙ ap (λ b. b || is_tick (slice_get f.code (p + 1))) further
  lands_is pc i c out at ticked (Some l) (inr t) =
      let r = ticked l t in
      ap (lands_at f.code pc) (place_is l r.0 r.1) ∙ ap (λ b. nat_lt pc r.0 || b) r.2 ∙ or_true (nat_lt pc r.0)
    where
      or_true : (b : Bool) → (b || true) ≡ true
      or_true true = refl
      or_true false = refl

  set_is : (pc : ℕ) (i : Instruction) → slice_get f.code pc ≡ Some i → set_here f.code pc i ≡ true
  set_is pc (I.Label l) e = ap (is_place pc) (place_is l pc e) ∙ eq-eqb pc pc refl
  set_is pc i e = refl

  kept : (i : Instruction) → (f.is_pure ≡ true → is_pure_instruction m i ≡ true) → keeps_pure m f i ≡ true
  kept i h = by f.is_pure h
    where
      by : (b : Bool) → (b ≡ true → is_pure_instruction m i ≡ true) → (not b || is_pure_instruction m i) ≡ true
      by true h = h refl
      by false h = refl

  used : (pc : ℕ) (i : Instruction) → slice_get f.code pc ≡ Some i → (k : ℕ) → In k (uses i) → k < length f.slots
  used pc i e k h = room pc k i e h

  ticked_more : (pc : ℕ) (i : Instruction) (c : List Instruction) (out : Labels) → Stands pc (i ∷ c) → Ticked out → Ticked (seen i c out)
  ticked_more pc (I.Label l) (I.Tick ∷ c) out at ticked k e = by (nat_eq k l) refl e
    where
      by : (b : Bool) → nat_eq k l ≡ b → (b || out k) ≡ true
          → (p : ℕ) × (slice_get f.code p ≡ Some (I.Label k)) × (is_tick (slice_get f.code (p + 1)) ≡ true)
      by true x h =
          (pc, ap (slice_get f.code) (sym (no_more pc)) ∙ at 0 ∙ ap (λ q. Some (I.Label q)) (sym (eqb-true k l x)), ap is_tick (at 1))
      by false x h = ticked k h
  ticked_more pc i c out at ticked k e = ticked k e

  pub rights_are : (c : List Instruction) (pc : ℕ) (out : Labels) → Stands pc c → Ticked out → Right m f n out c → each (instruction_right m f n) pc c ≡ true
  rights_are [] pc out at ticked h = refl
  rights_are (i ∷ c) pc out at ticked h =
      let e : slice_get f.code pc ≡ Some i = ap (slice_get f.code) (sym (no_more pc)) ∙ at 0 in
      let fits = h.0 (used pc i e) in
      let a : Bool = typed m f n i in
      let b : Bool = lands f.code pc (aim i) in
      let d : Bool = set_here f.code pc i in
      both (a && b && d && keeps_pure m f i) (each (instruction_right m f n) (pc + 1) c)
      (both (a && b && d) (keeps_pure m f i)
      (both (a && b) d (both a b fits.0 (lands_is pc i c out at ticked (aim i) h.1.0)) (set_is pc i e)) (kept i fits.1))
      (rights_are c (pc + 1) (seen i c out) (λ j. ap (slice_get f.code) (shifted pc j) ∙ at (suc j)) (ticked_more pc i c out at ticked) h.1.1)
    where
      shifted : (pc j : ℕ) → pc + 1 + j ≡ pc + suc j
      shifted pc j = omega arith

  pub codes_right : Right m f n no_label f.code → each (instruction_right m f n) 0 f.code ≡ true
  codes_right h = rights_are f.code 0 no_label (λ j. ap (slice_get f.code) (begun j)) (λ k e. no_way e) h
    where
      begun : (j : ℕ) → 0 + j ≡ j
      begun j = omega arith

-- ---- the last instruction

abbrev Ends : List Instruction → Type 0
Ends c = is_end (slice_get c (length c - 1)) ≡ true

ends_next : (i : Instruction) (c : List Instruction) → Ends c → Ends (i ∷ c)
ends_next i [] h = no_way h
ends_next i (x ∷ c) h = ap (λ k. is_end (slice_get (i ∷ x ∷ c) k)) (last_place (length c)) ∙ h
  where
    last_place : (k : ℕ) → suc (suc k) - 1 ≡ suc (suc k - 1)
    last_place k = omega arith

ends_behind : (a b : List Instruction) → Ends b → Ends (a ++ b)
ends_behind [] b h = h
ends_behind (i ∷ a) b h = ends_next i (a ++ b) (ends_behind a b h)

-- ---- functions

two_meet : (l : ℕ) (b : List Instruction) (out into : Labels) → 1 ≤ sets l b → Meets out b into → Meets (with_label l out) b into
two_meet l b out into h up k e = by (nat_eq k l) refl e
  where
    by : (q : Bool) → nat_eq k l ≡ q → (q || out k) ≡ true → (1 ≤ sets k b) ⊎ (into k ≡ true)
    by true x f = inl (subst (λ i. 1 ≤ sets i b) (sym (eqb-true k l x)) h)
    by false x f = up k f

none_meet : (b : List Instruction) → Meets no_label b no_label
none_meet b k e = no_way e

module _ (types : Types) (ss : List Sized) (callees : Callees) (m : Module) (f : Function) (n : ℕ) (name : Naming) (g : Signs)
    (pl : Placed types ss (type_in ss) callees m f n name g) (tables : Tables) (all : Numbered types tables ss) where
  abbrev K : Kit
  K = kit_of types name (type_in ss) g.exception callees.size callees.direction

  abbrev number : Sized → ℕ
  number = type_in ss

  abbrev typed_ : Core → Typing
  typed_ = typing types number callees tables g

  ends_right_ : (place : TextPlace) (out : Labels) → Right m f n out (ends_code K place)
  ends_right_ place out =
      let i4 : Instruction = I.Throw (from K Raised K.exception) in
      before m f n out (I.Label 1) (I.Stop (MatchFailure place) ∷ I.Label 0 ∷ i4 ∷ []) (label_fits m f n 1) tt
      (before m f n out (I.Stop (MatchFailure place)) (I.Label 0 ∷ i4 ∷ []) (stop_fits m f n (MatchFailure place) refl) tt
      (before m f n out (I.Label 0) (i4 ∷ []) (label_fits m f n 0) tt
      (alone m f n out i4 (throw_fits types ss callees m f n name g pl Raised) tt)))

  ends_set : (place : TextPlace) → (1 ≤ sets 0 (ends_code K place)) × (1 ≤ sets 1 (ends_code K place))
  ends_set place =
      let i4 : Instruction = I.Throw (from K Raised K.exception) in (
        set_next 0 (I.Label 1) (I.Stop (MatchFailure place) ∷ I.Label 0 ∷ i4 ∷ [])
            (set_next 0 (I.Stop (MatchFailure place)) (I.Label 0 ∷ i4 ∷ []) (set_first 0 (i4 ∷ []))),
        set_first 1 (I.Stop (MatchFailure place) ∷ I.Label 0 ∷ i4 ∷ []),
      )

  -- a body whose value has the type of the result
  answer_right : (place : TextPlace) (p : Piece) (ts : List Sized) → RightPiece m f n p ts → are_of types number callees tables g g.result ts ≡ true
      → (l : ℕ) → Right m f n no_label (answer_code K place p l)
  answer_right place p ts hp h l =
      let out : Labels = with_label 0 (with_label 1 no_label) in
      let c1 : List Instruction = (return_piece K p).ended no_tail body_stand l in
      let c2 : List Instruction = ends_code K place in
      let set_ = ends_set place in
      join m f n out no_label c1 c2
      (two_meet 0 c2 (with_label 1 no_label) no_label set_.0 (two_meet 1 c2 no_label no_label set_.1 (none_meet c2)))
      (return_right types ss callees m f n name g pl tables all p ts hp h out no_tail body_stand l refl refl tt) (ends_right_ place no_label)

  answer_ends : (place : TextPlace) (p : Piece) (l : ℕ) → Ends (answer_code K place p l)
  answer_ends place p l = ends_behind ((return_piece K p).ended no_tail body_stand l) (ends_code K place) refl

  -- ---- the body's value comes to the type of the result

  all_of_result : (cases : List Case)
      → cases_right types number callees tables g (is_sourced types number callees tables g (Some g.result)) cases ≡ true
      → are_of types number callees tables g g.result (gives_in cases) ≡ true
  all_of_result [] d = refl
  all_of_result (c ∷ cs) d =
      let p : Case → Bool = is_sourced types number callees tables g (Some g.result) in
      let rest : Bool = cases_right types number callees tables g p cs in
      let q = parts_of (picks_small c.picked) (tables.known c.gives && (p c && rest)) d in
      let w = parts_of (tables.known c.gives) (p c && rest) q.1 in
      let v = parts_of (p c) rest w.1 in
      both (nat_eq (number c.gives) g.result) (are_of types number callees tables g g.result (gives_in cs))
      (eq-eqb (number c.gives) g.result (sym (eqb-true g.result (number c.gives) v.0))) (all_of_result cs v.1)

  result_piece : (last : ℕ) (body : Core) → result_right types number callees tables g last (typed_ body) ≡ true
      → RightPiece m f n (result_for types ss callees tables g name last body) (gives_in (tables.cases last 1))
      × (are_of types number callees tables g g.result (gives_in (tables.cases last 1)) ≡ true)
  result_piece last body d =
      let a : Bool = cases_right types number callees tables g (is_recast types number callees tables g) (tables.cases last 1) in
      let b : Bool = cases_right types number callees tables g (is_sourced types number callees tables g (Some g.result)) (tables.cases last 1) in
      let q = parts_of (typed_ body).right (a && b) d in
      let r = parts_of a b q.1 in
      let code : Piece = piece types K number callees tables body in (
        cast_right types ss callees m f n name g pl tables all (tables.cases last 1) r.0 (tables.gives last) code (typed_ body).types
            (node_is_right types ss callees m f n name g pl tables all body q.0).1,
        all_of_result (tables.cases last 1) r.1,
      )

  pub event_right : (place : TextPlace) (measure : Option Core) (last : ℕ) (body : Core) → is_typed types ss callees tables g name measure last body ≡ true
      → Ended m f n (event_for types ss callees tables g name place last body)
  event_right place measure last body d =
      let q = parts_of (measure_right typed_ measure) (result_right types number callees tables g last (typed_ body)) d in
      let p : Piece = result_for types ss callees tables g name last body in
      let r = result_piece last body q.1 in
      record { right = answer_right place p (gives_in (tables.cases last 1)) r.0 r.1 3; last = answer_ends place p 3 }

  pub value_right : (place : TextPlace) (value : Core) → is_value types ss callees tables g name value ≡ true
      → Ended m f n (value_for types ss callees tables g name place value)
  value_right place value d =
      let q = parts_of (typed_ value).right (are_of types number callees tables g g.result (typed_ value).types) d in
      let p : Piece = piece types K number callees tables value in
      record {
        right = answer_right place p (typed_ value).types (node_is_right types ss callees m f n name g pl tables all value q.0).1 q.1 3;
        last = answer_ends place p 3;
      }

  pub direction_right : (place : TextPlace) (body : Core) → is_value types ss callees tables g name body ≡ true
      → Ended m f n (direction_for types ss callees tables g name place body)
  direction_right place body d = value_right place body d

  -- ---- names of lets

  source_is_right : (k : ℕ) (t : Sized) → same (slice_get g.lets k) (Some (number t)) ≡ true → RightPiece m f n (source_piece types K (R.Let k) t) (t ∷ [])
  source_is_right k t d out tail s l ot on ht =
      before m f n out (I.Copy (to K (Temp s.temp) (number t)) (R.Let k)) (tail.code t l)
      (copy_fits types ss callees m f n name g pl (Temp s.temp) (number t) (R.Let k) (λ u. pl.lets k (number t) (same_some (slice_get g.lets k) (number t) d))
      (λ e. refl)) tt (ht.0 l)

  name_is_right : (text : List ℕ) (u : Sized) → RightPiece m f n (name_piece types K text u) (u ∷ [])
  name_is_right text u out tail s l ot on ht =
      before m f n out (I.Copy (to K (Temp s.temp) (number u)) (from K (place_of s.scope text) (number u))) (tail.code u l)
      (slot_copy types ss callees m f n name g pl (Temp s.temp) (number u) (place_of s.scope text)) tt (ht.0 l)

  pub name_right : (gives : List Indices) (place : TextPlace) (k : ℕ) (t : Sized) (arm : Arm) (text : List ℕ) (u : Sized)
      → is_named types ss callees tables g name k t arm u ≡ true → Ended m f n (name_for types ss callees tables g name gives place k t arm text u)
  name_right gives place k t arm text u d =
      let a1 : Bool = same (slice_get g.lets k) (Some (number t)) in
      let a2 : Bool = arm_right types number callees tables g arm (t ∷ []) in
      let a3 : Bool = nat_eq (number u) g.result in
      let q = parts_of a1 (a2 && a3) d in
      let r = parts_of a2 a3 q.1 in
      let p : Piece = named_piece types K gives place k t arm text u in
      let ok : RightPiece m f n p (u ∷ []) =
      let_right types ss callees m f n name g pl tables all gives (source_piece types K (R.Let k) t) (t ∷ []) arm (name_piece types K text u) (u ∷ [])
      (MatchFailure place) refl (source_is_right k t q.0) (both a2 true r.0 refl) (name_is_right text u) in
      record { right = answer_right place p (u ∷ []) ok (both a3 true r.1 refl) 3; last = answer_ends place p 3 }

  -- ---- functions that calls enter

  called_from : (place : TextPlace) (p : Piece) (ts : List Sized) → RightPiece m f n p ts → are_of types number callees tables g g.result ts ≡ true
      → f.is_pure ≡ false → (measure : Option Core) → measure_right typed_ measure ≡ true
      → Ended m f n (called_code K place (option_map (piece types K number callees tables) measure) p)
  called_from place p ts hp h free None d =
      let c : List Instruction = answer_code K place p 3 in
      record {
        right = before m f n no_label I.Tick (c ++ []) (tick_fits m f n free) tt (append m f n no_label c [] (answer_right place p ts hp h 3) tt);
        last = ends_next I.Tick (c ++ []) (subst Ends (sym (append-nil c)) (answer_ends place p 3));
      }
  called_from place p ts hp h free (Some measure) d =
      let a : Piece = piece types K number callees tables measure in
      let l : ℕ = 3 + count_of a in
      let i2 : Instruction = I.Measure (from K (Temp 0) K.integer) in
      let c1 : List Instruction = code_of a measure_stand 3 in
      let c2 : List Instruction = answer_code K place p l in
      let c3 : List Instruction = I.Label 2 ∷ I.NoMeasure ∷ [] in
      let out : Labels = with_label 0 (with_label 2 no_label) in
      let behind : List Instruction = c2 ++ c3 in
      let m2 : List Instruction = i2 ∷ [] in
      let set0 : 1 ≤ sets 0 behind = set_before 0 c2 c3 (set_behind 0 ((return_piece K p).ended no_tail body_stand l) (ends_code K place) (ends_set place).0) in
      let set2 : 1 ≤ sets 2 behind = set_behind 2 c2 c3 (set_first 2 (I.NoMeasure ∷ [])) in
      let first : Right m f n out (c1 ++ m2) =
      append m f n out c1 m2
      (held types ss callees m f n name g pl tables all a (typed_ measure).types (node_is_right types ss callees m f n name g pl tables all measure d).1 out
      measure_stand 3 refl refl)
      (alone m f n out i2 (measure_fits types ss callees m f n name g pl (Temp 0)) tt) in
      let last_ : Right m f n no_label c3 =
      before m f n no_label (I.Label 2) (I.NoMeasure ∷ []) (label_fits m f n 2) tt (alone m f n no_label I.NoMeasure (no_measure_fits m f n) tt) in
      record {
        right = before m f n no_label I.Tick ((c1 ++ m2) ++ behind) (tick_fits m f n free) tt
            (join m f n out no_label (c1 ++ m2) behind
            (two_meet 0 behind (with_label 2 no_label) no_label set0 (two_meet 2 behind no_label no_label set2 (none_meet behind))) first
            (append m f n no_label c2 c3 (answer_right place p ts hp h l) last_));
        last = ends_next I.Tick ((c1 ++ m2) ++ behind) (ends_behind (c1 ++ m2) behind (ends_behind c2 c3 refl));
      }

  pub called_right : (place : TextPlace) (measure : Option Core) (last : ℕ) (body : Core) → is_typed types ss callees tables g name measure last body ≡ true
      → f.is_pure ≡ false → Ended m f n (called_for types ss callees tables g name place measure last body)
  called_right place measure last body d free =
      let q = parts_of (measure_right typed_ measure) (result_right types number callees tables g last (typed_ body)) d in
      let p : Piece = result_for types ss callees tables g name last body in
      let r = result_piece last body q.1 in
      called_from place p (gives_in (tables.cases last 1)) r.0 r.1 free measure q.0
