-- The code of loops over numbers, of directions of mappings and of structs with other fields sets no labels but its own and its tail's, none of them twice.
use Rattle.std.proofs.Common.{◌≡◌, ℕ, suc, ◌+◌, List, [], ◌∷◌, ◌++◌, length, Option, Some, None, arith}
use Rattle.sail_base.specs.declared.place.Place.{Place as TextPlace}
use Rattle.model_state.specs.declared.cause.Cause.TheVariants.{MatchFailure}
use Rattle.sail_types.specs.declared.table.Types.{Types}
use Rattle.sail_core.specs.declared.tree.Counting.{Counting}
use Rattle.value_indices.specs.declared.indices.Indices.{Indices}
use Rattle.size_values.specs.declared.sized.Sized.{Sized, out-Sized}
use Rattle.sized_nodes.specs.declared.trees.Case.{Case}
use Rattle.jib.specs.declared.code.Source.{Source}
use Rattle.jib.specs.declared.code.Operation.TheVariants as O
use Rattle.jib.specs.declared.code.Instruction.{Instruction}
use Rattle.jib.specs.declared.code.Instruction.TheVariants as I
use Rattle.lowered_pieces.specs.Places.{Local, Temp, Kit, from, to}
use Rattle.lowered_pieces.specs.Chains.{many}
use Rattle.lowered_pieces.specs.Moves.{retype}
use Rattle.lowered_pieces.specs.Counted.{bounds_code, bounds_labels, foreach_piece, next_code, turn_code, turn_stand}
use Rattle.lowered_pieces.specs.Fields.{field_types_of, fields_out, with_code, with_make, with_sources}
use Rattle.lowered_pieces.specs.Gathered.{only_end}
use Rattle.lowered_pieces.specs.Places.{Mapped}
use Rattle.lowered_pieces.specs.Mapped.{applied_piece, direction_call, none_piece, operand_moved, some_piece, some_tail}
use Rattle.lowered_pieces.specs.Forms.{Piece, Stand, Tail, answer_make, code_of, count_of, higher, made_code, unit_piece}
use Rattle.lowered_laws.specs.CodeLaws.{Own, sets}
use Rattle.lowered_laws.proofs.Labels.{retype_own, sets_append}
use Rattle.lowered_laws.specs.FormLaws.{OwnTail}
use Rattle.lowered_laws.proofs.OwnForms.{Owns, Plain, held_own, made_own, own_three, own_two, three_of, two_of, unit_owns, live_bare}

-- ---- structs with other fields

module _ (kit : Kit) (number : Sized → ℕ) (types : Types) where
  out_bare : (a : Source) (j p : ℕ) (ts : List Sized) (k : ℕ) → sets k (fields_out kit number types a j p ts) ≡ 0
  out_bare a j p [] k = omega arith
  out_bare a j p (t ∷ ts) k = omega (arith, out_bare a (suc j) (p + 1) ts k)

  pub with_plain : (is : List ℕ) → Plain kit number (with_make kit number types is)
  with_plain is s c k =
      live_bare kit number c.takes (with_code kit number types is s.temp c.takes c.gives) k (by c.takes)
    where
      by : (ts : List Sized) → sets k (with_code kit number types is s.temp ts c.gives) ≡ 0
      by [] = omega arith
      by (t ∷ ts) =
          let a : Source = from kit (Temp s.temp) (number t) in
          let p : ℕ = s.temp + 1 + length ts in
          let c1 : List Instruction = fields_out kit number types a 0 p (field_types_of types (out-Sized t)) in
          let c2 : List Instruction =
          I.Apply (to kit (Temp s.temp) (number c.gives)) O.Build (with_sources kit number types is s.temp ts (field_types_of types (out-Sized t))) ∷ [] in
          omega (arith, sets_append k c1 c2, out_bare a 0 p (field_types_of types (out-Sized t)) k)

-- ---- loops over numbers

module _ (kit : Kit) where
  bounds_own : (a b c : Piece) → Owns a → Owns b → Owns c → (s : Stand) → Own (bounds_code kit a b c s) (bounds_labels kit a b c)
  bounds_own a b c oa ob oc s k l =
      let lb : ℕ = l + count_of a in
      let lc : ℕ = l + count_of a + count_of b in
      let c1 : List Instruction = code_of a s l in
      let c2 : List Instruction = code_of b (higher s) lb in
      let c3 : List Instruction = code_of c (higher (higher s)) lc in
      omega (
        arith,
        sets_append k c1 (c2 ++ c3),
        sets_append k c2 c3,
        held_own a oa s k l,
        held_own b ob (higher s) k lb,
        held_own c oc (higher (higher s)) k lc,
        own_two l (count_of a) (count_of b) (count_of c) k,
      )

  next_bare : (way : Counting) (n e k : ℕ) → sets k (next_code kit way n e) ≡ 0
  next_bare way n e k = omega arith

  turn_bare : (way : Counting) (n l k : ℕ) → sets k (turn_code kit way n l) ≡ 0
  turn_bare way n l k = omega arith

  pub foreach_owns : (name : List ℕ) (way : Counting) (a b c body : Piece) → Owns a → Owns b → Owns c → Owns body
      → Owns (foreach_piece kit name way a b c body)
  foreach_owns name way a b c body oa ob oc o tail ot s k l =
      let n : ℕ = bounds_labels kit a b c in
      let m : ℕ = count_of body in
      let q : ℕ = tail.labels in
      let c1 : List Instruction = bounds_code kit a b c s (l + 3) in
      let c2 : List Instruction = code_of body (turn_stand kit name s) (l + 3 + n) in
      let c3 : List Instruction = next_code kit way s.temp (l + 2) in
      let c4 : List Instruction = turn_code kit way s.temp l in
      let c5 : List Instruction = (unit_piece kit).ended tail s (l + 3 + n + m) in
      let t4 : List Instruction = I.Label (l + 2) ∷ c5 in
      let t3 : List Instruction = I.Label (l + 1) ∷ (c4 ++ t4) in
      let t2 : List Instruction = c2 ++ (c3 ++ t3) in
      let t1 : List Instruction =
      I.Goto (l + 1) ∷ I.Label l ∷ I.Tick ∷ I.Copy (to kit (Local (length s.scope)) kit.integer) (from kit (Temp s.temp) kit.integer) ∷ t2 in
      omega (
        arith,
        sets_append k c1 t1,
        sets_append k c2 (c3 ++ t3),
        sets_append k c3 t3,
        sets_append k c4 t4,
        bounds_own a b c oa ob oc s k (l + 3),
        held_own body o (turn_stand kit name s) k (l + 3 + n),
        next_bare way s.temp (l + 2) k,
        turn_bare way s.temp l k,
        unit_owns kit tail ot s k (l + 3 + n + m),
        three_of l k,
        own_three l 3 n m q k,
      )

  -- ---- directions

  moved_bare : (n : ℕ) (o : Option Sized) (t : Sized) (k : ℕ) → sets k (operand_moved kit n o t) ≡ 0
  moved_bare n None t k = omega arith
  moved_bare n (Some u) t k = retype_own kit n (kit.number u) (kit.number t) k

  answer_plain : (t : ℕ) → Plain kit kit.number (answer_make kit kit.number t)
  answer_plain t s c k = retype_own kit s.temp t (kit.number c.gives) k

  pub applied_owns : (place : TextPlace) (m : Mapped) (cases : List Case) (gives : List Indices) (a : Piece) → Owns a
      → Owns (applied_piece kit place m cases gives a)
  applied_owns place m cases gives a own tail ot s k l =
      let n : ℕ = count_of a in
      let c1 : List Instruction = code_of a s (l + 2) in
      let c2 : List Instruction = operand_moved kit s.temp (only_end a.ends) m.takes in
      let c5 : List Instruction =
      made_code kit kit.number 1 (answer_make kit kit.number (kit.number m.payload)) cases gives tail s (l + 2 + n) in
      let t3 : List Instruction =
      I.Tick ∷ direction_call kit place m s ∷ I.Payload (kit.name (Temp s.temp) (kit.number m.payload)) (from kit (Temp s.temp) (kit.number m.gives)) 0 l
      ∷ I.Goto (l + 1) ∷ I.Label l ∷ I.Stop (MatchFailure place) ∷ I.Label (l + 1) ∷ c5 in
      omega (
        arith,
        sets_append k c1 (c2 ++ t3),
        sets_append k c2 t3,
        held_own a own s k (l + 2),
        moved_bare s.temp (only_end a.ends) m.takes k,
        made_own kit kit.number 1 (answer_make kit kit.number (kit.number m.payload)) (answer_plain (kit.number m.payload)) cases gives tail ot s k (l + 2 + n),
        two_of l k,
        own_two l 2 n (many tail.labels cases) k,
      )

  some_own : (option payload : Sized) (tail : Tail) → OwnTail tail → (s : Stand) → OwnTail (some_tail kit option payload tail s)
  some_own option payload tail ot s t k l =
      let c1 : List Instruction =
      I.Apply (to kit (Temp s.temp) (kit.number option)) (O.Construct 0) (from kit (Temp s.temp) (kit.number payload) ∷ []) ∷ tail.code option l in
      omega (
        arith,
        sets_append k (retype kit s.temp (kit.number t) (kit.number payload)) c1,
        retype_own kit s.temp (kit.number t) (kit.number payload) k,
        ot option k l,
      )

  pub some_owns : (option payload : Sized) (a : Piece) → Owns a → Owns (some_piece kit option payload a)
  some_owns option payload a own tail ot s = own (some_tail kit option payload tail s) (some_own option payload tail ot s) s

  pub none_owns : (option : Sized) → Owns (none_piece kit option)
  none_owns option tail ot s k l = omega (arith, ot option k l)
