-- The code of single forms sets no labels but its own and its tail's, and none of them twice.
use Rattle.std.proofs.Common.{◌≡◌, ℕ, ◌+◌, ℤ, List, [], ◌∷◌, ◌++◌, length, map, Option, Some, None, Bool, true, false, if◌then◌else◌, cond}
use Rattle.std.proofs.Common.{sym, subst, ap, arith}
use Rattle.std.specs.Prelude.{nat_eq}
use Rattle.sail_types.specs.declared.numbers.Num.{Num}
use Rattle.std.proofs.lemmas.Bool.Decides.{nat_tests}
use Rattle.sail_base.specs.declared.place.Place.{Place as TextPlace}
use Rattle.sail_types.specs.declared.table.Types.{Types}
use Rattle.model_state.specs.declared.cause.Cause.{Cause}
use Rattle.value_indices.specs.declared.indices.Indices.{Indices, out-Indices, roll-Indices}
use Rattle.value_indices.specs.declared.indices.Indices.TheFolds.{fold-roll-Indices, ind-Indices, map-Indices}
use Rattle.value_indices.specs.declared.indices.Indices.TheOpen as W
use Rattle.value_indices.specs.declared.indices.Indices.TheOpen.{Indices-F}
use Rattle.value_indices.specs.declared.indices.Reading.{Reading, fold-Reading}
use Rattle.call_arguments.specs.Placing.{variable_in}
use Rattle.size_values.specs.declared.sized.Sized.{Sized, Sized-F, out-Sized}
use Rattle.size_values.specs.declared.sized.Sized.TheOpen as Z
use Rattle.jib.specs.declared.code.Literal.{Literal}
use Rattle.jib.specs.declared.code.Literal.TheVariants as L
use Rattle.jib.specs.declared.code.Source.{Source}
use Rattle.jib.specs.declared.code.Operation.{Operation}
use Rattle.jib.specs.declared.code.Operation.TheVariants as O
use Rattle.jib.specs.declared.code.Instruction.{Instruction}
use Rattle.jib.specs.declared.code.Instruction.TheVariants as I
use Rattle.sized_nodes.specs.declared.trees.Case.{Case}
use Rattle.sized_nodes.specs.declared.trees.Lead.{Lead}
use Rattle.lowered_pieces.specs.Places.{Temp, Kit, from, to, Local, Place}
use Rattle.lowered_pieces.specs.Moves.{kept_all, kept_as, kept_code}
use Rattle.lowered_pieces.specs.Chains.{by_case, many}
use Rattle.lowered_laws.specs.CodeLaws.{Own, inside, sets}
use Rattle.lowered_laws.proofs.Labels.{same, sets_append, inside_more, move_own, retype_own, by_case_own}
use Rattle.lowered_pieces.specs.Forms.{construct_code, construct_make, Depths, kit_at, enter_code, inner, inside_piece, Stand, Tail, Piece, Maker}
use Rattle.lowered_pieces.specs.Forms.{Noter, Order, Callees, dead, live_code, numbers_of}
use Rattle.lowered_pieces.specs.Forms.{no_tail, code_of, count_of, higher}
use Rattle.lowered_pieces.specs.Forms.{picked_in, picked_by}
use Rattle.lowered_pieces.specs.Forms.{nothing_piece, constant_piece, unit_piece, place_of, number_noted, known_noted, part_noted, parts_noted, form_noted}
use Rattle.lowered_pieces.specs.Forms.{noter_of, note_code}
use Rattle.lowered_pieces.specs.Forms.{first_type, made_arm, made_code, made_piece, local_make, source_make, cast_make, cast_piece, met_arm, met_tail}
use Rattle.lowered_pieces.specs.Forms.{var_piece, var_tail, variable_make}
use Rattle.lowered_pieces.specs.Forms.{again_make, again_code, all_code, all_labels, work_make, made_of_piece, answer_make, lead_arm}
use Rattle.lowered_pieces.specs.Forms.{call_piece}
use Rattle.lowered_pieces.specs.Forms.{throw_tail, throw_piece, return_tail, return_piece, stop_piece, jump_where, assert_piece, bound, bind_tail, bind_piece}
use Rattle.lowered_pieces.specs.Forms.{seq_piece, if_piece, meet_piece, and_piece, or_piece, when_piece, fallen_code, while_piece, repeat_piece}
use Rattle.lowered_pieces.specs.Arms.{Held}
use Rattle.lowered_pieces.specs.Arms.{values_noted, tuple_noted, arm_noted}
use Rattle.lowered_laws.specs.FormLaws.{OwnTail}
use Rattle.lowered_pieces.specs.Moves.{retype, sources}

-- ---- labels that are counted on

pub two_of : (l k : ℕ) → same l k + same (l + 1) k ≡ inside l 2 k
two_of l k = grind (arith, nat_tests)

pub three_of : (l k : ℕ) → same l k + same (l + 1) k + same (l + 2) k ≡ inside l 3 k
three_of l k = grind (arith, nat_tests)

one_is : (l k : ℕ) → same l k ≡ inside l 1 k
one_is l k = grind (arith, nat_tests)

pub more_at : (l a b m n k : ℕ) → m ≡ l + a → n ≡ a + b → inside l a k + inside m b k ≡ inside l n k
more_at l a b m n k e f =
    subst (λ x. inside l a k + inside x b k ≡ inside l n k) (sym e)
    (subst (λ y. inside l a k + inside (l + a) b k ≡ inside l y k) (sym f) (inside_more l a b k))

-- so many of its own, and those of its parts one after the other
pub own_two : (l o a b k : ℕ) → inside l o k + inside (l + o) a k + inside (l + o + a) b k ≡ inside l (o + a + b) k
own_two l o a b k =
    omega (arith, more_at l o (a + b) (l + o) (o + a + b) k (omega arith) (omega arith), more_at (l + o) a b (l + o + a) (a + b) k (omega arith) (omega arith))

pub own_three : (l o a b c k : ℕ)
    → inside l o k + inside (l + o) a k + inside (l + o + a) b k + inside (l + o + a + b) c k ≡ inside l (o + a + b + c) k
own_three l o a b c k =
    omega (
      arith,
      more_at l o (a + b + c) (l + o) (o + a + b + c) k (omega arith) (omega arith),
      more_at (l + o) a (b + c) (l + o + a) (a + b + c) k (omega arith) (omega arith),
      more_at (l + o + a) b c (l + o + a + b) (b + c) k (omega arith) (omega arith),
    )

own_four : (l o a b c d k : ℕ) → inside l o k + inside (l + o) a k + inside (l + o + a) b k + inside (l + o + a + b) c k + inside (l + o + a + b + c) d k
    ≡ inside l (o + a + b + c + d) k
own_four l o a b c d k =
    omega (
      arith,
      own_three l o a b (c + d) k,
      more_at (l + o + a + b) c d (l + o + a + b + c) (c + d) k (omega arith) (omega arith),
      same_count l (o + a + b + (c + d)) (o + a + b + c + d) k (omega arith),
    )
  where
    same_count : (l m n k : ℕ) → m ≡ n → inside l m k ≡ inside l n k
    same_count l m n k e = ap (λ x. inside l x k) e

-- the code of a piece with a tail, wherever it stands
abbrev pub Owns : Piece → Type 0
Owns p = (tail : Tail) → OwnTail tail → (s : Stand) → Own (p.ended tail s) (p.labels tail.labels)

pub none_own : OwnTail no_tail
none_own t k l = omega arith

pub held_own : (p : Piece) → Owns p → (s : Stand) → Own (code_of p s) (count_of p)
held_own p own s = own no_tail none_own s

pub nothing_owns : Owns nothing_piece
nothing_owns tail ot s k l = omega arith

pub constant_owns : (kit : Kit) (t : Sized) (literal : Literal) → Owns (constant_piece kit t literal)
constant_owns kit t literal tail ot s k l = omega (arith, ot t k l)

pub unit_owns : (kit : Kit) → Owns (unit_piece kit)
unit_owns kit = constant_owns kit kit.nothing L.Unit

-- ---- pieces that end with a tail of their own

pub throw_owns : (kit : Kit) (a : Piece) → Owns a → Owns (throw_piece kit a)
throw_owns kit a own tail ot s = own (throw_tail kit s) (λ u k l. omega arith) s

pub return_owns : (kit : Kit) (a : Piece) → Owns a → Owns (return_piece kit a)
return_owns kit a own tail ot s = own (return_tail kit s) (λ u k l. omega arith) s

pub stop_owns : (cause : Cause) (a : Piece) → Owns a → Owns (stop_piece cause a)
stop_owns cause a own tail ot s k l = omega (arith, sets_append k (code_of a s l) (I.Stop cause ∷ []), held_own a own s k l)

pub seq_owns : (a b : Piece) → Owns a → Owns b → Owns (seq_piece a b)
seq_owns a b oa ob tail ot s k l =
    omega (
      arith,
      sets_append k (code_of a s l) (b.ended tail s (l + count_of a)),
      held_own a oa s k l,
      ob tail ot s k (l + count_of a),
      inside_more l (count_of a) (b.labels tail.labels) k,
    )

pub bind_owns : (kit : Kit) (name : List ℕ) (a b : Piece) → Owns a → Owns b → Owns (bind_piece kit name a b)
bind_owns kit name a b oa ob tail ot s k l =
    omega (
      arith,
      sets_append k (a.ended (bind_tail kit s) s l) (b.ended tail (bound name s) (l + count_of a)),
      oa (bind_tail kit s) (λ u k l. omega arith) s k l,
      ob tail ot (bound name s) k (l + count_of a),
      inside_more l (count_of a) (b.labels tail.labels) k,
    )

kept_as_own : (kit : Kit) (p : Place) (u n t k : ℕ) → sets k (kept_as kit p u n t) ≡ 0
kept_as_own kit p u n t k = by (nat_eq t u)
  where
    by : (b : Bool) → sets k (cond b [] (I.Apply (to kit p u) O.Same (from kit (Temp n) t ∷ []) ∷ [])) ≡ 0
    by true = omega arith
    by false = omega arith

kept_all_own : (kit : Kit) (p : Place) (n t : ℕ) (us : List Sized) (k : ℕ) → sets k (kept_all kit p n t us) ≡ 0
kept_all_own kit p n t [] k = omega arith
kept_all_own kit p n t (u ∷ us) k =
    omega (
      arith,
      sets_append k (kept_as kit p (kit.number u) n t) (kept_all kit p n t us),
      kept_as_own kit p (kit.number u) n t k,
      kept_all_own kit p n t us k,
    )

pub kept_own : (kit : Kit) (p : Place) (n : ℕ) (us : List Sized) (t : Sized) (k : ℕ) → sets k (kept_code kit p n us t) ≡ 0
kept_own kit p n us t k = omega (arith, kept_all_own kit p n (kit.number t) us k)

pub var_owns : (kit : Kit) (us : List Sized) (name : List ℕ) (a b : Piece) → Owns a → Owns b → Owns (var_piece kit us name a b)
var_owns kit us name a b oa ob tail ot s k l =
    omega (
      arith,
      sets_append k (a.ended (var_tail kit us s) s l) (b.ended tail (bound name s) (l + count_of a)),
      oa (var_tail kit us s) (λ u k l. omega (arith, kept_own kit (Local (length s.scope)) s.temp us u k)) s k l,
      ob tail ot (bound name s) k (l + count_of a),
      inside_more l (count_of a) (b.labels tail.labels) k,
    )

-- ---- branches, turns of loops and arms

enter_own : (kit : Kit) (d : Depths) (xs : List ℕ) (k : ℕ) → sets k (enter_code kit d xs) ≡ 0
enter_own kit d [] k = omega arith
enter_own kit d (x ∷ xs) k = omega (arith, enter_own kit d xs k)

pub inside_owns : (kit : Kit) (a : Piece) → Owns a → Owns (inside_piece kit a)
inside_owns kit a own tail ot s k l =
    let c1 : List Instruction = enter_code kit s.depths a.notes in
    let c2 : List Instruction = a.ended tail (inner a.notes s) l in
    omega (
      arith,
      sets_append k c1 c2,
      enter_own kit s.depths a.notes k,
      own tail ot (inner a.notes s) k l,
    )

-- ---- forms with control

pub if_owns : (kit : Kit) (c a b : Piece) → Owns c → Owns a → Owns b → Owns (if_piece kit c a b)
if_owns kit c a b oc oa ob tail ot s k l =
    let q : ℕ = tail.labels in
    let lb : ℕ = l + 2 + count_of c in
    let la : ℕ = l + 2 + count_of c + b.labels q in
    let c1 : List Instruction = code_of c s (l + 2) in
    let c2 : List Instruction = b.ended tail s lb in
    let c3 : List Instruction = a.ended tail s la in
    let t2 : List Instruction = I.Goto (l + 1) ∷ I.Label l ∷ (c3 ++ I.Label (l + 1) ∷ []) in
    let t1 : List Instruction = jump_where kit s l ∷ (c2 ++ t2) in
    omega (
      arith,
      sets_append k c1 t1,
      sets_append k c2 t2,
      sets_append k c3 (I.Label (l + 1) ∷ []),
      held_own c oc s k (l + 2),
      oa tail ot s k la,
      ob tail ot s k lb,
      two_of l k,
      own_three l 2 (count_of c) (b.labels q) (a.labels q) k,
    )

pub and_owns : (kit : Kit) (a b : Piece) → Owns a → Owns b → Owns (and_piece kit a b)
and_owns kit a b oa ob tail ot s k l =
    let q : ℕ = tail.labels in
    let lt : ℕ = l + 2 + count_of a + count_of b in
    let c1 : List Instruction = code_of a s (l + 2) in
    let c2 : List Instruction = code_of b s (l + 2 + count_of a) in
    let t2 : List Instruction = I.Label (l + 1) ∷ tail.code kit.truths lt in
    let t1 : List Instruction = jump_where kit s l ∷ I.Goto (l + 1) ∷ I.Label l ∷ (c2 ++ t2) in
    omega (
      arith,
      sets_append k c1 t1,
      sets_append k c2 t2,
      held_own a oa s k (l + 2),
      held_own b ob s k (l + 2 + count_of a),
      ot kit.truths k lt,
      two_of l k,
      own_three l 2 (count_of a) (count_of b) q k,
    )

pub or_owns : (kit : Kit) (a b : Piece) → Owns a → Owns b → Owns (or_piece kit a b)
or_owns kit a b oa ob tail ot s k l =
    let q : ℕ = tail.labels in
    let lt : ℕ = l + 1 + count_of a + count_of b in
    let c1 : List Instruction = code_of a s (l + 1) in
    let c2 : List Instruction = code_of b s (l + 1 + count_of a) in
    let t2 : List Instruction = I.Label l ∷ tail.code kit.truths lt in
    let t1 : List Instruction = jump_where kit s l ∷ (c2 ++ t2) in
    omega (
      arith,
      sets_append k c1 t1,
      sets_append k c2 t2,
      held_own a oa s k (l + 1),
      held_own b ob s k (l + 1 + count_of a),
      ot kit.truths k lt,
      one_is l k,
      own_three l 1 (count_of a) (count_of b) q k,
    )

pub when_owns : (kit : Kit) (a b : Piece) → Owns a → Owns b → Owns (when_piece kit a b)
when_owns kit a b oa ob tail ot s k l =
    let c1 : List Instruction = code_of a s (l + 1) in
    let c2 : List Instruction = b.ended tail s (l + 1 + count_of a) in
    let t1 : List Instruction = jump_where kit s l ∷ I.Goto s.on_no ∷ I.Label l ∷ c2 in
    omega (
      arith,
      sets_append k c1 t1,
      held_own a oa s k (l + 1),
      ob tail ot s k (l + 1 + count_of a),
      one_is l k,
      own_two l 1 (count_of a) (b.labels tail.labels) k,
    )

pub assert_owns : (kit : Kit) (cause : Cause) (a : Piece) → Owns a → Owns (assert_piece kit cause a)
assert_owns kit cause a oa tail ot s k l =
    let q : ℕ = tail.labels in
    let lt : ℕ = l + 1 + count_of a in
    let c1 : List Instruction = code_of a s (l + 1) in
    let c2 : List Instruction = (unit_piece kit).ended tail s lt in
    let t1 : List Instruction = jump_where kit s l ∷ I.Stop cause ∷ I.Label l ∷ c2 in
    omega (
      arith,
      sets_append k c1 t1,
      held_own a oa s k (l + 1),
      unit_owns kit tail ot s k lt,
      one_is l k,
      own_two l 1 (count_of a) q k,
    )

fallen_own : (kit : Kit) (place : TextPlace) (n l k : ℕ) → sets k (fallen_code kit place n l) ≡ same l k
fallen_own kit place n l k = omega arith

pub while_owns : (kit : Kit) (place : TextPlace) (m c b : Piece) → Owns m → Owns c → Owns b → Owns (while_piece kit place m c b)
while_owns kit place m c b om oc ob tail ot s k l =
    let q : ℕ = tail.labels in
    let lb : ℕ = l + 3 + count_of m in
    let lc : ℕ = l + 3 + count_of m + count_of b in
    let lt : ℕ = l + 3 + count_of m + count_of b + count_of c in
    let cm : List Instruction = code_of m (higher s) (l + 3) in
    let cf : List Instruction = fallen_code kit place s.temp (l + 2) in
    let cb : List Instruction = code_of b (higher s) lb in
    let cc_ : List Instruction = code_of c (higher s) lc in
    let c5 : List Instruction = (unit_piece kit).ended tail s lt in
    let t4 : List Instruction = jump_where kit (higher s) l ∷ c5 in
    let t3 : List Instruction = I.Label (l + 1) ∷ (cc_ ++ t4) in
    omega (
      arith,
      sets_append k cm (cf ++ (cb ++ t3)),
      sets_append k cf (cb ++ t3),
      sets_append k cb t3,
      sets_append k cc_ t4,
      fallen_own kit place s.temp (l + 2) k,
      unit_owns kit tail ot s k lt,
      held_own m om (higher s) k (l + 3),
      held_own c oc (higher s) k lc,
      held_own b ob (higher s) k lb,
      three_of l k,
      own_four l 3 (count_of m) (count_of b) (count_of c) q k,
    )

pub repeat_owns : (kit : Kit) (place : TextPlace) (m b c : Piece) → Owns m → Owns b → Owns c → Owns (repeat_piece kit place m b c)
repeat_owns kit place m b c om ob oc tail ot s k l =
    let q : ℕ = tail.labels in
    let lb : ℕ = l + 3 + count_of m in
    let lc : ℕ = l + 3 + count_of m + count_of b in
    let lt : ℕ = l + 3 + count_of m + count_of b + count_of c in
    let cm : List Instruction = code_of m (higher s) (l + 3) in
    let cf : List Instruction = fallen_code kit place s.temp (l + 1) in
    let cb : List Instruction = code_of b (higher s) lb in
    let cc_ : List Instruction = code_of c (higher s) lc in
    let c5 : List Instruction = (unit_piece kit).ended tail s lt in
    let t4 : List Instruction = jump_where kit (higher s) (l + 2) ∷ I.Goto l ∷ I.Label (l + 2) ∷ c5 in
    omega (
      arith,
      sets_append k cm (cf ++ (cb ++ (cc_ ++ t4))),
      sets_append k cf (cb ++ (cc_ ++ t4)),
      sets_append k cb (cc_ ++ t4),
      sets_append k cc_ t4,
      fallen_own kit place s.temp (l + 1) k,
      unit_owns kit tail ot s k lt,
      held_own m om (higher s) k (l + 3),
      held_own b ob (higher s) k lb,
      held_own c oc (higher s) k lc,
      three_of l k,
      own_four l 3 (count_of m) (count_of b) (count_of c) q k,
    )

module _ (kit : Kit) (number : Sized → ℕ) where
  -- ---- what is noted has no labels

  abbrev Bare : Noter kit number → Type 0
  Bare f = (a : Source) (s : Sized) (p k : ℕ) → sets k (f a s p) ≡ 0

  Notes : Indices → Type 0
  Notes i = Bare (noter_of kit number i)

  abbrev SuchI : Type 0
  SuchI = (i : Indices) × Notes i

  abbrev SuchR : Type 0
  SuchR = (r : Reading) × Unit {0}

  abbrev indices_of : Indices-F SuchI SuchR → Indices-F Indices Reading
  indices_of y = map-Indices SuchI SuchR Indices Reading (λ p. p.0) (λ p. p.0) y

  abbrev noters : List SuchI → List (Noter kit number)
  noters ys = map (noter_of kit number) (map (λ p. p.0) ys)

  number_bare : (o : Option ℕ) (y : Sized-F Sized) (a : Source) (k : ℕ) → sets k (number_noted kit number o y a) ≡ 0
  number_bare None y a k = omega arith
  number_bare (Some x) Z.Int a k = omega arith
  number_bare (Some x) y a k = omega arith

  known_bare : (o : Option ℕ) (n : ℤ) (k : ℕ) → sets k (known_noted kit number o n) ≡ 0
  known_bare None n k = omega arith
  known_bare (Some x) n k = omega arith

  bits_bare : (t : Num) (y : Sized-F Sized) (a : Source) (p k : ℕ) → sets k (form_noted kit number (W.Bits t) y a p) ≡ 0
  bits_bare t (Z.Bits n) a p k = known_bare (variable_in t) n k
  bits_bare t y a p k = omega arith

  vector_bare : (t : Num) (f : Noter kit number) (y : Sized-F Sized) (a : Source) (p k : ℕ) → sets k (form_noted kit number (W.Vector t f) y a p) ≡ 0
  vector_bare t f (Z.Vector n s) a p k = known_bare (variable_in t) n k
  vector_bare t f y a p k = omega arith

  part_bare : (take : Instruction) (c : List Instruction) (k : ℕ) → sets k (take ∷ []) ≡ 0 → sets k c ≡ 0 → sets k (part_noted kit number take c) ≡ 0
  part_bare take [] k t e = omega arith
  part_bare take (i ∷ is) k t e = omega (arith, t, e)

  parts_bare : (ys : List SuchI) (ss : List Sized) (j : ℕ) (a : Source) (p k : ℕ) → sets k (parts_noted kit number (noters ys) ss j a p) ≡ 0
  unfolding Notes
  parts_bare [] ss j a p k = omega arith
  parts_bare (y ∷ ys) [] j a p k = omega arith
  parts_bare (y ∷ ys) (s ∷ ss) j a p k =
      let take : Instruction = take_part p s j a in
      let c : List Instruction = noter_of kit number y.0 (from kit (Temp p) (number s)) s (p + 1) in
      let c1 : List Instruction = part_noted kit number take c in
      let c2 : List Instruction = parts_noted kit number (noters ys) ss (j + 1) a p in
      omega (
        arith,
        sets_append k c1 c2,
        part_bare take c k (omega arith) (y.1 (from kit (Temp p) (number s)) s (p + 1) k),
        parts_bare ys ss (j + 1) a p k,
      )
    where
      take_part : ℕ → Sized → ℕ → Source → Instruction
      take_part p s j a = I.Apply (to kit (Temp p) (number s)) (O.Field j) (a ∷ [])

  abbrev types_noter : Reading → Noter kit number
  types_noter = fold-Reading (Noter kit number) (Noter kit number) (λ i a s p. form_noted kit number i (out-Sized s) a p) (λ r a s p. [])

  abbrev noter_in : Indices-F Indices Reading → Noter kit number
  noter_in x a s p =
      form_noted kit number (map-Indices Indices Reading (Noter kit number) (Noter kit number) (noter_of kit number) types_noter x) (out-Sized s) a p

  tuple_bare : (ys : List SuchI) (y : Sized-F Sized) (a : Source) (p k : ℕ) → sets k (form_noted kit number (W.Tuple (noters ys)) y a p) ≡ 0
  tuple_bare ys (Z.Tuple ss) a p k = parts_bare ys ss 0 a p k
  tuple_bare ys y a p k = omega arith

  formed : (y : Indices-F SuchI SuchR) → Bare (noter_in (indices_of y))
  formed (W.Integer t) a s p k = number_bare (variable_in t) (out-Sized s) a k
  formed (W.Bits t) a s p k = bits_bare t (out-Sized s) a p k
  formed (W.Vector t y) a s p k = vector_bare t (types_noter y.0) (out-Sized s) a p k
  formed (W.Tuple ys) a s p k = tuple_bare ys (out-Sized s) a p k
  formed y a s p k = omega arith

  rolled : (y : Indices-F SuchI SuchR) → Notes (roll-Indices (indices_of y))
  unfolding Notes
  rolled y =
      let M : Type 0 = Noter kit number in
      subst Bare (sym (fold-roll-Indices M M (λ i a s p. form_noted kit number i (out-Sized s) a p) (λ r a s p. []) (indices_of y))) (formed y)

  all_bare : (i : Indices) → Notes i
  all_bare = ind-Indices Notes (λ r. Unit {0}) (λ e y is_. subst (λ d. Notes (roll-Indices d)) is_ (rolled y)) (λ e y is_. tt)

  pub note_own : (n : ℕ) (is : List Indices) (s : Sized) (k : ℕ) → sets k (note_code kit number n is s) ≡ 0
  unfolding Notes
  note_own n [] s k = omega arith
  note_own n (i ∷ is) s k =
      omega (
        arith,
        sets_append k (noter_of kit number i (from kit (Temp n) (number s)) s (n + 1)) (note_code kit number n is s),
        all_bare i (from kit (Temp n) (number s)) s (n + 1) k,
        note_own n is s k,
      )

  noter_bare : (i : Indices) (a : Source) (s : Sized) (p k : ℕ) → sets k (noter_of kit number i a s p) ≡ 0
  unfolding Notes
  noter_bare i a s p k = all_bare i a s p k

module _ (kit : Kit) where
  values_bare : (is : List Indices) (hs : List Held) (p k : ℕ) → sets k (values_noted kit is hs p) ≡ 0
  values_bare [] hs p k = omega arith
  values_bare (i ∷ is) [] p k = omega arith
  values_bare (i ∷ is) (h ∷ hs) p k =
      omega (
        arith,
        sets_append k (noter_of kit kit.number i (from kit h.place (kit.number h.typ)) h.typ p) (values_noted kit is hs p),
        noter_bare kit kit.number i (from kit h.place (kit.number h.typ)) h.typ p k,
        values_bare is hs p k,
      )

  tuple_noted_bare : (o : Indices-F Indices Reading) (hs : List Held) (p k : ℕ) → sets k (tuple_noted kit o hs p) ≡ 0
  tuple_noted_bare (W.Tuple is) hs p k = values_bare is hs p k
  tuple_noted_bare o hs p k = omega arith

  pub arm_noted_bare : (is : List Indices) (hs : List Held) (p k : ℕ) → sets k (arm_noted kit is hs p) ≡ 0
  arm_noted_bare [] hs p k = omega arith
  arm_noted_bare (i ∷ is) hs p k =
      omega (
        arith,
        sets_append k (tuple_noted kit (out-Indices i) hs p) (arm_noted kit is hs p),
        tuple_noted_bare (out-Indices i) hs p k,
        arm_noted_bare is hs p k,
      )

module _ (kit : Kit) (number : Sized → ℕ) where
  -- ---- values by the cases of their nodes

  pub live_bare : (ts : List Sized) (code : List Instruction) (k : ℕ) → sets k code ≡ 0 → sets k (live_code ts code) ≡ 0
  live_bare ts code k bare = by (dead ts)
    where
      by : (b : Bool) → sets k (if b then [] else code) ≡ 0
      by true = omega arith
      by false = bare

  abbrev pub Plain : Maker kit number → Type 0
  Plain make = (s : Stand) (c : Case) (k : ℕ) → sets k (make s c) ≡ 0

  arm_own : (make : Maker kit number) → Plain make → (gives : List Indices) (tail : Tail) → OwnTail tail → (s : Stand) (c : Case)
      → Own (made_arm kit number make gives tail s c) tail.labels
  arm_own make plain gives tail ot s c k l =
      let r1 : List Instruction = make s c in
      let r2 : List Instruction = note_code (kit_at kit s.depths) number s.temp gives c.gives in
      let r3 : List Instruction = tail.code c.gives l in
      omega (
        arith,
        sets_append k r1 (r2 ++ r3),
        sets_append k r2 r3,
        plain s c k,
        note_own (kit_at kit s.depths) number s.temp gives c.gives k,
        ot c.gives k l,
      )

  pub made_own : (n : ℕ) (make : Maker kit number) → Plain make → (cases : List Case) (gives : List Indices) (tail : Tail) → OwnTail tail → (s : Stand)
      → Own (made_code kit number n make cases gives tail s) (many tail.labels cases)
  made_own n make plain cases gives tail ot s =
      by_case_own picked_in (kit_at kit s.depths) (s.temp + n) tail.labels (made_arm kit number make gives tail s) (arm_own make plain gives tail ot s) cases

  pub made_owns : (make : Maker kit number) → Plain make → (cases : List Case) (gives : List Indices) → Owns (made_piece kit number make cases gives)
  made_owns make plain cases gives tail ot s = made_own 0 make plain cases gives tail ot s

  pub local_plain : (name : List ℕ) → Plain (local_make kit number name)
  local_plain name s c k =
      omega (arith, move_own kit (Temp s.temp) (number c.gives) (place_of s.scope name) (first_type kit number c.takes) k)

  pub variable_plain : (name : List ℕ) → Plain (variable_make kit number name)
  variable_plain name s c k = omega arith

  pub source_plain : (a : Source) → Plain (source_make kit number a)
  source_plain a s c k = omega arith

  pub cast_plain : Plain (cast_make kit number)
  cast_plain s c k =
      live_bare c.takes (retype kit s.temp (first_type kit number c.takes) (number c.gives)) k
      (retype_own kit s.temp (first_type kit number c.takes) (number c.gives) k)

  pub work_plain : (op : Operation) (order : Order) → Plain (work_make kit number op order)
  work_plain op order s c k =
      let i : Instruction = I.Apply (to kit (Temp s.temp) (number c.gives)) op (order (sources kit s.temp (numbers_of kit number c.takes))) in
      let bare : sets k (i ∷ []) ≡ 0 = omega arith in
      live_bare c.takes (i ∷ []) k bare

  construct_own : (types : Types) (u c n : ℕ) (ts : List Sized) (s : Sized) (k : ℕ) → sets k (construct_code kit number types u c n ts s) ≡ 0
  construct_own types u c n [] s k = omega arith
  construct_own types u c n (t ∷ []) s k = omega arith
  construct_own types u c n (t ∷ r ∷ ts) s k = omega arith

  pub construct_plain : (types : Types) (u c : ℕ) → Plain (construct_make kit number types u c)
  construct_plain types u c s a k =
      live_bare a.takes (construct_code kit number types u c s.temp a.takes a.gives) k (construct_own types u c s.temp a.takes a.gives k)

  answer_plain : (t : ℕ) → Plain (answer_make kit number t)
  answer_plain t s c k = retype_own kit s.temp t (number c.gives) k

  pub cast_owns : (cases : List Case) (gives : List Indices) (a : Piece) → Owns a → Owns (cast_piece kit number cases gives a)
  cast_owns cases gives a own tail ot s k l =
      let m : ℕ = count_of a in
      let c1 : List Instruction = code_of a s l in
      let c2 : List Instruction = made_code kit number 1 (cast_make kit number) cases gives tail s (l + m) in
      omega (
        arith,
        sets_append k c1 c2,
        held_own a own s k l,
        made_own 1 (cast_make kit number) cast_plain cases gives tail ot s k (l + m),
        inside_more l m (many tail.labels cases) k,
      )

  met_own : (cases : List Case) (s : Stand) → OwnTail (met_tail kit number cases s)
  met_own cases s u =
      by_case_own picked_in (kit_at kit s.depths) (s.temp + 1) 0 (met_arm kit number u s)
      (λ c k l.
      omega (arith, live_bare (u ∷ []) (retype kit s.temp (number u) (number c.gives)) k (retype_own kit s.temp (number u) (number c.gives) k))) cases

  again_plain : Plain (again_make kit number)
  again_plain s c k = omega arith

  pub meet_owns : (cases : List Case) (gives : List Indices) (a : Piece) → Owns a → Owns (meet_piece kit number cases gives a)
  meet_owns cases gives a own tail ot s k l =
      let m : ℕ = a.labels (many 0 cases) in
      let c1 : List Instruction = a.ended (met_tail kit number cases s) s l in
      let c2 : List Instruction = again_code kit number cases gives tail s (l + m) in
      omega (
        arith,
        sets_append k c1 c2,
        own (met_tail kit number cases s) (met_own cases s) s k l,
        made_own 1 (again_make kit number) again_plain cases gives tail ot s k (l + m),
        inside_more l m (many tail.labels cases) k,
      )

  -- ---- operands, and calls

  abbrev pub OwnsAll : List Piece → Type 0
  OwnsAll [] = Unit {0}
  OwnsAll (p ∷ ps) = Owns p × OwnsAll ps

  pub all_own : (ps : List Piece) → OwnsAll ps → (s : Stand) → Own (all_code kit number ps s) (all_labels kit number ps)
  all_own [] h s k l = omega arith
  all_own (p ∷ ps) h s k l =
      omega (
        arith,
        sets_append k (code_of p s l) (all_code kit number ps (higher s) (l + count_of p)),
        held_own p h.0 s k l,
        all_own ps h.1 (higher s) k (l + count_of p),
        inside_more l (count_of p) (all_labels kit number ps) k,
      )

  pub made_of_owns : (make : Maker kit number) → Plain make → (cases : List Case) (gives : List Indices) (ps : List Piece) → OwnsAll ps
      → Owns (made_of_piece kit number make cases gives ps)
  made_of_owns make plain cases gives ps h tail ot s k l =
      let m : ℕ = all_labels kit number ps in
      let c1 : List Instruction = all_code kit number ps s l in
      let c2 : List Instruction = made_code kit number (length ps) make cases gives tail s (l + m) in
      omega (
        arith,
        sets_append k c1 c2,
        all_own ps h s k l,
        made_own (length ps) make plain cases gives tail ot s k (l + m),
        inside_more l m (many tail.labels cases) k,
      )

  pub call_owns : (callees : Callees) (place : TextPlace) (cases : List Case) (leads : List Lead) (gives : List Indices) (ps : List Piece) → OwnsAll ps
      → Owns (call_piece kit number callees place cases leads gives ps)
  call_owns callees place cases leads gives ps h tail ot s k l =
      let n : ℕ = many tail.labels cases in
      let m : ℕ = all_labels kit number ps in
      let arm : Lead → ℕ → List Instruction = lead_arm kit number callees place cases gives tail s in
      let own : (a : Lead) → Own (arm a) n = λ a j i.
      let t : ℕ = number (callees.answer a.instance) in
      omega (arith, made_own 1 (answer_make kit number t) (answer_plain t) cases gives tail ot s j i) in
      let c1 : List Instruction = all_code kit number ps s l in
      let c2 : List Instruction = by_case picked_by (kit_at kit s.depths) (s.temp + length ps) n arm (l + m) leads in
      omega (
        arith,
        sets_append k c1 c2,
        all_own ps h s k l,
        by_case_own picked_by (kit_at kit s.depths) (s.temp + length ps) n arm own leads k (l + m),
        inside_more l m (many n leads) k,
      )
