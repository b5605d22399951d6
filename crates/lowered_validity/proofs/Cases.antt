-- Code that is chosen by noted numbers, and values by the cases of their nodes.
use Rattle.std.proofs.Common.{◌≡◌, inr, ℕ, ◌+◌, ◌&&◌, true, List, [], ◌∷◌, ◌++◌, Option, Some, None}
use Rattle.std.proofs.Common.{refl, ap, ◌∙◌}
use Rattle.std.specs.Prelude.{cond, ℤ, slice_get}
use Rattle.sail_types.specs.Limits.{is_small}
use Rattle.sail_types.specs.declared.rows.Row.TheVariants as B
use Rattle.sail_types.specs.declared.table.Types.{Types}
use Rattle.size_values.specs.declared.constants.Picked.{Picked}
use Rattle.size_values.specs.declared.sized.Sized.{Sized}
use Rattle.jib.specs.declared.types.Sort.TheVariants as Q
use Rattle.jib.specs.declared.code.Literal.TheVariants as L
use Rattle.jib.specs.declared.code.Source.TheVariants as R
use Rattle.jib.specs.declared.code.Operation.TheVariants as O
use Rattle.jib.specs.declared.code.Instruction.{Instruction}
use Rattle.jib.specs.declared.code.Instruction.TheVariants as I
use Rattle.jib.specs.declared.code.Function.{Function}
use Rattle.jib.specs.declared.code.Module.{Module}
use Rattle.jib.specs.Operands.{compared, has_sort, some_comparable}
use Rattle.jib.specs.Typing.{is_some_sort, is_sort, sort_at, literal_some, literal_typ, sort_some}
use Rattle.lowered_types.specs.Table.{type_in}
use Rattle.lowered_pieces.specs.Places.{Number, Temp, Naming, Kit, from, to}
use Rattle.lowered_pieces.specs.Chains.{by_case, chain, tests}
use Rattle.lowered_pieces.specs.Forms.{Callees, Depths, kit_at}
use Rattle.lowered_pieces.specs.Lowering.{kit_of}
use Rattle.lowered_validity.specs.Right.{Fits, Labels, Placed, Right, Signs}
use Rattle.lowered_validity.specs.Typing.{picks_small, shell}
use Rattle.lowered_validity.proofs.Flow.{alone, append, before, join, more, set_behind, set_first, set_next}
use Rattle.lowered_validity.proofs.Labels.{goto_fits, label_fits, label_meets, label_more, label_there, with_label}
use Rattle.lowered_validity.proofs.Fitting.{both, Liked, like_constant, like_slot, liked_fits, parts_of, truth_fits}

module _ (types : Types) (ss : List Sized) (callees : Callees) (m : Module) (f : Function) (n : ℕ) (name : Naming) (g : Signs)
    (pl : Placed types ss (type_in ss) callees m f n name g) where
  abbrev K : Kit
  K = kit_of types name (type_in ss) g.exception callees.size callees.direction

  abbrev Ok : Labels → List Instruction → Type 0
  Ok out c = Right m f n out c

  abbrev Fit : Instruction → Type 0
  Fit i = Fits m f n i

  small_literal : (z : ℤ) → is_small z ≡ true → literal_some (slice_get g.table K.integer) (L.Integer z) ≡ true
  small_literal z h = ap (λ o. literal_some o (L.Integer z)) pl.basic.integer ∙ h

  -- ---- tests

  int_sort : (o : Option ℕ) → o ≡ Some K.integer → sort_at (shell g) o ≡ Some Q.Integer
  int_sort o e = ap (sort_at (shell g)) e ∙ ap sort_some pl.basic.integer

  compared_ints : (a b : Option ℕ) → a ≡ Some K.integer → b ≡ Some K.integer → compared (shell g) a b ≡ true
  compared_ints a b e h =
      (λ j. some_comparable (int_sort a e j) && has_sort (shell g) b (int_sort a e j)) ∙ ap (λ o. is_some_sort o Q.Integer) (int_sort b h)

  -- both are integers, and the result is a truth
  test_fits : (d : Depths) (p : ℕ) (x : Picked) → is_small x.number ≡ true
      → Fit (I.Apply (to (kit_at K d) (Temp p) K.truth) (O.Builtin B.Neq)
      (from (kit_at K d) (Number x.variable (d.of x.variable)) K.integer ∷ R.Constant K.integer (L.Integer x.number) ∷ []))
  test_fits d p x h =
      let us : List ℕ = K.integer ∷ [] in
      let a : Liked types ss callees m f n name g pl us =
      like_slot types ss callees m f n name g pl us (Number x.variable (d.of x.variable)) K.integer 0 refl in
      let b : Liked types ss callees m f n name g pl us =
      like_constant types ss callees m f n name g pl us K.integer (L.Integer x.number) (small_literal x.number h) in
      let second : literal_typ (shell g) K.integer (L.Integer x.number) ≡ Some K.integer =
      ap (λ c. cond c (Some K.integer) None) (small_literal x.number h) in
      liked_fits types ss callees m f n name g pl (Temp p) K.truth (O.Builtin B.Neq) us (a ∷ b ∷ []) (λ e. refl)
      (both (compared (shell g) (Some K.integer) (literal_typ (shell g) K.integer (L.Integer x.number))) (is_sort (shell g) (Some K.truth) Q.Truth)
      (compared_ints (Some K.integer) (literal_typ (shell g) K.integer (L.Integer x.number)) refl second)
      (ap (λ o. is_some_sort (sort_some o) Q.Truth) pl.basic.truth))

  tests_right : (out : Labels) (d : Depths) (p l : ℕ) (xs : List Picked) → picks_small xs ≡ true → out l ≡ true → Ok out (tests (kit_at K d) p l xs)
  tests_right out d p l [] h o = tt
  tests_right out d p l (x ∷ xs) h o =
      let q = parts_of (is_small x.number) (picks_small xs) h in
      let rest : List Instruction = tests (kit_at K d) p l xs in
      before m f n out (test_of x) (I.JumpIf (from K (Temp p) K.truth) l ∷ rest) (test_fits d p x q.0) tt
      (before m f n out (I.JumpIf (from K (Temp p) K.truth) l) rest (truth_fits types ss callees m f n name g pl (Temp p) l) (inr o)
      (tests_right out d p l xs q.1 o))
    where
      test_of : Picked → Instruction
      test_of x =
          I.Apply (to (kit_at K d) (Temp p) K.truth) (O.Builtin B.Neq)
          (from (kit_at K d) (Number x.variable (d.of x.variable)) K.integer ∷ R.Constant K.integer (L.Integer x.number) ∷ [])

  -- ---- arms, by their numbers

  abbrev pub Arms : {A : Type 0} → (A → List Picked) → (A → ℕ → List Instruction) → Labels → List A → Type 0
  Arms picks arm out [] = Unit {0}
  Arms picks arm out (u ∷ us) = ((picks_small (picks u) ≡ true) × ((l : ℕ) → Ok out (arm u l))) × Arms picks arm out us

  module _ {A : Type 0} (picks : A → List Picked) (d : Depths) (p q : ℕ) (arm : A → ℕ → List Instruction) where
    arms_more : (l : ℕ) (out : Labels) (us : List A) → Arms picks arm out us → Arms picks arm (with_label l out) us
    arms_more l out [] h = tt
    arms_more l out (u ∷ us) h =
        ((h.0.0, λ i. more m f n out (with_label l out) (arm u i) (label_more l out) (h.0.1 i)), arms_more l out us h.1)

    chain_right : (out : Labels) (e : ℕ) → out e ≡ true → (us : List A) → Arms picks arm out us → (l : ℕ) → Ok out (chain picks (kit_at K d) p e q arm l us)
    chain_right out e o [] h l = tt
    chain_right out e o (u ∷ []) h l = h.0.1 l
    chain_right out e o (u ∷ v ∷ us) h l =
        let rest : List Instruction = chain picks (kit_at K d) p e q arm (l + 1 + q) (v ∷ us) in
        let body : List Instruction = arm u (l + 1) in
        let behind : List Instruction = I.Goto e ∷ I.Label l ∷ rest in
        let first : List Instruction = tests (kit_at K d) p l (picks u) in
        join m f n (with_label l out) out first (body ++ behind)
        (label_meets l (body ++ behind) out (set_behind l body behind (set_next l (I.Goto e) (I.Label l ∷ rest) (set_first l rest))))
        (tests_right (with_label l out) d p l (picks u) h.0.0 (label_there l out))
        (append m f n out body behind (h.0.1 (l + 1))
        (before m f n out (I.Goto e) (I.Label l ∷ rest) (goto_fits m f n e) (inr o)
        (before m f n out (I.Label l) rest (label_fits m f n l) tt (chain_right out e o (v ∷ us) h.1 (l + 1 + q)))))

    pub by_case_right : (out : Labels) (us : List A) → Arms picks arm out us → (l : ℕ) → Ok out (by_case picks (kit_at K d) p q arm l us)
    by_case_right out [] h l = tt
    by_case_right out (u ∷ []) h l = h.0.1 l
    by_case_right out (u ∷ v ∷ us) h l =
        let last : List Instruction = I.Label l ∷ [] in
        join m f n (with_label l out) out (chain picks (kit_at K d) p l q arm (l + 1) (u ∷ v ∷ us)) last (label_meets l last out (set_first l []))
        (chain_right (with_label l out) l (label_there l out) (u ∷ v ∷ us) (arms_more l out (u ∷ v ∷ us) h) (l + 1))
        (alone m f n out (I.Label l) (label_fits m f n l) tt)
