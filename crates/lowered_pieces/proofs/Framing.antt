-- Arms that are put one after the other are a choice.
use Rattle.std.proofs.Common.{◌≡◌, ◌∙◌, ℕ, ◌+◌, ◌≤◌, List, [], ◌∷◌, ◌++◌, length, refl, sym, ap, subst, arith}
use Rattle.std.proofs.Common.{append_assoc, append-nil}
use Rattle.std.specs.Prelude.{OnOk, Result}
use Rattle.std.proofs.lemmas.Result.{on_ok_weaker}
use Rattle.size_values.specs.declared.constants.Picked.{Picked}
use Rattle.jib.specs.declared.code.Instruction.{Instruction}
use Rattle.jib.specs.declared.code.Instruction.TheVariants as I
use Rattle.lowered_pieces.specs.declared.coding.Coding.{Coding}
use Rattle.lowered_pieces.specs.Chains.{by_case, chain, chain_labels, many, tests}
use Rattle.lowered_pieces.specs.Emitted.{Coded, Emits, no_labels}
use Rattle.lowered_pieces.specs.Frames.{ArmsPut, end_code, end_labels}
use Rattle.lowered_pieces.specs.Places.{Kit, Naming}
use Rattle.lowered_pieces.proofs.Emitting.{emits_as, emits_none, emits_then}

module _ {A : Type 0} (picks : A → List Picked) (kit : Naming → Kit) (p : ℕ) (q : Naming → ℕ) (arm : Naming → A → ℕ → List Instruction) where
  abbrev chain_from : ℕ → List A → Coded
  chain_from end us name l = chain picks (kit name) p end (q name) (arm name) l us

  -- the arms, with labels from one on
  pub chain_put : (end : ℕ) (us : List A) (old new : Coding) → ArmsPut picks kit p q arm end us old new
      → Emits old new (chain_from end us) (λ name. chain_labels (q name) us)
  chain_put end [] old new r = r
  chain_put end (u ∷ []) old new r = r
  chain_put end (u ∷ v ∷ us) old new r =
      let c1 : Coded = λ name l. tests (kit name) p l (picks u) in
      let c2 : Coded = λ name. arm name u in
      let c3 : Coded = λ name l. I.Goto end ∷ I.Label old.labels ∷ [] in
      let n12 : Naming → ℕ = λ name. 1 + q name in
      let n34 : Naming → ℕ = λ name. 0 + chain_labels (q name) (v ∷ us) in
      let c12 : Coded = λ name l. c1 name l ++ c2 name (l + 1) in
      let c34 : Coded = λ name l. c3 name l ++ chain_from end (v ∷ us) name (l + 0) in
      emits_as old new (λ name l. c12 name l ++ c34 name (l + n12 name)) (chain_from end (u ∷ v ∷ us)) (λ name. n12 name + n34 name)
      (λ name. chain_labels (q name) (u ∷ v ∷ us))
      (λ name.
      append_assoc (c1 name old.labels) (c2 name (old.labels + 1)) (c34 name (old.labels + n12 name))
      ∙ ap (λ l. c1 name old.labels ++ (c2 name (old.labels + 1) ++ I.Goto end ∷ I.Label old.labels ∷ chain_from end (v ∷ us) name l))
      (sum old.labels (q name)))
      (λ name. omega arith)
      (emits_then old r.1 new c12 c34 n12 n34 (emits_then old r.0 r.1 c1 c2 (λ name. 1) q r.3 r.4)
      (emits_then r.1 r.2 new c3 (chain_from end (v ∷ us)) no_labels (λ name. chain_labels (q name) (v ∷ us)) r.5 (chain_put end (v ∷ us) r.2 new r.6)))
    where
      sum : (l m : ℕ) → l + (1 + m) + 0 ≡ l + 1 + m
      sum l m = omega arith

  -- an arm before others
  pub arms_more : (end : ℕ) (u : A) (us : List A) (old a b c new : Coding) → 1 ≤ length us
      → Emits old a (λ name l. tests (kit name) p l (picks u)) (λ name. 1) → Emits a b (λ name. arm name u) q
      → Emits b c (λ name l. I.Goto end ∷ I.Label old.labels ∷ []) no_labels → ArmsPut picks kit p q arm end us c new
      → ArmsPut picks kit p q arm end (u ∷ us) old new
  arms_more end u [] old a b c new some x y z r = absurd (none some)
    where
      none : 1 ≤ 0 → ⊥
      none le = omega (arith, le)
  arms_more end u (v ∷ us) old a b c new some x y z r = (a, b, c, x, y, z, r)

  -- the label behind all, the arms, and the end
  pub case_put : (us : List A) (old a b new : Coding) → Emits old a (λ name l. []) (λ name. end_labels (length us))
      → ArmsPut picks kit p q arm old.labels us a b → Emits b new (λ name l. end_code (length us) old.labels) no_labels
      → Emits old new (λ name l. by_case picks (kit name) p (q name) (arm name) l us) (λ name. many (q name) us)
  case_put us old a b new first arms last =
      let e : ℕ = old.labels in
      let n : ℕ = length us in
      let c2 : Coded = chain_from e us in
      let c3 : Coded = λ name l. end_code n e in
      let m : Naming → ℕ = λ name. chain_labels (q name) us in
      let n12 : Naming → ℕ = λ name. end_labels n + m name in
      let c12 : Coded = λ name l. [] ++ c2 name (l + end_labels n) in
      emits_as old new (λ name l. c12 name l ++ c3 name (l + n12 name)) (λ name l. by_case picks (kit name) p (q name) (arm name) l us)
      (λ name. n12 name + 0) (λ name. many (q name) us) (λ name. whole name us) (λ name. counted (q name) us)
      (emits_then old b new c12 c3 n12 no_labels
      (emits_then old a b (λ name l. []) c2 (λ name. end_labels n) m first (chain_put e us a b arms)) last)
    where
      none : (l : ℕ) → l + 0 ≡ l
      none l = omega arith

      whole : (name : Naming) (us : List A)
          → chain picks (kit name) p old.labels (q name) (arm name) (old.labels + end_labels (length us)) us ++ end_code (length us) old.labels
          ≡ by_case picks (kit name) p (q name) (arm name) old.labels us
      whole name [] = refl
      whole name (u ∷ []) = append-nil (arm name u (old.labels + 0)) ∙ ap (arm name u) (none old.labels)
      whole name (u ∷ v ∷ us) = refl

      only : (k : ℕ) → 0 + k + 0 ≡ k
      only k = omega arith

      counted : (k : ℕ) (us : List A) → end_labels (length us) + chain_labels k us + 0 ≡ many k us
      counted k [] = refl
      counted k (u ∷ []) = only k
      counted k (u ∷ v ∷ us) = none (1 + chain_labels k (u ∷ v ∷ us))

  -- so where the end has been taken as a number, and arms are counted
  pub cases_put : (us : List A) (old a b new : Coding) (end n : ℕ) → end ≡ old.labels → n ≡ length us
      → Emits old a (λ name l. []) (λ name. end_labels n) → ArmsPut picks kit p q arm end us a b → Emits b new (λ name l. end_code n end) no_labels
      → Emits old new (λ name l. by_case picks (kit name) p (q name) (arm name) l us) (λ name. many (q name) us)
  cases_put us old a b new end n is counted_as first arms last =
      case_put us old a b new (subst (λ k. Emits old a (λ name l. []) (λ name. end_labels k)) counted_as first)
      (subst (λ e. ArmsPut picks kit p q arm e us a b) is arms)
      (subst (λ k. Emits b new (λ name l. end_code k old.labels) no_labels) counted_as (subst (λ e. Emits b new (λ name l. end_code n e) no_labels) is last))

  pub ok_cases : {T E : Type 0} (r : Result T E) (us : List A) (old a b new : Coding) (end n : ℕ) → end ≡ old.labels → n ≡ length us
      → Emits old a (λ name l. []) (λ name. end_labels n) → ArmsPut picks kit p q arm end us a b
      → OnOk r (Emits b new (λ name l. end_code n end) no_labels)
      → OnOk r (Emits old new (λ name l. by_case picks (kit name) p (q name) (arm name) l us) (λ name. many (q name) us))
  ok_cases r us old a b new end n is counted_as first arms last =
      on_ok_weaker r (λ (e : Emits b new (λ name l. end_code n end) no_labels). cases_put us old a b new end n is counted_as first arms e) last

  -- arms by the list that the code goes along
  pub arms_none : (end : ℕ) (us : List A) (old : Coding) → us ≡ [] → ArmsPut picks kit p q arm end us old old
  arms_none end us old is = subst (λ vs. ArmsPut picks kit p q arm end vs old old) (sym is) (emits_none old)

  pub ok_one : {T E : Type 0} (r : Result T E) (end : ℕ) (u : A) (us : List A) (old new : Coding) → us ≡ u ∷ []
      → OnOk r (Emits old new (λ name. arm name u) q) → OnOk r (ArmsPut picks kit p q arm end us old new)
  ok_one r end u us old new is h = subst (λ vs. OnOk r (ArmsPut picks kit p q arm end vs old new)) (sym is) h

  pub ok_more : {T E : Type 0} (r : Result T E) (end next : ℕ) (u : A) (vs us : List A) (old a b c new : Coding) → us ≡ u ∷ vs → 1 ≤ length vs
      → next ≡ old.labels → Emits old a (λ name l. tests (kit name) p l (picks u)) (λ name. 1) → Emits a b (λ name. arm name u) q
      → Emits b c (λ name l. I.Goto end ∷ I.Label next ∷ []) no_labels → OnOk r (ArmsPut picks kit p q arm end vs c new)
      → OnOk r (ArmsPut picks kit p q arm end us old new)
  ok_more r end next u vs us old a b c new is some label x y z h =
      subst (λ ws. OnOk r (ArmsPut picks kit p q arm end ws old new)) (sym is)
      (on_ok_weaker r (λ (k : ArmsPut picks kit p q arm end vs c new).
      arms_more end u vs old a b c new some x y (subst (λ n. Emits b c (λ name l. I.Goto end ∷ I.Label n ∷ []) no_labels) label z) k) h)

  -- where the last is put, and nothing else can fail
  pub arms_next : (end next : ℕ) (u : A) (vs us : List A) (old a b c new : Coding) → us ≡ u ∷ vs → 1 ≤ length vs
      → next ≡ old.labels → Emits old a (λ name l. tests (kit name) p l (picks u)) (λ name. 1) → Emits a b (λ name. arm name u) q
      → Emits b c (λ name l. I.Goto end ∷ I.Label next ∷ []) no_labels → ArmsPut picks kit p q arm end vs c new
      → ArmsPut picks kit p q arm end us old new
  arms_next end next u vs us old a b c new is some label x y z k =
      subst (λ ws. ArmsPut picks kit p q arm end ws old new) (sym is)
      (arms_more end u vs old a b c new some x y (subst (λ n. Emits b c (λ name l. I.Goto end ∷ I.Label n ∷ []) no_labels) label z) k)
