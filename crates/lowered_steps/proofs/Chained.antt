-- Arms that are chosen by noted numbers, and values that are moved, as they are put.
use Rattle.std.proofs.Common.{◌≡◌, ℕ, zero, suc, ◌+◌, ◌<◌, ◌≤◌, false, List, [], ◌∷◌, refl, sym, ap, subst, arith, eq-eqb, cond}
use Rattle.std.specs.Prelude.{nat_eq, OnOk, Result}
use Rattle.std.proofs.lemmas.Result.{on_ok_weaker}
use Rattle.std.proofs.lemmas.Bool.Decides.{nat_tests}
use Rattle.sail_types.specs.declared.rows.Row.TheVariants as B
use Rattle.size_values.specs.declared.constants.Picked.{Picked}
use Rattle.jib.specs.declared.code.Literal.{Literal}
use Rattle.jib.specs.declared.code.Literal.TheVariants as L
use Rattle.jib.specs.declared.code.Source.TheVariants as R
use Rattle.jib.specs.declared.code.Target.TheVariants as G
use Rattle.jib.specs.declared.code.Operation.TheVariants as O
use Rattle.jib.specs.declared.code.Instruction.{Instruction}
use Rattle.jib.specs.declared.code.Instruction.TheVariants as I
use Rattle.lowered_pieces.specs.declared.coding.Coding.{Coding}
use Rattle.lowered_pieces.specs.Chains.{tests}
use Rattle.lowered_pieces.specs.Emitted.{Emits, no_labels}
use Rattle.lowered_pieces.specs.Forms.{kit_at}
use Rattle.lowered_pieces.specs.Frames.{end_code, end_labels}
use Rattle.lowered_pieces.specs.Moves.{kept_as, move, retype}
use Rattle.lowered_pieces.specs.Places.{Naming, Number, Place, Temp}
use Rattle.lowered_pieces.proofs.Emitting.{emits_as, emits_next, emits_none, emits_then, ok_next, ok_same}
use Rattle.lowered_steps.specs.declared.setting.Setting.{Setting}
use Rattle.lowered_steps.specs.declared.stands.Levels.{Levels}
use Rattle.lowered_steps.specs.Setting.{kit_for}
use Rattle.lowered_steps.specs.Stands.{depths_of}

-- ---- tests

module _ {T E : Type 0} (r : Result T E) (setting : Setting) (levels : Levels) (temp label : ℕ) where
  abbrev looks : List Picked → Naming → List Instruction
  looks ps name = tests (kit_at (kit_for setting name) (depths_of levels)) temp label ps

  -- the test of a number that stands so deep
  abbrev test_of : Picked → ℕ → Literal → Naming → Instruction
  test_of x d v name =
      I.Apply (G.Slot (name (Temp temp) setting.truth)) (O.Builtin B.Neq)
      (R.Slot (name (Number x.variable d) setting.integer) ∷ R.Constant setting.integer v ∷ [])

  abbrev test : Picked → ℕ → Naming → Instruction
  test x d name = test_of x d (L.Integer x.number) name

  abbrev leap : Naming → Instruction
  leap name = I.JumpIf (R.Slot (name (Temp temp) setting.truth)) label

  pub tests_put : (x : Picked) (xs ps : List Picked) (d : ℕ) (v : Literal) (old a b new : Coding) → d ≡ (depths_of levels).of x.variable
      → v ≡ L.Integer x.number → ps ≡ x ∷ xs → Emits old a (λ name l. test_of x d v name ∷ []) no_labels → Emits a b (λ name l. leap name ∷ []) no_labels
      → OnOk r (Emits b new (λ name l. looks xs name) no_labels) → OnOk r (Emits old new (λ name l. looks ps name) no_labels)
  tests_put x xs ps d v old a b new deep literal is first second rest =
      subst (λ us. OnOk r (Emits old new (λ name l. looks us name) no_labels)) (sym is)
      (subst (λ k. OnOk r (Emits old new (λ name l. test x k name ∷ leap name ∷ looks xs name) no_labels)) deep
      (ok_next r old b new (λ name. test x d name ∷ leap name ∷ []) (λ name. looks xs name)
      (emits_next old a b (λ name. test x d name ∷ []) (λ name. leap name ∷ [])
      (subst (λ w. Emits old a (λ name l. test_of x d w name ∷ []) no_labels) literal first) second) rest))

pub no_tests : (setting : Setting) (levels : Levels) (temp label : ℕ) (ps : List Picked) (old : Coding) → ps ≡ []
    → Emits old old (λ name l. tests (kit_at (kit_for setting name) (depths_of levels)) temp label ps) no_labels
no_tests setting levels temp label ps old is =
    subst (λ us. Emits old old (λ name l. tests (kit_at (kit_for setting name) (depths_of levels)) temp label us) no_labels) (sym is) (emits_none old)

-- ---- before an arm behind which others stand

pub arm_begun : (setting : Setting) (levels : Levels) (temp next : ℕ) (ps : List Picked) (old mid new : Coding) → next ≡ old.labels
    → Emits old mid (λ name l. []) (λ name. 1)
    → Emits mid new (λ name l. tests (kit_at (kit_for setting name) (depths_of levels)) temp next ps) no_labels
    → Emits old new (λ name l. tests (kit_at (kit_for setting name) (depths_of levels)) temp l ps) (λ name. 1)
arm_begun setting levels temp next ps old mid new is taken put =
    emits_as old new (λ name l. tests (kit_at (kit_for setting name) (depths_of levels)) temp next ps)
    (λ name l. tests (kit_at (kit_for setting name) (depths_of levels)) temp l ps) (λ name. 1 + 0) (λ name. 1)
    (λ name. ap (λ l. tests (kit_at (kit_for setting name) (depths_of levels)) temp l ps) is) (λ name. refl)
    (emits_then old mid new (λ name l. []) (λ name l. tests (kit_at (kit_for setting name) (depths_of levels)) temp next ps) (λ name. 1) no_labels taken put)

-- ---- where arms go on

few_labels : (n : ℕ) → n < 2 → end_labels n ≡ 0
few_labels zero lt = refl
few_labels (suc zero) lt = refl
few_labels (suc (suc n)) lt = absurd (omega arith)

more_labels : (n : ℕ) → 2 ≤ n → end_labels n ≡ 1
more_labels zero le = absurd (omega arith)
more_labels (suc zero) le = absurd (omega arith)
more_labels (suc (suc n)) le = refl

few_code : (n end : ℕ) → n < 2 → end_code n end ≡ []
few_code zero end lt = refl
few_code (suc zero) end lt = refl
few_code (suc (suc n)) end lt = absurd (omega arith)

more_code : (n end : ℕ) → 2 ≤ n → end_code n end ≡ I.Label end ∷ []
more_code zero end le = absurd (omega arith)
more_code (suc zero) end le = absurd (omega arith)
more_code (suc (suc n)) end le = refl

pub few_begun : (old : Coding) (n : ℕ) → n < 2 → Emits old old (λ name l. []) (λ name. end_labels n)
few_begun old n lt =
    emits_as old old (λ name l. []) (λ name l. []) no_labels (λ name. end_labels n) (λ name. refl) (λ name. sym (few_labels n lt)) (emits_none old)

pub more_begun : {T E : Type 0} (r : Result T E) (old new : Coding) (n : ℕ) → 2 ≤ n → OnOk r (Emits old new (λ name l. []) (λ name. 1))
    → OnOk r (Emits old new (λ name l. []) (λ name. end_labels n))
more_begun r old new n le h =
    on_ok_weaker r (λ (e : Emits old new (λ name l. []) (λ name. 1)).
    emits_as old new (λ name l. []) (λ name l. []) (λ name. 1) (λ name. end_labels n) (λ name. refl) (λ name. sym (more_labels n le)) e) h

pub few_ended : (old : Coding) (n end : ℕ) → n < 2 → Emits old old (λ name l. end_code n end) no_labels
few_ended old n end lt =
    emits_as old old (λ name l. []) (λ name l. end_code n end) no_labels no_labels (λ name. sym (few_code n end lt)) (λ name. refl) (emits_none old)

pub more_ended : {T E : Type 0} (r : Result T E) (old new : Coding) (n end : ℕ) → 2 ≤ n
    → OnOk r (Emits old new (λ name l. I.Label end ∷ []) no_labels) → OnOk r (Emits old new (λ name l. end_code n end) no_labels)
more_ended r old new n end le h =
    ok_same r old new (λ name l. I.Label end ∷ []) (λ name l. end_code n end) no_labels (λ name. sym (more_code n end le)) h

-- ---- values that are moved

different : (a b : ℕ) → (a ≡ b → ⊥) → nat_eq a b ≡ false
different a b ne = grind (arith, nat_tests)

module _ {T E : Type 0} (r : Result T E) (old new : Coding) (setting : Setting) where
  pub moved_same : (p : Place) (u : ℕ) (q : Place) (t : ℕ) → t ≡ u
      → OnOk r (Emits old new (λ name l. I.Copy (G.Slot (name p u)) (R.Slot (name q t)) ∷ []) no_labels)
      → OnOk r (Emits old new (λ name l. move (kit_for setting name) p u q t ∷ []) no_labels)
  moved_same p u q t is h =
      ok_same r old new (λ name l. I.Copy (G.Slot (name p u)) (R.Slot (name q t)) ∷ []) (λ name l. move (kit_for setting name) p u q t ∷ []) no_labels
      (λ name. ap (λ b. cond b (I.Copy (G.Slot (name p u)) (R.Slot (name q t))) (I.Apply (G.Slot (name p u)) O.Same (R.Slot (name q t) ∷ [])) ∷ [])
      (sym (eq-eqb t u is))) h

  pub moved_apart : (p : Place) (u : ℕ) (q : Place) (t : ℕ) → (t ≡ u → ⊥)
      → OnOk r (Emits old new (λ name l. I.Apply (G.Slot (name p u)) O.Same (R.Slot (name q t) ∷ []) ∷ []) no_labels)
      → OnOk r (Emits old new (λ name l. move (kit_for setting name) p u q t ∷ []) no_labels)
  moved_apart p u q t apart h =
      ok_same r old new (λ name l. I.Apply (G.Slot (name p u)) O.Same (R.Slot (name q t) ∷ []) ∷ []) (λ name l. move (kit_for setting name) p u q t ∷ [])
      no_labels
      (λ name. ap (λ b. cond b (I.Copy (G.Slot (name p u)) (R.Slot (name q t))) (I.Apply (G.Slot (name p u)) O.Same (R.Slot (name q t) ∷ [])) ∷ [])
      (sym (different t u apart))) h

  pub retyped_apart : (n t u : ℕ) → (t ≡ u → ⊥)
      → OnOk r (Emits old new (λ name l. I.Apply (G.Slot (name (Temp n) u)) O.Same (R.Slot (name (Temp n) t) ∷ []) ∷ []) no_labels)
      → OnOk r (Emits old new (λ name l. retype (kit_for setting name) n t u) no_labels)
  retyped_apart n t u apart h =
      ok_same r old new (λ name l. I.Apply (G.Slot (name (Temp n) u)) O.Same (R.Slot (name (Temp n) t) ∷ []) ∷ [])
      (λ name l. retype (kit_for setting name) n t u) no_labels
      (λ name. ap (λ b. cond b [] (I.Apply (G.Slot (name (Temp n) u)) O.Same (R.Slot (name (Temp n) t) ∷ []) ∷ [])) (sym (different t u apart))) h

  pub kept_apart : (p : Place) (n t u : ℕ) → (t ≡ u → ⊥)
      → OnOk r (Emits old new (λ name l. I.Apply (G.Slot (name p u)) O.Same (R.Slot (name (Temp n) t) ∷ []) ∷ []) no_labels)
      → OnOk r (Emits old new (λ name l. kept_as (kit_for setting name) p u n t) no_labels)
  kept_apart p n t u apart h =
      ok_same r old new (λ name l. I.Apply (G.Slot (name p u)) O.Same (R.Slot (name (Temp n) t) ∷ []) ∷ [])
      (λ name l. kept_as (kit_for setting name) p u n t) no_labels
      (λ name. ap (λ b. cond b [] (I.Apply (G.Slot (name p u)) O.Same (R.Slot (name (Temp n) t) ∷ []) ∷ [])) (sym (different t u apart))) h

pub retyped_same : (old : Coding) (setting : Setting) (n t u : ℕ) → t ≡ u → Emits old old (λ name l. retype (kit_for setting name) n t u) no_labels
retyped_same old setting n t u is =
    emits_as old old (λ name l. []) (λ name l. retype (kit_for setting name) n t u) no_labels no_labels
    (λ name. ap (λ b. cond b [] (I.Apply (G.Slot (name (Temp n) u)) O.Same (R.Slot (name (Temp n) t) ∷ []) ∷ [])) (sym (eq-eqb t u is))) (λ name. refl)
    (emits_none old)

pub kept_same : (old : Coding) (setting : Setting) (p : Place) (n t u : ℕ) → t ≡ u
    → Emits old old (λ name l. kept_as (kit_for setting name) p u n t) no_labels
kept_same old setting p n t u is =
    emits_as old old (λ name l. []) (λ name l. kept_as (kit_for setting name) p u n t) no_labels no_labels
    (λ name. ap (λ b. cond b [] (I.Apply (G.Slot (name p u)) O.Same (R.Slot (name (Temp n) t) ∷ []) ∷ [])) (sym (eq-eqb t u is))) (λ name. refl)
    (emits_none old)
