-- What follows an instruction of a piece of code.
use Rattle.std.proofs.Common.{◌≡◌, ◌∙◌, ℕ, ◌+◌, ◌<◌, Bool, true, false, cond, List, [], ◌∷◌, length, Some, refl, ap, subst, eqb-true, arith}
use Rattle.std.specs.Prelude.{nat_eq, slice_get}
use Rattle.sail_types.specs.declared.values.Value.{Value, out-Value}
use Rattle.sail_types.specs.declared.values.Value.TheVariants as V
use Rattle.jib.specs.declared.code.Source.{Source}
use Rattle.jib.specs.declared.code.Operation.{Operation}
use Rattle.jib.specs.declared.code.Operation.TheVariants as O
use Rattle.jib.specs.declared.code.Instruction.{Instruction}
use Rattle.jib.specs.declared.code.Instruction.TheVariants as I
use Rattle.jib.specs.declared.code.Module.{Module}
use Rattle.jib.specs.Values.{fit, has}
use Rattle.jib.specs.Jib.{Slots, Store, Outcome, Here, Go, Jump, Over, code_of, slots_of, or_stop, put, plain, operate, with_ran, branch, is_true}
use Rattle.jib.specs.Jib.{read, reads, write, finish, apply, act, Runs, runs_go, runs_jump, runs_over}
use Rattle.lowered_pieces.specs.Places.{Place, Temp, Kit, Names, HasSlots, from, to}
use Rattle.lowered_pieces.specs.Moves.{move, retype}
use Rattle.lowered_laws.specs.Standing.{HasAt, Tested}
use Rattle.lowered_laws.proofs.Facts.{fits_already, true_out, with_plain, put_same, tested_here, tested_put}

module _ (m : Module) (lets : List Value) (hart : ℕ) (here : Here) (r : Outcome) where
  abbrev pub Code : List Instruction
  Code = code_of m here.function

  pub go : (pc : ℕ) (sl sl' : Slots) (s s' : Store) (i : Instruction) → slice_get Code pc ≡ Some i → act m lets hart here i sl s ≡ Go sl' s'
      → Runs m lets hart here (pc + 1) sl' s' r → Runs m lets hart here pc sl s r
  go pc sl sl' s s' i h e rest = runs_go (ap (λ o. act m lets hart here (or_stop o) sl s) h ∙ e) rest

  pub jump : (pc p l : ℕ) (sl : Slots) (s : Store) (i : Instruction) → slice_get Code pc ≡ Some i → act m lets hart here i sl s ≡ Jump l
      → slice_get Code p ≡ Some (I.Label l) → Runs m lets hart here p sl s r → Runs m lets hart here pc sl s r
  jump pc p l sl s i h e hp rest = runs_jump (ap (λ o. act m lets hart here (or_stop o) sl s) h ∙ e) hp rest

  pub over : (pc : ℕ) (sl : Slots) (s : Store) (i : Instruction) → slice_get Code pc ≡ Some i → act m lets hart here i sl s ≡ Over r
      → Runs m lets hart here pc sl s r
  over pc sl s i h e = runs_over (ap (λ o. act m lets hart here (or_stop o) sl s) h ∙ e)

  pub moves : (p q : ℕ) (sl : Slots) (s : Store) → p ≡ q → Runs m lets hart here p sl s r → Runs m lets hart here q sl s r
  moves p q sl s e x = subst (λ k. Runs m lets hart here k sl s r) e x

  pub past : (p l : ℕ) (sl : Slots) (s : Store) → slice_get Code p ≡ Some (I.Label l) → Runs m lets hart here (p + 1) sl s r
      → Runs m lets hart here p sl s r
  past p l sl s h rest = go p sl sl s s (I.Label l) h refl rest

  -- a jump, and on behind its label
  pub jump_past : (pc p l : ℕ) (sl : Slots) (s : Store) → slice_get Code pc ≡ Some (I.Goto l) → slice_get Code p ≡ Some (I.Label l)
      → Runs m lets hart here (p + 1) sl s r → Runs m lets hart here pc sl s r
  jump_past pc p l sl s h hp rest = jump pc p l sl s (I.Goto l) h refl hp (past p l sl s hp rest)

  -- a truth is tested
  pub test_step : (pc pl l : ℕ) (a : Source) (sl : Slots) (s : Store) → slice_get Code pl ≡ Some (I.Label l) → slice_get Code pc ≡ Some (I.JumpIf a l)
      → (b : Bool) → read m lets hart a sl s ≡ V.Truth b → (b ≡ false → Runs m lets hart here (pc + 1) sl s r)
      → (b ≡ true → Runs m lets hart here pl sl s r) → Runs m lets hart here pc sl s r
  test_step pc pl l a sl s hl h false is f g =
      go pc sl sl s s (I.JumpIf a l) h (ap (λ v. branch (is_true (out-Value v)) l sl s) is ∙ ap (λ t. branch t l sl s) (true_out false)) (f refl)
  test_step pc pl l a sl s hl h true is f g =
      jump pc pl l sl s (I.JumpIf a l) h (ap (λ v. branch (is_true (out-Value v)) l sl s) is ∙ ap (λ t. branch t l sl s) (true_out true)) hl (g refl)

  module _ (kit : Kit) (nm : Names kit (slots_of m here.function)) where
    -- an operation gives a value of its slot's type
    pub computed : (p : Place) (t : ℕ) (op : Operation) (rs : List Source) (sl : Slots) (s : Store) (v : Value)
        → kit.name p t < length (slots_of m here.function)
        → operate (slice_get m.types t) op (reads m lets hart rs sl s) hart s.state ≡ Some (plain s.state v) → has m.types v t ≡ true
        → act m lets hart here (I.Apply (to kit p t) op rs) sl s ≡ Go (put sl (kit.name p t) v) s
    computed p t op rs sl s v lt e ht =
        ap (λ u. apply m lets hart (to kit p t) u op (reads m lets hart rs sl s) sl s) (nm.typed p t lt)
        ∙ ap (λ o. finish m lets hart (to kit p t) t o sl s) e
        ∙ ap (λ w. write m lets hart (to kit p t) w sl (with_ran (plain s.state v) s)) (fits_already m.types t v ht)
        ∙ ap (λ u. Go (put sl (kit.name p t) v) u) (with_plain s v)

    -- and one that may not be of that type
    pub computed_any : (p : Place) (t : ℕ) (op : Operation) (rs : List Source) (sl : Slots) (s : Store) (v : Value)
        → kit.name p t < length (slots_of m here.function)
        → operate (slice_get m.types t) op (reads m lets hart rs sl s) hart s.state ≡ Some (plain s.state v)
        → act m lets hart here (I.Apply (to kit p t) op rs) sl s ≡ Go (put sl (kit.name p t) (fit m.types t v)) s
    computed_any p t op rs sl s v lt e =
        ap (λ u. apply m lets hart (to kit p t) u op (reads m lets hart rs sl s) sl s) (nm.typed p t lt)
        ∙ ap (λ o. finish m lets hart (to kit p t) t o sl s) e
        ∙ ap (λ u. Go (put sl (kit.name p t) (fit m.types t v)) u) (with_plain s v)

    -- a value goes to another place, at its type
    pub moved : (p : Place) (u : ℕ) (q : Place) (t : ℕ) (sl : Slots) (s : Store) (v : Value) → kit.name p u < length (slots_of m here.function)
        → sl (kit.name q t) ≡ v → has m.types v u ≡ true → act m lets hart here (move kit p u q t) sl s ≡ Go (put sl (kit.name p u) v) s
    moved p u q t sl s v lt is ht = by (nat_eq t u)
      where
        by : (b : Bool) → act m lets hart here (cond b (I.Copy (to kit p u) (from kit q t)) (I.Apply (to kit p u) O.Same (from kit q t ∷ []))) sl s
            ≡ Go (put sl (kit.name p u) v) s
        by true = ap (λ w. Go (put sl (kit.name p u) w) s) is
        by false = computed p u O.Same (from kit q t ∷ []) sl s v lt (ap (λ w. Some (plain s.state w)) is) ht

    -- the slots that a piece writes are there
    pub there : HasSlots (slots_of m here.function) Code → (pc : ℕ) (p : Place) (u : ℕ) (q : Place) (t : ℕ)
        → slice_get Code pc ≡ Some (move kit p u q t) → kit.name p u < length (slots_of m here.function)
    there hs pc p u q t h = by (nat_eq t u) h
      where
        by : (b : Bool) → slice_get Code pc ≡ Some (cond b (I.Copy (to kit p u) (from kit q t)) (I.Apply (to kit p u) O.Same (from kit q t ∷ [])))
            → kit.name p u < length (slots_of m here.function)
        by true h = hs pc (kit.name p u) (I.Copy (to kit p u) (from kit q t)) h refl
        by false h = hs pc (kit.name p u) (I.Apply (to kit p u) O.Same (from kit q t ∷ [])) h refl

    -- a value in hand gets another type
    pub retyped : HasSlots (slots_of m here.function) Code → (n t u : ℕ) (v : Value) (pc : ℕ) (sl : Slots) (s : Store) → HasAt Code pc (retype kit n t u)
        → sl (kit.name (Temp n) t) ≡ v → has m.types v u ≡ true
        → ((sl' : Slots) → Tested kit n sl sl' → sl' (kit.name (Temp n) u) ≡ v → Runs m lets hart here (pc + length (retype kit n t u)) sl' s r)
        → Runs m lets hart here pc sl s r
    retyped hs n t u v pc sl s at_ is ht k = by (nat_eq t u) refl at_ k
      where
        again : List Instruction
        again = I.Apply (to kit (Temp n) u) O.Same (from kit (Temp n) t ∷ []) ∷ []

        by : (b : Bool) → nat_eq t u ≡ b → HasAt Code pc (cond b [] again)
            → ((sl' : Slots) → Tested kit n sl sl' → sl' (kit.name (Temp n) u) ≡ v → Runs m lets hart here (pc + length (cond b [] again)) sl' s r)
            → Runs m lets hart here pc sl s r
        by true e at_ k = moves (pc + 0) pc sl s (omega arith) (k sl (tested_here kit n sl) (subst (λ w. sl (kit.name (Temp n) w) ≡ v) (eqb-true t u e) is))
        by false e at_ k =
            let lt = hs pc (kit.name (Temp n) u) (I.Apply (to kit (Temp n) u) O.Same (from kit (Temp n) t ∷ [])) at_.0 refl in
            let sl1 : Slots = put sl (kit.name (Temp n) u) v in
            go pc sl sl1 s s (I.Apply (to kit (Temp n) u) O.Same (from kit (Temp n) t ∷ [])) at_.0
            (computed (Temp n) u O.Same (from kit (Temp n) t ∷ []) sl s v lt (ap (λ w. Some (plain s.state w)) is) ht)
            (k sl1 (tested_put kit (slots_of m here.function) nm n n u sl v (omega arith) lt) (put_same sl (kit.name (Temp n) u) v))
