-- The code of the case in hand is run.
use Rattle.std.proofs.Common.{◌≡◌, ◌∙◌, ℕ, ◌+◌, ℤ, Bool, true, false, List, [], ◌∷◌, ◌++◌, length, Option, Some, None, refl, sym, ap, subst, arith}
use Rattle.std.proofs.Common.{length-append, if◌then◌else◌}
use Rattle.std.specs.Prelude.{slice_get, ◌&&◌, not, is_some}
use Rattle.std.specs.Ordering.{int_eq}
use Rattle.sail_types.specs.declared.rows.Row.TheVariants as B
use Rattle.sail_types.specs.declared.values.Value.{Value}
use Rattle.sail_types.specs.declared.values.Value.TheVariants as V
use Rattle.jib.specs.declared.code.Literal.TheVariants as L
use Rattle.jib.specs.declared.code.Source.{Source}
use Rattle.jib.specs.declared.code.Source.TheVariants as R
use Rattle.jib.specs.declared.code.Operation.TheVariants as O
use Rattle.jib.specs.declared.code.Instruction.{Instruction}
use Rattle.jib.specs.declared.code.Instruction.TheVariants as I
use Rattle.jib.specs.declared.code.Module.{Module}
use Rattle.jib.specs.Jib.{Slots, Store, Outcome, Here, slots_of, put, operate, Runs}
use Rattle.size_values.specs.declared.constants.Picked.{Picked}
use Rattle.checked_meaning.specs.Checked.{Noted}
use Rattle.sized_meanings.specs.Present.{is_noted, is_present, is_same, present}
use Rattle.lowered_pieces.specs.Places.{Number, Temp, Kit, Names, HasSlots, from, to}
use Rattle.lowered_laws.specs.Standing.{HasAt, Types, Tested, Told}
use Rattle.lowered_pieces.specs.Chains.{tests, chain, by_case}
use Rattle.lowered_laws.proofs.Pieces.{has_front, has_back}
use Rattle.lowered_laws.proofs.Facts.{truth_has, differ, put_same, tested_here, tested_both, tested_put}
use Rattle.lowered_laws.proofs.Steps.{Code, go, jump, moves, past, test_step, computed}

some_of : (o : Option ℤ) → is_some o ≡ true → (z : ℤ) × (o ≡ Some z)
some_of None h = cc
some_of (Some z) h = (z, refl)

pub some_is : {A : Type 0} (v w : A) → Some v ≡ Some w → v ≡ w
some_is v w e = cc

pub both_true : (a b : Bool) → (a && b) ≡ true → (a ≡ true) × (b ≡ true)
both_true true b h = (refl, h)
both_true false b h = cc

negated : (b : Bool) → not b ≡ false → b ≡ true
negated true h = refl
negated false h = cc

negated_too : (b : Bool) → not b ≡ true → b ≡ false
negated_too true h = cc
negated_too false h = refl

pub told_tested : (kit : Kit) (noted : Noted) (n : ℕ) (sl sl' : Slots) → Tested kit n sl sl' → Told kit noted sl → Told kit noted sl'
told_tested kit noted n sl sl' td t x z e = td.others (Number x (kit.depth x)) kit.integer refl ∙ t x z e

module _ (m : Module) (lets : List Value) (hart : ℕ) (here : Here) (r : Outcome) (kit : Kit) (ty : Types m.types kit)
    (nm : Names kit (slots_of m here.function)) (hs : HasSlots (slots_of m here.function) (Code m lets hart here r)) where
  abbrev pub C : List Instruction
  C = Code m lets hart here r

  abbrev pub Ways : Bool → ℕ → ℕ → Slots → Store → Type 0
  Ways true pe pl sl s = Runs m lets hart here pe sl s r
  Ways false pe pl sl s = Runs m lets hart here pl sl s r

  tests_good : (p pe pl l : ℕ) (s : Store) (noted : Noted) → slice_get C pl ≡ Some (I.Label l) → (ps : List Picked) (pc : ℕ) (sl : Slots)
      → Told kit noted sl → is_noted noted ps ≡ true → pe ≡ pc + length (tests kit p l ps) → HasAt C pc (tests kit p l ps)
      → ((sl' : Slots) → Tested kit p sl sl' → Ways (is_present noted ps) pe pl sl' s) → Runs m lets hart here pc sl s r
  tests_good p pe pl l s noted hl [] pc sl t a end at_ k = moves m lets hart here r pe pc sl s (omega (arith, end)) (k sl (tested_here kit p sl))
  tests_good p pe pl l s noted hl (x ∷ ps) pc sl t a end at_ k =
      let q = both_true (is_some (noted x.variable)) (is_noted noted ps) a in
      let z = some_of (noted x.variable) q.0 in
      let bad : Bool = not (int_eq z.0 x.number) in
      let rs : List Source = from kit (Number x.variable (kit.depth x.variable)) kit.integer ∷ R.Constant kit.integer (L.Integer x.number) ∷ [] in
      let lt = hs pc (kit.name (Temp p) kit.truth) (I.Apply (to kit (Temp p) kit.truth) (O.Builtin B.Neq) rs) at_.0 refl in
      let sl1 : Slots = put sl (kit.name (Temp p) kit.truth) (V.Truth bad) in
      let td : Tested kit p sl sl1 = tested_put kit (slots_of m here.function) nm p p kit.truth sl (V.Truth bad) (omega arith) lt in
      let one : int_eq z.0 x.number ≡ is_same (noted x.variable) x.number = ap (λ o. is_same o x.number) (sym z.1) in
      go m lets hart here r pc sl sl1 s s (I.Apply (to kit (Temp p) kit.truth) (O.Builtin B.Neq) rs) at_.0
      (computed m lets hart here r kit nm (Temp p) kit.truth (O.Builtin B.Neq) rs sl s (V.Truth bad) lt
      (ap (λ w. operate (slice_get m.types kit.truth) (O.Builtin B.Neq) (w ∷ V.Integer x.number ∷ []) hart s.state) (t x.variable z.0 z.1)
      ∙ differ (slice_get m.types kit.truth) z.0 x.number hart s.state)
      (truth_has m.types kit.truth bad ty.truth))
      (test_step m lets hart here r (pc + 1) pl l (from kit (Temp p) kit.truth) sl1 s hl at_.1.0 bad (put_same sl (kit.name (Temp p) kit.truth) (V.Truth bad))
      (λ e. tests_good p pe pl l s noted hl ps (pc + 1 + 1) sl1 (told_tested kit noted p sl sl1 td t) q.1 (omega (arith, end)) at_.1.1
      (λ sl' td'. subst (λ b. Ways b pe pl sl' s) (ap (λ b. b && is_present noted ps) (sym one ∙ negated (int_eq z.0 x.number) e))
      (k sl' (tested_both kit p sl sl1 sl' td td'))))
      (λ e. subst (λ b. Ways b pe pl sl1 s) (ap (λ b. b && is_present noted ps) (sym one ∙ negated_too (int_eq z.0 x.number) e)) (k sl1 td)))

  module _ {A : Type 0} (picks : A → List Picked) (p e q : ℕ) (arm : A → ℕ → List Instruction) (noted : Noted) (s : Store) (k : A) (pd : ℕ) (sl0 : Slots)
      (run : (l' pc' : ℕ) (sl' : Slots) → Tested kit p sl0 sl' → HasAt C pc' (arm k l')
      → ((sl2 : Slots) (s2 : Store) → Runs m lets hart here pd sl2 s2 r → Runs m lets hart here (pc' + length (arm k l')) sl2 s2 r)
      → Runs m lets hart here pc' sl' s r) where
    deciding : (a b : Bool) (k1 : A) (o : Option A) (pt pl : ℕ) (sl : Slots) → (if a then (if b then Some k1 else o) else None) ≡ Some k
        → (k1 ≡ k → Runs m lets hart here pt sl s r) → (o ≡ Some k → Runs m lets hart here pl sl s r) → Ways b pt pl sl s
    deciding true true k1 o pt pl sl h x y = x (some_is k1 k h)
    deciding true false k1 o pt pl sl h x y = y h
    deciding false b k1 o pt pl sl h x y = cc

    there_must : (a : Bool) (o : Option A) → (if a then o else None) ≡ Some k → a ≡ true
    there_must true o h = refl
    there_must false o h = cc

    last : (a b : Bool) (k1 : A) → (if a then (if b then Some k1 else None) else None) ≡ Some k → k1 ≡ k
    last true true k1 h = some_is k1 k h
    last true false k1 h = cc
    last false b k1 h = cc

    one_good : (u : A) → present picks noted (u ∷ []) ≡ Some k → (l pc : ℕ) (sl : Slots) → Tested kit p sl0 sl → pd ≡ pc + length (arm u l)
        → HasAt C pc (arm u l) → Runs m lets hart here pc sl s r
    one_good u h l pc sl td end at_ =
        let is : u ≡ k = last (is_noted noted (picks u)) (is_present noted (picks u)) u h in
        let end2 : pd ≡ pc + length (arm k l) = subst (λ a. pd ≡ pc + length (arm a l)) is end in
        run l pc sl td (subst (λ a. HasAt C pc (arm a l)) is at_) (λ sl2 s2 z. moves m lets hart here r pd (pc + length (arm k l)) sl2 s2 end2 z)

    pub chain_good : (us : List A) → present picks noted us ≡ Some k → (l pc : ℕ) (sl : Slots) → Tested kit p sl0 sl → Told kit noted sl
        → pd ≡ pc + length (chain picks kit p e q arm l us) → HasAt C pc (chain picks kit p e q arm l us) → slice_get C pd ≡ Some (I.Label e)
        → Runs m lets hart here pc sl s r
    chain_good [] h l pc sl td t end at_ lab = cc
    chain_good (u ∷ []) h l pc sl td t end at_ lab = one_good u h l pc sl td end at_
    chain_good (u ∷ w ∷ us) h l pc sl td t end at_ lab =
        let t1 : List Instruction = tests kit p l (picks u) in
        let f1 : List Instruction = arm u (l + 1) in
        let t3 : List Instruction = chain picks kit p e q arm (l + 1 + q) (w ∷ us) in
        let t2 : List Instruction = I.Goto e ∷ I.Label l ∷ t3 in
        let p1 : ℕ = pc + length t1 in
        let p2 : ℕ = p1 + length f1 in
        let h1 : HasAt C p1 (f1 ++ t2) = has_back C pc t1 (f1 ++ t2) p1 refl at_ in
        let h2 : HasAt C p2 t2 = has_back C p1 f1 t2 p2 refl h1 in
        tests_good p p1 (p2 + 1) l s noted h2.1.0 (picks u) pc sl t
        (there_must (is_noted noted (picks u)) (if is_present noted (picks u) then Some u else present picks noted (w ∷ us)) h) refl
        (has_front C pc t1 (f1 ++ t2) at_)
        (λ sl' td'. let td2 : Tested kit p sl0 sl' = tested_both kit p sl0 sl sl' td td' in
        deciding (is_noted noted (picks u)) (is_present noted (picks u)) u (present picks noted (w ∷ us)) p1 (p2 + 1) sl' h
        (λ is. let e2 : p2 ≡ p1 + length (arm k (l + 1)) = ap (λ a. p1 + length (arm a (l + 1))) is in
        run (l + 1) p1 sl' td2 (subst (λ a. HasAt C p1 (arm a (l + 1))) is (has_front C p1 f1 t2 h1))
        (λ sl2 s2 z. moves m lets hart here r p2 (p1 + length (arm k (l + 1))) sl2 s2 e2
        (jump m lets hart here r p2 pd e sl2 s2 (I.Goto e) h2.0 refl lab z)))
        (λ g. past m lets hart here r (p2 + 1) l sl' s h2.1.0
        (chain_good (w ∷ us) g (l + 1 + q) (p2 + 1 + 1) sl' td2 (told_tested kit noted p sl sl' td' t)
        (omega (arith, end, length-append t1 (f1 ++ t2), length-append f1 t2)) h2.1.1 lab)))

  -- the code by cases runs that of the case in hand
  pub by_case_good : {A : Type 0} (picks : A → List Picked) (p q : ℕ) (arm : A → ℕ → List Instruction) (noted : Noted) (s : Store) (k : A)
      (us : List A) (l pc pe : ℕ) (sl : Slots) → present picks noted us ≡ Some k → Told kit noted sl → pe ≡ pc + length (by_case picks kit p q arm l us)
      → HasAt C pc (by_case picks kit p q arm l us)
      → ((l' pc' : ℕ) (sl' : Slots) → Tested kit p sl sl' → HasAt C pc' (arm k l')
      → ((sl2 : Slots) (s2 : Store) → Runs m lets hart here pe sl2 s2 r → Runs m lets hart here (pc' + length (arm k l')) sl2 s2 r)
      → Runs m lets hart here pc' sl' s r)
      → Runs m lets hart here pc sl s r
  by_case_good picks p q arm noted s k [] l pc pe sl h t end at_ run = cc
  by_case_good picks p q arm noted s k (u ∷ []) l pc pe sl h t end at_ run =
      one_good picks p l q arm noted s k pe sl run u h l pc sl (tested_here kit p sl) end at_
  by_case_good picks p q arm noted s k (u ∷ w ∷ us) l pc pe sl h t end at_ run =
      let t1 : List Instruction = chain picks kit p l q arm (l + 1) (u ∷ w ∷ us) in
      let pd : ℕ = pc + length t1 in
      let h1 : HasAt C pd (I.Label l ∷ []) = has_back C pc t1 (I.Label l ∷ []) pd refl at_ in
      chain_good picks p l q arm noted s k pd sl
      (λ l' pc' sl' td hp out. run l' pc' sl' td hp (λ sl2 s2 z. out sl2 s2 (past m lets hart here r pd l sl2 s2 h1.0
      (moves m lets hart here r pe (pd + 1) sl2 s2 (omega (arith, end, length-append t1 (I.Label l ∷ []))) z))))
      (u ∷ w ∷ us) h (l + 1) pc sl (tested_here kit p sl) t refl (has_front C pc t1 (I.Label l ∷ []) at_) h1.0
