-- The tables of a valid module have the places of the labels that are jumped to.
use Rattle.std.proofs.Common.{◌≡◌, ℕ, zero, suc, ◌+◌, List, [], ◌∷◌, map, Option, Some, None, refl, sym, ap, ◌∙◌, subst, arith, Bool, true, false, cond}
use Rattle.std.specs.Prelude.{slice_get, slice_index_or, nat_eq, unwrap_or}
use Rattle.std.proofs.lemmas.Bool.Decides.{nat_tests}
use Rattle.jib.specs.declared.code.Instruction.{Instruction}
use Rattle.jib.specs.declared.code.Instruction.TheVariants as I
use Rattle.jib.specs.declared.code.Function.{Function}
use Rattle.jib.specs.declared.code.Module.{Module}
use Rattle.jib.specs.Jib.{at, or_stop, code_of, code_in}
use Rattle.jib.specs.Valid.{valid, aim, is_label, place_from}
use Rattle.jib.proofs.Ticking.{Targets}
use Rattle.jib.proofs.ValidLaws.{valid_ticking, valid_set}
use Rattle.jib_machine.specs.parts.Runs.{Ready, table_of}
use Rattle.jib_machine.specs.parts.Tables.{aimed, aims, table_for, tables_for}

aims_at : (c is : List Instruction) (pc : ℕ) → slice_index_or (aims c is) pc 0 ≡ aimed c (aim (at is pc))
aims_at c [] pc = refl
aims_at c (i ∷ is) zero = refl
aims_at c (i ∷ is) (suc pc) = aims_at c is pc

tables_at : (fs : List Function) (f : ℕ) → table_of (tables_for fs) f ≡ aims (code_in (slice_get fs f)) (code_in (slice_get fs f))
tables_at [] f = refl
tables_at (g ∷ fs) zero = refl
tables_at (g ∷ fs) (suc f) = tables_at fs f

label_is : (l : ℕ) (i : Instruction) → is_label l i ≡ true → i ≡ I.Label l
label_is l (I.Label k) h = let e : k ≡ l = grind (arith, nat_tests) in ap I.Label e
label_is l i h = cc

own_label : (l : ℕ) → is_label l (I.Label l) ≡ true
own_label l = grind (arith, nat_tests)

-- where a label is set, its first place is one
abbrev Found : ℕ → ℕ → List Instruction → Type 0
Found l n c = (k : ℕ) × (place_from l n c ≡ Some (n + k)) × (slice_get c k ≡ Some (I.Label l))

found_by : (l n : ℕ) (i : Instruction) (c : List Instruction) (b : Bool) → is_label l i ≡ b → (p : ℕ) → slice_get (i ∷ c) p ≡ Some (I.Label l)
    → ((p' : ℕ) → slice_get c p' ≡ Some (I.Label l) → Found l (n + 1) c) → Found l n (i ∷ c)
found_by l n i c true e p h rec =
    let z : n ≡ n + 0 = omega arith in
    (0, ap (λ b. cond b (Some n) (place_from l (n + 1) c)) e ∙ ap Some z, ap Some (label_is l i e))
found_by l n i c false e zero h rec =
    let is : i ≡ I.Label l = cc in
    let no_ : true ≡ false = sym (own_label l) ∙ sym (ap (is_label l) is) ∙ e in
    absurd (cc)
found_by l n i c false e (suc p) h rec =
    let r = rec p h in
    let z : (n + 1) + r.0 ≡ n + suc r.0 = omega arith in
    (suc r.0, ap (λ b. cond b (Some n) (place_from l (n + 1) c)) e ∙ r.1 ∙ ap Some z, r.2)

found : (l n : ℕ) (c : List Instruction) (p : ℕ) → slice_get c p ≡ Some (I.Label l) → Found l n c
found l n [] p h = cc
found l n (i ∷ c) p h = found_by l n i c (is_label l i) refl p h (λ p' h'. found l (n + 1) c p' h')

aimed_is : (c : List Instruction) (l p : ℕ) → slice_get c p ≡ Some (I.Label l) → slice_get c (aimed c (Some l)) ≡ Some (I.Label l)
aimed_is c l p h =
    let f = found l 0 c p h in
    let z : 0 + f.0 ≡ f.0 = omega arith in
    ap (λ o. slice_get c (unwrap_or o 0)) f.1 ∙ ap (slice_get c) z ∙ f.2

aim_of : (i : Instruction) (l : ℕ) → Targets i l → aim i ≡ Some l
aim_of (I.JumpIf a k) l t = ap Some t
aim_of (I.Payload i a n k) l t = ap Some t
aim_of (I.Goto k) l t = ap Some t
aim_of (I.Call c) l t = ap Some t
aim_of i l t = absurd t

pub ready_made : (m : Module) (places : List (List ℕ)) → valid m ≡ true → places ≡ tables_for m.functions → Ready m places
ready_made m places v e = record {
  finds = λ f pc l t.
      let set = valid_set m v in
      let s = set.set f pc l t in
      let a : aim (at (code_of m f) pc) ≡ Some l = aim_of (at (code_of m f) pc) l t in
      let p : slice_index_or (table_of places f) pc 0 ≡ aimed (code_of m f) (Some l) =
      ap (λ q. slice_index_or (table_of q f) pc 0) e ∙ ap (λ q. slice_index_or q pc 0) (tables_at m.functions f)
      ∙ aims_at (code_of m f) (code_of m f) pc ∙ ap (aimed (code_of m f)) a in
      ap (slice_get (code_of m f)) p ∙ aimed_is (code_of m f) l s.0 s.1;
  ticks = valid_ticking m v;
}
