-- On each way through the code of a valid module each slot is declared before it is used.
use Rattle.std.proofs.Common.{◌≡◌, ℕ, zero, suc, ◌+◌, ◌<◌, ◌≤◌, ◌⊎◌, inl, inr, List, [], ◌∷◌, ◌++◌, length, Option, Some, None, refl, sym, ap}
use Rattle.std.proofs.Common.{◌∙◌, arith, Bool, true, false, cond, eq-eqb}
use Rattle.std.specs.Prelude.{◌&&◌, ◌||◌, map, slice_get, nat_eq, nat_le, nat_lt}
use Rattle.std.proofs.lemmas.Bool.Decides.{nat_tests}
use Rattle.std.proofs.lemmas.Bool.{cases_lt}
use Rattle.jib.specs.declared.types.Sort.{Sort}
use Rattle.jib.specs.declared.code.Source.{Source}
use Rattle.jib.specs.declared.code.Source.TheVariants as R
use Rattle.jib.specs.declared.code.Target.{Target}
use Rattle.jib.specs.declared.code.Target.TheVariants as G
use Rattle.jib.specs.declared.code.Call.{Call}
use Rattle.jib.specs.declared.code.Instruction.{Instruction}
use Rattle.jib.specs.declared.code.Instruction.TheVariants as I
use Rattle.jib.specs.declared.code.Function.{Function}
use Rattle.jib.specs.declared.code.Module.{Module}
use Rattle.jib.specs.Typing.{same, is_sort, payload_typ, source_typ, target_typ}
use Rattle.jib.specs.Operands.{each, is_given, all_given, is_there, all_there, operation_typed}
use Rattle.jib.specs.Valid.{aim, is_tick, call_right, typed, lands, set_here, keeps_pure, instruction_right, function_right}
use Rattle.jib.specs.laws.Ways.{Line, Declare, Do, declarations, listing, Known, declare, Leaps, Way, begins, falls, leaps, In}
use Rattle.jib.specs.laws.Ways.{target_slots, uses, DeclaredBeforeUse}
use Rattle.jib.proofs.ValidLaws.{left_of, right_of, each_of, functions_of, code_right_of}

-- ---- the lines of a function

-- where a declaration stands
abbrev Declares : ℕ → ℕ → ℕ → ℕ → List ℕ → Type 0
Declares n k j t ts = (j ≡ n + k) × (slice_get ts k ≡ Some t)

declared_at : (n : ℕ) (ts : List ℕ) (code : List Instruction) (k j t : ℕ) → slice_get (declarations n ts ++ map Do code) k ≡ Some (Declare j t)
    → Declares n k j t ts
declared_at n [] [] k j t h = cc
declared_at n [] (i ∷ code) zero j t h = let e : Do i ≡ Declare j t = cc in cc
declared_at n [] (i ∷ code) (suc k) j t h = let r = declared_at n [] code k j t h in let e : slice_get [] k ≡ Some t = r.1 in cc
declared_at n (u ∷ ts) code zero j t h =
    let e : Declare n u ≡ Declare j t = cc in
    let a : n ≡ j = cc in
    let b : u ≡ t = cc in
    (omega arith, ap Some b)
declared_at n (u ∷ ts) code (suc k) j t h =
    let r = declared_at (n + 1) ts code k j t h in
    let a : j ≡ n + 1 + k = r.0 in
    (omega arith, r.1)

-- instructions stand behind all declarations
done_at : (n : ℕ) (ts : List ℕ) (code : List Instruction) (k : ℕ) (x : Instruction) → slice_get (declarations n ts ++ map Do code) k ≡ Some (Do x)
    → length ts ≤ k
done_at n [] code k x h = omega arith
done_at n (u ∷ ts) code zero x h = let e : Declare n u ≡ Do x = cc in cc
done_at n (u ∷ ts) code (suc k) x h = omega (arith, done_at (n + 1) ts code k x h)

-- and each is the code's
done_code : (n : ℕ) (ts : List ℕ) (code : List Instruction) (k : ℕ) (x : Instruction)
    → slice_get (declarations n ts ++ map Do code) k ≡ Some (Do x) → (p : ℕ) × (slice_get code p ≡ Some x)
done_code n [] [] k x h = cc
done_code n [] (i ∷ code) zero x h = let e : Do i ≡ Do x = cc in let q : i ≡ x = cc in (0, ap Some q)
done_code n [] (i ∷ code) (suc k) x h = let r = done_code n [] code k x h in (suc r.0, r.1)
done_code n (u ∷ ts) code zero x h = let e : Declare n u ≡ Do x = cc in cc
done_code n (u ∷ ts) code (suc k) x h = done_code (n + 1) ts code k x h

-- ---- what is declared on a way

inside : (ts : List ℕ) (i t : ℕ) → slice_get ts i ≡ Some t → i < length ts
inside [] i t h = cc
inside (u ∷ ts) zero t h = omega arith
inside (u ∷ ts) (suc i) t h = omega (arith, inside ts i t h)

abbrev Kept : List ℕ → ℕ → Known → Type 0
Kept ts at known = (i t : ℕ) → i < at → slice_get ts i ≡ Some t → known i ≡ Some t

declare_same : (j t : ℕ) (known : Known) → declare (Declare j t) known j ≡ Some t
declare_same j t known = ap (λ b. cond b (Some t) (known j)) (eq-eqb j j refl)

declare_other : (j t : ℕ) (known : Known) (i : ℕ) → i < j → declare (Declare j t) known i ≡ known i
declare_other j t known i h = let e : nat_eq j i ≡ false = grind (arith, nat_tests) in ap (λ b. cond b (Some t) (known i)) e

kept_declaration : (ts : List ℕ) (at j u : ℕ) (known : Known) → Kept ts at known → Declares 0 at j u ts → (i t : ℕ) → (i < at) ⊎ (at ≤ i)
    → i < at + 1 → slice_get ts i ≡ Some t → declare (Declare j u) known i ≡ Some t
kept_declaration ts at j u known k d i t (inl lt) h e = declare_other j u known i (omega (arith, d.0)) ∙ k i t lt e
kept_declaration ts at j u known k d i t (inr ge) h e =
    let q : i ≡ j = omega (arith, d.0) in
    let r : at ≡ i = omega arith in
    let w : Some u ≡ Some t = sym d.1 ∙ ap (slice_get ts) r ∙ e in
    ap (declare (Declare j u) known) q ∙ declare_same j u known ∙ w

kept_line : (f : Function) (at : ℕ) (known : Known) (line : Line) → Kept f.slots at known → slice_get (listing f) at ≡ Some line
    → Kept f.slots (at + 1) (declare line known)
kept_line f at known (Declare j u) k h i t lt e = kept_declaration f.slots at j u known k (declared_at 0 f.slots f.code at j u h) i t (cases_lt i at) lt e
kept_line f at known (Do x) k h i t lt e = k i t (omega (arith, inside f.slots i t e, done_at 0 f.slots f.code at x h)) e

kept_leap : (f : Function) (at to : ℕ) (known : Known) (line : Line) (l : ℕ) → Kept f.slots at known → slice_get (listing f) at ≡ Some line
    → Leaps line l → Kept f.slots to known
kept_leap f at to known (Declare j u) l k h p i t lt e = absurd p
kept_leap f at to known (Do x) l k h p i t lt e = k i t (omega (arith, inside f.slots i t e, done_at 0 f.slots f.code at x h)) e

kept : (f : Function) {at : ℕ} {known : Known} → Way (listing f) at known → Kept f.slots at known
kept f begins i t lt e = absurd (omega (arith, lt))
kept f (falls {at = at} {known = known} line w h p) i t lt e = kept_line f at known line (kept f w) h i t lt e
kept f (leaps {at = at} {to = to} {known = known} line l w h p q) i t lt e = kept_leap f at to known line l (kept f w) h p i t lt e

-- ---- what is used is there

abbrev There : Function → ℕ → Type 0
There f i = (t : ℕ) × (slice_get f.slots i ≡ Some t)

abbrev Is : Option ℕ → Type 0
Is o = (t : ℕ) × (o ≡ Some t)

same_left : (a b : Option ℕ) → same a b ≡ true → Is a
same_left None b h = cc
same_left (Some t) b h = (t, refl)

same_right : (a b : Option ℕ) → same a b ≡ true → Is b
same_right None b h = cc
same_right (Some u) None h = cc
same_right (Some u) (Some t) h = (t, refl)

there_is : (o : Option ℕ) → is_there o ≡ true → Is o
there_is None h = cc
there_is (Some t) h = (t, refl)

sort_is : (m : Module) (o : Option ℕ) (s : Sort) → is_sort m o s ≡ true → Is o
sort_is m None s h = cc
sort_is m (Some t) s h = (t, refl)

payload_is : (m : Module) (o : Option ℕ) (k : ℕ) → Is (payload_typ m o k) → Is o
payload_is m None k p = let e : None ≡ Some p.0 = p.1 in cc
payload_is m (Some t) k p = (t, refl)

-- the slot is the first, or among the rest
in_cons : (i : ℕ) (a : Source) (rs : List Source) → In i (a ∷ rs) → (a ≡ R.Slot i) ⊎ In i rs
in_cons i (R.Slot j) rs (inl e) = inl (ap R.Slot (sym e))
in_cons i (R.Slot j) rs (inr q) = inr q
in_cons i (R.Register j) rs q = inr q
in_cons i (R.Let j) rs q = inr q
in_cons i (R.Constant t l) rs q = inr q

of_source : (m : Module) (f : Function) (a : Source) (i : ℕ) → a ≡ R.Slot i → Is (source_typ m f a) → There f i
of_source m f a i e p = (p.0, ap (source_typ m f) (sym e) ∙ p.1)

in_one : (m : Module) (f : Function) (a : Source) (i : ℕ) → Is (source_typ m f a) → In i (a ∷ []) → There f i
in_one m f a i p q = by (in_cons i a [] q)
  where
    by : (a ≡ R.Slot i) ⊎ In i [] → There f i
    by (inl e) = of_source m f a i e p
    by (inr r) = absurd r

in_two : (m : Module) (f : Function) (a b : Source) (i : ℕ) → Is (source_typ m f a) → Is (source_typ m f b) → In i (a ∷ b ∷ []) → There f i
in_two m f a b i p r q = by (in_cons i a (b ∷ []) q)
  where
    by : (a ≡ R.Slot i) ⊎ In i (b ∷ []) → There f i
    by (inl e) = of_source m f a i e p
    by (inr q) = in_one m f b i r q

in_target : (m : Module) (f : Function) (t : Target) (i : ℕ) → Is (target_typ m f t) → In i (target_slots t) → There f i
in_target m f (G.Slot j) i p q = in_one m f (R.Slot j) i p q
in_target m f (G.Register j) i p q = absurd q

in_copy : (m : Module) (f : Function) (t : Target) (a : Source) (i : ℕ) → Is (source_typ m f a) → Is (target_typ m f t) → In i (a ∷ target_slots t)
    → There f i
in_copy m f t a i p r q = by (in_cons i a (target_slots t) q)
  where
    by : (a ≡ R.Slot i) ⊎ In i (target_slots t) → There f i
    by (inl e) = of_source m f a i e p
    by (inr q) = in_target m f t i r q

abbrev Typed : Module → Function → (ℕ → Source → Bool) → Type 0
Typed m f p = (k : ℕ) (a : Source) → p k a ≡ true → Is (source_typ m f a)

in_each : (m : Module) (f : Function) (p : ℕ → Source → Bool) → Typed m f p → (rs : List Source) (n i : ℕ) → each p n rs ≡ true → In i rs → There f i
in_each m f p ty [] n i h q = absurd q
in_each m f p ty (a ∷ rs) n i h q = by (in_cons i a rs q) (in_each m f p ty rs (n + 1) i (right_of (p n a) (each p (n + 1) rs) h))
  where
    by : (a ≡ R.Slot i) ⊎ In i rs → (In i rs → There f i) → There f i
    by (inl e) rec = of_source m f a i e (ty n a (left_of (p n a) (each p (n + 1) rs) h))
    by (inr q) rec = rec q

in_all : (m : Module) (f : Function) (rs : List Source) (i : ℕ) → all_there m f rs ≡ true → In i rs → There f i
in_all m f rs i h q = in_each m f (λ k a. is_there (source_typ m f a)) (λ k a. there_is (source_typ m f a)) rs 0 i h q

in_given : (m : Module) (f : Function) (ts : List ℕ) (rs : List Source) (i : ℕ) → all_given m f ts rs ≡ true → In i rs → There f i
in_given m f ts rs i h q = in_each m f (is_given m f ts) (λ k a e. same_left (source_typ m f a) (slice_get ts k) e) rs 0 i (right_of (nat_eq
    (length rs) (length ts)) (each (is_given m f ts) 0 rs) h) q

in_apply : (m : Module) (f : Function) (t : Target) (rs : List Source) (i : ℕ) → Is (target_typ m f t) → all_there m f rs ≡ true
    → In i (target_slots t ++ rs) → There f i
in_apply m f (G.Slot j) rs i p h (inl e) = (p.0, ap (slice_get f.slots) e ∙ p.1)
in_apply m f (G.Slot j) rs i p h (inr q) = in_all m f rs i h q
in_apply m f (G.Register j) rs i p h q = in_all m f rs i h q

-- the types of a call's arguments and of its result's slot
call_types : (m : Module) (f : Function) (n : ℕ) (c : Call) (g : Function) → call_right m f n c (Some g) ≡ true
    → (all_given m f g.parameters c.arguments && same (slice_get f.slots c.slot) (Some g.result)) ≡ true
call_types m f n c g h =
    left_of (all_given m f g.parameters c.arguments && same (slice_get f.slots c.slot) (Some g.result)) (nat_le g.cycle f.cycle)
    (left_of (all_given m f g.parameters c.arguments && same (slice_get f.slots c.slot) (Some g.result) && nat_le g.cycle f.cycle) (nat_le g.lets f.lets)
    (left_of (all_given m f g.parameters c.arguments && same (slice_get f.slots c.slot) (Some g.result) && nat_le g.cycle f.cycle
    && nat_le g.lets f.lets) (is_tick (slice_get g.code 0) || nat_lt c.function n) h))

in_call : (m : Module) (f : Function) (n : ℕ) (c : Call) (o : Option Function) (i : ℕ) → call_right m f n c o ≡ true
    → In i (R.Slot c.slot ∷ c.arguments) → There f i
in_call m f n c None i h q = cc
in_call m f n c (Some g) i h (inl e) =
    let p = same_left (slice_get f.slots c.slot) (Some g.result) (right_of (all_given m f g.parameters c.arguments) (same (slice_get f.slots c.slot)
    (Some g.result)) (call_types m f n c g h)) in
    (p.0, ap (slice_get f.slots) e ∙ p.1)
in_call m f n c (Some g) i h (inr q) =
    in_given m f g.parameters c.arguments i (left_of (all_given m f g.parameters c.arguments) (same (slice_get f.slots c.slot) (Some g.result))
    (call_types m f n c g h)) q

used_there : (m : Module) (f : Function) (n : ℕ) (x : Instruction) (i : ℕ) → typed m f n x ≡ true → In i (uses x) → There f i
used_there m f n (I.Copy t a) i h q = in_copy m f t a i (same_left (source_typ m f a) (target_typ m f t) h) (same_right (source_typ m f a)
    (target_typ m f t) h) q
used_there m f n (I.Apply t op rs) i h q =
    let e = left_of (is_there (target_typ m f t) && all_there m f rs) (operation_typed m f op rs (target_typ m f t)) h in
    in_apply m f t rs i (there_is (target_typ m f t) (left_of (is_there (target_typ m f t)) (all_there m f rs) e)) (right_of (is_there
    (target_typ m f t)) (all_there m f rs) e) q
used_there m f n (I.Call c) i h q = in_call m f n c (slice_get m.functions c.function) i h q
used_there m f n (I.JumpIf a l) i h q = in_one m f a i (sort_is m (source_typ m f a) _ h) q
used_there m f n (I.Payload j a k l) i h q =
    in_two m f a (R.Slot j) i (payload_is m (source_typ m f a) k (same_right (slice_get f.slots j) (payload_typ m (source_typ m f a) k) h))
    (same_left (slice_get f.slots j) (payload_typ m (source_typ m f a) k) h) q
used_there m f n (I.End a) i h q = in_one m f a i (same_left (source_typ m f a) (Some f.result) h) q
used_there m f n (I.Throw a) i h q = in_one m f a i (same_left (source_typ m f a) (Some m.exception) h) q
used_there m f n (I.Measure a) i h q = in_one m f a i (sort_is m (source_typ m f a) _ h) q
used_there m f n x i h q = absurd q

-- ---- the law

typed_of : (m : Module) (f : Function) (n pc : ℕ) (x : Instruction) → instruction_right m f n pc x ≡ true → typed m f n x ≡ true
typed_of m f n pc x h = left_of (typed m f n x) (lands f.code pc (aim x)) (left_of _ (set_here f.code pc x) (left_of _ (keeps_pure m f x) h))

pub declared_before_use : DeclaredBeforeUse
declared_before_use m v n f e = record {
  before = λ at i x known w h q.
      let c = done_code 0 f.slots f.code at x h in
      let r = each_of (instruction_right m f n) f.code c.0 x (code_right_of m n f (each_of (function_right m) m.functions n f (functions_of m v) e)) c.1 in
      let u = used_there m f n x i (typed_of m f n c.0 x r) q in
      (u.0, kept f w i u.0 (omega (arith, inside f.slots i u.0 u.1, done_at 0 f.slots f.code at x h)) u.1, u.1);
}
