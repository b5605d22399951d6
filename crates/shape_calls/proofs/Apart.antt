-- Failures that are noted apart are noted as they would be one by one.
use Rattle.std.proofs.Common.{◌≡◌, ℕ, Bool, true, false, ◌&&◌, ◌||◌, nat_lt, nat_eq, cond, List, [], ◌∷◌, Option, Some, None}
use Rattle.std.proofs.Common.{is_some, refl, sym, ap, ◌∙◌, arith}
use Rattle.std.proofs.lemmas.Bool.Decides.{nat_tests}
use Rattle.shape_rules.specs.declared.error.ShapeError.{ShapeError}
use Rattle.shape_rules.specs.Findings.{position_of, is_less, is_before, earlier, first_failure}
use Rattle.shape_rules.proofs.Firsts.{not_less}
use Rattle.shape_rules.specs.Calls.{has_some}
use Rattle.shape_calls.specs.Apart.{note_of}

before_at : (x y z : ℕ) (a b c : Bool) → (a ≡ true → b ≡ true → c ≡ true)
    → (nat_lt x y || (nat_eq x y && a)) ≡ true → (nat_lt y z || (nat_eq y z && b)) ≡ true → (nat_lt x z || (nat_eq x z && c)) ≡ true
before_at x y z a b c rest h k = grind (arith, nat_tests)

-- what is before one that is before a third is before the third
less_again : (xs ys zs : List ℕ) → is_less xs ys ≡ true → is_less ys zs ≡ true → is_less xs zs ≡ true
less_again [] [] zs h k = absurd (cc)
less_again [] (y ∷ ys) [] h k = absurd (cc)
less_again [] (y ∷ ys) (z ∷ zs) h k = refl
less_again (x ∷ xs) [] zs h k = absurd (cc)
less_again (x ∷ xs) (y ∷ ys) [] h k = absurd (cc)
less_again (x ∷ xs) (y ∷ ys) (z ∷ zs) h k = before_at x y z (is_less xs ys) (is_less ys zs) (is_less xs zs) (less_again xs ys zs) h k

one_apart : (b : Bool) (x e : ShapeError) → cond b (Some e) (Some x) ≡ note_of None (cond b (Some e) (Some x))
one_apart true x e = refl
one_apart false x e = refl

three_apart : (k x e : ShapeError) (p q r : Bool) → is_before x k ≡ p → is_before e x ≡ q → is_before e k ≡ r
    → earlier (cond p (Some x) (Some k)) e ≡ note_of (Some k) (cond q (Some e) (Some x))
three_apart k x e true true true p q r = ap (λ b. cond b (Some e) (Some x)) q ∙ sym (ap (λ b. cond b (Some e) (Some k)) r)
three_apart k x e true true false p q r =
    let after : is_before e k ≡ true = less_again (position_of e) (position_of x) (position_of k) q p in absurd (cc)
three_apart k x e true false r' p q r = ap (λ b. cond b (Some e) (Some x)) q ∙ sym (ap (λ b. cond b (Some x) (Some k)) p)
three_apart k x e false true r' p q r = refl
three_apart k x e false false true p q r =
    let after : is_before e k ≡ false = not_less (position_of e) (position_of x) (position_of k) q p in absurd (cc)
three_apart k x e false false false p q r = ap (λ b. cond b (Some e) (Some k)) r ∙ sym (ap (λ b. cond b (Some x) (Some k)) p)

again : (kept apart : Option ShapeError) (e : ShapeError) → earlier (note_of kept apart) e ≡ note_of kept (earlier apart e)
again kept None e = refl
again None (Some x) e = one_apart (is_before e x) x e
again (Some k) (Some x) e = three_apart k x e (is_before x k) (is_before e x) (is_before e k) refl refl refl

all_again : (kept apart : Option ShapeError) (es : List ShapeError) → first_failure (note_of kept apart) es ≡ note_of kept (first_failure apart es)
all_again kept apart [] = refl
all_again kept apart (e ∷ es) = ap (λ k. first_failure k es) (again kept apart e) ∙ all_again kept (earlier apart e) es

-- the first of failures behind one that was kept is the first of that and of the first of those
pub noted_apart : (kept : Option ShapeError) (es : List ShapeError) → note_of kept (first_failure None es) ≡ first_failure kept es
noted_apart kept es = sym (all_again kept None es)

one_kept : (b : Bool) (e f : ShapeError) → (k : ShapeError) × (cond b (Some e) (Some f) ≡ Some k)
one_kept true e f = (e, refl)
one_kept false e f = (f, refl)

some_kept : (e : ShapeError) (es : List ShapeError) → is_some (first_failure (Some e) es) ≡ true
some_kept e [] = refl
some_kept e (f ∷ es) =
    let next = one_kept (is_before f e) f e in
    ap (λ k. is_some (first_failure k es)) next.1 ∙ some_kept next.0 es

-- there is a first failure where there is one
pub some_noted : (es : List ShapeError) → is_some (first_failure None es) ≡ has_some es
some_noted [] = refl
some_noted (e ∷ es) = some_kept e es
