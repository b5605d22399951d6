-- Calls whose numbers differ, one list behind another.
use Rattle.std.proofs.Common.{◌≡◌, ◌∙◌, ℕ, zero, suc, Bool, true, false, List, [], ◌∷◌, ◌++◌, Some, refl, sym, ap, subst}
use Rattle.std.proofs.Common.{append-nil}
use Rattle.std.specs.Prelude.{◌&&◌, nat_eq, not, slice_get, None}
use Rattle.sized_nodes.specs.declared.trees.NodeSizes.{NodeSizes}
use Rattle.sized_nodes.specs.declared.trees.NodeSizes.TheVariants as N
use Rattle.sized_nodes.specs.declared.trees.SizedInstance.{SizedInstance}
use Rattle.sized_meanings.specs.Sized.{joined_nodes}
use Rattle.jib_lower.specs.Instances.{leads_alone, no_other_leads}
use Rattle.jib_lower.specs.Leads.{AllAlone, EachAlone, heads_alone}
use Rattle.jib_lower.proofs.Basics.{some_same}

none_is : {A X : Type 0} (x : A) → None ≡ Some x → X
none_is x e = cc

and_both : (a b c : Bool) → (a && (b && c)) ≡ ((a && b) && c)
and_both true b c = refl
and_both false b c = refl

pub no_other_both : (j : ℕ) (xs ys : List NodeSizes) → no_other_leads j (xs ++ ys) ≡ (no_other_leads j xs && no_other_leads j ys)
no_other_both j [] ys = refl
no_other_both j (N.Calls i ls ∷ xs) ys =
    ap (λ b. not (nat_eq j i) && b) (no_other_both j xs ys) ∙ and_both (not (nat_eq j i)) (no_other_leads j xs) (no_other_leads j ys)
no_other_both j (N.Makes k is cs ∷ xs) ys = no_other_both j xs ys
no_other_both j (N.Gives k is ∷ xs) ys = no_other_both j xs ys

pub alone_both : (xs ys : List NodeSizes) → leads_alone (xs ++ ys) ≡ (heads_alone xs ys && leads_alone ys)
alone_both [] ys = refl
alone_both (N.Calls j ls ∷ xs) ys =
    ap (λ b. b && leads_alone (xs ++ ys)) (no_other_both j xs ys)
    ∙ ap (λ b. (no_other_leads j xs && no_other_leads j ys) && b) (alone_both xs ys)
    ∙ and_both (no_other_leads j xs && no_other_leads j ys) (heads_alone xs ys) (leads_alone ys)
alone_both (N.Makes k is cs ∷ xs) ys = alone_both xs ys
alone_both (N.Gives k is ∷ xs) ys = alone_both xs ys

and_true : (b : Bool) → (b && true) ≡ b
and_true true = refl
and_true false = refl

-- one list alone
pub alone_heads : (xs : List NodeSizes) → heads_alone xs [] ≡ leads_alone xs
alone_heads xs = sym (and_true (heads_alone xs [])) ∙ sym (alone_both xs []) ∙ ap leads_alone (append-nil xs)

pub all_alone_more : (x : SizedInstance) (xs : List SizedInstance) → leads_alone (joined_nodes x.bodies) ≡ true → AllAlone xs → AllAlone (x ∷ xs)
all_alone_more x xs h rest zero y e = subst (λ (z : SizedInstance). leads_alone (joined_nodes z.bodies) ≡ true) (some_same x y e) h
all_alone_more x xs h rest (suc p) y e = rest p y e

pub each_alone_more : (x : List NodeSizes) (xs : List (List NodeSizes)) → leads_alone x ≡ true → EachAlone xs → EachAlone (x ∷ xs)
each_alone_more x xs h rest zero y e = subst (λ z. leads_alone z ≡ true) (some_same x y e) h
each_alone_more x xs h rest (suc i) y e = rest i y e

pub none_alone : (xs : List SizedInstance) → xs ≡ [] → AllAlone xs
none_alone xs is p x e = none_is x (ap (λ ys. slice_get ys p) (sym is) ∙ e)

pub no_bodies_alone : (xs : List (List NodeSizes)) → xs ≡ [] → EachAlone xs
no_bodies_alone xs is i x e = none_is x (ap (λ ys. slice_get ys i) (sym is) ∙ e)

-- ---- where one isn't so, not all are

apart : (b : Bool) → b ≡ true → b ≡ false → ⊥
apart true t f = cc
apart false t f = cc

pub all_alone_less : (x : SizedInstance) (xs all : List SizedInstance) → all ≡ x ∷ xs → (a b : Bool) → a ≡ leads_alone (joined_nodes x.bodies)
    → (b ≡ false → AllAlone xs → ⊥) → (a && b) ≡ false → AllAlone all → ⊥
all_alone_less x xs all is true b e rest h alone = rest h (λ p y g. alone (suc p) y (ap (λ ys. slice_get ys (suc p)) is ∙ g))
all_alone_less x xs all is false b e rest h alone =
    apart (leads_alone (joined_nodes x.bodies)) (alone zero x (ap (λ ys. slice_get ys 0) is)) (sym e)

pub each_alone_less : (x : List NodeSizes) (xs all : List (List NodeSizes)) → all ≡ x ∷ xs → (a b : Bool) → a ≡ leads_alone x
    → (b ≡ false → EachAlone xs → ⊥) → (a && b) ≡ false → EachAlone all → ⊥
each_alone_less x xs all is true b e rest h alone = rest h (λ p y g. alone (suc p) y (ap (λ ys. slice_get ys (suc p)) is ∙ g))
each_alone_less x xs all is false b e rest h alone = apart (leads_alone x) (alone zero x (ap (λ ys. slice_get ys 0) is)) (sym e)
