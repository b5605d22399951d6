-- What is said of nodes, tree by tree.
use Rattle.std.proofs.Common.{◌≡◌, ◌∙◌, ℕ, ◌+◌, ◌<◌, Bool, true, false, List, [], ◌∷◌, ◌++◌, length, take, get_or, Some, None, refl, sym, ap}
use Rattle.std.proofs.Common.{append_assoc}
use Rattle.std.proofs.Common.{if◌then◌else◌}
use Rattle.std.specs.Prelude.{◌&&◌, nat_eq}
use Rattle.std.proofs.lemmas.Bool.Decides.{nat_tests}
use Rattle.std.proofs.Common.{arith, append-nil}
use Rattle.std.proofs.lemmas.List.{take_more}
use Rattle.sail_core.specs.declared.tree.Giver.{Giver}
use Rattle.sail_types.specs.Places.{first}
use Rattle.sized_nodes.specs.declared.trees.Case.{Case}
use Rattle.sized_nodes.specs.declared.trees.Lead.{Lead}
use Rattle.sized_nodes.specs.declared.trees.NodeSizes.{NodeSizes}
use Rattle.sized_nodes.specs.declared.trees.NodeSizes.TheVariants as Z
use Rattle.sized_meanings.specs.Present.{gives_at, gives_in}
use Rattle.lowered_pieces.specs.Nodes.{cases_at, leads_at, takes_many}
use Rattle.lowered_steps.specs.Found.{cases_found, leads_found}

some_same : {A : Type 0} (x y : A) → Some x ≡ Some y → x ≡ y
some_same x y e = cc

none_is : {A X : Type 0} (x : A) → None ≡ Some x → X
none_is x e = cc

some_is : {A X : Type 0} (x : A) → Some x ≡ None → X
some_is x e = cc

turned : (k j : ℕ) → nat_eq k j ≡ nat_eq j k
turned k j = grind (arith, nat_tests)

-- ---- cases

pub cases_some : (k n : ℕ) (xs ys : List NodeSizes) (cs : List Case) → cases_found k n xs ≡ Some cs → cases_at k n (xs ++ ys) ≡ cs
cases_some k n [] ys cs h = none_is cs h
cases_some k n (Z.Makes j i ds ∷ xs) ys cs h =
    ap (λ b. if b && takes_many n ds then ds else cases_at k n (xs ++ ys)) (turned k j)
    ∙ by (nat_eq j k && takes_many n ds) h (λ e. cases_some k n xs ys cs e)
  where
    by : (b : Bool) → first (if b then Some ds else None) (cases_found k n xs) ≡ Some cs
        → (cases_found k n xs ≡ Some cs → cases_at k n (xs ++ ys) ≡ cs) → (if b then ds else cases_at k n (xs ++ ys)) ≡ cs
    by true e rest = some_same ds cs e
    by false e rest = rest e
cases_some k n (Z.Calls j ls ∷ xs) ys cs h = cases_some k n xs ys cs h
cases_some k n (Z.Gives g i ∷ xs) ys cs h = cases_some k n xs ys cs h

pub cases_none : (k n : ℕ) (xs ys : List NodeSizes) → cases_found k n xs ≡ None → cases_at k n (xs ++ ys) ≡ cases_at k n ys
cases_none k n [] ys h = refl
cases_none k n (Z.Makes j i ds ∷ xs) ys h =
    ap (λ b. if b && takes_many n ds then ds else cases_at k n (xs ++ ys)) (turned k j)
    ∙ by (nat_eq j k && takes_many n ds) h (λ e. cases_none k n xs ys e)
  where
    by : (b : Bool) → first (if b then Some ds else None) (cases_found k n xs) ≡ None
        → (cases_found k n xs ≡ None → cases_at k n (xs ++ ys) ≡ cases_at k n ys) → (if b then ds else cases_at k n (xs ++ ys)) ≡ cases_at k n ys
    by true e rest = some_is ds e
    by false e rest = rest e
cases_none k n (Z.Calls j ls ∷ xs) ys h = cases_none k n xs ys h
cases_none k n (Z.Gives g i ∷ xs) ys h = cases_none k n xs ys h

-- ---- leads

pub leads_some : (k : ℕ) (xs ys : List NodeSizes) (ls : List Lead) → leads_found k xs ≡ Some ls → leads_at k (xs ++ ys) ≡ ls
leads_some k [] ys ls h = none_is ls h
leads_some k (Z.Calls j ms ∷ xs) ys ls h =
    ap (λ b. if b then ms else leads_at k (xs ++ ys)) (turned k j) ∙ by (nat_eq j k) h (λ e. leads_some k xs ys ls e)
  where
    by : (b : Bool) → first (if b then Some ms else None) (leads_found k xs) ≡ Some ls
        → (leads_found k xs ≡ Some ls → leads_at k (xs ++ ys) ≡ ls) → (if b then ms else leads_at k (xs ++ ys)) ≡ ls
    by true e rest = some_same ms ls e
    by false e rest = rest e
leads_some k (Z.Makes j i cs ∷ xs) ys ls h = leads_some k xs ys ls h
leads_some k (Z.Gives g i ∷ xs) ys ls h = leads_some k xs ys ls h

pub leads_none : (k : ℕ) (xs ys : List NodeSizes) → leads_found k xs ≡ None → leads_at k (xs ++ ys) ≡ leads_at k ys
leads_none k [] ys h = refl
leads_none k (Z.Calls j ms ∷ xs) ys h =
    ap (λ b. if b then ms else leads_at k (xs ++ ys)) (turned k j) ∙ by (nat_eq j k) h (λ e. leads_none k xs ys e)
  where
    by : (b : Bool) → first (if b then Some ms else None) (leads_found k xs) ≡ None
        → (leads_found k xs ≡ None → leads_at k (xs ++ ys) ≡ leads_at k ys) → (if b then ms else leads_at k (xs ++ ys)) ≡ leads_at k ys
    by true e rest = some_is ms e
    by false e rest = rest e
leads_none k (Z.Makes j i cs ∷ xs) ys h = leads_none k xs ys h
leads_none k (Z.Gives g i ∷ xs) ys h = leads_none k xs ys h

-- ---- what is given

pub gives_both : (xs ys : List NodeSizes) (g : Giver) → gives_at (xs ++ ys) g ≡ gives_at xs g ++ gives_at ys g
gives_both [] ys g = refl
gives_both (x ∷ xs) ys g = ap (λ us. gives_in g x ++ us) (gives_both xs ys g) ∙ sym (append_assoc (gives_in g x) (gives_at xs g) (gives_at ys g))

pub gives_more : (xs : List NodeSizes) (k : ℕ) (x : NodeSizes) (g : Giver) → k < length xs → x ≡ get_or xs k x
    → gives_at (take (k + 1) xs) g ≡ gives_at (take k xs) g ++ gives_in g x
gives_more xs k x g within is =
    ap (λ us. gives_at us g) (take_more xs k x within ∙ ap (λ y. take k xs ++ y ∷ []) (sym is))
    ∙ gives_both (take k xs) (x ∷ []) g ∙ ap (λ us. gives_at (take k xs) g ++ us) (append-nil (gives_in g x))
