-- Numbers that fit the same functions, instances, mappings and turns.
use Rattle.std.proofs.Common.{◌≡◌, ℕ, List, refl, subst, sym}
use Rattle.sail_core.specs.declared.model.Function.{Function}
use Rattle.sized_nodes.specs.declared.trees.NodeSizes.{NodeSizes}
use Rattle.sized_nodes.specs.declared.trees.SizedInstance.{SizedInstance}
use Rattle.jib_lower.specs.Cycles.{NumbersFit}

pub fit_same : (fs gs : List Function) (xs ys : List SizedInstance) (ms ns : List (List NodeSizes)) (ts us : List (List ℕ)) (a b : List ℕ)
    → fs ≡ gs → xs ≡ ys → ms ≡ ns → ts ≡ us → a ≡ b → NumbersFit fs xs ms ts a → NumbersFit gs ys ns us b
fit_same fs gs xs ys ms ns ts us a b f x m t n h =
    subst (λ z. NumbersFit gs ys ns us z) n
    (subst (λ z. NumbersFit gs ys ns z a) t
    (subst (λ z. NumbersFit gs ys z ts a) m (subst (λ z. NumbersFit gs z ms ts a) x (subst (λ z. NumbersFit z xs ms ts a) f h))))

pub fit_back : (fs gs : List Function) (xs ys : List SizedInstance) (ms ns : List (List NodeSizes)) (ts us : List (List ℕ)) (a : List ℕ)
    → fs ≡ gs → xs ≡ ys → ms ≡ ns → ts ≡ us → NumbersFit gs ys ns us a → NumbersFit fs xs ms ts a
fit_back fs gs xs ys ms ns ts us a f x m t h = fit_same gs fs ys xs ns ms us ts a a (sym f) (sym x) (sym m) (sym t) refl h
