-- Facts of which those that have no variable of a kind are left out, for a goal whose variables are of that kind.
use Rattle.std.proofs.Common.{◌≡◌, ℕ, zero, suc, Bool, true, false, List, [], ◌∷◌, ◌++◌, length, sym, ap, ◌∙◌, refl, arith, length-append}
use Rattle.std.specs.Prelude.{if◌then◌else◌}
use Rattle.std.specs.List.{list_any, list_all}
use Rattle.std.proofs.lemmas.List.Folds.{list_all-append}
use Rattle.std.proofs.lemmas.Bool.{false≢true}
use Rattle.sail_types.specs.declared.numbers.Atom.{Atom}
use Rattle.sail_types.specs.declared.numbers.Con.{Con}
use Rattle.sail_types.specs.Sums.{eq_atom}
use Rattle.sail_types.proofs.EqualAtoms.{eq_atom-Decides}
use Rattle.linear.specs.Choices.{variables_in}
use Rattle.obligations.specs.Connected.{has_atom, shares, spread, spread_for, sharing, connected}
use Rattle.obligations.proofs.Same.{same_back, sharing_same}
use Rattle.fact_index.specs.Picked.{IsAsGood, IsWhole}
use Rattle.fact_index.proofs.Bools.{or_split, and_both, and_first, and_second, not_by, any_into}
use Rattle.fact_index.proofs.Rounds.{enough}

-- ---- several facts

spread_append : (cs ds : List Con) (xs : List Atom) → spread (cs ++ ds) xs ≡ spread ds (spread cs xs)
spread_append [] ds xs = refl
spread_append (c ∷ cs) ds xs = spread_append cs ds _

sharing_put : (c : Con) (ls ms ns : List Con) (t : Bool) → ns ≡ ls ++ ms → (if t then c ∷ ns else ns) ≡ (if t then c ∷ ls else ls) ++ ms
sharing_put c ls ms ns true e = ap (λ l. c ∷ l) e
sharing_put c ls ms ns false e = e

sharing_append : (xs : List Atom) (cs ds : List Con) → sharing xs (cs ++ ds) ≡ sharing xs cs ++ sharing xs ds
sharing_append xs [] ds = refl
sharing_append xs (c ∷ cs) ds =
    sharing_put c (sharing xs cs) (sharing xs ds) (sharing xs (cs ++ ds)) (shares (variables_in c) xs) (sharing_append xs cs ds)

-- ---- variables of a kind

module _ (f : Atom → Bool) where
  kind_of : (a : Atom) (xs : List Atom) → list_all f xs ≡ true → list_any (eq_atom a) xs ≡ true → f a ≡ true
  kind_of a [] e h = absurd (false≢true h)
  kind_of a (x ∷ xs) e h =
      or_split (eq_atom a x) (list_any (eq_atom a) xs) h (λ k. ap f ((eq_atom-Decides a x).0 k) ∙ and_first (f x) (list_all f xs) e)
      (λ k. kind_of a xs (and_second (f x) (list_all f xs) e) k)

  shared_kind : (vs xs : List Atom) → list_all f xs ≡ true → shares vs xs ≡ true → list_any f vs ≡ true
  shared_kind vs xs e = any_into (has_atom xs) f (λ a. kind_of a xs e) vs

  not_shared : (vs xs : List Atom) → list_all f xs ≡ true → list_any f vs ≡ false → shares vs xs ≡ false
  not_shared vs xs e none = not_by (shares vs xs) (λ k. false≢true (sym none ∙ shared_kind vs xs e k))

  kind_put : (vs xs : List Atom) (t : Bool) → (t ≡ true → list_all f vs ≡ true) → list_all f xs ≡ true → list_all f (if t then vs ++ xs else xs) ≡ true
  kind_put vs xs true h e = list_all-append f vs xs ∙ and_both (list_all f vs) (list_all f xs) (h refl) e
  kind_put vs xs false h e = e

  -- ---- facts that are as good

  pub good_none : IsAsGood f [] []
  good_none = record { spread_alike = λ xs e. refl; spread_kind = λ xs e. e; share_alike = λ xs e. refl; shorter = omega arith }

  pub good_kept : (c : Con) → IsWhole f c → IsAsGood f (c ∷ []) (c ∷ [])
  good_kept c whole = record {
    spread_alike = λ xs e. refl;
    spread_kind = λ xs e. kind_put (variables_in c) xs (shares (variables_in c) xs) (λ k. whole (shared_kind (variables_in c) xs e k)) e;
    share_alike = λ xs e. refl;
    shorter = omega arith;
  }

  pub good_left : (c : Con) → list_any f (variables_in c) ≡ false → IsAsGood f (c ∷ []) []
  good_left c none = record {
    spread_alike = λ xs e. ap (λ b. if b then variables_in c ++ xs else xs) (not_shared (variables_in c) xs e none);
    spread_kind = λ xs e. ap (λ b. list_all f (if b then variables_in c ++ xs else xs)) (not_shared (variables_in c) xs e none) ∙ e;
    share_alike = λ xs e. ap (λ b. if b then c ∷ [] else []) (not_shared (variables_in c) xs e none);
    shorter = omega arith;
  }

  pub good_append : (cs ds ps qs : List Con) → IsAsGood f cs ps → IsAsGood f ds qs → IsAsGood f (cs ++ ds) (ps ++ qs)
  good_append cs ds ps qs h k = record {
    spread_alike = λ xs e.
        spread_append cs ds xs
        ∙ (k.spread_alike (spread cs xs) (h.spread_kind xs e) ∙ (ap (spread qs) (h.spread_alike xs e) ∙ sym (spread_append ps qs xs)));
    spread_kind = λ xs e. ap (list_all f) (spread_append cs ds xs) ∙ k.spread_kind (spread cs xs) (h.spread_kind xs e);
    share_alike = λ xs e.
        sharing_append xs cs ds ∙ ((λ j. h.share_alike xs e j ++ k.share_alike xs e j) ∙ sym (sharing_append xs ps qs));
    shorter = (let a = h.shorter in let b = k.shorter in let m = length-append cs ds in let n = length-append ps qs in omega (arith, a, b, m, n));
  }

  rounds : (n : ℕ) (cs ps : List Con) (xs : List Atom) → IsAsGood f cs ps → list_all f xs ≡ true
      → (spread_for n cs xs ≡ spread_for n ps xs) × (list_all f (spread_for n cs xs) ≡ true)
  rounds zero cs ps xs h e = (refl, e)
  rounds (suc n) cs ps xs h e =
      let r = rounds n cs ps (spread cs xs) h (h.spread_kind xs e) in (r.0 ∙ ap (spread_for n ps) (h.spread_alike xs e), r.1)

  -- the same facts are connected to a goal
  pub good_connected : (cs ps : List Con) (vs : List Atom) → (vs ≡ [] → ⊥) → IsAsGood f cs ps → list_all f vs ≡ true
      → connected ps vs ≡ connected cs vs
  good_connected cs ps [] some h e = absurd (some refl)
  good_connected cs ps (v ∷ vs) some h e =
      let r = rounds (length cs) cs ps (v ∷ vs) h e in
      sharing_same ps (spread_for (length ps) ps (v ∷ vs)) (spread_for (length cs) ps (v ∷ vs))
      (same_back (spread_for (length cs) ps (v ∷ vs)) (spread_for (length ps) ps (v ∷ vs)) (enough (length cs) ps (v ∷ vs) h.shorter))
      ∙ (ap (λ l. sharing l ps) (sym r.0) ∙ sym (h.share_alike (spread_for (length cs) cs (v ∷ vs)) r.1))
