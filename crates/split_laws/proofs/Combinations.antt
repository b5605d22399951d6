-- The present numbers stand in a combination that counts.
use Rattle.std.proofs.Common.{◌≡◌, ◌∙◌, ap, sym, refl, subst, ℕ, nat_eq, Bool, true, false, inl, inr, List, [], ◌∷◌, ◌++◌}
use Rattle.std.specs.Prelude.{ℤ, Option, Some, None, if◌then◌else◌}
use Rattle.std.proofs.lemmas.Bool.Decides.{Decides-eqb}
use Rattle.sail_types.specs.Numbers.{Positive}
use Rattle.sail_types.specs.declared.numbers.Con.{Con}
use Rattle.sail_types.proofs.SumNumbers.{some_same}
use Rattle.value_indices.specs.Steps.{conditions}
use Rattle.size_values.specs.declared.constants.Picked.{Picked}
use Rattle.size_values.specs.Numbers.{Known, known_at, may_hold, number_in, or_open, with_picked}
use Rattle.size_splits.specs.Splits.{combinations, domain, one_where, picked, those_that_may, with_domain, with_number, with_numbers}
use Rattle.value_laws.specs.Belonging.{Integers, standing}
use Rattle.value_laws.specs.Known.{AllTrue}
use Rattle.value_laws.proofs.Basics.{no}
use Rattle.split_laws.specs.Counted.{Agrees, AreTaken, IsIn, PresentNumbersAreCounted}
use Rattle.split_laws.proofs.Basics.{in_back, in_front, in_mapped, none}
use Rattle.split_laws.proofs.Domains.{domain_has}
use Rattle.split_laws.proofs.Values.{true_may}

-- ---- what is known

known_number : (o : Option ℤ) (v : ℕ) (z : ℤ) → number_in (or_open v o) ≡ Some z → o ≡ Some z
known_number None v z h = none h
known_number (Some x) v z h = h

pub at_agrees : (f : Integers) (k : Known) → Agrees k f → (v : ℕ) (z : ℤ) → number_in (known_at k v) ≡ Some z → f v ≡ z
at_agrees f k a v z h = a v z (known_number (k v) v z h)

one_picked : (f : Integers) (p : Picked) (k : Known) (v : ℕ) (z : ℤ) (b : Bool) → nat_eq p.variable v ≡ b → f p.variable ≡ p.number
    → (k v ≡ Some z → f v ≡ z) → (if b then Some p.number else k v) ≡ Some z → f v ≡ z
one_picked f p k v z true e t more h = ap f (sym ((Decides-eqb p.variable v).0 e)) ∙ (t ∙ some_same p.number z h)
one_picked f p k v z false e t more h = more h

pub picked_agrees : (f : Integers) (k : Known) → Agrees k f → (ps : List Picked) → AreTaken f ps → Agrees (with_picked k ps) f
picked_agrees f k a [] t v z h = a v z h
picked_agrees f k a (p ∷ ps) t v z h =
    one_picked f p (with_picked k ps) v z (nat_eq p.variable v) refl (t.0) (λ e. picked_agrees f k a ps (t.1) v z e) h

-- ---- combinations

in_numbers : (v : ℕ) (w : ℤ) (ps : List Picked) (pss : List (List Picked)) (zs : List ℤ) → IsIn w zs → IsIn ps pss
    → IsIn (picked v w ∷ ps) (with_numbers v zs pss)
in_numbers v w ps pss [] h i = absurd h
in_numbers v w ps pss (z ∷ zs) (inl e) i =
    in_front (picked v w ∷ ps) (with_number v pss z) (with_numbers v zs pss)
    (subst (λ (x : ℤ). IsIn (picked v w ∷ ps) (with_number v pss x)) e (in_mapped (λ (qs : List Picked). picked v w ∷ qs) ps pss i))
in_numbers v w ps pss (z ∷ zs) (inr h) i =
    in_back (picked v w ∷ ps) (with_number v pss z) (with_numbers v zs pss) (in_numbers v w ps pss zs h i)

-- with a variable more
with_one : (f : Integers) (v : ℕ) (o : Option (List ℤ)) (pss : List (List Picked)) (ps : List Picked) → IsIn ps pss → AreTaken f ps
    → ((zs : List ℤ) → o ≡ Some zs → IsIn (f v) zs) → (qs : List Picked) × IsIn qs (with_domain v o pss) × AreTaken f qs
with_one f v None pss ps i t has = (ps, i, t)
with_one f v (Some zs) pss ps i t has = (picked v (f v) ∷ ps, in_numbers v (f v) ps pss zs (has zs refl) i, (refl, t))

one_there : (ps : List Picked) (b : Bool) → b ≡ true → IsIn ps (one_where b ps)
one_there ps true h = inl refl
one_there ps false h = no h

those : (k : Known) (cs : List Con) (ps : List Picked) (pss : List (List Picked)) → IsIn ps pss → may_hold (known_at (with_picked k ps)) cs ≡ true
    → IsIn ps (those_that_may k cs pss)
those k cs ps [] h m = absurd h
those k cs ps (q ∷ pss) (inl e) m =
    in_front ps (one_where (may_hold (known_at (with_picked k q)) cs) q) (those_that_may k cs pss)
    (subst (λ (x : List Picked). IsIn ps (one_where (may_hold (known_at (with_picked k x)) cs) x)) e
    (one_there ps (may_hold (known_at (with_picked k ps)) cs) m))
those k cs ps (q ∷ pss) (inr h) m =
    in_back ps (one_where (may_hold (known_at (with_picked k q)) cs) q) (those_that_may k cs pss) (those k cs ps pss h m)

module _ (past : Positive) (f : Integers) (k : Known) (a : Agrees k f) where
  combined : (cs : List Con) → AllTrue (standing past f) cs → (vs : List ℕ)
      → (ps : List Picked) × IsIn ps (combinations (known_at k) cs vs) × AreTaken f ps
  combined cs h [] = ([], inl refl, tt)
  combined cs h (v ∷ vs) =
      let more = combined cs h vs in
      with_one f v (domain (known_at k) v cs) (combinations (known_at k) cs vs) more.0 more.1 more.2
      (λ zs e. domain_has past f (known_at k) (at_agrees f k a) v cs zs h e)

pub present_counted : PresentNumbersAreCounted
present_counted past f k vs facts own a h both =
    let cs = conditions (facts ++ own) in
    let found = combined past f k a cs both vs in
    let with = picked_agrees f k a found.0 found.2 in
    record {
      taken = found.0;
      is_there = those k (conditions facts) found.0 (combinations (known_at k) cs vs) found.1
          (true_may past f (known_at (with_picked k found.0)) (at_agrees f (with_picked k found.0) with) (conditions facts) h);
      are = found.2;
    }
