-- The present numbers of variables that are noted are one of the combinations by which cases are told apart.
use Rattle.std.proofs.Common.{◌≡◌, ◌∙◌, ap, sym, refl, subst, ℕ, nat_eq, Bool, true, false, inl, inr, List, [], ◌∷◌, ◌++◌}
use Rattle.std.specs.Prelude.{ℤ, Some, if◌then◌else◌}
use Rattle.std.specs.List.{list_any}
use Rattle.std.specs.Ordering.{int_eq}
use Rattle.std.proofs.lemmas.Bool.{and_parts}
use Rattle.std.proofs.lemmas.Bool.Decides.{Decides-eqb, Decides-int_eq}
use Rattle.size_values.specs.declared.constants.Picked.{Picked}
use Rattle.value_laws.specs.Belonging.{Integers}
use Rattle.value_laws.proofs.Basics.{no}
use Rattle.split_laws.specs.Counted.{AreTaken, IsIn}
use Rattle.split_laws.proofs.Basics.{either, in_back, in_front, or_cases}
use Rattle.checked_meaning.specs.Checked.{Noted}
use Rattle.sized_trees.specs.Combinations.{all_picked_eq, each_once, picked_eq, picked_where, where_so, with_one}
use Rattle.sized_nodes.specs.Asked.{asked}
use Rattle.sized_meanings.specs.Laws.{AreNoted}

abbrev of_both : ℕ → ℤ → Picked
of_both v z = record { variable = v; number = z }

one_same : (p q : Picked) → picked_eq p q ≡ true → p ≡ q
one_same p q h =
    let both = and_parts (nat_eq p.variable q.variable) (int_eq p.number q.number) h in
    ap (λ (v : ℕ). of_both v p.number) ((Decides-eqb p.variable q.variable).0 both.0)
    ∙ ap (λ (z : ℤ). of_both q.variable z) ((Decides-int_eq p.number q.number).0 both.1)

all_same : (ps qs : List Picked) → all_picked_eq ps qs ≡ true → ps ≡ qs
all_same [] [] h = refl
all_same [] (q ∷ qs) h = no h
all_same (p ∷ ps) [] h = no h
all_same (p ∷ ps) (q ∷ qs) h =
    let both = and_parts (picked_eq p q) (all_picked_eq ps qs) h in
    ap (λ (x : Picked). x ∷ ps) (one_same p q both.0) ∙ ap (λ (l : List Picked). q ∷ l) (all_same ps qs both.1)

seen_in : (ps : List Picked) (seen : List (List Picked)) → list_any (all_picked_eq ps) seen ≡ true → IsIn ps seen
seen_in ps [] h = no h
seen_in ps (qs ∷ seen) h =
    either (or_cases (all_picked_eq ps qs) (list_any (all_picked_eq ps) seen) h) (λ e. inl (all_same ps qs e)) (λ e. inr (seen_in ps seen e))

-- ---- each once

kept_where : (b : Bool) (x ps : List Picked) (seen : List (List Picked)) → IsIn x seen → IsIn x (if b then seen else seen ++ ps ∷ [])
kept_where true x ps seen h = h
kept_where false x ps seen h = in_front x seen (ps ∷ []) h

new_where : (b : Bool) (ps : List Picked) (seen : List (List Picked)) → (b ≡ true → IsIn ps seen) → IsIn ps (if b then seen else seen ++ ps ∷ [])
new_where true ps seen h = h refl
new_where false ps seen h = in_back ps seen (ps ∷ []) (inl refl)

module _ (given : ℕ → Bool) where
  once_kept : (x : List Picked) (seen pss : List (List Picked)) → IsIn x seen → IsIn x (each_once given seen pss)
  once_kept x seen [] h = h
  once_kept x seen (ps ∷ pss) h =
      once_kept x (with_one seen (picked_where given ps)) pss
      (kept_where (list_any (all_picked_eq (picked_where given ps)) seen) x (picked_where given ps) seen h)

  pub once_in : (seen pss : List (List Picked)) (ps : List Picked) → IsIn ps pss → IsIn (picked_where given ps) (each_once given seen pss)
  once_in seen [] ps h = absurd h
  once_in seen (qs ∷ pss) ps (inl e) =
      let own = picked_where given qs in
      subst (λ (l : List Picked). IsIn (picked_where given l) (each_once given (with_one seen own) pss)) (sym e)
      (once_kept own (with_one seen own) pss (new_where (list_any (all_picked_eq own) seen) own seen (seen_in own seen)))
  once_in seen (qs ∷ pss) ps (inr h) = once_in (with_one seen (picked_where given qs)) pss ps h

  -- ---- of those that are noted

  where_taken : (f : Integers) (b : Bool) (p : Picked) (ps : List Picked) → f p.variable ≡ p.number → AreTaken f ps → AreTaken f (where_so b p ++ ps)
  where_taken f true p ps e t = (e, t)
  where_taken f false p ps e t = t

  pub still_taken : (f : Integers) (ps : List Picked) → AreTaken f ps → AreTaken f (picked_where given ps)
  still_taken f [] t = tt
  still_taken f (p ∷ ps) t = where_taken f (given p.variable) p (picked_where given ps) (t.0) (still_taken f ps (t.1))

  where_noted : (noted : Noted) (b : Bool) (p : Picked) (ps : List Picked) → (b ≡ true → noted p.variable ≡ Some p.number) → AreNoted noted ps
      → AreNoted noted (where_so b p ++ ps)
  where_noted noted true p ps e n = (e refl, n)
  where_noted noted false p ps e n = n

  pub are_noted : (noted : Noted) (f : Integers) → ((v : ℕ) → given v ≡ true → noted v ≡ Some (f v)) → (ps : List Picked) → AreTaken f ps
      → AreNoted noted (picked_where given ps)
  are_noted noted f h [] t = tt
  are_noted noted f h (p ∷ ps) t =
      where_noted noted (given p.variable) p (picked_where given ps) (λ e. h p.variable e ∙ ap (λ (z : ℤ). Some z) (t.0))
      (are_noted noted f h ps (t.1))

  where_too : (f g : Integers) (b : Bool) (p : Picked) (ps : List Picked) → (b ≡ true → f p.variable ≡ g p.variable) → f p.variable ≡ p.number
      → AreTaken g ps → AreTaken g (where_so b p ++ ps)
  where_too f g true p ps e h t = (sym (e refl) ∙ h, t)
  where_too f g false p ps e h t = t

  -- those of variables whose integers are the same
  pub taken_too : (f g : Integers) → ((v : ℕ) → given v ≡ true → f v ≡ g v) → (ps : List Picked) → AreTaken f ps → AreTaken g (picked_where given ps)
  taken_too f g e [] t = tt
  taken_too f g e (p ∷ ps) t = where_too f g (given p.variable) p (picked_where given ps) (e p.variable) t.0 (taken_too f g e ps t.1)

-- ---- several together

pub both_taken : (f : Integers) (qs ps : List Picked) → AreTaken f qs → AreTaken f ps → AreTaken f (qs ++ ps)
both_taken f [] ps s t = t
both_taken f (q ∷ qs) ps s t = (s.0, both_taken f qs ps s.1 t)

pub both_noted : (noted : Noted) (qs ps : List Picked) → AreNoted noted qs → AreNoted noted ps → AreNoted noted (qs ++ ps)
both_noted noted [] ps s t = t
both_noted noted (q ∷ qs) ps s t = (s.0, both_noted noted qs ps s.1 t)

heads : {A : Type 0} (x y : A) (xs ys : List A) → x ∷ xs ≡ y ∷ ys → x ≡ y
heads x y xs ys e = cc e

tails : {A : Type 0} (x y : A) (xs ys : List A) → x ∷ xs ≡ y ∷ ys → xs ≡ ys
tails x y xs ys e = cc e

-- as long in front, they are told apart
pub both_same : (qs ps us ts : List Picked) → asked qs ≡ asked us → qs ++ ps ≡ us ++ ts → (qs ≡ us) × (ps ≡ ts)
both_same [] ps [] ts a e = (refl, e)
both_same [] ps (u ∷ us) ts a e = let h : [] ≡ u.variable ∷ asked us = a in absurd (cc)
both_same (q ∷ qs) ps [] ts a e = let h : q.variable ∷ asked qs ≡ [] = a in absurd (cc)
both_same (q ∷ qs) ps (u ∷ us) ts a e =
    let more = both_same qs ps us ts (tails q.variable u.variable (asked qs) (asked us) a) (tails q u (qs ++ ps) (us ++ ts) e) in
    let first : q ≡ u = heads q u (qs ++ ps) (us ++ ts) e in
    ((λ j. first j ∷ more.0 j), more.1)
