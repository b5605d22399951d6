-- Where the noted numbers are those of one of the cases of a node, one with the same numbers is present.
use Rattle.std.proofs.Common.{◌≡◌, ◌∙◌, ap, sym, refl}
use Rattle.std.proofs.lemmas.Bool.Decides.{Decides-int_eq}
use Rattle.std.specs.Prelude.{ℕ, ℤ, Bool, true, false, ◌&&◌, List, [], ◌∷◌, ◌++◌, Option, Some, None, is_some, if◌then◌else◌}
use Rattle.size_values.specs.declared.constants.Picked.{Picked}
use Rattle.checked_meaning.specs.Checked.{Noted}
use Rattle.sized_nodes.specs.Asked.{Each, asked}
use Rattle.sized_meanings.specs.Present.{is_noted, is_present, is_same, present}
use Rattle.sized_meanings.specs.Laws.{AreNoted, Found}

-- ---- numbers that are taken for the same variables

abbrev of_both : ℕ → ℤ → Picked
of_both v z = record { variable = v; number = z }

same_one : (p q : Picked) → p.variable ≡ q.variable → p.number ≡ q.number → p ≡ q
same_one p q e f = ap (λ (v : ℕ). of_both v p.number) e ∙ ap (λ (z : ℤ). of_both q.variable z) f

heads : (v w : ℕ) (vs ws : List ℕ) → v ∷ vs ≡ w ∷ ws → v ≡ w
heads v w vs ws e = cc e

tails : (v w : ℕ) (vs ws : List ℕ) → v ∷ vs ≡ w ∷ ws → vs ≡ ws
tails v w vs ws e = cc e

both_true : (b c : Bool) → (b && c) ≡ true → (b ≡ true) × (c ≡ true)
both_true true c e = (refl, e)
both_true false c e = let h : false ≡ true = e in absurd (cc)

same_number : (o : Option ℤ) (x z : ℤ) → o ≡ Some x → is_same o z ≡ true → x ≡ z
same_number o x z e h = (Decides-int_eq x z).0 (sym (ap (λ (p : Option ℤ). is_same p z) e) ∙ h)

module _ (noted : Noted) where
  asked_noted : (ps qs : List Picked) → asked ps ≡ asked qs → AreNoted noted ps → is_noted noted qs ≡ true
  asked_noted [] [] e n = refl
  asked_noted [] (q ∷ qs) e n = let h : [] ≡ q.variable ∷ asked qs = e in absurd (cc)
  asked_noted (p ∷ ps) [] e n = let h : p.variable ∷ asked ps ≡ [] = e in absurd (cc)
  asked_noted (p ∷ ps) (q ∷ qs) e n =
      ap (λ (o : Option ℤ). is_some o && is_noted noted qs) (ap noted (sym (heads p.variable q.variable (asked ps) (asked qs) e)) ∙ n.0)
      ∙ asked_noted ps qs (tails p.variable q.variable (asked ps) (asked qs) e) n.1

  are_same : (ps qs : List Picked) → asked ps ≡ asked qs → AreNoted noted ps → is_present noted qs ≡ true → qs ≡ ps
  are_same [] [] e n h = refl
  are_same [] (q ∷ qs) e n h = let k : [] ≡ q.variable ∷ asked qs = e in absurd (cc)
  are_same (p ∷ ps) [] e n h = let k : p.variable ∷ asked ps ≡ [] = e in absurd (cc)
  are_same (p ∷ ps) (q ∷ qs) e n h =
      let v : p.variable ≡ q.variable = heads p.variable q.variable (asked ps) (asked qs) e in
      let both = both_true (is_same (noted q.variable) q.number) (is_present noted qs) h in
      let z : p.number ≡ q.number = same_number (noted q.variable) p.number q.number (ap noted (sym v) ∙ n.0) both.0 in
      ap (λ (x : Picked). x ∷ qs) (sym (same_one p q v z))
      ∙ ap (λ (l : List Picked). p ∷ l) (are_same ps qs (tails p.variable q.variable (asked ps) (asked qs) e) n.1 both.1)

  are_present : (ps : List Picked) → AreNoted noted ps → is_present noted ps ≡ true
  are_present [] n = refl
  are_present (p ∷ ps) n =
      ap (λ (o : Option ℤ). is_same o p.number && is_present noted ps) n.0
      ∙ (ap (λ (b : Bool). b && is_present noted ps) ((Decides-int_eq p.number p.number).1 refl) ∙ are_present ps n.1)

  -- ---- the first that is present

  module _ {A : Type 0} (picks : A → List Picked) where
    here : (is_there is_it : Bool) (x : A) (behind : Option A) → is_there ≡ true → is_it ≡ true
        → Found picks (picks x) (if is_there then (if is_it then Some x else behind) else None)
    here true true x behind e f = record { it = x; is_there = refl; same = refl }
    here true false x behind e f = absurd (cc)
    here false is_it x behind e f = absurd (cc)

    here_or_behind : (is_there is_it : Bool) (y : A) (behind : Option A) (ps : List Picked) → is_there ≡ true → (is_it ≡ true → picks y ≡ ps)
        → Found picks ps behind → Found picks ps (if is_there then (if is_it then Some y else behind) else None)
    here_or_behind true true y behind ps e h found = record { it = y; is_there = refl; same = h refl }
    here_or_behind true false y behind ps e h found = found
    here_or_behind false is_it y behind ps e h found = absurd (cc)

    abbrev Asks : List ℕ → A → Type 0
    Asks vs x = asked (picks x) ≡ vs

    asks_there : (vs : List ℕ) (front : List A) (x : A) (back : List A) → Each (Asks vs) (front ++ x ∷ back) → Asks vs x
    asks_there vs [] x back e = e.0
    asks_there vs (y ∷ ys) x back e = asks_there vs ys x back e.1

    pub found : (vs : List ℕ) (front : List A) (x : A) (back : List A) → Each (Asks vs) (front ++ x ∷ back) → AreNoted noted (picks x)
        → Found picks (picks x) (present picks noted (front ++ x ∷ back))
    found vs [] x back e n =
        here (is_noted noted (picks x)) (is_present noted (picks x)) x (present picks noted back) (asked_noted (picks x) (picks x) refl n)
        (are_present (picks x) n)
    found vs (y ∷ ys) x back e n =
        let alike : asked (picks x) ≡ asked (picks y) = asks_there vs ys x back e.1 ∙ sym e.0 in
        here_or_behind (is_noted noted (picks y)) (is_present noted (picks y)) y (present picks noted (ys ++ x ∷ back)) (picks x)
        (asked_noted (picks x) (picks y) alike n) (are_same (picks x) (picks y) alike n) (found vs ys x back e.1 n)
