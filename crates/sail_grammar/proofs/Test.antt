-- What the test of a grammar says.
use Rattle.std.proofs.Common.{◌≡◌, ℕ, Bool, true, not, ◌&&◌, ◌||◌, List, [], ◌∷◌, ◌++◌, refl, sym, ap, ◌∙◌, subst, inl, inr}
use Rattle.std.specs.Prelude.{◌==◌, cond}
use Rattle.std.proofs.lemmas.Bool.{true≢false, and_parts, and_from, or_cases, or_left, or_right, not-true, eqb-true, cases_Bool}
use Rattle.sail_grammar.specs.RowName.{RowName}
use Rattle.sail_grammar.specs.Form.{Form, Word, Empty, ◌or◌, ◌then◌, Guard, Row, Forbid, Bar, Hold, among}
use Rattle.sail_grammar.specs.Test.{Grammar, every, kept, blank, starts, empties, firsts, clear, IsClear}

pub every_at : (p : ℕ → Bool) (cs : List ℕ) (c : ℕ) → every p cs ≡ true → among cs c ≡ true → p c ≡ true
every_at p [] c h m = absurd (true≢false (sym m))
every_at p (d ∷ cs) c h m =
    elim (or_cases (d == c) (among cs c) m) [
      | inl e ↦ subst (λ x. p x ≡ true) (eqb-true d c e) (and_parts (p d) (every p cs) h).0
      | inr n ↦ every_at p cs c (and_parts (p d) (every p cs) h).1 n
    ]

pub among_left : (xs ys : List ℕ) (c : ℕ) → among xs c ≡ true → among (xs ++ ys) c ≡ true
among_left [] ys c m = absurd (true≢false (sym m))
among_left (a ∷ xs) ys c m =
    elim (or_cases (a == c) (among xs c) m) [
      | inl e ↦ or_left (a == c) (among (xs ++ ys) c) e
      | inr n ↦ or_right (a == c) (among (xs ++ ys) c) (among_left xs ys c n)
    ]

pub among_right : (xs ys : List ℕ) (c : ℕ) → among ys c ≡ true → among (xs ++ ys) c ≡ true
among_right [] ys c m = m
among_right (a ∷ xs) ys c m = or_right (a == c) (among (xs ++ ys) c) (among_right xs ys c m)

pub among_kept : (p : ℕ → Bool) (cs : List ℕ) (c : ℕ) → p c ≡ true → among cs c ≡ true → among (kept p cs) c ≡ true
among_kept p [] c h m = m
among_kept p (d ∷ cs) c h m =
    elim (cases_Bool (p d)) [
      | inl e ↦ subst (λ b. among (cond b (d ∷ kept p cs) (kept p cs)) c ≡ true) (sym e) (elim (or_cases (d == c) (among cs c) m) [
        | inl same ↦ or_left (d == c) (among (kept p cs) c) same
        | inr n ↦ or_right (d == c) (among (kept p cs) c) (among_kept p cs c h n)
      ])
      | inr e ↦ subst (λ b. among (cond b (d ∷ kept p cs) (kept p cs)) c ≡ true) (sym e) (elim (or_cases (d == c) (among cs c) m) [
        | inl same ↦ absurd (true≢false (sym h ∙ (ap p (sym (eqb-true d c same)) ∙ e)))
        | inr n ↦ among_kept p cs c h n
      ])
    ]

module _ (g : Grammar) where
  -- what is blank before some symbol may be empty
  pub blank_empties : (a : Form) (c : ℕ) → blank g a c ≡ true → empties g a ≡ true
  blank_empties (Word ks) c h = h
  blank_empties (Empty ks) c h = refl
  blank_empties (a or b) c h =
      elim (or_cases (blank g a c) (blank g b c) h) [
        | inl x ↦ or_left (empties g a) (empties g b) (blank_empties a c x)
        | inr y ↦ or_right (empties g a) (empties g b) (blank_empties b c y)
      ]
  blank_empties (a then b) c h =
      let both = and_parts (blank g a c) (blank g b c) h in
      and_from (empties g a) (empties g b) (blank_empties a c both.0) (blank_empties b c both.1)
  blank_empties (Guard a test ks) c h = blank_empties a c h
  blank_empties (Row n) c h = h
  blank_empties (Forbid ks) c h = h
  blank_empties (Bar a test ks) c h = blank_empties a c h
  blank_empties (Hold a) c h = blank_empties a c h

  behind : (a : Form) (xs : List ℕ) (c : ℕ) → blank g a c ≡ true → among xs c ≡ true → among (cond (empties g a) xs []) c ≡ true
  behind a xs c h m = subst (λ b. among (cond b xs []) c ≡ true) (sym (blank_empties a c h)) m

  -- what a form begins with is in its set
  pub starts_firsts : (a : Form) (c : ℕ) → starts g a c ≡ true → among (firsts g a) c ≡ true
  starts_firsts (Word ks) c h = h
  starts_firsts (Empty ks) c h = absurd (true≢false (sym h))
  starts_firsts (a or b) c h =
      elim (or_cases (starts g a c) (starts g b c) h) [
        | inl x ↦ among_left (firsts g a) (firsts g b) c (starts_firsts a c x)
        | inr y ↦ among_right (firsts g a) (firsts g b) c (starts_firsts b c y)
      ]
  starts_firsts (a then b) c h =
      elim (or_cases (starts g a c) (blank g a c && starts g b c) h) [
        | inl x ↦ among_left (firsts g a) (cond (empties g a) (firsts g b) []) c (starts_firsts a c x)
        | inr y ↦
            let both = and_parts (blank g a c) (starts g b c) y in
            among_right (firsts g a) (cond (empties g a) (firsts g b) []) c (behind a (firsts g b) c both.0 (starts_firsts b c both.1))
      ]
  starts_firsts (Guard a test ks) c h = starts_firsts a c h
  starts_firsts (Row n) c h = h
  starts_firsts (Forbid ks) c h = h
  starts_firsts (Bar a test ks) c h =
      elim (or_cases (starts g a c) (blank g a c && among ks c) h) [
        | inl x ↦ among_left (firsts g a) (cond (empties g a) ks []) c (starts_firsts a c x)
        | inr y ↦
            let both = and_parts (blank g a c) (among ks c) y in
            among_right (firsts g a) (cond (empties g a) ks []) c (behind a ks c both.0 both.1)
      ]
  starts_firsts (Hold a) c h = starts_firsts a c h

  -- the three parts of the test of a row
  pub record IsGood (n : RowName) : Type 0 where
    pub first : (c : ℕ) → starts g (g.rule n) c ≡ true → among (g.sets n).first c ≡ true
    pub null : (c : ℕ) → blank g (g.rule n) c ≡ true → (g.sets n).nullable ≡ true
    pub choices : clear g (g.rule n) (g.sets n).follow ≡ true

  pub good : IsClear g → (n : RowName) → IsGood n
  good h n =
      let outer = and_parts (every (among (g.sets n).first) (firsts g (g.rule n)))
      (((g.sets n).nullable || not (empties g (g.rule n))) && clear g (g.rule n) (g.sets n).follow) (h n) in
      let inner = and_parts ((g.sets n).nullable || not (empties g (g.rule n))) (clear g (g.rule n) (g.sets n).follow) outer.1 in
      record {
        first = λ c s. every_at (among (g.sets n).first) (firsts g (g.rule n)) c outer.0 (starts_firsts (g.rule n) c s);
        null = λ c b. elim (or_cases (g.sets n).nullable (not (empties g (g.rule n))) inner.0) [
          | inl e ↦ e
          | inr e ↦ absurd (true≢false (sym (blank_empties (g.rule n) c b) ∙ not-true (empties g (g.rule n)) e))
        ];
        choices = inner.1;
      }
