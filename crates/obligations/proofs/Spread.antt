-- Rounds in which the variables of connected facts are gathered.
use Rattle.std.proofs.Common.{◌≡◌, ℕ, zero, suc, ◌+◌, ◌-◌, ◌≤◌, ◌<◌, Bool, true, false, List, [], ◌∷◌, ◌++◌, length, sym, ap, ◌∙◌, subst, refl, arith}
use Rattle.std.proofs.Common.{append_assoc, append-nil, length-append}
use Rattle.std.specs.Prelude.{if◌then◌else◌}
use Rattle.std.specs.List.{fold, list_any}
use Rattle.std.proofs.lemmas.List.{nil_from_length}
use Rattle.std.proofs.lemmas.Bool.{false≢true}
use Rattle.sail_types.specs.declared.numbers.Atom.{Atom}
use Rattle.sail_types.specs.declared.numbers.Con.{Con}
use Rattle.sail_types.specs.Sums.{eq_atom}
use Rattle.linear.specs.Choices.{variables_in, with_atom}
use Rattle.obligations.specs.Connected.{shares, spread, spread_for, sharing, connected}
use Rattle.obligations.specs.Spreading.{spread_once, AreSame}
use Rattle.obligations.proofs.Same.{gathered, same_trans, same_back, sharing_same, round_same, rounds_same, rounds_steady}

-- ---- a round puts variables behind those that are there

abbrev Grown : List Atom → List Atom → Type 0
Grown xs ys = (more : List Atom) × (ys ≡ xs ++ more)

grown_trans : (xs ys zs : List Atom) → Grown xs ys → Grown ys zs → Grown xs zs
grown_trans xs ys zs g h = (g.0 ++ h.0, h.1 ∙ (ap (λ l. l ++ h.0) g.1 ∙ append_assoc xs g.0 h.0))

grown_none : (xs : List Atom) → Grown xs xs
grown_none xs = ([], sym (append-nil xs))

grown_with : (xs : List Atom) (v : Atom) (t : Bool) → Grown xs (if t then xs else xs ++ v ∷ [])
grown_with xs v true = grown_none xs
grown_with xs v false = (v ∷ [], refl)

grown_fold : (vs xs : List Atom) → Grown xs (fold with_atom xs vs)
grown_fold [] xs = grown_none xs
grown_fold (v ∷ vs) xs = grown_trans xs (with_atom xs v) _ (grown_with xs v (list_any (eq_atom v) xs)) (grown_fold vs (with_atom xs v))

grown_put : (vs xs : List Atom) (t : Bool) → Grown xs (if t then fold with_atom xs vs else xs)
grown_put vs xs true = grown_fold vs xs
grown_put vs xs false = grown_none xs

grown_round : (cs : List Con) (xs : List Atom) → Grown xs (spread_once cs xs)
grown_round [] xs = grown_none xs
grown_round (c ∷ cs) xs = grown_trans xs _ _ (grown_put (variables_in c) xs (shares (variables_in c) xs)) (grown_round cs _)

none_more : (xs more : List Atom) → length (xs ++ more) ≡ length xs → xs ++ more ≡ xs
none_more xs more e =
    let n : length more ≡ 0 = (let p = length-append xs more in omega arith) in ap (λ l. xs ++ l) (nil_from_length more n) ∙ append-nil xs

unchanged : (cs : List Con) (xs : List Atom) → length (spread_once cs xs) ≡ length xs → spread_once cs xs ≡ xs
unchanged cs xs e = let g = grown_round cs xs in g.1 ∙ none_more xs g.0 (ap length (sym g.1) ∙ e)

-- ---- so many rounds

module _ (cs : List Con) (start xs ys : List Atom) where
  -- one round of those that are left
  pub went_round : (i n : ℕ) → i < n → ys ≡ spread_once cs xs → AreSame (spread_for (n - i) cs xs) (spread_for n cs start)
      → AreSame (spread_for (n - (i + 1)) cs ys) (spread_for n cs start)
  went_round i n lt e h f =
      let left : n - i ≡ suc (n - (i + 1)) = omega arith in
      rounds_same (n - (i + 1)) cs ys (spread cs xs) (λ g. ap (list_any g) e ∙ sym (round_same cs xs xs (λ k. refl) g)) f
      ∙ (ap (λ m. list_any f (spread_for m cs xs)) (sym left) ∙ h f)

  pub went_steady : (i n : ℕ) → i < n → ys ≡ spread_once cs xs → length ys ≡ length xs → AreSame (spread_for (n - i) cs xs) (spread_for n cs start)
      → AreSame ys (spread_for n cs start)
  went_steady i n lt e len h f =
      let same : ys ≡ xs = e ∙ unchanged cs xs (ap length (sym e) ∙ len) in
      ap (list_any f) same
      ∙ (sym (rounds_steady (n - i) cs xs (λ g. round_same cs xs xs (λ k. refl) g ∙ ap (list_any g) (unchanged cs xs (ap length (sym e) ∙ len))) f)
      ∙ h f)

pub all_rounds : (cs : List Con) (start xs : List Atom) (i n : ℕ) → n ≤ i → AreSame (spread_for (n - i) cs xs) (spread_for n cs start)
    → AreSame xs (spread_for n cs start)
all_rounds cs start xs i n le h f = let none : n - i ≡ 0 = omega arith in ap (λ m. list_any f (spread_for m cs xs)) (sym none) ∙ h f

-- ---- the facts that are connected to variables

abbrev always : Atom → Bool
always a = true

pub none_gathered : (vs : List Atom) (cs : List Con) → fold with_atom [] vs ≡ [] → cs ≡ connected cs vs
none_gathered [] cs e = refl
none_gathered (v ∷ vs) cs e = absurd (false≢true (ap (list_any always) (sym e) ∙ gathered (v ∷ vs) always))

pub some_gathered : (vs : List Atom) (cs : List Con) (atoms : List Atom) → (fold with_atom [] vs ≡ [] → ⊥)
    → AreSame atoms (spread_for (length cs) cs (fold with_atom [] vs)) → sharing atoms cs ≡ connected cs vs
some_gathered [] cs atoms some h = absurd (some refl)
some_gathered (v ∷ vs) cs atoms some h =
    sharing_same cs atoms (spread_for (length cs) cs (v ∷ vs)) (same_trans atoms (spread_for (length cs) cs (fold with_atom [] (v ∷ vs))) _ h
    (rounds_same (length cs) cs (fold with_atom [] (v ∷ vs)) (v ∷ vs) (gathered (v ∷ vs))))
