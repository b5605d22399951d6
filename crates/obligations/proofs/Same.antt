-- Lists with the same variables.
use Rattle.std.proofs.Common.{◌≡◌, ℕ, zero, suc, Bool, true, false, ◌||◌, List, [], ◌∷◌, ◌++◌, length, sym, ap, ◌∙◌, refl}
use Rattle.std.specs.Prelude.{if◌then◌else◌}
use Rattle.std.specs.List.{fold, list_any}
use Rattle.std.proofs.lemmas.List.Folds.{list_any-append}
use Rattle.sail_types.specs.declared.numbers.Atom.{Atom}
use Rattle.sail_types.specs.declared.numbers.Con.{Con}
use Rattle.sail_types.specs.Sums.{eq_atom}
use Rattle.sail_types.proofs.EqualAtoms.{eq_atom-Decides}
use Rattle.linear.specs.Choices.{variables_in, with_atom}
use Rattle.obligations.specs.Connected.{shares, spread, spread_for, sharing}
use Rattle.obligations.specs.Spreading.{spread_once, AreSame}

or_true : (a : Bool) → (a || true) ≡ true
or_true true = refl
or_true false = refl

or_false : (a : Bool) → (a || false) ≡ a
or_false true = refl
or_false false = refl

or_back : (a b c : Bool) → ((a || b) || c) ≡ (a || (b || c))
or_back true b c = refl
or_back false b c = refl

or_turned : (a b : Bool) → (a || b) ≡ (b || a)
or_turned true b = sym (or_true b)
or_turned false b = sym (or_false b)

-- a test that is true of a variable that is there is true of one that is there
module _ (f : Atom → Bool) (v : Atom) where
  member_head : (x : Atom) (xs : List Atom) (t : Bool) → eq_atom v x ≡ t → (t || list_any (eq_atom v) xs) ≡ true → f v ≡ true
      → (list_any (eq_atom v) xs ≡ true → list_any f xs ≡ true) → (f x || list_any f xs) ≡ true
  member_head x xs true e h true_of rest = ap (λ b. b || list_any f xs) (ap f (sym ((eq_atom-Decides v x).0 e)) ∙ true_of)
  member_head x xs false e h true_of rest = ap (λ b. f x || b) (rest h) ∙ or_true (f x)

  member_any : (xs : List Atom) → list_any (eq_atom v) xs ≡ true → f v ≡ true → list_any f xs ≡ true
  member_any [] h true_of = h
  member_any (x ∷ xs) h true_of = member_head x xs (eq_atom v x) refl h true_of (λ k. member_any xs k true_of)

  member_kept : (xs : List Atom) (t b : Bool) → list_any (eq_atom v) xs ≡ t → f v ≡ b →
      list_any f (if t then xs else xs ++ v ∷ []) ≡ (list_any f xs || b)
  member_kept xs true true e h = member_any xs e h ∙ sym (or_true (list_any f xs))
  member_kept xs true false e h = sym (or_false (list_any f xs))
  member_kept xs false b e h =
      list_any-append f xs (v ∷ []) ∙ ap (λ c. list_any f xs || c) (or_false (f v) ∙ h)

  any_with : (xs : List Atom) → list_any f (with_atom xs v) ≡ (list_any f xs || f v)
  any_with xs = member_kept xs (list_any (eq_atom v) xs) (f v) refl refl

-- variables put to others, each once
pub any_fold : (f : Atom → Bool) (xs vs : List Atom) → list_any f (fold with_atom xs vs) ≡ (list_any f xs || list_any f vs)
any_fold f xs [] = sym (or_false (list_any f xs))
any_fold f xs (v ∷ vs) =
    any_fold f (with_atom xs v) vs ∙ (ap (λ b. b || list_any f vs) (any_with f v xs) ∙ or_back (list_any f xs) (f v) (list_any f vs))

pub gathered : (vs : List Atom) → AreSame (fold with_atom [] vs) vs
gathered vs f = any_fold f [] vs

pub same_trans : (xs ys zs : List Atom) → AreSame xs ys → AreSame ys zs → AreSame xs zs
same_trans xs ys zs h k f = h f ∙ k f

pub same_back : (xs ys : List Atom) → AreSame xs ys → AreSame ys xs
same_back xs ys h f = sym (h f)

pub shares_same : (vs xs ys : List Atom) → AreSame xs ys → shares vs xs ≡ shares vs ys
shares_same vs xs ys h = λ j. list_any (λ a. h (eq_atom a) j) vs

pub sharing_same : (cs : List Con) (xs ys : List Atom) → AreSame xs ys → sharing xs cs ≡ sharing ys cs
sharing_same [] xs ys h = refl
sharing_same (c ∷ cs) xs ys h =
    λ j. if shares_same (variables_in c) xs ys h j then c ∷ sharing_same cs xs ys h j else sharing_same cs xs ys h j

-- ---- one round

put_same : (vs xs ys : List Atom) (t : Bool) → AreSame xs ys → AreSame (if t then vs ++ xs else xs) (if t then fold with_atom ys vs else ys)
put_same vs xs ys true h f = list_any-append f vs xs ∙ (ap (λ b. list_any f vs || b) (h f) ∙ (or_turned (list_any f vs) (list_any f ys)
    ∙ sym (any_fold f ys vs)))
put_same vs xs ys false h f = h f

put_same_by : (vs xs ys : List Atom) (t u : Bool) → t ≡ u → AreSame xs ys
    → AreSame (if t then vs ++ xs else xs) (if u then fold with_atom ys vs else ys)
put_same_by vs xs ys t u e h f = put_same vs xs ys t h f ∙ ap (λ b. list_any f (if b then fold with_atom ys vs else ys)) e

pub round_same : (cs : List Con) (xs ys : List Atom) → AreSame xs ys → AreSame (spread cs xs) (spread_once cs ys)
round_same [] xs ys h = h
round_same (c ∷ cs) xs ys h =
    round_same cs _ _ (put_same_by (variables_in c) xs ys (shares (variables_in c) xs) (shares (variables_in c) ys)
    (shares_same (variables_in c) xs ys h) h)

pub spread_same : (cs : List Con) (xs ys : List Atom) → AreSame xs ys → AreSame (spread cs xs) (spread cs ys)
spread_same cs xs ys h f = round_same cs xs ys h f ∙ sym (round_same cs ys ys (λ g. refl) f)

pub rounds_same : (n : ℕ) (cs : List Con) (xs ys : List Atom) → AreSame xs ys → AreSame (spread_for n cs xs) (spread_for n cs ys)
rounds_same zero cs xs ys h = h
rounds_same (suc n) cs xs ys h = rounds_same n cs (spread cs xs) (spread cs ys) (spread_same cs xs ys h)

-- nothing more comes to variables to which nothing came in a round
pub rounds_steady : (n : ℕ) (cs : List Con) (xs : List Atom) → AreSame (spread cs xs) xs → AreSame (spread_for n cs xs) xs
rounds_steady zero cs xs h f = refl
rounds_steady (suc n) cs xs h f = rounds_same n cs (spread cs xs) xs h f ∙ rounds_steady n cs xs h f
