-- Names that are left of others, in their order: where none of those is there twice, none of these is.
use Rattle.std.proofs.Common.{◌≡◌, ◌&&◌, ◌||◌, not, ℕ, Bool, true, false, List, [], ◌∷◌, ◌++◌, refl, sym, ap, ◌∙◌}
use Rattle.std.specs.Str.{bytes_eq}
use Rattle.std.proofs.lemmas.Bool.{and_parts}
use Rattle.value_laws.proofs.Basics.{no}
use Rattle.safe_models.specs.Names.{is_among, once_each}

pub data Within : List (List ℕ) → List (List ℕ) → Type 0 where
  within_none : (ns : List (List ℕ)) → Within [] ns
  within_both : (n : List ℕ) (ms ns : List (List ℕ)) → Within ms ns → Within (n ∷ ms) (n ∷ ns)
  within_more : (n : List ℕ) (ms ns : List (List ℕ)) → Within ms ns → Within ms (n ∷ ns)

-- behind others
pub within_behind : (ks ms ns : List (List ℕ)) → Within ms ns → Within ms (ks ++ ns)
within_behind [] ms ns h = h
within_behind (a ∷ ks) ms ns h = within_more a ms (ks ++ ns) (within_behind ks ms ns h)

pub within_joined : (ks bs ms ns : List (List ℕ)) → Within ks ms → Within bs ns → Within (ks ++ bs) (ms ++ ns)
within_joined ks bs ms ns (within_none all) k = within_behind all bs ns k
within_joined ks bs ms ns (within_both n xs ys h) k = within_both n (xs ++ bs) (ys ++ ns) (within_joined xs bs ys ns h k)
within_joined ks bs ms ns (within_more n xs ys h) k = within_more n (xs ++ bs) (ys ++ ns) (within_joined xs bs ys ns h k)

pub within_self : (ns : List (List ℕ)) → Within ns ns
within_self [] = within_none []
within_self (n ∷ ns) = within_both n ns ns (within_self ns)

pub within_first : (ks ms ns : List (List ℕ)) → Within ks ms → Within ks (ms ++ ns)
within_first ks ms ns (within_none all) = within_none (all ++ ns)
within_first ks ms ns (within_both n xs ys h) = within_both n xs (ys ++ ns) (within_first xs ys ns h)
within_first ks ms ns (within_more n xs ys h) = within_more n xs (ys ++ ns) (within_first xs ys ns h)

-- ---- none twice

none_of_two : (a b : Bool) → (a || b) ≡ false → (a ≡ false) × (b ≡ false)
none_of_two true b e = no (sym e)
none_of_two false b e = (refl, e)

among_within : (name : List ℕ) (ms ns : List (List ℕ)) → Within ms ns → is_among name ns ≡ false → is_among name ms ≡ false
among_within name ms ns (within_none all) e = refl
among_within name ms ns (within_both n xs ys h) e =
    let k = none_of_two (bytes_eq n name) (is_among name ys) e in
    ap (λ b. b || is_among name xs) k.0 ∙ among_within name xs ys h k.1
among_within name ms ns (within_more n xs ys h) e =
    among_within name xs ys h (none_of_two (bytes_eq n name) (is_among name ys) e).1

not_so : (b : Bool) → not b ≡ true → b ≡ false
not_so false h = refl
not_so true h = no h

pub once_within : (ms ns : List (List ℕ)) → Within ms ns → once_each ns ≡ true → once_each ms ≡ true
once_within ms ns (within_none all) e = refl
once_within ms ns (within_both n xs ys h) e =
    let both = and_parts (not (is_among n ys)) (once_each ys) e in
    ap (λ b. not b && once_each xs) (among_within n xs ys h (not_so (is_among n ys) both.0)) ∙ once_within xs ys h both.1
once_within ms ns (within_more n xs ys h) e = once_within xs ys h (and_parts (not (is_among n ys)) (once_each ys) e).1
