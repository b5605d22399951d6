-- How many nodes have a number.
use Rattle.std.proofs.Common.{◌≡◌, ℕ, ◌+◌, ◌<◌, ◌≤◌, suc, zero, List, [], ◌∷◌, length, refl, ap, arith}
use Rattle.call_graph.specs.declared.search.Mark.{Mark}
use Rattle.call_graph.specs.declared.search.Mark.TheVariants.{New, Open, Numbered}
use Rattle.call_graph.specs.Search.{mark_of, one_if_numbered, numbered_count, IsNumbered}

-- a node that has a number has one afterwards
abbrev pub KeepsNumbers : List Mark → List Mark → Type 0
KeepsNumbers old new = (u n : ℕ) → mark_of old u ≡ Numbered n → IsNumbered new u

head_kept : (old new : Mark) → ((n : ℕ) → old ≡ Numbered n → (m : ℕ) × (new ≡ Numbered m)) → one_if_numbered old ≤ one_if_numbered new
head_kept New new h = omega arith
head_kept (Open p) new h = omega arith
head_kept (Numbered n) (Numbered m) h = omega arith
head_kept (Numbered n) New h = let number : (m : ℕ) × (New ≡ Numbered m) = h n refl in cc
head_kept (Numbered n) (Open p) h = let number : (m : ℕ) × (Open p ≡ Numbered m) = h n refl in cc

pub count_kept : (old new : List Mark) → length old ≡ length new → KeepsNumbers old new → numbered_count old ≤ numbered_count new
count_kept [] new e h = omega arith
count_kept (m ∷ old) [] e h = absurd (omega arith)
count_kept (m ∷ old) (k ∷ new) e h =
    let rest : numbered_count old ≤ numbered_count new = count_kept old new (omega arith) (λ u n is. h (suc u) n is) in
    let first : one_if_numbered m ≤ one_if_numbered k = head_kept m k (λ n is. h 0 n is) in omega arith

-- and so has one more
pub count_more : (old new : List Mark) (u : ℕ) → length old ≡ length new → KeepsNumbers old new → (p : ℕ) → mark_of old u ≡ Open p →
    (n : ℕ) → mark_of new u ≡ Numbered n → numbered_count old + 1 ≤ numbered_count new
count_more [] new u e h p open' n number = let no : New ≡ Open p = open' in cc
count_more (m ∷ old) [] u e h p open' n number = absurd (omega arith)
count_more (m ∷ old) (k ∷ new) zero e h p open' n number =
    let rest : numbered_count old ≤ numbered_count new = count_kept old new (omega arith) (λ u n is. h (suc u) n is) in
    let before : one_if_numbered m ≡ 0 = ap one_if_numbered open' in
    let after : one_if_numbered k ≡ 1 = ap one_if_numbered number in omega arith
count_more (m ∷ old) (k ∷ new) (suc u) e h p open' n number =
    let rest : numbered_count old + 1 ≤ numbered_count new = count_more old new u (omega arith) (λ v n is. h (suc v) n is) p open' n number in
    let first : one_if_numbered m ≤ one_if_numbered k = head_kept m k (λ n is. h 0 n is) in omega arith

at_most_one : (m : Mark) → one_if_numbered m ≤ 1
at_most_one New = omega arith
at_most_one (Open p) = omega arith
at_most_one (Numbered n) = omega arith

pub count_within : (marks : List Mark) → numbered_count marks ≤ length marks
count_within [] = omega arith
count_within (m ∷ marks) = let rest = count_within marks in let first = at_most_one m in omega (arith, rest, first)

-- where a node is open not all have a number
pub count_less : (marks : List Mark) (u p : ℕ) → mark_of marks u ≡ Open p → numbered_count marks < length marks
count_less [] u p is = let no : New ≡ Open p = is in cc
count_less (m ∷ marks) zero p is =
    let rest = count_within marks in let first : one_if_numbered m ≡ 0 = ap one_if_numbered is in omega (arith, rest)
count_less (m ∷ marks) (suc u) p is = let rest = count_less marks u p is in let first = at_most_one m in omega (arith, rest, first)
