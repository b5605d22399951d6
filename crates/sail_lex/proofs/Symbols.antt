-- The longest spelling is one of the table, and begins the text.
use Rattle.std.proofs.Common.{◌≡◌, ℕ, ◌<◌, ◌≤◌, Bool, true, false, nat_eq, nat_lt, List, [], ◌∷◌, length, Option, Some, None, refl, arith, cond, take}
use Rattle.std.specs.Prelude.{IfSome}
use Rattle.std.specs.List.{list_all, starts_with}
use Rattle.std.specs.Cmp.Lexicographic.{pointwise}
use Rattle.std.proofs.Common.{suc, ap, sym, subst, length-take, ltb-true}
use Rattle.std.proofs.lemmas.Bool.{false≢true, and_parts}
use Rattle.sail_lex.specs.declared.kind.TokenKind.{TokenKind}
use Rattle.sail_lex.specs.Tables.{symbols}
use Rattle.sail_lex.specs.Lookup.{longest_in, longer_of, if_begins}

-- a fact of both is one of the longer
pub longer_keeps : (Q : List ℕ × TokenKind → Type 0) (a b : Option (List ℕ × TokenKind)) → IfSome a Q → IfSome b Q → IfSome (longer_of a b) Q
longer_keeps Q None b h k = k
longer_keeps Q (Some a) None h k = h
longer_keeps Q (Some a) (Some b) h k =
    elim (nat_lt (length a.0) (length b.0)) as (λ t. IfSome (cond t (Some b) (Some a)) Q) [ true ↦ k | false ↦ h ]

-- what compares as equal is as long
same_length : (xs ys : List ℕ) → pointwise nat_eq xs ys ≡ true → length xs ≡ length ys
same_length [] [] h = refl
same_length [] (y ∷ ys) h = absurd (false≢true h)
same_length (x ∷ xs) [] h = absurd (false≢true h)
same_length (x ∷ xs) (y ∷ ys) h = ap suc (same_length xs ys (and_parts (nat_eq x y) (pointwise nat_eq xs ys) h).1)

begins_by : (e : List ℕ × TokenKind) (text : List ℕ) (t : Bool) → starts_with nat_eq text e.0 ≡ t →
    IfSome (cond t (Some e) None) (λ f. length f.0 ≤ length text)
begins_by e text true h = omega (arith, same_length e.0 (take (length e.0) text) h, length-take (length e.0) text)
begins_by e text false h = tt

-- a spelling that begins a text is no longer
begins_within : (e : List ℕ × TokenKind) (text : List ℕ) → IfSome (if_begins e text) (λ f. length f.0 ≤ length text)
begins_within e text = begins_by e text (starts_with nat_eq text e.0) refl

pub longest_within : (table : List (List ℕ × TokenKind)) (text : List ℕ) → IfSome (longest_in table text) (λ f. length f.0 ≤ length text)
longest_within [] text = tt
longest_within (e ∷ table) text = longer_keeps (λ f. length f.0 ≤ length text) (if_begins e text) (longest_in table text) (begins_within e text)
    (longest_within table text)

begins_some : (e : List ℕ × TokenKind) (text : List ℕ) → 0 < length e.0 → IfSome (if_begins e text) (λ f. 0 < length f.0)
begins_some e text h =
    elim (starts_with nat_eq text e.0) as (λ t. IfSome (cond t (Some e) None) (λ f. 0 < length f.0)) [ true ↦ h | false ↦ tt ]

longest_some : (table : List (List ℕ × TokenKind)) (text : List ℕ) → list_all (λ e. nat_lt 0 (length e.0)) table ≡ true →
    IfSome (longest_in table text) (λ f. 0 < length f.0)
longest_some [] text h = tt
longest_some (e ∷ table) text h =
    let parts = and_parts (nat_lt 0 (length e.0)) (list_all (λ e. nat_lt 0 (length e.0)) table) h in
    longer_keeps (λ f. 0 < length f.0) (if_begins e text) (longest_in table text) (begins_some e text (ltb-true 0 (length e.0) parts.0))
    (longest_some table text parts.1)

-- a symbol is some bytes of the text that it begins
pub symbol_reaches : (text : List ℕ) (found : Option (List ℕ × TokenKind)) → found ≡ longest_in symbols text →
    IfSome found (λ f. (0 < length f.0) × (length f.0 ≤ length text))
unfolding symbols
symbol_reaches text None e = tt
symbol_reaches text (Some f) e = (
  subst (λ o. IfSome o (λ f. 0 < length f.0)) (sym e) (longest_some symbols text refl),
  subst (λ o. IfSome o (λ f. length f.0 ≤ length text)) (sym e) (longest_within symbols text),
)
