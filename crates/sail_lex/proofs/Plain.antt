-- The kinds of the tables have no values.
use Rattle.std.proofs.Common.{◌≡◌, ℕ, true, false, cond, List, [], ◌∷◌, Option, Some, None, refl, sym, subst}
use Rattle.std.specs.Prelude.{IfSome, not, unwrap_or, codes, nat_eq}
use Rattle.std.specs.List.{list_all, starts_with}
use Rattle.std.specs.Str.{bytes_eq}
use Rattle.std.proofs.lemmas.Bool.{true≢false, and_parts, not-true}
use Rattle.sail_lex.specs.declared.kind.TokenKind.{TokenKind}
use Rattle.sail_lex.specs.declared.kind.TokenKind.TheVariants.{Identifier, Wildcard, Decimal, Hexadecimal, Binary, StringLiteral}
use Rattle.sail_lex.specs.Lookup.{kind_in, kind_of_name, longest_in, if_begins}
use Rattle.sail_lex.specs.Tables.{keywords, symbols}
use Rattle.sail_lex.specs.Valued.{has_value, IsValued}
use Rattle.sail_lex.proofs.Symbols.{longer_keeps}

-- a kind without value asks nothing
plain_kind : (kind : TokenKind) (text : List ℕ) → has_value kind ≡ false → IsValued kind text
unfolding IsValued
plain_kind Decimal text h = absurd (true≢false h)
plain_kind Hexadecimal text h = absurd (true≢false h)
plain_kind Binary text h = absurd (true≢false h)
plain_kind StringLiteral text h = absurd (true≢false h)
plain_kind _ text h = tt

plain_word : (table : List (List ℕ × TokenKind)) (word : List ℕ) → list_all (λ e. not (has_value e.1)) table ≡ true →
    IfSome (kind_in table word) (λ k. has_value k ≡ false)
plain_word [] word h = tt
plain_word (e ∷ table) word h =
    let parts = and_parts (not (has_value e.1)) (list_all (λ e. not (has_value e.1)) table) h in
    elim (bytes_eq e.0 word) as
    (λ t. IfSome (cond t (Some e.1) (kind_in table word)) (λ k. has_value k ≡ false))
    [ true ↦ not-true (has_value e.1) parts.0 | false ↦ plain_word table word parts.1 ]

plain_option : (o : Option TokenKind) → IfSome o (λ k. has_value k ≡ false) → has_value (unwrap_or o Identifier) ≡ false
plain_option None h = refl
plain_option (Some k) h = h

-- a name has no value
pub plain_name : (name text : List ℕ) → IsValued (kind_of_name name) text
unfolding keywords
plain_name name text =
    elim (bytes_eq (codes "_") name) as (λ t. IsValued (cond t Wildcard (unwrap_or (kind_in keywords name) Identifier)) text) [
      | true ↦ plain_kind Wildcard text refl
      | false ↦ plain_kind (unwrap_or (kind_in keywords name) Identifier) text (plain_option (kind_in keywords name) (plain_word keywords name refl))
    ]

plain_longest : (table : List (List ℕ × TokenKind)) (text : List ℕ) → list_all (λ e. not (has_value e.1)) table ≡ true →
    IfSome (longest_in table text) (λ f. has_value f.1 ≡ false)
plain_longest [] text h = tt
plain_longest (e ∷ table) text h =
    let parts = and_parts (not (has_value e.1)) (list_all (λ e. not (has_value e.1)) table) h in
    longer_keeps (λ f. has_value f.1 ≡ false) (if_begins e text) (longest_in table text)
    (elim (starts_with nat_eq text e.0) as
    (λ t. IfSome (cond t (Some e) None) (λ f. has_value f.1 ≡ false)) [ true ↦ not-true (has_value e.1) parts.0 | false ↦ tt ])
    (plain_longest table text parts.1)

-- nor has a symbol
pub plain_symbol : (text spelled : List ℕ) (found : Option (List ℕ × TokenKind)) → found ≡ longest_in symbols text → IfSome found (λ f. IsValued f.1 spelled)
unfolding symbols
plain_symbol text spelled None e = tt
plain_symbol text spelled (Some f) e = plain_kind f.1 spelled (subst (λ o. IfSome o (λ f. has_value f.1 ≡ false)) (sym e) (plain_longest symbols text refl))
