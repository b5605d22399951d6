-- Texts have tokens or are refused, in one way.
use Rattle.std.proofs.Common.{◌≡◌, ℕ, ◌+◌, List, [], ◌∷◌, length, refl, sym, ap, ◌∙◌, subst, inl, inr}
use Rattle.sail_lex.specs.declared.token.LexError.{LexError}
use Rattle.sail_lex.specs.declared.token.Token.{Token}
use Rattle.sail_lex.specs.Tokens.{Lexes, IsAnswered}
use Rattle.sail_lex.proofs.OneAnswer.{one_list, one_refusal, not_both}
use Rattle.sail_lex.proofs.Total.{total}
use Rattle.model_tokens.specs.Files.{AreLexed, AreRefused, AreAnswered}

-- what the first text has comes before what the others have
after_tokens : (file before : ℕ) (text : List ℕ) (texts : List (List ℕ)) (tokens : List Token)
    → Lexes file text 0 before tokens → AreAnswered (file + 1) (before + length tokens) texts
    → AreAnswered file before (text ∷ texts)
after_tokens file before text texts tokens reads (inl rest) = inl (tokens ∷ rest.0, (reads, rest.1))
after_tokens file before text texts tokens reads (inr rest) = inr (rest.0, inr (tokens, reads, rest.1))

-- a text has tokens, and then it stands with the others, or it is refused
first_answered : (file before : ℕ) (text : List ℕ) (texts : List (List ℕ)) → IsAnswered file text 0 before
    → ((count : ℕ) → AreAnswered (file + 1) count texts) → AreAnswered file before (text ∷ texts)
first_answered file before text texts (inl reads) others =
    after_tokens file before text texts reads.0 reads.1 (others (before + length reads.0))
first_answered file before text texts (inr refuses) others = inr (refuses.0, inl refuses.1)

pub answered : (texts : List (List ℕ)) (file before : ℕ) → AreAnswered file before texts
answered [] file before = inl ([], refl)
answered (text ∷ texts) file before =
    first_answered file before text texts (total file text before) (λ count. answered texts (file + 1) count)

pub one_lexing : (texts : List (List ℕ)) (file before : ℕ) (all others : List (List Token))
    → AreLexed file before texts all → AreLexed file before texts others → all ≡ others
one_lexing [] file before all others is other = is ∙ sym other
one_lexing (text ∷ texts) file before [] others is other = absurd is
one_lexing (text ∷ texts) file before (tokens ∷ all) [] is other = absurd other
one_lexing (text ∷ texts) file before (tokens ∷ all) (others ∷ more) is other =
    let same = one_list file text 0 before tokens others is.0 other.0 in
    let rest = one_lexing texts (file + 1) (before + length tokens) all more is.1
    (subst (λ (ts : List Token). AreLexed (file + 1) (before + length ts) texts more) (sym same) other.1) in
    ap (λ ts. ts ∷ all) same ∙ ap (λ tss. others ∷ tss) rest

pub one_refused : (texts : List (List ℕ)) (file before : ℕ) (e f : LexError)
    → AreRefused file before texts e → AreRefused file before texts f → e ≡ f
one_refused [] file before e f is other = absurd is
one_refused (text ∷ texts) file before e f (inl is) (inl other) = one_refusal file text 0 before e f is other
one_refused (text ∷ texts) file before e f (inl is) (inr other) =
    absurd (not_both file text 0 before other.0 e other.1 is)
one_refused (text ∷ texts) file before e f (inr is) (inl other) =
    absurd (not_both file text 0 before is.0 f is.1 other)
one_refused (text ∷ texts) file before e f (inr is) (inr other) =
    let same = one_list file text 0 before is.0 other.0 is.1 other.1 in
    one_refused texts (file + 1) (before + length is.0) e f is.2
    (subst (λ (ts : List Token). AreRefused (file + 1) (before + length ts) texts f) (sym same) other.2)

pub never_both : (texts : List (List ℕ)) (file before : ℕ) (all : List (List Token)) (e : LexError)
    → AreLexed file before texts all → AreRefused file before texts e → ⊥
never_both [] file before all e is other = other
never_both (text ∷ texts) file before [] e is other = is
never_both (text ∷ texts) file before (tokens ∷ all) e is (inl other) = not_both file text 0 before tokens e is.0 other
never_both (text ∷ texts) file before (tokens ∷ all) e is (inr other) =
    let same = one_list file text 0 before tokens other.0 is.0 other.1 in
    never_both texts (file + 1) (before + length tokens) all e is.1
    (subst (λ (ts : List Token). AreRefused (file + 1) (before + length ts) texts e) (sym same) other.2)
