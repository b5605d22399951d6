-- Lists of texts as they are put one after the other.
use Rattle.std.proofs.Common.{◌≡◌, ℕ, suc, ◌≤◌, ◌+◌, min, Bool, true, false, ◌&&◌, ◌⊎◌, inl, inr, List, [], ◌∷◌, ◌++◌, length, drop, get_or, ap, ◌∙◌, sym, refl, arith, ℤ, Result, Ok, Err, append-nil, append_assoc}
use Rattle.std.specs.Prelude.{OnOk, codes, if◌then◌else◌, ◌==◌}
use Rattle.std.proofs.lemmas.List.{drop_all}
use Rattle.std.proofs.lemmas.Bool.{cases_lt}
use Rattle.linear.specs.Numbers.{is_zero}
use Rattle.sail_types.specs.Texts.{behind, joined, rest_joined}
use Rattle.farkas.specs.declared.certificate.Cert.{Cert}
use Rattle.obligations.specs.declared.obligation.Obligation.{Obligation}
use Rattle.obligations.specs.Texts.{separated, term_text, part_text, form_terms, zero_text, sum_text, certificates_text, value_text, values_text}

-- what follows where nothing fails
pub on_ok : {A E P Q : Type 0} (r : Result A E) → (P → Q) → OnOk r P → OnOk r Q
on_ok (Ok x) f h = f h
on_ok (Err e) f h = tt

-- three texts that are put one after the other
pub three_put : (out h b p e first second third : List ℕ) → first ≡ out ++ h → second ≡ first ++ (b ++ p) → third ≡ second ++ e
    → third ≡ out ++ (((h ++ b) ++ p) ++ e)
three_put out h b p e first second third put_first put_second put_third =
    put_third
    ∙ (ap (λ o. o ++ e) (put_second ∙ (ap (λ o. o ++ (b ++ p)) put_first ∙ append_assoc out h (b ++ p)))
    ∙ (append_assoc out (h ++ (b ++ p)) e ∙ ap (λ l. out ++ (l ++ e)) (sym (append_assoc h b p))))

-- a sum that goes on, or that begins
abbrev pub sum_rest : Bool → List (List ℕ) → List ℕ
sum_rest true ts = sum_text ts
sum_rest false ts = behind (codes " + ") ts

part_by : (first zero_c : Bool) (t : List ℕ) (rest : List (List ℕ)) →
    (if zero_c then [] else separated first (codes " + ") t) ++ sum_rest (first && zero_c) rest ≡ sum_rest first (if zero_c then rest else t ∷ rest)
part_by true true t rest = refl
part_by false true t rest = refl
part_by true false t rest = refl
part_by false false t rest = refl

pub part_then : (first : Bool) (c : ℤ) (name : List ℕ) (cs : List ℤ) (names : List (List ℕ)) →
    part_text first c name ++ sum_rest (first && is_zero c) (form_terms cs names) ≡ sum_rest first (form_terms (c ∷ cs) (name ∷ names))
part_then first c name cs names = part_by first (is_zero c) (term_text c name) (form_terms cs names)

pub none_rest : (first : Bool) → zero_text first ≡ sum_rest first []
none_rest true = refl
none_rest false = refl

-- ---- where one of two lists ends

one_ends : (a b : ℕ) → (a ≤ min a b) ⊎ (b ≤ min a b)
one_ends a b = elim (cases_lt a b) [
  | inl lt ↦ inl (omega arith)
  | inr ge ↦ inr (omega arith)
]

no_terms : (cs : List ℤ) → form_terms cs [] ≡ []
no_terms [] = refl
no_terms (c ∷ cs) = refl

pub terms_end : (cs : List ℤ) (names : List (List ℕ)) (i : ℕ) → i ≡ min (length cs) (length names) → form_terms (drop i cs) (drop i names) ≡ []
terms_end cs names i e = elim (one_ends (length cs) (length names)) [
  | inl le ↦ let p : length cs ≤ i = omega arith in ap (λ l. form_terms l (drop i names)) (drop_all i cs p)
  | inr le ↦ let p : length names ≤ i = omega arith in ap (form_terms (drop i cs)) (drop_all i names p) ∙ no_terms (drop i cs)
]

no_values : (names : List (List ℕ)) (d : ℤ) → values_text names [] d ≡ []
no_values [] d = refl
no_values (name ∷ names) d = refl

pub values_end : (names : List (List ℕ)) (ns : List ℤ) (d : ℤ) (i : ℕ) → i ≡ min (length ns) (length names) → values_text (drop i names) (drop i ns) d ≡ []
values_end names ns d i e = elim (one_ends (length ns) (length names)) [
  | inl le ↦ let p : length ns ≤ i = omega arith in ap (λ l. values_text (drop i names) l d) (drop_all i ns p) ∙ no_values (drop i names) d
  | inr le ↦ let p : length names ≤ i = omega arith in ap (λ l. values_text l (drop i ns) d) (drop_all i names p)
]

no_certificates : (k : ℕ) (os : List Obligation) → certificates_text k os [] ≡ []
no_certificates k [] = refl
no_certificates k (o ∷ os) = refl

pub certificates_end : (k : ℕ) (os : List Obligation) (certs : List Cert) (i : ℕ) → i ≡ min (length os) (length certs) →
    certificates_text k (drop i os) (drop i certs) ≡ []
certificates_end k os certs i e = elim (one_ends (length os) (length certs)) [
  | inl le ↦ let p : length os ≤ i = omega arith in ap (λ l. certificates_text k l (drop i certs)) (drop_all i os p)
  | inr le ↦ let p : length certs ≤ i = omega arith in ap (certificates_text k (drop i os)) (drop_all i certs p) ∙ no_certificates k (drop i os)
]

-- ---- a value of a point and those behind it

pub value_then : (first : Bool) (t : List ℕ) (rest : List (List ℕ)) →
    separated first (codes ", ") t ++ behind (codes ", ") rest ≡ rest_joined first (codes ", ") (t ∷ rest)
value_then true t rest = refl
value_then false t rest = refl

pub rest_none : (first : Bool) → rest_joined first (codes ", ") [] ≡ []
rest_none true = refl
rest_none false = refl
