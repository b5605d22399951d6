-- Checking obligations one after the other.
use Rattle.std.proofs.Common.{◌≡◌, ℕ, zero, suc, ◌+◌, ◌-◌, ◌<◌, ◌≤◌, ◌⊎◌, inl, inr, List, [], ◌∷◌, ◌++◌, length, take, drop, get_or, sym, ap, ◌∙◌, subst, refl, arith, Result, Ok, Err}
use Rattle.std.specs.Prelude.{slice_get, Option, Some, None, IfOk, OnOk, IsErrAnd}
use Rattle.std.proofs.lemmas.List.{drop_more, drop_all, take_more, take_all, append_assoc, append-nil, length-take-le}
use Rattle.sail_types.specs.declared.numbers.Con.{Con}
use Rattle.sail_core.specs.declared.model.CoreModel.{CoreModel}
use Rattle.farkas.specs.Problems.{IsValid, IsShown, discharged}
use Rattle.farkas.specs.Verdicts.{IsAnswer}
use Rattle.farkas.specs.declared.certificate.Cert.{Cert}
use Rattle.farkas.specs.declared.verdict.FarkasError.{FarkasError}
use Rattle.farkas.specs.declared.verdict.FarkasError.TheVariants as F
use Rattle.farkas.specs.declared.verdict.Verdict.{Verdict}
use Rattle.farkas.specs.declared.verdict.Verdict.TheVariants.{Closed}
use Rattle.obligations.specs.declared.obligation.Obligation.{Obligation}
use Rattle.obligations.specs.Owed.{problem_of}
use Rattle.bidir_check.specs.declared.error.CheckError.{CheckError}
use Rattle.bidir_check.specs.declared.error.CheckError.TheVariants as E
use Rattle.bidir_check.specs.Certification.{Certification, AreCertified}
use Rattle.bidir_check.specs.Checking.{settled, certificate_of, behind, checked, certified_by, certified, IsMet, first_of, facts_in, facts_before}

-- ---- lists that begin alike

module _ {A : Type 0} where
  pub alike_more : (xs ys : List A) (i : ℕ) (x y : A) → i < length xs → i < length ys → x ≡ get_or xs i x → y ≡ get_or ys i y → x ≡ y
      → take i xs ≡ take i ys → take (i + 1) xs ≡ take (i + 1) ys
  alike_more xs ys i x y p q at_x at_y same so_far =
      take_more xs i x p ∙ ((λ j. so_far j ++ (sym at_x ∙ (same ∙ at_y)) j ∷ []) ∙ sym (take_more ys i y q))

  fewer : (x : A) (xs : List A) (n : ℕ) → n ≤ length xs → take (length (take n xs)) (x ∷ take n xs) ≡ take n (x ∷ xs)
  fewer x xs zero le = refl
  fewer x [] (suc n) le = absurd (omega arith)
  fewer x (y ∷ ys) (suc n) le = ap (λ l. x ∷ l) (fewer y ys n (omega arith))

  pub one_less : (xs : List A) (n : ℕ) → n ≤ length xs → 0 < n → take (length (take n xs) - 1) (take n xs) ≡ take (n - 1) xs
  one_less [] n le lt = absurd (omega arith)
  one_less (x ∷ xs) zero le lt = absurd (omega arith)
  one_less (x ∷ xs) (suc n) le lt =
      let before : suc (length (take n xs)) - 1 ≡ length (take n xs) = omega arith in
      let behind : n ≡ suc n - 1 = omega arith in
      ap (λ k. take k (x ∷ take n xs)) before ∙ (fewer x xs n (omega arith) ∙ ap (λ k. take k (x ∷ xs)) behind)

-- one fact popped of so many
pub popped : (all xs ys : List Con) (n : ℕ) → xs ≡ take n all → n ≤ length all → 0 < n → ys ≡ take (length xs - 1) xs → ys ≡ take (n - 1) all
popped all xs ys n e le lt left = left ∙ (ap (λ l. take (length l - 1) l) e ∙ one_less all n le lt)

-- one fact pushed on so many
pub pushed : (all old new : List Con) (k : ℕ) (x copy : Con) → k < length all → x ≡ get_or all k x → copy ≡ x → old ≡ take k all
    → new ≡ old ++ copy ∷ [] → new ≡ take (k + 1) all
pushed all old new k x copy lt at same so_far put =
    put ∙ ((λ j. so_far j ++ (same ∙ at) j ∷ []) ∙ sym (take_more all k x lt))

-- ---- an answer and what it says

pub on_any : {A E P : Type 0} (r : Result A E) → P → OnOk r P
on_any (Ok x) h = h
on_any (Err e) h = tt

pub met_error : {A : Type 0} (x y : CheckError) → (x ≡ y) ⊎ (x ≡ E.OutOfMemory) → IsMet {A = A} (Err x) (Err y)
met_error x y (inl e) = inl (ap Err e)
met_error x y (inr e) = inr (ap Err e)

-- what a `?` hands on
pub exit_met : {A : Type 0} (r : Result A CheckError) (error : CheckError) (answer : Result A CheckError) → IsErrAnd r (λ y. y ≡ error)
    → IsMet (Err error) answer → IsMet r answer
exit_met (Ok x) error answer h met = absurd h
exit_met (Err y) error answer h met = subst (λ z. IsMet (Err z) answer) (sym h) met

pub exit_first : {A B : Type 0} (r : Result (A × B) CheckError) (error : CheckError) (answer : Result A CheckError) → IsErrAnd r (λ y. y ≡ error)
    → IsMet (Err error) answer → IsMet (first_of r) answer
exit_first (Ok both) error answer h met = absurd h
exit_first (Err y) error answer h met = subst (λ z. IsMet (Err z) answer) (sym h) met

met_ok : {A : Type 0} (x : A) (answer : Result A CheckError) → IsMet (Ok x) answer → answer ≡ Ok x
met_ok x answer (inl e) = sym e
met_ok x answer (inr e) = absurd (cc)

pub all_valid : (o : Obligation) (answer : Result Verdict FarkasError) (r : Result Cert CheckError) → IsShown (problem_of o) answer
    → IfOk r (λ cert. answer ≡ Ok (Closed cert)) → IfOk r (IsValid (problem_of o))
all_valid o answer (Ok cert) shown e = subst (IsShown (problem_of o)) e shown
all_valid o answer (Err error) shown e = tt

pub settled_met : (o : Obligation) (answer found : Result Verdict FarkasError) (result : Result Cert CheckError) → IsAnswer answer found
    → IsMet result (settled o answer) → IsMet result (settled o found)
settled_met o answer found result (inl e) h = subst (λ a. IsMet result (settled o a)) e h
settled_met o answer found result (inr e) (inl h) = inr (h ∙ ap (settled o) e)
settled_met o answer found result (inr e) (inr h) = inr h

-- ---- one obligation after the other

-- these certificates before others
abbrev pub put_before : List Cert → Result (List Cert) CheckError → Result (List Cert) CheckError
put_before certs (Ok more) = Ok (certs ++ more)
put_before certs (Err error) = Err error

put_none : (r : Result (List Cert) CheckError) → put_before [] r ≡ r
put_none (Ok more) = refl
put_none (Err error) = refl

put_one : (certs : List Cert) (cert : Cert) (r : Result (List Cert) CheckError) → put_before certs (behind (Ok cert) r) ≡ put_before (certs ++ cert ∷ []) r
put_one certs cert (Ok more) = ap Ok (sym (append_assoc certs (cert ∷ []) more))
put_one certs cert (Err error) = refl

module _ (os : List Obligation) (i : ℕ) (o : Obligation) (certs : List Cert) (lt : i < length os) (at : o ≡ get_or os i o)
    (so_far : checked os ≡ put_before certs (checked (drop i os))) where
  next : checked (drop i os) ≡ behind (certificate_of o) (checked (drop (i + 1) os))
  next = ap checked (drop_more os i o lt) ∙ ap (λ p. behind (certificate_of p) (checked (drop (i + 1) os))) (sym at)

  pub went_on : (cert : Cert) (new : List Cert) → IsMet (Ok cert) (certificate_of o) → new ≡ certs ++ cert ∷ []
      → checked os ≡ put_before new (checked (drop (i + 1) os))
  went_on cert new met put =
      so_far
      ∙ (ap (put_before certs) (next ∙ ap (λ r. behind r (checked (drop (i + 1) os))) (met_ok cert (certificate_of o) met))
      ∙ (put_one certs cert (checked (drop (i + 1) os)) ∙ ap (λ l. put_before l (checked (drop (i + 1) os))) (sym put)))

  went_wrong : (error : CheckError) → certificate_of o ≡ Err error → checked os ≡ Err error
  went_wrong error e = so_far ∙ ap (put_before certs) (next ∙ ap (λ r. behind r (checked (drop (i + 1) os))) e)

  pub stopped_at : (error : CheckError) → IsMet (Err error) (certificate_of o) → IsMet (Err error) (checked os)
  stopped_at error (inl e) = inl (sym (went_wrong error (sym e)))
  stopped_at error (inr e) = inr (let p : error ≡ E.OutOfMemory = cc in ap Err p)

pub began : (os : List Obligation) → checked os ≡ put_before [] (checked os)
began os = sym (put_none (checked os))

pub ended : (os : List Obligation) (i : ℕ) (certs : List Cert) → length os ≤ i → checked os ≡ put_before certs (checked (drop i os)) → Ok certs ≡ checked os
ended os i certs le h = sym (h ∙ (ap (λ l. put_before certs (checked l)) (drop_all i os le) ∙ ap Ok (append-nil certs)))

-- ---- certificates

certified_more : (os : List Obligation) (certs : List Cert) (o : Obligation) (cert : Cert) → AreCertified os certs → IsValid (problem_of o) cert
    → AreCertified (os ++ o ∷ []) (certs ++ cert ∷ [])
certified_more [] [] o cert h v = (v, tt)
certified_more [] (c ∷ certs) o cert h v = elim h [ ]
certified_more (p ∷ os) [] o cert h v = elim h [ ]
certified_more (p ∷ os) (c ∷ certs) o cert h v = (h.0, certified_more os certs o cert h.1 v)

pub certified_next : (os : List Obligation) (i : ℕ) (o : Obligation) (certs new : List Cert) (cert : Cert) → i < length os → o ≡ get_or os i o
    → AreCertified (take i os) certs → IsValid (problem_of o) cert → new ≡ certs ++ cert ∷ [] → AreCertified (take (i + 1) os) new
certified_next os i o certs new cert lt at h v put =
    subst (AreCertified (take (i + 1) os)) (sym put)
    (subst (λ l. AreCertified l (certs ++ cert ∷ [])) (ap (λ p. take i os ++ p ∷ []) at ∙ sym (take_more os i o lt))
    (certified_more (take i os) certs o cert h v))

pub certified_all : (os : List Obligation) (i : ℕ) (certs : List Cert) → length os ≤ i → AreCertified (take i os) certs → AreCertified os certs
certified_all os i certs le h = subst (λ l. AreCertified l certs) (take_all i os le) h

-- ---- the facts of the obligation before

pub got_at : {A : Type 0} (xs : List A) (i : ℕ) (x : A) → i < length xs → x ≡ get_or xs i x → slice_get xs i ≡ Some x
got_at [] i x lt at = absurd (omega arith)
got_at (y ∷ ys) zero x lt at = ap Some (sym at)
got_at (y ∷ ys) (suc i) x lt at = got_at ys i x (omega arith) at

pub facts_next : (os : List Obligation) (i : ℕ) (o : Obligation) → i < length os → o ≡ get_or os i o → o.facts ≡ facts_before os (i + 1)
facts_next os i o lt at =
    let e : i + 1 ≡ suc i = omega arith in sym (ap (facts_before os) e ∙ ap facts_in (got_at os i o lt at))

pub facts_last : (os : List Obligation) (i j : ℕ) (o : Obligation) → i ≡ suc j → j < length os → o ≡ get_or os j o → o.facts ≡ facts_before os i
facts_last os i j o e lt at = sym (ap (facts_before os) e ∙ ap facts_in (got_at os j o lt at))

-- ---- the whole

pub all_met : (core : CoreModel) (os : List Obligation) (certs : List Cert) → IsMet (Ok certs) (checked os)
    → Ok (record { core = core; obligations = os; certificates = certs }) ≡ certified core os
all_met core os certs (inl e) = ap (certified_by core os) e
all_met core os certs (inr e) = absurd (cc)

pub error_met : (core : CoreModel) (os asked : List Obligation) (error : CheckError) → asked ≡ os → IsMet (Err error) (checked asked)
    → IsMet (Err error) (certified core os)
error_met core os asked error same (inl e) = inl (ap (certified_by core os) (e ∙ ap checked same))
error_met core os asked error same (inr e) = inr (let p : error ≡ E.OutOfMemory = cc in ap Err p)
