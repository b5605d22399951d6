-- What is printed of obligations: certificates, the point at which one doesn't hold, and limits that are passed.
use Rattle.std.specs.Prelude.{ℕ, suc, ℤ, pos, codes, List, [], ◌∷◌, ◌++◌, length, Bool, if◌then◌else◌}
use Rattle.std.specs.Fmt.{signed_decimal}
use Rattle.std.specs.Ordering.{int_eq}
use Rattle.sail_base.specs.declared.place.Place.{Place}
use Rattle.sail_types.specs.Texts.{joined, text_at}
use Rattle.linear.specs.Numbers.{gcd, is_zero}
use Rattle.linear.specs.declared.row.Row.{Row}
use Rattle.farkas.specs.Points.{part}
use Rattle.farkas.specs.declared.certificate.Case.{Case}
use Rattle.farkas.specs.declared.certificate.Cert.{Cert}
use Rattle.farkas.specs.declared.certificate.Step.{Step}
use Rattle.farkas.specs.declared.points.Point.{Point}
use Rattle.farkas.specs.declared.verdict.FarkasError.{FarkasError}
use Rattle.farkas.specs.declared.verdict.FarkasError.TheVariants.{RowLimit, NumberLimit, CaseLimit, OutOfMemory}
use Rattle.model_state.specs.Report.{number_text, place_text}
use Rattle.obligations.specs.declared.obligation.Obligation.{Obligation}

-- a text, behind a separator unless it is the first
abbrev pub separated : Bool → List ℕ → List ℕ → List ℕ
separated first separator text = if first then text else separator ++ text

-- ---- rows and steps, numbered from 1

abbrev pub term_text : ℤ → List ℕ → List ℕ
term_text c name = signed_decimal c ++ codes "*" ++ name

-- a coefficient and its variable, behind a plus unless it is the first one; nothing where it is 0
abbrev pub part_text : Bool → ℤ → List ℕ → List ℕ
part_text first c name = if is_zero c then [] else separated first (codes " + ") (term_text c name)

-- coefficients, each with its variable; those that are 0 are left out
abbrev pub form_terms : List ℤ → List (List ℕ) → List (List ℕ)
form_terms (c ∷ cs) (name ∷ names) = if is_zero c then form_terms cs names else term_text c name ∷ form_terms cs names
form_terms cs names = []

-- a sum without a term
abbrev pub zero_text : Bool → List ℕ
zero_text none = if none then codes "0" else []

abbrev pub sum_text : List (List ℕ) → List ℕ
sum_text [] = codes "0"
sum_text (t ∷ ts) = joined (codes " + ") (t ∷ ts)

abbrev pub row_text : List (List ℕ) → ℕ → Row → List ℕ
row_text names i row =
    codes "row " ++ number_text i ++ codes ": " ++ sum_text (form_terms row.coefficients names)
    ++ codes " <= " ++ signed_decimal row.bound ++ codes "\n"

abbrev pub times_text : ℕ → ℤ → List ℕ
times_text i times = number_text i ++ codes " * " ++ signed_decimal times

abbrev pub step_text : ℕ → Step → List ℕ
step_text i s =
    codes "step " ++ number_text i ++ codes ": " ++ times_text s.first s.first_times
    ++ codes " + " ++ times_text s.second s.second_times ++ codes " / " ++ signed_decimal s.divisor ++ codes "\n"

abbrev pub rows_text : List (List ℕ) → ℕ → List Row → List ℕ
rows_text names i [] = []
rows_text names i (row ∷ rows) = row_text names i row ++ rows_text names (suc i) rows

abbrev pub steps_text : ℕ → List Step → List ℕ
steps_text i [] = []
steps_text i (s ∷ ss) = step_text i s ++ steps_text (suc i) ss

-- ---- cases and obligations, numbered from 1

abbrev pub case_text : List (List ℕ) → ℕ → Case → List ℕ
case_text names j c =
    codes "case " ++ number_text j ++ codes "\n" ++ rows_text names 1 c.starts ++ steps_text (suc (length c.starts)) c.steps

abbrev pub cases_text : List (List ℕ) → ℕ → List Case → List ℕ
cases_text names j [] = []
cases_text names j (c ∷ cs) = case_text names j c ++ cases_text names (suc j) cs

abbrev pub heading_text : ℕ → Place → List ℕ
heading_text k place = codes "obligation " ++ number_text k ++ codes " " ++ place_text place ++ codes "\n"

abbrev pub obligation_text : ℕ → Obligation → Cert → List ℕ
obligation_text k o cert = heading_text k o.place ++ cases_text o.names 1 cert.cases

-- from this number on
abbrev pub certificates_text : ℕ → List Obligation → List Cert → List ℕ
certificates_text k (o ∷ os) (cert ∷ certs) = obligation_text k o cert ++ certificates_text (suc k) os certs
certificates_text k os certs = []

-- all obligations of a model, each with its certificate
abbrev pub certs_text : List Obligation → List Cert → List ℕ
certs_text os certs = certificates_text 1 os certs

-- ---- details of refusals

-- a fraction in lowest terms
abbrev pub over_text : ℤ → List ℕ
over_text d = if int_eq d (pos 1) then [] else codes "/" ++ signed_decimal d

abbrev pub fraction_text : ℤ → ℤ → List ℕ
fraction_text n d = signed_decimal (part n (gcd n d)) ++ over_text (part d (gcd n d))

abbrev pub value_text : List ℕ → ℤ → ℤ → List ℕ
value_text name n d = name ++ codes " = " ++ fraction_text n d

abbrev pub values_text : List (List ℕ) → List ℤ → ℤ → List (List ℕ)
values_text (name ∷ names) (n ∷ ns) d = value_text name n d ∷ values_text names ns d
values_text names ns d = []

-- a point, by the variables in order; nothing where there are none
abbrev pub point_text : List (List ℕ) → Point → List ℕ
point_text names p = joined (codes ", ") (values_text names p.numerators p.denominator)

-- a limit of elimination
abbrev pub limit_text : List (List ℕ) → FarkasError → List ℕ
limit_text names (RowLimit v) = codes "rows " ++ text_at names v
limit_text names NumberLimit = codes "number"
limit_text names (CaseLimit n) = codes "cases " ++ number_text n
limit_text names OutOfMemory = []
