-- Around an opening: so many names of lets as are counted before it.
use Rattle.std.proofs.Common.{◌≡◌, ◌∙◌, ap, sym, refl, ℕ, zero, suc, ◌+◌, ◌<◌, List, [], ◌∷◌, ◌++◌, take, length, get_or, append-nil, append_assoc, arith}
use Rattle.std.specs.Prelude.{slice_get}
use Rattle.std.proofs.lemmas.List.{take_at}
use Rattle.sail_core.specs.declared.model.CoreModel.{CoreModel}
use Rattle.sail_core.specs.declared.model.Opening.{Opening}
use Rattle.pattern_leaves.specs.Settings.{Around}
use Rattle.pattern_leaves.specs.declared.names.TopLevel.{TopLevel}
use Rattle.constraint_gen.specs.declared.top_levels.TopLevels.{TopLevels}
use Rattle.constraint_gen.specs.Defined.{AreNames, counts_behind, first_names}
use Rattle.constraint_gen.specs.Models.{around_of, around_opening, around_with, behind_opening, lets_behind, names_of}

-- the names behind further openings begin with these
grown : (core : CoreModel) (names : List TopLevel) (os : List Opening) → (more : List TopLevel)
    × (lets_behind (around_with core names) os ≡ around_with core (names ++ more))
grown core names [] = ([], ap (around_with core) (sym (append-nil names)))
grown core names (o ∷ os) =
    let own : List TopLevel = names_of (around_with core names) o o.kind in
    let more = grown core (names ++ own) os in
    (own ++ more.0, more.1 ∙ ap (around_with core) (append_assoc names own more.0))

-- cut to those counted before an opening
cut_at : (core : CoreModel) (names : List TopLevel) (os : List Opening) (i : ℕ)
    → around_with core (first_names (lets_behind (around_with core names) os).lets (slice_get (counts_behind (around_with core names) os) i))
    ≡ lets_behind (around_with core names) (take i os)
cut_at core names [] zero = refl
cut_at core names [] (suc i) = refl
cut_at core names (o ∷ os) zero =
    let own : List TopLevel = names_of (around_with core names) o o.kind in
    let more = grown core (names ++ own) os in
    ap (λ (around : Around). around_with core (take (length names) around.lets)) more.1
    ∙ ap (around_with core) (ap (take (length names)) (append_assoc names own more.0) ∙ take_at names (own ++ more.0) (length names) refl)
cut_at core names (o ∷ os) (suc i) = cut_at core (names ++ names_of (around_with core names) o o.kind) os i

pub around_cut : (core : CoreModel) (lets : TopLevels) → AreNames core lets → (i : ℕ) (names : List TopLevel) (counts : List ℕ) (first : List TopLevel)
    (around : Around) → names ≡ lets.names → counts ≡ lets.counts → first ≡ first_names names (slice_get counts i)
    → around ≡ around_with core first → around ≡ around_opening core i
around_cut core lets are i names counts first around same counted cut is =
    let all : names ≡ (around_of core).lets = same ∙ ap (λ (s : Around). s.lets) are.names in
    let told : counts ≡ counts_behind (around_with core []) core.openings = counted ∙ are.counts in
    is ∙ (ap (around_with core) cut
    ∙ ((λ j. around_with core (first_names (all j) (slice_get (told j) i))) ∙ cut_at core [] core.openings i))

-- around the next opening the names of this one are known
pub next_opening : (around : Around) (os : List Opening) (k : ℕ) (o : Opening) → k < length os → o ≡ get_or os k o
    → lets_behind around (take (k + 1) os) ≡ behind_opening (lets_behind around (take k os)) o
next_opening around [] k o within read = absurd (omega arith)
next_opening around (x ∷ os) zero o within read =
    let e : zero + 1 ≡ suc zero = omega arith in
    ap (λ (n : ℕ). lets_behind around (take n (x ∷ os))) e ∙ ap (behind_opening around) (sym read)
next_opening around (x ∷ os) (suc k) o within read =
    let e : suc k + 1 ≡ suc (k + 1) = omega arith in
    ap (λ (n : ℕ). lets_behind around (take n (x ∷ os))) e ∙ next_opening (behind_opening around x) os k o (omega arith) read
