-- The first of failures that were noted one list behind the other.
use Rattle.std.proofs.Common.{◌≡◌, List, ◌++◌, sym, ap, ◌∙◌, Option, None}
use Rattle.sail_kinds.specs.declared.error.TableError.{TableError}
use Rattle.sail_kinds.specs.Failures.{first_failure}
use Rattle.sail_kinds.proofs.Firsts.{first_failure_append}

-- some failures were noted, and then others
noted_behind : (es fs : List TableError) (middle after : Option TableError)
    → first_failure None es ≡ middle → after ≡ first_failure middle fs → first_failure None (es ++ fs) ≡ after
noted_behind es fs middle after before behind =
    first_failure_append None es fs ∙ ap (λ (kept : Option TableError). first_failure kept fs) before ∙ sym behind

-- six lists of failures were noted, one behind the other
pub all_noted : (a b c d e f : List TableError) (first second third fourth fifth sixth : Option TableError)
    → first_failure None a ≡ first → second ≡ first_failure first b → third ≡ first_failure second c → fourth ≡ first_failure third d
    → fifth ≡ first_failure fourth e → sixth ≡ first_failure fifth f
    → first_failure None (((((a ++ b) ++ c) ++ d) ++ e) ++ f) ≡ sixth
all_noted a b c d e f first second third fourth fifth sixth one two three four five six =
    noted_behind ((((a ++ b) ++ c) ++ d) ++ e) f fifth sixth
    (noted_behind (((a ++ b) ++ c) ++ d) e fourth fifth
    (noted_behind ((a ++ b) ++ c) d third fourth
    (noted_behind (a ++ b) c second third
    (noted_behind a b first second one two) three) four) five) six
