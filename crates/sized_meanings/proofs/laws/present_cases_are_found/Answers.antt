use Rattle.sized_meanings.proofs.Presence.{found}
use Rattle.sized_meanings.proofs.laws.present_cases_are_found.Goals as goal

pub returns : goal.returns
returns c = λ noted vs front x back e n. found noted (λ y. y.picked) vs front x back e n
