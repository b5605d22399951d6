-- What the code's answers stand for.
use Rattle.std.specs.Prelude.{List}
use Rattle.linear.specs.declared.row.Row.{Row}
use Rattle.farkas.specs.declared.certificate.Step.{Step}
use Rattle.farkas.specs.declared.elimination.Held.{Held}
use Rattle.farkas.specs.declared.elimination.Meeting.{Meeting}
use Rattle.farkas.specs.declared.elimination.Meeting.TheVariants as meeting
use Rattle.farkas.specs.Elimination.{Progress, Going, Closed, RowsPast, NumbersPast}
use Rattle.farkas.specs.declared.keeping.Event.{Event}
use Rattle.farkas.specs.declared.keeping.Event.TheVariants as event
use Rattle.farkas.specs.declared.keeping.Starts.{Starts}
use Rattle.farkas.specs.declared.keeping.Starts.TheVariants as start

-- the kept rows after an event
abbrev pub starts_of : Event → List Row → Starts
starts_of event.Goes kept = start.Kept kept
starts_of event.Contradicts kept = start.Contradiction kept
starts_of event.TooMany kept = start.TooMany

-- how far an elimination has come after a meeting
abbrev pub progress : Meeting → List Held → List Step → Progress
progress meeting.Goes held steps = Going held steps
progress meeting.Closes held steps = Closed steps
progress meeting.RowsPast held steps = RowsPast
progress meeting.NumbersPast held steps = NumbersPast
