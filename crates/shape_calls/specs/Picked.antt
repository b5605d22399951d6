-- What the code holds of a member that is taken, and of the arguments of several members.
use Rattle.std.specs.Prelude.{ℕ, false, List, [], Option, Some, None, if◌then◌else◌}
use Rattle.sail_base.specs.declared.place.Place.{Place}
use Rattle.sail_types.specs.Shapes.{put, at}
use Rattle.sail_types.specs.declared.shapes.Shape.{Shape}
use Rattle.shape_rules.specs.declared.error.ShapeError.TheVariants as error
use Rattle.shape_rules.specs.Findings.{Found, over, refused, unknown, settled}
use Rattle.shape_rules.specs.Calls.{Args, Chosen, doing_kind}
use Rattle.shape_calls.specs.declared.choosing.Arguments.{Arguments}
use Rattle.shape_calls.specs.declared.choosing.Choice.{Choice}
use Rattle.shape_calls.specs.declared.choosing.Picked.{Picked}
use Rattle.shape_calls.specs.declared.setters.Callees.{Callees}
use Rattle.shape_calls.specs.declared.setters.Callees.TheVariants as S
use Rattle.shape_rules.specs.declared.callees.Candidate.{Candidate}

abbrev pub choice_of : Choice → Chosen
choice_of choice = record { candidate = choice.candidate.now; known = choice.known }

abbrev pub picked_of : Chosen → Picked
picked_of x = record { doing = x.candidate.doing; answer = put (at x.known) x.candidate.answer; known = x.known }

abbrev pub arguments_of : Args → Arguments
arguments_of args = record { shapes = args.shapes; cores = args.cores; is_unsure = args.is_unsure }

abbrev pub no_arguments : Arguments
no_arguments = record { shapes = []; cores = []; is_unsure = false }

-- a call of what was picked
abbrev pub member_picked : Place → List ℕ → Shape → Arguments → Option Picked → Found
member_picked place name want args None = refused (error.NoMember place name)
member_picked place name want args (Some x) =
    if args.is_unsure then unknown place else settled place want x.answer (λ s. over place (doing_kind x.doing x.known) args.cores)

-- the callees of a target, wherever they are held
abbrev pub held_by : Callees → List Candidate
held_by (S.Held callees) = callees.now
held_by (S.Members callees) = callees
