use Rattle.std.proofs.Common.{◌≡◌, ◌∙◌, ap}
use Rattle.expression_forms.specs.Scopes.{newest}
use Rattle.expression_forms.proofs.Groups.{newest_more}
use Rattle.expression_notes.proofs.statements.bring_in.Goals as goal

pub returns : goal.returns
returns c = ap newest c.in_ok-push.ensures.pushed ∙ newest_more c.args.groups.now c.args.found
