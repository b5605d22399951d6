use Rattle.sail_parse_def.proofs.Texts.{lexed_texts}
use Rattle.parse_tests.proofs.models.tokens_of.Goals as goal

pub returns-in-Ok : goal.returns-in-Ok
returns-in-Ok c = lexed_texts _ c.in-Ok.tokens c.in-Ok.ensures.source c.in-Ok.ensures.spans c.in-Ok.ensures.ascii
