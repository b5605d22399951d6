use Rattle.sail_grammar.specs.Joined.{joined, end_from}
use Rattle.sail_grammar.specs.Leaves.{nowhere}
use Rattle.sail_compile.proofs.ModelLemmas.{tokens_accepted, tokens_refused, unparsed_is}
use Rattle.sail_compile.proofs.models.read_files.Goals as goal

pub returns-in-Ok-clause-accepted : goal.returns-in-Ok-clause-accepted
returns-in-Ok-clause-accepted c =
    tokens_accepted (joined c.args.files.now) c.in-Ok.definitions.items c.in-Ok.ensures.model c.last_end.result (end_from nowhere c.args.files.now)
    c.last_end.ensures c.gather_definitions.result c.gather_definitions.ensures.accepted

pub returns-in-Ok-clause-refused : goal.returns-in-Ok-clause-refused
returns-in-Ok-clause-refused c =
    tokens_refused (joined c.args.files.now) c.in-Ok.definitions.items c.in-Ok.ensures.model c.last_end.result (end_from nowhere c.args.files.now)
    c.last_end.ensures c.gather_definitions.result c.gather_definitions.ensures.refused

pub returns-in_ok-parse_refusal-in-Err-clause-refused : goal.returns-in_ok-parse_refusal-in-Err-clause-refused
returns-in_ok-parse_refusal-in-Err-clause-refused c =
    unparsed_is (joined c.args.files.now) (end_from nowhere c.args.files.now) c.in-Err.error c.in_ok-parse_refusal-in-Err.field-0
    c.in-Err.ensures.refused c.in_ok-parse_refusal-in-Err.ensures.told c.in_ok-parse_refusal-in-Err.ensures.refused
