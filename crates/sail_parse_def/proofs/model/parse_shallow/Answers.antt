use Rattle.sail_parse_def.proofs.Refusals.{read_model, whole_stops, whole_ended}
use Rattle.sail_parse_def.proofs.model.parse_shallow.Goals as goal

pub returns-in-Ok-clause-model : goal.returns-in-Ok-clause-model
returns-in-Ok-clause-model c = read_model c.args.all.now _ _ c.requires c.in-Ok.ensures.read c.into_vec.ensures

pub refuse-requires-clause-first : goal.refuse-requires-clause-first
refuse-requires-clause-first c = λ m h. absurd (let none = c.requires in cc)

pub refuse-requires-clause-stop : goal.refuse-requires-clause-stop
refuse-requires-clause-stop c = whole_stops c.args.all.now c.in-Err.error c.in-Err.ensures.stop

pub refuse-requires-clause-ended : goal.refuse-requires-clause-ended
refuse-requires-clause-ended c = λ from e. whole_ended c.args.all.now from c.args.end c.requires e
