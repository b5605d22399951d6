use Rattle.scattered.specs.Gathered.{gathered}
use Rattle.sail_top.specs.Models.{end_of_all, joined}
use Rattle.accepted_models.proofs.laws.accepted_models_go_on.Goals as goal

pub returns : goal.returns
returns c = λ texts made accepted cycle.
    c.accepted_texts_go_on.ensures (gathered accepted.definitions) (end_of_all texts) cycle accepted.tables accepted.shapes
    (c.parsed_texts_are_written.ensures (joined texts accepted.tokens) accepted.definitions accepted.parsed).1
    (c.parsed_texts_have_manners.ensures (joined texts accepted.tokens) accepted.definitions accepted.parsed)
