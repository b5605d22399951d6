use Rattle.sail_top.specs.Models.{end_of_all, joined}
use Rattle.accepted_models.proofs.laws.accepted_models_mean_text.Goals as goal

pub returns : goal.returns
returns c = λ texts made accepted cycle.
    c.parsed_texts_mean_text.ensures (joined texts accepted.tokens) accepted.definitions accepted.parsed (end_of_all texts) cycle accepted.tables
    accepted.shapes
