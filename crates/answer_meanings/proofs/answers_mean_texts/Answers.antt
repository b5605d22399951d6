use Rattle.answer_meanings.proofs.Told.{answers_mean}
use Rattle.answer_meanings.proofs.answers_mean_texts.Goals as goal

pub returns : goal.returns
returns c = answers_mean c.engines_mean_texts.ensures c.fresh_states_belong.ensures
