use Rattle.accepted_models.proofs.laws.words_have_an_answer.Goals as goal

pub returns : goal.returns
returns c = λ words files. c.words_have_one_answer.ensures.some c.tokens_are_decided.ensures words files
