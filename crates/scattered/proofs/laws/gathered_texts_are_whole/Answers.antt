use Rattle.scattered.proofs.WholeTexts.{gathered_whole, gathered_same, whole_accepted}
use Rattle.scattered.proofs.laws.gathered_texts_are_whole.Goals as goal

pub returns-clause-whole : goal.returns-clause-whole
returns-clause-whole c = gathered_whole

pub returns-clause-same : goal.returns-clause-same
returns-clause-same c = gathered_same

pub returns-clause-accepted : goal.returns-clause-accepted
returns-clause-accepted c = whole_accepted
