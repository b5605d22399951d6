use Rattle.sail_meaning.proofs.Sentences.{first_member_is_taken, others_are_passed_over}
use Rattle.sail_meaning.proofs.laws.members_in_order.Goals as goal

pub returns-clause-first : goal.returns-clause-first
returns-clause-first c = first_member_is_taken

pub returns-clause-others : goal.returns-clause-others
returns-clause-others c = others_are_passed_over
