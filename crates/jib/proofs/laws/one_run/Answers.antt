use Rattle.std.proofs.Common.{[]}
use Rattle.jib.proofs.Ends.{ends}
use Rattle.jib.proofs.Determined.{determined}
use Rattle.jib.proofs.OpenedLaws.{opens}
use Rattle.jib.proofs.ValidLaws.{valid_ticking, valid_set, valid_once, valid_falling}
use Rattle.jib.proofs.UnderLaws.{jib_under}
use Rattle.jib.proofs.laws.one_run.Goals as goal

pub returns-clause-ends : goal.returns-clause-ends
returns-clause-ends c = λ m v lets hart f vs s. ends m lets hart (valid_ticking m v) (valid_set m v) f vs s

pub returns-clause-once : goal.returns-clause-once
returns-clause-once c = λ m v lets hart f vs s r r' x y. determined m lets hart (valid_once m v) x y

pub returns-clause-openings : goal.returns-clause-openings
returns-clause-openings c = λ m v types state. opens m types state (valid_ticking m v) (valid_set m v) m.openings []

pub returns-clause-nearest : goal.returns-clause-nearest
returns-clause-nearest c = λ m v lets hart f vs s r x. jib_under m lets hart (valid_falling m v) f vs s r x
