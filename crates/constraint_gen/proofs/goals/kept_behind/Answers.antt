use Rattle.constraint_gen.proofs.Keeping.{kept_restored, kept_unclaimed, kept_all}
use Rattle.constraint_gen.proofs.goals.kept_behind.Goals as goal

pub returns-in-Restores : goal.returns-in-Restores
returns-in-Restores c = λ w facts h count.
    kept_restored w facts c.remembered.result h.in_force c.args.step.now c.in-Restores.is (c.remembered.ensures w facts h)

pub returns-in-Unclaims : goal.returns-in-Unclaims
returns-in-Unclaims c = λ w facts h count.
    kept_unclaimed w facts c.remembered-in-Unclaims.result h.in_force c.args.step.now c.in-Unclaims.is (c.remembered-in-Unclaims.ensures w facts h)

pub returns-in_default : goal.returns-in_default
returns-in_default c = λ w facts h count.
    kept_all w facts c.args.count h.in_force count c.args.step.now c.in_default.not-Restores c.in_default.not-Unclaims
