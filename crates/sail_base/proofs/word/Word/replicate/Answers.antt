use Rattle.std.proofs.Common.{sym, ap, ◌∙◌, arith}
use Rattle.sail_base.specs.Bits.{append_bits, copies}
use Rattle.sail_base.proofs.Words.{copies_of_none, copies-zero, copies-next, copies_fit}
use Rattle.sail_base.proofs.word.Word.replicate.Goals as goal

pub returns-then-self-eq0 : goal.returns-then-self-eq0
returns-then-self-eq0 c = copies_of_none _ _ _ _ c.self.view_is c.if-self-eq0.true

pub loop-init : goal.loop-init
loop-init c = c.zeros-out.ensures ∙ sym (copies-zero c.args.self)

pub append-out-requires : goal.append-out-requires
append-out-requires c = copies_fit _ _ _ _ c.loop.invariant c.loop-test.true c.requires

pub loop-preserved : goal.loop-preserved
loop-preserved c = c.append-out.ensures ∙ ap (λ a. append_bits a c.args.self) c.loop.invariant ∙ copies-next c.loop.counter c.args.self

pub returns : goal.returns
returns c = c.loop.invariant ∙ ap (λ n. copies n c.args.self) (omega arith)
