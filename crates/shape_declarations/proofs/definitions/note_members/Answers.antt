use Rattle.std.proofs.Common.{refl, ◌∙◌}
use Rattle.sail_syntax.specs.declared.definitions.Member.{Member as AMember}
use Rattle.sail_kinds.specs.Scopes.{within}
use Rattle.shape_rules.specs.Written.{written_faults}
use Rattle.written_types.proofs.Rows.{noted_more}
use Rattle.shape_declarations.specs.Failures.{members_faults}
use Rattle.shape_declarations.proofs.definitions.note_members.Goals as goal

pub loop-member-preserved : goal.loop-member-preserved
loop-member-preserved c =
    let w = within c.args.scope.now in
    noted_more (λ (m : AMember). written_faults w m.typ) (members_faults w) (λ x xs. refl)
    c.args.members.now c.loop-member.member-index c.member-item.result c.loop-member.first.error c.note_written.new.first.error
    c.loop-member-test.true c.member-item.is c.in_ok-note_written.ensures.failures
    ∙ c.loop-member.invariant
