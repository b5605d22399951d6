use Rattle.std.proofs.Common.{sym, ◌∙◌}
use Rattle.sail_grammar.proofs.Steps.{pass_ok, pass_stop}
use Rattle.sail_parse_atoms.proofs.AtomRows as A
use Rattle.sail_parse_atoms.proofs.atoms.Atoms.atom.Goals as goal

pub returns-then-sees_any-clause-read : goal.returns-then-sees_any-clause-read
returns-then-sees_any-clause-read g c = pass_ok _ c.constant.ensures.read (λ x r. A.atom_constant (sym c.sees_any.ensures ∙ c.if-sees_any.true) r)

pub returns-then-sees_any-clause-stop : goal.returns-then-sees_any-clause-stop
returns-then-sees_any-clause-stop g c = pass_stop _ c.constant.ensures.stop (λ e s. A.atom_constant_stops (sym c.sees_any.ensures ∙ c.if-sees_any.true) s)

pub returns-then-sees_identifier-clause-read : goal.returns-then-sees_identifier-clause-read
returns-then-sees_identifier-clause-read g c =
    pass_ok _ c.named.ensures.read (λ x r. A.atom_named (sym c.sees_identifier.ensures ∙ c.if-sees_identifier.true) r)

pub returns-then-sees_identifier-clause-stop : goal.returns-then-sees_identifier-clause-stop
returns-then-sees_identifier-clause-stop g c =
    pass_stop _ c.named.ensures.stop (λ e s. A.atom_named_stops (sym c.sees_identifier.ensures ∙ c.if-sees_identifier.true) s)

pub returns-then-sees_any-2-clause-read : goal.returns-then-sees_any-2-clause-read
returns-then-sees_any-2-clause-read g c =
    pass_ok _ c.prefix_call.ensures.read (λ x r. A.atom_prefix (sym c.sees_any-else-sees_identifier.ensures ∙ c.if-sees_any-2.true) r)

pub returns-then-sees_any-2-clause-stop : goal.returns-then-sees_any-2-clause-stop
returns-then-sees_any-2-clause-stop g c =
    pass_stop _ c.prefix_call.ensures.stop (λ e s. A.atom_prefix_stops (sym c.sees_any-else-sees_identifier.ensures ∙ c.if-sees_any-2.true) s)

pub returns-then-sees-clause-read : goal.returns-then-sees-clause-read
returns-then-sees-clause-read g c = pass_ok _ c.group.ensures.read (λ x r. A.atom_group (sym c.sees.ensures ∙ c.if-sees.true) r)

pub returns-then-sees-clause-stop : goal.returns-then-sees-clause-stop
returns-then-sees-clause-stop g c = pass_stop _ c.group.ensures.stop (λ e s. A.atom_group_stops (sym c.sees.ensures ∙ c.if-sees.true) s)

pub returns-then-sees-2-clause-read : goal.returns-then-sees-2-clause-read
returns-then-sees-2-clause-read g c = pass_ok _ c.block.ensures.read (λ x r. A.atom_block (sym c.sees-else-sees.ensures ∙ c.if-sees-2.true) r)

pub returns-then-sees-2-clause-stop : goal.returns-then-sees-2-clause-stop
returns-then-sees-2-clause-stop g c = pass_stop _ c.block.ensures.stop (λ e s. A.atom_block_stops (sym c.sees-else-sees.ensures ∙ c.if-sees-2.true) s)

pub returns-then-sees-3-clause-read : goal.returns-then-sees-3-clause-read
returns-then-sees-3-clause-read g c = pass_ok _ c.vector.ensures.read (λ x r. A.atom_vector (sym c.sees-else-sees-2.ensures ∙ c.if-sees-3.true) r)

pub returns-then-sees-3-clause-stop : goal.returns-then-sees-3-clause-stop
returns-then-sees-3-clause-stop g c = pass_stop _ c.vector.ensures.stop (λ e s. A.atom_vector_stops (sym c.sees-else-sees-2.ensures ∙ c.if-sees-3.true) s)

pub returns-then-sees-4-clause-read : goal.returns-then-sees-4-clause-read
returns-then-sees-4-clause-read g c = pass_ok _ c.list.ensures.read (λ x r. A.atom_list (sym c.sees-else-sees-3.ensures ∙ c.if-sees-4.true) r)

pub returns-then-sees-4-clause-stop : goal.returns-then-sees-4-clause-stop
returns-then-sees-4-clause-stop g c = pass_stop _ c.list.ensures.stop (λ e s. A.atom_list_stops (sym c.sees-else-sees-3.ensures ∙ c.if-sees-4.true) s)

pub returns-then-sees-5-clause-read : goal.returns-then-sees-5-clause-read
returns-then-sees-5-clause-read g c = pass_ok _ c.structure.ensures.read (λ x r. A.atom_struct (sym c.sees-else-sees-4.ensures ∙ c.if-sees-5.true) r)

pub returns-then-sees-5-clause-stop : goal.returns-then-sees-5-clause-stop
returns-then-sees-5-clause-stop g c = pass_stop _ c.structure.ensures.stop (λ e s. A.atom_struct_stops (sym c.sees-else-sees-4.ensures ∙ c.if-sees-5.true) s)

pub returns-then-sees_any-3-clause-read : goal.returns-then-sees_any-3-clause-read
returns-then-sees_any-3-clause-read g c =
    pass_ok _ c.question.ensures.read (λ x r. A.atom_question (sym c.sees_any-else-sees-5.ensures ∙ c.if-sees_any-3.true) r)

pub returns-then-sees_any-3-clause-stop : goal.returns-then-sees_any-3-clause-stop
returns-then-sees_any-3-clause-stop g c =
    pass_stop _ c.question.ensures.stop (λ e s. A.atom_question_stops (sym c.sees_any-else-sees-5.ensures ∙ c.if-sees_any-3.true) s)

pub returns-else-sees_any-3-clause-read : goal.returns-else-sees_any-3-clause-read
returns-else-sees_any-3-clause-read g c =
    pass_ok _ c.assertion.ensures.read (λ x r. A.atom_assertion (sym c.sees_any.ensures ∙ c.if-sees_any.false)
    (sym c.sees_identifier.ensures ∙ c.if-sees_identifier.false) (sym c.sees_any-else-sees_identifier.ensures ∙ c.if-sees_any-2.false)
    (sym c.sees.ensures ∙ c.if-sees.false) (sym c.sees-else-sees.ensures ∙ c.if-sees-2.false) (sym c.sees-else-sees-2.ensures ∙ c.if-sees-3.false)
    (sym c.sees-else-sees-3.ensures ∙ c.if-sees-4.false) (sym c.sees-else-sees-4.ensures ∙ c.if-sees-5.false)
    (sym c.sees_any-else-sees-5.ensures ∙ c.if-sees_any-3.false) r)

pub returns-else-sees_any-3-clause-stop : goal.returns-else-sees_any-3-clause-stop
returns-else-sees_any-3-clause-stop g c =
    pass_stop _ c.assertion.ensures.stop (λ e s. A.atom_assertion_stops (sym c.sees_any.ensures ∙ c.if-sees_any.false)
    (sym c.sees_identifier.ensures ∙ c.if-sees_identifier.false) (sym c.sees_any-else-sees_identifier.ensures ∙ c.if-sees_any-2.false)
    (sym c.sees.ensures ∙ c.if-sees.false) (sym c.sees-else-sees.ensures ∙ c.if-sees-2.false) (sym c.sees-else-sees-2.ensures ∙ c.if-sees-3.false)
    (sym c.sees-else-sees-3.ensures ∙ c.if-sees-4.false) (sym c.sees-else-sees-4.ensures ∙ c.if-sees-5.false)
    (sym c.sees_any-else-sees-5.ensures ∙ c.if-sees_any-3.false) s)
