use Rattle.std.proofs.Common.{◌≡◌, ◌+◌, List, ◌∷◌, ◌++◌, drop, sym, ap, ◌∙◌, append_assoc, Option}
use Rattle.std.proofs.lemmas.List.{drop_more}
use Rattle.sail_syntax.specs.declared.definitions.Member.{Member}
use Rattle.sail_types.specs.declared.table.Field.{Field}
use Rattle.sail_kinds.specs.declared.error.TableError.{TableError}
use Rattle.sail_kinds.specs.Failures.{first_failure}
use Rattle.sail_kinds.specs.Scopes.{within}
use Rattle.type_definitions.specs.Defined.{members_failures, fields_of, field_if, typ_if, member_read, list_of}
use Rattle.sail_kinds.proofs.Firsts.{first_failure_append}
use Rattle.type_definitions.proofs.members.read_members.Goals as goal

pub loop-member-preserved : goal.loop-member-preserved
loop-member-preserved c =
    let w = within c.args.scope.now in
    let members = c.args.members.now in
    let i = c.loop-member.member-index in
    let item = c.member-item.result in
    let left = drop (i + 1) members in
    let rest : drop i members ≡ item ∷ left =
    drop_more members i item c.loop-member-test.true ∙ ap (λ (x : Member). x ∷ left) (sym c.member-item.is) in
    let own = (member_read w item).failures in
    let field = list_of (field_if item (typ_if (member_read w item).normal)) in
    let kept = c.loop-member.first.error in
    let made = c.loop-member.fields in record {
      failures = ap (λ (k : Option TableError). first_failure k (members_failures w left)) c.in_ok-read_member.ensures.failures
          ∙ sym (first_failure_append kept own (members_failures w left))
          ∙ ap (λ (ms : List Member). first_failure kept (members_failures w ms)) (sym rest) ∙ c.loop-member.invariant.failures;
      fields = ap (λ (fs : List Field). fs ++ fields_of w left) c.in_ok-read_member.ensures.fields
          ∙ append_assoc made field (fields_of w left)
          ∙ ap (λ (ms : List Member). made ++ fields_of w ms) (sym rest) ∙ c.loop-member.invariant.fields;
    }
