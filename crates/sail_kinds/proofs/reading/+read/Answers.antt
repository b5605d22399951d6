use Rattle.std.proofs.Common.{◌≡◌, ◌+◌, true, false, ◌&&◌, if◌then◌else◌, List, ◌∷◌, ◌++◌, length, drop, map, sym, ap, ◌∙◌, subst, rules, OnOk, IfOk, Option, is_some, option_map, ◌<◌, get_or, nat_eq, eq-eqb, arith, refl, Some}
use Rattle.std.specs.List.{zip}
use Rattle.std.proofs.lemmas.Grind.{common_steps}
use Rattle.std.specs.Option.{option_to_list}
use Rattle.std.proofs.lemmas.List.{drop_more, length-map}
use Rattle.sail_types.specs.Readings.{more, together}
use Rattle.sail_types.specs.declared.types.Typ.{Typ}
use Rattle.sail_types.specs.declared.types.Typ.TheVariants as T
use Rattle.type_arguments.specs.declared.normal.Normal.TheVariants as N
use Rattle.sail_kinds.specs.declared.error.TableError.{TableError}
use Rattle.sail_kinds.proofs.Firsts.{first_failure_append}
use Rattle.sail_kinds.proofs.Parts.{kept_behind, kept_more, split_behind, split_more}
use Rattle.sail_base.specs.declared.kind.Kind.{Kind}
use Rattle.sail_base.specs.declared.kind.Kind.TheVariants as K
use Rattle.sail_syntax.specs.declared.types.TyExp.{TyExp}
use Rattle.sail_syntax.specs.declared.types.TyExp.TheFolds.{the_lemmas}
use Rattle.sail_types.specs.Sums.{and_then}
use Rattle.sail_types.specs.declared.numbers.Con.{Con}
use Rattle.sail_types.specs.declared.numbers.Con.TheVariants as C
use Rattle.sail_types.specs.declared.numbers.Index.{Index}
use Rattle.type_arguments.specs.Taken.{typ_of}
use Rattle.sail_kinds.specs.declared.error.TableError.TheVariants as error
use Rattle.sail_kinds.specs.declared.error.Mismatch.TheVariants as Found
use Rattle.sail_kinds.specs.Repeated.{clashes}
use Rattle.sail_kinds.proofs.BinderNames.{inside}
use Rattle.type_arguments.specs.declared.normal.Normal.{Normal}
use Rattle.sail_kinds.specs.Failures.{first_failure}
use Rattle.sail_kinds.specs.Scopes.{within}
use Rattle.sail_kinds.specs.Normal.{Part, Reading, part, both, behind, bare, bound, stands_for, fails, then_read, meant, arguments_read, argument_scope, applied_type, part_of_kind, index_of, name_read, number_part, constraint_part, typ_part, failures_of_all, computed, connected, is_connective}
use Rattle.sail_kinds.proofs.Opened.{of_named, of_infix, of_tuple, on_ok, both_noted, both_calm, behind_calm, then_noted}
use Rattle.sail_kinds.proofs.reading.+read.Goals as goal

pub read-returns-in-Named-clause-failures : goal.read-returns-in-Named-clause-failures
read-returns-in-Named-clause-failures t c =
    let w = within c.args.scope.now in
    let name = c.in-Named.name in
    let opened : (part c.args.typ.now).read w ≡ name_read name (map part c.as_slice.result.now) (bare name.text (map part c.as_slice.result.now)) w =
    ap (λ (p : Part). p.read w) (ap part c.in-Named.is ∙ of_named name c.in-Named.arguments)
    ∙ ap (λ args. name_read name (map part args) (bare name.text (map part args)) w) (sym c.as_slice.ensures) in
    subst (λ (r : Reading Normal). OnOk c.read_name.result (c.read_name.new.first.error ≡ first_failure c.args.first.now.error r.failures))
    (sym opened) c.read_name.ensures.failures

pub read-returns-in-Named-clause-normal : goal.read-returns-in-Named-clause-normal
read-returns-in-Named-clause-normal t c =
    let w = within c.args.scope.now in
    let name = c.in-Named.name in
    let opened : (part c.args.typ.now).read w ≡ name_read name (map part c.as_slice.result.now) (bare name.text (map part c.as_slice.result.now)) w =
    ap (λ (p : Part). p.read w) (ap part c.in-Named.is ∙ of_named name c.in-Named.arguments)
    ∙ ap (λ args. name_read name (map part args) (bare name.text (map part args)) w) (sym c.as_slice.ensures) in
    subst (λ (r : Reading Normal). IfOk c.read_name.result (λ normal. normal ≡ r.normal)) (sym opened) c.read_name.ensures.normal

pub read-returns-in_ok-right-in-Infix-clause-failures : goal.read-returns-in_ok-right-in-Infix-clause-failures
read-returns-in_ok-right-in-Infix-clause-failures t c =
    let w = within c.args.scope.now in
    let form = c.in-Infix in
    let left = c.get-then-is_connective.result.now in
    let right = c.get-then-is_connective-2.result.now in
    let r = constraint_part w (part left) in
    let s = constraint_part w (part right) in
    let joins : is_connective form.operator ≡ true = search rules in
    let opened : (part c.args.typ.now).read w ≡ both r s (connected form.operator) =
    ap (λ (p : Part). p.read w) (ap part form.is ∙ of_infix form.place form.operator form.left form.right)
    ∙ ap (λ b. if b then both (constraint_part w (part form.left)) (constraint_part w (part form.right)) (connected form.operator)
    else both (number_part w (part form.left)) (number_part w (part form.right)) (computed form.operator form.place)) joins
    ∙ (λ i. both (constraint_part w (part (sym c.get-then-is_connective.ensures i))) (constraint_part w (part (sym c.get-then-is_connective-2.ensures i)))
    (connected form.operator)) in
    let before = c.args.first.now.error in
    let last = c.read_constraint-then-is_connective.new.first.error in
    let one = c.in_ok-left-in-Infix in
    let two = c.in_ok-right-in-Infix in
    subst (λ (q : Reading Normal). OnOk c.both_connected.result (last ≡ first_failure before q.failures)) (sym opened)
    (on_ok c.both_connected.result
    (both_calm r s (connected form.operator) before c.read_constraint.new.first.error last one.left two.right
    one.ensures.failures two.ensures.failures one.ensures.normal two.ensures.normal)
    c.both_connected.ensures.calm)

pub read-returns-in_ok-right-in-Infix-2-clause-failures : goal.read-returns-in_ok-right-in-Infix-2-clause-failures
read-returns-in_ok-right-in-Infix-2-clause-failures t c =
    let w = within c.args.scope.now in
    let form = c.in-Infix in
    let left = c.get-else-is_connective.result.now in
    let right = c.get-else-is_connective-2.result.now in
    let r = number_part w (part left) in
    let s = number_part w (part right) in
    let joins : is_connective form.operator ≡ false = search rules in
    let opened : (part c.args.typ.now).read w ≡ both r s (computed form.operator form.place) =
    ap (λ (p : Part). p.read w) (ap part form.is ∙ of_infix form.place form.operator form.left form.right)
    ∙ ap (λ b. if b then both (constraint_part w (part form.left)) (constraint_part w (part form.right)) (connected form.operator)
    else both (number_part w (part form.left)) (number_part w (part form.right)) (computed form.operator form.place)) joins
    ∙ (λ i. both (number_part w (part (sym c.get-else-is_connective.ensures i))) (number_part w (part (sym c.get-else-is_connective-2.ensures i)))
    (computed form.operator form.place)) in
    let before = c.args.first.now.error in
    let last = c.both_computed.new.first.error in
    let one = c.in_ok-left-in-Infix-2 in
    let two = c.in_ok-right-in-Infix-2 in
    subst (λ (q : Reading Normal). OnOk c.both_computed.result (last ≡ first_failure before q.failures)) (sym opened)
    (on_ok c.both_computed.result
    (both_noted r s (computed form.operator form.place) before c.read_number.new.first.error c.read_number-else-is_connective.new.first.error last
    one.left two.right one.ensures.failures two.ensures.failures one.ensures.normal two.ensures.normal)
    c.both_computed.ensures.failures)

pub read-returns-in_ok-types-in-Tuple-clause-normal : goal.read-returns-in_ok-types-in-Tuple-clause-normal
read-returns-in_ok-types-in-Tuple-clause-normal t c =
    let w = within c.args.scope.now in
    let f : List Typ → Normal = λ ts. N.Typ (T.Tuple ts) in
    c.tuple.ensures
    ∙ ap (option_map f) (c.in_ok-types-in-Tuple.ensures.types
    ∙ ap (λ (ps : List TyExp). together (map (λ (r : Reading Typ). r.normal) (map (typ_part w) (map part ps)))) c.as_slice-in-Tuple.ensures)
    ∙ sym (ap (λ (p : Part). (p.read w).normal) (ap part c.in-Tuple.is ∙ of_tuple c.in-Tuple.field-0 c.in-Tuple.parts))

pub read-returns-in_ok-typ-in-Exists-default-default-Some-default-clause-failures : goal.read-returns-in_ok-typ-in-Exists-default-default-Some-default-clause-failures
read-returns-in_ok-typ-in-Exists-default-default-Some-default-clause-failures t c =
    let w = within c.args.scope.now in
    let v = within c.with_variables-inside.result in
    let names = c.as_slice-in-Exists-default-default-Some-default.result.now in
    let names' = c.as_slice-in-Exists-default-default-Some-default-3.result.now in
    let r : Reading Con = constraint_part v (part c.get-in-Exists-default-default-Some-default.result.now) in
    let s = typ_part v (part c.get-in-Exists-default-default-Some-default-2.result.now) in
    let opened : (part c.args.typ.now).read w ≡ behind (clashes names) (both r s (bound names')) =
    first_of (search (rules, the_lemmas, inside), grind (arith, common_steps, the_lemmas, inside)) in
    let before = c.args.first.now.error in
    let last = c.read_typ.new.first.error in
    subst (λ (q : Reading Normal). OnOk c.bound.result (last ≡ first_failure before q.failures)) (sym opened)
    (on_ok c.bound.result
    (behind_calm (clashes names) r s (bound names') before c.note_repeated.new.first.error c.read_constraint-in-Exists-default-default-Some-default.new.first.error last c.in_ok-constraint-in-Exists-default-default-Some-default.constraint c.in_ok-typ-in-Exists-default-default-Some-default.typ
    c.in_ok-is_clear-in-Exists-default-default-Some-default.ensures.failures c.in_ok-constraint-in-Exists-default-default-Some-default.ensures.failures c.in_ok-typ-in-Exists-default-default-Some-default.ensures.failures c.in_ok-constraint-in-Exists-default-default-Some-default.ensures.normal c.in_ok-typ-in-Exists-default-default-Some-default.ensures.normal)
    c.bound.ensures.calm)

pub read-returns-in_ok-typ-in-Exists-default-default-None-default-clause-failures : goal.read-returns-in_ok-typ-in-Exists-default-default-None-default-clause-failures
read-returns-in_ok-typ-in-Exists-default-default-None-default-clause-failures t c =
    let w = within c.args.scope.now in
    let v = within c.with_variables-inside-in-Exists-default-default-None-default.result in
    let names = c.as_slice-in-Exists-default-default-None-default.result.now in
    let names' = c.as_slice-in-Exists-default-default-None-default-3.result.now in
    let r : Reading Con = stands_for (C.Truth true) in
    let s = typ_part v (part c.get-in-Exists-default-default-None-default.result.now) in
    let opened : (part c.args.typ.now).read w ≡ behind (clashes names) (both r s (bound names')) =
    first_of (search (rules, the_lemmas, inside), grind (arith, common_steps, the_lemmas, inside)) in
    let before = c.args.first.now.error in
    let last = c.read_typ-in-Exists-default-default-None-default.new.first.error in
    subst (λ (q : Reading Normal). OnOk c.bound-in-Exists-default-default-None-default.result (last ≡ first_failure before q.failures)) (sym opened)
    (on_ok c.bound-in-Exists-default-default-None-default.result
    (behind_calm (clashes names) r s (bound names') before c.note_repeated-in-Exists-default-default-None-default.new.first.error c.note_repeated-in-Exists-default-default-None-default.new.first.error last (Some (C.Truth true)) c.in_ok-typ-in-Exists-default-default-None-default.typ
    c.in_ok-is_clear-in-Exists-default-default-None-default.ensures.failures refl c.in_ok-typ-in-Exists-default-default-None-default.ensures.failures refl c.in_ok-typ-in-Exists-default-default-None-default.ensures.normal)
    c.bound-in-Exists-default-default-None-default.ensures.calm)

pub read_types-loop-part-preserved : goal.read_types-loop-part-preserved
read_types-loop-part-preserved t c =
    let w = within c.args.scope.now in
    let parts = c.args.parts.now in
    let i = c.loop-part.part-index in
    let item = c.part-item.result in
    let r = typ_part w (part item) in
    let typ = c.in_ok-typ.typ in
    let made = c.loop-part.types in
    let whole = c.loop-part.is_whole in
    let rest : drop i parts ≡ item ∷ drop (i + 1) parts =
    drop_more parts i item c.loop-part-test.true ∙ ap (λ (x : TyExp). x ∷ drop (i + 1) parts) (sym c.part-item.is) in
    let all : List TyExp → List TableError = λ ps. failures_of_all (map (typ_part w) (map part ps)) in
    let given : List TyExp → Option (List Typ) = λ ps. together (map (λ (q : Reading Typ). q.normal) (map (typ_part w) (map part ps))) in
    let noted : c.read_typ.new.first.error ≡ first_failure c.loop-part.first.error r.failures = c.in_ok-typ.ensures.failures in
    let is : typ ≡ r.normal = c.in_ok-typ.ensures.normal in
    let pushed : c.push_some.new.types ≡ made ++ option_to_list typ = c.in_ok-push_some.ensures.types in
    let some : c.both-is_whole.result ≡ (is_some typ && whole) = c.both-is_whole.ensures ∙ ap (λ b. b && whole) c.in_ok-push_some.ensures.some in record {
      failures = ap (λ k. first_failure k (all (drop (i + 1) parts))) noted
          ∙ sym (first_failure_append c.loop-part.first.error r.failures (all (drop (i + 1) parts)))
          ∙ ap (λ (ps : List TyExp). first_failure c.loop-part.first.error (all ps)) (sym rest) ∙ c.loop-part.invariant.failures;
      types = (λ j. kept_behind (some j) (pushed j) (given (drop (i + 1) parts)))
          ∙ kept_more whole made typ (given (drop (i + 1) parts))
          ∙ ap (λ (x : Option Typ). kept_behind whole made (more x (given (drop (i + 1) parts)))) is
          ∙ ap (λ (ps : List TyExp). kept_behind whole made (given ps)) (sym rest) ∙ c.loop-part.invariant.types;
    }

pub read_arguments-loop-index-preserved : goal.read_arguments-loop-index-preserved
read_arguments-loop-index-preserved t c =
    let w = within c.args.scope.now in
    let args = c.args.arguments.now in
    let kinds = c.args.kinds.now in
    let i = c.loop-index.index in
    let item = c.index-arguments-index.result in
    let kind = get_or kinds i K.Int in
    let r = part_of_kind w kind (part item) in
    let given = c.in_ok-argument.argument in
    let indices = c.loop-index.indices in
    let types = c.loop-index.types in
    let whole = c.loop-index.is_whole in
    let same : length args ≡ length kinds = c.requires in
    let less : i < length args = c.loop-index-test.true in
    let rest : drop i args ≡ item ∷ drop (i + 1) args =
    drop_more args i item less ∙ ap (λ (x : TyExp). x ∷ drop (i + 1) args) (sym c.index-arguments-index.is) in
    let rest_kinds : drop i kinds ≡ kind ∷ drop (i + 1) kinds = drop_more kinds i K.Int (omega arith) in
    let readings : List Kind → List TyExp → List (Reading Normal) = λ ks xs. map (λ pair. part_of_kind w pair.0 pair.1) (zip ks (map part xs)) in
    let all : List Kind → List TyExp → List TableError = λ ks xs. failures_of_all (readings ks xs) in
    let normals : List Kind → List TyExp → Option (List Normal) = λ ks xs. together (map (λ (q : Reading Normal). q.normal) (readings ks xs)) in
    let kept = c.loop-index.first.error in
    let noted : c.read_as.new.first.error ≡ first_failure kept r.failures = c.in_ok-argument.ensures.failures in
    let is : given ≡ r.normal = c.in_ok-argument.ensures.normal in
    let pushed : c.push_argument.new.indices ≡ indices ++ option_to_list (and_then given index_of) = c.in_ok-push_argument.ensures.indices in
    let pushed_types : c.push_argument.new.types ≡ types ++ option_to_list (and_then given typ_of) = c.in_ok-push_argument.ensures.types in
    let some : c.both-is_whole.result ≡ (is_some given && whole) = c.both-is_whole.ensures ∙ ap (λ b. b && whole) c.in_ok-push_argument.ensures.some in record {
      failures = ap (λ k. first_failure k (all (drop (i + 1) kinds) (drop (i + 1) args))) noted
          ∙ sym (first_failure_append kept r.failures (all (drop (i + 1) kinds) (drop (i + 1) args)))
          ∙ (λ j. first_failure kept (all (sym rest_kinds j) (sym rest j))) ∙ c.loop-index.invariant.failures;
      arguments = (λ j. split_behind (some j) (pushed j) (pushed_types j) (normals (drop (i + 1) kinds) (drop (i + 1) args)))
          ∙ split_more whole indices types given (normals (drop (i + 1) kinds) (drop (i + 1) args))
          ∙ ap (λ (x : Option Normal). split_behind whole indices types (more x (normals (drop (i + 1) kinds) (drop (i + 1) args)))) is
          ∙ (λ j. split_behind whole indices types (normals (sym rest_kinds j) (sym rest j))) ∙ c.loop-index.invariant.arguments;
    }

pub read_applied-returns-in-Some-clause-failures : goal.read_applied-returns-in-Some-clause-failures
read_applied-returns-in-Some-clause-failures t c =
    let w = within c.args.scope.now in
    let v = within c.argument_scope-inside.result in
    let name = c.args.name.now in
    let parts = map part c.args.arguments.now in
    let typ = c.args.typ.now in
    let f : List Index × List Typ → Reading Normal = λ a. meant name.place typ.meaning a.0 a.1 in
    let r = arguments_read v c.as_slice.result.now parts in
    let test : nat_eq (length parts) (length typ.parameters) ≡ true =
    eq-eqb (length parts) (length typ.parameters) (length-map c.args.arguments.now part ∙ c.if-arguments-len.false ∙ c.len.ensures) in
    let opened : applied_type name parts typ w ≡ then_read r f =
    ap (λ b. if b then then_read (arguments_read (argument_scope name w) typ.parameters parts) f
    else fails (error.IllKinded name.place (Some (Found.Counts (length typ.parameters) (length parts))))) test
    ∙ (λ i. then_read (arguments_read (sym c.argument_scope-inside.ensures i) (sym c.as_slice.ensures i) parts) f) in
    subst (λ (q : Reading Normal). OnOk c.meant.result (c.meant.new.first.error ≡ first_failure c.args.first.now.error q.failures)) (sym opened)
    (on_ok c.meant.result
    (then_noted r f c.args.first.now.error c.read_arguments.new.first.error c.meant.new.first.error (Some (c.in-Some.indices, c.in-Some.types))
    c.in_ok-indices.ensures.failures (sym c.in-Some.is ∙ c.in_ok-indices.ensures.arguments))
    c.meant.ensures.failures)
