use Rattle.std.proofs.Common.{◌≡◌, List, subst, ap, ◌∙◌}
use Rattle.sail_syntax.specs.declared.definitions.Def.{Def}
use Rattle.sail_types.specs.declared.table.Definition.{Definition}
use Rattle.type_definitions.specs.Defined.{Types, held}
use Rattle.sail_signatures.specs.Signatures.{signature_of}
use Rattle.shape_rules.specs.Findings.{first_failure}
use Rattle.shape_models.specs.Models.{Tabled}
use Rattle.shape_clauses.specs.Functions.{cycle_in}
use Rattle.shapes.specs.Failures.{all_faults}
use Rattle.shapes.specs.Resolved.{resolved}
use Rattle.shapes.specs.Tabled.{tabled_of}
use Rattle.shapes.proofs.resolving.read_tabled.Goals as goal

abbrev tabled_with : List Def → Types → Tabled
tabled_with text types =
    record { named = types.named; types = record { definitions = types.table }; signature = signature_of types.named text }

pub returns-clause-core : goal.returns-clause-core
returns-clause-core c = λ text end are.
    let all = c.args.tables.now.definitions.now in
    let defined = c.in_ok-defined.defined in
    let same : tabled_with all (record { named = (held defined).named; table = c.replace.result }) ≡ tabled_of all =
    ap (λ (rows : List Definition). tabled_with all (record { named = (held defined).named; table = rows })) c.replace.ensures.value
    ∙ ap (tabled_with all) c.in_ok-defined.ensures.types in
    subst (λ (ds : List Def). c.in_ok-core.core ≡ resolved (tabled_of ds) (cycle_in c.args.tables.now text) ds) are.definitions
    (c.in_ok-core.ensures.core text end are ∙ ap (λ (t : Tabled). resolved t (cycle_in c.args.tables.now text) all) same)

pub returns-clause-failures : goal.returns-clause-failures
returns-clause-failures c = λ text end are.
    let all = c.args.tables.now.definitions.now in
    let defined = c.in_ok-defined.defined in
    let kept = c.args.first.now.error in
    let same : tabled_with all (record { named = (held defined).named; table = c.replace.result }) ≡ tabled_of all =
    ap (λ (rows : List Definition). tabled_with all (record { named = (held defined).named; table = rows })) c.replace.ensures.value
    ∙ ap (tabled_with all) c.in_ok-defined.ensures.types in
    subst (λ (ds : List Def). c.read_defined.new.first.error ≡ first_failure kept (all_faults (tabled_of ds) ds)) are.definitions
    (c.in_ok-core.ensures.failures ∙ ap (λ (t : Tabled). first_failure kept (all_faults t all)) same)
