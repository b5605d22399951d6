use Rattle.std.proofs.Common.{◌≡◌, List, ◌++◌, ap, sym, ◌∙◌, Result, Ok, Err, OnOk}
use Rattle.sail_base.specs.declared.place.Place.{Place}
use Rattle.sail_syntax.specs.declared.definitions.Def.{Def}
use Rattle.sail_core.specs.declared.model.Function.{Function}
use Rattle.sail_tables.specs.Tabled.{AreTables}
use Rattle.sail_tables.specs.declared.model_tables.Tables.{Tables}
use Rattle.shape_models.specs.Sources.{tabled_by}
use Rattle.shape_clauses.specs.Functions.{called_faults, function_faults, measure_faults, functions_if, functions_of, cycle_in}
use Rattle.shape_functions.specs.Parts.{held_setting}
use Rattle.shape_functions.proofs.Noted.{noted_as}
use Rattle.shape_functions.proofs.called.push_called.Goals as goal

-- what is found by tables, by another name
as_defined : {R E : Type 0} (r : Result R E) (tables : Tables) (now : List Function) (found all : List Def → List Function)
    → ((text : List Def) → all text ≡ found text)
    → OnOk r ((text : List Def) (end : Place) → AreTables text end tables → now ≡ found text)
    → OnOk r ((text : List Def) (end : Place) → AreTables text end tables → now ≡ all text)
as_defined (Ok x) tables now found all same h = λ text end t. h text end t ∙ sym (same text)
as_defined (Err e) tables now found all same h = tt

pub returns-in-Function-clause-functions : goal.returns-in-Function-clause-functions
returns-in-Function-clause-functions c =
    let tabled = tabled_by c.args.source.now in
    let definitions = c.args.source.now.definitions.now in
    let tables = c.args.tables.now in
    let setting = held_setting c.args.source.now c.args.meanings.now in
    let form = c.in-Function in
    let name = form.name.text in
    let old = c.args.functions.now in
    as_defined c.push_named.result tables c.push_named.new.functions
    (λ text. old ++ functions_if tabled definitions setting form.place name c.as_slice.result.now (tabled.signature name) (cycle_in tables text name))
    (λ text. old ++ functions_of tabled definitions setting (cycle_in tables text) c.args.definition.now)
    (λ text. ap (λ d. old ++ functions_of tabled definitions setting (cycle_in tables text) d) form.is
    ∙ sym (λ i. old ++ functions_if tabled definitions setting form.place name (c.as_slice.ensures i) (tabled.signature name) (cycle_in tables text name)))
    c.push_named.ensures.functions

pub returns-in-Function-clause-failures : goal.returns-in-Function-clause-failures
returns-in-Function-clause-failures c =
    let tabled = tabled_by c.args.source.now in
    let setting = held_setting c.args.source.now c.args.meanings.now in
    let form = c.in-Function in
    let found = function_faults setting (tabled.signature form.name.text) c.as_slice.result.now in
    let same : called_faults tabled setting c.args.definition.now ≡ found =
    ap (called_faults tabled setting) form.is ∙ sym (ap (function_faults setting (tabled.signature form.name.text)) c.as_slice.ensures) in
    noted_as c.push_named.result c.args.first.now.error c.push_named.new.first.error found
    (called_faults tabled setting c.args.definition.now) same c.push_named.ensures.failures

pub returns-in-Measure-clause-failures : goal.returns-in-Measure-clause-failures
returns-in-Measure-clause-failures c =
    let tabled = tabled_by c.args.source.now in
    let setting = held_setting c.args.source.now c.args.meanings.now in
    let form = c.in-Measure in
    let signed = tabled.signature form.name.text in
    let found = measure_faults setting signed form.place c.as_slice-in-Measure.result.now c.get.result.now in
    let same : called_faults tabled setting c.args.definition.now ≡ found =
    ap (called_faults tabled setting) form.is
    ∙ sym (λ i. measure_faults setting signed form.place (c.as_slice-in-Measure.ensures i) (c.get.ensures i)) in
    noted_as c.note_named.result c.args.first.now.error c.note_named.new.first.error found
    (called_faults tabled setting c.args.definition.now) same c.note_named.ensures
