use Rattle.std.proofs.Common.{◌≡◌, ℕ, List, Option, ◌++◌, ap, sym, ◌∙◌, Result, Ok, Err, OnOk}
use Rattle.sail_base.specs.declared.place.Place.{Place}
use Rattle.sail_syntax.specs.declared.definitions.Def.{Def}
use Rattle.sail_core.specs.declared.model.Function.{Function}
use Rattle.sail_signatures.specs.declared.signature.Signature.{Signature}
use Rattle.sail_tables.specs.Tabled.{AreTables}
use Rattle.sail_tables.specs.declared.model_tables.Tables.{Tables}
use Rattle.shape_models.specs.Sources.{tabled_by}
use Rattle.shape_clauses.specs.Functions.{functions_if, function_faults, cycle_in}
use Rattle.shape_functions.specs.Parts.{held_setting}
use Rattle.shape_functions.proofs.Noted.{noted_as}
use Rattle.shape_functions.proofs.called.push_named.Goals as goal

-- with the signature and the cycle that are found
as_found : {R E : Type 0} (r : Result R E) (tables : Tables) (name : List ℕ) (make : Option Signature → Option ℕ → List Function)
    (now : List Function) (signature signed : Option Signature) (cycle : Option ℕ) → signature ≡ signed
    → ((text : List Def) (end : Place) → AreTables text end tables → cycle ≡ cycle_in tables text name)
    → OnOk r (now ≡ make signature cycle)
    → OnOk r ((text : List Def) (end : Place) → AreTables text end tables → now ≡ make signed (cycle_in tables text name))
as_found (Ok x) tables name make now signature signed cycle same found h = λ text end t. h ∙ (λ i. make (same i) (found text end t i))
as_found (Err e) tables name make now signature signed cycle same found h = tt

pub returns-clause-functions : goal.returns-clause-functions
returns-clause-functions c =
    let tabled = tabled_by c.args.source.now in
    let name = c.args.name.now in
    let signed : c.in_ok-signature.signature ≡ tabled.signature name = c.in_ok-signature.ensures ∙ ap tabled.signature c.as_str-text.ensures in
    as_found c.push_function.result c.args.tables.now name
    (λ signature cycle. c.args.functions.now ++ functions_if tabled c.args.source.now.definitions.now
    (held_setting c.args.source.now c.args.meanings.now) c.args.place name c.args.clauses.now signature cycle)
    c.push_function.new.functions c.in_ok-signature.signature (tabled.signature name) c.in_ok-cycle.cycle signed
    (λ text end t. c.in_ok-cycle.ensures text end t ∙ ap (cycle_in c.args.tables.now text) c.as_str-text.ensures)
    c.push_function.ensures.functions

pub returns-clause-failures : goal.returns-clause-failures
returns-clause-failures c =
    let tabled = tabled_by c.args.source.now in
    let name = c.args.name.now in
    let setting = held_setting c.args.source.now c.args.meanings.now in
    let signed : c.in_ok-signature.signature ≡ tabled.signature name = c.in_ok-signature.ensures ∙ ap tabled.signature c.as_str-text.ensures in
    noted_as c.push_function.result c.args.first.now.error c.push_function.new.first.error
    (function_faults setting c.in_ok-signature.signature c.args.clauses.now) (function_faults setting (tabled.signature name) c.args.clauses.now)
    (ap (λ (s : Option Signature). function_faults setting s c.args.clauses.now) (sym signed)) c.push_function.ensures.failures
