use Rattle.std.proofs.Common.{◌≡◌, ℕ, List, map, sym, ap, ◌∙◌}
use Rattle.std.specs.HashMap.{get_by_text}
use Rattle.shape_models.specs.Models.{Own, meant_in, entries, candidates, added_to_operator, operators}
use Rattle.shape_models.specs.Sources.{tabled_by}
use Rattle.shape_models.specs.Held.{held}
use Rattle.shape_models.proofs.Named.{values_found, failures_noted}
use Rattle.shape_models.proofs.meanings.find_meanings.Goals as goal

pub returns-clause-failures : goal.returns-clause-failures
returns-clause-failures c =
    let text = c.args.source.now.definitions.now in
    let types = c.args.source.now.types.now in
    let first = held c.in_ok-values.values in
    failures_noted types (meant_in (entries (tabled_by c.args.source.now) text)) first text c.args.first.now.error c.note_named.new.first.error
    c.note_operators.new.first.error c.as_slice.result.now
    (λ name. c.in_ok-values.ensures name ∙ ap (λ es. meant_in es name) c.in_ok-entries.ensures)
    (c.as_slice.ensures ∙ c.in_ok-named.ensures) c.in_ok-note_named.ensures c.in_ok-note_operators.ensures

pub returns-clause-meanings : goal.returns-clause-meanings
returns-clause-meanings c =
    let text = c.args.source.now.definitions.now in
    let types = c.args.source.now.types.now in
    let own = meant_in (entries (tabled_by c.args.source.now) text) in
    let first = held c.in_ok-values.values in
    let same : (name : List ℕ) → first name ≡ own name =
    λ name. c.in_ok-values.ensures name ∙ ap (λ es. meant_in es name) c.in_ok-entries.ensures in record {
      values = values_found types own text first (held c.put_rows.new.values) (held c.put_named.new.values) c.in_ok-named.named same
          c.in_ok-named.ensures c.in_ok-put_rows.ensures c.in_ok-put_named.ensures;
      added = c.in_ok-added.ensures
          ∙ ap (λ (o : Own). map (λ operator. candidates (added_to_operator types o text operator)) operators) (λ i name. same name i);
      exception = c.find_exception-exception.ensures;
      given = c.in_ok-given.ensures;
    }
