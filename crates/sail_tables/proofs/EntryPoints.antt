-- The failures of the entry points, as they are noted.
use Rattle.std.proofs.Common.{◌≡◌, Bool, List, sym, ap, ◌∙◌, codes, Option}
use Rattle.sail_base.specs.declared.place.Place.{Place}
use Rattle.sail_syntax.specs.declared.definitions.Def.{Def}
use Rattle.sail_kinds.specs.declared.error.TableError.{TableError}
use Rattle.sail_kinds.specs.Failures.{first_failure}
use Rattle.sail_kinds.proofs.Firsts.{first_failure_append}
use Rattle.sail_tables.specs.Refused.{entry_failure, entry_failures, has_reset, has_step}

-- `reset` was noted, and then `step`
pub entries_noted : (text : List Def) (end : Place) (before middle after : Option TableError) (resets steps : Bool)
    → resets ≡ has_reset text → steps ≡ has_step text
    → middle ≡ first_failure before (entry_failure resets end (codes "reset"))
    → after ≡ first_failure middle (entry_failure steps end (codes "step"))
    → after ≡ first_failure before (entry_failures text end)
entries_noted text end before middle after resets steps resets_so steps_so first second =
    second ∙ (λ i. first_failure (first i) (entry_failure (steps_so i) end (codes "step")))
    ∙ ap (λ (there : Bool). first_failure (first_failure before (entry_failure there end (codes "reset"))) (entry_failure (has_step text) end (codes "step")))
    resets_so
    ∙ sym (first_failure_append before (entry_failure (has_reset text) end (codes "reset")) (entry_failure (has_step text) end (codes "step")))
