-- A text that is accepted has none of all failures.
use Rattle.std.proofs.Common.{◌≡◌, ℕ, List, [], ◌∷◌, ◌++◌, refl, Bool, true, false, codes}
use Rattle.sail_base.specs.declared.place.Place.{Place}
use Rattle.sail_syntax.specs.declared.definitions.Def.{Def}
use Rattle.sail_kinds.specs.declared.error.TableError.{TableError}
use Rattle.sail_kinds.proofs.Firsts.{none_failed}
use Rattle.sail_globals.specs.Clashes.{clashes}
use Rattle.sail_globals.specs.Namings.{all_namings}
use Rattle.sail_declared.specs.Wanting.{all_wanting}
use Rattle.type_definitions.specs.Defined.{all_type_failures, types_of}
use Rattle.known_names.specs.Meanings.{known_in}
use Rattle.sail_bodies.specs.Bodies.{all_body_failures}
use Rattle.sail_cycles.specs.Cycles.{all_cycle_failures}
use Rattle.sail_tables.specs.Refused.{IsAccepted, entry_failure, failures, has_reset, has_step}
use Rattle.known_texts.specs.Accepted.{NothingFails}

-- of two lists without an element neither has one
pub apart : {A : Type 0} (xs ys : List A) → xs ++ ys ≡ [] → (xs ≡ []) × (ys ≡ [])
apart [] ys h = (refl, h)
apart (x ∷ xs) ys h = absurd (cc)

there : (is_there : Bool) (end : Place) (name : List ℕ) → entry_failure is_there end name ≡ [] → is_there ≡ true
there true end name h = refl
there false end name h = absurd (cc)

pub nothing_fails : (text : List Def) (end : Place) → IsAccepted text end → NothingFails text
nothing_fails text end accepted =
    let named : List TableError = clashes (all_namings text) in
    let wanted : List TableError = all_wanting (all_namings text) text in
    let typed : List TableError = all_type_failures text in
    let bodies : List TableError = all_body_failures text (known_in text) (types_of text) in
    let cycles : List TableError = all_cycle_failures text (known_in text) accepted.is_cyclic accepted.is_pattern_cyclic text in
    let resets : List TableError = entry_failure (has_reset text) end (codes "reset") in
    let steps : List TableError = entry_failure (has_step text) end (codes "step") in
    let none : failures text end accepted.is_cyclic accepted.is_pattern_cyclic ≡ [] =
    none_failed (failures text end accepted.is_cyclic accepted.is_pattern_cyclic) accepted.first in
    let all : ((((named ++ wanted) ++ typed) ++ bodies) ++ cycles) ++ (resets ++ steps) ≡ [] = none in
    let entries = apart ((((named ++ wanted) ++ typed) ++ bodies) ++ cycles) (resets ++ steps) all in
    let cyclic = apart (((named ++ wanted) ++ typed) ++ bodies) cycles entries.0 in
    let bodied = apart ((named ++ wanted) ++ typed) bodies cyclic.0 in
    let types = apart (named ++ wanted) typed bodied.0 in
    let names = apart named wanted types.0 in
    let starts = apart resets steps entries.1 in record {
      names = names.0;
      parts = names.1;
      types = types.1;
      bodies = bodied.1;
      reset = there (has_reset text) end (codes "reset") starts.0;
      step = there (has_step text) end (codes "step") starts.1;
    }
