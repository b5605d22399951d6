use Rattle.mappings.specs.Rewriting.{without_mappings}
use Rattle.match_rewrite.specs.Rewriting.{with_flat_arms}
use Rattle.jib_lower.proofs.Valid.{is_valid}
use Rattle.jib_lower.proofs.laws.modules_are_valid.Goals as goal

pub returns : goal.returns
returns c = record {
  valid = λ written sized m low.
      is_valid (with_flat_arms (without_mappings written)) sized m low.flat
      (record {
        called = c.functions_are_right.ensures.called;
        events = c.functions_are_right.ensures.events;
        codes = c.codes_are_right.ensures;
        own = c.functions_own_labels.ensures.own;
        slots = c.slots_typed.ensures;
      })
      (record {
        values = c.functions_are_right.ensures.values;
        names = c.functions_are_right.ensures.names;
        codes = c.codes_are_right.ensures;
        slots = c.slots_typed.ensures;
        own = c.openings_own_labels.ensures.own;
      })
      (record {
        directions = c.functions_are_right.ensures.directions;
        codes = c.codes_are_right.ensures;
        slots = c.slots_typed.ensures;
        own = c.openings_own_labels.ensures.own;
      });
}
