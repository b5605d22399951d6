use Rattle.std.proofs.Common.{[], ap, ◌∙◌}
use Rattle.std.proofs.lemmas.Option.{unwrap_or-slice_get}
use Rattle.sail_base.specs.Operators.{number_of}
use Rattle.known_names.specs.Meanings.{value_of}
use Rattle.known_names.proofs.meanings.find_names.Goals as goal

pub returns : goal.returns
returns c =
    let namings = c.args.namings.now in
    let firsts = c.in_ok-firsts.ensures in
    let entered = c.in_ok-entered.ensures namings firsts in λ i. record {
      value = λ name. (c.in_ok-find_values.ensures name ∙ ap (λ enters. value_of enters namings name) (λ j other. entered other j)) i;
      is_struct = λ name. c.in_ok-find_structs.ensures name i;
      is_field = λ name. c.in_ok-find_fields.ensures name i;
      has_exception = c.has_exception.ensures i;
      overload = λ operator. (unwrap_or-slice_get c.in_ok-find_operators.field-0 (number_of operator) []
          ∙ c.in_ok-find_operators.ensures namings firsts (number_of operator)) i;
    }
