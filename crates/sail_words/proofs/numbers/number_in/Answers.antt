use Rattle.std.proofs.Common.{◌≡◌, true, sym, ◌∙◌, rules, arith}
use Rattle.sail_words.specs.Numbers.{is_numeral}
use Rattle.sail_words.proofs.Parsed.{unread-number_in}
use Rattle.sail_words.proofs.numbers.number_in.Goals as goal

pub returns-in_err-number-clause-value : goal.returns-in_err-number-clause-value
returns-in_err-number-clause-value c =
    let numeral : is_numeral c.args.word.now ≡ true = search rules in
    let none = sym c.ok.ensures.value ∙ c.in_err-number.was in
    c.from_residual.ensures
    ∙ sym (unread-number_in c.args.word.now c.parse.result c.args.least c.args.most c.parse.ensures.value.0 numeral none (omega arith))
