use Rattle.std.proofs.Common.{length, sym, ap, ◌∙◌, subst, arith, length-drop}
use Rattle.sail_lex.specs.declared.token.LexError.TheVariants as error
use Rattle.sail_lex.specs.Comment.{IsComment, NeverEnds}
use Rattle.sail_lex.specs.Front.{front}
use Rattle.sail_lex.specs.Tokens.{blank, comment, Refuses, unclosed, faulty, too_many, error_at}
use Rattle.sail_lex.proofs.lexer.next_at.Goals as goal

pub returns-in-Skip-clause-next : goal.returns-in-Skip-clause-next
returns-in-Skip-clause-next c =
    let text = c.rest_of-text.ensures in
    let reaches = c.in-Skip.ensures.reaches in
    let long = ap length text ∙ length-drop c.args.at c.args.source.now in
    (blank (sym (c.in-Skip.ensures.front ∙ ap front text)), reaches.0, omega (arith, reaches.1, long))

pub returns-in-Some-clause-next : goal.returns-in-Some-clause-next
returns-in-Some-clause-next c =
    let text = c.rest_of-text.ensures in
    let within = c.in-Some.ensures.within in
    let long = ap length text ∙ length-drop c.args.at c.args.source.now in (
      comment (sym (c.in-Comment.ensures.front ∙ ap front text)) (subst (λ t. IsComment t c.in-Some.n) text c.in-Some.ensures.ends),
      within.0,
      omega
          (arith, within.1, long),
    )

-- the place of a refusal at the place itself
pub returns-in-None-clause-refused : goal.returns-in-None-clause-refused
returns-in-None-clause-refused c =
    let text = c.rest_of-text.ensures in
    subst (λ p. Refuses c.args.place.file c.args.source.now c.args.at c.args.count (error.Unclosed p)) (sym c.requires.place)
    (unclosed c.requires.within (sym (c.in-Comment.ensures.front ∙ ap front text)) (subst NeverEnds text c.in-None.ensures.never))

pub returns-else-count-lt-MOST_TOKENS-clause-refused :
    goal.returns-else-count-lt-MOST_TOKENS-clause-refused
returns-else-count-lt-MOST_TOKENS-clause-refused c =
    let text = c.rest_of-text.ensures in
    subst (λ p. Refuses c.args.place.file c.args.source.now c.args.at c.args.count (error.TokenLimit p)) (sym c.requires.place)
    (too_many c.in-Token.kind c.in-Token.n c.requires.within (sym (c.in-Token.ensures.front ∙ ap front text)) c.if-count-lt-MOST_TOKENS.false)

pub returns-in-Refused-clause-refused : goal.returns-in-Refused-clause-refused
returns-in-Refused-clause-refused c =
    let text = c.rest_of-text.ensures in
    subst (Refuses c.args.place.file c.args.source.now c.args.at c.args.count) (sym (c.error_of.ensures ∙ ap (error_at c.in-Refused.fault) c.advance.ensures))
    (faulty c.in-Refused.fault c.in-Refused.n c.requires.within (sym (c.in-Refused.ensures.front ∙ ap front text)))
