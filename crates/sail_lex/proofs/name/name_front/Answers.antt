use Rattle.std.proofs.Common.{take, sym, ap, subst, arith}
use Rattle.std.specs.Prelude.{◌||◌}
use Rattle.std.specs.Char.{is_ascii_digit}
use Rattle.sail_lex.specs.declared.kind.TokenKind.{TokenKind}
use Rattle.sail_lex.specs.Bytes.{in_name, first}
use Rattle.sail_lex.specs.Valued.{IsValued}
use Rattle.sail_lex.proofs.Plain.{plain_name}
use Rattle.sail_lex.proofs.Prefixes.{run_some}
use Rattle.sail_lex.proofs.name.name_front.Goals as goal

-- the first byte is one of the name's, and a name has no value
pub returns-clause-reaches : goal.returns-clause-reaches
returns-clause-reaches c =
    let text = c.args.text.now in
    let n = c.run_length-length.result in
    let some = run_some in_name text c.requires.some (ap (λ b. b || is_ascii_digit (first text)) c.requires.name) in (
      omega (arith, some, c.run_length-length.ensures.run),
      c.run_length-length.ensures.within,
      subst (λ (k : TokenKind). IsValued k (take n text)) (sym c.name_kind.ensures) (plain_name c.leading.result.now (take n text)),
    )
