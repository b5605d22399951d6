use Rattle.std.proofs.Common.{◌≡◌, ℕ, ◌+◌, ◌<◌, ◌≤◌, List, [], ◌∷◌, ◌++◌, length, sym, ap, ◌∙◌, subst, arith}
use Rattle.std.proofs.lemmas.List.{length_push}
use Rattle.sail_base.specs.declared.place.Place.{Place}
use Rattle.sail_lex.specs.declared.token.Token.{Token}
use Rattle.sail_lex.specs.Next.{IsNext}
use Rattle.sail_lex.specs.Position.{place_at}
use Rattle.sail_lex.specs.Tokens.{token_at}
use Rattle.sail_lex.proofs.Going.{Continues, continues_skip, continues_token, continues_end}
use Rattle.sail_lex.proofs.lexer.lex.Goals as goal
use Rattle.sail_lex.proofs.lexer.lex.Goals.{in-Skip, in-Token+in_ok-push-in-Token}

pub loop-at-preserved : goal.loop-at-preserved
loop-at-preserved c =
    let source = c.args.source.now in
    let at = c.loop-at.at in
    let tokens = c.loop-at.tokens in
    let file : c.loop-at.place.file ≡ c.args.file = ap (λ (p : Place). p.file) c.loop-at.invariant.place in
    let placed = c.advance-place.ensures ∙ ap (λ f. place_at f source (at + c.match-branch-2.length)) file in
    elim c.match-branch-2.branch [
      | in-Skip w ↦
          let next = subst (IsNext source at (c.args.before + c.len.result)) w.in-Skip.is c.in_ok-n.ensures.next in
          let same : c.match-branch-2.tokens ≡ tokens = w.tokens-is in
          record {
            within = omega (arith, w.length-is, next.2);
            place = placed;
            count = subst (λ (ts : List Token). c.args.before + length ts ≤ 1000000) (sym same) c.loop-at.invariant.count;
            going =
                subst (λ (ts : List Token). Continues c.args.file source c.args.before (at + c.match-branch-2.length) ts) (sym same)
                (subst (λ (n : ℕ). Continues c.args.file source c.args.before (at + n) tokens) (sym w.length-is)
                (continues_skip c.args.file source c.args.before at tokens w.in-Skip.n c.loop-at-test.true next.0 c.loop-at.invariant.going));
          }
      | in-Token+in_ok-push-in-Token w ↦
          let next = subst (IsNext source at (c.args.before + c.len.result)) w.in-Token.is c.in_ok-n.ensures.next in
          let few : c.args.before + length tokens < 1000000 = omega (arith, next.1, c.len.ensures, c.loop-at.invariant.count) in
          let kept = w.in_ok-push-in-Token.ensures.pushed ∙
          ap (λ (p : Place). tokens ++ record { kind = w.in-Token.kind; place = p; start = at; end = at + w.in-Token.n } ∷ []) c.loop-at.invariant.place in
          let same : c.match-branch-2.tokens ≡ tokens ++ token_at c.args.file source at w.in-Token.kind w.in-Token.n ∷ [] = w.tokens-is ∙ kept in
          record {
            within = omega (arith, w.length-is, next.3);
            place = placed;
            count = subst (λ (ts : List Token). c.args.before + length ts ≤ 1000000) (sym same)
                (omega (arith, length_push tokens (token_at c.args.file source at w.in-Token.kind w.in-Token.n)));
            going =
                subst (λ (n : ℕ). Continues c.args.file source c.args.before (at + n) c.match-branch-2.tokens) (sym w.length-is)
                (continues_token c.args.file source c.args.before at tokens w.in-Token.kind w.in-Token.n c.match-branch-2.tokens c.loop-at-test.true
                next.0 few next.2 next.4 same c.loop-at.invariant.going);
          }
    ]

pub returns-clause-tokens : goal.returns-clause-tokens
returns-clause-tokens c = continues_end c.args.file c.args.source.now c.args.before c.loop-at.at c.loop-at.tokens c.loop-at-test.false c.loop-at.invariant.going
