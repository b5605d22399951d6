use Rattle.std.proofs.Common.{◌≡◌, ◌++◌, List, ℕ, [], sym, ap, ◌∙◌, append-nil}
use Rattle.sail_lex.proofs.Parts.{value_stop, value_none}
use Rattle.sail_lex.proofs.value.unescaped.Goals as goal
use Rattle.sail_lex.proofs.value.unescaped.Goals.{then-loop-at-test+else-not-ends_string, else-loop-at-test}

ended : (bytes rest all : List ℕ) → rest ≡ [] → bytes ++ rest ≡ all → bytes ≡ all
ended bytes rest all e h = sym (append-nil bytes) ∙ (ap (λ t. bytes ++ t) (sym e) ∙ h)

-- no part is left
pub returns : goal.returns
returns c =
    elim c.loop-at-test.branch [
      | then-loop-at-test+else-not-ends_string w ↦
          ended _ _ _ (value_stop c.args.text.now c.loop-at.at w.loop-at-test.true (sym w.ends_string.ensures ∙ w.if-not-ends_string.false))
          c.loop-at.invariant.same
      | else-loop-at-test w ↦ ended _ _ _ (value_none c.args.text.now c.loop-at.at w.loop-at-test.false) c.loop-at.invariant.same
    ]
