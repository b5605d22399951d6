-- Operands that stand beside one another.
use Rattle.std.proofs.Common.{◌≡◌, ℕ, List, [], ◌∷◌, subst}
use Rattle.sail_types.specs.declared.values.Value.{Value}
use Rattle.model_state.specs.RunState.{RunState}
use Rattle.sail_types.specs.declared.rows.Row.{Row}
use Rattle.jib.specs.Jib as J
use Rattle.jib_values.specs.declared.results.Made.{Made}
use Rattle.jib_values.specs.Results.{MadeIs}

module _ (row : Row) (hart : ℕ) (s s' : RunState) (made : Made) where
  -- what a builtin of values came to, it came to on the same values
  pub made_on : (vs ws : List Value) → vs ≡ ws → MadeIs (J.builtin row vs hart s) made s s' → MadeIs (J.builtin row ws hart s) made s s'
  made_on vs ws e h = subst (λ q. MadeIs (J.builtin row q hart s) made s s') e h

  pub made_one : (a a' : Value) → a ≡ a' → MadeIs (J.builtin row (a ∷ []) hart s) made s s' → MadeIs (J.builtin row (a' ∷ []) hart s) made s s'
  made_one a a' e h = made_on (a ∷ []) (a' ∷ []) (λ j. e j ∷ []) h

  pub made_two : (a a' b b' : Value) → a ≡ a' → b ≡ b' → MadeIs (J.builtin row (a ∷ b ∷ []) hart s) made s s'
      → MadeIs (J.builtin row (a' ∷ b' ∷ []) hart s) made s s'
  made_two a a' b b' e f h = made_on (a ∷ b ∷ []) (a' ∷ b' ∷ []) (λ j. e j ∷ f j ∷ []) h

  pub made_three : (a a' b b' c c' : Value) → a ≡ a' → b ≡ b' → c ≡ c' → MadeIs (J.builtin row (a ∷ b ∷ c ∷ []) hart s) made s s'
      → MadeIs (J.builtin row (a' ∷ b' ∷ c' ∷ []) hart s) made s s'
  made_three a a' b b' c c' e f g h = made_on (a ∷ b ∷ c ∷ []) (a' ∷ b' ∷ c' ∷ []) (λ j. e j ∷ f j ∷ g j ∷ []) h
