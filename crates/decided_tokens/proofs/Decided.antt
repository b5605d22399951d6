-- Each list of tokens is a model or is refused.
use Rattle.std.proofs.Common.{◌≡◌, ℕ, suc, ◌<◌, ◌≤◌, ◌-◌, Bool, true, false, ◌⊎◌, inl, inr, List, [], ◌∷◌, ◌++◌, length, take, drop, get_or}
use Rattle.std.proofs.Common.{refl, sym, ◌∙◌, subst, arith, append-nil}
use Rattle.std.specs.Prelude.{Option, Some, None, if◌then◌else◌, slice_get, option_map, nat_lt}
use Rattle.std.proofs.lemmas.Bool.{true≢false, cases_Bool}
use Rattle.std.proofs.lemmas.List.{take-append-drop, length-take-le}
use Rattle.std.proofs.lemmas.Option.{slice_get-get_or}
use Rattle.sail_base.specs.declared.place.Place.{Place}
use Rattle.sail_syntax.specs.declared.definitions.Def.{Def}
use Rattle.sail_grammar.specs.declared.error.ParseError.{ParseError}
use Rattle.sail_grammar.specs.declared.error.ParseError.TheVariants as error
use Rattle.sail_grammar.specs.Symbol.{Sign}
use Rattle.sail_grammar.specs.RowName.{Definitions}
use Rattle.sail_grammar.specs.Form.{Form, Row, Tree}
use Rattle.sail_grammar.specs.Reads.{Reads, left, right, both, row, empty}
use Rattle.sail_grammar.specs.Table.{rule}
use Rattle.sail_grammar.specs.Sets.{grammar}
use Rattle.sail_grammar.specs.Ends.{Outcome, Ends, Done, Stop, left_stop, right_stop, first_stop, next_stop, guard_stop}
use Rattle.sail_grammar.specs.Ends.{row_ends, forbid_bar, bar_bar, bar_stop, hold_bar}
use Rattle.sail_grammar.specs.DefTrees.{defs_of}
use Rattle.sail_grammar.specs.Levels.{Nesting, nest, levels, most_levels, deep_from, no_nesting, deep}
use Rattle.sail_grammar.specs.Model.{IsModel, IsRefused, is_left_out, token_before}
use Rattle.sail_grammar.proofs.Meets.{meets_done}
use Rattle.sail_grammar.proofs.Reach.{shrinks}
use Rattle.sail_grammar.proofs.Model.{model_of, forbidden_at, left_out_at, unfit_at, ended_at, deep_read, deep_end}
use Rattle.sail_definitions.proofs.DefinitionRows.{any_symbol}
use Rattle.decided_tokens.proofs.Ending.{ended}

-- definitions leave no token
none_behind : {t : Tree} {ss rest : List Sign} → Reads rule (Row Definitions) t ss rest → rest ≡ []
none_behind (row (left (both d r))) = none_behind r
none_behind {rest = []} (row (right (empty h))) = refl
none_behind {rest = s ∷ rest} (row (right (empty h))) = absurd (true≢false (sym (any_symbol s) ∙ h))

-- a forbidden form isn't shorter than what is left
no_shorter : {a : Form} {ss rest from : List Sign} → Ends grammar a ss (Stop rest (Some from)) → length rest ≤ length from
no_shorter (left_stop {from = Some from} m e) = no_shorter e
no_shorter (right_stop {from = Some from} m e) = no_shorter e
no_shorter (first_stop {from = Some from} e) = no_shorter e
no_shorter (next_stop {from = Some from} d e) = no_shorter e
no_shorter (guard_stop {from = Some from} e) = no_shorter e
no_shorter (row_ends {r = Stop rest (Some from)} e) = no_shorter e
no_shorter (forbid_bar h) = omega arith
no_shorter (bar_bar h e) = shrinks grammar e
no_shorter (bar_stop {from = Some from} e) = no_shorter e
no_shorter (hold_bar e) = shrinks grammar e

-- a token that is too deep is one of the list
within : (n : Nesting) (ss : List Sign) (m : ℕ) → deep_from n ss ≡ Some m → m < length ss
within n [] m h = absurd cc
within n (s ∷ ss) m h = by_level (nat_lt most_levels (levels (nest n s.kind))) (deep_from (nest n s.kind) ss) (λ k e. within (nest n s.kind) ss k e) h
  where
    by_level : (b : Bool) (d : Option ℕ) → ((k : ℕ) → d ≡ Some k → k < length ss) → (if b then Some 0 else option_map suc d) ≡ Some m →
        m < suc (length ss)
    by_level true d f h = let e : 0 ≡ m = cc in omega (arith, e)
    by_level false None f h = absurd cc
    by_level false (Some k) f h = let e : suc k ≡ m = cc in let lt = f k refl in omega (arith, e, lt)

module _ (signs : List Sign) (end : Place) where
  abbrev Refused : Type 0
  Refused = (e : ParseError) × IsRefused signs end e

  -- the reading of the first tokens stops at a token
  stopped : (us more : List Sign) → signs ≡ us ++ more → ((m : ℕ) → deep signs ≡ Some m → length us ≤ suc m) → (s : Sign) (tail : List Sign)
      (from : Option (List Sign)) → Ends grammar (Row Definitions) us (Stop (s ∷ tail) from) → Refused
  stopped us more whole bound s tail (Some (x ∷ rest)) e =
      (error.Outside x.place x.text, forbidden_at us more signs whole (s ∷ tail) (x ∷ rest) rest x end bound e refl)
  stopped us more whole bound s tail (Some []) e = let long : length (s ∷ tail) ≤ 0 = no_shorter e in absurd (omega (arith, long))
  stopped us more whole bound s tail None e =
      elim (cases_Bool (is_left_out s.kind (token_before signs (length us - length (s ∷ tail))))) [
        | inl h ↦ (error.Outside s.place s.text, left_out_at us more signs whole (s ∷ tail) tail s end bound e refl h)
        | inr h ↦ (error.Syntax s.place (Some s.text), unfit_at us more signs whole (s ∷ tail) tail s end bound e refl h)
      ]

  -- none is too deep
  shallow : deep signs ≡ None → (how : Outcome) → Ends grammar (Row Definitions) signs how →
      ((definitions : List Def) × IsModel signs definitions) ⊎ Refused
  shallow h (Done t rest) e =
      inl (
        defs_of t,
        model_of signs t h
            (subst (λ x. Ends grammar (Row Definitions) signs (Done t x)) (none_behind (meets_done grammar e)) e),
      )
  shallow h (Stop [] from) e = inr (error.Syntax end None, ended_at signs from end h e)
  shallow h (Stop (s ∷ tail) from) e =
      inr (stopped signs [] (sym (append-nil signs)) (λ m d. absurd (let n : None ≡ Some m = sym h ∙ d in cc)) s tail from e)

  -- one is
  module _ (m : ℕ) (h : deep signs ≡ Some m) where
    lt : m < length signs
    lt = within no_nesting signs m h

    count : length (take (suc m) signs) ≡ suc m
    count = length-take-le (suc m) signs (let l = lt in omega (arith, l))

    bound : (k : ℕ) → deep signs ≡ Some k → length (take (suc m) signs) ≤ suc k
    bound k d = let e : m ≡ k = (let n : Some m ≡ Some k = sym h ∙ d in cc) in omega (arith, e, count)

    there : (d : Sign) → slice_get signs m ≡ Some (get_or signs m d)
    there d = slice_get-get_or signs m d lt

    deepened : (d : Sign) (how : Outcome) → Ends grammar (Row Definitions) (take (suc m) signs) how → Refused
    deepened d (Done t rest) e = (
      error.TooDeep (get_or signs m d).place,
      deep_read signs m (get_or signs m d) t end h (there d)
          (subst (λ x. Ends grammar (Row Definitions) (take (suc m) signs) (Done t x)) (none_behind (meets_done grammar e)) e),
    )
    deepened d (Stop [] from) e = (error.TooDeep (get_or signs m d).place, deep_end signs m (get_or signs m d) from end h (there d) e)
    deepened d (Stop (s ∷ tail) from) e =
        stopped (take (suc m) signs) (drop (suc m) signs) (sym (take-append-drop (suc m) signs)) bound s tail from e

  some_sign : (ss : List Sign) (m : ℕ) → m < length ss → Sign
  some_sign [] m lt = absurd (omega (arith, lt))
  some_sign (s ∷ ss) m lt = s

  by_depth : (d : Option ℕ) → deep signs ≡ d → ((definitions : List Def) × IsModel signs definitions) ⊎ Refused
  by_depth None h = let x = ended Definitions signs in shallow h x.how x.ends
  by_depth (Some m) h =
      let x = ended Definitions (take (suc m) signs) in inr (deepened m h (some_sign signs m (lt m h)) x.how x.ends)

  pub tokens_decided : ((definitions : List Def) × IsModel signs definitions) ⊎ Refused
  tokens_decided = by_depth (deep signs) refl
