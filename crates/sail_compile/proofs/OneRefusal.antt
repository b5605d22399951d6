-- Tokens that are refused are refused in one way.
use Rattle.std.proofs.Common.{◌≡◌, ℕ, zero, suc, ◌<◌, ◌≤◌, true, false, List, [], ◌∷◌, length, take, drop, Some, refl, sym, ap, ◌∙◌, subst}
use Rattle.std.proofs.Common.{append-nil, arith, inl, inr}
use Rattle.std.specs.Prelude.{slice_get}
use Rattle.std.proofs.lemmas.Bool.{cases_lt, true≢false}
use Rattle.std.proofs.lemmas.List.{take-append-drop}
use Rattle.std.proofs.lemmas.Option.{slice_get_within}
use Rattle.sail_base.specs.declared.place.Place.{Place}
use Rattle.sail_grammar.specs.declared.error.ParseError.{ParseError}
use Rattle.sail_grammar.specs.declared.error.ParseError.TheVariants as error
use Rattle.sail_grammar.specs.Symbol.{Sign}
use Rattle.sail_grammar.specs.RowName.{Definitions}
use Rattle.sail_grammar.specs.Form.{Form, Row}
use Rattle.sail_grammar.specs.Reads.{Opens, Bars}
use Rattle.sail_grammar.specs.Table.{rule}
use Rattle.sail_grammar.specs.Sets.{grammar}
use Rattle.sail_grammar.specs.Levels.{deep}
use Rattle.sail_grammar.specs.Unfit.{IsFirstUnfit}
use Rattle.sail_grammar.specs.Model.{IsRefused, IsShallow, forbidden, left_out, unfit, ended, too_deep, is_left_out, token_before}
use Rattle.sail_grammar.proofs.Clear.{grammar_clear}
use Rattle.sail_grammar.proofs.Reach.{reach}
use Rattle.sail_grammar.proofs.Whole.{opens_part}
use Rattle.sail_grammar.proofs.Model.{ends_clear, one_first_unfit}
use Rattle.sail_compile.proofs.BarsEnd.{bars_end, one_begin}
use Rattle.sail_compile.proofs.LeftOut.{left_out_shows}

abbrev start : Form
start = Row Definitions

take_take : (i n : ℕ) (ss : List Sign) → i ≤ n → take i (take n ss) ≡ take i ss
take_take zero n ss le = refl
take_take (suc i) zero ss le = absurd (omega arith)
take_take (suc i) (suc n) [] le = refl
take_take (suc i) (suc n) (s ∷ ss) le = ap (λ x. s ∷ x) (take_take i n ss (omega arith))

take_past : (n : ℕ) (ss : List Sign) → length ss ≤ n → take n ss ≡ ss
take_past zero [] le = refl
take_past (suc n) [] le = refl
take_past zero (s ∷ ss) le = absurd (omega arith)
take_past (suc n) (s ∷ ss) le = ap (λ x. s ∷ x) (take_past n ss (omega arith))

module _ (ss : List Sign) where
  Unfit : ℕ → Type 0
  Unfit = IsFirstUnfit rule Definitions ss

  -- what begins a model shows no forbidden form
  opens_not_bars : (us from : List Sign) → Opens rule start us → Bars rule start us from → ⊥
  opens_not_bars us from o b =
      let e = bars_end grammar grammar_clear (0 ∷ []) ends_clear b in
      let far : length (e.0 ∷ []) ≤ 0 = reach grammar grammar_clear (0 ∷ []) [] e.1 ends_clear (sym (append-nil us)) o in
      absurd (omega (arith, far))

  -- a forbidden form is shown by a token, and not at the end
  barred_within : (k : ℕ) (from : List Sign) → IsFirstUnfit rule Definitions ss k → Bars rule start (take (suc k) ss) from → k < length ss
  barred_within k from f b =
      elim (cases_lt k (length ss)) [
        | inl lt ↦ lt
        | inr le ↦ absurd (opens_not_bars ss from
            (subst (Opens rule start) (take_past k ss le) (f.viable k (omega arith)))
            (subst (λ us. Bars rule start us from) (take_past (suc k) ss (omega arith)) b))
      ]

  -- the tokens up to one that is too deep begin a model, so no token before it is the first unfit one
  deep_apart : (k m : ℕ) (s : Sign) → IsFirstUnfit rule Definitions ss k → IsShallow ss k → deep ss ≡ Some m → slice_get ss m ≡ Some s
      → Opens rule start (take (suc m) ss) → ⊥
  deep_apart k m s f shallow h at o =
      let le : k ≤ m = shallow m h in
      let lt : m < length ss = slice_get_within ss m s at in
      let us : List Sign = take (suc m) ss in
      let front : Opens rule start (take (suc k) us) = opens_part rule (take (suc k) us) (drop (suc k) us) o (sym (take-append-drop (suc k) us)) in
      f.unfit (omega arith) (subst (Opens rule start) (take_take (suc k) (suc m) ss (omega arith)) front)

  same_sign : (k n : ℕ) (s t : Sign) → k ≡ n → slice_get ss k ≡ Some s → slice_get ss n ≡ Some t → s ≡ t
  same_sign k n s t e a b = let c : Some s ≡ Some t = sym a ∙ (ap (slice_get ss) e ∙ b) in cc

  -- the same token isn't left out and used
  left_out_once : (k n : ℕ) (s t : Sign) → k ≡ n → slice_get ss k ≡ Some s → slice_get ss n ≡ Some t
      → is_left_out s.kind (token_before ss k) ≡ true → is_left_out t.kind (token_before ss n) ≡ false → ⊥
  left_out_once k n s t e a b h x =
      let same : s ≡ t = same_sign k n s t e a b in
      true≢false (sym h ∙ ((λ i. is_left_out (same i).kind (token_before ss (e i))) ∙ x))

  outside_same : (s t : Sign) → s ≡ t → error.Outside s.place s.text ≡ error.Outside t.place t.text
  outside_same s t e = λ i. error.Outside (e i).place (e i).text

  at_end : (k : ℕ) (s : Sign) → k ≡ length ss → slice_get ss k ≡ Some s → ⊥
  at_end k s e at = let lt : k < length ss = slice_get_within ss k s at in absurd (omega arith)

pub one_refused : (ss : List Sign) (end : Place) (e other : ParseError) → IsRefused ss end e → IsRefused ss end other → e ≡ other
one_refused ss end e other (forbidden k s more f w b) (forbidden n t tail h x c) =
    let kn : k ≡ n = one_first_unfit ss k n f h in
    let begin : s ∷ more ≡ t ∷ tail =
    one_begin grammar grammar_clear (0 ∷ []) ends_clear (subst (λ i. Bars rule start (take (suc i) ss) (s ∷ more)) kn b) c in
    let same : s ≡ t = cc in
    outside_same ss s t same
one_refused ss end e other (forbidden k s more f w b) (left_out n t h x at l) =
    let kn : k ≡ n = one_first_unfit ss k n f h in
    absurd (left_out_shows ss (s ∷ more) n t (token_before ss n) refl at l (subst (λ i. Bars rule start (take (suc i) ss) (s ∷ more)) kn b))
one_refused ss end e other (forbidden k s more f w b) (unfit n t h x at l none) =
    let kn : k ≡ n = one_first_unfit ss k n f h in
    absurd (none (s ∷ more) (subst (λ i. Bars rule start (take (suc i) ss) (s ∷ more)) kn b))
one_refused ss end e other (forbidden k s more f w b) (ended h d) =
    let lt : k < length ss = barred_within ss k (s ∷ more) f b in
    let kn : k ≡ length ss = one_first_unfit ss k (length ss) f h in
    absurd (omega arith)
one_refused ss end e other (forbidden k s more f w b) (too_deep m t d at o) = absurd (deep_apart ss k m t f w d at o)
one_refused ss end e other (left_out n t h x at l) (forbidden k s more f w b) =
    let kn : k ≡ n = one_first_unfit ss k n f h in
    absurd (left_out_shows ss (s ∷ more) n t (token_before ss n) refl at l (subst (λ i. Bars rule start (take (suc i) ss) (s ∷ more)) kn b))
one_refused ss end e other (left_out k s f w a g) (left_out n t h x at l) = outside_same ss s t (same_sign ss k n s t (one_first_unfit ss k n f h) a at)
one_refused ss end e other (left_out k s f w a g) (unfit n t h x at l none) = absurd (left_out_once ss k n s t (one_first_unfit ss k n f h) a at g l)
one_refused ss end e other (left_out k s f w a g) (ended h d) = absurd (at_end ss k s (one_first_unfit ss k (length ss) f h) a)
one_refused ss end e other (left_out k s f w a g) (too_deep m t d at o) = absurd (deep_apart ss k m t f w d at o)
one_refused ss end e other (unfit n t h x at l none) (forbidden k s more f w b) =
    let kn : k ≡ n = one_first_unfit ss k n f h in
    absurd (none (s ∷ more) (subst (λ i. Bars rule start (take (suc i) ss) (s ∷ more)) kn b))
one_refused ss end e other (unfit k s f w a g none) (left_out n t h x at l) = absurd (left_out_once ss n k t s (one_first_unfit ss n k h f) at a l g)
one_refused ss end e other (unfit k s f w a g none) (unfit n t h x at l never) =
    let same : s ≡ t = same_sign ss k n s t (one_first_unfit ss k n f h) a at in
    λ i. error.Syntax (same i).place (Some (same i).text)
one_refused ss end e other (unfit k s f w a g none) (ended h d) = absurd (at_end ss k s (one_first_unfit ss k (length ss) f h) a)
one_refused ss end e other (unfit k s f w a g none) (too_deep m t d at o) = absurd (deep_apart ss k m t f w d at o)
one_refused ss end e other (ended h d) (forbidden k s more f w b) =
    let lt : k < length ss = barred_within ss k (s ∷ more) f b in
    let kn : k ≡ length ss = one_first_unfit ss k (length ss) f h in
    absurd (omega arith)
one_refused ss end e other (ended h d) (left_out k s f w a g) = absurd (at_end ss k s (one_first_unfit ss k (length ss) f h) a)
one_refused ss end e other (ended h d) (unfit k s f w a g none) = absurd (at_end ss k s (one_first_unfit ss k (length ss) f h) a)
one_refused ss end e other (ended h d) (ended f g) = refl
one_refused ss end e other (ended h d) (too_deep m t g at o) = absurd cc
one_refused ss end e other (too_deep m t d at o) (forbidden k s more f w b) = absurd (deep_apart ss k m t f w d at o)
one_refused ss end e other (too_deep m t d at o) (left_out k s f w a g) = absurd (deep_apart ss k m t f w d at o)
one_refused ss end e other (too_deep m t d at o) (unfit k s f w a g none) = absurd (deep_apart ss k m t f w d at o)
one_refused ss end e other (too_deep m t d at o) (ended h g) = absurd cc
one_refused ss end e other (too_deep m s d a o) (too_deep n t h at q) =
    let mn : m ≡ n = (let both : Some m ≡ Some n = sym d ∙ h in cc) in
    let same : s ≡ t = same_sign ss m n s t mn a at in
    λ i. error.TooDeep (same i).place
