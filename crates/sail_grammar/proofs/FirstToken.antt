-- The first token of a tree is the first of the list that it is read from.
use Rattle.std.proofs.Common.{◌≡◌, ℕ, ◌<◌, List, [], ◌∷◌, length, refl, sym, ◌∙◌, ap, subst, arith}
use Rattle.std.specs.Prelude.{Option, Some, None}
use Rattle.sail_base.specs.declared.place.Place.{Place}
use Rattle.sail_grammar.specs.Symbol.{Sign}
use Rattle.sail_grammar.specs.Form.{Form, Tree, Nothing, Leaf, Pair, Left, Right}
use Rattle.sail_grammar.specs.Leaves.{either, first_sign, first_place, place_of_sign, place_ahead}
use Rattle.sail_grammar.specs.Test.{Grammar}
use Rattle.sail_grammar.specs.Ends.{Ends, Outcome, Done, Stop, word_read, word_stop, empty_read, empty_stop}
use Rattle.sail_grammar.specs.Ends.{left_read, left_stop, right_read, right_stop, first_stop, next_stop, both_read}
use Rattle.sail_grammar.specs.Ends.{guard_read, guard_shut, guard_stop, row_ends, forbid_stop, forbid_bar, bar_read}
use Rattle.sail_grammar.specs.Ends.{bar_bar, bar_stop, hold_read, hold_stop, hold_bar}

-- a tree of no token, or one that begins with the first
pub data FirstOf (t : Tree) (ss rest : List Sign) : Type 0 where
  empty : first_sign t ≡ None → ss ≡ rest → FirstOf t ss rest
  begun : (s : Sign) (tail : List Sign) → ss ≡ s ∷ tail → first_sign t ≡ Some s → FirstOf t ss rest

abbrev pub FirstIn : List Sign → Outcome → Type 0
FirstIn ss (Done t rest) = FirstOf t ss rest
FirstIn ss (Stop rest from) = Unit {0}

of_left : {t : Tree} {ss rest : List Sign} → FirstOf t ss rest → FirstOf (Left t) ss rest
of_left (empty e p) = empty e p
of_left (begun s tail p e) = begun s tail p e

of_right : {t : Tree} {ss rest : List Sign} → FirstOf t ss rest → FirstOf (Right t) ss rest
of_right (empty e p) = empty e p
of_right (begun s tail p e) = begun s tail p e

of_pair : {t u : Tree} {ss mid rest : List Sign} → FirstOf t ss mid → FirstOf u mid rest → FirstOf (Pair t u) ss rest
of_pair {u = u} (empty e p) (empty f q) = empty ((λ i. either (e i) (first_sign u)) ∙ f) (p ∙ q)
of_pair {u = u} (empty e p) (begun s tail q f) = begun s tail (p ∙ q) ((λ i. either (e i) (first_sign u)) ∙ f)
of_pair {u = u} (begun s tail p e) b = begun s tail p (λ i. either (e i) (first_sign u))

pub first_in : {g : Grammar} {f : Form} {ss : List Sign} {r : Outcome} → Ends g f ss r → FirstIn ss r
first_in (word_read h) = begun _ _ refl refl
first_in (word_stop h) = tt
first_in (empty_read h) = empty refl refl
first_in (empty_stop h) = tt
first_in (left_read m e) = of_left (first_in e)
first_in (left_stop m e) = tt
first_in (right_read m e) = of_right (first_in e)
first_in (right_stop m e) = tt
first_in (first_stop e) = tt
first_in (next_stop d e) = tt
first_in (both_read d e) = of_pair (first_in d) (first_in e)
first_in (guard_read p e) = first_in e
first_in (guard_shut p e) = tt
first_in (guard_stop e) = tt
first_in (row_ends e) = first_in e
first_in (forbid_stop h) = tt
first_in (forbid_bar h) = tt
first_in (bar_read p e) = first_in e
first_in (bar_bar p e) = tt
first_in (bar_stop e) = tt
first_in (hold_read e) = first_in e
first_in (hold_stop e) = tt
first_in (hold_bar e) = tt

-- where tokens were read, the tree stands where the first of them does
by_first : (t : Tree) (ss rest : List Sign) → FirstOf t ss rest → length rest < length ss → first_place t ≡ place_ahead ss
by_first t ss rest (empty e p) h = absurd (let same : length ss ≡ length rest = ap length p in omega (arith, h, same))
by_first t ss rest (begun s tail p e) h = ap place_of_sign e ∙ sym (ap place_ahead p)

pub first_place_ahead : {g : Grammar} {f : Form} {t : Tree} {ss rest : List Sign} → Ends g f ss (Done t rest) → length
    rest < length ss → first_place t ≡ place_ahead ss
first_place_ahead {t = t} {ss = ss} {rest = rest} e h = by_first t ss rest (first_in e) h
