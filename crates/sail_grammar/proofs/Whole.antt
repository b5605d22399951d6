-- Whole lists: a tree of all their tokens, or the first unfit one.
use Rattle.std.proofs.Common.{◌≡◌, ℕ, suc, ◌≤◌, ◌-◌, ◌+◌, true, List, [], ◌∷◌, ◌++◌, length, take, drop, refl, sym}
use Rattle.std.proofs.Common.{ap, ◌∙◌, subst, append-nil, arith, length-append, length-drop}
use Rattle.std.specs.Prelude.{Option}
use Rattle.std.proofs.lemmas.List.{take-append-drop, take-append-le}
use Rattle.sail_grammar.specs.Symbol.{Sign, symbol}
use Rattle.sail_grammar.specs.RowName.{RowName}
use Rattle.sail_grammar.specs.Form.{Form, Word, Empty, ◌then◌, Row, Tree, among}
use Rattle.sail_grammar.specs.Reads.{Reads, word, empty, left, right, both, guard, bar, hold, row, Opens, opens_none}
use Rattle.sail_grammar.specs.Reads.{opens_word, opens_left, opens_right, opens_first, opens_next, opens_guard}
use Rattle.sail_grammar.specs.Reads.{opens_bar, opens_hold, opens_row}
use Rattle.sail_grammar.specs.Test.{Grammar, clear, IsClear}
use Rattle.sail_grammar.specs.Ends.{Ends, Done, Stop}
use Rattle.sail_grammar.specs.Unfit.{IsFirstUnfit}
use Rattle.sail_grammar.proofs.Frame.{Alike, frame}
use Rattle.sail_grammar.proofs.Meets.{alike_front, meets_stop}
use Rattle.sail_grammar.proofs.Complete.{complete}
use Rattle.sail_grammar.proofs.Reach.{reach}

-- one list cut twice
data Cut (w mid xs ys : List Sign) : Type 0 where
  later : (more : List Sign) → xs ≡ w ++ more → mid ≡ more ++ ys → Cut w mid xs ys
  before : (more : List Sign) → w ≡ xs ++ more → ys ≡ more ++ mid → Cut w mid xs ys

one_more : (s t : Sign) (w mid xs ys : List Sign) → s ≡ t → Cut w mid xs ys → Cut (s ∷ w) mid (t ∷ xs) ys
one_more s t w mid xs ys h (later more e f) = later more (λ i. sym h i ∷ e i) f
one_more s t w mid xs ys h (before more e f) = before more (λ i. h i ∷ e i) f

cut : (w mid xs ys : List Sign) → w ++ mid ≡ xs ++ ys → Cut w mid xs ys
cut [] mid xs ys e = later xs refl e
cut (s ∷ w) mid [] ys e = before (s ∷ w) refl (sym e)
cut (s ∷ w) mid (t ∷ xs) ys e = one_more s t w mid xs ys (cc) (cut w mid xs ys (cc))

empty_front : (xs ys rest : List Sign) → rest ≡ xs ++ (ys ++ rest) → xs ≡ []
empty_front [] ys rest e = refl
empty_front (s ∷ xs) ys rest e =
    let n : length rest ≡ length ((s ∷ xs) ++ (ys ++ rest)) = ap length e in
    absurd (omega (arith, n, length-append (s ∷ xs) (ys ++ rest), length-append ys rest))

module _ (rule : RowName → Form) where
  one_word : (ks : List ℕ) (s : Sign) (xs ys rest : List Sign) → among ks (symbol s) ≡ true → s ∷ rest ≡ xs ++ (ys ++ rest) → Opens rule (Word ks) xs
  one_word ks s [] ys rest h e = opens_none
  one_word ks s (t ∷ xs) ys rest h e =
      let same : s ≡ t = cc in
      let none : xs ≡ [] = empty_front xs ys rest cc in
      subst (λ l. Opens rule (Word ks) (t ∷ l)) (sym none) (opens_word (subst (λ x. among ks (symbol x) ≡ true) same h))

  -- a front of what was read opens the form
  parts : {a : Form} {t : Tree} {ss rest : List Sign} (xs ys : List Sign) → Reads rule a t ss rest → ss ≡ xs ++ (ys ++ rest) → Opens rule a xs
  parts {rest = rest} xs ys (word {ks = ks} {s = s} h) e = one_word ks s xs ys rest h e
  parts {rest = rest} xs ys (empty {ks = ks} h) e = subst (Opens rule (Empty ks)) (sym (empty_front xs ys rest e)) opens_none
  parts xs ys (left r) e = opens_left (parts xs ys r e)
  parts xs ys (right r) e = opens_right (parts xs ys r e)
  parts {rest = rest} xs ys (both {a = a} {b = b} {t = t} {ss = ss} {mid = mid} r q) e =
      let k = frame rule r in
      let in_second = λ (more : List Sign) (p : mid ≡ more ++ (ys ++ rest)). parts more ys q p in
      let in_first = λ (more : List Sign) (p : ss ≡ xs ++ (more ++ mid)). parts xs more r p in
      elim (cut k.read mid xs (ys ++ rest) (sym k.split ∙ e)) as (λ c. Opens rule (a then b) xs) [
        | later more f h ↦
            subst (Opens rule (a then b)) (sym f)
            (opens_next (k.again more (subst (λ x. Alike x more) (sym h) (alike_front more (ys ++ rest)))) (in_second more h))
        | before more f h ↦ opens_first (in_first more (e ∙ ap (λ x. xs ++ x) h))
      ]
  parts xs ys (guard h r) e = opens_guard (parts xs ys r e)
  parts xs ys (bar h r) e = opens_bar (parts xs ys r e)
  parts xs ys (hold r) e = opens_hold (parts xs ys r e)
  parts xs ys (row r) e = opens_row (parts xs ys r e)

  word_front : (ks : List ℕ) (s : Sign) (xs ys : List Sign) → among ks (symbol s) ≡ true → s ∷ [] ≡ xs ++ ys → Opens rule (Word ks) xs
  word_front ks s xs ys h e = one_word ks s xs ys [] h (e ∙ ap (λ x. xs ++ x) (sym (append-nil ys)))

  no_front : (a : Form) (xs ys : List Sign) → [] ≡ xs ++ ys → Opens rule a xs
  no_front a [] ys e = opens_none
  no_front a (s ∷ xs) ys e = absurd cc

  -- a front of what opens a form opens it
  pub opens_part : {a : Form} {us : List Sign} (xs ys : List Sign) → Opens rule a us → us ≡ xs ++ ys → Opens rule a xs
  opens_part {a = a} xs ys opens_none e = no_front a xs ys e
  opens_part xs ys (opens_word {ks = ks} {s = s} h) e = word_front ks s xs ys h e
  opens_part xs ys (opens_left o) e = opens_left (opens_part xs ys o e)
  opens_part xs ys (opens_right o) e = opens_right (opens_part xs ys o e)
  opens_part xs ys (opens_first o) e = opens_first (opens_part xs ys o e)
  opens_part xs ys (opens_next {a = a} {b = b} {t = t} {ss = ss} {mid = mid} r o) e =
      let k = frame rule r in
      let in_second = λ (more : List Sign) (p : mid ≡ more ++ ys). opens_part more ys o p in
      elim (cut k.read mid xs ys (sym k.split ∙ e)) as (λ c. Opens rule (a then b) xs) [
        | later more f h ↦ subst (Opens rule (a then b)) (sym f)
            (opens_next (k.again more (subst (λ x. Alike x more) (sym h) (alike_front more ys))) (in_second more h))
        | before more f h ↦ opens_first (parts xs more r (e ∙ ap (λ x. xs ++ x) h))
      ]
  opens_part xs ys (opens_guard o) e = opens_guard (opens_part xs ys o e)
  opens_part xs ys (opens_bar o) e = opens_bar (opens_part xs ys o e)
  opens_part xs ys (opens_hold o) e = opens_hold (opens_part xs ys o e)
  opens_part xs ys (opens_row o) e = opens_row (opens_part xs ys o e)

module _ (g : Grammar) (good_rows : IsClear g) (n : RowName) (ends : clear g (Row n) (0 ∷ []) ≡ true) where
  not_stopped : {t : Tree} {rest more : List Sign} {from : Option (List Sign)} → Stop rest from ≡ Done t more → ⊥
  not_stopped e = cc

  front_viable : (ss rest front : List Sign) (i : ℕ) → ss ≡ front ++ rest → i ≤ length front → Opens g.rule (Row n) front → Opens g.rule (Row n) (take i ss)
  front_viable ss rest front i split le o =
      let e : take i ss ≡ take i front = ap (take i) split ∙ take-append-le i front rest le in
      subst (Opens g.rule (Row n)) (sym e) (opens_part g.rule (take i front) (drop i front) o (sym (take-append-drop i front)))

  -- where the reading stops, the first unfit token is
  pub first_unfit : (ss rest : List Sign) (from : Option (List Sign)) → Ends g (Row n) ss (Stop rest from) → IsFirstUnfit g.rule n ss (length ss - length rest)
  first_unfit ss rest from e =
      let s = meets_stop g e in
      let size : length ss ≡ length s.front + length rest = ap length s.split ∙ length-append s.front rest in
      record {
        within = omega arith;
        viable = λ i le. front_viable ss rest s.front i s.split (omega arith) s.opened;
        unfit = λ lt o.
            let k : ℕ = suc (length ss - length rest) in
            let far : length rest ≤ length (drop k ss) = reach g good_rows [] (drop k ss) e refl (sym (take-append-drop k ss)) o in
            absurd (omega (arith, length-drop k ss));
        no_tree = λ at t r. not_stopped (complete g good_rows (0 ∷ []) e ends r refl);
      }

  -- a list that stops has no tree
  pub stopped_no_tree : (ss rest : List Sign) (from : Option (List Sign)) (t : Tree) → Ends g (Row n) ss (Stop rest from) → Reads g.rule (Row n) t ss [] → ⊥
  stopped_no_tree ss rest from t e r = not_stopped (complete g good_rows (0 ∷ []) e ends r refl)
