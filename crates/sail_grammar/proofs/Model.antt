-- What the reading of all definitions says of the tokens of a model.
use Rattle.std.proofs.Common.{◌≡◌, ℕ, suc, ◌<◌, ◌≤◌, ◌-◌, ◌+◌, true, false, List, [], ◌∷◌, ◌++◌, length, take, drop}
use Rattle.std.proofs.Common.{refl, sym, ap, ◌∙◌, subst, append_assoc, append-nil, arith, length-append, inl, inr}
use Rattle.std.specs.Prelude.{Option, Some, None, slice_get}
use Rattle.std.proofs.lemmas.Bool.{cases_lt, cases_order}
use Rattle.std.proofs.lemmas.List.{take-append-drop, take-append-le}
use Rattle.std.proofs.Math.Seq.{take-append_seam}
use Rattle.sail_base.specs.declared.place.Place.{Place}
use Rattle.sail_syntax.specs.declared.definitions.Def.{Def}
use Rattle.sail_grammar.specs.declared.error.ParseError.{ParseError}
use Rattle.sail_grammar.specs.declared.error.ParseError.TheVariants as error
use Rattle.sail_grammar.specs.Symbol.{Sign}
use Rattle.sail_grammar.specs.RowName.{RowName, Definitions}
use Rattle.sail_grammar.specs.Form.{Form, Row, Tree}
use Rattle.sail_grammar.specs.Reads.{Reads, Opens, Bars, bars_word, bars_left, bars_right, bars_first, bars_next}
use Rattle.sail_grammar.specs.Reads.{bars_guard, bars_here, bars_in, bars_hold, bars_row}
use Rattle.sail_grammar.specs.Test.{clear}
use Rattle.sail_grammar.specs.Table.{rule}
use Rattle.sail_grammar.specs.Sets.{grammar}
use Rattle.sail_grammar.specs.Ends.{Ends, Done, Stop}
use Rattle.sail_grammar.specs.Unfit.{IsFirstUnfit}
use Rattle.sail_grammar.specs.DefTrees.{defs_of}
use Rattle.sail_grammar.specs.Levels.{deep}
use Rattle.sail_grammar.specs.Model.{IsModel, IsShallow, IsRefused, forbidden, left_out, unfit, ended, too_deep, token_before, is_left_out}
use Rattle.sail_grammar.proofs.Clear.{grammar_clear}
use Rattle.sail_grammar.proofs.Frame.{reads_open}
use Rattle.sail_grammar.proofs.Meets.{meets_done, meets_stop, meets_bar}
use Rattle.sail_grammar.proofs.Reach.{shrinks}
use Rattle.sail_grammar.proofs.BarsFound.{bars_found, not_plain, empty_bars}
use Rattle.sail_grammar.proofs.Found.{one_tree}
use Rattle.sail_grammar.proofs.Whole.{first_unfit, opens_part}

abbrev start : Form
start = Row Definitions

pub ends_clear : clear grammar (Row Definitions) (0 ∷ []) ≡ true
ends_clear = refl

-- ---- a model

pub model_of : (ss : List Sign) (t : Tree) → deep ss ≡ None → Ends grammar (Row Definitions) ss (Done t []) → IsModel ss (defs_of t)
model_of ss t h e = record { tree = t; reads = meets_done grammar e; stands = refl; shallow = h }

pub one_model : (ss : List Sign) (ds es : List Def) → IsModel ss ds → IsModel ss es → ds ≡ es
one_model ss ds es m n = sym m.stands ∙ (ap defs_of (one_tree grammar grammar_clear (0 ∷ []) ends_clear m.reads n.reads refl) ∙ n.stands)

item_at : (front rest : List Sign) (s : Sign) → slice_get (front ++ (s ∷ rest)) (length front) ≡ Some s
item_at [] rest s = refl
item_at (f ∷ front) rest s = item_at front rest s

-- where a forbidden form begins a token stands
begun_some : (r : RowName → Form) {a : Form} {ss : List Sign} (from : List Sign) → Bars r a ss from → from ≡ [] → ⊥
begun_some r from (bars_word h) e = cc
begun_some r from (bars_left b) e = begun_some r from b e
begun_some r from (bars_right b) e = begun_some r from b e
begun_some r from (bars_first b) e = begun_some r from b e
begun_some r from (bars_next q b) e = begun_some r from b e
begun_some r from (bars_guard b) e = begun_some r from b e
begun_some r from (bars_here {test = test} {ks = ks} q h) e = empty_bars r from (bars_here {test = test} {ks = ks} q h) e
begun_some r from (bars_in b) e = begun_some r from b e
begun_some r from (bars_hold b) e = empty_bars r from b e
begun_some r from (bars_row b) e = begun_some r from b e

begun_head : (r : RowName → Form) {a : Form} {ss begun : List Sign} → Bars r a ss begun → (s : Sign) (tail more : List Sign) → s ∷ tail ≡ begun ++ more →
    (rest : List Sign) × Bars r a ss (s ∷ rest)
begun_head r {a = a} {ss = ss} {begun = begun} b s tail more e = head_of begun b e where
  head_of : (begun : List Sign) → Bars r a ss begun → s ∷ tail ≡ begun ++ more → (rest : List Sign) × Bars r a ss (s ∷ rest)
  head_of [] b e = absurd (begun_some r [] b refl)
  head_of (t ∷ rest) b e = (rest, subst (λ x. Bars r a ss (x ∷ rest)) (let h : t ≡ s = cc in h) b)

-- ---- the first unfit token of a longer list

module _ (us more ss : List Sign) (whole : ss ≡ us ++ more) where
  same_take : (i : ℕ) → i ≤ length us → take i ss ≡ take i us
  same_take i le = ap (take i) whole ∙ take-append-le i us more le

  longer : length ss ≡ length us + length more
  longer = ap length whole ∙ length-append us more

  pub unfit_longer : (k : ℕ) → k < length us → IsFirstUnfit rule Definitions us k → IsFirstUnfit rule Definitions ss k
  unfit_longer k lt f = record {
    within = let n = longer in omega arith;
    viable = λ i le. subst (Opens rule start) (sym (same_take i (omega arith))) (f.viable i le);
    unfit = λ lt_ss o. f.unfit lt (subst (Opens rule start) (same_take (suc k) (omega arith)) o);
    no_tree = λ at t r. let n = longer in absurd (omega arith);
  }

  -- ---- the refusals at a token

  pub shallow_to : (k : ℕ) → k < length us → ((m : ℕ) → deep ss ≡ Some m → length us ≤ suc m) → IsShallow ss k
  shallow_to k lt bound m h = let b = bound m h in omega arith

  at_place : (s : Sign) (tail front : List Sign) → us ≡ front ++ (s ∷ tail) → slice_get ss (length front) ≡ Some s
  at_place s tail front e =
      let all : ss ≡ front ++ (s ∷ (tail ++ more)) = whole ∙ (ap (λ x. x ++ more) e ∙ append_assoc front (s ∷ tail) more) in
      ap (λ x. slice_get x (length front)) all ∙ item_at front (tail ++ more) s

  pub forbidden_at : (rest from tail : List Sign) (s : Sign) (end : Place) → ((m : ℕ) → deep ss ≡ Some m → length us ≤ suc m) →
      Ends grammar (Row Definitions) us (Stop rest (Some from)) → from ≡ s ∷ tail → IsRefused ss end (error.Outside s.place s.text)
  forbidden_at rest from tail s end bound e first =
      let k : ℕ = length us - length rest in
      let b = meets_bar grammar e in
      let left : length rest ≡ suc (length b.more) = ap length b.here in
      let size : length us ≡ length b.shown + length b.more = ap length b.split ∙ length-append b.shown b.more in
      let most : length rest ≤ length us = shrinks grammar e in
      let lt : k < length us = omega arith in
      let count : suc k ≡ length b.shown = omega arith in
      let shown : take (suc k) ss ≡ b.shown =
      same_take (suc k) (omega arith) ∙ (ap (take (suc k)) b.split ∙ (ap (λ i. take i (b.shown ++ b.more)) count ∙ take-append_seam b.shown b.more)) in
      let h = begun_head rule b.bars (s) tail b.more (sym first ∙ b.begins) in
      forbidden k s h.0 (unfit_longer k lt (first_unfit grammar grammar_clear Definitions ends_clear us rest (Some from) e)) (shallow_to k lt bound)
      (subst (λ x. Bars rule start x (s ∷ h.0)) (sym shown) h.1)

  -- the place of the token that stops a reading, and that it stands there
  pub record Stopped_at (rest : List Sign) (s : Sign) : Type 0 where
    pub below : length us - length rest < length us
    pub there : slice_get ss (length us - length rest) ≡ Some s

  pub stopped_at : (rest tail : List Sign) (s : Sign) (from : Option (List Sign)) → Ends grammar (Row Definitions) us (Stop rest from) → rest ≡ s ∷ tail →
      Stopped_at rest s
  stopped_at rest tail s from e here =
      let f = meets_stop grammar e in
      let left : length rest ≡ suc (length tail) = ap length here in
      let size : length us ≡ length f.front + length rest = ap length f.split ∙ length-append f.front rest in
      let count : length f.front ≡ length us - length rest = omega arith in
      record {
        below = omega arith;
        there = subst (λ i. slice_get ss i ≡ Some s) count (at_place s tail f.front (f.split ∙ ap (λ x. f.front ++ x) here));
      }

  pub left_out_at : (rest tail : List Sign) (s : Sign) (end : Place) → ((m : ℕ) → deep ss ≡ Some m → length us ≤ suc m) →
      Ends grammar (Row Definitions) us (Stop rest None) → rest ≡ s ∷ tail →
      is_left_out s.kind (token_before ss (length us - length rest)) ≡ true → IsRefused ss end (error.Outside s.place s.text)
  left_out_at rest tail s end bound e here h =
      let a = stopped_at rest tail s None e here in
      left_out (length us - length rest) s
      (unfit_longer (length us - length rest) a.below (first_unfit grammar grammar_clear Definitions ends_clear us rest None e))
      (shallow_to (length us - length rest) a.below bound) a.there h

  pub unfit_at : (rest tail : List Sign) (s : Sign) (end : Place) → ((m : ℕ) → deep ss ≡ Some m → length us ≤ suc m) →
      Ends grammar (Row Definitions) us (Stop rest None) → rest ≡ s ∷ tail →
      is_left_out s.kind (token_before ss (length us - length rest)) ≡ false → IsRefused ss end (error.Syntax s.place (Some s.text))
  unfit_at rest tail s end bound e here h =
      let k : ℕ = length us - length rest in
      let a = stopped_at rest tail s None e here in
      unfit k s (unfit_longer k a.below (first_unfit grammar grammar_clear Definitions ends_clear us rest None e)) (shallow_to k a.below bound) a.there h
      (λ from b. not_plain (bars_found grammar grammar_clear [] (drop (suc k) us) e refl (sym (take-append-drop (suc k) us))
      (subst (λ x. Bars rule start x from) (same_take (suc k) (let lt = a.below in omega arith)) b)))

-- ---- the refusals at the end and at a token that is too deep

pub ended_at : (ss : List Sign) (from : Option (List Sign)) (end : Place) → deep ss ≡ None → Ends grammar (Row Definitions) ss (Stop [] from) →
    IsRefused ss end (error.Syntax end None)
ended_at ss from end h e = ended
    (subst (IsFirstUnfit rule Definitions ss) (omega arith) (first_unfit grammar grammar_clear Definitions ends_clear ss [] from e)) h

pub deep_read : (ss : List Sign) (m : ℕ) (s : Sign) (t : Tree) (end : Place) → deep ss ≡ Some m → slice_get ss m ≡ Some s →
    Ends grammar (Row Definitions) (take (suc m) ss) (Done t []) → IsRefused ss end (error.TooDeep s.place)
deep_read ss m s t end h there e = too_deep m s h there (reads_open rule (meets_done grammar e))

pub deep_end : (ss : List Sign) (m : ℕ) (s : Sign) (from : Option (List Sign)) (end : Place) → deep ss ≡ Some m → slice_get ss m ≡ Some s →
    Ends grammar (Row Definitions) (take (suc m) ss) (Stop [] from) → IsRefused ss end (error.TooDeep s.place)
deep_end ss m s from end h there e =
    let f = meets_stop grammar e in
    too_deep m s h there (subst (Opens rule start) (sym (append-nil f.front) ∙ sym f.split) f.opened)

-- ---- a model isn't refused

viable_all : (ss : List Sign) (t : Tree) (i : ℕ) → Reads rule (Row Definitions) t ss [] → Opens rule (Row Definitions) (take i ss)
viable_all ss t i r = opens_part rule (take i ss) (drop i ss) (reads_open rule r) (sym (take-append-drop i ss))

no_first_unfit : (ss : List Sign) (ds : List Def) (k : ℕ) → IsModel ss ds → IsFirstUnfit rule Definitions ss k → ⊥
no_first_unfit ss ds k m f =
    elim (cases_lt k (length ss)) [
      | inl lt ↦ f.unfit lt (viable_all ss m.tree (suc k) m.reads)
      | inr le ↦ f.no_tree (let w = f.within in omega arith) m.tree m.reads
    ]

pub not_refused : (ss : List Sign) (ds : List Def) (end : Place) (e : ParseError) → IsModel ss ds → IsRefused ss end e → ⊥
not_refused ss ds end e m (forbidden k s more f w b) = no_first_unfit ss ds k m f
not_refused ss ds end e m (left_out k s f w g h) = no_first_unfit ss ds k m f
not_refused ss ds end e m (unfit k s f w g h b) = no_first_unfit ss ds k m f
not_refused ss ds end e m (ended f h) = no_first_unfit ss ds (length ss) m f
not_refused ss ds end e m (too_deep k s h g o) = let n = m.shallow in cc

-- ---- one first unfit token

not_later : (ss : List Sign) (k n : ℕ) → k < n → IsFirstUnfit rule Definitions ss k → IsFirstUnfit rule Definitions ss n → ⊥
not_later ss k n lt f h = f.unfit (let w = h.within in omega arith) (h.viable (suc k) (omega arith))

pub one_first_unfit : (ss : List Sign) (k n : ℕ) → IsFirstUnfit rule Definitions ss k → IsFirstUnfit rule Definitions ss n → k ≡ n
one_first_unfit ss k n f h =
    elim (cases_order k n) [
      | inl e ↦ e
      | inr (inl lt) ↦ absurd (not_later ss k n lt f h)
      | inr (inr lt) ↦ absurd (not_later ss n k lt h f)
    ]
