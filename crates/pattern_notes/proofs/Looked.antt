-- Patterns as they open, and one after another.
use Rattle.std.proofs.Common.{◌≡◌, ◌≤◌, ◌<◌, ◌+◌, ℕ, suc, zero, List, [], ◌∷◌, length, map, drop, get_or, slice_get, refl, sym, ap, ◌∙◌, arith}
use Rattle.std.proofs.Common.{Some, None}
use Rattle.sail_core.specs.declared.patterns.Pattern.{Pattern, out-Pattern, fold_out-Pattern}
use Rattle.value_indices.specs.declared.indices.Indices.{Indices}
use Rattle.value_indices.specs.declared.indices.Reading.{Reading}
use Rattle.sail_base.specs.declared.place.Place.{Place}
use Rattle.pattern_notes.specs.declared.matching.Matching.{Matching}
use Rattle.pattern_leaves.specs.Settings.{Around, bound}
use Rattle.value_indices.specs.Steps.{give}
use Rattle.pattern_notes.specs.Patterns.{Look, look, look_form, matched, form_match, inside, each_match, also}
use Rattle.pattern_leaves.specs.Literals.{no_names, wrong_pattern}
use Rattle.pattern_notes.specs.Patterns.{form_naming, form_written, named_readings, all_taken, taken_out, items_met, item_met, each_met_never}
use Rattle.pattern_notes.specs.Patterns.{name_met, nothing_met}
use Rattle.value_indices.specs.declared.indices.Indices.TheVariants as I
use Rattle.pattern_leaves.proofs.Rests.{rest_is, got_is, none_left, all_behind}
use Rattle.pattern_leaves.proofs.Walked.{consed}

-- ---- how a pattern opens

pub matched_is : (p : Pattern) (qs : List Pattern) (around : Around) (how : Matching) (i : Indices) → qs ≡ (out-Pattern p).parts
    → matched p around how i ≡ form_match (out-Pattern p).place (out-Pattern p).form (map look qs) around how i
matched_is p qs around how i same =
    ap (λ (l : Look). l.match_with around how i) (fold_out-Pattern Look look_form p)
    ∙ (λ j. form_match (out-Pattern p).place (out-Pattern p).form (map look (sym same j)) around how i)

pub naming_is : (p : Pattern) (qs : List Pattern) → qs ≡ (out-Pattern p).parts → (look p).naming ≡ form_naming (out-Pattern p).form (map look qs)
naming_is p qs same =
    ap (λ (l : Look). l.naming) (fold_out-Pattern Look look_form p) ∙ (λ j. form_naming (out-Pattern p).form (map look (sym same j)))

pub written_is : (p : Pattern) (qs : List Pattern) → qs ≡ (out-Pattern p).parts → (look p).written ≡ form_written (out-Pattern p).form (map look qs)
written_is p qs same =
    ap (λ (l : Look). l.written) (fold_out-Pattern Look look_form p) ∙ (λ j. form_written (out-Pattern p).form (map look (sym same j)))

-- ---- parts matched with values

pub parts_more : (place : Place) (ps : List Pattern) (vs : List Indices) (around : Around) (how : Matching) (k : ℕ) (p : Pattern) (x : Indices)
    → k < length ps → p ≡ get_or ps k p → slice_get vs k ≡ Some x
    → each_match place (map look (drop k ps)) around how (drop k vs)
    ≡ also (matched p around (inside how) x) (each_match place (map look (drop (k + 1) ps)) around how (drop (k + 1) vs))
parts_more place ps vs around how k p x within is value =
    (λ j. each_match place (map look (rest_is ps k p within is j)) around how (got_is vs k x value j))

pub parts_short : (place : Place) (ps : List Pattern) (vs : List Indices) (around : Around) (how : Matching) (k : ℕ) (p : Pattern)
    → k < length ps → p ≡ get_or ps k p → slice_get vs k ≡ None
    → each_match place (map look (drop k ps)) around how (drop k vs) ≡ wrong_pattern place
parts_short place ps vs around how k p within is none =
    (λ j. each_match place (map look (rest_is ps k p within is j)) around how (none_left vs k none j))

pub parts_end : (place : Place) (ps : List Pattern) (vs : List Indices) (around : Around) (how : Matching) (k : ℕ)
    → length ps ≤ k → length vs ≤ k → each_match place (map look (drop k ps)) around how (drop k vs) ≡ no_names
parts_end place ps vs around how k some few =
    (λ j. each_match place (map look (all_behind ps k some j)) around how (all_behind vs k few j))

longer : (place : Place) (vs : List Indices) (around : Around) (how : Matching) (k : ℕ) → k < length vs
    → each_match place [] around how (drop k vs) ≡ wrong_pattern place
longer place [] around how k more = absurd (omega arith)
longer place (x ∷ vs) around how zero more = refl
longer place (x ∷ vs) around how (suc k) more = longer place vs around how k (omega arith)

pub parts_long : (place : Place) (ps : List Pattern) (vs : List Indices) (around : Around) (how : Matching) (k : ℕ)
    → length ps ≤ k → k < length vs → each_match place (map look (drop k ps)) around how (drop k vs) ≡ wrong_pattern place
parts_long place ps vs around how k some more =
    (λ j. each_match place (map look (all_behind ps k some j)) around how (drop k vs)) ∙ longer place vs around how k more

-- ---- items, and values that don't exist

pub items_more : (place : Place) (ps : List Pattern) (around : Around) (how : Matching) (r : Reading) (k : ℕ) (p : Pattern)
    → k < length ps → p ≡ get_or ps k p
    → items_met place (map look (drop k ps)) around how r
    ≡ also (item_met place (look p) around how r) (items_met place (map look (drop (k + 1) ps)) around how r)
items_more place ps around how r k p within is = (λ j. items_met place (map look (rest_is ps k p within is j)) around how r)

pub never_more : (ps : List Pattern) (around : Around) (how : Matching) (k : ℕ) (p : Pattern) → k < length ps → p ≡ get_or ps k p
    → each_met_never (map look (drop k ps)) around how ≡ also (matched p around (inside how) I.Never) (each_met_never (map look (drop (k + 1) ps)) around how)
never_more ps around how k p within is = (λ j. each_met_never (map look (rest_is ps k p within is j)) around how)

pub items_end : (place : Place) (ps : List Pattern) (around : Around) (how : Matching) (r : Reading) (k : ℕ) → length ps ≤ k
    → items_met place (map look (drop k ps)) around how r ≡ no_names
items_end place ps around how r k past = (λ j. items_met place (map look (all_behind ps k past j)) around how r)

pub never_end : (ps : List Pattern) (around : Around) (how : Matching) (k : ℕ) → length ps ≤ k
    → each_met_never (map look (drop k ps)) around how ≡ no_names
never_end ps around how k past = (λ j. each_met_never (map look (all_behind ps k past j)) around how)

-- ---- values that are taken out

pub taken_more : (place : Place) (ps : List Pattern) (rs : List Reading) (k : ℕ) (p : Pattern) (r : Reading)
    → k < length ps → p ≡ get_or ps k p → slice_get rs k ≡ Some r
    → all_taken place (named_readings (map look (drop k ps)) (drop k rs))
    ≡ consed (taken_out place (look p).naming r) (all_taken place (named_readings (map look (drop (k + 1) ps)) (drop (k + 1) rs)))
taken_more place ps rs k p r within is reading =
    (λ j. all_taken place (named_readings (map look (rest_is ps k p within is j)) (got_is rs k r reading j)))

none_named : (ls : List Look) → named_readings ls [] ≡ []
none_named [] = refl
none_named (l ∷ ls) = refl

pub taken_short : (place : Place) (ps : List Pattern) (rs : List Reading) (k : ℕ) → slice_get rs k ≡ None
    → all_taken place (named_readings (map look (drop k ps)) (drop k rs)) ≡ give []
taken_short place ps rs k none =
    (λ j. all_taken place (named_readings (map look (drop k ps)) (none_left rs k none j)))
    ∙ ap (all_taken place) (none_named (map look (drop k ps)))

pub taken_end : (place : Place) (ps : List Pattern) (rs : List Reading) (k : ℕ) → length ps ≤ k
    → all_taken place (named_readings (map look (drop k ps)) (drop k rs)) ≡ give []
taken_end place ps rs k some = (λ j. all_taken place (named_readings (map look (all_behind ps k some j)) (drop k rs)))

-- there are as many patterns as parts
pub as_many : (ps : List Pattern) → length (map look ps) ≡ length ps
as_many [] = refl
as_many (p ∷ ps) = ap suc (as_many ps)

-- ---- patterns over no others

pub nothing_of : (place : Place) (ps : List Pattern) → length ps < 1 → no_names ≡ nothing_met place (map look ps)
nothing_of place [] few = refl
nothing_of place (p ∷ ps) few = absurd (omega arith)

pub name_of : (place : Place) (name : List ℕ) (ps : List Pattern) (i : Indices) → length ps < 1
    → give (bound name i ∷ []) ≡ name_met place name (map look ps) i
name_of place name [] i few = refl
name_of place name (p ∷ ps) i few = absurd (omega arith)
