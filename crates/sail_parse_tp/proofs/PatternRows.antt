-- The rows of patterns: the readings of the parts join to the reading of a row.
use Rattle.std.proofs.Common.{◌≡◌, ℕ, ◌++◌, ◌<◌, Bool, true, false, List, [], ◌∷◌, length, refl, sym, ◌∙◌, ap, subst, append_assoc, append-nil}
use Rattle.std.specs.Prelude.{◌||◌, ◌==◌, Option, None}
use Rattle.std.proofs.lemmas.Bool.{true≢false}
use Rattle.sail_base.specs.declared.place.Place.{Place}
use Rattle.sail_lex.specs.declared.kind.TokenKind.TheVariants as K
use Rattle.sail_syntax.specs.declared.name.Name.{Name}
use Rattle.sail_syntax.specs.declared.name.Literal.{Literal}
use Rattle.sail_syntax.specs.declared.types.TyExp.{TyExp}
use Rattle.sail_syntax.specs.declared.patterns.Pat.{Pat}
use Rattle.sail_syntax.specs.declared.patterns.Pat.TheVariants as V
use Rattle.sail_syntax.specs.declared.patterns.Joined.{Joined}
use Rattle.sail_syntax.specs.declared.words.Brackets.TheVariants as B
use Rattle.sail_grammar.specs.declared.error.ReadError.{ReadError}
use Rattle.sail_grammar.specs.declared.error.ReadError.TheVariants.{Unfit}
use Rattle.sail_grammar.specs.declared.mode.Mode.{Mode}
use Rattle.sail_grammar.specs.declared.mode.Mode.TheVariants.{Full, Limited}
use Rattle.sail_grammar.specs.Symbol.{Sign, symbol, code, two, identifiers, numbers}
use Rattle.sail_grammar.specs.RowName.{
  Typ,
  Pattern,
  PatternAs,
  PatternConcat,
  PatternAppends,
  PatternTyped,
  PatternBase,
  PatternWildcard,
  PatternNegative,
  PatternNamed,
  PatternGroup,
  PatternVector,
  PatternList,
  Patterns,
  PatternsTail,
}
use Rattle.sail_grammar.specs.Form.{Form, Word, Row, ◌or◌, ◌then◌, Tree, Nothing, Leaf, Pair, Left, Right, among, held}
use Rattle.sail_grammar.specs.Ends.{Ends, Done, Stop, word_read, word_stop, both_read, row_ends, left_read, right_read, empty_read}
use Rattle.sail_grammar.specs.Sets.{grammar}
use Rattle.sail_grammar.specs.Table.{nothing, never, word, codes_of, literals}
use Rattle.sail_grammar.specs.Parsing.{Reading, Takes, StopsAt, Stopping}
use Rattle.sail_grammar.specs.Leaves.{first_place, place_ahead, number_of, literal_of}
use Rattle.sail_grammar.specs.TypeTrees.{typ_of}
use Rattle.sail_grammar.specs.PatternTrees.{
  joined,
  as_of,
  grouped_pattern,
  annotated_of,
  wildcard_of,
  literal_pattern_of,
  negative_of,
  pattern_of,
  pattern_concat_of,
  pattern_appended_of,
  pattern_appends_of,
  pattern_typed_of,
  pattern_base_of,
  pattern_named_of,
  pattern_group_of,
  pattern_vector_of,
  pattern_brackets_of,
  pattern_list_of,
  patterns_of,
  patterns_tail_of,
}
use Rattle.sail_grammar.proofs.FirstToken.{first_place_ahead}
use Rattle.sail_grammar.proofs.Steps.{
  carry,
  left_word,
  stops_row,
  stops_first,
  stops_next,
  stops_left,
  stops_right,
  some_ends,
  none_ends,
  more_ends,
  no_more_ends,
  more_stops,
  none_in,
  right_nothing,
  held_none,
  takes_held,
}
use Rattle.sail_parse_tp.specs.Behind.{appends_behind, patterns_behind}
use Rattle.sail_parse_tp.proofs.TypeRows.{spelled}
use Rattle.sail_parse_tp.proofs.Choices.{go_left, go_right, go_past, stop_left, stop_right, stop_past, past_word}

-- a whole pattern: where it begins, and the name behind its `as`
pub pattern_all : {m : Mode} {ss mid rest : List Sign} {p z : Pat} {place : Place} → place ≡ place_ahead ss →
    Reading (Row (PatternConcat m)) pattern_concat_of ss p mid → length mid < length ss → Reading (Row (PatternAs m)) (as_of place p) mid z rest →
    Reading (Row (Pattern m)) pattern_of ss z rest
pattern_all {place = place} e a lt r = record {
  tree = Pair a.tree r.tree;
  ends = row_ends (both_read a.ends r.ends);
  shows = (λ i. as_of ((first_place_ahead a.ends lt ∙ sym e) i) (a.shows i) r.tree) ∙ r.shows;
}

pub as_limited : {m : Mode} {ss : List Sign} {place : Place} {p : Pat} → m ≡ Limited → Reading (Row (PatternAs m)) (as_of place p) ss p ss
as_limited {ss = ss} {place = place} {p = p} e = subst (λ n. Reading (Row (PatternAs n)) (as_of place p) ss p ss) (sym e) (record {
  tree = Right Nothing;
  ends = row_ends (right_read (right_nothing never ss refl) (empty_read (none_in ss)));
  shows = refl;
})

pub as_none : {m : Mode} {ss : List Sign} {place : Place} {p : Pat} → m ≡ Full → held ss (code K.As ∷ []) ≡ false →
    Reading (Row (PatternAs m)) (as_of place p) ss p ss
as_none {ss = ss} {place = place} {p = p} e h = subst (λ n. Reading (Row (PatternAs n)) (as_of place p) ss p ss) (sym e) (record {
  tree = Right Nothing;
  ends = row_ends (no_more_ends refl h);
  shows = refl;
})

pub as_some : {m : Mode} {ss a rest : List Sign} {place : Place} {p z : Pat} {w n : Sign} {name : Name} → m ≡ Full → Takes (code K.As ∷ []) ss w a →
    Takes identifiers a n rest → name ≡ spelled n → z ≡ V.As place p name → Reading (Row (PatternAs m)) (as_of place p) ss z rest
as_some {ss = ss} {rest = rest} {place = place} {p = p} {z = z} {w = w} {n = n} f s t l e =
    subst (λ m. Reading (Row (PatternAs m)) (as_of place p) ss z rest) (sym f) (record {
      tree = Left (Pair (Leaf w) (Leaf n));
      ends = row_ends (more_ends s t);
      shows = (λ i. V.As place p (sym l i)) ∙ sym e;
    })

pub as_stops : {m : Mode} {ss a : List Sign} {w : Sign} {e : ReadError} → m ≡ Full → Takes (code K.As ∷ []) ss w a →
    StopsAt (Word identifiers) a e → StopsAt (Row (PatternAs m)) ss e
as_stops {ss = ss} {e = e} f s q = subst (λ m. StopsAt (Row (PatternAs m)) ss e) (sym f) (stops_row (more_stops s q))

-- the head of a list and the rest
pub concat_some : {m : Mode} {ss mid after rest : List Sign} {s : Sign} {x y z : Pat} → Reading (Row (PatternTyped m)) pattern_typed_of ss x mid →
    Takes (code K.DoubleColon ∷ []) mid s after → Reading (Row (PatternConcat m)) pattern_concat_of after y rest → z ≡ V.Cons s.place x y →
    Reading (Row (PatternConcat m)) pattern_concat_of ss z rest
concat_some {s = s} a w b e = record {
  tree = Pair a.tree (Left (Pair (Leaf s) b.tree));
  ends = row_ends (some_ends a.ends w b.ends);
  shows = (λ i. V.Cons s.place (a.shows i) (b.shows i)) ∙ sym e;
}

pub concat_none : {m : Mode} {ss mid rest : List Sign} {x z : Pat} → Reading (Row (PatternTyped m)) pattern_typed_of ss x mid →
    held mid (code K.DoubleColon ∷ []) ≡ false → Reading (Row (PatternAppends m)) (pattern_appended_of x) mid z rest →
    Reading (Row (PatternConcat m)) pattern_concat_of ss z rest
concat_none {m = m} {mid = mid} a h r = record {
  tree = Pair a.tree (Right r.tree);
  ends = row_ends (both_read a.ends (right_read (past_word (code K.DoubleColon ∷ []) (Row (PatternConcat m)) (Row (PatternAppends m)) mid refl h)
      r.ends));
  shows = (λ i. pattern_appended_of (a.shows i) r.tree) ∙ r.shows;
}

pub concat_none_stops : {m : Mode} {ss mid : List Sign} {x : Pat} {e : ReadError} → Reading (Row (PatternTyped m)) pattern_typed_of ss x mid →
    held mid (code K.DoubleColon ∷ []) ≡ false → StopsAt (Row (PatternAppends m)) mid e → StopsAt (Row (PatternConcat m)) ss e
concat_none_stops {m = m} {mid = mid} a h s = stops_row (stops_next a.ends (stops_right (past_word (code K.DoubleColon ∷ []) (Row (PatternConcat m))
    (Row (PatternAppends m)) mid refl h) s))

-- concatenations
pub appended_some : {m : Mode} {ss a b rest : List Sign} {s : Sign} {x y z : Pat} {first more : List Joined} → Takes (code K.At ∷ []) ss s a →
    Reading (Row (PatternTyped m)) pattern_typed_of a y b → first ≡ [] → Reading (Row (PatternAppends m)) (appends_behind first) b more rest →
    z ≡ V.Concat s.place x y more → Reading (Row (PatternAppends m)) (pattern_appended_of x) ss z rest
appended_some {s = s} {x = x} w q l r e = record {
  tree = Left (Pair (Leaf s) (Pair q.tree r.tree));
  ends = row_ends (more_ends w (both_read q.ends r.ends));
  shows = (λ i. V.Concat s.place x (q.shows i) (((λ j. sym l j ++ pattern_appends_of r.tree) ∙ r.shows) i)) ∙ sym e;
}

pub appended_none : {m : Mode} {ss : List Sign} {x : Pat} → held ss (code K.At ∷ []) ≡ false →
    Reading (Row (PatternAppends m)) (pattern_appended_of x) ss x ss
appended_none h = record { tree = Right Nothing; ends = row_ends (no_more_ends refl h); shows = refl }

pub appends_more : (items : List Joined) {m : Mode} {more xs : List Joined} {ss after mid rest : List Sign} {s : Sign} {x : Pat} →
    Takes (code K.At ∷ []) ss s after → Reading (Row (PatternTyped m)) pattern_typed_of after x mid → more ≡ items ++ joined s.place x ∷ [] →
    Reading (Row (PatternAppends m)) (appends_behind more) mid xs rest → Reading (Row (PatternAppends m)) (appends_behind items) ss xs rest
appends_more items {s = s} {x = x} c a m r = record {
  tree = Left (Pair (Leaf s) (Pair a.tree r.tree));
  ends = row_ends (more_ends c (both_read a.ends r.ends));
  shows = (λ i. items ++ joined s.place (a.shows i) ∷ pattern_appends_of r.tree) ∙
      sym (append_assoc items (joined s.place x ∷ []) (pattern_appends_of r.tree)) ∙ (λ i. sym m i ++ pattern_appends_of r.tree) ∙ r.shows;
}

pub appends_none : (items : List Joined) {m : Mode} {ss : List Sign} → held ss (code K.At ∷ []) ≡ false →
    Reading (Row (PatternAppends m)) (appends_behind items) ss items ss
appends_none items h = record { tree = Right Nothing; ends = row_ends (no_more_ends refl h); shows = append-nil items }

pub appends_more_stops : {m : Mode} {ss after mid : List Sign} {s : Sign} {x : Pat} {e : ReadError} → Takes (code K.At ∷ []) ss s after →
    Reading (Row (PatternTyped m)) pattern_typed_of after x mid → StopsAt (Row (PatternAppends m)) mid e → StopsAt (Row (PatternAppends m)) ss e
appends_more_stops c a s = stops_row (more_stops c (stops_next a.ends s))

pub appends_at_stops : {m : Mode} {ss : List Sign} {e : ReadError} → held ss (code K.At ∷ []) ≡ true → StopsAt (Word (code K.At ∷ [])) ss e →
    StopsAt (Row (PatternAppends m)) ss e
appends_at_stops {m = m} {ss = ss} h s =
    stops_row (stops_left (left_word (code K.At ∷ []) (Row (PatternTyped m) then Row (PatternAppends m)) nothing ss h) (stops_first s))

-- a pattern and its type
pub typed_some : {m : Mode} {ss mid a rest : List Sign} {s : Sign} {p z : Pat} {t : TyExp} {place : Place} → place ≡ place_ahead ss →
    Reading (Row (PatternBase m)) pattern_base_of ss p mid → length mid < length ss → Takes (code K.Colon ∷ []) mid s a →
    Reading (Row (Typ Full)) typ_of a t rest → z ≡ V.Typed place p t → Reading (Row (PatternTyped m)) pattern_typed_of ss z rest
typed_some {s = s} f a lt w r e = record {
  tree = Pair a.tree (Left (Pair (Leaf s) r.tree));
  ends = row_ends (some_ends a.ends w r.ends);
  shows = (λ i. V.Typed ((first_place_ahead a.ends lt ∙ sym f) i) (a.shows i) (r.shows i)) ∙ sym e;
}

pub typed_none : {m : Mode} {ss mid : List Sign} {p : Pat} → Reading (Row (PatternBase m)) pattern_base_of ss p mid →
    held mid (code K.Colon ∷ []) ≡ false → Reading (Row (PatternTyped m)) pattern_typed_of ss p mid
typed_none a h = record { tree = Pair a.tree (Right Nothing); ends = row_ends (none_ends a.ends refl h); shows = a.shows }

-- `_`
pub wildcard_full : {m : Mode} {ss rest : List Sign} {s : Sign} → m ≡ Full → Takes (code K.Wildcard ∷ []) ss s rest →
    Reading (Row (PatternWildcard m)) wildcard_of ss (V.Wildcard s.place) rest
wildcard_full {ss = ss} {rest = rest} {s = s} e w = subst (λ m. Reading (Row (PatternWildcard m)) wildcard_of ss (V.Wildcard s.place) rest) (sym e)
    (record {
      tree = Leaf s;
      ends = row_ends w;
      shows = refl;
    })

pub wildcard_full_stops : {m : Mode} {ss : List Sign} {e : ReadError} → m ≡ Full → StopsAt (Word (code K.Wildcard ∷ [])) ss e →
    StopsAt (Row (PatternWildcard m)) ss e
wildcard_full_stops {ss = ss} {e = e} f s = subst (λ m. StopsAt (Row (PatternWildcard m)) ss e) (sym f) (stops_row s)

pub wildcard_limited : {m : Mode} (ss : List Sign) {n : ℕ} → m ≡ Limited → n ≡ length ss → StopsAt (Row (PatternWildcard m)) ss (Unfit n)
wildcard_limited ss {n = n} e l = subst (λ m. StopsAt (Row (PatternWildcard m)) ss (Unfit n)) (sym e) (stops_row (record {
  why = record { rest = ss; begun = None; ends = word_stop (none_in ss); left_is = l; from_is = refl };
}))

-- literals, among them `2`
two_among : (c : ℕ) (ks : List ℕ) → (two == c || false) ≡ true → (two == c || among ks c) ≡ true
two_among c ks h = elim (two == c) as (λ b. (b || false) ≡ true → (b || among ks c) ≡ true) [
  | true ↦ λ e. refl
  | false ↦ λ e. absurd (true≢false (sym
      e))
] h

not_two : (c : ℕ) (ks : List ℕ) → (two == c || false) ≡ false → (two == c || among ks c) ≡ among ks c
not_two c ks h = elim (two == c) as (λ b. (b || false) ≡ false → (b || among ks c) ≡ among ks c) [
  | true ↦ λ e. absurd (true≢false e)
  | false ↦ λ e.
      refl
] h

pub two_held : (ks : List ℕ) (ss : List Sign) → held ss (two ∷ []) ≡ true → held ss (two ∷ ks) ≡ true
two_held ks [] h = absurd (true≢false (sym h))
two_held ks (s ∷ ss) h = two_among (symbol s) ks h

pub two_not_held : (ks : List ℕ) (ss : List Sign) → held ss (two ∷ []) ≡ false → held ss (two ∷ ks) ≡ held ss ks
two_not_held ks [] h = refl
two_not_held ks (s ∷ ss) h = not_two (symbol s) ks h

pub two_takes : (ks : List ℕ) {ss rest : List Sign} {s : Sign} → Takes (two ∷ []) ss s rest → Takes (two ∷ ks) ss s rest
two_takes ks {s = s} (word_read h) = word_read (two_among (symbol s) ks h)

pub literal_takes : {ks : List ℕ} {ss rest : List Sign} {s : Sign} → held ss (two ∷ []) ≡ false → Takes ks ss s rest → Takes (two ∷ ks) ss s rest
literal_takes {ks = ks} {s = s} n (word_read h) = word_read (not_two (symbol s) ks n ∙ h)

literal_stop : (ks : List ℕ) (ss : List Sign) → held ss (two ∷ []) ≡ false → (rest : List Sign) (from : Option (List Sign)) →
    Ends grammar (Word ks) ss (Stop rest from) → Ends grammar (Word (two ∷ ks)) ss (Stop rest from)
literal_stop ks ss n rest from (word_stop h) = word_stop (two_not_held ks ss n ∙ h)

pub literal_stops : {ks : List ℕ} {ss : List Sign} {e : ReadError} → held ss (two ∷ []) ≡ false → StopsAt (Word ks) ss e →
    StopsAt (Word (two ∷ ks)) ss e
literal_stops {ks = ks} {ss = ss} n s = carry (literal_stop ks ss n) s

abbrev pub literal_symbols : List ℕ
literal_symbols = two ∷ codes_of literals

pub constant_all : {ss rest : List Sign} {s : Sign} {value : Literal} → Takes literal_symbols ss s rest → value ≡ literal_of s.kind s.text →
    Reading (Word literal_symbols) literal_pattern_of ss (V.Constant s.place value) rest
constant_all {s = s} w e = record { tree = Leaf s; ends = w; shows = λ i. V.Constant s.place (sym e i) }

pub negative_all : {ss a rest : List Sign} {s n : Sign} {z : Pat} → Takes (code K.Minus ∷ []) ss s a → Takes numbers a n rest →
    z ≡ V.Negative s.place (number_of n.text) → Reading (Row PatternNegative) negative_of ss z rest
negative_all {s = s} {n = n} w q e = record {
  tree = Pair (Leaf s) (Leaf n);
  ends = row_ends (both_read w q);
  shows = sym e;
}

-- a name, and its arguments
pub named_some : {m : Mode} {ss a rest : List Sign} {n : Sign} {name : Name} {xs : List Pat} → Takes identifiers ss n a → name ≡ spelled n →
    held a (code K.OpenParenthesis ∷ []) ≡ true → Reading (Row (PatternGroup m)) pattern_list_of a xs rest →
    Reading (Row (PatternNamed m)) pattern_named_of ss (V.Construct name xs) rest
named_some {n = n} i e h r = record {
  tree = Pair (Leaf n) (Left r.tree);
  ends = row_ends (both_read i (go_left (code K.OpenParenthesis ∷ []) h refl r.ends));
  shows = λ j. V.Construct (sym e j) (r.shows j);
}

pub named_none : {m : Mode} {ss a : List Sign} {n : Sign} {name : Name} → Takes identifiers ss n a → name ≡ spelled n →
    held a (code K.OpenParenthesis ∷ []) ≡ false → Reading (Row (PatternNamed m)) pattern_named_of ss (V.Bind name) a
named_none {m = m} {a = a} {n = n} i e h = record {
  tree = Pair (Leaf n) (Right Nothing);
  ends = row_ends (both_read i (right_read (right_nothing (Row (PatternGroup m)) a (held_none (code K.OpenParenthesis ∷ []) a refl h))
      (empty_read (none_in a))));
  shows = λ j. V.Bind (sym e j);
}

pub named_stops : {m : Mode} {ss a : List Sign} {n : Sign} {e : ReadError} → Takes identifiers ss n a → held a (code K.OpenParenthesis ∷ []) ≡ true →
    StopsAt (Row (PatternGroup m)) a e → StopsAt (Row (PatternNamed m)) ss e
named_stops i h s = stops_row (stops_next i (stop_left (code K.OpenParenthesis ∷ []) h refl s))

-- patterns in brackets
group_tree : {m : Mode} (ss : List Sign) (t : Tree) (rest : List Sign) → Ends grammar (Row (PatternGroup m)) ss (Done t rest) →
    pattern_group_of t ≡ grouped_pattern (place_ahead ss) (pattern_list_of t)
group_tree ss t rest (row_ends (both_read (word_read h) q)) = refl

pub group_all : {m : Mode} {ss rest : List Sign} {place : Place} {xs : List Pat} {z : Pat} → place ≡ place_ahead ss →
    Reading (Row (PatternGroup m)) pattern_list_of ss xs rest → z ≡ grouped_pattern place xs →
    Reading (Row (PatternGroup m)) pattern_group_of ss z rest
group_all {ss = ss} {rest = rest} f r e = record {
  tree = r.tree;
  ends = r.ends;
  shows = group_tree ss r.tree rest r.ends ∙ (λ i. grouped_pattern (sym f i) (r.shows i)) ∙ sym e;
}

pub list_none : {m : Mode} {ss a rest : List Sign} {o k : Sign} {xs : List Pat} → Takes (code K.OpenParenthesis ∷ []) ss o a →
    Takes (code K.CloseParenthesis ∷ []) a k rest → xs ≡ [] → Reading (Row (PatternGroup m)) pattern_list_of ss (xs) rest
list_none {a = a} {rest = rest} {o = o} {k = k} s c e = record {
  tree = Pair (Leaf o) (Left (Leaf k));
  ends = row_ends (both_read s (go_left (code K.CloseParenthesis ∷ []) (takes_held (code K.CloseParenthesis ∷ []) a k rest c) refl c));
  shows = λ i. sym e i;
}

pub list_some : {m : Mode} {ss a b rest : List Sign} {o k : Sign} {xs : List Pat} → Takes (code K.OpenParenthesis ∷ []) ss o a →
    held a (code K.CloseParenthesis ∷ []) ≡ false → Reading (Row (Patterns m)) patterns_of a xs b → Takes (code K.CloseParenthesis ∷ []) b k rest →
    Reading (Row (PatternGroup m)) pattern_list_of ss (xs) rest
list_some {o = o} {k = k} s h r c = record {
  tree = Pair (Leaf o) (Right (Pair r.tree (Leaf k)));
  ends = row_ends (both_read s (go_past (code K.CloseParenthesis ∷ []) h refl refl refl (both_read r.ends c)));
  shows = λ i. r.shows i;
}

pub list_stops : {m : Mode} {ss a : List Sign} {o : Sign} {e : ReadError} → Takes (code K.OpenParenthesis ∷ []) ss o a →
    held a (code K.CloseParenthesis ∷ []) ≡ false → StopsAt (Row (Patterns m) then word K.CloseParenthesis) a e → StopsAt (Row (PatternGroup m)) ss e
list_stops s h q = stops_row (stops_next s (stop_past (code K.CloseParenthesis ∷ []) h refl refl refl q))

pub brackets_none : {m : Mode} {ss a rest : List Sign} {o k : Sign} {xs : List Pat} → Takes (code K.OpenVector ∷ []) ss o a →
    Takes (code K.CloseVector ∷ []) a k rest → xs ≡ [] → Reading (Row (PatternList m)) pattern_brackets_of ss (V.Group o.place B.List xs) rest
brackets_none {a = a} {rest = rest} {o = o} {k = k} s c e = record {
  tree = Pair (Leaf o) (Left (Leaf k));
  ends = row_ends (both_read s (go_left (code K.CloseVector ∷ []) (takes_held (code K.CloseVector ∷ []) a k rest c) refl c));
  shows = λ i. V.Group o.place B.List (sym e i);
}

pub brackets_some : {m : Mode} {ss a b rest : List Sign} {o k : Sign} {xs : List Pat} → Takes (code K.OpenVector ∷ []) ss o a →
    held a (code K.CloseVector ∷ []) ≡ false → Reading (Row (Patterns m)) patterns_of a xs b → Takes (code K.CloseVector ∷ []) b k rest →
    Reading (Row (PatternList m)) pattern_brackets_of ss (V.Group o.place B.List xs) rest
brackets_some {o = o} {k = k} s h r c = record {
  tree = Pair (Leaf o) (Right (Pair r.tree (Leaf k)));
  ends = row_ends (both_read s (go_past (code K.CloseVector ∷ []) h refl refl refl (both_read r.ends c)));
  shows = λ i. V.Group o.place B.List (r.shows i);
}

pub brackets_stops : {m : Mode} {ss a : List Sign} {o : Sign} {e : ReadError} → Takes (code K.OpenVector ∷ []) ss o a →
    held a (code K.CloseVector ∷ []) ≡ false → StopsAt (Row (Patterns m) then word K.CloseVector) a e → StopsAt (Row (PatternList m)) ss e
brackets_stops s h q = stops_row (stops_next s (stop_past (code K.CloseVector ∷ []) h refl refl refl q))

pub vector_all : {m : Mode} {ss a b rest : List Sign} {o k : Sign} {xs : List Pat} → Takes (code K.OpenBracket ∷ []) ss o a →
    Reading (Row (Patterns m)) patterns_of a xs b → Takes (code K.CloseBracket ∷ []) b k rest →
    Reading (Row (PatternVector m)) pattern_vector_of ss (V.Group o.place B.Vector xs) rest
vector_all {o = o} {k = k} s r c = record {
  tree = Pair (Leaf o) (Pair r.tree (Leaf k));
  ends = row_ends (both_read s (both_read r.ends c));
  shows = λ i. V.Group o.place B.Vector (r.shows i);
}

-- lists of patterns
pub patterns_all : {m : Mode} {ss mid rest : List Sign} {x : Pat} {first xs : List Pat} → Reading (Row (Pattern m)) pattern_of ss x mid →
    first ≡ x ∷ [] → Reading (Row (PatternsTail m)) (patterns_behind first) mid xs rest → Reading (Row (Patterns m)) patterns_of ss xs rest
patterns_all a l r = record {
  tree = Pair a.tree r.tree;
  ends = row_ends (both_read a.ends r.ends);
  shows = (λ i. a.shows i ∷ patterns_tail_of r.tree) ∙ (λ i. sym l i ++ patterns_tail_of r.tree) ∙ r.shows;
}

pub patterns_more : (items : List Pat) {m : Mode} {more xs : List Pat} {ss after mid rest : List Sign} {s : Sign} {x : Pat} →
    Takes (code K.Comma ∷ []) ss s after → Reading (Row (Pattern m)) pattern_of after x mid → more ≡ items ++ x ∷ [] →
    Reading (Row (PatternsTail m)) (patterns_behind more) mid xs rest → Reading (Row (PatternsTail m)) (patterns_behind items) ss xs rest
patterns_more items {s = s} {x = x} c a m r = record {
  tree = Left (Pair (Leaf s) (Pair a.tree r.tree));
  ends = row_ends (more_ends c (both_read a.ends r.ends));
  shows = (λ i. items ++ a.shows i ∷ patterns_tail_of r.tree) ∙ sym (append_assoc items (x ∷ []) (patterns_tail_of r.tree)) ∙
      (λ i. sym m i ++ patterns_tail_of r.tree) ∙ r.shows;
}

pub patterns_none : (items : List Pat) {m : Mode} {ss : List Sign} → held ss (code K.Comma ∷ []) ≡ false →
    Reading (Row (PatternsTail m)) (patterns_behind items) ss items ss
patterns_none items h = record { tree = Right Nothing; ends = row_ends (no_more_ends refl h); shows = append-nil items }

pub patterns_more_stops : {m : Mode} {ss after mid : List Sign} {s : Sign} {x : Pat} {e : ReadError} → Takes (code K.Comma ∷ []) ss s after →
    Reading (Row (Pattern m)) pattern_of after x mid → StopsAt (Row (PatternsTail m)) mid e → StopsAt (Row (PatternsTail m)) ss e
patterns_more_stops c a s = stops_row (more_stops c (stops_next a.ends s))

pub patterns_comma_stops : {m : Mode} {ss : List Sign} {e : ReadError} → held ss (code K.Comma ∷ []) ≡ true →
    StopsAt (Word (code K.Comma ∷ [])) ss e → StopsAt (Row (PatternsTail m)) ss e
patterns_comma_stops {m = m} {ss = ss} h s =
    stops_row (stops_left (left_word (code K.Comma ∷ []) (Row (Pattern m) then Row (PatternsTail m)) nothing ss h) (stops_first s))

-- patterns without sign and type, each by its first token
pub base_wildcard : {m : Mode} {ss rest : List Sign} {p : Pat} → held ss (code K.Wildcard ∷ []) ≡ true →
    Reading (Row (PatternWildcard m)) wildcard_of ss p rest →
    Reading (Row (PatternBase m)) pattern_base_of ss p rest
base_wildcard h x = record { tree = Left x.tree; ends = row_ends (go_left (code K.Wildcard ∷ []) h refl x.ends); shows = x.shows }

pub base_wildcard_stops : {m : Mode} {ss : List Sign} {e : ReadError} → held ss (code K.Wildcard ∷ []) ≡ true →
    StopsAt (Row (PatternWildcard m)) ss e → StopsAt (Row (PatternBase m)) ss e
base_wildcard_stops h s = stops_row (stop_left (code K.Wildcard ∷ []) h refl s)

pub base_constant : {m : Mode} {ss rest : List Sign} {p : Pat} → held ss literal_symbols ≡ true →
    Reading (Word literal_symbols) literal_pattern_of ss p rest →
    Reading (Row (PatternBase m)) pattern_base_of ss p rest
base_constant h x = record {
  tree = Right (Left x.tree);
  ends = row_ends (go_right literal_symbols h refl (go_left literal_symbols h refl x.ends));
  shows = x.shows;
}

pub base_constant_stops : {m : Mode} {ss : List Sign} {e : ReadError} → held ss literal_symbols ≡ true → StopsAt (Word literal_symbols) ss e →
    StopsAt (Row (PatternBase m)) ss e
base_constant_stops h s = stops_row (stop_right literal_symbols h refl (stop_left literal_symbols h refl s))

pub base_negative : {m : Mode} {ss rest : List Sign} {p : Pat} → held ss (code K.Minus ∷ []) ≡ true →
    Reading (Row PatternNegative) negative_of ss p rest →
    Reading (Row (PatternBase m)) pattern_base_of ss p rest
base_negative h x = record {
  tree = Right (Right (Left x.tree));
  ends = row_ends (go_right (code K.Minus ∷ []) h refl (go_right (code K.Minus ∷ []) h refl (go_left (code K.Minus ∷ []) h refl x.ends)));
  shows = x.shows;
}

pub base_negative_stops : {m : Mode} {ss : List Sign} {e : ReadError} → held ss (code K.Minus ∷ []) ≡ true → StopsAt (Row PatternNegative) ss e →
    StopsAt (Row (PatternBase m)) ss e
base_negative_stops h s = stops_row (stop_right (code K.Minus ∷ []) h refl (stop_right (code K.Minus ∷ []) h refl (stop_left (code K.Minus ∷ []) h
    refl s)))

pub base_named : {m : Mode} {ss rest : List Sign} {p : Pat} → held ss identifiers ≡ true → Reading (Row (PatternNamed m)) pattern_named_of ss p rest →
    Reading (Row (PatternBase m)) pattern_base_of ss p rest
base_named h x = record {
  tree = Right (Right (Right (Left x.tree)));
  ends = row_ends (go_right identifiers h refl (go_right identifiers h refl (go_right identifiers h refl (go_left identifiers h refl x.ends))));
  shows = x.shows;
}

pub base_named_stops : {m : Mode} {ss : List Sign} {e : ReadError} → held ss identifiers ≡ true → StopsAt (Row (PatternNamed m)) ss e →
    StopsAt (Row (PatternBase m)) ss e
base_named_stops h s = stops_row (stop_right identifiers h refl (stop_right identifiers h refl (stop_right identifiers h refl (stop_left identifiers
    h refl s))))

pub base_group : {m : Mode} {ss rest : List Sign} {p : Pat} → held ss (code K.OpenParenthesis ∷ []) ≡ true →
    Reading (Row (PatternGroup m)) pattern_group_of ss p rest →
    Reading (Row (PatternBase m)) pattern_base_of ss p rest
base_group h x = record {
  tree = Right (Right (Right (Right (Left x.tree))));
  ends = row_ends (go_right (code K.OpenParenthesis ∷ []) h refl (go_right (code K.OpenParenthesis ∷ []) h refl (go_right (code K.OpenParenthesis ∷
      []) h refl (go_right (code K.OpenParenthesis ∷ []) h refl (go_left (code K.OpenParenthesis ∷ []) h refl x.ends)))));
  shows = x.shows;
}

pub base_group_stops : {m : Mode} {ss : List Sign} {e : ReadError} → held ss (code K.OpenParenthesis ∷ []) ≡ true →
    StopsAt (Row (PatternGroup m)) ss e → StopsAt (Row (PatternBase m)) ss e
base_group_stops h s = stops_row (stop_right (code K.OpenParenthesis ∷ []) h refl (stop_right (code K.OpenParenthesis ∷ []) h refl (stop_right (code
    K.OpenParenthesis ∷ []) h refl (stop_right (code K.OpenParenthesis ∷ []) h refl (stop_left (code K.OpenParenthesis ∷ []) h refl s)))))

pub base_vector : {m : Mode} {ss rest : List Sign} {p : Pat} → held ss (code K.OpenBracket ∷ []) ≡ true →
    Reading (Row (PatternVector m)) pattern_vector_of ss p rest →
    Reading (Row (PatternBase m)) pattern_base_of ss p rest
base_vector h x = record {
  tree = Right (Right (Right (Right (Right (Left x.tree)))));
  ends = row_ends (go_right (code K.OpenBracket ∷ []) h refl (go_right (code K.OpenBracket ∷ []) h refl (go_right (code K.OpenBracket ∷ []) h refl
      (go_right (code K.OpenBracket ∷ []) h refl (go_right (code K.OpenBracket ∷ []) h refl (go_left (code K.OpenBracket ∷ []) h refl x.ends))))));
  shows = x.shows;
}

pub base_vector_stops : {m : Mode} {ss : List Sign} {e : ReadError} → held ss (code K.OpenBracket ∷ []) ≡ true →
    StopsAt (Row (PatternVector m)) ss e → StopsAt (Row (PatternBase m)) ss e
base_vector_stops h s = stops_row (stop_right (code K.OpenBracket ∷ []) h refl (stop_right (code K.OpenBracket ∷ []) h refl (stop_right (code
    K.OpenBracket ∷ []) h refl (stop_right (code K.OpenBracket ∷ []) h refl (stop_right (code K.OpenBracket ∷ []) h refl (stop_left (code
    K.OpenBracket ∷ []) h refl s))))))

pub base_list : {m : Mode} {ss rest : List Sign} {p : Pat} → held ss (code K.Wildcard ∷ []) ≡ false → held ss literal_symbols ≡ false →
    held ss (code K.Minus ∷ []) ≡ false → held ss identifiers ≡ false → held ss (code K.OpenParenthesis ∷ []) ≡ false →
    held ss (code K.OpenBracket ∷ []) ≡ false → Reading (Row (PatternList m)) pattern_brackets_of ss p rest →
    Reading (Row (PatternBase m)) pattern_base_of ss p rest
base_list h0 h1 h2 h3 h4 h5 x = record {
  tree = Right (Right (Right (Right (Right (Right x.tree)))));
  ends = row_ends (go_past (code K.Wildcard ∷ []) h0 refl refl refl (go_past literal_symbols h1 refl refl refl (go_past (code K.Minus ∷ []) h2 refl
      refl refl (go_past identifiers h3 refl refl refl (go_past (code K.OpenParenthesis ∷ []) h4 refl refl refl (go_past (code K.OpenBracket ∷ []) h5
      refl refl refl x.ends))))));
  shows = x.shows;
}

pub base_list_stops : {m : Mode} {ss : List Sign} {e : ReadError} → held ss (code K.Wildcard ∷ []) ≡ false → held ss literal_symbols ≡ false →
    held ss (code K.Minus ∷ []) ≡ false → held ss identifiers ≡ false → held ss (code K.OpenParenthesis ∷ []) ≡ false →
    held ss (code K.OpenBracket ∷ []) ≡ false →
    StopsAt (Row (PatternList m)) ss e → StopsAt (Row (PatternBase m)) ss e
base_list_stops h0 h1 h2 h3 h4 h5 s = stops_row (stop_past (code K.Wildcard ∷ []) h0 refl refl refl (stop_past literal_symbols h1 refl refl refl
    (stop_past (code K.Minus ∷ []) h2 refl refl refl (stop_past identifiers h3 refl refl refl (stop_past (code K.OpenParenthesis ∷ []) h4 refl refl
    refl (stop_past (code K.OpenBracket ∷ []) h5 refl refl refl s))))))
