-- The rows of operators: the readings of the parts join to the reading of a row.
use Rattle.std.proofs.Common.{◌≡◌, ℕ, ◌<◌, length, ◌++◌, true, false, List, [], ◌∷◌, refl, sym, ap, ◌∙◌, append_assoc, append-nil, map}
use Rattle.std.specs.Prelude.{Option, Some, None, ◌||◌}
use Rattle.sail_base.specs.declared.operators.Operator.{Operator}
use Rattle.sail_base.specs.declared.operators.Prefix.TheVariants as P
use Rattle.sail_lex.specs.declared.kind.TokenKind.TheVariants as K
use Rattle.sail_syntax.specs.declared.name.Name.{Name}
use Rattle.sail_syntax.specs.declared.name.Literal.{Literal}
use Rattle.sail_syntax.specs.declared.expressions.Exp.{Exp}
use Rattle.sail_syntax.specs.declared.expressions.Exp.TheVariants as V
use Rattle.sail_syntax.specs.declared.expressions.Suffix.{Suffix}
use Rattle.sail_syntax.specs.declared.expressions.Suffix.TheVariants as F
use Rattle.sail_syntax.specs.declared.expressions.Index.{roll-Index}
use Rattle.sail_base.specs.declared.place.Place.{Place}
use Rattle.sail_grammar.specs.declared.error.ReadError.{ReadError}
use Rattle.sail_grammar.specs.declared.mode.Mode.{Mode}
use Rattle.sail_grammar.specs.Symbol.{Sign, code, two, identifiers}
use Rattle.sail_grammar.specs.RowName as N
use Rattle.sail_grammar.specs.Form.{Form, Empty, Row, ◌or◌, ◌then◌, Tree, Nothing, Leaf, Pair, Left, Right, held}
use Rattle.sail_grammar.specs.Ends.{Ends, Done, both_read, row_ends, right_read, empty_read}
use Rattle.sail_grammar.specs.Sets.{grammar}
use Rattle.sail_grammar.specs.Table.{nothing, word, identifier, comparisons}
use Rattle.sail_grammar.specs.Parsing.{Reading, Takes, StopsAt}
use Rattle.sail_grammar.specs.Leaves.{literal_of, place_ahead}
use Rattle.sail_grammar.specs.ExpTrees as T
use Rattle.sail_grammar.proofs.FirstToken.{first_place_ahead}
use Rattle.sail_grammar.proofs.Steps.{
  stops_row,
  stops_first,
  stops_next,
  stops_right,
  some_ends,
  none_ends,
  more_ends,
  no_more_ends,
  none_in,
  right_nothing,
  held_none,
}
use Rattle.sail_parse_tp.proofs.Choices.{go_left, go_right, go_past, stop_left, stop_right, stop_past, past_word}
use Rattle.sail_parse_expr.specs.Behind.{suffixes_behind, field_of, index_of}

abbrev pub comparison_signs : List ℕ
comparison_signs = map code comparisons

abbrev pub append_signs : List ℕ
append_signs = code K.At ∷ code K.DoubleColon ∷ []

abbrev pub sum_signs : List ℕ
sum_signs = code K.Plus ∷ code K.Minus ∷ []

abbrev pub product_signs : List ℕ
product_signs = code K.Star ∷ code K.ShiftLeft ∷ code K.ShiftRight ∷ []

abbrev pub suffix_signs : List ℕ
suffix_signs = code K.OpenBracket ∷ code K.Dot ∷ []

-- two operands around an operator, or the left one alone
pub or_some : {m : Mode} {ss mid after rest : List Sign} {s : Sign} {x y z : Exp} {o : Operator} → Reading (Row (N.InfixAnd m)) T.and_of ss x mid →
    Takes (code K.Bar ∷ []) mid s after → Reading (Row (N.Infix m)) T.infix_of after y rest → o ≡ T.operator_of s.kind → z ≡ V.Infix s.place o x y →
    Reading (Row (N.Infix m)) T.infix_of ss z rest
or_some {s = s} {x = x} {y = y} a w b k e = record {
  tree = Pair a.tree (Left (Pair (Leaf s) b.tree));
  ends = row_ends (some_ends a.ends w b.ends);
  shows = (λ i. V.Infix s.place (T.operator_of s.kind) (a.shows i) (b.shows i)) ∙ (λ i. V.Infix s.place (sym k i) x y) ∙ sym e;
}

pub or_none : {m : Mode} {ss mid : List Sign} {x : Exp} → Reading (Row (N.InfixAnd m)) T.and_of ss x mid → held mid (code K.Bar ∷ []) ≡ false →
    Reading (Row (N.Infix m)) T.infix_of ss x mid
or_none a h = record { tree = Pair a.tree (Right Nothing); ends = row_ends (none_ends a.ends refl h); shows = a.shows }

pub and_some : {m : Mode} {ss mid after rest : List Sign} {s : Sign} {x y z : Exp} {o : Operator} →
    Reading (Row (N.InfixComparison m)) T.comparison_of ss x mid → Takes (code K.Ampersand ∷ []) mid s after →
    Reading (Row (N.InfixAnd m)) T.and_of after y rest → o ≡ T.operator_of s.kind → z ≡ V.Infix s.place o x y →
    Reading (Row (N.InfixAnd m)) T.and_of ss z rest
and_some {s = s} {x = x} {y = y} a w b k e = record {
  tree = Pair a.tree (Left (Pair (Leaf s) b.tree));
  ends = row_ends (some_ends a.ends w b.ends);
  shows = (λ i. V.Infix s.place (T.operator_of s.kind) (a.shows i) (b.shows i)) ∙ (λ i. V.Infix s.place (sym k i) x y) ∙ sym e;
}

pub and_none : {m : Mode} {ss mid : List Sign} {x : Exp} → Reading (Row (N.InfixComparison m)) T.comparison_of ss x mid →
    held mid (code K.Ampersand ∷ []) ≡ false → Reading (Row (N.InfixAnd m)) T.and_of ss x mid
and_none a h = record { tree = Pair a.tree (Right Nothing); ends = row_ends (none_ends a.ends refl h); shows = a.shows }

pub comparison_some : {m : Mode} {ss mid after rest : List Sign} {s : Sign} {x y z : Exp} {o : Operator} →
    Reading (Row (N.InfixAppend m)) T.append_of ss x mid → Takes comparison_signs mid s after →
    Reading (Row (N.InfixAppend m)) T.append_of after y rest → o ≡ T.operator_of s.kind → z ≡ V.Infix s.place o x y →
    Reading (Row (N.InfixComparison m)) T.comparison_of ss z rest
comparison_some {s = s} {x = x} {y = y} a w b k e = record {
  tree = Pair a.tree (Left (Pair (Leaf s) b.tree));
  ends = row_ends (some_ends a.ends w b.ends);
  shows = (λ i. V.Infix s.place (T.operator_of s.kind) (a.shows i) (b.shows i)) ∙ (λ i. V.Infix s.place (sym k i) x y) ∙ sym e;
}

pub comparison_none : {m : Mode} {ss mid : List Sign} {x : Exp} → Reading (Row (N.InfixAppend m)) T.append_of ss x mid →
    held mid comparison_signs ≡ false → Reading (Row (N.InfixComparison m)) T.comparison_of ss x mid
comparison_none a h = record { tree = Pair a.tree (Right Nothing); ends = row_ends (none_ends a.ends refl h); shows = a.shows }

pub append_some : {m : Mode} {ss mid after rest : List Sign} {s : Sign} {x y z : Exp} {o : Operator} →
    Reading (Row (N.InfixSum m)) T.sum_of ss x mid → Takes append_signs mid s after → Reading (Row (N.InfixAppend m)) T.append_of after y rest →
    o ≡ T.operator_of s.kind → z ≡ V.Infix s.place o x y → Reading (Row (N.InfixAppend m)) T.append_of ss z rest
append_some {s = s} {x = x} {y = y} a w b k e = record {
  tree = Pair a.tree (Left (Pair (Leaf s) b.tree));
  ends = row_ends (some_ends a.ends w b.ends);
  shows = (λ i. V.Infix s.place (T.operator_of s.kind) (a.shows i) (b.shows i)) ∙ (λ i. V.Infix s.place (sym k i) x y) ∙ sym e;
}

pub append_none : {m : Mode} {ss mid : List Sign} {x : Exp} → Reading (Row (N.InfixSum m)) T.sum_of ss x mid → held mid append_signs ≡ false →
    Reading (Row (N.InfixAppend m)) T.append_of ss x mid
append_none a h = record { tree = Pair a.tree (Right Nothing); ends = row_ends (none_ends a.ends refl h); shows = a.shows }

pub raise_some : {m : Mode} {ss mid after rest : List Sign} {s : Sign} {x y z : Exp} {o : Operator} → Reading (Row (N.Unary m)) T.unary_of ss x mid →
    Takes (code K.Caret ∷ []) mid s after → Reading (Row (N.InfixPower m)) T.power_of after y rest → o ≡ T.operator_of s.kind →
    z ≡ V.Infix s.place o x y → Reading (Row (N.InfixPower m)) T.power_of ss z rest
raise_some {s = s} {x = x} {y = y} a w b k e = record {
  tree = Pair a.tree (Left (Pair (Leaf s) b.tree));
  ends = row_ends (some_ends a.ends w b.ends);
  shows = (λ i. V.Infix s.place (T.operator_of s.kind) (a.shows i) (b.shows i)) ∙ (λ i. V.Infix s.place (sym k i) x y) ∙ sym e;
}

pub raise_none : {m : Mode} {ss mid : List Sign} {x : Exp} → Reading (Row (N.Unary m)) T.unary_of ss x mid → held mid (code K.Caret ∷ []) ≡ false →
    Reading (Row (N.InfixPower m)) T.power_of ss x mid
raise_none a h = record { tree = Pair a.tree (Right Nothing); ends = row_ends (none_ends a.ends refl h); shows = a.shows }

-- sums and products, from the left
pub sum_all : {m : Mode} {ss mid rest : List Sign} {x z : Exp} → Reading (Row (N.InfixProduct m)) T.product_of ss x mid →
    Reading (Row (N.InfixSumMore m)) (T.sum_more x) mid z rest → Reading (Row (N.InfixSum m)) T.sum_of ss z rest
sum_all a b = record { tree = Pair a.tree b.tree; ends = row_ends (both_read a.ends b.ends); shows = (λ i. T.sum_more (a.shows i) b.tree) ∙ b.shows }

pub sum_some : {m : Mode} {ss after mid rest : List Sign} {s : Sign} {x y b z : Exp} {o : Operator} → Takes sum_signs ss s after →
    Reading (Row (N.InfixProduct m)) T.product_of after y mid → o ≡ T.operator_of s.kind → b ≡ V.Infix s.place o x y →
    Reading (Row (N.InfixSumMore m)) (T.sum_more b) mid z rest → Reading (Row (N.InfixSumMore m)) (T.sum_more x) ss z rest
sum_some {s = s} {x = x} {y = y} w p k e r = record {
  tree = Left (Pair (Leaf s) (Pair p.tree r.tree));
  ends = row_ends (more_ends w (both_read p.ends r.ends));
  shows = (λ i. T.sum_more (V.Infix s.place (T.operator_of s.kind) x (p.shows i)) r.tree) ∙
      (λ i. T.sum_more (V.Infix s.place (sym k i) x y) r.tree) ∙ (λ i. T.sum_more (sym e i) r.tree) ∙ r.shows;
}

pub sum_none : {m : Mode} {ss : List Sign} {x : Exp} → held ss sum_signs ≡ false → Reading (Row (N.InfixSumMore m)) (T.sum_more x) ss x ss
sum_none h = record { tree = Right Nothing; ends = row_ends (no_more_ends refl h); shows = refl }

pub product_all : {m : Mode} {ss mid rest : List Sign} {x z : Exp} → Reading (Row (N.InfixPower m)) T.power_of ss x mid →
    Reading (Row (N.InfixProductMore m)) (T.product_more x) mid z rest → Reading (Row (N.InfixProduct m)) T.product_of ss z rest
product_all a b = record {
  tree = Pair a.tree b.tree;
  ends = row_ends (both_read a.ends b.ends);
  shows = (λ i. T.product_more (a.shows i) b.tree) ∙ b.shows;
}

pub product_some : {m : Mode} {ss after mid rest : List Sign} {s : Sign} {x y b z : Exp} {o : Operator} → Takes product_signs ss s after →
    Reading (Row (N.InfixPower m)) T.power_of after y mid → o ≡ T.operator_of s.kind → b ≡ V.Infix s.place o x y →
    Reading (Row (N.InfixProductMore m)) (T.product_more b) mid z rest → Reading (Row (N.InfixProductMore m)) (T.product_more x) ss z rest
product_some {s = s} {x = x} {y = y} w p k e r = record {
  tree = Left (Pair (Leaf s) (Pair p.tree r.tree));
  ends = row_ends (more_ends w (both_read p.ends r.ends));
  shows = (λ i. T.product_more (V.Infix s.place (T.operator_of s.kind) x (p.shows i)) r.tree) ∙
      (λ i. T.product_more (V.Infix s.place (sym k i) x y) r.tree) ∙ (λ i. T.product_more (sym e i) r.tree) ∙ r.shows;
}

pub product_none : {m : Mode} {ss : List Sign} {x : Exp} → held ss product_signs ≡ false → Reading (Row (N.InfixProductMore m)) (T.product_more x) ss x ss
product_none h = record { tree = Right Nothing; ends = row_ends (no_more_ends refl h); shows = refl }

-- the operand of `^`, by its first token
pub unary_negation : {m : Mode} {ss rest : List Sign} {x : Exp} → held ss (code K.Minus ∷ []) ≡ true →
    Reading (Row (N.Negation m)) T.negation_of ss x rest → Reading (Row (N.Unary m)) T.unary_of ss x rest
unary_negation h x = record { tree = Left x.tree; ends = row_ends (go_left (code K.Minus ∷ []) h refl x.ends); shows = x.shows }

pub unary_negation_stops : {m : Mode} {ss : List Sign} {e : ReadError} → held ss (code K.Minus ∷ []) ≡ true → StopsAt (Row (N.Negation m)) ss e →
    StopsAt (Row (N.Unary m)) ss e
unary_negation_stops h s = stops_row (stop_left (code K.Minus ∷ []) h refl s)

pub unary_power : {m : Mode} {ss rest : List Sign} {x : Exp} → held ss (two ∷ []) ≡ true → Reading (Row (N.Power m)) T.two_of ss x rest →
    Reading (Row (N.Unary m)) T.unary_of ss x rest
unary_power h x = record {
  tree = Right (Left x.tree);
  ends = row_ends (go_right (two ∷ []) h refl (go_left (two ∷ []) h refl x.ends));
  shows = x.shows;
}

pub unary_power_stops : {m : Mode} {ss : List Sign} {e : ReadError} → held ss (two ∷ []) ≡ true → StopsAt (Row (N.Power m)) ss e →
    StopsAt (Row (N.Unary m)) ss e
unary_power_stops h s = stops_row (stop_right (two ∷ []) h refl (stop_left (two ∷ []) h refl s))

pub unary_postfix : {m : Mode} {ss rest : List Sign} {x : Exp} → held ss (code K.Minus ∷ []) ≡ false → held ss (two ∷ []) ≡ false →
    Reading (Row (N.Postfix m)) T.postfix_of ss x rest → Reading (Row (N.Unary m)) T.unary_of ss x rest
unary_postfix h k x = record {
  tree = Right (Right x.tree);
  ends = row_ends (go_past (code K.Minus ∷ []) h refl refl refl (go_past (two ∷ []) k refl refl refl x.ends));
  shows = x.shows;
}

pub unary_postfix_stops : {m : Mode} {ss : List Sign} {e : ReadError} → held ss (code K.Minus ∷ []) ≡ false → held ss (two ∷ []) ≡ false →
    StopsAt (Row (N.Postfix m)) ss e → StopsAt (Row (N.Unary m)) ss e
unary_postfix_stops h k s = stops_row (stop_past (code K.Minus ∷ []) h refl refl refl (stop_past (two ∷ []) k refl refl refl s))

pub negation_all : {m : Mode} {ss a rest : List Sign} {s : Sign} {x z : Exp} → Takes (code K.Minus ∷ []) ss s a →
    Reading (Row (N.Unary m)) T.unary_of a x rest → z ≡ V.Prefixed s.place P.Negate x → Reading (Row (N.Negation m)) T.negation_of ss z rest
negation_all {s = s} w r e = record {
  tree = Pair (Leaf s) r.tree;
  ends = row_ends (both_read w r.ends);
  shows = (λ i. V.Prefixed s.place P.Negate (r.shows i)) ∙ sym e;
}

-- `2`, as a base of a power or with suffixes
pub power_some : {m : Mode} {ss a b rest : List Sign} {n s : Sign} {x z : Exp} → Takes (two ∷ []) ss n a → Takes (code K.Caret ∷ []) a s b →
    Reading (Row (N.Unary m)) T.unary_of b x rest → z ≡ V.Prefixed s.place P.Power x → Reading (Row (N.Power m)) T.two_of ss z rest
power_some {n = n} {s = s} t w r e = record {
  tree = Pair (Leaf n) (Left (Pair (Leaf s) r.tree));
  ends = row_ends (some_ends t w r.ends);
  shows = (λ i. V.Prefixed s.place P.Power (r.shows i)) ∙ sym e;
}

-- a part that begins with no caret goes past one
past_caret : {b : Form} (x : Form) (ss : List Sign) → held ss (code K.Caret ∷ []) ≡ false → {t : Tree} {rest : List Sign} →
    Ends grammar b ss (Done t rest) → Ends grammar ((word K.Caret then x) or (Empty (code K.Caret ∷ []) then b)) ss (Done (Right (Pair Nothing t)) rest)
past_caret {b = b} x ss h r = right_read (past_word (code K.Caret ∷ []) x (Empty (code K.Caret ∷ []) then b) ss refl h) (both_read (empty_read h) r)

pub power_none : {m : Mode} {ss a rest : List Sign} {n : Sign} {l : Literal} {base z : Exp} {list : List Suffix} → Takes (two ∷ []) ss n a →
    held a (code K.Caret ∷ []) ≡ false → l ≡ literal_of n.kind n.text → base ≡ V.Constant n.place l →
    Reading (Row (N.Suffixes m)) T.suffixes_of a list rest → z ≡ T.with_suffixes n.place base list → Reading (Row (N.Power m)) T.two_of ss z rest
power_none {m = m} {a = a} {n = n} {list = list} t h l b r e = record {
  tree = Pair (Leaf n) (Right (Pair Nothing r.tree));
  ends = row_ends (both_read t (past_caret (Row (N.Unary m)) a h r.ends));
  shows = (λ i. T.with_suffixes n.place (V.Constant n.place (literal_of n.kind n.text)) (r.shows i)) ∙
      (λ i. T.with_suffixes n.place (V.Constant n.place (sym l i)) list) ∙ (λ i. T.with_suffixes n.place (sym b i) list) ∙ sym e;
}

pub power_none_stops : {m : Mode} {ss a : List Sign} {n : Sign} {e : ReadError} → Takes (two ∷ []) ss n a → held a (code K.Caret ∷ []) ≡ false →
    StopsAt (Row (N.Suffixes m)) a e → StopsAt (Row (N.Power m)) ss e
power_none_stops {m = m} {a = a} t h s = stops_row (stops_next t (stops_right (past_word (code K.Caret ∷ []) (Row (N.Unary m)) (Empty (code K.Caret ∷
    []) then Row (N.Suffixes m)) a refl h) (stops_next (empty_read h) s)))

-- a suffix more
pub suffix_more : {m : Mode} (items : List Suffix) {more all : List Suffix} {ss mid rest : List Sign} {x : Suffix} → held ss suffix_signs ≡ true →
    Reading (Row (N.Suffix m)) T.suffix_of ss x mid → more ≡ items ++ x ∷ [] → Reading (Row (N.Suffixes m)) (suffixes_behind more) mid all rest →
    Reading (Row (N.Suffixes m)) (suffixes_behind items) ss all rest
suffix_more items {x = x} h a e r = record {
  tree = Left (Pair a.tree r.tree);
  ends = row_ends (go_left suffix_signs h refl (both_read a.ends r.ends));
  shows = (λ i. items ++ a.shows i ∷ T.suffixes_of r.tree) ∙ sym (append_assoc items (x ∷ []) (T.suffixes_of r.tree)) ∙
      (λ i. sym e i ++ T.suffixes_of r.tree) ∙ r.shows;
}

pub suffix_more_stops : {m : Mode} {ss mid : List Sign} {x : Suffix} {e : ReadError} → held ss suffix_signs ≡ true →
    Reading (Row (N.Suffix m)) T.suffix_of ss x mid → StopsAt (Row (N.Suffixes m)) mid e → StopsAt (Row (N.Suffixes m)) ss e
suffix_more_stops h a s = stops_row (stop_left suffix_signs h refl (stops_next a.ends s))

pub suffix_stops : {m : Mode} {ss : List Sign} {e : ReadError} → held ss suffix_signs ≡ true → StopsAt (Row (N.Suffix m)) ss e →
    StopsAt (Row (N.Suffixes m)) ss e
suffix_stops h s = stops_row (stop_left suffix_signs h refl (stops_first s))

pub suffixes_none : {m : Mode} (items : List Suffix) {ss : List Sign} → held ss suffix_signs ≡ false →
    Reading (Row (N.Suffixes m)) (suffixes_behind items) ss items ss
suffixes_none {m = m} items {ss = ss} h = record {
  tree = Right Nothing;
  ends = row_ends (right_read (right_nothing (Row (N.Suffix m) then Row (N.Suffixes m)) ss (ap (λ v. v || false) (held_none suffix_signs ss refl h)))
      (empty_read (none_in ss)));
  shows = append-nil items;
}

pub suffixes_start : {m : Mode} {items list : List Suffix} {ss rest : List Sign} → items ≡ [] →
    Reading (Row (N.Suffixes m)) (suffixes_behind items) ss list rest → Reading (Row (N.Suffixes m)) T.suffixes_of ss list rest
suffixes_start e r = record { tree = r.tree; ends = r.ends; shows = (λ i. sym e i ++ T.suffixes_of r.tree) ∙ r.shows }

-- an index or a slice, or a field
pub suffix_index : {m : Mode} {ss rest : List Sign} {x : Suffix} → held ss (code K.OpenBracket ∷ []) ≡ true →
    Reading (Row (N.Index m)) index_of ss x rest → Reading (Row (N.Suffix m)) T.suffix_of ss x rest
suffix_index h r = record { tree = Left r.tree; ends = row_ends (go_left (code K.OpenBracket ∷ []) h refl r.ends); shows = r.shows }

pub suffix_index_stops : {m : Mode} {ss : List Sign} {e : ReadError} → held ss (code K.OpenBracket ∷ []) ≡ true → StopsAt (Row (N.Index m)) ss e →
    StopsAt (Row (N.Suffix m)) ss e
suffix_index_stops h s = stops_row (stop_left (code K.OpenBracket ∷ []) h refl s)

pub suffix_field : {m : Mode} {ss rest : List Sign} {x : Suffix} → held ss (code K.OpenBracket ∷ []) ≡ false →
    Reading (word K.Dot then identifier) field_of ss x rest → Reading (Row (N.Suffix m)) T.suffix_of ss x rest
suffix_field h r = record { tree = Right r.tree; ends = row_ends (go_past (code K.OpenBracket ∷ []) h refl refl refl r.ends); shows = r.shows }

pub suffix_field_stops : {m : Mode} {ss : List Sign} {e : ReadError} → held ss (code K.OpenBracket ∷ []) ≡ false →
    StopsAt (word K.Dot then identifier) ss e → StopsAt (Row (N.Suffix m)) ss e
suffix_field_stops h s = stops_row (stop_past (code K.OpenBracket ∷ []) h refl refl refl s)

pub field_all : {ss a rest : List Sign} {d n : Sign} {name : Name} → Takes (code K.Dot ∷ []) ss d a → Takes identifiers a n rest →
    name ≡ record { place = n.place; text = n.text } → Reading (word K.Dot then identifier) field_of ss (F.Field name) rest
field_all {d = d} {n = n} w i e = record { tree = Pair (Leaf d) (Leaf n); ends = both_read w i; shows = λ j. F.Field (sym e j) }

pub index_all : {m : Mode} {ss a b c rest : List Sign} {o k : Sign} {x : Exp} {y : Option Exp} → Takes (code K.OpenBracket ∷ []) ss o a →
    Reading (Row (N.Exp m)) T.exp_of a x b → Reading ((word K.DoubleDot then Row (N.Exp m)) or nothing) T.behind_word b y c →
    Takes (code K.CloseBracket ∷ []) c k rest → Reading (Row (N.Index m)) index_of ss (F.At o.place (roll-Index (record { first = x; last = y }))) rest
index_all {o = o} {k = k} w r q e = record {
  tree = Pair (Leaf o) (Pair r.tree (Pair q.tree (Leaf k)));
  ends = row_ends (both_read w (both_read r.ends (both_read q.ends e)));
  shows = λ i. F.At o.place (roll-Index (record { first = r.shows i; last = q.shows i }));
}

-- the lower end of a slice
pub slice_some : {m : Mode} {ss a rest : List Sign} {s : Sign} {x : Exp} → Takes (code K.DoubleDot ∷ []) ss s a → Reading (Row (N.Exp m)) T.exp_of a x rest →
    Reading ((word K.DoubleDot then Row (N.Exp m)) or nothing) T.behind_word ss (Some x) rest
slice_some {s = s} w r = record { tree = Left (Pair (Leaf s) r.tree); ends = more_ends w r.ends; shows = λ i. Some (r.shows i) }

pub slice_none : {m : Mode} {ss : List Sign} → held ss (code K.DoubleDot ∷ []) ≡ false →
    Reading ((word K.DoubleDot then Row (N.Exp m)) or nothing) T.behind_word ss None ss
slice_none h = record { tree = Right Nothing; ends = no_more_ends refl h; shows = refl }

-- an operand with its suffixes
pub postfix_all : {m : Mode} {ss mid rest : List Sign} {p : Place} {base z : Exp} {list : List Suffix} → p ≡ place_ahead ss →
    Reading (Row (N.Atom m)) T.atom_of ss base mid → length mid < length ss → Reading (Row (N.Suffixes m)) T.suffixes_of mid list rest →
    z ≡ T.with_suffixes p base list → Reading (Row (N.Postfix m)) T.postfix_of ss z rest
postfix_all {p = p} q a l r e = record {
  tree = Pair a.tree r.tree;
  ends = row_ends (both_read a.ends r.ends);
  shows = (λ i. T.with_suffixes ((first_place_ahead a.ends l ∙ sym q) i) (a.shows i) (r.shows i)) ∙ sym e;
}
