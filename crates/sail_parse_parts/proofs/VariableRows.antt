-- The rows of type variables: the readings of the parts join to the reading of a row.
use Rattle.std.proofs.Common.{◌≡◌, ℕ, ◌++◌, true, false, List, [], ◌∷◌, refl, sym, ◌∙◌, ap, append_assoc, append-nil}
use Rattle.std.specs.Prelude.{Option, Some, None, ◌||◌}
use Rattle.sail_base.specs.declared.kind.Kind.{Kind}
use Rattle.sail_base.specs.declared.kind.Kind.TheVariants as N
use Rattle.sail_lex.specs.declared.kind.TokenKind.TheVariants as K
use Rattle.sail_syntax.specs.declared.name.Name.{Name}
use Rattle.sail_syntax.specs.declared.types.TyExp.{TyExp}
use Rattle.sail_syntax.specs.declared.definitions.Param.{Param}
use Rattle.sail_grammar.specs.declared.error.ReadError.{ReadError}
use Rattle.sail_grammar.specs.declared.mode.Mode.TheVariants.{Full}
use Rattle.sail_grammar.specs.Symbol.{Sign, code, kind_name}
use Rattle.sail_grammar.specs.RowName.{Parameters, ParametersTail, Parameter, KindMark, QuantifiedVariables}
use Rattle.sail_grammar.specs.RowName.{QuantifiedVariable, Typ}
use Rattle.sail_grammar.specs.RowName as R
use Rattle.sail_grammar.specs.Form.{Word, Row, ◌or◌, ◌then◌, Nothing, Leaf, Pair, Left, Right, held}
use Rattle.sail_grammar.specs.Ends.{both_read, row_ends, right_read, empty_read}
use Rattle.sail_grammar.specs.Table.{nothing, word}
use Rattle.sail_grammar.specs.Parsing.{Reading, Takes, StopsAt}
use Rattle.sail_grammar.specs.ExpTrees.{typ_if}
use Rattle.sail_grammar.specs.DefTrees.{kind_of_text, kind_if, kind_or, parameter_of, parameters_tail}
use Rattle.sail_grammar.specs.DefTrees.{parameters_of, variable_of, variables_of, quantifier_if}
use Rattle.sail_grammar.proofs.Steps.{left_word, stops_row, stops_first, stops_next, stops_left, more_ends}
use Rattle.sail_grammar.proofs.Steps.{no_more_ends, more_stops, none_in, right_nothing, held_none, takes_held}
use Rattle.sail_parse_tp.proofs.Choices.{go_left, go_past, stop_left, stop_past}
use Rattle.sail_parse_parts.specs.Behind.{parameters_behind, variables_behind}
use Rattle.sail_parse_parts.proofs.Spelled.{spelled}

pub parameter_all : {ss m1 rest : List Sign} {n : Sign} {k : Option Kind} {name : Name} {d : Kind} → Takes (code K.TypeVariable ∷ []) ss n m1 →
    Reading (Row KindMark) kind_if m1 k rest → name ≡ spelled n → d ≡ kind_or k →
    Reading (Row Parameter) parameter_of ss (record { name = name; kind = d }) rest
parameter_all {n = n} p0 p1 e0 e1 = record {
  tree = Pair (Leaf n) p1.tree;
  ends = row_ends (both_read p0 p1.ends);
  shows = λ i. record { name = (sym e0 i); kind = ((λ j. kind_or (p1.shows j)) ∙ sym e1) i };
}

pub kind_some : {ss a rest : List Sign} {o k : Sign} {d : Kind} → Takes (code K.Colon ∷ []) ss o a → Takes (kind_name ∷ []) a k rest →
    d ≡ kind_of_text k.text → Reading (Row KindMark) kind_if ss (Some d) rest
kind_some {o = o} {k = k} p q e = record { tree = Left (Pair (Leaf o) (Leaf k)); ends = row_ends (more_ends p q); shows = λ i. Some (sym e i) }

pub kind_none : {ss : List Sign} → held ss (code K.Colon ∷ []) ≡ false → Reading (Row KindMark) kind_if ss None ss
kind_none h = record { tree = Right Nothing; ends = row_ends (no_more_ends refl h); shows = refl }

-- type variables in brackets
pub parameters_some : {ss a b d rest : List Sign} {o k : Sign} {p : Param} {first xs : List Param} → Takes (code K.OpenParenthesis ∷ []) ss o a →
    Reading (Row Parameter) parameter_of a p b → first ≡ p ∷ [] → Reading (Row ParametersTail) (parameters_behind first) b xs d →
    Takes (code K.CloseParenthesis ∷ []) d k rest → Reading (Row Parameters) parameters_of ss xs rest
parameters_some {o = o} {k = k} s a l r c = record {
  tree = Left (Pair (Leaf o) (Pair a.tree (Pair r.tree (Leaf k))));
  ends = row_ends (more_ends s (both_read a.ends (both_read r.ends c)));
  shows = (λ i. a.shows i ∷ parameters_tail r.tree) ∙ (λ i. sym l i ++ parameters_tail r.tree) ∙ r.shows;
}

pub parameters_none : {ss : List Sign} {xs : List Param} → held ss (code K.OpenParenthesis ∷ []) ≡ false → xs ≡ [] →
    Reading (Row Parameters) parameters_of ss xs ss
parameters_none h e = record { tree = Right Nothing; ends = row_ends (no_more_ends refl h); shows = sym e }

pub parameter_more : (items : List Param) {ss after next rest : List Sign} {s : Sign} {p : Param} {x more : List Param} →
    Takes (code K.Comma ∷ []) ss s after → Reading (Row Parameter) parameter_of after p next → more ≡ items ++ p ∷ [] →
    Reading (Row ParametersTail) (parameters_behind more) next x rest → Reading (Row ParametersTail) (parameters_behind items) ss x rest
parameter_more items {p = p} c a l r = record {
  tree = Left (Pair (Leaf _) (Pair a.tree r.tree));
  ends = row_ends (more_ends c (both_read a.ends r.ends));
  shows = (λ i. items ++ a.shows i ∷ parameters_tail r.tree) ∙ sym (append_assoc items (p ∷ []) (parameters_tail r.tree)) ∙
      (λ i. sym l i ++ parameters_tail r.tree) ∙ r.shows;
}

pub parameters_end : (items : List Param) {ss : List Sign} → held ss (code K.Comma ∷ []) ≡ false →
    Reading (Row ParametersTail) (parameters_behind items) ss items ss
parameters_end items h = record { tree = Right Nothing; ends = row_ends (no_more_ends refl h); shows = append-nil items }

pub parameter_more_stops : {ss after next : List Sign} {s : Sign} {p : Param} {e : ReadError} → Takes (code K.Comma ∷ []) ss s after →
    Reading (Row Parameter) parameter_of after p next → StopsAt (Row ParametersTail) next e → StopsAt (Row ParametersTail) ss e
parameter_more_stops c a s = stops_row (more_stops c (stops_next a.ends s))

pub parameter_comma_stops : {ss : List Sign} {e : ReadError} → held ss (code K.Comma ∷ []) ≡ true → StopsAt (Word (code K.Comma ∷ [])) ss e →
    StopsAt (Row ParametersTail) ss e
parameter_comma_stops {ss = ss} h s =
    stops_row (stops_left (left_word (code K.Comma ∷ []) (Row Parameter then Row ParametersTail) nothing ss h) (stops_first s))

-- bound type variables
pub variable_bare : {ss rest : List Sign} {n : Sign} {name : Name} {d : Kind} → held ss (code K.TypeVariable ∷ []) ≡ true →
    Takes (code K.TypeVariable ∷ []) ss n rest → name ≡ spelled n → d ≡ N.Int →
    Reading (Row QuantifiedVariable) variable_of ss (record { name = name; kind = d }) rest
variable_bare {n = n} h w e f = record {
  tree = Left (Leaf n);
  ends = row_ends (go_left (code K.TypeVariable ∷ []) h refl w);
  shows = λ i. record { name = sym e i; kind = sym f i };
}

pub variable_with_kind : {ss a b c d rest : List Sign} {o n s k q : Sign} {name : Name} {kind : Kind} → held ss (code K.TypeVariable ∷ []) ≡ false →
    Takes (code K.OpenParenthesis ∷ []) ss o a → Takes (code K.TypeVariable ∷ []) a n b → Takes (code K.Colon ∷ []) b s c →
    Takes (kind_name ∷ []) c k d → Takes (code K.CloseParenthesis ∷ []) d q rest → name ≡ spelled n → kind ≡ kind_of_text k.text →
    Reading (Row QuantifiedVariable) variable_of ss (record { name = name; kind = kind }) rest
variable_with_kind {o = o} {n = n} {s = s} {k = k} {q = q} h p0 p1 p2 p3 p4 e f = record {
  tree = Right (Pair (Leaf o) (Pair (Leaf n) (Pair (Leaf s) (Pair (Leaf k) (Leaf q)))));
  ends = row_ends (go_past (code K.TypeVariable ∷ []) h refl refl refl (both_read p0 (both_read p1 (both_read p2 (both_read p3 p4)))));
  shows = λ i. record { name = sym e i; kind = sym f i };
}

pub variable_bare_stops : {ss : List Sign} {e : ReadError} → held ss (code K.TypeVariable ∷ []) ≡ true →
    StopsAt (Word (code K.TypeVariable ∷ [])) ss e → StopsAt (Row QuantifiedVariable) ss e
variable_bare_stops h s = stops_row (stop_left (code K.TypeVariable ∷ []) h refl s)

pub variable_with_kind_stops : {ss : List Sign} {e : ReadError} → held ss (code K.TypeVariable ∷ []) ≡ false →
    StopsAt (word K.OpenParenthesis then word K.TypeVariable then word K.Colon then Word (kind_name ∷ []) then word K.CloseParenthesis) ss e →
    StopsAt (Row QuantifiedVariable) ss e
variable_with_kind_stops h s = stops_row (stop_past (code K.TypeVariable ∷ []) h refl refl refl s)

abbrev pub variable_symbols : List ℕ
variable_symbols = code K.TypeVariable ∷ code K.OpenParenthesis ∷ []

pub variable_more : (items : List Param) {ss mid rest : List Sign} {p : Param} {x more : List Param} → held ss variable_symbols ≡ true →
    Reading (Row QuantifiedVariable) variable_of ss p mid → more ≡ items ++ p ∷ [] →
    Reading (Row QuantifiedVariables) (variables_behind more) mid x rest → Reading (Row QuantifiedVariables) (variables_behind items) ss x rest
variable_more items {p = p} h a l r = record {
  tree = Left (Pair a.tree r.tree);
  ends = row_ends (go_left variable_symbols h refl (both_read a.ends r.ends));
  shows = (λ i. items ++ a.shows i ∷ variables_of r.tree) ∙ sym (append_assoc items (p ∷ []) (variables_of r.tree)) ∙
      (λ i. sym l i ++ variables_of r.tree) ∙ r.shows;
}

pub variables_end : (items : List Param) {ss : List Sign} → held ss variable_symbols ≡ false →
    Reading (Row QuantifiedVariables) (variables_behind items) ss items ss
variables_end items {ss = ss} h = record {
  tree = Right Nothing;
  ends = row_ends (right_read (right_nothing (Row QuantifiedVariable then Row QuantifiedVariables) ss
      (ap (λ v. v || false) (held_none variable_symbols ss refl h))) (empty_read (none_in ss)));
  shows = append-nil items;
}

pub variable_stops : {ss : List Sign} {e : ReadError} → held ss variable_symbols ≡ true → StopsAt (Row QuantifiedVariable) ss e →
    StopsAt (Row QuantifiedVariables) ss e
variable_stops h s = stops_row (stop_left variable_symbols h refl (stops_first s))

pub variable_more_stops : {ss mid : List Sign} {p : Param} {e : ReadError} → held ss variable_symbols ≡ true →
    Reading (Row QuantifiedVariable) variable_of ss p mid → StopsAt (Row QuantifiedVariables) mid e → StopsAt (Row QuantifiedVariables) ss e
variable_more_stops h a s = stops_row (stop_left variable_symbols h refl (stops_next a.ends s))

-- a quantifier, or none
pub quantifier_some : {ss a b d rest : List Sign} {w k : Sign} {first xs : List Param} {t : Option TyExp} → Takes (code K.Forall ∷ []) ss w a →
    first ≡ [] → Reading (Row QuantifiedVariables) (variables_behind first) a xs b →
    Reading (word K.Comma then Row (Typ Full) or nothing) typ_if b t d → Takes (code K.Dot ∷ []) d k rest →
    Reading (Row R.Quantifier or nothing) quantifier_if ss (record { variables = xs; constraint = t }) rest
quantifier_some {ss = ss} {a = a} {w = w} {k = k} s l r q c = record {
  tree = Left (Pair (Leaf w) (Pair r.tree (Pair q.tree (Leaf k))));
  ends = go_left (code K.Forall ∷ []) (takes_held (code K.Forall ∷ []) ss w a s) refl
      (row_ends (both_read s (both_read r.ends (both_read q.ends c))));
  shows = λ i. record { variables = ((λ j. sym l j ++ variables_of r.tree) ∙ r.shows) i; constraint = q.shows i };
}

pub quantifier_none : {ss : List Sign} {xs : List Param} → held ss (code K.Forall ∷ []) ≡ false → xs ≡ [] →
    Reading (Row R.Quantifier or nothing) quantifier_if ss (record { variables = xs; constraint = None }) ss
quantifier_none {ss = ss} h e = record {
  tree = Right Nothing;
  ends = right_read (right_nothing (Row R.Quantifier) ss (held_none (code K.Forall ∷ []) ss refl h)) (empty_read (none_in ss));
  shows = λ i. record { variables = sym e i; constraint = None };
}

pub quantifier_stops : {ss a : List Sign} {w : Sign} {e : ReadError} → Takes (code K.Forall ∷ []) ss w a →
    StopsAt (Row QuantifiedVariables then (word K.Comma then Row (Typ Full) or nothing) then word K.Dot) a e →
    StopsAt (Row R.Quantifier or nothing) ss e
quantifier_stops {ss = ss} {a = a} {w = w} s q =
    stop_left (code K.Forall ∷ []) (takes_held (code K.Forall ∷ []) ss w a s) refl (stops_row (stops_next s q))
