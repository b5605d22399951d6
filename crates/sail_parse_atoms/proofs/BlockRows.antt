-- The rows of blocks and of values of fields: the readings of the parts join to the reading of a row.
use Rattle.std.proofs.Common.{◌≡◌, ℕ, ◌++◌, Bool, true, false, List, [], ◌∷◌, refl, sym, ◌∙◌, ap, subst, append_assoc, append-nil, length}
use Rattle.std.specs.Prelude.{Option, Some, None, not, ◌||◌}
use Rattle.std.specs.Option.{is_some}
use Rattle.std.proofs.lemmas.Bool.{true≢false}
use Rattle.sail_base.specs.declared.place.Place.{Place}
use Rattle.sail_lex.specs.declared.kind.TokenKind.TheVariants as K
use Rattle.sail_syntax.specs.declared.name.Name.{Name}
use Rattle.sail_syntax.specs.declared.types.TyExp.{TyExp}
use Rattle.sail_syntax.specs.declared.patterns.Pat.{Pat}
use Rattle.sail_syntax.specs.declared.expressions.Exp.{Exp}
use Rattle.sail_syntax.specs.declared.expressions.Exp.TheVariants as V
use Rattle.sail_syntax.specs.declared.expressions.Stmt.{Stmt}
use Rattle.sail_syntax.specs.declared.expressions.Stmt.TheVariants as S
use Rattle.sail_syntax.specs.declared.expressions.FieldValue.{FieldValue, roll-FieldValue}
use Rattle.sail_grammar.specs.declared.error.ReadError.{ReadError}
use Rattle.sail_grammar.specs.declared.error.ReadError.TheVariants.{Unfit, Forbidden, OutOfMemory}
use Rattle.sail_grammar.specs.declared.mode.Mode.{Mode}
use Rattle.sail_grammar.specs.declared.mode.Mode.TheVariants.{Full, Limited}
use Rattle.sail_grammar.specs.Symbol.{Sign, symbol, code, identifiers}
use Rattle.sail_grammar.specs.RowName as N
use Rattle.sail_grammar.specs.Form.{Form, Word, Row, ◌or◌, ◌then◌, Guard, Forbid, Hold, Tree, Nothing, Leaf, Pair, Left, Right, held, look, among, passes}
use Rattle.sail_grammar.specs.Ends.{
  Ends,
  Done,
  Stop,
  left_stop,
  right_stop,
  both_read,
  row_ends,
  right_read,
  empty_read,
  forbid_bar,
  guard_read,
  guard_shut,
  guard_stop,
  word_stop,
  hold_stop,
  hold_bar,
  first_stop,
  next_stop,
  hold_read,
}
use Rattle.sail_grammar.specs.Test.{may_left}
use Rattle.sail_grammar.specs.Sets.{grammar}
use Rattle.sail_grammar.specs.Table.{nothing, word}
use Rattle.sail_grammar.specs.Parsing.{Reading, Takes, Stopping, StopsAt, Tells, lengths}
use Rattle.sail_grammar.specs.PatternTrees.{pattern_of}
use Rattle.sail_grammar.specs.ExpTrees as T
use Rattle.sail_grammar.proofs.Steps.{
  stops_row,
  stops_first,
  stops_next,
  stops_right,
  some_ends,
  none_ends,
  more_ends,
  no_more_ends,
  more_stops,
  none_in,
  right_nothing,
  held_none,
  held_every,
  takes_held,
  skip,
}
use Rattle.sail_parse_tp.proofs.Choices.{go_left, go_right, go_past, stop_left, stop_right, stop_past, past_word}
use Rattle.sail_grammar.specs.Shapes.{is_exp}
use Rattle.sail_grammar.proofs.Steps.{carry}
use Rattle.sail_grammar.proofs.Test.{every_at}
use Rattle.sail_parse_atoms.specs.Behind.{block_behind, statements_behind, values_behind, held_from, StopsHeld}
use Rattle.sail_parse_forms.proofs.FormRows.{spelled}

-- a test that holds passes, and so does any where none of the tokens is in hand
pub pass_test : (test : Tree → Bool) (ks : List ℕ) (t : Tree) (ss : List Sign) → test t ≡ true → passes test ks t ss ≡ true
pass_test test ks t ss h = ap (λ v. v || not (held ss ks)) h

pub pass_other : (test : Tree → Bool) (ks : List ℕ) (t : Tree) (ss : List Sign) → held ss ks ≡ false → passes test ks t ss ≡ true
pass_other test ks t ss h = (λ i. test t || not (h i)) ∙ or_true (test t) where
  or_true : (b : Bool) → (b || true) ≡ true
  or_true true = refl
  or_true false = refl

pub pass_not : (test : Tree → Bool) (ks : List ℕ) (t : Tree) (ss : List Sign) → test t ≡ false → held ss ks ≡ true → passes test ks t ss ≡ false
pass_not test ks t ss h k = λ i. h i || not (k i)

abbrev pub with_symbols : List ℕ
with_symbols = code K.With ∷ []

-- whether a statement that was read is an expression
is_exp_of : {m : Mode} {ss rest : List Sign} {s : Stmt} {o : Option Exp} (r : Reading (Row (N.Statement m)) T.statement_of ss s rest) → T.value_if s ≡ o →
    is_exp r.tree ≡ is_some o
is_exp_of r e = (λ i. is_some (T.value_if (r.shows i))) ∙ ap is_some e

guarded_with : {m : Mode} {ss a : List Sign} {s : Stmt} {x : Exp} (r : Reading (Row (N.Statement m)) T.statement_of ss s a) → T.value_if s ≡ Some x →
    Ends grammar (Guard (Row (N.Statement m)) is_exp with_symbols) ss (Done r.tree a)
guarded_with {a = a} r e = guard_read (pass_test is_exp with_symbols r.tree a (is_exp_of r e)) r.ends

guarded_none : {m : Mode} {ss a : List Sign} {s : Stmt} (r : Reading (Row (N.Statement m)) T.statement_of ss s a) → held a with_symbols ≡ false →
    Ends grammar (Guard (Row (N.Statement m)) is_exp with_symbols) ss (Done r.tree a)
guarded_none {a = a} r h = guard_read (pass_other is_exp with_symbols r.tree a h) r.ends

guarded_stops : {m : Mode} {ss : List Sign} {e : ReadError} → StopsAt (Row (N.Statement m)) ss e →
    StopsAt (Guard (Row (N.Statement m)) is_exp with_symbols) ss e
guarded_stops s = carry (λ rest from h. guard_stop h) s

-- blocks, by the mode
pub block_in : {m n : Mode} {ss rest : List Sign} {z : Exp} → m ≡ n → Reading (Row (N.Block n)) T.block_of ss z rest →
    Reading (Row (N.Block m)) T.block_of ss z rest
block_in {ss = ss} {rest = rest} {z = z} e r = subst (λ m. Reading (Row (N.Block m)) T.block_of ss z rest) (sym e) r

pub block_in_stops : {m n : Mode} {ss : List Sign} {e : ReadError} → m ≡ n → StopsAt (Row (N.Block n)) ss e → StopsAt (Row (N.Block m)) ss e
block_in_stops {ss = ss} {e = x} e s = subst (λ m. StopsAt (Row (N.Block m)) ss x) (sym e) s

pub block_empty : {ss a rest : List Sign} {o k : Sign} {list : List Stmt} {z : Exp} → Takes (code K.OpenBrace ∷ []) ss o a →
    Takes (code K.CloseBrace ∷ []) a k rest → list ≡ [] → z ≡ V.Block o.place list None → Reading (Row (N.Block Full)) T.block_of ss z rest
block_empty {a = a} {rest = rest} {o = o} {k = k} w q l e = record {
  tree = Pair (Leaf o) (Left (Leaf k));
  ends = row_ends (both_read w (go_left (code K.CloseBrace ∷ []) (takes_held (code K.CloseBrace ∷ []) a k rest q) refl q));
  shows = (λ i. V.Block o.place (sym l i) None) ∙ sym e;
}

pub block_body : {ss a rest : List Sign} {o : Sign} {z : Exp} → Takes (code K.OpenBrace ∷ []) ss o a → held a (code K.CloseBrace ∷ []) ≡ false →
    Reading (Row N.BlockBody) (T.body_of o.place) a z rest → Reading (Row (N.Block Full)) T.block_of ss z rest
block_body {o = o} w h r = record {
  tree = Pair (Leaf o) (Right r.tree);
  ends = row_ends (both_read w (go_past (code K.CloseBrace ∷ []) h refl refl refl r.ends));
  shows = r.shows;
}

pub block_body_stops : {ss a : List Sign} {o : Sign} {e : ReadError} → Takes (code K.OpenBrace ∷ []) ss o a → held a (code K.CloseBrace ∷ []) ≡ false →
    StopsAt (Row N.BlockBody) a e → StopsAt (Row (N.Block Full)) ss e
block_body_stops w h s = stops_row (stops_next w (stop_past (code K.CloseBrace ∷ []) h refl refl refl s))

-- what is behind the opening brace
pub body_stops : {ss : List Sign} {e : ReadError} → StopsAt (Row (N.Statement Full)) ss e → StopsAt (Row N.BlockBody) ss e
body_stops s = stops_row (stops_first (guarded_stops s))

pub body_with : {place : Place} {ss a b c rest : List Sign} {s : Stmt} {w k : Sign} {x z : Exp} {vs : List FieldValue} →
    Reading (Row (N.Statement Full)) T.statement_of ss s a → T.value_if s ≡ Some x → Takes with_symbols a w b →
    Reading (Row (N.FieldValues Full)) T.values_of b vs c → Takes (code K.CloseBrace ∷ []) c k rest → z ≡ V.With place x vs →
    Reading (Row N.BlockBody) (T.body_of place) ss z rest
body_with {place = place} {w = w} {k = k} r v q f d e = record {
  tree = Pair r.tree (Left (Pair (Leaf w) (Pair f.tree (Leaf k))));
  ends = row_ends (both_read (guarded_with r v) (row_ends (more_ends q (both_read f.ends d))));
  shows = (λ i. V.With place (T.exp_or (((λ j. T.value_if (r.shows j)) ∙ v) i)) (f.shows i)) ∙ sym e;
}

pub body_values_stops : {ss a b : List Sign} {s : Stmt} {w : Sign} {x : Exp} {e : ReadError} → Reading (Row (N.Statement Full)) T.statement_of ss s a →
    T.value_if s ≡ Some x → Takes with_symbols a w b → StopsAt (Row (N.FieldValues Full)) b e → StopsAt (Row N.BlockBody) ss e
body_values_stops r v q s = stops_row (stops_next (guarded_with r v) (stops_row (more_stops q (stops_first s))))

pub body_close_stops : {ss a b c : List Sign} {s : Stmt} {w : Sign} {x : Exp} {vs : List FieldValue} {e : ReadError} →
    Reading (Row (N.Statement Full)) T.statement_of ss s a → T.value_if s ≡ Some x → Takes with_symbols a w b →
    Reading (Row (N.FieldValues Full)) T.values_of b vs c → StopsAt (Word (code K.CloseBrace ∷ [])) c e → StopsAt (Row N.BlockBody) ss e
body_close_stops r v q f s = stops_row (stops_next (guarded_with r v) (stops_row (more_stops q (stops_next f.ends s))))

pub body_unfit : {ss a b : List Sign} {s : Stmt} {w : Sign} {n : ℕ} → Reading (Row (N.Statement Full)) T.statement_of ss s a → T.value_if s ≡ None →
    Takes with_symbols a w b → n ≡ length a → StopsAt (Row N.BlockBody) ss (Unfit n)
body_unfit {a = a} {b = b} {w = w} r v q l = stops_row (stops_first (record {
  why = record {
    rest = a;
    begun = None;
    ends = guard_shut (pass_not is_exp with_symbols r.tree a (is_exp_of r v) (takes_held with_symbols a w b q)) r.ends;
    left_is = l;
    from_is = refl;
  };
}))

pub body_rest : {place : Place} {ss a rest : List Sign} {s : Stmt} {z : Exp} → Reading (Row (N.Statement Full)) T.statement_of ss s a →
    held a with_symbols ≡ false → Reading (word K.Semicolon then Row N.Statements or word K.CloseBrace) (block_behind place s) a z rest →
    Reading (Row N.BlockBody) (T.body_of place) ss z rest
body_rest {place = place} {a = a} r h q = record {
  tree = Pair r.tree (Right q.tree);
  ends = row_ends (both_read (guarded_none r h) (row_ends (right_read (past_word with_symbols (Row (N.FieldValues Full) then word K.CloseBrace)
      (word K.Semicolon then Row N.Statements or word K.CloseBrace) a refl h) q.ends)));
  shows = (λ i. block_behind place (r.shows i) q.tree) ∙ q.shows;
}

pub body_rest_stops : {ss a : List Sign} {s : Stmt} {e : ReadError} → Reading (Row (N.Statement Full)) T.statement_of ss s a →
    held a with_symbols ≡ false → StopsAt (word K.Semicolon then Row N.Statements or word K.CloseBrace) a e → StopsAt (Row N.BlockBody) ss e
body_rest_stops {a = a} r h s = stops_row (stops_next (guarded_none r h) (stops_row (stops_right (past_word with_symbols (Row (N.FieldValues
    Full) then word K.CloseBrace) (word K.Semicolon then Row N.Statements or word K.CloseBrace) a refl h) s)))

-- what is behind the first statement
pub rest_some : {place : Place} {ss a rest : List Sign} {s : Stmt} {w : Sign} {list : List Stmt} {z : Exp} → list ≡ s ∷ [] →
    Takes (code K.Semicolon ∷ []) ss w a → Reading (Row N.Statements) (statements_behind place list) a z rest →
    Reading (word K.Semicolon then Row N.Statements or word K.CloseBrace) (block_behind place s) ss z rest
rest_some {place = place} {w = w} l q t = record {
  tree = Left (Pair (Leaf w) t.tree);
  ends = more_ends q t.ends;
  shows = (λ i. T.block place (sym l i ++ T.statements_of t.tree) (T.is_closed t.tree)) ∙ t.shows;
}

pub rest_close : {place : Place} {ss rest : List Sign} {s : Stmt} {k : Sign} {list : List Stmt} {z : Exp} → list ≡ s ∷ [] →
    held ss (code K.Semicolon ∷ []) ≡ false → Takes (code K.CloseBrace ∷ []) ss k rest → z ≡ T.block_of_parts place (T.part_last list) →
    Reading (word K.Semicolon then Row N.Statements or word K.CloseBrace) (block_behind place s) ss z rest
rest_close {place = place} {ss = ss} {k = k} l h q e = record {
  tree = Right (Leaf k);
  ends = right_read (past_word (code K.Semicolon ∷ []) (Row N.Statements) (word K.CloseBrace) ss refl h) q;
  shows = (λ i. T.block_of_parts place (T.part_last (sym l i))) ∙ sym e;
}

pub rest_close_stops : {ss : List Sign} {e : ReadError} → held ss (code K.Semicolon ∷ []) ≡ false → StopsAt (Word (code K.CloseBrace ∷ [])) ss e →
    StopsAt (word K.Semicolon then Row N.Statements or word K.CloseBrace) ss e
rest_close_stops {ss = ss} h s = stops_right (past_word (code K.Semicolon ∷ []) (Row N.Statements) (word K.CloseBrace) ss refl h) s

-- statements behind others
pub statements_end : {place : Place} (items : List Stmt) {ss rest : List Sign} {k : Sign} {z : Exp} → Takes (code K.CloseBrace ∷ []) ss k rest →
    z ≡ V.Block place items None → Reading (Row N.Statements) (statements_behind place items) ss z rest
statements_end {place = place} items {ss = ss} {rest = rest} {k = k} q e = record {
  tree = Left (Leaf k);
  ends = row_ends (go_left (code K.CloseBrace ∷ []) (takes_held (code K.CloseBrace ∷ []) ss k rest q) refl q);
  shows = (λ i. V.Block place (append-nil items i) None) ∙ sym e;
}

pub statement_stops : {ss : List Sign} {e : ReadError} → held ss (code K.CloseBrace ∷ []) ≡ false → StopsAt (Row (N.Statement Full)) ss e →
    StopsAt (Row N.Statements) ss e
statement_stops h s = stops_row (stop_past (code K.CloseBrace ∷ []) h refl refl refl (stops_first s))

pub statements_more : {place : Place} (items : List Stmt) {ss a b rest : List Sign} {s : Stmt} {w : Sign} {more : List Stmt} {z : Exp} →
    held ss (code K.CloseBrace ∷ []) ≡ false → Reading (Row (N.Statement Full)) T.statement_of ss s a → Takes (code K.Semicolon ∷ []) a w b →
    more ≡ items ++ s ∷ [] → Reading (Row N.Statements) (statements_behind place more) b z rest →
    Reading (Row N.Statements) (statements_behind place items) ss z rest
statements_more {place = place} items {s = s} {w = w} h r q l t = record {
  tree = Right (Pair r.tree (Left (Pair (Leaf w) t.tree)));
  ends = row_ends (go_past (code K.CloseBrace ∷ []) h refl refl refl (both_read r.ends (row_ends (more_ends q t.ends))));
  shows = (λ i. T.block place (((λ j. items ++ r.shows j ∷ T.statements_of t.tree) ∙ sym (append_assoc items (s ∷ []) (T.statements_of t.tree)) ∙
      (λ j. sym l j ++ T.statements_of t.tree)) i) (T.is_closed t.tree)) ∙ t.shows;
}

pub statements_more_stops : {ss a b : List Sign} {s : Stmt} {w : Sign} {e : ReadError} → held ss (code K.CloseBrace ∷ []) ≡ false →
    Reading (Row (N.Statement Full)) T.statement_of ss s a → Takes (code K.Semicolon ∷ []) a w b → StopsAt (Row N.Statements) b e →
    StopsAt (Row N.Statements) ss e
statements_more_stops h r q s = stops_row (stop_past (code K.CloseBrace ∷ []) h refl refl refl (stops_next r.ends (stops_row (more_stops q s))))

pub statements_value : {place : Place} (items : List Stmt) {ss a rest : List Sign} {s : Stmt} {k : Sign} {more : List Stmt} {z : Exp} →
    held ss (code K.CloseBrace ∷ []) ≡ false → Reading (Row (N.Statement Full)) T.statement_of ss s a → held a (code K.Semicolon ∷ []) ≡ false →
    Takes (code K.CloseBrace ∷ []) a k rest → more ≡ items ++ s ∷ [] → z ≡ T.block_of_parts place (T.part_last more) →
    Reading (Row N.Statements) (statements_behind place items) ss z rest
statements_value {place = place} items {a = a} {k = k} h r n q l e = record {
  tree = Right (Pair r.tree (Right (Leaf k)));
  ends = row_ends (go_past (code K.CloseBrace ∷ []) h refl refl refl (both_read r.ends (row_ends (right_read
      (past_word (code K.Semicolon ∷ []) (Row N.Statements) (word K.CloseBrace) a refl n) q))));
  shows = (λ i. T.block_of_parts place (T.part_last (((λ j. items ++ r.shows j ∷ []) ∙ sym l) i))) ∙ sym e;
}

pub statements_value_stops : {ss a : List Sign} {s : Stmt} {e : ReadError} → held ss (code K.CloseBrace ∷ []) ≡ false →
    Reading (Row (N.Statement Full)) T.statement_of ss s a → held a (code K.Semicolon ∷ []) ≡ false → StopsAt (Word (code K.CloseBrace ∷ [])) a e →
    StopsAt (Row N.Statements) ss e
statements_value_stops {a = a} h r n s = stops_row (stop_past (code K.CloseBrace ∷ []) h refl refl refl (stops_next r.ends (stops_row (stops_right
    (past_word (code K.Semicolon ∷ []) (Row N.Statements) (word K.CloseBrace) a refl n) s))))

-- one statement, by its first token
pub statement_let : {m : Mode} {ss rest : List Sign} {z : Stmt} → held ss (code K.Let ∷ []) ≡ true →
    Reading (Row (N.LetStatement m)) T.let_statement_of ss z rest → Reading (Row (N.Statement m)) T.statement_of ss z rest
statement_let h x = record { tree = Left x.tree; ends = row_ends (go_left (code K.Let ∷ []) h refl x.ends); shows = x.shows }

pub statement_let_stops : {m : Mode} {ss : List Sign} {e : ReadError} → held ss (code K.Let ∷ []) ≡ true → StopsAt (Row (N.LetStatement m)) ss e →
    StopsAt (Row (N.Statement m)) ss e
statement_let_stops h s = stops_row (stop_left (code K.Let ∷ []) h refl s)

pub statement_var : {m : Mode} {ss rest : List Sign} {z : Stmt} → held ss (code K.Var ∷ []) ≡ true →
    Reading (Row (N.VarStatement m)) T.var_statement_of ss z rest → Reading (Row (N.Statement m)) T.statement_of ss z rest
statement_var h x = record {
  tree = Right (Left x.tree);
  ends = row_ends (go_right (code K.Var ∷ []) h refl (go_left (code K.Var ∷ []) h refl x.ends));
  shows = x.shows;
}

pub statement_var_stops : {m : Mode} {ss : List Sign} {e : ReadError} → held ss (code K.Var ∷ []) ≡ true → StopsAt (Row (N.VarStatement m)) ss e →
    StopsAt (Row (N.Statement m)) ss e
statement_var_stops h s = stops_row (stop_right (code K.Var ∷ []) h refl (stop_left (code K.Var ∷ []) h refl s))

pub statement_inner : {m : Mode} {ss rest : List Sign} {z : Exp} → held ss (code K.Let ∷ []) ≡ false → held ss (code K.Var ∷ []) ≡ false →
    Reading (Row (N.ExpInner m)) T.inner_of ss z rest → Reading (Row (N.Statement m)) T.statement_of ss (S.Evaluate z) rest
statement_inner h0 h1 x = record {
  tree = Right (Right x.tree);
  ends = row_ends (go_past (code K.Let ∷ []) h0 refl refl refl (go_past (code K.Var ∷ []) h1 refl refl refl (x.ends)));
  shows = λ i. S.Evaluate (x.shows i);
}

pub statement_inner_stops : {m : Mode} {ss : List Sign} {e : ReadError} → held ss (code K.Let ∷ []) ≡ false → held ss (code K.Var ∷ []) ≡ false →
    StopsAt (Row (N.ExpInner m)) ss e → StopsAt (Row (N.Statement m)) ss e
statement_inner_stops h0 h1 s = stops_row (stop_past (code K.Let ∷ []) h0 refl refl refl (stop_past (code K.Var ∷ []) h1 refl refl refl (s)))

pub let_statement_some : {m : Mode} {ss a b c d f rest : List Sign} {w q v : Sign} {p : Pat} {x y z : Exp} → Takes (code K.Let ∷ []) ss w a →
    Reading (Row (N.Pattern Full)) pattern_of a p b → Takes (code K.Equal ∷ []) b q c → Reading (Row (N.Exp m)) T.exp_of c x d →
    Takes (code K.In ∷ []) d v f → Reading (Row (N.Exp m)) T.exp_of f y rest → z ≡ V.Let w.place p x y →
    Reading (Row (N.LetStatement m)) T.let_statement_of ss (S.Evaluate z) rest
let_statement_some {w = w} {q = q} {v = v} r0 r1 r2 r3 r4 r5 e = record {
  tree = Pair (Leaf w) (Pair r1.tree (Pair (Leaf q) (Pair r3.tree (Left (Pair (Leaf v) r5.tree)))));
  ends = row_ends (both_read r0 (both_read r1.ends (both_read r2 (some_ends r3.ends r4 r5.ends))));
  shows = (λ i. S.Evaluate (V.Let w.place (r1.shows i) (r3.shows i) (r5.shows i))) ∙ (λ i. S.Evaluate (sym e i));
}

pub let_statement_none : {m : Mode} {ss a b c d : List Sign} {w q : Sign} {p : Pat} {x : Exp} → Takes (code K.Let ∷ []) ss w a →
    Reading (Row (N.Pattern Full)) pattern_of a p b → Takes (code K.Equal ∷ []) b q c → Reading (Row (N.Exp m)) T.exp_of c x d →
    held d (code K.In ∷ []) ≡ false → Reading (Row (N.LetStatement m)) T.let_statement_of ss (S.Define w.place p x) d
let_statement_none {w = w} {q = q} r0 r1 r2 r3 h = record {
  tree = Pair (Leaf w) (Pair r1.tree (Pair (Leaf q) (Pair r3.tree (Right Nothing))));
  ends = row_ends (both_read r0 (both_read r1.ends (both_read r2 (none_ends r3.ends refl h))));
  shows = λ i. S.Define w.place (r1.shows i) (r3.shows i);
}

pub var_statement_some : {m : Mode} {ss a b c d f g rest : List Sign} {w j q v : Sign} {t : Option TyExp} {n : Name} {x y z : Exp} →
    Takes (code K.Var ∷ []) ss w a → Takes identifiers a j b → Reading (word K.Colon then Row (N.Typ Full) or nothing) T.typ_if b t c →
    Takes (code K.Equal ∷ []) c q d → Reading (Row (N.Exp m)) T.exp_of d x f → n ≡ spelled j → Takes (code K.In ∷ []) f v g →
    Reading (Row (N.Exp m)) T.exp_of g y rest → z ≡ V.Var w.place n t x y → Reading (Row (N.VarStatement m)) T.var_statement_of ss (S.Evaluate z) rest
var_statement_some {w = w} {j = j} {q = q} {v = v} r0 r1 r2 r3 r4 en r5 r6 e = record {
  tree = Pair (Leaf w) (Pair (Leaf j) (Pair r2.tree (Pair (Leaf q) (Pair r4.tree (Left (Pair (Leaf v) r6.tree))))));
  ends = row_ends (both_read r0 (both_read r1 (both_read r2.ends (both_read r3 (some_ends r4.ends r5 r6.ends)))));
  shows = (λ i. S.Evaluate (V.Var w.place (sym en i) (r2.shows i) (r4.shows i) (r6.shows i))) ∙ (λ i. S.Evaluate (sym e i));
}

pub var_statement_none : {m : Mode} {ss a b c d f : List Sign} {w j q : Sign} {t : Option TyExp} {n : Name} {x : Exp} →
    Takes (code K.Var ∷ []) ss w a → Takes identifiers a j b → Reading (word K.Colon then Row (N.Typ Full) or nothing) T.typ_if b t c →
    Takes (code K.Equal ∷ []) c q d → Reading (Row (N.Exp m)) T.exp_of d x f → n ≡ spelled j → held f (code K.In ∷ []) ≡ false →
    Reading (Row (N.VarStatement m)) T.var_statement_of ss (S.Declare w.place n t x) f
var_statement_none {w = w} {j = j} {q = q} r0 r1 r2 r3 r4 en h = record {
  tree = Pair (Leaf w) (Pair (Leaf j) (Pair r2.tree (Pair (Leaf q) (Pair r4.tree (Right Nothing)))));
  ends = row_ends (both_read r0 (both_read r1 (both_read r2.ends (both_read r3 (none_ends r4.ends refl h)))));
  shows = λ i. S.Declare w.place (sym en i) (r2.shows i) (r4.shows i);
}

-- values of fields
pub value_all : {m : Mode} {ss a0 a1 rest : List Sign} {s0 s1 : Sign} {x2 : Exp} {n : Name} → Takes (identifiers) ss s0 a0 →
    Takes (code K.Equal ∷ []) a0 s1 a1 → Reading (Row (N.Exp m)) T.exp_of a1 x2 rest → n ≡ spelled s0 →
    Reading (Row (N.FieldValue m)) T.value_of ss (roll-FieldValue (record { name = n; value = x2 })) rest
value_all {s0 = s0} {s1 = s1} r0 r1 r2 en = record {
  tree = Pair (Leaf s0) (Pair (Leaf s1) r2.tree);
  ends = row_ends (both_read r0 (both_read r1 r2.ends));
  shows = (λ i. roll-FieldValue (record { name = (sym en i); value = (r2.shows i) }));
}

pub values_all : {m : Mode} {ss a rest : List Sign} {v : FieldValue} {list z : List FieldValue} → Reading (Row (N.FieldValue m)) T.value_of ss v a →
    list ≡ v ∷ [] → Reading (Row (N.FieldValuesTail m)) (values_behind list) a z rest → Reading (Row (N.FieldValues m)) T.values_of ss z rest
values_all f l t = record {
  tree = Pair f.tree t.tree;
  ends = row_ends (both_read f.ends t.ends);
  shows = (λ i. f.shows i ∷ T.values_tail t.tree) ∙ (λ i. sym l i ++ T.values_tail t.tree) ∙ t.shows;
}

pub values_more : {m : Mode} (items : List FieldValue) {ss a b rest : List Sign} {o : Sign} {v : FieldValue} {more z : List FieldValue} →
    Takes (code K.Comma ∷ []) ss o a → held a identifiers ≡ true → Reading (Row (N.FieldValue m)) T.value_of a v b → more ≡ items ++ v ∷ [] →
    Reading (Row (N.FieldValuesTail m)) (values_behind more) b z rest → Reading (Row (N.FieldValuesTail m)) (values_behind items) ss z rest
values_more items {o = o} {v = v} w h f l t = record {
  tree = Left (Pair (Leaf o) (Left (Pair f.tree t.tree)));
  ends = row_ends (more_ends w (row_ends (go_left identifiers h refl (both_read f.ends t.ends))));
  shows = (λ i. items ++ f.shows i ∷ T.values_tail t.tree) ∙ (sym (append_assoc items (v ∷ []) (T.values_tail t.tree)) ∙
      (λ i. sym l i ++ T.values_tail t.tree)) ∙ t.shows;
}

pub values_more_stops : {m : Mode} {ss a b : List Sign} {o : Sign} {v : FieldValue} {e : ReadError} → Takes (code K.Comma ∷ []) ss o a →
    held a identifiers ≡ true → Reading (Row (N.FieldValue m)) T.value_of a v b → StopsAt (Row (N.FieldValuesTail m)) b e →
    StopsAt (Row (N.FieldValuesTail m)) ss e
values_more_stops w h f s = stops_row (more_stops w (stops_row (stop_left identifiers h refl (stops_next f.ends s))))

pub value_stops : {m : Mode} {ss a : List Sign} {o : Sign} {e : ReadError} → Takes (code K.Comma ∷ []) ss o a → held a identifiers ≡ true →
    StopsAt (Row (N.FieldValue m)) a e → StopsAt (Row (N.FieldValuesTail m)) ss e
value_stops w h s = stops_row (more_stops w (stops_row (stop_left identifiers h refl (stops_first s))))

pub values_comma_stops : {m : Mode} {ss : List Sign} {e : ReadError} → held ss (code K.Comma ∷ []) ≡ true → StopsAt (Word (code K.Comma ∷ [])) ss e →
    StopsAt (Row (N.FieldValuesTail m)) ss e
values_comma_stops h s = stops_row (stop_left (code K.Comma ∷ []) h refl (stops_first s))

pub values_last : {m : Mode} (items : List FieldValue) {ss a : List Sign} {o : Sign} → Takes (code K.Comma ∷ []) ss o a → held a identifiers ≡ false →
    Reading (Row (N.FieldValuesTail m)) (values_behind items) ss items a
values_last {m = m} items {a = a} {o = o} w h = record {
  tree = Left (Pair (Leaf o) (Right Nothing));
  ends = row_ends (more_ends w (row_ends (right_read (right_nothing (Row (N.FieldValue m) then Row (N.FieldValuesTail m)) a
      (ap (λ v. v || false) (held_none identifiers a refl h))) (empty_read (none_in a)))));
  shows = append-nil items;
}

pub values_none : {m : Mode} (items : List FieldValue) {ss : List Sign} → held ss (code K.Comma ∷ []) ≡ false →
    Reading (Row (N.FieldValuesTail m)) (values_behind items) ss items ss
values_none items h = record {
  tree = Right Nothing;
  ends = row_ends (no_more_ends refl h);
  shows = append-nil items;
}

-- `{ e with .. }`, where a block is forbidden
abbrev end_symbols : List ℕ
end_symbols = code K.Semicolon ∷ code K.CloseBrace ∷ []

abbrev closes : List ℕ
closes = code K.CloseBrace ∷ []

abbrev first_part : Form
first_part = Guard (Row (N.Statement Limited)) is_exp with_symbols then (Forbid end_symbols or nothing)

abbrev opened : Form
opened = word K.OpenBrace then (Forbid closes or first_part)

-- a form that is held stops where it does, and is forbidden from its first token on
hold_stops : {a : Form} {ss : List Sign} {e : ReadError} → StopsAt a ss e → StopsAt (Hold a) ss (held_from e (length ss))
hold_stops {a = a} {ss = ss} {e = e} s = record { why = tell e s.why } where
  shut : {n : ℕ} (rest : List Sign) (begun : Option (List Sign)) → Ends grammar a ss (Stop rest begun) → n ≡ length rest → None ≡ lengths begun →
      Stopping (Hold a) ss n None
  shut rest None r l f = record { rest = rest; begun = None; ends = hold_stop r; left_is = l; from_is = refl }
  shut rest (Some x) r l f = absurd (true≢false (sym (ap is_some f)))

  barred : {n m : ℕ} (rest : List Sign) (begun : Option (List Sign)) → Ends grammar a ss (Stop rest begun) → n ≡ length rest → Some m ≡ lengths begun →
      Stopping (Hold a) ss n (Some (length ss))
  barred rest None r l f = absurd (true≢false (ap is_some f))
  barred rest (Some x) r l f = record { rest = rest; begun = Some ss; ends = hold_bar r; left_is = l; from_is = refl }

  tell : (e : ReadError) → Tells a ss e → Tells (Hold a) ss (held_from e (length ss))
  tell (Unfit n) w = shut w.rest w.begun w.ends w.left_is w.from_is
  tell (Forbidden n m) w = barred w.rest w.begun w.ends w.left_is w.from_is
  tell OutOfMemory w = tt

forbids : (ks : List ℕ) (ss : List Sign) → held ss ks ≡ true → Ends grammar (Forbid ks) ss (Stop ss (Some ss))
forbids ks [] h = absurd (true≢false (sym h))
forbids ks (s ∷ ss) h = forbid_bar h

word_held : {ks : List ℕ} {b : Form} {ss rest : List Sign} {from : Option (List Sign)} → Ends grammar (Word ks) ss (Stop rest from) →
    Ends grammar (Hold (Word ks then b)) ss (Stop rest from)
word_held (word_stop h) = hold_stop (first_stop (word_stop h))

pub with_bracket_stops : {ss : List Sign} {e : ReadError} → StopsAt (Word (code K.OpenBrace ∷ [])) ss e → StopsAt (Row (N.Block Limited)) ss e
with_bracket_stops s = stops_row (carry (λ rest from h. first_stop (word_held h)) s)

pub with_empty : {ss a : List Sign} {o : Sign} {n k : ℕ} → Takes (code K.OpenBrace ∷ []) ss o a → held a closes ≡ true → n ≡ length a →
    k ≡ length ss → StopsAt (Row (N.Block Limited)) ss (Forbidden n k)
with_empty {ss = ss} {a = a} w h l o = stops_row (record {
  why = record {
    rest = a;
    begun = Some ss;
    ends = first_stop (hold_bar (next_stop w (left_stop (held_every (may_left grammar (Forbid closes) first_part) closes a h refl) (forbids closes a h))));
    left_is = l;
    from_is = λ i. Some (o i);
  };
})

opened_first_stops : {ss a : List Sign} {o : Sign} {e : ReadError} → Takes (code K.OpenBrace ∷ []) ss o a → held a closes ≡ false →
    StopsAt (Row (N.Statement Limited)) a e → StopsAt opened ss e
opened_first_stops w h s = stops_next w (stop_past closes h refl refl refl (stops_first (guarded_stops s)))

pub with_statement_stops : {ss a : List Sign} {o : Sign} {n : ℕ} {e : ReadError} → Takes (code K.OpenBrace ∷ []) ss o a → held a closes ≡ false →
    n ≡ length ss → StopsHeld (Row (N.Statement Limited)) a n e → StopsAt (Row (N.Block Limited)) ss e
with_statement_stops {ss = ss} w h l s = stops_row (stops_first (subst (StopsAt (Hold opened) ss) (sym (s.held ∙ ap (held_from s.error) l)) (hold_stops
    (opened_first_stops w h s.stops))))

-- at the end of a block no `with` comes
not_with : (ss : List Sign) → held ss end_symbols ≡ true → held ss with_symbols ≡ false
not_with [] h = refl
not_with (s ∷ ss) h = not_true (among with_symbols (symbol s)) (every_at (λ c. not (among with_symbols c)) end_symbols (symbol s) refl h) where
  not_true : (b : Bool) → not b ≡ true → b ≡ false
  not_true true e = absurd (true≢false (sym e))
  not_true false e = refl

pub with_forbidden : {ss a b : List Sign} {o : Sign} {s : Stmt} {n k : ℕ} → Takes (code K.OpenBrace ∷ []) ss o a → held a closes ≡ false →
    Reading (Row (N.Statement Limited)) T.statement_of a s b → held b end_symbols ≡ true → n ≡ length b → k ≡ length ss →
    StopsAt (Row (N.Block Limited)) ss (Forbidden n k)
with_forbidden {ss = ss} {a = a} {b = b} w h r f l o = stops_row (record {
  why = record {
    rest = b;
    begun = Some ss;
    ends = first_stop (hold_bar (next_stop w (right_stop (skip (Forbid closes) first_part (look a) (held_none closes a refl h) refl)
        (next_stop (guarded_none r (not_with b f)) (left_stop (held_every (may_left grammar (Forbid end_symbols) nothing) end_symbols b f refl)
        (forbids end_symbols b f))))));
    left_is = l;
    from_is = λ i. Some (o i);
  };
})

-- behind a statement that is none of those: nothing, and a `with` is awaited
opened_read : {ss a b : List Sign} {o : Sign} {t : Tree} → Takes (code K.OpenBrace ∷ []) ss o a → held a closes ≡ false →
    Ends grammar (Guard (Row (N.Statement Limited)) is_exp with_symbols) a (Done t b) → held b end_symbols ≡ false →
    Ends grammar (Hold opened) ss (Done (Pair (Leaf o) (Right (Pair t (Right Nothing)))) b)
opened_read {b = b} w h g f = hold_read (both_read w (go_past closes h refl refl refl (both_read g (right_read (right_nothing (Forbid end_symbols) b
    (held_none end_symbols b refl f)) (empty_read (none_in b))))))

pub with_unfit : {ss a b : List Sign} {o : Sign} {s : Stmt} {n : ℕ} → Takes (code K.OpenBrace ∷ []) ss o a → held a closes ≡ false →
    Reading (Row (N.Statement Limited)) T.statement_of a s b → held b end_symbols ≡ false → T.value_if s ≡ None → n ≡ length b →
    StopsAt (Row (N.Block Limited)) ss (Unfit n)
with_unfit {ss = ss} {a = a} {b = b} {o = o} w h r f v l = stops_row (record {
  why = record { rest = b; begun = None; ends = by_next (held b with_symbols) refl; left_is = l; from_is = refl };
}) where
  by_next : (c : Bool) → held b with_symbols ≡ c → Ends grammar (grammar.rule (N.Block Limited)) ss (Stop b None)
  by_next true k = first_stop (hold_stop (next_stop w (right_stop (skip (Forbid closes) first_part (look a) (held_none closes a refl h) refl)
      (first_stop (guard_shut (pass_not is_exp with_symbols r.tree b (is_exp_of r v) k) r.ends)))))
  by_next false k = next_stop (opened_read w h (guarded_none r k) f) (first_stop (word_stop k))

pub with_all : {ss a b c d rest : List Sign} {o q k : Sign} {s : Stmt} {x z : Exp} {vs : List FieldValue} → Takes (code K.OpenBrace ∷ []) ss o a →
    held a closes ≡ false → Reading (Row (N.Statement Limited)) T.statement_of a s b → held b end_symbols ≡ false → T.value_if s ≡ Some x →
    Takes with_symbols b q c → Reading (Row (N.FieldValues Limited)) T.values_of c vs d → Takes (code K.CloseBrace ∷ []) d k rest →
    z ≡ V.With o.place x vs → Reading (Row (N.Block Limited)) T.block_of ss z rest
with_all {o = o} {q = q} {k = k} w h r f v u g d e = record {
  tree = Pair (Pair (Leaf o) (Right (Pair r.tree (Right Nothing)))) (Pair (Leaf q) (Pair g.tree (Leaf k)));
  ends = row_ends (both_read (opened_read w h (guarded_with r v) f) (both_read u (both_read g.ends d)));
  shows = (λ i. V.With o.place (T.exp_or (((λ j. T.value_if (r.shows j)) ∙ v) i)) (g.shows i)) ∙ sym e;
}

pub with_rest_stops : {ss a b : List Sign} {o : Sign} {s : Stmt} {x : Exp} {e : ReadError} → Takes (code K.OpenBrace ∷ []) ss o a →
    held a closes ≡ false → Reading (Row (N.Statement Limited)) T.statement_of a s b → held b end_symbols ≡ false → T.value_if s ≡ Some x →
    StopsAt (word K.With then Row (N.FieldValues Limited) then word K.CloseBrace) b e → StopsAt (Row (N.Block Limited)) ss e
with_rest_stops w h r f v s = stops_row (stops_next (opened_read w h (guarded_with r v) f) s)

pub held_stop_of : {f : Form} {ss : List Sign} {n : ℕ} {d e : ReadError} → StopsAt f ss d → e ≡ held_from d n → StopsHeld f ss n e
held_stop_of {d = d} s h = record { error = d; stops = s; held = h }
