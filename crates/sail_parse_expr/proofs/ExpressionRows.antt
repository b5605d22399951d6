-- The rows of whole expressions: the reading of a form is one of the row.
use Rattle.std.proofs.Common.{◌≡◌, true, false, List, [], ◌∷◌, refl, sym, subst}
use Rattle.sail_lex.specs.declared.kind.TokenKind.TheVariants as K
use Rattle.sail_syntax.specs.declared.expressions.Exp.{Exp}
use Rattle.sail_grammar.specs.declared.error.ReadError.{ReadError}
use Rattle.sail_grammar.specs.declared.mode.Mode.{Mode}
use Rattle.sail_grammar.specs.Symbol.{Sign, code}
use Rattle.sail_grammar.specs.RowName as N
use Rattle.sail_grammar.specs.Form.{Row, Left, Right, held}
use Rattle.sail_grammar.specs.Ends.{row_ends}
use Rattle.sail_grammar.specs.Parsing.{Reading, StopsAt}
use Rattle.sail_grammar.specs.ExpTrees as T
use Rattle.sail_grammar.proofs.Steps.{stops_row}
use Rattle.sail_parse_tp.proofs.Choices.{go_left, go_right, go_past, stop_left, stop_right, stop_past}
use Rattle.sail_parse_forms.specs.declared.grammar.Part.{Part}
use Rattle.sail_parse_forms.specs.Parses.{row_of, tree_of}
use Rattle.sail_parse_forms.proofs.FormRows.{control_symbols}

-- an expression, by its first token
pub exp_let : {m : Mode} {ss rest : List Sign} {z : Exp} → held ss (code K.Let ∷ []) ≡ true → Reading (Row (N.LetIn m)) T.let_of ss z rest →
    Reading (Row (N.Exp m)) T.exp_of ss z rest
exp_let h x = record { tree = Left x.tree; ends = row_ends (go_left (code K.Let ∷ []) h refl x.ends); shows = x.shows }

pub exp_let_stops : {m : Mode} {ss : List Sign} {e : ReadError} → held ss (code K.Let ∷ []) ≡ true → StopsAt (Row (N.LetIn m)) ss e →
    StopsAt (Row (N.Exp m)) ss e
exp_let_stops h s = stops_row (stop_left (code K.Let ∷ []) h refl s)

pub exp_var : {m : Mode} {ss rest : List Sign} {z : Exp} → held ss (code K.Var ∷ []) ≡ true → Reading (Row (N.VarIn m)) T.var_of ss z rest →
    Reading (Row (N.Exp m)) T.exp_of ss z rest
exp_var h x = record {
  tree = Right (Left x.tree);
  ends = row_ends (go_right (code K.Var ∷ []) h refl (go_left (code K.Var ∷ []) h refl x.ends));
  shows = x.shows;
}

pub exp_var_stops : {m : Mode} {ss : List Sign} {e : ReadError} → held ss (code K.Var ∷ []) ≡ true → StopsAt (Row (N.VarIn m)) ss e →
    StopsAt (Row (N.Exp m)) ss e
exp_var_stops h s = stops_row (stop_right (code K.Var ∷ []) h refl (stop_left (code K.Var ∷ []) h refl s))

pub exp_inner : {m : Mode} {ss rest : List Sign} {z : Exp} → held ss (code K.Let ∷ []) ≡ false → held ss (code K.Var ∷ []) ≡ false →
    Reading (Row (N.ExpInner m)) T.inner_of ss z rest → Reading (Row (N.Exp m)) T.exp_of ss z rest
exp_inner h0 h1 x = record {
  tree = Right (Right x.tree);
  ends = row_ends (go_past (code K.Let ∷ []) h0 refl refl refl (go_past (code K.Var ∷ []) h1 refl refl refl (x.ends)));
  shows = x.shows;
}

pub exp_inner_stops : {m : Mode} {ss : List Sign} {e : ReadError} → held ss (code K.Let ∷ []) ≡ false → held ss (code K.Var ∷ []) ≡ false →
    StopsAt (Row (N.ExpInner m)) ss e → StopsAt (Row (N.Exp m)) ss e
exp_inner_stops h0 h1 s = stops_row (stop_past (code K.Let ∷ []) h0 refl refl refl (stop_past (code K.Var ∷ []) h1 refl refl refl (s)))

pub inner_if : {m : Mode} {ss rest : List Sign} {z : Exp} → held ss (code K.If ∷ []) ≡ true → Reading (Row (N.If m)) T.if_of ss z rest →
    Reading (Row (N.ExpInner m)) T.inner_of ss z rest
inner_if h x = record { tree = Left x.tree; ends = row_ends (go_left (code K.If ∷ []) h refl x.ends); shows = x.shows }

pub inner_if_stops : {m : Mode} {ss : List Sign} {e : ReadError} → held ss (code K.If ∷ []) ≡ true → StopsAt (Row (N.If m)) ss e →
    StopsAt (Row (N.ExpInner m)) ss e
inner_if_stops h s = stops_row (stop_left (code K.If ∷ []) h refl s)

pub inner_match : {m : Mode} {ss rest : List Sign} {z : Exp} → held ss (code K.Match ∷ []) ≡ true → Reading (Row (N.Match m)) T.match_of ss z rest →
    Reading (Row (N.ExpInner m)) T.inner_of ss z rest
inner_match h x = record {
  tree = Right (Left x.tree);
  ends = row_ends (go_right (code K.Match ∷ []) h refl (go_left (code K.Match ∷ []) h refl x.ends));
  shows = x.shows;
}

pub inner_match_stops : {m : Mode} {ss : List Sign} {e : ReadError} → held ss (code K.Match ∷ []) ≡ true → StopsAt (Row (N.Match m)) ss e →
    StopsAt (Row (N.ExpInner m)) ss e
inner_match_stops h s = stops_row (stop_right (code K.Match ∷ []) h refl (stop_left (code K.Match ∷ []) h refl s))

pub inner_control : {m : Mode} {ss rest : List Sign} {z : Exp} → held ss control_symbols ≡ true → Reading (Row (N.Control m)) T.control_of ss z rest →
    Reading (Row (N.ExpInner m)) T.inner_of ss z rest
inner_control h x = record {
  tree = Right (Right (Left x.tree));
  ends = row_ends (go_right control_symbols h refl (go_right control_symbols h refl (go_left control_symbols h refl x.ends)));
  shows = x.shows;
}

pub inner_control_stops : {m : Mode} {ss : List Sign} {e : ReadError} → held ss control_symbols ≡ true → StopsAt (Row (N.Control m)) ss e →
    StopsAt (Row (N.ExpInner m)) ss e
inner_control_stops h s = stops_row (stop_right control_symbols h refl (stop_right control_symbols h refl (stop_left control_symbols h refl s)))

pub inner_assignment : {m : Mode} {ss rest : List Sign} {z : Exp} → held ss (code K.If ∷ []) ≡ false → held ss (code K.Match ∷ []) ≡ false →
    held ss control_symbols ≡ false → Reading (Row (N.Assignment m)) T.assignment_of ss z rest → Reading (Row (N.ExpInner m)) T.inner_of ss z rest
inner_assignment h0 h1 h2 x = record {
  tree = Right (Right (Right x.tree));
  ends = row_ends (go_past (code K.If ∷ []) h0 refl refl refl (go_past (code K.Match ∷ []) h1 refl refl refl
      (go_past control_symbols h2 refl refl refl (x.ends))));
  shows = x.shows;
}

pub inner_assignment_stops : {m : Mode} {ss : List Sign} {e : ReadError} → held ss (code K.If ∷ []) ≡ false → held ss (code K.Match ∷ []) ≡ false →
    held ss control_symbols ≡ false → StopsAt (Row (N.Assignment m)) ss e → StopsAt (Row (N.ExpInner m)) ss e
inner_assignment_stops h0 h1 h2 s =
    stops_row (stop_past (code K.If ∷ []) h0 refl refl refl (stop_past (code K.Match ∷ []) h1 refl refl refl (stop_past control_symbols h2 refl refl refl (s))))

-- the row of a part
pub part_in : (m : Mode) {p q : Part} {ss rest : List Sign} {z : Exp} → p ≡ q → Reading (Row (row_of q m)) (tree_of q) ss z rest →
    Reading (Row (row_of p m)) (tree_of p) ss z rest
part_in m {ss = ss} {rest = rest} {z = z} e r = subst (λ p. Reading (Row (row_of p m)) (tree_of p) ss z rest) (sym e) r

pub part_in_stops : (m : Mode) {p q : Part} {ss : List Sign} {e : ReadError} → p ≡ q → StopsAt (Row (row_of q m)) ss e → StopsAt (Row (row_of p m)) ss e
part_in_stops m {ss = ss} {e = x} e s = subst (λ p. StopsAt (Row (row_of p m)) ss x) (sym e) s
