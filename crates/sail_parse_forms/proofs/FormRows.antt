-- The rows of forms that begin with a word: the readings of the parts join to the reading of a row.
use Rattle.std.proofs.Common.{◌≡◌, ℕ, ◌++◌, true, false, List, [], ◌∷◌, refl, sym, ◌∙◌, ap, append_assoc, append-nil}
use Rattle.std.specs.Prelude.{Option, Some, None, ◌||◌}
use Rattle.sail_lex.specs.declared.kind.TokenKind.TheVariants as K
use Rattle.sail_syntax.specs.declared.name.Name.{Name}
use Rattle.sail_syntax.specs.declared.words.Choosing.TheVariants as C
use Rattle.sail_syntax.specs.declared.types.TyExp.{TyExp}
use Rattle.sail_syntax.specs.declared.patterns.Pat.{Pat}
use Rattle.sail_syntax.specs.declared.expressions.Exp.{Exp}
use Rattle.sail_syntax.specs.declared.expressions.Exp.TheVariants as V
use Rattle.sail_syntax.specs.declared.expressions.Case.{Case, roll-Case}
use Rattle.sail_grammar.specs.declared.error.ReadError.{ReadError}
use Rattle.sail_grammar.specs.declared.mode.Mode.{Mode}
use Rattle.sail_grammar.specs.declared.mode.Mode.TheVariants.{Full}
use Rattle.sail_grammar.specs.Symbol.{Sign, code, identifiers}
use Rattle.sail_grammar.specs.RowName as N
use Rattle.sail_grammar.specs.Form.{Word, Empty, Row, ◌or◌, ◌then◌, Nothing, Leaf, Pair, Left, Right, held, look}
use Rattle.sail_grammar.specs.Ends.{both_read, row_ends, right_read, empty_read}
use Rattle.sail_grammar.specs.Table.{nothing, word}
use Rattle.sail_grammar.specs.Parsing.{Reading, Takes, StopsAt}
use Rattle.sail_grammar.specs.PatternTrees.{pattern_of}
use Rattle.sail_grammar.specs.ExpTrees as T
use Rattle.sail_grammar.proofs.Steps.{stops_row, stops_first, stops_next, stops_right, more_ends, no_more_ends, more_stops, held_none, takes_held, skip}
use Rattle.sail_parse_tp.proofs.Choices.{go_left, go_past, stop_left, stop_past, past_word}
use Rattle.sail_parse_forms.specs.Behind.{cases_behind}

abbrev pub spelled : Sign → Name
spelled s = record { place = s.place; text = s.text }

abbrev pub control_symbols : List ℕ
control_symbols = code K.Exit ∷ code K.Foreach ∷ code K.Repeat ∷ code K.Return ∷ code K.Throw ∷ code K.Try ∷ code K.While ∷ []

-- straight rows
pub let_all : {m : Mode} {ss a0 a1 a2 a3 a4 rest : List Sign} {s0 s2 s4 : Sign} {x1 : Pat} {x3 : Exp} {x5 : Exp} {z : Exp} →
    Takes (code K.Let ∷ []) ss s0 a0 → Reading (Row (N.Pattern Full)) pattern_of a0 x1 a1 → Takes (code K.Equal ∷ []) a1 s2 a2 →
    Reading (Row (N.Exp m)) T.exp_of a2 x3 a3 → Takes (code K.In ∷ []) a3 s4 a4 → Reading (Row (N.Exp m)) T.exp_of a4 x5 rest →
    z ≡ V.Let s0.place x1 x3 x5 → Reading (Row (N.LetIn m)) T.let_of ss z rest
let_all {s0 = s0} {s2 = s2} {s4 = s4} r0 r1 r2 r3 r4 r5 e = record {
  tree = Pair (Leaf s0) (Pair r1.tree (Pair (Leaf s2) (Pair r3.tree (Pair (Leaf s4) r5.tree))));
  ends = row_ends (both_read r0 (both_read r1.ends (both_read r2 (both_read r3.ends (both_read r4 r5.ends)))));
  shows = (λ i. V.Let s0.place (r1.shows i) (r3.shows i) (r5.shows i)) ∙ sym e;
}

pub var_all : {m : Mode} {ss a0 a1 a2 a3 a4 a5 rest : List Sign} {s0 s1 s3 s5 : Sign} {x2 : Option TyExp} {x4 : Exp} {x6 : Exp} {n : Name} {z : Exp} →
    Takes (code K.Var ∷ []) ss s0 a0 → Takes (identifiers) a0 s1 a1 → Reading (word K.Colon then Row (N.Typ Full) or nothing) T.typ_if a1 x2 a2 →
    Takes (code K.Equal ∷ []) a2 s3 a3 → Reading (Row (N.Exp m)) T.exp_of a3 x4 a4 → Takes (code K.In ∷ []) a4 s5 a5 →
    Reading (Row (N.Exp m)) T.exp_of a5 x6 rest → n ≡ spelled s1 → z ≡ V.Var s0.place n x2 x4 x6 → Reading (Row (N.VarIn m)) T.var_of ss z rest
var_all {s0 = s0} {s1 = s1} {s3 = s3} {s5 = s5} r0 r1 r2 r3 r4 r5 r6 en e = record {
  tree = Pair (Leaf s0) (Pair (Leaf s1) (Pair r2.tree (Pair (Leaf s3) (Pair r4.tree (Pair (Leaf s5) r6.tree)))));
  ends = row_ends (both_read r0 (both_read r1 (both_read r2.ends (both_read r3 (both_read r4.ends (both_read r5 r6.ends))))));
  shows = (λ i. V.Var s0.place (sym en i) (r2.shows i) (r4.shows i) (r6.shows i)) ∙ sym e;
}

pub if_all : {m : Mode} {ss a0 a1 a2 a3 rest : List Sign} {s0 s2 : Sign} {x1 : Exp} {x3 : Exp} {x4 : Option Exp} {z : Exp} →
    Takes (code K.If ∷ []) ss s0 a0 → Reading (Row (N.Exp m)) T.exp_of a0 x1 a1 → Takes (code K.Then ∷ []) a1 s2 a2 →
    Reading (Row (N.Exp m)) T.exp_of a2 x3 a3 → Reading (word K.Else then Row (N.Exp m) or Empty (code K.Else ∷ [])) T.behind_word a3 x4 rest →
    z ≡ V.If s0.place x1 x3 x4 → Reading (Row (N.If m)) T.if_of ss z rest
if_all {s0 = s0} {s2 = s2} r0 r1 r2 r3 r4 e = record {
  tree = Pair (Leaf s0) (Pair r1.tree (Pair (Leaf s2) (Pair r3.tree r4.tree)));
  ends = row_ends (both_read r0 (both_read r1.ends (both_read r2 (both_read r3.ends r4.ends))));
  shows = (λ i. V.If s0.place (r1.shows i) (r3.shows i) (r4.shows i)) ∙ sym e;
}

pub match_all : {m : Mode} {ss a0 a1 rest : List Sign} {s0 : Sign} {x1 : Exp} {x2 : List Case} {z : Exp} → Takes (code K.Match ∷ []) ss s0 a0 →
    Reading (Row (N.Exp m)) T.exp_of a0 x1 a1 → Reading (Row (N.Cases m)) T.cases_of a1 x2 rest → z ≡ V.Choose s0.place C.Match x1 x2 →
    Reading (Row (N.Match m)) T.match_of ss z rest
match_all {s0 = s0} r0 r1 r2 e = record {
  tree = Pair (Leaf s0) (Pair r1.tree r2.tree);
  ends = row_ends (both_read r0 (both_read r1.ends r2.ends));
  shows = (λ i. V.Choose s0.place C.Match (r1.shows i) (r2.shows i)) ∙ sym e;
}

pub case_all : {m : Mode} {ss a0 a1 a2 rest : List Sign} {s2 : Sign} {x0 : Pat} {x1 : Option Exp} {x3 : Exp} →
    Reading (Row (N.Pattern Full)) pattern_of ss x0 a0 → Reading (word K.If then Row (N.Exp m) or nothing) T.behind_word a0 x1 a1 →
    Takes (code K.FatArrow ∷ []) a1 s2 a2 → Reading (Row (N.Exp m)) T.exp_of a2 x3 rest →
    Reading (Row (N.Case m)) T.case_of ss (roll-Case (record { pattern = x0; guard = x1; body = x3 })) rest
case_all {s2 = s2} r0 r1 r2 r3 = record {
  tree = Pair r0.tree (Pair r1.tree (Pair (Leaf s2) r3.tree));
  ends = row_ends (both_read r0.ends (both_read r1.ends (both_read r2 r3.ends)));
  shows = (λ i. roll-Case (record { pattern = (r0.shows i); guard = (r1.shows i); body = (r3.shows i) }));
}

-- parts that may be left out
pub guard_some : {m : Mode} {ss a rest : List Sign} {s : Sign} {x : Exp} → Takes (code K.If ∷ []) ss s a → Reading (Row (N.Exp m)) T.exp_of a x rest →
    Reading (word K.If then Row (N.Exp m) or nothing) T.behind_word ss (Some x) rest
guard_some {s = s} w b = record { tree = Left (Pair (Leaf s) b.tree); ends = more_ends w b.ends; shows = λ i. Some (b.shows i) }

pub guard_none : {m : Mode} {ss : List Sign} → held ss (code K.If ∷ []) ≡ false → Reading (word K.If then Row (N.Exp m) or nothing) T.behind_word ss None ss
guard_none h = record { tree = Right Nothing; ends = no_more_ends refl h; shows = refl }

pub else_some : {m : Mode} {ss a rest : List Sign} {s : Sign} {x : Exp} → Takes (code K.Else ∷ []) ss s a → Reading (Row (N.Exp m)) T.exp_of a x rest →
    Reading (word K.Else then Row (N.Exp m) or Empty (code K.Else ∷ [])) T.behind_word ss (Some x) rest
else_some {s = s} w b = record { tree = Left (Pair (Leaf s) b.tree); ends = more_ends w b.ends; shows = λ i. Some (b.shows i) }

pub else_none : {m : Mode} {ss : List Sign} → held ss (code K.Else ∷ []) ≡ false →
    Reading (word K.Else then Row (N.Exp m) or Empty (code K.Else ∷ [])) T.behind_word ss None ss
else_none {m = m} {ss = ss} h = record {
  tree = Right Nothing;
  ends =
      right_read
      (skip (Word (code K.Else ∷ []) then Row (N.Exp m)) (Empty (code K.Else ∷ [])) (look ss)
      (ap (λ v. v || false) (held_none (code K.Else ∷ []) ss refl h)) refl)
      (empty_read h);
  shows = refl;
}

-- cases, with commas between and perhaps a last one
pub cases_all : {m : Mode} {ss a b rest : List Sign} {o : Sign} {c : Case} {list z : List Case} → Takes (code K.OpenBrace ∷ []) ss o a →
    Reading (Row (N.Case m)) T.case_of a c b → list ≡ c ∷ [] → Reading (Row (N.CasesTail m)) (cases_behind list) b z rest →
    Reading (Row (N.Cases m)) T.cases_of ss z rest
cases_all {o = o} w f l t = record {
  tree = Pair (Leaf o) (Pair f.tree t.tree);
  ends = row_ends (both_read w (both_read f.ends t.ends));
  shows = (λ i. f.shows i ∷ T.cases_tail t.tree) ∙ (λ i. sym l i ++ T.cases_tail t.tree) ∙ t.shows;
}

pub cases_more : {m : Mode} (items : List Case) {ss a b rest : List Sign} {o : Sign} {c : Case} {more z : List Case} → Takes (code K.Comma ∷ []) ss o a →
    held a (code K.CloseBrace ∷ []) ≡ false → Reading (Row (N.Case m)) T.case_of a c b → more ≡ items ++ c ∷ [] →
    Reading (Row (N.CasesTail m)) (cases_behind more) b z rest → Reading (Row (N.CasesTail m)) (cases_behind items) ss z rest
cases_more items {o = o} {c = c} w h f l t = record {
  tree = Left (Pair (Leaf o) (Right (Pair f.tree t.tree)));
  ends = row_ends (more_ends w (row_ends (go_past (code K.CloseBrace ∷ []) h refl refl refl (both_read f.ends t.ends))));
  shows = (λ i. items ++ f.shows i ∷ T.cases_tail t.tree) ∙ (sym (append_assoc items (c ∷ []) (T.cases_tail t.tree)) ∙
      (λ i. sym l i ++ T.cases_tail t.tree)) ∙ t.shows;
}

pub cases_more_stops : {m : Mode} {ss a b : List Sign} {o : Sign} {c : Case} {e : ReadError} → Takes (code K.Comma ∷ []) ss o a →
    held a (code K.CloseBrace ∷ []) ≡ false → Reading (Row (N.Case m)) T.case_of a c b → StopsAt (Row (N.CasesTail m)) b e →
    StopsAt (Row (N.CasesTail m)) ss e
cases_more_stops w h f s = stops_row (more_stops w (stops_row (stop_past (code K.CloseBrace ∷ []) h refl refl refl (stops_next f.ends s))))

pub cases_case_stops : {m : Mode} {ss a : List Sign} {o : Sign} {e : ReadError} → Takes (code K.Comma ∷ []) ss o a →
    held a (code K.CloseBrace ∷ []) ≡ false → StopsAt (Row (N.Case m)) a e → StopsAt (Row (N.CasesTail m)) ss e
cases_case_stops w h s = stops_row (more_stops w (stops_row (stop_past (code K.CloseBrace ∷ []) h refl refl refl (stops_first s))))

pub cases_comma_stops : {m : Mode} {ss : List Sign} {e : ReadError} → held ss (code K.Comma ∷ []) ≡ true → StopsAt (Word (code K.Comma ∷ [])) ss e →
    StopsAt (Row (N.CasesTail m)) ss e
cases_comma_stops h s = stops_row (stop_left (code K.Comma ∷ []) h refl (stops_first s))

pub cases_last : {m : Mode} (items : List Case) {ss a rest : List Sign} {o k : Sign} → Takes (code K.Comma ∷ []) ss o a →
    Takes (code K.CloseBrace ∷ []) a k rest → Reading (Row (N.CasesTail m)) (cases_behind items) ss items rest
cases_last items {ss = ss} {a = a} {rest = rest} {o = o} {k = k} w q = record {
  tree = Left (Pair (Leaf o) (Left (Leaf k)));
  ends = row_ends (more_ends w (row_ends (go_left (code K.CloseBrace ∷ []) (takes_held (code K.CloseBrace ∷ []) a k rest q) refl q)));
  shows = append-nil items;
}

pub cases_end : {m : Mode} (items : List Case) {ss rest : List Sign} {k : Sign} → held ss (code K.Comma ∷ []) ≡ false →
    Takes (code K.CloseBrace ∷ []) ss k rest → Reading (Row (N.CasesTail m)) (cases_behind items) ss items rest
cases_end {m = m} items {ss = ss} {k = k} h q = record {
  tree = Right (Leaf k);
  ends = row_ends (right_read (past_word (code K.Comma ∷ []) (Row (N.CasesMore m)) (word K.CloseBrace) ss refl h) q);
  shows = append-nil items;
}

pub cases_end_stops : {m : Mode} {ss : List Sign} {e : ReadError} → held ss (code K.Comma ∷ []) ≡ false → StopsAt (Word (code K.CloseBrace ∷ [])) ss e →
    StopsAt (Row (N.CasesTail m)) ss e
cases_end_stops {m = m} {ss = ss} h s = stops_row (stops_right (past_word (code K.Comma ∷ []) (Row (N.CasesMore m)) (word K.CloseBrace) ss refl h) s)
