-- The rows of functions, values and registers: the readings of the parts join to the reading of a row.
use Rattle.std.proofs.Common.{◌≡◌, ℕ, Bool, List, [], ◌∷◌, refl, sym, ◌∙◌}
use Rattle.std.specs.Prelude.{Option}
use Rattle.sail_lex.specs.declared.kind.TokenKind.TheVariants as K
use Rattle.sail_syntax.specs.declared.name.Name.{Name}
use Rattle.sail_syntax.specs.declared.types.TyExp.{TyExp}
use Rattle.sail_syntax.specs.declared.patterns.Pat.{Pat}
use Rattle.sail_syntax.specs.declared.expressions.Exp.{Exp}
use Rattle.sail_syntax.specs.declared.words.Arrow.{Arrow}
use Rattle.sail_syntax.specs.declared.definitions.Def.{Def}
use Rattle.sail_syntax.specs.declared.definitions.Def.TheVariants as V
use Rattle.sail_syntax.specs.declared.definitions.Quantifier.{Quantifier}
use Rattle.sail_syntax.specs.declared.definitions.FunctionClause.{FunctionClause}
use Rattle.sail_grammar.specs.declared.mode.Mode.TheVariants.{Full, Limited}
use Rattle.sail_grammar.specs.Symbol.{Sign, code, identifiers}
use Rattle.sail_grammar.specs.RowName.{ValDefinition, FunctionDefinition, MeasureDefinition, LetDefinition}
use Rattle.sail_grammar.specs.RowName.{RegisterDefinition, Typ, Pattern, PatternGroup}
use Rattle.sail_grammar.specs.RowName as R
use Rattle.sail_grammar.specs.Form.{Row, ◌or◌, ◌then◌, Tree, Nothing, Leaf, Pair, Left, Right}
use Rattle.sail_grammar.specs.Ends.{both_read, row_ends}
use Rattle.sail_grammar.specs.Table.{nothing, word}
use Rattle.sail_grammar.specs.Parsing.{Reading, Takes}
use Rattle.sail_grammar.specs.TypeTrees.{typ_of}
use Rattle.sail_grammar.specs.PatternTrees.{pattern_of, pattern_list_of}
use Rattle.sail_grammar.specs.ExpTrees.{exp_of, typ_if, behind_word}
use Rattle.sail_grammar.specs.DefTrees.{quantifier_if, arrow_of, function_as, val_of, function_of}
use Rattle.sail_grammar.specs.DefTrees.{measure_definition_of, let_definition_of, register_of}
use Rattle.sail_definitions.specs.Parts.{is_there, function_made}
use Rattle.sail_parse_parts.proofs.Spelled.{spelled}

abbrev pub arrow_symbols : List ℕ
arrow_symbols = code K.Arrow ∷ code K.DoubleArrow ∷ []

pub val_all : {ss m1 m2 m3 m4 m5 m6 rest : List Sign} {w n o a : Sign} {x : Quantifier} {t u : TyExp} {name : Name} {b : Arrow} →
    Takes (code K.Val ∷ []) ss w m1 → Takes identifiers m1 n m2 → Takes (code K.Colon ∷ []) m2 o m3 →
    Reading (Row R.Quantifier or nothing) quantifier_if m3 x m4 → Reading (Row (Typ Full)) typ_of m4 t m5 → Takes arrow_symbols m5 a m6 →
    Reading (Row (Typ Full)) typ_of m6 u rest → name ≡ spelled n → b ≡ arrow_of a.kind →
    Reading (Row ValDefinition) val_of ss (V.Val w.place name x t b u) rest
val_all {w = w} {n = n} {o = o} {a = a} p0 p1 p2 p3 p4 p5 p6 e0 e1 = record {
  tree = Pair (Leaf w) (Pair (Leaf n) (Pair (Leaf o) (Pair p3.tree (Pair p4.tree (Pair (Leaf a) p6.tree)))));
  ends = row_ends (both_read p0 (both_read p1 (both_read p2 (both_read p3.ends (both_read p4.ends (both_read p5 p6.ends))))));
  shows = λ i. V.Val w.place (sym e0 i) (p3.shows i) (p4.shows i) (sym e1 i) (p6.shows i);
}

pub measure_all : {ss m1 m2 m3 m4 rest : List Sign} {w n q : Sign} {ps : List Pat} {x : Exp} {name : Name} →
    Takes (code K.TerminationMeasure ∷ []) ss w m1 → Takes identifiers m1 n m2 → Reading (Row (PatternGroup Full)) pattern_list_of m2 ps m3 →
    Takes (code K.Equal ∷ []) m3 q m4 → Reading (Row (R.Exp Limited)) exp_of m4 x rest → name ≡ spelled n →
    Reading (Row MeasureDefinition) measure_definition_of ss (V.Measure w.place name ps x) rest
measure_all {w = w} {n = n} {q = q} p0 p1 p2 p3 p4 e0 = record {
  tree = Pair (Leaf w) (Pair (Leaf n) (Pair p2.tree (Pair (Leaf q) p4.tree)));
  ends = row_ends (both_read p0 (both_read p1 (both_read p2.ends (both_read p3 p4.ends))));
  shows = λ i. V.Measure w.place (sym e0 i) (p2.shows i) (p4.shows i);
}

pub let_definition_all : {ss m1 m2 m3 rest : List Sign} {w q : Sign} {p : Pat} {x : Exp} → Takes (code K.Let ∷ []) ss w m1 →
    Reading (Row (Pattern Full)) pattern_of m1 p m2 → Takes (code K.Equal ∷ []) m2 q m3 → Reading (Row (R.Exp Limited)) exp_of m3 x rest →
    Reading (Row LetDefinition) let_definition_of ss (V.Let w.place p x) rest
let_definition_all {w = w} {q = q} p0 p1 p2 p3 = record {
  tree = Pair (Leaf w) (Pair p1.tree (Pair (Leaf q) p3.tree));
  ends = row_ends (both_read p0 (both_read p1.ends (both_read p2 p3.ends)));
  shows = λ i. V.Let w.place (p1.shows i) (p3.shows i);
}

pub register_all : {ss m1 m2 m3 m4 rest : List Sign} {w n o : Sign} {t : TyExp} {x : Option Exp} {name : Name} →
    Takes (code K.Register ∷ []) ss w m1 → Takes identifiers m1 n m2 → Takes (code K.Colon ∷ []) m2 o m3 → Reading (Row (Typ Full)) typ_of m3 t m4 →
    Reading (word K.Equal then Row (R.Exp Limited) or nothing) behind_word m4 x rest → name ≡ spelled n →
    Reading (Row RegisterDefinition) register_of ss (V.Register w.place name t x) rest
register_all {w = w} {n = n} {o = o} p0 p1 p2 p3 p4 e0 = record {
  tree = Pair (Leaf w) (Pair (Leaf n) (Pair (Leaf o) (Pair p3.tree p4.tree)));
  ends = row_ends (both_read p0 (both_read p1 (both_read p2 (both_read p3.ends p4.ends))));
  shows = λ i. V.Register w.place (sym e0 i) (p3.shows i) (p4.shows i);
}

-- a clause that begins at this token
abbrev pub clause_at : Sign → List Pat → Option TyExp → Exp → FunctionClause
clause_at w parameters outcome body = record { place = w.place; parameters = parameters; result = outcome; body = body }

-- a function, or a clause of one
made : (w : Sign) (t : Tree) (name : Name) (clause : FunctionClause) →
    function_as (Leaf w) t name clause ≡ function_made (is_there t) w.place name clause
made w Nothing name clause = refl
made w (Leaf s) name clause = refl
made w (Pair t u) name clause = refl
made w (Left t) name clause = refl
made w (Right t) name clause = refl

pub function_all : {ss m1 m2 m3 m4 m5 m6 rest : List Sign} {w n q : Sign} {b : Bool} {ps : List Pat} {t : Option TyExp} {x : Exp} {name : Name}
    {d : Def} →
    Takes (code K.Function ∷ []) ss w m1 → Reading (word K.Clause or nothing) is_there m1 b m2 → Takes identifiers m2 n m3 →
    Reading (Row (PatternGroup Full)) pattern_list_of m3 ps m4 → Reading (word K.Arrow then Row (Typ Full) or nothing) typ_if m4 t m5 →
    Takes (code K.Equal ∷ []) m5 q m6 → Reading (Row (R.Exp Full)) exp_of m6 x rest → name ≡ spelled n →
    d ≡ function_made b w.place name (clause_at w ps t x) →
    Reading (Row FunctionDefinition) function_of ss d rest
function_all {w = w} {n = n} {q = q} p0 p1 p2 p3 p4 p5 p6 e0 e1 = record {
  tree = Pair (Leaf w) (Pair p1.tree (Pair (Leaf n) (Pair p3.tree (Pair p4.tree (Pair (Leaf q) p6.tree)))));
  ends = row_ends (both_read p0 (both_read p1.ends (both_read p2 (both_read p3.ends (both_read p4.ends (both_read p5 p6.ends))))));
  shows = made w p1.tree (spelled n) (clause_at w (pattern_list_of p3.tree) (typ_if p4.tree) (exp_of p6.tree)) ∙
      (λ i. function_made (p1.shows i) w.place (sym e0 i) (clause_at w (p3.shows i) (p4.shows i) (p6.shows i))) ∙ sym e1;
}
