-- The rows of parts in which no expression stands: the readings of the parts join to the reading of a row.
use Rattle.std.proofs.Common.{◌≡◌, ℕ, false, List, [], ◌∷◌, refl, sym, ◌∙◌, map}
use Rattle.std.specs.Prelude.{Some, None}
use Rattle.sail_lex.specs.declared.kind.TokenKind.TheVariants as K
use Rattle.sail_syntax.specs.declared.name.Name.{Name}
use Rattle.sail_syntax.specs.declared.name.Literal.{Literal}
use Rattle.sail_syntax.specs.declared.words.Asking.{Asking}
use Rattle.sail_syntax.specs.declared.types.TyExp.{TyExp}
use Rattle.sail_syntax.specs.declared.expressions.Exp.{Exp}
use Rattle.sail_syntax.specs.declared.expressions.Exp.TheVariants as V
use Rattle.sail_grammar.specs.declared.mode.Mode.TheVariants.{Full}
use Rattle.sail_grammar.specs.Symbol.{Sign, code, identifiers}
use Rattle.sail_grammar.specs.RowName as N
use Rattle.sail_grammar.specs.Form.{Word, Row, ◌or◌, ◌then◌, Nothing, Leaf, Pair, Left, Right, held}
use Rattle.sail_grammar.specs.Ends.{both_read, row_ends, right_read, empty_read}
use Rattle.sail_grammar.specs.Table.{nothing, word, words, identifier, literals}
use Rattle.sail_grammar.specs.Parsing.{Reading, Takes}
use Rattle.sail_grammar.specs.Leaves.{literal_of, inner_text}
use Rattle.sail_grammar.specs.TypeTrees.{typ_of}
use Rattle.sail_grammar.specs.ExpTrees as T
use Rattle.sail_grammar.proofs.Steps.{more_ends, no_more_ends, none_in, right_nothing, held_none, takes_held}
use Rattle.sail_parse_tp.proofs.Choices.{go_left}
use Rattle.sail_parse_forms.specs.Behind.{constant_of}
use Rattle.sail_parse_forms.proofs.FormRows.{spelled}

abbrev pub literal_symbols : List ℕ
literal_symbols = map code literals

abbrev pub question_symbols : List ℕ
question_symbols = code K.Sizeof ∷ code K.Constraint ∷ []

-- a literal
pub constant_all : {ss rest : List Sign} {n : Sign} {l : Literal} {z : Exp} → Takes literal_symbols ss n rest → l ≡ literal_of n.kind n.text →
    z ≡ V.Constant n.place l → Reading (words literals) constant_of ss z rest
constant_all {n = n} w l e = record { tree = Leaf n; ends = w; shows = (λ i. V.Constant n.place (sym l i)) ∙ sym e }

-- parts that may be left out
pub name_some : {ss rest : List Sign} {n : Sign} {name : Name} → Takes identifiers ss n rest → name ≡ spelled n →
    Reading (identifier or nothing) T.name_if ss (Some name) rest
name_some {ss = ss} {n = n} i e = record {
  tree = Left (Leaf n);
  ends = go_left identifiers (takes_held identifiers ss n _ i) refl i;
  shows = λ j. Some (sym e j);
}

pub name_none : {ss : List Sign} → held ss identifiers ≡ false → Reading (identifier or nothing) T.name_if ss None ss
name_none {ss = ss} h = record {
  tree = Right Nothing;
  ends = right_read (right_nothing (Word identifiers) ss (held_none identifiers ss refl h)) (empty_read (none_in ss));
  shows = refl;
}

-- `sizeof` and `constraint`
pub question_all : {ss a b c rest : List Sign} {w o k : Sign} {p : Asking} {x : TyExp} {z : Exp} → Takes question_symbols ss w a →
    Takes (code K.OpenParenthesis ∷ []) a o b → Reading (Row (N.Typ Full)) typ_of b x c → Takes (code K.CloseParenthesis ∷ []) c k rest →
    p ≡ T.asking_of w.kind → z ≡ V.OfType w.place p x → Reading (Row N.TypeQuestion) T.question_of ss z rest
question_all {w = w} {o = o} {k = k} {x = x} n s r c p e = record {
  tree = Pair (Leaf w) (Pair (Leaf o) (Pair r.tree (Leaf k)));
  ends = row_ends (both_read n (both_read s (both_read r.ends c)));
  shows = (λ i. V.OfType w.place (T.asking_of w.kind) (r.shows i)) ∙ (λ i. V.OfType w.place (sym p i) x) ∙ sym e;
}

pub text_some : {ss a rest : List Sign} {c t : Sign} {text : List ℕ} → Takes (code K.Comma ∷ []) ss c a → Takes (code K.StringLiteral ∷ []) a t rest →
    text ≡ inner_text t.text → Reading ((word K.Comma then word K.StringLiteral) or nothing) T.text_if ss (Some text) rest
text_some {c = c} {t = t} w s e = record {
  tree = Left (Pair (Leaf c) (Leaf t));
  ends = more_ends w s;
  shows = λ i. Some (sym e i);
}

pub text_none : {ss : List Sign} → held ss (code K.Comma ∷ []) ≡ false →
    Reading ((word K.Comma then word K.StringLiteral) or nothing) T.text_if ss None ss
text_none h = record { tree = Right Nothing; ends = no_more_ends refl h; shows = refl }

pub type_if_some : {ss a rest : List Sign} {s : Sign} {x : TyExp} → Takes (code K.Colon ∷ []) ss s a → Reading (Row (N.Typ Full)) typ_of a x rest →
    Reading (word K.Colon then Row (N.Typ Full) or nothing) T.typ_if ss (Some x) rest
type_if_some {s = s} w b = record { tree = Left (Pair (Leaf s) b.tree); ends = more_ends w b.ends; shows = λ i. Some (b.shows i) }

pub type_if_none : {ss : List Sign} → held ss (code K.Colon ∷ []) ≡ false → Reading (word K.Colon then Row (N.Typ Full) or nothing) T.typ_if ss None ss
type_if_none h = record { tree = Right Nothing; ends = no_more_ends refl h; shows = refl }
