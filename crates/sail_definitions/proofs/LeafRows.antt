-- The rows of parts that may be left out: the readings of the parts join to the reading of a row.
use Rattle.std.proofs.Common.{◌≡◌, true, false, List, [], ◌∷◌, refl}
use Rattle.std.specs.Prelude.{Some, None}
use Rattle.sail_lex.specs.declared.kind.TokenKind.{TokenKind}
use Rattle.sail_lex.specs.declared.kind.TokenKind.TheVariants as K
use Rattle.sail_syntax.specs.declared.expressions.Exp.{Exp}
use Rattle.sail_grammar.specs.declared.mode.Mode.{Mode}
use Rattle.sail_grammar.specs.Symbol.{Sign, code}
use Rattle.sail_grammar.specs.RowName as R
use Rattle.sail_grammar.specs.Form.{Row, ◌or◌, ◌then◌, Nothing, Leaf, Pair, Left, Right, held}
use Rattle.sail_grammar.specs.Ends.{right_read, empty_read}
use Rattle.sail_grammar.specs.Table.{nothing, word}
use Rattle.sail_grammar.specs.Parsing.{Reading, Takes}
use Rattle.sail_grammar.specs.ExpTrees.{exp_of, behind_word}
use Rattle.sail_grammar.proofs.Steps.{more_ends, no_more_ends, none_in, right_nothing, held_none, takes_held}
use Rattle.sail_parse_tp.proofs.Choices.{go_left}
use Rattle.sail_definitions.specs.Parts.{is_there}
use Rattle.sail_parse_parts.proofs.LeafRows.{not_at_end}

pub exp_some : (m : Mode) (k : TokenKind) {ss a rest : List Sign} {s : Sign} {x : Exp} → Takes (code k ∷ []) ss s a →
    Reading (Row (R.Exp m)) exp_of a x rest → Reading (word k then Row (R.Exp m) or nothing) behind_word ss (Some x) rest
exp_some m k {s = s} w r = record { tree = Left (Pair (Leaf s) r.tree); ends = more_ends w r.ends; shows = λ i. Some (r.shows i) }

pub exp_none : (m : Mode) (k : TokenKind) {ss : List Sign} → held ss (code k ∷ []) ≡ false →
    Reading (word k then Row (R.Exp m) or nothing) behind_word ss None ss
exp_none m k h = record { tree = Right Nothing; ends = no_more_ends (not_at_end k) h; shows = refl }

pub clause_some : {ss a : List Sign} {s : Sign} → Takes (code K.Clause ∷ []) ss s a → Reading (word K.Clause or nothing) is_there ss true a
clause_some {ss = ss} {a = a} {s = s} w = record {
  tree = Left (Leaf s);
  ends = go_left (code K.Clause ∷ []) (takes_held (code K.Clause ∷ []) ss s a w) refl w;
  shows = refl;
}

pub clause_none : {ss : List Sign} → held ss (code K.Clause ∷ []) ≡ false → Reading (word K.Clause or nothing) is_there ss false ss
clause_none {ss = ss} h = record {
  tree = Right Nothing;
  ends = right_read (right_nothing (word K.Clause) ss (held_none (code K.Clause ∷ []) ss refl h)) (empty_read (none_in ss));
  shows = refl;
}
