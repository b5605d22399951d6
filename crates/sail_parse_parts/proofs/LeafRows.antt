-- The rows of parts that may be left out: the readings of the parts join to the reading of a row.
use Rattle.std.proofs.Common.{◌≡◌, true, false, List, [], ◌∷◌, refl, sym, ap, arith}
use Rattle.std.specs.Prelude.{Some, None, ◌||◌}
use Rattle.std.proofs.lemmas.Bool.{ne_eqb}
use Rattle.sail_base.specs.declared.operators.Operator.{Operator}
use Rattle.sail_lex.specs.declared.kind.TokenKind.{TokenKind}
use Rattle.sail_lex.specs.declared.kind.TokenKind.TheVariants as K
use Rattle.sail_syntax.specs.declared.name.Name.{Name}
use Rattle.sail_syntax.specs.declared.types.TyExp.{TyExp}
use Rattle.sail_syntax.specs.declared.definitions.Overloaded.TheVariants as O
use Rattle.sail_grammar.specs.declared.error.ReadError.{ReadError}
use Rattle.sail_grammar.specs.declared.mode.Mode.TheVariants.{Full}
use Rattle.sail_grammar.specs.Symbol.{Sign, code, identifiers}
use Rattle.sail_grammar.specs.RowName.{Typ}
use Rattle.sail_grammar.specs.Form.{Word, Row, ◌or◌, ◌then◌, Nothing, Leaf, Pair, Left, Right, among, held}
use Rattle.sail_grammar.specs.Ends.{both_read}
use Rattle.sail_grammar.specs.Table.{nothing, word, words, identifier, operators, codes_of}
use Rattle.sail_grammar.specs.Parsing.{Reading, Takes, StopsAt}
use Rattle.sail_grammar.specs.TypeTrees.{typ_of}
use Rattle.sail_grammar.specs.ExpTrees.{typ_if, operator_of}
use Rattle.sail_grammar.specs.DefTrees.{overloaded_of}
use Rattle.sail_grammar.proofs.Steps.{more_ends, no_more_ends}
use Rattle.sail_parse_tp.proofs.Choices.{go_left, go_past, stop_left, stop_past}
use Rattle.sail_parse_parts.proofs.Spelled.{spelled}

-- the end is no token of a kind
pub not_at_end : (k : TokenKind) → among (code k ∷ []) 0 ≡ false
not_at_end k = ap (λ b. b || false) (ne_eqb (code k) 0 (λ e. omega (arith, e)))

pub typ_some : (k : TokenKind) {ss a rest : List Sign} {s : Sign} {x : TyExp} → Takes (code k ∷ []) ss s a →
    Reading (Row (Typ Full)) typ_of a x rest → Reading (word k then Row (Typ Full) or nothing) typ_if ss (Some x) rest
typ_some k {s = s} w r = record { tree = Left (Pair (Leaf s) r.tree); ends = more_ends w r.ends; shows = λ i. Some (r.shows i) }

pub typ_none : (k : TokenKind) {ss : List Sign} → held ss (code k ∷ []) ≡ false → Reading (word k then Row (Typ Full) or nothing) typ_if ss None ss
typ_none k h = record { tree = Right Nothing; ends = no_more_ends (not_at_end k) h; shows = refl }

pub overloaded_name : {ss rest : List Sign} {n : Sign} {name : Name} → held ss identifiers ≡ true → Takes identifiers ss n rest → name ≡ spelled n →
    Reading (identifier or word K.Operator then words operators) overloaded_of ss (O.Named name) rest
overloaded_name {n = n} h w e = record { tree = Left (Leaf n); ends = go_left identifiers h refl w; shows = λ i. O.Named (sym e i) }

pub overloaded_operator : {ss a rest : List Sign} {w s : Sign} {o : Operator} → held ss identifiers ≡ false → Takes (code K.Operator ∷ []) ss w a →
    Takes (codes_of operators) a s rest → o ≡ operator_of s.kind →
    Reading (identifier or word K.Operator then words operators) overloaded_of ss (O.Operator s.place o) rest
overloaded_operator {w = w} {s = s} h p q e = record {
  tree = Right (Pair (Leaf w) (Leaf s));
  ends = go_past identifiers h refl refl refl (both_read p q);
  shows = λ i. O.Operator s.place (sym e i);
}

pub overloaded_name_stops : {ss : List Sign} {e : ReadError} → held ss identifiers ≡ true → StopsAt (Word identifiers) ss e →
    StopsAt (identifier or word K.Operator then words operators) ss e
overloaded_name_stops h s = stop_left identifiers h refl s

pub overloaded_operator_stops : {ss : List Sign} {e : ReadError} → held ss identifiers ≡ false → StopsAt (word K.Operator then words operators) ss e →
    StopsAt (identifier or word K.Operator then words operators) ss e
overloaded_operator_stops h s = stop_past identifiers h refl refl refl s
