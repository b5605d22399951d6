-- The rows of sets of numbers and of type variables.
use Rattle.std.proofs.Common.{◌≡◌, ℕ, true, false, ◌++◌, List, [], ◌∷◌, refl, sym, ◌∙◌, ap, subst, append_assoc, append-nil}
use Rattle.std.specs.Prelude.{ℤ}
use Rattle.sail_lex.specs.declared.kind.TokenKind.TheVariants as K
use Rattle.sail_syntax.specs.declared.name.Name.{Name}
use Rattle.sail_syntax.specs.declared.types.TyExp.{TyExp}
use Rattle.sail_syntax.specs.declared.types.TyExp.TheVariants as V
use Rattle.sail_grammar.specs.declared.error.ReadError.{ReadError}
use Rattle.sail_grammar.specs.declared.mode.Mode.{Mode}
use Rattle.sail_grammar.specs.declared.mode.Mode.TheVariants.{Full, Limited}
use Rattle.sail_grammar.specs.Symbol.{Sign, code, numbers}
use Rattle.sail_grammar.specs.RowName.{TypeSet, NumbersTail, NumbersMore, TypeVariables}
use Rattle.sail_grammar.specs.Form.{Form, Word, Empty, Row, ◌or◌, ◌then◌, Tree, Nothing, Leaf, Pair, Left, Right, held, look, among}
use Rattle.sail_grammar.specs.Ends.{both_read, row_ends, left_read, right_read, empty_read}
use Rattle.sail_grammar.specs.Test.{may_left, may_right}
use Rattle.sail_grammar.specs.Sets.{grammar}
use Rattle.sail_grammar.specs.Table.{nothing}
use Rattle.sail_grammar.specs.Parsing.{Reading, Takes, StopsAt}
use Rattle.sail_grammar.specs.Leaves.{number_of}
use Rattle.sail_grammar.specs.TypeTrees.{numbers_tail_of, set_of, in_some_set_of, in_set_of, type_variables_of}
use Rattle.sail_grammar.proofs.Steps.{
  left_word,
  stops_first,
  stops_row,
  stops_left,
  stops_next,
  more_ends,
  more_stops,
  no_more_ends,
  held_every,
  none_in,
  right_nothing,
  held_none,
}
use Rattle.sail_parse_tp.specs.Behind.{numbers_behind, variables_behind}

-- a number more
pub number_more : (items : List ℤ) {ss after next rest : List Sign} {s t : Sign} {x more : List ℤ} {n : ℤ} → Takes (code K.Comma ∷ []) ss s after →
    Takes numbers after t next → n ≡ number_of t.text → more ≡ items ++ n ∷ [] → Reading (Row NumbersTail) (numbers_behind more) next x rest →
    Reading (Row NumbersTail) (numbers_behind items) ss x rest
number_more items {t = t} {n = n} c w e m r = record {
  tree = Left (Pair (Leaf _) (Left (Pair (Leaf t) r.tree)));
  ends = row_ends (more_ends c (row_ends (more_ends w r.ends)));
  shows = (λ i. items ++ sym e i ∷ numbers_tail_of r.tree) ∙ (sym (append_assoc items (n ∷ []) (numbers_tail_of r.tree)) ∙
      (λ i. sym m i ++ numbers_tail_of r.tree)) ∙ r.shows;
}

-- none, behind a last comma and without one
pub numbers_end : (items : List ℤ) {ss after : List Sign} {s : Sign} → Takes (code K.Comma ∷ []) ss s after → held after numbers ≡ false →
    Reading (Row NumbersTail) (numbers_behind items) ss items after
numbers_end items c h = record {
  tree = Left (Pair (Leaf _) (Right Nothing));
  ends = row_ends (more_ends c (row_ends (no_more_ends refl h)));
  shows = append-nil items;
}

pub numbers_none : (items : List ℤ) {ss : List Sign} → held ss (code K.Comma ∷ []) ≡ false → Reading (Row NumbersTail) (numbers_behind items) ss items ss
numbers_none items h = record {
  tree = Right Nothing;
  ends = row_ends (no_more_ends refl h);
  shows = append-nil items;
}

pub number_more_stops : {ss after next : List Sign} {s t : Sign} {e : ReadError} → Takes (code K.Comma ∷ []) ss s after →
    Takes numbers after t next → StopsAt (Row NumbersTail) next e → StopsAt (Row NumbersTail) ss e
number_more_stops c w q = stops_row (more_stops c (stops_row (more_stops w q)))

-- a type variable more
pub variable_more : (items : List Name) {more x : List Name} {ss after rest : List Sign} {s : Sign} → Takes (code K.TypeVariable ∷ []) ss s after →
    more ≡ items ++ record { place = s.place; text = s.text } ∷ [] → Reading (Row TypeVariables) (variables_behind more) after x rest →
    Reading (Row TypeVariables) (variables_behind items) ss x rest
variable_more items {s = s} c m r = record {
  tree = Left (Pair (Leaf s) r.tree);
  ends = row_ends (more_ends c r.ends);
  shows = (sym (append_assoc items (record { place = s.place; text = s.text } ∷ []) (type_variables_of r.tree)) ∙
      (λ i. sym m i ++ type_variables_of r.tree)) ∙ r.shows;
}

pub variables_none : (items : List Name) {ss : List Sign} → held ss (code K.TypeVariable ∷ []) ≡ false →
    Reading (Row TypeVariables) (variables_behind items) ss items ss
variables_none items h = record {
  tree = Right Nothing;
  ends = row_ends (no_more_ends refl h);
  shows = append-nil items;
}

pub variable_more_stops : {ss after : List Sign} {s : Sign} {e : ReadError} → Takes (code K.TypeVariable ∷ []) ss s after →
    StopsAt (Row TypeVariables) after e → StopsAt (Row TypeVariables) ss e
variable_more_stops c q = stops_row (more_stops c q)

-- the tokens that were seen
pub number_comma_stops : {ss : List Sign} {e : ReadError} → held ss (code K.Comma ∷ []) ≡ true → StopsAt (Word (code K.Comma ∷ [])) ss e →
    StopsAt (Row NumbersTail) ss e
number_comma_stops {ss = ss} h s = stops_row (stops_left (left_word (code K.Comma ∷ []) (Row NumbersMore) nothing ss h) (stops_first s))

pub number_stops : {ss after : List Sign} {s : Sign} {e : ReadError} → Takes (code K.Comma ∷ []) ss s after → held after numbers ≡ true →
    StopsAt (Word numbers) after e → StopsAt (Row NumbersTail) ss e
number_stops {after = after} c h s = stops_row (more_stops c (stops_row (stops_left (left_word numbers (Row NumbersTail) nothing after h) (stops_first s))))

pub variable_stops : {ss : List Sign} {e : ReadError} → held ss (code K.TypeVariable ∷ []) ≡ true → StopsAt (Word (code K.TypeVariable ∷ [])) ss e →
    StopsAt (Row TypeVariables) ss e
variable_stops {ss = ss} h s = stops_row (stops_left (left_word (code K.TypeVariable ∷ []) (Row TypeVariables) nothing ss h) (stops_first s))
