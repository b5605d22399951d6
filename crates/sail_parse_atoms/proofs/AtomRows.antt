-- The rows of operands: the readings of the parts join to the reading of a row.
use Rattle.std.proofs.Common.{◌≡◌, ℕ, ◌++◌, Bool, true, false, List, [], ◌∷◌, refl, sym, ◌∙◌, subst, append_assoc, append-nil, length}
use Rattle.std.specs.Prelude.{Option, Some, None, ◌||◌, ◌==◌}
use Rattle.std.proofs.lemmas.Bool.{true≢false}
use Rattle.sail_base.specs.declared.operators.Prefix.{Prefix}
use Rattle.sail_base.specs.declared.place.Place.{Place}
use Rattle.sail_lex.specs.declared.kind.TokenKind.TheVariants as K
use Rattle.sail_syntax.specs.declared.name.Name.{Name}
use Rattle.sail_syntax.specs.declared.words.Brackets.TheVariants as B
use Rattle.sail_syntax.specs.declared.expressions.Exp.{Exp}
use Rattle.sail_syntax.specs.declared.expressions.Exp.TheVariants as V
use Rattle.sail_syntax.specs.declared.expressions.FieldValue.{FieldValue}
use Rattle.sail_syntax.specs.declared.expressions.Index.{Index, roll-Index}
use Rattle.sail_grammar.specs.declared.error.ReadError.{ReadError}
use Rattle.sail_grammar.specs.declared.error.ReadError.TheVariants.{Unfit, Forbidden}
use Rattle.sail_grammar.specs.declared.mode.Mode.{Mode}
use Rattle.sail_grammar.specs.declared.mode.Mode.TheVariants.{Full, Limited}
use Rattle.sail_grammar.specs.Symbol.{Sign, code, identifiers}
use Rattle.sail_grammar.specs.RowName as N
use Rattle.sail_grammar.specs.Form.{Word, Row, ◌or◌, ◌then◌, Nothing, Leaf, Pair, Left, Right, held, look, among}
use Rattle.sail_grammar.specs.Ends.{both_read, row_ends, forbid_stop, forbid_bar}
use Rattle.sail_grammar.specs.Table.{nothing, word, words, identifier, literals}
use Rattle.sail_grammar.specs.Parsing.{Reading, Takes, StopsAt}
use Rattle.sail_grammar.specs.ExpTrees as T
use Rattle.sail_grammar.proofs.Steps.{
  left_word,
  stops_row,
  stops_first,
  stops_next,
  stops_left,
  some_ends,
  none_ends,
  more_ends,
  no_more_ends,
  more_stops,
  takes_held,
}
use Rattle.sail_parse_tp.proofs.Choices.{go_left, go_right, go_past, stop_left, stop_right, stop_past}
use Rattle.sail_parse_forms.specs.Behind.{constant_of}
use Rattle.sail_parse_forms.proofs.FormRows.{spelled}
use Rattle.sail_parse_forms.proofs.PartRows.{literal_symbols, question_symbols}
use Rattle.sail_parse_atoms.specs.Behind.{exps_behind}

abbrev pub prefix_symbols : List ℕ
prefix_symbols = code K.Tilde ∷ code K.Not ∷ []

-- one of two symbols
either_first : (x y : Bool) → (x || (y || false)) ≡ (y || (x || false))
either_first true true = refl
either_first true false = refl
either_first false true = refl
either_first false false = refl

swapped : (a b c : ℕ) → among (a ∷ b ∷ []) c ≡ among (b ∷ a ∷ []) c
swapped a b c = either_first (a == c) (b == c)

-- an operand, by its first token
pub atom_constant : {m : Mode} {ss rest : List Sign} {z : Exp} → held ss literal_symbols ≡ true → Reading (words literals) constant_of ss z rest →
    Reading (Row (N.Atom m)) T.atom_of ss z rest
atom_constant h x = record { tree = Left x.tree; ends = row_ends (go_left literal_symbols h refl x.ends); shows = x.shows }

pub atom_constant_stops : {m : Mode} {ss : List Sign} {e : ReadError} → held ss literal_symbols ≡ true → StopsAt (words literals) ss e →
    StopsAt (Row (N.Atom m)) ss e
atom_constant_stops h s = stops_row (stop_left literal_symbols h refl s)

pub atom_named : {m : Mode} {ss rest : List Sign} {z : Exp} → held ss identifiers ≡ true → Reading (Row (N.NamedExp m)) T.named_of ss z rest →
    Reading (Row (N.Atom m)) T.atom_of ss z rest
atom_named h x = record { tree = Right (Left x.tree); ends = row_ends (go_right identifiers h refl (go_left identifiers h refl x.ends)); shows = x.shows }

pub atom_named_stops : {m : Mode} {ss : List Sign} {e : ReadError} → held ss identifiers ≡ true → StopsAt (Row (N.NamedExp m)) ss e →
    StopsAt (Row (N.Atom m)) ss e
atom_named_stops h s = stops_row (stop_right identifiers h refl (stop_left identifiers h refl s))

pub atom_prefix : {m : Mode} {ss rest : List Sign} {z : Exp} → held ss prefix_symbols ≡ true → Reading (Row (N.PrefixCall m)) T.prefix_call_of ss z rest →
    Reading (Row (N.Atom m)) T.atom_of ss z rest
atom_prefix h x = record {
  tree = Right (Right (Left x.tree));
  ends = row_ends (go_right prefix_symbols h refl (go_right prefix_symbols h refl (go_left prefix_symbols h refl x.ends)));
  shows = x.shows;
}

pub atom_prefix_stops : {m : Mode} {ss : List Sign} {e : ReadError} → held ss prefix_symbols ≡ true → StopsAt (Row (N.PrefixCall m)) ss e →
    StopsAt (Row (N.Atom m)) ss e
atom_prefix_stops h s = stops_row (stop_right prefix_symbols h refl (stop_right prefix_symbols h refl (stop_left prefix_symbols h refl s)))

pub atom_group : {m : Mode} {ss rest : List Sign} {z : Exp} → held ss (code K.OpenParenthesis ∷ []) ≡ true → Reading (Row (N.GroupExp m)) T.group_of ss z rest →
    Reading (Row (N.Atom m)) T.atom_of ss z rest
atom_group h x = record {
  tree = Right (Right (Right (Left x.tree)));
  ends = row_ends (go_right (code K.OpenParenthesis ∷ []) h refl (go_right (code K.OpenParenthesis ∷ []) h refl
      (go_right (code K.OpenParenthesis ∷ []) h refl (go_left (code K.OpenParenthesis ∷ []) h refl x.ends))));
  shows = x.shows;
}

pub atom_group_stops : {m : Mode} {ss : List Sign} {e : ReadError} → held ss (code K.OpenParenthesis ∷ []) ≡ true → StopsAt (Row (N.GroupExp m)) ss e →
    StopsAt (Row (N.Atom m)) ss e
atom_group_stops h s =
    stops_row (stop_right (code K.OpenParenthesis ∷ []) h refl (stop_right (code K.OpenParenthesis ∷ []) h refl
    (stop_right (code K.OpenParenthesis ∷ []) h refl (stop_left (code K.OpenParenthesis ∷ []) h refl s))))

pub atom_block : {m : Mode} {ss rest : List Sign} {z : Exp} → held ss (code K.OpenBrace ∷ []) ≡ true → Reading (Row (N.Block m)) T.block_of ss z rest →
    Reading (Row (N.Atom m)) T.atom_of ss z rest
atom_block h x = record {
  tree = Right (Right (Right (Right (Left x.tree))));
  ends = row_ends (go_right (code K.OpenBrace ∷ []) h refl (go_right (code K.OpenBrace ∷ []) h refl
      (go_right (code K.OpenBrace ∷ []) h refl (go_right (code K.OpenBrace ∷ []) h refl (go_left (code K.OpenBrace ∷ []) h refl x.ends)))));
  shows = x.shows;
}

pub atom_block_stops : {m : Mode} {ss : List Sign} {e : ReadError} → held ss (code K.OpenBrace ∷ []) ≡ true → StopsAt (Row (N.Block m)) ss e →
    StopsAt (Row (N.Atom m)) ss e
atom_block_stops h s =
    stops_row (stop_right (code K.OpenBrace ∷ []) h refl (stop_right (code K.OpenBrace ∷ []) h refl
    (stop_right (code K.OpenBrace ∷ []) h refl (stop_right (code K.OpenBrace ∷ []) h refl (stop_left (code K.OpenBrace ∷ []) h refl s)))))

pub atom_vector : {m : Mode} {ss rest : List Sign} {z : Exp} → held ss (code K.OpenBracket ∷ []) ≡ true → Reading (Row (N.VectorExp m)) T.vector_of ss z rest →
    Reading (Row (N.Atom m)) T.atom_of ss z rest
atom_vector h x = record {
  tree = Right (Right (Right (Right (Right (Left x.tree)))));
  ends = row_ends (go_right (code K.OpenBracket ∷ []) h refl (go_right (code K.OpenBracket ∷ []) h refl
      (go_right (code K.OpenBracket ∷ []) h refl (go_right (code K.OpenBracket ∷ []) h refl
      (go_right (code K.OpenBracket ∷ []) h refl (go_left (code K.OpenBracket ∷ []) h refl x.ends))))));
  shows = x.shows;
}

pub atom_vector_stops : {m : Mode} {ss : List Sign} {e : ReadError} → held ss (code K.OpenBracket ∷ []) ≡ true → StopsAt (Row (N.VectorExp m)) ss e →
    StopsAt (Row (N.Atom m)) ss e
atom_vector_stops h s =
    stops_row (stop_right (code K.OpenBracket ∷ []) h refl (stop_right (code K.OpenBracket ∷ []) h refl
    (stop_right (code K.OpenBracket ∷ []) h refl (stop_right (code K.OpenBracket ∷ []) h refl
    (stop_right (code K.OpenBracket ∷ []) h refl (stop_left (code K.OpenBracket ∷ []) h refl s))))))

pub atom_list : {m : Mode} {ss rest : List Sign} {z : Exp} → held ss (code K.OpenVector ∷ []) ≡ true → Reading (Row (N.ListExp m)) T.list_of ss z rest →
    Reading (Row (N.Atom m)) T.atom_of ss z rest
atom_list h x = record {
  tree = Right (Right (Right (Right (Right (Right (Left x.tree))))));
  ends = row_ends (go_right (code K.OpenVector ∷ []) h refl (go_right (code K.OpenVector ∷ []) h refl
      (go_right (code K.OpenVector ∷ []) h refl (go_right (code K.OpenVector ∷ []) h refl
      (go_right (code K.OpenVector ∷ []) h refl (go_right (code K.OpenVector ∷ []) h refl (go_left (code K.OpenVector ∷ []) h refl x.ends)))))));
  shows = x.shows;
}

pub atom_list_stops : {m : Mode} {ss : List Sign} {e : ReadError} → held ss (code K.OpenVector ∷ []) ≡ true → StopsAt (Row (N.ListExp m)) ss e →
    StopsAt (Row (N.Atom m)) ss e
atom_list_stops h s =
    stops_row (stop_right (code K.OpenVector ∷ []) h refl (stop_right (code K.OpenVector ∷ []) h refl
    (stop_right (code K.OpenVector ∷ []) h refl (stop_right (code K.OpenVector ∷ []) h refl
    (stop_right (code K.OpenVector ∷ []) h refl (stop_right (code K.OpenVector ∷ []) h refl (stop_left (code K.OpenVector ∷ []) h refl s)))))))

pub atom_struct : {m : Mode} {ss rest : List Sign} {z : Exp} → held ss (code K.Struct ∷ []) ≡ true → Reading (Row (N.StructExp m)) T.struct_of ss z rest →
    Reading (Row (N.Atom m)) T.atom_of ss z rest
atom_struct h x = record {
  tree = Right (Right (Right (Right (Right (Right (Right (Left x.tree)))))));
  ends = row_ends (go_right (code K.Struct ∷ []) h refl (go_right (code K.Struct ∷ []) h refl
      (go_right (code K.Struct ∷ []) h refl (go_right (code K.Struct ∷ []) h refl
      (go_right (code K.Struct ∷ []) h refl (go_right (code K.Struct ∷ []) h refl
      (go_right (code K.Struct ∷ []) h refl (go_left (code K.Struct ∷ []) h refl x.ends))))))));
  shows = x.shows;
}

pub atom_struct_stops : {m : Mode} {ss : List Sign} {e : ReadError} → held ss (code K.Struct ∷ []) ≡ true → StopsAt (Row (N.StructExp m)) ss e →
    StopsAt (Row (N.Atom m)) ss e
atom_struct_stops h s =
    stops_row (stop_right (code K.Struct ∷ []) h refl (stop_right (code K.Struct ∷ []) h refl
    (stop_right (code K.Struct ∷ []) h refl (stop_right (code K.Struct ∷ []) h refl
    (stop_right (code K.Struct ∷ []) h refl (stop_right (code K.Struct ∷ []) h refl
    (stop_right (code K.Struct ∷ []) h refl (stop_left (code K.Struct ∷ []) h refl s))))))))

pub atom_question : {m : Mode} {ss rest : List Sign} {z : Exp} → held ss question_symbols ≡ true → Reading (Row N.TypeQuestion) T.question_of ss z rest →
    Reading (Row (N.Atom m)) T.atom_of ss z rest
atom_question h x = record {
  tree = Right (Right (Right (Right (Right (Right (Right (Right (Left x.tree))))))));
  ends = row_ends (go_right question_symbols h refl (go_right question_symbols h refl
      (go_right question_symbols h refl (go_right question_symbols h refl (go_right question_symbols h refl
      (go_right question_symbols h refl (go_right question_symbols h refl (go_right question_symbols h refl (go_left question_symbols h refl x.ends)))))))));
  shows = x.shows;
}

pub atom_question_stops : {m : Mode} {ss : List Sign} {e : ReadError} → held ss question_symbols ≡ true → StopsAt (Row N.TypeQuestion) ss e →
    StopsAt (Row (N.Atom m)) ss e
atom_question_stops h s =
    stops_row (stop_right question_symbols h refl (stop_right question_symbols h refl
    (stop_right question_symbols h refl (stop_right question_symbols h refl (stop_right question_symbols h refl
    (stop_right question_symbols h refl (stop_right question_symbols h refl (stop_right question_symbols h refl (stop_left question_symbols h refl s)))))))))

pub atom_assertion : {m : Mode} {ss rest : List Sign} {z : Exp} → held ss literal_symbols ≡ false → held ss identifiers ≡ false →
    held ss prefix_symbols ≡ false → held ss (code K.OpenParenthesis ∷ []) ≡ false → held ss (code K.OpenBrace ∷ []) ≡ false →
    held ss (code K.OpenBracket ∷ []) ≡ false → held ss (code K.OpenVector ∷ []) ≡ false → held ss (code K.Struct ∷ []) ≡ false →
    held ss question_symbols ≡ false →
    Reading (Row (N.Assertion m)) T.assertion_of ss z rest → Reading (Row (N.Atom m)) T.atom_of ss z rest
atom_assertion {ss = ss} h0 h1 h2 h3 h4 h5 h6 h7 h8 x = record {
  tree = Right (Right (Right (Right (Right (Right (Right (Right (Right x.tree))))))));
  ends = row_ends (go_past literal_symbols h0 refl refl refl (go_past identifiers h1 refl refl refl
      (go_past prefix_symbols h2 refl (swapped (code K.Not) (code K.Tilde) (look ss)) refl
      (go_past (code K.OpenParenthesis ∷ []) h3 refl refl refl (go_past (code K.OpenBrace ∷ []) h4 refl refl refl
      (go_past (code K.OpenBracket ∷ []) h5 refl refl refl (go_past (code K.OpenVector ∷ []) h6 refl refl refl
      (go_past (code K.Struct ∷ []) h7 refl refl refl (go_past question_symbols h8 refl (swapped (code K.Constraint) (code K.Sizeof) (look ss)) refl
      x.ends)))))))));
  shows = x.shows;
}

pub atom_assertion_stops : {m : Mode} {ss : List Sign} {e : ReadError} → held ss literal_symbols ≡ false → held ss identifiers ≡ false →
    held ss prefix_symbols ≡ false → held ss (code K.OpenParenthesis ∷ []) ≡ false → held ss (code K.OpenBrace ∷ []) ≡ false →
    held ss (code K.OpenBracket ∷ []) ≡ false → held ss (code K.OpenVector ∷ []) ≡ false → held ss (code K.Struct ∷ []) ≡ false →
    held ss question_symbols ≡ false →
    StopsAt (Row (N.Assertion m)) ss e → StopsAt (Row (N.Atom m)) ss e
atom_assertion_stops {ss = ss} h0 h1 h2 h3 h4 h5 h6 h7 h8 s = stops_row (stop_past literal_symbols h0 refl refl refl
    (stop_past identifiers h1 refl refl refl (stop_past prefix_symbols h2 refl (swapped (code K.Not) (code K.Tilde) (look ss)) refl
    (stop_past (code K.OpenParenthesis ∷ []) h3 refl refl refl (stop_past (code K.OpenBrace ∷ []) h4 refl refl refl
    (stop_past (code K.OpenBracket ∷ []) h5 refl refl refl (stop_past (code K.OpenVector ∷ []) h6 refl refl refl
    (stop_past (code K.Struct ∷ []) h7 refl refl refl (stop_past question_symbols h8 refl (swapped (code K.Constraint) (code K.Sizeof) (look ss)) refl
    s)))))))))

-- a name, alone or with arguments
pub named_some : {m : Mode} {ss a b rest : List Sign} {n o : Sign} {name : Name} {xs : List Exp} {z : Exp} → Takes identifiers ss n a →
    Takes (code K.OpenParenthesis ∷ []) a o b → Reading (Row (N.Arguments m)) T.arguments_of b xs rest → name ≡ spelled n → z ≡ V.Call name xs →
    Reading (Row (N.NamedExp m)) T.named_of ss z rest
named_some {n = n} {o = o} i s r e q = record {
  tree = Pair (Leaf n) (Left (Pair (Leaf o) r.tree));
  ends = row_ends (some_ends i s r.ends);
  shows = (λ j. V.Call (sym e j) (r.shows j)) ∙ sym q;
}

pub named_none : {m : Mode} {ss a : List Sign} {n : Sign} {name : Name} {z : Exp} → Takes identifiers ss n a →
    held a (code K.OpenParenthesis ∷ []) ≡ false → name ≡ spelled n → z ≡ V.Variable name → Reading (Row (N.NamedExp m)) T.named_of ss z a
named_none {n = n} i h e q = record {
  tree = Pair (Leaf n) (Right Nothing);
  ends = row_ends (none_ends i refl h);
  shows = (λ j. V.Variable (sym e j)) ∙ sym q;
}

-- a prefix that is a word
pub prefix_all : {m : Mode} {ss a b c rest : List Sign} {w o k : Sign} {p : Prefix} {x z : Exp} → Takes prefix_symbols ss w a →
    Takes (code K.OpenParenthesis ∷ []) a o b → Reading (Row (N.Exp m)) T.exp_of b x c → Takes (code K.CloseParenthesis ∷ []) c k rest →
    p ≡ T.prefix_of w.kind → z ≡ V.Prefixed w.place p x → Reading (Row (N.PrefixCall m)) T.prefix_call_of ss z rest
prefix_all {w = w} {o = o} {k = k} {x = x} n s r c p e = record {
  tree = Pair (Leaf w) (Pair (Leaf o) (Pair r.tree (Leaf k)));
  ends = row_ends (both_read n (both_read s (both_read r.ends c)));
  shows = (λ i. V.Prefixed w.place (T.prefix_of w.kind) (r.shows i)) ∙ (λ i. V.Prefixed w.place (sym p i) x) ∙ sym e;
}

-- brackets
pub group_all : {m : Mode} {ss a rest : List Sign} {o : Sign} {xs : List Exp} {z : Exp} → Takes (code K.OpenParenthesis ∷ []) ss o a →
    Reading (Row (N.Arguments m)) T.arguments_of a xs rest → z ≡ T.in_brackets o.place xs → Reading (Row (N.GroupExp m)) T.group_of ss z rest
group_all {o = o} s r e = record {
  tree = Pair (Leaf o) r.tree;
  ends = row_ends (both_read s r.ends);
  shows = (λ i. T.in_brackets o.place (r.shows i)) ∙ sym e;
}

pub vector_all : {m : Mode} {ss a b c rest : List Sign} {o k : Sign} {x z : Exp} → Takes (code K.OpenBracket ∷ []) ss o a →
    Reading (Row (N.Exp m)) T.exp_of a x b → Reading (Row (N.Update m) or Row (N.ExpsTail m)) (T.vector_more o.place x) b z c →
    Takes (code K.CloseBracket ∷ []) c k rest → Reading (Row (N.VectorExp m)) T.vector_of ss z rest
vector_all {o = o} {k = k} s r t c = record {
  tree = Pair (Leaf o) (Pair r.tree (Pair t.tree (Leaf k)));
  ends = row_ends (both_read s (both_read r.ends (both_read t.ends c)));
  shows = (λ i. T.vector_more o.place (r.shows i) t.tree) ∙ t.shows;
}

pub vector_update : {m : Mode} {ss rest : List Sign} {p : Place} {x z : Exp} → held ss (code K.With ∷ []) ≡ true →
    Reading (Row (N.Update m)) (T.update_of p x) ss z rest → Reading (Row (N.Update m) or Row (N.ExpsTail m)) (T.vector_more p x) ss z rest
vector_update h r = record { tree = Left r.tree; ends = go_left (code K.With ∷ []) h refl r.ends; shows = r.shows }

pub vector_update_stops : {m : Mode} {ss : List Sign} {e : ReadError} → held ss (code K.With ∷ []) ≡ true → StopsAt (Row (N.Update m)) ss e →
    StopsAt (Row (N.Update m) or Row (N.ExpsTail m)) ss e
vector_update_stops h s = stop_left (code K.With ∷ []) h refl s

pub vector_items : {m : Mode} {ss rest : List Sign} {p : Place} {x z : Exp} {first xs : List Exp} → held ss (code K.With ∷ []) ≡ false →
    first ≡ x ∷ [] → Reading (Row (N.ExpsTail m)) (exps_behind first) ss xs rest → z ≡ V.Group p B.Vector xs →
    Reading (Row (N.Update m) or Row (N.ExpsTail m)) (T.vector_more p x) ss z rest
vector_items {p = p} h l r e = record {
  tree = Right r.tree;
  ends = go_past (code K.With ∷ []) h refl refl refl r.ends;
  shows = (λ i. V.Group p B.Vector (((λ j. sym l j ++ T.exps_tail r.tree) ∙ r.shows) i)) ∙ sym e;
}

pub vector_items_stops : {m : Mode} {ss : List Sign} {e : ReadError} → held ss (code K.With ∷ []) ≡ false → StopsAt (Row (N.ExpsTail m)) ss e →
    StopsAt (Row (N.Update m) or Row (N.ExpsTail m)) ss e
vector_items_stops h s = stop_past (code K.With ∷ []) h refl refl refl s

pub update_all : {m : Mode} {ss a b c d rest : List Sign} {w q : Sign} {p : Place} {base first value z : Exp} {last : Option Exp} {index : Index} →
    Takes (code K.With ∷ []) ss w a → Reading (Row (N.Infix m)) T.infix_of a first b →
    Reading ((word K.DoubleDot then Row (N.Infix m)) or nothing) T.infix_if b last c → Takes (code K.Equal ∷ []) c q d →
    Reading (Row (N.Exp m)) T.exp_of d value rest → index ≡ roll-Index (record { first = first; last = last }) → z ≡ V.Update p base index value →
    Reading (Row (N.Update m)) (T.update_of p base) ss z rest
update_all {w = w} {q = q} {p = p} {base = base} {value = value} s f l t v n e = record {
  tree = Pair (Leaf w) (Pair f.tree (Pair l.tree (Pair (Leaf q) v.tree)));
  ends = row_ends (both_read s (both_read f.ends (both_read l.ends (both_read t v.ends))));
  shows = (λ i. V.Update p base (roll-Index (record { first = f.shows i; last = l.shows i })) (v.shows i)) ∙ (λ i. V.Update p base (sym n i) value) ∙
      sym e;
}

pub bound_some : {m : Mode} {ss a rest : List Sign} {s : Sign} {x : Exp} → Takes (code K.DoubleDot ∷ []) ss s a →
    Reading (Row (N.Infix m)) T.infix_of a x rest → Reading ((word K.DoubleDot then Row (N.Infix m)) or nothing) T.infix_if ss (Some x) rest
bound_some {s = s} w r = record { tree = Left (Pair (Leaf s) r.tree); ends = more_ends w r.ends; shows = λ i. Some (r.shows i) }

pub bound_none : {m : Mode} {ss : List Sign} → held ss (code K.DoubleDot ∷ []) ≡ false →
    Reading ((word K.DoubleDot then Row (N.Infix m)) or nothing) T.infix_if ss None ss
bound_none h = record { tree = Right Nothing; ends = no_more_ends refl h; shows = refl }

pub list_all : {m : Mode} {ss a rest : List Sign} {o : Sign} {xs : List Exp} {z : Exp} → Takes (code K.OpenVector ∷ []) ss o a →
    Reading (word K.CloseVector or (Row (N.Exps m) then word K.CloseVector)) T.arguments_of a xs rest → z ≡ V.Group o.place B.List xs →
    Reading (Row (N.ListExp m)) T.list_of ss z rest
list_all {o = o} s r e = record {
  tree = Pair (Leaf o) r.tree;
  ends = row_ends (both_read s r.ends);
  shows = (λ i. V.Group o.place B.List (r.shows i)) ∙ sym e;
}

-- expressions up to a closing bracket
pub items_none : {m : Mode} {ss rest : List Sign} {k : Sign} {xs : List Exp} → Takes (code K.CloseVector ∷ []) ss k rest → xs ≡ [] →
    Reading (word K.CloseVector or (Row (N.Exps m) then word K.CloseVector)) T.arguments_of ss xs rest
items_none {ss = ss} {k = k} c e = record {
  tree = Left (Leaf k);
  ends = go_left (code K.CloseVector ∷ []) (takes_held (code K.CloseVector ∷ []) ss k _ c) refl c;
  shows = sym e;
}

pub items_some : {m : Mode} {ss a rest : List Sign} {k : Sign} {xs : List Exp} → held ss (code K.CloseVector ∷ []) ≡ false →
    Reading (Row (N.Exps m)) T.exps_of ss xs a → Takes (code K.CloseVector ∷ []) a k rest →
    Reading (word K.CloseVector or (Row (N.Exps m) then word K.CloseVector)) T.arguments_of ss xs rest
items_some {k = k} h r c = record {
  tree = Right (Pair r.tree (Leaf k));
  ends = go_past (code K.CloseVector ∷ []) h refl refl refl (both_read r.ends c);
  shows = r.shows;
}

pub items_stops : {m : Mode} {ss : List Sign} {e : ReadError} → held ss (code K.CloseVector ∷ []) ≡ false →
    StopsAt (Row (N.Exps m) then word K.CloseVector) ss e → StopsAt (word K.CloseVector or (Row (N.Exps m) then word K.CloseVector)) ss e
items_stops h s = stop_past (code K.CloseVector ∷ []) h refl refl refl s

pub arguments_none : {m : Mode} {ss rest : List Sign} {k : Sign} {xs : List Exp} → Takes (code K.CloseParenthesis ∷ []) ss k rest → xs ≡ [] →
    Reading (Row (N.Arguments m)) T.arguments_of ss xs rest
arguments_none {ss = ss} {k = k} c e = record {
  tree = Left (Leaf k);
  ends = row_ends (go_left (code K.CloseParenthesis ∷ []) (takes_held (code K.CloseParenthesis ∷ []) ss k _ c) refl c);
  shows = sym e;
}

pub arguments_some : {m : Mode} {ss a rest : List Sign} {k : Sign} {xs : List Exp} → held ss (code K.CloseParenthesis ∷ []) ≡ false →
    Reading (Row (N.Exps m)) T.exps_of ss xs a → Takes (code K.CloseParenthesis ∷ []) a k rest → Reading (Row (N.Arguments m)) T.arguments_of ss xs rest
arguments_some {k = k} h r c = record {
  tree = Right (Pair r.tree (Leaf k));
  ends = row_ends (go_past (code K.CloseParenthesis ∷ []) h refl refl refl (both_read r.ends c));
  shows = r.shows;
}

pub arguments_stops : {m : Mode} {ss : List Sign} {e : ReadError} → held ss (code K.CloseParenthesis ∷ []) ≡ false →
    StopsAt (Row (N.Exps m) then word K.CloseParenthesis) ss e → StopsAt (Row (N.Arguments m)) ss e
arguments_stops h s = stops_row (stop_past (code K.CloseParenthesis ∷ []) h refl refl refl s)

-- lists of expressions
pub exps_all : {m : Mode} {ss mid rest : List Sign} {x : Exp} {first xs : List Exp} → Reading (Row (N.Exp m)) T.exp_of ss x mid → first ≡ x ∷ [] →
    Reading (Row (N.ExpsTail m)) (exps_behind first) mid xs rest → Reading (Row (N.Exps m)) T.exps_of ss xs rest
exps_all a l r = record {
  tree = Pair a.tree r.tree;
  ends = row_ends (both_read a.ends r.ends);
  shows = (λ i. a.shows i ∷ T.exps_tail r.tree) ∙ (λ i. sym l i ++ T.exps_tail r.tree) ∙ r.shows;
}

pub exps_more : {m : Mode} (items : List Exp) {more xs : List Exp} {ss after mid rest : List Sign} {s : Sign} {x : Exp} →
    Takes (code K.Comma ∷ []) ss s after → Reading (Row (N.Exp m)) T.exp_of after x mid → more ≡ items ++ x ∷ [] →
    Reading (Row (N.ExpsTail m)) (exps_behind more) mid xs rest → Reading (Row (N.ExpsTail m)) (exps_behind items) ss xs rest
exps_more items {s = s} {x = x} c a e r = record {
  tree = Left (Pair (Leaf s) (Pair a.tree r.tree));
  ends = row_ends (more_ends c (both_read a.ends r.ends));
  shows = (λ i. items ++ a.shows i ∷ T.exps_tail r.tree) ∙ sym (append_assoc items (x ∷ []) (T.exps_tail r.tree)) ∙
      (λ i. sym e i ++ T.exps_tail r.tree) ∙ r.shows;
}

pub exps_none : {m : Mode} (items : List Exp) {ss : List Sign} → held ss (code K.Comma ∷ []) ≡ false →
    Reading (Row (N.ExpsTail m)) (exps_behind items) ss items ss
exps_none items h = record { tree = Right Nothing; ends = row_ends (no_more_ends refl h); shows = append-nil items }

pub exps_more_stops : {m : Mode} {ss after mid : List Sign} {s : Sign} {x : Exp} {e : ReadError} → Takes (code K.Comma ∷ []) ss s after →
    Reading (Row (N.Exp m)) T.exp_of after x mid → StopsAt (Row (N.ExpsTail m)) mid e → StopsAt (Row (N.ExpsTail m)) ss e
exps_more_stops c a s = stops_row (more_stops c (stops_next a.ends s))

pub exps_comma_stops : {m : Mode} {ss : List Sign} {e : ReadError} → held ss (code K.Comma ∷ []) ≡ true → StopsAt (Word (code K.Comma ∷ [])) ss e →
    StopsAt (Row (N.ExpsTail m)) ss e
exps_comma_stops {m = m} {ss = ss} h s =
    stops_row (stops_left (left_word (code K.Comma ∷ []) (Row (N.Exp m) then Row (N.ExpsTail m)) nothing ss h) (stops_first s))

-- a struct
pub struct_all : {m : Mode} {ss a b c d rest : List Sign} {w o k : Sign} {name : Option Name} {vs : List FieldValue} {z : Exp} →
    Takes (code K.Struct ∷ []) ss w a → Reading (identifier or nothing) T.name_if a name b → Takes (code K.OpenBrace ∷ []) b o c →
    Reading (Row (N.FieldValues m)) T.values_of c vs d → Takes (code K.CloseBrace ∷ []) d k rest → z ≡ V.Struct w.place name vs →
    Reading (Row (N.StructExp m)) T.struct_of ss z rest
struct_all {w = w} {o = o} {k = k} s n t v c e = record {
  tree = Pair (Leaf w) (Pair n.tree (Pair (Leaf o) (Pair v.tree (Leaf k))));
  ends = row_ends (both_read s (both_read n.ends (both_read t (both_read v.ends c))));
  shows = (λ i. V.Struct w.place (n.shows i) (v.shows i)) ∙ sym e;
}

-- `assert`
pub assert_all : {ss a b c d rest : List Sign} {w o k : Sign} {x z : Exp} {text : Option (List ℕ)} → Takes (code K.Assert ∷ []) ss w a →
    Takes (code K.OpenParenthesis ∷ []) a o b → Reading (Row (N.Exp Full)) T.exp_of b x c →
    Reading ((word K.Comma then word K.StringLiteral) or nothing) T.text_if c text d → Takes (code K.CloseParenthesis ∷ []) d k rest →
    z ≡ V.Assert w.place x text → Reading (Row (N.Assertion Full)) T.assertion_of ss z rest
assert_all {w = w} {o = o} {k = k} s t r q c e = record {
  tree = Pair (Leaf w) (Pair (Leaf o) (Pair r.tree (Pair q.tree (Leaf k))));
  ends = row_ends (both_read s (both_read t (both_read r.ends (both_read q.ends c))));
  shows = (λ i. V.Assert w.place (r.shows i) (q.shows i)) ∙ sym e;
}

pub assertion_full : {m : Mode} {ss rest : List Sign} {z : Exp} → m ≡ Full → Reading (Row (N.Assertion Full)) T.assertion_of ss z rest →
    Reading (Row (N.Assertion m)) T.assertion_of ss z rest
assertion_full {ss = ss} {rest = rest} {z = z} e r = subst (λ n. Reading (Row (N.Assertion n)) T.assertion_of ss z rest) (sym e) r

pub assertion_full_stops : {m : Mode} {ss : List Sign} {e : ReadError} → m ≡ Full → StopsAt (Row (N.Assertion Full)) ss e →
    StopsAt (Row (N.Assertion m)) ss e
assertion_full_stops {ss = ss} {e = e} q s = subst (λ n. StopsAt (Row (N.Assertion n)) ss e) (sym q) s

-- a plain expression has no `assert`
forbid_stops : (ss : List Sign) (n k : ℕ) → held ss (code K.Assert ∷ []) ≡ true → n ≡ length ss → k ≡ length ss →
    StopsAt (Row (N.Assertion Limited)) ss (Forbidden n k)
forbid_stops [] n k h e f = absurd (true≢false (sym h))
forbid_stops (s ∷ ss) n k h e f = record {
  why = record { rest = s ∷ ss; begun = Some (s ∷ ss); ends = row_ends (forbid_bar h); left_is = e; from_is = λ i. Some (f i) };
}

pub assertion_forbidden : {m : Mode} {ss : List Sign} {n k : ℕ} → m ≡ Limited → held ss (code K.Assert ∷ []) ≡ true → n ≡ length ss → k ≡ length ss →
    StopsAt (Row (N.Assertion m)) ss (Forbidden n k)
assertion_forbidden {ss = ss} {n = n} {k = k} q h e f = subst (λ l. StopsAt (Row (N.Assertion l)) ss (Forbidden n k)) (sym q) (forbid_stops ss n k h e f)

pub assertion_unfit : {m : Mode} {ss : List Sign} {n : ℕ} → m ≡ Limited → held ss (code K.Assert ∷ []) ≡ false → n ≡ length ss →
    StopsAt (Row (N.Assertion m)) ss (Unfit n)
assertion_unfit {ss = ss} {n = n} q h e = subst (λ l. StopsAt (Row (N.Assertion l)) ss (Unfit n)) (sym q)
    (record { why = record { rest = ss; begun = None; ends = row_ends (forbid_stop h); left_is = e; from_is = refl } })
