-- The rows of types: the readings of the parts join to the reading of a row.
use Rattle.std.proofs.Common.{◌≡◌, ℕ, ◌++◌, Bool, true, false, List, [], ◌∷◌, refl, sym, ◌∙◌, ap, subst, append_assoc, append-nil, map}
use Rattle.std.specs.Prelude.{ℤ, Option, Some, None}
use Rattle.sail_lex.specs.declared.kind.TokenKind.TheVariants as K
use Rattle.sail_syntax.specs.declared.name.Name.{Name}
use Rattle.sail_syntax.specs.declared.types.TyExp.{TyExp}
use Rattle.sail_syntax.specs.declared.types.TyExp.TheVariants as V
use Rattle.sail_syntax.specs.declared.words.TypeOperator.{TypeOperator}
use Rattle.sail_syntax.specs.declared.words.TypeOperator.TheVariants as O
use Rattle.sail_syntax.specs.declared.words.TypePrefix.TheVariants as P
use Rattle.sail_grammar.specs.declared.error.ReadError.{ReadError}
use Rattle.sail_grammar.specs.declared.mode.Mode.{Mode}
use Rattle.sail_grammar.specs.declared.mode.Mode.TheVariants.{Full, Limited}
use Rattle.sail_grammar.specs.Symbol.{Sign, code, two, identifiers, numbers}
use Rattle.sail_grammar.specs.RowName.{
  RowName,
  Typ,
  TypeAnd,
  TypeComparison,
  TypeSet,
  NumbersTail,
  TypeSum,
  TypeSumMore,
  TypeProduct,
  TypeProductMore,
  TypeAtom,
  TypeNamed,
  TypePower,
  TypeNegation,
  TypeNot,
  TypeGroup,
  TypeExists,
  TypeVariables,
  Types,
  TypesTail,
}
use Rattle.sail_grammar.specs.Form.{Form, Word, Row, ◌or◌, ◌then◌, Tree, Nothing, Leaf, Pair, Left, Right, held, look}
use Rattle.sail_grammar.specs.Ends.{both_read, row_ends, left_read, right_read, empty_read}
use Rattle.sail_grammar.specs.Sets.{grammar}
use Rattle.sail_grammar.specs.Table.{nothing, word, words, type_comparisons}
use Rattle.sail_grammar.specs.Parsing.{Reading, Takes, StopsAt}
use Rattle.sail_grammar.specs.Leaves.{number_of}
use Rattle.sail_grammar.specs.TypeTrees.{
  numbers_tail_of,
  typ_of,
  type_and_of,
  type_comparison_of,
  in_set_of,
  in_some_set_of,
  set_of,
  type_sum_of,
  type_sum_more_of,
  type_product_of,
  type_product_more_of,
  type_atom_of,
  type_named_of,
  type_power_of,
  type_negation_of,
  type_not_of,
  type_group_of,
  type_exists_of,
  type_variable_of,
  type_decimal_of,
  type_truth_of,
  type_constraint_of,
  type_variables_of,
  grouped_type,
  types_of,
  types_tail_of,
  type_operator,
}
use Rattle.sail_grammar.proofs.Steps.{
  left_word,
  stops_row,
  stops_first,
  stops_next,
  stops_left,
  stops_right,
  some_ends,
  none_ends,
  more_ends,
  no_more_ends,
  more_stops,
  none_in,
  right_nothing,
  held_none,
}
use Rattle.sail_parse_tp.specs.Behind.{numbers_behind, variables_behind, types_behind}
use Rattle.sail_parse_tp.proofs.Choices.{go_left, go_right, go_past, stop_left, stop_right, stop_past, past_word}

pub typ_some : {m : Mode} {ss mid after rest : List Sign} {s : Sign} {x y z : TyExp} → Reading (Row (TypeAnd m)) type_and_of ss x mid →
    Takes (code K.Bar ∷ []) mid s after → Reading (Row (Typ m)) typ_of after y rest → z ≡ V.Infix s.place O.Or x y → Reading (Row (Typ m)) typ_of ss z rest
typ_some {s = s} a w b e = record {
  tree = Pair a.tree (Left (Pair (Leaf s) b.tree));
  ends = row_ends (some_ends a.ends w b.ends);
  shows = (λ i. V.Infix s.place O.Or (a.shows i) (b.shows i)) ∙ sym e;
}

pub typ_none : {m : Mode} {ss mid : List Sign} {x : TyExp} → Reading (Row (TypeAnd m)) type_and_of ss x mid → held mid (code K.Bar ∷ []) ≡ false →
    Reading (Row (Typ m)) typ_of ss x mid
typ_none a h = record { tree = Pair a.tree (Right Nothing); ends = row_ends (none_ends a.ends refl h); shows = a.shows }

pub and_some : {m : Mode} {ss mid after rest : List Sign} {s : Sign} {x y z : TyExp} → Reading (Row (TypeComparison m)) type_comparison_of ss x mid →
    Takes (code K.Ampersand ∷ []) mid s after → Reading (Row (TypeAnd m)) type_and_of after y rest → z ≡ V.Infix s.place O.And x y →
    Reading (Row (TypeAnd m)) type_and_of ss z rest
and_some {s = s} a w b e = record {
  tree = Pair a.tree (Left (Pair (Leaf s) b.tree));
  ends = row_ends (some_ends a.ends w b.ends);
  shows = (λ i. V.Infix s.place O.And (a.shows i) (b.shows i)) ∙ sym e;
}

pub and_none : {m : Mode} {ss mid : List Sign} {x : TyExp} → Reading (Row (TypeComparison m)) type_comparison_of ss x mid →
    held mid (code K.Ampersand ∷ []) ≡ false → Reading (Row (TypeAnd m)) type_and_of ss x mid
and_none a h = record { tree = Pair a.tree (Right Nothing); ends = row_ends (none_ends a.ends refl h); shows = a.shows }

abbrev pub comparison_symbols : List ℕ
comparison_symbols = map code type_comparisons

pub comparison_some : {m : Mode} {ss mid after rest : List Sign} {s : Sign} {x y z : TyExp} {o : TypeOperator} →
    Reading (Row TypeSum) type_sum_of ss x mid → Takes comparison_symbols mid s after → Reading (Row TypeSum) type_sum_of after y rest →
    o ≡ type_operator s.kind → z ≡ V.Infix s.place o x y → Reading (Row (TypeComparison m)) type_comparison_of ss z rest
comparison_some {s = s} {x = x} {y = y} a w b k e = record {
  tree = Pair a.tree (Left (Pair (Leaf s) b.tree));
  ends = row_ends (some_ends a.ends w b.ends);
  shows = (λ i. V.Infix s.place (type_operator s.kind) (a.shows i) (b.shows i)) ∙ (λ i. V.Infix s.place (sym k i) x y) ∙ sym e;
}

pub comparison_set : {m : Mode} {ss mid rest : List Sign} {x z : TyExp} → Reading (Row TypeSum) type_sum_of ss x mid →
    held mid comparison_symbols ≡ false → Reading (Row (TypeSet m) or nothing) (in_set_of x) mid z rest →
    Reading (Row (TypeComparison m)) type_comparison_of ss z rest
comparison_set {m = m} {mid = mid} a h r = record {
  tree = Pair a.tree (Right r.tree);
  ends = row_ends (both_read a.ends (right_read (past_word comparison_symbols (Row TypeSum) (Row (TypeSet m) or nothing) mid refl h) r.ends));
  shows = (λ i. in_set_of (a.shows i) r.tree) ∙ r.shows;
}

pub comparison_set_stops : {m : Mode} {ss mid : List Sign} {x : TyExp} {e : ReadError} → Reading (Row TypeSum) type_sum_of ss x mid →
    held mid comparison_symbols ≡ false → StopsAt (Row (TypeSet m) or nothing) mid e → StopsAt (Row (TypeComparison m)) ss e
comparison_set_stops {m = m} {mid = mid} a h s = stops_row (stops_next a.ends (stops_right (past_word comparison_symbols (Row TypeSum) (Row (TypeSet
    m) or nothing) mid refl h) s))

-- a set behind a number, or none
pub set_limited : {m : Mode} {ss : List Sign} {x : TyExp} → m ≡ Limited → Reading (Row (TypeSet m) or nothing) (in_set_of x) ss x ss
set_limited {ss = ss} {x = x} e = subst (λ n. Reading (Row (TypeSet n) or nothing) (in_set_of x) ss x ss) (sym e) (record {
  tree = Right Nothing;
  ends = right_read (right_nothing (Row (TypeSet Limited)) ss refl) (empty_read (none_in ss));
  shows = refl;
})

pub set_none : {m : Mode} {ss : List Sign} {x : TyExp} → m ≡ Full → held ss (code K.In ∷ []) ≡ false →
    Reading (Row (TypeSet m) or nothing) (in_set_of x) ss x ss
set_none {ss = ss} {x = x} e h = subst (λ n. Reading (Row (TypeSet n) or nothing) (in_set_of x) ss x ss) (sym e) (record {
  tree = Right Nothing;
  ends = right_read (right_nothing (Row (TypeSet Full)) ss (held_none (code K.In ∷ []) ss refl h)) (empty_read (none_in ss));
  shows = refl;
})

pub set_some : {m : Mode} {ss rest : List Sign} {x z : TyExp} → m ≡ Full → held ss (code K.In ∷ []) ≡ true →
    Reading (Row (TypeSet Full)) (in_some_set_of x) ss z rest → Reading (Row (TypeSet m) or nothing) (in_set_of x) ss z rest
set_some {ss = ss} {rest = rest} {x = x} {z = z} e h r = subst (λ n. Reading (Row (TypeSet n) or nothing) (in_set_of x) ss z rest) (sym e) (record {
  tree = Left r.tree;
  ends = go_left (code K.In ∷ []) h refl r.ends;
  shows = r.shows;
})

pub set_stops : {m : Mode} {ss : List Sign} {e : ReadError} → m ≡ Full → held ss (code K.In ∷ []) ≡ true → StopsAt (Row (TypeSet Full)) ss e →
    StopsAt (Row (TypeSet m) or nothing) ss e
set_stops {ss = ss} {e = e} f h s = subst (λ n. StopsAt (Row (TypeSet n) or nothing) ss e) (sym f) (stop_left (code K.In ∷ []) h refl s)

pub in_some_set_all : (x : TyExp) {ss a b c d rest : List Sign} {w o n k : Sign} {z : TyExp} {list choices : List ℤ} →
    Takes (code K.In ∷ []) ss w a → Takes (code K.OpenBrace ∷ []) a o b → Takes numbers b n c → list ≡ number_of n.text ∷ [] →
    Reading (Row NumbersTail) (numbers_behind list) c choices d → Takes (code K.CloseBrace ∷ []) d k rest → z ≡ V.OneOf w.place x choices →
    Reading (Row (TypeSet Full)) (in_some_set_of x) ss z rest
in_some_set_all x {w = w} {o = o} {n = n} {k = k} i s f l t e m = record {
  tree = Pair (Leaf w) (Pair (Leaf o) (Pair (Leaf n) (Pair t.tree (Leaf k))));
  ends = row_ends (both_read i (both_read s (both_read f (both_read t.ends e))));
  shows = (λ j. V.OneOf w.place x (((λ q. sym l q ++ numbers_tail_of t.tree) ∙ t.shows) j)) ∙ sym m;
}

-- chains of sums and of products
pub sum_all : {ss mid rest : List Sign} {x z : TyExp} → Reading (Row TypeProduct) type_product_of ss x mid →
    Reading (Row TypeSumMore) (type_sum_more_of x) mid z rest → Reading (Row TypeSum) type_sum_of ss z rest
sum_all a b = record { tree = Pair a.tree b.tree; ends = row_ends (both_read a.ends b.ends); shows = (λ i. type_sum_more_of (a.shows i) b.tree) ∙ b.shows }

pub product_all : {ss mid rest : List Sign} {x z : TyExp} → Reading (Row TypeAtom) type_atom_of ss x mid →
    Reading (Row TypeProductMore) (type_product_more_of x) mid z rest → Reading (Row TypeProduct) type_product_of ss z rest
product_all a b = record {
  tree = Pair a.tree b.tree;
  ends = row_ends (both_read a.ends b.ends);
  shows = (λ i. type_product_more_of (a.shows i) b.tree) ∙ b.shows;
}

abbrev pub sign_symbols : List ℕ
sign_symbols = code K.Plus ∷ code K.Minus ∷ []

pub sum_some : {ss after mid rest : List Sign} {s : Sign} {x y b z : TyExp} {o : TypeOperator} → Takes sign_symbols ss s after →
    Reading (Row TypeProduct) type_product_of after y mid → o ≡ type_operator s.kind → b ≡ V.Infix s.place o x y →
    Reading (Row TypeSumMore) (type_sum_more_of b) mid z rest → Reading (Row TypeSumMore) (type_sum_more_of x) ss z rest
sum_some {s = s} {x = x} {y = y} w p k e r = record {
  tree = Left (Pair (Leaf s) (Pair p.tree r.tree));
  ends = row_ends (more_ends w (both_read p.ends r.ends));
  shows = (λ i. type_sum_more_of (V.Infix s.place (type_operator s.kind) x (p.shows i)) r.tree) ∙
      (λ i. type_sum_more_of (V.Infix s.place (sym k i) x y) r.tree) ∙ (λ i. type_sum_more_of (sym e i) r.tree) ∙ r.shows;
}

pub sum_none : {ss : List Sign} {x : TyExp} → held ss sign_symbols ≡ false → Reading (Row TypeSumMore) (type_sum_more_of x) ss x ss
sum_none h = record { tree = Right Nothing; ends = row_ends (no_more_ends refl h); shows = refl }

pub product_some : {ss after mid rest : List Sign} {s : Sign} {x y b z : TyExp} → Takes (code K.Star ∷ []) ss s after →
    Reading (Row TypeAtom) type_atom_of after y mid → b ≡ V.Infix s.place O.Star x y →
    Reading (Row TypeProductMore) (type_product_more_of b) mid z rest → Reading (Row TypeProductMore) (type_product_more_of x) ss z rest
product_some {s = s} {x = x} w p e r = record {
  tree = Left (Pair (Leaf s) (Pair p.tree r.tree));
  ends = row_ends (more_ends w (both_read p.ends r.ends));
  shows = (λ i. type_product_more_of (V.Infix s.place O.Star x (p.shows i)) r.tree) ∙ (λ i. type_product_more_of (sym e i) r.tree) ∙ r.shows;
}

pub product_none : {ss : List Sign} {x : TyExp} → held ss (code K.Star ∷ []) ≡ false → Reading (Row TypeProductMore) (type_product_more_of x) ss x ss
product_none h = record { tree = Right Nothing; ends = row_ends (no_more_ends refl h); shows = refl }

-- the operands, each by its first token
pub atom_named : {ss rest : List Sign} {t : TyExp} → held ss identifiers ≡ true → Reading (Row TypeNamed) type_named_of ss t rest →
    Reading (Row TypeAtom) type_atom_of ss t rest
atom_named h x = record { tree = Left x.tree; ends = row_ends (go_left identifiers h refl x.ends); shows = x.shows }

pub atom_named_stops : {ss : List Sign} {e : ReadError} → held ss identifiers ≡ true → StopsAt (Row TypeNamed) ss e → StopsAt (Row TypeAtom) ss e
atom_named_stops h s = stops_row (stop_left identifiers h refl s)

pub atom_variable : {ss rest : List Sign} {t : TyExp} → held ss (code K.TypeVariable ∷ []) ≡ true →
    Reading (word K.TypeVariable) type_variable_of ss t rest → Reading (Row TypeAtom) type_atom_of ss t rest
atom_variable h x = record {
  tree = Right (Left x.tree);
  ends = row_ends (go_right (code K.TypeVariable ∷ []) h refl (go_left (code K.TypeVariable ∷
      []) h refl x.ends));
  shows = x.shows;
}

pub atom_variable_stops : {ss : List Sign} {e : ReadError} → held ss (code K.TypeVariable ∷ []) ≡ true → StopsAt (word K.TypeVariable) ss e →
    StopsAt (Row TypeAtom) ss e
atom_variable_stops h s = stops_row (stop_right (code K.TypeVariable ∷ []) h refl (stop_left (code K.TypeVariable ∷ []) h refl s))

pub atom_power : {ss rest : List Sign} {t : TyExp} → held ss (two ∷ []) ≡ true → Reading (Row TypePower) type_power_of ss t rest →
    Reading (Row TypeAtom) type_atom_of ss t rest
atom_power h x = record {
  tree = Right (Right (Left x.tree));
  ends = row_ends (go_right (two ∷ []) h refl (go_right (two ∷ []) h refl (go_left (two ∷
      []) h refl x.ends)));
  shows = x.shows;
}

pub atom_power_stops : {ss : List Sign} {e : ReadError} → held ss (two ∷ []) ≡ true → StopsAt (Row TypePower) ss e → StopsAt (Row TypeAtom) ss e
atom_power_stops h s = stops_row (stop_right (two ∷ []) h refl (stop_right (two ∷ []) h refl (stop_left (two ∷ []) h refl s)))

pub atom_decimal : {ss rest : List Sign} {t : TyExp} → held ss (code K.Decimal ∷ []) ≡ true → Reading (word K.Decimal) type_decimal_of ss t rest →
    Reading (Row TypeAtom) type_atom_of ss t rest
atom_decimal h x = record {
  tree = Right (Right (Right (Left x.tree)));
  ends = row_ends (go_right (code K.Decimal ∷ []) h refl (go_right (code K.Decimal ∷ []) h refl (go_right (code K.Decimal ∷ []) h refl (go_left
      (code K.Decimal ∷ []) h refl x.ends))));
  shows = x.shows;
}

pub atom_decimal_stops : {ss : List Sign} {e : ReadError} → held ss (code K.Decimal ∷ []) ≡ true → StopsAt (word K.Decimal) ss e →
    StopsAt (Row TypeAtom) ss e
atom_decimal_stops h s = stops_row (stop_right (code K.Decimal ∷ []) h refl (stop_right (code K.Decimal ∷ []) h refl (stop_right (code K.Decimal ∷
    []) h refl (stop_left (code K.Decimal ∷ []) h refl s))))

pub atom_negation : {ss rest : List Sign} {t : TyExp} → held ss (code K.Minus ∷ []) ≡ true → Reading (Row TypeNegation) type_negation_of ss t rest →
    Reading (Row TypeAtom) type_atom_of ss t rest
atom_negation h x = record {
  tree = Right (Right (Right (Right (Left x.tree))));
  ends = row_ends (go_right (code K.Minus ∷ []) h refl (go_right (code K.Minus ∷ []) h refl (go_right (code K.Minus ∷ []) h refl (go_right (code
      K.Minus ∷ []) h refl (go_left (code K.Minus ∷ []) h refl x.ends)))));
  shows = x.shows;
}

pub atom_negation_stops : {ss : List Sign} {e : ReadError} → held ss (code K.Minus ∷ []) ≡ true → StopsAt (Row TypeNegation) ss e →
    StopsAt (Row TypeAtom) ss e
atom_negation_stops h s = stops_row (stop_right (code K.Minus ∷ []) h refl (stop_right (code K.Minus ∷ []) h refl (stop_right (code K.Minus ∷ []) h
    refl (stop_right (code K.Minus ∷ []) h refl (stop_left (code K.Minus ∷ []) h refl s)))))

pub atom_truth : {ss rest : List Sign} {t : TyExp} → held ss (code K.True ∷ code K.False ∷ []) ≡ true →
    Reading (words (K.True ∷ K.False ∷ [])) type_truth_of ss t rest → Reading (Row TypeAtom) type_atom_of ss t rest
atom_truth h x = record {
  tree = Right (Right (Right (Right (Right (Left x.tree)))));
  ends = row_ends (go_right (code K.True ∷ code K.False ∷ []) h refl (go_right (code K.True ∷ code K.False ∷ []) h refl (go_right (code K.True ∷
      code K.False ∷ []) h refl (go_right (code K.True ∷ code K.False ∷ []) h refl (go_right (code K.True ∷ code K.False ∷ []) h refl (go_left (code
      K.True ∷ code K.False ∷ []) h refl x.ends))))));
  shows = x.shows;
}

pub atom_truth_stops : {ss : List Sign} {e : ReadError} → held ss (code K.True ∷ code K.False ∷ []) ≡ true →
    StopsAt (words (K.True ∷ K.False ∷ [])) ss e → StopsAt (Row TypeAtom) ss e
atom_truth_stops h s = stops_row (stop_right (code K.True ∷ code K.False ∷ []) h refl (stop_right (code K.True ∷ code K.False ∷ []) h refl
    (stop_right (code K.True ∷ code K.False ∷ []) h refl (stop_right (code K.True ∷ code K.False ∷ []) h refl (stop_right (code K.True ∷ code K.False
    ∷ []) h refl (stop_left (code K.True ∷ code K.False ∷ []) h refl s))))))

pub atom_not : {ss rest : List Sign} {t : TyExp} → held ss (code K.Not ∷ []) ≡ true → Reading (Row TypeNot) type_not_of ss t rest →
    Reading (Row TypeAtom) type_atom_of ss t rest
atom_not h x = record {
  tree = Right (Right (Right (Right (Right (Right (Left x.tree))))));
  ends = row_ends (go_right (code K.Not ∷ []) h refl (go_right (code K.Not ∷ []) h refl (go_right (code K.Not ∷ []) h refl (go_right (code K.Not ∷
      []) h refl (go_right (code K.Not ∷ []) h refl (go_right (code K.Not ∷ []) h refl (go_left (code K.Not ∷ []) h refl x.ends)))))));
  shows = x.shows;
}

pub atom_not_stops : {ss : List Sign} {e : ReadError} → held ss (code K.Not ∷ []) ≡ true → StopsAt (Row TypeNot) ss e → StopsAt (Row TypeAtom) ss e
atom_not_stops h s = stops_row (stop_right (code K.Not ∷ []) h refl (stop_right (code K.Not ∷ []) h refl (stop_right (code K.Not ∷ []) h refl
    (stop_right (code K.Not ∷ []) h refl (stop_right (code K.Not ∷ []) h refl (stop_right (code K.Not ∷ []) h refl (stop_left (code K.Not ∷ []) h
    refl s)))))))

pub atom_group : {ss rest : List Sign} {t : TyExp} → held ss (code K.OpenParenthesis ∷ []) ≡ true → Reading (Row TypeGroup) type_group_of ss t rest →
    Reading (Row TypeAtom) type_atom_of ss t rest
atom_group h x = record {
  tree = Right (Right (Right (Right (Right (Right (Right (Left x.tree)))))));
  ends = row_ends (go_right (code K.OpenParenthesis ∷ []) h refl (go_right (code K.OpenParenthesis ∷ []) h refl (go_right (code K.OpenParenthesis ∷
      []) h refl (go_right (code K.OpenParenthesis ∷ []) h refl (go_right (code K.OpenParenthesis ∷ []) h refl (go_right (code K.OpenParenthesis ∷ [])
      h refl (go_right (code K.OpenParenthesis ∷ []) h refl (go_left (code K.OpenParenthesis ∷ []) h refl x.ends))))))));
  shows = x.shows;
}

pub atom_group_stops : {ss : List Sign} {e : ReadError} → held ss (code K.OpenParenthesis ∷ []) ≡ true → StopsAt (Row TypeGroup) ss e →
    StopsAt (Row TypeAtom) ss e
atom_group_stops h s = stops_row (stop_right (code K.OpenParenthesis ∷ []) h refl (stop_right (code K.OpenParenthesis ∷ []) h refl (stop_right (code
    K.OpenParenthesis ∷ []) h refl (stop_right (code K.OpenParenthesis ∷ []) h refl (stop_right (code K.OpenParenthesis ∷ []) h refl (stop_right
    (code K.OpenParenthesis ∷ []) h refl (stop_right (code K.OpenParenthesis ∷ []) h refl (stop_left (code K.OpenParenthesis ∷ []) h refl s))))))))

pub atom_exists : {ss rest : List Sign} {t : TyExp} → held ss identifiers ≡ false → held ss (code K.TypeVariable ∷ []) ≡ false →
    held ss (two ∷ []) ≡ false → held ss (code K.Decimal ∷ []) ≡ false → held ss (code K.Minus ∷ []) ≡ false →
    held ss (code K.True ∷ code K.False ∷ []) ≡ false → held ss (code K.Not ∷ []) ≡ false → held ss (code K.OpenParenthesis ∷ []) ≡ false →
    Reading (Row TypeExists) type_exists_of ss t rest → Reading (Row TypeAtom) type_atom_of ss t rest
atom_exists h0 h1 h2 h3 h4 h5 h6 h7 x = record {
  tree = Right (Right (Right (Right (Right (Right (Right (Right x.tree)))))));
  ends = row_ends (go_past identifiers h0 refl refl refl (go_past (code K.TypeVariable ∷ []) h1 refl refl refl (go_past (two ∷ []) h2 refl refl
      refl (go_past (code K.Decimal ∷ []) h3 refl refl refl (go_past (code K.Minus ∷ []) h4 refl refl refl (go_past (code K.True ∷ code K.False ∷ [])
      h5 refl refl refl (go_past (code K.Not ∷ []) h6 refl refl refl (go_past (code K.OpenParenthesis ∷ []) h7 refl refl refl x.ends))))))));
  shows = x.shows;
}

pub atom_exists_stops : {ss : List Sign} {e : ReadError} → held ss identifiers ≡ false → held ss (code K.TypeVariable ∷ []) ≡ false →
    held ss (two ∷ []) ≡ false → held ss (code K.Decimal ∷ []) ≡ false → held ss (code K.Minus ∷ []) ≡ false →
    held ss (code K.True ∷ code K.False ∷ []) ≡ false → held ss (code K.Not ∷ []) ≡ false → held ss (code K.OpenParenthesis ∷ []) ≡ false →
    StopsAt (Row TypeExists) ss e → StopsAt (Row TypeAtom) ss e
atom_exists_stops h0 h1 h2 h3 h4 h5 h6 h7 s = stops_row (stop_past identifiers h0 refl refl refl (stop_past (code K.TypeVariable ∷ []) h1 refl refl
    refl (stop_past (two ∷ []) h2 refl refl refl (stop_past (code K.Decimal ∷ []) h3 refl refl refl (stop_past (code K.Minus ∷ []) h4 refl refl refl
    (stop_past (code K.True ∷ code K.False ∷ []) h5 refl refl refl (stop_past (code K.Not ∷ []) h6 refl refl refl (stop_past (code K.OpenParenthesis
    ∷ []) h7 refl refl refl s))))))))

-- operands of several tokens
abbrev pub spelled : Sign → Name
spelled s = record { place = s.place; text = s.text }

pub named_some : {ss a b c rest : List Sign} {n o k : Sign} {name : Name} {xs : List TyExp} → Takes identifiers ss n a → name ≡ spelled n →
    Takes (code K.OpenParenthesis ∷ []) a o b → Reading (Row Types) types_of b xs c → Takes (code K.CloseParenthesis ∷ []) c k rest →
    Reading (Row TypeNamed) type_named_of ss (V.Named name xs) rest
named_some {n = n} {o = o} {k = k} i e s r c = record {
  tree = Pair (Leaf n) (Left (Pair (Leaf o) (Pair r.tree (Leaf k))));
  ends = row_ends (some_ends i s (both_read r.ends c));
  shows = λ j. V.Named (sym e j) (r.shows j);
}

pub named_none : {ss a : List Sign} {n : Sign} {name : Name} {xs : List TyExp} → Takes identifiers ss n a → name ≡ spelled n →
    held a (code K.OpenParenthesis ∷ []) ≡ false → xs ≡ [] → Reading (Row TypeNamed) type_named_of ss (V.Named name xs) a
named_none {n = n} i e h l = record {
  tree = Pair (Leaf n) (Right Nothing);
  ends = row_ends (none_ends i refl h);
  shows = λ j. V.Named (sym e j) (sym l j);
}

pub power_some : {ss a b rest : List Sign} {n s : Sign} {x z : TyExp} → Takes (two ∷ []) ss n a → Takes (code K.Caret ∷ []) a s b →
    Reading (Row TypeAtom) type_atom_of b x rest → z ≡ V.Prefix s.place P.Power x → Reading (Row TypePower) type_power_of ss z rest
power_some {n = n} {s = s} t w r e = record {
  tree = Pair (Leaf n) (Left (Pair (Leaf s) r.tree));
  ends = row_ends (some_ends t w r.ends);
  shows = (λ i. V.Prefix s.place P.Power (r.shows i)) ∙ sym e;
}

pub power_none : {ss a : List Sign} {n : Sign} {z : TyExp} → Takes (two ∷ []) ss n a → held a (code K.Caret ∷ []) ≡ false →
    z ≡ V.Number n.place (number_of n.text) → Reading (Row TypePower) type_power_of ss z a
power_none {n = n} t h e = record {
  tree = Pair (Leaf n) (Right Nothing);
  ends = row_ends (none_ends t refl h);
  shows = sym e;
}

pub negation_all : {ss a rest : List Sign} {s : Sign} {x z : TyExp} → Takes (code K.Minus ∷ []) ss s a →
    Reading (Row TypeAtom) type_atom_of a x rest → z ≡ V.Prefix s.place P.Negate x → Reading (Row TypeNegation) type_negation_of ss z rest
negation_all {s = s} w r e = record {
  tree = Pair (Leaf s) r.tree;
  ends = row_ends (both_read w r.ends);
  shows = (λ i. V.Prefix s.place P.Negate (r.shows i)) ∙ sym e;
}

pub not_all : {ss a b c rest : List Sign} {w o k : Sign} {x z : TyExp} → Takes (code K.Not ∷ []) ss w a → Takes (code K.OpenParenthesis ∷ []) a o b →
    Reading (Row (Typ Full)) typ_of b x c → Takes (code K.CloseParenthesis ∷ []) c k rest → z ≡ V.Prefix w.place P.Not x →
    Reading (Row TypeNot) type_not_of ss z rest
not_all {w = w} {o = o} {k = k} n s r c e = record {
  tree = Pair (Leaf w) (Pair (Leaf o) (Pair r.tree (Leaf k)));
  ends = row_ends (both_read n (both_read s (both_read r.ends c)));
  shows = (λ i. V.Prefix w.place P.Not (r.shows i)) ∙ sym e;
}

pub group_all : {ss a b rest : List Sign} {o k : Sign} {xs : List TyExp} {z : TyExp} → Takes (code K.OpenParenthesis ∷ []) ss o a →
    Reading (Row Types) types_of a xs b → Takes (code K.CloseParenthesis ∷ []) b k rest → z ≡ grouped_type o.place xs →
    Reading (Row TypeGroup) type_group_of ss z rest
group_all {o = o} {k = k} s r c e = record {
  tree = Pair (Leaf o) (Pair r.tree (Leaf k));
  ends = row_ends (both_read s (both_read r.ends c));
  shows = (λ i. grouped_type o.place (r.shows i)) ∙ sym e;
}

pub exists_all : {ss a b c d f g rest : List Sign} {o v p k : Sign} {first vars : List Name} {limit : Option TyExp} {x z : TyExp} →
    Takes (code K.OpenBrace ∷ []) ss o a → Takes (code K.TypeVariable ∷ []) a v b → first ≡ spelled v ∷ [] →
    Reading (Row TypeVariables) (variables_behind first) b vars c →
    Reading ((word K.Comma then Row (Typ Full)) or nothing) type_constraint_of c limit d → Takes (code K.Dot ∷ []) d p f →
    Reading (Row (Typ Full)) typ_of f x g → Takes (code K.CloseBrace ∷ []) g k rest → z ≡ V.Exists o.place vars limit x →
    Reading (Row TypeExists) type_exists_of ss z rest
exists_all {o = o} {v = v} {p = p} {k = k} s t l vs q w r c e = record {
  tree = Pair (Leaf o) (Pair (Leaf v) (Pair vs.tree (Pair q.tree (Pair (Leaf p) (Pair r.tree (Leaf k))))));
  ends = row_ends (both_read s (both_read t (both_read vs.ends (both_read q.ends (both_read w (both_read r.ends c))))));
  shows = (λ i. V.Exists o.place (((λ j. sym l j ++ type_variables_of vs.tree) ∙ vs.shows) i) (q.shows i) (r.shows i)) ∙ sym e;
}

pub constraint_some : {ss a rest : List Sign} {s : Sign} {x y : TyExp} → Takes (code K.Comma ∷ []) ss s a →
    Reading (Row (Typ Full)) typ_of a x rest → y ≡ x → Reading ((word K.Comma then Row (Typ Full)) or nothing) type_constraint_of ss (Some y) rest
constraint_some {s = s} w r e = record { tree = Left (Pair (Leaf s) r.tree); ends = more_ends w r.ends; shows = λ i. Some ((r.shows ∙ sym e) i) }

pub constraint_none : {ss : List Sign} → held ss (code K.Comma ∷ []) ≡ false →
    Reading ((word K.Comma then Row (Typ Full)) or nothing) type_constraint_of ss None ss
constraint_none h = record { tree = Right Nothing; ends = no_more_ends refl h; shows = refl }

-- lists of types
pub types_all : {ss mid rest : List Sign} {x : TyExp} {first xs : List TyExp} → Reading (Row (Typ Full)) typ_of ss x mid → first ≡ x ∷ [] →
    Reading (Row TypesTail) (types_behind first) mid xs rest → Reading (Row Types) types_of ss xs rest
types_all a l r = record {
  tree = Pair a.tree r.tree;
  ends = row_ends (both_read a.ends r.ends);
  shows = (λ i. a.shows i ∷ types_tail_of r.tree) ∙ (λ i. sym l i ++ types_tail_of r.tree) ∙ r.shows;
}

pub types_more : (items : List TyExp) {more xs : List TyExp} {ss after mid rest : List Sign} {s : Sign} {x : TyExp} →
    Takes (code K.Comma ∷ []) ss s after → Reading (Row (Typ Full)) typ_of after x mid → more ≡ items ++ x ∷ [] →
    Reading (Row TypesTail) (types_behind more) mid xs rest → Reading (Row TypesTail) (types_behind items) ss xs rest
types_more items {s = s} {x = x} c a m r = record {
  tree = Left (Pair (Leaf s) (Pair a.tree r.tree));
  ends = row_ends (more_ends c (both_read a.ends r.ends));
  shows = (λ i. items ++ a.shows i ∷ types_tail_of r.tree) ∙ sym (append_assoc items (x ∷ []) (types_tail_of r.tree)) ∙
      (λ i. sym m i ++ types_tail_of r.tree) ∙ r.shows;
}

pub types_none : (items : List TyExp) {ss : List Sign} → held ss (code K.Comma ∷ []) ≡ false → Reading (Row TypesTail) (types_behind items) ss items ss
types_none items h = record { tree = Right Nothing; ends = row_ends (no_more_ends refl h); shows = append-nil items }

pub types_more_stops : {ss after mid : List Sign} {s : Sign} {x : TyExp} {e : ReadError} → Takes (code K.Comma ∷ []) ss s after →
    Reading (Row (Typ Full)) typ_of after x mid → StopsAt (Row TypesTail) mid e → StopsAt (Row TypesTail) ss e
types_more_stops c a s = stops_row (more_stops c (stops_next a.ends s))

pub types_comma_stops : {ss : List Sign} {e : ReadError} → held ss (code K.Comma ∷ []) ≡ true → StopsAt (Word (code K.Comma ∷ [])) ss e →
    StopsAt (Row TypesTail) ss e
types_comma_stops {ss = ss} h s = stops_row (stops_left (left_word (code K.Comma ∷ []) (Row (Typ Full) then Row TypesTail) nothing ss h) (stops_first s))
