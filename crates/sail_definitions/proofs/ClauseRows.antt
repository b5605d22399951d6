-- The rows of mappings: the readings of the parts join to the reading of a row.
use Rattle.std.proofs.Common.{◌≡◌, ◌++◌, ◌<◌, true, false, List, [], ◌∷◌, length, refl, sym, ◌∙◌, append_assoc}
use Rattle.std.proofs.Common.{append-nil}
use Rattle.std.specs.Prelude.{Option, Some, None}
use Rattle.sail_base.specs.declared.place.Place.{Place}
use Rattle.sail_lex.specs.declared.kind.TokenKind.TheVariants as K
use Rattle.sail_syntax.specs.declared.name.Name.{Name}
use Rattle.sail_syntax.specs.declared.types.TyExp.{TyExp}
use Rattle.sail_syntax.specs.declared.patterns.Pat.{Pat}
use Rattle.sail_syntax.specs.declared.expressions.Exp.{Exp}
use Rattle.sail_syntax.specs.declared.definitions.Def.{Def}
use Rattle.sail_syntax.specs.declared.definitions.Def.TheVariants as V
use Rattle.sail_syntax.specs.declared.definitions.Sides.{Sides}
use Rattle.sail_syntax.specs.declared.definitions.Side.{Side}
use Rattle.sail_syntax.specs.declared.definitions.MappingClause.{MappingClause}
use Rattle.sail_grammar.specs.declared.error.ReadError.{ReadError}
use Rattle.sail_grammar.specs.declared.mode.Mode.TheVariants.{Full, Limited}
use Rattle.sail_grammar.specs.Symbol.{Sign, code, identifiers}
use Rattle.sail_grammar.specs.RowName.{MappingDefinition, MappingClauseDefinition, MappingWhole, MappingClauses}
use Rattle.sail_grammar.specs.RowName.{MappingClausesTail, MappingClausesMore, MappingSide, Typ, Pattern}
use Rattle.sail_grammar.specs.RowName as R
use Rattle.sail_grammar.specs.Form.{Word, Row, ◌or◌, ◌then◌, Nothing, Leaf, Pair, Left, Right, held}
use Rattle.sail_grammar.specs.Ends.{both_read, row_ends, right_read}
use Rattle.sail_grammar.specs.Table.{nothing, word}
use Rattle.sail_grammar.specs.Parsing.{Reading, Takes, StopsAt}
use Rattle.sail_grammar.specs.Leaves.{place_ahead}
use Rattle.sail_grammar.specs.TypeTrees.{typ_of}
use Rattle.sail_grammar.specs.PatternTrees.{pattern_of}
use Rattle.sail_grammar.specs.ExpTrees.{behind_word}
use Rattle.sail_grammar.specs.DefTrees.{sides_if, side_of, mapping_clause_of, mapping_clauses_tail}
use Rattle.sail_grammar.specs.DefTrees.{mapping_clauses_of, mapping_of}
use Rattle.sail_grammar.proofs.FirstToken.{first_place_ahead}
use Rattle.sail_grammar.proofs.Steps.{left_word, stops_row, stops_first, stops_next, stops_left, stops_right}
use Rattle.sail_grammar.proofs.Steps.{more_ends, no_more_ends, more_stops, takes_held}
use Rattle.sail_parse_tp.proofs.Choices.{go_left, go_past, stop_left, stop_past, past_word}
use Rattle.sail_definitions.specs.Behind.{clauses_behind}
use Rattle.sail_definitions.specs.Parts.{mapping_clause_behind, mapping_whole_behind}
use Rattle.sail_parse_parts.proofs.Spelled.{spelled}

pub side_all : {ss m1 rest : List Sign} {p : Pat} {g : Option Exp} → Reading (Row (Pattern Limited)) pattern_of ss p m1 →
    Reading (word K.If then Row (R.Exp Full) or nothing) behind_word m1 g rest →
    Reading (Row MappingSide) side_of ss (record { pattern = p; guard = g }) rest
side_all p0 p1 = record {
  tree = Pair p0.tree p1.tree;
  ends = row_ends (both_read p0.ends p1.ends);
  shows = λ i. record { pattern = (p0.shows i); guard = (p1.shows i) };
}

pub clause_definition_all : (first : Sign) {ss m1 m2 m3 rest : List Sign} {k n q : Sign} {x : MappingClause} {name : Name} →
    Takes (code K.Clause ∷ []) ss k m1 → Takes identifiers m1 n m2 → Takes (code K.Equal ∷ []) m2 q m3 →
    Reading (Row R.MappingClause) mapping_clause_of m3 x rest → name ≡ spelled n →
    Reading (Row MappingClauseDefinition) (mapping_clause_behind first) ss (V.MappingClause first.place name x) rest
clause_definition_all first {k = k} {n = n} {q = q} p0 p1 p2 p3 e0 = record {
  tree = Pair (Leaf k) (Pair (Leaf n) (Pair (Leaf q) p3.tree));
  ends = row_ends (both_read p0 (both_read p1 (both_read p2 p3.ends)));
  shows = λ i. V.MappingClause first.place (sym e0 i) (p3.shows i);
}

pub whole_all : (first : Sign) {ss m1 m2 m3 m4 rest : List Sign} {n q o : Sign} {s : Option Sides} {xs : List MappingClause} {name : Name} →
    Takes identifiers ss n m1 → Reading (word K.Colon then Row (Typ Full) then word K.DoubleArrow then Row (Typ Full) or nothing) sides_if m1 s m2 →
    Takes (code K.Equal ∷ []) m2 q m3 → Takes (code K.OpenBrace ∷ []) m3 o m4 → Reading (Row MappingClauses) mapping_clauses_of m4 xs rest →
    name ≡ spelled n → Reading (Row MappingWhole) (mapping_whole_behind first) ss (V.Mapping first.place name s xs) rest
whole_all first {n = n} {q = q} {o = o} p0 p1 p2 p3 p4 e0 = record {
  tree = Pair (Leaf n) (Pair p1.tree (Pair (Leaf q) (Pair (Leaf o) p4.tree)));
  ends = row_ends (both_read p0 (both_read p1.ends (both_read p2 (both_read p3 p4.ends))));
  shows = λ i. V.Mapping first.place (sym e0 i) (p1.shows i) (p4.shows i);
}

pub clauses_all : {ss a rest : List Sign} {x : MappingClause} {first xs : List MappingClause} →
    Reading (Row R.MappingClause) mapping_clause_of ss x a → first ≡ x ∷ [] → Reading (Row MappingClausesTail) (clauses_behind first) a xs rest →
    Reading (Row MappingClauses) mapping_clauses_of ss xs rest
clauses_all a l r = record {
  tree = Pair a.tree r.tree;
  ends = row_ends (both_read a.ends r.ends);
  shows = (λ i. a.shows i ∷ mapping_clauses_tail r.tree) ∙ (λ i. sym l i ++ mapping_clauses_tail r.tree) ∙ r.shows;
}

pub clause_all : {ss a b rest : List Sign} {w : Sign} {place : Place} {x y : Side} → place ≡ place_ahead ss →
    Reading (Row MappingSide) side_of ss x a → length a < length ss → Takes (code K.DoubleArrow ∷ []) a w b →
    Reading (Row MappingSide) side_of b y rest →
    Reading (Row R.MappingClause) mapping_clause_of ss (record { place = place; left = x; right = y }) rest
clause_all {w = w} e p lt s q = record {
  tree = Pair p.tree (Pair (Leaf w) q.tree);
  ends = row_ends (both_read p.ends (both_read s q.ends));
  shows = λ i. record { place = (first_place_ahead p.ends lt ∙ sym e) i; left = p.shows i; right = q.shows i };
}

-- a clause more
pub clause_more : (items : List MappingClause) {ss after next rest : List Sign} {s : Sign} {m : MappingClause} {x more : List MappingClause} →
    Takes (code K.Comma ∷ []) ss s after → held after (code K.CloseBrace ∷ []) ≡ false →
    Reading (Row R.MappingClause) mapping_clause_of after m next → more ≡ items ++ m ∷ [] →
    Reading (Row MappingClausesTail) (clauses_behind more) next x rest → Reading (Row MappingClausesTail) (clauses_behind items) ss x rest
clause_more items {m = m} c h a l r = record {
  tree = Left (Pair (Leaf _) (Right (Pair a.tree r.tree)));
  ends = row_ends (more_ends c (row_ends (go_past (code K.CloseBrace ∷ []) h refl refl refl (both_read a.ends r.ends))));
  shows = (λ i. items ++ a.shows i ∷ mapping_clauses_tail r.tree) ∙ sym (append_assoc items (m ∷ []) (mapping_clauses_tail r.tree)) ∙
      (λ i. sym l i ++ mapping_clauses_tail r.tree) ∙ r.shows;
}

-- none, behind a last comma and without one
pub clauses_comma : (items : List MappingClause) {ss after rest : List Sign} {s k : Sign} → Takes (code K.Comma ∷ []) ss s after →
    Takes (code K.CloseBrace ∷ []) after k rest → Reading (Row MappingClausesTail) (clauses_behind items) ss items rest
clauses_comma items {after = after} {rest = rest} {k = k} c w = record {
  tree = Left (Pair (Leaf _) (Left (Leaf k)));
  ends = row_ends (more_ends c (row_ends (go_left (code K.CloseBrace ∷ []) (takes_held (code K.CloseBrace ∷ []) after k rest w) refl w)));
  shows = append-nil items;
}

pub clauses_end : (items : List MappingClause) {ss rest : List Sign} {k : Sign} → held ss (code K.Comma ∷ []) ≡ false →
    Takes (code K.CloseBrace ∷ []) ss k rest → Reading (Row MappingClausesTail) (clauses_behind items) ss items rest
clauses_end items {ss = ss} {k = k} h w = record {
  tree = Right (Leaf k);
  ends = row_ends (right_read (past_word (code K.Comma ∷ []) (Row MappingClausesMore) (word K.CloseBrace) ss refl h) w);
  shows = append-nil items;
}

pub clause_more_stops : {ss after next : List Sign} {s : Sign} {m : MappingClause} {e : ReadError} → Takes (code K.Comma ∷ []) ss s after →
    held after (code K.CloseBrace ∷ []) ≡ false → Reading (Row R.MappingClause) mapping_clause_of after m next →
    StopsAt (Row MappingClausesTail) next e → StopsAt (Row MappingClausesTail) ss e
clause_more_stops c h a q = stops_row (more_stops c (stops_row (stop_past (code K.CloseBrace ∷ []) h refl refl refl (stops_next a.ends q))))

pub clause_comma_stops : {ss : List Sign} {e : ReadError} → held ss (code K.Comma ∷ []) ≡ true → StopsAt (Word (code K.Comma ∷ [])) ss e →
    StopsAt (Row MappingClausesTail) ss e
clause_comma_stops {ss = ss} h s =
    stops_row (stops_left (left_word (code K.Comma ∷ []) (Row MappingClausesMore) (word K.CloseBrace) ss h) (stops_first s))

pub clause_close_stops : {ss after : List Sign} {s : Sign} {e : ReadError} → Takes (code K.Comma ∷ []) ss s after →
    held after (code K.CloseBrace ∷ []) ≡ true → StopsAt (Word (code K.CloseBrace ∷ [])) after e → StopsAt (Row MappingClausesTail) ss e
clause_close_stops c h q = stops_row (more_stops c (stops_row (stop_left (code K.CloseBrace ∷ []) h refl q)))

pub clause_stops : {ss after : List Sign} {s : Sign} {e : ReadError} → Takes (code K.Comma ∷ []) ss s after →
    held after (code K.CloseBrace ∷ []) ≡ false → StopsAt (Row R.MappingClause) after e → StopsAt (Row MappingClausesTail) ss e
clause_stops c h q = stops_row (more_stops c (stops_row (stop_past (code K.CloseBrace ∷ []) h refl refl refl (stops_first q))))

pub clauses_end_stops : {ss : List Sign} {e : ReadError} → held ss (code K.Comma ∷ []) ≡ false → StopsAt (Word (code K.CloseBrace ∷ [])) ss e →
    StopsAt (Row MappingClausesTail) ss e
clauses_end_stops {ss = ss} h q = stops_row (stops_right (past_word (code K.Comma ∷ []) (Row MappingClausesMore) (word K.CloseBrace) ss refl h) q)

-- the types of the sides
pub sides_some : {ss a b d rest : List Sign} {o w : Sign} {t u : TyExp} → Takes (code K.Colon ∷ []) ss o a → Reading (Row (Typ Full)) typ_of a t b →
    Takes (code K.DoubleArrow ∷ []) b w d → Reading (Row (Typ Full)) typ_of d u rest →
    Reading (word K.Colon then Row (Typ Full) then word K.DoubleArrow then Row (Typ Full) or nothing) sides_if ss
    (Some (record { left = t; right = u })) rest
sides_some {o = o} {w = w} s p q r = record {
  tree = Left (Pair (Leaf o) (Pair p.tree (Pair (Leaf w) r.tree)));
  ends = more_ends s (both_read p.ends (both_read q r.ends));
  shows = λ i. Some (record { left = p.shows i; right = r.shows i });
}

pub sides_none : {ss : List Sign} → held ss (code K.Colon ∷ []) ≡ false →
    Reading (word K.Colon then Row (Typ Full) then word K.DoubleArrow then Row (Typ Full) or nothing) sides_if ss None ss
sides_none h = record { tree = Right Nothing; ends = no_more_ends refl h; shows = refl }

pub mapping_by_clause : {ss a rest : List Sign} {w : Sign} {d : Def} → Takes (code K.Mapping ∷ []) ss w a → held a (code K.Clause ∷ []) ≡ true →
    Reading (Row MappingClauseDefinition) (mapping_clause_behind w) a d rest → Reading (Row MappingDefinition) mapping_of ss d rest
mapping_by_clause {w = w} p h r = record {
  tree = Pair (Leaf w) (Left r.tree);
  ends = row_ends (both_read p (go_left (code K.Clause ∷ []) h refl r.ends));
  shows = r.shows;
}

pub mapping_by_clause_stops : {ss a : List Sign} {w : Sign} {e : ReadError} → Takes (code K.Mapping ∷ []) ss w a →
    held a (code K.Clause ∷ []) ≡ true → StopsAt (Row MappingClauseDefinition) a e → StopsAt (Row MappingDefinition) ss e
mapping_by_clause_stops p h s = stops_row (stops_next p (stop_left (code K.Clause ∷ []) h refl s))

pub mapping_whole : {ss a rest : List Sign} {w : Sign} {d : Def} → Takes (code K.Mapping ∷ []) ss w a → held a (code K.Clause ∷ []) ≡ false →
    Reading (Row MappingWhole) (mapping_whole_behind w) a d rest → Reading (Row MappingDefinition) mapping_of ss d rest
mapping_whole {w = w} p h r = record {
  tree = Pair (Leaf w) (Right r.tree);
  ends = row_ends (both_read p (go_past (code K.Clause ∷ []) h refl refl refl r.ends));
  shows = r.shows;
}

pub mapping_whole_stops : {ss a : List Sign} {w : Sign} {e : ReadError} → Takes (code K.Mapping ∷ []) ss w a → held a (code K.Clause ∷ []) ≡ false →
    StopsAt (Row MappingWhole) a e → StopsAt (Row MappingDefinition) ss e
mapping_whole_stops p h s = stops_row (stops_next p (stop_past (code K.Clause ∷ []) h refl refl refl s))
