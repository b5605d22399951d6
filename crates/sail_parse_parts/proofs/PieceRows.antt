-- The rows of unions and of definitions whose clauses stand apart: the readings of the parts join to the reading of a row.
use Rattle.std.proofs.Common.{◌≡◌, true, false, List, [], ◌∷◌, refl, sym}
use Rattle.sail_lex.specs.declared.kind.TokenKind.TheVariants as K
use Rattle.sail_syntax.specs.declared.name.Name.{Name}
use Rattle.sail_syntax.specs.declared.definitions.Def.{Def}
use Rattle.sail_syntax.specs.declared.definitions.Def.TheVariants as V
use Rattle.sail_syntax.specs.declared.definitions.Param.{Param}
use Rattle.sail_syntax.specs.declared.definitions.Member.{Member}
use Rattle.sail_grammar.specs.declared.error.ReadError.{ReadError}
use Rattle.sail_grammar.specs.Symbol.{Sign, code, identifiers}
use Rattle.sail_grammar.specs.RowName.{UnionDefinition, UnionClause, UnionWhole, ScatteredDefinition, EndDefinition}
use Rattle.sail_grammar.specs.RowName.{Members, Parameters}
use Rattle.sail_grammar.specs.RowName as R
use Rattle.sail_grammar.specs.Form.{Row, ◌or◌, ◌then◌, Leaf, Pair, Left, Right, held}
use Rattle.sail_grammar.specs.Ends.{both_read, row_ends, right_read}
use Rattle.sail_grammar.specs.Table.{word, identifier}
use Rattle.sail_grammar.specs.Parsing.{Reading, Takes, StopsAt}
use Rattle.sail_grammar.specs.DefTrees.{member_of, members_of, parameters_of, union_of, scattered_of, end_of}
use Rattle.sail_grammar.proofs.Steps.{stops_row, stops_next, stops_right}
use Rattle.sail_parse_tp.proofs.Choices.{go_left, go_right, go_past, stop_left, stop_right, stop_past, past_word}
use Rattle.sail_parse_parts.specs.Parts.{union_clause_behind, union_whole_behind, scattered_union_behind}
use Rattle.sail_parse_parts.specs.Parts.{scattered_function_behind, scattered_mapping_behind}
use Rattle.sail_parse_parts.proofs.Spelled.{spelled}

pub union_clause_all : (word : Sign) {ss m1 m2 m3 rest : List Sign} {k n q : Sign} {x : Member} {name : Name} → Takes (code K.Clause ∷ []) ss k m1 →
    Takes identifiers m1 n m2 → Takes (code K.Equal ∷ []) m2 q m3 → Reading (Row R.Member) member_of m3 x rest → name ≡ spelled n →
    Reading (Row UnionClause) (union_clause_behind word) ss (V.UnionClause word.place name x) rest
union_clause_all word {k = k} {n = n} {q = q} p0 p1 p2 p3 e0 = record {
  tree = Pair (Leaf k) (Pair (Leaf n) (Pair (Leaf q) p3.tree));
  ends = row_ends (both_read p0 (both_read p1 (both_read p2 p3.ends)));
  shows = λ i. V.UnionClause word.place (sym e0 i) (p3.shows i);
}

pub union_whole_all : (word : Sign) {ss m1 m2 m3 m4 m5 rest : List Sign} {n q o k : Sign} {ps : List Param} {xs : List Member} {name : Name} →
    Takes identifiers ss n m1 → Reading (Row Parameters) parameters_of m1 ps m2 → Takes (code K.Equal ∷ []) m2 q m3 →
    Takes (code K.OpenBrace ∷ []) m3 o m4 → Reading (Row Members) members_of m4 xs m5 → Takes (code K.CloseBrace ∷ []) m5 k rest → name ≡ spelled n →
    Reading (Row UnionWhole) (union_whole_behind word) ss (V.Union word.place name ps xs) rest
union_whole_all word {n = n} {q = q} {o = o} {k = k} p0 p1 p2 p3 p4 p5 e0 = record {
  tree = Pair (Leaf n) (Pair p1.tree (Pair (Leaf q) (Pair (Leaf o) (Pair p4.tree (Leaf k)))));
  ends = row_ends (both_read p0 (both_read p1.ends (both_read p2 (both_read p3 (both_read p4.ends p5)))));
  shows = λ i. V.Union word.place (sym e0 i) (p1.shows i) (p4.shows i);
}

pub scattered_union_all : (first : Sign) {ss m1 m2 rest : List Sign} {k n : Sign} {ps : List Param} {name : Name} →
    Takes (code K.Union ∷ []) ss k m1 → Takes identifiers m1 n m2 → Reading (Row Parameters) parameters_of m2 ps rest → name ≡ spelled n →
    Reading (word K.Union then identifier then Row Parameters) (scattered_union_behind first) ss (V.ScatteredUnion first.place name ps) rest
scattered_union_all first {k = k} {n = n} p0 p1 p2 e0 = record {
  tree = Pair (Leaf k) (Pair (Leaf n) p2.tree);
  ends = both_read p0 (both_read p1 p2.ends);
  shows = λ i. V.ScatteredUnion first.place (sym e0 i) (p2.shows i);
}

pub scattered_function_all : (first : Sign) {ss m1 rest : List Sign} {k n : Sign} {name : Name} → Takes (code K.Function ∷ []) ss k m1 →
    Takes identifiers m1 n rest → name ≡ spelled n →
    Reading (word K.Function then identifier) (scattered_function_behind first) ss (V.ScatteredFunction first.place name) rest
scattered_function_all first {k = k} {n = n} p0 p1 e0 = record {
  tree = Pair (Leaf k) (Leaf n);
  ends = both_read p0 p1;
  shows = λ i. V.ScatteredFunction first.place (sym e0 i);
}

pub scattered_mapping_all : (first : Sign) {ss m1 rest : List Sign} {k n : Sign} {name : Name} → Takes (code K.Mapping ∷ []) ss k m1 →
    Takes identifiers m1 n rest → name ≡ spelled n →
    Reading (word K.Mapping then identifier) (scattered_mapping_behind first) ss (V.ScatteredMapping first.place name) rest
scattered_mapping_all first {k = k} {n = n} p0 p1 e0 = record {
  tree = Pair (Leaf k) (Leaf n);
  ends = both_read p0 p1;
  shows = λ i. V.ScatteredMapping first.place (sym e0 i);
}

pub end_all : {ss m1 rest : List Sign} {w n : Sign} {name : Name} → Takes (code K.End ∷ []) ss w m1 → Takes identifiers m1 n rest → name ≡ spelled n →
    Reading (Row EndDefinition) end_of ss (V.End w.place name) rest
end_all {w = w} {n = n} p0 p1 e0 = record { tree = Pair (Leaf w) (Leaf n); ends = row_ends (both_read p0 p1); shows = λ i. V.End w.place (sym e0 i) }

pub union_by_clause : {ss a rest : List Sign} {w : Sign} {d : Def} → Takes (code K.Union ∷ []) ss w a → held a (code K.Clause ∷ []) ≡ true →
    Reading (Row UnionClause) (union_clause_behind w) a d rest → Reading (Row UnionDefinition) union_of ss d rest
union_by_clause {w = w} p h r = record {
  tree = Pair (Leaf w) (Left r.tree);
  ends = row_ends (both_read p (go_left (code K.Clause ∷ []) h refl r.ends));
  shows = r.shows;
}

pub union_by_clause_stops : {ss a : List Sign} {w : Sign} {e : ReadError} → Takes (code K.Union ∷ []) ss w a → held a (code K.Clause ∷ []) ≡ true →
    StopsAt (Row UnionClause) a e → StopsAt (Row UnionDefinition) ss e
union_by_clause_stops p h s = stops_row (stops_next p (stop_left (code K.Clause ∷ []) h refl s))

pub union_in_one : {ss a rest : List Sign} {w : Sign} {d : Def} → Takes (code K.Union ∷ []) ss w a → held a (code K.Clause ∷ []) ≡ false →
    Reading (Row UnionWhole) (union_whole_behind w) a d rest → Reading (Row UnionDefinition) union_of ss d rest
union_in_one {w = w} p h r = record {
  tree = Pair (Leaf w) (Right r.tree);
  ends = row_ends (both_read p (go_past (code K.Clause ∷ []) h refl refl refl r.ends));
  shows = r.shows;
}

pub union_in_one_stops : {ss a : List Sign} {w : Sign} {e : ReadError} → Takes (code K.Union ∷ []) ss w a → held a (code K.Clause ∷ []) ≡ false →
    StopsAt (Row UnionWhole) a e → StopsAt (Row UnionDefinition) ss e
union_in_one_stops p h s = stops_row (stops_next p (stop_past (code K.Clause ∷ []) h refl refl refl s))

-- the openings, each by its second word
pub scattered_as_union : {ss a rest : List Sign} {w : Sign} {d : Def} → Takes (code K.Scattered ∷ []) ss w a → held a (code K.Union ∷ []) ≡ true →
    Reading (word K.Union then identifier then Row Parameters) (scattered_union_behind w) a d rest →
    Reading (Row ScatteredDefinition) scattered_of ss d rest
scattered_as_union {w = w} p h r = record {
  tree = Pair (Leaf w) (Left r.tree);
  ends = row_ends (both_read p (go_left (code K.Union ∷ []) h refl r.ends));
  shows = r.shows;
}

pub scattered_as_union_stops : {ss a : List Sign} {w : Sign} {e : ReadError} → Takes (code K.Scattered ∷ []) ss w a →
    held a (code K.Union ∷ []) ≡ true → StopsAt (word K.Union then identifier then Row Parameters) a e → StopsAt (Row ScatteredDefinition) ss e
scattered_as_union_stops p h s = stops_row (stops_next p (stop_left (code K.Union ∷ []) h refl s))

pub scattered_as_function : {ss a rest : List Sign} {w : Sign} {d : Def} → Takes (code K.Scattered ∷ []) ss w a →
    held a (code K.Function ∷ []) ≡ true → Reading (word K.Function then identifier) (scattered_function_behind w) a d rest →
    Reading (Row ScatteredDefinition) scattered_of ss d rest
scattered_as_function {w = w} p h r = record {
  tree = Pair (Leaf w) (Right (Left r.tree));
  ends = row_ends (both_read p (go_right (code K.Function ∷ []) h refl (go_left (code K.Function ∷ []) h refl r.ends)));
  shows = r.shows;
}

pub scattered_as_function_stops : {ss a : List Sign} {w : Sign} {e : ReadError} → Takes (code K.Scattered ∷ []) ss w a →
    held a (code K.Function ∷ []) ≡ true → StopsAt (word K.Function then identifier) a e → StopsAt (Row ScatteredDefinition) ss e
scattered_as_function_stops p h s = stops_row (stops_next p (stop_right (code K.Function ∷ []) h refl (stop_left (code K.Function ∷ []) h refl s)))

pub scattered_as_mapping : {ss a rest : List Sign} {w : Sign} {d : Def} → Takes (code K.Scattered ∷ []) ss w a → held a (code K.Union ∷ []) ≡ false →
    held a (code K.Function ∷ []) ≡ false → Reading (word K.Mapping then identifier) (scattered_mapping_behind w) a d rest →
    Reading (Row ScatteredDefinition) scattered_of ss d rest
scattered_as_mapping {a = a} {w = w} p h g r = record {
  tree = Pair (Leaf w) (Right (Right r.tree));
  ends = row_ends (both_read p (right_read (past_word (code K.Union ∷ []) (identifier then Row Parameters)
      (word K.Function then identifier or word K.Mapping then identifier) a refl h)
      (right_read (past_word (code K.Function ∷ []) identifier (word K.Mapping then identifier) a refl g) r.ends)));
  shows = r.shows;
}

pub scattered_as_mapping_stops : {ss a : List Sign} {w : Sign} {e : ReadError} → Takes (code K.Scattered ∷ []) ss w a →
    held a (code K.Union ∷ []) ≡ false → held a (code K.Function ∷ []) ≡ false → StopsAt (word K.Mapping then identifier) a e →
    StopsAt (Row ScatteredDefinition) ss e
scattered_as_mapping_stops {a = a} p h g s =
    stops_row (stops_next p (stops_right (past_word (code K.Union ∷ []) (identifier then Row Parameters)
    (word K.Function then identifier or word K.Mapping then identifier) a refl h)
    (stops_right (past_word (code K.Function ∷ []) identifier (word K.Mapping then identifier) a refl g) s)))
