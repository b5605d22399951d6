-- The rows of definitions: the readings of the parts join to the reading of a row.
use Rattle.std.proofs.Common.{◌≡◌, ℕ, ◌++◌, ◌<◌, Bool, true, false, List, [], ◌∷◌, length, arith, refl, sym, ◌∙◌}
use Rattle.std.proofs.Common.{ap, subst, append_assoc, append-nil}
use Rattle.std.specs.Prelude.{Option, ◌||◌, ◌&&◌, ◌==◌, not, if◌then◌else◌}
use Rattle.std.proofs.lemmas.Bool.{true≢false, ne_eqb}
use Rattle.sail_base.specs.declared.kind.Kind.{Kind}
use Rattle.sail_lex.specs.declared.kind.TokenKind.{TokenKind}
use Rattle.sail_lex.specs.declared.kind.TokenKind.TheVariants as K
use Rattle.sail_syntax.specs.declared.name.Name.{Name}
use Rattle.sail_syntax.specs.declared.types.TyExp.{TyExp}
use Rattle.sail_syntax.specs.declared.definitions.Def.{Def}
use Rattle.sail_syntax.specs.declared.definitions.Def.TheVariants as V
use Rattle.sail_syntax.specs.declared.definitions.Param.{Param}
use Rattle.sail_syntax.specs.declared.definitions.Member.{Member}
use Rattle.sail_syntax.specs.declared.definitions.Overloaded.{Overloaded}
use Rattle.sail_grammar.specs.declared.error.ReadError.{ReadError}
use Rattle.sail_grammar.specs.declared.mode.Mode.TheVariants.{Full}
use Rattle.sail_grammar.specs.Symbol.{Sign, symbol, code, two, kind_name, identifiers, is_two, is_kind_name}
use Rattle.sail_grammar.specs.RowName.{Definition, Definitions, OrderDefinition, TypeDefinition, EnumDefinition}
use Rattle.sail_grammar.specs.RowName.{EnumMembers, EnumBars, StructDefinition, UnionDefinition, ValDefinition}
use Rattle.sail_grammar.specs.RowName.{FunctionDefinition, MeasureDefinition, MappingDefinition, LetDefinition}
use Rattle.sail_grammar.specs.RowName.{RegisterDefinition, OverloadDefinition, ScatteredDefinition, EndDefinition}
use Rattle.sail_grammar.specs.RowName.{Names, Members, Parameters, KindMark, Typ}
use Rattle.sail_grammar.specs.Form.{Row, ◌or◌, ◌then◌, Nothing, Leaf, Pair, Left, Right, among, held, look}
use Rattle.sail_grammar.specs.Ends.{both_read, row_ends, left_read, right_read, empty_read}
use Rattle.sail_grammar.specs.Sets.{grammar}
use Rattle.sail_grammar.specs.Test.{may_left, starts}
use Rattle.sail_grammar.specs.Table.{word, words, identifier, operators, codes_of, ending, every_kind}
use Rattle.sail_grammar.specs.Parsing.{Reading, Takes, StopsAt}
use Rattle.sail_grammar.specs.TypeTrees.{typ_of}
use Rattle.sail_grammar.specs.DefTrees.{kind_if, names_of, members_of, parameters_of, enum_members_of}
use Rattle.sail_grammar.specs.DefTrees.{overloaded_of, order_of, alias_of, enum_of, struct_definition_of, union_of}
use Rattle.sail_grammar.specs.DefTrees.{val_of, function_of, measure_definition_of, mapping_of, let_definition_of}
use Rattle.sail_grammar.specs.DefTrees.{register_of, overload_of, scattered_of, end_of, def_of, defs_of}
use Rattle.sail_grammar.proofs.Steps.{stops_row, stops_first, stops_next, stops_left}
use Rattle.sail_parse_tp.proofs.Choices.{go_left, go_right, go_past, stop_left, stop_right, stop_past}
use Rattle.sail_definitions.specs.Behind.{defs_behind}
use Rattle.sail_parse_parts.proofs.Spelled.{spelled}

pub order_all : {ss m1 m2 rest : List Sign} {w o k : Sign} → Takes (code K.Default ∷ []) ss w m1 → Takes (code K.Order ∷ []) m1 o m2 →
    Takes (code K.Dec ∷ []) m2 k rest → Reading (Row OrderDefinition) order_of ss (V.Order w.place) rest
order_all {w = w} {o = o} {k = k} p0 p1 p2 = record {
  tree = Pair (Leaf w) (Pair (Leaf o) (Leaf k));
  ends = row_ends (both_read p0 (both_read p1 p2));
  shows = λ i. V.Order w.place;
}

pub alias_all : {ss m1 m2 m3 m4 m5 rest : List Sign} {w n q : Sign} {ps : List Param} {k : Option Kind} {t : TyExp} {name : Name} →
    Takes (code K.TypeWord ∷ []) ss w m1 → Takes identifiers m1 n m2 → Reading (Row Parameters) parameters_of m2 ps m3 →
    Reading (Row KindMark) kind_if m3 k m4 → Takes (code K.Equal ∷ []) m4 q m5 → Reading (Row (Typ Full)) typ_of m5 t rest → name ≡ spelled n →
    Reading (Row TypeDefinition) alias_of ss (V.Alias w.place name ps k t) rest
alias_all {w = w} {n = n} {q = q} p0 p1 p2 p3 p4 p5 e0 = record {
  tree = Pair (Leaf w) (Pair (Leaf n) (Pair p2.tree (Pair p3.tree (Pair (Leaf q) p5.tree))));
  ends = row_ends (both_read p0 (both_read p1 (both_read p2.ends (both_read p3.ends (both_read p4 p5.ends)))));
  shows = λ i. V.Alias w.place (sym e0 i) (p2.shows i) (p3.shows i) (p5.shows i);
}

pub enum_definition_all : {ss m1 m2 m3 rest : List Sign} {w n q : Sign} {xs : List Name} {name : Name} → Takes (code K.Enum ∷ []) ss w m1 →
    Takes identifiers m1 n m2 → Takes (code K.Equal ∷ []) m2 q m3 →
    Reading (Row EnumMembers or identifier then Row EnumBars) enum_members_of m3 xs rest → name ≡ spelled n →
    Reading (Row EnumDefinition) enum_of ss (V.Enum w.place name xs) rest
enum_definition_all {w = w} {n = n} {q = q} p0 p1 p2 p3 e0 = record {
  tree = Pair (Leaf w) (Pair (Leaf n) (Pair (Leaf q) p3.tree));
  ends = row_ends (both_read p0 (both_read p1 (both_read p2 p3.ends)));
  shows = λ i. V.Enum w.place (sym e0 i) (p3.shows i);
}

pub struct_definition_all : {ss m1 m2 m3 m4 m5 m6 rest : List Sign} {w n q o k : Sign} {ps : List Param} {xs : List Member} {name : Name} →
    Takes (code K.Struct ∷ []) ss w m1 → Takes identifiers m1 n m2 → Reading (Row Parameters) parameters_of m2 ps m3 →
    Takes (code K.Equal ∷ []) m3 q m4 → Takes (code K.OpenBrace ∷ []) m4 o m5 → Reading (Row Members) members_of m5 xs m6 →
    Takes (code K.CloseBrace ∷ []) m6 k rest → name ≡ spelled n →
    Reading (Row StructDefinition) struct_definition_of ss (V.Struct w.place name ps xs) rest
struct_definition_all {w = w} {n = n} {q = q} {o = o} {k = k} p0 p1 p2 p3 p4 p5 p6 e0 = record {
  tree = Pair (Leaf w) (Pair (Leaf n) (Pair p2.tree (Pair (Leaf q) (Pair (Leaf o) (Pair p5.tree (Leaf k))))));
  ends = row_ends (both_read p0 (both_read p1 (both_read p2.ends (both_read p3 (both_read p4 (both_read p5.ends p6))))));
  shows = λ i. V.Struct w.place (sym e0 i) (p2.shows i) (p5.shows i);
}

pub overload_all : {ss m1 m2 m3 m4 m5 rest : List Sign} {w q o k : Sign} {x : Overloaded} {xs : List Name} → Takes (code K.Overload ∷ []) ss w m1 →
    Reading (identifier or word K.Operator then words operators) overloaded_of m1 x m2 → Takes (code K.Equal ∷ []) m2 q m3 →
    Takes (code K.OpenBrace ∷ []) m3 o m4 → Reading (Row Names) names_of m4 xs m5 → Takes (code K.CloseBrace ∷ []) m5 k rest →
    Reading (Row OverloadDefinition) overload_of ss (V.Overload w.place x xs) rest
overload_all {w = w} {q = q} {o = o} {k = k} p0 p1 p2 p3 p4 p5 = record {
  tree = Pair (Leaf w) (Pair p1.tree (Pair (Leaf q) (Pair (Leaf o) (Pair p4.tree (Leaf k)))));
  ends = row_ends (both_read p0 (both_read p1.ends (both_read p2 (both_read p3 (both_read p4.ends p5)))));
  shows = λ i. V.Overload w.place (p1.shows i) (p4.shows i);
}

-- the definitions, each by its first word
pub by_order : {ss rest : List Sign} {d : Def} → held ss (code K.Default ∷ []) ≡ true → Reading (Row OrderDefinition) order_of ss d rest →
    Reading (Row Definition) def_of ss d rest
by_order h x = record { tree = Left x.tree; ends = row_ends (go_left (code K.Default ∷ []) h refl x.ends); shows = x.shows }

pub by_order_stops : {ss : List Sign} {e : ReadError} → held ss (code K.Default ∷ []) ≡ true → StopsAt (Row OrderDefinition) ss e →
    StopsAt (Row Definition) ss e
by_order_stops h s = stops_row (stop_left (code K.Default ∷ []) h refl s)

pub by_alias : {ss rest : List Sign} {d : Def} → held ss (code K.TypeWord ∷ []) ≡ true → Reading (Row TypeDefinition) alias_of ss d rest →
    Reading (Row Definition) def_of ss d rest
by_alias h x = record {
  tree = Right (Left x.tree);
  ends = row_ends (go_right (code K.TypeWord ∷ []) h refl (go_left (code K.TypeWord ∷ []) h refl x.ends));
  shows = x.shows;
}

pub by_alias_stops : {ss : List Sign} {e : ReadError} → held ss (code K.TypeWord ∷ []) ≡ true → StopsAt (Row TypeDefinition) ss e →
    StopsAt (Row Definition) ss e
by_alias_stops h s = stops_row (stop_right (code K.TypeWord ∷ []) h refl (stop_left (code K.TypeWord ∷ []) h refl s))

pub by_enum_definition : {ss rest : List Sign} {d : Def} → held ss (code K.Enum ∷ []) ≡ true → Reading (Row EnumDefinition) enum_of ss d rest →
    Reading (Row Definition) def_of ss d rest
by_enum_definition h x = record {
  tree = Right (Right (Left x.tree));
  ends = row_ends (go_right (code K.Enum ∷ []) h refl (go_right (code K.Enum ∷ []) h refl (go_left (code K.Enum ∷ []) h refl x.ends)));
  shows = x.shows;
}

pub by_enum_definition_stops : {ss : List Sign} {e : ReadError} → held ss (code K.Enum ∷ []) ≡ true → StopsAt (Row EnumDefinition) ss e →
    StopsAt (Row Definition) ss e
by_enum_definition_stops h s =
    stops_row (stop_right (code K.Enum ∷ []) h refl (stop_right (code K.Enum ∷ []) h refl (stop_left (code K.Enum ∷ []) h refl s)))

pub by_struct_definition : {ss rest : List Sign} {d : Def} → held ss (code K.Struct ∷ []) ≡ true →
    Reading (Row StructDefinition) struct_definition_of ss d rest → Reading (Row Definition) def_of ss d rest
by_struct_definition h x = record {
  tree = Right (Right (Right (Left x.tree)));
  ends = row_ends (go_right (code K.Struct ∷ []) h refl (go_right (code K.Struct ∷ []) h refl
      (go_right (code K.Struct ∷ []) h refl (go_left (code K.Struct ∷ []) h refl x.ends))));
  shows = x.shows;
}

pub by_struct_definition_stops : {ss : List Sign} {e : ReadError} → held ss (code K.Struct ∷ []) ≡ true → StopsAt (Row StructDefinition) ss e →
    StopsAt (Row Definition) ss e
by_struct_definition_stops h s =
    stops_row (stop_right (code K.Struct ∷ []) h refl (stop_right (code K.Struct ∷ []) h refl
    (stop_right (code K.Struct ∷ []) h refl (stop_left (code K.Struct ∷ []) h refl s))))

pub by_union_definition : {ss rest : List Sign} {d : Def} → held ss (code K.Union ∷ []) ≡ true → Reading (Row UnionDefinition) union_of ss d rest →
    Reading (Row Definition) def_of ss d rest
by_union_definition h x = record {
  tree = Right (Right (Right (Right (Left x.tree))));
  ends = row_ends (go_right (code K.Union ∷ []) h refl (go_right (code K.Union ∷ []) h refl
      (go_right (code K.Union ∷ []) h refl (go_right (code K.Union ∷ []) h refl (go_left (code K.Union ∷ []) h refl x.ends)))));
  shows = x.shows;
}

pub by_union_definition_stops : {ss : List Sign} {e : ReadError} → held ss (code K.Union ∷ []) ≡ true → StopsAt (Row UnionDefinition) ss e →
    StopsAt (Row Definition) ss e
by_union_definition_stops h s =
    stops_row (stop_right (code K.Union ∷ []) h refl (stop_right (code K.Union ∷ []) h refl
    (stop_right (code K.Union ∷ []) h refl (stop_right (code K.Union ∷ []) h refl (stop_left (code K.Union ∷ []) h refl s)))))

pub by_val : {ss rest : List Sign} {d : Def} → held ss (code K.Val ∷ []) ≡ true → Reading (Row ValDefinition) val_of ss d rest →
    Reading (Row Definition) def_of ss d rest
by_val h x = record {
  tree = Right (Right (Right (Right (Right (Left x.tree)))));
  ends = row_ends (go_right (code K.Val ∷ []) h refl (go_right (code K.Val ∷ []) h refl
      (go_right (code K.Val ∷ []) h refl (go_right (code K.Val ∷ []) h refl
      (go_right (code K.Val ∷ []) h refl (go_left (code K.Val ∷ []) h refl x.ends))))));
  shows = x.shows;
}

pub by_val_stops : {ss : List Sign} {e : ReadError} → held ss (code K.Val ∷ []) ≡ true → StopsAt (Row ValDefinition) ss e →
    StopsAt (Row Definition) ss e
by_val_stops h s =
    stops_row (stop_right (code K.Val ∷ []) h refl (stop_right (code K.Val ∷ []) h refl
    (stop_right (code K.Val ∷ []) h refl (stop_right (code K.Val ∷ []) h refl
    (stop_right (code K.Val ∷ []) h refl (stop_left (code K.Val ∷ []) h refl s))))))

pub by_function : {ss rest : List Sign} {d : Def} → held ss (code K.Function ∷ []) ≡ true → Reading (Row FunctionDefinition) function_of ss d rest →
    Reading (Row Definition) def_of ss d rest
by_function h x = record {
  tree = Right (Right (Right (Right (Right (Right (Left x.tree))))));
  ends = row_ends (go_right (code K.Function ∷ []) h refl (go_right (code K.Function ∷ []) h refl
      (go_right (code K.Function ∷ []) h refl (go_right (code K.Function ∷ []) h refl
      (go_right (code K.Function ∷ []) h refl (go_right (code K.Function ∷ []) h refl (go_left (code K.Function ∷ []) h refl x.ends)))))));
  shows = x.shows;
}

pub by_function_stops : {ss : List Sign} {e : ReadError} → held ss (code K.Function ∷ []) ≡ true → StopsAt (Row FunctionDefinition) ss e →
    StopsAt (Row Definition) ss e
by_function_stops h s =
    stops_row (stop_right (code K.Function ∷ []) h refl (stop_right (code K.Function ∷ []) h refl
    (stop_right (code K.Function ∷ []) h refl (stop_right (code K.Function ∷ []) h refl
    (stop_right (code K.Function ∷ []) h refl (stop_right (code K.Function ∷ []) h refl (stop_left (code K.Function ∷ []) h refl s)))))))

pub by_measure : {ss rest : List Sign} {d : Def} → held ss (code K.TerminationMeasure ∷ []) ≡ true →
    Reading (Row MeasureDefinition) measure_definition_of ss d rest → Reading (Row Definition) def_of ss d rest
by_measure h x = record {
  tree = Right (Right (Right (Right (Right (Right (Right (Left x.tree)))))));
  ends = row_ends (go_right (code K.TerminationMeasure ∷ []) h refl (go_right (code K.TerminationMeasure ∷ []) h refl
      (go_right (code K.TerminationMeasure ∷ []) h refl (go_right (code K.TerminationMeasure ∷ []) h refl
      (go_right (code K.TerminationMeasure ∷ []) h refl (go_right (code K.TerminationMeasure ∷ []) h refl
      (go_right (code K.TerminationMeasure ∷ []) h refl (go_left (code K.TerminationMeasure ∷ []) h refl x.ends))))))));
  shows = x.shows;
}

pub by_measure_stops : {ss : List Sign} {e : ReadError} → held ss (code K.TerminationMeasure ∷ []) ≡ true → StopsAt (Row MeasureDefinition) ss e →
    StopsAt (Row Definition) ss e
by_measure_stops h s =
    stops_row (stop_right (code K.TerminationMeasure ∷ []) h refl (stop_right (code K.TerminationMeasure ∷ []) h refl
    (stop_right (code K.TerminationMeasure ∷ []) h refl (stop_right (code K.TerminationMeasure ∷ []) h refl
    (stop_right (code K.TerminationMeasure ∷ []) h refl (stop_right (code K.TerminationMeasure ∷ []) h refl
    (stop_right (code K.TerminationMeasure ∷ []) h refl (stop_left (code K.TerminationMeasure ∷ []) h refl s))))))))

pub by_mapping : {ss rest : List Sign} {d : Def} → held ss (code K.Mapping ∷ []) ≡ true → Reading (Row MappingDefinition) mapping_of ss d rest →
    Reading (Row Definition) def_of ss d rest
by_mapping h x = record {
  tree = Right (Right (Right (Right (Right (Right (Right (Right (Left x.tree))))))));
  ends = row_ends (go_right (code K.Mapping ∷ []) h refl (go_right (code K.Mapping ∷ []) h refl
      (go_right (code K.Mapping ∷ []) h refl (go_right (code K.Mapping ∷ []) h refl
      (go_right (code K.Mapping ∷ []) h refl (go_right (code K.Mapping ∷ []) h refl
      (go_right (code K.Mapping ∷ []) h refl (go_right (code K.Mapping ∷ []) h refl (go_left (code K.Mapping ∷ []) h refl x.ends)))))))));
  shows = x.shows;
}

pub by_mapping_stops : {ss : List Sign} {e : ReadError} → held ss (code K.Mapping ∷ []) ≡ true → StopsAt (Row MappingDefinition) ss e →
    StopsAt (Row Definition) ss e
by_mapping_stops h s =
    stops_row (stop_right (code K.Mapping ∷ []) h refl (stop_right (code K.Mapping ∷ []) h refl
    (stop_right (code K.Mapping ∷ []) h refl (stop_right (code K.Mapping ∷ []) h refl
    (stop_right (code K.Mapping ∷ []) h refl (stop_right (code K.Mapping ∷ []) h refl
    (stop_right (code K.Mapping ∷ []) h refl (stop_right (code K.Mapping ∷ []) h refl (stop_left (code K.Mapping ∷ []) h refl s)))))))))

pub by_let_definition : {ss rest : List Sign} {d : Def} → held ss (code K.Let ∷ []) ≡ true → Reading (Row LetDefinition) let_definition_of ss d rest →
    Reading (Row Definition) def_of ss d rest
by_let_definition h x = record {
  tree = Right (Right (Right (Right (Right (Right (Right (Right (Right (Left x.tree)))))))));
  ends = row_ends (go_right (code K.Let ∷ []) h refl (go_right (code K.Let ∷ []) h refl
      (go_right (code K.Let ∷ []) h refl (go_right (code K.Let ∷ []) h refl
      (go_right (code K.Let ∷ []) h refl (go_right (code K.Let ∷ []) h refl
      (go_right (code K.Let ∷ []) h refl (go_right (code K.Let ∷ []) h refl
      (go_right (code K.Let ∷ []) h refl (go_left (code K.Let ∷ []) h refl x.ends))))))))));
  shows = x.shows;
}

pub by_let_definition_stops : {ss : List Sign} {e : ReadError} → held ss (code K.Let ∷ []) ≡ true → StopsAt (Row LetDefinition) ss e →
    StopsAt (Row Definition) ss e
by_let_definition_stops h s =
    stops_row (stop_right (code K.Let ∷ []) h refl (stop_right (code K.Let ∷ []) h refl
    (stop_right (code K.Let ∷ []) h refl (stop_right (code K.Let ∷ []) h refl
    (stop_right (code K.Let ∷ []) h refl (stop_right (code K.Let ∷ []) h refl
    (stop_right (code K.Let ∷ []) h refl (stop_right (code K.Let ∷ []) h refl
    (stop_right (code K.Let ∷ []) h refl (stop_left (code K.Let ∷ []) h refl s))))))))))

pub by_register : {ss rest : List Sign} {d : Def} → held ss (code K.Register ∷ []) ≡ true → Reading (Row RegisterDefinition) register_of ss d rest →
    Reading (Row Definition) def_of ss d rest
by_register h x = record {
  tree = Right (Right (Right (Right (Right (Right (Right (Right (Right (Right (Left x.tree))))))))));
  ends = row_ends (go_right (code K.Register ∷ []) h refl (go_right (code K.Register ∷ []) h refl
      (go_right (code K.Register ∷ []) h refl (go_right (code K.Register ∷ []) h refl
      (go_right (code K.Register ∷ []) h refl (go_right (code K.Register ∷ []) h refl
      (go_right (code K.Register ∷ []) h refl (go_right (code K.Register ∷ []) h refl
      (go_right (code K.Register ∷ []) h refl (go_right (code K.Register ∷ []) h refl (go_left (code K.Register ∷ []) h refl x.ends)))))))))));
  shows = x.shows;
}

pub by_register_stops : {ss : List Sign} {e : ReadError} → held ss (code K.Register ∷ []) ≡ true → StopsAt (Row RegisterDefinition) ss e →
    StopsAt (Row Definition) ss e
by_register_stops h s =
    stops_row (stop_right (code K.Register ∷ []) h refl (stop_right (code K.Register ∷ []) h refl
    (stop_right (code K.Register ∷ []) h refl (stop_right (code K.Register ∷ []) h refl
    (stop_right (code K.Register ∷ []) h refl (stop_right (code K.Register ∷ []) h refl
    (stop_right (code K.Register ∷ []) h refl (stop_right (code K.Register ∷ []) h refl
    (stop_right (code K.Register ∷ []) h refl (stop_right (code K.Register ∷ []) h refl (stop_left (code K.Register ∷ []) h refl s)))))))))))

pub by_overload : {ss rest : List Sign} {d : Def} → held ss (code K.Overload ∷ []) ≡ true → Reading (Row OverloadDefinition) overload_of ss d rest →
    Reading (Row Definition) def_of ss d rest
by_overload h x = record {
  tree = Right (Right (Right (Right (Right (Right (Right (Right (Right (Right (Right (Left x.tree)))))))))));
  ends = row_ends (go_right (code K.Overload ∷ []) h refl (go_right (code K.Overload ∷ []) h refl
      (go_right (code K.Overload ∷ []) h refl (go_right (code K.Overload ∷ []) h refl
      (go_right (code K.Overload ∷ []) h refl (go_right (code K.Overload ∷ []) h refl
      (go_right (code K.Overload ∷ []) h refl (go_right (code K.Overload ∷ []) h refl
      (go_right (code K.Overload ∷ []) h refl (go_right (code K.Overload ∷ []) h refl
      (go_right (code K.Overload ∷ []) h refl (go_left (code K.Overload ∷ []) h refl x.ends))))))))))));
  shows = x.shows;
}

pub by_overload_stops : {ss : List Sign} {e : ReadError} → held ss (code K.Overload ∷ []) ≡ true → StopsAt (Row OverloadDefinition) ss e →
    StopsAt (Row Definition) ss e
by_overload_stops h s =
    stops_row (stop_right (code K.Overload ∷ []) h refl (stop_right (code K.Overload ∷ []) h refl
    (stop_right (code K.Overload ∷ []) h refl (stop_right (code K.Overload ∷ []) h refl
    (stop_right (code K.Overload ∷ []) h refl (stop_right (code K.Overload ∷ []) h refl
    (stop_right (code K.Overload ∷ []) h refl (stop_right (code K.Overload ∷ []) h refl
    (stop_right (code K.Overload ∷ []) h refl (stop_right (code K.Overload ∷ []) h refl
    (stop_right (code K.Overload ∷ []) h refl (stop_left (code K.Overload ∷ []) h refl s))))))))))))

pub by_scattered : {ss rest : List Sign} {d : Def} → held ss (code K.Scattered ∷ []) ≡ true →
    Reading (Row ScatteredDefinition) scattered_of ss d rest → Reading (Row Definition) def_of ss d rest
by_scattered h x = record {
  tree = Right (Right (Right (Right (Right (Right (Right (Right (Right (Right (Right (Right (Left x.tree))))))))))));
  ends = row_ends (go_right (code K.Scattered ∷ []) h refl (go_right (code K.Scattered ∷ []) h refl
      (go_right (code K.Scattered ∷ []) h refl (go_right (code K.Scattered ∷ []) h refl
      (go_right (code K.Scattered ∷ []) h refl (go_right (code K.Scattered ∷ []) h refl
      (go_right (code K.Scattered ∷ []) h refl (go_right (code K.Scattered ∷ []) h refl
      (go_right (code K.Scattered ∷ []) h refl (go_right (code K.Scattered ∷ []) h refl
      (go_right (code K.Scattered ∷ []) h refl (go_right (code K.Scattered ∷ []) h refl (go_left (code K.Scattered ∷ []) h refl x.ends)))))))))))));
  shows = x.shows;
}

pub by_scattered_stops : {ss : List Sign} {e : ReadError} → held ss (code K.Scattered ∷ []) ≡ true → StopsAt (Row ScatteredDefinition) ss e →
    StopsAt (Row Definition) ss e
by_scattered_stops h s =
    stops_row (stop_right (code K.Scattered ∷ []) h refl (stop_right (code K.Scattered ∷ []) h refl
    (stop_right (code K.Scattered ∷ []) h refl (stop_right (code K.Scattered ∷ []) h refl
    (stop_right (code K.Scattered ∷ []) h refl (stop_right (code K.Scattered ∷ []) h refl
    (stop_right (code K.Scattered ∷ []) h refl (stop_right (code K.Scattered ∷ []) h refl
    (stop_right (code K.Scattered ∷ []) h refl (stop_right (code K.Scattered ∷ []) h refl
    (stop_right (code K.Scattered ∷ []) h refl (stop_right (code K.Scattered ∷ []) h refl (stop_left (code K.Scattered ∷ []) h refl s)))))))))))))

pub by_end : {ss rest : List Sign} {d : Def} → held ss (code K.Default ∷ []) ≡ false → held ss (code K.TypeWord ∷ []) ≡ false →
    held ss (code K.Enum ∷ []) ≡ false → held ss (code K.Struct ∷ []) ≡ false → held ss (code K.Union ∷ []) ≡ false →
    held ss (code K.Val ∷ []) ≡ false → held ss (code K.Function ∷ []) ≡ false → held ss (code K.TerminationMeasure ∷ []) ≡ false →
    held ss (code K.Mapping ∷ []) ≡ false → held ss (code K.Let ∷ []) ≡ false → held ss (code K.Register ∷ []) ≡ false →
    held ss (code K.Overload ∷ []) ≡ false → held ss (code K.Scattered ∷ []) ≡ false → Reading (Row EndDefinition) end_of ss d rest →
    Reading (Row Definition) def_of ss d rest
by_end h0 h1 h2 h3 h4 h5 h6 h7 h8 h9 h10 h11 h12 x = record {
  tree = Right (Right (Right (Right (Right (Right (Right (Right (Right (Right (Right (Right (Right x.tree))))))))))));
  ends = row_ends (go_past (code K.Default ∷ []) h0 refl refl refl (go_past (code K.TypeWord ∷ []) h1 refl refl refl
      (go_past (code K.Enum ∷ []) h2 refl refl refl (go_past (code K.Struct ∷ []) h3 refl refl refl
      (go_past (code K.Union ∷ []) h4 refl refl refl (go_past (code K.Val ∷ []) h5 refl refl refl
      (go_past (code K.Function ∷ []) h6 refl refl refl (go_past (code K.TerminationMeasure ∷ []) h7 refl refl refl
      (go_past (code K.Mapping ∷ []) h8 refl refl refl (go_past (code K.Let ∷ []) h9 refl refl refl
      (go_past (code K.Register ∷ []) h10 refl refl refl (go_past (code K.Overload ∷ []) h11 refl refl refl
      (go_past (code K.Scattered ∷ []) h12 refl refl refl x.ends)))))))))))));
  shows = x.shows;
}

pub by_end_stops : {ss : List Sign} {e : ReadError} → held ss (code K.Default ∷ []) ≡ false → held ss (code K.TypeWord ∷ []) ≡ false →
    held ss (code K.Enum ∷ []) ≡ false → held ss (code K.Struct ∷ []) ≡ false → held ss (code K.Union ∷ []) ≡ false →
    held ss (code K.Val ∷ []) ≡ false → held ss (code K.Function ∷ []) ≡ false → held ss (code K.TerminationMeasure ∷ []) ≡ false →
    held ss (code K.Mapping ∷ []) ≡ false → held ss (code K.Let ∷ []) ≡ false → held ss (code K.Register ∷ []) ≡ false →
    held ss (code K.Overload ∷ []) ≡ false → held ss (code K.Scattered ∷ []) ≡ false → StopsAt (Row EndDefinition) ss e →
    StopsAt (Row Definition) ss e
by_end_stops h0 h1 h2 h3 h4 h5 h6 h7 h8 h9 h10 h11 h12 s =
    stops_row (stop_past (code K.Default ∷ []) h0 refl refl refl (stop_past (code K.TypeWord ∷ []) h1 refl refl refl
    (stop_past (code K.Enum ∷ []) h2 refl refl refl (stop_past (code K.Struct ∷ []) h3 refl refl refl
    (stop_past (code K.Union ∷ []) h4 refl refl refl (stop_past (code K.Val ∷ []) h5 refl refl refl
    (stop_past (code K.Function ∷ []) h6 refl refl refl (stop_past (code K.TerminationMeasure ∷ []) h7 refl refl refl
    (stop_past (code K.Mapping ∷ []) h8 refl refl refl (stop_past (code K.Let ∷ []) h9 refl refl refl
    (stop_past (code K.Register ∷ []) h10 refl refl refl (stop_past (code K.Overload ∷ []) h11 refl refl refl
    (stop_past (code K.Scattered ∷ []) h12 refl refl refl s)))))))))))))

-- all definitions
abbrev pub all_symbols : List ℕ
all_symbols = two ∷ kind_name ∷ codes_of every_kind

known : (k : TokenKind) → among all_symbols (code k) ≡ true
known K.Identifier = refl
known K.TypeVariable = refl
known K.Wildcard = refl
known K.Decimal = refl
known K.Hexadecimal = refl
known K.Binary = refl
known K.StringLiteral = refl
known K.LeftOut = refl
known K.Order = refl
known K.As = refl
known K.Assert = refl
known K.Bitone = refl
known K.Bitzero = refl
known K.By = refl
known K.Catch = refl
known K.Clause = refl
known K.Constraint = refl
known K.Dec = refl
known K.Default = refl
known K.Do = refl
known K.Else = refl
known K.End = refl
known K.Enum = refl
known K.Exit = refl
known K.False = refl
known K.Forall = refl
known K.Foreach = refl
known K.From = refl
known K.Function = refl
known K.If = refl
known K.In = refl
known K.Inc = refl
known K.Let = refl
known K.Mapping = refl
known K.Match = refl
known K.Not = refl
known K.Operator = refl
known K.Overload = refl
known K.Register = refl
known K.Repeat = refl
known K.Return = refl
known K.Scattered = refl
known K.Sizeof = refl
known K.Struct = refl
known K.TerminationMeasure = refl
known K.Then = refl
known K.Throw = refl
known K.To = refl
known K.True = refl
known K.Try = refl
known K.TypeWord = refl
known K.Union = refl
known K.Until = refl
known K.Val = refl
known K.Var = refl
known K.While = refl
known K.With = refl
known K.OpenParenthesis = refl
known K.CloseParenthesis = refl
known K.OpenBracket = refl
known K.CloseBracket = refl
known K.OpenBrace = refl
known K.CloseBrace = refl
known K.OpenVector = refl
known K.CloseVector = refl
known K.Comma = refl
known K.Semicolon = refl
known K.Colon = refl
known K.DoubleColon = refl
known K.Dot = refl
known K.DoubleDot = refl
known K.Equal = refl
known K.DoubleEqual = refl
known K.NotEqual = refl
known K.Less = refl
known K.LessEqual = refl
known K.Greater = refl
known K.GreaterEqual = refl
known K.LessUnsigned = refl
known K.LessEqualUnsigned = refl
known K.GreaterUnsigned = refl
known K.GreaterEqualUnsigned = refl
known K.LessSigned = refl
known K.LessEqualSigned = refl
known K.GreaterSigned = refl
known K.GreaterEqualSigned = refl
known K.Plus = refl
known K.Minus = refl
known K.Star = refl
known K.Caret = refl
known K.At = refl
known K.Ampersand = refl
known K.Bar = refl
known K.Tilde = refl
known K.ShiftLeft = refl
known K.ShiftRight = refl
known K.Arrow = refl
known K.DoubleArrow = refl
known K.FatArrow = refl

chosen : (b d : Bool) (n : ℕ) → among all_symbols n ≡ true → among all_symbols (if b then two else (if d then kind_name else n)) ≡ true
chosen true d n h = refl
chosen false true n h = refl
chosen false false n h = h

-- a token has one of all symbols
pub any_symbol : (s : Sign) → among all_symbols (symbol s) ≡ true
any_symbol s =
    chosen (code s.kind == code K.Decimal && is_two s.text) (code s.kind == code K.Identifier && is_kind_name s.text) (code s.kind) (known s.kind)

-- so where one is in hand, a definition is begun
no_end : (starts c_among : Bool) (c : ℕ) → c_among ≡ true → (c == 0) ≡ false → (starts || not ((c == 0) || not c_among)) ≡ true
no_end true b c h z = refl
no_end false b c h z = (λ i. not (z i || not (h i)))

not_zero : (c : ℕ) → among all_symbols c ≡ true → (c == 0) ≡ false
not_zero c h = ne_eqb c 0 (λ e. true≢false (sym h ∙ ap (among all_symbols) e))

begun : (ss : List Sign) → 0 < length ss → may_left grammar (Row Definition then Row Definitions) ending (look ss) ≡ true
begun [] h = absurd (omega (arith, h))
begun (s ∷ ss) h =
    no_end (starts grammar (Row Definition then Row Definitions) (symbol s)) (among all_symbols (symbol s)) (symbol s) (any_symbol s)
    (not_zero (symbol s) (any_symbol s))

pub definition_more : (items : List Def) {ss mid rest : List Sign} {d : Def} {xs more : List Def} → Reading (Row Definition) def_of ss d mid →
    length mid < length ss → more ≡ items ++ d ∷ [] → Reading (Row Definitions) (defs_behind more) mid xs rest →
    Reading (Row Definitions) (defs_behind items) ss xs rest
definition_more items {ss = ss} {d = d} a lt l r = record {
  tree = Left (Pair a.tree r.tree);
  ends = row_ends (left_read (begun ss (omega (arith, lt))) (both_read a.ends r.ends));
  shows = (λ i. items ++ a.shows i ∷ defs_of r.tree) ∙ sym (append_assoc items (d ∷ []) (defs_of r.tree)) ∙ (λ i. sym l i ++ defs_of r.tree) ∙
      r.shows;
}

-- tokens are left, or none
pub some_left : (ss : List Sign) → (length ss == 0) ≡ false → 0 < length ss
some_left [] h = absurd (true≢false h)
some_left (s ∷ ss) h = omega arith

pub none_left : (ss : List Sign) → (length ss == 0) ≡ true → ss ≡ []
none_left [] h = refl
none_left (s ∷ ss) h = absurd (true≢false (sym h ∙ ne_eqb (length (s ∷ ss)) 0 (λ e. omega (arith, e))))

pub definitions_none : (items : List Def) (ss : List Sign) → ss ≡ [] → Reading (Row Definitions) (defs_behind items) ss items []
definitions_none items ss e =
    subst (λ x. Reading (Row Definitions) (defs_behind items) x items []) (sym e)
    (record { tree = Right Nothing; ends = row_ends (right_read refl (empty_read refl)); shows = append-nil items })

pub definition_stops : {ss : List Sign} {e : ReadError} → 0 < length ss → StopsAt (Row Definition) ss e → StopsAt (Row Definitions) ss e
definition_stops {ss = ss} lt s = stops_row (stops_left (begun ss lt) (stops_first s))

pub definition_more_stops : {ss mid : List Sign} {d : Def} {e : ReadError} → Reading (Row Definition) def_of ss d mid → length mid < length ss →
    StopsAt (Row Definitions) mid e → StopsAt (Row Definitions) ss e
definition_more_stops {ss = ss} a lt s = stops_row (stops_left (begun ss (omega (arith, lt))) (stops_next a.ends s))
