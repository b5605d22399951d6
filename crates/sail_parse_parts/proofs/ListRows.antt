-- The rows of names and members: the readings of the parts join to the reading of a row.
use Rattle.std.proofs.Common.{◌≡◌, ◌++◌, true, false, List, [], ◌∷◌, refl, sym, ◌∙◌, ap, append_assoc, append-nil}
use Rattle.std.specs.Prelude.{◌||◌}
use Rattle.sail_lex.specs.declared.kind.TokenKind.TheVariants as K
use Rattle.sail_syntax.specs.declared.name.Name.{Name}
use Rattle.sail_syntax.specs.declared.types.TyExp.{TyExp}
use Rattle.sail_syntax.specs.declared.definitions.Member.{Member}
use Rattle.sail_grammar.specs.declared.error.ReadError.{ReadError}
use Rattle.sail_grammar.specs.declared.mode.Mode.TheVariants.{Full}
use Rattle.sail_grammar.specs.Symbol.{Sign, code, identifiers}
use Rattle.sail_grammar.specs.RowName.{EnumMembers, EnumBars, Names, NamesTail, NamesMore, Members, MembersTail}
use Rattle.sail_grammar.specs.RowName.{MembersMore, Typ}
use Rattle.sail_grammar.specs.RowName as R
use Rattle.sail_grammar.specs.Form.{Word, Row, ◌or◌, ◌then◌, Nothing, Leaf, Pair, Left, Right, held}
use Rattle.sail_grammar.specs.Ends.{both_read, row_ends, right_read, empty_read}
use Rattle.sail_grammar.specs.Table.{nothing, word, identifier}
use Rattle.sail_grammar.specs.Parsing.{Reading, Takes, StopsAt}
use Rattle.sail_grammar.specs.TypeTrees.{typ_of}
use Rattle.sail_grammar.specs.DefTrees.{names_tail, names_of, member_of, members_tail, members_of, bars_of}
use Rattle.sail_grammar.specs.DefTrees.{enum_members_of}
use Rattle.sail_grammar.proofs.Steps.{left_word, stops_row, stops_first, stops_next, stops_left, more_ends}
use Rattle.sail_grammar.proofs.Steps.{no_more_ends, more_stops, none_in, right_nothing, held_none, takes_held}
use Rattle.sail_parse_tp.proofs.Choices.{go_left, go_past, stop_left, stop_past}
use Rattle.sail_parse_parts.specs.Behind.{names_behind, bars_behind, members_behind}
use Rattle.sail_parse_parts.proofs.Spelled.{spelled}

pub member_all : {ss m1 m2 rest : List Sign} {n o : Sign} {t : TyExp} {name : Name} → Takes identifiers ss n m1 → Takes (code K.Colon ∷ []) m1 o m2 →
    Reading (Row (Typ Full)) typ_of m2 t rest → name ≡ spelled n → Reading (Row R.Member) member_of ss (record { name = name; typ = t }) rest
member_all {n = n} {o = o} p0 p1 p2 e0 = record {
  tree = Pair (Leaf n) (Pair (Leaf o) p2.tree);
  ends = row_ends (both_read p0 (both_read p1 p2.ends));
  shows = λ i. record { name = (sym e0 i); typ = (p2.shows i) };
}

pub names_all : {ss a rest : List Sign} {n : Sign} {first xs : List Name} → Takes identifiers ss n a → first ≡ spelled n ∷ [] →
    Reading (Row NamesTail) (names_behind first) a xs rest → Reading (Row Names) names_of ss xs rest
names_all {n = n} t l r = record {
  tree = Pair (Leaf n) r.tree;
  ends = row_ends (both_read t r.ends);
  shows = (λ i. sym l i ++ names_tail r.tree) ∙ r.shows;
}

pub members_all : {ss a rest : List Sign} {x : Member} {first xs : List Member} → Reading (Row R.Member) member_of ss x a → first ≡ x ∷ [] →
    Reading (Row MembersTail) (members_behind first) a xs rest → Reading (Row Members) members_of ss xs rest
members_all a l r = record {
  tree = Pair a.tree r.tree;
  ends = row_ends (both_read a.ends r.ends);
  shows = (λ i. a.shows i ∷ members_tail r.tree) ∙ (λ i. sym l i ++ members_tail r.tree) ∙ r.shows;
}

-- a name more
pub name_more : (items : List Name) {ss after next rest : List Sign} {s n : Sign} {x more : List Name} → Takes (code K.Comma ∷ []) ss s after →
    Takes identifiers after n next → more ≡ items ++ spelled n ∷ [] → Reading (Row NamesTail) (names_behind more) next x rest →
    Reading (Row NamesTail) (names_behind items) ss x rest
name_more items {n = n} c w m r = record {
  tree = Left (Pair (Leaf _) (Left (Pair (Leaf n) r.tree)));
  ends = row_ends (more_ends c (row_ends (more_ends w r.ends)));
  shows = sym (append_assoc items (spelled n ∷ []) (names_tail r.tree)) ∙ (λ i. sym m i ++ names_tail r.tree) ∙ r.shows;
}

-- none, behind a last comma and without one
pub names_end : (items : List Name) {ss after : List Sign} {s : Sign} → Takes (code K.Comma ∷ []) ss s after → held after identifiers ≡ false →
    Reading (Row NamesTail) (names_behind items) ss items after
names_end items c h = record {
  tree = Left (Pair (Leaf _) (Right Nothing));
  ends = row_ends (more_ends c (row_ends (no_more_ends refl h)));
  shows = append-nil items;
}

pub names_none : (items : List Name) {ss : List Sign} → held ss (code K.Comma ∷ []) ≡ false → Reading (Row NamesTail) (names_behind items) ss items ss
names_none items h = record { tree = Right Nothing; ends = row_ends (no_more_ends refl h); shows = append-nil items }

pub name_more_stops : {ss after next : List Sign} {s n : Sign} {e : ReadError} → Takes (code K.Comma ∷ []) ss s after →
    Takes identifiers after n next → StopsAt (Row NamesTail) next e → StopsAt (Row NamesTail) ss e
name_more_stops c w q = stops_row (more_stops c (stops_row (more_stops w q)))

pub name_comma_stops : {ss : List Sign} {e : ReadError} → held ss (code K.Comma ∷ []) ≡ true → StopsAt (Word (code K.Comma ∷ [])) ss e →
    StopsAt (Row NamesTail) ss e
name_comma_stops {ss = ss} h s = stops_row (stops_left (left_word (code K.Comma ∷ []) (Row NamesMore) nothing ss h) (stops_first s))

pub name_stops : {ss after : List Sign} {s : Sign} {e : ReadError} → Takes (code K.Comma ∷ []) ss s after → held after identifiers ≡ true →
    StopsAt (Word identifiers) after e → StopsAt (Row NamesTail) ss e
name_stops {after = after} c h s =
    stops_row (more_stops c (stops_row (stops_left (left_word identifiers (Row NamesTail) nothing after h) (stops_first s))))

-- a member more
pub member_more : (items : List Member) {ss after next rest : List Sign} {s : Sign} {m : Member} {x more : List Member} →
    Takes (code K.Comma ∷ []) ss s after → held after identifiers ≡ true → Reading (Row R.Member) member_of after m next → more ≡ items ++ m ∷ [] →
    Reading (Row MembersTail) (members_behind more) next x rest → Reading (Row MembersTail) (members_behind items) ss x rest
member_more items {m = m} c h a l r = record {
  tree = Left (Pair (Leaf _) (Left (Pair a.tree r.tree)));
  ends = row_ends (more_ends c (row_ends (go_left identifiers h refl (both_read a.ends r.ends))));
  shows = (λ i. items ++ a.shows i ∷ members_tail r.tree) ∙ sym (append_assoc items (m ∷ []) (members_tail r.tree)) ∙
      (λ i. sym l i ++ members_tail r.tree) ∙ r.shows;
}

pub members_end : (items : List Member) {ss after : List Sign} {s : Sign} → Takes (code K.Comma ∷ []) ss s after → held after identifiers ≡ false →
    Reading (Row MembersTail) (members_behind items) ss items after
members_end items {after = after} c h = record {
  tree = Left (Pair (Leaf _) (Right Nothing));
  ends = row_ends (more_ends c (row_ends (right_read (right_nothing (Row R.Member then Row MembersTail) after
      (ap (λ v. v || false) (held_none identifiers after refl h))) (empty_read (none_in after)))));
  shows = append-nil items;
}

pub members_none : (items : List Member) {ss : List Sign} → held ss (code K.Comma ∷ []) ≡ false →
    Reading (Row MembersTail) (members_behind items) ss items ss
members_none items h = record { tree = Right Nothing; ends = row_ends (no_more_ends refl h); shows = append-nil items }

pub member_more_stops : {ss after next : List Sign} {s : Sign} {m : Member} {e : ReadError} → Takes (code K.Comma ∷ []) ss s after →
    held after identifiers ≡ true → Reading (Row R.Member) member_of after m next → StopsAt (Row MembersTail) next e → StopsAt (Row MembersTail) ss e
member_more_stops c h a q = stops_row (more_stops c (stops_row (stop_left identifiers h refl (stops_next a.ends q))))

pub member_comma_stops : {ss : List Sign} {e : ReadError} → held ss (code K.Comma ∷ []) ≡ true → StopsAt (Word (code K.Comma ∷ [])) ss e →
    StopsAt (Row MembersTail) ss e
member_comma_stops {ss = ss} h s = stops_row (stops_left (left_word (code K.Comma ∷ []) (Row MembersMore) nothing ss h) (stops_first s))

pub member_stops : {ss after : List Sign} {s : Sign} {e : ReadError} → Takes (code K.Comma ∷ []) ss s after → held after identifiers ≡ true →
    StopsAt (Row R.Member) after e → StopsAt (Row MembersTail) ss e
member_stops c h s = stops_row (more_stops c (stops_row (stop_left identifiers h refl (stops_first s))))

-- the members of an enum
pub braced : {ss a b rest : List Sign} {o k : Sign} {xs : List Name} → Takes (code K.OpenBrace ∷ []) ss o a → Reading (Row Names) names_of a xs b →
    Takes (code K.CloseBrace ∷ []) b k rest → Reading (Row EnumMembers or identifier then Row EnumBars) enum_members_of ss xs rest
braced {ss = ss} {a = a} {o = o} {k = k} s r c = record {
  tree = Left (Pair (Leaf o) (Pair r.tree (Leaf k)));
  ends = go_left (code K.OpenBrace ∷ []) (takes_held (code K.OpenBrace ∷ []) ss o a s) refl (row_ends (both_read s (both_read r.ends c)));
  shows = r.shows;
}

pub braced_stops : {ss a : List Sign} {o : Sign} {e : ReadError} → Takes (code K.OpenBrace ∷ []) ss o a →
    StopsAt (Row Names then word K.CloseBrace) a e → StopsAt (Row EnumMembers or identifier then Row EnumBars) ss e
braced_stops {ss = ss} {a = a} {o = o} s q =
    stop_left (code K.OpenBrace ∷ []) (takes_held (code K.OpenBrace ∷ []) ss o a s) refl (stops_row (stops_next s q))

pub barred : {ss a rest : List Sign} {n : Sign} {first xs : List Name} → held ss (code K.OpenBrace ∷ []) ≡ false → Takes identifiers ss n a →
    first ≡ spelled n ∷ [] → Reading (Row EnumBars) (bars_behind first) a xs rest →
    Reading (Row EnumMembers or identifier then Row EnumBars) enum_members_of ss xs rest
barred {n = n} h t l r = record {
  tree = Right (Pair (Leaf n) r.tree);
  ends = go_past (code K.OpenBrace ∷ []) h refl refl refl (both_read t r.ends);
  shows = (λ i. sym l i ++ bars_of r.tree) ∙ r.shows;
}

pub barred_stops : {ss : List Sign} {e : ReadError} → held ss (code K.OpenBrace ∷ []) ≡ false → StopsAt (identifier then Row EnumBars) ss e →
    StopsAt (Row EnumMembers or identifier then Row EnumBars) ss e
barred_stops h q = stop_past (code K.OpenBrace ∷ []) h refl refl refl q

pub bar_more : (items : List Name) {ss after next rest : List Sign} {s n : Sign} {x more : List Name} → Takes (code K.Bar ∷ []) ss s after →
    Takes identifiers after n next → more ≡ items ++ spelled n ∷ [] → Reading (Row EnumBars) (bars_behind more) next x rest →
    Reading (Row EnumBars) (bars_behind items) ss x rest
bar_more items {n = n} c w m r = record {
  tree = Left (Pair (Leaf _) (Pair (Leaf n) r.tree));
  ends = row_ends (more_ends c (both_read w r.ends));
  shows = sym (append_assoc items (spelled n ∷ []) (bars_of r.tree)) ∙ (λ i. sym m i ++ bars_of r.tree) ∙ r.shows;
}

pub bars_none : (items : List Name) {ss : List Sign} → held ss (code K.Bar ∷ []) ≡ false → Reading (Row EnumBars) (bars_behind items) ss items ss
bars_none items h = record { tree = Right Nothing; ends = row_ends (no_more_ends refl h); shows = append-nil items }

pub bar_more_stops : {ss after next : List Sign} {s n : Sign} {e : ReadError} → Takes (code K.Bar ∷ []) ss s after → Takes identifiers after n next →
    StopsAt (Row EnumBars) next e → StopsAt (Row EnumBars) ss e
bar_more_stops c w q = stops_row (more_stops c (stops_next w q))

pub bar_stops : {ss : List Sign} {e : ReadError} → held ss (code K.Bar ∷ []) ≡ true → StopsAt (Word (code K.Bar ∷ [])) ss e →
    StopsAt (Row EnumBars) ss e
bar_stops {ss = ss} h s = stops_row (stops_left (left_word (code K.Bar ∷ []) (identifier then Row EnumBars) nothing ss h) (stops_first s))

pub bar_name_stops : {ss after : List Sign} {s : Sign} {e : ReadError} → Takes (code K.Bar ∷ []) ss s after → StopsAt (Word identifiers) after e →
    StopsAt (Row EnumBars) ss e
bar_name_stops c s = stops_row (more_stops c (stops_first s))
