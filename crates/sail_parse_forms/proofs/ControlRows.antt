-- The rows of loops, `try` and what leaves a function: the readings of the parts join to the reading of a row.
use Rattle.std.proofs.Common.{◌≡◌, ℕ, true, false, List, [], ◌∷◌, refl, sym, ◌∙◌, subst, length}
use Rattle.std.specs.Prelude.{Option, Some, None}
use Rattle.std.proofs.lemmas.Bool.{true≢false}
use Rattle.sail_lex.specs.declared.kind.TokenKind.TheVariants as K
use Rattle.sail_syntax.specs.declared.name.Name.{Name}
use Rattle.sail_syntax.specs.declared.words.Leaving.{Leaving}
use Rattle.sail_syntax.specs.declared.words.Choosing.TheVariants as C
use Rattle.sail_syntax.specs.declared.words.Looping.TheVariants as Y
use Rattle.sail_syntax.specs.declared.words.Direction.{Direction}
use Rattle.sail_syntax.specs.declared.words.Direction.TheVariants as D
use Rattle.sail_syntax.specs.declared.expressions.Exp.{Exp}
use Rattle.sail_syntax.specs.declared.expressions.Exp.TheVariants as V
use Rattle.sail_syntax.specs.declared.expressions.Case.{Case}
use Rattle.sail_syntax.specs.declared.expressions.Range.{Range, roll-Range}
use Rattle.sail_grammar.specs.declared.error.ReadError.{ReadError}
use Rattle.sail_grammar.specs.declared.error.ReadError.TheVariants.{Unfit, Forbidden}
use Rattle.sail_grammar.specs.declared.mode.Mode.{Mode}
use Rattle.sail_grammar.specs.declared.mode.Mode.TheVariants.{Full, Limited}
use Rattle.sail_grammar.specs.Symbol.{Sign, code, identifiers}
use Rattle.sail_grammar.specs.RowName as N
use Rattle.sail_grammar.specs.Form.{Row, ◌or◌, ◌then◌, Forbid, Nothing, Leaf, Pair, Left, Right, held}
use Rattle.sail_grammar.specs.Ends.{Ends, Stop, both_read, row_ends, forbid_stop, forbid_bar}
use Rattle.sail_grammar.specs.Sets.{grammar}
use Rattle.sail_grammar.specs.Table.{nothing, word, words}
use Rattle.sail_grammar.specs.Parsing.{Reading, Takes, StopsAt}
use Rattle.sail_grammar.specs.ExpTrees as T
use Rattle.sail_grammar.proofs.Steps.{stops_row, more_ends, no_more_ends}
use Rattle.sail_parse_tp.proofs.Choices.{go_left, go_right, go_past, stop_left, stop_right, stop_past}
use Rattle.sail_parse_forms.proofs.FormRows.{spelled, control_symbols}
use Rattle.sail_parse_forms.proofs.Loops.{held_in, held_out}

abbrev pub leaving_symbols : List ℕ
leaving_symbols = code K.Return ∷ code K.Throw ∷ code K.Exit ∷ []

-- a form that isn't plain, by its word
pub control_try : {ss rest : List Sign} {z : Exp} → held ss (code K.Try ∷ []) ≡ true → Reading (Row N.Try) T.try_of ss z rest →
    Reading (Row (N.Control Full)) T.control_of ss z rest
control_try h x = record { tree = Left x.tree; ends = row_ends (go_left (code K.Try ∷ []) h refl x.ends); shows = x.shows }

pub control_try_stops : {ss : List Sign} {e : ReadError} → held ss (code K.Try ∷ []) ≡ true → StopsAt (Row N.Try) ss e → StopsAt (Row (N.Control Full)) ss e
control_try_stops h s = stops_row (stop_left (code K.Try ∷ []) h refl s)

pub control_foreach : {ss rest : List Sign} {z : Exp} → held ss (code K.Foreach ∷ []) ≡ true → Reading (Row N.Foreach) T.foreach_of ss z rest →
    Reading (Row (N.Control Full)) T.control_of ss z rest
control_foreach h x = record {
  tree = Right (Left x.tree);
  ends = row_ends (go_right (code K.Foreach ∷ []) h refl (go_left (code K.Foreach ∷ []) h refl x.ends));
  shows = x.shows;
}

pub control_foreach_stops : {ss : List Sign} {e : ReadError} → held ss (code K.Foreach ∷ []) ≡ true → StopsAt (Row N.Foreach) ss e →
    StopsAt (Row (N.Control Full)) ss e
control_foreach_stops h s = stops_row (stop_right (code K.Foreach ∷ []) h refl (stop_left (code K.Foreach ∷ []) h refl s))

pub control_while : {ss rest : List Sign} {z : Exp} → held ss (code K.While ∷ []) ≡ true → Reading (Row N.While) T.while_of ss z rest →
    Reading (Row (N.Control Full)) T.control_of ss z rest
control_while h x = record {
  tree = Right (Right (Left x.tree));
  ends = row_ends (go_right (code K.While ∷ []) h refl (go_right (code K.While ∷ []) h refl (go_left (code K.While ∷ []) h refl x.ends)));
  shows = x.shows;
}

pub control_while_stops : {ss : List Sign} {e : ReadError} → held ss (code K.While ∷ []) ≡ true → StopsAt (Row N.While) ss e →
    StopsAt (Row (N.Control Full)) ss e
control_while_stops h s = stops_row (stop_right (code K.While ∷ []) h refl (stop_right (code K.While ∷ []) h refl (stop_left (code K.While ∷ []) h refl s)))

pub control_repeat : {ss rest : List Sign} {z : Exp} → held ss (code K.Repeat ∷ []) ≡ true → Reading (Row N.Repeat) T.repeat_of ss z rest →
    Reading (Row (N.Control Full)) T.control_of ss z rest
control_repeat h x = record {
  tree = Right (Right (Right (Left x.tree)));
  ends = row_ends (go_right (code K.Repeat ∷ []) h refl (go_right (code K.Repeat ∷ []) h refl
      (go_right (code K.Repeat ∷ []) h refl (go_left (code K.Repeat ∷ []) h refl x.ends))));
  shows = x.shows;
}

pub control_repeat_stops : {ss : List Sign} {e : ReadError} → held ss (code K.Repeat ∷ []) ≡ true → StopsAt (Row N.Repeat) ss e →
    StopsAt (Row (N.Control Full)) ss e
control_repeat_stops h s =
    stops_row (stop_right (code K.Repeat ∷ []) h refl (stop_right (code K.Repeat ∷ []) h refl
    (stop_right (code K.Repeat ∷ []) h refl (stop_left (code K.Repeat ∷ []) h refl s))))

pub control_leave : {ss rest : List Sign} {z : Exp} → held ss (code K.Try ∷ []) ≡ false → held ss (code K.Foreach ∷ []) ≡ false →
    held ss (code K.While ∷ []) ≡ false → held ss (code K.Repeat ∷ []) ≡ false → Reading (Row N.Leave) T.leave_of ss z rest →
    Reading (Row (N.Control Full)) T.control_of ss z rest
control_leave h0 h1 h2 h3 x = record {
  tree = Right (Right (Right (Right x.tree)));
  ends = row_ends (go_past (code K.Try ∷ []) h0 refl refl refl (go_past (code K.Foreach ∷ []) h1 refl refl refl
      (go_past (code K.While ∷ []) h2 refl refl refl (go_past (code K.Repeat ∷ []) h3 refl refl refl (x.ends)))));
  shows = x.shows;
}

pub control_leave_stops : {ss : List Sign} {e : ReadError} → held ss (code K.Try ∷ []) ≡ false → held ss (code K.Foreach ∷ []) ≡ false →
    held ss (code K.While ∷ []) ≡ false → held ss (code K.Repeat ∷ []) ≡ false → StopsAt (Row N.Leave) ss e → StopsAt (Row (N.Control Full)) ss e
control_leave_stops h0 h1 h2 h3 s =
    stops_row (stop_past (code K.Try ∷ []) h0 refl refl refl (stop_past (code K.Foreach ∷ []) h1 refl refl refl
    (stop_past (code K.While ∷ []) h2 refl refl refl (stop_past (code K.Repeat ∷ []) h3 refl refl refl (s)))))

-- where it must be plain
abbrev forbidden_symbols : List ℕ
forbidden_symbols = code K.Try ∷ code K.Foreach ∷ code K.While ∷ code K.Repeat ∷ code K.Return ∷ code K.Throw ∷ code K.Exit ∷ []

pub control_forbidden : {m : Mode} {ss : List Sign} {n k : ℕ} → m ≡ Limited → held ss control_symbols ≡ true → n ≡ length ss → k ≡ length ss →
    StopsAt (Row (N.Control m)) ss (Forbidden n k)
control_forbidden {ss = ss} {n = n} {k = k} e h l o = subst (λ m. StopsAt (Row (N.Control m)) ss (Forbidden n k)) (sym e) (stops_row (record {
  why = record { rest = ss; begun = Some ss; ends = bars ss (held_in control_symbols forbidden_symbols ss refl h); left_is = l; from_is = λ i. Some (o i) };
})) where
  bars : (ss : List Sign) → held ss forbidden_symbols ≡ true → Ends grammar (Forbid forbidden_symbols) ss (Stop ss (Some ss))
  bars [] h = absurd (true≢false (sym h))
  bars (s ∷ ss) h = forbid_bar h

pub control_unfit : {m : Mode} {ss : List Sign} {n : ℕ} → m ≡ Limited → held ss control_symbols ≡ false → n ≡ length ss →
    StopsAt (Row (N.Control m)) ss (Unfit n)
control_unfit {ss = ss} {n = n} e h l = subst (λ m. StopsAt (Row (N.Control m)) ss (Unfit n)) (sym e) (stops_row (record {
  why = record { rest = ss; begun = None; ends = forbid_stop (held_out forbidden_symbols control_symbols ss refl h); left_is = l; from_is = refl };
}))

pub control_full : {m : Mode} {ss rest : List Sign} {z : Exp} → m ≡ Full → Reading (Row (N.Control Full)) T.control_of ss z rest →
    Reading (Row (N.Control m)) T.control_of ss z rest
control_full {ss = ss} {rest = rest} {z = z} e r = subst (λ m. Reading (Row (N.Control m)) T.control_of ss z rest) (sym e) r

pub control_full_stops : {m : Mode} {ss : List Sign} {e : ReadError} → m ≡ Full → StopsAt (Row (N.Control Full)) ss e → StopsAt (Row (N.Control m)) ss e
control_full_stops {ss = ss} {e = x} e s = subst (λ m. StopsAt (Row (N.Control m)) ss x) (sym e) s

-- straight rows
pub try_all : {ss a0 a1 a2 rest : List Sign} {s0 s2 : Sign} {x1 : Exp} {x3 : List Case} {z : Exp} → Takes (code K.Try ∷ []) ss s0 a0 →
    Reading (Row (N.Exp Full)) T.exp_of a0 x1 a1 → Takes (code K.Catch ∷ []) a1 s2 a2 → Reading (Row (N.Cases Full)) T.cases_of a2 x3 rest →
    z ≡ V.Choose s0.place C.Try x1 x3 → Reading (Row N.Try) T.try_of ss z rest
try_all {s0 = s0} {s2 = s2} r0 r1 r2 r3 e = record {
  tree = Pair (Leaf s0) (Pair r1.tree (Pair (Leaf s2) r3.tree));
  ends = row_ends (both_read r0 (both_read r1.ends (both_read r2 r3.ends)));
  shows = (λ i. V.Choose s0.place C.Try (r1.shows i) (r3.shows i)) ∙ sym e;
}

pub foreach_all : {ss a0 a1 a2 a3 a4 a5 a6 a7 a8 a9 rest : List Sign} {s0 s1 s2 s3 s5 s9 : Sign} {x4 : Exp} {x6 : Exp} {x7 : Option Exp} {x8 : Direction}
    {x10 : Exp} {n : Name} {g : Range} {z : Exp} → Takes (code K.Foreach ∷ []) ss s0 a0 → Takes (code K.OpenParenthesis ∷ []) a0 s1 a1 →
    Takes (identifiers) a1 s2 a2 → Takes (code K.From ∷ []) a2 s3 a3 → Reading (Row (N.Exp Full)) T.exp_of a3 x4 a4 → Takes (code K.To ∷ []) a4 s5 a5 →
    Reading (Row (N.Exp Full)) T.exp_of a5 x6 a6 → Reading (word K.By then Row (N.Exp Full) or nothing) T.behind_word a6 x7 a7 →
    Reading (word K.In then words (K.Inc ∷ K.Dec ∷ []) or nothing) T.direction_at a7 x8 a8 → Takes (code K.CloseParenthesis ∷ []) a8 s9 a9 →
    Reading (Row (N.Exp Full)) T.exp_of a9 x10 rest → n ≡ spelled s2 → g ≡ roll-Range (record { from = x4; to = x6; by = x7; direction = x8 }) →
    z ≡ V.Foreach s0.place n g x10 → Reading (Row N.Foreach) T.foreach_of ss z rest
foreach_all {s0 = s0} {s1 = s1} {s2 = s2} {s3 = s3} {s5 = s5} {s9 = s9} {x10 = x10} {n = n} r0 r1 r2 r3 r4 r5 r6 r7 r8 r9 r10 en eg e = record {
  tree = Pair (Leaf s0) (Pair (Leaf s1) (Pair (Leaf s2) (Pair (Leaf s3) (Pair r4.tree
      (Pair (Leaf s5) (Pair r6.tree (Pair r7.tree (Pair r8.tree (Pair (Leaf s9) r10.tree)))))))));
  ends = row_ends (both_read r0 (both_read r1 (both_read r2 (both_read r3 (both_read r4.ends
      (both_read r5 (both_read r6.ends (both_read r7.ends (both_read r8.ends (both_read r9 r10.ends))))))))));
  shows = (λ i. V.Foreach s0.place (sym en i) (roll-Range (record { from = (r4.shows i); to = (r6.shows i); by = (r7.shows i); direction = (r8.shows i) }))
      (r10.shows i)) ∙ (λ i. V.Foreach s0.place n (sym eg i) x10) ∙ sym e;
}

pub while_all : {ss a0 a1 a2 a3 rest : List Sign} {s0 s3 : Sign} {x1 : Option Exp} {x2 : Exp} {x4 : Exp} {z : Exp} → Takes (code K.While ∷ []) ss s0 a0 →
    Reading (Row N.LoopMeasure) T.measure_of a0 x1 a1 → Reading (Row (N.Exp Full)) T.exp_of a1 x2 a2 → Takes (code K.Do ∷ []) a2 s3 a3 →
    Reading (Row (N.Exp Full)) T.exp_of a3 x4 rest → z ≡ V.Loop s0.place Y.While x1 x2 x4 → Reading (Row N.While) T.while_of ss z rest
while_all {s0 = s0} {s3 = s3} r0 r1 r2 r3 r4 e = record {
  tree = Pair (Leaf s0) (Pair r1.tree (Pair r2.tree (Pair (Leaf s3) r4.tree)));
  ends = row_ends (both_read r0 (both_read r1.ends (both_read r2.ends (both_read r3 r4.ends))));
  shows = (λ i. V.Loop s0.place Y.While (r1.shows i) (r2.shows i) (r4.shows i)) ∙ sym e;
}

pub repeat_all : {ss a0 a1 a2 a3 rest : List Sign} {s0 s3 : Sign} {x1 : Option Exp} {x2 : Exp} {x4 : Exp} {z : Exp} → Takes (code K.Repeat ∷ []) ss s0 a0 →
    Reading (Row N.LoopMeasure) T.measure_of a0 x1 a1 → Reading (Row (N.Exp Full)) T.exp_of a1 x2 a2 → Takes (code K.Until ∷ []) a2 s3 a3 →
    Reading (Row (N.Exp Full)) T.exp_of a3 x4 rest → z ≡ V.Loop s0.place Y.Repeat x1 x4 x2 → Reading (Row N.Repeat) T.repeat_of ss z rest
repeat_all {s0 = s0} {s3 = s3} r0 r1 r2 r3 r4 e = record {
  tree = Pair (Leaf s0) (Pair r1.tree (Pair r2.tree (Pair (Leaf s3) r4.tree)));
  ends = row_ends (both_read r0 (both_read r1.ends (both_read r2.ends (both_read r3 r4.ends))));
  shows = (λ i. V.Loop s0.place Y.Repeat (r1.shows i) (r4.shows i) (r2.shows i)) ∙ sym e;
}

pub leave_all : {ss a0 rest : List Sign} {s0 : Sign} {x1 : Exp} {l : Leaving} {z : Exp} → Takes (leaving_symbols) ss s0 a0 →
    Reading (Row (N.Exp Full)) T.exp_of a0 x1 rest → l ≡ T.leaving_of s0.kind → z ≡ V.Leave s0.place l x1 → Reading (Row N.Leave) T.leave_of ss z rest
leave_all {s0 = s0} r0 r1 el e = record {
  tree = Pair (Leaf s0) r1.tree;
  ends = row_ends (both_read r0 r1.ends);
  shows = (λ i. V.Leave s0.place (sym el i) (r1.shows i)) ∙ sym e;
}

-- parts that may be left out
pub by_some : {ss a rest : List Sign} {s : Sign} {x : Exp} → Takes (code K.By ∷ []) ss s a → Reading (Row (N.Exp Full)) T.exp_of a x rest →
    Reading (word K.By then Row (N.Exp Full) or nothing) T.behind_word ss (Some x) rest
by_some {s = s} w b = record { tree = Left (Pair (Leaf s) b.tree); ends = more_ends w b.ends; shows = λ i. Some (b.shows i) }

pub by_none : {ss : List Sign} → held ss (code K.By ∷ []) ≡ false → Reading (word K.By then Row (N.Exp Full) or nothing) T.behind_word ss None ss
by_none h = record { tree = Right Nothing; ends = no_more_ends refl h; shows = refl }

pub direction_some : {ss a rest : List Sign} {s d : Sign} {x : Direction} → Takes (code K.In ∷ []) ss s a → Takes (code K.Inc ∷ code K.Dec ∷ []) a d rest →
    x ≡ T.direction_of d.kind → Reading (word K.In then words (K.Inc ∷ K.Dec ∷ []) or nothing) T.direction_at ss x rest
direction_some {s = s} {d = d} w q e = record { tree = Left (Pair (Leaf s) (Leaf d)); ends = more_ends w q; shows = sym e }

pub direction_none : {ss : List Sign} → held ss (code K.In ∷ []) ≡ false →
    Reading (word K.In then words (K.Inc ∷ K.Dec ∷ []) or nothing) T.direction_at ss D.Up ss
direction_none h = record { tree = Right Nothing; ends = no_more_ends refl h; shows = refl }

pub measure_some : {ss a b c rest : List Sign} {s o k : Sign} {x : Exp} → Takes (code K.TerminationMeasure ∷ []) ss s a →
    Takes (code K.OpenBrace ∷ []) a o b → Reading (Row (N.Exp Limited)) T.exp_of b x c → Takes (code K.CloseBrace ∷ []) c k rest →
    Reading (Row N.LoopMeasure) T.measure_of ss (Some x) rest
measure_some {s = s} {o = o} {k = k} w q x y = record {
  tree = Left (Pair (Leaf s) (Pair (Leaf o) (Pair x.tree (Leaf k))));
  ends = row_ends (more_ends w (both_read q (both_read x.ends y)));
  shows = λ i. Some (x.shows i);
}

pub measure_none : {ss : List Sign} → held ss (code K.TerminationMeasure ∷ []) ≡ false → Reading (Row N.LoopMeasure) T.measure_of ss None ss
measure_none h = record { tree = Right Nothing; ends = row_ends (no_more_ends refl h); shows = refl }
