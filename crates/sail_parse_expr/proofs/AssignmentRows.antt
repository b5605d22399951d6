-- The rows of assignments: the readings of the parts join to the reading of a row.
use Rattle.std.proofs.Common.{◌≡◌, ℕ, ◌++◌, Bool, true, false, List, [], ◌∷◌, refl, sym, ◌∙◌, ap, subst, append_assoc, append-nil, length}
use Rattle.std.specs.Prelude.{Option, Some, None, not, ◌||◌, ◌<◌, ◌&&◌}
use Rattle.std.specs.Option.{is_some}
use Rattle.std.proofs.lemmas.Bool.{true≢false}
use Rattle.sail_base.specs.declared.place.Place.{Place}
use Rattle.sail_lex.specs.declared.kind.TokenKind.TheVariants as K
use Rattle.sail_syntax.specs.declared.types.TyExp.{TyExp}
use Rattle.sail_syntax.specs.declared.expressions.Exp.{Exp}
use Rattle.sail_syntax.specs.declared.expressions.Exp.TheVariants as V
use Rattle.sail_syntax.specs.declared.expressions.LExp.{LExp}
use Rattle.sail_syntax.specs.declared.expressions.Target.{Target, roll-Target}
use Rattle.sail_grammar.specs.declared.error.ReadError.{ReadError}
use Rattle.sail_grammar.specs.declared.error.ReadError.TheVariants.{Unfit, Forbidden}
use Rattle.sail_grammar.specs.declared.mode.Mode.{Mode}
use Rattle.sail_grammar.specs.declared.mode.Mode.TheVariants.{Full, Limited}
use Rattle.sail_grammar.specs.Symbol.{Sign, code}
use Rattle.sail_grammar.specs.RowName as N
use Rattle.sail_grammar.specs.Form.{Form, Word, Row, ◌or◌, ◌then◌, Guard, Bar, Tree, Nothing, Leaf, Pair, Left, Right, held, look}
use Rattle.sail_grammar.specs.Ends.{Ends, Done, both_read, row_ends, left_read, right_read, guard_read, guard_shut, guard_stop, bar_read, bar_bar, bar_stop}
use Rattle.sail_grammar.specs.Test.{may_right}
use Rattle.sail_grammar.specs.Sets.{grammar}
use Rattle.sail_grammar.specs.Table.{nothing, word}
use Rattle.sail_grammar.specs.Parsing.{Reading, Takes, StopsAt}
use Rattle.sail_grammar.specs.TypeTrees.{typ_of}
use Rattle.sail_grammar.specs.ExpTrees as T
use Rattle.sail_grammar.proofs.Steps.{stops_row, stops_first, stops_next, stops_right, more_ends, no_more_ends, more_stops, held_every, takes_held, skip}
use Rattle.sail_parse_tp.proofs.Choices.{go_past, stop_past, past_word}
use Rattle.sail_grammar.specs.Leaves.{first_place, place_ahead}
use Rattle.sail_grammar.specs.Targets.{target}
use Rattle.sail_grammar.specs.Shapes.{is_target}
use Rattle.sail_grammar.proofs.Steps.{carry}
use Rattle.sail_grammar.proofs.FirstToken.{first_place_ahead}
use Rattle.sail_parse_expr.specs.Behind.{annotated_of, assigned_behind}
use Rattle.sail_parse_forms.proofs.FormRows.{control_symbols}
use Rattle.sail_parse_atoms.proofs.BlockRows.{pass_test, pass_other, pass_not}
use Rattle.sail_parse_forms.proofs.Loops.{held_out}

abbrev pub equal_symbols : List ℕ
equal_symbols = code K.Equal ∷ []

-- an operand, and perhaps a type behind a colon
abbrev annotation : Form
annotation = word K.Colon then Row (N.Typ Limited) or nothing

pub annotated_some : {place : Place} {ss a rest : List Sign} {w : Sign} {x z : Exp} {t : TyExp} → Takes (code K.Colon ∷ []) ss w a →
    Reading (Row (N.Typ Limited)) typ_of a t rest → z ≡ V.Typed place x t →
    Reading (word K.Colon then Row (N.Typ Limited) or nothing) (annotated_of place x) ss z rest
annotated_some {place = place} {w = w} {x = x} q r e = record {
  tree = Left (Pair (Leaf w) r.tree);
  ends = more_ends q r.ends;
  shows = (λ i. V.Typed place x (r.shows i)) ∙ sym e;
}

pub annotated_none : {place : Place} {ss : List Sign} {x : Exp} → held ss (code K.Colon ∷ []) ≡ false →
    Reading (word K.Colon then Row (N.Typ Limited) or nothing) (annotated_of place x) ss x ss
annotated_none h = record { tree = Right Nothing; ends = no_more_ends refl h; shows = refl }

-- assignments, by the mode
pub assignment_in : {m n : Mode} {ss rest : List Sign} {z : Exp} → m ≡ n → Reading (Row (N.Assignment n)) T.assignment_of ss z rest →
    Reading (Row (N.Assignment m)) T.assignment_of ss z rest
assignment_in {ss = ss} {rest = rest} {z = z} e r = subst (λ m. Reading (Row (N.Assignment m)) T.assignment_of ss z rest) (sym e) r

pub assignment_in_stops : {m n : Mode} {ss : List Sign} {e : ReadError} → m ≡ n → StopsAt (Row (N.Assignment n)) ss e →
    StopsAt (Row (N.Assignment m)) ss e
assignment_in_stops {ss = ss} {e = x} e s = subst (λ m. StopsAt (Row (N.Assignment m)) ss x) (sym e) s

-- whether an operand that was read is a target
is_target_of : {m : Mode} {ss rest : List Sign} {x : Exp} {o : Option LExp} (r : Reading (Row (N.Infix m)) T.infix_of ss x rest) → target x ≡ o →
    is_target r.tree ≡ is_some o
is_target_of r e = (λ i. is_some (target (r.shows i))) ∙ ap is_some e

abbrev guarded : Form
guarded = Guard (Row (N.Infix Full)) is_target equal_symbols

guarded_equal : {ss a : List Sign} {x : Exp} {l : LExp} (r : Reading (Row (N.Infix Full)) T.infix_of ss x a) → target x ≡ Some l →
    Ends grammar guarded ss (Done r.tree a)
guarded_equal {a = a} r e = guard_read (pass_test is_target equal_symbols r.tree a (is_target_of r e)) r.ends

guarded_other : {ss a : List Sign} {x : Exp} (r : Reading (Row (N.Infix Full)) T.infix_of ss x a) → held a equal_symbols ≡ false →
    Ends grammar guarded ss (Done r.tree a)
guarded_other {a = a} r h = guard_read (pass_other is_target equal_symbols r.tree a h) r.ends

-- an operand with what is behind it that is no `=`
behind_operand : (t u : Tree) → T.assignment_of (Pair t (Right u)) ≡ annotated_of (first_place t) (T.infix_of t) u
behind_operand t Nothing = refl
behind_operand t (Leaf s) = refl
behind_operand t (Pair u v) = refl
behind_operand t (Left Nothing) = refl
behind_operand t (Left (Leaf s)) = refl
behind_operand t (Left (Pair u v)) = refl
behind_operand t (Left (Left u)) = refl
behind_operand t (Left (Right u)) = refl
behind_operand t (Right u) = refl

-- an assignment, where it may stand
pub operand_stops : {ss : List Sign} {e : ReadError} → StopsAt (Row (N.Infix Full)) ss e → StopsAt (Row (N.Assignment Full)) ss e
operand_stops s = stops_row (stops_first (carry (λ rest from h. guard_stop h) s))

pub assign_some : {ss a b rest : List Sign} {w : Sign} {place : Place} {x z : Exp} {l : LExp} → place ≡ place_ahead ss →
    Reading (Row (N.Infix Full)) T.infix_of ss x a → length a < length ss → target x ≡ Some l → Takes equal_symbols a w b →
    Reading (Row (N.Exp Full)) (assigned_behind place l []) b z rest → Reading (Row (N.Assignment Full)) T.assignment_of ss z rest
assign_some {w = w} {place = place} p r h t q v = record {
  tree = Pair r.tree (Left (Pair (Leaf w) v.tree));
  ends = row_ends (both_read (guarded_equal r t) (more_ends q v.ends));
  shows = (λ i. V.Assign ((first_place_ahead r.ends h ∙ sym p) i) (T.target_or (((λ j. target (r.shows j)) ∙ t) i)) (T.targets_of v.tree)
      (T.assigned_of v.tree)) ∙ v.shows;
}

pub assign_stops : {ss a b : List Sign} {w : Sign} {x : Exp} {l : LExp} {e : ReadError} → Reading (Row (N.Infix Full)) T.infix_of ss x a →
    target x ≡ Some l → Takes equal_symbols a w b → StopsAt (Row (N.Exp Full)) b e → StopsAt (Row (N.Assignment Full)) ss e
assign_stops r t q s = stops_row (stops_next (guarded_equal r t) (more_stops q s))

pub assign_unfit : {ss a b : List Sign} {w : Sign} {x : Exp} {n : ℕ} → Reading (Row (N.Infix Full)) T.infix_of ss x a → target x ≡ None →
    Takes equal_symbols a w b → n ≡ length a → StopsAt (Row (N.Assignment Full)) ss (Unfit n)
assign_unfit {a = a} {b = b} {w = w} r t q l = stops_row (stops_first (record {
  why = record {
    rest = a;
    begun = None;
    ends = guard_shut (pass_not is_target equal_symbols r.tree a (is_target_of r t) (takes_held equal_symbols a w b q)) r.ends;
    left_is = l;
    from_is = refl;
  };
}))

pub operand_alone : {ss a rest : List Sign} {place : Place} {x z : Exp} → place ≡ place_ahead ss → Reading (Row (N.Infix Full)) T.infix_of ss x a →
    length a < length ss → held a equal_symbols ≡ false → Reading (word K.Colon then Row (N.Typ Limited) or nothing) (annotated_of place x) a z rest →
    Reading (Row (N.Assignment Full)) T.assignment_of ss z rest
operand_alone {a = a} p r h n v = record {
  tree = Pair r.tree (Right v.tree);
  ends = row_ends (both_read (guarded_other r n) (right_read (past_word equal_symbols (Row (N.Exp Full)) annotation a refl n) v.ends));
  shows = behind_operand r.tree v.tree ∙ (λ i. annotated_of ((first_place_ahead r.ends h ∙ sym p) i) (r.shows i) v.tree) ∙ v.shows;
}

pub operand_alone_stops : {ss a : List Sign} {x : Exp} {e : ReadError} → Reading (Row (N.Infix Full)) T.infix_of ss x a →
    held a equal_symbols ≡ false → StopsAt (word K.Colon then Row (N.Typ Limited) or nothing) a e → StopsAt (Row (N.Assignment Full)) ss e
operand_alone_stops {a = a} r n s = stops_row (stops_next (guarded_other r n) (stops_right (past_word equal_symbols (Row (N.Exp Full)) annotation a refl
    n) s))

-- the same, where it is forbidden
abbrev no_target : Tree → Bool
no_target t = not (is_target t)

abbrev barred : Form
barred = Bar (Row (N.Infix Limited)) no_target equal_symbols

pub plain_operand_stops : {ss : List Sign} {e : ReadError} → StopsAt (Row (N.Infix Limited)) ss e → StopsAt (Row (N.Assignment Limited)) ss e
plain_operand_stops s = stops_row (stops_first (carry (λ rest from h. bar_stop h) s))

and_true : (a b : Bool) → (a && b) ≡ true → (a ≡ true) × (b ≡ true)
and_true true true e = (refl, refl)
and_true true false e = absurd (true≢false (sym e))
and_true false b e = absurd (true≢false (sym e))

pub assign_forbidden : {ss a : List Sign} {x : Exp} {n k : ℕ} → Reading (Row (N.Infix Limited)) T.infix_of ss x a →
    (is_some (target x) && held a equal_symbols) ≡ true → n ≡ length a → k ≡ length ss → StopsAt (Row (N.Assignment Limited)) ss (Forbidden n k)
assign_forbidden {ss = ss} {a = a} {x = x} r f l o =
    let both = and_true (is_some (target x)) (held a equal_symbols) f in
    let shown : no_target r.tree ≡ false = (λ i. not (is_some (target (r.shows i)))) ∙ ap not both.0 in
    stops_row (stops_first (record {
      why = record {
        rest = a;
        begun = Some ss;
        ends = bar_bar (pass_not no_target equal_symbols r.tree a shown both.1) r.ends;
        left_is = l;
        from_is = λ i. Some (o i);
      };
    }))

passed : (a b : Bool) → (a && b) ≡ false → (not a || not b) ≡ true
passed true true e = absurd (true≢false e)
passed true false e = refl
passed false b e = refl

barred_read : {ss a : List Sign} {x : Exp} (r : Reading (Row (N.Infix Limited)) T.infix_of ss x a) → (is_some (target x) && held a equal_symbols) ≡ false →
    Ends grammar barred ss (Done r.tree a)
barred_read {a = a} {x = x} r f = bar_read ((λ i. not (is_some (target (r.shows i))) || not (held a equal_symbols)) ∙
    passed (is_some (target x)) (held a equal_symbols) f) r.ends

pub plain_alone : {ss a rest : List Sign} {place : Place} {x z : Exp} → place ≡ place_ahead ss → Reading (Row (N.Infix Limited)) T.infix_of ss x a →
    length a < length ss → (is_some (target x) && held a equal_symbols) ≡ false →
    Reading (word K.Colon then Row (N.Typ Limited) or nothing) (annotated_of place x) a z rest →
    Reading (Row (N.Assignment Limited)) T.assignment_of ss z rest
plain_alone {a = a} p r h n v = record {
  tree = Pair r.tree (Right v.tree);
  ends = row_ends (both_read (barred_read r n) (right_read (skip (Word []) annotation (look a) refl refl) v.ends));
  shows = behind_operand r.tree v.tree ∙ (λ i. annotated_of ((first_place_ahead r.ends h ∙ sym p) i) (r.shows i) v.tree) ∙ v.shows;
}

pub plain_alone_stops : {ss a : List Sign} {x : Exp} {e : ReadError} → Reading (Row (N.Infix Limited)) T.infix_of ss x a →
    (is_some (target x) && held a equal_symbols) ≡ false → StopsAt (word K.Colon then Row (N.Typ Limited) or nothing) a e →
    StopsAt (Row (N.Assignment Limited)) ss e
plain_alone_stops {a = a} r n s = stops_row (stops_next (barred_read r n) (stops_right (skip (Word []) annotation (look a) refl refl) s))

-- what is assigned: with none of these words in hand an assignment
abbrev pub first_symbols : List ℕ
first_symbols = code K.Let ∷ code K.Var ∷ code K.If ∷ code K.Match ∷ code K.Try ∷ code K.Foreach ∷ code K.While ∷ code K.Repeat ∷ code K.Return ∷
    code K.Throw ∷ code K.Exit ∷ []

as_assignment : {ss rest : List Sign} {t : Tree} → held ss first_symbols ≡ false → Ends grammar (Row (N.Assignment Full)) ss (Done t rest) →
    Ends grammar (Row (N.Exp Full)) ss (Done (Right (Right (Right (Right (Right t))))) rest)
as_assignment {ss = ss} h r =
    row_ends (go_past (code K.Let ∷ []) (held_out (code K.Let ∷ []) first_symbols ss refl h) refl refl refl
    (go_past (code K.Var ∷ []) (held_out (code K.Var ∷ []) first_symbols ss refl h) refl refl refl
    (row_ends (go_past (code K.If ∷ []) (held_out (code K.If ∷ []) first_symbols ss refl h) refl refl refl
    (go_past (code K.Match ∷ []) (held_out (code K.Match ∷ []) first_symbols ss refl h) refl refl refl
    (go_past control_symbols (held_out control_symbols first_symbols ss refl h) refl refl refl r))))))

pub as_assignment_stops : {ss : List Sign} {e : ReadError} → held ss first_symbols ≡ false → StopsAt (Row (N.Assignment Full)) ss e →
    StopsAt (Row (N.Exp Full)) ss e
as_assignment_stops {ss = ss} h s =
    stops_row (stop_past (code K.Let ∷ []) (held_out (code K.Let ∷ []) first_symbols ss refl h) refl refl refl
    (stop_past (code K.Var ∷ []) (held_out (code K.Var ∷ []) first_symbols ss refl h) refl refl refl
    (stops_row (stop_past (code K.If ∷ []) (held_out (code K.If ∷ []) first_symbols ss refl h) refl refl refl
    (stop_past (code K.Match ∷ []) (held_out (code K.Match ∷ []) first_symbols ss refl h) refl refl refl
    (stop_past control_symbols (held_out control_symbols first_symbols ss refl h) refl refl refl s))))))

pub target_more : {ss a b rest : List Sign} {w : Sign} (place : Place) {begin : Place} (first : LExp) (items : List Target) {x z : Exp} {l : LExp}
    {more : List Target} → held ss first_symbols ≡ false → begin ≡ place_ahead ss → Reading (Row (N.Infix Full)) T.infix_of ss x a →
    length a < length ss → target x ≡ Some l → Takes equal_symbols a w b → more ≡ items ++ roll-Target (record { place = begin; to = l }) ∷ [] →
    Reading (Row (N.Exp Full)) (assigned_behind place first more) b z rest → Reading (Row (N.Exp Full)) (assigned_behind place first items) ss z rest
target_more {w = w} place {begin = begin} first items {l = l} f p r h t q m v = record {
  tree = Right (Right (Right (Right (Right (Pair r.tree (Left (Pair (Leaf w) v.tree)))))));
  ends = as_assignment f (row_ends (both_read (guarded_equal r t) (more_ends q v.ends)));
  shows = (λ i. V.Assign place first (((λ j. items ++ roll-Target (record {
    place = (first_place_ahead r.ends h ∙ sym p) j;
    to = T.target_or (((λ k. target (r.shows k)) ∙ t) j);
  }) ∷ T.targets_of v.tree) ∙ sym (append_assoc items (roll-Target (record { place = begin; to = l }) ∷ []) (T.targets_of v.tree)) ∙
      (λ j. sym m j ++ T.targets_of v.tree)) i) (T.assigned_of v.tree)) ∙ v.shows;
}

-- the value behind the targets, where it is an operand
pub value_alone : {ss a rest : List Sign} (place : Place) {begin : Place} (first : LExp) (items : List Target) {x y z : Exp} → held ss first_symbols ≡ false →
    begin ≡ place_ahead ss → Reading (Row (N.Infix Full)) T.infix_of ss x a → length a < length ss → held a equal_symbols ≡ false →
    Reading (word K.Colon then Row (N.Typ Limited) or nothing) (annotated_of begin x) a y rest → z ≡ V.Assign place first items y →
    Reading (Row (N.Exp Full)) (assigned_behind place first items) ss z rest
value_alone {a = a} place first items f p r h n v e = record {
  tree = Right (Right (Right (Right (Right (Pair r.tree (Right v.tree))))));
  ends = as_assignment f (row_ends (both_read (guarded_other r n) (right_read (past_word equal_symbols (Row (N.Exp Full)) annotation a refl n) v.ends)));
  shows = (λ i. V.Assign place first (append-nil items i) ((behind_operand r.tree v.tree ∙ (λ j. annotated_of ((first_place_ahead r.ends h ∙ sym p) j)
      (r.shows j) v.tree) ∙ v.shows) i)) ∙ sym e;
}

-- or begins with a word
abbrev all_right : ℕ → Bool
all_right c =
    may_right grammar (Row (N.LetIn Full)) (Row (N.VarIn Full) or Row (N.ExpInner Full)) c
    && (may_right grammar (Row (N.VarIn Full)) (Row (N.ExpInner Full)) c
    && (may_right grammar (Row (N.If Full)) (Row (N.Match Full) or Row (N.Control Full) or Row (N.Assignment Full)) c
    && (may_right grammar (Row (N.Match Full)) (Row (N.Control Full) or Row (N.Assignment Full)) c
    && may_right grammar (Row (N.Control Full)) (Row (N.Assignment Full)) c)))

not_all : (ss : List Sign) → held ss first_symbols ≡ true → not (all_right (look ss)) ≡ true
not_all ss h = held_every (λ c. not (all_right c)) first_symbols ss h refl

worded : {ss rest : List Sign} (t : Tree) → held ss first_symbols ≡ true → Ends grammar (Row (N.Exp Full)) ss (Done t rest) →
    (T.targets_of t ≡ []) × (T.assigned_of t ≡ T.exp_of t)
worded {ss = ss} _ h (row_ends (left_read {t = t} m r)) = (refl, refl)
worded {ss = ss} _ h (row_ends (right_read m (left_read {t = t} n r))) = (refl, refl)
worded {ss = ss} _ h (row_ends (right_read m (right_read n (row_ends (left_read o r))))) = (refl, refl)
worded {ss = ss} _ h (row_ends (right_read m (right_read n (row_ends (right_read o (left_read p r)))))) = (refl, refl)
worded {ss = ss} _ h (row_ends (right_read m (right_read n (row_ends (right_read o (right_read p (left_read q r))))))) = (refl, refl)
worded {ss = ss} _ h (row_ends (right_read m (right_read n (row_ends (right_read o (right_read p (right_read q r))))))) = absurd
    (true≢false (sym (not_all ss h) ∙ (λ i. not (m i && (n i && (o i && (p i && q i)))))))

pub value_worded : {ss rest : List Sign} (place : Place) (first : LExp) (items : List Target) {x z : Exp} → held ss first_symbols ≡ true →
    Reading (Row (N.Exp Full)) T.exp_of ss x rest → z ≡ V.Assign place first items x →
    Reading (Row (N.Exp Full)) (assigned_behind place first items) ss z rest
value_worded place first items h r e =
    let w = worded r.tree h r.ends in
    record {
      tree = r.tree;
      ends = r.ends;
      shows = (λ i. V.Assign place first (((λ j. items ++ w.0 j) ∙ append-nil items) i) ((w.1 ∙ r.shows) i)) ∙ sym e;
    }

-- what was asked of an operand that is lent
pub of_lent : {x y : Exp} (a : List Sign) {b c : Bool} → y ≡ x → b ≡ (is_some (target y) && held a equal_symbols) → b ≡ c →
    (is_some (target x) && held a equal_symbols) ≡ c
of_lent a g e f = (λ i. is_some (target (sym g i)) && held a equal_symbols) ∙ sym e ∙ f
