-- A word that models may not use shows no forbidden form.
use Rattle.std.proofs.Common.{◌≡◌, ℕ, zero, suc, Bool, true, false, not, ◌&&◌, ◌||◌, List, [], ◌∷◌, ◌++◌}
use Rattle.std.proofs.Common.{take, Option, Some, refl, sym, ap, ◌∙◌, subst, inl, inr}
use Rattle.std.specs.Prelude.{◌==◌, if◌then◌else◌, slice_get}
use Rattle.std.proofs.lemmas.Bool.{and_parts, true≢false, or_cases, eqb-true}
use Rattle.sail_lex.specs.declared.kind.TokenKind.TheVariants as K
use Rattle.sail_grammar.specs.declared.mode.Mode.TheVariants.{Full, Limited}
use Rattle.sail_grammar.specs.Symbol.{Sign, code, symbol, two, kind_name, is_two, is_kind_name}
use Rattle.sail_grammar.specs.RowName.{RowName}
use Rattle.sail_grammar.specs.Form.{Form, Word, Empty, ◌or◌, ◌then◌, Guard, Row, Forbid, Bar, Hold}
use Rattle.sail_grammar.specs.Reads.{Bars, bars_word, bars_left, bars_right, bars_first, bars_next, bars_guard, bars_here, bars_in, bars_hold, bars_row}
use Rattle.sail_grammar.specs.Table.{rule}
use Rattle.sail_grammar.specs.Test.{every}
use Rattle.sail_grammar.specs.Model.{is_left_out, is_order}
use Rattle.sail_grammar.proofs.Test.{every_at}
use Rattle.sail_grammar.proofs.Front.{shut_held}
use Rattle.sail_grammar.proofs.Frame.{frame}
use Rattle.sail_grammar.specs.RowName.{Definitions, Definition, OrderDefinition, TypeDefinition, EnumDefinition}
use Rattle.sail_grammar.specs.RowName.{EnumMembers, EnumBars, StructDefinition, UnionDefinition, UnionClause}
use Rattle.sail_grammar.specs.RowName.{UnionWhole, ValDefinition, FunctionDefinition, MeasureDefinition}
use Rattle.sail_grammar.specs.RowName.{MappingDefinition, MappingClauseDefinition, MappingWhole, LetDefinition}
use Rattle.sail_grammar.specs.RowName.{RegisterDefinition, OverloadDefinition, ScatteredDefinition, EndDefinition}
use Rattle.sail_grammar.specs.RowName.{Names, NamesTail, NamesMore, Members, MembersTail, MembersMore, Member}
use Rattle.sail_grammar.specs.RowName.{Parameters, ParametersTail, Parameter, KindMark, Quantifier}
use Rattle.sail_grammar.specs.RowName.{QuantifiedVariables, QuantifiedVariable, MappingClauses, MappingClausesTail}
use Rattle.sail_grammar.specs.RowName.{MappingClausesMore, MappingClause, MappingSide, Typ, TypeAnd, TypeComparison}
use Rattle.sail_grammar.specs.RowName.{TypeSet, NumbersTail, NumbersMore, TypeSum, TypeSumMore, TypeProduct}
use Rattle.sail_grammar.specs.RowName.{TypeProductMore, TypeAtom, TypeNamed, TypePower, TypeNegation, TypeNot}
use Rattle.sail_grammar.specs.RowName.{TypeGroup, TypeExists, TypeVariables, Types, TypesTail, Pattern, PatternAs}
use Rattle.sail_grammar.specs.RowName.{PatternConcat, PatternAppends, PatternTyped, PatternBase, PatternWildcard}
use Rattle.sail_grammar.specs.RowName.{PatternNegative, PatternNamed, PatternGroup, PatternVector, PatternList}
use Rattle.sail_grammar.specs.RowName.{Patterns, PatternsTail, Exp, LetIn, VarIn, ExpInner, If, Match, Control, Try}
use Rattle.sail_grammar.specs.RowName.{Foreach, While, Repeat, Leave, LoopMeasure, Assignment, Cases, CasesTail}
use Rattle.sail_grammar.specs.RowName.{CasesMore, Case, Infix, InfixAnd, InfixComparison, InfixAppend, InfixSum}
use Rattle.sail_grammar.specs.RowName.{InfixSumMore, InfixProduct, InfixProductMore, InfixPower, Unary, Negation}
use Rattle.sail_grammar.specs.RowName.{Power, Postfix, Suffixes, Suffix, Index, Atom, NamedExp, Arguments, PrefixCall}
use Rattle.sail_grammar.specs.RowName.{GroupExp, VectorExp, Update, ListExp, StructExp, TypeQuestion, Assertion, Exps}
use Rattle.sail_grammar.specs.RowName.{ExpsTail, Block, BlockBody, BlockMore, Statements, StatementsMore, Statement}
use Rattle.sail_grammar.specs.RowName.{LetStatement, VarStatement, FieldValues, FieldValuesTail, FieldValuesMore}
use Rattle.sail_grammar.specs.RowName.{FieldValue}

-- every token with which a form may show a forbidden one, its rows aside, passes a test
abbrev shows : (ℕ → Bool) → Form → Bool
shows p (Word ks) = true
shows p (Empty ks) = true
shows p (a or b) = shows p a && shows p b
shows p (a then b) = shows p a && shows p b
shows p (Guard a test ks) = shows p a
shows p (Row n) = true
shows p (Forbid ks) = every p ks
shows p (Bar a test ks) = every p ks && shows p a
shows p (Hold a) = shows p a

-- the last of some tokens passes a test
abbrev last_passes : (ℕ → Bool) → List Sign → Bool
last_passes p [] = false
last_passes p (s ∷ []) = p (symbol s)
last_passes p (s ∷ t ∷ ss) = last_passes p (t ∷ ss)

last_behind : (p : ℕ → Bool) (front ss : List Sign) → last_passes p ss ≡ true → last_passes p (front ++ ss) ≡ true
last_behind p [] ss h = h
last_behind p (s ∷ []) [] h = absurd (true≢false (sym h))
last_behind p (s ∷ []) (t ∷ ss) h = h
last_behind p (s ∷ t ∷ front) ss h = last_behind p (t ∷ front) ss h

last_at : (p : ℕ → Bool) (ss : List Sign) (k : ℕ) (s : Sign) → slice_get ss k ≡ Some s → last_passes p (take (suc k) ss) ≡ true → p (symbol s) ≡ true
last_at p [] k s at h = absurd cc
last_at p (t ∷ ss) zero s at h = let same : t ≡ s = cc in subst (λ x. p (symbol x) ≡ true) same h
last_at p (t ∷ []) (suc k) s at h = absurd cc
last_at p (t ∷ u ∷ ss) (suc k) s at h = last_at p (u ∷ ss) k s at h

module _ (p : ℕ → Bool) (rows : (n : RowName) → shows p (rule n) ≡ true) where
  -- with its last token a list shows a forbidden form, so that token passes the test
  shown_last : {a : Form} {us from : List Sign} → shows p a ≡ true → Bars rule a us from → last_passes p us ≡ true
  shown_last c (bars_word {ks = ks} {s = s} h) = every_at p ks (symbol s) c h
  shown_last c (bars_left {a = a} {b = b} r) = shown_last (and_parts (shows p a) (shows p b) c).0 r
  shown_last c (bars_right {a = a} {b = b} r) = shown_last (and_parts (shows p a) (shows p b) c).1 r
  shown_last c (bars_first {a = a} {b = b} r) = shown_last (and_parts (shows p a) (shows p b) c).0 r
  shown_last c (bars_next {a = a} {b = b} {mid = mid} q r) =
      let f = frame rule q in
      let rest : last_passes p mid ≡ true = shown_last (and_parts (shows p a) (shows p b) c).1 r in
      subst (λ x. last_passes p x ≡ true) (sym f.split) (last_behind p f.read mid rest)
  shown_last c (bars_guard r) = shown_last c r
  shown_last c (bars_here {a = a} {test = test} {ks = ks} {t = t} {s = s} q h) =
      let f = frame rule q in
      let here : p (symbol s) ≡ true = every_at p ks (symbol s) (and_parts (every p ks) (shows p a) c).0 (shut_held test ks t (s ∷ []) h) in
      subst (λ x. last_passes p x ≡ true) (sym f.split) (last_behind p f.read (s ∷ []) here)
  shown_last c (bars_in {a = a} {ks = ks} r) = shown_last (and_parts (every p ks) (shows p a) c).1 r
  shown_last c (bars_hold r) = shown_last c r
  shown_last c (bars_row {n = n} r) = shown_last (rows n) r

-- no word that models may not use
abbrev usable : ℕ → Bool
usable c = not (c == code K.LeftOut) && (not (c == code K.Order) && not (c == code K.Inc))

rows_usable : (n : RowName) → shows usable (rule n) ≡ true
rows_usable Definitions = refl
rows_usable Definition = refl
rows_usable OrderDefinition = refl
rows_usable TypeDefinition = refl
rows_usable EnumDefinition = refl
rows_usable EnumMembers = refl
rows_usable EnumBars = refl
rows_usable StructDefinition = refl
rows_usable UnionDefinition = refl
rows_usable UnionClause = refl
rows_usable UnionWhole = refl
rows_usable ValDefinition = refl
rows_usable FunctionDefinition = refl
rows_usable MeasureDefinition = refl
rows_usable MappingDefinition = refl
rows_usable MappingClauseDefinition = refl
rows_usable MappingWhole = refl
rows_usable LetDefinition = refl
rows_usable RegisterDefinition = refl
rows_usable OverloadDefinition = refl
rows_usable ScatteredDefinition = refl
rows_usable EndDefinition = refl
rows_usable Names = refl
rows_usable NamesTail = refl
rows_usable NamesMore = refl
rows_usable Members = refl
rows_usable MembersTail = refl
rows_usable MembersMore = refl
rows_usable Member = refl
rows_usable Parameters = refl
rows_usable ParametersTail = refl
rows_usable Parameter = refl
rows_usable KindMark = refl
rows_usable Quantifier = refl
rows_usable QuantifiedVariables = refl
rows_usable QuantifiedVariable = refl
rows_usable MappingClauses = refl
rows_usable MappingClausesTail = refl
rows_usable MappingClausesMore = refl
rows_usable MappingClause = refl
rows_usable MappingSide = refl
rows_usable (Typ Full) = refl
rows_usable (Typ Limited) = refl
rows_usable (TypeAnd Full) = refl
rows_usable (TypeAnd Limited) = refl
rows_usable (TypeComparison Full) = refl
rows_usable (TypeComparison Limited) = refl
rows_usable (TypeSet Full) = refl
rows_usable (TypeSet Limited) = refl
rows_usable NumbersTail = refl
rows_usable NumbersMore = refl
rows_usable TypeSum = refl
rows_usable TypeSumMore = refl
rows_usable TypeProduct = refl
rows_usable TypeProductMore = refl
rows_usable TypeAtom = refl
rows_usable TypeNamed = refl
rows_usable TypePower = refl
rows_usable TypeNegation = refl
rows_usable TypeNot = refl
rows_usable TypeGroup = refl
rows_usable TypeExists = refl
rows_usable TypeVariables = refl
rows_usable Types = refl
rows_usable TypesTail = refl
rows_usable (Pattern m) = refl
rows_usable (PatternAs Full) = refl
rows_usable (PatternAs Limited) = refl
rows_usable (PatternConcat m) = refl
rows_usable (PatternAppends m) = refl
rows_usable (PatternTyped m) = refl
rows_usable (PatternBase m) = refl
rows_usable (PatternWildcard Full) = refl
rows_usable (PatternWildcard Limited) = refl
rows_usable PatternNegative = refl
rows_usable (PatternNamed m) = refl
rows_usable (PatternGroup m) = refl
rows_usable (PatternVector m) = refl
rows_usable (PatternList m) = refl
rows_usable (Patterns m) = refl
rows_usable (PatternsTail m) = refl
rows_usable (Exp m) = refl
rows_usable (LetIn m) = refl
rows_usable (VarIn m) = refl
rows_usable (ExpInner m) = refl
rows_usable (If m) = refl
rows_usable (Match m) = refl
rows_usable (Control Full) = refl
rows_usable (Control Limited) = refl
rows_usable Try = refl
rows_usable Foreach = refl
rows_usable While = refl
rows_usable Repeat = refl
rows_usable Leave = refl
rows_usable LoopMeasure = refl
rows_usable (Assignment Full) = refl
rows_usable (Assignment Limited) = refl
rows_usable (Cases m) = refl
rows_usable (CasesTail m) = refl
rows_usable (CasesMore m) = refl
rows_usable (Case m) = refl
rows_usable (Infix m) = refl
rows_usable (InfixAnd m) = refl
rows_usable (InfixComparison m) = refl
rows_usable (InfixAppend m) = refl
rows_usable (InfixSum m) = refl
rows_usable (InfixSumMore m) = refl
rows_usable (InfixProduct m) = refl
rows_usable (InfixProductMore m) = refl
rows_usable (InfixPower m) = refl
rows_usable (Unary m) = refl
rows_usable (Negation m) = refl
rows_usable (Power m) = refl
rows_usable (Postfix m) = refl
rows_usable (Suffixes m) = refl
rows_usable (Suffix m) = refl
rows_usable (Index m) = refl
rows_usable (Atom m) = refl
rows_usable (NamedExp m) = refl
rows_usable (Arguments m) = refl
rows_usable (PrefixCall m) = refl
rows_usable (GroupExp m) = refl
rows_usable (VectorExp m) = refl
rows_usable (Update m) = refl
rows_usable (ListExp m) = refl
rows_usable (StructExp m) = refl
rows_usable TypeQuestion = refl
rows_usable (Assertion Full) = refl
rows_usable (Assertion Limited) = refl
rows_usable (Exps m) = refl
rows_usable (ExpsTail m) = refl
rows_usable (Block Full) = refl
rows_usable (Block Limited) = refl
rows_usable BlockBody = refl
rows_usable BlockMore = refl
rows_usable Statements = refl
rows_usable StatementsMore = refl
rows_usable (Statement m) = refl
rows_usable (LetStatement m) = refl
rows_usable (VarStatement m) = refl
rows_usable (FieldValues m) = refl
rows_usable (FieldValuesTail m) = refl
rows_usable (FieldValuesMore m) = refl
rows_usable (FieldValue m) = refl

-- the symbol of a token whose kind has this code
abbrev symbol_by : ℕ → List ℕ → ℕ
symbol_by c text = if c == code K.Decimal && is_two text then two else (if c == code K.Identifier && is_kind_name text then kind_name else c)

symbol_is : (s : Sign) (c : ℕ) → code s.kind ≡ c → symbol s ≡ symbol_by c s.text
symbol_is s c e = ap (λ x. symbol_by x s.text) e

not_usable : (s : Sign) (c : ℕ) → code s.kind ≡ c → usable (symbol_by c s.text) ≡ false → usable (symbol s) ≡ true → ⊥
not_usable s c e none h = true≢false (sym h ∙ (ap usable (symbol_is s c e) ∙ none))

left_out_unusable : (s : Sign) (before : Option Sign) → is_left_out s.kind before ≡ true → usable (symbol s) ≡ true → ⊥
left_out_unusable s before h u =
    elim (or_cases (code s.kind == code K.LeftOut) ((code s.kind == code K.Order) || ((code s.kind == code K.Inc) && is_order before)) h) [
      | inl e ↦ not_usable s (code K.LeftOut) (eqb-true (code s.kind) (code K.LeftOut) e) refl u
      | inr more ↦ elim (or_cases (code s.kind == code K.Order) ((code s.kind == code K.Inc) && is_order before) more) [
        | inl e ↦ not_usable s (code K.Order) (eqb-true (code s.kind) (code K.Order) e) refl u
        | inr both ↦ not_usable s (code K.Inc) (eqb-true (code s.kind) (code K.Inc) (and_parts (code s.kind == code K.Inc) (is_order before) both).0) refl u
      ]
    ]

-- a word that is left out shows nothing
pub left_out_shows : {a : Form} (ss from : List Sign) (k : ℕ) (s : Sign) (before : Option Sign) → shows usable a ≡ true
    → slice_get ss k ≡ Some s → is_left_out s.kind before ≡ true → Bars rule a (take (suc k) ss) from → ⊥
left_out_shows ss from k s before c at h b =
    left_out_unusable s before h (last_at usable ss k s at (shown_last usable rows_usable c b))
