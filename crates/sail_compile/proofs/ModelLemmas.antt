-- What lexing, parsing, gathering, the tables, the shapes and the obligations say of texts.
use Rattle.std.proofs.Common.{◌≡◌, ℕ, ◌+◌, ◌≤◌, List, [], ◌∷◌, ◌++◌, length, map, sym, ap, ◌∙◌, subst, inl, inr, arith}
use Rattle.std.specs.Prelude.{Option, Some, None, Result, Ok, Err, IfOk, IfErr}
use Rattle.std.specs.List.{All}
use Rattle.std.proofs.lemmas.List.Elements.{All-cons, All-nil}
use Rattle.sail_base.specs.declared.place.Place.{Place}
use Rattle.sail_base.specs.declared.refusal.Refusal.{Refusal}
use Rattle.bidir_check.specs.Certification.{Certification}
use Rattle.bidir_check.specs.Checking.{IsMet}
use Rattle.bidir_check.specs.declared.error.CheckError.{CheckError}
use Rattle.monomorph.specs.declared.error.MonoError.{MonoError}
use Rattle.sized_nodes.specs.declared.trees.Instance.{Instance}
use Rattle.monomorph.specs.Instances.{instances, IsMet as IsListed}
use Rattle.sail_core.specs.declared.model.CoreModel.{CoreModel}
use Rattle.jib_machine.specs.declared.machine.Machine.{Machine}
use Rattle.sail_grammar.specs.Joined.{with_texts, HasText, HaveTexts, end_from, joined as joined_files}
use Rattle.sail_grammar.specs.Leaves.{nowhere}
use Rattle.sail_grammar.specs.Model.{IsModel, IsRefused, IsRefusal as IsRefusalOfTokens}
use Rattle.sail_grammar.specs.Symbol.{Sign}
use Rattle.sail_grammar.specs.declared.error.ParseError.{ParseError}
use Rattle.sail_grammar.specs.declared.error.ParseError.TheVariants as parse
use Rattle.sail_grammar.proofs.Model.{one_model, not_refused}
use Rattle.sail_kinds.specs.declared.error.TableError.{TableError}
use Rattle.sail_kinds.specs.declared.error.TableError.TheVariants as table
use Rattle.sail_lex.specs.Tokens.{AreInOrder}
use Rattle.sail_lex.specs.Valued.{AreAscii}
use Rattle.sail_lex.specs.declared.token.LexError.{LexError}
use Rattle.sail_lex.specs.declared.token.LexError.TheVariants as error
use Rattle.sail_lex.specs.declared.token.Token.{Token}
use Rattle.sail_lex.specs.declared.token.Tokens.{Tokens}
use Rattle.sail_syntax.specs.declared.definitions.Def.{Def}
use Rattle.scattered.specs.Gathered.{gathered}
use Rattle.scattered.specs.Refused.{refusal as why_ungathered, IsRefusal as IsRefusalOfDefinitions}
use Rattle.scattered.specs.declared.error.ScatterError.{ScatterError}
use Rattle.scattered.specs.declared.error.ScatterError.TheVariants as scatter
use Rattle.model_tokens.specs.Files.{AreLexed, AreRefused, IsRefusal as IsRefusalOfTexts}
use Rattle.model_tokens.specs.Parts.{tokens_of, IsOf, AreOf}
use Rattle.model_tokens.proofs.OneAnswer.{one_lexing, one_refused as one_unlexed, never_both}
use Rattle.sail_tables.specs.Refused.{IsFirstFailure, IsAccepted, IsRefusal as IsRefusalOfTables}
use Rattle.shape_rules.specs.declared.error.ShapeError.{ShapeError}
use Rattle.shape_rules.specs.declared.error.ShapeError.TheVariants as shape
use Rattle.shapes.specs.Tabled.{IsRefused as IsRefusalOfShapes}
use Rattle.sail_compile.specs.Checked.{checked_core, checked, instances_of}
use Rattle.sail_compile.specs.Models.{joined, last_end, end_of_all, AreAccepted, IsRefusal, unlexed, unparsed, ungathered, untabled, unshaped, unclosed, unsized}
use Rattle.sail_compile.specs.Refusals.{token_refusal, parse_refusal, gather_refusal, table_refusal, check_refusal, size_refusal}
use Rattle.sail_compile.specs.Shaped.{why_unshaped, shape_refusal_in}
use Rattle.sail_compile.specs.parts.Cycles.{without_cycles}
use Rattle.sail_compile.specs.parts.Runs.{meant}
use Rattle.sail_compile.specs.parts.Told.{IsOfText, IsOfTokens, IsOfDefinitions, IsOfTables, IsOfShapes, IsOfChecks, IsOfSizes, Tells}
use Rattle.sail_compile.specs.parts.Told.{ParsesAs, GathersAs, TabledAs, ShapedAs, ClosedAs, IsCoreOf, IsRunCore}
use Rattle.sail_compile.specs.parts.Told.{TabledRefused, tabled_unshaped, tabled_unclosed, tabled_unsized, WholeRefused, whole_untabled, whole_tabled}
use Rattle.sail_compile.specs.parts.Told.{DefinitionsRefused, definitions_ungathered, definitions_gathered}
use Rattle.sail_compile.specs.parts.Told.{TokensRefused, tokens_unparsed, tokens_parsed, TellsOfTokens, TellsOfDefinitions, TellsOfWhole, TellsOfTabled}
use Rattle.sail_compile.specs.parts.Told.{TellsOfShaped, TellsOfClosed}
use Rattle.sail_compile.specs.Engines.{HasRegisters, IsCompiled, RunsAs}
use Rattle.sail_compile.specs.Meanings.{jib}
use Rattle.sail_compile.specs.declared.compiled.Compiled.{Compiled}
use Rattle.sail_compile.specs.declared.models.Accepted.{Accepted}
use Rattle.sail_compile.specs.declared.models.ModelError.{ModelError}
use Rattle.sail_compile.specs.declared.models.ModelError.TheVariants as model
use Rattle.sail_compile.proofs.CheckLemmas.{closed_is, unclosed_is, listed_is, unlisted_is}
use Rattle.sail_compile.proofs.OneRefusal.{one_refused}
use Rattle.sail_compile.proofs.TableLemmas.{failure_of, failure_is}

-- ---- errors that say something

-- an error that says something of texts is their refusal
pub refused_texts : (texts : List (List ℕ)) (e : LexError) → IsRefusalOfTexts texts e → IsOfText e → AreRefused 1 0 texts e
refused_texts texts (error.BadByte place byte) is told = is
refused_texts texts (error.BadLiteral place) is told = is
refused_texts texts (error.Unclosed place) is told = is
refused_texts texts (error.NumberTooLarge place) is told = is
refused_texts texts (error.TokenLimit place) is told = is
refused_texts texts error.OutOfMemory is told = absurd told

refused_tokens : (signs : List Sign) (end : Place) (e : ParseError) → IsRefusalOfTokens signs end e → IsOfTokens e → IsRefused signs end e
refused_tokens signs end (parse.Outside place text) is told = is
refused_tokens signs end (parse.Syntax place text) is told = is
refused_tokens signs end (parse.TooDeep place) is told = is
refused_tokens signs end parse.OutOfMemory is told = absurd told

pub unlexed_is : (texts : List (List ℕ)) (e : LexError) (refusal : Refusal)
    → IsRefusalOfTexts texts e → IsOfText e → refusal ≡ token_refusal e → IsRefusal texts refusal
unlexed_is texts e refusal is told same = subst (IsRefusal texts) (sym same) (unlexed e (refused_texts texts e is told))

pub unparsed_is : (signs : List Sign) (end : Place) (e : ParseError) (refusal : Refusal)
    → IsRefusalOfTokens signs end e → IsOfTokens e → refusal ≡ parse_refusal e → TokensRefused signs end refusal
unparsed_is signs end e refusal is told same =
    subst (TokensRefused signs end) (sym same) (tokens_unparsed e (refused_tokens signs end e is told))

refused_definitions : (definitions : List Def) (e : ScatterError)
    → IsRefusalOfDefinitions (why_ungathered definitions) e → IsOfDefinitions e → why_ungathered definitions ≡ Some e
refused_definitions definitions (scatter.NoOpening place name) is told = is
refused_definitions definitions (scatter.Unended place name) is told = is
refused_definitions definitions scatter.OutOfMemory is told = absurd told

pub ungathered_is : (definitions : List Def) (end : Place) (e : ScatterError) (refusal : Refusal)
    → IsRefusalOfDefinitions (why_ungathered definitions) e → IsOfDefinitions e → refusal ≡ gather_refusal e
    → DefinitionsRefused definitions end refusal
ungathered_is definitions end e refusal is told same =
    subst (DefinitionsRefused definitions end) (sym same) (definitions_ungathered e (refused_definitions definitions e is told))

refused_tables : (whole : List Def) (end : Place) (e : TableError) → IsRefusalOfTables whole end e → IsOfTables e → IsFirstFailure whole end (Some e)
refused_tables whole end (table.Clash place name) is told = is
refused_tables whole end (table.NoName place name) is told = is
refused_tables whole end (table.IllKinded place found) is told = is
refused_tables whole end (table.MeasureMissing place name) is told = is
refused_tables whole end (table.EntryMissing place name) is told = is
refused_tables whole end (table.MappingCycle place name) is told = is
refused_tables whole end table.OutOfMemory is told = absurd told

pub untabled_is : (whole : List Def) (end : Place) (e : TableError) (refusal : Refusal)
    → IsRefusalOfTables whole end e → IsOfTables e → refusal ≡ table_refusal e → WholeRefused whole end refusal
untabled_is whole end e refusal is told same =
    subst (WholeRefused whole end) (sym same) (whole_untabled e (refused_tables whole end e is told))

refused_shapes : (text : List Def) (e : ShapeError) → IsRefusalOfShapes text e → IsOfShapes e → why_unshaped text ≡ Some e
refused_shapes text (shape.Overlap place first second) is told = is
refused_shapes text (shape.IllShaped place found) is told = is
refused_shapes text (shape.Arity place wanted found) is told = is
refused_shapes text (shape.NoMember place name) is told = is
refused_shapes text (shape.NoNumber place name) is told = is
refused_shapes text (shape.WidthUnknown place) is told = is
refused_shapes text shape.OutOfMemory is told = absurd told

pub unshaped_is : (text : List Def) (e : ShapeError) (refusal : Refusal)
    → IsRefusalOfShapes text e → IsOfShapes e → refusal ≡ shape_refusal_in text e → TabledRefused text refusal
unshaped_is text e refusal is told same = subst (TabledRefused text) (sym same) (tabled_unshaped e (refused_shapes text e is told))

-- an accepted text has these certificates and instances, and an error of the check, or of the list, is its refusal
pub accepted_is : (text : List Def) (made : Compiled Machine) → IsListed (Ok made.accepted.instances) (instances made.accepted.certified.core)
    → RunsAs meant jib text made.run × HasRegisters meant made.accepted.certified.core made.run → checked text ≡ Ok made.accepted.certified
    → ClosedAs text made
accepted_is text made met runs closed = (closed, (listed_is text made.accepted.certified closed made.accepted.instances met, runs))

pub unsized_tells : (text : List Def) (made : Certification) (e : MonoError) (refusal : Refusal)
    → IsListed (Err e) (instances made.core) → IsOfSizes e → refusal ≡ size_refusal e → checked text ≡ Ok made
    → TellsOfClosed text (model.Refused refusal)
unsized_tells text made e refusal met told same closed = (e, unlisted_is text made closed e met told, same)

module _ (text : List Def) (core : CoreModel) (is : IsCoreOf text core) (made : Certification)
    (met : IsMet (Ok made) (checked_core (without_cycles core))) where
  pub closed_accepted : (r : Result (Compiled Machine) ModelError) → (checked text ≡ Ok made → IfOk r (ClosedAs text)) → IfOk r (ClosedAs text)
  closed_accepted r h = h (closed_is text core is made met)

  pub closed_refused : (r : Result (Compiled Machine) ModelError) → (checked text ≡ Ok made → IfErr r (TellsOfClosed text)) → IfErr r (TellsOfShaped text)
  closed_refused (Ok a) h = h (closed_is text core is made met)
  closed_refused (Err (model.Refused refusal)) h =
      let closed = closed_is text core is made met in
      inr (made, closed, h closed)
  closed_refused (Err model.OutOfMemory) h = tt

pub unclosed_tells : (text : List Def) (core : CoreModel) (e : CheckError) (refusal : Refusal)
    → IsMet {A = Certification} (Err e) (checked_core (without_cycles core)) → IsOfChecks e → refusal ≡ check_refusal e
    → IsCoreOf text core → TellsOfShaped text (model.Refused refusal)
unclosed_tells text core e refusal met told same is = inl (e, unclosed_is text core is e met told, same)

-- ---- the tokens of files

in_order : (from to : ℕ) (tokens : List Token) → AreInOrder from to tokens → from ≤ to
in_order from to [] h = h
in_order from to (t ∷ tokens) h = let rest : t.end ≤ to = in_order t.end to tokens h.2 in omega (arith, h.0, h.1, rest)

texts_within : (source : List ℕ) (from : ℕ) (tokens : List Token)
    → AreInOrder from (length source) tokens → AreAscii source tokens → All (HasText source) tokens
texts_within source from [] h ascii = All-nil (HasText source)
texts_within source from (t ∷ tokens) h ascii =
    let order : t.start ≤ t.end = omega (arith, h.1) in
    All-cons (HasText source) t tokens (order, in_order t.end (length source) tokens h.2, ascii.0) (texts_within source t.end tokens h.2 ascii.1)

has_texts : (file : ℕ) (text : List ℕ) (found : Tokens) → IsOf file text found → HaveTexts found
has_texts file text found is =
    subst (λ source. All (HasText source) found.tokens) (sym is.source) (texts_within text 0 found.tokens is.spans is.ascii)

pub have_texts : (file : ℕ) (texts : List (List ℕ)) (found : List Tokens) → AreOf file texts found → All HaveTexts found
have_texts file [] found is = subst (All HaveTexts) (sym is) (All-nil HaveTexts)
have_texts file (text ∷ texts) [] is = absurd is
have_texts file (text ∷ texts) (first ∷ found) is =
    All-cons HaveTexts first found (has_texts file text first is.0) (have_texts (file + 1) texts found is.1)

joined_is : (file : ℕ) (texts : List (List ℕ)) (found : List Tokens) → AreOf file texts found → joined_files found ≡ joined texts (map tokens_of found)
joined_is file [] found is = ap joined_files is
joined_is file (text ∷ texts) [] is = absurd is
joined_is file (text ∷ texts) (first ∷ found) is =
    λ i. with_texts (is.0.source i) first.tokens ++ joined_is (file + 1) texts found is.1 i

end_is : (place : Place) (file : ℕ) (texts : List (List ℕ)) (found : List Tokens) → AreOf file texts found → end_from place found ≡ last_end place file texts
end_is place file [] found is = ap (end_from place) is
end_is place file (text ∷ texts) [] is = absurd is
end_is place file (text ∷ texts) (first ∷ found) is =
    end_is first.end (file + 1) texts found is.1 ∙ ap (λ p. last_end p (file + 1) texts) is.0.end

-- ---- from the tokens of files to texts

module _ (texts : List (List ℕ)) (found files : List Tokens) (same : files ≡ found) (lexed : AreLexed 1 0 texts (map tokens_of found))
    (are : AreOf 1 texts found) where
  signs : joined_files files ≡ joined texts (map tokens_of found)
  signs = ap joined_files same ∙ joined_is 1 texts found are

  end : end_from nowhere files ≡ end_of_all texts
  end = ap (end_from nowhere) same ∙ end_is nowhere 1 texts found are

  pub files_have_texts : All HaveTexts files
  files_have_texts = subst (All HaveTexts) (sym same) (have_texts 1 texts found are)

  pub texts_compiled : (r : Result (Compiled Machine) ModelError) → IfOk r (ParsesAs (joined_files files) (end_from nowhere files))
      → IfOk r (IsCompiled meant jib texts)
  texts_compiled (Ok m) is = record {
    accepted = record {
      tokens = map tokens_of found;
      lexed = lexed;
      definitions = is.0;
      parsed = subst (λ x. IsModel x is.0) signs is.1;
      gathers = is.2.0;
      tables = subst (λ p. IsAccepted (gathered is.0) p) end is.2.1.0;
      shapes = is.2.1.1.0;
      closed = is.2.1.1.1.0;
      listed = is.2.1.1.1.1.0;
    };
    runs = is.2.1.1.1.1.1.0;
    registers = is.2.1.1.1.1.1.1;
  }
  texts_compiled (Err e) is = is

  refusal_of_tabled : (definitions : List Def) (refusal : Refusal) → IsModel (joined texts (map tokens_of found)) definitions
      → why_ungathered definitions ≡ None → IsAccepted (gathered definitions) (end_of_all texts)
      → TabledRefused (gathered definitions) refusal → IsRefusal texts refusal
  refusal_of_tabled definitions refusal h none tabled (tabled_unshaped e why) =
      unshaped (map tokens_of found) definitions e lexed h none tabled why
  refusal_of_tabled definitions refusal h none tabled (tabled_unclosed e shaped why) =
      unclosed (map tokens_of found) definitions e lexed h none tabled shaped why
  refusal_of_tabled definitions refusal h none tabled (tabled_unsized made e shaped closed why) =
      unsized (map tokens_of found) definitions made e lexed h none tabled shaped closed why

  refusal_of_whole : {refusal : Refusal} (definitions : List Def) → IsModel (joined texts (map tokens_of found)) definitions
      → why_ungathered definitions ≡ None → WholeRefused (gathered definitions) (end_of_all texts) refusal → IsRefusal texts refusal
  refusal_of_whole definitions h none (whole_untabled e first) = untabled (map tokens_of found) definitions e lexed h none first
  refusal_of_whole {refusal} definitions h none (whole_tabled tabled is) = refusal_of_tabled definitions refusal h none tabled is

  refusal_of_definitions : {refusal : Refusal} (definitions : List Def) → IsModel (joined texts (map tokens_of found)) definitions
      → DefinitionsRefused definitions (end_of_all texts) refusal → IsRefusal texts refusal
  refusal_of_definitions definitions h (definitions_ungathered e why) = ungathered (map tokens_of found) definitions e lexed h why
  refusal_of_definitions definitions h (definitions_gathered none whole) = refusal_of_whole definitions h none whole

  refusal_of : {refusal : Refusal} → TokensRefused (joined_files files) (end_from nowhere files) refusal → IsRefusal texts refusal
  refusal_of (tokens_unparsed e h) =
      unparsed (map tokens_of found) e lexed (subst (λ x. IsRefused x (end_of_all texts) e) signs (subst (λ p. IsRefused (joined_files files) p e) end h))
  refusal_of {refusal} (tokens_parsed definitions h refused) =
      refusal_of_definitions definitions (subst (λ x. IsModel x definitions) signs h) (subst (λ p. DefinitionsRefused definitions p refusal) end refused)

  pub texts_refused : (r : Result (Compiled Machine) ModelError) → IfErr r (TellsOfTokens (joined_files files) (end_from nowhere files)) → IfErr r (Tells texts)
  texts_refused (Ok m) is = is
  texts_refused (Err (model.Refused refusal)) is = refusal_of is
  texts_refused (Err model.OutOfMemory) is = tt

-- ---- from definitions to their tokens

module _ (signs : List Sign) (definitions : List Def) (parsed : IsModel signs definitions) (place end : Place) (same : place ≡ end) where
  pub tokens_accepted : (r : Result (Compiled Machine) ModelError) → IfOk r (GathersAs definitions place) → IfOk r (ParsesAs signs end)
  tokens_accepted (Ok m) is = (definitions, parsed, subst (λ p. GathersAs definitions p m) same is)
  tokens_accepted (Err e) is = is

  pub tokens_refused : (r : Result (Compiled Machine) ModelError) → IfErr r (TellsOfDefinitions definitions place) → IfErr r (TellsOfTokens signs end)
  tokens_refused (Ok m) is = is
  tokens_refused (Err (model.Refused refusal)) is =
      tokens_parsed definitions parsed (subst (λ p. DefinitionsRefused definitions p refusal) same is)
  tokens_refused (Err model.OutOfMemory) is = tt

-- ---- from gathered definitions to those that were gathered

module _ (definitions whole read : List Def) (same : read ≡ whole) (none : why_ungathered definitions ≡ None) (are : whole ≡ gathered definitions)
    (end : Place) where
  pub gathered_accepted : (r : Result (Compiled Machine) ModelError) → IfOk r (TabledAs read end) → IfOk r (GathersAs definitions end)
  gathered_accepted (Ok m) is = (none, subst (λ w. TabledAs w end m) (same ∙ are) is)
  gathered_accepted (Err e) is = is

  pub gathered_refused : (r : Result (Compiled Machine) ModelError) → IfErr r (TellsOfWhole read end) → IfErr r (TellsOfDefinitions definitions end)
  gathered_refused (Ok m) is = is
  gathered_refused (Err (model.Refused refusal)) is = definitions_gathered none (subst (λ w. WholeRefused w end refusal) (same ∙ are) is)
  gathered_refused (Err model.OutOfMemory) is = tt

-- ---- from definitions that have tables to gathered ones

module _ (whole : List Def) (end : Place) (tabled : IsAccepted whole end) where
  pub tabled_accepted : (r : Result (Compiled Machine) ModelError) → IfOk r (ShapedAs whole) → IfOk r (TabledAs whole end)
  tabled_accepted (Ok m) is = (tabled, is)
  tabled_accepted (Err e) is = is

  pub tabled_refused : (r : Result (Compiled Machine) ModelError) → IfErr r (TellsOfTabled whole) → IfErr r (TellsOfWhole whole end)
  tabled_refused (Ok m) is = is
  tabled_refused (Err (model.Refused refusal)) is = whole_tabled tabled is
  tabled_refused (Err model.OutOfMemory) is = tt

-- ---- from the core to definitions that have tables

module _ (text read : List Def) (same : read ≡ text) (shaped : why_unshaped text ≡ None) (core : CoreModel) (is : IsCoreOf text core)
  where
    of_read : IsCoreOf read core
    of_read = subst (λ t. IsCoreOf t core) (sym same) is

    pub shaped_accepted : (again : Option CoreModel) → IsRunCore text again → (r : Result (Compiled Machine) ModelError)
        → (IsCoreOf read core → IsRunCore read again → IfOk r (ClosedAs read)) → IfOk r (ShapedAs text)
    shaped_accepted again run (Ok made) closed = (shaped, subst (λ t. ClosedAs t made) same (closed of_read (subst (λ t. IsRunCore t again) (sym same) run)))
    shaped_accepted again run (Err e) closed = closed of_read (subst (λ t. IsRunCore t again) (sym same) run)

    shaped_by : (refusal : Refusal) → TellsOfShaped read (model.Refused refusal) → TabledRefused text refusal
    shaped_by refusal (inl why) =
        subst (TabledRefused text) (sym why.2) (tabled_unclosed why.0 shaped (subst (λ t. checked t ≡ Err why.0) same why.1))
    shaped_by refusal (inr why) =
        subst (TabledRefused text) (sym why.2.2) (tabled_unsized why.0 why.2.0 shaped (subst (λ t. checked t ≡ Ok why.0) same why.1)
        (subst (λ t. instances_of t ≡ Err why.2.0) same why.2.1))

    pub shaped_refused : (r : Result (Compiled Machine) ModelError) → (IsCoreOf read core → IfErr r (TellsOfShaped read)) → IfErr r (TellsOfTabled text)
    shaped_refused (Ok made) tells = tells of_read
    shaped_refused (Err (model.Refused refusal)) tells = shaped_by refusal (tells of_read)
    shaped_refused (Err model.OutOfMemory) tells = tt

-- ---- the phases behind the grammar, as one function

-- by the list of instances
abbrev instances_refusal : Result (List Instance) MonoError → Option Refusal
instances_refusal (Ok list) = None
instances_refusal (Err e) = Some (size_refusal e)

-- by the check, then by the list
abbrev closing_refusal : Result Certification CheckError → Result (List Instance) MonoError → Option Refusal
closing_refusal (Ok made) listed = instances_refusal listed
closing_refusal (Err e) listed = Some (check_refusal e)

-- of this text
abbrev tabled_refusal : List Def → Option ShapeError → Result Certification CheckError → Result (List Instance) MonoError → Option Refusal
tabled_refusal text (Some e) found listed = Some (shape_refusal_in text e)
tabled_refusal text None found listed = closing_refusal found listed

abbrev whole_refusal : Option TableError → Option Refusal → Option Refusal
whole_refusal (Some e) next = Some (table_refusal e)
whole_refusal None next = next

abbrev refusal_unless : Option ScatterError → Option Refusal → Option Refusal
refusal_unless (Some e) next = Some (gather_refusal e)
refusal_unless None next = next

abbrev text_refusal : List Def → Option Refusal
text_refusal text = tabled_refusal text (why_unshaped text) (checked text) (instances_of text)

-- how definitions that end here are refused by the first of these phases that refuses them
abbrev definitions_refusal : Place → List Def → Option Refusal
definitions_refusal end definitions =
    refusal_unless (why_ungathered definitions) (whole_refusal (failure_of (gathered definitions) end) (text_refusal (gathered definitions)))

-- how texts are refused, with all these phases as one
data Refused (texts : List (List ℕ)) : Refusal → Type 0 where
  by_tokens : (e : LexError) → AreRefused 1 0 texts e → Refused texts (token_refusal e)
  by_grammar : (tokens : List (List Token)) (e : ParseError) → AreLexed 1 0 texts tokens →
      IsRefused (joined texts tokens) (end_of_all texts) e → Refused texts (parse_refusal e)
  by_definitions : {refusal : Refusal} (tokens : List (List Token)) (definitions : List Def) → AreLexed 1 0 texts tokens →
      IsModel (joined texts tokens) definitions → definitions_refusal (end_of_all texts) definitions ≡ Some refusal → Refused texts refusal

phase : (texts : List (List ℕ)) {refusal : Refusal} → IsRefusal texts refusal → Refused texts refusal
phase texts (unlexed e h) = by_tokens e h
phase texts (unparsed tokens e lexed h) = by_grammar tokens e lexed h
phase texts (ungathered tokens definitions e lexed parsed why) =
    by_definitions tokens definitions lexed parsed
    (λ i. refusal_unless (why i) (whole_refusal (failure_of (gathered definitions) (end_of_all texts)) (text_refusal (gathered definitions))))
phase texts (untabled tokens definitions e lexed parsed none first) =
    let failure = failure_is (gathered definitions) (end_of_all texts) (Some e) first in
    by_definitions tokens definitions lexed parsed (λ i. refusal_unless (none i) (whole_refusal (failure i) (text_refusal (gathered definitions))))
phase texts (unshaped tokens definitions e lexed parsed none tabled why) =
    let failure = failure_is (gathered definitions) (end_of_all texts) None tabled in
    by_definitions tokens definitions lexed parsed
    (λ i. refusal_unless (none i) (whole_refusal (failure i) (tabled_refusal (gathered definitions) (why i) (checked (gathered definitions))
    (instances_of (gathered definitions)))))
phase texts (unclosed tokens definitions e lexed parsed none tabled shaped why) =
    let failure = failure_is (gathered definitions) (end_of_all texts) None tabled in
    by_definitions tokens definitions lexed parsed
    (λ i. refusal_unless (none i) (whole_refusal (failure i) (tabled_refusal (gathered definitions) (shaped i) (why i) (instances_of (gathered definitions)))))
phase texts (unsized tokens definitions made e lexed parsed none tabled shaped closed why) =
    let failure = failure_is (gathered definitions) (end_of_all texts) None tabled in
    by_definitions tokens definitions lexed parsed
    (λ i. refusal_unless (none i) (whole_refusal (failure i) (tabled_refusal (gathered definitions) (shaped i) (closed i) (why i))))

accepted_unrefused : (texts : List (List ℕ)) (m : Accepted) (p : AreAccepted texts m) → definitions_refusal (end_of_all texts) p.definitions ≡ None
accepted_unrefused texts m p =
    let failure = failure_is (gathered p.definitions) (end_of_all texts) None p.tables in
    λ i. refusal_unless (p.gathers i) (whole_refusal (failure i) (tabled_refusal (gathered p.definitions) (p.shapes i) (p.closed i) (p.listed i)))

-- ---- texts are one model, or refused in one way

same_definitions : (texts : List (List ℕ)) (tokens others : List (List Token)) (a b : List Def)
    → AreLexed 1 0 texts tokens → AreLexed 1 0 texts others → IsModel (joined texts tokens) a → IsModel (joined texts others) b → a ≡ b
same_definitions texts tokens others a b p q m n =
    one_model (joined texts others) a b (subst (λ t. IsModel (joined texts t) a) (one_lexing texts 1 0 tokens others p q) m) n

-- what is parsed isn't refused
parsed_apart : (texts : List (List ℕ)) (tokens others : List (List Token)) (a : List Def) (end : Place) (e : ParseError)
    → AreLexed 1 0 texts tokens → AreLexed 1 0 texts others → IsModel (joined texts tokens) a → IsRefused (joined texts others) end e → ⊥
parsed_apart texts tokens others a end e p q m r =
    not_refused (joined texts others) a end e (subst (λ t. IsModel (joined texts t) a) (one_lexing texts 1 0 tokens others p q) m) r

-- what is accepted isn't refused
accepted_apart : (end : Place) (a b : List Def) (refusal : Refusal) → a ≡ b → definitions_refusal end a ≡ None → definitions_refusal end b ≡ Some refusal → ⊥
accepted_apart end a b refusal same none some = let both : None ≡ Some refusal = sym none ∙ (ap (definitions_refusal end) same ∙ some) in cc

-- accepted texts of the same certificates and the same instances
one_accepted : (a b : Accepted) → a.certified ≡ b.certified → a.instances ≡ b.instances → a ≡ b
one_accepted a b certified listed = λ i. record { certified = certified i; instances = listed i }

-- accepted texts have one list of definitions
pub one_text_of : (texts : List (List ℕ)) (a b : Accepted) (p : AreAccepted texts a) (q : AreAccepted texts b) → p.definitions ≡ q.definitions
one_text_of texts a b p q = same_definitions texts p.tokens q.tokens p.definitions q.definitions p.lexed q.lexed p.parsed q.parsed

pub one_accepted_of : (texts : List (List ℕ)) (a b : Accepted) → AreAccepted texts a → AreAccepted texts b → a ≡ b
one_accepted_of texts a b p q =
    let definitions : p.definitions ≡ q.definitions = one_text_of texts a b p q in
    let both : Ok a.certified ≡ Ok b.certified = sym p.closed ∙ (ap (λ d. checked (gathered d)) definitions ∙ q.closed) in
    let certified : a.certified ≡ b.certified = cc in
    let lists : Ok a.instances ≡ Ok b.instances = sym p.listed ∙ (ap (λ d. instances_of (gathered d)) definitions ∙ q.listed) in
    let listed : a.instances ≡ b.instances = cc lists in
    one_accepted a b certified listed

apart : (texts : List (List ℕ)) (m : Accepted) (refusal : Refusal) → AreAccepted texts m → Refused texts refusal → ⊥
apart texts m refusal p (by_tokens e h) = never_both texts 1 0 p.tokens e p.lexed h
apart texts m refusal p (by_grammar tokens e lexed h) =
    parsed_apart texts p.tokens tokens p.definitions (end_of_all texts) e p.lexed lexed p.parsed h
apart texts m refusal p (by_definitions tokens definitions lexed parsed some) =
    accepted_apart (end_of_all texts) p.definitions definitions refusal (same_definitions texts p.tokens tokens p.definitions definitions p.lexed lexed
    p.parsed parsed) (accepted_unrefused texts m p) some

pub accepted_not_refused : (texts : List (List ℕ)) (m : Accepted) (refusal : Refusal) → AreAccepted texts m → IsRefusal texts refusal → ⊥
accepted_not_refused texts m refusal p h = apart texts m refusal p (phase texts h)

-- definitions of the same texts are refused in one way
one_later : (end : Place) (a b : List Def) (r other : Refusal) → a ≡ b → definitions_refusal end a ≡ Some r → definitions_refusal end b ≡ Some other
    → r ≡ other
one_later end a b r other same one two = let both : Some r ≡ Some other = sym one ∙ (ap (definitions_refusal end) same ∙ two) in cc

one_phase : (texts : List (List ℕ)) {r other : Refusal} → Refused texts r → Refused texts other → r ≡ other
one_phase texts (by_tokens e h) (by_tokens f k) = ap token_refusal (one_unlexed texts 1 0 e f h k)
one_phase texts (by_tokens e h) (by_grammar tokens f lexed k) = absurd (never_both texts 1 0 tokens e lexed h)
one_phase texts (by_tokens e h) (by_definitions tokens definitions lexed parsed some) = absurd (never_both texts 1 0 tokens e lexed h)
one_phase texts (by_grammar tokens f lexed k) (by_tokens e h) = absurd (never_both texts 1 0 tokens e lexed h)
one_phase texts (by_grammar tokens e lexed h) (by_grammar others f again k) =
    ap parse_refusal (one_refused (joined texts others) (end_of_all texts) e f
    (subst (λ t. IsRefused (joined texts t) (end_of_all texts) e) (one_lexing texts 1 0 tokens others lexed again) h) k)
one_phase texts (by_grammar tokens e lexed h) (by_definitions others definitions again parsed some) =
    absurd (parsed_apart texts others tokens definitions (end_of_all texts) e again lexed parsed h)
one_phase texts (by_definitions tokens definitions lexed parsed some) (by_tokens e h) = absurd (never_both texts 1 0 tokens e lexed h)
one_phase texts (by_definitions others definitions again parsed some) (by_grammar tokens e lexed h) =
    absurd (parsed_apart texts others tokens definitions (end_of_all texts) e again lexed parsed h)
one_phase texts {r} {other} (by_definitions tokens definitions lexed parsed one) (by_definitions others also again more two) =
    one_later (end_of_all texts) definitions also r other (same_definitions texts tokens others definitions also lexed again parsed more) one two

pub one_refusal_of : (texts : List (List ℕ)) (r other : Refusal) → IsRefusal texts r → IsRefusal texts other → r ≡ other
one_refusal_of texts r other p q = one_phase texts (phase texts p) (phase texts q)
