-- What the models' texts are: an accepted model, or a refusal by the first phase that refuses them.
use Rattle.std.specs.Prelude.{◌≡◌, ℕ, ◌+◌, List, [], ◌∷◌, ◌++◌, Some, None, Ok, Err}
use Rattle.bidir_check.specs.declared.error.CheckError.{CheckError}
use Rattle.bidir_check.specs.Certification.{Certification}
use Rattle.monomorph.specs.declared.error.MonoError.{MonoError}
use Rattle.sail_base.specs.declared.place.Place.{Place}
use Rattle.sail_base.specs.declared.refusal.Refusal.{Refusal}
use Rattle.sail_grammar.specs.Joined.{with_texts}
use Rattle.sail_grammar.specs.Leaves.{nowhere}
use Rattle.sail_grammar.specs.Model.{IsModel, IsRefused}
use Rattle.sail_grammar.specs.Symbol.{Sign}
use Rattle.sail_grammar.specs.declared.error.ParseError.{ParseError}
use Rattle.sail_kinds.specs.declared.error.TableError.{TableError}
use Rattle.sail_lex.specs.Position.{end_of}
use Rattle.sail_lex.specs.declared.token.LexError.{LexError}
use Rattle.sail_lex.specs.declared.token.Token.{Token}
use Rattle.sail_syntax.specs.declared.definitions.Def.{Def}
use Rattle.scattered.specs.Gathered.{gathered}
use Rattle.scattered.specs.Refused.{refusal as why_ungathered}
use Rattle.scattered.specs.declared.error.ScatterError.{ScatterError}
use Rattle.model_tokens.specs.Files.{AreLexed, AreRefused}
use Rattle.sail_tables.specs.Refused.{IsFirstFailure, IsAccepted}
use Rattle.shape_rules.specs.declared.error.ShapeError.{ShapeError}
use Rattle.sail_compile.specs.Checked.{checked, instances_of}
use Rattle.sail_compile.specs.Refusals.{token_refusal, parse_refusal, gather_refusal, table_refusal, check_refusal, size_refusal}
use Rattle.sail_compile.specs.Shaped.{why_unshaped, shape_refusal_in}
use Rattle.sail_compile.specs.declared.models.Accepted.{Accepted}

-- the tokens of texts, one text behind another, each with its spelling
abbrev pub joined : List (List ℕ) → List (List Token) → List Sign
joined [] all = []
joined (text ∷ texts) [] = []
joined (text ∷ texts) (tokens ∷ all) = with_texts text tokens ++ joined texts all

-- the place of the end of the last of texts, which are the files from this number on; of no text this place
abbrev pub last_end : Place → ℕ → List (List ℕ) → Place
last_end place file [] = place
last_end place file (text ∷ texts) = last_end (end_of file text) (file + 1) texts

abbrev pub end_of_all : List (List ℕ) → Place
end_of_all texts = last_end nowhere 1 texts

-- the texts have tokens, these are the definitions of a model, they can be gathered, gathered they have tables and shapes, each of their
-- obligations is closed, with these certificates, and no size is refused, for these instances
pub record AreAccepted (texts : List (List ℕ)) (made : Accepted) : Type 0 where
  pub tokens : List (List Token)
  pub lexed : AreLexed 1 0 texts tokens
  pub definitions : List Def
  pub parsed : IsModel (joined texts tokens) definitions
  pub gathers : why_ungathered definitions ≡ None
  pub tables : IsAccepted (gathered definitions) (end_of_all texts)
  pub shapes : why_unshaped (gathered definitions) ≡ None
  pub closed : checked (gathered definitions) ≡ Ok made.certified
  pub listed : instances_of (gathered definitions) ≡ Ok made.instances

-- the texts are refused: a text has no tokens; or all have, and these are no model; or they are one, and its definitions
-- can't be gathered; or they can, and gathered they have no tables, for this first failure; or they have, and their shapes fail, and
-- this is the first failure; or none does, and this is their first obligation that isn't closed; or all are, and this is the first size
-- that is refused
pub data IsRefusal (texts : List (List ℕ)) : Refusal → Type 0 where
  unlexed : (e : LexError) → AreRefused 1 0 texts e → IsRefusal texts (token_refusal e)
  unparsed : (tokens : List (List Token)) (e : ParseError) → AreLexed 1 0 texts tokens →
      IsRefused (joined texts tokens) (end_of_all texts) e → IsRefusal texts (parse_refusal e)
  ungathered : (tokens : List (List Token)) (definitions : List Def) (e : ScatterError) → AreLexed 1 0 texts tokens →
      IsModel (joined texts tokens) definitions → why_ungathered definitions ≡ Some e → IsRefusal texts (gather_refusal e)
  untabled : (tokens : List (List Token)) (definitions : List Def) (e : TableError) → AreLexed 1 0 texts tokens →
      IsModel (joined texts tokens) definitions → why_ungathered definitions ≡ None →
      IsFirstFailure (gathered definitions) (end_of_all texts) (Some e) → IsRefusal texts (table_refusal e)
  unshaped : (tokens : List (List Token)) (definitions : List Def) (e : ShapeError) → AreLexed 1 0 texts tokens →
      IsModel (joined texts tokens) definitions → why_ungathered definitions ≡ None →
      IsAccepted (gathered definitions) (end_of_all texts) → why_unshaped (gathered definitions) ≡ Some e →
      IsRefusal texts (shape_refusal_in (gathered definitions) e)
  unclosed : (tokens : List (List Token)) (definitions : List Def) (e : CheckError) → AreLexed 1 0 texts tokens →
      IsModel (joined texts tokens) definitions → why_ungathered definitions ≡ None →
      IsAccepted (gathered definitions) (end_of_all texts) → why_unshaped (gathered definitions) ≡ None →
      checked (gathered definitions) ≡ Err e → IsRefusal texts (check_refusal e)
  unsized : (tokens : List (List Token)) (definitions : List Def) (made : Certification) (e : MonoError) → AreLexed 1 0 texts tokens →
      IsModel (joined texts tokens) definitions → why_ungathered definitions ≡ None →
      IsAccepted (gathered definitions) (end_of_all texts) → why_unshaped (gathered definitions) ≡ None →
      checked (gathered definitions) ≡ Ok made → instances_of (gathered definitions) ≡ Err e → IsRefusal texts (size_refusal e)
