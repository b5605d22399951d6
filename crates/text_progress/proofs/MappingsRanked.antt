-- What a rank of the directions of mappings is to a text: where mappings call each other in patterns, it goes down.
use Rattle.std.proofs.Common.{◌≡◌, ℕ, suc, ◌*◌, ◌<◌, List, [], ◌∷◌, Bool, true}
use Rattle.std.specs.List.{list_all}
use Rattle.sail_syntax.specs.declared.definitions.Def.{Def}
use Rattle.sail_syntax.specs.declared.definitions.Def.TheVariants as D
use Rattle.sail_syntax.specs.declared.definitions.MappingClause.{MappingClause}
use Rattle.sail_cycles.specs.Callees.{mappings_of_global}
use Rattle.sail_cycles.specs.Cycles.{mapping_clause_callees}
use Rattle.sail_cycles.specs.declared.expressions.Which.TheVariants.{Patterns}
use Rattle.known_names.specs.Meanings.{known_in}
use Rattle.shapes.specs.Tabled.{tabled_of}
use Rattle.known_texts.specs.Whole.{setting_in}
use Rattle.text_progress.proofs.Insides.{Ways}

-- the mappings that patterns of clauses call are among these
abbrev pub CalleesAmong : List Def → (ℕ → Bool) → List MappingClause → Type 0
CalleesAmong text converts [] = Unit {0}
CalleesAmong text converts (c ∷ cs) =
    (list_all converts (mapping_clause_callees Patterns (known_in text) c) ≡ true) × CalleesAmong text converts cs

-- what a pattern can take that calls mappings among these alone
abbrev pub WaysBelow : List Def → (ℕ → ℕ) → ℕ → (ℕ → Bool) → Type 0
WaysBelow text rank bound converts =
    (name : List ℕ) → list_all converts (mappings_of_global ((known_in text).value name)) ≡ true
    → Ways (λ i. rank i < bound) ((setting_in (tabled_of text) text []).value name)

-- the mapping of this number has these clauses: both of its directions
pub record MappingRanked (text : List Def) (rank : ℕ → ℕ) (k : ℕ) (cs : List MappingClause) : Type 0 where
  pub converts : ℕ → Bool
  pub callees : CalleesAmong text converts cs
  pub ahead : WaysBelow text rank (rank (2 * k)) converts
  pub back : WaysBelow text rank (rank (suc (2 * k))) converts

-- the mappings of these definitions, from this number on
abbrev pub MappingsRanked : List Def → (ℕ → ℕ) → ℕ → List Def → Type 0
MappingsRanked text rank k [] = Unit {0}
MappingsRanked text rank k ((D.Mapping place name sides cs) ∷ more) = MappingRanked text rank k cs × MappingsRanked text rank (suc k) more
MappingsRanked text rank k (d ∷ more) = MappingsRanked text rank k more
