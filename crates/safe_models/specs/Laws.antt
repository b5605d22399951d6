-- The laws of texts that the program accepts, one a function of `src/laws.rt`.
pub use Rattle.safe_models.specs.Places.{VariablesHavePlaces}
pub use Rattle.safe_models.specs.Constraints.{ConstraintsAreOwn}
pub use Rattle.safe_models.specs.Types.{MappingsAreClosed, RegistersAreClosed, TablesAreNarrow}
pub use Rattle.safe_models.specs.Models.{ModelsOfTextsStand}
pub use Rattle.safe_models.specs.Patterns.{PatternsOfTextsMeant}
pub use Rattle.safe_models.specs.CoreLaws.{ClausesStand, ValuesStand, WaysStandBoth}
pub use Rattle.safe_models.specs.ModelLaws.{TestedModelsStand}
pub use Rattle.safe_models.specs.OpeningLaws.{TestedOpeningsStand}
pub use Rattle.safe_models.specs.Accepted.{AcceptedTextsFit, PatternsOfTextsPass}
pub use Rattle.safe_models.specs.AcceptedOpenings.{AcceptedOpeningsFit}
pub use Rattle.safe_models.specs.TextLaws.{FittingTextsStand}
pub use Rattle.safe_models.specs.Safe.{AcceptedCoresRunSafely, AcceptedModelsRunSafely, FreshStatesFit, TextsRunSafely}
pub use Rattle.safe_models.specs.Ways.{WaysOfTextsFall}
pub use Rattle.safe_models.specs.Tested.{TestedListsCover, TestedModelsRunSafely}
pub use Rattle.safe_models.specs.Listed.{AcceptedTextsRunSafely, FoundListsCover, ListedModelsRunSafely}
pub use Rattle.safe_models.specs.Tables.{TabledCoresGo, TabledTextsGo, WholeTablesCover}
pub use Rattle.safe_models.specs.RunLaws.{EventsCome, EventsEnter, LoweredEventsMean}
