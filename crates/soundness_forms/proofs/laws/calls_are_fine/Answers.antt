use Rattle.soundness_forms.proofs.Called.{function_fine}
use Rattle.soundness_forms.proofs.laws.calls_are_fine.Goals as goal

pub returns : goal.returns
returns c = λ q w place k i fn fit is_it calls n f facts bs is xs args typed. function_fine q w place k i fn is_it calls is xs n fit bs args typed
