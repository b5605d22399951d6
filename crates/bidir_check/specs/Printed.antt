-- What is printed of a model that is accepted or refused.
use Rattle.std.specs.Prelude.{ℕ, ◌+◌, ◌/◌, List, [], ◌++◌, length, codes}
use Rattle.sail_core.specs.declared.model.CoreModel.{CoreModel}
use Rattle.model_state.specs.Report.{number_text}
use Rattle.obligations.specs.Texts.{certs_text, point_text, limit_text}
use Rattle.bidir_check.specs.declared.error.CheckError.{CheckError}
use Rattle.bidir_check.specs.declared.error.CheckError.TheVariants as E
use Rattle.bidir_check.specs.Certification.{Certification}

-- how many functions and mappings a model has: a mapping has two directions
abbrev pub function_count : CoreModel → ℕ
function_count core = length core.functions + length core.directions / 2

-- how many functions and mappings, and how many obligations
abbrev pub counts_text : Certification → List ℕ
counts_text c =
    codes "accepted " ++ number_text (function_count c.core) ++ codes " functions " ++ number_text (length c.obligations) ++ codes " obligations"

-- each obligation with its certificate
abbrev pub certificates_text : Certification → List ℕ
certificates_text c = certs_text c.obligations c.certificates

-- what a refusal tells besides its place: the point, or the limit
abbrev pub detail_text : CheckError → List ℕ
detail_text (E.Open place names point) = point_text names point
detail_text (E.Limit place names limit) = limit_text names limit
detail_text E.OutOfMemory = []
