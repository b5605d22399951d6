-- Where the instructions of a function may jump to.
use Rattle.std.specs.Prelude.{ℕ, List, map, Option, Some, None, unwrap_or}
use Rattle.jib.specs.declared.code.Instruction.{Instruction}
use Rattle.jib.specs.declared.code.Function.{Function}
use Rattle.jib.specs.Valid.{aim, place_from}

-- the place of a label; 0 where it isn't set, or there is none
abbrev pub aimed : List Instruction → Option ℕ → ℕ
aimed c None = 0
aimed c (Some l) = unwrap_or (place_from l 0 c) 0

abbrev pub aims : List Instruction → List Instruction → List ℕ
aims c is = map (λ i. aimed c (aim i)) is

abbrev pub table_for : Function → List ℕ
table_for f = aims f.code f.code

abbrev pub tables_for : List Function → List (List ℕ)
tables_for fs = map table_for fs
