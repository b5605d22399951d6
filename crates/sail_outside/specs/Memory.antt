-- What a shelf and an output in memory are to a contract.
use Rattle.std.specs.Prelude.{ℕ, List}
use Rattle.sail_outside.specs.Files.{Files}

-- the files and what is left of the begun one, the most bytes that a call gives, the numbers of
-- the calls that fail, the calls and the faults so far
pub record FilesInMemory : Type 0 where
  pub files : Files
  pub left : List ℕ
  pub piece : ℕ
  pub fails : List ℕ
  pub calls : ℕ
  pub faults : ℕ

-- the bytes taken so far, the most that a call takes, the numbers of the calls that fail, the
-- calls and the faults so far
pub record OutputInMemory : Type 0 where
  pub bytes : List ℕ
  pub piece : ℕ
  pub fails : List ℕ
  pub calls : ℕ
  pub faults : ℕ
