-- A finite map from names to bytes, where it is told, and the map that files in memory are.
use Rattle.std.specs.Prelude.{◌≡◌, ℕ, List, [], ◌∷◌, drop, map, Option, Some, None, if◌then◌else◌}
use Rattle.std.specs.Prelude.{Vec, String, string_bytes}
use Rattle.std.specs.Str.{bytes_eq}
use Rattle.std.specs.declared.alloc.Global.{Global}

-- a finite map from names to bytes, as the list of its pairs
abbrev pub Files : Type 0
Files = List (List ℕ × List ℕ)

-- the bytes at a name: those of the first pair with this name
abbrev pub lookup : Files → List ℕ → Option (List ℕ)
lookup [] name = None
lookup (file ∷ files) name = if bytes_eq file.0 name then Some file.1 else lookup files name

-- the files, if told, lack the name
abbrev pub Lacks : Option Files → List ℕ → Type 0
Lacks None name = Unit {0}
Lacks (Some files) name = lookup files name ≡ None

-- files in memory, each a name and its bytes
abbrev pub Stored : Type 0
Stored = String Global × Vec ℕ Global

-- the map that files in memory are
abbrev pub files_of : List Stored → Files
files_of stored = map (λ file. (string_bytes file.0, file.1.items)) stored

-- the bytes of the first file, none where there is no file
abbrev pub first_bytes : Files → List ℕ
first_bytes [] = []
first_bytes (file ∷ files) = file.1

-- the bytes of the file at an index, none past the end
abbrev pub bytes_at : Files → ℕ → List ℕ
bytes_at files index = first_bytes (drop index files)

-- files of which one may be begun, and the bytes that are left of it
pub record Reading : Type 0 where
  pub files : Files
  pub left : List ℕ
