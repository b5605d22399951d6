-- The lines that a refusal writes, each with its line feed.
use Rattle.std.specs.Prelude.{ℕ, ◌+◌, ◌/◌, ◌%◌, List, [], ◌∷◌, ◌++◌, codes, Option, Some, None}
use Rattle.std.specs.Fmt.{decimal}
use Rattle.sail_base.specs.declared.place.Place.{Place}
use Rattle.sail_base.specs.declared.refusal.Refusal.{Refusal}
use Rattle.sail_base.specs.declared.elf_refusal.ElfRefusal.{ElfRefusal}
use Rattle.sail_base.specs.declared.elf_refusal.ElfRefusal.TheVariants as elf

-- the words are no command
abbrev pub usage_line : List ℕ
usage_line = codes "sail-run: usage\n"

-- there is no file of this name
abbrev pub no_file_line : List ℕ → List ℕ
no_file_line name = codes "no file: " ++ name ++ codes "\n"

-- the file of this name has more bytes than its limit
abbrev pub too_long_line : List ℕ → List ℕ
too_long_line name = codes "too long: " ++ name ++ codes "\n"

-- a number below 100 as two digits
abbrev pub two_digits : ℕ → List ℕ
two_digits n = (48 + n / 10) ∷ (48 + n % 10) ∷ []

-- a place as file:line:column
abbrev pub place_text : Place → List ℕ
place_text place = decimal place.file ++ codes ":" ++ decimal place.line ++ codes ":" ++ decimal place.column

-- a detail behind a space; none where it is empty
abbrev pub detail_text : List ℕ → List ℕ
detail_text [] = []
detail_text (first ∷ rest) = codes " " ++ (first ∷ rest)

-- a model is refused
abbrev pub refusal_line : Refusal → List ℕ
refusal_line refusal =
    codes "M" ++ two_digits refusal.number ++ codes " " ++ place_text refusal.place ++ detail_text refusal.detail
    ++ codes "\n"

-- the number of the refusal of a program's file
abbrev pub elf_number : ElfRefusal → ℕ
elf_number elf.Short = 1
elf_number elf.Magic = 2
elf_number elf.Class = 3
elf_number elf.Encoding = 4
elf_number elf.Version = 5
elf_number elf.FileType = 6
elf_number (elf.Machine wanted found) = 7
elf_number elf.HeaderSize = 8
elf_number elf.Count = 9
elf_number elf.TableOutside = 10
elf_number (elf.SegmentOutside index) = 11
elf_number (elf.FileOverMemory index) = 12
elf_number (elf.NotInRam index) = 13
elf_number (elf.Dynamic index) = 14

-- the program header that it is about; none where it is about the whole file
abbrev pub elf_index : ElfRefusal → Option ℕ
elf_index (elf.SegmentOutside index) = Some index
elf_index (elf.FileOverMemory index) = Some index
elf_index (elf.NotInRam index) = Some index
elf_index (elf.Dynamic index) = Some index
elf_index _ = None

-- an index behind a space, where there is one
abbrev pub index_text : Option ℕ → List ℕ
index_text None = []
index_text (Some index) = codes " " ++ decimal index

-- a program's file is refused
abbrev pub elf_line : ElfRefusal → List ℕ
elf_line refusal = codes "E" ++ decimal (elf_number refusal) ++ index_text (elf_index refusal) ++ codes "\n"
