-- The fields of an ELF64 file by their offsets (System V gABI, "ELF Header" and "Program Header").
use Rattle.std.specs.Prelude.{ℕ, ◌+◌, ◌*◌, List, [], ◌∷◌, take, drop}

-- the number of bytes, the lowest first (gABI, "Data Encoding", ELFDATA2LSB)
abbrev pub little : List ℕ → ℕ
little [] = 0
little (byte ∷ bytes) = byte + 256 * little bytes

-- the number in the `width` bytes at an offset
unfoldable pub number_at : List ℕ → ℕ → ℕ → ℕ
number_at file at width = little (take width (drop at file))

-- ---- the header

-- the bytes of e_ident that are tested, behind the magic number: class, data encoding, version
abbrev pub e_class : List ℕ → ℕ
e_class file = number_at file 4 1

abbrev pub e_data : List ℕ → ℕ
e_data file = number_at file 5 1

abbrev pub e_ident_version : List ℕ → ℕ
e_ident_version file = number_at file 6 1

abbrev pub e_type : List ℕ → ℕ
e_type file = number_at file 16 2

abbrev pub e_machine : List ℕ → ℕ
e_machine file = number_at file 18 2

abbrev pub e_version : List ℕ → ℕ
e_version file = number_at file 20 4

abbrev pub e_entry : List ℕ → ℕ
e_entry file = number_at file 24 8

-- where the table of program headers begins, the size of one and their count
abbrev pub e_phoff : List ℕ → ℕ
e_phoff file = number_at file 32 8

abbrev pub e_phentsize : List ℕ → ℕ
e_phentsize file = number_at file 54 2

abbrev pub e_phnum : List ℕ → ℕ
e_phnum file = number_at file 56 2

-- ---- the program header of an index, which has 56 bytes

abbrev pub header_at : List ℕ → ℕ → ℕ
header_at file index = e_phoff file + 56 * index

abbrev pub p_type : List ℕ → ℕ → ℕ
p_type file index = number_at file (header_at file index) 4

abbrev pub p_offset : List ℕ → ℕ → ℕ
p_offset file index = number_at file (header_at file index + 8) 8

abbrev pub p_paddr : List ℕ → ℕ → ℕ
p_paddr file index = number_at file (header_at file index + 24) 8

abbrev pub p_filesz : List ℕ → ℕ → ℕ
p_filesz file index = number_at file (header_at file index + 32) 8

abbrev pub p_memsz : List ℕ → ℕ → ℕ
p_memsz file index = number_at file (header_at file index + 40) 8
