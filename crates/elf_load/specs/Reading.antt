-- What a file is read as: its image, or the first of the tests, in their order, that it fails.
use Rattle.std.specs.Prelude.{ℕ, ◌+◌, ◌*◌, Bool, not, ◌&&◌, ◌||◌, ◌==◌, nat_eq, nat_lt, if◌then◌else◌, List, [], ◌∷◌}
use Rattle.std.specs.Prelude.{◌++◌, length, take, drop, map, filter, Option, Some, None, ℤ, pos}
use Rattle.std.specs.Ordering.{int_eq}
use Rattle.std.specs.List.{starts_with, flat_map, range_with_len}
use Rattle.sail_base.specs.declared.elf_refusal.ElfRefusal.{ElfRefusal}
use Rattle.sail_base.specs.declared.elf_refusal.ElfRefusal.TheVariants as refusal
use Rattle.elf_load.specs.declared.image.Image.{Image}
use Rattle.elf_load.specs.declared.image.Segment.{Segment}
use Rattle.elf_load.specs.Fields.{e_class, e_data, e_ident_version, e_type, e_machine, e_version, e_entry, e_phoff}
use Rattle.elf_load.specs.Fields.{e_phentsize, e_phnum, p_type, p_offset, p_paddr, p_filesz, p_memsz}

-- a test: whether it fails, and what is answered then
abbrev pub Test : Type 0
Test = Bool × ElfRefusal

-- the answer of the first test that fails
abbrev pub first_failed : List Test → Option ElfRefusal
first_failed [] = None
first_failed (test ∷ tests) = if test.0 then Some test.1 else first_failed tests

-- 7F 45 4C 46 (gABI, EI_MAG0 to EI_MAG3)
abbrev pub magic : List ℕ
magic = 0x7f ∷ 0x45 ∷ 0x4c ∷ 0x46 ∷ []

-- a static little-endian executable of 64 bits: ELFCLASS64, ELFDATA2LSB, EV_CURRENT twice, ET_EXEC
abbrev pub identity_tests : List ℕ → List Test
identity_tests file =
    (nat_lt (length file) 64, refusal.Short)
    ∷ (not (starts_with nat_eq file magic), refusal.Magic)
    ∷ (not (e_class file == 2), refusal.Class)
    ∷ (not (e_data file == 1), refusal.Encoding)
    ∷ (not (e_ident_version file == 1 && e_version file == 1), refusal.Version)
    ∷ (not (e_type file == 2), refusal.FileType)
    ∷ []

-- the machine that is wanted, where one is
abbrev pub machine_tests : List ℕ → Option ℤ → List Test
machine_tests file None = []
machine_tests file (Some wanted) =
    (not (int_eq wanted (pos (e_machine file))), refusal.Machine wanted (e_machine file)) ∷ []

-- the table of program headers, at most 64 of 56 bytes each, lies in the file
abbrev pub table_tests : List ℕ → List Test
table_tests file =
    (not (e_phnum file == 0) && not (e_phentsize file == 56), refusal.HeaderSize)
    ∷ (nat_lt 64 (e_phnum file), refusal.Count)
    ∷ (not (e_phnum file == 0) && nat_lt (length file) (e_phoff file + 56 * e_phnum file), refusal.TableOutside)
    ∷ []

-- the program header of an index is of the kind PT_LOAD
abbrev pub is_load : List ℕ → ℕ → Bool
is_load file index = p_type file index == 1

-- the program header of an index: the bytes of a PT_LOAD lie in the file and are no more than its memory, and
-- it is no PT_DYNAMIC and no PT_INTERP
abbrev pub program_tests : List ℕ → ℕ → List Test
program_tests file index =
    (is_load file index && not (p_filesz file index == 0) && nat_lt (length file) (p_offset file index + p_filesz file index), refusal.SegmentOutside index)
    ∷ (is_load file index && nat_lt (p_memsz file index) (p_filesz file index), refusal.FileOverMemory index)
    ∷ (p_type file index == 2 || p_type file index == 3, refusal.Dynamic index)
    ∷ []

-- the indices of the program headers
abbrev pub indices : List ℕ → List ℕ
indices file = range_with_len 0 (e_phnum file)

-- why a file is refused, if it is: the first test that fails
abbrev pub elf_refusal : List ℕ → Option ℤ → Option ElfRefusal
elf_refusal file wanted =
    first_failed (identity_tests file ++ machine_tests file wanted ++ table_tests file ++ flat_map (program_tests file) (indices file))

-- the segment of a program header
abbrev pub segment_at : List ℕ → ℕ → Segment
segment_at file index = record {
  index = index;
  place = p_paddr file index;
  bytes = take (p_filesz file index) (drop (p_offset file index) file);
  size = p_memsz file index;
}

-- the image of a file that isn't refused: its entry and the segments of its PT_LOAD headers, in order
abbrev pub image_of : List ℕ → Image
image_of file = record { entry = e_entry file; segments = map (segment_at file) (filter (is_load file) (indices file)) }
