-- The program that is made of a seed, as a static little-endian executable of 64 bits with one segment (System V gABI, "ELF Header" and
-- "Program Header").
use Rattle.std.specs.Prelude.{ℕ, ◌+◌, ◌*◌, List, [], ◌∷◌, ◌++◌, replicate}
use Rattle.std.specs.Int.{w16, w32, w64, to_le_bytes}
use Rattle.std.specs.List.{flat_map, range_with_len}
use Rattle.sail_gen.specs.Draws.{draw, state_after}

-- a number as two, four or eight bytes, the lowest first
abbrev pub half : ℕ → List ℕ
half = to_le_bytes w16

abbrev pub word : ℕ → List ℕ
word = to_le_bytes w32

abbrev pub double : ℕ → List ℕ
double = to_le_bytes w64

-- where the program begins, and where its segment is placed
abbrev pub entry : ℕ
entry = 0x80000000

-- 7F 45 4C 46, ELFCLASS64, ELFDATA2LSB, EV_CURRENT, and zeros
abbrev pub e_ident : List ℕ
e_ident = 0x7f ∷ 0x45 ∷ 0x4c ∷ 0x46 ∷ 2 ∷ 1 ∷ 1 ∷ replicate 9 0

-- ET_EXEC for no machine, with one program header behind this header and no section headers: e_ident, e_type, e_machine, e_version;
-- e_entry, e_phoff, e_shoff; e_flags; e_ehsize, e_phentsize, e_phnum; e_shentsize, e_shnum, e_shstrndx
abbrev pub file_header : List ℕ
file_header =
    e_ident ++ half 2 ++ half 0 ++ word 1
    ++ double entry ++ double 64 ++ double 0
    ++ word 0
    ++ half 64 ++ half 56 ++ half 1
    ++ half 0 ++ half 0 ++ half 0

-- PT_LOAD, to be read and executed, of so many bytes in the file and in memory: p_type, p_flags, p_offset; p_vaddr, p_paddr; p_filesz,
-- p_memsz; p_align
abbrev pub program_header : ℕ → List ℕ
program_header size = word 1 ++ word 5 ++ double 120 ++ double entry ++ double entry ++ double size ++ double size ++ double 4

-- so many codes, two bytes each, drawn from a state
abbrev pub codes_from : ℕ → ℕ → List ℕ
codes_from state size = flat_map (λ number. half (draw state number size)) (range_with_len 0 size)

-- an image with so many codes from a state, and behind them FF FF, which is the code of no function
abbrev pub image_from : ℕ → ℕ → List ℕ
image_from state size = file_header ++ program_header (2 * (size + 1)) ++ codes_from state size ++ 0xff ∷ 0xff ∷ []

-- the program's image: as many codes as the model has functions, drawn behind the functions' operators and constants
abbrev pub image : ℕ → ℕ → List ℕ
image seed size = image_from (state_after seed (2 * size)) size
