-- Words of the contracts: a fact for a refused file, and what lies in a file.
use Rattle.std.specs.Prelude.{◌≡◌, ◌≢◌, ℕ, ◌+◌, ◌<◌, ◌≤◌, List, length}
use Rattle.sail_base.specs.declared.elf_refusal.ElfRefusal.{ElfRefusal}
use Rattle.elf_load.specs.declared.image.ElfError.{ElfError}
use Rattle.elf_load.specs.declared.image.ElfError.TheVariants as error
use Rattle.elf_load.specs.Fields.{e_phnum, header_at, p_type, p_offset, p_filesz, p_memsz}

-- a fact of the refusal, where the file is refused
abbrev pub IfRefused : (ElfRefusal → Type 0) → ElfError → Type 0
IfRefused P (error.Refused refusal) = P refusal
IfRefused P error.OutOfMemory = Unit {0}

-- each program header is in the file
abbrev pub HeadersWithin : List ℕ → Type 0
HeadersWithin file = (index : ℕ) → index < e_phnum file → header_at file index + 56 ≤ length file

-- the bytes of a program header that is loaded are in the file, and no more than its memory
abbrev pub SegmentWithin : List ℕ → ℕ → Type 0
SegmentWithin file index =
    p_type file index ≡ 1
    → (p_filesz file index ≢ 0 → p_offset file index + p_filesz file index ≤ length file) × (p_filesz file index ≤ p_memsz file index)

-- likewise of all below an index
abbrev pub SegmentsWithin : List ℕ → ℕ → Type 0
SegmentsWithin file end = (index : ℕ) → index < end → SegmentWithin file index
