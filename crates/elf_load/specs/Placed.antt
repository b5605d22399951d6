-- What RAM holds once an image is placed, or the first segment that RAM has no room for.
use Rattle.std.specs.Prelude.{ℕ, ◌≢◌, ◌-◌, ◌≤◌, not, ◌&&◌, ◌==◌, List, ◌++◌, length, map, replicate, Option, All}
use Rattle.std.specs.List.{fold}
use Rattle.sail_base.specs.declared.elf_refusal.ElfRefusal.{ElfRefusal}
use Rattle.sail_base.specs.declared.elf_refusal.ElfRefusal.TheVariants.{NotInRam}
use Rattle.mem_store.specs.Bytes.{IsMapped, is_mapped, overwritten}
use Rattle.elf_load.specs.declared.image.Image.{Image}
use Rattle.elf_load.specs.declared.image.Segment.{Segment}
use Rattle.elf_load.specs.Reading.{Test, first_failed}

-- the bytes of a segment in memory: those of the file, and zeros up to its size
abbrev pub memory_bytes : Segment → List ℕ
memory_bytes segment = segment.bytes ++ replicate (segment.size - length segment.bytes) 0

-- no segment has more bytes in the file than in memory
abbrev pub Fits : Image → Type 0
Fits image = All (λ segment. length segment.bytes ≤ segment.size) image.segments

-- a segment that has bytes lies whole among the `size` bytes from `base` on
abbrev pub ram_test : ℕ → ℕ → Segment → Test
ram_test base size segment =
    (not (segment.size == 0) && not (is_mapped base size segment.size segment.place), NotInRam segment.index)

-- why an image can't be placed, if it can't: the first segment that isn't all in RAM
abbrev pub place_refusal : Image → ℕ → ℕ → Option ElfRefusal
place_refusal image base size = first_failed (map (ram_test base size) image.segments)

-- RAM with one segment put in
abbrev pub with_segment : ℕ → List ℕ → Segment → List ℕ
with_segment base bytes segment = overwritten bytes (segment.place - base) (memory_bytes segment)

-- RAM with all segments put in, later ones over earlier ones
abbrev pub placed : Image → ℕ → List ℕ → List ℕ
placed image base bytes = fold (with_segment base) bytes image.segments

-- a segment that has bytes is all in memory
abbrev pub LiesIn : ℕ → ℕ → Segment → Type 0
LiesIn base size segment = segment.size ≢ 0 → IsMapped base size segment.size segment.place
