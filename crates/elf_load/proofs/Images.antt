-- The image of a file whose segments are within it.
use Rattle.std.proofs.Common.{◌≡◌, ℕ, ◌≤◌, true, false, List, drop, ◌∙◌, arith, length-take, Option, Some, None, ℤ}
use Rattle.std.specs.List.{flat_map}
use Rattle.sail_base.specs.declared.elf_refusal.ElfRefusal.{ElfRefusal}
use Rattle.std.proofs.lemmas.Bool.Decides.{nat_tests}
use Rattle.elf_load.specs.Fields.{e_phnum, p_type, p_offset, p_filesz, p_memsz}
use Rattle.elf_load.specs.Reading.{first_failed, identity_tests, machine_tests, table_tests, program_tests, indices, elf_refusal, segment_at, is_load, image_of}
use Rattle.elf_load.specs.Refused.{SegmentsWithin}
use Rattle.elf_load.specs.Placed.{Fits}
use Rattle.elf_load.proofs.Failures.{Held, all_held, passed_two, first_failed-failed}

loaded : (file : List ℕ) (i : ℕ) → is_load file i ≡ true → p_type file i ≡ 1
loaded file i h = grind (arith, nat_tests)

held : (file : List ℕ) (i : ℕ) → p_filesz file i ≤ p_memsz file i → Held (segment_at file i)
held file i h = omega (arith, length-take (p_filesz file i) (drop (p_offset file i) file))

pub image_fits : (file : List ℕ) → SegmentsWithin file (e_phnum file) → Fits (image_of file)
image_fits file h = all_held (segment_at file) (is_load file) 0 (e_phnum file) (λ i b l. held file i (h i (omega arith) (loaded file i l)).1)

-- the table of headers is refused where the tests before pass
pub table_refused : (file : List ℕ) (wanted : Option ℤ) (refusal : ElfRefusal) → first_failed (identity_tests file) ≡
    None → first_failed (machine_tests file wanted) ≡ None → first_failed (table_tests file) ≡ Some refusal →
    elf_refusal file wanted ≡ Some refusal
table_refused file wanted refusal h k f =
    let programs = flat_map (program_tests file) (indices file) in
    passed_two (identity_tests file) (machine_tests file wanted) (table_tests file) programs h k ∙ first_failed-failed (table_tests file) programs refusal f

pub is_load-true : (file : List ℕ) (i kind : ℕ) → kind ≡ p_type file i → kind ≡ 1 → is_load file i ≡ true
is_load-true file i kind e h = grind (arith, nat_tests)

pub is_load-false : (file : List ℕ) (i kind : ℕ) → kind ≡ p_type file i → ¬ (kind ≡ 1) → is_load file i ≡ false
is_load-false file i kind e h = grind (arith, nat_tests)
