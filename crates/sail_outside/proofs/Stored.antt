-- The map that files in memory are, at an index.
use Rattle.std.proofs.Common.{◌≡◌, ℕ, ◌+◌, ◌<◌, zero, suc, true, false, if◌then◌else◌}
use Rattle.std.proofs.Common.{List, [], ◌∷◌, length, drop, get_or, Some, string_bytes}
use Rattle.std.proofs.Common.{arith, sym, ◌∙◌, ap, refl}
use Rattle.std.specs.Str.{bytes_eq}
use Rattle.sail_outside.specs.Files.{Stored, lookup, files_of, first_bytes, bytes_at}

-- what a file in memory is in the map
abbrev pub entry_of : Stored → List ℕ × List ℕ
entry_of file = (string_bytes file.0, file.1.items)

-- the map from an index on
pub drop-files_of :
    (stored : List Stored) (i : ℕ) (d : Stored) → i < length stored
    → drop i (files_of stored) ≡ entry_of (get_or stored i d) ∷ drop (i + 1) (files_of stored)
drop-files_of [] i d h = absurd (omega arith)
drop-files_of (file ∷ stored) zero d h = refl
drop-files_of (file ∷ stored) (suc i) d h =
    let e : suc i + 1 ≡ suc (i + 1) = omega arith in
    rw e (drop-files_of stored i d (omega arith))

-- the bytes at an index
pub bytes_at_index :
    (stored : List Stored) (i : ℕ) (d : Stored) → i < length stored
    → bytes_at (files_of stored) i ≡ (get_or stored i d).1.items
bytes_at_index stored i d h = ap first_bytes (drop-files_of stored i d h)

-- the first file from an index on that has the name is the one there
pub stored_here :
    (stored : List Stored) (d : Stored) (name : List ℕ) (i : ℕ) → i < length stored
    → lookup (drop i (files_of stored)) name ≡ lookup (files_of stored) name
    → bytes_eq (string_bytes (get_or stored i d).0) name ≡ true
    → lookup (files_of stored) name ≡ Some (bytes_at (files_of stored) i)
stored_here stored d name i h e t =
    let behind = lookup (drop (i + 1) (files_of stored)) name in
    sym e
    ∙ (ap (λ fs. lookup fs name) (drop-files_of stored i d h)
    ∙ (ap (λ b. if b then Some (get_or stored i d).1.items else behind) t
    ∙ ap Some (sym (bytes_at_index stored i d h))))

-- where the file at an index has another name, the look-up goes on behind it
pub stored_next :
    (stored : List Stored) (d : Stored) (name : List ℕ) (i : ℕ) → i < length stored
    → lookup (drop i (files_of stored)) name ≡ lookup (files_of stored) name
    → bytes_eq (string_bytes (get_or stored i d).0) name ≡ false
    → lookup (drop (i + 1) (files_of stored)) name ≡ lookup (files_of stored) name
stored_next stored d name i h e t =
    let behind = lookup (drop (i + 1) (files_of stored)) name in
    sym (ap (λ b. if b then Some (get_or stored i d).1.items else behind) t)
    ∙ (sym (ap (λ fs. lookup fs name) (drop-files_of stored i d h))
    ∙ e)
