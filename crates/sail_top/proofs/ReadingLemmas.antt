-- The reading of files one after another, file by file.
use Rattle.std.proofs.Common.{◌≡◌, ℕ, suc, ◌+◌, ◌<◌, ◌≤◌, List, [], ◌∷◌, ◌++◌, length, map, replicate, slice_get, get_or, drop}
use Rattle.std.proofs.Common.{Option, Some, None, refl, sym, ap, ◌∙◌, subst, inl, inr, arith, add-one, length-append}
use Rattle.std.proofs.Math.ListN.{drop_of_length-le}
use Rattle.std.proofs.Math.Seq.{drop-cons}
use Rattle.std.proofs.lemmas.Bool.{le-leb, lt-leb}
use Rattle.std.proofs.lemmas.List.{length-replicate}
use Rattle.sail_outside.specs.Files.{Files, lookup, Lacks}
use Rattle.sail_outside.specs.Faults.{Rose}
use Rattle.sail_outside.specs.Bytes.{ReadWhole, PassedLimit, IsUsedUp}
use Rattle.sail_outside.specs.declared.errors.ReadError.{ReadError}
use Rattle.sail_outside.specs.declared.errors.ReadError.TheVariants as read
use Rattle.sail_top.specs.Reading.{Wanted, Contents, contents_at, ReadEnd, whole, absent, long, behind, reading}
use Rattle.sail_top.specs.parts.Borrowed.{as_wanted}
use Rattle.sail_top.specs.parts.Unread.{Ends, StopsAt}
use Rattle.sail_top.specs.declared.reading.Wanted as declared

-- the end where these files were read before
abbrev pub all_behind : List (List ℕ) → ReadEnd → ReadEnd
all_behind [] end = end
all_behind (bytes ∷ files) end = behind bytes (all_behind files end)

behind_last : (files : List (List ℕ)) (bytes : List ℕ) (end : ReadEnd) → all_behind files (behind bytes end) ≡ all_behind (files ++ bytes ∷ []) end
behind_last [] bytes end = refl
behind_last (first ∷ files) bytes end = ap (behind first) (behind_last files bytes end)

behind_whole : (files : List (List ℕ)) → all_behind files (whole []) ≡ whole files
behind_whole [] = refl
behind_whole (first ∷ files) = ap (behind first) (behind_whole files)

behind_absent : (files : List (List ℕ)) (number : ℕ) (name : List ℕ) → all_behind files (absent number name) ≡ absent number name
behind_absent [] number name = refl
behind_absent (first ∷ files) number name = ap (behind first) (behind_absent files number name)

behind_long : (files : List (List ℕ)) (number : ℕ) (name : List ℕ) (limit : ℕ) → all_behind files (long number name limit) ≡ long number name limit
behind_long [] number name limit = refl
behind_long (first ∷ files) number name limit = ap (behind first) (behind_long files number name limit)

held_last : (files : List (List ℕ)) (bytes : List ℕ) (contents : Contents)
    → map Some (files ++ bytes ∷ []) ++ contents ≡ map Some files ++ Some bytes ∷ contents
held_last [] bytes contents = refl
held_last (first ∷ files) bytes contents = ap (λ more. Some first ∷ more) (held_last files bytes contents)

held_here : (files : List (List ℕ)) (here : Option (List ℕ)) (contents : Contents)
    → slice_get (map Some files ++ here ∷ contents) (length files) ≡ Some here
held_here [] here contents = refl
held_here (first ∷ files) here contents = held_here files here contents

-- so many files were read, with these bytes, and the rest is still wanted
pub record ReadSoFar (held : Option Files) (wanted : List Wanted) (files : List (List ℕ)) (number : ℕ) (rest : List Wanted) : Type 0 where
  pub count : length files ≡ number
  pub over : (contents : Contents) → reading 0 wanted (map Some files ++ contents) ≡ all_behind files (reading number rest contents)
  pub told : (all : Files) → held ≡ Some all → contents_at all wanted ≡ map Some files ++ contents_at all rest

-- none was read yet
pub none_read : (held : Option Files) (wanted : List Wanted) → ReadSoFar held wanted [] 0 wanted
none_read held wanted = record { count = refl; over = λ contents. refl; told = λ all is. refl }

told_bytes : (held : Option Files) (name bytes : List ℕ) (left : Option (List ℕ))
    → ReadWhole held name bytes left → (all : Files) → held ≡ Some all → lookup all name ≡ Some bytes
told_bytes None name bytes left read all is = absurd (cc is)
told_bytes (Some files) name bytes left read all is = let same : files ≡ all = cc is in subst (λ fs. lookup fs name ≡ Some bytes) same read.0

pub nothing_left : (held : Option Files) (name bytes : List ℕ) (left : Option (List ℕ))
    → ReadWhole held name bytes left → (all : Files) → held ≡ Some all → left ≡ Some []
nothing_left None name bytes left read all is = absurd (cc is)
nothing_left (Some files) name bytes left read all is = read.1

-- one more was read
pub one_more : {held : Option Files} {wanted : List Wanted} {files : List (List ℕ)} {number : ℕ} {file : Wanted} {more : List Wanted}
    (bytes : List ℕ) (left : Option (List ℕ))
    → ReadSoFar held wanted files number (file ∷ more) → length bytes ≤ file.limit
    → ReadWhole held file.name bytes left → ReadSoFar held wanted (files ++ bytes ∷ []) (number + 1) more
one_more {held} {wanted} {files} {number} {file} {more} bytes left so_far within read =
    record {
      count = omega (arith, length-append files (bytes ∷ []), so_far.count);
      over = λ contents.
          ap (reading 0 wanted) (held_last files bytes contents)
          ∙ so_far.over (Some bytes ∷ contents)
          ∙ rw (le-leb (length bytes) file.limit within) (behind_last files bytes (reading (number + 1) more contents));
      told = λ all is.
          so_far.told all is
          ∙ ap (λ here. map Some files ++ here ∷ contents_at all more) (told_bytes held file.name bytes left read all is)
          ∙ sym (held_last files bytes (contents_at all more));
    }

-- all were read
pub all_read : {held : Option Files} {wanted : List Wanted} {files : List (List ℕ)} {number : ℕ} (left : Option (List ℕ))
    → ReadSoFar held wanted files number [] → ((all : Files) → held ≡ Some all → left ≡ Some [])
    → Ends held wanted (whole files) left
all_read {held = None} {files} left so_far none = (map Some files ++ [], so_far.over [] ∙ behind_whole files)
all_read {held = Some all} {wanted} {files} left so_far none =
    (ap (reading 0 wanted) (so_far.told all refl) ∙ so_far.over [] ∙ behind_whole files, none all refl)

-- the next isn't held
pub stops_absent : {held : Option Files} {wanted : List Wanted} {files : List (List ℕ)} {number : ℕ} {file : Wanted} {more : List Wanted}
    (left : Option (List ℕ))
    → ReadSoFar held wanted files number (file ∷ more) → Lacks held file.name → IsUsedUp left
    → Ends held wanted (absent number file.name) left
stops_absent {held = None} {files} {number} {file} left so_far lacks used =
    (map Some files ++ None ∷ [], so_far.over (None ∷ []) ∙ behind_absent files number file.name)
stops_absent {held = Some all} {wanted} {files} {number} {file} {more} left so_far lacks used = (
  ap (reading 0 wanted) (so_far.told all refl ∙ ap (λ here. map Some files ++ here ∷ contents_at all more) lacks)
      ∙ so_far.over (None ∷ contents_at all more)
      ∙ behind_absent files number file.name,
  used,
)

-- some bytes that are too many
too_many : (limit : ℕ) → (bytes : List ℕ) × (limit < length bytes)
too_many limit = (replicate (suc limit) 0, omega (arith, length-replicate {A = ℕ} (suc limit) 0))

-- the next is too long
pub stops_long : {held : Option Files} {wanted : List Wanted} {files : List (List ℕ)} {number : ℕ} {file : Wanted} {more : List Wanted}
    (left : Option (List ℕ))
    → ReadSoFar held wanted files number (file ∷ more) → PassedLimit held file.name file.limit left
    → Ends held wanted (long number file.name file.limit) left
stops_long {held = None} {files} {number} {file} left so_far past =
    let bytes = too_many file.limit in (
      map Some files ++ Some bytes.0 ∷ [],
      so_far.over (Some bytes.0 ∷ []) ∙ rw (lt-leb (length bytes.0) file.limit bytes.1) (behind_long files number file.name file.limit),
    )
stops_long {held = Some all} {wanted} {files} {number} {file} {more} left so_far past =
    let contents : contents_at all wanted ≡ map Some files ++ Some past.0 ∷ contents_at all more =
    so_far.told all refl ∙ ap (λ here. map Some files ++ here ∷ contents_at all more) past.1 in (
      ap (reading 0 wanted) contents
          ∙ so_far.over (Some past.0 ∷ contents_at all more)
          ∙ rw (lt-leb (length past.0) file.limit past.2) (behind_long files number file.name file.limit),
      (
        past.0,
        ap (λ c. slice_get c number) contents
            ∙ ap (slice_get (map Some files ++ Some past.0 ∷ contents_at all more)) (sym so_far.count)
            ∙ held_here files (Some past.0) (contents_at all more),
        past.3,
      ),
    )

-- why a file could not be read, and what is left of it
pub record Reason (held : Option Files) (file : Wanted) (left : Option (List ℕ)) (before now : ℕ) (error : ReadError) : Type 0 where
  pub missing : error ≡ read.Missing → Lacks held file.name
  pub unbegun : error ≡ read.Missing → IsUsedUp left
  pub asked : (limit : ℕ) → error ≡ read.TooLong limit → limit ≡ file.limit
  pub long : (limit : ℕ) → error ≡ read.TooLong limit → PassedLimit held file.name file.limit left
  pub fault : error ≡ read.Fault → Rose before now

rose_since : (first before now : ℕ) → first ≤ before → Rose before now → Rose first now
rose_since first before now later (inl higher) = inl (omega arith)
rose_since first before now later (inr full) = inr full

-- the reading stops at the next file
pub stops_at : {held : Option Files} {wanted : List Wanted} {files : List (List ℕ)} {number : ℕ} {file : Wanted} {more : List Wanted}
    (left : Option (List ℕ)) (first before now : ℕ) (error : ReadError)
    → ReadSoFar held wanted files number (file ∷ more) → first ≤ before → Reason held file left before now error
    → StopsAt held wanted number file.name error left first now
stops_at left first before now read.Missing so_far later why = stops_absent left so_far (why.missing refl) (why.unbegun refl)
stops_at {held} {wanted} {number} {file} left first before now (read.TooLong limit) so_far later why =
    subst (λ l. Ends held wanted (long number file.name l) left) (sym (why.asked limit refl)) (stops_long left so_far (why.long limit refl))
stops_at left first before now read.Fault so_far later why = rose_since first before now later (why.fault refl)
stops_at left first before now read.OutOfMemory so_far later why = tt

-- the next of the files that are lent
pub next_wanted : (wanted : List declared.Wanted) (number : ℕ) (d : declared.Wanted)
    → number < length wanted
    → map as_wanted (drop number wanted) ≡ as_wanted (get_or wanted number d) ∷ map as_wanted (drop (number + 1) wanted)
next_wanted wanted number d within = rw (add-one number) (ap (map as_wanted) (drop-cons wanted number d within))

-- none is next
pub none_wanted : (wanted : List declared.Wanted) (number : ℕ) → length wanted ≤ number → map as_wanted (drop number wanted) ≡ []
none_wanted wanted number past = ap (map as_wanted) (drop_of_length-le wanted past)
