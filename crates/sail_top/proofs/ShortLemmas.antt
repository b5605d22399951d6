-- Texts that are short enough to be lexed.
use Rattle.std.proofs.Common.{◌≡◌, ℕ, ◌+◌, nat_le, Bool, true, false, if◌then◌else◌, List, [], ◌∷◌, ◌++◌, length, map}
use Rattle.std.proofs.Common.{Option, Some, None, refl, subst}
use Rattle.std.proofs.lemmas.Bool.{leb-true}
use Rattle.std.proofs.lemmas.List.Elements.{All-cons, All-nil}
use Rattle.std.specs.List.{All}
use Rattle.model_tokens.specs.Files.{IsShort}
use Rattle.sail_outside.specs.Files.{Files}
use Rattle.sail_words.specs.declared.command.Command.{Command}
use Rattle.sail_words.specs.declared.command.Command.TheVariants as C
use Rattle.sail_top.specs.Reading.{Contents, ReadEnd, whole, absent, long, behind, reading, wanted_model, wanted_elf, wanted_by, contents_at}
use Rattle.sail_top.specs.parts.Short.{AreShortButLast, AreShortFor}
use Rattle.sail_top.specs.parts.Unread.{Ends}

-- the texts before the last file
pub short_texts : (texts : List (List ℕ)) (last : List ℕ) → AreShortButLast (texts ++ last ∷ []) → All IsShort texts
short_texts [] last short = All-nil IsShort
short_texts (text ∷ []) last short = All-cons IsShort text [] short.0 (All-nil IsShort)
short_texts (text ∷ next ∷ texts) last short =
    All-cons IsShort text (next ∷ texts) short.0 (short_texts (next ∷ texts) last short.1)

one_more_short : (text : List ℕ) (files : List (List ℕ)) → IsShort text → AreShortButLast files → AreShortButLast (text ∷ files)
one_more_short text [] short rest = tt
one_more_short text (next ∷ files) short rest = (short, rest)

-- what was read behind a text
behind_short : (text : List ℕ) (end : ReadEnd) (files : List (List ℕ)) → IsShort text
    → ((rest : List (List ℕ)) → end ≡ whole rest → AreShortButLast rest) → behind text end ≡ whole files → AreShortButLast files
behind_short text (whole rest) files short others is =
    let same : text ∷ rest ≡ files = cc is in
    subst AreShortButLast same (one_more_short text rest short (others rest refl))
behind_short text (absent number name) files short others is = cc is
behind_short text (long number name limit) files short others is = cc is

last_short : (text : List ℕ) (files : List (List ℕ)) (fits : Bool) (number : ℕ) (name : List ℕ) (limit : ℕ)
    → (if fits then behind text (whole []) else long number name limit) ≡ whole files → AreShortButLast files
last_short text files true number name limit is =
    let same : text ∷ [] ≡ files = cc is in
    subst AreShortButLast same tt
last_short text files false number name limit is = cc is

text_short : (text : List ℕ) (end : ReadEnd) (files : List (List ℕ)) (fits : Bool) (number : ℕ) (name : List ℕ) (limit : ℕ)
    → (fits ≡ true → IsShort text) → ((rest : List (List ℕ)) → end ≡ whole rest → AreShortButLast rest)
    → (if fits then behind text end else long number name limit) ≡ whole files → AreShortButLast files
text_short text end files true number name limit short others is = behind_short text end files (short refl) others is
text_short text end files false number name limit short others is = cc is

read_short : (models : List (List ℕ)) (elf : List ℕ) (number : ℕ) (contents : Contents) (files : List (List ℕ))
    → reading number (map wanted_model models ++ wanted_elf elf ∷ []) contents ≡ whole files → AreShortButLast files
read_short [] elf number [] files is = cc is
read_short [] elf number (None ∷ contents) files is = cc is
read_short [] elf number (Some text ∷ contents) files is = last_short text files (nat_le (length text) 67108864) number elf 67108864 is
read_short (model ∷ models) elf number [] files is = cc is
read_short (model ∷ models) elf number (None ∷ contents) files is = cc is
read_short (model ∷ models) elf number (Some text ∷ contents) files is =
    text_short text (reading (number + 1) (map wanted_model models ++ wanted_elf elf ∷ []) contents) files
    (nat_le (length text) 4194304) number model 4194304 (leb-true (length text) 4194304)
    (λ rest ended. read_short models elf (number + 1) contents rest ended) is

-- models alone
behind_model : (text : List ℕ) (end : ReadEnd) (files : List (List ℕ)) → IsShort text
    → ((rest : List (List ℕ)) → end ≡ whole rest → All IsShort rest) → behind text end ≡ whole files → All IsShort files
behind_model text (whole rest) files short others is =
    let same : text ∷ rest ≡ files = cc is in
    subst (All IsShort) same (All-cons IsShort text rest short (others rest refl))
behind_model text (absent number name) files short others is = cc is
behind_model text (long number name limit) files short others is = cc is

model_short : (text : List ℕ) (end : ReadEnd) (files : List (List ℕ)) (fits : Bool) (number : ℕ) (name : List ℕ) (limit : ℕ)
    → (fits ≡ true → IsShort text) → ((rest : List (List ℕ)) → end ≡ whole rest → All IsShort rest)
    → (if fits then behind text end else long number name limit) ≡ whole files → All IsShort files
model_short text end files true number name limit short others is = behind_model text end files (short refl) others is
model_short text end files false number name limit short others is = cc is

no_files : (files : List (List ℕ)) → whole [] ≡ whole files → All IsShort files
no_files files is =
    let same : [] ≡ files = cc is in
    subst (All IsShort) same (All-nil IsShort)

models_short : (models : List (List ℕ)) (number : ℕ) (contents : Contents) (files : List (List ℕ))
    → reading number (map wanted_model models) contents ≡ whole files → All IsShort files
models_short [] number contents files is = no_files files is
models_short (model ∷ models) number [] files is = cc is
models_short (model ∷ models) number (None ∷ contents) files is = cc is
models_short (model ∷ models) number (Some text ∷ contents) files is =
    model_short text (reading (number + 1) (map wanted_model models) contents) files (nat_le (length text) 4194304) number model 4194304
    (leb-true (length text) 4194304) (λ rest ended. models_short models (number + 1) contents rest ended) is

-- the files of a command, by what they hold
short_over : (command : Command) (contents : Contents) (files : List (List ℕ)) → reading 0 (wanted_by command) contents ≡ whole files
    → AreShortFor command files
short_over (C.Run run) contents files is = read_short run.models run.elf 0 contents files is
short_over (C.Check models) contents files is = models_short models 0 contents files is
short_over (C.Certs models) contents files is = models_short models 0 contents files is
short_over (C.Synth synth) contents files is = tt

-- no files
pub none_short : (command : Command) → AreShortFor command []
none_short (C.Run run) = tt
none_short (C.Check models) = All-nil IsShort
none_short (C.Certs models) = All-nil IsShort
none_short (C.Synth synth) = tt

-- the files of a command that were read whole
pub files_short : (held : Option Files) (command : Command) (files : List (List ℕ)) (left : Option (List ℕ))
    → Ends held (wanted_by command) (whole files) left → AreShortFor command files
files_short None command files left ends = short_over command ends.0 files ends.1
files_short (Some held) command files left ends = short_over command (contents_at held (wanted_by command)) files ends.0
