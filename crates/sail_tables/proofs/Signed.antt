-- What a map of signatures holds as a text is read on, and at its end.
use Rattle.std.proofs.Common.{◌≡◌, ℕ, Bool, true, false, cond, ◌||◌, List, [], ◌∷◌, find, refl, sym, ap, ◌∙◌, bytes_eq, Option, Some, None, unwrap_or}
use Rattle.std.specs.Borrow.{Bor}
use Rattle.std.specs.HashMap.{HashMap, UpdatesBy, get_by}
use Rattle.std.specs.List.{list_any}
use Rattle.std.specs.Option.{option_or, option_map_or}
use Rattle.std.proofs.lemmas.Slice.Eq.{bytes_eq-Decides}
use Rattle.std.proofs.lemmas.Map.Text.{hash_map_updates_str}
use Rattle.sail_syntax.specs.declared.definitions.Def.{Def}
use Rattle.sail_syntax.specs.declared.definitions.Def.TheVariants as D
use Rattle.sail_types.specs.Sums.{and_then}
use Rattle.sail_signatures.specs.declared.signature.Signature.{Signature}
use Rattle.sail_signatures.specs.Parts.{callable_name}
use Rattle.sail_signatures.specs.Signatures.{Named, is_val_of, is_body_of, definition_signature, signature_of}
use Rattle.sail_tables.specs.Tabled.{signature_at}

-- whether a definition is a part of the function or mapping of a name
abbrev pub is_part_of : List ℕ → Def → Bool
is_part_of name d = option_map_or (λ own. bytes_eq own name) (callable_name d) false

-- the signature of a name of which some definition of these is a part
abbrev pub signature_among : Named → List Def → List Def → List ℕ → Option Signature
signature_among named text some name = cond (list_any (is_part_of name) some) (signature_of named text name) None

val_is_part : (name : List ℕ) (d : Def) → is_part_of name d ≡ false → is_val_of name d ≡ false
val_is_part name (D.Val place own quantifier from arrow to) h = h
val_is_part name d h = refl

body_is_part : (name : List ℕ) (d : Def) → is_part_of name d ≡ false → is_body_of name d ≡ false
body_is_part name (D.Function place extent own clauses) h = h
body_is_part name (D.Mapping place own sides clauses) h = h
body_is_part name d h = refl

neither_left : (a b : Bool) → a || b ≡ false → a ≡ false
neither_left true b h = h
neither_left false b h = refl

neither_right : (a b : Bool) → a || b ≡ false → b ≡ false
neither_right true b h = cc
neither_right false b h = h

none_found : (test part : Def → Bool) → ((d : Def) → part d ≡ false → test d ≡ false)
    → (text : List Def) → list_any part text ≡ false → find test text ≡ None
none_found test part is_part [] h = refl
none_found test part is_part (d ∷ text) h =
    ap (λ t. cond t (Some d) (find test text)) (is_part d (neither_left (part d) (list_any part text) h))
    ∙ none_found test part is_part text (neither_right (part d) (list_any part text) h)

-- a name without a part has no signature
unsigned : (named : Named) (text : List Def) (name : List ℕ) → list_any (is_part_of name) text ≡ false → signature_of named text name ≡ None
unsigned named text name h = λ i.
    and_then (option_or (none_found (is_val_of name) (is_part_of name) (val_is_part name) text h i)
    (none_found (is_body_of name) (is_part_of name) (body_is_part name) text h i)) (definition_signature named)

settled : (t : Bool) (signature : Option Signature) → (t ≡ false → signature ≡ None) → cond t signature None ≡ signature
settled true signature h = refl
settled false signature h = sym (h refl)

-- at the end of a text each name has its signature
pub signature_all : (named : Named) (text : List Def) (name : List ℕ) → signature_among named text text name ≡ signature_of named text name
signature_all named text name = settled (list_any (is_part_of name) text) (signature_of named text name) (unsigned named text name)

held_step : (t before : Bool) (own name : List ℕ) (signature : List ℕ → Option Signature) → (t ≡ true → own ≡ name)
    → cond t (signature own) (cond before (signature name) None) ≡ cond (before || t) (signature name) None
held_step true true own name signature same = ap signature (same refl)
held_step true false own name signature same = ap signature (same refl)
held_step false true own name signature same = refl
held_step false false own name signature same = refl

or_nothing : (t : Bool) → (t || false) ≡ t
or_nothing true = refl
or_nothing false = refl

-- the signature of a name as one more definition is read, which is a part of this one
pub among_part : (named : Named) (text some more : List Def) (d : Def) (own name : List ℕ) (held now : Option Signature)
    → callable_name d ≡ Some own
    → list_any (is_part_of name) more ≡ (list_any (is_part_of name) some || is_part_of name d)
    → held ≡ signature_among named text some name
    → now ≡ cond (bytes_eq own name) (signature_of named text own) held
    → now ≡ signature_among named text more name
among_part named text some more d own name held now part one_more so_far put =
    put ∙ ap (λ s. cond (bytes_eq own name) (signature_of named text own) s) so_far
    ∙ held_step (bytes_eq own name) (list_any (is_part_of name) some) own name (signature_of named text) (bytes_eq-Decides own name).0
    ∙ ap (λ t. cond t (signature_of named text name) None)
    (sym (one_more ∙ ap (λ n. list_any (is_part_of name) some || option_map_or (λ own. bytes_eq own name) n false) part))

-- likewise, where it is no part of a function or mapping
pub among_other : (named : Named) (text some more : List Def) (d : Def) (name : List ℕ) (held now : Option Signature)
    → callable_name d ≡ None
    → list_any (is_part_of name) more ≡ (list_any (is_part_of name) some || is_part_of name d)
    → held ≡ signature_among named text some name
    → now ≡ held
    → now ≡ signature_among named text more name
among_other named text some more d name held now none one_more so_far same =
    same ∙ so_far
    ∙ ap (λ t. cond t (signature_of named text name) None)
    (sym (one_more ∙ ap (λ n. list_any (is_part_of name) some || option_map_or (λ own. bytes_eq own name) n false) none
    ∙ or_nothing (list_any (is_part_of name) some)))

unwrapped : (t : Bool) (value : Option Signature) (old : Option (Option Signature))
    → unwrap_or (cond t (Some value) old) None ≡ cond t value (unwrap_or old None)
unwrapped true value old = refl
unwrapped false value old = refl

-- what a map holds once the signature of one name is put into it
pub signature_after : {S : Type 0} (all now : HashMap (Bor (List ℕ)) (Option Signature) S) (name : List ℕ) (value : Option Signature)
    → UpdatesBy (λ x y. bytes_eq x.now y.now) (λ key. bytes_eq name key.now) all now (Some value)
    → (other : List ℕ) → signature_at now other ≡ cond (bytes_eq name other) value (signature_at all other)
signature_after {S} all now name value updates other =
    ap (λ found. unwrap_or found None) (hash_map_updates_str name all now (Some value) updates other)
    ∙ unwrapped (bytes_eq name other) value (get_by (λ key. bytes_eq other key.now) all)
