-- The names that the Type variables in a shape print as, by the place of the form that has it: those of the function whose clause or
-- measure is around that place.
use Rattle.std.specs.Prelude.{ℕ, Bool, true, List, [], ◌∷◌, ◌++◌, map, Option, Some, None, if◌then◌else◌}
use Rattle.sail_base.specs.declared.place.Place.{Place}
use Rattle.sail_kinds.specs.Failures.{is_less}
use Rattle.sail_signatures.specs.declared.signature.Signature.{Signature}
use Rattle.sail_syntax.specs.declared.definitions.Def.{Def}
use Rattle.sail_syntax.specs.declared.definitions.Def.TheVariants as D
use Rattle.sail_syntax.specs.declared.definitions.FunctionClause.{FunctionClause}
use Rattle.sail_tables.specs.Refused.{signature_in}
use Rattle.shape_declarations.specs.Signatures.{type_names}
use Rattle.sail_compile.specs.declared.variables.Begun.{Begun}

-- whether a place stands before another
abbrev pub stands_before : Place → Place → Bool
stands_before p q = is_less (p.file ∷ p.line ∷ p.column ∷ []) (q.file ∷ q.line ∷ q.column ∷ [])

-- a clause or a measure of the function of a name
abbrev pub begun : List ℕ → Place → Begun
begun name place = record { place = place; name = name }

abbrev pub clauses_begun : List ℕ → List FunctionClause → List Begun
clauses_begun name clauses = map (λ clause. begun name clause.place) clauses

abbrev pub begins : Def → List Begun
begins (D.Function place extent name clauses) = clauses_begun name.text clauses
begins (D.Measure place name parameters value) = begun name.text place ∷ []
begins d = []

abbrev pub all_begun : List Def → List Begun
all_begun [] = []
all_begun (d ∷ text) = begins d ++ all_begun text

-- whether one that begins here takes the place of the one that was kept
abbrev pub is_later : Option Begun → Place → Bool
is_later None place = true
is_later (Some kept) place = stands_before kept.place place

-- the one that begins last before a place or there, of those that were seen so far
abbrev pub later : Place → Option Begun → Begun → Option Begun
later at kept b = if stands_before at b.place then kept else (if is_later kept b.place then Some b else kept)

abbrev pub latest : Place → Option Begun → List Begun → Option Begun
latest at kept [] = kept
latest at kept (b ∷ bs) = latest at (later at kept b) bs

-- the Type variables of a signature, in order
abbrev pub names_signed : Option Signature → List (List ℕ)
names_signed None = []
names_signed (Some signature) = type_names signature.variables

abbrev pub names_of : List Def → Option Begun → List (List ℕ)
names_of text None = []
names_of text (Some b) = names_signed (signature_in text b.name)

abbrev pub names_at : List Def → Place → List (List ℕ)
names_at text place = names_of text (latest place None (all_begun text))
