-- Names of shapes and of the text, in the same order: what a name means to shapes is what the text calls by it.
use Rattle.std.proofs.Common.{◌≡◌, ℕ, suc, ◌*◌, List, [], ◌∷◌, ◌++◌, sym, refl, subst, Bool, true, false, Option, Some, None}
use Rattle.std.proofs.Common.{if◌then◌else◌}
use Rattle.std.specs.Str.{bytes_eq}
use Rattle.sail_meaning.specs.Named.{constructor_named}
use Rattle.sail_meaning.specs.Text.{Called, Direction, alone, mapping}
use Rattle.shape_rules.specs.declared.callees.Mapping.{Mapping}
use Rattle.shape_rules.specs.declared.callees.Meant.{Meant}
use Rattle.shape_rules.specs.declared.callees.Meant.TheVariants as M
use Rattle.shape_rules.specs.Scopes.{Setting}
use Rattle.shape_models.specs.declared.entries.Entry.{Entry}
use Rattle.shape_models.specs.Models.{meant_in}
use Rattle.shape_meanings.proofs.Settling.{same_name}
use Rattle.model_meanings.specs.Callees.{CandidateStands, DirectionStands, Model}
use Rattle.model_meanings.specs.Models.{constructor_of}
use Rattle.known_texts.specs.Texts.{Named, called_in}

-- both directions of a mapping
pub record PairStands (setting : Setting) (m : Model) (name : List ℕ) (it : Mapping) (forwards backwards : Direction) : Type 0 where
  pub left : (forwards.takes ≡ it.left) × (backwards.gives ≡ it.left)
  pub right : (forwards.gives ≡ it.right) × (backwards.takes ≡ it.right)
  pub ahead : DirectionStands setting m forwards (2 * it.number)
  pub back : DirectionStands setting m backwards (suc (2 * it.number))
  pub no_constructor : constructor_named setting.types name ≡ None

-- what a definition makes of a name is the same on both sides
abbrev pub MeantStands : Setting → Model → List ℕ → Meant → Option Called → Type 0
MeantStands setting m name (M.Callee f) (Some (alone callee)) =
    CandidateStands setting m f callee × (constructor_named setting.types name ≡ constructor_of f.doing)
MeantStands setting m name (M.Mapping it) (Some (mapping forwards backwards)) = PairStands setting m name it forwards backwards
MeantStands setting m name (M.Register r s) None = Unit {0}
MeantStands setting m name (M.Member i k) None = Unit {0}
MeantStands setting m name meant called = ⊥

-- the same names in the same order
abbrev pub EntriesStand : Setting → Model → List Entry → List Named → Type 0
EntriesStand setting m [] [] = Unit {0}
EntriesStand setting m (e ∷ es) (n ∷ ns) = (n.name ≡ e.name) × MeantStands setting m e.name e.meant n.called × EntriesStand setting m es ns
EntriesStand setting m es ns = ⊥

pub entries_join : (setting : Setting) (m : Model) (es fs : List Entry) (ns os : List Named) → EntriesStand setting m es ns → EntriesStand setting m fs os
    → EntriesStand setting m (es ++ fs) (ns ++ os)
entries_join setting m [] fs [] os a b = b
entries_join setting m [] fs (n ∷ ns) os a b = absurd a
entries_join setting m (e ∷ es) fs [] os a b = absurd a
entries_join setting m (e ∷ es) fs (n ∷ ns) os a b = (a.0, a.1, entries_join setting m es fs ns os a.2 b)

-- ---- a name that is looked up

abbrev pub OwnStands : Setting → Model → List ℕ → Option Meant → Option Called → Type 0
OwnStands setting m name (Some meant) called = MeantStands setting m name meant called
OwnStands setting m name None None = Unit {0}
OwnStands setting m name None (Some called) = ⊥

own_step : (setting : Setting) (m : Model) (name own : List ℕ) (meant : Meant) (called : Option Called) (later : Option Meant) (other : Option Called)
    (b : Bool) → bytes_eq own name ≡ b → MeantStands setting m own meant called → OwnStands setting m name later other
    → OwnStands setting m name (if b then Some meant else later) (if b then called else other)
own_step setting m name own meant called later other true is here there =
    subst (λ (n : List ℕ). MeantStands setting m n meant called) (same_name own name is) here
own_step setting m name own meant called later other false is here there = there

pub own_stands : (setting : Setting) (m : Model) (es : List Entry) (ns : List Named) → EntriesStand setting m es ns → (name : List ℕ)
    → OwnStands setting m name (meant_in es name) (called_in ns name)
own_stands setting m [] [] each name = tt
own_stands setting m [] (n ∷ ns) each name = absurd each
own_stands setting m (e ∷ es) [] each name = absurd each
own_stands setting m (e ∷ es) (n ∷ ns) each name =
    subst (λ (own : List ℕ). OwnStands setting m name (if bytes_eq e.name name then Some e.meant else meant_in es name)
    (if bytes_eq own name then n.called else called_in ns name)) (sym each.0)
    (own_step setting m name e.name e.meant n.called (meant_in es name) (called_in ns name) (bytes_eq e.name name) refl each.1
    (own_stands setting m es ns each.2 name))
