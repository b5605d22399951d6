-- A pattern in which the tables find no failure, and in which no shape fails, is right and binds no name twice.
use Rattle.std.proofs.Common.{◌≡◌, true, List, [], ◌∷◌, map, ap, sym, ◌∙◌, refl}
use Rattle.sail_syntax.specs.declared.name.Name.{Name}
use Rattle.sail_syntax.specs.declared.patterns.Pat.{Pat}
use Rattle.sail_names.specs.Locals as Bound
use Rattle.sail_names.specs.Known as Tables
use Rattle.sail_names.specs.Patterns.{uses_failures, binds, clashes, pattern_failures}
use Rattle.shape_rules.specs.declared.locals.Local.{Local}
use Rattle.shape_rules.specs.Scopes.{Setting}
use Rattle.shape_rules.specs.Patterns.{look, no_widths}
use Rattle.shape_meanings.specs.Trees.{pattern_written}
use Rattle.shape_meanings.specs.Naming.{AreKnown}
use Rattle.shape_meanings.specs.Parts.{PatternIs}
use Rattle.shape_meanings.proofs.Settling.{both_empty}
use Rattle.shape_meanings.proofs.Apart.{names_either}
use Rattle.shape_meanings.proofs.Binds.{as_bound, pat_binds}
use Rattle.shape_meanings.proofs.PatternsSound.{patterns_sound}

pub bound_names : (ls : List Local) → map (λ (b : Bound.Local). b.name) (map as_bound ls) ≡ map (λ (l : Local). l.name) ls
bound_names [] = refl
bound_names (l ∷ ls) = ap (λ ts. l.name ∷ ts) (bound_names ls)

pub bound_texts : (ns : List Name) → map (λ (b : Bound.Local). b.name) (map Bound.constant ns) ≡ map (λ (n : Name). n.text) ns
bound_texts [] = refl
bound_texts (n ∷ ns) = ap (λ ts. n.text ∷ ts) (bound_texts ns)

pub pattern_is : (p : Pat) → pattern_written p ≡ true → (setting : Setting) (names : Tables.Setting) → AreKnown setting names
    → pattern_failures names p ≡ [] → PatternIs setting p
pattern_is p w setting names known u subject e =
    let h = both_empty (uses_failures names p) (clashes (binds names.known p)) u in (
      patterns_sound p w setting names known no_widths subject h.0 e,
      names_either (look p setting no_widths subject).binds (binds names.known p) (
          sym (bound_names (look p setting no_widths subject).binds)
          ∙ ap (map (λ (b : Bound.Local). b.name)) (pat_binds p setting names known h.0 no_widths subject) ∙ bound_texts (binds names.known p)) h.1,
    )
