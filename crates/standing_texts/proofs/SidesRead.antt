-- Sides of mappings in whose names no failure is found read, as expressions.
use Rattle.std.proofs.Common.{◌≡◌, List, [], ◌∷◌, ◌++◌, map, sym, ◌∙◌, refl, subst, Bool, true, ◌&&◌}
use Rattle.std.specs.Prelude.{is_some}
use Rattle.sail_base.specs.declared.kind.Kind.TheVariants as Sort
use Rattle.sail_kinds.specs.Scopes.{Within}
use Rattle.sail_kinds.specs.declared.error.TableError.{TableError}
use Rattle.sail_syntax.specs.declared.patterns.Joined.{Joined, roll-Joined}
use Rattle.sail_syntax.specs.declared.patterns.Pat.{Pat, Pat-F, roll-Pat}
use Rattle.sail_syntax.specs.declared.patterns.Pat.TheOpen as P
use Rattle.sail_syntax.specs.declared.patterns.Pat.TheOpen.{Joined-F}
use Rattle.sail_syntax.specs.declared.patterns.Pat.TheFolds.{fold-Joined, fold-roll-Joined, fold-roll-Pat, ind-Pat, map-Joined, map-Pat}
use Rattle.sail_syntax.specs.declared.types.TyExp.{TyExp}
use Rattle.sail_names.specs.Known as Tables
use Rattle.sail_names.specs.Known.{is_construction}
use Rattle.sail_names.specs.Patterns.{joined as all_failures, type_failures, unless, uses_failures, uses_form, uses_joined, uses_of_joined}
use Rattle.shape_joins.proofs.Order.{two}
use Rattle.shape_rules.specs.Written.{typ_in}
use Rattle.shape_meanings.proofs.Settling.{both_empty}
use Rattle.standing_cores.specs.Types.{every}
use Rattle.standing_models.specs.Reads.{joined_form, side_form, side_reads}

module _ (within : Within) (typs : (names : Tables.Setting) (typ : TyExp) → names.types ≡ within → type_failures Sort.Type typ names ≡ []
    → is_some (typ_in within typ) ≡ true) where
  abbrev further_reads : Joined → Bool
  further_reads = fold-Joined Bool Bool (side_form within) joined_form

  abbrev OfPat : Pat → Type 0
  OfPat p = (names : Tables.Setting) → names.types ≡ within → uses_failures names p ≡ [] → side_reads within p ≡ true

  abbrev OfJoined : Joined → Type 0
  OfJoined j = (names : Tables.Setting) → names.types ≡ within → uses_of_joined names j ≡ [] → further_reads j ≡ true

  abbrev SuchP : Type 0
  SuchP = (p : Pat) × OfPat p

  abbrev SuchJ : Type 0
  SuchJ = (j : Joined) × OfJoined j

  abbrev pats : List SuchP → List Pat
  pats ys = map (λ (p : SuchP). p.0) ys

  abbrev joins : List SuchJ → List Joined
  joins ys = map (λ (j : SuchJ). j.0) ys

  each_part : (names : Tables.Setting) → names.types ≡ within → (ys : List SuchP) → all_failures (map (uses_failures names) (pats ys)) ≡ []
      → every (map (side_reads within) (pats ys)) ≡ true
  each_part names is [] u = refl
  each_part names is (y ∷ ys) u =
      let h = both_empty (uses_failures names y.0) (all_failures (map (uses_failures names) (pats ys))) u in
      two (side_reads within y.0) (every (map (side_reads within) (pats ys))) (y.1 names is h.0) (each_part names is ys h.1)

  each_further : (names : Tables.Setting) → names.types ≡ within → (ys : List SuchJ) → all_failures (map (uses_of_joined names) (joins ys)) ≡ []
      → every (map further_reads (joins ys)) ≡ true
  each_further names is [] u = refl
  each_further names is (y ∷ ys) u =
      let h = both_empty (uses_of_joined names y.0) (all_failures (map (uses_of_joined names) (joins ys))) u in
      two (further_reads y.0) (every (map further_reads (joins ys))) (y.1 names is h.0) (each_further names is ys h.1)

  abbrev first : Pat-F SuchP SuchJ → Pat-F Pat Joined
  first = map-Pat SuchP SuchJ Pat Joined (λ p. p.0) (λ j. j.0)

  abbrev over_reads : Pat-F Pat Joined → Pat-F Bool Bool
  over_reads = map-Pat Pat Joined Bool Bool (side_reads within) further_reads

  abbrev over_uses : Tables.Setting → Pat-F Pat Joined → Pat-F (List TableError) (List TableError)
  over_uses names = map-Pat Pat Joined (List TableError) (List TableError) (uses_failures names) (uses_of_joined names)

  abbrev FormReads : Pat-F Pat Joined → Type 0
  FormReads d = (names : Tables.Setting) → names.types ≡ within → uses_form names (over_uses names d) ≡ [] → side_form within (over_reads d) ≡ true

  again : (y : Pat-F SuchP SuchJ) → FormReads (first y)
  again (P.Construct name ys) names is u =
      each_part names is ys
      (both_empty (unless (is_construction names name.text) name) (all_failures (map (uses_failures names) (pats ys))) u).1
  again (P.Group place brackets ys) names is u = each_part names is ys u
  again (P.Concat place a b ys) names is u =
      let h = both_empty (uses_failures names a.0 ++ uses_failures names b.0) (all_failures (map (uses_of_joined names) (joins ys))) u in
      let k = both_empty (uses_failures names a.0) (uses_failures names b.0) h.0 in
      two (side_reads within a.0 && side_reads within b.0) (every (map further_reads (joins ys)))
      (two (side_reads within a.0) (side_reads within b.0) (a.1 names is k.0) (b.1 names is k.1)) (each_further names is ys h.1)
  again (P.Cons place a b) names is u =
      let k = both_empty (uses_failures names a.0) (uses_failures names b.0) u in
      two (side_reads within a.0) (side_reads within b.0) (a.1 names is k.0) (b.1 names is k.1)
  again (P.As place a name) names is u = a.1 names is u
  again (P.Typed place a typ) names is u =
      let h = both_empty (uses_failures names a.0) (type_failures Sort.Type typ names) u in
      two (is_some (typ_in within typ)) (side_reads within a.0) (typs names typ is h.1) (a.1 names is h.0)
  again y names is u = refl

  rolled : (d : Pat-F Pat Joined) → FormReads d → OfPat (roll-Pat d)
  rolled d h names is u =
      fold-roll-Pat Bool Bool (side_form within) joined_form d
      ∙ h names is (sym (fold-roll-Pat (List TableError) (List TableError) (uses_form names) uses_joined d) ∙ u)

  abbrev first_joined : Joined-F SuchP SuchJ → Joined-F Pat Joined
  first_joined = map-Joined SuchP SuchJ Pat Joined (λ p. p.0) (λ j. j.0)

  rolled_joined : (y : Joined-F SuchP SuchJ) → OfJoined (roll-Joined (first_joined y))
  rolled_joined y names is u =
      fold-roll-Joined Bool Bool (side_form within) joined_form (first_joined y)
      ∙ y.part.1 names is (sym (fold-roll-Joined (List TableError) (List TableError) (uses_form names) uses_joined (first_joined y)) ∙ u)

  pub side_is_read : (p : Pat) → OfPat p
  side_is_read = ind-Pat OfPat OfJoined (λ e y is. subst (λ d. OfPat (roll-Pat d)) is (rolled (first y) (again y)))
      (λ e y is. subst (λ d. OfJoined (roll-Joined d)) is (rolled_joined y))
