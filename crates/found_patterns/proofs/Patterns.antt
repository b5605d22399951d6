-- Patterns, whatever their form: an induction on the pattern.
use Rattle.std.proofs.Common.{◌≡◌, List, [], ◌∷◌, ◌++◌, length, map, ap, sym, ◌∙◌, refl, subst, Bool, true, Option, Some, None, option_map, pos, ◌-ℤ◌}
use Rattle.sail_base.specs.declared.kind.Kind.TheVariants as Sort
use Rattle.sail_kinds.specs.declared.error.TableError.{TableError}
use Rattle.sail_syntax.specs.declared.name.Literal.{Literal}
use Rattle.sail_syntax.specs.declared.name.Literal.TheVariants as N
use Rattle.sail_syntax.specs.declared.name.Name.{Name}
use Rattle.sail_syntax.specs.declared.patterns.Joined.{Joined, roll-Joined}
use Rattle.sail_syntax.specs.declared.patterns.Pat.{Pat, Pat-F, roll-Pat}
use Rattle.sail_syntax.specs.declared.patterns.Pat.TheOpen as P
use Rattle.sail_syntax.specs.declared.patterns.Pat.TheOpen.{Joined-F}
use Rattle.sail_syntax.specs.declared.patterns.Pat.TheFolds.{fold-roll-Joined, fold-roll-Pat, ind-Pat, map-Joined, map-Pat}
use Rattle.sail_types.specs.Sums.{and_then, constant}
use Rattle.sail_types.specs.declared.numbers.Atom.TheFolds.{fold-roll-Num}
use Rattle.sail_types.specs.declared.numbers.Index.{Index}
use Rattle.sail_types.specs.declared.numbers.Num.{Num}
use Rattle.sail_types.specs.declared.table.Types.{Types}
use Rattle.sail_names.specs.Known as Tables
use Rattle.sail_names.specs.Known.{is_construction}
use Rattle.sail_names.specs.Patterns.{joined, type_failures, unless, uses_failures, uses_form, uses_joined, uses_of_joined}
use Rattle.sail_core.specs.declared.patterns.Form.TheVariants as F
use Rattle.shape_joins.proofs.JoinsLeast.{none, some_same}
use Rattle.shape_rules.specs.declared.callees.Meant.{Meant}
use Rattle.shape_rules.specs.declared.callees.Meant.TheVariants as M
use Rattle.shape_rules.specs.Patterns.{Piece, Widths, form_piece, joined_piece, literal_shape, literal_width, name_width, piece, width_of}
use Rattle.shape_rules.specs.Scopes.{Setting}
use Rattle.shape_rules.specs.Written.{written_as}
use Rattle.shape_meanings.specs.Naming.{AreKnown}
use Rattle.shape_meanings.proofs.Naming.{unless_true}
use Rattle.shape_meanings.proofs.PatternsSound.{joined_look}
use Rattle.shape_stands.proofs.Standing.{both_empty}
use Rattle.pattern_laws.specs.Standing.{atom_owns, number_owns, sum_owns, term_owns}
use Rattle.found_patterns.specs.Laws.{FoundPatternsStand}
use Rattle.found_patterns.specs.Meant.{NamesStand, WidthsOwn, WidthsStand}
use Rattle.found_patterns.proofs.Looks.{EachFine, EachWidth, PieceFine, WidthFine, as_fine, concat_fine, cons_fine, construct_fine, formed, group_fine}
use Rattle.found_patterns.proofs.Looks.{literal_fine, name_fine, number_fine, typed_fine}

module _ (types : Types) (numbers : List Index) where
  -- ---- what is said of a pattern: it passes, whatever shape comes to it, and its width does

  abbrev BothFine : Setting → Widths → Piece → Type 0
  BothFine setting widths p = PieceFine types numbers setting widths p × WidthFine types numbers setting widths p

  abbrev FineAs : (Tables.Setting → List TableError) → Piece → Type 0
  FineAs uses p =
      (setting : Setting) (names : Tables.Setting) → AreKnown setting names → uses names ≡ [] → NamesStand types setting names
      → WidthsOwn numbers setting names → (widths : Widths) → WidthsStand numbers widths → BothFine setting widths p

  abbrev PatFine : Pat → Type 0
  PatFine p = FineAs (λ names. uses_failures names p) (piece p)

  abbrev JoinedFine : Joined → Type 0
  JoinedFine j = FineAs (λ names. uses_of_joined names j) (joined_look j)

  abbrev SuchP : Type 0
  SuchP = (p : Pat) × PatFine p

  abbrev SuchJ : Type 0
  SuchJ = (j : Joined) × JoinedFine j

  abbrev pats : List SuchP → List Pat
  pats ys = map (λ (p : SuchP). p.0) ys

  abbrev joins : List SuchJ → List Joined
  joins ys = map (λ (j : SuchJ). j.0) ys

  -- ---- several parts

  module _ (setting : Setting) (names : Tables.Setting) (known : AreKnown setting names) (stand : NamesStand types setting names)
      (wide : WidthsOwn numbers setting names) (widths : Widths) (given : WidthsStand numbers widths) where
    each_pat : (ys : List SuchP) → joined (map (uses_failures names) (pats ys)) ≡ [] → EachFine types numbers setting widths (map piece (pats ys))
    each_pat [] u = tt
    each_pat (y ∷ ys) u =
        let h = both_empty (uses_failures names y.0) (joined (map (uses_failures names) (pats ys))) u in
        ((y.1 setting names known h.0 stand wide widths given).0, each_pat ys h.1)

    each_joined : (ys : List SuchJ) → joined (map (uses_of_joined names) (joins ys)) ≡ []
        → EachFine types numbers setting widths (map joined_look (joins ys)) × EachWidth types numbers setting widths (map joined_look (joins ys))
    each_joined [] u = (tt, tt)
    each_joined (y ∷ ys) u =
        let h = both_empty (uses_of_joined names y.0) (joined (map (uses_of_joined names) (joins ys))) u in
        let one = y.1 setting names known h.0 stand wide widths given in
        let others = each_joined ys h.1 in
        ((one.0, others.0), (one.1, others.1))

  -- ---- widths

  no_width : (n : Num) → None ≡ Some n → number_owns numbers n ≡ true
  no_width n is = none is

  literal_wide : (literal : Literal) (n : Num) → literal_width literal ≡ Some n → number_owns numbers n ≡ true
  literal_wide (N.Bits bits) n is =
      subst (λ x. number_owns numbers x ≡ true) (some_same (constant (pos (length bits))) n is)
      (fold-roll-Num Bool Bool Bool (atom_owns numbers) (sum_owns numbers) (term_owns numbers) (record { terms = []; constant = pos (length bits) }))
  literal_wide literal n is = none is

  name_wide : (name : Name) (meant : Option Meant) (widths : Widths) → WidthsStand numbers widths → (n : Num) → name_width name meant widths ≡ Some n
      → number_owns numbers n ≡ true
  name_wide name (Some (M.Member i k)) widths given n is = none is
  name_wide name meant widths given n is = given name.text n is

  -- ---- one form

  abbrev first : Pat-F SuchP SuchJ → Pat-F Pat Joined
  first = map-Pat SuchP SuchJ Pat Joined (λ p. p.0) (λ j. j.0)

  abbrev used_form : Tables.Setting → Pat-F Pat Joined → Pat-F (List TableError) (List TableError)
  used_form names = map-Pat Pat Joined (List TableError) (List TableError) (uses_failures names) (uses_of_joined names)

  abbrev looked_form : Pat-F Pat Joined → Pat-F Piece Piece
  looked_form = map-Pat Pat Joined Piece Piece piece joined_look

  abbrev FormFine : Pat-F Pat Joined → Type 0
  FormFine d = FineAs (λ names. uses_form names (used_form names d)) (form_piece (looked_form d))

  again : (y : Pat-F SuchP SuchJ) → FormFine (first y)
  again (P.Wildcard place) setting names known u stand wide widths given =
      ((λ subject e. formed types numbers place F.Any [] refl), (λ n is. no_width n is))
  again (P.Constant place literal) setting names known u stand wide widths given = (
    λ subject e. literal_fine types numbers place (literal_shape literal) literal setting widths subject,
    λ n is. literal_wide literal n is,
  )
  again (P.Negative place z) setting names known u stand wide widths given =
      ((λ subject e. number_fine types numbers place (pos 0 -ℤ z) setting widths subject), (λ n is. no_width n is))
  again (P.Bind name) setting names known u stand wide widths given = (
    λ subject e. name_fine types numbers name (setting.value name.text) setting names widths subject refl stand,
    λ n is. name_wide name (setting.value name.text) widths given n is,
  )
  again (P.Construct name ys) setting names known u stand wide widths given =
      let h = both_empty (unless (is_construction names name.text) name) (joined (map (uses_failures names) (pats ys))) u in
      let constructs = unless_true (is_construction names name.text) name h.0 in (
        construct_fine types numbers name (setting.value name.text) (map piece (pats ys)) setting names widths constructs refl stand
            (each_pat setting names known stand wide widths given ys h.1),
        λ n is. wide.heads name.text n constructs is,
      )
  again (P.Group place brackets ys) setting names known u stand wide widths given = (
    group_fine types numbers place brackets (map piece (pats ys)) setting widths (each_pat setting names known stand wide widths given ys u),
    λ n is. no_width n is,
  )
  again (P.Concat place a b ys) setting names known u stand wide widths given =
      let uses : Pat → List TableError = uses_failures names in
      let js : List Joined = joins ys in
      let h = both_empty (uses a.0 ++ uses b.0) (joined (map (uses_of_joined names) js)) u in
      let h2 = both_empty (uses a.0) (uses b.0) h.0 in
      let one = a.1 setting names known h2.0 stand wide widths given in
      let another = b.1 setting names known h2.1 stand wide widths given in
      let others = each_joined setting names known stand wide widths given ys h.1 in (
        concat_fine types numbers place (piece a.0 ∷ piece b.0 ∷ map joined_look js) setting widths (one.0, (another.0, others.0))
            (one.1, (another.1, others.1)),
        λ n is. no_width n is,
      )
  again (P.Cons place a b) setting names known u stand wide widths given =
      let h = both_empty (uses_failures names a.0) (uses_failures names b.0) u in (
        cons_fine types numbers place (piece a.0) (piece b.0) setting widths (a.1 setting names known h.0 stand wide widths given).0
            (b.1 setting names known h.1 stand wide widths given).0,
        λ n is. no_width n is,
      )
  again (P.As place a name) setting names known u stand wide widths given = (
    as_fine types numbers place (piece a.0) name setting widths (a.1 setting names known u stand wide widths given).0,
    λ n is. no_width n is,
  )
  again (P.Typed place a typ) setting names known u stand wide widths given =
      let h = both_empty (uses_failures names a.0) (type_failures Sort.Type typ names) u in
      let t = known.typs typ h.1 in (
        typed_fine types numbers place (piece a.0) typ setting widths (written_as setting.within typ t.0)
            (ap (option_map (written_as setting.within typ)) t.1) (a.1 setting names known h.0 stand wide widths given).0,
        λ n is. wide.typs typ t.0 n h.1 t.1 (sym (ap (λ o. and_then o width_of) t.1) ∙ is),
      )

  -- ---- the tree

  rolled : (d : Pat-F Pat Joined) → FormFine d → PatFine (roll-Pat d)
  rolled d h =
      subst (λ u. FineAs u (piece (roll-Pat d))) (λ i names. sym (fold-roll-Pat (List TableError) (List TableError) (uses_form names) uses_joined d) i)
      (subst (FineAs (λ names. uses_form names (used_form names d))) (sym (fold-roll-Pat Piece Piece form_piece joined_piece d)) h)

  abbrev first_joined : Joined-F SuchP SuchJ → Joined-F Pat Joined
  first_joined = map-Joined SuchP SuchJ Pat Joined (λ p. p.0) (λ j. j.0)

  rolled_joined : (y : Joined-F SuchP SuchJ) → JoinedFine (roll-Joined (first_joined y))
  rolled_joined y =
      let d : Joined-F Pat Joined = first_joined y in
      subst (λ u. FineAs u (joined_look (roll-Joined d)))
      (λ i names. sym (fold-roll-Joined (List TableError) (List TableError) (uses_form names) uses_joined d) i)
      (subst (FineAs (λ names. uses_failures names y.part.0)) (sym (fold-roll-Joined Piece Piece form_piece joined_piece d)) y.part.1)

  pub pat_fine : (p : Pat) → PatFine p
  pat_fine = ind-Pat PatFine JoinedFine (λ e y is. subst (λ d. PatFine (roll-Pat d)) is (rolled (first y) (again y)))
      (λ e y is. subst (λ d. JoinedFine (roll-Joined d)) is (rolled_joined y))

pub found_patterns_stand : FoundPatternsStand
found_patterns_stand types numbers p setting names known u stand wide widths given subject e =
    (pat_fine types numbers p setting names known u stand wide widths given).0 subject e
