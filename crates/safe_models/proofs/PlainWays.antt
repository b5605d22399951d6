-- Plain patterns convert by no mapping.
use Rattle.std.proofs.Common.{◌≡◌, ℕ, Bool, true, false, List, [], ◌∷◌, ◌++◌, map, sym, refl, subst, ◌∙◌, Option, Some, None}
use Rattle.std.specs.List.{list_all}
use Rattle.std.proofs.lemmas.Bool.{and_parts}
use Rattle.sail_base.specs.declared.kind.Kind.TheVariants as Sort
use Rattle.sail_kinds.specs.declared.error.TableError.{TableError}
use Rattle.sail_syntax.specs.declared.patterns.Joined.{Joined, roll-Joined}
use Rattle.sail_syntax.specs.declared.patterns.Pat.{Pat, Pat-F, roll-Pat}
use Rattle.sail_syntax.specs.declared.patterns.Pat.TheOpen as P
use Rattle.sail_syntax.specs.declared.patterns.Pat.TheOpen.{Joined-F}
use Rattle.sail_syntax.specs.declared.patterns.Pat.TheFolds.{fold-roll-Joined, fold-roll-Pat, ind-Pat, map-Joined, map-Pat}
use Rattle.sail_names.specs.Known as Tables
use Rattle.sail_names.specs.Known.{is_any, is_construction, is_global_construction}
use Rattle.sail_names.specs.Patterns.{joined, type_failures, unless, uses_failures, uses_form, uses_joined, uses_of_joined}
use Rattle.sail_names.specs.declared.names.Global.{Global}
use Rattle.sail_names.specs.declared.names.Global.TheVariants as G
use Rattle.sail_cycles.specs.Callees.{joined_callees, joined_form, mappings_of_global, pattern_callees, pattern_form}
use Rattle.shape_joins.proofs.Order.{no, two}
use Rattle.shape_meanings.proofs.Naming.{unless_true}
use Rattle.shape_meanings.proofs.Settling.{both_empty}
use Rattle.standing_models.specs.Tests.{Converts}

module _ (names : Tables.Setting) (converts : ℕ → Bool) where
  abbrev All : List ℕ → Type 0
  All xs = list_all converts xs ≡ true

  both_all : (xs ys : List ℕ) → All xs → All ys → All (xs ++ ys)
  both_all [] ys h k = k
  both_all (x ∷ xs) ys h k =
      let b = and_parts (converts x) (list_all converts xs) h in
      two (converts x) (list_all converts (xs ++ ys)) b.0 (both_all xs ys b.1 k)

  module _ (plain : is_any names.allowed ≡ false) where
    no_mapping : (o : Option Global) → is_global_construction names.allowed o ≡ true → All (mappings_of_global o)
    no_mapping (Some (G.Mapping n)) h = no (sym plain ∙ h)
    no_mapping (Some (G.Direction n)) h = no (sym plain ∙ h)
    no_mapping (Some G.Constructor) h = refl
    no_mapping (Some G.Builtin) h = refl
    no_mapping (Some G.StateBuiltin) h = refl
    no_mapping (Some (G.Function n)) h = refl
    no_mapping (Some (G.Overload ns)) h = refl
    no_mapping (Some G.Register) h = refl
    no_mapping (Some (G.Let n)) h = refl
    no_mapping (Some G.Member) h = refl
    no_mapping None h = refl

    abbrev PatPlain : Pat → Type 0
    PatPlain p = uses_failures names p ≡ [] → All (pattern_callees names.known p)

    abbrev JoinedPlain : Joined → Type 0
    JoinedPlain j = uses_of_joined names j ≡ [] → All (joined_callees names.known j)

    abbrev SuchP : Type 0
    SuchP = (p : Pat) × PatPlain p

    abbrev SuchJ : Type 0
    SuchJ = (j : Joined) × JoinedPlain j

    abbrev pats : List SuchP → List Pat
    pats ys = map (λ (p : SuchP). p.0) ys

    abbrev joins : List SuchJ → List Joined
    joins ys = map (λ (j : SuchJ). j.0) ys

    each_pat : (ys : List SuchP) → joined (map (uses_failures names) (pats ys)) ≡ [] → All (joined (map (pattern_callees names.known) (pats ys)))
    each_pat [] u = refl
    each_pat (y ∷ ys) u =
        let h = both_empty (uses_failures names y.0) (joined (map (uses_failures names) (pats ys))) u in
        both_all (pattern_callees names.known y.0) (joined (map (pattern_callees names.known) (pats ys))) (y.1 h.0) (each_pat ys h.1)

    each_joined : (ys : List SuchJ) → joined (map (uses_of_joined names) (joins ys)) ≡ [] → All (joined (map (joined_callees names.known) (joins ys)))
    each_joined [] u = refl
    each_joined (y ∷ ys) u =
        let h = both_empty (uses_of_joined names y.0) (joined (map (uses_of_joined names) (joins ys))) u in
        both_all (joined_callees names.known y.0) (joined (map (joined_callees names.known) (joins ys))) (y.1 h.0) (each_joined ys h.1)

    abbrev first : Pat-F SuchP SuchJ → Pat-F Pat Joined
    first = map-Pat SuchP SuchJ Pat Joined (λ p. p.0) (λ j. j.0)

    abbrev uses : Pat-F Pat Joined → List TableError
    uses d = uses_form names (map-Pat Pat Joined (List TableError) (List TableError) (uses_failures names) (uses_of_joined names) d)

    abbrev calls : Pat-F Pat Joined → List ℕ
    calls d = pattern_form names.known (map-Pat Pat Joined (List ℕ) (List ℕ) (pattern_callees names.known) (joined_callees names.known) d)

    again : (y : Pat-F SuchP SuchJ) → uses (first y) ≡ [] → All (calls (first y))
    again (P.Wildcard place) u = refl
    again (P.Constant place literal) u = refl
    again (P.Negative place z) u = refl
    again (P.Bind name) u = refl
    again (P.Construct name ys) u =
        let h = both_empty (unless (is_construction names name.text) name) (joined (map (uses_failures names) (pats ys))) u in
        both_all (mappings_of_global (names.known.value name.text)) (joined (map (pattern_callees names.known) (pats ys)))
        (no_mapping (names.known.value name.text) (unless_true (is_construction names name.text) name h.0)) (each_pat ys h.1)
    again (P.Group place brackets ys) u = each_pat ys u
    again (P.Concat place a b ys) u =
        let h = both_empty (uses_failures names a.0 ++ uses_failures names b.0) (joined (map (uses_of_joined names) (joins ys))) u in
        let k = both_empty (uses_failures names a.0) (uses_failures names b.0) h.0 in
        both_all (pattern_callees names.known a.0 ++ pattern_callees names.known b.0) (joined (map (joined_callees names.known) (joins ys)))
        (both_all (pattern_callees names.known a.0) (pattern_callees names.known b.0) (a.1 k.0) (b.1 k.1)) (each_joined ys h.1)
    again (P.Cons place a b) u =
        let h = both_empty (uses_failures names a.0) (uses_failures names b.0) u in
        both_all (pattern_callees names.known a.0) (pattern_callees names.known b.0) (a.1 h.0) (b.1 h.1)
    again (P.As place a name) u = a.1 u
    again (P.Typed place a typ) u = a.1 (both_empty (uses_failures names a.0) (type_failures Sort.Type typ names) u).0

    rolled : (d : Pat-F Pat Joined) → (uses d ≡ [] → All (calls d)) → PatPlain (roll-Pat d)
    rolled d h u =
        subst All (sym (fold-roll-Pat (List ℕ) (List ℕ) (pattern_form names.known) joined_form d))
        (h (subst (λ (es : List TableError). es ≡ []) (fold-roll-Pat (List TableError) (List TableError) (uses_form names) uses_joined d) u))

    abbrev first_joined : Joined-F SuchP SuchJ → Joined-F Pat Joined
    first_joined = map-Joined SuchP SuchJ Pat Joined (λ p. p.0) (λ j. j.0)

    rolled_joined : (y : Joined-F SuchP SuchJ) → JoinedPlain (roll-Joined (first_joined y))
    rolled_joined y u =
        subst All (sym (fold-roll-Joined (List ℕ) (List ℕ) (pattern_form names.known) joined_form (first_joined y)))
        (y.part.1 (subst (λ (es : List TableError). es ≡ [])
        (fold-roll-Joined (List TableError) (List TableError) (uses_form names) uses_joined (first_joined y)) u))

    plain_calls : (p : Pat) → PatPlain p
    plain_calls = ind-Pat PatPlain JoinedPlain (λ e y is. subst (λ d. PatPlain (roll-Pat d)) is (rolled (first y) (again y)))
        (λ e y is. subst (λ d. JoinedPlain (roll-Joined d)) is (rolled_joined y))

  -- so what is asked of patterns that may convert holds of all
  pub calls_among : (p : Pat) → uses_failures names p ≡ [] → Converts converts names (pattern_callees names.known p) → All (pattern_callees names.known p)
  calls_among p u h = by (is_any names.allowed) refl
    where
      by : (b : Bool) → is_any names.allowed ≡ b → All (pattern_callees names.known p)
      by true is = h is
      by false is = plain_calls is p u
