-- The numbers that a named value's parts give to its type's parameters are the same wherever fixed variables stand for the same.
use Rattle.std.proofs.Common.{◌≡◌, ℕ, suc, pos, int_le, List, [], ◌∷◌, ◌++◌, map, Option, Some, None, refl, ap, ◌∙◌}
use Rattle.std.proofs.lemmas.List.{map-append}
use Rattle.sail_base.specs.declared.kind.Kind.{Kind}
use Rattle.sail_base.specs.declared.kind.Kind.TheVariants as K
use Rattle.row_types.specs.laws.Formulas.{number_variable}
use Rattle.sail_types.specs.Belongs.{Reading as Closed}
use Rattle.sail_types.specs.Numbers.{Assignment, Positive}
use Rattle.sail_types.specs.Places.{Given, an_int, a_bool}
use Rattle.sail_types.specs.Sums.{constant, variable}
use Rattle.sail_types.specs.declared.numbers.Con.TheVariants as C
use Rattle.sail_types.specs.declared.numbers.Index.{Index}
use Rattle.sail_types.specs.declared.numbers.Index.TheVariants as N
use Rattle.sail_types.specs.declared.table.Parameter.{Parameter}
use Rattle.sail_types.specs.declared.table.Types.{Types}
use Rattle.sail_types.specs.declared.types.Typ.{Typ}
use Rattle.sail_types.specs.declared.values.Value.{Value}
use Rattle.value_indices.specs.declared.indices.Indices.{Indices}
use Rattle.value_indices.specs.declared.notes.Fact.{Fact}
use Rattle.value_fits.specs.Fitting.{among, placed}
use Rattle.wide_types.specs.Widening.{fresh_index}
use Rattle.call_arguments.specs.Callees.{index_if, indices_from}
use Rattle.value_laws.specs.Belonging.{Integers, index_there, standing}
use Rattle.value_laws.specs.Known.{Agree, Goes, Later, Point}
use Rattle.value_laws.proofs.Numbers.{holds_is}
use Rattle.value_laws.proofs.Steps.{agree_on, fresh_integer, gives, goes_then, later_on}
use Rattle.fitting_laws.proofs.Standing.{EachHad, GivenStays, among_given_stays}

module _ (types : Types) (past : Positive) (own : List Closed) {n : ℕ} (f : Point n) (ts : List Typ) (is : List Indices) (vs : List Value)
    (had : EachHad types past own f is vs) where
  abbrev at : Integers → Assignment
  at g = standing past g

  -- what a parameter stands for: what a part gives it, else zero or false
  abbrev stands_for : Kind → Option Index → List Index
  stands_for kind (Some i) = index_there (at f.integers) i ∷ []
  stands_for K.Int None = N.Number (constant (pos 0)) ∷ []
  stands_for K.Bool None = N.Truth (C.Truth (int_le (pos 1) (pos 0))) ∷ []
  stands_for K.Type None = []

  abbrev pub all_stand : ℕ → List Parameter → List Index
  all_stand j [] = []
  all_stand j (p ∷ ps) = stands_for p.kind (among (map placed ts) j is) ++ all_stand (suc j) ps

  -- ---- a number or truth that is given

  as_index : Index → Option Given → Index
  as_index (N.Number t) (Some (an_int z)) = N.Number (constant z)
  as_index (N.Truth c) (Some (a_bool b)) = N.Truth (C.Truth b)
  as_index i o = i

  index_same : (i : Index) → GivenStays types past own f (Some i) → (g : Integers) → Agree f g → index_there (at g) i ≡ index_there (at f.integers) i
  unfolding as_index
  index_same (N.Number t) s g a = ap (as_index (N.Number t)) (s g a)
  index_same (N.Truth c) s g a = ap (as_index (N.Truth c)) (s g a)

  Stand : List Index → Integers → List Index → Type 0
  Stand js g is = map (index_there (at g)) is ≡ js

  fresh_stands : {m : ℕ} {p : Point m} {facts : List Fact} (a : Parameter) (kind : Kind)
      → Goes past m p facts (fresh_index a kind) (Stand (stands_for kind None))
  unfolding Stand
  fresh_stands a K.Int = goes_then (fresh_integer (pos 0)) (λ m g fs v l e. gives (N.Number (variable v) ∷ []) (λ k b.
      ap (λ z. N.Number (constant z) ∷ []) (number_variable (at k) v ∙ e k b)))
  fresh_stands a K.Bool = goes_then (fresh_integer (pos 0)) (λ m g fs v l e. gives (N.Truth (C.Holds v) ∷ []) (λ k b.
      ap (λ c. N.Truth (C.Truth c) ∷ []) (holds_is (at k) v ∙ ap (int_le (pos 1)) (e k b))))
  fresh_stands a K.Type = gives [] (λ k b. refl)

  one_stands : {m : ℕ} {p : Point m} {facts : List Fact} → Later f p → (a : Parameter) (o : Option Index) → GivenStays types past own f o
      → Goes past m p facts (index_if a o) (Stand (stands_for a.kind o))
  unfolding Stand
  one_stands l a (Some i) s = gives (i ∷ []) (λ k b. ap (λ x. x ∷ []) (index_same i s k (agree_on l b)))
  one_stands l a None s = fresh_stands a a.kind

  pub all_go : {m : ℕ} {p : Point m} {facts : List Fact} → Later f p → (j : ℕ) (ps : List Parameter)
      → Goes past m p facts (indices_from j ps ts is) (λ g js. map (index_there (at g)) js ≡ all_stand j ps)
  unfolding Stand
  all_go l j [] = gives [] (λ k b. refl)
  all_go l j (a ∷ ps) = goes_then (one_stands l a (among (map placed ts) j is) (among_given_stays types past own f ts j is vs had))
      (λ m g fs i l1 e. goes_then (all_go (later_on l l1) (suc j) ps) (λ m2 g2 fs2 more l2 e2. gives (i ++ more) (λ k b.
      map-append (index_there (at k)) i more ∙ ap (λ x. x ++ map (index_there (at k)) more) (e k (agree_on l2 b))
      ∙ ap (λ x. stands_for a.kind (among (map placed ts) j is) ++ x) (e2 k b))))
