-- Whether the operands of an operation have its types goes by the types of its sources alone, whatever else the function and the module have.
use Rattle.std.proofs.Common.{◌≡◌, ℕ, zero, suc, ◌+◌, ◌&&◌, ◌||◌, Bool, List, [], ◌∷◌, length, Option, Some, None, refl, ap, ◌∙◌}
use Rattle.std.specs.Prelude.{nat_eq, slice_get}
use Rattle.sail_types.specs.declared.rows.Row.{Row}
use Rattle.sail_types.specs.declared.rows.Row.TheVariants as B
use Rattle.jib.specs.declared.types.ValueType.{ValueType}
use Rattle.jib.specs.declared.types.ValueType.TheVariants as T
use Rattle.jib.specs.declared.types.Sort.{Sort}
use Rattle.jib.specs.declared.types.Sort.TheVariants as S
use Rattle.jib.specs.declared.code.Literal.{Literal}
use Rattle.jib.specs.declared.code.Source.{Source}
use Rattle.jib.specs.declared.code.Operation.{Operation}
use Rattle.jib.specs.declared.code.Operation.TheVariants as O
use Rattle.jib.specs.declared.code.Function.{Function}
use Rattle.jib.specs.declared.code.Module.{Module}
use Rattle.jib.specs.Sorts.{takes, gives}
use Rattle.jib.specs.Typing.{is_item, is_some_sort, is_sort, item_is, item_some, operand_typ, part_some, part_typ, payload_some, payload_typ, same, sort_at}
use Rattle.jib.specs.Typing.{sort_some, source_typ, typ_at}
use Rattle.jib.specs.Operands.{alike, all_given, all_of, all_taken, between, builtin_typed}
use Rattle.jib.specs.Operands.{compared, each, has_sort, is_given, is_taken, makes, operation_typed}
use Rattle.jib.specs.Operands.{some_comparable, some_makes}

and_same : {a b c d : Bool} → a ≡ c → b ≡ d → (a && b) ≡ (c && d)
and_same e g = λ j. e j && g j

or_same : {a b c d : Bool} → a ≡ c → b ≡ d → (a || b) ≡ (c || d)
or_same e g = λ j. e j || g j

module _ (m m' : Module) (e : m.types ≡ m'.types) where
  -- ---- what is asked of types, where the tables are one

  pub typ_same : (o : Option ℕ) → typ_at m o ≡ typ_at m' o
  typ_same None = refl
  typ_same (Some k) = ap (λ ts. slice_get ts k) e

  pub sort_same : (o : Option ℕ) → sort_at m o ≡ sort_at m' o
  sort_same o = ap sort_some (typ_same o)

  pub is_sort_same : (o : Option ℕ) (s : Sort) → is_sort m o s ≡ is_sort m' o s
  is_sort_same o s = ap (λ x. is_some_sort x s) (sort_same o)

  has_sort_same : (o : Option ℕ) (s : Option Sort) → has_sort m o s ≡ has_sort m' o s
  has_sort_same o None = refl
  has_sort_same o (Some s) = is_sort_same o s

  part_same : (o : Option ℕ) (k : ℕ) → part_typ m o k ≡ part_typ m' o k
  part_same o k = ap (part_some k) (typ_same o)

  pub payload_same : (o : Option ℕ) (k : ℕ) → payload_typ m o k ≡ payload_typ m' o k
  payload_same o k = ap (payload_some k) (typ_same o)

  item_is_same : (o : Option ℕ) (t : ValueType) → item_is m o t ≡ item_is m' o t
  item_is_same o (T.Bits w) = is_sort_same o S.Bit
  item_is_same o t = refl

  item_some_same : (o : Option ℕ) (t : Option ValueType) → item_some m o t ≡ item_some m' o t
  item_some_same o None = refl
  item_some_same o (Some t) = item_is_same o t

  item_same : (o whole : Option ℕ) → is_item m o whole ≡ is_item m' o whole
  item_same o whole = item_some_same o (typ_at m whole) ∙ ap (item_some m' o) (typ_same whole)

  pub alike_same : (a b : Option ℕ) → alike m a b ≡ alike m' a b
  alike_same a b = has_sort_same a (sort_at m b) ∙ ap (has_sort m' a) (sort_same b)

  compared_same : (a b : Option ℕ) → compared m a b ≡ compared m' a b
  compared_same a b = and_same (ap some_comparable (sort_same a)) (has_sort_same b (sort_at m a) ∙ ap (has_sort m' b) (sort_same a))

-- sources of two functions, each of the same type as the other's
abbrev pub Alike : Module → Module → Function → Function → List Source → List Source → Type 0
Alike m m' f f' [] [] = Unit {0}
Alike m m' f f' (a ∷ rs) (b ∷ us) = (source_typ m f a ≡ source_typ m' f' b) × Alike m m' f f' rs us
Alike m m' f f' rs us = ⊥

module _ (m m' : Module) (f f' : Function) where
  length_same : (rs us : List Source) → Alike m m' f f' rs us → length rs ≡ length us
  length_same [] [] h = refl
  length_same [] (b ∷ us) h = absurd h
  length_same (a ∷ rs) [] h = absurd h
  length_same (a ∷ rs) (b ∷ us) h = ap suc (length_same rs us h.1)

  operand_same : (rs us : List Source) → Alike m m' f f' rs us → (k : ℕ) → operand_typ m f rs k ≡ operand_typ m' f' us k
  operand_same [] [] h k = refl
  operand_same [] (b ∷ us) h k = absurd h
  operand_same (a ∷ rs) [] h k = absurd h
  operand_same (a ∷ rs) (b ∷ us) h zero = h.0
  operand_same (a ∷ rs) (b ∷ us) h (suc k) = operand_same rs us h.1 k

  each_same : (p q : ℕ → Source → Bool) → ((j : ℕ) (a b : Source) → source_typ m f a ≡ source_typ m' f' b → p j a ≡ q j b) → (rs us : List Source)
      → Alike m m' f f' rs us → (j : ℕ) → each p j rs ≡ each q j us
  each_same p q by [] [] h j = refl
  each_same p q by [] (b ∷ us) h j = absurd h
  each_same p q by (a ∷ rs) [] h j = absurd h
  each_same p q by (a ∷ rs) (b ∷ us) h j = and_same (by j a b h.0) (each_same p q by rs us h.1 (j + 1))

module _ (m m' : Module) (f f' : Function) (e : m.types ≡ m'.types) (rs us : List Source) (h : Alike m m' f f' rs us) where
  is_many : (k : ℕ) → nat_eq (length rs) k ≡ nat_eq (length us) k
  is_many k = ap (λ n. nat_eq n k) (length_same m m' f f' rs us h)

  operand : (k : ℕ) → operand_typ m f rs k ≡ operand_typ m' f' us k
  operand k = operand_same m m' f f' rs us h k

  sort_is : (k : ℕ) (s : Sort) → is_sort m (operand_typ m f rs k) s ≡ is_sort m' (operand_typ m' f' us k) s
  sort_is k s = is_sort_same m m' e (operand_typ m f rs k) s ∙ ap (λ o. is_sort m' o s) (operand k)

  is_the : (k : ℕ) (t : Option ℕ) → same (operand_typ m f rs k) t ≡ same (operand_typ m' f' us k) t
  is_the k t = ap (λ o. same o t) (operand k)

  taken : (sorts : List Sort) → all_taken m f sorts rs ≡ all_taken m' f' sorts us
  taken sorts =
      and_same (is_many (length sorts))
      (each_same m m' f f' (is_taken m f sorts) (is_taken m' f' sorts)
      (λ j a b q. has_sort_same m m' e (source_typ m f a) (slice_get sorts j) ∙ ap (λ o. has_sort m' o (slice_get sorts j)) q) rs us h 0)

  given : (ts : List ℕ) → all_given m f ts rs ≡ all_given m' f' ts us
  given ts =
      and_same (is_many (length ts))
      (each_same m m' f f' (is_given m f ts) (is_given m' f' ts) (λ j a b q. ap (λ o. same o (slice_get ts j)) q) rs us h 0)

  all_are : (t : ℕ) → all_of m f t rs ≡ all_of m' f' t us
  all_are t =
      each_same m m' f f' (λ k a. same (source_typ m f a) (Some t)) (λ k a. same (source_typ m' f' a) (Some t)) (λ j a b q. ap (λ o. same o (Some t)) q) rs us
      h 0

  make : (t : ValueType) → makes m f rs t ≡ makes m' f' us t
  make (T.Tuple ts) = given ts
  make (T.Struct i ts) = given ts
  make (T.Vector n t) = and_same (is_many n) (all_are t)
  make (T.List t) = all_are t
  make t = refl

  some_make : (t : Option ValueType) → some_makes m f rs t ≡ some_makes m' f' us t
  some_make None = refl
  some_make (Some t) = make t

  compare : compared m (operand_typ m f rs 0) (operand_typ m f rs 1) ≡ compared m' (operand_typ m' f' us 0) (operand_typ m' f' us 1)
  compare =
      compared_same m m' e (operand_typ m f rs 0) (operand_typ m f rs 1)
      ∙ (λ j. compared m' (operand 0 j) (operand 1 j))

  ends_are : between m f rs ≡ between m' f' us
  ends_are = and_same (sort_is 1 S.Integer) (sort_is 2 S.Integer)

  row_same : (row : Row) (t : Option ℕ) → builtin_typed m f row rs t ≡ builtin_typed m' f' row us t
  row_same B.Eq t = and_same (and_same (is_many 2) compare) (is_sort_same m m' e t S.Truth)
  row_same B.Neq t = and_same (and_same (is_many 2) compare) (is_sort_same m m' e t S.Truth)
  row_same B.Length t = and_same (and_same (is_many 1) (or_same (sort_is 0 S.Bits) (sort_is 0 S.Vector))) (is_sort_same m m' e t S.Integer)
  row_same B.VectorInit t =
      and_same (and_same (and_same (is_many 2) (sort_is 0 S.Integer)) (is_sort_same m m' e t S.Vector))
      (item_same m m' e (operand_typ m f rs 1) t ∙ ap (λ o. is_item m' o t) (operand 1))
  row_same row t = and_same (taken (takes row)) (is_sort_same m m' e t (gives row))

  pub operation_same : (op : Operation) (t : Option ℕ) → operation_typed m f op rs t ≡ operation_typed m' f' op us t
  operation_same (O.Builtin row) t = row_same row t
  operation_same O.Same t = and_same (is_many 1) (alike_same m m' e (operand_typ m f rs 0) t ∙ ap (λ o. alike m' o t) (operand 0))
  operation_same O.Build t = some_make (typ_at m t) ∙ ap (some_makes m' f' us) (typ_same m m' e t)
  operation_same (O.Construct k) t =
      and_same (is_many 1) (is_the 0 (payload_typ m t k) ∙ ap (same (operand_typ m' f' us 0)) (payload_same m m' e t k))
  operation_same (O.Field k) t =
      and_same (is_many 1) (ap (same t) (part_same m m' e (operand_typ m f rs 0) k ∙ ap (λ o. part_typ m' o k) (operand 0)))
  operation_same (O.WithField k) t =
      and_same (and_same (is_many 2) (is_the 0 t)) (is_the 1 (part_typ m t k) ∙ ap (same (operand_typ m' f' us 1)) (part_same m m' e t k))
  operation_same O.Item t =
      and_same (and_same (is_many 2) (item_same m m' e t (operand_typ m f rs 0) ∙ ap (is_item m' t) (operand 0))) (sort_is 1 S.Integer)
  operation_same O.WithItem t =
      and_same (and_same (and_same (is_many 3) (is_the 0 t)) (sort_is 1 S.Integer))
      (item_same m m' e (operand_typ m f rs 2) t ∙ ap (λ o. is_item m' o t) (operand 2))
  operation_same O.Slice t = and_same (and_same (and_same (is_many 3) (sort_is 0 S.Bits)) ends_are) (is_sort_same m m' e t S.Bits)
  operation_same O.WithSlice t =
      and_same (and_same (and_same (and_same (is_many 4) (is_the 0 t)) ends_are) (sort_is 3 S.Bits)) (is_sort_same m m' e t S.Bits)
  operation_same O.Cons t =
      and_same (and_same (and_same (is_many 2) (item_same m m' e (operand_typ m f rs 0) t ∙ ap (λ o. is_item m' o t) (operand 0))) (is_the 1 t))
      (is_sort_same m m' e t S.List)
  operation_same O.Rest t = and_same (and_same (is_many 1) (is_the 0 t)) (is_sort_same m m' e t S.List)
  operation_same O.IsEmpty t = and_same (and_same (is_many 1) (sort_is 0 S.List)) (is_sort_same m m' e t S.Truth)
