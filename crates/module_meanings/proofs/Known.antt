-- The types that have a number in the module of a model.
use Rattle.std.proofs.Common.{◌≡◌, ◌∙◌, ℕ, zero, suc, ℤ, pos, ◌+ℤ◌, Bool, true, false, List, [], ◌∷◌, ◌++◌, map, Option, Some, None, refl, sym, ap, subst}
use Rattle.std.proofs.Common.{arith, if◌then◌else◌}
use Rattle.std.proofs.lemmas.Int.{ints}
use Rattle.std.specs.Prelude.{◌&&◌, slice_get}
use Rattle.std.proofs.lemmas.Bool.{and_parts}
use Rattle.value_laws.proofs.Basics.{two}
use Rattle.sail_types.specs.Limits.{is_small}
use Rattle.sail_types.specs.Sums.{constant}
use Rattle.sail_types.specs.declared.numbers.Atom.TheFolds.{fold-roll-Num}
use Rattle.sail_types.specs.declared.table.Types.{Types}
use Rattle.sail_types.specs.declared.types.Typ.TheFolds.{fold-roll-Typ}
use Rattle.sail_types.specs.declared.types.Typ.TheOpen as T
use Rattle.sail_types.specs.declared.types.Typ.TheVariants as Y
use Rattle.sail_types.specs.declared.table.Field.{Field}
use Rattle.sail_types.specs.Named.{fields}
use Rattle.sail_core.specs.Values.{bits_typ}
use Rattle.sail_core.specs.declared.model.CoreModel.{CoreModel}
use Rattle.size_values.specs.Numbers.{argument_of, at_most_largest, atom_free, atom_value, constant_under, small, sum_free, sum_value, term_free, term_value}
use Rattle.size_values.specs.Numbers.{unless_free}
use Rattle.size_values.specs.Sized.{UnderConstants, form_sized, integer_of, typ_sized}
use Rattle.size_values.specs.declared.constants.Constant.{Constant}
use Rattle.size_values.specs.declared.sized.Sized.{Sized, Sized-F, out-Sized}
use Rattle.size_values.specs.declared.sized.Sized.TheOpen as Z
use Rattle.size_values.specs.declared.sized.Sized.TheVariants as S
use Rattle.size_values.specs.declared.sized.Sized.TheViews.{out-roll-Sized}
use Rattle.checked_meaning.specs.Items.{Item, fixed_typ, typs}
use Rattle.sized_nodes.specs.declared.trees.Case.{Case}
use Rattle.sized_nodes.specs.declared.trees.NodeSizes.{NodeSizes}
use Rattle.sized_nodes.specs.declared.trees.NodeSizes.TheVariants as N
use Rattle.sized_nodes.specs.declared.trees.SizedCore.{SizedCore}
use Rattle.sized_nodes.specs.declared.trees.SizedInstance.{SizedInstance}
use Rattle.sized_nodes.specs.declared.trees.Told.{Told}
use Rattle.sized_meanings.specs.Sized.{joined_nodes}
use Rattle.jib.specs.declared.code.Module.{Module}
use Rattle.lowered_types.specs.Laws.{PartsOf, field_types, is_named}
use Rattle.lowered_types.specs.Laws as L
use Rattle.lowered_types.specs.Table.{TypesStand, all_known, is_known}
use Rattle.lowered_types.proofs.Standing.{parts_known}
use Rattle.lowered_validity.specs.Laws.{sizes_small}
use Rattle.lowered_pieces.specs.Arms.{is_union}
use Rattle.lowered_pieces.specs.Fields.{field_types_of}
use Rattle.lowered_pieces.specs.Fields as P
use Rattle.lowered_pieces.specs.Nodes.{all_plain, only_type, plain_cases, plain_told, told_as}
use Rattle.lowered_laws.specs.TablesTelling.{cases_known}
use Rattle.lowered_laws.specs.TablesTelling as C
use Rattle.lowered_laws.specs.Simulation.{AllHad, Knows}
use Rattle.lowered_laws.specs.KnownLaws.{AllHave}
use Rattle.jib_lower.specs.Lowered.{FlatFrom}
use Rattle.jib_lower.specs.Types.{all_in_bodies, all_in_cases, all_in_instances, all_in_leads, all_in_nodes, all_in_told, in_signature}
use Rattle.jib_lower.proofs.Basics.{integer_typ, nothing_typ, truth_typ}
use Rattle.jib_lower.proofs.Placing.{basics, small_known}

no : {X : Type 0} → false ≡ true → X
no e = cc

none : {A X : Type 0} (x : A) → None ≡ Some x → X
none x e = cc

some_same : {A : Type 0} (x y : A) → Some x ≡ Some y → x ≡ y
some_same x y e = cc

-- ---- words of a constant width

plus_zero : (z : ℤ) → pos 0 +ℤ z ≡ z
plus_zero z = omega (arith, ints)

constant_at : (of : ℕ → Constant) (z : ℤ) → constant_under of (constant z) ≡ unless_free of None (sum_value (record { terms = []; constant = z }))
constant_at of z = λ j. unless_free of
    (fold-roll-Num (Option ℕ) (Option ℕ) (Option ℕ) (atom_free of) sum_free term_free (record { terms = []; constant = z }) j)
    (fold-roll-Num (Option ℤ) (Option ℤ) (Option ℤ) (atom_value of) sum_value term_value (record { terms = []; constant = z }) j)

fixed_bits : (types : Types) (n : ℕ) → is_small (pos n) ≡ true → fixed_typ types (bits_typ n) ≡ S.Bits (pos n)
fixed_bits types n h =
    ap (λ t. typ_sized types [] t []) (sym (Y.rolls-Bits (constant (pos n))))
    ∙ ap (λ (f : UnderConstants). f []) (fold-roll-Typ UnderConstants (form_sized types []) (T.Bits (constant (pos n))))
    ∙ ap (λ (c : Constant). S.Bits (integer_of c)) (constant_at (argument_of []) (pos n))
    ∙ ap (λ (z : ℤ). S.Bits (at_most_largest (small z))) (plus_zero (pos n))
    ∙ ap (λ (b : Bool). S.Bits (at_most_largest (if b then Some (pos n) else None))) h

out_bits : (n : ℕ) → out-Sized (S.Bits (pos n)) ≡ Z.Bits (pos n)
out_bits n = ap out-Sized (sym (S.rolls-Bits (pos n))) ∙ out-roll-Sized (Z.Bits (pos n))

-- ---- parts of types

module _ (types : Types) (ss : List Sized) where
  under_same : (zs : List (Option ℤ)) (ts : List Sized) (o : Option (List Field)) → L.types_under types zs ts o ≡ P.types_under types zs ts o
  under_same zs ts None = refl
  under_same zs ts (Some fs) = refl

  fields_same : (z : Sized-F Sized) → field_types types z ≡ field_types_of types z
  fields_same (Z.Named u zs ts) = under_same zs ts (fields types u)
  fields_same z = refl

  named_same : (u : ℕ) (z : Sized-F Sized) → is_union u z ≡ is_named u z
  named_same u (Z.Named v zs ts) = refl
  named_same u z = refl

  known_same : (ts : List Sized) → P.all_known (is_known ss) ts ≡ all_known ss ts
  known_same [] = refl
  known_same (t ∷ ts) = ap (λ b. is_known ss t && b) (known_same ts)

-- ---- of all that a body says

module _ (ss : List Sized) where
  cases_there : (cs : List Case) → all_in_cases ss cs ≡ true → cases_known (is_known ss) cs ≡ true
  cases_there [] h = refl
  cases_there (c ∷ cs) h =
      let both = and_parts (all_known ss c.takes) (is_known ss c.gives && all_in_cases ss cs) h in
      let more = and_parts (is_known ss c.gives) (all_in_cases ss cs) both.1 in
      two (is_known ss c.gives) (cases_known (is_known ss) cs) more.0 (cases_there cs more.1)

  nodes_there : (nodes : List NodeSizes) → all_in_nodes ss nodes ≡ true → C.all_known (is_known ss) nodes ≡ true
  nodes_there [] h = refl
  nodes_there (N.Makes k i cs ∷ nodes) h =
      let both = and_parts (all_in_cases ss cs) (all_in_nodes ss nodes) h in
      two (cases_known (is_known ss) cs) (C.all_known (is_known ss) nodes) (cases_there cs both.0) (nodes_there nodes both.1)
  nodes_there (N.Calls k xs ∷ nodes) h = nodes_there nodes (and_parts (all_in_leads ss xs) (all_in_nodes ss nodes) h).1
  nodes_there (N.Gives g is ∷ nodes) h = nodes_there nodes h

  nodes_both : (ns ms : List NodeSizes) → all_in_nodes ss ns ≡ true → all_in_nodes ss ms ≡ true → all_in_nodes ss (ns ++ ms) ≡ true
  nodes_both [] ms h k = k
  nodes_both (N.Makes j i cs ∷ ns) ms h k =
      let both = and_parts (all_in_cases ss cs) (all_in_nodes ss ns) h in
      two (all_in_cases ss cs) (all_in_nodes ss (ns ++ ms)) both.0 (nodes_both ns ms both.1 k)
  nodes_both (N.Calls j xs ∷ ns) ms h k =
      let both = and_parts (all_in_leads ss xs) (all_in_nodes ss ns) h in
      two (all_in_leads ss xs) (all_in_nodes ss (ns ++ ms)) both.0 (nodes_both ns ms both.1 k)
  nodes_both (N.Gives g is ∷ ns) ms h k = nodes_both ns ms h k

  joined_there : (bodies : List (List NodeSizes)) → all_in_bodies ss bodies ≡ true → all_in_nodes ss (joined_nodes bodies) ≡ true
  joined_there [] h = refl
  joined_there (b ∷ bs) h =
      let both = and_parts (all_in_nodes ss b) (all_in_bodies ss bs) h in
      nodes_both b (joined_nodes bs) both.0 (joined_there bs both.1)

  pub bodies_there : (bodies : List (List NodeSizes)) → all_in_bodies ss bodies ≡ true → C.all_known (is_known ss) (joined_nodes bodies) ≡ true
  bodies_there bodies h = nodes_there (joined_nodes bodies) (joined_there bodies h)

  pub body_there : (bodies : List (List NodeSizes)) (i : ℕ) (nodes : List NodeSizes) → all_in_bodies ss bodies ≡ true → slice_get bodies i ≡ Some nodes
      → all_in_bodies ss (nodes ∷ []) ≡ true
  body_there [] i nodes h e = none nodes e
  body_there (b ∷ bs) zero nodes h e =
      two (all_in_nodes ss nodes) true
      (subst (λ ns. all_in_nodes ss ns ≡ true) (some_same b nodes e) (and_parts (all_in_nodes ss b) (all_in_bodies ss bs) h).0) refl
  body_there (b ∷ bs) (suc i) nodes h e = body_there bs i nodes (and_parts (all_in_nodes ss b) (all_in_bodies ss bs) h).1 e

  pub instance_there : (xs : List SizedInstance) (p : ℕ) (y : SizedInstance) → all_in_instances ss xs ≡ true → slice_get xs p ≡ Some y
      → (in_signature ss y.signature ≡ true) × (all_in_bodies ss y.bodies ≡ true)
  instance_there [] p y h e = none y e
  instance_there (x ∷ xs) zero y h e =
      let both = and_parts (in_signature ss x.signature) (all_in_bodies ss x.bodies && all_in_instances ss xs) h in
      subst (λ (z : SizedInstance). (in_signature ss z.signature ≡ true) × (all_in_bodies ss z.bodies ≡ true)) (some_same x y e)
      (both.0, (and_parts (all_in_bodies ss x.bodies) (all_in_instances ss xs) both.1).0)
  instance_there (x ∷ xs) (suc p) y h e =
      let both = and_parts (in_signature ss x.signature) (all_in_bodies ss x.bodies && all_in_instances ss xs) h in
      instance_there xs p y (and_parts (all_in_bodies ss x.bodies) (all_in_instances ss xs) both.1).1 e

  -- ---- arguments

  type_there : (cs : List Case) → plain_cases cs ≡ true → all_in_cases ss cs ≡ true → is_known ss (only_type cs) ≡ true
  type_there [] p h = no p
  type_there (c ∷ []) p h =
      (and_parts (is_known ss c.gives) true (and_parts (all_known ss c.takes) (is_known ss c.gives && true) h).1).0
  type_there (c ∷ d ∷ cs) p h = no p

  first_same : (x y : Sized) (xs ys : List Sized) → x ∷ xs ≡ y ∷ ys → x ≡ y
  first_same x y xs ys e = cc

  rest_same : (x y : Sized) (xs ys : List Sized) → x ∷ xs ≡ y ∷ ys → xs ≡ ys
  rest_same x y xs ys e = cc

  more_than : {X : Type 0} (x : Sized) (xs : List Sized) → x ∷ xs ≡ [] → X
  more_than x xs e = cc

  less_than : {X : Type 0} (x : Sized) (xs : List Sized) → [] ≡ x ∷ xs → X
  less_than x xs e = cc

  pub all_had : (types : Types) (xs : List Item) (ts : List Told) → all_plain ts ≡ true → all_in_told ss ts ≡ true → typs xs ≡ map told_as ts
      → AllHave types xs → AllHad types (is_known ss) xs
  all_had types [] ts p h e a = tt
  all_had types (x ∷ xs) [] p h e a = more_than x.typ (typs xs) e
  all_had types (x ∷ xs) (t ∷ ts) p h e a =
      let plain = and_parts (plain_told t) (all_plain ts) p in
      let there = and_parts (all_in_cases ss t.cases) (all_in_told ss ts) h in
      let same : x.typ ≡ told_as t = first_same x.typ (told_as t) (typs xs) (map told_as ts) e in (
        (a.0, subst (λ s. is_known ss s ≡ true) (sym same) (type_there t.cases plain.0 there.0)),
        all_had types xs ts plain.1 there.1 (rest_same x.typ (told_as t) (typs xs) (map told_as ts) e) a.1,
      )

-- ---- the types that the module has

module _ (core : CoreModel) (sized : SizedCore) (m : Module) (low : FlatFrom core sized m) where
  abbrev ss : List Sized
  ss = low.table.numbered

  pub stands : TypesStand core.types ss m.types
  stands = subst (λ vts. TypesStand core.types ss vts) (sym low.types) low.stands.each

  small_bits : (n : ℕ) → is_known ss (S.Bits (pos n)) ≡ true → is_small (pos n) ≡ true
  small_bits n k = subst (λ z. sizes_small z ≡ true) (out_bits n) (small_known ss (S.Bits (pos n)) low.small k)

  pub knows : Knows core.types (is_known ss)
  knows =
      let parts : PartsOf core.types ss = parts_known core.types ss m.types stands in
      let b = basics core sized m low in
      record {
        unit = ap (is_known ss) (nothing_typ core.types) ∙ b.0;
        truth = ap (is_known ss) (truth_typ core.types) ∙ b.1;
        integer = ap (is_known ss) (integer_typ core.types) ∙ b.2;
        of_tuple = parts.of_tuple;
        of_items = parts.of_items;
        of_bits = λ t n k le. (low.bits t n k le, fixed_bits core.types n (small_bits n (low.bits t n k le)));
        of_fields = λ t k. known_same core.types ss (field_types_of core.types (out-Sized t))
            ∙ ap (all_known ss) (sym (fields_same core.types ss (out-Sized t))) ∙ parts.of_fields t k;
        of_union = λ u c t is k. parts.of_union u c t (sym (named_same core.types ss u (out-Sized t)) ∙ is) k;
      }
