-- Constructors as nodes, on as many arguments as their payload has parts.
use Rattle.std.proofs.Common.{◌≡◌, ℕ, ◌<◌, Bool, false, true, List, [], ◌∷◌, length, map, slice_get, Option, Some, None, refl, sym, subst, arith}
use Rattle.std.proofs.Common.{if◌then◌else◌, nat_eq}
use Rattle.sail_base.specs.declared.place.Place.{Place}
use Rattle.sail_types.specs.Belongs.{Readings as Closeds, assigned, belongs, reading}
use Rattle.sail_types.specs.Numbers.{Assignment}
use Rattle.sail_types.specs.declared.table.Parameter.{Parameter}
use Rattle.sail_types.specs.declared.table.Types.{Types}
use Rattle.sail_types.specs.declared.types.Typ.{Typ}
use Rattle.sail_types.specs.declared.values.Value.{Value}
use Rattle.sail_types.specs.declared.values.Value.TheVariants as V
use Rattle.sail_core.specs.Making.{World}
use Rattle.sail_core.specs.Meaning.{kind_meaning}
use Rattle.sail_core.specs.Run.{Run, gives, in_turn, ◌then◌}
use Rattle.sail_core.specs.Values.{payload_of}
use Rattle.sail_core.specs.declared.tree.Callee.TheVariants as D
use Rattle.sail_core.specs.declared.tree.Kind.TheVariants as K
use Rattle.value_indices.specs.declared.indices.Indices.{Indices}
use Rattle.value_indices.specs.declared.indices.Indices.TheVariants as I
use Rattle.value_indices.specs.declared.indices.Reading.{Reading}
use Rattle.value_indices.specs.declared.notes.Fact.{Fact}
use Rattle.wide_types.specs.Widening.{parameters_of}
use Rattle.pattern_leaves.specs.Settings.{Scope}
use Rattle.call_arguments.specs.Callees.{payload_types, type_parameters, types_from, types_or}
use Rattle.call_arguments.specs.Aims.{of_wanted, type_arguments, wanted}
use Rattle.call_arguments.specs.declared.aims.Aim.{Aim}
use Rattle.call_notes.specs.Noted.{node_ended}
use Rattle.expression_steps.specs.Calls.{constructed, constructor_types, known_arguments, part_aims, places_of, so_many}
use Rattle.expression_steps.specs.Expressions.{kind_walk}
use Rattle.expression_steps.specs.Parts.{Part, each_walk}
use Rattle.checked_meaning.specs.Checked.{checked}
use Rattle.checked_meaning.specs.Items.{Item, vals}
use Rattle.value_laws.specs.Belonging.{closed, closeds, standing}
use Rattle.value_laws.specs.Known.{Point}
use Rattle.soundness_steps.specs.Works.{Scene, here}
use Rattle.soundness_steps.specs.Steps.{Beside}
use Rattle.soundness_steps.specs.Values.{AimSteady, Comes, Is}
use Rattle.soundness_steps.proofs.Steps.{binds, walks_then}
use Rattle.soundness_forms.specs.Forms.{AllFine, FitsSuffice}
use Rattle.soundness_forms.specs.Worlds.{Surrounds}
use Rattle.soundness_forms.proofs.Basics.{aim_on}
use Rattle.soundness_forms.proofs.Nodes.{node_ends, typed_on}
use Rattle.soundness_forms.proofs.Parts.{EachIs, all_have, are_typed, each_fine}
use Rattle.soundness_values.proofs.Narrowed.{AllNarrow, NoneAlone}
use Rattle.soundness_values.proofs.Dues.{parts_aimed, parts_due, parts_long, taken_as, types_long}
use Rattle.soundness_values.proofs.Made.{parts_node}
use Rattle.soundness_values.proofs.NamedWalks.{named_has, named_walks}
use Rattle.soundness_values.proofs.Seen.{KnownWanted, known_steady}
use Rattle.soundness_values.proofs.Stands.{ConstructorStands, known_count}
use Rattle.soundness_values.proofs.Unions.{AllOfTypes, payload_made, union_has}

module _ (types : Types) (mu : Assignment) (rs : Closeds) (t : Typ) where
  payload_is : NoneAlone t → (n : ℕ) (vs : List Value) → n ≡ length vs → 0 < n → AllOfTypes types mu rs (payload_types n (Some t)) vs
      → belongs types (payload_of vs) (reading t mu rs) ≡ true
  payload_is none n [] e l h = absurd (omega (arith, e, l))
  payload_is none n (v ∷ vs) e l h =
      payload_made types mu rs t none v vs (subst (λ k. AllOfTypes types mu rs (payload_types k (Some t)) (v ∷ vs)) e h)

known_long : (m : ℕ) (o : Option (List Reading)) (count : ℕ) (ts : List Typ) (is : List Indices) → ((rs : List Reading) → o ≡ Some rs → length rs ≡ count)
    → length (types_or o (types_from m 0 count ts is)) ≡ count
known_long m None count ts is h = types_long m 0 count ts is
known_long m (Some rs) count ts is h = h rs refl

-- those that are as many as the union's are still wanted
many_wanted : (q : Scene) {n : ℕ} (f : Point n) (count : ℕ) (o : Option (List Reading)) → KnownWanted q.set q.work f o
    → KnownWanted q.set q.work f (so_many count o)
many_wanted q f count None h = tt
many_wanted q f count (Some rs) h = by (nat_eq (length rs) count)
  where
    by : (b : Bool) → KnownWanted q.set q.work f (if b then Some rs else None)
    by true = h
    by false = tt

module _ (fit : FitsSuffice) (q : Scene) (w : World Item) (scope : Scope) (place : Place) (k u c : ℕ) (ps : List Part)
    (stands : ConstructorStands q u c ps) (aim : Aim) where
  abbrev ts : List Typ
  ts = constructor_types (here q) u c (length ps)

  abbrev parameters : List Parameter
  parameters = parameters_of (slice_get q.set.around.types.definitions u)

  abbrev known : Option (List Reading)
  known = known_arguments (here q) u aim

  known_wanted : {n : ℕ} (f : Point n) → AimSteady q.set q.work f aim → KnownWanted q.set q.work f known
  known_wanted f st =
      many_wanted q f (type_parameters parameters) (of_wanted None type_arguments (wanted aim)) (known_steady q.set q.work f aim st)

  constructor_ends : {n : ℕ} {f : Point n} {facts : List Fact} (is : List Indices) (xs : List Item) → KnownWanted q.set q.work f known
      → EachIs q.set q.work f ps (part_aims known ts) is xs
      → Beside q n f facts (constructed (here q) k u c ps aim is) ((checked q.set.around.types q.cases).make k xs (V.Union u c (payload_of (vals xs))))
      (λ m g i x. Is q.set q.work g i x)
  constructor_ends {n} {f} {facts} is xs fixed e =
      let qs = types_or known (types_from n 0 (type_parameters parameters) ts is) in
      let have = all_have q.set q.work f ps (part_aims known ts) is xs e in
      let typed = are_typed q.set q.work f ps (part_aims known ts) is xs e in
      let due = parts_due q.set q.work f known ps ts is xs stands.parts e in
      walks_then (node_ended k is)
      (named_walks fit q f u parameters (places_of ps) known ts is (vals xs) due.1 have due.0
      (subst (λ count. AllNarrow count ts) (sym (known_long n known (type_parameters parameters) ts is
      (known_count (type_parameters parameters) (of_wanted None type_arguments (wanted aim))))) stands.narrow)
      fixed) (λ m g fs i l h.
      let mu = standing q.set.past g.integers in
      let cs : Closeds = closeds (map (closed q.set.around.types mu q.work.types) qs) in
      let value = V.Union u c (payload_of (vals xs)) in
      let belongs_it = payload_is q.set.around.types (assigned mu h.numbers) cs stands.of_payload stands.none_alone (length ps) (vals xs)
      (parts_long q.set q.work f known ps (part_aims known ts) is xs e) stands.some
      (subst (λ o. AllOfTypes q.set.around.types (assigned mu h.numbers) cs (payload_types (length ps) o) (vals xs)) stands.is_payload h.belong) in
      subst (λ j. Beside q m g fs (node_ended k is j) ((checked q.set.around.types q.cases).make k xs value) (λ m2 d j2 y. Is q.set q.work d j2 y))
      (sym h.is_it)
      (node_ends k is (I.Named u h.numbers qs) xs value (typed_on q.set q.work is xs l typed)
      (named_has q.set q.work g u h.numbers qs value h.indices_stay h.types_stay
      (union_has q.set.around.types mu q.work.types u c h.numbers qs (payload_of (vals xs)) stands.of_payload stands.is_payload belongs_it))))

  pub constructor_fine : {n : ℕ} (f : Point n) (facts : List Fact) → Surrounds q w f scope → AimSteady q.set q.work f aim → (rs : List (Run Item Item))
      → AllFine q w ps rs
      → Beside q n f facts (kind_walk place k (K.Call (D.Constructor u c)) ps (here q) scope aim)
      (kind_meaning (checked q.set.around.types q.cases) w place k (K.Call (D.Constructor u c)) rs)
      (λ m g i x. Comes q.set q.work g false false false aim i x)
  constructor_fine {n} f facts there st rs fine =
      parts_node fit place k aim (in_turn rs) (λ xs. gives (V.Union u c (payload_of (vals xs)))) st
      (binds (constructed (here q) k u c ps aim)
      (λ xs. gives (V.Union u c (payload_of (vals xs))) then λ v. (checked q.set.around.types q.cases).make k xs v)
      (subst (λ ys. Beside q n f facts (each_walk ys (here q) scope (part_aims known ts)) (in_turn rs)
      (λ m g is xs. EachIs q.set q.work g ps (part_aims known ts) is xs)) (sym (taken_as ps ts stands.parts))
      (each_fine q w scope ps rs fine (part_aims known ts) there (parts_aimed q.set q.work f known (known_wanted f st) ts)))
      (λ m g fs is xs l e. constructor_ends is xs (known_wanted g (aim_on q.set q.work aim l st)) e))
