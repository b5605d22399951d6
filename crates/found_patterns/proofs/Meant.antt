-- What can be named in a world: members that their enums have, and constructors over as many parts as they take.
use Rattle.std.proofs.Common.{◌≡◌, ℕ, nat_eq, nat_lt, true, ◌&&◌, [], ◌∷◌, map, length, Option, Some, ap, sym, ◌∙◌, refl, subst}
use Rattle.std.specs.List.{list_all}
use Rattle.std.proofs.lemmas.Bool.{and_parts}
use Rattle.sail_types.specs.Named.{members}
use Rattle.sail_types.specs.Shapes.{fits, form_fits, shape}
use Rattle.sail_types.specs.declared.shapes.Shape.{out-Shape}
use Rattle.sail_types.specs.declared.shapes.Shape.TheOpen as S
use Rattle.sail_types.specs.declared.shapes.Shape.TheVariants as V
use Rattle.sail_types.specs.declared.shapes.Shape.TheViews.{out-roll-Shape}
use Rattle.sail_types.specs.declared.table.Types.{Types}
use Rattle.sail_types.specs.declared.types.Typ.{Typ, Typ-F, out-Typ}
use Rattle.sail_types.specs.declared.types.Typ.TheOpen as T
use Rattle.sail_types.specs.declared.values.Value.TheOpen as W
use Rattle.sail_types.specs.declared.values.Value.TheVariants as Val
use Rattle.sail_core.specs.declared.tree.Callee.TheVariants as C
use Rattle.sail_names.specs.declared.names.Global.{Global}
use Rattle.sail_names.specs.declared.names.Global.TheVariants as G
use Rattle.sail_names.specs.Known.{is_global_construction}
use Rattle.sail_cycles.specs.Callees.{mappings_of_global}
use Rattle.shape_joins.proofs.Order.{no}
use Rattle.shape_rules.specs.declared.callees.Candidate.{Candidate}
use Rattle.shape_rules.specs.declared.callees.Doing.TheVariants as D
use Rattle.shape_rules.specs.declared.callees.Mapping.{Mapping}
use Rattle.shape_rules.specs.declared.callees.Meant.{Meant}
use Rattle.shape_rules.specs.declared.callees.Meant.TheVariants as M
use Rattle.shape_rules.specs.Calls.{parameters_form}
use Rattle.shape_meanings.specs.Keeping.{Fits}
use Rattle.shape_meanings.specs.Naming.{MeantAs, is_conversion}
use Rattle.shape_meanings.specs.Whole.{Choice}
use Rattle.shape_meanings.specs.Worlds.{IsConstructor, is_payload_form}
use Rattle.shape_meanings.proofs.Constructing.{named_puts}
use Rattle.shape_meanings.proofs.Opening.{mapped_count}
use Rattle.shape_meanings.proofs.Values.{fits_form}
use Rattle.shape_stands.specs.Inside.{HeadDoes, MeantHead, Position}
use Rattle.pattern_laws.specs.Standing.{constructor_stands, is_size, payload_stands, size_of, union_stands}
use Rattle.found_patterns.specs.Laws.{NamesAreThere}
use Rattle.found_patterns.proofs.Looks.{itself}

-- ---- members

member_below : (types : Types) (i k : ℕ) (c : Choice) → Fits types c (V.Named i []) (Val.Member i k) → nat_lt k (length (members types i)) ≡ true
member_below types i k c h =
    let plain : fits types (Val.Member i k) (V.Named i []) ≡ true = subst (λ t. fits types (Val.Member i k) t ≡ true) (named_puts c i []) h in
    let out : out-Shape (V.Named i []) ≡ S.Named i [] = ap out-Shape (sym (V.rolls-Named i [])) ∙ out-roll-Shape (S.Named i []) in
    let so : (nat_eq i i && nat_lt k (length (members types i))) ≡ true =
    sym (ap (form_fits types (W.Member i k)) out) ∙ sym (fits_form types (W.Member i k) (V.Named i []))
    ∙ ap (λ v. fits types v (V.Named i [])) (Val.rolls-Member i k) ∙ plain in
    (and_parts (nat_eq i i) (nat_lt k (length (members types i))) so).1

-- ---- constructors

payload_counts : (t : Typ) (form : Typ-F Typ) → out-Typ t ≡ form → is_payload_form form ≡ true
    → payload_stands (length (map shape (parameters_form t form))) t ≡ true
payload_counts t (T.Tuple []) is several = no several
payload_counts t (T.Tuple (a ∷ [])) is several = no several
payload_counts t (T.Tuple (a ∷ b ∷ ts)) is several =
    let many : ℕ = length (map shape (a ∷ b ∷ ts)) in
    ap (λ form. is_size many (size_of form)) is ∙ ap (λ n. nat_eq n many) (sym (mapped_count shape (a ∷ b ∷ ts))) ∙ itself many
payload_counts t form is several = refl

pub constructor_there : (types : Types) (f : Candidate) (u k : ℕ) → IsConstructor types f u k → constructor_stands types u k (length f.params) ≡ true
constructor_there types f u k made =
    ap (union_stands (length f.params)) made.there
    ∙ ap (λ ss. payload_stands (length ss) made.typ) made.params
    ∙ payload_counts made.typ (out-Typ made.typ) refl made.several

-- a name of a constructor is one of no mapping
callee_same : (f g : Candidate) → Some (M.Callee f) ≡ Some (M.Callee g) → f ≡ g
callee_same f g e = cc

converts_none : (f : Candidate) (u k : ℕ) → f.doing ≡ D.Calls (C.Constructor u k) → is_conversion f.doing ≡ true → ⊥
converts_none f u k does h = no (sym (ap is_conversion does) ∙ h)

module _ (here : Position) (f : Candidate) (u k : ℕ) (does : f.doing ≡ D.Calls (C.Constructor u k)) where
  no_mapping : (o : Option Global) (meant : Option Meant) → MeantAs here.names o meant → meant ≡ Some (M.Callee f)
      → is_global_construction here.names.allowed o ≡ true → list_all here.converts (mappings_of_global o) ≡ true
  no_mapping (Some G.Constructor) meant known is h = refl
  no_mapping (Some (G.Mapping n)) meant known is h = let m = known h in absurd (other m.0 (sym m.1 ∙ is))
    where
      other : (m : Mapping) → Some (M.Mapping m) ≡ Some (M.Callee f) → ⊥
      other m e = cc
  no_mapping (Some (G.Direction n)) meant known is h =
      let m = known h in
      absurd (converts_none f u k does (subst (λ g. is_conversion g.doing ≡ true) (callee_same m.0 f (sym m.1 ∙ is)) m.2))
  no_mapping o meant known is h = no h

pub names_there : NamesAreThere
names_there here registers c w known inside = record {
  members = λ name e k is. member_below here.setting.types e k c (inside.members name e k is).1;
  constructors = λ name f u k constructs is does.
      let plain = no_mapping here f u k does (here.names.known.value name) (here.setting.value name) (known.values name) is constructs in
      let head : HeadDoes here registers c w f f.doing = subst (MeantHead here registers c w) is (inside.heads name constructs plain) in
      let made : HeadDoes here registers c w f (D.Calls (C.Constructor u k)) = subst (HeadDoes here registers c w f) does head in
      constructor_there here.setting.types f u k made.0;
}
