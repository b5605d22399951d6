-- Where casts without a type and guards stand in a core: a branch ends in such a cast, the body of a case in one that may stand behind a guard, and
-- no value that another node is made of is one. Literals are within the limits of their types, and nodes have as many parts as their definitions ask.
use Rattle.std.specs.Prelude.{ℕ, zero, suc, nat_eq, nat_lt, Bool, true, false, not, ◌&&◌, List, [], ◌∷◌, length, Option, Some, None, slice_get}
use Rattle.std.specs.List.{list_all, list_any}
use Rattle.sail_types.specs.Limits.{is_small, is_width}
use Rattle.sail_types.specs.Named.{fields, members, payload}
use Rattle.sail_types.specs.declared.table.Field.{Field}
use Rattle.sail_types.specs.declared.table.Types.{Types}
use Rattle.sail_types.specs.declared.types.Typ.{Typ}
use Rattle.sail_core.specs.declared.model.Function.{Function}
use Rattle.sail_core.specs.declared.patterns.Literal.{Literal}
use Rattle.sail_core.specs.declared.patterns.Literal.TheVariants as L
use Rattle.sail_core.specs.declared.tree.Callee.{Callee}
use Rattle.sail_core.specs.declared.tree.Callee.TheVariants as C
use Rattle.sail_core.specs.declared.tree.Core.{Core, Core-F, fold-Core}
use Rattle.sail_core.specs.declared.tree.Kind.{Kind}
use Rattle.sail_core.specs.declared.tree.Kind.TheVariants as K
use Rattle.sail_core.specs.declared.tree.Statement.{Statement}
use Rattle.pattern_leaves.specs.Settings.{Around}
use Rattle.call_arguments.specs.Callees.{payload_types}

-- a node: whether it is such a cast, maybe behind a guard, whether it is a guard, and whether all inside it stands right
pub record Standing : Type 0 where
  pub cast : Bool
  pub guard : Bool
  pub right : Bool

abbrev pub is_cast : Kind → Bool
is_cast (K.Cast None) = true
is_cast K.When = true
is_cast kind = false

abbrev pub is_guard : Kind → Bool
is_guard K.When = true
is_guard kind = false

-- a value that a node is made of, one that is bound or leaves, the end of a branch, the body of a case
abbrev pub is_value : Standing → Bool
is_value p = (p.right && not p.cast) && not p.guard

abbrev pub is_bound : Standing → Bool
is_bound p = p.right && not p.guard

abbrev pub is_branch : Standing → Bool
is_branch p = (p.right && p.cast) && not p.guard

abbrev pub is_body : Standing → Bool
is_body p = p.right && p.cast

abbrev pub are_statements : List Standing → Bool
are_statements [] = true
are_statements (p ∷ []) = is_value p
are_statements (p ∷ ps) = is_bound p && are_statements ps

-- a literal within the limits of its type
abbrev pub literal_right : Types → Literal → Bool
literal_right types (L.Integer z) = is_small z
literal_right types (L.Bits bits) = is_width (length bits)
literal_right types (L.Member e k) = nat_lt k (length (members types e))
literal_right types literal = true

-- a block: what its statements evaluate or bind, and its value, where it has one
abbrev pub block_right : List Statement → List Standing → Bool
block_right [] [] = true
block_right [] (p ∷ []) = is_value p
block_right (s ∷ ss) (p ∷ ps) = is_bound p && block_right ss ps
block_right ss ps = false

-- ---- what a kind asks of its definition

-- an argument for each parameter of a function, if there is one
abbrev pub has_arguments : ℕ → Option Function → Bool
has_arguments n None = true
has_arguments n (Some f) = nat_eq n (length f.parameters)

-- one for each part of a constructor's payload, and one at least
abbrev pub has_payload : ℕ → Option Typ → Bool
has_payload n None = false
has_payload n (Some t) = nat_lt 0 n && nat_eq n (length (payload_types n (Some t)))

-- what is applied to options is of later trees
abbrev pub callee_stands : Around → Callee → ℕ → Bool
callee_stands around (C.Function i) n = has_arguments n (slice_get around.functions i)
callee_stands around (C.Constructor u c) n = has_payload n (payload around.types u c)
callee_stands around (C.Applies d) n = false
callee_stands around callee n = true

-- each of so many fields is among these
abbrev pub each_given : ℕ → List ℕ → Bool
each_given zero ks = true
each_given (suc i) ks = list_any (nat_eq i) ks && each_given i ks

-- a value for each field of a struct
abbrev pub has_fields : List ℕ → ℕ → Option (List Field) → Bool
has_fields ks n None = false
has_fields ks n (Some fs) =
    nat_eq n (length fs) && (nat_eq (length ks) (length fs) && (each_given (length fs) ks && list_all (λ k. nat_lt k (length fs)) ks))

-- what a kind asks by itself, of so many parts; options are of later trees
abbrev pub kind_stands : Around → Kind → ℕ → Bool
kind_stands around (K.Constant literal) n = literal_right around.types literal
kind_stands around (K.Call callee) n = callee_stands around callee n
kind_stands around (K.Struct u ks) n = has_fields ks n (fields around.types u)
kind_stands around (K.Optional t) n = false
kind_stands around kind n = true

-- and of its parts
abbrev pub parts_right : Kind → List Standing → Bool
parts_right (K.Cast None) (a ∷ []) = is_value a
parts_right (K.Let arm) (a ∷ b ∷ []) = is_bound a && is_value b
parts_right (K.Var name written) (a ∷ b ∷ []) = is_bound a && is_value b
parts_right (K.Block statements) ps = block_right statements ps
parts_right (K.If shape) (c ∷ ps) = is_value c && list_all is_branch ps
parts_right (K.Match arms shape) (a ∷ bodies) = is_bound a && (nat_eq (length arms) (length bodies) && list_all is_body bodies)
parts_right (K.Try arms shape) (a ∷ bodies) = is_branch a && (nat_eq (length arms) (length bodies) && list_all is_body bodies)
parts_right (K.Clauses arms) bodies = nat_eq (length arms) (length bodies) && list_all is_body bodies
parts_right K.When (guard ∷ body ∷ []) = is_value guard && is_branch body
parts_right K.Return ps = list_all is_bound ps
parts_right K.Throw ps = list_all is_bound ps
parts_right K.Exit ps = list_all is_bound ps
parts_right kind ps = list_all is_value ps

abbrev pub kind_right : Around → Kind → List Standing → Bool
kind_right around kind ps = kind_stands around kind (length ps) && parts_right kind ps

abbrev pub node_standing : Around → Core-F Standing → Standing
node_standing around c = record { cast = is_cast c.kind; guard = is_guard c.kind; right = kind_right around c.kind c.parts }

abbrev pub standing : Around → Core → Standing
standing around = fold-Core Standing (node_standing around)
