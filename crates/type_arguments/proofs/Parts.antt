-- What becomes of a type that has a list of parts.
use Rattle.std.proofs.Common.{◌≡◌, ℕ, List, [], ◌∷◌, map, ap, sym, ◌∙◌, refl}
use Rattle.std.specs.Prelude.{Option, Some, option_map}
use Rattle.sail_types.specs.Readings.{together, read_con, read_indices}
use Rattle.sail_types.specs.Sums.{and_then}
use Rattle.sail_types.specs.declared.numbers.Con.{Con}
use Rattle.sail_types.specs.declared.numbers.Index.{Index}
use Rattle.sail_types.specs.declared.types.Typ.{Typ, fold-Typ}
use Rattle.sail_types.specs.declared.types.Typ.TheFolds.{fold-roll-Typ}
use Rattle.sail_types.specs.declared.types.Typ.TheOpen as T
use Rattle.sail_types.specs.declared.types.Typ.TheVariants as W
use Rattle.type_arguments.specs.Moved.{AtDepth, typ_form_moved, moved_indices, moved_typ, moved_types}
use Rattle.type_arguments.specs.Applied.{AtArguments, form_applied, inside_indices, inside_types, applied_typ, applied_types}

twice : {A B C : Type 0} (f : B → C) (g : A → B) (xs : List A) → map f (map g xs) ≡ map (λ x. f (g x)) xs
twice f g [] = refl
twice f g (x ∷ xs) = ap (λ ys. f (g x) ∷ ys) (twice f g xs)

pub moved_tuple : (depth : ℕ) (ts : List Typ) → moved_typ depth (W.Tuple ts) ≡ option_map W.Tuple (moved_types depth ts)
moved_tuple depth ts =
    ap (moved_typ depth) (sym (W.rolls-Tuple ts)) ∙ ap (λ f. f depth) (fold-roll-Typ AtDepth typ_form_moved (T.Tuple ts))
    ∙ ap (λ ms. option_map W.Tuple (together ms)) (twice (λ t. t depth) (fold-Typ AtDepth typ_form_moved) ts)

pub moved_named : (depth i : ℕ) (is : List Index) (ts : List Typ)
    → moved_typ depth (W.Named i is ts) ≡ and_then (moved_indices depth is) (λ js. option_map (W.Named i js) (moved_types depth ts))
moved_named depth i is ts =
    ap (moved_typ depth) (sym (W.rolls-Named i is ts)) ∙ ap (λ f. f depth) (fold-roll-Typ AtDepth typ_form_moved (T.Named i is ts))
    ∙ ap (λ ms. and_then (moved_indices depth is) (λ js. option_map (W.Named i js) (together ms)))
    (twice (λ t. t depth) (fold-Typ AtDepth typ_form_moved) ts)

pub applied_tuple : (is : List Index) (ts parts : List Typ) → applied_typ is ts (W.Tuple parts) ≡ option_map W.Tuple (applied_types is ts parts)
applied_tuple is ts parts =
    ap (applied_typ is ts) (sym (W.rolls-Tuple parts)) ∙ ap (λ f. f is ts) (fold-roll-Typ AtArguments form_applied (T.Tuple parts))
    ∙ ap (λ ms. option_map W.Tuple (together ms)) (twice (λ t. t is ts) (fold-Typ AtArguments form_applied) parts)

pub applied_named : (is : List Index) (ts : List Typ) (i : ℕ) (indices : List Index) (parts : List Typ)
    → applied_typ is ts (W.Named i indices parts) ≡ and_then (read_indices is indices) (λ js. option_map (W.Named i js) (applied_types is ts parts))
applied_named is ts i indices parts =
    ap (applied_typ is ts) (sym (W.rolls-Named i indices parts))
    ∙ ap (λ f. f is ts) (fold-roll-Typ AtArguments form_applied (T.Named i indices parts))
    ∙ ap (λ ms. and_then (read_indices is indices) (λ js. option_map (W.Named i js) (together ms)))
    (twice (λ t. t is ts) (fold-Typ AtArguments form_applied) parts)

-- what becomes of an existential type whose arguments inside are these
pub applied_exists : (is : List Index) (ts : List Typ) (name : List ℕ) (c : Con) (part : Typ) (js : List Index) (us : List Typ) (o : Option Con)
    → inside_indices is ≡ Some js → inside_types ts ≡ Some us → read_con js c ≡ o
    → applied_typ is ts (W.Exists name c part) ≡ and_then o (λ d. option_map (W.Exists name d) (applied_typ js us part))
applied_exists is ts name c part js us o h k l =
    ap (applied_typ is ts) (sym (W.rolls-Exists name c part)) ∙ ap (λ f. f is ts) (fold-roll-Typ AtArguments form_applied (T.Exists name c part))
    ∙ (λ i. and_then (h i) (λ js. and_then (k i) (λ us. and_then (read_con js c) (λ d. option_map (W.Exists name d) (applied_typ js us part)))))
    ∙ ap (λ o. and_then o (λ d. option_map (W.Exists name d) (applied_typ js us part))) l
