-- The forms of a side, of what is found of their parts.
use Rattle.std.proofs.Common.{◌≡◌, ◌≤◌, ◌-◌, ℤ, List, [], ◌∷◌, length, map, take, drop, get_or, sym, ap, ◌∙◌, arith}
use Rattle.std.proofs.lemmas.List.{take_rest}
use Rattle.sail_base.specs.declared.operators.Operator.TheVariants as O
use Rattle.sail_base.specs.declared.place.Place.{Place}
use Rattle.sail_syntax.specs.declared.name.Name.{Name}
use Rattle.sail_syntax.specs.declared.name.Literal.{Literal}
use Rattle.sail_syntax.specs.declared.types.TyExp.{TyExp}
use Rattle.sail_syntax.specs.declared.words.Brackets.{Brackets}
use Rattle.sail_syntax.specs.declared.patterns.Pat.{Pat}
use Rattle.sail_syntax.specs.declared.patterns.Joined.{Joined, out-Joined}
use Rattle.sail_syntax.specs.declared.patterns.Pat.TheOpen as P
use Rattle.sail_syntax.specs.declared.patterns.Pat.TheVariants as V
use Rattle.sail_syntax.specs.declared.patterns.Pat.TheFolds.{fold-roll-Pat, fold_out-Joined}
use Rattle.shape_rules.specs.Targets.{Part}
use Rattle.shape_rules.specs.Values.{infix_found}
use Rattle.shape_rules.specs.Sides.{FurtherSide, read_side, side_part, further_side, append_part}
use Rattle.shape_sides.specs.Trees.{further_part}

pub of_Wildcard : (place : Place) → read_side (V.Wildcard place) ≡ side_part (P.Wildcard place)
of_Wildcard place =
    ap read_side (sym (V.rolls-Wildcard place)) ∙ fold-roll-Pat Part FurtherSide side_part further_side (P.Wildcard place)

pub of_Constant : (place : Place) (literal : Literal) → read_side (V.Constant place literal) ≡ side_part (P.Constant place literal)
of_Constant place literal =
    ap read_side (sym (V.rolls-Constant place literal)) ∙ fold-roll-Pat Part FurtherSide side_part further_side (P.Constant place literal)

pub of_Negative : (place : Place) (n : ℤ) → read_side (V.Negative place n) ≡ side_part (P.Negative place n)
of_Negative place n =
    ap read_side (sym (V.rolls-Negative place n)) ∙ fold-roll-Pat Part FurtherSide side_part further_side (P.Negative place n)

pub of_Bind : (name : Name) → read_side (V.Bind name) ≡ side_part (P.Bind name)
of_Bind name = ap read_side (sym (V.rolls-Bind name)) ∙ fold-roll-Pat Part FurtherSide side_part further_side (P.Bind name)

pub of_Construct : (name : Name) (ps : List Pat) → read_side (V.Construct name ps) ≡ side_part (P.Construct name (map read_side ps))
of_Construct name ps =
    ap read_side (sym (V.rolls-Construct name ps)) ∙ fold-roll-Pat Part FurtherSide side_part further_side (P.Construct name ps)

pub of_Group : (place : Place) (brackets : Brackets) (ps : List Pat)
    → read_side (V.Group place brackets ps) ≡ side_part (P.Group place brackets (map read_side ps))
of_Group place brackets ps =
    ap read_side (sym (V.rolls-Group place brackets ps)) ∙ fold-roll-Pat Part FurtherSide side_part further_side (P.Group place brackets ps)

pub of_Concat : (place : Place) (p q : Pat) (more : List Joined)
    → read_side (V.Concat place p q more) ≡ side_part (P.Concat place (read_side p) (read_side q) (map further_part more))
of_Concat place p q more =
    ap read_side (sym (V.rolls-Concat place p q more)) ∙ fold-roll-Pat Part FurtherSide side_part further_side (P.Concat place p q more)

pub of_Cons : (place : Place) (p q : Pat) → read_side (V.Cons place p q) ≡ side_part (P.Cons place (read_side p) (read_side q))
of_Cons place p q =
    ap read_side (sym (V.rolls-Cons place p q)) ∙ fold-roll-Pat Part FurtherSide side_part further_side (P.Cons place p q)

pub of_As : (place : Place) (p : Pat) (name : Name) → read_side (V.As place p name) ≡ side_part (P.As place (read_side p) name)
of_As place p name =
    ap read_side (sym (V.rolls-As place p name)) ∙ fold-roll-Pat Part FurtherSide side_part further_side (P.As place p name)

pub of_Typed : (place : Place) (p : Pat) (typ : TyExp) → read_side (V.Typed place p typ) ≡ side_part (P.Typed place (read_side p) typ)
of_Typed place p typ =
    ap read_side (sym (V.rolls-Typed place p typ)) ∙ fold-roll-Pat Part FurtherSide side_part further_side (P.Typed place p typ)

-- a further part of a concatenation is found as its pattern
pub of_further : (j : Joined) → further_part j ≡ record { place = (out-Joined j).place; part = read_side (out-Joined j).part }
of_further j = fold_out-Joined Part FurtherSide side_part further_side j

-- ---- of the parts that the code has in hand

pub side_construct : (p : Pat) (name : Name) (ps qs : List Pat) → p ≡ V.Construct name ps → qs ≡ ps
    → read_side p ≡ side_part (P.Construct name (map read_side qs))
side_construct p name ps qs is same =
    ap read_side is ∙ of_Construct name ps ∙ ap (λ (rs : List Pat). side_part (P.Construct name (map read_side rs))) (sym same)

pub side_group : (p : Pat) (place : Place) (brackets : Brackets) (ps qs : List Pat) → p ≡ V.Group place brackets ps → qs ≡ ps
    → read_side p ≡ side_part (P.Group place brackets (map read_side qs))
side_group p place brackets ps qs is same =
    ap read_side is ∙ of_Group place brackets ps ∙ ap (λ (rs : List Pat). side_part (P.Group place brackets (map read_side rs))) (sym same)

pub side_concat : (p : Pat) (place : Place) (a b a' b' : Pat) (more more' : List Joined)
    → p ≡ V.Concat place a b more → a' ≡ a → b' ≡ b → more' ≡ more
    → read_side p ≡ side_part (P.Concat place (read_side a') (read_side b') (map further_part more'))
side_concat p place a b a' b' more more' is one two rest =
    ap read_side is ∙ of_Concat place a b more
    ∙ (λ i. side_part (P.Concat place (read_side (sym one i)) (read_side (sym two i)) (map further_part (sym rest i))))

first_of : (more : List Joined) (next : Joined) → 1 ≤ length more → next ≡ get_or more 0 next → more ≡ next ∷ take (length more - 1) (drop 1 more)
first_of [] next some is = absurd (omega arith)
first_of (j ∷ js) next some is =
    ap (λ (x : Joined). x ∷ js) (sym is) ∙ ap (λ (ys : List Joined). next ∷ ys) (sym (take_rest (j ∷ js) 1))

-- a concatenation of more than two parts: its rest stands at the next `@`
pub append_more : (place : Place) (a b : Part) (more : List Joined) (next : Joined) → 1 ≤ length more → next ≡ get_or more 0 next
    → append_part place a b (map further_part more)
    ≡ record {
      place = place;
      elaborate = infix_found place O.Append a (append_part (out-Joined next).place b (read_side (out-Joined next).part)
          (map further_part (take (length more - 1) (drop 1 more))));
    }
append_more place a b more next some is =
    ap (λ (js : List Joined). append_part place a b (map further_part js)) (first_of more next some is)
    ∙ ap (λ (f : FurtherSide). append_part place a b (f ∷ map further_part (take (length more - 1) (drop 1 more)))) (of_further next)
