-- What is found of each form of a pattern, of the parts that the code has in hand.
use Rattle.std.proofs.Common.{◌≡◌, List, ◌∷◌, map, refl, sym, ◌∙◌, Option, Some, None}
use Rattle.sail_base.specs.declared.place.Place.{Place}
use Rattle.sail_syntax.specs.declared.name.Name.{Name}
use Rattle.sail_syntax.specs.declared.types.TyExp.{TyExp}
use Rattle.sail_syntax.specs.declared.words.Brackets.{Brackets}
use Rattle.sail_syntax.specs.declared.patterns.Pat.{Pat}
use Rattle.sail_syntax.specs.declared.patterns.Joined.{Joined}
use Rattle.sail_syntax.specs.declared.patterns.Pat.TheVariants as V
use Rattle.sail_types.specs.declared.shapes.Shape.{Shape}
use Rattle.shape_rules.specs.declared.callees.Meant.{Meant}
use Rattle.shape_rules.specs.declared.callees.Meant.TheVariants as M
use Rattle.shape_rules.specs.Scopes.{Setting}
use Rattle.shape_rules.specs.Patterns.{Piece, Widths, piece, look, no_widths, name_look, construct_look, group_look, concat_look, cons_look, as_look}
use Rattle.shape_rules.specs.Patterns.{typed_look}
use Rattle.shape_widths.specs.Parts.{further}
use Rattle.shape_patterns.proofs.Opened.{of_Bind, of_Construct, of_Group, of_Concat, of_Cons, of_As, of_Typed}

opened : (p q : Pat) (a : Piece) (setting : Setting) (widths : Widths) (s : Shape) → p ≡ q → piece q ≡ a → look p setting widths s ≡ a.look setting widths s
opened p q a setting widths s is form = (λ i. (piece (is i)).look setting widths s) ∙ (λ i. (form i).look setting widths s)

-- no width matters to a name
any_widths : (name : Name) (meant : Option Meant) (setting : Setting) (widths : Widths) (s : Shape)
    → name_look name meant setting widths s ≡ name_look name meant setting no_widths s
any_widths name None setting widths s = refl
any_widths name (Some (M.Register i t)) setting widths s = refl
any_widths name (Some (M.Let i t)) setting widths s = refl
any_widths name (Some (M.Member i k)) setting widths s = refl
any_widths name (Some (M.Callee f)) setting widths s = refl
any_widths name (Some (M.Row r)) setting widths s = refl
any_widths name (Some (M.Mapping m)) setting widths s = refl
any_widths name (Some (M.Overload fs)) setting widths s = refl

pub look_bind : (p : Pat) (name : Name) (setting : Setting) (widths : Widths) (s : Shape) → p ≡ V.Bind name
    → look p setting widths s ≡ name_look name (setting.value name.text) setting no_widths s
look_bind p name setting widths s is =
    opened p (V.Bind name) _ setting widths s is (of_Bind name) ∙ any_widths name (setting.value name.text) setting widths s

pub look_construct : (p : Pat) (name : Name) (ps qs : List Pat) (setting : Setting) (widths : Widths) (s : Shape) → p ≡ V.Construct name ps → qs ≡ ps
    → look p setting widths s ≡ construct_look name (map piece qs) (setting.value name.text) setting widths s
look_construct p name ps qs setting widths s is same =
    opened p (V.Construct name ps) _ setting widths s is (of_Construct name ps)
    ∙ (λ i. construct_look name (map piece (sym same i)) (setting.value name.text) setting widths s)

pub look_group : (p : Pat) (place : Place) (brackets : Brackets) (ps qs : List Pat) (setting : Setting) (widths : Widths) (s : Shape)
    → p ≡ V.Group place brackets ps → qs ≡ ps → look p setting widths s ≡ group_look place brackets (map piece qs) setting widths s
look_group p place brackets ps qs setting widths s is same =
    opened p (V.Group place brackets ps) _ setting widths s is (of_Group place brackets ps)
    ∙ (λ i. group_look place brackets (map piece (sym same i)) setting widths s)

pub look_concat : (p : Pat) (place : Place) (a b a' b' : Pat) (more more' : List Joined) (setting : Setting) (widths : Widths) (s : Shape)
    → p ≡ V.Concat place a b more → a' ≡ a → b' ≡ b → more' ≡ more
    → look p setting widths s ≡ concat_look place (piece a' ∷ piece b' ∷ map further more') setting widths s
look_concat p place a b a' b' more more' setting widths s is one two rest =
    opened p (V.Concat place a b more) _ setting widths s is (of_Concat place a b more)
    ∙ (λ i. concat_look place (piece (sym one i) ∷ piece (sym two i) ∷ map further (sym rest i)) setting widths s)

pub look_cons : (p : Pat) (place : Place) (a b a' b' : Pat) (setting : Setting) (widths : Widths) (s : Shape)
    → p ≡ V.Cons place a b → a' ≡ a → b' ≡ b → look p setting widths s ≡ cons_look place (piece a') (piece b') setting widths s
look_cons p place a b a' b' setting widths s is one two =
    opened p (V.Cons place a b) _ setting widths s is (of_Cons place a b)
    ∙ (λ i. cons_look place (piece (sym one i)) (piece (sym two i)) setting widths s)

pub look_as : (p : Pat) (place : Place) (a a' : Pat) (name : Name) (setting : Setting) (widths : Widths) (s : Shape)
    → p ≡ V.As place a name → a' ≡ a → look p setting widths s ≡ as_look place (piece a') name setting widths s
look_as p place a a' name setting widths s is one =
    opened p (V.As place a name) _ setting widths s is (of_As place a name) ∙ (λ i. as_look place (piece (sym one i)) name setting widths s)

pub look_typed : (p : Pat) (place : Place) (a a' : Pat) (typ : TyExp) (setting : Setting) (widths : Widths) (s : Shape)
    → p ≡ V.Typed place a typ → a' ≡ a → look p setting widths s ≡ typed_look place (piece a') typ setting widths s
look_typed p place a a' typ setting widths s is one =
    opened p (V.Typed place a typ) _ setting widths s is (of_Typed place a typ) ∙ (λ i. typed_look place (piece (sym one i)) typ setting widths s)
