-- Types of registers: they are read where no variable is.
use Rattle.std.proofs.Common.{◌≡◌, ℕ, zero, suc, List, [], ◌∷◌, ◌++◌, map, refl, subst, true}
use Rattle.std.specs.Prelude.{slice_get, Option, Some, None}
use Rattle.sail_syntax.specs.declared.definitions.Def.{Def}
use Rattle.sail_syntax.specs.declared.definitions.Def.TheVariants as D
use Rattle.sail_syntax.specs.declared.types.TyExp.{TyExp}
use Rattle.sail_types.specs.declared.types.Typ.{Typ}
use Rattle.model_state.specs.declared.state.Register.{Register}
use Rattle.sail_kinds.specs.Scopes.{Within}
use Rattle.call_arguments.specs.Callees.{is_closed}
use Rattle.shape_joins.proofs.JoinsLeast.{none, some_same}
use Rattle.shape_rules.specs.Scopes.{Setting}
use Rattle.shape_rules.specs.Written.{joined, typ_in}
use Rattle.shape_models.specs.Models.{within_variables}
use Rattle.shapes.specs.Resolved.{register_if, register_of}
use Rattle.shapes.specs.Tabled.{tabled_of}
use Rattle.known_texts.specs.Whole.{setting_in}
use Rattle.known_texts.proofs.ReadFormed.{typ_formed}
use Rattle.known_texts.proofs.TableFormed.{scope_of}
use Rattle.text_progress.proofs.Given.{typ_there}
use Rattle.text_progress.proofs.Told.{none_bound}
use Rattle.safe_models.specs.Types.{RegistersAreClosed}
use Rattle.safe_models.proofs.Closed.{closed_so}

abbrev AllClosed : List Register → Type 0
AllClosed [] = Unit {0}
AllClosed (r ∷ rs) = (is_closed r.typ ≡ true) × AllClosed rs

closed_at : (rs : List Register) → AllClosed rs → (i : ℕ) (r : Register) → slice_get rs i ≡ Some r → is_closed r.typ ≡ true
closed_at [] h i r e = none e
closed_at (x ∷ rs) h zero r e = subst (λ (y : Register). is_closed y.typ ≡ true) (some_same x r e) h.0
closed_at (x ∷ rs) h (suc i) r e = closed_at rs h.1 i r e

one_more : (name : List ℕ) (o : Option Typ) (rs : List Register) → ((t : Typ) → o ≡ Some t → is_closed t ≡ true) → AllClosed rs
    → AllClosed (register_if name o ++ rs)
one_more name None rs own h = h
one_more name (Some t) rs own h = (own t refl, h)

module _ (text : List Def) where
  -- a type that is read where no variable is
  pub read_closed : (typ : TyExp) (t : Typ) → typ_in (within_variables (tabled_of text) []) typ ≡ Some t → is_closed t ≡ true
  read_closed typ t e =
      let w : Within = within_variables (tabled_of text) [] in
      closed_so (tabled_of text).types t (typ_formed (tabled_of text).types 0 typ w (scope_of text []) t e) (typ_there [] w none_bound typ t e).1

  abbrev setting : Setting
  setting = setting_in (tabled_of text) text []

  all_closed : (rest : List Def) → AllClosed (joined (map (register_of setting) rest))
  all_closed [] = tt
  all_closed ((D.Register place name typ initial) ∷ rest) =
      one_more name.text (typ_in (within_variables (tabled_of text) []) typ) (joined (map (register_of setting) rest)) (read_closed typ) (all_closed rest)
  all_closed (d ∷ rest) = all_closed rest

pub registers_closed : RegistersAreClosed
registers_closed text cycle i r e =
    closed_at (joined (map (register_of (setting_in (tabled_of text) text [])) text)) (all_closed text text) i r e
