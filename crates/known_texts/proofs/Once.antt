-- In a text without failures types leave nothing open, and each name of a value is that of one definition.
use Rattle.std.proofs.Common.{◌≡◌, ℕ, suc, List, [], ◌∷◌, refl, subst, Bool, true, false, if◌then◌else◌}
use Rattle.std.specs.Prelude.{Option, Some, None}
use Rattle.std.specs.Str.{bytes_eq}
use Rattle.sail_syntax.specs.declared.definitions.Def.{Def}
use Rattle.sail_types.specs.declared.shapes.Shape.{Shape}
use Rattle.sail_globals.specs.declared.naming.Alone.TheVariants as is
use Rattle.sail_globals.specs.declared.naming.Naming.{Naming}
use Rattle.sail_globals.specs.declared.naming.Role.{Role}
use Rattle.sail_globals.specs.declared.naming.Role.TheVariants.{Whole}
use Rattle.sail_globals.specs.declared.naming.Space.TheVariants.{Values}
use Rattle.sail_globals.specs.Bound.{is_among, members}
use Rattle.sail_globals.specs.Clashes.{taken}
use Rattle.sail_globals.specs.Namings.{all_namings}
use Rattle.shape_joins.proofs.Order.{no}
use Rattle.shape_rules.specs.declared.callees.Meant.{Meant}
use Rattle.shape_rules.specs.declared.callees.Meant.TheVariants as M
use Rattle.shape_rules.specs.declared.locals.Local.{Local}
use Rattle.shape_models.specs.Models.{Tabled, entries, let_in}
use Rattle.shape_meanings.specs.Models.{register_shapes}
use Rattle.shape_meanings.proofs.Settling.{same_name}
use Rattle.shapes.specs.Failures.{all_lets, own_in}
use Rattle.shapes.specs.Tabled.{tabled_of}
use Rattle.known_texts.specs.Texts.{text_of}
use Rattle.known_texts.specs.Values.{NamesAreOnce}
use Rattle.known_texts.specs.Whole.{TypesKnown, setting_in}
use Rattle.known_texts.specs.Accepted.{NothingFails}
use Rattle.known_texts.proofs.Alone.{all_are, alone, meant_is}
use Rattle.known_texts.proofs.Entries.{is_register_role}
use Rattle.known_texts.proofs.LetNames.{LocalsTaken, Taken, is_bound_role, lets_taken, member_taken}
use Rattle.known_texts.proofs.Members.{members_known}
use Rattle.known_texts.proofs.MembersOnce.{member_once}
use Rattle.known_texts.proofs.Places.{structs_named}
use Rattle.known_texts.proofs.Roles.{IsTaken, all_free}
use Rattle.known_texts.proofs.TableFormed.{all_so_far, fields_below, registers_closed}
use Rattle.known_texts.proofs.Thrown.{exception_closed}

is_register_own : (r : Role) → is_register_role r ≡ true → r ≡ Whole is.Register
is_register_own (Whole is.Register) h = refl
is_register_own r h = no h

module _ (text : List Def) (clear : NothingFails text) (name : List ℕ) where
  abbrev all : List Naming
  all = all_namings text

  let_by : (b : Bool) (l : Local) (i : ℕ) (later : Option Meant) → (b ≡ true → ⊥) → later ≡ None → (if b then Some (M.Let i l.shape) else later) ≡ None
  let_by true l i later apart h = absurd (apart refl)
  let_by false l i later apart h = h

  no_let : (lets : List Local) → LocalsTaken all lets → (Taken all name → ⊥) → (i : ℕ) → let_in i lets name ≡ None
  no_let [] h apart i = refl
  no_let (l ∷ lets) h apart i =
      let_by (bytes_eq l.name name) l i (let_in (suc i) lets name) (λ e. apart (subst (Taken all) (same_name l.name name e) h.0))
      (no_let lets h.1 apart (suc i))

  -- no let has the name of a register
  register_alone : IsTaken all name is_register_role → Taken all name → ⊥
  register_alone register h =
      alone is.Register is_register_role is_register_own is_bound_role (taken all Values name) refl (all_free [] all clear.names name) register h

  registers_once : (r : ℕ) (s : Shape) → own_in (tabled_of text) text name ≡ Some (M.Register r s)
      → let_in 0 (all_lets (tabled_of text) text) name ≡ None
  registers_once r s e =
      let tabled : Tabled = tabled_of text in
      let is_member : List ℕ → Bool = is_among (members text) in
      no_let (all_lets tabled text)
      (lets_taken all is_member (λ n k. member_taken all is_member n 0 text (λ other test h. h) k) tabled (own_in tabled text) text [] 0 text tt
      (λ other test h. h))
      (register_alone (meant_is tabled all name (entries tabled text) (all_are text) (M.Register r s) e)) 0

pub names_once : (text : List Def) → NothingFails text → NamesAreOnce (tabled_of text) text (all_lets (tabled_of text) text)
names_once text clear = record {
  members = λ name. member_once text clear name (all_lets (tabled_of text) text);
  in_range = members_known (tabled_of text) text;
  registers = λ name r s e. registers_once text clear name r s e;
}

pub types_closed : (text : List Def) → NothingFails text → (cycle : List ℕ → Option ℕ)
    → TypesKnown (setting_in (tabled_of text) text []) (register_shapes (text_of (tabled_of text) cycle text).registers)
types_closed text clear cycle = record {
  closed_registers = registers_closed text cycle;
  closed_thrown = exception_closed text clear.parts;
  fields_below = fields_below (setting_in (tabled_of text) text []) (all_so_far text).rows;
  structs = structs_named text;
}
