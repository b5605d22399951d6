-- A name that is taken by a register, a member of an enum or another definition that stands for itself is taken by nothing else, where no name clashes;
-- and each meaning that shapes find is in a role.
use Rattle.std.proofs.Common.{◌≡◌, ℕ, List, [], ◌∷◌, ap, sym, ◌∙◌, refl, subst, Bool, true, false, ◌&&◌, ◌||◌, if◌then◌else◌, bytes_eq}
use Rattle.std.specs.Prelude.{Option, Some}
use Rattle.std.specs.List.{list_all, list_any}
use Rattle.std.proofs.lemmas.Bool.{and_parts}
use Rattle.sail_syntax.specs.declared.definitions.Def.{Def}
use Rattle.sail_globals.specs.declared.naming.Alone.{Alone}
use Rattle.sail_globals.specs.declared.naming.Naming.{Naming}
use Rattle.sail_globals.specs.declared.naming.Role.{Role}
use Rattle.sail_globals.specs.declared.naming.Role.TheVariants.{Declared, Defined, Overloaded, Whole}
use Rattle.sail_globals.specs.Bound.{is_among, members}
use Rattle.sail_globals.specs.Clashes.{is_free, is_other_half, is_overloaded}
use Rattle.sail_globals.specs.Namings.{all_namings}
use Rattle.shape_joins.proofs.JoinsLeast.{none, some_same}
use Rattle.shape_joins.proofs.Order.{no, two}
use Rattle.shape_rules.specs.declared.callees.Meant.{Meant}
use Rattle.shape_models.specs.declared.entries.Entry.{Entry}
use Rattle.shape_models.specs.Models as Shapes
use Rattle.shape_models.specs.Models.{Tabled, entries, entries_from, meant_in, no_counts}
use Rattle.shape_meanings.proofs.Settling.{same_name}
use Rattle.shapes.specs.Tabled.{tabled_of}
use Rattle.known_texts.proofs.Entries.{EntriesAre, MeantIs, both_are, entries_are, union_is}
use Rattle.known_texts.proofs.Roles.{all_over, are_free, or_elim}
use Rattle.known_texts.proofs.TableRows.{AreRows, rows_are}

-- ---- roles that stand for themselves

-- a test that this role passes alone
module _ (what : Alone) (own : Role → Bool) (is_own : (r : Role) → own r ≡ true → r ≡ Whole what) where
  not_over : own Overloaded ≡ true → ⊥
  not_over h = differ (is_own Overloaded h)
    where
      differ : Overloaded ≡ Whole what → ⊥
      differ e = absurd (cc)

  none_over : (rs : List Role) → list_all is_overloaded rs ≡ true → list_any own rs ≡ true → ⊥
  none_over [] h k = no k
  none_over (Overloaded ∷ rs) h k = or_elim (own Overloaded) (list_any own rs) k not_over (λ e. none_over rs h e)
  none_over (Declared called ∷ rs) h k = no h
  none_over (Defined called ∷ rs) h k = no h
  none_over (Whole other ∷ rs) h k = no h

  half_before : (r : Role) → is_other_half r (Whole what) ≡ true → ⊥
  half_before (Declared called) h = no h
  half_before (Defined called) h = no h
  half_before Overloaded h = no h
  half_before (Whole other) h = no h

  half_behind : (s : Role) → is_other_half (Whole what) s ≡ true → ⊥
  half_behind (Declared called) h = no h
  half_behind (Defined called) h = no h
  half_behind Overloaded h = no h
  half_behind (Whole other) h = no h

  no_pair : (r s : Role) → is_other_half r s ≡ true → (own r || (own s || false)) ≡ true → ⊥
  no_pair r s half h =
      or_elim (own r) (own s || false) h
      (λ e. half_behind s (subst (λ (x : Role). is_other_half x s ≡ true) (is_own r e) half))
      (λ e. or_elim (own s) false e (λ f. half_before r (subst (λ (x : Role). is_other_half r x ≡ true) (is_own s f) half)) (λ f. no f))

  pub alone : (test : Role → Bool) (rs : List Role) → test (Whole what) ≡ false → are_free [] rs ≡ true → list_any own rs ≡ true
      → list_any test rs ≡ true → ⊥
  alone test [] other free c h = no h
  alone test (r ∷ []) other free c h =
      or_elim (own r) false c
      (λ e. or_elim (test r) false h (λ k. no (sym other ∙ ap test (sym (is_own r e)) ∙ k)) (λ k. no k)) (λ e. no e)
  alone test (r ∷ s ∷ []) other free c h = no_pair r s (and_parts (is_other_half r s) true free).0 c
  alone test (r ∷ s ∷ t ∷ rest) other free c h =
      let k = and_parts (is_other_half r s) (is_free (r ∷ s ∷ []) t && are_free (r ∷ s ∷ t ∷ []) rest) free in
      let l = and_parts (is_free (r ∷ s ∷ []) t) (are_free (r ∷ s ∷ t ∷ []) rest) k.1 in
      let over = and_parts (list_all is_overloaded (r ∷ s ∷ [])) (is_overloaded t) l.0 in
      let firsts = and_parts (is_overloaded r) (is_overloaded s && true) over.0 in
      let second = and_parts (is_overloaded s) true firsts.1 in
      let more : list_all is_overloaded rest ≡ true = all_over r s (t ∷ []) rest l.1 in
      none_over (r ∷ s ∷ t ∷ rest)
      (two (is_overloaded r) (is_overloaded s && (is_overloaded t && list_all is_overloaded rest)) firsts.0
      (two (is_overloaded s) (is_overloaded t && list_all is_overloaded rest) second.0
      (two (is_overloaded t) (list_all is_overloaded rest) over.1 more))) c

-- ---- the entries of a text

pub all_are : (text : List Def) → EntriesAre (tabled_of text) (all_namings text) (entries (tabled_of text) text)
all_are text =
    let tabled : Tabled = tabled_of text in
    let all : List Naming = all_namings text in
    let is_member : List ℕ → Bool = is_among (members text) in
    let rows : AreRows all tabled.types.definitions = rows_are all is_member text (λ other test h. h) in
    both_are tabled all (Shapes.union_entries tabled 1 (Some 0)) (entries_from tabled no_counts text) (union_is tabled all rows 1 (Some 0))
    (entries_are tabled all is_member rows 0 no_counts text (λ other test h. h))

module _ (tabled : Tabled) (all : List Naming) (name : List ℕ) where
  meant_if : (b : Bool) (e : Entry) (later : Option Meant) (m : Meant) → (b ≡ true → e.name ≡ name) → MeantIs tabled all e.name e.meant
      → (later ≡ Some m → MeantIs tabled all name m) → (if b then Some e.meant else later) ≡ Some m → MeantIs tabled all name m
  meant_if true e later m same its next h =
      subst (λ (own : Meant). MeantIs tabled all name own) (some_same e.meant m h)
      (subst (λ (n : List ℕ). MeantIs tabled all n e.meant) (same refl) its)
  meant_if false e later m same its next h = next h

  -- what a name means, by the definition that gives it
  pub meant_is : (es : List Entry) → EntriesAre tabled all es → (m : Meant) → meant_in es name ≡ Some m → MeantIs tabled all name m
  meant_is [] are m h = none h
  meant_is (e ∷ es) are m h =
      meant_if (bytes_eq e.name name) e (meant_in es name) m (λ k. same_name e.name name k) are.0 (λ k. meant_is es are.1 m k) h
