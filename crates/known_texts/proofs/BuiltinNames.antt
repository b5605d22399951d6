-- Members of builtins, as candidates of an overload.
use Rattle.std.proofs.Common.{◌≡◌, suc, List, [], ◌∷◌, ◌++◌, length, map, ap, ◌∙◌, refl, Option, Some, None}
use Rattle.std.specs.Prelude.{slice_get}
use Rattle.sail_types.specs.Rows.{row_members}
use Rattle.sail_types.specs.declared.members.Member.{Member}
use Rattle.sail_types.specs.declared.rows.Row.{Row}
use Rattle.sail_meaning.specs.Calls as Source
use Rattle.sail_meaning.specs.Choice.{builtins}
use Rattle.shape_rules.specs.Calls.{member_candidate}
use Rattle.shape_rules.specs.Scopes.{Setting, thrown_shape}
use Rattle.shape_models.specs.Models.{row_candidates}
use Rattle.shape_meanings.specs.Worlds.{StandForEach}
use Rattle.row_meanings.proofs.Standing.{rows_stand as row_members_stand, texts_apply}
use Rattle.model_meanings.specs.Callees.{CandidatesStand, Model, core_world}
use Rattle.known_texts.specs.Texts.{row_callees}

-- an item behind so many
pub there_behind : {A : Type 0} (before : List A) (x : A) (more : List A) → slice_get (before ++ x ∷ more) (length before) ≡ Some x
there_behind [] x more = refl
there_behind (y ∷ before) x more = there_behind before x more

pub one_behind : {A : Type 0} (before : List A) (x : A) (more : List A) → (before ++ x ∷ more) ≡ ((before ++ x ∷ []) ++ more)
one_behind [] x more = refl
one_behind (y ∷ before) x more = ap (λ xs. y ∷ xs) (one_behind before x more)

pub one_more : {A : Type 0} (before : List A) (x : A) → length (before ++ x ∷ []) ≡ suc (length before)
one_more [] x = refl
one_more (y ∷ before) x = ap suc (one_more before x)

module _ (setting : Setting) (m : Model) where
  abbrev Each : List Member → Type 0
  Each ms = StandForEach setting.types [] (thrown_shape setting) (core_world m 0 [] [] []) (Source.applied m.source (Source.calls_within m.source 0) [])
      (map member_candidate ms) (builtins ms)

  -- members of one builtin, of which some come before
  members_from : (row : Row) (before ms : List Member) → row_members setting.types row ≡ (before ++ ms) → Each ms
      → CandidatesStand setting m (map member_candidate ms) (builtins ms)
  members_from row before [] all each = tt
  members_from row before (x ∷ ms) all each = (
    record {
      params = refl;
      whole = each.0.whole;
      answer = each.0.answer;
      does = record {
        from = row;
        place = length before;
        member = x;
        there = ap (λ (xs : List Member). slice_get xs (length before)) all ∙ there_behind before x ms;
        same = refl;
        params = refl;
        answer = refl;
        calls = refl;
      };
    },
    members_from row (before ++ x ∷ []) ms (all ∙ one_behind before x ms) each.1,
  )

  pub rows_stand : (row : Option Row) → CandidatesStand setting m (row_candidates setting.types row) (row_callees setting.types row)
  rows_stand None = tt
  rows_stand (Some row) =
      members_from row [] (row_members setting.types row) refl
      (row_members_stand setting.types [] (thrown_shape setting) (core_world m 0 [] [] []) m.source.hart
      (Source.applied m.source (Source.calls_within m.source 0) []) refl (texts_apply m.source (Source.calls_within m.source 0) []) row).0
