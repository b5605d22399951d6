-- How a `Boxed` stores its value, so that a type may reach itself through one.
use mathlib.Core.Path.{refl}
use mathlib.Core.Former.{Former, this, const, pair, via}
use base.Stored.{gnil}
use base.Fml.{ftrue}
use denote.RattleType.{RattleType}
use denote.Memory.{part_of}
use denote.RawPtr.{Ptr}
use denote.Sharing.{nothing}
use denote.HoleLaws.{Alike}
use denote.HolePlaces.{Recodes, struct_places, laid, one_value}
use denote.Hole.Fix.{over}
use denote.Param.Weighed.{Weighed}
use denote.Model.Placed.{view_places}
use Rattle.std.specs.declared.boxed.Box.{Box}
use Rattle.std.specs.contracts.boxed.Box as pointer
use Rattle.std.specs.declared.alloc.Global.{Global}
use Rattle.std.specs.contracts.alloc.Global as heap
use Rattle.std.specs.contracts.impls.GlobalAllocator.TheImpl.{ghosts}
use Rattle.sail_base.specs.declared.boxed.Boxed.TheInside.{Inside}
use Rattle.sail_base.specs.declared.boxed.Boxed.TheView.{view, invariant}
use Rattle.sail_base.specs.contracts.boxed.Boxed as whole
use Rattle.sail_base.specs.contracts.boxed.Boxed.TheInside as parts

-- what contracts see is the one value, which splits as it would alone
abbrev pub the_former : Former {0} → Former {0}
the_former inner = inner

abbrev pub the_weighed : {inner : Former {0}} → Weighed inner → Weighed (the_former inner)
the_weighed weight = weight

-- in memory: where the value lies, the allocator, and the value
abbrev stored : Former {0}
stored =
    via (pair (const (Ptr × Global)) this) Inside
    (λ X fields. ((fields.inner.ptr, fields.inner.alloc), fields.inner.value))
    (λ X split. record { inner = record { ptr = split.0.0; alloc = split.0.1; value = split.1 } })
    (λ X fields. refl)
    (λ X split. refl)

-- the same box over another value
abbrev holding : {X Y : Type 0} → Box X Global → Y → Box Y Global
holding box value = record { ptr = box.ptr; alloc = box.alloc; value = value }

abbrev boxed_row : RattleType → RattleType
boxed_row row = pointer.the_row row heap.the_row ghosts

module _ (From To : RattleType) (change : From.Denot → To.Denot) where
  pointers_alike : Alike From To change → Alike (boxed_row From) (boxed_row To) (λ box. holding box (change box.value))
  unfolding part_of
  pointers_alike alike = record {
    mir_same = λ i. (boxed_row (one_value From (alike.mir_same i) (λ _. ftrue) (λ _ _. nothing) gnil)).mir;
    own_same = λ box i. (boxed_row (one_value From (alike.mir_same i) (alike.own_same box.value i) (alike.shr_same box.value i) gnil)).own_val (holding box tt);
    shr_same = λ box i. (boxed_row (one_value From (alike.mir_same i) (alike.own_same box.value i) (alike.shr_same box.value i) gnil)).shr_at (holding box tt);
  }

  pub the_places : Alike From To change → Alike (whole.the_row From) (whole.the_row To) ((the_former this).map From.Denot To.Denot change)
  the_places alike =
      view_places stored this view (λ X Y k u. refl) (λ X u. refl) From.Denot To.Denot change (whole.the_row From).coded (whole.the_row To).coded
      (invariant From.Denot) (invariant To.Denot) (λ u p q. refl) (λ u p q. refl) (λ u e. tt) (λ u e. tt)
      (over (parts.the_row From)) (over (parts.the_row To))
      (struct_places (parts.the_type From) (parts.the_type To) ((λ box. holding box (change box.value)), tt) _
      (λ fields. refl) refl (laid _ _ _ (pointers_alike alike), tt))

  pub the_codes_placed : Recodes From To change → Recodes (whole.the_row From) (whole.the_row To) ((the_former this).map From.Denot To.Denot change)
  the_codes_placed same value = same value
