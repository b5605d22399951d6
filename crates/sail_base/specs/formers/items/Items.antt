-- How an `Items` stores its items, so that a type may reach itself through one.
use mathlib.Core.Path.{◌≡◌, refl, sym}
use mathlib.Core.List.{List, []}
use mathlib.Core.Former.{Former, this, list, via, children}
use base.Stored.{code_map}
use denote.RattleType.{RattleType}
use denote.HoleLaws.{Alike}
use denote.HolePlaces.{Recodes, struct_places, laid}
use denote.Hole.Carrier.{listed, list-listed}
use denote.Hole.Fix.{over}
use denote.Param.Weighed.{Weighed, w_list}
use denote.Model.Placed.{view_places}
use Rattle.std.specs.formers.vec.Vec as vector
use Rattle.std.specs.declared.alloc.Global.{Global}
use Rattle.std.specs.contracts.alloc.Global as heap
use Rattle.std.specs.contracts.impls.GlobalAllocator.TheImpl.{ghosts}
use Rattle.sail_base.specs.declared.items.Items.TheInside.{Inside}
use Rattle.sail_base.specs.declared.items.Items.TheView.{view, invariant}
use Rattle.sail_base.specs.contracts.items.Items as whole
use Rattle.sail_base.specs.contracts.items.Items.TheInside as parts

-- what contracts see is the list, which splits item by item
abbrev pub the_former : Former {0} → Former {0}
the_former inner = list inner

abbrev pub the_weighed : {inner : Former {0}} → Weighed inner → Weighed (the_former inner)
the_weighed weight = w_list weight

-- a list that holds no item of any type
pub the_empty : List ⊥
the_empty = []

-- the items in order, and that the split keeps this order
abbrev pub the_items : (X : Type 0) → List X → List X
the_items X list = list

pub the_items_listed : (X : Type 0) (list : List X) → listed _ (children (the_former this) X list) ≡ the_items X list
the_items_listed X list = list-listed X list

-- in memory: one vector
abbrev stored : Former {0}
stored =
    via (vector.the_former this Global) Inside
    (λ X fields. fields.items)
    (λ X split. record { items = split })
    (λ X fields. refl)
    (λ X split. refl)

module _ (From To : RattleType) (change : From.Denot → To.Denot) where
  pub the_places : Alike From To change → Alike (whole.the_row From) (whole.the_row To) ((the_former this).map From.Denot To.Denot change)
  the_places alike =
      view_places stored (list this) view (λ X Y k u. refl) (λ X u. refl) From.Denot To.Denot change (whole.the_row From).coded (whole.the_row To).coded
      (invariant From.Denot) (invariant To.Denot) (λ u p q. refl) (λ u p q. refl) (λ u e. tt) (λ u e. tt)
      (over (parts.the_row From)) (over (parts.the_row To))
      (struct_places (parts.the_type From) (parts.the_type To) (vector.mapped change, tt) _
      (λ fields. refl) refl (laid _ _ _ (vector.the_places heap.the_row ghosts From To change alike), tt))

  pub the_codes_placed : Recodes From To change → Recodes (whole.the_row From) (whole.the_row To) ((the_former this).map From.Denot To.Denot change)
  the_codes_placed same list = sym (code_map From.coded.code To.coded.code change (λ x. sym (same x)) list)
