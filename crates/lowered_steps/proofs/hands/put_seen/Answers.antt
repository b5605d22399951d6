use Rattle.std.proofs.Common.{◌≡◌, ◌∙◌, [], ◌∷◌, ◌++◌, map, sym, ap, subst, Some, None}
use Rattle.std.specs.Option.{option_copied}
use Rattle.std.specs.Prelude.{OnOk}
use Rattle.lowered_pieces.specs.Arms.{held_at, seen_code}
use Rattle.lowered_pieces.specs.Emitted.{Emits, no_labels}
use Rattle.lowered_pieces.specs.Places.{Mapped}
use Rattle.lowered_steps.specs.Hands.{held_of}
use Rattle.lowered_steps.specs.Setting.{direction_in, kit_for}
use Rattle.lowered_steps.proofs.hands.put_seen.Goals as goal

pub returns-in-Some-clause-code : goal.returns-in-Some-clause-code
returns-in-Some-clause-code c =
    let setting = c.args.setting.now in
    subst (λ (m : Mapped). OnOk c.put_asked.result (Emits c.args.coding.now c.put_asked.new.coding (λ name l. seen_code setting.types.now
    (kit_for setting name) m (held_of c.args.value.now) c.args.free c.args.throw) no_labels))
    (ap direction_in (sym (ap option_copied c.in-Some.is) ∙ c.direction.ensures)) c.put_asked.ensures.code

pub returns-in-Some-clause-hand : goal.returns-in-Some-clause-hand
returns-in-Some-clause-hand c =
    subst (λ (m : Mapped). OnOk c.put_asked.result (map held_of c.put_asked.new.values ≡ map held_of c.args.values.now ++ held_at c.args.free m.gives ∷ []))
    (ap direction_in (sym (ap option_copied c.in-Some.is) ∙ c.direction.ensures)) c.put_asked.ensures.hand

pub returns-in-Some-clause-next : goal.returns-in-Some-clause-next
returns-in-Some-clause-next c = c.put_asked.ensures.next

pub returns-in-None-clause-code : goal.returns-in-None-clause-code
returns-in-None-clause-code c =
    let setting = c.args.setting.now in
    subst (λ (m : Mapped). OnOk c.put_asked-in-None.result (Emits c.args.coding.now c.put_asked-in-None.new.coding (λ name l. seen_code setting.types.now
    (kit_for setting name) m (held_of c.args.value.now) c.args.free c.args.throw) no_labels))
    (ap direction_in (sym (ap option_copied c.in-None.is) ∙ c.direction.ensures)) c.put_asked-in-None.ensures.code

pub returns-in-None-clause-hand : goal.returns-in-None-clause-hand
returns-in-None-clause-hand c =
    subst (λ (m : Mapped). OnOk c.put_asked-in-None.result (map held_of c.put_asked-in-None.new.values
    ≡ map held_of c.args.values.now ++ held_at c.args.free m.gives ∷ []))
    (ap direction_in (sym (ap option_copied c.in-None.is) ∙ c.direction.ensures)) c.put_asked-in-None.ensures.hand

pub returns-in-None-clause-next : goal.returns-in-None-clause-next
returns-in-None-clause-next c = c.put_asked-in-None.ensures.next
