use Rattle.std.proofs.Common.{◌≡◌, ℕ, ◌<◌, List, [], length, Some, slice_get, get_or, add-one, refl, sym, ap, ◌∙◌}
use Rattle.std.proofs.Common.{subst, Bor, arith}
use Rattle.std.proofs.lemmas.Option.{slice_get_read}
use Rattle.model_tables.specs.Held.{texts_of}
use Rattle.model_tables.proofs.Indexed.{text_at, texts_of-length, empty_here, filled_here}
use Rattle.model_tables.proofs.index.Index.first_empty.Goals as goal

pub returns-then-is_none : goal.returns-then-is_none
returns-then-is_none c =
    let none : Bor (List ℕ) = record { ref_ptr = (0, 0); now = [] } in
    let items = c.deref-name-items.result.now in
    let view : texts_of items ≡ c.args.self.now =
    ap texts_of c.deref-name-items.ensures.value ∙ c.self.view_is in
    let named = subst (λ z. slice_get z c.loop-i.i ≡ Some (get_or items c.loop-i.i none).now) view
    (text_at items c.loop-i.i none c.loop-i-test.true) in
    let within : c.loop-i.i < length c.args.slots.now =
    omega (arith, ap length view, texts_of-length items) in
    let at = slice_get_read c.args.slots.now (length c.args.slots.now) c.loop-i.i
    c.index-slots-i.result refl within c.index-slots-i.is in
    sym (c.loop-i.invariant
    ∙ empty_here c.args.self.now c.args.slots.now c.loop-i.i (get_or items c.loop-i.i none).now
    c.index-slots-i.result named at c.if-is_none.ensures)

pub loop-i-preserved : goal.loop-i-preserved
loop-i-preserved c =
    let none : Bor (List ℕ) = record { ref_ptr = (0, 0); now = [] } in
    let items = c.deref-name-items.result.now in
    let view : texts_of items ≡ c.args.self.now =
    ap texts_of c.deref-name-items.ensures.value ∙ c.self.view_is in
    let named = subst (λ z. slice_get z c.loop-i.i ≡ Some (get_or items c.loop-i.i none).now) view
    (text_at items c.loop-i.i none c.loop-i-test.true) in
    let within : c.loop-i.i < length c.args.slots.now =
    omega (arith, ap length view, texts_of-length items) in
    let at = slice_get_read c.args.slots.now (length c.args.slots.now) c.loop-i.i
    c.index-slots-i.result refl within c.index-slots-i.is in
    rw add-one (c.loop-i.invariant
    ∙ filled_here c.args.self.now c.args.slots.now c.loop-i.i (get_or items c.loop-i.i none).now
    c.index-slots-i.result named at c.if-is_none.ensures)
