use Rattle.std.proofs.Common.{◌≡◌, ℕ, ◌<◌, List, [], length, Some, slice_get, get_or, add-one, refl, sym, ap, ◌∙◌}
use Rattle.std.proofs.Common.{subst, Bor, arith}
use Rattle.model_tables.specs.Held.{texts_of}
use Rattle.model_tables.proofs.Indexed.{text_at}
use Rattle.model_tables.proofs.MarkedNames.{unmarked_here, marked_here}
use Rattle.model_tables.proofs.index.Index.first_unmarked.Goals as goal

pub returns-then-not-has : goal.returns-then-not-has
returns-then-not-has c =
    let none : Bor (List ℕ) = record { ref_ptr = (0, 0); now = [] } in
    let items = c.deref-name-items.result.now in
    let view : texts_of items ≡ c.args.self.now =
    ap texts_of c.deref-name-items.ensures.value ∙ c.self.view_is in
    let named = subst (λ z. slice_get z c.loop-i.i ≡ Some (get_or items c.loop-i.i none).now) view
    (text_at items c.loop-i.i none c.loop-i-test.true) in
    sym (c.loop-i.invariant
    ∙ unmarked_here c.args.self.now c.args.marks.now c.loop-i.i (get_or items c.loop-i.i none).now
    named c.if-not-has.ensures)

pub loop-i-preserved : goal.loop-i-preserved
loop-i-preserved c =
    let none : Bor (List ℕ) = record { ref_ptr = (0, 0); now = [] } in
    let items = c.deref-name-items.result.now in
    let view : texts_of items ≡ c.args.self.now =
    ap texts_of c.deref-name-items.ensures.value ∙ c.self.view_is in
    let named = subst (λ z. slice_get z c.loop-i.i ≡ Some (get_or items c.loop-i.i none).now) view
    (text_at items c.loop-i.i none c.loop-i-test.true) in
    rw add-one (c.loop-i.invariant
    ∙ marked_here c.args.self.now c.args.marks.now c.loop-i.i (get_or items c.loop-i.i none).now
    named c.if-not-has.ensures)
