use Rattle.std.proofs.Common.{◌≡◌, ◌≤◌, ◌<◌, ◌++◌, ◌∷◌, [], Bool, false, List, take, length, get_or, ap, sym, ◌∙◌, arith}
use Rattle.std.proofs.lemmas.List.{take_all}
use Rattle.tf_core.specs.declared.ty.Ty.{Ty}
use Rattle.tf_naked.specs.Covers.{covers}
use Rattle.enc_marks.specs.declared.slot.Slot.{Slot}
use Rattle.enc_marks.specs.Calls.Slots.{slot_in, slots_in}
use Rattle.enc_marks.proofs.ArgumentPlaces.{slots_in-more, slots_in-none}
use Rattle.enc_marks.proofs.CoverCount.{length-covers}
use Rattle.enc_marks.proofs.type_writer.TypeWriter.slots_of_symbol.Goals as goal

pub loop-i-init : goal.loop-i-init
loop-i-init g c =
    c.new-slots.ensures
    ∙ sym (slots_in-none (g.C.Choices.choices c.args.choices.now) c.args.self.now.normal.now
    (covers c.args.symbol.now))

pub loop-i-preserved : goal.loop-i-preserved
loop-i-preserved g c =
    let choices = g.C.Choices.choices c.args.choices.now in
    let normal = c.args.self.now.normal.now in
    let symbol = c.args.symbol.now in
    let tests = covers symbol in
    let types = symbol.arguments in
    let i = c.loop-i.i in
    let ty = c.ty-item.result in
    let front = slots_in choices normal tests (take i types) in
    let count = ap (λ (items : List Ty). length items) c.as_slice-ty-items.ensures in
    let within : i < length types = omega (arith, c.loop-i-test.true, count) in
    let flag : c.flag_at.result ≡ get_or tests i false =
    c.flag_at.ensures ∙ ap (λ (flags : List Bool). get_or flags i false) c.requires.covers in
    let declared : ty ≡ get_or types i ty =
    c.ty-item.is ∙ ap (λ (items : List Ty). get_or items i ty) c.as_slice-ty-items.ensures in
    c.in_ok-push.ensures.ok
    ∙ ap (λ (slots : List Slot). slots ++ c.in_ok-slot.field-0 ∷ []) c.loop-i.invariant
    ∙ ap (λ (one : Slot). front ++ one ∷ [])
    (c.in_ok-slot.ensures.exact
    ∙ ap (λ (cover : Bool). slot_in choices normal cover ty) flag
    ∙ ap (slot_in choices normal (get_or tests i false)) declared)
    ∙ sym (slots_in-more choices normal tests types i ty
    (omega (arith, within, length-covers symbol)) within)

pub returns : goal.returns
returns g c =
    let choices = g.C.Choices.choices c.args.choices.now in
    let normal = c.args.self.now.normal.now in
    let symbol = c.args.symbol.now in
    let count = ap (λ (items : List Ty). length items) c.as_slice-ty-items.ensures in
    let enough : length symbol.arguments ≤ c.loop-i.i =
    omega (arith, c.loop-i-test.false, count) in
    record {
      exact = c.loop-i.invariant
          ∙ ap (slots_in choices normal (covers symbol)) (take_all c.loop-i.i symbol.arguments enough);
    }
