use Rattle.std.proofs.Common.{arith, ap, sym, ◌∙◌, ◌≡◌, ◌+◌, Bool, false, length, get_or, take, count_by}
use Rattle.std.proofs.lemmas.List.{take_all}
use Rattle.std.proofs.lemmas.List.Sums.{count_by_more_yes, count_by_more_no}
use Rattle.enc_base.specs.Tables.{place}
use Rattle.tf_core.specs.Structures.{member_of}
use Rattle.enc_laws.specs.MergedStructure.{kept_count}
use Rattle.enc_models.specs.Calls.Lifting.{parts_of, members_in, typed_in, numbers_in, bounds_in}
use Rattle.enc_models.proofs.PickedNumbers.{picked_row}
use Rattle.enc_models.proofs.Folding.{fold-step, fold-fits, fold-placed}
use Rattle.enc_models.proofs.LiftedValues.{each_number, as_many_elements, each_member, argument_typed, argument_member, argument_element, kept_within, kept_place, number_of_member, number_of_element}
use Rattle.enc_models.proofs.lifting.Lifting.place_of_arguments.Goals as goal
use Rattle.enc_models.proofs.lifting.Lifting.place_of_arguments.Goals.{then-is_kept, else-is_kept}

pub bounds-members-parameter : goal.bounds-members-parameter
bounds-members-parameter g c =
    let m = (parts_of g.C.Choices.choices c.args.self.now.marked.now) in
    let symbol = c.args.symbol.now in
    kept_within m c.requires.ready.marked c.requires.ready.fits symbol c.requires.typed c.args.members.now
    c.args.elements.now c.requires.arguments
    c.loop-parameter.parameter (rw c.requires.kept at c.loop-parameter-test.true)

pub offset_bounds-members-parameter : goal.offset_bounds-members-parameter
offset_bounds-members-parameter g c =
    let m = (parts_of g.C.Choices.choices c.args.self.now.marked.now) in
    let symbol = c.args.symbol.now in
    omega (
      arith,
      kept_within m c.requires.ready.marked c.requires.ready.fits symbol c.requires.typed c.args.members.now
          c.args.elements.now c.requires.arguments
          c.loop-parameter.parameter (rw c.requires.kept at c.loop-parameter-test.true),
    )

pub overflow_mul-at : goal.overflow_mul-at
overflow_mul-at g c =
    let m = (parts_of g.C.Choices.choices c.args.self.now.marked.now) in
    let symbol = c.args.symbol.now in
    let within = rw c.requires.kept at c.loop-parameter-test.true in
    let kept = rw c.requires.kept at c.if-is_kept.true in
    let so_far = rw c.requires.kept at c.loop-parameter.invariant in
    omega (
      arith,
      c.requires.entries,
      fold-fits (kept_count m.choices symbol + length symbol.arguments) m.model.size
          (numbers_in m symbol c.args.members.now c.args.elements.now)
          (each_number m c.requires.ready.marked c.requires.ready.fits symbol c.requires.typed c.args.members.now
          c.args.elements.now c.requires.arguments)
          (count_by (λ (k : Bool). k) (take c.loop-parameter.parameter (m.choices.keeps symbol)))
          c.loop-parameter.at (get_or c.args.members.now c.loop-parameter.parameter 0)
          (kept_place m c.requires.ready.marked c.requires.ready.fits symbol c.requires.typed c.args.members.now
          c.args.elements.now c.requires.arguments
          c.loop-parameter.parameter within kept)
          (number_of_member m c.requires.ready.marked c.requires.ready.fits symbol c.requires.typed c.args.members.now
          c.args.elements.now c.requires.arguments
          c.loop-parameter.parameter within kept)
          so_far,
    )

pub overflow_add-at : goal.overflow_add-at
overflow_add-at g c =
    let m = (parts_of g.C.Choices.choices c.args.self.now.marked.now) in
    let symbol = c.args.symbol.now in
    let within = rw c.requires.kept at c.loop-parameter-test.true in
    let kept = rw c.requires.kept at c.if-is_kept.true in
    let so_far = rw c.requires.kept at c.loop-parameter.invariant in
    omega (
      arith,
      c.requires.entries,
      fold-fits (kept_count m.choices symbol + length symbol.arguments) m.model.size
          (numbers_in m symbol c.args.members.now c.args.elements.now)
          (each_number m c.requires.ready.marked c.requires.ready.fits symbol c.requires.typed c.args.members.now
          c.args.elements.now c.requires.arguments)
          (count_by (λ (k : Bool). k) (take c.loop-parameter.parameter (m.choices.keeps symbol)))
          c.loop-parameter.at (get_or c.args.members.now c.loop-parameter.parameter 0)
          (kept_place m c.requires.ready.marked c.requires.ready.fits symbol c.requires.typed c.args.members.now
          c.args.elements.now c.requires.arguments
          c.loop-parameter.parameter within kept)
          (number_of_member m c.requires.ready.marked c.requires.ready.fits symbol c.requires.typed c.args.members.now
          c.args.elements.now c.requires.arguments
          c.loop-parameter.parameter within kept)
          so_far,
    )

pub loop-parameter-preserved : goal.loop-parameter-preserved
loop-parameter-preserved g c =
    let m = (parts_of g.C.Choices.choices c.args.self.now.marked.now) in
    let symbol = c.args.symbol.now in
    let keeps = m.choices.keeps symbol in
    let i = c.loop-parameter.parameter in
    let within = rw c.requires.kept at c.loop-parameter-test.true in
    let so_far = rw c.requires.kept at c.loop-parameter.invariant in
    rw c.requires.kept
    (elim c.if-is_kept.branch [
      | then-is_kept w ↦
          let kept = rw c.requires.kept at w.if-is_kept.true in
          w.at-is
          ∙ fold-step (kept_count m.choices symbol + length symbol.arguments) m.model.size
          (numbers_in m symbol c.args.members.now c.args.elements.now)
          (each_number m c.requires.ready.marked c.requires.ready.fits symbol c.requires.typed c.args.members.now
          c.args.elements.now c.requires.arguments)
          (count_by (λ (k : Bool). k) (take i keeps)) c.loop-parameter.at
          (get_or c.args.members.now i 0)
          (kept_place m c.requires.ready.marked c.requires.ready.fits symbol c.requires.typed c.args.members.now
          c.args.elements.now c.requires.arguments i within kept)
          (number_of_member m c.requires.ready.marked c.requires.ready.fits symbol c.requires.typed c.args.members.now
          c.args.elements.now c.requires.arguments i within kept)
          so_far
          ∙ ap
          (λ n. place (take n (bounds_in m symbol))
          (take n (numbers_in m symbol c.args.members.now c.args.elements.now)))
          (sym (count_by_more_yes (λ (k : Bool). k) keeps i false within kept))
      | else-is_kept w ↦
          let dropped = rw c.requires.kept at w.if-is_kept.false in
          w.at-is
          ∙ so_far
          ∙ ap
          (λ n. place (take n (bounds_in m symbol))
          (take n (numbers_in m symbol c.args.members.now c.args.elements.now)))
          (sym (count_by_more_no (λ (k : Bool). k) keeps i false within dropped))
    ])

pub loop-i-init : goal.loop-i-init
loop-i-init g c =
    let m = (parts_of g.C.Choices.choices c.args.self.now.marked.now) in
    let symbol = c.args.symbol.now in
    let all : count_by (λ (k : Bool). k) (take c.loop-parameter.parameter c.args.kept.now)
    ≡ count_by (λ (k : Bool). k) c.args.kept.now + 0 =
    (let whole = ap (count_by (λ (k : Bool). k))
    (take_all c.loop-parameter.parameter c.args.kept.now (omega (arith, c.loop-parameter-test.false))) in
    omega (arith, whole)) in
    c.loop-parameter.invariant
    ∙ ap
    (λ n. place (take n (bounds_in m symbol))
    (take n (numbers_in m symbol c.args.members.now c.args.elements.now))) all

pub member_of-member-requires-clause-members : goal.member_of-member-requires-clause-members
member_of-member-requires-clause-members g c =
    each_member (parts_of g.C.Choices.choices c.args.self.now.marked.now) c.requires.ready.marked c.requires.ready.fits c.args.symbol.now c.requires.typed
    c.args.members.now c.args.elements.now c.requires.arguments

pub member_of-member-requires-clause-typed : goal.member_of-member-requires-clause-typed
member_of-member-requires-clause-typed g c =
    let m = (parts_of g.C.Choices.choices c.args.self.now.marked.now) in
    let symbol = c.args.symbol.now in
    let within = rw c.as_slice-ty-items.ensures at c.loop-i-test.true in
    let is = rw c.as_slice-ty-items.ensures at c.ty-item.is in
    argument_typed m c.requires.ready.marked c.requires.ready.fits symbol c.requires.typed c.args.members.now
    c.args.elements.now c.requires.arguments c.loop-i.i c.ty-item.result within is

pub bounds-self-member : goal.bounds-self-member
bounds-self-member g c =
    let m = (parts_of g.C.Choices.choices c.args.self.now.marked.now) in
    let symbol = c.args.symbol.now in
    let within = rw c.as_slice-ty-items.ensures at c.loop-i-test.true in
    let is = rw c.as_slice-ty-items.ensures at c.ty-item.is in
    omega (
      arith,
      c.member_of-member.ensures,
      c.requires.ready.rows.picked_count,
      argument_member m c.requires.ready.marked c.requires.ready.fits symbol c.requires.typed c.args.members.now
          c.args.elements.now c.requires.arguments c.loop-i.i c.ty-item.result within is,
    )

pub bounds-elements-i : goal.bounds-elements-i
bounds-elements-i g c =
    let m = (parts_of g.C.Choices.choices c.args.self.now.marked.now) in
    let symbol = c.args.symbol.now in
    let within = rw c.as_slice-ty-items.ensures at c.loop-i-test.true in
    let is = rw c.as_slice-ty-items.ensures at c.ty-item.is in
    omega (
      arith,
      within,
      as_many_elements (parts_of g.C.Choices.choices c.args.self.now.marked.now) c.requires.ready.marked c.requires.ready.fits c.args.symbol.now c.requires.typed
          c.args.members.now c.args.elements.now c.requires.arguments,
    )

pub bounds-as_slice-elements : goal.bounds-as_slice-elements
bounds-as_slice-elements g c =
    let m = (parts_of g.C.Choices.choices c.args.self.now.marked.now) in
    let symbol = c.args.symbol.now in
    let within = rw c.as_slice-ty-items.ensures at c.loop-i-test.true in
    let is = rw c.as_slice-ty-items.ensures at c.ty-item.is in
    let row = picked_row m (members_in m) c.args.self.now.picked.now
    c.requires.ready.rows (member_of (typed_in m) c.args.members.now c.ty-item.result)
    (argument_member m c.requires.ready.marked c.requires.ready.fits symbol c.requires.typed c.args.members.now
    c.args.elements.now c.requires.arguments c.loop-i.i c.ty-item.result within is)
    c.as_slice.result.now _
    (c.as_slice.ensures ∙ ap (λ k. get_or c.args.self.now.picked.now k c.index-self-member.result)
    c.member_of-member.ensures) in
    omega (
      arith,
      row.length_is,
      argument_element m c.requires.ready.marked c.requires.ready.fits symbol c.requires.typed c.args.members.now
          c.args.elements.now c.requires.arguments c.loop-i.i c.ty-item.result within is,
    )

pub overflow_mul-at-in-loop-i : goal.overflow_mul-at-in-loop-i
overflow_mul-at-in-loop-i g c =
    let m = (parts_of g.C.Choices.choices c.args.self.now.marked.now) in
    let symbol = c.args.symbol.now in
    let within = rw c.as_slice-ty-items.ensures at c.loop-i-test.true in
    let is = rw c.as_slice-ty-items.ensures at c.ty-item.is in
    let row = picked_row m (members_in m) c.args.self.now.picked.now
    c.requires.ready.rows (member_of (typed_in m) c.args.members.now c.ty-item.result)
    (argument_member m c.requires.ready.marked c.requires.ready.fits symbol c.requires.typed c.args.members.now
    c.args.elements.now c.requires.arguments c.loop-i.i c.ty-item.result within is)
    c.as_slice.result.now _
    (c.as_slice.ensures ∙ ap (λ k. get_or c.args.self.now.picked.now k c.index-self-member.result)
    c.member_of-member.ensures) in
    omega (
      arith,
      c.requires.entries,
      fold-fits (kept_count m.choices symbol + length symbol.arguments) m.model.size
          (numbers_in m symbol c.args.members.now c.args.elements.now)
          (each_number m c.requires.ready.marked c.requires.ready.fits symbol c.requires.typed c.args.members.now
          c.args.elements.now c.requires.arguments) (kept_count m.choices symbol + c.loop-i.i) c.loop-i.at
          (get_or c.as_slice.result.now (get_or c.args.elements.now c.loop-i.i 0) 0)
          (omega (arith, within))
          (row.each (get_or c.args.elements.now c.loop-i.i 0)
          (argument_element m c.requires.ready.marked c.requires.ready.fits symbol c.requires.typed c.args.members.now
          c.args.elements.now c.requires.arguments c.loop-i.i c.ty-item.result within is)
          ∙ number_of_element m c.requires.ready.marked c.requires.ready.fits symbol c.requires.typed c.args.members.now
          c.args.elements.now c.requires.arguments c.loop-i.i c.ty-item.result within is)
          (rw c.requires.kept at c.loop-i.invariant),
    )

pub overflow_add-at-in-loop-i : goal.overflow_add-at-in-loop-i
overflow_add-at-in-loop-i g c =
    let m = (parts_of g.C.Choices.choices c.args.self.now.marked.now) in
    let symbol = c.args.symbol.now in
    let within = rw c.as_slice-ty-items.ensures at c.loop-i-test.true in
    let is = rw c.as_slice-ty-items.ensures at c.ty-item.is in
    let row = picked_row m (members_in m) c.args.self.now.picked.now
    c.requires.ready.rows (member_of (typed_in m) c.args.members.now c.ty-item.result)
    (argument_member m c.requires.ready.marked c.requires.ready.fits symbol c.requires.typed c.args.members.now
    c.args.elements.now c.requires.arguments c.loop-i.i c.ty-item.result within is)
    c.as_slice.result.now _
    (c.as_slice.ensures ∙ ap (λ k. get_or c.args.self.now.picked.now k c.index-self-member.result)
    c.member_of-member.ensures) in
    omega (
      arith,
      c.requires.entries,
      fold-fits (kept_count m.choices symbol + length symbol.arguments) m.model.size
          (numbers_in m symbol c.args.members.now c.args.elements.now)
          (each_number m c.requires.ready.marked c.requires.ready.fits symbol c.requires.typed c.args.members.now
          c.args.elements.now c.requires.arguments) (kept_count m.choices symbol + c.loop-i.i) c.loop-i.at
          (get_or c.as_slice.result.now (get_or c.args.elements.now c.loop-i.i 0) 0)
          (omega (arith, within))
          (row.each (get_or c.args.elements.now c.loop-i.i 0)
          (argument_element m c.requires.ready.marked c.requires.ready.fits symbol c.requires.typed c.args.members.now
          c.args.elements.now c.requires.arguments c.loop-i.i c.ty-item.result within is)
          ∙ number_of_element m c.requires.ready.marked c.requires.ready.fits symbol c.requires.typed c.args.members.now
          c.args.elements.now c.requires.arguments c.loop-i.i c.ty-item.result within is)
          (rw c.requires.kept at c.loop-i.invariant),
    )

pub loop-i-preserved : goal.loop-i-preserved
loop-i-preserved g c =
    let m = (parts_of g.C.Choices.choices c.args.self.now.marked.now) in
    let symbol = c.args.symbol.now in
    let within = rw c.as_slice-ty-items.ensures at c.loop-i-test.true in
    let is = rw c.as_slice-ty-items.ensures at c.ty-item.is in
    let row = picked_row m (members_in m) c.args.self.now.picked.now
    c.requires.ready.rows (member_of (typed_in m) c.args.members.now c.ty-item.result)
    (argument_member m c.requires.ready.marked c.requires.ready.fits symbol c.requires.typed c.args.members.now
    c.args.elements.now c.requires.arguments c.loop-i.i c.ty-item.result within is)
    c.as_slice.result.now _
    (c.as_slice.ensures ∙ ap (λ k. get_or c.args.self.now.picked.now k c.index-self-member.result)
    c.member_of-member.ensures) in
    let next : kept_count m.choices symbol + c.loop-i.i + 1 ≡ kept_count m.choices symbol + (c.loop-i.i + 1) = omega arith in
    rw c.requires.kept
    (fold-step (kept_count m.choices symbol + length symbol.arguments) m.model.size
    (numbers_in m symbol c.args.members.now c.args.elements.now)
    (each_number m c.requires.ready.marked c.requires.ready.fits symbol c.requires.typed c.args.members.now
    c.args.elements.now c.requires.arguments) (kept_count m.choices symbol + c.loop-i.i) c.loop-i.at
    (get_or c.as_slice.result.now (get_or c.args.elements.now c.loop-i.i 0) 0)
    (omega (arith, within))
    (row.each (get_or c.args.elements.now c.loop-i.i 0)
    (argument_element m c.requires.ready.marked c.requires.ready.fits symbol c.requires.typed c.args.members.now
    c.args.elements.now c.requires.arguments c.loop-i.i c.ty-item.result within is)
    ∙ number_of_element m c.requires.ready.marked c.requires.ready.fits symbol c.requires.typed c.args.members.now
    c.args.elements.now c.requires.arguments c.loop-i.i c.ty-item.result within is)
    (rw c.requires.kept at c.loop-i.invariant)
    ∙ ap
    (λ n. place (take n (bounds_in m symbol))
    (take n (numbers_in m symbol c.args.members.now c.args.elements.now))) next)

pub returns : goal.returns
returns g c =
    let m = (parts_of g.C.Choices.choices c.args.self.now.marked.now) in
    let symbol = c.args.symbol.now in
    let done = rw c.as_slice-ty-items.ensures at c.loop-i-test.false in
    fold-placed (kept_count m.choices symbol + length symbol.arguments) m.model.size
    (numbers_in m symbol c.args.members.now c.args.elements.now)
    (each_number m c.requires.ready.marked c.requires.ready.fits symbol c.requires.typed c.args.members.now
    c.args.elements.now c.requires.arguments) (kept_count m.choices symbol + c.loop-i.i) c.loop-i.at (omega (arith, done)) (rw c.requires.kept at c.loop-i.invariant)
