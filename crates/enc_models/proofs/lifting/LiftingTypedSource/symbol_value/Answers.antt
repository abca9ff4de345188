use Rattle.std.proofs.Common.{arith, ◌≤◌, ◌∙◌, ◌<◌, sym, ap, subst, length, get_or, Some}
use Rattle.tf_core.specs.Typing.{IsType}
use Rattle.tf_core.specs.Structures.{member_of, AreArguments}
use Rattle.enc_marks.specs.Occurrence.{count_below}
use Rattle.enc_marks.proofs.Ranks.{count_below-le}
use Rattle.enc_laws.proofs.Selected.{result_formed}
use Rattle.enc_models.specs.Calls.Lifting.{parts_of, members_in, lift_in, typed_in, picks_in}
use Rattle.enc_models.proofs.PickedNumbers.{picked_row}
use Rattle.enc_models.proofs.LiftedValues.{symbol_in, stated_is, as_many_members, each_member, member_small, entry_small, absent_is, truth_is, rank_is}
use Rattle.enc_models.proofs.lifting.LiftingTypedSource.symbol_value.Goals as goal

pub member_of-member-requires-clause-members : goal.member_of-member-requires-clause-members
member_of-member-requires-clause-members g c =
    let m = (parts_of g.C.Choices.choices c.args.self.now.marked.now) in
    let sig = m.normal.signature in
    let stated = c.index-as_slice-symbol.result in
    let same = stated_is sig.symbols c.as_slice.result.now c.args.symbol c.requires.within.symbol stated
    c.requires.within.at c.as_slice.ensures c.index-as_slice-symbol.is in
    let found = c.requires.within.at ∙ ap Some same in
    let are = subst (λ one. AreArguments (typed_in m) one c.args.members.now c.args.elements.now) same
    c.requires.within.arguments in
    let typed = symbol_in m c.requires.ready.marked c.args.symbol stated found in
    each_member m c.requires.ready.marked c.requires.ready.fits stated typed c.args.members.now c.args.elements.now are

pub member_of-member-requires-clause-typed : goal.member_of-member-requires-clause-typed
member_of-member-requires-clause-typed g c =
    let m = (parts_of g.C.Choices.choices c.args.self.now.marked.now) in
    let sig = m.normal.signature in
    let stated = c.index-as_slice-symbol.result in
    let same = stated_is sig.symbols c.as_slice.result.now c.args.symbol c.requires.within.symbol stated
    c.requires.within.at c.as_slice.ensures c.index-as_slice-symbol.is in
    let found = c.requires.within.at ∙ ap Some same in
    let are = subst (λ one. AreArguments (typed_in m) one c.args.members.now c.args.elements.now) same
    c.requires.within.arguments in
    let typed = symbol_in m c.requires.ready.marked c.args.symbol stated found in
    let formed : IsType sig (length c.args.members.now) c.in-Some.ty =
    subst (λ n. IsType sig n c.in-Some.ty) (as_many_members m c.requires.ready.marked c.requires.ready.fits stated typed c.args.members.now c.args.elements.now are)
    (result_formed sig c.args.symbol stated c.in-Some.ty c.requires.ready.marked.signature found
    c.in-Some.is) in
    formed

pub read_in-number-requires-clause-member : goal.read_in-number-requires-clause-member
read_in-number-requires-clause-member g c =
    let m = (parts_of g.C.Choices.choices c.args.self.now.marked.now) in
    let sig = m.normal.signature in
    let stated = c.index-as_slice-symbol.result in
    let same = stated_is sig.symbols c.as_slice.result.now c.args.symbol c.requires.within.symbol stated
    c.requires.within.at c.as_slice.ensures c.index-as_slice-symbol.is in
    let found = c.requires.within.at ∙ ap Some same in
    let are = subst (λ one. AreArguments (typed_in m) one c.args.members.now c.args.elements.now) same
    c.requires.within.arguments in
    let typed = symbol_in m c.requires.ready.marked c.args.symbol stated found in
    let formed : IsType sig (length c.args.members.now) c.in-Some.ty =
    subst (λ n. IsType sig n c.in-Some.ty) (as_many_members m c.requires.ready.marked c.requires.ready.fits stated typed c.args.members.now c.args.elements.now are)
    (result_formed sig c.args.symbol stated c.in-Some.ty c.requires.ready.marked.signature found
    c.in-Some.is) in
    let small = member_small m c.requires.ready.marked c.requires.ready.fits (length c.args.members.now) c.args.members.now
    c.in-Some.ty formed (each_member m c.requires.ready.marked c.requires.ready.fits stated typed c.args.members.now c.args.elements.now are) in
    let member : c.member_of-member.result < members_in m =
    subst (λ n. n < members_in m) (sym c.member_of-member.ensures) small in
    member

pub read_in-number-requires-clause-number : goal.read_in-number-requires-clause-number
read_in-number-requires-clause-number g c =
    let m = (parts_of g.C.Choices.choices c.args.self.now.marked.now) in
    let sig = m.normal.signature in
    let stated = c.index-as_slice-symbol.result in
    let same = stated_is sig.symbols c.as_slice.result.now c.args.symbol c.requires.within.symbol stated
    c.requires.within.at c.as_slice.ensures c.index-as_slice-symbol.is in
    let found = c.requires.within.at ∙ ap Some same in
    let are = subst (λ one. AreArguments (typed_in m) one c.args.members.now c.args.elements.now) same
    c.requires.within.arguments in
    let typed = symbol_in m c.requires.ready.marked c.args.symbol stated found in
    let formed : IsType sig (length c.args.members.now) c.in-Some.ty =
    subst (λ n. IsType sig n c.in-Some.ty) (as_many_members m c.requires.ready.marked c.requires.ready.fits stated typed c.args.members.now c.args.elements.now are)
    (result_formed sig c.args.symbol stated c.in-Some.ty c.requires.ready.marked.signature found
    c.in-Some.is) in
    let small = member_small m c.requires.ready.marked c.requires.ready.fits (length c.args.members.now) c.args.members.now
    c.in-Some.ty formed (each_member m c.requires.ready.marked c.requires.ready.fits stated typed c.args.members.now c.args.elements.now are) in
    let entry : c.entry-entry.result < m.model.size =
    subst (λ n. n < m.model.size) (sym c.entry-entry.ensures)
    (entry_small m c.requires.ready.marked c.requires.ready.fits stated typed c.args.members.now c.args.elements.now are c.args.symbol found c.table-table.result.now c.table-table.ensures c.in-Some.ty c.in-Some.is c.if-table-eq0.false) in
    entry

pub bounds-self-member : goal.bounds-self-member
bounds-self-member g c =
    let m = (parts_of g.C.Choices.choices c.args.self.now.marked.now) in
    let sig = m.normal.signature in
    let stated = c.index-as_slice-symbol.result in
    let same = stated_is sig.symbols c.as_slice.result.now c.args.symbol c.requires.within.symbol stated
    c.requires.within.at c.as_slice.ensures c.index-as_slice-symbol.is in
    let found = c.requires.within.at ∙ ap Some same in
    let are = subst (λ one. AreArguments (typed_in m) one c.args.members.now c.args.elements.now) same
    c.requires.within.arguments in
    let typed = symbol_in m c.requires.ready.marked c.args.symbol stated found in
    let formed : IsType sig (length c.args.members.now) c.in-Some.ty =
    subst (λ n. IsType sig n c.in-Some.ty) (as_many_members m c.requires.ready.marked c.requires.ready.fits stated typed c.args.members.now c.args.elements.now are)
    (result_formed sig c.args.symbol stated c.in-Some.ty c.requires.ready.marked.signature found
    c.in-Some.is) in
    let small = member_small m c.requires.ready.marked c.requires.ready.fits (length c.args.members.now) c.args.members.now
    c.in-Some.ty formed (each_member m c.requires.ready.marked c.requires.ready.fits stated typed c.args.members.now c.args.elements.now are) in
    omega (arith, small, c.member_of-member.ensures, c.requires.ready.rows.picked_count)

pub rank_of-requires : goal.rank_of-requires
rank_of-requires g c =
    let m = (parts_of g.C.Choices.choices c.args.self.now.marked.now) in
    let sig = m.normal.signature in
    let stated = c.index-as_slice-symbol.result in
    let same = stated_is sig.symbols c.as_slice.result.now c.args.symbol c.requires.within.symbol stated
    c.requires.within.at c.as_slice.ensures c.index-as_slice-symbol.is in
    let found = c.requires.within.at ∙ ap Some same in
    let are = subst (λ one. AreArguments (typed_in m) one c.args.members.now c.args.elements.now) same
    c.requires.within.arguments in
    let typed = symbol_in m c.requires.ready.marked c.args.symbol stated found in
    let formed : IsType sig (length c.args.members.now) c.in-Some.ty =
    subst (λ n. IsType sig n c.in-Some.ty) (as_many_members m c.requires.ready.marked c.requires.ready.fits stated typed c.args.members.now c.args.elements.now are)
    (result_formed sig c.args.symbol stated c.in-Some.ty c.requires.ready.marked.signature found
    c.in-Some.is) in
    let small = member_small m c.requires.ready.marked c.requires.ready.fits (length c.args.members.now) c.args.members.now
    c.in-Some.ty formed (each_member m c.requires.ready.marked c.requires.ready.fits stated typed c.args.members.now c.args.elements.now are) in
    let row = picked_row m (members_in m) c.args.self.now.picked.now c.requires.ready.rows
    (member_of (typed_in m) c.args.members.now c.in-Some.ty) small c.as_slice-in-Some.result.now _
    (c.as_slice-in-Some.ensures
    ∙ ap (λ k. get_or c.args.self.now.picked.now k c.index-self-member.result)
    c.member_of-member.ensures) in
    record {
      few = omega (
        arith,
        c.requires.ready.domain,
        row.length_is,
        count_below-le m.model.size (picks_in m (member_of (typed_in m) c.args.members.now c.in-Some.ty)),
      );
    }

pub returns-in-Some : goal.returns-in-Some
returns-in-Some g c =
    let m = (parts_of g.C.Choices.choices c.args.self.now.marked.now) in
    let sig = m.normal.signature in
    let stated = c.index-as_slice-symbol.result in
    let same = stated_is sig.symbols c.as_slice.result.now c.args.symbol c.requires.within.symbol stated
    c.requires.within.at c.as_slice.ensures c.index-as_slice-symbol.is in
    let found = c.requires.within.at ∙ ap Some same in
    let are = subst (λ one. AreArguments (typed_in m) one c.args.members.now c.args.elements.now) same
    c.requires.within.arguments in
    let typed = symbol_in m c.requires.ready.marked c.args.symbol stated found in
    let formed : IsType sig (length c.args.members.now) c.in-Some.ty =
    subst (λ n. IsType sig n c.in-Some.ty) (as_many_members m c.requires.ready.marked c.requires.ready.fits stated typed c.args.members.now c.args.elements.now are)
    (result_formed sig c.args.symbol stated c.in-Some.ty c.requires.ready.marked.signature found
    c.in-Some.is) in
    let small = member_small m c.requires.ready.marked c.requires.ready.fits (length c.args.members.now) c.args.members.now
    c.in-Some.ty formed (each_member m c.requires.ready.marked c.requires.ready.fits stated typed c.args.members.now c.args.elements.now are) in
    let row = picked_row m (members_in m) c.args.self.now.picked.now c.requires.ready.rows
    (member_of (typed_in m) c.args.members.now c.in-Some.ty) small c.as_slice-in-Some.result.now _
    (c.as_slice-in-Some.ensures
    ∙ ap (λ k. get_or c.args.self.now.picked.now k c.index-self-member.result)
    c.member_of-member.ensures) in
    let inside : c.read_in-number.result ≤ m.model.size = omega (arith, c.read_in-number.ensures.within) in
    c.rank_of.ensures (picks_in m (member_of (typed_in m) c.args.members.now c.in-Some.ty))
    m.model.size row inside
    ∙ ap (λ v. count_below v (picks_in m (member_of (typed_in m) c.args.members.now c.in-Some.ty)))
    (c.read_in-number.ensures.exact
    ∙ ap (λ u. (lift_in m).into u c.entry-entry.result) c.member_of-member.ensures
    ∙ ap ((lift_in m).into (member_of (typed_in m) c.args.members.now c.in-Some.ty))
    c.entry-entry.ensures)
    ∙ rank_is m c.requires.ready.marked c.requires.ready.fits stated typed c.args.members.now c.args.elements.now are c.args.symbol found c.table-table.result.now c.table-table.ensures c.if-table-eq0.false c.in-Some.ty c.in-Some.is

pub returns-in-None : goal.returns-in-None
returns-in-None g c =
    let m = (parts_of g.C.Choices.choices c.args.self.now.marked.now) in
    let sig = m.normal.signature in
    let stated = c.index-as_slice-symbol.result in
    let same = stated_is sig.symbols c.as_slice.result.now c.args.symbol c.requires.within.symbol stated
    c.requires.within.at c.as_slice.ensures c.index-as_slice-symbol.is in
    let found = c.requires.within.at ∙ ap Some same in
    let are = subst (λ one. AreArguments (typed_in m) one c.args.members.now c.args.elements.now) same
    c.requires.within.arguments in
    let typed = symbol_in m c.requires.ready.marked c.args.symbol stated found in
    c.entry-entry.ensures
    ∙ truth_is m c.requires.ready.marked c.requires.ready.fits stated typed c.args.members.now c.args.elements.now are c.args.symbol found c.table-table.result.now c.table-table.ensures c.if-table-eq0.false c.in-None.is

pub returns-then-table-eq0 : goal.returns-then-table-eq0
returns-then-table-eq0 g c =
    let m = (parts_of g.C.Choices.choices c.args.self.now.marked.now) in
    let sig = m.normal.signature in
    let stated = c.index-as_slice-symbol.result in
    let same = stated_is sig.symbols c.as_slice.result.now c.args.symbol c.requires.within.symbol stated
    c.requires.within.at c.as_slice.ensures c.index-as_slice-symbol.is in
    let found = c.requires.within.at ∙ ap Some same in
    let are = subst (λ one. AreArguments (typed_in m) one c.args.members.now c.args.elements.now) same
    c.requires.within.arguments in
    let typed = symbol_in m c.requires.ready.marked c.args.symbol stated found in
    absent_is m c.requires.ready.marked c.requires.ready.fits stated typed c.args.members.now c.args.elements.now are c.args.symbol found c.table-table.result.now c.table-table.ensures c.if-table-eq0.true
