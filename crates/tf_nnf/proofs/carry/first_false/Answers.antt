use Rattle.std.proofs.Common.{ℕ, ◌-◌, ◌<◌, ◌≡◌, Bool, false, List, [], ◌++◌, length, replicate, take, drop, sym, ap, subst, ◌∙◌, arith, refl}
use Rattle.std.specs.Prelude.{not, IsTrue}
use Rattle.enc_base.specs.Tables.{EachBelow, tuple_count, place}
use Rattle.enc_base.specs.Tuples.{IsNext, IsLast}
use Rattle.enc_base.proofs.Lends.{refill-written}
use Rattle.enc_base.proofs.TupleOrder.{zeros_below, place-zeros-over, fewer_left}
use Rattle.tf_core.specs.TypedTables.{reading}
use Rattle.tf_models.specs.Reading.{tables}
use Rattle.tf_nnf.specs.Extension.{is_false_at}
use Rattle.tf_nnf.specs.Search.{HasRoom}
use Rattle.tf_nnf.proofs.Extended.{some_false}
use Rattle.tf_nnf.proofs.NextTuple.{EarlierFail, none_earlier, next_earlier, next_of_some, not_last, first_from, over_its_length}
use Rattle.tf_nnf.proofs.carry.first_false.Goals as goal

pub loop-members-init : goal.loop-members-init
loop-members-init c =
    let count : ℕ = c.args.stated.now.type_variables in
    let bound : ℕ = length c.args.structure.now.sizes in
    let test : List ℕ → Bool =
    is_false_at (reading c.args.problem.now.signature (tables c.args.structure.now)) c.args.stated.now in
    let zeros : c.in-Ok.members.items ≡ replicate count 0 =
    c.in-Ok.ensures.items_if_clones_equal (λ y is. is) in
    let room : HasRoom c.args.problem.now
    (record {
      members = [];
      members_room = c.most_types.result;
      elements = [];
      elements_room = c.most_terms.result;
    }) = record {
      members = omega (arith, c.most_types.ensures.exact);
      elements = omega (arith, c.most_terms.ensures.exact);
      none = refl;
    } in
    record {
      room = subst (HasRoom c.args.problem.now) (sym c.in_ok-env.ensures.ok) room;
      searched =
          subst (EarlierFail (replicate count bound) test) (sym zeros)
          (none_earlier (replicate count bound) test (replicate count 0)
          (zeros_below count bound c.requires.refuted.model.model.structure.some)
          (place-zeros-over count bound));
    }

pub next_tuple_below-requires : goal.next_tuple_below-requires
next_tuple_below-requires c =
    let count : ℕ = c.args.stated.now.type_variables in
    let bound : ℕ = length c.args.structure.now.sizes in
    let same : c.loop-members.members.items ≡ c.deref_mut.result.now = sym c.deref_mut.ensures.value in
    record {
      below =
          subst
          (λ (sizes : List ℕ).
          EachBelow (replicate (length c.deref_mut.result.now) (length sizes))
          c.deref_mut.result.now)
          (sym c.as_slice.ensures)
          (subst (λ (members : List ℕ). EachBelow (replicate (length members) bound) members) same
          (subst (λ (bounds : List ℕ). EachBelow bounds c.loop-members.members.items)
          (sym (over_its_length count bound c.loop-members.members.items
          c.loop-members.invariant.searched.below))
          c.loop-members.invariant.searched.below));
    }

-- what `next_tuple_below` writes is the next tuple, and the vector then holds it

written-is : (c : goal.After-members-in-loop-members-3-1) →
    take c.loop-members.members.len
    (c.next_tuple_below.new.values
    ++ drop (length c.next_tuple_below.new.values) c.loop-members.members.items)
    ≡ c.next_tuple_below.new.values
written-is c =
    refill-written c.loop-members.members.len c.next_tuple_below.new.values
    c.loop-members.members.items
    (c.next_tuple_below.auto.values ∙ ap length c.deref_mut.ensures.value
    ∙ sym c.loop-members.members.ok.0)

bounds-are : (c : goal.After-members-in-loop-members-3-1) →
    replicate (length c.deref_mut.result.now) (length c.as_slice.result.now)
    ≡ replicate c.args.stated.now.type_variables (length c.args.structure.now.sizes)
bounds-are c =
    ap (λ (sizes : List ℕ). replicate (length c.deref_mut.result.now) (length sizes)) c.as_slice.ensures
    ∙ ap (λ (members : List ℕ). replicate (length members) (length c.args.structure.now.sizes))
    c.deref_mut.ensures.value
    ∙ over_its_length c.args.stated.now.type_variables (length c.args.structure.now.sizes)
    c.loop-members.members.items c.loop-members.invariant.searched.below

fails-at : (c : goal.After-members-in-loop-members-3-1) →
    is_false_at (reading c.args.problem.now.signature (tables c.args.structure.now))
    c.args.stated.now c.loop-members.members.items ≡ false
fails-at c =
    ap
    (is_false_at (reading c.args.problem.now.signature (tables c.args.structure.now))
    c.args.stated.now)
    (sym c.deref.ensures.value)
    ∙ ap not (sym c.is_true.ensures.exact ∙ c.loop-members-test.true)

next-is : (c : goal.After-members-in-loop-members-3-1) →
    IsNext (replicate c.args.stated.now.type_variables (length c.args.structure.now.sizes))
    c.loop-members.members.items c.next_tuple_below.new.values
next-is c =
    let bounds : List ℕ =
    replicate c.args.stated.now.type_variables (length c.args.structure.now.sizes) in
    let test : List ℕ → Bool =
    is_false_at (reading c.args.problem.now.signature (tables c.args.structure.now))
    c.args.stated.now in
    next_of_some bounds test c.loop-members.members.items c.next_tuple_below.new.values
    c.next_tuple_below.result
    (λ more.
    subst (λ (members : List ℕ). IsNext bounds members c.next_tuple_below.new.values)
    c.deref_mut.ensures.value
    (subst
    (λ (bounds : List ℕ). IsNext bounds c.deref_mut.result.now c.next_tuple_below.new.values)
    (bounds-are c) (c.next_tuple_below.ensures.next more)))
    (λ none.
    subst (IsLast bounds) c.deref_mut.ensures.value
    (subst (λ (bounds : List ℕ). IsLast bounds c.deref_mut.result.now) (bounds-are c)
    (c.next_tuple_below.ensures.last none)))
    (not_last bounds test c.loop-members.members.items c.loop-members.invariant.searched
    (fails-at c)
    (some_false c.args.problem.now (tables c.args.structure.now) c.args.stated.now
    c.requires.refuted.model c.requires.refuted.found))

pub loop-members-smaller : goal.loop-members-smaller
loop-members-smaller c =
    let bounds : List ℕ =
    replicate c.args.stated.now.type_variables (length c.args.structure.now.sizes) in
    subst
    (λ (members : List ℕ).
    tuple_count bounds - place bounds members
    < tuple_count bounds - place bounds c.loop-members.members.items)
    (sym (written-is c))
    (fewer_left bounds c.loop-members.members.items c.next_tuple_below.new.values (next-is c))

pub loop-members-preserved : goal.loop-members-preserved
loop-members-preserved c =
    let bounds : List ℕ =
    replicate c.args.stated.now.type_variables (length c.args.structure.now.sizes) in
    let test : List ℕ → Bool =
    is_false_at (reading c.args.problem.now.signature (tables c.args.structure.now))
    c.args.stated.now in
    record {
      room = c.is_true.ensures.room;
      searched =
          subst (EarlierFail bounds test) (sym (written-is c))
          (next_earlier bounds test c.loop-members.members.items c.next_tuple_below.new.values
          c.loop-members.invariant.searched (fails-at c) (next-is c));
    }

pub returns : goal.returns
returns c =
    let s = reading c.args.problem.now.signature (tables c.args.structure.now) in
    let passes : IsTrue (is_false_at s c.args.stated.now c.loop-members.members.items) =
    ap (λ members. is_false_at s c.args.stated.now members) (sym c.deref.ensures.value)
    ∙ ap not (sym c.is_true.ensures.exact ∙ c.loop-members-test.false) in
    first_from _ _ c.loop-members.members.items c.loop-members.invariant.searched passes
