use Rattle.std.proofs.Common.{ℕ, ◌≡◌, ◌<◌, ◌+◌, ◌∙◌, sym, ap, subst, arith, [], get_or, length, map, replicate, set, slice_get, Some, IsTrue}
use Rattle.std.specs.List.{AllByRecursion, list_any}
use Rattle.enc_base.specs.Tables.{tuple_count}
use Rattle.tf_core.specs.declared.ty.Ty.{Ty}
use Rattle.tf_core.specs.declared.ty.Ty.TheVariants as type
use Rattle.tf_core.specs.declared.signature.Constructor.{Constructor}
use Rattle.tf_core.specs.Typing.{IsType, AreTypes}
use Rattle.enc_models.specs.Calls.SortNumbers.{number_in, AreEntered}
use Rattle.enc_models.proofs.SortTables.{IsFormedSort, formed_sort_at, all_zeros, all-variable, all-applied, table_within, place_inside, read_at}
use Rattle.enc_models.proofs.sort_tables.tables_over_sorts.Goals as goal
use Rattle.enc_models.proofs.sort_tables.tables_over_sorts.Goals.{in-Var, in-Apply+in_ok-at-in-Apply}

pub loop-number-init : goal.loop-number-init
loop-number-init c =
    record {
      entered =
          subst (AreEntered c.args.signature.now c.args.sorts.now 0)
          (sym (c.in_ok-tables.ensures
          ∙ ap (map (λ (constructor : Constructor). replicate (tuple_count (replicate
          constructor.arity (length c.args.sorts.now))) 0)) c.as_slice.ensures))
          (all_zeros c.args.signature.now c.args.sorts.now);
      numbered = c.requires.numbered;
    }

pub place_of_sorts-requires-clause-few : goal.place_of_sorts-requires-clause-few
place_of_sorts-requires-clause-few c =
    (formed_sort_at c.args.signature.now c.args.sorts.now c.requires.typed c.requires.arguments
    c.loop-number.number c.index-sorts-number.result c.loop-number-test.true
    c.index-sorts-number.is c.in-Apply.c c.in-Apply.types c.in-Apply.is
    c.as_slice-in-Apply.result.now c.as_slice-in-Apply.ensures c.requires.within).few

pub place_of_sorts-requires-clause-among : goal.place_of_sorts-requires-clause-among
place_of_sorts-requires-clause-among c =
    (formed_sort_at c.args.signature.now c.args.sorts.now c.requires.typed c.requires.arguments
    c.loop-number.number c.index-sorts-number.result c.loop-number-test.true
    c.index-sorts-number.is c.in-Apply.c c.in-Apply.types c.in-Apply.is
    c.as_slice-in-Apply.result.now c.as_slice-in-Apply.ensures c.requires.within).among

pub enter-requires-clause-table : goal.enter-requires-clause-table
enter-requires-clause-table c =
    let sorts = c.args.sorts.now in
    let sort = formed_sort_at c.args.signature.now sorts c.requires.typed c.requires.arguments
    c.loop-number.number c.index-sorts-number.result c.loop-number-test.true
    c.index-sorts-number.is c.in-Apply.c c.in-Apply.types c.in-Apply.is
    c.as_slice-in-Apply.result.now c.as_slice-in-Apply.ensures c.requires.within in
    table_within c.args.signature.now sorts c.requires.once c.loop-number.number
    c.loop-number-test.true c.loop-number.tables c.loop-number.invariant.entered c.in-Apply.c
    c.as_slice-in-Apply.result.now sort.is sort.constructor sort.at sort.arity sort.among
    c.in_ok-at-in-Apply.at c.in_ok-at-in-Apply.ensures.exact.place_is

pub enter-requires-clause-place : goal.enter-requires-clause-place
enter-requires-clause-place c =
    let sorts = c.args.sorts.now in
    let sort = formed_sort_at c.args.signature.now sorts c.requires.typed c.requires.arguments
    c.loop-number.number c.index-sorts-number.result c.loop-number-test.true
    c.index-sorts-number.is c.in-Apply.c c.in-Apply.types c.in-Apply.is
    c.as_slice-in-Apply.result.now c.as_slice-in-Apply.ensures c.requires.within in
    place_inside c.args.signature.now sorts c.requires.once c.loop-number.number
    c.loop-number-test.true c.loop-number.tables c.loop-number.invariant.entered c.in-Apply.c
    c.as_slice-in-Apply.result.now sort.is sort.constructor sort.at sort.arity sort.among
    c.in_ok-at-in-Apply.at c.in_ok-at-in-Apply.ensures.exact.place_is

pub loop-number-preserved : goal.loop-number-preserved
loop-number-preserved c =
    let sorts = c.args.sorts.now in
    let g = c.args.signature.now in
    let number = c.loop-number.number in
    let so_far = c.loop-number.invariant in
    record {
      entered = elim c.match-sort.branch [
        | in-Var w ↦
            subst (AreEntered g sorts (number + 1)) (sym w.tables-is)
            (all-variable g sorts c.requires.once number c.loop-number-test.true
            c.loop-number.tables so_far.entered w.in-Var.field-0
            (read_at sorts number c.index-sorts-number.result c.loop-number-test.true
            c.index-sorts-number.is
            ∙ w.in-Var.is))
        | in-Apply+in_ok-at-in-Apply w ↦
            let sort = formed_sort_at g sorts c.requires.typed c.requires.arguments number
            c.index-sorts-number.result c.loop-number-test.true c.index-sorts-number.is
            w.in-Apply.c w.in-Apply.types w.in-Apply.is w.as_slice-in-Apply.result.now
            w.as_slice-in-Apply.ensures c.requires.within in
            subst (AreEntered g sorts (number + 1)) (sym (w.tables-is ∙ w.enter.ensures))
            (all-applied g sorts c.requires.once number c.loop-number-test.true
            c.loop-number.tables so_far.entered w.in-Apply.c w.as_slice-in-Apply.result.now sort.is
            sort.constructor sort.at sort.arity sort.among w.in_ok-at-in-Apply.at
            w.in_ok-at-in-Apply.ensures.exact.place_is)
      ];
      numbered = elim c.match-sort.branch [
        | in-Var w ↦ rw w.numbers-is so_far.numbered
        | in-Apply+in_ok-at-in-Apply w ↦ rw w.numbers-is w.in_ok-at-in-Apply.ensures.kept
      ];
    }

pub returns : goal.returns
returns c =
    let all : c.loop-number.number ≡ length c.args.sorts.now =
    omega (arith, c.loop-number.auto.number-end, c.loop-number-test.false) in
    subst (λ n. AreEntered c.args.signature.now c.args.sorts.now n c.loop-number.tables) all
    c.loop-number.invariant.entered
