use Rattle.std.proofs.Common.{◌≡◌, ◌≤◌, ◌<◌, ◌-◌, ◌+◌, ◌++◌, ◌∷◌, [], Bool, List, length, map, take, cond, get_or, false, ap, sym, ◌∙◌, arith}
use Rattle.std.proofs.lemmas.List.{take_all}
use Rattle.std.proofs.lemmas.List.FromFn.{get_or-map-range_with_len, length-map-range_with_len}
use Rattle.tf_core.specs.declared.ty.Ty.{Ty}
use Rattle.tf_core.specs.declared.ty.Ty.TheVariants as type
use Rattle.fof_models.specs.declared.formula.FofTerm.{FofTerm}
use Rattle.fof_models.specs.declared.formula.FofTerm.TheVariants.{Var}
use Rattle.enc_marks.specs.Axioms.{own_types}
use Rattle.enc_marks.specs.Translation.{selected, type_term}
use Rattle.enc_marks.proofs.Places.{map_selected-more, selected-none}
use Rattle.enc_marks.proofs.Translation.{type_term-variable}
use Rattle.enc_marks.proofs.axioms.own_types_kept.Goals as goal

pub loop-i-init : goal.loop-i-init
loop-i-init c = λ number.
    c.new-made.ensures
    ∙ sym (ap (map (type_term number c.args.depth))
    (selected-none c.args.kept.now (own_types c.args.symbol.now)))

pub loop-i-preserved : goal.loop-i-preserved
loop-i-preserved c = λ number.
    let depth = c.args.depth in
    let term = type_term number depth in
    let kept = c.args.kept.now in
    let count = c.args.symbol.now.parameters in
    let own = own_types c.args.symbol.now in
    let i = c.loop-i.i in
    let front = map term (selected kept (take i own)) in
    let within : i < length own =
    let long = length-map-range_with_len type.Var 0 count in omega (
      arith,
      long,
      c.loop-i-test.true,
    ) in
    let variable : Var (depth - (i + 1)) ≡ term (get_or own i (type.Var 0)) =
    sym (type_term-variable number depth i)
    ∙ ap term (sym (get_or-map-range_with_len type.Var 0 count i i (type.Var 0) c.loop-i-test.true
    (omega arith))) in
    c.in_ok-add_variable.ensures
    ∙ ap (λ (made : List FofTerm). made ++ cond c.flag_at.result (Var (depth - (i + 1)) ∷ []) [])
    (c.loop-i.invariant number)
    ∙ ap (λ (b : Bool). front ++ cond b (Var (depth - (i + 1)) ∷ []) []) c.flag_at.ensures
    ∙ ap (λ (t : FofTerm). front ++ cond (get_or kept i false) (t ∷ []) []) variable
    ∙ sym (map_selected-more term kept own i (type.Var 0) within)

pub returns : goal.returns
returns c = λ number.
    let count = c.args.symbol.now.parameters in
    let own = own_types c.args.symbol.now in
    let enough : length own ≤ c.loop-i.i =
    let long = length-map-range_with_len type.Var 0 count in omega (
      arith,
      long,
      c.loop-i-test.false,
    ) in
    c.loop-i.invariant number
    ∙ ap (λ (types : List Ty). map (type_term number c.args.depth) (selected c.args.kept.now types))
    (take_all c.loop-i.i own enough)
