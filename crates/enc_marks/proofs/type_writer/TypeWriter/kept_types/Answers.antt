use Rattle.std.proofs.Common.{◌++◌, ◌∷◌, [], Bool, List, map, take, cond, get_or, false, ap, sym, ◌∙◌}
use Rattle.std.proofs.lemmas.List.{take_all}
use Rattle.tf_core.specs.declared.ty.Ty.{Ty}
use Rattle.fof_models.specs.declared.formula.FofTerm.{FofTerm}
use Rattle.enc_marks.specs.Translation.{selected}
use Rattle.enc_marks.specs.Calls.Writing.{type_term_in}
use Rattle.enc_marks.proofs.Places.{map_selected-more, selected-none}
use Rattle.enc_marks.proofs.type_writer.TypeWriter.kept_types.Goals as goal

pub loop-i-init : goal.loop-i-init
loop-i-init c =
    let term = type_term_in c.args.self.now.normal.now c.args.depth in
    c.new-made.ensures ∙ sym (ap (map term) (selected-none c.args.kept.now c.args.types.now))

pub loop-i-preserved : goal.loop-i-preserved
loop-i-preserved c =
    let term = type_term_in c.args.self.now.normal.now c.args.depth in
    let kept = c.args.kept.now in
    let types = c.args.types.now in
    let i = c.loop-i.i in
    let ty = c.index-types-i.result in
    let front = map term (selected kept (take i types)) in
    c.in_ok-add_type.ensures
    ∙ ap (λ (made : List FofTerm). made ++ cond c.flag_at.result (term ty ∷ []) [])
    c.loop-i.invariant
    ∙ ap (λ (b : Bool). front ++ cond b (term ty ∷ []) []) c.flag_at.ensures
    ∙ ap (λ (t : Ty). front ++ cond (get_or kept i false) (term t ∷ []) []) c.index-types-i.is
    ∙ sym (map_selected-more term kept types i ty c.loop-i-test.true)

pub returns : goal.returns
returns c =
    let term = type_term_in c.args.self.now.normal.now c.args.depth in
    c.loop-i.invariant
    ∙ ap (λ (types : List Ty). map term (selected c.args.kept.now types))
    (take_all c.loop-i.i c.args.types.now c.loop-i-test.false)
