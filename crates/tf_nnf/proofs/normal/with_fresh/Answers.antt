use Rattle.std.proofs.Common.{ap, arith, ◌∙◌, ◌++◌, ◌∷◌, [], List, map, append_assoc, sym}
use Rattle.std.specs.List.{range_with_len}
use Rattle.std.proofs.lemmas.List.FromFn.{map-range_with_len_more}
use Rattle.tf_core.specs.declared.signature.Constructor.{Constructor}
use Rattle.tf_nnf.specs.NormalForm.{fresh_constructor}
use Rattle.tf_nnf.proofs.normal.with_fresh.Goals as goal

pub loop-i-preserved : goal.loop-i-preserved
loop-i-preserved c =
    let before = c.in_ok-constructors.constructors in
    let more = ap (λ (l : List Constructor). before ++ l) (map-range_with_len_more fresh_constructor 0 c.loop-i.i c.loop-i.i (omega arith)) in
    c.in_ok-push.ensures.ok
    ∙ ap (λ (l : List Constructor). l ++ c.in_ok-fresh_constructor.field-0 ∷ []) c.loop-i.invariant
    ∙ append_assoc before _ _
    ∙ ap (λ (x : Constructor). before ++ (map fresh_constructor (range_with_len 0 c.loop-i.i) ++ x ∷ [])) c.in_ok-fresh_constructor.ensures
    ∙ sym more
