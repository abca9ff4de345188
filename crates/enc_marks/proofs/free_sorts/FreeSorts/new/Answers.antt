use Rattle.std.proofs.Common.{map, Bool, List, ap, ◌∙◌}
use Rattle.tf_core.specs.declared.ty.Ty.{Ty}
use Rattle.tf_core.specs.Sorts.{sorts}
use Rattle.tf_naked.specs.Naked.{is_free}
use Rattle.enc_marks.specs.FreeByTable.{is_free_by}
use Rattle.enc_marks.proofs.FreeByTable.{is_free_by-told}
use Rattle.enc_marks.proofs.free_sorts.FreeSorts.new.Goals as goal

pub returns : goal.returns
returns c = record {
  exact = ap (λ (types : List Ty). is_free_by (types, c.in_ok-free.free))
      (c.in_ok-new.ensures.exact ∙ c.in_ok-listed.ensures.exact)
      ∙ ap (λ (flags : List Bool). is_free_by (sorts c.args.normal.now, flags))
      (c.in_ok-free.ensures.exact
      ∙ ap (map (is_free c.args.normal.now)) (c.as_slice.ensures ∙ c.in_ok-listed.ensures.exact))
      ∙ is_free_by-told c.args.normal.now c.requires.typed;
}
