use Rattle.std.proofs.Common.{true, get_or, Bool, List, ap, ◌∙◌}
use Rattle.tf_core.specs.declared.ty.Ty.{Ty}
use Rattle.enc_marks.specs.FreeByTable.{is_free_by}
use Rattle.enc_marks.proofs.free_sorts.FreeSorts.is_free.Goals as goal

pub returns : goal.returns
unfolding is_free_by
returns c = record {
  exact = c.flag_at.ensures
      ∙ ap (λ (flags : List Bool). get_or flags c.place.result true) c.as_slice.ensures
      ∙ ap (λ place. get_or c.self.inside.free place true) c.place.ensures.exact
      ∙ ap (λ (table : List Ty × List Bool). is_free_by table c.args.ty.now) c.self.view_is;
}
