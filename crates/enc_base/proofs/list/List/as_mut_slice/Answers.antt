use Rattle.std.proofs.Common.{refl, ap, length, ◌++◌, ◌∙◌, take, drop}
use Rattle.std.specs.List.{refill}
use Rattle.enc_base.proofs.list.List.as_mut_slice.Goals as goal

pub returns : goal.returns
returns g c = (
  (
    refl,
    λ items.
        ap (λ n. take n (items ++ drop (length items) c.self.inside.items.items))
        c.self.inside.items.ok.0
        ∙ ap (λ before. refill (length before) before items) c.self.view_is,
  ),
  record { writes_back = tt; items = c.as_mut_slice.ensures.value ∙ c.self.view_is },
)
