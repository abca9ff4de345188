use Rattle.std.proofs.Common.{◌+◌, ◌-◌, Bool, List, ◌++◌, vec_len, get_or, replicate, ap, ◌∙◌, arith, false}
use Rattle.std.proofs.lemmas.List.{take_all}
use Rattle.enc_marks.specs.Calls.Flags.{is_set}
use Rattle.enc_marks.proofs.Added.{get_or-grown}
use Rattle.enc_marks.proofs.flags.Occurring.grow.Goals as goal

pub returns-in_ok-resize-clause-same : goal.returns-in_ok-resize-clause-same
unfolding is_set
returns-in_ok-resize-clause-same c = λ i.
    let flags = c.args.self.now.flags.items in
    let more = replicate (c.args.at + 1 - vec_len c.args.self.now.flags) false in
    ap (λ (items : List Bool). get_or items i false)
    (c.in_ok-resize.ensures.items
    ∙ ap (λ (items : List Bool). items ++ more) (take_all (c.args.at + 1) flags (omega arith)))
    ∙ get_or-grown flags (c.args.at + 1 - vec_len c.args.self.now.flags) i
