use Rattle.std.proofs.Common.{◌||◌, ap, ◌∙◌, eqb}
use Rattle.enc_marks.specs.Calls.Flags.{is_set}
use Rattle.enc_marks.proofs.Added.{get_or-raised}
use Rattle.enc_marks.proofs.flags.Occurring.add.Goals as goal

pub returns : goal.returns
unfolding is_set
returns c = λ i.
    get_or-raised c.grow.new.self.flags.items c.args.m i c.in_ok-grow.ensures.room
    ∙ ap (λ b. b || eqb i c.args.m) (c.in_ok-grow.ensures.same i)
