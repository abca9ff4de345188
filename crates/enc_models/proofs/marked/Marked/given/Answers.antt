use Rattle.std.proofs.lemmas.Result.{IfOk-weaker}
use Rattle.enc_models.specs.Calls.Lifting.{parts_of, mark_in, AreGiven, AreGivenIn}
use Rattle.enc_models.proofs.marked.Marked.given.Goals as goal

pub returns-in-Image : goal.returns-in-Image
returns-in-Image g c =
    IfOk-weaker c.image.result
    (λ given. AreGiven (mark_in (parts_of g.C.Choices.choices c.args.self.now) c.args.member) c.args.self.now.model.now.size given.items)
    (λ given. AreGivenIn (parts_of g.C.Choices.choices c.args.self.now) c.args.member given.items)
    (λ given are is. are) c.image.ensures
