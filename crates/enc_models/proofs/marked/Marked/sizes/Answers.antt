use Rattle.std.proofs.Common.{arith, ℕ, ap, sym, ◌∙◌, ◌≡◌, ◌++◌, ◌∷◌, []}
use Rattle.enc_marks.specs.Occurrence.{count_below}
use Rattle.enc_laws.specs.Ranks.{listed}
use Rattle.enc_models.specs.Calls.Lifting.{parts_of, members_in, picks_in}
use Rattle.enc_models.proofs.PickedNumbers.{listed-more}
use Rattle.enc_models.proofs.marked.Marked.sizes.Goals as goal

pub loop-member-preserved : goal.loop-member-preserved
loop-member-preserved g c =
    let m = parts_of g.C.Choices.choices c.args.self.now in
    let sizes : ℕ → ℕ = λ n. count_below m.model.size (picks_in m n) in
    let member = c.loop-member.member in
    c.in_ok-push.ensures.ok
    ∙ ap (λ v. c.loop-member.sizes ++ v ∷ []) c.in_ok-size_of.ensures
    ∙ ap (λ n. c.loop-member.sizes ++ count_below n (picks_in m member) ∷ []) c.requires.bound
    ∙ ap (λ xs. xs ++ sizes member ∷ []) c.loop-member.invariant
    ∙ sym (listed-more member sizes)

pub returns : goal.returns
returns g c =
    let m = parts_of g.C.Choices.choices c.args.self.now in
    let sizes : ℕ → ℕ = λ n. count_below m.model.size (picks_in m n) in
    let all : c.loop-member.member ≡ members_in m =
    omega (
      arith,
      c.requires.members,
      c.loop-member.auto.member-end,
      c.loop-member-test.false,
    ) in
    c.loop-member.invariant ∙ ap (λ n. listed n 0 sizes) all
