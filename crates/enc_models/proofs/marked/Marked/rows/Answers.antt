use Rattle.std.proofs.Common.{arith, ℕ, ap, sym, ◌∙◌, ◌≡◌, ◌++◌, ◌∷◌, [], subst, length}
use Rattle.enc_marks.specs.Occurrence.{count_below}
use Rattle.enc_laws.specs.Ranks.{listed}
use Rattle.enc_laws.proofs.Ranked.{length-listed}
use Rattle.enc_models.specs.Calls.Lifting.{parts_of, members_in, picks_in, AreRows}
use Rattle.enc_models.proofs.PickedNumbers.{listed-more, more_rows}
use Rattle.enc_models.proofs.marked.Marked.rows.Goals as goal

pub loop-member-preserved : goal.loop-member-preserved
loop-member-preserved g c =
    let size = c.args.self.now.model.now.size in
    let sizes : ℕ → ℕ = λ m. count_below size (picks_in (parts_of g.C.Choices.choices c.args.self.now) m) in
    let member = c.loop-member.member in
    let so_far = c.loop-member.invariant in
    record {
      sizes =
          c.in_ok-push.ensures.ok
          ∙ ap (λ v. c.loop-member.sizes ++ v ∷ []) c.in_ok-row.ensures.size
          ∙ ap (λ n. c.loop-member.sizes ++ count_below n (picks_in (parts_of g.C.Choices.choices c.args.self.now) member) ∷ [])
          c.requires.bound
          ∙ ap (λ xs. xs ++ sizes member ∷ []) so_far.sizes
          ∙ sym (listed-more member sizes);
      each =
          rw c.in_ok-push-2.ensures.ok
          (more_rows (parts_of g.C.Choices.choices c.args.self.now) member c.loop-member.picked c.in_ok-row.row.picked so_far.each
          (rw c.requires.bound at c.in_ok-row.ensures.picked));
    }

pub returns : goal.returns
returns g c =
    let m = parts_of g.C.Choices.choices c.args.self.now in
    let sizes : ℕ → ℕ = λ n. count_below m.model.size (picks_in m n) in
    let all : c.loop-member.member ≡ members_in m =
    omega (
      arith,
      c.requires.members,
      c.loop-member.auto.member-end,
      c.loop-member-test.false,
    ) in
    let whole = c.loop-member.invariant.sizes ∙ ap (λ n. listed n 0 sizes) all in
    record {
      few = omega (
        arith,
        c.ranges.members.fits,
        c.requires.members,
        ap length whole,
        length-listed (members_in m) 0 sizes,
      );
      domain = omega (arith, c.ranges.bound.fits, c.requires.bound);
      sizes = whole;
      each = subst (λ n. AreRows m n c.loop-member.picked) all c.loop-member.invariant.each;
    }
