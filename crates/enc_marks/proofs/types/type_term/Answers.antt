use Rattle.std.proofs.Common.{◌≡◌, ℕ, IfOk, ap, subst, ◌∙◌, length}
use Rattle.std.proofs.Math.Path.{fun_ext}
use Rattle.std.specs.Option.{unwrap_or}
use Rattle.enc_marks.specs.Marks.{is_constructor, constructor_number, number_in}
use Rattle.enc_marks.specs.Translation as specs
use Rattle.enc_marks.proofs.Marks.{unwrap_or-position}
use Rattle.enc_marks.proofs.types.type_term.Goals as goal

pub returns : goal.returns
unfolding number_in
returns c =
    let marks = c.args.marks.now in
    let same : number_in c.in_ok-numbers.numbers (length marks) ≡ constructor_number marks =
    fun_ext (λ constructor.
    ap (λ given. unwrap_or given (length marks)) (c.in_ok-numbers.ensures constructor)
    ∙ unwrap_or-position (is_constructor constructor) marks) in
    record {
      exact = subst
          (λ (number : ℕ → ℕ). IfOk c.numbered.result
          (λ t. t ≡ specs.type_term number c.args.depth c.args.ty.now))
          same c.numbered.ensures;
    }
