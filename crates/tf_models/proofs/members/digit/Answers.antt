use Rattle.std.proofs.Common.{◌+◌, ◌-◌, ◌/◌, ◌%◌, ◌≡◌, ℕ, sym, ap, ◌∙◌, arith}
use Rattle.enc_base.proofs.NumberedTuples.{front, front-all, front-div, front-mod, front-zero}
use Rattle.tf_models.proofs.members.digit.Goals as goal

pub loop-init : goal.loop-init
loop-init c =
    let numbers : ℕ → ℕ = front c.args.bound c.args.count c.args.number c.requires.bound
    c.requires.number in
    let whole : c.args.count + (c.args.i + 1) - (c.args.i + 1) ≡ c.args.count = omega arith in
    sym (ap numbers whole
    ∙ front-all c.args.bound c.args.count c.args.number c.requires.bound c.requires.number)

pub returns-then-rest-eq0 : goal.returns-then-rest-eq0
returns-then-rest-eq0 c =
    let numbers : ℕ → ℕ = front c.args.bound c.args.count c.args.number c.requires.bound
    c.requires.number in
    let more : ℕ = c.args.count - c.loop.counter in
    let at : c.args.i + more + 1 ≡ c.args.count + (c.args.i + 1) - c.loop.counter = omega arith in
    sym (front-zero c.args.bound c.args.count c.args.number c.requires.bound c.requires.number
    c.args.i more (omega arith) (ap numbers at ∙ sym c.loop.invariant ∙ c.if-rest-eq0.true))

pub loop-preserved : goal.loop-preserved
loop-preserved c =
    let numbers : ℕ → ℕ = front c.args.bound c.args.count c.args.number c.requires.bound
    c.requires.number in
    let next : ℕ = c.args.count + (c.args.i + 1) - (c.loop.counter + 1) in
    let at : c.args.count + (c.args.i + 1) - c.loop.counter ≡ next + 1 = omega arith in
    ap (λ n. n / c.args.bound) (c.loop.invariant ∙ ap numbers at)
    ∙ front-div c.args.bound c.args.count c.args.number c.requires.bound c.requires.number next
    (omega arith)

pub returns : goal.returns
returns c =
    let numbers : ℕ → ℕ = front c.args.bound c.args.count c.args.number c.requires.bound
    c.requires.number in
    let at : c.args.count + (c.args.i + 1) - c.loop.counter ≡ c.args.i + 1 = omega arith in
    ap (λ n. n % c.args.bound) (c.loop.invariant ∙ ap numbers at)
    ∙ front-mod c.args.bound c.args.count c.args.number c.requires.bound c.requires.number c.args.i
    c.requires.within
