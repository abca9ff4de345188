use Rattle.std.proofs.lemmas.Result.{on_ok_weaker}
use Rattle.enc_mono.proofs.Extending.{IsMatch-read, IsMatch-none, AreBound-read, GoesOn-match, GoesOn-no_match}
use Rattle.enc_mono.proofs.search.Search.extend_to.Goals as goal

pub returns-in-Some-clause-goes_on : goal.returns-in-Some-clause-goes_on
returns-in-Some-clause-goes_on c =
    on_ok_weaker c.meet.result
    (GoesOn-match c.args.table.now c.args.bound.now c.args.pattern.now c.args.id c.in-Some.more
    (IsMatch-read c.args.table.now c.args.bound.now c.args.pattern.now c.args.id
    c.from_ref.result.now c.from_ref-2.result.now c.from_ref.ensures.value
    c.from_ref-2.ensures.value c.in_ok-more.field-0 c.in_ok-more.ensures.exact c.in-Some.more
    c.in-Some.is)
    (AreBound-read c.args.table.now c.in_ok-more.field-0 c.in_ok-more.ensures.numbers c.in-Some.more
    c.in-Some.is)
    c.args.self.now c.meet.new.self)
    c.meet.ensures.meets

pub returns-in-None-clause-goes_on : goal.returns-in-None-clause-goes_on
returns-in-None-clause-goes_on c =
    GoesOn-no_match c.args.table.now c.args.bound.now c.args.pattern.now c.args.id c.args.self.now
    (IsMatch-none c.args.table.now c.args.bound.now c.args.pattern.now c.args.id
    c.from_ref.result.now c.from_ref-2.result.now c.from_ref.ensures.value
    c.from_ref-2.ensures.value c.in_ok-more.field-0 c.in_ok-more.ensures.exact c.in-None.is)
