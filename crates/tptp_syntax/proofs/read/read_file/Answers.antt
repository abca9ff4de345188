use Rattle.std.proofs.Common.{arith, sym, subst, ◌≤◌, length}
use Rattle.tptp_syntax.specs.Files.{Verdict, most_bytes}
use Rattle.tptp_syntax.proofs.WholeFile.{verdict}
use Rattle.tptp_syntax.proofs.Verdicts.{exact_of, kept_of, refused_of}
use Rattle.tptp_syntax.proofs.read.read_file.Goals as goal

pub returns-clause-verdict : goal.returns-clause-verdict
returns-clause-verdict c m =
    let fits : length c.args.text.now ≤ most_bytes =
    let long = c.if-text-gt-MAX_BYTES.false in omega arith in
    subst (λ a. Verdict c.args.text.now a) (sym (c.read.ensures m))
    (verdict c.args.text.now c.new-reader.result c.new-reader.ensures fits)

pub returns-clause-exact : goal.returns-clause-exact
returns-clause-exact c =
    exact_of c.args.text.now c.read.result (returns-clause-verdict c)

pub returns-clause-kept : goal.returns-clause-kept
returns-clause-kept c =
    kept_of c.args.text.now c.read.result (returns-clause-verdict c)

pub returns-clause-refused : goal.returns-clause-refused
returns-clause-refused c =
    refused_of c.args.text.now c.read.result (returns-clause-verdict c)
