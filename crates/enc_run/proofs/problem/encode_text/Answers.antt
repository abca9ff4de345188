use Rattle.std.proofs.Common.{Err, refl, sym, subst}
use Rattle.std.proofs.KnownBytes.{Keeps-refl}
use Rattle.enc_pipeline.specs.Output.{output}
use Rattle.enc_pipeline.specs.declared.fault.Fault.{Fault}
use Rattle.enc_pipeline.proofs.HandedOn.{handed_on}
use Rattle.enc_run.specs.Calls.Parts.{EncodingEnds}
use Rattle.enc_run.specs.Stop.{stop_of}
use Rattle.enc_run.specs.Work.{bytes_of, faults_of}
use Rattle.enc_run.specs.declared.job.Task.TheVariants.{Encode}
use Rattle.enc_run.proofs.TextEndings.{encodable, encoding_stopped}
use Rattle.enc_run.proofs.problem.encode_text.Goals as goal

pub returns-in_err-prepared : goal.returns-in_err-prepared
returns-in_err-prepared g c =
    let stop = c.in_err-prepared.field-0.0 in
    let text = c.args.text.now in
    let ends = handed_on (EncodingEnds c.args.how text _ _) c.from_residual.result stop
    c.from_residual.ensures
    (encoding_stopped c.args.how text _ _ stop
    (c.in_err-prepared.ensures.cause (Encode c.args.how) refl) (Keeps-refl _, refl)) in
    record { ends = ends }

pub returns-in_err-encode_file : goal.returns-in_err-encode_file
returns-in_err-encode_file g c =
    let reason = c.in_err-encode_file.field-0.0 in
    let text = c.args.text.now in
    let prepared = c.in_ok-prepared.prepared in
    let failed = c.in_err-encode_file.ensures in
    let ends = handed_on (EncodingEnds c.args.how text _ _)
    c.from_residual-in_err-encode_file.result (stop_of reason)
    c.from_residual-in_err-encode_file.ensures
    (subst (λ (f : Fault). EncodingEnds c.args.how text
    (bytes_of g.O.Sink c.args.out.now c.encode_file.new.out)
    (faults_of g.O.Sink c.args.out.now c.encode_file.new.out) (Err (stop_of f)))
    (sym failed.cause.0) (
      output prepared,
      encodable c.args.how text prepared c.in_ok-prepared.ensures.exact,
      failed.within,
      failed.cause.1,
    )) in
    record { ends = ends }

pub returns : goal.returns
returns g c =
    let prepared = c.in_ok-prepared.prepared in
    record {
      ends = (
        output prepared,
        encodable c.args.how c.args.text.now prepared c.in_ok-prepared.ensures.exact,
        c.in_ok-encode_file.ensures.exact,
      );
    }
