use Rattle.tptp_syntax.proofs.FileFacts.{file_facts}
use Rattle.tptp_syntax.proofs.file_facts.a_file_is_no_larger_than_its_text.Goals as goal

pub returns : goal.returns
returns c = record {
  within = λ text file h. (file_facts text file h).1;
  names = λ text file h. (file_facts text file h).0;
  pairs = λ text file h. (file_facts text file h).2;
}
