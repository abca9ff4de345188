-- What answers of the passes say of a file.
use Rattle.std.proofs.Common.{◌≡◌, ◌≤◌, false, List, [], Result, Ok, Err, IfOk, IfErr, IsErr, IsErrAnd, refl, sym, ap, ◌∙◌, subst}
use Rattle.tptp_syntax.specs.declared.entry.Entry.{Entry}
use Rattle.tptp_syntax.specs.declared.entry.File.{File}
use Rattle.tptp_syntax.specs.FileSizes.{file_size}
use Rattle.tf_core.specs.declared.problem.Problem.{Problem}
use Rattle.tf_core.specs.declared.problem.Stated.{Stated}
use Rattle.tf_core.specs.declared.signature.Signature.{Signature}
use Rattle.tf_core.specs.Sound.{IsSound}
use Rattle.tf_check.specs.declared.error.TypeError.{TypeError}
use Rattle.tf_check.specs.declared.error.TypeError.TheVariants.{Memory}
use Rattle.tf_check.specs.Answers.{Answers, IsFirst}
use Rattle.tf_check.specs.Entries.{statements}
use Rattle.tf_check.specs.Faults.{visited_statements, visited_file, faults, problem_of}
use Rattle.tf_check.specs.Limits.{most_nodes, IsWithin}
use Rattle.tf_check.specs.Passes.{file_of, constructor_pass, symbol_pass, declared_signature}
use Rattle.tf_check.specs.Signature.{names_stated, signature_of}
use Rattle.tf_check.specs.Names.{parameters_in}
use Rattle.tf_check.specs.Table.{with_uses}
use Rattle.tf_check.specs.Typing.{IsTyped}
use Rattle.tf_check.specs.Visited.{Visited, good, ◌>>=◌}
use Rattle.tf_check.proofs.AnswerLemmas.{answers-bind, answers-stop, answers-memory}
use Rattle.tf_check.proofs.FileClean.{faultless-typed}
use Rattle.tf_check.proofs.FormulaAnswers.{answers-made, answers-unmade}
use Rattle.tf_check.proofs.SoundFiles.{typed_sound}
use Rattle.tf_check.proofs.UseLemmas.{signature_of-uses}

-- a visit without faults gives its value
faultless : {A : Type 0} (visit : Visited A) → visit.faults ≡ [] → Answers visit (Ok visit.value)
faultless visit clean = record { exact = (clean, refl); refused = tt }

-- a visit is refused by its first fault
refused : {A : Type 0} (visit : Visited A) (fault : TypeError) → IsFirst visit.faults fault →
    Answers visit (Err fault)
refused visit fault first = record { exact = tt; refused = first }

-- what is promised of the answer about a file
pub record IsAnswer (file : File) (result : Result Problem TypeError) : Type 0 where
  pub exact : IfOk result (IsTyped file)
  pub refused : IfErr result (IsFirst (faults file))
  pub sound : IfOk result IsSound

module _ (file : File) (within : IsWithin file) where
  abbrev third : Visited (List Stated)
  third = visited_statements (signature_of file) false (statements file)

  abbrev made : List Stated → Problem
  made formulas = record { signature = signature_of file; formulas = formulas }

  abbrev visit : Visited Problem
  visit = visited_file (signature_of file) file

  pub file_answered : (result : Result Problem TypeError) → Answers visit result →
      IsAnswer file result
  unfolding faults problem_of
  file_answered (Ok p) answers =
      let typed : IsTyped file p =
      subst (IsTyped file) answers.exact.1 (faultless-typed file answers.exact.0) in
      record { exact = typed; refused = tt; sound = typed_sound file p within typed }
  file_answered (Err fault) answers = record { exact = tt; refused = answers.refused; sound = tt }

  pub file_memory : IsAnswer file (Err Memory)
  file_memory = file_answered (Err Memory) (answers-memory visit)

  behind_constructors : (result : Result Problem TypeError) → (constructor_pass file).faults ≡ [] →
      Answers (symbol_pass file >>= λ ss. third >>= λ xs. good (made xs)) result →
      Answers visit result
  behind_constructors result clean others =
      answers-bind (constructor_pass file)
      (λ cs. symbol_pass file >>= λ ss. third >>= λ xs. good (made xs))
      (constructor_pass file).value
      result (faultless (constructor_pass file) clean) others

  behind_symbols : (result : Result Problem TypeError) → (constructor_pass file).faults ≡ [] →
      (symbol_pass file).faults ≡ [] → Answers (third >>= λ xs. good (made xs)) result →
      Answers visit result
  behind_symbols result clean none others =
      behind_constructors result clean
      (answers-bind (symbol_pass file) (λ ss. third >>= λ xs. good (made xs))
      (symbol_pass file).value
      result (faultless (symbol_pass file) none) others)

  pub constructors_refused : (fault : TypeError) → IsFirst (constructor_pass file).faults fault →
      IsAnswer file (Err fault)
  constructors_refused fault first =
      file_answered (Err fault)
      (answers-stop (constructor_pass file)
      (λ cs. symbol_pass file >>= λ ss. third >>= λ xs. good (made xs)) fault
      (refused (constructor_pass file) fault first))

  pub symbols_refused : (fault : TypeError) → (constructor_pass file).faults ≡ [] →
      IsFirst (symbol_pass file).faults fault → IsAnswer file (Err fault)
  symbols_refused fault clean first =
      file_answered (Err fault)
      (behind_constructors (Err fault) clean
      (answers-stop (symbol_pass file) (λ ss. third >>= λ xs. good (made xs)) fault
      (refused (symbol_pass file) fault first)))

  pub statements_refused : (fault : TypeError) → (constructor_pass file).faults ≡ [] →
      (symbol_pass file).faults ≡ [] → Answers third (Err fault) → IsAnswer file (Err fault)
  statements_refused fault clean none one =
      file_answered (Err fault) (behind_symbols (Err fault) clean none
      (answers-unmade third made fault one))

  pub file_done : (formulas : List Stated) → (constructor_pass file).faults ≡ [] →
      (symbol_pass file).faults ≡ [] → Answers third (Ok formulas) →
      IsAnswer file (Ok (made formulas))
  file_done formulas clean none one =
      file_answered (Ok (made formulas))
      (behind_symbols (Ok (made formulas)) clean none (answers-made third made formulas one))

-- ---- the signature that the passes leave

pub signature_complete : (file : File) (declared whole : Signature) →
    declared ≡ declared_signature file →
    whole ≡ with_uses declared (names_stated (parameters_in declared.symbols) (statements file)) →
    whole ≡ signature_of file
signature_complete file declared whole left added =
    added
    ∙ ap (λ (g : Signature). with_uses g (names_stated (parameters_in g.symbols)
    (statements file))) left
    ∙ signature_of-uses file

-- ---- the entries of a file

module _ (file : File) (within : IsWithin file) (entries : List Entry)
    (are : entries ≡ file.entries) where
  same : file_of entries ≡ file
  same = ap file_of are

  inner : IsWithin (file_of entries)
  inner = subst IsWithin (sym same) within

  pub entries_within : file_size (file_of entries) ≤ most_nodes
  entries_within = inner.nodes

  of_file : (result : Result Problem TypeError) → IsAnswer (file_of entries) result →
      IsAnswer file result
  of_file result answer = subst (λ f. IsAnswer f result) same answer

  -- a fault that is handed on
  handed_on : (result : Result Problem TypeError) (fault : TypeError) →
      IsErr result × IsErrAnd result (λ error. error ≡ fault) →
      IsAnswer (file_of entries) (Err fault) →
      IsAnswer file result
  handed_on (Ok p) fault on answer = absurd on.1
  handed_on (Err error) fault on answer =
      of_file (Err error) (subst (λ e. IsAnswer (file_of entries) (Err e)) (sym on.1) answer)

  pub check_memory : (result : Result Problem TypeError) →
      IsErr result × IsErrAnd result (λ error. error ≡ Memory) → IsAnswer file result
  check_memory result on = handed_on result Memory on (file_memory (file_of entries) inner)

  pub check_constructors : (result : Result Problem TypeError) (fault : TypeError) →
      IsErr result × IsErrAnd result (λ error. error ≡ fault) →
      IsFirst (constructor_pass (file_of entries)).faults fault → IsAnswer file result
  check_constructors result fault on first =
      handed_on result fault on (constructors_refused (file_of entries) inner fault first)

  module _ (clean : (constructor_pass (file_of entries)).faults ≡ []) where
    pub check_symbols : (result : Result Problem TypeError) (fault : TypeError) →
        IsErr result × IsErrAnd result (λ error. error ≡ fault) →
        IsFirst (symbol_pass (file_of entries)).faults fault → IsAnswer file result
    check_symbols result fault on first =
        handed_on result fault on (symbols_refused (file_of entries) inner fault clean first)

    module _ (none : (symbol_pass (file_of entries)).faults ≡ []) (declared whole : Signature)
        (left : declared ≡ declared_signature (file_of entries))
        (added : whole
        ≡ with_uses declared (names_stated (parameters_in declared.symbols)
        (statements (file_of entries))))
      where
        complete : whole ≡ signature_of (file_of entries)
        complete = signature_complete (file_of entries) declared whole left added

        pub check_statements : (result : Result Problem TypeError) (fault : TypeError) →
            IsErr result × IsErrAnd result (λ error. error ≡ fault) →
            Answers (visited_statements whole false (statements (file_of entries))) (Err fault) →
            IsAnswer file result
        check_statements result fault on one =
            handed_on result fault on
            (statements_refused (file_of entries) inner fault clean none
            (subst (λ g. Answers (visited_statements g false (statements (file_of entries)))
            (Err fault))
            complete one))

        pub check_done : (g : Signature) (formulas : List Stated) → g ≡ whole →
            Answers (visited_statements whole false (statements (file_of entries))) (Ok formulas) →
            IsAnswer file (Ok (record { signature = g; formulas = formulas }))
        check_done g formulas is one =
            subst (λ s. IsAnswer file (Ok (record { signature = s; formulas = formulas })))
            (sym (is ∙ complete))
            (of_file (Ok (record {
              signature = signature_of (file_of entries);
              formulas = formulas;
            }))
            (file_done (file_of entries) inner formulas clean none
            (subst (λ s. Answers (visited_statements s false (statements (file_of entries)))
            (Ok formulas))
            complete one)))
