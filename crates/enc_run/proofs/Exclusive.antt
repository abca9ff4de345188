-- A job leads to one thing alone: it is refused for one reason, or it has an output.
use Rattle.std.specs.Prelude.{IfSome, IsSomeAnd}
use Rattle.std.proofs.Common.{◌≡◌, ◌<◌, ◌∙◌, ◌⊎◌, inl, inr, ℕ, true, List, [], ◌∷◌, Option, Some, None, Ok, Err, refl, sym, ap, subst, arith}
use Rattle.std.proofs.lemmas.Option.{same_Some}
use Rattle.enc_base.specs.Counts.{in_64_bits}
use Rattle.tptp_syntax.specs.declared.entry.File.{File}
use Rattle.tptp_syntax.specs.declared.error.ReadError.{ReadError}
use Rattle.tptp_syntax.specs.Files.{Verdict}
use Rattle.tf_check.specs.declared.error.TypeError.{TypeError}
use Rattle.tf_check.specs.Faults.{faults}
use Rattle.tf_check.specs.Typing.{IsTyped}
use Rattle.tf_check.proofs.FileGives.{typed-faults, typed-problem_of}
use Rattle.tptp_syntax.proofs.Verdicts.{one_verdict}
use Rattle.tf_core.specs.declared.problem.Problem.{Problem}
use Rattle.tf_nnf.specs.NormalForm.{normal_of}
use Rattle.tf_nnf.specs.Refusal.{most_nodes}
use Rattle.enc_marks.specs.declared.refusal.Refusal.{Refusal}
use Rattle.enc_marks.specs.declared.scheme.Scheme.{Scheme}
use Rattle.enc_marks.specs.Applies.{Applies}
use Rattle.enc_pipeline.specs.declared.fault.Fault.{Fault}
use Rattle.enc_pipeline.specs.declared.fault.Fault.TheVariants as fault
use Rattle.enc_pipeline.specs.Reading.{HasProblem}
use Rattle.enc_pipeline.specs.Causes.{IsFirstFault, nodes_of}
use Rattle.enc_pipeline.proofs.Applied.{one_scheme_refusal}
use Rattle.enc_run.specs.Leads.{Lead, LeadsTo, RefusesProblem, IsRefusedBy, IsTableRefusedBy, IsAccepted, IsAcceptable, IsOutputOf, is_normalised, task_scheme, RefusesBy}
use Rattle.enc_run.specs.declared.job.Task.{Task}
use Rattle.enc_run.proofs.TableLaws.{one_refusal, not_both}

-- ---- a text leads to one thing

one_problem : (file : File) (a b : Problem) → IsTyped file a → IsTyped file b → a ≡ b
one_problem file a b is_a is_b = typed-problem_of file a is_a ∙ sym (typed-problem_of file b is_b)

same_file : (text : List ℕ) (a b : File) → Verdict text (Ok a) → Verdict text (Ok b) → a ≡ b
same_file text a b is_a is_b = let same = one_verdict text (Ok a) (Ok b) is_a is_b in cc

not_read : (text : List ℕ) (file : File) (reason : ReadError) → Verdict text (Ok file)
    → Verdict text (Err reason) → ⊥
not_read text file reason is_file is_refused =
    let same = one_verdict text (Ok file) (Err reason) is_file is_refused in cc

-- a file with a fault has no problem
not_typed : (text : List ℕ) (file : File) (reason : TypeError) (problem : Problem)
    → Verdict text (Ok file) → IsFirstFault file reason → HasProblem text problem → ⊥
not_typed text file reason problem is_file faulty has =
    let same = same_file text file has.0 is_file has.1 in
    let none = typed-faults has.0 problem has.2 in
    let clash : reason ∷ faulty.0 ≡ [] = sym faulty.1 ∙ ap faults same ∙ none in cc

pub same_problem : (text : List ℕ) (a b : Problem) → HasProblem text a → HasProblem text b → a ≡ b
same_problem text a b has_a has_b =
    let same = same_file text has_b.0 has_a.0 has_b.1 has_a.1 in
    one_problem has_a.0 a b has_a.2 (subst (λ f. IsTyped f b) same has_b.2)

module _ (text : List ℕ) where
  abbrev Leads : Lead → Type 0
  Leads source = LeadsTo text source

  -- a text that has a problem isn't refused
  readable : (problem : Problem) (reason : Fault) → HasProblem text problem → Leads (Err reason) → ⊥
  readable problem (fault.Reading reason) has leads = not_read text has.0 reason has.1 leads.1.1
  readable problem (fault.Typing reason) has leads =
      let found = leads.1.1 in not_typed text found.0 reason problem found.1 found.2 has
  readable problem (fault.TooLarge nodes) has leads = leads.1
  readable problem (fault.Scheme reason) has leads = leads.1
  readable problem fault.Incomplete has leads = leads.1
  readable problem (fault.Table reason) has leads = leads.1
  readable problem (fault.NotModel formula) has leads = leads.1
  readable problem fault.Write has leads = leads.1
  readable problem fault.Memory has leads = leads.0 refl

  unread_once : (a : ReadError) (b : Fault) → Leads (Err (fault.Reading a)) → Leads (Err b)
      → fault.Reading a ≡ b
  unread_once a (fault.Reading b) is_a is_b =
      let same = one_verdict text (Err a) (Err b) is_a.1.1 is_b.1.1 in
      let reason : a ≡ b = cc in ap fault.Reading reason
  unread_once a (fault.Typing b) is_a is_b =
      let found = is_b.1.1 in absurd (not_read text found.0 a found.1 is_a.1.1)
  unread_once a (fault.TooLarge b) is_a is_b = absurd is_b.1
  unread_once a (fault.Scheme b) is_a is_b = absurd is_b.1
  unread_once a fault.Incomplete is_a is_b = absurd is_b.1
  unread_once a (fault.Table b) is_a is_b = absurd is_b.1
  unread_once a (fault.NotModel b) is_a is_b = absurd is_b.1
  unread_once a fault.Write is_a is_b = absurd is_b.1
  unread_once a fault.Memory is_a is_b = absurd (is_b.0 refl)

  untyped_once : (a : TypeError) (b : Fault) → Leads (Err (fault.Typing a)) → Leads (Err b)
      → fault.Typing a ≡ b
  untyped_once a (fault.Reading b) is_a is_b =
      let found = is_a.1.1 in absurd (not_read text found.0 b found.1 is_b.1.1)
  untyped_once a (fault.Typing b) is_a is_b =
      let one = is_a.1.1 in
      let two = is_b.1.1 in
      let same = same_file text one.0 two.0 one.1 two.1 in
      let heads : a ∷ one.2.0 ≡ b ∷ two.2.0 = sym one.2.1 ∙ ap faults same ∙ two.2.1 in
      let reason : a ≡ b = cc in ap fault.Typing reason
  untyped_once a (fault.TooLarge b) is_a is_b = absurd is_b.1
  untyped_once a (fault.Scheme b) is_a is_b = absurd is_b.1
  untyped_once a fault.Incomplete is_a is_b = absurd is_b.1
  untyped_once a (fault.Table b) is_a is_b = absurd is_b.1
  untyped_once a (fault.NotModel b) is_a is_b = absurd is_b.1
  untyped_once a fault.Write is_a is_b = absurd is_b.1
  untyped_once a fault.Memory is_a is_b = absurd (is_b.0 refl)

  one_reason : (a b : Fault) → Leads (Err a) → Leads (Err b) → a ≡ b
  one_reason (fault.Reading a) b is_a is_b = unread_once a b is_a is_b
  one_reason (fault.Typing a) b is_a is_b = untyped_once a b is_a is_b
  one_reason (fault.TooLarge a) b is_a is_b = absurd is_a.1
  one_reason (fault.Scheme a) b is_a is_b = absurd is_a.1
  one_reason fault.Incomplete b is_a is_b = absurd is_a.1
  one_reason (fault.Table a) b is_a is_b = absurd is_a.1
  one_reason (fault.NotModel a) b is_a is_b = absurd is_a.1
  one_reason fault.Write b is_a is_b = absurd is_a.1
  one_reason fault.Memory b is_a is_b = absurd (is_a.0 refl)

  pub one_lead : (a b : Lead) → Leads a → Leads b → a ≡ b
  one_lead (Ok a) (Ok b) is_a is_b = ap Ok (same_problem text a b is_a is_b)
  one_lead (Ok a) (Err b) is_a is_b = absurd (readable a b is_a is_b)
  one_lead (Err a) (Ok b) is_a is_b = absurd (readable b a is_b is_a)
  one_lead (Err a) (Err b) is_a is_b = ap Err (one_reason a b is_a is_b)

-- what holds of an item that is there
there : {A : Type 0} (found : Option A) (P : A → Type 0) → IsSomeAnd found P
    → (item : A) × (found ≡ Some item) × P item
there None P holds = absurd holds
there (Some item) P holds = (item, refl, holds)

module _ (task : Task) where
  -- what a problem with too many nodes is
  record TooMany (problem : Problem) (reason : Fault) : Type 0 where
    normalised : is_normalised task ≡ true
    many : most_nodes < nodes_of problem
    reason_is : reason ≡ fault.TooLarge (in_64_bits (nodes_of problem))

  -- and one to which the scheme doesn't apply
  record Unsuited (problem : Problem) (reason : Fault) : Type 0 where
    which : Scheme
    scheme_is : task_scheme task ≡ Some which
    refusal : Refusal
    refused : RefusesBy which problem refusal
    reason_is : reason ≡ fault.Scheme refusal

  refusals : (problem : Problem) (reason : Fault) → RefusesProblem task problem reason
      → TooMany problem reason ⊎ Unsuited problem reason
  refusals problem (fault.TooLarge nodes) large = inl (record {
    normalised = large.0;
    many = large.1;
    reason_is = ap fault.TooLarge large.2;
  })
  refusals problem (fault.Scheme reason) refused =
      let by = there (task_scheme task) (λ which. RefusesBy which problem reason) refused in
      inr (record {
        which = by.0;
        scheme_is = by.1;
        refusal = reason;
        refused = by.2;
        reason_is = refl;
      })
  refusals problem (fault.Reading reason) refused = absurd refused
  refusals problem (fault.Typing reason) refused = absurd refused
  refusals problem fault.Incomplete refused = absurd refused
  refusals problem (fault.Table reason) refused = absurd refused
  refusals problem (fault.NotModel formula) refused = absurd refused
  refusals problem fault.Write refused = absurd refused
  refusals problem fault.Memory refused = absurd refused

  accepted_unrefused : (problem : Problem) (reason : Fault)
      → TooMany problem reason ⊎ Unsuited problem reason → IsAccepted task problem → ⊥
  accepted_unrefused problem reason (inl large) accepted =
      let many = large.many in
      let few = accepted.within large.normalised in absurd (omega arith)
  accepted_unrefused problem reason (inr unsuited) accepted =
      unsuited.refused.0.unapplied
      (subst (λ found. IfSome found (λ which. Applies which (normal_of problem)))
      unsuited.scheme_is accepted.applies)

  many_or_unsuited : (problem : Problem) (a b : Fault) → TooMany problem a → Unsuited problem b → ⊥
  many_or_unsuited problem a b large unsuited =
      let many = large.many in
      let few = unsuited.refused.0.within in absurd (omega arith)

  unsuited_once : (problem : Problem) (a b : Fault) → Unsuited problem a → Unsuited problem b
      → a ≡ b
  unsuited_once problem a b one other =
      let same : one.which ≡ other.which =
      same_Some one.which other.which (sym one.scheme_is ∙ other.scheme_is) in
      let refused : RefusesBy other.which problem one.refusal =
      subst (λ (which : Scheme). RefusesBy which problem one.refusal) same one.refused in
      one.reason_is
      ∙ ap fault.Scheme (one_scheme_refusal other.which (normal_of problem) one.refusal other.refusal
      refused.1 refused.2 other.refused.1 other.refused.2)
      ∙ sym other.reason_is

  problem_refused_once : (problem : Problem) (a b : Fault)
      → TooMany problem a ⊎ Unsuited problem a → TooMany problem b ⊎ Unsuited problem b → a ≡ b
  problem_refused_once problem a b (inl one) (inl other) = one.reason_is ∙ sym other.reason_is
  problem_refused_once problem a b (inl one) (inr other) =
      absurd (many_or_unsuited problem a b one other)
  problem_refused_once problem a b (inr one) (inl other) =
      absurd (many_or_unsuited problem b a other one)
  problem_refused_once problem a b (inr one) (inr other) = unsuited_once problem a b one other

  -- ---- by the problem's source

  pub refused_not_accepted : (source : Lead) (reason : Fault) → IsRefusedBy task reason source
      → IsAcceptable task source → ⊥
  refused_not_accepted (Ok problem) reason refused accepted =
      accepted_unrefused problem reason (refusals problem reason refused) accepted
  refused_not_accepted (Err other) reason refused accepted = accepted

  -- only one reason stands
  pub refused_once : (source : Lead) (a b : Fault) → IsRefusedBy task a source
      → IsRefusedBy task b source → a ≡ b
  refused_once (Ok problem) a b is_a is_b =
      problem_refused_once problem a b (refusals problem a is_a) (refusals problem b is_b)
  refused_once (Err other) a b is_a is_b = is_a ∙ sym is_b

  -- ---- by the table's text

  -- what is refused by its table, or has an output, is accepted before

  pub table_refused_accepted : (source : Lead) (reason : Fault) (table : List ℕ)
      → IsTableRefusedBy task reason source table → IsAcceptable task source
  table_refused_accepted (Ok problem) reason table refused = refused.0
  table_refused_accepted (Err other) reason table refused = refused

  pub output_accepted : (source : Lead) (output table : List ℕ)
      → IsOutputOf task output source table → IsAcceptable task source
  output_accepted (Ok problem) output table is_output = is_output.0
  output_accepted (Err other) output table is_output = is_output

  -- it is refused for one reason
  pub table_refused_once : (source : Lead) (table : List ℕ) (a b : Fault)
      → IsTableRefusedBy task a source table → IsTableRefusedBy task b source table → a ≡ b
  table_refused_once (Ok problem) table a b is_a is_b =
      one_refusal task problem table a b is_a.1 is_b.1
  table_refused_once (Err other) table a b is_a is_b = absurd is_a

  -- and then there is no output
  pub table_refused_not_output : (source : Lead) (table : List ℕ) (reason : Fault)
      (output : List ℕ) → IsTableRefusedBy task reason source table
      → IsOutputOf task output source table → ⊥
  table_refused_not_output (Ok problem) table reason output refused is_output =
      not_both task problem table reason output refused.1 is_output.1
  table_refused_not_output (Err other) table reason output refused is_output = refused
