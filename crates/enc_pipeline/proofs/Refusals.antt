-- The errors of the layers below, as faults with their causes.
use Rattle.std.proofs.Common.{◌≡◌, ◌≢◌, ◌≤◌, ℕ, List, Ok, Err}
use Rattle.tptp_syntax.specs.declared.entry.File.{File}
use Rattle.tptp_syntax.specs.declared.error.ReadError.{ReadError}
use Rattle.tptp_syntax.specs.declared.error.ReadError.TheVariants as reading
use Rattle.tptp_syntax.specs.Files.{Verdict}
use Rattle.tf_check.specs.declared.error.TypeError.{TypeError}
use Rattle.tf_check.specs.declared.error.TypeError.TheVariants as typing
use Rattle.tf_check.specs.Answers.{IsFirst}
use Rattle.tf_check.specs.Faults.{faults}
use Rattle.tf_core.specs.declared.problem.Problem.{Problem}
use Rattle.tf_nnf.specs.declared.error.NormalError.{NormalError}
use Rattle.tf_nnf.specs.declared.error.NormalError.TheVariants as normal
use Rattle.tf_nnf.specs.NormalForm.{normal_of}
use Rattle.tf_nnf.specs.Refusal as too_large
use Rattle.enc_marks.specs.declared.refusal.Refusal.{Refusal}
use Rattle.enc_marks.specs.declared.refusal.Refusal.TheVariants as refusal
use Rattle.enc_marks.specs.Applies as applies
use Rattle.enc_pipeline.specs.declared.how.How.{How}
use Rattle.enc_pipeline.specs.Causes.{IsFirstFault, IsUnreadable, IsUnprepared, nodes_of}
use Rattle.enc_pipeline.specs.Faults.{fault_of_reading, fault_of_typing, fault_of_normal, fault_of_scheme}
use Rattle.enc_pipeline.proofs.FileProblems.{begins_with}

-- a text that is no file within the limits
pub unread : (text : List ℕ) (reason : ReadError)
    → (reason ≢ reading.Memory → Verdict text (Err reason))
    → IsUnreadable text (fault_of_reading reason)
unread text (reading.BadByte at) why = (λ is. cc, why (λ is. cc))
unread text (reading.Unclosed at) why = (λ is. cc, why (λ is. cc))
unread text (reading.Syntax at) why = (λ is. cc, why (λ is. cc))
unread text (reading.TooDeep at) why = (λ is. cc, why (λ is. cc))
unread text (reading.Language at) why = (λ is. cc, why (λ is. cc))
unread text (reading.Role at) why = (λ is. cc, why (λ is. cc))
unread text (reading.Number at) why = (λ is. cc, why (λ is. cc))
unread text (reading.DistinctObject at) why = (λ is. cc, why (λ is. cc))
unread text (reading.Include at) why = (λ is. cc, why (λ is. cc))
unread text (reading.TooLong bytes) why = (λ is. cc, why (λ is. cc))
unread text reading.Memory why = tt

-- a file that isn't well typed
module _ (text : List ℕ) (file : File) (is_file : Verdict text (Ok file)) where
  abbrev IsFound : TypeError → Type 0
  IsFound reason =
      (reason ≢ typing.Memory)
      × ((read : File) × Verdict text (Ok read) × IsFirstFault read reason)

  of_first : (reason : TypeError) → reason ≢ typing.Memory → IsFirst (faults file) reason
      → IsFound reason
  of_first reason other why =
      (other, (file, is_file, begins_with (faults file) reason (why other)))

  pub ill_typed : (reason : TypeError) → IsFirst (faults file) reason
      → IsUnreadable text (fault_of_typing reason)
  ill_typed (typing.Redeclared entry name) why = of_first (typing.Redeclared entry name) (λ is. cc) why
  ill_typed (typing.BadDeclaration entry) why = of_first (typing.BadDeclaration entry) (λ is. cc) why
  ill_typed (typing.UnknownType entry name) why = of_first (typing.UnknownType entry name) (λ is. cc) why
  ill_typed (typing.FreeVariable entry name) why = of_first (typing.FreeVariable entry name) (λ is. cc) why
  ill_typed (typing.Arity entry name expected found) why = of_first (typing.Arity entry name expected found) (λ is. cc) why
  ill_typed (typing.Mismatch entry expected found) why = of_first (typing.Mismatch entry expected found) (λ is. cc) why
  ill_typed (typing.NotATerm entry name) why = of_first (typing.NotATerm entry name) (λ is. cc) why
  ill_typed (typing.NotAFormula entry name) why = of_first (typing.NotAFormula entry name) (λ is. cc) why
  ill_typed (typing.TypeQuantifier entry) why = of_first (typing.TypeQuantifier entry) (λ is. cc) why
  ill_typed (typing.SecondConjecture entry) why = of_first (typing.SecondConjecture entry) (λ is. cc) why
  ill_typed (typing.TooManySymbols count) why = of_first (typing.TooManySymbols count) (λ is. cc) why
  ill_typed typing.Memory why = tt

module _ (problem : Problem) (how : How) where
  -- a normal problem with too many nodes
  pub too_many_nodes : (reason : NormalError) → too_large.IsRefused (normal_of problem) reason
      → IsUnprepared problem how (fault_of_normal reason)
  too_many_nodes (normal.TooLarge nodes) why = (why.0, why.1)
  too_many_nodes normal.Memory why = tt

  -- a scheme that doesn't apply
  pub not_applied : (reason : Refusal) → nodes_of problem ≤ too_large.most_nodes
      → applies.IsRefused how.scheme (normal_of problem) reason
      → IsUnprepared problem how (fault_of_scheme reason)
  not_applied (refusal.NotMonomorphic name) within why = (within, tt, why)
  not_applied (refusal.NotMonotone place) within why = (within, tt, why)
  not_applied (refusal.TableTooLarge entries) within why = absurd why
  not_applied refusal.Memory within why = tt
