-- The collapse law.
use Rattle.std.specs.Prelude.{ℕ, Bool, List, IsTrue}
use Rattle.tf_core.specs.declared.ty.Ty.{Ty}
use Rattle.tf_core.specs.declared.nnf.Nnf.{Nnf}
use Rattle.tf_core.specs.declared.signature.Signature.{Signature}
use Rattle.tf_core.specs.Typing.{IsSignature, IsNnf}
use Rattle.tf_core.specs.Structures.{Typed, size_of, member_of, IsStructure}
use Rattle.tf_core.specs.Truth.{normal_truth}
use Rattle.fof_models.specs.Structures.{Untyped}
use Rattle.fof_models.specs.Truth.{truth}
use Rattle.tf_naked.specs.declared.position.Kind.{Kind}
use Rattle.enc_marks.specs.Choices.{Choices}
use Rattle.enc_marks.specs.Translation.{Numbers, formula}
use Rattle.tf_collapse.specs.Domain.{CollapsedDomain}
use Rattle.tf_collapse.specs.Premises.{IsPulledBack, IsOpen, Premises, AreBound}
use Rattle.tf_collapse.specs.Premises.{assigned_members, assigned_elements}

-- Each type is bare, guarded or tagged, by the choices. Where the collapsed assignment makes a
-- formula true in a typed structure, the assignment makes its translation true in the structure
-- over the collapsed domain whose tables are pulled back.
--
-- `is_bound` tells the free variables that their binders have bound: of a scheme that treats each
-- type in one way those of guarded types, of the feather schemes each by itself.
abbrev pub CollapseKeepsTruth : Type 0
CollapseKeepsTruth = (c : Choices) (k : Numbers) (g : Signature) (s : Typed) (d : CollapsedDomain)
    (j : Untyped) (variables depth : ℕ) (context : List Ty) (kinds : List Kind)
    (assignment : List ℕ) (is_bound : ℕ → Bool) (p : Nnf) →
    let members = assigned_members s variables depth assignment in
    IsSignature g → IsStructure g s → AreBound c → IsPulledBack c k g s d j →
    IsNnf g variables context p → IsOpen c k g s d j variables depth context assignment p →
    Premises c k g s d j context kinds assignment (λ ty. size_of s (member_of s members ty))
    is_bound p →
    IsTrue (normal_truth s members p (assigned_elements s members context assignment)) →
    IsTrue (truth j (formula c k g p depth kinds) assignment)
