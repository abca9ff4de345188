use Rattle.std.proofs.Common.{ℕ, ◌≡◌, map, take}
use Rattle.enc_marks.specs.Axioms.{own_types}
use Rattle.enc_marks.specs.Translation.{selected, type_term}
use Rattle.enc_marks.proofs.axioms.own_types_kept.Given as goal

abbrev pub invariant-loop-i : goal.invariant-loop-i
invariant-loop-i l =
    (number : ℕ → ℕ) →
    l.made ≡ map (type_term number l.depth) (selected l.kept (take l.i (own_types l.symbol)))
