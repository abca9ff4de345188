use Rattle.std.proofs.Common.{◌≡◌, ◌≤◌, count_by, take}
use Rattle.enc_models.proofs.kept.count_kept.Given as goal

abbrev pub invariant-loop-is_kept : goal.invariant-loop-is_kept
invariant-loop-is_kept l =
    (l.count ≡ count_by (λ kept. kept) (take l.is_kept-index l.kept)) × (l.count ≤ l.is_kept-index)
