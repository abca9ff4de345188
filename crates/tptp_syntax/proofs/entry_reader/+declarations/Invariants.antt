use Rattle.std.proofs.Common.{◌+◌, ◌*◌}
use Rattle.tptp_syntax.proofs.entry_reader.+declarations.Given as goal

abbrev pub decreases-declaration_inside : goal.decreases-declaration_inside
decreases-declaration_inside l = 2 * l.left

abbrev pub decreases-declaration : goal.decreases-declaration
decreases-declaration l = 2 * l.left + 1
