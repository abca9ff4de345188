use Rattle.std.proofs.Common.{map, take}
use Rattle.tf_core.specs.Sorts.{joined}
use Rattle.enc_mono.specs.Instances.{term_instances}
use Rattle.enc_mono.specs.Calls.Numbered.{Lists}
use Rattle.enc_mono.proofs.listing.+list_in_term.Given as goal

abbrev pub invariant-list_in_terms-loop-term : goal.invariant-list_in_terms-loop-term
invariant-list_in_terms-loop-term l =
    Lists (joined (map term_instances (take l.term-index l.terms))) l.initial.listed l.listed
