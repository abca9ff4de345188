use Rattle.std.proofs.Common.{map, take}
use Rattle.tf_core.specs.Sorts.{joined}
use Rattle.enc_mono.specs.Instances.{symbol_instances}
use Rattle.enc_mono.specs.Calls.Numbered.{Lists}
use Rattle.enc_mono.proofs.listing.+list_instances.Given as goal

abbrev pub invariant-list_in_parts-loop-part : goal.invariant-list_in_parts-loop-part
invariant-list_in_parts-loop-part l =
    Lists (joined (map symbol_instances (take l.part-index l.parts))) l.initial.listed l.listed
