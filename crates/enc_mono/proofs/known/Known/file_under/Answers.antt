use Rattle.std.proofs.Common.{refl, length}
use Rattle.tf_types.proofs.Numbers.{AreNumbers-extended, Extends-itself}
use Rattle.enc_mono.specs.Calls.Known.{IsNamed, index_in}
use Rattle.enc_mono.proofs.CountedEntries.{item_has}
use Rattle.enc_mono.proofs.Filed.{Files-nothing, Files-next_under, Files-all_under, named_still}
use Rattle.enc_mono.proofs.known.Known.file_under.Goals as goal

pub loop-pattern-init : goal.loop-pattern-init
loop-pattern-init c = record {
  kept = c.requires.kept;
  grown = Extends-itself c.args.self.now.table;
  count = refl;
  files = λ origins are. Files-nothing c.args.self.now c.requires.kept;
}

pub file_instance-requires-clause-numbers : goal.file_instance-requires-clause-numbers
file_instance-requires-clause-numbers c =
    AreNumbers-extended c.args.self.now.table c.loop-pattern.self.table
    c.loop-pattern.invariant.grown c.args.types.now c.requires.numbers

pub file_instance-requires-clause-named : goal.file_instance-requires-clause-named
file_instance-requires-clause-named c =
    named_still (length (index_in c.args.self.now)) (length (index_in c.loop-pattern.self))
    c.loop-pattern.invariant.count c.pattern-item.result
    (item_has (IsNamed (length (index_in c.args.self.now))) c.args.patterns.now
    c.loop-pattern.pattern-index c.pattern-item.result c.requires.named
    c.loop-pattern-test.true c.pattern-item.is)

pub loop-pattern-preserved : goal.loop-pattern-preserved
loop-pattern-preserved c =
    let next = Files-next_under c.args.patterns.now c.loop-pattern.pattern-index
    c.pattern-item.result c.args.types.now c.args.self.now c.loop-pattern.self
    c.file_instance.new.self c.requires.numbers c.loop-pattern.invariant.grown
    c.loop-pattern-test.true c.pattern-item.is c.loop-pattern.invariant.files
    c.in_ok-file_instance.ensures in
    let some = next c.requires.instances.0 c.requires.instances.1 in
    record { kept = some.kept; grown = some.grown; count = some.count; files = next }

pub returns : goal.returns
returns c origins are =
    Files-all_under c.args.patterns.now origins are c.args.types.now
    c.loop-pattern.pattern-index c.args.self.now c.loop-pattern.self
    c.loop-pattern-test.false (c.loop-pattern.invariant.files origins are)
