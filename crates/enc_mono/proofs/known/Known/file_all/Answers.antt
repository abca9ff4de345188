use Rattle.std.proofs.Common.{refl, length}
use Rattle.enc_mono.specs.Calls.Known.{IsNamed, index_in}
use Rattle.enc_mono.proofs.CountedEntries.{item_has}
use Rattle.enc_mono.proofs.Filed.{Files-nothing, Files-next, Files-all, named_still}
use Rattle.enc_mono.proofs.known.Known.file_all.Goals as goal

pub loop-ty-init : goal.loop-ty-init
loop-ty-init c = record {
  kept = c.requires.kept;
  count = refl;
  files = λ origins are. Files-nothing c.args.self.now c.requires.kept;
}

pub file-requires-clause-named : goal.file-requires-clause-named
file-requires-clause-named c =
    named_still (length (index_in c.args.self.now)) (length (index_in c.loop-ty.self))
    c.loop-ty.invariant.count c.ty-item.result
    (item_has (IsNamed (length (index_in c.args.self.now))) c.args.instances.now
    c.loop-ty.ty-index c.ty-item.result c.requires.named c.loop-ty-test.true c.ty-item.is)

pub loop-ty-preserved : goal.loop-ty-preserved
loop-ty-preserved c =
    let next = Files-next c.args.instances.now c.loop-ty.ty-index c.ty-item.result
    c.args.self.now c.loop-ty.self c.file.new.self c.loop-ty-test.true c.ty-item.is
    c.loop-ty.invariant.files c.in_ok-file.ensures in
    let some = next c.requires.instances.0 c.requires.instances.1 in
    record { kept = some.kept; count = some.count; files = next }

pub returns : goal.returns
returns c origins are =
    Files-all c.args.instances.now origins are c.loop-ty.ty-index c.args.self.now c.loop-ty.self
    c.loop-ty-test.false (c.loop-ty.invariant.files origins are)
