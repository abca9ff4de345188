use Rattle.tfenc_cases.proofs.untyped.put_written.Goals as goal

pub write_untyped-requires-clause-named : goal.write_untyped-requires-clause-named
write_untyped-requires-clause-named c = record {
  one_each = c.requires.named.one_each;
  differ = c.requires.named.differ;
  writable = c.requires.named.symbols;
}
