use Rattle.model_tables.specs.ReadTyped.{IsKept, Answer, IsReading, missing_in}
use Rattle.model_tables.proofs.known.Known.read_items.Given as goal

-- the answer is that from here on, with what is kept so far
abbrev pub invariant-items : goal.invariant-items
invariant-items l = record {
  reading : (whole : Answer)
      → IsReading l.self.signature.now l.total whole l.fn.reader l.fn.part
      → IsReading l.self.signature.now l.total whole l.reader l.part;
  kept : IsKept l.self.signature.now l.part;
}

abbrev pub decreases-items : goal.decreases-items
decreases-items l = missing_in l.part
