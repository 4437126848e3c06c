use Rattle.std.proofs.Common.{◌≡◌, take}
use Rattle.git_trace.proofs.Feeding.{Took}
use Rattle.git_trace.proofs.trace_texts.TraceReader.feed.Given as goal

-- the bytes before this one were taken
abbrev pub invariant-bytes : goal.invariant-bytes
invariant-bytes l = record {
  took : Took l.fn.self.look l.fn.self.begun.items l.fn.out.items l.fn.self.has_packets (take l.byte-index l.chunk) l.self.begun.items l.out.items
      l.self.has_packets;
  look : l.self.look ≡ l.fn.self.look;
}
