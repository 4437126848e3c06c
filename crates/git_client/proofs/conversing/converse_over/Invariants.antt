use Rattle.std.proofs.Common.{◌≡◌, ◌≤◌, ◌++◌, length, true, false}
use Rattle.std.specs.Vec.Iter.{into_iter_items, into_iter_len}
use Rattle.git_pkt.specs.Machine.Recorded.{inner_of, reads_of, has_failed, has_ended, has_wasted}
use Rattle.git_pkt.specs.Streams.{flow}
use Rattle.git_loop.specs.OneStreams.{HaveSameReader, reader_of, waiting_in}
use Rattle.git_client.specs.Parts.{Terms}
use Rattle.git_client.specs.Machine.Client.{History, Converses, nothing_yet, can_ask}
use Rattle.git_client.specs.Machine.RunSteps.{no_counts}
use Rattle.git_client.specs.Machine.Running.{Running}
use Rattle.git_client.proofs.conversing.converse_over.Given as goal

-- The requests taken off the vector were asked, and each of their responses was received whole. The bytes that wait in the input are those that
-- were read and not used.
abbrev pub invariant-loop-request : goal.invariant-loop-request
invariant-loop-request g l = record {
  runs : (t : Terms) → Converses t nothing_yet l.fn.client
      → (h : History) × Running false t h l.yielded l.client no_counts (waiting_in l.input)
      (flow (g.R.Read.remaining (inner_of (reader_of l.fn.input))) (g.R.Read.remaining (inner_of (reader_of l.input))))
      (flow (g.W.Write.contents (inner_of l.fn.writer)) (g.W.Write.contents (inner_of l.writer)))
      (flow (g.O.Write.contents (inner_of l.fn.out)) (g.O.Write.contents (inner_of l.out)))
      (flow (g.P.Write.contents (inner_of l.fn.pack)) (g.P.Write.contents (inner_of l.pack)))
      (flow (g.E.Output.contents l.fn.progress) (g.E.Output.contents l.progress));
  ready : can_ask l.client ≡ true;
  left_to_ask : l.fn.requests.items ≡ l.yielded ++ into_iter_items l.request-iterator;
  counted : into_iter_len l.request-iterator ≡ length (into_iter_items l.request-iterator);
  reads : reads_of (reader_of l.input) ≤ l.turns;
  sound_reader : has_failed (reader_of l.input) ≡ false;
  open_ended : has_ended (reader_of l.input) ≡ false;
  useful : has_wasted (reader_of l.input) ≡ false;
  sound_writer : has_failed l.writer ≡ false;
  sound_out : has_failed l.out ≡ false;
  sound_pack : has_failed l.pack ≡ false;
  sound_progress : g.E.Output.failed l.progress ≡ false;
  same_reader : HaveSameReader l.fn.input l.input;
}
