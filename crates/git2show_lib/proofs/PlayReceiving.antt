-- A packet received by a client, chunk by chunk.
use Rattle.std.proofs.Common.{arith, ◌≡◌, ℕ, ◌+◌, ◌≤◌, Bool, true, false, length, take, min, List, Option}
use Rattle.std.proofs.Common.{Err}
use Rattle.std.proofs.lemmas.List.{length-take, take_min}
use Rattle.git_pkt.specs.Streams.{flow}
use Rattle.git_pkt.specs.Machine.PacketReader.{ShownByFeed}
use Rattle.git_pkt.specs.declared.fault.Fault.{Fault}
use Rattle.git_pkt.specs.declared.fault.RunFault.{RunFault}
use Rattle.git_pkt.specs.declared.fault.RunFault.TheVariants.{ReadFault, WriteFault, ReadLimit, Refused}
use Rattle.git_client.specs.Machine.Client.{phase_of, wants_input}
use Rattle.git_client.specs.Machine.RunSteps.{ReceivesBytes, ReceivesChunkTo}
use Rattle.git_client.specs.declared.client.Client.{Client}
use Rattle.git_client.specs.declared.receiving.Counts.{Counts}
use Rattle.git_client.proofs.ReceivedBytes.{received_then}
use Rattle.git_client.proofs.Phases.{not_ready_where_expected}
use Rattle.git2show_lib.specs.Machine.PlaySteps.{silent}
use Rattle.git2show_lib.proofs.ChunkParts.{left_bytes, left_length}
use Rattle.git2show_lib.proofs.PlayAnnouncing.{next_chunk, chunk_joined}

module _ {A : Type 0} where
  module _ (packet : List ℕ) (done k : ℕ) (within : done ≤ length packet) (old b c : Client A) (counts now after : Counts)
      {out_before out pack_before pack : Option (List ℕ)} (waits : wants_input b ≡ true)
      (so_far : ReceivesBytes false old b counts now (take done packet) (flow out_before out) (flow pack_before pack) silent) where
    pub received_on : {out_after pack_after : Option (List ℕ)} (broken : Bool) (u : ℕ) → u ≤ length (next_chunk packet done k)
        → ReceivesBytes broken b c now after (take u (next_chunk packet done k)) (flow out out_after) (flow pack pack_after) silent
        → ReceivesBytes broken old c counts after (take (done + u) packet) (flow out_before out_after) (flow pack_before pack_after) silent
    received_on {out_after} {pack_after} broken u few step =
        rw (chunk_joined packet done k u within few) at (received_then (not_ready_where_expected (phase_of b) waits) so_far step)

    -- a fault that a chunk shows is one that the packet shows
    shown_on : (fault : Fault) (u : ℕ) → ShownByFeed fault u (next_chunk packet done k)
        → ShownByFeed fault (done + min u (length (next_chunk packet done k))) packet
    shown_on fault u shown = record {
      not_the_end = shown.not_the_end;
      one_more = λ late. omega (arith, shown.one_more late, length-take k (left_bytes packet done), left_length packet done within);
    }

    -- the receiving of a chunk stopped
    pub receiving_ended : (out_after pack_after : Option (List ℕ)) (fault : RunFault)
        → ReceivesChunkTo (Err fault) b c now after (next_chunk packet done k) (flow out out_after) (flow pack pack_after) silent
        → ReceivesChunkTo (Err fault) old c counts after packet (flow out_before out_after) (flow pack_before pack_after) silent
    receiving_ended out_after pack_after ReadFault step = absurd step
    receiving_ended out_after pack_after ReadLimit step = absurd step
    receiving_ended out_after pack_after WriteFault step = record {
      used = done + min step.used (length (next_chunk packet done k));
      arrives = received_on true (min step.used (length (next_chunk packet done k))) (omega arith)
          (rw (take_min step.used (next_chunk packet done k)) step.arrives);
      shown = λ fault failed. shown_on fault step.used (step.shown fault failed);
    }
    receiving_ended out_after pack_after (Refused fault) step = record {
      used = done + min step.used (length (next_chunk packet done k));
      arrives = received_on false (min step.used (length (next_chunk packet done k))) (omega arith)
          (rw (take_min step.used (next_chunk packet done k)) step.arrives);
      announced = step.announced;
      shown = shown_on fault step.used step.shown;
    }
