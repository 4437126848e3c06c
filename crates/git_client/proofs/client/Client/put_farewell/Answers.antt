use Rattle.std.proofs.Common.{arith, ◌≡◌, ◌++◌, ◌*◌, List, ℕ, [], ap, append_assoc, length, refl, subst, sym, ◌∙◌}
use Rattle.git_pkt.specs.Packets.{flush}
use Rattle.git_pkt.specs.Machine.LentHold.{with_hold}
use Rattle.git_pkt.proofs.OpenLengths.{shut_counts_none}
use Rattle.git_client.specs.Machine.Client.{Goes, StandsIn, phase_of, reader_of, request_of, spelled}
use Rattle.git_client.specs.Machine.Turns.{fault_in, has_left_in, left_in, question_in, takes_packets}
use Rattle.git_client.specs.declared.phase.Phase.{Phase}
use Rattle.git_client.specs.declared.phase.Phase.TheVariants.{Leaving}
use Rattle.git_client.proofs.Questions.{lent}
use Rattle.git_client.proofs.client.Client.put_farewell.Goals as goal

pub returns : goal.returns
returns g c =
    let old = c.args.self.now in
    let was : phase_of old ≡ Leaving = c.requires in
    let reader = lent old.reader c.put.new.hold (omega (arith, c.hold.ensures.fits, ap length c.hold.ensures.value))
    (old.shut (ap fault_in was) (ap takes_packets was)) in
    let written = reader.1 ∙ c.put.ensures in
    let unsent = ap (λ (phase : Phase). left_in phase (request_of old)) was in
    record {
      conveys = λ t h k.
          let goes : Goes t h.asked k.clean k.given k.rest (question_in (request_of old)) Leaving (reader_of old) =
          subst (λ (phase : Phase). StandsIn phase t h.asked k.clean k.given k.rest (length h.used) (question_in (request_of old)) (reader_of old))
          was k.stands in
          record {
            given = k.given;
            rest = k.rest;
            clean = k.clean;
            format_is = k.format_is;
            ending_is = k.ending_is;
            agent_is = k.agent_is;
            reads = reader.0.reads 0 h.used k.given k.rest k.reads;
            whole = k.whole;
            gives = k.gives;
            events_are = k.events_are;
            notes = k.notes;
            stands = record { cut = goes.cut; sound = reader.0.fault ∙ goes.sound; behind = goes.behind; shut = λ _. goes.shut refl };
            left = k.left ∙ ap has_left_in was;
            spoken = append_assoc h.given _ []
                ∙ ap (λ (bytes : List ℕ). h.given ++ (bytes ++ [])) written
                ∙ ap (λ packets. h.given ++ spelled packets) (sym unsent) ∙ k.spoken;
          };
      gives = record {
        packet = flush;
        first = unsent;
        written = written;
        same_leaving = sym (ap has_left_in was);
        sound = refl;
        not_ready = refl;
      };
      credit = ap (λ (n : ℕ). 56 * n) (shut_counts_none (with_hold old.reader c.put.new.hold) reader.2);
    }
