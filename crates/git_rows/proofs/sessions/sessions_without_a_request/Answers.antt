use Rattle.std.proofs.Common.{◌≡◌, Bool, true, false, [], ◌∷◌, codes, refl}
use Rattle.git_names.specs.Digits.{lower_digit}
use Rattle.git_pkt.specs.Packets.{flush}
use Rattle.git_pkt.proofs.Spelling.{none_begins_nothing}
use Rattle.git_server.specs.Sessions.{IsSession}
use Rattle.git_server.specs.declared.outcome.Outcome.TheVariants.{Closed, Flush}
use Rattle.git_server.proofs.OneOutcome.{one_outcome}
use Rattle.git_rows.specs.Worked.{at}
use Rattle.git_rows.specs.WorkedSessions.{setting}
use Rattle.git_rows.proofs.WrittenPackets.{splits_written}
use Rattle.git_rows.proofs.sessions.sessions_without_a_request.Goals as goal

left : (over : Bool) → IsSession setting (codes "0000") over [] Flush
unfolding lower_digit
left over = record {
  asked = [];
  left = at 0 flush ∷ [];
  rest = [];
  answers = [];
  stream = record { packets = at 0 flush ∷ []; splits = splits_written 0 (flush ∷ []) [] refl none_begins_nothing; requests = refl };
  ends = (record { last = at 0 flush; alone = refl; ends = refl }, refl);
  answered = refl;
  tail = [];
  is_tail = refl;
  given_is = refl;
  fit = tt;
}

pub returns-clause-left : goal.returns-clause-left
returns-clause-left c = left false

pub returns-clause-not_both : goal.returns-clause-not_both
returns-clause-not_both c = λ h.
    let same : Closed ≡ Flush = one_outcome setting (codes "0000") true [] [] Closed Flush h (left true)
    (record { by_memory = λ w. w; by_pack = λ w. w }) (record { by_memory = λ w. w; by_pack = λ w. w }) in
    cc
