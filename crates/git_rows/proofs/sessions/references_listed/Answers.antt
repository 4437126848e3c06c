use Rattle.std.proofs.Common.{◌≡◌, ℕ, true, List, [], ◌∷◌, ◌++◌, codes, refl, ap, sym, subst, ◌∙◌}
use Rattle.git_names.specs.Digits.{lower_digit}
use Rattle.hex.specs.Hex.{encode_with}
use Rattle.git_pkt.specs.Packets.{Pkt, flush}
use Rattle.git_pkt.specs.Splits.{Given}
use Rattle.git_pkt.proofs.Streams.{one_split}
use Rattle.git_msg.specs.Asked.{Asked, ls_refs}
use Rattle.git_msg.specs.WholeRequests.{AreRequests}
use Rattle.git_msg.specs.WrittenRequest.{text_line}
use Rattle.git_server.specs.Answers.{ls_refs_answer, spelled}
use Rattle.git_server.specs.Sessions.{AreAnswers, IsRequest, IsSession}
use Rattle.git_server.specs.declared.outcome.Outcome.TheVariants.{Closed, Flush}
use Rattle.git_server.proofs.OneOutcome.{one_outcome}
use Rattle.git_server.proofs.OneSession.{no_request, one_list}
use Rattle.git_rows.specs.Worked.{all_a, all_b, ls_refs_of}
use Rattle.git_rows.specs.WorkedSessions.{listed_bytes, ls_refs_bytes, repo, setting}
use Rattle.git_rows.proofs.ServedRequests.{ls_refs_stream}
use Rattle.git_rows.proofs.TextsByComputing.{differ}
use Rattle.git_rows.proofs.WrittenPackets.{fit_by}
use Rattle.git_rows.proofs.sessions.references_listed.Goals as goal

abbrev listed : List Pkt
listed = text_line (all_a ++ codes " HEAD") ∷ text_line (all_b ++ codes " refs/tags/v1") ∷ flush ∷ []

answered : IsSession setting ls_refs_bytes true listed_bytes Closed
unfolding encode_with lower_digit
answered = record {
  asked = ls_refs (ls_refs_of []) ∷ [];
  left = [];
  rest = [];
  answers = listed;
  stream = ls_refs_stream;
  ends = (refl, refl, refl);
  answered = (listed, [], refl, refl, refl);
  tail = [];
  is_tail = refl;
  given_is = refl;
  fit = fit_by listed refl;
}

-- the answer to one request for references
one_answer : (answers : List Pkt) → AreAnswers repo (ls_refs (ls_refs_of []) ∷ []) answers → answers ≡ ls_refs_answer (ls_refs_of []) repo
one_answer answers (answer, more, parts, is, ends) =
    parts ∙ ap (λ (ps : List Pkt). ps ++ more) is ∙ ap (λ (ps : List Pkt). ls_refs_answer (ls_refs_of []) repo ++ ps) ends

-- if the input ends after these bytes, there is no other output
only_output : (given : List ℕ) → IsSession setting ls_refs_bytes true given Closed → given ≡ listed_bytes
unfolding encode_with lower_digit
only_output given h =
    let split = one_split 0 ls_refs_bytes h.stream.packets ls_refs_stream.packets h.rest [] h.stream.splits.spelled ls_refs_stream.splits.spelled
    h.stream.splits.ends ls_refs_stream.splits.ends in
    let asked : h.asked ≡ ls_refs (ls_refs_of []) ∷ [] =
    (one_list setting ls_refs_stream.packets h.asked (ls_refs (ls_refs_of []) ∷ []) [] [] (no_request setting [] tt) (no_request setting [] tt)
    (subst (λ (gs : List Given). AreRequests (IsRequest setting) gs h.asked []) split.packets
    (subst (λ (gs : List Given). AreRequests (IsRequest setting) h.stream.packets h.asked gs) h.ends.1 h.stream.requests)) ls_refs_stream.requests).0 in
    let answers = one_answer h.answers (subst (λ (qs : List Asked). AreAnswers repo qs h.answers) asked h.answered) in
    h.given_is ∙ ap (λ (ps : List Pkt). spelled (ps ++ h.tail)) answers
    ∙ ap (λ (ps : List Pkt). spelled (ls_refs_answer (ls_refs_of []) repo ++ ps)) (sym h.is_tail)

pub returns-clause-answered : goal.returns-clause-answered
returns-clause-answered c = answered

pub returns-clause-not_unanswered : goal.returns-clause-not_unanswered
returns-clause-not_unanswered c = λ h. differ [] listed_bytes refl (only_output [] h)

pub returns-clause-not_without_the_tag : goal.returns-clause-not_without_the_tag
returns-clause-not_without_the_tag c = λ h.
    differ (codes "0032" ++ all_a ++ codes " HEAD\n0000") listed_bytes refl (only_output (codes "0032" ++ all_a ++ codes " HEAD\n0000") h)

pub returns-clause-not_left : goal.returns-clause-not_left
returns-clause-not_left c = λ h.
    let same : Flush ≡ Closed = one_outcome setting ls_refs_bytes true listed_bytes listed_bytes Flush Closed h answered
    (record { by_memory = λ w. w; by_pack = λ w. w }) (record { by_memory = λ w. w; by_pack = λ w. w }) in
    cc
