-- What was sent, one packet more at a time.
use Rattle.std.proofs.Common.{◌≡◌, ◌≤◌, length, ℕ, List, [], ◌∷◌, ◌++◌, refl, sym, ap, ◌∙◌, append_assoc, append-nil, subst, inl, inr}
use Rattle.std.proofs.lemmas.Grind.{flat_map-append}
use Rattle.git_pkt.specs.Packets.{Pkt, spelling_of, body_of, longest_payload}
use Rattle.git_msg.specs.Asked.{Asked}
use Rattle.git_server.specs.Packs.{Manner, whole}
use Rattle.git_server.specs.Answers.{AllFit, spelled, IsAnswer, IsAnswerAs}
use Rattle.git_server.specs.Sessions.{Setting, IsAnswering, IsSent, AreAnswers, advertised}
use Rattle.git_server.specs.Repository.{Repository}

pub spelled_both : (front back : List Pkt) → spelled (front ++ back) ≡ spelled front ++ spelled back
spelled_both front back = flat_map-append spelling_of front back

pub spelled_one : (sent : List Pkt) (packet : Pkt) → spelled (sent ++ packet ∷ []) ≡ spelled sent ++ spelling_of packet
spelled_one sent packet = spelled_both sent (packet ∷ []) ∙ ap (λ (l : List ℕ). spelled sent ++ l) (append-nil (spelling_of packet))

pub fit_more : (sent : List Pkt) (packet : Pkt) → AllFit sent → length (body_of packet) ≤ longest_payload → AllFit (sent ++ packet ∷ [])
fit_more [] packet h fits = (fits, tt)
fit_more (p ∷ ps) packet h fits = (h.0, fit_more ps packet h.1 fits)

-- one more answer
pub answers_more : (repo : Repository) (asked : List Asked) (packets : List Pkt) (q : Asked) (answer : List Pkt)
    → AreAnswers repo asked packets → IsAnswer repo q answer
    → AreAnswers repo (asked ++ q ∷ []) (packets ++ answer)
answers_more repo [] packets q answer none is =
    (answer, [], ap (λ (l : List Pkt). l ++ answer) none ∙ sym (append-nil answer), is, refl)
answers_more repo (p ∷ ps) packets q answer (first, more, parts, is_first, rest) is =
    (first, more ++ answer, ap (λ (l : List Pkt). l ++ answer) parts ∙ append_assoc first more answer, is_first, answers_more repo ps more q answer rest is)

-- one packet of the pending answer was sent
pub answering_one : (manner : Manner) (s : Setting) (asked : List Asked) (sent unsent : List Pkt) (packet : Pkt)
    → IsAnswering manner s asked sent (packet ∷ unsent) → IsAnswering manner s asked (sent ++ packet ∷ []) unsent
answering_one manner s asked sent unsent packet h =
    record {
      earlier = h.earlier;
      last = h.last;
      answers = h.answers;
      front = h.front ++ packet ∷ [];
      whole = h.whole;
      answered = h.answered;
      answer = subst (IsAnswerAs manner s.repo h.last) (sym (append_assoc h.front (packet ∷ []) unsent)) h.answer;
      sent_is = ap (λ (l : List Pkt). l ++ packet ∷ []) h.sent_is ∙ append_assoc (advertised s ++ h.answers) h.front (packet ∷ []);
    }

-- one pending packet was sent
pub sent_one : (s : Setting) (asked : List Asked) (sent unsent : List Pkt) (packet : Pkt)
    → IsSent s asked sent (packet ∷ unsent) → IsSent s asked (sent ++ packet ∷ []) unsent
sent_one s asked sent unsent packet (inl h) = inl (record { none = h.none; parts = append_assoc sent (packet ∷ []) unsent ∙ h.parts })
sent_one s asked sent unsent packet (inr h) = inr (answering_one whole s asked sent unsent packet h)

-- what was sent and what is pending are the advertisement and an answer to each request
pub record IsWhole (s : Setting) (asked : List Asked) (sent unsent : List Pkt) : Type 0 where
  pub answers : List Pkt
  pub answered : AreAnswers s.repo asked answers
  pub parts : sent ++ unsent ≡ advertised s ++ answers

pub is_whole : (s : Setting) (asked : List Asked) (sent unsent : List Pkt) → IsSent s asked sent unsent → IsWhole s asked sent unsent
is_whole s asked sent unsent (inl h) =
    record {
      answers = [];
      answered = subst (λ (qs : List Asked). AreAnswers s.repo qs []) (sym h.none) refl;
      parts = h.parts ∙ sym (append-nil (advertised s));
    }
is_whole s asked sent unsent (inr h) =
    record {
      answers = h.answers ++ (h.front ++ unsent);
      answered = subst (λ (qs : List Asked). AreAnswers s.repo qs (h.answers ++ (h.front ++ unsent)))
          (sym h.whole) (answers_more s.repo h.earlier h.answers h.last (h.front ++ unsent) h.answered h.answer);
      parts = ap (λ (l : List Pkt). l ++ unsent) h.sent_is ∙ append_assoc (advertised s ++ h.answers) h.front unsent
          ∙ append_assoc (advertised s) h.answers (h.front ++ unsent);
    }

-- all was sent: the advertisement, and an answer to each request
pub record AllSent (s : Setting) (asked : List Asked) (sent : List Pkt) : Type 0 where
  pub answers : List Pkt
  pub answered : AreAnswers s.repo asked answers
  pub sent_is : sent ≡ advertised s ++ answers

pub all_sent : (s : Setting) (asked : List Asked) (sent : List Pkt) → IsSent s asked sent [] → AllSent s asked sent
all_sent s asked sent h =
    let whole = is_whole s asked sent [] h in
    record { answers = whole.answers; answered = whole.answered; sent_is = sym (append-nil sent) ∙ whole.parts }

-- a further request was asked, and its answer is pending
pub one_more_asked : (manner : Manner) (s : Setting) (asked : List Asked) (sent unsent : List Pkt) (q : Asked) → IsSent s asked sent []
    → IsAnswerAs manner s.repo q unsent → IsAnswering manner s (asked ++ q ∷ []) sent unsent
one_more_asked manner s asked sent unsent q before is =
    let all = all_sent s asked sent before in
    record {
      earlier = asked;
      last = q;
      answers = all.answers;
      front = [];
      whole = refl;
      answered = all.answered;
      answer = is;
      sent_is = all.sent_is ∙ sym (append-nil (advertised s ++ all.answers));
    }
